use Rattle.command_files.proofs.OnePlanAnswer.{refused_once}
use Rattle.command_files.proofs.AcceptSteps.{same_plan, accepted_isnt_refused}
use Rattle.command_files.proofs.laws.law_of_one_answer.Goals as goal

pub returns : goal.returns
returns c = λ name files. record {
  accepted = λ a b x y. same_plan name files a b x.says y.says;
  refused = refused_once name files;
  apart = accepted_isnt_refused name files;
}
