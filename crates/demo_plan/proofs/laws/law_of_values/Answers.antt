use Rattle.demo_plan.specs.Drawn.{state_drawn}
use Rattle.demo_plan.proofs.Values.{samples_fit, value_small, count_is, count_few, values_all}
use Rattle.demo_plan.proofs.laws.law_of_values.Goals as goal

pub returns : goal.returns
returns c = record {
  samples = λ number. samples_fit (state_drawn number) 100000;
  small = value_small;
  count = count_is;
  few = count_few;
  all = values_all;
}
