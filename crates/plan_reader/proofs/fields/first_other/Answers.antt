use Rattle.plan_reader.proofs.TableSteps.{first_other-found}
use Rattle.plan_reader.proofs.fields.first_other.Goals as goal

pub returns : goal.returns
returns c = first_other-found c.args.keys.now c.find_other.result c.args.table.now.entries c.find_other.ensures
