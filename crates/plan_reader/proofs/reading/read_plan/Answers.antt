use Rattle.toml.specs.View.{table_view}
use Rattle.plan_reader.proofs.Refusals.{answered}
use Rattle.plan_reader.proofs.VersionSteps.{answered-versioned}
use Rattle.plan_reader.proofs.reading.read_plan.Goals as goal

pub returns-in-Ok-clause-says : goal.returns-in-Ok-clause-says
returns-in-Ok-clause-says c = answered c.args.bytes.now (table_view c.in-Ok.table) c.plan_of.result c.in-Ok.ensures.ok.0 c.in-Ok.ensures.ok.1 c.plan_of.ensures

pub returns-in-Ok-clause-versioned : goal.returns-in-Ok-clause-versioned
returns-in-Ok-clause-versioned c = answered-versioned c.args.bytes.now c.plan_of.result (answered c.args.bytes.now (table_view c.in-Ok.table) c.plan_of.result c.in-Ok.ensures.ok.0 c.in-Ok.ensures.ok.1 c.plan_of.ensures)
