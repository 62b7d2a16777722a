use Rattle.toml.specs.View.{table_view}
use Rattle.plan_reader.proofs.PrintSteps.{printed-copied}
use Rattle.plan_reader.proofs.printing.plan_text.Goals as goal

pub returns-in-Ok : goal.returns-in-Ok
returns-in-Ok c =
    printed-copied c.args.version c.args.plan.now c.copied.result c.as_str.result.now _ (table_view c.in_ok-table.table) c.requires c.copied.ensures c.as_str.ensures.value c.as_str.utf8 c.in_ok-table.ensures c.in-Ok.ensures.reads_back
