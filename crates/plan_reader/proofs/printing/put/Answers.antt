use Rattle.std.proofs.Common.{◌∙◌, ap, ℕ, List}
use Rattle.toml.specs.View.{view, members_view}
use Rattle.plan_reader.specs.Printed.{put_member}
use Rattle.plan_reader.proofs.PrintSteps.{inserted}
use Rattle.plan_reader.proofs.printing.put.Goals as goal

pub returns : goal.returns
returns c =
    ap members_view c.in_ok-insert.ensures.entries ∙ inserted c.in_ok-name.name c.args.value c.args.table.now.entries
    ∙ ap (λ (name : List ℕ). put_member name (view c.args.value) (members_view c.args.table.now.entries)) (c.in_ok-name.ensures.ok ∙ c.key_text.ensures)
