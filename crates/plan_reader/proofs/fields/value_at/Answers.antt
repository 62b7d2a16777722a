use Rattle.std.proofs.Common.{subst, ℕ, List, ◌≡◌, option_map}
use Rattle.toml.specs.Data.{get_member}
use Rattle.toml.specs.View.{view, members_view}
use Rattle.toml.proofs.Views.{table_get}
use Rattle.plan_reader.proofs.fields.value_at.Goals as goal

pub returns : goal.returns
returns c =
    subst (λ (name : List ℕ). option_map (λ x. view x.now) c.get.result ≡ get_member name (members_view c.args.table.now.entries)) c.key_text.ensures
    (table_get c.get.result c.key_text.result.now c.args.table.now.entries c.get.ensures.value)
