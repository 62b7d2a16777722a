use Rattle.std.proofs.Common.{rules, ◌≡◌, ◌∙◌, ap, arith, sym, subst, ℕ, ◌+◌, pos}
use Rattle.std.proofs.Math.Path.{fun_ext}
use Rattle.std.proofs.lemmas.Int.{to_z-of_z}
use Rattle.std.proofs.lemmas.Option.{slice_get_within}
use mir.Syntax.{w128}
use mir.Val.{SFits}
use Rattle.net_graph.specs.declared.cell.Cell.{Cell}
use Rattle.net_graph.specs.declared.cell.Node.{Node}
use Rattle.net_graph.specs.declared.name.NameKind.TheVariants.{Table}
use Rattle.net_graph.specs.Grow.{IsNamedAs}
use Rattle.net_graph.specs.WellFormed.{IsFree}
use Rattle.net_graph.proofs.CellLemmas.{cell_at-is}
use Rattle.pipeline_balance.specs.Numbered.{name_of}
use Rattle.span_ranges.proofs.SumLemmas.{high_end-turned}
use Rattle.distributed_table.specs.Choices.{AddsChoices}
use Rattle.distributed_table.specs.Copies.{node_at}
use Rattle.distributed_table.proofs.ChoiceLemmas.{AddsTable-named, SumsFit-all}
use Rattle.distributed_table.proofs.choices.add_table.Goals as goal

pub add_choices-requires-clause-fits : goal.add_choices-requires-clause-fits
add_choices-requires-clause-fits c =
    let low : SFits w128 c.least_sum.result = search rules in
    let high : SFits w128 c.least_sum-2.result = search rules in
    SumsFit-all c.least_width-width.result c.args.taps.now c.least_sum.result c.least_sum-2.result c.least_sum.ensures (c.least_sum-2.ensures ∙ high_end-turned c.args.taps.now (pos 0) (pos 1)) (simp to_z-of_z at c.least_width-width.ensures)

pub name_node-requires-clause-has_node : goal.name_node-requires-clause-has_node
name_node-requires-clause-has_node c = let p = c.in_ok-root.ensures.ok in slice_get_within _ _ p.cell p.there

pub name_node-requires-clause-nameless : goal.name_node-requires-clause-nameless
name_node-requires-clause-nameless c = let p = c.in_ok-root.ensures.ok in ap (λ (cell : Cell). cell.name) (cell_at-is c.add_choices.new.net.cells c.in_ok-root.root.place p.cell p.there) ∙ p.nameless

pub name_node-requires-clause-free : goal.name_node-requires-clause-free
name_node-requires-clause-free c =
    let same : c.args.net.now.group ≡ c.group-group.result = sym (c.group-group.ensures ∙ c.in_ok-root.ensures.group) in
    subst (λ (g : ℕ). IsFree c.add_choices.new.net.cells (name_of g Table c.args.number)) same (c.in_ok-root.ensures.ok.part.names.free (name_of c.args.net.now.group Table c.args.number) (λ no. no) c.requires.free)

pub returns-clause-ok : goal.returns-clause-ok
returns-clause-ok c =
    let same : c.group-group.result ≡ c.args.net.now.group = c.group-group.ensures ∙ c.in_ok-root.ensures.group in
    let address = c.args.address.now in
    let on : (λ (k : ℕ). node_at address (0 + k)) ≡ node_at address = fun_ext (λ k. ap (node_at address) (zero_more k)) in
    let choices = subst (λ (f : ℕ → Node). AddsChoices c.args.net.now c.add_choices.new.net c.args.taps.now f (pos 0) c.least_width-width.result c.in_ok-root.root) on c.in_ok-root.ensures.ok in
    let named = subst (λ (g : ℕ). IsNamedAs c.add_choices.new.net c.name_node.new.self c.in_ok-root.root (name_of g Table c.args.number)) same c.name_node.ensures in
    AddsTable-named c.requires.data_group choices named
  where
    zero_more : (k : ℕ) → 0 + k ≡ k
    zero_more k = omega arith

pub returns-clause-extends : goal.returns-clause-extends
returns-clause-extends c = (returns-clause-ok c).part.grows.extends
