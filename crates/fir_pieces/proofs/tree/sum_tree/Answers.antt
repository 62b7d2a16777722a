use Rattle.std.proofs.Common.{◌∙◌, ℕ, ap, arith, length, map, subst, List}
use Rattle.net_graph.specs.declared.cell.Node.{Node}
use Rattle.pipeline_balance.specs.Tree.{IsTree}
use Rattle.fir_pieces.specs.declared.held.Held.{Held}
use Rattle.fir_pieces.specs.Placed.{leaf_of}
use Rattle.fir_pieces.proofs.WidthsLemmas.{AreTreeWidths-held, tree_held_every}
use Rattle.fir_pieces.proofs.SumLemmas.{wide_all, root_narrow}
use Rattle.fir_pieces.proofs.tree.sum_tree.Goals as goal

pub tree_held-requires-clause-fits : goal.tree_held-requires-clause-fits
tree_held-requires-clause-fits g c = rw c.as_slice-readings.ensures.value c.requires.ready.fits

pub tree_over-requires-clause-wide : goal.tree_over-requires-clause-wide
tree_over-requires-clause-wide g c =
    let streams = g.R.Ranges.streams c.args.ranges.now in
    let late = c.every_beat-beat.ensures.lag in
    let ticks = c.from.ensures in
    let held_are = tree_held_every streams c.args.shown.now.readings.items c.args.shown.now.ticks c.args.terms.now c.args.levels c.every_beat-beat.ensures.class (omega (arith, late, ticks)) c.as_slice-readings.ensures.value c.in_ok-held.ensures in
    let widths_are = c.in_ok-widths.ensures ∙ ap (λ (held : List Held). map (λ (own : Held). own.width) held) c.as_slice.ensures.value in
    let least = AreTreeWidths-held streams c.args.shown.now.readings.items c.args.shown.now.ticks c.args.terms.now c.args.levels c.in_ok-held.held.items c.in_ok-widths.widths.items widths_are held_are in
    rw c.as_slice-2.ensures.value (wide_all streams c.args.shown.now.readings.items c.args.terms.now c.args.levels c.in_ok-widths.widths.items least)

pub tree_over-requires-clause-root_room : goal.tree_over-requires-clause-root_room
tree_over-requires-clause-root_room g c all some =
    let streams = g.R.Ranges.streams c.args.ranges.now in
    let late = c.every_beat-beat.ensures.lag in
    let ticks = c.from.ensures in
    let held_are = tree_held_every streams c.args.shown.now.readings.items c.args.shown.now.ticks c.args.terms.now c.args.levels c.every_beat-beat.ensures.class (omega (arith, late, ticks)) c.as_slice-readings.ensures.value c.in_ok-held.ensures in
    let widths_are = c.in_ok-widths.ensures ∙ ap (λ (held : List Held). map (λ (own : Held). own.width) held) c.as_slice.ensures.value in
    let least = AreTreeWidths-held streams c.args.shown.now.readings.items c.args.shown.now.ticks c.args.terms.now c.args.levels c.in_ok-held.held.items c.in_ok-widths.widths.items widths_are held_are in
    rw c.as_slice-2.ensures.value (root_narrow streams c.args.shown.now.readings.items c.args.terms.now c.args.levels c.in_ok-widths.widths.items least c.requires.ready.deep some (c.requires.ready.root all))

pub tree_over-requires-clause-each : goal.tree_over-requires-clause-each
tree_over-requires-clause-each g c =
    let streams = g.R.Ranges.streams c.args.ranges.now in
    let late = c.every_beat-beat.ensures.lag in
    let ticks = c.from.ensures in
    let held_are = tree_held_every streams c.args.shown.now.readings.items c.args.shown.now.ticks c.args.terms.now c.args.levels c.every_beat-beat.ensures.class (omega (arith, late, ticks)) c.as_slice-readings.ensures.value c.in_ok-held.ensures in
    let widths_are = c.in_ok-widths.ensures ∙ ap (λ (held : List Held). map (λ (own : Held). own.width) held) c.as_slice.ensures.value in
    let least = AreTreeWidths-held streams c.args.shown.now.readings.items c.args.shown.now.ticks c.args.terms.now c.args.levels c.in_ok-held.held.items c.in_ok-widths.widths.items widths_are held_are in
    ap length c.as_slice-2.ensures.value ∙ least.count

pub returns-clause-ok : goal.returns-clause-ok
returns-clause-ok g c =
    let streams = g.R.Ranges.streams c.args.ranges.now in
    let late = c.every_beat-beat.ensures.lag in
    let ticks = c.from.ensures in
    let held_are = tree_held_every streams c.args.shown.now.readings.items c.args.shown.now.ticks c.args.terms.now c.args.levels c.every_beat-beat.ensures.class (omega (arith, late, ticks)) c.as_slice-readings.ensures.value c.in_ok-held.ensures in
    let widths_are = c.in_ok-widths.ensures ∙ ap (λ (held : List Held). map (λ (own : Held). own.width) held) c.as_slice.ensures.value in
    let least = AreTreeWidths-held streams c.args.shown.now.readings.items c.args.shown.now.ticks c.args.terms.now c.args.levels c.in_ok-held.held.items c.in_ok-widths.widths.items widths_are held_are in
    record {
      sums = held_are;
      widths = c.in_ok-widths.widths.items;
      wide = widths_are;
      least = least;
      tree = subst (λ (nodes : List Node). IsTree c.args.net.now c.tree_over.new.net (map (leaf_of nodes) c.args.terms.now) c.in_ok-widths.widths.items c.args.levels c.in_ok-sum.sum.registers.items c.in_ok-sum.sum.root) c.as_slice-nodes.ensures.value
          (subst (λ (widths : List ℕ). IsTree c.args.net.now c.tree_over.new.net (map (leaf_of c.as_slice-nodes.result.now) c.args.terms.now) widths c.args.levels c.in_ok-sum.sum.registers.items c.in_ok-sum.sum.root) c.as_slice-2.ensures.value c.in_ok-sum.ensures.ok);
    }
