use Rattle.std.proofs.Common.{◌≡◌, ℕ, ◌+◌, ◌*◌, ◌^◌, ◌≤◌, List, length, sym, subst, arith, Some, slice_get, ℤ}
use Rattle.mr_values.specs.Timing.{low_end}
use Rattle.mr_values.specs.Width.{IsLeastWidth}
use Rattle.net_graph.specs.declared.cell.Leaf.{Leaf}
use Rattle.net_graph.specs.declared.name.NameKind.TheVariants.{Register, Table, Window}
use Rattle.net_graph.proofs.NetLemmas.{Extends-trans}
use Rattle.stage_law.specs.Streams.{magnitudes}
use Rattle.distributed_table.specs.Facts.{runs_of}
use Rattle.distributed_table.specs.Runs.{Pace, serial_of}
use Rattle.distributed_table.specs.Shown.{AddsShown}
use Rattle.distributed_table.specs.Totals.{AddsTotal}
use Rattle.distributed_table.proofs.ReadyLemmas.{levels_deep, levels_low, runs_cover, runs_some}
use Rattle.distributed_table.proofs.RootLemmas.{leaf_of_run, many_of_lists, register_free, runs_of_lists, table_free, taps_light}
use Rattle.distributed_table.proofs.StageLemmas.{Realises-distributed}
use Rattle.distributed_table.proofs.distributed.Distributed.root.Goals as goal

pub add_shown-requires-clause-unused : goal.add_shown-requires-clause-unused
add_shown-requires-clause-unused g c number = c.requires.unused.free Window number

pub add_runs-requires-clause-light : goal.add_runs-requires-clause-light
add_runs-requires-clause-light g c = subst (λ (cs : List ℤ). magnitudes cs ≤ 2 ^ 125) (sym c.as_slice-taps.ensures.value) (taps_light c.args.self.now.taps.items c.args.self.now.limits)

pub add_runs-requires-clause-free_tables : goal.add_runs-requires-clause-free_tables
add_runs-requires-clause-free_tables g c number = table_free c.in_ok-shown.ensures.ok number (c.requires.unused.free Table number)

pub add_runs-requires-clause-free_registers : goal.add_runs-requires-clause-free_registers
add_runs-requires-clause-free_registers g c number = register_free c.in_ok-shown.ensures.ok number (c.requires.unused.free Register number)

pub returns-in_err-leaves-clause-extends : goal.returns-in_err-leaves-clause-extends
returns-in_err-leaves-clause-extends g c = Extends-trans _ _ _ c.in_ok-shown.ensures.extends c.in_err-leaves.ensures.extends

pub add_total-requires-clause-low : goal.add_total-requires-clause-low
add_total-requires-clause-low g c =
    let d = c.args.self.now in
    let low = levels_low g.row.G d.taps.items d.some d.limits.1 in
    let are = d.is_levels in
    omega (arith, low, are)

pub add_total-requires-clause-deep : goal.add_total-requires-clause-deep
add_total-requires-clause-deep g c =
    let d = c.args.self.now in
    let many = many_of_lists g.row.G c.as_slice-taps.result.now d.taps.items c.as_slice.result.now c.in_ok-leaves.leaves.items c.as_slice-taps.ensures.value c.as_slice.ensures.value c.in_ok-leaves.ensures.many in
    let deep = subst (λ (n : ℕ). runs_of g.row.G d.taps.items ≤ 2 ^ n) (sym d.is_levels) (levels_deep g.row.G d.taps.items) in
    subst (λ (n : ℕ). n ≤ 2 ^ d.levels) (sym many) deep

pub add_total-requires-clause-leaves : goal.add_total-requires-clause-leaves
add_total-requires-clause-leaves g c k leaf there =
    let d = c.args.self.now in
    let s = c.in_ok-shown.ensures.ok in
    let pace : Pace = record { period = c.args.from.period * d.down; start = c.args.from.offset + 1 } in
    let told = runs_of_lists g.row.G c.as_slice-taps.result.now d.taps.items c.as_slice-highs.result.now c.in_ok-shown.shown.highs.items c.as_slice-taps.ensures.value c.as_slice-highs.ensures.value c.in_ok-leaves.ensures.ok in
    let runs = told pace s.window d.bits (s.ready d.bits_low c.requires.takes.enough) in
    leaf_of_run (serial_of d.taps.items g.row.G d.bits c.in_ok-values.values) pace s.window (runs.each k leaf (subst (λ (ls : List Leaf). slice_get ls k ≡ Some leaf) c.as_slice.ensures.value there))

pub add_total-requires-clause-added : goal.add_total-requires-clause-added
add_total-requires-clause-added g c k leaf there =
    let d = c.args.self.now in
    let s = c.in_ok-shown.ensures.ok in
    let pace : Pace = record { period = c.args.from.period * d.down; start = c.args.from.offset + 1 } in
    let told = runs_of_lists g.row.G c.as_slice-taps.result.now d.taps.items c.as_slice-highs.result.now c.in_ok-shown.shown.highs.items c.as_slice-taps.ensures.value c.as_slice-highs.ensures.value c.in_ok-leaves.ensures.ok in
    let runs = told pace s.window d.bits (s.ready d.bits_low c.requires.takes.enough) in
    (runs.each k leaf (subst (λ (ls : List Leaf). slice_get ls k ≡ Some leaf) c.as_slice.ensures.value there)).added

pub returns-in_err-root-clause-extends : goal.returns-in_err-root-clause-extends
returns-in_err-root-clause-extends g c = Extends-trans _ _ _ c.in_ok-shown.ensures.extends (Extends-trans _ _ _ c.in_ok-leaves.ensures.extends c.in_err-root.ensures.extends)

pub returns-clause-ok : goal.returns-clause-ok
returns-clause-ok g c =
    let d = c.args.self.now in
    let taps = d.taps.items in
    let size : ℕ = g.row.G in
    let lo : ℤ = c.in_ok-values.values.lo in
    let hi : ℤ = c.in_ok-values.values.hi in
    let are_taps = c.as_slice-taps.ensures.value in
    let told = runs_of_lists size c.as_slice-taps.result.now taps c.as_slice-highs.result.now c.in_ok-shown.shown.highs.items are_taps c.as_slice-highs.ensures.value c.in_ok-leaves.ensures.ok in
    let shown = subst (λ (cs : List ℤ). AddsShown c.args.net.now c.add_shown.new.net c.args.from (length cs) d.down d.bits c.in_ok-shown.shown.highs.items c.in_ok-shown.shown.begin) are_taps c.in_ok-shown.ensures.ok in
    let total = subst (λ (ls : List Leaf). AddsTotal c.add_runs.new.net c.add_total.new.net ls d.levels c.width_of-width.result c.in_ok-root.root) c.as_slice.ensures.value c.in_ok-root.ensures.ok in
    let least = subst (λ (cs : List ℤ). IsLeastWidth (low_end cs lo hi) (low_end cs hi lo) c.width_of-width.result) are_taps c.width_of-width.ensures.least in
    record {
      realises = Realises-distributed (g.R.Ranges.streams c.args.ranges.now) size taps (g.met.R.Ranges.causal c.args.ranges.now) c.requires.admits c.in_ok-values.ensures c.requires.takes d.bits_low c.requires.group (runs_some (length taps) size d.some d.limits.0) (runs_cover (length taps) size d.some) d.is_levels shown told total least.positive least;
    }

pub returns-clause-extends : goal.returns-clause-extends
returns-clause-extends g c = Extends-trans _ _ _ c.in_ok-shown.ensures.extends (Extends-trans _ _ _ c.in_ok-leaves.ensures.extends c.in_ok-root.ensures.extends)
