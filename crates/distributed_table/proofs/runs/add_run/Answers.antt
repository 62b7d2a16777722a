use Rattle.std.proofs.Common.{◌≡◌, ◌∙◌, ap, sym, subst, arith, ℕ, ◌+◌, ◌*◌, ◌^◌, ◌≤◌, max, List, ℤ}
use Rattle.std.specs.Prelude.{unsigned_abs}
use Rattle.mr_values.specs.Timing.{low_end}
use Rattle.mr_values.specs.Width.{IsLeastWidth}
use Rattle.net_graph.specs.declared.name.Name.{Name}
use Rattle.net_graph.specs.declared.name.NameKind.TheVariants.{Register, Table}
use Rattle.net_graph.specs.WellFormed.{IsFree}
use Rattle.net_graph.proofs.NetLemmas.{Extends-trans}
use Rattle.pipeline_balance.specs.Numbered.{name_of}
use Rattle.pipeline_balance.proofs.NumberedLemmas.{LeavesFree-trans}
use Rattle.pipeline_balance.proofs.TakenLemmas.{IsBitOf-later}
use Rattle.stage_law.specs.Streams.{magnitudes}
use Rattle.distributed_table.specs.Choices.{AddsTable}
use Rattle.distributed_table.specs.Copies.{node_at}
use Rattle.distributed_table.specs.Runs.{IsNumbered, serial_of}
use Rattle.distributed_table.proofs.EndLemmas.{magnitudes-run, room_run}
use Rattle.distributed_table.proofs.RunLemmas.{AddsRun-circuit}
use Rattle.distributed_table.proofs.runs.add_run.Goals as goal

kinds_apart : (group number : ℕ) → name_of group Register number ≡ name_of group Table number → ⊥
kinds_apart group number e = let kind : Register ≡ Table = ap (λ (n : Name). n.kind) e in absurd (cc)

pub add_table-requires-clause-small : goal.add_table-requires-clause-small
add_table-requires-clause-small g c =
    let less = magnitudes-run g.row.G c.args.taps.now c.args.number in
    let light = c.requires.light in
    subst (λ (cs : List ℤ). magnitudes cs ≤ 2 ^ 126) (sym c.run_of-run.ensures) (omega (arith, less, light))

pub width_of-width-requires : goal.width_of-width-requires
width_of-width-requires g c =
    let most : ℕ = max (unsigned_abs c.args.values.lo) (unsigned_abs c.args.values.hi) in
    record { small = subst (λ (cs : List ℤ). most * magnitudes cs ≤ 2 ^ 125) (sym c.run_of-run.ensures) (room_run most (2 ^ 125) g.row.G c.args.taps.now c.args.number c.requires.small) }

pub add_accumulator-requires-clause-free : goal.add_accumulator-requires-clause-free
add_accumulator-requires-clause-free g c =
    let same : c.args.net.now.group ≡ c.add_table.new.net.group = sym c.in_ok-table.ensures.group in
    let free = c.in_ok-table.ensures.ok.part.names.free (name_of c.args.net.now.group Register c.args.number) (kinds_apart c.args.net.now.group c.args.number) c.requires.free_register in
    subst (λ (k : ℕ). IsFree c.add_table.new.net.cells (name_of k Register c.args.number)) same free

pub returns-in_err-node-clause-extends : goal.returns-in_err-node-clause-extends
returns-in_err-node-clause-extends g c = Extends-trans _ _ _ c.in_ok-table.ensures.extends c.in_err-node.ensures.extends

pub returns-clause-ok : goal.returns-clause-ok
returns-clause-ok g c pace window bits ready =
    let is = c.run_of-run.ensures in
    let lo = c.args.values.lo in
    let hi = c.args.values.hi in
    let t = subst (λ (cs : List ℤ). AddsTable c.args.net.now c.add_table.new.net c.args.number cs (node_at c.address_of-address.result) c.in_ok-table.table) is c.in_ok-table.ensures.ok in
    let least = subst (λ (cs : List ℤ). IsLeastWidth (low_end cs lo hi) (low_end cs hi lo) c.width_of-width.result) is c.width_of-width.ensures.least in
    let a = c.in_ok-node.ensures.ok pace.period (pace.start + 1) (IsBitOf-later ready.begins c.in_ok-table.ensures.extends) in
    AddsRun-circuit (serial_of c.args.taps.now g.row.G bits c.args.values) pace window c.address_of-address.result ready.some ready.enough least.positive c.width_of-width.ensures.most c.requires.negative c.requires.positive c.requires.as_many ready.copies c.address_of-address.ensures.each t a least

pub returns-clause-names : goal.returns-clause-names
returns-clause-names g c =
    let same = c.in_ok-table.ensures.group in
    let group : ℕ = c.args.net.now.group in
    LeavesFree-trans c.args.net.now.cells c.add_table.new.net.cells c.add_accumulator.new.net.cells (λ name. name ≡ name_of group Table c.args.number) (λ name. name ≡ name_of c.add_table.new.net.group Register c.args.number) (IsNumbered group c.args.number)
    (λ name e. (ap (λ (n : Name). n.group) e, ap (λ (n : Name). n.number) e)) (λ name e. (ap (λ (n : Name). n.group) e ∙ same, ap (λ (n : Name). n.number) e)) c.in_ok-table.ensures.ok.part.names c.in_ok-node.ensures.names

pub returns-clause-extends : goal.returns-clause-extends
returns-clause-extends g c = Extends-trans _ _ _ c.in_ok-table.ensures.extends c.in_ok-node.ensures.extends
