use Rattle.net_graph.specs.declared.cell.Cell.{Cell}
use Rattle.net_graph.specs.Names.{numbered_from}
use Rattle.std.proofs.Common.{◌≡◌, ℕ, ◌+◌, ◌≤◌, length, arith, refl, suc, inl, inr, subst, ap, List, ◌<◌, ◌∙◌}
use Rattle.std.proofs.lemmas.Bool.{cases_lt}
use Rattle.net_graph.specs.Cells.{NetView}
use Rattle.net_graph.specs.WellFormed.{IsFree}
use Rattle.net_graph.proofs.FreeLemmas.{IsUsed-room, IsFree-past}
use Rattle.net_graph.proofs.net.Net.free_number.Goals as goal

pub loop-number-init : goal.loop-number-init
loop-number-init c =
    let value = c.deref.ensures.value ∙ ap (λ (n : NetView). n.cells) c.self.view_is in
    let run = c.run_length-first.ensures in (
      subst (λ (cells : List Cell). (lower : ℕ) → lower < c.run_length-first.result → IsFree cells (record { group = c.args.group; kind = c.args.kind; number = lower }) → ⊥) value run.used,
      subst (λ (cells : List Cell). c.run_length-first.result + numbered_from c.run_length-first.result cells ≤ length cells) value run.room,
    )

-- a number that is used takes a node
pub loop-number-preserved : goal.loop-number-preserved
loop-number-preserved c =
    let i = c.loop-number.invariant in
    let used = c.if-is_free.ensures.used refl in
    let next : suc c.loop-number.number ≡ c.loop-number.number + 1 = omega arith in (
      λ lower less. elim (cases_lt lower c.loop-number.number) [
        | inl below ↦ i.0 lower below
        | inr here ↦ let same : c.loop-number.number ≡ lower = omega arith in subst (λ (n : ℕ). IsFree c.args.self.now.cells (record { group = c.args.group; kind = c.args.kind; number = n }) → ⊥) same used
      ],
      subst (λ (n : ℕ). n + numbered_from n c.args.self.now.cells ≤ length c.args.self.now.cells) next (IsUsed-room c.args.self.now.cells c.args.group c.args.kind c.loop-number.number i.1 used),
    )

-- when all nodes are taken, nothing is left to be used
pub returns : goal.returns
returns c =
    let i = c.loop-number.invariant in
    let view : length c.self.inside.cells.items ≡ length c.args.self.now.cells = ap (λ (n : NetView). length n.cells) c.self.view_is in
    let last : c.loop-number.number ≡ c.len.result = omega (arith, c.loop-number-test.false) in
    record {
      free = IsFree-past c.args.self.now.cells c.args.group c.args.kind c.len.result (let room = i.1 in let count = c.len.ensures in subst (λ (n : ℕ). numbered_from n c.args.self.now.cells ≡ 0) last (omega arith));
      least = λ lower less. i.0 lower (omega arith);
    }
