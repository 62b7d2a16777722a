use Rattle.std.proofs.Common.{◌≡◌, ℕ, ◌+◌, ◌≤◌, length, arith, suc, inl, inr, refl, subst}
use Rattle.std.proofs.lemmas.Bool.{cases_lt}
use Rattle.std.proofs.lemmas.Option.{slice_get-get_or}
use Rattle.net_graph.specs.WellFormed.{IsFree}
use Rattle.net_graph.specs.Names.{numbered_from}
use Rattle.net_graph.proofs.FreeLemmas.{numbered_from-most, IsUsed-room}
use Rattle.net_graph.proofs.counting.run_length.Goals as goal
use Rattle.net_graph.proofs.counting.run_length.Goals.{then-has_name, else-has_name}

pub loop-cell-init : goal.loop-cell-init
loop-cell-init c = (λ lower less. absurd (omega arith), omega (arith, numbered_from-most 0 c.args.cells.now))

-- a number that is used takes a node
pub loop-cell-preserved : goal.loop-cell-preserved
loop-cell-preserved c =
    let i = c.loop-cell.invariant in
    elim c.if-has_name.branch [
      | then-has_name w ↦
          let there = slice_get-get_or c.args.cells.now c.loop-cell.cell-index _ c.loop-cell-test.true in
          let used : IsFree c.args.cells.now (record { group = c.args.group; kind = c.args.kind; number = c.loop-cell.number }) → ⊥ = λ f. f.none c.loop-cell.cell-index _ there (w.if-has_name.ensures.yes refl) in
          let next : suc c.loop-cell.number ≡ c.if-has_name.number = omega (arith, w.number-is) in (
            λ lower less. elim (cases_lt lower c.loop-cell.number) [
              | inl below ↦ i.0 lower below
              | inr here ↦ let same : c.loop-cell.number ≡ lower = omega (arith, next) in subst (λ (n : ℕ). IsFree c.args.cells.now (record { group = c.args.group; kind = c.args.kind; number = n }) → ⊥) same used
            ],
            subst (λ (n : ℕ). n + numbered_from n c.args.cells.now ≤ length c.args.cells.now) next (IsUsed-room c.args.cells.now c.args.group c.args.kind c.loop-cell.number i.1 used),
          )
      | else-has_name w ↦ rw w.number-is i
    ]
