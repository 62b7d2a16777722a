use Rattle.std.proofs.Common.{rules, ◌≡◌, arith, None}
use Rattle.folded_fir.proofs.CellLemmas.{none_used, some_used}
use Rattle.folded_fir.proofs.cells.count_used.Goals as goal
use Rattle.folded_fir.proofs.cells.count_used.Goals.{else-is_none-via-then-is_none+else-is_none-2, else-is_none-via-else-is_none}

pub returns-then-is_none-2 : goal.returns-then-is_none-2
returns-then-is_none-2 c =
    let first : c.cell.result ≡ None = search rules in
    let second : c.cell-then-is_none.result ≡ None = search rules in
    let past = none_used c.args.schedule.now c.args.phase c.positive_adders-negative.result c.loop-slot.slot c.cell.result c.cell-then-is_none.result c.positive_adders-negative.ensures c.cell.ensures.exact c.cell-then-is_none.ensures.exact first second in
    let before = c.loop-slot.invariant in
    omega (arith, past, before)

pub loop-slot-preserved : goal.loop-slot-preserved
loop-slot-preserved c = elim c.else-is_none.branch [
  | else-is_none-via-then-is_none+else-is_none-2 w ↦
      let other : w.cell-then-is_none.result ≡ None → ⊥ = λ e. search rules in
      let used = some_used c.args.schedule.now c.args.phase c.positive_adders-negative.result c.loop-slot.slot w.cell-then-is_none.result (let some = c.requires.some in let all = c.requires.all in omega (arith, some, all)) w.cell-then-is_none.ensures.exact other in
      omega (arith, used)
  | else-is_none-via-else-is_none w ↦
      let other : c.cell.result ≡ None → ⊥ = λ e. search rules in
      let used = some_used c.args.schedule.now c.args.phase 0 c.loop-slot.slot c.cell.result (let some = c.requires.some in let all = c.requires.all in omega (arith, some, all)) c.cell.ensures.exact other in
      omega (arith, used)
]
