use Rattle.std.proofs.Common.{◌≡◌, ℕ, ◌+◌, ◌*◌, ◌%◌, suc, arith, subst, sym}
use Rattle.folded_fir.specs.Slots.{ListsSlots, used_in}
use Rattle.folded_fir.proofs.cells.used_slots.Goals as goal

pub loop-output-preserved : goal.loop-output-preserved
loop-output-preserved c =
    let next : suc c.loop-output.output ≡ c.loop-output.output + 1 = omega arith in
    subst (λ (n : ℕ). ListsSlots (λ output. used_in c.args.schedule.now (output * c.args.rates.down % c.args.rates.up)) n 0 c.push_slots.new.slots.items) next
    (c.in_ok-push_slots.ensures (λ output. used_in c.args.schedule.now (output * c.args.rates.down % c.args.rates.up)) (sym c.count_used-count.ensures) c.loop-output.invariant)

pub returns : goal.returns
returns c =
    let end : c.loop-output.output ≡ c.args.outputs = let test = c.loop-output-test.false in let auto = c.loop-output.auto in omega (arith, test, auto.output-end) in
    subst (λ (n : ℕ). ListsSlots (λ output. used_in c.args.schedule.now (output * c.args.rates.down % c.args.rates.up)) n 0 c.loop-output.found.items) end c.loop-output.invariant
