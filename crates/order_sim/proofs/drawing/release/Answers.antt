use Rattle.std.proofs.Common.{◌≡◌, ◌<◌, ◌∙◌, ◌+◌, ◌-◌, ℕ, Bool, List, length, get_or, set, true, sym, arith, rules, subst}
use Rattle.std.proofs.lemmas.List.{length-set}
use Rattle.order_sim.specs.Drawing.{AreFlagged}
use Rattle.order_sim.proofs.Flags.{place_there, enough_left, down_more, flagged_still, flagged_more}
use Rattle.order_sim.proofs.drawing.release.Goals as goal
use Rattle.order_sim.proofs.drawing.release.Goals.{then-waiting-place-eq0, else-waiting-place-eq0}

moved : (done : ℕ → Bool) (waiting : List ℕ) (flags flags_after : List Bool) (count count_after : ℕ) → flags_after ≡ flags → count_after ≡ count → AreFlagged done waiting flags count → AreFlagged done waiting flags_after count_after
moved done waiting flags flags_after count count_after same equal h =
    let P : ℕ → Type 0 = λ n. AreFlagged done waiting flags_after n in
    subst P (sym equal) (subst (λ (fs : List Bool). AreFlagged done waiting fs count) (sym same) h)

pub offset_bounds-waiting-place : goal.offset_bounds-waiting-place
offset_bounds-waiting-place c =
    let inside : get_or c.args.places.now c.loop-place.place-index 0 < length c.loop-place.waiting =
    place_there c.args.places.now c.loop-place.waiting c.loop-place.place-index c.loop-place-test.true c.loop-place.invariant.enough in
    search rules

pub bounds-waiting-place : goal.bounds-waiting-place
bounds-waiting-place c = place_there c.args.places.now c.loop-place.waiting c.loop-place.place-index c.loop-place-test.true c.loop-place.invariant.enough

pub loop-place-preserved : goal.loop-place-preserved
loop-place-preserved c =
    let h = c.loop-place.invariant in
    let xs = c.args.places.now in
    let ws = c.loop-place.waiting in
    let i = c.loop-place.place-index in
    let lt = c.loop-place-test.true in
    let r = get_or xs i 0 in
    let bits = get_or ws r 0 in
    record {
      sizes = c.if-waiting-place-eq0.auto.flags ∙ h.sizes ∙ sym (length-set ws r (bits - 1));
      many = length-set ws r (bits - 1) ∙ h.many;
      enough = enough_left xs ws i lt h.enough;
      room = elim c.if-waiting-place-eq0.branch [ then-waiting-place-eq0 w ↦ omega arith | else-waiting-place-eq0 w ↦ omega arith ];
      down = down_more xs ws i lt h.enough (λ k. get_or c.args.waiting.now k 0) h.down;
      flagged = λ done begun undone.
          let now = h.flagged done begun undone in
          elim c.if-waiting-place-eq0.branch [
            | then-waiting-place-eq0 w ↦ moved done (set ws r (bits - 1)) (set c.loop-place.flags r true) c.if-waiting-place-eq0.flags (c.loop-place.set + 1) c.if-waiting-place-eq0.set w.flags-is w.set-is
                (flagged_more xs ws i lt h.enough done c.loop-place.flags c.loop-place.set h.sizes undone now w.if-waiting-place-eq0.true)
            | else-waiting-place-eq0 w ↦ moved done (set ws r (bits - 1)) c.loop-place.flags c.if-waiting-place-eq0.flags c.loop-place.set c.if-waiting-place-eq0.set w.flags-is w.set-is
                (flagged_still xs ws i lt h.enough done c.loop-place.flags c.loop-place.set h.sizes undone now w.if-waiting-place-eq0.false)
          ];
    }
