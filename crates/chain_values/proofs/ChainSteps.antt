-- The laws of stages compose.
use Rattle.std.proofs.Common.{◌≡◌, ℕ, zero, suc, ◌+◌, ◌<◌, ◌≤◌, List, [], ◌∷◌, ◌++◌, length, take, drop, get_or, set, map, ℤ, pos, ◌+ℤ◌, ◌-ℤ◌, arith, refl, sym, ◌∙◌, ap, subst, append_assoc}
use Rattle.std.proofs.lemmas.Int.{ints}
use Rattle.std.proofs.lemmas.List.{drop_more, drop_all, take_all, take_more_set, drop-set-lt, length-set, append-nil}
use lib.IntN.{+ℤ_idr}
use Rattle.mr_values.proofs.Ring.{+ℤ-*ℤ}
use Rattle.mr_values.specs.Sequence.{Sequence}
use Rattle.chain_values.specs.declared.fir.Fir.{Fir}
use Rattle.chain_values.specs.declared.moving_sum.MovingSum.{MovingSum}
use Rattle.chain_values.specs.declared.stage.Stage.{Stage}
use Rattle.chain_values.specs.declared.stage.Stage.TheVariants.{Group, Sum, Rounded, Clipped}
use Rattle.chain_values.specs.Streams.{AreFrom, values_from, Grows}
use Rattle.chain_values.specs.Phases.{AllFit, IsDue}
use Rattle.chain_values.specs.FirStates.{Takes}
use Rattle.chain_values.specs.PairStates.{given_by}
use Rattle.chain_values.specs.SumStates.{SumTakes, summed_by}
use Rattle.chain_values.specs.ChainStates.{Follows, Advances, AllFollow, AllAdvance, Midway, StageDue, AllDue}
use Rattle.chain_values.proofs.FirTakes.{same_sequence}
use Rattle.chain_values.proofs.PairTakes.{AreFrom-grown, place-grown}
use Rattle.mr_values.specs.Sequence.{filter, ones}
use Rattle.mr_values.specs.Value.{round_value}
use Rattle.chain_values.specs.declared.rounding.Rounding.{Rounding}
use Rattle.chain_values.specs.declared.rounding.Clipping.{Clipping}
use Rattle.mr_values.specs.Rounding.{clip_value}
use Rattle.chain_values.proofs.RoundSteps.{mapped_values}

pub group_advances : (group group' : Fir) (values before after : List ℤ) → Takes group values before after group' → Advances (Group group) values before after (Group group')
group_advances group group' values before after t = record {
  law = λ x y j n f from fit.
      let taps = f.0 in
      let given = t.law taps x j n f.1.1 from (subst (λ (s : Sequence). AllFit s) f.1.0 fit) in
      let still : y ≡ given_by taps group' x = f.1.0 ∙ sym (same_sequence taps x group group' t.same_phases t.same_step) in
      (given.0, (subst (λ (s : Sequence). Grows s n given.0 before after) (sym f.1.0) given.1.0, (taps, (still, given.1.1))));
  due = λ taken given d. subst (λ (n : ℕ). IsDue n group.lowered taken given) (ap length t.same_phases) (subst (λ (m : ℕ). IsDue (length group'.phases.items) m taken given) t.same_step d);
}

pub sum_advances : (sum sum' : MovingSum) (values before after : List ℤ) → SumTakes sum values before after sum' → Advances (Sum sum) values before after (Sum sum')
sum_advances sum sum' values before after t = record {
  law = λ x y j n f from fit.
      let given = t.law x j f.1.1 from (subst (λ (s : Sequence). AllFit s) f.0 fit) in
      let still : y ≡ summed_by sum' x = f.0 ∙ ap (λ (w : ℕ). filter (ones w) x) (sym t.same_width) in
      let grown = subst (λ (s : Sequence). Grows s (j +ℤ pos 1) (j +ℤ pos (length values) +ℤ pos 1) before after) (sym f.0) given.0 in
      (j +ℤ pos (length values) +ℤ pos 1, (subst (λ (z : ℤ). Grows y z (j +ℤ pos (length values) +ℤ pos 1) before after) (sym f.1.0) grown, (still, (refl, given.1))));
  due = λ taken given d. d;
}

-- a stage that gives f of each value
map_advances : (stage : Stage) (f : ℤ → ℤ) (values before after : List ℤ) → ((x y : Sequence) (j n : ℤ) → Follows stage x y j n → (y ≡ (λ i. f (x i))) × (n ≡ j +ℤ pos 1))
    → ((x y : Sequence) (j n : ℤ) → y ≡ (λ i. f (x i)) → n ≡ j +ℤ pos 1 → Follows stage x y j n) → after ≡ before ++ map f values → Advances stage values before after stage
map_advances stage f values before after from_stage to_stage e = record {
  law = λ x y j n follows from fit.
      let is = from_stage x y j n follows in
      let m = j +ℤ pos (length values) +ℤ pos 1 in
      let to : m ≡ j +ℤ pos 1 +ℤ pos (length values) = omega (arith, ints) in
      let grown : Grows (λ i. f (x i)) (j +ℤ pos 1) m before after =
      record { count = length values; to = to; grown = e ∙ ap (λ (vs : List ℤ). before ++ vs) (mapped_values f x (j +ℤ pos 1) values from) } in
      let from_n = subst (λ (k : ℤ). Grows (λ i. f (x i)) k m before after) (sym is.1) grown in
      (m, (subst (λ (s : Sequence). Grows s n m before after) (sym is.0) from_n, to_stage x y (j +ℤ pos (length values)) m is.0 refl));
  due = λ taken given d. d;
}

pub round_advances : (rounding : Rounding) (values before after : List ℤ) → after ≡ before ++ map (round_value rounding.mode rounding.shift) values → Advances (Rounded rounding) values before after (Rounded rounding)
round_advances rounding values before after e = map_advances (Rounded rounding) (round_value rounding.mode rounding.shift) values before after (λ x y j n f. f) (λ x y j n a b. (a, b)) e

pub clip_advances : (clipping : Clipping) (values before after : List ℤ) → after ≡ before ++ map (clip_value clipping.bits) values → Advances (Clipped clipping) values before after (Clipped clipping)
clip_advances clipping values before after e = map_advances (Clipped clipping) (clip_value clipping.bits) values before after (λ x y j n f. f) (λ x y j n a b. (a, b)) e

-- another stage in the place of one, of which as many values are due
set_due : (ss : List Stage) (i : ℕ) (s s' : Stage) → i < length ss → s ≡ get_or ss i s → ((taken given : ℤ) → StageDue s' taken given → StageDue s taken given)
    → (taken given : ℤ) → AllDue (set ss i s') taken given → AllDue ss taken given
set_due [] i s s' h is due taken given d = absurd (omega arith)
set_due (r ∷ ss) zero s s' h is due taken given d = (d.0, (subst (λ (q : Stage). StageDue q taken d.0) is (due taken d.0 d.1.0), d.1.1))
set_due (r ∷ ss) (suc i) s s' h is due taken given d = (d.0, (d.1.0, set_due ss i s s' (omega arith) is due d.0 given d.1.1))

pub Midway-none : (old : List Stage) (values current : List ℤ) → current ≡ values → Midway old 0 values current old
Midway-none old values current e = record {
  long = refl;
  law = λ x z j p f from. (x, (j, (f, (subst (λ (vs : List ℤ). AreFrom x (j +ℤ pos 1) vs) (sym e) from, λ rest q g. subst (λ (vs : List ℤ). AllFollow rest x z (j +ℤ pos (length vs)) q) e g))));
  due = λ taken given d. d;
}

pub Midway-more : (old : List Stage) (i : ℕ) (values current next : List ℤ) (stages : List Stage) (s s' : Stage) → Midway old i values current stages → i < length stages → s ≡ get_or stages i s
    → Advances s current [] next s' → Midway old (i + 1) values next (set stages i s')
Midway-more old i values current next stages s s' mid h is adv = record {
  long = length-set stages i s' ∙ mid.long;
  law = λ x z j p f from.
      let here = mid.law x z j p f from in
      let w = here.0 in
      let a = here.1.0 in
      let split : drop i stages ≡ s ∷ drop (i + 1) stages = drop_more stages i s h ∙ ap (λ (t : Stage). t ∷ drop (i + 1) stages) (sym is) in
      let parts = subst (λ (ss : List Stage). AllFollow ss w z a p) split here.1.1.0 in
      let y = parts.0 in
      let n = parts.1.0 in
      let given = adv.law w y a n parts.1.1.0 here.1.1.1.0 parts.1.1.1.0 in
      let m = given.0 in
      let start : n ≡ n -ℤ pos 1 +ℤ pos 1 = omega (arith, ints) in
      let later : drop (i + 1) (set stages i s') ≡ drop (i + 1) stages = drop-set-lt (i + 1) stages i s' (omega arith) in
      let front : take (i + 1) (set stages i s') ≡ take i stages ++ s' ∷ [] = take_more_set stages i s' h in (
        y,
        (
          n -ℤ pos 1,
          (
            subst (λ (ss : List Stage). AllFollow ss y z (n -ℤ pos 1) p) (sym later) parts.1.1.1.1,
            (
              subst (λ (k : ℤ). AreFrom y k next) start (AreFrom-grown y n m next given.1.0),
              λ rest q g.
                  let moved = subst (λ (k : ℤ). AllFollow rest y z k q) (place-grown y n m next given.1.0) g in
                  let whole = here.1.1.1.1 (s' ∷ rest) q (y, (m, (given.1.1, (parts.1.1.1.0, moved)))) in
                  let same : take i stages ++ s' ∷ rest ≡ take (i + 1) (set stages i s') ++ rest = sym (append_assoc (take i stages) (s' ∷ []) rest) ∙ ap (λ (ss : List Stage). ss ++ rest) (sym front) in
                  subst (λ (ss : List Stage). AllFollow ss x z (j +ℤ pos (length values)) q) same whole,
            ),
          ),
        ),
      );
  due = λ taken given d. mid.due taken given (set_due stages i s s' h is adv.due taken given d);
}

values_from-all : (y : Sequence) (n : ℤ) (vs : List ℤ) → AreFrom y n vs → vs ≡ values_from y n (length vs)
values_from-all y n [] h = refl
values_from-all y n (v ∷ vs) h =
    let first : v ≡ y n = h.value 0 (omega arith) ∙ ap y (+ℤ_idr n) in
    let at : (k : ℕ) → n +ℤ pos (suc k) ≡ n +ℤ pos 1 +ℤ pos k = λ k. omega (arith, ints) in
    let rest = values_from-all y (n +ℤ pos 1) vs (record { value = λ k less. h.value (suc k) (omega arith) ∙ ap y (at k) }) in
    ap (λ (u : ℤ). u ∷ vs) first ∙ ap (λ (us : List ℤ). y n ∷ us) rest

pub Midway-all : (old : List Stage) (i : ℕ) (values current before after : List ℤ) (stages : List Stage) → Midway old i values current stages → length stages ≤ i → after ≡ before ++ current
    → AllAdvance old values before after stages
Midway-all old i values current before after stages mid h e = record {
  law = λ x z j p f from.
      let here = mid.law x z j p f from in
      let w = here.0 in
      let a = here.1.0 in
      let parts = subst (λ (ss : List Stage). AllFollow ss w z a p) (drop_all i stages h) here.1.1.0 in
      let q = a +ℤ pos (length current) +ℤ pos 1 in
      let whole = here.1.1.1.1 [] q (parts.0, refl) in
      let same : take i stages ++ [] ≡ stages = append-nil (take i stages) ∙ take_all i stages h in
      let to : q ≡ a +ℤ pos 1 +ℤ pos (length current) = omega (arith, ints) in
      let grown : Grows w (a +ℤ pos 1) q before after = record { count = length current; to = to; grown = e ∙ ap (λ (vs : List ℤ). before ++ vs) (values_from-all w (a +ℤ pos 1) current here.1.1.1.0) } in
      let from_p = subst (λ (k : ℤ). Grows w k q before after) (sym parts.1) grown in
      (q, (subst (λ (y : Sequence). Grows y p q before after) (sym parts.0) from_p, subst (λ (ss : List Stage). AllFollow ss x z (j +ℤ pos (length values)) q) same whole));
  due = mid.due;
}

stage_due : (s : Stage) (x y : Sequence) (j n : ℤ) → Follows s x y j n → StageDue s (j +ℤ pos 1) n
stage_due (Group group) x y j n f = record {
  enough = omega (arith, ints, f.1.1.place, +ℤ-*ℤ j (pos 1) (pos (length group.phases.items)), group.due, group.near);
  least = omega (arith, ints, f.1.1.place, +ℤ-*ℤ j (pos 1) (pos (length group.phases.items)), group.due, group.near);
}
stage_due (Sum sum) x y j n f = f.1.0
stage_due (Rounded rounding) x y j n f = f.1
stage_due (Clipped clipping) x y j n f = f.1

pub all_due : (ss : List Stage) (x z : Sequence) (j p : ℤ) → AllFollow ss x z j p → AllDue ss (j +ℤ pos 1) p
all_due [] x z j p f = f.1
all_due (s ∷ ss) x z j p f =
    let n = f.1.0 in
    let at : n -ℤ pos 1 +ℤ pos 1 ≡ n = omega (arith, ints) in
    (n, (stage_due s x f.0 j n f.1.1.0, subst (λ (k : ℤ). AllDue ss k p) at (all_due ss f.0 z (n -ℤ pos 1) p f.1.1.1.1)))
