-- Groups, sums and chains at their start.
use Rattle.std.proofs.Common.{◌≡◌, ℕ, zero, suc, ◌+◌, ◌-◌, ◌*◌, ◌≤◌, List, [], ◌∷◌, ◌++◌, length, Bool, true, false, cond, nat_eq, ℤ, pos, negsuc, ◌+ℤ◌, ◌-ℤ◌, ◌*ℤ◌, arith, refl, subst, sym, ◌∙◌, ap}
use Rattle.std.proofs.Math.Path.{fun_ext}
use Rattle.std.proofs.lemmas.Int.{ints}
use lib.IntN.{+ℤ_idr}
use Rattle.mr_values.specs.declared.plan.Element.{Element}
use Rattle.mr_values.specs.Width.{floor_quotient, floor_remainder}
use Rattle.mr_values.specs.Sequence.{Sequence, samples, up, down, filter, filter_times, ones}
use Rattle.mr_values.specs.declared.plan.Element.TheVariants.{Up, Down, Filter, CicDown, CicUp, Round, Clip}
use Rattle.mr_values.specs.declared.plan.Mode.{Mode}
use Rattle.mr_values.proofs.Zeros.{apply-zeros}
use Rattle.mr_values.specs.Rounding.{clip_value}
use Rattle.mr_values.proofs.ClipLemmas.{clip_zero}
use Rattle.chain_values.specs.declared.rounding.Rounding.{Rounding}
use Rattle.chain_values.specs.declared.rounding.Clipping.{Clipping}
use Rattle.mr_values.specs.declared.plan.Form.{Form}
use Rattle.mr_values.specs.Value.{size, apply, chain, val, round, round_value, clip, IsFromOne}
use Rattle.mr_values.proofs.Plain.{up-one, chain-append}
use Rattle.chain_values.specs.declared.fir.Fir.{Fir}
use Rattle.chain_values.specs.declared.moving_sum.MovingSum.{MovingSum}
use Rattle.chain_values.specs.declared.stage.Stage.{Stage}
use Rattle.chain_values.specs.declared.stage.Stage.TheVariants.{Group, Sum, Rounded, Clipped}
use Rattle.chain_values.specs.Streams.{AreFrom}
use Rattle.chain_values.specs.Phases.{AllFit, IsDue, fir}
use Rattle.chain_values.specs.FirStates.{Begins}
use Rattle.chain_values.specs.SumStates.{SumBegins}
use Rattle.chain_values.specs.ChainStates.{Follows, AllFollow, AllAdvance, StageDue, AllDue}
use Rattle.chain_values.specs.Starts.{Starts, FitWithin, FitAlong, raised_by, lowered_by, ElementsDue, Begin, GivesValues, Makes, SumsMake, Adds}
use Rattle.chain_values.proofs.ChainSteps.{all_due}
use Rattle.chain_values.proofs.SumSteps.{weighted_sum-nothing}

-- ---- what stands before index 0

pub Starts-samples : (xs : List ℤ) → Starts (samples xs)
Starts-samples xs = record { before = λ i. refl }

pub Starts-filter : (taps : List ℤ) (x : Sequence) → Starts x → Starts (filter taps x)
Starts-filter taps x s = record { before = λ i. weighted_sum-nothing taps (λ k. x (negsuc i -ℤ pos k)) (λ k. let at : negsuc i -ℤ pos k ≡ negsuc (i + k) = omega (arith, ints) in ap x at ∙ s.before (i + k)) }

pub Starts-up : (factor : ℕ) (x : Sequence) → Starts x → Starts (up factor x)
Starts-up factor x s = record { before = λ i. either (nat_eq (floor_remainder (negsuc i) factor) 0) (x (floor_quotient (negsuc i) factor)) (s.before _) }
  where
    either : (b : Bool) (v : ℤ) → v ≡ pos 0 → cond b v (pos 0) ≡ pos 0
    either true v e = e
    either false v e = refl

pub Starts-down : (factor : ℕ) (x : Sequence) → 1 ≤ factor → Starts x → Starts (down factor x)
Starts-down factor x h s = record { before = λ i. let at : negsuc i *ℤ pos factor ≡ negsuc (i * factor + (factor - 1)) = omega (arith, ints) in ap x at ∙ s.before (i * factor + (factor - 1)) }

-- ---- one element as a group

filter-one : (x : Sequence) → filter (pos 1 ∷ []) x ≡ x
filter-one x = fun_ext (λ n. let at : x (n -ℤ pos 0) ≡ x n = ap x (+ℤ_idr n) in one_times (x (n -ℤ pos 0)) ∙ at)
  where
    one_times : (z : ℤ) → pos 1 *ℤ z +ℤ pos 0 ≡ z
    one_times z = omega (arith, ints)

down-one : (x : Sequence) → down 1 x ≡ x
down-one x = fun_ext (λ n. let at : n *ℤ pos 1 ≡ n = omega (arith, ints) in ap x at)

pub fir-filter : (taps : List ℤ) (x : Sequence) → fir taps 1 1 x ≡ filter taps x
fir-filter taps x = down-one (filter taps (up 1 x)) ∙ ap (filter taps) (up-one x)

pub fir-up : (factor : ℕ) (x : Sequence) → fir (pos 1 ∷ []) factor 1 x ≡ up factor x
fir-up factor x = down-one (filter (pos 1 ∷ []) (up factor x)) ∙ filter-one (up factor x)

pub fir-down : (factor : ℕ) (x : Sequence) → fir (pos 1 ∷ []) 1 factor x ≡ down factor x
fir-down factor x = ap (down factor) (filter-one (up 1 x) ∙ up-one x)

pub group_follows : (taps : List ℤ) (raised lowered : ℕ) (group : Fir) → Begins taps raised lowered group → (x y : Sequence) → Starts x → fir taps raised lowered x ≡ y → Follows (Group group) x y (negsuc 0) (pos 0)
group_follows taps raised lowered group b x y s e =
    (taps, (sym e ∙ sym (ap (λ (n : ℕ). fir taps n group.lowered x) b.same_count ∙ ap (λ (n : ℕ). fir taps raised n x) b.same_step), b.law x s.before))

pub sum_follows : (width : ℕ) (sum : MovingSum) → SumBegins width sum → (x : Sequence) → Starts x → Follows (Sum sum) x (filter (ones width) x) (negsuc 0) (pos 0)
sum_follows width sum b x s = (sym (ap (λ (n : ℕ). filter (ones n) x) b.same_width), (refl, b.law x s.before))

-- ---- a chain

pub AllFollow-append : (ss ts : List Stage) (x y z : Sequence) (j n p : ℤ) → AllFollow ss x y j n → AllFollow ts y z (n -ℤ pos 1) p → AllFollow (ss ++ ts) x z j p
AllFollow-append [] ts x y z j n p f g =
    let at : n -ℤ pos 1 ≡ j = omega (arith, ints, f.1) in
    subst (λ (w : Sequence). AllFollow ts w z j p) f.0 (subst (λ (k : ℤ). AllFollow ts y z k p) at g)
AllFollow-append (s ∷ ss) ts x y z j n p f g = (f.0, (f.1.0, (f.1.1.0, (f.1.1.1.0, AllFollow-append ss ts f.0 y z (f.1.0 -ℤ pos 1) n p f.1.1.1.1 g))))

pub AllFollow-one : (s : Stage) (x y : Sequence) → Follows s x y (negsuc 0) (pos 0) → AllFit y → AllFollow (s ∷ []) x y (negsuc 0) (pos 0)
AllFollow-one s x y f fit = (y, (pos 0, (f, (fit, (refl, refl)))))

-- what is due of the one part and then of the other
AllDue-append : (ss ts : List Stage) (taken given : ℤ) → AllDue (ss ++ ts) taken given → (between : ℤ) × (AllDue ss taken between × AllDue ts between given)
AllDue-append [] ts taken given d = (taken, (refl, d))
AllDue-append (s ∷ ss) ts taken given d = let rest = AllDue-append ss ts d.0 given d.1.1 in (rest.0, ((d.0, (d.1.0, rest.1.0)), rest.1.1))

-- one output for each value
due_one : (taken given : ℤ) → given ≡ taken → IsDue 1 1 taken given
due_one taken given e = record { enough = omega (arith, ints, e); least = omega (arith, ints, e) }

group_due : (taps : List ℤ) (raised lowered : ℕ) (group : Fir) → Begins taps raised lowered group → (taken given : ℤ) → StageDue (Group group) taken given → IsDue raised lowered taken given
group_due taps raised lowered group b taken given d =
    subst (λ (n : ℕ). IsDue n lowered taken given) b.same_count (subst (λ (m : ℕ). IsDue (length group.phases.items) m taken given) b.same_step d)

ElementsDue-append : (es : List Element) (e : Element) (taken between given : ℤ) → ElementsDue es taken between → IsDue (raised_by e) (lowered_by e) between given → ElementsDue (es ++ e ∷ []) taken given
ElementsDue-append [] e taken between given d last = (given, (subst (λ (k : ℤ). IsDue (raised_by e) (lowered_by e) k given) d last, refl))
ElementsDue-append (f ∷ es) e taken between given d last = (d.0, (d.1.0, ElementsDue-append es e d.0 between given d.1.1 last))

pub Begin-none : Begin [] []
Begin-none = record { law = λ x s fit. (refl, refl); due = λ taken given d. d }

fit_front : (es : List Element) (e : Element) (x : Sequence) → FitAlong (es ++ e ∷ []) x → FitAlong es x × (FitWithin e (chain es x) × AllFit (apply e (chain es x)))
fit_front [] e x f = (tt, f.0)
fit_front (g ∷ es) e x f = let rest = fit_front es e (apply g x) f.1 in ((f.0, rest.0), rest.1)

pub Begin-more : (es : List Element) (e : Element) (ss ts : List Stage) → Begin es ss → ((x : Sequence) → Starts x → Starts (chain es x)) → Makes e ts → Begin (es ++ e ∷ []) (ss ++ ts)
Begin-more es e ss ts b starts m = record {
  law = λ x st fit.
      let parts = fit_front es e x fit in
      let whole = AllFollow-append ss ts x (chain es x) (apply e (chain es x)) (negsuc 0) (pos 0) (pos 0) (b.law x st parts.0) (m.follows (chain es x) (starts x st) parts.1.0 parts.1.1) in
      subst (λ (z : Sequence). AllFollow (ss ++ ts) x z (negsuc 0) (pos 0)) (sym (chain-append es (e ∷ []) x)) whole;
  due = λ taken given d.
      let parts = AllDue-append ss ts taken given d in
      ElementsDue-append es e taken parts.0 given (b.due taken parts.0 parts.1.0) (m.due parts.0 given parts.1.1);
}

-- the samples of a list, from index 0 on
pub AreFrom-samples : (xs : List ℤ) → AreFrom (samples xs) (negsuc 0 +ℤ pos 1) xs
AreFrom-samples xs = record { value = λ k less. ap (samples xs) (sym (zero_plus k)) }
  where
    zero_plus : (k : ℕ) → negsuc 0 +ℤ pos 1 +ℤ pos k ≡ pos k
    zero_plus k = omega (arith, ints)

pub gives_values : (elements : List Element) (old new : List Stage) (xs out : List ℤ) → Begin elements old → AllAdvance old xs [] out new → GivesValues elements xs out
gives_values elements old new xs out b a = record {
  law = λ fit.
      let given = a.law (samples xs) (val elements xs) (negsuc 0) (pos 0) (b.law (samples xs) (Starts-samples xs) fit) (AreFrom-samples xs) in
      let time : negsuc 0 +ℤ pos (length xs) +ℤ pos 1 ≡ pos (length xs) = omega (arith, ints) in
      let many : given.0 ≡ pos given.1.0.count = omega (arith, ints, given.1.0.to) in
      let all = a.due (pos (length xs)) given.0 (subst (λ (t : ℤ). AllDue new t given.0) time (all_due new (samples xs) (val elements xs) (negsuc 0 +ℤ pos (length xs)) given.0 given.1.1)) in
      (given.1.0.count, (given.1.0.grown, subst (λ (g : ℤ). ElementsDue elements (pos (length xs)) g) many (b.due (pos (length xs)) given.0 all)));
}

-- ---- elements

pub size_from : (most : ℕ) (z : ℤ) → IsFromOne most z → (1 ≤ size z) × (size z ≤ most)
size_from most (pos n) h = (omega (arith, ints, h.0), omega (arith, ints, h.1))
size_from most (negsuc n) h = absurd (omega (arith, ints, h.0))

makes_one : (e : Element) (s : Stage) → ((x : Sequence) → Starts x → Follows s x (apply e x) (negsuc 0) (pos 0)) → ((x : Sequence) → Starts x → Starts (apply e x))
    → ((taken given : ℤ) → StageDue s taken given → IsDue (raised_by e) (lowered_by e) taken given) → Makes e (s ∷ [])
makes_one e s f starts due = record {
  follows = λ x st within fit. AllFollow-one s x (apply e x) (f x st) fit;
  starts = starts;
  due = λ taken given d. subst (λ (k : ℤ). IsDue (raised_by e) (lowered_by e) taken k) (sym d.1.1) (due taken d.0 d.1.0);
}

pub makes_filter : (taps : List ℤ) (form : Form) (group : Fir) → Begins taps 1 1 group → Makes (Filter taps form) (Group group ∷ [])
makes_filter taps form group b = makes_one (Filter taps form) (Group group) (λ x s. group_follows taps 1 1 group b x (filter taps x) s (fir-filter taps x)) (λ x s. Starts-filter taps x s) (group_due taps 1 1 group b)

up_follows : (factor : ℤ) (n : ℕ) (group : Fir) → n ≡ size factor → Begins (pos 1 ∷ []) n 1 group → (x : Sequence) → Starts x → Follows (Group group) x (up (size factor) x) (negsuc 0) (pos 0)
up_follows factor n group e b x s = group_follows (pos 1 ∷ []) n 1 group b x (up (size factor) x) s (fir-up n x ∙ ap (λ (m : ℕ). up m x) e)

down_follows : (factor : ℤ) (n : ℕ) (group : Fir) → n ≡ size factor → Begins (pos 1 ∷ []) 1 n group → (x : Sequence) → Starts x → Follows (Group group) x (down (size factor) x) (negsuc 0) (pos 0)
down_follows factor n group e b x s = group_follows (pos 1 ∷ []) 1 n group b x (down (size factor) x) s (fir-down n x ∙ ap (λ (m : ℕ). down m x) e)

pub makes_up : (factor : ℤ) (n : ℕ) (group : Fir) → n ≡ size factor → Begins (pos 1 ∷ []) n 1 group → Makes (Up factor) (Group group ∷ [])
makes_up factor n group e b = makes_one (Up factor) (Group group) (up_follows factor n group e b) (λ x s. Starts-up (size factor) x s)
    (λ taken given d. subst (λ (k : ℕ). IsDue k 1 taken given) e (group_due (pos 1 ∷ []) n 1 group b taken given d))

pub makes_down : (factor : ℤ) (n : ℕ) (group : Fir) → n ≡ size factor → 1 ≤ size factor → Begins (pos 1 ∷ []) 1 n group → Makes (Down factor) (Group group ∷ [])
makes_down factor n group e h b = makes_one (Down factor) (Group group) (down_follows factor n group e b) (λ x s. Starts-down (size factor) x h s)
    (λ taken given d. subst (λ (k : ℕ). IsDue 1 k taken given) e (group_due (pos 1 ∷ []) 1 n group b taken given d))

pub makes_round : (shift : ℤ) (mode : Mode) (rounding : Rounding) → 1 ≤ size shift → rounding.mode ≡ mode → rounding.shift ≡ size shift → Makes (Round shift mode) (Rounded rounding ∷ [])
makes_round shift mode rounding h m e = makes_one (Round shift mode) (Rounded rounding)
    (λ x s. (sym (ap (λ (n : ℕ). round rounding.mode n x) e ∙ ap (λ (k : Mode). round k (size shift) x) m), refl))
    (λ x s. record { before = λ i. ap (round_value mode (size shift)) (s.before i) ∙ ap (λ (z : Sequence). z (pos 0)) (apply-zeros (Round shift mode) h) })
    due_one

pub makes_clip : (bits : ℤ) (clipping : Clipping) → clipping.bits ≡ size bits → Makes (Clip bits) (Clipped clipping ∷ [])
makes_clip bits clipping e = makes_one (Clip bits) (Clipped clipping)
    (λ x s. (sym (ap (λ (n : ℕ). clip n x) e), refl))
    (λ x s. record { before = λ i. ap (clip_value (size bits)) (s.before i) ∙ clip_zero (size bits) })
    due_one

-- ---- CICs

Starts-times : (count : ℕ) (taps : List ℤ) (x : Sequence) → Starts x → Starts (filter_times count taps x)
Starts-times zero taps x s = s
Starts-times (suc count) taps x s = Starts-filter taps (filter_times count taps x) (Starts-times count taps x s)

pub SumsMake-none : (width : ℕ) → SumsMake width 0 []
SumsMake-none width = record { law = λ x s fit. (refl, refl); due = λ taken given d. d }

pub SumsMake-more : (width count : ℕ) (ss : List Stage) (sum : MovingSum) → SumsMake width count ss → SumBegins width sum → SumsMake width (count + 1) (ss ++ Sum sum ∷ [])
SumsMake-more width count ss sum m b =
    let e : count + 1 ≡ suc count = omega arith in
    subst (λ (k : ℕ). SumsMake width k (ss ++ Sum sum ∷ [])) (sym e) (record {
      law = λ x s fit.
          let y = filter_times count (ones width) x in
          AllFollow-append ss (Sum sum ∷ []) x y (filter (ones width) y) (negsuc 0) (pos 0) (pos 0) (m.law x s (λ k less. fit k (omega arith)))
          (AllFollow-one (Sum sum) y (filter (ones width) y) (sum_follows width sum b y (Starts-times count (ones width) x s)) (fit count (omega arith)));
      due = λ taken given d.
          let parts = AllDue-append ss (Sum sum ∷ []) taken given d in
          parts.1.1.1.1 ∙ parts.1.1.1.0 ∙ m.due taken parts.0 parts.1.0;
    })

pub makes_cic_down : (factor stages delay : ℤ) (n width count : ℕ) (sums : List Stage) (group : Fir) → n ≡ size factor → width ≡ size factor * size delay → count ≡ size stages → 1 ≤ size factor
    → SumsMake width count sums → Begins (pos 1 ∷ []) 1 n group → Makes (CicDown factor stages delay) (sums ++ Group group ∷ [])
makes_cic_down factor stages delay n width count sums group e w c h m b =
    let made = subst (λ (k : ℕ). SumsMake k (size stages) sums) w (subst (λ (k : ℕ). SumsMake width k sums) c m) in
    let taps = ones (size factor * size delay) in
    record {
      follows = λ x s within fit.
          let y = filter_times (size stages) taps x in
          AllFollow-append sums (Group group ∷ []) x y (down (size factor) y) (negsuc 0) (pos 0) (pos 0) (made.law x s within)
          (AllFollow-one (Group group) y (down (size factor) y) (down_follows factor n group e b y (Starts-times (size stages) taps x s)) fit);
      starts = λ x s. Starts-down (size factor) (filter_times (size stages) taps x) h (Starts-times (size stages) taps x s);
      due = λ taken given d.
          let parts = AllDue-append sums (Group group ∷ []) taken given d in
          let last = group_due (pos 1 ∷ []) 1 n group b parts.0 parts.1.1.0 parts.1.1.1.0 in
          let from : IsDue 1 n taken parts.1.1.0 = subst (λ (t : ℤ). IsDue 1 n t parts.1.1.0) (m.due taken parts.0 parts.1.0) last in
          subst (λ (k : ℕ). IsDue 1 k taken given) e (subst (λ (g : ℤ). IsDue 1 n taken g) (sym parts.1.1.1.1) from);
    }

pub makes_cic_up : (factor stages delay : ℤ) (n width count : ℕ) (sums : List Stage) (group : Fir) → n ≡ size factor → width ≡ size factor * size delay → count ≡ size stages
    → SumsMake width count sums → Begins (pos 1 ∷ []) n 1 group → Makes (CicUp factor stages delay) ((Group group ∷ []) ++ sums)
makes_cic_up factor stages delay n width count sums group e w c m b =
    let made = subst (λ (k : ℕ). SumsMake k (size stages) sums) w (subst (λ (k : ℕ). SumsMake width k sums) c m) in
    let taps = ones (size factor * size delay) in
    record {
      follows = λ x s within fit.
          let y = up (size factor) x in
          AllFollow-append (Group group ∷ []) sums x y (filter_times (size stages) taps y) (negsuc 0) (pos 0) (pos 0)
          (AllFollow-one (Group group) x y (up_follows factor n group e b x s) within.0) (made.law y (Starts-up (size factor) x s) within.1);
      starts = λ x s. Starts-times (size stages) taps (up (size factor) x) (Starts-up (size factor) x s);
      due = λ taken given d.
          let first = group_due (pos 1 ∷ []) n 1 group b taken d.0 d.1.0 in
          subst (λ (k : ℕ). IsDue k 1 taken given) e (subst (λ (g : ℤ). IsDue n 1 taken g) (sym (m.due d.0 given d.1.1)) first);
    }

-- the elements so far, as stages
pub record Built (es : List Element) (ss : List Stage) : Type 0 where
  pub begin : Begin es ss
  pub starts : (x : Sequence) → Starts x → Starts (chain es x)

pub Built-none : Built [] []
Built-none = record { begin = Begin-none; starts = λ x s. s }

pub Built-more : (es : List Element) (e : Element) (ss new : List Stage) → Built es ss → Adds (Makes e) ss new → Built (es ++ e ∷ []) new
Built-more es e ss new b a = subst (λ (ts : List Stage). Built (es ++ e ∷ []) ts) (sym a.1.0) (record {
  begin = Begin-more es e ss a.0 b.begin b.starts a.1.1;
  starts = λ x s. subst (λ (y : Sequence). Starts y) (sym (chain-append es (e ∷ []) x)) (a.1.1.starts (chain es x) (b.starts x s));
})
