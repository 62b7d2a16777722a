-- The linear registers of a plan's module have least widths, where samples are known that need them.
use Rattle.std.proofs.Common.{◌≡◌, ◌⊎◌, inl, inr, ℕ, zero, suc, ◌+◌, ◌<◌, ◌≤◌, Bool, true, false, cond, List, [], ◌∷◌, ◌++◌, map, take, None, Some, slice_get, refl, sym, ◌∙◌, subst, arith}
use Rattle.std.specs.Prelude.{nat_eq, max}
use Rattle.std.proofs.lemmas.Bool.{eqb-true, eq-eqb, cases_lt}
use Rattle.std.proofs.Math.Nat.{le-max_right, max-le, max-eq_left}
use Rattle.mr_values.specs.declared.plan.Element.{Element}
use Rattle.mr_values.specs.Timing.{Group, Fir, DownCic, UpCic, Rounding, Clipping, Stream, after, groups, input}
use Rattle.plan_check.specs.Groups.{size_of}
use Rattle.stage_law.specs.Registers.{HeldSum, StageRegister, Telling, bits_for, bits_of, needing}
use Rattle.verilog_tree.specs.Tree.{Design}
use Rattle.chain_build.specs.Extremes.{HasExtremes}
use Rattle.chain_build.specs.Linear.{LinearRegister, PrefixStream, linear, linear_from, register_of, prefix_range, group_registers, output_register}
use Rattle.filter_text.specs.Registers.{HasLinearRegisters, IsLeastRegister, AreLeastRegisters}
use Rattle.filter_text.proofs.SumExtreme.{sum_extreme}

-- ---- one bit is enough, or a sum needs all bits

max_is : (a b : ℕ) → (max a b ≡ a) ⊎ (max a b ≡ b)
max_is a b = by (cases_lt a b)
  where
    by : (a < b) ⊎ (b ≤ a) → (max a b ≡ a) ⊎ (max a b ≡ b)
    by (inl lt) = let most : max a b ≤ b = max-le (omega arith) (omega arith) in inr (omega (arith, most, le-max_right a b))
    by (inr le) = inl (max-eq_left le)

false_true : false ≡ true → ⊥
false_true h = cc

-- some sum needs as many bits as all of them
sum_needs : (range : Telling) (sums : List HeldSum) (bits : ℕ) → bits_of range sums ≡ bits → (bits ≡ 1 → ⊥) → (s : HeldSum) × (needing range bits sums ≡ Some s)
sum_needs range [] bits is more = absurd (more (sym is))
sum_needs range (s ∷ sums) bits is more =
    by (nat_eq (bits_for (range s.form s.class)) bits) refl (max_is (bits_for (range s.form s.class)) (bits_of range sums)) (λ same. sum_needs range sums bits same more)
  where
    by : (t : Bool) → nat_eq (bits_for (range s.form s.class)) bits ≡ t
        → (max (bits_for (range s.form s.class)) (bits_of range sums) ≡ bits_for (range s.form s.class)) ⊎ (max (bits_for (range s.form s.class)) (bits_of range sums) ≡ bits_of range sums)
        → (bits_of range sums ≡ bits → (one : HeldSum) × (needing range bits sums ≡ Some one))
        → (one : HeldSum) × (cond t (Some s) (needing range bits sums) ≡ Some one)
    by true e which later = (s, refl)
    by false e (inl own) later = absurd (false_true (sym e ∙ eq-eqb (bits_for (range s.form s.class)) bits (sym own ∙ is)))
    by false e (inr rest) later = later (sym rest ∙ is)

needs : (range : Telling) (sums : List HeldSum) (bits : ℕ) → bits_of range sums ≡ bits → (bits ≡ 1) ⊎ ((s : HeldSum) × (cond (nat_eq bits 1) None (needing range bits sums) ≡ Some s))
needs range sums bits is = by (nat_eq bits 1) refl
  where
    by : (t : Bool) → nat_eq bits 1 ≡ t → (bits ≡ 1) ⊎ ((s : HeldSum) × (cond t None (needing range bits sums) ≡ Some s))
    by true e = inl (eqb-true bits 1 e)
    by false e = inr (sum_needs range sums bits is (λ one. false_true (sym e ∙ eq-eqb bits 1 one)))

-- ---- the registers of a plan

abbrev IsSized : LinearRegister → Type 0
IsSized r = (r.width ≡ 1) ⊎ ((s : HeldSum) × (r.needed ≡ Some s))

-- an element of two lists, one behind the other, is one of either
parted : {A : Type 0} (xs ys : List A) (i : ℕ) (a : A) → slice_get (xs ++ ys) i ≡ Some a → (slice_get xs i ≡ Some a) ⊎ ((j : ℕ) × (slice_get ys j ≡ Some a))
parted [] ys i a is = inr (i, is)
parted (x ∷ xs) ys zero a is = inl is
parted (x ∷ xs) ys (suc i) a is = parted xs ys i a is

module _ (w : ℕ) (elements : List Element) where
  of_stage : (group : ℕ) (stream : PrefixStream) (rs : List StageRegister) (i : ℕ) (r : LinearRegister) → slice_get (map (register_of w group stream) rs) i ≡ Some r → IsSized r
  of_stage group stream [] i r at = absurd (cc)
  of_stage group stream (x ∷ rs) zero r at =
      let is : register_of w group stream x ≡ r = cc in
      subst IsSized is (needs (prefix_range w stream.elements) x.sums (bits_of (prefix_range w stream.elements) x.sums) refl)
  of_stage group stream (x ∷ rs) (suc i) r at = of_stage group stream rs i r at

  of_group : (number taken : ℕ) (s : Stream) (g : Group) (gs : List Group) → ((j : ℕ) (r : LinearRegister) → slice_get (linear_from w elements (number + 1) (taken + size_of g) (after g s) gs) j ≡ Some r → IsSized r)
      → (i : ℕ) (r : LinearRegister) → slice_get (map (register_of w number (record { elements = take taken elements; period = s.period; offset = s.offset })) (group_registers g s) ++ linear_from w elements (number + 1) (taken + size_of g) (after g s) gs) i ≡ Some r → IsSized r
  of_group number taken s g gs rest i r at =
      by (parted (map (register_of w number (record { elements = take taken elements; period = s.period; offset = s.offset })) (group_registers g s)) (linear_from w elements (number + 1) (taken + size_of g) (after g s) gs) i r at)
    where
      by : (slice_get (map (register_of w number (record { elements = take taken elements; period = s.period; offset = s.offset })) (group_registers g s)) i ≡ Some r) ⊎ ((j : ℕ) × (slice_get (linear_from w elements (number + 1) (taken + size_of g) (after g s) gs) j ≡ Some r)) → IsSized r
      by (inl own) = of_stage number (record { elements = take taken elements; period = s.period; offset = s.offset }) (group_registers g s) i r own
      by (inr (j, later)) = rest j r later

  of_groups : (number taken : ℕ) (s : Stream) (gs : List Group) (i : ℕ) (r : LinearRegister) → slice_get (linear_from w elements number taken s gs) i ≡ Some r → IsSized r
  of_groups number taken s [] i r at = of_stage 0 (record { elements = elements; period = s.period; offset = s.offset }) (output_register ∷ []) i r at
  of_groups number taken s (Rounding shift mode ∷ gs) i r at = absurd (cc)
  of_groups number taken s (Clipping bits ∷ gs) i r at = absurd (cc)
  of_groups number taken s (Fir up f down ∷ gs) i r at = of_group number taken s (Fir up f down) gs (of_groups (number + 1) (taken + size_of (Fir up f down)) (after (Fir up f down) s) gs) i r at
  of_groups number taken s (DownCic factor stages delay ∷ gs) i r at =
      of_group number taken s (DownCic factor stages delay) gs (of_groups (number + 1) (taken + size_of (DownCic factor stages delay)) (after (DownCic factor stages delay) s) gs) i r at
  of_groups number taken s (UpCic factor stages delay ∷ gs) i r at =
      of_group number taken s (UpCic factor stages delay) gs (of_groups (number + 1) (taken + size_of (UpCic factor stages delay)) (after (UpCic factor stages delay) s) gs) i r at

-- one bit is enough for a linear register, or some sum needs its width
pub linear_sized : (width ticks : ℕ) (elements : List Element) (i : ℕ) (r : LinearRegister) → slice_get (linear width ticks elements) i ≡ Some r → (r.width ≡ 1) ⊎ ((s : HeldSum) × (r.needed ≡ Some s))
linear_sized width ticks elements i r at = of_groups width elements 1 0 (input width ticks) (groups elements) i r at

-- ---- the whole

pub least_text : {width ticks : ℕ} {elements : List Element} → 1 ≤ ticks → (d : Design) → HasLinearRegisters elements width ticks d → HasExtremes width ticks elements → AreLeastRegisters elements width ticks d
least_text {width} {ticks} {elements} some d has extremes = record { each = λ i r at. by i r at (linear_sized width ticks elements i r at) }
  where
    by : (i : ℕ) (r : LinearRegister) → slice_get (linear width ticks elements) i ≡ Some r → (r.width ≡ 1) ⊎ ((s : HeldSum) × (r.needed ≡ Some s)) → IsLeastRegister width ticks d r
    by i r at (inl one) = inl one
    by i r at (inr (s, is)) =
        let its = extremes.each i r s at is in
        inr (its.0, its.1, record { xs = its.2.xs; extreme = sum_extreme some d r s its.2.xs its.0 its.1 (has.each i r at) is its.2.input })
