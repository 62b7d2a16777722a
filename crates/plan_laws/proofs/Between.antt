-- Sequences between two bounds, through an element.
use Rattle.std.proofs.Common.{◌≡◌, ◌∙◌, ℕ, zero, suc, ◌-◌, ◌^◌, ◌<◌, ◌≤◌, refl, sym, ap, arith, subst, List, [], ◌∷◌, ℤ, pos, negsuc, ◌+ℤ◌, ◌-ℤ◌, ◌*ℤ◌, ◌≤ℤ◌, Bool, true, false, cond, nat_eq}
use Rattle.std.proofs.lemmas.Int.{ints}
use Rattle.std.proofs.lemmas.Nat.{pow_pos}
use Rattle.std.proofs.Math.Nat.{pow-suc, pow-zero}
use Rattle.mr_values.specs.declared.plan.Mode.{Mode}
use Rattle.mr_values.specs.declared.plan.Mode.TheVariants.{HalfUp, HalfEven, Floor}
use Rattle.mr_values.specs.Width.{floor_quotient, floor_remainder}
use Rattle.mr_values.specs.Sequence.{Sequence, weighted_sum, up, down, filter, filter_times, ones}
use Rattle.mr_values.specs.Value.{round_value, round, clip}
use Rattle.mr_values.specs.Rounding.{clip_value}
use Rattle.mr_values.specs.Timing.{least_term, low_end, high_end}
use Rattle.mr_values.proofs.Ring.{*ℤ-+ℤ, *ℤ_assoc}
use Rattle.mr_values.proofs.HalfEvenLemmas.{half_even_rises}
use Rattle.mr_values.proofs.ClipLemmas.{clip_rises}
use Rattle.plan_check.proofs.Narrow.{div_mono}
use Rattle.plan_laws.specs.Laws.{IsBetween}

pub times_up : (c : ℕ) (a b : ℤ) → a ≤ℤ b → (pos c *ℤ a) ≤ℤ (pos c *ℤ b)
times_up c a b h = by_gap (b -ℤ a) refl
  where
    by_gap : (d : ℤ) → b -ℤ a ≡ d → (pos c *ℤ a) ≤ℤ (pos c *ℤ b)
    by_gap (pos d) e =
        let is : b ≡ a +ℤ pos d = omega (arith, ints) in
        omega (arith, ints, ap (λ (z : ℤ). pos c *ℤ z) is, *ℤ-+ℤ (pos c) a (pos d))
    by_gap (negsuc d) e = absurd (omega (arith, ints))

times_down : (c : ℕ) (a b : ℤ) → a ≤ℤ b → (negsuc c *ℤ b) ≤ℤ (negsuc c *ℤ a)
times_down c a b h = omega (arith, ints, times_up (suc c) a b h)

term-low : (c low high z : ℤ) → IsBetween low high z → least_term low high c ≤ℤ (c *ℤ z)
term-low (pos c) low high z h = times_up c low z h.least
term-low (negsuc c) low high z h = times_down c z high h.greatest

term-high : (c low high z : ℤ) → IsBetween low high z → (c *ℤ z) ≤ℤ least_term high low c
term-high (pos c) low high z h = times_up c z high h.greatest
term-high (negsuc c) low high z h = times_down c low z h.least

sum-low : (cs : List ℤ) (low high : ℤ) (f : ℕ → ℤ) → ((k : ℕ) → IsBetween low high (f k)) → low_end cs low high ≤ℤ weighted_sum cs f
sum-low [] low high f h = omega (arith, ints)
sum-low (c ∷ cs) low high f h = omega (arith, ints, term-low c low high (f zero) (h zero), sum-low cs low high (λ k. f (suc k)) (λ k. h (suc k)))

sum-high : (cs : List ℤ) (low high : ℤ) (f : ℕ → ℤ) → ((k : ℕ) → IsBetween low high (f k)) → weighted_sum cs f ≤ℤ high_end cs low high
sum-high [] low high f h = omega (arith, ints)
sum-high (c ∷ cs) low high f h = omega (arith, ints, term-high c low high (f zero) (h zero), sum-high cs low high (λ k. f (suc k)) (λ k. h (suc k)))

-- every value of the sequence
abbrev pub AllBetween : ℤ → ℤ → Sequence → Type 0
AllBetween low high x = (n : ℤ) → IsBetween low high (x n)

pub between-filter : (taps : List ℤ) (low high : ℤ) (x : Sequence) → AllBetween low high x → AllBetween (low_end taps low high) (high_end taps low high) (filter taps x)
between-filter taps low high x h n = record {
  least = sum-low taps low high (λ k. x (n -ℤ pos k)) (λ k. h (n -ℤ pos k));
  greatest = sum-high taps low high (λ k. x (n -ℤ pos k)) (λ k. h (n -ℤ pos k));
}

pub between-up : (factor : ℕ) (low high : ℤ) (x : Sequence) → IsBetween low high (pos 0) → AllBetween low high x → AllBetween low high (up factor x)
between-up factor low high x none h m = at (nat_eq (floor_remainder m factor) 0)
  where
    at : (b : Bool) → IsBetween low high (cond b (x (floor_quotient m factor)) (pos 0))
    at true = h (floor_quotient m factor)
    at false = none

pub between-down : (factor : ℕ) (low high : ℤ) (x : Sequence) → AllBetween low high x → AllBetween low high (down factor x)
between-down factor low high x h n = h (n *ℤ pos factor)

-- ---- moving sums

low_end-ones : (n : ℕ) (low high : ℤ) → low_end (ones n) low high ≡ pos n *ℤ low
low_end-ones zero low high = omega (arith, ints)
low_end-ones (suc n) low high = omega (arith, ints, low_end-ones n low high)

high_end-ones : (n : ℕ) (low high : ℤ) → high_end (ones n) low high ≡ pos n *ℤ high
high_end-ones zero low high = omega (arith, ints)
high_end-ones (suc n) low high = omega (arith, ints, high_end-ones n low high)

power-next : (n k : ℕ) (z : ℤ) → pos n *ℤ (pos (n ^ k) *ℤ z) ≡ pos (n ^ suc k) *ℤ z
power-next n k z =
    let e : pos n *ℤ pos (n ^ k) ≡ pos (n ^ suc k) = omega (arith, ints, pow-suc n k) in
    sym (*ℤ_assoc (pos n) (pos (n ^ k)) z) ∙ ap (λ (m : ℤ). m *ℤ z) e

one_time : (z : ℤ) → pos 1 *ℤ z ≡ z
one_time z = omega (arith, ints)

pub between-moving : (stages n : ℕ) (low high : ℤ) (x : Sequence) → AllBetween low high x → AllBetween (pos (n ^ stages) *ℤ low) (pos (n ^ stages) *ℤ high) (filter_times stages (ones n) x)
between-moving zero n low high x h m = rw (pow-zero n, one_time low, one_time high) (h m)
between-moving (suc stages) n low high x h m =
    let before = between-moving stages n low high x h in
    let sums = between-filter (ones n) (pos (n ^ stages) *ℤ low) (pos (n ^ stages) *ℤ high) (filter_times stages (ones n) x) before m in
    record {
      least = subst (λ (z : ℤ). z ≤ℤ filter (ones n) (filter_times stages (ones n) x) m) (low_end-ones n _ _ ∙ power-next n stages low) sums.least;
      greatest = subst (λ (z : ℤ). filter (ones n) (filter_times stages (ones n) x) m ≤ℤ z) (high_end-ones n _ _ ∙ power-next n stages high) sums.greatest;
    }

-- ---- roundings

floor_mono : (d : ℕ) (a b : ℤ) → 0 < d → a ≤ℤ b → floor_quotient a d ≤ℤ floor_quotient b d
floor_mono d (pos a) (pos b) some h = omega (arith, ints, div_mono a b d some (omega (arith, ints)))
floor_mono d (pos a) (negsuc b) some h = absurd (omega (arith, ints))
floor_mono d (negsuc a) (pos b) some h = omega (arith, ints)
floor_mono d (negsuc a) (negsuc b) some h = omega (arith, ints, div_mono b a d some (omega (arith, ints)))

round_mono : (mode : Mode) (shift : ℕ) (a b : ℤ) → 1 ≤ shift → a ≤ℤ b → round_value mode shift a ≤ℤ round_value mode shift b
round_mono HalfUp shift a b some h = floor_mono (2 ^ shift) (a +ℤ pos (2 ^ (shift - 1))) (b +ℤ pos (2 ^ (shift - 1))) (pow_pos shift) (omega (arith, ints))
round_mono HalfEven shift a b some h = half_even_rises shift a b some h
round_mono Floor shift a b some h = floor_mono (2 ^ shift) a b (pow_pos shift) h

pub between-round : (mode : Mode) (shift : ℕ) (low high : ℤ) (x : Sequence) → 1 ≤ shift → AllBetween low high x → AllBetween (round_value mode shift low) (round_value mode shift high) (round mode shift x)
between-round mode shift low high x some h n = record {
  least = round_mono mode shift low (x n) some (h n).least;
  greatest = round_mono mode shift (x n) high some (h n).greatest;
}

pub between-clip : (bits : ℕ) (low high : ℤ) (x : Sequence) → AllBetween low high x → AllBetween (clip_value bits low) (clip_value bits high) (clip bits x)
between-clip bits low high x h n = record { least = clip_rises bits low (x n) (h n).least; greatest = clip_rises bits (x n) high (h n).greatest }
