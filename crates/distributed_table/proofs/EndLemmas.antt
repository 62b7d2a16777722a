-- How great the ends of sums are.
use Rattle.std.proofs.Common.{◌≡◌, ℕ, zero, suc, ◌+◌, ◌*◌, ◌-◌, ◌/◌, ◌%◌, ◌^◌, ◌≤◌, ◌<◌, min, max, List, [], ◌∷◌, length, take, drop, refl, ap, subst, arith, ℤ, pos, negsuc, ◌≤ℤ◌}
use Rattle.std.specs.Prelude.{unsigned_abs}
use Rattle.std.proofs.lemmas.Int.{ints}
use Rattle.std.proofs.Math.Nat.{mul-le-mul_left}
use Rattle.mr_values.specs.Timing.{ceil_div, least_term, low_end, high_end}
use Rattle.mr_values.specs.Width.{FitsWidth, IsLeastWidth}
use Rattle.std.specs.Int.{div_ceil}
use Rattle.std.proofs.lemmas.Nat.{div-add-mod', div-mul-add, mod_below}
use Rattle.stage_law.specs.Streams.{magnitudes}
use Rattle.span_ranges.proofs.SumLemmas.{high_end-turned, term-small}
use Rattle.bit_serial.specs.Ends.{AllWithin}
use Rattle.bit_serial.specs.Serial.{AllFit, sum_above}
use Rattle.bit_serial.specs.Tables.{run}
use Rattle.bit_serial.proofs.EndLemmas.{serial_ends}
use Rattle.distributed_table.proofs.ChoiceLemmas.{fits_between, triangle}

-- ---- magnitudes

pub magnitudes-take : (n : ℕ) (cs : List ℤ) → magnitudes (take n cs) ≤ magnitudes cs
magnitudes-take zero cs = omega arith
magnitudes-take (suc n) [] = omega arith
magnitudes-take (suc n) (c ∷ cs) = let rest = magnitudes-take n cs in omega (arith, rest)

pub magnitudes-drop : (n : ℕ) (cs : List ℤ) → magnitudes (drop n cs) ≤ magnitudes cs
magnitudes-drop zero cs = omega arith
magnitudes-drop (suc n) [] = omega arith
magnitudes-drop (suc n) (c ∷ cs) = let rest = magnitudes-drop n cs in omega (arith, rest)

pub magnitudes-run : (g : ℕ) (taps : List ℤ) (number : ℕ) → magnitudes (run g taps number) ≤ magnitudes taps
magnitudes-run g taps number = let first = magnitudes-take g (drop (number * g) taps) in let second = magnitudes-drop (number * g) taps in omega (arith, first, second)

pub room_run : (m bound g : ℕ) (taps : List ℤ) (number : ℕ) → m * magnitudes taps ≤ bound → m * magnitudes (run g taps number) ≤ bound
room_run m bound g taps number h = let less = mul-le-mul_left m (magnitudes-run g taps number) in omega (arith, less)

-- ---- ends

pub end_small : (cs : List ℤ) (low high : ℤ) → unsigned_abs (low_end cs low high) ≤ max (unsigned_abs low) (unsigned_abs high) * magnitudes cs
end_small [] low high = omega arith
end_small (c ∷ cs) low high =
    let m = max (unsigned_abs low) (unsigned_abs high) in
    let first = term-small c low high in
    let rest = end_small cs low high in
    let both = triangle (least_term low high c) (low_end cs low high) in
    omega (arith, first, rest, both)

small_fits : (v : ℤ) → unsigned_abs v ≤ 2 ^ 125 → FitsWidth 127 v
small_fits (pos n) h = record { low = omega (arith, ints); high = omega (arith, ints) }
small_fits (negsuc n) h = record { low = omega (arith, ints); high = omega (arith, ints) }

-- the width of a register for the sums of these taps
pub width_small : (cs : List ℤ) (low high : ℤ) (width : ℕ) → max (unsigned_abs low) (unsigned_abs high) * magnitudes cs ≤ 2 ^ 125 → IsLeastWidth (low_end cs low high) (low_end cs high low) width → width ≤ 127
width_small cs low high width h w =
    let a = end_small cs low high in
    let b = end_small cs high low in
    let turned : max (unsigned_abs high) (unsigned_abs low) ≡ max (unsigned_abs low) (unsigned_abs high) = omega arith in
    let c = ap (λ (m : ℕ). m * magnitudes cs) turned in
    w.least 127 (omega arith) (small_fits (low_end cs low high) (omega (arith, a))) (small_fits (low_end cs high low) (omega (arith, b, c)))

pub above_fits : (cs : List ℤ) (low high : ℤ) (x : ℕ → ℤ) (width : ℕ) → IsLeastWidth (low_end cs low high) (low_end cs high low) width → AllWithin cs low high x → low ≤ℤ pos 0 → pos 0 ≤ℤ high → (m : ℕ) → FitsWidth width (sum_above cs x m)
above_fits cs low high x width w h n p m =
    let e = serial_ends cs low high x h n p m in
    let t = high_end-turned cs low high in
    fits_between width (low_end cs low high) (sum_above cs x m) (high_end cs low high) w.holds_low (subst (FitsWidth width) t w.holds_high) e.0 e.1

-- ---- the places of a run

length-take_most : (n : ℕ) (cs : List ℤ) → length (take n cs) ≤ n
length-take_most zero cs = omega arith
length-take_most (suc n) [] = omega arith
length-take_most (suc n) (c ∷ cs) = let rest = length-take_most n cs in omega (arith, rest)

length-take_le : (n : ℕ) (cs : List ℤ) → length (take n cs) ≤ length cs
length-take_le zero cs = omega arith
length-take_le (suc n) [] = omega arith
length-take_le (suc n) (c ∷ cs) = let rest = length-take_le n cs in omega (arith, rest)

length-drop_left : (n : ℕ) (cs : List ℤ) (k : ℕ) → k < length (drop n cs) → n + k < length cs
length-drop_left zero cs k h = omega arith
length-drop_left (suc n) [] k h = absurd (omega arith)
length-drop_left (suc n) (c ∷ cs) k h = let rest = length-drop_left n cs k h in omega (arith, rest)

pub length-run : (g : ℕ) (taps : List ℤ) (number : ℕ) → length (run g taps number) ≤ g
length-run g taps number = length-take_most g (drop (number * g) taps)

pub in_taps : (g : ℕ) (taps : List ℤ) (number k : ℕ) → k < length (run g taps number) → number * g + k < length taps
in_taps g taps number k h = length-drop_left (number * g) taps k (let le = length-take_le g (drop (number * g) taps) in omega (arith, le))

pub run_fits : (w g : ℕ) (taps : List ℤ) (x : ℕ → ℤ) (number : ℕ) → AllFit w taps x → AllFit w (run g taps number) (λ k. x (number * g + k))
run_fits w g taps x number fits k inside = fits (number * g + k) (in_taps g taps number k inside)

pub run_within : (g : ℕ) (taps : List ℤ) (low high : ℤ) (x : ℕ → ℤ) (number : ℕ) → AllWithin taps low high x → AllWithin (run g taps number) low high (λ k. x (number * g + k))
run_within g taps low high x number within k inside = within (number * g + k) (in_taps g taps number k inside)

-- ---- how many runs

pub ceil_same : (n d : ℕ) → 1 ≤ d → div_ceil n d ≡ ceil_div n d
ceil_same n d some = by (n % d) refl
  where
    by : (r : ℕ) → n % d ≡ r → n / d + min 1 (n % d) ≡ (n + (d - 1)) / d
    by zero e =
        let whole : n + (d - 1) ≡ n / d * d + (d - 1) = omega (arith, div-add-mod' n d) in
        omega (arith, ap (λ (m : ℕ). m / d) whole, div-mul-add (n / d) d (d - 1) (omega arith))
    by (suc r) e =
        let whole : n + (d - 1) ≡ suc (n / d) * d + r = omega (arith, div-add-mod' n d) in
        omega (arith, ap (λ (m : ℕ). m / d) whole, div-mul-add (suc (n / d)) d r (omega (arith, mod_below n d (omega arith))))
