-- The weights of a cascade are those of the filters that it stands for.
use Rattle.std.proofs.Common.{◌≡◌, ℕ, zero, suc, ◌+◌, ◌-◌, ◌*◌, ◌≤◌, ◌^◌, List, [], ◌∷◌, refl, ◌∙◌, ap, arith, unsigned_abs, ℤ, pos, negsuc, ◌+ℤ◌, ◌-ℤ◌}
use Rattle.std.proofs.Math.Path.{fun_ext}
use Rattle.std.proofs.Math.Nat.{pow-suc, pow-zero, mul-le-mul_left}
use Rattle.std.proofs.lemmas.Int.{ints}
use Rattle.mr_values.specs.Sequence.{Sequence, filter, ones, filter_times, phase}
use Rattle.stage_law.specs.Streams.{magnitudes}
use Rattle.running_sums.specs.Weights.{added, behind, moving, cic_weights}
use Rattle.running_sums.proofs.MovingLemmas.{moves_filter, moves_as_ones}

filter-one : (x : Sequence) → filter (pos 1 ∷ []) x ≡ x
filter-one x = fun_ext (λ n. let e : x (n -ℤ pos 0) ≡ x n = ap x (omega (arith, ints)) in omega (arith, ints, e))

pub filter-sums : (stages m : ℕ) (x : Sequence) (n : ℤ) → filter (cic_weights stages m) x n ≡ filter_times stages (ones m) x n
filter-sums stages m x n =
    ap (λ (y : Sequence). y n)
    (moves_filter stages 1 m (pos 1 ∷ []) x ∙ moves_as_ones stages m (filter (pos 1 ∷ []) x) ∙ ap (filter_times stages (ones m)) (filter-one x))

-- ---- how much the weights come to

unsigned_abs-sum : (x y : ℤ) → unsigned_abs (x +ℤ y) ≤ unsigned_abs x + unsigned_abs y
unsigned_abs-sum x y = at x y (x +ℤ y) refl
  where
    at : (x y z : ℤ) → x +ℤ y ≡ z → unsigned_abs z ≤ unsigned_abs x + unsigned_abs y
    at (pos a) (pos b) (pos c) e = omega (arith, ints)
    at (pos a) (pos b) (negsuc c) e = omega (arith, ints)
    at (pos a) (negsuc b) (pos c) e = omega (arith, ints)
    at (pos a) (negsuc b) (negsuc c) e = omega (arith, ints)
    at (negsuc a) (pos b) (pos c) e = omega (arith, ints)
    at (negsuc a) (pos b) (negsuc c) e = omega (arith, ints)
    at (negsuc a) (negsuc b) (pos c) e = omega (arith, ints)
    at (negsuc a) (negsuc b) (negsuc c) e = omega (arith, ints)

magnitudes-added : (a b : List ℤ) → magnitudes (added a b) ≤ magnitudes a + magnitudes b
magnitudes-added [] b = omega arith
magnitudes-added (x ∷ a) [] = omega arith
magnitudes-added (x ∷ a) (y ∷ b) = omega (arith, magnitudes-added a b, unsigned_abs-sum x y)

magnitudes-behind : (d : ℕ) (a : List ℤ) → magnitudes (behind d a) ≡ magnitudes a
magnitudes-behind d [] = refl
magnitudes-behind zero (x ∷ a) = refl
magnitudes-behind (suc d) (x ∷ a) = omega (arith, magnitudes-behind d (x ∷ a))

magnitudes-moving : (stride count : ℕ) (w : List ℤ) → magnitudes (moving stride count w) ≤ count * magnitudes w
magnitudes-moving stride zero w = omega arith
magnitudes-moving stride (suc count) w =
    omega (arith, magnitudes-added w (behind stride (moving stride count w)), magnitudes-behind stride (moving stride count w), magnitudes-moving stride count w)

pub magnitudes-sums : (stages m : ℕ) → magnitudes (cic_weights stages m) ≤ m ^ stages
magnitudes-sums zero m = omega (arith, pow-zero m)
magnitudes-sums (suc stages) m =
    let before : m * magnitudes (cic_weights stages m) ≤ m * m ^ stages = mul-le-mul_left m (magnitudes-sums stages m) in
    omega (arith, magnitudes-moving 1 m (cic_weights stages m), before, pow-suc m stages)

pub magnitudes-phase : (factor r : ℕ) (w : List ℤ) → magnitudes (phase factor r w) ≤ magnitudes w
magnitudes-phase factor r [] = omega arith
magnitudes-phase factor zero (c ∷ cs) = omega (arith, magnitudes-phase factor (factor - 1) cs)
magnitudes-phase factor (suc r) (c ∷ cs) = omega (arith, magnitudes-phase factor r cs)
