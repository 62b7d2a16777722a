-- Up and Down commute where they have no common factor.
use Rattle.std.proofs.Common.{◌≡◌, ℕ, zero, suc, ◌+◌, ◌-◌, ◌*◌, ◌/◌, ◌%◌, ◌<◌, ◌≤◌, inl, inr, ℤ, pos, ◌+ℤ◌, ◌*ℤ◌, arith, refl, sym, ◌∙◌, ap, subst}
use Rattle.std.proofs.Math.Path.{fun_ext}
use Rattle.std.proofs.Math.Nat.{dvd-mul_left_of_dvd, dvd-mul_right, dvd-sub, mul_comm}
use Rattle.std.proofs.lemmas.Bool.{cases_eq}
use Rattle.std.proofs.lemmas.Int.{ints}
use Rattle.std.proofs.lemmas.Nat.{div-add-mod', mod_below}
use Rattle.std.proofs.lemmas.Nat.Gcd.{IsGcd-from_zero, IsGcd-from_mod, same_from_IsGcd, le_of_dvd, dvd_of_mod-eq-zero}
use Rattle.std.specs.Int.{IsGcd, ◌∣◌}
use Rattle.mr_values.specs.Width.{floor_quotient, floor_remainder}
use Rattle.mr_values.specs.Sequence.{Sequence, up, down}
use Rattle.mr_values.proofs.Ring.{+ℤ-*ℤ, *ℤ_assoc}
use Rattle.mr_values.proofs.Division.{floor_split, floor_remainder_below}
use Rattle.mr_values.proofs.Polyphase.{up-at, up-between}
use lib.IntN.{*ℤ_comm, +ℤ_idr}

-- the greatest common divisor, which carries common multiples
record Common (a b : ℕ) : Type 0 where
  g : ℕ
  greatest : IsGcd a b g
  carries : (d n : ℕ) → d ∣ a * n → d ∣ b * n → d ∣ g * n

rest_divides : (a b d n : ℕ) → d ∣ a * n → d ∣ b * n → d ∣ (a % b) * n
rest_divides a b d n h k =
    let e : a * n - (a / b) * (b * n) ≡ (a % b) * n = omega (arith, ap (λ (m : ℕ). m * n) (div-add-mod' a b)) in
    subst (λ (m : ℕ). d ∣ m) e (dvd-sub d h (dvd-mul_left_of_dvd d k (a / b)))

euclid : (fuel a b : ℕ) → b ≤ fuel → Common a b
euclid fuel a zero le = record { g = a; greatest = IsGcd-from_zero a 0 refl; carries = λ d n h k. h }
euclid zero a (suc b) le = absurd (omega arith)
euclid (suc fuel) a (suc b) le =
    let rest = euclid fuel (suc b) (a % suc b) (omega (arith, mod_below a (suc b) (omega arith))) in
    record {
      g = rest.g;
      greatest = IsGcd-from_mod a (suc b) rest.g rest.greatest;
      carries = λ d n h k. rest.carries d n k (rest_divides a (suc b) d n h k);
    }

-- a factor prime to the divisor can be left out
left_out : (a b n : ℕ) → IsGcd a b 1 → a ∣ b * n → a ∣ n
left_out a b n prime h =
    let common = euclid b a b (omega arith) in
    let one : common.g ≡ 1 = same_from_IsGcd a b common.g 1 common.greatest prime in
    let e : common.g * n ≡ n = rw one (omega arith) in
    subst (λ (m : ℕ). a ∣ m) e (common.carries a n (dvd-mul_right a n) h)

-- the index n * M, by the quotient and the remainder of n
product_split : (n q : ℤ) (l m r t s : ℕ) → n ≡ q *ℤ pos l +ℤ pos r → r * m ≡ t * l + s → n *ℤ pos m ≡ (q *ℤ pos m +ℤ pos t) *ℤ pos l +ℤ pos s
product_split n q l m r t s is e =
    let turned : pos l *ℤ pos m ≡ pos m *ℤ pos l = *ℤ_comm (pos l) (pos m) in
    omega (
      arith,
      ints,
      e,
      ap (λ (z : ℤ). z *ℤ pos m) is,
      +ℤ-*ℤ (q *ℤ pos l) (pos r) (pos m),
      +ℤ-*ℤ (q *ℤ pos m) (pos t) (pos l),
      *ℤ_assoc q (pos l) (pos m),
      *ℤ_assoc q (pos m) (pos l),
      ap (λ (z : ℤ). q *ℤ z) turned,
    )

module _ (l m : ℕ) (x : Sequence) (positive : 0 < l) (prime : IsGcd l m 1) where
  whole : (n : ℤ) → floor_remainder n l ≡ 0 → down m (up l x) n ≡ up l (down m x) n
  whole n e =
      let q = floor_quotient n l in
      let split : n ≡ q *ℤ pos l +ℤ pos 0 = omega (arith, ints, floor_split n l positive, e) in
      ap (up l x) (product_split n q l m 0 0 0 split (omega arith)) ∙ up-at l x (q *ℤ pos m +ℤ pos 0) positive ∙ ap x (+ℤ_idr (q *ℤ pos m))
      ∙ sym (ap (up l (down m x)) split ∙ up-at l (down m x) q positive)

  between : (n : ℤ) → (floor_remainder n l ≡ 0 → ⊥) → down m (up l x) n ≡ up l (down m x) n
  between n ne =
      let q = floor_quotient n l in
      let r = floor_remainder n l in
      let below : r < l = floor_remainder_below n l positive in
      let above : 0 < r = omega arith in
      let parts : r * m ≡ (r * m / l) * l + r * m % l = sym (div-add-mod' (r * m) l) in
      let off : (r * m) % l ≡ 0 → ⊥ = λ e. let le = le_of_dvd above (left_out l m r prime (subst (λ (k : ℕ). l ∣ k) (mul_comm r m) (dvd_of_mod-eq-zero l e))) in omega arith in
      let rest : (r * m) % l < l = mod_below (r * m) l positive in
      ap (up l x) (product_split n q l m r (r * m / l) (r * m % l) (floor_split n l positive) parts) ∙ up-between l x (q *ℤ pos m +ℤ pos (r * m / l)) (r * m % l) (omega arith) rest
      ∙ sym (ap (up l (down m x)) (floor_split n l positive) ∙ up-between l (down m x) q r above below)

  pub down-up : down m (up l x) ≡ up l (down m x)
  down-up = fun_ext (λ n. elim (cases_eq (floor_remainder n l) 0) [ inl e ↦ whole n e | inr ne ↦ between n ne ])
