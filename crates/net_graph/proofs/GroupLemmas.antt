-- Which nodes are control, by their group.
use Rattle.std.proofs.Common.{◌≡◌, ℕ, ◌≤◌, refl, ap, arith, eq-eqb, Bool, true, false, ◌&&◌, eqb}
use Rattle.std.proofs.lemmas.Bool.{eqb-true}

-- group 0 is control
pub eqb-zero : (group : ℕ) → group ≡ 0 → eqb group 0 ≡ true
eqb-zero group e = eq-eqb group 0 e

pub eqb_some : (group : ℕ) → 1 ≤ group → eqb group 0 ≡ false
eqb_some group some = by_test (eqb group 0) refl
  where
    by_test : (b : Bool) → eqb group 0 ≡ b → b ≡ false
    by_test true e = absurd (let zero_group = eqb-true group 0 e in omega arith)
    by_test false e = refl

pub and_left : (a b : Bool) → (a && b) ≡ true → a ≡ true
and_left true b h = refl
and_left false b h = h

-- a node without a name is control in group 0 alone
pub nameless_control : (group : ℕ) (b : Bool) → (eqb group 0 && b) ≡ true → group ≡ 0
nameless_control group b h = eqb-true group 0 (and_left (eqb group 0) b h)

pub nameless_data : (group : ℕ) (b : Bool) → 1 ≤ group → (eqb group 0 && b) ≡ false
nameless_data group b some = ap (λ (a : Bool). a && b) (eqb_some group some)

pub nameless_zero : (group : ℕ) → group ≡ 0 → (eqb group 0 && true) ≡ true
nameless_zero group e = ap (λ (a : Bool). a && true) (eqb-zero group e)
