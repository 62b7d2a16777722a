-- A step of the loop over the places of a number.
use Rattle.std.proofs.Common.{◌≡◌, ℕ, suc, ◌+◌, ◌-◌, ◌*◌, ◌%◌, ◌^◌, ◌<◌, ◌≤◌, List, [], ◌∷◌, ◌++◌, Bool, arith, ap, sym, ◌∙◌, append_assoc, append-nil}
use Rattle.std.specs.Prelude.{not, ◌==◌}
use mathlib.Core.Bool.{beq}
use Rattle.mr_values.specs.declared.digit.Digit.{Digit}
use Rattle.mr_values.specs.Digit.{digits_from, rest_of}
use Rattle.mr_values.proofs.NonAdjacent.{digits_from-odd, digits_from-even, rest_of-bound}

-- the digits so far, and those of the rest
pub so_far-odd : (ds all : List Digit) (negative : Bool) (place n : ℕ) → n % 2 ≡ 1 → ds ++ digits_from negative place n ≡ all → (ds ++ record { place = place; negative = not (beq negative (n % 4 == 3)) } ∷ []) ++ digits_from negative (place + 1) (rest_of n) ≡ all
so_far-odd ds all negative place n odd e =
    let next : place + 1 ≡ suc place = omega arith in
    rw (next, append_assoc) (ap (λ (rest : List Digit). ds ++ rest) (sym (digits_from-odd negative place n odd)) ∙ e)

pub so_far-even : (ds all : List Digit) (negative : Bool) (place n : ℕ) → n % 2 ≡ 0 → ds ++ digits_from negative place n ≡ all → ds ++ digits_from negative (place + 1) (rest_of n) ≡ all
so_far-even ds all negative place n even e =
    let next : place + 1 ≡ suc place = omega arith in
    rw next (ap (λ (rest : List Digit). ds ++ rest) (sym (digits_from-even negative place n even)) ∙ e)

-- the rest is 0 after 64 places
pub small-next : (place n : ℕ) → place < 64 → 2 * n ≤ 2 ^ (64 - place) → 2 * rest_of n ≤ 2 ^ (64 - (place + 1))
small-next place n below small =
    let left : 64 - place ≡ suc (64 - (place + 1)) = omega arith in
    let halved : 2 * n ≤ 2 ^ suc (64 - (place + 1)) = rw left at small in
    rest_of-bound (64 - (place + 1)) n (omega arith)

pub small-end : (place n : ℕ) → 64 ≤ place → 2 * n ≤ 2 ^ (64 - place) → n ≡ 0
small-end place n past small =
    let left : 64 - place ≡ 0 = omega arith in
    let last : 2 * n ≤ 2 ^ 0 = rw left at small in
    omega arith

pub so_far-end : (ds : List Digit) (negative : Bool) (place n m : ℕ) → n ≡ 0 → ds ++ digits_from negative place n ≡ digits_from negative 0 m → ds ≡ digits_from negative 0 m
so_far-end ds negative place n m end e =
    let none : digits_from negative place n ≡ [] = ap (digits_from negative place) end in
    sym (append-nil ds) ∙ ap (λ (rest : List Digit). ds ++ rest) (sym none) ∙ e
