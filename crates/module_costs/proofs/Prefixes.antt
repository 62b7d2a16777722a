-- Which texts of names are those of a group, of its window registers and of its tables.
use Rattle.std.proofs.Common.{◌≡◌, ℕ, ◌<◌, ◌≤◌, ◌^◌, Bool, true, false, ◌&&◌, List, [], ◌∷◌, ◌++◌, length, drop, refl, sym, ◌∙◌, ap, arith, append_assoc}
use Rattle.std.specs.Prelude.{nat_eq}
use Rattle.std.specs.Fmt.{decimal}
use Rattle.std.specs.List.{starts_with, list_all}
use Rattle.std.proofs.lemmas.Bool.{eqb-true, eq-eqb}
use Rattle.std.proofs.lemmas.Bool.Decides.{Decides-eqb, nat_tests}
use Rattle.std.proofs.lemmas.Slice.Eq.{starts_is}
use Rattle.std.proofs.lemmas.Fmt.{decimal_injective}
use Rattle.std.proofs.Math.Seq.{drop-append_seam}
use Rattle.verilog_tree.specs.Names.{group_prefix, is_in_group, is_digit, is_number, is_numbered}
use Rattle.net_text.proofs.Spelled.{Shape, Ctl, CtlNode, InGroup, OutQ, shape_text, IsSmallShape, AllDigits, IsDigits, decimal_digits, split_digits, tail_same}

bool_same : (a b : Bool) → (a ≡ true → b ≡ true) → (b ≡ true → a ≡ true) → a ≡ b
bool_same true b f g = sym (f refl)
bool_same false true f g = g refl
bool_same false false f g = refl

both : (a b : Bool) → a ≡ true → b ≡ true → (a && b) ≡ true
both true b e f = f
both false b e f = absurd (cc)

parts : (a b : Bool) → (a && b) ≡ true → (a ≡ true) × (b ≡ true)
parts true b e = (refl, e)
parts false b e = absurd (cc)

-- ---- what begins with what

begins : (text needle rest : List ℕ) → text ≡ needle ++ rest → starts_with nat_eq text needle ≡ true
begins text needle rest is = (starts_is Decides-eqb text needle (starts_with nat_eq text needle) refl).1 rest is

rest_of : (text needle : List ℕ) → starts_with nat_eq text needle ≡ true → text ≡ needle ++ drop (length needle) text
rest_of text needle is = (starts_is Decides-eqb text needle (starts_with nat_eq text needle) refl).0 is

-- ---- groups

-- the text of a group, behind the first byte
grouped : (group : ℕ) (rest : List ℕ) → group_prefix group ++ rest ≡ 115 ∷ (decimal group ++ 95 ∷ rest)
grouped group rest = ap (λ (xs : List ℕ). 115 ∷ xs) (append_assoc (decimal group) (95 ∷ []) rest)

same_group : (g group : ℕ) (tail rest : List ℕ) → g < 2 ^ 64 → group < 2 ^ 64 → 115 ∷ (decimal g ++ 95 ∷ tail) ≡ group_prefix group ++ rest → (g ≡ group) × (tail ≡ rest)
same_group g group tail rest small low is =
    let cut = tail_same 115 115 (decimal g ++ 95 ∷ tail) (decimal group ++ 95 ∷ rest) (is ∙ grouped group rest) in
    let split = split_digits (decimal g) (decimal group) tail rest (decimal_digits g small).all (decimal_digits group low).all cut.1 in
    (decimal_injective g group small low split.0, split.1)

in_group_is : (g letter number group : ℕ) → g < 2 ^ 64 → group < 2 ^ 64 → is_in_group group (shape_text (InGroup g letter number)) ≡ nat_eq g group
in_group_is g letter number group small low =
    bool_same (is_in_group group (shape_text (InGroup g letter number))) (nat_eq g group)
    (λ e. eq-eqb g group (same_group g group (letter ∷ decimal number) (drop (length (group_prefix group)) (shape_text (InGroup g letter number))) small low (rest_of (shape_text (InGroup g letter number)) (group_prefix group) e)).0)
    (λ e. begins (shape_text (InGroup g letter number)) (group_prefix group) (letter ∷ decimal number)
    (ap (λ (k : ℕ). 115 ∷ (decimal k ++ 95 ∷ letter ∷ decimal number)) (eqb-true g group e) ∙ sym (grouped group (letter ∷ decimal number))))

abbrev pub is_shape_in : ℕ → Shape → Bool
is_shape_in group (Ctl number) = false
is_shape_in group (CtlNode place) = false
is_shape_in group (InGroup g letter number) = nat_eq g group
is_shape_in group OutQ = false

pub shape_in_group : (s : Shape) (group : ℕ) → IsSmallShape s → group < 2 ^ 64 → is_in_group group (shape_text s) ≡ is_shape_in group s
shape_in_group (Ctl number) group small low = refl
shape_in_group (CtlNode place) group small low = refl
shape_in_group (InGroup g letter number) group small low = in_group_is g letter number group small.0 low
shape_in_group OutQ group small low = refl

-- ---- numbered names of a group

all_digits : (ds : List ℕ) → AllDigits ds → list_all is_digit ds ≡ true
all_digits [] all = refl
all_digits (d ∷ ds) all = ap (λ (b : Bool). b && list_all is_digit ds) (one d all.0 all.1) ∙ all_digits ds all.2
  where
    one : (d : ℕ) → 48 ≤ d → d < 58 → is_digit d ≡ true
    one d low high = grind (arith, nat_tests)

number_from : (ds : List ℕ) → IsDigits ds → is_number ds ≡ true
number_from [] digits = absurd (omega (arith, digits.some))
number_from (d ∷ ds) digits = all_digits (d ∷ ds) digits.all

-- the text of a letter's names in a group, behind the first byte
lettered : (group letter : ℕ) (rest : List ℕ) → (group_prefix group ++ letter ∷ []) ++ rest ≡ group_prefix group ++ letter ∷ rest
lettered group letter rest = append_assoc (group_prefix group) (letter ∷ []) rest

numbered_is : (g l number group letter : ℕ) → g < 2 ^ 64 → number < 2 ^ 64 → group < 2 ^ 64
    → is_numbered group (letter ∷ []) (shape_text (InGroup g l number)) ≡ (nat_eq g group && nat_eq l letter)
numbered_is g l number group letter small few low =
    bool_same (is_numbered group (letter ∷ []) (shape_text (InGroup g l number))) (nat_eq g group && nat_eq l letter) there back
  where
    needle : List ℕ
    needle = group_prefix group ++ letter ∷ []

    there : is_numbered group (letter ∷ []) (shape_text (InGroup g l number)) ≡ true → (nat_eq g group && nat_eq l letter) ≡ true
    there e =
        let first = (parts (starts_with nat_eq (shape_text (InGroup g l number)) (group_prefix group ++ letter ∷ [])) _ e).0 in
        let is = rest_of (shape_text (InGroup g l number)) (group_prefix group ++ letter ∷ []) first ∙ lettered group letter (drop (length (group_prefix group ++ letter ∷ [])) (shape_text (InGroup g l number))) in
        let same = same_group g group (l ∷ decimal number) (letter ∷ drop (length (group_prefix group ++ letter ∷ [])) (shape_text (InGroup g l number))) small low is in
        both (nat_eq g group) (nat_eq l letter) (eq-eqb g group same.0) (eq-eqb l letter (tail_same l letter (decimal number) _ same.1).0)

    back : (nat_eq g group && nat_eq l letter) ≡ true → is_numbered group (letter ∷ []) (shape_text (InGroup g l number)) ≡ true
    back e =
        let p = parts (nat_eq g group) (nat_eq l letter) e in
        let is : shape_text (InGroup g l number) ≡ (group_prefix group ++ letter ∷ []) ++ decimal number = (
        ap (λ (k : ℕ). 115 ∷ (decimal k ++ 95 ∷ l ∷ decimal number)) (eqb-true g group p.0) ∙ ap (λ (m : ℕ). 115 ∷ (decimal group ++ 95 ∷ m ∷ decimal number)) (eqb-true l letter p.1)
        ∙ sym (grouped group (letter ∷ decimal number)) ∙ sym (lettered group letter (decimal number))
        ) in
        both (starts_with nat_eq (shape_text (InGroup g l number)) (group_prefix group ++ letter ∷ [])) (is_number (drop (length (group_prefix group ++ letter ∷ [])) (shape_text (InGroup g l number))))
        (begins (shape_text (InGroup g l number)) (group_prefix group ++ letter ∷ []) (decimal number) is)
        (ap is_number (ap (drop (length (group_prefix group ++ letter ∷ []))) is ∙ drop-append_seam (group_prefix group ++ letter ∷ []) (decimal number)) ∙ number_from (decimal number) (decimal_digits number few))

-- a name of the letter in the group
abbrev pub is_lettered : ℕ → ℕ → Shape → Bool
is_lettered group letter (Ctl number) = false
is_lettered group letter (CtlNode place) = false
is_lettered group letter (InGroup g l number) = nat_eq g group && nat_eq l letter
is_lettered group letter OutQ = false

pub shape_numbered : (s : Shape) (group letter : ℕ) → IsSmallShape s → group < 2 ^ 64 → is_numbered group (letter ∷ []) (shape_text s) ≡ is_lettered group letter s
shape_numbered (Ctl number) group letter small low = refl
shape_numbered (CtlNode place) group letter small low = refl
shape_numbered (InGroup g l number) group letter small low = numbered_is g l number group letter small.0 small.1 low
shape_numbered OutQ group letter small low = refl
