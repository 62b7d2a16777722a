-- The texts of the names of nodes: they are names of the grammar, and texts of different shapes are different.
use Rattle.std.proofs.Common.{◌≡◌, ℕ, ◌+◌, ◌%◌, ◌<◌, ◌≤◌, ◌^◌, Bool, true, false, ◌&&◌, ◌||◌, cond, List, [], ◌∷◌, ◌++◌, length, None, Some, refl, sym, ◌∙◌, ap, arith}
use Rattle.std.specs.Prelude.{nat_le, nat_eq, codes, bytes_eq}
use Rattle.std.specs.Fmt.{decimal}
use Rattle.std.specs.List.{list_all}
use Rattle.std.proofs.lemmas.Fmt.{decimal_by_steps, decimal_injective}
use Rattle.std.proofs.lemmas.Bool.{ne_eqb}
use Rattle.std.proofs.lemmas.Bool.Decides.{nat_tests}
use Rattle.verilog_text.specs.Lexer.{Entry, is_letter, is_name_byte, looked_up, words}
use Rattle.verilog_text.specs.Layout.{IsName}

-- ---- digits

abbrev pub AllDigits : List ℕ → Type 0
AllDigits [] = Unit {0}
AllDigits (d ∷ ds) = (48 ≤ d) × (d < 58) × AllDigits ds

digits_push : (ds : List ℕ) (d : ℕ) → AllDigits ds → d < 10 → AllDigits (ds ++ (48 + d) ∷ [])
digits_push [] d all lt = (omega arith, omega arith, tt)
digits_push (x ∷ ds) d all lt = (all.0, all.1, digits_push ds d all.2 lt)

-- there is a first digit
pub record IsDigits (ds : List ℕ) : Type 0 where
  pub all : AllDigits ds
  pub some : 0 < length ds

length_push : (ds : List ℕ) (x : ℕ) → 0 < length (ds ++ x ∷ [])
length_push [] x = omega arith
length_push (d ∷ ds) x = omega arith

pub decimal_digits : (n : ℕ) → n < 2 ^ 64 → IsDigits (decimal n)
decimal_digits n lt =
    decimal_by_steps (λ k ds. IsDigits ds)
    (λ k less. record { all = digits_push [] k tt less; some = omega arith })
    (λ k ds le more. record { all = digits_push ds (k % 10) more.all (omega arith); some = length_push ds (48 + k % 10) }) n lt

name_digit : (d : ℕ) → 48 ≤ d → d < 58 → is_name_byte d ≡ true
name_digit d le lt = grind (arith, nat_tests)

pub digits_name : (ds : List ℕ) → AllDigits ds → list_all is_name_byte ds ≡ true
digits_name [] all = refl
digits_name (d ∷ ds) all = ap (λ (b : Bool). b && list_all is_name_byte ds) (name_digit d all.0 all.1) ∙ digits_name ds all.2

pub all_append : (xs ys : List ℕ) → list_all is_name_byte xs ≡ true → list_all is_name_byte ys ≡ true → list_all is_name_byte (xs ++ ys) ≡ true
all_append [] ys first second = second
all_append (x ∷ xs) ys first second = by (is_name_byte x) first (all_append xs ys)
  where
    by : (b : Bool) → (b && list_all is_name_byte xs) ≡ true → (list_all is_name_byte xs ≡ true → list_all is_name_byte ys ≡ true → list_all is_name_byte (xs ++ ys) ≡ true) → (b && list_all is_name_byte (xs ++ ys)) ≡ true
    by true e more = more e second
    by false e more = e

-- ---- no word

-- no word has a digit as its second byte
abbrev second_is_no_digit : List ℕ → Bool
second_is_no_digit [] = true
second_is_no_digit (a ∷ []) = true
second_is_no_digit (a ∷ (b ∷ rest)) = nat_le 58 b

abbrev AllSecond : List Entry → Bool
AllSecond [] = true
AllSecond (x ∷ xs) = second_is_no_digit x.text && AllSecond xs

words_second : AllSecond words ≡ true
unfolding words
words_second = refl

no_word : (text : List ℕ) (a d : ℕ) (rest : List ℕ) → d < 58 → second_is_no_digit text ≡ true → bytes_eq text (a ∷ (d ∷ rest)) ≡ false
no_word [] a d rest lt second = refl
no_word (x ∷ []) a d rest lt second = last (nat_eq x a)
  where
    last : (b : Bool) → (b && false) ≡ false
    last true = refl
    last false = refl
no_word (x ∷ (y ∷ ys)) a d rest lt second =
    ap (λ (b : Bool). nat_eq x a && (b && bytes_eq ys rest)) (ne_eqb y d (λ e. omega (arith, e, le y second))) ∙ last (nat_eq x a)
  where
    le : (y : ℕ) → nat_le 58 y ≡ true → 58 ≤ y
    le y h = grind (arith, nat_tests)

    last : (b : Bool) → (b && false) ≡ false
    last true = refl
    last false = refl

none_looked_up : (entries : List Entry) (a d : ℕ) (rest : List ℕ) → d < 58 → AllSecond entries ≡ true → looked_up entries (a ∷ (d ∷ rest)) ≡ None
none_looked_up [] a d rest lt all = refl
none_looked_up (x ∷ xs) a d rest lt all =
    let parts = both (second_is_no_digit x.text) (AllSecond xs) all in
    ap (λ (b : Bool). cond b (Some x.piece) (looked_up xs (a ∷ (d ∷ rest)))) (no_word x.text a d rest lt parts.0) ∙ none_looked_up xs a d rest lt parts.1
  where
    both : (b c : Bool) → (b && c) ≡ true → (b ≡ true) × (c ≡ true)
    both true c e = (refl, e)
    both false c e = absurd (false_true e)
      where
        false_true : false ≡ true → ⊥
        false_true h = cc

-- ---- shapes of names

pub data Shape : Type 0 where
  Ctl : (number : ℕ) → Shape
  CtlNode : (place : ℕ) → Shape
  InGroup : (group letter number : ℕ) → Shape
  OutQ : Shape

abbrev pub shape_text : Shape → List ℕ
shape_text (Ctl number) = codes "ctl_" ++ decimal number
shape_text (CtlNode place) = codes "ctl_n" ++ decimal place
shape_text (InGroup group letter number) = codes "s" ++ (decimal group ++ ((95 ∷ letter ∷ []) ++ decimal number))
shape_text OutQ = codes "out_q"

abbrev pub IsSmallShape : Shape → Type 0
IsSmallShape (Ctl number) = number < 2 ^ 64
IsSmallShape (CtlNode place) = place < 2 ^ 64
IsSmallShape (InGroup group letter number) = (group < 2 ^ 64) × (number < 2 ^ 64) × (is_letter letter ≡ true)
IsSmallShape OutQ = Unit {0}

letter_name : (b : ℕ) → is_letter b ≡ true → is_name_byte b ≡ true
letter_name b e = ap (λ (c : Bool). c || ((nat_le 48 b && nat_le b 57) || nat_eq b 36)) e

group_name_from : (ds rest : List ℕ) → IsDigits ds → list_all is_name_byte rest ≡ true → IsName (115 ∷ (ds ++ rest))
group_name_from [] rest digits names = absurd (omega (arith, digits.some))
group_name_from (d ∷ ds) rest digits names = (refl, all_append (d ∷ ds) rest (digits_name (d ∷ ds) digits.all) names, none_looked_up words 115 d (ds ++ rest) digits.all.1 words_second)

-- each is a name of the grammar
pub shape_name : (s : Shape) → IsSmallShape s → IsName (shape_text s)
unfolding words
shape_name (Ctl number) small = (refl, digits_name (decimal number) (decimal_digits number small).all, refl)
shape_name (CtlNode place) small = (refl, digits_name (decimal place) (decimal_digits place small).all, refl)
shape_name (InGroup group letter number) small =
    group_name_from (decimal group) (95 ∷ (letter ∷ decimal number)) (decimal_digits group small.0)
    (ap (λ (b : Bool). b && list_all is_name_byte (decimal number)) (letter_name letter small.2) ∙ digits_name (decimal number) (decimal_digits number small.1).all)
shape_name OutQ small = (refl, refl, refl)

-- ---- different shapes have different texts

pub tail_same : (a b : ℕ) (xs ys : List ℕ) → a ∷ xs ≡ b ∷ ys → (a ≡ b) × (xs ≡ ys)
tail_same a b xs ys e = (head_same, rest_same)
  where
    head_same : a ≡ b
    head_same = cc

    rest_same : xs ≡ ys
    rest_same = cc

-- the digits before the first byte that is none
pub split_digits : (ds es r s : List ℕ) → AllDigits ds → AllDigits es → ds ++ 95 ∷ r ≡ es ++ 95 ∷ s → (ds ≡ es) × (r ≡ s)
split_digits [] [] r s p q same = (refl, (tail_same 95 95 r s same).1)
split_digits [] (e ∷ es) r s p q same = absurd (omega (arith, (tail_same 95 e r (es ++ 95 ∷ s) same).0, q.1))
split_digits (d ∷ ds) [] r s p q same = absurd (omega (arith, (tail_same d 95 (ds ++ 95 ∷ r) s same).0, p.1))
split_digits (d ∷ ds) (e ∷ es) r s p q same =
    let both = tail_same d e (ds ++ 95 ∷ r) (es ++ 95 ∷ s) same in
    let rest = split_digits ds es r s p.2 q.2 both.1 in
    (ap (λ (x : ℕ). x ∷ ds) both.0 ∙ ap (λ (xs : List ℕ). e ∷ xs) rest.0, rest.1)

no_digits : (ds : List ℕ) (b : ℕ) (rest : List ℕ) → IsDigits ds → 58 ≤ b → ds ≡ b ∷ rest → ⊥
no_digits [] b rest digits le same = omega (arith, digits.some)
no_digits (d ∷ ds) b rest digits le same = omega (arith, (tail_same d b ds rest same).0, digits.all.1)

strip_ctl : (xs ys : List ℕ) → codes "ctl_" ++ xs ≡ codes "ctl_" ++ ys → xs ≡ ys
strip_ctl xs ys e =
    let a = (tail_same 99 99 _ _ e).1 in
    let b = (tail_same 116 116 _ _ a).1 in
    let c = (tail_same 108 108 _ _ b).1 in
    (tail_same 95 95 xs ys c).1

heads : (a b : ℕ) (xs ys : List ℕ) → (a ≡ b → ⊥) → a ∷ xs ≡ b ∷ ys → ⊥
heads a b xs ys apart e = apart (tail_same a b xs ys e).0

pub shape_same : (s t : Shape) → IsSmallShape s → IsSmallShape t → shape_text s ≡ shape_text t → s ≡ t
shape_same (Ctl m) (Ctl n) p q e = ap Ctl (decimal_injective m n p q (strip_ctl (decimal m) (decimal n) e))
shape_same (Ctl m) (CtlNode n) p q e = absurd (no_digits (decimal m) 110 (decimal n) (decimal_digits m p) (omega arith) (strip_ctl (decimal m) (110 ∷ decimal n) e))
shape_same (Ctl m) (InGroup g l n) p q e = absurd (heads 99 115 _ _ (λ h. omega (arith, h)) e)
shape_same (Ctl m) OutQ p q e = absurd (heads 99 111 _ _ (λ h. omega (arith, h)) e)
shape_same (CtlNode m) (Ctl n) p q e = absurd (no_digits (decimal n) 110 (decimal m) (decimal_digits n q) (omega arith) (sym (strip_ctl (110 ∷ decimal m) (decimal n) e)))
shape_same (CtlNode m) (CtlNode n) p q e = ap CtlNode (decimal_injective m n p q (tail_same 110 110 (decimal m) (decimal n) (strip_ctl (110 ∷ decimal m) (110 ∷ decimal n) e)).1)
shape_same (CtlNode m) (InGroup g l n) p q e = absurd (heads 99 115 _ _ (λ h. omega (arith, h)) e)
shape_same (CtlNode m) OutQ p q e = absurd (heads 99 111 _ _ (λ h. omega (arith, h)) e)
shape_same (InGroup g l m) (Ctl n) p q e = absurd (heads 115 99 _ _ (λ h. omega (arith, h)) e)
shape_same (InGroup g l m) (CtlNode n) p q e = absurd (heads 115 99 _ _ (λ h. omega (arith, h)) e)
shape_same (InGroup g l m) (InGroup h k n) p q e =
    let inner = (tail_same 115 115 (decimal g ++ (95 ∷ (l ∷ decimal m))) (decimal h ++ (95 ∷ (k ∷ decimal n))) e).1 in
    let parts = split_digits (decimal g) (decimal h) (l ∷ decimal m) (k ∷ decimal n) (decimal_digits g p.0).all (decimal_digits h q.0).all inner in
    let rest = tail_same l k (decimal m) (decimal n) parts.1 in
    λ i. InGroup (decimal_injective g h p.0 q.0 parts.0 i) (rest.0 i) (decimal_injective m n p.1 q.1 rest.1 i)
shape_same (InGroup g l m) OutQ p q e = absurd (heads 115 111 _ _ (λ h. omega (arith, h)) e)
shape_same OutQ (Ctl n) p q e = absurd (heads 111 99 _ _ (λ h. omega (arith, h)) e)
shape_same OutQ (CtlNode n) p q e = absurd (heads 111 99 _ _ (λ h. omega (arith, h)) e)
shape_same OutQ (InGroup g l n) p q e = absurd (heads 111 115 _ _ (λ h. omega (arith, h)) e)
shape_same OutQ OutQ p q e = refl
