-- The fields of a line, from the first on.
use Rattle.std.proofs.Common.{◌≡◌, ◌==◌, ◌∙◌, ℕ, suc, ◌+◌, ◌<◌, Bool, true, false, not, cond, List, [], ◌∷◌, length, take, drop, filter, refl, sym, ap, subst, eq-eqb, length-drop, arith}
use borrow.Author.Tests.{eqb-true}
use Rattle.std.proofs.lemmas.Bool.{false≢true}
use Rattle.std.specs.List.{prefix_len, slice_split, onto_first}
use Rattle.sample_file.specs.Fields.{is_blank, is_other, is_filled, fields_of}

-- blanks in front don't count
after_blank : (b : ℕ) (bs : List ℕ) (t : Bool) → is_blank b ≡ t → fields_of (drop (prefix_len is_blank bs) bs) ≡ fields_of bs → fields_of (drop (cond t (1 + prefix_len is_blank bs) 0) (b ∷ bs)) ≡ fields_of (b ∷ bs)
after_blank b bs true is step =
    let one : 1 + prefix_len is_blank bs ≡ suc (prefix_len is_blank bs) = omega arith in
    ap (λ (n : ℕ). fields_of (drop n (b ∷ bs))) one ∙ step ∙ sym (ap (λ (t : Bool). filter is_filled (cond t ([] ∷ slice_split is_blank bs) (onto_first b (slice_split is_blank bs)))) is)
after_blank b bs false is step = refl

pub fields_of-front : (bs : List ℕ) → fields_of (drop (prefix_len is_blank bs) bs) ≡ fields_of bs
fields_of-front [] = refl
fields_of-front (b ∷ bs) = after_blank b bs (is_blank b) refl (fields_of-front bs)

-- the parts behind the first
abbrev later_parts : List ℕ → List (List ℕ)
later_parts [] = []
later_parts (b ∷ bs) = slice_split is_blank bs

first_part : (b : ℕ) (bs : List ℕ) (t : Bool) → is_blank b ≡ t → slice_split is_blank bs ≡ take (prefix_len is_other bs) bs ∷ later_parts (drop (prefix_len is_other bs) bs)
    → cond t ([] ∷ slice_split is_blank bs) (onto_first b (slice_split is_blank bs)) ≡ take (cond (not t) (1 + prefix_len is_other bs) 0) (b ∷ bs) ∷ later_parts (drop (cond (not t) (1 + prefix_len is_other bs) 0) (b ∷ bs))
first_part b bs true is step = refl
first_part b bs false is step =
    let one : 1 + prefix_len is_other bs ≡ suc (prefix_len is_other bs) = omega arith in
    ap (onto_first b) step ∙ sym (ap (λ (n : ℕ). take n (b ∷ bs) ∷ later_parts (drop n (b ∷ bs))) one)

split-first : (bs : List ℕ) → slice_split is_blank bs ≡ take (prefix_len is_other bs) bs ∷ later_parts (drop (prefix_len is_other bs) bs)
split-first [] = refl
split-first (b ∷ bs) = first_part b bs (is_blank b) refl (split-first bs)

-- behind the bytes that are no blanks there is a blank or nothing
behind_others : (b : ℕ) (bs : List ℕ) (t : Bool) → is_blank b ≡ t → filter is_filled (later_parts (drop (prefix_len is_other bs) bs)) ≡ fields_of (drop (prefix_len is_other bs) bs)
    → filter is_filled (later_parts (drop (cond (not t) (1 + prefix_len is_other bs) 0) (b ∷ bs))) ≡ fields_of (drop (cond (not t) (1 + prefix_len is_other bs) 0) (b ∷ bs))
behind_others b bs true is step = sym (ap (λ (t : Bool). filter is_filled (cond t ([] ∷ slice_split is_blank bs) (onto_first b (slice_split is_blank bs)))) is)
behind_others b bs false is step =
    let one : 1 + prefix_len is_other bs ≡ suc (prefix_len is_other bs) = omega arith in
    subst (λ (n : ℕ). filter is_filled (later_parts (drop n (b ∷ bs))) ≡ fields_of (drop n (b ∷ bs))) (sym one) step

fields-behind : (bs : List ℕ) → filter is_filled (later_parts (drop (prefix_len is_other bs) bs)) ≡ fields_of (drop (prefix_len is_other bs) bs)
fields-behind [] = refl
fields-behind (b ∷ bs) = behind_others b bs (is_blank b) refl (fields-behind bs)

-- a byte in front that is no blank begins a field
first_field_at : (b : ℕ) (bs : List ℕ) (t : Bool) → is_blank b ≡ t → t ≡ false → fields_of (b ∷ bs) ≡ take (cond (not t) (1 + prefix_len is_other bs) 0) (b ∷ bs) ∷ filter is_filled (later_parts (drop (cond (not t) (1 + prefix_len is_other bs) 0) (b ∷ bs)))
first_field_at b bs true is no_blank = absurd (false≢true (sym no_blank))
first_field_at b bs false is no_blank =
    let one : 1 + prefix_len is_other bs ≡ suc (prefix_len is_other bs) = omega arith in
    ap (λ (t : Bool). filter is_filled (cond t ([] ∷ slice_split is_blank bs) (onto_first b (slice_split is_blank bs)))) is ∙ ap (λ (parts : List (List ℕ)). filter is_filled (onto_first b parts)) (split-first bs)
    ∙ sym (ap (λ (n : ℕ). take n (b ∷ bs) ∷ filter is_filled (later_parts (drop n (b ∷ bs)))) one)

pub first_field : (b : ℕ) (bs : List ℕ) → is_blank b ≡ false → fields_of (b ∷ bs) ≡ take (prefix_len is_other (b ∷ bs)) (b ∷ bs) ∷ fields_of (drop (prefix_len is_other (b ∷ bs)) (b ∷ bs))
first_field b bs no_blank =
    first_field_at b bs (is_blank b) refl no_blank ∙ ap (λ (fields : List (List ℕ)). take (prefix_len is_other (b ∷ bs)) (b ∷ bs) ∷ fields) (fields-behind (b ∷ bs))

-- what stands behind the blanks in front begins with no blank
begins_at : (b : ℕ) (bs : List ℕ) (c : ℕ) (cs : List ℕ) (t : Bool) → is_blank b ≡ t → (drop (prefix_len is_blank bs) bs ≡ c ∷ cs → is_blank c ≡ false) → drop (cond t (1 + prefix_len is_blank bs) 0) (b ∷ bs) ≡ c ∷ cs → is_blank c ≡ false
begins_at b bs c cs true is step e =
    let one : 1 + prefix_len is_blank bs ≡ suc (prefix_len is_blank bs) = omega arith in
    step (sym (ap (λ (n : ℕ). drop n (b ∷ bs)) one) ∙ e)
begins_at b bs c cs false is step e = let same : b ≡ c = cc in subst (λ (x : ℕ). is_blank x ≡ false) same is

begins-field : (bs : List ℕ) (c : ℕ) (cs : List ℕ) → drop (prefix_len is_blank bs) bs ≡ c ∷ cs → is_blank c ≡ false
begins-field [] c cs e = cc
begins-field (b ∷ bs) c cs e = begins_at b bs c cs (is_blank b) refl (begins-field bs c cs) e

-- the first field of what stands behind the blanks
field_in_front : (bs front : List ℕ) → drop (prefix_len is_blank bs) bs ≡ front → ¬ (length front ≡ 0) → fields_of bs ≡ take (prefix_len is_other front) front ∷ fields_of (drop (prefix_len is_other front) front)
field_in_front bs [] e some = absurd (some refl)
field_in_front bs (c ∷ cs) e some = sym (fields_of-front bs) ∙ ap fields_of e ∙ first_field c cs (begins-field bs c cs e)

some_length : (xs : List ℕ) (t : Bool) → t ≡ (length xs == 0) → t ≡ false → ¬ (length xs ≡ 0)
some_length xs t is is_false none = let zero : (length xs == 0) ≡ true = eq-eqb (length xs) 0 none in false≢true (sym is_false ∙ is ∙ zero)

no_length : (xs : List ℕ) (t : Bool) → t ≡ (length xs == 0) → t ≡ true → xs ≡ []
no_length [] t is is_true = refl
no_length (x ∷ xs) t is is_true = let none : length (x ∷ xs) ≡ 0 = eqb-true (length (x ∷ xs)) 0 (sym is ∙ is_true) in absurd (omega arith)

-- the first field, by the counts of blanks and of other bytes
pub next-field : (bs front field rest : List ℕ) (blanks others : ℕ) (t : Bool) → blanks ≡ prefix_len is_blank bs → front ≡ drop blanks bs → others ≡ prefix_len is_other front → t ≡ (length front == 0) → t ≡ false
    → field ≡ take others front → rest ≡ drop others front → fields_of bs ≡ field ∷ fields_of rest
next-field bs front field rest blanks others t is_blanks is_front is_others tested is_false is_field is_rest =
    let here : drop (prefix_len is_blank bs) bs ≡ front = ap (λ (n : ℕ). drop n bs) (sym is_blanks) ∙ sym is_front in
    let split = field_in_front bs front here (some_length front t tested is_false) in
    rw (is_field, is_rest, is_others) split

-- nothing stands behind the blanks
pub no-field : (bs front : List ℕ) (blanks : ℕ) (t : Bool) → blanks ≡ prefix_len is_blank bs → front ≡ drop blanks bs → t ≡ (length front == 0) → t ≡ true → fields_of bs ≡ []
no-field bs front blanks t is_blanks is_front tested is_true =
    sym (fields_of-front bs) ∙ ap (λ (n : ℕ). fields_of (drop n bs)) (sym is_blanks) ∙ ap fields_of (sym is_front) ∙ ap fields_of (no_length front t tested is_true)

other_some : (c : ℕ) (cs : List ℕ) (t : Bool) → t ≡ false → 0 < cond (not t) (1 + prefix_len is_other cs) 0
other_some c cs true h = absurd (false≢true (sym h))
other_some c cs false h = omega arith

front_some : (bs front : List ℕ) → drop (prefix_len is_blank bs) bs ≡ front → ¬ (length front ≡ 0) → 0 < prefix_len is_other front
front_some bs [] e some = absurd (some refl)
front_some bs (c ∷ cs) e some = other_some c cs (is_blank c) (begins-field bs c cs e)

-- what stands behind the first field is shorter
pub behind-shorter : (bs front rest : List ℕ) (blanks others : ℕ) (t : Bool) → blanks ≡ prefix_len is_blank bs → front ≡ drop blanks bs → others ≡ prefix_len is_other front → t ≡ (length front == 0) → t ≡ false
    → rest ≡ drop others front → length rest < length bs
behind-shorter bs front rest blanks others t is_blanks is_front is_others tested is_false is_rest =
    let here : drop (prefix_len is_blank bs) bs ≡ front = ap (λ (n : ℕ). drop n bs) (sym is_blanks) ∙ sym is_front in
    let some : ¬ (length front ≡ 0) = some_length front t tested is_false in
    let more : 0 < prefix_len is_other front = front_some bs front here some in
    omega (arith, ap length is_rest, ap length is_front, length-drop others front, length-drop blanks bs, some, more, is_others)
