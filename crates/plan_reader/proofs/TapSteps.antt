-- Steps of reading tap files.
use Rattle.std.proofs.Common.{◌≡◌, ◌∙◌, ℕ, zero, suc, ◌+◌, ◌*◌, ◌<◌, ◌≤◌, ◌^◌, ◌⊎◌, inl, inr, Bool, true, false, cond, List, [], ◌∷◌, ◌++◌, length, take, drop, get_or, ℤ, Some, None, Result, Ok, Err, refl, sym, ap, subst, arith, append_assoc, append-nil, add-one, drop-cons, map}
use Rattle.std.specs.List.{prefix_len, list_all}
use Rattle.std.specs.Char.{digit_value}
use Rattle.std.specs.Str.Parse.{digits_value_after}
use Rattle.std.proofs.lemmas.Bool.{cases_lt, lt-ltb, le-ltb}
use Rattle.std.proofs.lemmas.List.{drop_all}
use Rattle.std.proofs.lemmas.Int.{ints}
use Rattle.std.proofs.lemmas.Option.{same_Some}
use Rattle.csv.specs.Records.{field_at, fields_of}
use Rattle.csv.specs.declared.record.ByteRecord.{ByteRecord}
use Rattle.plan_reader.specs.declared.fault.TapWhy.TheVariants.{TooLarge}
use Rattle.plan_reader.specs.declared.fault.TapFault.{TapFault}
use Rattle.plan_reader.specs.Magnitudes.{below_64}
use Rattle.plan_reader.specs.TapFields.{held, with_sign, at_row, behind, tap_then, row_then, row_taps, rows_taps, tap_of}

-- the front that passes a test passes it
all_front_at : (p : ℕ → Bool) (b : ℕ) (bs : List ℕ) (t : Bool) → p b ≡ t → list_all p (take (prefix_len p bs) bs) ≡ true → list_all p (take (cond t (1 + prefix_len p bs) 0) (b ∷ bs)) ≡ true
all_front_at p b bs true passes rest =
    let here : list_all p (b ∷ take (prefix_len p bs) bs) ≡ true = rw (passes, rest) refl in
    let one : suc (prefix_len p bs) ≡ 1 + prefix_len p bs = omega arith in
    subst (λ (n : ℕ). list_all p (take n (b ∷ bs)) ≡ true) one here
all_front_at p b bs false passes rest = refl

pub all_front : (p : ℕ → Bool) (bs : List ℕ) → list_all p (take (prefix_len p bs) bs) ≡ true
all_front p [] = refl
all_front p (b ∷ bs) = all_front_at p b bs (p b) refl (all_front p bs)

-- digits behind a number don't make it less
value_grows : (n : ℕ) (ds : List ℕ) → n ≤ digits_value_after 10 n ds
value_grows n [] = omega arith
value_grows n (d ∷ ds) = omega (arith, value_grows (n * 10 + digit_value d) ds)

pub too_large : (n : ℕ) (ds : List ℕ) (whole : ℕ) → 2 ^ 64 ≤ n → digits_value_after 10 n ds ≡ whole → None ≡ below_64 whole
too_large n ds whole large is = let high : 2 ^ 64 ≤ whole = omega (arith, value_grows n ds, is, large) in rw (le-ltb whole (2 ^ 64) high) refl

high_from : (n : ℕ) → None ≡ below_64 n → 2 ^ 64 ≤ n
high_from n none = either (cases_lt n (2 ^ 64))
  where
    either : (n < 2 ^ 64) ⊎ (2 ^ 64 ≤ n) → 2 ^ 64 ≤ n
    either (inl low) = let some : below_64 n ≡ Some n = rw (lt-ltb n (2 ^ 64) low) refl in cc
    either (inr high) = high

-- one more digit makes it too large
pub digit-too-large : (n i : ℕ) (ds : List ℕ) (whole : ℕ) → i < length ds → None ≡ below_64 (n * 10 + digit_value (get_or ds i 0)) → digits_value_after 10 n (drop i ds) ≡ whole → None ≡ below_64 whole
digit-too-large n i ds whole h none is =
    let split : digits_value_after 10 n (drop i ds) ≡ digits_value_after 10 (n * 10 + digit_value (get_or ds i 0)) (drop (suc i) ds) = ap (digits_value_after 10 n) (drop-cons ds i 0 h) in
    too_large (n * 10 + digit_value (get_or ds i 0)) (drop (suc i) ds) whole (high_from _ none) (sym split ∙ is)

-- all digits are taken
pub all-taken : (n i : ℕ) (ds : List ℕ) (whole : ℕ) → length ds ≤ i → n < 2 ^ 64 → digits_value_after 10 n (drop i ds) ≡ whole → Some n ≡ below_64 whole
all-taken n i ds whole past low is =
    let same : n ≡ whole = sym (ap (digits_value_after 10 n) (drop_all i ds past)) ∙ is in
    subst (λ (m : ℕ). Some n ≡ below_64 m) same (let some : Some n ≡ below_64 n = rw (lt-ltb n (2 ^ 64) low) refl in some)

-- such a number is held with neither sign
held-large : (negative : Bool) (n : ℕ) → 2 ^ 64 ≤ n → held (with_sign negative n) ≡ Err TooLarge
held-large true n large = grind (arith, ints)
held-large false n large = grind (arith, ints)

pub too-large : (negative : Bool) (n : ℕ) → None ≡ below_64 n → Err TooLarge ≡ held (with_sign negative n)
too-large negative n none = sym (held-large negative n (high_from n none))

-- ---- rows

behind-none : (rest : Result (List ℤ) TapFault) → behind [] rest ≡ rest
behind-none (Ok taps) = refl
behind-none (Err fault) = refl

behind-behind : (a b : List ℤ) (rest : Result (List ℤ) TapFault) → behind a (behind b rest) ≡ behind (a ++ b) rest
behind-behind a b (Ok taps) = ap Ok (sym (append_assoc a b taps))
behind-behind a b (Err fault) = refl

-- one more field
pub field-read : (taps taps' : List ℤ) (row i : ℕ) (fields : List (List ℕ)) (d : List ℕ) (tap : ℤ) (all : Result (List ℤ) TapFault) → i < length fields → at_row row (tap_of (get_or fields i d)) ≡ Ok tap
    → taps' ≡ taps ++ tap ∷ [] → behind taps (row_taps row (drop i fields)) ≡ all → behind taps' (row_taps row (drop (i + 1) fields)) ≡ all
field-read taps taps' row i fields d tap all h is pushed whole =
    let split : row_taps row (drop i fields) ≡ behind (tap ∷ []) (row_taps row (drop (suc i) fields)) =
    ap (row_taps row) (drop-cons fields i d h) ∙ ap (λ (first : Result ℤ TapFault). tap_then first (row_taps row (drop (suc i) fields))) is in
    rw (add-one, pushed) (sym (behind-behind taps (tap ∷ []) (row_taps row (drop (suc i) fields))) ∙ ap (behind taps) (sym split) ∙ whole)

pub field-refused : (taps : List ℤ) (row i : ℕ) (fields : List (List ℕ)) (d : List ℕ) (fault : TapFault) (all : Result (List ℤ) TapFault) → i < length fields → at_row row (tap_of (get_or fields i d)) ≡ Err fault
    → behind taps (row_taps row (drop i fields)) ≡ all → all ≡ Err fault
field-refused taps row i fields d fault all h is whole =
    let split : row_taps row (drop i fields) ≡ Err fault =
    ap (row_taps row) (drop-cons fields i d h) ∙ ap (λ (first : Result ℤ TapFault). tap_then first (row_taps row (drop (suc i) fields))) is in
    sym whole ∙ ap (behind taps) split

-- one more row
pub row-read : (taps taps' more : List ℤ) (i : ℕ) (rows : List (List (List ℕ))) (d : List (List ℕ)) (all : Result (List ℤ) TapFault) → i < length rows → row_taps (i + 1) (get_or rows i d) ≡ Ok more
    → taps' ≡ taps ++ more → behind taps (rows_taps (i + 1) (drop i rows)) ≡ all → behind taps' (rows_taps (i + 1 + 1) (drop (i + 1) rows)) ≡ all
row-read taps taps' more i rows d all h is pushed whole =
    let split : rows_taps (i + 1) (drop i rows) ≡ behind more (rows_taps (suc (i + 1)) (drop (suc i) rows)) =
    ap (rows_taps (i + 1)) (drop-cons rows i d h) ∙ ap (λ (first : Result (List ℤ) TapFault). row_then first (rows_taps (suc (i + 1)) (drop (suc i) rows))) is in
    let one : i + 1 + 1 ≡ suc (i + 1) = omega arith in
    let two : i + 1 ≡ suc i = omega arith in
    let at : behind taps' (rows_taps (i + 1 + 1) (drop (i + 1) rows)) ≡ behind taps' (rows_taps (suc (i + 1)) (drop (suc i) rows)) =
    ap (λ (n : ℕ). behind taps' (rows_taps n (drop (i + 1) rows))) one ∙ ap (λ (n : ℕ). behind taps' (rows_taps (suc (i + 1)) (drop n rows))) two in
    at ∙ ap (λ (xs : List ℤ). behind xs (rows_taps (suc (i + 1)) (drop (suc i) rows))) pushed
    ∙ sym (behind-behind taps more (rows_taps (suc (i + 1)) (drop (suc i) rows))) ∙ ap (behind taps) (sym split) ∙ whole

pub row-refused : (taps : List ℤ) (i : ℕ) (rows : List (List (List ℕ))) (d : List (List ℕ)) (fault : TapFault) (all : Result (List ℤ) TapFault) → i < length rows → row_taps (i + 1) (get_or rows i d) ≡ Err fault
    → behind taps (rows_taps (i + 1) (drop i rows)) ≡ all → all ≡ Err fault
row-refused taps i rows d fault all h is whole =
    let split : rows_taps (i + 1) (drop i rows) ≡ Err fault =
    ap (rows_taps (i + 1)) (drop-cons rows i d h) ∙ ap (λ (first : Result (List ℤ) TapFault). row_then first (rows_taps (suc (i + 1)) (drop (suc i) rows))) is in
    sym whole ∙ ap (behind taps) split

-- ---- the fields of a record

field_at-get : (fields : List (List ℕ)) (i : ℕ) (field : List ℕ) → field_at fields i ≡ Some field → (i < length fields) × (get_or fields i [] ≡ field)
unfolding field_at
field_at-get [] i field e = cc
field_at-get (f ∷ fs) zero field e = (omega arith, same_Some f field e)
field_at-get (f ∷ fs) (suc i) field e = let more = field_at-get fs i field e in (omega (arith, more.0), more.1)

field_at-none : (fields : List (List ℕ)) (i : ℕ) → field_at fields i ≡ None → length fields ≤ i
unfolding field_at
field_at-none [] i e = omega arith
field_at-none (f ∷ fs) zero e = cc
field_at-none (f ∷ fs) (suc i) e = let more = field_at-none fs i e in omega (arith, more)

-- a field that a record gives
pub field-there : (fields : List (List ℕ)) (i : ℕ) (field : List ℕ) → Some field ≡ field_at fields i → i < length fields
field-there fields i field e = (field_at-get fields i field (sym e)).0

pub field-is : (fields : List (List ℕ)) (i : ℕ) (field : List ℕ) → Some field ≡ field_at fields i → get_or fields i [] ≡ field
field-is fields i field e = (field_at-get fields i field (sym e)).1

-- all fields were read
pub all-read : (taps : List ℤ) (row i : ℕ) (fields : List (List ℕ)) (all : Result (List ℤ) TapFault) → None ≡ field_at fields i → behind taps (row_taps row (drop i fields)) ≡ all → all ≡ Ok taps
all-read taps row i fields all none whole =
    sym whole ∙ ap (λ (rest : List (List ℕ)). behind taps (row_taps row rest)) (drop_all i fields (field_at-none fields i (sym none))) ∙ ap Ok (append-nil taps)

-- the fields of a record at its place
pub row-at : (rows : List ByteRecord) (i : ℕ) (d : ByteRecord) → i < length rows → get_or (map fields_of rows) i (fields_of d) ≡ fields_of (get_or rows i d)
row-at [] i d h = absurd (omega arith)
row-at (r ∷ rs) zero d h = refl
row-at (r ∷ rs) (suc i) d h = row-at rs i d (omega arith)

pub rows-length : (rows : List ByteRecord) → length (map fields_of rows) ≡ length rows
rows-length [] = refl
rows-length (r ∷ rs) = ap suc (rows-length rs)
