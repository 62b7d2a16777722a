-- The rows of a file, byte by byte.
use Rattle.std.proofs.Common.{◌≡◌, ◌==◌, ◌∙◌, ℕ, suc, ◌+◌, ◌*◌, ◌-◌, ◌<◌, ◌≤◌, ◌^◌, Bool, true, false, not, cond, List, [], ◌∷◌, ◌++◌, length, take, get_or, None, Ok, Err, Result, Option, OnOk, refl, sym, ap, subst, append_assoc, length-append, length-take, arith, nat_lt, nat_le}
use Rattle.std.specs.List.{list_all, onto_first}
use Rattle.std.proofs.lemmas.Bool.{false≢true, and_parts, lt-ltb, lt-leb}
use Rattle.sample_file.specs.declared.fault.LineFault.{LineFault}
use Rattle.sample_file.specs.declared.fault.LineFault.TheVariants.{LongLine}
use Rattle.sample_file.specs.declared.row.Row.{Row}
use Rattle.sample_file.specs.Lines.{lines_of, line_before, content_of}
use Rattle.sample_file.specs.Kept.{IsOneLine}
use Rattle.sample_file.specs.Reading.{Place, rows_of, rows_from, row_then, refused, most_before, line_row, unless}

-- ---- lines

abbrev is_within : ℕ → Bool
is_within byte = not (byte == 10)

one-line : (b : ℕ) (bs : List ℕ) → IsOneLine (b ∷ bs) → ((b == 10) ≡ false) × IsOneLine bs
one-line b bs one =
    let (first, others) = and_parts (is_within b) (list_all is_within bs) one.each in
    (not_true (b == 10) first, record { each = others })
  where
    not_true : (t : Bool) → not t ≡ true → t ≡ false
    not_true true h = absurd (false≢true h)
    not_true false h = refl

before-other : (b : ℕ) (lines : List (List ℕ)) → (b == 10) ≡ false → line_before b lines ≡ onto_first b lines
before-other b lines other = ap (λ (t : Bool). cond t ([] ∷ lines) (onto_first b lines)) other

-- LF ends the line that has begun
pub lines_of-ended : (begun rest : List ℕ) → IsOneLine begun → lines_of (begun ++ 10 ∷ rest) ≡ begun ∷ lines_of rest
lines_of-ended [] rest one = refl
lines_of-ended (b ∷ bs) rest one =
    let (other, others) = one-line b bs one in
    ap (line_before b) (lines_of-ended bs rest others) ∙ before-other b (bs ∷ lines_of rest) other

-- the line that has begun, where no LF follows
pub lines_of-last : (b : ℕ) (bs : List ℕ) → IsOneLine (b ∷ bs) → lines_of (b ∷ bs) ≡ (b ∷ bs) ∷ []
lines_of-last b [] one = before-other b [] (one-line b [] one).0
lines_of-last b (c ∷ cs) one =
    let (other, others) = one-line b (c ∷ cs) one in
    ap (line_before b) (lines_of-last c cs others) ∙ before-other b ((c ∷ cs) ∷ []) other

-- the first line begins with what has begun
record BeginsWith (begun : List ℕ) (lines : List (List ℕ)) : Type 0 where
  more : List ℕ
  others : List (List ℕ)
  is : lines ≡ (begun ++ more) ∷ others

begins : (b : ℕ) (lines : List (List ℕ)) → BeginsWith (b ∷ []) (onto_first b lines)
begins b [] = record { more = []; others = []; is = refl }
begins b (l ∷ ls) = record { more = l; others = ls; is = refl }

begins-more : (b : ℕ) (bs : List ℕ) (lines : List (List ℕ)) → BeginsWith bs lines → BeginsWith (b ∷ bs) (onto_first b lines)
begins-more b bs lines h = record { more = h.more; others = h.others; is = ap (onto_first b) h.is }

begins-with : (b : ℕ) (bs rest : List ℕ) → IsOneLine (b ∷ bs) → BeginsWith (b ∷ bs) (lines_of ((b ∷ bs) ++ rest))
begins-with b [] rest one = subst (BeginsWith (b ∷ [])) (sym (before-other b (lines_of rest) (one-line b [] one).0)) (begins b (lines_of rest))
begins-with b (c ∷ cs) rest one =
    let (other, others) = one-line b (c ∷ cs) one in
    subst (BeginsWith (b ∷ c ∷ cs)) (sym (before-other b (lines_of ((c ∷ cs) ++ rest)) other)) (begins-more b (c ∷ cs) (lines_of ((c ∷ cs) ++ rest)) (begins-with c cs rest others))

-- ---- rows

-- a reader in the midst of a line, without a fault
here : (old : Place) (fields ended : ℕ) (begun : List ℕ) (fault : Option LineFault) (bytes : List ℕ) → record { fields = fields; ended = ended; begun = begun; fault = fault } ≡ old → old.fault ≡ None
    → rows_from old bytes ≡ rows_of fields (suc ended) (lines_of (begun ++ bytes))
here old fields ended begun fault bytes is none =
    let whole : unless old.fault (rows_of old.fields (suc old.ended) (lines_of (old.begun ++ bytes))) ≡ rows_of old.fields (suc old.ended) (lines_of (old.begun ++ bytes)) =
    ap (λ (f : Option LineFault). unless f (rows_of old.fields (suc old.ended) (lines_of (old.begun ++ bytes)))) none in
    whole ∙ sym (ap (λ (p : Place). rows_of p.fields (suc p.ended) (lines_of (p.begun ++ bytes))) is)

no_fault : (old : Place) (fields ended : ℕ) (begun : List ℕ) (fault : Option LineFault) → record { fields = fields; ended = ended; begun = begun; fault = fault } ≡ old → old.fault ≡ None → fault ≡ None
no_fault old fields ended begun fault is none = ap (λ (p : Place). p.fault) is ∙ none

-- LF ends the line
pub rows-ended : (old : Place) (fields ended : ℕ) (begun line : List ℕ) (fault : Option LineFault) (byte : ℕ) (answer : Result (Option Row) LineFault) (rest : List ℕ)
    → record { fields = fields; ended = ended; begun = begun; fault = fault } ≡ old → old.fault ≡ None → byte ≡ 10 → IsOneLine begun → line ≡ begun → answer ≡ line_row fields (ended + 1) line
    → rows_from old (byte ∷ rest) ≡ row_then answer (rows_from (record { fields = fields; ended = ended + 1; begun = []; fault = fault }) rest)
rows-ended old fields ended begun line fault byte answer rest is none lf one same answered =
    let next : ended + 1 ≡ suc ended = omega arith in
    let row : answer ≡ line_row fields (suc ended) begun = answered ∙ ap (λ (n : ℕ). line_row fields n line) next ∙ ap (line_row fields (suc ended)) same in
    let free : fault ≡ None = no_fault old fields ended begun fault is none in
    let later : rows_from (record { fields = fields; ended = ended + 1; begun = []; fault = fault }) rest ≡ rows_of fields (suc (suc ended)) (lines_of rest) =
    ap (λ (n : ℕ). unless fault (rows_of fields (suc n) (lines_of rest))) next ∙ ap (λ (f : Option LineFault). unless f (rows_of fields (suc (suc ended)) (lines_of rest))) free in
    here old fields ended begun fault (byte ∷ rest) is none ∙ ap (λ (b : ℕ). rows_of fields (suc ended) (lines_of (begun ++ b ∷ rest))) lf ∙ ap (rows_of fields (suc ended)) (lines_of-ended begun rest one)
    ∙ ap (λ (a : Result (Option Row) LineFault). row_then a (rows_of fields (suc (suc ended)) (lines_of rest))) (sym row) ∙ ap (row_then answer) (sym later)

-- a line that is too long already
short_content : (line : List ℕ) (n : ℕ) (t : Bool) → suc n < length line → n < length (cond t (take (length line - 1) line) line)
short_content line n true h = omega (arith, length-take (length line - 1) line)
short_content line n false h = omega arith

long-row : (fields number : ℕ) (line : List ℕ) → number < 2 ^ 32 → 4097 < length line → line_row fields number line ≡ Err (LongLine number)
long-row fields number line few long =
    let small : nat_le (2 ^ 32) number ≡ false = lt-leb (2 ^ 32) number few in
    let over : nat_lt 4096 (length (content_of line)) ≡ true = lt-ltb 4096 (length (content_of line)) (short_content line 4096 (get_or line (length line - 1) 0 == 13) long) in
    rw (small, over) refl

rows-long : (fields number : ℕ) (b : ℕ) (bs : List ℕ) (byte : ℕ) (rest : List ℕ) → number < 2 ^ 32 → IsOneLine ((b ∷ bs) ++ byte ∷ []) → 4097 ≤ length (b ∷ bs) → rows_of fields number (lines_of ((b ∷ bs) ++ byte ∷ rest)) ≡ refused (LongLine number)
rows-long fields number b bs byte rest few one long =
    let h = begins-with b (bs ++ byte ∷ []) rest one in
    let split : (b ∷ bs) ++ byte ∷ rest ≡ (b ∷ (bs ++ byte ∷ [])) ++ rest = sym (append_assoc (b ∷ bs) (byte ∷ []) rest) in
    let long_line : 4097 < length ((b ∷ (bs ++ byte ∷ [])) ++ h.more) = omega (arith, length-append (b ∷ (bs ++ byte ∷ [])) h.more, length-append (b ∷ bs) (byte ∷ [])) in
    ap (λ (bytes : List ℕ). rows_of fields number (lines_of bytes)) split ∙ ap (rows_of fields number) h.is
    ∙ ap (λ (a : Result (Option Row) LineFault). row_then a (rows_of fields (suc number) h.others)) (long-row fields number ((b ∷ (bs ++ byte ∷ [])) ++ h.more) few long_line)

one-more : (begun : List ℕ) (byte : ℕ) → IsOneLine begun → (byte == 10) ≡ false → IsOneLine (begun ++ byte ∷ [])
one-more begun byte one other = record { each = all-more begun byte one.each other }
  where
    all-more : (bs : List ℕ) (byte : ℕ) → list_all is_within bs ≡ true → (byte == 10) ≡ false → list_all is_within (bs ++ byte ∷ []) ≡ true
    all-more [] byte h other = rw other refl
    all-more (b ∷ bs) byte h other =
        let (first, others) = and_parts (is_within b) (list_all is_within bs) h in
        rw (first, all-more bs byte others other) refl

pub rows-full : (old : Place) (fields ended : ℕ) (begun : List ℕ) (fault : Option LineFault) (byte : ℕ) (rest : List ℕ) → record { fields = fields; ended = ended; begun = begun; fault = fault } ≡ old → old.fault ≡ None
    → (byte == 10) ≡ false → IsOneLine begun → 4097 ≤ length begun → ended + 1 < 2 ^ 32 → rows_from old (byte ∷ rest) ≡ refused (LongLine (ended + 1))
rows-full old fields ended [] fault byte rest is none other one long few = absurd (omega arith)
rows-full old fields ended (b ∷ bs) fault byte rest is none other one long few =
    let next : ended + 1 ≡ suc ended = omega arith in
    here old fields ended (b ∷ bs) fault (byte ∷ rest) is none ∙ rows-long fields (suc ended) b bs byte rest (omega arith) (one-more (b ∷ bs) byte one other) long
    ∙ ap (λ (n : ℕ). refused (LongLine n)) (sym next)

-- ---- bytes

pub on-ok : {A E : Type 0} (r : Result A E) (P : Type 0) → P → OnOk r P
on-ok (Ok x) P h = h
on-ok (Err e) P h = tt

-- a line that ends has fewer bytes than are counted for it
pub bytes-ended : (old : Place) (fields ended : ℕ) (begun : List ℕ) (fault : Option LineFault) → record { fields = fields; ended = ended; begun = begun; fault = fault } ≡ old → length begun ≤ 4097
    → most_before old + 1 ≤ most_before (record { fields = fields; ended = ended + 1; begun = []; fault = fault })
bytes-ended old fields ended begun fault is within = subst (λ (p : Place). most_before p + 1 ≤ (ended + 1) * 4098 + 0) is (omega (arith, within))

pub bytes-more : (old : Place) (fields ended : ℕ) (begun more : List ℕ) (fault : Option LineFault) → record { fields = fields; ended = ended; begun = begun; fault = fault } ≡ old → length begun + 1 ≤ length more
    → most_before old + 1 ≤ most_before (record { fields = fields; ended = ended; begun = more; fault = fault })
bytes-more old fields ended begun more fault is within = subst (λ (p : Place). most_before p + 1 ≤ ended * 4098 + length more) is (omega (arith, within))
