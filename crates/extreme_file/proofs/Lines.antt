-- The text, read as samples.
use Rattle.std.proofs.Common.{◌≡◌, ◌==◌, ◌∙◌, ℕ, zero, suc, ◌+◌, ◌-◌, ◌<◌, ◌≤◌, ◌^◌, Bool, true, false, not, cond, List, [], ◌∷◌, ◌++◌, length, take, drop, Option, None, Some, Result, Ok, Err, All, refl, sym, ap, append_assoc, length-append, length-take, ℤ, pos, arith, nat_le, nat_lt}
use Rattle.std.specs.Prelude.{decimal, codes, slice_index}
use Rattle.std.specs.Fmt.{signed_decimal}
use Rattle.std.specs.List.{list_all}
use Rattle.std.proofs.lemmas.List.Folds.{list_all-append}
use Rattle.std.proofs.lemmas.Bool.Decides.{nat_tests}
use Rattle.mr_values.specs.Width.{FitsWidth}
use Rattle.mr_values.proofs.WidthLemmas.{FitsWidth-more}
use Rattle.sample_file.specs.declared.fault.LineFault.{LineFault}
use Rattle.sample_file.specs.declared.fault.LineFault.TheVariants.{TooManyLines, OutOfRange}
use Rattle.sample_file.specs.declared.row.Row.{Row}
use Rattle.sample_file.specs.Kept.{IsOneLine}
use Rattle.sample_file.specs.Lines.{lines_of, content_of}
use Rattle.sample_file.specs.Fields.{is_held}
use Rattle.sample_file.specs.Reading.{rows_of, row_then, line_row, content_row}
use Rattle.sample_file.specs.Ranges.{samples_of, item_then}
use Rattle.sample_file.proofs.LineSteps.{lines_of-ended}
use Rattle.sample_file.proofs.RangeSteps.{same-held}
use Rattle.extreme_file.specs.Text.{register_line, sample_lines, extreme_lines}
use Rattle.extreme_file.specs.Room.{HasRoom}
use Rattle.extreme_file.specs.Reading.{ReadsAs}
use Rattle.extreme_file.proofs.Numerals.{one_plain, fields_plain, counted_plain, content_plain, plain_decimal, printed_signed, length_decimal, IsPrinted}

-- ---- the first line

-- the first line without its end, behind the `#`
abbrev behind_mark : List ℕ → ℕ → ℤ → List ℕ
behind_mark register tick value = codes " register " ++ register ++ codes " tick " ++ decimal tick ++ codes " value " ++ signed_decimal value

ends_with_feed : (register : List ℕ) (tick : ℕ) (value : ℤ) (rest : List ℕ) → register_line register tick value ++ rest ≡ (35 ∷ behind_mark register tick value) ++ 10 ∷ rest
ends_with_feed register tick value rest = append_assoc (35 ∷ behind_mark register tick value) (10 ∷ []) rest

abbrev pub is_within : ℕ → Bool
is_within byte = not (byte == 10)

pub all_both : (xs ys : List ℕ) → list_all is_within xs ≡ true → list_all is_within ys ≡ true → list_all is_within (xs ++ ys) ≡ true
all_both xs ys first second = list_all-append is_within xs ys ∙ rw (first, second) refl

one_behind : (register : List ℕ) (tick : ℕ) (value : ℤ) → list_all is_within register ≡ true → tick < 2 ^ 128 → FitsWidth 128 value → IsOneLine (35 ∷ behind_mark register tick value)
one_behind register tick value name small fits = record {
  each =
      all_both (((codes "# register " ++ register) ++ codes " tick ") ++ decimal tick ++ codes " value ") (signed_decimal value)
      (all_both ((codes "# register " ++ register ++ codes " tick ") ++ decimal tick) (codes " value ")
      (all_both (codes "# register " ++ register ++ codes " tick ") (decimal tick)
      (all_both (codes "# register " ++ register) (codes " tick ") (all_both (codes "# register ") register refl name) refl)
      (one_plain (decimal tick) (plain_decimal tick (omega (arith, small))))) refl)
      (one_plain (signed_decimal value) (printed_signed value fits).plain);
}

length_behind : (register : List ℕ) (tick : ℕ) (value : ℤ) → length register ≤ 3968 → tick < 2 ^ 128 → FitsWidth 128 value → length (35 ∷ behind_mark register tick value) ≤ 4096
length_behind register tick value short small fits =
    let a = length-append (codes "# register ") register in
    let b = length-append (codes "# register " ++ register) (codes " tick ") in
    let c = length-append (codes "# register " ++ register ++ codes " tick ") (decimal tick) in
    let d = length-append (codes "# register " ++ register ++ codes " tick " ++ decimal tick) (codes " value ") in
    let e = length-append (codes "# register " ++ register ++ codes " tick " ++ decimal tick ++ codes " value ") (signed_decimal value) in
    omega (arith, a, b, c, d, e, short, length_decimal tick small, (printed_signed value fits).short)

-- a line that begins with `#` is skipped, with its last byte and without it
skipped_marked : (b : ℕ) (bs : List ℕ) (number : ℕ) → number < 2 ^ 32 → length (35 ∷ b ∷ bs) ≤ 4096 → line_row 1 number (35 ∷ b ∷ bs) ≡ Ok None
skipped_marked b bs number few short =
    ap (λ (t : Bool). cond t (Err TooManyLines) (content_row 1 number (content_of (35 ∷ b ∷ bs)))) early ∙ by (slice_index (35 ∷ b ∷ bs) (length (35 ∷ b ∷ bs) - 1) == 13)
  where
    early : nat_le (2 ^ 32) number ≡ false
    early = grind (arith, nat_tests)

    marked : (rest : List ℕ) → length (35 ∷ rest) ≤ 4096 → content_row 1 number (35 ∷ rest) ≡ Ok None
    marked rest le = let within : nat_lt 4096 (length (35 ∷ rest)) ≡ false = grind (arith, nat_tests) in rw within refl

    cut : take (length (35 ∷ b ∷ bs) - 1) (35 ∷ b ∷ bs) ≡ 35 ∷ take (length bs) (b ∷ bs)
    cut = let e : length (35 ∷ b ∷ bs) - 1 ≡ suc (length bs) = omega arith in ap (λ (n : ℕ). take n (35 ∷ b ∷ bs)) e

    by : (t : Bool) → content_row 1 number (cond t (take (length (35 ∷ b ∷ bs) - 1) (35 ∷ b ∷ bs)) (35 ∷ b ∷ bs)) ≡ Ok None
    by true = ap (content_row 1 number) cut ∙ marked (take (length bs) (b ∷ bs)) (omega (arith, short, length-take (length bs) (b ∷ bs)))
    by false = marked (b ∷ bs) short

-- ---- the samples

sample_row : (z : ℤ) (number : ℕ) → FitsWidth 128 z → number < 2 ^ 32 → line_row 1 number (signed_decimal z) ≡ Ok (Some (record { line = number; values = z ∷ pos 0 ∷ pos 0 ∷ [] }))
sample_row z number fits few = by (signed_decimal z) (printed_signed z fits)
  where
    early : nat_le (2 ^ 32) number ≡ false
    early = grind (arith, nat_tests)

    by : (text : List ℕ) → IsPrinted text z → line_row 1 number text ≡ Ok (Some (record { line = number; values = z ∷ pos 0 ∷ pos 0 ∷ [] }))
    by [] its = cc
    by (b ∷ bs) its =
        let within : nat_lt 4096 (length (b ∷ bs)) ≡ false = short (length (b ∷ bs)) its.short in
        rw (early, content_plain (b ∷ bs) its.plain, within, counted_plain b bs its.plain, fields_plain b bs its.plain, its.numeral, its.number) refl
      where
        short : (n : ℕ) → n ≤ 40 → nat_lt 4096 n ≡ false
        short n le = grind (arith, nat_tests)

held_sample : (width : ℕ) (z : ℤ) → FitsWidth width z → is_held width z ≡ true
held_sample width z fits = sym (same-held width z true ((λ yes. fits), (λ fits. refl)))

rows_samples : (width number : ℕ) (xs : List ℤ) → width ≤ 128 → All (FitsWidth width) xs → number + length xs ≤ 2 ^ 32 → samples_of width (rows_of 1 number (lines_of (sample_lines xs))) ≡ record { items = xs; fault = None }
rows_samples width number [] narrow fit few = refl
rows_samples width number (x ∷ xs) narrow fit few =
    let text = signed_decimal x in
    let first : FitsWidth width x = fit zero x (omega arith) in
    let wide : FitsWidth 128 x = FitsWidth-more width 128 x narrow first in
    let one : IsOneLine text = record { each = one_plain text (printed_signed x wide).plain } in
    let lines : lines_of (sample_lines (x ∷ xs)) ≡ text ∷ lines_of (sample_lines xs) = ap lines_of (append_assoc text (10 ∷ []) (sample_lines xs)) ∙ lines_of-ended text (sample_lines xs) one in
    ap (λ (ls : List (List ℕ)). samples_of width (rows_of 1 number ls)) lines
    ∙ ap (λ (a : Result (Option Row) LineFault). samples_of width (row_then a (rows_of 1 (suc number) (lines_of (sample_lines xs))))) (sample_row x number wide (omega (arith, few)))
    ∙ ap (λ (t : Bool). item_then (cond t (Ok x) (Err (OutOfRange number))) (samples_of width (rows_of 1 (suc number) (lines_of (sample_lines xs))))) (held_sample width x first)
    ∙ ap (item_then (Ok x)) (rows_samples width (suc number) xs narrow (λ k d below. fit (suc k) d (omega (arith, below))) (omega (arith, few)))

-- ---- the whole

pub reads_as : (register : List ℕ) (tick : ℕ) (value : ℤ) (xs : List ℤ) (width : ℕ) → HasRoom register xs → tick < 2 ^ 128 → FitsWidth 128 value → width ≤ 128 → All (FitsWidth width) xs → ReadsAs width xs (extreme_lines register tick value xs)
reads_as register tick value xs width room small fits narrow fit =
    let line = behind_mark register tick value in
    let lines : lines_of (extreme_lines register tick value xs) ≡ (35 ∷ line) ∷ lines_of (sample_lines xs) =
    ap lines_of (ends_with_feed register tick value (sample_lines xs)) ∙ lines_of-ended (35 ∷ line) (sample_lines xs) (one_behind register tick value room.one small fits) in
    record {
      is =
          ap (λ (ls : List (List ℕ)). samples_of width (rows_of 1 1 ls)) lines
          ∙ ap (λ (a : Result (Option Row) LineFault). samples_of width (row_then a (rows_of 1 2 (lines_of (sample_lines xs))))) (skipped_marked 32 (drop 1 line) 1 (omega arith) (length_behind register tick value room.short small fits))
          ∙ rows_samples width 2 xs narrow fit (omega (arith, room.few));
    }
