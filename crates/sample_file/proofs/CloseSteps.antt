-- The end of a file as the end of its last line.
use Rattle.std.proofs.Common.{◌≡◌, ◌∙◌, ℕ, suc, ◌<◌, List, [], ◌∷◌, ◌++◌, length, Option, None, Ok, Err, Result, OnOk, refl, sym, ap, append-nil, arith}
use Rattle.sample_file.specs.declared.fault.LineFault.{LineFault}
use Rattle.sample_file.specs.declared.row.Row.{Row}
use Rattle.sample_file.specs.Lines.{lines_of}
use Rattle.sample_file.specs.Kept.{IsOneLine}
use Rattle.sample_file.specs.Reading.{Place, rows_of, rows_from, row_then, no_rows, unless}
use Rattle.sample_file.proofs.LineSteps.{lines_of-ended, lines_of-last}

-- a line that has begun is the same with an LF and without it
same-lines : (begun : List ℕ) → IsOneLine begun → 0 < length begun → lines_of (begun ++ []) ≡ lines_of (begun ++ 10 ∷ [])
same-lines [] one some = absurd (omega arith)
same-lines (b ∷ bs) one some = ap lines_of (append-nil (b ∷ bs)) ∙ lines_of-last b bs one ∙ sym (lines_of-ended (b ∷ bs) [] one)

-- the rows of no bytes, between two lines
between-lines : (place : Place) → place.fault ≡ None → place.begun ≡ [] → rows_from place [] ≡ no_rows
between-lines place none start =
    ap (λ (f : Option LineFault). unless f (rows_of place.fields (suc place.ended) (lines_of (place.begun ++ [])))) none
    ∙ ap (λ (begun : List ℕ). rows_of place.fields (suc place.ended) (lines_of (begun ++ []))) start

then-none : (answer : Result (Option Row) LineFault) (new : Place) → OnOk answer (new.fault ≡ None) → OnOk answer (◌≡◌ {A = ℕ} 10 10 → new.begun ≡ []) → row_then answer (rows_from new []) ≡ row_then answer no_rows
then-none (Ok found) new none start = ap (row_then (Ok found)) (between-lines new none (start refl))
then-none (Err fault) new none start = refl

pub rows-closed : (old new : Place) (fields ended : ℕ) (begun : List ℕ) (fault : Option LineFault) (answer : Result (Option Row) LineFault)
    → record { fields = fields; ended = ended; begun = begun; fault = fault } ≡ old → IsOneLine begun → 0 < length begun
    → rows_from old (10 ∷ []) ≡ row_then answer (rows_from new []) → OnOk answer (new.fault ≡ None) → OnOk answer (◌≡◌ {A = ℕ} 10 10 → new.begun ≡ [])
    → rows_from old [] ≡ row_then answer no_rows
rows-closed old new fields ended begun fault answer is one some rows none start =
    sym (ap (λ (p : Place). rows_from p []) is)
    ∙ ap (λ (lines : List (List ℕ)). unless fault (rows_of fields (suc ended) lines)) (same-lines begun one some)
    ∙ ap (λ (p : Place). rows_from p (10 ∷ [])) is
    ∙ rows
    ∙ then-none answer new none start
