-- The longest literal, by what stands behind its first digits.
use Rattle.std.proofs.Common.{◌≡◌, ℕ, zero, suc, ◌<◌, ◌≤◌, Bool, true, false, cond, List, [], ◌∷◌, length, take, Option, Some, None, refl, ap, ◌∙◌, arith}
use Rattle.std.specs.Prelude.{◌&&◌}
use Rattle.std.specs.List.{list_all, prefix_len}
use Rattle.std.proofs.lemmas.Bool.{cond-false, and_left}
use Rattle.verilog_text.specs.Lexer.{Piece, is_digit_in, is_more_in, literal_piece, digits_piece}
use Rattle.verilog_lex.specs.Best.{IsBest, IsNever}
use Rattle.verilog_lex.proofs.Longest.{run_best}

-- a byte before a reading
module _ (outer inner : List ℕ → Option Piece) (b : ℕ) (rest : List ℕ) (is : (xs : List ℕ) → outer (b ∷ xs) ≡ inner xs) where
  pub best_behind : (n : ℕ) (p : Piece) → IsBest inner rest n p → IsBest outer (b ∷ rest) (suc n) p
  best_behind n p best = record {
    within = let w = best.within in omega arith;
    is = is (take n rest) ∙ best.is;
    longest = λ m more within. longer m more within;
  }
    where
      longer : (m : ℕ) → suc n < m → m ≤ length (b ∷ rest) → outer (take m (b ∷ rest)) ≡ None
      longer zero more within = absurd (omega arith)
      longer (suc m) more within = is (take m rest) ∙ best.longest m (omega arith) (omega arith)

  pub never_behind : outer [] ≡ None → IsNever inner rest → IsNever outer (b ∷ rest)
  never_behind empty never = record { none = λ m within. each m within }
    where
      each : (m : ℕ) → m ≤ length (b ∷ rest) → outer (take m (b ∷ rest)) ≡ None
      each zero within = empty
      each (suc m) within = is (take m rest) ∙ never.none m (omega arith)

-- two readings that agree on what begins with a byte
module _ (outer inner : List ℕ → Option Piece) (b : ℕ) (rest : List ℕ) (is : (xs : List ℕ) → outer (b ∷ xs) ≡ inner (b ∷ xs)) (empty : outer [] ≡ inner []) where
  agree : (m : ℕ) → outer (take m (b ∷ rest)) ≡ inner (take m (b ∷ rest))
  agree zero = empty
  agree (suc m) = is (take m rest)

  pub best_same : (n : ℕ) (p : Piece) → IsBest inner (b ∷ rest) n p → IsBest outer (b ∷ rest) n p
  best_same n p best = record { within = best.within; is = agree n ∙ best.is; longest = λ m more within. agree m ∙ best.longest m more within }

  pub never_same : IsNever inner (b ∷ rest) → IsNever outer (b ∷ rest)
  never_same never = record { none = λ m within. agree m ∙ never.none m within }

-- digits
module _ (size : ℕ) (signed : Bool) (base : ℕ) where
  digits_are : (d : ℕ) → is_digit_in base d ≡ true → (xs : List ℕ) → digits_piece size signed (Some base) (d ∷ xs) ≡ cond (list_all (is_more_in base) xs) (Some (literal_piece size signed base (d ∷ xs))) None
  digits_are d e xs = ap (λ b. cond (b && list_all (is_more_in base) xs) (Some (literal_piece size signed base (d ∷ xs))) None) e

  pub digits_best : (d : ℕ) (rest : List ℕ) → is_digit_in base d ≡ true → IsBest (digits_piece size signed (Some base)) (d ∷ rest) (suc (prefix_len (is_more_in base) rest)) (literal_piece size signed base (d ∷ take (prefix_len (is_more_in base) rest) rest))
  digits_best d rest e = run_best (digits_piece size signed (Some base)) (is_more_in base) d rest (λ xs. literal_piece size signed base (d ∷ xs)) (digits_are d e)

  no_digits_at : (d : ℕ) (rest : List ℕ) → is_digit_in base d ≡ false → (m : ℕ) → digits_piece size signed (Some base) (take m (d ∷ rest)) ≡ None
  no_digits_at d rest e zero = refl
  no_digits_at d rest e (suc m) = cond-false _ _ _ (and_left _ _ e)

  pub digits_never : (d : ℕ) (rest : List ℕ) → is_digit_in base d ≡ false → IsNever (digits_piece size signed (Some base)) (d ∷ rest)
  digits_never d rest e = record { none = λ m within. no_digits_at d rest e m }

empty_at : (reading : List ℕ → Option Piece) → reading [] ≡ None → (m : ℕ) → m ≤ 0 → reading (take m []) ≡ None
empty_at reading e zero within = e
empty_at reading e (suc m) within = absurd (omega arith)

pub never_empty : (reading : List ℕ → Option Piece) → reading [] ≡ None → IsNever reading []
never_empty reading e = record { none = λ m within. empty_at reading e m within }
