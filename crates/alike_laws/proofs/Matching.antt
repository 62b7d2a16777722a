-- Names that are the same by their texts: each has exactly one partner, where no name stands twice.
use Rattle.std.proofs.Common.{◌≡◌, ℕ, zero, suc, List, [], ◌∷◌, Option, Some, sym, ◌∙◌, ap, arith, inl, inr}
use Rattle.std.specs.Prelude.{◌==◌, slice_get}
use Rattle.std.specs.Option.{unwrap_or}
use Rattle.std.proofs.lemmas.Bool.{eq-eqb, ne_eqb, cases_eq}
use Rattle.std.proofs.lemmas.Option.{slice_get_within}
use Rattle.verilog_tree.specs.Alike.{SameName}
use Rattle.verilog_tree.specs.Renaming.{name_in, number_in, AreDistinct}
use Rattle.verilog_text.proofs.Numbering.{number_of_name}

pub name_at : (names : List (List ℕ)) (n : ℕ) (text : List ℕ) → slice_get names n ≡ Some text → name_in names n ≡ text
name_at [] n text at = absurd (omega (arith, slice_get_within {A = List ℕ} [] n text at))
name_at (name ∷ names) zero text at = cc
name_at (name ∷ names) (suc n) text at = name_at names n text at

-- two numbers of one text are one
one_number : (names : List (List ℕ)) (m n : ℕ) (text other : List ℕ) → AreDistinct names → slice_get names m ≡ Some text → slice_get names n ≡ Some other → text ≡ other → m ≡ n
one_number names m n text other distinct at_m at_n is =
    sym (number_of_name names m distinct (slice_get_within names m text at_m))
    ∙ ap (number_in names) (name_at names m text at_m ∙ is ∙ sym (name_at names n other at_n))
    ∙ number_of_name names n distinct (slice_get_within names n other at_n)

-- the one text of a number
one_text : (names : List (List ℕ)) (m : ℕ) (text other : List ℕ) → slice_get names m ≡ Some text → slice_get names m ≡ Some other → text ≡ other
one_text names m text other a b = cc

module _ (xs ys : List (List ℕ)) (distinct_x : AreDistinct xs) (distinct_y : AreDistinct ys) where
  pub one_there : (m n other : ℕ) → SameName xs ys m n → SameName xs ys m other → n ≡ other
  one_there m n other a b = one_number ys n other a.0 b.0 distinct_y a.2 b.2 (one_text xs m a.0 b.0 a.1 b.1)

  pub one_back : (m other n : ℕ) → SameName xs ys m n → SameName xs ys other n → m ≡ other
  one_back m other n a b = one_number xs m other a.0 b.0 distinct_x a.1 b.1 (one_text ys n a.0 b.0 a.2 b.2)

  -- names are equal where their partners are
  pub same_equal : (m n k l : ℕ) → SameName xs ys m n → SameName xs ys k l → (m == k) ≡ (n == l)
  same_equal m n k l a b = elim (cases_eq m k) [
    | inl e ↦ eq-eqb m k e ∙ sym (eq-eqb n l (one_there m n l a (b.0, ap (slice_get xs) e ∙ b.1, b.2)))
    | inr ne ↦ ne_eqb m k ne ∙ sym (ne_eqb n l (λ e. ne (one_back m k n a (b.0, b.1, ap (slice_get ys) e ∙ b.2))))
  ]

  pub same_texts : (m n : ℕ) → SameName xs ys m n → unwrap_or (slice_get xs m) [] ≡ unwrap_or (slice_get ys n) []
  same_texts m n a = ap (λ (o : Option (List ℕ)). unwrap_or o []) (a.1 ∙ sym a.2)
