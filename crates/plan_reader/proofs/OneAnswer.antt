-- A tap file has one answer.
use Rattle.std.proofs.Common.{◌≡◌, ◌∙◌, ℕ, List, [], ◌∷◌, Some, None, Result, ℤ, refl, sym, ap, subst}
use Rattle.std.proofs.lemmas.Option.{same_Some}
use Rattle.csv.specs.Machine.{Read, next_record}
use Rattle.csv.specs.Reading.{Reached}
use Rattle.csv.specs.declared.parser.Config.{Config}
use Rattle.csv.specs.declared.parser.State.{State}
use Rattle.plan_reader.specs.declared.fault.TapFault.{TapFault}
use Rattle.plan_reader.specs.TapFields.{rows_taps, SaysTaps}

-- where nothing is left to read, no record is read
no_more : (cfg : Config) (s s2 : State) (xs ys : List ℕ) (p : Read) → s ≡ s2 → xs ≡ ys → next_record cfg s2 [] [] ys ≡ None → next_record cfg s [] [] xs ≡ Some p → ⊥
no_more cfg s s2 xs ys p state bytes ended more =
    let here : next_record cfg s [] [] xs ≡ None = ap (λ (t : State). next_record cfg t [] [] xs) state ∙ ap (next_record cfg s2 [] []) bytes ∙ ended in
    cc

-- a text has one list of records
one_list : (cfg : Config) (rows others : List (List (List ℕ))) (s s2 s3 : State) (xs ys zs : List ℕ) → Reached cfg s xs rows s2 ys → next_record cfg s2 [] [] ys ≡ None
    → Reached cfg s xs others s3 zs → next_record cfg s3 [] [] zs ≡ None → rows ≡ others
unfolding Reached
one_list cfg [] [] s s2 s3 xs ys zs a ended b other = refl
one_list cfg [] (r ∷ rs) s s2 s3 xs ys zs a ended b other = absurd (no_more cfg s s2 xs ys b.0 a.0 a.1 ended b.1)
one_list cfg (r ∷ rs) [] s s2 s3 xs ys zs a ended b other = absurd (no_more cfg s s3 xs zs a.0 b.0 b.1 other a.1)
one_list cfg (r ∷ rs) (q ∷ qs) s s2 s3 xs ys zs a ended b other =
    let same : b.0 ≡ a.0 = same_Some b.0 a.0 (sym b.1 ∙ a.1) in
    let first : r ≡ q = a.2 ∙ ap (λ (p : Read). p.0) (sym same) ∙ sym b.2 in
    let rest = one_list cfg rs qs a.0.1 s2 s3 a.0.2 ys zs a.3 ended (subst (λ (p : Read). Reached cfg p.1 p.2 qs s3 zs) same b.3) other in
    ap (λ (x : List (List ℕ)). x ∷ rs) first ∙ ap (λ (xs : List (List (List ℕ))). q ∷ xs) rest

pub one_answer : (bytes : List ℕ) (a b : Result (List ℤ) TapFault) → SaysTaps bytes a → SaysTaps bytes b → a ≡ b
one_answer bytes a b x y =
    let rows = one_list _ x.rows y.rows _ x.are_rows.0 y.are_rows.0 _ x.are_rows.1 y.are_rows.1 x.are_rows.2 x.are_rows.3 y.are_rows.2 y.are_rows.3 in
    sym x.says ∙ ap (rows_taps 1) rows ∙ y.says
