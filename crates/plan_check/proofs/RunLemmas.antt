-- The groups of a plan are the longest runs of its elements.
use Rattle.std.proofs.Common.{◌≡◌, ℕ, zero, suc, ◌+◌, ◌≤◌, refl, sym, ap, subst, arith, List, [], ◌∷◌, ◌++◌, length, None, Some, ℤ}
use Rattle.std.specs.Prelude.{max}
use Rattle.mr_values.specs.declared.plan.Element.{Element}
use Rattle.mr_values.specs.declared.plan.Element.TheVariants.{Up, Down, Filter, CicDown, CicUp, Round, Clip}
use Rattle.mr_values.specs.declared.plan.Form.{Form}
use Rattle.mr_values.specs.Value.{size}
use Rattle.mr_values.specs.Timing.{Group, Fir, groups}
use Rattle.plan_check.specs.Groups.{present, size_of, leading_filter, past_filter, leading_down, past_down, BeginsFir}
use Rattle.plan_check.specs.Runs.{IsRun, IsLongestRun, AreLongestRuns, GroupsLaw}
use Rattle.plan_check.proofs.GroupSplit.{fir_of, past_fir, groups-fir, length-fir, some-fir}

-- ---- the run with which elements begin

down_part : List Element → List Element
down_part (Down m ∷ es) = Down m ∷ []
down_part _ = []

filter_part : List Element → List Element
filter_part (Filter taps form ∷ es) = Filter taps form ∷ down_part es
filter_part es = down_part es

up_part : List Element → List Element
up_part (Up l ∷ es) = Up l ∷ filter_part es
up_part es = filter_part es

down_whole : (es : List Element) → es ≡ down_part es ++ past_down es
unfolding down_part
down_whole (Down m ∷ es) = refl
down_whole _ = refl

filter_whole : (es : List Element) → es ≡ filter_part es ++ past_down (past_filter es)
unfolding filter_part down_part
filter_whole (Filter taps form ∷ es) = ap (λ (xs : List Element). Filter taps form ∷ xs) (down_whole es)
filter_whole (Down m ∷ es) = refl
filter_whole _ = refl

up_whole : (es : List Element) → es ≡ up_part es ++ past_fir es
unfolding up_part filter_part down_part
up_whole (Up l ∷ es) = ap (λ (xs : List Element). Up l ∷ xs) (filter_whole es)
up_whole (Filter taps form ∷ es) = filter_whole (Filter taps form ∷ es)
up_whole (Down m ∷ es) = refl
up_whole _ = refl

up_is : (l : ℤ) (es : List Element) → IsRun (Up l ∷ filter_part es) (Fir (Some (size l)) (leading_filter es) (leading_down (past_filter es)))
unfolding filter_part down_part
up_is l (Filter taps form ∷ Down m ∷ es) = refl
up_is l (Filter taps form ∷ _) = refl
up_is l (Down m ∷ es) = refl
up_is l _ = refl

filter_is : (taps : List ℤ) (form : Form) (es : List Element) → IsRun (Filter taps form ∷ down_part es) (Fir None (Some (taps, form)) (leading_down es))
unfolding down_part
filter_is taps form (Down m ∷ es) = refl
filter_is taps form _ = refl

run_is : (es : List Element) → BeginsFir es → IsRun (up_part es) (fir_of es)
unfolding up_part filter_part down_part
run_is (Up l ∷ es) h = up_is l es
run_is (Filter taps form ∷ es) h = filter_is taps form es
run_is (Down m ∷ es) h = refl
run_is _ h = absurd h

down_length : (es : List Element) → length (down_part es) ≡ present (leading_down es)
unfolding down_part
down_length (Down m ∷ es) = refl
down_length _ = refl

filter_length : (es : List Element) → length (filter_part es) ≡ present (leading_filter es) + present (leading_down (past_filter es))
unfolding filter_part down_part
filter_length (Filter taps form ∷ es) = omega (arith, down_length es)
filter_length (Down m ∷ es) = refl
filter_length _ = refl

run_length : (es : List Element) → length (up_part es) ≡ size_of (fir_of es)
unfolding up_part filter_part down_part
run_length (Up l ∷ es) = omega (arith, filter_length es)
run_length (Filter taps form ∷ es) = omega (arith, down_length es)
run_length (Down m ∷ es) = refl
run_length _ = refl

-- ---- no other is longer

abbrev IsDownTail : List Element → Type 0
IsDownTail [] = Unit {0}
IsDownTail (Down m ∷ []) = Unit {0}
IsDownTail _ = ⊥

abbrev IsFilterTail : List Element → Type 0
IsFilterTail (Filter taps form ∷ es) = IsDownTail es
IsFilterTail es = IsDownTail es

up_tail : (l : ℤ) (xs : List Element) (g : Group) → IsRun (Up l ∷ xs) g → IsFilterTail xs
up_tail l [] g h = tt
up_tail l (Filter taps form ∷ []) g h = tt
up_tail l (Filter taps form ∷ Down m ∷ []) g h = tt
up_tail l (Down m ∷ []) g h = tt
up_tail l _ g h = absurd h

filter_tail : (taps : List ℤ) (form : Form) (xs : List Element) (g : Group) → IsRun (Filter taps form ∷ xs) g → IsDownTail xs
filter_tail taps form [] g h = tt
filter_tail taps form (Down m ∷ []) g h = tt
filter_tail taps form _ g h = absurd h

down_short : (xs others : List Element) → IsDownTail xs → length xs ≤ present (leading_down (xs ++ others))
down_short [] others h = omega arith
down_short (Down m ∷ []) others h = omega arith
down_short _ others h = absurd h

filter_short : (xs others : List Element) → IsFilterTail xs → length xs ≤ present (leading_filter (xs ++ others)) + present (leading_down (past_filter (xs ++ others)))
filter_short [] others h = omega arith
filter_short (Filter taps form ∷ xs) others h = let rest = down_short xs others h in omega arith
filter_short (Down m ∷ []) others h = omega arith
filter_short _ others h = absurd h

-- how long the run is with which elements begin
abbrev most : List Element → ℕ
most es = max 1 (size_of (fir_of es))

run_short : (other others : List Element) (g : Group) → IsRun other g → length other ≤ most (other ++ others)
run_short (Up l ∷ xs) others g h = let rest = filter_short xs others (up_tail l xs g h) in omega arith
run_short (Filter taps form ∷ xs) others g h = let rest = down_short xs others (filter_tail taps form xs g h) in omega arith
run_short (e ∷ []) others g h = omega arith
run_short _ others g h = absurd h

short_of : (es other others : List Element) (g : Group) → es ≡ other ++ others → IsRun other g → length other ≤ most es
short_of es other others g is h = subst (λ (xs : List Element). length other ≤ most xs) (sym is) (run_short other others g h)

-- ---- the longest

fir_longest : (es : List Element) → BeginsFir es → IsLongestRun es (fir_of es) (past_fir es)
fir_longest es begins = record {
  run = up_part es;
  whole = up_whole es;
  is_run = run_is es begins;
  longest = λ other others g is h. let bound = short_of es other others g is h in let some = some-fir es begins in omega (arith, bound, some, run_length es);
}

alone_longest : (e : Element) (es : List Element) (g : Group) → most (e ∷ es) ≡ 1 → IsRun (e ∷ []) g → IsLongestRun (e ∷ es) g es
alone_longest e es g one is = record {
  run = e ∷ [];
  whole = refl;
  is_run = is;
  longest = λ other others h same run. let bound = short_of (e ∷ es) other others h same run in omega (arith, bound, one);
}

-- ---- all of them

fir_runs : (n : ℕ) (es : List Element) → BeginsFir es → length es ≤ suc n → ((rest : List Element) → length rest ≤ n → AreLongestRuns rest (groups rest)) → AreLongestRuns es (groups es)
fir_runs n es begins h after =
    let some = some-fir es begins in
    let shorter : length (past_fir es) ≤ n = omega (arith, some, length-fir es, h) in
    subst (λ (gs : List Group). AreLongestRuns es gs) (sym (groups-fir es begins)) (past_fir es, fir_longest es begins, after (past_fir es) shorter)

runs_to : (n : ℕ) (es : List Element) → length es ≤ n → AreLongestRuns es (groups es)
runs_to n [] h = refl
runs_to zero (e ∷ es) h = absurd (omega arith)
runs_to (suc n) (CicDown factor stages delay ∷ es) h = (es, alone_longest (CicDown factor stages delay) es _ refl refl, runs_to n es (omega arith))
runs_to (suc n) (CicUp factor stages delay ∷ es) h = (es, alone_longest (CicUp factor stages delay) es _ refl refl, runs_to n es (omega arith))
runs_to (suc n) (Round shift mode ∷ es) h = (es, alone_longest (Round shift mode) es _ refl refl, runs_to n es (omega arith))
runs_to (suc n) (Clip bits ∷ es) h = (es, alone_longest (Clip bits) es _ refl refl, runs_to n es (omega arith))
runs_to (suc n) (Up l ∷ es) h = fir_runs n (Up l ∷ es) tt h (λ rest short. runs_to n rest short)
runs_to (suc n) (Filter taps form ∷ es) h = fir_runs n (Filter taps form ∷ es) tt h (λ rest short. runs_to n rest short)
runs_to (suc n) (Down m ∷ es) h = fir_runs n (Down m ∷ es) tt h (λ rest short. runs_to n rest short)

pub groups_law : GroupsLaw
groups_law es = runs_to (length es) es (omega arith)
