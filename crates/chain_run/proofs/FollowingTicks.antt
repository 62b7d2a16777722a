-- The ticks of a whole run: how many there are, and which samples stand in them.
use Rattle.std.proofs.Common.{◌≡◌, ◌∙◌, ℕ, zero, suc, ◌+◌, ◌-◌, ◌*◌, ◌/◌, ◌≤◌, ◌<◌, max, List, [], ◌∷◌, ◌++◌, length, map, get_or, Option, None, Some, ℤ, pos, negsuc, refl, sym, ap, arith}
use Rattle.std.proofs.Math.Path.{fun_ext}
use Rattle.std.proofs.lemmas.Nat.{div-mul-add, pow_pos}
use Rattle.mr_values.specs.Sequence.{samples, phase}
use Rattle.mr_values.specs.Timing.{ceil_div}
use Rattle.mr_values.specs.Width.{FitsWidth, pattern, signed}
use Rattle.mr_values.proofs.WidthLemmas.{pattern-lt, signed-pattern, pattern-zero, FitsWidth-zero}
use Rattle.sample_file.specs.declared.fault.LineFault.{LineFault}
use Rattle.net_module.specs.Steps.{HasNoReset, tick_data, ticks_in}
use Rattle.verilog_tree.specs.Shown.{Cycle, EachFits}
use Rattle.filter_text.specs.Runs.{samples_in}
use Rattle.chain_run.specs.declared.timing.ChainTiming.{ChainTiming}
use Rattle.chain_run.specs.Outputs.{IsTiming, value_count}
use Rattle.chain_run.specs.Ticks.{tick_of, zeros, ticks_to_show, end_tick, ticks_from}
use Rattle.chain_run.proofs.TickSteps.{max-more, end-least}
use Rattle.chain_run.proofs.TimingSteps.{ceil-least}

-- ---- each is a tick without a reset, whose bits fit

no_reset-zeros : (n : ℕ) (others : List Cycle) → HasNoReset others → HasNoReset (zeros n ++ others)
no_reset-zeros zero others h = h
no_reset-zeros (suc n) others h = (refl, no_reset-zeros n others h)

no_reset-only : (n : ℕ) → HasNoReset (zeros n)
no_reset-only zero = tt
no_reset-only (suc n) = (refl, no_reset-only n)

pub no_reset-ticks : (t : ChainTiming) (samples tick : ℕ) (xs : List ℤ) (fault : Option LineFault) → HasNoReset (ticks_from t samples tick xs fault)
no_reset-ticks t samples tick [] fault = no_reset-only (end_tick t samples fault - tick)
no_reset-ticks t samples tick (x ∷ xs) fault = no_reset-zeros (samples * t.ticks - tick) (tick_of (pattern t.width x) ∷ ticks_from t (suc samples) (suc (max tick (samples * t.ticks))) xs fault)
    (refl, no_reset-ticks t (suc samples) (suc (max tick (samples * t.ticks))) xs fault)

fits-zeros : (w n : ℕ) (others : List Cycle) → EachFits w others → EachFits w (zeros n ++ others)
fits-zeros w zero others h = h
fits-zeros w (suc n) others h = (pow_pos w, fits-zeros w n others h)

fits-only : (w n : ℕ) → EachFits w (zeros n)
fits-only w zero = tt
fits-only w (suc n) = (pow_pos w, fits-only w n)

pub fits-ticks : (t : ChainTiming) (samples tick : ℕ) (xs : List ℤ) (fault : Option LineFault) → EachFits t.width (ticks_from t samples tick xs fault)
fits-ticks t samples tick [] fault = fits-only t.width (end_tick t samples fault - tick)
fits-ticks t samples tick (x ∷ xs) fault = fits-zeros t.width (samples * t.ticks - tick) (tick_of (pattern t.width x) ∷ ticks_from t (suc samples) (suc (max tick (samples * t.ticks))) xs fault)
    (pattern-lt t.width x, fits-ticks t (suc samples) (suc (max tick (samples * t.ticks))) xs fault)

-- ---- how many there are

count-zeros : (n : ℕ) (others : List Cycle) → ticks_in (zeros n ++ others) ≡ n + ticks_in others
count-zeros zero others = omega arith
count-zeros (suc n) others = omega (arith, count-zeros n others)

count-only : (n : ℕ) → ticks_in (zeros n) ≡ n
count-only zero = refl
count-only (suc n) = omega (arith, count-only n)

pub count-ticks : (t : ChainTiming) (samples tick : ℕ) (xs : List ℤ) (fault : Option LineFault) → 1 ≤ t.ticks → tick ≤ samples * t.ticks
    → tick + ticks_in (ticks_from t samples tick xs fault) ≡ end_tick t (samples + length xs) fault
count-ticks t samples tick [] fault some before =
    let all : samples ≡ samples + 0 = omega arith in
    omega (arith, count-only (end_tick t samples fault - tick), end-least t samples fault, ap (λ (n : ℕ). end_tick t n fault) all)
count-ticks t samples tick (x ∷ xs) fault some before =
    let first = samples * t.ticks in
    let next = suc (max tick first) in
    let equal : max tick first ≡ first = omega (arith, max-more tick first) in
    let others : List Cycle = ticks_from t (suc samples) next xs fault in
    let all : suc samples + length xs ≡ samples + suc (length xs) = omega arith in
    let rest : next + ticks_in others ≡ end_tick t (suc samples + length xs) fault = count-ticks t (suc samples) next xs fault some (omega (arith, equal)) in
    omega (arith, count-zeros (first - tick) (tick_of (pattern t.width x) ∷ others), equal, rest, ap (λ (n : ℕ). end_tick t n fault) all)

-- ---- which samples stand in them

signed_zero : (w : ℕ) → 1 ≤ w → signed w 0 ≡ pos 0
signed_zero w some = ap (signed w) (sym (pattern-zero w)) ∙ signed-pattern w (pos 0) some (FitsWidth-zero w)

abbrev numbers : ℕ → List Cycle → List ℤ
numbers w cycles = map (signed w) (tick_data cycles)

-- so many bits hold each of them
abbrev pub EachFitsWidth : ℕ → List ℤ → Type 0
EachFitsWidth w [] = Unit {0}
EachFitsWidth w (x ∷ xs) = FitsWidth w x × EachFitsWidth w xs

phase-zeros : (w k n : ℕ) (others : List Cycle) → phase k n (numbers w (zeros n ++ others)) ≡ phase k 0 (numbers w others)
phase-zeros w k zero others = refl
phase-zeros w k (suc n) others = phase-zeros w k n others

item-zeros : (w k wait n i : ℕ) → 1 ≤ w → get_or (phase k wait (numbers w (zeros n))) i (pos 0) ≡ pos 0
item-zeros w k wait zero i some = refl
item-zeros w k zero (suc n) zero some = signed_zero w some
item-zeros w k zero (suc n) (suc i) some = item-zeros w k (k - 1) n i some
item-zeros w k (suc wait) (suc n) i some = item-zeros w k wait n i some

item-first : (w k : ℕ) (x : ℤ) (xs : List ℤ) (others : List Cycle) → 1 ≤ w → FitsWidth w x → ((i : ℕ) → get_or (phase k (k - 1) (numbers w others)) i (pos 0) ≡ get_or xs i (pos 0))
    → (i : ℕ) → get_or (phase k 0 (numbers w (tick_of (pattern w x) ∷ others))) i (pos 0) ≡ get_or (x ∷ xs) i (pos 0)
item-first w k x xs others wide fits rest zero = signed-pattern w x wide fits
item-first w k x xs others wide fits rest (suc i) = rest i

item-ticks : (t : ChainTiming) (samples tick : ℕ) (xs : List ℤ) (fault : Option LineFault) → 1 ≤ t.width → 1 ≤ t.ticks → EachFitsWidth t.width xs → tick ≤ samples * t.ticks → (i : ℕ)
    → get_or (phase t.ticks (samples * t.ticks - tick) (numbers t.width (ticks_from t samples tick xs fault))) i (pos 0) ≡ get_or xs i (pos 0)
item-ticks t samples tick [] fault wide some fit before i = item-zeros t.width t.ticks (samples * t.ticks - tick) (end_tick t samples fault - tick) i wide
item-ticks t samples tick (x ∷ xs) fault wide some fit before i =
    let first = samples * t.ticks in
    let next = suc (max tick first) in
    let equal : max tick first ≡ first = omega (arith, max-more tick first) in
    let wait : t.ticks - 1 ≡ suc samples * t.ticks - next = omega (arith, equal) in
    let others : List Cycle = ticks_from t (suc samples) next xs fault in
    ap (λ (ys : List ℤ). get_or ys i (pos 0)) (phase-zeros t.width t.ticks (first - tick) (tick_of (pattern t.width x) ∷ others))
    ∙ item-first t.width t.ticks x xs others wide fit.0
    (λ j. ap (λ (n : ℕ). get_or (phase t.ticks n (numbers t.width others)) j (pos 0)) wait ∙ item-ticks t (suc samples) next xs fault wide some fit.1 (omega (arith, equal)) j) i

pub samples-ticks : (t : ChainTiming) (xs : List ℤ) (fault : Option LineFault) → 1 ≤ t.width → 1 ≤ t.ticks → EachFitsWidth t.width xs
    → samples (samples_in t.width t.ticks (ticks_from t 0 0 xs fault)) ≡ samples xs
samples-ticks t xs fault wide some fit = fun_ext by
  where
    by : (i : ℤ) → samples (samples_in t.width t.ticks (ticks_from t 0 0 xs fault)) i ≡ samples xs i
    by (pos i) =
        let none : 0 ≡ 0 * t.ticks - 0 = omega arith in
        ap (λ (n : ℕ). get_or (phase t.ticks n (numbers t.width (ticks_from t 0 0 xs fault))) i (pos 0)) none ∙ item-ticks t 0 0 xs fault wide some fit (omega arith) i
    by (negsuc i) = refl

-- ---- how many values are shown

ceil-is : (m d q : ℕ) → 1 ≤ d → q * d < m → m ≤ q * d + d → ceil_div m d ≡ suc q
ceil-is m d q some least most =
    let split : m + (d - 1) ≡ suc q * d + (m - (q * d + 1)) = omega arith in
    ap (λ (n : ℕ). n / d) split ∙ div-mul-add (suc q) d (m - (q * d + 1)) (omega arith)

pub count-values : (t : ChainTiming) (samples : ℕ) (fault : Option LineFault) → IsTiming t → ceil_div (end_tick t samples fault - t.latency) t.period ≡ value_count t samples fault
count-values t samples (Some fault) is = refl
count-values t zero None is = let none : end_tick t 0 None - t.latency ≡ 0 * t.ticks = omega (arith, max-more (0 * t.ticks) 0) in ap (λ (n : ℕ). ceil_div n t.period) none
count-values t (suc samples) None is =
    by (ceil_div (suc samples * t.ticks) t.period) refl
  where
    by : (q : ℕ) → ceil_div (suc samples * t.ticks) t.period ≡ q → ceil_div (end_tick t (suc samples) None - t.latency) t.period ≡ ceil_div (suc samples * t.ticks) t.period
    by zero e =
        let all = suc samples * t.ticks in
        let least = ceil-least all t.period is.least_period in
        let none : t.period * ceil_div all t.period ≡ t.period * 0 = ap (λ (n : ℕ). t.period * n) e in
        absurd (omega (arith, is.least_ticks))
    by (suc q) e =
        let all = suc samples * t.ticks in
        let last : (ceil_div all t.period - 1) * t.period ≡ q * t.period = ap (λ (n : ℕ). (n - 1) * t.period) e ∙ ap (λ (n : ℕ). n * t.period) (one q) in
        let least = ceil-least all t.period is.least_period in
        let whole : t.period * ceil_div all t.period ≡ t.period * suc q = ap (λ (n : ℕ). t.period * n) e in
        let end = max-more all (ticks_to_show t (suc samples)) in
        ceil-is (end_tick t (suc samples) None - t.latency) t.period q is.least_period (omega (arith, is.least_period)) (omega (arith, is.least_period)) ∙ sym e
      where
        one : (n : ℕ) → suc n - 1 ≡ n
        one n = omega arith
