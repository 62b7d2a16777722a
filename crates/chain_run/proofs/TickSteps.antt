-- The ticks that follow, one part after another.
use Rattle.std.proofs.Common.{◌≡◌, ◌∙◌, ℕ, suc, ◌+◌, ◌-◌, ◌*◌, ◌≤◌, max, List, [], ◌∷◌, ◌++◌, Option, None, Some, ℤ, sym, ap, append_assoc, arith, inl, inr}
use Rattle.std.proofs.lemmas.Bool.{cases_lt}
use Rattle.std.proofs.lemmas.List.{replicate-append-replicate}
use Rattle.mr_values.specs.Width.{pattern}
use Rattle.sample_file.specs.declared.fault.LineFault.{LineFault}
use Rattle.verilog_tree.specs.Shown.{Cycle}
use Rattle.chain_run.specs.declared.timing.ChainTiming.{ChainTiming}
use Rattle.chain_run.specs.Ticks.{tick_of, zeros, ticks_to_show, end_tick, ticks_from}

pub max-more : (a b : ℕ) → max a b ≡ a + (b - a)
max-more a b = omega arith

pub max-left : (a b : ℕ) → b ≤ a → max a b ≡ a
max-left a b h = omega (arith, max-more a b)

-- the end of the samples lies before the end
pub end-least : (t : ChainTiming) (samples : ℕ) (fault : Option LineFault) → samples * t.ticks ≤ end_tick t samples fault
end-least t samples None = omega (arith, max-more (samples * t.ticks) (ticks_to_show t samples))
end-least t samples (Some fault) = omega arith

zeros-split : (from to past : ℕ) → from ≤ to → to ≤ max from past → zeros (past - from) ≡ zeros (to - from) ++ zeros (past - to)
zeros-split from to past least most =
    let count : past - from ≡ (to - from) + (past - to) = omega (arith, max-more from past) in
    ap zeros count ∙ sym (replicate-append-replicate (to - from) (past - to) (tick_of 0))

-- ticks before the next sample
pub ticks-due : (t : ChainTiming) (samples tick ticks : ℕ) (xs : List ℤ) (fault : Option LineFault) → tick ≤ ticks → ticks ≤ max tick (samples * t.ticks)
    → ticks_from t samples tick xs fault ≡ zeros (ticks - tick) ++ ticks_from t samples ticks xs fault
ticks-due t samples tick ticks [] fault least most =
    let past = end_tick t samples fault in
    zeros-split tick ticks past least (omega (arith, max-more tick (samples * t.ticks), max-more tick past, end-least t samples fault))
ticks-due t samples tick ticks (x ∷ xs) fault least most =
    let first = samples * t.ticks in
    let same : max tick first ≡ max ticks first = omega (arith, max-more tick first, max-more ticks first) in
    let others : List Cycle = tick_of (pattern t.width x) ∷ ticks_from t (suc samples) (suc (max tick first)) xs fault in
    ap (λ (before : List Cycle). before ++ others) (zeros-split tick ticks first least most)
    ∙ append_assoc (zeros (ticks - tick)) (zeros (first - ticks)) others
    ∙ ap (λ (n : ℕ). zeros (ticks - tick) ++ (zeros (first - ticks) ++ tick_of (pattern t.width x) ∷ ticks_from t (suc samples) (suc n) xs fault)) same

-- ticks at the end
pub ticks-end : (t : ChainTiming) (samples tick ticks : ℕ) → tick ≤ ticks → ticks ≤ max tick (end_tick t samples None)
    → ticks_from t samples tick [] None ≡ zeros (ticks - tick) ++ ticks_from t samples ticks [] None
ticks-end t samples tick ticks least most = zeros-split tick ticks (end_tick t samples None) least most

no-zeros : (n m : ℕ) → n ≤ m → zeros (n - m) ≡ []
no-zeros n m h = let none : n - m ≡ 0 = omega arith in ap zeros none

-- a sample at its tick
pub ticks-sample : (t : ChainTiming) (samples tick : ℕ) (x : ℤ) (xs : List ℤ) (fault : Option LineFault) → samples * t.ticks ≤ tick
    → ticks_from t samples tick (x ∷ xs) fault ≡ tick_of (pattern t.width x) ∷ ticks_from t (samples + 1) (tick + 1) xs fault
ticks-sample t samples tick x xs fault due =
    let first = samples * t.ticks in
    let next : suc (max tick first) ≡ tick + 1 = omega (arith, max-left tick first due) in
    let more : suc samples ≡ samples + 1 = omega arith in
    ap (λ (before : List Cycle). before ++ tick_of (pattern t.width x) ∷ ticks_from t (suc samples) (suc (max tick first)) xs fault) (no-zeros first tick due)
    ∙ ap (λ (n : ℕ). tick_of (pattern t.width x) ∷ ticks_from t (suc samples) n xs fault) next
    ∙ ap (λ (n : ℕ). tick_of (pattern t.width x) ∷ ticks_from t n (tick + 1) xs fault) more

-- nothing follows
pub ticks-refused : (t : ChainTiming) (samples tick : ℕ) (fault : LineFault) → samples * t.ticks ≤ tick → ticks_from t samples tick [] (Some fault) ≡ []
ticks-refused t samples tick fault due = no-zeros (samples * t.ticks) tick due

pub ticks-over : (t : ChainTiming) (samples tick : ℕ) → end_tick t samples None ≤ tick → ticks_from t samples tick [] None ≡ []
ticks-over t samples tick over = no-zeros (end_tick t samples None) tick over

-- a tick that was come to lies between the first and the later of two
pub tick-most : (tick until ticks : ℕ) → (tick ≤ until → ticks ≤ until) → (until ≤ tick → ticks ≡ tick) → ticks ≤ max tick until
tick-most tick until ticks before past = elim (cases_lt tick until) [
  | inl less ↦ let h : ticks ≤ until = before (omega arith) in omega (arith, max-more tick until)
  | inr more ↦ let h : ticks ≡ tick = past (omega arith) in omega (arith, max-more tick until)
]
