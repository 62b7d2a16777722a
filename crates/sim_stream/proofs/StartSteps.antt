-- Registers of 0.
use Rattle.std.proofs.Common.{◌≡◌, ◌∙◌, ℕ, zero, suc, Bool, true, false, cond, List, [], ◌∷◌, replicate, Result, Ok, Err, refl, ap}
use Rattle.std.specs.Prelude.{IfOk}
use Rattle.std.specs.Prelude.{◌==◌}
use Rattle.std.proofs.Math.Path.{fun_ext}
use Rattle.std.proofs.Math.Pow.{pow_pos}
use Rattle.std.proofs.lemmas.List.{length-replicate}
use Rattle.verilog_tree.specs.declared.tree.Signal.{Signal}
use Rattle.verilog_tree.specs.Meaning.{Shapes}
use Rattle.verilog_tree.specs.Circuit.{put, with_inputs}
use Rattle.clock_sim.specs.Sim.{Simulation, is_register, register_count, contents, AllFit, AreInitial, HoldInitial}
use Rattle.clock_sim.specs.Simulated.{values_of}

zero_fits : (shapes : Shapes) (signals : List Signal) (n : ℕ) → AllFit shapes (contents signals (replicate n 0))
zero_fits shapes [] n = tt
zero_fits shapes (s ∷ signals) zero = tt
zero_fits shapes (s ∷ signals) (suc n) = by (is_register s.kind) (zero_fits shapes signals n) (zero_fits shapes signals (suc n))
  where
    by : (b : Bool) → AllFit shapes (contents signals (replicate n 0)) → AllFit shapes (contents signals (replicate (suc n) 0))
        → AllFit shapes (cond b (record { name = s.name; value = 0 } ∷ contents signals (replicate n 0)) (contents signals (0 ∷ replicate n 0)))
    by true used kept = (pow_pos (shapes.width s.name), used)
    by false used kept = kept

pub zeros-initial : (shapes : Shapes) (signals : List Signal) (n : ℕ) → n ≡ register_count signals → AreInitial shapes signals (replicate n 0)
zeros-initial shapes signals n is = record { count = length-replicate n 0 ∙ is; fit = zero_fits shapes signals n }

put-zero : (name : ℕ) → put (λ n. 0) name 0 ≡ (λ n. 0)
put-zero name = fun_ext (λ n. same (n == name))
  where
    same : (b : Bool) → ◌≡◌ {A = ℕ} (cond b 0 0) 0
    same true = refl
    same false = refl

pub zeros-content : (signals : List Signal) (n : ℕ) → with_inputs (contents signals (replicate n 0)) (λ m. 0) ≡ (λ m. 0)
zeros-content [] n = refl
zeros-content (s ∷ signals) zero = refl
zeros-content (s ∷ signals) (suc n) = by (is_register s.kind) (zeros-content signals n) (zeros-content signals (suc n))
  where
    by : (b : Bool) → with_inputs (contents signals (replicate n 0)) (λ m. 0) ≡ (λ m. 0) → with_inputs (contents signals (replicate (suc n) 0)) (λ m. 0) ≡ (λ m. 0)
        → with_inputs (cond b (record { name = s.name; value = 0 } ∷ contents signals (replicate n 0)) (contents signals (0 ∷ replicate n 0))) (λ m. 0) ≡ (λ m. 0)
    by true used kept = ap (with_inputs (contents signals (replicate n 0))) (put-zero s.name) ∙ used
    by false used kept = kept

pub zero-values : {E : Type 0} (r : Result Simulation E) (signals : List Signal) (patterns : List ℕ) (n : ℕ) → patterns ≡ replicate n 0 → IfOk r (λ sim. HoldInitial signals patterns sim.values) → IfOk r (λ sim. values_of sim.values ≡ (λ m. 0))
zero-values (Ok sim) signals patterns n zeros holds = holds.same ∙ ap (λ (xs : List ℕ). with_inputs (contents signals xs) (λ m. 0)) zeros ∙ zeros-content signals n
zero-values (Err e) signals patterns n zeros holds = tt
