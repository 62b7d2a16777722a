-- What cascades are as stages.
use Rattle.std.specs.Prelude.{◌≡◌, ℕ, ◌+◌, ◌-◌, ◌*◌, ◌/◌, ◌%◌, ◌^◌, ◌<◌, ◌≤◌, [], ◌∷◌, pos}
use Rattle.mr_values.specs.declared.plan.Element.TheVariants.{CicDown, CicUp}
use Rattle.stage_law.specs.Facts.{StageFacts}
use Rattle.stage_law.specs.declared.stage.Kind.TheVariants.{CicDown as CicDownKind, CicUp as CicUpKind}

-- a register for each integrator, and one more than its delay for each comb. Hogenauer 1981, II
abbrev pub cascade_registers : ℕ → ℕ → ℕ
cascade_registers stages delay = stages + stages * (delay + 1)

abbrev pub cic_down_facts : ℕ → ℕ → ℕ → StageFacts
cic_down_facts factor stages delay = record {
  kind = CicDownKind;
  elements = CicDown (pos factor) (pos stages) (pos delay) ∷ [];
  up = 1;
  down = factor;
  delay = λ period. (stages - 1) * period + 1 + stages;
  gain = (factor * delay) ^ stages;
  adders = 2 * stages;
  windows = 0;
  tables = 0;
  longest = 0;
  alike = cascade_registers stages delay;
  registers = λ period. [];
}

abbrev pub cic_up_facts : ℕ → ℕ → ℕ → StageFacts
cic_up_facts factor stages delay = record {
  kind = CicUpKind;
  elements = CicUp (pos factor) (pos stages) (pos delay) ∷ [];
  up = factor;
  down = 1;
  delay = λ period. stages + (stages - 1) * (period / factor) + 1;
  gain = (factor * delay) ^ stages;
  adders = 2 * stages;
  windows = 0;
  tables = 0;
  longest = 0;
  alike = cascade_registers stages delay;
  registers = λ period. [];
}

-- the streams of these periods are taken
pub record TakesDown (period : ℕ) : Type 0 where
  pub some : 1 ≤ period
  pub most : period < 2 ^ 31

-- and these, where the values that are given stand a whole number of ticks apart
pub record TakesUp (factor period : ℕ) : Type 0 where
  pub some : 1 ≤ period
  pub most : period < 2 ^ 31
  pub whole : period % factor ≡ 0
