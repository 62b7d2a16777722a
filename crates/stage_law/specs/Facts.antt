-- What a stage is, as the chain sees it.
use Rattle.std.specs.Prelude.{ℕ, List}
use Rattle.mr_values.specs.declared.plan.Element.{Element}
use Rattle.stage_law.specs.Registers.{StageRegister}
use Rattle.stage_law.specs.declared.stage.Kind.{Kind}

pub record StageFacts : Type 0 where
  pub kind : Kind
  pub elements : List Element
  -- it takes `down` values for each `up` that it gives
  pub up : ℕ
  pub down : ℕ
  -- the ticks that it takes at a period
  pub delay : ℕ → ℕ
  -- how many times greater its values may be than those of its stream
  pub gain : ℕ
  -- its sums and differences, window registers and tables
  pub adders : ℕ
  pub windows : ℕ
  pub tables : ℕ
  -- the greatest length of a form of its peaks
  pub longest : ℕ
  -- how many registers a stage has whose registers are all of one width
  pub alike : ℕ
  -- the registers of a linear stage, by the period of its stream
  pub registers : ℕ → List StageRegister
