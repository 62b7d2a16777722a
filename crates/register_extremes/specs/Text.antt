-- The text of samples that drive a linear register of a plan to a value which needs all of its bits.
use Rattle.std.specs.Prelude.{◌≡◌, ◌≤◌, ◌^◌, ℕ, ℤ, List, length}
use Rattle.mr_values.specs.declared.plan.Element.{Element}
use Rattle.verilog_tree.specs.Tree.{Design}
use Rattle.chain_build.specs.Linear.{linear}
use Rattle.extreme_file.specs.Reading.{ReadsAs}
use Rattle.extreme_file.specs.Text.{extreme_lines}
use Rattle.filter_text.specs.Extremes.{IsWideIn}
use Rattle.filter_text.specs.Registers.{HasLinearRegisters, IsExtremeOf}

-- The plan has a linear register of this name, of two bits or more. The text names it, a tick and a value, and is else one of at most
-- 2^27 samples; these drive the register there, in every module that has the plan's linear registers, to this value, which one bit less
-- than its width doesn't hold.
pub record IsExtremeText (width ticks : ℕ) (elements : List Element) (register text : List ℕ) : Type 0 where
  pub wide : IsWideIn (linear width ticks elements) register
  pub two : 2 ≤ wide.r.width
  pub samples : List ℤ
  pub few : length samples ≤ 2 ^ 27
  pub tick : ℕ
  pub value : ℤ
  pub lines : text ≡ extreme_lines register tick value samples
  pub reads : ReadsAs width samples text
  pub drives : (d : Design) → HasLinearRegisters elements width ticks d → IsExtremeOf width ticks d register samples tick value
