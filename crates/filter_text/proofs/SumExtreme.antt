-- Samples that drive a linear register to a value which needs its width do so in each run of the module in which they are read.
use Rattle.std.proofs.Common.{◌≡◌, ◌⊎◌, inl, inr, ℕ, zero, suc, ◌-◌, ◌*◌, ◌<◌, ◌≤◌, List, [], ◌∷◌, length, Some, refl, sym, ◌∙◌, ap, subst, arith, ℤ, pos, negsuc}
use Rattle.std.specs.Prelude.{slice_index}
use Rattle.std.proofs.Math.Path.{fun_ext}
use Rattle.std.proofs.lemmas.Bool.{cases_lt}
use Rattle.mr_values.specs.Sequence.{Sequence, samples, filter}
use Rattle.mr_values.specs.Value.{chain}
use Rattle.mr_values.specs.Width.{FitsWidth, signed}
use Rattle.net_graph.specs.Name.{written_name}
use Rattle.stage_law.specs.Registers.{HeldSum}
use Rattle.verilog_tree.specs.Shown.{Cycle}
use Rattle.verilog_tree.specs.Tree.{Design}
use Rattle.net_module.specs.Steps.{tick_data, ticks_in}
use Rattle.chain_build.specs.Extremes.{IsExtremeInput}
use Rattle.chain_build.specs.Linear.{LinearRegister}
use Rattle.filter_text.specs.Runs.{samples_in}
use Rattle.filter_text.specs.Registers.{IsLinearRegister, ReadsSamples, IsExtremeOf}
use Rattle.shown_module.proofs.Data.{signed_zero}
use Rattle.filter_text.proofs.ChainShows.{has_samples}

-- ---- past the last

past_numbers : (xs : List ℕ) (k : ℕ) → length xs ≤ k → slice_index xs k ≡ 0
past_numbers [] k le = refl
past_numbers (x ∷ xs) zero le = absurd (omega arith)
past_numbers (x ∷ xs) (suc k) le = past_numbers xs k (omega arith)

past_samples : (xs : List ℤ) (k : ℕ) → length xs ≤ k → samples xs (pos k) ≡ pos 0
past_samples [] k le = refl
past_samples (x ∷ xs) zero le = absurd (omega arith)
past_samples (x ∷ xs) (suc k) le = past_samples xs k (omega arith)

-- ---- the samples that a run reads

module _ {width ticks : ℕ} (some : 1 ≤ ticks) (xs : List ℤ) (tick : ℕ) (early : (i : ℕ) → i < length xs → i * ticks ≤ tick) (after : List Cycle) (late : tick < ticks_in after) (reads : ReadsSamples width ticks xs after) where
  -- a sample that is read, or one past the last on either side
  sample_is : (k : ℕ) → signed width (slice_index (tick_data after) (k * ticks)) ≡ samples xs (pos k)
  sample_is k = by (cases_lt (k * ticks) (ticks_in after)) (cases_lt k (length xs))
    where
      by : (k * ticks < ticks_in after) ⊎ (ticks_in after ≤ k * ticks) → (k < length xs) ⊎ (length xs ≤ k) → signed width (slice_index (tick_data after) (k * ticks)) ≡ samples xs (pos k)
      by (inl lt) other = reads.each k lt
      by (inr le) (inl lt) = absurd (omega (arith, late, le, early k lt))
      by (inr le) (inr past) = ap (signed width) (past_numbers (tick_data after) (k * ticks) le) ∙ signed_zero width ∙ sym (past_samples xs k past)

  same_samples : samples (samples_in width ticks after) ≡ samples xs
  same_samples = fun_ext each
    where
      each : (n : ℤ) → samples (samples_in width ticks after) n ≡ samples xs n
      each (pos k) = sym (has_samples width ticks some after k) ∙ sample_is k
      each (negsuc k) = refl

-- ---- the register

pub sum_extreme : {width ticks : ℕ} → 1 ≤ ticks → (d : Design) (r : LinearRegister) (s : HeldSum) (xs : List ℤ) (tick : ℕ) (value : ℤ) → IsLinearRegister width ticks d r → r.needed ≡ Some s
    → IsExtremeInput width ticks r s xs tick value → IsExtremeOf width ticks d (written_name r.name) xs tick value
sum_extreme {width} {ticks} some d r s xs tick value its needs input = record {
  fit = input.fit;
  holds = λ content before after reset settled runs late reads j now at is.
      its.holds s needs content before after reset settled runs input.index j now input.in_class at (is ∙ input.is_tick)
      ∙ ap (λ (v : Sequence). filter s.form (chain r.stream.elements v) (pos input.index)) (same_samples some xs tick input.early after late reads) ∙ sym input.is_value;
  over = λ fits. input.over (subst (λ (w : ℕ). FitsWidth (w - 1) value) its.wide fits);
}
