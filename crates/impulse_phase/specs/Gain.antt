-- How large the weights of a chain's responses are.
use Rattle.std.specs.Prelude.{ℕ, ◌*◌, ◌^◌, ◌≤◌, List, [], ◌∷◌, ℤ}
use Rattle.mr_values.specs.declared.plan.Element.{Element}
use Rattle.mr_values.specs.declared.plan.Element.TheVariants.{Filter, CicDown, CicUp}
use Rattle.mr_values.specs.Value.{size}
use Rattle.plan_check.specs.Amounts.{magnitude}
use Rattle.impulse_phase.specs.Response.{Responses}

abbrev pub HasGain : Responses → ℕ → Type 0
HasGain f gain = (n : ℤ) → magnitude (f n).weights ≤ gain

abbrev pub gain_after : Element → ℕ → ℕ
gain_after (Filter taps form) gain = magnitude taps * gain
gain_after (CicDown factor stages delay) gain = (size factor * size delay) ^ size stages * gain
gain_after (CicUp factor stages delay) gain = (size factor * size delay) ^ size stages * gain
gain_after _ gain = gain

abbrev pub gain_after_all : List Element → ℕ → ℕ
gain_after_all [] gain = gain
gain_after_all (e ∷ es) gain = gain_after_all es (gain_after e gain)
