-- The plan and the samples that a number draws.
use Rattle.std.specs.Prelude.{ℕ, zero, suc, ◌+◌, ◌%◌, List, [], ◌∷◌, map, ℤ, pos, ◌-ℤ◌}
use Rattle.std.specs.List.{range_with_len}
use Rattle.draws.specs.Draw.{next_state, drawn}
use Rattle.chain_values.specs.Streams.{values_from}
use Rattle.mr_values.specs.Timing.{count}
use Rattle.mr_values.specs.Value.{val}
use Rattle.mr_values.specs.declared.plan.Element.{Element}
use Rattle.mr_values.specs.declared.plan.Element.TheVariants.{Down, Filter, CicDown, Round}
use Rattle.mr_values.specs.declared.plan.Form.TheVariants.{Parallel}
use Rattle.mr_values.specs.declared.plan.Mode.TheVariants.{HalfUp}
use Rattle.mr_values.specs.declared.plan.Plan.{Plan}

-- ---- draws

-- the state after so many draws
unfoldable pub state_after : ℕ → ℕ → ℕ
state_after zero state = state
state_after (suc k) state = next_state (state_after k state)

-- what is drawn after so many draws
unfoldable pub draw_after : ℕ → ℕ → ℕ
draw_after k state = drawn (state_after k state)

-- ---- the plan: the factor, the stages, the delay and 16 taps are drawn, in this order

unfoldable pub factor_drawn : ℕ → ℕ
factor_drawn number = 2 + draw_after 0 number % 15

unfoldable pub stages_drawn : ℕ → ℕ
stages_drawn number = 1 + draw_after 1 number % 5

unfoldable pub delay_drawn : ℕ → ℕ
delay_drawn number = 1 + draw_after 2 number % 2

abbrev pub tap_of : ℕ → ℤ
tap_of n = pos (n % 2001) -ℤ pos 1000

-- so many taps, drawn from a state on
unfoldable pub taps_from : ℕ → ℕ → List ℤ
taps_from state count = map (λ k. tap_of (draw_after k state)) (range_with_len 0 count)

abbrev pub taps_drawn : ℕ → List ℤ
taps_drawn number = taps_from (state_after 3 number) 16

abbrev pub elements_drawn : ℕ → List Element
elements_drawn number =
    CicDown (pos (factor_drawn number)) (pos (stages_drawn number)) (pos (delay_drawn number)) ∷ Filter (taps_drawn number) Parallel ∷ Down (pos 2) ∷ Round (pos 8) HalfUp ∷ []

abbrev pub plan_drawn : ℕ → Plan
plan_drawn number = record { width = pos 12; ticks = pos 1; elements = elements_drawn number }

-- ---- the samples: 100,000, drawn behind the plan

abbrev pub sample_of : ℕ → ℤ
sample_of n = pos (n % 4096) -ℤ pos 2048

-- so many samples, drawn from a state on
unfoldable pub samples_from : ℕ → ℕ → List ℤ
samples_from state count = map (λ k. sample_of (draw_after k state)) (range_with_len 0 count)

-- the state behind the plan
abbrev pub state_drawn : ℕ → ℕ
state_drawn number = state_after 19 number

abbrev pub samples_drawn : ℕ → List ℤ
samples_drawn number = samples_from (state_drawn number) 100000

-- ---- the values of the chain that belong to the samples

abbrev pub count_drawn : ℕ → ℕ
count_drawn number = count 12 1 (elements_drawn number) 100000

abbrev pub values_drawn : ℕ → List ℤ
values_drawn number = values_from (val (elements_drawn number) (samples_drawn number)) (pos 0) (count_drawn number)
