-- At which ticks the samples are given to a module.
use Rattle.std.specs.Prelude.{ℕ, zero, suc, ◌+◌, ◌-◌, ◌*◌, max, true, false, List, [], ◌∷◌, ◌++◌, replicate, Option, None, Some, ℤ}
use Rattle.mr_values.specs.Timing.{ceil_div}
use Rattle.mr_values.specs.Width.{pattern}
use Rattle.sample_file.specs.declared.fault.LineFault.{LineFault}
use Rattle.verilog_tree.specs.Shown.{Cycle}
use Rattle.chain_run.specs.declared.timing.ChainTiming.{ChainTiming}

-- a tick with these bits at `in_data`
abbrev pub tick_of : ℕ → Cycle
tick_of bits = record { rst = false; ce = true; in_data = bits }

-- so many ticks with 0
abbrev pub zeros : ℕ → List Cycle
zeros n = replicate n (tick_of 0)

-- after how many ticks the last value that belongs to so many samples was shown
abbrev pub ticks_to_show : ChainTiming → ℕ → ℕ
ticks_to_show t zero = 0
ticks_to_show t (suc samples) = t.latency + (ceil_div (suc samples * t.ticks) t.period - 1) * t.period + 1

-- how many ticks there are for so many samples: theirs, and where no line is refused, as many more as it takes to show their values
abbrev pub end_tick : ChainTiming → ℕ → Option LineFault → ℕ
end_tick t samples None = max (samples * t.ticks) (ticks_to_show t samples)
end_tick t samples (Some fault) = samples * t.ticks

-- The ticks that follow so many samples and so many ticks: sample k is given at the tick k * ticks, and 0 at all other ticks.
abbrev pub ticks_from : ChainTiming → (samples tick : ℕ) → List ℤ → Option LineFault → List Cycle
ticks_from t samples tick [] fault = zeros (end_tick t samples fault - tick)
ticks_from t samples tick (x ∷ xs) fault =
    zeros (samples * t.ticks - tick) ++ tick_of (pattern t.width x) ∷ ticks_from t (suc samples) (suc (max tick (samples * t.ticks))) xs fault
