-- What `run` gives for a file of samples: the values of the chain that belong to them, one on each line.
use Rattle.std.specs.Prelude.{◌≡◌, ◌≤◌, ◌<◌, ◌^◌, ◌-◌, ◌*◌, ℕ, List, [], ◌∷◌, ◌++◌, length, map, Option, None, Some, ℤ, pos}
use Rattle.std.specs.List.{range_with_len}
use Rattle.mr_values.specs.Timing.{ceil_div}
use Rattle.mr_values.specs.Value.{val}
use Rattle.mr_values.specs.declared.plan.Element.{Element}
use Rattle.sample_file.specs.declared.fault.LineFault.{LineFault}
use Rattle.sample_file.specs.Printed.{printed}
use Rattle.sample_file.specs.Reading.{file_rows}
use Rattle.sample_file.specs.Ranges.{Checked, samples_of}
use Rattle.row_stream.specs.Giving.{Giving}
use Rattle.chain_run.specs.declared.timing.ChainTiming.{ChainTiming}

-- the limits of an accepted plan's numbers
pub record IsTiming (t : ChainTiming) : Type 0 where
  pub least_width : 2 ≤ t.width
  pub most_width : t.width ≤ 64
  pub least_ticks : 1 ≤ t.ticks
  pub most_ticks : t.ticks ≤ 65536
  pub most_latency : t.latency ≤ 2 ^ 31
  pub least_period : 1 ≤ t.period
  pub most_period : t.period < 2 ^ 31

-- a line for each number
abbrev pub printed_lines : List ℤ → List ℕ
printed_lines [] = []
printed_lines (v ∷ vs) = printed (v ∷ []) ++ printed_lines vs

-- How many values belong to so many samples: those whose ticks lie, without the latency, before the end of the samples. Behind a line
-- that is refused no sample follows: the values are those whose ticks lie, with the latency, before the end of the samples.
abbrev pub value_count : ChainTiming → ℕ → Option LineFault → ℕ
value_count t samples None = ceil_div (samples * t.ticks) t.period
value_count t samples (Some fault) = ceil_div (samples * t.ticks - t.latency) t.period

-- so many values of the chain over these samples, from index 0 on
abbrev pub first_values : List Element → List ℤ → ℕ → List ℤ
first_values elements xs count = map (λ n. val elements xs (pos n)) (range_with_len 0 count)

-- the samples of a file
abbrev pub file_samples : ℕ → List ℕ → Checked ℤ
file_samples width bytes = samples_of width (file_rows 1 bytes)

abbrev pub run_text : List Element → ChainTiming → Checked ℤ → List ℕ
run_text elements t xs = printed_lines (first_values elements xs.items (value_count t (length xs.items) xs.fault))

-- the text is what `run` gives for the bytes of a file, of which this line is the first that is refused
pub record IsRunText (elements : List Element) (t : ChainTiming) (bytes text : List ℕ) (last : Option LineFault) : Type 0 where
  pub is_text : text ≡ run_text elements t (file_samples t.width bytes)
  pub is_last : last ≡ (file_samples t.width bytes).fault

-- whatever is given is what `run` gives
abbrev pub GivesRun : List Element → ChainTiming → Giving → Type 0
GivesRun elements t gives = (bytes text : List ℕ) (last : Option LineFault) → gives bytes text last → IsRunText elements t bytes text last
