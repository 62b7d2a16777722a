use Rattle.std.proofs.Common.{◌≡◌, ◌++◌, drop}
use Rattle.extreme_file.specs.Text.{sample_lines}
use Rattle.extreme_file.proofs.text.extreme_text.Given as goal

-- what is written and what is left are the whole
abbrev pub invariant-loop-sample : goal.invariant-loop-sample
invariant-loop-sample l = l.text.items ++ sample_lines (drop l.sample-index l.samples) ≡ l.initial.text.items ++ sample_lines l.samples
