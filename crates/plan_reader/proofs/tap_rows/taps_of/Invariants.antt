use Rattle.std.proofs.Common.{◌≡◌, ◌+◌, drop, map}
use Rattle.csv.specs.Records.{fields_of}
use Rattle.plan_reader.specs.TapFields.{behind, rows_taps}
use Rattle.plan_reader.proofs.tap_rows.taps_of.Given as goal

-- what was read, before what is left, is all
abbrev pub invariant-loop-index : goal.invariant-loop-index
invariant-loop-index l = behind l.taps.items (rows_taps (l.index + 1) (drop l.index (map fields_of l.rows))) ≡ rows_taps 1 (map fields_of l.rows)
