use Rattle.std.proofs.Common.{◌≡◌, ◌-◌, drop, length}
use Rattle.csv.specs.Records.{fields_of}
use Rattle.plan_reader.specs.TapFields.{behind, row_taps}
use Rattle.plan_reader.proofs.tap_rows.row_taps.Given as goal

abbrev pub invariant-fields : goal.invariant-fields
invariant-fields l = behind l.taps.items (row_taps l.row (drop l.index (fields_of l.fields))) ≡ row_taps l.row (fields_of l.fields)

abbrev pub decreases-fields : goal.decreases-fields
decreases-fields l = length (fields_of l.fields) - l.index
