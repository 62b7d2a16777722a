use Rattle.std.proofs.Common.{◌≡◌, length}
use Rattle.std.specs.List.{list_all}
use Rattle.sample_file.specs.Fields.{fields_of, is_numeral}
use Rattle.sample_file.proofs.fields.are_numerals.Given as goal

abbrev pub invariant-loop-field : goal.invariant-loop-field
invariant-loop-field l = list_all is_numeral (fields_of l.rest) ≡ list_all is_numeral (fields_of l.content)

abbrev pub decreases-loop-field : goal.decreases-loop-field
decreases-loop-field l = length l.rest
