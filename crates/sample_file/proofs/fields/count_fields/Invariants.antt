use Rattle.std.proofs.Common.{◌≡◌, ◌+◌, ◌≤◌, length}
use Rattle.sample_file.specs.Fields.{fields_of}
use Rattle.sample_file.proofs.fields.count_fields.Given as goal

abbrev pub invariant-loop-behind : goal.invariant-loop-behind
invariant-loop-behind l = record {
  counted : l.count + length (fields_of l.rest) ≡ length (fields_of l.content);
  room : l.count + length l.rest ≤ length l.content;
}

abbrev pub decreases-loop-behind : goal.decreases-loop-behind
decreases-loop-behind l = length l.rest
