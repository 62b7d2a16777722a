use Rattle.std.proofs.Common.{◌≡◌, ◌+◌, drop}
use Rattle.std.specs.List.{prefix_len}
use Rattle.sample_file.specs.Fields.{is_other}
use Rattle.sample_file.proofs.fields.others_in_front.Given as goal

abbrev pub invariant-loop-index : goal.invariant-loop-index
invariant-loop-index l = prefix_len is_other l.bytes ≡ l.index + prefix_len is_other (drop l.index l.bytes)
