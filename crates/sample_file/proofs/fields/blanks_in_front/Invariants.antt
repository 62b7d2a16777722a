use Rattle.std.proofs.Common.{◌≡◌, ◌+◌, drop}
use Rattle.std.specs.List.{prefix_len}
use Rattle.sample_file.specs.Fields.{is_blank}
use Rattle.sample_file.proofs.fields.blanks_in_front.Given as goal

abbrev pub invariant-loop-index : goal.invariant-loop-index
invariant-loop-index l = prefix_len is_blank l.bytes ≡ l.index + prefix_len is_blank (drop l.index l.bytes)
