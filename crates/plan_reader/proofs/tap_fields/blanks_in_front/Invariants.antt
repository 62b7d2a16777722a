use Rattle.std.proofs.Common.{◌≡◌, ◌+◌, drop}
use Rattle.std.specs.List.{prefix_len}
use Rattle.plan_reader.specs.TapFields.{is_blank}
use Rattle.plan_reader.proofs.tap_fields.blanks_in_front.Given as goal

abbrev pub invariant-loop-index : goal.invariant-loop-index
invariant-loop-index l = prefix_len is_blank l.bytes ≡ l.index + prefix_len is_blank (drop l.index l.bytes)
