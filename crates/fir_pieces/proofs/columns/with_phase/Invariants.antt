use Rattle.std.proofs.Common.{◌≡◌, ◌++◌}
use Rattle.fir_pieces.specs.Columns.{parts_of, with_more}
use Rattle.fir_pieces.proofs.columns.with_phase.Given as goal

-- what is done, with what remains, is the whole
abbrev pub invariant-loop-own : goal.invariant-loop-own
invariant-loop-own l = parts_of l.joined.items ++ with_more (parts_of l.rest.rest.items) l.own-iterator.rest.items ≡ with_more (parts_of l.fn.all.items) l.fn.more.items
