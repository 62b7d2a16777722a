use Rattle.std.proofs.Common.{◌-◌, length, drop}
use Rattle.clock_sim.proofs.Tables.{IsTableOf}
use Rattle.clock_sim.proofs.shape_table.table_of.Given as goal

-- what is written is of the last declarations
abbrev pub invariant-loop-turn : goal.invariant-loop-turn
invariant-loop-turn l = IsTableOf l.count l.widths.items l.signs.items (drop (length l.design.signals.items - l.turn) l.design.signals.items)
