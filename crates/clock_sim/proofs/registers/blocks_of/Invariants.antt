use Rattle.std.proofs.Common.{length, take}
use Rattle.verilog_tree.specs.Names.{shapes_of}
use Rattle.verilog_tree.specs.View.{design_view}
use Rattle.clock_sim.specs.Blocks.{AreRegisters, targets_within}
use Rattle.clock_sim.proofs.registers.blocks_of.Given as goal

abbrev pub invariant-loop-statement : goal.invariant-loop-statement
invariant-loop-statement l = record {
  all : AreRegisters (shapes_of (design_view l.design)) l.ports.rst l.ports.ce (take l.statement-index l.design.blocks.items) l.each.items;
  inside : targets_within (length l.values) l.each.items;
}
