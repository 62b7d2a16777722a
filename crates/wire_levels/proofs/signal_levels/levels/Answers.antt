use Rattle.verilog_tree.specs.View.{design_view}
use Rattle.module_laws.proofs.Passing.{passing_driven}
use Rattle.module_laws.proofs.Levels.{loop_free}
use Rattle.wire_levels.proofs.signal_levels.levels.Goals as goal

pub name_levels-requires-clause-driven : goal.name_levels-requires-clause-driven
name_levels-requires-clause-driven c = passing_driven (design_view c.args.design.now) c.requires

pub name_levels-requires-clause-free : goal.name_levels-requires-clause-free
name_levels-requires-clause-free c = loop_free (design_view c.args.design.now) c.requires.free
