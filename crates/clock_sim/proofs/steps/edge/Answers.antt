use Rattle.std.proofs.Common.{length, refl, subst}
use Rattle.verilog_tree.specs.Names.{shapes_of}
use Rattle.verilog_tree.specs.View.{design_view}
use Rattle.clock_sim.specs.Blocks.{AreBlocks}
use Rattle.clock_sim.proofs.FlatBlocks.{advanced, advanced_names}
use Rattle.clock_sim.proofs.steps.edge.Goals as goal

pub returns-in-Flat-clause-next : goal.returns-in-Flat-clause-next
returns-in-Flat-clause-next c =
    let d = design_view c.args.design.now in
    let flat = subst (AreBlocks (shapes_of d) (length c.args.values.now) c.args.design.now.blocks.items) c.in-Flat.is c.requires.blocks in
    advanced d c.args.design.now.blocks.items c.in-Flat.registers (length c.args.values.now) c.args.values.now c.advance.new.values refl c.requires.names flat c.advance.ensures

pub returns-in-Flat-clause-names : goal.returns-in-Flat-clause-names
returns-in-Flat-clause-names c =
    let d = design_view c.args.design.now in
    let flat = subst (AreBlocks (shapes_of d) (length c.args.values.now) c.args.design.now.blocks.items) c.in-Flat.is c.requires.blocks in
    advanced_names d c.args.design.now.blocks.items c.in-Flat.registers (length c.args.values.now) c.args.values.now c.advance.new.values refl c.requires.names flat c.advance.ensures
