use Rattle.std.proofs.Common.{refl, sym, subst}
use Rattle.verilog_tree.specs.Tree.{Tree, When}
use Rattle.verilog_tree.specs.Names.{shapes_of}
use Rattle.verilog_tree.specs.View.{action_view, design_view}
use Rattle.clock_sim.specs.Blocks.{IsEnabled}
use Rattle.clock_sim.proofs.BlockKinds.{enabled_given}
use Rattle.clock_sim.proofs.registers.enabled.Goals as goal

pub returns-then-on-enable : goal.returns-then-on-enable
returns-then-on-enable c s is =
    let shapes = shapes_of (design_view c.args.design.now) in
    let first = action_view c.args.first.now in
    let name = c.in_ok-on.ensures c.in_ok-on.on refl in
    subst (λ (e : Tree). IsEnabled shapes c.args.enable (When e first) s) (sym name) (enabled_given shapes c.in_ok-on.on c.args.enable first s c.if-on-enable.true (c.copy_set.ensures s is))
