use Rattle.std.proofs.Common.{length, refl, sym, subst}
use Rattle.verilog_tree.specs.Tree.{Tree, Either}
use Rattle.verilog_tree.specs.Names.{shapes_of}
use Rattle.verilog_tree.specs.View.{tree_view, action_view, design_view}
use Rattle.settle_order.proofs.Opened.{same_some}
use Rattle.clock_sim.specs.declared.registers.Register.{Register}
use Rattle.clock_sim.specs.Blocks.{IsRegisterOf}
use Rattle.clock_sim.proofs.BlockKinds.{register_given}
use Rattle.clock_sim.proofs.registers.guarded.Goals as goal

pub returns-then-start-then-clause-block : goal.returns-then-start-then-clause-block
returns-then-start-then-clause-block c r is =
    let shapes = shapes_of (design_view c.args.design.now) in
    let first = action_view c.args.first.now in
    let second = action_view c.args.second.now in
    let name = c.in_ok-on.ensures c.in_ok-on.on refl in
    let start = c.in_ok-start.ensures c.in_ok-start.start refl in
    let then_ = c.in_ok-then.ensures c.in_ok-then.then refl in
    subst (λ (q : Register). IsRegisterOf shapes c.args.ports.rst c.args.ports.ce (Either (tree_view c.args.condition.now) first second) q) (same_some _ r is)
    (subst (λ (e : Tree). IsRegisterOf shapes c.args.ports.rst c.args.ports.ce (Either e first second) (record { target = c.in_ok-start.start.target; initial = c.in_ok-start.start.bits; source = c.in_ok-then.then.source; mask = c.in_ok-then.then.mask })) (sym name)
    (register_given shapes (length c.args.values.now) c.in_ok-on.on c.args.ports.rst c.args.ports.ce first second c.in_ok-start.start c.in_ok-then.then
    c.if-on-ports.true c.if-start-then.true start then_))
