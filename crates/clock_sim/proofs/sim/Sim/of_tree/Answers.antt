use Rattle.std.proofs.Common.{ℕ, List, length, sym, subst, arith}
use Rattle.std.specs.Prelude.{IsTrue}
use Rattle.verilog_tree.specs.Names.{shapes_of}
use Rattle.verilog_tree.specs.View.{design_view}
use Rattle.module_laws.proofs.Levels.{loop_free}
use Rattle.module_laws.proofs.Passing.{passing_driven}
use Rattle.clock_sim.specs.Simulated.{AssignsFit, blocks_fit}
use Rattle.clock_sim.specs.Blocks.{AreBlocks}
use Rattle.clock_sim.specs.Sim.{ArePorts}
use Rattle.clock_sim.proofs.Formed.{assigns_fit, blocks_all_fit, widths_fit}
use Rattle.clock_sim.proofs.sim.Sim.of_tree.Goals as goal

pub level_order-requires-clause-driven : goal.level_order-requires-clause-driven
level_order-requires-clause-driven c = passing_driven (design_view c.args.design.now) c.requires.sound.passes

pub level_order-requires-clause-free : goal.level_order-requires-clause-free
level_order-requires-clause-free c = loop_free (design_view c.args.design.now) c.requires.sound.passes.free

pub steps_of-requires-clause-fitting : goal.steps_of-requires-clause-fitting
steps_of-requires-clause-fitting c = record { each = widths_fit (design_view c.args.design.now) c.requires.sound.formed c.requires.sound.passes }

pub steps_of-requires-clause-fits : goal.steps_of-requires-clause-fits
steps_of-requires-clause-fits c =
    let d = design_view c.args.design.now in
    subst (λ (xs : List ℕ). AssignsFit d (length xs)) (sym c.as_slice.ensures.value)
    (subst (AssignsFit d) (sym c.in_ok-values.ensures.many) (assigns_fit d c.requires.sound.formed c.requires.sound.passes))

pub invariant_of-result : goal.invariant_of-result
invariant_of-result c =
    let d = design_view c.args.design.now in
    let many = c.in_ok-values.ensures.many in
    record {
      driven = passing_driven d c.requires.sound.passes;
      tells = c.in_ok-table.ensures;
      compiled = c.in_ok-steps.ensures;
      registers = subst (λ (xs : List ℕ). AreBlocks (shapes_of d) (length xs) c.args.design.now.blocks.items c.in_ok-blocks.blocks) c.as_slice-2.ensures.value c.in_ok-blocks.ensures;
      assigns = subst (AssignsFit d) (sym many) (assigns_fit d c.requires.sound.formed c.requires.sound.passes);
      blocks = subst (λ (n : ℕ). IsTrue (blocks_fit (shapes_of d) n d.blocks)) (sym many) (blocks_all_fit d c.requires.sound.formed c.requires.sound.passes);
      inputs = subst (λ (n : ℕ). ArePorts d n c.port_names-ports.result) (sym many) c.port_names-ports.ensures;
      evaluation = c.in_ok-order.ensures;
      names = c.in_ok-values.ensures.names;
      sizes = omega (arith, c.in_ok-staged.ensures.len, c.in_ok-staged.staged.ok, c.len-count.ensures, c.args.design.now.names.ok, many);
    }

pub blocks_of-requires-clause-fitting : goal.blocks_of-requires-clause-fitting
blocks_of-requires-clause-fitting c = record { each = widths_fit (design_view c.args.design.now) c.requires.sound.formed c.requires.sound.passes }

pub blocks_of-requires-clause-fits : goal.blocks_of-requires-clause-fits
blocks_of-requires-clause-fits c =
    let d = design_view c.args.design.now in
    subst (λ (xs : List ℕ). IsTrue (blocks_fit (shapes_of d) (length xs) d.blocks)) (sym c.as_slice-2.ensures.value)
    (subst (λ (n : ℕ). IsTrue (blocks_fit (shapes_of d) n d.blocks)) (sym c.in_ok-values.ensures.many) (blocks_all_fit d c.requires.sound.formed c.requires.sound.passes))
