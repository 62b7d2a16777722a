use Rattle.std.proofs.Common.{◌∙◌, ◌<◌, ◌≤◌, ◌++◌, ◌∷◌, [], List, length, take, get_or, arith, refl, ap, sym, subst}
use Rattle.std.proofs.lemmas.List.{take_more, take_all}
use Rattle.verilog_tree.specs.declared.tree.Stmt.{Stmt}
use Rattle.verilog_tree.specs.Names.{shapes_of}
use Rattle.verilog_tree.specs.View.{design_view}
use Rattle.clock_sim.specs.declared.registers.Register.{Register}
use Rattle.clock_sim.specs.Blocks.{AreRegisters, targets_within}
use Rattle.clock_sim.proofs.FlatBlocks.{block_fits, registers_more, registers_count, within_more}
use Rattle.clock_sim.proofs.registers.blocks_of.Goals as goal

pub register_of-requires-clause-fits : goal.register_of-requires-clause-fits
register_of-requires-clause-fits c =
    let xs = c.args.design.now.blocks.items in
    let k = c.loop-statement.statement-index in
    let s = c.statement-item.result in
    let inside = subst (λ (ys : List Stmt). k < length ys) c.as_slice-statement-items.ensures.value c.loop-statement-test.true in
    let read = c.statement-item.is ∙ ap (λ (ys : List Stmt). get_or ys k s) c.as_slice-statement-items.ensures.value in
    block_fits (shapes_of (design_view c.args.design.now)) (length c.args.values.now) xs k s c.requires.fits inside read

pub loop-statement-preserved : goal.loop-statement-preserved
loop-statement-preserved c =
    let shapes = shapes_of (design_view c.args.design.now) in
    let xs = c.args.design.now.blocks.items in
    let k = c.loop-statement.statement-index in
    let s = c.statement-item.result in
    let r = c.in-Some.register in
    let rs = c.loop-statement.each.items in
    let inside = subst (λ (ys : List Stmt). k < length ys) c.as_slice-statement-items.ensures.value c.loop-statement-test.true in
    let read = c.statement-item.is ∙ ap (λ (ys : List Stmt). get_or ys k s) c.as_slice-statement-items.ensures.value in
    let more = take_more xs k s inside ∙ ap (λ (t : Stmt). take k xs ++ t ∷ []) (sym read) in
    let one = registers_more shapes c.args.ports.rst c.args.ports.ce (take k xs) rs s r c.loop-statement.invariant.all (c.in-Some.ensures.block r refl) in
    record {
      all = subst (λ (ys : List Stmt). AreRegisters shapes c.args.ports.rst c.args.ports.ce ys c.push.new.self.items) (sym more)
          (subst (λ (qs : List Register). AreRegisters shapes c.args.ports.rst c.args.ports.ce (take k xs ++ s ∷ []) qs) (sym c.in_ok-push-in-Some.ensures.items) one);
      inside = subst (targets_within (length c.args.values.now)) (sym c.in_ok-push-in-Some.ensures.items)
          (within_more (length c.args.values.now) rs r c.loop-statement.invariant.inside (c.in-Some.ensures.inside r refl));
    }

pub returns : goal.returns
returns c =
    let shapes = shapes_of (design_view c.args.design.now) in
    let xs = c.args.design.now.blocks.items in
    let k = c.loop-statement.statement-index in
    let past = subst (λ (ys : List Stmt). length ys ≤ k) c.as_slice-statement-items.ensures.value c.loop-statement-test.false in
    let all = subst (λ (ys : List Stmt). AreRegisters shapes c.args.ports.rst c.args.ports.ce ys c.loop-statement.each.items) (take_all k xs past) c.loop-statement.invariant.all in
    let count = registers_count shapes c.args.ports.rst c.args.ports.ce xs c.loop-statement.each.items all in
    record {
      all = all;
      inside = record { each = c.loop-statement.invariant.inside };
      room = omega (arith, count, c.if-len-values.false, c.len.ensures, c.args.design.now.blocks.ok);
    }
