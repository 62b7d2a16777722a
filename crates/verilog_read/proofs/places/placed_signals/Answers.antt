use Rattle.std.proofs.Common.{◌∷◌, [], ◌++◌, false, get_or, refl, arith, ap, ◌∙◌}
use Rattle.verilog_tree.specs.declared.tree.Kind.TheVariants.{Input}
use Rattle.verilog_tree.specs.declared.tree.Signal.{Signal}
use Rattle.verilog_read.proofs.Placing.{signals_more, signals_end}
use Rattle.verilog_read.proofs.places.placed_signals.Goals as goal

pub loop-k-preserved : goal.loop-k-preserved
loop-k-preserved c =
    let none : Signal = record { name = 0; kind = Input; signed = false; ranged = false; width = 0; place = 0 } in
    signals_more c.args.places.now c.args.signals.now c.loop-k.k (get_or c.args.signals.now c.loop-k.k none) none c.loop-k.all.items c.push.new.self.items _ (omega arith) refl c.loop-k.invariant (c.in_ok-push.ensures.items ∙ ap (λ (s : Signal). c.loop-k.all.items ++ s ∷ []) c.placed.ensures)

pub returns : goal.returns
returns c = signals_end c.args.places.now c.args.signals.now c.loop-k.k c.loop-k.all.items _ (omega arith) c.loop-k.invariant
