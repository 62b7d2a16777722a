use Rattle.std.proofs.Common.{◌≡◌, ◌∙◌, ◌+◌, ◌++◌, ◌∷◌, [], ℕ, suc, List, take, get_or, length, sym, ap, subst, arith}
use Rattle.std.proofs.Math.Seq.{take-suc}
use Rattle.std.proofs.lemmas.List.{length-take-le}
use Rattle.net_graph.specs.declared.cell.Node.{Node}
use Rattle.net_graph.proofs.NetLemmas.{Extends-trans}
use Rattle.fir_pieces.specs.declared.reading.Reading.{Reading}
use Rattle.fir_pieces.specs.declared.reading.Reading.TheVariants.{One}
use Rattle.fir_pieces.specs.Readers.{AddsRegister, AddsRegisters}
use Rattle.fir_pieces.proofs.ReadersLemmas.{AddsRegisters-push}
use Rattle.fir_pieces.proofs.readers.add_registers.Goals as goal

pub returns-in_err-node-clause-extends : goal.returns-in_err-node-clause-extends
returns-in_err-node-clause-extends c = Extends-trans _ _ _ c.loop-index.invariant.extends c.in_err-node.ensures.extends

pub returns-in_err-push-clause-extends : goal.returns-in_err-push-clause-extends
returns-in_err-push-clause-extends c = Extends-trans _ _ _ c.loop-index.invariant.extends c.in_ok-node.ensures.extends

-- one register more
pub loop-index-preserved : goal.loop-index-preserved
loop-index-preserved c =
    let i = c.loop-index.invariant in
    let readings = c.args.readings.now in
    let index = c.loop-index.index in
    let widths = c.args.widths.now in
    let r = get_or readings index (One 0) in
    let next : index + 1 ≡ suc index = omega arith in
    let below = c.loop-index-test.true in
    let more : take (index + 1) readings ≡ take index readings ++ r ∷ [] = ap (λ (n : ℕ). take n readings) next ∙ take-suc readings index (One 0) below in
    let done : length (take index readings) ≡ index = length-take-le index readings (omega arith) in
    let own = subst (λ (n : ℕ). AddsRegister c.loop-index.net c.add_register.new.net c.args.window.now c.args.kind r (get_or widths n 0) c.in_ok-node.node) (sym done) c.in_ok-node.ensures.ok in
    let pushed = AddsRegisters-push r i.added own in
    record {
      group = c.in_ok-node.ensures.group ∙ i.group;
      extends = Extends-trans _ _ _ i.extends c.in_ok-node.ensures.extends;
      added =
          subst (λ (rs : List Reading). AddsRegisters c.args.net.now c.add_register.new.net c.args.window.now c.args.kind rs widths c.push.new.self.items) (sym more)
          (subst (λ (nodes : List Node). AddsRegisters c.args.net.now c.add_register.new.net c.args.window.now c.args.kind (take index readings ++ r ∷ []) widths nodes) (sym c.in_ok-push.ensures.items) pushed);
    }
