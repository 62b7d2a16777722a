use Rattle.std.proofs.Common.{◌≡◌, suc, length, length-append, get_or, slice_get, Some, arith, sym, ap, subst, ◌∙◌, refl, ℕ}
use Rattle.std.proofs.lemmas.Option.{slice_get-get_or}
use Rattle.net_graph.proofs.NetLemmas.{Extends-refl, Extends-trans}
use Rattle.pipeline_balance.proofs.TakenLemmas.{IsBitOf-later}
use Rattle.folded_fir.proofs.CopyNetLemmas.{AddsCopies-none, AddsCopies-push}
use Rattle.folded_fir.proofs.copies.add_copies.Goals as goal

pub loop-age-init : goal.loop-age-init
loop-age-init c = record {
  many = rw c.new-copies.ensures.items refl;
  extends = Extends-refl _;
  group = refl;
  copies = rw c.new-copies.ensures.items (AddsCopies-none c.args.net.now c.args.ticks.period c.args.ticks.first c.args.window.now c.args.widths.now);
}

pub add_copy-requires-clause-loads : goal.add_copy-requires-clause-loads
add_copy-requires-clause-loads c = IsBitOf-later c.requires.loads c.loop-age.invariant.extends

pub returns-in_err-copy-clause-extends : goal.returns-in_err-copy-clause-extends
returns-in_err-copy-clause-extends c = Extends-trans _ _ _ c.loop-age.invariant.extends c.in_err-copy.ensures.extends

pub returns-in_err-push-clause-extends : goal.returns-in_err-push-clause-extends
returns-in_err-push-clause-extends c = Extends-trans _ _ _ c.loop-age.invariant.extends c.in_ok-copy.ensures.extends

pub loop-age-preserved : goal.loop-age-preserved
loop-age-preserved c =
    let i = c.loop-age.invariant in
    let at = slice_get-get_or c.args.window.now c.loop-age.age (record { place = 0 }) c.loop-age-test.true in
    let count : length c.push.new.self.items ≡ suc (length c.loop-age.copies.items) = rw (c.in_ok-push.ensures.items, length-append) (omega arith) in
    record {
      many = omega (arith, count, i.many);
      extends = Extends-trans _ _ _ i.extends c.in_ok-copy.ensures.extends;
      group = c.in_ok-copy.ensures.group ∙ i.group;
      copies = rw c.in_ok-push.ensures.items (AddsCopies-push _ _
          (subst (λ (k : ℕ). slice_get c.args.window.now k ≡ Some (get_or c.args.window.now c.loop-age.age (record { place = 0 }))) (sym i.many) at)
          (ap (λ (k : ℕ). get_or c.args.widths.now k 0) i.many) i.copies c.in_ok-copy.ensures.ok);
    }
