use Rattle.std.proofs.Common.{◌≡◌, suc, length, length-append, arith, sym, ap, ◌∙◌, refl}
use Rattle.std.proofs.lemmas.Option.{slice_get-get_or}
use Rattle.net_graph.proofs.NetLemmas.{Extends-refl, Extends-trans}
use Rattle.pipeline_balance.proofs.SelectLemmas.{IsNarrow-later}
use Rattle.pipeline_balance.proofs.TakenLemmas.{IsBitOf-later}
use Rattle.distributed_table.specs.Copies.{node_at}
use Rattle.distributed_table.proofs.CopyLemmas.{AddsCopies-none, AddsCopies-push}
use Rattle.distributed_table.proofs.copies.add_copies.Goals as goal

pub loop-age-init : goal.loop-age-init
loop-age-init c = record {
  many = rw c.new-highs.ensures.items (omega arith);
  extends = Extends-refl _;
  group = refl;
  copies = λ period first bit. rw c.new-highs.ensures.items (AddsCopies-none c.args.net.now period first c.args.width c.args.window.now);
}

pub add_copy-requires-clause-data_group : goal.add_copy-requires-clause-data_group
add_copy-requires-clause-data_group c = rw c.loop-age.invariant.group c.requires.data_group

pub add_copy-requires-clause-has_load : goal.add_copy-requires-clause-has_load
add_copy-requires-clause-has_load c = let there = c.requires.has_load in let more = c.loop-age.invariant.extends.longer in omega arith

pub add_copy-requires-clause-narrow : goal.add_copy-requires-clause-narrow
add_copy-requires-clause-narrow c =
    let here = slice_get-get_or c.args.window.now c.loop-age.age (record { place = 0 }) c.loop-age-test.true in
    IsNarrow-later _ _ _ _ (c.requires.narrow _ _ here) c.loop-age.invariant.extends

pub loop-age-preserved : goal.loop-age-preserved
loop-age-preserved c =
    let i = c.loop-age.invariant in
    let count : length c.push.new.self.items ≡ suc (length c.loop-age.highs.items) = rw (c.in_ok-push.ensures.items, length-append) (omega arith) in
    record {
      many = omega (arith, count, i.many);
      extends = Extends-trans _ _ _ i.extends c.in_ok-high.ensures.extends;
      group = c.in_ok-high.ensures.group ∙ i.group;
      copies = λ period first bit.
          rw c.in_ok-push.ensures.items (AddsCopies-push (ap (node_at c.args.window.now) (sym i.many)) (i.copies period first bit) (c.in_ok-high.ensures.ok period first (IsBitOf-later bit i.extends)));
    }

pub returns-in_err-high-clause-extends : goal.returns-in_err-high-clause-extends
returns-in_err-high-clause-extends c = Extends-trans _ _ _ c.loop-age.invariant.extends c.in_err-high.ensures.extends

pub returns-in_err-push-clause-extends : goal.returns-in_err-push-clause-extends
returns-in_err-push-clause-extends c = Extends-trans _ _ _ c.loop-age.invariant.extends c.in_ok-high.ensures.extends
