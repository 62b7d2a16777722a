use Rattle.std.proofs.Common.{◌∙◌, ap, refl, false}
use Rattle.net_graph.proofs.CountLemmas.{adders_more}
use Rattle.pipeline_balance.proofs.PairLemmas.{AddsNode-adds, same_signs, second_sign, first_sign}
use Rattle.std.proofs.lemmas.Result.{IfOk-weaker}
use Rattle.pipeline_balance.proofs.ShallowLemmas.{SumsPlain-add, SumsPlain-sub, SumsPlain-swapped}
use Rattle.pipeline_balance.proofs.pair.combined.Goals as goal

pub returns-then-a_negative-b_negative-clause-ok : goal.returns-then-a_negative-b_negative-clause-ok
returns-then-a_negative-b_negative-clause-ok c = IfOk-weaker c.add.result _ _
    (λ node added. AddsNode-adds 1 _ c.requires.data_group added refl (adders_more _ added refl refl) (λ cut law x v r o t. o t ∙ ap (cut false c.args.width) (same_signs c.args.a_negative c.args.b_negative (v t c.args.a.place) (v t c.args.b.place) c.if-a_negative-b_negative.true))) c.add.ensures.ok

pub returns-then-b_negative-clause-ok : goal.returns-then-b_negative-clause-ok
returns-then-b_negative-clause-ok c = IfOk-weaker c.sub.result _ _
    (λ node added. AddsNode-adds 1 _ c.requires.data_group added refl (adders_more _ added refl refl) (λ cut law x v r o t. o t ∙ ap (cut false c.args.width) (second_sign c.args.a_negative c.args.b_negative (v t c.args.a.place) (v t c.args.b.place) c.if-a_negative-b_negative.false c.if-b_negative.true))) c.sub.ensures.ok

pub returns-else-b_negative-clause-ok : goal.returns-else-b_negative-clause-ok
returns-else-b_negative-clause-ok c = IfOk-weaker c.sub-else-b_negative.result _ _
    (λ node added. AddsNode-adds 1 _ c.requires.data_group added refl (adders_more _ added refl refl) (λ cut law x v r o t. o t ∙ ap (cut false c.args.width) (first_sign c.args.a_negative c.args.b_negative (v t c.args.a.place) (v t c.args.b.place) c.if-a_negative-b_negative.false c.if-b_negative.false))) c.sub-else-b_negative.ensures.ok

pub returns-then-a_negative-b_negative-clause-shallow : goal.returns-then-a_negative-b_negative-clause-shallow
returns-then-a_negative-b_negative-clause-shallow c = IfOk-weaker c.add.result _ _ (λ node added. SumsPlain-add c.args.a c.args.b added) c.add.ensures.ok

pub returns-then-b_negative-clause-shallow : goal.returns-then-b_negative-clause-shallow
returns-then-b_negative-clause-shallow c = IfOk-weaker c.sub.result _ _ (λ node added. SumsPlain-sub c.args.a c.args.b added) c.sub.ensures.ok

pub returns-else-b_negative-clause-shallow : goal.returns-else-b_negative-clause-shallow
returns-else-b_negative-clause-shallow c = IfOk-weaker c.sub-else-b_negative.result _ _ (λ node added. SumsPlain-swapped c.args.a c.args.b added) c.sub-else-b_negative.ensures.ok
