use Rattle.std.proofs.Common.{◌∙◌, max, sym, ap}
use Rattle.fir_pieces.specs.Widest.{widest}
use Rattle.fir_pieces.proofs.ColumnLemmas.{widest-push}
use Rattle.fir_pieces.proofs.columns.with_sum.Goals as goal

pub invariant_of-result : goal.invariant_of-result
invariant_of-result c = record {
  is_widest = c.max-width.ensures ∙ ap (λ n. max n c.args.own.width) c.args.before.is_widest ∙ sym (widest-push c.args.before.sums.items c.args.own) ∙ sym (ap widest c.in_ok-push.ensures.items);
}
