use Rattle.std.proofs.Common.{refl}
use Rattle.chain_build.proofs.OutputPeaks.{output_one, output_none}
use Rattle.chain_build.proofs.chain.output_peaks.Goals.{then-width-gt1+in_ok-value+in_ok-push, else-width-gt1}
use Rattle.chain_build.proofs.chain.output_peaks.Goals as goal

pub returns : goal.returns
returns c = elim c.if-width-gt1.branch [
  | then-width-gt1+in_ok-value+in_ok-push w ↦
      rw (w.peaks-is, w.in_ok-push.ensures.items, c.new-peaks.ensures.items)
      (output_one c.args.register c.args.range c.range_width-width.result _ c.range_width-width.ensures w.if-width-gt1.true refl w.in_ok-value.ensures refl refl w.needs_high.ensures)
  | else-width-gt1 w ↦ rw (w.peaks-is, c.new-peaks.ensures.items) (output_none c.args.register c.args.range c.range_width-width.result c.range_width-width.ensures w.if-width-gt1.false)
]
