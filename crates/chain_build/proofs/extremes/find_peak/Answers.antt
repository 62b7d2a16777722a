use Rattle.std.proofs.Common.{ℕ, ◌+◌, ap, refl}
use Rattle.chain_build.proofs.NamedPeaks.{inside_read, none_first, none_more, none_all, peak_to}
use Rattle.chain_build.proofs.extremes.find_peak.Goals as goal

pub loop-kept-init : goal.loop-kept-init
loop-kept-init c = (none_first c.args.net.now c.args.peaks.now c.args.text.now, refl)

pub has_text-requires : goal.has_text-requires
has_text-requires c = inside_read c.args.net.now c.args.peaks.now c.loop-kept.kept-index c.kept-item.result c.requires c.loop-kept-test.true c.kept-item.is

pub returns-then-branch-clause-some : goal.returns-then-branch-clause-some
returns-then-branch-clause-some c =
    peak_to c.args.net.now c.args.peaks.now c.loop-kept.kept-index c.loop-kept.place c.args.text.now c.kept-item.result c.loop-kept.invariant.1 c.loop-kept-test.true c.kept-item.is (c.in_ok-has_text.ensures.some c.if-branch.true)
    (c.in_ok-has_text.ensures.small c.if-branch.true)

pub loop-kept-preserved : goal.loop-kept-preserved
loop-kept-preserved c = (
  none_more c.args.net.now c.args.peaks.now c.loop-kept.kept-index c.args.text.now c.kept-item.result c.loop-kept.invariant.0 c.loop-kept-test.true c.kept-item.is (c.in_ok-has_text.ensures.none c.if-branch.false),
  ap (λ (n : ℕ). n + 1) c.loop-kept.invariant.1,
)

pub returns-clause-none : goal.returns-clause-none
returns-clause-none c = none_all c.args.net.now c.args.peaks.now c.loop-kept.kept-index c.args.text.now c.loop-kept.invariant.0 c.loop-kept-test.false
