use Rattle.chain_build.proofs.Kept.{kept_none, kept_more, kept_all, place_read}
use Rattle.chain_build.proofs.extremes.keep_peaks.Goals as goal

pub loop-peak-init : goal.loop-peak-init
loop-peak-init c = kept_none c.args.ranges.now c.args.from c.args.taken c.args.peaks.now c.args.kept.now.items

pub kept_peak-requires-clause-place : goal.kept_peak-requires-clause-place
kept_peak-requires-clause-place c = place_read c.args.ranges.now c.args.peaks.now c.loop-peak.peak-index c.peak-item.result c.requires.places c.loop-peak-test.true c.peak-item.is

pub loop-peak-preserved : goal.loop-peak-preserved
loop-peak-preserved c =
    kept_more c.args.ranges.now c.args.from c.args.taken c.args.peaks.now c.loop-peak.peak-index c.args.kept.now.items c.loop-peak.kept.items _ c.peak-item.result _ c.loop-peak.invariant c.loop-peak-test.true c.peak-item.is c.in_ok-kept_peak.ensures c.in_ok-push.ensures.items

pub returns : goal.returns
returns c = kept_all c.args.ranges.now c.args.from c.args.taken c.args.peaks.now c.loop-peak.peak-index c.args.kept.now.items c.loop-peak.kept.items c.loop-peak-test.false c.loop-peak.invariant
