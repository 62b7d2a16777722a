use Rattle.std.proofs.Common.{rules}
use Rattle.std.proofs.lemmas.Int.{to_z-of_z}
use mir.Syntax.{w128}
use mir.Val.{SFits}
use Rattle.stage_law.specs.Weights.{weights_of}
use Rattle.chain_build.proofs.ExactPrefixes.{exact-prefix}
use Rattle.chain_build.proofs.Kept.{end-by, form_room}
use Rattle.chain_build.proofs.extremes.samples_of.Goals as goal

pub prefix_ranges-requires : goal.prefix_ranges-requires
prefix_ranges-requires c = exact-prefix c.args.plan.now c.args.kept.now.taken c.requires.accepted c.requires.place.within c.requires.place.linear

pub extreme-requires-clause-room : goal.extreme-requires-clause-room
extreme-requires-clause-room c = form_room c.requires.place.linear c.in_ok-ranges.ranges c.in_ok-ranges.ensures.streams c.in_ok-ranges.ensures.width c.in_ok-ranges.ensures.table (weights_of c.args.kept.now.peak.sum) c.requires.place.room

pub returns : goal.returns
returns c =
    let fits : SFits w128 c.in_ok-extreme.extreme.value = search rules in
    simp to_z-of_z (record {
      index = c.in_ok-extreme.extreme.index;
      is_tick = c.tick_of.ensures;
      reached = end-by c.requires.place.linear c.in_ok-ranges.ranges c.in_ok-ranges.ensures.streams c.in_ok-ranges.ensures.width c.in_ok-ranges.ensures.table c.args.kept.now.peak c.in_ok-extreme.extreme.samples.items c.in_ok-extreme.extreme.index c.in_ok-extreme.extreme.value
          c.in_ok-extreme.ensures.reached;
    })
