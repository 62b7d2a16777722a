use Rattle.std.proofs.Common.{◌≡◌, ◌∙◌, true, sym, ap, subst, List, ◌-◌}
use Rattle.stage_law.specs.Streams.{Streams, HasRoom}
use Rattle.mr_values.specs.Value.{size}
use Rattle.plan_check.specs.Amounts.{gain}
use Rattle.plan_check.specs.Groups.{group_of}
use Rattle.chain_build.specs.Added.{IsGroupAdded}
use Rattle.chain_build.proofs.SameStreams.{same_streams, streams_same}
use Rattle.stage_law.specs.Kinds.{is_linear}
use Rattle.stage_law.specs.declared.stage.Peak.{Peak}
use Rattle.chain_build.specs.Built.{kind_of}
use Rattle.chain_build.specs.Prefixes.{elements_before, flow_before}
use Rattle.chain_build.specs.Peaks.{AreWithPlace, AddsKeptOver}
use Rattle.chain_build.proofs.Kept.{adds_peaks, adds_none}
use Rattle.chain_build.proofs.PeakRoom.{places_of}
use Rattle.chain_build.proofs.groups.add_exact.Goals.{then-is_linear+in_ok-keep_peaks, else-is_linear}
use Rattle.chain_build.proofs.groups.add_exact.Goals as goal

pub add_group-requires-clause-room : goal.add_group-requires-clause-room
add_group-requires-clause-room c = same_streams (λ (s : Streams). HasRoom s (gain (group_of c.args.part.now.group.now))) c.in_ok-ranges.ensures.streams c.in_ok-ranges.ensures.width c.requires.room

pub returns-clause-ok : goal.returns-clause-ok
returns-clause-ok c =
    streams_same (λ (s : Streams). IsGroupAdded (group_of c.args.part.now.group.now) (flow_before c.args.from.period c.args.part.now.fact.now) s c.args.net.now c.add_group.new.net c.args.from c.in_ok-added.added) c.in_ok-ranges.ensures.streams c.in_ok-ranges.ensures.width c.in_ok-added.ensures.ok

pub keep_peaks-requires-clause-places : goal.keep_peaks-requires-clause-places
keep_peaks-requires-clause-places c =
    let g = group_of c.args.part.now.group.now in
    let told : is_linear (kind_of g) ≡ true = sym (ap is_linear c.in_ok-added.ensures.ok.kind) ∙ sym c.is_linear.ensures ∙ c.if-is_linear.true in
    subst (λ (ps : List Peak). AreWithPlace c.in_ok-ranges.ranges ps) (sym c.deref.ensures.value)
    (places_of (elements_before c.args.part.now.plan.now c.args.part.now.fact.now) c.requires.prefix.linear c.in_ok-ranges.ranges c.in_ok-ranges.ensures.streams c.in_ok-ranges.ensures.width c.requires.can.built c.in_ok-added.ensures.ok told c.requires.room)

pub returns-clause-peaks : goal.returns-clause-peaks
returns-clause-peaks c =
    let g = group_of c.args.part.now.group.now in
    let es = elements_before c.args.part.now.plan.now c.args.part.now.fact.now in
    let W = size c.args.part.now.plan.now.width in
    let added = c.in_ok-added.ensures.ok in
    let told : c.is_linear.result ≡ is_linear (kind_of g) = c.is_linear.ensures ∙ ap is_linear added.kind in
    let ranges = c.in_ok-ranges.ranges in
    elim c.if-is_linear.branch [
      | then-is_linear+in_ok-keep_peaks w ↦
          let some = sym told ∙ w.if-is_linear.true in
          rw w.peaks-is (adds_peaks c.requires.prefix.linear ranges c.in_ok-ranges.ensures.streams c.in_ok-ranges.ensures.width c.in_ok-ranges.ensures.table (is_linear (kind_of g)) c.args.from (c.args.part.now.fact.now.first - 1) c.in_ok-added.added.emitted.peaks.items _ _ some
          (places_of es c.requires.prefix.linear ranges c.in_ok-ranges.ensures.streams c.in_ok-ranges.ensures.width c.requires.can.built added some c.requires.room)
          (subst (λ (ps : List Peak). AddsKeptOver ranges c.args.from (c.args.part.now.fact.now.first - 1) ps c.args.peaks.now.items w.keep_peaks.new.kept.items) w.deref.ensures.value w.in_ok-keep_peaks.ensures))
      | else-is_linear w ↦
          rw w.peaks-is (adds_none (is_linear (kind_of g)) W es c.args.from (c.args.part.now.fact.now.first - 1) c.in_ok-added.added.emitted.peaks.items c.args.peaks.now.items (sym told ∙ w.if-is_linear.false))
    ]
