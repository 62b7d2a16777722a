use Rattle.std.proofs.Common.{◌≡◌, ◌∙◌, ℕ, true, Bool, if◌then◌else◌, List, [], ◌∷◌, length, map, refl, sym, ap, subst, pos}
use Rattle.mr_values.specs.declared.plan.Element.{Element}
use Rattle.mr_values.specs.Timing.{groups, last_stream}
use Rattle.mr_values.specs.Value.{chain, size}
use Rattle.net_graph.specs.declared.name.NameKind.TheVariants.{Output}
use Rattle.impulse_phase.specs.Reading.{IsResponseOf}
use Rattle.pipeline_balance.specs.Numbered.{name_of}
use Rattle.plan_laws.proofs.Passes.{passes_of}
use Rattle.stage_law.specs.Least.{named_peak}
use Rattle.stage_law.specs.declared.ranges.Range.{Range}
use Rattle.stage_law.specs.declared.stage.Peak.{Peak}
use Rattle.width_extreme.specs.Walk.{transform_of}
use Rattle.chain_build.specs.Built.{has_rounding}
use Rattle.chain_build.specs.Linear.{each_index, prefix_range}
use Rattle.chain_build.specs.Output.{AddsOutputs}
use Rattle.chain_build.specs.Peaks.{AreWithPlace, AddsKeptOver, exact_output, listed_value}
use Rattle.chain_build.proofs.ExactPrefixes.{whole-exact, take-whole, unrounded-linear}
use Rattle.chain_build.proofs.Kept.{adds_peaks}
use Rattle.chain_build.proofs.OutputPeaks.{listed_output, named_output, places_out}
use Rattle.chain_build.proofs.OutputRange.{room-value, output-exact}
use Rattle.chain_build.proofs.chain.add_exact_outputs.Goals as goal

pub prefix_ranges-requires : goal.prefix_ranges-requires
prefix_ranges-requires c = whole-exact c.args.plan.now (has_rounding (groups c.args.plan.now.elements)) _ c.requires.accepted refl c.requires.plain (ap (λ (es : List Element). length es) c.as_slice-taken.ensures)

pub range-range-requires-clause-room : goal.range-range-requires-clause-room
range-range-requires-clause-room c =
    room-value c.args.plan.now.elements c.requires.room _ _ _ (c.in_ok-ranges.ensures.streams ∙ ap chain (take-whole c.args.plan.now.elements _ (ap (λ (es : List Element). length es) c.as_slice-taken.ensures))) c.in_ok-ranges.ensures.width c.in_ok-value.ensures

pub keep_peaks-requires-clause-places : goal.keep_peaks-requires-clause-places
keep_peaks-requires-clause-places c =
    let es = c.args.plan.now.elements in
    let streams : transform_of c.in_ok-ranges.ranges.table ≡ chain es = c.in_ok-ranges.ensures.streams ∙ ap chain (take-whole es _ (ap (λ (xs : List Element). length xs) c.as_slice-taken.ensures)) in
    let outs = c.in_ok-outputs.ensures.ok in
    let named = named_output c.add_outputs.new.net.cells c.in_ok-outputs.outputs.out_q outs.group outs.width (name_of 0 Output 0) outs.register in
    subst (λ (ps : List Peak). AreWithPlace c.in_ok-ranges.ranges ps) (sym c.deref.ensures.value)
    (places_out es c.requires.room c.in_ok-ranges.ranges streams c.in_ok-ranges.ensures.width c.add_outputs.new.net.cells (name_of 0 Output 0) c.range-range.result c.in_ok-own.own.items (c.in_ok-own.ensures.are c.add_outputs.new.net.cells (name_of 0 Output 0) named))

pub returns : goal.returns
returns c =
    let es = c.args.plan.now.elements in
    let W = size c.args.plan.now.width in
    let T = size c.args.plan.now.ticks in
    let linear = unrounded-linear es (passes_of c.args.plan.now c.requires.accepted).limits.elements c.requires.plain in
    let whole = take-whole es _ (ap (λ (xs : List Element). length xs) c.as_slice-taken.ensures) in
    let count : length c.as_slice-taken.result.now ≡ length es = ap (λ (xs : List Element). length xs) c.as_slice-taken.ensures in
    let ranges = c.in_ok-ranges.ranges in
    let streams : transform_of ranges.table ≡ chain es = c.in_ok-ranges.ensures.streams ∙ ap chain whole in
    let table : IsResponseOf es ranges.table = subst (λ (xs : List Element). IsResponseOf xs ranges.table) whole c.in_ok-ranges.ensures.table in
    let range : c.range-range.result ≡ exact_output c.args.plan.now =
    output-exact W T es _ _ _ _ linear c.requires.plain streams c.in_ok-ranges.ensures.width c.in_ok-value.ensures c.range-range.ensures
    ∙ ap (λ (b : Bool). if b then record { lo = (last_stream W T es).low; hi = (last_stream W T es).high } else prefix_range W es (pos 1 ∷ []) each_index) c.requires.plain in
    let outs = c.in_ok-outputs.ensures.ok in
    let cells = c.add_outputs.new.net.cells in
    let named = named_output cells c.in_ok-outputs.outputs.out_q outs.group outs.width (name_of 0 Output 0) outs.register in
    let are : map (named_peak cells) c.in_ok-own.own.items ≡ listed_value (name_of 0 Output 0) c.range-range.result = c.in_ok-own.ensures.are cells (name_of 0 Output 0) named in
    let places = places_out es c.requires.room ranges streams c.in_ok-ranges.ensures.width cells (name_of 0 Output 0) c.range-range.result c.in_ok-own.own.items are in
    let over : AddsKeptOver ranges c.args.from (length es) c.in_ok-own.own.items c.args.peaks.now.items c.keep_peaks.new.kept.items =
    subst (λ (n : ℕ). AddsKeptOver ranges c.args.from n c.in_ok-own.own.items c.args.peaks.now.items c.keep_peaks.new.kept.items) count
    (subst (λ (ps : List Peak). AddsKeptOver ranges c.args.from (length c.as_slice-taken.result.now) ps c.args.peaks.now.items c.keep_peaks.new.kept.items) c.deref.ensures.value c.in_ok-keep_peaks.ensures) in
    record {
      ok = subst (λ (r : Range). AddsOutputs r.lo r.hi c.args.net.now c.add_outputs.new.net c.args.from c.in_ok-outputs.outputs) range outs;
      peak = record {
        peaks = c.in_ok-own.own.items;
        are = are ∙ ap (listed_value (name_of 0 Output 0)) range ∙ listed_output (prefix_range W es);
        adds = adds_peaks linear ranges streams c.in_ok-ranges.ensures.width table true c.args.from (length es) c.in_ok-own.own.items c.args.peaks.now.items c.keep_peaks.new.kept.items refl places over;
      };
    }
