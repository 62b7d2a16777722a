use Rattle.std.proofs.Common.{rules, ◌≡◌, ◌∙◌, ◌-◌, ◌<◌, ◌≤◌, ◌^◌, max, ◌+ℤ◌, length, Fits, w64, ap, arith}
use Rattle.std.proofs.lemmas.Int.{to_z-of_z}
use mir.Syntax.{w128}
use mir.Val.{SFits}
use Rattle.mr_values.specs.Timing.{least_term}
use Rattle.stage_law.specs.Rising.{behind_at}
use Rattle.stage_law.specs.declared.weights.Weight.{Weight}
use Rattle.width_extreme.specs.Prefix.{least_sample, greatest_sample}
use Rattle.width_extreme.specs.Walk.{delay_at}
use Rattle.width_extreme.proofs.Walk.{behind-rises, delays-rise, read-weight}
use Rattle.width_extreme.proofs.Walked.{factors-room, walk-passes, walk-weighs, walk-room, walk-adds, walk-ends}
use Rattle.width_extreme.proofs.prefix.PrefixRanges.walked_ends.Goals as goal

pub weight_at-weight-requires-clause-room : goal.weight_at-weight-requires-clause-room
weight_at-weight-requires-clause-room c =
    let s = c.args.self.now in
    factors-room s.table s.width c.args.sum.now.weights.items c.places.start s.lawful c.requires.room

pub with_weight-range-requires-clause-low : goal.with_weight-range-requires-clause-low
with_weight-range-requires-clause-low c =
    let s = c.args.self.now in
    let ws = c.args.sum.now.weights.items in
    let start = c.places.start in
    let v = c.places.invariant in
    let at = c.max-at.result in
    let e = c.entry_at-entry in
    let inside : start < length ws = omega (arith, c.places-test.true, c.len.ensures) in
    let own = read-weight ws start c.index.result.now inside c.index.ensures in
    let back : e.result.back ≡ behind_at ws start = e.ensures.back ∙ ap (λ (w : Weight). w.behind) own in
    let weight = c.weight_at-weight.result in
    let t : SFits w128 weight = search rules in
    let here : at ≡ max c.places.place c.delay-delay.result = c.max-at.ensures in
    let from : c.places.place ≤ at = omega (arith, here) in
    let is = walk-weighs s.table s.width s.longest c.args.index ws start c.places.place at weight c.places.range.lo c.places.range.hi
    s.lawful s.long c.args.sum.now.rising v.walked from c.weight_at-weight.ensures in
    simp to_z-of_z (walk-room s.table s.width s.longest c.args.index ws start c.places.place at e.result.back c.delay-delay.result weight c.places.range.lo c.places.range.hi
    s.lawful s.long c.args.sum.now.rising c.requires.room v.walked back c.delay-delay.ensures.delay here is).0

pub with_weight-range-requires-clause-high : goal.with_weight-range-requires-clause-high
with_weight-range-requires-clause-high c =
    let s = c.args.self.now in
    let ws = c.args.sum.now.weights.items in
    let start = c.places.start in
    let v = c.places.invariant in
    let at = c.max-at.result in
    let e = c.entry_at-entry in
    let inside : start < length ws = omega (arith, c.places-test.true, c.len.ensures) in
    let own = read-weight ws start c.index.result.now inside c.index.ensures in
    let back : e.result.back ≡ behind_at ws start = e.ensures.back ∙ ap (λ (w : Weight). w.behind) own in
    let weight = c.weight_at-weight.result in
    let t : SFits w128 weight = search rules in
    let here : at ≡ max c.places.place c.delay-delay.result = c.max-at.ensures in
    let from : c.places.place ≤ at = omega (arith, here) in
    let is = walk-weighs s.table s.width s.longest c.args.index ws start c.places.place at weight c.places.range.lo c.places.range.hi
    s.lawful s.long c.args.sum.now.rising v.walked from c.weight_at-weight.ensures in
    simp to_z-of_z (walk-room s.table s.width s.longest c.args.index ws start c.places.place at e.result.back c.delay-delay.result weight c.places.range.lo c.places.range.hi
    s.lawful s.long c.args.sum.now.rising c.requires.room v.walked back c.delay-delay.ensures.delay here is).1

pub places-smaller : goal.places-smaller
places-smaller c =
    let s = c.args.self.now in
    let ws = c.args.sum.now.weights.items in
    let inside : c.places.start < length ws = omega (arith, c.places-test.true, c.len.ensures) in
    let own = read-weight ws c.places.start c.index.result.now inside c.index.ensures in
    let at = ap (delay_at s.table c.args.index) (c.entry_at-entry.ensures.back ∙ ap (λ (w : Weight). w.behind) own) in
    let later = behind-rises ws c.places.start (length ws - 1) c.args.sum.now.rising (omega (arith, inside)) (omega (arith, inside)) in
    let rise = delays-rise s.table c.args.index (behind_at ws c.places.start) (behind_at ws (length ws - 1)) s.lawful later in
    omega (arith, c.max-at.ensures, c.delay-delay.ensures.delay, c.if-delay-from.false, c.from.ensures, at, rise)

pub places-preserved : goal.places-preserved
places-preserved c =
    let s = c.args.self.now in
    let ws = c.args.sum.now.weights.items in
    let start = c.places.start in
    let v = c.places.invariant in
    let at = c.max-at.result in
    let e = c.entry_at-entry in
    let inside : start < length ws = omega (arith, c.places-test.true, c.len.ensures) in
    let own = read-weight ws start c.index.result.now inside c.index.ensures in
    let back : e.result.back ≡ behind_at ws start = e.ensures.back ∙ ap (λ (w : Weight). w.behind) own in
    let weight = c.weight_at-weight.result in
    let t : SFits w128 weight = search rules in
    let here : at ≡ max c.places.place c.delay-delay.result = c.max-at.ensures in
    let from : c.places.place ≤ at = omega (arith, here) in
    let is = walk-weighs s.table s.width s.longest c.args.index ws start c.places.place at weight c.places.range.lo c.places.range.hi
    s.lawful s.long c.args.sum.now.rising v.walked from c.weight_at-weight.ensures in
    let behind : Fits w64 c.index.result.now.behind = search rules in
    let longest : Fits w64 s.longest = search rules in
    let near : at < 2 ^ 101 = omega (arith, here, c.if-delay-from.false, c.from.ensures, c.delay-delay.ensures.most, e.ensures.entry.most, e.ensures.back) in
    let low : c.with_weight-range.result.lo ≡ c.places.range.lo +ℤ least_term (least_sample s.width) (greatest_sample s.width) weight = simp to_z-of_z at c.with_weight-range.ensures.low in
    let high : c.with_weight-range.result.hi ≡ c.places.range.hi +ℤ least_term (greatest_sample s.width) (least_sample s.width) weight = simp to_z-of_z at c.with_weight-range.ensures.high in
    record {
      walked = walk-adds s.table s.width s.longest c.args.index ws start c.places.place at e.result.back c.delay-delay.result weight c.places.range.lo c.places.range.hi
          c.with_weight-range.result.lo c.with_weight-range.result.hi s.lawful s.long c.args.sum.now.rising v.walked back c.delay-delay.ensures.delay here near is low high;
      entry = e.ensures.entry;
    }

pub places-preserved-then-delay-from : goal.places-preserved-then-delay-from
places-preserved-then-delay-from c =
    let s = c.args.self.now in
    let ws = c.args.sum.now.weights.items in
    let inside : c.places.start < length ws = omega (arith, c.places-test.true, c.len.ensures) in
    let own = read-weight ws c.places.start c.index.result.now inside c.index.ensures in
    let back : c.entry_at-entry.result.back ≡ behind_at ws c.places.start = c.entry_at-entry.ensures.back ∙ ap (λ (w : Weight). w.behind) own in
    record {
      walked = walk-passes s.table s.width s.longest c.args.index ws c.places.start c.places.place c.entry_at-entry.result.back c.delay-delay.result c.places.range.lo c.places.range.hi
          c.places.invariant.walked inside back c.delay-delay.ensures.delay (omega (arith, c.if-delay-from.true, c.from.ensures));
      entry = c.entry_at-entry.ensures.entry;
    }

pub returns-clause-low : goal.returns-clause-low
returns-clause-low c =
    let s = c.args.self.now in
    (walk-ends s.table s.width s.longest c.args.index c.args.sum.now.weights.items c.places.start c.places.place c.places.range.lo c.places.range.hi s.lawful s.long c.args.sum.now.rising c.places.invariant.walked
    (omega (arith, c.places-test.false, c.len.ensures))).0

pub returns-clause-high : goal.returns-clause-high
returns-clause-high c =
    let s = c.args.self.now in
    (walk-ends s.table s.width s.longest c.args.index c.args.sum.now.weights.items c.places.start c.places.place c.places.range.lo c.places.range.hi s.lawful s.long c.args.sum.now.rising c.places.invariant.walked
    (omega (arith, c.places-test.false, c.len.ensures))).1
