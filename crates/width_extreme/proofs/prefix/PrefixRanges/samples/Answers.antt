use Rattle.std.proofs.Common.{rules, ◌<◌, ap, arith, length}
use Rattle.std.proofs.lemmas.Int.{to_z-of_z}
use mir.Syntax.{w64, w128}
use mir.Val.{SFits}
use Rattle.stage_law.specs.declared.weights.Weight.{Weight}
use Rattle.width_extreme.proofs.Samples.{samples-pass, samples-more, samples-end}
use Rattle.width_extreme.proofs.Walk.{read-weight}
use Rattle.width_extreme.proofs.Walked.{factors-room}
use Rattle.width_extreme.proofs.prefix.PrefixRanges.samples.Goals as goal

pub places-preserved-then-is_spent : goal.places-preserved-then-is_spent
places-preserved-then-is_spent c =
    let s = c.args.self.now in
    let ws = c.args.sum.now.weights.items in
    let inside : c.places.start < length ws = omega (arith, c.if-start-len.true, c.len.ensures) in
    let own = ap (λ (w : Weight). w.behind) (read-weight ws c.places.start c.index.result.now inside c.index.ensures) in
    record {
      made = samples-pass s.table s.width s.longest ws c.args.high c.args.index c.class_of-first.result c.newest_at-newest.result c.places.start c.places.place
          c.index.result.now.behind c.places.samples.items c.places.invariant.made inside own (c.is_spent.ensures c.if-is_spent.true);
    }

pub weight_at-weight-requires-clause-room : goal.weight_at-weight-requires-clause-room
weight_at-weight-requires-clause-room c =
    let s = c.args.self.now in
    factors-room s.table s.width c.args.sum.now.weights.items c.places.start s.lawful c.requires.room

pub overflow_add-place : goal.overflow_add-place
overflow_add-place c = omega (arith, c.places-test.true, c.newest_at-newest.ensures.small)

pub places-preserved : goal.places-preserved
places-preserved c =
    let s = c.args.self.now in
    let v = c.places.invariant in
    let weight = c.weight_at-weight.result in
    let fits : SFits w128 weight = search rules in
    let small : SFits w64 c.sample_for.result = search rules in
    record {
      made = samples-more s.table s.width s.longest c.args.sum.now.weights.items c.args.high c.args.index c.class_of-first.result c.newest_at-newest.result c.places.start c.places.place
          c.places.samples.items _ weight c.sample_for.result s.lawful s.long c.args.sum.now.rising v.made c.class_of-first.ensures.class c.places-test.true c.weight_at-weight.ensures
          (simp to_z-of_z at c.sample_for.ensures) (simp to_z-of_z at c.in_ok-push.ensures.items);
    }

pub returns : goal.returns
returns c =
    let s = c.args.self.now in
    samples-end s.table s.width s.longest c.args.sum.now.weights.items c.args.high c.args.index c.class_of-first.result c.newest_at-newest.result c.places.start c.places.place c.places.samples.items _
    c.places.invariant.made c.places-test.false c.newest_at-newest.ensures.newest c.reverse.ensures.items
