use Rattle.std.proofs.Common.{◌≡◌, ◌∙◌, ◌+◌, ap, sym, arith, rules, FitsSigned, to_z, of_z, ℤ, pos, ◌*ℤ◌, ◌-ℤ◌}
use Rattle.std.specs.Int.{w128}
use Rattle.std.proofs.lemmas.Int.{to_z-of_z}
use Rattle.mr_values.specs.Timing.{low_after, high_after}
use Rattle.plan_check.specs.Groups.{group_of}
use Rattle.plan_check.specs.Amounts.{gain}
use Rattle.plan_check.proofs.Sums.{magnitude_sums}
use Rattle.plan_check.proofs.Ends.{low_end_sums, high_end_sums}
use Rattle.plan_check.proofs.flow.end_past.Goals as goal

pub weighed-requires-clause-small : goal.weighed-requires-clause-small
weighed-requires-clause-small c =
    let sums : c.sums_of-sums.result.rises + c.sums_of-sums.result.falls ≡ gain (group_of c.args.group.now) =
    grind (arith, magnitude_sums, c.sums_of-sums.ensures.rises, c.sums_of-sums.ensures.falls) in
    rw (to_z-of_z w128 _ c.ranges.end, to_z-of_z w128 _ c.ranges.other, sums) c.requires.small

weighed : (c : goal.After-weighed) → c.weighed.result ≡ pos c.sums_of-sums.result.rises *ℤ c.args.end -ℤ pos c.sums_of-sums.result.falls *ℤ c.args.other
weighed c =
    c.weighed.ensures
    ∙ ap (λ (z : ℤ). pos c.sums_of-sums.result.rises *ℤ z -ℤ pos c.sums_of-sums.result.falls *ℤ to_z w128 (of_z w128 c.args.other)) (to_z-of_z w128 _ c.ranges.end)
    ∙ ap (λ (z : ℤ). pos c.sums_of-sums.result.rises *ℤ c.args.end -ℤ pos c.sums_of-sums.result.falls *ℤ z) (to_z-of_z w128 _ c.ranges.other)

pub returns-in-Fir-default-Some-default-clause-low : goal.returns-in-Fir-default-Some-default-clause-low
returns-in-Fir-default-Some-default-clause-low c =
    let fits : FitsSigned w128 c.weighed.result = search rules in
    let ends : low_after (group_of c.args.group.now) c.args.end c.args.other ≡ pos c.sums_of-sums.result.rises *ℤ c.args.end -ℤ pos c.sums_of-sums.result.falls *ℤ c.args.other =
    grind (arith, low_end_sums, c.sums_of-sums.ensures.rises, c.sums_of-sums.ensures.falls) in
    to_z-of_z w128 _ fits ∙ weighed c ∙ sym ends

pub returns-in-Fir-default-Some-default-clause-high : goal.returns-in-Fir-default-Some-default-clause-high
returns-in-Fir-default-Some-default-clause-high c =
    let fits : FitsSigned w128 c.weighed.result = search rules in
    let ends : high_after (group_of c.args.group.now) c.args.other c.args.end ≡ pos c.sums_of-sums.result.rises *ℤ c.args.end -ℤ pos c.sums_of-sums.result.falls *ℤ c.args.other =
    grind (arith, high_end_sums, c.sums_of-sums.ensures.rises, c.sums_of-sums.ensures.falls) in
    to_z-of_z w128 _ fits ∙ weighed c ∙ sym ends
