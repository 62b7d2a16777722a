-- The next group can take the streams before it.
use Rattle.std.proofs.Common.{◌≡◌, ℕ, ◌-◌, Bool, true, false, List, ◌∷◌, take, sym, ◌∙◌, ap, subst, arith}
use Rattle.mr_values.specs.declared.plan.Element.{Element}
use Rattle.mr_values.specs.declared.plan.Plan.{Plan}
use Rattle.mr_values.specs.Sequence.{Sequence}
use Rattle.mr_values.specs.Timing.{Group, groups}
use Rattle.mr_values.specs.Value.{size, chain}
use Rattle.net_graph.specs.declared.cell.Stream.{Stream}
use Rattle.net_graph.specs.Cells.{NetView}
use Rattle.plan_check.specs.declared.facts.GroupFacts.{GroupFacts}
use Rattle.plan_check.specs.Accepted.{IsAccepted}
use Rattle.plan_check.specs.Amounts.{gain}
use Rattle.plan_check.specs.Groups.{IsSplit}
use Rattle.plan_laws.proofs.Passes.{passes_of}
use Rattle.stage_law.specs.Streams.{HasRoom}
use Rattle.width_extreme.specs.Prefix.{IsStream}
use Rattle.chain_build.specs.Built.{has_rounding}
use Rattle.chain_build.specs.Prefixes.{IsExactPrefix, CanTake, streams_before, elements_before}
use Rattle.chain_build.proofs.ExactPrefixes.{prefix-linear, exact-prefix}
use Rattle.chain_build.proofs.Prefixes.{sizes, sizes-within}
use Rattle.chain_build.proofs.Samples.{AreSamples}
use Rattle.chain_build.proofs.SoFar.{SoFar, span_low, span_high, below, above, fact_is, room_span, room_prefix, prefix-inside, holds_prefix}

module _ {plan : Plan} {old net : NetView} {from last : Stream} {rest : List Element} {fact : GroupFacts} {left : List GroupFacts} {number : ℕ} {front : List Group} {g : Group} {others : List Element}
    (accepted : IsAccepted plan) (so : SoFar (size plan.width) (size plan.ticks) plan.elements old net from last rest (fact ∷ left) number front) (split : IsSplit rest g others) where
  first-is : fact.first ≡ so.first
  first-is = ap (λ (f : GroupFacts). f.first) (fact_is so split)

  pub taken-is : fact.first - 1 ≡ sizes front
  taken-is = let f = first-is in let e = so.first_is in omega (arith, f, e)

  pub can_take : (rounded : Bool) → rounded ≡ has_rounding front → CanTake plan fact g rounded
  can_take rounded is = record {
    some = let f = first-is in let e = so.first_is in omega (arith, f, e);
    below = below so split;
    above = above so split;
    spans = λ v is. rw (span_low so split, span_high so split) (prefix-inside so split v (subst (λ (n : ℕ). IsStream (chain (take n plan.elements)) (size plan.width) v) taken-is is));
    room_span = rw (span_low so split, span_high so split) (room_span so split);
    prefix = λ none.
        subst (IsExactPrefix plan) (sym taken-is)
        (exact-prefix plan (sizes front) accepted (sizes-within plan.elements front (groups rest) so.parts)
        (prefix-linear plan.elements front (groups rest) (passes_of plan accepted).limits.elements so.parts (sym is ∙ none)));
    room_prefix = subst (λ (n : ℕ). HasRoom (IsStream (chain (take n plan.elements)) (size plan.width)) (gain g)) (sym taken-is) (room_prefix so split);
  }

  -- the streams before the group hold what is done so far
  pub holds_before : (rounded : Bool) (v : Sequence) → AreSamples (size plan.width) v → streams_before rounded (size plan.width) (elements_before plan fact) fact.span_lo fact.span_hi (so.done v)
  holds_before true v h = rw (span_low so split, span_high so split) (so.inside v h)
  holds_before false v h = subst (λ (n : ℕ). IsStream (chain (take n plan.elements)) (size plan.width) (so.done v)) (sym taken-is) (holds_prefix so split v h)

  -- before any rounding they are exactly what the elements so far make of samples
  pub exact_streams : (rounded : Bool) → rounded ≡ has_rounding front → has_rounding front ≡ false
      → streams_before rounded (size plan.width) (elements_before plan fact) fact.span_lo fact.span_hi ≡ IsStream (chain (take (sizes front) plan.elements)) (size plan.width)
  exact_streams true is none = absurd (let e : true ≡ false = is ∙ none in cc)
  exact_streams false is none = ap (λ (n : ℕ). IsStream (chain (take n plan.elements)) (size plan.width)) taken-is
