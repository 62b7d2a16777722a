-- One more group keeps the list of linear registers.
use Rattle.std.proofs.Common.{◌≡◌, ℕ, ◌+◌, Bool, List, [], ◌∷◌, ◌++◌, length, sym, ◌∙◌, ap, subst}
use Rattle.mr_values.specs.declared.plan.Element.{Element}
use Rattle.mr_values.specs.declared.plan.Plan.{Plan}
use Rattle.mr_values.specs.Timing.{Group, groups, input, after_all, Stream as Timed}
use Rattle.mr_values.specs.Value.{size}
use Rattle.net_graph.specs.declared.cell.Stream.{Stream}
use Rattle.net_graph.specs.Cells.{NetView}
use Rattle.plan_check.specs.declared.facts.GroupFacts.{GroupFacts}
use Rattle.plan_check.specs.Accepted.{IsAccepted}
use Rattle.plan_check.specs.Groups.{IsSplit}
use Rattle.chain_build.specs.declared.groups.Added.{Added}
use Rattle.chain_build.specs.Added.{IsGroupAdded}
use Rattle.chain_build.specs.Built.{has_rounding}
use Rattle.chain_build.specs.LinearOn.{HasGroupRegisters}
use Rattle.chain_build.specs.Prefixes.{flow_before, streams_before, elements_before}
use Rattle.chain_build.proofs.Prefixes.{after-more}
use Rattle.chain_build.proofs.RegistersSoFar.{RegistersSoFar, RegistersSoFar-next, RegistersSoFar-end, IsStep}
use Rattle.chain_build.proofs.SoFar.{SoFar, SoFar-all, SoFar-none, flow_is}
use Rattle.chain_build.proofs.StepLemmas.{is_step}
use Rattle.chain_build.proofs.Taking.{exact_streams}

pub registers_next : {plan : Plan} {old net new : NetView} {from last : Stream} {rest : List Element} {fact : GroupFacts} {left : List GroupFacts} {number : ℕ} {front : List Group} {g : Group} {others : List Element} (accepted : IsAccepted plan)
    (so : SoFar (size plan.width) (size plan.ticks) plan.elements old net from last rest (fact ∷ left) number front) (split : IsSplit rest g others) (rounded : Bool) → rounded ≡ has_rounding front
    → RegistersSoFar (size plan.width) (size plan.ticks) plan.elements net.cells from front (groups rest) (after_all front (input (size plan.width) (size plan.ticks))) number
    → (mid : NetView) (added : Added) → mid ≡ record { cells = net.cells; group = number } → IsGroupAdded g (flow_before last.period fact) (streams_before rounded (size plan.width) (elements_before plan fact) fact.span_lo fact.span_hi) mid new last added
    → RegistersSoFar (size plan.width) (size plan.ticks) plan.elements new.cells from (front ++ g ∷ []) (groups others) (after_all (front ++ g ∷ []) (input (size plan.width) (size plan.ticks))) (number + 1)
registers_next {plan} {old} {net} {new} {from} {last} {rest} {fact} {left} {number} {front} {g} {others} accepted so split rounded is registers mid added mid_is adds =
    let start = input (size plan.width) (size plan.ticks) in
    let step = is_step accepted split so (flow_is so split) mid_is adds (exact_streams accepted so split rounded is) in
    let here : IsStep (size plan.width) plan.elements net.cells new.cells from front g (after_all front start) number =
    subst (λ (s : Timed). IsStep (size plan.width) plan.elements net.cells new.cells from front g s number) so.stream_is step in
    subst (λ (s : Timed). RegistersSoFar (size plan.width) (size plan.ticks) plan.elements new.cells from (front ++ g ∷ []) (groups others) s (number + 1)) (sym (after-more front g start))
    (RegistersSoFar-next registers split.parts here)

pub registers_end : {width ticks : ℕ} {whole : List Element} {old net : NetView} {from last : Stream} {rest : List Element} {number : ℕ} {front : List Group} → SoFar width ticks whole old net from last rest [] number front
    → RegistersSoFar width ticks whole net.cells from front (groups rest) (after_all front (input width ticks)) number → HasGroupRegisters width ticks whole net.cells from
registers_end {width} {ticks} {whole} {old} {net} {from} {last} {rest} {number} {front} so registers =
    let all = SoFar-all so in
    RegistersSoFar-end (subst (λ (gs : List Group). RegistersSoFar width ticks whole net.cells from gs (groups rest) (after_all gs (input width ticks)) number) (sym all) registers) (SoFar-none so)
    (so.number_is ∙ ap (λ (gs : List Group). 1 + length gs) (sym all))
