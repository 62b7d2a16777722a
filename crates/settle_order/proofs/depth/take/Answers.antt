use Rattle.std.proofs.Common.{ℕ, ◌<◌, ◌∙◌, List, false, ap, subst, sym, get_or, set, length}
use Rattle.verilog_tree.specs.declared.tree.Assign.{Assign}
use Rattle.verilog_tree.specs.Cycle.{circuit_of}
use Rattle.verilog_tree.specs.View.{design_view, assignment_view}
use Rattle.settle_order.specs.Placing.{opened_of, IsPlaced}
use Rattle.settle_order.proofs.InDepth.{placed_next}
use Rattle.settle_order.proofs.Turns.{viewed_at}
use Rattle.settle_order.proofs.depth.take.Goals as goal

pub returns-in_ok-push-in-None : goal.returns-in_ok-push-in-None
returns-in_ok-push-in-None c =
    let d = design_view c.args.design.now in
    let a = c.index-assigns-top.result in
    let top = c.args.top in
    let opened = c.args.opened.now in
    let lt = subst (λ (xs : List Assign). top < length xs) c.as_slice-assigns.ensures.value c.if-top-assigns.false in
    let read = c.index-assigns-top.is ∙ ap (λ (xs : List Assign). get_or xs top a) c.as_slice-assigns.ensures.value in
    record {
      placed = subst (λ (order : List ℕ). IsPlaced (circuit_of d) (opened_of (set opened a.target false)) order) (sym c.in_ok-push-in-None.ensures.items)
          (placed_next d c.requires.driven opened c.args.order.now.items top (assignment_view a) c.requires.placed (viewed_at c.args.design.now.assigns.items top a lt read)
          (sym c.is_open.ensures ∙ c.if-not-is_open.false) c.in-None.ensures);
    }
