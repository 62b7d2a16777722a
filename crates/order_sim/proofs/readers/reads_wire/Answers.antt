use Rattle.std.proofs.Common.{◌∙◌, List, get_or, sym, ap}
use Rattle.verilog_tree.specs.declared.tree.Assign.{Assign}
use Rattle.verilog_tree.specs.Cycle.{reads}
use Rattle.verilog_tree.specs.View.{tree_view, assignment_view, design_view}
use Rattle.settle_order.proofs.Turns.{viewed_at}
use Rattle.order_sim.proofs.Reading.{wire-read}
use Rattle.order_sim.proofs.readers.reads_wire.Goals as goal

pub returns : goal.returns
returns c =
    let xs = c.as_slice-assigns.result.now in
    let items = c.args.design.now.assigns.items in
    let a = c.index-assigns-reader.result in
    let b = c.index-assigns-place.result in
    let read_a = c.index-assigns-reader.is ∙ ap (λ (ys : List Assign). get_or ys c.args.reader a) c.as_slice-assigns.ensures.value in
    let read_b = c.index-assigns-place.is ∙ ap (λ (ys : List Assign). get_or ys c.args.place b) c.as_slice-assigns.ensures.value in
    c.reads.ensures
    ∙ ap (λ (x : Assign). reads (tree_view x.value) (get_or xs c.args.place b).target) (sym c.index-assigns-reader.is)
    ∙ ap (λ (x : Assign). reads (tree_view a.value) x.target) (sym c.index-assigns-place.is)
    ∙ wire-read (design_view c.args.design.now) c.args.reader c.args.place (assignment_view a) (assignment_view b)
    (viewed_at items c.args.reader a c.requires.reader read_a) (viewed_at items c.args.place b c.requires.place read_b)
