use Rattle.std.proofs.Common.{◌≡◌, ◌+◌, List, [], ◌++◌, drop, ap, ◌∙◌}
use Rattle.std.specs.Prelude.{map}
use Rattle.verilog_tree.specs.declared.tree.Assign.{Assign}
use Rattle.verilog_tree.specs.View.{assignment_view}
use Rattle.verilog_text.specs.declared.token.Token.{Token}
use Rattle.verilog_text.specs.Text.{item_text, items_text}
use Rattle.verilog_text.specs.Shortest.{assigned_of}
use Rattle.verilog_write.proofs.Writings.{left, items_step}
use Rattle.verilog_write.proofs.item.write_assigns.Goals as goal

pub loop-assign-preserved : goal.loop-assign-preserved
loop-assign-preserved c =
    let here = left c.args.assigns.now c.loop-assign.assign-index c.assign-item.result c.loop-assign-test.true c.assign-item.is in
    let step = items_step 0 c.loop-assign.out.items (assigned_of (assignment_view c.assign-item.result)) _ _ _ (ap (λ (xs : List Assign). map assigned_of (map assignment_view xs)) here) c.loop-assign.invariant in
    let wrote : c.write_assign.new.out.items ≡ c.loop-assign.out.items ++ item_text 0 (assigned_of (assignment_view c.assign-item.result)) [] = c.in_ok-write_assign.ensures in
    ap (λ (ts : List Token). ts ++ items_text 0 (map assigned_of (map assignment_view (drop (c.loop-assign.assign-index + 1) c.args.assigns.now))) []) wrote ∙ step
