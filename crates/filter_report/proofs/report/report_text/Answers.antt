use Rattle.std.proofs.Common.{◌∙◌, List, ◌++◌, Option, ℕ, ap}
use Rattle.verilog_tree.specs.Tree.{Design}
use Rattle.verilog_tree.specs.declared.tree.Module.{Module}
use Rattle.verilog_tree.specs.View.{design_view}
use Rattle.chain_build.specs.declared.groups.GroupCost.{GroupCost}
use Rattle.filter_report.specs.Costs.{cost_lines}
use Rattle.chain_build.specs.declared.extremes.RegisterExtreme.{RegisterExtreme}
use Rattle.filter_text.specs.Extremes.{told_at}
use Rattle.filter_report.specs.Report.{plan_lines, group_lines, register_lines}
use Rattle.filter_report.proofs.Told.{told_lines}
use Rattle.filter_report.proofs.report.report_text.Goals as goal

pub returns : goal.returns
returns c = λ gs tells output.
    let d : Design = design_view c.args.chain.now.design in
    let registers = register_lines d (told_at c.args.chain.now.extremes.items) d.signals in
    let costs = c.args.chain.now.costs.items in
    c.in_ok-put_registers.ensures
    ∙ ap (λ (m : Module). c.put_groups.new.text.items ++ register_lines (design_view m) (told_at c.deref-2.result.now) (design_view m).signals) c.tree.ensures.same
    ∙ ap (λ (extremes : List (Option RegisterExtreme)). c.put_groups.new.text.items ++ register_lines d (told_at extremes) d.signals) c.deref-2.ensures.value
    ∙ ap (λ (text : List ℕ). text ++ registers)
    (c.in_ok-put_groups.ensures ∙ ap (λ (told : List GroupCost). c.in_ok-text.text.items ++ cost_lines 1 told) c.deref.ensures.value
    ∙ ap (λ (text : List ℕ). text ++ cost_lines 1 costs) c.in_ok-text.ensures ∙ ap (λ (lines : List ℕ). plan_lines c.args.facts.now c.args.chain.now.output ++ lines) (told_lines 1 gs costs d tells)
    ∙ ap (λ (bits : ℕ). plan_lines c.args.facts.now bits ++ group_lines 1 gs d) output)
