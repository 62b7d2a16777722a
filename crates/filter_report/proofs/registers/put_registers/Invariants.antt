use Rattle.std.proofs.Common.{◌≡◌, ◌++◌, drop}
use Rattle.verilog_tree.specs.View.{design_view}
use Rattle.filter_text.specs.Extremes.{told_at}
use Rattle.filter_report.specs.Report.{register_lines}
use Rattle.filter_report.proofs.registers.put_registers.Given as goal

-- what is written and what is left are the whole
abbrev pub invariant-loop-signal : goal.invariant-loop-signal
invariant-loop-signal l =
    l.text.items ++ register_lines (design_view l.design) (told_at l.extremes) (drop l.signal-index l.design.signals.items) ≡ l.initial.text.items ++ register_lines (design_view l.design) (told_at l.extremes) l.design.signals.items
