use Rattle.verilog_tree.specs.Cycle.{circuit_of}
use Rattle.verilog_tree.specs.View.{design_view}
use Rattle.verilog_tree.proofs.OneSettling.{circuit_sound}
use Rattle.module_laws.proofs.Passing.{passing_driven}
use Rattle.event_order.specs.Laws.{inputs_over}
use Rattle.event_order.proofs.EveryOrder.{every_run_from}
use Rattle.event_order.proofs.Inputs.{are_inputs}
use Rattle.event_order.proofs.Registers.{every_start}
use Rattle.event_order.proofs.law_of_every_run.Goals as goal

pub returns-clause-run : goal.returns-clause-run
returns-clause-run c =
    let d = design_view c.args.design.now in
    λ cycles content reads ends orders. every_run_from (circuit_of d) (circuit_sound d (passing_driven d c.requires)) (inputs_over d cycles) content reads ends (are_inputs d c.requires c.tree-tree.ensures.formed.distinct cycles) orders

pub returns-clause-start : goal.returns-clause-start
returns-clause-start c = every_start (design_view c.args.design.now) c.requires c.tree-tree.ensures.formed.distinct
