-- What a module that passes the checks gives to a simulator that draws.
use Rattle.std.proofs.Common.{◌≡◌, true, length, ◌∙◌}
use Rattle.std.proofs.lemmas.List.{length-map}
use Rattle.verilog_tree.specs.declared.tree.Module.{Module}
use Rattle.verilog_tree.specs.Tree.{Design}
use Rattle.verilog_tree.specs.Circuit.{IsSound}
use Rattle.verilog_tree.specs.Checks.{Passes}
use Rattle.verilog_tree.specs.Cycle.{circuit_of, driver_of, process_of}
use Rattle.verilog_tree.specs.Names.{shapes_of}
use Rattle.verilog_tree.specs.View.{design_view, assignment_view, action_view}
use Rattle.verilog_tree.proofs.OneSettling.{circuit_sound, circuit_loop_free}
use Rattle.module_laws.proofs.Levels.{loop_free}
use Rattle.module_laws.proofs.Passing.{passing_driven}
use Rattle.event_order.specs.Drawn.{evaluations}
use Rattle.event_order.proofs.DrawnPlaces.{Proceeds}
use Rattle.event_order.proofs.DrawnSteps.{evaluations_proceed}

pub passing_sound : (d : Design) → Passes d → IsSound (circuit_of d)
passing_sound d passes = circuit_sound d (passing_driven d passes)

pub passing_proceeds : (d : Design) → Passes d → Proceeds (evaluations (circuit_of d)) (λ k. true)
passing_proceeds d passes = let free = circuit_loop_free d (loop_free d passes.free) in evaluations_proceed (circuit_of d) (passing_sound d passes) free.0 free.1

pub driver_count : (m : Module) → length (circuit_of (design_view m)).drivers ≡ length m.assigns.items
driver_count m = length-map (design_view m).assigns (driver_of (shapes_of (design_view m))) ∙ length-map m.assigns.items assignment_view

pub block_count : (m : Module) → length (circuit_of (design_view m)).processes ≡ length m.blocks.items
block_count m = length-map (design_view m).blocks (process_of (shapes_of (design_view m))) ∙ length-map m.blocks.items action_view
