-- The names, the control, the ports, the outputs and the registers of a plan's module.
use Rattle.std.proofs.Common.{ℕ, List, length, subst}
use Rattle.mr_values.specs.declared.plan.Element.{Element}
use Rattle.mr_values.specs.Timing.{groups}
use Rattle.net_graph.specs.declared.cell.Cell.{Cell}
use Rattle.net_graph.specs.declared.cell.Node.{Node}
use Rattle.net_module.specs.Steps.{width_in}
use Rattle.net_module.specs.Written.{IsWritable, written_module}
use Rattle.module_names.specs.Control.{HasControl}
use Rattle.module_names.specs.Names.{HasNames}
use Rattle.module_names.specs.Outputs.{HasPlainOutputs}
use Rattle.module_names.specs.Ports.{HasPorts}
use Rattle.module_names.specs.Registers.{HasHeldBlocks, HasReset}
use Rattle.module_names.proofs.Control.{has_control}
use Rattle.module_names.proofs.Names.{all_named}
use Rattle.module_names.proofs.Outputs.{plain_outputs}
use Rattle.module_names.proofs.Places.{blocks_kept, control_kept, names_kept, outputs_kept, ports_kept, reset_kept}
use Rattle.module_names.proofs.Ports.{has_ports}
use Rattle.module_names.proofs.Registers.{has_reset, held_blocks}
use Rattle.verilog_tree.specs.Tree.{Design}
use Rattle.verilog_text.specs.Order.{IsSameButPlaces}
use Rattle.chain_build.specs.ChainNet.{IsChainNet}
use Rattle.chain_build.specs.Groups.{AreGrouped}
use Rattle.filter_text.proofs.ChainPlaces.{input_width}

module _ {width ticks : ℕ} {elements : List Element} {cells : List Cell} {out_q out_valid : Node} (net : IsChainNet width ticks elements cells out_q out_valid) (can : IsWritable cells) (d : Design) (same : IsSameButPlaces d (written_module cells)) where
  pub chain_ports : HasPorts width d
  chain_ports = subst (λ (w : ℕ). HasPorts w d) (input_width net) (ports_kept d (written_module cells) same (width_in cells) (has_ports cells net.netlist can))

  pub chain_names : AreGrouped (length (groups elements)) cells → HasNames (length (groups elements)) d
  chain_names are = names_kept d (written_module cells) same (length (groups elements)) (all_named cells net.netlist can (length (groups elements)) are.nodes are.names)

  pub chain_control : HasControl d
  chain_control = control_kept d (written_module cells) same (has_control cells net.netlist can net.closed)

  pub chain_outputs_plain : HasPlainOutputs d
  chain_outputs_plain = outputs_kept d (written_module cells) same (plain_outputs cells net.netlist)

  pub chain_blocks : HasHeldBlocks d
  chain_blocks = blocks_kept d (written_module cells) same (held_blocks cells net.netlist can)

  pub chain_reset : HasReset d
  chain_reset = reset_kept d (written_module cells) same (has_reset cells net.netlist can)
