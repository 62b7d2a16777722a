-- What the machine for texts holds, without where it lies in memory.
use Rattle.std.specs.Prelude.{◌<◌, ◌^◌, map}
use Rattle.std.specs.Option.{option_map}
use Rattle.verilog_tree.specs.View.{action_view, assignment_view}
use Rattle.verilog_text.specs.declared.token.Token.{Token}
use Rattle.verilog_text.specs.declared.token.Token.TheVariants as token
use Rattle.verilog_text.specs.Text as text
use Rattle.verilog_text.specs.TextMachine as machine
use Rattle.verilog_parse.specs.declared.text.range.Shape.{Shape}
use Rattle.verilog_parse.specs.declared.text.phase.Spot.{Spot}
use Rattle.verilog_parse.specs.declared.text.phase.Spot.TheVariants as spot
use Rattle.verilog_parse.specs.declared.text.phase.TextPhase.{TextPhase}
use Rattle.verilog_parse.specs.declared.text.phase.TextPhase.TheVariants as phase
use Rattle.verilog_parse.specs.declared.text.draft.Draft.{Draft}
use Rattle.verilog_parse.specs.declared.text.draft.TextReader.{TextReader}
use Rattle.verilog_parse.specs.Begun.{state_view}
use Rattle.verilog_parse.specs.StatementBegun.{statement_state_view}

abbrev pub shape_view : Shape → text.Shape
shape_view shape = record { signed = shape.signed; range = option_map (λ r. r.high) shape.range }

abbrev pub spot_view : Spot → machine.Spot
spot_view spot.Wirable = machine.Wirable
spot_view spot.Signable = machine.Signable
spot_view (spot.Rangeable signed) = machine.Rangeable signed
spot_view (spot.Ranging signed) = machine.Ranging signed
spot_view (spot.Ranged signed range) = machine.Ranged signed range.high
spot_view (spot.Zeroing signed range) = machine.Zeroing signed range.high
spot_view (spot.Closing signed range) = machine.Closing signed range.high
spot_view (spot.Nameable shape) = machine.Nameable (shape_view shape)

abbrev pub text_phase_view : TextPhase → machine.Phase
text_phase_view phase.Start = machine.Start
text_phase_view phase.Naming = machine.Naming
text_phase_view phase.Opening = machine.Opening
text_phase_view phase.FirstPort = machine.FirstPort
text_phase_view (phase.Heading kind s) = machine.Heading kind (spot_view s)
text_phase_view (phase.Listed kind shape) = machine.Listed kind (shape_view shape)
text_phase_view (phase.NextPort kind shape) = machine.NextPort kind (shape_view shape)
text_phase_view phase.PortsClosed = machine.PortsClosed
text_phase_view phase.AtItem = machine.AtItem
text_phase_view phase.Targeting = machine.Targeting
text_phase_view (phase.Assigning target) = machine.Assigning target
text_phase_view (phase.Valued target s) = machine.Valued target (state_view s)
text_phase_view phase.AtEvent = machine.AtEvent
text_phase_view phase.InEvent = machine.InEvent
text_phase_view phase.OnEdge = machine.OnEdge
text_phase_view phase.AtClock = machine.AtClock
text_phase_view phase.EventClosed = machine.EventClosed
text_phase_view (phase.Running s) = machine.Running (statement_state_view s)
text_phase_view phase.Finished = machine.Done

abbrev pub draft_view : Draft → machine.Draft
draft_view d = record {
  name = d.name;
  signals = d.signals.items;
  assigns = map assignment_view d.assigns.items;
  blocks = map action_view d.blocks.items;
}

abbrev pub text_state_view : TextReader → machine.State
text_state_view r = record { draft = draft_view r.draft; phase = text_phase_view r.phase }

-- a number without a size is below 2^31, as every one in a text is
abbrev pub IsSmall : Token → Type 0
IsSmall (token.Number d) = d.value < 2 ^ 31
IsSmall _ = Unit {0}
