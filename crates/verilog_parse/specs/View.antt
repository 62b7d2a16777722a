-- What the machines hold, without where it lies in memory.
use Rattle.std.specs.Prelude.{◌≡◌, ℕ, ◌+◌, List, [], ◌∷◌, map, reverse, Result, Ok, Err}
use Rattle.verilog_tree.specs.View.{tree_view, trees_view}
use Rattle.verilog_text.specs.declared.token.Why.{Why}
use Rattle.verilog_text.specs.Grammar.{Limits}
use Rattle.verilog_text.specs.Machine as machine
use Rattle.verilog_parse.specs.declared.fault.Fault.{Fault}
use Rattle.verilog_parse.specs.declared.fault.Fault.TheVariants as fault
use Rattle.verilog_parse.specs.declared.expression.frame.Frame.{Frame}
use Rattle.verilog_parse.specs.declared.expression.frame.Frame.TheVariants as frame
use Rattle.verilog_parse.specs.declared.expression.phase.Phase.{Phase}
use Rattle.verilog_parse.specs.declared.expression.phase.Phase.TheVariants as phase

abbrev pub frame_view : Frame → machine.Frame
frame_view frame.Bracket = machine.InBracket
frame_view frame.Not = machine.InNot
frame_view (frame.Members before) = machine.InMembers (trees_view before.items)
frame_view (frame.Right left op) = machine.InRight (tree_view left) op
frame_view (frame.Yes condition) = machine.InYes (tree_view condition)
frame_view (frame.No condition on_true) = machine.InNo (tree_view condition) (tree_view on_true)

-- the stack, its top first
abbrev pub stack_view : List Frame → List machine.Frame
stack_view frames = reverse (map frame_view frames)

-- the brackets, concatenations and conditions that have not ended
abbrev pub open_count : List machine.Frame → ℕ
open_count [] = 0
open_count (machine.InBracket ∷ stack) = 1 + open_count stack
open_count (machine.InNot ∷ stack) = open_count stack
open_count (machine.InMembers before ∷ stack) = 1 + open_count stack
open_count (machine.InRight left op ∷ stack) = open_count stack
open_count (machine.InYes condition ∷ stack) = 1 + open_count stack
open_count (machine.InNo condition on_true ∷ stack) = open_count stack

abbrev pub phase_view : Phase → machine.Phase
phase_view phase.Operand = machine.Operand
phase_view (phase.After bare loose e) = machine.After bare loose (tree_view e)
phase_view (phase.Amount op e) = machine.Amount op (tree_view e)
phase_view (phase.Selecting name) = machine.Selecting name
phase_view (phase.Selected name high) = machine.Selected name high
phase_view (phase.Lowing name high) = machine.Lowing name high
phase_view (phase.Closing name high low) = machine.Closing name high low

-- 1,000 binary operators, and this many levels
abbrev pub limits_of : ℕ → Limits
limits_of levels = record { levels = levels; operators = 1000 }

-- what a function returned is what the machine gives, unless memory ran out
abbrev pub Fails : {Y : Type 0} → Fault → Result Y Why → Type 0
Fails fault.Memory given = Unit {0}
Fails (fault.Refused reason) given = given ≡ Err reason

abbrev pub Gives : {X Y : Type 0} → (X → Y) → Result X Fault → Result Y Why → Type 0
Gives view (Ok x) given = given ≡ Ok (view x)
Gives view (Err e) given = Fails e given
