-- The levels of stacks: each frame of a statement opens one.
use Rattle.std.proofs.Common.{◌≡◌, ◌+◌, ◌≤◌, List, [], ◌∷◌, map, reverse, length, refl, ap, ◌∙◌, arith}
use Rattle.std.proofs.Math.Numerals.{one-add}
use Rattle.std.proofs.lemmas.List.{length-reverse, length-map}
use Rattle.verilog_text.specs.StatementMachine.{Frame, InBlock, InThen, InElse, levels}
use Rattle.verilog_text.specs.Machine as inner
use Rattle.verilog_parse.specs.View.{open_count}
use Rattle.verilog_parse.specs.declared.statement.frame.StatementFrame.{StatementFrame}
use Rattle.verilog_parse.specs.StatementView.{statement_frame_view, statement_stack_view}

levels_of : (stack : List Frame) → levels stack ≡ length stack
levels_of [] = refl
levels_of (InBlock before ∷ stack) = ap (λ n. 1 + n) (levels_of stack) ∙ one-add (length stack)
levels_of (InThen condition ∷ stack) = ap (λ n. 1 + n) (levels_of stack) ∙ one-add (length stack)
levels_of (InElse condition on_true ∷ stack) = ap (λ n. 1 + n) (levels_of stack) ∙ one-add (length stack)

pub levels_of_frames : (frames : List StatementFrame) → levels (statement_stack_view frames) ≡ length frames
levels_of_frames frames = levels_of (reverse (map statement_frame_view frames)) ∙ length-reverse (map statement_frame_view frames) ∙ length-map frames statement_frame_view

pub open_within : (stack : List inner.Frame) → open_count stack ≤ inner.levels stack
open_within [] = omega arith
open_within (inner.InBracket ∷ stack) = let h = open_within stack in omega arith
open_within (inner.InNot ∷ stack) = let h = open_within stack in omega arith
open_within (inner.InMembers before ∷ stack) = let h = open_within stack in omega arith
open_within (inner.InRight left op ∷ stack) = open_within stack
open_within (inner.InYes condition ∷ stack) = let h = open_within stack in omega arith
open_within (inner.InNo condition on_true ∷ stack) = let h = open_within stack in omega arith
