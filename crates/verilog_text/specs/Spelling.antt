-- The bytes of words and marks.
use Rattle.std.specs.Prelude.{ℕ, List, [], ◌∷◌, codes}
use Rattle.verilog_tree.specs.declared.tree.Op.{Op}
use Rattle.verilog_tree.specs.declared.tree.Op.TheVariants as op
use Rattle.verilog_tree.specs.declared.tree.ShiftOp.{ShiftOp}
use Rattle.verilog_tree.specs.declared.tree.ShiftOp.TheVariants as shift
use Rattle.verilog_text.specs.declared.token.Word.{Word}
use Rattle.verilog_text.specs.declared.token.Word.TheVariants as word
use Rattle.verilog_text.specs.declared.token.Mark.{Mark}
use Rattle.verilog_text.specs.declared.token.Mark.TheVariants as mark

abbrev pub word_text : Word → List ℕ
word_text word.Module = codes "module"
word_text word.EndModule = codes "endmodule"
word_text word.Input = codes "input"
word_text word.Output = codes "output"
word_text word.Wire = codes "wire"
word_text word.Reg = codes "reg"
word_text word.Signed = codes "signed"
word_text word.Assign = codes "assign"
word_text word.Always = codes "always"
word_text word.Posedge = codes "posedge"
word_text word.Begin = codes "begin"
word_text word.End = codes "end"
word_text word.If = codes "if"
word_text word.Else = codes "else"

abbrev pub all_words : List Word
all_words = word.Module ∷ word.EndModule ∷ word.Input ∷ word.Output ∷ word.Wire ∷ word.Reg ∷ word.Signed ∷ word.Assign ∷ word.Always ∷ word.Posedge ∷ word.Begin ∷ word.End ∷ word.If ∷ word.Else ∷ []

abbrev pub mark_text : Mark → List ℕ
mark_text mark.Open = codes "("
mark_text mark.Close = codes ")"
mark_text mark.OpenBracket = codes "["
mark_text mark.CloseBracket = codes "]"
mark_text mark.OpenBrace = codes "{"
mark_text mark.CloseBrace = codes "}"
mark_text mark.Comma = codes ","
mark_text mark.Semicolon = codes ";"
mark_text mark.Colon = codes ":"
mark_text mark.Question = codes "?"
mark_text mark.At = codes "@"
mark_text mark.Assigned = codes "="
mark_text mark.Inverse = codes "~"

abbrev pub all_marks : List Mark
all_marks = mark.Open ∷ mark.Close ∷ mark.OpenBracket ∷ mark.CloseBracket ∷ mark.OpenBrace ∷ mark.CloseBrace ∷ mark.Comma ∷ mark.Semicolon ∷ mark.Colon ∷ mark.Question ∷ mark.At ∷ mark.Assigned ∷ mark.Inverse ∷ []

abbrev pub op_text : Op → List ℕ
op_text op.Add = codes "+"
op_text op.Sub = codes "-"
op_text op.Less = codes "<"
op_text op.LessEqual = codes "<="
op_text op.Greater = codes ">"
op_text op.GreaterEqual = codes ">="
op_text op.Equal = codes "=="
op_text op.NotEqual = codes "!="
op_text op.And = codes "&"
op_text op.Xor = codes "^"
op_text op.Or = codes "|"

abbrev pub all_ops : List Op
all_ops = op.Add ∷ op.Sub ∷ op.Less ∷ op.LessEqual ∷ op.Greater ∷ op.GreaterEqual ∷ op.Equal ∷ op.NotEqual ∷ op.And ∷ op.Xor ∷ op.Or ∷ []

abbrev pub shift_text : ShiftOp → List ℕ
shift_text shift.Left = codes "<<"
shift_text shift.Right = codes ">>"
shift_text shift.ArithLeft = codes "<<<"
shift_text shift.ArithRight = codes ">>>"

abbrev pub all_shifts : List ShiftOp
all_shifts = shift.Left ∷ shift.Right ∷ shift.ArithLeft ∷ shift.ArithRight ∷ []
