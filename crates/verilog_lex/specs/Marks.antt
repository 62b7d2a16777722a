-- The marks by their bytes, in the order of the table.
use Rattle.std.specs.Prelude.{ℕ, ◌==◌, ◌&&◌, Option, Some, None, if◌then◌else◌}
use Rattle.verilog_tree.specs.declared.tree.Op.TheVariants as op
use Rattle.verilog_tree.specs.declared.tree.ShiftOp.TheVariants as shift
use Rattle.verilog_text.specs.declared.token.Mark.TheVariants as mark
use Rattle.verilog_text.specs.declared.token.Token.TheVariants as token
use Rattle.verilog_text.specs.Lexer.{Piece, Fixed, OutsidePiece}

-- a mark of one byte
abbrev pub single : ℕ → Option Piece
single a =
    if a == 40 then Some (Fixed (token.Punctuation mark.Open)) else
    if a == 41 then Some (Fixed (token.Punctuation mark.Close)) else
    if a == 91 then Some (Fixed (token.Punctuation mark.OpenBracket)) else
    if a == 93 then Some (Fixed (token.Punctuation mark.CloseBracket)) else
    if a == 123 then Some (Fixed (token.Punctuation mark.OpenBrace)) else
    if a == 125 then Some (Fixed (token.Punctuation mark.CloseBrace)) else
    if a == 44 then Some (Fixed (token.Punctuation mark.Comma)) else
    if a == 59 then Some (Fixed (token.Punctuation mark.Semicolon)) else
    if a == 58 then Some (Fixed (token.Punctuation mark.Colon)) else
    if a == 63 then Some (Fixed (token.Punctuation mark.Question)) else
    if a == 64 then Some (Fixed (token.Punctuation mark.At)) else
    if a == 61 then Some (Fixed (token.Punctuation mark.Assigned)) else
    if a == 126 then Some (Fixed (token.Punctuation mark.Inverse)) else
    if a == 43 then Some (Fixed (token.Operator op.Add)) else
    if a == 45 then Some (Fixed (token.Operator op.Sub)) else
    if a == 60 then Some (Fixed (token.Operator op.Less)) else
    if a == 62 then Some (Fixed (token.Operator op.Greater)) else
    if a == 38 then Some (Fixed (token.Operator op.And)) else
    if a == 94 then Some (Fixed (token.Operator op.Xor)) else
    if a == 124 then Some (Fixed (token.Operator op.Or)) else
    if a == 42 then Some OutsidePiece else
    if a == 37 then Some OutsidePiece else
    if a == 33 then Some OutsidePiece else
    if a == 35 then Some OutsidePiece else
    if a == 46 then Some OutsidePiece else
    if a == 36 then Some OutsidePiece else
    if a == 96 then Some OutsidePiece else
    if a == 34 then Some OutsidePiece else None

-- a mark of two bytes
abbrev pub double : ℕ → ℕ → Option Piece
double a b =
    if (a == 60) && (b == 61) then Some (Fixed (token.Operator op.LessEqual)) else
    if (a == 62) && (b == 61) then Some (Fixed (token.Operator op.GreaterEqual)) else
    if (a == 61) && (b == 61) then Some (Fixed (token.Operator op.Equal)) else
    if (a == 33) && (b == 61) then Some (Fixed (token.Operator op.NotEqual)) else
    if (a == 60) && (b == 60) then Some (Fixed (token.Shift shift.Left)) else
    if (a == 62) && (b == 62) then Some (Fixed (token.Shift shift.Right)) else
    if (a == 42) && (b == 42) then Some OutsidePiece else
    if (a == 38) && (b == 38) then Some OutsidePiece else
    if (a == 124) && (b == 124) then Some OutsidePiece else
    if (a == 126) && (b == 38) then Some OutsidePiece else
    if (a == 126) && (b == 124) then Some OutsidePiece else
    if (a == 126) && (b == 94) then Some OutsidePiece else
    if (a == 94) && (b == 126) then Some OutsidePiece else
    if (a == 43) && (b == 58) then Some OutsidePiece else
    if (a == 45) && (b == 58) then Some OutsidePiece else None

-- a mark of three bytes
abbrev pub triple : ℕ → ℕ → ℕ → Option Piece
triple a b c =
    if (a == 60) && ((b == 60) && (c == 60)) then Some (Fixed (token.Shift shift.ArithLeft)) else
    if (a == 62) && ((b == 62) && (c == 62)) then Some (Fixed (token.Shift shift.ArithRight)) else
    if (a == 61) && ((b == 61) && (c == 61)) then Some OutsidePiece else
    if (a == 33) && ((b == 61) && (c == 61)) then Some OutsidePiece else None
