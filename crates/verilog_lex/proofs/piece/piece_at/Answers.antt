use Rattle.std.proofs.Common.{sym, ◌∙◌}
use Rattle.verilog_lex.proofs.Pieces.{blank_found}
use Rattle.verilog_lex.proofs.piece.piece_at.Goals as goal

pub returns-then-is_blank : goal.returns-then-is_blank
returns-then-is_blank c = blank_found c.args.bytes.now c.requires.some c.requires.no_letter (sym c.is_digit.ensures ∙ c.if-is_digit.false) (sym c.is_blank.ensures ∙ c.if-is_blank.true)
