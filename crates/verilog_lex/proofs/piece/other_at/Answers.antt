use Rattle.verilog_lex.proofs.Marks.{mark_found, no_mark}
use Rattle.verilog_lex.proofs.piece.other_at.Goals as goal

pub returns-in-Some : goal.returns-in-Some
returns-in-Some c = mark_found c.args.bytes.now c.in-Some.len _ c.requires.some (record { no_letter = c.requires.no_letter; no_digit = c.requires.no_digit; no_blank = c.requires.no_blank; no_slash = c.requires.no_slash }) c.in-Some.ensures

pub returns-in-None : goal.returns-in-None
returns-in-None c = no_mark c.args.bytes.now c.requires.some (record { no_letter = c.requires.no_letter; no_digit = c.requires.no_digit; no_blank = c.requires.no_blank; no_slash = c.requires.no_slash }) c.in-None.ensures
