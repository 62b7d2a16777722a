use Rattle.std.proofs.Common.{sym, ◌∙◌}
use Rattle.verilog_lex.proofs.Words.{keyword_found, outside_found, no_word}
use Rattle.verilog_lex.proofs.word.reserved.Goals as goal

pub returns-in-Some : goal.returns-in-Some
returns-in-Some c = keyword_found c.args.text.now _ c.in-Some.ensures

pub returns-then-is_outside : goal.returns-then-is_outside
returns-then-is_outside c = outside_found c.args.text.now c.in-None.ensures (sym c.is_outside.ensures ∙ c.if-is_outside.true)

pub returns-else-is_outside : goal.returns-else-is_outside
returns-else-is_outside c = sym (no_word c.args.text.now c.in-None.ensures (sym c.is_outside.ensures ∙ c.if-is_outside.false))
