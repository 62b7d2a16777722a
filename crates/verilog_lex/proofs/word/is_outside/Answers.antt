use Rattle.verilog_lex.proofs.word.is_outside.Goals as goal

pub returns : goal.returns
returns c = c.is_among.ensures
