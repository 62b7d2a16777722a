use Rattle.verilog_text.specs.Lexer.{word_piece}
use Rattle.verilog_lex.specs.Known.{lexeme_view}
use Rattle.verilog_lex.proofs.Lexing.{word_more}
use Rattle.verilog_lex.proofs.whole.add_word.Goals as goal

pub returns-clause-more : goal.returns-clause-more
returns-clause-more c = λ pieces h. word_more c.args.names.now.names.items c.lexeme_of.new.self.names.items c.args.items.now.items c.add.new.items.items pieces c.args.at (word_piece c.args.word.now) (lexeme_view c.in_ok-lexeme.lexeme) c.in_ok-lexeme.ensures.names c.in_ok-lexeme.ensures.lexeme c.in_ok-add.ensures h
