use Rattle.std.proofs.Common.{sym}
use Rattle.verilog_lex.specs.Found.{symbol_view}
use Rattle.verilog_lex.specs.Known.{lexeme_view}
use Rattle.verilog_lex.proofs.Naming.{same_names}
use Rattle.verilog_lex.proofs.Lexing.{word_more}
use Rattle.verilog_lex.proofs.whole.add_symbol.Goals as goal

pub returns : goal.returns
returns c = λ names pieces h. word_more names names c.args.items.now.items c.add.new.items.items pieces c.args.at (symbol_view c.args.symbol) (lexeme_view c.lexeme_of.result) (sym (same_names names c.args.symbol)) (c.lexeme_of.ensures names) c.in_ok-add.ensures h
