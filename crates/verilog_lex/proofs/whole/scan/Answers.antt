use Rattle.std.proofs.Common.{List, ℕ, take, drop}
use Rattle.verilog_text.specs.Lexer.{word_piece}
use Rattle.verilog_lex.specs.Found.{symbol_view}
use Rattle.verilog_lex.proofs.Literals.{rest_is}
use Rattle.verilog_lex.proofs.Naming.{symbol_no_gap}
use Rattle.verilog_lex.proofs.Plain.{word_no_gap}
use Rattle.verilog_lex.proofs.Lexing.{past_gap, past_piece, past_all}
use Rattle.verilog_lex.proofs.whole.scan.Goals as goal

pub returns-then-is_letter-clause-read : goal.returns-then-is_letter-clause-read
returns-then-is_letter-clause-read c =
    let rest : List ℕ = drop c.args.at c.args.bytes.now in
    let word : List ℕ = take c.word_len-len.result rest in
    past_piece c.args.bytes.now c.args.at c.word_len-len.result (word_piece word) c.args.names.now.names.items c.add_word.new.names.names.items c.args.items.now.items c.add_word.new.items.items c.requires.read (word_no_gap word)
    (rw (rest_is c.args.bytes.now c.args.at) at c.word_len-len.ensures.word)
    (rw (rest_is c.args.bytes.now c.args.at) at c.in_ok-add_word.ensures.more)

pub returns-in-Some-default-Gap-clause-read : goal.returns-in-Some-default-Gap-clause-read
returns-in-Some-default-Gap-clause-read c = past_gap c.args.bytes.now c.args.at c.in-Some-default-Gap.len c.args.names.now.names.items c.args.items.now.items c.requires.read (rw (c.in-Some-default-Gap.field-0-1-is, rest_is c.args.bytes.now c.args.at) at c.in-Some-default-Gap.ensures)

pub returns-in_ok-add_symbol-in-Some-default-Piece-clause-read : goal.returns-in_ok-add_symbol-in-Some-default-Piece-clause-read
returns-in_ok-add_symbol-in-Some-default-Piece-clause-read c =
    past_piece c.args.bytes.now c.args.at c.in-Some-default-Piece.len (symbol_view c.in-Some-default-Piece.symbol) c.args.names.now.names.items c.args.names.now.names.items c.args.items.now.items c.add_symbol.new.items.items c.requires.read (symbol_no_gap c.in-Some-default-Piece.symbol)
    (rw (c.in-Some-default-Piece.field-0-1-is, rest_is c.args.bytes.now c.args.at) at c.in-Some-default-Piece.ensures)
    (c.in_ok-add_symbol-in-Some-default-Piece.ensures c.args.names.now.names.items)

pub returns-in_ok-add_symbol-in-None-clause-read : goal.returns-in_ok-add_symbol-in-None-clause-read
returns-in_ok-add_symbol-in-None-clause-read c =
    past_all c.args.bytes.now c.args.at c.args.names.now.names.items c.args.items.now.items c.add_symbol-in-None.new.items.items c.requires.within c.requires.read
    (rw (rest_is c.args.bytes.now c.args.at) at c.in-None.ensures)
    (c.in_ok-add_symbol-in-None.ensures c.args.names.now.names.items)
