use Rattle.std.proofs.Common.{◌+◌, ap}
use Rattle.verilog_lex.proofs.Literals.{rest_is}
use Rattle.verilog_lex.proofs.Pieces.{word_found}
use Rattle.verilog_lex.proofs.Ascii.{word_ascii}
use Rattle.verilog_lex.proofs.piece.word_len.Goals as goal

pub returns-clause-word : goal.returns-clause-word
returns-clause-word c = word_found c.args.bytes.now _ c.requires.some c.requires.letter (ap (λ n. 1 + n) (rw (rest_is c.args.bytes.now 1) at c.name_len.ensures.value))

pub returns-clause-ascii : goal.returns-clause-ascii
returns-clause-ascii c = word_ascii c.args.bytes.now _ c.requires.some c.requires.letter (ap (λ n. 1 + n) (rw (rest_is c.args.bytes.now 1) at c.name_len.ensures.value))
