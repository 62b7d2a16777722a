use Rattle.std.proofs.Common.{◌≡◌, ◌+◌, length}
use Rattle.verilog_text.specs.Lexer.{is_open}
use Rattle.verilog_lex.specs.Found.{body_len}
use Rattle.verilog_lex.proofs.comment.body_len.Given as goal

abbrev pub invariant-loop-left : goal.invariant-loop-left
invariant-loop-left l = (is_open l.left ≡ is_open l.rest) × (l.len + body_len l.left ≡ body_len l.rest) × (l.len + length l.left ≡ length l.rest)

abbrev pub decreases-loop-left : goal.decreases-loop-left
decreases-loop-left l = length l.left
