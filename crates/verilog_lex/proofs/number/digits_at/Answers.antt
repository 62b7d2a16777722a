use Rattle.std.proofs.Common.{◌≡◌, ◌+◌, ℕ, Some, sym, subst, arith, drop, ap, ◌∙◌}
use Rattle.std.specs.List.{prefix_len}
use Rattle.verilog_text.specs.Lexer.{is_more_in, digits_piece}
use Rattle.verilog_lex.specs.Best.{IsBest}
use Rattle.verilog_lex.proofs.Literals.{digits_found, digits_missing, tail_is}
use Rattle.verilog_lex.proofs.number.digits_at.Goals as goal

pub returns-then-not-is_digit_in : goal.returns-then-not-is_digit_in
returns-then-not-is_digit_in c = digits_missing c.args.size c.args.signed c.args.base c.args.bytes.now (omega arith) (sym c.is_digit_in.ensures ∙ c.if-not-is_digit_in.true)

pub returns : goal.returns
returns c =
    let n : ℕ = 1 + c.more_len-len.result in
    let run : n ≡ 1 + prefix_len (is_more_in c.args.base) (drop 1 c.args.bytes.now) = ap (λ k. 1 + k) (rw (tail_is c.args.bytes.now) at c.more_len-len.ensures.value) in
    subst (IsBest (digits_piece c.args.size c.args.signed (Some c.args.base)) c.args.bytes.now n) (sym c.literal_read.ensures) (digits_found c.args.size c.args.signed c.args.base c.args.bytes.now n (omega arith) (sym c.is_digit_in.ensures ∙ c.if-not-is_digit_in.false) run)
