use Rattle.std.proofs.Common.{List, ℕ, drop}
use Rattle.verilog_lex.proofs.Literals.{IsNumber, number_unquoted, number_unsized, number_sized, tail_is, rest_is}
use Rattle.verilog_lex.proofs.number.numeral_at.Goals as goal

pub returns-then-quote-ne39 : goal.returns-then-quote-ne39
returns-then-quote-ne39 c =
    let x : IsNumber c.args.bytes.now c.digits_len-len.result c.decimal_value-value.result = record { some = c.requires.some; no_letter = c.requires.no_letter; a_digit = c.requires.a_digit; len = c.digits_len-len.ensures.value; value_is = c.decimal_value-value.ensures } in
    number_unquoted c.args.bytes.now c.digits_len-len.result c.decimal_value-value.result _ x c.decimal_read-decimal.ensures (rw (rest_is c.args.bytes.now c.digits_len-len.result) at c.if-quote-ne39.true)

pub returns-in-Some : goal.returns-in-Some
returns-in-Some c =
    let x : IsNumber c.args.bytes.now c.digits_len-len.result c.decimal_value-value.result = record { some = c.requires.some; no_letter = c.requires.no_letter; a_digit = c.requires.a_digit; len = c.digits_len-len.ensures.value; value_is = c.decimal_value-value.ensures } in
    let rest : List ℕ = drop c.digits_len-len.result c.args.bytes.now in
    number_sized c.args.bytes.now c.digits_len-len.result c.in-Some.more c.decimal_value-value.result _ x (rw (rest_is c.args.bytes.now c.digits_len-len.result) at c.in-len1-up.len_at_least) (rw (rest_is c.args.bytes.now c.digits_len-len.result) at c.if-quote-ne39.false) (rw (rest_is c.args.bytes.now c.digits_len-len.result, tail_is rest) at c.in-Some.ensures)

pub returns-in-None : goal.returns-in-None
returns-in-None c =
    let x : IsNumber c.args.bytes.now c.digits_len-len.result c.decimal_value-value.result = record { some = c.requires.some; no_letter = c.requires.no_letter; a_digit = c.requires.a_digit; len = c.digits_len-len.ensures.value; value_is = c.decimal_value-value.ensures } in
    let rest : List ℕ = drop c.digits_len-len.result c.args.bytes.now in
    number_unsized c.args.bytes.now c.digits_len-len.result c.decimal_value-value.result _ x c.decimal_read-decimal.ensures (rw (rest_is c.args.bytes.now c.digits_len-len.result) at c.in-len1-up.len_at_least) (rw (rest_is c.args.bytes.now c.digits_len-len.result) at c.if-quote-ne39.false) (rw (rest_is c.args.bytes.now c.digits_len-len.result, tail_is rest) at c.in-None.ensures)
