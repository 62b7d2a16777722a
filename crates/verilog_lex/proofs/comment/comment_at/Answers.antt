use Rattle.std.proofs.Common.{◌≡◌, ℕ, ◌-◌, List, arith, length, take, drop, length-drop}
use Rattle.std.proofs.lemmas.List.{take_all}
use Rattle.verilog_lex.proofs.Pieces.{line_found, block_found, open_found, slash_found}
use Rattle.verilog_lex.proofs.comment.comment_at.Goals as goal

-- what `[b, after @ ..]` calls `after`
tail_is : (s : List ℕ) → take (length s - 1) (drop 1 s) ≡ drop 1 s
tail_is s = take_all (length s - 1) (drop 1 s) (omega (arith, length-drop 1 s))

pub returns-then-b-eq47 : goal.returns-then-b-eq47
returns-then-b-eq47 c = line_found c.args.rest.now c.line_len.result (omega arith) c.if-b-eq47.true (rw (tail_is c.args.rest.now) at c.line_len.ensures.value)

pub returns-in-Some : goal.returns-in-Some
returns-in-Some c =
    let h = rw (tail_is c.args.rest.now) at c.in-Some.ensures.ended in
    block_found c.args.rest.now c.in-Some.n (omega arith) c.if-b-eq42.true h.0 h.1

pub returns-in-None : goal.returns-in-None
returns-in-None c = open_found c.args.rest.now (omega arith) c.if-b-eq42.true (rw (tail_is c.args.rest.now) at c.in-None.ensures.open)

pub returns : goal.returns
returns c = slash_found c.args.rest.now c.if-b-eq47.false c.if-b-eq42.false
