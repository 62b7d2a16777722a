-- Whatever the machine has read can be gone on with, to a text of the grammar.
use Rattle.std.proofs.Common.{◌≡◌, ℕ, ◌+◌, ◌-◌, ◌<◌, ◌≤◌, Bool, true, false, List, [], ◌∷◌, ◌++◌, Some, None, Result, Ok, refl, sym, ap, ◌∙◌, subst, arith, inl, inr, append_assoc}
use Rattle.std.specs.Prelude.{nat_le}
use Rattle.std.proofs.lemmas.Bool.{leb-false, and_cases}
use Rattle.verilog_tree.specs.declared.tree.Op.TheVariants.{Add, LessEqual}
use Rattle.verilog_text.specs.declared.token.Decimal.{Decimal}
use Rattle.verilog_text.specs.declared.token.Mark.TheVariants as mark
use Rattle.verilog_text.specs.declared.token.Word.TheVariants as word
use Rattle.verilog_text.specs.declared.token.Token.{Token}
use Rattle.verilog_text.specs.declared.token.Token.TheVariants as token
use Rattle.verilog_text.specs.Grammar.{Source, Sources, Named, BitOf, PartOf, Number, Based, Bracketed, Joined, Inverted, Operated, Shifted, Chosen, no_member, member, marked, written, tree_of, looseness, is_plain, IsGrouped, depth, depths, operators, operators_in, Limits}
use Rattle.verilog_text.specs.Machine.{Frame, levels, at_member}
use Rattle.verilog_text.specs.Machine as inner
use Rattle.verilog_text.specs.Statements.{Statement, Statements, Block, Guarded, Forked, Given, worded, if_text, statement_text, statements_text, IsParted, height, heights, IsShort, openness}
use Rattle.verilog_text.specs.StatementMachine as statement
use Rattle.verilog_text.proofs.Steps.{room, IsFree, Fits}
use Rattle.verilog_text.proofs.Around.{Around, AroundBracket, AroundNot, AroundMembers, AroundRight, AroundYes, AroundNo, Part, Waiting, Ended, Amounting, InSelect, WithHigh, BeforeLow, WithLow, frames, begun, before, spent, IsGood, text_of, IsFine}
use Rattle.verilog_text.proofs.Sound.{room_positive, with_member, depths-with_member, operators-with_member, grouped_with_member, some_with_member, begun_end}
use Rattle.verilog_text.proofs.Writings.{written_split}
use Rattle.verilog_text.proofs.StatementSound as statements

-- the number 0
abbrev pub nought : Decimal
nought = record { value = 0; is_single = true }

-- these tokens, and some that go on with them, are an expression
pub record Completes (limits : Limits) (tokens : List Token → List Token) : Type 0 where
  pub source : Source
  pub grouped : IsGrouped source
  pub in_levels : depth source ≤ limits.levels
  pub in_operators : operators source ≤ limits.operators
  pub more : List Token → List Token
  pub same : (rest : List Token) → tokens (more rest) ≡ written source rest

-- a member that is no number, which begins with this one
record Grows (limits : Limits) (stack : List Frame) (used : ℕ) (c : Source) : Type 0 where
  c' : Source
  fits : Fits limits stack used c'
  no_number : is_plain (tree_of c') ≡ false
  more : List Token → List Token
  same : (rest : List Token) → written c (more rest) ≡ written c' rest

module _ (limits : Limits) where
  by_operator : (stack : List Frame) (used : ℕ) (c : Source) → room stack ≡ 9 → looseness c ≡ 0 → Fits limits stack used c → used + operators c < limits.operators → Grows limits stack used c
  by_operator stack used c wide tight f h = record {
    c' = Operated Add c (Named 0);
    fits = record { grouped = (omega arith, omega arith, f.grouped, tt); in_room = omega arith; in_levels = omega (arith, f.in_levels); in_operators = omega arith; free = tt };
    no_number = refl;
    more = λ rest. token.Operator Add ∷ token.Name 0 ∷ rest;
    same = λ rest. refl;
  }

  by_choice : (stack : List Frame) (used : ℕ) (c : Source) → room stack ≡ 9 → looseness c ≡ 0 → Fits limits stack used c → levels stack < limits.levels → Grows limits stack used c
  by_choice stack used c wide tight f h = record {
    c' = Chosen c (Named 0) (Named 0);
    fits = record { grouped = (omega arith, f.grouped, tt, tt); in_room = omega arith; in_levels = omega (arith, f.in_levels); in_operators = omega (arith, f.in_operators); free = tt };
    no_number = refl;
    more = λ rest. marked mark.Question (token.Name 0 ∷ marked mark.Colon (token.Name 0 ∷ rest));
    same = λ rest. refl;
  }

  itself : (stack : List Frame) (used : ℕ) (c : Source) → is_plain (tree_of c) ≡ false → Fits limits stack used c → Grows limits stack used c
  itself stack used c e f = record { c' = c; fits = f; no_number = e; more = λ rest. rest; same = λ rest. refl }

  grows : (stack : List Frame) (used : ℕ) (c : Source) → at_member stack ≡ true → room stack ≡ 9 → Fits limits stack used c → Grows limits stack used c
  grows stack used (Named name) within wide f = itself stack used (Named name) refl f
  grows stack used (BitOf name place) within wide f = itself stack used (BitOf name place) refl f
  grows stack used (PartOf name high low) within wide f = itself stack used (PartOf name high low) refl f
  grows stack used (Number value) within wide f =
      elim (and_cases (at_member stack) _ f.free) [
        | inl e ↦ absurd (let h : true ≡ false = sym within ∙ e in cc)
        | inr e ↦ elim (and_cases (nat_le limits.levels (levels stack)) _ e) [
          | inl low ↦ by_choice stack used (Number value) wide refl f (leb-false _ _ low)
          | inr low ↦ by_operator stack used (Number value) wide refl f (let h = leb-false _ _ low in omega arith)
        ]
      ]
  grows stack used (Based literal) within wide f = itself stack used (Based literal) refl f
  grows stack used (Bracketed c) within wide f = by_choice stack used (Bracketed c) wide refl f (omega (arith, f.in_levels))
  grows stack used (Joined members) within wide f = itself stack used (Joined members) refl f
  grows stack used (Inverted a) within wide f = itself stack used (Inverted a) refl f
  grows stack used (Operated op a b) within wide f = itself stack used (Operated op a b) refl f
  grows stack used (Shifted op a n) within wide f = itself stack used (Shifted op a n) refl f
  grows stack used (Chosen c a b) within wide f = itself stack used (Chosen c a b) refl f

  -- with tokens more behind
  along : (tokens tokens' : List Token → List Token) (more : List Token → List Token) → ((rest : List Token) → tokens (more rest) ≡ tokens' rest) → Completes limits tokens' → Completes limits tokens
  along tokens tokens' more same x = record { source = x.source; grouped = x.grouped; in_levels = x.in_levels; in_operators = x.in_operators; more = λ rest. more (x.more rest); same = λ rest. same (x.more rest) ∙ x.same rest }

  closes : (stack : List Around) (c : Source) → Fits limits (frames stack) (spent stack) c → IsGood limits stack → Completes limits (λ rest. before stack (written c rest))
  closes [] c f g = record { source = c; grouped = f.grouped; in_levels = omega (arith, f.in_levels); in_operators = omega (arith, f.in_operators); more = λ rest. rest; same = λ rest. refl }
  closes (AroundBracket ∷ below) c f g =
      along _ (λ rest. before below (written (Bracketed c) rest)) (λ rest. marked mark.Close rest) (λ rest. refl)
      (closes below (Bracketed c) (record { grouped = f.grouped; in_room = room_positive (frames below); in_levels = omega (arith, f.in_levels); in_operators = f.in_operators; free = tt }) g)
  closes (AroundNot ∷ below) c f g =
      along _ (λ rest. before below (written (Inverted c) rest)) (λ rest. rest) (λ rest. refl)
      (closes below (Inverted c) (record { grouped = (f.in_room, f.grouped); in_room = room_positive (frames below); in_levels = omega (arith, f.in_levels); in_operators = f.in_operators; free = tt }) g)
  closes (AroundMembers held ∷ below) c f g =
      let x : Grows limits (frames (AroundMembers held ∷ below)) (spent (AroundMembers held ∷ below)) c = grows (frames (AroundMembers held ∷ below)) (spent (AroundMembers held ∷ below)) c refl refl f in
      let all : Sources = with_member held x.c' in
      let few = operators-with_member held x.c' in
      let high = depths-with_member held x.c' (limits.levels - (1 + levels (frames below))) (omega (arith, g.1)) (omega (arith, x.fits.in_levels)) in
      along _ (λ rest. before below (written (Joined all) rest)) (λ rest. x.more (marked mark.CloseBrace rest))
      (λ rest. ap (λ ts. before below (begun mark.OpenBrace held ts)) (x.same (marked mark.CloseBrace rest)) ∙ ap (before below) (begun_end mark.OpenBrace held x.c' rest))
      (closes below (Joined all) (record { grouped = (some_with_member held x.c', grouped_with_member held x.c' g.0 x.no_number x.fits.grouped); in_room = room_positive (frames below); in_levels = omega (arith, high, x.fits.in_levels); in_operators = omega (arith, x.fits.in_operators, few); free = tt }) g.2)
  closes (AroundRight a op ∷ below) c f g =
      along _ (λ rest. before below (written (Operated op a c) rest)) (λ rest. rest) (λ rest. refl)
      (closes below (Operated op a c) (record { grouped = (g.0, f.in_room, g.1, f.grouped); in_room = g.3; in_levels = omega (arith, f.in_levels, g.2); in_operators = omega (arith, f.in_operators); free = tt }) g.4)
  closes (AroundYes a ∷ below) c f g =
      along _ (λ rest. before below (written (Chosen a c (Named 0)) rest)) (λ rest. marked mark.Colon (token.Name 0 ∷ rest)) (λ rest. refl)
      (closes below (Chosen a c (Named 0)) (record { grouped = (g.0, g.1, f.grouped, tt); in_room = g.3; in_levels = omega (arith, f.in_levels, g.2); in_operators = omega (arith, f.in_operators); free = tt }) g.4)
  closes (AroundNo a b ∷ below) c f g =
      along _ (λ rest. before below (written (Chosen a b c) rest)) (λ rest. rest) (λ rest. refl)
      (closes below (Chosen a b c) (record { grouped = (g.0, g.1, g.4, f.grouped); in_room = g.3; in_levels = omega (arith, f.in_levels, g.2, g.5); in_operators = omega (arith, f.in_operators); free = tt }) g.6)

  -- an operand that is one token or a select
  operand : (stack : List Around) (c : Source) → IsGrouped c → looseness c ≡ 0 → depth c ≡ 0 → operators c ≡ 0 → IsFree limits (frames stack) (spent stack) c → levels (frames stack) ≤ limits.levels → spent stack ≤ limits.operators → IsGood limits stack → Completes limits (λ rest. before stack (written c rest))
  operand stack c grouped tight flat none free high few good =
      let positive = room_positive (frames stack) in
      closes stack c (record { grouped = grouped; in_room = omega arith; in_levels = omega arith; in_operators = omega arith; free = free }) good

  -- every state that is fine can be gone on with
  pub expression_completes : (stack : List Around) (part : Part) → IsFine limits stack part → Completes limits (text_of stack part)
  expression_completes stack Waiting fine =
      along _ (λ rest. before stack (written (Named 0) rest)) (λ rest. token.Name 0 ∷ rest) (λ rest. refl)
      (operand stack (Named 0) tt refl refl refl tt fine.0.in_levels fine.0.in_operators fine.1)
  expression_completes stack (Ended c) fine = closes stack c fine.0 fine.1
  expression_completes stack (Amounting op c) fine =
      along _ (λ rest. before stack (written (Shifted op c nought) rest)) (λ rest. token.Number nought ∷ rest) (λ rest. refl)
      (closes stack (Shifted op c nought) (record { grouped = (fine.0.grouped.0, omega arith, fine.0.grouped.2); in_room = fine.0.in_room; in_levels = fine.0.in_levels; in_operators = fine.0.in_operators; free = tt }) fine.1)
  expression_completes stack (InSelect name) fine =
      along _ (λ rest. before stack (written (BitOf name nought) rest)) (λ rest. token.Number nought ∷ marked mark.CloseBracket rest) (λ rest. refl)
      (operand stack (BitOf name nought) tt refl refl refl tt fine.0.in_levels fine.0.in_operators fine.1)
  expression_completes stack (WithHigh name high) fine =
      along _ (λ rest. before stack (written (BitOf name high) rest)) (λ rest. marked mark.CloseBracket rest) (λ rest. refl)
      (operand stack (BitOf name high) tt refl refl refl tt fine.0.in_levels fine.0.in_operators fine.1)
  expression_completes stack (BeforeLow name high) fine =
      along _ (λ rest. before stack (written (PartOf name high nought) rest)) (λ rest. token.Number nought ∷ marked mark.CloseBracket rest) (λ rest. refl)
      (operand stack (PartOf name high nought) tt refl refl refl tt fine.0.in_levels fine.0.in_operators fine.1)
  expression_completes stack (WithLow name high low) fine =
      along _ (λ rest. before stack (written (PartOf name high low) rest)) (λ rest. marked mark.CloseBracket rest) (λ rest. refl)
      (operand stack (PartOf name high low) tt refl refl refl tt fine.0.in_levels fine.0.in_operators fine.1)

  pub inside_completes : (s : inner.State) (tokens : List Token) → statements.Inside limits s tokens → Completes limits (λ rest. tokens ++ rest)
  inside_completes s tokens i =
      along _ (text_of i.stack i.part) (λ rest. rest) i.same (expression_completes i.stack i.part i.fine)

-- these tokens, and some that go on with them, are a statement
pub record StatementCompletes (limits : Limits) (tokens : List Token → List Token) : Type 0 where
  pub body : Statement
  pub parted : IsParted body
  pub in_levels : height body ≤ limits.levels
  pub short : IsShort limits.operators body
  pub more : List Token → List Token
  pub same : (rest : List Token) → tokens (more rest) ≡ statement_text body rest

-- the shortest statement
abbrev pub least : Statement
least = Given 0 (Named 0)

module _ (limits : Limits) where
  goes_along : (tokens tokens' : List Token → List Token) (more : List Token → List Token) → ((rest : List Token) → tokens (more rest) ≡ tokens' rest) → StatementCompletes limits tokens' → StatementCompletes limits tokens
  goes_along tokens tokens' more same x = record { body = x.body; parted = x.parted; in_levels = x.in_levels; short = x.short; more = λ rest. more (x.more rest); same = λ rest. same (x.more rest) ∙ x.same rest }

  statement_closes : (stack : List statements.Around) (s : Statement) → IsParted s → statement.levels (statements.frames stack) + height s ≤ limits.levels → IsShort limits.operators s → statements.IsGood limits stack → StatementCompletes limits (λ rest. statements.before stack (statement_text s rest))
  statement_closes [] s parted low short good = record { body = s; parted = parted; in_levels = omega arith; short = short; more = λ rest. rest; same = λ rest. refl }
  statement_closes (statements.AroundBlock held ∷ below) s parted low short good =
      let all : Statements = statements.with_statement held s in
      let high = statements.height_with (limits.levels - (1 + statement.levels (statements.frames below))) held s (omega (arith, good.1)) (omega arith) in
      goes_along _ (λ rest. statements.before below (statement_text (Block all) rest)) (λ rest. worded word.End rest)
      (λ rest. ap (λ ts. statements.before below (worded word.Begin ts)) (sym (statements.text_with held s (worded word.End rest))))
      (statement_closes below (Block all) (statements.parted_with held s good.0 parted) (omega (arith, high, low)) (statements.short_with limits.operators held s good.2 short) good.3)
  statement_closes (statements.AroundThen c ∷ below) s parted low short good =
      goes_along _ (λ rest. statements.before below (statement_text (Guarded c s) rest)) (λ rest. rest) (λ rest. refl)
      (statement_closes below (Guarded c s) (good.0, parted) (omega (arith, low, good.1)) (good.2, short) good.3)
  statement_closes (statements.AroundElse c t ∷ below) s parted low short good =
      goes_along _ (λ rest. statements.before below (statement_text (Forked c t s) rest)) (λ rest. rest) (λ rest. refl)
      (statement_closes below (Forked c t s) (good.0, good.3, good.4, parted) (omega (arith, low, good.1, good.5)) (good.2, good.6, short) good.7)

  -- a condition that is over
  conditioned : (stack : List statements.Around) (c : Source) → IsGrouped c → 1 + statement.levels (statements.frames stack) + depth c ≤ limits.levels → operators c ≤ limits.operators → statements.IsGood limits stack → StatementCompletes limits (λ rest. statements.before stack (if_text c rest))
  conditioned stack c grouped low few good =
      goes_along _ (λ rest. statements.before (statements.AroundThen c ∷ stack) (statement_text least rest)) (λ rest. statement_text least rest) (λ rest. refl)
      (statement_closes (statements.AroundThen c ∷ stack) least tt (omega arith) (omega arith) (grouped, low, few, good))

  -- every state that is fine can be gone on with
  pub statement_completes : (stack : List statements.Around) (part : statements.Part) → statements.IsFine limits stack part → StatementCompletes limits (statements.text_of stack part)
  statement_completes stack statements.Waits fine =
      goes_along _ (λ rest. statements.before stack (statement_text least rest)) (λ rest. statement_text least rest) (λ rest. refl)
      (statement_closes stack least tt (omega (arith, fine.0)) (omega arith) fine.1)
  statement_completes stack (statements.Ended s) fine = statement_closes stack s fine.0.parted fine.0.in_levels fine.0.short fine.1
  statement_completes stack statements.Asks fine =
      goes_along _ (λ rest. statements.before stack (if_text (Named 0) rest)) (λ rest. marked mark.Open (token.Name 0 ∷ marked mark.Close rest)) (λ rest. refl)
      (conditioned stack (Named 0) tt (omega (arith, fine.0)) (omega arith) fine.1)
  statement_completes stack (statements.InCondition tokens s) fine =
      let x = inside_completes (statement.left_of limits (1 + statement.levels (statements.frames stack))) s tokens fine.2 in
      goes_along _ (λ rest. statements.before stack (if_text x.source rest)) (λ rest. x.more (marked mark.Close rest))
      (λ rest. ap (λ ts. statements.before stack (worded word.If (marked mark.Open ts))) (x.same (marked mark.Close rest)))
      (conditioned stack x.source x.grouped (omega (arith, fine.0, x.in_levels)) x.in_operators fine.1)
  statement_completes stack (statements.Names name) fine =
      goes_along _ (λ rest. statements.before stack (statement_text (Given name (Named 0)) rest)) (λ rest. token.Operator LessEqual ∷ token.Name 0 ∷ marked mark.Semicolon rest) (λ rest. refl)
      (statement_closes stack (Given name (Named 0)) tt (omega (arith, fine.0)) (omega arith) fine.1)
  statement_completes stack (statements.InValue name tokens s) fine =
      let x = inside_completes (statement.left_of limits (statement.levels (statements.frames stack))) s tokens fine.2 in
      goes_along _ (λ rest. statements.before stack (statement_text (Given name x.source) rest)) (λ rest. x.more (marked mark.Semicolon rest))
      (λ rest. ap (λ ts. statements.before stack (token.Name name ∷ token.Operator LessEqual ∷ ts)) (x.same (marked mark.Semicolon rest)))
      (statement_closes stack (Given name x.source) x.grouped (omega (arith, fine.0, x.in_levels)) x.in_operators fine.1)
