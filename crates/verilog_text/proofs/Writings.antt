-- What follows is only handed on.
use Rattle.std.proofs.Common.{◌≡◌, ℕ, Bool, true, false, Some, None, List, [], ◌∷◌, ◌++◌, refl, ap, ◌∙◌}
use Rattle.std.specs.Prelude.{Option}
use Rattle.verilog_tree.specs.declared.tree.Op.TheVariants.{LessEqual}
use Rattle.verilog_text.specs.declared.token.Decimal.{Decimal}
use Rattle.verilog_text.specs.declared.token.Word.{Word}
use Rattle.verilog_text.specs.declared.token.Mark.{Mark}
use Rattle.verilog_text.specs.declared.token.Mark.TheVariants as mark
use Rattle.verilog_text.specs.declared.token.Word.TheVariants as word
use Rattle.verilog_text.specs.declared.token.Token.{Token}
use Rattle.verilog_text.specs.declared.token.Token.TheVariants as token
use Rattle.verilog_text.specs.Grammar.{Source, Sources, Named, BitOf, PartOf, Number, Based, Bracketed, Joined, Inverted, Operated, Shifted, Chosen, no_member, member, marked, written, written_members}
use Rattle.verilog_text.specs.Statements.{Statement, Statements, Block, Guarded, Forked, Given, none, more, worded, if_text, statement_text, statements_text}
use Rattle.verilog_text.specs.Text.{Shape, FreshPort, Item, Declared, Assigned, Clocked, range_text, if_word, shape_text, direction_word, fresh_text, names_text, store_word, item_text, items_text}

mutual
  pub written_append : (c : Source) (ts rest : List Token) → written c (ts ++ rest) ≡ written c ts ++ rest
  written_append (Named name) ts rest = refl
  written_append (BitOf name place) ts rest = refl
  written_append (PartOf name high low) ts rest = refl
  written_append (Number number) ts rest = refl
  written_append (Based literal) ts rest = refl
  written_append (Bracketed c) ts rest = ap (marked mark.Open) (written_append c (marked mark.Close ts) rest)
  written_append (Joined members) ts rest = members_append mark.OpenBrace members ts rest
  written_append (Inverted c) ts rest = ap (marked mark.Inverse) (written_append c ts rest)
  written_append (Operated op a b) ts rest = ap (λ xs. written a (token.Operator op ∷ xs)) (written_append b ts rest) ∙ written_append a (token.Operator op ∷ written b ts) rest
  written_append (Shifted op a n) ts rest = written_append a (token.Shift op ∷ token.Number n ∷ ts) rest
  written_append (Chosen c a b) ts rest =
      ap (λ xs. written c (marked mark.Question (written a (marked mark.Colon xs)))) (written_append b ts rest)
      ∙ ap (λ xs. written c (marked mark.Question xs)) (written_append a (marked mark.Colon (written b ts)) rest)
      ∙ written_append c (marked mark.Question (written a (marked mark.Colon (written b ts)))) rest

  pub members_append : (m : Mark) (cs : Sources) (ts rest : List Token) → written_members m cs (ts ++ rest) ≡ written_members m cs ts ++ rest
  members_append m no_member ts rest = refl
  members_append m (member c cs) ts rest = ap (λ xs. marked m (written c xs)) (members_append mark.Comma cs ts rest) ∙ ap (marked m) (written_append c (written_members mark.Comma cs ts) rest)

pub written_split : (c : Source) (rest : List Token) → written c rest ≡ written c [] ++ rest
written_split c rest = written_append c [] rest

if_append : (c : Source) (ts rest : List Token) → if_text c (ts ++ rest) ≡ if_text c ts ++ rest
if_append c ts rest = ap (λ xs. worded word.If (marked mark.Open xs)) (written_append c (marked mark.Close ts) rest)

mutual
  pub statement_append : (s : Statement) (ts rest : List Token) → statement_text s (ts ++ rest) ≡ statement_text s ts ++ rest
  statement_append (Block members) ts rest = ap (worded word.Begin) (statements_append members (worded word.End ts) rest)
  statement_append (Guarded c t) ts rest = ap (if_text c) (statement_append t ts rest) ∙ if_append c (statement_text t ts) rest
  statement_append (Forked c t f) ts rest =
      ap (λ xs. if_text c (statement_text t (worded word.Else xs))) (statement_append f ts rest)
      ∙ ap (if_text c) (statement_append t (worded word.Else (statement_text f ts)) rest)
      ∙ if_append c (statement_text t (worded word.Else (statement_text f ts))) rest
  statement_append (Given r v) ts rest = ap (λ xs. token.Name r ∷ token.Operator LessEqual ∷ xs) (written_append v (marked mark.Semicolon ts) rest)

  pub statements_append : (ss : Statements) (ts rest : List Token) → statements_text ss (ts ++ rest) ≡ statements_text ss ts ++ rest
  statements_append none ts rest = refl
  statements_append (more s ss) ts rest = ap (statement_text s) (statements_append ss ts rest) ∙ statement_append s (statements_text ss ts) rest

pub statement_split : (s : Statement) (rest : List Token) → statement_text s rest ≡ statement_text s [] ++ rest
statement_split s rest = statement_append s [] rest

pub statements_split : (ss : Statements) (rest : List Token) → statements_text ss rest ≡ statements_text ss [] ++ rest
statements_split ss rest = statements_append ss [] rest

pub if_split : (c : Source) (rest : List Token) → if_text c rest ≡ if_text c [] ++ rest
if_split c rest = if_append c [] rest

-- ports and items
range_append : (range : Option Decimal) (ts rest : List Token) → range_text range (ts ++ rest) ≡ range_text range ts ++ rest
range_append None ts rest = refl
range_append (Some high) ts rest = refl

word_append : (b : Bool) (w : Word) (ts rest : List Token) → if_word b w (ts ++ rest) ≡ if_word b w ts ++ rest
word_append true w ts rest = refl
word_append false w ts rest = refl

shape_append : (shape : Shape) (ts rest : List Token) → shape_text shape (ts ++ rest) ≡ shape_text shape ts ++ rest
shape_append shape ts rest = ap (if_word shape.signed word.Signed) (range_append shape.range ts rest) ∙ word_append shape.signed word.Signed (range_text shape.range ts) rest

pub fresh_append : (p : FreshPort) (ts rest : List Token) → fresh_text p (ts ++ rest) ≡ fresh_text p ts ++ rest
fresh_append p ts rest = ap (worded (direction_word p.direction)) (ap (if_word p.wire word.Wire) (shape_append p.shape (token.Name p.name ∷ ts) rest) ∙ word_append p.wire word.Wire (shape_text p.shape (token.Name p.name ∷ ts)) rest)

names_append : (ns : List ℕ) (ts rest : List Token) → names_text ns (ts ++ rest) ≡ names_text ns ts ++ rest
names_append [] ts rest = refl
names_append (n ∷ ns) ts rest = ap (λ xs. marked mark.Comma (token.Name n ∷ xs)) (names_append ns ts rest)

item_append : (clock : ℕ) (x : Item) (ts rest : List Token) → item_text clock x (ts ++ rest) ≡ item_text clock x ts ++ rest
item_append clock (Declared store shape first others) ts rest =
    ap (λ xs. worded (store_word store) (shape_text shape (token.Name first ∷ xs))) (names_append others (marked mark.Semicolon ts) rest)
    ∙ ap (worded (store_word store)) (shape_append shape (token.Name first ∷ names_text others (marked mark.Semicolon ts)) rest)
item_append clock (Assigned target value) ts rest = ap (λ xs. worded word.Assign (token.Name target ∷ marked mark.Assigned xs)) (written_append value (marked mark.Semicolon ts) rest)
item_append clock (Clocked body) ts rest = ap (λ xs. worded word.Always (marked mark.At (marked mark.Open (worded word.Posedge (token.Name clock ∷ marked mark.Close xs))))) (statement_append body ts rest)

items_append : (clock : ℕ) (xs : List Item) (ts rest : List Token) → items_text clock xs (ts ++ rest) ≡ items_text clock xs ts ++ rest
items_append clock [] ts rest = refl
items_append clock (x ∷ xs) ts rest = ap (item_text clock x) (items_append clock xs ts rest) ∙ item_append clock x (items_text clock xs ts) rest

pub shape_split : (shape : Shape) (rest : List Token) → shape_text shape rest ≡ shape_text shape [] ++ rest
shape_split shape rest = shape_append shape [] rest

pub fresh_split : (p : FreshPort) (rest : List Token) → fresh_text p rest ≡ fresh_text p [] ++ rest
fresh_split p rest = fresh_append p [] rest

pub item_split : (clock : ℕ) (x : Item) (rest : List Token) → item_text clock x rest ≡ item_text clock x [] ++ rest
item_split clock x rest = item_append clock x [] rest

pub items_split : (clock : ℕ) (xs : List Item) (rest : List Token) → items_text clock xs rest ≡ items_text clock xs [] ++ rest
items_split clock xs rest = items_append clock xs [] rest

pub items_text-append : (clock : ℕ) (xs ys : List Item) (rest : List Token) → items_text clock (xs ++ ys) rest ≡ items_text clock xs (items_text clock ys rest)
items_text-append clock [] ys rest = refl
items_text-append clock (x ∷ xs) ys rest = ap (item_text clock x) (items_text-append clock xs ys rest)
