-- What is written one after the other.
use Rattle.std.proofs.Common.{◌≡◌, ℕ, zero, suc, ◌+◌, ◌<◌, ◌≤◌, length, get_or, drop, arith, add-one, List, [], ◌∷◌, ◌++◌, refl, sym, ap, ◌∙◌, append_assoc}
use Rattle.std.proofs.lemmas.List.{append-nil}
use Rattle.verilog_tree.specs.declared.tree.Stmt.{Stmt}
use Rattle.verilog_tree.specs.Tree as tree
use Rattle.verilog_tree.specs.View.{action_view, actions_view}
use Rattle.verilog_text.specs.declared.token.Word.TheVariants.{Begin, End}
use Rattle.verilog_tree.specs.Tree.{Tree, Trees, Action, Actions}
use Rattle.verilog_text.specs.declared.token.Mark.{Mark}
use Rattle.verilog_text.specs.declared.token.Mark.TheVariants as mark
use Rattle.verilog_text.specs.declared.token.Token.{Token}
use Rattle.verilog_text.specs.declared.token.Token.TheVariants as token
use Rattle.verilog_text.specs.Grammar.{Source, written, written_members}
use Rattle.verilog_text.specs.Statements.{Statement, Statements, if_text, statement_text, statements_text}
use Rattle.verilog_text.specs.Text.{Shape, Item, shape_text, item_text, items_text}
use Rattle.verilog_text.specs.Shortest.{spelling, spellings, statement_of, statements_of}
use Rattle.verilog_text.proofs.Writings.{written_split, if_split, statement_split, statements_split, shape_split, item_split}

pub written_cons : (c : Source) (t : Token) (rest : List Token) → written c (t ∷ rest) ≡ written c [] ++ (t ∷ rest)
written_cons c t rest = written_split c (t ∷ rest)

pub statement_cons : (s : Statement) (t : Token) (rest : List Token) → statement_text s (t ∷ rest) ≡ statement_text s [] ++ (t ∷ rest)
statement_cons s t rest = statement_split s (t ∷ rest)

pub statements_cons : (ss : Statements) (t : Token) (rest : List Token) → statements_text ss (t ∷ rest) ≡ statements_text ss [] ++ (t ∷ rest)
statements_cons ss t rest = statements_split ss (t ∷ rest)

-- a statement behind the condition of an `if`
pub if_statement : (c : Source) (s : Statement) (rest : List Token) → if_text c (statement_text s rest) ≡ if_text c [] ++ statement_text s rest
if_statement c s rest = if_split c (statement_text s rest)

pub shape_cons : (shape : Shape) (t : Token) (rest : List Token) → shape_text shape (t ∷ rest) ≡ shape_text shape [] ++ (t ∷ rest)
shape_cons shape t rest = shape_split shape (t ∷ rest)

pub item_items : (clock : ℕ) (x : Item) (xs : List Item) (rest : List Token) → item_text clock x (items_text clock xs rest) ≡ item_text clock x [] ++ items_text clock xs rest
item_items clock x xs rest = item_split clock x (items_text clock xs rest)

pub ruleset bytes = (append_assoc, append-nil)

pub ruleset writings = (append_assoc, append-nil, written_cons, statement_cons, statements_cons, if_statement, shape_cons, item_items)

-- one more member is written
pub members_step : (before : List Token) (m : Mark) (t : Tree) (left rest : Trees) (all : List Token) → left ≡ tree.more t rest → before ++ written_members m (spellings left) [] ≡ all
    → ((before ++ token.Punctuation m ∷ []) ++ written (spelling t) []) ++ written_members mark.Comma (spellings rest) [] ≡ all
members_step before m t left rest all e h =
    append_assoc (before ++ token.Punctuation m ∷ []) (written (spelling t) []) (written_members mark.Comma (spellings rest) [])
    ∙ append_assoc before (token.Punctuation m ∷ []) _
    ∙ ap (λ ts. before ++ token.Punctuation m ∷ ts) (sym (written_split (spelling t) (written_members mark.Comma (spellings rest) [])))
    ∙ ap (λ ts. before ++ written_members m (spellings ts) []) (sym e)
    ∙ h

-- no member is left
pub members_done : (before : List Token) (m : Mark) (left : Trees) (all : List Token) → left ≡ tree.none → before ++ written_members m (spellings left) [] ≡ all → before ++ token.Punctuation mark.CloseBrace ∷ [] ≡ all
members_done before m left all e h = ap (λ ts. before ++ written_members m (spellings ts) []) (sym e) ∙ h

-- one more statement is written
pub statements_step : (before : List Token) (a : Action) (left rest : Actions) (all : List Token) → left ≡ tree.action a rest → before ++ statements_text (statements_of left) [] ≡ all
    → (before ++ statement_text (statement_of a) []) ++ statements_text (statements_of rest) [] ≡ all
statements_step before a left rest all e h =
    append_assoc before (statement_text (statement_of a) []) (statements_text (statements_of rest) [])
    ∙ ap (λ ts. before ++ ts) (sym (statement_split (statement_of a) (statements_text (statements_of rest) [])))
    ∙ ap (λ xs. before ++ statements_text (statements_of xs) []) (sym e)
    ∙ h

-- no statement is left
pub statements_done : (before : List Token) (left : Actions) (all : List Token) → left ≡ tree.no_action → before ++ statements_text (statements_of left) [] ≡ all → before ≡ all
statements_done before left all e h = sym (append-nil before) ∙ ap (λ xs. before ++ statements_text (statements_of xs) []) (sym e) ∙ h

-- a block is written
pub block_step : (before first second : List Token) (xs : Actions) (a : Action) → first ≡ before ++ token.Keyword Begin ∷ [] → second ≡ first ++ statements_text (statements_of xs) [] → a ≡ tree.Block xs
    → second ++ token.Keyword End ∷ [] ≡ before ++ statement_text (statement_of a) []
block_step before first second xs a e h b =
    ap (λ ts. ts ++ token.Keyword End ∷ []) (h ∙ ap (λ ts. ts ++ statements_text (statements_of xs) []) e)
    ∙ append_assoc (before ++ token.Keyword Begin ∷ []) (statements_text (statements_of xs) []) (token.Keyword End ∷ [])
    ∙ append_assoc before (token.Keyword Begin ∷ []) _
    ∙ ap (λ ts. before ++ token.Keyword Begin ∷ ts) (sym (statements_split (statements_of xs) (token.Keyword End ∷ [])))
    ∙ ap (λ x. before ++ statement_text (statement_of x) []) (sym b)

statements_left_suc : (ss : List Stmt) (k : ℕ) (s : Stmt) → k < length ss → s ≡ get_or ss k s → actions_view (drop k ss) ≡ tree.action (action_view s) (actions_view (drop (suc k) ss))
statements_left_suc [] k s lt is = absurd (omega arith)
statements_left_suc (x ∷ ss) zero s lt is = ap (λ (y : Stmt). tree.action (action_view y) (actions_view ss)) (sym is)
statements_left_suc (x ∷ ss) (suc k) s lt is = statements_left_suc ss k s (omega arith) is

-- the next statement, and those behind it
pub statements_left : (ss : List Stmt) (k : ℕ) (s : Stmt) → k < length ss → s ≡ get_or ss k s → actions_view (drop k ss) ≡ tree.action (action_view s) (actions_view (drop (k + 1) ss))
statements_left ss k s lt is = rw add-one (statements_left_suc ss k s lt is)

left_suc : {X : Type 0} (xs : List X) (k : ℕ) (x : X) → k < length xs → x ≡ get_or xs k x → drop k xs ≡ x ∷ drop (suc k) xs
left_suc [] k x lt is = absurd (omega arith)
left_suc (y ∷ xs) zero x lt is = ap (λ z. z ∷ xs) (sym is)
left_suc (y ∷ xs) (suc k) x lt is = left_suc xs k x (omega arith) is

-- the next element, and those behind it
pub left : {X : Type 0} (xs : List X) (k : ℕ) (x : X) → k < length xs → x ≡ get_or xs k x → drop k xs ≡ x ∷ drop (k + 1) xs
left xs k x lt is = rw add-one (left_suc xs k x lt is)

-- none is left
pub left_none : {X : Type 0} (xs : List X) (k : ℕ) → length xs ≤ k → drop k xs ≡ []
left_none [] zero h = refl
left_none [] (suc k) h = refl
left_none (x ∷ xs) zero h = absurd (omega arith)
left_none (x ∷ xs) (suc k) h = left_none xs k (omega arith)

-- one more item is written
pub items_step : (clock : ℕ) (before : List Token) (x : Item) (now next : List Item) (all : List Token) → now ≡ x ∷ next → before ++ items_text clock now [] ≡ all
    → (before ++ item_text clock x []) ++ items_text clock next [] ≡ all
items_step clock before x now next all e h =
    append_assoc before (item_text clock x []) (items_text clock next [])
    ∙ ap (λ ts. before ++ ts) (sym (item_split clock x (items_text clock next [])))
    ∙ ap (λ xs. before ++ items_text clock xs []) (sym e)
    ∙ h
