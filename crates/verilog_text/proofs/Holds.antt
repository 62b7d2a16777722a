-- What holds of each name among the tokens of a text holds of each name in what the text stands for.
use Rattle.std.proofs.Common.{ℕ, Bool, true, false, List, [], ◌∷◌, ◌++◌}
use Rattle.std.specs.Prelude.{map, Option, Some, None}
use Rattle.verilog_tree.specs.declared.tree.Kind.{Kind}
use Rattle.verilog_tree.specs.declared.tree.Signal.{Signal}
use Rattle.verilog_tree.specs.Tree as tree
use Rattle.verilog_tree.specs.Tree.{Tree, Trees, Action, Actions, Assignment}
use Rattle.verilog_text.specs.declared.token.Decimal.{Decimal}
use Rattle.verilog_text.specs.declared.token.Mark.{Mark}
use Rattle.verilog_text.specs.declared.token.Mark.TheVariants as mark
use Rattle.verilog_text.specs.declared.token.Word.{Word}
use Rattle.verilog_text.specs.declared.token.Token.{Token}
use Rattle.verilog_text.specs.Grammar.{Source, Sources, Named, BitOf, PartOf, Number, Based, Bracketed, Joined, Inverted, Operated, Shifted, Chosen, no_member, member, written, written_members, tree_of, trees_of}
use Rattle.verilog_text.specs.Statements.{Statement, Statements, Block, Guarded, Forked, Given, none, more, statement_text, statements_text, action_of, actions_of}
use Rattle.verilog_text.specs.Text.{Text, Shape, FreshPort, Port, Fresh, Same, Item, Declared, Assigned, Clocked, range_text, if_word, shape_text, fresh_text, ports_text, names_text, items_text, tokens_of, store_kind, signal_of, port_signals, items_signals, signals_of, assigns_of, blocks_of}
use Rattle.verilog_text.specs.Shortest.{AllFormed}
use Rattle.verilog_text.proofs.Numbering.{OfNames}

-- the fact holds of each name in these
abbrev mutual
  pub OfTree : (ℕ → Type 0) → Tree → Type 0
  OfTree P (tree.Name n) = P n
  OfTree P (tree.Bit n place) = P n
  OfTree P (tree.Part n high low) = P n
  OfTree P (tree.Plain value) = Unit {0}
  OfTree P (tree.Based width signed bits) = Unit {0}
  OfTree P (tree.Cat members) = OfTrees P members
  OfTree P (tree.Not a) = OfTree P a
  OfTree P (tree.Binary op a b) = OfTree P a × OfTree P b
  OfTree P (tree.Shift op a n) = OfTree P a
  OfTree P (tree.Choice c a b) = OfTree P c × OfTree P a × OfTree P b

  pub OfTrees : (ℕ → Type 0) → Trees → Type 0
  OfTrees P tree.none = Unit {0}
  OfTrees P (tree.more t ts) = OfTree P t × OfTrees P ts

abbrev mutual
  pub OfAction : (ℕ → Type 0) → Action → Type 0
  OfAction P (tree.Block members) = OfActions P members
  OfAction P (tree.When c t) = OfTree P c × OfAction P t
  OfAction P (tree.Either c t f) = OfTree P c × OfAction P t × OfAction P f
  OfAction P (tree.Give r v) = P r × OfTree P v

  pub OfActions : (ℕ → Type 0) → Actions → Type 0
  OfActions P tree.no_action = Unit {0}
  OfActions P (tree.action a rest) = OfAction P a × OfActions P rest

abbrev pub OfAssignment : (ℕ → Type 0) → Assignment → Type 0
OfAssignment P a = P a.target × OfTree P a.value

abbrev pub OfSignal : (ℕ → Type 0) → Signal → Type 0
OfSignal P s = P s.name

join_formed : {A : Type 0} (P : A → Type 0) (xs ys : List A) → AllFormed P xs → AllFormed P ys → AllFormed P (xs ++ ys)
join_formed P [] ys a b = b
join_formed P (x ∷ xs) ys a b = (a.0, join_formed P xs ys a.1 b)

module _ (P : ℕ → Type 0) where
  abbrev Each : List Token → Type 0
  Each ts = OfNames P ts

  mutual
    of_source : (c : Source) (rest : List Token) → Each (written c rest) → OfTree P (tree_of c) × Each rest
    of_source (Named n) rest h = h
    of_source (BitOf n place) rest h = (h.0, h.1.1.1.1)
    of_source (PartOf n high low) rest h = (h.0, h.1.1.1.1.1.1)
    of_source (Number number) rest h = h
    of_source (Based literal) rest h = h
    of_source (Bracketed c) rest h = let x = of_source c _ h.1 in (x.0, x.1.1)
    of_source (Joined members) rest h = of_members mark.OpenBrace members rest h
    of_source (Inverted c) rest h = of_source c rest h.1
    of_source (Operated op a b) rest h = let x = of_source a _ h in let y = of_source b rest x.1.1 in ((x.0, y.0), y.1)
    of_source (Shifted op a n) rest h = let x = of_source a _ h in (x.0, x.1.1.1)
    of_source (Chosen c a b) rest h = let x = of_source c _ h in let y = of_source a _ x.1.1 in let z = of_source b rest y.1.1 in ((x.0, y.0, z.0), z.1)

    of_members : (m : Mark) (cs : Sources) (rest : List Token) → Each (written_members m cs rest) → OfTrees P (trees_of cs) × Each rest
    of_members m no_member rest h = h
    of_members m (member c cs) rest h = let x = of_source c _ h.1 in let y = of_members mark.Comma cs rest x.1 in ((x.0, y.0), y.1)

  mutual
    of_statement : (s : Statement) (rest : List Token) → Each (statement_text s rest) → OfAction P (action_of s) × Each rest
    of_statement (Block members) rest h = let x = of_statements members _ h.1 in (x.0, x.1.1)
    of_statement (Guarded c t) rest h = let x = of_source c _ h.1.1 in let y = of_statement t rest x.1.1 in ((x.0, y.0), y.1)
    of_statement (Forked c t f) rest h = let x = of_source c _ h.1.1 in let y = of_statement t _ x.1.1 in let z = of_statement f rest y.1.1 in ((x.0, y.0, z.0), z.1)
    of_statement (Given r v) rest h = let x = of_source v _ h.1.1 in ((h.0, x.0), x.1.1)

    of_statements : (ss : Statements) (rest : List Token) → Each (statements_text ss rest) → OfActions P (actions_of ss) × Each rest
    of_statements none rest h = (tt, h)
    of_statements (more s ss) rest h = let x = of_statement s _ h in let y = of_statements ss rest x.1 in ((x.0, y.0), y.1)

  behind_word : (b : Bool) (w : Word) (rest : List Token) → Each (if_word b w rest) → Each rest
  behind_word true w rest h = h.1
  behind_word false w rest h = h

  behind_range : (range : Option Decimal) (rest : List Token) → Each (range_text range rest) → Each rest
  behind_range None rest h = h
  behind_range (Some high) rest h = h.1.1.1.1.1

  behind_shape : (shape : Shape) (rest : List Token) → Each (shape_text shape rest) → Each rest
  behind_shape shape rest h = behind_range shape.range rest (behind_word shape.signed _ _ h)

  of_fresh : (p : FreshPort) (rest : List Token) → Each (fresh_text p rest) → P p.name × Each rest
  of_fresh p rest h = behind_shape p.shape _ (behind_word p.wire _ _ h.1)

  of_ports : (before : FreshPort) (ps : List Port) (rest : List Token) → Each (ports_text ps rest) → AllFormed (OfSignal P) (port_signals before ps) × Each rest
  of_ports before [] rest h = (tt, h)
  of_ports before (Fresh p ∷ ps) rest h = let x = of_fresh p _ h.1 in let y = of_ports p ps rest x.1 in ((x.0, y.0), y.1)
  of_ports before (Same n ∷ ps) rest h = let y = of_ports before ps rest h.1.1 in ((h.1.0, y.0), y.1)

  of_names : (k : Kind) (shape : Shape) (ns : List ℕ) (rest : List Token) → Each (names_text ns rest) → AllFormed (OfSignal P) (map (signal_of k shape) ns) × Each rest
  of_names k shape [] rest h = (tt, h)
  of_names k shape (n ∷ ns) rest h = let y = of_names k shape ns rest h.1.1 in ((h.1.0, y.0), y.1)

  -- in the items
  record OfItems (xs : List Item) (rest : List Token) : Type 0 where
    signals : AllFormed (OfSignal P) (items_signals xs)
    assigns : AllFormed (OfAssignment P) (assigns_of xs)
    blocks : AllFormed (OfAction P) (blocks_of xs)
    others : Each rest

  of_items : (clock : ℕ) (xs : List Item) (rest : List Token) → Each (items_text clock xs rest) → OfItems xs rest
  of_items clock [] rest h = record { signals = tt; assigns = tt; blocks = tt; others = h }
  of_items clock (Declared store shape first others ∷ xs) rest h =
      let first_of = behind_shape shape _ h.1 in
      let names = of_names (store_kind store) shape others _ first_of.1 in
      let y = of_items clock xs rest names.1.1 in
      record {
        signals = join_formed (OfSignal P) (map (signal_of (store_kind store) shape) (first ∷ others)) (items_signals xs) (first_of.0, names.0) y.signals;
        assigns = y.assigns;
        blocks = y.blocks;
        others = y.others;
      }
  of_items clock (Assigned target value ∷ xs) rest h =
      let x = of_source value _ h.1.1.1 in
      let y = of_items clock xs rest x.1.1 in
      record { signals = y.signals; assigns = ((h.1.0, x.0), y.assigns); blocks = y.blocks; others = y.others }
  of_items clock (Clocked body ∷ xs) rest h =
      let x = of_statement body _ h.1.1.1.1.1.1 in
      let y = of_items clock xs rest x.1 in
      record { signals = y.signals; assigns = y.assigns; blocks = (x.0, y.blocks); others = y.others }

  -- in the text
  pub record OfText (t : Text) : Type 0 where
    pub name : P t.name
    pub signals : AllFormed (OfSignal P) (signals_of t)
    pub assigns : AllFormed (OfAssignment P) (assigns_of t.items)
    pub blocks : AllFormed (OfAction P) (blocks_of t.items)

  pub of_text : (clock : ℕ) (t : Text) → Each (tokens_of clock t) → OfText t
  of_text clock t h =
      let first = of_fresh t.port _ h.1.1.1 in
      let ports = of_ports t.port t.ports _ first.1 in
      let items = of_items clock t.items _ ports.1.1.1 in
      record { name = h.1.0; signals = (first.0, join_formed (OfSignal P) (port_signals t.port t.ports) (items_signals t.items) ports.0 items.signals); assigns = items.assigns; blocks = items.blocks }
