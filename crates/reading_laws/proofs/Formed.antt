-- The parts of a text whose tokens are known are formed, and within the limits.
use Rattle.std.proofs.Common.{◌≡◌, ℕ, ◌<◌, ◌≤◌, ◌^◌, Bool, true, false, List, [], ◌∷◌, ◌++◌, map, Option, Some, None, refl, arith}
use Rattle.verilog_tree.specs.declared.tree.Kind.{Kind}
use Rattle.verilog_text.specs.declared.token.Mark.{Mark}
use Rattle.verilog_text.specs.declared.token.Mark.TheVariants as mark
use Rattle.verilog_text.specs.declared.token.Word.{Word}
use Rattle.verilog_text.specs.declared.token.Word.TheVariants as word
use Rattle.verilog_text.specs.declared.token.Decimal.{Decimal}
use Rattle.verilog_text.specs.declared.token.Token.{Token}
use Rattle.verilog_text.specs.declared.token.Token.TheVariants as token
use Rattle.verilog_text.specs.Grammar.{Source, Sources, Named, BitOf, PartOf, Number, Based, Bracketed, Joined, Inverted, Operated, Shifted, Chosen, no_member, member, written, written_members, marked, tree_of, trees_of, IsGrouped, HasMember, AreGrouped, Limits}
use Rattle.verilog_text.specs.Statements.{Statement, Statements, Block, Guarded, Forked, Given, none, more, statement_text, statements_text, worded, if_text, action_of, actions_of, IsParted, AreParted}
use Rattle.verilog_text.specs.Text.{Text, tokens_of, signals_of, Shape, FreshPort, Port, Fresh, Same, Item, Declared, Assigned, Clocked, range_text, if_word, shape_text, fresh_text, ports_text, names_text, item_text, items_text, IsItem, AreItems, direction_kind, store_kind, width_of, is_ranged, signal_of, port_signals, item_signals, items_signals, item_assigns, assigns_of, item_blocks, blocks_of}
use Rattle.verilog_text.specs.Shortest.{HasMembers, IsFormed, AreFormed, IsFormedAction, AreFormedActions, IsFormedAssignment, IsFormedBlock, IsFormedSignal, AllFormed}
use Rattle.reading_laws.proofs.Known.{AreKnown}
use Rattle.reading_laws.proofs.Fewest.{fewest_levels, same_operators, fewest_heights, same_short}

all_both : {A : Type 0} (P : A → Type 0) (xs ys : List A) → AllFormed P xs → AllFormed P ys → AllFormed P (xs ++ ys)
all_both P [] ys f g = g
all_both P (x ∷ xs) ys f g = (f.0, all_both P xs ys f.1 g)

some_members : (cs : Sources) → HasMember cs → HasMembers (trees_of cs)
some_members no_member h = absurd h
some_members (member first members) h = tt

module _ (count : ℕ) where
  -- ---- expressions

  mutual
    formed : (c : Source) (rest : List Token) → IsGrouped c → AreKnown count (written c rest) → IsFormed count (tree_of c) × AreKnown count rest
    formed (Named name) rest g known = (known.0, known.1)
    formed (BitOf name place) rest g known = ((known.0, known.1.1.0), known.1.1.1.1)
    formed (PartOf name high low) rest g known = ((known.0, known.1.1.0, known.1.1.1.1.0), known.1.1.1.1.1.1)
    formed (Number number) rest g known = (known.0, known.1)
    formed (Based literal) rest g known = (known.0, known.1)
    formed (Bracketed inner) rest g known = let i = formed inner (marked mark.Close rest) g known.1 in (i.0, i.1.1)
    formed (Joined members) rest g known = let m = all_formed mark.OpenBrace members rest g.1 known in ((some_members members g.0, m.0), m.1)
    formed (Inverted operand) rest g known = formed operand rest g.1 known.1
    formed (Operated op left right) rest g known =
        let l = formed left (token.Operator op ∷ written right rest) g.2 known in
        let r = formed right rest g.3 l.1.1 in
        ((l.0, r.0), r.1)
    formed (Shifted op operand amount) rest g known =
        let o = formed operand (token.Shift op ∷ token.Number amount ∷ rest) g.2 known in
        ((g.1, o.0), o.1.1.1)
    formed (Chosen condition on_true on_false) rest g known =
        let c = formed condition (marked mark.Question (written on_true (marked mark.Colon (written on_false rest)))) g.1 known in
        let t = formed on_true (marked mark.Colon (written on_false rest)) g.2 c.1.1 in
        let f = formed on_false rest g.3 t.1.1 in
        ((c.0, t.0, f.0), f.1)

    all_formed : (m : Mark) (cs : Sources) (rest : List Token) → AreGrouped cs → AreKnown count (written_members m cs rest) → AreFormed count (trees_of cs) × AreKnown count rest
    all_formed m no_member rest g known = (tt, known.1)
    all_formed m (member first members) rest g known =
        let f = formed first (written_members mark.Comma members rest) g.1 known.1 in
        let o = all_formed mark.Comma members rest g.2 f.1 in
        ((g.0, f.0, o.0), o.1)

  -- ---- statements

  formed_if : (c : Source) (rest : List Token) → IsGrouped c → AreKnown count (if_text c rest) → IsFormed count (tree_of c) × AreKnown count rest
  formed_if c rest g known = let f = formed c (marked mark.Close rest) g known.1.1 in (f.0, f.1.1)

  mutual
    formed_statement : (s : Statement) (rest : List Token) → IsParted s → AreKnown count (statement_text s rest) → IsFormedAction count (action_of s) × AreKnown count rest
    formed_statement (Block members) rest p known = let m = formed_statements members (worded word.End rest) p known.1 in (m.0, m.1.1)
    formed_statement (Guarded condition on_true) rest p known =
        let c = formed_if condition (statement_text on_true rest) p.0 known in
        let t = formed_statement on_true rest p.1 c.1 in
        ((c.0, t.0), t.1)
    formed_statement (Forked condition on_true on_false) rest p known =
        let c = formed_if condition (statement_text on_true (worded word.Else (statement_text on_false rest))) p.0 known in
        let t = formed_statement on_true (worded word.Else (statement_text on_false rest)) p.2 c.1 in
        let f = formed_statement on_false rest p.3 t.1.1 in
        ((c.0, t.0, f.0), f.1)
    formed_statement (Given register value) rest p known =
        let v = formed value (marked mark.Semicolon rest) p known.1.1 in
        ((known.0, v.0), v.1.1)

    formed_statements : (ss : Statements) (rest : List Token) → AreParted ss → AreKnown count (statements_text ss rest) → AreFormedActions count (actions_of ss) × AreKnown count rest
    formed_statements none rest p known = (tt, known)
    formed_statements (more first others) rest p known =
        let f = formed_statement first (statements_text others rest) p.0 known in
        let o = formed_statements others rest p.1 f.1 in
        ((f.0, o.0), o.1)

  -- ---- declarations

  -- the highest place of a range is small
  abbrev IsSmallRange : Option Decimal → Type 0
  IsSmallRange None = Unit {0}
  IsSmallRange (Some high) = high.value < 2 ^ 31

  known_range : (r : Option Decimal) (rest : List Token) → AreKnown count (range_text r rest) → IsSmallRange r × AreKnown count rest
  known_range None rest known = (tt, known)
  known_range (Some high) rest known = (known.1.0, known.1.1.1.1.1)

  known_word : (b : Bool) (w : Word) (rest : List Token) → AreKnown count (if_word b w rest) → AreKnown count rest
  known_word true w rest known = known.1
  known_word false w rest known = known

  known_shape : (shape : Shape) (rest : List Token) → AreKnown count (shape_text shape rest) → IsSmallRange shape.range × AreKnown count rest
  known_shape shape rest known = known_range shape.range rest (known_word shape.signed word.Signed (range_text shape.range rest) known)

  formed_signal : (k : Kind) (shape : Shape) (name : ℕ) → IsSmallRange shape.range → name < count → IsFormedSignal count (signal_of k shape name)
  formed_signal k shape name small low = by shape.range small
    where
      by : (r : Option Decimal) → IsSmallRange r → (name < count) × (1 ≤ width_of r) × (width_of r ≤ 2 ^ 31) × (is_ranged r ≡ false → width_of r ≡ 1)
      by None s = (low, omega arith, omega arith, (λ e. refl))
      by (Some high) s = (low, omega arith, omega (arith, s), (λ e. absurd (cc)))

  known_fresh : (p : FreshPort) (rest : List Token) → AreKnown count (fresh_text p rest) → IsSmallRange p.shape.range × (p.name < count) × AreKnown count rest
  known_fresh p rest known =
      let s = known_shape p.shape (token.Name p.name ∷ rest) (known_word p.wire word.Wire (shape_text p.shape (token.Name p.name ∷ rest)) known.1) in
      (s.0, s.1.0, s.1.1)

  formed_ports : (before : FreshPort) (ports : List Port) (rest : List Token) → IsSmallRange before.shape.range → AreKnown count (ports_text ports rest) → AllFormed (IsFormedSignal count) (port_signals before ports) × AreKnown count rest
  formed_ports before [] rest small known = (tt, known)
  formed_ports before (Fresh p ∷ ports) rest small known =
      let f = known_fresh p (ports_text ports rest) known.1 in
      let o = formed_ports p ports rest f.0 f.2 in
      ((formed_signal (direction_kind p.direction) p.shape p.name f.0 f.1, o.0), o.1)
  formed_ports before (Same name ∷ ports) rest small known =
      let o = formed_ports before ports rest small known.1.1 in
      ((formed_signal (direction_kind before.direction) before.shape name small known.1.0, o.0), o.1)

  formed_names : (k : Kind) (shape : Shape) (names : List ℕ) (rest : List Token) → IsSmallRange shape.range → AreKnown count (names_text names rest) → AllFormed (IsFormedSignal count) (map (signal_of k shape) names) × AreKnown count rest
  formed_names k shape [] rest small known = (tt, known)
  formed_names k shape (name ∷ names) rest small known =
      let o = formed_names k shape names rest small known.1.1 in
      ((formed_signal k shape name small known.1.0, o.0), o.1)

  -- ---- items

  module _ (limits : Limits) (clock : ℕ) where
    record HasFormed (x : Item) : Type 0 where
      signals : AllFormed (IsFormedSignal count) (item_signals x)
      assigns : AllFormed (IsFormedAssignment limits count) (item_assigns x)
      blocks : AllFormed (IsFormedBlock limits count) (item_blocks x)

    formed_item : (x : Item) (rest : List Token) → IsItem limits x → AreKnown count (item_text clock x rest) → HasFormed x × AreKnown count rest
    formed_item (Declared store shape first others) rest is known =
        let s = known_shape shape (token.Name first ∷ names_text others (marked mark.Semicolon rest)) known.1 in
        let o = formed_names (store_kind store) shape others (marked mark.Semicolon rest) s.0 s.1.1 in
        (record { signals = (formed_signal (store_kind store) shape first s.0 s.1.0, o.0); assigns = tt; blocks = tt }, o.1.1)
    formed_item (Assigned target value) rest is known =
        let v = formed value (marked mark.Semicolon rest) is.0 known.1.1.1 in
        let levels = fewest_levels value is.0 in
        let same = same_operators value in
        (record { signals = tt; assigns = ((known.1.0, v.0, omega (arith, levels, is.1), omega (arith, same, is.2)), tt); blocks = tt }, v.1.1)
    formed_item (Clocked body) rest is known =
        let b = formed_statement body rest is.0 known.1.1.1.1.1.1 in
        let levels = fewest_heights body is.0 in
        (record { signals = tt; assigns = tt; blocks = ((b.0, omega (arith, levels, is.1), same_short limits.operators body is.2), tt) }, b.1)

    -- all items
    pub record HasAllFormed (items : List Item) : Type 0 where
      pub signals : AllFormed (IsFormedSignal count) (items_signals items)
      pub assigns : AllFormed (IsFormedAssignment limits count) (assigns_of items)
      pub blocks : AllFormed (IsFormedBlock limits count) (blocks_of items)

    formed_items : (items : List Item) (rest : List Token) → AreItems limits items → AreKnown count (items_text clock items rest) → HasAllFormed items
    formed_items [] rest are known = record { signals = tt; assigns = tt; blocks = tt }
    formed_items (x ∷ items) rest are known =
        let f = formed_item x (items_text clock items rest) are.0 known in
        let o = formed_items items rest are.1 f.1 in
        record {
          signals = all_both (IsFormedSignal count) (item_signals x) (items_signals items) f.0.signals o.signals;
          assigns = all_both (IsFormedAssignment limits count) (item_assigns x) (assigns_of items) f.0.assigns o.assigns;
          blocks = all_both (IsFormedBlock limits count) (item_blocks x) (blocks_of items) f.0.blocks o.blocks;
        }

    -- the whole text
    pub record HasFormedText (t : Text) : Type 0 where
      pub name : t.name < count
      pub signals : AllFormed (IsFormedSignal count) (signals_of t)
      pub items : HasAllFormed t.items

    pub formed_text : (t : Text) → AreItems limits t.items → AreKnown count (tokens_of clock t) → HasFormedText t
    formed_text t are known =
        let port = known_fresh t.port (ports_text t.ports (marked mark.Close (marked mark.Semicolon (items_text clock t.items (worded word.EndModule []))))) known.1.1.1 in
        let ports = formed_ports t.port t.ports (marked mark.Close (marked mark.Semicolon (items_text clock t.items (worded word.EndModule [])))) port.0 port.2 in
        let items = formed_items t.items (worded word.EndModule []) are ports.1.1.1 in
        record {
          name = known.1.0;
          signals = (
            formed_signal (direction_kind t.port.direction) t.port.shape t.port.name port.0 port.1,
            all_both (IsFormedSignal count) (port_signals t.port t.ports) (items_signals t.items) ports.0 items.signals,
          );
          items = items;
        }
