-- Texts with other numbers for their names: all but the names is as before.
use Rattle.std.proofs.Common.{◌≡◌, ℕ, ◌+◌, Bool, true, false, List, [], ◌∷◌, ◌++◌, refl, sym, ap, ◌∙◌, arith}
use Rattle.std.specs.Prelude.{map, Option, Some, None}
use Rattle.verilog_tree.specs.declared.tree.Op.TheVariants.{LessEqual}
use Rattle.verilog_tree.specs.Tree as tree
use Rattle.verilog_tree.specs.Tree.{Tree, Trees, Action, Actions, Assignment}
use Rattle.verilog_tree.specs.Renaming.{tree_in, trees_in, action_in, actions_in, assignment_in, signal_in}
use Rattle.verilog_text.specs.declared.token.Decimal.{Decimal}
use Rattle.verilog_text.specs.declared.token.Mark.{Mark}
use Rattle.verilog_text.specs.declared.token.Mark.TheVariants as mark
use Rattle.verilog_text.specs.declared.token.Word.{Word}
use Rattle.verilog_text.specs.declared.token.Word.TheVariants as word
use Rattle.verilog_text.specs.declared.token.Token.{Token}
use Rattle.verilog_text.specs.declared.token.Token.TheVariants as token
use Rattle.verilog_text.specs.Grammar.{Source, Sources, Named, BitOf, PartOf, Number, Based, Bracketed, Joined, Inverted, Operated, Shifted, Chosen, no_member, member, marked, written, written_members, tree_of, trees_of, looseness, is_plain, IsGrouped, HasMember, AreGrouped, depth, depths, operators, operators_in, Limits}
use Rattle.verilog_text.specs.Statements.{Statement, Statements, Block, Guarded, Forked, Given, none, more, worded, if_text, statement_text, statements_text, action_of, actions_of, openness, IsParted, AreParted, height, heights, IsShort, AreShort}
use Rattle.verilog_text.specs.Text.{Text, Shape, Store, FreshPort, Port, Fresh, Same, Item, Declared, Assigned, Clocked, range_text, if_word, shape_text, direction_word, fresh_text, port_text, ports_text, names_text, store_word, item_text, items_text, tokens_of, IsItem, AreItems, direction_kind, store_kind, signal_of, fresh_signal, port_signals, item_signals, items_signals, signals_of, item_assigns, assigns_of, item_blocks, blocks_of}
use Rattle.verilog_text.specs.Renamed.{token_in, source_in, members_in, statement_in, statements_in, fresh_in, port_in, item_in, text_in}

module _ (to : ℕ → ℕ) where
  abbrev all : List Token → List Token
  all ts = map (token_in to) ts

  mutual
    pub written_in : (c : Source) (rest : List Token) → written (source_in to c) (all rest) ≡ all (written c rest)
    written_in (Named name) rest = refl
    written_in (BitOf name place) rest = refl
    written_in (PartOf name high low) rest = refl
    written_in (Number number) rest = refl
    written_in (Based literal) rest = refl
    written_in (Bracketed c) rest = ap (marked mark.Open) (written_in c (marked mark.Close rest))
    written_in (Joined members) rest = members_written_in mark.OpenBrace members rest
    written_in (Inverted c) rest = ap (marked mark.Inverse) (written_in c rest)
    written_in (Operated op a b) rest = ap (λ ts. written (source_in to a) (token.Operator op ∷ ts)) (written_in b rest) ∙ written_in a (token.Operator op ∷ written b rest)
    written_in (Shifted op a n) rest = written_in a (token.Shift op ∷ token.Number n ∷ rest)
    written_in (Chosen c a b) rest =
        ap (λ ts. written (source_in to c) (marked mark.Question (written (source_in to a) (marked mark.Colon ts)))) (written_in b rest)
        ∙ ap (λ ts. written (source_in to c) (marked mark.Question ts)) (written_in a (marked mark.Colon (written b rest)))
        ∙ written_in c (marked mark.Question (written a (marked mark.Colon (written b rest))))

    pub members_written_in : (m : Mark) (cs : Sources) (rest : List Token) → written_members m (members_in to cs) (all rest) ≡ all (written_members m cs rest)
    members_written_in m no_member rest = refl
    members_written_in m (member c cs) rest = ap (λ ts. marked m (written (source_in to c) ts)) (members_written_in mark.Comma cs rest) ∙ ap (marked m) (written_in c (written_members mark.Comma cs rest))

  mutual
    pub tree_of_in : (c : Source) → tree_of (source_in to c) ≡ tree_in to (tree_of c)
    tree_of_in (Named name) = refl
    tree_of_in (BitOf name place) = refl
    tree_of_in (PartOf name high low) = refl
    tree_of_in (Number number) = refl
    tree_of_in (Based literal) = refl
    tree_of_in (Bracketed c) = tree_of_in c
    tree_of_in (Joined members) = ap tree.Cat (trees_of_in members)
    tree_of_in (Inverted c) = ap tree.Not (tree_of_in c)
    tree_of_in (Operated op a b) = let x = tree_of_in a in let y = tree_of_in b in cc (x, y)
    tree_of_in (Shifted op a n) = ap (λ x. tree.Shift op x n.value) (tree_of_in a)
    tree_of_in (Chosen c a b) = let x = tree_of_in c in let y = tree_of_in a in let z = tree_of_in b in cc (x, y, z)

    pub trees_of_in : (cs : Sources) → trees_of (members_in to cs) ≡ trees_in to (trees_of cs)
    trees_of_in no_member = refl
    trees_of_in (member c cs) = let x = tree_of_in c in let y = trees_of_in cs in cc (x, y)

  looseness_in : (c : Source) → looseness (source_in to c) ≡ looseness c
  looseness_in (Named name) = refl
  looseness_in (BitOf name place) = refl
  looseness_in (PartOf name high low) = refl
  looseness_in (Number number) = refl
  looseness_in (Based literal) = refl
  looseness_in (Bracketed c) = refl
  looseness_in (Joined members) = refl
  looseness_in (Inverted c) = refl
  looseness_in (Operated op a b) = refl
  looseness_in (Shifted op a n) = refl
  looseness_in (Chosen c a b) = refl

  is_plain-tree_in : (t : Tree) → is_plain (tree_in to t) ≡ is_plain t
  is_plain-tree_in (tree.Name name) = refl
  is_plain-tree_in (tree.Bit name place) = refl
  is_plain-tree_in (tree.Part name high low) = refl
  is_plain-tree_in (tree.Plain value) = refl
  is_plain-tree_in (tree.Based width signed bits) = refl
  is_plain-tree_in (tree.Cat members) = refl
  is_plain-tree_in (tree.Not operand) = refl
  is_plain-tree_in (tree.Binary op a b) = refl
  is_plain-tree_in (tree.Shift op a n) = refl
  is_plain-tree_in (tree.Choice c a b) = refl

  plain_in : (c : Source) → is_plain (tree_of c) ≡ false → is_plain (tree_of (source_in to c)) ≡ false
  plain_in c h = ap is_plain (tree_of_in c) ∙ is_plain-tree_in (tree_of c) ∙ h

  mutual
    depth_in : (c : Source) → depth (source_in to c) ≡ depth c
    depth_in (Named name) = refl
    depth_in (BitOf name place) = refl
    depth_in (PartOf name high low) = refl
    depth_in (Number number) = refl
    depth_in (Based literal) = refl
    depth_in (Bracketed c) = ap (λ n. 1 + n) (depth_in c)
    depth_in (Joined members) = ap (λ n. 1 + n) (depths_in members)
    depth_in (Inverted c) = ap (λ n. 1 + n) (depth_in c)
    depth_in (Operated op a b) = let x = depth_in a in let y = depth_in b in cc (x, y)
    depth_in (Shifted op a n) = depth_in a
    depth_in (Chosen c a b) = let x = depth_in c in let y = depth_in a in let z = depth_in b in cc (x, y, z)

    depths_in : (cs : Sources) → depths (members_in to cs) ≡ depths cs
    depths_in no_member = refl
    depths_in (member c cs) = let x = depth_in c in let y = depths_in cs in cc (x, y)

  mutual
    operators-source_in : (c : Source) → operators (source_in to c) ≡ operators c
    operators-source_in (Named name) = refl
    operators-source_in (BitOf name place) = refl
    operators-source_in (PartOf name high low) = refl
    operators-source_in (Number number) = refl
    operators-source_in (Based literal) = refl
    operators-source_in (Bracketed c) = operators-source_in c
    operators-source_in (Joined members) = operators_in-members_in members
    operators-source_in (Inverted c) = operators-source_in c
    operators-source_in (Operated op a b) = let x = operators-source_in a in let y = operators-source_in b in cc (x, y)
    operators-source_in (Shifted op a n) = ap (λ k. k + 1) (operators-source_in a)
    operators-source_in (Chosen c a b) = let x = operators-source_in c in let y = operators-source_in a in let z = operators-source_in b in cc (x, y, z)

    operators_in-members_in : (cs : Sources) → operators_in (members_in to cs) ≡ operators_in cs
    operators_in-members_in no_member = refl
    operators_in-members_in (member c cs) = let x = operators-source_in c in let y = operators_in-members_in cs in cc (x, y)

  some_in : (cs : Sources) → HasMember cs → HasMember (members_in to cs)
  some_in no_member g = absurd g
  some_in (member c cs) g = tt

  mutual
    grouped_in : (c : Source) → IsGrouped c → IsGrouped (source_in to c)
    grouped_in (Named name) g = tt
    grouped_in (BitOf name place) g = tt
    grouped_in (PartOf name high low) g = tt
    grouped_in (Number number) g = tt
    grouped_in (Based literal) g = tt
    grouped_in (Bracketed c) g = grouped_in c g
    grouped_in (Joined members) g = (some_in members g.0, all_grouped_in members g.1)
    grouped_in (Inverted c) g = let x = looseness_in c in (omega (arith, g.0), grouped_in c g.1)
    grouped_in (Operated op a b) g = let x = looseness_in a in let y = looseness_in b in (omega (arith, g.0), omega (arith, g.1), grouped_in a g.2, grouped_in b g.3)
    grouped_in (Shifted op a n) g = let x = looseness_in a in (omega (arith, g.0), g.1, grouped_in a g.2)
    grouped_in (Chosen c a b) g = let x = looseness_in c in (omega (arith, g.0), grouped_in c g.1, grouped_in a g.2, grouped_in b g.3)

    all_grouped_in : (cs : Sources) → AreGrouped cs → AreGrouped (members_in to cs)
    all_grouped_in no_member g = tt
    all_grouped_in (member c cs) g = (plain_in c g.0, grouped_in c g.1, all_grouped_in cs g.2)

  if_text_in : (c : Source) (rest : List Token) → if_text (source_in to c) (all rest) ≡ all (if_text c rest)
  if_text_in c rest = ap (λ ts. worded word.If (marked mark.Open ts)) (written_in c (marked mark.Close rest))

  mutual
    statement_text_in : (s : Statement) (rest : List Token) → statement_text (statement_in to s) (all rest) ≡ all (statement_text s rest)
    statement_text_in (Block members) rest = ap (worded word.Begin) (statements_text_in members (worded word.End rest))
    statement_text_in (Guarded c t) rest = ap (if_text (source_in to c)) (statement_text_in t rest) ∙ if_text_in c (statement_text t rest)
    statement_text_in (Forked c t f) rest =
        ap (λ ts. if_text (source_in to c) (statement_text (statement_in to t) (worded word.Else ts))) (statement_text_in f rest)
        ∙ ap (if_text (source_in to c)) (statement_text_in t (worded word.Else (statement_text f rest)))
        ∙ if_text_in c (statement_text t (worded word.Else (statement_text f rest)))
    statement_text_in (Given r v) rest = ap (λ ts. token.Name (to r) ∷ token.Operator LessEqual ∷ ts) (written_in v (marked mark.Semicolon rest))

    statements_text_in : (ss : Statements) (rest : List Token) → statements_text (statements_in to ss) (all rest) ≡ all (statements_text ss rest)
    statements_text_in none rest = refl
    statements_text_in (more s ss) rest = ap (statement_text (statement_in to s)) (statements_text_in ss rest) ∙ statement_text_in s (statements_text ss rest)

  mutual
    action_of_in : (s : Statement) → action_of (statement_in to s) ≡ action_in to (action_of s)
    action_of_in (Block members) = ap tree.Block (actions_of_in members)
    action_of_in (Guarded c t) = let x = tree_of_in c in let y = action_of_in t in cc (x, y)
    action_of_in (Forked c t f) = let x = tree_of_in c in let y = action_of_in t in let z = action_of_in f in cc (x, y, z)
    action_of_in (Given r v) = ap (tree.Give (to r)) (tree_of_in v)

    actions_of_in : (ss : Statements) → actions_of (statements_in to ss) ≡ actions_in to (actions_of ss)
    actions_of_in none = refl
    actions_of_in (more s ss) = let x = action_of_in s in let y = actions_of_in ss in cc (x, y)

  openness_in : (s : Statement) → openness (statement_in to s) ≡ openness s
  openness_in (Block members) = refl
  openness_in (Guarded c t) = refl
  openness_in (Forked c t f) = openness_in f
  openness_in (Given r v) = refl

  mutual
    parted_in : (s : Statement) → IsParted s → IsParted (statement_in to s)
    parted_in (Block members) g = all_parted_in members g
    parted_in (Guarded c t) g = (grouped_in c g.0, parted_in t g.1)
    parted_in (Forked c t f) g = let x = openness_in t in (grouped_in c g.0, omega (arith, g.1), parted_in t g.2, parted_in f g.3)
    parted_in (Given r v) g = grouped_in v g

    all_parted_in : (ss : Statements) → AreParted ss → AreParted (statements_in to ss)
    all_parted_in none g = tt
    all_parted_in (more s ss) g = (parted_in s g.0, all_parted_in ss g.1)

  mutual
    height_in : (s : Statement) → height (statement_in to s) ≡ height s
    height_in (Block members) = ap (λ n. 1 + n) (heights_in members)
    height_in (Guarded c t) = let x = depth_in c in let y = height_in t in cc (x, y)
    height_in (Forked c t f) = let x = depth_in c in let y = height_in t in let z = height_in f in cc (x, y, z)
    height_in (Given r v) = depth_in v

    heights_in : (ss : Statements) → heights (statements_in to ss) ≡ heights ss
    heights_in none = refl
    heights_in (more s ss) = let x = height_in s in let y = heights_in ss in cc (x, y)

  mutual
    short_in : (most : ℕ) (s : Statement) → IsShort most s → IsShort most (statement_in to s)
    short_in most (Block members) g = all_short_in most members g
    short_in most (Guarded c t) g = let x = operators-source_in c in (omega (arith, g.0), short_in most t g.1)
    short_in most (Forked c t f) g = let x = operators-source_in c in (omega (arith, g.0), short_in most t g.1, short_in most f g.2)
    short_in most (Given r v) g = let x = operators-source_in v in omega (arith, g)

    all_short_in : (most : ℕ) (ss : Statements) → AreShort most ss → AreShort most (statements_in to ss)
    all_short_in most none g = tt
    all_short_in most (more s ss) g = (short_in most s g.0, all_short_in most ss g.1)

  item_good_in : (limits : Limits) (x : Item) → IsItem limits x → IsItem limits (item_in to x)
  item_good_in limits (Declared store shape first others) g = tt
  item_good_in limits (Assigned target value) g = let x = depth_in value in let y = operators-source_in value in (grouped_in value g.0, omega (arith, g.1), omega (arith, g.2))
  item_good_in limits (Clocked body) g = let x = height_in body in (parted_in body g.0, omega (arith, g.1), short_in limits.operators body g.2)

  pub items_good_in : (limits : Limits) (xs : List Item) → AreItems limits xs → AreItems limits (map (item_in to) xs)
  items_good_in limits [] g = tt
  items_good_in limits (x ∷ xs) g = (item_good_in limits x g.0, items_good_in limits xs g.1)

  -- ports and items
  range_text_in : (range : Option Decimal) (rest : List Token) → range_text range (all rest) ≡ all (range_text range rest)
  range_text_in None rest = refl
  range_text_in (Some high) rest = refl

  if_word_in : (b : Bool) (w : Word) (rest : List Token) → if_word b w (all rest) ≡ all (if_word b w rest)
  if_word_in true w rest = refl
  if_word_in false w rest = refl

  shape_text_in : (shape : Shape) (rest : List Token) → shape_text shape (all rest) ≡ all (shape_text shape rest)
  shape_text_in shape rest = ap (if_word shape.signed word.Signed) (range_text_in shape.range rest) ∙ if_word_in shape.signed word.Signed (range_text shape.range rest)

  fresh_text_in : (p : FreshPort) (rest : List Token) → fresh_text (fresh_in to p) (all rest) ≡ all (fresh_text p rest)
  fresh_text_in p rest = ap (worded (direction_word p.direction)) (ap (if_word p.wire word.Wire) (shape_text_in p.shape (token.Name p.name ∷ rest)) ∙ if_word_in p.wire word.Wire (shape_text p.shape (token.Name p.name ∷ rest)))

  port_text_in : (p : Port) (rest : List Token) → port_text (port_in to p) (all rest) ≡ all (port_text p rest)
  port_text_in (Fresh p) rest = fresh_text_in p rest
  port_text_in (Same name) rest = refl

  ports_text_in : (ps : List Port) (rest : List Token) → ports_text (map (port_in to) ps) (all rest) ≡ all (ports_text ps rest)
  ports_text_in [] rest = refl
  ports_text_in (p ∷ ps) rest = ap (λ ts. marked mark.Comma (port_text (port_in to p) ts)) (ports_text_in ps rest) ∙ ap (marked mark.Comma) (port_text_in p (ports_text ps rest))

  names_text_in : (ns : List ℕ) (rest : List Token) → names_text (map to ns) (all rest) ≡ all (names_text ns rest)
  names_text_in [] rest = refl
  names_text_in (n ∷ ns) rest = ap (λ ts. marked mark.Comma (token.Name (to n) ∷ ts)) (names_text_in ns rest)

  item_text_in : (clock : ℕ) (x : Item) (rest : List Token) → item_text (to clock) (item_in to x) (all rest) ≡ all (item_text clock x rest)
  item_text_in clock (Declared store shape first others) rest =
      ap (λ ts. worded (store_word store) (shape_text shape (token.Name (to first) ∷ ts))) (names_text_in others (marked mark.Semicolon rest))
      ∙ ap (worded (store_word store)) (shape_text_in shape (token.Name first ∷ names_text others (marked mark.Semicolon rest)))
  item_text_in clock (Assigned target value) rest = ap (λ ts. worded word.Assign (token.Name (to target) ∷ marked mark.Assigned ts)) (written_in value (marked mark.Semicolon rest))
  item_text_in clock (Clocked body) rest = ap (λ ts. worded word.Always (marked mark.At (marked mark.Open (worded word.Posedge (token.Name (to clock) ∷ marked mark.Close ts))))) (statement_text_in body rest)

  items_text_in : (clock : ℕ) (xs : List Item) (rest : List Token) → items_text (to clock) (map (item_in to) xs) (all rest) ≡ all (items_text clock xs rest)
  items_text_in clock [] rest = refl
  items_text_in clock (x ∷ xs) rest = ap (item_text (to clock) (item_in to x)) (items_text_in clock xs rest) ∙ item_text_in clock x (items_text clock xs rest)

  pub tokens_of_in : (clock : ℕ) (t : Text) → tokens_of (to clock) (text_in to t) ≡ all (tokens_of clock t)
  tokens_of_in clock t =
      let items : List Token = items_text clock t.items (worded word.EndModule []) in
      let behind_ports : List Token = marked mark.Close (marked mark.Semicolon items) in
      let front : List Token → List Token = λ ts. worded word.Module (token.Name (to t.name) ∷ marked mark.Open (fresh_text (fresh_in to t.port) ts)) in
      ap (λ ts. front (ports_text (map (port_in to) t.ports) (marked mark.Close (marked mark.Semicolon ts)))) (items_text_in clock t.items (worded word.EndModule []))
      ∙ ap front (ports_text_in t.ports behind_ports)
      ∙ ap (λ ts. worded word.Module (token.Name (to t.name) ∷ marked mark.Open ts)) (fresh_text_in t.port (ports_text t.ports behind_ports))

  -- the module
  port_signals_in : (before : FreshPort) (ps : List Port) → port_signals (fresh_in to before) (map (port_in to) ps) ≡ map (signal_in to) (port_signals before ps)
  port_signals_in before [] = refl
  port_signals_in before (Fresh p ∷ ps) = ap (λ ss. signal_in to (fresh_signal p) ∷ ss) (port_signals_in p ps)
  port_signals_in before (Same name ∷ ps) = ap (λ ss. signal_in to (signal_of (direction_kind before.direction) before.shape name) ∷ ss) (port_signals_in before ps)

  declared_in : (store : Store) (shape : Shape) (ns : List ℕ) → map (signal_of (store_kind store) shape) (map to ns) ≡ map (signal_in to) (map (signal_of (store_kind store) shape) ns)
  declared_in store shape [] = refl
  declared_in store shape (n ∷ ns) = ap (λ ss. signal_of (store_kind store) shape (to n) ∷ ss) (declared_in store shape ns)

  map_join : {A B : Type 0} (f : A → B) (xs ys : List A) → map f (xs ++ ys) ≡ map f xs ++ map f ys
  map_join f [] ys = refl
  map_join f (x ∷ xs) ys = ap (λ zs. f x ∷ zs) (map_join f xs ys)

  item_signals_in : (x : Item) → item_signals (item_in to x) ≡ map (signal_in to) (item_signals x)
  item_signals_in (Declared store shape first others) = declared_in store shape (first ∷ others)
  item_signals_in (Assigned target value) = refl
  item_signals_in (Clocked body) = refl

  items_signals_in : (xs : List Item) → items_signals (map (item_in to) xs) ≡ map (signal_in to) (items_signals xs)
  items_signals_in [] = refl
  items_signals_in (x ∷ xs) =
      ap (λ ss. item_signals (item_in to x) ++ ss) (items_signals_in xs) ∙ ap (λ ss. ss ++ map (signal_in to) (items_signals xs)) (item_signals_in x) ∙ sym (map_join (signal_in to) (item_signals x) (items_signals xs))

  pub signals_of_in : (t : Text) → signals_of (text_in to t) ≡ map (signal_in to) (signals_of t)
  signals_of_in t =
      ap (λ ss. signal_in to (fresh_signal t.port) ∷ (ss ++ items_signals (map (item_in to) t.items))) (port_signals_in t.port t.ports)
      ∙ ap (λ ss. signal_in to (fresh_signal t.port) ∷ (map (signal_in to) (port_signals t.port t.ports) ++ ss)) (items_signals_in t.items)
      ∙ ap (λ ss. signal_in to (fresh_signal t.port) ∷ ss) (sym (map_join (signal_in to) (port_signals t.port t.ports) (items_signals t.items)))

  item_assigns_in : (x : Item) → item_assigns (item_in to x) ≡ map (assignment_in to) (item_assigns x)
  item_assigns_in (Declared store shape first others) = refl
  item_assigns_in (Assigned target value) = ap (λ v. record { target = to target; value = v } ∷ []) (tree_of_in value)
  item_assigns_in (Clocked body) = refl

  pub assigns_of_in : (xs : List Item) → assigns_of (map (item_in to) xs) ≡ map (assignment_in to) (assigns_of xs)
  assigns_of_in [] = refl
  assigns_of_in (x ∷ xs) =
      ap (λ ss. item_assigns (item_in to x) ++ ss) (assigns_of_in xs) ∙ ap (λ ss. ss ++ map (assignment_in to) (assigns_of xs)) (item_assigns_in x) ∙ sym (map_join (assignment_in to) (item_assigns x) (assigns_of xs))

  item_blocks_in : (x : Item) → item_blocks (item_in to x) ≡ map (action_in to) (item_blocks x)
  item_blocks_in (Declared store shape first others) = refl
  item_blocks_in (Assigned target value) = refl
  item_blocks_in (Clocked body) = ap (λ v. v ∷ []) (action_of_in body)

  pub blocks_of_in : (xs : List Item) → blocks_of (map (item_in to) xs) ≡ map (action_in to) (blocks_of xs)
  blocks_of_in [] = refl
  blocks_of_in (x ∷ xs) =
      ap (λ ss. item_blocks (item_in to x) ++ ss) (blocks_of_in xs) ∙ ap (λ ss. ss ++ map (action_in to) (blocks_of xs)) (item_blocks_in x) ∙ sym (map_join (action_in to) (item_blocks x) (blocks_of xs))
