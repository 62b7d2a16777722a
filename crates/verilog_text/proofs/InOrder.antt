-- A module whose names are numbered as they are declared is read back as it was, but for places.
use Rattle.std.proofs.Common.{◌≡◌, ℕ, zero, suc, ◌+◌, ◌<◌, ◌≤◌, Bool, true, false, List, [], ◌∷◌, ◌++◌, length, take, Some, None, refl, sym, ap, ◌∙◌, subst, arith, inl, inr, length-append}
use Rattle.std.specs.Prelude.{map, nat_lt, Option}
use Rattle.std.specs.Str.{bytes_eq}
use Rattle.std.proofs.lemmas.List.{take_all}
use Rattle.std.proofs.lemmas.Bool.{cases_Bool, cond-true, cond-false}
use Rattle.std.proofs.lemmas.Slice.Eq.{bytes_eq-Decides}
use Rattle.verilog_tree.specs.declared.tree.Signal.{Signal}
use Rattle.verilog_tree.specs.Tree as tree
use Rattle.verilog_tree.specs.Tree.{Tree, Trees, Action, Actions, Assignment, Design}
use Rattle.verilog_tree.specs.Renaming.{name_in, number_in, AreDistinct, tree_in, trees_in, action_in, actions_in, assignment_in, signal_in}
use Rattle.verilog_text.specs.declared.token.Decimal.{Decimal}
use Rattle.verilog_text.specs.declared.token.Word.{Word}
use Rattle.verilog_text.specs.declared.token.Word.TheVariants as word
use Rattle.verilog_text.specs.declared.token.Token.{Token}
use Rattle.verilog_text.specs.declared.token.Token.TheVariants as token
use Rattle.verilog_text.specs.declared.token.Mark.TheVariants as mark
use Rattle.verilog_text.specs.Grammar.{marked, limits}
use Rattle.verilog_text.specs.Statements.{openness, worded, action_of, actions_of}
use Rattle.verilog_text.specs.Text.{Text, Shape, Item, range_text, if_word, shape_text, fresh_text, ports_text, items_text, tokens_of, clock_text, signals_of, assigns_of, blocks_of}
use Rattle.verilog_text.specs.Names.{with_name, with_piece, names_behind}
use Rattle.verilog_text.specs.Reading.{declared_places, with_places}
use Rattle.verilog_text.specs.Layout.{piece_for, AreSpelled, placed, heading}
use Rattle.verilog_text.specs.Renamed.{text_in}
use Rattle.verilog_text.specs.Shortest.{statement_of, statements_of, closed, shape_of, fresh_of, port_of, declared_of, assigned_of, clocked_of, ports_in, stores_in, first_port, other_ports, items_of, text_of, AllFormed, IsWritable}
use Rattle.verilog_text.specs.Order.{ordered_signals, open_count, IsUntangled, AreUntangled, AreNumbered, IsInOrder, unplaced, IsSameButPlaces}
use Rattle.verilog_text.proofs.Shortest.{tree_of-spelling}
use Rattle.verilog_text.proofs.Writable.{text_spelled, goes_assigned, goes_clocked}
use Rattle.verilog_text.proofs.Renamed.{signals_of_in, assigns_of_in, blocks_of_in}
use Rattle.verilog_text.proofs.Numbering.{number_of_name, name_low, OfNames}
use Rattle.verilog_text.proofs.Holds.{OfTree, OfTrees, OfAction, OfActions, OfAssignment, OfSignal, of_text}
use Rattle.verilog_text.proofs.RoundTrip.{written_blocks, assigns_of-items_of, blocks_of-items_of, signals_of-text_of, pieces_of, names_of, number_found, read_back}

-- the names that are found in tokens, behind those that came before
abbrev seen : List (List ℕ) → List (List ℕ) → List Token → List (List ℕ)
seen names before [] = before
seen names before (t ∷ ts) = seen names (with_piece before (piece_for names t)) ts

seen_is : (names : List (List ℕ)) (ts : List Token) (before : List (List ℕ)) (place : ℕ) → names_behind before (placed names place ts) ≡ seen names before ts
seen_is names [] before place = refl
seen_is names (t ∷ ts) before place = seen_is names ts (with_piece before (piece_for names t)) _

-- a name that is there adds nothing
with_name-there : (names : List (List ℕ)) (text : List ℕ) → number_in names text < length names → with_name names text ≡ names
with_name-there [] text h = absurd (omega arith)
with_name-there (name ∷ names) text h =
    elim (cases_Bool (bytes_eq name text)) [
      | inl e ↦ cond-true _ _ _ e
      | inr e ↦
          let n = cond-false (bytes_eq name text) 0 (number_in names text + 1) e in
          cond-false _ _ _ e ∙ ap (λ ns. name ∷ ns) (with_name-there names text (omega (arith, n)))
    ]

-- the next name of a list behind those before it
next_name : (names : List (List ℕ)) (k : ℕ) → AreDistinct names → k < length names → with_name (take k names) (name_in names k) ≡ take (suc k) names
next_name [] k distinct h = absurd (omega arith)
next_name (name ∷ names) zero distinct h = refl
next_name (name ∷ names) (suc k) distinct h =
    elim (cases_Bool (bytes_eq name (name_in names k))) [
      | inl e ↦ absurd (let same = ap (number_in names) ((bytes_eq-Decides name (name_in names k)).0 e) in let n = number_of_name names k distinct.1 (omega arith) in omega (arith, same, n, distinct.0))
      | inr e ↦ cond-false _ _ _ e ∙ ap (λ ns. name ∷ ns) (next_name names k distinct.1 (omega arith))
    ]

spelled_low : (names : List (List ℕ)) (ts : List Token) → AreSpelled names ts → OfNames (λ n. n < length names) ts
spelled_low names [] h = tt
spelled_low names (token.Name n ∷ ts) h = (name_low names n h.0, spelled_low names ts h.1)
spelled_low names (token.Number d ∷ ts) h = (tt, spelled_low names ts h.1)
spelled_low names (token.Based l ∷ ts) h = (tt, spelled_low names ts h.1)
spelled_low names (token.Keyword w ∷ ts) h = (tt, spelled_low names ts h.1)
spelled_low names (token.Operator o ∷ ts) h = (tt, spelled_low names ts h.1)
spelled_low names (token.Shift s ∷ ts) h = (tt, spelled_low names ts h.1)
spelled_low names (token.Punctuation m ∷ ts) h = (tt, spelled_low names ts h.1)

module _ (names : List (List ℕ)) (distinct : AreDistinct names) where
  -- behind all names nothing new is found
  seen_all : (ts : List Token) → OfNames (λ n. n < length names) ts → seen names names ts ≡ names
  seen_all [] h = refl
  seen_all (token.Name n ∷ ts) h =
      let low : number_in names (name_in names n) < length names = let e = number_of_name names n distinct h.0 in let l = h.0 in omega arith in
      ap (λ ns. seen names ns ts) (with_name-there names (name_in names n) low) ∙ seen_all ts h.1
  seen_all (token.Number d ∷ ts) h = seen_all ts h.1
  seen_all (token.Based l ∷ ts) h = seen_all ts h.1
  seen_all (token.Keyword w ∷ ts) h = seen_all ts h.1
  seen_all (token.Operator o ∷ ts) h = seen_all ts h.1
  seen_all (token.Shift s ∷ ts) h = seen_all ts h.1
  seen_all (token.Punctuation m ∷ ts) h = seen_all ts h.1

  seen_range : (before : List (List ℕ)) (range : Option Decimal) (rest : List Token) → seen names before (range_text range rest) ≡ seen names before rest
  seen_range before None rest = refl
  seen_range before (Some high) rest = refl

  seen_word : (before : List (List ℕ)) (b : Bool) (w : Word) (rest : List Token) → seen names before (if_word b w rest) ≡ seen names before rest
  seen_word before true w rest = refl
  seen_word before false w rest = refl

  seen_shape : (before : List (List ℕ)) (shape : Shape) (rest : List Token) → seen names before (shape_text shape rest) ≡ seen names before rest
  seen_shape before shape rest = seen_word before shape.signed word.Signed _ ∙ seen_range before shape.range rest

  -- the next name is declared
  seen_name : (k n : ℕ) (rest : List Token) → n ≡ k → k < length names → seen names (take k names) (token.Name n ∷ rest) ≡ seen names (take (suc k) names) rest
  seen_name k n rest e low = ap (λ m. seen names (with_name (take k names) (name_in names m)) rest) e ∙ ap (λ ns. seen names ns rest) (next_name names k distinct low)

  seen_fresh : (k : ℕ) (s : Signal) (rest : List Token) → s.name ≡ k → k < length names → seen names (take k names) (fresh_text (fresh_of s) rest) ≡ seen names (take (suc k) names) rest
  seen_fresh k s rest e low = seen_shape (take k names) (shape_of s) (token.Name s.name ∷ rest) ∙ seen_name k s.name rest e low

  numbered_at : (k j : ℕ) (ss : List Signal) → k ≡ j → AreNumbered k ss → AreNumbered j ss
  numbered_at k j ss e h = subst (λ n. AreNumbered n ss) e h

  seen_ports : (ss : List Signal) (k : ℕ) (rest : List Token) → AreNumbered k ss → k + length ss ≤ length names → seen names (take k names) (ports_text (map port_of ss) rest) ≡ seen names (take (k + length ss) names) rest
  seen_ports [] k rest h low = ap (λ n. seen names (take n names) rest) {x = k} {y = k + 0} (omega arith)
  seen_ports (s ∷ ss) k rest h low =
      seen_fresh k s (ports_text (map port_of ss) rest) h.0 (omega arith)
      ∙ seen_ports ss (suc k) rest (numbered_at (k + 1) (suc k) ss (omega arith) h.1) (omega arith)
      ∙ ap (λ n. seen names (take n names) rest) {x = suc k + length ss} {y = k + suc (length ss)} (omega arith)

  seen_first : (ss : List Signal) (k : ℕ) (rest : List Token) → 0 < length ss → AreNumbered k ss → k + length ss ≤ length names → seen names (take k names) (fresh_text (first_port ss) (ports_text (other_ports ss) rest)) ≡ seen names (take (k + length ss) names) rest
  seen_first [] k rest some h low = absurd (omega arith)
  seen_first (s ∷ ss) k rest some h low =
      seen_fresh k s (ports_text (map port_of ss) rest) h.0 (omega arith)
      ∙ seen_ports ss (suc k) rest (numbered_at (k + 1) (suc k) ss (omega arith) h.1) (omega arith)
      ∙ ap (λ n. seen names (take n names) rest) {x = suc k + length ss} {y = k + suc (length ss)} (omega arith)

  seen_stores : (clock : ℕ) (xs : List Item) (ss : List Signal) (k : ℕ) (rest : List Token) → AreNumbered k ss → k + length ss ≤ length names → seen names (take k names) (items_text clock (map declared_of ss ++ xs) rest) ≡ seen names (take (k + length ss) names) (items_text clock xs rest)
  seen_stores clock xs [] k rest h low = ap (λ n. seen names (take n names) (items_text clock xs rest)) {x = k} {y = k + 0} (omega arith)
  seen_stores clock xs (s ∷ ss) k rest h low =
      let behind : List Token = marked mark.Semicolon (items_text clock (map declared_of ss ++ xs) rest) in
      seen_shape (take k names) (shape_of s) (token.Name s.name ∷ behind)
      ∙ seen_name k s.name behind h.0 (omega arith)
      ∙ seen_stores clock xs ss (suc k) rest (numbered_at (k + 1) (suc k) ss (omega arith) h.1) (omega arith)
      ∙ ap (λ n. seen names (take n names) (items_text clock xs rest)) {x = suc k + length ss} {y = k + suc (length ss)} (omega arith)

numbered_parts : (xs ys : List Signal) (k : ℕ) → AreNumbered k (xs ++ ys) → AreNumbered k xs × AreNumbered (k + length xs) ys
numbered_parts [] ys k h = (tt, subst (λ n. AreNumbered n ys) {x = k} {y = k + 0} (omega arith) h)
numbered_parts (x ∷ xs) ys k h =
    let r = numbered_parts xs ys (k + 1) h.1 in
    ((h.0, r.0), subst (λ n. AreNumbered n ys) {x = k + 1 + length xs} {y = k + suc (length xs)} (omega arith) r.1)

-- all names are found, in their order
names_found : (d : Design) → IsWritable limits d → IsInOrder d → names_of d ≡ d.names
names_found d w o =
    let names : List (List ℕ) = d.names in
    let clock : ℕ = number_in names clock_text in
    let ports : List Signal = ports_in d.signals in
    let stores : List Signal = stores_in d.signals in
    let others : List Item = map assigned_of d.assigns ++ map clocked_of d.blocks in
    let end : List Token = worded word.EndModule [] in
    let counted : length ports + length stores ≡ length d.signals = omega (arith, length-append ports stores, ap length o.ports_first) in
    let all = o.all_declared in
    let numbered = numbered_parts ports stores 1 (subst (AreNumbered 1) (sym o.ports_first) o.in_turn) in
    let first : 0 < length names = omega arith in
    let spelled = goes_assigned names w.names limits clock w.clock d.assigns _ w.assigns (goes_clocked names w.names limits clock w.clock d.blocks w.blocks) end (tt, tt) in
    let behind : List Token = marked mark.Close (marked mark.Semicolon (items_text clock (items_of d) end)) in
    seen_is names (tokens_of clock (text_of d)) [] (0 + length heading)
    ∙ seen_name names w.distinct 0 d.name (marked mark.Open (fresh_text (first_port ports) (ports_text (other_ports ports) behind))) o.name_first first
    ∙ seen_first names w.distinct ports 1 behind w.port numbered.0 (omega arith)
    ∙ seen_stores names w.distinct clock others stores (1 + length ports) end numbered.1 (omega arith)
    ∙ ap (λ ns. seen names ns (items_text clock others end)) (ap (λ n. take n names) {x = 1 + length ports + length stores} {y = length names} (omega arith) ∙ take_all (length names) names (omega arith))
    ∙ seen_all names w.distinct (items_text clock others end) (spelled_low names _ spelled)

-- ---- with the same numbers all is the same

module _ (from : ℕ → ℕ) where
  abbrev Same : ℕ → Type 0
  Same n = from n ≡ n

  mutual
    same_tree : (t : Tree) → OfTree Same t → tree_in from t ≡ t
    same_tree (tree.Name n) h = ap tree.Name h
    same_tree (tree.Bit n place) h = ap (λ m. tree.Bit m place) h
    same_tree (tree.Part n high low) h = ap (λ m. tree.Part m high low) h
    same_tree (tree.Plain value) h = refl
    same_tree (tree.Based width signed bits) h = refl
    same_tree (tree.Cat members) h = ap tree.Cat (same_trees members h)
    same_tree (tree.Not a) h = ap tree.Not (same_tree a h)
    same_tree (tree.Binary op a b) h = let x = same_tree a h.0 in let y = same_tree b h.1 in cc (x, y)
    same_tree (tree.Shift op a n) h = ap (λ x. tree.Shift op x n) (same_tree a h)
    same_tree (tree.Choice c a b) h = let x = same_tree c h.0 in let y = same_tree a h.1 in let z = same_tree b h.2 in cc (x, y, z)

    same_trees : (ts : Trees) → OfTrees Same ts → trees_in from ts ≡ ts
    same_trees tree.none h = refl
    same_trees (tree.more t ts) h = let x = same_tree t h.0 in let y = same_trees ts h.1 in cc (x, y)

  mutual
    same_action : (a : Action) → OfAction Same a → action_in from a ≡ a
    same_action (tree.Block members) h = ap tree.Block (same_actions members h)
    same_action (tree.When c t) h = let x = same_tree c h.0 in let y = same_action t h.1 in cc (x, y)
    same_action (tree.Either c t f) h = let x = same_tree c h.0 in let y = same_action t h.1 in let z = same_action f h.2 in cc (x, y, z)
    same_action (tree.Give r v) h = let x = h.0 in let y = same_tree v h.1 in cc (x, y)

    same_actions : (xs : Actions) → OfActions Same xs → actions_in from xs ≡ xs
    same_actions tree.no_action h = refl
    same_actions (tree.action a xs) h = let x = same_action a h.0 in let y = same_actions xs h.1 in cc (x, y)

  same_assigns : (xs : List Assignment) → AllFormed (OfAssignment Same) xs → map (assignment_in from) xs ≡ xs
  same_assigns [] h = refl
  same_assigns (a ∷ xs) h =
      let make : ℕ → Tree → Assignment = λ n v. record { target = n; value = v } in
      let x : make (from a.target) (tree_in from a.value) ≡ make a.target a.value = ap (λ n. make n (tree_in from a.value)) h.0.0 ∙ ap (make a.target) (same_tree a.value h.0.1) in
      let y = same_assigns xs h.1 in
      cc (x, y)

  same_blocks : (xs : List Action) → AllFormed (OfAction Same) xs → map (action_in from) xs ≡ xs
  same_blocks [] h = refl
  same_blocks (a ∷ xs) h = let x = same_action a h.0 in let y = same_blocks xs h.1 in cc (x, y)

  same_signals : (ss : List Signal) → AllFormed (OfSignal Same) ss → map (signal_in from) ss ≡ ss
  same_signals [] h = refl
  same_signals (s ∷ ss) h = let x = ap (λ n. record s { name = n }) h.0 in let y = same_signals ss h.1 in cc (x, y)

unplaced_all : (ss : List Signal) → map unplaced (map unplaced ss) ≡ map unplaced ss
unplaced_all [] = refl
unplaced_all (s ∷ ss) = ap (λ zs. unplaced s ∷ zs) (unplaced_all ss)

unplaced_placed : (ps : List ℕ) (ss : List Signal) → map unplaced (with_places ps ss) ≡ map unplaced ss
unplaced_placed [] ss = refl
unplaced_placed (p ∷ ps) [] = refl
unplaced_placed (p ∷ ps) (s ∷ ss) = ap (λ zs. unplaced s ∷ zs) (unplaced_placed ps ss)

map_joined : {A B : Type 0} (f : A → B) (xs ys : List A) → map f (xs ++ ys) ≡ map f xs ++ map f ys
map_joined f [] ys = refl
map_joined f (x ∷ xs) ys = ap (λ zs. f x ∷ zs) (map_joined f xs ys)

openness_is : (a : Action) → openness (statement_of a) ≡ open_count a
openness_is (tree.Block members) = refl
openness_is (tree.When c t) = refl
openness_is (tree.Either c t f) = openness_is f
openness_is (tree.Give r v) = refl

-- a statement that takes no later `else` stands alone
closed_is : (a : Action) → open_count a ≡ 0 → closed (statement_of a) ≡ statement_of a
closed_is a h = cond-true _ _ _ (ap (λ n. nat_lt n 1) (openness_is a ∙ h))

mutual
  untangled : (a : Action) → IsUntangled a → action_of (statement_of a) ≡ a
  untangled (tree.Block members) h = ap tree.Block (all_untangled members h)
  untangled (tree.When c t) h = let x = tree_of-spelling c in let y = untangled t h in cc (x, y)
  untangled (tree.Either c t f) h = let x = tree_of-spelling c in let y = ap action_of (closed_is t h.0) ∙ untangled t h.1 in let z = untangled f h.2 in cc (x, y, z)
  untangled (tree.Give r v) h = ap (tree.Give r) (tree_of-spelling v)

  all_untangled : (xs : Actions) → AreUntangled xs → actions_of (statements_of xs) ≡ xs
  all_untangled tree.no_action h = refl
  all_untangled (tree.action a xs) h = let x = untangled a h.0 in let y = all_untangled xs h.1 in cc (x, y)

blocks_untangled : (xs : List Action) → AllFormed IsUntangled xs → written_blocks xs ≡ xs
blocks_untangled [] h = refl
blocks_untangled (a ∷ xs) h = let x = untangled a h.0 in let y = blocks_untangled xs h.1 in cc (x, y)

same_numbers : (names : List (List ℕ)) (ts : List Token) (from : ℕ → ℕ) → ((n : ℕ) → n < length names → from n ≡ n) → AreSpelled names ts → OfNames (λ n. from n ≡ n) ts
same_numbers names [] from f h = tt
same_numbers names (token.Name n ∷ ts) from f h = (f n (name_low names n h.0), same_numbers names ts from f h.1)
same_numbers names (token.Number d ∷ ts) from f h = (tt, same_numbers names ts from f h.1)
same_numbers names (token.Based l ∷ ts) from f h = (tt, same_numbers names ts from f h.1)
same_numbers names (token.Keyword w ∷ ts) from f h = (tt, same_numbers names ts from f h.1)
same_numbers names (token.Operator o ∷ ts) from f h = (tt, same_numbers names ts from f h.1)
same_numbers names (token.Shift s ∷ ts) from f h = (tt, same_numbers names ts from f h.1)
same_numbers names (token.Punctuation m ∷ ts) from f h = (tt, same_numbers names ts from f h.1)

pub same_back : (d : Design) → IsWritable limits d → IsInOrder d → IsSameButPlaces (read_back d) d
same_back d w o =
    let from : ℕ → ℕ = number_found d in
    let t : Text = text_of d in
    let tick : ℕ = number_in d.names clock_text in
    let found = names_found d w o in
    let numbers : (n : ℕ) → n < length d.names → from n ≡ n = λ n h. ap (λ ns. number_in ns (name_in d.names n)) found ∙ number_of_name d.names n w.distinct h in
    let holds = of_text (λ n. from n ≡ n) tick t (same_numbers d.names (tokens_of tick t) from numbers (text_spelled limits d w)) in
    let blocks = blocks_of-items_of d in
    let places : List ℕ = declared_places false (pieces_of d) in
    record {
      same_name = holds.name;
      same_names = found;
      same_signals =
          unplaced_placed places (signals_of (text_in from t))
          ∙ ap (map unplaced) (signals_of_in from t ∙ same_signals from (signals_of t) holds.signals ∙ signals_of-text_of limits d w ∙ sym (map_joined unplaced (ports_in d.signals) (stores_in d.signals)))
          ∙ unplaced_all (ordered_signals d)
          ∙ ap (map unplaced) o.ports_first;
      same_assigns = assigns_of_in from (items_of d) ∙ same_assigns from (assigns_of (items_of d)) holds.assigns ∙ assigns_of-items_of limits d w;
      same_blocks = blocks_of_in from (items_of d) ∙ same_blocks from (blocks_of (items_of d)) holds.blocks ∙ blocks ∙ blocks_untangled d.blocks o.untangled;
    }
