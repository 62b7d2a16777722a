-- The bytes of a writing read as a module that is alike.
use Rattle.std.proofs.Common.{◌≡◌, ℕ, zero, suc, ◌+◌, ◌<◌, ◌≤◌, Bool, true, false, List, [], ◌∷◌, ◌++◌, length, refl, sym, ap, ◌∙◌, subst, arith, append_assoc}
use Rattle.std.specs.Prelude.{map, filter, not, slice_get, Option, Some}
use Rattle.std.proofs.lemmas.List.{append-nil}
use Rattle.std.proofs.lemmas.Bool.{cond_both}
use Rattle.verilog_tree.specs.declared.tree.Kind.{Kind}
use Rattle.verilog_tree.specs.declared.tree.Kind.TheVariants as kind
use Rattle.verilog_tree.specs.declared.tree.Signal.{Signal}
use Rattle.verilog_tree.specs.Tree.{Action, Assignment, Design}
use Rattle.verilog_tree.specs.Renaming.{name_in, number_in, action_in, assignment_in, signal_in}
use Rattle.verilog_tree.specs.Alike.{SameName, AreAlikeAssigns, AreAlikeBlocks, IsAlikeSignal, IsAlike}
use Rattle.verilog_text.specs.declared.token.Decimal.{Decimal}
use Rattle.verilog_text.specs.declared.token.Token.{Token}
use Rattle.verilog_text.specs.Grammar.{Limits, limits}
use Rattle.verilog_text.specs.Statements.{action_of}
use Rattle.verilog_text.specs.Text.{Text, Item, tokens_of, clock_text, AreItems, direction_kind, store_kind, is_ranged, width_of, signal_of, FreshPort, fresh_signal, port_signals, item_signals, items_signals, signals_of, item_assigns, assigns_of, item_blocks, blocks_of}
use Rattle.verilog_text.specs.Lexer.{Placed}
use Rattle.verilog_text.specs.Names.{names_behind, Inside}
use Rattle.verilog_text.specs.Reading.{declared_places, with_places, design_of, Reads}
use Rattle.verilog_text.specs.Layout.{laid_out, placed, heading}
use Rattle.verilog_text.specs.Renamed.{text_in}
use Rattle.verilog_text.specs.Shortest.{statement_of, range_of, shape_of, is_port, direction_of, store_of, fresh_of, port_of, declared_of, assigned_of, clocked_of, ports_in, stores_in, items_of, first_port, other_ports, text_of, IsFormedAssignment, IsFormedBlock, IsFormedSignal, AllFormed, IsWritable}
use Rattle.verilog_text.specs.Order.{Along, ends, goes, ordered_signals, unplaced}
use Rattle.verilog_text.proofs.LaidOut.{text_reads_back}
use Rattle.verilog_text.proofs.Shortest.{tree_of-spelling, grouped_spelling, parted_statement, plain_action-statement}
use Rattle.verilog_text.proofs.Renamed.{tokens_of_in, items_good_in, signals_of_in, assigns_of_in, blocks_of_in}
use Rattle.verilog_text.proofs.Numbering.{name_of_number, OfNames, each, found, lexemes_of_placed}
use Rattle.verilog_text.proofs.Holds.{OfSignal, OfAssignment, OfAction, of_text}
use Rattle.verilog_text.proofs.Alike.{parted, along_get, along_from, alike_assigns, alike_blocks}
use Rattle.verilog_text.proofs.Writable.{text_spelled, all_filtered}

-- ---- the writing is within the grammar

items_join : (bounds : Limits) (xs ys : List Item) → AreItems bounds xs → AreItems bounds ys → AreItems bounds (xs ++ ys)
items_join bounds [] ys a b = b
items_join bounds (x ∷ xs) ys a b = (a.0, items_join bounds xs ys a.1 b)

declared_good : (bounds : Limits) (ss : List Signal) → AreItems bounds (map declared_of ss)
declared_good bounds [] = tt
declared_good bounds (s ∷ ss) = (tt, declared_good bounds ss)

assigned_good : (bounds : Limits) (n : ℕ) (xs : List Assignment) → AllFormed (IsFormedAssignment bounds n) xs → AreItems bounds (map assigned_of xs)
assigned_good bounds n [] f = tt
assigned_good bounds n (a ∷ xs) f = ((grouped_spelling n a.value f.0.1, f.0.2, f.0.3), assigned_good bounds n xs f.1)

clocked_good : (bounds : Limits) (n : ℕ) (xs : List Action) → AllFormed (IsFormedBlock bounds n) xs → AreItems bounds (map clocked_of xs)
clocked_good bounds n [] f = tt
clocked_good bounds n (a ∷ xs) f = ((parted_statement n a f.0.0, f.0.1, f.0.2), clocked_good bounds n xs f.1)

pub items_good : (bounds : Limits) (d : Design) → IsWritable bounds d → AreItems bounds (items_of d)
items_good bounds d w =
    let n : ℕ = length d.names in
    items_join bounds _ _ (declared_good bounds (stores_in d.signals)) (items_join bounds _ _ (assigned_good bounds n d.assigns w.assigns) (clocked_good bounds n d.blocks w.blocks))

-- ---- and stands for the module

assigns_of-join : (xs ys : List Item) → assigns_of (xs ++ ys) ≡ assigns_of xs ++ assigns_of ys
assigns_of-join [] ys = refl
assigns_of-join (x ∷ xs) ys = ap (λ zs. item_assigns x ++ zs) (assigns_of-join xs ys) ∙ sym (append_assoc (item_assigns x) (assigns_of xs) (assigns_of ys))

blocks_of-join : (xs ys : List Item) → blocks_of (xs ++ ys) ≡ blocks_of xs ++ blocks_of ys
blocks_of-join [] ys = refl
blocks_of-join (x ∷ xs) ys = ap (λ zs. item_blocks x ++ zs) (blocks_of-join xs ys) ∙ sym (append_assoc (item_blocks x) (blocks_of xs) (blocks_of ys))

items_signals-join : (xs ys : List Item) → items_signals (xs ++ ys) ≡ items_signals xs ++ items_signals ys
items_signals-join [] ys = refl
items_signals-join (x ∷ xs) ys = ap (λ zs. item_signals x ++ zs) (items_signals-join xs ys) ∙ sym (append_assoc (item_signals x) (items_signals xs) (items_signals ys))

no_assigns : (ss : List Signal) → assigns_of (map declared_of ss) ≡ []
no_assigns [] = refl
no_assigns (s ∷ ss) = no_assigns ss

no_blocks : (ss : List Signal) → blocks_of (map declared_of ss) ≡ []
no_blocks [] = refl
no_blocks (s ∷ ss) = no_blocks ss

no_assigns_clocked : (xs : List Action) → assigns_of (map clocked_of xs) ≡ []
no_assigns_clocked [] = refl
no_assigns_clocked (x ∷ xs) = no_assigns_clocked xs

no_signals_clocked : (xs : List Action) → items_signals (map clocked_of xs) ≡ []
no_signals_clocked [] = refl
no_signals_clocked (x ∷ xs) = no_signals_clocked xs

no_blocks_assigned : (xs : List Assignment) → blocks_of (map assigned_of xs) ≡ []
no_blocks_assigned [] = refl
no_blocks_assigned (x ∷ xs) = no_blocks_assigned xs

no_signals_assigned : (xs : List Assignment) → items_signals (map assigned_of xs) ≡ []
no_signals_assigned [] = refl
no_signals_assigned (x ∷ xs) = no_signals_assigned xs

assigns_assigned : (bounds : Limits) (n : ℕ) (xs : List Assignment) → AllFormed (IsFormedAssignment bounds n) xs → assigns_of (map assigned_of xs) ≡ xs
assigns_assigned bounds n [] f = refl
assigns_assigned bounds n (a ∷ xs) f = ap (λ v. record { target = a.target; value = v } ∷ assigns_of (map assigned_of xs)) (tree_of-spelling a.value) ∙ ap (λ zs. a ∷ zs) (assigns_assigned bounds n xs f.1)

-- the statements of the blocks as they are read
abbrev pub written_blocks : List Action → List Action
written_blocks xs = map (λ a. action_of (statement_of a)) xs

blocks_clocked : (xs : List Action) → blocks_of (map clocked_of xs) ≡ written_blocks xs
blocks_clocked [] = refl
blocks_clocked (a ∷ xs) = ap (λ zs. action_of (statement_of a) ∷ zs) (blocks_clocked xs)

pub assigns_of-items_of : (bounds : Limits) (d : Design) → IsWritable bounds d → assigns_of (items_of d) ≡ d.assigns
assigns_of-items_of bounds d w =
    assigns_of-join (map declared_of (stores_in d.signals)) _
    ∙ ap (λ zs. zs ++ assigns_of (map assigned_of d.assigns ++ map clocked_of d.blocks)) (no_assigns (stores_in d.signals))
    ∙ assigns_of-join (map assigned_of d.assigns) (map clocked_of d.blocks)
    ∙ ap (λ zs. assigns_of (map assigned_of d.assigns) ++ zs) (no_assigns_clocked d.blocks)
    ∙ append-nil (assigns_of (map assigned_of d.assigns))
    ∙ assigns_assigned bounds (length d.names) d.assigns w.assigns

pub blocks_of-items_of : (d : Design) → blocks_of (items_of d) ≡ written_blocks d.blocks
blocks_of-items_of d =
    blocks_of-join (map declared_of (stores_in d.signals)) _
    ∙ ap (λ zs. zs ++ blocks_of (map assigned_of d.assigns ++ map clocked_of d.blocks)) (no_blocks (stores_in d.signals))
    ∙ blocks_of-join (map assigned_of d.assigns) (map clocked_of d.blocks)
    ∙ ap (λ zs. zs ++ blocks_of (map clocked_of d.blocks)) (no_blocks_assigned d.assigns)
    ∙ blocks_clocked d.blocks

-- a declaration is read as it was, but for its place
record IsShaped (range : Option Decimal) (ranged : Bool) (width : ℕ) : Type 0 where
  ranged_is : is_ranged range ≡ ranged
  width_is : width_of range ≡ width

shaped : (ranged : Bool) (width : ℕ) → 1 ≤ width → (ranged ≡ false → width ≡ 1) → IsShaped (range_of ranged width) ranged width
shaped true width low one = record { ranged_is = refl; width_is = omega arith }
shaped false width low one = record { ranged_is = refl; width_is = sym (one refl) }

signal_is : (n : ℕ) (s : Signal) (k : Kind) → k ≡ s.kind → IsFormedSignal n s → signal_of k (shape_of s) s.name ≡ unplaced s
signal_is n s k e f =
    let x = shaped s.ranged s.width f.1 f.3 in
    ap (λ r. record { name = s.name; kind = k; signed = s.signed; ranged = r; width = width_of (range_of s.ranged s.width); place = 0 }) x.ranged_is
    ∙ ap (λ w. record { name = s.name; kind = k; signed = s.signed; ranged = s.ranged; width = w; place = 0 }) x.width_is
    ∙ ap (λ v. record { name = s.name; kind = v; signed = s.signed; ranged = s.ranged; width = s.width; place = 0 }) e

port_kind : (k : Kind) → is_port k ≡ true → direction_kind (direction_of k) ≡ k
port_kind kind.Input e = refl
port_kind kind.Output e = refl
port_kind kind.Wire e = cc
port_kind kind.Reg e = cc

store_kind_is : (k : Kind) → not (is_port k) ≡ true → store_kind (store_of k) ≡ k
store_kind_is kind.Input e = cc
store_kind_is kind.Output e = cc
store_kind_is kind.Wire e = refl
store_kind_is kind.Reg e = refl

-- all that pass a filter pass its test
all_pass : {X : Type 0} (p : X → Bool) (xs : List X) → AllFormed (λ x. p x ≡ true) (filter p xs)
all_pass p [] = tt
all_pass p (x ∷ xs) = cond_both (p x) (x ∷ filter p xs) (filter p xs) (AllFormed (λ y. p y ≡ true)) (λ e. (e, all_pass p xs)) (λ e. all_pass p xs)

ports_are : (n : ℕ) (before : FreshPort) (ss : List Signal) → AllFormed (IsFormedSignal n) ss → AllFormed (λ s. is_port s.kind ≡ true) ss → port_signals before (map port_of ss) ≡ map unplaced ss
ports_are n before [] f p = refl
ports_are n before (s ∷ ss) f p = let x = signal_is n s _ (port_kind s.kind p.0) f.0 in let y = ports_are n (fresh_of s) ss f.1 p.1 in cc (x, y)

first_are : (n : ℕ) (ss : List Signal) → 0 < length ss → AllFormed (IsFormedSignal n) ss → AllFormed (λ s. is_port s.kind ≡ true) ss → (fresh_signal (first_port ss) ∷ port_signals (first_port ss) (other_ports ss)) ≡ map unplaced ss
first_are n [] some f p = absurd (omega arith)
first_are n (s ∷ ss) some f p = let x = signal_is n s _ (port_kind s.kind p.0) f.0 in let y = ports_are n (fresh_of s) ss f.1 p.1 in cc (x, y)

stores_are : (n : ℕ) (ss : List Signal) → AllFormed (IsFormedSignal n) ss → AllFormed (λ s. not (is_port s.kind) ≡ true) ss → items_signals (map declared_of ss) ≡ map unplaced ss
stores_are n [] f p = refl
stores_are n (s ∷ ss) f p = let x = signal_is n s _ (store_kind_is s.kind p.0) f.0 in let y = stores_are n ss f.1 p.1 in cc (x, y)

-- the ports first, and then the wires and registers
abbrev pub written_signals : Design → List Signal
written_signals d = map unplaced (ports_in d.signals) ++ map unplaced (stores_in d.signals)

pub signals_of-text_of : (bounds : Limits) (d : Design) → IsWritable bounds d → signals_of (text_of d) ≡ written_signals d
signals_of-text_of bounds d w =
    let n : ℕ = length d.names in
    let ports : List Signal = ports_in d.signals in
    let stores : List Signal = stores_in d.signals in
    let rest : List Item = map assigned_of d.assigns ++ map clocked_of d.blocks in
    let x = first_are n ports w.port (all_filtered (IsFormedSignal n) (λ s. is_port s.kind) d.signals w.signals) (all_pass (λ s. is_port s.kind) d.signals) in
    let y = stores_are n stores (all_filtered (IsFormedSignal n) (λ s. not (is_port s.kind)) d.signals w.signals) (all_pass (λ s. not (is_port s.kind)) d.signals) in
    let none : items_signals rest ≡ [] = items_signals-join (map assigned_of d.assigns) (map clocked_of d.blocks) ∙ ap (λ zs. zs ++ items_signals (map clocked_of d.blocks)) (no_signals_assigned d.assigns) ∙ no_signals_clocked d.blocks in
    let items : items_signals (items_of d) ≡ map unplaced stores = items_signals-join (map declared_of stores) rest ∙ ap (λ zs. items_signals (map declared_of stores) ++ zs) none ∙ append-nil (items_signals (map declared_of stores)) ∙ y in
    ap (λ zs. (fresh_signal (first_port ports) ∷ port_signals (first_port ports) (other_ports ports)) ++ zs) items ∙ ap (λ zs. zs ++ map unplaced stores) x

-- ---- the round trip

some_name : (names : List (List ℕ)) (n : ℕ) → n < length names → slice_get names n ≡ Some (name_in names n)
some_name [] n h = absurd (omega arith)
some_name (x ∷ names) zero h = refl
some_name (x ∷ names) (suc n) h = some_name names n (omega arith)

-- where tokens are laid out, and the names that are found there
abbrev pub pieces_of : Design → List Placed
pieces_of d = placed d.names (0 + length heading) (tokens_of (number_in d.names clock_text) (text_of d))

abbrev pub names_of : Design → List (List ℕ)
names_of d = names_behind [] (pieces_of d)

abbrev pub number_found : Design → ℕ → ℕ
number_found d n = number_in (names_of d) (name_in d.names n)

-- the module that is read back
abbrev pub read_back : Design → Design
read_back d = design_of (names_of d) (declared_places false (pieces_of d)) (text_in (number_found d) (text_of d))

abbrev pub bytes_of : Design → List ℕ
bytes_of d = heading ++ laid_out d.names (tokens_of (number_in d.names clock_text) (text_of d))

module _ (d : Design) (w : IsWritable limits d) where
  pub reads_back : Reads (bytes_of d) (read_back d)
  reads_back =
      let tick : ℕ = number_in d.names clock_text in
      let tokens : List Token = tokens_of tick (text_of d) in
      let t : Text = text_in (number_found d) (text_of d) in
      let ticks : number_found d tick ≡ number_in (names_of d) clock_text = ap (number_in (names_of d)) (name_of_number d.names clock_text w.clock) in
      record {
        pieces = pieces_of d;
        scans = text_reads_back d.names tokens (text_spelled limits d w);
        text = t;
        in_limits = items_good_in (number_found d) limits (items_of d) (items_good limits d w);
        tokens_are =
            lexemes_of_placed d.names (names_of d) tokens (0 + length heading)
            ∙ ap (map Inside) (sym (tokens_of_in (number_found d) tick (text_of d)) ∙ ap (λ k. tokens_of k t) ticks);
        design_is = refl;
      }

-- each name that is found has its text there too
pub names_back : (d : Design) → IsWritable limits d → OfNames (λ n. SameName (names_of d) d.names (number_found d n) n) (tokens_of (number_in d.names clock_text) (text_of d))
names_back d w =
    let tokens : List Token = tokens_of (number_in d.names clock_text) (text_of d) in
    each (λ n. (n < length d.names) × (number_found d n < length (names_of d))) (λ n. SameName (names_of d) d.names (number_found d n) n)
    (λ n h. (name_in d.names n, some_name (names_of d) (number_found d n) h.1 ∙ ap Some (name_of_number (names_of d) (name_in d.names n) h.1), some_name d.names n h.0))
    tokens (found d.names [] (0 + length heading) tokens (text_spelled limits d w))

-- what is read back for a declaration, its place apart
along_signals : (same : ℕ → ℕ → Type 0) (from : ℕ → ℕ) (places : List ℕ) (ss : List Signal) → AllFormed (OfSignal (λ n. same (from n) n)) (map unplaced ss) → Along (IsAlikeSignal same) (with_places places (map (signal_in from) (map unplaced ss))) ss
along_signals same from places [] h = subst (λ xs. Along (IsAlikeSignal same) xs []) (sym (none_placed places)) ends
  where
    none_placed : (ps : List ℕ) → with_places ps [] ≡ []
    none_placed [] = refl
    none_placed (p ∷ ps) = refl
along_signals same from [] (s ∷ ss) h = goes (record { name = h.0; kind = refl; signed = refl; ranged = refl; width = refl }) (along_signals same from [] ss h.1)
along_signals same from (p ∷ places) (s ∷ ss) h = goes (record { name = h.0; kind = refl; signed = refl; ranged = refl; width = refl }) (along_signals same from places ss h.1)

map_joined : {A B : Type 0} (f : A → B) (xs ys : List A) → map f (xs ++ ys) ≡ map f xs ++ map f ys
map_joined f [] ys = refl
map_joined f (x ∷ xs) ys = ap (λ zs. f x ∷ zs) (map_joined f xs ys)

pub signals_back : (d : Design) → IsWritable limits d → Along (IsAlikeSignal (SameName (names_of d) d.names)) (read_back d).signals (ordered_signals d)
signals_back d w =
    let from : ℕ → ℕ = number_found d in
    let same : ℕ → ℕ → Type 0 = SameName (names_of d) d.names in
    let t : Text = text_of d in
    let places : List ℕ = declared_places false (pieces_of d) in
    let holds = of_text (λ n. same (from n) n) (number_in d.names clock_text) t (names_back d w) in
    let e : signals_of t ≡ map unplaced (ordered_signals d) = signals_of-text_of limits d w ∙ sym (map_joined unplaced (ports_in d.signals) (stores_in d.signals)) in
    subst (λ ss. Along (IsAlikeSignal same) (with_places places ss) (ordered_signals d)) (sym (signals_of_in from t ∙ ap (map (signal_in from)) e))
    (along_signals same from places (ordered_signals d) (subst (AllFormed (OfSignal (λ n. same (from n) n))) e holds.signals))

pub alike_back : (d : Design) → IsWritable limits d → IsAlike (read_back d) d
alike_back d w =
    let from : ℕ → ℕ = number_found d in
    let same : ℕ → ℕ → Type 0 = SameName (names_of d) d.names in
    let t : Text = text_of d in
    let holds = of_text (λ n. same (from n) n) (number_in d.names clock_text) t (names_back d w) in
    let along = signals_back d w in
    let order = parted (λ s. is_port s.kind) d.signals in
    let blocks = blocks_of-items_of d in
    record {
      name = holds.name;
      there = order.there;
      back = order.back;
      there_back = order.there_back;
      back_there = order.back_there;
      signals = λ k s e. let x = along_get (IsAlikeSignal same) (read_back d).signals (ordered_signals d) along k s e in (x.0, order.gets k ∙ x.1, x.2);
      no_others = λ k s e.
          let there : slice_get (ordered_signals d) (order.back k) ≡ Some s = sym (order.gets (order.back k)) ∙ ap (slice_get d.signals) (order.back_there k) ∙ e in
          along_from (IsAlikeSignal same) (read_back d).signals (ordered_signals d) along (order.back k) s there;
      assigns =
          let e = assigns_of-items_of limits d w in
          subst (λ xs. AreAlikeAssigns same xs d.assigns) (sym (assigns_of_in from (items_of d) ∙ ap (map (assignment_in from)) e)) (alike_assigns same from d.assigns (subst (AllFormed (OfAssignment (λ n. same (from n) n))) e holds.assigns));
      blocks =
          subst (λ xs. AreAlikeBlocks same xs d.blocks) (sym (blocks_of_in from (items_of d) ∙ ap (map (action_in from)) blocks))
          (alike_blocks same from (λ a. action_of (statement_of a)) plain_action-statement d.blocks (subst (AllFormed (OfAction (λ n. same (from n) n))) blocks holds.blocks));
    }
