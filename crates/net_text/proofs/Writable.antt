-- A written module has a text, and its names are numbered in order.
use Rattle.std.proofs.Common.{◌≡◌, ℕ, zero, suc, ◌+◌, ◌<◌, ◌≤◌, ◌^◌, Bool, true, false, not, cond, List, [], ◌∷◌, ◌++◌, length, filter, Option, None, Some, slice_get, refl, sym, ◌∙◌, ap, arith, subst}
use Rattle.std.specs.Prelude.{IsSome, pos}
use Rattle.std.proofs.lemmas.Option.{slice_get_within}
use Rattle.mr_values.proofs.WidthLemmas.{pattern-lt}
use Rattle.net_graph.specs.declared.cell.Cell.{Cell}
use Rattle.net_graph.specs.declared.cell.Node.{Node}
use Rattle.net_graph.specs.declared.cell.Item.{Item}
use Rattle.net_graph.specs.declared.cell.Item.TheVariants.{Input, Constant, Add, Sub, Shl, Shr, Mux, Equal, Bits, Register}
use Rattle.net_graph.specs.Name.{is_input}
use Rattle.net_graph.specs.WellFormed.{IsNetlist, OperandsBelow, SelectsWithin}
use Rattle.net_graph.specs.Cells.{cell_at}
use Rattle.net_graph.proofs.CellLemmas.{cell_at-there}
use Rattle.verilog_tree.specs.declared.tree.Signal.{Signal}
use Rattle.verilog_tree.specs.Tree.{Tree, Design}
use Rattle.verilog_text.specs.Grammar.{limits, depth, operators}
use Rattle.verilog_text.specs.Shortest.{spelling, IsFormed, IsFormedAssignment, IsFormedBlock, IsFormedSignal, AllFormed, is_port, IsWritable as HasText}
use Rattle.verilog_text.specs.Order.{AreNumbered, IsUntangled, IsInOrder}
use Rattle.net_module.specs.Written.{IsWritable, is_wire, is_register, input_place, output_place, valid_place, number_of, number_in, number_after, own_number, unless, node_text, node_texts, node_signal, node_signals, kind_for, tree_for, node_assigns, node_blocks, block_for, ports, written_module}
use Rattle.net_module.proofs.Numbers.{number_input}
use Rattle.net_module.proofs.Cycles.{register_is}
use Rattle.net_module.proofs.Outputs.{valid_there, output_there}
use Rattle.net_module.proofs.PassesUses.{IsRest, rest_more, rest_here, rest_all}
use Rattle.net_module.proofs.PassesRest.{in_range, out_range}
use Rattle.net_text.specs.Small.{AreSmall}
use Rattle.net_text.proofs.Names.{distinct, all_named}

false_true : false ≡ true → ⊥
false_true h = cc

-- ---- how many names there are

-- a node's number lies among the names
number_among : (cs : List Cell) (first p place : ℕ) (cell : Cell) → slice_get cs place ≡ Some cell → is_input cell.item ≡ false → number_in cs first place < first + length (node_texts cs p)
number_among [] first p place cell at data_node = absurd (omega (arith, slice_get_within {A = Cell} [] place cell at))
number_among (x ∷ cs) first p zero cell at data_node = by (is_input x.item) (ap (λ (c : Cell). is_input c.item) (one x cell at) ∙ data_node)
  where
    one : (c d : Cell) → Some c ≡ Some d → c ≡ d
    one c d e = cc

    by : (b : Bool) → b ≡ false → own_number b first < first + length (unless b (node_text x p) (node_texts cs (p + 1)))
    by true e = absurd (false_true (sym e))
    by false e = omega arith
number_among (x ∷ cs) first p (suc place) cell at data_node = by (is_input x.item) (number_among cs (number_after (is_input x.item) first) (p + 1) place cell at data_node)
  where
    by : (b : Bool) → number_in cs (number_after b first) place < number_after b first + length (node_texts cs (p + 1))
        → number_in cs (number_after b first) place < first + length (unless b (node_text x p) (node_texts cs (p + 1)))
    by true lt = lt
    by false lt = omega (arith, lt)

same_count : (cs : List Cell) (first p : ℕ) → length (node_signals cs first) ≡ length (node_texts cs p)
same_count [] first p = refl
same_count (x ∷ cs) first p = by (is_input x.item) (same_count cs (number_after (is_input x.item) first) (p + 1))
  where
    by : (b : Bool) → length (node_signals cs (number_after b first)) ≡ length (node_texts cs (p + 1))
        → length (unless b (node_signal x first) (node_signals cs (number_after b first))) ≡ length (unless b (node_text x p) (node_texts cs (p + 1)))
    by true e = e
    by false e = ap suc e

node_store : (b : Bool) → is_port (kind_for b) ≡ false
node_store true = refl
node_store false = refl

no_ports : (cs : List Cell) (first : ℕ) → filter (λ (s : Signal). is_port s.kind) (node_signals cs first) ≡ []
no_ports [] first = refl
no_ports (x ∷ cs) first = by (is_input x.item) (no_ports cs (number_after (is_input x.item) first))
  where
    by : (b : Bool) → filter (λ (s : Signal). is_port s.kind) (node_signals cs (number_after b first)) ≡ []
        → filter (λ (s : Signal). is_port s.kind) (unless b (node_signal x first) (node_signals cs (number_after b first))) ≡ []
    by true e = e
    by false e = ap (λ (c : Bool). cond c (node_signal x first ∷ filter (λ (s : Signal). is_port s.kind) (node_signals cs (first + 1))) (filter (λ (s : Signal). is_port s.kind) (node_signals cs (first + 1)))) (node_store (is_register x.item)) ∙ e

all_stores : (cs : List Cell) (first : ℕ) → filter (λ (s : Signal). not (is_port s.kind)) (node_signals cs first) ≡ node_signals cs first
all_stores [] first = refl
all_stores (x ∷ cs) first = by (is_input x.item) (all_stores cs (number_after (is_input x.item) first))
  where
    by : (b : Bool) → filter (λ (s : Signal). not (is_port s.kind)) (node_signals cs (number_after b first)) ≡ node_signals cs (number_after b first)
        → filter (λ (s : Signal). not (is_port s.kind)) (unless b (node_signal x first) (node_signals cs (number_after b first))) ≡ unless b (node_signal x first) (node_signals cs (number_after b first))
    by true e = e
    by false e =
        ap (λ (c : Bool). cond (not c) (node_signal x first ∷ filter (λ (s : Signal). not (is_port s.kind)) (node_signals cs (first + 1))) (filter (λ (s : Signal). not (is_port s.kind)) (node_signals cs (first + 1)))) (node_store (is_register x.item))
        ∙ ap (λ (ss : List Signal). node_signal x first ∷ ss) e

numbered : (cs : List Cell) (first : ℕ) → AreNumbered first (node_signals cs first)
numbered [] first = tt
numbered (x ∷ cs) first = by (is_input x.item) (numbered cs (number_after (is_input x.item) first))
  where
    by : (b : Bool) → AreNumbered (number_after b first) (node_signals cs (number_after b first)) → AreNumbered first (unless b (node_signal x first) (node_signals cs (number_after b first)))
    by true e = e
    by false e = (refl, e)

untangled : (number : ℕ → ℕ) (cs : List Cell) (p : ℕ) → AllFormed IsUntangled (node_blocks number cs p)
untangled number [] p = tt
untangled number (x ∷ cs) p = by (is_register x.item) (untangled number cs (p + 1))
  where
    by : (b : Bool) → AllFormed IsUntangled (node_blocks number cs (p + 1)) → AllFormed IsUntangled (unless (not b) (block_for (number p) x.width (tree_for number x.width x.item)) (node_blocks number cs (p + 1)))
    by false all = all
    by true all = ((refl, tt, tt), all)

module _ (cells : List Cell) (netlist : IsNetlist cells) (writable : IsWritable cells) where
  abbrev G : Design
  G = written_module cells

  abbrev Q : ℕ → ℕ
  Q = number_of cells

  abbrev count : ℕ
  count = length G.names

  node_among : (k : ℕ) → k < length cells → Q k < count
  node_among k lt = by (is_input (cell_at cells k).item) refl
    where
      there : slice_get cells k ≡ Some (cell_at cells k)
      there = cell_at-there cells k lt

      by : (b : Bool) → is_input (cell_at cells k).item ≡ b → Q k < count
      by true is = omega (arith, number_input cells 7 k (cell_at cells k) there is)
      by false is = omega (arith, number_among cells 7 0 k (cell_at cells k) there is)

  -- ---- expressions

  pub record IsShallow (e : Tree) : Type 0 where
    pub formed : IsFormed count e
    pub levels : depth (spelling e) ≤ 200
    pub short : operators (spelling e) ≤ 1000

  tree_shallow : (item : Item) (place n width : ℕ) → (1 ≤ width) × (width ≤ 128) → OperandsBelow place n width (Some item) → place ≤ length cells → n ≡ length cells → SelectsWithin cells (Some item) → IsShallow (tree_for Q width (Some item))
  tree_shallow Input place n width wide o le is within = record { formed = omega arith; levels = omega arith; short = omega arith }
  tree_shallow (Constant v) place n width wide o le is within = record { formed = (wide.0, wide.1, pattern-lt width v); levels = omega arith; short = omega arith }
  tree_shallow (Add a b) place n width wide o le is within =
      record { formed = (node_among a.place (omega (arith, o.0)), node_among b.place (omega (arith, o.1))); levels = omega arith; short = omega arith }
  tree_shallow (Sub a b) place n width wide o le is within =
      record { formed = (node_among a.place (omega (arith, o.0)), node_among b.place (omega (arith, o.1))); levels = omega arith; short = omega arith }
  tree_shallow (Shl a by) place n width wide o le is within = record { formed = (o.1, node_among a.place (omega (arith, o.0))); levels = omega arith; short = omega arith }
  tree_shallow (Shr a by) place n width wide o le is within = record { formed = (o.1, node_among a.place (omega (arith, o.0))); levels = omega arith; short = omega arith }
  tree_shallow (Mux on a b) place n width wide o le is within =
      record { formed = (node_among on.place (omega (arith, o.0)), node_among a.place (omega (arith, o.1)), node_among b.place (omega (arith, o.2))); levels = omega arith; short = omega arith }
  tree_shallow (Equal a b) place n width wide o le is within =
      record { formed = (node_among a.place (omega (arith, o.0)), node_among b.place (omega (arith, o.1))); levels = omega arith; short = omega arith }
  tree_shallow (Bits a high low) place n width wide o le is within =
      let there = cell_at-there cells a.place (omega (arith, o.0)) in
      let inside = within.inside (cell_at cells a.place) there in
      let most = (netlist.well_formed.each a.place (cell_at cells a.place) there).wide.1 in
      record { formed = (node_among a.place (omega (arith, o.0)), (let h : high < 2 ^ 31 = omega (arith, inside, most) in h), (let h : low < 2 ^ 31 = omega (arith, inside, most, o.1) in h)); levels = omega arith; short = omega arith }
  tree_shallow (Register next) place n width wide o le is within = record { formed = node_among next.place (omega (arith, o)); levels = omega arith; short = omega arith }

  cell_shallow : (place : ℕ) (cell : Cell) → slice_get cells place ≡ Some cell → IsShallow (tree_for Q cell.width cell.item)
  cell_shallow place cell at =
      let reads = netlist.well_formed.each place cell at in
      by cell.item refl (netlist.bound.each place cell at) reads.operands reads.selects reads.wide
    where
      by : (item : Option Item) → cell.item ≡ item → IsSome item → OperandsBelow place (length cells) cell.width cell.item → SelectsWithin cells cell.item → (1 ≤ cell.width) × (cell.width ≤ 128) → IsShallow (tree_for Q cell.width cell.item)
      by None is some o within wide = absurd (false_true some)
      by (Some item) is some o within wide =
          subst (λ (i : Option Item). IsShallow (tree_for Q cell.width i)) (sym is)
          (tree_shallow item place (length cells) cell.width wide (subst (OperandsBelow place (length cells) cell.width) is o)
          (let le : place ≤ length cells = omega (arith, slice_get_within cells place cell at) in le) refl (subst (SelectsWithin cells) is within))

  -- ---- the parts

  assigns_formed : (cs : List Cell) (p : ℕ) → IsRest cells cs p → AllFormed (IsFormedAssignment limits count) (node_assigns Q cs p)
  assigns_formed [] p is = tt
  assigns_formed (x ∷ cs) p is = by (is_wire x.item) (assigns_formed cs (p + 1) (rest_more cells x cs p is))
    where
      by : (b : Bool) → AllFormed (IsFormedAssignment limits count) (node_assigns Q cs (p + 1))
          → AllFormed (IsFormedAssignment limits count) (unless (not b) (record { target = Q p; value = tree_for Q x.width x.item }) (node_assigns Q cs (p + 1)))
      by false all = all
      by true all =
          let here = rest_here cells x cs p is in
          let e = cell_shallow p x here in
          ((node_among p (slice_get_within cells p x here), e.formed, e.levels, e.short), all)

  blocks_formed : (cs : List Cell) (p : ℕ) → IsRest cells cs p → AllFormed (IsFormedBlock limits count) (node_blocks Q cs p)
  blocks_formed [] p is = tt
  blocks_formed (x ∷ cs) p is = by (is_register x.item) refl (blocks_formed cs (p + 1) (rest_more cells x cs p is))
    where
      here : slice_get cells p ≡ Some x
      here = rest_here cells x cs p is

      own : Q p < count
      own = node_among p (slice_get_within cells p x here)

      block : (item : Option Item) → (next : Node) × (item ≡ Some (Register next)) → IsShallow (tree_for Q x.width item) → IsFormedBlock limits count (block_for (Q p) x.width (tree_for Q x.width item))
      block item (next, e) shallow =
          subst (λ (i : Option Item). IsFormedBlock limits count (block_for (Q p) x.width (tree_for Q x.width i))) (sym e)
          (let f = (subst (λ (i : Option Item). IsShallow (tree_for Q x.width i)) e shallow).formed in
          let wide = (netlist.well_formed.each p x here).wide in
          let two : 2 < count = omega arith in
          let three : 3 < count = omega arith in
          let some : 0 < 2 ^ x.width = pattern_some x.width in
          ((two, (own, (wide.0, wide.1, some)), (three, (own, f))), omega arith, (omega arith, omega arith, (omega arith, omega arith))))
        where
          pattern_some : (w : ℕ) → 0 < 2 ^ w
          pattern_some w = omega (arith, pattern-lt w (pos 0))

      by : (b : Bool) → is_register x.item ≡ b → AllFormed (IsFormedBlock limits count) (node_blocks Q cs (p + 1))
          → AllFormed (IsFormedBlock limits count) (unless (not b) (block_for (Q p) x.width (tree_for Q x.width x.item)) (node_blocks Q cs (p + 1)))
      by false e all = all
      by true e all = (block x.item (register_is x.item e) (cell_shallow p x here), all)

  signals_formed : (cs : List Cell) (p first : ℕ) → IsRest cells cs p → first + length (node_texts cs p) ≤ count → AllFormed (IsFormedSignal count) (node_signals cs first)
  signals_formed [] p first is le = tt
  signals_formed (x ∷ cs) p first is le = by (is_input x.item) le (λ f h. signals_formed cs (p + 1) f (rest_more cells x cs p is) h)
    where
      wide : (1 ≤ x.width) × (x.width ≤ 128)
      wide = (netlist.well_formed.each p x (rest_here cells x cs p is)).wide

      by : (b : Bool) → first + length (unless b (node_text x p) (node_texts cs (p + 1))) ≤ count
          → ((f : ℕ) → f + length (node_texts cs (p + 1)) ≤ count → AllFormed (IsFormedSignal count) (node_signals cs f))
          → AllFormed (IsFormedSignal count) (unless b (node_signal x first) (node_signals cs (number_after b first)))
      by true h more = more first h
      by false h more = ((omega (arith, h), wide.0, omega (arith, wide.1), λ e. absurd (false_true (sym e))), more (first + 1) (omega (arith, h)))

  pub has_text : AreSmall cells → HasText limits G
  has_text small =
      let valid = valid_there cells netlist writable in
      let output = output_there cells netlist writable in
      let into = in_range cells netlist writable in
      let out = out_range cells netlist writable in
      let one : 1 ≤ 2 ^ 31 = omega arith in
      record {
        distinct = distinct cells netlist small;
        names = all_named cells netlist small;
        name = omega arith;
        signals = (
          (omega arith, omega arith, one, λ e. refl),
          (
            (omega arith, omega arith, one, λ e. refl),
            (
              (omega arith, omega arith, one, λ e. refl),
              (
                (omega arith, into.0, omega (arith, into.1), λ e. absurd (false_true (sym e))),
                (
                  (omega arith, omega arith, one, λ e. refl),
                  ((omega arith, out.0, omega (arith, out.1), λ e. absurd (false_true (sym e))), signals_formed cells 0 7 (rest_all cells) (omega arith)),
                ),
              ),
            ),
          ),
        );
        assigns = (
          (omega arith, node_among (valid_place cells) (slice_get_within cells (valid_place cells) valid.cell valid.there), omega arith, omega arith),
          ((omega arith, node_among (output_place cells) (slice_get_within cells (output_place cells) output.cell output.there), omega arith, omega arith), assigns_formed cells 0 (rest_all cells)),
        );
        blocks = blocks_formed cells 0 (rest_all cells);
        port = omega arith;
        clock = omega arith;
      }

  pub in_order : IsInOrder G
  in_order = record {
    name_first = refl;
    in_turn = (refl, (refl, (refl, (refl, (refl, (refl, numbered cells 7))))));
    all_declared = omega (arith, same_count cells 7 0);
    ports_first =
        ap (λ (l : List Signal). (ports (cell_at cells (input_place cells)).width (cell_at cells (output_place cells)).width ++ l) ++ filter (λ (s : Signal). not (is_port s.kind)) (node_signals cells 7)) (no_ports cells 7)
        ∙ ap (λ (l : List Signal). ports (cell_at cells (input_place cells)).width (cell_at cells (output_place cells)).width ++ l) (all_stores cells 7);
    untangled = untangled Q cells 0;
  }
