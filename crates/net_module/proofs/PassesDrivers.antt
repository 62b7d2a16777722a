-- Each signal of a written module is driven once, and none depends on itself.
use Rattle.std.proofs.Common.{◌≡◌, ℕ, zero, suc, ◌+◌, ◌<◌, ◌≤◌, Bool, true, false, not, ◌&&◌, ◌||◌, cond, List, [], ◌∷◌, length, find, Option, None, Some, slice_get, refl, sym, ◌∙◌, ap, arith, subst, ◌⊎◌, inl, inr}
use Rattle.std.specs.Prelude.{◌==◌, IsSome}
use Rattle.std.specs.List.{list_any}
use Rattle.std.specs.Option.{option_map}
use Rattle.std.proofs.lemmas.Bool.{eq-eqb, ne_eqb, eqb-true}
use Rattle.std.proofs.lemmas.Option.{slice_get_within}
use Rattle.net_graph.specs.declared.cell.Cell.{Cell}
use Rattle.net_graph.specs.declared.cell.Item.{Item}
use Rattle.net_graph.specs.declared.cell.Item.TheVariants.{Input, Constant, Add, Sub, Shl, Shr, Mux, Equal, Bits, Register}
use Rattle.net_graph.specs.Name.{is_input}
use Rattle.net_graph.specs.WellFormed.{IsNetlist, OperandsBelow}
use Rattle.net_graph.specs.Cells.{cell_at}
use Rattle.net_graph.proofs.CellLemmas.{cell_at-there, same_cell}
use Rattle.verilog_tree.specs.declared.tree.Signal.{Signal}
use Rattle.verilog_tree.specs.Tree.{Assignment, Design}
use Rattle.verilog_tree.specs.Cycle.{reads, AreLevels}
use Rattle.verilog_tree.specs.Checks.{Drive, drives, assigns_drives, blocks_drives, many_drivers, needs_driver, is_driven, no_driver, Passes}
use Rattle.net_module.specs.Written.{IsWritable, is_wire, is_register, own_number, number_after, number_in, unless, node_signal, node_signals, kind_for, tree_for, node_assigns, node_blocks, block_for, valid_place, output_place}
use Rattle.net_module.proofs.Numbers.{number_least, number_below, number_apart, number_input}
use Rattle.net_module.proofs.Lists.{assign_from}
use Rattle.net_module.proofs.Cycles.{register_data, wire_parts}
use Rattle.net_module.proofs.Outputs.{valid_there, output_there}
use Rattle.net_module.proofs.CheckLists.{AllFail, find_none, NoneDrives, none_other, AreFresh, none_shared, no_loop}
use Rattle.net_module.proofs.PassesUses.{IsRest, rest_more, rest_here, rest_all, none_undeclared, none_wrong, none_bad}
use Rattle.net_module.proofs.PassesRest.{F, R, ordered, none_redeclared, none_wrong_port, none_over}

false_true : false ≡ true → ⊥
false_true h = cc

same_assignment : (a b : Assignment) → Some a ≡ Some b → a ≡ b
same_assignment a b e = cc

module _ (cells : List Cell) (netlist : IsNetlist cells) (writable : IsWritable cells) where
  abbrev f : Design
  f = F cells netlist writable

  abbrev r : ℕ → ℕ
  r = R cells netlist writable

  -- ---- drivers are apart

  wire_data : (cell : Cell) → is_wire cell.item ≡ true → is_input cell.item ≡ false
  wire_data cell wire = (wire_parts (is_input cell.item) (is_register cell.item) wire).0

  -- these drive no register from a place on, and no wire from a place on
  record Avoids (seen : List Drive) (wire_from register_from : ℕ) : Type 0 where
    wires : (q : ℕ) (cell : Cell) → slice_get cells q ≡ Some cell → is_wire cell.item ≡ true → wire_from ≤ q → NoneDrives (r q) seen
    registers : (q : ℕ) (cell : Cell) → slice_get cells q ≡ Some cell → is_register cell.item ≡ true → register_from ≤ q → NoneDrives (r q) seen

  wire_no_register : (j k : ℕ) (c d : Cell) → slice_get cells j ≡ Some c → slice_get cells k ≡ Some d → is_wire c.item ≡ true → is_register d.item ≡ true → r j ≡ r k → ⊥
  wire_no_register j k c d at found wire reg same =
      let parts = wire_parts (is_input c.item) (is_register c.item) wire in
      let place = number_apart cells j k c d at found parts.0 (register_data d.item reg) same in
      let one = same_cell c d (slice_get cells k) (ap (slice_get cells) (sym place) ∙ at) found in
      false_true (sym parts.1 ∙ ap (λ (e : Cell). is_register e.item) one ∙ reg)

  fresh_blocks : (cs : List Cell) (p k : ℕ) (seen : List Drive) → IsRest cells cs p → ((q : ℕ) (cell : Cell) → slice_get cells q ≡ Some cell → is_register cell.item ≡ true → p ≤ q → NoneDrives (r q) seen)
      → AreFresh seen (blocks_drives k (node_blocks r cs p))
  fresh_blocks [] p k seen is avoids = tt
  fresh_blocks (x ∷ cs) p k seen is avoids = by (is_register x.item) refl (λ j others a. fresh_blocks cs (p + 1) j others (rest_more cells x cs p is) a)
    where
      here : slice_get cells p ≡ Some x
      here = rest_here cells x cs p is

      by : (b : Bool) → is_register x.item ≡ b
          → ((j : ℕ) (others : List Drive) → ((q : ℕ) (cell : Cell) → slice_get cells q ≡ Some cell → is_register cell.item ≡ true → p + 1 ≤ q → NoneDrives (r q) others) → AreFresh others (blocks_drives j (node_blocks r cs (p + 1))))
          → AreFresh seen (blocks_drives k (unless (not b) (block_for (r p) x.width (tree_for r x.width x.item)) (node_blocks r cs (p + 1))))
      by false e later = later k seen (λ q cell at reg le. avoids q cell at reg (omega arith))
      by true e later =
          let drive : Drive = record { driver = k; name = r p } in
          let none = none_other drive seen (avoids p x here e (omega arith)) in
          let apart : (q : ℕ) (cell : Cell) → slice_get cells q ≡ Some cell → is_register cell.item ≡ true → p + 1 ≤ q → r p ≡ r q → ⊥ =
          λ q cell at reg le same. (let place = number_apart cells p q x cell here at (register_data x.item e) (register_data cell.item reg) same in omega (arith, place)) in
          (none, ((inr refl, none), later (k + 1) (drive ∷ drive ∷ seen) (λ q cell at reg le. (apart q cell at reg le, (apart q cell at reg le, avoids q cell at reg (omega arith))))))

  fresh_assigns : (cs : List Cell) (p k : ℕ) (seen : List Drive) (rest : List Drive) → IsRest cells cs p → Avoids seen p 0
      → ((others : List Drive) → ((q : ℕ) (cell : Cell) → slice_get cells q ≡ Some cell → is_register cell.item ≡ true → 0 ≤ q → NoneDrives (r q) others) → AreFresh others rest)
      → AreFresh seen (assigns_drives k (node_assigns r cs p) rest)
  fresh_assigns [] p k seen rest is avoids after = after seen avoids.registers
  fresh_assigns (x ∷ cs) p k seen rest is avoids after = by (is_wire x.item) refl (λ j others a. fresh_assigns cs (p + 1) j others rest (rest_more cells x cs p is) a after)
    where
      here : slice_get cells p ≡ Some x
      here = rest_here cells x cs p is

      by : (b : Bool) → is_wire x.item ≡ b → ((j : ℕ) (others : List Drive) → Avoids others (p + 1) 0 → AreFresh others (assigns_drives j (node_assigns r cs (p + 1)) rest))
          → AreFresh seen (assigns_drives k (unless (not b) (record { target = r p; value = tree_for r x.width x.item }) (node_assigns r cs (p + 1))) rest)
      by false e later = later k seen (record { wires = λ q cell at wire le. avoids.wires q cell at wire (omega arith); registers = avoids.registers })
      by true e later =
          let drive : Drive = record { driver = k; name = r p } in (
            none_other drive seen (avoids.wires p x here e (omega arith)),
            later (k + 1) (drive ∷ seen) (record {
              wires = λ q cell at wire le. (
                (λ same. (let place = number_apart cells p q x cell here at (wire_data x e) (wire_data cell wire) same in omega (arith, place))),
                avoids.wires q cell at wire (omega arith),
              );
              registers = λ q cell at reg le. (wire_no_register p q x cell here at e reg, avoids.registers q cell at reg le);
            }),
          )

  out_apart : (n q : ℕ) (cell : Cell) → slice_get cells q ≡ Some cell → is_input cell.item ≡ false → n < 7 → n ≡ r q → ⊥
  out_apart n q cell at data_node lt same = omega (arith, number_least cells 7 q cell at data_node)

  all_fresh : AreFresh [] (drives f)
  all_fresh = (
    tt,
    (
      (inl (λ e. cc), tt),
      fresh_assigns cells 0 2 (record { driver = 1; name = 6 } ∷ record { driver = 0; name = 5 } ∷ []) (blocks_drives (length f.assigns) (node_blocks r cells 0)) (rest_all cells)
          (record {
            wires = λ q cell at wire le. (out_apart 6 q cell at (wire_data cell wire) (omega arith), (out_apart 5 q cell at (wire_data cell wire) (omega arith), tt));
            registers = λ q cell at reg le. (out_apart 6 q cell at (register_data cell.item reg) (omega arith), (out_apart 5 q cell at (register_data cell.item reg) (omega arith), tt));
          })
          (λ others avoids. fresh_blocks cells 0 (length f.assigns) others (rest_all cells) avoids),
    ),
  )

  pub none_many : many_drivers f ≡ None
  none_many = none_shared [] (drives f) all_fresh

  -- ---- each signal has a driver

  any_here : (n : ℕ) (x : Drive) (xs : List Drive) → x.name ≡ n → list_any (λ (y : Drive). y.name == n) (x ∷ xs) ≡ true
  any_here n x xs is = ap (λ (b : Bool). b || list_any (λ (y : Drive). y.name == n) xs) (eq-eqb x.name n is)

  any_later : (n : ℕ) (x : Drive) (xs : List Drive) → list_any (λ (y : Drive). y.name == n) xs ≡ true → list_any (λ (y : Drive). y.name == n) (x ∷ xs) ≡ true
  any_later n x xs is = by (x.name == n)
    where
      by : (b : Bool) → (b || list_any (λ (y : Drive). y.name == n) xs) ≡ true
      by true = refl
      by false = is

  after_assigns : (n k : ℕ) (as' : List Assignment) (rest : List Drive) → list_any (λ (y : Drive). y.name == n) rest ≡ true → list_any (λ (y : Drive). y.name == n) (assigns_drives k as' rest) ≡ true
  after_assigns n k [] rest is = is
  after_assigns n k (a ∷ as') rest is = any_later n (record { driver = k; name = a.target }) (assigns_drives (k + 1) as' rest) (after_assigns n (k + 1) as' rest is)

  wire_driven : (cs : List Cell) (p k place : ℕ) (cell : Cell) (rest : List Drive) → slice_get cs place ≡ Some cell → is_wire cell.item ≡ true
      → list_any (λ (y : Drive). y.name == r (p + place)) (assigns_drives k (node_assigns r cs p) rest) ≡ true
  wire_driven [] p k place cell rest at wire = absurd (omega (arith, slice_get_within {A = Cell} [] place cell at))
  wire_driven (x ∷ cs) p k zero cell rest at wire = by (is_wire x.item) (ap (λ (c : Cell). is_wire c.item) (one x cell at) ∙ wire)
    where
      one : (c d : Cell) → Some c ≡ Some d → c ≡ d
      one c d e = cc

      by : (b : Bool) → b ≡ true → list_any (λ (y : Drive). y.name == r (p + 0)) (assigns_drives k (unless (not b) (record { target = r p; value = tree_for r x.width x.item }) (node_assigns r cs (p + 1))) rest) ≡ true
      by true e = any_here (r (p + 0)) (record { driver = k; name = r p }) (assigns_drives (k + 1) (node_assigns r cs (p + 1)) rest) (ap r (let h : p ≡ p + 0 = omega arith in h))
      by false e = absurd (false_true e)
  wire_driven (x ∷ cs) p k (suc place) cell rest at wire = by (is_wire x.item) (λ j. wire_driven cs (p + 1) j place cell rest at wire)
    where
      there : p + 1 + place ≡ p + suc place
      there = omega arith

      by : (b : Bool) → ((j : ℕ) → list_any (λ (y : Drive). y.name == r (p + 1 + place)) (assigns_drives j (node_assigns r cs (p + 1)) rest) ≡ true)
          → list_any (λ (y : Drive). y.name == r (p + suc place)) (assigns_drives k (unless (not b) (record { target = r p; value = tree_for r x.width x.item }) (node_assigns r cs (p + 1))) rest) ≡ true
      by false later = ap (λ (q : ℕ). list_any (λ (y : Drive). y.name == r q) (assigns_drives k (node_assigns r cs (p + 1)) rest)) (sym there) ∙ later k
      by true later =
          any_later (r (p + suc place)) (record { driver = k; name = r p }) (assigns_drives (k + 1) (node_assigns r cs (p + 1)) rest)
          (ap (λ (q : ℕ). list_any (λ (y : Drive). y.name == r q) (assigns_drives (k + 1) (node_assigns r cs (p + 1)) rest)) (sym there) ∙ later (k + 1))

  register_driven : (cs : List Cell) (p k place : ℕ) (cell : Cell) → slice_get cs place ≡ Some cell → is_register cell.item ≡ true
      → list_any (λ (y : Drive). y.name == r (p + place)) (blocks_drives k (node_blocks r cs p)) ≡ true
  register_driven [] p k place cell at reg = absurd (omega (arith, slice_get_within {A = Cell} [] place cell at))
  register_driven (x ∷ cs) p k zero cell at reg = by (is_register x.item) (ap (λ (c : Cell). is_register c.item) (one x cell at) ∙ reg)
    where
      one : (c d : Cell) → Some c ≡ Some d → c ≡ d
      one c d e = cc

      by : (b : Bool) → b ≡ true → list_any (λ (y : Drive). y.name == r (p + 0)) (blocks_drives k (unless (not b) (block_for (r p) x.width (tree_for r x.width x.item)) (node_blocks r cs (p + 1)))) ≡ true
      by true e = any_here (r (p + 0)) (record { driver = k; name = r p }) (record { driver = k; name = r p } ∷ blocks_drives (k + 1) (node_blocks r cs (p + 1))) (ap r (let h : p ≡ p + 0 = omega arith in h))
      by false e = absurd (false_true e)
  register_driven (x ∷ cs) p k (suc place) cell at reg = by (is_register x.item) (λ j. register_driven cs (p + 1) j place cell at reg)
    where
      there : p + 1 + place ≡ p + suc place
      there = omega arith

      by : (b : Bool) → ((j : ℕ) → list_any (λ (y : Drive). y.name == r (p + 1 + place)) (blocks_drives j (node_blocks r cs (p + 1))) ≡ true)
          → list_any (λ (y : Drive). y.name == r (p + suc place)) (blocks_drives k (unless (not b) (block_for (r p) x.width (tree_for r x.width x.item)) (node_blocks r cs (p + 1)))) ≡ true
      by false later = ap (λ (q : ℕ). list_any (λ (y : Drive). y.name == r q) (blocks_drives k (node_blocks r cs (p + 1)))) (sym there) ∙ later k
      by true later =
          let drive : Drive = record { driver = k; name = r p } in
          any_later (r (p + suc place)) drive (drive ∷ blocks_drives (k + 1) (node_blocks r cs (p + 1)))
          (any_later (r (p + suc place)) drive (blocks_drives (k + 1) (node_blocks r cs (p + 1)))
          (ap (λ (q : ℕ). list_any (λ (y : Drive). y.name == r q) (blocks_drives (k + 1) (node_blocks r cs (p + 1)))) (sym there) ∙ later (k + 1)))

  node_driven : (place : ℕ) (cell : Cell) → slice_get cells place ≡ Some cell → is_input cell.item ≡ false → is_driven f (r place) ≡ true
  node_driven place cell at data_node =
      let rest = assigns_drives 2 (node_assigns r cells 0) (blocks_drives (length f.assigns) (node_blocks r cells 0)) in
      any_later (r place) (record { driver = 0; name = 5 }) (record { driver = 1; name = 6 } ∷ rest) (any_later (r place) (record { driver = 1; name = 6 }) rest (by (is_register cell.item) refl))
    where
      here : 0 + place ≡ place
      here = omega arith

      by : (b : Bool) → is_register cell.item ≡ b → list_any (λ (y : Drive). y.name == r place) (assigns_drives 2 (node_assigns r cells 0) (blocks_drives (length f.assigns) (node_blocks r cells 0))) ≡ true
      by true e =
          after_assigns (r place) 2 (node_assigns r cells 0) (blocks_drives (length f.assigns) (node_blocks r cells 0))
          (ap (λ (q : ℕ). list_any (λ (y : Drive). y.name == r q) (blocks_drives (length f.assigns) (node_blocks r cells 0))) (sym here) ∙ register_driven cells 0 (length f.assigns) place cell at e)
      by false e =
          ap (λ (q : ℕ). list_any (λ (y : Drive). y.name == r q) (assigns_drives 2 (node_assigns r cells 0) (blocks_drives (length f.assigns) (node_blocks r cells 0)))) (sym here)
          ∙ wire_driven cells 0 2 place cell (blocks_drives (length f.assigns) (node_blocks r cells 0)) at (rw (data_node, e) refl)

  abbrev lacks : Signal → Bool
  lacks s = needs_driver s.kind && not (is_driven f s.name)

  nodes_driven : (cs : List Cell) (p first : ℕ) → IsRest cells cs p → ((k : ℕ) → number_in cs first k ≡ r (p + k)) → AllFail lacks (node_signals cs first)
  nodes_driven [] p first is count = tt
  nodes_driven (x ∷ cs) p first is count = by (is_input x.item) refl (nodes_driven cs (p + 1) (number_after (is_input x.item) first) (rest_more cells x cs p is) (λ k. count (suc k) ∙ ap r (let e : p + suc k ≡ p + 1 + k = omega arith in e)))
    where
      second : (b c : Bool) → c ≡ true → (b && not c) ≡ false
      second true c e = ap not e
      second false c e = refl

      by : (b : Bool) → is_input x.item ≡ b → AllFail lacks (node_signals cs (number_after b first)) → AllFail lacks (unless b (node_signal x first) (node_signals cs (number_after b first)))
      by true e later = later
      by false e later =
          let here = rest_here cells x cs p is in
          let name : first ≡ r p = sym (ap (λ (b : Bool). own_number b first) e) ∙ count 0 ∙ ap r (let h : p + 0 ≡ p = omega arith in h) in
          (second (needs_driver (kind_for (is_register x.item))) (is_driven f first) (ap (is_driven f) name ∙ node_driven p x here e), later)

  pub none_undriven : no_driver f ≡ None
  none_undriven =
      ap (λ (ss : List Signal). option_map (λ (s : Signal). s.name) (find lacks ss)) (ordered cells netlist writable)
      ∙ ap (option_map (λ (s : Signal). s.name))
      (find_none lacks f.signals (refl, (refl, (refl, (refl, (refl, (refl, nodes_driven cells 0 7 (rest_all cells) (λ k. ap r (let e : k ≡ 0 + k = omega arith in e)))))))))

  -- ---- no loop

  abbrev top : ℕ
  top = 7 + length cells

  abbrev level : ℕ → ℕ
  level n = cond (n == 5) top (cond (n == 6) top n)

  number_bound : (cs : List Cell) (first place : ℕ) (cell : Cell) → slice_get cs place ≡ Some cell → is_input cell.item ≡ false → number_in cs first place < first + length cs
  number_bound [] first place cell at data_node = absurd (omega (arith, slice_get_within {A = Cell} [] place cell at))
  number_bound (x ∷ cs) first zero cell at data_node =
      let same : is_input x.item ≡ false = ap (λ (c : Cell). is_input c.item) (one x cell at) ∙ data_node in
      let own : own_number (is_input x.item) first ≡ first = ap (λ (b : Bool). own_number b first) same in
      omega (arith, own)
    where
      one : (c d : Cell) → Some c ≡ Some d → c ≡ d
      one c d e = cc
  number_bound (x ∷ cs) first (suc place) cell at data_node =
      let rest = number_bound cs (number_after (is_input x.item) first) place cell at data_node in
      omega (arith, rest, most (is_input x.item))
    where
      most : (b : Bool) → number_after b first ≤ first + 1
      most true = omega arith
      most false = omega arith

  -- a node's number is that of the input or at least 7
  node_number : (place : ℕ) (cell : Cell) → slice_get cells place ≡ Some cell → (r place ≡ 4) ⊎ ((7 ≤ r place) × (r place < top))
  node_number place cell at = by (is_input cell.item) refl
    where
      by : (b : Bool) → is_input cell.item ≡ b → (r place ≡ 4) ⊎ ((7 ≤ r place) × (r place < top))
      by true e = inl (number_input cells 7 place cell at e)
      by false e = inr (number_least cells 7 place cell at e, number_bound cells 7 place cell at e)

  level_other : (n : ℕ) → (n ≡ 5 → ⊥) → (n ≡ 6 → ⊥) → level n ≡ n
  level_other n five six = rw (ne_eqb n 5 five, ne_eqb n 6 six) refl

  level_node : (place : ℕ) (cell : Cell) → slice_get cells place ≡ Some cell → (level (r place) ≡ r place) × (r place < top)
  level_node place cell at = by (node_number place cell at)
    where
      by : (r place ≡ 4) ⊎ ((7 ≤ r place) × (r place < top)) → (level (r place) ≡ r place) × (r place < top)
      by (inl e) = (level_other (r place) (λ h. omega arith) (λ h. omega arith), omega (arith, e))
      by (inr e) = (level_other (r place) (λ h. omega arith) (λ h. omega arith), e.1)

  -- an operand has a lower level
  lower : (j place n : ℕ) (cell : Cell) → j < place → slice_get cells place ≡ Some cell → is_input cell.item ≡ false → (n == r j) ≡ true → level n < level (r place)
  lower j place n cell lt at data_node is =
      let inside = slice_get_within cells place cell at in
      let there = cell_at-there cells j (let h : j < length cells = omega (arith, lt, inside) in h) in
      let mine = level_node place cell at in
      let its = level_node j (cell_at cells j) there in
      let least = number_least cells 7 place cell at data_node in
      let same = eqb-true n (r j) is in
      by (is_input (cell_at cells j).item) refl there (its.0) (mine.0) least same
    where
      by : (b : Bool) → is_input (cell_at cells j).item ≡ b → slice_get cells j ≡ Some (cell_at cells j) → level (r j) ≡ r j → level (r place) ≡ r place → 7 ≤ r place → n ≡ r j → level n < level (r place)
      by true e there its mine least same = let four = number_input cells 7 j (cell_at cells j) there e in omega (arith, ap level same, its, mine, four, least)
      by false e there its mine least same =
          let below = number_below cells 7 j place (cell_at cells j) cell lt there at e data_node in omega (arith, ap level same, its, mine, below)

  either : (a b : Bool) → (a || b) ≡ true → (a ≡ true) ⊎ (b ≡ true)
  either true b e = inl refl
  either false b e = inr e

  tree_lower : (item : Item) (place count width n : ℕ) (cell : Cell) → slice_get cells place ≡ Some cell → is_input cell.item ≡ false → is_wire (Some item) ≡ true → OperandsBelow place count width (Some item)
      → reads (tree_for r width (Some item)) n ≡ true → level n < level (r place)
  tree_lower Input place count width n cell at data_node wire o read = absurd (false_true wire)
  tree_lower (Constant v) place count width n cell at data_node wire o read = absurd (false_true read)
  tree_lower (Add a b) place count width n cell at data_node wire o read = elim (either (n == r a.place) (n == r b.place) read) [
    | inl is ↦ lower a.place place n cell o.0 at data_node is
    | inr is ↦ lower b.place place n cell o.1 at data_node is
  ]
  tree_lower (Sub a b) place count width n cell at data_node wire o read = elim (either (n == r a.place) (n == r b.place) read) [
    | inl is ↦ lower a.place place n cell o.0 at data_node is
    | inr is ↦ lower b.place place n cell o.1 at data_node is
  ]
  tree_lower (Shl a by) place count width n cell at data_node wire o read = lower a.place place n cell o.0 at data_node read
  tree_lower (Shr a by) place count width n cell at data_node wire o read = lower a.place place n cell o.0 at data_node read
  tree_lower (Mux on a b) place count width n cell at data_node wire o read = elim (either (n == r on.place) ((n == r a.place) || (n == r b.place)) read) [
    | inl is ↦ lower on.place place n cell o.0 at data_node is
    | inr rest ↦
        elim (either (n == r a.place) (n == r b.place) rest) [
          | inl is ↦ lower a.place place n cell o.1 at data_node is
          | inr is ↦ lower b.place place n cell o.2 at data_node is
        ]
  ]
  tree_lower (Equal a b) place count width n cell at data_node wire o read = elim (either (n == r a.place) (n == r b.place) read) [
    | inl is ↦ lower a.place place n cell o.0 at data_node is
    | inr is ↦ lower b.place place n cell o.1 at data_node is
  ]
  tree_lower (Bits a high low) place count width n cell at data_node wire o read = lower a.place place n cell o.0 at data_node read
  tree_lower (Register next) place count width n cell at data_node wire o read = absurd (false_true wire)

  wire_lower : (place n : ℕ) (cell : Cell) → slice_get cells place ≡ Some cell → is_wire cell.item ≡ true → reads (tree_for r cell.width cell.item) n ≡ true → level n < level (r place)
  wire_lower place n cell at wire read =
      let well = netlist.well_formed.each place cell at in
      by cell.item refl (netlist.bound.each place cell at) well.operands
    where
      by : (item : Option Item) → cell.item ≡ item → IsSome item → OperandsBelow place (length cells) cell.width cell.item → level n < level (r place)
      by None is some o = absurd (false_true some)
      by (Some item) is some o =
          tree_lower item place (length cells) cell.width n cell at (wire_data cell wire) (sym (ap is_wire is) ∙ wire) (subst (OperandsBelow place (length cells) cell.width) is o)
          (sym (ap (λ (i : Option Item). reads (tree_for r cell.width i) n) is) ∙ read)

  alias_lower : (place n target : ℕ) (cell : Cell) → slice_get cells place ≡ Some cell → level target ≡ top → (n == r place) ≡ true → level n < level target
  alias_lower place n target cell at is read = let its = level_node place cell at in omega (arith, ap level (eqb-true n (r place) read), its.0, its.1, is)

  levels : AreLevels f level
  levels zero a at n read =
      let is = same_assignment _ a at in
      let valid = valid_there cells netlist writable in
      subst (λ (b : Assignment). reads b.value n ≡ true → level n < level b.target) is (alias_lower (valid_place cells) n 5 valid.cell valid.there refl) read
  levels (suc zero) a at n read =
      let is = same_assignment _ a at in
      let output = output_there cells netlist writable in
      subst (λ (b : Assignment). reads b.value n ≡ true → level n < level b.target) is (alias_lower (output_place cells) n 6 output.cell output.there refl) read
  levels (suc (suc k)) a at n read =
      let w = assign_from r cells 0 k a at in
      let here : w.place ≡ 0 + w.place = omega arith in
      subst (λ (b : Assignment). reads b.value n ≡ true → level n < level b.target) (sym w.is_it)
      (subst (λ (p : ℕ). reads (tree_for r w.cell.width w.cell.item) n ≡ true → level n < level (r p)) here (wire_lower w.place n w.cell w.there w.wire)) read

  pub passes : Passes f
  passes = record {
    early = rw (none_redeclared cells netlist writable, none_undeclared cells netlist writable, none_wrong_port cells netlist writable, none_wrong cells netlist writable, none_over cells netlist writable, none_bad cells netlist writable, none_many, none_undriven) refl;
    free = no_loop f level levels;
  }
