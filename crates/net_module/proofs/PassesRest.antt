-- The declarations, the ports, the widths and the drivers of a written module pass the checks, and it has no loop.
use Rattle.std.proofs.Common.{◌≡◌, ℕ, ◌+◌, ◌-◌, ◌<◌, ◌≤◌, Bool, true, false, not, ◌&&◌, ◌||◌, List, [], ◌∷◌, length, map, find, Option, None, Some, slice_get, refl, sym, ◌∙◌, ap, arith, subst}
use Rattle.std.specs.Prelude.{nat_le, IsSome}
use Rattle.std.specs.Option.{option_map}
use Rattle.std.proofs.lemmas.Bool.Decides.{nat_tests}
use Rattle.std.proofs.lemmas.Option.{slice_get_within}
use Rattle.net_graph.specs.declared.cell.Cell.{Cell}
use Rattle.net_graph.specs.declared.cell.Item.{Item}
use Rattle.net_graph.specs.declared.cell.Item.TheVariants.{Input, Constant, Add, Sub, Shl, Shr, Mux, Equal, Bits, Register}
use Rattle.net_graph.specs.declared.name.Name.{Name}
use Rattle.net_graph.specs.declared.name.NameKind.{NameKind}
use Rattle.net_graph.specs.declared.name.NameKind.TheVariants.{Control, Window, Copy, PreAdder, Register as Other, Table, Output, Valid}
use Rattle.net_graph.specs.Name.{is_input}
use Rattle.net_graph.specs.WellFormed.{IsNetlist, IsNamed, OperandsBelow}
use Rattle.net_graph.specs.Cells.{cell_at}
use Rattle.net_graph.proofs.CellLemmas.{cell_at-there, cell_at-is, same_cell}
use Rattle.verilog_tree.specs.declared.tree.Signal.{Signal}
use Rattle.verilog_tree.specs.Tree.{Design}
use Rattle.verilog_tree.specs.Meaning.{Shapes}
use Rattle.verilog_tree.specs.Names.{shapes_of, text_of}
use Rattle.verilog_tree.specs.Checks.{or_else, first_repeat, has_port, port_names, declarations, redeclared, is_port, filter_face, is_right_port, wrong_port, is_over, has_over, Side, sides, assigns_sides, blocks_sides, width_over}
use Rattle.net_module.specs.Written.{IsWritable, is_wire, is_register, has_kind, is_output_kind, input_place, output_place, unless, number_after, node_signal, node_signals, kind_for, tree_for, node_assigns, node_blocks, block_for}
use Rattle.net_module.proofs.Cycles.{input_width, width_of, wide_of}
use Rattle.net_module.proofs.Outputs.{valid_there, output_there}
use Rattle.net_module.proofs.CheckLists.{AllFail, find_none, AllAtStart, in_order, IsRising, no_repeat}
use Rattle.net_module.proofs.Passes.{E, M}
use Rattle.net_module.proofs.PassesUses.{IsRest, rest_more, rest_here, rest_all}

false_true : false ≡ true → ⊥
false_true h = cc

-- ---- there is one `out_q`

abbrev Named : Name → NameKind → Option Item → Type 0
Named name kind item = IsNamed (Some (record { group = name.group; kind = kind; number = name.number })) item

registered : (name : Name) (item : Option Item) → Named name Output item → (name.group ≡ 0) × (name.number ≡ 0)
registered name None n = n
registered name (Some Input) n = absurd n
registered name (Some (Constant v)) n = absurd n
registered name (Some (Add a b)) n = absurd n
registered name (Some (Sub a b)) n = absurd n
registered name (Some (Shl a k)) n = absurd n
registered name (Some (Shr a k)) n = absurd n
registered name (Some (Mux on a b)) n = absurd n
registered name (Some (Equal a b)) n = absurd n
registered name (Some (Bits a high low)) n = absurd n
registered name (Some (Register next)) n = n

kind_output : (kind : NameKind) → is_output_kind kind ≡ true → kind ≡ Output
kind_output Output is = refl
kind_output Control is = absurd (false_true is)
kind_output Window is = absurd (false_true is)
kind_output Copy is = absurd (false_true is)
kind_output PreAdder is = absurd (false_true is)
kind_output Other is = absurd (false_true is)
kind_output Table is = absurd (false_true is)
kind_output Valid is = absurd (false_true is)

output_numbers : (name : Name) (item : Option Item) → is_output_kind name.kind ≡ true → IsNamed (Some name) item → (name.kind ≡ Output) × (name.group ≡ 0) × (name.number ≡ 0)
output_numbers name item is named =
    let kind = kind_output name.kind is in
    let both = registered name item (subst (λ (k : NameKind). Named name k item) kind named) in
    (kind, both.0, both.1)

-- ---- parts that may be left out

keep_start : (b : Bool) (s : Signal) (rest : List Signal) → s.place ≡ 0 → AllAtStart rest → AllAtStart (unless b s rest)
keep_start true s rest is all = all
keep_start false s rest is all = (is, all)

at_start : (cs : List Cell) (first : ℕ) → AllAtStart (node_signals cs first)
at_start [] first = tt
at_start (x ∷ cs) first = keep_start (is_input x.item) (node_signal x first) (node_signals cs (number_after (is_input x.item) first)) refl (at_start cs (number_after (is_input x.item) first))

keep_rising : (b : Bool) (s : Signal) (first : ℕ) (rest : List Signal) → s.name ≡ first → IsRising (number_after b first) (map (λ (t : Signal). t.name) rest) → IsRising first (map (λ (t : Signal). t.name) (unless b s rest))
keep_rising true s first rest is rising = rising
keep_rising false s first rest is rising = (omega (arith, is), subst (λ (n : ℕ). IsRising (n + 1) (map (λ (t : Signal). t.name) rest)) (sym is) rising)

names_rise : (cs : List Cell) (first : ℕ) → IsRising first (map (λ (t : Signal). t.name) (node_signals cs first))
names_rise [] first = tt
names_rise (x ∷ cs) first = keep_rising (is_input x.item) (node_signal x first) first (node_signals cs (number_after (is_input x.item) first)) refl (names_rise cs (number_after (is_input x.item) first))

keep_fail : {A : Type 0} (test : A → Bool) (b : Bool) (x : A) (rest : List A) → test x ≡ false → AllFail test rest → AllFail test (unless b x rest)
keep_fail test true x rest is all = all
keep_fail test false x rest is all = (is, all)

no_port : (b : Bool) → is_port (kind_for b) ≡ false
no_port true = refl
no_port false = refl

within : (w : ℕ) → 1 ≤ w → w ≤ 127 → (nat_le 1 w && nat_le w 127) ≡ true
within w le most = grind (arith, nat_tests)

not_over : (w : ℕ) → w ≤ 128 → is_over w ≡ false
not_over w le = grind (arith, nat_tests)

module _ (cells : List Cell) (netlist : IsNetlist cells) (writable : IsWritable cells) where
  abbrev pub F : Design
  F = E cells netlist writable

  abbrev pub R : ℕ → ℕ
  R = M cells netlist writable

  abbrev Z : Shapes
  Z = shapes_of F

  abbrev w_in : ℕ
  w_in = (cell_at cells (input_place cells)).width

  abbrev w_out : ℕ
  w_out = (cell_at cells (output_place cells)).width

  -- ---- the widths of the ports

  pub in_range : (1 ≤ w_in) × (w_in ≤ 127)
  in_range =
      let is = input_width cells netlist writable writable.input.place writable.input.cell writable.input.there writable.input.is_it in
      let wide = wide_of cells netlist writable writable.input.place writable.input.cell writable.input.there in
      (omega (arith, is, wide), omega (arith, is, writable.input.width))

  one_output : (j k : ℕ) (c d : Cell) → slice_get cells j ≡ Some c → slice_get cells k ≡ Some d → has_kind is_output_kind c.name ≡ true → has_kind is_output_kind d.name ≡ true → j ≡ k
  one_output j k c d at found is too = by c.name d.name refl refl
    where
      by : (m n : Option Name) → c.name ≡ m → d.name ≡ n → j ≡ k
      by None n e f = absurd (false_true (sym (ap (has_kind is_output_kind) e) ∙ is))
      by (Some m) None e f = absurd (false_true (sym (ap (has_kind is_output_kind) f) ∙ too))
      by (Some m) (Some n) e f =
          let first = output_numbers m c.item (sym (ap (has_kind is_output_kind) e) ∙ is) (subst (λ (o : Option Name). IsNamed o c.item) e (netlist.well_formed.each j c at).named) in
          let second = output_numbers n d.item (sym (ap (has_kind is_output_kind) f) ∙ too) (subst (λ (o : Option Name). IsNamed o d.item) f (netlist.well_formed.each k d found).named) in
          let same : n ≡ m = λ i. record { group = (second.1 ∙ sym first.1) i; kind = (second.0 ∙ sym first.0) i; number = (second.2 ∙ sym first.2) i } in
          netlist.well_formed.apart j k c d m at found e (f ∙ ap Some same)

  pub out_range : (1 ≤ w_out) × (w_out ≤ 127)
  out_range =
      let there = output_there cells netlist writable in
      let same = one_output (output_place cells) writable.output.place there.cell writable.output.cell there.there writable.output.there there.is_it writable.output.is_it in
      let one = same_cell there.cell writable.output.cell (slice_get cells writable.output.place) (ap (slice_get cells) (sym same) ∙ there.there) writable.output.there in
      let is = ap (λ (c : Cell). c.width) (cell_at-is cells (output_place cells) there.cell there.there ∙ one) in
      let wide = wide_of cells netlist writable writable.output.place writable.output.cell writable.output.there in
      (omega (arith, is, wide), omega (arith, is, writable.output.width))

  -- ---- declarations

  pub ordered : declarations F ≡ F.signals
  ordered = in_order F.signals (refl, (refl, (refl, (refl, (refl, (refl, at_start cells 7))))))

  pub none_redeclared : redeclared F ≡ None
  none_redeclared =
      let le : (n : ℕ) → n ≤ n = λ n. omega arith in
      ap (λ (ss : List Signal). first_repeat [] (map (λ (s : Signal). s.name) ss)) ordered
      ∙ no_repeat [] (map (λ (s : Signal). s.name) F.signals) 0 tt
      (omega arith, (le 2, (le 3, (le 4, (le 5, (le 6, names_rise cells 7))))))

  -- ---- ports

  nodes_no_ports : (cs : List Cell) (first : ℕ) → AllFail (λ (s : Signal). is_port s.kind && not (is_right_port filter_face F s)) (node_signals cs first)
  nodes_no_ports [] first = tt
  nodes_no_ports (x ∷ cs) first =
      keep_fail (λ (s : Signal). is_port s.kind && not (is_right_port filter_face F s)) (is_input x.item) (node_signal x first) (node_signals cs (number_after (is_input x.item) first))
      (ap (λ (b : Bool). b && not (is_right_port filter_face F (node_signal x first))) (no_port (is_register x.item))) (nodes_no_ports cs (number_after (is_input x.item) first))

  pub none_wrong_port : wrong_port filter_face F ≡ None
  none_wrong_port =
      let test : Signal → Bool = λ (s : Signal). is_port s.kind && not (is_right_port filter_face F s) in
      let right = find_none test F.signals (refl, (refl, (refl, (ap (λ (b : Bool). not (b || false)) (within w_in in_range.0 in_range.1), (refl, (ap (λ (b : Bool). not (b || false)) (within w_out out_range.0 out_range.1), nodes_no_ports cells 7)))))) in
      let missing : Option (List ℕ) = find (λ text. not (has_port F text)) port_names in
      ap (λ (ss : List Signal). or_else (option_map (λ (s : Signal). text_of F s.name) (find test ss)) missing) ordered
      ∙ ap (λ (o : Option Signal). or_else (option_map (λ (s : Signal). text_of F s.name) o) missing) right

  -- ---- widths

  nodes_not_over : (cs : List Cell) (p first : ℕ) → IsRest cells cs p → AllFail (λ (s : Signal). is_over s.width) (node_signals cs first)
  nodes_not_over [] p first is = tt
  nodes_not_over (x ∷ cs) p first is =
      keep_fail (λ (s : Signal). is_over s.width) (is_input x.item) (node_signal x first) (node_signals cs (number_after (is_input x.item) first))
      (not_over x.width (netlist.well_formed.each p x (rest_here cells x cs p is)).wide.1) (nodes_not_over cs (p + 1) (number_after (is_input x.item) first) (rest_more cells x cs p is))

  name_not_over : (k : ℕ) → k < length cells → is_over (Z.width (R k)) ≡ false
  name_not_over k lt =
      let there = cell_at-there cells k lt in
      ap is_over (width_of cells netlist writable k (cell_at cells k) there) ∙ not_over (cell_at cells k).width (netlist.well_formed.each k (cell_at cells k) there).wide.1

  or_none : (a b : Bool) → a ≡ false → b ≡ false → (a || b) ≡ false
  or_none a b e f = rw (e, f) refl

  tree_not_over : (item : Item) (place count width : ℕ) → width ≤ 128 → OperandsBelow place count width (Some item) → place ≤ length cells → count ≡ length cells → has_over Z (tree_for R width (Some item)) ≡ false
  tree_not_over Input place count width le o near is = not_over w_in (omega (arith, in_range.1))
  tree_not_over (Constant v) place count width le o near is = not_over width le
  tree_not_over (Add a b) place count width le o near is = or_none _ _ (name_not_over a.place (omega (arith, o.0))) (name_not_over b.place (omega (arith, o.1)))
  tree_not_over (Sub a b) place count width le o near is = or_none _ _ (name_not_over a.place (omega (arith, o.0))) (name_not_over b.place (omega (arith, o.1)))
  tree_not_over (Shl a by) place count width le o near is = name_not_over a.place (omega (arith, o.0))
  tree_not_over (Shr a by) place count width le o near is = name_not_over a.place (omega (arith, o.0))
  tree_not_over (Mux on a b) place count width le o near is =
      or_none _ _ (name_not_over on.place (omega (arith, o.0))) (or_none _ _ (name_not_over a.place (omega (arith, o.1))) (name_not_over b.place (omega (arith, o.2))))
  tree_not_over (Equal a b) place count width le o near is = or_none _ _ (name_not_over a.place (omega (arith, o.0))) (name_not_over b.place (omega (arith, o.1)))
  tree_not_over (Bits a high low) place count width le o near is = not_over (high - low + 1) (omega (arith, o.2))
  tree_not_over (Register next) place count width le o near is = name_not_over next.place (omega (arith, o))

  cell_not_over : (place : ℕ) (cell : Cell) → slice_get cells place ≡ Some cell → has_over Z (tree_for R cell.width cell.item) ≡ false
  cell_not_over place cell at =
      let reads = netlist.well_formed.each place cell at in
      by cell.item refl (netlist.bound.each place cell at) reads.operands reads.wide.1
    where
      by : (item : Option Item) → cell.item ≡ item → IsSome item → OperandsBelow place (length cells) cell.width cell.item → cell.width ≤ 128 → has_over Z (tree_for R cell.width cell.item) ≡ false
      by None is some o le = absurd (false_true some)
      by (Some item) is some o le =
          ap (λ (i : Option Item). has_over Z (tree_for R cell.width i)) is
          ∙ tree_not_over item place (length cells) cell.width le (subst (OperandsBelow place (length cells) cell.width) is o)
          (let near : place ≤ length cells = omega (arith, slice_get_within cells place cell at) in near) refl

  abbrev side_over : Side → Bool
  side_over side = has_over Z side.tree

  assigns_not_over : (cs : List Cell) (p : ℕ) (rest : List Side) → IsRest cells cs p → AllFail side_over rest → AllFail side_over (assigns_sides F (node_assigns R cs p) rest)
  assigns_not_over [] p rest is all = all
  assigns_not_over (x ∷ cs) p rest is all = by (is_wire x.item) (assigns_not_over cs (p + 1) rest (rest_more cells x cs p is) all)
    where
      by : (b : Bool) → AllFail side_over (assigns_sides F (node_assigns R cs (p + 1)) rest)
          → AllFail side_over (assigns_sides F (unless (not b) (record { target = R p; value = tree_for R x.width x.item }) (node_assigns R cs (p + 1))) rest)
      by false later = later
      by true later = (cell_not_over p x (rest_here cells x cs p is), later)

  blocks_not_over : (cs : List Cell) (p : ℕ) → IsRest cells cs p → AllFail side_over (blocks_sides F (node_blocks R cs p))
  blocks_not_over [] p is = tt
  blocks_not_over (x ∷ cs) p is = by (is_register x.item) (blocks_not_over cs (p + 1) (rest_more cells x cs p is))
    where
      by : (b : Bool) → AllFail side_over (blocks_sides F (node_blocks R cs (p + 1)))
          → AllFail side_over (blocks_sides F (unless (not b) (block_for (R p) x.width (tree_for R x.width x.item)) (node_blocks R cs (p + 1))))
      by false later = later
      by true later =
          let here = rest_here cells x cs p is in
          (refl, (not_over x.width (netlist.well_formed.each p x here).wide.1, (refl, (cell_not_over p x here, later))))

  all_sides : AllFail side_over (sides F)
  all_sides =
      let valid = valid_there cells netlist writable in
      let output = output_there cells netlist writable in (
        name_not_over _ (slice_get_within cells _ valid.cell valid.there),
        (name_not_over (output_place cells) (slice_get_within cells (output_place cells) output.cell output.there), assigns_not_over cells 0 (blocks_sides F (node_blocks R cells 0)) (rest_all cells) (blocks_not_over cells 0 (rest_all cells))),
      )

  pub none_over : width_over F ≡ None
  none_over =
      let all = find_none (λ (s : Signal). is_over s.width) F.signals (refl, (refl, (refl, (not_over w_in (omega (arith, in_range.1)), (refl, (not_over w_out (omega (arith, out_range.1)), nodes_not_over cells 0 7 (rest_all cells))))))) in
      let none = find_none side_over (sides F) all_sides in
      ap (λ (ss : List Signal). or_else (option_map (λ (s : Signal). text_of F s.name) (find (λ (s : Signal). is_over s.width) ss)) (option_map (λ (side : Side). side.told) (find side_over (sides F)))) ordered
      ∙ ap (λ (o : Option Signal). or_else (option_map (λ (s : Signal). text_of F s.name) o) (option_map (λ (side : Side). side.told) (find side_over (sides F)))) all
      ∙ ap (λ (o : Option Side). option_map (λ (side : Side). side.told) o) none
