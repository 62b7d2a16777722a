-- What is told of the net's registers, by the numbers of their names, is told of each linear register of the module.
use Rattle.std.proofs.Common.{◌≡◌, ℕ, zero, suc, ◌+◌, ◌<◌, Bool, true, false, List, [], ◌∷◌, length, Option, None, Some, slice_get, refl, sym, ◌∙◌, ap, subst, arith, ℤ}
use Rattle.std.specs.Prelude.{bytes_eq}
use Rattle.std.specs.List.{position_or_len}
use Rattle.std.proofs.lemmas.Option.{slice_get_within}
use Rattle.mr_values.specs.declared.plan.Element.{Element}
use Rattle.net_graph.specs.declared.cell.Cell.{Cell}
use Rattle.net_graph.specs.declared.cell.Node.{Node}
use Rattle.net_graph.specs.Cells.{cell_at}
use Rattle.net_graph.specs.Name.{is_input, written_name}
use Rattle.net_graph.proofs.CellLemmas.{cell_at-there}
use Rattle.stage_law.specs.Registers.{HeldSum}
use Rattle.verilog_tree.specs.Names as texts
use Rattle.verilog_tree.specs.Tree.{Design}
use Rattle.verilog_text.specs.Order.{IsSameButPlaces}
use Rattle.net_module.specs.Written.{written_module, is_register, number_of, number_in, own_number, number_after, node_text}
use Rattle.net_module.proofs.Cycles.{register_data}
use Rattle.net_text.specs.Small.{AreSmall}
use Rattle.chain_build.specs.declared.extremes.RegisterExtreme.{RegisterExtreme}
use Rattle.chain_build.specs.ChainNet.{HasInput, IsChainNet}
use Rattle.chain_build.specs.Extremes.{HasExtremes, IsReached}
use Rattle.chain_build.specs.Linear.{LinearRegister, linear}
use Rattle.chain_build.specs.LinearNet as net_registers
use Rattle.chain_build.specs.Told.{TellsRegister, TellsRegisters}
use Rattle.filter_text.specs.Extremes.{pair_of, told_at, TellsByNumber, TellsEach}
use Rattle.filter_text.specs.Registers.{register_number}
use Rattle.filter_text.proofs.NodeNames.{name_there, text_number, register_text}

false_true : false ≡ true → ⊥
false_true h = cc

-- ---- numbers by places

-- nodes among which the input isn't are numbered one by one
plain_number : (cells : List Cell) (first p : ℕ) → ((k : ℕ) (c : Cell) → slice_get cells k ≡ Some c → is_input c.item ≡ false) → p < length cells → number_in cells first p ≡ first + p
plain_number [] first p none less = absurd (omega (arith, less))
plain_number (c ∷ cells) first zero none less = ap (λ (b : Bool). own_number b first) (none 0 c refl) ∙ (let e : first ≡ first + 0 = omega arith in e)
plain_number (c ∷ cells) first (suc p) none less =
    ap (λ (b : Bool). number_in cells (number_after b first) p) (none 0 c refl) ∙ plain_number cells (first + 1) p (λ k. none (suc k)) (omega (arith, less))
    ∙ (let e : first + 1 + p ≡ first + suc p = omega arith in e)

one_cell : (c d : Cell) → Some c ≡ Some d → c ≡ d
one_cell c d e = cc

-- where the first node is the only input
node_number : (cells : List Cell) (width place : ℕ) (cell : Cell) → HasInput cells width → slice_get cells place ≡ Some cell → is_input cell.item ≡ false → number_of cells place ≡ place + 6
node_number [] width place cell input at data_node = absurd (omega (arith, slice_get_within {A = Cell} [] place cell at))
node_number (c ∷ cells) width zero cell input at data_node =
    absurd (false_true (sym data_node ∙ ap (λ (x : Cell). is_input x.item) (sym (one_cell c cell at) ∙ one_cell c input.cell input.there) ∙ input.is_it))
node_number (c ∷ cells) width (suc p) cell input at data_node =
    ap (λ (b : Bool). number_in cells (number_after b 7) p) (ap (λ (x : Cell). is_input x.item) (one_cell c input.cell input.there) ∙ input.is_it)
    ∙ plain_number cells 7 p others (let less = slice_get_within (c ∷ cells) (suc p) cell at in omega (arith, less))
    ∙ (let e : 7 + p ≡ suc p + 6 = omega arith in e)
  where
    others : (k : ℕ) (other : Cell) → slice_get cells k ≡ Some other → is_input other.item ≡ false
    others k other there = by (is_input other.item) refl
      where
        by : (b : Bool) → is_input other.item ≡ b → b ≡ false
        by false is = refl
        by true is = absurd (let first = input.only (suc k) other there is in omega (arith, first))

-- ---- what is told of the net

pub has_extremes : {width ticks : ℕ} {elements : List Element} {cells : List Cell} {told : List RegisterExtreme} → TellsRegisters width ticks elements cells told → HasExtremes width ticks elements
has_extremes tells = record {
  each = λ i r s at needed.
      let its = tells.each r s (record { place = i; there = at; needed = needed }) in (its.1.tick, its.1.value, its.3.reached);
}

module _ {width ticks : ℕ} {elements : List Element} {cells : List Cell} {out_q out_valid : Node} (net : IsChainNet width ticks elements cells out_q out_valid) (small : AreSmall cells) (has : net_registers.HasLinearRegisters width ticks elements cells) where
  -- a register of the list, and what is told of it
  module _ (i : ℕ) (r : LinearRegister) (at : slice_get (linear width ticks elements) i ≡ Some r) (s : HeldSum) (t : RegisterExtreme) (tells : TellsRegister width ticks cells r s t) where
    there : slice_get cells t.register.place ≡ Some (cell_at cells t.register.place)
    there = cell_at-there cells t.register.place tells.inside

    registered : is_register (cell_at cells t.register.place).item ≡ true
    registered =
        let its = (has.each i r at).register in
        let place = net.netlist.well_formed.apart t.register.place (has.each i r at).node.place (cell_at cells t.register.place) its.cell r.name there its.there tells.named its.named in
        ap (λ (c : Cell). is_register c.item) (one_cell (cell_at cells t.register.place) its.cell (sym there ∙ ap (slice_get cells) place ∙ its.there)) ∙ ap is_register its.registered.1

    own_place : number_of cells t.register.place ≡ t.register.place + 6
    own_place = node_number cells width t.register.place (cell_at cells t.register.place) net.input there (register_data (cell_at cells t.register.place).item registered)

    within : t.register.place + 6 < length (written_module cells).names
    within =
        let named = name_there cells t.register.place (cell_at cells t.register.place) there (register_data (cell_at cells t.register.place).item registered) in
        let less = slice_get_within (written_module cells).names (number_of cells t.register.place) (node_text (cell_at cells t.register.place) t.register.place) named in
        omega (arith, less, own_place)

    module _ (d : Design) (same : IsSameButPlaces d (written_module cells)) where
      own_number_is : register_number d r ≡ t.register.place + 6
      own_number_is =
          let cell = cell_at cells t.register.place in
          ap (λ (names : List (List ℕ)). position_or_len (bytes_eq (written_name r.name)) names) same.same_names
          ∙ ap (texts.number_of (written_module cells)) (sym (register_text cells net.netlist t.register.place cell r.name there registered tells.named))
          ∙ text_number cells net.netlist small t.register.place cell there (register_data cell.item registered) ∙ own_place

  module _ (told : List RegisterExtreme) (all : TellsRegisters width ticks elements cells told) where
    pub told_within : (j : ℕ) (t : RegisterExtreme) → slice_get told j ≡ Some t → t.register.place + 6 < length (written_module cells).names
    told_within j t at = let its = all.only j t at in within its.2.place its.0 its.2.there its.1 t its.3

    module _ (d : Design) (same : IsSameButPlaces d (written_module cells)) (extremes : List (Option RegisterExtreme)) (by_number : TellsByNumber told extremes) where
      from_pair : (o : Option (Option RegisterExtreme)) (tick : ℕ) (value : ℤ) → pair_of o ≡ Some (tick, value) → (e : RegisterExtreme) × (o ≡ Some (Some e)) × (e.tick ≡ tick) × (e.value ≡ value)
      from_pair None tick value is = absurd (cc)
      from_pair (Some None) tick value is = absurd (cc)
      from_pair (Some (Some e)) tick value is =
          let one = same_pair (e.tick, e.value) (tick, value) is in
          (e, refl, ap (λ (p : ℕ × ℤ). p.0) one, ap (λ (p : ℕ × ℤ). p.1) one)
        where
          same_pair : (p q : ℕ × ℤ) → Some p ≡ Some q → p ≡ q
          same_pair p q e = cc

      pub tells_each : TellsEach elements width ticks d (told_at extremes)
      tells_each = record {
        each = λ i r s at needed.
            let its = all.each r s (record { place = i; there = at; needed = needed }) in
            let found = by_number.each its.0 its.1 its.2 in
            (found.0.tick, found.0.value, ap (told_at extremes) (own_number_is i r at s its.1 its.3 d same) ∙ ap pair_of found.1);
        only = λ name tick value is.
            let found = from_pair (slice_get extremes name) tick value is in
            let one = by_number.only name found.0 found.1 in
            let its = all.only one.j found.0 one.there in
            record {
              place = its.2.place;
              r = its.0;
              there = its.2.there;
              sum = its.1;
              needed = its.2.needed;
              own = own_number_is its.2.place its.0 its.2.there its.1 found.0 its.3 d same ∙ one.own;
              reached = reached its.0 its.1 found.0.tick tick found.0.value value found.2 found.3 its.3.reached;
            };
      }
        where
          reached : (r : LinearRegister) (s : HeldSum) (t u : ℕ) (v w : ℤ) → t ≡ u → v ≡ w → IsReached width ticks r s t v → IsReached width ticks r s u w
          reached r s t u v w tick value is = subst (IsReached width ticks r s u) value (subst (λ (n : ℕ). IsReached width ticks r s n v) tick is)
