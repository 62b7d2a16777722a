-- Which nodes the registers and always blocks of a written module are of.
use Rattle.std.proofs.Common.{◌≡◌, ℕ, zero, suc, ◌+◌, Bool, true, false, not, cond, List, [], ◌∷◌, ◌++◌, Option, Some, slice_get, refl, sym, ◌∙◌, ap, arith}
use Rattle.std.specs.Prelude.{nat_eq, find}
use Rattle.std.specs.Option.{option_map}
use Rattle.std.proofs.lemmas.Bool.{eqb-true}
use Rattle.std.proofs.lemmas.Option.{slice_get_within}
use Rattle.net_graph.specs.declared.cell.Cell.{Cell}
use Rattle.net_graph.specs.Name.{is_input}
use Rattle.verilog_tree.specs.declared.tree.Kind.{Kind}
use Rattle.verilog_tree.specs.declared.tree.Kind.TheVariants.{Input as InputPort, Output as OutputPort, Reg}
use Rattle.verilog_tree.specs.declared.tree.Signal.{Signal}
use Rattle.verilog_tree.specs.Tree.{Action}
use Rattle.net_module.specs.Written.{is_register, unless, own_number, number_after, number_in, node_signal, node_signals, port, ports, rst_name, ce_name, in_data_name, out_valid_name, out_data_name, tree_for, block_for, node_blocks, kind_for}

abbrev kind_in : List Signal → ℕ → Option Kind
kind_in signals n = option_map (λ (s : Signal). s.kind) (find (λ (s : Signal). nat_eq s.name n) signals)

-- a declaration of another kind is passed
passed : (n : ℕ) (s : Signal) (rest : List Signal) → (s.kind ≡ Reg → ⊥) → kind_in (s ∷ rest) n ≡ Some Reg → kind_in rest n ≡ Some Reg
passed n s rest apart e = by (nat_eq s.name n) e
  where
    one_kind : (a b : Kind) → Some a ≡ Some b → a ≡ b
    one_kind a b same = cc

    by : (b : Bool) → option_map (λ (t : Signal). t.kind) (cond b (Some s) (find (λ (t : Signal). nat_eq t.name n) rest)) ≡ Some Reg → kind_in rest n ≡ Some Reg
    by true same = absurd (apart (one_kind s.kind Reg same))
    by false same = same

-- no port is a register
pub past_ports : (width_in width_out n : ℕ) (rest : List Signal) → kind_in (ports width_in width_out ++ rest) n ≡ Some Reg → kind_in rest n ≡ Some Reg
past_ports width_in width_out n rest e =
    let out_data = port out_data_name OutputPort true width_out in
    let out_valid = port out_valid_name OutputPort false 1 in
    let in_data = port in_data_name InputPort true width_in in
    let ce = port ce_name InputPort false 1 in
    let rst = port rst_name InputPort false 1 in
    let after_rst : List Signal = ce ∷ in_data ∷ out_valid ∷ out_data ∷ rest in
    passed n out_data rest output_apart
    (passed n out_valid (out_data ∷ rest) output_apart
    (passed n in_data (out_valid ∷ out_data ∷ rest) input_apart
    (passed n ce (in_data ∷ out_valid ∷ out_data ∷ rest) input_apart (passed n rst after_rst input_apart (passed n (port 1 InputPort false 1) (rst ∷ after_rst) input_apart e)))))
  where
    input_apart : InputPort ≡ Reg → ⊥
    input_apart same = cc

    output_apart : OutputPort ≡ Reg → ⊥
    output_apart same = cc

-- the name is that of a register of these nodes
pub record IsRegisterOf (cells : List Cell) (first n : ℕ) : Type 0 where
  pub place : ℕ
  pub cell : Cell
  pub there : slice_get cells place ≡ Some cell
  pub register : is_register cell.item ≡ true
  pub number : n ≡ number_in cells first place

later_register : (x : Cell) (cells : List Cell) (first n : ℕ) → IsRegisterOf cells (number_after (is_input x.item) first) n → IsRegisterOf (x ∷ cells) first n
later_register x cells first n r = record { place = suc r.place; cell = r.cell; there = r.there; register = r.register; number = r.number }

pub register_from : (cells : List Cell) (first n : ℕ) → kind_in (node_signals cells first) n ≡ Some Reg → IsRegisterOf cells first n
register_from [] first n e = absurd (cc)
register_from (x ∷ cells) first n e = by (is_input x.item) refl (λ later. register_from cells (number_after (is_input x.item) first) n later) e
  where
    one_kind : (a b : Kind) → Some a ≡ Some b → a ≡ b
    one_kind a b same = cc

    is_reg : (b : Bool) → kind_for b ≡ Reg → b ≡ true
    is_reg true same = refl
    is_reg false same = absurd (cc)

    by : (b : Bool) → is_input x.item ≡ b → (kind_in (node_signals cells (number_after (is_input x.item) first)) n ≡ Some Reg → IsRegisterOf cells (number_after (is_input x.item) first) n)
        → kind_in (unless b (node_signal x first) (node_signals cells (number_after (is_input x.item) first))) n ≡ Some Reg → IsRegisterOf (x ∷ cells) first n
    by true is more e = later_register x cells first n (more e)
    by false is more e = test (nat_eq first n) refl e
      where
        test : (b : Bool) → nat_eq first n ≡ b
            → option_map (λ (t : Signal). t.kind) (cond b (Some (node_signal x first)) (find (λ (t : Signal). nat_eq t.name n) (node_signals cells (number_after (is_input x.item) first)))) ≡ Some Reg → IsRegisterOf (x ∷ cells) first n
        test false same e = later_register x cells first n (more e)
        test true same e = record {
          place = 0;
          cell = x;
          there = refl;
          register = is_reg (is_register x.item) (one_kind (kind_for (is_register x.item)) Reg e);
          number = sym (eqb-true first n same) ∙ sym (ap (λ (b : Bool). own_number b first) is);
        }

-- each always block is that of a register
pub record IsBlockOf (number : ℕ → ℕ) (cells : List Cell) (p : ℕ) (s : Action) : Type 0 where
  pub place : ℕ
  pub cell : Cell
  pub there : slice_get cells place ≡ Some cell
  pub register : is_register cell.item ≡ true
  pub is_it : s ≡ block_for (number (p + place)) cell.width (tree_for number cell.width cell.item)

later_block : (number : ℕ → ℕ) (x : Cell) (cells : List Cell) (p : ℕ) (s : Action) → IsBlockOf number cells (p + 1) s → IsBlockOf number (x ∷ cells) p s
later_block number x cells p s w =
    let there : p + 1 + w.place ≡ p + suc w.place = omega arith in
    record { place = suc w.place; cell = w.cell; there = w.there; register = w.register; is_it = w.is_it ∙ ap (λ (q : ℕ). block_for (number q) w.cell.width (tree_for number w.cell.width w.cell.item)) there }

pub block_from : (number : ℕ → ℕ) (cells : List Cell) (p i : ℕ) (s : Action) → slice_get (node_blocks number cells p) i ≡ Some s → IsBlockOf number cells p s
block_from number [] p i s at = absurd (omega (arith, slice_get_within {A = Action} [] i s at))
block_from number (x ∷ cells) p i s at = by (is_register x.item) refl (λ k later. block_from number cells (p + 1) k s later) i at
  where
    one_block : (a b : Action) → Some a ≡ Some b → a ≡ b
    one_block a b e = cc

    by : (b : Bool) → is_register x.item ≡ b → ((k : ℕ) → slice_get (node_blocks number cells (p + 1)) k ≡ Some s → IsBlockOf number cells (p + 1) s) → (i : ℕ) → slice_get (unless (not b) (block_for (number p) x.width (tree_for number x.width x.item)) (node_blocks number cells (p + 1))) i ≡ Some s → IsBlockOf number (x ∷ cells) p s
    by false e more i at = later_block number x cells p s (more i at)
    by true e more (suc i) at = later_block number x cells p s (more i at)
    by true e more zero at =
        let here : p ≡ p + 0 = omega arith in
        record {
          place = 0;
          cell = x;
          there = refl;
          register = e;
          is_it = sym (one_block _ s at) ∙ ap (λ (q : ℕ). block_for (number q) x.width (tree_for number x.width x.item)) here;
        }
