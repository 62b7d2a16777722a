-- The module that is written for a net passes the checks.
use Rattle.std.proofs.Common.{◌≡◌, ℕ, zero, suc, ◌+◌, ◌<◌, Bool, true, false, not, cond, List, [], ◌∷◌, ◌++◌, length, Option, None, Some, slice_get, refl, sym, ◌∙◌, ap, arith, subst}
use Rattle.std.specs.Prelude.{nat_eq, is_some, codes, bytes_eq}
use Rattle.std.specs.Fmt.{decimal}
use Rattle.std.specs.Option.{unwrap_or}
use Rattle.std.proofs.lemmas.Option.{slice_get_within}
use Rattle.net_graph.specs.declared.cell.Cell.{Cell}
use Rattle.net_graph.specs.declared.name.Name.{Name}
use Rattle.net_graph.specs.declared.name.NameKind.{NameKind}
use Rattle.net_graph.specs.declared.name.NameKind.TheVariants.{Control, Window, Copy, PreAdder, Register as Other, Table, Output, Valid}
use Rattle.net_graph.specs.Cells.{cell_at}
use Rattle.net_graph.specs.Name.{is_input, group_name}
use Rattle.net_graph.specs.WellFormed.{IsNetlist}
use Rattle.net_graph.proofs.CellLemmas.{cell_at-there}
use Rattle.verilog_tree.specs.declared.tree.Signal.{Signal}
use Rattle.verilog_tree.specs.Tree.{Design}
use Rattle.verilog_tree.specs.Names.{declaration_in}
use Rattle.verilog_tree.specs.Checks.{Use, Read, used_name, is_declared, is_wrong_use, is_bad_select, is_clock}
use Rattle.net_module.specs.Written.{IsWritable, number_of, number_in, number_after, own_number, unless, node_signal, node_texts, node_text, text_for, nameless, written_module}
use Rattle.net_module.proofs.Numbers.{one_cell, number_input}
use Rattle.net_module.proofs.Cycles.{signal_of}
use Rattle.net_module.proofs.CheckLists.{AllFail}

-- ---- the texts of names

false_true : false ≡ true → ⊥
false_true h = cc

-- the text of a node's name stands at its number
pub text_at : (cells : List Cell) (first p place : ℕ) (cell : Cell) → slice_get cells place ≡ Some cell → is_input cell.item ≡ false
    → (i : ℕ) × (number_in cells first place ≡ first + i) × (slice_get (node_texts cells p) i ≡ Some (node_text cell (p + place)))
text_at [] first p place cell at data_node = absurd (omega (arith, slice_get_within {A = Cell} [] place cell at))
text_at (x ∷ cells) first p zero cell at data_node =
    let one = one_cell x cell at in
    let same : is_input x.item ≡ false = ap (λ (c : Cell). is_input c.item) one ∙ data_node in
    let here : p ≡ p + 0 = omega arith in (
      0,
      ap (λ (b : Bool). own_number b first) same ∙ (let e : first ≡ first + 0 = omega arith in e),
      ap (λ (b : Bool). slice_get (unless b (node_text x p) (node_texts cells (p + 1))) 0) same ∙ ap (λ (c : Cell). Some (node_text c p)) one ∙ ap (λ (q : ℕ). Some (node_text cell q)) here,
    )
text_at (x ∷ cells) first p (suc place) cell at data_node =
    by (is_input x.item) (text_at cells (number_after (is_input x.item) first) (p + 1) place cell at data_node)
  where
    there : p + 1 + place ≡ p + suc place
    there = omega arith

    by : (b : Bool) → (i : ℕ) × (number_in cells (number_after b first) place ≡ number_after b first + i) × (slice_get (node_texts cells (p + 1)) i ≡ Some (node_text cell (p + 1 + place)))
        → (i : ℕ) × (number_in cells (number_after b first) place ≡ first + i) × (slice_get (unless b (node_text x p) (node_texts cells (p + 1))) i ≡ Some (node_text cell (p + suc place)))
    by true (i, number, text) = (i, number, text ∙ ap (λ (q : ℕ). Some (node_text cell q)) there)
    by false (i, number, text) = (suc i, number ∙ (let e : first + 1 + i ≡ first + suc i = omega arith in e), text ∙ ap (λ (q : ℕ). Some (node_text cell q)) there)

-- no node's name is that of the clock
group_no_clock : (group number : ℕ) (kind : List ℕ) → bytes_eq (group_name group kind number) (codes "clk") ≡ false
group_no_clock group number kind = refl

nameless_no_clock : (group place : ℕ) → bytes_eq (nameless group place) (codes "clk") ≡ false
nameless_no_clock group place = by (nat_eq group 0)
  where
    by : (b : Bool) → bytes_eq (cond b (codes "ctl_n" ++ decimal place) (group_name group (codes "_n") place)) (codes "clk") ≡ false
    by true = refl
    by false = refl

name_no_clock : (name : Name) (group place : ℕ) → bytes_eq (text_for (Some name) group place) (codes "clk") ≡ false
name_no_clock name group place = by name.kind
  where
    by : (kind : NameKind) → bytes_eq (text_for (Some (record { group = name.group; kind = kind; number = name.number })) group place) (codes "clk") ≡ false
    by Control = refl
    by Window = refl
    by Copy = refl
    by PreAdder = refl
    by Other = refl
    by Table = refl
    by Output = refl
    by Valid = nameless_no_clock group place

text_no_clock : (name : Option Name) (group place : ℕ) → bytes_eq (text_for name group place) (codes "clk") ≡ false
text_no_clock None group place = nameless_no_clock group place
text_no_clock (Some name) group place = name_no_clock name group place

-- ---- uses

-- a use that passes the checks
pub record IsGood (d : Design) (u : Use) : Type 0 where
  pub declared : not (is_declared d (used_name u)) ≡ false
  pub kind : is_wrong_use d u ≡ false
  pub select : is_bad_select d u ≡ false

abbrev pub AllGood : Design → List Use → Type 0
AllGood d [] = Unit {0}
AllGood d (u ∷ us) = IsGood d u × AllGood d us

pub all_declared : (d : Design) (us : List Use) → AllGood d us → AllFail (λ u. not (is_declared d (used_name u))) us
all_declared d [] all = tt
all_declared d (u ∷ us) all = (all.0.declared, all_declared d us all.1)

pub all_kinds : (d : Design) (us : List Use) → AllGood d us → AllFail (is_wrong_use d) us
all_kinds d [] all = tt
all_kinds d (u ∷ us) all = (all.0.kind, all_kinds d us all.1)

pub all_selects : (d : Design) (us : List Use) → AllGood d us → AllFail (is_bad_select d) us
all_selects d [] all = tt
all_selects d (u ∷ us) all = (all.0.select, all_selects d us all.1)

module _ (cells : List Cell) (netlist : IsNetlist cells) (writable : IsWritable cells) where
  abbrev pub E : Design
  E = written_module cells

  abbrev pub M : ℕ → ℕ
  M = number_of cells

  pub node_declared : (place : ℕ) (cell : Cell) → slice_get cells place ≡ Some cell → is_input cell.item ≡ false → declaration_in E.signals (M place) ≡ Some (node_signal cell (M place))
  node_declared = signal_of cells netlist writable

  node_clock : (place : ℕ) (cell : Cell) → slice_get cells place ≡ Some cell → is_input cell.item ≡ false → is_clock E (M place) ≡ false
  node_clock place cell at data_node =
      let t = text_at cells 7 0 place cell at data_node in
      let number : M place ≡ suc (suc (suc (suc (suc (suc (suc t.0)))))) = omega (arith, t.1) in
      ap (is_clock E) number
      ∙ ap (λ (o : Option (List ℕ)). bytes_eq (unwrap_or o []) (codes "clk")) t.2
      ∙ text_no_clock cell.name cell.group (0 + place)

  -- ---- reading a node

  read_data : (place : ℕ) (cell : Cell) → slice_get cells place ≡ Some cell → is_input cell.item ≡ false → IsGood E (Read (M place))
  read_data place cell at data_node = record {
    declared = ap (λ (o : Option Signal). not (is_some o)) (node_declared place cell at data_node);
    kind = node_clock place cell at data_node;
    select = refl;
  }

  pub read_node : (place : ℕ) (cell : Cell) → slice_get cells place ≡ Some cell → IsGood E (Read (M place))
  read_node place cell at = by (is_input cell.item) refl
    where
      by : (b : Bool) → is_input cell.item ≡ b → IsGood E (Read (M place))
      by true is = subst (λ (n : ℕ). IsGood E (Read n)) (sym (number_input cells 7 place cell at is)) (record { declared = refl; kind = refl; select = refl })
      by false is = read_data place cell at is

  pub below_node : (k : ℕ) → k < length cells → IsGood E (Read (M k))
  below_node k lt = read_node k (cell_at cells k) (cell_at-there cells k lt)
