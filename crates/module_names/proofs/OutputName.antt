-- The name `out_q` is that of one register.
use Rattle.std.proofs.Common.{◌≡◌, ℕ, zero, suc, ◌+◌, Bool, true, false, not, cond, List, [], ◌∷◌, ◌++◌, Option, None, Some, slice_get, refl, sym, ◌∙◌, ap, arith}
use Rattle.std.specs.Prelude.{nat_eq, codes, bytes_eq, IsSome}
use Rattle.std.specs.Fmt.{decimal}
use Rattle.std.specs.List.{position_or_len}
use Rattle.std.proofs.lemmas.Option.{slice_get_within}
use Rattle.net_graph.specs.declared.cell.Cell.{Cell}
use Rattle.net_graph.specs.declared.cell.Item.{Item}
use Rattle.net_graph.specs.declared.cell.Item.TheVariants.{Input, Constant, Add, Sub, Shl, Shr, Mux, Equal, Bits, Register}
use Rattle.net_graph.specs.declared.name.Name.{Name}
use Rattle.net_graph.specs.declared.name.NameKind.{NameKind}
use Rattle.net_graph.specs.declared.name.NameKind.TheVariants.{Control, Window, Copy, PreAdder, Register as Other, Table, Output, Valid}
use Rattle.net_graph.specs.Name.{is_input, group_name, IsWireKind}
use Rattle.net_graph.specs.WellFormed.{IsNamed, IsNetlist}
use Rattle.verilog_tree.specs.Names as texts
use Rattle.net_module.specs.Written.{has_kind, is_output_kind, is_register, unless, own_number, number_after, number_in, number_of, nameless, text_for, node_text, node_texts, output_place, written_module}
use Rattle.net_module.proofs.Cycles.{register_data}
use Rattle.net_module.proofs.Numbers.{one_cell}
use Rattle.module_names.specs.Outputs.{is_output}

true_false : true ≡ false → ⊥
true_false h = cc

-- ---- texts of outputs

nameless_output : (group place : ℕ) → is_output (nameless group place) ≡ false
nameless_output group place = by (nat_eq group 0)
  where
    by : (b : Bool) → is_output (cond b (codes "ctl_n" ++ decimal place) (group_name group (codes "_n") place)) ≡ false
    by true = refl
    by false = refl

kind_output : (kind : NameKind) (named number group place : ℕ) → is_output (text_for (Some (record { group = named; kind = kind; number = number })) group place) ≡ is_output_kind kind
kind_output Control named number group place = refl
kind_output Window named number group place = refl
kind_output Copy named number group place = refl
kind_output PreAdder named number group place = refl
kind_output Other named number group place = refl
kind_output Table named number group place = refl
kind_output Output named number group place = refl
kind_output Valid named number group place = nameless_output group place

-- of the names of nodes only that of the output's kind is one of an output
pub output_text : (name : Option Name) (group place : ℕ) → is_output (text_for name group place) ≡ has_kind is_output_kind name
output_text None group place = nameless_output group place
output_text (Some name) group place = kind_output name.kind name.group name.number group place

nameless_out : (group place : ℕ) → bytes_eq (codes "out_q") (nameless group place) ≡ false
nameless_out group place = by (nat_eq group 0)
  where
    by : (b : Bool) → bytes_eq (codes "out_q") (cond b (codes "ctl_n" ++ decimal place) (group_name group (codes "_n") place)) ≡ false
    by true = refl
    by false = refl

kind_out : (kind : NameKind) (named number group place : ℕ) → bytes_eq (codes "out_q") (text_for (Some (record { group = named; kind = kind; number = number })) group place) ≡ is_output_kind kind
kind_out Control named number group place = refl
kind_out Window named number group place = refl
kind_out Copy named number group place = refl
kind_out PreAdder named number group place = refl
kind_out Other named number group place = refl
kind_out Table named number group place = refl
kind_out Output named number group place = refl
kind_out Valid named number group place = nameless_out group place

-- and it is `out_q`
out_text : (name : Option Name) (group place : ℕ) → bytes_eq (codes "out_q") (text_for name group place) ≡ has_kind is_output_kind name
out_text None group place = nameless_out group place
out_text (Some name) group place = kind_out name.kind name.group name.number group place

-- ---- it is a register

no_wire : (kind : NameKind) (named number : ℕ) → IsWireKind kind named number → is_output_kind kind ≡ true → ⊥
no_wire Output named number wire is = wire
no_wire Control named number wire is = wire
no_wire Window named number wire is = wire
no_wire Copy named number wire is = wire
no_wire PreAdder named number wire is = wire
no_wire Other named number wire is = wire
no_wire Table named number wire is = true_false (sym is)
no_wire Valid named number wire is = true_false (sym is)

pub output_register : (name : Option Name) (item : Option Item) → IsNamed name item → IsSome item → has_kind is_output_kind name ≡ true → is_register item ≡ true
output_register None item named some is = absurd (true_false (sym is))
output_register (Some name) None named some is = absurd (true_false (sym some))
output_register (Some name) (Some (Register next)) named some is = refl
output_register (Some name) (Some Input) named some is = absurd (no_wire name.kind name.group name.number named is)
output_register (Some name) (Some (Constant v)) named some is = absurd (no_wire name.kind name.group name.number named is)
output_register (Some name) (Some (Add a b)) named some is = absurd (no_wire name.kind name.group name.number named is)
output_register (Some name) (Some (Sub a b)) named some is = absurd (no_wire name.kind name.group name.number named is)
output_register (Some name) (Some (Shl a by)) named some is = absurd (no_wire name.kind name.group name.number named is)
output_register (Some name) (Some (Shr a by)) named some is = absurd (no_wire name.kind name.group name.number named is)
output_register (Some name) (Some (Mux on a b)) named some is = absurd (no_wire name.kind name.group name.number named is)
output_register (Some name) (Some (Equal a b)) named some is = absurd (no_wire name.kind name.group name.number named is)
output_register (Some name) (Some (Bits a high low)) named some is = absurd (no_wire name.kind name.group name.number named is)

-- ---- its number

abbrev is_out : Cell → Bool
is_out cell = has_kind is_output_kind cell.name

-- the place of the first `out_q` of a list of names
abbrev out_in : List (List ℕ) → ℕ
out_in names = position_or_len (bytes_eq (codes "out_q")) names

out_number : (cells : List Cell) (first p place : ℕ) (cell : Cell) → slice_get cells place ≡ Some cell → is_out cell ≡ true
    → ((k : ℕ) (c : Cell) → slice_get cells k ≡ Some c → is_out c ≡ true → is_input c.item ≡ false) → first + out_in (node_texts cells p) ≡ number_in cells first (position_or_len is_out cells)
out_number [] first p place cell at is none = absurd (omega (arith, slice_get_within {A = Cell} [] place cell at))
out_number (x ∷ cells) first p place cell at is none =
    by (is_out x) (is_input x.item) refl refl place at (λ k found. out_number cells (number_after (is_input x.item) first) (p + 1) k cell found is (λ j c there. none (suc j) c there))
  where
    tested : (o : Bool) → is_out x ≡ o → first + out_in (node_text x p ∷ node_texts cells (p + 1)) ≡ first + cond (not o) (1 + out_in (node_texts cells (p + 1))) 0
    tested o e = ap (λ (t : Bool). first + cond (not t) (1 + out_in (node_texts cells (p + 1))) 0) (out_text x.name x.group p ∙ e)

    by : (o b : Bool) → is_out x ≡ o → is_input x.item ≡ b → (place : ℕ) → slice_get (x ∷ cells) place ≡ Some cell
        → ((k : ℕ) → slice_get cells k ≡ Some cell → number_after (is_input x.item) first + out_in (node_texts cells (p + 1)) ≡ number_in cells (number_after (is_input x.item) first) (position_or_len is_out cells))
        → first + out_in (unless b (node_text x p) (node_texts cells (p + 1))) ≡ number_in (x ∷ cells) first (cond (not o) (1 + position_or_len is_out cells) 0)
    by true true e f place at more = absurd (true_false (sym f ∙ none 0 x refl e))
    by true false e f place at more =
        let own : first + 0 ≡ first = omega arith in
        tested true e ∙ own ∙ ap (λ (b : Bool). own_number b first) (sym f)
    by false b e f zero at more = absurd (true_false (sym is ∙ ap is_out (sym (one_cell x cell at)) ∙ e))
    by false true e f (suc place) at more =
        let next : suc (position_or_len is_out cells) ≡ 1 + position_or_len is_out cells = omega arith in
        ap (λ (b : Bool). number_after b first + out_in (node_texts cells (p + 1))) (sym f) ∙ more place at ∙ ap (number_in (x ∷ cells) first) next
    by false false e f (suc place) at more =
        let next : suc (position_or_len is_out cells) ≡ 1 + position_or_len is_out cells = omega arith in
        let moved : first + (1 + out_in (node_texts cells (p + 1))) ≡ first + 1 + out_in (node_texts cells (p + 1)) = omega arith in
        tested false e ∙ moved ∙ ap (λ (b : Bool). number_after b first + out_in (node_texts cells (p + 1))) (sym f) ∙ more place at ∙ ap (number_in (x ∷ cells) first) next

-- the first name with the text `out_q` is that of the first node of the output's kind
pub output_number : (cells : List Cell) → IsNetlist cells → (place : ℕ) (cell : Cell) → slice_get cells place ≡ Some cell → has_kind is_output_kind cell.name ≡ true
    → texts.number_of (written_module cells) (codes "out_q") ≡ number_of cells (output_place cells)
output_number cells netlist place cell at is =
    let number = out_number cells 7 0 place cell at is
    (λ k c there out. register_data c.item (output_register c.name c.item (netlist.well_formed.each k c there).named (netlist.bound.each k c there) out)) in
    let behind : texts.number_of (written_module cells) (codes "out_q") ≡ 7 + out_in (node_texts cells 0) = omega arith in
    behind ∙ number
