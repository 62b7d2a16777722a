-- The name `out_q` of a written module is that of the output's node.
use Rattle.std.proofs.Common.{◌≡◌, ℕ, zero, suc, ◌+◌, Bool, true, false, not, cond, List, [], ◌∷◌, ◌++◌, Option, None, Some, slice_get, refl, sym, ◌∙◌, ap, arith}
use Rattle.std.specs.Prelude.{nat_eq, codes, bytes_eq}
use Rattle.std.specs.Fmt.{decimal}
use Rattle.std.specs.List.{position_or_len}
use Rattle.std.proofs.lemmas.Option.{slice_get_within}
use Rattle.net_graph.specs.declared.cell.Cell.{Cell}
use Rattle.net_graph.specs.declared.cell.Item.{Item}
use Rattle.net_graph.specs.declared.cell.Item.TheVariants.{Input, Constant, Add, Sub, Shl, Shr, Mux, Equal, Bits, Register}
use Rattle.net_graph.specs.declared.name.Name.{Name}
use Rattle.net_graph.specs.declared.name.NameKind.{NameKind}
use Rattle.net_graph.specs.declared.name.NameKind.TheVariants.{Control, Window, Copy, PreAdder, Register as Other, Table, Output, Valid}
use Rattle.net_graph.specs.Name.{is_input, group_name}
use Rattle.net_graph.specs.WellFormed.{IsWellFormed, IsNamed}
use Rattle.verilog_tree.specs.Names as texts
use Rattle.net_module.specs.Written.{written_module, has_kind, is_output_kind, output_place, number_of, number_in, number_after, own_number, unless, nameless, text_for, node_text, node_texts}
use Rattle.net_module.proofs.Numbers.{one_cell}

false_true : false ≡ true → ⊥
false_true h = cc

abbrev Q : List ℕ → Bool
Q = bytes_eq (codes "out_q")

abbrev H : Cell → Bool
H cell = has_kind is_output_kind cell.name

-- ---- whose name is `out_q`

nameless_other : (group place : ℕ) → Q (nameless group place) ≡ false
nameless_other group place = by (nat_eq group 0)
  where
    by : (b : Bool) → Q (cond b (codes "ctl_n" ++ decimal place) (group_name group (codes "_n") place)) ≡ false
    by true = refl
    by false = refl

named_output : (kind : NameKind) (named number group place : ℕ) → Q (text_for (Some (record { group = named; kind = kind; number = number })) group place) ≡ is_output_kind kind
named_output Control named number group place = refl
named_output Window named number group place = refl
named_output Copy named number group place = refl
named_output PreAdder named number group place = refl
named_output Other named number group place = refl
named_output Table named number group place = refl
named_output Output named number group place = refl
named_output Valid named number group place = nameless_other group place

text_output : (name : Option Name) (group place : ℕ) → Q (text_for name group place) ≡ has_kind is_output_kind name
text_output None group place = nameless_other group place
text_output (Some name) group place = named_output name.kind name.group name.number group place

-- ---- where it stands

-- the place among the texts, and among the nodes
module _ (x : Cell) (cells : List Cell) (first p : ℕ) where
  abbrev rest : ℕ
  rest = position_or_len Q (node_texts cells (p + 1))

  abbrev place : ℕ
  place = position_or_len H cells

  step : (b h : Bool) → is_input x.item ≡ b → H x ≡ h → (b ≡ true → h ≡ false) → (h ≡ false → number_after b first + rest ≡ number_in cells (number_after b first) place)
      → first + position_or_len Q (unless b (node_text x p) (node_texts cells (p + 1))) ≡ number_in (x ∷ cells) first (cond (not h) (1 + place) 0)
  step true true is has never same = absurd (false_true (sym (never refl)))
  step true false is has never same =
      same refl ∙ ap (λ (b : Bool). number_in cells (number_after b first) place) (sym is) ∙ ap (number_in (x ∷ cells) first) (let e : suc place ≡ 1 + place = omega arith in e)
  step false true is has never same =
      ap (λ (t : Bool). first + cond (not t) (1 + rest) 0) (text_output x.name x.group p ∙ has) ∙ (let e : first + 0 ≡ first = omega arith in e) ∙ ap (λ (b : Bool). own_number b first) (sym is)
  step false false is has never same =
      ap (λ (t : Bool). first + cond (not t) (1 + rest) 0) (text_output x.name x.group p ∙ has) ∙ (let e : first + (1 + rest) ≡ first + 1 + rest = omega arith in e)
      ∙ same refl ∙ ap (λ (b : Bool). number_in cells (number_after b first) place) (sym is) ∙ ap (number_in (x ∷ cells) first) (let e : suc place ≡ 1 + place = omega arith in e)

output_at : (cells : List Cell) (first p k : ℕ) (cell : Cell) → ((j : ℕ) (c : Cell) → slice_get cells j ≡ Some c → is_input c.item ≡ true → H c ≡ false) → slice_get cells k ≡ Some cell → H cell ≡ true
    → first + position_or_len Q (node_texts cells p) ≡ number_in cells first (position_or_len H cells)
output_at [] first p k cell never at is = absurd (omega (arith, slice_get_within {A = Cell} [] k cell at))
output_at (x ∷ cells) first p zero cell never at is =
    step x cells first p (is_input x.item) (H x) refl refl (never 0 x refl) (λ h. absurd (false_true (sym h ∙ ap H (one_cell x cell at) ∙ is)))
output_at (x ∷ cells) first p (suc k) cell never at is =
    step x cells first p (is_input x.item) (H x) refl refl (never 0 x refl) (λ h. output_at cells (number_after (is_input x.item) first) (p + 1) k cell (λ j c. never (suc j) c) at is)

-- the input has no such name
input_other : (name : Option Name) (item : Option Item) → IsNamed name item → is_input item ≡ true → has_kind is_output_kind name ≡ false
input_other None item n is = refl
input_other (Some name) item n is = by name.kind item n is
  where
    by : (kind : NameKind) (item : Option Item) → IsNamed (Some (record { group = name.group; kind = kind; number = name.number })) item → is_input item ≡ true → is_output_kind kind ≡ false
    by Control item n is = refl
    by Window item n is = refl
    by Copy item n is = refl
    by PreAdder item n is = refl
    by Other item n is = refl
    by Table item n is = refl
    by Valid item n is = refl
    by Output None n is = absurd (false_true is)
    by Output (Some Input) n is = absurd n
    by Output (Some (Constant v)) n is = absurd (false_true is)
    by Output (Some (Add a b)) n is = absurd (false_true is)
    by Output (Some (Sub a b)) n is = absurd (false_true is)
    by Output (Some (Shl a k)) n is = absurd (false_true is)
    by Output (Some (Shr a k)) n is = absurd (false_true is)
    by Output (Some (Mux on a b)) n is = absurd (false_true is)
    by Output (Some (Equal a b)) n is = absurd (false_true is)
    by Output (Some (Bits a high low)) n is = absurd (false_true is)
    by Output (Some (Register next)) n is = absurd (false_true is)

pub output_number : (cells : List Cell) (k : ℕ) (cell : Cell) → IsWellFormed cells → slice_get cells k ≡ Some cell → has_kind is_output_kind cell.name ≡ true
    → texts.number_of (written_module cells) (codes "out_q") ≡ number_of cells (output_place cells)
output_number cells k cell formed at is =
    (let q = position_or_len Q (node_texts cells 0) in let e : 1 + (1 + (1 + (1 + (1 + (1 + (1 + q)))))) ≡ 7 + q = omega arith in e)
    ∙ output_at cells 7 0 k cell (λ j c found input. input_other c.name c.item (formed.each j c found).named input) at is
