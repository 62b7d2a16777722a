-- The names of a written module that begin `ctl_` are those of its control nodes.
use Rattle.std.proofs.Common.{◌≡◌, ℕ, suc, ◌+◌, Bool, true, false, not, ◌&&◌, cond, List, [], ◌++◌, Option, None, Some, slice_get, refl, ◌∙◌, ap, arith}
use Rattle.std.specs.Prelude.{nat_eq, codes}
use Rattle.std.specs.Fmt.{decimal}
use Rattle.std.specs.Option.{unwrap_or}
use Rattle.net_graph.specs.declared.cell.Cell.{Cell}
use Rattle.net_graph.specs.declared.name.Name.{Name}
use Rattle.net_graph.specs.declared.name.NameKind.{NameKind}
use Rattle.net_graph.specs.declared.name.NameKind.TheVariants.{Control, Window, Copy, PreAdder, Register as Other, Table, Output, Valid}
use Rattle.net_graph.specs.Name.{is_input, is_control, is_control_name, group_name}
use Rattle.verilog_tree.specs.Names as texts
use Rattle.verilog_tree.specs.Names.{text_of}
use Rattle.net_module.specs.Written.{written_module, number_of, head_texts, nameless, text_for, node_text, node_texts}
use Rattle.net_module.proofs.Numbers.{number_input}
use Rattle.net_module.proofs.NodeTexts.{node_text_of}

nameless_control : (group place : ℕ) → texts.is_control (nameless group place) ≡ nat_eq group 0
nameless_control group place = by (nat_eq group 0)
  where
    by : (b : Bool) → texts.is_control (cond b (codes "ctl_n" ++ decimal place) (group_name group (codes "_n") place)) ≡ b
    by true = refl
    by false = refl

named_control : (kind : NameKind) (named number group place : ℕ)
    → texts.is_control (text_for (Some (record { group = named; kind = kind; number = number })) group place) ≡ is_control_name (Some (record { group = named; kind = kind; number = number })) group
named_control Control named number group place = refl
named_control Window named number group place = refl
named_control Copy named number group place = refl
named_control PreAdder named number group place = refl
named_control Other named number group place = refl
named_control Table named number group place = refl
named_control Output named number group place = refl
named_control Valid named number group place = nameless_control group place

text_control : (name : Option Name) (group place : ℕ) → texts.is_control (text_for name group place) ≡ is_control_name name group
text_control None group place = nameless_control group place
text_control (Some name) group place = named_control name.kind name.group name.number group place

not_input : (a b : Bool) → b ≡ false → a ≡ (a && not b)
not_input true b e = rw e refl
not_input false b e = refl

no_control : (a b : Bool) → b ≡ true → false ≡ (a && not b)
no_control true b e = rw e refl
no_control false b e = refl

-- a node's name begins `ctl_` exactly where the node is control
pub control_of : (cells : List Cell) (place : ℕ) (cell : Cell) → slice_get cells place ≡ Some cell → texts.is_control (text_of (written_module cells) (number_of cells place)) ≡ is_control cell
control_of cells place cell at = by (is_input cell.item) refl
  where
    by : (b : Bool) → is_input cell.item ≡ b → texts.is_control (text_of (written_module cells) (number_of cells place)) ≡ is_control cell
    by true is =
        ap (λ (n : ℕ). texts.is_control (text_of (written_module cells) n)) (number_input cells 7 place cell at is)
        ∙ no_control (is_control_name cell.name cell.group) (is_input cell.item) is
    by false is =
        ap texts.is_control (node_text_of cells place cell at is) ∙ text_control cell.name cell.group place
        ∙ not_input (is_control_name cell.name cell.group) (is_input cell.item) is
