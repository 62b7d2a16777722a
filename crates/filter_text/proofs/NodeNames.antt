-- The names of nodes in a written module: each is the first with its text, and a register's is that of its name.
use Rattle.std.proofs.Common.{◌≡◌, ℕ, zero, suc, ◌+◌, true, false, List, [], ◌∷◌, ◌++◌, Option, Some, slice_get, refl, sym, ◌∙◌, ap, arith}
use Rattle.std.specs.Prelude.{bytes_eq}
use Rattle.std.specs.List.{position_or_len}
use Rattle.std.proofs.lemmas.Option.{slice_get_within}
use Rattle.net_graph.specs.declared.cell.Cell.{Cell}
use Rattle.net_graph.specs.declared.cell.Item.{Item}
use Rattle.net_graph.specs.declared.cell.Item.TheVariants.{Register}
use Rattle.net_graph.specs.declared.cell.Node.{Node}
use Rattle.net_graph.specs.declared.name.Name.{Name}
use Rattle.net_graph.specs.declared.name.NameKind.{NameKind}
use Rattle.net_graph.specs.declared.name.NameKind.TheVariants.{Control, Window, Copy, PreAdder, Register as Other, Table, Output, Valid}
use Rattle.net_graph.specs.Name.{is_input, written_name, IsRegisterName}
use Rattle.net_graph.specs.WellFormed.{IsNetlist, IsNamed}
use Rattle.verilog_tree.specs.Names as texts
use Rattle.verilog_tree.specs.Renaming.{name_in}
use Rattle.module_laws.proofs.InputPorts.{first_with_text}
use Rattle.net_module.specs.Written.{written_module, number_of, head_texts, text_for, node_text, node_texts, is_register}
use Rattle.net_module.proofs.Cycles.{register_is}
use Rattle.net_module.proofs.Passes.{text_at}
use Rattle.net_text.specs.Small.{AreSmall}
use Rattle.net_text.proofs.Names.{distinct}

-- ---- where a text stands

-- what stands behind the names of the head
past_head : (names : List (List ℕ)) (n i : ℕ) → n ≡ 7 + i → slice_get (head_texts ++ names) n ≡ slice_get names i
past_head names n i is =
    ap (slice_get (head_texts ++ names)) (let e : n ≡ suc (suc (suc (suc (suc (suc (suc i)))))) = omega (arith, is) in e)

name_at : (names : List (List ℕ)) (n : ℕ) (text : List ℕ) → slice_get names n ≡ Some text → name_in names n ≡ text
name_at [] n text at = absurd (cc)
name_at (name ∷ names) zero text at = cc
name_at (name ∷ names) (suc n) text at = name_at names n text at

pub name_there : (cells : List Cell) (place : ℕ) (cell : Cell) → slice_get cells place ≡ Some cell → is_input cell.item ≡ false → slice_get (written_module cells).names (number_of cells place) ≡ Some (node_text cell place)
name_there cells place cell at data_node =
    let there = text_at cells 7 0 place cell at data_node in
    past_head (node_texts cells 0) (number_of cells place) there.0 there.1 ∙ there.2
    ∙ ap (λ (p : ℕ). Some (node_text cell p)) (let e : 0 + place ≡ place = omega arith in e)

-- no other name has the text of a node's name
pub text_number : (cells : List Cell) → IsNetlist cells → AreSmall cells → (place : ℕ) (cell : Cell) → slice_get cells place ≡ Some cell → is_input cell.item ≡ false
    → texts.number_of (written_module cells) (node_text cell place) ≡ number_of cells place
text_number cells netlist small place cell at data_node =
    let names = (written_module cells).names in
    let there = name_there cells place cell at data_node in
    ap (λ (text : List ℕ). position_or_len (bytes_eq text) names) (sym (name_at names (number_of cells place) (node_text cell place) there))
    ∙ first_with_text names (number_of cells place) (distinct cells netlist small) (slice_get_within names (number_of cells place) (node_text cell place) there)

-- ---- the text of a register's name

named_text : (kind : NameKind) (named number group place : ℕ) → IsRegisterName (record { group = named; kind = kind; number = number })
    → text_for (Some (record { group = named; kind = kind; number = number })) group place ≡ written_name (record { group = named; kind = kind; number = number })
named_text Control named number group place is = refl
named_text Window named number group place is = refl
named_text Copy named number group place is = refl
named_text PreAdder named number group place is = refl
named_text Other named number group place is = refl
named_text Table named number group place is = absurd is
named_text Output named number group place is = refl
named_text Valid named number group place is = absurd is

register_named : (name : Name) (item : Option Item) (next : Node) → item ≡ Some (Register next) → IsNamed (Some name) item → IsRegisterName name
register_named name item next is named = rw is at named

-- a register's name is written as it is
pub register_text : (cells : List Cell) → IsNetlist cells → (place : ℕ) (cell : Cell) (name : Name) → slice_get cells place ≡ Some cell → is_register cell.item ≡ true → cell.name ≡ Some name
    → node_text cell place ≡ written_name name
register_text cells netlist place cell name at registered named =
    let is = register_is cell.item registered in
    let own : IsNamed (Some name) cell.item = rw named at (netlist.well_formed.each place cell at).named in
    ap (λ (o : Option Name). text_for o cell.group place) named
    ∙ named_text name.kind name.group name.number cell.group place (register_named name cell.item is.0 is.1 own)
