-- The module that is written for a net: the ports, then one signal for each node but the input, which is the port `in_data`.
-- Each wire has one assignment with at most one operator, each register one always block of its own.
use Rattle.std.specs.Prelude.{◌≡◌, ℕ, zero, suc, ◌+◌, ◌≤◌, nat_eq, Bool, true, false, not, ◌&&◌, List, [], ◌∷◌, ◌++◌, codes, Option, Some, None, slice_get, if◌then◌else◌}
use Rattle.std.specs.Fmt.{decimal}
use Rattle.std.specs.List.{position_or_len}
use Rattle.mr_values.specs.Width.{pattern}
use Rattle.net_graph.specs.declared.cell.Cell.{Cell}
use Rattle.net_graph.specs.declared.cell.Item.{Item}
use Rattle.net_graph.specs.declared.cell.Item.TheVariants.{Input, Constant, Add, Sub, Shl, Shr, Mux, Equal, Bits, Register}
use Rattle.net_graph.specs.declared.name.Name.{Name}
use Rattle.net_graph.specs.declared.name.NameKind.{NameKind}
use Rattle.net_graph.specs.declared.name.NameKind.TheVariants.{Control, Window, Copy, PreAdder, Register as Other, Table, Output, Valid}
use Rattle.net_graph.specs.Cells.{cell_at}
use Rattle.net_graph.specs.Name.{is_input, written_name, group_name}
use Rattle.verilog_tree.specs.declared.tree.Op.TheVariants.{Add as Plus, Sub as Minus, Equal as Same}
use Rattle.verilog_tree.specs.declared.tree.ShiftOp.TheVariants.{ArithLeft, ArithRight}
use Rattle.verilog_tree.specs.declared.tree.Kind.{Kind}
use Rattle.verilog_tree.specs.declared.tree.Kind.TheVariants.{Input as InputPort, Output as OutputPort, Wire, Reg}
use Rattle.verilog_tree.specs.declared.tree.Signal.{Signal}
use Rattle.verilog_tree.specs.Tree as tree
use Rattle.verilog_tree.specs.Tree.{Tree, Action, Assignment, Design}

-- ---- which node is what

abbrev pub is_register : Option Item → Bool
is_register None = false
is_register (Some Input) = false
is_register (Some (Constant v)) = false
is_register (Some (Add a b)) = false
is_register (Some (Sub a b)) = false
is_register (Some (Shl a by)) = false
is_register (Some (Shr a by)) = false
is_register (Some (Mux on a b)) = false
is_register (Some (Equal a b)) = false
is_register (Some (Bits a high low)) = false
is_register (Some (Register next)) = true

-- neither the input nor a register
abbrev pub is_wire : Option Item → Bool
is_wire item = not (is_input item) && not (is_register item)

abbrev pub is_output_kind : NameKind → Bool
is_output_kind Output = true
is_output_kind Control = false
is_output_kind Window = false
is_output_kind Copy = false
is_output_kind PreAdder = false
is_output_kind Other = false
is_output_kind Table = false
is_output_kind Valid = false

abbrev pub is_valid_kind : NameKind → Bool
is_valid_kind Valid = true
is_valid_kind Control = false
is_valid_kind Window = false
is_valid_kind Copy = false
is_valid_kind PreAdder = false
is_valid_kind Other = false
is_valid_kind Table = false
is_valid_kind Output = false

abbrev pub has_kind : (NameKind → Bool) → Option Name → Bool
has_kind is_kind None = false
has_kind is_kind (Some name) = is_kind name.kind

-- the places of the input, of `out_q`, and of the node that is shown as `out_valid`
abbrev pub input_place : List Cell → ℕ
input_place cells = position_or_len (λ (c : Cell). is_input c.item) cells

abbrev pub output_place : List Cell → ℕ
output_place cells = position_or_len (λ (c : Cell). has_kind is_output_kind c.name) cells

abbrev pub valid_place : List Cell → ℕ
valid_place cells = position_or_len (λ (c : Cell). has_kind is_valid_kind c.name) cells

-- a node with a property
pub record HasNode (cells : List Cell) (is : Cell → Bool) (P : ℕ → Type 0) : Type 0 where
  pub place : ℕ
  pub cell : Cell
  pub there : slice_get cells place ≡ Some cell
  pub is_it : is cell ≡ true
  pub width : P cell.width

-- a net that can be written: it has one input and an `out_q`, of at most 127 bits, and a bit that is shown as `out_valid`
pub record IsWritable (cells : List Cell) : Type 0 where
  pub one_input : (j k : ℕ) (c d : Cell) → slice_get cells j ≡ Some c → slice_get cells k ≡ Some d → is_input c.item ≡ true → is_input d.item ≡ true → j ≡ k
  pub input : HasNode cells (λ c. is_input c.item) (λ width. width ≤ 127)
  pub output : HasNode cells (λ c. has_kind is_output_kind c.name) (λ width. width ≤ 127)
  pub valid : HasNode cells (λ c. has_kind is_valid_kind c.name) (λ width. width ≡ 1)

-- ---- names

-- the numbers of the ports' names: that of the module is 0
abbrev pub rst_name : ℕ
rst_name = 2

abbrev pub ce_name : ℕ
ce_name = 3

abbrev pub in_data_name : ℕ
in_data_name = 4

abbrev pub out_valid_name : ℕ
out_valid_name = 5

abbrev pub out_data_name : ℕ
out_data_name = 6

abbrev pub first_node_name : ℕ
first_node_name = 7

abbrev pub own_number : Bool → ℕ → ℕ
own_number true first = in_data_name
own_number false first = first

abbrev pub number_after : Bool → ℕ → ℕ
number_after true first = first
number_after false first = first + 1

-- the number of the name of the node at a place, where these nodes' names begin at a first number; 0 past the last
abbrev pub number_in : List Cell → ℕ → ℕ → ℕ
number_in [] first place = 0
number_in (cell ∷ cells) first zero = own_number (is_input cell.item) first
number_in (cell ∷ cells) first (suc place) = number_in cells (number_after (is_input cell.item) first) place

-- the number of the name of a node
abbrev pub number_of : List Cell → ℕ → ℕ
number_of cells place = number_in cells first_node_name place

-- a node without a name is written by its group and its place
abbrev pub nameless : ℕ → ℕ → List ℕ
nameless group place = if nat_eq group 0 then codes "ctl_n" ++ decimal place else group_name group (codes "_n") place

abbrev pub text_for : Option Name → ℕ → ℕ → List ℕ
text_for None group place = nameless group place
text_for (Some name) group place = if is_valid_kind name.kind then nameless group place else written_name name

-- the text of the name of the node at a place
abbrev pub node_text : Cell → ℕ → List ℕ
node_text cell place = text_for cell.name cell.group place

-- ---- the parts

abbrev pub unless : {A : Type 0} → Bool → A → List A → List A
unless true x xs = xs
unless false x xs = x ∷ xs

-- the texts of the names of nodes, the first of which has this place
abbrev pub node_texts : List Cell → ℕ → List (List ℕ)
node_texts [] place = []
node_texts (cell ∷ cells) place = unless (is_input cell.item) (node_text cell place) (node_texts cells (place + 1))

abbrev pub kind_for : Bool → Kind
kind_for true = Reg
kind_for false = Wire

abbrev pub node_signal : Cell → ℕ → Signal
node_signal cell number = record { name = number; kind = kind_for (is_register cell.item); signed = true; ranged = true; width = cell.width; place = 0 }

-- the declarations of nodes, whose names are numbered from here
abbrev pub node_signals : List Cell → ℕ → List Signal
node_signals [] first = []
node_signals (cell ∷ cells) first = unless (is_input cell.item) (node_signal cell first) (node_signals cells (number_after (is_input cell.item) first))

abbrev pub port : ℕ → Kind → Bool → ℕ → Signal
port number kind signed width = record { name = number; kind = kind; signed = signed; ranged = signed; width = width; place = 0 }

abbrev pub ports : ℕ → ℕ → List Signal
ports width_in width_out =
    port 1 InputPort false 1 ∷ port rst_name InputPort false 1 ∷ port ce_name InputPort false 1 ∷ port in_data_name InputPort true width_in
    ∷ port out_valid_name OutputPort false 1 ∷ port out_data_name OutputPort true width_out ∷ []

-- a literal of 0
abbrev pub zero_literal : ℕ → Tree
zero_literal width = tree.Based width true 0

-- the right side of a node's assignment
abbrev pub tree_for : (ℕ → ℕ) → ℕ → Option Item → Tree
tree_for number width None = zero_literal width
tree_for number width (Some Input) = tree.Name in_data_name
tree_for number width (Some (Constant v)) = tree.Based width true (pattern width v)
tree_for number width (Some (Add a b)) = tree.Binary Plus (tree.Name (number a.place)) (tree.Name (number b.place))
tree_for number width (Some (Sub a b)) = tree.Binary Minus (tree.Name (number a.place)) (tree.Name (number b.place))
tree_for number width (Some (Shl a by)) = tree.Shift ArithLeft (tree.Name (number a.place)) by
tree_for number width (Some (Shr a by)) = tree.Shift ArithRight (tree.Name (number a.place)) by
tree_for number width (Some (Mux on a b)) = tree.Choice (tree.Name (number on.place)) (tree.Name (number a.place)) (tree.Name (number b.place))
tree_for number width (Some (Equal a b)) = tree.Binary Same (tree.Name (number a.place)) (tree.Name (number b.place))
tree_for number width (Some (Bits a high low)) = tree.Part (number a.place) high low
tree_for number width (Some (Register next)) = tree.Name (number next.place)

-- the assignments of nodes, the first of which has this place
abbrev pub node_assigns : (ℕ → ℕ) → List Cell → ℕ → List Assignment
node_assigns number [] place = []
node_assigns number (cell ∷ cells) place =
    unless (not (is_wire cell.item)) (record { target = number place; value = tree_for number cell.width cell.item }) (node_assigns number cells (place + 1))

-- `if (rst) NAME <= 0; else if (ce) NAME <= NEXT;`
abbrev pub block_for : ℕ → ℕ → Tree → Action
block_for name width next =
    tree.Either (tree.Name rst_name) (tree.Give name (zero_literal width)) (tree.When (tree.Name ce_name) (tree.Give name next))

-- the always blocks of nodes, the first of which has this place
abbrev pub node_blocks : (ℕ → ℕ) → List Cell → ℕ → List Action
node_blocks number [] place = []
node_blocks number (cell ∷ cells) place =
    unless (not (is_register cell.item)) (block_for (number place) cell.width (tree_for number cell.width cell.item)) (node_blocks number cells (place + 1))

-- ---- the module

abbrev pub head_texts : List (List ℕ)
head_texts = codes "mr_filter" ∷ codes "clk" ∷ codes "rst" ∷ codes "ce" ∷ codes "in_data" ∷ codes "out_valid" ∷ codes "out_data" ∷ []

abbrev pub written_module : List Cell → Design
written_module cells = record {
  name = 0;
  names = head_texts ++ node_texts cells 0;
  signals = ports (cell_at cells (input_place cells)).width (cell_at cells (output_place cells)).width ++ node_signals cells first_node_name;
  assigns =
      record { target = out_valid_name; value = tree.Name (number_of cells (valid_place cells)) }
      ∷ record { target = out_data_name; value = tree.Name (number_of cells (output_place cells)) }
      ∷ node_assigns (number_of cells) cells 0;
  blocks = node_blocks (number_of cells) cells 0;
}
