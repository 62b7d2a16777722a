-- Ports, items and the text of a module: as they are written, their tokens, and the module that they stand for.
use Rattle.std.specs.Prelude.{ℕ, ◌+◌, ◌≤◌, Bool, true, false, List, [], ◌∷◌, ◌++◌, map, Option, Some, None, codes}
use Rattle.verilog_tree.specs.declared.tree.Kind.{Kind}
use Rattle.verilog_tree.specs.declared.tree.Kind.TheVariants as kind
use Rattle.verilog_tree.specs.declared.tree.Signal.{Signal}
use Rattle.verilog_tree.specs.Tree.{Action, Assignment}
use Rattle.verilog_text.specs.declared.token.Decimal.{Decimal}
use Rattle.verilog_text.specs.declared.token.Word.{Word}
use Rattle.verilog_text.specs.declared.token.Word.TheVariants as word
use Rattle.verilog_text.specs.declared.token.Mark.TheVariants as mark
use Rattle.verilog_text.specs.declared.token.Token.{Token}
use Rattle.verilog_text.specs.declared.token.Token.TheVariants as token
use Rattle.verilog_text.specs.Grammar.{Source, written, marked, tree_of, IsGrouped, depth, operators, Limits}
use Rattle.verilog_text.specs.Statements.{Statement, worded, statement_text, action_of, IsParted, height, IsShort}

-- a sign and a range, as `signed [3:0]`: the range is written by its highest place
pub record Shape : Type 0 where
  pub signed : Bool
  pub range : Option Decimal

pub data Direction : Type 0 where
  Inward : Direction
  Outward : Direction

-- a port of a direction of its own; `wire` may stand behind the direction
pub record FreshPort : Type 0 where
  pub direction : Direction
  pub wire : Bool
  pub shape : Shape
  pub name : ℕ

-- a port, or a name alone, with the direction, sign and range of the port before it
pub data Port : Type 0 where
  Fresh : (port : FreshPort) → Port
  Same : (name : ℕ) → Port

pub data Store : Type 0 where
  InWire : Store
  InReg : Store

pub data Item : Type 0 where
  Declared : (store : Store) (shape : Shape) (first : ℕ) (others : List ℕ) → Item
  Assigned : (target : ℕ) (value : Source) → Item
  Clocked : (body : Statement) → Item

pub record Text : Type 0 where
  pub name : ℕ
  pub port : FreshPort
  pub ports : List Port
  pub items : List Item

-- the number `0`, written with one digit
abbrev pub zero_digit : Decimal
zero_digit = record { value = 0; is_single = true }

abbrev pub range_text : Option Decimal → List Token → List Token
range_text None rest = rest
range_text (Some high) rest = marked mark.OpenBracket (token.Number high ∷ marked mark.Colon (token.Number zero_digit ∷ marked mark.CloseBracket rest))

abbrev pub if_word : Bool → Word → List Token → List Token
if_word true w rest = worded w rest
if_word false w rest = rest

abbrev pub shape_text : Shape → List Token → List Token
shape_text shape rest = if_word shape.signed word.Signed (range_text shape.range rest)

abbrev pub direction_word : Direction → Word
direction_word Inward = word.Input
direction_word Outward = word.Output

abbrev pub fresh_text : FreshPort → List Token → List Token
fresh_text p rest = worded (direction_word p.direction) (if_word p.wire word.Wire (shape_text p.shape (token.Name p.name ∷ rest)))

abbrev pub port_text : Port → List Token → List Token
port_text (Fresh p) rest = fresh_text p rest
port_text (Same name) rest = token.Name name ∷ rest

-- each behind a comma
abbrev pub ports_text : List Port → List Token → List Token
ports_text [] rest = rest
ports_text (p ∷ ports) rest = marked mark.Comma (port_text p (ports_text ports rest))

abbrev pub names_text : List ℕ → List Token → List Token
names_text [] rest = rest
names_text (name ∷ names) rest = marked mark.Comma (token.Name name ∷ names_text names rest)

abbrev pub store_word : Store → Word
store_word InWire = word.Wire
store_word InReg = word.Reg

-- the tokens of an item; the first number is that of the name `clk`
abbrev pub item_text : ℕ → Item → List Token → List Token
item_text clock (Declared store shape first others) rest = worded (store_word store) (shape_text shape (token.Name first ∷ names_text others (marked mark.Semicolon rest)))
item_text clock (Assigned target value) rest = worded word.Assign (token.Name target ∷ marked mark.Assigned (written value (marked mark.Semicolon rest)))
item_text clock (Clocked body) rest = worded word.Always (marked mark.At (marked mark.Open (worded word.Posedge (token.Name clock ∷ marked mark.Close (statement_text body rest)))))

abbrev pub items_text : ℕ → List Item → List Token → List Token
items_text clock [] rest = rest
items_text clock (x ∷ items) rest = item_text clock x (items_text clock items rest)

abbrev pub tokens_of : ℕ → Text → List Token
tokens_of clock t = worded word.Module (token.Name t.name ∷ marked mark.Open (fresh_text t.port (ports_text t.ports (marked mark.Close (marked mark.Semicolon (items_text clock t.items (worded word.EndModule [])))))))

-- the name of the clock
abbrev pub clock_text : List ℕ
clock_text = codes "clk"

abbrev pub IsItem : Limits → Item → Type 0
IsItem limits (Declared store shape first others) = Unit {0}
IsItem limits (Assigned target value) = IsGrouped value × (depth value ≤ limits.levels) × (operators value ≤ limits.operators)
IsItem limits (Clocked body) = IsParted body × (height body ≤ limits.levels) × IsShort limits.operators body

abbrev pub AreItems : Limits → List Item → Type 0
AreItems limits [] = Unit {0}
AreItems limits (x ∷ items) = IsItem limits x × AreItems limits items

abbrev pub direction_kind : Direction → Kind
direction_kind Inward = kind.Input
direction_kind Outward = kind.Output

abbrev pub store_kind : Store → Kind
store_kind InWire = kind.Wire
store_kind InReg = kind.Reg

abbrev pub width_of : Option Decimal → ℕ
width_of None = 1
width_of (Some high) = high.value + 1

abbrev pub is_ranged : Option Decimal → Bool
is_ranged None = false
is_ranged (Some high) = true

-- a declaration, its place left open
abbrev pub signal_of : Kind → Shape → ℕ → Signal
signal_of k shape name = record { name = name; kind = k; signed = shape.signed; ranged = is_ranged shape.range; width = width_of shape.range; place = 0 }

abbrev pub fresh_signal : FreshPort → Signal
fresh_signal p = signal_of (direction_kind p.direction) p.shape p.name

-- the ports behind one: a name alone has all else of the port before it
abbrev pub port_signals : FreshPort → List Port → List Signal
port_signals before [] = []
port_signals before (Fresh p ∷ ports) = fresh_signal p ∷ port_signals p ports
port_signals before (Same name ∷ ports) = signal_of (direction_kind before.direction) before.shape name ∷ port_signals before ports

abbrev pub item_signals : Item → List Signal
item_signals (Declared store shape first others) = map (signal_of (store_kind store) shape) (first ∷ others)
item_signals (Assigned target value) = []
item_signals (Clocked body) = []

abbrev pub items_signals : List Item → List Signal
items_signals [] = []
items_signals (x ∷ items) = item_signals x ++ items_signals items

-- all declarations in their order
abbrev pub signals_of : Text → List Signal
signals_of t = fresh_signal t.port ∷ (port_signals t.port t.ports ++ items_signals t.items)

abbrev pub item_assigns : Item → List Assignment
item_assigns (Declared store shape first others) = []
item_assigns (Assigned target value) = record { target = target; value = tree_of value } ∷ []
item_assigns (Clocked body) = []

abbrev pub assigns_of : List Item → List Assignment
assigns_of [] = []
assigns_of (x ∷ items) = item_assigns x ++ assigns_of items

abbrev pub item_blocks : Item → List Action
item_blocks (Declared store shape first others) = []
item_blocks (Assigned target value) = []
item_blocks (Clocked body) = action_of body ∷ []

abbrev pub blocks_of : List Item → List Action
blocks_of [] = []
blocks_of (x ∷ items) = item_blocks x ++ blocks_of items
