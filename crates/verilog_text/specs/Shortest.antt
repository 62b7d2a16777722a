-- The writing of a module with the fewest brackets, and the modules that have one.
use Rattle.std.specs.Prelude.{◌≡◌, ℕ, ◌+◌, ◌-◌, ◌<◌, ◌≤◌, ◌^◌, Bool, true, false, List, [], ◌∷◌, ◌++◌, map, length, filter, not, Option, Some, None, nat_lt, if◌then◌else◌}
use Rattle.verilog_tree.specs.declared.tree.Kind.{Kind}
use Rattle.verilog_tree.specs.declared.tree.Kind.TheVariants as kind
use Rattle.verilog_tree.specs.declared.tree.Signal.{Signal}
use Rattle.verilog_tree.specs.Tree as tree
use Rattle.verilog_tree.specs.Tree.{Tree, Trees, Action, Actions, Assignment, Design}
use Rattle.verilog_tree.specs.Renaming.{number_in, AreDistinct}
use Rattle.verilog_text.specs.declared.token.Decimal.{Decimal}
use Rattle.verilog_text.specs.Grammar.{Source, Sources, Named, BitOf, PartOf, Number, Based, Bracketed, Joined, Inverted, Operated, Shifted, Chosen, no_member, member, rank, looseness, is_plain, depth, operators, Limits}
use Rattle.verilog_text.specs.Statements.{Statement, Statements, Block, Guarded, Forked, Given, none, more, openness, height, IsShort}
use Rattle.verilog_text.specs.Text.{Text, Shape, Direction, Inward, Outward, FreshPort, Port, Fresh, Store, InWire, InReg, Item, Declared, Assigned, Clocked, clock_text}
use Rattle.verilog_text.specs.Layout.{plain, IsName}

-- in brackets, unless it binds tighter than this
abbrev pub within : ℕ → Source → Source
within bound c = if nat_lt (looseness c) bound then c else Bracketed c

abbrev mutual
  pub spelling : Tree → Source
  spelling (tree.Name name) = Named name
  spelling (tree.Bit name place) = BitOf name (plain place)
  spelling (tree.Part name high low) = PartOf name (plain high) (plain low)
  spelling (tree.Plain value) = Number (plain value)
  spelling (tree.Based width signed bits) = Based (record { width = width; signed = signed; bits = bits })
  spelling (tree.Cat members) = Joined (spellings members)
  spelling (tree.Not operand) = Inverted (within 1 (spelling operand))
  spelling (tree.Binary op left right) = Operated op (within (rank op + 1) (spelling left)) (within (rank op) (spelling right))
  spelling (tree.Shift op operand amount) = Shifted op (within 3 (spelling operand)) (plain amount)
  spelling (tree.Choice condition on_true on_false) = Chosen (within 8 (spelling condition)) (spelling on_true) (spelling on_false)

  pub spellings : Trees → Sources
  spellings tree.none = no_member
  spellings (tree.more first rest) = member (spelling first) (spellings rest)

-- in a block, where it would take a later `else`
abbrev pub closed : Statement → Statement
closed s = if nat_lt (openness s) 1 then s else Block (more s none)

abbrev mutual
  pub statement_of : Action → Statement
  statement_of (tree.Block members) = Block (statements_of members)
  statement_of (tree.When condition on_true) = Guarded (spelling condition) (statement_of on_true)
  statement_of (tree.Either condition on_true on_false) = Forked (spelling condition) (closed (statement_of on_true)) (statement_of on_false)
  statement_of (tree.Give register value) = Given register (spelling value)

  pub statements_of : Actions → Statements
  statements_of tree.no_action = none
  statements_of (tree.action first rest) = more (statement_of first) (statements_of rest)

abbrev pub range_of : Bool → ℕ → Option Decimal
range_of true width = Some (plain (width - 1))
range_of false width = None

abbrev pub shape_of : Signal → Shape
shape_of s = record { signed = s.signed; range = range_of s.ranged s.width }

abbrev pub is_port : Kind → Bool
is_port kind.Input = true
is_port kind.Output = true
is_port kind.Wire = false
is_port kind.Reg = false

abbrev pub direction_of : Kind → Direction
direction_of kind.Output = Outward
direction_of _ = Inward

abbrev pub store_of : Kind → Store
store_of kind.Reg = InReg
store_of _ = InWire

abbrev pub fresh_of : Signal → FreshPort
fresh_of s = record { direction = direction_of s.kind; wire = false; shape = shape_of s; name = s.name }

abbrev pub port_of : Signal → Port
port_of s = Fresh (fresh_of s)

abbrev pub declared_of : Signal → Item
declared_of s = Declared (store_of s.kind) (shape_of s) s.name []

abbrev pub assigned_of : Assignment → Item
assigned_of a = Assigned a.target (spelling a.value)

abbrev pub clocked_of : Action → Item
clocked_of a = Clocked (statement_of a)

-- the ports and what is no port, each in their order
abbrev pub ports_in : List Signal → List Signal
ports_in signals = filter (λ s. is_port s.kind) signals

abbrev pub stores_in : List Signal → List Signal
stores_in signals = filter (λ s. not (is_port s.kind)) signals

abbrev pub items_of : Design → List Item
items_of d = map declared_of (stores_in d.signals) ++ (map assigned_of d.assigns ++ map clocked_of d.blocks)

-- a module without ports has no writing
abbrev pub first_port : List Signal → FreshPort
first_port [] = record { direction = Inward; wire = false; shape = record { signed = false; range = None }; name = 0 }
first_port (s ∷ ports) = fresh_of s

abbrev pub other_ports : List Signal → List Port
other_ports [] = []
other_ports (s ∷ ports) = map port_of ports

-- the writing of a module: its ports, its wires and registers, its assignments and its blocks, each in their order
abbrev pub text_of : Design → Text
text_of d = record {
  name = d.name;
  port = first_port (ports_in d.signals);
  ports = other_ports (ports_in d.signals);
  items = items_of d;
}

abbrev pub HasMembers : Trees → Type 0
HasMembers tree.none = ⊥
HasMembers (tree.more first rest) = Unit {0}

-- names lie in the list, numbers have a writing, members are there and are no numbers without a size, shift amounts are small
abbrev mutual
  pub IsFormed : ℕ → Tree → Type 0
  IsFormed count (tree.Name name) = name < count
  IsFormed count (tree.Bit name place) = (name < count) × (place < 2 ^ 31)
  IsFormed count (tree.Part name high low) = (name < count) × (high < 2 ^ 31) × (low < 2 ^ 31)
  IsFormed count (tree.Plain value) = value < 2 ^ 31
  IsFormed count (tree.Based width signed bits) = (1 ≤ width) × (width ≤ 128) × (bits < 2 ^ width)
  IsFormed count (tree.Cat members) = HasMembers members × AreFormed count members
  IsFormed count (tree.Not operand) = IsFormed count operand
  IsFormed count (tree.Binary op left right) = IsFormed count left × IsFormed count right
  IsFormed count (tree.Shift op operand amount) = (amount < 128) × IsFormed count operand
  IsFormed count (tree.Choice condition on_true on_false) = IsFormed count condition × IsFormed count on_true × IsFormed count on_false

  pub AreFormed : ℕ → Trees → Type 0
  AreFormed count tree.none = Unit {0}
  AreFormed count (tree.more first rest) = (is_plain first ≡ false) × IsFormed count first × AreFormed count rest

abbrev mutual
  pub IsFormedAction : ℕ → Action → Type 0
  IsFormedAction count (tree.Block members) = AreFormedActions count members
  IsFormedAction count (tree.When condition on_true) = IsFormed count condition × IsFormedAction count on_true
  IsFormedAction count (tree.Either condition on_true on_false) = IsFormed count condition × IsFormedAction count on_true × IsFormedAction count on_false
  IsFormedAction count (tree.Give register value) = (register < count) × IsFormed count value

  pub AreFormedActions : ℕ → Actions → Type 0
  AreFormedActions count tree.no_action = Unit {0}
  AreFormedActions count (tree.action first rest) = IsFormedAction count first × AreFormedActions count rest

-- the writing with the fewest brackets keeps the limits
abbrev pub IsFormedAssignment : Limits → ℕ → Assignment → Type 0
IsFormedAssignment limits count a = (a.target < count) × IsFormed count a.value × (depth (spelling a.value) ≤ limits.levels) × (operators (spelling a.value) ≤ limits.operators)

abbrev pub IsFormedBlock : Limits → ℕ → Action → Type 0
IsFormedBlock limits count a = IsFormedAction count a × (height (statement_of a) ≤ limits.levels) × IsShort limits.operators (statement_of a)

abbrev pub IsFormedSignal : ℕ → Signal → Type 0
IsFormedSignal count s = (s.name < count) × (1 ≤ s.width) × (s.width ≤ 2 ^ 31) × (s.ranged ≡ false → s.width ≡ 1)

abbrev pub AllFormed : {X : Type 0} → (X → Type 0) → List X → Type 0
AllFormed P [] = Unit {0}
AllFormed P (x ∷ rest) = P x × AllFormed P rest

-- a module that has a writing: its names are different names of the grammar and its parts are formed; it has a port, and the clock is among its names
pub record IsWritable (limits : Limits) (d : Design) : Type 0 where
  pub distinct : AreDistinct d.names
  pub names : AllFormed IsName d.names
  pub name : d.name < length d.names
  pub signals : AllFormed (IsFormedSignal (length d.names)) d.signals
  pub assigns : AllFormed (IsFormedAssignment limits (length d.names)) d.assigns
  pub blocks : AllFormed (IsFormedBlock limits (length d.names)) d.blocks
  pub port : 0 < length (ports_in d.signals)
  pub clock : number_in d.names clock_text < length d.names
