-- The checks of a module, in their order; each names the first signal in text order that fails it. Text order is: declarations by
-- place, those of one place in the order of the list, then assignments in order, then always blocks in order, and within an
-- expression from left to right.
use Rattle.std.specs.Prelude.{◌≡◌, ◌<◌, ℕ, zero, suc, ◌+◌, ◌==◌, Bool, true, false, ◌&&◌, ◌||◌, not, nat_lt, nat_le, is_some, if◌then◌else◌, List, [], ◌∷◌, map, find, length, bytes_eq, codes, Option, None, Some, slice_get}
use Rattle.std.specs.List.{list_any}
use Rattle.std.specs.Option.{option_map, option_map_or}
use Rattle.verilog_tree.specs.declared.tree.Signal.{Signal}
use Rattle.verilog_tree.specs.declared.tree.Kind.{Kind}
use Rattle.verilog_tree.specs.declared.tree.Kind.TheVariants.{Input, Output, Wire, Reg}
use Rattle.verilog_tree.specs.declared.fault.ModuleFault.{ModuleFault}
use Rattle.verilog_tree.specs.declared.fault.ModuleFault.TheVariants.{Redeclared, Undeclared, PortShape, WrongKind, WidthOver, BadSelect, ManyDrivers, NoDriver, CombLoop, Memory}
use Rattle.verilog_tree.specs.Tree.{Tree, Trees, Name, Bit, Part, Plain, Based, Cat, Not, Binary, Shift, Choice, none, more, Action, Actions, Block, When, Either, Give, no_action, action, Assignment, Design}
use Rattle.verilog_tree.specs.Meaning.{Shapes, length_of}
use Rattle.verilog_tree.specs.Names.{declaration_in, shapes_of, text_of}
use Rattle.verilog_tree.specs.Cycle.{reads}

abbrev pub or_else : {A : Type 0} → Option A → Option A → Option A
or_else None b = b
or_else (Some a) b = Some a

-- ---- text order

-- a declaration before the first that doesn't stand before it
abbrev pub with_declaration : Signal → List Signal → List Signal
with_declaration s [] = s ∷ []
with_declaration s (t ∷ ts) = if nat_le s.place t.place then s ∷ t ∷ ts else t ∷ with_declaration s ts

-- the declarations by their places
abbrev pub in_text_order : List Signal → List Signal
in_text_order [] = []
in_text_order (s ∷ ss) = with_declaration s (in_text_order ss)

abbrev pub declarations : Design → List Signal
declarations d = in_text_order d.signals

-- where a name stands outside its declaration
pub data Use : Type 0 where
  -- on the left of an `assign`
  Assigned : (name : ℕ) → Use
  -- on the left of `<=`
  Given : (name : ℕ) → Use
  -- in an expression, as a whole
  Read : (name : ℕ) → Use
  -- in an expression, from a high place down to a low one
  Selected : (name high low : ℕ) → Use

abbrev pub used_name : Use → ℕ
used_name (Assigned name) = name
used_name (Given name) = name
used_name (Read name) = name
used_name (Selected name high low) = name

abbrev mutual
  -- the uses of names in an expression, before further ones
  pub tree_uses : Tree → List Use → List Use
  tree_uses (Name n) rest = Read n ∷ rest
  tree_uses (Bit n place) rest = Selected n place place ∷ rest
  tree_uses (Part n high low) rest = Selected n high low ∷ rest
  tree_uses (Plain x) rest = rest
  tree_uses (Based width signed bits) rest = rest
  tree_uses (Cat members) rest = trees_uses members rest
  tree_uses (Not a) rest = tree_uses a rest
  tree_uses (Binary op a b) rest = tree_uses a (tree_uses b rest)
  tree_uses (Shift op a amount) rest = tree_uses a rest
  tree_uses (Choice condition a b) rest = tree_uses condition (tree_uses a (tree_uses b rest))

  pub trees_uses : Trees → List Use → List Use
  trees_uses none rest = rest
  trees_uses (more first others) rest = tree_uses first (trees_uses others rest)

abbrev mutual
  pub action_uses : Action → List Use → List Use
  action_uses (Block members) rest = actions_uses members rest
  action_uses (When condition first) rest = tree_uses condition (action_uses first rest)
  action_uses (Either condition first second) rest = tree_uses condition (action_uses first (action_uses second rest))
  action_uses (Give target e) rest = Given target ∷ tree_uses e rest

  pub actions_uses : Actions → List Use → List Use
  actions_uses no_action rest = rest
  actions_uses (action first others) rest = action_uses first (actions_uses others rest)

abbrev pub blocks_uses : List Action → List Use
blocks_uses [] = []
blocks_uses (s ∷ ss) = action_uses s (blocks_uses ss)

abbrev pub assigns_uses : List Assignment → List Use → List Use
assigns_uses [] rest = rest
assigns_uses (a ∷ others) rest = Assigned a.target ∷ tree_uses a.value (assigns_uses others rest)

-- all uses of names
abbrev pub uses : Design → List Use
uses d = assigns_uses d.assigns (blocks_uses d.blocks)

-- ---- a name is declared twice

-- the first number that stands before, in the list or among those that were seen
abbrev pub first_repeat : List ℕ → List ℕ → Option ℕ
first_repeat seen [] = None
first_repeat seen (n ∷ ns) = or_else (if list_any (λ m. m == n) seen then Some n else None) (first_repeat (n ∷ seen) ns)

abbrev pub redeclared : Design → Option ℕ
redeclared d = first_repeat [] (map (λ (s : Signal). s.name) (declarations d))

-- ---- a name is not declared

abbrev pub is_declared : Design → ℕ → Bool
is_declared d n = is_some (declaration_in d.signals n)

abbrev pub undeclared : Design → Option ℕ
undeclared d = option_map used_name (find (λ u. not (is_declared d (used_name u))) (uses d))

-- ---- the ports are not those of a face

abbrev pub is_port : Kind → Bool
is_port Input = true
is_port Output = true
is_port Wire = false
is_port Reg = false

abbrev pub is_input_port : Kind → Bool
is_input_port Input = true
is_input_port Output = false
is_input_port Wire = false
is_input_port Reg = false

-- a port of one bit without a range
abbrev pub is_bit_port : Signal → Bool
is_bit_port s = not s.ranged && (not s.signed && s.width == 1)

-- a port of 1 to 127 bits
abbrev pub is_data_port : Signal → Bool
is_data_port s = nat_le 1 s.width && nat_le s.width 127

-- a port that a module is to have: its text, whether it is an input, and whether it is a bit or else carries a number
pub record Port : Type 0 where
  pub text : List ℕ
  pub input : Bool
  pub bit : Bool

-- the ports that a module is to have
abbrev pub Face : Type 0
Face = List Port

-- those of a filter
abbrev pub filter_face : Face
filter_face =
    record { text = codes "clk"; input = true; bit = true } ∷ record { text = codes "rst"; input = true; bit = true } ∷ record { text = codes "ce"; input = true; bit = true }
    ∷ record { text = codes "in_data"; input = true; bit = false } ∷ record { text = codes "out_valid"; input = false; bit = true } ∷ record { text = codes "out_data"; input = false; bit = false } ∷ []

-- the signal is declared as this port
abbrev pub is_as : Port → List ℕ → Signal → Bool
is_as p text s = bytes_eq text p.text && ((if p.input then is_input_port s.kind else not (is_input_port s.kind)) && (if p.bit then is_bit_port s else is_data_port s))

-- as one of the ports of a face
abbrev pub is_right_port : Face → Design → Signal → Bool
is_right_port face d s = list_any (λ (p : Port). is_as p (text_of d s.name) s) face

abbrev pub face_names : Face → List (List ℕ)
face_names face = map (λ (p : Port). p.text) face

-- a face with the clock
pub record HasClock (face : Face) : Type 0 where
  pub place : ℕ
  pub there : slice_get (face_names face) place ≡ Some (codes "clk")

abbrev pub port_names : List (List ℕ)
port_names = face_names filter_face

abbrev pub has_port : Design → List ℕ → Bool
has_port d text = list_any (λ (s : Signal). is_port s.kind && bytes_eq (text_of d s.name) text) d.signals

-- the text of the first port that is not right, else the first that is missing
abbrev pub wrong_port : Face → Design → Option (List ℕ)
wrong_port face d =
    or_else (option_map (λ (s : Signal). text_of d s.name) (find (λ (s : Signal). is_port s.kind && not (is_right_port face d s)) (declarations d)))
    (find (λ text. not (has_port d text)) (face_names face))

-- ---- a name is used as what it is not

abbrev pub is_of_kind : (Kind → Bool) → Design → ℕ → Bool
is_of_kind is d n = option_map_or (λ (s : Signal). is s.kind) (declaration_in d.signals n) false

abbrev pub can_be_assigned : Kind → Bool
can_be_assigned Output = true
can_be_assigned Wire = true
can_be_assigned Input = false
can_be_assigned Reg = false

abbrev pub can_be_given : Kind → Bool
can_be_given Reg = true
can_be_given Input = false
can_be_given Output = false
can_be_given Wire = false

abbrev pub is_clock : Design → ℕ → Bool
is_clock d n = bytes_eq (text_of d n) (codes "clk")

abbrev pub is_wrong_use : Design → Use → Bool
is_wrong_use d (Assigned n) = not (is_of_kind can_be_assigned d n)
is_wrong_use d (Given n) = not (is_of_kind can_be_given d n)
is_wrong_use d (Read n) = is_clock d n
is_wrong_use d (Selected n high low) = is_clock d n

abbrev pub wrong_kind : Design → Option ℕ
wrong_kind d = option_map used_name (find (is_wrong_use d) (uses d))

-- ---- a signal or an expression has more than 128 bits

abbrev pub is_over : ℕ → Bool
is_over n = not (nat_le n 128)

abbrev mutual
  -- an expression or a part of it has more than 128 bits
  pub has_over : Shapes → Tree → Bool
  has_over shapes (Name n) = is_over (shapes.width n)
  has_over shapes (Bit n place) = false
  has_over shapes (Part n high low) = is_over (length_of shapes (Part n high low))
  has_over shapes (Plain x) = false
  has_over shapes (Based width signed bits) = is_over width
  has_over shapes (Cat members) = any_over shapes members || is_over (length_of shapes (Cat members))
  has_over shapes (Not a) = has_over shapes a
  has_over shapes (Binary op a b) = has_over shapes a || has_over shapes b
  has_over shapes (Shift op a amount) = has_over shapes a
  has_over shapes (Choice condition a b) = has_over shapes condition || (has_over shapes a || has_over shapes b)

  pub any_over : Shapes → Trees → Bool
  any_over shapes none = false
  any_over shapes (more first rest) = has_over shapes first || any_over shapes rest

-- an expression that stands by itself, with the name that is told for it: a right side with its target, a condition with `clk`
pub record Side : Type 0 where
  pub told : List ℕ
  pub tree : Tree

abbrev mutual
  pub action_sides : Design → Action → List Side → List Side
  action_sides d (Block members) rest = actions_sides d members rest
  action_sides d (When condition first) rest = record { told = codes "clk"; tree = condition } ∷ action_sides d first rest
  action_sides d (Either condition first second) rest = record { told = codes "clk"; tree = condition } ∷ action_sides d first (action_sides d second rest)
  action_sides d (Give target e) rest = record { told = text_of d target; tree = e } ∷ rest

  pub actions_sides : Design → Actions → List Side → List Side
  actions_sides d no_action rest = rest
  actions_sides d (action first others) rest = action_sides d first (actions_sides d others rest)

abbrev pub blocks_sides : Design → List Action → List Side
blocks_sides d [] = []
blocks_sides d (s ∷ ss) = action_sides d s (blocks_sides d ss)

abbrev pub assigns_sides : Design → List Assignment → List Side → List Side
assigns_sides d [] rest = rest
assigns_sides d (a ∷ others) rest = record { told = text_of d a.target; tree = a.value } ∷ assigns_sides d others rest

abbrev pub sides : Design → List Side
sides d = assigns_sides d d.assigns (blocks_sides d d.blocks)

abbrev pub width_over : Design → Option (List ℕ)
width_over d =
    or_else (option_map (λ (s : Signal). text_of d s.name) (find (λ (s : Signal). is_over s.width) (declarations d)))
    (option_map (λ (side : Side). side.told) (find (λ (side : Side). has_over (shapes_of d) side.tree) (sides d)))

-- ---- a select of bits that are not there

abbrev pub is_bad_select : Design → Use → Bool
is_bad_select d (Assigned n) = false
is_bad_select d (Given n) = false
is_bad_select d (Read n) = false
is_bad_select d (Selected n high low) = not (option_map_or (λ (s : Signal). s.ranged && (nat_lt high s.width && nat_le low high)) (declaration_in d.signals n) false)

abbrev pub bad_select : Design → Option ℕ
bad_select d = option_map used_name (find (is_bad_select d) (uses d))

-- ---- a signal has two drivers

-- a driver, by its place among the assignments and, behind these, the always blocks, and a name that it drives
pub record Drive : Type 0 where
  pub driver : ℕ
  pub name : ℕ

abbrev mutual
  pub action_drives : ℕ → Action → List Drive → List Drive
  action_drives k (Block members) rest = actions_drives k members rest
  action_drives k (When condition first) rest = action_drives k first rest
  action_drives k (Either condition first second) rest = action_drives k first (action_drives k second rest)
  action_drives k (Give target e) rest = record { driver = k; name = target } ∷ rest

  pub actions_drives : ℕ → Actions → List Drive → List Drive
  actions_drives k no_action rest = rest
  actions_drives k (action first others) rest = action_drives k first (actions_drives k others rest)

abbrev pub blocks_drives : ℕ → List Action → List Drive
blocks_drives k [] = []
blocks_drives k (s ∷ ss) = action_drives k s (blocks_drives (k + 1) ss)

abbrev pub assigns_drives : ℕ → List Assignment → List Drive → List Drive
assigns_drives k [] rest = rest
assigns_drives k (a ∷ others) rest = record { driver = k; name = a.target } ∷ assigns_drives (k + 1) others rest

-- what each driver drives, in text order
abbrev pub drives : Design → List Drive
drives d = assigns_drives 0 d.assigns (blocks_drives (length d.assigns) d.blocks)

-- the name of the first drive of a name that another driver before it drives
abbrev pub first_shared : List Drive → List Drive → Option ℕ
first_shared seen [] = None
first_shared seen (x ∷ xs) = or_else (if list_any (λ (y : Drive). y.name == x.name && not (y.driver == x.driver)) seen then Some x.name else None) (first_shared (x ∷ seen) xs)

abbrev pub many_drivers : Design → Option ℕ
many_drivers d = first_shared [] (drives d)

-- ---- a signal has no driver

abbrev pub needs_driver : Kind → Bool
needs_driver Output = true
needs_driver Wire = true
needs_driver Reg = true
needs_driver Input = false

abbrev pub is_driven : Design → ℕ → Bool
is_driven d n = list_any (λ (x : Drive). x.name == n) (drives d)

abbrev pub no_driver : Design → Option ℕ
no_driver d = option_map (λ (s : Signal). s.name) (find (λ (s : Signal). needs_driver s.kind && not (is_driven d s.name)) (declarations d))

-- ---- the checks before that of loops

abbrev pub named : Design → (List ℕ → ModuleFault) → Option ℕ → Option ModuleFault
named d fault n = option_map (λ k. fault (text_of d k)) n

abbrev pub early_fault : Face → Design → Option ModuleFault
early_fault face d =
    or_else (named d Redeclared (redeclared d)) (
    or_else (named d Undeclared (undeclared d)) (
    or_else (option_map PortShape (wrong_port face d)) (
    or_else (named d WrongKind (wrong_kind d)) (
    or_else (option_map WidthOver (width_over d)) (
    or_else (named d BadSelect (bad_select d)) (
    or_else (named d ManyDrivers (many_drivers d)) (named d NoDriver (no_driver d))))))))

-- ---- loops

-- by so many assignments one name depends on another
abbrev pub DependsBy : Design → ℕ → ℕ → ℕ → Type 0
DependsBy d zero m n = m ≡ n
DependsBy d (suc k) m n = (i : ℕ) × (a : Assignment) × (slice_get d.assigns i ≡ Some a) × (a.target ≡ m) × (r : ℕ) × (reads a.value r ≡ true) × DependsBy d k r n

-- a name's value depends on itself through assignments
abbrev pub DependsOnItself : Design → ℕ → Type 0
DependsOnItself d n = (k : ℕ) × DependsBy d (suc k) n n

-- the first declared signal that depends on itself
pub record IsFirstLoop (d : Design) (n : ℕ) : Type 0 where
  pub place : ℕ
  pub signal : Signal
  pub there : slice_get (declarations d) place ≡ Some signal
  pub name : signal.name ≡ n
  pub loops : DependsOnItself d n
  pub first : (k : ℕ) (s : Signal) → k < place → slice_get (declarations d) k ≡ Some s → DependsOnItself d s.name → ⊥

-- ---- all checks

-- a module with the ports of a face passes
pub record PassesAs (face : Face) (d : Design) : Type 0 where
  pub early : early_fault face d ≡ None
  pub free : (n : ℕ) → DependsOnItself d n → ⊥

abbrev pub Passes : Design → Type 0
Passes d = PassesAs filter_face d

-- all checks but that of the ports pass
pub record IsClosed (d : Design) : Type 0 where
  pub redeclares : redeclared d ≡ None
  pub undeclares : undeclared d ≡ None
  pub kinds : wrong_kind d ≡ None
  pub widths : width_over d ≡ None
  pub selects : bad_select d ≡ None
  pub drivers : many_drivers d ≡ None
  pub driven : no_driver d ≡ None
  pub free : (n : ℕ) → DependsOnItself d n → ⊥

-- this is the first check that fails, with the signal that it names
abbrev pub IsLoopFault : Design → ModuleFault → Type 0
IsLoopFault d (CombLoop name) = (n : ℕ) × IsFirstLoop d n × (name ≡ text_of d n)
IsLoopFault d (Redeclared name) = ⊥
IsLoopFault d (Undeclared name) = ⊥
IsLoopFault d (PortShape name) = ⊥
IsLoopFault d (WrongKind name) = ⊥
IsLoopFault d (WidthOver name) = ⊥
IsLoopFault d (BadSelect name) = ⊥
IsLoopFault d (ManyDrivers name) = ⊥
IsLoopFault d (NoDriver name) = ⊥
IsLoopFault d Memory = ⊥

pub data FailsAs (face : Face) (d : Design) (fault : ModuleFault) : Type 0 where
  Early : early_fault face d ≡ Some fault → FailsAs face d fault
  Loop : early_fault face d ≡ None → IsLoopFault d fault → FailsAs face d fault

abbrev pub Fails : Design → ModuleFault → Type 0
Fails d fault = FailsAs filter_face d fault
