-- Modules that are alike: the same but for how their names are numbered, the order and the places of their declarations,
-- and a block of exactly one statement standing for that statement. All by the texts of their names.
use Rattle.std.specs.Prelude.{◌≡◌, ℕ, List, [], ◌∷◌, Some, slice_get}
use Rattle.verilog_tree.specs.declared.tree.Signal.{Signal}
use Rattle.verilog_tree.specs.Tree.{Tree, Trees, Name, Bit, Part, Plain, Based, Cat, Not, Binary, Shift, Choice, none, more, Action, Actions, Block, When, Either, Give, no_action, action, Assignment, Design}

-- two numbers stand for the same name
abbrev pub SameName : List (List ℕ) → List (List ℕ) → ℕ → ℕ → Type 0
SameName xs ys m n = (text : List ℕ) × (slice_get xs m ≡ Some text) × (slice_get ys n ≡ Some text)

-- two expressions that are the same by the texts of their names
abbrev mutual
  pub IsAlikeTree : (ℕ → ℕ → Type 0) → Tree → Tree → Type 0
  IsAlikeTree same (Name m) f = (n : ℕ) × (f ≡ Name n) × same m n
  IsAlikeTree same (Bit m place) f = (n : ℕ) × (f ≡ Bit n place) × same m n
  IsAlikeTree same (Part m high low) f = (n : ℕ) × (f ≡ Part n high low) × same m n
  IsAlikeTree same (Plain x) f = f ≡ Plain x
  IsAlikeTree same (Based width signed bits) f = f ≡ Based width signed bits
  IsAlikeTree same (Cat members) f = (others : Trees) × (f ≡ Cat others) × AreAlikeTrees same members others
  IsAlikeTree same (Not a) f = (b : Tree) × (f ≡ Not b) × IsAlikeTree same a b
  IsAlikeTree same (Binary op a b) f = (x : Tree) × (y : Tree) × (f ≡ Binary op x y) × IsAlikeTree same a x × IsAlikeTree same b y
  IsAlikeTree same (Shift op a amount) f = (b : Tree) × (f ≡ Shift op b amount) × IsAlikeTree same a b
  IsAlikeTree same (Choice c a b) f = (z : Tree) × (x : Tree) × (y : Tree) × (f ≡ Choice z x y) × IsAlikeTree same c z × IsAlikeTree same a x × IsAlikeTree same b y

  pub AreAlikeTrees : (ℕ → ℕ → Type 0) → Trees → Trees → Type 0
  AreAlikeTrees same none fs = fs ≡ none
  AreAlikeTrees same (more e es) fs = (f : Tree) × (rest : Trees) × (fs ≡ more f rest) × IsAlikeTree same e f × AreAlikeTrees same es rest

-- a block of exactly one statement stands for that statement
abbrev pub plain_block : Actions → Action
plain_block no_action = Block no_action
plain_block (action first no_action) = first
plain_block (action first (action second rest)) = Block (action first (action second rest))

-- a statement in which no block has exactly one statement
abbrev mutual
  pub plain_action : Action → Action
  plain_action (Block members) = plain_block (plain_actions members)
  plain_action (When condition first) = When condition (plain_action first)
  plain_action (Either condition first second) = Either condition (plain_action first) (plain_action second)
  plain_action (Give target e) = Give target e

  pub plain_actions : Actions → Actions
  plain_actions no_action = no_action
  plain_actions (action first rest) = action (plain_action first) (plain_actions rest)

-- two statements that are the same by the texts of their names
abbrev mutual
  pub IsAlikeAction : (ℕ → ℕ → Type 0) → Action → Action → Type 0
  IsAlikeAction same (Block members) t = (others : Actions) × (t ≡ Block others) × AreAlikeActions same members others
  IsAlikeAction same (When c first) t = (z : Tree) × (x : Action) × (t ≡ When z x) × IsAlikeTree same c z × IsAlikeAction same first x
  IsAlikeAction same (Either c first second) t =
      (z : Tree) × (x : Action) × (y : Action) × (t ≡ Either z x y) × IsAlikeTree same c z × IsAlikeAction same first x × IsAlikeAction same second y
  IsAlikeAction same (Give m e) t = (n : ℕ) × (f : Tree) × (t ≡ Give n f) × same m n × IsAlikeTree same e f

  pub AreAlikeActions : (ℕ → ℕ → Type 0) → Actions → Actions → Type 0
  AreAlikeActions same no_action ts = ts ≡ no_action
  AreAlikeActions same (action s ss) ts = (t : Action) × (rest : Actions) × (ts ≡ action t rest) × IsAlikeAction same s t × AreAlikeActions same ss rest

abbrev pub AreAlikeAssigns : (ℕ → ℕ → Type 0) → List Assignment → List Assignment → Type 0
AreAlikeAssigns same [] bs = bs ≡ []
AreAlikeAssigns same (a ∷ as') bs =
    (b : Assignment) × (rest : List Assignment) × (bs ≡ b ∷ rest) × same a.target b.target × IsAlikeTree same a.value b.value × AreAlikeAssigns same as' rest

abbrev pub AreAlikeBlocks : (ℕ → ℕ → Type 0) → List Action → List Action → Type 0
AreAlikeBlocks same [] ts = ts ≡ []
AreAlikeBlocks same (s ∷ ss) ts =
    (t : Action) × (rest : List Action) × (ts ≡ t ∷ rest) × IsAlikeAction same (plain_action s) (plain_action t) × AreAlikeBlocks same ss rest

-- a signal that is declared as another one but for its place
pub record IsAlikeSignal (same : ℕ → ℕ → Type 0) (s t : Signal) : Type 0 where
  pub name : same s.name t.name
  pub kind : s.kind ≡ t.kind
  pub signed : s.signed ≡ t.signed
  pub ranged : s.ranged ≡ t.ranged
  pub width : s.width ≡ t.width

pub record IsAlike (d e : Design) : Type 0 where
  pub name : SameName d.names e.names d.name e.name
  -- the same signals in any order
  pub there : ℕ → ℕ
  pub back : ℕ → ℕ
  pub there_back : (k : ℕ) → back (there k) ≡ k
  pub back_there : (k : ℕ) → there (back k) ≡ k
  pub signals : (k : ℕ) (s : Signal) → slice_get d.signals k ≡ Some s → (t : Signal) × (slice_get e.signals (there k) ≡ Some t) × IsAlikeSignal (SameName d.names e.names) s t
  pub no_others : (k : ℕ) (t : Signal) → slice_get e.signals k ≡ Some t → (s : Signal) × (slice_get d.signals (back k) ≡ Some s) × IsAlikeSignal (SameName d.names e.names) s t
  pub assigns : AreAlikeAssigns (SameName d.names e.names) d.assigns e.assigns
  pub blocks : AreAlikeBlocks (SameName d.names e.names) d.blocks e.blocks
