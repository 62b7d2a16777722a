-- A module without where it lies in memory: what every definition about modules speaks of.
-- A name is a number into the list of names.
use Rattle.std.specs.Prelude.{ℕ, Bool, List}
use Rattle.verilog_tree.specs.declared.tree.Op.{Op}
use Rattle.verilog_tree.specs.declared.tree.ShiftOp.{ShiftOp}
use Rattle.verilog_tree.specs.declared.tree.Signal.{Signal}

-- an expression
mutual
  pub data Tree : Type 0 where
    Name : (name : ℕ) → Tree
    Bit : (name place : ℕ) → Tree
    Part : (name high low : ℕ) → Tree
    Plain : (value : ℕ) → Tree
    Based : (width : ℕ) (signed : Bool) (bits : ℕ) → Tree
    Cat : (members : Trees) → Tree
    Not : (operand : Tree) → Tree
    Binary : (op : Op) (left right : Tree) → Tree
    Shift : (op : ShiftOp) (operand : Tree) (amount : ℕ) → Tree
    Choice : (condition on_true on_false : Tree) → Tree

  pub data Trees : Type 0 where
    none : Trees
    more : (first : Tree) (rest : Trees) → Trees

-- a statement of an always block
mutual
  pub data Action : Type 0 where
    Block : (members : Actions) → Action
    When : (condition : Tree) (on_true : Action) → Action
    Either : (condition : Tree) (on_true on_false : Action) → Action
    Give : (register : ℕ) (value : Tree) → Action

  pub data Actions : Type 0 where
    no_action : Actions
    action : (first : Action) (rest : Actions) → Actions

-- a continuous assignment
pub record Assignment : Type 0 where
  pub target : ℕ
  pub value : Tree

-- a module
pub record Design : Type 0 where
  pub name : ℕ
  pub names : List (List ℕ)
  pub signals : List Signal
  pub assigns : List Assignment
  pub blocks : List Action
