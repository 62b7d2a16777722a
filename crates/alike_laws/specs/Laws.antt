-- What modules share that are the same by the texts of their names.
use Rattle.std.specs.Prelude.{◌≡◌, ℕ, List, [], ◌∷◌}
use Rattle.verilog_tree.specs.declared.fault.ModuleFault.{ModuleFault}
use Rattle.verilog_tree.specs.declared.fault.ModuleFault.TheVariants.{Redeclared, Undeclared, PortShape, WrongKind, WidthOver, BadSelect, ManyDrivers, NoDriver, CombLoop, Memory}
use Rattle.verilog_tree.specs.Alike.{SameName}
use Rattle.verilog_tree.specs.Checks.{Face, PassesAs, FailsAs}
use Rattle.verilog_tree.specs.Meaning.{Values}
use Rattle.verilog_tree.specs.Names.{shapes_of}
use Rattle.verilog_tree.specs.Shown.{Cycle, RunsOver, ports_of, events_of}
use Rattle.verilog_tree.specs.Tree.{Design}

-- the number of a check, in the order of the checks
abbrev pub check_number : ModuleFault → ℕ
check_number (Redeclared name) = 1
check_number (Undeclared name) = 2
check_number (PortShape name) = 3
check_number (WrongKind name) = 4
check_number (WidthOver name) = 5
check_number (BadSelect name) = 6
check_number (ManyDrivers name) = 7
check_number (NoDriver name) = 8
check_number (CombLoop name) = 9
check_number Memory = 0

-- each passes the checks with the ports of a face where the other does; else both fail, and the first check that fails is the same, whichever signal it names
pub record HaveSameChecks (face : Face) (d e : Design) : Type 0 where
  pub there : PassesAs face d → PassesAs face e
  pub back : PassesAs face e → PassesAs face d
  pub fails_there : (fault : ModuleFault) → FailsAs face d fault → (other : ModuleFault) × FailsAs face e other × (check_number other ≡ check_number fault)
  pub fails_back : (other : ModuleFault) → FailsAs face e other → (fault : ModuleFault) × FailsAs face d fault × (check_number fault ≡ check_number other)
  pub same : (fault other : ModuleFault) → FailsAs face d fault → FailsAs face e other → check_number fault ≡ check_number other

-- names of one text have the same pattern
pub record AreAlikeValues (d e : Design) (v w : Values) : Type 0 where
  pub each : (m n : ℕ) → SameName d.names e.names m n → v m ≡ w n

-- the same in each cycle
abbrev pub AreAlikeRuns : Design → Design → List Values → List Values → Type 0
AreAlikeRuns d e [] [] = Unit {0}
AreAlikeRuns d e (v ∷ vs) (w ∷ ws) = AreAlikeValues d e v w × AreAlikeRuns d e vs ws
AreAlikeRuns d e _ _ = ⊥

-- from contents in which names of one text have the same pattern, over the same cycles: so they have in each cycle, and what is shown is the same
pub record HaveSameRuns (d e : Design) : Type 0 where
  pub values : (v w : Values) (cycles : List Cycle) (settled others : List Values) → AreAlikeValues d e v w → RunsOver d v cycles settled → RunsOver e w cycles others
      → AreAlikeRuns d e settled others
  pub shown : (v w : Values) (cycles : List Cycle) (settled others : List Values) → AreAlikeValues d e v w → RunsOver d v cycles settled → RunsOver e w cycles others
      → events_of (shapes_of d) (ports_of d) cycles settled 0 0 ≡ events_of (shapes_of e) (ports_of e) cycles others 0 0
