-- What follows from passing the checks: a module runs, and in one way.
use Rattle.std.proofs.Common.{◌≡◌, List, [], ◌∷◌, map, Option, None, Some, refl, arith}
use Rattle.std.specs.Option.{option_map}
use Rattle.verilog_tree.specs.declared.fault.ModuleFault.{ModuleFault}
use Rattle.verilog_tree.specs.Tree.{Design}
use Rattle.verilog_tree.specs.Meaning.{Values}
use Rattle.verilog_tree.specs.Circuit.{Input, IsRun, with_inputs, next}
use Rattle.verilog_tree.specs.Cycle.{circuit_of, IsDrivenOnce}
use Rattle.verilog_tree.specs.Laws.{HasOneSettling}
use Rattle.verilog_tree.specs.Shown.{inputs_of, ports_of}
use Rattle.verilog_tree.specs.declared.fault.ModuleFault.TheVariants.{Redeclared, Undeclared, PortShape, WrongKind, WidthOver, BadSelect, ManyDrivers, NoDriver}
use Rattle.verilog_tree.specs.Names.{text_of}
use Rattle.verilog_tree.specs.Checks.{Face, or_else, named, PassesAs, IsClosed, early_fault, redeclared, undeclared, wrong_port, wrong_kind, width_over, bad_select, many_drivers, no_driver}
use Rattle.module_laws.specs.Running.{HasRuns}
use Rattle.module_laws.proofs.DrivenOnce.{driven_once}

pub no_first : {A : Type 0} (a b : Option A) → or_else a b ≡ None → a ≡ None
no_first None b e = refl
no_first (Some x) b e = absurd (grind arith)

pub no_second : {A : Type 0} (a b : Option A) → or_else a b ≡ None → b ≡ None
no_second None b e = e
no_second (Some x) b e = absurd (grind arith)

pub none_mapped : {A B : Type 0} (f : A → B) (o : Option A) → option_map f o ≡ None → o ≡ None
none_mapped f None e = refl
none_mapped f (Some x) e = absurd (grind arith)

-- ---- the checks one by one

abbrev from_no_driver : Design → Option ModuleFault
from_no_driver d = named d NoDriver (no_driver d)

abbrev from_many : Design → Option ModuleFault
from_many d = or_else (named d ManyDrivers (many_drivers d)) (from_no_driver d)

abbrev from_select : Design → Option ModuleFault
from_select d = or_else (named d BadSelect (bad_select d)) (from_many d)

abbrev from_over : Design → Option ModuleFault
from_over d = or_else (option_map WidthOver (width_over d)) (from_select d)

abbrev from_kind : Design → Option ModuleFault
from_kind d = or_else (named d WrongKind (wrong_kind d)) (from_over d)

abbrev from_port : Face → Design → Option ModuleFault
from_port face d = or_else (option_map PortShape (wrong_port face d)) (from_kind d)

abbrev from_undeclared : Face → Design → Option ModuleFault
from_undeclared face d = or_else (named d Undeclared (undeclared d)) (from_port face d)

-- none of the checks before that of loops fails
pub record NoneFails (face : Face) (d : Design) : Type 0 where
  pub redeclares : redeclared d ≡ None
  pub undeclares : undeclared d ≡ None
  pub ports : wrong_port face d ≡ None
  pub kinds : wrong_kind d ≡ None
  pub widths : width_over d ≡ None
  pub selects : bad_select d ≡ None
  pub drivers : many_drivers d ≡ None
  pub driven : no_driver d ≡ None

pub none_fails : (face : Face) (d : Design) → early_fault face d ≡ None → NoneFails face d
none_fails face d early =
    let undeclares = no_second (named d Redeclared (redeclared d)) (from_undeclared face d) early in
    let ports = no_second (named d Undeclared (undeclared d)) (from_port face d) undeclares in
    let kinds = no_second (option_map PortShape (wrong_port face d)) (from_kind d) ports in
    let widths = no_second (named d WrongKind (wrong_kind d)) (from_over d) kinds in
    let selects = no_second (option_map WidthOver (width_over d)) (from_select d) widths in
    let drivers = no_second (named d BadSelect (bad_select d)) (from_many d) selects in
    let driven = no_second (named d ManyDrivers (many_drivers d)) (from_no_driver d) drivers in
    record {
      redeclares = none_mapped (λ k. Redeclared (text_of d k)) (redeclared d) (no_first (named d Redeclared (redeclared d)) (from_undeclared face d) early);
      undeclares = none_mapped (λ k. Undeclared (text_of d k)) (undeclared d) (no_first (named d Undeclared (undeclared d)) (from_port face d) undeclares);
      ports = none_mapped PortShape (wrong_port face d) (no_first (option_map PortShape (wrong_port face d)) (from_kind d) ports);
      kinds = none_mapped (λ k. WrongKind (text_of d k)) (wrong_kind d) (no_first (named d WrongKind (wrong_kind d)) (from_over d) kinds);
      widths = none_mapped WidthOver (width_over d) (no_first (option_map WidthOver (width_over d)) (from_select d) widths);
      selects = none_mapped (λ k. BadSelect (text_of d k)) (bad_select d) (no_first (named d BadSelect (bad_select d)) (from_many d) selects);
      drivers = none_mapped (λ k. ManyDrivers (text_of d k)) (many_drivers d) (no_first (named d ManyDrivers (many_drivers d)) (from_no_driver d) drivers);
      driven = none_mapped (λ k. NoDriver (text_of d k)) (no_driver d) driven;
    }

pub early_none : (face : Face) (d : Design) → NoneFails face d → early_fault face d ≡ None
early_none face d n = rw (n.redeclares, n.undeclares, n.ports, n.kinds, n.widths, n.selects, n.drivers, n.driven) refl

-- a module that passes with the ports of some face is closed
pub closed : {face : Face} (d : Design) → PassesAs face d → IsClosed d
closed {face} d passes =
    let n = none_fails face d passes.early in
    record {
      redeclares = n.redeclares;
      undeclares = n.undeclares;
      kinds = n.kinds;
      widths = n.widths;
      selects = n.selects;
      drivers = n.drivers;
      driven = n.driven;
      free = passes.free;
    }

pub closed_driven : (d : Design) → IsClosed d → IsDrivenOnce d
closed_driven d is = driven_once d is.drivers

pub passing_driven : {face : Face} (d : Design) → PassesAs face d → IsDrivenOnce d
passing_driven d passes = closed_driven d (closed d passes)

-- ---- runs

run_from : (d : Design) → HasOneSettling d → (content : Values) (cycles : List (List Input)) → (settled : List Values) × IsRun (circuit_of d) content cycles settled
run_from d one content [] = ([], refl)
run_from d one content (inputs ∷ cycles) =
    let now = one (with_inputs inputs content) in
    let rest = run_from d one (next (circuit_of d) now.0) cycles in
    (now.0 ∷ rest.0, (now.0, rest.0, refl, now.1, rest.1))

pub settling_runs : (d : Design) → HasOneSettling d → HasRuns d
settling_runs d one content cycles = run_from d one content (map (inputs_of (ports_of d)) cycles)
