-- The checks before that of loops, from the answers of their parts.
use Rattle.std.proofs.Common.{◌≡◌, ℕ, ◌&&◌, not, List, [], find, Option, None, sym, ap, ◌∙◌}
use Rattle.std.specs.Prelude.{◌==◌}
use Rattle.std.specs.List.{list_any}
use Rattle.std.specs.Option.{option_map}
use Rattle.verilog_tree.specs.declared.tree.Signal.{Signal}
use Rattle.verilog_tree.specs.declared.fault.ModuleFault.TheVariants.{NoDriver, Redeclared, ManyDrivers}
use Rattle.verilog_tree.specs.Tree.{Design}
use Rattle.verilog_tree.specs.Checks.{Drive, or_else, named, declarations, drives, needs_driver, first_shared, redeclared, many_drivers, no_driver, Face, early_fault}
use Rattle.verilog_check.specs.Early.{name_fault, driver_fault}

pub without_first : {A : Type 0} (a b : Option A) → a ≡ None → or_else a b ≡ b
without_first a b none = ap (λ o. or_else o b) none

abbrev pub undriven_among : List Drive → List Signal → Option ℕ
undriven_among all ordered = option_map (λ (s : Signal). s.name) (find (λ (s : Signal). needs_driver s.kind && not (list_any (λ (x : Drive). x.name == s.name) all)) ordered)

pub driver_fault_is : (d : Design) (shared undriven : Option ℕ) (all : List Drive) (ordered : List Signal) → all ≡ drives d → ordered ≡ declarations d
    → shared ≡ first_shared [] all → shared ≡ None → undriven ≡ undriven_among all ordered → driver_fault d ≡ named d NoDriver undriven
driver_fault_is d shared undriven all ordered all_is ordered_is shared_is none undriven_is =
    let none_shared : many_drivers d ≡ None = sym (shared_is ∙ ap (first_shared []) all_is) ∙ none in
    let rest : undriven ≡ no_driver d =
    undriven_is ∙ ap (λ (xs : List Drive). undriven_among xs ordered) all_is ∙ ap (undriven_among (drives d)) ordered_is in
    without_first (named d ManyDrivers (many_drivers d)) (named d NoDriver (no_driver d)) (ap (named d ManyDrivers) none_shared) ∙ ap (named d NoDriver) (sym rest)

pub early_fault_is : (face : Face) (d : Design) → redeclared d ≡ None → name_fault face d ≡ early_fault face d
early_fault_is face d none = sym (without_first (named d Redeclared (redeclared d)) (name_fault face d) (ap (named d Redeclared) none))
