-- The checks before that of loops, in three parts.
use Rattle.std.specs.Prelude.{Option}
use Rattle.std.specs.Option.{option_map}
use Rattle.verilog_tree.specs.declared.fault.ModuleFault.{ModuleFault}
use Rattle.verilog_tree.specs.declared.fault.ModuleFault.TheVariants.{Undeclared, PortShape, WrongKind, WidthOver, BadSelect, ManyDrivers, NoDriver}
use Rattle.verilog_tree.specs.Tree.{Design}
use Rattle.verilog_tree.specs.Checks.{or_else, named, undeclared, Face, wrong_port, wrong_kind, width_over, bad_select, many_drivers, no_driver}

abbrev pub driver_fault : Design → Option ModuleFault
driver_fault d = or_else (named d ManyDrivers (many_drivers d)) (named d NoDriver (no_driver d))

-- from the check of lengths on
abbrev pub size_fault : Design → Option ModuleFault
size_fault d = or_else (option_map WidthOver (width_over d)) (or_else (named d BadSelect (bad_select d)) (driver_fault d))

-- from the check of undeclared names on
abbrev pub name_fault : Face → Design → Option ModuleFault
name_fault face d =
    or_else (named d Undeclared (undeclared d)) (
    or_else (option_map PortShape (wrong_port face d)) (or_else (named d WrongKind (wrong_kind d)) (size_fault d)))
