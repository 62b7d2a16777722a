-- What the checks of a module find.
use Rattle.std.specs.Prelude.{Option, None, Some}
use Rattle.verilog_tree.specs.declared.fault.ModuleFault.{ModuleFault}
use Rattle.verilog_tree.specs.Tree.{Design}
use Rattle.verilog_tree.specs.Checks.{Face, PassesAs, FailsAs}

-- the first check that fails, or that all pass, with the ports of a face
abbrev pub IsFaultOf : Face → Design → Option ModuleFault → Type 0
IsFaultOf face d None = PassesAs face d
IsFaultOf face d (Some fault) = FailsAs face d fault
