-- Uses of names in memory, and the checks of them.
use Rattle.std.specs.Prelude.{Bool, not}
use Rattle.verilog_tree.specs.Tree.{Design}
use Rattle.verilog_tree.specs.Checks as checks
use Rattle.verilog_tree.specs.Checks.{is_declared, used_name, is_wrong_use, is_bad_select}
use Rattle.verilog_check.specs.declared.uses.Use.{Use}
use Rattle.verilog_check.specs.declared.uses.Use.TheVariants.{Assigned, Given, Read, Selected}
use Rattle.verilog_check.specs.declared.use_checks.UseCheck.{UseCheck}
use Rattle.verilog_check.specs.declared.use_checks.UseCheck.TheVariants.{Undeclared, WrongKind, BadSelect}

abbrev pub use_view : Use → checks.Use
use_view (Assigned name) = checks.Assigned name
use_view (Given name) = checks.Given name
use_view (Read name) = checks.Read name
use_view (Selected name high low) = checks.Selected name high low

-- whether a use fails a check
abbrev pub is_failing : UseCheck → Design → checks.Use → Bool
is_failing Undeclared d = λ u. not (is_declared d (used_name u))
is_failing WrongKind d = is_wrong_use d
is_failing BadSelect d = is_bad_select d
