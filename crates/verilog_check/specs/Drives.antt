-- Drives in memory.
use Rattle.std.specs.Prelude.{ℕ, ◌==◌, Bool, false, not, Option}
use Rattle.std.specs.Option.{option_map_or}
use Rattle.verilog_tree.specs.Checks as checks
use Rattle.verilog_check.specs.declared.drives.Drive.{Drive}

abbrev pub drive_view : Drive → checks.Drive
drive_view x = record { driver = x.driver; name = x.name }

-- another driver than this one is known
abbrev pub is_other : ℕ → Option ℕ → Bool
is_other driver known = option_map_or (λ (k : ℕ). not (k == driver)) known false
