-- How a command ends that reads whole files and then writes one.
use Rattle.std.specs.Prelude.{◌≡◌, ◌⊎◌, ℕ, List}
use Rattle.mr_values.specs.Files.{Files}
use Rattle.mr_values.specs.declared.host.HostCall.{HostCall}
use Rattle.mr_values.specs.declared.host.HostCall.TheVariants.{OpenInput, Next, OpenOutput, Put}
use Rattle.command_files.specs.WholeFiles.{IsEmptied, HoldsFront, HoldsPart}

-- what OUT holds where writing such a text was cut short
abbrev pub IsShort : (List ℕ → Type 0) → (List ℕ → Files → Files → Type 0) → Files → Files → Type 0
IsShort IsText Holds old new = (text : List ℕ) × IsText text × Holds text old new

-- what the files hold after the host call that failed
abbrev pub IsHaltedAt : HostCall → (List ℕ → Type 0) → List ℕ → Files → Files → Type 0
IsHaltedAt OpenInput IsText out old new = new ≡ old
IsHaltedAt Next IsText out old new = new ≡ old
IsHaltedAt OpenOutput IsText out old new = IsShort IsText (λ text. IsEmptied out) old new
IsHaltedAt Put IsText out old new = IsShort IsText (HoldsFront out) old new

-- memory ran out before OUT was opened, or while it was written
abbrev pub IsEnded : (List ℕ → Type 0) → List ℕ → Files → Files → Type 0
IsEnded IsText out old new = (new ≡ old) ⊎ IsShort IsText (HoldsPart out) old new
