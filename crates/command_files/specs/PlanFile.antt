-- PLAN with its tap files as a plan, and why it isn't accepted.
use Rattle.std.specs.Prelude.{◌≡◌, ◌≢◌, ◌⊎◌, ℕ, ◌≤◌, ◌<◌, ◌^◌, ℤ, List, [], ◌∷◌, ◌++◌, length, drop, All, Some, Result, Ok, Err}
use Rattle.std.specs.FinMap.{get}
use Rattle.mr_values.specs.Files.{Files, bytes_of}
use Rattle.mr_values.specs.Host.{HostState}
use Rattle.mr_values.specs.declared.plan.Plan.{Plan}
use Rattle.plan_check.specs.declared.fault.PlanFault.{PlanFault}
use Rattle.plan_check.specs.Accepted.{first_fault, IsAccepted}
use Rattle.plan_reader.specs.declared.fault.PlanReadFault.{PlanReadFault}
use Rattle.plan_reader.specs.declared.fault.PlanReadFault.TheVariants as reading
use Rattle.plan_reader.specs.declared.fault.TapFault.{TapFault}
use Rattle.plan_reader.specs.declared.fault.TapFault.TheVariants.{Bad}
use Rattle.plan_reader.specs.declared.fault.TapWhy.{TapWhy}
use Rattle.plan_reader.specs.declared.plan_texts.PlanText.{PlanText}
use Rattle.plan_reader.specs.declared.plan_texts.TapFile.{TapFile}
use Rattle.plan_reader.specs.Documents.{Says, IsRefusedFor}
use Rattle.plan_reader.specs.TapFields.{SaysTaps}
use Rattle.plan_reader.specs.Tapped.{plan_tapped}
use Rattle.command_files.specs.declared.fault.CommandFault.{CommandFault}
use Rattle.command_files.specs.declared.fault.CommandFault.TheVariants as fault
use Rattle.command_files.specs.declared.fault.FileKind.TheVariants as file
use Rattle.command_files.specs.Ends.{IsReadToEnd}

-- the file is there, with these bytes, of which there are at most 1 MiB
pub record HasFile (name : List ℕ) (files : Files) (bytes : List ℕ) : Type 0 where
  pub there : get files name ≡ Some bytes
  pub short : length bytes ≤ 2 ^ 20

-- the file is there and has more than 1 MiB
pub record IsTooLong (name : List ℕ) (files : Files) : Type 0 where
  pub bytes : List ℕ
  pub there : get files name ≡ Some bytes
  pub long : 2 ^ 20 < length bytes

-- ---- tap files

-- the file is there, and says these taps or has this first field that is no number
pub record HasTaps (name : List ℕ) (files : Files) (answer : Result (List ℤ) TapFault) : Type 0 where
  pub bytes : List ℕ
  pub has : HasFile name files bytes
  pub says : SaysTaps bytes answer

-- the tap files are there and say taps, and with these in their elements the plan is the whole plan
abbrev pub Fills : Files → List TapFile → Plan → Plan → Type 0
Fills files [] plan whole = whole ≡ plan
Fills files (tap_file ∷ others) plan whole = (taps : List ℤ) × HasTaps tap_file.name files (Ok taps) × Fills files others (plan_tapped tap_file.element taps plan) whole

-- this is one of the tap files that a text names, and those before it are there and say taps
pub record IsReached (files : Files) (text : PlanText) (tap_file : TapFile) : Type 0 where
  pub before : List TapFile
  pub after : List TapFile
  pub order : before ++ tap_file ∷ after ≡ text.files
  pub part : Plan
  pub filled : Fills files before text.plan part

-- the tap file of this element is reached and is too long
pub record HasLongTaps (files : Files) (text : PlanText) (element : ℕ) : Type 0 where
  pub tap_file : TapFile
  pub reached : IsReached files text tap_file
  pub same : element ≡ tap_file.element
  pub long : IsTooLong tap_file.name files

-- the tap file of this element is reached, and this is the row of its first field that is no number
pub record HasBadTaps (files : Files) (text : PlanText) (element row : ℕ) (why : TapWhy) : Type 0 where
  pub tap_file : TapFile
  pub reached : IsReached files text tap_file
  pub same : element ≡ tap_file.element
  pub bad : HasTaps tap_file.name files (Err (Bad row why))

-- ---- PLAN

-- PLAN is there and says this
pub record SaysText (name : List ℕ) (files : Files) (text : PlanText) : Type 0 where
  pub bytes : List ℕ
  pub has : HasFile name files bytes
  pub says : Says bytes (Ok text)

-- PLAN says this plan, the taps of its tap files included
pub record SaysPlan (name : List ℕ) (files : Files) (plan : Plan) : Type 0 where
  pub text : PlanText
  pub says : SaysText name files text
  pub filled : Fills files text.files text.plan plan

-- PLAN says this plan, which is accepted
pub record IsAcceptedFile (name : List ℕ) (files : Files) (plan : Plan) : Type 0 where
  pub says : SaysPlan name files plan
  pub accepted : IsAccepted plan

-- the bytes are no plan file
pub record IsUnread (bytes : List ℕ) (why : PlanReadFault) : Type 0 where
  pub told : why ≢ reading.Memory
  pub refused : IsRefusedFor bytes why

-- PLAN is there and is no plan file
pub record IsUnreadFile (name : List ℕ) (files : Files) (why : PlanReadFault) : Type 0 where
  pub bytes : List ℕ
  pub has : HasFile name files bytes
  pub unread : IsUnread bytes why

-- PLAN says a plan of which this is the first test that fails
pub record IsUnacceptedFile (name : List ℕ) (files : Files) (why : PlanFault) : Type 0 where
  pub plan : Plan
  pub says : SaysPlan name files plan
  pub first : first_fault plan ≡ Some why

-- PLAN is refused: itself, then its tap files one after another, and then the plan that they say
abbrev pub IsRefusedPlan : List ℕ → Files → CommandFault → Type 0
IsRefusedPlan name files (fault.FileTooLong file.Plan) = IsTooLong name files
IsRefusedPlan name files (fault.FileTooLong (file.Taps element)) = (text : PlanText) × SaysText name files text × HasLongTaps files text element
IsRefusedPlan name files (fault.PlanRead why) = IsUnreadFile name files why
IsRefusedPlan name files (fault.Tap element row why) = (text : PlanText) × SaysText name files text × HasBadTaps files text element row why
IsRefusedPlan name files (fault.Plan why) = IsUnacceptedFile name files why
IsRefusedPlan name files _ = ⊥

-- ---- what is read

-- a tap file of a text, those before it being there and saying taps
abbrev pub IsTapFile : PlanText → Files → List ℕ → Type 0
IsTapFile text files name = (tap_file : TapFile) × IsReached files text tap_file × (name ≡ tap_file.name)

-- PLAN, or a tap file that it names
abbrev pub IsOfPlan : List ℕ → Files → List ℕ → Type 0
IsOfPlan plan files name = (name ≡ plan) ⊎ ((text : PlanText) × SaysText plan files text × IsTapFile text files name)

-- the name of the last of the tap files, or this name where there are none
abbrev pub last_name : List ℕ → List TapFile → List ℕ
last_name name [] = name
last_name name (tap_file ∷ others) = last_name tap_file.name others

-- PLAN and each of its tap files were read to their ends
pub record AreEnded (plan : List ℕ) (text : PlanText) (old new : HostState) : Type 0 where
  pub plan_ended : IsReadToEnd plan old new
  pub taps_ended : All (λ tap_file. IsReadToEnd tap_file.name old new) text.files

-- PLAN and each of its tap files were read to their ends, the last of them is the input, and nothing of it is left
pub record AreReadToEnd (plan : List ℕ) (text : PlanText) (old new : HostState) : Type 0 where
  pub each : AreEnded plan text old new
  pub input : new.input ≡ last_name plan text.files
  pub end : drop new.place (bytes_of old.files new.input) ≡ []
