-- The steps of reading PLAN and its tap files.
use Rattle.std.specs.Prelude.{◌≡◌, ℕ, ℤ, List, [], Some, Result, Ok, Err, Vec, OnOk, IfOk, All}
use Rattle.std.specs.declared.alloc.Global.{Global}
use Rattle.mr_values.specs.Files.{Files}
use Rattle.mr_values.specs.Host.{HostState, left_of}
use Rattle.mr_values.specs.Value.{size}
use Rattle.mr_values.specs.declared.host.HostCall.TheVariants.{OpenInput, Next}
use Rattle.mr_values.specs.declared.plan.Plan.{Plan}
use Rattle.plan_check.specs.Accepted.{first_fault, IsAccepted, AreFacts}
use Rattle.plan_reader.specs.declared.fault.TapFault.TheVariants.{Bad}
use Rattle.plan_reader.specs.declared.plan_texts.PlanText.{PlanText}
use Rattle.plan_reader.specs.declared.plan_texts.TapFile.{TapFile}
use Rattle.plan_reader.specs.Documents.{Says}
use Rattle.plan_reader.specs.Versions.{IsVersioned}
use Rattle.command_files.specs.declared.accept.AcceptedPlan.{AcceptedPlan}
use Rattle.command_files.specs.declared.fault.CommandFault.{CommandFault}
use Rattle.command_files.specs.declared.fault.CommandFault.TheVariants.{FileTooLong, HostFault, Memory, PlanRead, Tap}
use Rattle.command_files.specs.declared.fault.CommandFault.TheVariants as fault
use Rattle.command_files.specs.declared.fault.FileKind.TheVariants.{Taps}
use Rattle.command_files.specs.PlanFile.{HasTaps, Fills, IsTooLong, HasLongTaps, HasBadTaps, IsUnread, IsAcceptedFile, IsRefusedPlan, AreReadToEnd, last_name}
use Rattle.command_files.specs.Ends.{IsReadToEnd}

-- what is answered for the bytes of PLAN
abbrev pub TextAnswer : List ℕ → Result PlanText CommandFault → Type 0
TextAnswer bytes (Ok text) = Says bytes (Ok text)
TextAnswer bytes (Err (PlanRead why)) = IsUnread bytes why
TextAnswer bytes (Err Memory) = Unit {0}
TextAnswer bytes (Err _) = ⊥

-- what is answered for a tap file. A blamed host call and want of memory are said elsewhere.
abbrev pub TapsAnswer : TapFile → Files → Result (Vec ℤ Global) CommandFault → Type 0
TapsAnswer tap_file files (Ok taps) = HasTaps tap_file.name files (Ok taps.items)
TapsAnswer tap_file files (Err (FileTooLong (Taps element))) = (element ≡ tap_file.element) × IsTooLong tap_file.name files
TapsAnswer tap_file files (Err (Tap element row why)) = (element ≡ tap_file.element) × HasTaps tap_file.name files (Err (Bad row why))
TapsAnswer tap_file files (Err (HostFault OpenInput)) = Unit {0}
TapsAnswer tap_file files (Err (HostFault Next)) = Unit {0}
TapsAnswer tap_file files (Err Memory) = Unit {0}
TapsAnswer tap_file files (Err _) = ⊥

-- a tap file was read: where all is well it is the input, and nothing of it is left
pub record ReadsTaps (tap_file : TapFile) (result : Result (Vec ℤ Global) CommandFault) (old new : HostState) : Type 0 where
  pub answer : TapsAnswer tap_file old.files result
  pub input : OnOk result (new.input ≡ tap_file.name)
  pub end : OnOk result (left_of new ≡ [])
  pub ended : OnOk result (IsReadToEnd tap_file.name old new)
  pub files : new.files ≡ old.files

-- what is answered for the tap files of a text
abbrev pub FillAnswer : PlanText → Files → Result Plan CommandFault → Type 0
FillAnswer text files (Ok plan) = Fills files text.files text.plan plan
FillAnswer text files (Err (FileTooLong (Taps element))) = HasLongTaps files text element
FillAnswer text files (Err (Tap element row why)) = HasBadTaps files text element row why
FillAnswer text files (Err (HostFault OpenInput)) = Unit {0}
FillAnswer text files (Err (HostFault Next)) = Unit {0}
FillAnswer text files (Err Memory) = Unit {0}
FillAnswer text files (Err _) = ⊥

-- the tap files of a text were read, after a file of which nothing was left
pub record ReadsTapFiles (text : PlanText) (result : Result Plan CommandFault) (old new : HostState) : Type 0 where
  pub answer : FillAnswer text old.files result
  pub input : OnOk result (new.input ≡ last_name old.input text.files)
  pub end : OnOk result (left_of old ≡ [] → left_of new ≡ [])
  pub ended : OnOk result (All (λ tap_file. IsReadToEnd tap_file.name old new) text.files)
  pub files : new.files ≡ old.files

-- a plan is accepted, these are its facts, and its version knows its elements
pub record IsAcceptedPlan (accepted : AcceptedPlan) : Type 0 where
  pub passes : IsAccepted accepted.plan
  pub are_facts : AreFacts (size accepted.plan.width) (size accepted.plan.ticks) accepted.plan.elements accepted.facts
  pub versioned : IsVersioned accepted.version accepted.plan.elements

-- what is answered for a plan of a version
abbrev pub CheckAnswer : ℕ → Plan → Result AcceptedPlan CommandFault → Type 0
CheckAnswer version plan (Ok accepted) = (accepted.plan ≡ plan) × (accepted.version ≡ version) × IsAcceptedPlan accepted
CheckAnswer version plan (Err (fault.Plan why)) = first_fault plan ≡ Some why
CheckAnswer version plan (Err Memory) = Unit {0}
CheckAnswer version plan (Err _) = ⊥

-- PLAN was read with its tap files, and says this plan, which is accepted; each of these files was read to its end
pub record IsReadPlan (name : List ℕ) (plan : Plan) (old new : HostState) : Type 0 where
  pub file : IsAcceptedFile name old.files plan
  pub ended : AreReadToEnd name file.says.text old new

-- PLAN says this accepted plan in this version
pub record IsVersionedFile (name : List ℕ) (files : Files) (version : ℕ) (plan : Plan) : Type 0 where
  pub file : IsAcceptedFile name files plan
  pub version_is : file.says.text.version ≡ version

-- what is answered for PLAN and its tap files
abbrev pub PlanAnswer : List ℕ → Files → Result AcceptedPlan CommandFault → Type 0
PlanAnswer name files (Ok accepted) = IsAcceptedFile name files accepted.plan
PlanAnswer name files (Err (HostFault OpenInput)) = Unit {0}
PlanAnswer name files (Err (HostFault Next)) = Unit {0}
PlanAnswer name files (Err Memory) = Unit {0}
PlanAnswer name files (Err why) = IsRefusedPlan name files why

-- PLAN and its tap files were read
pub record ReadsPlan (name : List ℕ) (result : Result AcceptedPlan CommandFault) (old new : HostState) : Type 0 where
  pub answer : PlanAnswer name old.files result
  pub ended : IfOk result (λ accepted. IsReadPlan name accepted.plan old new)
  pub versioned : IfOk result (λ accepted. IsVersionedFile name old.files accepted.version accepted.plan)
  pub files : new.files ≡ old.files
