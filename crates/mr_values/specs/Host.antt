-- What a host is to a contract, and what its calls do.
use Rattle.std.specs.Prelude.{◌≡◌, ◌⊎◌, ℕ, ◌+◌, ◌≤◌, ◌<◌, Bool, true, false, List, [], ◌++◌, length, take, drop, None, IsSome, Result, Ok, Err, IfOk, OnOk, OnErr, is_err}
use Rattle.std.specs.FinMap.{get, insert}
use Rattle.mr_values.specs.declared.host.HostCall.{HostCall}
use Rattle.mr_values.specs.declared.host.FaultCounts.{FaultCounts}
use Rattle.mr_values.specs.declared.host.OutFail.{OutFail}
use Rattle.mr_values.specs.declared.host.OutFail.TheVariants.{Failed, Memory}
use Rattle.mr_values.specs.declared.host.Failed.{Failed as FailedCall}
use Rattle.mr_values.specs.Faults.{IsRisen, RaisesOnly, IsRaisedAt}
use Rattle.mr_values.specs.Files.{Files, bytes_of}

pub record HostState : Type 0 where
  -- whether the host tells its files, which never changes
  pub tells : Bool
  pub has_input : Bool
  pub has_output : Bool
  pub faults : FaultCounts
  -- what follows counts only where the host tells its files: how often it was struck by a fault,
  -- the files, the input and the place in it, the output, and how often each input was read to its end
  pub struck : ℕ
  pub files : Files
  pub input : List ℕ
  pub place : ℕ
  pub output : List ℕ
  pub ends : List ℕ → ℕ

-- the bytes of the input that are still to be read
abbrev pub left_of : HostState → List ℕ
left_of host = drop host.place (bytes_of host.files host.input)

-- the call failed, and not for want of memory
abbrev pub has_failed : Result (Unit {0}) OutFail → Bool
has_failed (Ok done) = false
has_failed (Err Failed) = true
has_failed (Err Memory) = false

-- A call that failed raised its own count alone. Any other answer leaves all counts.
pub record HasCause (call : HostCall) (failed : Bool) (old new : HostState) : Type 0 where
  pub same_kind : new.tells ≡ old.tells
  pub raised : failed ≡ true → RaisesOnly call old.faults new.faults
  pub unmoved : failed ≡ false → new.faults ≡ old.faults

-- Over told files a call that failed was struck. Any other answer leaves that count.
pub record IsStruck (failed : Bool) (old new : HostState) : Type 0 where
  pub raised : failed ≡ true → IsRisen old.struck new.struck
  pub unmoved : failed ≡ false → new.struck ≡ old.struck

pub record OpensInput (name : List ℕ) (result : Result (Unit {0}) FailedCall) (old new : HostState) : Type 0 where
  pub opened : OnOk result (IsSome (get old.files name) × (new.input ≡ name) × (new.place ≡ 0))
  -- it fails only where it is struck, or where there is no such file
  pub unmoved : OnOk result (new.struck ≡ old.struck)
  pub refused : OnErr result (IsRisen old.struck new.struck ⊎ ((get old.files name ≡ None) × (old.struck ≤ new.struck)))
  pub files : new.files ≡ old.files
  pub output : new.output ≡ old.output
  pub ends : new.ends ≡ old.ends

-- an input is read to its end where a room that isn't empty got no bytes
abbrev pub IsEnd : Result ℕ FailedCall → List ℕ → Type 0
IsEnd (Ok count) room = (count ≡ 0) × (0 < length room)
IsEnd (Err failed) room = ⊥

-- an input that is read to its end is counted, and nothing else is
pub record CountsEnd (is_end : Type 0) (old new : HostState) : Type 0 where
  pub raised : is_end → IsRaisedAt old.input old.ends new.ends
  pub unmoved : ¬ is_end → new.ends ≡ old.ends

pub record Reads (room : List ℕ) (result : Result ℕ FailedCall) (old new : HostState) : Type 0 where
  pub bytes : IfOk result (λ count. left_of old ≡ take count room ++ left_of new)
  pub place : IfOk result (λ count. new.place ≡ old.place + count)
  pub end : IfOk result (λ count. count ≡ 0 → 0 < length room → left_of old ≡ [])
  pub struck : IsStruck (is_err result) old new
  pub input : OnOk result (new.input ≡ old.input)
  pub files : new.files ≡ old.files
  pub output : new.output ≡ old.output
  pub ends : CountsEnd (IsEnd result room) old new

pub record OpensOutput (name : List ℕ) (result : Result (Unit {0}) OutFail) (old new : HostState) : Type 0 where
  pub opened : OnOk result ((new.files ≡ insert old.files name []) × (new.output ≡ name))
  pub refused : OnErr result ((new.files ≡ old.files) ⊎ (new.files ≡ insert old.files name []))
  pub struck : IsStruck (has_failed result) old new
  pub input : new.input ≡ old.input
  pub place : new.place ≡ old.place
  pub ends : new.ends ≡ old.ends

-- the output has grown by these bytes, and no other file has changed
abbrev pub GrowsBy : List ℕ → HostState → HostState → Type 0
GrowsBy bytes old new = new.files ≡ insert old.files old.output (bytes_of old.files old.output ++ bytes)

pub record Appends (piece : List ℕ) (result : Result (Unit {0}) OutFail) (old new : HostState) : Type 0 where
  pub appended : OnOk result (GrowsBy piece old new × (new.output ≡ old.output))
  pub refused : OnErr result ((count : ℕ) × GrowsBy (take count piece) old new)
  pub struck : IsStruck (has_failed result) old new
  pub input : new.input ≡ old.input
  pub place : new.place ≡ old.place
  pub ends : new.ends ≡ old.ends
