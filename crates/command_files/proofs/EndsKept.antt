-- No input that was read to its end is forgotten.
use Rattle.std.proofs.Common.{◌≡◌, ◌≤◌, ◌<◌, ℕ, zero, suc, true, List, [], ◌∷◌, length, Result, Ok, Err, inl, inr, refl, sym, ◌∙◌, subst, arith}
use Rattle.std.proofs.lemmas.Bool.{cases_Bool, false≢true}
use Rattle.mr_values.specs.Faults.{IsRaisedAt}
use Rattle.mr_values.specs.Host.{HostState, IsEnd, CountsEnd, Reads}
use Rattle.mr_values.specs.NamedFiles.{same_name}
use Rattle.mr_values.specs.declared.host.Failed.{Failed as FailedCall}
use Rattle.mr_values.proofs.FilesByName.{same_name-equal, same_name-itself}
use Rattle.command_files.specs.Ends.{AreNoFewer, IsReadToEnd}

-- counts that are the same
pub same_kept : (old new : List ℕ → ℕ) → new ≡ old → AreNoFewer old new
same_kept old new same name = subst (λ (ends : List ℕ → ℕ). old name ≤ ends name) (sym same) (omega arith)

pub kept_after : (old middle new : List ℕ → ℕ) → AreNoFewer old middle → AreNoFewer middle new → AreNoFewer old new
kept_after old middle new one two name = let a = one name in let b = two name in omega (arith, a, b)

-- the count of one name rises, and the others stay
raised_kept : (name : List ℕ) (old new : List ℕ → ℕ) → IsRaisedAt name old new → AreNoFewer old new
raised_kept name old new raised other =
    elim (cases_Bool (same_name other name)) [
      | inl same ↦ subst (λ (n : List ℕ). old n ≤ new n) (sym (same_name-equal other name same)) raised.own.0
      | inr differs ↦
          let stays : new other ≡ old other = raised.others other (λ e. false≢true (sym differs ∙ subst (λ (n : List ℕ). same_name other n ≡ true) e (same_name-itself other))) in
          omega (arith, stays)
    ]

end_kept : (result : Result ℕ FailedCall) (room : List ℕ) (old new : HostState) → CountsEnd (IsEnd result room) old new → AreNoFewer old.ends new.ends
end_kept (Ok zero) [] old new counts = same_kept old.ends new.ends (counts.unmoved (λ (is : (0 ≡ 0) × (0 < 0)). absurd (omega (arith, is.1))))
end_kept (Ok zero) (byte ∷ bytes) old new counts = raised_kept old.input old.ends new.ends (counts.raised (refl, omega arith))
end_kept (Ok (suc count)) room old new counts = same_kept old.ends new.ends (counts.unmoved (λ (is : (suc count ≡ 0) × (0 < length room)). absurd (omega (arith, is.0))))
end_kept (Err failed) room old new counts = same_kept old.ends new.ends (counts.unmoved (λ (is : ⊥). is))

pub read_kept : (result : Result ℕ FailedCall) (room : List ℕ) (old new : HostState) → Reads room result old new → AreNoFewer old.ends new.ends
read_kept result room old new reads = end_kept result room old new reads.ends

-- a read into a room that gave no bytes is the end of the input
pub read_ended : (count : ℕ) (room : List ℕ) (old middle new : HostState) → AreNoFewer old.ends middle.ends → Reads room (Ok count) middle new → count ≡ 0 → 0 < length room → IsReadToEnd middle.input old new
read_ended count room old middle new kept reads none some =
    let raised = (reads.ends.raised (none, some)).own in
    let before = kept middle.input in
    (omega (arith, raised, before), omega (arith, raised, before))

-- an input stays read to its end
pub ended_before : (name : List ℕ) (old middle new : HostState) → IsReadToEnd name old middle → AreNoFewer middle.ends new.ends → IsReadToEnd name old new
ended_before name old middle new ended kept = let more = kept name in (omega (arith, ended, more), omega (arith, ended, more))

pub ended_after : (name : List ℕ) (old middle new : HostState) → AreNoFewer old.ends middle.ends → IsReadToEnd name middle new → IsReadToEnd name old new
ended_after name old middle new kept ended = let before = kept name in (omega (arith, ended, before), omega (arith, ended, before))
