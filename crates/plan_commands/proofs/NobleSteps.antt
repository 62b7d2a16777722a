-- Steps of `noble`.
use Rattle.std.proofs.Common.{◌≡◌, ◌∙◌, ℕ, zero, suc, ◌<◌, ◌≤◌, ◌^◌, List, [], ◌∷◌, length, Result, Ok, Err, ℤ, pos, negsuc, inl, inr, refl, sym, ap, subst, arith}
use Rattle.std.specs.Prelude.{All, IfOk, Vec}
use Rattle.std.specs.declared.alloc.Global.{Global}
use Rattle.mr_values.specs.declared.memory.Memory.{Memory as NoMemory}
use Rattle.std.proofs.lemmas.Int.{ints}
use Rattle.std.specs.FinMap.{insert}
use Rattle.mr_values.specs.Files.{Files}
use Rattle.mr_values.specs.Host.{HostState}
use Rattle.mr_values.specs.declared.host.HostCall.TheVariants.{OpenInput, Next, OpenOutput, Put}
use Rattle.mr_values.specs.declared.plan.Element.{Element}
use Rattle.mr_values.specs.declared.plan.Element.TheVariants.{Up, Down, Filter, CicDown, CicUp, Round, Clip}
use Rattle.mr_values.specs.declared.plan.Plan.{Plan}
use Rattle.mr_values.specs.Value.{size, chain, IsFromOne, IsWithinLimits, AreFirst}
use Rattle.plan_check.specs.Accepted.{IsAccepted}
use Rattle.plan_check.proofs.LimitFacts.{has_limits}
use Rattle.plan_check.proofs.Options.{none_of}
use Rattle.noble_rewrite.specs.declared.turn.Applied.{Applied}
use Rattle.noble_rewrite.specs.Turns.{HasFactor, HaveFactors, IsSettled, LeadsTo}
use Rattle.mr_values.specs.Sequence.{Sequence}
use Rattle.plan_reader.specs.Documents.{Says}
use Rattle.plan_reader.specs.Versions.{IsVersioned}
use Rattle.command_files.specs.declared.fault.CommandFault.{CommandFault}
use Rattle.command_files.specs.declared.fault.CommandFault.TheVariants.{HostFault, Memory}
use Rattle.command_files.specs.PlanFile.{AreReadToEnd}
use Rattle.plan_commands.specs.Noble.{IsRewriting, IsOutput, NobleEnds}
use Rattle.command_files.specs.declared.fault.WriteFault.{WriteFault}
use Rattle.command_files.specs.declared.fault.WriteFault.TheVariants as writing
use Rattle.command_files.specs.Conversions.{fault_of_writing, result_of_writing}
use Rattle.command_files.specs.Reading.{IsReadPlan, IsVersionedFile}
use Rattle.command_files.proofs.EndedPlan.{ended_of}
use Rattle.command_files.specs.WholeFiles.{WriteAnswer, IsEmptied, HoldsFront, HoldsPart}

from_one : (most : ℕ) (z : ℤ) → IsFromOne most z → 1 ≤ size z
from_one most (pos zero) h = absurd (omega (arith, ints, h.0))
from_one most (pos (suc n)) h = omega arith
from_one most (negsuc n) h = absurd (omega (arith, ints, h.0))

factor_of : (e : Element) → IsWithinLimits e → HasFactor e
factor_of (Up factor) h = from_one 4096 factor h
factor_of (Down factor) h = tt
factor_of (Filter taps form) h = tt
factor_of (CicDown factor stages delay) h = tt
factor_of (CicUp factor stages delay) h = tt
factor_of (Round shift mode) h = tt
factor_of (Clip bits) h = tt

each_factor : (es : List Element) → All IsWithinLimits es → HaveFactors es
each_factor [] h = tt
each_factor (e ∷ es) h = (factor_of e (h zero e (omega arith)), each_factor es (λ k d below. h (suc k) d (omega arith)))

-- an accepted plan has factors of 1 or more, and few elements
pub have_factors : (plan : Plan) → IsAccepted plan → HaveFactors plan.elements
have_factors plan accepted = each_factor plan.elements (has_limits plan (none_of _ _ accepted.passes).0).elements

pub are_few : (plan : Plan) → IsAccepted plan → length plan.elements < 2 ^ 32
are_few plan accepted = let few = (has_limits plan (none_of _ _ accepted.passes).0).few in omega (arith, few)

pub rewriting_of : (version : ℕ) (plan new : Plan) (bytes : List ℕ) (turns : List Applied) → IsAccepted plan → Says bytes (Ok (record { version = version; plan = new; files = [] })) → new.width ≡ plan.width → new.ticks ≡ plan.ticks
    → LeadsTo plan.elements turns new.elements → IsSettled new.elements → (HaveFactors plan.elements → (x : Sequence) → chain new.elements x ≡ chain plan.elements x) → IsRewriting version plan bytes
rewriting_of version plan new bytes turns accepted says width ticks leads ended value = record {
  rewritten = new;
  says = says;
  width = width;
  ticks = ticks;
  turns = turns;
  leads = leads;
  ended = ended;
  value = value (have_factors plan accepted);
}

-- what OUT is to hold
pub output_of : (name : List ℕ) (version : ℕ) (plan : Plan) (files : Files) (bytes : List ℕ) → IsVersionedFile name files version plan → IsRewriting version plan bytes → IsOutput name files bytes
output_of name version plan files bytes is rewriting = record {
  meaning = plan;
  accepted = is.file;
  rewriting = subst (λ (v : ℕ). IsRewriting v plan bytes) (sym is.version_is) rewriting;
}

-- OUT is written
pub out_written : (plan out text : List ℕ) (result : Result (Unit {0}) WriteFault) (meaning : Plan) (old read new : HostState) → IsOutput plan old.files text → IsReadPlan plan meaning old new → read.files ≡ old.files
    → WriteAnswer out text result read.files new.files → NobleEnds plan out (result_of_writing result) old new
out_written plan out text (Ok unit) meaning old read new output is_read files answer = record {
  bytes = text;
  output = output;
  ended = ended_of plan meaning output.meaning old new is_read output.accepted.says;
  written = answer ∙ ap (λ (before : Files). insert before out text) files;
}
out_written plan out text (Err (writing.HostFault OpenInput)) meaning old read new output is_read files answer = absurd answer
out_written plan out text (Err (writing.HostFault Next)) meaning old read new output is_read files answer = absurd answer
out_written plan out text (Err (writing.HostFault OpenOutput)) meaning old read new output is_read files answer = (text, output, subst (λ (before : Files). IsEmptied out before new.files) files answer)
out_written plan out text (Err (writing.HostFault Put)) meaning old read new output is_read files answer = (text, output, subst (λ (before : Files). HoldsFront out text before new.files) files answer)
out_written plan out text (Err writing.Memory) meaning old read new output is_read files answer = inr (text, output, subst (λ (before : Files). HoldsPart out text before new.files) files answer)

-- the version of a plan knows the elements that the identities make
pub still_versioned : (version : ℕ) (es given elements : List Element) → given ≡ es → (AreFirst given → AreFirst elements) → IsVersioned version es → IsVersioned version elements
still_versioned version es given elements same keeps (inl second) = inl second
still_versioned version es given elements same keeps (inr first) = inr (first.0, keeps (subst (λ (xs : List Element). AreFirst xs) (sym same) first.1))

-- the text of a rewritten plan
pub rewriting_text : (version : ℕ) (plan : Plan) (given elements : List Element) (turns : List Applied) (result : Result (Vec ℕ Global) NoMemory) → IsAccepted plan → given ≡ plan.elements
    → IfOk result (λ text. Says text.items (Ok (record { version = version; plan = record { width = plan.width; ticks = plan.ticks; elements = elements }; files = [] })))
    → LeadsTo given turns elements → IsSettled elements → (HaveFactors given → (x : Sequence) → chain elements x ≡ chain given x) → IfOk result (λ text. IsRewriting version plan text.items)
rewriting_text version plan given elements turns (Err memory) accepted same says leads ended value = tt
rewriting_text version plan given elements turns (Ok text) accepted same says leads ended value =
    rewriting_of version plan (record { width = plan.width; ticks = plan.ticks; elements = elements }) text.items turns accepted says refl refl
    (subst (λ (es : List Element). LeadsTo es turns elements) same leads) ended
    (subst (λ (es : List Element). HaveFactors es → (x : Sequence) → chain elements x ≡ chain es x) same value)
