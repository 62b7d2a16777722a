-- TEXT as a file.
use Rattle.std.proofs.Common.{◌≡◌, ◌∙◌, ℕ, ◌^◌, List, Some, None, Result, Ok, Err, sym, subst}
use Rattle.std.specs.FinMap.{get}
use Rattle.mr_values.specs.Files.{Files}
use Rattle.mr_values.specs.declared.host.HostCall.TheVariants.{OpenInput, Next}
use Rattle.verilog_tree.specs.declared.tree.Module.{Module}
use Rattle.verilog_tree.specs.Checks.{Passes}
use Rattle.verilog_tree.specs.Tree.{Design}
use Rattle.verilog_tree.specs.declared.fault.ModuleFault.{ModuleFault}
use Rattle.verilog_tree.specs.declared.fault.ModuleFault.TheVariants as check
use Rattle.verilog_text.specs.Reading.{Reads}
use Rattle.verilog_text.proofs.OneReading.{one_design}
use Rattle.verilog_read.specs.declared.fault.ReadFault.{ReadFault}
use Rattle.verilog_read.specs.declared.fault.ReadFault.TheVariants as reading
use Rattle.module_reader.specs.Reader.{IsTextRefusal, FailsCheck}
use Rattle.command_files.specs.declared.fault.CommandFault.{CommandFault}
use Rattle.command_files.specs.declared.fault.CommandFault.TheVariants as fault
use Rattle.command_files.specs.declared.fault.CommandFault.TheVariants.{HostFault, Memory}
use Rattle.command_files.specs.declared.fault.FileKind.{FileKind}
use Rattle.command_files.specs.declared.fault.FileKind.TheVariants as file
use Rattle.command_files.specs.WholeFiles.{ReadAnswer}
use Rattle.command_files.specs.TextFile.{HasText, IsTextFile, IsOtherText, BytesAnswer, DesignAnswer, ReadsDesign}
use Rattle.mr_values.specs.Host.{HostState}
use Rattle.command_files.specs.Ends.{IsReadToEnd}
use Rattle.command_files.specs.Conversions.{fault_of_file, fault_of_text}
use Rattle.command_files.specs.declared.fault.FileFault.{FileFault}
use Rattle.command_files.specs.declared.fault.FileFault.TheVariants as unread

-- ---- TEXT

unchecked : (bytes : List ℕ) (why : ModuleFault) → FailsCheck bytes why → ((d : Design) → Reads bytes d → ¬ Passes d) → BytesAnswer bytes (Err (fault_of_text (reading.Module why)))
unchecked bytes check.Memory fails other = tt
unchecked bytes why fails other = (other, fails)

pub text_refused : (bytes : List ℕ) (why : ReadFault) → IsTextRefusal bytes why → ((d : Design) → Reads bytes d → Passes d → why ≡ reading.Memory) → BytesAnswer bytes (Err (fault_of_text why))
text_refused bytes (reading.Lexical place) refused only = ((λ d r p. let e = only d r p in absurd (cc)), refused)
text_refused bytes (reading.Syntax place) refused only = ((λ d r p. let e = only d r p in absurd (cc)), refused)
text_refused bytes (reading.OutsideSubset place) refused only = ((λ d r p. let e = only d r p in absurd (cc)), refused)
text_refused bytes (reading.TooDeep place) refused only = ((λ d r p. let e = only d r p in absurd (cc)), refused)
text_refused bytes (reading.Module why) refused only = unchecked bytes why refused (λ d r p. let e = only d r p in absurd (cc))
text_refused bytes reading.Memory refused only = tt

design_answer : (name : List ℕ) (files : Files) (bytes : List ℕ) (result : Result Module CommandFault) → HasText name files bytes → BytesAnswer bytes result → DesignAnswer name files result
design_answer name files bytes (Ok design) has answer = record { bytes = bytes; has = has; reads = answer.0; passes = answer.1 }
design_answer name files bytes (Err (fault.Read why)) has answer = (bytes, record { has = has; other = answer.0 }, answer.1)
design_answer name files bytes (Err (fault.Module why)) has answer = (bytes, record { has = has; other = answer.0 }, answer.1)
design_answer name files bytes (Err Memory) has answer = tt
design_answer name files bytes (Err _) has answer = absurd answer

pub design_read : (name : List ℕ) (old new : HostState) (bytes : List ℕ) (result : Result Module CommandFault) → HasText name old.files bytes → BytesAnswer bytes result → IsReadToEnd name old new → new.files ≡ old.files
    → ReadsDesign name result old new
design_read name old new bytes (Ok design) has answer ended files = record { answer = design_answer name old.files bytes (Ok design) has answer; ended = ended; files = files }
design_read name old new bytes (Err why) has answer ended files = record { answer = design_answer name old.files bytes (Err why) has answer; ended = tt; files = files }

pub text_unread : (name : List ℕ) (files : Files) (why : FileFault) → ReadAnswer (get files name) file.Text (2 ^ 26) (Err why) → DesignAnswer name files (Err (fault_of_file why))
text_unread name files (unread.FileTooLong kind) answer =
    subst (λ (k : FileKind). DesignAnswer name files (Err (fault.FileTooLong k))) (sym answer.0) (record { bytes = answer.1.0; there = answer.1.1; long = answer.1.2 })
text_unread name files (unread.HostFault OpenInput) answer = tt
text_unread name files (unread.HostFault Next) answer = tt
text_unread name files unread.Memory answer = tt
text_unread name files _ answer = absurd answer

pub same_bytes : (files : Files) (name one two : List ℕ) → get files name ≡ Some one → get files name ≡ Some two → one ≡ two
same_bytes files name one two a b = let e : Some one ≡ Some two = sym a ∙ b in cc

pub isnt_missing : (files : Files) (name bytes : List ℕ) → get files name ≡ Some bytes → get files name ≡ None → ⊥
isnt_missing files name bytes there none = let e = sym there ∙ none in absurd (cc)

pub one_text : (name : List ℕ) (files : Files) (d e : Design) → IsTextFile name files d → IsTextFile name files e → d ≡ e
one_text name files d e a b = one_design a.bytes d e a.reads (subst (λ (bytes : List ℕ). Reads bytes e) (same_bytes files name b.bytes a.bytes b.has.there a.has.there) b.reads)

pub isnt_other : (name : List ℕ) (files : Files) (bytes : List ℕ) (d : Design) → IsTextFile name files d → IsOtherText name files bytes → ⊥
isnt_other name files bytes d a other = other.other d (subst (λ (bs : List ℕ). Reads bs d) (same_bytes files name a.bytes bytes a.has.there other.has.there) a.reads) a.passes
