-- Why a text is refused whose module fails a check.
use Rattle.std.proofs.Common.{◌≡◌, ◌≢◌, ℕ, List, refl}
use Rattle.verilog_tree.specs.Checks.{Face, PassesAs, FailsAs}
use Rattle.verilog_tree.specs.Tree.{Design}
use Rattle.verilog_tree.specs.declared.fault.ModuleFault.{ModuleFault}
use Rattle.verilog_tree.specs.declared.fault.ModuleFault.TheVariants as check
use Rattle.verilog_text.specs.Reading.{Reads}
use Rattle.verilog_read.specs.declared.fault.ReadFault.{ReadFault}
use Rattle.verilog_read.specs.declared.fault.ReadFault.TheVariants as fault
use Rattle.verilog_read.specs.Answer.{IsStop}
use Rattle.verilog_check.proofs.OneAnswer.{excluded}
use Rattle.module_reader.specs.Reader.{refusal_of, IsTextRefusalAs}

-- a module that passes is refused only for want of memory
pub only_memory : (face : Face) (e : Design) (why : ModuleFault) → (why ≢ check.Memory → FailsAs face e why) → PassesAs face e → refusal_of why ≡ fault.Memory
only_memory face e check.Memory fails passes = refl
only_memory face e (check.Redeclared name) fails passes = absurd (excluded e (check.Redeclared name) passes (fails (λ same. absurd (cc))))
only_memory face e (check.Undeclared name) fails passes = absurd (excluded e (check.Undeclared name) passes (fails (λ same. absurd (cc))))
only_memory face e (check.PortShape name) fails passes = absurd (excluded e (check.PortShape name) passes (fails (λ same. absurd (cc))))
only_memory face e (check.WrongKind name) fails passes = absurd (excluded e (check.WrongKind name) passes (fails (λ same. absurd (cc))))
only_memory face e (check.WidthOver name) fails passes = absurd (excluded e (check.WidthOver name) passes (fails (λ same. absurd (cc))))
only_memory face e (check.BadSelect name) fails passes = absurd (excluded e (check.BadSelect name) passes (fails (λ same. absurd (cc))))
only_memory face e (check.ManyDrivers name) fails passes = absurd (excluded e (check.ManyDrivers name) passes (fails (λ same. absurd (cc))))
only_memory face e (check.NoDriver name) fails passes = absurd (excluded e (check.NoDriver name) passes (fails (λ same. absurd (cc))))
only_memory face e (check.CombLoop name) fails passes = absurd (excluded e (check.CombLoop name) passes (fails (λ same. absurd (cc))))

pub refused : (face : Face) (bytes : List ℕ) (e : Design) → Reads bytes e → (why : ModuleFault) → (why ≢ check.Memory → FailsAs face e why) → IsTextRefusalAs face bytes (refusal_of why)
refused face bytes e reads check.Memory fails = tt
refused face bytes e reads (check.Redeclared name) fails = record { design = e; reads = reads; fails = fails (λ same. absurd (cc)) }
refused face bytes e reads (check.Undeclared name) fails = record { design = e; reads = reads; fails = fails (λ same. absurd (cc)) }
refused face bytes e reads (check.PortShape name) fails = record { design = e; reads = reads; fails = fails (λ same. absurd (cc)) }
refused face bytes e reads (check.WrongKind name) fails = record { design = e; reads = reads; fails = fails (λ same. absurd (cc)) }
refused face bytes e reads (check.WidthOver name) fails = record { design = e; reads = reads; fails = fails (λ same. absurd (cc)) }
refused face bytes e reads (check.BadSelect name) fails = record { design = e; reads = reads; fails = fails (λ same. absurd (cc)) }
refused face bytes e reads (check.ManyDrivers name) fails = record { design = e; reads = reads; fails = fails (λ same. absurd (cc)) }
refused face bytes e reads (check.NoDriver name) fails = record { design = e; reads = reads; fails = fails (λ same. absurd (cc)) }
refused face bytes e reads (check.CombLoop name) fails = record { design = e; reads = reads; fails = fails (λ same. absurd (cc)) }

-- a refusal by the grammar
pub stop : (face : Face) (bytes : List ℕ) (why : ReadFault) → IsStop bytes why → IsTextRefusalAs face bytes why
stop face bytes (fault.Lexical place) is = is
stop face bytes (fault.Syntax place) is = is
stop face bytes (fault.OutsideSubset place) is = is
stop face bytes (fault.TooDeep place) is = is
stop face bytes (fault.Module why) is = absurd is
stop face bytes fault.Memory is = tt
