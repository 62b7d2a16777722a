-- What two refusals of one text share.
use Rattle.std.specs.Prelude.{◌≡◌, ℕ}
use Rattle.verilog_text.specs.declared.token.Why.{Why}
use Rattle.verilog_read.specs.declared.fault.ReadFault.{ReadFault}
use Rattle.verilog_read.specs.declared.fault.ReadFault.TheVariants as fault

-- the same place, for the same reason
pub record IsSameStop (place : ℕ) (reason : Why) (other : ℕ) (why : Why) : Type 0 where
  pub places : place ≡ other
  pub reasons : reason ≡ why

-- for want of memory
abbrev pub IsForMemory : ReadFault → Type 0
IsForMemory e = e ≡ fault.Memory

-- the same fault, unless one of the two is for want of memory
pub record HaveSameFault (e f : ReadFault) : Type 0 where
  pub same : (e ≡ fault.Memory → ⊥) → (f ≡ fault.Memory → ⊥) → e ≡ f
