-- The faults of one text, but for want of memory, are one.
use Rattle.std.proofs.Common.{ℕ, List, refl, ap, ◌∙◌}
use Rattle.verilog_tree.specs.Tree.{Design}
use Rattle.verilog_text.specs.declared.token.Why.{Why}
use Rattle.verilog_text.specs.declared.token.Why.TheVariants as why
use Rattle.verilog_text.specs.Reading.{Reads}
use Rattle.verilog_read.specs.declared.fault.ReadFault.{ReadFault}
use Rattle.verilog_read.specs.declared.fault.ReadFault.TheVariants as fault
use Rattle.verilog_read.specs.Answer.{StopsAt, IsStop}
use Rattle.refusal_laws.specs.Laws.{IsForMemory, HaveSameFault}
use Rattle.refusal_laws.proofs.OneStop.{one_stop, no_stop}

-- a stop as a fault
abbrev fault_of : ℕ → Why → ReadFault
fault_of place why.Lexical = fault.Lexical place
fault_of place why.Syntax = fault.Syntax place
fault_of place why.OutsideSubset = fault.OutsideSubset place
fault_of place why.TooDeep = fault.TooDeep place

same_fault : (bytes : List ℕ) (place other : ℕ) (reason reason' : Why) → StopsAt bytes place reason → StopsAt bytes other reason' → HaveSameFault (fault_of place reason) (fault_of other reason')
same_fault bytes place other reason reason' x y =
    let s = one_stop bytes place other reason reason' x y in
    record { same = λ p q. ap (λ n. fault_of n reason) s.places ∙ ap (fault_of other) s.reasons }

-- of one stop and any fault
by_other : (bytes : List ℕ) (place : ℕ) (reason : Why) (f : ReadFault) → StopsAt bytes place reason → IsStop bytes f → HaveSameFault (fault_of place reason) f
by_other bytes place reason (fault.Lexical other) x y = same_fault bytes place other reason why.Lexical x y
by_other bytes place reason (fault.Syntax other) x y = same_fault bytes place other reason why.Syntax x y
by_other bytes place reason (fault.OutsideSubset other) x y = same_fault bytes place other reason why.OutsideSubset x y
by_other bytes place reason (fault.TooDeep other) x y = same_fault bytes place other reason why.TooDeep x y
by_other bytes place reason (fault.Module m) x y = absurd y
by_other bytes place reason fault.Memory x y = record { same = λ p q. absurd (q refl) }

pub one_fault : (bytes : List ℕ) (e f : ReadFault) → IsStop bytes e → IsStop bytes f → HaveSameFault e f
one_fault bytes (fault.Lexical place) f x y = by_other bytes place why.Lexical f x y
one_fault bytes (fault.Syntax place) f x y = by_other bytes place why.Syntax f x y
one_fault bytes (fault.OutsideSubset place) f x y = by_other bytes place why.OutsideSubset f x y
one_fault bytes (fault.TooDeep place) f x y = by_other bytes place why.TooDeep f x y
one_fault bytes (fault.Module m) f x y = absurd x
one_fault bytes fault.Memory f x y = record { same = λ p q. absurd (p refl) }

pub no_fault : (bytes : List ℕ) (d : Design) (e : ReadFault) → Reads bytes d → IsStop bytes e → IsForMemory e
no_fault bytes d (fault.Lexical place) x y = absurd (no_stop bytes d place why.Lexical x y)
no_fault bytes d (fault.Syntax place) x y = absurd (no_stop bytes d place why.Syntax x y)
no_fault bytes d (fault.OutsideSubset place) x y = absurd (no_stop bytes d place why.OutsideSubset x y)
no_fault bytes d (fault.TooDeep place) x y = absurd (no_stop bytes d place why.TooDeep x y)
no_fault bytes d (fault.Module m) x y = absurd y
no_fault bytes d fault.Memory x y = refl
