-- What a step of the reading answers: what is wanted of it, unless memory runs out.
use Rattle.std.specs.Prelude.{◌≡◌, ◌⊎◌, ℤ, List, Result, Ok, Err, Vec, MatchResult}
use Rattle.std.specs.declared.alloc.Global.{Global}
use Rattle.mr_values.specs.declared.plan.Element.{Element}
use Rattle.plan_reader.specs.declared.fault.PlanReadFault.{PlanReadFault}
use Rattle.plan_reader.specs.declared.fault.PlanReadFault.TheVariants.{Memory}
use Rattle.plan_reader.specs.declared.fault.TapFault.{TapFault}
use Rattle.plan_reader.specs.declared.fault.TapFault.TheVariants as tap
use Rattle.plan_reader.specs.declared.plan_texts.TapFile.{TapFile}
use Rattle.plan_reader.specs.Documents.{ReadElements}

abbrev pub IsFault : {T : Type 0} → Result T PlanReadFault → PlanReadFault → Type 0
IsFault wanted fault = (fault ≡ Memory) ⊎ (wanted ≡ Err fault)

abbrev pub Gives : {T : Type 0} → Result T PlanReadFault → Result T PlanReadFault → Type 0
Gives wanted result = MatchResult result (λ x. wanted ≡ Ok x) (IsFault wanted)

-- the same of the elements and their tap files
abbrev pub GivesElements : Result ReadElements PlanReadFault → Result (Vec Element Global × Vec TapFile Global) PlanReadFault → Type 0
GivesElements wanted result = MatchResult result (λ read. wanted ≡ Ok (record { elements = read.0.items; files = read.1.items })) (IsFault wanted)

-- the same of taps
abbrev pub TapsGive : Result (List ℤ) TapFault → Result (Vec ℤ Global) TapFault → Type 0
TapsGive wanted result = MatchResult result (λ taps. wanted ≡ Ok taps.items) (λ fault. (fault ≡ tap.Memory) ⊎ (wanted ≡ Err fault))
