-- The name that each call of a host is printed as.
use Rattle.std.specs.Prelude.{ℕ, List, codes}
use Rattle.mr_values.specs.declared.host.HostCall.{HostCall}
use Rattle.mr_values.specs.declared.host.HostCall.TheVariants.{OpenInput, Next, OpenOutput, Put}

abbrev pub call_text : HostCall → List ℕ
call_text OpenInput = codes "OpenInput"
call_text Next = codes "Next"
call_text OpenOutput = codes "OpenOutput"
call_text Put = codes "Put"
