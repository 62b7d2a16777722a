-- What a host that tells no files shows of itself: whether an input and an output are open, and how often each call has failed.
use Rattle.std.specs.Prelude.{false, Bool, []}
use Rattle.std.specs.FinMap.{empty}
use Rattle.mr_values.specs.declared.host.FaultCounts.{FaultCounts}
use Rattle.mr_values.specs.Host.{HostState}

abbrev pub untold : Bool → Bool → FaultCounts → HostState
untold has_input has_output faults = record { tells = false; has_input = has_input; has_output = has_output; faults = faults; struck = 0; files = empty; input = []; place = 0; output = []; ends = λ _. 0 }
