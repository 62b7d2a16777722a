use Rattle.verilog_tree.proofs.OneSettling.{exactly_one_settling}
use Rattle.module_laws.proofs.Levels.{loop_free}
use Rattle.module_laws.proofs.Passing.{closed_driven, settling_runs}
use Rattle.module_laws.proofs.law_of_runs.Goals as goal

pub returns : goal.returns
returns c = λ d passes. settling_runs d (exactly_one_settling d (closed_driven d passes) (loop_free d passes.free))
