use Rattle.verilog_tree.proofs.OneSettling.{exactly_one_settling}
use Rattle.verilog_tree.specs.Checks.{filter_face}
use Rattle.module_laws.proofs.Levels.{loop_free}
use Rattle.module_laws.proofs.Passing.{none_fails, passing_driven}
use Rattle.alike_laws.proofs.FirstCheck.{same_checks}
use Rattle.alike_laws.proofs.SameChecks.{shaped}
use Rattle.alike_laws.proofs.SameRuns.{passing_ports, same_runs}
use Rattle.alike_laws.proofs.Signals.{redeclared_apart}
use Rattle.alike_laws.proofs.law_of_same_runs.Goals as goal

pub returns : goal.returns
returns c = λ d e distinct_d distinct_e alike passes.
    let other = (same_checks d e alike distinct_d distinct_e filter_face).there passes in
    let apart_d = redeclared_apart d e alike distinct_d distinct_e d (none_fails filter_face d passes.early).redeclares in
    let apart_e = redeclared_apart d e alike distinct_d distinct_e e (none_fails filter_face e other.early).redeclares in
    same_runs d e alike distinct_d distinct_e (shaped d e alike distinct_d distinct_e apart_d apart_e)
    (exactly_one_settling e (passing_driven e other) (loop_free e other.free))
    (passing_ports d passes)
