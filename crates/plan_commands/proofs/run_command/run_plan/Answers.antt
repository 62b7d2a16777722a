use Rattle.std.proofs.Common.{◌≡◌, ◌∙◌, Ok, Err, None, subst, sym, true, rules}
use Rattle.std.proofs.lemmas.Result.{err_from_is_err_and}
use Rattle.verilog_tree.specs.View.{design_view}
use Rattle.chain_build.specs.Built.{are_built}
use Rattle.chain_run.specs.Stream.{GivesFrom}
use Rattle.chain_run.specs.Outputs.{IsTiming}
use Rattle.command_files.specs.Ends.{IsThisFile, blamed_call, blamed_in_rows}
use Rattle.command_files.specs.Conversions.{fault_of_rows}
use Rattle.command_files.proofs.EndedPlan.{each_of}
use Rattle.command_files.proofs.PlainFaults.{plain_rows}
use Rattle.plan_commands.specs.Compile.{IsBuiltFile}
use Rattle.command_files.specs.PlanFile.{IsOfPlan}
use Rattle.plan_commands.specs.Run.{IsReadForRun}
use Rattle.command_files.proofs.EndSteps.{ends_after, ends_as, called_in_rows}
use Rattle.plan_commands.proofs.PlanTiming.{timing-limits}
use Rattle.plan_commands.proofs.RunSteps.{rows-end, shows-at, itself, samples-missing}
use Rattle.plan_commands.proofs.run_command.run_plan.Goals as goal

pub start-requires-clause-passes : goal.start-requires-clause-passes
start-requires-clause-passes g c =
    let d = design_view c.in_ok-chain.chain.design in
    (c.in_ok-chain.ensures.is_module d (itself d)).passes

pub start-requires-clause-timing : goal.start-requires-clause-timing
start-requires-clause-timing g c = subst IsTiming (sym c.timing_of-timing.ensures) (timing-limits c.in_ok-accepted.accepted.plan c.in_ok-accepted.ensures.accepted.passes)

pub start-requires-clause-takes : goal.start-requires-clause-takes
start-requires-clause-takes g c =
    let accepted = c.in_ok-accepted.accepted in
    let d = design_view c.in_ok-chain.chain.design in
    record { same = (shows-at accepted.plan accepted.facts c.timing_of-timing.result d c.in_ok-accepted.ensures.accepted.are_facts c.timing_of-timing.ensures (c.in_ok-chain.ensures.is_module d (itself d)).shows).takes }

pub returns-clause-cause : goal.returns-clause-cause
returns-clause-cause g c =
    let old = g.H.Host.state c.args.host.now in
    let read = g.H.Host.state c.read_accepted.new.host in
    let new = g.H.Host.state c.stream_rows.new.host in
    let accepted = c.in_ok-accepted.accepted in
    let is_built : are_built accepted.plan.elements ≡ true = search rules in
    ends_after (IsReadForRun c.args.plan.now c.args.samples.now) (IsOfPlan c.args.plan.now) (IsThisFile c.args.samples.now) None old read new c.in_ok-accepted.ensures.cause c.in_ok-stream_rows.ensures.cause
    (λ told missing. let reading = c.in_ok-accepted.ensures.told told in
    samples-missing c.args.plan.now c.args.samples.now read.files old.files (record { plan = accepted.plan; accepted = reading.answer; built = is_built }) reading.files missing)

pub returns-in_err-stream_rows-clause-cause : goal.returns-in_err-stream_rows-clause-cause
returns-in_err-stream_rows-clause-cause g c =
    let p = err_from_is_err_and c.from_residual-in_err-stream_rows.result c.from_residual-in_err-stream_rows.ensures.1 in
    let old = g.H.Host.state c.args.host.now in
    let read = g.H.Host.state c.read_accepted.new.host in
    let new = g.H.Host.state c.stream_rows.new.host in
    let accepted = c.in_ok-accepted.accepted in
    let is_built : are_built accepted.plan.elements ≡ true = search rules in
    let why = c.in_err-stream_rows.field-0.0 in
    rw (p.1, p.2)
    (ends_after (IsReadForRun c.args.plan.now c.args.samples.now) (IsOfPlan c.args.plan.now) (IsThisFile c.args.samples.now) (blamed_call (fault_of_rows why)) old read new c.in_ok-accepted.ensures.cause
    (ends_as (IsThisFile c.args.samples.now) (blamed_in_rows why) (blamed_call (fault_of_rows why)) read new (called_in_rows why) c.in_err-stream_rows.ensures.cause)
    (λ told missing. let reading = c.in_ok-accepted.ensures.told told in
    samples-missing c.args.plan.now c.args.samples.now read.files old.files (record { plan = accepted.plan; accepted = reading.answer; built = is_built }) reading.files missing))

pub returns-in_err-stream_rows-clause-plain : goal.returns-in_err-stream_rows-clause-plain
returns-in_err-stream_rows-clause-plain g c =
    let p = err_from_is_err_and c.from_residual-in_err-stream_rows.result c.from_residual-in_err-stream_rows.ensures.1 in
    rw (p.1, p.2) (plain_rows c.in_err-stream_rows.field-0.0)

pub returns-clause-told : goal.returns-clause-told
returns-clause-told g c = λ told.
    let old = g.H.Host.state c.args.host.now in
    let read = g.H.Host.state c.read_accepted.new.host in
    let new = g.H.Host.state c.stream_rows.new.host in
    let accepted = c.in_ok-accepted.accepted in
    let is_built : are_built accepted.plan.elements ≡ true = search rules in
    let reading = c.in_ok-accepted.ensures.told told in
    let told' = c.in_ok-accepted.ensures.cause.same_kind ∙ told in
    let built : IsBuiltFile c.args.plan.now old.files = record { plan = accepted.plan; accepted = reading.answer; built = is_built } in
    let d = design_view c.in_ok-chain.chain.design in
    let each = each_of c.args.plan.now accepted.plan accepted.plan old read new reading.ended (c.in_ok-stream_rows.ensures.cause.ends told') reading.answer.says in
    rows-end c.args.plan.now c.args.samples.now c.args.out.now old read new built c.timing_of-timing.result c.timing_of-timing.ensures
    (GivesFrom c.in_ok-stream.stream)
    (c.in_ok-stream.ensures accepted.plan.elements (shows-at accepted.plan accepted.facts c.timing_of-timing.result d c.in_ok-accepted.ensures.accepted.are_facts c.timing_of-timing.ensures (c.in_ok-chain.ensures.is_module d (itself d)).shows))
    reading.files (Ok tt) (c.in_ok-stream_rows.ensures.told told') each (c.in_ok-accepted.ensures.cause.ends told)

pub returns-in_err-stream_rows-clause-told : goal.returns-in_err-stream_rows-clause-told
returns-in_err-stream_rows-clause-told g c =
    let p = err_from_is_err_and c.from_residual-in_err-stream_rows.result c.from_residual-in_err-stream_rows.ensures.1 in
    rw (p.1, p.2)
    (λ told.
    let old = g.H.Host.state c.args.host.now in
    let read = g.H.Host.state c.read_accepted.new.host in
    let new = g.H.Host.state c.stream_rows.new.host in
    let accepted = c.in_ok-accepted.accepted in
    let is_built : are_built accepted.plan.elements ≡ true = search rules in
    let reading = c.in_ok-accepted.ensures.told told in
    let told' = c.in_ok-accepted.ensures.cause.same_kind ∙ told in
    let built : IsBuiltFile c.args.plan.now old.files = record { plan = accepted.plan; accepted = reading.answer; built = is_built } in
    let d = design_view c.in_ok-chain.chain.design in
    let each = each_of c.args.plan.now accepted.plan accepted.plan old read new reading.ended (c.in_err-stream_rows.ensures.cause.ends told') reading.answer.says in
    rows-end c.args.plan.now c.args.samples.now c.args.out.now old read new built c.timing_of-timing.result c.timing_of-timing.ensures
    (GivesFrom c.in_ok-stream.stream)
    (c.in_ok-stream.ensures accepted.plan.elements (shows-at accepted.plan accepted.facts c.timing_of-timing.result d c.in_ok-accepted.ensures.accepted.are_facts c.timing_of-timing.ensures (c.in_ok-chain.ensures.is_module d (itself d)).shows))
    reading.files (Err c.in_err-stream_rows.field-0.0) (c.in_err-stream_rows.ensures.told told') each (c.in_ok-accepted.ensures.cause.ends told))
