use Rattle.std.proofs.Common.{◌≡◌, ◌∙◌, None, Ok, Err, subst, refl, true, rules}
use Rattle.std.proofs.lemmas.Result.{err_from_is_err_and}
use Rattle.chain_build.specs.Built.{are_built}
use Rattle.command_files.specs.WholeFiles.{WriteAnswer}
use Rattle.command_files.proofs.EndsKept.{kept_after}
use Rattle.command_files.proofs.EndedPlan.{read_on}
use Rattle.command_files.specs.Ends.{IsNoFile, blamed_call, blamed_in_writing}
use Rattle.command_files.specs.Conversions.{fault_of_writing}
use Rattle.command_files.specs.PlanFile.{IsOfPlan}
use Rattle.command_files.proofs.EndSteps.{ends_after, ends_as, called_in_writing}
use Rattle.plan_commands.proofs.CompileSteps.{outputs_of, first_write, last_write}
use Rattle.plan_commands.proofs.compile_command.compile.Goals as goal

pub returns-clause-told : goal.returns-clause-told
returns-clause-told g c = λ told.
    let old = g.H.Host.state c.args.host.now in
    let read = g.H.Host.state c.read_accepted.new.host in
    let middle = g.H.Host.state c.write_file.new.host in
    let new = g.H.Host.state c.write_file-2.new.host in
    let reading = c.in_ok-accepted.ensures.told told in
    let told' = c.in_ok-accepted.ensures.cause.same_kind ∙ told in
    let told'' = c.in_ok-write_file.ensures.cause.same_kind ∙ told' in
    let written = c.in_ok-write_file.ensures.told told' in
    let last = c.in_ok-write_file-2.ensures.told told'' in
    let kept = kept_after read.ends middle.ends new.ends (c.in_ok-write_file.ensures.cause.ends told') (c.in_ok-write_file-2.ensures.cause.ends told'') in
    let is_read = read_on c.args.plan.now c.in_ok-accepted.accepted.plan old read new reading.ended (last.input ∙ written.input) (last.place ∙ written.place) kept in
    let text = c.in_ok-bytes.bytes.items in
    let lines = c.in_ok-lines.lines.items in
    let built : are_built c.in_ok-accepted.accepted.plan.elements ≡ true = search rules in
    let outputs = outputs_of c.args.plan.now old.files text lines c.in_ok-accepted.accepted reading.answer c.in_ok-accepted.ensures.accepted built c.in_ok-module.module c.in_ok-module.ensures c.in_ok-bytes.ensures (record { told = c.in_ok-lines.ensures }) in
    last_write c.args.plan.now c.args.text.now c.args.report.now text lines (Ok tt) c.in_ok-accepted.accepted.plan old middle new outputs is_read
    (written.answer ∙ rw (reading.files, c.deref.ensures.value) refl)
    (subst (λ bytes. WriteAnswer c.args.report.now bytes (Ok tt) middle.files new.files) c.deref-2.ensures.value last.answer)

pub returns-in_err-write_file-2-clause-told : goal.returns-in_err-write_file-2-clause-told
returns-in_err-write_file-2-clause-told g c =
    let p = err_from_is_err_and c.from_residual-in_err-write_file-2.result c.from_residual-in_err-write_file-2.ensures.1 in
    rw (p.1, p.2)
    (λ told.
    let old = g.H.Host.state c.args.host.now in
    let read = g.H.Host.state c.read_accepted.new.host in
    let middle = g.H.Host.state c.write_file.new.host in
    let new = g.H.Host.state c.write_file-2.new.host in
    let reading = c.in_ok-accepted.ensures.told told in
    let told' = c.in_ok-accepted.ensures.cause.same_kind ∙ told in
    let told'' = c.in_ok-write_file.ensures.cause.same_kind ∙ told' in
    let written = c.in_ok-write_file.ensures.told told' in
    let last = c.in_err-write_file-2.ensures.told told'' in
    let kept = kept_after read.ends middle.ends new.ends (c.in_ok-write_file.ensures.cause.ends told') (c.in_err-write_file-2.ensures.cause.ends told'') in
    let is_read = read_on c.args.plan.now c.in_ok-accepted.accepted.plan old read new reading.ended (last.input ∙ written.input) (last.place ∙ written.place) kept in
    let text = c.in_ok-bytes.bytes.items in
    let lines = c.in_ok-lines.lines.items in
    let built : are_built c.in_ok-accepted.accepted.plan.elements ≡ true = search rules in
    let outputs = outputs_of c.args.plan.now old.files text lines c.in_ok-accepted.accepted reading.answer c.in_ok-accepted.ensures.accepted built c.in_ok-module.module c.in_ok-module.ensures c.in_ok-bytes.ensures (record { told = c.in_ok-lines.ensures }) in
    last_write c.args.plan.now c.args.text.now c.args.report.now text lines (Err c.in_err-write_file-2.field-0.0) c.in_ok-accepted.accepted.plan old middle new outputs is_read
    (written.answer ∙ rw (reading.files, c.deref.ensures.value) refl)
    (subst (λ bytes. WriteAnswer c.args.report.now bytes (Err c.in_err-write_file-2.field-0.0) middle.files new.files) c.deref-2.ensures.value last.answer))

pub returns-in_err-write_file-clause-told : goal.returns-in_err-write_file-clause-told
returns-in_err-write_file-clause-told g c =
    let p = err_from_is_err_and c.from_residual-in_err-write_file.result c.from_residual-in_err-write_file.ensures.1 in
    rw (p.1, p.2)
    (λ told.
    let old = g.H.Host.state c.args.host.now in
    let read = g.H.Host.state c.read_accepted.new.host in
    let new = g.H.Host.state c.write_file.new.host in
    let reading = c.in_ok-accepted.ensures.told told in
    let told' = c.in_ok-accepted.ensures.cause.same_kind ∙ told in
    let text = c.in_ok-bytes.bytes.items in
    let lines = c.in_ok-lines.lines.items in
    let built : are_built c.in_ok-accepted.accepted.plan.elements ≡ true = search rules in
    let outputs = outputs_of c.args.plan.now old.files text lines c.in_ok-accepted.accepted reading.answer c.in_ok-accepted.ensures.accepted built c.in_ok-module.module c.in_ok-module.ensures c.in_ok-bytes.ensures (record { told = c.in_ok-lines.ensures }) in
    first_write c.args.plan.now c.args.text.now c.args.report.now text lines c.in_err-write_file.field-0.0 old read new outputs
    reading.files
    (subst (λ bytes. WriteAnswer c.args.text.now bytes (Err c.in_err-write_file.field-0.0) read.files new.files) c.deref.ensures.value (c.in_err-write_file.ensures.told told').answer))

pub returns-in_err-write_file-clause-cause : goal.returns-in_err-write_file-clause-cause
returns-in_err-write_file-clause-cause g c =
    let p = err_from_is_err_and c.from_residual-in_err-write_file.result c.from_residual-in_err-write_file.ensures.1 in
    let old = g.H.Host.state c.args.host.now in
    let read = g.H.Host.state c.read_accepted.new.host in
    let new = g.H.Host.state c.write_file.new.host in
    let plan = c.args.plan.now in
    let why = c.in_err-write_file.field-0.0 in
    rw (p.1, p.2)
    (ends_after (IsOfPlan plan) (IsOfPlan plan) IsNoFile (blamed_call (fault_of_writing why)) old read new c.in_ok-accepted.ensures.cause
    (ends_as IsNoFile (blamed_in_writing why) (blamed_call (fault_of_writing why)) read new (called_in_writing why) c.in_err-write_file.ensures.cause)
    (λ told missing. absurd missing.1))

pub returns-in_err-write_file-2-clause-cause : goal.returns-in_err-write_file-2-clause-cause
returns-in_err-write_file-2-clause-cause g c =
    let p = err_from_is_err_and c.from_residual-in_err-write_file-2.result c.from_residual-in_err-write_file-2.ensures.1 in
    let old = g.H.Host.state c.args.host.now in
    let read = g.H.Host.state c.read_accepted.new.host in
    let middle = g.H.Host.state c.write_file.new.host in
    let new = g.H.Host.state c.write_file-2.new.host in
    let plan = c.args.plan.now in
    let why = c.in_err-write_file-2.field-0.0 in
    rw (p.1, p.2)
    (ends_after (IsOfPlan plan) (IsOfPlan plan) IsNoFile (blamed_call (fault_of_writing why)) old middle new
    (ends_after (IsOfPlan plan) (IsOfPlan plan) IsNoFile None old read middle c.in_ok-accepted.ensures.cause c.in_ok-write_file.ensures.cause (λ told missing. absurd missing.1))
    (ends_as IsNoFile (blamed_in_writing why) (blamed_call (fault_of_writing why)) middle new (called_in_writing why) c.in_err-write_file-2.ensures.cause)
    (λ told missing. absurd missing.1))
