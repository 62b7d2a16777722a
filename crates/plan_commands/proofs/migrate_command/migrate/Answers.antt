use Rattle.std.proofs.Common.{◌∙◌, ℕ, List, Ok, Err, subst}
use Rattle.std.proofs.lemmas.Result.{err_from_is_err_and}
use Rattle.plan_commands.specs.Migrate.{IsSecondOf}
use Rattle.command_files.specs.WholeFiles.{WriteAnswer}
use Rattle.command_files.proofs.EndedPlan.{read_on}
use Rattle.plan_commands.proofs.MigrateSteps.{second_written}
use Rattle.plan_commands.proofs.migrate_command.migrate.Goals as goal

pub returns-clause-told : goal.returns-clause-told
returns-clause-told g c = λ told.
    let old = g.H.Host.state c.args.host.now in
    let read = g.H.Host.state c.read_accepted.new.host in
    let new = g.H.Host.state c.write_file.new.host in
    let reading = c.in_ok-accepted.ensures.told told in
    let told' = c.in_ok-accepted.ensures.cause.same_kind ∙ told in
    let written = c.in_ok-write_file.ensures.told told' in
    let is_read = read_on c.args.plan.now c.in_ok-accepted.accepted.plan old read new reading.ended written.input written.place (c.in_ok-write_file.ensures.cause.ends told') in
    let text = c.in_ok-text.text.items in
    let output : IsSecondOf c.args.plan.now old.files text = record { meaning = c.in_ok-accepted.accepted.plan; accepted = reading.versioned.file; second = c.in_ok-text.ensures } in
    second_written c.args.plan.now c.args.out.now text (Ok tt) c.in_ok-accepted.accepted.plan old read new output is_read reading.files
    (subst (λ (bytes : List ℕ). WriteAnswer c.args.out.now bytes (Ok tt) read.files new.files) c.deref.ensures.value written.answer)

pub returns-in_err-write_file-clause-told : goal.returns-in_err-write_file-clause-told
returns-in_err-write_file-clause-told g c =
    let p = err_from_is_err_and c.from_residual-in_err-write_file.result c.from_residual-in_err-write_file.ensures.1 in
    rw (p.1, p.2)
    (λ told.
    let old = g.H.Host.state c.args.host.now in
    let read = g.H.Host.state c.read_accepted.new.host in
    let new = g.H.Host.state c.write_file.new.host in
    let reading = c.in_ok-accepted.ensures.told told in
    let told' = c.in_ok-accepted.ensures.cause.same_kind ∙ told in
    let written = c.in_err-write_file.ensures.told told' in
    let is_read = read_on c.args.plan.now c.in_ok-accepted.accepted.plan old read new reading.ended written.input written.place (c.in_err-write_file.ensures.cause.ends told') in
    let text = c.in_ok-text.text.items in
    let output : IsSecondOf c.args.plan.now old.files text = record { meaning = c.in_ok-accepted.accepted.plan; accepted = reading.versioned.file; second = c.in_ok-text.ensures } in
    second_written c.args.plan.now c.args.out.now text (Err c.in_err-write_file.field-0.0) c.in_ok-accepted.accepted.plan old read new output is_read reading.files
    (subst (λ (bytes : List ℕ). WriteAnswer c.args.out.now bytes (Err c.in_err-write_file.field-0.0) read.files new.files) c.deref.ensures.value written.answer))
