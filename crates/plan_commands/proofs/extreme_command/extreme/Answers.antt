use Rattle.std.proofs.Common.{◌≡◌, ◌∙◌, ℕ, List, Option, Ok, Err, true, subst, rules}
use Rattle.std.specs.Prelude.{IfSome, IfNone, Vec}
use Rattle.std.specs.declared.alloc.Global.{Global}
use Rattle.mr_values.specs.Value.{size}
use Rattle.chain_build.specs.Built.{are_built}
use Rattle.chain_build.specs.Told.{HasNoRegister}
use Rattle.register_extremes.specs.Text.{IsExtremeText}
use Rattle.plan_commands.specs.Compile.{IsBuiltFile}
use Rattle.plan_commands.specs.Extreme.{IsExtremeFile}
use Rattle.command_files.specs.WholeFiles.{WriteAnswer}
use Rattle.std.proofs.lemmas.Result.{err_from_is_err_and}
use Rattle.command_files.proofs.EndedPlan.{read_on}
use Rattle.plan_commands.proofs.ExtremeSteps.{extreme-written}
use Rattle.plan_commands.proofs.extreme_command.extreme.Goals as goal

pub returns-in-Some-clause-told : goal.returns-in-Some-clause-told
returns-in-Some-clause-told g c = λ told.
    let old = g.H.Host.state c.args.host.now in
    let read = g.H.Host.state c.read_accepted.new.host in
    let new = g.H.Host.state c.write_file.new.host in
    let plan = c.in_ok-accepted.accepted.plan in
    let register = c.args.register.now in
    let text : List ℕ = c.in-Some.text.items in
    let reading = c.in_ok-accepted.ensures.told told in
    let told' = c.in_ok-accepted.ensures.cause.same_kind ∙ told in
    let written = c.in_ok-write_file-in-Some.ensures.told told' in
    let is_read = read_on c.args.plan.now plan old read new reading.ended written.input written.place (c.in_ok-write_file-in-Some.ensures.cause.ends told') in
    let is_built : are_built plan.elements ≡ true = search rules in
    let built : IsBuiltFile c.args.plan.now old.files = record { plan = plan; accepted = reading.answer; built = is_built } in
    let extreme = subst (λ (found : Option (Vec ℕ Global)). IfSome found (λ bytes. IsExtremeText (size plan.width) (size plan.ticks) plan.elements register bytes.items)) c.in-Some.is c.in_ok-text.ensures.some in
    let output : IsExtremeFile c.args.plan.now register old.files text = record { built = built; extreme = extreme } in
    extreme-written c.args.plan.now register c.args.out.now text (Ok tt) plan old read new output is_read reading.files
    (subst (λ (bytes : List ℕ). WriteAnswer c.args.out.now bytes (Ok tt) read.files new.files) c.deref.ensures.value written.answer)

pub returns-in_err-write_file-in-Some-clause-told : goal.returns-in_err-write_file-in-Some-clause-told
returns-in_err-write_file-in-Some-clause-told g c =
    let p = err_from_is_err_and c.from_residual-in_err-write_file-in-Some.result c.from_residual-in_err-write_file-in-Some.ensures.1 in
    rw (p.1, p.2)
    (λ told.
    let old = g.H.Host.state c.args.host.now in
    let read = g.H.Host.state c.read_accepted.new.host in
    let new = g.H.Host.state c.write_file.new.host in
    let plan = c.in_ok-accepted.accepted.plan in
    let register = c.args.register.now in
    let text : List ℕ = c.in-Some.text.items in
    let reading = c.in_ok-accepted.ensures.told told in
    let told' = c.in_ok-accepted.ensures.cause.same_kind ∙ told in
    let written = c.in_err-write_file-in-Some.ensures.told told' in
    let is_read = read_on c.args.plan.now plan old read new reading.ended written.input written.place (c.in_err-write_file-in-Some.ensures.cause.ends told') in
    let is_built : are_built plan.elements ≡ true = search rules in
    let built : IsBuiltFile c.args.plan.now old.files = record { plan = plan; accepted = reading.answer; built = is_built } in
    let extreme = subst (λ (found : Option (Vec ℕ Global)). IfSome found (λ bytes. IsExtremeText (size plan.width) (size plan.ticks) plan.elements register bytes.items)) c.in-Some.is c.in_ok-text.ensures.some in
    let output : IsExtremeFile c.args.plan.now register old.files text = record { built = built; extreme = extreme } in
    extreme-written c.args.plan.now register c.args.out.now text (Err c.in_err-write_file-in-Some.field-0.0) plan old read new output is_read reading.files
    (subst (λ (bytes : List ℕ). WriteAnswer c.args.out.now bytes (Err c.in_err-write_file-in-Some.field-0.0) read.files new.files) c.deref.ensures.value written.answer))

pub returns-clause-told : goal.returns-clause-told
returns-clause-told g c = λ told.
    let old = g.H.Host.state c.args.host.now in
    let plan = c.in_ok-accepted.accepted.plan in
    let reading = c.in_ok-accepted.ensures.told told in
    let is_built : are_built plan.elements ≡ true = search rules in
    let built : IsBuiltFile c.args.plan.now old.files = record { plan = plan; accepted = reading.answer; built = is_built } in
    let none = subst (λ (found : Option (Vec ℕ Global)). IfNone found (HasNoRegister (size plan.width) (size plan.ticks) plan.elements c.args.register.now)) c.in-None.is c.in_ok-text.ensures.none in
    (c.in_ok-name-in-None.ensures, record { built = built; none = none }, reading.files)
