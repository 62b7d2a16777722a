use Rattle.std.proofs.Common.{List, ℕ, Ok, ◌∙◌, subst}
use Rattle.plan_reader.specs.Documents.{Says}
use Rattle.command_files.proofs.PlanSteps.{plan_read}
use Rattle.command_files.proofs.accept.read_accepted.Goals as goal

pub returns-clause-told : goal.returns-clause-told
returns-clause-told g c = λ told.
    let old = g.H.Host.state c.args.host.now in
    let one = g.H.Host.state c.read_file.new.host in
    let two = g.H.Host.state c.read_tap_files.new.host in
    let text = c.in_ok-text.text in
    let told' = c.in_ok-bytes.ensures.cause.same_kind ∙ told in
    plan_read c.args.name.now c.in_ok-bytes.bytes text c.in_ok-plan.plan old one two (c.in_ok-bytes.ensures.told told)
    (subst (λ (bytes : List ℕ). Says bytes (Ok text)) c.deref.ensures.value c.in_ok-text.ensures.answer) (c.in_ok-plan.ensures.told told') (c.in_ok-bytes.ensures.cause.ends told) (c.in_ok-plan.ensures.cause.ends told')
    c.accept.result c.accept.ensures.answer
