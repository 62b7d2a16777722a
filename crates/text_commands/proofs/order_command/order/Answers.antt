use Rattle.std.proofs.Common.{◌∙◌, List, ℕ, Ok, Err, None, inr, refl, sym, ap}
use Rattle.std.specs.FinMap.{get}
use Rattle.mr_values.specs.Files.{Files}
use Rattle.std.proofs.lemmas.Result.{err_from_is_err_and}
use Rattle.verilog_tree.specs.View.{design_view}
use Rattle.command_files.specs.Ends.{IsThisFile, blamed_call, blamed_in_rows}
use Rattle.command_files.specs.Conversions.{fault_of_rows}
use Rattle.command_files.proofs.EndsKept.{ended_before, ended_after}
use Rattle.command_files.proofs.PlainFaults.{plain_rows}
use Rattle.text_commands.specs.Sim.{IsTextOrStimulus}
use Rattle.command_files.proofs.EndSteps.{ends_after, ends_as, called_in_rows}
use Rattle.text_commands.proofs.OrderSteps.{order_ends, order_unread}
use Rattle.text_commands.proofs.order_command.order.Goals as goal

pub returns-in_err-design-clause-told : goal.returns-in_err-design-clause-told
returns-in_err-design-clause-told g c =
    let p = err_from_is_err_and c.from_residual.result c.from_residual.ensures.1 in
    rw (p.1, p.2)
    (λ told.
    let read = c.in_err-design.ensures.told told in
    order_unread c.args.text.now c.args.stimulus.now c.args.out.now c.args.number c.in_err-design.field-0.0 (g.H.Host.state c.args.host.now) (g.H.Host.state c.read_design.new.host) read.answer read.files)

pub returns-clause-told : goal.returns-clause-told
returns-clause-told g c = λ told.
    let text = c.args.text.now in
    let stimulus = c.args.stimulus.now in
    let old = g.H.Host.state c.args.host.now in
    let middle = g.H.Host.state c.read_design.new.host in
    let new = g.H.Host.state c.stream_rows.new.host in
    let reading = c.in_ok-design.ensures.told told in
    let told' = c.in_ok-design.ensures.cause.same_kind ∙ told in
    let every = c.law_of_every_order.ensures in
    let kept = c.in_ok-stream_rows.ensures.cause.ends told' in
    let text_ended = ended_before text old middle new reading.ended kept in
    let later = ended_after stimulus old middle new (c.in_ok-design.ensures.cause.ends told) in
    order_ends text stimulus c.args.out.now c.args.number old.files c.in_ok-design.design c.in_ok-stream.stream reading.answer c.in_ok-stream.ensures every (Ok tt) old middle new refl reading.files text_ended (c.in_ok-stream_rows.ensures.told told') later

pub returns-in_err-stream_rows-clause-told : goal.returns-in_err-stream_rows-clause-told
returns-in_err-stream_rows-clause-told g c =
    let p = err_from_is_err_and c.from_residual-in_err-stream_rows.result c.from_residual-in_err-stream_rows.ensures.1 in
    rw (p.1, p.2)
    (λ told.
    let text = c.args.text.now in
    let stimulus = c.args.stimulus.now in
    let old = g.H.Host.state c.args.host.now in
    let middle = g.H.Host.state c.read_design.new.host in
    let new = g.H.Host.state c.stream_rows.new.host in
    let reading = c.in_ok-design.ensures.told told in
    let told' = c.in_ok-design.ensures.cause.same_kind ∙ told in
    let every = c.law_of_every_order.ensures in
    let kept = c.in_err-stream_rows.ensures.cause.ends told' in
    let text_ended = ended_before text old middle new reading.ended kept in
    let later = ended_after stimulus old middle new (c.in_ok-design.ensures.cause.ends told) in
    order_ends text stimulus c.args.out.now c.args.number old.files c.in_ok-design.design c.in_ok-stream.stream reading.answer c.in_ok-stream.ensures every (Err c.in_err-stream_rows.field-0.0) old middle new refl reading.files text_ended (c.in_err-stream_rows.ensures.told told') later)

pub returns-clause-cause : goal.returns-clause-cause
returns-clause-cause g c =
    let text = c.args.text.now in
    let stimulus = c.args.stimulus.now in
    let old = g.H.Host.state c.args.host.now in
    let middle = g.H.Host.state c.read_design.new.host in
    let new = g.H.Host.state c.stream_rows.new.host in
    ends_after (IsTextOrStimulus text stimulus) (IsThisFile text) (IsThisFile stimulus) None old middle new c.in_ok-design.ensures.cause c.in_ok-stream_rows.ensures.cause
    (λ told (name, is, none). let read = c.in_ok-design.ensures.told told in (name, inr ((design_view c.in_ok-design.design, read.answer), is), sym (ap (λ (files : Files). get files name) read.files) ∙ none))

pub returns-in_err-stream_rows-clause-cause : goal.returns-in_err-stream_rows-clause-cause
returns-in_err-stream_rows-clause-cause g c =
    let p = err_from_is_err_and c.from_residual-in_err-stream_rows.result c.from_residual-in_err-stream_rows.ensures.1 in
    let text = c.args.text.now in
    let stimulus = c.args.stimulus.now in
    let old = g.H.Host.state c.args.host.now in
    let middle = g.H.Host.state c.read_design.new.host in
    let new = g.H.Host.state c.stream_rows.new.host in
    let why = c.in_err-stream_rows.field-0.0 in
    rw (p.1, p.2)
    (ends_after (IsTextOrStimulus text stimulus) (IsThisFile text) (IsThisFile stimulus) (blamed_call (fault_of_rows why)) old middle new c.in_ok-design.ensures.cause
    (ends_as (IsThisFile stimulus) (blamed_in_rows why) (blamed_call (fault_of_rows why)) middle new (called_in_rows why) c.in_err-stream_rows.ensures.cause)
    (λ told (name, is, none). let read = c.in_ok-design.ensures.told told in (name, inr ((design_view c.in_ok-design.design, read.answer), is), sym (ap (λ (files : Files). get files name) read.files) ∙ none)))

pub returns-in_err-stream_rows-clause-plain : goal.returns-in_err-stream_rows-clause-plain
returns-in_err-stream_rows-clause-plain g c =
    let p = err_from_is_err_and c.from_residual-in_err-stream_rows.result c.from_residual-in_err-stream_rows.ensures.1 in
    rw (p.1, p.2) (plain_rows c.in_err-stream_rows.field-0.0)
