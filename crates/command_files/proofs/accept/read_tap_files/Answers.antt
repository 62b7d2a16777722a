use Rattle.std.proofs.Common.{◌∙◌, ◌<◌, List, length, subst}
use Rattle.std.proofs.lemmas.Result.{err_from_is_err_and}
use Rattle.plan_reader.specs.declared.plan_texts.TapFile.{TapFile}
use Rattle.command_files.proofs.ReadSteps.{file-at, taps-next, taps-stop-ends, taps-stop}
use Rattle.command_files.proofs.accept.read_tap_files.Goals as goal

pub returns-in_err-taps-clause-cause : goal.returns-in_err-taps-clause-cause
returns-in_err-taps-clause-cause g c =
    let tap_file = c.index-as_slice-index.result in
    let within : c.loop-index.index < length c.args.text.files = subst (λ (named : List TapFile). c.loop-index.index < length named) c.as_slice-index-end.ensures c.loop-index-test.true in
    let at = file-at c.args.text.files c.as_slice.result.now c.loop-index.index tap_file c.index-as_slice-index.is (c.as_slice.ensures ∙ c.loop-index.invariant.named) in
    let p = err_from_is_err_and c.from_residual.result c.from_residual.ensures.1 in
    rw (p.1, p.2) (taps-stop-ends c.args.text c.loop-index.text c.loop-index.index tap_file c.in_err-taps.field-0.0 (g.H.Host.state c.args.host.now) (g.H.Host.state c.loop-index.host) (g.H.Host.state c.read_tap_file.new.host)
    c.loop-index.invariant within at c.in_err-taps.ensures.cause)

pub returns-in_err-taps-clause-told : goal.returns-in_err-taps-clause-told
returns-in_err-taps-clause-told g c =
    let tap_file = c.index-as_slice-index.result in
    let within : c.loop-index.index < length c.args.text.files = subst (λ (named : List TapFile). c.loop-index.index < length named) c.as_slice-index-end.ensures c.loop-index-test.true in
    let at = file-at c.args.text.files c.as_slice.result.now c.loop-index.index tap_file c.index-as_slice-index.is (c.as_slice.ensures ∙ c.loop-index.invariant.named) in
    let p = err_from_is_err_and c.from_residual.result c.from_residual.ensures.1 in
    rw (p.1, p.2) (taps-stop c.args.text c.loop-index.text c.loop-index.index tap_file c.in_err-taps.field-0.0 (g.H.Host.state c.args.host.now) (g.H.Host.state c.loop-index.host) (g.H.Host.state c.read_tap_file.new.host)
    c.loop-index.invariant within at c.in_err-taps.ensures.told)

pub loop-index-preserved : goal.loop-index-preserved
loop-index-preserved g c =
    let tap_file = c.index-as_slice-index.result in
    let within : c.loop-index.index < length c.args.text.files = subst (λ (named : List TapFile). c.loop-index.index < length named) c.as_slice-index-end.ensures c.loop-index-test.true in
    let at = file-at c.args.text.files c.as_slice.result.now c.loop-index.index tap_file c.index-as_slice-index.is (c.as_slice.ensures ∙ c.loop-index.invariant.named) in
    taps-next c.args.text c.loop-index.text c.set_taps.new.self c.loop-index.index tap_file c.in_ok-taps.taps (g.H.Host.state c.args.host.now) (g.H.Host.state c.loop-index.host) (g.H.Host.state c.read_tap_file.new.host)
    c.loop-index.invariant within at c.in_ok-taps.ensures.cause c.in_ok-taps.ensures.told c.set_taps.ensures.plan c.set_taps.ensures.files
