use Rattle.std.proofs.Common.{◌≡◌, ◌+◌, ◌<◌, length, arith, suc, subst, ℕ, get_or}
use Rattle.std.proofs.lemmas.Option.{slice_get-get_or}
use Rattle.pipeline_balance.specs.Phase.{IsSelectionOrZero}
use Rattle.pipeline_balance.proofs.SelectLemmas.{IsSelectionOrZero-none, IsSelectionOrZero-more}
use Rattle.pipeline_balance.proofs.selections.select_or_zero.Goals as goal

pub loop-phase-init : goal.loop-phase-init
loop-phase-init c = IsSelectionOrZero-none c.args.bits.now c.args.nodes.now c.requires.data_group c.requires.wide.0 c.in_ok-selected.ensures.ok

pub mux-requires-clause-has_on : goal.mux-requires-clause-has_on
mux-requires-clause-has_on c =
    let here = slice_get-get_or c.args.bits.now c.loop-phase.phase (record { place = 0 }) (omega (arith, c.loop-phase-test.true, c.requires.as_many)) in
    let within = c.requires.has_bits _ _ here in let longer = c.loop-phase.invariant.selection.grows.extends.longer in omega arith

pub mux-requires-clause-has_yes : goal.mux-requires-clause-has_yes
mux-requires-clause-has_yes c =
    let here = slice_get-get_or c.args.nodes.now c.loop-phase.phase (record { place = 0 }) (omega (arith, c.loop-phase-test.true)) in
    let within : (get_or c.args.nodes.now c.loop-phase.phase (record { place = 0 })).place < length c.args.net.now.cells = (c.requires.narrow _ _ here).within in let longer = c.loop-phase.invariant.selection.grows.extends.longer in omega arith

pub mux-requires-clause-has_no : goal.mux-requires-clause-has_no
mux-requires-clause-has_no c = c.loop-phase.invariant.selection.narrow.within

-- one node more
pub loop-phase-preserved : goal.loop-phase-preserved
loop-phase-preserved c =
    let bit = slice_get-get_or c.args.bits.now c.loop-phase.phase (record { place = 0 }) (omega (arith, c.loop-phase-test.true, c.requires.as_many)) in
    let node = slice_get-get_or c.args.nodes.now c.loop-phase.phase (record { place = 0 }) (omega (arith, c.loop-phase-test.true)) in
    let next : suc c.loop-phase.phase ≡ c.loop-phase.phase + 1 = omega arith in
    subst (λ (n : ℕ). IsSelectionOrZero c.args.net.now c.mux.new.self c.args.bits.now c.args.nodes.now n c.args.width c.in_ok-selected-2.selected) next
    (IsSelectionOrZero-more _ _ c.requires.wide.0 c.requires.data_group c.loop-phase.invariant bit node (c.requires.narrow _ _ node) c.in_ok-selected-2.ensures.ok)
