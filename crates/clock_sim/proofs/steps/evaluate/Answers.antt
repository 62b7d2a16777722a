use Rattle.std.proofs.Common.{get_or, rules}
use Rattle.verilog_tree.specs.Names.{shapes_of}
use Rattle.verilog_tree.specs.View.{design_view}
use Rattle.clock_sim.specs.declared.step.Compiled.{Compiled}
use Rattle.clock_sim.specs.declared.step.Step.TheVariants.{Constant}
use Rattle.clock_sim.proofs.Evaluated.{same_count, at_place, target_inside, target_near, target_width, evaluated, evaluated_names}
use Rattle.clock_sim.proofs.steps.evaluate.Goals as goal

abbrev blank : Compiled
blank = record { target = 0; step = Constant 0 }

pub value_by-bits-requires-clause-width : goal.value_by-bits-requires-clause-width
value_by-bits-requires-clause-width c =
    let a = c.index-as_slice-place.result in
    let here = at_place c.args.design.now c.args.values.now c.args.place a blank c.as_slice.result.now c.args.steps.now c.requires.fits c.requires.compiled c.requires.place c.as_slice.ensures.value c.index-as_slice-place.is in
    target_width c.args.design.now c.args.values.now c.args.place a (get_or c.args.steps.now c.args.place blank) here

pub value_by-bits-requires-clause-fits : goal.value_by-bits-requires-clause-fits
value_by-bits-requires-clause-fits c =
    let a = c.index-as_slice-place.result in
    let here = at_place c.args.design.now c.args.values.now c.args.place a blank c.as_slice.result.now c.args.steps.now c.requires.fits c.requires.compiled c.requires.place c.as_slice.ensures.value c.index-as_slice-place.is in
    here.fit.value

pub value_by-bits-requires-clause-near : goal.value_by-bits-requires-clause-near
value_by-bits-requires-clause-near c =
    let a = c.index-as_slice-place.result in
    let here = at_place c.args.design.now c.args.values.now c.args.place a blank c.as_slice.result.now c.args.steps.now c.requires.fits c.requires.compiled c.requires.place c.as_slice.ensures.value c.index-as_slice-place.is in
    target_near c.args.design.now c.args.values.now c.args.place a (get_or c.args.steps.now c.args.place blank) here

pub write-requires : goal.write-requires
write-requires c =
    let a = c.index-as_slice-place.result in
    let here = at_place c.args.design.now c.args.values.now c.args.place a blank c.as_slice.result.now c.args.steps.now c.requires.fits c.requires.compiled c.requires.place c.as_slice.ensures.value c.index-as_slice-place.is in
    target_inside c.args.design.now c.args.values.now c.args.place a (get_or c.args.steps.now c.args.place blank) here

pub returns-clause-value : goal.returns-clause-value
returns-clause-value c =
    let a = c.index-as_slice-place.result in
    let here = at_place c.args.design.now c.args.values.now c.args.place a blank c.as_slice.result.now c.args.steps.now c.requires.fits c.requires.compiled c.requires.place c.as_slice.ensures.value c.index-as_slice-place.is in
    (evaluated c.args.design.now c.args.values.now c.args.place a (get_or c.args.steps.now c.args.place blank) here c.requires.names c.value_by-bits.result c.write.new.values c.value_by-bits.ensures c.write.ensures).value

pub returns-clause-names : goal.returns-clause-names
returns-clause-names c =
    let a = c.index-as_slice-place.result in
    let here = at_place c.args.design.now c.args.values.now c.args.place a blank c.as_slice.result.now c.args.steps.now c.requires.fits c.requires.compiled c.requires.place c.as_slice.ensures.value c.index-as_slice-place.is in
    evaluated_names c.args.design.now c.args.values.now c.args.place a (get_or c.args.steps.now c.args.place blank) here c.requires.names c.value_by-bits.result c.write.new.values c.value_by-bits.ensures c.write.ensures

pub bounds-steps-place : goal.bounds-steps-place
bounds-steps-place c = same_count (shapes_of (design_view c.args.design.now)) c.args.design.now.assigns.items c.args.steps.now c.args.place c.requires.compiled c.requires.place

pub offset_bounds-steps-place : goal.offset_bounds-steps-place
offset_bounds-steps-place c =
    let inside = same_count (shapes_of (design_view c.args.design.now)) c.args.design.now.assigns.items c.args.steps.now c.args.place c.requires.compiled c.requires.place in
    search rules
