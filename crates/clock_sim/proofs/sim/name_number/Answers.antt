use Rattle.std.proofs.Common.{◌∙◌, ◌<◌, ℕ, List, length, sym, ap, subst, arith}
use Rattle.std.specs.Prelude.{bytes_eq}
use Rattle.verilog_tree.specs.View.{design_view}
use Rattle.clock_sim.proofs.PortPlaces.{first_here, first_none, name_read}
use Rattle.clock_sim.proofs.sim.name_number.Goals as goal

pub returns-then-eq : goal.returns-then-eq
returns-then-eq c =
    let inside = subst (λ (ns : List (List ℕ)). c.loop-place.place < length ns) c.as_slice-names.ensures.value c.loop-place-test.true in
    let read = name_read c.as_slice-names.result.now c.args.design.now.names.items c.loop-place.place c.index-names-place.result c.as_slice-names.ensures.value c.loop-place-test.true c.index-names-place.is in
    first_here (design_view c.args.design.now) c.args.text.now c.loop-place.place c.loop-place.invariant inside
    (ap (bytes_eq c.args.text.now) (sym (c.as_str.ensures ∙ read)) ∙ sym c.eq.ensures ∙ c.if-eq.true)

pub returns : goal.returns
returns c =
    ap length c.as_slice-names.ensures.value
    ∙ first_none (design_view c.args.design.now) c.args.text.now c.loop-place.place c.loop-place.invariant
    (omega (arith, ap length c.as_slice-names.ensures.value, c.loop-place-test.false, c.loop-place.auto.place-end))
