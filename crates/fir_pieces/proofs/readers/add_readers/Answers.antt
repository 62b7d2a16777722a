use Rattle.std.proofs.Common.{◌∙◌, ℕ, List, map, ap, subst}
use Rattle.stage_law.specs.declared.ranges.Class.{Class}
use Rattle.fir_pieces.specs.declared.held.Held.{Held}
use Rattle.fir_pieces.specs.Held.{AreHeld}
use Rattle.fir_pieces.specs.Listed.{class_reading_sum, every}
use Rattle.fir_pieces.specs.Readers.{AddsRegisters}
use Rattle.fir_pieces.proofs.ColumnLemmas.{held_width}
use Rattle.fir_pieces.proofs.ReadersLemmas.{AddsReaders-of}
use Rattle.fir_pieces.proofs.readers.add_readers.Goals as goal

pub add_registers-requires-clause-wide : goal.add_registers-requires-clause-wide
add_registers-requires-clause-wide g c =
    let widths_are = c.in_ok-widths.ensures ∙ ap (λ (held : List Held). map (λ (own : Held). own.width) held) c.as_slice.ensures.value in
    rw (c.as_slice-2.ensures.value, widths_are) (held_width c.in_ok-held.held.items)

pub returns-clause-ok : goal.returns-clause-ok
returns-clause-ok g c =
    let streams = g.R.Ranges.streams c.args.ranges.now in
    let readings = c.args.readings.now in
    let held = c.in_ok-held.held.items in
    let widths_are = c.in_ok-widths.ensures ∙ ap (λ (held : List Held). map (λ (own : Held). own.width) held) c.as_slice.ensures.value in
    let held_are = subst (λ (n : ℕ). AreHeld streams (map (class_reading_sum every n) readings) held) c.every_beat.ensures.lag (subst (λ (k : Class). AreHeld streams (map (class_reading_sum k c.every_beat.result.lag) readings) held) c.every_beat.ensures.class c.in_ok-held.ensures) in
    AddsReaders-of streams (g.met.R.Ranges.causal c.args.ranges.now) c.requires.within held_are widths_are
    (subst (λ (widths : List ℕ). AddsRegisters c.args.net.now c.add_registers.new.net c.args.window.now c.args.kind readings widths c.in_ok-nodes.nodes.items) c.as_slice-2.ensures.value c.in_ok-nodes.ensures.ok)
