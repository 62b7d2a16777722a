-- Tables between the two parts of a comb-integrator.
use Rattle.std.proofs.Common.{ℕ, ◌<◌, pos, arith, sym, ◌∙◌, ap, subst}
use Rattle.std.proofs.lemmas.Int.{ints}
use Rattle.mr_values.specs.Sequence.{up, ones, filter_times}
use Rattle.impulse_phase.specs.declared.table.Response.{Response as Table}
use Rattle.impulse_phase.specs.Gain.{HasGain}
use Rattle.impulse_phase.specs.Response.{Responses, through_up, through_filters, Cycle, cycle_up}
use Rattle.impulse_phase.specs.Reading.{cycle_of, responses_of, IsTable, IsAhead, Passes}
use Rattle.impulse_phase.proofs.Gain.{up-gain}
use Rattle.impulse_phase.proofs.Places.{filters-newest}
use Rattle.impulse_phase.proofs.Steps.{up-keeps, filters-keep}
use Rattle.impulse_phase.proofs.Tables.{table_after}

pub summed_table : (count width : ℕ) (a b : Table) → IsTable a → Passes (through_filters count (ones width)) (λ (cycle : Cycle). cycle) a b → IsTable b
summed_table count width a b h p =
    table_after (through_filters count (ones width)) (λ (cycle : Cycle). cycle) a b (λ x. filter_times count (ones width) (h.transform x))
    (filters-keep count (ones width) h.transform (responses_of a) (cycle_of a).classes (cycle_of a).step h.law) p

pub summed_ahead : (count width : ℕ) (a b : Table) → IsAhead a → Passes (through_filters count (ones width)) (λ (cycle : Cycle). cycle) a b → IsAhead b
summed_ahead count width a b h p = record {
  each = λ class below.
      let known = h.each class (subst (λ (n : ℕ). class < n) (ap (λ (q : Cycle). q.classes) p.cycle) below) in
      let newest = ap (λ (f : Responses). (f (pos class)).newest) p.told ∙ filters-newest count (ones width) (responses_of a) (pos class) in
      omega (arith, ints, known, newest, ap (λ (q : Cycle). q.step) p.cycle);
}

pub raised_table : (by : ℕ) (a b : Table) → 0 < by → IsTable a → Passes (through_up by) (cycle_up by) a b → IsTable b
raised_table by a b some h p =
    table_after (through_up by) (cycle_up by) a b (λ x. up by (h.transform x)) (up-keeps by h.transform (responses_of a) (cycle_of a).classes (cycle_of a).step some h.law) p

pub raised_gain : (by gain : ℕ) (a b : Table) → HasGain (responses_of a) gain → Passes (through_up by) (cycle_up by) a b → HasGain (responses_of b) gain
raised_gain by gain a b h p = subst (λ (f : Responses). HasGain f gain) (sym p.told) (up-gain by (responses_of a) gain h)
