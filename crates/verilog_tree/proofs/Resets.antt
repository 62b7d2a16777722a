-- Runs and what they show, split at a cycle.
use Rattle.std.proofs.Common.{◌≡◌, ℕ, suc, ◌+◌, Bool, true, false, not, ◌&&◌, cond, List, [], ◌∷◌, ◌++◌, length, map, drop, slice_get, refl, sym, ◌∙◌, ap, arith, append_assoc}
use Rattle.std.specs.Prelude.{◌==◌}
use Rattle.verilog_tree.specs.Meaning.{Shapes, Values}
use Rattle.verilog_tree.specs.Circuit.{Circuit, Input, IsRun, next}
use Rattle.verilog_tree.specs.Shown.{Cycle, Ports, Event, event_of, events_of, ticks_after}

-- the rest of a run after some of its cycles
pub record RunsOn (c : Circuit) (cycles : List (List Input)) (settled : List Values) (before : ℕ) : Type 0 where
  pub content : Values
  pub rest : List Values
  pub run : IsRun c content cycles rest
  pub there : (k : ℕ) → slice_get settled (before + k) ≡ slice_get rest k
  pub dropped : drop before settled ≡ rest

pub run_on : (c : Circuit) (content : Values) (before after : List (List Input)) (settled : List Values) → IsRun c content (before ++ after) settled → RunsOn c after settled (length before)
run_on c content [] after settled run =
    record { content = content; rest = settled; run = run; there = λ k. ap (slice_get settled) (let e : 0 + k ≡ k = omega arith in e); dropped = refl }
run_on c content (inputs ∷ before) after settled (values, rest, is, settling, run) =
    let later = run_on c (next c values) before after rest run in
    record {
      content = later.content;
      rest = later.rest;
      run = later.run;
      there = λ k. ap (λ (vs : List Values). slice_get vs (suc (length before) + k)) is
          ∙ ap (slice_get (values ∷ rest)) (let e : suc (length before) + k ≡ suc (length before + k) = omega arith in e) ∙ later.there k;
      dropped = ap (drop (suc (length before))) is ∙ later.dropped;
    }

module _ (shapes : Shapes) (ports : Ports) where
  quiet : (a r b : Bool) (shown : List Event) → r ≡ true → cond (a && not r && b) shown [] ≡ []
  quiet true true b shown on = refl
  quiet false true b shown on = refl
  quiet a false b shown on = absurd (false_true on)
    where
      false_true : false ≡ true → ⊥
      false_true h = cc

  -- what is shown is what is shown up to a reset cycle, and then what is shown after it
  pub events_of-reset : (c : Circuit) (content : Values) (name : Cycle → List Input) (before after : List Cycle) (reset : Cycle) (settled : List Values) (cycle tick : ℕ) → reset.rst ≡ true
      → IsRun c content (map name (before ++ reset ∷ after)) settled
      → events_of shapes ports (before ++ reset ∷ after) settled cycle tick
      ≡ events_of shapes ports before settled cycle tick ++ events_of shapes ports after (drop (length before + 1) settled) (cycle + length before + 1) 0
  events_of-reset c content name [] after reset settled cycle tick on (values, rest, is, settling, run) =
      ap (λ (vs : List Values). events_of shapes ports (reset ∷ after) vs cycle tick) is
      ∙ ap (λ (es : List Event). es ++ events_of shapes ports after rest (cycle + 1) (ticks_after reset tick)) (quiet reset.ce reset.rst (not (values ports.out_valid == 0)) _ on)
      ∙ ap (events_of shapes ports after rest (cycle + 1)) (ap (λ (b : Bool). cond b 0 (cond reset.ce (tick + 1) tick)) on)
      ∙ ap (λ (n : ℕ). events_of shapes ports after rest n 0) (let e : cycle + 1 ≡ cycle + 0 + 1 = omega arith in e)
      ∙ ap (λ (vs : List Values). events_of shapes ports after (drop 1 vs) (cycle + 0 + 1) 0) (sym is)
  events_of-reset c content name (b ∷ before) after reset settled cycle tick on (values, rest, is, settling, run) =
      let here = event_of shapes ports b values cycle tick in
      let tail = events_of-reset c (next c values) name before after reset rest (cycle + 1) (ticks_after b tick) on run in
      ap (λ (vs : List Values). events_of shapes ports (b ∷ (before ++ reset ∷ after)) vs cycle tick) is
      ∙ ap (λ (es : List Event). here ++ es) tail
      ∙ sym (append_assoc here (events_of shapes ports before rest (cycle + 1) (ticks_after b tick)) (events_of shapes ports after (drop (length before + 1) rest) (cycle + 1 + length before + 1) 0))
      ∙ ap (λ (n : ℕ). (here ++ events_of shapes ports before rest (cycle + 1) (ticks_after b tick)) ++ events_of shapes ports after (drop (length before + 1) rest) n 0)
      (let e : cycle + 1 + length before + 1 ≡ cycle + suc (length before) + 1 = omega arith in e)
      ∙ ap (λ (n : ℕ). (here ++ events_of shapes ports before rest (cycle + 1) (ticks_after b tick)) ++ events_of shapes ports after (drop n (values ∷ rest)) (cycle + suc (length before) + 1) 0)
      (let e : suc (length before + 1) ≡ suc (length before) + 1 = omega arith in e)
      ∙ ap (λ (vs : List Values). events_of shapes ports (b ∷ before) vs cycle tick ++ events_of shapes ports after (drop (suc (length before) + 1) vs) (cycle + suc (length before) + 1) 0) (sym is)
