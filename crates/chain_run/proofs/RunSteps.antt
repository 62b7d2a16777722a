-- Cycles before others.
use Rattle.std.proofs.Common.{◌≡◌, ◌∙◌, ℕ, ◌+◌, ◌-◌, ◌==◌, ◌≤◌, Bool, true, false, not, ◌&&◌, cond, List, [], ◌∷◌, ◌++◌, Ok, Err, refl, sym, ap, subst, append_assoc, append-nil, arith}
use Rattle.std.proofs.Math.Path.{fun_ext}
use Rattle.std.proofs.lemmas.List.{replicate_more}
use Rattle.mr_values.specs.declared.memory.Memory.{Memory as Shortage}
use Rattle.verilog_tree.specs.Tree.{Design}
use Rattle.verilog_tree.specs.Meaning.{Shapes, Values}
use Rattle.verilog_tree.specs.Names.{shapes_of}
use Rattle.verilog_tree.specs.Circuit.{IsSettling, with_inputs, next}
use Rattle.verilog_tree.specs.Cycle.{circuit_of}
use Rattle.verilog_tree.specs.Shown.{Cycle, Event, Ports, RunsOver, inputs_of, ports_of, is_tick, event_of, events_of, ticks_after, signed_value}
use Rattle.sample_file.specs.Printed.{printed}
use Rattle.chain_run.specs.Given.{ShowsLines, RunsOn, shown_lines}
use Rattle.chain_run.specs.Ticks.{tick_of, zeros}
use Rattle.chain_run.specs.Ends.{TickEnds, ZerosEnd}

-- ---- lines

shown-append : (a b : List Event) → shown_lines (a ++ b) ≡ shown_lines a ++ shown_lines b
shown-append [] b = refl
shown-append (e ∷ a) b = ap (λ (text : List ℕ). printed (e.value ∷ []) ++ text) (shown-append a b) ∙ sym (append_assoc (printed (e.value ∷ [])) (shown_lines a) (shown_lines b))

abbrev value_at : Shapes → Ports → Values → ℕ → ℕ → Event
value_at shapes ports values cycle tick = record { cycle = cycle; tick = tick; value = signed_value (shapes.signed ports.out_data) (shapes.width ports.out_data) (values ports.out_data) }

-- what is printed doesn't depend on the places of cycles and the numbers of ticks
event-lines : (shapes : Shapes) (ports : Ports) (c : Cycle) (values : Values) (cycle tick other_cycle other_tick : ℕ)
    → shown_lines (event_of shapes ports c values cycle tick) ≡ shown_lines (event_of shapes ports c values other_cycle other_tick)
event-lines shapes ports c values cycle tick other_cycle other_tick = by (is_tick c && not (values ports.out_valid == 0))
  where
    by : (b : Bool) → shown_lines (cond b (value_at shapes ports values cycle tick ∷ []) []) ≡ shown_lines (cond b (value_at shapes ports values other_cycle other_tick ∷ []) [])
    by true = refl
    by false = refl

pub events-lines : (shapes : Shapes) (ports : Ports) (cs : List Cycle) (settled : List Values) (cycle tick other_cycle other_tick : ℕ)
    → shown_lines (events_of shapes ports cs settled cycle tick) ≡ shown_lines (events_of shapes ports cs settled other_cycle other_tick)
events-lines shapes ports [] settled cycle tick other_cycle other_tick = refl
events-lines shapes ports (c ∷ cs) [] cycle tick other_cycle other_tick = refl
events-lines shapes ports (c ∷ cs) (values ∷ settled) cycle tick other_cycle other_tick =
    let others : List Event = events_of shapes ports cs settled (cycle + 1) (ticks_after c tick) in
    let others_too : List Event = events_of shapes ports cs settled (other_cycle + 1) (ticks_after c other_tick) in
    shown-append (event_of shapes ports c values cycle tick) others
    ∙ ap (λ (text : List ℕ). text ++ shown_lines others) (event-lines shapes ports c values cycle tick other_cycle other_tick)
    ∙ ap (λ (text : List ℕ). shown_lines (event_of shapes ports c values other_cycle other_tick) ++ text) (events-lines shapes ports cs settled (cycle + 1) (ticks_after c tick) (other_cycle + 1) (ticks_after c other_tick))
    ∙ sym (shown-append (event_of shapes ports c values other_cycle other_tick) others_too)

-- ---- one tick

module _ (d : Design) (old settled after : Values) (bits : ℕ) (line : List ℕ)
    (settles : IsSettling (circuit_of d) (with_inputs (inputs_of (ports_of d) (tick_of bits)) old) settled)
    (steps : (name : ℕ) → after name ≡ next (circuit_of d) settled name)
    (is_line : line ≡ shown_lines (event_of (shapes_of d) (ports_of d) (tick_of 0) settled 0 0)) where
  same_after : after ≡ next (circuit_of d) settled
  same_after = fun_ext steps

  pub runs_tick : RunsOn d old (tick_of bits ∷ []) after line
  runs_tick = record {
    gives = λ others text shows. record {
      settled = settled ∷ shows.settled;
      run = (settled, shows.settled, refl, settles, subst (λ (content : Values). RunsOver d content others shows.settled) same_after shows.run);
      shown =
          ap (λ (first : List ℕ). first ++ text) is_line
          ∙ ap (λ (others_text : List ℕ). shown_lines (event_of (shapes_of d) (ports_of d) (tick_of 0) settled 0 0) ++ others_text)
          (shows.shown ∙ events-lines (shapes_of d) (ports_of d) others shows.settled 0 0 1 1)
          ∙ sym (shown-append (event_of (shapes_of d) (ports_of d) (tick_of bits) settled 0 0) (events_of (shapes_of d) (ports_of d) others shows.settled 1 1));
    };
  }

-- ---- several cycles

pub runs-none : (d : Design) (a : Values) → RunsOn d a [] a []
runs-none d a = record { gives = λ others text shows. shows }

pub runs-then : (d : Design) (a b c : Values) (first second : List Cycle) (lines more : List ℕ) → RunsOn d a first b lines → RunsOn d b second c more → RunsOn d a (first ++ second) c (lines ++ more)
runs-then d a b c first second lines more one two = record {
  gives = λ others text shows.
      subst (λ (cycles : List Cycle). ShowsLines d a cycles ((lines ++ more) ++ text)) (sym (append_assoc first second others))
      (subst (ShowsLines d a (first ++ (second ++ others))) (sym (append_assoc lines more text)) (one.gives (second ++ others) (more ++ text) (two.gives others text shows)));
}

pub zeros-none : (d : Design) (a : Values) (tick : ℕ) (before : List ℕ) → ZerosEnd d a tick before (Ok tick) a before
zeros-none d a tick before =
    let none : 0 ≡ tick - tick = omega arith in
    ([], sym (append-nil before), subst (λ (n : ℕ). RunsOn d a (zeros n) a []) none (runs-none d a))

pub zeros-more : (d : Design) (a b c : Values) (tick ticks : ℕ) (before middle after : List ℕ) (done : Unit {0}) → tick ≤ ticks
    → ZerosEnd d a tick before (Ok ticks) b middle → TickEnds d b 0 middle (Ok done) c after → ZerosEnd d a tick before (Ok (ticks + 1)) c after
zeros-more d a b c tick ticks before middle after done least one two =
    let count : (ticks - tick) + 1 ≡ (ticks + 1) - tick = omega arith in (
      one.0 ++ two.0,
      two.1 ∙ ap (λ (out : List ℕ). out ++ two.0) one.1 ∙ append_assoc before one.0 two.0,
      subst (λ (cycles : List Cycle). RunsOn d a cycles c (one.0 ++ two.0)) (replicate_more (ticks - tick) (tick_of 0) ∙ ap zeros count)
          (runs-then d a b c (zeros (ticks - tick)) (tick_of 0 ∷ []) one.0 two.0 one.2 two.2),
    )

pub zeros-short : (d : Design) (a b c : Values) (tick ticks : ℕ) (before middle after : List ℕ) (short : Shortage)
    → ZerosEnd d a tick before (Ok ticks) b middle → TickEnds d b 0 middle (Err short) c after → ZerosEnd d a tick before (Err short) c after
zeros-short d a b c tick ticks before middle after short one two = (one.0, two ∙ one.1)
