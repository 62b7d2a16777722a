-- The values of names at the start, and with the inputs of a cycle.
use Rattle.std.proofs.Common.{◌≡◌, ℕ, zero, suc, ◌+◌, ◌<◌, ◌≤◌, ◌^◌, Bool, true, false, List, [], ◌∷◌, length, drop, get_or, set, replicate, refl, sym, ◌∙◌, ap, arith, subst, add-one}
use Rattle.std.specs.Prelude.{if◌then◌else◌}
use Rattle.std.proofs.Math.Path.{fun_ext}
use Rattle.std.proofs.lemmas.List.{length-set}
use Rattle.std.proofs.lemmas.Nat.{pow_pos}
use Rattle.verilog_tree.specs.declared.tree.Signal.{Signal}
use Rattle.verilog_tree.specs.declared.tree.Kind.TheVariants.{Input}
use Rattle.verilog_tree.specs.Tree.{Design}
use Rattle.verilog_tree.specs.Meaning.{Shapes, Values, FitNames, bit_of}
use Rattle.verilog_tree.specs.Names.{shapes_of}
use Rattle.verilog_tree.specs.Circuit.{put, with_inputs, Input as Start}
use Rattle.verilog_tree.specs.Shown.{ports_of, inputs_of}
use Rattle.verilog_text.specs.Shortest.{IsFormedSignal, AllFormed}
use Rattle.clock_sim.specs.declared.sim.PortNames.{PortNames}
use Rattle.clock_sim.specs.Simulated.{values_of}
use Rattle.clock_sim.specs.Sim.{is_register, contents, AllFit, ArePorts, cycle_of}
use Rattle.clock_sim.proofs.Simulated.{values_set, fit_put}
use Rattle.clock_sim.proofs.Tables.{drop_one, drop_all}

-- the declaration that a loop reads past the last
abbrev pub blank : Signal
blank = record { name = 0; kind = Input; signed = false; ranged = false; width = 0; place = 0 }

get_or-any : {A : Type 0} (xs : List A) (k : ℕ) (x y : A) → k < length xs → get_or xs k x ≡ get_or xs k y
get_or-any [] k x y lt = absurd (omega (arith, lt))
get_or-any (z ∷ xs) zero x y lt = refl
get_or-any (z ∷ xs) (suc k) x y lt = get_or-any xs k x y (omega (arith, lt))

pub item_is : (x : Signal) (read signals : List Signal) (place : ℕ) → read ≡ signals → place < length read → get_or read place x ≡ get_or signals place (get_or read place x)
item_is x read signals place same lt =
    get_or-any read place x (get_or read place x) lt ∙ ap (λ (ss : List Signal). get_or ss place (get_or read place x)) same

-- ---- the patterns of registers

contents_none : (signals : List Signal) → contents signals [] ≡ []
contents_none [] = refl
contents_none (s ∷ signals) = refl

-- what is left of the patterns leads from here to where all lead from 0
pub record IsStarted (shapes : Shapes) (signals : List Signal) (patterns : List ℕ) (place next : ℕ) (values : List ℕ) : Type 0 where
  pub same : with_inputs (contents (drop place signals) (drop next patterns)) (values_of values) ≡ with_inputs (contents signals patterns) (λ n. 0)
  pub fit : AllFit shapes (contents (drop place signals) (drop next patterns))
  pub names : FitNames shapes (values_of values)

abbrev Left : Shapes → Values → List Start → Values → Type 0
Left shapes v inputs all = (with_inputs inputs v ≡ all) × AllFit shapes inputs

module _ (shapes : Shapes) (signals : List Signal) (patterns : List ℕ) where
  pub started : (values : List ℕ) → values_of values ≡ (λ n. 0) → AllFit shapes (contents signals patterns) → IsStarted shapes signals patterns 0 0 values
  started values zeros fit = record {
    same = ap (with_inputs (contents signals patterns)) zeros;
    fit = fit;
    names = record { each = λ n. let z = ap (λ (v : Values). v n) zeros in let p = pow_pos (shapes.width n) in omega (arith, z, p) };
  }

  module _ (place next : ℕ) (values : List ℕ) (s : Signal) (h : IsStarted shapes signals patterns place next values) (lt : place < length signals) (read : s ≡ get_or signals place s) where
    left : drop place signals ≡ s ∷ drop (place + 1) signals
    left = rw add-one (drop_one signals place s lt read)

    now : Left shapes (values_of values) (contents (s ∷ drop (place + 1) signals) (drop next patterns)) (with_inputs (contents signals patterns) (λ n. 0))
    now = (
      subst (λ (ss : List Signal). with_inputs (contents ss (drop next patterns)) (values_of values) ≡ with_inputs (contents signals patterns) (λ n. 0)) left h.same,
      subst (λ (ss : List Signal). AllFit shapes (contents ss (drop next patterns))) left h.fit,
    )

    pub start_skips : is_register s.kind ≡ false → IsStarted shapes signals patterns (place + 1) next values
    start_skips other = by (drop next patterns) refl now
      where
        by : (ps : List ℕ) → drop next patterns ≡ ps → Left shapes (values_of values) (contents (s ∷ drop (place + 1) signals) ps) (with_inputs (contents signals patterns) (λ n. 0)) → IsStarted shapes signals patterns (place + 1) next values
        by [] e left_now =
            let none = ap (contents (drop (place + 1) signals)) e ∙ contents_none (drop (place + 1) signals) in
            record { same = ap (λ (is : List Start). with_inputs is (values_of values)) none ∙ left_now.0; fit = subst (AllFit shapes) (sym none) left_now.1; names = h.names }
        by (x ∷ ps) e left_now =
            let rest = ap (λ (b : Bool). if b then record { name = s.name; value = x } ∷ contents (drop (place + 1) signals) ps else contents (drop (place + 1) signals) (x ∷ ps)) other
            ∙ ap (contents (drop (place + 1) signals)) (sym e) in
            record { same = ap (λ (is : List Start). with_inputs is (values_of values)) (sym rest) ∙ left_now.0; fit = subst (AllFit shapes) rest left_now.1; names = h.names }

    pub start_past : length patterns ≤ next → IsStarted shapes signals patterns (place + 1) next values
    start_past past =
        let none = drop_all patterns next past in
        let before = subst (λ (ps : List ℕ). Left shapes (values_of values) (contents (s ∷ drop (place + 1) signals) ps) (with_inputs (contents signals patterns) (λ n. 0))) none now in
        let after = ap (contents (drop (place + 1) signals)) none ∙ contents_none (drop (place + 1) signals) in
        record { same = ap (λ (is : List Start). with_inputs is (values_of values)) after ∙ before.0; fit = subst (AllFit shapes) (sym after) before.1; names = h.names }

    pub start_writes : (x : ℕ) (result : List ℕ) → is_register s.kind ≡ true → next < length patterns → x ≡ get_or patterns next x → s.name < length values → result ≡ set values s.name x
        → IsStarted shapes signals patterns (place + 1) (next + 1) result
    start_writes x result is_one more at inside written =
        let ps : drop next patterns ≡ x ∷ drop (next + 1) patterns = rw add-one (drop_one patterns next x more at) in
        let here = ap (λ (b : Bool). if b then record { name = s.name; value = x } ∷ contents (drop (place + 1) signals) (drop (next + 1) patterns) else contents (drop (place + 1) signals) (x ∷ drop (next + 1) patterns)) is_one in
        let first = subst (λ (ps : List ℕ). Left shapes (values_of values) (contents (s ∷ drop (place + 1) signals) ps) (with_inputs (contents signals patterns) (λ n. 0))) ps now in
        let then_ = subst (λ (is : List Start). Left shapes (values_of values) is (with_inputs (contents signals patterns) (λ n. 0))) here first in
        let values_are = ap values_of written ∙ values_set values s.name x inside in
        record {
          same = ap (with_inputs (contents (drop (place + 1) signals) (drop (next + 1) patterns))) values_are ∙ then_.0;
          fit = then_.1.1;
          names = subst (FitNames shapes) (sym values_are) (fit_put shapes (values_of values) s.name x h.names then_.1.0);
        }

  pub all_started : (place next : ℕ) (values : List ℕ) → length signals ≤ place → IsStarted shapes signals patterns place next values → values_of values ≡ with_inputs (contents signals patterns) (λ n. 0)
  all_started place next values all h = ap (λ (ss : List Signal). with_inputs (contents ss (drop next patterns)) (values_of values)) (sym (drop_all signals place all)) ∙ h.same

-- the values after a turn
pub record Turned (d : Design) (signals : List Signal) (patterns : List ℕ) (place next : ℕ) (values : List ℕ) : Type 0 where
  pub count : length values ≡ length d.names
  pub started : IsStarted (shapes_of d) signals patterns place next values

-- a turn that changes nothing
pub unchanged : (d : Design) (signals : List Signal) (patterns : List ℕ) (place next : ℕ) (values : List ℕ) (next_after : ℕ) (after : List ℕ) → after ≡ values → next_after ≡ next
    → length values ≡ length d.names → IsStarted (shapes_of d) signals patterns (place + 1) next values → Turned d signals patterns (place + 1) next_after after
unchanged d signals patterns place next values next_after after same_values same_next count h = record {
  count = ap length same_values ∙ count;
  started = subst (λ (n : ℕ). IsStarted (shapes_of d) signals patterns (place + 1) n after) (sym same_next) (subst (IsStarted (shapes_of d) signals patterns (place + 1) next) (sym same_values) h);
}

signal_inside : (count : ℕ) (signals : List Signal) (place : ℕ) (s : Signal) → AllFormed (IsFormedSignal count) signals → place < length signals → s ≡ get_or signals place s → s.name < count
signal_inside count [] place s formed lt read = absurd (omega (arith, lt))
signal_inside count (t ∷ signals) zero s formed lt read = subst (λ (u : Signal). u.name < count) (sym read) formed.0.0
signal_inside count (t ∷ signals) (suc place) s formed lt read = signal_inside count signals place s formed.1 (omega (arith, lt)) read

number_any : (xs : List ℕ) (k x y : ℕ) → k < length xs → get_or xs k x ≡ get_or xs k y
number_any [] k x y lt = absurd (omega (arith, lt))
number_any (z ∷ xs) zero x y lt = refl
number_any (z ∷ xs) (suc k) x y lt = number_any xs k x y (omega (arith, lt))

-- a turn that writes a register
pub write_turn : (d : Design) (signals : List Signal) (patterns : List ℕ) (place next : ℕ) (values : List ℕ) (s : Signal) → IsStarted (shapes_of d) signals patterns place next values
    → place < length signals → s ≡ get_or signals place s → AllFormed (IsFormedSignal (length d.names)) signals → (next_after : ℕ) (after : List ℕ) → is_register s.kind ≡ true → next < length patterns
    → after ≡ set values s.name (get_or patterns next 0) → next_after ≡ next + 1 → length values ≡ length d.names → Turned d signals patterns (place + 1) next_after after
write_turn d signals patterns place next values s h lt read formed next_after after is_one more written same_next count =
    let inside = signal_inside (length d.names) signals place s formed lt read in
    record {
      count = ap length written ∙ length-set values s.name (get_or patterns next 0) ∙ count;
      started = subst (λ (n : ℕ). IsStarted (shapes_of d) signals patterns (place + 1) n after) (sym same_next)
          (start_writes (shapes_of d) signals patterns place next values s h lt read (get_or patterns next 0) after is_one more
          (number_any patterns next 0 (get_or patterns next 0) more) (omega (arith, inside, count)) written);
    }

pub zeros : (count : ℕ) → values_of (replicate count 0) ≡ (λ n. 0)
zeros count = fun_ext (at count)
  where
    at : (count n : ℕ) → values_of (replicate count 0) n ≡ 0
    at zero n = refl
    at (suc count) zero = refl
    at (suc count) (suc n) = at count n

-- ---- the inputs of a cycle

bit_fits : (t : Bool) (width : ℕ) → 1 ≤ width → bit_of t < 2 ^ width
bit_fits t zero some = absurd (omega (arith, some))
bit_fits t (suc width) some = let p = pow_pos width in by t (omega (arith, p))
  where
    by : (t : Bool) → 1 < 2 ^ suc width → bit_of t < 2 ^ suc width
    by true h = h
    by false h = omega (arith, h)

module _ (d : Design) (ports : PortNames) (values first second third : List ℕ) (rst ce : Bool) (in_data a b : ℕ) (fit : ArePorts d (length values) ports)
    (at_rst : a ≡ bit_of rst) (at_ce : b ≡ bit_of ce) (one : first ≡ set values ports.rst a) (two : second ≡ set first ports.ce b) (three : third ≡ set second ports.in_data in_data) where
  first_long : length first ≡ length values
  first_long = ap length one ∙ length-set values ports.rst a

  second_long : length second ≡ length values
  second_long = ap length two ∙ length-set first ports.ce b ∙ first_long

  pub first_inside : ports.ce < length first
  first_inside = subst (λ (n : ℕ). ports.ce < n) (sym first_long) fit.ce_inside

  pub second_inside : ports.in_data < length second
  second_inside = subst (λ (n : ℕ). ports.in_data < n) (sym second_long) fit.in_data_inside

  abbrev written : Values
  written = put (put (put (values_of values) ports.rst (bit_of rst)) ports.ce (bit_of ce)) ports.in_data in_data

  are_written : values_of third ≡ written
  are_written =
      ap values_of three ∙ values_set second ports.in_data in_data second_inside
      ∙ ap (λ (v : Values). put v ports.in_data in_data) (ap values_of two ∙ values_set first ports.ce b first_inside
      ∙ ap (λ (v : Values). put v ports.ce b) (ap values_of one ∙ values_set values ports.rst a fit.rst_inside ∙ ap (put (values_of values) ports.rst) at_rst)
      ∙ ap (put (put (values_of values) ports.rst (bit_of rst)) ports.ce) at_ce)

  pub inputs_set : values_of third ≡ with_inputs (inputs_of (ports_of d) (cycle_of rst ce in_data)) (values_of values)
  inputs_set = are_written ∙ rw (fit.rst, fit.ce, fit.in_data) refl

  pub inputs_fit : FitNames (shapes_of d) (values_of values) → in_data < 2 ^ (shapes_of d).width (ports_of d).in_data → FitNames (shapes_of d) (values_of third)
  inputs_fit names small =
      subst (FitNames (shapes_of d)) (sym are_written)
      (fit_put (shapes_of d) _ ports.in_data in_data
      (fit_put (shapes_of d) _ ports.ce (bit_of ce)
      (fit_put (shapes_of d) (values_of values) ports.rst (bit_of rst) names (bit_fits rst _ fit.rst_width))
      (bit_fits ce _ fit.ce_width))
      (subst (λ (n : ℕ). in_data < 2 ^ (shapes_of d).width n) (sym fit.in_data) small))
