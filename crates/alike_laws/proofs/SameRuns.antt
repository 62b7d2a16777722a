-- Modules that are alike run alike and show the same.
use Rattle.std.proofs.Common.{◌≡◌, ℕ, zero, suc, ◌+◌, ◌<◌, Bool, true, false, cond, not, ◌&&◌, List, [], ◌∷◌, ◌++◌, length, map, Option, None, Some, refl, sym, ◌∙◌, ap, subst, arith}
use Rattle.std.specs.Prelude.{◌==◌, find, nat_lt, slice_get, codes, bytes_eq}
use Rattle.std.specs.List.{position_or_len}
use Rattle.std.specs.Option.{option_map, unwrap_or}
use Rattle.std.proofs.lemmas.Bool.{lt-ltb, ltb-true}
use Rattle.std.proofs.lemmas.Option.{slice_get_within}
use Rattle.std.proofs.lemmas.Slice.Eq.{bytes_eq-Decides}
use Rattle.verilog_tree.specs.declared.tree.Signal.{Signal}
use Rattle.verilog_tree.specs.Alike.{SameName, IsAlikeTree, plain_block, plain_action, plain_actions, IsAlikeAction, AreAlikeActions, AreAlikeBlocks, IsAlike}
use Rattle.verilog_tree.specs.Checks.{is_port, is_right_port, port_names, has_port, declarations, Passes, filter_face}
use Rattle.verilog_tree.specs.Circuit.{put, Driver, IsSource, IsSettling, given_by, later, next, with_inputs}
use Rattle.verilog_tree.specs.Cycle.{one_of, given_with, given_with_all, condition_holds, given, driver_of, process_of, circuit_of}
use Rattle.verilog_tree.specs.Laws.{HasOneSettling}
use Rattle.verilog_tree.specs.Meaning.{Shapes, Values, assigned, bit_of}
use Rattle.verilog_tree.specs.Names.{shapes_of, text_of, number_of}
use Rattle.verilog_tree.specs.Renaming.{name_in, number_in, AreDistinct}
use Rattle.verilog_tree.specs.Shown.{Cycle, RunsOver, inputs_of, ports_of, signed_value, is_tick, ticks_after, event_of, events_of}
use Rattle.verilog_tree.specs.Tree.{Tree, Action, Actions, Block, When, Either, Give, no_action, action, Design}
use Rattle.verilog_tree.proofs.OneSettling.{mapped}
use Rattle.verilog_text.proofs.Numbering.{number_of_name, name_of_number}
use Rattle.module_laws.proofs.InputPorts.{first_with_text}
use Rattle.module_laws.proofs.Passing.{no_second, none_fails}
use Rattle.module_laws.proofs.TextOrder.{Every, nothing_found}
use Rattle.alike_laws.specs.Laws.{AreAlikeValues, AreAlikeRuns, HaveSameRuns}
use Rattle.alike_laws.proofs.Matching.{name_at, one_there, same_equal}
use Rattle.alike_laws.proofs.Trees.{AreShapedAlike, AreValuedAlike, same_alone, same_assigned}
use Rattle.alike_laws.proofs.FirstCheck.{assign_there, assign_back}
use Rattle.alike_laws.proofs.Signals.{any_there}

mapped_at : {A B : Type 0} (f : A → B) (xs : List A) (k : ℕ) (x : A) → slice_get xs k ≡ Some x → slice_get (map f xs) k ≡ Some (f x)
mapped_at f [] k x at = absurd (omega (arith, slice_get_within [] k x at))
mapped_at f (y ∷ xs) zero x at = let e : y ≡ x = cc in ap (λ z. Some (f z)) e
mapped_at f (y ∷ xs) (suc k) x at = mapped_at f xs k x at

-- ---- what statements give

plain_block_given : {A : Type 0} (holds : Tree → Bool) (gives : ℕ → Tree → A) (ss : Actions) (r : ℕ) → given_with holds gives (plain_block ss) r ≡ given_with_all holds gives ss r
plain_block_given holds gives no_action r = refl
plain_block_given holds gives (action s no_action) r = sym (later_none (given_with holds gives s r))
  where
    later_none : {A : Type 0} (o : Option A) → later o None ≡ o
    later_none o = refl
plain_block_given holds gives (action s (action t ss)) r = refl

module _ {A : Type 0} (holds : Tree → Bool) (gives : ℕ → Tree → A) where
  mutual
    plain_given : (s : Action) (r : ℕ) → given_with holds gives (plain_action s) r ≡ given_with holds gives s r
    plain_given (Block members) r = plain_block_given holds gives (plain_actions members) r ∙ all_plain_given members r
    plain_given (When c s) r = ap (λ (o : Option A). one_of (holds c) o None) (plain_given s r)
    plain_given (Either c s t) r = λ i. one_of (holds c) (plain_given s r i) (plain_given t r i)
    plain_given (Give m e) r = refl

    all_plain_given : (ss : Actions) (r : ℕ) → given_with_all holds gives (plain_actions ss) r ≡ given_with_all holds gives ss r
    all_plain_given no_action r = refl
    all_plain_given (action s ss) r = λ i. later (plain_given s r i) (all_plain_given ss r i)

module _ (same : ℕ → ℕ → Type 0) (equal : (m n k l : ℕ) → same m n → same k l → (m == k) ≡ (n == l)) (s t : Shapes) (shaped : AreShapedAlike same s t) (v w : Values) (valued : AreValuedAlike same v w)
    (k l : ℕ) (at : same k l) where
  holds_both : (e f : Tree) → IsAlikeTree same e f → condition_holds s v e ≡ condition_holds t w f
  holds_both e f h = ap (λ (x : ℕ). not (x == 0)) (same_alone same s t shaped v w valued e f h)

  mutual
    alike_given : (x y : Action) → IsAlikeAction same x y → given s v x k ≡ given t w y l
    alike_given (Block members) y (others, is, h) = all_alike_given members others h ∙ ap (λ (g : Action). given t w g l) (sym is)
    alike_given (When c x) y (z, u, is, o, p) = (λ i. one_of (holds_both c z o i) (alike_given x u p i) None) ∙ ap (λ (g : Action). given t w g l) (sym is)
    alike_given (Either c x x') y (z, u, u', is, o, p, q) = (λ i. one_of (holds_both c z o i) (alike_given x u p i) (alike_given x' u' q i)) ∙ ap (λ (g : Action). given t w g l) (sym is)
    alike_given (Give m e) y (n, f, is, h, p) =
        (λ i. cond (equal k l m n at h i) (Some (same_assigned same s t shaped v w valued m n e f h p i)) None) ∙ ap (λ (g : Action). given t w g l) (sym is)

    all_alike_given : (xs ys : Actions) → AreAlikeActions same xs ys
        → given_with_all (condition_holds s v) (assigned s v) xs k ≡ given_with_all (condition_holds t w) (assigned t w) ys l
    all_alike_given no_action ys is = ap (λ (gs : Actions). given_with_all (condition_holds t w) (assigned t w) gs l) (sym is)
    all_alike_given (action x xs) ys (y, others, is, p, q) =
        (λ i. later (alike_given x y p i) (all_alike_given xs others q i)) ∙ ap (λ (gs : Actions). given_with_all (condition_holds t w) (assigned t w) gs l) (sym is)

  alike_given_by : (xs ys : List Action) → AreAlikeBlocks same xs ys → given_by (map (process_of s) xs) v k ≡ given_by (map (process_of t) ys) w l
  alike_given_by [] ys is = ap (λ (gs : List Action). given_by (map (process_of t) gs) w l) (sym is)
  alike_given_by (x ∷ xs) ys (y, others, is, p, q) =
      (λ i. later (one i) (alike_given_by xs others q i)) ∙ ap (λ (gs : List Action). given_by (map (process_of t) gs) w l) (sym is)
    where
      one : given s v x k ≡ given t w y l
      one =
          sym (plain_given (condition_holds s v) (assigned s v) x k) ∙ alike_given (plain_action x) (plain_action y) p
          ∙ plain_given (condition_holds t w) (assigned t w) y l

-- ---- the ports

not_false : (b : Bool) → not b ≡ false → b ≡ true
not_false true h = refl
not_false false h = absurd (cc)

both_parts : (a b : Bool) → (a && b) ≡ true → (a ≡ true) × (b ≡ true)
both_parts true b h = (refl, h)
both_parts false b h = absurd (cc)

abbrev HasPorts : Design → Type 0
HasPorts d = Every (λ text. not (has_port d text) ≡ false) port_names

pub passing_ports : (d : Design) → Passes d → HasPorts d
passing_ports d passes =
    nothing_found (λ text. not (has_port d text)) port_names
    (no_second (option_map (λ (s : Signal). text_of d s.name) (find (λ (s : Signal). is_port s.kind && not (is_right_port filter_face d s)) (declarations d))) (find (λ text. not (has_port d text)) port_names) (none_fails filter_face d passes.early).ports)

item_at : (names : List (List ℕ)) (k : ℕ) → k < length names → slice_get names k ≡ Some (name_in names k)
item_at [] k h = absurd (omega (arith, h))
item_at (x ∷ names) zero h = refl
item_at (x ∷ names) (suc k) h = item_at names k (omega (arith, h))

number_there : (names : List (List ℕ)) (n : ℕ) (text : List ℕ) → AreDistinct names → slice_get names n ≡ Some text → position_or_len (bytes_eq text) names ≡ n
number_there names n text distinct at =
    ap (λ (x : List ℕ). position_or_len (bytes_eq x) names) (sym (name_at names n text at)) ∙ first_with_text names n distinct (slice_get_within names n text at)

module _ (d e : Design) (alike : IsAlike d e) (distinct_d : AreDistinct d.names) (distinct_e : AreDistinct e.names) where
  port_alike : (text : List ℕ) → not (has_port d text) ≡ false → SameName d.names e.names (number_of d text) (number_of e text)
  port_alike text there =
      let found = any_there (λ (s : Signal). is_port s.kind && bytes_eq (text_of d s.name) text) d.signals (not_false (has_port d text) there) in
      let s = found.1 in
      let read = (bytes_eq-Decides (text_of d s.name) text).0 ((both_parts (is_port s.kind) (bytes_eq (text_of d s.name) text) found.3).1) in
      let t = alike.signals found.0 s found.2 in
      let named = t.2.name in
      let is : named.0 ≡ text = sym (ap (λ (o : Option (List ℕ)). unwrap_or o []) named.1) ∙ read in
      let here : slice_get d.names s.name ≡ Some text = named.1 ∙ ap Some is in
      let over : slice_get e.names t.0.name ≡ Some text = named.2 ∙ ap Some is in
      (text, ap (slice_get d.names) (number_there d.names s.name text distinct_d here) ∙ here, ap (slice_get e.names) (number_there e.names t.0.name text distinct_e over) ∙ over)

-- ---- one cycle

module _ (d e : Design) (alike : IsAlike d e) (distinct_d : AreDistinct d.names) (distinct_e : AreDistinct e.names) (shaped : AreShapedAlike (SameName d.names e.names) (shapes_of d) (shapes_of e))
    (one_e : HasOneSettling e) (ports : HasPorts d) where
  abbrev Same : ℕ → ℕ → Type 0
  Same = SameName d.names e.names

  equal : (m n k l : ℕ) → Same m n → Same k l → (m == k) ≡ (n == l)
  equal = same_equal d.names e.names distinct_d distinct_e

  put_alike : (v w : Values) (k l x : ℕ) → Same k l → AreAlikeValues d e v w → AreAlikeValues d e (put v k x) (put w l x)
  put_alike v w k l x at values = record { each = λ m n h. λ i. cond (equal m n k l h at i) x (values.each m n h i) }

  rst_alike : Same (ports_of d).rst (ports_of e).rst
  rst_alike = port_alike d e alike distinct_d distinct_e (codes "rst") ports.1.0

  ce_alike : Same (ports_of d).ce (ports_of e).ce
  ce_alike = port_alike d e alike distinct_d distinct_e (codes "ce") ports.1.1.0

  in_alike : Same (ports_of d).in_data (ports_of e).in_data
  in_alike = port_alike d e alike distinct_d distinct_e (codes "in_data") ports.1.1.1.0

  valid_alike : Same (ports_of d).out_valid (ports_of e).out_valid
  valid_alike = port_alike d e alike distinct_d distinct_e (codes "out_valid") ports.1.1.1.1.0

  out_alike : Same (ports_of d).out_data (ports_of e).out_data
  out_alike = port_alike d e alike distinct_d distinct_e (codes "out_data") ports.1.1.1.1.1.0

  inputs_alike : (c : Cycle) (v w : Values) → AreAlikeValues d e v w → AreAlikeValues d e (with_inputs (inputs_of (ports_of d) c) v) (with_inputs (inputs_of (ports_of e) c) w)
  inputs_alike c v w values =
      put_alike (put (put v (ports_of d).rst (bit_of c.rst)) (ports_of d).ce (bit_of c.ce)) (put (put w (ports_of e).rst (bit_of c.rst)) (ports_of e).ce (bit_of c.ce)) (ports_of d).in_data (ports_of e).in_data c.in_data in_alike
      (put_alike (put v (ports_of d).rst (bit_of c.rst)) (put w (ports_of e).rst (bit_of c.rst)) (ports_of d).ce (ports_of e).ce (bit_of c.ce) ce_alike
      (put_alike v w (ports_of d).rst (ports_of e).rst (bit_of c.rst) rst_alike values))

  -- the values of one module by the names of the other
  abbrev from : ℕ → ℕ
  from n = number_in d.names (name_in e.names n)

  abbrev has_partner : ℕ → Bool
  has_partner n = nat_lt n (length e.names) && nat_lt (from n) (length d.names)

  abbrev carried : Values → Values → Values
  carried v w n = cond (has_partner n) (v (from n)) (w n)

  from_same : (m n : ℕ) → Same m n → from n ≡ m
  from_same m n h = ap (number_in d.names) (name_at e.names n h.0 h.2 ∙ sym (name_at d.names m h.0 h.1)) ∙ number_of_name d.names m distinct_d (slice_get_within d.names m h.0 h.1)

  partner_same : (m n : ℕ) → Same m n → has_partner n ≡ true
  partner_same m n h =
      let low = slice_get_within e.names n h.0 h.2 in
      let within = slice_get_within d.names m h.0 h.1 in
      let is = from_same m n h in
      rw (lt-ltb n (length e.names) low, lt-ltb (from n) (length d.names) (omega (arith, is, within))) refl

  same_from : (n : ℕ) → has_partner n ≡ true → Same (from n) n
  same_from n h =
      let parts = both_parts (nat_lt n (length e.names)) (nat_lt (from n) (length d.names)) h in
      let low = ltb-true n (length e.names) parts.0 in
      let within = ltb-true (from n) (length d.names) parts.1 in
      (name_in e.names n, item_at d.names (from n) within ∙ ap Some (name_of_number d.names (name_in e.names n) within), item_at e.names n low)

  carried_alike : (v w : Values) → AreAlikeValues d e v (carried v w)
  carried_alike v w = record { each = λ m n h. sym (ap (λ (b : Bool). cond b (v (from n)) (w n)) (partner_same m n h) ∙ ap v (from_same m n h)) }

  settling_carried : (x y v w : Values) → AreAlikeValues d e x y → IsSettling (circuit_of d) x v → IsSettling (circuit_of e) y w → IsSettling (circuit_of e) y (carried v w)
  settling_carried x y v w contents settling other = record {
    sources = λ n source. by n source (has_partner n) refl;
    settled = λ k driver at.
        let b = mapped (driver_of (shapes_of e)) e.assigns k driver at in
        let a = assign_back Same d.assigns e.assigns k b.0 alike.assigns b.1 in
        let drives = settling.settled k (driver_of (shapes_of d) a.0) (mapped_at (driver_of (shapes_of d)) d.assigns k a.0 a.1) in
        let gives : carried v w b.0.target ≡ assigned (shapes_of e) (carried v w) b.0.target b.0.value =
        sym ((carried_alike v w).each a.0.target b.0.target a.2) ∙ drives
        ∙ same_assigned Same (shapes_of d) (shapes_of e) shaped v (carried v w) (record { each = (carried_alike v w).each }) a.0.target b.0.target a.0.value b.0.value a.2 a.3 in
        subst (λ (f : Driver). carried v w f.target ≡ f.value (carried v w)) b.2 gives;
  }
    where
      by : (n : ℕ) → IsSource (circuit_of e) n → (b : Bool) → has_partner n ≡ b → carried v w n ≡ y n
      by n source true h =
          let same = same_from n h in
          ap (λ (b : Bool). cond b (v (from n)) (w n)) h
          ∙ settling.sources (from n) (λ k driver at target.
          let a = mapped (driver_of (shapes_of d)) d.assigns k driver at in
          let b = assign_there Same d.assigns e.assigns k a.0 alike.assigns a.1 in
          let named : b.0.target ≡ n = one_there d.names e.names distinct_d distinct_e (from n) b.0.target n (subst (λ (j : ℕ). Same j b.0.target) (ap (λ (f : Driver). f.target) a.2 ∙ target) b.2) same in
          source k (driver_of (shapes_of e) b.0) (mapped_at (driver_of (shapes_of e)) e.assigns k b.0 b.1) named)
          ∙ contents.each (from n) n same
      by n source false h = ap (λ (b : Bool). cond b (v (from n)) (w n)) h ∙ other.sources n source

  settled_alike : (x y v w : Values) → AreAlikeValues d e x y → IsSettling (circuit_of d) x v → IsSettling (circuit_of e) y w → AreAlikeValues d e v w
  settled_alike x y v w contents settling other =
      let one = one_e y in
      let carry = settling_carried x y v w contents settling other in
      record { each = λ m n h. (carried_alike v w).each m n h ∙ one.2 (carried v w) carry n ∙ sym (one.2 w other n) }

  next_alike : (v w : Values) → AreAlikeValues d e v w → AreAlikeValues d e (next (circuit_of d) v) (next (circuit_of e) w)
  next_alike v w values = record {
    each = λ m n h. λ i.
        unwrap_or (alike_given_by Same equal (shapes_of d) (shapes_of e) shaped v w (record { each = values.each }) m n h d.blocks e.blocks alike.blocks i) (values.each m n h i);
  }

  -- ---- all cycles

  runs_alike : (v w : Values) (cycles : List Cycle) (settled others : List Values) → AreAlikeValues d e v w → RunsOver d v cycles settled → RunsOver e w cycles others → AreAlikeRuns d e settled others
  runs_alike v w [] settled others contents run other = rw (run, other) tt
  runs_alike v w (c ∷ cycles) settled others contents (now, rest, is, settling, run) (now', rest', is', settling', run') =
      let inputs = inputs_alike c v w contents in
      let here = settled_alike (with_inputs (inputs_of (ports_of d) c) v) (with_inputs (inputs_of (ports_of e) c) w) now now' inputs settling settling' in
      let behind = runs_alike (next (circuit_of d) now) (next (circuit_of e) now') cycles rest rest' (next_alike now now' here) run run' in
      subst (λ (xs : List Values). AreAlikeRuns d e xs others) (sym is) (subst (λ (ys : List Values). AreAlikeRuns d e (now ∷ rest) ys) (sym is') (here, behind))

  event_alike : (c : Cycle) (v w : Values) (cycle tick : ℕ) → AreAlikeValues d e v w → event_of (shapes_of d) (ports_of d) c v cycle tick ≡ event_of (shapes_of e) (ports_of e) c w cycle tick
  event_alike c v w cycle tick values =
      let out = values.each (ports_of d).out_data (ports_of e).out_data out_alike in
      let valid = values.each (ports_of d).out_valid (ports_of e).out_valid valid_alike in
      let wide = shaped.width (ports_of d).out_data (ports_of e).out_data out_alike in
      let sign = shaped.signed (ports_of d).out_data (ports_of e).out_data out_alike in
      λ i. cond (is_tick c && not (valid i == 0)) (record { cycle = cycle; tick = tick; value = signed_value (sign i) (wide i) (out i) } ∷ []) []

  events_alike : (cycles : List Cycle) (settled others : List Values) (cycle tick : ℕ) → AreAlikeRuns d e settled others
      → events_of (shapes_of d) (ports_of d) cycles settled cycle tick ≡ events_of (shapes_of e) (ports_of e) cycles others cycle tick
  events_alike [] settled others cycle tick along = refl
  events_alike (c ∷ cycles) [] [] cycle tick along = refl
  events_alike (c ∷ cycles) (v ∷ settled) (w ∷ others) cycle tick along =
      λ i. event_alike c v w cycle tick along.0 i ++ events_alike cycles settled others (cycle + 1) (ticks_after c tick) along.1 i
  events_alike (c ∷ cycles) [] (w ∷ others) cycle tick along = absurd along
  events_alike (c ∷ cycles) (v ∷ settled) [] cycle tick along = absurd along

  pub same_runs : HaveSameRuns d e
  same_runs = record {
    values = runs_alike;
    shown = λ v w cycles settled others contents run other. events_alike cycles settled others 0 0 (runs_alike v w cycles settled others contents run other);
  }
