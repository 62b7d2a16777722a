-- The written module over lists of cycles.
use Rattle.std.proofs.Common.{◌≡◌, ℕ, zero, suc, ◌+◌, Bool, true, false, cond, List, [], ◌∷◌, ◌++◌, length, map, take, drop, get_or, Some, slice_get, ℤ, refl, sym, ◌∙◌, ap, arith, subst}
use Rattle.std.proofs.lemmas.List.{map-append, length-map}
use Rattle.mr_values.specs.Width.{pattern, signed}
use Rattle.net_graph.specs.declared.cell.Cell.{Cell}
use Rattle.net_graph.specs.Cut.{cut_all}
use Rattle.net_graph.specs.Run.{Values as Worth, IsRun as IsNetRun}
use Rattle.net_graph.specs.WellFormed.{IsNetlist}
use Rattle.verilog_tree.specs.Meaning.{Values}
use Rattle.verilog_tree.specs.Circuit.{Input, IsRun, next}
use Rattle.verilog_tree.specs.Shown.{Cycle, EachFits, ports_of, inputs_of}
use Rattle.verilog_tree.proofs.Computes.{Holds}
use Rattle.verilog_tree.proofs.Resets.{run_on}
use Rattle.net_module.specs.Written.{IsWritable, is_register}
use Rattle.net_module.specs.Steps.{HasNoReset, tick_data, ticks_in, samples_of, width_in, RunsAfterReset, StepsAs}
use Rattle.net_module.proofs.ControlHolds.{control_holds}
use Rattle.net_module.proofs.Cycles.{D, S, C, N, rests, resets, register_is_kept, nodes_hold, ticks, width_of}
use Rattle.net_module.proofs.Settles.{settled_in}

same_values : (v w : Values) → Some v ≡ Some w → v ≡ w
same_values v w e = cc

same_cycle : (c d : Cycle) → Some c ≡ Some d → c ≡ d
same_cycle c d e = cc

module _ (cells : List Cell) (netlist : IsNetlist cells) (writable : IsWritable cells) (x : ℕ → ℤ) (worth : Worth) (run : IsNetRun cut_all cells x worth) where
  -- the registers hold the values of a tick
  pub record RegistersHold (now : Values) (t : ℕ) : Type 0 where
    pub each : (place : ℕ) (cell : Cell) → slice_get cells place ≡ Some cell → is_register cell.item ≡ true → now (N cells netlist writable place) ≡ pattern cell.width (worth t place)

  -- each node's signal does
  pub record NodesHold (now : Values) (t : ℕ) : Type 0 where
    pub each : (place : ℕ) (cell : Cell) → slice_get cells place ≡ Some cell → Holds (S cells netlist writable) now (N cells netlist writable place) (worth t place)

  -- the input at the ticks of these cycles, the first of which has this number
  pub record Feeds (t : ℕ) (cs : List Cycle) : Type 0 where
    pub each : (i : ℕ) → x (t + i) ≡ samples_of (width_in cells) cs i

  abbrev pub name : Cycle → List Input
  name = inputs_of (ports_of (D cells netlist writable))

  -- what holds in the cycle at a place of these cycles
  pub record Follows (cs : List Cycle) (settled : List Values) (t : ℕ) : Type 0 where
    pub registers : (j : ℕ) (now : Values) → slice_get settled j ≡ Some now → RegistersHold now (t + ticks_in (take j cs))
    pub nodes : (j : ℕ) (c : Cycle) (now : Values) → slice_get cs j ≡ Some c → c.ce ≡ true → slice_get settled j ≡ Some now → NodesHold now (t + ticks_in (take j cs))

  pub fed_tick : (t : ℕ) (c : Cycle) (cs : List Cycle) → Feeds t (c ∷ cs) → c.ce ≡ true → (x t ≡ signed (width_in cells) c.in_data) × Feeds (suc t) cs
  fed_tick t c cs feeds on =
      let P : Bool → Type 0 = λ b. (i : ℕ) → x (t + i) ≡ signed (width_in cells) (get_or (cond b (c.in_data ∷ tick_data cs) (tick_data cs)) i 0) in
      let fed : P true = subst P on feeds.each in
      (ap x (let e : t ≡ t + 0 = omega arith in e) ∙ fed 0, record { each = λ i. ap x (let e : suc t + i ≡ t + suc i = omega arith in e) ∙ fed (suc i) })

  pub fed_rest : (t : ℕ) (c : Cycle) (cs : List Cycle) → Feeds t (c ∷ cs) → c.ce ≡ false → Feeds t cs
  fed_rest t c cs feeds off =
      let P : Bool → Type 0 = λ b. (i : ℕ) → x (t + i) ≡ signed (width_in cells) (get_or (cond b (c.in_data ∷ tick_data cs) (tick_data cs)) i 0) in
      record { each = subst P off feeds.each }

  -- one more cycle before those that follow
  one_more : (c : Cycle) (cs : List Cycle) (values : Values) (rest settled : List Values) (t u : ℕ) → settled ≡ values ∷ rest → RegistersHold values t → (c.ce ≡ true → NodesHold values t)
      → ((j : ℕ) → u + ticks_in (take j cs) ≡ t + ticks_in (c ∷ take j cs)) → Follows cs rest u → Follows (c ∷ cs) settled t
  one_more c cs values rest settled t u is registers nodes count follows = record {
    registers = by_registers;
    nodes = by_nodes;
  }
    where
      start : t ≡ t + 0
      start = omega arith

      by_registers : (j : ℕ) (now : Values) → slice_get settled j ≡ Some now → RegistersHold now (t + ticks_in (take j (c ∷ cs)))
      by_registers zero now at =
          subst (λ (n : ℕ). RegistersHold now n) start (subst (λ (v : Values). RegistersHold v t) (same_values values now (sym (ap (λ (vs : List Values). slice_get vs 0) is) ∙ at)) registers)
      by_registers (suc j) now at =
          subst (λ (n : ℕ). RegistersHold now n) (count j) (follows.registers j now (sym (ap (λ (vs : List Values). slice_get vs (suc j)) is) ∙ at))

      by_nodes : (j : ℕ) (d : Cycle) (now : Values) → slice_get (c ∷ cs) j ≡ Some d → d.ce ≡ true → slice_get settled j ≡ Some now → NodesHold now (t + ticks_in (take j (c ∷ cs)))
      by_nodes zero d now here on at =
          subst (λ (n : ℕ). NodesHold now n) start
          (subst (λ (v : Values). NodesHold v t) (same_values values now (sym (ap (λ (vs : List Values). slice_get vs 0) is) ∙ at)) (nodes (ap (λ (e : Cycle). e.ce) (same_cycle c d here) ∙ on)))
      by_nodes (suc j) d now here on at =
          subst (λ (n : ℕ). NodesHold now n) (count j) (follows.nodes j d now here on (sym (ap (λ (vs : List Values). slice_get vs (suc j)) is) ∙ at))

  nothing : (settled : List Values) (t : ℕ) → settled ≡ [] → Follows [] settled t
  nothing settled t is = record {
    registers = λ j now at. absurd (none_there j now (sym (ap (λ (vs : List Values). slice_get vs j) is) ∙ at));
    nodes = λ j c now here on at. absurd (none_there j now (sym (ap (λ (vs : List Values). slice_get vs j) is) ∙ at));
  }
    where
      none_there : (j : ℕ) (now : Values) → slice_get {X = Values} [] j ≡ Some now → ⊥
      none_there j now e = cc

  -- over cycles without a reset the registers hold their nodes' values, tick by tick
  pub along : (cs : List Cycle) (content : Values) (settled : List Values) (t : ℕ) → IsRun (C cells netlist writable) content (map name cs) settled → HasNoReset cs → EachFits (width_in cells) cs → Feeds t cs
      → RegistersHold content t → Follows cs settled t
  along [] content settled t is none fits feeds registers = nothing settled t is
  along (c ∷ cs) content settled t (values, rest, is, settling, later) none fits feeds registers =
      by c.ce refl (λ u f r. along cs (next (C cells netlist writable) values) rest u later none.1 fits.1 f r)
    where
      here : RegistersHold values t
      here = record { each = λ place cell at reg. register_is_kept cells netlist writable c content values settling place cell at reg ∙ registers.each place cell at reg }

      at_tick : c.ce ≡ true → NodesHold values t
      at_tick on =
          let fed = fed_tick t c cs feeds on in
          record { each = nodes_hold cells netlist writable c content values settling x worth t run fits.0 fed.0 registers.each }

      by : (b : Bool) → c.ce ≡ b → ((u : ℕ) → Feeds u cs → RegistersHold (next (C cells netlist writable) values) u → Follows cs rest u) → Follows (c ∷ cs) settled t
      by true on more =
          let fed = fed_tick t c cs feeds on in
          one_more c cs values rest settled t (suc t) is here at_tick (λ j. rw on (let e : suc t + ticks_in (take j cs) ≡ t + suc (ticks_in (take j cs)) = omega arith in e))
          (more (suc t) fed.1 (record { each = ticks cells netlist writable c content values settling x worth t run fits.0 fed.0 registers.each none.0 on }))
      by false off more =
          one_more c cs values rest settled t t is here at_tick (λ j. rw off refl)
          (more t (fed_rest t c cs feeds off) (record { each = λ place cell at reg. rests cells netlist writable c content values settling none.0 off (N cells netlist writable place) ∙ here.each place cell at reg }))

-- ---- after the last reset

drop_suc : (n : ℕ) (vs : List Values) (v : Values) (rest : List Values) → drop n vs ≡ v ∷ rest → drop (suc n) vs ≡ rest
drop_suc zero [] v rest e = cc
drop_suc zero (w ∷ vs) v rest e = tail_same w v vs rest e
  where
    tail_same : (a b : Values) (xs ys : List Values) → a ∷ xs ≡ b ∷ ys → xs ≡ ys
    tail_same a b xs ys h = cc
drop_suc (suc n) [] v rest e = cc
drop_suc (suc n) (w ∷ vs) v rest e = drop_suc n vs v rest e

drop_more : (n m : ℕ) (vs : List Values) (v : Values) (rest : List Values) → n ≡ m → drop m vs ≡ v ∷ rest → drop (n + 1) vs ≡ rest
drop_more n m vs v rest same e = ap (λ (k : ℕ). drop k vs) (let is : n + 1 ≡ suc m = omega arith in is) ∙ drop_suc m vs v rest e

module _ (cells : List Cell) (netlist : IsNetlist cells) (writable : IsWritable cells) (content : Values) (before after : List Cycle) (reset : Cycle) (settled : List Values)
    (runs : RunsAfterReset cells content before after reset settled) (worth : Worth) (run : IsNetRun cut_all cells (samples_of (width_in cells) after) worth) where
  abbrev X : ℕ → ℤ
  X = samples_of (width_in cells) after

  -- the settled values after the reset cycle, and what holds of them
  pub record After : Type 0 where
    pub start : Values
    pub rest : List Values
    pub later : IsRun (C cells netlist writable) start (map (inputs_of (ports_of (D cells netlist writable))) after) rest
    pub there : (j : ℕ) → slice_get settled (length before + 1 + j) ≡ slice_get rest j
    pub dropped : drop (length before + 1) settled ≡ rest
    pub registers : RegistersHold cells netlist writable X worth run start 0

  pub after_reset : After
  after_reset =
      let names = inputs_of (ports_of (D cells netlist writable)) in
      let whole = subst (λ (is : List (List Input)). IsRun (C cells netlist writable) content is settled) (map-append names before (reset ∷ after)) runs.run in
      let on = run_on (C cells netlist writable) content (map names before) (map names (reset ∷ after)) settled whole in
      let count = length-map before names in
      let first = on.run in
      record {
        start = next (C cells netlist writable) first.0;
        rest = first.1;
        later = first.4;
        there = λ j. ap (slice_get settled) (let e : length before + 1 + j ≡ length (map names before) + suc j = omega (arith, count) in e) ∙ on.there (suc j)
            ∙ ap (λ (vs : List Values). slice_get vs (suc j)) first.2;
        dropped = drop_more (length before) (length (map names before)) settled first.0 first.1 (sym count) (on.dropped ∙ first.2);
        registers = record { each = resets cells netlist writable reset on.content first.0 first.3 runs.is_reset X worth run };
      }

  pub follows : Follows cells netlist writable X worth run after after_reset.rest 0
  follows = along cells netlist writable X worth run after after_reset.start after_reset.rest 0 after_reset.later runs.none runs.fit (record { each = λ i. ap X (let e : 0 + i ≡ i = omega arith in e) }) after_reset.registers

pub steps_as : (cells : List Cell) → IsNetlist cells → IsWritable cells → StepsAs cells
steps_as cells netlist writable = record {
  registers = λ content before after reset settled runs worth run j now at place cell there reg.
      let state = after_reset cells netlist writable content before after reset settled runs worth run in
      let held = (follows cells netlist writable content before after reset settled runs worth run).registers j now (sym (state.there j) ∙ at) in
      held.each place cell there reg ∙ ap (λ (t : ℕ). pattern cell.width (worth t place)) (let e : 0 + ticks_in (take j after) ≡ ticks_in (take j after) = omega arith in e);
  nodes = λ content before after reset settled runs worth run j c now here on at place cell there.
      let state = after_reset cells netlist writable content before after reset settled runs worth run in
      let held = ((follows cells netlist writable content before after reset settled runs worth run).nodes j c now here on (sym (state.there j) ∙ at)).each place cell there in
      held.bits ∙ ap (λ (w : ℕ). pattern w (worth (0 + ticks_in (take j after)) place)) (width_of cells netlist writable place cell there)
      ∙ ap (λ (t : ℕ). pattern cell.width (worth t place)) (let e : 0 + ticks_in (take j after) ≡ ticks_in (take j after) = omega arith in e);
  control = λ closed content before after reset settled runs worth run j now at place cell there is.
      let state = after_reset cells netlist writable content before after reset settled runs worth run in
      let x : ℕ → ℤ = samples_of (width_in cells) after in
      let t = 0 + ticks_in (take j after) in
      let held = (follows cells netlist writable content before after reset settled runs worth run).registers j now (sym (state.there j) ∙ at) in
      let settled_here = settled_in (C cells netlist writable) content (map (inputs_of (ports_of (D cells netlist writable))) (before ++ reset ∷ after)) settled runs.run (length before + 1 + j) now at in
      (control_holds cells netlist writable closed x worth run t now settled_here held.each place (record { cell = cell; there = there; control = is })).bits
      ∙ ap (λ (w : ℕ). pattern w (worth t place)) (width_of cells netlist writable place cell there)
      ∙ ap (λ (n : ℕ). pattern cell.width (worth n place)) (let e : 0 + ticks_in (take j after) ≡ ticks_in (take j after) = omega arith in e);
  rests = λ content now c settling off idle name. rests cells netlist writable c content now settling off idle name;
}
