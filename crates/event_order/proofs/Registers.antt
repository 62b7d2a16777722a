-- Contents of the same registers settle to the same wires, and have the same registers after the edge: whatever else they hold is not read, or is set as
-- an input.
use Rattle.std.proofs.Common.{◌≡◌, ℕ, zero, suc, ◌<◌, ◌%◌, ◌^◌, Bool, true, false, not, List, [], ◌∷◌, map, max, Option, None, Some, ◌⊎◌, inl, inr, slice_get, refl, sym, ap, ◌∙◌, arith, subst}
use Rattle.std.specs.Prelude.{◌==◌, if◌then◌else◌, codes, unwrap_or}
use Rattle.std.specs.Option.{option_map, option_map_or}
use Rattle.std.proofs.lemmas.Bool.{eq-eqb}
use Rattle.std.proofs.lemmas.Option.{slice_get-map}
use Rattle.verilog_tree.specs.declared.tree.Kind.{Kind}
use Rattle.verilog_tree.specs.declared.tree.Kind.TheVariants.{Input, Output, Wire, Reg}
use Rattle.verilog_tree.specs.declared.tree.Signal.{Signal}
use Rattle.verilog_tree.specs.Tree.{Tree, Action, Actions, Block, When, Either, Give, no_action, action, Assignment, Design}
use Rattle.verilog_tree.specs.Meaning.{Shapes, Values, assigned, bit_of, length_of, signed_of}
use Rattle.verilog_tree.specs.Names.{declaration_in, shapes_of, number_of}
use Rattle.verilog_tree.specs.Renaming.{AreDistinct}
use Rattle.verilog_tree.specs.Circuit.{put, Driver, Circuit, IsSource, IsSettled, IsSettling, IsSound, HasNoLoop, IsLevelled, Input as Setting, with_inputs, given_by, later, next}
use Rattle.verilog_tree.specs.Cycle.{reads, one_of, given, condition_holds, circuit_of, driver_of, process_of}
use Rattle.verilog_tree.specs.Shown.{Cycle, RunsOver, inputs_of, ports_of}
use Rattle.verilog_tree.specs.Checks.{Use, Assigned, Given, Read, Selected, tree_uses, action_uses, actions_uses, blocks_uses, uses, is_of_kind, can_be_assigned, can_be_given, Passes}
use Rattle.verilog_tree.proofs.DependsOnReads.{depends_on_reads}
use Rattle.verilog_tree.proofs.Settling.{Drives}
use Rattle.verilog_tree.proofs.OneSettling.{assign_at, circuit_sound, circuit_loop_free}
use Rattle.module_laws.proofs.Levels.{loop_free}
use Rattle.module_laws.proofs.Passing.{passing_driven}
use Rattle.module_laws.proofs.TextOrder.{Every}
use Rattle.event_order.specs.Laws.{IsRegister, IsWire, IsCycleOf, AreCyclesOf, EveryStart, inputs_over}
use Rattle.event_order.specs.Order.{Moment, IsStart, AreOrders, first_moment}
use Rattle.event_order.proofs.Declared.{behind_tree, behind_action, behind_assigns}
use Rattle.event_order.proofs.EveryOrder.{every_order, first_start}
use Rattle.event_order.proofs.Inputs.{of_cycle}
use Rattle.event_order.proofs.ReadNames.{Allows, read_in, assign_reads, IsSet, IsKnown, all_known, assigned_kind}

-- ---- wires, level by level

-- values that agree on the sources of a property, and in which each name that is read is a wire or has the property, agree on all these
module _ (c : Circuit) (sound : IsSound c) (level : ℕ → ℕ) (levelled : IsLevelled c level) (Source : ℕ → Type 0)
    (known : (k : ℕ) (d : Driver) → slice_get c.drivers k ≡ Some d → (n : ℕ) → d.reads n ≡ true → Drives c.drivers n ⊎ Source n)
    (v w : Values) (same : (n : ℕ) → Source n → v n ≡ w n) (sv : IsSettled c v) (sw : IsSettled c w) where
  below : (bound n : ℕ) → level n < bound → Drives c.drivers n ⊎ Source n → v n ≡ w n
  below zero n lt which = absurd (omega (arith, lt))
  below (suc bound) n lt (inr source) = same n source
  below (suc bound) n lt (inl (k, d, at, is)) =
      sym (ap v is) ∙ sv k d at
      ∙ sound.depends k d at v w (λ m read. below bound m (omega (arith, lt, levelled k d at m read, ap level is)) (known k d at m read))
      ∙ sym (sw k d at) ∙ ap w is

  agree : (n : ℕ) → Drives c.drivers n ⊎ Source n → v n ≡ w n
  agree n which = below (suc (level n)) n (omega arith) which

-- ---- inputs that are set

-- the same where the values are the same before
kept_same : (inputs : List Setting) (a b : Values) (n : ℕ) → a n ≡ b n → with_inputs inputs a n ≡ with_inputs inputs b n
kept_same [] a b n same = same
kept_same (i ∷ is) a b n same = kept_same is (put a i.name i.value) (put b i.name i.value) n (by (n == i.name))
  where
    by : (t : Bool) → (if t then i.value else a n) ≡ (if t then i.value else b n)
    by true = refl
    by false = same

-- an input of this name is among those that are set
abbrev IsAmong : List Setting → ℕ → Type 0
IsAmong inputs n = (k : ℕ) × (i : Setting) × (slice_get inputs k ≡ Some i) × (i.name ≡ n)

set_same : (inputs : List Setting) (a b : Values) (n : ℕ) → IsAmong inputs n → with_inputs inputs a n ≡ with_inputs inputs b n
set_same [] a b n (k, i, at, name) = absurd (grind arith)
set_same (j ∷ inputs) a b n (zero, i, at, name) = kept_same inputs (put a j.name j.value) (put b j.name j.value) n (ap (λ (t : Bool). if t then j.value else a n) here ∙ sym (ap (λ (t : Bool). if t then j.value else b n) here))
  where
    is_it : j ≡ i
    is_it = cc

    here : (n == j.name) ≡ true
    here = eq-eqb n j.name (sym (ap (λ (x : Setting). x.name) is_it ∙ name))
set_same (j ∷ inputs) a b n (suc k, i, at, name) = set_same inputs (put a j.name j.value) (put b j.name j.value) n (k, i, at, name)

-- ---- blocks

abbrev Same : Values → Values → ℕ → Type 0
Same v w n = v n ≡ w n

module _ (shapes : Shapes) (v w : Values) (register : ℕ) where
  condition_same : (e : Tree) (rest : List Use) → Every (Allows (Same v w)) (tree_uses e rest) → condition_holds shapes v e ≡ condition_holds shapes w e
  condition_same e rest all = ap (λ (x : ℕ). not (x == 0)) (depends_on_reads shapes v w e (read_in (Same v w) e rest all) (length_of shapes e) (signed_of shapes e))

  assigned_same : (target : ℕ) (e : Tree) (rest : List Use) → Every (Allows (Same v w)) (tree_uses e rest) → assigned shapes v target e ≡ assigned shapes w target e
  assigned_same target e rest all = ap (λ (x : ℕ). x % 2 ^ shapes.width target) (depends_on_reads shapes v w e (read_in (Same v w) e rest all) (max (length_of shapes e) (shapes.width target)) (signed_of shapes e))

  mutual
    action_same : (s : Action) (rest : List Use) → Every (Allows (Same v w)) (action_uses s rest) → given shapes v s register ≡ given shapes w s register
    action_same (Block members) rest all = actions_same members rest all
    action_same (When c first) rest all =
        ap (λ (t : Bool). one_of t (given shapes v first register) None) (condition_same c (action_uses first rest) all)
        ∙ ap (λ (o : Option ℕ). one_of (condition_holds shapes w c) o None) (action_same first rest (behind_tree (Allows (Same v w)) c (action_uses first rest) all))
    action_same (Either c first second) rest all =
        let inner = behind_tree (Allows (Same v w)) c (action_uses first (action_uses second rest)) all in
        ap (λ (t : Bool). one_of t (given shapes v first register) (given shapes v second register)) (condition_same c (action_uses first (action_uses second rest)) all)
        ∙ ap (λ (o : Option ℕ). one_of (condition_holds shapes w c) o (given shapes v second register)) (action_same first (action_uses second rest) inner)
        ∙ ap (one_of (condition_holds shapes w c) (given shapes w first register)) (action_same second rest (behind_action (Allows (Same v w)) first (action_uses second rest) inner))
    action_same (Give target e) rest all = ap (λ (x : ℕ). if register == target then Some x else None) (assigned_same target e rest all.1)

    actions_same : (ss : Actions) (rest : List Use) → Every (Allows (Same v w)) (actions_uses ss rest) → given shapes v (Block ss) register ≡ given shapes w (Block ss) register
    actions_same no_action rest all = refl
    actions_same (action first others) rest all =
        ap (λ (o : Option ℕ). later o (given shapes v (Block others) register)) (action_same first (actions_uses others rest) all)
        ∙ ap (later (given shapes w first register)) (actions_same others rest (behind_action (Allows (Same v w)) first (actions_uses others rest) all))

  blocks_same : (blocks : List Action) → Every (Allows (Same v w)) (blocks_uses blocks) → given_by (map (process_of shapes) blocks) v register ≡ given_by (map (process_of shapes) blocks) w register
  blocks_same [] all = refl
  blocks_same (s ∷ blocks) all =
      ap (λ (o : Option ℕ). later o (given_by (map (process_of shapes) blocks) v register)) (action_same s (blocks_uses blocks) all)
      ∙ ap (later (given shapes w s register)) (blocks_same blocks (behind_action (Allows (Same v w)) s (blocks_uses blocks) all))

every_use : (P Q : Use → Type 0) → ((u : Use) → P u → Q u) → (us : List Use) → Every P us → Every Q us
every_use P Q f [] all = tt
every_use P Q f (u ∷ us) all = (f u all.0, every_use P Q f us all.1)

-- ---- a cycle from the same registers

module _ (d : Design) (passes : Passes d) (distinct : AreDistinct d.names) where
  sound : IsSound (circuit_of d)
  sound = circuit_sound d (passing_driven d passes)

  no_loop : HasNoLoop (circuit_of d)
  no_loop = circuit_loop_free d (loop_free d passes.free)

  driver_at : (k : ℕ) (a : Assignment) → slice_get d.assigns k ≡ Some a → slice_get (circuit_of d).drivers k ≡ Some (driver_of (shapes_of d) a)
  driver_at k a at = slice_get-map (driver_of (shapes_of d)) d.assigns k ∙ ap (option_map (driver_of (shapes_of d))) at

  pub wire_driven : (n : ℕ) → IsWire d n → Drives (circuit_of d).drivers n
  wire_driven n (k, a, at, is) = (k, driver_of (shapes_of d) a, driver_at k a at, is)

  -- a register isn't driven by an assignment
  pub register_source : (n : ℕ) → IsRegister d n → IsSource (circuit_of d) n
  register_source n register k by at is =
      let a = assign_at d k by at in
      let target : (a.0).target ≡ n = ap (λ (x : Driver). x.target) a.2 ∙ is in
      let kind : is_of_kind can_be_assigned d n ≡ true = ap (is_of_kind can_be_assigned d) (sym target) ∙ assigned_kind d passes distinct k a.0 a.1 in
      apart (declaration_in d.signals n) register kind
    where
      apart : (o : Option Signal) → option_map_or (λ (s : Signal). can_be_given s.kind) o false ≡ true → option_map_or (λ (s : Signal). can_be_assigned s.kind) o false ≡ true → ⊥
      apart None e f = grind arith
      apart (Some s) e f = kinds s.kind e f
        where
          kinds : (k : Kind) → can_be_given k ≡ true → can_be_assigned k ≡ true → ⊥
          kinds Reg e f = grind arith
          kinds Input e f = grind arith
          kinds Output e f = grind arith
          kinds Wire e f = grind arith

  is_among : (cycle : Cycle) (n : ℕ) → IsSet d n → IsAmong (inputs_of (ports_of d) cycle) n
  is_among cycle n (inl is) = (0, record { name = number_of d (codes "rst"); value = bit_of cycle.rst }, refl, sym is)
  is_among cycle n (inr (inl is)) = (1, record { name = number_of d (codes "ce"); value = bit_of cycle.ce }, refl, sym is)
  is_among cycle n (inr (inr is)) = (2, record { name = number_of d (codes "in_data"); value = cycle.in_data }, refl, sym is)

  set_source : (cycle : Cycle) (n : ℕ) → IsSet d n → IsSource (circuit_of d) n
  set_source cycle n (inl is) k by at to = of_cycle d passes distinct cycle 0 (record { name = 0; value = 0 }) (omega arith) k by at (to ∙ is)
  set_source cycle n (inr (inl is)) k by at to = of_cycle d passes distinct cycle 1 (record { name = 0; value = 0 }) (omega arith) k by at (to ∙ is)
  set_source cycle n (inr (inr is)) k by at to = of_cycle d passes distinct cycle 2 (record { name = 0; value = 0 }) (omega arith) k by at (to ∙ is)

  module _ (cycle : Cycle) (a b v w : Values) (registers : (n : ℕ) → IsRegister d n → a n ≡ b n)
      (sv : IsSettling (circuit_of d) (with_inputs (inputs_of (ports_of d) cycle) a) v) (sw : IsSettling (circuit_of d) (with_inputs (inputs_of (ports_of d) cycle) b) w) where
    abbrev Source : ℕ → Type 0
    Source n = IsSource (circuit_of d) n × (with_inputs (inputs_of (ports_of d) cycle) a n ≡ with_inputs (inputs_of (ports_of d) cycle) b n)

    source_same : (n : ℕ) → Source n → v n ≡ w n
    source_same n s = sv.sources n s.0 ∙ s.1 ∙ sym (sw.sources n s.0)

    which_of : (n : ℕ) → IsKnown d n → Drives (circuit_of d).drivers n ⊎ Source n
    which_of n (inl wire) = inl (wire_driven n wire)
    which_of n (inr (inl register)) = inr (register_source n register, kept_same (inputs_of (ports_of d) cycle) a b n (registers n register))
    which_of n (inr (inr set)) = inr (set_source cycle n set, set_same (inputs_of (ports_of d) cycle) a b n (is_among cycle n set))

    reads_known : (k : ℕ) (by : Driver) → slice_get (circuit_of d).drivers k ≡ Some by → (n : ℕ) → by.reads n ≡ true → Drives (circuit_of d).drivers n ⊎ Source n
    reads_known k by at n read =
        let a = assign_at d k by at in
        which_of n (assign_reads (IsKnown d) d.assigns (blocks_uses d.blocks) (all_known d passes distinct) k a.0 a.1 n (ap (λ (x : Driver). x.reads n) a.2 ∙ read))

    -- they settle to the same values of all names that matter
    pub settles_same : (n : ℕ) → IsKnown d n → v n ≡ w n
    settles_same n which = agree (circuit_of d) sound no_loop.0 no_loop.1 Source reads_known v w source_same sv.settled sw.settled n (which_of n which)

    as_same : (u : Use) → Allows (IsKnown d) u → Allows (Same v w) u
    as_same (Assigned n) which = tt
    as_same (Given n) which = tt
    as_same (Read n) which = settles_same n which
    as_same (Selected n high low) which = settles_same n which

    -- the blocks give the same values
    pub given_same : (register : ℕ) → given_by (circuit_of d).processes v register ≡ given_by (circuit_of d).processes w register
    given_same register =
        blocks_same (shapes_of d) v w register d.blocks
        (behind_assigns (Allows (Same v w)) d.assigns (blocks_uses d.blocks) (every_use (Allows (IsKnown d)) (Allows (Same v w)) as_same (uses d) (all_known d passes distinct)))

    pub next_same : (n : ℕ) → IsRegister d n → next (circuit_of d) v n ≡ next (circuit_of d) w n
    next_same n register =
        ap (λ (o : Option ℕ). unwrap_or o (v n)) (given_same n) ∙ ap (unwrap_or (given_by (circuit_of d).processes w n)) (settles_same n (inr (inl register)))

  -- ---- all cycles

  pub every_cycle : (cycles : List Cycle) (content : Values) (start : Moment) (settled reads ends : List Values) → ((n : ℕ) → IsRegister d n → start.values n ≡ content n) → IsStart (circuit_of d) start
      → RunsOver d content cycles settled → AreOrders (circuit_of d) (inputs_over d cycles) start reads ends → AreCyclesOf d settled reads ends
  every_cycle [] content start settled reads ends registers begins none orders = subst (λ (values : List Values). AreCyclesOf d values reads ends) (sym none) orders
  every_cycle (cycle ∷ cycles) content start settled reads ends registers begins (values, rest, is, settling, run) (steps, read, middle, others, later, reads_are, ends_are, order, more) =
      let one = every_order (circuit_of d) sound (inputs_of (ports_of d) cycle) start steps read middle (of_cycle d passes distinct cycle) begins order in
      let same = settles_same cycle start.values content read.values values registers one.0 settling in
      let after : (n : ℕ) → IsRegister d n → middle.values n ≡ next (circuit_of d) values n =
      λ n register. one.1 n (register_source n register) ∙ next_same cycle start.values content read.values values registers one.0 settling n register in
      let cycle_of : IsCycleOf d values read.values middle.values = record {
        wires = λ n wire. same n (inl wire);
        registers = λ n register. same n (inr (inl register));
        registers_after = after;
      } in
      subst (λ (all : List Values). AreCyclesOf d all reads ends) (sym is)
      (read.values, others, middle.values, later, reads_are, ends_are, cycle_of, every_cycle cycles (next (circuit_of d) values) middle rest others later after one.2 run more)

  pub every_start : EveryStart d
  every_start cycles content begun settled reads ends registers run orders =
      every_cycle cycles content (first_moment begun) settled reads ends registers (first_start (circuit_of d) sound begun) run orders
