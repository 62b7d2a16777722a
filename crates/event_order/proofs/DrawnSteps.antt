-- The drawn steps are an order of a cycle.
use Rattle.std.proofs.Common.{◌≡◌, ℕ, zero, suc, ◌+◌, ◌<◌, ◌≤◌, Bool, true, false, not, ◌&&◌, ◌||◌, List, [], ◌∷◌, ◌++◌, map, length, get_or, Option, None, Some, ◌⊎◌, inl, inr, slice_get, refl, sym, ap, ◌∙◌, arith, subst}
use Rattle.std.specs.Prelude.{◌==◌, if◌then◌else◌, is_some, All}
use Rattle.std.specs.Option.{option_map_or}
use Rattle.std.proofs.Math.Path.{fun_ext}
use Rattle.std.proofs.lemmas.Bool.{eqb-true, eqb-false, eq-eqb, ne_eqb}
use Rattle.std.proofs.lemmas.List.Elements.{All-cons}
use Rattle.std.proofs.lemmas.Option.{slice_get-get_or, slice_get_within}
use Rattle.verilog_tree.specs.Meaning.{Values}
use Rattle.verilog_tree.specs.Circuit.{Driver, Process, Circuit, IsSettled, IsSettling, IsSound, IsLevelled, HasNoLoop, Input, with_inputs, given_by}
use Rattle.verilog_tree.proofs.Settling.{one_settling}
use Rattle.event_order.specs.Order.{Moment, Step, Evaluate, Run, Update, reads_at, evaluated, ran, updated, IsStep, Leads, is_evaluation, is_update, is_run, with_inputs_set, IsQuiet, HasRun, IsUpdated, IsOrder, IsStart, AreInputs}
use Rattle.event_order.specs.Drawn.{state_after, how_many, drawn_place, drawn_places, is_taken, reads_wire, open_reads, evaluations, runs, is_given, updates, update_count, drawn_steps}
use Rattle.event_order.proofs.Counting.{count-all, count-none, count-empty, some_or_none}
use Rattle.event_order.proofs.DrawnPlaces.{taken-new, taken-other, taken-kept, taken-either, Proceeds, drawn_next, all_taken}
use Rattle.event_order.proofs.Moments.{same_some, reads_here, steps_keep}
use Rattle.event_order.proofs.EveryOrder.{given_some, Settles, settle_step, inputs_set, Runs, run_step, first_runs, all_given}

-- ---- lists of steps

pub place_there : {A : Type 0} (xs : List A) (k : ℕ) → k < length xs → (x : A) × (slice_get xs k ≡ Some x)
place_there [] k lt = absurd (omega (arith, lt))
place_there (x ∷ xs) zero lt = (x, refl)
place_there (x ∷ xs) (suc k) lt = place_there xs k (omega (arith, lt))

map_more : (f : ℕ → Step) (ks : List ℕ) (k : ℕ) → map f (ks ++ k ∷ []) ≡ map f ks ++ f k ∷ []
map_more f [] k = refl
map_more f (j ∷ ks) k = ap (λ (ss : List Step). f j ∷ ss) (map_more f ks k)

all_map : (P : Step → Type 0) (f : ℕ → Step) → ((k : ℕ) → P (f k)) → (ks : List ℕ) → All P (map f ks)
all_map P f each [] = λ k d lt. absurd (omega (arith, lt))
all_map P f each (k ∷ ks) = All-cons P (f k) (map f ks) (each k) (all_map P f each ks)

leads_more : (c : Circuit) (m : Moment) (ss : List Step) (middle : Moment) (s : Step) (after : Moment) → Leads c m ss middle → IsStep c middle s after → Leads c m (ss ++ s ∷ []) after
leads_more c m [] middle s after is step = (after, subst (λ (from : Moment). IsStep c from s after) is step, refl)
leads_more c m (t ∷ ss) middle s after (next, first, rest) step = (next, first, leads_more c next ss middle s after rest step)

leads_drawn : (c : Circuit) (m : Moment) (f : ℕ → Step) (ks : List ℕ) (k : ℕ) (middle after : Moment) → Leads c m (map f ks) middle → IsStep c middle (f k) after → Leads c m (map f (ks ++ k ∷ [])) after
leads_drawn c m f ks k middle after leads step = subst (λ (ss : List Step). Leads c m ss after) (sym (map_more f ks k)) (leads_more c m (map f ks) middle (f k) after leads step)

-- ---- tests

and_true : (a b : Bool) → (a && b) ≡ true → (a ≡ true) × (b ≡ true)
and_true true b is = (refl, is)
and_true false b is = absurd (grind arith)

and_false : (a b : Bool) → a ≡ true → (a && not b) ≡ false → b ≡ true
and_false true true is fails = refl
and_false true false is fails = absurd (grind arith)
and_false false b is fails = absurd (grind arith)

not_true : (b : Bool) → not b ≡ true → b ≡ false
not_true true is = absurd (grind arith)
not_true false is = refl

clash : {A : Type 0} (b : Bool) → b ≡ true → b ≡ false → A
clash true t f = absurd (grind arith)
clash false t f = absurd (grind arith)

count-every : (n : ℕ) → how_many (λ k. true) n ≡ n
count-every n = count-all (λ k. true) n (λ k lt. refl)

-- ---- the evaluations

module _ (c : Circuit) where
  -- those that were evaluated are not pending, and all that they read was evaluated
  pub record Evaluated (taken : List ℕ) (m : Moment) : Type 0 where
    pub quiet : (k : ℕ) (d : Driver) → slice_get c.drivers k ≡ Some d → is_taken taken k ≡ true → m.pending k ≡ false
    pub closed : (k j : ℕ) → is_taken taken k ≡ true → j < length c.drivers → reads_wire c k j ≡ true → is_taken taken j ≡ true

  pub evaluated_more : (taken : List ℕ) (m : Moment) (p : ℕ) (d : Driver) → slice_get c.drivers p ≡ Some d → is_taken taken p ≡ false → open_reads c taken p ≡ 0
      → Evaluated taken m → Evaluated (taken ++ p ∷ []) (evaluated c p d m)
  evaluated_more taken m p d at untaken closed h = record {
    quiet = λ k e found is. quiet k e found (taken-either taken p k is);
    closed = λ k j is lt reads. by k j lt reads (taken-either taken p k is);
  }
    where
      read_taken : (j : ℕ) → j < length c.drivers → reads_wire c p j ≡ true → is_taken taken j ≡ true
      read_taken j lt reads = and_false (reads_wire c p j) (is_taken taken j) reads (count-none (λ j. reads_wire c p j && not (is_taken taken j)) (length c.drivers) closed j lt)

      by : (k j : ℕ) → j < length c.drivers → reads_wire c k j ≡ true → (is_taken taken k ≡ true) ⊎ (k ≡ p) → is_taken (taken ++ p ∷ []) j ≡ true
      by k j lt reads (inl before) = taken-kept taken p j (h.closed k j before lt reads)
      by k j lt reads (inr same) = taken-kept taken p j (read_taken j lt (ap (λ (i : ℕ). reads_wire c i j) (sym same) ∙ reads))

      -- it reads no wire whose assignment was not evaluated
      unread : (k : ℕ) → (is_taken taken k ≡ true) ⊎ (k ≡ p) → (b : Bool) → reads_wire c k p ≡ b → reads_wire c k p ≡ false
      unread k side false is = is
      unread k (inl before) true is = clash (is_taken taken p) (h.closed k p before (slice_get_within c.drivers p d at) is) untaken
      unread k (inr same) true is = clash (is_taken taken p) (read_taken p (slice_get_within c.drivers p d at) (ap (λ (i : ℕ). reads_wire c i p) (sym same) ∙ is)) untaken

      was_quiet : (k : ℕ) (e : Driver) → slice_get c.drivers k ≡ Some e → (is_taken taken k ≡ true) ⊎ (k ≡ p) → (if k == p then false else m.pending k) ≡ false
      was_quiet k e found (inl before) = choose (k == p) (h.quiet k e found before)
        where
          choose : (b : Bool) → m.pending k ≡ false → (if b then false else m.pending k) ≡ false
          choose true is = refl
          choose false is = is
      was_quiet k e found (inr same) = ap (λ (b : Bool). if b then false else m.pending k) (eq-eqb k p same)

      joined : (a changes reads : Bool) → a ≡ false → reads ≡ false → (a || (changes && reads)) ≡ false
      joined true changes reads first second = absurd (grind arith)
      joined false true reads first second = second
      joined false false reads first second = refl

      quiet : (k : ℕ) (e : Driver) → slice_get c.drivers k ≡ Some e → (is_taken taken k ≡ true) ⊎ (k ≡ p) → (evaluated c p d m).pending k ≡ false
      quiet k e found side =
          joined (if k == p then false else m.pending k) (not (m.values d.target == d.value m.values)) (reads_at c d.target k) (was_quiet k e found side)
          (sym (ap (λ (o : Option Driver). option_map_or (λ (x : Driver). reads_at c x.target k) o false) at) ∙ unread k side (reads_wire c k p) refl)

module _ (c : Circuit) (sound : IsSound c) (level : ℕ → ℕ) (levelled : IsLevelled c level) where
  wire_of : (k j : ℕ) → reads_wire c k j ≡ true → (e : Driver) × (slice_get c.drivers j ≡ Some e) × (reads_at c e.target k ≡ true)
  wire_of k j is = by (slice_get c.drivers j) refl is
    where
      by : (o : Option Driver) → slice_get c.drivers j ≡ o → option_map_or (λ (d : Driver). reads_at c d.target k) o false ≡ true → (e : Driver) × (slice_get c.drivers j ≡ Some e) × (reads_at c e.target k ≡ true)
      by None e holds = absurd (grind arith)
      by (Some d) e holds = (d, e, holds)

  -- of the assignments that were not evaluated, those with the lowest wires may come next
  lowest : (taken : List ℕ) (bound k : ℕ) (d : Driver) → slice_get c.drivers k ≡ Some d → level d.target < bound → is_taken taken k ≡ false
      → (j : ℕ) × (j < length c.drivers) × ((evaluations c).may taken j ≡ true)
  lowest taken zero k d at lt untaken = absurd (omega (arith, lt))
  lowest taken (suc bound) k d at lt untaken =
      by (some_or_none (λ j. reads_wire c k j && not (is_taken taken j)) (length c.drivers)) (λ j e found less left. lowest taken bound j e found less left)
    where
      by : ((j : ℕ) × (j < length c.drivers) × ((reads_wire c k j && not (is_taken taken j)) ≡ true)) ⊎ ((j : ℕ) → j < length c.drivers → (reads_wire c k j && not (is_taken taken j)) ≡ false)
          → ((j : ℕ) (e : Driver) → slice_get c.drivers j ≡ Some e → level e.target < bound → is_taken taken j ≡ false → (j : ℕ) × (j < length c.drivers) × ((evaluations c).may taken j ≡ true))
          → (j : ℕ) × (j < length c.drivers) × ((evaluations c).may taken j ≡ true)
      by (inl (j, inside, is)) lower =
          let parts = and_true (reads_wire c k j) (not (is_taken taken j)) is in
          let wire = wire_of k j parts.0 in
          let below = levelled k d at wire.0.target (sym (reads_here c wire.0.target k d at) ∙ wire.2) in
          lower j wire.0 wire.1 (omega (arith, below, lt)) (not_true (is_taken taken j) parts.1)
      by (inr none) lower =
          let closed : open_reads c taken k ≡ 0 = count-empty (λ j. reads_wire c k j && not (is_taken taken j)) (length c.drivers) none in
          (k, slice_get_within c.drivers k d at, ap (λ (b : Bool). not b && open_reads c taken k == 0) untaken ∙ eq-eqb (open_reads c taken k) 0 closed)

  pub evaluations_proceed : Proceeds (evaluations c) (λ k. true)
  evaluations_proceed = record {
    only = λ taken k may. (not_true (is_taken taken k) (and_true (not (is_taken taken k)) (open_reads c taken k == 0) may).0, refl);
    goes = λ taken k lt untaken due. let there = place_there c.drivers k lt in lowest taken (suc (level there.0.target)) k there.0 there.1 (omega arith) untaken;
  }

  pub settle_leads : (m : Moment) (state draws : ℕ) → draws ≤ length c.drivers
      → (after : Moment) × Leads c m (map Evaluate (drawn_places (evaluations c) state draws)) after × Evaluated c (drawn_places (evaluations c) state draws) after
  settle_leads m state zero le = (m, refl, record { quiet = λ k d at is. absurd (grind arith); closed = λ k j is lt reads. absurd (grind arith) })
  settle_leads m state (suc draws) le =
      let taken = drawn_places (evaluations c) state draws in
      let p = drawn_place (evaluations c) taken (state_after state draws) in
      let before = settle_leads m state draws (omega (arith, le)) in
      let all = count-every (length c.drivers) in
      let found = drawn_next (evaluations c) (λ k. true) evaluations_proceed state draws (omega (arith, le, all)) in
      let parts = and_true (not (is_taken taken p)) (open_reads c taken p == 0) found.passes in
      let there = place_there c.drivers p found.inside in (
        evaluated c p there.0 before.0,
        leads_drawn c m Evaluate taken p before.0 (evaluated c p there.0 before.0) before.1 (there.0, there.1, refl),
        evaluated_more c taken before.0 p there.0 there.1 (not_true (is_taken taken p) parts.0) (eqb-true (open_reads c taken p) 0 parts.1) before.2,
      )

-- ---- the runs of the blocks

module _ (c : Circuit) where
  pub runs_proceed : Proceeds (runs c) (λ k. true)
  runs_proceed = record {
    only = λ taken k may. (not_true (is_taken taken k) may, refl);
    goes = λ taken k lt untaken due. (k, lt, ap not untaken);
  }

  -- the blocks that were not taken are still to run
  pub record Waits (taken : List ℕ) (m : Moment) : Type 0 where
    pub each : (k : ℕ) → m.waiting k ≡ not (is_taken taken k)

  waits_more : (taken : List ℕ) (m : Moment) (place : ℕ) (p : Process) → Waits taken m → Waits (taken ++ place ∷ []) (ran place p m)
  waits_more taken m place p h = record { each = λ k. by k (k == place) refl }
    where
      by : (k : ℕ) (b : Bool) → (k == place) ≡ b → (if b then false else m.waiting k) ≡ not (is_taken (taken ++ place ∷ []) k)
      by k true e = sym (ap (λ (j : ℕ). not (is_taken (taken ++ place ∷ []) j)) (eqb-true k place e) ∙ ap not (taken-new taken place))
      by k false e = h.each k ∙ sym (ap not (taken-other taken place k (eqb-false k place e)))

  pub run_leads : (m : Moment) (state draws : ℕ) → draws ≤ length c.processes → Waits [] m
      → (after : Moment) × Leads c m (map Run (drawn_places (runs c) state draws)) after × Waits (drawn_places (runs c) state draws) after
  run_leads m state zero le waits = (m, refl, waits)
  run_leads m state (suc draws) le waits =
      let taken = drawn_places (runs c) state draws in
      let p = drawn_place (runs c) taken (state_after state draws) in
      let before = run_leads m state draws (omega (arith, le)) waits in
      let all = count-every (length c.processes) in
      let found = drawn_next (runs c) (λ k. true) runs_proceed state draws (omega (arith, le, all)) in
      let there = place_there c.processes p found.inside in (
        ran p there.0 before.0,
        leads_drawn c m Run taken p before.0 (ran p there.0 before.0) before.1 (there.0, there.1, before.2.each p ∙ found.passes, refl),
        waits_more taken before.0 p there.0 before.2,
      )

-- ---- the updates of the registers

-- different names, among which are those of all registers to which blocks give a value
pub record NamesRegisters (c : Circuit) (names : List ℕ) : Type 0 where
  pub apart : (i j n : ℕ) → slice_get names i ≡ Some n → slice_get names j ≡ Some n → i ≡ j
  pub covers : (k : ℕ) (p : Process) (values : Values) (register x : ℕ) → slice_get c.processes k ≡ Some p → p values register ≡ Some x → (i : ℕ) × (slice_get names i ≡ Some register)

module _ (c : Circuit) (names : List ℕ) (values : Values) (first : Moment) (given : (n : ℕ) → first.updates n ≡ given_by c.processes values n) (good : NamesRegisters c names) where
  pub updates_proceed : Proceeds (updates c names values) (is_given c names values)
  updates_proceed = record {
    only = λ taken k may. let parts = and_true (not (is_taken taken k)) (is_given c names values k) may in (not_true (is_taken taken k) parts.0, parts.1);
    goes = λ taken k lt untaken due. (k, lt, ap (λ (b : Bool). not b && is_given c names values k) untaken ∙ due);
  }

  given_here : (k n : ℕ) → slice_get names k ≡ Some n → is_given c names values k ≡ is_some (given_by c.processes values n)
  given_here k n at = ap (λ (o : Option ℕ). option_map_or (λ (r : ℕ). is_some (given_by c.processes values r)) o false) at

  is_some_of : (o : Option ℕ) → is_some o ≡ true → (x : ℕ) × (o ≡ Some x)
  is_some_of None is = absurd (grind arith)
  is_some_of (Some x) is = (x, refl)

  pub record Remain (taken : List ℕ) (m : Moment) : Type 0 where
    pub still : (k n : ℕ) → slice_get names k ≡ Some n → is_taken taken k ≡ false → m.updates n ≡ first.updates n
    pub gone : (k n : ℕ) → slice_get names k ≡ Some n → is_taken taken k ≡ true → m.updates n ≡ None
    pub none : (n : ℕ) → first.updates n ≡ None → m.updates n ≡ None

  remain_more : (taken : List ℕ) (m : Moment) (p r x : ℕ) → slice_get names p ≡ Some r → Remain taken m → Remain (taken ++ p ∷ []) (updated c r x m)
  remain_more taken m p r x at h = record {
    still = λ k n found untaken. still k n found untaken (k == p) refl;
    gone = λ k n found is. gone k n found (taken-either taken p k is);
    none = λ n is. empty n (h.none n is) (n == r);
  }
    where
      empty : (n : ℕ) → m.updates n ≡ None → (b : Bool) → (if b then None else m.updates n) ≡ None
      empty n is true = refl
      empty n is false = is

      gone : (k n : ℕ) → slice_get names k ≡ Some n → (is_taken taken k ≡ true) ⊎ (k ≡ p) → (if n == r then None else m.updates n) ≡ None
      gone k n found (inl before) = empty n (h.gone k n found before) (n == r)
      gone k n found (inr same) =
          let name : n ≡ r = same_some n r (sym found ∙ ap (slice_get names) same ∙ at) in
          ap (λ (b : Bool). if b then None else m.updates n) (eq-eqb n r name)

      still : (k n : ℕ) → slice_get names k ≡ Some n → is_taken (taken ++ p ∷ []) k ≡ false → (b : Bool) → (k == p) ≡ b → (if n == r then None else m.updates n) ≡ first.updates n
      still k n found untaken true e = clash (is_taken (taken ++ p ∷ []) k) (ap (is_taken (taken ++ p ∷ [])) (eqb-true k p e) ∙ taken-new taken p) untaken
      still k n found untaken false e =
          let other : k ≡ p → ⊥ = eqb-false k p e in
          ap (λ (b : Bool). if b then None else m.updates n) (ne_eqb n r (λ same. other (good.apart k p n found (at ∙ ap Some (sym same)))))
          ∙ h.still k n found (sym (taken-other taken p k other) ∙ untaken)

  pub update_leads : (state draws : ℕ) → draws ≤ update_count c names values
      → (after : Moment) × Leads c first (map (λ k. Update (get_or names k 0)) (drawn_places (updates c names values) state draws)) after × Remain (drawn_places (updates c names values) state draws) after
  update_leads state zero le = (first, refl, record { still = λ k n at untaken. refl; gone = λ k n at is. absurd (grind arith); none = λ n is. is })
  update_leads state (suc draws) le =
      let taken = drawn_places (updates c names values) state draws in
      let p = drawn_place (updates c names values) taken (state_after state draws) in
      let r = get_or names p 0 in
      let before = update_leads state draws (omega (arith, le)) in
      let found = drawn_next (updates c names values) (is_given c names values) updates_proceed state draws (omega (arith, le)) in
      let parts = and_true (not (is_taken taken p)) (is_given c names values p) found.passes in
      let at : slice_get names p ≡ Some r = slice_get-get_or names p 0 found.inside in
      let value = is_some_of (given_by c.processes values r) (sym (given_here p r at) ∙ parts.1) in
      let coming : before.0.updates r ≡ Some value.0 = before.2.still p r at (not_true (is_taken taken p) parts.0) ∙ given r ∙ value.1 in (
        updated c r value.0 before.0,
        leads_drawn c first (λ k. Update (get_or names k 0)) taken p before.0 (updated c r value.0 before.0) before.1 (value.0, coming, refl),
        remain_more taken before.0 p r value.0 at before.2,
      )

  pub none_remains : (state : ℕ) (m : Moment) → Remain (drawn_places (updates c names values) state (update_count c names values)) m → IsUpdated m
  none_remains state m h register = by (first.updates register) refl
    where
      by : (o : Option ℕ) → first.updates register ≡ o → m.updates register ≡ None
      by None is = h.none register is
      by (Some x) is =
          let has : given_by c.processes values register ≡ Some x = sym (given register) ∙ is in
          let block = given_some c.processes values register x has in
          let place = good.covers block.0 block.1 values register x block.2 block.3 in
          h.gone place.0 register place.1
          (all_taken (updates c names values) (is_given c names values) updates_proceed state place.0 (slice_get_within names place.0 register place.1)
          (given_here place.0 register place.1 ∙ ap is_some has))

-- ---- the whole

pub drawn_is_order : (c : Circuit) → IsSound c → HasNoLoop c → (names : List ℕ) → NamesRegisters c names → (inputs : List Input) (start : Moment) (state : ℕ) (values : Values)
    → AreInputs c inputs → IsStart c start → IsSettling c (with_inputs inputs start.values) values
    → (read : Moment) × (after : Moment) × IsOrder c inputs start (drawn_steps c names values state) read after × (read.values ≡ values)
drawn_is_order c sound (level, levelled) names good inputs start state values are begins settling =
    let settle = settle_leads c sound level levelled (with_inputs_set c inputs start) state (length c.drivers) (omega arith) in
    let read = settle.0 in
    let evaluation = all_map (λ s. is_evaluation s ≡ true) Evaluate (λ k. refl) (drawn_places (evaluations c) state (length c.drivers)) in
    let quiet : IsQuiet c read = λ k d at. settle.2.quiet k d at (all_evaluated k (slice_get_within c.drivers k d at)) in
    let settles = steps_keep c sound (Settles c sound (with_inputs inputs start.values)) (λ s. is_evaluation s ≡ true) (settle_step c sound (with_inputs inputs start.values))
    (with_inputs_set c inputs start) (map Evaluate (drawn_places (evaluations c) state (length c.drivers))) read evaluation (inputs_set c sound inputs start are begins.awake begins.is_updated) settle.1 in
    let settled : IsSettled c read.values = λ k d at. settles.awake k d at (quiet k d at) in
    let same : read.values ≡ values = fun_ext (one_settling c sound level levelled (with_inputs inputs start.values) read.values values (record { sources = settles.sources; settled = settled }) settling) in
    let begun : Moment = record read { waiting = λ k. true } in
    let at_edge = state_after state (length c.drivers) in
    let edge = run_leads c begun at_edge (length c.processes) (omega arith) (record { each = λ k. refl }) in
    let no_update = all_map (λ s. is_update s ≡ false) Run (λ k. refl) (drawn_places (runs c) at_edge (length c.processes)) in
    let run = edge.0 in
    let has_run : HasRun c run = λ k p at. edge.2.each k ∙ ap not (all_ran k (slice_get_within c.processes k p at)) in
    let are_run = steps_keep c sound (Runs c sound read.values) (λ s. is_update s ≡ false) (run_step c sound read.values settled) begun
    (map Run (drawn_places (runs c) at_edge (length c.processes))) run no_update (first_runs c sound read settles.is_updated) edge.1 in
    let given : (n : ℕ) → run.updates n ≡ given_by c.processes values n = λ n. all_given c sound read.values run are_run has_run n ∙ ap (λ (v : Values). given_by c.processes v n) same in
    let at_updates = state_after state (length c.drivers + length c.processes) in
    let update = update_leads c names values run given good at_updates (update_count c names values) (omega arith) in
    let no_run = all_map (λ s. is_run s ≡ false) (λ k. Update (get_or names k 0)) (λ k. refl) (drawn_places (updates c names values) at_updates (update_count c names values)) in (
      read,
      update.0,
      record {
        settle_steps = evaluation;
        settle = settle.1;
        quiet = quiet;
        run = run;
        edge_steps = no_update;
        edge = edge.1;
        has_run = has_run;
        update_steps = no_run;
        update = update.1;
        is_updated = none_remains c names values run given good at_updates update.0 update.2;
      },
      same,
    )
  where
    all_evaluated : (k : ℕ) → k < length c.drivers → is_taken (drawn_places (evaluations c) state (length c.drivers)) k ≡ true
    all_evaluated k lt = ap (λ (n : ℕ). is_taken (drawn_places (evaluations c) state n) k) (sym (count-every (length c.drivers)))
        ∙ all_taken (evaluations c) (λ k. true) (evaluations_proceed c sound level levelled) state k lt refl

    all_ran : (k : ℕ) → k < length c.processes → is_taken (drawn_places (runs c) (state_after state (length c.drivers)) (length c.processes)) k ≡ true
    all_ran k lt = ap (λ (n : ℕ). is_taken (drawn_places (runs c) (state_after state (length c.drivers)) n) k) (sym (count-every (length c.processes)))
        ∙ all_taken (runs c) (λ k. true) (runs_proceed c) (state_after state (length c.drivers)) k lt refl
