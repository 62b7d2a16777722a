-- In every order of a cycle the outputs are read from the settled wires, and the registers at its end are the next ones.
use Rattle.std.proofs.Common.{◌≡◌, ℕ, zero, suc, Bool, true, false, List, [], ◌∷◌, Option, None, Some, ◌⊎◌, inl, inr, slice_get, refl, sym, ap, ◌∙◌, arith, subst}
use Rattle.std.specs.Prelude.{◌==◌, if◌then◌else◌, All, unwrap_or}
use Rattle.std.proofs.lemmas.Bool.{eqb-true, eqb-false, eq-eqb}
use Rattle.verilog_tree.specs.Meaning.{Values}
use Rattle.verilog_tree.specs.Circuit.{put, Process, Circuit, IsSource, IsSettled, IsSettling, IsSound, HasNoLoop, later, given_by, next, Input, with_inputs, IsRun}
use Rattle.event_order.specs.Order.{Moment, Step, Evaluate, Run, Update, changed, ran, updated, IsStep, is_evaluation, is_update, is_run, with_inputs_set, HasRun, IsUpdated, CycleSteps, IsOrder, IsAwake, IsStart, AreInputs, AreOrders, first_moment}
use Rattle.verilog_tree.proofs.Settling.{exactly_one}
use Rattle.event_order.specs.Laws.{AreNext}
use Rattle.event_order.proofs.Moments.{same_some, source_awake, evaluated_awake, evaluated_source, evaluated_settled, steps_keep}

-- ---- the values that the blocks give

pub later_some : (a b : Option ℕ) (x : ℕ) → later a b ≡ Some x → (b ≡ Some x) ⊎ ((b ≡ None) × (a ≡ Some x))
later_some a None x is = inr (refl, is)
later_some a (Some y) x is = inl is

later_none : (a b : Option ℕ) → later a b ≡ None → (a ≡ None) × (b ≡ None)
later_none a None is = (is, refl)
later_none a (Some y) is = absurd (grind arith)

-- the block that gives a register its value
abbrev pub Gives : List Process → Values → ℕ → ℕ → Type 0
Gives ps v register x = (k : ℕ) × (p : Process) × (slice_get ps k ≡ Some p) × (p v register ≡ Some x)

pub given_some : (ps : List Process) (v : Values) (register x : ℕ) → given_by ps v register ≡ Some x → Gives ps v register x
given_some [] v register x is = absurd (grind arith)
given_some (p ∷ ps) v register x is = by (later_some (p v register) (given_by ps v register) x is) (given_some ps v register x)
  where
    by : (given_by ps v register ≡ Some x) ⊎ ((given_by ps v register ≡ None) × (p v register ≡ Some x)) → (given_by ps v register ≡ Some x → Gives ps v register x)
        → Gives (p ∷ ps) v register x
    by (inr here) rest = (0, p, refl, here.1)
    by (inl there) rest = let found = rest there in (suc found.0, found.1, found.2, found.3)

given_none : (ps : List Process) (v : Values) (register : ℕ) → given_by ps v register ≡ None → (k : ℕ) (p : Process) → slice_get ps k ≡ Some p → p v register ≡ None
given_none [] v register is k p at = absurd (grind arith)
given_none (q ∷ ps) v register is zero p at = ap (λ (r : Process). r v register) (same_some p q (sym at)) ∙ (later_none _ _ is).0
given_none (q ∷ ps) v register is (suc k) p at = given_none ps v register (later_none _ _ is).1 k p at

evaluation_only : (k : ℕ) → false ≡ true → ⊥
evaluation_only k e = grind arith

module _ (c : Circuit) (sound : IsSound c) where
  -- ---- before the outputs are read

  pub record Settles (content : Values) (m : Moment) : Type 0 where
    pub awake : IsAwake c m
    pub sources : (n : ℕ) → IsSource c n → m.values n ≡ content n
    pub is_updated : IsUpdated m

  pub settle_step : (content : Values) (m : Moment) (s : Step) (after : Moment) → is_evaluation s ≡ true → Settles content m → IsStep c m s after → Settles content after
  settle_step content m (Evaluate k) after ok h (d, at, is) = subst (Settles content) (sym is) (record {
    awake = evaluated_awake c sound k d m at h.awake;
    sources = λ n source. evaluated_source c sound k d m at n source ∙ h.sources n source;
    is_updated = h.is_updated;
  })
  settle_step content m (Run k) after ok h step = absurd (evaluation_only k ok)
  settle_step content m (Update r) after ok h step = absurd (evaluation_only r ok)

  -- the inputs are set
  pub inputs_set : (inputs : List Input) (m : Moment) → AreInputs c inputs → IsAwake c m → IsUpdated m → Settles (with_inputs inputs m.values) (with_inputs_set c inputs m)
  inputs_set [] m are awake is_updated = record { awake = awake; sources = λ n source. refl; is_updated = is_updated }
  inputs_set (i ∷ is) m are awake is_updated =
      inputs_set is (changed c i.name i.value m) (λ k d lt. are (suc k) d (omega (arith, lt))) (source_awake c sound i.name i.value m (are 0 i (omega arith)) awake) is_updated

  -- ---- while the blocks run

  pub record Runs (v : Values) (m : Moment) : Type 0 where
    pub same : m.values ≡ v
    pub owed : (k : ℕ) (p : Process) (register x : ℕ) → slice_get c.processes k ≡ Some p → m.waiting k ≡ false → p v register ≡ Some x → m.updates register ≡ Some x
    pub given : (register x : ℕ) → m.updates register ≡ Some x → (k : ℕ) × (p : Process) × (slice_get c.processes k ≡ Some p) × (m.waiting k ≡ false) × (p v register ≡ Some x)

  run_keeps : (v : Values) (m : Moment) (place : ℕ) (q : Process) → slice_get c.processes place ≡ Some q → Runs v m → Runs v (ran place q m)
  run_keeps v m place q found h = record {
    same = h.same;
    owed = λ k p register x at done gives. owed k p register x at gives done (k == place) refl (q v register) refl;
    given = λ register x is. given register x (q v register) refl (sym (here register) ∙ is);
  }
    where
      here : (register : ℕ) → later (m.updates register) (q m.values register) ≡ later (m.updates register) (q v register)
      here register = ap (λ (w : Values). later (m.updates register) (q w register)) h.same

      owed : (k : ℕ) (p : Process) (register x : ℕ) → slice_get c.processes k ≡ Some p → p v register ≡ Some x → (if k == place then false else m.waiting k) ≡ false
          → (b : Bool) → (k == place) ≡ b → (o : Option ℕ) → q v register ≡ o → later (m.updates register) (q m.values register) ≡ Some x
      owed k p register x at gives done b e o is =
          here register ∙ ap (later (m.updates register)) is ∙ by b e o is
        where
          by : (b : Bool) → (k == place) ≡ b → (o : Option ℕ) → q v register ≡ o → later (m.updates register) o ≡ Some x
          by true e o is =
              let same : p ≡ q = same_some p q (sym at ∙ ap (slice_get c.processes) (eqb-true k place e) ∙ found) in
              ap (later (m.updates register)) (sym is ∙ ap (λ (r : Process). r v register) (sym same) ∙ gives)
          by false e None is = h.owed k p register x at (sym (ap (λ (t : Bool). if t then false else m.waiting k) e) ∙ done) gives
          by false e (Some y) is = absurd (eqb-false k place e (sound.one_process k place p q v register x y at found gives is))

      still : (k : ℕ) → m.waiting k ≡ false → (b : Bool) → (if b then false else m.waiting k) ≡ false
      still k done true = refl
      still k done false = done

      given : (register x : ℕ) (o : Option ℕ) → q v register ≡ o → later (m.updates register) (q v register) ≡ Some x
          → (k : ℕ) × (p : Process) × (slice_get c.processes k ≡ Some p) × ((if k == place then false else m.waiting k) ≡ false) × (p v register ≡ Some x)
      given register x None e is =
          let before = h.given register x (sym (ap (later (m.updates register)) e) ∙ is) in
          (before.0, before.1, before.2, still before.0 before.3 (before.0 == place), before.4)
      given register x (Some y) e is = (place, q, found, done, e ∙ sym (ap (later (m.updates register)) e) ∙ is)
        where
          done : (if place == place then false else m.waiting place) ≡ false
          done = ap (λ (b : Bool). if b then false else m.waiting place) (eq-eqb place place refl)

  pub run_step : (v : Values) → IsSettled c v → (m : Moment) (s : Step) (after : Moment) → is_update s ≡ false → Runs v m → IsStep c m s after → Runs v after
  run_step v settled m (Evaluate k) after ok h (d, at, is) = subst (Runs v) (sym is) (record {
    same = evaluated_settled c sound k d m at (subst (IsSettled c) (sym h.same) settled) ∙ h.same;
    owed = h.owed;
    given = h.given;
  })
  run_step v settled m (Run k) after ok h (p, at, waits, is) = subst (Runs v) (sym is) (run_keeps v m k p at h)
  run_step v settled m (Update r) after ok h step = absurd (evaluation_only r (sym ok))

  -- before any block has run
  pub first_runs : (m : Moment) → IsUpdated m → Runs m.values (record m { waiting = λ k. true })
  first_runs m is_updated = record {
    same = refl;
    owed = λ k p register x at done gives. absurd (grind arith);
    given = λ register x is. absurd (never x (sym (is_updated register) ∙ is));
  }
    where
      never : (x : ℕ) → None ≡ Some x → ⊥
      never x same = grind arith

  -- where all blocks have run, the updates to come are those that the blocks give
  pub all_given : (v : Values) (m : Moment) → Runs v m → HasRun c m → (register : ℕ) → m.updates register ≡ given_by c.processes v register
  all_given v m h has_run register = by (given_by c.processes v register) refl (m.updates register) refl
    where
      by : (o : Option ℕ) → given_by c.processes v register ≡ o → (u : Option ℕ) → m.updates register ≡ u → m.updates register ≡ given_by c.processes v register
      by (Some x) e u is =
          let found = given_some c.processes v register x e in
          h.owed found.0 found.1 register x found.2 (has_run found.0 found.1 found.2) found.3 ∙ sym e
      by None e None is = is ∙ sym e
      by None e (Some x) is =
          let found = h.given register x is in
          absurd (clash (sym (given_none c.processes v register e found.0 found.1 found.2) ∙ found.4))
        where
          clash : None ≡ Some x → ⊥
          clash same = grind arith

  -- ---- while the registers are updated

  record Updates (v : Values) (m : Moment) : Type 0 where
    awake : IsAwake c m
    coming : (n : ℕ) → IsSource c n → unwrap_or (m.updates n) (m.values n) ≡ next c v n
    registers : (register x : ℕ) → m.updates register ≡ Some x → IsSource c register

  update_keeps : (v : Values) (m : Moment) (register x : ℕ) → m.updates register ≡ Some x → Updates v m → Updates v (updated c register x m)
  update_keeps v m register x is h = record {
    awake = source_awake c sound register x (record m { updates = λ r. if r == register then None else m.updates r }) (h.registers register x is) h.awake;
    coming = λ n source. coming n (n == register) refl ∙ h.coming n source;
    registers = λ r y given. registers r y (r == register) refl given;
  }
    where
      coming : (n : ℕ) (b : Bool) → (n == register) ≡ b → unwrap_or (if n == register then None else m.updates n) (put m.values register x n) ≡ unwrap_or (m.updates n) (m.values n)
      coming n b e = ap (λ (t : Bool). unwrap_or (if t then None else m.updates n) (if t then x else m.values n)) e ∙ by b e
        where
          by : (b : Bool) → (n == register) ≡ b → unwrap_or (if b then None else m.updates n) (if b then x else m.values n) ≡ unwrap_or (m.updates n) (m.values n)
          by true e = sym (ap (λ (o : Option ℕ). unwrap_or o (m.values n)) (ap m.updates (eqb-true n register e) ∙ is))
          by false e = refl

      registers : (r y : ℕ) (b : Bool) → (r == register) ≡ b → (if r == register then None else m.updates r) ≡ Some y → IsSource c r
      registers r y b e given = by b e (sym (ap (λ (t : Bool). if t then None else m.updates r) e) ∙ given)
        where
          by : (b : Bool) → (r == register) ≡ b → (if b then None else m.updates r) ≡ Some y → IsSource c r
          by true e given = absurd (clash given)
            where
              clash : None ≡ Some y → ⊥
              clash same = grind arith
          by false e given = h.registers r y given

  update_step : (v : Values) (m : Moment) (s : Step) (after : Moment) → is_run s ≡ false → Updates v m → IsStep c m s after → Updates v after
  update_step v m (Evaluate k) after ok h (d, at, is) = subst (Updates v) (sym is) (record {
    awake = evaluated_awake c sound k d m at h.awake;
    coming = λ n source. ap (unwrap_or (m.updates n)) (evaluated_source c sound k d m at n source) ∙ h.coming n source;
    registers = h.registers;
  })
  update_step v m (Update r) after ok h (x, is, made) = subst (Updates v) (sym made) (update_keeps v m r x is h)
  update_step v m (Run k) after ok h step = absurd (evaluation_only k (sym ok))

  -- ---- one cycle

  pub every_order : (inputs : List Input) (start : Moment) (steps : CycleSteps) (read after : Moment) → AreInputs c inputs → IsStart c start → IsOrder c inputs start steps read after
      → IsSettling c (with_inputs inputs start.values) read.values × ((n : ℕ) → IsSource c n → after.values n ≡ next c read.values n) × IsStart c after
  every_order inputs start steps read after are begins order =
      let v = read.values in
      let settles = steps_keep c sound (Settles (with_inputs inputs start.values)) (λ s. is_evaluation s ≡ true) (settle_step (with_inputs inputs start.values))
      (with_inputs_set c inputs start) steps.settle read order.settle_steps (inputs_set inputs start are begins.awake begins.is_updated) order.settle in
      let settled : IsSettled c v = λ k d at. settles.awake k d at (order.quiet k d at) in
      let first : Runs v (record read { waiting = λ k. true }) = first_runs read settles.is_updated in
      let runs = steps_keep c sound (Runs v) (λ s. is_update s ≡ false) (run_step v settled) (record read { waiting = λ k. true }) steps.edge order.run order.edge_steps first order.edge in
      let all = all_given v order.run runs order.has_run in
      let begin : Updates v order.run = record {
        awake = λ k d at quiet. subst (IsSettled c) (sym runs.same) settled k d at;
        coming = λ n source. ap (λ (o : Option ℕ). unwrap_or o (order.run.values n)) (all n) ∙ ap (λ (w : Values). unwrap_or (given_by c.processes v n) (w n)) runs.same;
        registers = λ register x is. registers runs register x is;
      } in
      let updates = steps_keep c sound (Updates v) (λ s. is_run s ≡ false) (update_step v) order.run steps.update after order.update_steps begin order.update in (
        record { sources = settles.sources; settled = settled },
        λ n source. sym (ap (λ (o : Option ℕ). unwrap_or o (after.values n)) (order.is_updated n)) ∙ updates.coming n source,
        record { awake = updates.awake; is_updated = order.is_updated },
      )
    where
      registers : Runs read.values order.run → (register x : ℕ) → order.run.updates register ≡ Some x → IsSource c register
      registers runs register x is =
          let found = runs.given register x is in
          sound.registers found.0 found.1 read.values register x found.2 found.4

-- ---- runs

-- contents with the same registers and inputs
abbrev Alike : Circuit → Values → Values → Type 0
Alike c v w = (n : ℕ) → IsSource c n → v n ≡ w n

alike_put : (c : Circuit) (v w : Values) (name x : ℕ) → Alike c v w → Alike c (put v name x) (put w name x)
alike_put c v w name x alike n source = by (n == name)
  where
    by : (b : Bool) → (if b then x else v n) ≡ (if b then x else w n)
    by true = refl
    by false = alike n source

alike_inputs : (c : Circuit) (inputs : List Input) (v w : Values) → Alike c v w → Alike c (with_inputs inputs v) (with_inputs inputs w)
alike_inputs c [] v w alike = alike
alike_inputs c (i ∷ is) v w alike = alike_inputs c is (put v i.name i.value) (put w i.name i.value) (alike_put c v w i.name i.value alike)

module _ (c : Circuit) (sound : IsSound c) where
  pub first_start : (content : Values) → IsStart c (first_moment content)
  first_start content = record { awake = λ k d at quiet. absurd (grind arith); is_updated = λ register. refl }

  -- the outputs of every cycle are read from the settled values of a run, and its registers end as the next ones
  pub every_run : (cycles : List (List Input)) (content : Values) (start : Moment) (reads ends : List Values)
      → All (AreInputs c) cycles → Alike c start.values content → IsStart c start → AreOrders c cycles start reads ends → IsRun c content cycles reads × AreNext c reads ends
  every_run [] content start reads ends are alike begins orders = (orders.0, subst (λ (values : List Values). AreNext c values ends) (sym orders.0) orders.1)
  every_run (inputs ∷ cycles) content start reads ends are alike begins (steps, read, middle, rest, later, is, is_end, order, more) =
      let one = every_order c sound inputs start steps read middle (are 0 inputs (omega arith)) begins order in
      let further = every_run cycles (next c read.values) middle rest later (λ k d lt. are (suc k) d (omega (arith, lt))) one.1 one.2 more in
      let settling : IsSettling c (with_inputs inputs content) read.values = record {
        sources = λ n source. one.0.sources n source ∙ alike_inputs c inputs start.values content alike n source;
        settled = one.0.settled;
      } in
      ((read.values, rest, is, settling, further.0), subst (λ (values : List Values). AreNext c values ends) (sym is) (middle.values, later, is_end, one.1, further.1))

  -- from any content of the registers and wires, with every assignment pending
  pub every_run_from : (cycles : List (List Input)) (content : Values) (reads ends : List Values)
      → All (AreInputs c) cycles → AreOrders c cycles (first_moment content) reads ends → IsRun c content cycles reads × AreNext c reads ends
  every_run_from cycles content reads ends are orders = every_run cycles content (first_moment content) reads ends are (λ n source. refl) (first_start content) orders

  -- a circuit without a loop has no second run
  pub one_run : HasNoLoop c → (cycles : List (List Input)) (a b : Values) (s t : List Values) → Alike c a b → IsRun c a cycles s → IsRun c b cycles t → s ≡ t
  one_run no_loop [] a b s t alike f g = f ∙ sym g
  one_run no_loop (inputs ∷ cycles) a b s t alike (v, vs, is, settling, more) (w, ws, is', settling', more') =
      let one = exactly_one c sound no_loop (with_inputs inputs b) in
      let moved : IsSettling c (with_inputs inputs b) v = record {
        sources = λ n source. settling.sources n source ∙ alike_inputs c inputs a b alike n source;
        settled = settling.settled;
      } in
      let same : v ≡ w = λ i n. (one.2 v moved n ∙ sym (one.2 w settling' n)) i in
      let rest = one_run no_loop cycles (next c v) (next c w) vs ws (λ n source. ap (λ (x : Values). next c x n) same) more more' in
      is ∙ ap (λ (x : Values). x ∷ vs) same ∙ ap (λ (xs : List Values). w ∷ xs) rest ∙ sym is'
