-- Tables of the prefixes of a chain.
use Rattle.std.proofs.Common.{◌≡◌, ℕ, zero, suc, ◌+◌, ◌-◌, ◌*◌, ◌<◌, ◌≤◌, List, [], ◌∷◌, ◌++◌, length, take, get_or, ℤ, pos, negsuc, ◌+ℤ◌, ◌-ℤ◌, ◌*ℤ◌, ◌≤ℤ◌, arith, refl, sym, ◌∙◌, ap, subst}
use Rattle.std.proofs.lemmas.Int.{ints}
use Rattle.std.proofs.lemmas.List.{take_more}
use Rattle.mr_values.specs.declared.plan.Element.{Element}
use Rattle.mr_values.specs.Sequence.{samples, weighted_sum}
use Rattle.mr_values.specs.Value.{chain, val}
use Rattle.impulse_phase.specs.declared.table.Response.{Response as Table}
use Rattle.impulse_phase.specs.Response.{Response, Responses, through, through_all, direct, responses, HasResponses, Cycle, cycle_after, cycle_after_all, full_cycle, IsLinear, AreLinear}
use Rattle.impulse_phase.specs.Gain.{HasGain, gain_after, gain_after_all}
use Rattle.impulse_phase.specs.Reach.{IsExtent, extent}
use Rattle.impulse_phase.specs.Reading.{silent, rows_of, cycle_of, responses_of, IsTable, IsAhead, Passes, IsResponseOf, GivesValues, IsWithinReach, IsModest, AreModest, HasRoomFor}
use Rattle.impulse_phase.proofs.Gain.{prefix-gain}
use Rattle.impulse_phase.proofs.Prefix.{prefix-has, val-by_class}
use Rattle.impulse_phase.proofs.Reach.{prefix-extent, times-le, weights-within_reach}
use Rattle.impulse_phase.proofs.Steps.{direct-has}
use Rattle.impulse_phase.proofs.Tables.{told_is, told_here}

-- the table tells the responses of these elements
pub record TellsPrefix (es : List Element) (table : Table) : Type 0 where
  pub told : responses_of table ≡ responses es
  pub cycle : cycle_of table ≡ full_cycle es

-- ---- one element more

through_all-last : (es : List Element) (e : Element) (f : Responses) → through_all (es ++ e ∷ []) f ≡ through e (through_all es f)
through_all-last [] e f = refl
through_all-last (d ∷ es) e f = through_all-last es e (through d f)

cycle_after_all-last : (es : List Element) (e : Element) (p : Cycle) → cycle_after_all (es ++ e ∷ []) p ≡ cycle_after e (cycle_after_all es p)
cycle_after_all-last [] e p = refl
cycle_after_all-last (d ∷ es) e p = cycle_after_all-last es e (cycle_after d p)

gain_after_all-last : (es : List Element) (e : Element) (gain : ℕ) → gain_after_all (es ++ e ∷ []) gain ≡ gain_after e (gain_after_all es gain)
gain_after_all-last [] e gain = refl
gain_after_all-last (d ∷ es) e gain = gain_after_all-last es e (gain_after d gain)

pub tells_more : (es : List Element) (i : ℕ) (e : Element) (before after : Table) → i < length es → e ≡ get_or es i e → TellsPrefix (take i es) before
    → Passes (through e) (cycle_after e) before after → TellsPrefix (take (i + 1) es) after
tells_more es i e before after below is t p =
    let last : take i es ++ e ∷ [] ≡ take (i + 1) es = ap (λ (d : Element). take i es ++ d ∷ []) is ∙ sym (take_more es i e below) in
    subst (λ (ds : List Element). TellsPrefix ds after) last (record {
      told = p.told ∙ ap (through e) t.told ∙ sym (through_all-last (take i es) e direct);
      cycle = p.cycle ∙ ap (cycle_after e) t.cycle ∙ sym (cycle_after_all-last (take i es) e (record { classes = 1; step = 1 }));
    })

pub tells_first : (table : Table) → IsResponseOf [] table → TellsPrefix [] table
tells_first table h = record {
  told = told_is (λ x. x) direct (record { classes = 1; step = 1 }) direct-has (rows_of table) table.step (record { count_is = h.classes; each = h.rows }) h.step;
  cycle = ap (λ (n : ℕ). record { classes = n; step = table.step }) h.classes ∙ ap (λ (n : ℕ). record { classes = 1; step = n }) h.step;
}

pub response_of : (es : List Element) (table : Table) → TellsPrefix es table → IsResponseOf es table
response_of es table t = record {
  classes = ap (λ (p : Cycle). p.classes) t.cycle;
  step = ap (λ (p : Cycle). p.step) t.cycle;
  rows = λ class below. sym (told_here (rows_of table) table.step class (subst (λ (n : ℕ). class < n) (sym (ap (λ (p : Cycle). p.classes) t.cycle)) below)) ∙ ap (λ (f : Responses). f (pos class)) t.told;
}

pub gives_values : (es : List Element) (table : Table) → AreLinear es → TellsPrefix es table → GivesValues es table
gives_values es table linear t = record {
  each = λ xs class round below.
      let h = response_of es table t in
      let p = full_cycle es in
      let row = get_or (rows_of table) class silent in
      let is : ℕ → ℕ → Response → Type 0 = λ classes step r. val es xs (pos (class + round * classes)) ≡ weighted_sum r.weights (λ i. samples xs (r.newest +ℤ pos (round * step) -ℤ pos i)) in
      let told : row ≡ responses es (pos class) = h.rows class (subst (λ (n : ℕ). class < n) h.classes below) in
      subst (λ (n : ℕ). is n table.step row) (sym h.classes)
      (subst (λ (n : ℕ). is p.classes n row) (sym h.step) (subst (λ (r : Response). is p.classes p.step r) (sym told) (val-by_class es xs class round linear)));
}

pub within_reach : (es : List Element) (table : Table) → AreLinear es → TellsPrefix es table → IsWithinReach es table
within_reach es table linear t =
    let h = response_of es table t in
    let law = prefix-extent es linear in
    record {
      short = λ class below. subst (λ (r : Response). length r.weights ≤ (extent es).reach) (sym (h.rows class below)) (weights-within_reach es (pos class) linear);
      past = λ class below.
          let at : pos class *ℤ pos (extent es).down ≡ pos (class * (extent es).down) = omega (arith, ints) in
          subst (λ (r : Response). (r.newest *ℤ pos (extent es).up) ≤ℤ pos (class * (extent es).down)) (sym (h.rows class below))
          (subst (λ (z : ℤ). ((responses es (pos class)).newest *ℤ pos (extent es).up) ≤ℤ z) at (law.reach.newest (pos class)));
    }

-- ---- what a prefix's table has

pub linear_take : (es : List Element) (i : ℕ) → AreLinear es → AreLinear (take i es)
linear_take es zero h = tt
linear_take [] (suc i) h = tt
linear_take (e ∷ es) (suc i) h = (h.0, linear_take es i h.1)

pub linear_at : (es : List Element) (i : ℕ) (e : Element) → AreLinear es → i < length es → e ≡ get_or es i e → IsLinear e
linear_at [] i e h below is = absurd (omega arith)
linear_at (x ∷ es) zero e h below is = subst IsLinear (sym is) h.0
linear_at (x ∷ es) (suc i) e h below is = linear_at es i e h.1 (omega arith) is

pub is_table : (es : List Element) (table : Table) → AreLinear es → TellsPrefix es table → IsTable table
is_table es table linear t = record {
  transform = chain es;
  law = subst (λ (f : Responses). HasResponses (chain es) f (cycle_of table).classes (cycle_of table).step) (sym t.told)
      (subst (λ (p : Cycle). HasResponses (chain es) (responses es) p.classes p.step) (sym t.cycle) (prefix-has es linear));
}

starts : (es : List Element) → AreLinear es → (responses es (pos 0)).newest ≤ℤ pos 0
starts es linear = by_sign (responses es (pos 0)).newest refl
  where
    h : IsExtent (responses es) (extent es)
    h = prefix-extent es linear

    by_sign : (z : ℤ) → (responses es (pos 0)).newest ≡ z → z ≤ℤ pos 0
    by_sign (negsuc m) e = omega (arith, ints)
    by_sign (pos zero) e = omega (arith, ints)
    by_sign (pos (suc m)) e =
        absurd (omega (arith, ints, h.has_up, ap (λ (z : ℤ). z *ℤ pos (extent es).up) e, h.reach.newest (pos 0), times-le 1 (suc m) (extent es).up (omega arith)))

prefix_ahead : (es : List Element) → AreLinear es → (c : ℕ) → c < (full_cycle es).classes → (responses es (pos c)).newest ≤ℤ pos (full_cycle es).step
prefix_ahead es linear c below =
    let h = prefix-has es linear in
    let f = responses es in
    let classes = (full_cycle es).classes in
    let back : pos 0 +ℤ pos classes -ℤ pos (classes - c) ≡ pos c = omega (arith, ints) in
    let before = subst (λ (z : ℤ). (f z).newest ≤ℤ (f (pos 0 +ℤ pos classes)).newest) back (h.ordered (pos 0 +ℤ pos classes) (classes - c)) in
    let round = ap (λ (r : Response). r.newest) (h.recurs (pos 0)) in
    omega (arith, ints, before, round, starts es linear)

pub is_ahead : (es : List Element) (table : Table) → AreLinear es → TellsPrefix es table → IsAhead table
is_ahead es table linear t = record {
  each = λ class below.
      let known = prefix_ahead es linear class (subst (λ (n : ℕ). class < n) (ap (λ (p : Cycle). p.classes) t.cycle) below) in
      subst (λ (f : Responses). (f (pos class)).newest ≤ℤ pos table.step) (sym t.told)
      (subst (λ (n : ℕ). (responses es (pos class)).newest ≤ℤ pos n) (sym (ap (λ (p : Cycle). p.step) t.cycle)) known);
}

pub has_room : (es : List Element) (i : ℕ) (e : Element) (table : Table) → AreLinear es → AreModest es → i < length es → e ≡ get_or es i e → TellsPrefix (take i es) table
    → HasRoomFor e table
has_room es i e table linear modest below is t =
    let last : take (i + 1) es ≡ take i es ++ e ∷ [] = take_more es i e below ∙ ap (λ (d : Element). take i es ++ d ∷ []) (sym is) in
    let gain = gain_after_all (take i es) 1 in
    let next : IsModest (full_cycle (take i es ++ e ∷ [])) (gain_after_all (take i es ++ e ∷ []) 1) = subst (λ (ds : List Element). IsModest (full_cycle ds) (gain_after_all ds 1)) last (modest.each (i + 1)) in
    let split : IsModest (cycle_after e (full_cycle (take i es))) (gain_after_all (take i es ++ e ∷ []) 1) =
    subst (λ (p : Cycle). IsModest p (gain_after_all (take i es ++ e ∷ []) 1)) (cycle_after_all-last (take i es) e (record { classes = 1; step = 1 })) next in
    record {
      gain = gain;
      has_gain = subst (λ (f : Responses). HasGain f gain) (sym t.told) (prefix-gain (take i es) (linear_take es i linear));
      modest = subst (λ (p : Cycle). IsModest (cycle_after e p) (gain_after e gain)) (sym t.cycle)
          (subst (λ (n : ℕ). IsModest (cycle_after e (full_cycle (take i es))) n) (gain_after_all-last (take i es) e 1) split);
    }
