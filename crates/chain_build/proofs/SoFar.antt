-- The groups that were added so far, and those that are left.
use Rattle.std.proofs.Common.{◌≡◌, ℕ, ◌+◌, ◌*◌, ◌^◌, ◌<◌, ◌≤◌, ◌⊎◌, false, List, [], ◌∷◌, ◌++◌, append_assoc, append-nil, length, take, drop, get_or, refl, sym, ◌∙◌, ap, arith, subst, inl, inr, ℤ, pos, negsuc, ◌≤ℤ◌, None, Some, Bool, true, cond}
use Rattle.std.specs.Prelude.{All, unsigned_abs}
use Rattle.std.proofs.Math.Path.{fun_ext}
use Rattle.std.proofs.lemmas.Int.{ints}
use Rattle.std.proofs.lemmas.List.{drop_more, drop_all, length_push}
use Rattle.mr_values.specs.declared.plan.Element.{Element}
use Rattle.mr_values.specs.declared.plan.Plan.{Plan}
use Rattle.mr_values.specs.Sequence.{Sequence, samples}
use Rattle.mr_values.specs.Value.{chain, size, IsWithinLimits}
use Rattle.mr_values.specs.Timing.{Group, groups, after, after_all, input, last_stream, low_after, high_after, period_after, up_factor, down_factor, Stream as Timed}
use Rattle.net_graph.specs.declared.cell.Cell.{Cell}
use Rattle.net_graph.specs.declared.cell.Stream.{Stream}
use Rattle.net_graph.specs.declared.name.Name.{Name}
use Rattle.net_graph.specs.declared.name.NameKind.TheVariants.{Control}
use Rattle.net_graph.specs.Cells.{NetView}
use Rattle.net_graph.specs.Cut.{cut_all, cut_control}
use Rattle.net_graph.specs.Run.{Values, IsRun}
use Rattle.net_graph.specs.WellFormed.{IsFree}
use Rattle.net_graph.proofs.CutLemmas.{IsCut-all, IsCut-control}
use Rattle.pipeline_balance.specs.Gate.{Carries}
use Rattle.plan_check.specs.declared.facts.Facts.{Facts}
use Rattle.plan_check.specs.declared.facts.GroupFacts.{GroupFacts}
use Rattle.plan_check.specs.Accepted.{rates_test, peaks_test, fits_test, costs_test, no_tally, facts_of, group_facts, IsAccepted, AreFacts}
use Rattle.plan_check.specs.Amounts.{gain}
use Rattle.plan_check.specs.Costs.{Tally, tally_after}
use Rattle.plan_check.specs.Forms.{Flow, flow_of, flow_after, group_fits, fit_test}
use Rattle.plan_check.specs.Groups.{size_of, first_failing, IsSplit}
use Rattle.plan_check.specs.declared.fault.PlanFault.{PlanFault}
use Rattle.plan_check.proofs.Options.{none_of}
use Rattle.impulse_phase.specs.Reach.{Extent, extent}
use Rattle.plan_laws.specs.Laws.{IsBetween}
use Rattle.plan_laws.proofs.Passes.{passes_of}
use Rattle.plan_laws.proofs.Reach.{apply_group, apply_groups, chain-groups}
use Rattle.stage_law.specs.Realises.{IsUnused, IsOwnName}
use Rattle.stage_law.specs.Streams.{Streams, HasRoom}
use Rattle.span_ranges.specs.Span.{IsInSpan}
use Rattle.width_extreme.specs.Prefix.{IsStream}
use Rattle.chain_build.specs.declared.groups.Added.{Added}
use Rattle.chain_build.specs.Built.{IsBuiltGroup, AreBuiltGroups, ArePlainGroups, has_rounding}
use Rattle.chain_build.specs.Added.{IsTaking, CanAdd, IsGroupAdded, IsGrown, AreNameless, IsChained}
use Rattle.chain_build.specs.Prefixes.{flow_before}
use Rattle.chain_build.proofs.Walk.{IsWalk, factors_some, cancel, walk_rate, walk_next, walk_start, walk_most, walk_gain, walk_end, period-whole}
use Rattle.chain_build.proofs.Pace.{Pace, pace_all, at_once, pace-more, extent-pace, balance-more}
use Rattle.chain_build.proofs.Prefixes.{sizes, sizes-more, after-more, apply-more, chain-first}
use Rattle.chain_build.proofs.Roundings.{unrounded, plain-group, plain-unrounded}
use Rattle.chain_build.proofs.Samples.{AreSamples, the_samples, samples-inside}
use Rattle.chain_build.proofs.Spans.{in_span-group, zero-group, HasRoom-span}
use Rattle.chain_build.proofs.Grown.{IsGrown-refl, IsGrown-grows, IsGrown-trans, free_in}
use Rattle.chain_build.proofs.GroupFacts.{facts-is, plain-carries}

pub record SoFar (width ticks : ℕ) (whole : List Element) (old net : NetView) (from last : Stream) (rest : List Element) (left : List GroupFacts) (number : ℕ) (front : List Group) : Type 0 where
  pub done : Sequence → Sequence
  pub stream : Timed
  pub first : ℕ
  pub tally : Tally
  pub parts : groups whole ≡ front ++ groups rest
  pub stream_is : stream ≡ after_all front (input width ticks)
  pub first_is : first ≡ 1 + sizes front
  pub done_is : (v : Sequence) → done v ≡ apply_groups front v
  pub walk : IsWalk ticks first tally (groups rest) stream
  pub fits : first_failing fit_test flow_after first (flow_of stream) (groups rest) ≡ None
  pub limits : All IsWithinLimits rest
  pub built : AreBuiltGroups (groups rest)
  pub zero_in : IsBetween stream.low stream.high (pos 0)
  pub few : number + length rest ≤ 33
  pub some : 1 ≤ number
  pub number_is : number ≡ 1 + length front
  pub left_is : left ≡ group_facts first stream (groups rest)
  pub end_is : after_all (groups rest) stream ≡ after_all (groups whole) (input width ticks)
  pub whole_is : (v : Sequence) → apply_groups (groups rest) (done v) ≡ apply_groups (groups whole) v
  pub period : last.period ≡ stream.period
  pub offset : last.offset ≡ stream.offset
  pub balance : stream.period * (pace_all front at_once).up ≡ ticks * (pace_all front at_once).down
  pub inside : (v : Sequence) → AreSamples width v → IsInSpan stream.low stream.high (done v)
  pub grown : IsGrown old.cells net.cells
  pub grouped : 1 ≤ net.group
  pub within : last.node.place < length net.cells
  pub carries : (inputs : ℕ → ℤ) (values : Values) (v : Sequence) → AreSamples width v → IsRun cut_all net.cells inputs values → Carries values from v → Carries values last (done v)
  pub whole_carries : has_rounding front ≡ false → (inputs : ℕ → ℤ) (values : Values) (v : Sequence) → AreSamples width v → IsRun cut_control net.cells inputs values → Carries values from v → Carries values last (done v)
  pub names : (name : Name) → (name.kind ≡ Control → ⊥) → (number ≤ name.group) ⊎ (name.group ≡ 0) → IsFree net.cells name

pub SoFar-start : (width ticks : ℕ) (whole : List Element) (old net : NetView) (from : Stream) (left : List GroupFacts) → from.node.place < length old.cells → AreNameless old.cells → from.offset ≡ 0 → from.period ≡ ticks → 2 ≤ width → width ≤ 64 → 1 ≤ ticks → ticks ≤ 65536 → All IsWithinLimits whole → length whole ≤ 32
    → rates_test ticks (groups whole) ≡ None → peaks_test width (groups whole) ≡ None → fits_test width ticks (groups whole) ≡ None → costs_test width ticks (groups whole) ≡ None → AreBuiltGroups (groups whole) → left ≡ group_facts 1 (input width ticks) (groups whole) → net ≡ record { cells = old.cells; group = 1 } → SoFar width ticks whole old net from from whole left 1 []
SoFar-start width ticks whole old net from left inside nameless offset period wide narrow some most limits few rates peaks fits costs built facts is = record {
  done = λ v. v;
  stream = input width ticks;
  first = 1;
  tally = no_tally width ticks;
  parts = refl;
  stream_is = refl;
  first_is = refl;
  done_is = λ v. refl;
  walk = walk_start width ticks (groups whole) wide narrow some most rates peaks costs;
  fits = fits;
  limits = limits;
  built = built;
  zero_in = zero_input width;
  few = omega arith;
  some = omega arith;
  number_is = omega arith;
  left_is = facts;
  end_is = refl;
  whole_is = λ v. refl;
  period = period;
  offset = offset;
  balance = refl;
  inside = λ v h. samples-inside width ticks v h;
  grown = subst (λ (n : NetView). IsGrown old.cells n.cells) (sym is) (IsGrown-refl old.cells);
  grouped = subst (λ (n : NetView). 1 ≤ n.group) (sym is) (omega arith);
  within = subst (λ (n : NetView). from.node.place < length n.cells) (sym is) inside;
  carries = λ inputs values v h run carried. carried;
  whole_carries = λ p inputs values v h run carried. carried;
  names = λ name other which. subst (λ (n : NetView). IsFree n.cells name) (sym is) (nameless.free name);
}
  where
    zero_input : (w : ℕ) → IsBetween (input w ticks).low (input w ticks).high (pos 0)
    zero_input w = record { least = omega (arith, ints); greatest = omega (arith, ints) }

fit_passes : (fault : PlanFault) (fits : Bool) → cond fits None (Some fault) ≡ None → fits ≡ true
fit_passes fault true e = refl
fit_passes fault false e = absurd (cc)

-- ---- the next group

module _ {width ticks : ℕ} {whole : List Element} {old net : NetView} {from last : Stream} {rest : List Element} {fact : GroupFacts} {left : List GroupFacts} {number : ℕ} {front : List Group} {g : Group} {others : List Element}
    (so : SoFar width ticks whole old net from last rest (fact ∷ left) number front) (split : IsSplit rest g others) where
  pub head_walk : IsWalk ticks so.first so.tally (g ∷ groups others) so.stream
  head_walk = subst (λ (gs : List Group). IsWalk ticks so.first so.tally gs so.stream) split.parts so.walk

  head_built : AreBuiltGroups (g ∷ groups others)
  head_built = subst AreBuiltGroups split.parts so.built

  pub is_built_head : IsBuiltGroup g
  is_built_head = head_built.0

  facts_are : fact ∷ left ≡ facts_of so.first so.stream g ∷ group_facts (so.first + size_of g) (after g so.stream) (groups others)
  facts_are = so.left_is ∙ ap (group_facts so.first so.stream) split.parts

  pub fact_is : fact ≡ facts_of so.first so.stream g
  fact_is = let e = facts_are in cc

  pub span_low : fact.span_lo ≡ so.stream.low
  span_low = ap (λ (f : GroupFacts). f.span_lo) fact_is

  pub span_high : fact.span_hi ≡ so.stream.high
  span_high = ap (λ (f : GroupFacts). f.span_hi) fact_is

  -- the flow of the stream before it
  pub flow_is : flow_of so.stream ≡ flow_before last.period fact
  flow_is i = record { period = (sym so.period) i; low = (sym span_low) i; high = (sym span_high) i }

  head_fits : first_failing fit_test flow_after so.first (flow_of so.stream) (g ∷ groups others) ≡ None
  head_fits = subst (λ (gs : List Group). first_failing fit_test flow_after so.first (flow_of so.stream) gs ≡ None) split.parts so.fits

  -- the form of the next group fits it
  pub is_fitting : group_fits g (flow_before last.period fact) ≡ true
  is_fitting = subst (λ (f : Flow). group_fits g f ≡ true) flow_is (fit_passes _ (group_fits g (flow_of so.stream)) (none_of _ _ head_fits).0)

  pub taking : IsTaking g last.period
  taking = subst (IsTaking g) (sym so.period) (record { positive = head_walk.positive; long = head_walk.long; whole = (walk_rate head_walk).whole })

  -- the elements before the next group
  abbrev pub prefix : List Element
  prefix = take (sizes front) whole

  pub done-prefix : (v : Sequence) → so.done v ≡ chain prefix v
  done-prefix v = so.done_is v ∙ sym (chain-first whole front (groups rest) v so.parts)

  -- what they make of samples lies in the span
  pub prefix-inside : (v : Sequence) → IsStream (chain prefix) width v → IsInSpan so.stream.low so.stream.high v
  prefix-inside v h =
      let is : v ≡ chain prefix (samples h.xs) = fun_ext h.is in
      subst (IsInSpan so.stream.low so.stream.high) (done-prefix (samples h.xs) ∙ sym is) (so.inside (samples h.xs) (the_samples h.xs h.fits))

  pub holds_prefix : (v : Sequence) → AreSamples width v → IsStream (chain prefix) width (so.done v)
  holds_prefix v h = record { xs = h.xs; fits = h.fit; is = λ n. ap (λ (s : Sequence). s n) (done-prefix v ∙ ap (chain prefix) h.are) }

  pub room_span : HasRoom (IsInSpan so.stream.low so.stream.high) (gain g)
  room_span = HasRoom-span so.stream.low so.stream.high (gain g) (walk_most head_walk) (walk_gain head_walk)

  pub room_prefix : HasRoom (IsStream (chain prefix) width) (gain g)
  room_prefix = record { most = room_span.most; within = record { each = λ v h. room_span.within.each v (prefix-inside v h) }; before = room_span.before; after = room_span.after }

  pub early : last.offset < 2 ^ 31
  early = let e = so.offset in let h = head_walk.early in omega arith

  -- no name of the next group is taken
  pub unused : (mid : NetView) → mid ≡ record { cells = net.cells; group = number } → IsUnused mid.cells mid.group
  unused mid is = subst (λ (n : NetView). IsUnused n.cells n.group) (sym is) (record {
    free = free_in net.cells number (λ name other same. so.names name other (inl (omega arith)));
  })

  -- the next group may be added
  pub can_add : (mid : NetView) → mid ≡ record { cells = net.cells; group = number } → CanAdd g (flow_before last.period fact) mid last
  can_add mid is = record {
    emits = record {
      within = subst (λ (n : NetView). last.node.place < length n.cells) (sym is) so.within;
      group = subst (λ (n : NetView). 1 ≤ n.group) (sym is) so.some;
      unused = unused mid is;
      early = early;
    };
    built = is_built_head;
    limits = split.within;
    takes = taking;
    fits = is_fitting;
  }

  pub below : fact.span_lo ≤ℤ pos 0
  below = subst (λ (z : ℤ). z ≤ℤ pos 0) (sym span_low) so.zero_in.least

  pub above : pos 0 ≤ℤ fact.span_hi
  above = subst (λ (z : ℤ). pos 0 ≤ℤ z) (sym span_high) so.zero_in.greatest

  pub SoFar-next : {new : NetView} (mid : NetView) (added : Added) (streams : Streams) → ((v : Sequence) → AreSamples width v → streams (so.done v)) → mid ≡ record { cells = net.cells; group = number } → IsGroupAdded g (flow_before last.period fact) streams mid new last added
      → SoFar width ticks whole old new from added.emitted.stream others left (number + 1) (front ++ g ∷ [])
  SoFar-next {new} mid added streams holds is adds =
      let r = adds.realises in
      let f = facts-is g (flow_before last.period fact) adds.facts is_built_head adds.fits adds.has_facts in
      let same_cells : mid.cells ≡ net.cells = ap (λ (n : NetView). n.cells) is in
      let same_group : mid.group ≡ number = ap (λ (n : NetView). n.group) is in
      let grown : IsGrown net.cells new.cells = subst (λ (cells : List Cell). IsGrown cells new.cells) same_cells (IsGrown-grows r.grows) in
      let next_in : (v : Sequence) → AreSamples width v → IsInSpan (low_after g so.stream.low so.stream.high) (high_after g so.stream.low so.stream.high) (apply_group g (so.done v)) =
      λ v h. in_span-group g so.stream.low so.stream.high (so.done v) split.within is_built_head (so.inside v h) in
      record {
        done = λ v. apply_group g (so.done v);
        stream = after g so.stream;
        first = so.first + size_of g;
        tally = tally_after ticks g so.tally;
        parts = so.parts ∙ ap (λ (gs : List Group). front ++ gs) split.parts ∙ sym (append_assoc front (g ∷ []) (groups others));
        stream_is = ap (after g) so.stream_is ∙ sym (after-more front g (input width ticks));
        first_is = let e = so.first_is in let m = sizes-more front g in omega (arith, e, m);
        done_is = λ v. ap (apply_group g) (so.done_is v) ∙ sym (apply-more front g v);
        walk = walk_next split.within head_walk;
        fits = (none_of _ _ head_fits).1;
        limits = split.limits;
        built = head_built.1;
        zero_in = zero-group g so.stream.low so.stream.high split.within is_built_head so.zero_in;
        few = let size = split.size in let some = split.some in let few = so.few in omega arith;
        some = omega arith;
        number_is = let e = so.number_is in let l = length_push front g in omega (arith, e, l);
        left_is = let e = facts_are in cc;
        end_is = ap (λ (gs : List Group). after_all gs so.stream) (sym split.parts) ∙ so.end_is;
        whole_is = λ v. ap (λ (gs : List Group). apply_groups gs (so.done v)) (sym split.parts) ∙ so.whole_is v;
        period = period_is r.period f.up f.down;
        balance = subst (λ (p : Pace). period_after g so.stream.period * p.up ≡ ticks * p.down) (sym (pace-more front g at_once))
            (balance-more so.stream.period (period_after g so.stream.period) ticks (pace_all front at_once).up (pace_all front at_once).down g so.balance (period-whole g so.stream.period (walk_rate head_walk)));
        offset = r.offset ∙ ap (λ (n : ℕ). n + adds.facts.delay last.period) so.offset ∙ ap (λ (p : ℕ). so.stream.offset + adds.facts.delay p) so.period ∙ ap (λ (n : ℕ). so.stream.offset + n) (f.delay so.stream flow_is);
        inside = next_in;
        grown = IsGrown-trans old.cells net.cells new.cells so.grown grown;
        grouped = subst (λ (n : ℕ). 1 ≤ n) (sym (r.grows.group ∙ same_group)) so.some;
        within = r.within;
        carries = λ inputs values v h run carried.
            let before = so.carries inputs values v h (grown.extends.runs cut_all IsCut-all inputs values run) carried in
            subst (λ (w : Sequence). Carries values added.emitted.stream w) (f.does (so.done v)) (r.carries inputs values (so.done v) (holds v h) run before);
        whole_carries = λ p inputs values v h run carried.
            let none = unrounded front g p in
            let linear = plain-carries g (flow_before last.period fact) adds.facts (plain-group g none.plain) adds.has_facts in
            let before = so.whole_carries none.before inputs values v h (grown.extends.runs cut_control IsCut-control inputs values run) carried in
            subst (λ (w : Sequence). Carries values added.emitted.stream w) (f.does (so.done v)) (r.whole linear inputs values (so.done v) (holds v h) run before);
        names = λ name other which.
            let was : IsFree mid.cells name = subst (λ (cells : List Cell). IsFree cells name) (sym same_cells) (so.names name other (earlier name.group which)) in
            r.names.free name (λ own. other_name name other which same_group own) was;
      }
    where
      period_is : {p facts_up facts_down : ℕ} → p * facts_up ≡ last.period * facts_down → facts_up ≡ up_factor g → facts_down ≡ down_factor g → p ≡ period_after g so.stream.period
      period_is {p} {facts_up} {facts_down} e up down =
          let whole_periods = period-whole g so.stream.period (walk_rate head_walk) in
          let positive : 1 ≤ up_factor g = (factors_some g split.within).0 in
          cancel p (period_after g so.stream.period) (up_factor g) positive
          (ap (λ (n : ℕ). p * n) (sym up) ∙ e ∙ ap (λ (n : ℕ). last.period * n) down ∙ ap (λ (n : ℕ). n * down_factor g) so.period ∙ sym whole_periods)

      earlier : (n : ℕ) → (number + 1 ≤ n) ⊎ (n ≡ 0) → (number ≤ n) ⊎ (n ≡ 0)
      earlier n (inl h) = inl (omega arith)
      earlier n (inr h) = inr h

      other_name : (name : Name) → (name.kind ≡ Control → ⊥) → (number + 1 ≤ name.group) ⊎ (name.group ≡ 0) → mid.group ≡ number → IsOwnName mid.group name → ⊥
      other_name name other (inl h) same (inl own) = absurd (omega arith)
      other_name name other (inr h) same (inl own) = absurd (let some = so.some in omega arith)
      other_name name other which same (inr control) = other control

-- ---- the loop over the facts

-- what stands past the end of a list of facts
abbrev pub no_facts : GroupFacts
no_facts = record { first = 0; last = 0; up = 0; down = 0; period_in = 0; period_out = 0; offset_in = 0; delay = 0; span_lo = pos 0; span_hi = pos 0; terms = 0 }

module _ {width ticks : ℕ} {whole : List Element} {old net : NetView} {from last : Stream} {rest : List Element} {number : ℕ} {front : List Group} (items : List GroupFacts) (i : ℕ) (so : SoFar width ticks whole old net from last rest (drop i items) number front) where
  pub so_at : (fact : GroupFacts) (d : GroupFacts) → i < length items → fact ≡ get_or items i d → SoFar width ticks whole old net from last rest (fact ∷ drop (i + 1) items) number front
  so_at fact d less is = subst (λ (left : List GroupFacts). SoFar width ticks whole old net from last rest left number front) (drop_more items i d less ∙ ap (λ (f : GroupFacts). f ∷ drop (i + 1) items) (sym is)) so

  pub so_none : i < length items → rest ≡ [] → ⊥
  so_none less none =
      let facts : drop i items ≡ [] = so.left_is ∙ ap (λ (es : List Element). group_facts so.first so.stream (groups es)) none in
      let some : [] ≡ get_or items i no_facts ∷ drop (i + 1) items = sym facts ∙ drop_more items i no_facts less in
      absurd (cc)

  pub so_all : length items ≤ i → SoFar width ticks whole old net from last rest [] number front
  so_all past = subst (λ (left : List GroupFacts). SoFar width ticks whole old net from last rest left number front) (drop_all i items past) so

pub size_least : (z : ℤ) (n : ℕ) → pos n ≤ℤ z → n ≤ size z
size_least (pos m) n h = omega (arith, ints, h)
size_least (negsuc m) n h = absurd (omega (arith, ints, h))

pub size_most : (z : ℤ) (n : ℕ) → z ≤ℤ pos n → size z ≤ n
size_most (pos m) n h = omega (arith, ints, h)
size_most (negsuc m) n h = omega arith

pub some_width : (plan : Plan) → IsAccepted plan → 1 ≤ size plan.width
some_width plan accepted = let two : 2 ≤ size plan.width = size_least plan.width 2 (passes_of plan accepted).limits.width_low in omega arith

pub SoFar-plan : (plan : Plan) (facts : Facts) (old net : NetView) (from : Stream) (rest : List Element) → rest ≡ plan.elements → from.node.place < length old.cells → AreNameless old.cells → from.offset ≡ 0 → from.period ≡ size plan.ticks → IsAccepted plan → AreFacts (size plan.width) (size plan.ticks) plan.elements facts → AreBuiltGroups (groups plan.elements) → net ≡ record { cells = old.cells; group = 1 }
    → SoFar (size plan.width) (size plan.ticks) plan.elements old net from from rest facts.groups.items 1 []
SoFar-plan plan facts old net from rest rest_is inside nameless offset period accepted are built is =
    let p = passes_of plan accepted in
    let l = p.limits in
    subst (λ (es : List Element). SoFar (size plan.width) (size plan.ticks) plan.elements old net from from es facts.groups.items 1 []) (sym rest_is)
    (SoFar-start (size plan.width) (size plan.ticks) plan.elements old net from facts.groups.items inside nameless offset period
    (size_least plan.width 2 l.width_low) (size_most plan.width 64 l.width_high) (size_least plan.ticks 1 l.ticks_low) (size_most plan.ticks 65536 l.ticks_high) l.elements l.few p.rates p.peaks p.fits p.costs built are.groups_are is)

-- ---- the end

-- no group is left
pub SoFar-none : {width ticks : ℕ} {whole : List Element} {old net : NetView} {from last : Stream} {rest : List Element} {number : ℕ} {front : List Group} → SoFar width ticks whole old net from last rest [] number front → groups rest ≡ []
SoFar-none {rest = rest} so = none_left (groups rest) so.left_is
  where
    none_left : (gs : List Group) → [] ≡ group_facts so.first so.stream gs → gs ≡ []
    none_left [] e = refl
    none_left (g ∷ gs) e = absurd (cc)

-- all groups stand before
pub SoFar-all : {width ticks : ℕ} {whole : List Element} {old net : NetView} {from last : Stream} {rest : List Element} {number : ℕ} {front : List Group} → SoFar width ticks whole old net from last rest [] number front → groups whole ≡ front
SoFar-all {front = front} so = so.parts ∙ ap (λ (gs : List Group). front ++ gs) (SoFar-none so) ∙ append-nil front

-- the periods of a stream, by the extent of what came before it
pub balanced : {period : ℕ} (ticks own : ℕ) (front : List Group) (x : Extent) → own ≡ period → period * (pace_all front at_once).up ≡ ticks * (pace_all front at_once).down → record { up = x.up; down = x.down } ≡ pace_all front at_once
    → own * x.up ≡ ticks * x.down
balanced {period} ticks own front x same is pace =
    ap (λ (n : ℕ). n * x.up) same ∙ ap (λ (p : Pace). period * p.up) pace ∙ is ∙ ap (λ (p : Pace). ticks * p.down) (sym pace)

pub SoFar-end : {width ticks : ℕ} {whole : List Element} {old net : NetView} {from last : Stream} {rest : List Element} {number : ℕ} {front : List Group} → SoFar width ticks whole old net from last rest [] number front → IsChained width ticks whole old net from last
SoFar-end {width} {ticks} {whole} {old} {net} {from} {last} {rest} {number} {front} so =
    let none = SoFar-none so in
    let stream_is : so.stream ≡ last_stream width ticks whole = sym (ap (λ (gs : List Group). after_all gs so.stream) none) ∙ so.end_is in
    let small = walk_end (subst (λ (gs : List Group). IsWalk ticks so.first so.tally gs so.stream) none so.walk) in
    let front_is = SoFar-all so in
    let unrounded_end : ArePlainGroups (groups whole) → has_rounding front ≡ false = λ p. plain-unrounded front (subst ArePlainGroups front_is p) in
    let done_is : (v : Sequence) → so.done v ≡ chain whole v = λ v. sym (ap (λ (gs : List Group). apply_groups gs (so.done v)) none) ∙ so.whole_is v ∙ sym (chain-groups whole v) in
    record {
      grown = so.grown;
      grouped = so.grouped;
      within = so.within;
      period = so.period ∙ ap (λ (s : Timed). s.period) stream_is;
      offset = so.offset ∙ ap (λ (s : Timed). s.offset) stream_is;
      positive = subst (λ (p : ℕ). 1 ≤ p) (sym so.period) so.walk.positive;
      long = let l = so.walk.long in let e = so.period in omega (arith, l, e);
      balance = balanced ticks last.period front (extent whole) so.period so.balance (extent-pace whole ∙ ap (λ (gs : List Group). pace_all gs at_once) front_is);
      early = let e = so.offset in let h = so.walk.early in omega arith;
      low_small = subst (λ (s : Timed). unsigned_abs s.low ≤ 2 ^ 125) stream_is small.0;
      high_small = subst (λ (s : Timed). unsigned_abs s.high ≤ 2 ^ 125) stream_is small.1;
      span = λ xs fit.
          let v = samples xs in
          subst (λ (w : Sequence). IsInSpan (last_stream width ticks whole).low (last_stream width ticks whole).high w) (done_is v) (subst (λ (s : Timed). IsInSpan s.low s.high (so.done v)) stream_is (so.inside v (the_samples xs fit)));
      carries = λ inputs values xs fit run carried. subst (λ (w : Sequence). Carries values last w) (done_is (samples xs)) (so.carries inputs values (samples xs) (the_samples xs fit) run carried);
      whole = λ p inputs values xs fit run carried. subst (λ (w : Sequence). Carries values last w) (done_is (samples xs)) (so.whole_carries (unrounded_end p) inputs values (samples xs) (the_samples xs fit) run carried);
      names = λ name other none. so.names name other (inr none);
    }
