-- The net of a plan, part by part.
use Rattle.std.proofs.Common.{◌≡◌, ◌⊎◌, ℕ, zero, suc, ◌+◌, ◌-◌, ◌*◌, ◌<◌, ◌≤◌, List, [], ◌∷◌, length, refl, sym, ◌∙◌, ap, arith, Some, None, slice_get, inl, inr, subst, ℤ, pos, IsSome, Bool, true, false, ◌&&◌}
use Rattle.std.specs.Prelude.{All}
use Rattle.std.proofs.lemmas.Int.{ints}
use Rattle.std.proofs.lemmas.Nat.{pow_pos}
use Rattle.std.proofs.lemmas.Bool.{cases_lt}
use Rattle.mr_values.specs.declared.plan.Element.{Element}
use Rattle.mr_values.specs.declared.plan.Element.TheVariants.{Up, Down, Filter, CicDown, CicUp, Round, Clip}
use Rattle.mr_values.specs.declared.plan.Form.{Form}
use Rattle.mr_values.specs.Timing.{Group, Fir, DownCic, UpCic, Rounding, Clipping, join_up, join_filter, groups, input, last_stream, latency}
use Rattle.mr_values.specs.Sequence.{samples}
use Rattle.mr_values.specs.Value.{chain, size}
use Rattle.mr_values.specs.Width.{FitsWidth}
use Rattle.net_graph.specs.declared.cell.Cell.{Cell}
use Rattle.net_graph.specs.declared.cell.Node.{Node}
use Rattle.net_graph.specs.declared.cell.Stream.{Stream}
use Rattle.net_graph.specs.declared.cell.Item.TheVariants.{Input}
use Rattle.net_graph.specs.Cells.{NetView}
use Rattle.net_graph.specs.Name.{is_control, is_input}
use Rattle.net_graph.specs.WellFormed.{IsWellFormed, IsBound}
use Rattle.net_graph.specs.Control.{IsControlClosed}
use Rattle.net_graph.specs.Cut.{Cut, IsCut, cut_all, cut_control}
use Rattle.net_graph.specs.Run.{Values, IsRun}
use Rattle.net_graph.specs.Grow.{Adds}
use Rattle.net_graph.proofs.CutLemmas.{IsCut-all, IsCut-control}
use Rattle.net_graph.proofs.NetLemmas.{cell_of_added}
use Rattle.pipeline_balance.specs.Gate.{IsTickOf, IsBitOf, Carries}
use Rattle.impulse_phase.specs.Response.{AreLinear}
use Rattle.plan_laws.specs.Laws.{IsBetween}
use Rattle.rounding_stage.proofs.MapLemmas.{fits_between}
use Rattle.chain_build.specs.declared.groups.GroupCost.{GroupCost}
use Rattle.chain_build.specs.declared.output.Outputs.{Outputs}
use Rattle.chain_build.specs.Added.{IsGrown, AreNameless, CarriesChain, IsChained}
use Rattle.chain_build.specs.Built.{are_built, AreBuiltGroups, has_rounding}
use Rattle.chain_build.specs.Forms.{is_built_form}
use Rattle.chain_build.specs.ChainNet.{HasInput, HasSamples, ShowsValues, IsChainNet}
use Rattle.chain_build.specs.GroupCosts.{AreUngrouped, HasCosts}
use Rattle.chain_build.specs.Linear.{output_range}
use Rattle.chain_build.specs.Output.{AddsOutputs}
use Rattle.chain_build.specs.Shapes.{HaveLinearItems}
use Rattle.chain_build.proofs.ShapesSoFar.{shapes-outputs}
use Rattle.chain_build.proofs.CostsSoFar.{HasCosts-outputs}
use Rattle.chain_build.proofs.Grown.{IsGrown-trans}
use Rattle.chain_build.proofs.OutputRange.{RangesOver, ranges-over}
use Rattle.chain_build.proofs.Samples.{the_samples, samples-inside}

-- ---- which plans are built

built-filter : (taps : List ℤ) (form : Form) (gs : List Group) → is_built_form form ≡ true → AreBuiltGroups gs → AreBuiltGroups (join_filter taps form gs)
built-filter taps form [] is h = (is, tt)
built-filter taps form (Fir None None down ∷ gs) is h = (is, h.1)
built-filter taps form (Fir None (Some f) down ∷ gs) is h = (is, h)
built-filter taps form (Fir (Some u) None down ∷ gs) is h = (is, h)
built-filter taps form (Fir (Some u) (Some f) down ∷ gs) is h = (is, h)
built-filter taps form (DownCic factor stages delay ∷ gs) is h = (is, h)
built-filter taps form (UpCic factor stages delay ∷ gs) is h = (is, h)
built-filter taps form (Rounding shift mode ∷ gs) is h = (is, h)
built-filter taps form (Clipping bits ∷ gs) is h = (is, h)

both : (a b : Bool) → (a && b) ≡ true → (a ≡ true) × (b ≡ true)
both true b e = (refl, e)
both false b e = absurd (cc)

built-up : (factor : ℕ) (gs : List Group) → AreBuiltGroups gs → AreBuiltGroups (join_up factor gs)
built-up factor [] h = (refl, tt)
built-up factor (Fir None f down ∷ gs) h = h
built-up factor (Fir (Some u) f down ∷ gs) h = (refl, h)
built-up factor (DownCic other stages delay ∷ gs) h = (refl, h)
built-up factor (UpCic other stages delay ∷ gs) h = (refl, h)
built-up factor (Rounding shift mode ∷ gs) h = (refl, h)
built-up factor (Clipping bits ∷ gs) h = (refl, h)

pub built-groups : (es : List Element) → are_built es ≡ true → AreBuiltGroups (groups es)
built-groups [] h = tt
built-groups (Up factor ∷ es) h = built-up (size factor) (groups es) (built-groups es h)
built-groups (Down factor ∷ es) h = (refl, built-groups es h)
built-groups (Filter taps form ∷ es) h = let parts = both (is_built_form form) (are_built es) h in built-filter taps form (groups es) parts.0 (built-groups es parts.1)
built-groups (CicDown factor stages delay ∷ es) h = (tt, built-groups es h)
built-groups (CicUp factor stages delay ∷ es) h = (tt, built-groups es h)
built-groups (Round shift mode ∷ es) h = (tt, built-groups es h)
built-groups (Clip bits ∷ es) h = (tt, built-groups es h)

-- ---- a net of one input

abbrev pub empty : NetView
empty = record { cells = []; group = 0 }

abbrev pub input_cell : ℕ → Cell
input_cell width = record { group = 0; name = None; width = width; item = Some Input }

module _ {n1 : NetView} {node : Node} {width : ℕ} (a : Adds empty n1 node width Input) where
  pub only_input : (k : ℕ) (cell : Cell) → slice_get n1.cells k ≡ Some cell → cell ≡ input_cell width
  only_input k cell there = one k cell (subst (λ (cells : List Cell). slice_get cells k ≡ Some cell) a.cells there)
    where
      one : (k : ℕ) (cell : Cell) → slice_get (input_cell width ∷ []) k ≡ Some cell → cell ≡ input_cell width
      one zero cell e = cc
      one (suc k) cell e = absurd (cc)

  pub nameless : AreNameless n1.cells
  nameless = record { free = λ name. record { none = λ k cell there is. let e : None ≡ Some name = sym (ap (λ (c : Cell). c.name) (only_input k cell there)) ∙ is in absurd (cc) } }

  pub bound1 : IsBound n1.cells
  bound1 = record { each = λ k cell there. subst (λ (c : Cell). IsSome c.item) (sym (only_input k cell there)) refl }

  pub ungrouped1 : AreUngrouped n1.cells
  ungrouped1 = record { each = λ cell k there. ap (λ (c : Cell). c.group) (only_input k cell there) }

  closed1 : IsControlClosed n1.cells
  closed1 = record { each = λ k cell there control. absurd (let f : false ≡ true = sym (ap is_control (only_input k cell there)) ∙ control in cc) }

  -- it stays the only input
  has_input : (new : List Cell) → IsGrown n1.cells new → HasInput new width
  has_input new grown =
      let kept = grown.extends.keeps node.place _ (cell_of_added a) in
      record {
        cell = kept.cell;
        there = subst (λ (k : ℕ). slice_get new k ≡ Some kept.cell) a.place kept.there;
        is_it = kept.input;
        same_width = kept.width;
        only = λ k other there is. first k other there is (cases_lt k 1);
      }
    where
      one : length n1.cells ≡ 1
      one = ap length a.cells

      first : (k : ℕ) (other : Cell) → slice_get new k ≡ Some other → is_input other.item ≡ true → (k < 1) ⊎ (1 ≤ k) → k ≡ 0
      first k other there is (inl low) = omega arith
      first k other there is (inr high) = absurd (let no = grown.no_input k other (omega (arith, one)) there in let f : false ≡ true = sym no ∙ is in cc)

-- a sample fits the width
sample_fits : (width ticks : ℕ) (z : ℤ) → IsBetween (input width ticks).low (input width ticks).high z → FitsWidth width z
sample_fits width ticks z h =
    let l = h.least in
    let g = h.greatest in
    let some = pow_pos (width - 1) in
    record { low = l; high = omega (arith, ints, g, some) }

-- ---- the whole

module _ {n1 n2 n3 : NetView} {node : Node} {stream : Stream} {outputs : Outputs} (width ticks : ℕ) (elements : List Element) (wide : 1 ≤ width) (a : Adds empty n1 node width Input)
    (chained : (let from : Stream = record { node = node; period = ticks; offset = 0 } in IsChained width ticks elements n1 n2 from stream))
    (linear : has_rounding (groups elements) ≡ false → AreLinear elements) (outs : AddsOutputs (output_range width ticks elements).lo (output_range width ticks elements).hi n2 n3 stream outputs) where
  pub over : RangesOver width elements (output_range width ticks elements)
  over = ranges-over width ticks elements (last_stream width ticks elements).low (last_stream width ticks elements).high chained.low_small chained.high_small chained.span refl refl linear

  grown : IsGrown n1.cells n3.cells
  grown = IsGrown-trans n1.cells n2.cells n3.cells chained.grown outs.grown

  pub bound3 : IsBound n3.cells
  bound3 = grown.bound (bound1 a)

  -- the input's stream carries the samples
  pub carried_from : (cut : Cut) → IsCut cut → (inputs : ℕ → ℤ) (values : Values) (xs : List ℤ) → All (FitsWidth width) xs → HasSamples ticks inputs (samples xs) → IsRun cut n3.cells inputs values
      → Carries values (record { node = node; period = ticks; offset = 0 }) (samples xs)
  carried_from cut law inputs values xs fit are run k =
      let inside = samples-inside width ticks (samples xs) (the_samples xs fit) in
      let fits : FitsWidth width (samples xs (pos k)) = sample_fits width ticks (samples xs (pos k)) (inside.within (pos k)) in
      let at : 0 + k * ticks ≡ k * ticks = omega arith in
      ap (λ (t : ℕ). values t node.place) at
      ∙ (grown.extends.runs cut law inputs values run).each node.place _ (cell_of_added a) (k * ticks)
      ∙ ap (cut false width) (are k)
      ∙ law.fitting false width (samples xs (pos k)) wide fits

  pub shows : (cut : Cut) → IsCut cut → (let from : Stream = record { node = node; period = ticks; offset = 0 } in CarriesChain cut width elements n2.cells from stream) → ShowsValues cut width ticks elements n3.cells outputs.out_q
  shows cut law through_chain inputs values xs fit are run =
      let v = samples xs in
      let carried = carried_from cut law inputs values xs fit are run in
      let through = through_chain inputs values xs fit (outs.grown.extends.runs cut law inputs values run) carried in
      let range = output_range width ticks elements in
      let out_fits : (k : ℕ) → FitsWidth outs.width (chain elements v (pos k)) =
      λ k. let held = over.holds xs fit k in fits_between outs.width range.lo (chain elements v (pos k)) range.hi outs.least.holds_low outs.least.holds_high held.least held.greatest in
      let shown = outs.carries cut law inputs values (chain elements v) out_fits run through in
      subst (λ (p : ℕ). Carries values (record { node = outputs.out_q; period = p; offset = latency width ticks elements }) (chain elements v)) chained.period
      (subst (λ (o : ℕ). Carries values (record { node = outputs.out_q; period = stream.period; offset = o + 1 }) (chain elements v)) chained.offset shown)

  pub chain_net : IsWellFormed n3.cells → IsChainNet width ticks elements n3.cells outputs.out_q outputs.out_valid
  chain_net formed = record {
    netlist = record { well_formed = formed; bound = bound3 };
    input = has_input a n3.cells grown;
    closed = grown.closed (closed1 a);
    out_width = outs.width;
    least = outs.least;
    narrow = outs.least.least 127 (omega arith) over.low_fits over.high_fits;
    group = outs.group;
    register = outs.register;
    shown = outs.shown;
    shown_width = outs.shown_width;
    shown_control = outs.shown_control;
    positive = subst (λ (p : ℕ). 1 ≤ p) chained.period chained.positive;
    values = shows cut_all IsCut-all chained.carries;
    whole = λ plain. shows cut_control IsCut-control (chained.whole plain);
    valid = subst (λ (p : ℕ). IsBitOf n3.cells (IsTickOf p (latency width ticks elements)) outputs.out_valid) chained.period
        (subst (λ (o : ℕ). IsBitOf n3.cells (IsTickOf stream.period (o + 1)) outputs.out_valid) chained.offset outs.bit);
  }

  -- the outputs cost nothing
  pub chain_costs : {costs : List GroupCost} → HasCosts (groups elements) costs n2.cells → HasCosts (groups elements) costs n3.cells
  chain_costs of_groups = HasCosts-outputs (chained.grown.bound (bound1 a)) outs.grown outs.adders outs.named of_groups

  -- what the outputs add may stand in a linear group
  pub chain_shapes : HaveLinearItems 1 (groups elements) n2.cells → HaveLinearItems 1 (groups elements) n3.cells
  chain_shapes have = shapes-outputs (groups elements) outs.linear have
