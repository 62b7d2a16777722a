-- The linear registers of a plan in its net.
use Rattle.std.proofs.Common.{◌≡◌, ◌⊎◌, ℕ, zero, suc, ◌+◌, ◌*◌, ◌≤◌, Bool, true, false, cond, if◌then◌else◌, List, [], ◌∷◌, ◌++◌, Some, None, slice_get, refl, sym, ◌∙◌, ap, subst, arith, inl, inr, ℤ, pos}
use Rattle.std.specs.Prelude.{All}
use Rattle.mr_values.specs.declared.plan.Element.{Element}
use Rattle.mr_values.specs.Sequence.{samples, filter}
use Rattle.mr_values.specs.Timing.{Group, groups, last_stream, latency}
use Rattle.mr_values.specs.Value.{chain}
use Rattle.mr_values.specs.Width.{FitsWidth}
use Rattle.net_graph.specs.declared.cell.Cell.{Cell}
use Rattle.net_graph.specs.declared.cell.Item.TheVariants.{Input, Register}
use Rattle.net_graph.specs.declared.cell.Node.{Node}
use Rattle.net_graph.specs.declared.cell.Stream.{Stream}
use Rattle.net_graph.specs.declared.name.Name.{Name}
use Rattle.net_graph.specs.declared.name.NameKind.{NameKind}
use Rattle.net_graph.specs.declared.name.NameKind.TheVariants.{Control, Output}
use Rattle.net_graph.specs.Cells.{NetView}
use Rattle.net_graph.specs.Cut.{Cut, IsCut, cut_all, cut_control}
use Rattle.net_graph.specs.Grow.{Adds}
use Rattle.net_graph.specs.Name.{IsRegisterKind, IsRegisterName}
use Rattle.net_graph.specs.Run.{Values, IsRun}
use Rattle.net_graph.specs.WellFormed.{IsWellFormed, IsNamed}
use Rattle.net_graph.proofs.CutLemmas.{IsCut-all, IsCut-control}
use Rattle.pipeline_balance.specs.Gate.{Carries}
use Rattle.pipeline_balance.specs.Numbered.{IsRegister, name_of}
use Rattle.fir_pieces.proofs.PeakLemmas.{bits_least}
use Rattle.rounding_stage.proofs.MapLemmas.{fits_between}
use Rattle.stage_law.specs.Registers.{HeldSum, bits_for, bits_of}
use Rattle.chain_build.specs.declared.output.Outputs.{Outputs}
use Rattle.chain_build.specs.Added.{IsChained}
use Rattle.chain_build.specs.Built.{ArePlainGroups, has_rounding}
use Rattle.chain_build.specs.ChainNet.{HasSamples, ShowsValues}
use Rattle.chain_build.specs.Linear.{LinearRegister, PrefixStream, each_index, output_range, output_register, prefix_range, register_of, is_linear_number}
use Rattle.chain_build.specs.LinearNet.{IsRegisterIn, IsLinearName, IsListed, HasLinearRegisters}
use Rattle.chain_build.specs.LinearOn.{IsRegisterOn, HasGroupRegisters, output_registers}
use Rattle.chain_build.specs.Output.{AddsOutputs}
use Rattle.chain_build.proofs.ChainLemmas.{empty}
use Rattle.chain_build.proofs.FormFacts.{filter-one}
use Rattle.chain_build.proofs.OutputRange.{RangesOver}
use Rattle.chain_build.proofs.RegisterOn.{IsRegisterOn-later}
use Rattle.chain_build.proofs.RegistersSoFar.{parted, listed-front, listed-back}
use Rattle.chain_build.proofs.Roundings.{plain-unrounded, unrounded-plain}

-- the stream of the chain's values
abbrev last_at : ℕ → ℕ → List Element → PrefixStream
last_at width ticks elements = record { elements = elements; period = (last_stream width ticks elements).period; offset = (last_stream width ticks elements).offset }

module _ {n1 n2 n3 : NetView} {node : Node} {stream : Stream} {outputs : Outputs} (width ticks : ℕ) (elements : List Element) (wide : 1 ≤ width) (a : Adds empty n1 node width Input)
    (chained : (let from : Stream = record { node = node; period = ticks; offset = 0 } in IsChained width ticks elements n1 n2 from stream))
    (outs : AddsOutputs (output_range width ticks elements).lo (output_range width ticks elements).hi n2 n3 stream outputs)
    (over : RangesOver width elements (output_range width ticks elements))
    (carried : (cut : Cut) → IsCut cut → (inputs : ℕ → ℤ) (values : Values) (xs : List ℤ) → All (FitsWidth width) xs → HasSamples ticks inputs (samples xs) → IsRun cut n3.cells inputs values
    → Carries values (record { node = node; period = ticks; offset = 0 }) (samples xs))
    (shown : ShowsValues cut_all width ticks elements n3.cells outputs.out_q) where
  in_net : (r : LinearRegister) → IsRegisterOn width n2.cells (record { node = node; period = ticks; offset = 0 }) r → IsRegisterIn width ticks n3.cells r
  in_net r before =
      let on = IsRegisterOn-later outs.grown.extends before in
      record {
        node = on.node;
        group = on.group;
        register = on.register;
        same = λ inputs values whole xs fit are run uncut. on.same inputs values whole xs fit run uncut (carried cut_all IsCut-all inputs values xs fit are run) (carried cut_control IsCut-control inputs whole xs fit are uncut);
        holds = λ s is inputs values xs fit are run. on.holds s is inputs values xs fit run (carried cut_all IsCut-all inputs values xs fit are run);
      }

  out_fits : (xs : List ℤ) → All (FitsWidth width) xs → (k : ℕ) → FitsWidth outs.width (chain elements (samples xs) (pos k))
  out_fits xs fit k =
      let range = output_range width ticks elements in
      let held = over.holds xs fit k in
      fits_between outs.width range.lo (chain elements (samples xs) (pos k)) range.hi outs.least.holds_low outs.least.holds_high held.least held.greatest

  -- the output's stream in both runs
  through : (cut : Cut) → IsCut cut → ((inputs : ℕ → ℤ) (values : Values) (xs : List ℤ) → All (FitsWidth width) xs → IsRun cut n2.cells inputs values → Carries values (record { node = node; period = ticks; offset = 0 }) (samples xs) → Carries values stream (chain elements (samples xs)))
      → (inputs : ℕ → ℤ) (values : Values) (xs : List ℤ) → All (FitsWidth width) xs → HasSamples ticks inputs (samples xs) → IsRun cut n3.cells inputs values → Carries values stream (chain elements (samples xs))
  through cut law does inputs values xs fit are run = does inputs values xs fit (outs.grown.extends.runs cut law inputs values run) (carried cut law inputs values xs fit are run)

  out_width : has_rounding (groups elements) ≡ false → outs.width ≡ bits_of (prefix_range width elements) output_register.sums
  out_width none =
      let range_is : output_range width ticks elements ≡ prefix_range width elements (pos 1 ∷ []) each_index =
      ap (λ (b : Bool). if b then record { lo = (last_stream width ticks elements).low; hi = (last_stream width ticks elements).high } else prefix_range width elements (pos 1 ∷ []) each_index) none in
      let bits : bits_for (output_range width ticks elements) ≡ outs.width = bits_least (output_range width ticks elements) outs.width outs.least in
      let exact : bits_for (prefix_range width elements (pos 1 ∷ []) each_index) ≡ outs.width = sym (ap bits_for range_is) ∙ bits in
      let some = outs.least.positive in
      omega (arith, exact, some)

  the_sum : (s : HeldSum) (b : Bool) (c : Bool) → cond b None (cond c (Some (record { form = pos 1 ∷ []; class = each_index; lag = 1 })) None) ≡ Some s → s ≡ record { form = pos 1 ∷ []; class = each_index; lag = 1 }
  the_sum s true c is = absurd (cc)
  the_sum s false true is = cc
  the_sum s false false is = absurd (cc)

  out_in : ArePlainGroups (groups elements) → IsRegisterIn width ticks n3.cells (register_of width 0 (last_at width ticks elements) output_register)
  out_in plain =
      let none = plain-unrounded (groups elements) plain in
      record {
        node = outputs.out_q;
        group = outs.group;
        register = subst (λ (w : ℕ). IsRegister n3.cells outputs.out_q.place outs.group (name_of 0 Output 0) w) (out_width none) outs.register;
        same = λ inputs values whole xs fit are run uncut.
            outs.kept_whole inputs values whole (chain elements (samples xs)) (out_fits xs fit) run uncut
            (through cut_all IsCut-all chained.carries inputs values xs fit are run) (through cut_control IsCut-control (chained.whole plain) inputs whole xs fit are uncut);
        holds = λ s is inputs values xs fit are run k in_class.
            let sum = the_sum s _ _ is in
            let held : values (latency width ticks elements + k * (last_stream width ticks elements).period) outputs.out_q.place ≡ chain elements (samples xs) (pos k) = shown inputs values xs fit are run k in
            let at : (last_stream width ticks elements).offset + k * (last_stream width ticks elements).period + 1 ≡ latency width ticks elements + k * (last_stream width ticks elements).period = omega arith in
            subst (λ (h : HeldSum). values ((last_stream width ticks elements).offset + k * (last_stream width ticks elements).period + h.lag) outputs.out_q.place ≡ filter h.form (chain elements (samples xs)) (pos k)) (sym sum)
            (ap (λ (t : ℕ). values t outputs.out_q.place) at ∙ held ∙ sym (ap (λ v. v (pos k)) (filter-one (chain elements (samples xs)))));
      }

  -- the name of the output is that of its register
  output_named : (name : Name) → name.kind ≡ Output → IsRegisterName name → name_of 0 Output 0 ≡ name
  output_named name kind is =
      let numbers : IsRegisterKind Output name.group name.number = subst (λ (k : NameKind). IsRegisterKind k name.group name.number) kind is in
      ap (λ (g : ℕ). name_of g Output 0) (sym numbers.0) ∙ ap (λ (k : NameKind). name_of name.group k 0) (sym kind) ∙ ap (name_of name.group name.kind) (sym numbers.1)

  out_listed : ArePlainGroups (groups elements) → (name : Name) → name_of 0 Output 0 ≡ name → IsListed (output_registers width ticks elements) name
  out_listed plain name named =
      subst (λ (rs : List LinearRegister). IsListed rs name)
      (sym (ap (λ (b : Bool). if b then [] else register_of width 0 (last_at width ticks elements) output_register ∷ []) (plain-unrounded (groups elements) plain)))
      (record { place = 0; r = register_of width 0 (last_at width ticks elements) output_register; there = refl; named = named })

  out_each : (b : Bool) → has_rounding (groups elements) ≡ b → (j : ℕ) (r : LinearRegister) → slice_get (if b then [] else register_of width 0 (last_at width ticks elements) output_register ∷ []) j ≡ Some r → IsRegisterIn width ticks n3.cells r
  out_each true is j r there = absurd (cc)
  out_each false is zero r there = let same : register_of width 0 (last_at width ticks elements) output_register ≡ r = cc in subst (IsRegisterIn width ticks n3.cells) same (out_in (unrounded-plain (groups elements) is))
  out_each false is (suc j) r there = absurd (cc)

  some_group : (gs : List Group) (n : ℕ) → is_linear_number gs n ≡ true → 1 ≤ n
  some_group gs zero is = absurd (cc)
  some_group gs (suc n) is = omega arith

  module _ (formed : IsWellFormed n3.cells) (regs : HasGroupRegisters width ticks elements n2.cells (record { node = node; period = ticks; offset = 0 })) where
    own_listed : (place : ℕ) (cell : Cell) (name : Name) (next : Node) → slice_get n3.cells place ≡ Some cell → cell.name ≡ Some name → cell.item ≡ Some (Register next) → IsLinearName elements name → IsListed (regs.listed ++ output_registers width ticks elements) name
    own_listed place cell name next there named item (inl output) =
        let is_named : IsNamed (Some name) (Some (Register next)) = subst (λ o. IsNamed o (Some (Register next))) named (subst (IsNamed cell.name) item (formed.each place cell there).named) in
        listed-back regs.listed (output_registers width ticks elements) name (out_listed output.1 name (output_named name output.0 is_named))
    own_listed place cell name next there named item (inr own) =
        let some = some_group (groups elements) name.group own.1 in
        let untouched : (name.group ≡ 0) ⊎ (name.kind ≡ Control) → ⊥ = λ touched. by touched some in
        listed-front regs.listed (output_registers width ticks elements) name
        (regs.only name (λ free. (outs.names.free name untouched free).none place cell there named) own.0 some own.1)
      where
        by : (name.group ≡ 0) ⊎ (name.kind ≡ Control) → 1 ≤ name.group → ⊥
        by (inl none) some = absurd (omega (arith, none, some))
        by (inr control) some = own.0 control

    own_each : (i : ℕ) (r : LinearRegister) → slice_get (regs.listed ++ output_registers width ticks elements) i ≡ Some r → IsRegisterIn width ticks n3.cells r
    own_each i r there = elim (parted regs.listed (output_registers width ticks elements) i r there) [
      | inl before ↦ in_net r (regs.each i r before)
      | inr here ↦ out_each (has_rounding (groups elements)) refl here.0 r here.1
    ]

    pub has_linear : HasLinearRegisters width ticks elements n3.cells
    has_linear = record {
      each = λ i r there. own_each i r (subst (λ (rs : List LinearRegister). slice_get rs i ≡ Some r) (sym regs.parts) there);
      only = λ place cell name next there named item is. subst (λ (rs : List LinearRegister). IsListed rs name) regs.parts (own_listed place cell name next there named item is);
    }
