-- Of which groups the nodes are while a net grows.
use Rattle.std.proofs.Common.{◌≡◌, ◌⊎◌, ℕ, ◌+◌, ◌<◌, ◌≤◌, List, [], ◌∷◌, ◌++◌, length, Option, Some, None, slice_get, refl, sym, ◌∙◌, ap, arith, inl, inr, append-nil, subst, ℤ, pos}
use Rattle.std.proofs.lemmas.Bool.{cases_lt}
use Rattle.mr_values.specs.declared.plan.Element.{Element}
use Rattle.mr_values.specs.declared.plan.Element.TheVariants.{Up, Down, Filter, CicDown, CicUp, Round, Clip}
use Rattle.mr_values.specs.declared.plan.Form.{Form}
use Rattle.mr_values.specs.declared.plan.Plan.{Plan}
use Rattle.mr_values.specs.Timing.{Group, Fir, DownCic, UpCic, Rounding, Clipping, join_up, join_filter, groups}
use Rattle.mr_values.specs.Value.{size}
use Rattle.net_graph.specs.declared.cell.Cell.{Cell}
use Rattle.net_graph.specs.declared.name.Name.{Name}
use Rattle.net_graph.specs.declared.name.NameKind.{NameKind}
use Rattle.net_graph.specs.declared.name.NameKind.TheVariants.{Control, Window, Copy, PreAdder, Register as Other, Table, Output, Valid}
use Rattle.net_graph.specs.declared.cell.Item.{Item}
use Rattle.net_graph.specs.declared.cell.Item.TheVariants.{Input, Constant, Add, Sub, Shl, Shr, Mux, Equal, Bits, Register}
use Rattle.net_graph.specs.Cells.{NetView, cell_at}
use Rattle.net_graph.specs.Name.{IsRegisterKind, IsWireKind}
use Rattle.net_graph.specs.WellFormed.{IsFree, IsNamed, IsWellFormed}
use Rattle.net_graph.proofs.CellLemmas.{cell_at-there, same_cell}
use Rattle.plan_check.specs.Accepted.{IsAccepted}
use Rattle.plan_check.specs.Limits.{limit_test}
use Rattle.plan_check.specs.declared.fault.LimitWhich.TheVariants.{Elements}
use Rattle.plan_check.proofs.Options.{none_of}
use Rattle.chain_build.specs.declared.groups.GroupCost.{GroupCost}
use Rattle.chain_build.specs.declared.output.Outputs.{Outputs}
use Rattle.net_graph.specs.declared.cell.Stream.{Stream}
use Rattle.chain_build.specs.Groups.{AreGrouped, IsGroupedTo}
use Rattle.chain_build.specs.Output.{AddsOutputs}
use Rattle.chain_build.proofs.CostsSoFar.{CostsSoFar}

-- ---- a plan has a group

some_up : (factor : ℕ) (gs : List Group) → 1 ≤ length (join_up factor gs)
some_up factor [] = omega arith
some_up factor (Fir None f down ∷ gs) = omega arith
some_up factor (Fir (Some u) f down ∷ gs) = omega arith
some_up factor (DownCic other stages delay ∷ gs) = omega arith
some_up factor (UpCic other stages delay ∷ gs) = omega arith
some_up factor (Rounding shift mode ∷ gs) = omega arith
some_up factor (Clipping bits ∷ gs) = omega arith

some_filter : (taps : List ℤ) (form : Form) (gs : List Group) → 1 ≤ length (join_filter taps form gs)
some_filter taps form [] = omega arith
some_filter taps form (Fir None None down ∷ gs) = omega arith
some_filter taps form (Fir None (Some f) down ∷ gs) = omega arith
some_filter taps form (Fir (Some u) None down ∷ gs) = omega arith
some_filter taps form (Fir (Some u) (Some f) down ∷ gs) = omega arith
some_filter taps form (DownCic factor stages delay ∷ gs) = omega arith
some_filter taps form (UpCic factor stages delay ∷ gs) = omega arith
some_filter taps form (Rounding shift mode ∷ gs) = omega arith
some_filter taps form (Clipping bits ∷ gs) = omega arith

some_groups : (es : List Element) → 1 ≤ length es → 1 ≤ length (groups es)
some_groups [] some = absurd (omega (arith, some))
some_groups (Up factor ∷ es) some = some_up (size factor) (groups es)
some_groups (Down factor ∷ es) some = omega arith
some_groups (Filter taps form ∷ es) some = some_filter taps form (groups es)
some_groups (CicDown factor stages delay ∷ es) some = omega arith
some_groups (CicUp factor stages delay ∷ es) some = omega arith
some_groups (Round shift mode ∷ es) some = omega arith
some_groups (Clip bits ∷ es) some = omega arith

-- an accepted plan has an element, and so a group
pub has_group : (plan : Plan) → IsAccepted plan → 1 ≤ length (groups plan.elements)
has_group plan accepted =
    let limits = none_of _ _ accepted.passes in
    let later = none_of _ _ limits.0 in
    let count = none_of _ _ later.1 in
    some_groups plan.elements (of plan.elements count.0)
  where
    of : (es : List Element) → limit_test 0 Elements (pos (length es)) (pos 1) (pos 32) ≡ None → 1 ≤ length es
    of [] e = absurd (cc)
    of (x ∷ es) e = omega arith

-- ---- while groups are added

-- the net's own group is one of those so far, or none was added yet
pub record IsLastGroup (net : NetView) (number : ℕ) : Type 0 where
  pub own : (net.group < number) ⊎ (number ≡ 1)

pub grouped_end : {gs rest : List Group} {net : NetView} {costs : List GroupCost} {number : ℕ} → CostsSoFar gs net.cells rest costs number → rest ≡ [] → ((name : Name) → (name.kind ≡ Control → ⊥) → number ≤ name.group → IsFree net.cells name) → IsLastGroup net number → 1 ≤ length gs
    → IsGroupedTo (length gs) net
grouped_end {gs} {rest} {net} {costs} {number} so none free last some =
    let front_is : so.front ≡ gs = sym (append-nil so.front) ∙ ap (λ (r : List Group). so.front ++ r) (sym none) ∙ so.parts in
    let number_is : number ≡ 1 + length gs = so.count ∙ ap (λ (fs : List Group). 1 + length fs) front_is in
    record {
      nodes = λ place cell at. let below = so.below place cell at in omega (arith, below, number_is);
      free = λ name data_kind more. free name data_kind (omega (arith, number_is, more));
      own = elim last.own [ inl less ↦ omega (arith, less, number_is) | inr first ↦ absurd (omega (arith, first, number_is, some)) ];
    }

-- ---- names of control

control_or_not : (kind : NameKind) → (kind ≡ Control) ⊎ (kind ≡ Control → ⊥)
control_or_not Control = inl refl
control_or_not Window = inr (λ e. absurd (cc))
control_or_not Copy = inr (λ e. absurd (cc))
control_or_not PreAdder = inr (λ e. absurd (cc))
control_or_not Other = inr (λ e. absurd (cc))
control_or_not Table = inr (λ e. absurd (cc))
control_or_not Output = inr (λ e. absurd (cc))
control_or_not Valid = inr (λ e. absurd (cc))

register_zero : (kind : NameKind) (group number : ℕ) → IsRegisterKind kind group number → kind ≡ Control → group ≡ 0
register_zero Control group number named e = named
register_zero Window group number named e = absurd (cc)
register_zero Copy group number named e = absurd (cc)
register_zero PreAdder group number named e = absurd (cc)
register_zero Other group number named e = absurd (cc)
register_zero Table group number named e = absurd (cc)
register_zero Output group number named e = absurd (cc)
register_zero Valid group number named e = absurd (cc)

no_wire : (kind : NameKind) (group number : ℕ) → IsWireKind kind group number → kind ≡ Control → ⊥
no_wire Control group number named e = named
no_wire Window group number named e = absurd (cc)
no_wire Copy group number named e = absurd (cc)
no_wire PreAdder group number named e = absurd (cc)
no_wire Other group number named e = absurd (cc)
no_wire Table group number named e = absurd (cc)
no_wire Output group number named e = absurd (cc)
no_wire Valid group number named e = absurd (cc)

control_zero : (name : Name) (item : Option Item) → IsNamed (Some name) item → name.kind ≡ Control → name.group ≡ 0
control_zero name None named e = register_zero name.kind name.group name.number named e
control_zero name (Some (Register next)) named e = register_zero name.kind name.group name.number named e
control_zero name (Some Input) named e = absurd (no_wire name.kind name.group name.number named e)
control_zero name (Some (Constant v)) named e = absurd (no_wire name.kind name.group name.number named e)
control_zero name (Some (Add a b)) named e = absurd (no_wire name.kind name.group name.number named e)
control_zero name (Some (Sub a b)) named e = absurd (no_wire name.kind name.group name.number named e)
control_zero name (Some (Shl a by)) named e = absurd (no_wire name.kind name.group name.number named e)
control_zero name (Some (Shr a by)) named e = absurd (no_wire name.kind name.group name.number named e)
control_zero name (Some (Mux on a b)) named e = absurd (no_wire name.kind name.group name.number named e)
control_zero name (Some (Equal a b)) named e = absurd (no_wire name.kind name.group name.number named e)
control_zero name (Some (Bits a high low)) named e = absurd (no_wire name.kind name.group name.number named e)

-- ---- with the outputs

module _ {count : ℕ} {old new : NetView} {low high : ℤ} {from : Stream} {outputs : Outputs} (so : IsGroupedTo count old) (outs : AddsOutputs low high old new from outputs) (formed : IsWellFormed new.cells) where
  node_within : (place : ℕ) (cell : Cell) → slice_get new.cells place ≡ Some cell → cell.group ≤ count
  node_within place cell at = elim (cases_lt place (length old.cells)) [
    | inl less ↦
        let was = cell_at old.cells place in
        let before = cell_at-there old.cells place less in
        let kept = outs.lengthens.extends.keeps place was before in
        let same : cell.group ≡ was.group = ap (λ (c : Cell). c.group) (sym (same_cell kept.cell cell _ kept.there at)) ∙ kept.group in
        let within = so.nodes place was before in
        omega (arith, same, within)
    | inr after ↦ elim (outs.lengthens.added place cell after at).of_group [ inl none ↦ omega (arith, none) | inr added ↦ let own = so.own in omega (arith, added, own) ]
  ]

  name_within : (place : ℕ) (cell : Cell) (name : Name) → slice_get new.cells place ≡ Some cell → cell.name ≡ Some name → name.group ≤ count
  name_within place cell name at is = elim (cases_lt count name.group) [
    | inl more ↦ elim (control_or_not name.kind) [
      | inl control ↦
          let named : IsNamed (Some name) cell.item = subst (λ (o : Option Name). IsNamed o cell.item) is (formed.each place cell at).named in
          let zero_group = control_zero name cell.item named control in
          omega (arith, zero_group)
      | inr data_kind ↦
          let some : (name.group ≡ 0) ⊎ (name.kind ≡ Control) → ⊥ = λ either. elim either [ inl none ↦ omega (arith, none, more) | inr control ↦ data_kind control ] in
          absurd ((outs.names.free name some (so.free name data_kind more)).none place cell at is)
    ]
    | inr within ↦ within
  ]

  pub outputs_grouped : AreGrouped count new.cells
  outputs_grouped = record { nodes = node_within; names = name_within }
