-- The nodes of linear groups while a net grows.
use Rattle.std.proofs.Common.{◌≡◌, ℕ, suc, ◌+◌, ◌<◌, ◌≤◌, true, List, [], ◌∷◌, ◌++◌, length, Option, sym, ◌∙◌, ap, subst, arith, inl, inr}
use Rattle.std.proofs.lemmas.Bool.{cases_lt}
use Rattle.mr_values.specs.Timing.{Group, Fir, DownCic, UpCic, Rounding, Clipping, wide, taps_of, form_of}
use Rattle.net_graph.specs.declared.cell.Cell.{Cell}
use Rattle.net_graph.specs.declared.cell.Item.{Item}
use Rattle.net_graph.specs.Cells.{NetView, cell_at}
use Rattle.net_graph.specs.Depth.{IsUntouched}
use Rattle.net_graph.specs.Grow.{Grows}
use Rattle.net_graph.specs.WellFormed.{IsBound}
use Rattle.net_graph.proofs.CellLemmas.{cell_at-there, same_cell}
use Rattle.pipeline_balance.specs.Shapes.{IsLinearItem, HasLinearItems, KeepsShapes}
use Rattle.pipeline_balance.proofs.ShapeLemmas.{IsLinearItem-later}
use Rattle.stage_law.specs.Facts.{StageFacts}
use Rattle.stage_law.specs.Kinds.{has_linear_shape}
use Rattle.chain_build.specs.Added.{HasFacts}
use Rattle.chain_build.proofs.FormFacts.{fir-kind}
use Rattle.plan_check.specs.Forms.{Flow}
use Rattle.std.specs.Prelude.{unwrap_or}
use Rattle.chain_build.specs.Built.{kind_of}
use Rattle.chain_build.specs.Shapes.{HaveLinearItems}

-- a group that is built in the shape of a linear one is such a stage
pub shape_of : (g : Group) (flow : Flow) (facts : StageFacts) → HasFacts g flow facts → has_linear_shape (kind_of g) ≡ true → has_linear_shape facts.kind ≡ true
shape_of (Fir up filter down) flow facts has shape =
    ap (λ (f : StageFacts). has_linear_shape f.kind) has ∙ ap has_linear_shape (fir-kind (form_of filter) (taps_of filter) (unwrap_or up 1) (unwrap_or down 1) (wide flow.low flow.high)) ∙ shape
shape_of (DownCic factor stages delay) flow facts has shape = ap (λ (f : StageFacts). has_linear_shape f.kind) has
shape_of (UpCic factor stages delay) flow facts has shape = ap (λ (f : StageFacts). has_linear_shape f.kind) has
shape_of (Rounding shift mode) flow facts has shape = absurd (cc)
shape_of (Clipping bits) flow facts has shape = absurd (cc)

pub HasLinearItems-none : (cells : List Cell) (group : ℕ) → IsUntouched cells group → HasLinearItems cells group
HasLinearItems-none cells group none = record { each = λ place cell at own. absurd (none.none place cell at own) }

-- another group has what it had
pub HasLinearItems-other : {old new : NetView} (group : ℕ) → 1 ≤ group → (group ≡ old.group → ⊥) → Grows old new → IsBound old.cells → HasLinearItems old.cells group → HasLinearItems new.cells group
HasLinearItems-other {old} {new} group some other grows bound h = record {
  each = λ place cell at own. elim (cases_lt place (length old.cells)) [
    | inl less ↦
        let was = cell_at old.cells place in
        let before = cell_at-there old.cells place less in
        let kept = grows.extends.keeps place was before in
        let is : kept.cell ≡ cell = same_cell kept.cell cell _ kept.there at in
        let item_is : was.item ≡ cell.item = sym (kept.item (bound.each place was before)) ∙ ap (λ (c : Cell). c.item) is in
        let group_is : was.group ≡ group = sym kept.group ∙ ap (λ (c : Cell). c.group) is ∙ own in
        subst (λ (item : Option Item). IsLinearItem new.cells item) item_is (IsLinearItem-later old.cells new.cells was.item grows.extends (h.each place was before group_is))
    | inr after ↦ elim (grows.added place cell after at).of_group [ inl none ↦ absurd (omega (arith, none, own, some)) | inr added ↦ absurd (other (sym own ∙ added)) ]
  ];
}

-- ---- several groups

pub same_shapes : (number : ℕ) (gs : List Group) (old new : List Cell) → ((k : ℕ) → number ≤ k → k < number + length gs → HasLinearItems old k → HasLinearItems new k) → HaveLinearItems number gs old → HaveLinearItems number gs new
same_shapes number [] old new same have = tt
same_shapes number (g ∷ gs) old new same have = (
  λ shape. same number (omega arith) (omega arith) (have.0 shape),
  same_shapes (number + 1) gs old new (λ k low high. same k (omega (arith, low)) (omega (arith, high))) have.1,
)

pub shapes_with : (number : ℕ) (gs : List Group) (g : Group) (cells : List Cell) → HaveLinearItems number gs cells → (has_linear_shape (kind_of g) ≡ true → HasLinearItems cells (number + length gs)) → HaveLinearItems number (gs ++ g ∷ []) cells
shapes_with number [] g cells have own = (λ shape. subst (λ (n : ℕ). HasLinearItems cells n) (let e : number + 0 ≡ number = omega arith in e) (own shape), tt)
shapes_with number (h ∷ gs) g cells have own =
    (have.0, shapes_with (number + 1) gs g cells have.1 (λ shape. subst (λ (n : ℕ). HasLinearItems cells n) (let e : number + suc (length gs) ≡ number + 1 + length gs = omega arith in e) (own shape)))

-- a net that gets such nodes alone
pub shapes-outputs : (gs : List Group) {old new : List Cell} → KeepsShapes old new → HaveLinearItems 1 gs old → HaveLinearItems 1 gs new
shapes-outputs gs {old} {new} keeps have = same_shapes 1 gs old new (λ k low high h. keeps.each k low h) have
