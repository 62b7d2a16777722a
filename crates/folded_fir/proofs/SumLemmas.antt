-- The accumulators of a folded filter, one after another.
use Rattle.std.proofs.Common.{◌≡◌, ℕ, suc, ◌+◌, ◌/◌, ◌<◌, ◌≤◌, List, [], ◌∷◌, ◌++◌, length, length-append, get_or, sym, ◌∙◌, arith, subst, inl, inr, Option, Some, slice_get}
use Rattle.std.proofs.lemmas.Option.{slice_get_within, slice_get-get_or}
use Rattle.net_graph.specs.declared.cell.Cell.{Cell}
use Rattle.net_graph.specs.declared.cell.Node.{Node}
use Rattle.net_graph.specs.declared.name.Name.{Name}
use Rattle.net_graph.specs.declared.name.NameKind.TheVariants.{Register}
use Rattle.net_graph.specs.Cells.{NetView}
use Rattle.net_graph.specs.Count.{adders_in}
use Rattle.net_graph.specs.Depth.{IsPlain, IsShallow}
use Rattle.net_graph.specs.Grow.{Extends}
use Rattle.net_graph.proofs.DepthLemmas.{IsPlain-later}
use Rattle.net_graph.proofs.GrowLemmas.{Grows-refl, Grows-trans, IsOfControl-later}
use Rattle.net_graph.proofs.Lists.{slice_get_push_cases}
use Rattle.net_graph.proofs.NetLemmas.{Extends-trans}
use Rattle.pipeline_balance.specs.Numbered.{IsCounted, IsTouched, name_of}
use Rattle.pipeline_balance.specs.Shallow.{ArePlain}
use Rattle.pipeline_balance.proofs.CostLemmas.{SameNamed-refl, SameNamed-trans}
use Rattle.pipeline_balance.proofs.NumberedLemmas.{IsRegister-later, IsCounted-leaves, LeavesFree-refl, LeavesFree-trans, width-later}
use Rattle.pipeline_balance.proofs.ShallowLemmas.{shallow_more, ArePlain-later}
use Rattle.pipeline_balance.proofs.ShapeLemmas.{KeepsShapes-refl, KeepsShapes-trans}
use Rattle.signed_digit.specs.declared.term_list.Term.{Term}
use Rattle.fold_schedule.specs.Fold.{Fold}
use Rattle.folded_fir.specs.declared.cells.Slot.{Slot}
use Rattle.folded_fir.specs.Cells.{cells_of}
use Rattle.folded_fir.specs.Slots.{AreCellsAt}
use Rattle.folded_fir.specs.Accumulators.{AddsAccumulator, IsAccumulator}
use Rattle.folded_fir.specs.Operands.{node_at, AddsOperand, AreCopies, HaveRoom}
use Rattle.folded_fir.specs.Sums.{AddsSums, Folding, HasWidths, IsSum, Sources}

-- ---- in a longer net

pub IsAccumulator-later : {old new : List Cell} {group width : ℕ} {name : Name} {clear operand sum : Node} → Extends old new → IsAccumulator old group name clear operand width sum → IsAccumulator new group name clear operand width sum
IsAccumulator-later e a = record {
  register = IsRegister-later e a.register;
  starts = λ cut law x v r. a.starts cut law x v (e.runs cut law x v r);
  takes = λ cut law x v r. a.takes cut law x v (e.runs cut law x v r);
}

pub IsSum-later : {first : NetView} {old new : List Cell} {f : Folding} {s : Sources} {adder number width : ℕ} {sum : Node} → Extends old new → IsSum first old f s adder number width sum → IsSum first new f s adder number width sum
IsSum-later e a = record {
  before = a.before;
  after = a.after;
  terms = a.terms;
  operand_width = a.operand_width;
  operand = a.operand;
  earlier = a.earlier;
  later = Extends-trans _ _ _ a.later e;
  are = a.are;
  added = a.added;
  accumulator = IsAccumulator-later e a.accumulator;
}

pub AreCopies-later : {old new : List Cell} {copies : List Node} → Extends old new → AreCopies old copies → AreCopies new copies
AreCopies-later {old} {new} {copies} e c = record {
  within = λ age less. let inside = c.within age less in let longer = e.longer in omega (arith, inside, longer);
  some = λ age less. let same = width-later old new (node_at copies age).place e (c.within age less) in let some = c.some age less in omega (arith, same, some);
}

-- an accumulator's terms weigh the copies as the filter's do
pub terms_room : {old new : List Cell} {copies : List Node} {adder : ℕ} {terms : List (Option Term)} (f : Folding) → Extends old new → AreCopies old copies → HasWidths old copies f → AreCellsAt f.fold f.up f.down adder f.slots terms → HaveRoom new copies f.up terms
terms_room {old} {new} {copies} {adder} {terms} f e c h are = record {
  reads = λ k t at. let cell = cell_of k t at in h.reads cell.0 adder cell.1 t cell.2;
  narrow = λ k t at.
      let cell = cell_of k t at in
      let inside = h.reads cell.0 adder cell.1 t cell.2 in
      let same = width-later old new (node_at copies (t.index / f.up)).place e (c.within (t.index / f.up) inside) in
      let narrow = h.narrow cell.0 adder cell.1 t cell.2 in
      omega (arith, same, narrow);
}
  where
    same_term : {p q : Option Term} {o : Option (Option Term)} → o ≡ Some p → o ≡ Some q → q ≡ p
    same_term a b = cc

    cell_of : (k : ℕ) (t : Term) → slice_get terms k ≡ Some (Some t) → (phase : ℕ) × (slot : ℕ) × (cells_of f.fold phase adder slot ≡ Some t)
    cell_of k t at =
        let inside = slice_get_within terms k (Some t) at in
        let many = are.many in
        let x : Slot = get_or f.slots k (record { output = 0; slot = 0 }) in
        let there = slice_get-get_or f.slots k (record { output = 0; slot = 0 }) (omega (arith, inside, many)) in
        (_, x.slot, same_term at (are.each k (get_or f.slots k (record { output = 0; slot = 0 })) there))

-- ---- the same lists, otherwise written

pub AreCellsAt-as : {fold : Fold} {up down adder other : ℕ} {xs ys : List Slot} {cells : List (Option Term)} → xs ≡ ys → adder ≡ other → AreCellsAt fold up down adder xs cells → AreCellsAt fold up down other ys cells
AreCellsAt-as {fold} {up} {down} {adder} {other} {xs} {ys} {cells} e f a = subst (λ (k : ℕ). AreCellsAt fold up down k ys cells) f (subst (λ (zs : List Slot). AreCellsAt fold up down adder zs cells) e a)

pub AddsOperand-as : {old new : NetView} {bits others copies : List Node} {up width : ℕ} {terms cells : List (Option Term)} {to : Node} → bits ≡ others → terms ≡ cells → AddsOperand old new bits copies up terms (length terms) width to → AddsOperand old new others copies up cells (length cells) width to
AddsOperand-as {old} {new} {bits} {others} {copies} {up} {width} {terms} {cells} {to} e f a =
    subst (λ (ts : List (Option Term)). AddsOperand old new others copies up ts (length ts) width to) f (subst (λ (bs : List Node). AddsOperand old new bs copies up terms (length terms) width to) e a)

-- ---- one after another

pub AddsSums-none : (net : NetView) (f : Folding) (s : Sources) (widths : List ℕ) → AddsSums net net f s widths []
AddsSums-none net f s widths = record {
  grows = Grows-refl net;
  adders = omega arith;
  named = SameNamed-refl net.cells;
  each = λ count adder sum c at. absurd (cc);
  within = λ adder sum at. absurd (cc);
  counted = λ count c. let same : count ≡ count + 0 = omega arith in subst (λ (n : ℕ). IsCounted net.cells net.group Register n) same c;
  names = LeavesFree-refl net.cells (IsTouched net.group Register);
  linear = λ clear bits. KeepsShapes-refl net.cells;
  shallow = λ s clear bits copies. s;
}

module _ {old mid b new : NetView} {f : Folding} {s : Sources} {widths : List ℕ} {sums : List Node} {terms : List (Option Term)} {operand_width width : ℕ} {operand sum : Node} (some : 1 ≤ old.group) (wide : get_or widths (length sums) 0 ≡ width)
    (p : AddsSums old mid f s widths sums) (are : AreCellsAt f.fold f.up f.down (length sums) f.slots terms) (a : AddsOperand mid b s.bits s.copies f.up terms (length terms) operand_width operand) (acc : AddsAccumulator b new s.clear operand width sum) where
  same : b.group ≡ old.group
  same = a.grows.group ∙ p.grows.group

  count_in : (count : ℕ) → IsCounted old.cells old.group Register count → IsCounted b.cells b.group Register (count + length sums)
  count_in count c = subst (λ (g : ℕ). IsCounted b.cells g Register (count + length sums)) (sym same) (IsCounted-leaves old.group Register (count + length sums) a.grows.extends a.names (λ number no. no) (p.counted count c))

  last_sum : (count : ℕ) → IsCounted old.cells old.group Register count → IsSum old new.cells f s (length sums) (count + length sums) (get_or widths (length sums) 0) sum
  last_sum count c = record {
    before = mid;
    after = b;
    terms = terms;
    operand_width = operand_width;
    operand = operand;
    earlier = p.grows.extends;
    later = acc.grows.extends;
    are = are;
    added = a;
    accumulator = subst (λ (w : ℕ). IsAccumulator new.cells old.group (name_of old.group Register (count + length sums)) s.clear operand w sum) (sym wide)
        (subst (λ (g : ℕ). IsAccumulator new.cells g (name_of g Register (count + length sums)) s.clear operand width sum) same (acc.accumulator (count + length sums) (count_in count c)));
  }

  pub AddsSums-push : AddsSums old new f s widths (sums ++ sum ∷ [])
  AddsSums-push = record {
    grows = Grows-trans p.grows (Grows-trans a.grows acc.grows);
    adders =
        let before = p.adders in
        let between = a.adders.each old.group some in
        let now : adders_in old.group new.cells ≡ adders_in old.group b.cells + 1 = subst (λ (g : ℕ). adders_in g new.cells ≡ adders_in g b.cells + 1) same acc.adders in
        let more = length-append sums (sum ∷ []) in
        omega (arith, before, between, now, more);
    named = SameNamed-trans p.named (SameNamed-trans a.named acc.named);
    each = λ count adder own c at. elim (slice_get_push_cases sums sum adder own at) [
      | inl before ↦ IsSum-later (Grows-trans a.grows acc.grows).extends (p.each count adder own c before)
      | inr last ↦
          subst (λ (n : Node). IsSum old new.cells f s adder (count + adder) (get_or widths adder 0) n) (sym last.1)
          (subst (λ (k : ℕ). IsSum old new.cells f s k (count + k) (get_or widths k 0) sum) (sym last.0) (last_sum count c))
    ];
    within = λ adder own at. elim (slice_get_push_cases sums sum adder own at) [
      | inl before ↦ let inside = p.within adder own before in let longer = (Grows-trans a.grows acc.grows).extends.longer in omega (arith, inside, longer)
      | inr last ↦ subst (λ (n : Node). n.place < length new.cells) (sym last.1) acc.within
    ];
    counted = λ count c.
        let more = length-append sums (sum ∷ []) in
        let next : suc (count + length sums) ≡ count + length (sums ++ sum ∷ []) = omega (arith, more) in
        subst (λ (n : ℕ). IsCounted new.cells old.group Register n) next (subst (λ (g : ℕ). IsCounted new.cells g Register (suc (count + length sums))) same (acc.counted (count + length sums) (count_in count c)));
    names = LeavesFree-trans old.cells mid.cells new.cells (IsTouched old.group Register) (IsTouched old.group Register) (IsTouched old.group Register) (λ name h. h) (λ name h. h) p.names
        (LeavesFree-trans mid.cells b.cells new.cells (λ name. ⊥) (IsTouched b.group Register) (IsTouched old.group Register) (λ name no. absurd no) (λ name h. subst (λ (g : ℕ). IsTouched g Register name) same h) a.names acc.names);
    linear = λ clear bits.
        KeepsShapes-trans (p.linear clear bits) (KeepsShapes-trans (a.linear (λ k bit at. IsOfControl-later old.cells mid.cells bit.place p.grows.extends (bits k bit at)))
        (acc.linear (IsOfControl-later old.cells b.cells s.clear.place (Grows-trans p.grows a.grows).extends clear)));
    shallow = λ deep clear bits copies.
        let s1 = p.shallow deep clear bits copies in
        let s2 = shallow_more old.group some a.grows a.adders s1 in
        let bits_mid : ArePlain mid.cells mid.group s.bits = subst (λ (g : ℕ). ArePlain mid.cells g s.bits) (sym p.grows.group) (ArePlain-later old.cells mid.cells old.group s.bits deep.bound p.grows.extends bits) in
        let copies_mid : ArePlain mid.cells mid.group s.copies = subst (λ (g : ℕ). ArePlain mid.cells g s.copies) (sym p.grows.group) (ArePlain-later old.cells mid.cells old.group s.copies deep.bound p.grows.extends copies) in
        let operand_b : IsPlain b.cells b.group operand.place = subst (λ (g : ℕ). IsPlain b.cells g operand.place) (sym a.grows.group) (a.plain s1.bound bits_mid copies_mid) in
        let clear_b : IsPlain b.cells b.group s.clear.place = subst (λ (g : ℕ). IsPlain b.cells g s.clear.place) (sym same) (IsPlain-later old.cells b.cells old.group deep.bound (Grows-trans p.grows a.grows).extends s.clear.place clear) in
        subst (λ (g : ℕ). IsShallow new.cells g) same (acc.shallow (subst (λ (g : ℕ). IsShallow b.cells g) (sym same) s2) clear_b operand_b);
  }
