-- Bits that tell the ticks some time after those of one counter.
use Rattle.std.proofs.Common.{◌≡◌, ℕ, zero, suc, ◌+◌, ◌-◌, ◌*◌, ◌^◌, ◌<◌, ◌≤◌, List, [], ◌∷◌, ◌++◌, length, sym, ◌∙◌, ap, arith, inl, inr, subst, ℤ, pos, ◌-ℤ◌, refl}
use Rattle.std.proofs.lemmas.Int.{ints}
use Rattle.std.proofs.lemmas.Option.{slice_get_within}
use Rattle.mr_values.specs.Width.{wrap, set_bit}
use Rattle.mr_values.proofs.WidthLemmas.{wrap_zero}
use Rattle.net_graph.specs.declared.cell.Cell.{Cell}
use Rattle.net_graph.specs.declared.cell.Node.{Node}
use Rattle.net_graph.specs.declared.cell.Item.TheVariants.{Constant, Equal}
use Rattle.net_graph.specs.declared.name.NameKind.TheVariants.{Control}
use Rattle.net_graph.specs.Cells.{NetView}
use Rattle.net_graph.specs.Cut.{Cut, IsCut}
use Rattle.net_graph.specs.Run.{Values, IsRun, equality}
use Rattle.net_graph.specs.Grow.{Adds, Extends, Grows}
use Rattle.net_graph.proofs.Lists.{slice_get_push_cases}
use Rattle.net_graph.proofs.GroupLemmas.{nameless_zero}
use Rattle.net_graph.proofs.NetLemmas.{Extends-adds, cell_of_added}
use Rattle.net_graph.proofs.GrowLemmas.{Grows-trans, Grows-adds, IsOfControl-later, Grows-regroup}
use Rattle.pipeline_balance.specs.Costs.{SameAdders, SameNamed}
use Rattle.pipeline_balance.specs.Gate.{IsTickOf, IsCounter, IsCountOf, HasTaken}
use Rattle.pipeline_balance.specs.Numbered.{LeavesFree}
use Rattle.pipeline_balance.specs.Shapes.{KeepsShapes}
use Rattle.pipeline_balance.specs.Ticks.{AddsBits}
use Rattle.pipeline_balance.proofs.WrapLemmas.{wrap-one, equality-same, equality_apart}
use Rattle.pipeline_balance.proofs.CostLemmas.{SameAdders-trans, SameAdders-plain, SameNamed-trans, SameNamed-adds}
use Rattle.pipeline_balance.proofs.NumberedLemmas.{free_adds, LeavesFree-trans}
use Rattle.pipeline_balance.proofs.ShapeLemmas.{KeepsShapes-trans, KeepsShapes-control}
use Rattle.pipeline_balance.proofs.CounterLemmas.{as_control, constant_control, control_added, control_then}
use Rattle.pipeline_balance.proofs.TakenLemmas.{taken, IsBitOf-later}
use Rattle.pipeline_balance.proofs.PhaseLemmas.{HasShape-later, wrap_differs}

-- the values of the nodes of a bit that tells a number of the count
record Tells (v : Values) (w number : ℕ) (count told bit : Node) : Type 0 where
  numbers : (t : ℕ) → v t told.place ≡ wrap w (pos number)
  bits : (t : ℕ) → v t bit.place ≡ wrap 1 (equality (v t count.place) (v t told.place))

module _ (v : Values) (w period first distance : ℕ) (count told bit : Node) (wide : 1 ≤ w) (positive : 1 ≤ period) (below : distance < period) (room : first + period ≤ 2 ^ w) (c : Tells v w (first + distance) count told bit)
    (early : (t : ℕ) → t ≤ first + (period - 1) → v t count.place ≡ wrap w (pos t)) (again : (k i : ℕ) → 1 ≤ i → i ≤ period → v (first + (period - 1) + k * period + i) count.place ≡ wrap w (pos (first + (period - 1) + i) -ℤ pos period)) where
  is_told : (t n : ℕ) → n ≡ first + distance → v t count.place ≡ wrap w (pos n) → v t bit.place ≡ set_bit
  is_told t n same e =
      let there : v t count.place ≡ v t told.place = e ∙ ap (λ (k : ℕ). wrap w (pos k)) same ∙ sym (c.numbers t) in
      c.bits t ∙ ap (wrap 1) (equality-same (v t count.place) (v t told.place) there) ∙ wrap-one

  is_other : (t n : ℕ) → n < 2 ^ w → (n ≡ first + distance → ⊥) → v t count.place ≡ wrap w (pos n) → v t bit.place ≡ pos 0
  is_other t n small ne e =
      let apart : v t count.place ≡ v t told.place → ⊥ = λ f. ne (wrap_differs w n (first + distance) wide small (omega arith) (sym e ∙ f ∙ c.numbers t)) in
      c.bits t ∙ ap (wrap 1) (equality_apart (v t count.place) (v t told.place) apart) ∙ wrap_zero 1 (omega arith)

  -- the count after it was at its end
  later : (k i : ℕ) → 1 ≤ i → i ≤ period → v (first + (period - 1) + k * period + i) count.place ≡ wrap w (pos (first + (i - 1)))
  later k i low high = let less : pos (first + (period - 1) + i) -ℤ pos period ≡ pos (first + (i - 1)) = omega (arith, ints) in again k i low high ∙ ap (wrap w) less

  tells : (t : ℕ) → IsTickOf period (first + distance) t → v t bit.place ≡ set_bit
  tells t tick = at tick.0 tick.1
    where
      at : (n : ℕ) → t ≡ first + distance + n * period → v t bit.place ≡ set_bit
      at zero e = is_told t t (omega arith) (early t (omega arith))
      at (suc k) e =
          let there : t ≡ first + (period - 1) + k * period + (distance + 1) = omega arith in
          is_told t (first + (distance + 1 - 1)) (omega arith) (ap (λ (s : ℕ). v s count.place) there ∙ later k (distance + 1) (omega arith) (omega arith))

  rests : (t : ℕ) → (IsTickOf period (first + distance) t → ⊥) → v t bit.place ≡ pos 0
  rests t off = let before = taken period (first + (period - 1)) t positive in by_taken before.0 before.1
    where
      by_taken : (n : ℕ) → HasTaken period (first + (period - 1)) n t → v t bit.place ≡ pos 0
      by_taken zero h = is_other t t (omega arith) (λ e. off (0, omega arith)) (early t h)
      by_taken (suc k) h =
          let after = h.0 in
          let until = h.1 in
          let i : ℕ = t - (first + (period - 1) + k * period) in
          let there : t ≡ first + (period - 1) + k * period + i = omega arith in
          let some : 1 ≤ i = omega arith in
          let most : i ≤ period = omega arith in
          is_other t (first + (i - 1)) (omega arith) (λ e. off (suc k, omega arith)) (ap (λ (s : ℕ). v s count.place) there ∙ later k i some most)

pub IsCounter-told : {n0 n1 n2 : NetView} {w : ℕ} {count told bit : Node} (period first distance : ℕ) → 1 ≤ w → 1 ≤ period → distance < period → first + period ≤ 2 ^ w → n0.group ≡ 0 → IsCountOf n0.cells period (first + (period - 1)) w count
    → Adds n0 n1 told w (Constant (wrap w (pos (first + distance)))) → Adds n1 n2 bit 1 (Equal count told) → IsCounter n0 n2 (IsTickOf period (first + distance)) bit
IsCounter-told {n0} {n1} {n2} {w} {count} {told} {bit} period first distance wide positive below room g0 counted a1 a2 =
    let g1 : n1.group ≡ 0 = a1.group ∙ g0 in
    let grows : Grows n0 n2 = Grows-trans (Grows-adds a1 refl (λ z. tt)) (Grows-adds a2 refl (λ z. (control_then counted.control a1, control_added a1 g0 refl))) in
    let there = cell_of_added a2 in
    record {
      grows = grows;
      shape = record { cell = _; there = there; same_control = nameless_zero n1.group g1; same_width = refl };
      nameless = refl;
      bit_of = record {
        within = slice_get_within n2.cells bit.place _ there;
        control = record { cell = _; there = there; control = nameless_zero n1.group g1 };
        sets = λ cut law x v r. let r0 = grows.extends.runs cut law x v r in tells v w period first distance count told bit wide positive below room (values_of cut law x v r) (counted.early cut law x v r0) (counted.again cut law x v r0);
        clears = λ cut law x v r. let r0 = grows.extends.runs cut law x v r in rests v w period first distance count told bit wide positive below room (values_of cut law x v r) (counted.early cut law x v r0) (counted.again cut law x v r0);
      };
      names = record { free = λ name other f. free_adds a2 name (free_adds a1 name f) };
      adders = SameAdders-trans (SameAdders-plain a1 refl) (SameAdders-plain a2 refl);
      named = SameNamed-trans (SameNamed-adds a1) (SameNamed-adds a2);
      linear = KeepsShapes-trans (KeepsShapes-control g0 a1) (KeepsShapes-control g1 a2);
    }
  where
    values_of : (cut : Cut) → IsCut cut → (x : ℕ → ℤ) (v : Values) → IsRun cut n2.cells x v → Tells v w (first + distance) count told bit
    values_of cut law x v r =
        let g1 : n1.group ≡ 0 = a1.group ∙ g0 in
        let r1 = (Extends-adds a2).runs cut law x v r in
        record {
          numbers = λ t. r1.each told.place _ (cell_of_added a1) t ∙ constant_control cut law _ w _ wide (nameless_zero n0.group g0);
          bits = λ t. r.each bit.place _ (cell_of_added a2) t ∙ as_control cut law _ 1 _ (nameless_zero n1.group g1);
        }

pub IsCountOf-later : {old new : List Cell} {period first width : ℕ} {count : Node} → IsCountOf old period first width count → Extends old new → IsCountOf new period first width count
IsCountOf-later {old} {new} {period} {first} {width} {count} is e = record {
  within = let l = e.longer in let w = is.within in omega arith;
  control = IsOfControl-later old new count.place e is.control;
  early = λ cut law x v r. is.early cut law x v (e.runs cut law x v r);
  again = λ cut law x v r. is.again cut law x v (e.runs cut law x v r);
}

-- ---- all bits

pub AddsBits-none : {old new : NetView} (ticks : ℕ → ℕ → Type 0) → Grows old new → LeavesFree old.cells new.cells (λ name. name.kind ≡ Control) → SameAdders old.cells new.cells → SameNamed old.cells new.cells → KeepsShapes old.cells new.cells → AddsBits old new ticks []
AddsBits-none ticks e names adders named linear = record { grows = e; shapes = λ k bit is. absurd (cc); each = λ k bit is. absurd (cc); names = names; adders = adders; named = named; linear = linear }

pub AddsBits-push : {a b c : NetView} (ticks : ℕ → ℕ → Type 0) (bit : Node) (bits : List Node) → AddsBits a b ticks bits → IsCounter b c (ticks (length bits)) bit → AddsBits a c ticks (bits ++ bit ∷ [])
AddsBits-push {a} {b} {c} ticks bit bits p q = record {
  grows = Grows-trans p.grows q.grows;
  shapes = λ k node is. elim (slice_get_push_cases bits bit k node is) [
    | inl old ↦ HasShape-later b.cells c.cells node.place _ _ q.grows.extends (p.shapes k node old)
    | inr last ↦ rw last.1 q.shape
  ];
  each = λ k node is. elim (slice_get_push_cases bits bit k node is) [
    | inl old ↦ IsBitOf-later (p.each k node old) q.grows.extends
    | inr last ↦ rw (last.0, last.1) q.bit_of
  ];
  names = LeavesFree-trans a.cells b.cells c.cells (λ name. name.kind ≡ Control) (λ name. name.kind ≡ Control) (λ name. name.kind ≡ Control) (λ name h. h) (λ name h. h) p.names q.names;
  adders = SameAdders-trans p.adders q.adders;
  named = SameNamed-trans p.named q.named;
  linear = KeepsShapes-trans p.linear q.linear;
}

-- bits that were added as control are added to a net of any group
pub AddsBits-regroup : {old mid new last : NetView} (ticks : ℕ → ℕ → Type 0) {group : ℕ} {bits : List Node} → group ≡ old.group → (let alone : NetView = record { cells = old.cells; group = 0 } in mid ≡ alone) → (let back : NetView = record { cells = new.cells; group = group } in last ≡ back) → AddsBits mid new ticks bits → AddsBits old last ticks bits
AddsBits-regroup {old} {mid} {new} {last} ticks {group} {bits} same alone_is put_back p =
    let alone : NetView = record { cells = old.cells; group = 0 } in
    let q : AddsBits alone new ticks bits = subst (λ (m : NetView). AddsBits m new ticks bits) alone_is p in
    let back : NetView = record { cells = new.cells; group = old.group } in
    let r : AddsBits old back ticks bits = record {
      grows = Grows-regroup q.grows;
      shapes = q.shapes;
      each = q.each;
      names = q.names;
      adders = q.adders;
      named = q.named;
      linear = q.linear;
    } in
    subst (λ (m : NetView). AddsBits old m ticks bits) (sym (put_back ∙ ap (λ (g : ℕ). let n : NetView = record { cells = new.cells; group = g } in n) same)) r
