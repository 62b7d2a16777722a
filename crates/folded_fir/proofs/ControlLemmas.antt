-- The control bits of a folded filter, one after another.
use Rattle.std.proofs.Common.{◌≡◌, ℕ, zero, suc, ◌+◌, ◌*◌, ◌<◌, ◌≤◌, ◌^◌, List, [], ◌∷◌, length, map, get_or, refl, sym, ◌∙◌, ap, arith, subst, Some, slice_get, Option, None, true, ◌&&◌}
use Rattle.std.specs.Prelude.{not}
use Rattle.std.proofs.Math.Nat.{mul-le-mul_right}
use Rattle.std.proofs.lemmas.Option.{slice_get-get_or, get_or_from_slice_get}
use Rattle.net_graph.specs.declared.cell.Node.{Node}
use Rattle.net_graph.specs.declared.cell.Stream.{Stream}
use Rattle.net_graph.specs.declared.name.Name.{Name}
use Rattle.net_graph.specs.declared.name.NameKind.TheVariants.{Control}
use Rattle.net_graph.specs.Cells.{NetView}
use Rattle.net_graph.specs.Name.{is_control_name, is_input}
use Rattle.net_graph.specs.Depth.{IsPlain, of_other}
use Rattle.net_graph.proofs.GroupLemmas.{nameless_control}
use Rattle.net_graph.proofs.GrowLemmas.{Grows-trans}
use Rattle.pipeline_balance.specs.Gate.{IsCounter, IsTickOf, IsBitOf}
use Rattle.pipeline_balance.specs.Ticks.{AddsBits, IsTickAfter}
use Rattle.pipeline_balance.proofs.CostLemmas.{SameAdders-trans, SameNamed-trans}
use Rattle.pipeline_balance.proofs.NumberedLemmas.{LeavesFree-trans}
use Rattle.pipeline_balance.proofs.ShapeLemmas.{KeepsShapes-trans}
use Rattle.pipeline_balance.proofs.TakenLemmas.{IsBitOf-later}
use Rattle.folded_fir.specs.declared.cells.Slot.{Slot}
use Rattle.folded_fir.specs.Rounds.{Rounds}
use Rattle.folded_fir.specs.Slots.{distance_of, AreSlotBits}
use Rattle.folded_fir.specs.Control.{AddsControl}

-- ---- distances

slice_get-mapped : (f : Slot → ℕ) (xs : List Slot) (k : ℕ) (x : Slot) → slice_get xs k ≡ Some x → slice_get (map f xs) k ≡ Some (f x)
slice_get-mapped f [] k x e = absurd (cc)
slice_get-mapped f (y ∷ ys) zero x e = let same : y ≡ x = cc in rw same refl
slice_get-mapped f (y ∷ ys) (suc k) x e = slice_get-mapped f ys k x e

length-mapped : (f : Slot → ℕ) (xs : List Slot) → length (map f xs) ≡ length xs
length-mapped f [] = refl
length-mapped f (x ∷ xs) = let rest = length-mapped f xs in omega (arith, rest)

distance_at : (period : ℕ) (slots : List Slot) (distances : List ℕ) (k : ℕ) (x : Slot) → distances ≡ map (distance_of period) slots → slice_get slots k ≡ Some x → get_or distances k 0 ≡ distance_of period x
distance_at period slots distances k x e at = get_or_from_slice_get distances k (distance_of period x) 0 (ap (λ (ds : List ℕ). slice_get ds k) e ∙ slice_get-mapped (distance_of period) slots k x at)

-- each lies below a round
pub distances_below : (period round : ℕ) (slots : List Slot) (distances : List ℕ) → distances ≡ map (distance_of period) slots → ((k : ℕ) (x : Slot) → slice_get slots k ≡ Some x → (x.output < round) × (x.slot < period)) → (k : ℕ) → k < length distances → get_or distances k 0 < period * round
distances_below period round slots distances e inside k less =
    let long : length distances ≡ length slots = ap (λ (ds : List ℕ). length ds) e ∙ length-mapped (distance_of period) slots in
    let x : Slot = get_or slots k (record { output = 0; slot = 0 }) in
    let at = slice_get-get_or slots k (record { output = 0; slot = 0 }) (omega (arith, less, long)) in
    let low = inside k (get_or slots k (record { output = 0; slot = 0 })) at in
    let is = distance_at period slots distances k (get_or slots k (record { output = 0; slot = 0 })) e at in
    below (get_or distances k 0) (get_or slots k (record { output = 0; slot = 0 })) is low.0 low.1
  where
    below : (d : ℕ) (x : Slot) → d ≡ x.output * period + x.slot → x.output < round → x.slot < period → d < period * round
    below d x is p q = let more : suc x.output * period ≤ round * period = mul-le-mul_right period p in omega (arith, is, more, q)

pub round_some : (period round : ℕ) → 1 ≤ period → 1 ≤ round → 1 ≤ period * round
round_some period round p q = let more : 1 * round ≤ period * round = mul-le-mul_right round p in omega (arith, more, q)

pub round_room : (period round first : ℕ) → period ≤ 2 ^ 43 → round ≤ 4096 → first ≤ 2 ^ 32 → first + period * round ≤ 2 ^ 64
round_room period round first p q r =
    let a : period * round ≤ 2 ^ 43 * round = mul-le-mul_right round p in
    let b : round * 2 ^ 43 ≤ 4096 * 2 ^ 43 = mul-le-mul_right (2 ^ 43) q in
    omega (arith, a, b, r)

-- ---- bits

pub AddsBits-as : {old new : NetView} {round other : ℕ} {ds es : List ℕ} {bits : List Node} (period first : ℕ) → other ≡ round → es ≡ ds → AddsBits old new (IsTickAfter (period * other) first es) bits → AddsBits old new (IsTickAfter (period * round) first ds) bits
AddsBits-as {old} {new} {round} {other} {ds} {es} {bits} period first p q a =
    subst (λ (r : ℕ). AddsBits old new (IsTickAfter (period * r) first ds) bits) p (subst (λ (d : List ℕ). AddsBits old new (IsTickAfter (period * other) first d) bits) q a)

pub below_as : {round other : ℕ} {ds es : List ℕ} (period : ℕ) → other ≡ round → es ≡ ds → ((k : ℕ) → k < length ds → get_or ds k 0 < period * round) → (k : ℕ) → k < length es → get_or es k 0 < period * other
below_as {round} {other} {ds} {es} period p q h =
    subst (λ (d : List ℕ). (k : ℕ) → k < length d → get_or d k 0 < period * other) (sym q) (subst (λ (r : ℕ). (k : ℕ) → k < length ds → get_or ds k 0 < period * r) (sym p) h)

module _ {n0 n1 n2 n3 : NetView} {load clear : Node} {bits : List Node} {distances : List ℕ} {period round : ℕ} (slots : List Slot) (from : Stream) (o : Rounds) (same_period : o.period ≡ period) (same_round : o.round ≡ round) (are : distances ≡ map (distance_of period) slots)
    (c1 : IsCounter n0 n1 (IsTickOf period (from.offset + 1)) load) (c2 : IsCounter n1 n2 (IsTickOf period (from.offset + 2)) clear) (c3 : AddsBits n2 n3 (IsTickAfter (period * round) (from.offset + 2) distances) bits) (many : length bits ≡ length distances) where
  clear_plain : (group : ℕ) → 1 ≤ group → IsPlain n3.cells group clear.place
  clear_plain group some =
      let cell = c2.shape.cell in
      let is : is_control_name None cell.group && not (is_input cell.item) ≡ true = subst (λ (n : Option Name). is_control_name n cell.group && not (is_input cell.item) ≡ true) c2.nameless c2.shape.same_control in
      let zero_group : cell.group ≡ 0 = nameless_control cell.group (not (is_input cell.item)) is in
      let kept = c3.grows.extends.keeps clear.place cell c2.shape.there in
      let same = kept.group in
      of_other clear.place kept.cell kept.there (λ e. absurd (omega (arith, e, same, zero_group, some)))

  slot_bits : AreSlotBits n3.cells from o slots bits
  slot_bits = record {
    many = many ∙ ap (λ (ds : List ℕ). length ds) are ∙ length-mapped (distance_of period) slots;
    each = λ k x bit at_slot at_bit.
        let whole : period * round ≡ o.round * o.period = omega (arith, ap (λ (p : ℕ). p * o.round) same_period, ap (λ (r : ℕ). period * r) same_round) in
        let far : from.offset + 2 + get_or distances k 0 ≡ from.offset + 2 + distance_of o.period x = ap (λ (d : ℕ). from.offset + 2 + d) (distance_at period slots distances k x are at_slot ∙ ap (λ (p : ℕ). distance_of p x) (sym same_period)) in
        subst (λ (d : ℕ). IsBitOf n3.cells (IsTickOf (o.round * o.period) d) bit) far (subst (λ (p : ℕ). IsBitOf n3.cells (IsTickOf p (from.offset + 2 + get_or distances k 0)) bit) whole (c3.each k bit at_bit));
  }

  pub AddsControl-of : AddsControl n0 n3 from o slots load clear bits
  AddsControl-of = record {
    grows = Grows-trans c1.grows (Grows-trans c2.grows c3.grows);
    loads = subst (λ (p : ℕ). IsBitOf n3.cells (IsTickOf p (from.offset + 1)) load) (sym same_period) (IsBitOf-later c1.bit_of (Grows-trans c2.grows c3.grows).extends);
    clears = subst (λ (p : ℕ). IsBitOf n3.cells (IsTickOf p (from.offset + 2)) clear) (sym same_period) (IsBitOf-later c2.bit_of c3.grows.extends);
    slot_bits = slot_bits;
    plain = clear_plain;
    adders = SameAdders-trans c1.adders (SameAdders-trans c2.adders c3.adders);
    named = SameNamed-trans c1.named (SameNamed-trans c2.named c3.named);
    names = LeavesFree-trans n0.cells n1.cells n3.cells (λ name. name.kind ≡ Control) (λ name. name.kind ≡ Control) (λ name. name.kind ≡ Control) (λ name h. h) (λ name h. h) c1.names
        (LeavesFree-trans n1.cells n2.cells n3.cells (λ name. name.kind ≡ Control) (λ name. name.kind ≡ Control) (λ name. name.kind ≡ Control) (λ name h. h) (λ name h. h) c2.names c3.names);
    linear = KeepsShapes-trans c1.linear (KeepsShapes-trans c2.linear c3.linear);
  }
