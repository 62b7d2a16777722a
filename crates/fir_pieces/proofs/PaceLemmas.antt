-- The pace of the values of a stream by their indices modulo a number, and windows over a part of them.
use Rattle.std.proofs.Common.{◌≡◌, ℕ, zero, suc, ◌+◌, ◌-◌, ◌*◌, ◌%◌, ◌<◌, ◌≤◌, List, refl, sym, ◌∙◌, ap, arith, inl, inr, subst, ℤ, pos, negsuc, ◌-ℤ◌, ◌<ℤ◌, Some, slice_get}
use Rattle.std.proofs.lemmas.Bool.{cases_lt}
use Rattle.std.proofs.lemmas.Int.{ints}
use Rattle.std.proofs.Math.Nat.{mul-le-mul_right, mod-add-mod, mod-eq_of_lt}
use Rattle.std.proofs.lemmas.Nat.{mod-mul-add, mod_below}
use Rattle.mr_values.specs.Sequence.{Sequence}
use Rattle.net_graph.specs.declared.cell.Cell.{Cell}
use Rattle.net_graph.specs.declared.cell.Node.{Node}
use Rattle.net_graph.specs.declared.cell.Stream.{Stream}
use Rattle.net_graph.specs.Cells.{NetView}
use Rattle.net_graph.specs.Grow.{Extends}
use Rattle.pipeline_balance.specs.Gate.{HasTaken, IsWindow, taken_value, shown}
use Rattle.pipeline_balance.proofs.TakenLemmas.{taken, Holds-later}
use Rattle.stage_law.specs.Streams.{Streams, AreCausal}
use Rattle.fir_pieces.specs.Moment.{Moment, IsPace, Stands, sum_at, HoldsForms}
use Rattle.fir_pieces.specs.Split.{moment_after, taken_before, split_pace, split_age, split_forms, every_value, IsSplitWindow}
use Rattle.fir_pieces.proofs.UnitLemmas.{unit_form-sum}
use Rattle.fir_pieces.proofs.GiveLemmas.{nothing_before}
use Rattle.fir_pieces.proofs.MomentLemmas.{taken_is, has_taken}

-- ---- the pace

pub split_is_pace : (from : Stream) (modulus : ℕ) → 1 ≤ from.period → 1 ≤ modulus → IsPace from (split_pace from modulus)
split_is_pace from modulus positive some = record {
  proper = λ φ h. h;
  below = λ s. below_after (taken_before from.period from.offset s);
  stands = λ s. stands_after (taken_before from.period from.offset s);
  due = λ φ k h in_class.
      let t = from.offset + k * from.period + 1 in
      let now : HasTaken from.period from.offset (suc k) t = (omega arith, omega arith) in
      ap (moment_after modulus) (taken_is from.period from.offset (suc k) t positive now) ∙ ap (λ (n : ℕ). let m : Moment = record { newest = pos k; phase = n } in m) in_class;
}
  where
    below_after : (count : ℕ) → (moment_after modulus count).phase < modulus
    below_after zero = omega arith
    below_after (suc k) = mod_below k modulus (omega arith)

    stands_after : (count : ℕ) → Stands (split_pace from modulus).class (moment_after modulus count)
    stands_after zero = inl (omega (arith, ints))
    stands_after (suc k) = inr (k, refl, refl)

-- ---- the values of a part

before_all : (v : Sequence) → ((n : ℕ) → v (negsuc n) ≡ pos 0) → (z : ℤ) → z <ℤ pos 0 → v z ≡ pos 0
before_all v none (pos n) h = absurd (omega (arith, ints))
before_all v none (negsuc n) h = none n

-- of those taken, the one `age` before the last, `d` values of the stream after that last
split_value : (v : Sequence) → ((n : ℕ) → v (negsuc n) ≡ pos 0) → (modulus residue d : ℕ) → residue < modulus → (f : ℕ → ℤ) → ((k : ℕ) → f k ≡ every_value modulus residue v k)
    → (count age : ℕ) → taken_value f (suc count) age ≡ v (pos (residue + count * modulus + d) -ℤ pos (age * modulus + d))
split_value v none modulus residue d inside f e count zero =
    let at : pos (residue + count * modulus) ≡ pos (residue + count * modulus + d) -ℤ pos (0 * modulus + d) = omega (arith, ints) in
    e count ∙ ap v at
split_value v none modulus residue d inside f e zero (suc age) =
    let more : suc age * modulus ≡ age * modulus + modulus = omega arith in
    sym (before_all v none (pos (residue + 0 * modulus + d) -ℤ pos (suc age * modulus + d)) (omega (arith, ints, more)))
split_value v none modulus residue d inside f e (suc count) (suc age) =
    let at : pos (residue + count * modulus + d) -ℤ pos (age * modulus + d) ≡ pos (residue + suc count * modulus + d) -ℤ pos (suc age * modulus + d) = omega (arith, ints) in
    split_value v none modulus residue d inside f e count age ∙ ap v at

-- how far value k stands after the last of the part
split_rest : (modulus residue k count d : ℕ) → residue < modulus → d < modulus → k ≡ residue + count * modulus + d → (k % modulus + (modulus - residue)) % modulus ≡ d
split_rest modulus residue k count d inside small e =
    let sum : k + (modulus - residue) ≡ suc count * modulus + d = omega (arith, e) in
    mod-add-mod k modulus (modulus - residue) ∙ ap (λ (n : ℕ). n % modulus) sum ∙ mod-mul-add (suc count) modulus d small

-- and before the first of the part
split_first : (modulus residue k : ℕ) → residue < modulus → k < residue → (k % modulus + (modulus - residue)) % modulus ≡ k + (modulus - residue)
split_first modulus residue k inside early = mod-add-mod k modulus (modulus - residue) ∙ mod-eq_of_lt (omega arith)

-- times that lie between
mul_between : (a b period : ℕ) → 1 ≤ period → a * period < suc b * period → a ≤ b
mul_between a b period positive h = elim (cases_lt b a) [
  | inl more ↦ let big : suc b * period ≤ a * period = mul-le-mul_right period more in absurd (omega arith)
  | inr le ↦ le
]

-- what such a register holds
module _ (modulus residue period first : ℕ) (inside : residue < modulus) (positive : 1 ≤ period) (v : Sequence) (none : (n : ℕ) → v (negsuc n) ≡ pos 0) (f : ℕ → ℤ) (e : (k : ℕ) → f k ≡ every_value modulus residue v k) where
  -- by how many values of the stream and of the part lie before the tick
  pub split_moment : (s count n age : ℕ) → HasTaken period first count s → HasTaken (modulus * period) (first + residue * period) n s → taken_value f n age ≡ sum_at (split_forms modulus residue age) (moment_after modulus count) v
  split_moment s zero zero age h g = sym (nothing_before (split_forms modulus residue age 0) v (negsuc 0) none (omega (arith, ints)))
  split_moment s zero (suc n) age h g = let after = g.0 in absurd (omega arith)
  split_moment s (suc k) zero age h g =
      let after = h.0 in
      let early : k < residue = elim (cases_lt k residue) [ inl less ↦ less | inr more ↦ let big : residue * period ≤ k * period = mul-le-mul_right period more in absurd (omega arith) ] in
      let d = split_first modulus residue k inside early in
      sym (unit_form-sum (split_age modulus residue age (k % modulus)) (λ i. v (pos k -ℤ pos i))
      ∙ before_all v none (pos k -ℤ pos (split_age modulus residue age (k % modulus))) (omega (arith, ints, d)))
  split_moment s (suc k) (suc n) age h g =
      let h0 = h.0 in
      let h1 = h.1 in
      let g0 = g.0 in
      let g1 = g.1 in
      let low_side : (residue + n * modulus) * period ≡ residue * period + n * (modulus * period) = omega arith in
      let high_side : (residue + suc n * modulus) * period ≡ residue * period + suc n * (modulus * period) = omega arith in
      let low : residue + n * modulus ≤ k = mul_between (residue + n * modulus) k period positive (omega (arith, low_side, h1, g0)) in
      let high : suc k ≤ residue + suc n * modulus = elim (cases_lt k (residue + suc n * modulus)) [
        | inl less ↦ less
        | inr more ↦ let big : (residue + suc n * modulus) * period ≤ k * period = mul-le-mul_right period more in absurd (omega (arith, big, high_side, h0, g1))
      ] in
      let d = k - (residue + n * modulus) in
      let at : k ≡ residue + n * modulus + d = omega (arith, low) in
      let more : suc n * modulus ≡ n * modulus + modulus = omega arith in
      let small : d < modulus = omega (arith, high, more, inside) in
      let rest = split_rest modulus residue k n d inside small at in
      let age_is : age * modulus + d ≡ split_age modulus residue age (k % modulus) = ap (λ (r : ℕ). age * modulus + r) (sym rest) in
      split_value v none modulus residue d inside f e n age
      ∙ ap (λ (a : ℕ). v (pos a -ℤ pos (age * modulus + d))) (sym at)
      ∙ ap (λ (a : ℕ). v (pos k -ℤ pos a)) age_is
      ∙ sym (unit_form-sum (split_age modulus residue age (k % modulus)) (λ i. v (pos k -ℤ pos i)))

-- each register of a window over a part of a stream holds the one-term forms by its age
pub window_forms : {cells : List Cell} {from : Stream} {modulus residue : ℕ} {nodes : List Node} (streams : Streams) → AreCausal streams → 1 ≤ from.period → IsSplitWindow streams cells from modulus residue nodes
    → (age : ℕ) (node : Node) → slice_get nodes age ≡ Some node → HoldsForms streams cells from (split_pace from modulus) (split_forms modulus residue age) 0 node
window_forms {cells} {from} {modulus} {residue} streams causal positive w age node there = record {
  early = λ cut law x values v is run carried t h. absurd (omega arith);
  late = λ cut law x values v is run carried s.
      let inside = w.inside in
      let count = has_taken from.period from.offset s positive in
      let some : 1 ≤ modulus * from.period = let one : 1 * 1 ≤ modulus * from.period = both 1 modulus 1 from.period (omega arith) positive in omega arith in
      let n = taken (modulus * from.period) (from.offset + residue * from.period) s some in
      let own : HasTaken w.taken.period w.taken.offset n.0 s = subst (λ (p : ℕ). HasTaken p w.taken.offset n.0 s) (sym w.period) (subst (λ (o : ℕ). HasTaken (modulus * from.period) o n.0 s) (sym w.offset) n.1) in
      let tick : s + 0 ≡ s = omega arith in
      ap (λ (u : ℕ). values u node.place) tick
      ∙ (w.holds age node there).holds cut law x values run s n.0 own
      ∙ split_moment modulus residue from.period from.offset inside positive v (λ k. causal.each v is k) (shown values w.taken) (w.carries cut law x values v is run carried) s (taken_before from.period from.offset s) n.0 age count n.1;
}
  where
    both : (a b c d : ℕ) → a ≤ b → c ≤ d → a * c ≤ b * d
    both a b c d p q = let first : a * c ≤ b * c = mul-le-mul_right c p in let second : c * b ≤ d * b = mul-le-mul_right b q in omega arith

-- a window over every so manieth of the stream's own ticks is one
pub IsSplitWindow-window : {old new : NetView} {from taken : Stream} {modulus residue : ℕ} {nodes : List Node} (streams : Streams) → residue < modulus → taken.node ≡ from.node → taken.period ≡ modulus * from.period → taken.offset ≡ from.offset + residue * from.period
    → IsWindow old new taken nodes → IsSplitWindow streams new.cells from modulus residue nodes
IsSplitWindow-window {old} {new} {from} {taken} {modulus} {residue} {nodes} streams inside node period offset w = record {
  taken = taken;
  inside = inside;
  period = period;
  offset = offset;
  carries = λ cut law x values v is run carried k.
      let far : k * taken.period ≡ k * (modulus * from.period) = ap (λ (p : ℕ). k * p) period in
      let tick : taken.offset + k * taken.period ≡ from.offset + (residue + k * modulus) * from.period = omega (arith, far, offset) in
      ap (λ (u : ℕ). values u taken.node.place) tick ∙ ap (λ (n : Node). values (from.offset + (residue + k * modulus) * from.period) n.place) node ∙ carried (residue + k * modulus);
  holds = w.holds;
}

pub IsSplitWindow-later : {old new : List Cell} {from : Stream} {modulus residue : ℕ} {nodes : List Node} (streams : Streams) → Extends old new → IsSplitWindow streams old from modulus residue nodes → IsSplitWindow streams new from modulus residue nodes
IsSplitWindow-later streams e w = record {
  taken = w.taken;
  inside = w.inside;
  period = w.period;
  offset = w.offset;
  carries = λ cut law x values v is run. w.carries cut law x values v is (e.runs cut law x values run);
  holds = λ age node there. Holds-later e (w.holds age node there);
}
