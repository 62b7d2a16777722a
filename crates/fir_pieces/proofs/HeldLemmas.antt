-- What the registers of a tree over nodes that show readings hold.
use Rattle.std.proofs.Common.{◌≡◌, ℕ, zero, suc, ◌+◌, ◌-◌, ◌*◌, ◌^◌, ◌<◌, ◌≤◌, List, [], ◌∷◌, length, map, take, drop, get_or, replicate, refl, sym, ◌∙◌, ap, arith, inl, inr, Bool, true, false, cond, ℤ, pos, negsuc, neg_ℤ, ◌+ℤ◌, ◌-ℤ◌, ◌*ℤ◌, ◌≤ℤ◌, All, subst, Some, slice_get}
use Rattle.std.proofs.lemmas.Bool.{cases_lt}
use Rattle.std.proofs.lemmas.Int.{ints}
use Rattle.std.proofs.Math.IntN.{*ℤ_comm}
use Rattle.std.proofs.lemmas.Option.{slice_get-get_or}
use Rattle.std.proofs.lemmas.List.{take-map, drop-map, length-map, length-replicate}
use Rattle.std.proofs.lemmas.List.Elements.{All-head, All-tail, All-take, All-drop}
use Rattle.mr_values.specs.Digit.{with_sign}
use Rattle.mr_values.specs.Sequence.{Sequence, weighted_sum, filter}
use Rattle.mr_values.specs.Width.{FitsWidth}
use Rattle.mr_values.proofs.WidthLemmas.{FitsWidth-zero}
use Rattle.mr_values.proofs.Polyphase.{weighted_sum-same}
use Rattle.net_graph.specs.declared.cell.Cell.{Cell}
use Rattle.net_graph.specs.declared.cell.Leaf.{Leaf}
use Rattle.net_graph.specs.declared.cell.Node.{Node}
use Rattle.net_graph.specs.declared.cell.Stream.{Stream}
use Rattle.net_graph.specs.Cut.{Cut, IsCut}
use Rattle.net_graph.specs.Run.{Values, IsRun}
use Rattle.signed_digit.specs.declared.term_list.Term.{Term}
use Rattle.signed_digit.specs.Terms.{term_sum}
use Rattle.pipeline_balance.specs.Gate.{HasTaken, taken_value, Carries}
use Rattle.pipeline_balance.specs.Leaves.{delayed, signed_by, signed_sum, all_negative, held_sum, segment}
use Rattle.pipeline_balance.specs.Tree.{level_count, count_to, SumsFit}
use Rattle.pipeline_balance.proofs.TakenLemmas.{taken}
use Rattle.stage_law.specs.Streams.{Streams, AreCausal}
use Rattle.fir_pieces.specs.Placed.{all_minus, leaf_of, term_segment}
use Rattle.fir_pieces.specs.declared.reading.Reading.{Reading}
use Rattle.fir_pieces.specs.Form.{reach_of, weights_by, form_of, one_value, reading_form}
use Rattle.fir_pieces.specs.Reading.{read, terms_at, reading_at, spread}
use Rattle.fir_pieces.specs.Readers.{at_node}
use Rattle.fir_pieces.specs.Sums.{AreShown}
use Rattle.fir_pieces.specs.Held.{IsFormWidth, AreTreeWidths}
use Rattle.fir_pieces.proofs.FormLemmas.{weighted_sum-with_terms, weighted_sum-replicate, signed_times}
use Rattle.fir_pieces.proofs.MomentLemmas.{HoldsForm-late}
use Rattle.fir_pieces.proofs.PlaceLemmas.{below_reach}
use Rattle.fir_pieces.proofs.ReadingLemmas.{shown_by, term_sum-terms_at, term_sum-spread}

-- ---- leaves are terms

pub one_leaf : (m : Bool) (x : ℤ) (n : ℕ) → signed_by m (x *ℤ pos n) ≡ with_sign m n *ℤ x
one_leaf true x n = ap neg_ℤ (*ℤ_comm x (pos n)) ∙ sym (signed_times true (pos n) x)
one_leaf false x n = *ℤ_comm x (pos n)

pub signed_sum-leaves : (values : Values) (t : ℕ) (nodes : List Node) (ts : List Term) → signed_sum values t (map (leaf_of nodes) ts) ≡ term_sum (at_node values t nodes) ts
signed_sum-leaves values t nodes [] = refl
signed_sum-leaves values t nodes (u ∷ ts) =
    let first = one_leaf u.negative (at_node values t nodes u.index) (2 ^ u.place) in
    let rest = signed_sum-leaves values t nodes ts in
    ap (λ (z : ℤ). z +ℤ signed_sum values t (map (leaf_of nodes) ts)) first ∙ ap (λ (z : ℤ). with_sign u.negative (2 ^ u.place) *ℤ at_node values t nodes u.index +ℤ z) rest

pub all_negative-leaves : (nodes : List Node) (ts : List Term) → all_negative (map (leaf_of nodes) ts) ≡ all_minus ts
all_negative-leaves nodes [] = refl
all_negative-leaves nodes (t ∷ ts) = ap (λ (b : Bool). cond t.negative b false) (all_negative-leaves nodes ts)

pub segment-leaves : (nodes : List Node) (level j : ℕ) (ts : List Term) → segment level j (map (leaf_of nodes) ts) ≡ map (leaf_of nodes) (term_segment level j ts)
segment-leaves nodes level j ts = ap (take (2 ^ level)) (drop-map (leaf_of nodes) (j * 2 ^ level) ts) ∙ take-map (leaf_of nodes) (2 ^ level) (drop (j * 2 ^ level) ts)

-- ---- sums over the nodes

term_sum-same : (depth : ℕ) (ts : List Term) (f g : ℕ → ℤ) → All (λ (t : Term). t.index < depth) ts → ((i : ℕ) → i < depth → f i ≡ g i) → term_sum f ts ≡ term_sum g ts
term_sum-same depth [] f g h e = refl
term_sum-same depth (t ∷ ts) f g h e =
    ap (λ (z : ℤ). with_sign t.negative (2 ^ t.place) *ℤ z +ℤ term_sum f ts) (e t.index (All-head (λ (u : Term). u.index < depth) t ts h))
    ∙ ap (λ (z : ℤ). with_sign t.negative (2 ^ t.place) *ℤ g t.index +ℤ z) (term_sum-same depth ts f g (All-tail (λ (u : Term). u.index < depth) t ts h) e)

-- the weights' sum is that of the terms, or of their negations
pub weighted_sum-weights_by : (negated : Bool) (ts : List Term) (f : ℕ → ℤ) → weighted_sum (weights_by negated ts) f ≡ signed_by negated (term_sum f ts)
weighted_sum-weights_by negated ts f =
    let reach = reach_of ts in
    let long : length (replicate reach (pos 0)) ≡ reach = length-replicate reach (pos 0) in
    let places : All (λ (t : Term). t.index < length (replicate reach (pos 0))) ts = subst (λ (n : ℕ). All (λ (t : Term). t.index < n) ts) (sym long) (below_reach ts) in
    let sum = weighted_sum-with_terms negated (replicate reach (pos 0)) ts f places in
    let none = weighted_sum-replicate reach f in
    sum ∙ ap (λ (z : ℤ). z +ℤ signed_by negated (term_sum f ts)) none ∙ no_less (signed_by negated (term_sum f ts))
  where
    no_less : (z : ℤ) → pos 0 +ℤ z ≡ z
    no_less z = omega (arith, ints)

pub weighted_sum-form : (readings : List Reading) (ts : List Term) (f : ℕ → ℤ) → weighted_sum (form_of readings ts) f ≡ signed_by (all_minus ts) (term_sum (shown_by readings f) ts)
weighted_sum-form readings ts f = weighted_sum-weights_by (all_minus ts) (spread readings ts) f ∙ ap (signed_by (all_minus ts)) (term_sum-spread f readings ts)

-- what a node shows is the sum of its weights
pub weighted_sum-reading : (r : Reading) (f : ℕ → ℤ) → weighted_sum (reading_form r) f ≡ read r f
weighted_sum-reading r f = weighted_sum-weights_by false (terms_at r one_value) f ∙ term_sum-terms_at f r one_value ∙ once (read r f)
  where
    once : (z : ℤ) → pos 1 *ℤ z ≡ z
    once z = omega (arith, ints)

-- ---- what a window shows

-- of a stream that is 0 before it begins, the value `age` before the last of those taken
pub taken_value-stream : (f : ℕ → ℤ) (v : Sequence) → ((k : ℕ) → f k ≡ v (pos k)) → ((n : ℕ) → v (negsuc n) ≡ pos 0) → (count age : ℕ) → taken_value f count age ≡ v (pos count -ℤ pos 1 -ℤ pos age)
taken_value-stream f v e none zero age = let at : pos 0 -ℤ pos 1 -ℤ pos age ≡ negsuc age = omega (arith, ints) in sym (ap v at ∙ none age)
taken_value-stream f v e none (suc k) zero = let at : pos (suc k) -ℤ pos 1 -ℤ pos 0 ≡ pos k = omega (arith, ints) in e k ∙ sym (ap v at)
taken_value-stream f v e none (suc k) (suc age) = let at : pos k -ℤ pos 1 -ℤ pos age ≡ pos (suc k) -ℤ pos 1 -ℤ pos (suc age) = omega (arith, ints) in taken_value-stream f v e none k age ∙ ap v at

pub between : (w : ℕ) (lo z hi : ℤ) → FitsWidth w lo → FitsWidth w hi → lo ≤ℤ z → z ≤ℤ hi → FitsWidth w z
between w lo z hi l h p q = record { low = let a = l.low in omega (arith, ints); high = let b = h.high in omega (arith, ints) }

-- ---- sums of a form over a stream, before each of its values and before the first

pub weighted_sum-nothing : (cs : List ℤ) → weighted_sum cs (λ i. pos 0) ≡ pos 0
weighted_sum-nothing [] = refl
weighted_sum-nothing (c ∷ cs) = omega (arith, ints, weighted_sum-nothing cs)

pub before_first : (form : List ℤ) (v : Sequence) → ((n : ℕ) → v (negsuc n) ≡ pos 0) → weighted_sum form (λ i. v (pos 0 -ℤ pos 1 -ℤ pos i)) ≡ pos 0
before_first form v none =
    let at : (i : ℕ) → v (pos 0 -ℤ pos 1 -ℤ pos i) ≡ pos 0 = λ i. let e : pos 0 -ℤ pos 1 -ℤ pos i ≡ negsuc i = omega (arith, ints) in ap v e ∙ none i in
    weighted_sum-same form (λ i. v (pos 0 -ℤ pos 1 -ℤ pos i)) (λ i. pos 0) at ∙ weighted_sum-nothing form

-- each of the sums fits the least width
pub form_fits : (streams : Streams) → AreCausal streams → (form : List ℤ) (width : ℕ) → IsFormWidth streams form width → (v : Sequence) → streams v → (count : ℕ) → FitsWidth width (weighted_sum form (λ i. v (pos count -ℤ pos 1 -ℤ pos i)))
form_fits streams causal form width w v is zero = subst (FitsWidth width) (sym (before_first form v (λ n. causal.each v is n))) (FitsWidth-zero width)
form_fits streams causal form width w v is (suc k) =
    let at : (i : ℕ) → pos (suc k) -ℤ pos 1 -ℤ pos i ≡ pos k -ℤ pos i = λ i. omega (arith, ints) in
    let same = weighted_sum-same form (λ i. v (pos (suc k) -ℤ pos 1 -ℤ pos i)) (λ i. v (pos k -ℤ pos i)) (λ i. ap v (at i)) in
    subst (FitsWidth width) (sym same) (between width w.range.lo (filter form v (pos k)) w.range.hi w.least.holds_low w.least.holds_high (w.is_range.low v is k (omega arith)) (w.is_range.high v is k (omega arith)))

-- ---- nodes that show readings

module _ {cells : List Cell} {from : Stream} {readings : List Reading} {ticks : ℕ} {nodes : List Node} (streams : Streams) (causal : AreCausal streams) (positive : 1 ≤ from.period) (shown : AreShown streams cells from readings ticks nodes)
    (cut : Cut) (law : IsCut cut) (inputs : ℕ → ℤ) (values : Values) (run : IsRun cut cells inputs values) (v : Sequence) (is_one : streams v) (carried : Carries values from v) where
  node_there : (i : ℕ) → i < length readings → slice_get nodes i ≡ Some (get_or nodes i (record { place = 0 }))
  node_there i inside = let many = shown.many in slice_get-get_or nodes i (record { place = 0 }) (omega (arith, many, inside))

  -- the node's value, so many ticks after a tick before which so many values were taken
  node_is : (s count : ℕ) → HasTaken from.period from.offset count s → (i : ℕ) → i < length readings → at_node values (s + ticks) nodes i ≡ shown_by readings (λ k. v (pos count -ℤ pos 1 -ℤ pos k)) i
  node_is s count h i inside =
      HoldsForm-late streams cells from (reading_form (reading_at readings i)) ticks (get_or nodes i (record { place = 0 })) positive (shown.each i (get_or nodes i (record { place = 0 })) (node_there i inside)) cut law inputs values v is_one run carried s count h
      ∙ weighted_sum-reading (reading_at readings i) (λ k. v (pos count -ℤ pos 1 -ℤ pos k))

  node_early : (t : ℕ) → t < ticks → (i : ℕ) → i < length readings → at_node values t nodes i ≡ pos 0
  node_early t early i inside = (shown.each i (get_or nodes i (record { place = 0 })) (node_there i inside)).early cut law inputs values v is_one run carried t early

  -- the leaves' sum then
  pub sum_is : (ts : List Term) → All (λ (t : Term). t.index < length readings) ts → (s count : ℕ) → HasTaken from.period from.offset count s → signed_sum values (s + ticks) (map (leaf_of nodes) ts) ≡ term_sum (shown_by readings (λ k. v (pos count -ℤ pos 1 -ℤ pos k))) ts
  sum_is ts h s count taken_is =
      signed_sum-leaves values (s + ticks) nodes ts ∙ term_sum-same (length readings) ts (at_node values (s + ticks) nodes) (shown_by readings (λ k. v (pos count -ℤ pos 1 -ℤ pos k))) h (node_is s count taken_is)

  -- a register's sum is that of its form
  pub held_is : (ts : List Term) → All (λ (t : Term). t.index < length readings) ts → (s count : ℕ) → HasTaken from.period from.offset count s → held_sum values (s + ticks) (map (leaf_of nodes) ts) ≡ weighted_sum (form_of readings ts) (λ i. v (pos count -ℤ pos 1 -ℤ pos i))
  held_is ts h s count taken_is =
      ap (λ (b : Bool). signed_by b (signed_sum values (s + ticks) (map (leaf_of nodes) ts))) (all_negative-leaves nodes ts) ∙ ap (signed_by (all_minus ts)) (sum_is ts h s count taken_is)
      ∙ sym (weighted_sum-form readings ts (λ i. v (pos count -ℤ pos 1 -ℤ pos i)))

  -- and 0 before
  pub held_early : (ts : List Term) → All (λ (t : Term). t.index < length readings) ts → (t : ℕ) → t < ticks → held_sum values t (map (leaf_of nodes) ts) ≡ pos 0
  held_early ts h t early =
      ap (signed_by (all_negative (map (leaf_of nodes) ts))) (signed_sum-leaves values t nodes ts ∙ term_sum-same (length readings) ts (at_node values t nodes) (λ i. pos 0) h (node_early t early) ∙ term_sum-zero ts)
      ∙ zero_signed (all_negative (map (leaf_of nodes) ts))
    where
      nothing_times : (z : ℤ) → z *ℤ pos 0 ≡ pos 0
      nothing_times z = omega (arith, ints)

      term_sum-zero : (us : List Term) → term_sum (λ i. pos 0) us ≡ pos 0
      term_sum-zero [] = refl
      term_sum-zero (u ∷ us) = let rest = term_sum-zero us in let own = nothing_times (with_sign u.negative (2 ^ u.place)) in omega (arith, ints, rest, own)

      zero_signed : (b : Bool) → signed_by b (pos 0) ≡ pos 0
      zero_signed true = refl
      zero_signed false = refl

  -- it fits its width
  held_fits : (ts : List Term) → All (λ (t : Term). t.index < length readings) ts → (width : ℕ) → IsFormWidth streams (form_of readings ts) width → (t : ℕ) → FitsWidth width (held_sum values t (map (leaf_of nodes) ts))
  held_fits ts h width w t = elim (cases_lt t ticks) [
    | inl early ↦ subst (FitsWidth width) (sym (held_early ts h t early)) (FitsWidth-zero width)
    | inr later ↦
        let s = t - ticks in
        let tick : s + ticks ≡ t = omega arith in
        let before = taken from.period from.offset s positive in
        subst (λ (n : ℕ). FitsWidth width (held_sum values n (map (leaf_of nodes) ts))) tick
        (subst (FitsWidth width) (sym (held_is ts h s before.0 before.1)) (form_fits streams causal (form_of readings ts) width w v is_one before.0))
  ]

  -- the widths of the tree's registers hold all its sums
  pub sums_fit : (ts : List Term) (levels : ℕ) (widths : List ℕ) → All (λ (t : Term). t.index < length readings) ts → AreTreeWidths streams readings ts levels widths → SumsFit cut values (map (leaf_of nodes) ts) widths levels
  sums_fit ts levels widths h w level j low within t =
      let many : length (map (leaf_of nodes) ts) ≡ length ts = length-map ts (leaf_of nodes) in
      let part = term_segment (suc level) j ts in
      let inside : All (λ (u : Term). u.index < length readings) part = All-take (λ (u : Term). u.index < length readings) (2 ^ suc level) (drop (j * 2 ^ suc level) ts) (All-drop (λ (u : Term). u.index < length readings) (j * 2 ^ suc level) ts h) in
      let own : IsFormWidth streams (form_of readings part) (get_or widths (count_to (length ts) level + j) 0) = w.each level j low (subst (λ (n : ℕ). j < level_count n (suc level)) many within) in
      let fits = held_fits part inside (get_or widths (count_to (length ts) level + j) 0) own t in
      let kept : cut false (get_or widths (count_to (length ts) level + j) 0) (held_sum values t (map (leaf_of nodes) part)) ≡ held_sum values t (map (leaf_of nodes) part) = law.fitting false (get_or widths (count_to (length ts) level + j) 0) (held_sum values t (map (leaf_of nodes) part)) own.least.positive fits in
      let same : segment (suc level) j (map (leaf_of nodes) ts) ≡ map (leaf_of nodes) part = segment-leaves nodes (suc level) j ts in
      subst (λ (n : ℕ). cut false (get_or widths (count_to n level + j) 0) (held_sum values t (segment (suc level) j (map (leaf_of nodes) ts))) ≡ held_sum values t (segment (suc level) j (map (leaf_of nodes) ts))) (sym many)
      (subst (λ (leaves : List Leaf). cut false (get_or widths (count_to (length ts) level + j) 0) (held_sum values t leaves) ≡ held_sum values t leaves) (sym same) kept)

-- some ticks later
pub delayed_later : (ticks t : ℕ) (f : ℕ → ℤ) → delayed ticks (t + ticks) f ≡ f t
delayed_later zero t f = let e : t + 0 ≡ t = omega arith in ap f e
delayed_later (suc ticks) t f = let e : t + suc ticks ≡ suc (t + ticks) = omega arith in ap (λ (n : ℕ). delayed (suc ticks) n f) e ∙ delayed_later ticks t f

-- what was 0 before a tick is 0 before a later one
pub delayed_early : (ticks quiet t : ℕ) (f : ℕ → ℤ) → ((s : ℕ) → s < quiet → f s ≡ pos 0) → t < quiet + ticks → delayed ticks t f ≡ pos 0
delayed_early zero quiet t f none h = none t (omega arith)
delayed_early (suc ticks) quiet zero f none h = refl
delayed_early (suc ticks) quiet (suc t) f none h = delayed_early ticks quiet t f none (omega arith)
