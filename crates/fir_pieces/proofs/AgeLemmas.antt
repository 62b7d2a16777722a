-- The registers of a window show one value each.
use Rattle.std.proofs.Common.{◌≡◌, ℕ, zero, suc, ◌+◌, ◌*◌, ◌^◌, ◌<◌, ◌≤◌, List, [], ◌∷◌, ◌++◌, length, length-append, get_or, refl, sym, ◌∙◌, ap, arith, subst, inl, inr, ℤ, pos, ◌-ℤ◌, All, unsigned_abs, Some, slice_get}
use Rattle.std.proofs.lemmas.Bool.{cases_lt}
use Rattle.std.proofs.lemmas.Int.{ints}
use Rattle.std.proofs.lemmas.List.Elements.{All-head, All-tail}
use Rattle.std.proofs.lemmas.Option.{slice_get-get_or, slice_get_within}
use Rattle.mr_values.specs.Sequence.{Sequence, weighted_sum, filter}
use Rattle.net_graph.specs.declared.cell.Cell.{Cell}
use Rattle.net_graph.specs.declared.cell.Node.{Node}
use Rattle.net_graph.specs.declared.cell.Stream.{Stream}
use Rattle.net_graph.specs.Cells.{cell_at}
use Rattle.net_graph.proofs.Lists.{slice_get-append_left, slice_get_push}
use Rattle.signed_digit.specs.declared.term_list.Term.{Term}
use Rattle.signed_digit.specs.Terms.{term_sum}
use Rattle.stage_law.specs.Streams.{Streams, AreCausal}
use Rattle.fir_pieces.specs.declared.reading.Reading.{Reading}
use Rattle.fir_pieces.specs.declared.reading.Reading.TheVariants.{One}
use Rattle.fir_pieces.specs.Cutting.{IsWideWindow, IsCutWindow}
use Rattle.fir_pieces.specs.Form.{reading_form}
use Rattle.fir_pieces.specs.Peaks.{HoldsForm}
use Rattle.fir_pieces.specs.Reading.{ReadsWithin, ages, reading_at, spread, terms_at}
use Rattle.fir_pieces.specs.Sums.{AreShown}
use Rattle.fir_pieces.specs.Listed.{every}
use Rattle.fir_pieces.proofs.DueLemmas.{window_holds}
use Rattle.fir_pieces.proofs.HeldLemmas.{weighted_sum-reading}
use Rattle.fir_pieces.proofs.ReadingLemmas.{shown_by, term_sum-spread}
use Rattle.fir_pieces.proofs.ReadyLemmas.{IsNoWider, reached_room}

-- ---- the list

pub length-ages : (n : ℕ) → length (ages n) ≡ n
length-ages zero = refl
length-ages (suc n) = let rest = length-ages n in let both = length-append (ages n) (One n ∷ []) in omega (arith, rest, both)

pub ages-at : (n k : ℕ) → k < n → slice_get (ages n) k ≡ Some (One k)
ages-at zero k h = absurd (omega arith)
ages-at (suc n) k h = elim (cases_lt k n) [
  | inl less ↦ slice_get-append_left (ages n) (One n ∷ []) k (One k) (ages-at n k less)
  | inr more ↦
      let same : n ≡ k = omega arith in
      subst (λ (i : ℕ). slice_get (ages n ++ One n ∷ []) i ≡ Some (One i)) same (slice_get_push (ages n) (One n) n (sym (length-ages n)))
]

pub ages-or : (n k : ℕ) (other : Reading) → k < n → get_or (ages n) k other ≡ One k
ages-or n k other h =
    let inside : k < length (ages n) = let long = length-ages n in omega (arith, h, long) in
    same (slice_get-get_or (ages n) k other inside) (ages-at n k h)
  where
    same : slice_get (ages n) k ≡ Some (get_or (ages n) k other) → slice_get (ages n) k ≡ Some (One k) → get_or (ages n) k other ≡ One k
    same p q = cc

pub ages_within : (n : ℕ) → All (ReadsWithin n) (ages n)
ages_within n = λ k other h. let long = length-ages n in let less : k < n = omega (arith, h, long) in subst (ReadsWithin n) (sym (ages-or n k other less)) less

-- ---- terms over them

pub spread-ages : (n : ℕ) (ts : List Term) → All (λ (t : Term). t.index < n) ts → spread (ages n) ts ≡ ts
spread-ages n [] h = refl
spread-ages n (t ∷ ts) h =
    ap (λ (r : Reading). terms_at r t ++ spread (ages n) ts) (ages-or n t.index (One 0) (All-head (λ (u : Term). u.index < n) t ts h))
    ∙ ap (λ (us : List Term). t ∷ us) (spread-ages n ts (All-tail (λ (u : Term). u.index < n) t ts h))

pub term_sum-ages : (n : ℕ) (f : ℕ → ℤ) (ts : List Term) → All (λ (t : Term). t.index < n) ts → term_sum (shown_by (ages n) f) ts ≡ term_sum f ts
term_sum-ages n f ts h = sym (term_sum-spread f (ages n) ts) ∙ ap (term_sum f) (spread-ages n ts h)

-- ---- the window's registers

pub window_shown : {cells : List Cell} {from : Stream} {window : List Node} (streams : Streams) → AreCausal streams → 1 ≤ from.period → (depth : ℕ) → depth ≡ length window → IsCutWindow streams cells from window → AreShown streams cells from (ages depth) 0 window
window_shown {cells} {from} {window} streams causal positive depth long w = record {
  many = sym long ∙ sym (length-ages depth);
  each = λ age node is.
      let inside = slice_get_within window age node is in
      subst (λ (r : Reading). HoldsForm streams cells from (reading_form r) 0 node) (sym (ages-or depth age (One 0) (omega (arith, inside, long))))
      (window_holds streams causal positive w age node is (reading_form (One age)) (λ f. weighted_sum-reading (One age) f));
}

-- no wider than the value that they show needs
pub window_narrow : {cells : List Cell} {window : List Node} (streams : Streams) (depth : ℕ) → depth ≡ length window → IsWideWindow streams cells window → (age : ℕ) (node : Node) → slice_get window age ≡ Some node
    → (node.place < length cells) × IsNoWider streams (reading_form (reading_at (ages depth) age)) (cell_at cells node.place).width
window_narrow {cells} {window} streams depth long w age node is =
    let inside = slice_get_within window age node is in
    let own = w.narrow age node is in
    let some = own.1 in
    let most = own.2 in (
      own.0,
      subst (λ (r : Reading). IsNoWider streams (reading_form r) (cell_at cells node.place).width) (sym (ages-or depth age (One 0) (omega (arith, inside, long))))
          (record {
            positive = some;
            room = λ place room each low much.
                let earlier : (v : Sequence) → streams v → (k : ℕ) → unsigned_abs (filter (pos 1 ∷ []) v (pos k)) * 2 ^ place ≤ 2 ^ room =
                λ v is_one k.
                let at : pos (k + age) -ℤ pos age ≡ pos k -ℤ pos 0 = omega (arith, ints) in
                let value : filter (reading_form (One age)) v (pos (k + age)) ≡ v (pos k -ℤ pos 0) = weighted_sum-reading (One age) (λ i. v (pos (k + age) -ℤ pos i)) ∙ ap v at in
                let alone : filter (pos 1 ∷ []) v (pos k) ≡ v (pos k -ℤ pos 0) = once (v (pos k -ℤ pos 0)) in
                subst (λ (z : ℤ). unsigned_abs z * 2 ^ place ≤ 2 ^ room) (value ∙ sym alone) (each v is_one (k + age)) in
                let narrow = reached_room streams every (pos 1 ∷ []) w.width place room w.least earlier low much in
                omega (arith, narrow, most);
          }),
    )
  where
    once : (z : ℤ) → weighted_sum (pos 1 ∷ []) (λ i. z) ≡ z
    once z = omega (arith, ints)
