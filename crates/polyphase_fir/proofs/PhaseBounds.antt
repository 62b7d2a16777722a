-- How many terms a phase has and how great they are.
use Rattle.std.proofs.Common.{◌≡◌, ℕ, zero, suc, ◌-◌, ◌*◌, ◌^◌, ◌<◌, ◌≤◌, List, [], ◌∷◌, length, sym, ◌∙◌, ap, arith, inl, inr, subst, ℤ, All, unsigned_abs}
use Rattle.std.proofs.lemmas.Bool.{cases_eq}
use Rattle.std.proofs.lemmas.List.{length-map}
use Rattle.std.proofs.Math.Nat.{mul-le-mul_right}
use Rattle.mr_values.specs.Sequence.{phase}
use Rattle.mr_values.specs.Timing.{terms, greatest, greatest_below}
use Rattle.mr_values.specs.Value.{AreTaps}
use Rattle.net_graph.specs.declared.cell.Cell.{Cell}
use Rattle.net_graph.specs.declared.cell.Node.{Node}
use Rattle.signed_digit.specs.declared.term_list.Term.{Term}
use Rattle.signed_digit.specs.Terms.{terms_of, term_sum}
use Rattle.signed_digit.proofs.Phase.{length-terms_from}
use Rattle.stage_law.specs.Streams.{Streams, HasRoom, magnitudes}
use Rattle.fir_pieces.specs.Cutting.{IsWideWindow}
use Rattle.fir_pieces.specs.Reading.{ages}
use Rattle.fir_pieces.specs.Sums.{IsReady}
use Rattle.fir_pieces.proofs.AgeLemmas.{length-ages, term_sum-ages, window_narrow}
use Rattle.fir_pieces.proofs.BoundLemmas.{sum_within}
use Rattle.fir_pieces.proofs.GainLemmas.{gain_small}
use Rattle.mr_values.proofs.Logarithm.{ceil_log_power, ceil_log_bound}
use Rattle.mr_values.proofs.TimingLemmas.{below_greatest}
use Rattle.fir_pieces.proofs.ReadingLemmas.{shown_by}
use Rattle.fir_pieces.proofs.ReadyLemmas.{tree_ready}
use Rattle.polyphase_fir.specs.Facts.{depth_of, levels_of}
use Rattle.polyphase_fir.specs.Placed.{at_place, placed_terms}
use Rattle.polyphase_fir.proofs.SmallLemmas.{powers-phase}
use Rattle.polyphase_fir.proofs.TermLemmas.{term_sum-placed, placed_below}

pub magnitudes-phase : (up r : ℕ) (taps : List ℤ) → magnitudes (phase up r taps) ≤ magnitudes taps
magnitudes-phase up r [] = omega arith
magnitudes-phase up zero (c ∷ cs) = let rest = magnitudes-phase up (up - 1) cs in omega arith
magnitudes-phase up (suc r) (c ∷ cs) = let rest = magnitudes-phase up r cs in omega arith

-- ---- how many terms

length-placed : (up r : ℕ) (taps : List ℤ) → length (placed_terms up r taps) ≡ terms (phase up r taps)
length-placed up r taps = length-map (terms_of up r taps) (at_place up) ∙ length-terms_from up r 0 taps

few_terms : (up r : ℕ) (taps : List ℤ) → r < up → length (placed_terms up r taps) ≤ greatest terms up taps
few_terms up r taps h = let bound = below_greatest terms up taps r up h in let same = length-placed up r taps in omega arith

deep_terms : (up r : ℕ) (taps : List ℤ) → r < up → length (placed_terms up r taps) ≤ 2 ^ levels_of taps up
deep_terms up r taps h = let few = few_terms up r taps h in let power = ceil_log_power (greatest terms up taps) in omega arith

pub low_levels : (up : ℕ) (taps : List ℤ) → greatest terms up taps ≤ 2 ^ 18 → levels_of taps up ≤ 18
low_levels up taps h = ceil_log_bound 18 (greatest terms up taps) h

-- ---- the tree of a phase may be built

-- each term is of a register of the window
pub placed_places : (up r : ℕ) (taps : List ℤ) → 1 ≤ up → All (λ (t : Term). t.index < length (ages (depth_of taps up))) (placed_terms up r taps)
placed_places up r taps some = subst (λ (n : ℕ). All (λ (t : Term). t.index < n) (placed_terms up r taps)) (sym (length-ages (depth_of taps up))) (placed_below up r taps some)

pub phase_ready : (streams : Streams) (up r : ℕ) (taps : List ℤ) → r < up → AreTaps taps → greatest terms up taps ≤ 2 ^ 18 → HasRoom streams (magnitudes taps) → (cells : List Cell) (window : List Node) → IsWideWindow streams cells window → depth_of taps up ≡ length window
    → IsReady streams cells window (ages (depth_of taps up)) (placed_terms up r taps) (levels_of taps up)
phase_ready streams up r taps inside are_taps few room cells window wide long =
    tree_ready streams (ages (depth_of taps up)) (placed_terms up r taps) (magnitudes taps) (placed_places up r taps some) (powers-phase up r taps some) (gain_small taps are_taps) (let many = few_terms up r taps inside in omega (arith, many, few)) room within cells window
    (sym long ∙ sym (length-ages (depth_of taps up))) (window_narrow streams (depth_of taps up) long wide) (levels_of taps up) (deep_terms up r taps inside) (let low = low_levels up taps few in omega (arith, low))
  where
    some : 1 ≤ up
    some = omega arith

    within : (f : ℕ → ℤ) (most : ℕ) → ((k : ℕ) → unsigned_abs (f k) ≤ most) → unsigned_abs (term_sum (shown_by (ages (depth_of taps up)) f) (placed_terms up r taps)) ≤ magnitudes taps * most
    within f most h =
        let same = ap unsigned_abs (term_sum-ages (depth_of taps up) f (placed_terms up r taps) (placed_below up r taps some) ∙ term_sum-placed f up r taps inside) in
        let bound = sum_within (phase up r taps) f most h in
        let less : magnitudes (phase up r taps) * most ≤ magnitudes taps * most = mul-le-mul_right most (magnitudes-phase up r taps) in
        omega (arith, same, bound, less)
