-- The terms of a phase by the places of a window.
use Rattle.std.proofs.Common.{◌≡◌, ℕ, ◌+◌, ◌-◌, ◌*◌, ◌/◌, ◌^◌, ◌<◌, ◌≤◌, List, [], ◌∷◌, length, map, refl, ◌∙◌, ap, arith, Bool, false, cond, ℤ, ◌+ℤ◌, ◌*ℤ◌, All, suc}
use Rattle.std.proofs.lemmas.List.{length-map}
use Rattle.std.proofs.lemmas.List.Elements.{All-map, All-weaker}
use Rattle.std.proofs.Math.Nat.{le-div_iff_mul-le, div-mul-le_self}
use Rattle.std.proofs.lemmas.Nat.{div-mul-add}
use Rattle.mr_values.specs.Digit.{with_sign}
use Rattle.mr_values.specs.Sequence.{weighted_sum, phase}
use Rattle.mr_values.proofs.Polyphase.{weighted_sum-same}
use Rattle.signed_digit.specs.declared.term_list.Term.{Term}
use Rattle.signed_digit.specs.Terms.{term_sum, terms_of}
use Rattle.signed_digit.proofs.Sum.{term_sum-terms_of}
use Rattle.stage_law.specs.Streams.{magnitudes}
use Rattle.fir_pieces.specs.Placed.{all_minus, adders_for, powers, term_adders}
use Rattle.fir_pieces.proofs.TermLemmas.{powers-terms, terms_below}
use Rattle.polyphase_fir.specs.Facts.{depth_of}
use Rattle.polyphase_fir.specs.Placed.{at_place, placed_terms}

-- ---- sums

term_sum-map : (up : ℕ) (f : ℕ → ℤ) (ts : List Term) → term_sum f (map (at_place up) ts) ≡ term_sum (λ i. f (i / up)) ts
term_sum-map up f [] = refl
term_sum-map up f (t ∷ ts) = ap (λ (z : ℤ). with_sign t.negative (2 ^ t.place) *ℤ f (t.index / up) +ℤ z) (term_sum-map up f ts)

-- the tap h[r + k * up] weighs place k
place_of : (up r k : ℕ) → r < up → (r + k * up) / up ≡ k
place_of up r k h = let turned : r + k * up ≡ k * up + r = omega arith in ap (λ (n : ℕ). n / up) turned ∙ div-mul-add k up r h

-- the terms of a phase sum to its taps
pub term_sum-placed : (f : ℕ → ℤ) (up r : ℕ) (taps : List ℤ) → r < up → term_sum f (placed_terms up r taps) ≡ weighted_sum (phase up r taps) f
term_sum-placed f up r taps h =
    term_sum-map up f (terms_of up r taps) ∙ term_sum-terms_of (λ i. f (i / up)) up r taps (omega arith)
    ∙ weighted_sum-same (phase up r taps) (λ k. f ((r + k * up) / up)) f (λ k. ap f (place_of up r k h))

-- ---- places

below_ceil : (i n d : ℕ) → 1 ≤ d → i < n → i / d < (n + (d - 1)) / d
below_ceil i n d some h =
    let down = div-mul-le_self i d in
    let up : suc (i / d) * d ≤ n + (d - 1) = omega arith in
    (le-div_iff_mul-le {k = d} {x = suc (i / d)} {y = n + (d - 1)} some).1 up

-- each term weighs a place of the window
pub placed_below : (up r : ℕ) (taps : List ℤ) → 1 ≤ up → All (λ (t : Term). t.index < depth_of taps up) (placed_terms up r taps)
placed_below up r taps some =
    All-map (λ (t : Term). t.index < depth_of taps up) (at_place up) (terms_of up r taps)
    (All-weaker (λ (t : Term). t.index < length taps) (λ (t : Term). t.index / up < depth_of taps up) (λ t h. below_ceil t.index (length taps) up some h) (terms_of up r taps) (terms_below up r taps))

-- ---- powers

powers-map : (up : ℕ) (ts : List Term) → powers (map (at_place up) ts) ≡ powers ts
powers-map up [] = refl
powers-map up (t ∷ ts) = ap (λ (n : ℕ). 2 ^ t.place + n) (powers-map up ts)

pub powers-placed : (up r : ℕ) (taps : List ℤ) → powers (placed_terms up r taps) ≤ 2 * magnitudes taps
powers-placed up r taps = let same = powers-map up (terms_of up r taps) in let bound = powers-terms up r taps in omega arith

-- ---- signs and adders

all_minus-map : (up : ℕ) (ts : List Term) → all_minus (map (at_place up) ts) ≡ all_minus ts
all_minus-map up [] = refl
all_minus-map up (t ∷ ts) = ap (λ (b : Bool). cond t.negative b false) (all_minus-map up ts)

pub term_adders-placed : (up r : ℕ) (taps : List ℤ) → term_adders (placed_terms up r taps) ≡ term_adders (terms_of up r taps)
term_adders-placed up r taps =
    let ts = terms_of up r taps in
    ap (λ (n : ℕ). adders_for n (all_minus (map (at_place up) ts))) (length-map ts (at_place up)) ∙ ap (adders_for (length ts)) (all_minus-map up ts)
