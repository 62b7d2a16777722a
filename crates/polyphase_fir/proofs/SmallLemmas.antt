-- The forms of a filter's registers are small.
use Rattle.std.proofs.Common.{ℕ, zero, suc, ◌+◌, ◌*◌, ◌≤◌, max, List, arith, ℤ, ap, Some, slice_get, ◌≡◌}
use Rattle.net_graph.specs.declared.name.NameKind.TheVariants.{Register, Window}
use Rattle.stage_law.specs.Registers.{HeldSum, StageRegister}
use Rattle.stage_law.specs.Streams.{magnitudes}
use Rattle.fir_pieces.specs.Listed.{numbered, window_sums, tree_sums}
use Rattle.fir_pieces.specs.Placed.{powers}
use Rattle.fir_pieces.specs.Reading.{ages, spread}
use Rattle.fir_pieces.proofs.AgeLemmas.{spread-ages}
use Rattle.fir_pieces.proofs.ListLemmas.{each_numbered, each_appended}
use Rattle.fir_pieces.proofs.SmallLemmas.{AreFormsWithin, IsFormWithin, small_single, small_trees, small_windows}
use Rattle.polyphase_fir.specs.Facts.{depth_of, levels_of, phase_sums, registers_of}
use Rattle.polyphase_fir.specs.Placed.{placed_terms}
use Rattle.polyphase_fir.proofs.TermLemmas.{placed_below, powers-placed}

-- the powers of a phase's terms over the window
pub powers-phase : (up r : ℕ) (taps : List ℤ) → 1 ≤ up → powers (spread (ages (depth_of taps up)) (placed_terms up r taps)) ≤ 2 * magnitudes taps
powers-phase up r taps some = let same = ap powers (spread-ages (depth_of taps up) (placed_terms up r taps) (placed_below up r taps some)) in let bound = powers-placed up r taps in omega (arith, same, bound)

small_phases : (most up : ℕ) (taps : List ℤ) (levels count : ℕ) → 1 ≤ up → 2 * magnitudes taps ≤ most → AreFormsWithin most (phase_sums up taps levels count)
small_phases most up taps levels zero some few k s is = absurd (cc)
small_phases most up taps levels (suc r) some few k s is =
    each_appended (λ (h : HeldSum). magnitudes h.form ≤ most) (phase_sums up taps levels r) (tree_sums (ages (depth_of taps up)) 0 (placed_terms up r taps) levels)
    (small_phases most up taps levels r some few) (small_trees most (ages (depth_of taps up)) 0 (placed_terms up r taps) levels (let bound = powers-phase up r taps some in omega (arith, bound, few))) k s is

pub registers_small : (taps : List ℤ) (up : ℕ) → 1 ≤ up → (i j : ℕ) (r : StageRegister) (s : HeldSum) → slice_get (registers_of taps up) i ≡ Some r → slice_get r.sums j ≡ Some s → magnitudes s.form ≤ max 1 (2 * magnitudes taps)
registers_small taps up some i j r s there at =
    let most = max 1 (2 * magnitudes taps) in
    let windows = window_sums (depth_of taps up) in
    let trees = phase_sums up taps (levels_of taps up) up in
    each_appended (IsFormWithin most) (numbered Window 0 windows) (numbered Register 0 trees)
    (each_numbered (IsFormWithin most) Window 0 windows (λ k h is. small_single most Window (0 + k) h (small_windows most (depth_of taps up) (omega arith) k h is)))
    (each_numbered (IsFormWithin most) Register 0 trees (λ k h is. small_single most Register (0 + k) h (small_phases most up taps (levels_of taps up) up some (omega arith) k h is)))
    i r there j s at
