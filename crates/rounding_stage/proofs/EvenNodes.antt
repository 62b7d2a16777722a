-- The nodes of a rounding to even.
use Rattle.std.proofs.Common.{◌≡◌, ℕ, length, ◌-◌, ◌^◌, ◌<◌, ◌≤◌, refl, subst}
use Rattle.mr_values.specs.Rounding.{half_even}
use Rattle.mr_values.specs.Width.{FitsWidth, IsLeastWidth, wrap, floor_quotient}
use Rattle.mr_values.proofs.HalfEvenLemmas.{half_even_rises}
use Rattle.std.proofs.lemmas.Option.{slice_get_within}
use Rattle.net_graph.proofs.NetLemmas.{cell_of_added}
use Rattle.net_graph.specs.declared.cell.Node.{Node}
use Rattle.net_graph.specs.declared.cell.Item.TheVariants.{Constant, Sub, Shl, Shr, Mux, Equal, Bits}
use Rattle.net_graph.specs.Cells.{NetView}
use Rattle.net_graph.specs.Grow.{Adds}
use Rattle.net_graph.specs.Run.{selected}
use Rattle.stage_law.specs.declared.ranges.Range.{Range}
use Rattle.rounding_stage.specs.Bits.{least_of, widened, raising_bit}
use Rattle.rounding_stage.specs.Made.{IsOf, Makes}
use Rattle.rounding_stage.specs.Map.{IsMap}
use Rattle.rounding_stage.proofs.EvenLemmas.{even_is, quotient_within}
use Rattle.rounding_stage.proofs.MadeLemmas.{IsMade-refl, IsOf-self, IsOf-constant, IsOf-shl, IsOf-shr, IsOf-bits, IsOf-equal, IsOf-mux, IsMap-sub, and_one, still}
use Rattle.rounding_stage.proofs.MapLemmas.{fits_between}

pub raising_makes : {n0 n1 n2 n3 n4 n5 n6 : NetView} {value low half tie odd above up : Node} (s w one two : ℕ) → w ≡ s → one ≡ 1 → two ≡ 1 → Adds n0 n1 low w (Bits value (s - 1) 0) → Adds n1 n2 half s (Constant (wrap s (least_of s))) → Adds n2 n3 tie 1 (Equal low half)
    → Adds n3 n4 odd one (Bits value s s) → Adds n4 n5 above two (Bits value (s - 1) (s - 1)) → Adds n5 n6 up 1 (Mux tie odd above) → Makes n0 n6 value up (raising_bit s)
raising_makes {n0} {n1} {n2} {n3} {n4} {n5} {n6} {value} {low} {half} {tie} {odd} {above} {up} s w one two e f g a1 a2 a3 a4 a5 a6 = record {
  within = slice_get_within n6.cells _ _ (cell_of_added a6);
  made = λ start group p. and_one group (and_one group (and_one group (and_one group (and_one group (and_one group p a1 refl refl) a2 refl refl) a3 refl refl) a4 refl refl) a5 refl refl) a6 refl refl;
  of = λ start from h group p o.
      let p1 = and_one group p a1 refl refl in
      let p2 = and_one group p1 a2 refl refl in
      let p3 = and_one group p2 a3 refl refl in
      let p4 = and_one group p3 a4 refl refl in
      let p5 = and_one group p4 a5 refl refl in
      let low1 : IsOf start n1.cells from low (λ v. wrap s (selected (h v) (s - 1) 0)) = subst (λ (k : ℕ). IsOf start n1.cells from low (λ v. wrap k (selected (h v) (s - 1) 0))) e (IsOf-bits p a1 o) in
      let low2 = still group p1 a2 refl refl low1 in
      let tie3 = IsOf-equal p2 a3 low2 (IsOf-constant {old = start} {from = from} a2) in
      let value3 = still group p2 a3 refl refl (still group p1 a2 refl refl (still group p a1 refl refl o)) in
      let odd4 : IsOf start n4.cells from odd (λ v. wrap 1 (selected (h v) s s)) = subst (λ (k : ℕ). IsOf start n4.cells from odd (λ v. wrap k (selected (h v) s s))) f (IsOf-bits p3 a4 value3) in
      let value4 = still group p3 a4 refl refl value3 in
      let above5 : IsOf start n5.cells from above (λ v. wrap 1 (selected (h v) (s - 1) (s - 1))) = subst (λ (k : ℕ). IsOf start n5.cells from above (λ v. wrap k (selected (h v) (s - 1) (s - 1)))) g (IsOf-bits p4 a5 value4) in
      IsOf-mux p5 a6 (still group p4 a5 refl refl (still group p3 a4 refl refl tie3)) (still group p4 a5 refl refl odd4) above5;
  keeps = λ start from h other group p o.
      let p1 = and_one group p a1 refl refl in
      let p2 = and_one group p1 a2 refl refl in
      let p3 = and_one group p2 a3 refl refl in
      let p4 = and_one group p3 a4 refl refl in
      let p5 = and_one group p4 a5 refl refl in
      still group p5 a6 refl refl (still group p4 a5 refl refl (still group p3 a4 refl refl (still group p2 a3 refl refl (still group p1 a2 refl refl (still group p a1 refl refl o)))));
}

-- the whole: widened, divided, and raised by the bit
pub even_makes : {n0 n1 n2 n3 n4 : NetView} {node value quotient up to : Node} (range : Range) (s wide width : ℕ) → 1 ≤ n0.group → 1 ≤ s → node.place < length n0.cells → 1 ≤ wide → FitsWidth wide range.lo → FitsWidth wide range.hi
    → IsLeastWidth (half_even s range.lo) (half_even s range.hi) width → Adds n0 n1 value wide (Shl node 0) → Adds n1 n2 quotient wide (Shr value s) → Makes n2 n3 value up (raising_bit s) → Adds n3 n4 to width (Sub quotient up) → IsMap n0 n4 node range (half_even s) 1 to
even_makes {n0} {n1} {n2} {n3} {n4} {node} {value} {quotient} {up} {to} range s wide width group h inside some low high least a1 a2 m a4 =
    let p0 = IsMade-refl n0 in
    let p1 = and_one group p0 a1 refl refl in
    let p2 = and_one group p1 a2 refl refl in
    let p3 = m.made n0 group p2 in
    let value1 = IsOf-shl p0 a1 (IsOf-self n0 node inside) in
    let quotient2 = IsOf-shr p1 a2 value1 in
    let value2 = still group p1 a2 refl refl value1 in
    let up3 = m.of n0 node (widened wide) group p2 value2 in
    let quotient3 = m.keeps n0 node (λ v. wrap wide (floor_quotient (widened wide v) (2 ^ s))) quotient group p2 quotient2 in
    IsMap-sub range (half_even s) group p3 quotient3 up3 a4
    (λ v above below.
    let fit = fits_between wide range.lo v range.hi low high above below in
    even_is s wide width v h some least.positive fit (quotient_within wide s v fit)
    (fits_between width (half_even s range.lo) (half_even s v) (half_even s range.hi) least.holds_low least.holds_high (half_even_rises s range.lo v h above) (half_even_rises s v range.hi h below)))
