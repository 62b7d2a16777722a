-- The nodes of a clipping.
use Rattle.std.proofs.Common.{ℕ, length, ◌-◌, ◌^◌, ◌<◌, ◌≤◌, refl, pos, negsuc}
use Rattle.mr_values.specs.Rounding.{clip_value}
use Rattle.mr_values.specs.Width.{IsLeastWidth, wrap}
use Rattle.mr_values.proofs.ClipLemmas.{clip_rises}
use Rattle.std.proofs.lemmas.Option.{slice_get_within}
use Rattle.net_graph.proofs.NetLemmas.{cell_of_added}
use Rattle.net_graph.specs.declared.cell.Node.{Node}
use Rattle.net_graph.specs.declared.cell.Item.TheVariants.{Constant, Shl, Shr, Mux, Equal}
use Rattle.net_graph.specs.Cells.{NetView}
use Rattle.net_graph.specs.Grow.{Adds}
use Rattle.stage_law.specs.declared.ranges.Range.{Range}
use Rattle.rounding_stage.specs.Bits.{least_of, widened, fits_bit, end_of}
use Rattle.rounding_stage.specs.Made.{Makes}
use Rattle.rounding_stage.specs.Map.{IsMap}
use Rattle.rounding_stage.proofs.ClipBits.{clip_is}
use Rattle.rounding_stage.proofs.MadeLemmas.{IsMade-refl, IsOf-self, IsOf-constant, IsOf-shl, IsOf-shr, IsOf-equal, IsOf-mux, IsMap-made, and_one, still}
use Rattle.rounding_stage.proofs.MapLemmas.{fits_between}

pub fits_makes : {n0 n1 n2 n3 n4 n5 n6 : NetView} {value top zero ones zeros all to : Node} (b wide : ℕ) → Adds n0 n1 top wide (Shr value (b - 1)) → Adds n1 n2 zero 1 (Constant (wrap 1 (pos 0))) → Adds n2 n3 zeros 1 (Equal top zero) → Adds n3 n4 ones 1 (Constant (wrap 1 (negsuc 0)))
    → Adds n4 n5 all 1 (Equal top ones) → Adds n5 n6 to 1 (Mux zeros zeros all) → Makes n0 n6 value to (fits_bit b wide)
fits_makes {n0} {n1} {n2} {n3} {n4} {n5} {n6} {value} {top} {zero} {ones} {zeros} {all} {to} b wide a1 a2 a3 a4 a5 a6 = record {
  within = slice_get_within n6.cells _ _ (cell_of_added a6);
  made = λ start group p. and_one group (and_one group (and_one group (and_one group (and_one group (and_one group p a1 refl refl) a2 refl refl) a3 refl refl) a4 refl refl) a5 refl refl) a6 refl refl;
  of = λ start from h group p o.
      let p1 = and_one group p a1 refl refl in
      let p2 = and_one group p1 a2 refl refl in
      let p3 = and_one group p2 a3 refl refl in
      let p4 = and_one group p3 a4 refl refl in
      let p5 = and_one group p4 a5 refl refl in
      let top2 = still group p1 a2 refl refl (IsOf-shr p a1 o) in
      let zeros3 = IsOf-equal p2 a3 top2 (IsOf-constant {old = start} {from = from} a2) in
      let top4 = still group p3 a4 refl refl (still group p2 a3 refl refl top2) in
      let all5 = IsOf-equal p4 a5 top4 (IsOf-constant {old = start} {from = from} a4) in
      let zeros5 = still group p4 a5 refl refl (still group p3 a4 refl refl zeros3) in
      IsOf-mux p5 a6 zeros5 zeros5 all5;
  keeps = λ start from h other group p o.
      let p1 = and_one group p a1 refl refl in
      let p2 = and_one group p1 a2 refl refl in
      let p3 = and_one group p2 a3 refl refl in
      let p4 = and_one group p3 a4 refl refl in
      let p5 = and_one group p4 a5 refl refl in
      still group p5 a6 refl refl (still group p4 a5 refl refl (still group p3 a4 refl refl (still group p2 a3 refl refl (still group p1 a2 refl refl (still group p a1 refl refl o)))));
}

pub end_makes : {n0 n1 n2 n3 n4 : NetView} {value sign least greatest to : Node} (b wide : ℕ) → Adds n0 n1 sign 1 (Shr value (wide - 1)) → Adds n1 n2 least b (Constant (wrap b (least_of b))) → Adds n2 n3 greatest b (Constant (wrap b (pos (2 ^ (b - 1) - 1)))) → Adds n3 n4 to b (Mux sign least greatest)
    → Makes n0 n4 value to (end_of b wide)
end_makes {n0} {n1} {n2} {n3} {n4} {value} {sign} {least} {greatest} {to} b wide a1 a2 a3 a4 = record {
  within = slice_get_within n4.cells _ _ (cell_of_added a4);
  made = λ start group p. and_one group (and_one group (and_one group (and_one group p a1 refl refl) a2 refl refl) a3 refl refl) a4 refl refl;
  of = λ start from h group p o.
      let p1 = and_one group p a1 refl refl in
      let p2 = and_one group p1 a2 refl refl in
      let p3 = and_one group p2 a3 refl refl in
      let sign3 = still group p2 a3 refl refl (still group p1 a2 refl refl (IsOf-shr p a1 o)) in
      let least3 = still group p2 a3 refl refl (IsOf-constant {old = start} {from = from} a2) in
      IsOf-mux p3 a4 sign3 least3 (IsOf-constant {old = start} {from = from} a3);
  keeps = λ start from h other group p o.
      let p1 = and_one group p a1 refl refl in
      let p2 = and_one group p1 a2 refl refl in
      let p3 = and_one group p2 a3 refl refl in
      still group p3 a4 refl refl (still group p2 a3 refl refl (still group p1 a2 refl refl (still group p a1 refl refl o)));
}

-- the whole: widened, and the end chosen where it doesn't fit
pub clip_makes : {n0 n1 n2 n3 n4 : NetView} {node value fits end to : Node} (range : Range) (b wide width : ℕ) → 1 ≤ n0.group → 1 ≤ b → node.place < length n0.cells → IsLeastWidth range.lo range.hi wide → IsLeastWidth (clip_value b range.lo) (clip_value b range.hi) width
    → Adds n0 n1 value wide (Shl node 0) → Makes n1 n2 value fits (fits_bit b wide) → Makes n2 n3 value end (end_of b wide) → Adds n3 n4 to width (Mux fits value end) → IsMap n0 n4 node range (clip_value b) 0 to
clip_makes {n0} {n1} {n2} {n3} {n4} {node} {value} {fits} {end} {to} range b wide width group h inside whole least a1 f e a4 =
    let p0 = IsMade-refl n0 in
    let p1 = and_one group p0 a1 refl refl in
    let p2 = f.made n0 group p1 in
    let p3 = e.made n0 group p2 in
    let value1 = IsOf-shl p0 a1 (IsOf-self n0 node inside) in
    let value2 = f.keeps n0 node (widened wide) value group p1 value1 in
    let value3 = e.keeps n0 node (widened wide) value group p2 value2 in
    let fits2 = f.of n0 node (widened wide) group p1 value1 in
    let fits3 = e.keeps n0 node (λ v. fits_bit b wide (widened wide v)) fits group p2 fits2 in
    let end3 = e.of n0 node (widened wide) group p2 value2 in
    IsMap-made range (clip_value b) (and_one group p3 a4 refl refl) (IsOf-mux p3 a4 fits3 value3 end3)
    (λ v above below.
    clip_is b wide h whole.positive width v least.positive
    (fits_between width (clip_value b range.lo) (clip_value b v) (clip_value b range.hi) least.holds_low least.holds_high (clip_rises b range.lo v above) (clip_rises b v range.hi below))
    (fits_between wide range.lo v range.hi whole.holds_low whole.holds_high above below))
