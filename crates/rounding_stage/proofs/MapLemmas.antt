-- What the nodes of a rounding are worth.
use Rattle.std.proofs.Common.{◌≡◌, ℕ, ◌+◌, ◌^◌, ◌<◌, ◌≤◌, refl, sym, ◌∙◌, ap, arith, subst, ℤ, pos, negsuc, ◌+ℤ◌, ◌≤ℤ◌, false}
use Rattle.std.proofs.lemmas.Int.{ints}
use Rattle.std.proofs.lemmas.Nat.{pow_below, pow_pos}
use mir.Val.{SFits}
use mir.Syntax.{w128}
use Rattle.mr_values.specs.Width.{FitsWidth, IsLeastWidth, floor_quotient, wrap}
use Rattle.mr_values.proofs.WidthLemmas.{wrap_fits}
use Rattle.net_graph.specs.declared.cell.Node.{Node}
use Rattle.net_graph.specs.declared.cell.Item.TheVariants.{Constant, Add, Shr}
use Rattle.net_graph.specs.Cells.{NetView}
use Rattle.net_graph.specs.Cut.{cut_all}
use Rattle.net_graph.specs.Grow.{Adds}
use Rattle.net_graph.specs.Count.{adders_in}
use Rattle.net_graph.proofs.CountLemmas.{adders_plain, adders_more}
use Rattle.net_graph.proofs.CutLemmas.{IsCut-all}
use Rattle.net_graph.proofs.GrowLemmas.{Grows-trans}
use Rattle.net_graph.proofs.NetLemmas.{cell_of_added}
use Rattle.net_graph.proofs.DepthLemmas.{IsPlain-later, IsShallow-adds}
use Rattle.net_graph.specs.Depth.{IsPlain, begins, IsShallow}
use Rattle.pipeline_balance.specs.Tree.{AddsNode}
use Rattle.pipeline_balance.proofs.CostLemmas.{SameNamed-trans}
use Rattle.pipeline_balance.proofs.NumberedLemmas.{LeavesFree-trans}
use Rattle.pipeline_balance.proofs.PairLemmas.{AddsNode-adds}
use Rattle.pipeline_balance.proofs.ShallowLemmas.{shallow_same}
use Rattle.plan_check.proofs.Narrow.{div_mono}
use Rattle.stage_law.specs.declared.ranges.Range.{Range}
use Rattle.rounding_stage.specs.Map.{IsMap}

-- a power of two that is small enough is a number of the machine
pub fits_in : (k : ℕ) (z : ℤ) → z ≡ pos (2 ^ k) → k < 127 → SFits w128 z
fits_in k z e h = let b = pow_below k 127 h in omega (arith, ints, e)

pub fits_between : (w : ℕ) (lo v hi : ℤ) → FitsWidth w lo → FitsWidth w hi → lo ≤ℤ v → v ≤ℤ hi → FitsWidth w v
fits_between w lo v hi p q a b = record { low = omega (arith, ints, p.low, a); high = omega (arith, ints, q.high, b) }

floor_mono : (a b : ℤ) (d : ℕ) → 0 < d → a ≤ℤ b → floor_quotient a d ≤ℤ floor_quotient b d
floor_mono (pos a) (pos b) d some h = let less : a ≤ b = omega (arith, ints, h) in let l = div_mono a b d some less in omega (arith, ints)
floor_mono (pos a) (negsuc b) d some h = absurd (omega (arith, ints, h))
floor_mono (negsuc a) (pos b) d some h = omega (arith, ints)
floor_mono (negsuc a) (negsuc b) d some h = let less : b ≤ a = omega (arith, ints, h) in let l = div_mono b a d some less in omega (arith, ints)

plus_mono : (a b c : ℤ) → a ≤ℤ b → (a +ℤ c) ≤ℤ (b +ℤ c)
plus_mono a b c h = omega (arith, ints)

pub IsMap-floor : {old new : NetView} {from to : Node} {range : Range} {shift w : ℕ} → 1 ≤ old.group → Adds old new to w (Shr from shift) → IsLeastWidth (floor_quotient range.lo (2 ^ shift)) (floor_quotient range.hi (2 ^ shift)) w → IsMap old new from range (λ v. floor_quotient v (2 ^ shift)) 0 to
IsMap-floor {old} {new} {from} {to} {range} {shift} {w} data_group a least =
    let node : AddsNode old new 0 to (λ cut v t. cut false w (floor_quotient (v t from.place) (2 ^ shift))) =
    AddsNode-adds 0 (λ cut v t. cut false w (floor_quotient (v t from.place) (2 ^ shift))) data_group a refl (adders_plain old.group a refl ∙ omega arith) (λ cut law x v r o t. o t) in
    record {
      grows = node.grows;
      counts = node.counts;
      same_named = node.same_named;
      names = node.names;
      shallow = record { shallow = λ s plain. shallow_same old.group node.grows (adders_plain old.group a refl) s };
      within = node.computes.within;
      maps = λ x v r t low high.
          node.computes.holds cut_all IsCut-all x v r t
          ∙ wrap_fits w (floor_quotient (v t from.place) (2 ^ shift)) least.positive
          (fits_between w _ _ _ least.holds_low least.holds_high (floor_mono range.lo (v t from.place) (2 ^ shift) (pow_pos shift) low) (floor_mono (v t from.place) range.hi (2 ^ shift) (pow_pos shift) high));
    }

pub IsMap-sum : {old mid new : NetView} {from constant to : Node} {range : Range} {half : ℤ} {w u : ℕ} → 1 ≤ old.group → Adds old mid constant u (Constant (wrap u half)) → Adds mid new to w (Add from constant) → IsLeastWidth half half u → IsLeastWidth (range.lo +ℤ half) (range.hi +ℤ half) w → IsMap old new from range (λ v. v +ℤ half) 1 to
IsMap-sum {old} {mid} {new} {from} {constant} {to} {range} {half} {w} {u} data_group a b narrow least =
    let first : AddsNode old mid 0 constant (λ cut v t. cut false u (wrap u half)) =
    AddsNode-adds 0 (λ cut v t. cut false u (wrap u half)) data_group a refl (adders_plain old.group a refl ∙ omega arith) (λ cut law x v r o t. o t) in
    let second : AddsNode mid new 1 to (λ cut v t. cut false w (v t from.place +ℤ v t constant.place)) =
    AddsNode-adds 1 (λ cut v t. cut false w (v t from.place +ℤ v t constant.place)) (subst (λ (g : ℕ). 1 ≤ g) (sym a.group) data_group) b refl (adders_more mid.group b refl refl) (λ cut law x v r o t. o t) in
    record {
      grows = Grows-trans first.grows second.grows;
      counts = adders_more old.group b refl a.group ∙ ap (λ (n : ℕ). n + 1) (adders_plain old.group a refl);
      same_named = SameNamed-trans first.same_named second.same_named;
      names = LeavesFree-trans old.cells mid.cells new.cells (λ name. ⊥) (λ name. ⊥) (λ name. ⊥) (λ name h. h) (λ name h. h) first.names second.names;
      shallow = record {
        shallow = λ s plain.
            let s1 : IsShallow mid.cells mid.group = subst (λ (g : ℕ). IsShallow mid.cells g) (sym a.group) (shallow_same old.group first.grows (adders_plain old.group a refl) s) in
            let left : IsPlain mid.cells mid.group from.place = subst (λ (g : ℕ). IsPlain mid.cells g from.place) (sym a.group) (IsPlain-later old.cells mid.cells old.group s.bound first.grows.extends from.place plain) in
            subst (λ (g : ℕ). IsShallow new.cells g) a.group (IsShallow-adds b s1 (left, begins constant.place _ (cell_of_added a) refl));
      };
      within = second.computes.within;
      maps = λ x v r t low high.
          let held : v t constant.place ≡ half = first.computes.holds cut_all IsCut-all x v (second.grows.extends.runs cut_all IsCut-all x v r) t ∙ ap (wrap u) (wrap_fits u half narrow.positive narrow.holds_low) ∙ wrap_fits u half narrow.positive narrow.holds_low in
          second.computes.holds cut_all IsCut-all x v r t
          ∙ ap (λ (n : ℤ). wrap w (v t from.place +ℤ n)) held
          ∙ wrap_fits w (v t from.place +ℤ half) least.positive
          (fits_between w _ _ _ least.holds_low least.holds_high (plus_mono range.lo (v t from.place) half low) (plus_mono (v t from.place) range.hi half high));
    }

-- a function of a function
pub IsMap-then : {old mid new : NetView} {from sum to : Node} {range : Range} {half : ℤ} {g : ℤ → ℤ} → IsMap old mid from range (λ v. v +ℤ half) 1 sum → IsMap mid new sum (record { lo = range.lo +ℤ half; hi = range.hi +ℤ half }) g 0 to → IsMap old new from range (λ v. g (v +ℤ half)) 1 to
IsMap-then {old} {mid} {new} {from} {sum} {to} {range} {half} {g} p q = record {
  grows = Grows-trans p.grows q.grows;
  counts =
      let second : adders_in old.group new.cells ≡ adders_in old.group mid.cells + 0 = subst (λ (group : ℕ). adders_in group new.cells ≡ adders_in group mid.cells + 0) p.grows.group q.counts in
      let first = p.counts in
      omega arith;
  same_named = SameNamed-trans p.same_named q.same_named;
  names = LeavesFree-trans old.cells mid.cells new.cells (λ name. ⊥) (λ name. ⊥) (λ name. ⊥) (λ name h. h) (λ name h. h) p.names q.names;
  shallow = record {
    shallow = λ s plain.
        let second : adders_in old.group new.cells ≡ adders_in old.group mid.cells + 0 = subst (λ (group : ℕ). adders_in group new.cells ≡ adders_in group mid.cells + 0) p.grows.group q.counts in
        shallow_same old.group q.grows (second ∙ omega arith) (p.shallow.shallow s plain);
  };
  within = q.within;
  maps = λ x v r t low high.
      let is = p.maps x v (q.grows.extends.runs cut_all IsCut-all x v r) t low high in
      q.maps x v r t
      (subst (λ (z : ℤ). (range.lo +ℤ half) ≤ℤ z) (sym is) (plus_mono range.lo (v t from.place) half low))
      (subst (λ (z : ℤ). z ≤ℤ (range.hi +ℤ half)) (sym is) (plus_mono (v t from.place) range.hi half high))
      ∙ ap g is;
}
