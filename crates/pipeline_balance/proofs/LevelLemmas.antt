-- A level of a tree, register by register.
use Rattle.std.proofs.Common.{◌≡◌, ℕ, zero, suc, ◌+◌, ◌-◌, ◌*◌, ◌/◌, ◌<◌, ◌≤◌, List, [], ◌∷◌, ◌++◌, length, length-append, get_or, refl, sym, ap, arith, Some, slice_get, inl, inr, subst}
use Rattle.std.proofs.lemmas.Bool.{cases_lt, lt-ltb, le-ltb}
use Rattle.net_graph.specs.declared.cell.Leaf.{Leaf}
use Rattle.net_graph.specs.declared.name.NameKind.TheVariants.{Register}
use Rattle.net_graph.specs.Cells.{NetView}
use Rattle.net_graph.specs.Grow.{Grows}
use Rattle.net_graph.specs.Count.{one_if, adders_in}
use Rattle.net_graph.proofs.Lists.{slice_get_push_cases}
use Rattle.net_graph.proofs.GrowLemmas.{Grows-refl, Grows-trans}
use Rattle.pipeline_balance.specs.Numbered.{IsRegister, IsCounted, IsTouched, LeavesFree, name_of}
use Rattle.pipeline_balance.specs.Leaves.{segment}
use Rattle.pipeline_balance.specs.Tree.{IsSum, AddsSum, IsLevel, pair_adders}
use Rattle.pipeline_balance.specs.Costs.{SameNamed}
use Rattle.pipeline_balance.specs.Shallow.{HasPlainLeaves, SumsLeaves}
use Rattle.net_graph.specs.Depth.{IsPlain, IsShallow}
use Rattle.net_graph.specs.WellFormed.{IsBound}
use Rattle.net_graph.proofs.DepthLemmas.{IsPlain-later}
use Rattle.pipeline_balance.proofs.ShallowLemmas.{HasPlainLeaves-later, HasPlainLeaves-segment}
use Rattle.pipeline_balance.proofs.CostLemmas.{SameNamed-refl, SameNamed-trans}
use Rattle.pipeline_balance.proofs.ShapeLemmas.{KeepsShapes-refl, KeepsShapes-trans}
use Rattle.pipeline_balance.proofs.NumberedLemmas.{IsRegister-later, LeavesFree-refl, LeavesFree-trans}
use Rattle.pipeline_balance.proofs.PairLemmas.{IsSum-later}

-- ---- adders of a level

pub pair_adders-whole : (count j : ℕ) → j * 2 + 1 < count → pair_adders count j ≡ 1
pair_adders-whole count j less = ap one_if (lt-ltb (j * 2 + 1) count less)

pub pair_adders-alone : (count j : ℕ) → count ≤ j * 2 + 1 → pair_adders count j ≡ 0
pair_adders-alone count j le = ap one_if (le-ltb (j * 2 + 1) count le)

-- how many adders the pairs below this one have
pub adders_below : ℕ → ℕ → ℕ
adders_below count zero = 0
adders_below count (suc j) = adders_below count j + pair_adders count j

adders_full : (count j : ℕ) → j * 2 ≤ count → adders_below count j ≡ j
unfolding adders_below
adders_full count zero h = refl
adders_full count (suc j) h = let before = adders_full count j (omega arith) in let one = pair_adders-whole count j (omega arith) in omega arith

adders_odd : (count j : ℕ) → j * 2 + 1 ≡ count → adders_below count (suc j) ≡ j
unfolding adders_below
adders_odd count j e = let before = adders_full count j (omega arith) in let none = pair_adders-alone count j (omega arith) in omega arith

-- a level has one adder for each leaf that it saves
pub level_adders : (count : ℕ) → adders_below count ((count + 1) / 2) + (count + 1) / 2 ≡ count
level_adders count = elim (cases_lt count ((count + 1) / 2 * 2)) [
  | inl odd ↦
      let j : ℕ = (count + 1) / 2 - 1 in
      let half : suc j ≡ (count + 1) / 2 = omega arith in
      let e : j * 2 + 1 ≡ count = omega arith in
      let last : adders_below count ((count + 1) / 2) ≡ j = subst (λ (n : ℕ). adders_below count n ≡ j) half (adders_odd count j e) in
      omega arith
  | inr even ↦ let whole = adders_full count ((count + 1) / 2) even in omega arith
]

-- ---- a level so far

pub record LevelSoFar (old net : NetView) (leaves : List Leaf) (widths : List ℕ) (first : ℕ) (terms : List Leaf) : Type 0 where
  pub grows : Grows old net
  pub counts : adders_in old.group net.cells ≡ adders_in old.group old.cells + adders_below (length leaves) (length terms)
  pub same_named : SameNamed old.cells net.cells
  pub sums : SumsLeaves old net leaves
  pub plain : IsBound old.cells → HasPlainLeaves net.cells old.group terms
  pub each : (j : ℕ) (term : Leaf) → slice_get terms j ≡ Some term → IsSum net.cells (segment 1 j leaves) (get_or widths (first + j) 0) term
  pub named : (count : ℕ) → IsCounted old.cells old.group Register count → (j : ℕ) (term : Leaf) → slice_get terms j ≡ Some term → IsRegister net.cells term.node.place old.group (name_of old.group Register (count + j)) (get_or widths (first + j) 0)
  pub counted : (count : ℕ) → IsCounted old.cells old.group Register count → IsCounted net.cells old.group Register (count + length terms)
  pub names : LeavesFree old.cells net.cells (IsTouched old.group Register)

pub LevelSoFar-start : (net : NetView) (leaves : List Leaf) (widths : List ℕ) (first : ℕ) → LevelSoFar net net leaves widths first []
unfolding adders_below
LevelSoFar-start net leaves widths first = record {
  grows = Grows-refl net;
  counts = omega arith;
  same_named = SameNamed-refl net.cells;
  sums = record { shallow = λ s plain. s; linear = KeepsShapes-refl net.cells };
  plain = λ bound. record { each = λ j term is. absurd (cc) };
  each = λ j term is. absurd (cc);
  named = λ count c j term is. absurd (cc);
  counted = λ count c. let same : count ≡ count + 0 = omega arith in subst (λ (n : ℕ). IsCounted net.cells net.group Register n) same c;
  names = LeavesFree-refl net.cells (IsTouched net.group Register);
}

pub LevelSoFar-step : {old net new : NetView} {leaves : List Leaf} {widths : List ℕ} {first : ℕ} {terms : List Leaf} {term : Leaf} → LevelSoFar old net leaves widths first terms
    → AddsSum net new (segment 1 (length terms) leaves) (get_or widths (first + length terms) 0) (pair_adders (length leaves) (length terms)) term → LevelSoFar old new leaves widths first (terms ++ term ∷ [])
unfolding adders_below
LevelSoFar-step {old} {net} {new} {leaves} {widths} {first} {terms} {term} p a =
    let e = a.grows.extends in
    let count_is : length (terms ++ term ∷ []) ≡ length terms + 1 = length-append terms (term ∷ []) in
    let next : suc (length terms) ≡ length (terms ++ term ∷ []) = omega (arith, count_is) in
    let same = p.grows.group in
    record {
      grows = Grows-trans p.grows a.grows;
      counts =
          let now : adders_in old.group new.cells ≡ adders_in old.group net.cells + pair_adders (length leaves) (length terms) = subst (λ (g : ℕ). adders_in g new.cells ≡ adders_in g net.cells + pair_adders (length leaves) (length terms)) same a.counts in
          let before = p.counts in
          let sum : adders_below (length leaves) (suc (length terms)) ≡ adders_below (length leaves) (length terms) + pair_adders (length leaves) (length terms) = refl in
          let whole : adders_in old.group new.cells ≡ adders_in old.group old.cells + adders_below (length leaves) (suc (length terms)) = omega (arith, now, before, sum) in
          subst (λ (n : ℕ). adders_in old.group new.cells ≡ adders_in old.group old.cells + adders_below (length leaves) n) next whole;
      same_named = SameNamed-trans p.same_named a.same_named;
      sums = record {
        shallow = λ s plain.
            let s1 = p.sums.shallow s plain in
            let plain1 = HasPlainLeaves-later old.cells net.cells old.group leaves s.bound p.grows.extends plain in
            let pair = HasPlainLeaves-segment net.cells old.group 1 (length terms) leaves plain1 in
            subst (λ (g : ℕ). IsShallow new.cells g) same
            (a.sums.shallow (subst (λ (g : ℕ). IsShallow net.cells g) (sym same) s1) (subst (λ (g : ℕ). HasPlainLeaves net.cells g (segment 1 (length terms) leaves)) (sym same) pair));
        linear = KeepsShapes-trans p.sums.linear a.sums.linear;
      };
      plain = λ bound. record {
        each = λ j found is. elim (slice_get_push_cases terms term j found is) [
          | inl before ↦ IsPlain-later net.cells new.cells old.group (p.grows.bound bound) e found.node.place ((p.plain bound).each j found before)
          | inr last ↦ rw last.1 (subst (λ (g : ℕ). IsPlain new.cells g term.node.place) same a.plain)
        ];
      };
      each = λ j found is. elim (slice_get_push_cases terms term j found is) [
        | inl before ↦ IsSum-later (p.each j found before) e
        | inr last ↦ rw (last.0, last.1) a.sum
      ];
      named = λ count c j found is. elim (slice_get_push_cases terms term j found is) [
        | inl before ↦ IsRegister-later e (p.named count c j found before)
        | inr last ↦
            let here : IsRegister new.cells term.node.place old.group (name_of old.group Register (count + length terms)) (get_or widths (first + length terms) 0) =
            subst (λ (g : ℕ). IsRegister new.cells term.node.place g (name_of g Register (count + length terms)) (get_or widths (first + length terms) 0)) same
            (a.named (count + length terms) (subst (λ (g : ℕ). IsCounted net.cells g Register (count + length terms)) (sym same) (p.counted count c))) in
            rw (last.0, last.1) here
      ];
      counted = λ count c.
          let here : IsCounted new.cells old.group Register (suc (count + length terms)) =
          subst (λ (g : ℕ). IsCounted new.cells g Register (suc (count + length terms))) same
          (a.counted (count + length terms) (subst (λ (g : ℕ). IsCounted net.cells g Register (count + length terms)) (sym same) (p.counted count c))) in
          let more : suc (count + length terms) ≡ count + length (terms ++ term ∷ []) = omega (arith, count_is) in
          subst (λ (n : ℕ). IsCounted new.cells old.group Register n) more here;
      names = LeavesFree-trans old.cells net.cells new.cells (IsTouched old.group Register) (IsTouched net.group Register) (IsTouched old.group Register) (λ name h. h) (λ name h. subst (λ (g : ℕ). IsTouched g Register name) same h) p.names a.names;
    }

-- the level is whole
pub LevelSoFar-level : {old net : NetView} {leaves : List Leaf} {widths : List ℕ} {first : ℕ} {terms : List Leaf} → LevelSoFar old net leaves widths first terms → length terms ≡ (length leaves + 1) / 2 → IsLevel old net leaves widths first terms
LevelSoFar-level {old} {net} {leaves} {widths} {first} {terms} p many = record {
  grows = p.grows;
  many = many;
  counts =
      let whole : adders_below (length leaves) (length terms) + length terms ≡ length leaves = subst (λ (n : ℕ). adders_below (length leaves) n + n ≡ length leaves) (sym many) (level_adders (length leaves)) in
      let c = p.counts in
      omega arith;
  same_named = p.same_named;
  sums = p.sums;
  plain = p.plain;
  each = p.each;
  named = p.named;
  counted = p.counted;
  names = p.names;
}
