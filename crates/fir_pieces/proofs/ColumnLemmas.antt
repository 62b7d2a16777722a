-- Registers with several sums.
use Rattle.std.proofs.Common.{◌≡◌, ℕ, zero, suc, ◌<◌, List, [], ◌∷◌, ◌++◌, length, map, max, refl, sym, ◌∙◌, ap, arith, inl, inr, subst, get_or, Some, slice_get}
use Rattle.std.proofs.lemmas.List.{map-append, length-map}
use Rattle.std.proofs.lemmas.Option.{slice_get_within}
use Rattle.net_graph.proofs.Lists.{slice_get_push_cases}
use Rattle.net_graph.specs.WellFormed.{IsWidth}
use Rattle.stage_law.specs.Range.{IsRange}
use Rattle.stage_law.specs.Registers.{HeldSum}
use Rattle.stage_law.specs.Streams.{Streams}
use Rattle.stage_law.specs.Weights.{weights_of}
use Rattle.fir_pieces.specs.declared.held.Held.{Held}
use Rattle.fir_pieces.specs.declared.held_sums.HeldSums.{HeldSums}
use Rattle.fir_pieces.specs.Columns.{parts_of, with_more, AreAllHeld}
use Rattle.fir_pieces.specs.Held.{held_sum, AreHeld}
use Rattle.fir_pieces.specs.PhaseSums.{IsSumsWidth}
use Rattle.fir_pieces.specs.Widest.{widest}
use Rattle.fir_pieces.proofs.PhaseWidthLemmas.{IsSumsWidth-none, IsSumsWidth-more}
use Rattle.fir_pieces.proofs.ListLemmas.{each_appended}
use Rattle.fir_pieces.proofs.WidthsLemmas.{slice_get_some, slice_get_mapped, get_or-map}

-- ---- widths

pub widest-push : (held : List Held) (own : Held) → widest (held ++ own ∷ []) ≡ max (widest held) own.width
widest-push [] own = omega arith
widest-push (first ∷ held) own = let rest = widest-push held own in omega (arith, rest)

-- the greatest width is the least that holds all sums
pub widest_least : (streams : Streams) (held : List Held) → ((j : ℕ) (own : Held) → slice_get held j ≡ Some own → IsRange streams (weights_of own.sum) own.class own.range) → IsSumsWidth streams (map held_sum held) (widest held)
widest_least streams [] is = IsSumsWidth-none streams
widest_least streams (own ∷ held) is = IsSumsWidth-more streams (map held_sum held) (widest held) (widest_least streams held (λ j. is (suc j))) (held_sum own) own.range own.width (is 0 own refl) own.least

pub widest_width : (held : List Held) → IsWidth (widest held)
widest_width [] = (omega arith, omega arith)
widest_width (own ∷ held) = let rest = widest_width held in let some = rest.0 in let most = rest.1 in let small = own.least.most in (omega (arith, some), omega (arith, most, small))

pub widths_are : (held : List HeldSums) → map (λ (own : HeldSums). own.width) held ≡ map widest (parts_of held)
widths_are [] = refl
widths_are (own ∷ held) = ap (λ (n : ℕ). n ∷ map (λ (one : HeldSums). one.width) held) own.is_widest ∙ ap (λ (ns : List ℕ). widest own.sums.items ∷ ns) (widths_are held)

-- each of the widths is one
pub widest_all : (all : List (List Held)) (k : ℕ) → k < length (map widest all) → IsWidth (get_or (map widest all) k 0)
widest_all all k h =
    let many = length-map all widest in
    let own = slice_get_some all k (omega (arith, h, many)) in
    subst IsWidth (sym (get_or-map widest all k own.0 own.1)) (widest_width own.0)

pub held_width : (held : List Held) (k : ℕ) → k < length (map (λ (own : Held). own.width) held) → IsWidth (get_or (map (λ (own : Held). own.width) held) k 0)
held_width held k h =
    let many = length-map held (λ (own : Held). own.width) in
    let own = slice_get_some held k (omega (arith, h, many)) in
    subst IsWidth (sym (get_or-map (λ (one : Held). one.width) held k own.0 own.1)) (own.0.least.positive, own.0.least.most)

-- ---- phase by phase

pub length-with_more : {X : Type 0} (all : List (List X)) (more : List X) → length (with_more all more) ≡ length more
length-with_more all [] = refl
length-with_more [] (x ∷ more) = ap suc (length-with_more [] more)
length-with_more (xs ∷ all) (x ∷ more) = ap suc (length-with_more all more)

map-with_more : (parts : List (List Held)) (more : List Held) → map (map held_sum) (with_more parts more) ≡ with_more (map (map held_sum) parts) (map held_sum more)
map-with_more parts [] = refl
map-with_more [] (own ∷ more) = ap (λ (xs : List (List HeldSum)). (held_sum own ∷ []) ∷ xs) (map-with_more [] more)
map-with_more (held ∷ parts) (own ∷ more) =
    ap (λ (ss : List HeldSum). ss ∷ map (map held_sum) (with_more parts more)) (map-append held_sum held (own ∷ []))
    ∙ ap (λ (xs : List (List HeldSum)). (map held_sum held ++ held_sum own ∷ []) ∷ xs) (map-with_more parts more)

-- what holds of all elements of the lists
pub each-with_more : {X : Type 0} (P : X → Type 0) (all : List (List X)) (more : List X) → ((k : ℕ) (xs : List X) → slice_get all k ≡ Some xs → (j : ℕ) (x : X) → slice_get xs j ≡ Some x → P x) → ((k : ℕ) (x : X) → slice_get more k ≡ Some x → P x)
    → (k : ℕ) (xs : List X) → slice_get (with_more all more) k ≡ Some xs → (j : ℕ) (x : X) → slice_get xs j ≡ Some x → P x
each-with_more P all [] f g k xs is j x there = absurd (cc)
each-with_more P [] (y ∷ more) f g zero xs is zero x there = let same : y ≡ x = cc in subst P same (g 0 y refl)
each-with_more P [] (y ∷ more) f g zero xs is (suc j) x there = let same : y ∷ [] ≡ xs = cc in absurd (cc)
each-with_more P [] (y ∷ more) f g (suc k) xs is j x there = each-with_more P [] more (λ n zs none. absurd (cc)) (λ n. g (suc n)) k xs is j x there
each-with_more P (ys ∷ all) (y ∷ more) f g zero xs is j x there =
    let same : ys ++ y ∷ [] ≡ xs = cc in
    elim (slice_get_push_cases ys y j x (subst (λ (zs : List _). slice_get zs j ≡ Some x) (sym same) there)) [
      | inl before ↦ f 0 ys refl j x before
      | inr last ↦ subst P (sym last.1) (g 0 y refl)
    ]
each-with_more P (ys ∷ all) (y ∷ more) f g (suc k) xs is j x there = each-with_more P all more (λ n. f (suc n)) (λ n. g (suc n)) k xs is j x there

pub AreAllHeld-none : (streams : Streams) → AreAllHeld streams [] []
AreAllHeld-none streams = record { same = refl; each = λ k held is. absurd (cc) }

pub AreAllHeld-more : {streams : Streams} {all : List (List HeldSum)} {last : List HeldSum} {parts new : List (List Held)} {more : List Held} → new ≡ with_more parts more → AreAllHeld streams all parts → AreHeld streams last more → AreAllHeld streams (with_more all last) new
AreAllHeld-more {streams} {all} {last} {parts} {new} {more} e a h = subst (λ (ps : List (List Held)). AreAllHeld streams (with_more all last) ps) (sym e) (record {
  same = map-with_more parts more ∙ ap (λ (xs : List (List HeldSum)). with_more xs (map held_sum more)) a.same ∙ ap (λ (ss : List HeldSum). with_more all ss) h.same;
  each = each-with_more (λ (own : Held). IsRange streams (weights_of own.sum) own.class own.range) parts more a.each h.each;
})

-- of two phases, the sums of each register
pub both_at : (xs ys : List HeldSum) (k : ℕ) (x y : HeldSum) → slice_get xs k ≡ Some x → slice_get ys k ≡ Some y → slice_get (with_more (with_more [] xs) ys) k ≡ Some (x ∷ y ∷ [])
both_at [] ys k x y is there = absurd (cc)
both_at (a ∷ xs) [] k x y is there = absurd (cc)
both_at (a ∷ xs) (b ∷ ys) zero x y is there =
    let first : a ≡ x = cc in
    let second : b ≡ y = cc in
    ap (λ (z : HeldSum). Some (z ∷ b ∷ [])) first ∙ ap (λ (z : HeldSum). Some (x ∷ z ∷ [])) second
both_at (a ∷ xs) (b ∷ ys) (suc k) x y is there = both_at xs ys k x y is there

-- the sums of a register of the list, with their width
pub AreAllHeld-at : {all : List (List HeldSum)} {parts : List (List Held)} (streams : Streams) → AreAllHeld streams all parts → (k : ℕ) (sums : List HeldSum) → slice_get all k ≡ Some sums → (held : List Held) × (slice_get parts k ≡ Some held) × IsSumsWidth streams sums (widest held)
AreAllHeld-at {all} {parts} streams a k sums is =
    let many : length parts ≡ length all = sym (length-map parts (map held_sum)) ∙ ap length a.same in
    let inside = slice_get_within all k sums is in
    let own = slice_get_some parts k (omega (arith, many, inside)) in
    let here : slice_get all k ≡ Some (map held_sum own.0) = subst (λ (xs : List (List HeldSum)). slice_get xs k ≡ Some (map held_sum own.0)) a.same (slice_get_mapped (map held_sum) parts k own.0 own.1) in
    let same : map held_sum own.0 ≡ sums = cc in
    (own.0, own.1, subst (λ (ss : List HeldSum). IsSumsWidth streams ss (widest own.0)) same (widest_least streams own.0 (a.each k own.0 own.1)))

pub AreAllHeld-append : {streams : Streams} {all more : List (List HeldSum)} {parts rest : List (List Held)} → AreAllHeld streams all parts → AreAllHeld streams more rest → AreAllHeld streams (all ++ more) (parts ++ rest)
AreAllHeld-append {streams} {all} {more} {parts} {rest} a b = record {
  same = map-append (map held_sum) parts rest ∙ ap (λ (xs : List (List HeldSum)). xs ++ map (map held_sum) rest) a.same ∙ ap (λ (xs : List (List HeldSum)). all ++ xs) b.same;
  each = each_appended (λ (held : List Held). (j : ℕ) (own : Held) → slice_get held j ≡ Some own → IsRange streams (weights_of own.sum) own.class own.range) parts rest a.each b.each;
}
