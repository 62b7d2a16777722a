-- The widths of the registers of a tree, one after another.
use Rattle.std.proofs.Common.{◌≡◌, ℕ, zero, suc, ◌+◌, ◌*◌, ◌^◌, ◌<◌, ◌≤◌, List, [], ◌∷◌, ◌++◌, length, length-append, map, take, drop, get_or, refl, sym, ◌∙◌, ap, arith, inl, inr, subst, ℤ, Some, slice_get}
use Rattle.std.proofs.lemmas.Bool.{cases_lt}
use Rattle.std.proofs.lemmas.List.{append-nil, append_assoc, map-append, length-map}
use Rattle.std.proofs.lemmas.Option.{slice_get_within}
use Rattle.net_graph.proofs.Lists.{slice_get-append_left, slice_get_push, slice_get_push_cases}
use Rattle.std.proofs.lemmas.List.Elements.{All-take, All-drop}
use Rattle.std.proofs.Math.Nat.{mul-le-mul_left}
use Rattle.signed_digit.specs.declared.term_list.Term.{Term}
use Rattle.pipeline_balance.specs.Tree.{level_count, count_to}
use Rattle.pipeline_balance.proofs.SegmentLemmas.{count_to-mono}
use Rattle.stage_law.specs.Range.{IsRange}
use Rattle.stage_law.specs.Registers.{HeldSum}
use Rattle.stage_law.specs.Streams.{Streams}
use Rattle.stage_law.specs.Weights.{weights_of}
use Rattle.stage_law.specs.declared.ranges.Class.{Class}
use Rattle.fir_pieces.specs.declared.reading.Reading.{Reading}
use Rattle.fir_pieces.specs.Placed.{powers, term_segment}
use Rattle.fir_pieces.specs.Reading.{spread}
use Rattle.fir_pieces.specs.Form.{form_of}
use Rattle.fir_pieces.specs.Listed.{every, tree_sum, level_sums, class_tree_sums, tree_sums}
use Rattle.fir_pieces.specs.declared.held.Held.{Held}
use Rattle.fir_pieces.specs.Held.{AreSmall, IsClassWidth, IsFormWidth, IsHeld, AreHeld, AddsHeld, AreTreeWidths, held_sum}
use Rattle.fir_pieces.proofs.ReadingLemmas.{powers-spread_take, powers-spread_drop}

length-take_most : (n : ℕ) (ts : List Term) → length (take n ts) ≤ length ts
length-take_most zero ts = omega arith
length-take_most (suc n) [] = omega arith
length-take_most (suc n) (t ∷ ts) = let rest = length-take_most n ts in omega arith

length-drop_most : (n : ℕ) (ts : List Term) → length (drop n ts) ≤ length ts
length-drop_most zero ts = omega arith
length-drop_most (suc n) [] = omega arith
length-drop_most (suc n) (t ∷ ts) = let rest = length-drop_most n ts in omega arith

-- the terms under a register are small too
pub AreSmall-segment : (streams : Streams) (readings : List Reading) (terms : List Term) (level j : ℕ) (part : List Term) → part ≡ term_segment level j terms → AreSmall streams readings terms → AreSmall streams readings part
AreSmall-segment streams readings terms level j part e f = subst (λ (ts : List Term). AreSmall streams readings ts) (sym e) whole
  where
    less : powers (spread readings (term_segment level j terms)) ≤ powers (spread readings terms)
    less = let first = powers-spread_take readings (2 ^ level) (drop (j * 2 ^ level) terms) in let second = powers-spread_drop readings (j * 2 ^ level) terms in omega arith

    whole : AreSmall streams readings (term_segment level j terms)
    whole = record {
      places = All-take (λ (t : Term). t.index < length readings) (2 ^ level) (drop (j * 2 ^ level) terms) (All-drop (λ (t : Term). t.index < length readings) (j * 2 ^ level) terms f.places);
      short = All-take (λ (t : Term). t.place ≤ 90) (2 ^ level) (drop (j * 2 ^ level) terms) (All-drop (λ (t : Term). t.place ≤ 90) (j * 2 ^ level) terms f.short);
      small = let l = less in let s = f.small in omega arith;
      few = let a = length-take_most (2 ^ level) (drop (j * 2 ^ level) terms) in let b = length-drop_most (j * 2 ^ level) terms in let s = f.few in omega arith;
      most = f.most;
      within = f.within;
      room = let more : f.most * powers (spread readings (term_segment level j terms)) ≤ f.most * powers (spread readings terms) = mul-le-mul_left f.most less in let r = f.room in omega arith;
    }

-- ---- one level

pub AreHeld-none : (streams : Streams) → AreHeld streams [] []
AreHeld-none streams = record { same = refl; each = λ k own is. absurd (cc) }

pub AreHeld-push : (streams : Streams) (sums : List HeldSum) (held new : List Held) (s : HeldSum) (own : Held) → AreHeld streams sums held → held_sum own ≡ s → IsRange streams (weights_of own.sum) own.class own.range → new ≡ held ++ own ∷ [] → AreHeld streams (sums ++ s ∷ []) new
AreHeld-push streams sums held new s own p e r is = subst (λ (hs : List Held). AreHeld streams (sums ++ s ∷ []) hs) (sym is) whole
  where
    whole : AreHeld streams (sums ++ s ∷ []) (held ++ own ∷ [])
    whole = record {
      same = map-append held_sum held (own ∷ []) ∙ ap (λ (ss : List HeldSum). ss ++ held_sum own ∷ []) p.same ∙ ap (λ (z : HeldSum). sums ++ z ∷ []) e;
      each = λ k found there. elim (slice_get_push_cases held own k found there) [
        | inl before ↦ p.each k found before
        | inr last ↦ subst (λ (o : Held). IsRange streams (weights_of o.sum) o.class o.range) (sym last.1) r
      ];
    }

-- a register of this form
pub AreHeld-form : (streams : Streams) (sums : List HeldSum) (held new : List Held) (form : List ℤ) (class : Class) (lag : ℕ) (own : Held) → AreHeld streams sums held → IsHeld streams form class lag own → new ≡ held ++ own ∷ [] → AreHeld streams (sums ++ record { form = form; class = class; lag = lag } ∷ []) new
AreHeld-form streams sums held new form class lag own p w is =
    let first : held_sum own ≡ record { form = form; class = own.class; lag = own.lag } = ap (λ (f : List ℤ). record { form = f; class = own.class; lag = own.lag }) w.is_form in
    let second : held_sum own ≡ record { form = form; class = class; lag = own.lag } = first ∙ ap (λ (c : Class). record { form = form; class = c; lag = own.lag }) w.is_class in
    let third : held_sum own ≡ record { form = form; class = class; lag = lag } = second ∙ ap (λ (n : ℕ). record { form = form; class = class; lag = n }) w.is_lag in
    AreHeld-push streams sums held new (record { form = form; class = class; lag = lag }) own p third
    (subst (λ (c : Class). IsRange streams (weights_of own.sum) c own.range) (sym w.is_class) (subst (λ (f : List ℤ). IsRange streams f class own.range) (sym w.is_form) w.is_range)) is

-- the sums of two lists, one after the other
pub AreHeld-append : {streams : Streams} {sums more : List HeldSum} {held rest : List Held} → AreHeld streams sums held → AreHeld streams more rest → AreHeld streams (sums ++ more) (held ++ rest)
AreHeld-append {streams} {sums} {more} {held} {rest} p q = record {
  same = map-append held_sum held rest ∙ ap (λ (ss : List HeldSum). ss ++ map held_sum rest) p.same ∙ ap (λ (ss : List HeldSum). sums ++ ss) q.same;
  each = each_of held p.each;
}
  where
    each_of : (held : List Held) → ((k : ℕ) (own : Held) → slice_get held k ≡ Some own → IsRange streams (weights_of own.sum) own.class own.range) → (k : ℕ) (own : Held) → slice_get (held ++ rest) k ≡ Some own → IsRange streams (weights_of own.sum) own.class own.range
    each_of [] h k own is = q.each k own is
    each_of (first ∷ held) h zero own is = h zero own is
    each_of (first ∷ held) h (suc k) own is = each_of held (λ n. h (suc n)) k own is

pub AddsHeld-none : (streams : Streams) (held : List Held) → AddsHeld streams [] held held
AddsHeld-none streams held = record { then_held = λ sums h. subst (λ (ss : List HeldSum). AreHeld streams ss held) (sym (append-nil sums)) h }

pub AddsHeld-push : (streams : Streams) (class : Class) (lag : ℕ) (readings : List Reading) (terms : List Term) (level j : ℕ) (old now : List Held) (own : Held) (new : List Held) (part : List Term) → part ≡ term_segment (suc level) j terms → AddsHeld streams (level_sums class lag readings terms level j) old now → IsHeld streams (form_of readings part) class (lag + suc level) own → new ≡ now ++ own ∷ []
    → AddsHeld streams (level_sums class lag readings terms level (j + 1)) old new
AddsHeld-push streams class lag readings terms level j old now own new part e p w is = record {
  then_held = λ sums h.
      let next : suc j ≡ j + 1 = omega arith in
      let here : IsHeld streams (form_of readings (term_segment (suc level) j terms)) class (lag + suc level) own = subst (λ (ts : List Term). IsHeld streams (form_of readings ts) class (lag + suc level) own) e w in
      subst (λ (n : ℕ). AreHeld streams (sums ++ level_sums class lag readings terms level n) new) next
      (subst (λ (ss : List HeldSum). AreHeld streams ss new) (append_assoc sums (level_sums class lag readings terms level j) (tree_sum class lag readings terms level j ∷ []))
      (AreHeld-form streams (sums ++ level_sums class lag readings terms level j) now new (form_of readings (term_segment (suc level) j terms)) class (lag + suc level) own (p.then_held sums h) here is));
}

-- ---- level by level

pub AreHeld-level : (streams : Streams) (class : Class) (lag : ℕ) (readings : List Reading) (terms : List Term) (level : ℕ) (old new : List Held) → AreHeld streams (class_tree_sums class lag readings terms level) old → AddsHeld streams (level_sums class lag readings terms level (level_count (length terms) (suc level))) old new → AreHeld streams (class_tree_sums class lag readings terms (level + 1)) new
AreHeld-level streams class lag readings terms level old new p a =
    let next : suc level ≡ level + 1 = omega arith in
    subst (λ (n : ℕ). AreHeld streams (class_tree_sums class lag readings terms n) new) next (a.then_held (class_tree_sums class lag readings terms level) p)

-- ---- where a sum stands in the list

-- an element within a list
pub slice_get_some : {X : Type 0} (xs : List X) (k : ℕ) → k < length xs → (x : X) × (slice_get xs k ≡ Some x)
slice_get_some [] k h = absurd (omega arith)
slice_get_some (x ∷ xs) zero h = (x, refl)
slice_get_some (x ∷ xs) (suc k) h = slice_get_some xs k (omega arith)

pub get_or-map : {X : Type 0} (f : X → ℕ) (xs : List X) (k : ℕ) (x : X) → slice_get xs k ≡ Some x → get_or (map f xs) k 0 ≡ f x
get_or-map f [] k x e = absurd (cc)
get_or-map f (y ∷ xs) zero x e = let same : y ≡ x = cc in ap f same
get_or-map f (y ∷ xs) (suc k) x e = get_or-map f xs k x e

pub slice_get_mapped : {X Y : Type 0} (f : X → Y) (xs : List X) (k : ℕ) (x : X) → slice_get xs k ≡ Some x → slice_get (map f xs) k ≡ Some (f x)
slice_get_mapped f [] k x e = absurd (cc)
slice_get_mapped f (y ∷ xs) zero x e = let same : y ≡ x = cc in ap (λ z. Some (f z)) same
slice_get_mapped f (y ∷ xs) (suc k) x e = slice_get_mapped f xs k x e

pub slice_get-append_right : {X : Type 0} (xs ys : List X) (k : ℕ) → slice_get (xs ++ ys) (length xs + k) ≡ slice_get ys k
slice_get-append_right [] ys k = let e : 0 + k ≡ k = omega arith in ap (slice_get ys) e
slice_get-append_right (x ∷ xs) ys k = let e : suc (length xs) + k ≡ suc (length xs + k) = omega arith in ap (slice_get (x ∷ (xs ++ ys))) e ∙ slice_get-append_right xs ys k

length-level_sums : (class : Class) (lag : ℕ) (readings : List Reading) (terms : List Term) (level count : ℕ) → length (level_sums class lag readings terms level count) ≡ count
length-level_sums class lag readings terms level zero = refl
length-level_sums class lag readings terms level (suc j) = let rest = length-level_sums class lag readings terms level j in let both = length-append (level_sums class lag readings terms level j) (tree_sum class lag readings terms level j ∷ []) in omega (arith, rest, both)

pub length-tree_sums : (class : Class) (lag : ℕ) (readings : List Reading) (terms : List Term) (levels : ℕ) → length (class_tree_sums class lag readings terms levels) ≡ count_to (length terms) levels
length-tree_sums class lag readings terms zero = refl
length-tree_sums class lag readings terms (suc level) =
    let rest = length-tree_sums class lag readings terms level in
    let own = length-level_sums class lag readings terms level (level_count (length terms) (suc level)) in
    let both = length-append (class_tree_sums class lag readings terms level) (level_sums class lag readings terms level (level_count (length terms) (suc level))) in
    omega (arith, rest, own, both)

level_sums-at : (class : Class) (lag : ℕ) (readings : List Reading) (terms : List Term) (level count j : ℕ) → j < count → slice_get (level_sums class lag readings terms level count) j ≡ Some (tree_sum class lag readings terms level j)
level_sums-at class lag readings terms level zero j h = absurd (omega arith)
level_sums-at class lag readings terms level (suc count) j h = elim (cases_lt j count) [
  | inl less ↦ slice_get-append_left (level_sums class lag readings terms level count) (tree_sum class lag readings terms level count ∷ []) j (tree_sum class lag readings terms level j) (level_sums-at class lag readings terms level count j less)
  | inr ge ↦
      let same : j ≡ count = omega arith in
      subst (λ (n : ℕ). slice_get (level_sums class lag readings terms level count ++ tree_sum class lag readings terms level count ∷ []) n ≡ Some (tree_sum class lag readings terms level n)) (sym same)
      (slice_get_push (level_sums class lag readings terms level count) (tree_sum class lag readings terms level count) count (sym (length-level_sums class lag readings terms level count)))
]

pub tree_sums-at : (class : Class) (lag : ℕ) (readings : List Reading) (terms : List Term) (levels level j : ℕ) → level < levels → j < level_count (length terms) (suc level) → slice_get (class_tree_sums class lag readings terms levels) (count_to (length terms) level + j) ≡ Some (tree_sum class lag readings terms level j)
tree_sums-at class lag readings terms zero level j low within = absurd (omega arith)
tree_sums-at class lag readings terms (suc levels) level j low within =
    let count = level_count (length terms) (suc levels) in
    elim (cases_lt level levels) [
      | inl less ↦ slice_get-append_left (class_tree_sums class lag readings terms levels) (level_sums class lag readings terms levels count) (count_to (length terms) level + j) (tree_sum class lag readings terms level j) (tree_sums-at class lag readings terms levels level j less within)
      | inr ge ↦
          let same : levels ≡ level = omega arith in
          let inside : j < count = subst (λ (n : ℕ). j < level_count (length terms) (suc n)) (sym same) within in
          let here : length (class_tree_sums class lag readings terms levels) ≡ count_to (length terms) levels = length-tree_sums class lag readings terms levels in
          subst (λ (n : ℕ). slice_get (class_tree_sums class lag readings terms levels ++ level_sums class lag readings terms levels count) (count_to (length terms) n + j) ≡ Some (tree_sum class lag readings terms n j)) same
          (subst (λ (n : ℕ). slice_get (class_tree_sums class lag readings terms levels ++ level_sums class lag readings terms levels count) (n + j) ≡ Some (tree_sum class lag readings terms levels j)) here
          (slice_get-append_right (class_tree_sums class lag readings terms levels) (level_sums class lag readings terms levels count) j ∙ level_sums-at class lag readings terms levels count j inside))
    ]

-- ---- their widths

-- where the register of a level stands
pub within_tree : (n levels level j : ℕ) → level < levels → j < level_count n (suc level) → count_to n level + j < count_to n levels
within_tree n levels level j low within = let below = count_to-mono n (suc level) levels low in omega (arith, below)

-- the least width of a sum of the list
pub AreHeld-at : {sums : List HeldSum} {held : List Held} (streams : Streams) → AreHeld streams sums held → (k : ℕ) (s : HeldSum) → slice_get sums k ≡ Some s → (own : Held) × (slice_get held k ≡ Some own) × IsClassWidth streams s.class s.form own.width
AreHeld-at {sums} {held} streams h k s is =
    let many : length held ≡ length sums = sym (length-map held held_sum) ∙ ap length h.same in
    let inside = slice_get_within sums k s is in
    let own = slice_get_some held k (omega (arith, many, inside)) in
    let here : slice_get sums k ≡ Some (held_sum own.0) = subst (λ (ss : List HeldSum). slice_get ss k ≡ Some (held_sum own.0)) h.same (slice_get_mapped held_sum held k own.0 own.1) in
    let same : held_sum own.0 ≡ s = cc in
    (own.0, own.1, subst (λ (z : HeldSum). IsClassWidth streams z.class z.form own.0.width) same (record { range = own.0.range; is_range = h.each k own.0 own.1; least = own.0.least }))

pub AreTreeWidths-held : (streams : Streams) (readings : List Reading) (ticks : ℕ) (terms : List Term) (levels : ℕ) (held : List Held) (widths : List ℕ) → widths ≡ map (λ (own : Held). own.width) held → AreHeld streams (tree_sums readings ticks terms levels) held → AreTreeWidths streams readings terms levels widths
AreTreeWidths-held streams readings ticks terms levels held widths e h =
    let count : length held ≡ count_to (length terms) levels = sym (length-map held held_sum) ∙ ap length h.same ∙ length-tree_sums every (suc ticks) readings terms levels in
    record {
      count = ap length e ∙ length-map held (λ (own : Held). own.width) ∙ count;
      each = λ level j low within.
          let place = count_to (length terms) level + j in
          let own = AreHeld-at streams h place (tree_sum every (suc ticks) readings terms level j) (tree_sums-at every (suc ticks) readings terms levels level j low within) in
          let wide : get_or widths place 0 ≡ own.0.width = ap (λ (xs : List ℕ). get_or xs place 0) e ∙ get_or-map (λ (one : Held). one.width) held place own.0 own.1 in
          subst (IsFormWidth streams (form_of readings (term_segment (suc level) j terms))) (sym wide) own.2;
    }

pub tree_held_every : {class : Class} {lag : ℕ} {as_shown : List Reading} {held : List Held} (streams : Streams) (readings : List Reading) (ticks : ℕ) (terms : List Term) (levels : ℕ) → class ≡ every → lag ≡ suc ticks → as_shown ≡ readings → AreHeld streams (class_tree_sums class lag as_shown terms levels) held
    → AreHeld streams (tree_sums readings ticks terms levels) held
tree_held_every {class} {lag} {as_shown} {held} streams readings ticks terms levels is_class is_lag same h =
    subst (λ (rs : List Reading). AreHeld streams (tree_sums rs ticks terms levels) held) same
    (subst (λ (n : ℕ). AreHeld streams (class_tree_sums every n as_shown terms levels) held) is_lag (subst (λ (c : Class). AreHeld streams (class_tree_sums c lag as_shown terms levels) held) is_class h))
