-- The cells of a filter as a function, and the slots that a phase uses.
use Rattle.std.proofs.Common.{◌≡◌, ℕ, suc, ◌+◌, ◌-◌, ◌*◌, ◌/◌, ◌%◌, ◌<◌, ◌≤◌, ◌↔◌, inl, inr, List, [], ◌∷◌, ◌++◌, length, length-append, max, min, get_or, sym, refl, ◌∙◌, ap, arith, subst, Option, None, Some, slice_get, Bool, true, false}
use Rattle.std.specs.Prelude.{nat_lt, if◌then◌else◌}
use Rattle.std.proofs.lemmas.Bool.{cases_lt, lt-ltb, le-ltb}
use Rattle.std.proofs.lemmas.Nat.{div-add-mod', mod_below}
use Rattle.std.proofs.lemmas.Option.{slice_get-get_or, slice_get_within}
use Rattle.std.proofs.Math.Nat.{div-eq_of_lt, mod-eq_of_lt}
use Rattle.net_graph.proofs.Lists.{slice_get-append_left, slice_get_push, slice_get_push_cases}
use Rattle.signed_digit.specs.declared.term_list.Term.{Term}
use Rattle.fold_schedule.specs.Fold.{Parts, Fold, positive_adders, StandsIn, Stands}
use Rattle.fold_schedule.proofs.Folds.{positive_cell, negative_cell, at_place, at_past}
use Rattle.folded_fir.specs.declared.cells.Slot.{Slot}
use Rattle.folded_fir.specs.Cells.{list_cell, cell_in, cells_of}
use Rattle.folded_fir.specs.Slots.{used_by, used_in, IsEarlier, ListsSlots}

-- a choice by a test
pub if_true : {X : Type 0} (b : Bool) (x y : X) → b ≡ true → (if b then x else y) ≡ x
if_true true x y e = refl
if_true false x y e = absurd (cc)

pub if_false : {X : Type 0} (b : Bool) (x y : X) → b ≡ false → (if b then x else y) ≡ y
if_false true x y e = absurd (cc)
if_false false x y e = refl

none_some : {o : Option Term} {t : Term} → o ≡ None → o ≡ Some t → ⊥
none_some e f = absurd (cc)

-- ---- one list

list_exact : (slots adder slot : ℕ) (ts : List Term) → 1 ≤ slots → (t : Term) → (list_cell slots ts adder slot ≡ Some t) ↔ StandsIn slots 0 ts adder slot t
list_exact slots adder slot ts some t = elim (cases_lt slot slots) [
  | inl small ↦
      let place : ℕ = adder * slots + slot in
      let is_place : list_cell slots ts adder slot ≡ slice_get ts (adder * slots + slot) = if_true (nat_lt slot slots) (slice_get ts (adder * slots + slot)) None (lt-ltb slot slots small) in
      elim (cases_lt (adder * slots + slot) (length ts)) [
        | inl inside ↦
            let found = slice_get-get_or ts (adder * slots + slot) t inside in
            let exact = at_place slots adder slot (adder * slots + slot) ts t some small refl inside t in
            (λ e. exact.0 (sym found ∙ sym is_place ∙ e), λ s. is_place ∙ found ∙ exact.1 s)
        | inr past ↦ (λ e. absurd (let inside = slice_get_within ts (adder * slots + slot) t (sym is_place ∙ e) in omega (arith, inside, past)), λ s. absurd (at_past slots adder slot (adder * slots + slot) ts refl past t s))
      ]
  | inr big ↦
      let none : list_cell slots ts adder slot ≡ None = if_false (nat_lt slot slots) (slice_get ts (adder * slots + slot)) None (le-ltb slot slots big) in
      (λ e. absurd (none_some none e), λ s. absurd (let low = mod_below s.0 slots some in let at = s.1.in_slot in omega (arith, low, at, big)))
]

-- ---- all cells

pub cells_exact : (fold : Fold) (phase adder slot : ℕ) → 1 ≤ fold.slots → (t : Term) → (cells_of fold phase adder slot ≡ Some t) ↔ Stands fold phase adder slot t
cells_exact fold phase adder slot some t = by (slice_get fold.phases phase) refl
  where
    no_parts : (parts : Parts) → slice_get fold.phases phase ≡ None → slice_get fold.phases phase ≡ Some parts → ⊥
    no_parts parts e f = absurd (cc)

    by : (o : Option Parts) → slice_get fold.phases phase ≡ o → (cell_in fold o adder slot ≡ Some t) ↔ Stands fold phase adder slot t
    by None e = (λ f. absurd (cc), λ s. absurd (no_parts s.parts e s.there))
    by (Some parts) e = elim (cases_lt adder (positive_adders fold)) [
      | inl below ↦
          let at : cell_in fold (Some parts) adder slot ≡ list_cell fold.slots parts.positive adder slot = if_true (nat_lt adder (positive_adders fold)) _ _ (lt-ltb adder (positive_adders fold) below) in
          let own = list_exact fold.slots adder slot parts.positive some t in
          let cell = positive_cell fold parts phase adder slot e below t in
          (λ f. cell.0 (own.0 (sym at ∙ f)), λ s. at ∙ own.1 (cell.1 s))
      | inr past ↦
          let at : cell_in fold (Some parts) adder slot ≡ list_cell fold.slots parts.negative (adder - positive_adders fold) slot = if_false (nat_lt adder (positive_adders fold)) _ _ (le-ltb adder (positive_adders fold) past) in
          let own = list_exact fold.slots (adder - positive_adders fold) slot parts.negative some t in
          let cell = negative_cell fold parts phase adder slot some e past t in
          (λ f. cell.0 (own.0 (sym at ∙ f)), λ s. at ∙ own.1 (cell.1 s))
    ]

-- a choice that is exactly what stands in a cell is that cell
pub cell_is : (fold : Fold) (phase adder slot : ℕ) → 1 ≤ fold.slots → (o : Option Term) → ((t : Term) → (o ≡ Some t) ↔ Stands fold phase adder slot t) → o ≡ cells_of fold phase adder slot
cell_is fold phase adder slot some o exact = by o refl (cells_of fold phase adder slot) refl
  where
    by : (p : Option Term) → o ≡ p → (q : Option Term) → cells_of fold phase adder slot ≡ q → o ≡ cells_of fold phase adder slot
    by (Some t) e q f = e ∙ sym ((cells_exact fold phase adder slot some t).1 ((exact t).0 e))
    by None e None f = e ∙ sym f
    by None e (Some t) f = absurd (none_some e ((exact t).1 ((cells_exact fold phase adder slot some t).0 f)))

-- ---- used slots

-- a term's slot is one that its phase uses
pub stands_used : (fold : Fold) (phase adder slot : ℕ) (t : Term) → 1 ≤ fold.slots → Stands fold phase adder slot t → slot < used_in fold phase
stands_used fold phase adder slot t some s = subst (λ (o : Option Parts). slot < used_by fold.slots o) (sym s.there) (elim s.stands [ inl h ↦ positive h | inr h ↦ negative h ])
  where
    positive : StandsIn fold.slots 0 s.parts.positive adder slot t → slot < min fold.slots (max (length s.parts.positive) (length s.parts.negative))
    positive h =
        let inside = slice_get_within s.parts.positive h.0 t h.1.is in
        let at = h.1.in_slot in
        let low = mod_below h.0 fold.slots some in
        let split = div-add-mod' h.0 fold.slots in
        omega (arith, inside, at, low, split)

    negative : StandsIn fold.slots (positive_adders fold) s.parts.negative adder slot t → slot < min fold.slots (max (length s.parts.positive) (length s.parts.negative))
    negative h =
        let inside = slice_get_within s.parts.negative h.0 t h.1.is in
        let at = h.1.in_slot in
        let low = mod_below h.0 fold.slots some in
        let split = div-add-mod' h.0 fold.slots in
        omega (arith, inside, at, low, split)

pub cells_used : (fold : Fold) (phase adder slot : ℕ) → 1 ≤ fold.slots → used_in fold phase ≤ slot → cells_of fold phase adder slot ≡ None
cells_used fold phase adder slot some past = by (cells_of fold phase adder slot) refl
  where
    by : (o : Option Term) → cells_of fold phase adder slot ≡ o → cells_of fold phase adder slot ≡ None
    by None e = e
    by (Some t) e = absurd (let used = stands_used fold phase adder slot t some ((cells_exact fold phase adder slot some t).0 e) in omega (arith, used, past))

-- where the first accumulators of both kinds take nothing, the phase's slots are over
pub none_used : (fold : Fold) (phase first slot : ℕ) (o p : Option Term) → first ≡ positive_adders fold → ((t : Term) → (o ≡ Some t) ↔ Stands fold phase 0 slot t) → ((t : Term) → (p ≡ Some t) ↔ Stands fold phase first slot t)
    → o ≡ None → p ≡ None → used_in fold phase ≤ slot
none_used fold phase first slot o p is positive negative e f = by (slice_get fold.phases phase) refl
  where
    by : (q : Option Parts) → slice_get fold.phases phase ≡ q → used_by fold.slots q ≤ slot
    by None at = omega arith
    by (Some parts) at = elim (cases_lt slot (used_by fold.slots (Some parts))) [
      | inr past ↦ past
      | inl used ↦ elim (cases_lt slot (length parts.positive)) [
        | inl inside ↦
            let t = get_or parts.positive slot (record { index = 0; place = 0; negative = false }) in
            let small : slot < fold.slots = omega (arith, used) in
            let stands : StandsIn fold.slots 0 parts.positive 0 slot t = (slot, record { is = slice_get-get_or parts.positive slot (record { index = 0; place = 0; negative = false }) inside; in_adder = (let row : slot / fold.slots ≡ 0 = div-eq_of_lt small in omega (arith, row)); in_slot = sym (mod-eq_of_lt small) }) in
            absurd (none_some e ((positive t).1 (record { parts = parts; there = at; stands = inl stands })))
        | inr past ↦
            let inside : slot < length parts.negative = omega (arith, used, past) in
            let t = get_or parts.negative slot (record { index = 0; place = 0; negative = false }) in
            let small : slot < fold.slots = omega (arith, used) in
            let row : slot / fold.slots ≡ 0 = div-eq_of_lt small in
            let stands : StandsIn fold.slots (positive_adders fold) parts.negative first slot t = (slot, record { is = slice_get-get_or parts.negative slot (record { index = 0; place = 0; negative = false }) inside; in_adder = omega (arith, is, row); in_slot = sym (mod-eq_of_lt small) }) in
            absurd (none_some f ((negative t).1 (record { parts = parts; there = at; stands = inr stands })))
      ]
    ]

pub some_used : (fold : Fold) (phase adder slot : ℕ) (o : Option Term) → 1 ≤ fold.slots → ((t : Term) → (o ≡ Some t) ↔ Stands fold phase adder slot t) → (o ≡ None → ⊥) → slot < used_in fold phase
some_used fold phase adder slot o some exact other = by o refl
  where
    by : (p : Option Term) → o ≡ p → slot < used_in fold phase
    by None e = absurd (other e)
    by (Some t) e = stands_used fold phase adder slot t some ((exact t).0 e)

-- ---- lists of slots

pub ListsSlots-none : (used : ℕ → ℕ) → ListsSlots used 0 0 []
ListsSlots-none used = record {
  below = λ k x at. absurd (cc);
  apart = λ j k x at there. absurd (cc);
  all = λ output slot early less. absurd (elim early [ inl low ↦ omega (arith, low) | inr last ↦ omega (arith, last.1) ]);
}

-- the next slot of an output
pub ListsSlots-push : (used : ℕ → ℕ) (count upto : ℕ) (slots : List Slot) → upto < used count → ListsSlots used count upto slots → ListsSlots used count (suc upto) (slots ++ record { output = count; slot = upto } ∷ [])
ListsSlots-push used count upto slots less l = record {
  below = λ k x at. elim (slice_get_push_cases slots own k x at) [
    | inl before ↦ let b = l.below k x before in (b.0, elim b.1 [ inl low ↦ inl low | inr same ↦ inr (same.0, let s = same.1 in omega (arith, s)) ])
    | inr last ↦ subst (λ (y : Slot). (y.slot < used y.output) × IsEarlier y.output y.slot count (suc upto)) (sym last.1) (less, inr (refl, omega arith))
  ];
  apart = λ j k x at there. elim (slice_get_push_cases slots own j x at) [
    | inl first ↦ elim (slice_get_push_cases slots own k x there) [
      | inl second ↦ l.apart j k x first second
      | inr last ↦ absurd (not_yet j (subst (λ (y : Slot). slice_get slots j ≡ Some y) last.1 first))
    ]
    | inr last ↦ elim (slice_get_push_cases slots own k x there) [
      | inl second ↦ absurd (not_yet k (subst (λ (y : Slot). slice_get slots k ≡ Some y) last.1 second))
      | inr also ↦ last.0 ∙ sym also.0
    ]
  ];
  all = λ output slot early used_one. elim early [
    | inl low ↦ found output slot (l.all output slot (inl low) used_one)
    | inr same ↦ elim (cases_lt slot upto) [
      | inl before ↦ found output slot (l.all output slot (inr (same.0, before)) used_one)
      | inr past ↦
          let at : slot ≡ upto = let s = same.1 in omega (arith, s, past) in (
            length slots,
            subst (λ (n : ℕ). slice_get (slots ++ own ∷ []) (length slots) ≡ Some (record { output = output; slot = n })) (sym at)
                (subst (λ (n : ℕ). slice_get (slots ++ own ∷ []) (length slots) ≡ Some (record { output = n; slot = upto })) (sym same.0) (slice_get_push slots own (length slots) refl)),
          )
    ]
  ];
}
  where
    own : Slot
    own = record { output = count; slot = upto }

    not_yet : (j : ℕ) → slice_get slots j ≡ Some (record { output = count; slot = upto }) → ⊥
    not_yet j at = let b = l.below j (record { output = count; slot = upto }) at in absurd (elim b.1 [ inl low ↦ omega (arith, low) | inr same ↦ omega (arith, same.1) ])

    found : (output slot : ℕ) → (k : ℕ) × (slice_get slots k ≡ Some (record { output = output; slot = slot })) → (k : ℕ) × (slice_get (slots ++ own ∷ []) k ≡ Some (record { output = output; slot = slot }))
    found output slot k = (k.0, slice_get-append_left slots (own ∷ []) k.0 (record { output = output; slot = slot }) k.1)

-- all of an output
pub ListsSlots-next : (used : ℕ → ℕ) (count : ℕ) (slots : List Slot) → ListsSlots used count (used count) slots → ListsSlots used (suc count) 0 slots
ListsSlots-next used count slots l = record {
  below = λ k x at. let b = l.below k x at in (b.0, elim b.1 [ inl low ↦ inl (omega (arith, low)) | inr same ↦ inl (let e = same.0 in omega (arith, e)) ]);
  apart = l.apart;
  all = λ output slot early less. elim early [
    | inl low ↦ elim (cases_lt output count) [
      | inl before ↦ l.all output slot (inl before) less
      | inr past ↦ let same : output ≡ count = omega (arith, low, past) in l.all output slot (inr (same, subst (λ (n : ℕ). slot < used n) same less)) less
    ]
    | inr none ↦ absurd (omega (arith, none.1))
  ];
}

-- ---- what an accumulator takes in them

pub AreCellsAt-push : (fold : Fold) (up down adder : ℕ) (slots : List Slot) (cells : List (Option Term)) (o : Option Term) (x : Slot) → slice_get slots (length cells) ≡ Some x → o ≡ cells_of fold (x.output * down % up) adder x.slot
    → ((k : ℕ) (y : Slot) → k < length cells → slice_get slots k ≡ Some y → slice_get cells k ≡ Some (cells_of fold (y.output * down % up) adder y.slot))
    → (k : ℕ) (y : Slot) → k < length (cells ++ o ∷ []) → slice_get slots k ≡ Some y → slice_get (cells ++ o ∷ []) k ≡ Some (cells_of fold (y.output * down % up) adder y.slot)
AreCellsAt-push fold up down adder slots cells o x at is before k y inside there = elim (cases_lt k (length cells)) [
  | inl less ↦ slice_get-append_left cells (o ∷ []) k _ (before k y less there)
  | inr past ↦
      let more = length-append cells (o ∷ []) in
      let same : k ≡ length cells = omega (arith, inside, past, more) in
      let one : x ≡ y = same_slot (subst (λ (n : ℕ). slice_get slots n ≡ Some y) same there) in
      subst (λ (n : ℕ). slice_get (cells ++ o ∷ []) n ≡ Some (cells_of fold (y.output * down % up) adder y.slot)) (sym same)
      (slice_get_push cells o (length cells) refl ∙ ap (λ (p : Option Term). Some p) (is ∙ ap (λ (z : Slot). cells_of fold (z.output * down % up) adder z.slot) one))
]
  where
    same_slot : slice_get slots (length cells) ≡ Some y → x ≡ y
    same_slot f = let both : Some x ≡ Some y = sym at ∙ f in cc
