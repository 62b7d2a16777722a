-- What a search over the declarations in text order finds doesn't depend on where they stand.
use Rattle.std.proofs.Common.{◌≡◌, ℕ, Bool, true, false, ◌||◌, cond, List, [], ◌∷◌, map, find, Option, None, Some, refl, sym, ◌∙◌, ap, arith}
use Rattle.std.specs.Prelude.{◌==◌, nat_le}
use Rattle.std.specs.List.{list_any}
use Rattle.std.proofs.lemmas.Bool.{eq-eqb, ne_eqb}
use Rattle.verilog_tree.specs.declared.tree.Signal.{Signal}
use Rattle.verilog_tree.specs.Checks.{or_else, with_declaration, in_text_order, first_repeat}
use Rattle.verilog_text.specs.Order.{unplaced}

-- each element has a property
abbrev pub Every : {A : Type 0} → (A → Type 0) → List A → Type 0
Every has [] = Unit {0}
Every has (x ∷ xs) = has x × Every has xs

every_map : {A : Type 0} (P Q : A → Type 0) → ((x : A) → P x → Q x) → (xs : List A) → Every P xs → Every Q xs
every_map P Q f [] all = tt
every_map P Q f (x ∷ xs) all = (f x all.0, every_map P Q f xs all.1)

-- ---- text order

module _ (P : Signal → Type 0) where
  with_one : (s : Signal) (ts : List Signal) → P s → Every P ts → Every P (with_declaration s ts)
  with_one s [] is all = (is, tt)
  with_one s (t ∷ ts) is all = by (nat_le s.place t.place) (with_one s ts is all.1)
    where
      by : (b : Bool) → Every P (with_declaration s ts) → Every P (cond b (s ∷ t ∷ ts) (t ∷ with_declaration s ts))
      by true rest = (is, (all.0, all.1))
      by false rest = (all.0, rest)

  without_one : (s : Signal) (ts : List Signal) → Every P (with_declaration s ts) → P s × Every P ts
  without_one s [] all = (all.0, tt)
  without_one s (t ∷ ts) all = by (nat_le s.place t.place) (without_one s ts) all
    where
      by : (b : Bool) → (Every P (with_declaration s ts) → P s × Every P ts) → Every P (cond b (s ∷ t ∷ ts) (t ∷ with_declaration s ts)) → P s × Every P (t ∷ ts)
      by true rest every = (every.0, every.1)
      by false rest every = let r = rest every.1 in (r.0, (every.0, r.1))

  pub to_order : (ss : List Signal) → Every P ss → Every P (in_text_order ss)
  to_order [] all = tt
  to_order (s ∷ ss) all = with_one s (in_text_order ss) all.0 (to_order ss all.1)

  pub from_order : (ss : List Signal) → Every P (in_text_order ss) → Every P ss
  from_order [] all = tt
  from_order (s ∷ ss) all = let r = without_one s (in_text_order ss) all in (r.0, from_order ss r.1)

-- ---- a search that finds nothing

module _ {A : Type 0} (test : A → Bool) where
  pub nothing_found : (xs : List A) → find test xs ≡ None → Every (λ x. test x ≡ false) xs
  nothing_found [] is = tt
  nothing_found (x ∷ xs) is = by (test x) refl is (nothing_found xs)
    where
      by : (b : Bool) → test x ≡ b → cond b (Some x) (find test xs) ≡ None → (find test xs ≡ None → Every (λ x. test x ≡ false) xs) → Every (λ x. test x ≡ false) (x ∷ xs)
      by true e found rest = absurd (grind arith)
      by false e found rest = (e, rest found)

  pub finds_nothing : (xs : List A) → Every (λ x. test x ≡ false) xs → find test xs ≡ None
  finds_nothing [] all = refl
  finds_nothing (x ∷ xs) all = ap (λ (b : Bool). cond b (Some x) (find test xs)) all.0 ∙ finds_nothing xs all.1

place_all : (P : Signal → Type 0) (ss : List Signal) → Every (λ s. P (unplaced s)) ss → Every P (map unplaced ss)
place_all P [] all = tt
place_all P (s ∷ ss) all = (all.0, place_all P ss all.1)

all_placed : (P : Signal → Type 0) (ss : List Signal) → Every P (map unplaced ss) → Every (λ s. P (unplaced s)) ss
all_placed P [] all = tt
all_placed P (s ∷ ss) all = (all.0, all_placed P ss all.1)

module _ (test : Signal → Bool) (same : (s : Signal) → test (unplaced s) ≡ test s) (ss : List Signal) where
  pub unplaced_finds : find test (in_text_order ss) ≡ None → find test (in_text_order (map unplaced ss)) ≡ None
  unplaced_finds is =
      finds_nothing test (in_text_order (map unplaced ss)) (to_order (λ s. test s ≡ false) (map unplaced ss)
      (place_all (λ s. test s ≡ false) ss
      (every_map (λ s. test s ≡ false) (λ s. test (unplaced s) ≡ false) (λ s h. same s ∙ h) ss
      (from_order (λ s. test s ≡ false) ss (nothing_found test (in_text_order ss) is)))))

  pub placed_finds : find test (in_text_order (map unplaced ss)) ≡ None → find test (in_text_order ss) ≡ None
  placed_finds is =
      finds_nothing test (in_text_order ss) (to_order (λ s. test s ≡ false) ss
      (every_map (λ s. test (unplaced s) ≡ false) (λ s. test s ≡ false) (λ s h. sym (same s) ∙ h) ss
      (all_placed (λ s. test s ≡ false) ss (from_order (λ s. test s ≡ false) (map unplaced ss) (nothing_found test (in_text_order (map unplaced ss)) is)))))

-- ---- names that are apart

abbrev pub IsApart : Signal → Signal → Type 0
IsApart s t = t.name ≡ s.name → ⊥

abbrev pub AllApart : List Signal → Type 0
AllApart [] = Unit {0}
AllApart (s ∷ ss) = Every (IsApart s) ss × AllApart ss

abbrev IsUnseen : List ℕ → Signal → Type 0
IsUnseen seen s = list_any (λ m. m == s.name) seen ≡ false

head_passes : (b : Bool) (n : ℕ) (rest : Option ℕ) → or_else (cond b (Some n) None) rest ≡ None → (b ≡ false) × (rest ≡ None)
head_passes true n rest e = absurd (grind arith)
head_passes false n rest e = (refl, e)

or_fails : (a b : Bool) → (a || b) ≡ false → (a ≡ false) × (b ≡ false)
or_fails true b e = absurd (cc)
or_fails false b e = (refl, e)

apart_of : (s t : Signal) (seen : List ℕ) → IsUnseen (s.name ∷ seen) t → IsApart s t
apart_of s t seen unseen same =
    let e = (or_fails (s.name == t.name) (list_any (λ m. m == t.name) seen) unseen).0 in
    let f = eq-eqb s.name t.name (sym same) in
    absurd (cc)

unseen_before : (s t : Signal) (seen : List ℕ) → IsUnseen (s.name ∷ seen) t → IsUnseen seen t
unseen_before s t seen unseen = (or_fails (s.name == t.name) (list_any (λ m. m == t.name) seen) unseen).1

unseen_more : (s t : Signal) (seen : List ℕ) → IsApart s t → IsUnseen seen t → IsUnseen (s.name ∷ seen) t
unseen_more s t seen apart unseen = ap (λ (b : Bool). b || list_any (λ m. m == t.name) seen) (ne_eqb s.name t.name (λ e. apart (sym e))) ∙ unseen

pub none_repeats : (seen : List ℕ) (ss : List Signal) → first_repeat seen (map (λ (s : Signal). s.name) ss) ≡ None → AllApart ss × Every (IsUnseen seen) ss
none_repeats seen [] is = (tt, tt)
none_repeats seen (s ∷ ss) is =
    let p = head_passes (list_any (λ m. m == s.name) seen) s.name (first_repeat (s.name ∷ seen) (map (λ (s : Signal). s.name) ss)) is in
    let rest = none_repeats (s.name ∷ seen) ss p.1 in (
      (every_map (IsUnseen (s.name ∷ seen)) (IsApart s) (λ t h. apart_of s t seen h) ss rest.1, rest.0),
      (p.0, every_map (IsUnseen (s.name ∷ seen)) (IsUnseen seen) (λ t h. unseen_before s t seen h) ss rest.1),
    )

both : {A : Type 0} (P Q : A → Type 0) (xs : List A) → Every P xs → Every Q xs → Every (λ x. P x × Q x) xs
both P Q [] p q = tt
both P Q (x ∷ xs) p q = ((p.0, q.0), both P Q xs p.1 q.1)

pub repeats_none : (seen : List ℕ) (ss : List Signal) → AllApart ss → Every (IsUnseen seen) ss → first_repeat seen (map (λ (s : Signal). s.name) ss) ≡ None
repeats_none seen [] apart unseen = refl
repeats_none seen (s ∷ ss) apart unseen =
    ap (λ (b : Bool). or_else (cond b (Some s.name) None) (first_repeat (s.name ∷ seen) (map (λ (s : Signal). s.name) ss))) unseen.0
    ∙ repeats_none (s.name ∷ seen) ss apart.1
    (every_map (λ t. IsApart s t × IsUnseen seen t) (IsUnseen (s.name ∷ seen)) (λ t h. unseen_more s t seen h.0 h.1) ss (both (IsApart s) (IsUnseen seen) ss apart.0 unseen.1))

pub none_seen : (ss : List Signal) → Every (IsUnseen []) ss
none_seen [] = tt
none_seen (s ∷ ss) = (refl, none_seen ss)

apart_with : (s : Signal) (ts : List Signal) → Every (IsApart s) ts → AllApart ts → AllApart (with_declaration s ts)
apart_with s [] apart all = (tt, tt)
apart_with s (t ∷ ts) apart all = by (nat_le s.place t.place) (apart_with s ts apart.1 all.1)
  where
    by : (b : Bool) → AllApart (with_declaration s ts) → AllApart (cond b (s ∷ t ∷ ts) (t ∷ with_declaration s ts))
    by true rest = (apart, all)
    by false rest = (with_one (IsApart t) s ts (λ e. apart.0 (sym e)) all.0, rest)

apart_without : (s : Signal) (ts : List Signal) → AllApart (with_declaration s ts) → Every (IsApart s) ts × AllApart ts
apart_without s [] all = (tt, tt)
apart_without s (t ∷ ts) all = by (nat_le s.place t.place) (apart_without s ts) all
  where
    by : (b : Bool) → (AllApart (with_declaration s ts) → Every (IsApart s) ts × AllApart ts) → AllApart (cond b (s ∷ t ∷ ts) (t ∷ with_declaration s ts)) → Every (IsApart s) (t ∷ ts) × AllApart (t ∷ ts)
    by true rest every = every
    by false rest every =
        let r = rest every.1 in
        let its = without_one (IsApart t) s ts every.0 in
        (((λ e. its.0 (sym e)), r.0), (its.1, r.1))

pub apart_to : (ss : List Signal) → AllApart ss → AllApart (in_text_order ss)
apart_to [] all = tt
apart_to (s ∷ ss) all = apart_with s (in_text_order ss) (to_order (IsApart s) ss all.0) (apart_to ss all.1)

pub apart_from : (ss : List Signal) → AllApart (in_text_order ss) → AllApart ss
apart_from [] all = tt
apart_from (s ∷ ss) all = let r = apart_without s (in_text_order ss) all in (from_order (IsApart s) ss r.0, apart_from ss r.1)

apart_unplaced : (ss : List Signal) → AllApart ss → AllApart (map unplaced ss)
apart_unplaced [] all = tt
apart_unplaced (s ∷ ss) all = (place_all (IsApart (unplaced s)) ss all.0, apart_unplaced ss all.1)

apart_placed : (ss : List Signal) → AllApart (map unplaced ss) → AllApart ss
apart_placed [] all = tt
apart_placed (s ∷ ss) all = (all_placed (IsApart (unplaced s)) ss all.0, apart_placed ss all.1)

abbrev repeats_in : List Signal → Option ℕ
repeats_in ss = first_repeat [] (map (λ (s : Signal). s.name) (in_text_order ss))

pub unplaced_repeats : (ss : List Signal) → repeats_in ss ≡ None → repeats_in (map unplaced ss) ≡ None
unplaced_repeats ss is =
    repeats_none [] (in_text_order (map unplaced ss)) (apart_to (map unplaced ss) (apart_unplaced ss (apart_from ss ((none_repeats [] (in_text_order ss) is).0)))) (none_seen (in_text_order (map unplaced ss)))

pub placed_repeats : (ss : List Signal) → repeats_in (map unplaced ss) ≡ None → repeats_in ss ≡ None
placed_repeats ss is =
    repeats_none [] (in_text_order ss) (apart_to ss (apart_placed ss (apart_from (map unplaced ss) ((none_repeats [] (in_text_order (map unplaced ss)) is).0)))) (none_seen (in_text_order ss))
