-- The ports `in_data` and `out_data` have at most 127 bits: the first declaration of such a name is the port, since no name is
-- declared twice.
use Rattle.std.proofs.Common.{◌≡◌, ◌∙◌, ℕ, zero, suc, ◌+◌, ◌<◌, ◌≤◌, Bool, true, false, not, ◌&&◌, ◌||◌, cond, List, [], ◌∷◌, length, map, Option, None, Some, slice_get, refl, sym, ap, subst, arith, eq-eqb}
use Rattle.std.specs.Prelude.{◌==◌, nat_le, bytes_eq, codes}
use Rattle.std.specs.List.{list_any, position_or_len}
use Rattle.std.specs.Option.{option_map_or, unwrap_or}
use Rattle.std.proofs.lemmas.Bool.{false≢true, leb-true}
use borrow.Author.Tests.{eqb-true}
use Rattle.mr_values.proofs.FilesByName.{bytes_eq-equal}
use Rattle.verilog_tree.specs.declared.tree.Signal.{Signal}
use Rattle.verilog_tree.specs.declared.tree.Kind.{Kind}
use Rattle.verilog_tree.specs.declared.tree.Kind.TheVariants.{Input, Output, Wire, Reg}
use Rattle.verilog_tree.specs.Tree.{Design}
use Rattle.verilog_tree.specs.Names.{declaration_in, shapes_in, shapes_of, text_of, number_of}
use Rattle.verilog_tree.specs.Renaming.{number_in, name_in}
use Rattle.verilog_tree.specs.Checks.{or_else, with_declaration, in_text_order, first_repeat, is_port, is_input_port, Port, is_as, is_right_port, is_data_port, has_port, declarations, Passes, filter_face}
use Rattle.verilog_text.specs.Grammar.{limits}
use Rattle.verilog_text.specs.Shortest.{IsWritable}
use Rattle.verilog_text.proofs.Numbering.{number_of_name}
use Rattle.module_laws.proofs.TextOrder.{Every, from_order, nothing_found}
use Rattle.module_laws.proofs.Passing.{NoneFails, none_fails, none_mapped, no_first}
use Rattle.clock_sim.proofs.PortPlaces.{not_false, port_there, ports_there}

-- ---- no name is declared twice

abbrev IsApart : Signal → Signal → Type 0
IsApart s t = t.name ≡ s.name → ⊥

abbrev AllApart : List Signal → Type 0
AllApart [] = Unit {0}
AllApart (s ∷ ss) = Every (IsApart s) ss × AllApart ss

or_fails : (a b : Bool) → (a || b) ≡ false → (a ≡ false) × (b ≡ false)
or_fails true b e = absurd (cc)
or_fails false b e = (refl, e)

head_passes : (b : Bool) (n : ℕ) (rest : Option ℕ) → or_else (cond b (Some n) None) rest ≡ None → (b ≡ false) × (rest ≡ None)
head_passes true n rest e = absurd (grind arith)
head_passes false n rest e = (refl, e)

-- the names are none of those that were seen
unseen : (seen : List ℕ) (m : ℕ) (ss : List Signal) → list_any (λ k. k == m) seen ≡ true → first_repeat seen (map (λ (s : Signal). s.name) ss) ≡ None → Every (λ (t : Signal). t.name ≡ m → ⊥) ss
unseen seen m [] has is = tt
unseen seen m (t ∷ ss) has is =
    let p = head_passes (list_any (λ k. k == t.name) seen) t.name (first_repeat (t.name ∷ seen) (map (λ (s : Signal). s.name) ss)) is in
    ((λ e. false≢true (sym p.0 ∙ ap (λ n. list_any (λ k. k == n) seen) e ∙ has)), unseen (t.name ∷ seen) m ss (later (t.name == m) (list_any (λ k. k == m) seen) has) p.1)
  where
    later : (a b : Bool) → b ≡ true → (a || b) ≡ true
    later true b h = refl
    later false b h = h

apart : (seen : List ℕ) (ss : List Signal) → first_repeat seen (map (λ (s : Signal). s.name) ss) ≡ None → AllApart ss
apart seen [] is = tt
apart seen (s ∷ ss) is =
    let p = head_passes (list_any (λ m. m == s.name) seen) s.name (first_repeat (s.name ∷ seen) (map (λ (s : Signal). s.name) ss)) is in
    (unseen (s.name ∷ seen) s.name ss (ap (λ (b : Bool). b || list_any (λ m. m == s.name) seen) (eq-eqb s.name s.name refl)) p.1, apart (s.name ∷ seen) ss p.1)

-- an order keeps this
without_one : (P : Signal → Type 0) (s : Signal) (ts : List Signal) → Every P (with_declaration s ts) → P s × Every P ts
without_one P s [] all = (all.0, tt)
without_one P s (t ∷ ts) all = by (nat_le s.place t.place) (without_one P s ts) all
  where
    by : (b : Bool) → (Every P (with_declaration s ts) → P s × Every P ts) → Every P (cond b (s ∷ t ∷ ts) (t ∷ with_declaration s ts)) → P s × Every P (t ∷ ts)
    by true rest every = (every.0, every.1)
    by false rest every = let r = rest every.1 in (r.0, (every.0, r.1))

apart_without : (s : Signal) (ts : List Signal) → AllApart (with_declaration s ts) → Every (IsApart s) ts × AllApart ts
apart_without s [] all = (tt, tt)
apart_without s (t ∷ ts) all = by (nat_le s.place t.place) (apart_without s ts) all
  where
    by : (b : Bool) → (AllApart (with_declaration s ts) → Every (IsApart s) ts × AllApart ts) → AllApart (cond b (s ∷ t ∷ ts) (t ∷ with_declaration s ts)) → Every (IsApart s) (t ∷ ts) × AllApart (t ∷ ts)
    by true rest every = every
    by false rest every =
        let r = rest every.1 in
        let its = without_one (IsApart t) s ts every.0 in
        (((λ e. its.0 (sym e)), r.0), (its.1, r.1))

apart_from : (ss : List Signal) → AllApart (in_text_order ss) → AllApart ss
apart_from [] all = tt
apart_from (s ∷ ss) all = let r = apart_without s (in_text_order ss) all in (from_order (IsApart s) ss r.0, apart_from ss r.1)

-- ---- the first declaration of a port's name

abbrev is_port_named : ℕ → Signal → Bool
is_port_named n s = is_port s.kind && s.name == n

abbrev IsNarrowPort : ℕ → Signal → Type 0
IsNarrowPort n s = is_port s.kind ≡ true → s.name ≡ n → s.width ≤ 127

none_named : (n : ℕ) (ss : List Signal) → Every (λ (t : Signal). t.name ≡ n → ⊥) ss → list_any (is_port_named n) ss ≡ true → ⊥
none_named n [] others is = false≢true is
none_named n (t ∷ ss) others is = by (is_port t.kind) (t.name == n) refl is (none_named n ss others.1)
  where
    by : (a b : Bool) → (t.name == n) ≡ b → ((a && b) || list_any (is_port_named n) ss) ≡ true → (list_any (is_port_named n) ss ≡ true → ⊥) → ⊥
    by a true e is rest = others.0 (eqb-true t.name n e)
    by true false e is rest = rest is
    by false false e is rest = rest is

narrow_first : (n : ℕ) (ss : List Signal) → AllApart ss → Every (IsNarrowPort n) ss → list_any (is_port_named n) ss ≡ true → (shapes_in ss).width n ≤ 127
narrow_first n [] apart narrow is = absurd (false≢true is)
narrow_first n (s ∷ ss) apart narrow is = by (is_port s.kind) (s.name == n) refl refl is (narrow_first n ss apart.1 narrow.1)
  where
    other : s.name ≡ n → Every (λ (t : Signal). t.name ≡ n → ⊥) ss
    other e = subst (λ (m : ℕ). Every (λ (t : Signal). t.name ≡ m → ⊥) ss) e apart.0

    by : (a b : Bool) → is_port s.kind ≡ a → (s.name == n) ≡ b → ((a && b) || list_any (is_port_named n) ss) ≡ true → (list_any (is_port_named n) ss ≡ true → (shapes_in ss).width n ≤ 127)
        → option_map_or (λ (s : Signal). s.width) (cond b (Some s) (declaration_in ss n)) 1 ≤ 127
    by true true port e is rest = narrow.0 port (eqb-true s.name n e)
    by false true port e is rest = absurd (none_named n ss (other (eqb-true s.name n e)) is)
    by true false port e is rest = rest is
    by false false port e is rest = rest is

-- ---- the names of the ports

passes_at : (p : List ℕ → Bool) (names : List (List ℕ)) → position_or_len p names < length names → p (name_in names (position_or_len p names)) ≡ true
passes_at p [] lt = absurd (omega arith)
passes_at p (x ∷ names) lt = by (p x) refl lt (passes_at p names)
  where
    by : (b : Bool) → p x ≡ b → cond (not b) (1 + position_or_len p names) 0 < suc (length names) → (position_or_len p names < length names → p (name_in names (position_or_len p names)) ≡ true)
        → p (name_in (x ∷ names) (cond (not b) (1 + position_or_len p names) 0)) ≡ true
    by true e lt rest = e
    by false e lt rest =
        let next : 1 + position_or_len p names ≡ suc (position_or_len p names) = omega arith in
        ap (λ (k : ℕ). p (name_in (x ∷ names) k)) next ∙ rest (omega arith)

text-name : (names : List (List ℕ)) (n : ℕ) → unwrap_or (slice_get names n) [] ≡ name_in names n
text-name [] n = refl
text-name (x ∷ names) zero = refl
text-name (x ∷ names) (suc n) = text-name names n

some_inside : (names : List (List ℕ)) (n c : ℕ) (cs : List ℕ) → name_in names n ≡ c ∷ cs → n < length names
some_inside [] n c cs e = cc
some_inside (x ∷ names) zero c cs e = omega arith
some_inside (x ∷ names) (suc n) c cs e = omega (arith, some_inside names n c cs e)

module _ (d : Design) (formed : IsWritable limits d) (passes : Passes d) (c : ℕ) (cs : List ℕ) (there : has_port d (c ∷ cs) ≡ true) where
  abbrev text : List ℕ
  text = c ∷ cs

  abbrev number : ℕ
  number = number_of d text

  inside : number < length d.names
  inside = port_there d c cs there

  its_name : name_in d.names number ≡ text
  its_name = sym (bytes_eq-equal text (name_in d.names number) (passes_at (bytes_eq text) d.names inside))

  its_text : text_of d number ≡ text
  its_text = text-name d.names number ∙ its_name

  -- a signal with this text has this number
  same_number : (n : ℕ) → text_of d n ≡ text → n ≡ number
  same_number n is =
      let named : name_in d.names n ≡ text = sym (text-name d.names n) ∙ is in
      sym (number_of_name d.names n formed.distinct (some_inside d.names n c cs named)) ∙ ap (number_in d.names) (named ∙ sym its_name) ∙ number_of_name d.names number formed.distinct inside

  any_named : (ss : List Signal) → list_any (λ (s : Signal). is_port s.kind && bytes_eq (text_of d s.name) text) ss ≡ true → list_any (is_port_named number) ss ≡ true
  any_named [] is = is
  any_named (s ∷ ss) is = by (is_port s.kind) (bytes_eq (text_of d s.name) text) refl is (any_named ss)
    where
      later : (a b : Bool) → b ≡ true → (a || b) ≡ true
      later true b h = refl
      later false b h = h

      by : (a b : Bool) → bytes_eq (text_of d s.name) text ≡ b → ((a && b) || list_any (λ (s : Signal). is_port s.kind && bytes_eq (text_of d s.name) text) ss) ≡ true
          → (list_any (λ (s : Signal). is_port s.kind && bytes_eq (text_of d s.name) text) ss ≡ true → list_any (is_port_named number) ss ≡ true) → ((a && s.name == number) || list_any (is_port_named number) ss) ≡ true
      by true true e is rest = ap (λ (b : Bool). b || list_any (is_port_named number) ss) (eq-eqb s.name number (same_number s.name (bytes_eq-equal (text_of d s.name) text e)))
      by true false e is rest = later (s.name == number) _ (rest is)
      by false b e is rest = rest is

  checks : NoneFails filter_face d
  checks = none_fails filter_face d passes.early

  narrow_port : ((s : Signal) → text_of d s.name ≡ text → is_right_port filter_face d s ≡ true → s.width ≤ 127) → (shapes_of d).width number ≤ 127
  narrow_port right = narrow_first number d.signals (apart_from d.signals (apart [] (in_text_order d.signals) checks.redeclares)) (each d.signals wrong) (any_named d.signals there)
    where
      wrong : Every (λ (s : Signal). (is_port s.kind && not (is_right_port filter_face d s)) ≡ false) d.signals
      wrong = from_order (λ (s : Signal). (is_port s.kind && not (is_right_port filter_face d s)) ≡ false) d.signals
          (nothing_found (λ (s : Signal). is_port s.kind && not (is_right_port filter_face d s)) (declarations d) (none_mapped (λ (s : Signal). text_of d s.name) _ (no_first _ _ checks.ports)))

      of : (a b : Bool) → (a && not b) ≡ false → a ≡ true → b ≡ true
      of true true e h = refl
      of true false e h = absurd (false≢true (sym e))
      of false b e h = absurd (false≢true h)

      each : (ss : List Signal) → Every (λ (s : Signal). (is_port s.kind && not (is_right_port filter_face d s)) ≡ false) ss → Every (IsNarrowPort number) ss
      each [] all = tt
      each (s ∷ ss) all = ((λ port e. right s (ap (text_of d) e ∙ its_text) (of (is_port s.kind) (is_right_port filter_face d s) all.0 port)), each ss all.1)

data_narrow : (s : Signal) → is_data_port s ≡ true → s.width ≤ 127
data_narrow s is = leb-true s.width 127 (second (nat_le 1 s.width) (nat_le s.width 127) is)
  where
    second : (a b : Bool) → (a && b) ≡ true → b ≡ true
    second true b e = e
    second false b e = absurd (false≢true e)

abbrev IsRight : Signal → List ℕ → Type 0
IsRight s text = list_any (λ (p : Port). is_as p text s) filter_face ≡ true

second_holds : (a b : Bool) → ((a && b) || false) ≡ true → b ≡ true
second_holds true true e = refl
second_holds true false e = absurd (false≢true e)
second_holds false b e = absurd (false≢true e)

right_in : (s : Signal) → IsRight s (codes "in_data") → s.width ≤ 127
right_in s is = data_narrow s (second_holds (is_input_port s.kind) (is_data_port s) is)

right_out : (s : Signal) → IsRight s (codes "out_data") → s.width ≤ 127
right_out s is = data_narrow s (second_holds (not (is_input_port s.kind)) (is_data_port s) is)

pub in_data_narrow : (d : Design) → IsWritable limits d → Passes d → (shapes_of d).width (number_of d (codes "in_data")) ≤ 127
in_data_narrow d formed passes = narrow_port d formed passes 105 (codes "n_data") (not_false _ (ports_there d passes).1.1.1.0) (λ s e is. right_in s (subst (IsRight s) e is))

pub out_data_narrow : (d : Design) → IsWritable limits d → Passes d → (shapes_of d).width (number_of d (codes "out_data")) ≤ 127
out_data_narrow d formed passes = narrow_port d formed passes 111 (codes "ut_data") (not_false _ (ports_there d passes).1.1.1.1.1.0) (λ s e is. right_out s (subst (IsRight s) e is))
