-- No assignment of a module that passes the checks drives an input port.
use Rattle.std.proofs.Common.{◌≡◌, ℕ, zero, suc, ◌+◌, ◌<◌, Bool, true, false, not, ◌&&◌, ◌||◌, cond, List, [], ◌∷◌, length, Option, Some, slice_get, find, refl, sym, ◌∙◌, ap, arith, subst, ◌⊎◌, inl, inr}
use Rattle.std.specs.Prelude.{bytes_eq, codes}
use Rattle.std.specs.List.{list_any, position_or_len}
use Rattle.std.specs.Option.{option_map_or, unwrap_or}
use Rattle.std.proofs.lemmas.Bool.{eq-eqb, ne_eqb, cases_Bool}
use Rattle.std.proofs.lemmas.Option.{slice_get_within}
use Rattle.std.proofs.lemmas.Slice.Eq.{bytes_eq-Decides}
use Rattle.verilog_tree.specs.declared.tree.Kind.{Kind}
use Rattle.verilog_tree.specs.declared.tree.Kind.TheVariants.{Input, Output, Wire, Reg}
use Rattle.verilog_tree.specs.declared.tree.Signal.{Signal}
use Rattle.verilog_tree.specs.Tree.{Tree, Trees, Name, Bit, Part, Plain, Based, Cat, Not, Binary, Shift, Choice, none, more, Assignment, Design}
use Rattle.verilog_tree.specs.Names.{declaration_in, text_of, number_of}
use Rattle.verilog_tree.specs.Renaming.{name_in, number_in, AreDistinct}
use Rattle.verilog_tree.specs.Checks.{Use, Assigned, tree_uses, trees_uses, assigns_uses, blocks_uses, uses, used_name, is_port, is_input_port, is_bit_port, is_data_port, Port, Face, filter_face, face_names, is_as, is_right_port, has_port, port_names, declarations, is_of_kind, can_be_assigned, is_wrong_use, Passes, PassesAs}
use Rattle.verilog_text.proofs.Numbering.{number_of_name}
use Rattle.module_laws.proofs.TextOrder.{Every, from_order, nothing_found, AllApart, IsApart, none_repeats, apart_from}
use Rattle.module_laws.proofs.Passing.{NoneFails, none_fails, none_mapped, no_second, no_first}

pub true_of : (b : Bool) → not b ≡ false → b ≡ true
true_of true e = refl
true_of false e = absurd (cc)

pub both_true : (a b : Bool) → (a && b) ≡ true → (a ≡ true) × (b ≡ true)
both_true true b e = (refl, e)
both_true false b e = absurd (cc)

-- ---- one of the declarations

abbrev pub Among : Signal → List Signal → Type 0
Among s [] = ⊥
Among s (t ∷ ts) = (s ≡ t) ⊎ Among s ts

every_among : (P : Signal → Type 0) (s : Signal) (ss : List Signal) → Every P ss → Among s ss → P s
every_among P s [] all among = absurd among
every_among P s (t ∷ ts) all (inl is) = subst P (sym is) all.0
every_among P s (t ∷ ts) all (inr among) = every_among P s ts all.1 among

pub some_among : (test : Signal → Bool) (ss : List Signal) → list_any test ss ≡ true → (s : Signal) × Among s ss × (test s ≡ true)
some_among test [] is = absurd (cc)
some_among test (s ∷ ss) is = by (test s) refl is (some_among test ss)
  where
    by : (b : Bool) → test s ≡ b → (b || list_any test ss) ≡ true → (list_any test ss ≡ true → (t : Signal) × Among t ss × (test t ≡ true)) → (t : Signal) × Among t (s ∷ ss) × (test t ≡ true)
    by true e is rest = (s, inl refl, e)
    by false e is rest = let r = rest is in (r.0, inr r.1, r.2)

-- where no name is declared twice, a declaration is the first of its name
pub declared_once : (ss : List Signal) → AllApart ss → (s : Signal) → Among s ss → declaration_in ss s.name ≡ Some s
declared_once [] apart s among = absurd among
declared_once (t ∷ ts) apart s (inl is) =
    ap (λ (b : Bool). cond b (Some t) (declaration_in ts s.name)) (eq-eqb t.name s.name (sym (ap (λ (x : Signal). x.name) is))) ∙ ap Some (sym is)
declared_once (t ∷ ts) apart s (inr among) =
    ap (λ (b : Bool). cond b (Some t) (declaration_in ts s.name)) (ne_eqb t.name s.name (λ e. every_among (IsApart t) s ts apart.0 among (sym e)))
    ∙ declared_once ts apart.1 s among

-- ---- the uses of names behind others

mutual
  behind_tree : (P : Use → Type 0) (e : Tree) (rest : List Use) → Every P (tree_uses e rest) → Every P rest
  behind_tree P (Name n) rest all = all.1
  behind_tree P (Bit n place) rest all = all.1
  behind_tree P (Part n high low) rest all = all.1
  behind_tree P (Plain x) rest all = all
  behind_tree P (Based width signed bits) rest all = all
  behind_tree P (Cat members) rest all = behind_trees P members rest all
  behind_tree P (Not a) rest all = behind_tree P a rest all
  behind_tree P (Binary op a b) rest all = behind_tree P b rest (behind_tree P a (tree_uses b rest) all)
  behind_tree P (Shift op a amount) rest all = behind_tree P a rest all
  behind_tree P (Choice condition a b) rest all =
      behind_tree P b rest (behind_tree P a (tree_uses b rest) (behind_tree P condition (tree_uses a (tree_uses b rest)) all))

  behind_trees : (P : Use → Type 0) (es : Trees) (rest : List Use) → Every P (trees_uses es rest) → Every P rest
  behind_trees P none rest all = all
  behind_trees P (more first others) rest all = behind_trees P others rest (behind_tree P first (trees_uses others rest) all)

target_used : (P : Use → Type 0) (assigns : List Assignment) (rest : List Use) → Every P (assigns_uses assigns rest) → (k : ℕ) (a : Assignment) → slice_get assigns k ≡ Some a → P (Assigned a.target)
target_used P [] rest all k a at = absurd (omega (arith, slice_get_within {A = Assignment} [] k a at))
target_used P (b ∷ assigns) rest all zero a at =
    let same : b ≡ a = cc in
    subst (λ (x : Assignment). P (Assigned x.target)) same all.0
target_used P (b ∷ assigns) rest all (suc k) a at = target_used P assigns rest (behind_tree P b.value (assigns_uses assigns rest) all.1) k a at

-- ---- names by their texts

-- among different names each is the first with its text
pub first_with_text : (names : List (List ℕ)) (n : ℕ) → AreDistinct names → n < length names → position_or_len (bytes_eq (name_in names n)) names ≡ n
first_with_text [] n distinct h = absurd (omega arith)
first_with_text (name ∷ names) zero distinct h =
    ap (λ (b : Bool). cond (not b) (1 + position_or_len (bytes_eq name) names) 0) ((bytes_eq-Decides name name).1 refl)
first_with_text (name ∷ names) (suc n) distinct h =
    elim (cases_Bool (bytes_eq (name_in names n) name)) [
      | inl e ↦ absurd (let same = ap (number_in names) ((bytes_eq-Decides (name_in names n) name).0 e) in omega (arith, same, number_of_name names n distinct.1 (omega (arith, h)), distinct.0))
      | inr e ↦ ap (λ (b : Bool). cond (not b) (1 + position_or_len (bytes_eq (name_in names n)) names) 0) e ∙ ap (λ (k : ℕ). 1 + k) (first_with_text names n distinct.1 (omega (arith, h))) ∙ (omega arith)
    ]

pub read_name : (names : List (List ℕ)) (n c : ℕ) (text : List ℕ) → unwrap_or (slice_get names n) [] ≡ c ∷ text → (n < length names) × (name_in names n ≡ c ∷ text)
read_name [] n c text is = absurd (cc)
read_name (name ∷ names) zero c text is = (omega arith, is)
read_name (name ∷ names) (suc n) c text is = let r = read_name names n c text is in (omega (arith, r.0), r.1)

-- ---- each port of the face is there

pub face_there : (face : Face) (d : Design) → PassesAs face d → Every (λ text. not (has_port d text) ≡ false) (face_names face)
face_there face d passes = nothing_found (λ text. not (has_port d text)) (face_names face) (no_second _ _ (none_fails face d passes.early).ports)

every_at : (P : List ℕ → Type 0) (texts : List (List ℕ)) (k : ℕ) (text : List ℕ) → Every P texts → slice_get texts k ≡ Some text → P text
every_at P [] k text all at = absurd (cc)
every_at P (t ∷ texts) zero text all at = let same : t ≡ text = cc in subst P same all.0
every_at P (t ∷ texts) (suc k) text all at = every_at P texts k text all.1 at

pub port_there : (face : Face) (d : Design) → PassesAs face d → (k : ℕ) (text : List ℕ) → slice_get (face_names face) k ≡ Some text → has_port d text ≡ true
port_there face d passes k text at = true_of (has_port d text) (every_at (λ t. not (has_port d t) ≡ false) (face_names face) k text (face_there face d passes) at)

-- ---- what is assigned is no input port

module _ (d : Design) (passes : Passes d) (distinct : AreDistinct d.names) where
  none_wrong : NoneFails filter_face d
  none_wrong = none_fails filter_face d passes.early

  apart : AllApart d.signals
  apart = apart_from d.signals ((none_repeats [] (declarations d) none_wrong.redeclares).0)

  right_ports : Every (λ (s : Signal). (is_port s.kind && not (is_right_port filter_face d s)) ≡ false) d.signals
  right_ports =
      from_order _ d.signals (nothing_found (λ (s : Signal). is_port s.kind && not (is_right_port filter_face d s)) (declarations d) (none_mapped (λ (s : Signal). text_of d s.name) _ (no_first _ (find (λ text. not (has_port d text)) port_names) none_wrong.ports)))

  assigned_kind : (k : ℕ) (a : Assignment) → slice_get d.assigns k ≡ Some a → is_of_kind can_be_assigned d a.target ≡ true
  assigned_kind k a at =
      true_of (is_of_kind can_be_assigned d a.target)
      (target_used (λ u. is_wrong_use d u ≡ false) d.assigns (blocks_uses d.blocks) (nothing_found (is_wrong_use d) (uses d) (none_mapped used_name _ none_wrong.kinds)) k a at)

  is_input : (s : Signal) → is_port s.kind ≡ true → (is_port s.kind && not (is_right_port filter_face d s)) ≡ false → (s.kind ≡ Output → is_right_port filter_face d s ≡ false) → s.kind ≡ Input
  is_input s port right output = by s.kind refl
    where
      by : (kind : Kind) → s.kind ≡ kind → s.kind ≡ Input
      by Input e = e
      by Output e = absurd (let never = output e in cc)
      by Wire e = absurd (cc)
      by Reg e = absurd (cc)

  -- the name of a port that is no output is not assigned
  undriven : (c : ℕ) (text : List ℕ) → has_port d (c ∷ text) ≡ true → ((s : Signal) → s.kind ≡ Output → list_any (λ (p : Port). is_as p (c ∷ text) s) filter_face ≡ false)
      → (k : ℕ) (a : Assignment) → slice_get d.assigns k ≡ Some a → a.target ≡ number_of d (c ∷ text) → ⊥
  undriven c text there no_output k a at is =
      let found = some_among (λ (s : Signal). is_port s.kind && bytes_eq (text_of d s.name) (c ∷ text)) d.signals there in
      let s = found.0 in
      let parts = both_true (is_port s.kind) (bytes_eq (text_of d s.name) (c ∷ text)) found.2 in
      let same = (bytes_eq-Decides (text_of d s.name) (c ∷ text)).0 parts.1 in
      let read = read_name d.names s.name c text same in
      let number : number_of d (c ∷ text) ≡ s.name = ap (λ (x : List ℕ). position_or_len (bytes_eq x) d.names) (sym read.1) ∙ first_with_text d.names s.name distinct read.0 in
      let input = is_input s parts.0 (every_among _ s d.signals right_ports found.1) (λ e. ap (λ (x : List ℕ). list_any (λ (p : Port). is_as p x s) filter_face) same ∙ no_output s e) in
      let kind : is_of_kind can_be_assigned d (a.target) ≡ false = ap (is_of_kind can_be_assigned d) (is ∙ number) ∙ ap (λ (o : Option Signal). option_map_or (λ (t : Signal). can_be_assigned t.kind) o false) (declared_once d.signals apart s found.1) ∙ ap can_be_assigned input in
      absurd (cc (sym (assigned_kind k a at) ∙ kind))

  pub ports_there : Every (λ text. not (has_port d text) ≡ false) port_names
  ports_there = face_there filter_face d passes

  pub rst_undriven : (k : ℕ) (a : Assignment) → slice_get d.assigns k ≡ Some a → a.target ≡ number_of d (codes "rst") → ⊥
  rst_undriven = undriven 114 (codes "st") (true_of _ ports_there.1.0) (λ s e. ap (λ (k : Kind). (is_input_port k && is_bit_port s) || false) e)

  pub ce_undriven : (k : ℕ) (a : Assignment) → slice_get d.assigns k ≡ Some a → a.target ≡ number_of d (codes "ce") → ⊥
  ce_undriven = undriven 99 (codes "e") (true_of _ ports_there.1.1.0) (λ s e. ap (λ (k : Kind). (is_input_port k && is_bit_port s) || false) e)

  pub in_data_undriven : (k : ℕ) (a : Assignment) → slice_get d.assigns k ≡ Some a → a.target ≡ number_of d (codes "in_data") → ⊥
  in_data_undriven = undriven 105 (codes "n_data") (true_of _ ports_there.1.1.1.0) (λ s e. ap (λ (k : Kind). (is_input_port k && is_data_port s) || false) e)
