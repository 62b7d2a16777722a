-- Modules that are alike have the same checks, but for the signal that a check names.
use Rattle.std.proofs.Common.{◌≡◌, ℕ, Bool, false, cond, not, ◌&&◌, ◌||◌, List, [], find, Option, None, Some, refl, sym, ◌∙◌, ap}
use Rattle.std.specs.Prelude.{◌==◌, nat_le, nat_lt, is_some, bytes_eq, codes}
use Rattle.std.specs.List.{list_any}
use Rattle.std.specs.Option.{option_map, option_map_or}
use Rattle.std.proofs.Math.Path.{fun_ext}
use Rattle.verilog_tree.specs.declared.tree.Signal.{Signal}
use Rattle.verilog_tree.specs.declared.tree.Kind.{Kind}
use Rattle.verilog_tree.specs.Alike.{SameName, IsAlikeSignal, IsAlike}
use Rattle.verilog_tree.specs.Checks.{or_else, Use, Assigned, Given, Read, Selected, used_name, uses, is_declared, undeclared, is_port, is_input_port, Port, Face, face_names, is_as, is_right_port, has_port, wrong_port, is_of_kind, can_be_assigned, can_be_given, is_clock, is_wrong_use, wrong_kind, is_over, has_over, Side, sides, width_over, is_bad_select, bad_select, Drive, drives, many_drivers, needs_driver, is_driven, no_driver, declarations, named}
use Rattle.verilog_tree.specs.Names.{declaration_in, shapes_of, text_of}
use Rattle.verilog_tree.specs.Renaming.{AreDistinct}
use Rattle.verilog_tree.specs.Tree.{Design}
use Rattle.module_laws.proofs.TextOrder.{AllApart}
use Rattle.alike_laws.proofs.Matching.{same_equal, same_texts}
use Rattle.alike_laws.proofs.Trees.{AreShapedAlike, same_over}
use Rattle.alike_laws.proofs.Uses.{Beside, stops, beside_find, beside_any, IsAlikeUse, alike_uses}
use Rattle.alike_laws.proofs.Drives.{IsAlikeDrive, alike_drives, same_shared, IsAlikeSide, alike_sides}
use Rattle.alike_laws.proofs.Signals.{AreDeclaredAlike, same_any, same_found, declared_alike}

mapped : {A B : Type 0} (f : A → B) (o : Option A) → is_some (option_map f o) ≡ is_some o
mapped f None = refl
mapped f (Some x) = refl

either : {A : Type 0} (a b : Option A) → is_some (or_else a b) ≡ (is_some a || is_some b)
either None b = refl
either (Some x) b = refl

module _ (d e : Design) (alike : IsAlike d e) (distinct_d : AreDistinct d.names) (distinct_e : AreDistinct e.names) where
  abbrev Same : ℕ → ℕ → Type 0
  Same = SameName d.names e.names

  equal : (m n k l : ℕ) → Same m n → Same k l → (m == k) ≡ (n == l)
  equal = same_equal d.names e.names distinct_d distinct_e

  texts : (m n : ℕ) → Same m n → text_of d m ≡ text_of e n
  texts = same_texts d.names e.names distinct_d distinct_e

  all_uses : Beside (IsAlikeUse Same) (uses d) (uses e)
  all_uses = alike_uses Same d.assigns e.assigns d.blocks e.blocks alike.assigns alike.blocks

  all_drives : Beside (IsAlikeDrive Same) (drives d) (drives e)
  all_drives = alike_drives Same d e alike.assigns alike.blocks

  all_sides : Beside (IsAlikeSide Same) (sides d) (sides e)
  all_sides = alike_sides Same d e alike.assigns alike.blocks

  -- ---- two drivers, and none

  pub same_many : is_some (many_drivers d) ≡ is_some (many_drivers e)
  same_many = same_shared Same equal [] [] (drives d) (drives e) stops all_drives

  same_driven : (m n : ℕ) → Same m n → is_driven d m ≡ is_driven e n
  same_driven m n h = beside_any (IsAlikeDrive Same) (λ (x : Drive). x.name == m) (λ (y : Drive). y.name == n) (λ x y g. equal x.name y.name m n g.name h) (drives d) (drives e) all_drives

  pub same_undriven : is_some (no_driver d) ≡ is_some (no_driver e)
  same_undriven =
      mapped (λ (s : Signal). s.name) (find (λ (s : Signal). needs_driver s.kind && not (is_driven d s.name)) (declarations d))
      ∙ same_found d e alike distinct_d distinct_e (λ s. needs_driver s.kind && not (is_driven d s.name)) (λ t. needs_driver t.kind && not (is_driven e t.name))
      (λ s t a. λ i. needs_driver (a.kind i) && not (same_driven s.name t.name a.name i))
      ∙ sym (mapped (λ (s : Signal). s.name) (find (λ (s : Signal). needs_driver s.kind && not (is_driven e s.name)) (declarations e)))

  -- ---- ports

  as_port : (p : Port) (text other : List ℕ) (s t : Signal) → text ≡ other → IsAlikeSignal Same s t → is_as p text s ≡ is_as p other t
  as_port p text other s t named a = λ i.
      bytes_eq (named i) p.text && (cond p.input (is_input_port (a.kind i)) (not (is_input_port (a.kind i))) && cond p.bit (not (a.ranged i) && (not (a.signed i) && a.width i == 1)) (nat_le 1 (a.width i) && nat_le (a.width i) 127))

  right_port : (face : Face) (s t : Signal) → IsAlikeSignal Same s t → is_right_port face d s ≡ is_right_port face e t
  right_port face s t a = ap (λ (test : Port → Bool). list_any test face) (fun_ext (λ p. as_port p (text_of d s.name) (text_of e t.name) s t (texts s.name t.name a.name) a))

  same_port : (text : List ℕ) → has_port d text ≡ has_port e text
  same_port text =
      same_any d e alike distinct_d distinct_e (λ s. is_port s.kind && bytes_eq (text_of d s.name) text) (λ t. is_port t.kind && bytes_eq (text_of e t.name) text)
      (λ s t a. λ i. is_port (a.kind i) && bytes_eq (texts s.name t.name a.name i) text)

  abbrev wrong : Face → Design → Option Signal
  wrong face f = find (λ (s : Signal). is_port s.kind && not (is_right_port face f s)) (declarations f)

  abbrev missing : Face → Design → Option (List ℕ)
  missing face f = find (λ text. not (has_port f text)) (face_names face)

  pub same_ports : (face : Face) → is_some (wrong_port face d) ≡ is_some (wrong_port face e)
  same_ports face =
      either (option_map (λ (s : Signal). text_of d s.name) (wrong face d)) (missing face d)
      ∙ (λ i. parts i || is_some (absent i))
      ∙ sym (either (option_map (λ (s : Signal). text_of e s.name) (wrong face e)) (missing face e))
    where
      parts : is_some (option_map (λ (s : Signal). text_of d s.name) (wrong face d)) ≡ is_some (option_map (λ (s : Signal). text_of e s.name) (wrong face e))
      parts =
          mapped (λ (s : Signal). text_of d s.name) (wrong face d)
          ∙ same_found d e alike distinct_d distinct_e (λ s. is_port s.kind && not (is_right_port face d s)) (λ t. is_port t.kind && not (is_right_port face e t)) (λ s t a. λ i. is_port (a.kind i) && not (right_port face s t a i))
          ∙ sym (mapped (λ (s : Signal). text_of e s.name) (wrong face e))

      absent : missing face d ≡ missing face e
      absent = ap (λ (test : List ℕ → Bool). find (λ text. not (test text)) (face_names face)) (fun_ext same_port)

  -- ---- where no name is declared twice

  module _ (apart_d : AllApart d.signals) (apart_e : AllApart e.signals) where
    -- what is read of the declarations of names that are the same
    read_both : {A : Type 0} (of : Signal → A) (other : A) (o r : Option Signal) → ((s t : Signal) → IsAlikeSignal Same s t → of s ≡ of t) → AreDeclaredAlike Same o r → option_map_or of o other ≡ option_map_or of r other
    read_both of other None None agree h = refl
    read_both of other (Some s) (Some t) agree h = agree s t h
    read_both of other None (Some t) agree h = absurd h
    read_both of other (Some s) None agree h = absurd h

    read_declared : {A : Type 0} (of : Signal → A) (other : A) → ((s t : Signal) → IsAlikeSignal Same s t → of s ≡ of t) → (m n : ℕ) → Same m n
        → option_map_or of (declaration_in d.signals m) other ≡ option_map_or of (declaration_in e.signals n) other
    read_declared of other agree m n h =
        read_both of other (declaration_in d.signals m) (declaration_in e.signals n) agree (declared_alike d e alike distinct_d distinct_e apart_d apart_e m n h)

    some_both : (o r : Option Signal) → AreDeclaredAlike Same o r → is_some o ≡ is_some r
    some_both None None h = refl
    some_both (Some s) (Some t) h = refl
    some_both None (Some t) h = absurd h
    some_both (Some s) None h = absurd h

    pub shaped : AreShapedAlike Same (shapes_of d) (shapes_of e)
    shaped = record {
      width = read_declared (λ (s : Signal). s.width) 1 (λ s t a. a.width);
      signed = read_declared (λ (s : Signal). s.signed) false (λ s t a. a.signed);
    }

    pub same_of_kind : (is : Kind → Bool) (m n : ℕ) → Same m n → is_of_kind is d m ≡ is_of_kind is e n
    same_of_kind is m n h = read_declared (λ (s : Signal). is s.kind) false (λ s t a. ap is a.kind) m n h

    same_is_declared : (m n : ℕ) → Same m n → is_declared d m ≡ is_declared e n
    same_is_declared m n h = some_both (declaration_in d.signals m) (declaration_in e.signals n) (declared_alike d e alike distinct_d distinct_e apart_d apart_e m n h)

    -- a test of uses that says the same of those that are alike
    same_use : (p q : Use → Bool) → ((u v : Use) → IsAlikeUse Same u v → p u ≡ q v) → is_some (option_map used_name (find p (uses d))) ≡ is_some (option_map used_name (find q (uses e)))
    same_use p q agree =
        mapped used_name (find p (uses d)) ∙ beside_find (IsAlikeUse Same) p q agree (uses d) (uses e) all_uses ∙ sym (mapped used_name (find q (uses e)))

    declared_use : (u v : Use) → IsAlikeUse Same u v → not (is_declared d (used_name u)) ≡ not (is_declared e (used_name v))
    declared_use (Assigned m) (Assigned n) h = ap not (same_is_declared m n h)
    declared_use (Given m) (Given n) h = ap not (same_is_declared m n h)
    declared_use (Read m) (Read n) h = ap not (same_is_declared m n h)
    declared_use (Selected m high low) (Selected n upper lower) h = ap not (same_is_declared m n h.0)
    declared_use (Assigned m) (Given n) h = absurd h
    declared_use (Assigned m) (Read n) h = absurd h
    declared_use (Assigned m) (Selected n upper lower) h = absurd h
    declared_use (Given m) (Assigned n) h = absurd h
    declared_use (Given m) (Read n) h = absurd h
    declared_use (Given m) (Selected n upper lower) h = absurd h
    declared_use (Read m) (Assigned n) h = absurd h
    declared_use (Read m) (Given n) h = absurd h
    declared_use (Read m) (Selected n upper lower) h = absurd h
    declared_use (Selected m high low) (Assigned n) h = absurd h
    declared_use (Selected m high low) (Given n) h = absurd h
    declared_use (Selected m high low) (Read n) h = absurd h

    same_clock : (m n : ℕ) → Same m n → is_clock d m ≡ is_clock e n
    same_clock m n h = ap (λ (text : List ℕ). bytes_eq text (codes "clk")) (texts m n h)

    wrong_use : (u v : Use) → IsAlikeUse Same u v → is_wrong_use d u ≡ is_wrong_use e v
    wrong_use (Assigned m) (Assigned n) h = ap not (same_of_kind can_be_assigned m n h)
    wrong_use (Given m) (Given n) h = ap not (same_of_kind can_be_given m n h)
    wrong_use (Read m) (Read n) h = same_clock m n h
    wrong_use (Selected m high low) (Selected n upper lower) h = same_clock m n h.0
    wrong_use (Assigned m) (Given n) h = absurd h
    wrong_use (Assigned m) (Read n) h = absurd h
    wrong_use (Assigned m) (Selected n upper lower) h = absurd h
    wrong_use (Given m) (Assigned n) h = absurd h
    wrong_use (Given m) (Read n) h = absurd h
    wrong_use (Given m) (Selected n upper lower) h = absurd h
    wrong_use (Read m) (Assigned n) h = absurd h
    wrong_use (Read m) (Given n) h = absurd h
    wrong_use (Read m) (Selected n upper lower) h = absurd h
    wrong_use (Selected m high low) (Assigned n) h = absurd h
    wrong_use (Selected m high low) (Given n) h = absurd h
    wrong_use (Selected m high low) (Read n) h = absurd h

    within : (high upper low lower m n : ℕ) → high ≡ upper → low ≡ lower → Same m n
        → option_map_or (λ (s : Signal). s.ranged && (nat_lt high s.width && nat_le low high)) (declaration_in d.signals m) false ≡ option_map_or (λ (s : Signal). s.ranged && (nat_lt upper s.width && nat_le lower upper)) (declaration_in e.signals n) false
    within high upper low lower m n up down h =
        read_declared (λ (s : Signal). s.ranged && (nat_lt high s.width && nat_le low high)) false (λ s t a. λ i. a.ranged i && (nat_lt high (a.width i) && nat_le low high)) m n h
        ∙ (λ i. option_map_or (λ (s : Signal). s.ranged && (nat_lt (up i) s.width && nat_le (down i) (up i))) (declaration_in e.signals n) false)

    bad_use : (u v : Use) → IsAlikeUse Same u v → is_bad_select d u ≡ is_bad_select e v
    bad_use (Assigned m) (Assigned n) h = refl
    bad_use (Given m) (Given n) h = refl
    bad_use (Read m) (Read n) h = refl
    bad_use (Selected m high low) (Selected n upper lower) h = ap not (within high upper low lower m n h.1 h.2 h.0)
    bad_use (Assigned m) (Given n) h = absurd h
    bad_use (Assigned m) (Read n) h = absurd h
    bad_use (Assigned m) (Selected n upper lower) h = absurd h
    bad_use (Given m) (Assigned n) h = absurd h
    bad_use (Given m) (Read n) h = absurd h
    bad_use (Given m) (Selected n upper lower) h = absurd h
    bad_use (Read m) (Assigned n) h = absurd h
    bad_use (Read m) (Given n) h = absurd h
    bad_use (Read m) (Selected n upper lower) h = absurd h
    bad_use (Selected m high low) (Assigned n) h = absurd h
    bad_use (Selected m high low) (Given n) h = absurd h
    bad_use (Selected m high low) (Read n) h = absurd h

    pub same_undeclared : is_some (undeclared d) ≡ is_some (undeclared e)
    same_undeclared = same_use (λ u. not (is_declared d (used_name u))) (λ v. not (is_declared e (used_name v))) declared_use

    pub same_kinds : is_some (wrong_kind d) ≡ is_some (wrong_kind e)
    same_kinds = same_use (is_wrong_use d) (is_wrong_use e) wrong_use

    pub same_selects : is_some (bad_select d) ≡ is_some (bad_select e)
    same_selects = same_use (is_bad_select d) (is_bad_select e) bad_use

    abbrev wide : Design → Option Signal
    wide f = find (λ (s : Signal). is_over s.width) (declarations f)

    abbrev long : Design → Option Side
    long f = find (λ (side : Side). has_over (shapes_of f) side.tree) (sides f)

    pub same_widths : is_some (width_over d) ≡ is_some (width_over e)
    same_widths =
        either (option_map (λ (s : Signal). text_of d s.name) (wide d)) (option_map (λ (side : Side). side.told) (long d))
        ∙ (λ i. declared i || expressions i)
        ∙ sym (either (option_map (λ (s : Signal). text_of e s.name) (wide e)) (option_map (λ (side : Side). side.told) (long e)))
      where
        declared : is_some (option_map (λ (s : Signal). text_of d s.name) (wide d)) ≡ is_some (option_map (λ (s : Signal). text_of e s.name) (wide e))
        declared =
            mapped (λ (s : Signal). text_of d s.name) (wide d)
            ∙ same_found d e alike distinct_d distinct_e (λ s. is_over s.width) (λ t. is_over t.width) (λ s t a. ap is_over a.width)
            ∙ sym (mapped (λ (s : Signal). text_of e s.name) (wide e))

        expressions : is_some (option_map (λ (side : Side). side.told) (long d)) ≡ is_some (option_map (λ (side : Side). side.told) (long e))
        expressions =
            mapped (λ (side : Side). side.told) (long d)
            ∙ beside_find (IsAlikeSide Same) (λ (x : Side). has_over (shapes_of d) x.tree) (λ (y : Side). has_over (shapes_of e) y.tree) (λ x y a. same_over Same (shapes_of d) (shapes_of e) shaped x.tree y.tree a.tree) (sides d) (sides e) all_sides
            ∙ sym (mapped (λ (side : Side). side.told) (long e))
