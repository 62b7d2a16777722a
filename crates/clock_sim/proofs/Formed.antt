-- A module that is formed and passes the checks can be simulated.
use Rattle.std.proofs.Common.{◌≡◌, ℕ, zero, suc, ◌<◌, ◌≤◌, ◌^◌, Bool, true, false, not, ◌&&◌, ◌||◌, cond, List, [], ◌∷◌, length, Option, None, Some, slice_get, get_or, find, refl, arith, subst}
use Rattle.std.specs.Prelude.{◌==◌, nat_lt, nat_le, IsTrue}
use Rattle.std.specs.Option.{option_map, option_map_or}
use Rattle.std.proofs.lemmas.Bool.Decides.{nat_tests}
use Rattle.std.proofs.lemmas.Option.{slice_get_within, slice_get-get_or}
use Rattle.verilog_tree.specs.declared.tree.Signal.{Signal}
use Rattle.verilog_tree.specs.Tree.{Tree, Trees, Name, Bit, Part, Plain, Based, Cat, Not, Binary, Shift, Choice, none, more, Action, Actions, Block, When, Either, Give, no_action, action, Assignment, Design}
use Rattle.verilog_tree.specs.Meaning.{Shapes, IsFitting, fits, all_fit, is_width, length_of, total_length}
use Rattle.verilog_tree.specs.Names.{declaration_in, shapes_in, shapes_of, text_of}
use Rattle.verilog_tree.specs.Checks.{Use, Selected, tree_uses, trees_uses, action_uses, actions_uses, blocks_uses, assigns_uses, uses, is_bad_select, is_over, has_over, any_over, used_name, declarations, Side, action_sides, actions_sides, blocks_sides, assigns_sides, sides, Passes, filter_face}
use Rattle.verilog_tree.proofs.Parts.{fits_range, and_parts}
use Rattle.verilog_text.specs.Grammar.{limits}
use Rattle.verilog_text.specs.Shortest.{IsFormed, AreFormed, HasMembers, IsFormedAction, AreFormedActions, IsFormedAssignment, IsFormedBlock, IsFormedSignal, AllFormed, IsWritable}
use Rattle.module_laws.proofs.TextOrder.{Every, from_order, nothing_found}
use Rattle.module_laws.proofs.Passing.{NoneFails, none_fails, none_mapped, no_first, no_second}
use Rattle.settle_order.specs.Placing.{AreNamed}
use Rattle.clock_sim.specs.Simulated.{AssignFits, AssignsFit, action_fits, actions_fit, blocks_fit}

and_true : (a b : Bool) → IsTrue a → IsTrue b → IsTrue (a && b)
and_true a b f g = grind (arith, nat_tests)

lt_true : (a b : ℕ) → a < b → IsTrue (nat_lt a b)
lt_true a b h = grind (arith, nat_tests)

le_true : (a b : ℕ) → a ≤ b → IsTrue (nat_le a b)
le_true a b h = grind (arith, nat_tests)

width_true : (n : ℕ) → 1 ≤ n → n ≤ 128 → IsTrue (is_width n)
width_true n f g = and_true (nat_le 1 n) (nat_le n 128) (le_true 1 n f) (le_true n 128 g)

not_over : (n : ℕ) → is_over n ≡ false → n ≤ 128
not_over n is = grind (arith, nat_tests)

true_is : (b : Bool) → not b ≡ false → IsTrue b
true_is true is = refl
true_is false is = absurd (cc)

or_fails : (a b : Bool) → (a || b) ≡ false → (a ≡ false) × (b ≡ false)
or_fails true b e = absurd (cc)
or_fails false b e = (refl, e)

-- ---- lengths of names

wide_some : (count : ℕ) (signals : List Signal) → AllFormed (IsFormedSignal count) signals → (n : ℕ) → 1 ≤ (shapes_in signals).width n
wide_some count [] formed n = omega arith
wide_some count (s ∷ signals) formed n = by (s.name == n) (wide_some count signals formed.1 n)
  where
    by : (b : Bool) → 1 ≤ option_map_or (λ (s : Signal). s.width) (declaration_in signals n) 1 → 1 ≤ option_map_or (λ (s : Signal). s.width) (cond b (Some s) (declaration_in signals n)) 1
    by true rest = formed.0.1
    by false rest = rest

narrow_all : (signals : List Signal) → Every (λ (s : Signal). is_over s.width ≡ false) signals → (n : ℕ) → (shapes_in signals).width n ≤ 128
narrow_all [] all n = omega arith
narrow_all (s ∷ signals) all n = by (s.name == n) (narrow_all signals all.1 n)
  where
    by : (b : Bool) → option_map_or (λ (s : Signal). s.width) (declaration_in signals n) 1 ≤ 128 → option_map_or (λ (s : Signal). s.width) (cond b (Some s) (declaration_in signals n)) 1 ≤ 128
    by true rest = not_over s.width all.0
    by false rest = rest

module _ (d : Design) (count : ℕ) (widths : (n : ℕ) → IsFitting ((shapes_of d).width n)) where
  abbrev S : Shapes
  S = shapes_of d

  name_width : (n : ℕ) → IsTrue (is_width (S.width n))
  name_width n = width_true (S.width n) (widths n).least (widths n).most

  abbrev IsGood : Use → Type 0
  IsGood u = is_bad_select d u ≡ false

  abbrev IsNarrow : Side → Type 0
  IsNarrow side = has_over S side.tree ≡ false

  -- a select that isn't bad lies within its signal
  selected : (n high low : ℕ) → is_bad_select d (Selected n high low) ≡ false → IsTrue (nat_lt high (S.width n) && nat_le low high)
  selected n high low is = by (declaration_in d.signals n) (true_is _ is)
    where
      by : (o : Option Signal) → IsTrue (option_map_or (λ (s : Signal). s.ranged && (nat_lt high s.width && nat_le low high)) o false)
          → IsTrue (nat_lt high (option_map_or (λ (s : Signal). s.width) o 1) && nat_le low high)
      by None h = absurd (cc)
      by (Some s) h = (and_parts s.ranged (nat_lt high s.width && nat_le low high) h).1

  mutual
    tree_fits : (e : Tree) (rest : List Use) → IsFormed count e → has_over S e ≡ false → Every IsGood (tree_uses e rest) → IsTrue (fits S e) × Every IsGood rest
    tree_fits (Name n) rest formed narrow good = (name_width n, good.1)
    tree_fits (Bit n place) rest formed narrow good =
        (and_true _ _ (and_parts (nat_lt place (S.width n)) (nat_le place place) (selected n place place good.0)).0 (name_width n), good.1)
    tree_fits (Part n high low) rest formed narrow good =
        let both = and_parts (nat_lt high (S.width n)) (nat_le low high) (selected n high low good.0) in
        (and_true _ _ both.0 (and_true _ _ both.1 (name_width n)), good.1)
    tree_fits (Plain x) rest formed narrow good = (lt_true x (2 ^ 32) (omega (arith, formed)), good)
    tree_fits (Based width signed bits) rest formed narrow good = (and_true _ _ (lt_true bits (2 ^ width) formed.2) (width_true width formed.0 formed.1), good)
    tree_fits (Cat members) rest formed narrow good =
        let over = or_fails (any_over S members) (is_over (length_of S (Cat members))) narrow in
        let each = trees_fit members rest formed.1 over.0 good in
        (and_true _ _ each.0 (width_true (total_length S members) (some_length members formed.0 each.0) (not_over _ over.1)), each.1)
    tree_fits (Not a) rest formed narrow good = tree_fits a rest formed narrow good
    tree_fits (Binary op a b) rest formed narrow good =
        let over = or_fails (has_over S a) (has_over S b) narrow in
        let first = tree_fits a (tree_uses b rest) formed.0 over.0 good in
        let second = tree_fits b rest formed.1 over.1 first.1 in
        (and_true _ _ first.0 second.0, second.1)
    tree_fits (Shift op a amount) rest formed narrow good =
        let first = tree_fits a rest formed.1 narrow good in
        (and_true _ _ first.0 (le_true amount 127 (omega (arith, formed.0))), first.1)
    tree_fits (Choice c a b) rest formed narrow good =
        let over = or_fails (has_over S c) (has_over S a || has_over S b) narrow in
        let arms = or_fails (has_over S a) (has_over S b) over.1 in
        let first = tree_fits c (tree_uses a (tree_uses b rest)) formed.0 over.0 good in
        let second = tree_fits a (tree_uses b rest) formed.1 arms.0 first.1 in
        let third = tree_fits b rest formed.2 arms.1 second.1 in
        (and_true _ _ first.0 (and_true _ _ second.0 third.0), third.1)

    trees_fit : (es : Trees) (rest : List Use) → AreFormed count es → any_over S es ≡ false → Every IsGood (trees_uses es rest) → IsTrue (all_fit S es) × Every IsGood rest
    trees_fit none rest formed narrow good = (refl, good)
    trees_fit (more first others) rest formed narrow good =
        let over = or_fails (has_over S first) (any_over S others) narrow in
        let here = tree_fits first (trees_uses others rest) formed.1 over.0 good in
        let later = trees_fit others rest formed.2 over.1 here.1 in
        (and_true _ _ here.0 later.0, later.1)

    some_length : (es : Trees) → HasMembers es → IsTrue (all_fit S es) → 1 ≤ total_length S es
    some_length none has h = absurd has
    some_length (more first rest) has h = let range = fits_range S first (and_parts (fits S first) (all_fit S rest) h).0 in omega (arith, range.least)

  mutual
    statement_fits : (s : Action) (us : List Use) (ss : List Side) → IsFormedAction count s → Every IsGood (action_uses s us) → Every IsNarrow (action_sides d s ss)
        → IsTrue (action_fits S count s) × (Every IsGood us × Every IsNarrow ss)
    statement_fits (Block members) us ss formed good narrow = statements_fit members us ss formed good narrow
    statement_fits (When condition first) us ss formed good narrow =
        let c = tree_fits condition (action_uses first us) formed.0 narrow.0 good in
        let rest = statement_fits first us ss formed.1 c.1 narrow.1 in
        (and_true _ _ c.0 rest.0, rest.1)
    statement_fits (Either condition first second) us ss formed good narrow =
        let c = tree_fits condition (action_uses first (action_uses second us)) formed.0 narrow.0 good in
        let one = statement_fits first (action_uses second us) (action_sides d second ss) formed.1 c.1 narrow.1 in
        let other = statement_fits second us ss formed.2 one.1.0 one.1.1 in
        (and_true _ _ c.0 (and_true _ _ one.0 other.0), other.1)
    statement_fits (Give target e) us ss formed good narrow =
        let value = tree_fits e us formed.1 narrow.0 good.1 in
        (and_true _ _ (lt_true target count formed.0) (and_true _ _ (name_width target) value.0), (value.1, narrow.1))

    statements_fit : (sts : Actions) (us : List Use) (ss : List Side) → AreFormedActions count sts → Every IsGood (actions_uses sts us) → Every IsNarrow (actions_sides d sts ss)
        → IsTrue (actions_fit S count sts) × (Every IsGood us × Every IsNarrow ss)
    statements_fit no_action us ss formed good narrow = (refl, (good, narrow))
    statements_fit (action first others) us ss formed good narrow =
        let one = statement_fits first (actions_uses others us) (actions_sides d others ss) formed.0 good narrow in
        let rest = statements_fit others us ss formed.1 one.1.0 one.1.1 in
        (and_true _ _ one.0 rest.0, rest.1)

  all_blocks_fit : (blocks : List Action) → AllFormed (IsFormedBlock limits count) blocks → Every IsGood (blocks_uses blocks) → Every IsNarrow (blocks_sides d blocks) → IsTrue (blocks_fit S count blocks)
  all_blocks_fit [] formed good narrow = refl
  all_blocks_fit (s ∷ blocks) formed good narrow =
      let one = statement_fits s (blocks_uses blocks) (blocks_sides d blocks) formed.0.0 good narrow in
      and_true _ _ one.0 (all_blocks_fit blocks formed.1 one.1.0 one.1.1)

  all_assigns_fit : (assigns : List Assignment) (us : List Use) (ss : List Side) → AllFormed (IsFormedAssignment limits count) assigns → Every IsGood (assigns_uses assigns us) → Every IsNarrow (assigns_sides d assigns ss)
      → ((k : ℕ) (a : Assignment) → slice_get assigns k ≡ Some a → AssignFits S count a) × (Every IsGood us × Every IsNarrow ss)
  all_assigns_fit [] us ss formed good narrow = ((λ k a at. absurd (omega (arith, slice_get_within {A = Assignment} [] k a at))), (good, narrow))
  all_assigns_fit (b ∷ assigns) us ss formed good narrow =
      let value = tree_fits b.value (assigns_uses assigns us) formed.0.1 narrow.0 good.1 in
      let rest = all_assigns_fit assigns us ss formed.1 value.1 narrow.1 in
      let here : AssignFits S count b = record { target = formed.0.0; width = widths b.target; value = value.0 } in
      ((λ k a at. by k a at here rest.0), rest.1)
    where
      by : (k : ℕ) (a : Assignment) → slice_get (b ∷ assigns) k ≡ Some a → AssignFits S count b → ((k : ℕ) (a : Assignment) → slice_get assigns k ≡ Some a → AssignFits S count a) → AssignFits S count a
      by zero a at here rest = let same : b ≡ a = cc in subst (AssignFits S count) same here
      by (suc k) a at here rest = rest k a at

module _ (d : Design) (formed : IsWritable limits d) (passes : Passes d) where
  checks : NoneFails filter_face d
  checks = none_fails filter_face d passes.early

  pub widths_fit : (n : ℕ) → IsFitting ((shapes_of d).width n)
  widths_fit n = record {
    least = wide_some (length d.names) d.signals formed.signals n;
    most = narrow_all d.signals (from_order (λ (s : Signal). is_over s.width ≡ false) d.signals
        (nothing_found (λ (s : Signal). is_over s.width) _ (none_mapped (λ (s : Signal). text_of d s.name) _ (no_first _ _ checks.widths)))) n;
  }

  good_uses : Every (IsGood d (length d.names) widths_fit) (uses d)
  good_uses = nothing_found (is_bad_select d) (uses d) (none_mapped used_name _ checks.selects)

  narrow_sides : Every (IsNarrow d (length d.names) widths_fit) (sides d)
  narrow_sides =
      nothing_found (λ (side : Side). has_over (shapes_of d) side.tree) (sides d)
      (none_mapped (λ (side : Side). side.told) _ (no_second (option_map (λ (s : Signal). text_of d s.name) (find (λ (s : Signal). is_over s.width) (declarations d))) _ checks.widths))

  abbrev all_fit_there : ((k : ℕ) (a : Assignment) → slice_get d.assigns k ≡ Some a → AssignFits (shapes_of d) (length d.names) a)
      × (Every (IsGood d (length d.names) widths_fit) (blocks_uses d.blocks) × Every (IsNarrow d (length d.names) widths_fit) (blocks_sides d d.blocks))
  all_fit_there = all_assigns_fit d (length d.names) widths_fit d.assigns (blocks_uses d.blocks) (blocks_sides d d.blocks) formed.assigns good_uses narrow_sides

  pub assigns_fit : AssignsFit d (length d.names)
  assigns_fit = record { each = all_fit_there.0 }

  pub blocks_all_fit : IsTrue (blocks_fit (shapes_of d) (length d.names) d.blocks)
  blocks_all_fit = all_blocks_fit d (length d.names) widths_fit d.blocks formed.blocks all_fit_there.1.0 all_fit_there.1.1

  pub are_named : AreNamed d (length d.names)
  are_named = record { targets = λ k a lt. (all_fit_there.0 k (get_or d.assigns k a) (slice_get-get_or d.assigns k a lt)).target }
