-- Modules that differ in the places of their declarations alone pass the same checks and run alike.
use Rattle.std.proofs.Common.{◌≡◌, ℕ, Bool, true, false, cond, not, ◌&&◌, ◌||◌, List, [], ◌∷◌, map, find, Option, None, Some, refl, sym, ◌∙◌, ap, subst}
use Rattle.std.specs.Prelude.{◌==◌, is_some, bytes_eq, codes, nat_lt, nat_le}
use Rattle.std.specs.List.{list_any}
use Rattle.std.specs.Option.{option_map, option_map_or}
use Rattle.std.proofs.Math.Path.{fun_ext}
use Rattle.verilog_tree.specs.declared.tree.Signal.{Signal}
use Rattle.verilog_tree.specs.declared.tree.Kind.{Kind}
use Rattle.verilog_tree.specs.Tree.{Action, Actions, Block, When, Either, Give, no_action, action, Assignment, Design}
use Rattle.verilog_tree.specs.Meaning.{Shapes}
use Rattle.verilog_tree.specs.Names.{declaration_in, shapes_in, shapes_of, text_of}
use Rattle.verilog_tree.specs.Cycle.{circuit_of}
use Rattle.verilog_tree.specs.Shown.{ports_of}
use Rattle.verilog_tree.specs.Checks.{or_else, Use, Assigned, Given, Read, Selected, used_name, is_of_kind, can_be_assigned, can_be_given, is_wrong_use, is_bad_select, is_port, is_right_port, has_port, Face, face_names, is_over, Side, has_over, sides, action_sides, actions_sides, blocks_sides, assigns_sides, needs_driver, is_driven, PassesAs, DependsOnItself, uses, declarations, undeclared, wrong_kind, bad_select}
use Rattle.verilog_text.specs.Order.{unplaced, IsSameButPlaces}
use Rattle.module_laws.proofs.Passing.{no_first, no_second, none_mapped, NoneFails, none_fails, early_none}
use Rattle.module_laws.proofs.TextOrder.{unplaced_finds, placed_finds, unplaced_repeats, placed_repeats}

-- the module with its declarations at no places
abbrev unplaced_design : Design → Design
unplaced_design d = record d { signals = map unplaced d.signals }

-- ---- what is read of a declaration

module _ {A : Type 0} (of : Signal → A) (same : (s : Signal) → of (unplaced s) ≡ of s) (else_ : A) where
  unplaced_read : (signals : List Signal) (n : ℕ) → option_map_or of (declaration_in (map unplaced signals) n) else_ ≡ option_map_or of (declaration_in signals n) else_
  unplaced_read [] n = refl
  unplaced_read (s ∷ signals) n = by (s.name == n) (unplaced_read signals n)
    where
      by : (b : Bool) → option_map_or of (declaration_in (map unplaced signals) n) else_ ≡ option_map_or of (declaration_in signals n) else_
          → option_map_or of (cond b (Some (unplaced s)) (declaration_in (map unplaced signals) n)) else_ ≡ option_map_or of (cond b (Some s) (declaration_in signals n)) else_
      by true rest = same s
      by false rest = rest

unplaced_declared : (signals : List Signal) (n : ℕ) → is_some (declaration_in (map unplaced signals) n) ≡ is_some (declaration_in signals n)
unplaced_declared [] n = refl
unplaced_declared (s ∷ signals) n = by (s.name == n) (unplaced_declared signals n)
  where
    by : (b : Bool) → is_some (declaration_in (map unplaced signals) n) ≡ is_some (declaration_in signals n)
        → is_some (cond b (Some (unplaced s)) (declaration_in (map unplaced signals) n)) ≡ is_some (cond b (Some s) (declaration_in signals n))
    by true rest = refl
    by false rest = rest

unplaced_any : (test : Signal → Bool) → ((s : Signal) → test (unplaced s) ≡ test s) → (signals : List Signal) → list_any test (map unplaced signals) ≡ list_any test signals
unplaced_any test same [] = refl
unplaced_any test same (s ∷ signals) = ap (λ (b : Bool). b || list_any test (map unplaced signals)) (same s) ∙ ap (λ (b : Bool). test s || b) (unplaced_any test same signals)

unplaced_shapes : (signals : List Signal) → shapes_in (map unplaced signals) ≡ shapes_in signals
unplaced_shapes signals =
    ap (λ (widths : ℕ → ℕ). let s : Shapes = record { width = widths; signed = (shapes_in (map unplaced signals)).signed } in s) (fun_ext (unplaced_read (λ s. s.width) (λ s. refl) 1 signals))
    ∙ ap (λ (signs : ℕ → Bool). let s : Shapes = record { width = (shapes_in signals).width; signed = signs } in s) (fun_ext (unplaced_read (λ s. s.signed) (λ s. refl) false signals))

-- ---- the checks of a module without places

module _ (face : Face) (d : Design) where
  abbrev U : Design
  U = unplaced_design d

  mutual
    same_action : (s : Action) (rest : List Side) → action_sides U s rest ≡ action_sides d s rest
    same_action (Block members) rest = same_actions members rest
    same_action (When condition first) rest = ap (λ (later : List Side). record { told = codes "clk"; tree = condition } ∷ later) (same_action first rest)
    same_action (Either condition first second) rest =
        ap (λ (later : List Side). record { told = codes "clk"; tree = condition } ∷ later)
        (ap (action_sides U first) (same_action second rest) ∙ same_action first (action_sides d second rest))
    same_action (Give target e) rest = refl

    same_actions : (ss : Actions) (rest : List Side) → actions_sides U ss rest ≡ actions_sides d ss rest
    same_actions no_action rest = refl
    same_actions (action first others) rest = ap (action_sides U first) (same_actions others rest) ∙ same_action first (actions_sides d others rest)

  same_blocks_sides : (blocks : List Action) → blocks_sides U blocks ≡ blocks_sides d blocks
  same_blocks_sides [] = refl
  same_blocks_sides (s ∷ ss) = ap (action_sides U s) (same_blocks_sides ss) ∙ same_action s (blocks_sides d ss)

  same_assigns_sides : (assigns : List Assignment) (rest : List Side) → assigns_sides U assigns rest ≡ assigns_sides d assigns rest
  same_assigns_sides [] rest = refl
  same_assigns_sides (a ∷ others) rest = ap (λ (later : List Side). record { told = text_of d a.target; tree = a.value } ∷ later) (same_assigns_sides others rest)

  same_sides : sides U ≡ sides d
  same_sides = ap (assigns_sides U d.assigns) (same_blocks_sides d.blocks) ∙ same_assigns_sides d.assigns (blocks_sides d d.blocks)

  same_undeclared : undeclared U ≡ undeclared d
  same_undeclared = ap (λ (test : ℕ → Bool). option_map used_name (find (λ u. not (test (used_name u))) (uses d))) (fun_ext (unplaced_declared d.signals))

  of_kind : (is : Kind → Bool) (n : ℕ) → is_of_kind is U n ≡ is_of_kind is d n
  of_kind is n = unplaced_read (λ (s : Signal). is s.kind) (λ s. refl) false d.signals n

  same_wrong : (u : Use) → is_wrong_use U u ≡ is_wrong_use d u
  same_wrong (Assigned n) = ap not (of_kind can_be_assigned n)
  same_wrong (Given n) = ap not (of_kind can_be_given n)
  same_wrong (Read n) = refl
  same_wrong (Selected n high low) = refl

  same_wrong_kind : wrong_kind U ≡ wrong_kind d
  same_wrong_kind = ap (λ (test : Use → Bool). option_map used_name (find test (uses d))) (fun_ext same_wrong)

  same_bad : (u : Use) → is_bad_select U u ≡ is_bad_select d u
  same_bad (Assigned n) = refl
  same_bad (Given n) = refl
  same_bad (Read n) = refl
  same_bad (Selected n high low) = ap not (unplaced_read (λ (s : Signal). s.ranged && (nat_lt high s.width && nat_le low high)) (λ s. refl) false d.signals n)

  same_bad_select : bad_select U ≡ bad_select d
  same_bad_select = ap (λ (test : Use → Bool). option_map used_name (find test (uses d))) (fun_ext same_bad)

  same_has_port : (text : List ℕ) → has_port U text ≡ has_port d text
  same_has_port text = unplaced_any (λ (s : Signal). is_port s.kind && bytes_eq (text_of d s.name) text) (λ s. refl) d.signals

  abbrev missing_port : Design → Option (List ℕ)
  missing_port e = find (λ text. not (has_port e text)) (face_names face)

  same_missing : missing_port U ≡ missing_port d
  same_missing = ap (λ (test : List ℕ → Bool). find (λ text. not (test text)) (face_names face)) (fun_ext same_has_port)

  abbrev over_side : Design → Option Side
  over_side e = find (λ (side : Side). has_over (shapes_of e) side.tree) (sides e)

  same_over : over_side U ≡ over_side d
  same_over =
      ap (λ (shapes : Shapes). find (λ (side : Side). has_over shapes side.tree) (sides U)) (unplaced_shapes d.signals)
      ∙ ap (find (λ (side : Side). has_over (shapes_of d) side.tree)) same_sides

  abbrev wrong_declared : List Signal → Option Signal
  wrong_declared ss = find (λ (s : Signal). is_port s.kind && not (is_right_port face d s)) ss

  abbrev over_declared : List Signal → Option Signal
  over_declared ss = find (λ (s : Signal). is_over s.width) ss

  abbrev undriven : List Signal → Option Signal
  undriven ss = find (λ (s : Signal). needs_driver s.kind && not (is_driven d s.name)) ss

  none_joined : {A B : Type 0} (f : A → B) (a : Option A) (b : Option B) → a ≡ None → b ≡ None → or_else (option_map f a) b ≡ None
  none_joined f a b is its = ap (λ (o : Option _). or_else (option_map f o) b) is ∙ its

  pub to_unplaced : NoneFails face d → NoneFails face U
  to_unplaced n = record {
    redeclares = unplaced_repeats d.signals n.redeclares;
    undeclares = same_undeclared ∙ n.undeclares;
    ports = none_joined (λ (s : Signal). text_of d s.name) (wrong_declared (declarations U)) (missing_port U)
        (unplaced_finds (λ (s : Signal). is_port s.kind && not (is_right_port face d s)) (λ s. refl) d.signals
        (none_mapped (λ (s : Signal). text_of d s.name) (wrong_declared (declarations d)) (no_first _ (missing_port d) n.ports)))
        (same_missing ∙ no_second (option_map (λ (s : Signal). text_of d s.name) (wrong_declared (declarations d))) (missing_port d) n.ports);
    kinds = same_wrong_kind ∙ n.kinds;
    widths = none_joined (λ (s : Signal). text_of d s.name) (over_declared (declarations U)) (option_map (λ (side : Side). side.told) (over_side U))
        (unplaced_finds (λ (s : Signal). is_over s.width) (λ s. refl) d.signals
        (none_mapped (λ (s : Signal). text_of d s.name) (over_declared (declarations d)) (no_first _ (option_map (λ (side : Side). side.told) (over_side d)) n.widths)))
        (ap (option_map (λ (side : Side). side.told)) same_over ∙ no_second (option_map (λ (s : Signal). text_of d s.name) (over_declared (declarations d))) (option_map (λ (side : Side). side.told) (over_side d)) n.widths);
    selects = same_bad_select ∙ n.selects;
    drivers = n.drivers;
    driven = ap (option_map (λ (s : Signal). s.name))
        (unplaced_finds (λ (s : Signal). needs_driver s.kind && not (is_driven d s.name)) (λ s. refl) d.signals
        (none_mapped (λ (s : Signal). s.name) (undriven (declarations d)) n.driven));
  }

  pub from_unplaced : NoneFails face U → NoneFails face d
  from_unplaced n = record {
    redeclares = placed_repeats d.signals n.redeclares;
    undeclares = sym same_undeclared ∙ n.undeclares;
    ports = none_joined (λ (s : Signal). text_of d s.name) (wrong_declared (declarations d)) (missing_port d)
        (placed_finds (λ (s : Signal). is_port s.kind && not (is_right_port face d s)) (λ s. refl) d.signals
        (none_mapped (λ (s : Signal). text_of d s.name) (wrong_declared (declarations U)) (no_first _ (missing_port U) n.ports)))
        (sym same_missing ∙ no_second (option_map (λ (s : Signal). text_of d s.name) (wrong_declared (declarations U))) (missing_port U) n.ports);
    kinds = sym same_wrong_kind ∙ n.kinds;
    widths = none_joined (λ (s : Signal). text_of d s.name) (over_declared (declarations d)) (option_map (λ (side : Side). side.told) (over_side d))
        (placed_finds (λ (s : Signal). is_over s.width) (λ s. refl) d.signals
        (none_mapped (λ (s : Signal). text_of d s.name) (over_declared (declarations U)) (no_first _ (option_map (λ (side : Side). side.told) (over_side U)) n.widths)))
        (ap (option_map (λ (side : Side). side.told)) (sym same_over) ∙ no_second (option_map (λ (s : Signal). text_of d s.name) (over_declared (declarations U))) (option_map (λ (side : Side). side.told) (over_side U)) n.widths);
    selects = sym same_bad_select ∙ n.selects;
    drivers = n.drivers;
    driven = ap (option_map (λ (s : Signal). s.name))
        (placed_finds (λ (s : Signal). needs_driver s.kind && not (is_driven d s.name)) (λ s. refl) d.signals
        (none_mapped (λ (s : Signal). s.name) (undriven (declarations U)) n.driven));
  }

-- ---- two modules

module _ (d e : Design) (same : IsSameButPlaces d e) where
  same_unplaced : unplaced_design d ≡ unplaced_design e
  same_unplaced = by same.same_name same.same_names same.same_signals same.same_assigns same.same_blocks
    where
      by : d.name ≡ e.name → d.names ≡ e.names → map unplaced d.signals ≡ map unplaced e.signals → d.assigns ≡ e.assigns → d.blocks ≡ e.blocks → unplaced_design d ≡ unplaced_design e
      by a b c f g = rw (a, b, c, f, g) refl

  pub same_passing : {face : Face} → PassesAs face e → PassesAs face d
  same_passing {face} passes = record {
    early = early_none face d (from_unplaced face d (subst (NoneFails face) (sym same_unplaced) (to_unplaced face e (none_fails face e passes.early))));
    free = subst (λ (u : Design). (n : ℕ) → DependsOnItself u n → ⊥) (sym same_unplaced) passes.free;
  }

  pub same_shapes : shapes_of d ≡ shapes_of e
  same_shapes = sym (unplaced_shapes d.signals) ∙ ap shapes_in same.same_signals ∙ unplaced_shapes e.signals

  pub same_circuits : circuit_of d ≡ circuit_of e
  same_circuits = rw (same_shapes, same.same_assigns, same.same_blocks) refl

  pub same_ports : ports_of d ≡ ports_of e
  same_ports = rw (same.same_names) refl
