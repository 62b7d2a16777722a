-- What the expressions of a module that passes the checks read: a wire or an output that an assignment drives, a register, or one of the inputs of a
-- cycle.
use Rattle.std.proofs.Common.{◌≡◌, ℕ, zero, suc, ◌+◌, Bool, true, false, not, ◌&&◌, ◌||◌, List, [], ◌∷◌, cond, Option, None, Some, ◌⊎◌, inl, inr, slice_get, find, refl, sym, ap, ◌∙◌, arith, subst}
use Rattle.std.specs.Prelude.{◌==◌, if◌then◌else◌, is_some, bytes_eq, codes}
use Rattle.std.specs.List.{list_any, position_or_len}
use Rattle.std.specs.Option.{option_map_or}
use Rattle.std.proofs.lemmas.Bool.{eqb-true}
use Rattle.std.proofs.lemmas.Slice.Eq.{bytes_eq-Decides}
use Rattle.verilog_tree.specs.declared.tree.Signal.{Signal}
use Rattle.verilog_tree.specs.declared.tree.Kind.{Kind}
use Rattle.verilog_tree.specs.declared.tree.Kind.TheVariants.{Input, Output, Wire, Reg}
use Rattle.verilog_tree.specs.Tree.{Tree, Trees, Name, Bit, Part, Plain, Based, Cat, Not, Binary, Shift, Choice, none, more, Action, Actions, Block, When, Either, Give, no_action, action, Assignment, Design}
use Rattle.verilog_tree.specs.Names.{declaration_in, text_of, number_of}
use Rattle.verilog_tree.specs.Cycle.{reads, any_reads}
use Rattle.verilog_tree.specs.Renaming.{AreDistinct}
use Rattle.verilog_tree.specs.Checks.{Use, Assigned, Given, Read, Selected, used_name, tree_uses, trees_uses, action_uses, actions_uses, blocks_uses, assigns_uses, uses, is_declared, is_of_kind, can_be_assigned, can_be_given, is_clock, is_wrong_use, is_port, is_input_port, is_bit_port, is_data_port, Port, is_as, is_right_port, Drive, action_drives, actions_drives, blocks_drives, assigns_drives, drives, needs_driver, is_driven, declarations, filter_face, port_names, has_port, Passes}
use Rattle.module_laws.proofs.InputPorts.{Among, some_among, first_with_text, read_name, port_there, declared_once}
use Rattle.module_laws.proofs.Passing.{NoneFails, none_fails, none_mapped, no_first}
use Rattle.module_laws.proofs.TextOrder.{Every, AllApart, nothing_found, from_order, none_repeats, apart_from}
use Rattle.event_order.specs.Laws.{IsRegister, IsWire}
use Rattle.event_order.proofs.Declared.{behind_tree, behind_action, behind_assigns}

either : (a b : Bool) → (a || b) ≡ true → (a ≡ true) ⊎ (b ≡ true)
either true b e = inl refl
either false b e = inr e

not_false : (b : Bool) → not b ≡ false → b ≡ true
not_false true e = refl
not_false false e = absurd (grind arith)

both : (a b : Bool) → (a && b) ≡ true → (a ≡ true) × (b ≡ true)
both true b e = (refl, e)
both false b e = absurd (grind arith)

clash : (b : Bool) → b ≡ true → b ≡ false → ⊥
clash true e f = grind arith
clash false e f = grind arith

-- ---- what holds of each name in an expression holds of each name that is read

-- a property of the names that stand in expressions
abbrev pub Allows : (ℕ → Type 0) → Use → Type 0
Allows Q (Assigned n) = Unit {0}
Allows Q (Given n) = Unit {0}
Allows Q (Read n) = Q n
Allows Q (Selected n high low) = Q n

module _ (Q : ℕ → Type 0) where
  one_name : (m n : ℕ) → Q m → (n == m) ≡ true → Q n
  one_name m n holds is = subst Q (sym (eqb-true n m is)) holds

  mutual
    pub read_in : (e : Tree) (rest : List Use) → Every (Allows Q) (tree_uses e rest) → (n : ℕ) → reads e n ≡ true → Q n
    read_in (Name m) rest all n is = one_name m n all.0 is
    read_in (Bit m place) rest all n is = one_name m n all.0 is
    read_in (Part m high low) rest all n is = one_name m n all.0 is
    read_in (Plain x) rest all n is = absurd (grind arith)
    read_in (Based width signed bits) rest all n is = absurd (grind arith)
    read_in (Cat members) rest all n is = any_read_in members rest all n is
    read_in (Not a) rest all n is = read_in a rest all n is
    read_in (Binary op a b) rest all n is =
        elim (either (reads a n) (reads b n) is) [
          | inl first ↦ read_in a (tree_uses b rest) all n first
          | inr second ↦ read_in b rest (behind_tree (Allows Q) a (tree_uses b rest) all) n second
        ]
    read_in (Shift op a amount) rest all n is = read_in a rest all n is
    read_in (Choice c a b) rest all n is =
        let later = behind_tree (Allows Q) c (tree_uses a (tree_uses b rest)) all in
        elim (either (reads c n) (reads a n || reads b n) is) [
          | inl first ↦ read_in c (tree_uses a (tree_uses b rest)) all n first
          | inr others ↦ elim (either (reads a n) (reads b n) others) [
            | inl second ↦ read_in a (tree_uses b rest) later n second
            | inr third ↦ read_in b rest (behind_tree (Allows Q) a (tree_uses b rest) later) n third
          ]
        ]

    any_read_in : (es : Trees) (rest : List Use) → Every (Allows Q) (trees_uses es rest) → (n : ℕ) → any_reads es n ≡ true → Q n
    any_read_in none rest all n is = absurd (grind arith)
    any_read_in (more first others) rest all n is =
        elim (either (reads first n) (any_reads others n) is) [
          | inl here ↦ read_in first (trees_uses others rest) all n here
          | inr later ↦ any_read_in others rest (behind_tree (Allows Q) first (trees_uses others rest) all) n later
        ]

  pub assign_reads : (assigns : List Assignment) (rest : List Use) → Every (Allows Q) (assigns_uses assigns rest) → (k : ℕ) (a : Assignment) → slice_get assigns k ≡ Some a → (n : ℕ) → reads a.value n ≡ true → Q n
  assign_reads [] rest all k a at n is = absurd (grind arith)
  assign_reads (b ∷ assigns) rest all zero a at n is =
      let same : b ≡ a = cc in
      read_in b.value (assigns_uses assigns rest) all.1 n (ap (λ (x : Assignment). reads x.value n) same ∙ is)
  assign_reads (b ∷ assigns) rest all (suc k) a at n is = assign_reads assigns rest (behind_tree (Allows Q) b.value (assigns_uses assigns rest) all.1) k a at n is

pub target_used : (P : Use → Type 0) (assigns : List Assignment) (rest : List Use) → Every P (assigns_uses assigns rest) → (k : ℕ) (a : Assignment) → slice_get assigns k ≡ Some a → P (Assigned a.target)
target_used P [] rest all k a at = absurd (grind arith)
target_used P (b ∷ assigns) rest all zero a at =
    let same : b ≡ a = cc in
    subst (λ (x : Assignment). P (Assigned x.target)) same all.0
target_used P (b ∷ assigns) rest all (suc k) a at = target_used P assigns rest (behind_tree P b.value (assigns_uses assigns rest) all.1) k a at

-- ---- the declared names

find_passes : (test : Signal → Bool) (ss : List Signal) (s : Signal) → find test ss ≡ Some s → Among s ss × (test s ≡ true)
find_passes test [] s is = absurd (grind arith)
find_passes test (t ∷ ss) s is = by (test t) refl is (find_passes test ss s)
  where
    by : (b : Bool) → test t ≡ b → cond b (Some t) (find test ss) ≡ Some s → (find test ss ≡ Some s → Among s ss × (test s ≡ true)) → Among s (t ∷ ss) × (test s ≡ true)
    by true e same rest = let is_it : t ≡ s = cc in (inl (sym is_it), ap test (sym is_it) ∙ e)
    by false e same rest = let later = rest same in (inr later.0, later.1)

every_among : (P : Signal → Type 0) (s : Signal) (ss : List Signal) → Every P ss → Among s ss → P s
every_among P s [] all among = absurd among
every_among P s (t ∷ ss) all (inl is) = subst P (sym is) all.0
every_among P s (t ∷ ss) all (inr later) = every_among P s ss all.1 later

-- ---- the drives of a name

abbrev IsIn : Drive → List Drive → Type 0
IsIn x [] = ⊥
IsIn x (y ∷ ys) = (x ≡ y) ⊎ IsIn x ys

drive_named : (n : ℕ) (xs : List Drive) → list_any (λ (x : Drive). x.name == n) xs ≡ true → (x : Drive) × IsIn x xs × (x.name ≡ n)
drive_named n [] is = absurd (grind arith)
drive_named n (x ∷ xs) is = by (x.name == n) refl is (drive_named n xs)
  where
    by : (b : Bool) → (x.name == n) ≡ b → (b || list_any (λ (y : Drive). y.name == n) xs) ≡ true → (list_any (λ (y : Drive). y.name == n) xs ≡ true → (y : Drive) × IsIn y xs × (y.name ≡ n))
        → (y : Drive) × IsIn y (x ∷ xs) × (y.name ≡ n)
    by true e found rest = (x, inl refl, eqb-true x.name n e)
    by false e found rest = let later = rest found in (later.0, inr later.1, later.2)

-- what holds of each given name holds of what the blocks drive
module _ (P : Use → Type 0) where
  mutual
    in_action : (k : ℕ) (s : Action) (drivers : List Drive) (rest : List Use) (x : Drive) → Every P (action_uses s rest) → IsIn x (action_drives k s drivers) → P (Given x.name) ⊎ IsIn x drivers
    in_action k (Block members) drivers rest x all among = in_actions k members drivers rest x all among
    in_action k (When c first) drivers rest x all among = in_action k first drivers rest x (behind_tree P c (action_uses first rest) all) among
    in_action k (Either c first second) drivers rest x all among =
        let inner = behind_tree P c (action_uses first (action_uses second rest)) all in
        elim (in_action k first (action_drives k second drivers) (action_uses second rest) x inner among) [
          | inl here ↦ inl here
          | inr later ↦ in_action k second drivers rest x (behind_action P first (action_uses second rest) inner) later
        ]
    in_action k (Give target e) drivers rest x all (inl is) = inl (let to = ap (λ (y : Drive). y.name) is in subst (λ (n : ℕ). P (Given n)) (sym to) all.0)
    in_action k (Give target e) drivers rest x all (inr later) = inr later

    in_actions : (k : ℕ) (ss : Actions) (drivers : List Drive) (rest : List Use) (x : Drive) → Every P (actions_uses ss rest) → IsIn x (actions_drives k ss drivers) → P (Given x.name) ⊎ IsIn x drivers
    in_actions k no_action drivers rest x all among = inr among
    in_actions k (action first others) drivers rest x all among =
        elim (in_action k first (actions_drives k others drivers) (actions_uses others rest) x all among) [
          | inl here ↦ inl here
          | inr later ↦ in_actions k others drivers rest x (behind_action P first (actions_uses others rest) all) later
        ]

  in_blocks : (k : ℕ) (ss : List Action) (x : Drive) → Every P (blocks_uses ss) → IsIn x (blocks_drives k ss) → P (Given x.name)
  in_blocks k [] x all among = absurd among
  in_blocks k (s ∷ ss) x all among =
      elim (in_action k s (blocks_drives (k + 1) ss) (blocks_uses ss) x all among) [
        | inl here ↦ here
        | inr later ↦ in_blocks (k + 1) ss x (behind_action P s (blocks_uses ss) all) later
      ]

in_assigns : (k : ℕ) (assigns : List Assignment) (drivers : List Drive) (x : Drive) → IsIn x (assigns_drives k assigns drivers)
    → ((i : ℕ) × (a : Assignment) × (slice_get assigns i ≡ Some a) × (a.target ≡ x.name)) ⊎ IsIn x drivers
in_assigns k [] drivers x among = inr among
in_assigns k (a ∷ assigns) drivers x (inl is) = inl (0, a, refl, sym (ap (λ (y : Drive). y.name) is))
in_assigns k (a ∷ assigns) drivers x (inr later) =
    elim (in_assigns (k + 1) assigns drivers x later) [
      | inl found ↦ inl (suc found.0, found.1, found.2, found.3)
      | inr others ↦ inr others
    ]

-- ---- the names that are read

-- the names of the inputs that a cycle sets
abbrev pub IsSet : Design → ℕ → Type 0
IsSet d n = (n ≡ number_of d (codes "rst")) ⊎ ((n ≡ number_of d (codes "ce")) ⊎ (n ≡ number_of d (codes "in_data")))

-- the signal is declared as the port of this text
abbrev is_named : Design → Signal → List ℕ → Bool → Bool → Bool
is_named d s text input bit = is_as (record { text = text; input = input; bit = bit }) (text_of d s.name) s

abbrev pub IsKnown : Design → ℕ → Type 0
IsKnown d n = IsWire d n ⊎ (IsRegister d n ⊎ IsSet d n)

module _ (d : Design) (passes : Passes d) (distinct : AreDistinct d.names) where
  fails : NoneFails filter_face d
  fails = none_fails filter_face d passes.early

  right_ports : Every (λ (s : Signal). (is_port s.kind && not (is_right_port filter_face d s)) ≡ false) d.signals
  right_ports =
      from_order _ d.signals (nothing_found (λ (s : Signal). is_port s.kind && not (is_right_port filter_face d s)) (declarations d) (none_mapped (λ (s : Signal). text_of d s.name) _ (no_first _ (find (λ text. not (has_port d text)) port_names) fails.ports)))

  apart : AllApart d.signals
  apart = apart_from d.signals ((none_repeats [] (declarations d) fails.redeclares).0)

  all_driven : Every (λ (s : Signal). (needs_driver s.kind && not (is_driven d s.name)) ≡ false) d.signals
  all_driven = from_order _ d.signals (nothing_found (λ (s : Signal). needs_driver s.kind && not (is_driven d s.name)) (declarations d) (none_mapped (λ (s : Signal). s.name) _ fails.driven))

  right_uses : Every (λ u. is_wrong_use d u ≡ false) (uses d)
  right_uses = nothing_found (is_wrong_use d) (uses d) (none_mapped used_name _ fails.kinds)

  declared_uses : Every (λ u. not (is_declared d (used_name u)) ≡ false) (uses d)
  declared_uses = nothing_found (λ u. not (is_declared d (used_name u))) (uses d) (none_mapped used_name _ fails.undeclares)

  pub assigned_kind : (k : ℕ) (a : Assignment) → slice_get d.assigns k ≡ Some a → is_of_kind can_be_assigned d a.target ≡ true
  assigned_kind k a at = not_false (is_of_kind can_be_assigned d a.target) (target_used (λ u. is_wrong_use d u ≡ false) d.assigns (blocks_uses d.blocks) right_uses k a at)

  kind_known : (n : ℕ) (s : Signal) (is : Kind → Bool) → declaration_in d.signals n ≡ Some s → is_of_kind is d n ≡ is s.kind
  kind_known n s is declared = ap (λ (o : Option Signal). option_map_or (λ (t : Signal). is t.kind) o false) declared

  -- a signal that needs a driver and is no register is a wire
  wire_of : (s : Signal) (n : ℕ) → declaration_in d.signals n ≡ Some s → s.name ≡ n → is_driven d s.name ≡ true → can_be_given s.kind ≡ false → IsWire d n
  wire_of s n declared name driven no_register =
      let found = drive_named s.name (drives d) driven in
      elim (in_assigns 0 d.assigns (blocks_drives _ d.blocks) found.0 found.1) [
        | inl its ↦ (its.0, its.1, its.2, its.3 ∙ found.2 ∙ name)
        | inr blocks ↦
            let given = in_blocks (λ u. is_wrong_use d u ≡ false) _ d.blocks found.0 (behind_assigns (λ u. is_wrong_use d u ≡ false) d.assigns (blocks_uses d.blocks) right_uses) blocks in
            let kind = sym (ap (is_of_kind can_be_given d) (found.2 ∙ name)) ∙ not_false (is_of_kind can_be_given d (found.0).name) given in
            absurd (let never = sym kind ∙ kind_known n s can_be_given declared ∙ no_register in grind arith)
      ]

  -- an input that isn't the clock is one of those that a cycle sets
  input_of : (s : Signal) (n : ℕ) → s.name ≡ n → s.kind ≡ Input → is_right_port filter_face d s ≡ true → is_clock d n ≡ false → IsSet d n
  input_of s n name kind right other = by (either _ _ right)
    where
      named : (c : ℕ) (text : List ℕ) (input bit : Bool) → is_named d s (c ∷ text) input bit ≡ true → n ≡ number_of d (c ∷ text)
      named c text input bit is =
          let same = (bytes_eq-Decides (text_of d s.name) (c ∷ text)).0 ((both _ _ is).0) in
          let read = read_name d.names s.name c text same in
          sym name ∙ sym (ap (λ (x : List ℕ). position_or_len (bytes_eq x) d.names) (sym read.1) ∙ first_with_text d.names s.name distinct read.0)

      no_output : (text : List ℕ) (bit : Bool) → is_named d s text false bit ≡ true → ⊥
      no_output text bit is =
          let parts = both (bytes_eq (text_of d s.name) text) (not (is_input_port s.kind) && (if bit then is_bit_port s else is_data_port s)) is in
          let directed = (both (not (is_input_port s.kind)) (if bit then is_bit_port s else is_data_port s) parts.1).0 in
          let never : false ≡ true = sym (ap (λ (k : Kind). not (is_input_port k)) kind) ∙ directed in
          grind arith

      rest_of : (is_named d s (codes "in_data") true false || (is_named d s (codes "out_valid") false true || (is_named d s (codes "out_data") false false || false))) ≡ true → IsSet d n
      rest_of right = elim (either _ _ right) [
        | inl in_data ↦ inr (inr (named 105 (codes "n_data") true false in_data))
        | inr outputs ↦ elim (either _ _ outputs) [
          | inl valid ↦ absurd (no_output (codes "out_valid") true valid)
          | inr last ↦ elim (either _ _ last) [
            | inl out ↦ absurd (no_output (codes "out_data") false out)
            | inr never ↦ absurd (grind arith)
          ]
        ]
      ]

      by : (is_named d s (codes "clk") true true ≡ true) ⊎ ((is_named d s (codes "rst") true true || (is_named d s (codes "ce") true true || (is_named d s (codes "in_data") true false || (is_named d s (codes "out_valid") false true || (is_named d s (codes "out_data") false false || false))))) ≡ true) → IsSet d n
      by (inl clock) = absurd (clash (is_clock d s.name) ((both (bytes_eq (text_of d s.name) (codes "clk")) (is_input_port s.kind && is_bit_port s) clock).0) (ap (is_clock d) name ∙ other))
      by (inr others) = elim (either _ _ others) [
        | inl rst ↦ inl (named 114 (codes "st") true true rst)
        | inr later ↦ elim (either _ _ later) [
          | inl ce ↦ inr (inl (named 99 (codes "e") true true ce))
          | inr further ↦ rest_of further
        ]
      ]

  known : (n : ℕ) → is_declared d n ≡ true → is_clock d n ≡ false → IsKnown d n
  known n declared other = by (declaration_in d.signals n) refl declared
    where
      right : (s : Signal) (k : Kind) → s.kind ≡ k → is_port k ≡ true → Among s d.signals → is_right_port filter_face d s ≡ true
      right s k is port among =
          let fails_not = every_among (λ (t : Signal). (is_port t.kind && not (is_right_port filter_face d t)) ≡ false) s d.signals right_ports among in
          not_false (is_right_port filter_face d s) (ap (λ (b : Bool). b && not (is_right_port filter_face d s)) (sym (ap is_port is ∙ port)) ∙ fails_not)

      driven : (s : Signal) (k : Kind) → s.kind ≡ k → needs_driver k ≡ true → Among s d.signals → is_driven d s.name ≡ true
      driven s k is needs among =
          let fails_not = every_among (λ (t : Signal). (needs_driver t.kind && not (is_driven d t.name)) ≡ false) s d.signals all_driven among in
          not_false (is_driven d s.name) (ap (λ (b : Bool). b && not (is_driven d s.name)) (sym (ap needs_driver is ∙ needs)) ∙ fails_not)

      kinds : (s : Signal) → declaration_in d.signals n ≡ Some s → Among s d.signals → s.name ≡ n → (k : Kind) → s.kind ≡ k → IsKnown d n
      kinds s at among name Input is = inr (inr (input_of s n name is (right s Input is refl among) other))
      kinds s at among name Output is = inl (wire_of s n at name (driven s Output is refl among) (ap can_be_given is))
      kinds s at among name Wire is = inl (wire_of s n at name (driven s Wire is refl among) (ap can_be_given is))
      kinds s at among name Reg is = inr (inl (kind_known n s can_be_given at ∙ ap can_be_given is))

      by : (o : Option Signal) → declaration_in d.signals n ≡ o → is_some (declaration_in d.signals n) ≡ true → IsKnown d n
      by None at is = absurd (let never = sym (ap is_some at) ∙ is in grind arith)
      by (Some s) at is =
          let found = find_passes (λ (t : Signal). t.name == n) d.signals s at in
          kinds s at found.0 (eqb-true s.name n found.1) s.kind refl

  known_use : (u : Use) → not (is_declared d (used_name u)) ≡ false → is_wrong_use d u ≡ false → Allows (IsKnown d) u
  known_use (Assigned n) declared right = tt
  known_use (Given n) declared right = tt
  known_use (Read n) declared right = known n (not_false _ declared) right
  known_use (Selected n high low) declared right = known n (not_false _ declared) right

  known_uses : (us : List Use) → Every (λ u. not (is_declared d (used_name u)) ≡ false) us → Every (λ u. is_wrong_use d u ≡ false) us → Every (Allows (IsKnown d)) us
  known_uses [] declared right = tt
  known_uses (u ∷ us) declared right = (known_use u declared.0 right.0, known_uses us declared.1 right.1)

  -- each name in an expression is known
  pub all_known : Every (Allows (IsKnown d)) (uses d)
  all_known = known_uses (uses d) declared_uses right_uses

  -- an output port is driven by an assignment
  output_driven : (c : ℕ) (text : List ℕ) → has_port d (c ∷ text) ≡ true → ((s : Signal) → s.kind ≡ Input → list_any (λ (p : Port). is_as p (c ∷ text) s) filter_face ≡ false) → IsWire d (number_of d (c ∷ text))
  output_driven c text there no_input =
      let found = some_among (λ (s : Signal). is_port s.kind && bytes_eq (text_of d s.name) (c ∷ text)) d.signals there in
      let s = found.0 in
      let parts = both (is_port s.kind) (bytes_eq (text_of d s.name) (c ∷ text)) found.2 in
      let same = (bytes_eq-Decides (text_of d s.name) (c ∷ text)).0 parts.1 in
      let read = read_name d.names s.name c text same in
      let number : number_of d (c ∷ text) ≡ s.name = ap (λ (x : List ℕ). position_or_len (bytes_eq x) d.names) (sym read.1) ∙ first_with_text d.names s.name distinct read.0 in
      subst (IsWire d) (sym number) (by s found.1 parts.0 same s.kind refl)
    where
      wire : (s : Signal) → Among s d.signals → s.kind ≡ Output → IsWire d s.name
      wire s among is =
          let fails_not = every_among (λ (t : Signal). (needs_driver t.kind && not (is_driven d t.name)) ≡ false) s d.signals all_driven among in
          let driven = not_false (is_driven d s.name) (ap (λ (b : Bool). b && not (is_driven d s.name)) (sym (ap needs_driver is)) ∙ fails_not) in
          wire_of s s.name (declared_once d.signals apart s among) refl driven (ap can_be_given is)

      by : (s : Signal) → Among s d.signals → is_port s.kind ≡ true → text_of d s.name ≡ c ∷ text → (k : Kind) → s.kind ≡ k → IsWire d s.name
      by s among port same Output is = wire s among is
      by s among port same Wire is = absurd (let never = sym (ap is_port is) ∙ port in grind arith)
      by s among port same Reg is = absurd (let never = sym (ap is_port is) ∙ port in grind arith)
      by s among port same Input is =
          let fails_not = every_among (λ (t : Signal). (is_port t.kind && not (is_right_port filter_face d t)) ≡ false) s d.signals right_ports among in
          let right = not_false (is_right_port filter_face d s) (ap (λ (b : Bool). b && not (is_right_port filter_face d s)) (sym port) ∙ fails_not) in
          let wrong = ap (λ (x : List ℕ). list_any (λ (p : Port). is_as p x s) filter_face) same ∙ no_input s is in
          absurd (let never = sym right ∙ wrong in grind arith)

  pub out_valid_wire : IsWire d (number_of d (codes "out_valid"))
  out_valid_wire = output_driven 111 (codes "ut_valid") (port_there filter_face d passes 4 (codes "out_valid") refl) (λ s e. ap (λ (k : Kind). (not (is_input_port k) && is_bit_port s) || false) e)

  pub out_data_wire : IsWire d (number_of d (codes "out_data"))
  out_data_wire = output_driven 111 (codes "ut_data") (port_there filter_face d passes 5 (codes "out_data") refl) (λ s e. ap (λ (k : Kind). (not (is_input_port k) && is_data_port s) || false) e)
