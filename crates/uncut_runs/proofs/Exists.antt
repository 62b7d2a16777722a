-- The numbers of an uncut cycle, from the lowest level up.
use Rattle.std.proofs.Common.{◌≡◌, ℕ, zero, suc, ◌<◌, Bool, true, false, cond, List, [], ◌∷◌, find, Option, None, Some, slice_get, ℤ, refl, sym, ◌∙◌, ap, subst, arith}
use Rattle.std.specs.Prelude.{◌==◌}
use Rattle.std.specs.Option.{option_map, option_map_or}
use Rattle.std.proofs.lemmas.Bool.{eqb-true, eq-eqb}
use Rattle.std.proofs.Math.Path.{fun_ext}
use Rattle.verilog_tree.specs.declared.tree.Signal.{Signal}
use Rattle.verilog_tree.specs.declared.tree.Kind.{Kind}
use Rattle.verilog_tree.specs.declared.tree.Kind.TheVariants.{Input, Output, Wire, Reg}
use Rattle.verilog_tree.specs.Tree.{Assignment, Design}
use Rattle.verilog_tree.specs.Meaning.{Values}
use Rattle.verilog_tree.specs.Names.{declaration_in, shapes_of, kind_of, text_of, is_control}
use Rattle.verilog_tree.specs.Cycle.{IsDrivenOnce, IsLoopFree}
use Rattle.verilog_tree.specs.Checks.{is_input_port, Passes, filter_face}
use Rattle.verilog_tree.specs.Uncut.{Numbers, IsUncut, IsUncutRun, number_at, whole, whole_next}
use Rattle.module_laws.proofs.Levels.{loop_free}
use Rattle.module_laws.proofs.Passing.{none_fails, passing_driven}
use Rattle.uncut_runs.specs.Exists.{HasOneUncutRun}
use Rattle.uncut_runs.proofs.AssignedKinds.{assigns_no_input}
use Rattle.uncut_runs.proofs.WholeReads.{whole_reads}

false_true : false ≡ true → ⊥
false_true h = cc

-- ---- the assignment of a name

abbrev drives : ℕ → Assignment → Bool
drives n a = a.target == n

record IsFound (n : ℕ) (assigns : List Assignment) (a : Assignment) : Type 0 where
  place : ℕ
  there : slice_get assigns place ≡ Some a
  target : a.target ≡ n

found : (n : ℕ) (assigns : List Assignment) (a : Assignment) → find (drives n) assigns ≡ Some a → IsFound n assigns a
found n [] a e = absurd (cc)
found n (x ∷ assigns) a e = by (drives n x) refl e (λ later. found n assigns a later)
  where
    by : (b : Bool) → drives n x ≡ b → cond b (Some x) (find (drives n) assigns) ≡ Some a → (find (drives n) assigns ≡ Some a → IsFound n assigns a) → IsFound n (x ∷ assigns) a
    by true is e more = let same : x ≡ a = cc in record { place = 0; there = e; target = ap (λ (b : Assignment). b.target) (sym same) ∙ eqb-true x.target n is }
    by false is e more = let later = more e in record { place = suc later.place; there = later.there; target = later.target }

not_found : (n : ℕ) (assigns : List Assignment) → find (drives n) assigns ≡ None → (k : ℕ) (a : Assignment) → slice_get assigns k ≡ Some a → a.target ≡ n → ⊥
not_found n [] e k a at is = absurd (cc)
not_found n (x ∷ assigns) e k a at is = by (drives n x) refl e k at (λ later j there. not_found n assigns later j a there is)
  where
    by : (b : Bool) → drives n x ≡ b → cond b (Some x) (find (drives n) assigns) ≡ None → (k : ℕ) → slice_get (x ∷ assigns) k ≡ Some a → (find (drives n) assigns ≡ None → (j : ℕ) → slice_get assigns j ≡ Some a → ⊥) → ⊥
    by true its e k at more = absurd (cc)
    by false its e zero at more = let same : x ≡ a = cc in false_true (sym its ∙ eq-eqb x.target n (ap (λ (b : Assignment). b.target) same ∙ is))
    by false its e (suc k) at more = more e k at

-- ---- inputs

in_kind : (o : Option Signal) → option_map (λ (s : Signal). s.kind) o ≡ Some Input → option_map_or (λ (s : Signal). is_input_port s.kind) o false ≡ true
in_kind None e = absurd (cc)
in_kind (Some s) e = let same : s.kind ≡ Input = one_kind s.kind Input e in ap is_input_port same
  where
    one_kind : (a b : Kind) → Some a ≡ Some b → a ≡ b
    one_kind a b e = cc

kind_in : (o : Option Signal) → option_map_or (λ (s : Signal). is_input_port s.kind) o false ≡ true → option_map (λ (s : Signal). s.kind) o ≡ Some Input
kind_in None e = absurd (false_true e)
kind_in (Some s) e = by s.kind e
  where
    by : (kind : Kind) → is_input_port kind ≡ true → Some kind ≡ Some Input
    by Input e = refl
    by Output e = absurd (false_true e)
    by Wire e = absurd (false_true e)
    by Reg e = absurd (false_true e)

-- ---- the numbers of a cycle

module _ (d : Design) (driven : IsDrivenOnce d) (free : IsLoopFree d) (inputs : (k : ℕ) (a : Assignment) → slice_get d.assigns k ≡ Some a → kind_of d a.target ≡ Some Input → ⊥) where
  abbrev level : ℕ → ℕ
  level = free.0

  abbrev driver : ℕ → Option Assignment
  driver n = find (drives n) d.assigns

  abbrev is_in : ℕ → Bool
  is_in n = option_map_or (λ (s : Signal). is_input_port s.kind) (declaration_in d.signals n) false

  module _ (start : Numbers) (values : Values) where
    -- the number of a name, by whether it is control or an input, and from the numbers of the names that it reads
    abbrev pick : Bool → Bool → Option Assignment → ℤ → ℤ → Numbers → ℤ
    pick true input o shown kept lower = shown
    pick false true o shown kept lower = shown
    pick false false None shown kept lower = kept
    pick false false (Some a) shown kept lower = whole (shapes_of d) a.value lower

    -- the numbers of the names whose levels are below one
    numbers_to : ℕ → Numbers
    numbers_to zero n = start n
    numbers_to (suc k) n = pick (is_control (text_of d n)) (is_in n) (driver n) (number_at d values n) (start n) (numbers_to k)

    same_pick : (control input : Bool) (o : Option Assignment) (shown kept : ℤ) (v w : Numbers) → ((a : Assignment) → o ≡ Some a → whole (shapes_of d) a.value v ≡ whole (shapes_of d) a.value w)
        → pick control input o shown kept v ≡ pick control input o shown kept w
    same_pick true input o shown kept v w same = refl
    same_pick false true o shown kept v w same = refl
    same_pick false false None shown kept v w same = refl
    same_pick false false (Some a) shown kept v w same = same a refl

    -- a number is the same from its level on
    stable : (j k n : ℕ) → level n < j → level n < k → numbers_to j n ≡ numbers_to k n
    unfolding numbers_to
    stable zero k n lt more = absurd (omega arith)
    stable (suc j) zero n lt more = absurd (omega arith)
    stable (suc j) (suc k) n lt more =
        same_pick (is_control (text_of d n)) (is_in n) (driver n) (number_at d values n) (start n) (numbers_to j) (numbers_to k)
        (λ a is.
        let f = found n d.assigns a is in
        whole_reads (shapes_of d) (numbers_to j) (numbers_to k) a.value
        (λ m read.
        let below = free.1 f.place a f.there m read in
        let same = ap level f.target in
        stable j k m (omega (arith, below, same, lt)) (omega (arith, below, same, more))))

    numbers : Numbers
    numbers n = numbers_to (suc (level n)) n

    number_is : (n : ℕ) → numbers n ≡ pick (is_control (text_of d n)) (is_in n) (driver n) (number_at d values n) (start n) (numbers_to (level n))
    unfolding numbers numbers_to
    number_is n = refl

    read_same : (n : ℕ) (a : Assignment) → driver n ≡ Some a → whole (shapes_of d) a.value (numbers_to (level n)) ≡ whole (shapes_of d) a.value numbers
    unfolding numbers
    read_same n a is =
        let f = found n d.assigns a is in
        whole_reads (shapes_of d) (numbers_to (level n)) numbers a.value
        (λ m read. let below = free.1 f.place a f.there m read in let same = ap level f.target in stable (level n) (suc (level m)) m (omega (arith, below, same)) (omega arith))

    no_in : (n : ℕ) → (kind_of d n ≡ Some Input → ⊥) → is_in n ≡ false
    no_in n never = by (is_in n) refl
      where
        by : (b : Bool) → is_in n ≡ b → is_in n ≡ false
        by true e = absurd (never (kind_in (declaration_in d.signals n) e))
        by false e = e

    pick_in : (control : Bool) (o : Option Assignment) (shown kept : ℤ) (lower : Numbers) → pick control true o shown kept lower ≡ shown
    pick_in true o shown kept lower = refl
    pick_in false o shown kept lower = refl

    -- a name of data that is no input has what its assignment gives, or what it had
    pick_data : (control input : Bool) (o : Option Assignment) (shown kept : ℤ) (lower : Numbers) → control ≡ false → input ≡ false → pick control input o shown kept lower ≡ pick false false o shown kept lower
    pick_data control input o shown kept lower c i = rw (c, i) refl

    driver_of_wire : (k : ℕ) (a : Assignment) → slice_get d.assigns k ≡ Some a → driver a.target ≡ Some a
    driver_of_wire k a at = by (driver a.target) refl
      where
        one_assignment : (x y : Assignment) → Some x ≡ Some y → x ≡ y
        one_assignment x y e = cc

        by : (o : Option Assignment) → driver a.target ≡ o → driver a.target ≡ Some a
        by None is = absurd (not_found a.target d.assigns is k a at refl)
        by (Some b) is =
            let f = found a.target d.assigns b is in
            let place = driven.one_assign f.place k b a f.there at f.target in
            is ∙ ap Some (one_assignment b a (sym f.there ∙ ap (slice_get d.assigns) place ∙ at))

    no_driver_of : (n : ℕ) → ((k : ℕ) (a : Assignment) → slice_get d.assigns k ≡ Some a → a.target ≡ n → ⊥) → driver n ≡ None
    no_driver_of n never = by (driver n) refl
      where
        by : (o : Option Assignment) → driver n ≡ o → driver n ≡ None
        by None is = is
        by (Some a) is = let f = found n d.assigns a is in absurd (never f.place a f.there f.target)

    is_uncut : IsUncut d start values numbers
    is_uncut = record {
      control = λ n is. number_is n ∙ ap (λ (b : Bool). pick b (is_in n) (driver n) (number_at d values n) (start n) (numbers_to (level n))) is;
      inputs = λ n is.
          number_is n ∙ ap (λ (b : Bool). pick (is_control (text_of d n)) b (driver n) (number_at d values n) (start n) (numbers_to (level n))) (in_kind (declaration_in d.signals n) is)
          ∙ pick_in (is_control (text_of d n)) (driver n) (number_at d values n) (start n) (numbers_to (level n));
      wires = λ k a at plain.
          let n = a.target in
          let own = driver_of_wire k a at in
          number_is n
          ∙ pick_data (is_control (text_of d n)) (is_in n) (driver n) (number_at d values n) (start n) (numbers_to (level n)) plain (no_in n (inputs k a at))
          ∙ ap (λ (o : Option Assignment). pick false false o (number_at d values n) (start n) (numbers_to (level n))) own
          ∙ read_same n a own;
      registers = λ n plain never wire.
          number_is n
          ∙ pick_data (is_control (text_of d n)) (is_in n) (driver n) (number_at d values n) (start n) (numbers_to (level n)) plain (no_in n never)
          ∙ ap (λ (o : Option Assignment). pick false false o (number_at d values n) (start n) (numbers_to (level n))) (no_driver_of n wire);
    }

  -- ---- there is one

  module _ (start : Numbers) (values : Values) (v w : Numbers) (p : IsUncut d start values v) (q : IsUncut d start values w) where
    same_data : (n : ℕ) → is_control (text_of d n) ≡ false → (input : Bool) → is_in n ≡ input → (o : Option Assignment) → driver n ≡ o → ((m : ℕ) → level m < level n → v m ≡ w m) → v n ≡ w n
    same_data n plain true is o own lower = let input = kind_in (declaration_in d.signals n) is in p.inputs n input ∙ sym (q.inputs n input)
    same_data n plain false is None own lower =
        let never : kind_of d n ≡ Some Input → ⊥ = λ input. false_true (sym is ∙ in_kind (declaration_in d.signals n) input) in
        p.registers n plain never (not_found n d.assigns own) ∙ sym (q.registers n plain never (not_found n d.assigns own))
    same_data n plain false is (Some a) own lower =
        let f = found n d.assigns a own in
        let wire = ap (λ (m : ℕ). is_control (text_of d m)) f.target ∙ plain in
        ap v (sym f.target) ∙ p.wires f.place a f.there wire
        ∙ whole_reads (shapes_of d) v w a.value (λ m read. let below = free.1 f.place a f.there m read in lower m (omega (arith, below, ap level f.target)))
        ∙ sym (q.wires f.place a f.there wire) ∙ ap w f.target

    same_below : (k n : ℕ) → level n < k → v n ≡ w n
    same_below zero n lt = absurd (omega arith)
    same_below (suc k) n lt = by (is_control (text_of d n)) refl (λ m less. same_below k m (omega (arith, lt, less)))
      where
        by : (b : Bool) → is_control (text_of d n) ≡ b → ((m : ℕ) → level m < level n → v m ≡ w m) → v n ≡ w n
        by true control lower = p.control n control ∙ sym (q.control n control)
        by false plain lower = same_data n plain (is_in n) refl (driver n) refl lower

    same_numbers : v ≡ w
    same_numbers = fun_ext (λ n. same_below (suc (level n)) n (omega arith))

  one_run : (begins : Numbers) (settled : List Values) (us ws : List Numbers) → IsUncutRun d begins settled us → IsUncutRun d begins settled ws → us ≡ ws
  one_run begins [] us ws p q = p ∙ sym q
  one_run begins (values ∷ settled) us ws (v, rest, is, one, run) (w, rest', is', one', run') =
      let same = same_numbers begins values v w one one' in
      let later = one_run (whole_next d v) settled rest rest' run (subst (λ (n : Numbers). IsUncutRun d (whole_next d n) settled rest') (sym same) run') in
      is ∙ ap (λ (n : Numbers). n ∷ rest) same ∙ ap (λ (ns : List Numbers). w ∷ ns) later ∙ sym is'

  some_run : (begins : Numbers) (settled : List Values) → (uncut : List Numbers) × IsUncutRun d begins settled uncut
  some_run begins [] = ([], refl)
  some_run begins (values ∷ settled) =
      let now = numbers begins values in
      let rest = some_run (whole_next d now) settled in
      (now ∷ rest.0, (now, rest.0, refl, is_uncut begins values, rest.1))

  one_uncut : HasOneUncutRun d
  one_uncut begins settled =
      let run = some_run begins settled in
      (run.0, run.1, λ other its. one_run begins settled other run.0 its run.1)

pub passing_uncut : (d : Design) → Passes d → HasOneUncutRun d
passing_uncut d passes = one_uncut d (passing_driven d passes) (loop_free d passes.free) (assigns_no_input d (none_fails filter_face d passes.early).kinds)
