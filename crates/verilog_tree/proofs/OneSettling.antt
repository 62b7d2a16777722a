-- A module that is driven once and has no loop has exactly one settling of each content.
use Rattle.std.proofs.Common.{◌≡◌, ℕ, ◌<◌, ◌%◌, ◌^◌, Bool, true, false, ◌||◌, List, map, Option, None, Some, slice_get, refl, sym, ap, ◌∙◌, arith, subst, max}
use Rattle.std.specs.Prelude.{◌==◌, if◌then◌else◌}
use Rattle.std.specs.Option.{option_map}
use Rattle.std.proofs.lemmas.Option.{slice_get-map}
use Rattle.verilog_tree.specs.Tree.{Tree, Action, Actions, Block, When, Either, Give, no_action, action, Assignment, Design}
use Rattle.verilog_tree.specs.Meaning.{Values, length_of, signed_of}
use Rattle.verilog_tree.specs.Names.{shapes_of}
use Rattle.verilog_tree.specs.Circuit.{Driver, Process, IsSettling, IsSound, HasNoLoop, DependsOnReads, later}
use Rattle.verilog_tree.specs.Cycle.{one_of, given_with, given_with_all, sets, any_sets, driver_of, process_of, circuit_of, IsDrivenOnce, IsLoopFree}
use Rattle.verilog_tree.proofs.DependsOnReads.{depends_on_reads, or_left, or_right}
use Rattle.verilog_tree.proofs.Settling.{exactly_one}

same_some : {A : Type 0} (x y : A) → Some x ≡ Some y → x ≡ y
same_some x y same = cc

-- ---- a statement gives values only to what it sets

abbrev GivesOnly : {A : Type 0} → Option A → Bool → Type 0
GivesOnly {A} o b = (x : A) → o ≡ Some x → b ≡ true

module _ {A : Type 0} (holds : Tree → Bool) (gives : ℕ → Tree → A) (register : ℕ) where
  either_later : (o p : Option A) (a b : Bool) → GivesOnly o a → GivesOnly p b → GivesOnly (later o p) (a || b)
  either_later o None a b f g x is = or_left a b (f x is)
  either_later o (Some y) a b f g x is = or_right a b (g y refl)

  either_one : (t : Bool) (o p : Option A) (a b : Bool) → GivesOnly o a → GivesOnly p b → GivesOnly (one_of t o p) (a || b)
  either_one true o p a b f g x is = or_left a b (f x is)
  either_one false o p a b f g x is = or_right a b (g x is)

  only_one : (t : Bool) (o : Option A) (a : Bool) → GivesOnly o a → GivesOnly (one_of t o None) a
  only_one true o a f x is = f x is
  only_one false o a f x is = absurd (grind arith)

  set_sets : (b : Bool) (y : A) → GivesOnly (if b then Some y else None) b
  set_sets true y x is = refl
  set_sets false y x is = absurd (grind arith)

  mutual
    pub gives_only : (s : Action) → GivesOnly (given_with holds gives s register) (sets s register)
    gives_only (Block members) x is = all_give_only members x is
    gives_only (When condition first) x is = only_one (holds condition) (given_with holds gives first register) (sets first register) (gives_only first) x is
    gives_only (Either condition first second) x is =
        either_one (holds condition) (given_with holds gives first register) (given_with holds gives second register) (sets first register) (sets second register) (gives_only first) (gives_only second) x is
    gives_only (Give target e) x is = set_sets (register == target) (gives target e) x is

    pub all_give_only : (ss : Actions) → GivesOnly (given_with_all holds gives ss register) (any_sets ss register)
    all_give_only no_action x is = absurd (grind arith)
    all_give_only (action first rest) x is =
        either_later (given_with holds gives first register) (given_with_all holds gives rest register) (sets first register) (any_sets rest register) (gives_only first) (all_give_only rest) x is

-- ---- the circuit of a module

some_of_map : {A B : Type 0} (f : A → B) (o : Option A) (y : B) → option_map f o ≡ Some y → (x : A) × (o ≡ Some x) × (f x ≡ y)
some_of_map f None y is = absurd (grind arith)
some_of_map f (Some x) y is = (x, refl, same_some (f x) y is)

pub mapped : {A B : Type 0} (f : A → B) (xs : List A) (k : ℕ) (y : B) → slice_get (map f xs) k ≡ Some y → (x : A) × (slice_get xs k ≡ Some x) × (f x ≡ y)
mapped f xs k y is = some_of_map f (slice_get xs k) y (sym (slice_get-map f xs k) ∙ is)

module _ (m : Design) where
  pub assign_at : (k : ℕ) (d : Driver) → slice_get (circuit_of m).drivers k ≡ Some d → (a : Assignment) × (slice_get m.assigns k ≡ Some a) × (driver_of (shapes_of m) a ≡ d)
  assign_at k d at = mapped (driver_of (shapes_of m)) m.assigns k d at

  pub block_at : (k : ℕ) (p : Process) → slice_get (circuit_of m).processes k ≡ Some p → (s : Action) × (slice_get m.blocks k ≡ Some s) × (process_of (shapes_of m) s ≡ p)
  block_at k p at = mapped (process_of (shapes_of m)) m.blocks k p at

  setter : (s : Action) (p : Process) (values : Values) (register x : ℕ) → process_of (shapes_of m) s ≡ p → p values register ≡ Some x → sets s register ≡ true
  setter s p values register x is gives = gives_only _ _ register s x (ap (λ (q : Process). q values register) is ∙ gives)

  pub circuit_sound : IsDrivenOnce m → IsSound (circuit_of m)
  circuit_sound once = record {
    depends = λ k d at. depends k d (assign_at k d at);
    one_driver = λ i j d e at found same.
        let a = assign_at i d at in
        let b = assign_at j e found in
        once.one_assign i j a.0 b.0 a.1 b.1 (ap (λ (y : Driver). y.target) a.2 ∙ same ∙ sym (ap (λ (y : Driver). y.target) b.2));
    one_process = λ i j p q values register x y at found gives also.
        let s = block_at i p at in
        let t = block_at j q found in
        once.one_block i j register s.0 t.0 s.1 t.1 (setter s.0 p values register x s.2 gives) (setter t.0 q values register y t.2 also);
    registers = λ k p values register x at gives i d found is.
        let s = block_at k p at in
        let a = assign_at i d found in
        once.no_assign k i register s.0 a.0 s.1 a.1 (setter s.0 p values register x s.2 gives) (ap (λ (y : Driver). y.target) a.2 ∙ is);
  }
    where
      depends : (k : ℕ) (d : Driver) → (a : Assignment) × (slice_get m.assigns k ≡ Some a) × (driver_of (shapes_of m) a ≡ d) → DependsOnReads d
      depends k d (a, at, is) = subst DependsOnReads is (λ v w same.
          ap (λ (x : ℕ). x % 2 ^ (shapes_of m).width a.target)
          (depends_on_reads (shapes_of m) v w a.value same (max (length_of (shapes_of m) a.value) ((shapes_of m).width a.target)) (signed_of (shapes_of m) a.value)))

  pub circuit_loop_free : IsLoopFree m → HasNoLoop (circuit_of m)
  circuit_loop_free (level, above) = (level, λ k d at. by k d (assign_at k d at))
    where
      by : (k : ℕ) (d : Driver) → (a : Assignment) × (slice_get m.assigns k ≡ Some a) × (driver_of (shapes_of m) a ≡ d) → (n : ℕ) → d.reads n ≡ true → level n < level d.target
      by k d (a, at, is) = subst (λ (e : Driver). (n : ℕ) → e.reads n ≡ true → level n < level e.target) is (above k a at)

  -- each content of registers and inputs has exactly one settling
  pub exactly_one_settling : IsDrivenOnce m → IsLoopFree m → (content : Values)
      → (v : Values) × IsSettling (circuit_of m) content v × ((w : Values) → IsSettling (circuit_of m) content w → (n : ℕ) → w n ≡ v n)
  exactly_one_settling once free content = exactly_one (circuit_of m) (circuit_sound once) (circuit_loop_free free) content
