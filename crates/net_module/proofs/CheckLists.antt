-- Lists in which nothing fails a test: the ways in which the checks of a module pass.
use Rattle.std.proofs.Common.{◌≡◌, ℕ, zero, suc, ◌+◌, ◌<◌, ◌≤◌, Bool, true, false, not, ◌&&◌, ◌||◌, cond, List, [], ◌∷◌, find, None, Some, refl, ◌∙◌, ap, arith, ◌⊎◌, inl, inr}
use Rattle.std.specs.Prelude.{◌==◌, nat_le}
use Rattle.std.specs.List.{list_any}
use Rattle.std.proofs.lemmas.Bool.{ne_eqb, eq-eqb}
use Rattle.std.proofs.lemmas.Bool.Decides.{nat_tests}
use Rattle.verilog_tree.specs.declared.tree.Signal.{Signal}
use Rattle.verilog_tree.specs.Tree.{Design}
use Rattle.verilog_tree.specs.Cycle.{AreLevels}
use Rattle.verilog_tree.specs.Checks.{or_else, with_declaration, in_text_order, first_repeat, Drive, first_shared, DependsBy, DependsOnItself}

-- no element passes the test
abbrev pub AllFail : {A : Type 0} → (A → Bool) → List A → Type 0
AllFail test [] = Unit {0}
AllFail test (x ∷ xs) = (test x ≡ false) × AllFail test xs

pub find_none : {A : Type 0} (test : A → Bool) (xs : List A) → AllFail test xs → find test xs ≡ None
find_none test [] all = refl
find_none test (x ∷ xs) all = ap (λ (b : Bool). cond b (Some x) (find test xs)) all.0 ∙ find_none test xs all.1

pub any_none : {A : Type 0} (test : A → Bool) (xs : List A) → AllFail test xs → list_any test xs ≡ false
any_none test [] all = refl
any_none test (x ∷ xs) all = ap (λ (b : Bool). b || list_any test xs) all.0 ∙ any_none test xs all.1

-- ---- declarations that are in order already

abbrev pub AllAtStart : List Signal → Type 0
AllAtStart [] = Unit {0}
AllAtStart (s ∷ ss) = (s.place ≡ 0) × AllAtStart ss

first_stands : (s : Signal) (ss : List Signal) → s.place ≡ 0 → with_declaration s ss ≡ s ∷ ss
first_stands s [] is = refl
first_stands s (t ∷ ts) is = ap (λ (b : Bool). cond b (s ∷ t ∷ ts) (t ∷ with_declaration s ts)) (ap (λ (n : ℕ). nat_le n t.place) is ∙ least t.place)
  where
    least : (n : ℕ) → nat_le 0 n ≡ true
    least n = grind (arith, nat_tests)

pub in_order : (ss : List Signal) → AllAtStart ss → in_text_order ss ≡ ss
in_order [] all = refl
in_order (s ∷ ss) all = ap (with_declaration s) (in_order ss all.1) ∙ first_stands s ss all.0

-- ---- numbers that rise

abbrev pub IsRising : ℕ → List ℕ → Type 0
IsRising first [] = Unit {0}
IsRising first (n ∷ ns) = (first ≤ n) × IsRising (n + 1) ns

abbrev pub AllBelow : ℕ → List ℕ → Type 0
AllBelow first [] = Unit {0}
AllBelow first (m ∷ ms) = (m < first) × AllBelow first ms

below_apart : (first n : ℕ) (seen : List ℕ) → first ≤ n → AllBelow first seen → AllFail (λ (m : ℕ). m == n) seen
below_apart first n [] le all = tt
below_apart first n (m ∷ ms) le all = (ne_eqb m n (λ e. omega (arith, all.0)), below_apart first n ms le all.1)

below_more : (first n : ℕ) (seen : List ℕ) → first ≤ n → AllBelow first seen → AllBelow n seen
below_more first n [] le all = tt
below_more first n (m ∷ ms) le all = (omega (arith, all.0), below_more first n ms le all.1)

pub no_repeat : (seen ns : List ℕ) (first : ℕ) → AllBelow first seen → IsRising first ns → first_repeat seen ns ≡ None
no_repeat seen [] first below rising = refl
no_repeat seen (n ∷ ns) first below rising =
    ap (λ (b : Bool). or_else (cond b (Some n) None) (first_repeat (n ∷ seen) ns)) (any_none (λ (m : ℕ). m == n) seen (below_apart first n seen rising.0 below))
    ∙ no_repeat (n ∷ seen) ns (n + 1) (omega arith, below_more first (n + 1) seen (omega (arith, rising.0)) below) rising.1

-- ---- drives of names that are apart

-- none of these is a drive of this name
abbrev pub NoneDrives : ℕ → List Drive → Type 0
NoneDrives n [] = Unit {0}
NoneDrives n (y ∷ ys) = (y.name ≡ n → ⊥) × NoneDrives n ys

-- each of these is a drive of another name or by the same driver
abbrev pub NoneOther : Drive → List Drive → Type 0
NoneOther x [] = Unit {0}
NoneOther x (y ∷ ys) = ((y.name ≡ x.name → ⊥) ⊎ (y.driver ≡ x.driver)) × NoneOther x ys

pub none_other : (x : Drive) (seen : List Drive) → NoneDrives x.name seen → NoneOther x seen
none_other x [] all = tt
none_other x (y ∷ ys) all = (inl all.0, none_other x ys all.1)

-- each is a drive of a name that no other driver before it drives
abbrev pub AreFresh : List Drive → List Drive → Type 0
AreFresh seen [] = Unit {0}
AreFresh seen (x ∷ xs) = NoneOther x seen × AreFresh (x ∷ seen) xs

other_fails : (x y : Drive) → (y.name ≡ x.name → ⊥) ⊎ (y.driver ≡ x.driver) → (y.name == x.name && not (y.driver == x.driver)) ≡ false
other_fails x y (inl apart) = ap (λ (b : Bool). b && not (y.driver == x.driver)) (ne_eqb y.name x.name apart)
other_fails x y (inr same) = ap (λ (b : Bool). y.name == x.name && not b) (eq-eqb y.driver x.driver same) ∙ last (y.name == x.name)
  where
    last : (b : Bool) → (b && false) ≡ false
    last true = refl
    last false = refl

apart_fails : (x : Drive) (seen : List Drive) → NoneOther x seen → AllFail (λ (y : Drive). y.name == x.name && not (y.driver == x.driver)) seen
apart_fails x [] all = tt
apart_fails x (y ∷ ys) all = (other_fails x y all.0, apart_fails x ys all.1)

pub none_shared : (seen xs : List Drive) → AreFresh seen xs → first_shared seen xs ≡ None
none_shared seen [] fresh = refl
none_shared seen (x ∷ xs) fresh =
    ap (λ (b : Bool). or_else (cond b (Some x.name) None) (first_shared (x ∷ seen) xs)) (any_none (λ (y : Drive). y.name == x.name && not (y.driver == x.driver)) seen (apart_fails x seen fresh.0))
    ∙ none_shared (x ∷ seen) xs fresh.1

-- ---- levels

-- what a name depends on has a lower level
depends_lower : (d : Design) (level : ℕ → ℕ) → AreLevels d level → (k m n : ℕ) → DependsBy d (suc k) m n → level n < level m
depends_lower d level levels zero m n (i, a, at, target, r, read, rest) =
    let lower = levels i a at r read in omega (arith, lower, ap level target, ap level rest)
depends_lower d level levels (suc k) m n (i, a, at, target, r, read, rest) =
    let lower = levels i a at r read in
    let below = depends_lower d level levels k r n rest in
    omega (arith, lower, ap level target, below)

pub no_loop : (d : Design) (level : ℕ → ℕ) → AreLevels d level → (n : ℕ) → DependsOnItself d n → ⊥
no_loop d level levels n (k, depends) = let lower = depends_lower d level levels k n n depends in omega (arith, lower)
