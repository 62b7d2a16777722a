-- Names with two drivers, and names that are driven, turn by turn.
use Rattle.std.proofs.Common.{◌≡◌, ℕ, ◌+◌, ◌<◌, ◌≤◌, Bool, true, false, not, ◌&&◌, ◌||◌, cond, List, [], ◌∷◌, map, Option, None, Some, length, get_or, drop, refl, sym, ap, ◌∙◌}
use Rattle.std.specs.Prelude.{◌==◌}
use Rattle.std.specs.List.{list_any}
use Rattle.std.proofs.lemmas.Bool.{eqb-true}
use Rattle.std.proofs.Math.Path.{fun_ext}
use Rattle.verilog_tree.specs.Checks as checks
use Rattle.verilog_tree.specs.Checks.{or_else, first_shared}
use Rattle.verilog_check.specs.declared.drives.Drive.{Drive}
use Rattle.verilog_check.specs.Drives.{drive_view, is_other}
use Rattle.verilog_check.proofs.Lists.{drop_next, drop_all, if_true, if_false}

-- the first name for which another driver is known or stands before
abbrev pub first_with_other : (ℕ → Option ℕ) → List checks.Drive → Option ℕ
first_with_other known [] = None
first_with_other known (x ∷ xs) = cond (is_other x.driver (known x.name)) (Some x.name) (first_with_other (λ n. cond (x.name == n) (Some x.driver) (known n)) xs)

-- the drives that were seen have the drivers that are known
abbrev Matches : (ℕ → Option ℕ) → List checks.Drive → Type 0
Matches known seen = (name driver : ℕ) → list_any (λ (y : checks.Drive). y.name == name && not (y.driver == driver)) seen ≡ is_other driver (known name)

known_first : (b : Bool) (n : ℕ) (rest : Option ℕ) → or_else (cond b (Some n) None) rest ≡ cond b (Some n) rest
known_first true n rest = refl
known_first false n rest = refl

matches_more : (known : ℕ → Option ℕ) (seen : List checks.Drive) (x : checks.Drive) → Matches known seen → is_other x.driver (known x.name) ≡ false
    → Matches (λ n. cond (x.name == n) (Some x.driver) (known n)) (x ∷ seen)
matches_more known seen x h same name driver = by (x.name == name) refl (h name driver)
  where
    -- the known driver, if there is one, is this one
    old_driver : (o : Option ℕ) → is_other x.driver o ≡ false → (not (x.driver == driver) || is_other driver o) ≡ not (x.driver == driver)
    old_driver None e = or_false (not (x.driver == driver))
      where
        or_false : (b : Bool) → (b || false) ≡ b
        or_false true = refl
        or_false false = refl
    old_driver (Some j) e =
        let j_is : j ≡ x.driver = eqb-true j x.driver (unflipped (j == x.driver) e) in
        ap (λ (m : ℕ). not (x.driver == driver) || not (m == driver)) j_is ∙ or_same (not (x.driver == driver))
      where
        unflipped : (b : Bool) → not b ≡ false → b ≡ true
        unflipped true e = refl
        unflipped false e = absurd (cc)

        or_same : (b : Bool) → (b || b) ≡ b
        or_same true = refl
        or_same false = refl

    by : (b : Bool) → (x.name == name) ≡ b → list_any (λ (y : checks.Drive). y.name == name && not (y.driver == driver)) seen ≡ is_other driver (known name)
        → ((b && not (x.driver == driver)) || list_any (λ (y : checks.Drive). y.name == name && not (y.driver == driver)) seen) ≡ is_other driver (cond b (Some x.driver) (known name))
    by true e before =
        ap (λ (c : Bool). not (x.driver == driver) || c) before
        ∙ old_driver (known name) (ap (λ (n : ℕ). is_other x.driver (known n)) (sym (eqb-true x.name name e)) ∙ same)
    by false e before = before

shared : (known : ℕ → Option ℕ) (seen xs : List checks.Drive) → Matches known seen → first_shared seen xs ≡ first_with_other known xs
shared known seen [] h = refl
shared known seen (x ∷ xs) h =
    known_first (list_any (λ (y : checks.Drive). y.name == x.name && not (y.driver == x.driver)) seen) x.name (first_shared (x ∷ seen) xs)
    ∙ ap (λ (b : Bool). cond b (Some x.name) (first_shared (x ∷ seen) xs)) (h x.name x.driver)
    ∙ by (is_other x.driver (known x.name)) refl (λ same. shared (λ n. cond (x.name == n) (Some x.driver) (known n)) (x ∷ seen) xs (matches_more known seen x h same))
  where
    by : (b : Bool) → is_other x.driver (known x.name) ≡ b
        → (is_other x.driver (known x.name) ≡ false → first_shared (x ∷ seen) xs ≡ first_with_other (λ n. cond (x.name == n) (Some x.driver) (known n)) xs)
        → cond b (Some x.name) (first_shared (x ∷ seen) xs) ≡ cond b (Some x.name) (first_with_other (λ n. cond (x.name == n) (Some x.driver) (known n)) xs)
    by true e rest = refl
    by false e rest = rest e

pub none_shared : (known : ℕ → Option ℕ) (xs : List checks.Drive) → ((n : ℕ) → known n ≡ None) → first_with_other known xs ≡ first_shared [] xs
none_shared known xs none = sym (shared known [] xs (λ name driver. ap (is_other driver) (sym (none name))))

-- ---- turns of the search for a name with two drivers

module _ (xs : List Drive) (k : ℕ) (known : ℕ → Option ℕ) (whole : Option ℕ) (before : first_with_other known (map drive_view (drop k xs)) ≡ whole) where
  pub shared_ends : length xs ≤ k → whole ≡ None
  shared_ends le = sym before ∙ ap (λ (ys : List Drive). first_with_other known (map drive_view ys)) (drop_all xs k le)

  module _ (x : Drive) (lt : k < length xs) (is : x ≡ get_or xs k x) (old : Option ℕ) (old_is : old ≡ known x.name) where
    turn : whole ≡ cond (is_other x.driver old) (Some x.name) (first_with_other (λ n. cond (x.name == n) (Some x.driver) (known n)) (map drive_view (drop (k + 1) xs)))
    turn =
        sym before ∙ ap (λ (ys : List Drive). first_with_other known (map drive_view ys)) (drop_next xs k x lt is)
        ∙ ap (λ (o : Option ℕ). cond (is_other x.driver o) (Some x.name) (first_with_other (λ n. cond (x.name == n) (Some x.driver) (known n)) (map drive_view (drop (k + 1) xs)))) (sym old_is)

    pub shared_hits : is_other x.driver old ≡ true → whole ≡ Some x.name
    shared_hits other = turn ∙ if_true (is_other x.driver old) (Some x.name) _ other

    pub shared_skips : (next : ℕ → Option ℕ) → is_other x.driver old ≡ false → ((n : ℕ) → next n ≡ cond (x.name == n) (Some x.driver) (known n)) → first_with_other next (map drive_view (drop (k + 1) xs)) ≡ whole
    shared_skips next same updates =
        ap (λ (m : ℕ → Option ℕ). first_with_other m (map drive_view (drop (k + 1) xs))) (fun_ext updates)
        ∙ sym (turn ∙ if_false (is_other x.driver old) (Some x.name) _ same)

-- ---- turns of the collection of the names that are driven

-- a name is in the set or driven from this place on exactly where it is driven
pub record AreDriven (xs : List Drive) (k : ℕ) (set : ℕ → Bool) : Type 0 where
  pub has : (n : ℕ) → cond (set n) true (list_any (λ (x : checks.Drive). x.name == n) (map drive_view (drop k xs))) ≡ list_any (λ (x : checks.Drive). x.name == n) (map drive_view xs)
