-- A module that passes the checks drives each name once.
use Rattle.std.proofs.Common.{◌≡◌, ℕ, zero, suc, ◌+◌, Bool, true, false, not, ◌&&◌, ◌||◌, cond, List, [], ◌∷◌, length, Option, None, Some, slice_get, refl, sym, ◌∙◌, ap, arith, subst, ◌⊎◌, inl, inr}
use Rattle.std.specs.Prelude.{◌==◌}
use Rattle.std.specs.List.{list_any}
use Rattle.std.proofs.lemmas.Bool.{eqb-true, eq-eqb}
use Rattle.std.proofs.lemmas.Option.{slice_get_within}
use Rattle.verilog_tree.specs.Tree.{Action, Actions, Block, When, Either, Give, no_action, action, Assignment, Design}
use Rattle.verilog_tree.specs.Cycle.{sets, any_sets, IsDrivenOnce}
use Rattle.verilog_tree.specs.Checks.{or_else, Drive, first_shared, drives, action_drives, actions_drives, blocks_drives, assigns_drives, many_drivers}

-- ---- drives of one name have one driver

-- the drive is one of these
abbrev Among : Drive → List Drive → Type 0
Among x [] = ⊥
Among x (y ∷ ys) = (x ≡ y) ⊎ Among x ys

test_fails : (x y : Drive) → (y.name == x.name && not (y.driver == x.driver)) ≡ false → y.name ≡ x.name → y.driver ≡ x.driver
test_fails x y fails same = eqb-true y.driver x.driver (by (y.driver == x.driver) (ap (λ (b : Bool). b && not (y.driver == x.driver)) (sym (eq-eqb y.name x.name same)) ∙ fails))
  where
    by : (b : Bool) → not b ≡ false → b ≡ true
    by true e = refl
    by false e = absurd (cc)

or_fails : (a b : Bool) → (a || b) ≡ false → (a ≡ false) × (b ≡ false)
or_fails true b e = absurd (cc)
or_fails false b e = (refl, e)

any_fails : (x : Drive) (seen : List Drive) → list_any (λ (y : Drive). y.name == x.name && not (y.driver == x.driver)) seen ≡ false → (y : Drive) → Among y seen → y.name ≡ x.name → y.driver ≡ x.driver
any_fails x [] fails y among same = absurd among
any_fails x (z ∷ seen) fails y (inl is) same =
    ap (λ (w : Drive). w.driver) is ∙ test_fails x z ((or_fails _ _ fails).0) (sym (ap (λ (w : Drive). w.name) is) ∙ same)
any_fails x (z ∷ seen) fails y (inr among) same = any_fails x seen ((or_fails _ _ fails).1) y among same

head_passes : (b : Bool) (n : ℕ) (rest : Option ℕ) → or_else (cond b (Some n) None) rest ≡ None → (b ≡ false) × (rest ≡ None)
head_passes true n rest e = absurd (grind arith)
head_passes false n rest e = (refl, e)

-- drives of one name, one of these and one of these or those seen before, have one driver
abbrev AreOfOne : List Drive → List Drive → Type 0
AreOfOne seen xs = (x y : Drive) → Among x xs → Among y seen ⊎ Among y xs → y.name ≡ x.name → y.driver ≡ x.driver

one_driver : (seen xs : List Drive) → first_shared seen xs ≡ None → AreOfOne seen xs
one_driver seen [] none_shared x y among other same = absurd among
one_driver seen (z ∷ zs) none_shared x y among other same =
    let passes = head_passes _ z.name (first_shared (z ∷ seen) zs) none_shared in
    by passes.0 (one_driver (z ∷ seen) zs passes.1) among other
  where
    by : list_any (λ (w : Drive). w.name == z.name && not (w.driver == z.driver)) seen ≡ false → AreOfOne (z ∷ seen) zs → (x ≡ z) ⊎ Among x zs → Among y seen ⊎ ((y ≡ z) ⊎ Among y zs) → y.driver ≡ x.driver
    by fails rest (inl is) (inl before) = any_fails z seen fails y before (same ∙ ap (λ (w : Drive). w.name) is) ∙ sym (ap (λ (w : Drive). w.driver) is)
    by fails rest (inl is) (inr (inl its)) = ap (λ (w : Drive). w.driver) (its ∙ sym is)
    by fails rest (inl is) (inr (inr later)) = sym (rest y x later (inl (inl is)) (sym same))
    by fails rest (inr later) (inl before) = rest x y later (inl (inr before)) same
    by fails rest (inr later) (inr (inl its)) = rest x y later (inl (inl its)) same
    by fails rest (inr later) (inr (inr further)) = rest x y later (inr further) same

-- ---- what drives a name is among the drives

abbrev drive : ℕ → ℕ → Drive
drive driver name = record { driver = driver; name = name }

either : (a b : Bool) → (a || b) ≡ true → (a ≡ true) ⊎ (b ≡ true)
either true b e = inl refl
either false b e = inr e

mutual
  stays : (k : ℕ) (s : Action) (rest : List Drive) (x : Drive) → Among x rest → Among x (action_drives k s rest)
  stays k (Block members) rest x among = all_stay k members rest x among
  stays k (When condition first) rest x among = stays k first rest x among
  stays k (Either condition first second) rest x among = stays k first (action_drives k second rest) x (stays k second rest x among)
  stays k (Give target e) rest x among = inr among

  all_stay : (k : ℕ) (ss : Actions) (rest : List Drive) (x : Drive) → Among x rest → Among x (actions_drives k ss rest)
  all_stay k no_action rest x among = among
  all_stay k (action first others) rest x among = stays k first (actions_drives k others rest) x (all_stay k others rest x among)

mutual
  set_drives : (k register : ℕ) (s : Action) (rest : List Drive) → sets s register ≡ true → Among (drive k register) (action_drives k s rest)
  set_drives k register (Block members) rest is = any_set_drives k register members rest is
  set_drives k register (When condition first) rest is = set_drives k register first rest is
  set_drives k register (Either condition first second) rest is = elim (either (sets first register) (sets second register) is) [
    | inl here ↦ set_drives k register first (action_drives k second rest) here
    | inr later ↦ stays k first (action_drives k second rest) (drive k register) (set_drives k register second rest later)
  ]
  set_drives k register (Give target e) rest is = inl (ap (drive k) (eqb-true register target is))

  any_set_drives : (k register : ℕ) (ss : Actions) (rest : List Drive) → any_sets ss register ≡ true → Among (drive k register) (actions_drives k ss rest)
  any_set_drives k register no_action rest is = absurd (cc)
  any_set_drives k register (action first others) rest is = elim (either (sets first register) (any_sets others register) is) [
    | inl here ↦ set_drives k register first (actions_drives k others rest) here
    | inr later ↦ stays k first (actions_drives k others rest) (drive k register) (any_set_drives k register others rest later)
  ]

block_drives : (blocks : List Action) (k j register : ℕ) (s : Action) → slice_get blocks j ≡ Some s → sets s register ≡ true → Among (drive (k + j) register) (blocks_drives k blocks)
block_drives [] k j register s at is = absurd (omega (arith, slice_get_within {A = Action} [] j s at))
block_drives (t ∷ blocks) k zero register s at is =
    let same : t ≡ s = cc in
    let here : k ≡ k + 0 = omega arith in
    subst (λ (n : ℕ). Among (drive n register) (blocks_drives k (t ∷ blocks))) here
    (set_drives k register t (blocks_drives (k + 1) blocks) (ap (λ (a : Action). sets a register) same ∙ is))
block_drives (t ∷ blocks) k (suc j) register s at is =
    let there : k + 1 + j ≡ k + suc j = omega arith in
    subst (λ (n : ℕ). Among (drive n register) (blocks_drives k (t ∷ blocks))) there
    (stays k t (blocks_drives (k + 1) blocks) (drive (k + 1 + j) register) (block_drives blocks (k + 1) j register s at is))

after_assigns : (assigns : List Assignment) (k : ℕ) (rest : List Drive) (x : Drive) → Among x rest → Among x (assigns_drives k assigns rest)
after_assigns [] k rest x among = among
after_assigns (a ∷ assigns) k rest x among = inr (after_assigns assigns (k + 1) rest x among)

assign_drives : (assigns : List Assignment) (k i : ℕ) (rest : List Drive) (a : Assignment) → slice_get assigns i ≡ Some a → Among (drive (k + i) a.target) (assigns_drives k assigns rest)
assign_drives [] k i rest a at = absurd (omega (arith, slice_get_within {A = Assignment} [] i a at))
assign_drives (b ∷ assigns) k zero rest a at =
    let same : b ≡ a = cc in
    let here : k + 0 ≡ k = omega arith in
    inl (ap (λ (n : ℕ). drive n a.target) here ∙ sym (ap (λ (c : Assignment). drive k c.target) same))
assign_drives (b ∷ assigns) k (suc i) rest a at =
    let there : k + 1 + i ≡ k + suc i = omega arith in
    inr (subst (λ (n : ℕ). Among (drive n a.target) (assigns_drives (k + 1) assigns rest)) there (assign_drives assigns (k + 1) i rest a at))

-- ---- the whole

module _ (d : Design) (none_many : many_drivers d ≡ None) where
  one : (x y : Drive) → Among x (drives d) → Among y (drives d) → y.name ≡ x.name → y.driver ≡ x.driver
  one x y among other same = one_driver [] (drives d) none_many x y among (inr other) same

  by_assign : (i : ℕ) (a : Assignment) → slice_get d.assigns i ≡ Some a → Among (drive (0 + i) a.target) (drives d)
  by_assign i a at = assign_drives d.assigns 0 i (blocks_drives (length d.assigns) d.blocks) a at

  by_block : (i register : ℕ) (s : Action) → slice_get d.blocks i ≡ Some s → sets s register ≡ true → Among (drive (length d.assigns + i) register) (drives d)
  by_block i register s at is =
      after_assigns d.assigns 0 (blocks_drives (length d.assigns) d.blocks) (drive (length d.assigns + i) register)
      (block_drives d.blocks (length d.assigns) i register s at is)

  pub driven_once : IsDrivenOnce d
  driven_once = record {
    one_assign = λ i j a b at_a at_b same. let h = one _ _ (by_assign j b at_b) (by_assign i a at_a) same in omega (arith, h);
    one_block = λ i j register s t at_s at_t set_s set_t. let h = one _ _ (by_block j register t at_t set_t) (by_block i register s at_s set_s) refl in omega (arith, h);
    no_assign = λ i k register s a at_s at_a set_s same.
        let inside = slice_get_within d.assigns k a at_a in
        let h = one _ _ (by_block i register s at_s set_s) (by_assign k a at_a) same in
        absurd (omega (arith, h, inside));
  }
