-- A module with other numbers for its names is alike, where the names have the same texts.
use Rattle.std.proofs.Common.{◌≡◌, ℕ, zero, suc, Bool, true, false, cond, List, [], ◌∷◌, ◌++◌, Some, refl, sym, ap, ◌∙◌, subst}
use Rattle.std.specs.Prelude.{map, filter, not, slice_get}
use Rattle.verilog_tree.specs.Tree as tree
use Rattle.verilog_tree.specs.Tree.{Tree, Trees, Action, Actions, Assignment, Design}
use Rattle.verilog_tree.specs.Renaming.{tree_in, trees_in, action_in, actions_in, assignment_in}
use Rattle.verilog_tree.specs.Alike.{IsAlikeTree, AreAlikeTrees, plain_block, plain_action, plain_actions, IsAlikeAction, AreAlikeActions, AreAlikeAssigns, AreAlikeBlocks}
use Rattle.verilog_text.specs.Shortest.{AllFormed}
use Rattle.verilog_text.specs.Order.{Along, ends, goes}
use Rattle.verilog_text.proofs.Holds.{OfTree, OfTrees, OfAction, OfActions, OfAssignment}

module _ (same : ℕ → ℕ → Type 0) (from : ℕ → ℕ) where
  abbrev Kept : ℕ → Type 0
  Kept n = same (from n) n

  mutual
    alike_tree : (t : Tree) → OfTree Kept t → IsAlikeTree same (tree_in from t) t
    alike_tree (tree.Name n) h = (n, refl, h)
    alike_tree (tree.Bit n place) h = (n, refl, h)
    alike_tree (tree.Part n high low) h = (n, refl, h)
    alike_tree (tree.Plain value) h = refl
    alike_tree (tree.Based width signed bits) h = refl
    alike_tree (tree.Cat members) h = (members, refl, alike_trees members h)
    alike_tree (tree.Not a) h = (a, refl, alike_tree a h)
    alike_tree (tree.Binary op a b) h = (a, b, refl, alike_tree a h.0, alike_tree b h.1)
    alike_tree (tree.Shift op a n) h = (a, refl, alike_tree a h)
    alike_tree (tree.Choice c a b) h = (c, a, b, refl, alike_tree c h.0, alike_tree a h.1, alike_tree b h.2)

    alike_trees : (ts : Trees) → OfTrees Kept ts → AreAlikeTrees same (trees_in from ts) ts
    alike_trees tree.none h = refl
    alike_trees (tree.more t ts) h = (t, ts, refl, alike_tree t h.0, alike_trees ts h.1)

  mutual
    alike_action : (a : Action) → OfAction Kept a → IsAlikeAction same (action_in from a) a
    alike_action (tree.Block members) h = (members, refl, alike_actions members h)
    alike_action (tree.When c t) h = (c, t, refl, alike_tree c h.0, alike_action t h.1)
    alike_action (tree.Either c t f) h = (c, t, f, refl, alike_tree c h.0, alike_action t h.1, alike_action f h.2)
    alike_action (tree.Give r v) h = (r, v, refl, h.0, alike_tree v h.1)

    alike_actions : (xs : Actions) → OfActions Kept xs → AreAlikeActions same (actions_in from xs) xs
    alike_actions tree.no_action h = refl
    alike_actions (tree.action a xs) h = (a, xs, refl, alike_action a h.0, alike_actions xs h.1)

  pub alike_assigns : (xs : List Assignment) → AllFormed (OfAssignment Kept) xs → AreAlikeAssigns same (map (assignment_in from) xs) xs
  alike_assigns [] h = refl
  alike_assigns (a ∷ xs) h = (a, xs, refl, h.0.0, alike_tree a.value h.0.1, alike_assigns xs h.1)

  -- plain statements
  plain_block_in : (xs : Actions) → plain_block (actions_in from xs) ≡ action_in from (plain_block xs)
  plain_block_in tree.no_action = refl
  plain_block_in (tree.action a tree.no_action) = refl
  plain_block_in (tree.action a (tree.action b xs)) = refl

  mutual
    plain_action_in : (a : Action) → plain_action (action_in from a) ≡ action_in from (plain_action a)
    plain_action_in (tree.Block members) = ap plain_block (plain_actions_in members) ∙ plain_block_in (plain_actions members)
    plain_action_in (tree.When c t) = ap (tree.When (tree_in from c)) (plain_action_in t)
    plain_action_in (tree.Either c t f) = let x = plain_action_in t in let y = plain_action_in f in cc (x, y)
    plain_action_in (tree.Give r v) = refl

    plain_actions_in : (xs : Actions) → plain_actions (actions_in from xs) ≡ actions_in from (plain_actions xs)
    plain_actions_in tree.no_action = refl
    plain_actions_in (tree.action a xs) = let x = plain_action_in a in let y = plain_actions_in xs in cc (x, y)

  of_plain_block : (xs : Actions) → OfActions Kept xs → OfAction Kept (plain_block xs)
  of_plain_block tree.no_action h = h
  of_plain_block (tree.action a tree.no_action) h = h.0
  of_plain_block (tree.action a (tree.action b xs)) h = h

  mutual
    of_plain : (a : Action) → OfAction Kept a → OfAction Kept (plain_action a)
    of_plain (tree.Block members) h = of_plain_block (plain_actions members) (all_plain members h)
    of_plain (tree.When c t) h = (h.0, of_plain t h.1)
    of_plain (tree.Either c t f) h = (h.0, of_plain t h.1, of_plain f h.2)
    of_plain (tree.Give r v) h = h

    all_plain : (xs : Actions) → OfActions Kept xs → OfActions Kept (plain_actions xs)
    all_plain tree.no_action h = tt
    all_plain (tree.action a xs) h = (of_plain a h.0, all_plain xs h.1)

  -- blocks that are the same but for blocks of one statement
  pub alike_blocks : (f : Action → Action) → ((a : Action) → plain_action (f a) ≡ plain_action a) → (xs : List Action) → AllFormed (OfAction Kept) (map f xs) → AreAlikeBlocks same (map (action_in from) (map f xs)) xs
  alike_blocks f plain [] h = refl
  alike_blocks f plain (a ∷ xs) h =
      let e : action_in from (plain_action a) ≡ plain_action (action_in from (f a)) = sym (plain_action_in (f a) ∙ ap (action_in from) (plain a)) in
      let holds : OfAction Kept (plain_action a) = subst (OfAction Kept) (plain a) (of_plain (f a) h.0) in
      (a, xs, refl, subst (λ x. IsAlikeAction same x (plain_action a)) e (alike_action (plain_action a) holds), alike_blocks f plain xs h.1)

-- ---- lists in another order

pub record SameElements {X : Type 0} (xs ys : List X) : Type 0 where
  pub there : ℕ → ℕ
  pub back : ℕ → ℕ
  pub there_back : (k : ℕ) → back (there k) ≡ k
  pub back_there : (k : ℕ) → there (back k) ≡ k
  pub gets : (k : ℕ) → slice_get ys (there k) ≡ slice_get xs k

identity : {X : Type 0} (xs : List X) → SameElements xs xs
identity xs = record { there = λ k. k; back = λ k. k; there_back = λ k. refl; back_there = λ k. refl; gets = λ k. refl }

followed : {X : Type 0} (xs ys zs : List X) → SameElements xs ys → SameElements ys zs → SameElements xs zs
followed xs ys zs a b = record {
  there = λ k. b.there (a.there k);
  back = λ k. a.back (b.back k);
  there_back = λ k. ap a.back (b.there_back (a.there k)) ∙ a.there_back k;
  back_there = λ k. ap b.there (a.back_there (b.back k)) ∙ b.back_there k;
  gets = λ k. b.gets (a.there k) ∙ a.gets k;
}

abbrev below_first : (ℕ → ℕ) → ℕ → ℕ
below_first f zero = zero
below_first f (suc k) = suc (f k)

below_inverse : (f g : ℕ → ℕ) → ((k : ℕ) → g (f k) ≡ k) → (k : ℕ) → below_first g (below_first f k) ≡ k
below_inverse f g h zero = refl
below_inverse f g h (suc k) = ap suc (h k)

below_gets : {X : Type 0} (x : X) (xs ys : List X) (f : ℕ → ℕ) → ((k : ℕ) → slice_get ys (f k) ≡ slice_get xs k) → (k : ℕ) → slice_get (x ∷ ys) (below_first f k) ≡ slice_get (x ∷ xs) k
below_gets x xs ys f h zero = refl
below_gets x xs ys f h (suc k) = h k

under : {X : Type 0} (x : X) (xs ys : List X) → SameElements xs ys → SameElements (x ∷ xs) (x ∷ ys)
under x xs ys a = record {
  there = below_first a.there;
  back = below_first a.back;
  there_back = below_inverse a.there a.back a.there_back;
  back_there = below_inverse a.back a.there a.back_there;
  gets = below_gets x xs ys a.there a.gets;
}

abbrev turned : ℕ → ℕ
turned zero = suc zero
turned (suc zero) = zero
turned (suc (suc k)) = suc (suc k)

turned_twice : (k : ℕ) → turned (turned k) ≡ k
turned_twice zero = refl
turned_twice (suc zero) = refl
turned_twice (suc (suc k)) = refl

turned_gets : {X : Type 0} (x y : X) (xs : List X) (k : ℕ) → slice_get (y ∷ x ∷ xs) (turned k) ≡ slice_get (x ∷ y ∷ xs) k
turned_gets x y xs zero = refl
turned_gets x y xs (suc zero) = refl
turned_gets x y xs (suc (suc k)) = refl

swapped : {X : Type 0} (x y : X) (xs : List X) → SameElements (x ∷ y ∷ xs) (y ∷ x ∷ xs)
swapped x y xs = record { there = turned; back = turned; there_back = turned_twice; back_there = turned_twice; gets = turned_gets x y xs }

to_front : {X : Type 0} (xs : List X) (a : X) (ys : List X) → SameElements (xs ++ a ∷ ys) (a ∷ (xs ++ ys))
to_front [] a ys = identity (a ∷ ys)
to_front (x ∷ xs) a ys = followed _ (x ∷ a ∷ (xs ++ ys)) _ (under x _ _ (to_front xs a ys)) (swapped x a (xs ++ ys))

parted_more : {X : Type 0} (p : X → Bool) (x : X) (xs : List X) (b : Bool) → p x ≡ b → SameElements (filter p xs ++ filter (λ y. not (p y)) xs) xs → SameElements (filter p (x ∷ xs) ++ filter (λ y. not (p y)) (x ∷ xs)) (x ∷ xs)
parted_more p x xs true e rest =
    let firsts = ap (λ b. cond b (x ∷ filter p xs) (filter p xs)) e in
    let others = ap (λ b. cond (not b) (x ∷ filter (λ y. not (p y)) xs) (filter (λ y. not (p y)) xs)) e in
    subst (λ zs. SameElements zs (x ∷ xs)) (ap (λ zs. zs ++ filter (λ y. not (p y)) xs) (sym firsts) ∙ ap (λ zs. filter p (x ∷ xs) ++ zs) (sym others)) (under x _ _ rest)
parted_more p x xs false e rest =
    let firsts = ap (λ b. cond b (x ∷ filter p xs) (filter p xs)) e in
    let others = ap (λ b. cond (not b) (x ∷ filter (λ y. not (p y)) xs) (filter (λ y. not (p y)) xs)) e in
    subst (λ zs. SameElements zs (x ∷ xs)) (ap (λ zs. zs ++ (x ∷ filter (λ y. not (p y)) xs)) (sym firsts) ∙ ap (λ zs. filter p (x ∷ xs) ++ zs) (sym others))
    (followed _ (x ∷ (filter p xs ++ filter (λ y. not (p y)) xs)) _ (to_front (filter p xs) x (filter (λ y. not (p y)) xs)) (under x _ _ rest))

-- what passes a test and then what does not
pub parted : {X : Type 0} (p : X → Bool) (xs : List X) → SameElements (filter p xs ++ filter (λ x. not (p x)) xs) xs
parted p [] = identity []
parted p (x ∷ xs) = parted_more p x xs (p x) refl (parted p xs)

pub along_get : {X : Type 0} (R : X → X → Type 0) (xs ys : List X) → Along R xs ys → (k : ℕ) (x : X) → slice_get xs k ≡ Some x → (y : X) × (slice_get ys k ≡ Some y) × R x y
along_get R [] [] ends k x e = absurd (cc)
along_get R [] (y' ∷ ys) a k x e = elim a [ ]
along_get R (x' ∷ xs) [] a k x e = elim a [ ]
along_get R (x' ∷ xs) (y' ∷ ys) (goes r a) zero x e = (y', refl, let same : x' ≡ x = cc in subst (λ z. R z y') same r)
along_get R (x' ∷ xs) (y' ∷ ys) (goes r a) (suc k) x e = along_get R xs ys a k x e

pub along_from : {X : Type 0} (R : X → X → Type 0) (xs ys : List X) → Along R xs ys → (k : ℕ) (y : X) → slice_get ys k ≡ Some y → (x : X) × (slice_get xs k ≡ Some x) × R x y
along_from R [] [] ends k y e = absurd (cc)
along_from R [] (y' ∷ ys) a k y e = elim a [ ]
along_from R (x' ∷ xs) [] a k y e = elim a [ ]
along_from R (x' ∷ xs) (y' ∷ ys) (goes r a) zero y e = (x', refl, let same : y' ≡ y = cc in subst (λ z. R x' z) same r)
along_from R (x' ∷ xs) (y' ∷ ys) (goes r a) (suc k) y e = along_from R xs ys a k y e
