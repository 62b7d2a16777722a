-- The uses of names, the drivers and the right sides of modules that are alike.
use Rattle.std.proofs.Common.{◌≡◌, ℕ, Bool, true, false, cond, ◌||◌, List, [], ◌∷◌, find, Option, Some, refl, sym, ◌∙◌, ap, subst}
use Rattle.std.specs.Prelude.{is_some}
use Rattle.std.specs.List.{list_any}
use Rattle.verilog_tree.specs.Tree.{Tree, Trees, Name, Bit, Part, Plain, Based, Cat, Not, Binary, Shift, Choice, none, more, Action, Actions, Block, When, Either, Give, no_action, action, Assignment}
use Rattle.verilog_tree.specs.Alike.{IsAlikeTree, AreAlikeTrees, plain_block, plain_action, plain_actions, IsAlikeAction, AreAlikeActions, AreAlikeAssigns, AreAlikeBlocks}
use Rattle.verilog_tree.specs.Checks.{Use, Assigned, Given, Read, Selected, tree_uses, trees_uses, action_uses, actions_uses, blocks_uses, assigns_uses}

-- ---- lists that go along

module _ {X Y : Type 0} where
  -- two lists whose elements are related one by one
  pub data Beside (R : X → Y → Type 0) : List X → List Y → Type 0 where
    stops : Beside R [] []
    next : {x : X} {y : Y} {xs : List X} {ys : List Y} → R x y → Beside R xs ys → Beside R (x ∷ xs) (y ∷ ys)

module _ {X Y : Type 0} (R : X → Y → Type 0) (p : X → Bool) (q : Y → Bool) (agree : (x : X) (y : Y) → R x y → p x ≡ q y) where
  found_both : (b : Bool) (x : X) (y : Y) (o : Option X) (r : Option Y) → is_some o ≡ is_some r → is_some (cond b (Some x) o) ≡ is_some (cond b (Some y) r)
  found_both true x y o r is = refl
  found_both false x y o r is = is

  pub beside_find : (xs : List X) (ys : List Y) → Beside R xs ys → is_some (find p xs) ≡ is_some (find q ys)
  beside_find [] [] stops = refl
  beside_find [] (y ∷ ys) along = elim along [ ]
  beside_find (x ∷ xs) [] along = elim along [ ]
  beside_find (x ∷ xs) (y ∷ ys) (next h rest) =
      found_both (p x) x y (find p xs) (find q ys) (beside_find xs ys rest) ∙ ap (λ (b : Bool). is_some (cond b (Some y) (find q ys))) (agree x y h)

  pub beside_any : (xs : List X) (ys : List Y) → Beside R xs ys → list_any p xs ≡ list_any q ys
  beside_any [] [] stops = refl
  beside_any [] (y ∷ ys) along = elim along [ ]
  beside_any (x ∷ xs) [] along = elim along [ ]
  beside_any (x ∷ xs) (y ∷ ys) (next h rest) = λ i. agree x y h i || beside_any xs ys rest i

-- ---- uses

-- two uses of names that are the same
abbrev pub IsAlikeUse : (ℕ → ℕ → Type 0) → Use → Use → Type 0
IsAlikeUse same (Assigned m) (Assigned n) = same m n
IsAlikeUse same (Given m) (Given n) = same m n
IsAlikeUse same (Read m) (Read n) = same m n
IsAlikeUse same (Selected m high low) (Selected n upper lower) = same m n × (high ≡ upper) × (low ≡ lower)
IsAlikeUse same _ _ = ⊥

module _ (same : ℕ → ℕ → Type 0) where
  abbrev Uses : List Use → List Use → Type 0
  Uses = Beside (IsAlikeUse same)

  mutual
    alike_tree_uses : (e f : Tree) (us vs : List Use) → IsAlikeTree same e f → Uses us vs → Uses (tree_uses e us) (tree_uses f vs)
    alike_tree_uses (Name m) f us vs (n, is, h) rest = subst (λ (g : Tree). Uses (Read m ∷ us) (tree_uses g vs)) (sym is) (next h rest)
    alike_tree_uses (Bit m place) f us vs (n, is, h) rest = subst (λ (g : Tree). Uses (Selected m place place ∷ us) (tree_uses g vs)) (sym is) (next (h, refl, refl) rest)
    alike_tree_uses (Part m high low) f us vs (n, is, h) rest = subst (λ (g : Tree). Uses (Selected m high low ∷ us) (tree_uses g vs)) (sym is) (next (h, refl, refl) rest)
    alike_tree_uses (Plain x) f us vs is rest = subst (λ (g : Tree). Uses us (tree_uses g vs)) (sym is) rest
    alike_tree_uses (Based width signed bits) f us vs is rest = subst (λ (g : Tree). Uses us (tree_uses g vs)) (sym is) rest
    alike_tree_uses (Cat members) f us vs (others, is, h) rest = subst (λ (g : Tree). Uses (trees_uses members us) (tree_uses g vs)) (sym is) (alike_trees_uses members others us vs h rest)
    alike_tree_uses (Not a) f us vs (b, is, h) rest = subst (λ (g : Tree). Uses (tree_uses a us) (tree_uses g vs)) (sym is) (alike_tree_uses a b us vs h rest)
    alike_tree_uses (Binary op a b) f us vs (x, y, is, p, q) rest =
        subst (λ (g : Tree). Uses (tree_uses a (tree_uses b us)) (tree_uses g vs)) (sym is) (alike_tree_uses a x (tree_uses b us) (tree_uses y vs) p (alike_tree_uses b y us vs q rest))
    alike_tree_uses (Shift op a amount) f us vs (b, is, h) rest = subst (λ (g : Tree). Uses (tree_uses a us) (tree_uses g vs)) (sym is) (alike_tree_uses a b us vs h rest)
    alike_tree_uses (Choice c a b) f us vs (z, x, y, is, o, p, q) rest =
        subst (λ (g : Tree). Uses (tree_uses c (tree_uses a (tree_uses b us))) (tree_uses g vs)) (sym is)
        (alike_tree_uses c z (tree_uses a (tree_uses b us)) (tree_uses x (tree_uses y vs)) o (alike_tree_uses a x (tree_uses b us) (tree_uses y vs) p (alike_tree_uses b y us vs q rest)))

    alike_trees_uses : (es fs : Trees) (us vs : List Use) → AreAlikeTrees same es fs → Uses us vs → Uses (trees_uses es us) (trees_uses fs vs)
    alike_trees_uses none fs us vs is rest = subst (λ (gs : Trees). Uses us (trees_uses gs vs)) (sym is) rest
    alike_trees_uses (more e es) fs us vs (f, others, is, p, q) rest =
        subst (λ (gs : Trees). Uses (tree_uses e (trees_uses es us)) (trees_uses gs vs)) (sym is) (alike_tree_uses e f (trees_uses es us) (trees_uses others vs) p (alike_trees_uses es others us vs q rest))

  mutual
    alike_action_uses : (s t : Action) (us vs : List Use) → IsAlikeAction same s t → Uses us vs → Uses (action_uses s us) (action_uses t vs)
    alike_action_uses (Block members) t us vs (others, is, h) rest = subst (λ (g : Action). Uses (actions_uses members us) (action_uses g vs)) (sym is) (alike_actions_uses members others us vs h rest)
    alike_action_uses (When c s) t us vs (z, x, is, o, p) rest =
        subst (λ (g : Action). Uses (tree_uses c (action_uses s us)) (action_uses g vs)) (sym is) (alike_tree_uses c z (action_uses s us) (action_uses x vs) o (alike_action_uses s x us vs p rest))
    alike_action_uses (Either c s u) t us vs (z, x, y, is, o, p, q) rest =
        subst (λ (g : Action). Uses (tree_uses c (action_uses s (action_uses u us))) (action_uses g vs)) (sym is)
        (alike_tree_uses c z (action_uses s (action_uses u us)) (action_uses x (action_uses y vs)) o (alike_action_uses s x (action_uses u us) (action_uses y vs) p (alike_action_uses u y us vs q rest)))
    alike_action_uses (Give m e) t us vs (n, f, is, h, p) rest =
        subst (λ (g : Action). Uses (Given m ∷ tree_uses e us) (action_uses g vs)) (sym is) (next h (alike_tree_uses e f us vs p rest))

    alike_actions_uses : (ss ts : Actions) (us vs : List Use) → AreAlikeActions same ss ts → Uses us vs → Uses (actions_uses ss us) (actions_uses ts vs)
    alike_actions_uses no_action ts us vs is rest = subst (λ (gs : Actions). Uses us (actions_uses gs vs)) (sym is) rest
    alike_actions_uses (action s ss) ts us vs (t, others, is, p, q) rest =
        subst (λ (gs : Actions). Uses (action_uses s (actions_uses ss us)) (actions_uses gs vs)) (sym is) (alike_action_uses s t (actions_uses ss us) (actions_uses others vs) p (alike_actions_uses ss others us vs q rest))

-- a block of one statement uses what the statement uses
plain_block_uses : (ss : Actions) (us : List Use) → action_uses (plain_block ss) us ≡ actions_uses ss us
plain_block_uses no_action us = refl
plain_block_uses (action s no_action) us = refl
plain_block_uses (action s (action t ss)) us = refl

mutual
  plain_uses : (s : Action) (us : List Use) → action_uses (plain_action s) us ≡ action_uses s us
  plain_uses (Block members) us = plain_block_uses (plain_actions members) us ∙ all_plain_uses members us
  plain_uses (When c s) us = ap (tree_uses c) (plain_uses s us)
  plain_uses (Either c s t) us = ap (tree_uses c) (ap (action_uses (plain_action s)) (plain_uses t us) ∙ plain_uses s (action_uses t us))
  plain_uses (Give m e) us = refl

  all_plain_uses : (ss : Actions) (us : List Use) → actions_uses (plain_actions ss) us ≡ actions_uses ss us
  all_plain_uses no_action us = refl
  all_plain_uses (action s ss) us = ap (action_uses (plain_action s)) (all_plain_uses ss us) ∙ plain_uses s (actions_uses ss us)

module _ (same : ℕ → ℕ → Type 0) where
  alike_blocks_uses : (ss ts : List Action) → AreAlikeBlocks same ss ts → Uses same (blocks_uses ss) (blocks_uses ts)
  alike_blocks_uses [] ts is = subst (λ (gs : List Action). Uses same [] (blocks_uses gs)) (sym is) stops
  alike_blocks_uses (s ∷ ss) ts (t, others, is, p, q) =
      let rest = alike_blocks_uses ss others q in
      let plain = alike_action_uses same (plain_action s) (plain_action t) (blocks_uses ss) (blocks_uses others) p rest in
      subst (λ (gs : List Action). Uses same (action_uses s (blocks_uses ss)) (blocks_uses gs)) (sym is)
      (subst (λ (us : List Use). Uses same us (action_uses t (blocks_uses others))) (plain_uses s (blocks_uses ss))
      (subst (λ (vs : List Use). Uses same (action_uses (plain_action s) (blocks_uses ss)) vs) (plain_uses t (blocks_uses others)) plain))

  alike_assigns_uses : (as' bs : List Assignment) (us vs : List Use) → AreAlikeAssigns same as' bs → Uses same us vs → Uses same (assigns_uses as' us) (assigns_uses bs vs)
  alike_assigns_uses [] bs us vs is rest = subst (λ (gs : List Assignment). Uses same us (assigns_uses gs vs)) (sym is) rest
  alike_assigns_uses (a ∷ as') bs us vs (b, others, is, h, p, q) rest =
      subst (λ (gs : List Assignment). Uses same (Assigned a.target ∷ tree_uses a.value (assigns_uses as' us)) (assigns_uses gs vs)) (sym is)
      (next h (alike_tree_uses same a.value b.value (assigns_uses as' us) (assigns_uses others vs) p (alike_assigns_uses as' others us vs q rest)))

  pub alike_uses : (as' bs : List Assignment) (ss ts : List Action) → AreAlikeAssigns same as' bs → AreAlikeBlocks same ss ts → Beside (IsAlikeUse same) (assigns_uses as' (blocks_uses ss)) (assigns_uses bs (blocks_uses ts))
  alike_uses as' bs ss ts assigns blocks = alike_assigns_uses as' bs (blocks_uses ss) (blocks_uses ts) assigns (alike_blocks_uses ss ts blocks)
