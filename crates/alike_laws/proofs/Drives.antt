-- The drivers and the right sides of modules that are alike.
use Rattle.std.proofs.Common.{◌≡◌, ℕ, suc, ◌+◌, Bool, true, false, cond, not, ◌&&◌, List, [], ◌∷◌, length, Option, None, Some, refl, sym, ◌∙◌, ap, subst}
use Rattle.std.specs.Prelude.{◌==◌, is_some, codes}
use Rattle.std.specs.List.{list_any}
use Rattle.verilog_tree.specs.Tree.{Block, When, Either, Give, Action, Actions, no_action, action, Assignment, Design}
use Rattle.verilog_tree.specs.Alike.{IsAlikeTree, plain_block, plain_action, plain_actions, IsAlikeAction, AreAlikeActions, AreAlikeAssigns, AreAlikeBlocks}
use Rattle.verilog_tree.specs.Checks.{or_else, Side, action_sides, actions_sides, blocks_sides, assigns_sides, sides, Drive, action_drives, actions_drives, blocks_drives, assigns_drives, drives, first_shared}
use Rattle.verilog_tree.specs.Names.{text_of}
use Rattle.alike_laws.proofs.Uses.{Beside, stops, next, beside_any}

-- ---- drivers

-- two drivers of one place that drive names that are the same
pub record IsAlikeDrive (same : ℕ → ℕ → Type 0) (x y : Drive) : Type 0 where
  pub driver : x.driver ≡ y.driver
  pub name : same x.name y.name

-- a block of one statement drives what the statement drives
plain_block_drives : (k : ℕ) (ss : Actions) (xs : List Drive) → action_drives k (plain_block ss) xs ≡ actions_drives k ss xs
plain_block_drives k no_action xs = refl
plain_block_drives k (action s no_action) xs = refl
plain_block_drives k (action s (action t ss)) xs = refl

mutual
  plain_drives : (k : ℕ) (s : Action) (xs : List Drive) → action_drives k (plain_action s) xs ≡ action_drives k s xs
  plain_drives k (Block members) xs = plain_block_drives k (plain_actions members) xs ∙ all_plain_drives k members xs
  plain_drives k (When c s) xs = plain_drives k s xs
  plain_drives k (Either c s t) xs = ap (action_drives k (plain_action s)) (plain_drives k t xs) ∙ plain_drives k s (action_drives k t xs)
  plain_drives k (Give m e) xs = refl

  all_plain_drives : (k : ℕ) (ss : Actions) (xs : List Drive) → actions_drives k (plain_actions ss) xs ≡ actions_drives k ss xs
  all_plain_drives k no_action xs = refl
  all_plain_drives k (action s ss) xs = ap (action_drives k (plain_action s)) (all_plain_drives k ss xs) ∙ plain_drives k s (actions_drives k ss xs)

module _ (same : ℕ → ℕ → Type 0) where
  abbrev Drives : List Drive → List Drive → Type 0
  Drives = Beside (IsAlikeDrive same)

  mutual
    alike_action_drives : (k : ℕ) (s t : Action) (xs ys : List Drive) → IsAlikeAction same s t → Drives xs ys → Drives (action_drives k s xs) (action_drives k t ys)
    alike_action_drives k (Block members) t xs ys (others, is, h) rest = subst (λ (g : Action). Drives (actions_drives k members xs) (action_drives k g ys)) (sym is) (alike_actions_drives k members others xs ys h rest)
    alike_action_drives k (When c s) t xs ys (z, x, is, o, p) rest = subst (λ (g : Action). Drives (action_drives k s xs) (action_drives k g ys)) (sym is) (alike_action_drives k s x xs ys p rest)
    alike_action_drives k (Either c s u) t xs ys (z, x, y, is, o, p, q) rest =
        subst (λ (g : Action). Drives (action_drives k s (action_drives k u xs)) (action_drives k g ys)) (sym is)
        (alike_action_drives k s x (action_drives k u xs) (action_drives k y ys) p (alike_action_drives k u y xs ys q rest))
    alike_action_drives k (Give m e) t xs ys (n, f, is, h, p) rest =
        subst (λ (g : Action). Drives (record { driver = k; name = m } ∷ xs) (action_drives k g ys)) (sym is) (next (record { driver = refl; name = h }) rest)

    alike_actions_drives : (k : ℕ) (ss ts : Actions) (xs ys : List Drive) → AreAlikeActions same ss ts → Drives xs ys → Drives (actions_drives k ss xs) (actions_drives k ts ys)
    alike_actions_drives k no_action ts xs ys is rest = subst (λ (gs : Actions). Drives xs (actions_drives k gs ys)) (sym is) rest
    alike_actions_drives k (action s ss) ts xs ys (t, others, is, p, q) rest =
        subst (λ (gs : Actions). Drives (action_drives k s (actions_drives k ss xs)) (actions_drives k gs ys)) (sym is)
        (alike_action_drives k s t (actions_drives k ss xs) (actions_drives k others ys) p (alike_actions_drives k ss others xs ys q rest))

  alike_blocks_drives : (k : ℕ) (ss ts : List Action) → AreAlikeBlocks same ss ts → Drives (blocks_drives k ss) (blocks_drives k ts)
  alike_blocks_drives k [] ts is = subst (λ (gs : List Action). Drives [] (blocks_drives k gs)) (sym is) stops
  alike_blocks_drives k (s ∷ ss) ts (t, others, is, p, q) =
      let rest = alike_blocks_drives (k + 1) ss others q in
      let plain = alike_action_drives k (plain_action s) (plain_action t) (blocks_drives (k + 1) ss) (blocks_drives (k + 1) others) p rest in
      subst (λ (gs : List Action). Drives (action_drives k s (blocks_drives (k + 1) ss)) (blocks_drives k gs)) (sym is)
      (subst (λ (xs : List Drive). Drives xs (action_drives k t (blocks_drives (k + 1) others))) (plain_drives k s (blocks_drives (k + 1) ss))
      (subst (λ (ys : List Drive). Drives (action_drives k (plain_action s) (blocks_drives (k + 1) ss)) ys) (plain_drives k t (blocks_drives (k + 1) others)) plain))

  alike_assigns_drives : (k : ℕ) (as' bs : List Assignment) (xs ys : List Drive) → AreAlikeAssigns same as' bs → Drives xs ys → Drives (assigns_drives k as' xs) (assigns_drives k bs ys)
  alike_assigns_drives k [] bs xs ys is rest = subst (λ (gs : List Assignment). Drives xs (assigns_drives k gs ys)) (sym is) rest
  alike_assigns_drives k (a ∷ as') bs xs ys (b, others, is, h, p, q) rest =
      subst (λ (gs : List Assignment). Drives (record { driver = k; name = a.target } ∷ assigns_drives (k + 1) as' xs) (assigns_drives k gs ys)) (sym is)
      (next (record { driver = refl; name = h }) (alike_assigns_drives (k + 1) as' others xs ys q rest))

  same_many : (as' bs : List Assignment) → AreAlikeAssigns same as' bs → length as' ≡ length bs
  same_many [] bs is = ap (λ (gs : List Assignment). length gs) (sym is)
  same_many (a ∷ as') bs (b, others, is, h, p, q) = ap suc (same_many as' others q) ∙ ap (λ (gs : List Assignment). length gs) (sym is)

  pub alike_drives : (d e : Design) → AreAlikeAssigns same d.assigns e.assigns → AreAlikeBlocks same d.blocks e.blocks → Beside (IsAlikeDrive same) (drives d) (drives e)
  alike_drives d e assigns blocks =
      subst (λ (k : ℕ). Drives (drives d) (assigns_drives 0 e.assigns (blocks_drives k e.blocks))) (same_many d.assigns e.assigns assigns)
      (alike_assigns_drives 0 d.assigns e.assigns (blocks_drives (length d.assigns) d.blocks) (blocks_drives (length d.assigns) e.blocks) assigns (alike_blocks_drives (length d.assigns) d.blocks e.blocks blocks))

-- a second driver
module _ (same : ℕ → ℕ → Type 0) (equal : (m n k l : ℕ) → same m n → same k l → (m == k) ≡ (n == l)) where
  shares : (x y p q : Drive) → IsAlikeDrive same x y → IsAlikeDrive same p q → (p.name == x.name && not (p.driver == x.driver)) ≡ (q.name == y.name && not (q.driver == y.driver))
  shares x y p q h g = λ i. equal p.name q.name x.name y.name g.name h.name i && not (g.driver i == h.driver i)

  second : (b : Bool) (m n : ℕ) (o r : Option ℕ) → is_some o ≡ is_some r → is_some (or_else (cond b (Some m) None) o) ≡ is_some (or_else (cond b (Some n) None) r)
  second true m n o r is = refl
  second false m n o r is = is

  pub same_shared : (before behind xs ys : List Drive) → Beside (IsAlikeDrive same) before behind → Beside (IsAlikeDrive same) xs ys → is_some (first_shared before xs) ≡ is_some (first_shared behind ys)
  same_shared before behind [] [] seen stops = refl
  same_shared before behind [] (y ∷ ys) seen along = elim along [ ]
  same_shared before behind (x ∷ xs) [] seen along = elim along [ ]
  same_shared before behind (x ∷ xs) (y ∷ ys) seen (next h rest) =
      second (list_any (λ (p : Drive). p.name == x.name && not (p.driver == x.driver)) before) x.name y.name (first_shared (x ∷ before) xs) (first_shared (y ∷ behind) ys)
      (same_shared (x ∷ before) (y ∷ behind) xs ys (next h seen) rest)
      ∙ ap (λ (b : Bool). is_some (or_else (cond b (Some y.name) None) (first_shared (y ∷ behind) ys)))
      (beside_any (IsAlikeDrive same) (λ (p : Drive). p.name == x.name && not (p.driver == x.driver)) (λ (q : Drive). q.name == y.name && not (q.driver == y.driver)) (λ p q g. shares x y p q h g) before behind seen)

-- ---- right sides

-- two right sides or conditions that are the same
pub record IsAlikeSide (same : ℕ → ℕ → Type 0) (x y : Side) : Type 0 where
  pub tree : IsAlikeTree same x.tree y.tree

module _ (d e : Design) where
  plain_block_sides : (ss : Actions) (xs : List Side) → action_sides d (plain_block ss) xs ≡ actions_sides d ss xs
  plain_block_sides no_action xs = refl
  plain_block_sides (action s no_action) xs = refl
  plain_block_sides (action s (action t ss)) xs = refl

  mutual
    plain_sides : (s : Action) (xs : List Side) → action_sides d (plain_action s) xs ≡ action_sides d s xs
    plain_sides (Block members) xs = plain_block_sides (plain_actions members) xs ∙ all_plain_sides members xs
    plain_sides (When c s) xs = ap (λ (ys : List Side). record { told = codes "clk"; tree = c } ∷ ys) (plain_sides s xs)
    plain_sides (Either c s t) xs = ap (λ (ys : List Side). record { told = codes "clk"; tree = c } ∷ ys) (ap (action_sides d (plain_action s)) (plain_sides t xs) ∙ plain_sides s (action_sides d t xs))
    plain_sides (Give m e) xs = refl

    all_plain_sides : (ss : Actions) (xs : List Side) → actions_sides d (plain_actions ss) xs ≡ actions_sides d ss xs
    all_plain_sides no_action xs = refl
    all_plain_sides (action s ss) xs = ap (action_sides d (plain_action s)) (all_plain_sides ss xs) ∙ plain_sides s (actions_sides d ss xs)

module _ (same : ℕ → ℕ → Type 0) (d e : Design) where
  abbrev Sides : List Side → List Side → Type 0
  Sides = Beside (IsAlikeSide same)

  mutual
    alike_action_sides : (s t : Action) (xs ys : List Side) → IsAlikeAction same s t → Sides xs ys → Sides (action_sides d s xs) (action_sides e t ys)
    alike_action_sides (Block members) t xs ys (others, is, h) rest = subst (λ (g : Action). Sides (actions_sides d members xs) (action_sides e g ys)) (sym is) (alike_actions_sides members others xs ys h rest)
    alike_action_sides (When c s) t xs ys (z, x, is, o, p) rest =
        subst (λ (g : Action). Sides (record { told = codes "clk"; tree = c } ∷ action_sides d s xs) (action_sides e g ys)) (sym is) (next (record { tree = o }) (alike_action_sides s x xs ys p rest))
    alike_action_sides (Either c s u) t xs ys (z, x, y, is, o, p, q) rest =
        subst (λ (g : Action). Sides (record { told = codes "clk"; tree = c } ∷ action_sides d s (action_sides d u xs)) (action_sides e g ys)) (sym is)
        (next (record { tree = o }) (alike_action_sides s x (action_sides d u xs) (action_sides e y ys) p (alike_action_sides u y xs ys q rest)))
    alike_action_sides (Give m g) t xs ys (n, f, is, h, p) rest =
        subst (λ (u : Action). Sides (record { told = text_of d m; tree = g } ∷ xs) (action_sides e u ys)) (sym is) (next (record { tree = p }) rest)

    alike_actions_sides : (ss ts : Actions) (xs ys : List Side) → AreAlikeActions same ss ts → Sides xs ys → Sides (actions_sides d ss xs) (actions_sides e ts ys)
    alike_actions_sides no_action ts xs ys is rest = subst (λ (gs : Actions). Sides xs (actions_sides e gs ys)) (sym is) rest
    alike_actions_sides (action s ss) ts xs ys (t, others, is, p, q) rest =
        subst (λ (gs : Actions). Sides (action_sides d s (actions_sides d ss xs)) (actions_sides e gs ys)) (sym is)
        (alike_action_sides s t (actions_sides d ss xs) (actions_sides e others ys) p (alike_actions_sides ss others xs ys q rest))

  alike_blocks_sides : (ss ts : List Action) → AreAlikeBlocks same ss ts → Sides (blocks_sides d ss) (blocks_sides e ts)
  alike_blocks_sides [] ts is = subst (λ (gs : List Action). Sides [] (blocks_sides e gs)) (sym is) stops
  alike_blocks_sides (s ∷ ss) ts (t, others, is, p, q) =
      let rest = alike_blocks_sides ss others q in
      let plain = alike_action_sides (plain_action s) (plain_action t) (blocks_sides d ss) (blocks_sides e others) p rest in
      subst (λ (gs : List Action). Sides (action_sides d s (blocks_sides d ss)) (blocks_sides e gs)) (sym is)
      (subst (λ (xs : List Side). Sides xs (action_sides e t (blocks_sides e others))) (plain_sides d e s (blocks_sides d ss))
      (subst (λ (ys : List Side). Sides (action_sides d (plain_action s) (blocks_sides d ss)) ys) (plain_sides e d t (blocks_sides e others)) plain))

  alike_assigns_sides : (as' bs : List Assignment) (xs ys : List Side) → AreAlikeAssigns same as' bs → Sides xs ys → Sides (assigns_sides d as' xs) (assigns_sides e bs ys)
  alike_assigns_sides [] bs xs ys is rest = subst (λ (gs : List Assignment). Sides xs (assigns_sides e gs ys)) (sym is) rest
  alike_assigns_sides (a ∷ as') bs xs ys (b, others, is, h, p, q) rest =
      subst (λ (gs : List Assignment). Sides (record { told = text_of d a.target; tree = a.value } ∷ assigns_sides d as' xs) (assigns_sides e gs ys)) (sym is)
      (next (record { tree = p }) (alike_assigns_sides as' others xs ys q rest))

  pub alike_sides : AreAlikeAssigns same d.assigns e.assigns → AreAlikeBlocks same d.blocks e.blocks → Beside (IsAlikeSide same) (sides d) (sides e)
  alike_sides assigns blocks = alike_assigns_sides d.assigns e.assigns (blocks_sides d d.blocks) (blocks_sides e e.blocks) assigns (alike_blocks_sides d.blocks e.blocks blocks)
