-- The writing with the fewest brackets opens no more levels than any other, and has the same operators.
use Rattle.std.proofs.Common.{◌≡◌, ℕ, ◌+◌, ◌<◌, ◌≤◌, true, refl, ap, ◌∙◌, arith, ◌⊎◌, inl, inr}
use Rattle.std.specs.Prelude.{nat_lt, max}
use Rattle.std.proofs.lemmas.Bool.{ltb-false, cond_both, cond-true}
use Rattle.std.proofs.lemmas.Bool.Decides.{nat_tests}
use Rattle.verilog_text.specs.Grammar.{Source, Sources, Named, BitOf, PartOf, Number, Based, Bracketed, Joined, Inverted, Operated, Shifted, Chosen, no_member, member, tree_of, trees_of, rank, looseness, IsGrouped, AreGrouped, depth, depths, operators, operators_in}
use Rattle.verilog_text.specs.Statements.{Statement, Statements, Block, Guarded, Forked, Given, none, more, action_of, actions_of, openness, IsParted, AreParted, height, heights, IsShort, AreShort}
use Rattle.verilog_text.specs.Shortest.{within, spelling, spellings, closed, statement_of, statements_of}

-- ---- expressions

-- the fewest brackets around an expression, beside those of a text
record IsFewest (c : Source) : Type 0 where
  deep : depth (spelling (tree_of c)) ≤ depth c
  -- brackets are left out only where there is a level for them
  loose : (looseness (spelling (tree_of c)) ≡ looseness c) ⊎ (depth (spelling (tree_of c)) < depth c)

-- an operand that binds tighter than the bound needs no brackets, or has them in the text
fewest_within : (bound : ℕ) (c : Source) → looseness c < bound → IsFewest c → depth (within bound (spelling (tree_of c))) ≤ depth c
fewest_within bound c tight fewest =
    cond_both (nat_lt (looseness (spelling (tree_of c))) bound) (spelling (tree_of c)) (Bracketed (spelling (tree_of c))) (λ (s : Source). depth s ≤ depth c) (λ e. fewest.deep)
    (λ e. let wide = ltb-false (looseness (spelling (tree_of c))) bound e in elim fewest.loose [
      | inl same ↦ absurd (omega (arith, wide, same, tight))
      | inr less ↦ omega (arith, less)
    ])

same : (c : Source) → looseness (spelling (tree_of c)) ≡ looseness c → depth (spelling (tree_of c)) ≤ depth c → IsFewest c
same c loose deep = record { deep = deep; loose = inl loose }

max_monotone : (a b c d : ℕ) → a ≤ c → b ≤ d → max a b ≤ max c d
max_monotone a b c d f g = grind (arith, nat_tests)

mutual
  fewest : (c : Source) → IsGrouped c → IsFewest c
  fewest (Named name) g = same (Named name) refl (omega arith)
  fewest (BitOf name place) g = same (BitOf name place) refl (omega arith)
  fewest (PartOf name high low) g = same (PartOf name high low) refl (omega arith)
  fewest (Number number) g = same (Number number) refl (omega arith)
  fewest (Based literal) g = same (Based literal) refl (omega arith)
  fewest (Bracketed inner) g = let i = fewest inner g in record { deep = omega (arith, i.deep); loose = inr (omega (arith, i.deep)) }
  fewest (Joined members) g = same (Joined members) refl (omega (arith, all_fewest members g.1))
  fewest (Inverted operand) g = same (Inverted operand) refl (omega (arith, fewest_within 1 operand g.0 (fewest operand g.1)))
  fewest (Operated op left right) g =
      let l : depth (within (rank op + 1) (spelling (tree_of left))) ≤ depth left = fewest_within (rank op + 1) left (omega (arith, g.0)) (fewest left g.2) in
      let r : depth (within (rank op) (spelling (tree_of right))) ≤ depth right = fewest_within (rank op) right g.1 (fewest right g.3) in
      same (Operated op left right) refl (max_monotone (depth (within (rank op + 1) (spelling (tree_of left)))) (depth (within (rank op) (spelling (tree_of right)))) (depth left) (depth right) l r)
  fewest (Shifted op operand amount) g = same (Shifted op operand amount) refl (fewest_within 3 operand (omega (arith, g.0)) (fewest operand g.2))
  fewest (Chosen condition on_true on_false) g =
      let c : depth (within 8 (spelling (tree_of condition))) ≤ depth condition = fewest_within 8 condition g.0 (fewest condition g.1) in
      let t = (fewest on_true g.2).deep in
      let f = (fewest on_false g.3).deep in
      let arms : 1 + max (depth (spelling (tree_of on_true))) (depth (spelling (tree_of on_false))) ≤ 1 + max (depth on_true) (depth on_false) = (let m = max_monotone (depth (spelling (tree_of on_true))) (depth (spelling (tree_of on_false))) (depth on_true) (depth on_false) t f in omega (arith, m)) in
      same (Chosen condition on_true on_false) refl
      (max_monotone (depth (within 8 (spelling (tree_of condition)))) (1 + max (depth (spelling (tree_of on_true))) (depth (spelling (tree_of on_false)))) (depth condition) (1 + max (depth on_true) (depth on_false)) c arms)

  all_fewest : (cs : Sources) → AreGrouped cs → depths (spellings (trees_of cs)) ≤ depths cs
  all_fewest no_member g = omega arith
  all_fewest (member first members) g = max_monotone (depth (spelling (tree_of first))) (depths (spellings (trees_of members))) (depth first) (depths members) ((fewest first g.1).deep) (all_fewest members g.2)

pub fewest_levels : (c : Source) → IsGrouped c → depth (spelling (tree_of c)) ≤ depth c
fewest_levels c g = (fewest c g).deep

operators_within : (bound : ℕ) (c : Source) → operators (within bound c) ≡ operators c
operators_within bound c = cond_both (nat_lt (looseness c) bound) c (Bracketed c) (λ (s : Source). operators s ≡ operators c) (λ e. refl) (λ e. refl)

mutual
  pub same_operators : (c : Source) → operators (spelling (tree_of c)) ≡ operators c
  same_operators (Named name) = refl
  same_operators (BitOf name place) = refl
  same_operators (PartOf name high low) = refl
  same_operators (Number number) = refl
  same_operators (Based literal) = refl
  same_operators (Bracketed inner) = same_operators inner
  same_operators (Joined members) = all_same_operators members
  same_operators (Inverted operand) = operators_within 1 (spelling (tree_of operand)) ∙ same_operators operand
  same_operators (Operated op left right) =
      let l : operators (within (rank op + 1) (spelling (tree_of left))) ≡ operators left = operators_within (rank op + 1) (spelling (tree_of left)) ∙ same_operators left in
      let r : operators (within (rank op) (spelling (tree_of right))) ≡ operators right = operators_within (rank op) (spelling (tree_of right)) ∙ same_operators right in
      omega (arith, l, r)
  same_operators (Shifted op operand amount) =
      let o : operators (within 3 (spelling (tree_of operand))) ≡ operators operand = operators_within 3 (spelling (tree_of operand)) ∙ same_operators operand in
      omega (arith, o)
  same_operators (Chosen condition on_true on_false) =
      let c : operators (within 8 (spelling (tree_of condition))) ≡ operators condition = operators_within 8 (spelling (tree_of condition)) ∙ same_operators condition in
      omega (arith, c, same_operators on_true, same_operators on_false)

  all_same_operators : (cs : Sources) → operators_in (spellings (trees_of cs)) ≡ operators_in cs
  all_same_operators no_member = refl
  all_same_operators (member first members) = omega (arith, same_operators first, all_same_operators members)

-- ---- statements

-- what is written for a statement's tree is as open as the statement
same_openness : (s : Statement) → openness (statement_of (action_of s)) ≡ openness s
same_openness (Block members) = refl
same_openness (Guarded condition on_true) = refl
same_openness (Forked condition on_true on_false) = same_openness on_false
same_openness (Given register value) = refl

-- what leaves nothing open needs no block around it
closed_is : (s : Statement) → openness s < 1 → closed s ≡ s
closed_is s tight = cond-true (nat_lt (openness s) 1) s (Block (more s none)) (below (openness s) tight)
  where
    below : (n : ℕ) → n < 1 → nat_lt n 1 ≡ true
    below n h = grind (arith, nat_tests)

mutual
  pub fewest_heights : (s : Statement) → IsParted s → height (statement_of (action_of s)) ≤ height s
  fewest_heights (Block members) p = omega (arith, all_fewest_heights members p)
  fewest_heights (Guarded condition on_true) p =
      let m = max_monotone (depth (spelling (tree_of condition))) (height (statement_of (action_of on_true))) (depth condition) (height on_true) (fewest_levels condition p.0) (fewest_heights on_true p.1) in
      omega (arith, m)
  fewest_heights (Forked condition on_true on_false) p =
      let is = closed_is (statement_of (action_of on_true)) (let e = same_openness on_true in omega (arith, e, p.1)) in
      let first : height (closed (statement_of (action_of on_true))) ≤ height on_true = (let e = ap height is in omega (arith, e, fewest_heights on_true p.2)) in
      let arms = max_monotone (height (closed (statement_of (action_of on_true)))) (height (statement_of (action_of on_false))) (height on_true) (height on_false) first (fewest_heights on_false p.3) in
      let m = max_monotone (depth (spelling (tree_of condition))) (max (height (closed (statement_of (action_of on_true)))) (height (statement_of (action_of on_false)))) (depth condition) (max (height on_true) (height on_false)) (fewest_levels condition p.0) arms in
      omega (arith, m)
  fewest_heights (Given register value) p = fewest_levels value p

  all_fewest_heights : (ss : Statements) → AreParted ss → heights (statements_of (actions_of ss)) ≤ heights ss
  all_fewest_heights none p = omega arith
  all_fewest_heights (more first others) p = max_monotone (height (statement_of (action_of first))) (heights (statements_of (actions_of others))) (height first) (heights others) (fewest_heights first p.0) (all_fewest_heights others p.1)

short_closed : (most : ℕ) (s : Statement) → IsShort most s → IsShort most (closed s)
short_closed most s h = cond_both (nat_lt (openness s) 1) s (Block (more s none)) (IsShort most) (λ e. h) (λ e. (h, tt))

as_short : (most : ℕ) (c : Source) → operators c ≤ most → operators (spelling (tree_of c)) ≤ most
as_short most c h = let e = same_operators c in omega (arith, e, h)

mutual
  pub same_short : (most : ℕ) (s : Statement) → IsShort most s → IsShort most (statement_of (action_of s))
  same_short most (Block members) h = all_same_short most members h
  same_short most (Guarded condition on_true) h = (as_short most condition h.0, same_short most on_true h.1)
  same_short most (Forked condition on_true on_false) h = (as_short most condition h.0, short_closed most (statement_of (action_of on_true)) (same_short most on_true h.1), same_short most on_false h.2)
  same_short most (Given register value) h = as_short most value h

  all_same_short : (most : ℕ) (ss : Statements) → AreShort most ss → AreShort most (statements_of (actions_of ss))
  all_same_short most none h = tt
  all_same_short most (more first others) h = (same_short most first h.0, all_same_short most others h.1)
