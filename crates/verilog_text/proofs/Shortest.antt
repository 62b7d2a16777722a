-- The writing with the fewest brackets is a text of its tree.
use Rattle.std.proofs.Common.{◌≡◌, ℕ, ◌+◌, ◌<◌, refl, ap, ◌∙◌, arith}
use Rattle.std.specs.Prelude.{nat_lt}
use Rattle.std.proofs.lemmas.Bool.{ltb-true, cond_both}
use Rattle.verilog_tree.specs.declared.tree.Op.{Op}
use Rattle.verilog_tree.specs.declared.tree.Op.TheVariants as op
use Rattle.verilog_tree.specs.Tree as tree
use Rattle.verilog_tree.specs.Tree.{Tree, Trees, Action, Actions}
use Rattle.verilog_tree.specs.Alike.{plain_block, plain_action, plain_actions}
use Rattle.verilog_text.specs.Grammar.{Source, Bracketed, tree_of, trees_of, rank, looseness, is_plain, IsGrouped, HasMember, AreGrouped}
use Rattle.verilog_text.specs.Statements.{Statement, Block, none, more, action_of, actions_of, openness, IsParted, AreParted}
use Rattle.verilog_text.specs.Shortest.{within, spelling, spellings, closed, statement_of, statements_of, HasMembers, IsFormed, AreFormed, IsFormedAction, AreFormedActions}

pub rank_bounds : (o : Op) → (0 < rank o) × (rank o < 8)
rank_bounds op.Add = (omega arith, omega arith)
rank_bounds op.Sub = (omega arith, omega arith)
rank_bounds op.Less = (omega arith, omega arith)
rank_bounds op.LessEqual = (omega arith, omega arith)
rank_bounds op.Greater = (omega arith, omega arith)
rank_bounds op.GreaterEqual = (omega arith, omega arith)
rank_bounds op.Equal = (omega arith, omega arith)
rank_bounds op.NotEqual = (omega arith, omega arith)
rank_bounds op.And = (omega arith, omega arith)
rank_bounds op.Xor = (omega arith, omega arith)
rank_bounds op.Or = (omega arith, omega arith)

-- brackets don't change the tree
tree_of-within : (bound : ℕ) (c : Source) → tree_of (within bound c) ≡ tree_of c
tree_of-within bound c = cond_both (nat_lt (looseness c) bound) c (Bracketed c) (λ x. tree_of x ≡ tree_of c) (λ e. refl) (λ e. refl)

grouped_within : (bound : ℕ) (c : Source) → IsGrouped c → IsGrouped (within bound c)
grouped_within bound c g = cond_both (nat_lt (looseness c) bound) c (Bracketed c) IsGrouped (λ e. g) (λ e. g)

looseness_within : (bound : ℕ) (c : Source) → 0 < bound → looseness (within bound c) < bound
looseness_within bound c positive = cond_both (nat_lt (looseness c) bound) c (Bracketed c) (λ x. looseness x < bound) (λ e. ltb-true _ _ e) (λ e. positive)

mutual
  pub tree_of-spelling : (t : Tree) → tree_of (spelling t) ≡ t
  tree_of-spelling (tree.Name name) = refl
  tree_of-spelling (tree.Bit name place) = refl
  tree_of-spelling (tree.Part name high low) = refl
  tree_of-spelling (tree.Plain value) = refl
  tree_of-spelling (tree.Based width signed bits) = refl
  tree_of-spelling (tree.Cat members) = ap tree.Cat (trees_of-spellings members)
  tree_of-spelling (tree.Not a) = ap tree.Not (tree_of-within 1 (spelling a) ∙ tree_of-spelling a)
  tree_of-spelling (tree.Binary op a b) = let x = tree_of-within (rank op + 1) (spelling a) ∙ tree_of-spelling a in let y = tree_of-within (rank op) (spelling b) ∙ tree_of-spelling b in cc (x, y)
  tree_of-spelling (tree.Shift op a k) = ap (λ x. tree.Shift op x k) (tree_of-within 3 (spelling a) ∙ tree_of-spelling a)
  tree_of-spelling (tree.Choice c a b) = let x = tree_of-within 8 (spelling c) ∙ tree_of-spelling c in let y = tree_of-spelling a in let z = tree_of-spelling b in cc (x, y, z)

  trees_of-spellings : (ts : Trees) → trees_of (spellings ts) ≡ ts
  trees_of-spellings tree.none = refl
  trees_of-spellings (tree.more t ts) = let x = tree_of-spelling t in let y = trees_of-spellings ts in cc (x, y)

some_spellings : (ts : Trees) → HasMembers ts → HasMember (spellings ts)
some_spellings tree.none f = absurd f
some_spellings (tree.more t ts) f = tt

mutual
  pub grouped_spelling : (n : ℕ) (t : Tree) → IsFormed n t → IsGrouped (spelling t)
  grouped_spelling n (tree.Name name) f = tt
  grouped_spelling n (tree.Bit name place) f = tt
  grouped_spelling n (tree.Part name high low) f = tt
  grouped_spelling n (tree.Plain value) f = tt
  grouped_spelling n (tree.Based width signed bits) f = tt
  grouped_spelling n (tree.Cat members) f = (some_spellings members f.0, all_grouped_spellings n members f.1)
  grouped_spelling n (tree.Not a) f = (looseness_within 1 (spelling a) (omega arith), grouped_within 1 (spelling a) (grouped_spelling n a f))
  grouped_spelling n (tree.Binary op a b) f =
      let left = looseness_within (rank op + 1) (spelling a) (omega arith) in
      (omega arith, looseness_within (rank op) (spelling b) (rank_bounds op).0, grouped_within (rank op + 1) (spelling a) (grouped_spelling n a f.0), grouped_within (rank op) (spelling b) (grouped_spelling n b f.1))
  grouped_spelling n (tree.Shift op a k) f = let left = looseness_within 3 (spelling a) (omega arith) in (omega arith, f.0, grouped_within 3 (spelling a) (grouped_spelling n a f.1))
  grouped_spelling n (tree.Choice c a b) f = (looseness_within 8 (spelling c) (omega arith), grouped_within 8 (spelling c) (grouped_spelling n c f.0), grouped_spelling n a f.1, grouped_spelling n b f.2)

  all_grouped_spellings : (n : ℕ) (ts : Trees) → AreFormed n ts → AreGrouped (spellings ts)
  all_grouped_spellings n tree.none f = tt
  all_grouped_spellings n (tree.more t ts) f = (ap is_plain (tree_of-spelling t) ∙ f.0, grouped_spelling n t f.1, all_grouped_spellings n ts f.2)

-- a block of one statement around it leaves nothing open
openness_closed : (s : Statement) → openness (closed s) < 1
openness_closed s = cond_both (nat_lt (openness s) 1) s (Block (more s none)) (λ x. openness x < 1) (λ e. ltb-true _ _ e) (λ e. omega arith)

parted_closed : (s : Statement) → IsParted s → IsParted (closed s)
parted_closed s p = cond_both (nat_lt (openness s) 1) s (Block (more s none)) IsParted (λ e. p) (λ e. (p, tt))

mutual
  pub parted_statement : (n : ℕ) (a : Action) → IsFormedAction n a → IsParted (statement_of a)
  parted_statement n (tree.Block members) f = parted_statements n members f
  parted_statement n (tree.When c t) f = (grouped_spelling n c f.0, parted_statement n t f.1)
  parted_statement n (tree.Either c t e) f = (grouped_spelling n c f.0, openness_closed (statement_of t), parted_closed (statement_of t) (parted_statement n t f.1), parted_statement n e f.2)
  parted_statement n (tree.Give r v) f = grouped_spelling n v f.1

  parted_statements : (n : ℕ) (xs : Actions) → AreFormedActions n xs → AreParted (statements_of xs)
  parted_statements n tree.no_action f = tt
  parted_statements n (tree.action a rest) f = (parted_statement n a f.0, parted_statements n rest f.1)

plain_action-closed : (s : Statement) → plain_action (action_of (closed s)) ≡ plain_action (action_of s)
plain_action-closed s = cond_both (nat_lt (openness s) 1) s (Block (more s none)) (λ x. plain_action (action_of x) ≡ plain_action (action_of s)) (λ e. refl) (λ e. refl)

mutual
  -- the writing has the same tree, but for blocks of one statement
  pub plain_action-statement : (a : Action) → plain_action (action_of (statement_of a)) ≡ plain_action a
  plain_action-statement (tree.Block members) = ap plain_block (plain_actions-statements members)
  plain_action-statement (tree.When c t) = let x = tree_of-spelling c in let y = plain_action-statement t in cc (x, y)
  plain_action-statement (tree.Either c t e) = let x = tree_of-spelling c in let y = plain_action-closed (statement_of t) ∙ plain_action-statement t in let z = plain_action-statement e in cc (x, y, z)
  plain_action-statement (tree.Give r v) = ap (tree.Give r) (tree_of-spelling v)

  plain_actions-statements : (xs : Actions) → plain_actions (actions_of (statements_of xs)) ≡ plain_actions xs
  plain_actions-statements tree.no_action = refl
  plain_actions-statements (tree.action a rest) = let x = plain_action-statement a in let y = plain_actions-statements rest in cc (x, y)
