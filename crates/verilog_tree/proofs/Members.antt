-- A loop over the members of a concatenation: those that are left, as trees.
use Rattle.std.proofs.Common.{◌≡◌, ℕ, zero, suc, ◌+◌, ◌<◌, ◌≤◌, List, [], ◌∷◌, length, get_or, drop, refl, sym, ap, arith, add-one}
use Rattle.verilog_tree.specs.declared.tree.Expr.{Expr}
use Rattle.verilog_tree.specs.declared.tree.Stmt.{Stmt}
use Rattle.verilog_tree.specs.Tree.{none, more, no_action}
use Rattle.verilog_tree.specs.View.{tree_view, trees_view, actions_view}

pub members_end : (es : List Expr) (k : ℕ) → length es ≤ k → trees_view (drop k es) ≡ none
members_end [] zero le = refl
members_end [] (suc k) le = refl
members_end (x ∷ es) zero le = absurd (omega arith)
members_end (x ∷ es) (suc k) le = members_end es k (omega arith)

pub statements_end : (ss : List Stmt) (k : ℕ) → length ss ≤ k → actions_view (drop k ss) ≡ no_action
statements_end [] zero le = refl
statements_end [] (suc k) le = refl
statements_end (x ∷ ss) zero le = absurd (omega arith)
statements_end (x ∷ ss) (suc k) le = statements_end ss k (omega arith)

members_left_suc : (es : List Expr) (k : ℕ) (e : Expr) → k < length es → e ≡ get_or es k e → trees_view (drop k es) ≡ more (tree_view e) (trees_view (drop (suc k) es))
members_left_suc [] k e lt is = absurd (omega arith)
members_left_suc (x ∷ es) zero e lt is = ap (λ (y : Expr). more (tree_view y) (trees_view es)) (sym is)
members_left_suc (x ∷ es) (suc k) e lt is = members_left_suc es k e (omega arith) is

-- the next member, and those behind it
pub members_left : (es : List Expr) (k : ℕ) (e : Expr) → k < length es → e ≡ get_or es k e → trees_view (drop k es) ≡ more (tree_view e) (trees_view (drop (k + 1) es))
members_left es k e lt is = rw add-one (members_left_suc es k e lt is)
