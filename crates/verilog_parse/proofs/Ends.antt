-- An expression can end where all that is open folds away.
use Rattle.std.proofs.Common.{◌≡◌, ℕ, ◌+◌, Bool, true, false, List, [], ◌∷◌, refl, ap, ◌∙◌, sym, arith}
use Rattle.std.specs.Prelude.{◌==◌, is_some, nat_le}
use Rattle.std.proofs.lemmas.Bool.{cond-true, le-leb, ne_eqb}
use Rattle.verilog_tree.specs.Tree.{Tree, Not, Binary, Choice}
use Rattle.verilog_tree.specs.declared.tree.Op.{Op}
use Rattle.verilog_text.specs.Grammar.{rank}
use Rattle.verilog_text.specs.Machine.{Frame, InBracket, InNot, InMembers, InRight, InYes, InNo, Folded, fold_to, bare_tree}
use Rattle.verilog_text.proofs.Shortest.{rank_bounds}
use Rattle.verilog_parse.specs.View.{open_count}

binds : (op : Op) → nat_le (rank op) 8 ≡ true
binds op = let h = rank_bounds op in le-leb (rank op) 8 (omega arith)

one_more : (n : ℕ) → false ≡ (1 + n == 0)
one_more n = sym (ne_eqb (1 + n) 0 (λ e. omega arith))

pub ends_where_closed : (stack : List Frame) (e : Tree) → is_some (let f = fold_to 8 stack e in bare_tree f.stack f.operand) ≡ (open_count stack == 0)
ends_where_closed [] e = refl
ends_where_closed (InBracket ∷ stack) e = one_more (open_count stack)
ends_where_closed (InNot ∷ stack) e = ends_where_closed stack (Not e)
ends_where_closed (InMembers before ∷ stack) e = one_more (open_count stack)
ends_where_closed (InRight left op ∷ stack) e =
    let then : Folded → Bool = λ f. is_some (bare_tree f.stack f.operand) in
    ap then (cond-true (nat_le (rank op) 8) (fold_to 8 stack (Binary op left e)) _ (binds op)) ∙ ends_where_closed stack (Binary op left e)
ends_where_closed (InYes condition ∷ stack) e = one_more (open_count stack)
ends_where_closed (InNo condition on_true ∷ stack) e = ends_where_closed stack (Choice condition on_true e)
