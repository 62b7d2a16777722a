-- The adders of a tree, and that none stands before its leaves.
use Rattle.std.proofs.Common.{◌≡◌, ℕ, zero, suc, ◌<◌, List, [], ◌∷◌, length, map, refl, ◌∙◌, ap, subst, Bool, true, false, cond, All, Some, slice_get}
use Rattle.std.proofs.lemmas.List.{length-map}
use Rattle.std.proofs.lemmas.List.Elements.{All-head, All-tail}
use Rattle.std.proofs.lemmas.Option.{slice_get-get_or}
use Rattle.net_graph.specs.declared.cell.Cell.{Cell}
use Rattle.net_graph.specs.declared.cell.Leaf.{Leaf}
use Rattle.net_graph.specs.declared.cell.Node.{Node}
use Rattle.net_graph.specs.Depth.{IsPlain}
use Rattle.signed_digit.specs.declared.term_list.Term.{Term}
use Rattle.pipeline_balance.specs.Leaves.{all_negative}
use Rattle.pipeline_balance.specs.Shallow.{ArePlain}
use Rattle.pipeline_balance.specs.Tree.{tree_adders}
use Rattle.fir_pieces.specs.Placed.{adders_for, term_adders, leaf_of}
use Rattle.fir_pieces.proofs.HeldLemmas.{all_negative-leaves}

-- the adders of a tree are those of its terms
tree_adders-leaves : (leaves : List Leaf) → tree_adders leaves ≡ adders_for (length leaves) (all_negative leaves)
tree_adders-leaves [] = refl
tree_adders-leaves (l ∷ ls) = by_sign (all_negative (l ∷ ls))
  where
    by_sign : (b : Bool) → cond b (suc (length ls)) (length ls) ≡ adders_for (suc (length ls)) b
    by_sign true = refl
    by_sign false = refl

pub tree_adders-terms : (nodes : List Node) (ts : List Term) → tree_adders (map (leaf_of nodes) ts) ≡ term_adders ts
tree_adders-terms nodes ts =
    tree_adders-leaves (map (leaf_of nodes) ts) ∙ ap (λ (n : ℕ). adders_for n (all_negative (map (leaf_of nodes) ts))) (length-map ts (leaf_of nodes))
    ∙ ap (adders_for (length ts)) (all_negative-leaves nodes ts)

-- no adder stands before the leaves over plain nodes
pub plain_leaves : (cells : List Cell) (group : ℕ) (nodes : List Node) → ArePlain cells group nodes → (ts : List Term) → All (λ (u : Term). u.index < length nodes) ts → (k : ℕ) (leaf : Leaf) → slice_get (map (leaf_of nodes) ts) k ≡ Some leaf
    → IsPlain cells group leaf.node.place
plain_leaves cells group nodes plain [] below k leaf e = absurd (cc)
plain_leaves cells group nodes plain (t ∷ ts) below zero leaf e =
    let same : leaf_of nodes t ≡ leaf = cc in
    let inside = All-head (λ (u : Term). u.index < length nodes) t ts below in
    subst (λ (l : Leaf). IsPlain cells group l.node.place) same (plain.each t.index (leaf_of nodes t).node (slice_get-get_or nodes t.index (record { place = 0 }) inside))
plain_leaves cells group nodes plain (t ∷ ts) below (suc k) leaf e = plain_leaves cells group nodes plain ts (All-tail (λ (u : Term). u.index < length nodes) t ts below) k leaf e
