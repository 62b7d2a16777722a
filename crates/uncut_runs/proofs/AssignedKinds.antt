-- No assignment of a module that passes the checks drives an input.
use Rattle.std.proofs.Common.{◌≡◌, ℕ, zero, suc, Bool, true, false, not, cond, List, [], ◌∷◌, find, Option, None, Some, slice_get, refl, sym, ◌∙◌, ap}
use Rattle.std.specs.Option.{option_map, option_map_or}
use Rattle.verilog_tree.specs.declared.tree.Signal.{Signal}
use Rattle.verilog_tree.specs.declared.tree.Kind.{Kind}
use Rattle.verilog_tree.specs.declared.tree.Kind.TheVariants.{Input, Output, Wire, Reg}
use Rattle.verilog_tree.specs.Tree.{Tree, Trees, Name, Bit, Part, Plain, Based, Cat, Not, Binary, Shift, Choice, none, more, Assignment, Design}
use Rattle.verilog_tree.specs.Names.{declaration_in, kind_of}
use Rattle.verilog_tree.specs.Checks.{Use, Assigned, used_name, tree_uses, trees_uses, assigns_uses, blocks_uses, can_be_assigned, is_wrong_use, uses, wrong_kind}
use Rattle.module_laws.proofs.Passing.{none_mapped}

module _ (wrong : Use → Bool) where
  abbrev None_of : List Use → Type 0
  None_of us = find wrong us ≡ None

  first_right : (b : Bool) (u : Use) (rest : Option Use) → cond b (Some u) rest ≡ None → (b ≡ false) × (rest ≡ None)
  first_right true u rest e = absurd (cc)
  first_right false u rest e = (refl, e)

  later_right : (u : Use) (us : List Use) → None_of (u ∷ us) → None_of us
  later_right u us e = (first_right (wrong u) u (find wrong us) e).1

  mutual
    past_tree : (e : Tree) (rest : List Use) → None_of (tree_uses e rest) → None_of rest
    past_tree (Name n) rest right = later_right _ rest right
    past_tree (Bit n place) rest right = later_right _ rest right
    past_tree (Part n high low) rest right = later_right _ rest right
    past_tree (Plain x) rest right = right
    past_tree (Based width signed bits) rest right = right
    past_tree (Cat members) rest right = past_trees members rest right
    past_tree (Not a) rest right = past_tree a rest right
    past_tree (Binary op a b) rest right = past_tree b rest (past_tree a (tree_uses b rest) right)
    past_tree (Shift op a amount) rest right = past_tree a rest right
    past_tree (Choice condition a b) rest right = past_tree b rest (past_tree a (tree_uses b rest) (past_tree condition (tree_uses a (tree_uses b rest)) right))

    past_trees : (es : Trees) (rest : List Use) → None_of (trees_uses es rest) → None_of rest
    past_trees none rest right = right
    past_trees (more first others) rest right = past_trees others rest (past_tree first (trees_uses others rest) right)

  right_target : (assigns : List Assignment) (rest : List Use) → None_of (assigns_uses assigns rest) → (k : ℕ) (a : Assignment) → slice_get assigns k ≡ Some a → wrong (Assigned a.target) ≡ false
  right_target [] rest right k a at = absurd (cc)
  right_target (x ∷ assigns) rest right zero a at =
      let same : x ≡ a = cc in
      ap (λ (b : Assignment). wrong (Assigned b.target)) (sym same) ∙ (first_right (wrong (Assigned x.target)) (Assigned x.target) _ right).0
  right_target (x ∷ assigns) rest right (suc k) a at =
      right_target assigns rest (past_tree x.value (assigns_uses assigns rest) (later_right (Assigned x.target) _ right)) k a at

no_input : (o : Option Signal) → not (option_map_or (λ (s : Signal). can_be_assigned s.kind) o false) ≡ false → option_map (λ (s : Signal). s.kind) o ≡ Some Input → ⊥
no_input None right is = absurd (cc)
no_input (Some s) right is = by s.kind right (let same : s.kind ≡ Input = one_kind s.kind Input is in same)
  where
    one_kind : (a b : Kind) → Some a ≡ Some b → a ≡ b
    one_kind a b e = cc

    by : (kind : Kind) → not (can_be_assigned kind) ≡ false → kind ≡ Input → ⊥
    by Input e same = absurd (cc)
    by Output e same = absurd (cc)
    by Wire e same = absurd (cc)
    by Reg e same = absurd (cc)

pub assigns_no_input : (d : Design) → wrong_kind d ≡ None → (k : ℕ) (a : Assignment) → slice_get d.assigns k ≡ Some a → kind_of d a.target ≡ Some Input → ⊥
assigns_no_input d right k a at =
    no_input (declaration_in d.signals a.target) (right_target (is_wrong_use d) d.assigns (blocks_uses d.blocks) (none_mapped used_name (find (is_wrong_use d) (uses d)) right) k a at)
