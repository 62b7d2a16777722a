-- Nodes that are functions of one node, made one after another.
use Rattle.std.proofs.Common.{◌≡◌, ℕ, ◌+◌, ◌^◌, ◌<◌, ◌≤◌, refl, sym, ◌∙◌, ap, arith, subst, length, Some, ℤ, pos, ◌-ℤ◌, ◌*ℤ◌, ◌≤ℤ◌, false}
use Rattle.std.proofs.lemmas.Option.{slice_get_within}
use Rattle.mr_values.specs.Width.{wrap, chosen, floor_quotient}
use Rattle.net_graph.specs.declared.cell.Node.{Node}
use Rattle.net_graph.specs.declared.cell.Item.{Item}
use Rattle.net_graph.specs.declared.cell.Item.TheVariants.{Constant, Sub, Shl, Shr, Mux, Equal, Bits}
use Rattle.net_graph.specs.Cells.{NetView}
use Rattle.net_graph.specs.Count.{is_adder, adders_in}
use Rattle.net_graph.specs.Cut.{cut_all}
use Rattle.net_graph.specs.Depth.{IsPlain, begins, passes, chooses, compares, IsShallow}
use Rattle.net_graph.specs.Grow.{Adds}
use Rattle.net_graph.specs.Name.{is_input}
use Rattle.net_graph.specs.Run.{Values, IsRun, equality, selected}
use Rattle.net_graph.specs.WellFormed.{IsBound}
use Rattle.net_graph.proofs.CountLemmas.{adders_plain, adders_more}
use Rattle.net_graph.proofs.CutLemmas.{IsCut-all}
use Rattle.net_graph.proofs.DepthLemmas.{IsPlain-later, IsShallow-adds}
use Rattle.net_graph.proofs.GrowLemmas.{Grows-refl, Grows-trans, Grows-data}
use Rattle.net_graph.proofs.NetLemmas.{Extends-adds, cell_of_added}
use Rattle.pipeline_balance.proofs.CostLemmas.{SameNamed-refl, SameNamed-trans, SameNamed-adds}
use Rattle.pipeline_balance.proofs.NumberedLemmas.{LeavesFree-refl, LeavesFree-trans, free_adds}
use Rattle.pipeline_balance.proofs.ShallowLemmas.{shallow_same}
use Rattle.stage_law.specs.declared.ranges.Range.{Range}
use Rattle.rounding_stage.specs.Made.{IsMade, IsOf}
use Rattle.rounding_stage.specs.Map.{IsMap}

-- ---- nets

pub IsMade-refl : (net : NetView) → IsMade net net
IsMade-refl net = record { grows = Grows-refl net; counts = refl; same_named = SameNamed-refl net.cells; names = LeavesFree-refl net.cells (λ name. ⊥) }

pub IsMade-trans : {old mid new : NetView} → IsMade old mid → IsMade mid new → IsMade old new
IsMade-trans {old} {mid} {new} p q = record {
  grows = Grows-trans p.grows q.grows;
  counts = subst (λ (g : ℕ). adders_in g new.cells ≡ adders_in g mid.cells) p.grows.group q.counts ∙ p.counts;
  same_named = SameNamed-trans p.same_named q.same_named;
  names = LeavesFree-trans old.cells mid.cells new.cells (λ name. ⊥) (λ name. ⊥) (λ name. ⊥) (λ name h. h) (λ name h. h) p.names q.names;
}

-- one node more that is no adder
pub IsMade-adds : {old new : NetView} {node : Node} {width : ℕ} {item : Item} → 1 ≤ old.group → Adds old new node width item → is_input (Some item) ≡ false → is_adder (Some item) ≡ false → IsMade old new
IsMade-adds {old} data_group a plain none = record {
  grows = Grows-data data_group a plain;
  counts = adders_plain old.group a none;
  same_named = SameNamed-adds a;
  names = record { free = λ name other f. free_adds a name f };
}

-- ---- nodes

-- the node itself
pub IsOf-self : (net : NetView) (node : Node) → node.place < length net.cells → IsOf net net.cells node node (λ v. v)
IsOf-self net node h = record { within = h; plain = λ bound p. p; is = λ x v r t. refl }

pub IsOf-later : {old mid new : NetView} {from to : Node} {of : ℤ → ℤ} → IsMade old mid → IsMade mid new → IsOf old mid.cells from to of → IsOf old new.cells from to of
IsOf-later {old} {mid} {new} {from} {to} p q o = record {
  within = omega (arith, o.within, q.grows.extends.longer);
  plain = λ bound plain. IsPlain-later mid.cells new.cells old.group (p.grows.bound bound) q.grows.extends to.place (o.plain bound plain);
  is = λ x v r t. o.is x v (q.grows.extends.runs cut_all IsCut-all x v r) t;
}

module _ {old mid new : NetView} {from to : Node} {width : ℕ} {item : Item} (p : IsMade old mid) (a : Adds mid new to width item) where
  later_plain : {node : Node} {of : ℤ → ℤ} → IsOf old mid.cells from node of → IsBound old.cells → IsPlain old.cells old.group from.place → IsPlain new.cells old.group node.place
  later_plain {node} o bound plain = IsPlain-later mid.cells new.cells old.group (p.grows.bound bound) (Extends-adds a) node.place (o.plain bound plain)

  later_is : {node : Node} {of : ℤ → ℤ} → IsOf old mid.cells from node of → (x : ℕ → ℤ) (v : Values) → IsRun cut_all new.cells x v → (t : ℕ) → v t node.place ≡ of (v t from.place)
  later_is o x v r t = o.is x v ((Extends-adds a).runs cut_all IsCut-all x v r) t

pub IsOf-constant : {old mid new : NetView} {from to : Node} {width : ℕ} {value : ℤ} → Adds mid new to width (Constant value) → IsOf old new.cells from to (λ v. wrap width value)
IsOf-constant {old} {mid} {new} {from} {to} a = record {
  within = slice_get_within new.cells to.place _ (cell_of_added a);
  plain = λ bound plain. begins to.place _ (cell_of_added a) refl;
  is = λ x v r t. r.each to.place _ (cell_of_added a) t;
}

pub IsOf-shl : {old mid new : NetView} {from node to : Node} {width by : ℕ} {of : ℤ → ℤ} → IsMade old mid → Adds mid new to width (Shl node by) → IsOf old mid.cells from node of → IsOf old new.cells from to (λ v. wrap width (of v *ℤ pos (2 ^ by)))
IsOf-shl {old} {mid} {new} {from} {node} {to} {width} {by} p a o = record {
  within = slice_get_within new.cells to.place _ (cell_of_added a);
  plain = λ bound plain. passes to.place _ node (cell_of_added a) refl (later_plain p a o bound plain);
  is = λ x v r t. r.each to.place _ (cell_of_added a) t ∙ ap (λ (z : ℤ). wrap width (z *ℤ pos (2 ^ by))) (later_is p a o x v r t);
}

pub IsOf-shr : {old mid new : NetView} {from node to : Node} {width by : ℕ} {of : ℤ → ℤ} → IsMade old mid → Adds mid new to width (Shr node by) → IsOf old mid.cells from node of → IsOf old new.cells from to (λ v. wrap width (floor_quotient (of v) (2 ^ by)))
IsOf-shr {old} {mid} {new} {from} {node} {to} {width} {by} p a o = record {
  within = slice_get_within new.cells to.place _ (cell_of_added a);
  plain = λ bound plain. passes to.place _ node (cell_of_added a) refl (later_plain p a o bound plain);
  is = λ x v r t. r.each to.place _ (cell_of_added a) t ∙ ap (λ (z : ℤ). wrap width (floor_quotient z (2 ^ by))) (later_is p a o x v r t);
}

pub IsOf-bits : {old mid new : NetView} {from node to : Node} {width high low : ℕ} {of : ℤ → ℤ} → IsMade old mid → Adds mid new to width (Bits node high low) → IsOf old mid.cells from node of → IsOf old new.cells from to (λ v. wrap width (selected (of v) high low))
IsOf-bits {old} {mid} {new} {from} {node} {to} {width} {high} {low} p a o = record {
  within = slice_get_within new.cells to.place _ (cell_of_added a);
  plain = λ bound plain. passes to.place _ node (cell_of_added a) refl (later_plain p a o bound plain);
  is = λ x v r t. r.each to.place _ (cell_of_added a) t ∙ ap (λ (z : ℤ). wrap width (selected z high low)) (later_is p a o x v r t);
}

pub IsOf-equal : {old mid new : NetView} {from one two to : Node} {f g : ℤ → ℤ} → IsMade old mid → Adds mid new to 1 (Equal one two) → IsOf old mid.cells from one f → IsOf old mid.cells from two g → IsOf old new.cells from to (λ v. wrap 1 (equality (f v) (g v)))
IsOf-equal {old} {mid} {new} {from} {one} {two} {to} {f} {g} p a o q = record {
  within = slice_get_within new.cells to.place _ (cell_of_added a);
  plain = λ bound plain. compares to.place _ one two (cell_of_added a) refl (later_plain p a o bound plain) (later_plain p a q bound plain);
  is = λ x v r t.
      r.each to.place _ (cell_of_added a) t ∙ ap (λ (z : ℤ). wrap 1 (equality z (v t two.place))) (later_is p a o x v r t)
      ∙ ap (λ (z : ℤ). wrap 1 (equality (f (v t from.place)) z)) (later_is p a q x v r t);
}

pub IsOf-mux : {old mid new : NetView} {from on yes no to : Node} {width : ℕ} {h f g : ℤ → ℤ} → IsMade old mid → Adds mid new to width (Mux on yes no) → IsOf old mid.cells from on h → IsOf old mid.cells from yes f → IsOf old mid.cells from no g
    → IsOf old new.cells from to (λ v. wrap width (chosen (h v) (f v) (g v)))
IsOf-mux {old} {mid} {new} {from} {on} {yes} {no} {to} {width} {h} {f} {g} p a s o q = record {
  within = slice_get_within new.cells to.place _ (cell_of_added a);
  plain = λ bound plain. chooses to.place _ on yes no (cell_of_added a) refl (later_plain p a s bound plain) (later_plain p a o bound plain) (later_plain p a q bound plain);
  is = λ x v r t.
      r.each to.place _ (cell_of_added a) t ∙ ap (λ (z : ℤ). wrap width (chosen z (v t yes.place) (v t no.place))) (later_is p a s x v r t)
      ∙ ap (λ (z : ℤ). wrap width (chosen (h (v t from.place)) z (v t no.place))) (later_is p a o x v r t)
      ∙ ap (λ (z : ℤ). wrap width (chosen (h (v t from.place)) (f (v t from.place)) z)) (later_is p a q x v r t);
}

-- ---- functions over a range

-- a node without an adder
pub IsMap-made : {old new : NetView} {from to : Node} {of : ℤ → ℤ} (range : Range) (goal : ℤ → ℤ) → IsMade old new → IsOf old new.cells from to of → ((v : ℤ) → range.lo ≤ℤ v → v ≤ℤ range.hi → of v ≡ goal v) → IsMap old new from range goal 0 to
IsMap-made {old} {new} {from} {to} range goal p o same = record {
  grows = p.grows;
  counts = p.counts ∙ omega arith;
  same_named = p.same_named;
  names = p.names;
  shallow = record { shallow = λ s plain. shallow_same old.group p.grows p.counts s };
  within = o.within;
  maps = λ x v r t low high. o.is x v r t ∙ same (v t from.place) low high;
}

-- a difference of two such nodes
pub IsMap-sub : {old mid new : NetView} {from one two to : Node} {width : ℕ} {f g : ℤ → ℤ} (range : Range) (goal : ℤ → ℤ) → 1 ≤ old.group → IsMade old mid → IsOf old mid.cells from one f → IsOf old mid.cells from two g
    → Adds mid new to width (Sub one two) → ((v : ℤ) → range.lo ≤ℤ v → v ≤ℤ range.hi → wrap width (f v -ℤ g v) ≡ goal v) → IsMap old new from range goal 1 to
IsMap-sub {old} {mid} {new} {from} {one} {two} {to} {width} {f} {g} range goal data_group p o q a same = record {
  grows = Grows-trans p.grows (Grows-data (subst (λ (n : ℕ). 1 ≤ n) (sym p.grows.group) data_group) a refl);
  counts = adders_more old.group a refl p.grows.group ∙ ap (λ (n : ℕ). n + 1) p.counts;
  same_named = SameNamed-trans p.same_named (SameNamed-adds a);
  names = LeavesFree-trans old.cells mid.cells new.cells (λ name. ⊥) (λ name. ⊥) (λ name. ⊥) (λ name h. h) (λ name h. h) p.names (record { free = λ name other f. free_adds a name f });
  shallow = record {
    shallow = λ s plain.
        let before : IsShallow mid.cells mid.group = subst (λ (n : ℕ). IsShallow mid.cells n) (sym p.grows.group) (shallow_same old.group p.grows p.counts s) in
        let left : IsPlain mid.cells mid.group one.place = subst (λ (n : ℕ). IsPlain mid.cells n one.place) (sym p.grows.group) (o.plain s.bound plain) in
        let right : IsPlain mid.cells mid.group two.place = subst (λ (n : ℕ). IsPlain mid.cells n two.place) (sym p.grows.group) (q.plain s.bound plain) in
        subst (λ (n : ℕ). IsShallow new.cells n) p.grows.group (IsShallow-adds a before (left, right));
  };
  within = slice_get_within new.cells to.place _ (cell_of_added a);
  maps = λ x v r t low high.
      r.each to.place _ (cell_of_added a) t ∙ ap (λ (z : ℤ). wrap width (z -ℤ v t two.place)) (later_is p a o x v r t)
      ∙ ap (λ (z : ℤ). wrap width (f (v t from.place) -ℤ z)) (later_is p a q x v r t) ∙ same (v t from.place) low high;
}

-- ---- nodes one after another

-- one node more
pub and_one : {start mid new : NetView} {node : Node} {width : ℕ} {item : Item} → 1 ≤ start.group → IsMade start mid → Adds mid new node width item → is_input (Some item) ≡ false → is_adder (Some item) ≡ false → IsMade start new
and_one group p a plain none = IsMade-trans p (IsMade-adds (subst (λ (n : ℕ). 1 ≤ n) (sym p.grows.group) group) a plain none)

-- what an earlier node is, with one node more
pub still : {start mid new : NetView} {node from to : Node} {width : ℕ} {item : Item} {of : ℤ → ℤ} → 1 ≤ start.group → IsMade start mid → Adds mid new node width item → is_input (Some item) ≡ false → is_adder (Some item) ≡ false
    → IsOf start mid.cells from to of → IsOf start new.cells from to of
still group p a plain none o = IsOf-later p (IsMade-adds (subst (λ (n : ℕ). 1 ≤ n) (sym p.grows.group) group) a plain none) o
