-- Pieces that leave at most one adder between two registers.
use Rattle.std.proofs.Common.{◌≡◌, ℕ, zero, suc, ◌≤◌, List, [], ◌∷◌, take, drop, false, Some, slice_get, refl, sym, ◌∙◌, ap, subst}
use Rattle.net_graph.specs.declared.cell.Cell.{Cell}
use Rattle.net_graph.specs.declared.cell.Leaf.{Leaf}
use Rattle.net_graph.specs.declared.cell.Node.{Node}
use Rattle.net_graph.specs.declared.cell.Item.{Item}
use Rattle.net_graph.specs.declared.cell.Item.TheVariants.{Add, Sub, Shl, Constant}
use Rattle.net_graph.specs.Cells.{NetView}
use Rattle.net_graph.specs.Count.{is_adder, adders_in}
use Rattle.net_graph.specs.Depth.{is_source, IsPlain, begins, passes, IsShallow}
use Rattle.net_graph.specs.Grow.{Extends, Grows, Adds}
use Rattle.net_graph.specs.WellFormed.{IsBound}
use Rattle.net_graph.proofs.CountLemmas.{adders_plain}
use Rattle.net_graph.proofs.DepthLemmas.{IsPlain-later, IsShallow-same, IsShallow-adds}
use Rattle.net_graph.proofs.NetLemmas.{Extends-adds, cell_of_added}
use Rattle.pipeline_balance.specs.Costs.{SameAdders}
use Rattle.pipeline_balance.specs.Leaves.{segment}
use Rattle.pipeline_balance.specs.Numbered.{IsRegister}
use Rattle.pipeline_balance.specs.Shallow.{ArePlain, HasPlainLeaves, PassesPlain, KeepsShallow, SumsPlain}
use Rattle.pipeline_balance.proofs.ShapeLemmas.{KeepsShapes-refl, KeepsShapes-adds}

-- a net that grows without an adder of the group
pub shallow_same : {old new : NetView} (group : ℕ) → Grows old new → adders_in group new.cells ≡ adders_in group old.cells → IsShallow old.cells group → IsShallow new.cells group
shallow_same {old} {new} group g same s = IsShallow-same old.cells new.cells group g.extends (g.bound s.bound) same s

pub shallow_more : {old new : NetView} (group : ℕ) → 1 ≤ group → Grows old new → SameAdders old.cells new.cells → IsShallow old.cells group → IsShallow new.cells group
shallow_more group some g same = shallow_same group g (same.each group some)

-- a register is plain
pub plain_register : {cells : List Cell} {place group : ℕ} {name : _} {width : ℕ} (of : ℕ) → IsRegister cells place group name width → IsPlain cells of place
plain_register {cells} {place} of r = begins place r.cell r.there (ap is_source r.registered.1)

-- ---- one node

pub PassesPlain-refl : (net : NetView) (node : Node) → PassesPlain net net node node
PassesPlain-refl net node = record { shallow = λ s. s; plain = λ bound p. p; linear = KeepsShapes-refl net.cells }

one_shallow : {old new : NetView} {node : Node} {width : ℕ} {item : Item} → Grows old new → Adds old new node width item → is_adder (Some item) ≡ false → IsShallow old.cells old.group → IsShallow new.cells old.group
one_shallow {old} g a plain = shallow_same old.group g (adders_plain old.group a plain)

pub PassesPlain-shl : {old new : NetView} {to : Node} (from : Node) (by width : ℕ) → Grows old new → Adds old new to width (Shl from by) → PassesPlain old new from to
PassesPlain-shl {old} {new} {to} from by width g a = record {
  shallow = one_shallow g a refl;
  plain = λ bound p. passes to.place _ from (cell_of_added a) refl (IsPlain-later old.cells new.cells old.group bound (Extends-adds a) from.place p);
  linear = KeepsShapes-adds a tt;
}

pub SumsPlain-add : {old new : NetView} {node : Node} {width : ℕ} (a b : Node) → Adds old new node width (Add a b) → SumsPlain old new a b
SumsPlain-add a b adds = record { shallow = λ s p q. IsShallow-adds adds s (p, q); linear = KeepsShapes-adds adds tt }

pub SumsPlain-sub : {old new : NetView} {node : Node} {width : ℕ} (a b : Node) → Adds old new node width (Sub a b) → SumsPlain old new a b
SumsPlain-sub a b adds = record { shallow = λ s p q. IsShallow-adds adds s (p, q); linear = KeepsShapes-adds adds tt }

pub SumsPlain-swapped : {old new : NetView} {node : Node} {width : ℕ} (a b : Node) → Adds old new node width (Sub b a) → SumsPlain old new a b
SumsPlain-swapped a b adds = record { shallow = λ s p q. IsShallow-adds adds s (q, p); linear = KeepsShapes-adds adds tt }

-- a shifted term, taken from 0
pub KeepsShallow-negated : {old mid zeroed new : NetView} {held zero_node root : Node} {width wide : ℕ} {v : _} (term : Node) → Grows old mid → PassesPlain old mid term held → Grows mid zeroed → Adds mid zeroed zero_node width (Constant v) → Adds zeroed new root wide (Sub zero_node held)
    → KeepsShallow old new term
KeepsShallow-negated {old} {mid} {zeroed} {new} {held} {zero_node} term g p gz z a = record {
  shallow = λ s plain.
      let s1 : IsShallow mid.cells mid.group = subst (λ (k : ℕ). IsShallow mid.cells k) (sym g.group) (p.shallow s) in
      let s2 : IsShallow zeroed.cells zeroed.group = subst (λ (k : ℕ). IsShallow zeroed.cells k) (sym z.group) (one_shallow gz z refl s1) in
      let held_plain : IsPlain zeroed.cells zeroed.group held.place = subst (λ (k : ℕ). IsPlain zeroed.cells k held.place) (sym (z.group ∙ g.group)) (IsPlain-later mid.cells zeroed.cells old.group s1.bound (Extends-adds z) held.place (p.plain s.bound plain)) in
      let zero_plain : IsPlain zeroed.cells zeroed.group zero_node.place = begins zero_node.place _ (cell_of_added z) refl in
      subst (λ (k : ℕ). IsShallow new.cells k) (z.group ∙ g.group) (IsShallow-adds a s2 (zero_plain, held_plain));
}

pub KeepsShallow-passes : {old new : NetView} {from to : Node} → PassesPlain old new from to → KeepsShallow old new from
KeepsShallow-passes p = record { shallow = λ s plain. p.shallow s }

-- ---- leaves

pub HasPlainLeaves-later : (old new : List Cell) (group : ℕ) (leaves : List Leaf) → IsBound old → Extends old new → HasPlainLeaves old group leaves → HasPlainLeaves new group leaves
HasPlainLeaves-later old new group leaves bound e h = record { each = λ k leaf is. IsPlain-later old new group bound e leaf.node.place (h.each k leaf is) }

pub ArePlain-later : (old new : List Cell) (group : ℕ) (nodes : List Node) → IsBound old → Extends old new → ArePlain old group nodes → ArePlain new group nodes
ArePlain-later old new group nodes bound e h = record { each = λ k node is. IsPlain-later old new group bound e node.place (h.each k node is) }

taken_at : {A : Type 0} (n : ℕ) (xs : List A) (k : ℕ) (x : A) → slice_get (take n xs) k ≡ Some x → slice_get xs k ≡ Some x
taken_at zero xs k x e = absurd (cc)
taken_at (suc n) [] k x e = e
taken_at (suc n) (y ∷ xs) zero x e = e
taken_at (suc n) (y ∷ xs) (suc k) x e = taken_at n xs k x e

dropped_at : {A : Type 0} (n : ℕ) (xs : List A) (k : ℕ) (x : A) → slice_get (drop n xs) k ≡ Some x → (j : ℕ) × (slice_get xs j ≡ Some x)
dropped_at zero xs k x e = (k, e)
dropped_at (suc n) [] k x e = absurd (cc)
dropped_at (suc n) (y ∷ xs) k x e = let d = dropped_at n xs k x e in (suc d.0, d.1)

pub HasPlainLeaves-segment : (cells : List Cell) (group level j : ℕ) (leaves : List Leaf) → HasPlainLeaves cells group leaves → HasPlainLeaves cells group (segment level j leaves)
HasPlainLeaves-segment cells group level j leaves h = record {
  each = λ k leaf is. let d = dropped_at _ leaves k leaf (taken_at _ (drop _ leaves) k leaf is) in h.each d.0 leaf d.1;
}
