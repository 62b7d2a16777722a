-- A chain of selections has the value of the node whose bit alone is set.
use Rattle.std.proofs.Common.{◌≡◌, ℕ, zero, suc, ◌+◌, ◌*◌, ◌%◌, ◌<◌, ◌≤◌, List, length, refl, sym, ◌∙◌, ap, arith, Some, slice_get, inl, inr, subst, ℤ, pos, Bool, true, false}
use Rattle.std.proofs.lemmas.Bool.{cases_eq, cases_lt}
use Rattle.std.proofs.lemmas.Option.{slice_get_within}
use Rattle.std.proofs.Math.Nat.{mul-le-mul_right}
use native.Mathlib.Nat.{mod-lt}
use Rattle.mr_values.specs.Width.{set_bit, chosen, wrap}
use Rattle.mr_values.proofs.WidthLemmas.{wrap_zero, FitsWidth-zero}
use Rattle.net_graph.specs.declared.cell.Cell.{Cell}
use Rattle.net_graph.specs.declared.cell.Node.{Node}
use Rattle.net_graph.specs.declared.cell.Item.TheVariants.{Constant, Mux}
use Rattle.net_graph.specs.Cells.{NetView, cell_at}
use Rattle.net_graph.specs.Cut.{Cut, IsCut}
use Rattle.net_graph.specs.Run.{Values, IsRun}
use Rattle.net_graph.specs.Grow.{Extends, Grows, Adds}
use Rattle.net_graph.proofs.CellLemmas.{cell_at-is}
use Rattle.net_graph.proofs.GroupLemmas.{nameless_data}
use Rattle.net_graph.proofs.NetLemmas.{cell_of_added}
use Rattle.net_graph.proofs.GrowLemmas.{Grows-refl, Grows-trans, Grows-data, IsOfControl-later}
use Rattle.pipeline_balance.specs.Phase.{IsPhases, IsOnlySet, IsNarrow, IsSelection, IsSelectionOrZero}
use Rattle.pipeline_balance.proofs.CostLemmas.{SameAdders-refl, SameAdders-trans, SameAdders-plain, SameNamed-refl, SameNamed-trans, SameNamed-adds}
use Rattle.pipeline_balance.proofs.NumberedLemmas.{width-later, free_adds, LeavesFree-refl}
use Rattle.pipeline_balance.proofs.ShapeLemmas.{KeepsShapes-refl, KeepsShapes-trans, KeepsShapes-adds}
use Rattle.pipeline_balance.proofs.TakenLemmas.{chosen_kept, node_kept}

pub IsNarrow-later : (old new : List Cell) (width : ℕ) (node : Node) → IsNarrow old width node → Extends old new → IsNarrow new width node
IsNarrow-later old new width node n e =
    let same = width-later old new node.place e n.within in
    record {
      within = let l = e.longer in let w = n.within in omega arith;
      some = let s = n.some in omega arith;
      most = let m = n.most in omega arith;
    }

-- a data node of the width keeps the value of a node that is not wider
narrow_kept : (cut : Cut) → IsCut cut → (cells : List Cell) (x : ℕ → ℤ) (v : Values) → IsRun cut cells x v → (width : ℕ) (node : Node) → IsNarrow cells width node → (t : ℕ) → cut false width (v t node.place) ≡ v t node.place
narrow_kept cut law cells x v r width node n t = node_kept cut law cells x v r node.place (cell_at cells node.place).width width n.within refl n.some n.most t

-- the first node alone
pub IsSelection-first : (net : NetView) (bits nodes : List Node) (width : ℕ) (node : Node) → slice_get nodes 0 ≡ Some node → IsNarrow net.cells width node → IsSelection net net bits nodes 1 width node
IsSelection-first net bits nodes width node first narrow = record {
  grows = Grows-refl net;
  narrow = narrow;
  selects = λ cut law x v r t phase less only found is. one v t phase less found is;
  names = LeavesFree-refl net.cells (λ name. ⊥);
  adders = SameAdders-refl net.cells;
  named = SameNamed-refl net.cells;
  linear = λ control. KeepsShapes-refl net.cells;
}
  where
    one : (v : Values) (t phase : ℕ) → phase < 1 → (found : Node) → slice_get nodes phase ≡ Some found → v t node.place ≡ v t found.place
    one v t zero less found is = let same : Some node ≡ Some found = sym first ∙ is in let nodes_same : node ≡ found = cc in ap (λ (n : Node). v t n.place) nodes_same
    one v t (suc phase) less found is = absurd (omega arith)

-- the selection over one node more chooses
choice_more : {b c : NetView} {width : ℕ} {bit node last to : Node} → 1 ≤ b.group → IsNarrow b.cells width node → IsNarrow b.cells width last → Adds b c to width (Mux bit node last)
    → (cut : Cut) → IsCut cut → (x : ℕ → ℤ) (v : Values) → IsRun cut b.cells x v → IsRun cut c.cells x v → (t : ℕ) → v t to.place ≡ chosen (v t bit.place) (v t node.place) (v t last.place)
choice_more {b} {c} {width} {bit} {node} {last} {to} own_group narrow narrow_last m cut law x v rb r t =
    let kept = chosen_kept (cut false width) (v t bit.place) (v t node.place) (v t last.place) (narrow_kept cut law b.cells x v rb width node narrow t) (narrow_kept cut law b.cells x v rb width last narrow_last t) in
    r.each to.place _ (cell_of_added m) t ∙ ap (λ (d : Bool). cut d width (chosen (v t bit.place) (v t node.place) (v t last.place))) (nameless_data b.group true own_group) ∙ kept

-- one node more
pub IsSelection-more : {a b c : NetView} {bits nodes : List Node} {count width : ℕ} {last to : Node} (bit node : Node) → 1 ≤ width → 1 ≤ a.group → IsSelection a b bits nodes count width last → slice_get bits count ≡ Some bit → slice_get nodes count ≡ Some node → IsNarrow a.cells width node → Adds b c to width (Mux bit node last) → IsSelection a c bits nodes (suc count) width to
IsSelection-more {a} {b} {c} {bits} {nodes} {count} {width} {last} {to} bit node wide data_group p at_bit at_node narrow m =
    let there = cell_of_added m in
    let own_group : 1 ≤ b.group = subst (λ (g : ℕ). 1 ≤ g) (sym p.grows.group) data_group in
    let more : Grows b c = Grows-data own_group m refl in
    let own_width : (cell_at c.cells to.place).width ≡ width = ap (λ (cell : Cell). cell.width) (cell_at-is c.cells to.place _ there) in
    record {
      grows = Grows-trans p.grows more;
      narrow = record { within = slice_get_within c.cells to.place _ there; some = omega arith; most = omega arith };
      selects = λ cut law x v r t phase less only found is.
          let rb = more.extends.runs cut law x v r in
          let mux = choice_more own_group (IsNarrow-later a.cells b.cells width node narrow p.grows.extends) p.narrow m cut law x v rb r t in
          elim (cases_eq phase count) [
            | inl e ↦
                let at_found : slice_get nodes count ≡ Some found = subst (λ (n : ℕ). slice_get nodes n ≡ Some found) e is in
                let same : Some node ≡ Some found = sym at_node ∙ at_found in
                let nodes_same : node ≡ found = cc in
                let set : v t bit.place ≡ set_bit = only.sets bit (subst (λ (n : ℕ). slice_get bits n ≡ Some bit) (sym e) at_bit) in
                mux ∙ ap (λ (z : ℤ). chosen z (v t node.place) (v t last.place)) set ∙ ap (λ (n : Node). v t n.place) nodes_same
            | inr ne ↦
                let clear : v t bit.place ≡ pos 0 = only.clears count bit (λ e. ne (sym e)) at_bit in
                mux ∙ ap (λ (z : ℤ). chosen z (v t node.place) (v t last.place)) clear ∙ p.selects cut law x v rb t phase (omega arith) only found is
          ];
      names = record { free = λ name other f. free_adds m name (p.names.free name other f) };
      adders = SameAdders-trans p.adders (SameAdders-plain m refl);
      named = SameNamed-trans p.named (SameNamed-adds m);
      linear = λ control. KeepsShapes-trans (p.linear control) (KeepsShapes-adds m (IsOfControl-later a.cells b.cells bit.place p.grows.extends (control count bit at_bit)));
    }

-- ---- 0 where no bit is set

pub IsSelectionOrZero-none : {old new : NetView} {width : ℕ} {to : Node} (bits nodes : List Node) → 1 ≤ old.group → 1 ≤ width → Adds old new to width (Constant (wrap width (pos 0))) → IsSelectionOrZero old new bits nodes 0 width to
IsSelectionOrZero-none {old} {new} {width} {to} bits nodes data_group wide a =
    let there = cell_of_added a in
    let own_width : (cell_at new.cells to.place).width ≡ width = ap (λ (cell : Cell). cell.width) (cell_at-is new.cells to.place _ there) in
    record {
      selection = record {
        grows = Grows-data data_group a refl;
        narrow = record { within = slice_get_within new.cells to.place _ there; some = omega arith; most = omega arith };
        selects = λ cut law x v r t phase less. absurd (omega arith);
        names = record { free = λ name other f. free_adds a name f };
        adders = SameAdders-plain a refl;
        named = SameNamed-adds a;
        linear = λ control. KeepsShapes-adds a tt;
      };
      rests = λ cut law x v r t clear.
          r.each to.place _ there t ∙ ap (λ (d : Bool). cut d width (wrap width (pos 0))) (nameless_data old.group true data_group) ∙ ap (cut false width) (wrap_zero width wide) ∙ law.fitting false width (pos 0) wide (FitsWidth-zero width);
    }

pub IsSelectionOrZero-more : {a b c : NetView} {bits nodes : List Node} {count width : ℕ} {last to : Node} (bit node : Node) → 1 ≤ width → 1 ≤ a.group → IsSelectionOrZero a b bits nodes count width last → slice_get bits count ≡ Some bit → slice_get nodes count ≡ Some node → IsNarrow a.cells width node → Adds b c to width (Mux bit node last) → IsSelectionOrZero a c bits nodes (suc count) width to
IsSelectionOrZero-more {a} {b} {c} {bits} {nodes} {count} {width} {last} {to} bit node wide data_group p at_bit at_node narrow m =
    let s = p.selection in
    let own_group : 1 ≤ b.group = subst (λ (g : ℕ). 1 ≤ g) (sym s.grows.group) data_group in
    record {
      selection = IsSelection-more bit node wide data_group s at_bit at_node narrow m;
      rests = λ cut law x v r t clear.
          let rb = (Grows-data own_group m refl).extends.runs cut law x v r in
          let mux = choice_more own_group (IsNarrow-later a.cells b.cells width node narrow s.grows.extends) s.narrow m cut law x v rb r t in
          let off : v t bit.place ≡ pos 0 = clear count bit (omega arith) at_bit in
          mux ∙ ap (λ (z : ℤ). chosen z (v t node.place) (v t last.place)) off ∙ p.rests cut law x v rb t (λ phase other less is. clear phase other (omega arith) is);
    }

-- ---- by the bits of phases

same_number : (period first m n : ℕ) → 1 ≤ period → first + m * period ≡ first + n * period → m ≡ n
same_number period first m n positive e = elim (cases_lt m n) [
  | inl less ↦ let more : suc m * period ≤ n * period = mul-le-mul_right period less in absurd (omega arith)
  | inr le ↦ elim (cases_lt n m) [
    | inl less ↦ let more : suc n * period ≤ m * period = mul-le-mul_right period less in absurd (omega arith)
    | inr ge ↦ omega arith
  ]
]

-- at the tick of value n the bit of phase n modulo count alone is set
pub IsPhases-only : {a b : NetView} {period first count : ℕ} {bits : List Node} → 1 ≤ period → IsPhases a b period first count bits → (cut : Cut) → IsCut cut → (cells : List Cell) → Extends b.cells cells → (inputs : ℕ → ℤ) (values : Values) → IsRun cut cells inputs values → (n : ℕ) → IsOnlySet values bits (first + n * period) (n % count)
IsPhases-only {a} {b} {period} {first} {count} {bits} positive p cut law cells e x v r n =
    let rb = e.runs cut law x v r in
    record {
      sets = λ bit is. (p.each (n % count) bit is).sets cut law x v rb (first + n * period) (n, refl, refl);
      clears = λ other bit apart is. (p.each other bit is).clears cut law x v rb (first + n * period)
          (λ tick. apart (sym tick.2 ∙ ap (λ (k : ℕ). k % count) (sym (same_number period first n tick.0 positive tick.1))));
    }

-- at the tick of value n the selection has the value of node n modulo count
pub IsSelection-phases : {a b old new : NetView} {period first : ℕ} {bits nodes : List Node} {width : ℕ} {to : Node} → 1 ≤ period → 1 ≤ length nodes → IsPhases a b period first (length nodes) bits → Extends b.cells new.cells → IsSelection old new bits nodes (length nodes) width to
    → (cut : Cut) → IsCut cut → (inputs : ℕ → ℤ) (values : Values) → IsRun cut new.cells inputs values → (n : ℕ) (node : Node) → slice_get nodes (n % length nodes) ≡ Some node → values (first + n * period) to.place ≡ values (first + n * period) node.place
IsSelection-phases {a} {b} {old} {new} {period} {first} {bits} {nodes} {width} {to} positive some p e s cut law x v r n node is =
    s.selects cut law x v r (first + n * period) (n % length nodes) (mod-lt n some) (IsPhases-only positive p cut law new.cells e x v r n) node is
