-- Past the names of the head each name of a written module is that of a node.
use Rattle.std.proofs.Common.{◌≡◌, ℕ, zero, suc, ◌+◌, Bool, true, false, List, [], ◌∷◌, Some, slice_get, refl, sym, ◌∙◌, ap, arith}
use Rattle.std.proofs.lemmas.Option.{slice_get_within}
use Rattle.net_graph.specs.declared.cell.Cell.{Cell}
use Rattle.net_graph.specs.Name.{is_input}
use Rattle.net_module.specs.Written.{unless, own_number, number_after, number_in, node_text, node_texts}

-- the text at a place of the nodes' texts is that of a node, which is not the input, and its number that of the node's name
pub record IsOfNode (cells : List Cell) (first p i : ℕ) (text : List ℕ) : Type 0 where
  pub place : ℕ
  pub cell : Cell
  pub there : slice_get cells place ≡ Some cell
  pub data_node : is_input cell.item ≡ false
  pub number : first + i ≡ number_in cells first place
  pub is_it : text ≡ node_text cell (p + place)

later_node : (x : Cell) (cells : List Cell) (first p i j : ℕ) (text : List ℕ) → first + i ≡ number_after (is_input x.item) first + j → IsOfNode cells (number_after (is_input x.item) first) (p + 1) j text → IsOfNode (x ∷ cells) first p i text
later_node x cells first p i j text count w =
    let there : p + 1 + w.place ≡ p + suc w.place = omega arith in
    record { place = suc w.place; cell = w.cell; there = w.there; data_node = w.data_node; number = count ∙ w.number; is_it = w.is_it ∙ ap (node_text w.cell) there }

pub named_from : (cells : List Cell) (first p i : ℕ) (text : List ℕ) → slice_get (node_texts cells p) i ≡ Some text → IsOfNode cells first p i text
named_from [] first p i text at = absurd (omega (arith, slice_get_within {A = List ℕ} [] i text at))
named_from (x ∷ cells) first p i text at = by (is_input x.item) refl (λ k later. named_from cells (number_after (is_input x.item) first) (p + 1) k text later) i at
  where
    one_text : (a b : List ℕ) → Some a ≡ Some b → a ≡ b
    one_text a b e = cc

    by : (b : Bool) → is_input x.item ≡ b → ((k : ℕ) → slice_get (node_texts cells (p + 1)) k ≡ Some text → IsOfNode cells (number_after (is_input x.item) first) (p + 1) k text)
        → (i : ℕ) → slice_get (unless b (node_text x p) (node_texts cells (p + 1))) i ≡ Some text → IsOfNode (x ∷ cells) first p i text
    by true e more i at = later_node x cells first p i i text (ap (λ (b : Bool). number_after b first + i) (sym e)) (more i at)
    by false e more (suc i) at =
        let next : first + suc i ≡ first + 1 + i = omega arith in
        later_node x cells first p (suc i) i text (next ∙ ap (λ (b : Bool). number_after b first + i) (sym e)) (more i at)
    by false e more zero at =
        let here : p ≡ p + 0 = omega arith in
        let own : first + 0 ≡ first = omega arith in
        record {
          place = 0;
          cell = x;
          there = refl;
          data_node = e;
          number = own ∙ ap (λ (b : Bool). own_number b first) (sym e);
          is_it = sym (one_text (node_text x p) text at) ∙ ap (node_text x) here;
        }
