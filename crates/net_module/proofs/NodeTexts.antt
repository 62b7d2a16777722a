-- The text of a node's name.
use Rattle.std.proofs.Common.{◌≡◌, ℕ, suc, ◌+◌, false, List, [], ◌++◌, Option, Some, slice_get, ◌∙◌, ap, arith}
use Rattle.std.specs.Option.{unwrap_or}
use Rattle.net_graph.specs.declared.cell.Cell.{Cell}
use Rattle.net_graph.specs.Name.{is_input}
use Rattle.verilog_tree.specs.Names.{text_of}
use Rattle.net_module.specs.Written.{written_module, number_of, head_texts, node_text, node_texts}
use Rattle.net_module.proofs.Passes.{text_at}

-- what stands behind the names of the head
past_head : (names : List (List ℕ)) (n i : ℕ) → n ≡ 7 + i → slice_get (head_texts ++ names) n ≡ slice_get names i
past_head names n i is =
    ap (slice_get (head_texts ++ names)) (let e : n ≡ suc (suc (suc (suc (suc (suc (suc i)))))) = omega (arith, is) in e)

pub node_text_of : (cells : List Cell) (place : ℕ) (cell : Cell) → slice_get cells place ≡ Some cell → is_input cell.item ≡ false → text_of (written_module cells) (number_of cells place) ≡ node_text cell place
node_text_of cells place cell at data_node =
    let there = text_at cells 7 0 place cell at data_node in
    ap (λ (o : Option (List ℕ)). unwrap_or o []) (past_head (node_texts cells 0) (number_of cells place) there.0 there.1 ∙ there.2)
    ∙ ap (node_text cell) (let e : 0 + place ≡ place = omega arith in e)
