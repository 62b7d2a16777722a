-- A cycle that is run in a drawn order, from its parts.
use Rattle.std.proofs.Common.{◌≡◌, ℕ, zero, suc, ◌+◌, length, not, sym, ap, ◌∙◌, subst, arith}
use Rattle.std.specs.Prelude.{◌==◌}
use Rattle.draws.specs.Draw.{next_state}
use Rattle.verilog_tree.specs.declared.tree.Module.{Module}
use Rattle.verilog_tree.specs.Meaning.{Values}
use Rattle.verilog_tree.specs.Circuit.{IsSettling, with_inputs, next}
use Rattle.verilog_tree.specs.Cycle.{circuit_of}
use Rattle.verilog_tree.specs.Shown.{Cycle, inputs_of, ports_of}
use Rattle.verilog_tree.specs.View.{design_view}
use Rattle.event_order.specs.Drawn.{state_after, declared_names, update_count, state_after_cycle, last_evaluated}
use Rattle.order_sim.specs.declared.sim.Seen.{Seen}
use Rattle.order_sim.specs.Cycle.{RunsDrawn}
use Rattle.order_sim.proofs.Passing.{block_count}

draws_more : (state a b : ℕ) → state_after (state_after state a) b ≡ state_after state (a + b)
draws_more state a zero = ap (state_after state) (let e : a ≡ a + 0 = omega arith in e)
draws_more state a (suc b) = ap next_state (draws_more state a b) ∙ ap (state_after state) (let e : suc (a + b) ≡ a + suc b = omega arith in e)

-- the states of the draws, one after the other
pub draws_of_cycle : (m m1 : Module) (wires : Values) (state settled blocks between given last : ℕ) → m1 ≡ m → settled ≡ state_after state (length (circuit_of (design_view m1)).drivers)
    → blocks ≡ length m.blocks.items → between ≡ state_after settled blocks → given ≡ update_count (circuit_of (design_view m)) (declared_names (design_view m)) wires
    → last ≡ state_after between given → last ≡ state_after_cycle (circuit_of (design_view m)) (declared_names (design_view m)) wires state
draws_of_cycle m m1 wires state settled blocks between given last same is_settled is_blocks is_between is_given is_last =
    let n = length (circuit_of (design_view m)).drivers in
    let first : settled ≡ state_after state n = is_settled ∙ ap (λ (x : Module). state_after state (length (circuit_of (design_view x)).drivers)) same in
    let second : between ≡ state_after state (n + blocks) = is_between ∙ ap (λ (s : ℕ). state_after s blocks) first ∙ draws_more state n blocks in
    let third : last ≡ state_after state (n + blocks + given) = is_last ∙ ap (λ (s : ℕ). state_after s given) second ∙ draws_more state (n + blocks) given in
    third ∙ ap (λ (b : ℕ). state_after state (n + b + given)) (is_blocks ∙ sym (block_count m)) ∙ ap (λ (g : ℕ). state_after state (n + length (circuit_of (design_view m)).processes + g)) is_given

pub cycle_runs : (m m1 m2 : Module) (before set wires after : Values) (state new_state : ℕ) (cycle : Cycle) (seen : Seen) → m1 ≡ m → m2 ≡ m1
    → set ≡ with_inputs (inputs_of (ports_of (design_view m)) cycle) before → IsSettling (circuit_of (design_view m1)) set wires
    → seen.valid ≡ not (wires (ports_of (design_view m2)).out_valid == 0) → seen.out_data ≡ wires (ports_of (design_view m2)).out_data
    → seen.last ≡ last_evaluated (circuit_of (design_view m1)) state → ((name : ℕ) → after name ≡ next (circuit_of (design_view m2)) wires name)
    → new_state ≡ state_after_cycle (circuit_of (design_view m)) (declared_names (design_view m)) wires state
    → RunsDrawn (design_view m) before state cycle seen wires after new_state
cycle_runs m m1 m2 before set wires after state new_state cycle seen one two is_set settles valid out_data last steps draws = record {
  settling = subst (λ (v : Values). IsSettling (circuit_of (design_view m)) v wires) is_set (subst (λ (x : Module). IsSettling (circuit_of (design_view x)) set wires) one settles);
  valid = valid ∙ ap (λ (x : Module). not (wires (ports_of (design_view x)).out_valid == 0)) (two ∙ one);
  out_data = out_data ∙ ap (λ (x : Module). wires (ports_of (design_view x)).out_data) (two ∙ one);
  last = last ∙ ap (λ (x : Module). last_evaluated (circuit_of (design_view x)) state) one;
  next_values = λ name. steps name ∙ ap (λ (x : Module). next (circuit_of (design_view x)) wires name) (two ∙ one);
  next_state = draws;
}
