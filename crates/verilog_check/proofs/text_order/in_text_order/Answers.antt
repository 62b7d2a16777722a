use Rattle.std.proofs.Common.{rules}
use Rattle.std.proofs.lemmas.List.Sorted.{answers_always, IsNonDecreasingBy-from_sort_by_key}
use Rattle.verilog_tree.specs.declared.tree.Signal.{Signal}
use Rattle.verilog_check.proofs.PlaceOrder.{sorted_is}
use Rattle.verilog_check.proofs.text_order.in_text_order.Goals as goal

pub returns : goal.returns
returns c =
    rw (← c.in_ok-ordered.ensures.items)
    (sorted_is c.in_ok-ordered.ordered.items _ (IsNonDecreasingBy-from_sort_by_key (λ (s : Signal). s.place) _ c.in_ok-sort_by_key.ensures.sorted (λ a r q k. search rules))
    (c.sort_by_key.ensures.stable (λ (s : Signal). s.place) (answers_always _ _ _ (λ f a r g h. search rules))))
