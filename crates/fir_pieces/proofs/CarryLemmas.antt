-- A node whose sum in the first phase is a filter's carries the filter and a Down.
use Rattle.std.proofs.Common.{◌≡◌, ℕ, ◌+◌, ◌*◌, ◌%◌, ◌≤◌, List, ◌∙◌, ap, arith, ℤ, pos, ◌-ℤ◌, ◌*ℤ◌}
use Rattle.std.proofs.lemmas.Int.{ints}
use Rattle.std.proofs.lemmas.Nat.{mod-mul-add}
use Rattle.mr_values.specs.Sequence.{Sequence, weighted_sum}
use Rattle.mr_values.proofs.Polyphase.{weighted_sum-same}
use Rattle.net_graph.specs.declared.cell.Cell.{Cell}
use Rattle.net_graph.specs.declared.cell.Node.{Node}
use Rattle.net_graph.specs.declared.cell.Stream.{Stream}
use Rattle.net_graph.specs.Cut.{Cut, IsCut}
use Rattle.net_graph.specs.Run.{Values, IsRun}
use Rattle.pipeline_balance.specs.Gate.{Carries}
use Rattle.stage_law.specs.Streams.{Streams}
use Rattle.fir_pieces.specs.Moment.{Moment, Forms, sum_at, HoldsForms}
use Rattle.fir_pieces.specs.Split.{split_pace}
use Rattle.fir_pieces.proofs.PaceLemmas.{split_is_pace}

pub forms_carry : {cells : List Cell} {from : Stream} {modulus : ℕ} {forms : Forms} {ticks : ℕ} {root : Node} (streams : Streams) → 1 ≤ from.period → 1 ≤ modulus → HoldsForms streams cells from (split_pace from modulus) forms ticks root
    → (taps : List ℤ) → ((f : ℕ → ℤ) → weighted_sum (forms 0) f ≡ weighted_sum taps f) → (down times : ℕ) → down ≡ times * modulus
    → (cut : Cut) → IsCut cut → (x : ℕ → ℤ) (values : Values) (v : Sequence) → streams v → IsRun cut cells x values → Carries values from v
    → (n : ℕ) → values (from.offset + 1 + ticks + n * (from.period * down)) root.place ≡ weighted_sum taps (λ i. v (pos n *ℤ pos down -ℤ pos i))
forms_carry {cells} {from} {modulus} {forms} {ticks} {root} streams positive some h taps same down times e cut law x values v is run carried n =
    let k = n * down in
    let whole : k ≡ n * times * modulus + 0 = ap (λ (d : ℕ). n * d) e ∙ omega arith in
    let in_class : k % modulus ≡ 0 = ap (λ (m : ℕ). m % modulus) whole ∙ mod-mul-add (n * times) modulus 0 some in
    let tick : from.offset + 1 + ticks + n * (from.period * down) ≡ from.offset + k * from.period + 1 + ticks = omega arith in
    let at : (i : ℕ) → pos k -ℤ pos i ≡ pos n *ℤ pos down -ℤ pos i = λ i. omega (arith, ints) in
    ap (λ (u : ℕ). values u root.place) tick ∙ h.late cut law x values v is run carried (from.offset + k * from.period + 1)
    ∙ ap (λ (m : Moment). sum_at forms m v) ((split_is_pace from modulus positive some).due 0 k some in_class)
    ∙ same (λ i. v (pos k -ℤ pos i)) ∙ weighted_sum-same taps (λ i. v (pos k -ℤ pos i)) (λ i. v (pos n *ℤ pos down -ℤ pos i)) (λ i. ap v (at i))
