-- Where assignments are sorted by their levels, none reads what a later one drives.
use Rattle.std.proofs.Common.{◌≡◌, ◌∙◌, ℕ, ◌+◌, ◌<◌, ◌≤◌, Bool, true, false, ◌||◌, max, List, Some, length, get_or, slice_get, refl, sym, ap, arith, subst}
use Rattle.std.proofs.lemmas.Bool.{eqb-true}
use Rattle.std.proofs.lemmas.List.{length-map}
use Rattle.verilog_tree.specs.Tree.{Tree, Trees, Name, Bit, Part, Plain, Based, Cat, Not, Binary, Shift, Choice, none, more, Design}
use Rattle.verilog_tree.specs.Circuit.{Driver}
use Rattle.verilog_tree.specs.Cycle.{reads, any_reads, circuit_of, driver_of}
use Rattle.verilog_tree.specs.Names.{shapes_of}
use Rattle.verilog_tree.proofs.OneSettling.{assign_at}
use Rattle.settle_order.specs.Placing.{IsEvaluationOrder}
use Rattle.wire_levels.specs.Levels.{greatest, greatest_of, HasLevels, IsByLevel, AreByLevel}

below_either : (x a b : ℕ) (p q : Bool) → (p || q) ≡ true → (p ≡ true → x ≤ a) → (q ≡ true → x ≤ b) → x ≤ max a b
below_either x a b true q h f g = omega (arith, f refl)
below_either x a b false q h f g = omega (arith, g h)

-- a name that an expression reads has at most its greatest level
mutual
  reads_below : (level : ℕ → ℕ) (e : Tree) (n : ℕ) → reads e n ≡ true → level n ≤ greatest level e
  reads_below level (Name m) n r = omega (arith, ap level (eqb-true n m r))
  reads_below level (Bit m place) n r = omega (arith, ap level (eqb-true n m r))
  reads_below level (Part m high low) n r = omega (arith, ap level (eqb-true n m r))
  reads_below level (Plain x) n r = absurd (cc)
  reads_below level (Based width signed bits) n r = absurd (cc)
  reads_below level (Cat members) n r = any_below level members n r
  reads_below level (Not a) n r = reads_below level a n r
  reads_below level (Binary op a b) n r =
      below_either (level n) (greatest level a) (greatest level b) (reads a n) (reads b n) r (λ p. reads_below level a n p) (λ p. reads_below level b n p)
  reads_below level (Shift op a amount) n r = reads_below level a n r
  reads_below level (Choice c a b) n r =
      below_either (level n) (greatest level c) (max (greatest level a) (greatest level b)) (reads c n) (reads a n || reads b n) r (λ p. reads_below level c n p)
      (λ p. below_either (level n) (greatest level a) (greatest level b) (reads a n) (reads b n) p (λ q. reads_below level a n q) (λ q. reads_below level b n q))

  any_below : (level : ℕ → ℕ) (es : Trees) (n : ℕ) → any_reads es n ≡ true → level n ≤ greatest_of level es
  any_below level none n r = absurd (cc)
  any_below level (more first rest) n r =
      below_either (level n) (greatest level first) (greatest_of level rest) (reads first n) (any_reads rest n) r (λ p. reads_below level first n p) (λ p. any_below level rest n p)

false_unless : (b : Bool) → (b ≡ true → ⊥) → b ≡ false
false_unless true h = absurd (h refl)
false_unless false h = refl

pub by_level_evaluates : (d : Design) (order : List ℕ) → AreByLevel d order → IsEvaluationOrder (circuit_of d) order
by_level_evaluates d order (level, levels, is) = record {
  within = λ i x lt. subst (λ (n : ℕ). get_or order i x < n) (sym (length-map d.assigns (driver_of (shapes_of d)))) (is.within i x lt);
  once = is.once;
  covers = λ k e at. let a = assign_at d k e at in is.covers k a.0 a.1;
  later = λ i j k m x y le found also at_x at_y.
      let a = assign_at d k x at_x in
      let b = assign_at d m y at_y in
      false_unless (x.reads y.target) (λ given.
      let read : reads (a.0).value (b.0).target ≡ true =
      ap (λ (z : Driver). z.reads (b.0).target) a.2 ∙ ap (λ (z : Driver). x.reads z.target) b.2 ∙ given in
      omega (arith, reads_below level (a.0).value (b.0).target read, levels.wire k a.0 a.1, is.rises i j k m a.0 b.0 le found also a.1 b.1));
}
