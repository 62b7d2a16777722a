use Rattle.std.proofs.Common.{◌≡◌, ◌∙◌, ap, sym, subst, refl, arith, ℕ, suc, ◌+◌, ◌/◌}
use Rattle.pipeline_balance.specs.Tree.{count_to, level_count}
use Rattle.pipeline_balance.proofs.SegmentLemmas.{level_count-zero, level_count-suc}
use Rattle.distributed_table.proofs.totals.register_count.Goals as goal

pub loop-level-init : goal.loop-level-init
loop-level-init c = record {
  left = sym (level_count-zero c.args.leaves);
  total = refl;
  few = c.requires.few;
  most = omega arith;
}

pub loop-level-preserved : goal.loop-level-preserved
loop-level-preserved c =
    let i = c.loop-level.invariant in
    let level : ℕ = c.loop-level._level in
    let more : suc level ≡ level + 1 = omega arith in
    let left : (c.loop-level.left + 1) / 2 ≡ level_count c.args.leaves (suc level) = ap (λ (n : ℕ). (n + 1) / 2) i.left ∙ sym (level_count-suc c.args.leaves level) in
    let few = i.few in
    let most = i.most in
    record {
      left = left ∙ ap (level_count c.args.leaves) more;
      total = subst (λ (n : ℕ). c.loop-level.total + (c.loop-level.left + 1) / 2 ≡ count_to c.args.leaves n) more (omega (arith, i.total, left));
      few = omega arith;
      most = omega arith;
    }
