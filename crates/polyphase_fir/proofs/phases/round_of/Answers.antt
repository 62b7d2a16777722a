use Rattle.std.proofs.Common.{arith, inl, inr}
use Rattle.std.proofs.lemmas.Bool.{cases_lt}
use Rattle.std.proofs.Math.Nat.{mul-mod_right}
use Rattle.polyphase_fir.proofs.phases.round_of.Goals as goal

pub returns : goal.returns
returns c = record {
  some = c.requires.up;
  most = omega arith;
  whole = mul-mod_right c.args.rates.up c.args.rates.down;
  least = λ fewer some whole. elim (cases_lt fewer c.args.rates.up) [
    | inl less ↦ absurd (c.loop-count.invariant fewer some (omega arith) whole)
    | inr more ↦ more
  ];
}
