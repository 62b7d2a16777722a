use Rattle.mr_values.proofs.HalfEvenLemmas.{floor_law, half_even_rises, near_law, tie_law, half_even_peak, half_even_zero}
use Rattle.mr_values.proofs.rounding.law_of_half_even.Goals as goal

pub returns-clause-floor : goal.returns-clause-floor
returns-clause-floor c = floor_law

pub returns-clause-rises : goal.returns-clause-rises
returns-clause-rises c = half_even_rises

pub returns-clause-near : goal.returns-clause-near
returns-clause-near c = near_law

pub returns-clause-tie : goal.returns-clause-tie
returns-clause-tie c = tie_law

pub returns-clause-peak : goal.returns-clause-peak
returns-clause-peak c = half_even_peak

pub returns-clause-zero : goal.returns-clause-zero
returns-clause-zero c = half_even_zero
