use Rattle.mr_values.proofs.ClipLemmas.{clip_law, clip_fits, clip_rises, clip_small, clip_zero}
use Rattle.mr_values.proofs.rounding.law_of_clip.Goals as goal

pub returns-clause-cases : goal.returns-clause-cases
returns-clause-cases c = clip_law

pub returns-clause-fits : goal.returns-clause-fits
returns-clause-fits c = clip_fits

pub returns-clause-rises : goal.returns-clause-rises
returns-clause-rises c = clip_rises

pub returns-clause-small : goal.returns-clause-small
returns-clause-small c = clip_small

pub returns-clause-zero : goal.returns-clause-zero
returns-clause-zero c = clip_zero
