use Rattle.std.proofs.Common.{refl, arith}
use Rattle.mr_values.proofs.FilesByName.{sets_name, distinct-set}
use Rattle.mr_values.proofs.FilesRead.{ends_in-raised, files_of-same}
use Rattle.mr_values.proofs.named_file.count_end.Goals as goal

pub returns-then-ended-clause-distinct : goal.returns-then-ended-clause-distinct
returns-then-ended-clause-distinct c = distinct-set _ _ _ _ c.requires.within c.index_mut-file.ensures.value refl c.requires.distinct

pub returns-then-ended-clause-names : goal.returns-then-ended-clause-names
returns-then-ended-clause-names c = sets_name _ _ _ _ c.requires.within c.index_mut-file.ensures.value refl

pub returns-then-ended-clause-files : goal.returns-then-ended-clause-files
returns-then-ended-clause-files c = files_of-same _ _ _ _ c.requires.within c.index_mut-file.ensures.value refl

pub returns-then-ended-clause-raised : goal.returns-then-ended-clause-raised
returns-then-ended-clause-raised c = λ ended. ends_in-raised _ _ _ _ c.requires.within c.index_mut-file.ensures.value refl (omega (arith, c.saturating_add-file.ensures), omega (arith, c.saturating_add-file.ensures))
