use Rattle.net_module.specs.Written.{written_module}
use Rattle.shown_module.proofs.Each.{shows_in_each}
use Rattle.shown_module.proofs.Ticks.{shows_at}
use Rattle.shown_module.proofs.Places.{each_kept, at_kept}
use Rattle.shown_module.proofs.law_of_shows.Goals as goal

pub returns-clause-each : goal.returns-clause-each
returns-clause-each c width shown value cells net d same = each_kept d (written_module cells) same width shown value (shows_in_each net)

pub returns-clause-at : goal.returns-clause-at
returns-clause-at c width shown value cells net d same = at_kept d (written_module cells) same width shown value (shows_at net)
