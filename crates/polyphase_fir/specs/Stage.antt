-- What a filter is as a stage.
use Rattle.stage_law.specs.Facts.{StageFacts}
use Rattle.polyphase_fir.specs.declared.polyphase.Polyphase.{Polyphase}
use Rattle.polyphase_fir.specs.Facts.{polyphase_facts}

abbrev pub facts_of : Polyphase → StageFacts
facts_of p = polyphase_facts p.taps.items p.rates.up p.rates.down
