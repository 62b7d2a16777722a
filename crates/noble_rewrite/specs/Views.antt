-- A pair of the code as an exchange.
use Rattle.noble_rewrite.specs.declared.rules.Pair.{Pair}
use Rattle.noble_rewrite.specs.Rules.{Exchange}

abbrev pub as_exchange : Pair → Exchange
as_exchange pair = record { rule = pair.rule; first = pair.first; second = pair.second }
