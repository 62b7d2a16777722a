-- The lists of a module that is being written, in memory.
use Rattle.net_module.specs.declared.write.Lists.{Lists}
use Rattle.net_module.specs.Loops.{Listed}

abbrev pub listed : Lists → Listed
listed lists = record { names = lists.names.items; signals = lists.signals.items; numbers = lists.numbers.items }
