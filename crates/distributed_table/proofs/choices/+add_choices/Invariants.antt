use Rattle.std.proofs.Common.{◌-◌, length}
use Rattle.distributed_table.proofs.choices.+add_choices.Given as goal

abbrev pub decreases-add_choices : goal.decreases-add_choices
decreases-add_choices l = length l.taps.now - l.place
