use Rattle.plan_check.proofs.GroupSplit.{limits-past_up, limits-past_filter, IsSplit-fir}
use Rattle.plan_check.proofs.group.split_fir.Goals as goal

pub take_down-down-requires : goal.take_down-down-requires
take_down-down-requires c =
    rw (c.take_filter.ensures.rest, c.take_up-up.ensures.rest) (limits-past_filter _ (limits-past_up _ c.requires.limits))

pub returns : goal.returns
returns c =
    rw (c.take_down-down.ensures.factor, c.take_down-down.ensures.rest, c.take_filter.ensures.filter, c.take_filter.ensures.rest, c.take_up-up.ensures.factor, c.take_up-up.ensures.rest)
    (IsSplit-fir _ c.requires.begins c.requires.limits)
