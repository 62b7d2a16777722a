use Rattle.net_outputs.proofs.ShownLemmas.{counter_nameless, valid_free, AddsShownBit-named}
use Rattle.net_outputs.proofs.shown.shown_bit.Goals as goal

pub name_node-requires-clause-nameless : goal.name_node-requires-clause-nameless
name_node-requires-clause-nameless c = counter_nameless c.in_ok-bit.ensures.ok

pub name_node-requires-clause-free : goal.name_node-requires-clause-free
name_node-requires-clause-free c = valid_free c.in_ok-bit.ensures.ok c.requires.free

pub returns : goal.returns
returns c = record { ok = AddsShownBit-named c.in_ok-bit.ensures.ok c.name_node.ensures }
