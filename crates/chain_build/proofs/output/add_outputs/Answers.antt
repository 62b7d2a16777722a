use Rattle.chain_build.proofs.OutputLemmas.{valid_free, AddsOutputs-both}
use Rattle.chain_build.proofs.output.add_outputs.Goals as goal

pub shown_bit-requires-clause-free : goal.shown_bit-requires-clause-free
shown_bit-requires-clause-free c = valid_free c.in_ok-out_q.ensures.ok c.requires.can.free_valid

pub returns : goal.returns
returns c = record { ok = AddsOutputs-both {from = c.args.from} c.in_ok-out_q.ensures.ok c.in_ok-out_valid.ensures.ok }
