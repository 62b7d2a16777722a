use Rattle.net_outputs.proofs.RegisterLemmas.{output_free, AddsOutputRegister-taken}
use Rattle.net_outputs.proofs.register.output_register.Goals as goal

pub taking_register-requires-clause-free : goal.taking_register-requires-clause-free
taking_register-requires-clause-free c = output_free {from = c.args.from} c.in_ok-node.ensures.ok c.in_ok-gate.ensures.ok c.requires.free

pub returns : goal.returns
returns c =
    record { ok = AddsOutputRegister-taken {from = c.args.from} c.in_ok-node.ensures.ok c.in_ok-gate.ensures.ok c.in_ok-register.ensures.ok c.args.range.lo c.args.range.hi c.requires.positive c.range_width-width.ensures }
