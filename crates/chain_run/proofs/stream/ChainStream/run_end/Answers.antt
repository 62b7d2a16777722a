use Rattle.std.proofs.Common.{◌≡◌, ◌≤◌, ℕ, [], max, sym, subst}
use Rattle.sample_file.specs.Reading.{rows_from, no_rows}
use Rattle.chain_run.specs.Stream.{Midst}
use Rattle.chain_run.proofs.StreamSteps.{end-ticks, end-whole}
use Rattle.chain_run.proofs.TickSteps.{tick-most}
use Rattle.chain_run.proofs.stream.ChainStream.run_end.Goals as goal

pub returns-then-self-end-clause-ends : goal.returns-then-self-end-clause-ends
returns-then-self-end-clause-ends c =
    let s = c.self.inside in
    let ticks = c.in_ok-self-inside.field-0 in
    let ends = c.in_ok-self-inside.ensures.ends in
    let closed : rows_from s.lines [] ≡ no_rows = subst (λ (m : Midst). rows_from m.place [] ≡ no_rows) (sym c.self.view_is) c.requires.closed.none in
    let most = subst (λ (end : ℕ). ticks ≤ max s.tick end) c.end_tick-end.ensures.value (tick-most s.tick c.end_tick-end.result ticks c.in_ok-self-inside.ensures.most c.in_ok-self-inside.ensures.past) in (
      ends.0,
      ends.1,
      end-ticks c.args.self.now s.sim.design s.sim.values s.timing s.lines s.samples s.tick c.self.view_is c.run_zeros.new.sim.design c.run_zeros.new.sim.values ticks ends.0 closed c.run_zeros.ensures.design ends.2
          c.in_ok-self-inside.ensures.least most,
    )

pub returns-clause-ends : goal.returns-clause-ends
returns-clause-ends c =
    let s = c.self.inside in
    let ticks = c.in_ok-self-inside.field-0 in
    let ends = c.in_ok-self-inside.ensures.ends in
    let closed : rows_from s.lines [] ≡ no_rows = subst (λ (m : Midst). rows_from m.place [] ≡ no_rows) (sym c.self.view_is) c.requires.closed.none in
    let most = subst (λ (end : ℕ). ticks ≤ max s.tick end) c.end_tick-end.ensures.value (tick-most s.tick c.end_tick-end.result ticks c.in_ok-self-inside.ensures.most c.in_ok-self-inside.ensures.past) in
    let over = subst (λ (end : ℕ). end ≤ ticks) c.end_tick-end.ensures.value c.if-self-end.false in (
      ends.0,
      ends.1,
      end-whole c.args.self.now s.sim.design s.sim.values s.timing s.lines s.samples s.tick c.self.view_is c.run_zeros.new.sim.design c.run_zeros.new.sim.values ticks ends.0 closed c.run_zeros.ensures.design ends.2
          c.in_ok-self-inside.ensures.least most over,
    )
