use Rattle.std.proofs.Common.{◌≡◌, ◌∙◌, ◌*◌, ◌+◌, ◌-◌, ◌≤◌, ◌<◌, ◌^◌, ℕ, List, Ok, Option, None, length, sym, ap, subst, arith}
use Rattle.std.specs.Prelude.{OnSome}
use Rattle.sample_file.specs.declared.row.Row.{Row}
use Rattle.sample_file.specs.Reading.{row_then, no_rows}
use Rattle.chain_run.specs.Stream.{Midst, next_tick, ticks_left, one_where_begun}
use Rattle.chain_run.specs.Ticks.{end_tick}
use Rattle.chain_run.proofs.StreamSteps.{midst, end-run}
use Rattle.chain_run.proofs.TimingSteps.{left-falls}
use Rattle.chain_run.proofs.stream.ChainStream.close_row.Goals as goal

pub returns-in_ok-run_sample-clause-ends : goal.returns-in_ok-run_sample-clause-ends
returns-in_ok-run_sample-clause-ends c =
    let s = c.self.inside in
    let due : s.samples * s.timing.ticks ≤ s.tick = subst (λ (m : Midst). next_tick m ≤ m.tick) (sym c.self.view_is) c.requires.due in
    let ends = c.in_ok-run_sample.ensures.ends in (
      ends.0,
      ends.1,
      end-run c.args.self.now s.sim.design s.sim.values s.timing s.lines s.samples s.tick c.self.view_is due c.close.new.self c.in_ok-row.ensures.closed c.in-Some.row c.run_sample.new.sim.design c.run_sample.new.sim.values ends.0
          (c.in_ok-row.ensures.rows ∙ ap (λ (found : Option Row). row_then (Ok found) no_rows) c.in-Some.is) c.run_sample.ensures.design ends.2,
    )

abbrev falls : (c : goal.After-self-in-Some-1) → one_where_begun (length c.close.new.self.begun) * 2 ^ 50 + (end_tick c.self.inside.timing (c.self.inside.samples + 1) None - (c.self.inside.tick + 1)) < ticks_left c.args.self.now
falls c =
    let s = c.self.inside in
    let some : 0 < length s.lines.begun = subst (λ (found : Option Row). OnSome found (0 < length s.lines.begun)) c.in-Some.is c.in_ok-row.ensures.some in
    subst (λ (m : Midst). one_where_begun (length c.close.new.self.begun) * 2 ^ 50 + (end_tick s.timing (s.samples + 1) None - (s.tick + 1)) < ticks_left m) c.self.view_is
    (left-falls (midst s.sim.design s.sim.values s.timing s.lines s.samples s.tick) (one_where_begun (length c.close.new.self.begun)) s.timing (s.samples + 1) (s.tick + 1) c.self.invariant.timing
    (omega (arith, c.self.invariant.counted, c.self.invariant.few)) some (ap (λ (begun : List ℕ). one_where_begun (length begun)) c.in_ok-row.ensures.begun))

pub returns-in_ok-run_sample-clause-left : goal.returns-in_ok-run_sample-clause-left
returns-in_ok-run_sample-clause-left c =
    let s = c.self.inside in
    let less = falls c in
    let h : one_where_begun (length c.close.new.self.begun) * 2 ^ 50 + (end_tick s.timing (s.samples + 1) None - (s.tick + 1)) ≤ ticks_left c.args.self.now = omega (arith, less) in h

pub returns-in_ok-run_sample-clause-none : goal.returns-in_ok-run_sample-clause-none
returns-in_ok-run_sample-clause-none c = λ e.
    let s = c.self.inside in
    let same : one_where_begun (length c.close.new.self.begun) * 2 ^ 50 + (end_tick s.timing (s.samples + 1) None - (s.tick + 1)) ≡ ticks_left c.args.self.now = e in
    absurd (omega (arith, falls c, same))
