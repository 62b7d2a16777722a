use Rattle.std.proofs.Common.{◌≡◌, ◌≤◌, ◌<◌, ◌+◌, ◌*◌, ◌^◌, ◌-◌, Ok, length}
use Rattle.row_stream.specs.Giving.{Takes}
use Rattle.chain_run.specs.Stream.{GivesFrom, ticks_due, bytes_before}
use Rattle.chain_run.proofs.stream.ChainStreamRowStream.advance.Given as goal

abbrev pub invariant-rows : goal.invariant-rows
invariant-rows l = record {
  ends : Takes (GivesFrom l.initial.self) (GivesFrom l.self) l.piece l.initial.out.items (Ok l.taken) l.out.items;
  within : l.taken ≤ length l.piece;
  bytes : bytes_before l.initial.self + l.taken ≤ bytes_before l.self;
  bound : 0 < l.taken → bytes_before l.self ≤ 2 ^ 45;
  same : l.taken ≡ 0 → bytes_before l.self ≡ bytes_before l.initial.self;
  some : ticks_due l.self ≤ ticks_due l.initial.self + l.taken * 2 ^ 17;
  none : ticks_due l.self ≡ ticks_due l.initial.self + l.taken * 2 ^ 17 → l.taken ≡ 0;
  unchanged : ticks_due l.self ≡ ticks_due l.initial.self + l.taken * 2 ^ 17 → l.out.items ≡ l.initial.out.items;
  short : length l.out.items ≤ 65536;
}

abbrev pub decreases-rows : goal.decreases-rows
decreases-rows l = (length l.piece - l.taken) * 2 ^ 17 + ticks_due l.self
