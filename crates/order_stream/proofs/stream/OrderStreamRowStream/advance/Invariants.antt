use Rattle.std.proofs.Common.{◌≡◌, ◌≤◌, ◌<◌, ◌+◌, ◌^◌, ◌-◌, Ok, length}
use Rattle.sample_file.specs.Reading.{most_before}
use Rattle.row_stream.specs.Giving.{Takes}
use Rattle.order_stream.specs.Stream.{GivesFrom}
use Rattle.order_stream.proofs.stream.OrderStreamRowStream.advance.Given as goal

abbrev pub invariant-rows : goal.invariant-rows
invariant-rows l = record {
  ends : Takes (GivesFrom l.initial.self) (GivesFrom l.self) l.piece l.initial.out.items (Ok l.taken) l.out.items;
  bytes : most_before l.initial.self.place + l.taken ≤ most_before l.self.place;
  bound : 0 < l.taken → most_before l.self.place ≤ 2 ^ 45;
  within : l.taken ≤ length l.piece;
  same : l.taken ≡ 0 → most_before l.self.place ≡ most_before l.initial.self.place;
  none : l.taken ≡ 0 → l.out.items ≡ l.initial.out.items;
  short : length l.initial.out.items ≤ 65536 → length l.out.items ≤ 65536;
}

abbrev pub decreases-rows : goal.decreases-rows
decreases-rows l = length l.piece - l.taken
