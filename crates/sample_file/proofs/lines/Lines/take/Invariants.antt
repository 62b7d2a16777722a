use Rattle.std.proofs.Common.{◌≡◌, ◌≤◌, ◌<◌, ◌^◌, ◌+◌, ◌++◌, ℕ, List, length, drop, None}
use Rattle.sample_file.specs.Reading.{rows_from, most_before}
use Rattle.sample_file.proofs.lines.Lines.take.Given as goal

abbrev pub invariant-loop-index : goal.invariant-loop-index
invariant-loop-index l = record {
  rows : (rest : List ℕ) → rows_from l.initial.self (l.piece ++ rest) ≡ rows_from l.self (drop l.index l.piece ++ rest);
  fault : l.self.fault ≡ None;
  ended : l.initial.self.ended ≤ l.self.ended;
  few : l.self.ended < 2 ^ 32;
  bytes : most_before l.initial.self + l.index ≤ most_before l.self;
  bound : length l.self.begun ≤ 4097;
  fields : l.self.fields ≡ l.initial.self.fields;
}
