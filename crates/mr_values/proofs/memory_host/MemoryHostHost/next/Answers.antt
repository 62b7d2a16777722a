use Rattle.std.proofs.Common.{refl, ap, []}
use Rattle.std.specs.Option.{option_map_or}
use Rattle.mr_values.specs.NamedFiles.{name_in, name_at}
use Rattle.mr_values.proofs.FilesByName.{bytes_of-named}
use Rattle.mr_values.proofs.HostSteps.{is_struck, reads_piece, counts_none, counts_end}
use Rattle.mr_values.proofs.memory_host.MemoryHostHost.next.Goals as goal

pub returns-then-take_turn-clause-told : goal.returns-then-take_turn-clause-told
returns-then-take_turn-clause-told c = λ told.
    record { bytes = tt; place = tt; end = tt; struck = is_struck _ _ (rw c.take_turn.ensures.struck at c.strike.ensures.risen); input = tt; files = refl; output = refl; ends = counts_none _ _ refl }

pub returns-clause-count : goal.returns-clause-count
returns-clause-count c =
    let within = c.args.self.now.input_within _ c.unwrap-reading.ensures in
    let bytes = bytes_of-named _ _ _ within c.args.self.now.distinct c.index.ensures in
    let input = ap (λ i. option_map_or (λ reading. name_at c.args.self.now.files.items reading.file) i []) c.unwrap-reading.ensures in
    let place = ap (λ i. option_map_or (λ reading. reading.place) i 0) c.unwrap-reading.ensures in
    rw (input, place, bytes) (rw c.as_slice-bytes.ensures.value at c.piece_of-count.ensures.count)

pub returns-clause-told : goal.returns-clause-told
returns-clause-told c = λ told.
    let within = c.args.self.now.input_within _ c.unwrap-reading.ensures in
    let bytes = bytes_of-named _ _ _ within c.args.self.now.distinct c.index.ensures in
    let named = ap (λ i. option_map_or (λ reading. name_at c.args.self.now.files.items reading.file) i []) c.unwrap-reading.ensures in
    reads_piece _ _ (name_at c.args.self.now.files.items c.unwrap-reading.result.file) c.index.result.now.bytes.items _ c.unwrap-reading.result.place c.piece_of-count.result bytes
    named (ap (λ names. name_in names c.unwrap-reading.result.file) c.count_end.ensures.names)
    (ap (λ i. option_map_or (λ reading. reading.place) i 0) c.unwrap-reading.ensures) refl
    c.count_end.ensures.files (ap (λ names. option_map_or (λ at. name_in names at) c.args.self.now.output []) c.count_end.ensures.names) c.take_turn.ensures.struck
    (rw c.as_slice-bytes.ensures.value at c.piece_of-count.ensures.copied)
    (rw c.as_slice-bytes.ensures.value at c.piece_of-count.ensures.end)
    (counts_end _ _ _ _ _ _ named c.is_end.ensures c.count_end.ensures.raised c.count_end.ensures.unmoved)
