use Rattle.std.proofs.Common.{◌≡◌, ◌/◌, refl, ap, [], sym, ◌∙◌, append-nil, take, length, arith}
use Rattle.std.proofs.lemmas.List.{length-take-le}
use Rattle.std.specs.Option.{option_map_or}
use Rattle.std.specs.FinMap.{insert}
use Rattle.mr_values.specs.NamedFiles.{name_in, name_at, bytes_at, capacity_at}
use Rattle.mr_values.proofs.FilesByName.{bytes_of-name_at}
use Rattle.mr_values.proofs.HostSteps.{is_struck, is_spared, grows_by, grows_in_part, refused_part}
use Rattle.mr_values.proofs.memory_host.MemoryHostHost.put.Goals as goal

pub returns-then-take_turn-clause-half : goal.returns-then-take_turn-clause-half
returns-then-take_turn-clause-half c = λ failed.
    let within = c.args.self.now.output_within _ c.unwrap-at.ensures in
    let host = c.args.self.now in
    let named = ap (λ at. option_map_or (λ i. name_at host.files.items i) at []) c.unwrap-at.ensures in
    let room = ap (λ at. option_map_or (λ i. capacity_at host.files.items i) at 0) c.unwrap-at.ensures in
    let held = ap (λ at. option_map_or (λ i. length (bytes_at host.files.items i)) at 0) c.unwrap-at.ensures in
    let long : length (take (length c.args.piece.now / 2) c.args.piece.now) ≡ length c.args.piece.now / 2 = length-take-le _ c.args.piece.now (omega arith) in
    rw (room, held)
    (grows_in_part c.append.result _ _ _ _ (bytes_at host.files.items c.unwrap-at.result) (take (length c.args.piece.now / 2) c.args.piece.now) (capacity_at host.files.items c.unwrap-at.result) (length c.args.piece.now / 2) named (bytes_of-name_at _ _ within host.distinct) long
    c.append.ensures.ok c.append.ensures.err c.append.ensures.full)

pub returns-then-take_turn-clause-told : goal.returns-then-take_turn-clause-told
returns-then-take_turn-clause-told c = λ told.
    record {
      appended = tt;
      refused = refused_part _ _ _ _ c.args.piece.now _ _ (returns-then-take_turn-clause-half c refl);
      struck = is_struck _ _ (rw c.take_turn.ensures.struck at c.strike.ensures.risen);
      input = ap (λ names. option_map_or (λ reading. name_in names reading.file) c.args.self.now.input []) c.append.ensures.names;
      place = refl;
      ends = c.append.ensures.ends;
    }

pub returns-in-Err-clause-told : goal.returns-in-Err-clause-told
returns-in-Err-clause-told c = λ told.
    let within = c.args.self.now.output_within _ c.unwrap-at.ensures in
    record {
      appended = tt;
      refused = (0, grows_by _ _ _ _ _ _ (ap (λ at. option_map_or (λ i. name_at c.args.self.now.files.items i) at []) c.unwrap-at.ensures) (bytes_of-name_at _ _ within c.args.self.now.distinct) (c.in-Err.ensures.err ∙ ap (insert _ _) (sym (append-nil _))));
      struck = is_spared _ _ c.take_turn.ensures.struck;
      input = ap (λ names. option_map_or (λ reading. name_in names reading.file) c.args.self.now.input []) c.append-2.ensures.names;
      place = refl;
      ends = c.append-2.ensures.ends;
    }

pub returns-in-Ok-clause-told : goal.returns-in-Ok-clause-told
returns-in-Ok-clause-told c = λ told.
    let within = c.args.self.now.output_within _ c.unwrap-at.ensures in
    record {
      appended = (grows_by _ _ _ _ _ _ (ap (λ at. option_map_or (λ i. name_at c.args.self.now.files.items i) at []) c.unwrap-at.ensures) (bytes_of-name_at _ _ within c.args.self.now.distinct) c.in-Ok.ensures.ok, ap (λ names. option_map_or (λ at. name_in names at) c.args.self.now.output []) c.append-2.ensures.names);
      refused = tt;
      struck = is_spared _ _ c.take_turn.ensures.struck;
      input = ap (λ names. option_map_or (λ reading. name_in names reading.file) c.args.self.now.input []) c.append-2.ensures.names;
      place = refl;
      ends = c.append-2.ensures.ends;
    }
