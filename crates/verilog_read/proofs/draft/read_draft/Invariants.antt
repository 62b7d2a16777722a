use Rattle.std.proofs.Common.{◌≡◌, map, drop}
use Rattle.verilog_text.specs.TextMachine as machine
use Rattle.verilog_lex.specs.Lexed.{standing_view}
use Rattle.verilog_parse.specs.TextView.{text_state_view}
use Rattle.verilog_read.specs.Reader.{read_from, AreSmall}
use Rattle.verilog_read.proofs.draft.read_draft.Given as goal

abbrev pub invariant-loop-item : goal.invariant-loop-item
invariant-loop-item l = record {
  same : read_from l.clock l.end (text_state_view l.reader) (map standing_view (drop l.item-index l.items)) ≡ read_from l.clock l.end machine.start (map standing_view l.items);
  small : AreSmall (map standing_view (drop l.item-index l.items));
}
