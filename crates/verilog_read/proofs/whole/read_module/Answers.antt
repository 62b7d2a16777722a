use Rattle.std.proofs.Common.{◌≡◌, List, ℕ, sym, ap, ◌∙◌, subst, map, length}
use Rattle.verilog_tree.specs.Renaming.{number_in}
use Rattle.verilog_text.specs.Text.{clock_text}
use Rattle.verilog_text.specs.TextMachine.{start}
use Rattle.verilog_text.specs.Reading.{Reads}
use Rattle.verilog_lex.specs.Lexed.{standing_view}
use Rattle.verilog_lex.specs.declared.lexeme.PlacedLexeme.{PlacedLexeme}
use Rattle.verilog_parse.specs.TextView.{draft_view}
use Rattle.verilog_read.specs.Reader.{AreSmall, read_from}
use Rattle.verilog_read.specs.Answer.{FailsAt}
use Rattle.verilog_read.proofs.Reading.{lexed_small, read_found, read_only}
use Rattle.verilog_read.proofs.Stopping.{stop_of, only_memory}
use Rattle.verilog_read.proofs.whole.read_module.Goals as goal

pub read_draft-requires : goal.read_draft-requires
read_draft-requires c = subst (λ (xs : List PlacedLexeme). AreSmall (map standing_view xs)) (sym c.as_slice-2.ensures.value) (lexed_small c.args.bytes.now c.in_ok-lexed.lexed.names.items c.in_ok-lexed.lexed.items.items c.in_ok-lexed.ensures)

pub returns-in-Err-clause-only : goal.returns-in-Err-clause-only
returns-in-Err-clause-only c = λ d x.
    let names : List (List ℕ) = c.in_ok-lexed.lexed.names.items in
    let clock : c.clock_number-clock.result ≡ number_in names clock_text = c.clock_number-clock.ensures ∙ ap (λ ns. number_in ns clock_text) c.as_slice.ensures.value in
    let h = c.in-Err.ensures in
    let r = read_only c.args.bytes.now names c.in_ok-lexed.lexed.items.items (length c.args.bytes.now) d c.in_ok-lexed.ensures x in
    only_memory c.in-Err.refusal _ r.0 h
    (ap (λ (xs : List PlacedLexeme). read_from c.clock_number-clock.result (length c.args.bytes.now) start (map standing_view xs)) c.as_slice-2.ensures.value
    ∙ ap (λ k. read_from k (length c.args.bytes.now) start (map standing_view c.in_ok-lexed.lexed.items.items)) clock
    ∙ r.1)

pub returns-in-Err-clause-refused : goal.returns-in-Err-clause-refused
returns-in-Err-clause-refused c =
    let names : List (List ℕ) = c.in_ok-lexed.lexed.names.items in
    let clock : c.clock_number-clock.result ≡ number_in names clock_text = c.clock_number-clock.ensures ∙ ap (λ ns. number_in ns clock_text) c.as_slice.ensures.value in
    stop_of c.args.bytes.now names c.in_ok-lexed.lexed.items.items c.in-Err.refusal c.in_ok-lexed.ensures
    (subst (FailsAt c.in-Err.refusal)
    (ap (λ (xs : List PlacedLexeme). read_from c.clock_number-clock.result (length c.args.bytes.now) start (map standing_view xs)) c.as_slice-2.ensures.value
    ∙ ap (λ k. read_from k (length c.args.bytes.now) start (map standing_view c.in_ok-lexed.lexed.items.items)) clock)
    c.in-Err.ensures)

pub returns-clause-found : goal.returns-clause-found
returns-clause-found c =
    let names : List (List ℕ) = c.in_ok-lexed.lexed.names.items in
    let clock : c.clock_number-clock.result ≡ number_in names clock_text = c.clock_number-clock.ensures ∙ ap (λ ns. number_in ns clock_text) c.as_slice.ensures.value in
    subst (Reads c.args.bytes.now) (sym c.in_ok-whole.ensures)
    (read_found c.args.bytes.now names c.in_ok-lexed.lexed.items.items (length c.args.bytes.now) (draft_view c.in-Ok.draft) c.in_ok-lexed.ensures
    (sym (ap (λ (xs : List PlacedLexeme). read_from c.clock_number-clock.result (length c.args.bytes.now) start (map standing_view xs)) c.as_slice-2.ensures.value
    ∙ ap (λ k. read_from k (length c.args.bytes.now) start (map standing_view c.in_ok-lexed.lexed.items.items)) clock)
    ∙ c.in-Ok.ensures))
