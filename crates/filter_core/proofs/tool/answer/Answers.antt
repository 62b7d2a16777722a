use Rattle.std.specs.Prelude.{◌≡◌, Option, Some, string_bytes}
use Rattle.std.proofs.Common.{sym, ap, subst, map, ◌∙◌, option_map}
use Rattle.filter_core.specs.Answers.{fault_of}
use Rattle.filter_core.specs.CommandWords.{CommandWords, words_of}
use Rattle.filter_core.specs.Tool.{IsReady}
use Rattle.filter_core.proofs.Apart.{are_apart}
use Rattle.filter_core.proofs.tool.answer.Goals as goal

pub run-requires : goal.run-requires
run-requires g c = are_apart (map string_bytes c.args.words.now) (words_of c.in-Some.command) (sym c.read_words.ensures ∙ ap (option_map words_of) c.in-Some.is)

same_words : (asked : Option CommandWords) (own other : CommandWords) → asked ≡ Some own → asked ≡ Some other → own ≡ other
same_words asked own other is e = cc

-- a command that wants memory alone ends with the tool's own want of memory
pub returns-in-Err-clause-complete : goal.returns-in-Err-clause-complete
returns-in-Err-clause-complete g c = λ command e told ready unstruck.
    let old = g.H.Host.state c.args.host.now in
    let own = same_words _ (words_of c.in-Some.command) command (sym c.read_words.ensures ∙ ap (option_map words_of) c.in-Some.is) e in
    let accepted = subst (λ (words : CommandWords). IsReady words old.files) (sym own) ready in
    c.from.ensures ∙ ap fault_of (c.in-Err.ensures.complete told accepted unstruck)
