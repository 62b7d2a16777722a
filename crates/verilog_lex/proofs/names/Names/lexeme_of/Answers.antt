use Rattle.std.proofs.Common.{◌≡◌, List, ℕ, Some, ap, sym, subst, ◌∙◌}
use Rattle.verilog_text.specs.Lexer.{word_piece}
use Rattle.verilog_text.specs.Names.{with_piece, lexeme_in}
use Rattle.verilog_lex.specs.Known.{IsKnown}
use Rattle.verilog_lex.proofs.Naming.{known_names, known_lexeme_is}
use Rattle.verilog_lex.proofs.names.Names.lexeme_of.Goals as goal

pub add-requires-clause-new : goal.add-requires-clause-new
add-requires-clause-new c = subst (IsKnown c.args.self.now.names.items c.text_of-text.result.now) (sym c.in-None.ensures.value) (c.requires.knows c.text_of-text.result.now)

pub returns-in-Some-clause-names : goal.returns-in-Some-clause-names
returns-in-Some-clause-names c =
    let names : List (List ℕ) = c.args.self.now.names.items in
    let text : List ℕ = c.text_of-text.result.now in
    let h : IsKnown names text (Some c.in-Some.known.now) = subst (IsKnown names text) (sym c.in-Some.ensures.value) (c.requires.knows text) in
    subst (λ (t : List ℕ). names ≡ with_piece names (word_piece t)) c.text_of-text.ensures (sym (known_names names text c.in-Some.known.now h))

pub returns-in-Some-clause-lexeme : goal.returns-in-Some-clause-lexeme
returns-in-Some-clause-lexeme c =
    let names : List (List ℕ) = c.args.self.now.names.items in
    let text : List ℕ = c.text_of-text.result.now in
    let h : IsKnown names text (Some c.in-Some.known.now) = subst (IsKnown names text) (sym c.in-Some.ensures.value) (c.requires.knows text) in
    c.lexeme.ensures ∙ known_lexeme_is names text c.in-Some.known.now h ∙ ap (λ t. lexeme_in names (word_piece t)) c.text_of-text.ensures
