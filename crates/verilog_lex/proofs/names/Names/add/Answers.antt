use Rattle.std.proofs.Common.{◌≡◌, List, ℕ, ap, sym, ◌∙◌}
use Rattle.verilog_tree.specs.Renaming.{number_in}
use Rattle.verilog_text.specs.declared.token.Token.TheVariants as token
use Rattle.verilog_text.specs.Lexer.{NameText, word_piece, looked_up, words}
use Rattle.verilog_text.specs.Names.{Inside, with_piece, lexeme_in}
use Rattle.verilog_lex.proofs.Naming.{name_piece, with_name-new, number_in-append-new}
use Rattle.verilog_lex.proofs.names.Names.add.Goals as goal

pub returns-in_ok-number-in-None-clause-names : goal.returns-in_ok-number-in-None-clause-names
returns-in_ok-number-in-None-clause-names c =
    let names : List (List ℕ) = c.args.self.now.names.items in
    let text : List ℕ = c.args.text.now in
    let is : word_piece text ≡ NameText text = name_piece text (c.in-None.ensures ∙ ap (looked_up words) c.as_bytes.ensures.value) in
    c.in_ok-number-in-None.ensures.names ∙ sym (with_name-new names text c.requires.new) ∙ sym (ap (with_piece names) is)

pub returns-in_ok-number-in-None-clause-lexeme : goal.returns-in_ok-number-in-None-clause-lexeme
returns-in_ok-number-in-None-clause-lexeme c =
    let names : List (List ℕ) = c.args.self.now.names.items in
    let text : List ℕ = c.args.text.now in
    let is : word_piece text ≡ NameText text = name_piece text (c.in-None.ensures ∙ ap (looked_up words) c.as_bytes.ensures.value) in
    ap (λ n. Inside (token.Name n)) (c.in_ok-number-in-None.ensures.number ∙ sym (number_in-append-new names text c.requires.new) ∙ ap (λ ns. number_in ns text) (sym c.in_ok-number-in-None.ensures.names))
    ∙ ap (lexeme_in c.add_name.new.self.names.items) (sym is)
