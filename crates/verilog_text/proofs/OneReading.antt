-- One text reads as at most one module.
use Rattle.std.proofs.Common.{◌≡◌, ℕ, false, List, [], ◌∷◌, refl, sym, ap, ◌∙◌, subst}
use Rattle.std.specs.Prelude.{map}
use Rattle.verilog_tree.specs.Tree.{Design}
use Rattle.verilog_tree.specs.Renaming.{number_in}
use Rattle.verilog_text.specs.declared.token.Token.{Token}
use Rattle.verilog_text.specs.Grammar.{limits}
use Rattle.verilog_text.specs.Text.{Text, tokens_of, clock_text}
use Rattle.verilog_text.specs.TextMachine.{Draft}
use Rattle.verilog_text.specs.Lexer.{Placed}
use Rattle.verilog_text.specs.Names.{names_behind, Inside, lexemes_of}
use Rattle.verilog_text.specs.Reading.{declared_places, with_places, design_of, Reads}
use Rattle.verilog_text.proofs.TextSteps.{one_draft}
use Rattle.verilog_text.proofs.Unique.{scans_unique}

pub map_inverse : (xs ys : List Token) → map Inside xs ≡ map Inside ys → xs ≡ ys
map_inverse [] [] e = refl
map_inverse [] (y ∷ ys) e = cc
map_inverse (x ∷ xs) [] e = cc
map_inverse (x ∷ xs) (y ∷ ys) e =
    let head : x ≡ y = cc in
    let tail : map Inside xs ≡ map Inside ys = cc in
    let rest = map_inverse xs ys tail in
    cc

-- a module from what the machine has read of it
abbrev design_from : List (List ℕ) → List ℕ → Draft → Design
design_from names places d = record { name = d.name; names = names; signals = with_places places d.signals; assigns = d.assigns; blocks = d.blocks }

abbrev ReadsAs : List Placed → Text → Design → Type 0
ReadsAs pieces t d = (lexemes_of pieces ≡ map Inside (tokens_of (number_in (names_behind [] pieces) clock_text) t)) × (d ≡ design_of (names_behind [] pieces) (declared_places false pieces) t)

pub one_design : (bytes : List ℕ) (d e : Design) → Reads bytes d → Reads bytes e → d ≡ e
one_design bytes d e x y =
    let pieces : y.pieces ≡ x.pieces = scans_unique 0 bytes y.pieces x.pieces y.scans x.scans in
    let z : ReadsAs x.pieces y.text e = subst (λ ps. ReadsAs ps y.text e) pieces (y.tokens_are, y.design_is) in
    let names : List (List ℕ) = names_behind [] x.pieces in
    let places : List ℕ = declared_places false x.pieces in
    let clock : ℕ = number_in names clock_text in
    let tokens = map_inverse (tokens_of clock x.text) (tokens_of clock y.text) (sym x.tokens_are ∙ z.0) in
    let drafts = one_draft limits clock x.text y.text x.in_limits y.in_limits tokens in
    x.design_is ∙ ap (design_from names places) drafts ∙ sym z.1
