use Rattle.std.proofs.Common.{◌≡◌, ℕ, List, ◌++◌, sym, ap, ◌∙◌, subst, Vec, Global, Ok, Err}
use Rattle.std.specs.Prelude.{IfOk, Result}
use Rattle.verilog_tree.specs.View.{design_view}
use Rattle.verilog_tree.specs.Renaming.{number_in}
use Rattle.verilog_tree.specs.Tree.{Design}
use Rattle.verilog_text.specs.declared.token.Token.{Token}
use Rattle.verilog_text.specs.Grammar.{limits}
use Rattle.verilog_text.specs.Layout.{AreSpelled, laid_out, heading}
use Rattle.verilog_text.specs.Reading.{Reads}
use Rattle.verilog_text.specs.Shortest.{text_of}
use Rattle.verilog_text.specs.Text.{clock_text, tokens_of}
use Rattle.verilog_text.proofs.RoundTrip.{bytes_of, read_back, reads_back, alike_back, signals_back}
use Rattle.verilog_text.proofs.InOrder.{same_back}
use Rattle.verilog_text.proofs.Writable.{text_spelled}
use Rattle.verilog_write.proofs.text.text_of_tree.Goals as goal

pub bytes_of-requires : goal.bytes_of-requires
bytes_of-requires c =
    let d : Design = design_view c.args.tree.now in
    let tokens : c.deref-2.result.now ≡ tokens_of (number_in d.names clock_text) (text_of d) = c.deref-2.ensures.value ∙ c.in_ok-tokens.ensures in
    let names : c.deref.result.now ≡ d.names = c.deref.ensures.value in
    subst (λ (ns : List (List ℕ)). AreSpelled ns c.deref-2.result.now) (sym names) (subst (λ (ts : List Token). AreSpelled d.names ts) (sym tokens) (text_spelled limits d c.requires))

if_ok : {X E : Type 0} (r : Result X E) (P Q : X → Type 0) → ((x : X) → P x → Q x) → IfOk r P → IfOk r Q
if_ok (Ok x) P Q f h = f x h
if_ok (Err e) P Q f h = tt

-- the bytes are those of the tokens of the module's writing
module _ (d : Design) (names : List (List ℕ)) (tokens : List Token) (named : names ≡ d.names) (spelled : tokens ≡ tokens_of (number_in d.names clock_text) (text_of d)) where
  pub written : (bytes : List ℕ) → bytes ≡ heading ++ laid_out names tokens → bytes ≡ bytes_of d
  written bytes e = e ∙ ap (λ (ns : List (List ℕ)). heading ++ laid_out ns tokens) named ∙ ap (λ (ts : List Token). heading ++ laid_out d.names ts) spelled

pub returns-clause-reads : goal.returns-clause-reads
returns-clause-reads c =
    let d : Design = design_view c.args.tree.now in
    let tokens : c.deref-2.result.now ≡ tokens_of (number_in d.names clock_text) (text_of d) = c.deref-2.ensures.value ∙ c.in_ok-tokens.ensures in
    if_ok c.bytes_of.result _ _
    (λ (v : Vec ℕ Global) e. (read_back d, subst (λ (bytes : List ℕ). Reads bytes (read_back d)) (sym (written d c.deref.result.now c.deref-2.result.now c.deref.ensures.value tokens v.items e)) (reads_back d c.requires), alike_back d c.requires, signals_back d c.requires))
    c.bytes_of.ensures

pub returns-clause-same : goal.returns-clause-same
returns-clause-same c order =
    let d : Design = design_view c.args.tree.now in
    let tokens : c.deref-2.result.now ≡ tokens_of (number_in d.names clock_text) (text_of d) = c.deref-2.ensures.value ∙ c.in_ok-tokens.ensures in
    if_ok c.bytes_of.result _ _
    (λ (v : Vec ℕ Global) e. (read_back d, subst (λ (bytes : List ℕ). Reads bytes (read_back d)) (sym (written d c.deref.result.now c.deref-2.result.now c.deref.ensures.value tokens v.items e)) (reads_back d c.requires), same_back d c.requires order))
    c.bytes_of.ensures
