use Rattle.std.proofs.Common.{◌≡◌, ◌≤◌, ◌^◌, ◌%◌, ◌∙◌, ℕ, Bool, ap, arith, max}
use Rattle.std.specs.Prelude.{slice_index}
use Rattle.verilog_tree.specs.Meaning.{length_of, signed_of, value}
use Rattle.verilog_tree.specs.View.{tree_view}
use Rattle.verilog_tree.proofs.Parts.{fits_range}
use Rattle.verilog_tree.proofs.evaluation.assigned.Goals as goal

pub evaluate-requires-clause-wide : goal.evaluate-requires-clause-wide
evaluate-requires-clause-wide g c =
    let range = fits_range (g.D.Declarations.shapes c.args.declarations.now) (tree_view c.args.expr.now) c.requires.fits in
    omega (arith, range.most, c.length_in.ensures, c.max.ensures)

pub evaluate-requires-clause-limit : goal.evaluate-requires-clause-limit
evaluate-requires-clause-limit g c =
    let range = fits_range (g.D.Declarations.shapes c.args.declarations.now) (tree_view c.args.expr.now) c.requires.fits in
    omega (arith, range.most, c.requires.width.most, c.length_in.ensures, c.width_of-width.ensures, c.max.ensures)

pub returns-clause-value : goal.returns-clause-value
returns-clause-value g c =
    let shapes = g.D.Declarations.shapes c.args.declarations.now in
    let e = tree_view c.args.expr.now in
    let values = λ (n : ℕ). slice_index c.args.values.now n in
    let range = fits_range shapes e c.requires.fits in
    let own : c.max.result ≡ max (length_of shapes e) (shapes.width c.args.target) = omega (arith, range.most, c.length_in.ensures, c.width_of-width.ensures, c.max.ensures) in
    c.low_bits.ensures.value
    ∙ ap (λ (width : ℕ). c.evaluate.result % 2 ^ width) c.width_of-width.ensures
    ∙ ap (λ (x : ℕ). x % 2 ^ shapes.width c.args.target)
    (c.evaluate.ensures.value ∙ ap (λ (n : ℕ). value shapes e values n c.sign_in.result) own ∙ ap (λ (s : Bool). value shapes e values (max (length_of shapes e) (shapes.width c.args.target)) s) c.sign_in.ensures)
