use Rattle.std.proofs.Common.{◌≡◌, ℕ, ◌%◌, ◌^◌, true, ap, ◌∙◌}
use Rattle.std.proofs.lemmas.Int.{to_z-of_z}
use Rattle.mr_values.specs.Width.{pattern}
use Rattle.mr_values.proofs.WidthLemmas.{of_z-pattern, pattern_cut}
use mir.Val.{of_z}
use mir.Syntax.{w128}
use Rattle.verilog_tree.specs.Tree.{Based}
use Rattle.net_module.proofs.expression.literal.Goals as goal

-- the cast gives the bits of the number, and the lowest of them are its pattern
pub returns : goal.returns
returns c =
    let bits : c.cast_unsigned.result ≡ pattern 128 c.args.value = c.cast_unsigned.ensures ∙ ap (of_z w128) (to_z-of_z w128 c.args.value c.ranges.value) ∙ of_z-pattern c.args.value c.ranges.value in
    ap (Based c.args.width true) (c.low_bits-bits.ensures ∙ ap (λ (n : ℕ). n % 2 ^ c.args.width) bits ∙ pattern_cut c.args.width 128 c.args.value c.requires.1)
