use Rattle.std.proofs.Common.{ℕ, Bool, not, ◌&&◌, find, ap, ◌∙◌}
use Rattle.std.specs.Option.{option_map}
use Rattle.std.proofs.Math.Path.{fun_ext}
use Rattle.verilog_tree.specs.declared.tree.Signal.{Signal}
use Rattle.verilog_tree.specs.Checks.{needs_driver}
use Rattle.verilog_check.proofs.signal_checks.first_undriven.Goals as goal

pub returns : goal.returns
returns c =
    c.first_outside.ensures
    ∙ ap (λ (driven : ℕ → Bool). option_map (λ (s : Signal). s.name) (find (λ (s : Signal). needs_driver s.kind && not (driven s.name)) c.args.ordered.now)) (fun_ext c.in_ok-driven.ensures)
