-- The places of declarations change nothing that is shown.
use Rattle.std.proofs.Common.{ℕ, ◌+◌, Bool, not, List, length, map, drop, ℤ, ◌∙◌, ap}
use Rattle.std.specs.Prelude.{◌==◌}
use Rattle.verilog_tree.specs.Meaning.{Shapes}
use Rattle.verilog_tree.specs.Names.{shapes_of}
use Rattle.verilog_tree.specs.Shown.{Ports, ports_of, events_of, signed_value}
use Rattle.verilog_tree.specs.Tree.{Design}
use Rattle.verilog_text.specs.Order.{IsSameButPlaces}
use Rattle.module_laws.proofs.Places.{same_shapes, same_ports}
use Rattle.net_module.specs.Steps.{pair_of}
use Rattle.module_names.proofs.Places.{same_run}
use Rattle.shown_module.specs.Shown.{ShowsAt, ShowsInEach}

module _ (d e : Design) (same : IsSameButPlaces d e) (width : ℕ) (shown : ℕ → Bool) (value : List ℤ → ℕ → ℤ) where
  pub each_kept : ShowsInEach width shown value e → ShowsInEach width shown value d
  each_kept h = record {
    valid = λ content before after reset settled r j now at.
        ap (λ (p : Ports). not (now p.out_valid == 0)) (same_ports d e same) ∙ h.valid content before after reset settled (same_run d e same content before after reset settled r) j now at;
    carried = λ content before after reset settled r j now at is.
        ap (λ (s : Shapes). signed_value (s.signed (ports_of d).out_data) (s.width (ports_of d).out_data) (now (ports_of d).out_data)) (same_shapes d e same)
        ∙ ap (λ (p : Ports). signed_value ((shapes_of e).signed p.out_data) ((shapes_of e).width p.out_data) (now p.out_data)) (same_ports d e same)
        ∙ h.carried content before after reset settled (same_run d e same content before after reset settled r) j now at is;
  }

  pub at_kept : ShowsAt width shown value e → ShowsAt width shown value d
  at_kept h = record {
    shows = λ content before after reset settled r.
        ap (λ (s : Shapes). map pair_of (events_of s (ports_of d) after (drop (length before + 1) settled) (length before + 1) 0)) (same_shapes d e same)
        ∙ ap (λ (p : Ports). map pair_of (events_of (shapes_of e) p after (drop (length before + 1) settled) (length before + 1) 0)) (same_ports d e same)
        ∙ h.shows content before after reset settled (same_run d e same content before after reset settled r);
  }
