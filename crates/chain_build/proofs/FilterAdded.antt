-- A filter that was added is the stage of its group.
use Rattle.std.proofs.Common.{◌≡◌, ℕ, ◌∙◌, subst, refl, true, List, ℤ, Option}
use Rattle.std.specs.Prelude.{unwrap_or}
use Rattle.mr_values.specs.declared.plan.Form.{Form}
use Rattle.mr_values.specs.Timing.{Fir, wide, taps_of, form_of}
use Rattle.net_graph.specs.declared.cell.Stream.{Stream}
use Rattle.net_graph.specs.Cells.{NetView}
use Rattle.plan_check.specs.Forms.{Flow, group_fits}
use Rattle.stage_law.specs.Facts.{StageFacts}
use Rattle.stage_law.specs.Streams.{Streams}
use Rattle.chain_build.specs.declared.groups.Added.{Added}
use Rattle.chain_build.specs.Added.{IsStageAdded, IsGroupAdded}
use Rattle.chain_build.specs.Forms.{fir_facts}
use Rattle.chain_build.proofs.FormFacts.{fir-kind}

pub filter_added : (u : Option ℕ) (f : Option (List ℤ × Form)) (d : Option ℕ) (flow : Flow) (streams : Streams) (old new : NetView) (from : Stream) (added : Added) (form : Form) (taps : List ℤ) (up down bits : ℕ)
    → form ≡ form_of f → taps ≡ taps_of f → up ≡ unwrap_or u 1 → down ≡ unwrap_or d 1 → bits ≡ wide flow.low flow.high → group_fits (Fir u f d) flow ≡ true
    → IsStageAdded (fir_facts form taps up down bits) streams old new from added → IsGroupAdded (Fir u f d) flow streams old new from added
filter_added u f d flow streams old new from added form taps up down bits form_is taps_is up_is down_is bits_is fits is =
    let facts : StageFacts = fir_facts (form_of f) (taps_of f) (unwrap_or u 1) (unwrap_or d 1) (wide flow.low flow.high) in
    let same : fir_facts form taps up down bits ≡ facts = λ i. fir_facts (form_is i) (taps_is i) (up_is i) (down_is i) (bits_is i) in
    let s : IsStageAdded facts streams old new from added = subst (λ (x : StageFacts). IsStageAdded x streams old new from added) same is in
    record {
      fits = fits;
      facts = facts;
      has_facts = refl;
      realises = s.realises;
      kind = s.kind ∙ fir-kind (form_of f) (taps_of f) (unwrap_or u 1) (unwrap_or d 1) (wide flow.low flow.high);
      adders = s.adders;
      windows = s.windows;
      tables = s.tables;
    }
