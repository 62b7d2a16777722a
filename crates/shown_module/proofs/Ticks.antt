-- What a written module shows, tick by tick.
use Rattle.std.proofs.Common.{◌≡◌, ℕ, zero, suc, Bool, true, false, List, [], ◌∷◌, ◌++◌, ℤ, pos, refl, sym, ◌∙◌, ap}
use Rattle.mr_values.specs.Width.{set_bit}
use Rattle.net_graph.specs.declared.cell.Cell.{Cell}
use Rattle.net_graph.specs.Cut.{cut_all}
use Rattle.net_graph.specs.Run.{Values as Worth}
use Rattle.net_graph.proofs.CutLemmas.{IsCut-all}
use Rattle.net_module.specs.Steps.{chosen_list, outputs_from, ticks_in, samples_of, width_in}
use Rattle.net_module.specs.Written.{output_place, valid_place, written_module}
use Rattle.net_module.proofs.Outputs.{shows_as}
use Rattle.shown_module.specs.Shown.{numbers_in, pair_if, shown_from, ShowsAt}
use Rattle.shown_module.specs.ShownNet.{IsShownNet}
use Rattle.shown_module.proofs.Each.{a_run, value_is}

false_true : false ≡ true → ⊥
false_true h = cc

module _ (worth : Worth) (valid output : ℕ) (shown : ℕ → Bool) (value : ℕ → ℤ) (sets : (t : ℕ) → shown t ≡ true → worth t valid ≡ set_bit) (clears : (t : ℕ) → (shown t ≡ true → ⊥) → worth t valid ≡ pos 0)
    (is : (t : ℕ) → shown t ≡ true → worth t output ≡ value t) where
  one : (t : ℕ) → chosen_list (worth t valid) (t, worth t output) ≡ pair_if (shown t) (t, value t)
  one t = by (shown t) refl
    where
      by : (b : Bool) → shown t ≡ b → chosen_list (worth t valid) (t, worth t output) ≡ pair_if (shown t) (t, value t)
      by true e =
          ap (λ (z : ℤ). chosen_list z (t, worth t output)) (sets t e) ∙ ap (λ (z : ℤ). (t, z) ∷ []) (is t e) ∙ ap (λ (b : Bool). pair_if b (t, value t)) (sym e)
      by false e = ap (λ (z : ℤ). chosen_list z (t, worth t output)) (clears t (λ on. false_true (sym e ∙ on))) ∙ ap (λ (b : Bool). pair_if b (t, value t)) (sym e)

  pub all_ticks : (count t : ℕ) → outputs_from worth valid output t count ≡ shown_from shown value t count
  all_ticks zero t = refl
  all_ticks (suc count) t =
      ap (λ (ps : List (ℕ × ℤ)). ps ++ outputs_from worth valid output (suc t) count) (one t) ∙ ap (λ (ps : List (ℕ × ℤ)). pair_if (shown t) (t, value t) ++ ps) (all_ticks count (suc t))

pub shows_at : {width : ℕ} {shown : ℕ → Bool} {value : List ℤ → ℕ → ℤ} {cells : List Cell} → IsShownNet width shown value cells → ShowsAt width shown value (written_module cells)
shows_at {width} {shown} {value} {cells} net = record {
  shows = λ content before after reset settled r.
      let run = a_run net content before after reset settled r in
      (shows_as cells net.netlist net.writable).shows content before after reset settled (record { run = r.run; is_reset = r.is_reset; none = r.none; fit = r.fit }) run.0 run.1
      ∙ all_ticks run.0 (valid_place cells) (output_place cells) shown (value (numbers_in width after))
      (net.valid.sets cut_all IsCut-all (samples_of (width_in cells) after) run.0 run.1) (net.valid.clears cut_all IsCut-all (samples_of (width_in cells) after) run.0 run.1)
      (value_is net content before after reset settled r run.0 run.1) (ticks_in after) 0;
}
