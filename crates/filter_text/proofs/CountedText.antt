-- What the groups of a plan cost, counted in the module that is read.
use Rattle.std.proofs.Common.{◌≡◌, ℕ, suc, ◌+◌, ◌<◌, ◌≤◌, ◌^◌, Bool, cond, List, [], ◌∷◌, length, map, None, Some, refl, sym, ◌∙◌, ap, arith}
use Rattle.std.specs.Prelude.{◌&&◌, count_by, ℤ}
use Rattle.std.proofs.lemmas.List.Sums.{sum_by-cons}
use Rattle.mr_values.specs.declared.plan.Element.{Element}
use Rattle.mr_values.specs.declared.plan.Element.TheVariants.{Up, Down, Filter, CicDown, CicUp, Round, Clip}
use Rattle.mr_values.specs.declared.plan.Form.{Form}
use Rattle.mr_values.specs.Timing.{Group, Fir, DownCic, UpCic, Rounding, Clipping, join_up, join_filter, groups}
use Rattle.mr_values.specs.Value.{size}
use Rattle.net_graph.specs.declared.cell.Cell.{Cell}
use Rattle.net_graph.specs.WellFormed.{IsNetlist}
use Rattle.net_module.specs.Written.{written_module}
use Rattle.net_text.specs.Small.{AreSmall}
use Rattle.module_costs.specs.Counting.{CountsAs}
use Rattle.module_costs.proofs.Depths.{has_depth}
use Rattle.module_costs.proofs.Sums.{counts_as}
use Rattle.net_graph.specs.Depth.{IsShallow}
use Rattle.chain_build.specs.declared.groups.GroupCost.{GroupCost}
use Rattle.verilog_tree.specs.declared.tree.Signal.{Signal}
use Rattle.verilog_tree.specs.Tree.{Design}
use Rattle.verilog_tree.specs.Names.{text_of, is_window, is_table as is_table_name}
use Rattle.verilog_tree.specs.Counted.{Counts, counted, is_reg, is_wire, adders_of, in_group, HasDepth}
use Rattle.verilog_text.specs.Order.{IsSameButPlaces, unplaced}
use Rattle.chain_build.specs.GroupCosts.{AreCostsOf, HasCosts}
use Rattle.filter_text.specs.Headline.{AreCounted}
use Rattle.filter_text.specs.Written.{TellCosts}
use Rattle.filter_text.proofs.DepthText.{same_depth}

-- ---- places change no count

same_any : (test : Signal → Bool) → ((s : Signal) → test (unplaced s) ≡ test s) → (ss : List Signal) → count_by test (map unplaced ss) ≡ count_by test ss
same_any test same [] = refl
same_any test same (s ∷ ss) =
    sum_by-cons _ (unplaced s) (map unplaced ss) ∙ (λ i. cond (same s i) 1 0 + same_any test same ss i) ∙ sym (sum_by-cons _ s ss)

pub same_counts : (d e : Design) → IsSameButPlaces d e → (group : ℕ) → counted d group ≡ counted e group
same_counts d e same group i = record {
  adders = same_adders i;
  windows = same_windows i;
  tables = same_tables i;
}
  where
    same_adders : adders_of d (in_group d group) ≡ adders_of e (in_group e group)
    same_adders = rw (same.same_names, same.same_assigns, same.same_blocks) refl

    same_windows : count_by (λ s. is_reg s.kind && is_window group (text_of d s.name)) d.signals ≡ count_by (λ s. is_reg s.kind && is_window group (text_of e s.name)) e.signals
    same_windows =
        rw same.same_names (sym (same_any (λ s. is_reg s.kind && is_window group (text_of e s.name)) (λ s. refl) d.signals))
        ∙ ap (count_by (λ s. is_reg s.kind && is_window group (text_of e s.name))) same.same_signals ∙ same_any (λ s. is_reg s.kind && is_window group (text_of e s.name)) (λ s. refl) e.signals

    same_tables : count_by (λ s. is_wire s.kind && is_table_name group (text_of d s.name)) d.signals ≡ count_by (λ s. is_wire s.kind && is_table_name group (text_of e s.name)) e.signals
    same_tables =
        rw same.same_names (sym (same_any (λ s. is_wire s.kind && is_table_name group (text_of e s.name)) (λ s. refl) d.signals))
        ∙ ap (count_by (λ s. is_wire s.kind && is_table_name group (text_of e s.name))) same.same_signals ∙ same_any (λ s. is_wire s.kind && is_table_name group (text_of e s.name)) (λ s. refl) e.signals

-- ---- as many groups as elements at most

few_up : (factor : ℕ) (gs : List Group) → length (join_up factor gs) ≤ suc (length gs)
few_up factor [] = omega arith
few_up factor (Fir None f down ∷ gs) = omega arith
few_up factor (Fir (Some u) f down ∷ gs) = omega arith
few_up factor (DownCic other stages delay ∷ gs) = omega arith
few_up factor (UpCic other stages delay ∷ gs) = omega arith
few_up factor (Rounding shift mode ∷ gs) = omega arith
few_up factor (Clipping bits ∷ gs) = omega arith

few_filter : (taps : List ℤ) (form : Form) (gs : List Group) → length (join_filter taps form gs) ≤ suc (length gs)
few_filter taps form [] = omega arith
few_filter taps form (Fir None None down ∷ gs) = omega arith
few_filter taps form (Fir None (Some f) down ∷ gs) = omega arith
few_filter taps form (Fir (Some u) None down ∷ gs) = omega arith
few_filter taps form (Fir (Some u) (Some f) down ∷ gs) = omega arith
few_filter taps form (DownCic factor stages delay ∷ gs) = omega arith
few_filter taps form (UpCic factor stages delay ∷ gs) = omega arith
few_filter taps form (Rounding shift mode ∷ gs) = omega arith
few_filter taps form (Clipping bits ∷ gs) = omega arith

pub few_groups : (es : List Element) → length (groups es) ≤ length es
few_groups [] = omega arith
few_groups (Up factor ∷ es) = omega (arith, few_up (size factor) (groups es), few_groups es)
few_groups (Down factor ∷ es) = omega (arith, few_groups es)
few_groups (Filter taps form ∷ es) = omega (arith, few_filter taps form (groups es), few_groups es)
few_groups (CicDown factor stages delay ∷ es) = omega (arith, few_groups es)
few_groups (CicUp factor stages delay ∷ es) = omega (arith, few_groups es)
few_groups (Round shift mode ∷ es) = omega (arith, few_groups es)
few_groups (Clip bits ∷ es) = omega (arith, few_groups es)

-- ---- the groups of a plan

module _ (cells : List Cell) (counts : CountsAs cells) (deep : (number : ℕ) → 1 ≤ number → number < 2 ^ 64 → IsShallow cells number → HasDepth (written_module cells) number 1) (d : Design) (same : IsSameButPlaces d (written_module cells)) where
  are_counted : (number : ℕ) (gs : List Group) (costs : List GroupCost) → 1 ≤ number → number + length gs < 2 ^ 64 → AreCostsOf number gs costs cells → AreCounted number gs d
  are_counted number [] costs some low are = tt
  are_counted number (g ∷ gs) [] some low are = absurd are
  are_counted number (g ∷ gs) (c ∷ costs) some low are = (
    record {
      counts = same_counts d (written_module cells) same number ∙ counts.each number some (omega (arith, low))
          ∙ (λ i. record { adders = are.0.adders_in i; windows = are.0.windows_in i; tables = are.0.tables_in i });
      depth = same_depth d (written_module cells) same number 1 (deep number some (omega (arith, low)) are.0.shallow);
    },
    are_counted (number + 1) gs costs (omega arith) (omega (arith, low)) are.1,
  )

module _ (cells : List Cell) (counts : CountsAs cells) where
  tell_costs : (number : ℕ) (gs : List Group) (costs : List GroupCost) → 1 ≤ number → number + length gs < 2 ^ 64 → AreCostsOf number gs costs cells → TellCosts number gs costs (written_module cells)
  tell_costs number [] [] some low are = tt
  tell_costs number [] (c ∷ costs) some low are = are
  tell_costs number (g ∷ gs) [] some low are = are
  tell_costs number (g ∷ gs) (c ∷ costs) some low are =
      let same = counts.each number some (omega (arith, low)) in (
        are.0.kind,
        record {
          adders = are.0.adders ∙ sym are.0.adders_in ∙ sym (ap (λ (n : Counts). n.adders) same);
          windows = are.0.windows ∙ sym are.0.windows_in ∙ sym (ap (λ (n : Counts). n.windows) same);
          tables = are.0.tables ∙ sym are.0.tables_in ∙ sym (ap (λ (n : Counts). n.tables) same);
        },
        tell_costs (number + 1) gs costs (omega arith) (omega (arith, low)) are.1,
      )

pub chain_counted : (es : List Element) (costs : List GroupCost) (cells : List Cell) → length es ≤ 32 → IsNetlist cells → AreSmall cells → HasCosts (groups es) costs cells → (d : Design) → IsSameButPlaces d (written_module cells) → AreCounted 1 (groups es) d
chain_counted es costs cells few netlist small has d same =
    are_counted cells (counts_as cells netlist small has.tables.plain) (has_depth cells netlist small has.tables.own) d same 1 (groups es) costs (omega arith) (let g = few_groups es in omega (arith, g, few)) has.costs_are

-- what is told of the groups is what the module that is written costs
pub chain_costs : (es : List Element) (costs : List GroupCost) (cells : List Cell) → length es ≤ 32 → IsNetlist cells → AreSmall cells → HasCosts (groups es) costs cells → TellCosts 1 (groups es) costs (written_module cells)
chain_costs es costs cells few netlist small has =
    tell_costs cells (counts_as cells netlist small has.tables.plain) 1 (groups es) costs (omega arith) (let g = few_groups es in omega (arith, g, few)) has.costs_are
