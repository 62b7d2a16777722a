-- The module of a plan's net shows the chain.
use Rattle.std.proofs.Common.{◌≡◌, ℕ, zero, suc, ◌+◌, ◌-◌, ◌*◌, ◌/◌, ◌<◌, ◌≤◌, List, [], ◌∷◌, length, map, get_or, refl, sym, ◌∙◌, ap, subst, arith, ℤ, pos}
use Rattle.std.specs.Prelude.{All, slice_index}
use Rattle.std.proofs.lemmas.List.{get_or_default}
use Rattle.std.proofs.lemmas.Int.{ints}
use Rattle.std.proofs.lemmas.Nat.{pow_pos}
use Rattle.mr_values.specs.declared.plan.Element.{Element}
use Rattle.mr_values.specs.Width.{FitsWidth, signed}
use Rattle.mr_values.specs.Sequence.{samples, phase}
use Rattle.mr_values.specs.Timing.{last_stream, latency}
use Rattle.mr_values.specs.Value.{val}
use Rattle.mr_values.proofs.WidthLemmas.{signed_is}
use Rattle.net_graph.specs.declared.cell.Cell.{Cell}
use Rattle.net_graph.specs.declared.cell.Node.{Node}
use Rattle.net_graph.specs.Control.{IsOfControl}
use Rattle.verilog_tree.specs.Meaning.{Values}
use Rattle.verilog_tree.specs.Names.{shapes_of}
use Rattle.verilog_tree.specs.Shown.{Cycle, EachFits, ports_of}
use Rattle.verilog_tree.specs.Tree.{Design}
use Rattle.verilog_text.specs.Order.{IsSameButPlaces}
use Rattle.net_module.specs.Written.{written_module}
use Rattle.net_module.specs.Steps.{tick_data, ticks_in, samples_of, RunsAfterReset}
use Rattle.net_module.proofs.Outputs.{shows_as}
use Rattle.chain_build.specs.ChainNet.{HasSamples, IsChainNet}
use Rattle.module_laws.proofs.Places.{same_shapes, same_circuits, same_ports}
use Rattle.module_names.specs.Control.{IsRunAfterReset}
use Rattle.shown_module.specs.Shown.{numbers_in, ShowsAt}
use Rattle.shown_module.specs.ShownNet.{IsShownNet}
use Rattle.shown_module.proofs.Data.{data_fits, read_samples}
use Rattle.shown_module.proofs.Each.{shows_in_each}
use Rattle.shown_module.proofs.Places.{at_kept, each_kept}
use Rattle.shown_module.proofs.Ticks.{shows_at}
use Rattle.filter_text.specs.Headline.{is_output_tick, output_at_tick, ShowsChain, ShowsOutputs}
use Rattle.filter_text.specs.Runs.{samples_in, IsRunFrom}
use Rattle.filter_text.proofs.ChainOutputs.{all_outputs, output_number, tick_of, is_set, is_clear}
use Rattle.filter_text.proofs.ChainPlaces.{chain_writable, output_is, valid_is, input_width}
use Rattle.filter_text.proofs.ReadModules.{input_port}

-- ---- samples

-- every so many of a list
phase-item : (factor r : ℕ) (xs : List ℤ) (k : ℕ) → 1 ≤ factor → get_or (phase factor r xs) k (pos 0) ≡ get_or xs (r + k * factor) (pos 0)
phase-item factor r [] k some = refl
phase-item factor zero (x ∷ xs) zero some = let none : 0 ≡ 0 + 0 * factor = omega arith in ap (λ (n : ℕ). get_or (x ∷ xs) n (pos 0)) none
phase-item factor zero (x ∷ xs) (suc k) some =
    let next : suc (factor - 1 + k * factor) ≡ 0 + suc k * factor = omega arith in
    phase-item factor (factor - 1) xs k some ∙ ap (λ (n : ℕ). get_or (x ∷ xs) n (pos 0)) next
phase-item factor (suc r) (x ∷ xs) k some =
    let next : suc (r + k * factor) ≡ suc r + k * factor = omega arith in
    phase-item factor r xs k some ∙ ap (λ (n : ℕ). get_or (x ∷ xs) n (pos 0)) next

-- a number of a list, or the 0 past its end, fits where all of them do
item_fits : (width : ℕ) (xs : List ℤ) → All (FitsWidth width) xs → (k : ℕ) → FitsWidth width (get_or xs k (pos 0))
item_fits width [] fit k = let some = pow_pos (width - 1) in record { low = omega (arith, ints); high = omega (arith, ints, some) }
item_fits width (x ∷ xs) fit zero = fit 0 (pos 0) (omega arith)
item_fits width (x ∷ xs) fit (suc k) = item_fits width xs (λ j d below. fit (suc j) d (omega arith)) k

-- so do every so many of them
phase_fit : (width ticks : ℕ) (xs : List ℤ) → 1 ≤ ticks → All (FitsWidth width) xs → All (FitsWidth width) (phase ticks 0 xs)
phase_fit width ticks xs some fit k d below =
    subst (FitsWidth width) (sym (phase-item ticks 0 xs k some) ∙ get_or_default (phase ticks 0 xs) k (pos 0) d below) (item_fits width xs fit (0 + k * ticks))

-- the samples of a run of the module are those of the net
module _ (width ticks : ℕ) (some : 1 ≤ ticks) where
  pub has_samples : (after : List Cycle) → HasSamples ticks (samples_of width after) (samples (samples_in width ticks after))
  has_samples after k =
      let none_more : 0 + k * ticks ≡ k * ticks = omega arith in
      sym (phase-item ticks 0 (map (signed width) (tick_data after)) k some
      ∙ ap (λ (n : ℕ). get_or (map (signed width) (tick_data after)) n (pos 0)) none_more
      ∙ read_samples width (tick_data after) (k * ticks))

  pub samples_fit : 1 ≤ width → (after : List Cycle) → EachFits width after → All (FitsWidth width) (samples_in width ticks after)
  samples_fit wide after fit k d below = subst (FitsWidth width) (has_samples after k ∙ get_or_default (samples_in width ticks after) k (pos 0) d below) (signed_is width (slice_index (tick_data after) (k * ticks)) wide (data_fits width after fit (k * ticks))).0

-- ---- the whole

module _ {width ticks : ℕ} {elements : List Element} {cells : List Cell} {out_q out_valid : Node} (narrow : width ≤ 127) (some : 1 ≤ ticks) (positive : 1 ≤ (last_stream width ticks elements).period) (net : IsChainNet width ticks elements cells out_q out_valid) where
  abbrev L : ℕ
  L = latency width ticks elements

  abbrev Q : ℕ
  Q = (last_stream width ticks elements).period

  -- the net shows each output at its tick
  pub shown_net : IsShownNet width (is_output_tick L Q) (output_at_tick elements ticks L Q) cells
  shown_net = record {
    netlist = net.netlist;
    writable = chain_writable net narrow;
    closed = net.closed;
    input = input_width net;
    valid = record {
      within = subst (λ (p : ℕ). p < length cells) (sym (valid_is net)) net.valid.within;
      control = subst (IsOfControl cells) (sym (valid_is net)) net.valid.control;
      sets = λ cut law inputs worth run t is. ap (worth t) (valid_is net) ∙ net.valid.sets cut law inputs worth run t ((t - L) / Q, tick_of L Q positive t is);
      clears = λ cut law inputs worth run t never. ap (worth t) (valid_is net) ∙ net.valid.clears cut law inputs worth run t (λ tick. never (is_set L Q positive t tick));
    };
    values = λ inputs worth xs fit has run t is.
        ap (worth t) (output_is net) ∙ ap (λ (s : ℕ). worth s out_q.place) (tick_of L Q positive t is)
        ∙ net.values inputs worth (phase ticks 0 xs) (phase_fit width ticks xs some fit)
        (λ k. has (k * ticks) ∙ sym (phase-item ticks 0 xs k some ∙ ap (λ (n : ℕ). get_or xs n (pos 0)) (let e : 0 + k * ticks ≡ k * ticks = omega arith in e))) run ((t - L) / Q);
  }

  -- a module that is the written one but for places shows the chain
  module _ (d : Design) (same : IsSameButPlaces d (written_module cells)) where
    pub of_written : (content : Values) (before after : List Cycle) (reset : Cycle) (settled : List Values) → IsRunFrom d width content before after reset settled → RunsAfterReset cells content before after reset settled
    of_written content before after reset settled r = record {
      run = rw (same_circuits d (written_module cells) same, same_ports d (written_module cells) same) at r.run;
      is_reset = r.is_reset;
      none = r.last;
      fit = subst (λ (w : ℕ). EachFits w after) (sym (input_width net)) r.fit;
    }

    takes_width : (shapes_of d).width (ports_of d).in_data ≡ width
    takes_width = input_port cells d same ∙ input_width net

    after_reset : (content : Values) (before after : List Cycle) (reset : Cycle) (settled : List Values) → IsRunFrom d width content before after reset settled → IsRunAfterReset d content before after reset settled
    after_reset content before after reset settled r = record { run = r.run; is_reset = r.is_reset; none = r.last; fit = subst (λ (w : ℕ). EachFits w after) (sym takes_width) r.fit }

    pub chain_outputs : ShowsOutputs elements width ticks L Q d
    chain_outputs = each_kept d (written_module cells) same width (is_output_tick L Q) (output_at_tick elements ticks L Q) (shows_in_each shown_net)

    -- so what is shown is each output at its tick
    outputs_at : ShowsAt width (is_output_tick L Q) (output_at_tick elements ticks L Q) d
    outputs_at = at_kept d (written_module cells) same width (is_output_tick L Q) (output_at_tick elements ticks L Q) (shows_at shown_net)

    pub chain_shows : ShowsChain elements width ticks L Q d
    chain_shows = record {
      takes = takes_width;
      parts = λ content before after reset settled r.
          rw (same_shapes d (written_module cells) same, same_ports d (written_module cells) same)
          ((shows_as cells net.netlist (chain_writable net narrow)).parts content before after reset settled (of_written content before after reset settled r));
      shows = λ content before after reset settled r.
          let value : ℕ → ℤ = λ n. val elements (samples_in width ticks after) (pos n) in
          outputs_at.shows content before after reset settled (after_reset content before after reset settled r)
          ∙ all_outputs (is_output_tick L Q) (output_at_tick elements ticks L Q (numbers_in width after)) L Q value positive (is_set L Q positive) (is_clear L Q positive) (λ n. ap value (output_number L Q positive n)) (ticks_in after);
    }
