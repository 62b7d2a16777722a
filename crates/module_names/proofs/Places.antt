-- The places of declarations change none of the promises.
use Rattle.std.proofs.Common.{◌≡◌, ℕ, Bool, true, false, cond, List, [], ◌∷◌, ◌++◌, map, Some, slice_get, refl, sym, ◌∙◌, ap, subst}
use Rattle.std.specs.Prelude.{◌==◌}
use Rattle.std.specs.Option.{option_map}
use Rattle.std.proofs.lemmas.Option.{slice_get-map}
use Rattle.verilog_tree.specs.declared.tree.Signal.{Signal}
use Rattle.verilog_tree.specs.Checks.{is_port}
use Rattle.verilog_tree.specs.Tree.{Action, Design}
use Rattle.verilog_tree.specs.Meaning.{Shapes, Values}
use Rattle.verilog_tree.specs.Names.{declaration_in, shapes_of, kind_of, text_of, is_control}
use Rattle.verilog_tree.specs.Circuit.{Circuit, IsRun, IsSettling, with_inputs, next}
use Rattle.verilog_tree.specs.Cycle.{circuit_of}
use Rattle.verilog_tree.specs.Shown.{Cycle, EachFits, Ports, ports_of, inputs_of}
use Rattle.verilog_tree.proofs.OneSettling.{mapped}
use Rattle.verilog_text.specs.Order.{unplaced, IsSameButPlaces}
use Rattle.module_laws.proofs.Places.{same_shapes, same_circuits, same_ports}
use Rattle.module_names.specs.Control.{IsRunAfterReset, IsAtTick, HasControl}
use Rattle.module_names.specs.Names.{IsNameOf, IsRegisterText, HasNames}
use Rattle.module_names.specs.Outputs.{HasPlainOutputs}
use Rattle.module_names.specs.Ports.{output_name, HasPorts}
use Rattle.module_names.specs.Registers.{held_block, HasHeldBlocks, HasReset}

unplaced_kind : (signals : List Signal) (n : ℕ) → option_map (λ (s : Signal). s.kind) (declaration_in (map unplaced signals) n) ≡ option_map (λ (s : Signal). s.kind) (declaration_in signals n)
unplaced_kind [] n = refl
unplaced_kind (s ∷ signals) n = by (s.name == n) (unplaced_kind signals n)
  where
    by : (b : Bool) → option_map (λ (t : Signal). t.kind) (declaration_in (map unplaced signals) n) ≡ option_map (λ (t : Signal). t.kind) (declaration_in signals n)
        → option_map (λ (t : Signal). t.kind) (cond b (Some (unplaced s)) (declaration_in (map unplaced signals) n)) ≡ option_map (λ (t : Signal). t.kind) (cond b (Some s) (declaration_in signals n))
    by true rest = refl
    by false rest = rest

module _ (d e : Design) (same : IsSameButPlaces d e) where
  same_text : (n : ℕ) → text_of d n ≡ text_of e n
  same_text n = rw (same.same_names) refl

  same_kind : (n : ℕ) → kind_of d n ≡ kind_of e n
  same_kind n =
      sym (unplaced_kind d.signals n) ∙ ap (λ (ss : List Signal). option_map (λ (s : Signal). s.kind) (declaration_in ss n)) same.same_signals ∙ unplaced_kind e.signals n

  -- ---- names

  -- the other declaration at a place is the same but for where it stands
  there_too : (k : ℕ) (s : Signal) → slice_get d.signals k ≡ Some s → (t : Signal) × (slice_get e.signals k ≡ Some t) × (unplaced t ≡ unplaced s)
  there_too k s at =
      let there : slice_get (map unplaced e.signals) k ≡ Some (unplaced s) =
      ap (λ (ss : List Signal). slice_get ss k) (sym same.same_signals) ∙ slice_get-map unplaced d.signals k ∙ ap (option_map unplaced) at in
      mapped unplaced e.signals k (unplaced s) there

  pub names_kept : (count : ℕ) → HasNames count e → HasNames count d
  names_kept count h = record {
    own = ap (text_of d) same.same_name ∙ same_text e.name ∙ h.own;
    registers = λ n is. subst (IsRegisterText count) (sym (same_text n)) (h.registers n (sym (same_kind n) ∙ is));
    signed = λ k s at other.
        let one = there_too k s at in
        let kind : one.0.kind ≡ s.kind = ap (λ (t : Signal). t.kind) one.2 in
        let sign : one.0.signed ≡ s.signed = ap (λ (t : Signal). t.signed) one.2 in
        sym sign ∙ h.signed k one.0 one.1 (ap is_port kind ∙ other);
    each = λ k s at.
        let other = there_too k s at in
        let name : other.0.name ≡ s.name = ap (λ (t : Signal). t.name) other.2 in
        subst (IsNameOf count) (ap (text_of e) name ∙ sym (same_text s.name)) (h.each k other.0 other.1);
  }

  -- ---- control

  same_input : (shapes_of d).width (ports_of d).in_data ≡ (shapes_of e).width (ports_of e).in_data
  same_input = ap (λ (s : Shapes). s.width (ports_of d).in_data) (same_shapes d e same) ∙ ap (λ (p : Ports). (shapes_of e).width p.in_data) (same_ports d e same)

  pub same_run : (content : Values) (before after : List Cycle) (reset : Cycle) (settled : List Values) → IsRunAfterReset d content before after reset settled → IsRunAfterReset e content before after reset settled
  same_run content before after reset settled r = record {
    run = subst (λ (p : Ports). IsRun (circuit_of e) content (map (inputs_of p) (before ++ reset ∷ after)) settled) (same_ports d e same)
        (subst (λ (c : Circuit). IsRun c content (map (inputs_of (ports_of d)) (before ++ reset ∷ after)) settled) (same_circuits d e same) r.run);
    is_reset = r.is_reset;
    none = r.none;
    fit = subst (λ (w : ℕ). EachFits w after) same_input r.fit;
  }

  same_tick : (tick : ℕ) (now : Values) → IsAtTick d tick now → IsAtTick e tick now
  same_tick tick now a = record {
    content = a.content;
    before = a.before;
    after = a.after;
    reset = a.reset;
    settled = a.settled;
    runs = same_run a.content a.before a.after a.reset a.settled a.runs;
    place = a.place;
    cycle = a.cycle;
    there = a.there;
    enabled = a.enabled;
    ticks = a.ticks;
    values = a.values;
  }

  pub control_kept : HasControl e → HasControl d
  control_kept h = record {
    same = λ tick now other a b name is. h.same tick now other (same_tick tick now a) (same_tick tick other b) name (sym (ap is_control (same_text name)) ∙ is);
  }

  -- ---- ports

  same_output : output_name d ≡ output_name e
  same_output = rw (same.same_names) refl

  pub ports_kept : (width : ℕ) → HasPorts width e → HasPorts width d
  ports_kept width h = record {
    same = λ content before after reset settled r j now at.
        ap (λ (p : Ports). now p.out_data) (same_ports d e same) ∙ h.same content before after reset settled (same_run content before after reset settled r) j now at ∙ ap now (sym same_output);
    in_signed = ap (λ (s : Shapes). s.signed (ports_of d).in_data) (same_shapes d e same) ∙ ap (λ (p : Ports). (shapes_of e).signed p.in_data) (same_ports d e same) ∙ h.in_signed;
    in_width = same_input ∙ h.in_width;
    out_signed = ap (λ (s : Shapes). s.signed (ports_of d).out_data) (same_shapes d e same) ∙ ap (λ (p : Ports). (shapes_of e).signed p.out_data) (same_ports d e same) ∙ h.out_signed;
    out_width = ap (λ (s : Shapes). s.width (ports_of d).out_data) (same_shapes d e same) ∙ ap (λ (p : Ports). (shapes_of e).width p.out_data) (same_ports d e same)
        ∙ h.out_width ∙ ap (shapes_of e).width (sym same_output) ∙ ap (λ (s : Shapes). s.width (output_name d)) (sym (same_shapes d e same));
    register = same_kind (output_name d) ∙ ap (kind_of e) same_output ∙ h.register;
  }

  -- ---- outputs

  pub outputs_kept : HasPlainOutputs e → HasPlainOutputs d
  outputs_kept h = record { none = rw (same.same_names, same.same_assigns, same.same_blocks) (h.none) }

  -- ---- registers

  pub blocks_kept : HasHeldBlocks e → HasHeldBlocks d
  blocks_kept h = record {
    each = λ k block at.
        let b = h.each k block (ap (λ (bs : List Action). slice_get bs k) (sym same.same_blocks) ∙ at) in
        record {
          register = b.register;
          value = b.value;
          is_register = same_kind b.register ∙ b.is_register;
          is_it = b.is_it ∙ ap (λ (s : Shapes). held_block (ports_of e) b.register (s.width b.register) b.value) (sym (same_shapes d e same))
              ∙ ap (λ (p : Ports). held_block p b.register ((shapes_of d).width b.register) b.value) (sym (same_ports d e same));
        };
  }

  same_settling : (content now : Values) (c : Cycle) → IsSettling (circuit_of d) (with_inputs (inputs_of (ports_of d) c) content) now → IsSettling (circuit_of e) (with_inputs (inputs_of (ports_of e) c) content) now
  same_settling content now c settling =
      subst (λ (p : Ports). IsSettling (circuit_of e) (with_inputs (inputs_of p c) content) now) (same_ports d e same)
      (subst (λ (k : Circuit). IsSettling k (with_inputs (inputs_of (ports_of d) c) content) now) (same_circuits d e same) settling)

  pub reset_kept : HasReset e → HasReset d
  reset_kept h = record {
    sets = λ content now c settling on name is.
        ap (λ (k : Circuit). next k now name) (same_circuits d e same) ∙ h.sets content now c (same_settling content now c settling) on name (sym (same_kind name) ∙ is);
    rests = λ content now c settling off idle name is.
        ap (λ (k : Circuit). next k now name) (same_circuits d e same) ∙ h.rests content now c (same_settling content now c settling) off idle name (sym (same_kind name) ∙ is);
  }
