-- What the written module shows.
use Rattle.std.proofs.Common.{◌≡◌, ℕ, zero, suc, ◌+◌, ◌-◌, ◌^◌, Bool, true, false, not, ◌&&◌, cond, List, [], ◌∷◌, ◌++◌, length, map, drop, Option, Some, None, slice_get, ℤ, pos, negsuc, ◌-ℤ◌, refl, sym, ◌∙◌, ap, arith, subst}
use Rattle.std.specs.Prelude.{◌==◌, nat_lt, nat_le}
use Rattle.std.proofs.lemmas.List.{map-append}
use Rattle.std.proofs.lemmas.Bool.Decides.{nat_tests}
use Rattle.mr_values.specs.Width.{FitsWidth, pattern, signed}
use Rattle.mr_values.proofs.WidthLemmas.{signed-pattern, fits_out, pattern-zero, pattern-set_bit}
use Rattle.net_graph.specs.declared.cell.Cell.{Cell}
use Rattle.net_graph.specs.declared.cell.Item.{Item}
use Rattle.net_graph.specs.declared.cell.Item.TheVariants.{Input, Constant, Add, Sub, Shl, Shr, Mux, Equal, Bits, Register}
use Rattle.net_graph.specs.declared.name.Name.{Name}
use Rattle.net_graph.specs.declared.name.NameKind.{NameKind}
use Rattle.net_graph.specs.declared.name.NameKind.TheVariants.{Control, Window, Copy, PreAdder, Register as Other, Table, Output, Valid}
use Rattle.net_graph.specs.Cells.{cell_at}
use Rattle.net_graph.specs.Cut.{cut_all}
use Rattle.net_graph.specs.Run.{Values as Worth, IsRun as IsNetRun}
use Rattle.net_graph.specs.WellFormed.{IsNetlist, IsNamed}
use Rattle.net_graph.proofs.CellLemmas.{cell_at-is, same_cell}
use Rattle.verilog_tree.specs.Tree as tree
use Rattle.verilog_tree.specs.Meaning.{Values}
use Rattle.verilog_tree.specs.Circuit.{IsRun, IsSettling, next}
use Rattle.verilog_tree.specs.Shown.{Cycle, Event, EachFits, ports_of, inputs_of, signed_value, event_of, events_of, ticks_after}
use Rattle.verilog_tree.proofs.Computes.{assigned_from, name_computes}
use Rattle.verilog_tree.proofs.Resets.{events_of-reset}
use Rattle.net_module.specs.Written.{IsWritable, has_kind, is_valid_kind, is_output_kind, output_place, valid_place}
use Rattle.net_module.specs.Steps.{HasNoReset, ticks_in, samples_of, width_in, ShowsAs, pair_of, chosen_list, outputs_from}
use Rattle.net_module.proofs.Numbers.{IsThere, first_there}
use Rattle.net_module.proofs.Cycles.{D, S, C, N, width_of, inputs, settled_assign, rests, register_is_kept, nodes_hold, ticks}
use Rattle.net_module.proofs.Along.{RegistersHold, NodesHold, Feeds, fed_tick, fed_rest, name, after_reset}

false_true : false ≡ true → ⊥
false_true h = cc

-- ---- a pattern by its sign

pub signed_value-true : (w n : ℕ) → signed_value true w n ≡ signed w n
unfolding signed
signed_value-true w n = by (nat_lt n (2 ^ (w - 1))) (nat_le (2 ^ (w - 1)) n) refl refl
  where
    by : (s t : Bool) → nat_lt n (2 ^ (w - 1)) ≡ s → nat_le (2 ^ (w - 1)) n ≡ t → cond t (pos n -ℤ pos (2 ^ w)) (pos n) ≡ cond s (pos n) (pos n -ℤ pos (2 ^ w))
    by true false p q = refl
    by false true p q = refl
    by true true p q = absurd (grind (arith, nat_tests))
    by false false p q = absurd (grind (arith, nat_tests))

-- ---- there is one node that is shown as `out_valid`

abbrev Named : Name → NameKind → Option Item → Type 0
Named name kind item = IsNamed (Some (record { group = name.group; kind = kind; number = name.number })) item

wired : (name : Name) (item : Option Item) → Named name Valid item → (name.group ≡ 0) × (name.number ≡ 0)
wired name None n = absurd n
wired name (Some Input) n = n
wired name (Some (Constant v)) n = n
wired name (Some (Add a b)) n = n
wired name (Some (Sub a b)) n = n
wired name (Some (Shl a k)) n = n
wired name (Some (Shr a k)) n = n
wired name (Some (Mux on a b)) n = n
wired name (Some (Equal a b)) n = n
wired name (Some (Bits a high low)) n = n
wired name (Some (Register next)) n = absurd n

kind_valid : (kind : NameKind) → is_valid_kind kind ≡ true → kind ≡ Valid
kind_valid Valid is = refl
kind_valid Control is = absurd (false_true is)
kind_valid Window is = absurd (false_true is)
kind_valid Copy is = absurd (false_true is)
kind_valid PreAdder is = absurd (false_true is)
kind_valid Other is = absurd (false_true is)
kind_valid Table is = absurd (false_true is)
kind_valid Output is = absurd (false_true is)

valid_numbers : (name : Name) (item : Option Item) → is_valid_kind name.kind ≡ true → IsNamed (Some name) item → (name.kind ≡ Valid) × (name.group ≡ 0) × (name.number ≡ 0)
valid_numbers name item is named =
    let kind = kind_valid name.kind is in
    let both = wired name item (subst (λ (k : NameKind). Named name k item) kind named) in
    (kind, both.0, both.1)

module _ (cells : List Cell) (netlist : IsNetlist cells) (writable : IsWritable cells) where
  same_name : (a b : Name) → a.kind ≡ Valid → a.group ≡ 0 → a.number ≡ 0 → b.kind ≡ Valid → b.group ≡ 0 → b.number ≡ 0 → a ≡ b
  same_name a b p q r s t u = λ i. record { group = (q ∙ sym t) i; kind = (p ∙ sym s) i; number = (r ∙ sym u) i }

  -- two nodes that are shown as `out_valid` are one
  one_valid : (j k : ℕ) (c d : Cell) → slice_get cells j ≡ Some c → slice_get cells k ≡ Some d → has_kind is_valid_kind c.name ≡ true → has_kind is_valid_kind d.name ≡ true → j ≡ k
  one_valid j k c d at found is too = by c.name d.name refl refl
    where
      by : (m n : Option Name) → c.name ≡ m → d.name ≡ n → j ≡ k
      by None n e f = absurd (false_true (sym (ap (has_kind is_valid_kind) e) ∙ is))
      by (Some m) None e f = absurd (false_true (sym (ap (has_kind is_valid_kind) f) ∙ too))
      by (Some m) (Some n) e f =
          let first = valid_numbers m c.item (sym (ap (has_kind is_valid_kind) e) ∙ is) (subst (λ (o : Option Name). IsNamed o c.item) e (netlist.well_formed.each j c at).named) in
          let second = valid_numbers n d.item (sym (ap (has_kind is_valid_kind) f) ∙ too) (subst (λ (o : Option Name). IsNamed o d.item) f (netlist.well_formed.each k d found).named) in
          netlist.well_formed.apart j k c d m at found e (f ∙ ap Some (sym (same_name m n first.0 first.1 first.2 second.0 second.1 second.2)))

  pub valid_there : IsThere cells (λ c. has_kind is_valid_kind c.name) (valid_place cells)
  valid_there = first_there (λ (c : Cell). has_kind is_valid_kind c.name) cells writable.valid.place writable.valid.cell writable.valid.there writable.valid.is_it

  pub output_there : IsThere cells (λ c. has_kind is_output_kind c.name) (output_place cells)
  output_there = first_there (λ (c : Cell). has_kind is_output_kind c.name) cells writable.output.place writable.output.cell writable.output.there writable.output.is_it

  valid_wide : valid_there.cell.width ≡ 1
  valid_wide =
      let same = one_valid (valid_place cells) writable.valid.place valid_there.cell writable.valid.cell valid_there.there writable.valid.there valid_there.is_it writable.valid.is_it in
      let one = same_cell valid_there.cell writable.valid.cell (slice_get cells writable.valid.place) (ap (slice_get cells) (sym same) ∙ valid_there.there) writable.valid.there in
      ap (λ (c : Cell). c.width) one ∙ writable.valid.width

  module _ (x : ℕ → ℤ) (worth : Worth) (run : IsNetRun cut_all cells x worth) where
    -- ---- a tick

    shown_one : (n cycle t : ℕ) (b o v : ℤ) → FitsWidth 1 b → n ≡ pattern 1 b → v ≡ o
        → map pair_of (cond (not (n == 0)) (record { cycle = cycle; tick = t; value = v } ∷ []) []) ≡ chosen_list b (t, o)
    shown_one n cycle t (pos zero) o v f e is = ap (λ (m : ℕ). map pair_of (cond (not (m == 0)) (record { cycle = cycle; tick = t; value = v } ∷ []) [])) (e ∙ pattern-zero 1)
    shown_one n cycle t (pos (suc k)) o v f e is = absurd (omega (arith, fits_out 1 (pos (suc k)) f))
    shown_one n cycle t (negsuc zero) o v f e is =
        ap (λ (m : ℕ). map pair_of (cond (not (m == 0)) (record { cycle = cycle; tick = t; value = v } ∷ []) [])) (e ∙ pattern-set_bit) ∙ ap (λ (z : ℤ). (t, z) ∷ []) is
    shown_one n cycle t (negsuc (suc k)) o v f e is = absurd (omega (arith, fits_out 1 (negsuc (suc k)) f))

    -- an output has the bits of the node that it names
    alias_bits : (c : Cycle) (content now : Values) (t k target place : ℕ) (cell : Cell) → IsSettling (C cells netlist writable) (inputs cells netlist writable c content) now → slice_get cells place ≡ Some cell → NodesHold cells netlist writable x worth run now t
        → slice_get (D cells netlist writable).assigns k ≡ Some (record { target = target; value = tree.Name (N cells netlist writable place) })
        → now target ≡ pattern ((S cells netlist writable).width target) (worth t place)
    alias_bits c content now t k target place cell settling there held at =
        let holds = held.each place cell there in
        settled_assign cells netlist writable c content now settling k (record { target = target; value = tree.Name (N cells netlist writable place) }) at
        ∙ assigned_from (S cells netlist writable) now target (tree.Name (N cells netlist writable place)) (worth t place)
        (name_computes (S cells netlist writable) now (N cells netlist writable place) (worth t place) holds).computes

    -- a tick shows the output where the bit is set
    tick_shows : (c : Cycle) (content now : Values) (cycle t : ℕ) → IsSettling (C cells netlist writable) (inputs cells netlist writable c content) now → c.rst ≡ false → c.ce ≡ true → NodesHold cells netlist writable x worth run now t
        → map pair_of (event_of (S cells netlist writable) (ports_of (D cells netlist writable)) c now cycle t) ≡ chosen_list (worth t (valid_place cells)) (t, worth t (output_place cells))
    tick_shows c content now cycle t settling off on held =
        let valid = alias_bits c content now t 0 5 (valid_place cells) valid_there.cell settling valid_there.there held refl in
        let data_out = alias_bits c content now t 1 6 (output_place cells) output_there.cell settling output_there.there held refl in
        let valid_holds = held.each (valid_place cells) valid_there.cell valid_there.there in
        let out_holds = held.each (output_place cells) output_there.cell output_there.there in
        let bit_wide = width_of cells netlist writable (valid_place cells) valid_there.cell valid_there.there ∙ valid_wide in
        let out_wide = width_of cells netlist writable (output_place cells) output_there.cell output_there.there in
        let port_wide : (cell_at cells (output_place cells)).width ≡ (S cells netlist writable).width (N cells netlist writable (output_place cells)) =
        ap (λ (d : Cell). d.width) (cell_at-is cells (output_place cells) output_there.cell output_there.there) ∙ sym out_wide in
        let shown : Event = record { cycle = cycle; tick = t; value = signed_value true (cell_at cells (output_place cells)).width (now 6) } in
        let ticking : (c.ce && not c.rst) ≡ true = rw (off, on) refl in
        ap (λ (b : Bool). map pair_of (cond (b && not (now 5 == 0)) (shown ∷ []) [])) ticking
        ∙ shown_one (now 5) cycle t (worth t (valid_place cells)) (worth t (output_place cells)) (signed_value true (cell_at cells (output_place cells)).width (now 6))
        (subst (λ (w : ℕ). FitsWidth w (worth t (valid_place cells))) bit_wide valid_holds.fits) valid
        (signed_value-true (cell_at cells (output_place cells)).width (now 6)
        ∙ ap (signed (cell_at cells (output_place cells)).width) data_out
        ∙ ap (λ (w : ℕ). signed w (pattern w (worth t (output_place cells)))) port_wide
        ∙ signed-pattern ((S cells netlist writable).width (N cells netlist writable (output_place cells))) (worth t (output_place cells)) out_holds.wide out_holds.fits)

    idle_shows : (c : Cycle) (now : Values) (cycle t : ℕ) → c.ce ≡ false → event_of (S cells netlist writable) (ports_of (D cells netlist writable)) c now cycle t ≡ []
    idle_shows c now cycle t off = ap (λ (b : Bool). cond ((b && not c.rst) && not (now 5 == 0)) (record { cycle = cycle; tick = t; value = signed_value true (cell_at cells (output_place cells)).width (now 6) } ∷ []) []) off

    -- ---- all cycles

    abbrev tail_of : List Cycle → List Values → ℕ → ℕ → List (ℕ × ℤ)
    tail_of cs rest cycle u = map pair_of (events_of (S cells netlist writable) (ports_of (D cells netlist writable)) cs rest cycle u)

    pub all_shown : (cs : List Cycle) (content : Values) (settled : List Values) (cycle t : ℕ) → IsRun (C cells netlist writable) content (map (name cells netlist writable x worth run) cs) settled → HasNoReset cs → EachFits (width_in cells) cs
        → Feeds cells netlist writable x worth run t cs → RegistersHold cells netlist writable x worth run content t
        → map pair_of (events_of (S cells netlist writable) (ports_of (D cells netlist writable)) cs settled cycle t) ≡ outputs_from worth (valid_place cells) (output_place cells) t (ticks_in cs)
    all_shown [] content settled cycle t is none fits feeds registers = refl
    all_shown (c ∷ cs) content settled cycle t (values, rest, is, settling, later) none fits feeds registers =
        ap (λ (vs : List Values). map pair_of (events_of (S cells netlist writable) (ports_of (D cells netlist writable)) (c ∷ cs) vs cycle t)) is
        ∙ map-append pair_of (event_of (S cells netlist writable) (ports_of (D cells netlist writable)) c values cycle t) (events_of (S cells netlist writable) (ports_of (D cells netlist writable)) cs rest (cycle + 1) (ticks_after c t))
        ∙ by c.ce refl (λ u f r. all_shown cs (next (C cells netlist writable) values) rest (cycle + 1) u later none.1 fits.1 f r)
      where
        by : (b : Bool) → c.ce ≡ b
            → ((u : ℕ) → Feeds cells netlist writable x worth run u cs → RegistersHold cells netlist writable x worth run (next (C cells netlist writable) values) u → tail_of cs rest (cycle + 1) u ≡ outputs_from worth (valid_place cells) (output_place cells) u (ticks_in cs))
            → map pair_of (event_of (S cells netlist writable) (ports_of (D cells netlist writable)) c values cycle t) ++ tail_of cs rest (cycle + 1) (ticks_after c t) ≡ outputs_from worth (valid_place cells) (output_place cells) t (ticks_in (c ∷ cs))
        by true on more =
            let fed = fed_tick cells netlist writable x worth run t c cs feeds on in
            let held : NodesHold cells netlist writable x worth run values t = record { each = nodes_hold cells netlist writable c content values settling x worth t run fits.0 fed.0 registers.each } in
            let after : ticks_after c t ≡ suc t = rw (none.0, on) (let e : t + 1 ≡ suc t = omega arith in e) in
            ap (λ (es : List (ℕ × ℤ)). es ++ tail_of cs rest (cycle + 1) (ticks_after c t)) (tick_shows c content values cycle t settling none.0 on held)
            ∙ ap (λ (u : ℕ). chosen_list (worth t (valid_place cells)) (t, worth t (output_place cells)) ++ tail_of cs rest (cycle + 1) u) after
            ∙ ap (λ (es : List (ℕ × ℤ)). chosen_list (worth t (valid_place cells)) (t, worth t (output_place cells)) ++ es)
            (more (suc t) fed.1 (record { each = ticks cells netlist writable c content values settling x worth t run fits.0 fed.0 registers.each none.0 on }))
            ∙ (rw on refl)
        by false off more =
            let after : ticks_after c t ≡ t = rw (none.0, off) refl in
            ap (λ (es : List Event). map pair_of es ++ tail_of cs rest (cycle + 1) (ticks_after c t)) (idle_shows c values cycle t off)
            ∙ ap (tail_of cs rest (cycle + 1)) after
            ∙ more t (fed_rest cells netlist writable x worth run t c cs feeds off)
            (record {
              each = λ place cell at reg. rests cells netlist writable c content values settling none.0 off (N cells netlist writable place)
                  ∙ register_is_kept cells netlist writable c content values settling place cell at reg ∙ registers.each place cell at reg;
            })
            ∙ (rw off refl)

  pub shows_as : ShowsAs cells
  shows_as = record {
    parts = λ content before after reset settled runs.
        events_of-reset (S cells netlist writable) (ports_of (D cells netlist writable)) (C cells netlist writable) content (inputs_of (ports_of (D cells netlist writable))) before after reset settled 0 0 runs.is_reset runs.run
        ∙ ap (λ (n : ℕ). events_of (S cells netlist writable) (ports_of (D cells netlist writable)) before settled 0 0 ++ events_of (S cells netlist writable) (ports_of (D cells netlist writable)) after (drop (length before + 1) settled) n 0)
        (let e : 0 + length before + 1 ≡ length before + 1 = omega arith in e);
    shows = λ content before after reset settled runs worth run.
        let state = after_reset cells netlist writable content before after reset settled runs worth run in
        ap (λ (vs : List Values). map pair_of (events_of (S cells netlist writable) (ports_of (D cells netlist writable)) after vs (length before + 1) 0)) state.dropped
        ∙ all_shown (samples_of (width_in cells) after) worth run after state.start state.rest (length before + 1) 0 state.later runs.none runs.fit
        (record { each = λ i. ap (samples_of (width_in cells) after) (let e : 0 + i ≡ i = omega arith in e) }) state.registers;
  }
