-- A copy in a net.
use Rattle.std.proofs.Common.{◌≡◌, ℕ, suc, ◌+◌, ◌-◌, ◌*◌, ◌^◌, ◌<◌, ◌≤◌, List, [], ◌∷◌, ◌++◌, length, length-append, refl, sym, ◌∙◌, ap, arith, Some, None, slice_get, inl, inr, ◌⊎◌, subst, Option, IsSome, ℤ, pos, ◌*ℤ◌, Bool, true, false}
use Rattle.std.proofs.lemmas.Bool.{cases_lt}
use Rattle.std.proofs.lemmas.List.{get_or_append_left}
use Rattle.std.proofs.Math.Seq.{get_or-append_seam}
use Rattle.std.proofs.lemmas.Option.{slice_get_within}
use Rattle.mr_values.specs.Width.{chosen, floor_quotient, floor_remainder}
use Rattle.net_graph.specs.declared.cell.Cell.{Cell}
use Rattle.net_graph.specs.declared.cell.Node.{Node}
use Rattle.net_graph.specs.declared.cell.Item.TheVariants.{Shl, Mux, Bits, Register}
use Rattle.net_graph.specs.declared.name.Name.{Name}
use Rattle.net_graph.specs.declared.name.NameKind.TheVariants.{Copy}
use Rattle.net_graph.specs.Cells.{NetView, cell_at}
use Rattle.net_graph.specs.Cut.{Cut, IsCut}
use Rattle.net_graph.specs.Depth.{IsPlain, begins, passes, is_source, passed_on}
use Rattle.net_graph.specs.declared.cell.Item.{Item}
use Rattle.net_graph.specs.Grow.{Extends, Grows, Adds, IsBoundTo}
use Rattle.net_graph.specs.Run.{Values, IsRun}
use Rattle.net_graph.proofs.GroupLemmas.{nameless_data}
use Rattle.net_graph.proofs.NetLemmas.{Extends-adds, cell_of_added}
use Rattle.net_graph.proofs.GrowLemmas.{named_own, Grows-trans, Grows-data, GrowsBut, GrowsBut-register, GrowsBut-adds, GrowsBut-unbound, Grows-bind, Extends-grown, cell_of_grown}
use Rattle.pipeline_balance.specs.Costs.{SameAdders, SameNamed}
use Rattle.pipeline_balance.specs.Gate.{IsTickOf, IsBitOf}
use Rattle.pipeline_balance.specs.Numbered.{AddsNext, IsTouched, name_of}
use Rattle.pipeline_balance.specs.Phase.{IsNarrow}
use Rattle.pipeline_balance.proofs.CostLemmas.{SameAdders-trans, SameAdders-register, SameAdders-plain, SameAdders-bind, SameNamed-trans, SameNamed-adds, SameNamed-register, SameNamed-bind}
use Rattle.pipeline_balance.proofs.CounterLemmas.{there_then}
use Rattle.pipeline_balance.proofs.NumberedLemmas.{free_register, free_adds, free_bind}
use Rattle.pipeline_balance.proofs.TakenLemmas.{chosen_kept, node_kept}
use Rattle.bit_serial.specs.Bits.{bit_of, shifted}
use Rattle.bit_serial.specs.Tables.{Shows}
use Rattle.bit_serial.proofs.BitLemmas.{small_bit}
use Rattle.distributed_table.specs.Copies.{AddsCopy, AddsCopies, SelectsRegister, ShowsBits, node_at}
use Rattle.distributed_table.proofs.TickLemmas.{copied}
use Rattle.distributed_table.proofs.PartLemmas.{AddsPart-none, AddsPart-then}

-- a copy's register before its next is bound
abbrev pub copy_cell : ℕ → ℕ → ℕ → Cell
copy_cell group number width = record { group = group; name = Some (name_of group Copy number); width = width; item = None }

-- its next is bound
module _ {n0 n1 n2 n3 n4 : NetView} {load from copy up next : Node} {width : ℕ} (some : 1 ≤ n0.group) (wide : 1 ≤ width)
    (a1 : AddsNext n0 n1 n0.group Copy width copy) (a2 : Adds n1 n2 up width (Shl copy 1)) (a3 : Adds n2 n3 next width (Mux load from up)) (b : IsBoundTo n3 n4 copy next) where
  pub copy_begun : GrowsBut n0 n3 copy (copy_cell n0.group a1.number width)
  copy_begun =
      let some1 : 1 ≤ n1.group = rw a1.adds.group some in
      let some2 : 1 ≤ n2.group = rw a2.group some1 in
      GrowsBut-adds (GrowsBut-adds (GrowsBut-register a1.adds) a2 refl (λ e. absurd (omega arith))) a3 refl (λ e. absurd (omega arith))

  pub copy_bound : Grows n0 n4
  copy_bound = Grows-bind (named_own (copy_cell n0.group a1.number width) (name_of n0.group Copy a1.number) refl refl some) copy_begun wide b (λ is. absurd (cc))

module _ {n0 n1 n2 n3 n4 n5 : NetView} {load from copy up next high : Node} {width : ℕ} (some : 1 ≤ n0.group) (wide : 1 ≤ width) (narrow : IsNarrow n0.cells width from)
    (a1 : AddsNext n0 n1 n0.group Copy width copy) (a2 : Adds n1 n2 up width (Shl copy 1)) (a3 : Adds n2 n3 next width (Mux load from up)) (b : IsBoundTo n3 n4 copy next) (a5 : Adds n4 n5 high (width - 1 - (width - 1) + 1) (Bits copy (width - 1) (width - 1))) where
  some1 : 1 ≤ n1.group
  some1 = rw a1.adds.group some

  some2 : 1 ≤ n2.group
  some2 = rw a2.group some1

  begun : GrowsBut n0 n3 copy (copy_cell n0.group a1.number width)
  begun = copy_begun some wide a1 a2 a3 b

  bound : Grows n0 n4
  bound = copy_bound some wide a1 a2 a3 b

  some4 : 1 ≤ n4.group
  some4 = rw bound.group some

  last : Grows n4 n5
  last = Grows-data some4 a5 refl

  pub copy_grows : Grows n0 n5
  copy_grows = Grows-trans bound last

  same_adders : SameAdders n0.cells n5.cells
  same_adders = SameAdders-trans (SameAdders-register a1.adds) (SameAdders-trans (SameAdders-plain a2 refl) (SameAdders-trans (SameAdders-plain a3 refl) (SameAdders-trans (SameAdders-bind (GrowsBut-unbound begun) b) (SameAdders-plain a5 refl))))

  same_named : SameNamed n0.cells n5.cells
  same_named = SameNamed-trans (SameNamed-register refl refl a1.adds) (SameNamed-trans (SameNamed-adds a2) (SameNamed-trans (SameNamed-adds a3) (SameNamed-trans (SameNamed-bind (GrowsBut-unbound begun) b) (SameNamed-adds a5))))

  there : slice_get n4.cells copy.place ≡ Some (record { group = n0.group; name = Some (name_of n0.group Copy a1.number); width = width; item = Some (Register next) })
  there = cell_of_grown begun b

  module _ (cut : Cut) (law : IsCut cut) (x : ℕ → ℤ) (v : Values) (r : IsRun cut n5.cells x v) where
    r4 : IsRun cut n4.cells x v
    r4 = last.extends.runs cut law x v r

    r3 : IsRun cut n3.cells x v
    r3 = (Extends-grown begun wide b).runs cut law x v r4

    r2 : IsRun cut n2.cells x v
    r2 = (Extends-adds a3).runs cut law x v r3

    from_kept : (t : ℕ) → cut false width (v t from.place) ≡ v t from.place
    from_kept t = node_kept cut law n0.cells x v (copy_grows.extends.runs cut law x v r) from.place (cell_at n0.cells from.place).width width narrow.within refl narrow.some narrow.most t

    ups : (t : ℕ) → v t up.place ≡ cut false width (v t copy.place *ℤ pos 2)
    ups t = r2.each up.place _ (cell_of_added a2) t ∙ ap (λ (c : Bool). cut c width (v t copy.place *ℤ pos 2)) (nameless_data n1.group true some1)

    nexts : (t : ℕ) → v t next.place ≡ cut false width (chosen (v t load.place) (v t from.place) (v t up.place))
    nexts t = r3.each next.place _ (cell_of_added a3) t ∙ ap (λ (c : Bool). cut c width (chosen (v t load.place) (v t from.place) (v t up.place))) (nameless_data n2.group true some2)

    steps : (t : ℕ) → v (suc t) copy.place ≡ chosen (v t load.place) (v t from.place) (cut false width (v t copy.place *ℤ pos 2))
    steps t =
        let c = cut false width in
        let doubled : ℤ = v t copy.place *ℤ pos 2 in
        (r4.each copy.place _ there).1 t ∙ ap c (nexts t) ∙ law.again false width _ wide ∙ ap (λ (z : ℤ). c (chosen (v t load.place) (v t from.place) z)) (ups t)
        ∙ chosen_kept c (v t load.place) (v t from.place) (c doubled) (from_kept t) (law.again false width doubled wide)

    highs : (t : ℕ) → v t high.place ≡ cut false 1 (pos (bit_of (width - 1) (v t copy.place)))
    highs t =
        let one : width - 1 - (width - 1) + 1 ≡ 1 = omega arith in
        let q : ℤ = floor_quotient (v t copy.place) (2 ^ (width - 1)) in
        r.each high.place _ (cell_of_added a5) t ∙ ap (λ (c : Bool). cut c (width - 1 - (width - 1) + 1) (pos (floor_remainder q (2 ^ (width - 1 - (width - 1) + 1))))) (nameless_data n4.group true some4)
        ∙ ap (λ (k : ℕ). cut false k (pos (floor_remainder q (2 ^ k)))) one

  pub AddsCopy-circuit : (period first : ℕ) → IsBitOf n0.cells (IsTickOf period first) load → AddsCopy n0 n5 period first width from high
  AddsCopy-circuit period first bit = record {
    part = record {
      grows = copy_grows;
      counts = same_adders.each n0.group some ∙ omega arith;
      windows = same_named.windows n0.group;
      tabled = same_named.tables n0.group ∙ omega arith;
      names = record {
        free = λ name other f. free_adds a5 name (free_bind (GrowsBut-unbound begun) b name (free_adds a3 name (free_adds a2 name (free_register a1.adds name (λ e. other (inl (ap (λ (n : Name). n.group) e, ap (λ (n : Name). n.kind) e))) f))));
      };
    };
    shows = record {
      within = slice_get_within n5.cells high.place _ (cell_of_added a5);
      selects = record {
        cell = _;
        there = cell_of_added a5;
        of = copy;
        high = width - 1;
        low = width - 1;
        selects = refl;
        register = _;
        register_there = there_then copy.place a5 there;
        next = next;
        registered = refl;
      };
      shows = λ cut law keeps x v r n j h.
          let old_run = copy_grows.extends.runs cut law x v r in
          let t : ℕ = first + n * period + suc j in
          let held : v t copy.place ≡ shifted (cut false width) j (v (first + n * period) from.place) =
          copied period first (λ s. v s load.place) (λ s. v s from.place) (λ s. v s copy.place) (cut false width) (steps cut law x v r) (bit.sets cut law x v old_run) (bit.clears cut law x v old_run) n j h in
          let bit_is = highs cut law x v r t ∙ ap (λ (z : ℤ). cut false 1 (pos (bit_of (width - 1) z))) held in
          let value : ℤ = shifted (cut false width) j (v (first + n * period) from.place) in
          subst (λ (z : ℤ). Shows z (bit_of (width - 1) value)) (sym bit_is) (keeps.shows (bit_of (width - 1) value) (small_bit (width - 1) value));
    };
  }

-- ---- copies in a longer net

-- no adder stands before a bit of a register
pub plain_high : (cells : List Cell) (group place : ℕ) → SelectsRegister cells place → IsPlain cells group place
plain_high cells group place s = passes place s.cell s.of s.there (ap passed_on s.selects) (begins s.of.place s.register s.register_there (ap is_source s.registered))

item_kept : {old new : List Cell} (place : ℕ) (cell : Cell) (item : Item) (e : Extends old new) (there : slice_get old place ≡ Some cell) → cell.item ≡ Some item → (e.keeps place cell there).cell.item ≡ Some item
item_kept place cell item e there is = (e.keeps place cell there).item (subst (λ (i : Option Item). IsSome i) (sym is) refl) ∙ is

pub SelectsRegister-later : {old new : List Cell} {place : ℕ} → Extends old new → SelectsRegister old place → SelectsRegister new place
SelectsRegister-later {old} {new} {place} e s = record {
  cell = (e.keeps place s.cell s.there).cell;
  there = (e.keeps place s.cell s.there).there;
  of = s.of;
  high = s.high;
  low = s.low;
  selects = item_kept place s.cell (Bits s.of s.high s.low) e s.there s.selects;
  register = (e.keeps s.of.place s.register s.register_there).cell;
  register_there = (e.keeps s.of.place s.register s.register_there).there;
  next = s.next;
  registered = item_kept s.of.place s.register (Register s.next) e s.register_there s.registered;
}

pub ShowsBits-later : {old new : List Cell} {period first width : ℕ} {from high : Node} → Extends old new → ShowsBits old period first width from high → ShowsBits new period first width from high
ShowsBits-later e s = record {
  within = let l = e.longer in let w = s.within in omega arith;
  selects = SelectsRegister-later e s.selects;
  shows = λ cut law keeps x v r. s.shows cut law keeps x v (e.runs cut law x v r);
}

-- ---- all copies

pub AddsCopies-none : (net : NetView) (period first width : ℕ) (window : List Node) → AddsCopies net net period first width window []
AddsCopies-none net period first width window = record { part = AddsPart-none net (IsTouched net.group Copy); each = λ age less. absurd (omega arith) }

pub AddsCopies-push : {old mid new : NetView} {period first width : ℕ} {window highs : List Node} {from high : Node} → from ≡ node_at window (length highs) → AddsCopies old mid period first width window highs → AddsCopy mid new period first width from high → AddsCopies old new period first width window (highs ++ high ∷ [])
AddsCopies-push {old} {mid} {new} {period} {first} {width} {window} {highs} {from} {high} is p a = record {
  part = AddsPart-then (IsTouched old.group Copy) (IsTouched mid.group Copy) (IsTouched old.group Copy) (λ name h. h) (λ name h. subst (λ (g : ℕ). IsTouched g Copy name) p.part.grows.group h) p.part a.part;
  each = λ age less. at age less (cases_lt age (length highs));
}
  where
    many : length (highs ++ high ∷ []) ≡ suc (length highs)
    many = rw length-append (omega arith)

    at : (age : ℕ) → age < length (highs ++ high ∷ []) → (age < length highs) ⊎ (length highs ≤ age) → ShowsBits new.cells period first width (node_at window age) (node_at (highs ++ high ∷ []) age)
    at age less (inl early) = subst (ShowsBits new.cells period first width (node_at window age)) (sym (get_or_append_left highs (high ∷ []) (record { place = 0 }) age early)) (ShowsBits-later a.part.grows.extends (p.each age early))
    at age less (inr late) =
        let same : age ≡ length highs = omega (arith, many) in
        rw same (subst (ShowsBits new.cells period first width (node_at window (length highs))) (sym (get_or-append_seam highs high [] (record { place = 0 }))) (subst (λ (f : Node). ShowsBits new.cells period first width f high) is a.shows))
