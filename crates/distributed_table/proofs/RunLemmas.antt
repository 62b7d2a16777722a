-- The register of a run has its sum of products.
use Rattle.std.proofs.Common.{◌≡◌, ℕ, zero, suc, ◌+◌, ◌*◌, ◌-◌, ◌≤◌, ◌<◌, List, length, refl, sym, ◌∙◌, ap, subst, arith, inl, inr, false, ℤ, pos, ◌-ℤ◌, ◌+ℤ◌, ◌*ℤ◌, ◌≤ℤ◌, [], ◌∷◌, ◌++◌, length-append}
use Rattle.mr_values.specs.Sequence.{weighted_sum}
use Rattle.mr_values.specs.Timing.{low_end}
use Rattle.mr_values.specs.Width.{IsLeastWidth}
use Rattle.net_graph.specs.declared.cell.Cell.{Cell}
use Rattle.net_graph.specs.declared.cell.Leaf.{Leaf}
use Rattle.net_graph.specs.declared.cell.Node.{Node}
use Rattle.net_graph.specs.declared.name.Name.{Name}
use Rattle.net_graph.specs.declared.name.NameKind.TheVariants.{Register, Table}
use Rattle.net_graph.specs.Cells.{NetView}
use Rattle.net_graph.specs.Cut.{Cut, IsCut}
use Rattle.net_graph.specs.Depth.{IsPlain, IsShallow}
use Rattle.net_graph.specs.Grow.{Extends}
use Rattle.net_graph.specs.Run.{Values, IsRun}
use Rattle.net_graph.proofs.Lists.{slice_get_push_cases}
use Rattle.net_graph.proofs.NetLemmas.{Extends-trans}
use Rattle.pipeline_balance.specs.Numbered.{IsRegister, name_of}
use Rattle.pipeline_balance.proofs.NumberedLemmas.{IsRegister-later}
use Rattle.pipeline_balance.proofs.TakenLemmas.{IsBitOf-later}
use Rattle.bit_serial.specs.Bits.{bit_of, shifted}
use Rattle.bit_serial.specs.Ends.{AllWithin}
use Rattle.bit_serial.specs.Serial.{AllFit, bit_sum, sum_above}
use Rattle.bit_serial.specs.Tables.{Shows, run}
use Rattle.bit_serial.proofs.RunLemmas.{entry_law}
use Rattle.bit_serial.proofs.SerialLemmas.{first_step, next_step, whole_law}
use Rattle.distributed_table.specs.Parts.{AddsPart, KeepsTheBits}
use Rattle.distributed_table.specs.Copies.{node_at}
use Rattle.distributed_table.specs.Choices.{IsChosen, AddsTable}
use Rattle.distributed_table.specs.Serial.{accumulated, IsSerial, AddsAccumulator}
use Rattle.distributed_table.specs.Runs.{Serial, Pace, window_at, AreCopied, IsRunReady, SumsRun, IsNumbered, IsBelow, AreSelected, AddsRun, AddsRuns}
use Rattle.distributed_table.proofs.CopyLemmas.{plain_high, SelectsRegister-later, ShowsBits-later}
use Rattle.distributed_table.proofs.EndLemmas.{above_fits, in_taps, length-run, run_fits, run_within}
use Rattle.distributed_table.proofs.OwnTableLemmas.{HasTables-grown}
use Rattle.distributed_table.proofs.PartLemmas.{AddsPart-none, AddsPart-then, part_shallow}

-- what is accumulated of the sums over the bits, from the highest
pub accumulated_is : (w : ℕ) (cs : List ℤ) (x f : ℕ → ℤ) → AllFit w cs x → ((i : ℕ) → i < w → f i ≡ bit_sum cs x (w - 1 - i)) → (j : ℕ) → j < w → accumulated f j ≡ sum_above cs x (w - 1 - j)
accumulated_is w cs x f fits e zero h =
    let none : w - 1 - 0 ≡ w - 1 = omega arith in
    ap (λ (z : ℤ). pos 0 -ℤ z) (e 0 h ∙ ap (bit_sum cs x) none) ∙ first_step w cs x fits ∙ ap (sum_above cs x) (sym none)
accumulated_is w cs x f fits e (suc j) h =
    ap (λ (z : ℤ). z *ℤ pos 2 +ℤ f (suc j)) (accumulated_is w cs x f fits e j (omega arith)) ∙ ap (λ (z : ℤ). sum_above cs x (w - 1 - j) *ℤ pos 2 +ℤ z) (e (suc j) h) ∙ next_step w cs x j h

-- ---- in a longer net

pub AreCopied-later : {old new : List Cell} {pace : Pace} {bits : ℕ} {window highs : List Node} → Extends old new → AreCopied old pace bits window highs → AreCopied new pace bits window highs
AreCopied-later e h = record { each = λ age less. ShowsBits-later e (h.each age less) }

pub AreSelected-later : {old new : List Cell} {highs : List Node} → Extends old new → AreSelected old highs → AreSelected new highs
AreSelected-later e h = record { each = λ k less. SelectsRegister-later e (h.each k less) }

pub SumsRun-later : {old new : List Cell} {group : ℕ} {serial : Serial} {pace : Pace} {window : List Node} {number : ℕ} {leaf : Leaf} → Extends old new → SumsRun old group serial pace window number leaf → SumsRun new group serial pace window number leaf
SumsRun-later e s = record {
  width = s.width;
  some = s.some;
  most = s.most;
  register = IsRegister-later e s.register;
  whole = s.whole;
  added = s.added;
  sums = λ cut law keeps inputs v r. s.sums cut law keeps inputs v (e.runs cut law inputs v r);
}

pub IsRunReady-later : {old new : List Cell} {pace : Pace} {bits : ℕ} {window highs : List Node} {begin : Node} → Extends old new → IsRunReady old pace bits window highs begin → IsRunReady new pace bits window highs begin
IsRunReady-later e h = record { some = h.some; enough = h.enough; copies = AreCopied-later e h.copies; begins = IsBitOf-later h.begins e }

-- ---- one run

module _ (serial : Serial) (pace : Pace) (window address : List Node) (number : ℕ) {c0 c1 c2 : List Cell} {highs : List Node} {width : ℕ} {table sum : Node} (some : 1 ≤ serial.bits) (enough : serial.bits ≤ pace.period) (wide : 1 ≤ width) (negative : serial.low ≤ℤ pos 0) (positive : pos 0 ≤ℤ serial.high)
    (many : length highs ≡ length serial.taps) (copies : AreCopied c0 pace serial.bits window highs) (addressed : (k : ℕ) → k < serial.size → number * serial.size + k < length highs → node_at address k ≡ node_at highs (number * serial.size + k)) (e0 : Extends c0 c2)
    (choice : IsChosen c1 (run serial.size serial.taps number) (node_at address) (pos 0) table) (e1 : Extends c1 c2) (holds : IsSerial c2 pace.period (pace.start + 1) table width sum)
    (least : IsLeastWidth (low_end (run serial.size serial.taps number) serial.low serial.high) (low_end (run serial.size serial.taps number) serial.high serial.low) width) where
  module _ (cut : Cut) (law : IsCut cut) (keeps : KeepsTheBits cut) (inputs : ℕ → ℤ) (v : Values) (r : IsRun cut c2 inputs v) (n : ℕ) (fits : AllFit serial.bits serial.taps (window_at v window pace n)) (within : AllWithin serial.taps serial.low serial.high (window_at v window pace n)) where
    abbrev pub taps_of_run : List ℤ
    taps_of_run = run serial.size serial.taps number

    abbrev pub numbers : ℕ → ℤ
    numbers k = window_at v window pace n (number * serial.size + k)

    abbrev pub tables : ℕ → ℤ
    tables i = v (pace.start + 1 + n * pace.period + i) table.place

    -- the table at each tick
    entry : (i : ℕ) → i < serial.bits → tables i ≡ bit_sum taps_of_run numbers (serial.bits - 1 - i)
    entry i h =
        let t : ℕ = pace.start + 1 + n * pace.period + i in
        choice.chosen cut law inputs v (e1.runs cut law inputs v r) t ∙ entry_law serial.bits (cut false serial.bits) (keeps.copies serial.bits some) taps_of_run numbers i h (λ k. v t (node_at address k).place) (λ k inside. shows k inside)
      where
        shows : (k : ℕ) → k < length taps_of_run → Shows (v (pace.start + 1 + n * pace.period + i) (node_at address k).place) (bit_of (serial.bits - 1) (shifted (cut false serial.bits) i (numbers k)))
        shows k inside =
            let age : ℕ = number * serial.size + k in
            let place : age < length highs = let less = in_taps serial.size serial.taps number k inside in omega (arith, less, many) in
            let below : k < serial.size = let most = length-run serial.size serial.taps number in omega (arith, most) in
            let tick : pace.start + n * pace.period + suc i ≡ pace.start + 1 + n * pace.period + i = omega arith in
            let bit : ℕ = bit_of (serial.bits - 1) (shifted (cut false serial.bits) i (numbers k)) in
            let shown = (copies.each age place).shows cut law keeps inputs v (e0.runs cut law inputs v r) n i (omega arith) in
            subst (λ (m : Node). Shows (v (pace.start + 1 + n * pace.period + i) m.place) bit) (sym (addressed k below place)) (subst (λ (t : ℕ). Shows (v t (node_at highs age).place) bit) tick shown)

    held : (j : ℕ) → j < serial.bits → accumulated tables j ≡ sum_above taps_of_run numbers (serial.bits - 1 - j)
    held j h = accumulated_is serial.bits taps_of_run numbers tables (run_fits serial.bits serial.size serial.taps (window_at v window pace n) number fits) entry j h

    kept : (j : ℕ) → j < serial.bits → cut false width (accumulated tables j) ≡ accumulated tables j
    kept j h =
        subst (λ (z : ℤ). cut false width z ≡ z) (sym (held j h))
        (law.fitting false width (sum_above taps_of_run numbers (serial.bits - 1 - j)) wide
        (above_fits taps_of_run serial.low serial.high numbers width least (run_within serial.size serial.taps serial.low serial.high (window_at v window pace n) number within) negative positive (serial.bits - 1 - j)))

    pub run_sum : v (pace.start + n * pace.period + (serial.bits + 1)) sum.place ≡ weighted_sum (run serial.size serial.taps number) (λ k. window_at v window pace n (number * serial.size + k))
    run_sum =
        let last : ℕ = serial.bits - 1 in
        let tick : pace.start + n * pace.period + (serial.bits + 1) ≡ pace.start + 1 + n * pace.period + suc last = omega arith in
        let none : serial.bits - 1 - last ≡ 0 = omega arith in
        ap (λ (t : ℕ). v t sum.place) tick ∙ holds.held cut law inputs v r n last (omega arith) (λ i l. kept i (omega arith)) ∙ held last (omega arith) ∙ ap (sum_above taps_of_run numbers) none ∙ whole_law taps_of_run numbers

-- ---- the table and the register of a run

pub AddsRun-circuit : {old mid new : NetView} {highs : List Node} {number width : ℕ} {table sum : Node} (serial : Serial) (pace : Pace) (window address : List Node) → 1 ≤ serial.bits → serial.bits ≤ pace.period → 1 ≤ width → width ≤ 127 → serial.low ≤ℤ pos 0 → pos 0 ≤ℤ serial.high
    → length highs ≡ length serial.taps → AreCopied old.cells pace serial.bits window highs → ((k : ℕ) → k < serial.size → number * serial.size + k < length highs → node_at address k ≡ node_at highs (number * serial.size + k))
    → AddsTable old mid number (run serial.size serial.taps number) (node_at address) table → AddsAccumulator mid new pace.period (pace.start + 1) table number width sum
    → IsLeastWidth (low_end (run serial.size serial.taps number) serial.low serial.high) (low_end (run serial.size serial.taps number) serial.high serial.low) width
    → AddsRun old new serial pace window highs number (record { node = sum; place = 0; negative = false })
AddsRun-circuit {old} {mid} {new} {highs} {number} {width} {table} {sum} serial pace window address some enough wide most negative positive many copies addressed t a least =
    let same = t.part.grows.group in
    let e1 = a.part.grows.extends in
    let e0 = Extends-trans _ _ _ t.part.grows.extends e1 in
    record {
      part = AddsPart-then (λ name. name ≡ name_of old.group Table number) (λ name. name ≡ name_of mid.group Register number) (IsNumbered old.group number) (λ name e. (ap (λ (n : Name). n.group) e, ap (λ (n : Name). n.number) e))
          (λ name e. (ap (λ (n : Name). n.group) e ∙ same, ap (λ (n : Name). n.number) e)) t.part a.part;
      tables = λ bound has. HasTables-grown a.part.grows (t.part.grows.bound bound) (a.part.tabled ∙ omega arith) (t.tables bound has);
      shallow = λ s plain.
          let s1 : IsShallow mid.cells mid.group = subst (λ (g : ℕ). IsShallow mid.cells g) (sym same) (part_shallow t.part s) in
          let table_plain : IsPlain mid.cells old.group table.place = t.plain.plain s.bound (λ k inside. ons k inside plain) in
          subst (λ (g : ℕ). IsShallow new.cells g) same (a.shallow s1 (subst (λ (g : ℕ). IsPlain mid.cells g table.place) (sym same) table_plain));
      sums = record {
        width = width;
        some = wide;
        most = most;
        register = subst (λ (g : ℕ). IsRegister new.cells sum.place g (name_of g Register number) width) same a.register;
        whole = refl;
        added = refl;
        sums = λ cut law keeps inputs v r n fits within.
            run_sum serial pace window address number some enough wide negative positive many copies addressed e0 t.sums e1 a.serial least cut law keeps inputs v r n fits within;
      };
    }
  where
    ons : (k : ℕ) → k < length (run serial.size serial.taps number) → AreSelected old.cells highs → IsPlain old.cells old.group (node_at address k).place
    ons k inside plain =
        let place : number * serial.size + k < length highs = let less = in_taps serial.size serial.taps number k inside in omega (arith, less, many) in
        let below : k < serial.size = let all = length-run serial.size serial.taps number in omega (arith, all) in
        subst (λ (m : Node). IsPlain old.cells old.group m.place) (sym (addressed k below place)) (plain_high old.cells old.group _ (plain.each (number * serial.size + k) place))

-- ---- all runs

pub AddsRuns-none : (net : NetView) (serial : Serial) (pace : Pace) (window highs : List Node) → AddsRuns net net serial pace window highs 0 []
AddsRuns-none net serial pace window highs = record { part = AddsPart-none net (IsBelow net.group 0); tables = λ bound has. has; shallow = λ s plain. s; many = refl; each = λ k leaf is. absurd (cc) }

pub AddsRuns-push : {old mid new : NetView} {highs : List Node} {count : ℕ} {leaves : List Leaf} {leaf : Leaf} (serial : Serial) (pace : Pace) (window : List Node) → AddsRuns old mid serial pace window highs count leaves → AddsRun mid new serial pace window highs count leaf
    → AddsRuns old new serial pace window highs (count + 1) (leaves ++ leaf ∷ [])
AddsRuns-push {old} {mid} {new} {highs} {count} {leaves} {leaf} serial pace window p a =
    let same = p.part.grows.group in
    let adders : count * 2 + 2 ≡ (count + 1) * 2 = omega arith in
    let part = AddsPart-then (IsBelow old.group count) (IsNumbered mid.group count) (IsBelow old.group (count + 1)) (λ name h. (h.0, let l = h.1 in omega arith)) (λ name h. (h.0 ∙ same, let n = h.1 in omega arith)) p.part a.part in
    record {
      part = subst (λ (k : ℕ). AddsPart old new (IsBelow old.group (count + 1)) k (count + 1)) adders part;
      tables = λ bound has. a.tables (p.part.grows.bound bound) (p.tables bound has);
      shallow = λ s plain.
          let s1 : IsShallow mid.cells mid.group = subst (λ (g : ℕ). IsShallow mid.cells g) (sym same) (p.shallow s plain) in
          subst (λ (g : ℕ). IsShallow new.cells g) same (a.shallow s1 (AreSelected-later p.part.grows.extends plain));
      many = let m = p.many in rw length-append (omega arith);
      each = λ k found is. elim (slice_get_push_cases leaves leaf k found is) [
        | inl before ↦ SumsRun-later a.part.grows.extends (p.each k found before)
        | inr last ↦
            let here = subst (λ (g : ℕ). SumsRun new.cells g serial pace window count leaf) same a.sums in
            let place : count ≡ k = sym p.many ∙ sym last.0 in
            subst (λ (l : Leaf). SumsRun new.cells old.group serial pace window k l) (sym last.1) (subst (λ (n : ℕ). SumsRun new.cells old.group serial pace window n leaf) place here)
      ];
    }
