-- A window over a stream that is cut to the width of its values.
use Rattle.std.proofs.Common.{◌≡◌, ℕ, ◌+◌, ◌*◌, ◌^◌, ◌<◌, ◌≤◌, List, [], ◌∷◌, length, refl, sym, ◌∙◌, ap, arith, subst, ℤ, pos, ◌+ℤ◌, ◌-ℤ◌, ◌*ℤ◌, Bool, true, false, Some, slice_get}
use Rattle.std.proofs.lemmas.Int.{ints}
use Rattle.std.proofs.lemmas.Option.{slice_get_within}
use Rattle.mr_values.specs.Sequence.{Sequence, filter}
use Rattle.mr_values.specs.Width.{FitsWidth}
use Rattle.net_graph.specs.declared.cell.Cell.{Cell}
use Rattle.net_graph.specs.declared.cell.Node.{Node}
use Rattle.net_graph.specs.declared.cell.Stream.{Stream}
use Rattle.net_graph.specs.declared.cell.Item.TheVariants.{Shl}
use Rattle.net_graph.specs.declared.name.NameKind.TheVariants.{Window}
use Rattle.net_graph.specs.Cells.{NetView, cell_at}
use Rattle.net_graph.specs.Count.{windows_in, tables_in}
use Rattle.net_graph.specs.Grow.{Adds}
use Rattle.net_graph.proofs.CellLemmas.{cell_at-is}
use Rattle.net_graph.proofs.GroupLemmas.{nameless_data}
use Rattle.net_graph.proofs.NetLemmas.{cell_of_added}
use Rattle.net_graph.proofs.GrowLemmas.{Grows-refl, Grows-trans, Grows-data}
use Rattle.pipeline_balance.specs.Gate.{IsWindow}
use Rattle.pipeline_balance.specs.Numbered.{IsRegister, IsCounted, IsTouched, name_of}
use Rattle.pipeline_balance.proofs.NumberedLemmas.{free_adds, LeavesFree-refl, LeavesFree-trans, IsCounted-leaves}
use Rattle.pipeline_balance.proofs.CostLemmas.{SameAdders-refl, SameAdders-trans, SameAdders-plain, SameNamed-refl, SameNamed-adds}
use Rattle.pipeline_balance.proofs.ShallowLemmas.{plain_register}
use Rattle.pipeline_balance.proofs.ShapeLemmas.{KeepsShapes-refl, KeepsShapes-trans, KeepsShapes-adds}
use Rattle.stage_law.specs.Realises.{IsUnused}
use Rattle.stage_law.specs.Streams.{Streams}
use Rattle.stage_law.specs.Range.{InClass}
use Rattle.stage_law.specs.declared.ranges.Class.{Class}
use Rattle.fir_pieces.specs.Cutting.{IsNarrowed, AddsClassWindow, AddsWindow}
use Rattle.fir_pieces.specs.Held.{IsClassWidth}
use Rattle.fir_pieces.specs.Listed.{every}
use Rattle.fir_pieces.proofs.HeldLemmas.{between}

pub IsNarrowed-same : (net : NetView) (node : Node) (width : ℕ) → node.place < length net.cells → (cell_at net.cells node.place).width ≡ width → IsNarrowed net net node width node
IsNarrowed-same net node width within wide = record {
  grows = Grows-refl net;
  within = within;
  wide = wide;
  keeps = λ cut law x v r t fits. refl;
  adders = SameAdders-refl net.cells;
  named = SameNamed-refl net.cells;
  names = LeavesFree-refl net.cells (λ name. ⊥);
  linear = KeepsShapes-refl net.cells;
}

pub IsNarrowed-cut : {old new : NetView} {from to : Node} {width : ℕ} → 1 ≤ width → 1 ≤ old.group → Adds old new to width (Shl from 0) → IsNarrowed old new from width to
IsNarrowed-cut {old} {new} {from} {to} {width} wide data_group a =
    let there = cell_of_added a in
    let own : (cell_at new.cells to.place).width ≡ width = ap (λ (c : Cell). c.width) (cell_at-is new.cells to.place _ there) in
    record {
      grows = Grows-data data_group a refl;
      within = slice_get_within new.cells to.place _ there;
      wide = own;
      keeps = λ cut law x v r t fits.
          r.each to.place _ there t ∙ ap (λ (c : Bool). cut c width (v t from.place *ℤ pos (2 ^ 0))) (nameless_data old.group true data_group) ∙ ap (cut false width) (times_one (v t from.place)) ∙ law.fitting false width (v t from.place) wide fits;
      adders = SameAdders-plain a refl;
      named = SameNamed-adds a;
      names = record { free = λ name other f. free_adds a name f };
      linear = KeepsShapes-adds a tt;
    }
  where
    times_one : (z : ℤ) → z *ℤ pos 1 ≡ z
    times_one z = omega (arith, ints)

no_names : (cells : List Cell) (group : ℕ) → IsUnused cells group → IsCounted cells group Window 0
no_names cells group u = record { used = λ number less f. absurd (omega arith); free = λ number more. u.free Window number }

-- the values of a class fit
pub value_fits : (streams : Streams) (class : Class) (width : ℕ) → IsClassWidth streams class (pos 1 ∷ []) width → (v : Sequence) → streams v → (k : ℕ) → InClass class k → FitsWidth width (v (pos k))
value_fits streams class width w v is k in_class =
    let at : pos k -ℤ pos 0 ≡ pos k = omega (arith, ints) in
    let same : filter (pos 1 ∷ []) v (pos k) ≡ v (pos k) = plain (v (pos k -ℤ pos 0)) ∙ ap v at in
    subst (FitsWidth width) same (between width w.range.lo (filter (pos 1 ∷ []) v (pos k)) w.range.hi w.least.holds_low w.least.holds_high (w.is_range.low v is k in_class) (w.is_range.high v is k in_class))
  where
    plain : (z : ℤ) → pos 1 *ℤ z +ℤ pos 0 ≡ z
    plain z = omega (arith, ints)

pub AddsClassWindow-cut : {old mid new : NetView} {node : Node} {width : ℕ} {nodes : List Node} (streams : Streams) (taken : Stream) (class : Class) → IsClassWidth streams class (pos 1 ∷ []) width → IsNarrowed old mid taken.node width node → IsWindow mid new (record { node = node; period = taken.period; offset = taken.offset }) nodes
    → AddsClassWindow streams old new taken class nodes
AddsClassWindow-cut {old} {mid} {new} {node} {width} {nodes} streams taken class least n w =
    let same = n.grows.group in
    let counted_on = λ (count : ℕ) (c : IsCounted old.cells old.group Window count).
    IsCounted-leaves mid.group Window count n.grows.extends n.names (λ number no. no) (subst (λ (g : ℕ). IsCounted old.cells g Window count) (sym same) c) in
    record {
      grows = Grows-trans n.grows w.grows;
      node = node;
      width = width;
      least = least;
      keeps = λ cut law x v r t fits. n.keeps cut law x v (w.grows.extends.runs cut law x v r) t fits;
      holds = w.holds;
      plain = λ count c. record { each = λ age found is. plain_register old.group (w.registers count (counted_on count c) age found is) };
      adders = SameAdders-trans n.adders w.adders;
      windows = subst (λ (g : ℕ). windows_in g new.cells ≡ windows_in g mid.cells + length nodes) same w.windows ∙ ap (λ (m : ℕ). m + length nodes) (n.named.windows old.group);
      tables = subst (λ (g : ℕ). tables_in g new.cells ≡ tables_in g mid.cells) same w.tables ∙ n.named.tables old.group;
      registers = λ count c age found is.
          let register = w.registers count (counted_on count c) age found is in
          subst (λ (g : ℕ). IsRegister new.cells found.place g (name_of g Window (count + age)) width) same (subst (λ (w : ℕ). IsRegister new.cells found.place mid.group (name_of mid.group Window (count + age)) w) n.wide register);
      counted = λ count c. subst (λ (g : ℕ). IsCounted new.cells g Window (count + length nodes)) same (w.counted count (counted_on count c));
      names = LeavesFree-trans old.cells mid.cells new.cells (λ name. ⊥) (IsTouched mid.group Window) (IsTouched old.group Window) (λ name no. absurd no) (λ name h. subst (λ (g : ℕ). IsTouched g Window name) same h) n.names w.names;
      linear = KeepsShapes-trans n.linear w.linear;
    }

-- of every value, in a group of its own
pub AddsWindow-class : {old new : NetView} {nodes : List Node} (streams : Streams) (from : Stream) → IsUnused old.cells old.group → AddsClassWindow streams old new from every nodes → AddsWindow streams old new from nodes
AddsWindow-class {old} {new} {nodes} streams from unused w =
    let none = no_names old.cells old.group unused in
    let register_at = λ (age : ℕ) (found : Node) (is : slice_get nodes age ≡ Some found).
    let from_none : 0 + age ≡ age = omega arith in
    subst (λ (n : ℕ). IsRegister new.cells found.place old.group (name_of old.group Window n) w.width) from_none (w.registers 0 none age found is) in
    record {
      grows = w.grows;
      window = record {
        taken = record { node = w.node; period = from.period; offset = from.offset };
        period = refl;
        offset = refl;
        carries = λ cut law x v s is r carried k.
            let t = from.offset + k * from.period in
            let fits : FitsWidth w.width (v t from.node.place) = subst (FitsWidth w.width) (sym (carried k)) (value_fits streams every w.width w.least s is k (omega arith)) in
            w.keeps cut law x v r t fits ∙ carried k;
        holds = w.holds;
      };
      wide = record {
        width = w.width;
        least = w.least;
        narrow = λ age found is.
            let register = register_at age found is in
            let own_width : (cell_at new.cells found.place).width ≡ w.width = ap (λ (c : Cell). c.width) (cell_at-is new.cells found.place register.cell register.there) ∙ register.wide in
            let some = w.least.least.positive in
            (slice_get_within new.cells found.place register.cell register.there, omega (arith, own_width, some), omega (arith, own_width));
      };
      plain = w.plain 0 none;
      adders = w.adders;
      windows = w.windows;
      registers = register_at;
      counted = let from_none : 0 + length nodes ≡ length nodes = omega arith in subst (λ (n : ℕ). IsCounted new.cells old.group Window n) from_none (w.counted 0 none);
      tables = w.tables;
      names = w.names;
      linear = w.linear;
    }
