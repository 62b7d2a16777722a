-- The bits of a window in a net.
use Rattle.std.proofs.Common.{◌≡◌, ℕ, ◌+◌, ◌*◌, ◌^◌, ◌≤◌, List, length, refl, sym, ◌∙◌, ap, subst, arith, inl, inr, Some, slice_get, ℤ, pos, ◌*ℤ◌, Bool, true, false}
use Rattle.std.proofs.lemmas.Int.{ints}
use Rattle.std.proofs.lemmas.Option.{slice_get-get_or, slice_get_within}
use Rattle.net_graph.specs.declared.cell.Cell.{Cell}
use Rattle.net_graph.specs.declared.cell.Node.{Node}
use Rattle.net_graph.specs.declared.cell.Stream.{Stream}
use Rattle.net_graph.specs.declared.cell.Item.TheVariants.{Shl}
use Rattle.net_graph.specs.declared.name.Name.{Name}
use Rattle.net_graph.specs.declared.name.NameKind.TheVariants.{Control, Copy, Window}
use Rattle.net_graph.specs.Cells.{NetView, cell_at}
use Rattle.net_graph.specs.Count.{adders_in, tables_in, windows_in}
use Rattle.net_graph.specs.Grow.{Extends, Grows, Adds}
use Rattle.net_graph.specs.WellFormed.{IsFree, IsWidth}
use Rattle.net_graph.proofs.CellLemmas.{cell_at-is}
use Rattle.net_graph.proofs.CountLemmas.{adders_plain}
use Rattle.net_graph.proofs.GroupLemmas.{nameless_data}
use Rattle.net_graph.proofs.GrowLemmas.{Grows-trans, Grows-data}
use Rattle.net_graph.proofs.NetLemmas.{cell_of_added}
use Rattle.pipeline_balance.specs.Gate.{IsBitOf, IsCounter, IsTickOf, IsWindow}
use Rattle.pipeline_balance.specs.Numbered.{IsCounted, IsTouched, LeavesFree, name_of}
use Rattle.pipeline_balance.specs.Phase.{IsNarrow}
use Rattle.pipeline_balance.proofs.CostLemmas.{SameNamed-adds}
use Rattle.pipeline_balance.proofs.NumberedLemmas.{IsRegister-later, LeavesFree-trans, free_adds}
use Rattle.pipeline_balance.proofs.TakenLemmas.{Holds-later, IsBitOf-later}
use Rattle.distributed_table.specs.Copies.{AddsCopies, node_at}
use Rattle.distributed_table.specs.Shown.{AddsShown, IsShownName}

-- the stream, cut
abbrev pub cut_stream : Stream → Node → Stream
cut_stream from cut = record { node = cut; period = from.period; offset = from.offset }

-- the registers of the window are as wide as the cut
pub window_narrow : {n0 n1 n2 : NetView} {more : List Cell} {window : List Node} {cut : Node} (from : Stream) (bits : ℕ) → IsWidth bits → ((number : ℕ) → IsFree n0.cells (name_of n0.group Window number)) → Adds n0 n1 cut bits (Shl from.node 0)
    → IsWindow n1 n2 (cut_stream from cut) window → Extends n2.cells more → (age : ℕ) (node : Node) → slice_get window age ≡ Some node → IsNarrow more bits node
window_narrow {n0} {n1} {n2} {more} {window} {cut} from bits wide free a w e age node is =
    let counted : IsCounted n1.cells n1.group Window 0 = record {
      used = λ number less f. absurd (omega arith);
      free = λ number least. free_adds a (name_of n1.group Window number) (subst (λ (g : ℕ). IsFree n0.cells (name_of g Window number)) (sym a.group) (free number));
    } in
    let r = IsRegister-later e (w.registers 0 counted age node is) in
    let own : (cell_at more node.place).width ≡ bits = ap (λ (c : Cell). c.width) (cell_at-is more node.place r.cell r.there) ∙ r.wide ∙ ap (λ (c : Cell). c.width) (cell_at-is n1.cells cut.place _ (cell_of_added a)) in
    let some = wide.0 in
    record { within = slice_get_within more node.place r.cell r.there; some = omega (arith, own, some); most = omega (arith, own) }

module _ {n0 n1 n2 n3 n4 n5 : NetView} {window highs : List Node} {cut load begin : Node} (from : Stream) (depth down bits : ℕ) (some : 1 ≤ n0.group) (a : Adds n0 n1 cut bits (Shl from.node 0)) (w : IsWindow n1 n2 (cut_stream from cut) window) (deep : length window ≡ depth)
    (l : IsCounter n2 n3 (IsTickOf (from.period * down) (from.offset + 1)) load) (b : IsCounter n3 n4 (IsTickOf (from.period * down) (from.offset + 2)) begin) (c : AddsCopies n4 n5 (from.period * down) (from.offset + 1) bits window highs) (many : length highs ≡ depth) where
  g1 : n1.group ≡ n0.group
  g1 = a.group

  g2 : n2.group ≡ n0.group
  g2 = w.grows.group ∙ g1

  g3 : n3.group ≡ n0.group
  g3 = l.grows.group ∙ g2

  g4 : n4.group ≡ n0.group
  g4 = b.grows.group ∙ g3

  first : Grows n0 n1
  first = Grows-data some a refl

  rest : Grows n2 n5
  rest = Grows-trans l.grows (Grows-trans b.grows c.part.grows)

  pub shown_grows : Grows n0 n5
  shown_grows = Grows-trans first (Grows-trans w.grows rest)

  shown_names : LeavesFree n0.cells n5.cells (IsShownName n0.group)
  shown_names =
      let one : LeavesFree n0.cells n1.cells (λ name. ⊥) = record { free = λ name other f. free_adds a name f } in
      let two = LeavesFree-trans n0.cells n1.cells n2.cells (λ name. ⊥) (IsTouched n1.group Window) (IsShownName n0.group) (λ name no. absurd no) (λ name h. of_window name h) one w.names in
      let three = LeavesFree-trans n0.cells n2.cells n3.cells (IsShownName n0.group) (λ name. name.kind ≡ Control) (IsShownName n0.group) (λ name h. h) (λ name h. inr h) two l.names in
      let four = LeavesFree-trans n0.cells n3.cells n4.cells (IsShownName n0.group) (λ name. name.kind ≡ Control) (IsShownName n0.group) (λ name h. h) (λ name h. inr h) three b.names in
      LeavesFree-trans n0.cells n4.cells n5.cells (IsShownName n0.group) (IsTouched n4.group Copy) (IsShownName n0.group) (λ name h. h) (λ name h. of_copy name h) four c.part.names
    where
      of_window : (name : Name) → IsTouched n1.group Window name → IsShownName n0.group name
      of_window name (inl h) = inl (h.0 ∙ g1, inl h.1)
      of_window name (inr h) = inr h

      of_copy : (name : Name) → IsTouched n4.group Copy name → IsShownName n0.group name
      of_copy name (inl h) = inl (h.0 ∙ g4, inr h.1)
      of_copy name (inr h) = inr h

  shown_adders : adders_in n0.group n5.cells ≡ adders_in n0.group n0.cells
  shown_adders =
      let five : adders_in n0.group n5.cells ≡ adders_in n0.group n4.cells + 0 = subst (λ (g : ℕ). adders_in g n5.cells ≡ adders_in g n4.cells + 0) g4 c.part.counts in
      five ∙ nothing (adders_in n0.group n4.cells) ∙ b.adders.each n0.group some ∙ l.adders.each n0.group some ∙ w.adders.each n0.group some ∙ adders_plain n0.group a refl
    where
      nothing : (n : ℕ) → n + 0 ≡ n
      nothing n = omega arith

  shown_windows : windows_in n0.group n5.cells ≡ windows_in n0.group n0.cells + depth
  shown_windows =
      let five : windows_in n0.group n5.cells ≡ windows_in n0.group n4.cells = subst (λ (g : ℕ). windows_in g n5.cells ≡ windows_in g n4.cells) g4 c.part.windows in
      let two : windows_in n0.group n2.cells ≡ windows_in n0.group n1.cells + length window = subst (λ (g : ℕ). windows_in g n2.cells ≡ windows_in g n1.cells + length window) g1 w.windows in
      let four = b.named.windows n0.group in
      let three = l.named.windows n0.group in
      let one = (SameNamed-adds a).windows n0.group in
      omega (arith, one, two, three, four, five, deep)

  shown_tables : tables_in n0.group n5.cells ≡ tables_in n0.group n0.cells
  shown_tables =
      let five : tables_in n0.group n5.cells ≡ tables_in n0.group n4.cells + 0 = subst (λ (g : ℕ). tables_in g n5.cells ≡ tables_in g n4.cells + 0) g4 c.part.tabled in
      let two : tables_in n0.group n2.cells ≡ tables_in n0.group n1.cells = subst (λ (g : ℕ). tables_in g n2.cells ≡ tables_in g n1.cells) g1 w.tables in
      let four = b.named.tables n0.group in
      let three = l.named.tables n0.group in
      let one = (SameNamed-adds a).tables n0.group in
      omega (arith, one, two, three, four, five)

  pub AddsShown-circuit : AddsShown n0 n5 from depth down bits highs begin
  AddsShown-circuit = record {
    grows = shown_grows;
    adders = shown_adders;
    windows = shown_windows;
    tables = shown_tables;
    names = shown_names;
    cut = cut;
    narrowed = λ cut_by law x v r t.
        let r1 = w.grows.extends.runs cut_by law x v (rest.extends.runs cut_by law x v r) in
        r1.each cut.place _ (cell_of_added a) t ∙ ap (λ (e : Bool). cut_by e bits (v t from.node.place *ℤ pos (2 ^ 0))) (nameless_data n0.group true some) ∙ ap (cut_by false bits) (once (v t from.node.place));
    window = window;
    deep = deep;
    many = many;
    holds = λ age less. Holds-later rest.extends (w.holds age (node_at window age) (slice_get-get_or window age (record { place = 0 }) (omega (arith, less, deep))));
    ready = λ some_bits enough. record {
      some = some_bits;
      enough = enough;
      copies = record { each = c.each };
      begins =
          let next : from.offset + 2 ≡ from.offset + 1 + 1 = omega arith in
          subst (λ (o : ℕ). IsBitOf n5.cells (IsTickOf (from.period * down) o) begin) next (IsBitOf-later b.bit_of c.part.grows.extends);
    };
    selected = record { each = λ k less. (c.each k less).selects };
  }
    where
      once : (z : ℤ) → z *ℤ pos (2 ^ 0) ≡ z
      once z = omega (arith, ints)
