-- Registers over what is read of a window.
use Rattle.std.proofs.Common.{◌≡◌, ℕ, zero, suc, ◌+◌, ◌*◌, ◌<◌, ◌≤◌, List, [], ◌∷◌, ◌++◌, length, length-append, map, get_or, refl, sym, ◌∙◌, ap, arith, inl, inr, subst, Bool, true, false, ℤ, pos, ◌+ℤ◌, ◌-ℤ◌, All, Some, slice_get}
use Rattle.std.proofs.lemmas.Option.{slice_get-get_or, slice_get_within}
use Rattle.mr_values.specs.Width.{FitsWidth}
use Rattle.net_graph.specs.declared.cell.Cell.{Cell}
use Rattle.net_graph.specs.declared.cell.Item.TheVariants.{Add, Sub}
use Rattle.net_graph.specs.declared.cell.Node.{Node}
use Rattle.net_graph.specs.declared.cell.Stream.{Stream}
use Rattle.net_graph.specs.declared.name.Name.{Name}
use Rattle.net_graph.specs.declared.name.NameKind.{NameKind}
use Rattle.net_graph.specs.declared.name.NameKind.TheVariants.{Control, Window, Copy, PreAdder, Register, Table, Output, Valid}
use Rattle.net_graph.specs.Cells.{NetView, cell_at}
use Rattle.net_graph.specs.Count.{is_window, is_table, adders_in}
use Rattle.net_graph.specs.Depth.{IsPlain, IsShallow}
use Rattle.net_graph.specs.Grow.{Extends, Adds}
use Rattle.net_graph.specs.Name.{IsRegisterKind, is_control_kind}
use Rattle.net_graph.specs.WellFormed.{IsFree, IsLeastFree}
use Rattle.net_graph.proofs.CellLemmas.{cell_at-is}
use Rattle.net_graph.proofs.CountLemmas.{adders_more}
use Rattle.net_graph.proofs.DepthLemmas.{IsPlain-later}
use Rattle.net_graph.proofs.GroupLemmas.{nameless_data}
use Rattle.net_graph.proofs.GrowLemmas.{Grows-refl, Grows-trans, Grows-data}
use Rattle.net_graph.proofs.Lists.{slice_get_push_cases}
use Rattle.net_graph.proofs.NetLemmas.{cell_of_added}
use Rattle.pipeline_balance.specs.Gate.{HasTaken, IsTaken, shown}
use Rattle.pipeline_balance.specs.Numbered.{IsRegister, IsCounted, IsTouched, LeavesFree, name_of}
use Rattle.pipeline_balance.specs.Shallow.{ArePlain}
use Rattle.pipeline_balance.proofs.CostLemmas.{SameNamed-refl, SameNamed-trans, SameNamed-adds}
use Rattle.pipeline_balance.proofs.DelayLemmas.{every_tick}
use Rattle.pipeline_balance.proofs.NumberedLemmas.{IsRegister-later, free_adds, width-later, LeavesFree-refl, LeavesFree-trans, IsCounted-leaves, IsCounted-more, least_is}
use Rattle.pipeline_balance.proofs.ShallowLemmas.{shallow_more, plain_register, ArePlain-later, SumsPlain-add, SumsPlain-sub}
use Rattle.pipeline_balance.proofs.ShapeLemmas.{KeepsShapes-refl, KeepsShapes-trans, KeepsShapes-adds}
use Rattle.pipeline_balance.proofs.TakenLemmas.{Holds-later}
use Rattle.pipeline_balance.proofs.WindowLemmas.{SameNamed-taken}
use Rattle.stage_law.specs.Streams.{Streams, AreCausal}
use Rattle.fir_pieces.specs.declared.held.Held.{Held}
use Rattle.fir_pieces.specs.declared.reading.Reading.{Reading}
use Rattle.fir_pieces.specs.declared.reading.Reading.TheVariants.{One, Sum, Difference}
use Rattle.fir_pieces.specs.Cutting.{IsNarrowed, IsWideWindow, IsCutWindow}
use Rattle.fir_pieces.specs.Form.{one_value, reading_form}
use Rattle.fir_pieces.specs.Held.{IsFormWidth, AreHeld}
use Rattle.fir_pieces.specs.Listed.{reading_sum, reading_sums}
use Rattle.fir_pieces.specs.Peaks.{HoldsForm}
use Rattle.fir_pieces.specs.Readers.{IsDataKind, at_node, IsCombined, TakesNext, TakesReading, AddsRegister, AddsRegisters, AddsReaders}
use Rattle.fir_pieces.specs.Reading.{read, ReadsWithin, reading_adders, all_adders, terms_at}
use Rattle.fir_pieces.proofs.MomentLemmas.{HoldsForm-by}
use Rattle.fir_pieces.proofs.HeldLemmas.{form_fits, taken_value-stream, weighted_sum-reading}
use Rattle.fir_pieces.proofs.ReadingLemmas.{read_same, within_at}
use Rattle.fir_pieces.proofs.UnitLemmas.{short_weights}
use Rattle.fir_pieces.proofs.WidthsLemmas.{AreHeld-at, slice_get_mapped, get_or-map}

-- ---- kinds

pub no_window : (kind : NameKind) → IsDataKind kind → is_window kind ≡ false
no_window Control d = absurd d
no_window Window d = absurd d
no_window Copy d = refl
no_window PreAdder d = refl
no_window Register d = refl
no_window Table d = absurd d
no_window Output d = absurd d
no_window Valid d = absurd d

pub no_table : (kind : NameKind) → IsDataKind kind → is_table kind ≡ false
no_table Control d = absurd d
no_table Window d = absurd d
no_table Copy d = refl
no_table PreAdder d = refl
no_table Register d = refl
no_table Table d = absurd d
no_table Output d = absurd d
no_table Valid d = absurd d

pub no_control : (kind : NameKind) (group : ℕ) → IsDataKind kind → is_control_kind kind group ≡ false
no_control Control group d = absurd d
no_control Window group d = absurd d
no_control Copy group d = refl
no_control PreAdder group d = refl
no_control Register group d = refl
no_control Table group d = absurd d
no_control Output group d = absurd d
no_control Valid group d = absurd d

pub register_kind : (kind : NameKind) (group number : ℕ) → IsDataKind kind → 1 ≤ group → IsRegisterKind kind group number
register_kind Control group number d some = absurd d
register_kind Window group number d some = absurd d
register_kind Copy group number d some = some
register_kind PreAdder group number d some = some
register_kind Register group number d some = some
register_kind Table group number d some = absurd d
register_kind Output group number d some = absurd d
register_kind Valid group number d some = absurd d

-- ---- windows in a longer net

pub IsWideWindow-later : {old new : List Cell} {nodes : List Node} (streams : Streams) → Extends old new → IsWideWindow streams old nodes → IsWideWindow streams new nodes
IsWideWindow-later {old} {new} {nodes} streams e w = record {
  width = w.width;
  least = w.least;
  narrow = λ age node is.
      let before = w.narrow age node is in
      let inside = before.0 in
      let some = before.1 in
      let most = before.2 in
      let longer = e.longer in
      let same = width-later old new node.place e inside in
      (omega arith, omega arith, omega arith);
}

pub IsCutWindow-later : {old new : List Cell} {from : Stream} {nodes : List Node} (streams : Streams) → Extends old new → IsCutWindow streams old from nodes → IsCutWindow streams new from nodes
IsCutWindow-later {old} {new} {from} {nodes} streams e w = record {
  taken = w.taken;
  period = w.period;
  offset = w.offset;
  carries = λ cut law x values v is run carried. w.carries cut law x values v is (e.runs cut law x values run) carried;
  holds = λ age node is. Holds-later e (w.holds age node is);
}

-- ---- what is read, in one node

pub IsCombined-one : {old new : NetView} {node to : Node} {width : ℕ} (window : List Node) (i : ℕ) → 1 ≤ old.group → get_or window i (record { place = 0 }) ≡ node → IsNarrowed old new node width to → IsCombined old new window (One i) width to
IsCombined-one {old} {new} {node} {to} {width} window i data_group e n = record {
  grows = n.grows;
  within = n.within;
  wide = n.wide;
  keeps = λ cut law x v r t fits. n.keeps cut law x v r t (subst (λ (m : Node). FitsWidth width (v t m.place)) e fits) ∙ sym (ap (λ (m : Node). v t m.place) e);
  adders = let same = n.adders.each old.group data_group in omega (arith, same);
  named = n.named;
  names = n.names;
  linear = n.linear;
  shallow = λ s plain. shallow_more old.group data_group n.grows n.adders s;
}

plain_at : (cells : List Cell) (group : ℕ) (window : List Node) (i : ℕ) (node : Node) → i < length window → get_or window i (record { place = 0 }) ≡ node → ArePlain cells group window → IsPlain cells group node.place
plain_at cells group window i node inside e plain = subst (λ (m : Node). IsPlain cells group m.place) e (plain.each i (get_or window i (record { place = 0 })) (slice_get-get_or window i (record { place = 0 }) inside))

pub IsCombined-add : {old new : NetView} {to : Node} {width : ℕ} (window : List Node) (i j : ℕ) (a b : Node) → 1 ≤ old.group → 1 ≤ width → i < length window → j < length window → get_or window i (record { place = 0 }) ≡ a → get_or window j (record { place = 0 }) ≡ b → Adds old new to width (Add a b)
    → IsCombined old new window (Sum i j) width to
IsCombined-add {old} {new} {to} {width} window i j a b data_group wide inside_a inside_b e f adds =
    let there = cell_of_added adds in
    record {
      grows = Grows-data data_group adds refl;
      within = slice_get_within new.cells to.place _ there;
      wide = ap (λ (c : Cell). c.width) (cell_at-is new.cells to.place _ there);
      keeps = λ cut law x v r t fits.
          r.each to.place _ there t ∙ ap (λ (c : Bool). cut c width (v t a.place +ℤ v t b.place)) (nameless_data old.group true data_group)
          ∙ ap (λ (m : Node). cut false width (v t m.place +ℤ v t b.place)) (sym e) ∙ ap (λ (m : Node). cut false width (at_node v t window i +ℤ v t m.place)) (sym f)
          ∙ law.fitting false width (at_node v t window i +ℤ at_node v t window j) wide fits;
      adders = adders_more old.group adds refl refl;
      named = SameNamed-adds adds;
      names = record { free = λ name other f. free_adds adds name f };
      linear = KeepsShapes-adds adds tt;
      shallow = λ s plain. (SumsPlain-add a b adds).shallow s (plain_at old.cells old.group window i a inside_a e plain) (plain_at old.cells old.group window j b inside_b f plain);
    }

pub IsCombined-sub : {old new : NetView} {to : Node} {width : ℕ} (window : List Node) (i j : ℕ) (a b : Node) → 1 ≤ old.group → 1 ≤ width → i < length window → j < length window → get_or window i (record { place = 0 }) ≡ a → get_or window j (record { place = 0 }) ≡ b → Adds old new to width (Sub a b)
    → IsCombined old new window (Difference i j) width to
IsCombined-sub {old} {new} {to} {width} window i j a b data_group wide inside_a inside_b e f adds =
    let there = cell_of_added adds in
    record {
      grows = Grows-data data_group adds refl;
      within = slice_get_within new.cells to.place _ there;
      wide = ap (λ (c : Cell). c.width) (cell_at-is new.cells to.place _ there);
      keeps = λ cut law x v r t fits.
          r.each to.place _ there t ∙ ap (λ (c : Bool). cut c width (v t a.place -ℤ v t b.place)) (nameless_data old.group true data_group)
          ∙ ap (λ (m : Node). cut false width (v t m.place -ℤ v t b.place)) (sym e) ∙ ap (λ (m : Node). cut false width (at_node v t window i -ℤ v t m.place)) (sym f)
          ∙ law.fitting false width (at_node v t window i -ℤ at_node v t window j) wide fits;
      adders = adders_more old.group adds refl refl;
      named = SameNamed-adds adds;
      names = record { free = λ name other f. free_adds adds name f };
      linear = KeepsShapes-adds adds tt;
      shallow = λ s plain. (SumsPlain-sub a b adds).shallow s (plain_at old.cells old.group window i a inside_a e plain) (plain_at old.cells old.group window j b inside_b f plain);
    }

-- ---- a register after it

pub TakesNext-taken : {old new : NetView} {from to : Node} {kind : NameKind} {group number : ℕ} → IsDataKind kind → group ≡ old.group → IsLeastFree old.cells group kind number → IsTaken old new (record { node = from; period = 1; offset = 0 }) (name_of group kind number) to → TakesNext old new kind from to
TakesNext-taken {old} {new} {from} {to} {kind} {group} {number} of_data same least t = record {
  grows = t.grows same;
  adders = t.adders;
  named_same = SameNamed-taken (no_window kind of_data) (no_table kind of_data) t;
  named = λ count c. subst (λ (n : Name). IsRegister new.cells to.place old.group n (cell_at old.cells from.place).width) (name_is count c) t.register;
  counted = λ count c.
      let leaves : LeavesFree old.cells new.cells (λ name. name ≡ name_of old.group kind count) = subst (λ (m : Name). LeavesFree old.cells new.cells (λ name. name ≡ m)) (name_is count c) t.names in
      let used : IsFree new.cells (name_of old.group kind count) → ⊥ = subst (λ (m : Name). IsFree new.cells m → ⊥) (name_is count c) (λ f. f.none to.place t.register.cell t.register.there t.register.named) in
      IsCounted-more old.group kind count t.lengthens.extends leaves used c;
  names = LeavesFree-trans old.cells old.cells new.cells (λ name. ⊥) (λ name. name ≡ name_of group kind number) (IsTouched old.group kind) (λ name no. absurd no)
      (λ name h. inl (ap (λ (n : Name). n.group) h ∙ same, ap (λ (n : Name). n.kind) h)) (LeavesFree-refl old.cells (λ name. ⊥)) t.names;
  linear = t.linear;
  plain = plain_register old.group t.register;
  wide = (t.holds.within, ap (λ (c : Cell). c.width) (cell_at-is new.cells to.place t.register.cell t.register.there) ∙ t.register.wide);
  starts = λ cut law x v r. t.holds.holds cut law x v r 0 0 (every_tick 0);
  steps = λ cut law x v r s. let at : 0 + s * 1 ≡ s = omega arith in t.holds.holds cut law x v r (suc s) (suc s) (every_tick (suc s)) ∙ ap (λ (u : ℕ). v u from.place) at;
}
  where
    name_is : (count : ℕ) → IsCounted old.cells old.group kind count → name_of group kind number ≡ name_of old.group kind count
    name_is count c =
        let number_is : number ≡ count = least_is old.cells old.group kind count number c (subst (λ (g : ℕ). IsLeastFree old.cells g kind number) same least) in
        ap (λ (g : ℕ). name_of g kind number) same ∙ ap (λ (k : ℕ). name_of old.group kind k) number_is

-- ---- one register over what is read

pub AddsRegister-of : {old mid new : NetView} {window : List Node} {kind : NameKind} {reading : Reading} {width : ℕ} {node to : Node} → 1 ≤ old.group → IsCombined old mid window reading width node → TakesNext mid new kind node to → AddsRegister old new window kind reading width to
AddsRegister-of {old} {mid} {new} {window} {kind} {reading} {width} {node} {to} data_group c t = record {
  grows = Grows-trans c.grows t.grows;
  adders = t.adders.each old.group data_group ∙ c.adders;
  named_same = SameNamed-trans c.named t.named_same;
  named = λ count n.
      let register = subst (λ (g : ℕ). IsRegister new.cells to.place g (name_of g kind count) (cell_at mid.cells node.place).width) same (t.named count (mid_count count n)) in
      subst (λ (w : ℕ). IsRegister new.cells to.place old.group (name_of old.group kind count) w) c.wide register;
  counted = λ count n. subst (λ (g : ℕ). IsCounted new.cells g kind (suc count)) same (t.counted count (mid_count count n));
  names = LeavesFree-trans old.cells mid.cells new.cells (λ name. ⊥) (IsTouched mid.group kind) (IsTouched old.group kind) (λ name no. absurd no) (λ name h. subst (λ (g : ℕ). IsTouched g kind name) same h) c.names t.names;
  linear = KeepsShapes-trans c.linear t.linear;
  shallow = λ s plain. shallow_more old.group data_group t.grows t.adders (c.shallow s plain);
  plain = subst (λ (g : ℕ). IsPlain new.cells g to.place) same t.plain;
  takes = record {
    wide = (t.wide.0, t.wide.1 ∙ c.wide);
    starts = t.starts;
    steps = λ cut law x v run tick fits. t.steps cut law x v run tick ∙ c.keeps cut law x v (t.grows.extends.runs cut law x v run) tick fits;
  };
}
  where
    same : mid.group ≡ old.group
    same = c.grows.group

    mid_count : (count : ℕ) → IsCounted old.cells old.group kind count → IsCounted mid.cells mid.group kind count
    mid_count count n = subst (λ (g : ℕ). IsCounted mid.cells g kind count) (sym same) (IsCounted-leaves old.group kind count c.grows.extends c.names (λ number no. no) n)

pub TakesReading-later : {old new : List Cell} {window : List Node} {reading : Reading} {width : ℕ} {node : Node} → Extends old new → TakesReading old window reading width node → TakesReading new window reading width node
TakesReading-later {old} {new} {window} {reading} {width} {node} e t = record {
  wide = let inside = t.wide.0 in let longer = e.longer in (omega (arith, inside, longer), width-later old new node.place e inside ∙ t.wide.1);
  starts = λ cut law x v run. t.starts cut law x v (e.runs cut law x v run);
  steps = λ cut law x v run. t.steps cut law x v (e.runs cut law x v run);
}

-- ---- one after another

pub AddsRegisters-none : (net : NetView) (window : List Node) (kind : NameKind) (widths : List ℕ) → AddsRegisters net net window kind [] widths []
AddsRegisters-none net window kind widths = record {
  grows = Grows-refl net;
  many = refl;
  adders = omega arith;
  named_same = SameNamed-refl net.cells;
  counted = λ count c. let same : count ≡ count + 0 = omega arith in subst (λ (n : ℕ). IsCounted net.cells net.group kind n) same c;
  names = LeavesFree-refl net.cells (IsTouched net.group kind);
  linear = KeepsShapes-refl net.cells;
  shallow = λ s plain. s;
  plain = λ bound. record { each = λ k node is. absurd (cc) };
  takes = λ k r node is. absurd (cc);
  named = λ count k node c is. absurd (cc);
}

all_adders-push : (rs : List Reading) (r : Reading) → all_adders (rs ++ r ∷ []) ≡ all_adders rs + reading_adders r
all_adders-push [] r = omega arith
all_adders-push (s ∷ rs) r = let rest = all_adders-push rs r in omega arith

pub AddsRegisters-push : {old mid new : NetView} {window nodes : List Node} {kind : NameKind} {readings : List Reading} {widths : List ℕ} {to : Node} (r : Reading) → AddsRegisters old mid window kind readings widths nodes → AddsRegister mid new window kind r (get_or widths (length readings) 0) to
    → AddsRegisters old new window kind (readings ++ r ∷ []) widths (nodes ++ to ∷ [])
AddsRegisters-push {old} {mid} {new} {window} {nodes} {kind} {readings} {widths} {to} r p a = record {
  grows = Grows-trans p.grows a.grows;
  many = let first = p.many in let x = length-append nodes (to ∷ []) in let y = length-append readings (r ∷ []) in omega (arith, first, x, y);
  adders =
      let before = p.adders in
      let now : adders_in old.group new.cells ≡ adders_in old.group mid.cells + reading_adders r = subst (λ (g : ℕ). adders_in g new.cells ≡ adders_in g mid.cells + reading_adders r) same a.adders in
      omega (arith, before, now, all_adders-push readings r);
  named_same = SameNamed-trans p.named_same a.named_same;
  counted = λ count c.
      let y = length-append readings (r ∷ []) in
      let next : suc (count + length readings) ≡ count + length (readings ++ r ∷ []) = omega (arith, y) in
      subst (λ (n : ℕ). IsCounted new.cells old.group kind n) next (subst (λ (g : ℕ). IsCounted new.cells g kind (suc (count + length readings))) same (a.counted (count + length readings) (mid_count count c)));
  names = LeavesFree-trans old.cells mid.cells new.cells (IsTouched old.group kind) (IsTouched mid.group kind) (IsTouched old.group kind) (λ name h. h) (λ name h. subst (λ (g : ℕ). IsTouched g kind name) same h) p.names a.names;
  linear = KeepsShapes-trans p.linear a.linear;
  shallow = λ s plain.
      let s1 : IsShallow mid.cells mid.group = subst (λ (g : ℕ). IsShallow mid.cells g) (sym same) (p.shallow s plain) in
      let plain1 : ArePlain mid.cells mid.group window = subst (λ (g : ℕ). ArePlain mid.cells g window) (sym same) (ArePlain-later old.cells mid.cells old.group window s.bound p.grows.extends plain) in
      subst (λ (g : ℕ). IsShallow new.cells g) same (a.shallow s1 plain1);
  plain = λ bound. record {
    each = λ k node is. elim (slice_get_push_cases nodes to k node is) [
      | inl before ↦ IsPlain-later mid.cells new.cells old.group (p.grows.bound bound) a.grows.extends node.place ((p.plain bound).each k node before)
      | inr last ↦ subst (λ (m : Node). IsPlain new.cells old.group m.place) (sym last.1) (subst (λ (g : ℕ). IsPlain new.cells g to.place) same a.plain)
    ];
  };
  takes = λ k found node is there.
      let many = p.many in
      elim (slice_get_push_cases readings r k found is) [
        | inl before ↦ elim (slice_get_push_cases nodes to k node there) [
          | inl here ↦ TakesReading-later a.grows.extends (p.takes k found node before here)
          | inr last ↦ absurd (let inside = slice_get_within readings k found before in let at = last.0 in omega (arith, inside, at, many))
        ]
        | inr own ↦ elim (slice_get_push_cases nodes to k node there) [
          | inl here ↦ absurd (let inside = slice_get_within nodes k node here in let at = own.0 in omega (arith, inside, at, many))
          | inr last ↦
              subst (λ (m : Node). TakesReading new.cells window found (get_or widths k 0) m) (sym last.1)
              (subst (λ (x : Reading). TakesReading new.cells window x (get_or widths k 0) to) (sym own.1)
              (subst (λ (n : ℕ). TakesReading new.cells window r (get_or widths n 0) to) (sym own.0) a.takes))
        ]
      ];
  named = λ count k node c there. elim (slice_get_push_cases nodes to k node there) [
    | inl here ↦ IsRegister-later a.grows.extends (p.named count k node c here)
    | inr last ↦
        let many = p.many in
        let at : length readings ≡ k = sym (last.0 ∙ many) in
        subst (λ (m : Node). IsRegister new.cells m.place old.group (name_of old.group kind (count + k)) (get_or widths k 0)) (sym last.1)
        (subst (λ (n : ℕ). IsRegister new.cells to.place old.group (name_of old.group kind (count + n)) (get_or widths n 0)) at
        (subst (λ (g : ℕ). IsRegister new.cells to.place g (name_of g kind (count + length readings)) (get_or widths (length readings) 0)) same (a.named (count + length readings) (mid_count count c))))
  ];
}
  where
    same : mid.group ≡ old.group
    same = p.grows.group

    mid_count : (count : ℕ) → IsCounted old.cells old.group kind count → IsCounted mid.cells mid.group kind (count + length readings)
    mid_count count c = subst (λ (g : ℕ). IsCounted mid.cells g kind (count + length readings)) (sym same) (p.counted count c)

-- ---- of the least widths for what they hold

reader_holds : {cells : List Cell} {window : List Node} {reading : Reading} {width : ℕ} {to : Node} (streams : Streams) → AreCausal streams → ReadsWithin (length window) reading → IsFormWidth streams (reading_form reading) width → TakesReading cells window reading width to
    → (from : Stream) → 1 ≤ from.period → IsCutWindow streams cells from window → HoldsForm streams cells from (reading_form reading) 1 to
reader_holds {cells} {window} {reading} {width} {to} streams causal reads least takes from positive w =
    HoldsForm-by streams cells from (reading_form reading) 1 to positive
    (λ cut law x v s is run carried tick soon. let first : tick ≡ 0 = omega arith in ap (λ (n : ℕ). v n to.place) first ∙ takes.starts cut law x v run)
    (λ cut law x v s is run carried tick count taken_is.
    let f : ℕ → ℤ = λ i. s (pos count -ℤ pos 1 -ℤ pos i) in
    let taken' : HasTaken w.taken.period w.taken.offset count tick = subst (λ (p : ℕ). HasTaken p w.taken.offset count tick) (sym w.period) (subst (λ (o : ℕ). HasTaken from.period o count tick) (sym w.offset) taken_is) in
    let values = λ (i : ℕ) (inside : i < length window).
    (w.holds i (get_or window i (record { place = 0 })) (slice_get-get_or window i (record { place = 0 }) inside)).holds cut law x v run tick count taken'
    ∙ taken_value-stream (shown v w.taken) s (w.carries cut law x v s is run carried) (λ n. causal.each s is n) count i in
    let now = read_same (length window) reading (at_node v tick window) f reads values ∙ sym (weighted_sum-reading reading f) in
    let fits : FitsWidth width (read reading (at_node v tick window)) = subst (FitsWidth width) (sym now) (form_fits streams causal (reading_form reading) width least s is count) in
    let next : tick + 1 ≡ suc tick = omega arith in
    ap (λ (n : ℕ). v n to.place) next ∙ takes.steps cut law x v run tick fits ∙ now)

pub AddsReaders-of : {old new : NetView} {window nodes : List Node} {kind : NameKind} {readings : List Reading} {widths : List ℕ} {held : List Held} (streams : Streams) → AreCausal streams → All (ReadsWithin (length window)) readings → AreHeld streams (reading_sums readings) held
    → widths ≡ map (λ (own : Held). own.width) held → AddsRegisters old new window kind readings widths nodes → AddsReaders streams old new window kind readings held nodes
AddsReaders-of {old} {new} {window} {nodes} {kind} {readings} {widths} {held} streams causal reads h are a = record {
  grows = a.grows;
  many = a.many;
  adders = a.adders;
  named_same = a.named_same;
  held_are = h;
  counted = a.counted;
  names = a.names;
  linear = a.linear;
  shallow = a.shallow;
  plain = a.plain;
  wide = λ k r node is there. let t = a.takes k r node is there in (t.wide.0, subst (IsFormWidth streams (reading_form r)) (sym t.wide.1) (least k r is));
  shows = λ from positive w k r node is there. holds from positive w k r node is there;
  each = λ from positive w count k r node c is there. record {
    width = get_or widths k 0;
    register = a.named count k node c there;
    is_class = refl;
    short = short_weights (length window) false (terms_at r one_value) (within_at (length window) r one_value (inside k r is));
    ticks = 1;
    is_lag = refl;
    soon = omega arith;
    holds = holds from positive w k r node is there;
    least = least k r is;
  };
}
  where
    inside : (k : ℕ) (r : Reading) → slice_get readings k ≡ Some r → ReadsWithin (length window) r
    inside k r is =
        let same : get_or readings k (One 0) ≡ r = same_some readings k r is in
        subst (ReadsWithin (length window)) same (reads k (One 0) (slice_get_within readings k r is))
      where
        same_some : (rs : List Reading) (n : ℕ) (x : Reading) → slice_get rs n ≡ Some x → get_or rs n (One 0) ≡ x
        same_some [] n x e = absurd (cc)
        same_some (y ∷ rs) zero x e = cc
        same_some (y ∷ rs) (suc n) x e = same_some rs n x e

    least : (k : ℕ) (r : Reading) → slice_get readings k ≡ Some r → IsFormWidth streams (reading_form r) (get_or widths k 0)
    least k r is =
        let own = AreHeld-at streams h k (reading_sum r) (slice_get_mapped reading_sum readings k r is) in
        subst (IsFormWidth streams (reading_form r)) (sym (ap (λ (ws : List ℕ). get_or ws k 0) are ∙ get_or-map (λ (one : Held). one.width) held k own.0 own.1)) own.2

    holds : (from : Stream) → 1 ≤ from.period → IsCutWindow streams old.cells from window → (k : ℕ) (r : Reading) (node : Node) → slice_get readings k ≡ Some r → slice_get nodes k ≡ Some node → HoldsForm streams new.cells from (reading_form r) 1 node
    holds from positive w k r node is there = reader_holds streams causal (inside k r is) (least k r is) (a.takes k r node is there) from positive (IsCutWindow-later streams a.grows.extends w)
