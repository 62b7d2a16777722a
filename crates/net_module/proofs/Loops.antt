-- One node more is written.
use Rattle.std.proofs.Common.{◌≡◌, ℕ, zero, suc, ◌+◌, ◌<◌, ◌≤◌, Bool, true, false, not, cond, List, [], ◌∷◌, ◌++◌, length, map, drop, Option, None, Some, slice_get, refl, sym, ◌∙◌, ap, arith, ◌⊎◌, inl, inr, append_assoc, append-nil, length-append, drop-cons, add-one}
use Rattle.std.specs.Prelude.{slice_index}
use Rattle.std.proofs.lemmas.Bool.{cases_lt}
use Rattle.std.proofs.lemmas.List.{get_or_past}
use Rattle.std.specs.List.{position_or_len}
use Rattle.std.proofs.lemmas.Option.{slice_get_within}
use Rattle.net_graph.specs.declared.cell.Cell.{Cell}
use Rattle.net_graph.specs.declared.cell.Item.{Item}
use Rattle.net_graph.specs.declared.cell.Item.TheVariants.{Input, Constant, Add, Sub, Shl, Shr, Mux, Equal, Bits, Register}
use Rattle.net_graph.specs.WellFormed.{OperandsBelow}
use Rattle.net_graph.proofs.CellLemmas.{cell_at-is}
use Rattle.net_graph.specs.Cells.{cell_at, blank}
use Rattle.net_graph.specs.Name.{is_input}
use Rattle.verilog_tree.specs.declared.tree.Assign.{Assign}
use Rattle.verilog_tree.specs.declared.tree.Stmt.{Stmt}
use Rattle.verilog_tree.specs.declared.tree.Signal.{Signal}
use Rattle.verilog_tree.specs.Tree.{Name, Assignment, Action}
use Rattle.verilog_tree.specs.View.{assignment_view, action_view}
use Rattle.net_module.specs.Written.{head_texts, ports, input_place, output_place, valid_place, written_module, is_wire, is_register, unless, own_number, number_after, number_in, number_of, node_text, node_texts, node_signal, node_signals, node_assigns, node_blocks}
use Rattle.net_module.specs.Loops.{Listed, AddsNode, IsDeclaredTo, Declares, listed_number, AddsDriver, IsDrivenTo, Drives, IsHead}

left : (cells : List Cell) (p : ℕ) → p < length cells → drop p cells ≡ cell_at cells p ∷ drop (p + 1) cells
left cells p lt = rw add-one (drop-cons cells p blank lt)

-- ---- a list with a part that may be left out

split : {A : Type 0} (b : Bool) (x : A) (old rest : List A) → old ++ unless b x rest ≡ (old ++ unless b x []) ++ rest
split true x old rest = ap (λ xs. xs ++ rest) (sym (append-nil old))
split false x old rest = sym (append_assoc old (x ∷ []) rest)

length_unless : {A : Type 0} (b : Bool) (x : A) (old : List A) → length (old ++ unless b x []) ≡ number_after b (length old)
length_unless true x old = ap length (append-nil old)
length_unless false x old = length-append old (x ∷ [])

module _ (cells : List Cell) (p : ℕ) (lt : p < length cells) where
  abbrev cell : Cell
  cell = cell_at cells p

  -- ---- declarations

  index_below : (xs : List ℕ) (y k : ℕ) → k < length xs → slice_index (xs ++ y ∷ []) k ≡ slice_index xs k
  index_below [] y k less = absurd (omega arith)
  index_below (x ∷ xs) y zero less = refl
  index_below (x ∷ xs) y (suc k) less = index_below xs y k (omega arith)

  index_last : (xs : List ℕ) (y : ℕ) → slice_index (xs ++ y ∷ []) (length xs) ≡ y
  index_last [] y = refl
  index_last (x ∷ xs) y = index_last xs y

  pub declared_more : (old now new : Listed) → IsDeclaredTo cells p old now → AddsNode cell p now new → IsDeclaredTo cells (p + 1) old new
  declared_more old now new before adds = record {
    names = ap (λ (ns : List (List ℕ)). ns ++ node_texts (drop (p + 1) cells) (p + 1)) adds.names
        ∙ sym (split (is_input cell.item) (node_text cell p) now.names (node_texts (drop (p + 1) cells) (p + 1)))
        ∙ ap (λ (cs : List Cell). now.names ++ node_texts cs p) (sym (left cells p lt)) ∙ before.names;
    signals = ap (λ (ss : List Signal). ss ++ node_signals (drop (p + 1) cells) (length new.names)) adds.signals
        ∙ ap (λ (n : ℕ). (now.signals ++ unless (is_input cell.item) (node_signal cell (length now.names)) []) ++ node_signals (drop (p + 1) cells) n) counted
        ∙ sym (split (is_input cell.item) (node_signal cell (length now.names)) now.signals (node_signals (drop (p + 1) cells) (number_after (is_input cell.item) (length now.names))))
        ∙ ap (λ (cs : List Cell). now.signals ++ node_signals cs (length now.names)) (sym (left cells p lt)) ∙ before.signals;
    count_of = ap length adds.numbers ∙ length-append now.numbers (own_number (is_input cell.item) (length now.names) ∷ []) ∙ (let e : length now.numbers + 1 ≡ p + 1 = omega (arith, before.count_of) in e);
    numbers = λ k less. number_at k (cases_lt k p) less;
    later = λ k.
        ap (λ (n : ℕ). number_in (drop (p + 1) cells) n k) counted
        ∙ ap (λ (cs : List Cell). number_in cs (length now.names) (suc k)) (sym (left cells p lt))
        ∙ before.later (suc k) ∙ ap (number_of cells) (let e : p + suc k ≡ p + 1 + k = omega arith in e);
  }
    where
      counted : length new.names ≡ number_after (is_input cell.item) (length now.names)
      counted = ap length adds.names ∙ length_unless (is_input cell.item) (node_text cell p) now.names

      number_at : (k : ℕ) → (k < p) ⊎ (p ≤ k) → k < p + 1 → slice_index new.numbers k ≡ number_of cells k
      number_at k (inl less) within =
          ap (λ (ns : List ℕ). slice_index ns k) adds.numbers
          ∙ index_below now.numbers (own_number (is_input cell.item) (length now.names)) k (omega (arith, before.count_of)) ∙ before.numbers k less
      number_at k (inr more) within =
          let here : k ≡ length now.numbers = omega (arith, before.count_of) in
          let place : p + 0 ≡ k = omega arith in
          ap (slice_index new.numbers) here ∙ ap (λ (ns : List ℕ). slice_index ns (length now.numbers)) adds.numbers
          ∙ index_last now.numbers (own_number (is_input cell.item) (length now.names))
          ∙ ap (λ (cs : List Cell). number_in cs (length now.names) 0) (sym (left cells p lt))
          ∙ before.later 0 ∙ ap (number_of cells) place

  -- ---- drivers

  pub driven_more : (numbers : List ℕ) (old_assigns now_assigns new_assigns : List Assign) (old_blocks now_blocks new_blocks : List Stmt)
      → IsDrivenTo numbers cells p old_assigns now_assigns old_blocks now_blocks → AddsDriver numbers cell p now_assigns new_assigns now_blocks new_blocks
      → IsDrivenTo numbers cells (p + 1) old_assigns new_assigns old_blocks new_blocks
  driven_more numbers old_assigns now_assigns new_assigns old_blocks now_blocks new_blocks before adds = record {
    assigns = ap (λ (as' : List Assignment). as' ++ node_assigns (listed_number numbers) (drop (p + 1) cells) (p + 1)) adds.assigns
        ∙ sym (split (not (is_wire cell.item)) _ (map assignment_view now_assigns) (node_assigns (listed_number numbers) (drop (p + 1) cells) (p + 1)))
        ∙ ap (λ (cs : List Cell). map assignment_view now_assigns ++ node_assigns (listed_number numbers) cs p) (sym (left cells p lt)) ∙ before.assigns;
    blocks = ap (λ (bs : List Action). bs ++ node_blocks (listed_number numbers) (drop (p + 1) cells) (p + 1)) adds.blocks
        ∙ sym (split (not (is_register cell.item)) _ (map action_view now_blocks) (node_blocks (listed_number numbers) (drop (p + 1) cells) (p + 1)))
        ∙ ap (λ (cs : List Cell). map action_view now_blocks ++ node_blocks (listed_number numbers) cs p) (sym (left cells p lt)) ∙ before.blocks;
  }

-- ---- before the first node and after the last

pub number_past : (cells : List Cell) (first k : ℕ) → length cells ≤ k → number_in cells first k ≡ 0
number_past [] first k le = refl
number_past (c ∷ cells) first zero le = absurd (omega arith)
number_past (c ∷ cells) first (suc k) le = number_past cells (number_after (is_input c.item) first) k (omega arith)

pub declared_none : (cells : List Cell) (old : Listed) → length old.names ≡ 7 → old.numbers ≡ [] → IsDeclaredTo cells 0 old old
declared_none cells old seven none = record {
  names = refl;
  signals = ap (λ (n : ℕ). old.signals ++ node_signals cells n) seven;
  count_of = ap length none;
  numbers = λ k less. absurd (omega arith);
  later = λ k. ap (λ (n : ℕ). number_in cells n k) seven ∙ ap (number_of cells) (let e : k ≡ 0 + k = omega arith in e);
}

nothing_left : (cells : List Cell) (n : ℕ) → length cells ≤ n → drop n cells ≡ []
nothing_left [] zero le = refl
nothing_left [] (suc n) le = refl
nothing_left (c ∷ cells) zero le = absurd (omega arith)
nothing_left (c ∷ cells) (suc n) le = nothing_left cells n (omega arith)

pub declared_all : (cells : List Cell) (n : ℕ) (old new : Listed) → n ≡ length cells → IsDeclaredTo cells n old new → Declares cells old new
declared_all cells n old new is to =
    let none = nothing_left cells n (omega arith) in
    record {
      names = sym (append-nil new.names) ∙ ap (λ (cs : List Cell). new.names ++ node_texts cs n) (sym none) ∙ to.names;
      signals = sym (append-nil new.signals) ∙ ap (λ (cs : List Cell). new.signals ++ node_signals cs (length new.names)) (sym none) ∙ to.signals;
      count = to.count_of ∙ is;
      numbers = λ k. number_at k (cases_lt k n);
    }
  where
    number_at : (k : ℕ) → (k < n) ⊎ (n ≤ k) → slice_index new.numbers k ≡ number_of cells k
    number_at k (inl less) = to.numbers k less
    number_at k (inr more) =
        get_or_past new.numbers k 0 (let le : length new.numbers ≤ k = omega (arith, to.count_of) in le) ∙ sym (number_past cells 7 k (omega arith))

pub driven_all : (numbers : List ℕ) (cells : List Cell) (n : ℕ) (old_assigns new_assigns : List Assign) (old_blocks new_blocks : List Stmt) → n ≡ length cells
    → IsDrivenTo numbers cells n old_assigns new_assigns old_blocks new_blocks → Drives numbers cells old_assigns new_assigns old_blocks new_blocks
driven_all numbers cells n old_assigns new_assigns old_blocks new_blocks is to =
    let none = nothing_left cells n (omega arith) in
    record {
      assigns = sym (append-nil (map assignment_view new_assigns)) ∙ ap (λ (cs : List Cell). map assignment_view new_assigns ++ node_assigns (listed_number numbers) cs n) (sym none) ∙ to.assigns;
      blocks = sym (append-nil (map action_view new_blocks)) ∙ ap (λ (cs : List Cell). map action_view new_blocks ++ node_blocks (listed_number numbers) cs n) (sym none) ∙ to.blocks;
    }

-- ---- operands

pub operands_near : (item : Option Item) (place count width n : ℕ) → OperandsBelow place count width item → place ≤ n → count ≡ n → OperandsBelow n n width item
operands_near None place count width n o le is = tt
operands_near (Some Input) place count width n o le is = tt
operands_near (Some (Constant v)) place count width n o le is = o
operands_near (Some (Add a b)) place count width n o le is = (omega (arith, o.0), omega (arith, o.1))
operands_near (Some (Sub a b)) place count width n o le is = (omega (arith, o.0), omega (arith, o.1))
operands_near (Some (Shl a by)) place count width n o le is = (omega (arith, o.0), o.1)
operands_near (Some (Shr a by)) place count width n o le is = (omega (arith, o.0), o.1)
operands_near (Some (Mux on a b)) place count width n o le is = (omega (arith, o.0), omega (arith, o.1), omega (arith, o.2))
operands_near (Some (Equal a b)) place count width n o le is = (omega (arith, o.0), omega (arith, o.1), o.2)
operands_near (Some (Bits a high low)) place count width n o le is = (omega (arith, o.0), o.1, o.2)
operands_near (Some (Register next)) place count width n o le is = omega (arith, o)

-- ---- the first node with a property

pub record NotBefore (is : Cell → Bool) (cells : List Cell) (p : ℕ) : Type 0 where
  pub each : (k : ℕ) → k < p → is (cell_at cells k) ≡ false

pub not_before_more : (is : Cell → Bool) (cells : List Cell) (p : ℕ) → NotBefore is cells p → is (cell_at cells p) ≡ false → NotBefore is cells (p + 1)
not_before_more is cells p before here = record { each = λ k lt. by k (cases_lt k p) lt }
  where
    by : (k : ℕ) → (k < p) ⊎ (p ≤ k) → k < p + 1 → is (cell_at cells k) ≡ false
    by k (inl less) lt = before.each k less
    by k (inr more) lt = ap (λ (n : ℕ). is (cell_at cells n)) (let e : k ≡ p = omega arith in e) ∙ here

pub first_is : (is : Cell → Bool) (cells : List Cell) (p : ℕ) → p < length cells → NotBefore is cells p → is (cell_at cells p) ≡ true → p ≡ position_or_len is cells
first_is is [] p lt before here = absurd (omega arith)
first_is is (x ∷ cells) zero lt before here = sym (ap (λ (b : Bool). cond (not b) (1 + position_or_len is cells) 0) here)
first_is is (x ∷ cells) (suc p) lt before here =
    let rest = first_is is cells p (omega arith) (record { each = λ k less. before.each (suc k) (omega arith) }) here in
    let first : is x ≡ false = before.each 0 (omega arith) in
    (let e : suc p ≡ 1 + position_or_len is cells = omega (arith, rest) in e) ∙ sym (ap (λ (b : Bool). cond (not b) (1 + position_or_len is cells) 0) first)

pub none_found : (is : Cell → Bool) (cells : List Cell) (p place : ℕ) (cell : Cell) → length cells ≤ p → NotBefore is cells p → slice_get cells place ≡ Some cell → is cell ≡ true → ⊥
none_found is cells p place cell le before at holds =
    false_true (sym (before.each place (omega (arith, slice_get_within cells place cell at))) ∙ ap is (cell_at-is cells place cell at) ∙ holds)
  where
    false_true : false ≡ true → ⊥
    false_true h = cc

-- ---- the module

pub whole : (cells : List Cell) (old new : Listed) (width_in width_out : ℕ) (now_assigns new_assigns : List Assign) (now_blocks new_blocks : List Stmt)
    → old ≡ record { names = head_texts; signals = ports width_in width_out; numbers = [] } → Declares cells old new
    → width_in ≡ (cell_at cells (input_place cells)).width → width_out ≡ (cell_at cells (output_place cells)).width
    → IsHead new.numbers (valid_place cells) (output_place cells) now_assigns now_blocks → Drives new.numbers cells now_assigns new_assigns now_blocks new_blocks
    → (new.names ≡ (written_module cells).names) × (new.signals ≡ (written_module cells).signals)
    × (map assignment_view new_assigns ≡ (written_module cells).assigns) × (map action_view new_blocks ≡ (written_module cells).blocks)
whole cells old new width_in width_out now_assigns new_assigns now_blocks new_blocks is declares wide_in wide_out head drives =
    let same : listed_number new.numbers ≡ number_of cells = λ i k. declares.numbers k i in (
      declares.names ∙ ap (λ (l : Listed). l.names ++ node_texts cells 0) is,
      declares.signals ∙ ap (λ (l : Listed). l.signals ++ node_signals cells 7) is
          ∙ ap (λ (w : ℕ). ports w width_out ++ node_signals cells 7) wide_in ∙ ap (λ (w : ℕ). ports (cell_at cells (input_place cells)).width w ++ node_signals cells 7) wide_out,
      drives.assigns ∙ ap (λ (as' : List Assignment). as' ++ node_assigns (listed_number new.numbers) cells 0) head.assigns
          ∙ ap (λ (f : ℕ → ℕ). (let valid : Assignment = record { target = 5; value = Name (f (valid_place cells)) } in let out : Assignment = record { target = 6; value = Name (f (output_place cells)) } in valid ∷ out ∷ node_assigns f cells 0)) same,
      drives.blocks ∙ ap (λ (bs : List Action). bs ++ node_blocks (listed_number new.numbers) cells 0) head.blocks
          ∙ ap (λ (f : ℕ → ℕ). node_blocks f cells 0) same,
    )
