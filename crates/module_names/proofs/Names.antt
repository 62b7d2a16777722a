-- Each name that a written module declares is a port, `out_q`, a control name or a name of a group.
use Rattle.std.proofs.Common.{◌≡◌, ℕ, zero, suc, ◌+◌, ◌<◌, ◌≤◌, ◌⊎◌, inl, inr, Bool, true, false, cond, List, [], ◌∷◌, ◌++◌, length, get_or, Option, None, Some, slice_get, refl, sym, ◌∙◌, ap, subst, arith, append_assoc}
use Rattle.std.specs.Prelude.{nat_eq, codes}
use Rattle.std.specs.Fmt.{decimal}
use Rattle.std.specs.List.{starts_with}
use Rattle.std.specs.Option.{unwrap_or}
use Rattle.std.proofs.lemmas.Bool.Decides.{Decides-eqb}
use Rattle.std.proofs.lemmas.Option.{slice_get_within, slice_get-get_or}
use Rattle.std.proofs.lemmas.Slice.Eq.{starts_is}
use Rattle.net_graph.specs.declared.cell.Cell.{Cell}
use Rattle.net_graph.specs.declared.cell.Item.{Item}
use Rattle.net_graph.specs.declared.cell.Item.TheVariants.{Input, Constant, Add, Sub, Shl, Shr, Mux, Equal, Bits, Register}
use Rattle.net_graph.specs.declared.name.Name.{Name}
use Rattle.net_graph.specs.declared.name.NameKind.{NameKind}
use Rattle.net_graph.specs.declared.name.NameKind.TheVariants.{Control, Window, Copy, PreAdder, Register as Other, Table, Output, Valid}
use Rattle.net_graph.specs.Name.{group_name, IsRegisterKind, IsRegisterName, IsWireKind, IsWireName}
use Rattle.net_graph.specs.WellFormed.{IsNetlist, IsNamed}
use Rattle.verilog_tree.specs.declared.tree.Signal.{Signal}
use Rattle.verilog_tree.specs.Tree.{Design}
use Rattle.verilog_tree.specs.Names.{text_of, group_prefix, is_in_group}
use Rattle.verilog_text.specs.Order.{AreNumbered}
use Rattle.net_module.specs.Written.{IsWritable, nameless, text_for, node_text, node_texts, written_module}
use Rattle.net_text.proofs.Writable.{in_order}
use Rattle.net_graph.specs.Name.{is_input, written_name}
use Rattle.verilog_tree.specs.declared.tree.Kind.TheVariants.{Reg}
use Rattle.verilog_tree.specs.Checks.{is_port}
use Rattle.verilog_tree.specs.Names.{kind_of}
use Rattle.net_module.specs.Written.{is_register, number_after, node_signal, node_signals, unless}
use Rattle.net_module.proofs.Cycles.{register_data}
use Rattle.net_module.proofs.NodeTexts.{node_text_of}
use Rattle.module_names.specs.Names.{IsNameOf, of_port, of_output, of_control, of_group, IsRegisterText, HasNames}
use Rattle.module_names.proofs.NodeNames.{named_from}
use Rattle.module_names.proofs.Registers.{register_node}

-- ---- texts

-- a text of a group, behind `s`
group_begins : (group : ℕ) (rest : List ℕ) → is_in_group group (115 ∷ (decimal group ++ 95 ∷ rest)) ≡ true
group_begins group rest =
    let text : List ℕ = 115 ∷ (decimal group ++ 95 ∷ rest) in
    (starts_is Decides-eqb text (group_prefix group) (starts_with nat_eq text (group_prefix group)) refl).1 rest
    (ap (λ (xs : List ℕ). 115 ∷ xs) (sym (append_assoc (decimal group) (95 ∷ []) rest)))

some_group : (group : ℕ) → nat_eq group 0 ≡ false → 1 ≤ group
some_group zero e = absurd (cc)
some_group (suc group) e = omega arith

nameless_named : (count group place : ℕ) → group ≤ count → IsNameOf count (nameless group place)
nameless_named count group place le = by (nat_eq group 0) refl
  where
    by : (b : Bool) → nat_eq group 0 ≡ b → IsNameOf count (cond b (codes "ctl_n" ++ decimal place) (group_name group (codes "_n") place))
    by true e = of_control refl
    by false e = of_group group (some_group group e) le (group_begins group (110 ∷ decimal place))

-- a node's name is one of a register or of a wire
either : (name : Name) (item : Option Item) → IsNamed (Some name) item → IsRegisterName name ⊎ IsWireName name
either name None named = inl named
either name (Some (Register next)) named = inl named
either name (Some Input) named = inr named
either name (Some (Constant v)) named = inr named
either name (Some (Add a b)) named = inr named
either name (Some (Sub a b)) named = inr named
either name (Some (Shl a by)) named = inr named
either name (Some (Shr a by)) named = inr named
either name (Some (Mux on a b)) named = inr named
either name (Some (Equal a b)) named = inr named
either name (Some (Bits a high low)) named = inr named

kind_named : (count : ℕ) (kind : NameKind) (named number group place : ℕ) → IsRegisterKind kind named number ⊎ IsWireKind kind named number → named ≤ count → group ≤ count
    → IsNameOf count (text_for (Some (record { group = named; kind = kind; number = number })) group place)
kind_named count Control named number group place is le own = of_control refl
kind_named count Output named number group place is le own = of_output refl
kind_named count Valid named number group place is le own = nameless_named count group place own
kind_named count Window named number group place (inl some) le own = of_group named some le (group_begins named (119 ∷ decimal number))
kind_named count Window named number group place (inr wire) le own = absurd wire
kind_named count Copy named number group place (inl some) le own = of_group named some le (group_begins named (118 ∷ decimal number))
kind_named count Copy named number group place (inr wire) le own = absurd wire
kind_named count PreAdder named number group place (inl some) le own = of_group named some le (group_begins named (112 ∷ decimal number))
kind_named count PreAdder named number group place (inr wire) le own = absurd wire
kind_named count Other named number group place (inl some) le own = of_group named some le (group_begins named (97 ∷ decimal number))
kind_named count Other named number group place (inr wire) le own = absurd wire
kind_named count Table named number group place (inl register) le own = absurd register
kind_named count Table named number group place (inr some) le own = of_group named some le (group_begins named (116 ∷ decimal number))

-- ---- registers

false_true : false ≡ true → ⊥
false_true h = cc

-- a node with a register's name is written by it
kind_written : (kind : NameKind) (named number group place : ℕ) → IsRegisterKind kind named number → text_for (Some (record { group = named; kind = kind; number = number })) group place ≡ written_name (record { group = named; kind = kind; number = number })
kind_written Control named number group place is = refl
kind_written Window named number group place is = refl
kind_written Copy named number group place is = refl
kind_written PreAdder named number group place is = refl
kind_written Other named number group place is = refl
kind_written Output named number group place is = refl
kind_written Table named number group place is = absurd is
kind_written Valid named number group place is = absurd is

-- a register has a name, and it is a register's
register_named : (name : Option Name) (item : Option Item) → IsNamed name item → is_register item ≡ true → (own : Name) × (name ≡ Some own) × IsRegisterName own
register_named None None named is = absurd (false_true is)
register_named None (Some (Register next)) named is = absurd named
register_named None (Some Input) named is = absurd (false_true is)
register_named None (Some (Constant v)) named is = absurd (false_true is)
register_named None (Some (Add a b)) named is = absurd (false_true is)
register_named None (Some (Sub a b)) named is = absurd (false_true is)
register_named None (Some (Shl a by)) named is = absurd (false_true is)
register_named None (Some (Shr a by)) named is = absurd (false_true is)
register_named None (Some (Mux on a b)) named is = absurd (false_true is)
register_named None (Some (Equal a b)) named is = absurd (false_true is)
register_named None (Some (Bits a high low)) named is = absurd (false_true is)
register_named (Some name) None named is = absurd (false_true is)
register_named (Some name) (Some (Register next)) named is = (name, refl, named)
register_named (Some name) (Some Input) named is = absurd (false_true is)
register_named (Some name) (Some (Constant v)) named is = absurd (false_true is)
register_named (Some name) (Some (Add a b)) named is = absurd (false_true is)
register_named (Some name) (Some (Sub a b)) named is = absurd (false_true is)
register_named (Some name) (Some (Shl a by)) named is = absurd (false_true is)
register_named (Some name) (Some (Shr a by)) named is = absurd (false_true is)
register_named (Some name) (Some (Mux on a b)) named is = absurd (false_true is)
register_named (Some name) (Some (Equal a b)) named is = absurd (false_true is)
register_named (Some name) (Some (Bits a high low)) named is = absurd (false_true is)

-- ---- signs

-- the declarations of nodes are signed
nodes_signed : (cells : List Cell) (first k : ℕ) (s : Signal) → slice_get (node_signals cells first) k ≡ Some s → s.signed ≡ true
nodes_signed [] first k s at = absurd (cc)
nodes_signed (x ∷ cells) first k s at = by (is_input x.item) k (λ j later. nodes_signed cells (number_after (is_input x.item) first) j s later) at
  where
    sign_is : (a b : Signal) → Some a ≡ Some b → a.signed ≡ true → b.signed ≡ true
    sign_is a b e is = let same : a ≡ b = cc in ap (λ (t : Signal). t.signed) (sym same) ∙ is

    by : (b : Bool) (k : ℕ) → ((j : ℕ) → slice_get (node_signals cells (number_after (is_input x.item) first)) j ≡ Some s → s.signed ≡ true)
        → slice_get (unless b (node_signal x first) (node_signals cells (number_after (is_input x.item) first))) k ≡ Some s → s.signed ≡ true
    by true k more at = more k at
    by false zero more at = sign_is (node_signal x first) s at refl
    by false (suc k) more at = more k at

-- ---- declarations

-- declarations in the order of their names
numbered_at : (n : ℕ) (signals : List Signal) (k : ℕ) (s : Signal) → AreNumbered n signals → slice_get signals k ≡ Some s → s.name ≡ n + k
numbered_at n [] k s all at = absurd (omega (arith, slice_get_within {A = Signal} [] k s at))
numbered_at n (x ∷ signals) zero s all at =
    let here : n ≡ n + 0 = omega arith in
    ap (λ (t : Signal). t.name) (one_signal s x (sym at)) ∙ all.0 ∙ here
  where
    one_signal : (a b : Signal) → Some a ≡ Some b → a ≡ b
    one_signal a b e = cc
numbered_at n (x ∷ signals) (suc k) s all at =
    let there : n + 1 + k ≡ n + suc k = omega arith in
    numbered_at (n + 1) signals k s all.1 at ∙ there

module _ (cells : List Cell) (netlist : IsNetlist cells) (writable : IsWritable cells) (count : ℕ)
    (groups : (place : ℕ) (cell : Cell) → slice_get cells place ≡ Some cell → cell.group ≤ count)
    (named : (place : ℕ) (cell : Cell) (name : Name) → slice_get cells place ≡ Some cell → cell.name ≡ Some name → name.group ≤ count) where
  abbrev D : Design
  D = written_module cells

  node_named : (place : ℕ) (cell : Cell) → slice_get cells place ≡ Some cell → IsNameOf count (node_text cell place)
  node_named place cell at = by cell.name refl
    where
      by : (name : Option Name) → cell.name ≡ name → IsNameOf count (text_for cell.name cell.group place)
      by None e = subst (λ (o : Option Name). IsNameOf count (text_for o cell.group place)) (sym e) (nameless_named count cell.group place (groups place cell at))
      by (Some name) e =
          let own = subst (λ (o : Option Name). IsNamed o cell.item) e (netlist.well_formed.each place cell at).named in
          subst (λ (o : Option Name). IsNameOf count (text_for o cell.group place)) (sym e)
          (kind_named count name.kind name.group name.number cell.group place (either name cell.item own) (named place cell name at e) (groups place cell at))

  -- each name but the module's is one of these
  each_named : (k : ℕ) → suc k < length D.names → IsNameOf count (text_of D (suc k))
  each_named zero lt = of_port 0 refl
  each_named (suc zero) lt = of_port 1 refl
  each_named (suc (suc zero)) lt = of_port 2 refl
  each_named (suc (suc (suc zero))) lt = of_port 3 refl
  each_named (suc (suc (suc (suc zero)))) lt = of_port 4 refl
  each_named (suc (suc (suc (suc (suc zero))))) lt = of_port 5 refl
  each_named (suc (suc (suc (suc (suc (suc i)))))) lt =
      let inside : i < length (node_texts cells 0) = omega arith in
      let there = slice_get-get_or (node_texts cells 0) i [] inside in
      let w = named_from cells 7 0 i (get_or (node_texts cells 0) i []) there in
      let place : 0 + w.place ≡ w.place = omega arith in
      subst (IsNameOf count) (sym (ap (λ (o : Option (List ℕ)). unwrap_or o []) there ∙ w.is_it ∙ ap (node_text w.cell) place)) (node_named w.place w.cell w.there)

  register_text : (name : ℕ) → kind_of D name ≡ Some Reg → IsRegisterText count (text_of D name)
  register_text name is =
      let r = register_node cells netlist writable name is in
      let own = register_named r.cell.name r.cell.item (netlist.well_formed.each r.place r.cell r.there).named r.register in
      record {
        name = own.0;
        named = own.2;
        low = named r.place r.cell own.0 r.there own.1;
        written = ap (text_of D) r.number ∙ node_text_of cells r.place r.cell r.there (register_data r.cell.item r.register)
            ∙ ap (λ (o : Option Name). text_for o r.cell.group r.place) own.1
            ∙ kind_written own.0.kind own.0.group own.0.number r.cell.group r.place own.2;
      }

  port_apart : (a b : Signal) → Some a ≡ Some b → is_port a.kind ≡ true → is_port b.kind ≡ false → b.signed ≡ true
  port_apart a b e port other = let same : a ≡ b = cc in absurd (false_true (sym other ∙ ap (λ (t : Signal). is_port t.kind) (sym same) ∙ port))

  all_signed : (k : ℕ) (s : Signal) → slice_get D.signals k ≡ Some s → is_port s.kind ≡ false → s.signed ≡ true
  all_signed zero s at other = port_apart _ s at refl other
  all_signed (suc zero) s at other = port_apart _ s at refl other
  all_signed (suc (suc zero)) s at other = port_apart _ s at refl other
  all_signed (suc (suc (suc zero))) s at other = port_apart _ s at refl other
  all_signed (suc (suc (suc (suc zero)))) s at other = port_apart _ s at refl other
  all_signed (suc (suc (suc (suc (suc zero))))) s at other = port_apart _ s at refl other
  all_signed (suc (suc (suc (suc (suc (suc k)))))) s at other = nodes_signed cells 7 k s at

  pub all_named : HasNames count D
  all_named =
      let order = in_order cells netlist writable in
      record {
        own = refl;
        registers = register_text;
        signed = all_signed;
        each = λ k s at.
            let one = numbered_at 1 D.signals k s order.in_turn at in
            let number : s.name ≡ suc k = omega (arith, one) in
            let inside : suc k < length D.names = omega (arith, slice_get_within D.signals k s at, order.all_declared) in
            subst (λ (n : ℕ). IsNameOf count (text_of D n)) (sym number) (each_named k inside);
      }
