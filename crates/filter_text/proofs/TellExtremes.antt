-- What is told of each linear register at the number of its name tells the module's extremes.
use Rattle.std.proofs.Common.{◌≡◌, ℕ, ◌≤◌, List, ◌∷◌, ◌++◌, Option, None, Some, slice_get, refl, sym, ◌∙◌, ap, subst, ℤ}
use Rattle.std.specs.Prelude.{bytes_eq, codes}
use Rattle.std.specs.Fmt.{decimal}
use Rattle.std.specs.List.{position_or_len}
use Rattle.mr_values.specs.declared.plan.Element.{Element}
use Rattle.net_graph.specs.declared.cell.Cell.{Cell}
use Rattle.net_graph.specs.declared.name.Name.{Name}
use Rattle.net_graph.specs.declared.name.NameKind.{NameKind}
use Rattle.net_graph.specs.declared.name.NameKind.TheVariants.{Control, Window, Copy, PreAdder, Register as Other, Table, Output, Valid}
use Rattle.net_graph.specs.Name.{written_name, IsRegisterKind}
use Rattle.net_graph.specs.WellFormed.{IsNetlist}
use Rattle.verilog_tree.specs.Names.{text_of}
use Rattle.verilog_tree.specs.Renaming.{AreDistinct}
use Rattle.verilog_tree.specs.Tree.{Design}
use Rattle.verilog_text.specs.Order.{IsSameButPlaces}
use Rattle.module_laws.proofs.InputPorts.{first_with_text, read_name}
use Rattle.net_module.specs.Written.{written_module}
use Rattle.net_text.specs.Small.{AreSmall}
use Rattle.net_text.proofs.Names.{distinct}
use Rattle.chain_build.specs.Linear.{LinearRegister, linear}
use Rattle.chain_build.specs.LinearNet as net_registers
use Rattle.chain_build.specs.LinearNet.{IsRegisterIn}
use Rattle.filter_text.specs.Registers.{register_number, IsReachedIn, HasLinearRegisters}
use Rattle.filter_text.specs.Extremes.{IsWideIn, TellsEach, TellsExtremes}
use Rattle.filter_text.proofs.RegisterGroups.{named_register}
use Rattle.filter_text.proofs.SumExtreme.{sum_extreme}

-- ---- a register's name has a text

has_text : (kind : NameKind) (group number : ℕ) → IsRegisterKind kind group number → (c : ℕ) × (rest : List ℕ) × (written_name (record { group = group; kind = kind; number = number }) ≡ c ∷ rest)
has_text Control group number is = (99, codes "tl_" ++ decimal number, refl)
has_text Window group number is = (115, decimal group ++ (codes "_w" ++ decimal number), refl)
has_text Copy group number is = (115, decimal group ++ (codes "_v" ++ decimal number), refl)
has_text PreAdder group number is = (115, decimal group ++ (codes "_p" ++ decimal number), refl)
has_text Other group number is = (115, decimal group ++ (codes "_a" ++ decimal number), refl)
has_text Table group number is = absurd is
has_text Output group number is = (111, codes "ut_q", refl)
has_text Valid group number is = absurd is

-- a text that isn't empty stands once
number_is : (d : Design) → AreDistinct d.names → (n c : ℕ) (rest : List ℕ) → text_of d n ≡ c ∷ rest → position_or_len (bytes_eq (c ∷ rest)) d.names ≡ n
number_is d apart n c rest is =
    let read = read_name d.names n c rest is in
    ap (λ (text : List ℕ). position_or_len (bytes_eq text) d.names) (sym read.1) ∙ first_with_text d.names n apart read.0

no_none : (tick : ℕ) (value : ℤ) (o : Option (ℕ × ℤ)) → o ≡ Some (tick, value) → o ≡ None → ⊥
no_none tick value o some none = cc

module _ {width ticks : ℕ} {elements : List Element} {cells : List Cell} (some : 1 ≤ ticks) (netlist : IsNetlist cells) (small : AreSmall cells) (has : net_registers.HasLinearRegisters width ticks elements cells)
    (d : Design) (same : IsSameButPlaces d (written_module cells)) (registers : HasLinearRegisters elements width ticks d) (extremes : ℕ → Option (ℕ × ℤ)) (tells : TellsEach elements width ticks d extremes) where
  apart : AreDistinct d.names
  apart = subst AreDistinct (sym same.same_names) (distinct cells netlist small)

  -- a name with the text of a linear register's is that register's
  own_number : (i : ℕ) (r : LinearRegister) → slice_get (linear width ticks elements) i ≡ Some r → (n : ℕ) → written_name r.name ≡ text_of d n → register_number d r ≡ n
  own_number i r at n is =
      let its = (has.each i r at).register in
      let own = named_register its.cell.name its.cell.item its.registered.0 its.registered.1 (netlist.well_formed.each (has.each i r at).node.place its.cell its.there).named in
      let name : own.0 ≡ r.name = one_name own.0 r.name its.cell.name own.1 its.named in
      let text = has_text own.0.kind own.0.group own.0.number own.2 in
      let whole : written_name r.name ≡ text.0 ∷ text.1 = ap written_name (sym name) ∙ text.2 in
      ap (λ (t : List ℕ). position_or_len (bytes_eq t) d.names) whole ∙ number_is d apart n text.0 text.1 (sym is ∙ whole)
    where
      one_name : (a b : Name) (o : Option Name) → o ≡ Some a → o ≡ Some b → a ≡ b
      one_name a b o first second = cc

  told : (n tick : ℕ) (value : ℤ) → extremes n ≡ Some (tick, value) → IsReachedIn width ticks d (text_of d n) tick value × IsWideIn (linear width ticks elements) (text_of d n)
  told n tick value is =
      let one = tells.only n tick value is in
      let text : written_name one.r.name ≡ text_of d n = sym (registers.each one.place one.r one.there).named ∙ ap (text_of d) one.own in (
        subst (λ (name : List ℕ). IsReachedIn width ticks d name tick value) text
            (record { xs = one.reached.xs; extreme = sum_extreme some d one.r one.sum one.reached.xs tick value (registers.each one.place one.r one.there) one.needed one.reached.input }),
        record { place = one.place; r = one.r; there = one.there; named = text; sum = one.sum; needed = one.needed },
      )

  untold : (n : ℕ) → extremes n ≡ None → IsWideIn (linear width ticks elements) (text_of d n) → ⊥
  untold n none one =
      let its = tells.each one.place one.r one.sum one.there one.needed in
      no_none its.0 its.1 (extremes n) (ap extremes (sym (own_number one.place one.r one.there n one.named)) ∙ its.2) none

  pub tells_extremes : TellsExtremes elements width ticks d extremes
  tells_extremes = record { told = told; untold = untold }
