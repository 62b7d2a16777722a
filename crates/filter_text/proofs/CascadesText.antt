-- The registers of a plan's cascades are in its module as they are in its net.
use Rattle.std.proofs.Common.{◌≡◌, ◌⊎◌, ℕ, ◌^◌, ◌<◌, ◌≤◌, false, true, List, length, Some, refl, sym, ◌∙◌, ap, subst, arith, inl, inr}
use Rattle.std.specs.Prelude.{bytes_eq}
use Rattle.std.specs.List.{position_or_len}
use Rattle.std.proofs.lemmas.Bool.{cases_lt}
use Rattle.mr_values.specs.declared.plan.Element.{Element}
use Rattle.mr_values.specs.Sequence.{Sequence}
use Rattle.mr_values.specs.Timing.{groups, input}
use Rattle.net_graph.specs.declared.cell.Cell.{Cell}
use Rattle.net_graph.specs.declared.cell.Node.{Node}
use Rattle.net_graph.specs.declared.name.Name.{Name}
use Rattle.net_graph.specs.declared.name.NameKind.{NameKind}
use Rattle.net_graph.specs.declared.name.NameKind.TheVariants.{Control, Window, Copy, PreAdder, Register, Table, Output, Valid}
use Rattle.net_graph.specs.Name.{written_name}
use Rattle.net_graph.specs.WellFormed.{IsFree}
use Rattle.pipeline_balance.specs.Numbered.{name_of}
use Rattle.stage_law.specs.Alike.{HasRegister as InNet, HasAlike as AlikeInNet}
use Rattle.stage_law.specs.Streams.{Streams}
use Rattle.verilog_tree.specs.Names as texts
use Rattle.verilog_tree.specs.Names.{text_of, kind_of, is_in_group}
use Rattle.verilog_tree.specs.Tree.{Design}
use Rattle.verilog_text.specs.Order.{IsSameButPlaces}
use Rattle.net_module.specs.Written.{is_register, written_module, number_of}
use Rattle.net_module.proofs.Cycles.{register_data}
use Rattle.net_module.proofs.NodeTexts.{node_text_of}
use Rattle.net_text.specs.Small.{AreSmall}
use Rattle.chain_build.specs.Alike.{HoldsOfEachCascade, HasCascades, in_net}
use Rattle.chain_build.specs.ChainNet.{IsChainNet}
use Rattle.chain_build.proofs.AlikeSoFar.{cascades_follow}
use Rattle.filter_text.specs.Cascades.{register_text as text_for, HasRegister, IsOneOf, HasAlike, in_module}
use Rattle.filter_text.proofs.CountedText.{few_groups}
use Rattle.filter_text.proofs.NodeNames.{text_number, register_text}
use Rattle.filter_text.proofs.RegisterGroups.{IsRegisterOf, register_of_group}
use Rattle.filter_text.proofs.RegisterNumbers.{register_kind, register_width}
use Rattle.filter_text.proofs.UncutPlaces.{same_text}

-- the kind of a register that is numbered with its group's others, or another kind
register_or_not : (kind : NameKind) → (kind ≡ Register) ⊎ (kind ≡ Register → ⊥)
register_or_not Register = inl refl
register_or_not Control = inr (λ e. absurd (cc))
register_or_not Window = inr (λ e. absurd (cc))
register_or_not Copy = inr (λ e. absurd (cc))
register_or_not PreAdder = inr (λ e. absurd (cc))
register_or_not Table = inr (λ e. absurd (cc))
register_or_not Output = inr (λ e. absurd (cc))
register_or_not Valid = inr (λ e. absurd (cc))

module _ {width ticks : ℕ} {elements : List Element} {cells : List Cell} {out_q out_valid : Node} (wide : 1 ≤ width) (narrow : width ≤ 127) (some : 1 ≤ ticks) (net : IsChainNet width ticks elements cells out_q out_valid)
    (small : AreSmall cells) (d : Design) (same : IsSameButPlaces d (written_module cells)) where
  -- a register of the net
  module _ (group number own_width : ℕ) (its : InNet cells group number own_width) where
    abbrev name : Name
    name = name_of group Register number

    registered : is_register its.register.cell.item ≡ true
    registered = ap is_register its.register.registered.1

    numbered : texts.number_of (written_module cells) (written_name name) ≡ number_of cells its.place
    numbered =
        ap (texts.number_of (written_module cells)) (sym (register_text cells net.netlist its.place its.register.cell name its.register.there registered its.register.named))
        ∙ text_number cells net.netlist small its.place its.register.cell its.register.there (register_data its.register.cell.item registered)

    text_is : text_of d (texts.number_of d (written_name name)) ≡ written_name name
    text_is =
        same_text d (written_module cells) same (texts.number_of d (written_name name))
        ∙ ap (text_of (written_module cells)) (ap (λ (names : List (List ℕ)). position_or_len (bytes_eq (written_name name)) names) same.same_names ∙ numbered)
        ∙ node_text_of cells its.place its.register.cell its.register.there (register_data its.register.cell.item registered)
        ∙ register_text cells net.netlist its.place its.register.cell name its.register.there registered its.register.named

    in_text : HasRegister d (text_for group number) own_width
    in_text = record {
      named = text_is;
      is_register = register_kind wide narrow some net its.place its.register.cell its.register.there registered (written_name name) numbered d same;
      wide = register_width wide narrow some net its.place its.register.cell its.register.there registered (written_name name) numbered d same ∙ its.register.wide;
    }

  -- a register of the module that is named as one of the group
  module _ (streams : Streams) (made : Sequence → Sequence) (group count : ℕ) (few : group < 2 ^ 64) (has : AlikeInNet streams made cells group count) where
    one_of : (n : ℕ) (found : IsRegisterOf cells group (text_of d n)) → IsOneOf group count (text_of d n)
    one_of n found = by found.name found.named found.no_control found.of_group found.written
      where
        not_free : (its : Name) → found.cell.name ≡ Some its → IsFree cells its → ⊥
        not_free its named free = free.none found.place found.cell found.there named

        by : (its : Name) → found.cell.name ≡ Some its → (its.kind ≡ Control → ⊥) → its.group ≡ group → written_name its ≡ text_of d n → IsOneOf group count (text_of d n)
        by its named data_kind of_group written = elim (register_or_not its.kind) [
          | inr other ↦ absurd (not_free (name_of group its.kind its.number) (subst (λ (g : ℕ). found.cell.name ≡ Some (name_of g its.kind its.number)) of_group named) (has.registers.only its.kind its.number other data_kind))
          | inl is ↦
              let own : found.cell.name ≡ Some (name_of group Register its.number) =
              subst (λ (k : NameKind). found.cell.name ≡ Some (name_of group k its.number)) is (subst (λ (g : ℕ). found.cell.name ≡ Some (name_of g its.kind its.number)) of_group named) in
              elim (cases_lt its.number count) [
                | inl less ↦ record {
                  number = its.number;
                  below = less;
                  is = sym written ∙ ap (λ (g : ℕ). written_name (name_of g its.kind its.number)) of_group ∙ ap (λ (k : NameKind). written_name (name_of group k its.number)) is;
                }
                | inr more ↦ absurd (not_free (name_of group Register its.number) own (has.registers.counted.free its.number more))
              ]
        ]

    alike_text : HasAlike d streams made group count
    alike_text = record {
      width = has.width;
      least = has.least;
      each = λ number less. in_text group number has.width (has.registers.each number less);
      only = λ n kind inside. one_of n (register_of_group cells net.netlist small d same n group few kind inside);
    }

  pub cascades_text : length elements ≤ 32 → HasCascades width ticks elements cells → HoldsOfEachCascade (in_module d) width ticks elements
  cascades_text short has =
      cascades_follow (in_net cells) (in_module d) width elements 1 0 false (input width ticks) (groups elements)
      (λ k low high. record { each = λ streams made count own. alike_text streams made k count (let fewer = few_groups elements in omega (arith, high, short, fewer)) own }) has
