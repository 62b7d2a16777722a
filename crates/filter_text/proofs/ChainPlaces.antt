-- Where the input, the output and the shown bit stand in the net of a plan, and that it can be written.
use Rattle.std.proofs.Common.{◌≡◌, ℕ, ◌≤◌, List, Some, slice_get, sym, ◌∙◌, ap, subst}
use Rattle.mr_values.specs.declared.plan.Element.{Element}
use Rattle.net_graph.specs.declared.cell.Cell.{Cell}
use Rattle.net_graph.specs.declared.cell.Node.{Node}
use Rattle.net_graph.specs.declared.name.NameKind.TheVariants.{Output, Valid}
use Rattle.net_graph.specs.Cells.{cell_at}
use Rattle.net_graph.specs.Name.{is_input}
use Rattle.net_graph.proofs.CellLemmas.{cell_at-there, cell_at-is}
use Rattle.net_module.specs.Written.{IsWritable, has_kind, is_output_kind, is_valid_kind, input_place, output_place, valid_place}
use Rattle.net_module.proofs.Numbers.{first_there}
use Rattle.pipeline_balance.specs.Numbered.{name_of}
use Rattle.chain_build.specs.ChainNet.{IsChainNet}
use Rattle.filter_text.proofs.OutputNames.{output_name, valid_name}

module _ {width ticks : ℕ} {elements : List Element} {cells : List Cell} {out_q out_valid : Node} (net : IsChainNet width ticks elements cells out_q out_valid) where
  valid_there : slice_get cells out_valid.place ≡ Some (cell_at cells out_valid.place)
  valid_there = cell_at-there cells out_valid.place net.valid.within

  pub output_is : output_place cells ≡ out_q.place
  output_is =
      let r = net.register in
      let first = first_there (λ (c : Cell). has_kind is_output_kind c.name) cells out_q.place r.cell r.there (ap (has_kind is_output_kind) r.named) in
      net.netlist.well_formed.apart (output_place cells) out_q.place first.cell r.cell (name_of 0 Output 0) first.there r.there
      (output_name first.cell.name first.cell.item ((net.netlist.well_formed.each (output_place cells) first.cell first.there).named) first.is_it) r.named

  pub output_wide : (cell_at cells (output_place cells)).width ≡ net.out_width
  output_wide =
      ap (λ (k : ℕ). (cell_at cells k).width) output_is ∙ ap (λ (c : Cell). c.width) (cell_at-is cells out_q.place net.register.cell net.register.there) ∙ net.register.wide

  pub valid_is : valid_place cells ≡ out_valid.place
  valid_is =
      let first = first_there (λ (c : Cell). has_kind is_valid_kind c.name) cells out_valid.place (cell_at cells out_valid.place) valid_there (ap (has_kind is_valid_kind) net.shown) in
      net.netlist.well_formed.apart (valid_place cells) out_valid.place first.cell (cell_at cells out_valid.place) (name_of 0 Valid 0) first.there valid_there
      (valid_name first.cell.name first.cell.item ((net.netlist.well_formed.each (valid_place cells) first.cell first.there).named) first.is_it) net.shown

  input_is : input_place cells ≡ 0
  input_is =
      let first = first_there (λ (c : Cell). is_input c.item) cells 0 net.input.cell net.input.there net.input.is_it in
      net.input.only (input_place cells) first.cell first.there first.is_it

  pub input_width : (cell_at cells (input_place cells)).width ≡ width
  input_width = ap (λ (k : ℕ). (cell_at cells k).width) input_is ∙ ap (λ (c : Cell). c.width) (cell_at-is cells 0 net.input.cell net.input.there) ∙ net.input.same_width

  pub chain_writable : width ≤ 127 → IsWritable cells
  chain_writable narrow = record {
    one_input = λ j k c d at_j at_k is_c is_d. net.input.only j c at_j is_c ∙ sym (net.input.only k d at_k is_d);
    input = record { place = 0; cell = net.input.cell; there = net.input.there; is_it = net.input.is_it; width = subst (λ (w : ℕ). w ≤ 127) (sym net.input.same_width) narrow };
    output = record { place = out_q.place; cell = net.register.cell; there = net.register.there; is_it = ap (has_kind is_output_kind) net.register.named; width = subst (λ (w : ℕ). w ≤ 127) (sym net.register.wide) net.narrow };
    valid = record { place = out_valid.place; cell = cell_at cells out_valid.place; there = valid_there; is_it = ap (has_kind is_valid_kind) net.shown; width = net.shown_width };
  }
