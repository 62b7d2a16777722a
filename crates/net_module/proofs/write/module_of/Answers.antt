use Rattle.std.proofs.Common.{ℕ, List, subst, ap, ◌∙◌}
use Rattle.net_graph.specs.Cells.{cell_at}
use Rattle.net_module.specs.Written.{output_place, valid_place}
use Rattle.net_module.specs.Loops.{IsHead, Drives}
use Rattle.net_module.specs.Listed.{listed}
use Rattle.net_module.proofs.Loops.{whole}
use Rattle.net_module.proofs.write.module_of.Goals as goal

pub returns : goal.returns
returns c =
    let cells = c.args.net.now in
    let assigns = c.in_ok-drivers.drivers.assigns.items in
    let blocks = c.in_ok-drivers.drivers.blocks.items in
    let head =
    subst (λ (ns : List ℕ). IsHead ns (valid_place cells) (output_place cells) assigns blocks) c.deref.ensures.value
    (subst (λ (p : ℕ). IsHead c.deref.result.now p (output_place cells) assigns blocks) c.find_valid-valid.ensures.place
    (subst (λ (p : ℕ). IsHead c.deref.result.now c.find_valid-valid.result.place p assigns blocks) c.find_output-output.ensures.place c.in_ok-drivers.ensures)) in
    let drives = subst (λ (ns : List ℕ). Drives ns cells assigns c.drive_nodes.new.drivers.assigns.items blocks c.drive_nodes.new.drivers.blocks.items) c.deref-2.ensures.value c.in_ok-drive_nodes.ensures in
    let parts = whole cells (listed c.in_ok-lists.lists) (listed c.declare_nodes.new.lists) c.width.result c.width-2.result
    c.in_ok-drivers.drivers.assigns.items c.drive_nodes.new.drivers.assigns.items c.in_ok-drivers.drivers.blocks.items c.drive_nodes.new.drivers.blocks.items
    c.in_ok-lists.ensures c.in_ok-declare_nodes.ensures
    (c.width.ensures.width ∙ ap (λ (p : ℕ). (cell_at cells p).width) c.find_input-input.ensures.place)
    (c.width-2.ensures.width ∙ ap (λ (p : ℕ). (cell_at cells p).width) c.find_output-output.ensures.place)
    head drives in
    λ i. record { name = 0; names = parts.0 i; signals = parts.1 i; assigns = parts.2 i; blocks = parts.3 i }
