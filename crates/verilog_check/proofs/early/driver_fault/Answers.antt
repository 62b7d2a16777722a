use Rattle.std.proofs.Common.{ℕ, List, [], map, Some, sym, ap, ◌∙◌}
use Rattle.verilog_tree.specs.declared.fault.ModuleFault.TheVariants.{NoDriver}
use Rattle.verilog_tree.specs.Checks.{named, first_shared}
use Rattle.verilog_tree.specs.View.{design_view}
use Rattle.verilog_check.specs.declared.drives.Drive.{Drive}
use Rattle.verilog_check.specs.Drives.{drive_view}
use Rattle.verilog_check.proofs.EarlyParts.{undriven_among, driver_fault_is}
use Rattle.verilog_check.proofs.early.driver_fault.Goals as goal

pub returns-in-Some-2 : goal.returns-in-Some-2
returns-in-Some-2 c =
    let d = design_view c.args.design.now in
    ap (λ (text : List ℕ). Some (NoDriver text)) c.in_ok-name-in-Some-2.ensures
    ∙ sym (driver_fault_is d c.in_ok-name.field-0 c.in_ok-name-3.field-0 (map drive_view c.in_ok-drives.drives.items) c.args.ordered.now c.in_ok-drives.ensures c.requires
    (c.in_ok-name.ensures ∙ ap (λ (xs : List Drive). first_shared [] (map drive_view xs)) c.deref.ensures.value) c.in_default.is
    (c.in_ok-name-3.ensures ∙ ap (λ (xs : List Drive). undriven_among (map drive_view xs) c.args.ordered.now) c.deref-2.ensures.value) ∙ ap (named d NoDriver) c.in-Some-2.is)

pub returns : goal.returns
returns c =
    let d = design_view c.args.design.now in
    sym (driver_fault_is d c.in_ok-name.field-0 c.in_ok-name-3.field-0 (map drive_view c.in_ok-drives.drives.items) c.args.ordered.now c.in_ok-drives.ensures c.requires
    (c.in_ok-name.ensures ∙ ap (λ (xs : List Drive). first_shared [] (map drive_view xs)) c.deref.ensures.value) c.in_default.is
    (c.in_ok-name-3.ensures ∙ ap (λ (xs : List Drive). undriven_among (map drive_view xs) c.args.ordered.now) c.deref-2.ensures.value) ∙ ap (named d NoDriver) c.in-None.is)
