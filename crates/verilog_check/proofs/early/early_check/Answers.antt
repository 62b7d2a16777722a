use Rattle.std.proofs.Common.{◌≡◌, List, [], map, Option, None, IfOk, ap, subst, sym, ◌∙◌}
use Rattle.verilog_tree.specs.declared.fault.ModuleFault.{ModuleFault}
use Rattle.verilog_tree.specs.declared.tree.Module.{Module}
use Rattle.verilog_tree.specs.declared.tree.Signal.{Signal}
use Rattle.verilog_tree.specs.Checks.{first_repeat, redeclared}
use Rattle.verilog_tree.specs.View.{design_view}
use Rattle.verilog_check.specs.Early.{name_fault}
use Rattle.verilog_check.specs.Faces.{face_of}
use Rattle.verilog_check.proofs.EarlyParts.{early_fault_is}
use Rattle.verilog_check.proofs.early.early_check.Goals as goal

pub returns : goal.returns
returns c =
    let d = design_view c.args.design.now in
    let none : redeclared d ≡ None =
    sym (c.in_ok-name.ensures ∙ ap (λ (ss : List Signal). first_repeat [] (map (λ (s : Signal). s.name) ss)) c.requires) ∙ c.in_default.is in
    subst (λ (o : Option ModuleFault). IfOk c.name_fault.result (λ (fault : Option ModuleFault). fault ≡ o))
    (ap (λ (m : Module). name_fault (face_of c.args.face) (design_view m)) c.in_ok-declared.ensures.design ∙ early_fault_is (face_of c.args.face) d none) c.name_fault.ensures
