use Rattle.std.proofs.Common.{◌≡◌, ℕ, List, [], ◌++◌, ap, ◌∙◌}
use Rattle.std.specs.Prelude.{map}
use Rattle.verilog_tree.specs.declared.tree.Assign.{Assign}
use Rattle.verilog_tree.specs.declared.tree.Signal.{Signal}
use Rattle.verilog_tree.specs.declared.tree.Stmt.{Stmt}
use Rattle.verilog_tree.specs.View.{action_view, assignment_view, design_view}
use Rattle.verilog_tree.specs.Renaming.{number_in}
use Rattle.verilog_tree.specs.Tree.{Design}
use Rattle.verilog_text.specs.declared.token.Mark.TheVariants.{Open}
use Rattle.verilog_text.specs.Text.{items_text}
use Rattle.verilog_text.specs.Shortest.{declared_of, assigned_of, clocked_of, ports_in, stores_in}
use Rattle.verilog_text.specs.Text.{clock_text}
use Rattle.verilog_write.specs.Parts.{port_list}
use Rattle.verilog_write.proofs.Whole.{whole}
use Rattle.verilog_write.proofs.text.tokens_of.Goals as goal

pub returns : goal.returns
returns c =
    let d : Design = design_view c.args.tree.now in
    let clock = number_in d.names clock_text in
    let ports : c.write_ports.new.out.items ≡ c.write_head.new.out.items ++ port_list Open (ports_in d.signals) = c.in_ok-write_ports.ensures ∙ ap (λ (ss : List Signal). c.write_head.new.out.items ++ port_list Open (ports_in ss)) c.deref-2.ensures.value in
    let stored : c.write_declarations.new.out.items ≡ c.write_port_end.new.out.items ++ items_text 0 (map declared_of (stores_in d.signals)) [] = c.in_ok-write_declarations.ensures ∙ ap (λ (ss : List Signal). c.write_port_end.new.out.items ++ items_text 0 (map declared_of (stores_in ss)) []) c.deref-3.ensures.value in
    let assigned : c.write_assigns.new.out.items ≡ c.write_declarations.new.out.items ++ items_text 0 (map assigned_of d.assigns) [] = c.in_ok-write_assigns.ensures ∙ ap (λ (xs : List Assign). c.write_declarations.new.out.items ++ items_text 0 (map assigned_of (map assignment_view xs)) []) c.deref-4.ensures.value in
    let number : c.number_in-clock.result ≡ clock = c.number_in-clock.ensures ∙ ap (λ (names : List (List ℕ)). number_in names clock_text) c.deref.ensures.value in
    let blocked : c.write_blocks.new.out.items ≡ c.write_assigns.new.out.items ++ items_text clock (map clocked_of d.blocks) [] =
    c.in_ok-write_blocks.ensures
    ∙ ap (λ (xs : List Stmt). c.write_assigns.new.out.items ++ items_text c.number_in-clock.result (map clocked_of (map action_view xs)) []) c.deref-5.ensures.value
    ∙ ap (λ (n : ℕ). c.write_assigns.new.out.items ++ items_text n (map clocked_of d.blocks) []) number in
    whole d clock c.new-tokens.result.items c.write_head.new.out.items c.write_ports.new.out.items c.write_port_end.new.out.items c.write_declarations.new.out.items c.write_assigns.new.out.items c.write_blocks.new.out.items c.put_word.new.out.items
    c.new-tokens.ensures.items c.in_ok-write_head.ensures ports c.in_ok-write_port_end.ensures stored assigned blocked c.in_ok-put_word.ensures c.requires
