use Rattle.std.proofs.Common.{sym, subst}
use Rattle.std.specs.Prelude.{IfOk}
use Rattle.verilog_tree.specs.declared.tree.Module.{Module}
use Rattle.verilog_tree.specs.Alike.{SameName, IsAlikeSignal, IsAlike}
use Rattle.verilog_tree.specs.Tree.{Design}
use Rattle.verilog_tree.specs.View.{design_view}
use Rattle.verilog_text.specs.Grammar.{limits}
use Rattle.verilog_text.specs.Order.{Along, ordered_signals, IsInOrder, IsSameButPlaces}
use Rattle.verilog_text.specs.Reading.{Reads}
use Rattle.verilog_text.specs.Shortest.{IsWritable}
use Rattle.verilog_write.proofs.text.text_of.Goals as goal

pub text_of_tree-requires : goal.text_of_tree-requires
text_of_tree-requires c = subst (λ (m : Module). IsWritable limits (design_view m)) (sym c.tree.ensures.same) c.tree.ensures.formed

pub returns-clause-reads : goal.returns-clause-reads
returns-clause-reads c =
    subst (λ (m : Module). IfOk c.text_of_tree.result (λ text. (design : Design) × Reads text.items design × IsAlike design (design_view m) × Along (IsAlikeSignal (SameName design.names (design_view m).names)) design.signals (ordered_signals (design_view m))))
    c.tree.ensures.same c.text_of_tree.ensures.reads

pub returns-clause-same : goal.returns-clause-same
returns-clause-same c =
    subst (λ (m : Module). IsInOrder (design_view m) → IfOk c.text_of_tree.result (λ text. (design : Design) × Reads text.items design × IsSameButPlaces design (design_view m)))
    c.tree.ensures.same c.text_of_tree.ensures.same
