use Rattle.verilog_tree.specs.View.{design_view}
use Rattle.order_stream.proofs.OneText.{every-order}
use Rattle.order_stream.proofs.laws.law_of_every_order.Goals as goal

pub returns : goal.returns
returns c = every-order (design_view c.args.design.now) c.requires c.tree-tree.ensures.formed.distinct c.law_of_every_run.ensures.start
