use Rattle.std.proofs.Common.{rules}
use Rattle.verilog_parse.proofs.Members.{actions_view-append}
use Rattle.verilog_parse.proofs.statement.step.with_last.Goals as goal

pub returns : goal.returns
returns c = search (rules, actions_view-append)
