use Rattle.net_graph.proofs.ControlLemmas.{control_same}
use Rattle.net_graph.proofs.laws.law_of_control.Goals as goal

pub returns : goal.returns
returns c cells net closed cut other law law' x y v u p q t place is = control_same cells net closed cut other law law' x y v u p q t place is
