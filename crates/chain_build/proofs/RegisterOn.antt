-- A linear register in a net whose stream carries the samples.
use Rattle.std.proofs.Common.{ℕ, List, ℤ}
use Rattle.std.specs.Prelude.{All}
use Rattle.mr_values.specs.declared.plan.Element.{Element}
use Rattle.mr_values.specs.Sequence.{samples}
use Rattle.mr_values.specs.Value.{chain}
use Rattle.mr_values.specs.Width.{FitsWidth}
use Rattle.net_graph.specs.declared.cell.Cell.{Cell}
use Rattle.net_graph.specs.declared.cell.Stream.{Stream}
use Rattle.net_graph.specs.Cut.{Cut, cut_all, cut_control}
use Rattle.net_graph.specs.Grow.{Extends}
use Rattle.net_graph.specs.Run.{Values, IsRun}
use Rattle.net_graph.proofs.CutLemmas.{IsCut-all, IsCut-control}
use Rattle.pipeline_balance.specs.Gate.{Carries}
use Rattle.pipeline_balance.proofs.NumberedLemmas.{IsRegister-later}
use Rattle.chain_build.specs.Linear.{LinearRegister}
use Rattle.chain_build.specs.LinearOn.{IsRegisterOn}

-- in a run, however it is cut, one stream carries what elements make of the samples that the other carries
abbrev pub CarriesPrefix : Cut → ℕ → List Element → List Cell → Stream → Stream → Type 0
CarriesPrefix cut width elements cells from last =
    (inputs : ℕ → ℤ) (values : Values) (xs : List ℤ) → All (FitsWidth width) xs → IsRun cut cells inputs values → Carries values from (samples xs) → Carries values last (chain elements (samples xs))

pub IsRegisterOn-later : {width : ℕ} {old new : List Cell} {from : Stream} {r : LinearRegister} → Extends old new → IsRegisterOn width old from r → IsRegisterOn width new from r
IsRegisterOn-later extends on = record {
  node = on.node;
  group = on.group;
  register = IsRegister-later extends on.register;
  same = λ inputs values whole xs fit run uncut carried carried_whole. on.same inputs values whole xs fit (extends.runs cut_all IsCut-all inputs values run) (extends.runs cut_control IsCut-control inputs whole uncut) carried carried_whole;
  holds = λ s is inputs values xs fit run carried. on.holds s is inputs values xs fit (extends.runs cut_all IsCut-all inputs values run) carried;
}
