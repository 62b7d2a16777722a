use Rattle.std.proofs.Common.{Result, Ok, Err, IfOk}
use Rattle.pipeline_balance.specs.Gate.{IsTickOf, IsCounter}
use Rattle.pipeline_balance.proofs.CounterLemmas.{IsCounter-regroup}
use Rattle.pipeline_balance.proofs.gates.counter.Goals as goal

mapped : {T E : Type 0} (P Q : T → Type 0) (r : Result T E) → ((x : T) → P x → Q x) → IfOk r P → IfOk r Q
mapped P Q (Ok x) f p = f x p
mapped P Q (Err e) f p = p

-- the group is put back
pub returns-clause-ok : goal.returns-clause-ok
returns-clause-ok c =
    mapped (IsCounter c.set_group.new.self c.count_ticks-counted.new.net (IsTickOf c.args.period c.args.first)) (IsCounter c.args.net.now c.set_group-2.new.self (IsTickOf c.args.period c.args.first)) c.count_ticks-counted.result
    (λ bit p. IsCounter-regroup c.group-group.ensures c.set_group.ensures c.set_group-2.ensures p) c.count_ticks-counted.ensures.ok
