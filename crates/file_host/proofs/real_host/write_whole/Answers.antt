use Rattle.std.proofs.Common.{◌≡◌, ◌++◌, ℕ, List, take, drop, length, subst}
use Rattle.std.specs.Io.KnownBytes.{Appends}
use Rattle.file_host.proofs.TakenLemmas.{Appends-then, Keeps-appends, stopped, left}
use Rattle.file_host.proofs.real_host.write_whole.Goals as goal

pub returns-then-count-eq0 : goal.returns-then-count-eq0
returns-then-count-eq0 g c =
    let kept = subst (λ (count : ℕ). Appends (g.W.Write.contents c.loop-rest.file) (g.W.Write.contents c.write.new.self) (take count c.loop-rest.rest.now)) c.if-count-eq0.true c.in-Ok.ensures.bytes in
    stopped _ _ _ c.args.piece.now c.loop-rest.invariant.0 c.loop-rest.rest.now c.loop-rest.invariant.1 c.loop-rest.invariant.2 kept

pub loop-rest-preserved : goal.loop-rest-preserved
loop-rest-preserved g c =
    let front : List ℕ = c.loop-rest.invariant.0 in
    let taken : List ℕ = take c.in-Ok.count c.loop-rest.rest.now in
    (front ++ taken, left c.args.piece.now front c.loop-rest.rest.now c.in-Ok.count c.loop-rest.invariant.1, Appends-then (g.W.Write.contents c.args.file.now) (g.W.Write.contents c.loop-rest.file) (g.W.Write.contents c.write.new.self) front taken c.loop-rest.invariant.2 c.in-Ok.ensures.bytes)

pub returns-in-Err : goal.returns-in-Err
returns-in-Err g c = stopped _ _ _ c.args.piece.now c.loop-rest.invariant.0 c.loop-rest.rest.now c.loop-rest.invariant.1 c.loop-rest.invariant.2 (Keeps-appends _ _ c.in-Err.ensures.bytes)
