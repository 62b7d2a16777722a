use Rattle.chain_values.proofs.ChainSteps.{group_advances, round_advances, clip_advances}
use Rattle.chain_values.proofs.stage.Stage.push_all.Goals as goal

pub returns-in_ok-push_all-in-Group : goal.returns-in_ok-push_all-in-Group
returns-in_ok-push_all-in-Group c =
    rw c.in-Group.is (group_advances c.in-Group.group c.push_all.new.self c.args.values.now c.args.out.now.items c.push_all.new.out.items c.in_ok-push_all-in-Group.ensures)

pub returns-in_ok-push_all-in-Rounded : goal.returns-in_ok-push_all-in-Rounded
returns-in_ok-push_all-in-Rounded c =
    rw c.in-Rounded.is (round_advances c.in-Rounded.rounding c.args.values.now c.args.out.now.items c.push_all-in-Rounded.new.out.items c.in_ok-push_all-in-Rounded.ensures)

pub returns-in_ok-push_all-in-Clipped : goal.returns-in_ok-push_all-in-Clipped
returns-in_ok-push_all-in-Clipped c =
    rw c.in-Clipped.is (clip_advances c.in-Clipped.clipping c.args.values.now c.args.out.now.items c.push_all-in-Clipped.new.out.items c.in_ok-push_all-in-Clipped.ensures)
