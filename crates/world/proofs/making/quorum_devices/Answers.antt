use Rattle.std.proofs.Common.{arith}
use Rattle.world.proofs.DeviceLists.{quorum_more}
use Rattle.world.proofs.making.quorum_devices.Goals as goal

pub loop-index-preserved : goal.loop-index-preserved
loop-index-preserved c =
    quorum_more c.args.devices.now c.loop-index.index c.device_at.result c.loop-index.set c.with_quorum-set.result c.index-devices-index.result
    c.loop-index.invariant (omega arith) c.device_at.ensures c.with_quorum-set.ensures
