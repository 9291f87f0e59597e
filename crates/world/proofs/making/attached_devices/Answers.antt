use Rattle.std.proofs.Common.{arith}
use Rattle.world.proofs.DeviceLists.{attached_more}
use Rattle.world.proofs.making.attached_devices.Goals as goal

pub loop-index-preserved : goal.loop-index-preserved
loop-index-preserved c =
    attached_more c.args.devices.now c.loop-index.index c.device_at.result c.loop-index.attached.items _ c.index-devices-index.result
    c.loop-index.invariant (omega arith) c.device_at.ensures c.in_ok-push.ensures.items
