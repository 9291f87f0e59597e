use Rattle.std.proofs.Common.{ap, sym, ◌∙◌}
use Rattle.cmm_member.specs.Nodes.{joining_one}
use Rattle.cmm_member.specs.Views.{devices_of, with_devices}
use Rattle.cmm_member.proofs.EntryLemmas.{joining_all-more}
use Rattle.cmm_member.proofs.joining.join_devices.Goals as goal

pub loop-reading-preserved : goal.loop-reading-preserved
loop-reading-preserved c =
    c.join_device.ensures
    ∙ ap (λ s. with_devices s (joining_one s.me (devices_of s) c.reading-item.result)) c.loop-reading.invariant
    ∙ ap (with_devices c.args.running.now) (sym (joining_all-more c.args.running.now.me (devices_of c.args.running.now) c.args.readings.now c.loop-reading.reading-index c.reading-item.result c.loop-reading-test.true c.reading-item.is))
