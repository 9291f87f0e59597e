use Rattle.std.proofs.Common.{◌≡◌, take}
use Rattle.cmm_member.specs.Nodes.{joining_all}
use Rattle.cmm_member.specs.Views.{devices_of, with_devices}
use Rattle.cmm_member.proofs.joining.join_devices.Given as goal

abbrev pub invariant-loop-reading : goal.invariant-loop-reading
invariant-loop-reading l = l.running ≡ with_devices l.fn.running (joining_all l.fn.running.me (devices_of l.fn.running) (take l.reading-index l.readings))
