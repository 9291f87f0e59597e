use Rattle.std.proofs.Common.{sym, ◌∙◌, ap}
use Rattle.local_disk.specs.Memory.{State}
use Rattle.local_disk.proofs.Left.{spoils}
use Rattle.local_disk.proofs.memory.MemDiskLocalDisk.write_at.Goals as goal

pub returns-clause-left : goal.returns-clause-left
returns-clause-left c =
    let same = ap (λ (d : State). d.stop) c.overwrite.ensures.after in
    spoils c.args.self.now c.overwrite.new.self c.count-2.new.self c.args.place c.args.bytes.now (sym c.stopped.ensures.stopped ∙ c.if-stopped.false) same c.overwrite.ensures.left c.count-2.ensures.after
