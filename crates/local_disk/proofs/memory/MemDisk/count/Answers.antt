use Rattle.std.proofs.Common.{◌≡◌, length, sym, ◌∙◌}
use Rattle.local_disk.specs.Memory.{choice_of}
use Rattle.local_disk.proofs.Zeros.{left_image}
use Rattle.local_disk.proofs.memory.MemDisk.count.Goals as goal

pub returns-clause-one : goal.returns-clause-one
returns-clause-one c =
    let old = c.self.inside in
    let size : length old.unsynced.items ≡ length old.reads.items = c.self.invariant.unsynced ∙ sym c.self.invariant.reads in
    rw (← c.self.view_is) (left_image (choice_of old.stop) old.unsynced.items old.synced.items old.reads.items size c.self.invariant.same)
