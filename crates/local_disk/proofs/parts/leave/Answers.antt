use Rattle.local_disk.proofs.Zeros.{zeroed_image, left_image}
use Rattle.local_disk.proofs.parts.leave.Goals as goal

pub settle-requires-in-Zero-clause-same : goal.settle-requires-in-Zero-clause-same
settle-requires-in-Zero-clause-same c =
    rw c.zero.ensures (zeroed_image c.args.marks.now c.args.reads.now c.requires.size c.args.synced.now c.requires.same)

pub returns-in-Zero-clause-image : goal.returns-in-Zero-clause-image
returns-in-Zero-clause-image c =
    left_image c.args.choice c.args.marks.now c.args.synced.now c.args.reads.now c.requires.size c.requires.same
