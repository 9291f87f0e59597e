use Rattle.std.proofs.Common.{List, ℕ}
use Rattle.replay.proofs.Counting.{ends_line}
use Rattle.replay.proofs.counts.Tally.take_byte.Goals as goal

pub returns-then-byte-eq10-clause-taken : goal.returns-then-byte-eq10-clause-taken
returns-then-byte-eq10-clause-taken c = λ (more : List ℕ).
    ends_line c.args.self.now.counts c.with_line-self.result c.args.self.now.held.items c.deref.result.now c.clear.new.self.items more c.args.byte
    c.requires.whole c.if-byte-eq10.true c.with_line-self.ensures c.deref.ensures.value c.clear.ensures.items
