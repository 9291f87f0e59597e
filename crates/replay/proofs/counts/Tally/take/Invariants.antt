use Rattle.std.proofs.Common.{◌≡◌, ℕ, List, ◌++◌, take}
use Rattle.replay.specs.Tallies.{IsTally, counts_from}
use Rattle.replay.proofs.counts.Tally.take.Given as goal

abbrev pub invariant-loop-byte : goal.invariant-loop-byte
invariant-loop-byte l = record {
  whole : IsTally l.self;
  taken : (more : List ℕ) → counts_from l.fn.self (take l.byte-index l.text ++ more) ≡ counts_from l.self more;
}
