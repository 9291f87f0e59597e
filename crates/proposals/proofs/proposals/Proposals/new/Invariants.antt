use Rattle.std.proofs.Common.{◌≡◌, replicate, None}
use Rattle.proposals.proofs.proposals.Proposals.new.Given as goal

abbrev pub invariant-loop : goal.invariant-loop
invariant-loop l = l.answers.items ≡ replicate l.counter None
