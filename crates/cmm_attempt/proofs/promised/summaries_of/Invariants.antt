use Rattle.std.proofs.Common.{◌≡◌, take, map}
use Rattle.cmm_attempt.proofs.promised.summaries_of.Given as goal

abbrev pub invariant-loop-p : goal.invariant-loop-p
invariant-loop-p l = l.summaries.items ≡ map (λ p. p.shown.summary) (take l.p-index l.promises)
