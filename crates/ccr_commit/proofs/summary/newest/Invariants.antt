use Rattle.ccr_commit.proofs.NewestLemmas.{Leads}
use Rattle.ccr_commit.proofs.summary.newest.Given as goal

abbrev pub invariant-loop-index : goal.invariant-loop-index
invariant-loop-index l = Leads l.summaries l.best l.index
