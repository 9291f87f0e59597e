use Rattle.replay.proofs.Complete.{gens_are_complete, runs_are_complete}
use Rattle.replay.proofs.WholeLines.{schedules_end}
use Rattle.replay.proofs.law.completeness.Goals as goal

pub returns-clause-schedules : goal.returns-clause-schedules
returns-clause-schedules c = schedules_end

pub returns-clause-runs : goal.returns-clause-runs
returns-clause-runs c = runs_are_complete

pub returns-clause-made : goal.returns-clause-made
returns-clause-made c = gens_are_complete
