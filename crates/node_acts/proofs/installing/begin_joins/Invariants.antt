use Rattle.std.proofs.Common.{◌≡◌, take}
use Rattle.node_model.specs.Attempts.{joining_from}
use Rattle.node_acts.proofs.installing.begin_joins.Given as goal

-- as the readings so far make them
abbrev pub invariant-loop-reading : goal.invariant-loop-reading
invariant-loop-reading l = l.tasks ≡ joining_from l.fn.cluster l.fn.me l.fn.epoch l.fn.joined l.fn.tasks (take l.reading-index l.readings)
