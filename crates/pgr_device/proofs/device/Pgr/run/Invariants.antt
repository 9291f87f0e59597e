use Rattle.std.proofs.Common.{◌≡◌, ◌++◌, drop, take}
use Rattle.pgr_device.specs.Runs.{run, run_answers, IsRun}
use Rattle.pgr_device.proofs.device.Pgr.run.Given as goal

-- the steps left make of the device what all make of it
abbrev pub invariant-loop-step : goal.invariant-loop-step
invariant-loop-step l = record {
  goes : run l.self (drop l.step-index l.steps) ≡ run l.fn.self l.steps;
  said : l.answers.items ++ run_answers l.self (drop l.step-index l.steps) ≡ run_answers l.fn.self l.steps;
  came : l.self ≡ run l.fn.self (take l.step-index l.steps);
  left : IsRun (drop l.step-index l.steps);
}
