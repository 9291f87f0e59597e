-- A run of a device: commands and losses of power, one after another. A loss of power changes nothing
-- and has no answer.
use Rattle.std.specs.Prelude.{◌≡◌, ◌≤◌, ℕ, List, [], ◌∷◌, length, take}
use Rattle.pgr_device.specs.declared.command.PrAnswer.{PrAnswer}
use Rattle.pgr_device.specs.declared.run.Step.{Step}
use Rattle.pgr_device.specs.declared.run.Step.TheVariants.{Command, PowerLoss}
use Rattle.pgr_device.specs.Allowed.{IsAllowed}
use Rattle.pgr_device.specs.Device.{Device}
use Rattle.pgr_device.specs.Spc.{step}

-- the state after the steps
abbrev pub run : Device → List Step → Device
run d [] = d
run d (Command node command ∷ steps) = run (step d node command).after steps
run d (PowerLoss ∷ steps) = run d steps

-- the answers to the commands, in order
abbrev pub run_answers : Device → List Step → List PrAnswer
run_answers d [] = []
run_answers d (Command node command ∷ steps) = (step d node command).answer ∷ run_answers (step d node command).after steps
run_answers d (PowerLoss ∷ steps) = run_answers d steps

-- the senders are nodes, and each PREEMPT names a victim's key
abbrev pub IsRun : List Step → Type 0
IsRun [] = Unit {0}
IsRun (Command node command ∷ steps) = (1 ≤ node) × (node ≤ 32) × IsAllowed command × IsRun steps
IsRun (PowerLoss ∷ steps) = IsRun steps

-- the first so many of the steps were taken
pub record IsRunInPart (old : Device) (steps : List Step) (new : Device) : Type 0 where
  pub taken : ℕ
  pub within : taken ≤ length steps
  pub after : new ≡ run old (take taken steps)
