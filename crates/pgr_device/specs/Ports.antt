-- What a call through a port does to the device behind it.
use Rattle.std.specs.Prelude.{◌≡◌, ℕ, ◌+◌, ◌-◌, ◌≤◌, ◌^◌, ◌⊎◌, min, Result, IfOk, OnErr, IsErrOf}
use Rattle.pgr_device.specs.declared.command.PrAnswer.{PrAnswer}
use Rattle.pgr_device.specs.declared.command.PrCommand.{PrCommand}
use Rattle.pgr_device.specs.declared.port.PortError.{PortError}
use Rattle.pgr_device.specs.declared.port.PortError.TheVariants.{Failed}
use Rattle.pgr_device.specs.Device.{Device}
use Rattle.pgr_device.specs.Keys.{HasNoZeroKey}
use Rattle.pgr_device.specs.Spc.{step}

-- a count of faults has risen, or stands at its type's end
abbrev pub Rose : ℕ → ℕ → Type 0
Rose before now = min (before + 1) (2 ^ 64 - 1) ≤ now

-- the command of a node was answered and done, or it failed and was done or not
pub record IsPortCall (old new : Device) (node : ℕ) (command : PrCommand) (result : Result PrAnswer PortError) : Type 0 where
  pub answered : IfOk result (λ answer. answer ≡ (step old node command).answer)
  pub done : IfOk result (λ answer. new ≡ (step old node command).after)
  pub failed : OnErr result ((new ≡ old) ⊎ (new ≡ (step old node command).after))
  pub keys : IfOk result HasNoZeroKey

-- the count of faults never falls, and a call fails only where it rose
pub record HasCause (before now : ℕ) (result : Result PrAnswer PortError) : Type 0 where
  pub later : before ≤ now
  pub failed : IsErrOf result Failed → Rose before now
