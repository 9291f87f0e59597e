-- A PREEMPT names a victim's key that is not zero and not the sender's own.
use Rattle.std.specs.Prelude.{◌≢◌}
use Rattle.pgr_device.specs.declared.command.PrCommand.{PrCommand}
use Rattle.pgr_device.specs.declared.command.PrCommand.TheVariants.{Preempt}

abbrev pub IsAllowed : PrCommand → Type 0
IsAllowed (Preempt kind key victim) = (victim ≢ 0) × (victim ≢ key)
IsAllowed _ = Unit {0}
