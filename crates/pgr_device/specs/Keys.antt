-- No key of an answer is zero.
use Rattle.std.specs.Prelude.{◌≢◌, All, Some}
use Rattle.pgr_device.specs.declared.command.PrAnswer.{PrAnswer}
use Rattle.pgr_device.specs.declared.command.PrAnswer.TheVariants as answer

abbrev pub HasNoZeroKey : PrAnswer → Type 0
HasNoZeroKey (answer.Keys keys) = All (λ key. key ≢ 0) keys
HasNoZeroKey (answer.Holder (Some held)) = held.0 ≢ 0
HasNoZeroKey _ = Unit {0}
