-- What is proved of each run of the world, as things that happen: an Install tells each seizing that the history has of its devices.
use Rattle.std.specs.Prelude.{ℕ, ◌≡◌, List, Option, Some}
use Rattle.cl_base.specs.declared.header.Header.{Header}
use Rattle.history.specs.Letters.{says}
use Rattle.history.specs.Moment.{Moment}
use Rattle.history.specs.Order.{Always}
use Rattle.history.specs.Seizing.{seizing_of}
use Rattle.history.specs.Trace.{sent}
use Rattle.wire.specs.declared.message.Body.{Body}
use Rattle.wire.specs.declared.message.Body.TheVariants as body
use Rattle.run_devices.specs.readings.Laws.{told_in}
use Rattle.run_devices.specs.valid.Laws.{OfHeaderAndRun}

-- of each device an Install tells the seizing that the history has of it where the Install is sent: a device of which it tells none was seized by nobody
abbrev pub TellsAllIn : Header → List Moment → Option Body → Type 0
TellsAllIn h before (Some (body.Install i)) = (d : ℕ) → told_in i.readings d ≡ seizing_of h i.epoch d before
TellsAllIn h before _ = Unit {0}

abbrev pub TellsAllSeizings : Header → List Moment → Moment → Type 0
TellsAllSeizings h before (sent p n to called bytes) = TellsAllIn h before (says bytes)
TellsAllSeizings h before _ = Unit {0}

abbrev pub InstallsTellAllSeizings : Type 0
InstallsTellAllSeizings = OfHeaderAndRun (λ h moments. Always (TellsAllSeizings h) moments)
