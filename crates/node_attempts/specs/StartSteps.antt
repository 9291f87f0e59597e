-- The step in which a membership starts.
use Rattle.std.specs.Prelude.{Bool, true, false}
use Rattle.cmm_attempt.specs.declared.step.Step.{Step}
use Rattle.cmm_attempt.specs.declared.step.Step.TheVariants.{StartHere}

abbrev pub is_start : Step → Bool
is_start StartHere = true
is_start _ = false
