-- What holds of a seizing at each step.
use Rattle.std.specs.Prelude.{◌≡◌, ◌≢◌, ◌<◌, ◌≤◌, true, false}
use Rattle.cl_base.specs.Sets.{has}
use Rattle.seize.specs.declared.kind.SeizeKind.TheVariants.{Vote, Plain}
use Rattle.seize.specs.declared.step.SeizeStep.{SeizeStep}
use Rattle.seize.specs.declared.step.SeizeStep.TheVariants.{Check, Register, ReadWord, Swap, Reserve, ReadKeys, Preempt, Confirm, Ended}
use Rattle.seize.specs.Keys.{is_key_of}
use Rattle.seize.specs.Seizing.{SeizeState}

abbrev pub FitsStep : SeizeState → SeizeStep → Type 0
FitsStep s Check = s.kind ≡ Vote
FitsStep s Register = s.kind ≡ Plain
FitsStep s ReadWord = Unit {0}
FitsStep s (Swap expected) = expected < s.epoch
FitsStep s Reserve = Unit {0}
FitsStep s (ReadKeys reading) = (1 ≤ reading) × (reading ≤ 64)
FitsStep s (Preempt victim reading) = (victim ≢ 0) × (is_key_of s.cluster s.members victim ≡ false) × (1 ≤ reading) × (reading < 64)
FitsStep s (Confirm keys) = Unit {0}
FitsStep s (Ended result) = Unit {0}

pub record IsSeizing (s : SeizeState) : Type 0 where
  pub member : has s.members s.me ≡ true
  pub fits : FitsStep s s.step
