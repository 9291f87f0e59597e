-- The exit codes of the program.
use Rattle.std.specs.Prelude.{◌≡◌, ◌⊎◌, ℕ}
use Rattle.replay.specs.declared.status.Status.{Status}
use Rattle.replay.specs.declared.status.Status.TheVariants.{Done, NoMemory, WriteFault}
use Rattle.replay.specs.Statuses.{code_of}

-- the code of some status
pub record IsExit (code : ℕ) : Type 0 where
  pub status : Status
  pub is : code ≡ code_of status

-- `gen` reads nothing and refuses no line
abbrev pub IsGenExit : ℕ → Type 0
IsGenExit code = (code ≡ code_of Done) ⊎ (code ≡ code_of WriteFault) ⊎ (code ≡ code_of NoMemory)
