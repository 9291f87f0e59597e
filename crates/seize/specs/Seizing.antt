-- Seizing a device for a membership attempt, one command at a time.
use Rattle.std.specs.Prelude.{ℕ, ◌+◌, nat_lt, ◌==◌, Bool, ◌&&◌, ◌||◌, if◌then◌else◌, List, Option, Some, None}
use Rattle.pgr_device.specs.declared.kind.PrKind.TheVariants.{WriteExclusiveRegistrantsOnly}
use Rattle.pgr_device.specs.declared.command.PrCommand.{PrCommand}
use Rattle.pgr_device.specs.declared.command.PrCommand.TheVariants as command
use Rattle.seize.specs.declared.kind.SeizeKind.{SeizeKind}
use Rattle.seize.specs.declared.kind.SeizeKind.TheVariants.{Vote, Plain}
use Rattle.cl_base.specs.Seizings.{SeizeResult}
use Rattle.cl_base.specs.declared.seizing.SeizeEnd.TheVariants.{Held, NotRegistered, Greater, Expelled, Contended, Fault}
use Rattle.seize.specs.declared.step.SeizeStep.{SeizeStep}
use Rattle.seize.specs.declared.step.SeizeStep.TheVariants.{Check, Register, ReadWord, Swap, Reserve, ReadKeys, Preempt, Confirm, Ended}
use Rattle.seize.specs.Answers.{Answer, keys_told, word_told, word_found, is_good, is_conflict}
use Rattle.cl_base.specs.Keys.{key_of}
use Rattle.seize.specs.Keys.{has_key, first_stranger}

pub record SeizeState : Type 0 where
  -- for its votes, or as a device without
  pub kind : SeizeKind
  -- the attempt's epoch and its members
  pub epoch : ℕ
  pub members : ℕ
  -- the node that seizes, and its cluster
  pub me : ℕ
  pub cluster : ℕ
  -- its record says that its key on the device is validated
  pub valid : Bool
  -- how far it has come
  pub step : SeizeStep

abbrev pub own_key : SeizeState → ℕ
own_key s = key_of s.cluster s.me

-- a seizing for votes looks whether the own key is there, any other registers it
abbrev pub first_step : SeizeKind → SeizeStep
first_step Vote = Check
first_step Plain = Register

abbrev pub begun : SeizeKind → ℕ → ℕ → ℕ → ℕ → Bool → SeizeState
begun kind epoch members me cluster valid =
    record { kind = kind; epoch = epoch; members = members; me = me; cluster = cluster; valid = valid; step = first_step kind }

abbrev pub command_at : SeizeState → SeizeStep → Option PrCommand
command_at s Check = Some command.Keys
command_at s Register = Some (command.Ignore (own_key s))
command_at s ReadWord = Some command.Word
command_at s (Swap expected) = Some (command.Swap expected s.epoch)
command_at s Reserve = Some (command.Reserve WriteExclusiveRegistrantsOnly (own_key s))
command_at s (ReadKeys reading) = Some command.Keys
command_at s (Preempt victim reading) = Some (command.Preempt WriteExclusiveRegistrantsOnly (own_key s) victim)
command_at s (Confirm keys) = Some command.Word
command_at s (Ended result) = None

abbrev pub result_at : SeizeStep → Option SeizeResult
result_at (Ended result) = Some result
result_at _ = None

-- the first keys: the own one must be there, and validated
abbrev pub checked : SeizeState → Option (List ℕ) → SeizeStep
checked s None = Ended Fault
checked s (Some keys) = if has_key (own_key s) keys && s.valid then ReadWord else Ended (NotRegistered keys)

-- the word: a smaller one is raised to the epoch
abbrev pub compared : SeizeState → Option ℕ → SeizeStep
compared s None = Ended Fault
compared s (Some word) =
    if nat_lt word s.epoch then Swap word
    else if word == s.epoch then Reserve
    else Ended (Greater word)

-- the swap: a conflict says that the own key is gone, and another word is compared as one that was read
abbrev pub swapped : SeizeState → ℕ → Answer → SeizeStep
swapped s expected a =
    if is_good a then Reserve
    else if is_conflict a then Ended Expelled
    else compared s (word_found expected a)

-- the key of no member is preempted, but not after the 64th reading running
abbrev pub cleared : List ℕ → ℕ → Option ℕ → SeizeStep
cleared keys reading None = Confirm keys
cleared keys reading (Some key) = if nat_lt reading 64 then Preempt key reading else Ended (Contended key)

-- the keys after the reservation: the own one is there, and besides members' alone
abbrev pub looked : SeizeState → ℕ → Option (List ℕ) → SeizeStep
looked s reading None = Ended Fault
looked s reading (Some keys) =
    if has_key (own_key s) keys then cleared keys reading (first_stranger s.cluster s.members keys) else Ended Expelled

-- the word once more
abbrev pub confirmed : SeizeState → List ℕ → Option ℕ → SeizeStep
confirmed s keys None = Ended Fault
confirmed s keys (Some word) = if word == s.epoch then Ended (Held keys) else Ended (Greater word)

abbrev pub next_step : SeizeState → SeizeStep → Answer → SeizeStep
next_step s Check a = checked s (keys_told a)
next_step s Register a = if is_good a then ReadWord else Ended Fault
next_step s ReadWord a = compared s (word_told a)
next_step s (Swap expected) a = swapped s expected a
next_step s Reserve a = if is_good a || is_conflict a then ReadKeys 1 else Ended Fault
next_step s (ReadKeys reading) a = looked s reading (keys_told a)
next_step s (Preempt victim reading) a = if is_good a || is_conflict a then ReadKeys (reading + 1) else Ended Fault
next_step s (Confirm keys) a = confirmed s keys (word_told a)
next_step s (Ended result) a = Ended result

-- the command that is due, if one is
abbrev pub command_of : SeizeState → Option PrCommand
command_of s = command_at s s.step

-- the result, once there is one
abbrev pub result_of : SeizeState → Option SeizeResult
result_of s = result_at s.step

-- the answer to the due command is taken
abbrev pub taken : SeizeState → Answer → SeizeState
taken s a = record s { step = next_step s s.step a }
