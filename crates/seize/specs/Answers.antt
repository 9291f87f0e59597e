-- What the answer to a command tells. An answer that the device never gives to the command counts as a failure, and so do a missing path
-- and a conflict to the reading of the word.
use Rattle.std.specs.Prelude.{◌≡◌, ℕ, ◌==◌, Bool, true, false, not, if◌then◌else◌, List, Option, Some, None, Result, Ok, Err}
use Rattle.pgr_device.specs.declared.command.PrCommand.{PrCommand}
use Rattle.pgr_device.specs.declared.command.PrCommand.TheVariants as command
use Rattle.pgr_device.specs.declared.command.PrAnswer.{PrAnswer}
use Rattle.pgr_device.specs.declared.command.PrAnswer.TheVariants as answer
use Rattle.pgr_device.specs.declared.port.Failed.{Failed}

abbrev pub Answer : Type 0
Answer = Result PrAnswer Failed

-- the keys that were read
abbrev pub keys_told : Answer → Option (List ℕ)
keys_told (Ok (answer.Keys keys)) = Some keys
keys_told _ = None

-- the word that was read
abbrev pub word_told : Answer → Option ℕ
word_told (Ok (answer.Word word)) = Some word
word_told _ = None

-- the word that a swap found in place of the one that it expected
abbrev pub word_found : ℕ → Answer → Option ℕ
word_found expected (Ok (answer.Miscompare word)) = if word == expected then None else Some word
word_found expected _ = None

abbrev pub is_good : Answer → Bool
is_good (Ok answer.Good) = true
is_good _ = false

abbrev pub is_conflict : Answer → Bool
is_conflict (Ok answer.Conflict) = true
is_conflict _ = false

-- what the device may answer to the commands that are sent here
abbrev pub is_answer : PrCommand → PrAnswer → Bool
is_answer (command.Ignore new) answer.Good = true
is_answer (command.Reserve kind key) answer.Good = true
is_answer (command.Reserve kind key) answer.Conflict = true
is_answer (command.Preempt kind key victim) answer.Good = true
is_answer (command.Preempt kind key victim) answer.Conflict = true
is_answer command.Keys (answer.Keys keys) = true
is_answer command.Word (answer.Word word) = true
is_answer (command.Swap expected new) answer.Good = true
is_answer (command.Swap expected new) answer.Conflict = true
is_answer (command.Swap expected new) (answer.Miscompare word) = not (word == expected)
is_answer _ _ = false

-- the command failed
abbrev pub IsFailure : PrCommand → Answer → Type 0
IsFailure sent (Ok told) = is_answer sent told ≡ false
IsFailure sent (Err lost) = Unit {0}
