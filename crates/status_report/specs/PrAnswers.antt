-- What a device is asked and answers, as words.
use Rattle.std.specs.Prelude.{ℕ, List, [], ◌∷◌, ◌++◌, Option, Some, None, codes}
use Rattle.std.specs.List.{flat_map}
use Rattle.std.specs.Fmt.{decimal}
use Rattle.pgr_device.specs.declared.kind.PrKind.{PrKind}
use Rattle.pgr_device.specs.declared.kind.PrKind.TheVariants.{WriteExclusive, ExclusiveAccess, WriteExclusiveRegistrantsOnly, ExclusiveAccessRegistrantsOnly}
use Rattle.pgr_device.specs.declared.command.PrAnswer.{PrAnswer}
use Rattle.pgr_device.specs.declared.command.PrAnswer.TheVariants.{Good, Conflict, InvalidRelease, NoPath, Keys, Holder, Word, Value, Miscompare}
use Rattle.pgr_device.specs.declared.command.PrCommand.{PrCommand}
use Rattle.pgr_device.specs.declared.command.PrCommand.TheVariants as command
use Rattle.status_report.specs.Words.{hex, spaced}

-- the number of the type
abbrev pub kind_text : PrKind → List ℕ
kind_text WriteExclusive = codes "1"
kind_text ExclusiveAccess = codes "3"
kind_text WriteExclusiveRegistrantsOnly = codes "5"
kind_text ExclusiveAccessRegistrantsOnly = codes "6"

-- the keys, each after a space, or `none`
abbrev pub keys_text : List ℕ → List ℕ
keys_text [] = codes "keys none"
keys_text (key ∷ keys) = codes "keys" ++ flat_map (λ k. codes " " ++ hex k) (key ∷ keys)

abbrev pub held_text : ℕ → PrKind → List ℕ
held_text key kind = spaced (codes "reservation" ∷ hex key ∷ kind_text kind ∷ [])

abbrev pub holder_text : Option (ℕ × PrKind) → List ℕ
holder_text None = codes "reservation none"
holder_text (Some held) = held_text held.0 held.1

abbrev pub answer_text : PrAnswer → List ℕ
answer_text Good = codes "good"
answer_text Conflict = codes "conflict"
answer_text InvalidRelease = codes "invalid-release"
answer_text NoPath = codes "no-path"
answer_text (Keys keys) = keys_text keys
answer_text (Holder holder) = holder_text holder
answer_text (Word word) = spaced (codes "word" ∷ decimal word ∷ [])
answer_text (Value value) = spaced (codes "data" ∷ decimal value ∷ [])
answer_text (Miscompare word) = spaced (codes "miscompare" ∷ decimal word ∷ [])

abbrev pub command_text : PrCommand → List ℕ
command_text (command.Register key new) = spaced (codes "register" ∷ hex key ∷ hex new ∷ [])
command_text (command.Ignore new) = spaced (codes "ignore" ∷ hex new ∷ [])
command_text (command.Reserve kind key) = spaced (codes "reserve" ∷ kind_text kind ∷ hex key ∷ [])
command_text (command.Release kind key) = spaced (codes "release" ∷ kind_text kind ∷ hex key ∷ [])
command_text (command.Clear key) = spaced (codes "clear" ∷ hex key ∷ [])
command_text (command.Preempt kind key victim) = spaced (codes "preempt" ∷ kind_text kind ∷ hex key ∷ hex victim ∷ [])
command_text command.Keys = codes "keys"
command_text command.Holder = codes "holder"
command_text command.Read = codes "read"
command_text (command.Write value) = spaced (codes "write" ∷ decimal value ∷ [])
command_text command.Word = codes "word"
command_text (command.Swap expect new) = spaced (codes "swap" ∷ decimal expect ∷ decimal new ∷ [])
