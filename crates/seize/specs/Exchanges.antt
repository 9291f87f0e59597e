-- What passed between a task and the device: the commands, each with what became of it. Lists are newest first.
use Rattle.std.specs.Prelude.{ℕ, ◌+◌, Bool, true, false, ◌||◌, List, [], ◌∷◌, Option, Some, None, Ok}
use Rattle.pgr_device.specs.declared.command.PrCommand.{PrCommand}
use Rattle.pgr_device.specs.declared.command.PrCommand.TheVariants as command
use Rattle.pgr_device.specs.declared.command.PrAnswer.TheVariants as answer
use Rattle.seize.specs.Answers.{Answer}
use Rattle.seize.specs.Seizing.{SeizeState, command_of, taken}
use Rattle.seize.specs.Joining as Joining

pub record Exchange : Type 0 where
  pub command : PrCommand
  pub answer : Answer

-- one exchange more, where a command was due
abbrev pub exchanged : Option PrCommand → Answer → List Exchange → List Exchange
exchanged None a earlier = earlier
exchanged (Some sent) a earlier = record { command = sent; answer = a } ∷ earlier

-- a seizing, after these answers ..
abbrev pub fed : SeizeState → List Answer → SeizeState
fed s [] = s
fed s (a ∷ earlier) = taken (fed s earlier) a

-- .. and its exchanges
abbrev pub exchanges : SeizeState → List Answer → List Exchange
exchanges s [] = []
exchanges s (a ∷ earlier) = exchanged (command_of (fed s earlier)) a (exchanges s earlier)

-- a joining, after these answers ..
abbrev pub join_fed : Joining.JoinState → List Answer → Joining.JoinState
join_fed s [] = s
join_fed s (a ∷ earlier) = Joining.taken (join_fed s earlier) a

-- .. and its exchanges
abbrev pub join_exchanges : Joining.JoinState → List Answer → List Exchange
join_exchanges s [] = []
join_exchanges s (a ∷ earlier) = exchanged (Joining.command_of (join_fed s earlier)) a (join_exchanges s earlier)

-- these keys were read
abbrev pub keys_read : List ℕ → Exchange
keys_read keys = record { command = command.Keys; answer = Ok (answer.Keys keys) }

-- this word was read
abbrev pub word_read : ℕ → Exchange
word_read word = record { command = command.Word; answer = Ok (answer.Word word) }

-- the word that an answer shows, to a reading or to a swap
abbrev pub shown_word : Answer → Option ℕ
shown_word (Ok (answer.Word word)) = Some word
shown_word (Ok (answer.Miscompare word)) = Some word
shown_word _ = None

-- one reading of the keys, or a preemption, after so many readings running
abbrev pub running_with : PrCommand → ℕ → ℕ
running_with command.Keys readings = readings + 1
running_with (command.Preempt kind key victim) readings = readings
running_with _ readings = 0

-- so many readings of the keys came last, with nothing but preemptions between them
abbrev pub running : List Exchange → ℕ
running [] = 0
running (e ∷ earlier) = running_with e.command (running earlier)

abbrev pub is_reserve : PrCommand → Bool
is_reserve (command.Reserve kind key) = true
is_reserve _ = false

-- a reservation was tried
abbrev pub has_reserved : List Exchange → Bool
has_reserved [] = false
has_reserved (e ∷ earlier) = is_reserve e.command || has_reserved earlier
