-- What words spell, or what is wrong with them.
use Rattle.std.specs.Prelude.{ℕ, nat_lt, List, [], ◌∷◌, length, Option, Some, None, Result, Ok, Err, if◌then◌else◌}
use Rattle.ccr_tables.specs.declared.command.AdminCommand.{AdminCommand}
use Rattle.admin_words.specs.declared.error.WordError.{WordError}
use Rattle.admin_words.specs.declared.error.WordError.TheVariants.{UnknownCommand, MissingOperand, BadValue}

-- an answer that says what is wrong, and none else
abbrev pub Spelled : Type 0
Spelled = Result AdminCommand WordError

-- the command, or a bad value among its operands
abbrev pub read_as : Option AdminCommand → Spelled
read_as None = Err BadValue
read_as (Some command) = Ok command

-- a missing operand is told before a bad value
abbrev pub counted : ℕ → (List (List ℕ) → Option AdminCommand) → List (List ℕ) → Spelled
counted least operands words = if nat_lt (length words) least then Err MissingOperand else read_as (operands words)

-- the word is a command's, or none, and its operands follow: how many it has at least, and what they spell
abbrev pub chosen : {C : Type 0} → (C → ℕ) → (C → List (List ℕ) → Option AdminCommand) → List (List ℕ) → Option C → Spelled
chosen least operands words None = Err UnknownCommand
chosen least operands words (Some command) = counted (least command) (operands command) words

abbrev pub by_word : {C : Type 0} → (List ℕ → Option C) → (C → ℕ) → (C → List (List ℕ) → Option AdminCommand) → List (List ℕ) → Spelled
by_word command_in least operands [] = Err UnknownCommand
by_word command_in least operands (word ∷ words) = chosen least operands words (command_in word)
