-- The commands to a device, as a line of a reservation schedule spells them after the sender: a name,
-- and the fields that the command of this name has. RK and SK are keys, T a number that is a type,
-- V and W numbers.
use Rattle.std.specs.Prelude.{ℕ, ◌==◌, ◌||◌, if◌then◌else◌, List, [], ◌∷◌, Option, Some, None, Result, Ok, Err}
use Rattle.pgr_device.specs.declared.kind.PrKind.{PrKind}
use Rattle.pgr_device.specs.declared.kind.PrKind.TheVariants.{WriteExclusive, ExclusiveAccess, WriteExclusiveRegistrantsOnly, ExclusiveAccessRegistrantsOnly}
use Rattle.pgr_device.specs.declared.command.PrCommand.{PrCommand}
use Rattle.pgr_device.specs.declared.command.PrCommand.TheVariants as command
use Rattle.schedule_text.specs.declared.command_name.CommandName.{CommandName}
use Rattle.schedule_text.specs.declared.command_name.CommandName.TheVariants.{Register, Ignore, Reserve, Release, Clear, Preempt, Keys, Holder, Read, Write, Word, Swap}
use Rattle.schedule_text.specs.declared.kind.Kind.{Kind}
use Rattle.schedule_text.specs.declared.kind.Kind.TheVariants.{Line, Number}
use Rattle.schedule_text.specs.declared.number.Numeral.{Numeral}
use Rattle.schedule_text.specs.declared.number.Numeral.TheVariants.{Within, Beyond}
use Rattle.schedule_text.specs.Words.{decimal_in, key_in}

-- the types that there are
abbrev pub kind_of : Numeral → Option PrKind
kind_of Beyond = None
kind_of (Within n) =
    if n == 1 then Some WriteExclusive
    else if n == 3 then Some ExclusiveAccess
    else if n == 5 then Some WriteExclusiveRegistrantsOnly
    else if n == 6 then Some ExclusiveAccessRegistrantsOnly
    else None

-- a type that there is not is a number out of range
abbrev pub with_kind : Option PrKind → (PrKind → PrCommand) → Result PrCommand Kind
with_kind None make = Err Number
with_kind (Some kind) make = Ok (make kind)

-- RK SK
abbrev pub with_keys : Option ℕ → Option ℕ → (ℕ → ℕ → PrCommand) → Result PrCommand Kind
with_keys (Some shown) (Some new) make = Ok (make shown new)
with_keys (Some shown) None make = Err Line
with_keys None new make = Err Line

-- RK or SK
abbrev pub with_key : Option ℕ → (ℕ → PrCommand) → Result PrCommand Kind
with_key (Some key) make = Ok (make key)
with_key None make = Err Line

-- T RK
abbrev pub with_kind_and_key : Option Numeral → Option ℕ → (PrKind → ℕ → PrCommand) → Result PrCommand Kind
with_kind_and_key (Some number) (Some key) make = with_kind (kind_of number) (λ kind. make kind key)
with_kind_and_key (Some number) None make = Err Line
with_kind_and_key None key make = Err Line

-- T RK SK, where SK, the victim, is neither zero nor RK
abbrev pub with_victim : Option Numeral → Option ℕ → Option ℕ → Result PrCommand Kind
with_victim (Some number) (Some key) (Some victim) =
    if (victim == 0) || (victim == key) then Err Line else with_kind (kind_of number) (λ kind. command.Preempt kind key victim)
with_victim (Some number) (Some key) None = Err Line
with_victim (Some number) None victim = Err Line
with_victim None key victim = Err Line

-- V
abbrev pub with_number : Option Numeral → (ℕ → PrCommand) → Result PrCommand Kind
with_number (Some (Within n)) make = Ok (make n)
with_number (Some Beyond) make = Err Number
with_number None make = Err Line

-- W W
abbrev pub with_numbers : Option Numeral → Option Numeral → Result PrCommand Kind
with_numbers (Some (Within expect)) (Some (Within new)) = Ok (command.Swap expect new)
with_numbers (Some (Within expect)) (Some Beyond) = Err Number
with_numbers (Some Beyond) (Some new) = Err Number
with_numbers (Some expect) None = Err Line
with_numbers None new = Err Line

-- no field
abbrev pub alone : List (List ℕ) → PrCommand → Result PrCommand Kind
alone [] made = Ok made
alone (field ∷ fields) made = Err Line

abbrev pub one_key : List (List ℕ) → (ℕ → PrCommand) → Result PrCommand Kind
one_key (key ∷ []) make = with_key (key_in key) make
one_key _ make = Err Line

abbrev pub two_keys : List (List ℕ) → (ℕ → ℕ → PrCommand) → Result PrCommand Kind
two_keys (shown ∷ new ∷ []) make = with_keys (key_in shown) (key_in new) make
two_keys _ make = Err Line

abbrev pub kind_and_key : List (List ℕ) → (PrKind → ℕ → PrCommand) → Result PrCommand Kind
kind_and_key (kind ∷ key ∷ []) make = with_kind_and_key (decimal_in kind) (key_in key) make
kind_and_key _ make = Err Line

abbrev pub kind_key_and_victim : List (List ℕ) → Result PrCommand Kind
kind_key_and_victim (kind ∷ key ∷ victim ∷ []) = with_victim (decimal_in kind) (key_in key) (key_in victim)
kind_key_and_victim _ = Err Line

abbrev pub one_number : List (List ℕ) → (ℕ → PrCommand) → Result PrCommand Kind
one_number (number ∷ []) make = with_number (decimal_in number) make
one_number _ make = Err Line

abbrev pub two_numbers : List (List ℕ) → Result PrCommand Kind
two_numbers (expect ∷ new ∷ []) = with_numbers (decimal_in expect) (decimal_in new)
two_numbers _ = Err Line

-- the command of this name and these fields
abbrev pub command_of : CommandName → List (List ℕ) → Result PrCommand Kind
command_of Register fields = two_keys fields command.Register
command_of Ignore fields = one_key fields command.Ignore
command_of Reserve fields = kind_and_key fields command.Reserve
command_of Release fields = kind_and_key fields command.Release
command_of Clear fields = one_key fields command.Clear
command_of Preempt fields = kind_key_and_victim fields
command_of Keys fields = alone fields command.Keys
command_of Holder fields = alone fields command.Holder
command_of Read fields = alone fields command.Read
command_of Write fields = one_number fields command.Write
command_of Word fields = alone fields command.Word
command_of Swap fields = two_numbers fields
