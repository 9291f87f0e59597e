-- What a device makes of each command: the state after it and the answer, case by case as SPC-3 has
-- them. Clause 5.6 has the rules on registering, reserving, releasing, clearing and preempting, and on
-- the commands that conflict; clause 6.11 has PERSISTENT RESERVE IN (operation code 5Eh), and clause
-- 6.12 PERSISTENT RESERVE OUT (operation code 5Fh). The device keeps what it holds through a loss of
-- power (APTPL is set). The word and its swap are this project's own.
use Rattle.std.specs.Prelude.{ℕ, ◌==◌, Bool, true, false, ◌&&◌, if◌then◌else◌, List, [], ◌∷◌, ◌++◌, map, Option, Some, None, option_map, unwrap_or}
use Rattle.cl_base.specs.Sets.{has}
use Rattle.pgr_device.specs.declared.kind.PrKind.{PrKind}
use Rattle.pgr_device.specs.declared.registration.Registration.{Registration}
use Rattle.pgr_device.specs.declared.registration.Reservation.{Reservation}
use Rattle.pgr_device.specs.declared.command.PrCommand.{PrCommand}
use Rattle.pgr_device.specs.declared.command.PrCommand.TheVariants as command
use Rattle.pgr_device.specs.declared.command.PrAnswer.{PrAnswer}
use Rattle.pgr_device.specs.declared.command.PrAnswer.TheVariants as answer
use Rattle.pgr_device.specs.Device.{Device}
use Rattle.pgr_device.specs.Registered.{registered_key, is_registered, has_key, keys_of, rekeyed, without_node, without_key}
use Rattle.pgr_device.specs.Access.{reads_allowed, writes_allowed, same_kind}

pub record Outcome : Type 0 where
  pub after : Device
  pub answer : PrAnswer

-- this answer, in this state
abbrev pub answers : Device → PrAnswer → Outcome
answers d answer = record { after = d; answer = answer }

abbrev pub good : Device → Outcome
good d = answers d answer.Good

-- RESERVATION CONFLICT (status 18h): nothing changes
abbrev pub conflict : Device → Outcome
conflict d = answers d answer.Conflict

-- a reservation goes with the registration of its holder
abbrev pub released_by : ℕ → Option Reservation → Option Reservation
released_by node None = None
released_by node (Some held) = if held.holder == node then None else Some held

-- the sender, which has the key `held` or none, takes the key `new`: appended, changed in its place,
-- or, where it is zero, unregistered
abbrev pub with_key : Device → ℕ → ℕ → Option ℕ → Device
with_key d node new None =
    if new == 0 then d else record d { registrations = d.registrations ++ record { node = node; key = new } ∷ [] }
with_key d node new (Some held) =
    if new == 0
    then record d { registrations = without_node node d.registrations; reservation = released_by node d.reservation }
    else record d { registrations = map (rekeyed node new) d.registrations }

-- REGISTER (service action 00h): the sender shows the key that it has, or zero where it has none
abbrev pub registering : Device → ℕ → ℕ → ℕ → Option ℕ → Outcome
registering d node shown new held = if shown == unwrap_or held 0 then good (with_key d node new held) else conflict d

-- RESERVE, RELEASE, CLEAR and PREEMPT are for a registered sender that shows its key
abbrev pub shows_key : Option ℕ → ℕ → Bool
shows_key None shown = false
shows_key (Some key) shown = key == shown

-- RESERVE (service action 01h): a reservation that stands is good for its holder with its type alone
abbrev pub reserving : Device → ℕ → PrKind → Option Reservation → Outcome
reserving d node kind None = good (record d { reservation = Some (record { holder = node; kind = kind }) })
reserving d node kind (Some held) = if (held.holder == node) && same_kind held.kind kind then good d else conflict d

-- RELEASE (service action 02h): only the holder releases, and it names the type
abbrev pub releasing : Device → ℕ → PrKind → Option Reservation → Outcome
releasing d node kind None = good d
releasing d node kind (Some held) =
    if held.holder == node
    then (if same_kind held.kind kind then good (record d { reservation = None }) else answers d answer.InvalidRelease)
    else good d

-- CLEAR (service action 03h)
abbrev pub cleared : Device → Device
cleared d = record d { registrations = []; reservation = None }

-- whether the reservation's holder has this key
abbrev pub is_holders : List Registration → ℕ → Option Reservation → Bool
is_holders registrations key None = false
is_holders registrations key (Some held) = shows_key (registered_key registrations held.holder) key

-- PREEMPT (service action 04h): the registrations with the victim's key go, and the sender takes the
-- reservation where its holder is among them
abbrev pub preempted : Device → ℕ → PrKind → ℕ → Device
preempted d node kind victim =
    if is_holders d.registrations victim d.reservation
    then record d { registrations = without_key victim d.registrations; reservation = Some (record { holder = node; kind = kind }) }
    else record d { registrations = without_key victim d.registrations }

abbrev pub preempting : Device → ℕ → PrKind → ℕ → Outcome
preempting d node kind victim = if has_key d.registrations victim then good (preempted d node kind victim) else conflict d

-- READ RESERVATION (PERSISTENT RESERVE IN, service action 01h): the holder's key and the type
abbrev pub reservation_of : List Registration → Option Reservation → Option (ℕ × PrKind)
reservation_of registrations None = None
reservation_of registrations (Some held) = option_map (λ key. (key, held.kind)) (registered_key registrations held.holder)

-- who may read and write: everyone where no reservation stands
abbrev pub may_read : List Registration → ℕ → Option Reservation → Bool
may_read registrations node None = true
may_read registrations node (Some held) = reads_allowed held.kind (held.holder == node) (is_registered registrations node)

abbrev pub may_write : List Registration → ℕ → Option Reservation → Bool
may_write registrations node None = true
may_write registrations node (Some held) = writes_allowed held.kind (held.holder == node) (is_registered registrations node)

-- what comes of a read, or of a write, that is a conflict where the reservation refuses it
abbrev pub reading : Device → ℕ → Outcome → Outcome
reading d node outcome = if may_read d.registrations node d.reservation then outcome else conflict d

abbrev pub writing : Device → ℕ → Outcome → Outcome
writing d node outcome = if may_write d.registrations node d.reservation then outcome else conflict d

-- the word changes where it is the one expected
abbrev pub swapping : Device → ℕ → ℕ → Outcome
swapping d expect new = if d.word == expect then good (record d { word = new }) else answers d (answer.Miscompare d.word)

-- RESERVE, RELEASE, CLEAR and PREEMPT, a conflict where the sender does not show its key
abbrev pub registered_only : Device → ℕ → ℕ → Outcome → Outcome
registered_only d node shown outcome = if shows_key (registered_key d.registrations node) shown then outcome else conflict d

-- the command of a node that has a path
abbrev pub carried_out : Device → ℕ → PrCommand → Outcome
carried_out d node (command.Register key new) = registering d node key new (registered_key d.registrations node)
carried_out d node (command.Ignore new) = good (with_key d node new (registered_key d.registrations node))
carried_out d node (command.Reserve kind key) = registered_only d node key (reserving d node kind d.reservation)
carried_out d node (command.Release kind key) = registered_only d node key (releasing d node kind d.reservation)
carried_out d node (command.Clear key) = registered_only d node key (good (cleared d))
carried_out d node (command.Preempt kind key victim) = registered_only d node key (preempting d node kind victim)
carried_out d node command.Keys = answers d (answer.Keys (keys_of d.registrations))
carried_out d node command.Holder = answers d (answer.Holder (reservation_of d.registrations d.reservation))
carried_out d node command.Read = reading d node (answers d (answer.Value d.value))
carried_out d node (command.Write value) = writing d node (good (record d { value = value }))
carried_out d node command.Word = reading d node (answers d (answer.Word d.word))
carried_out d node (command.Swap expect new) = writing d node (swapping d expect new)

-- the command of any node: without a path it changes nothing
abbrev pub step : Device → ℕ → PrCommand → Outcome
step d node command = if has d.paths node then carried_out d node command else answers d answer.NoPath
