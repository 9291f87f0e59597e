-- Answers, by the line: which entries a line of the schedule, or a part of a round, has, and when it is skipped.
use Rattle.std.specs.Prelude.{◌≡◌, ◌⊎◌, ℕ, ◌==◌, ◌&&◌, ◌||◌, not, Bool, true, false, if◌then◌else◌, List, [], ◌∷◌, ◌++◌, length, Option, Some, None, MatchOption, slice_get}
use Rattle.std.specs.List.{list_any}
use Rattle.cl_base.specs.Sets.{has}
use Rattle.cl_base.specs.declared.panic.Panic.TheVariants.{Fenced}
use Rattle.pgr_device.specs.declared.command.PrCommand.{PrCommand}
use Rattle.pgr_device.specs.declared.command.PrCommand.TheVariants.{Write}
use Rattle.pgr_device.specs.declared.command.PrCommand.TheVariants as command
use Rattle.pgr_device.specs.declared.command.PrAnswer.TheVariants as answer
use Rattle.schedule_text.specs.declared.line.Line.TheVariants as line
use Rattle.schedule_text.specs.declared.event.Event.{Event}
use Rattle.schedule_text.specs.declared.event.Event.TheVariants as event
use Rattle.status_report.specs.declared.entry.Entry.TheVariants as entry
use Rattle.status_report.specs.declared.call_entry.CallEntry.TheVariants as call
use Rattle.status_report.specs.declared.node_entry.DownCause.TheVariants as cause
use Rattle.cl_base.specs.declared.packet.DropCause.TheVariants as drop_cause
use Rattle.status_report.specs.declared.device_entry.DeviceAnswer.{DeviceAnswer}
use Rattle.status_report.specs.declared.device_entry.DeviceAnswer.TheVariants.{Given, Failed}
use Rattle.status_report.specs.declared.device_entry.WriteRefusal.{WriteRefusal}
use Rattle.status_report.specs.declared.device_entry.WriteRefusal.TheVariants as refusal
use Rattle.status_report.specs.declared.schedule_entry.SkipCause.{SkipCause}
use Rattle.status_report.specs.declared.schedule_entry.SkipCause.TheVariants as skip
use Rattle.interconnect.specs.Links.{Packet}
use Rattle.history.specs.Moment.{Moment, Said, Part, Told}
use Rattle.history.specs.Trace.{up, down, ticked, stopped, delivered, lost, repeated, dropped, device, accepted, refused, asked, clock_stands, queued, armed, skipped, served}
use Rattle.history.specs.Order.{EachEvent, since}
use Rattle.history.specs.Setting.{Setting, coordinator, paths_of, is_server}
use Rattle.history.specs.DeviceRun.{armed_fault, state_of, answer_of}
use Rattle.history.specs.Links.{in_flight, oldest}
use Rattle.history.specs.Member.{is_up, member_of}
use Rattle.history.specs.Starts.{Start, start_of}
use Rattle.history.specs.Seizing.{is_install}
use Rattle.history.specs.Queue.{has_work, queued_of, due_of, queue_is_open}

-- ---- when a line is skipped

abbrev pub skip_unless_up : Bool → Option SkipCause
skip_unless_up true = None
skip_unless_up false = Some skip.Down

abbrev pub skip_packet : Option ℕ → Option SkipCause
skip_packet None = Some skip.NoPacket
skip_packet (Some p) = None

abbrev pub skip_disk : Bool → Bool → Option SkipCause
skip_disk false work = Some skip.Down
skip_disk true false = Some skip.NoWork
skip_disk true true = None

abbrev pub number_in : Option Packet → Option ℕ
number_in None = None
number_in (Some p) = Some p.number

-- the packet that a packet line is about
abbrev pub packet_for : Setting → List Moment → Event → Option ℕ
packet_for S before (event.Deliver p) = number_in (in_flight S.cells p before)
packet_for S before (event.Lose p) = number_in (in_flight S.cells p before)
packet_for S before (event.Repeat p) = number_in (in_flight S.cells p before)
packet_for S before (event.Next a b) = oldest S.cells a b before
packet_for S before (event.Drop a b) = oldest S.cells a b before
packet_for S before (event.Again a b) = oldest S.cells a b before
packet_for S before _ = None

-- a client's request wants the president of a membership
abbrev pub skip_president : ℕ → Bool → Option ℕ → Option SkipCause
skip_president n false membership = Some skip.Down
skip_president n true None = Some skip.NoPresident
skip_president n true (Some e) = if coordinator e == n then None else Some skip.NoPresident

-- the cause for which a line is skipped, if it is (where the monitor of a resource is not running, see the part on resource groups)
abbrev pub skip_due : Setting → List Moment → Event → Option SkipCause
skip_due S before (event.Boot n) = if is_up n before then Some skip.Up else None
skip_due S before (event.Crash n) = skip_unless_up (is_up n before)
skip_due S before (event.Tick n) = skip_unless_up (is_up n before)
skip_due S before (event.Write n d value) = skip_unless_up (is_up n before)
skip_due S before (event.Command n words) = skip_unless_up (is_up n before)
skip_due S before (event.Probe n resource good) = skip_unless_up (is_up n before)
skip_due S before (event.Client n address client port) = skip_president n (is_up n before) (member_of n before)
skip_due S before (event.Disk n) = skip_disk (is_up n before) (has_work S n before || queue_is_open S n before)
skip_due S before (event.Deliver p) = skip_packet (packet_for S before (event.Deliver p))
skip_due S before (event.Lose p) = skip_packet (packet_for S before (event.Lose p))
skip_due S before (event.Repeat p) = skip_packet (packet_for S before (event.Repeat p))
skip_due S before (event.Next a b) = skip_packet (packet_for S before (event.Next a b))
skip_due S before (event.Drop a b) = skip_packet (packet_for S before (event.Drop a b))
skip_due S before (event.Again a b) = skip_packet (packet_for S before (event.Again a b))
skip_due S before _ = None

-- ---- writes

-- an `ignore` of n on d failed, or a `word` of it failed or gave another word than e
abbrev pub spoils : ℕ → ℕ → ℕ → Moment → Bool
spoils n d e (device m x (command.Ignore key) Failed) = (m == n) && (x == d)
spoils n d e (device m x command.Word Failed) = (m == n) && (x == d)
spoils n d e (device m x command.Word (Given (answer.Word w))) = (m == n) && (x == d) && not (w == e)
spoils n d e _ = false

abbrev pub holds_in : ℕ → Option Start → Bool
holds_in d None = false
holds_in d (Some s) = has s.held d

-- whether n, a member of e, may write d: its membership holds d, and nothing after its install says that n did not join it
abbrev pub has_joined : ℕ → ℕ → ℕ → List Moment → Bool
has_joined n d e before = holds_in d (start_of e before) && not (list_any (spoils n d e) (since (is_install n e) before))

-- why a write is refused before the device is asked, if it is: the first that fits
abbrev pub refusal_due : Setting → List Moment → ℕ → ℕ → Option ℕ → Option WriteRefusal
refusal_due S before n d None = Some refusal.NotMember
refusal_due S before n d (Some e) =
    if not (has (paths_of S.header d) n) || is_server S.header d then Some refusal.NoPath else (if has_joined n d e before then None else Some refusal.NotHeld)

-- what the device's answer comes to
abbrev pub written : ℕ → ℕ → ℕ → ℕ → DeviceAnswer → List Moment
written e n d value (Given answer.Good) = accepted e n d value ∷ []
written e n d value (Given answer.Conflict) = refused n d value refusal.Fenced ∷ down n (cause.Panic (Fenced d)) ∷ []
written e n d value Failed = refused n d value refusal.Fault ∷ []
written e n d value (Given _) = []

abbrev pub epoch_in : Option ℕ → ℕ
epoch_in None = 0
epoch_in (Some e) = e

abbrev pub asked_device : Setting → List Moment → ℕ → ℕ → ℕ → Option WriteRefusal → List Moment
asked_device S before n d value (Some why) = refused n d value why ∷ []
asked_device S before n d value None =
    let reply : DeviceAnswer = answer_of (armed_fault n d before) (state_of S.header d before) n (Write value) in
    device n d (Write value) reply ∷ written (epoch_in (member_of n before)) n d value reply

-- the entries of `write n d value`
abbrev pub write_entries : Setting → List Moment → ℕ → ℕ → ℕ → List Moment
write_entries S before n d value = asked_device S before n d value (refusal_due S before n d (member_of n before))

-- ---- the entries of each line

-- the commands that n does in these entries, each on its device
abbrev pub commands_in : ℕ → List Moment → List (ℕ × PrCommand)
commands_in n [] = []
commands_in n (device m d done reply ∷ later) = (if m == n then (d, done) ∷ [] else []) ++ commands_in n later
commands_in n (_ ∷ later) = commands_in n later

abbrev pub is_probe : ℕ → Moment → Bool
is_probe n (Told (entry.Call (call.Probed m resource result))) = m == n
is_probe n _ = false

abbrev pub is_service : ℕ → ℕ → Moment → Bool
is_service client port (served address c p _) = (c == client) && (p == port)
is_service client port _ = false

abbrev pub is_stopped : ℕ → Moment → Bool
is_stopped n (stopped m) = m == n
is_stopped n _ = false

-- the entries begin with this one
abbrev pub BeginWith : Moment → List Moment → Type 0
BeginWith first entries = slice_get entries 0 ≡ Some first

abbrev pub is_copy_of : ℕ → Option Moment → Bool
is_copy_of p (Some (repeated q copy)) = q == p
is_copy_of p _ = false

abbrev pub is_asked_of : ℕ → Option Moment → Bool
is_asked_of n (Some (asked m q)) = m == n
is_asked_of n _ = false

-- A `disk` line does the command that is due; a node that stops in a save before it does none. Where the tasks of the node are not told, it
-- does one command.
abbrev pub DoesNext : Bool → ℕ → List (ℕ × PrCommand) → List Moment → Type 0
DoesNext true n due entries =
    (length (commands_in n entries) ≡ 1) ⊎ ((commands_in n entries ≡ []) × (list_any (is_stopped n) entries ≡ true)) ⊎ (entries ≡ skipped skip.NoWork ∷ [])
DoesNext false n due entries =
    (commands_in n entries ≡ due) ⊎ ((commands_in n entries ≡ []) × (list_any (is_stopped n) entries ≡ true))

-- where its receiver is down a packet is dropped, and nothing else happens
abbrev pub ArrivesOr : Bool → ℕ → ℕ → ℕ → List Moment → Type 0
ArrivesOr true p a b entries = BeginWith (delivered p a b) entries
ArrivesOr false p a b entries = entries ≡ dropped p drop_cause.Down ∷ []

abbrev pub Arrives : List Moment → ℕ → List Moment → Option Packet → Type 0
Arrives before p entries None = ⊥
Arrives before p entries (Some packet) = ArrivesOr (is_up packet.to before) p packet.from packet.to entries

-- P of the packet that the line is about
abbrev pub OfPacket : Option ℕ → (ℕ → Type 0) → Type 0
OfPacket found P = MatchOption found ⊥ P

abbrev pub HasEntries : Setting → List Moment → Event → List Moment → Type 0
HasEntries S before (event.Boot n) entries = BeginWith (up n) entries
HasEntries S before (event.Crash n) entries = entries ≡ down n cause.Crash ∷ []
HasEntries S before (event.CrashAt n calls choice) entries = entries ≡ armed ∷ []
HasEntries S before (event.Tick n) entries = BeginWith (ticked n) entries
HasEntries S before (event.Deliver p) entries = OfPacket (packet_for S before (event.Deliver p)) (λ k. Arrives before k entries (in_flight S.cells k before))
HasEntries S before (event.Next a b) entries = OfPacket (packet_for S before (event.Next a b)) (λ k. Arrives before k entries (in_flight S.cells k before))
HasEntries S before (event.Lose p) entries = OfPacket (packet_for S before (event.Lose p)) (λ k. entries ≡ lost k ∷ [])
HasEntries S before (event.Drop a b) entries = OfPacket (packet_for S before (event.Drop a b)) (λ k. entries ≡ lost k ∷ [])
HasEntries S before (event.Repeat p) entries = OfPacket (packet_for S before (event.Repeat p)) (λ k. is_copy_of k (slice_get entries 0) ≡ true)
HasEntries S before (event.Again a b) entries = OfPacket (packet_for S before (event.Again a b)) (λ k. is_copy_of k (slice_get entries 0) ≡ true)
HasEntries S before (event.Disk n) entries = DoesNext (queue_is_open S n before) n (due_of (queued_of S n before)) entries
HasEntries S before (event.Fault n d done) entries = entries ≡ armed ∷ []
HasEntries S before (event.Write n d value) entries = entries ≡ write_entries S before n d value
HasEntries S before (event.Command n words) entries = is_asked_of n (slice_get entries 0) ≡ true
HasEntries S before (event.Outcome n resource method outcome) entries = entries ≡ queued ∷ []
HasEntries S before (event.Probe n resource good) entries = (list_any (is_probe n) entries ≡ true) ⊎ (entries ≡ skipped skip.NoMonitor ∷ [])
-- which addresses there are, and which node serves the request, see the part on resource groups
HasEntries S before (event.Client n address client port) entries =
    (list_any (is_service client port) entries ≡ true) ⊎ (entries ≡ skipped skip.NoAddress ∷ [])
HasEntries S before (event.Clock s) entries = entries ≡ clock_stands s ∷ []
-- the parts of the rounds stand after this line, and `rounds done` after them (Round)
HasEntries S before (event.Rounds count nodes) entries = entries ≡ []

-- A line that is due to be skipped says so and does nothing. So `skipped` stands exactly where it is due: no other line may have it.
abbrev pub IsAnsweredBy : Setting → List Moment → Event → List Moment → Option SkipCause → Type 0
IsAnsweredBy S before event entries (Some why) = entries ≡ skipped why ∷ []
IsAnsweredBy S before event entries None = HasEntries S before event entries

abbrev pub HasAnswer : Setting → List Moment → Moment → List Moment → Type 0
HasAnswer S before (Said line.Blank) entries = entries ≡ []
HasAnswer S before (Said line.End) entries = entries ≡ []
HasAnswer S before (Said (line.Event what)) entries =
    IsAnsweredBy S before what entries (skip_due S before what)
HasAnswer S before (Part what) entries = (skip_due S before what ≡ None) × HasEntries S before what entries
HasAnswer S before _ entries = ⊥

abbrev pub LinesAnswered : Setting → List Moment → Type 0
LinesAnswered S moments = EachEvent (HasAnswer S) moments
