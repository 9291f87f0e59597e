-- The entries that what is due leaves, and when it may be due.
use Rattle.std.specs.Prelude.{ℕ, ◌≡◌, true, List, [], ◌∷◌, Option, None, Some, is_some, slice_get}
use Rattle.std.specs.List.{list_any}
use Rattle.cl_base.specs.declared.packet.DropCause.TheVariants as drop_cause
use Rattle.interconnect.specs.Links.{packet_of}
use Rattle.schedule_text.specs.declared.event.Event.{Event}
use Rattle.schedule_text.specs.declared.event.Event.TheVariants as event
use Rattle.status_report.specs.declared.entry.Entry.{Entry}
use Rattle.status_report.specs.declared.entry.Entry.TheVariants as entry
use Rattle.status_report.specs.declared.node_entry.DownCause.TheVariants as cause
use Rattle.status_report.specs.declared.schedule_entry.ScheduleEntry.TheVariants as schedule
use Rattle.history.specs.Lines.{BeginWith, is_asked_of, is_copy_of, is_probe}
use Rattle.history.specs.Moment.{Moment, Told}
use Rattle.history.specs.Order.{OfEvents}
use Rattle.history.specs.Setting.{Setting, coordinator}
use Rattle.history.specs.Trace.{delivered, down, dropped, lost, refused, ticked, up}
use Rattle.node_model.specs.declared.input.Input.TheVariants as input
use Rattle.node_model.specs.declared.node.Node.{Node}
use Rattle.node_model.specs.declared.node.Node.TheVariants.{Down, Up}
use Rattle.node_model.specs.declared.output.Output.{Output}
use Rattle.node_model.specs.declared.output.Output.TheVariants.{Tells, Sends}
use Rattle.node_model.specs.declared.presidency.Presidency.{Presidency}
use Rattle.node_model.specs.declared.seat.Seat.{Seat}
use Rattle.node_model.specs.declared.seat.Seat.TheVariants.{Forming, Member}
use Rattle.refinement.specs.Guards.{IsDown}
use Rattle.world_model.specs.Devices.{due_at}
use Rattle.world_model.specs.Lines.{monitors}
use Rattle.run_history.specs.Happenings.{IsUp}
use Rattle.run_history.specs.Members.{NodeLines}
use Rattle.run_history.specs.Scenes.{Scene}
use Rattle.run_history.specs.Shapes.{Want}
use Rattle.run_history.specs.Shapes as want
use Rattle.run_history.specs.WorldLines.{IsLinked}
use Rattle.run_messages.specs.Laws.{IsSeated}
use Rattle.run_lines.specs.Laws.{IsAnswered}

-- an entry of an event: each but `rounds done`
abbrev pub IsOfEvent : Entry → Type 0
IsOfEvent (entry.Schedule schedule.RoundsDone) = ⊥
IsOfEvent _ = Unit {0}

abbrev pub IsEntry : Moment → Type 0
IsEntry (Told e) = IsOfEvent e
IsEntry _ = ⊥

abbrev pub GivesEntry : Output → Type 0
GivesEntry (Tells e) = IsOfEvent e
GivesEntry (Sends to b) = Unit {0}

-- the entries of what is due; of what the law says nothing about they may be any
abbrev pub Leaves : List Want → List Moment → Type 0
Leaves [] entries = entries ≡ []
Leaves (want.Note e ∷ wants) entries = entries ≡ Told (entry.Schedule e) ∷ []
Leaves (want.Take n input.Boot ∷ wants) entries = BeginWith (up n) entries
Leaves (want.Take n input.Crash ∷ wants) entries = entries ≡ down n cause.Crash ∷ []
Leaves (want.Take n input.Tick ∷ wants) entries = BeginWith (ticked n) entries
Leaves (want.Take n (input.Commanded words) ∷ wants) entries = is_asked_of n (slice_get entries 0) ≡ true
Leaves (want.Take n (input.Reported resource good) ∷ wants) entries = list_any (is_probe n) entries ≡ true
Leaves (want.Take n _ ∷ wants) entries = Unit {0}
Leaves (want.Deliver number x ∷ wants) entries = BeginWith (delivered number x.from x.to) entries
Leaves (want.Miss number x ∷ wants) entries = entries ≡ dropped number drop_cause.Down ∷ []
Leaves (want.Lose number x ∷ wants) entries = entries ≡ lost number ∷ []
Leaves (want.Repeat number x ∷ wants) entries = is_copy_of number (slice_get entries 0) ≡ true
Leaves (want.Command n ∷ wants) entries = Unit {0}
Leaves (want.Write n d value ∷ wants) entries = Unit {0}
Leaves (want.Refuse n d value why ∷ wants) entries = entries ≡ refused n d value why ∷ []

-- when it may be due: a node that boots is down, most else comes to a node that is up, and alone
abbrev pub IsReady : Scene → List Want → Type 0
IsReady s [] = Unit {0}
IsReady s (want.Note e ∷ wants) = IsOfEvent (entry.Schedule e) × (wants ≡ [])
IsReady s (want.Take n input.Boot ∷ wants) = IsDown (s.nodes.node n) × (wants ≡ [])
IsReady s (want.Take n input.CommandDue ∷ wants) = wants ≡ want.Command n ∷ []
IsReady s (want.Take n (input.Reported resource good) ∷ wants) = (monitors resource (Some (s.nodes.node n)) ≡ true) × (wants ≡ [])
IsReady s (want.Take n i ∷ wants) = IsUp (s.nodes.node n) × (wants ≡ [])
IsReady s (w ∷ wants) = wants ≡ []

-- a part is never skipped: a packet in flight comes, a node that is up ticks, and does a command that is due
abbrev pub MayBegin : Scene → Event → Type 0
MayBegin s (event.Deliver number) = is_some (packet_of s.links.packets number) ≡ true
MayBegin s (event.Tick n) = IsUp (s.nodes.node n)
MayBegin s (event.Disk n) = is_some (due_at (Some (s.nodes.node n))) ≡ true
MayBegin s _ = ⊥

-- each event is answered, once what is due has come
pub record Awaits (S : Setting) (s : Scene) (wants : List Want) : Type 0 where
  pub ready : IsReady s wants
  pub events : (later : List Moment) → Leaves wants later → OfEvents (IsAnswered S) later s.moments

-- a president is a member, and coordinates its session
abbrev pub PresidesAt : ℕ → Option Presidency → Seat → Type 0
PresidesAt n None seat = Unit {0}
PresidesAt n (Some p) (Forming s) = ⊥
PresidesAt n (Some p) (Member s) = coordinator s.session ≡ n

abbrev pub NodePresides : ℕ → Node → Type 0
NodePresides n Down = Unit {0}
NodePresides n (Up x) = PresidesAt n x.presidency x.seat

-- what the lines say of the scene: which nodes are up, of what they are members, and what the links hold; presidents are those that it has
pub record Ties (S : Setting) (s : Scene) : Type 0 where
  pub nodes : (n : ℕ) → NodeLines n (s.nodes.node n) s.moments
  pub seats : (n : ℕ) → IsSeated s.moments n (s.nodes.node n)
  pub presidents : (n : ℕ) → NodePresides n (s.nodes.node n)
  pub linked : IsLinked S.cells s
