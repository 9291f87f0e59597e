-- The moments of resource groups by the words of their lines: `called 65 1 Start r` is the entry that prints as the line `call 65 1 START r`,
-- and `queues 1 r Start Failure` is the line `outcome 1 r START failure` of a schedule.
use Rattle.std.specs.Prelude.{ℕ, ◌==◌, ◌&&◌, Bool, false, List}
use Rattle.cl_base.specs.declared.method.Method.{Method}
use Rattle.cl_base.specs.declared.method.Outcome.{Outcome}
use Rattle.cl_base.specs.declared.panic.Panic.TheVariants as panic
use Rattle.schedule_text.specs.declared.line.Line.TheVariants as line
use Rattle.schedule_text.specs.declared.event.Event.TheVariants as event
use Rattle.status_report.specs.declared.entry.Entry.TheVariants as entry
use Rattle.status_report.specs.declared.address_entry.AddressEntry.TheVariants as address_entry
use Rattle.status_report.specs.declared.call_entry.CallEntry.TheVariants as call
use Rattle.status_report.specs.declared.call_entry.ProbeResult.{ProbeResult}
use Rattle.status_report.specs.declared.node_entry.DownCause.TheVariants as cause
use Rattle.status_report.specs.declared.status_entry.StatusEntry.{StatusEntry}
use Rattle.history.specs.Moment.{Moment, Said, Told}
use Rattle.history.specs.Trace.{ticked, member, down}

pattern abbrev pub called : ℕ → ℕ → Method → List ℕ → Moment
called e n method r = Told (entry.Call (call.Called e n method r))

pattern abbrev pub done : ℕ → ℕ → Method → List ℕ → Outcome → Moment
done e n method r outcome = Told (entry.Call (call.Done e n method r outcome))

pattern abbrev pub probed : ℕ → List ℕ → ProbeResult → Moment
probed n r result = Told (entry.Call (call.Probed n r result))

pattern abbrev pub status : StatusEntry → Moment
status l = Told (entry.Status l)

pattern abbrev pub forgot : List ℕ → ℕ → ℕ → Moment
forgot address client port = Told (entry.Address (address_entry.Forgot address client port))

-- a node panics since a method that stops this resource failed
pattern abbrev pub stop_panic : ℕ → List ℕ → Moment
stop_panic n r = down n (cause.Panic (panic.Stop r))

pattern abbrev pub queues : ℕ → List ℕ → Method → Outcome → Moment
queues n r method outcome = Said (line.Event (event.Outcome n r method outcome))

-- ---- tests of moments

abbrev pub is_call_of : ℕ → ℕ → Moment → Bool
is_call_of e n (called f m method r) = (f == e) && (m == n)
is_call_of e n _ = false

abbrev pub is_tick_of : ℕ → Moment → Bool
is_tick_of n (ticked m) = m == n
is_tick_of n _ = false

-- n becomes a member
abbrev pub is_joining : ℕ → Moment → Bool
is_joining n (member m e) = m == n
is_joining n _ = false
