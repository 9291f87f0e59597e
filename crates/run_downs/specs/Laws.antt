-- What is proved of each run of the world, as things that happen: why nodes come up and go down, and where they stop.
use Rattle.std.specs.Prelude.{ℕ, ◌≡◌, ◌==◌, ◌||◌, Bool, true, false, List, Option, None, Some}
use Rattle.std.specs.List.{list_any}
use Rattle.cl_base.specs.declared.panic.Panic.TheVariants as panic
use Rattle.schedule_text.specs.declared.event.Event.{Event}
use Rattle.schedule_text.specs.declared.event.Event.TheVariants as event
use Rattle.status_report.specs.declared.node_entry.DownCause.TheVariants as cause
use Rattle.history.specs.Downs.{StopsWhereDue, is_fenced_write, stop_due, stops_here, stops_next}
use Rattle.history.specs.Letters.{Letter, arrived, passes}
use Rattle.history.specs.Moment.{Moment}
use Rattle.history.specs.Names as name
use Rattle.history.specs.Names.{Name}
use Rattle.history.specs.Order.{Always, so_far, under_way}
use Rattle.history.specs.Saves.{may_save}
use Rattle.history.specs.Setting.{Setting}
use Rattle.history.specs.Trace.{delivered, down, saved, stopped, up}
use Rattle.run_history.specs.ContactRuns.{OfEachRun}

-- a node comes up in the event of its boot
abbrev pub BootIsSaid : List Moment → Moment → Type 0
BootIsSaid before (up n) = under_way before ≡ Some (event.Boot n)
BootIsSaid before _ = Unit {0}

-- it crashes in the event of its crash
abbrev pub CrashIsSaid : List Moment → Moment → Type 0
CrashIsSaid before (down n cause.Crash) = under_way before ≡ Some (event.Crash n)
CrashIsSaid before _ = Unit {0}

-- it is fenced where the device has refused a write of its own in this event
abbrev pub FencedByWrite : List Moment → Moment → Type 0
FencedByWrite before (down n (cause.Panic (panic.Fenced d))) = list_any (is_fenced_write n d) (so_far before) ≡ true
FencedByWrite before _ = Unit {0}

-- it stops where an armed stop falls in its save or its mounting, and saves where none does
abbrev pub StopsAtStop : List Moment → Moment → Type 0
StopsAtStop before (stopped n) = stops_here n before ≡ true
StopsAtStop before (saved n) = stops_next n before ≡ false
StopsAtStop before _ = Unit {0}

-- the moment delivers a packet to node n
abbrev pub comes_to : ℕ → Moment → Bool
comes_to n (delivered p from to) = to == n
comes_to n _ = false

-- the event is one of node n's: its boot, its tick, its command at a device, a command or a probe that is given to it, or the delivery of a packet to it
abbrev pub is_of : ℕ → Option Event → List Moment → Bool
is_of n (Some (event.Boot m)) here = m == n
is_of n (Some (event.Tick m)) here = m == n
is_of n (Some (event.Disk m)) here = m == n
is_of n (Some (event.Command m words)) here = m == n
is_of n (Some (event.Probe m resource good)) here = m == n
is_of n (Some (event.Deliver p)) here = list_any (comes_to n) here
is_of n (Some (event.Next from to)) here = list_any (comes_to n) here
is_of n _ here = false

abbrev pub IsInOwnEvent : ℕ → List Moment → Type 0
IsInOwnEvent n before = is_of n (under_way before) (so_far before) ≡ true

-- it saves, and stops, in an event of its own
abbrev pub SavesInEvent : List Moment → Moment → Type 0
SavesInEvent before (stopped n) = IsInOwnEvent n before
SavesInEvent before (saved n) = IsInOwnEvent n before
SavesInEvent before _ = Unit {0}

-- a message by which a member learns of an update, or that its membership has started
abbrev pub tells_update : Name → Bool
tells_update name.Start = true
tells_update (name.Prepare v) = true
tells_update (name.Commit v) = true
tells_update _ = false

-- a message at which a node saves nothing
abbrev pub asks_no_save : Name → Bool
asks_no_save name.Heartbeat = true
asks_no_save (name.SeizeQuorum d) = true
asks_no_save (name.SeizeData d) = true
asks_no_save name.Excluded = true
asks_no_save _ = false

-- a message that asks for a promise
abbrev pub asks_promise : Name → Bool
asks_promise name.Collect = true
asks_promise _ = false

-- a message at which a node saves what it proposes, and what it acknowledges behind that
abbrev pub asks_to_act : Name → Bool
asks_to_act (name.Request number) = true
asks_to_act (name.Answer number) = true
asks_to_act (name.Order number) = true
asks_to_act (name.Done number) = true
asks_to_act _ = false

-- a message at which a node acknowledges what is pending, and saves what it proposes
abbrev pub asks_to_acknowledge : Name → Bool
asks_to_acknowledge (name.Prepared v) = true
asks_to_acknowledge _ = false

abbrev pub saves_at_once : Name → Bool
saves_at_once called = tells_update called || (asks_no_save called || asks_promise called)

abbrev pub is_settled_name : Name → Bool
is_settled_name called = saves_at_once called || (asks_to_act called || asks_to_acknowledge called)

abbrev pub is_settled_by : Letter → Bool
is_settled_by l = is_settled_name l.name

-- the event is a boot, a command, a probe, delivers a message of these kinds, or is one in which a node saves nothing: a crash, a write, a client's
-- request
abbrev pub is_settled : Option Event → Option Letter → Bool
is_settled (Some (event.Boot n)) came = true
is_settled (Some (event.Command n words)) came = true
is_settled (Some (event.Probe n resource good)) came = true
is_settled (Some (event.Crash n)) came = true
is_settled (Some (event.Write n d value)) came = true
is_settled (Some (event.Client n address client port)) came = true
is_settled (Some (event.Deliver p)) came = passes is_settled_by came
is_settled (Some (event.Next from to)) came = passes is_settled_by came
is_settled _ came = false

-- .. and where it stops in such an event the rules let it save there
abbrev pub StopsByRule : Setting → List Moment → Moment → Type 0
StopsByRule S before (stopped n) = is_settled (under_way before) (arrived before) ≡ true → may_save S n before ≡ true
StopsByRule S before _ = Unit {0}

-- a stop that is due comes next
abbrev pub StopComes : List Moment → Moment → Type 0
StopComes before x = StopsWhereDue (stop_due before) x

abbrev pub BootsOfEachRun : Type 0
BootsOfEachRun = OfEachRun (Always BootIsSaid)

abbrev pub CrashesOfEachRun : Type 0
CrashesOfEachRun = OfEachRun (Always CrashIsSaid)

abbrev pub FencesOfEachRun : Type 0
FencesOfEachRun = OfEachRun (Always FencedByWrite)

abbrev pub StopsOfEachRun : Type 0
StopsOfEachRun = OfEachRun (Always StopsAtStop)

abbrev pub SavesOfEachRun : Type 0
SavesOfEachRun = OfEachRun (Always SavesInEvent)

abbrev pub SettledStopsOfEachRun : Type 0
SettledStopsOfEachRun = OfEachRun (λ moments. (S : Setting) → Always (StopsByRule S) moments)

abbrev pub StopsComeInEachRun : Type 0
StopsComeInEachRun = OfEachRun (Always StopComes)

-- at the end of a run no stop is to come
abbrev pub NoStopIsDue : Type 0
NoStopIsDue = OfEachRun (λ moments. stop_due moments ≡ None)
