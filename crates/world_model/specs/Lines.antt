-- What a line of the schedule comes to.
use Rattle.std.specs.Prelude.{ℕ, ◌≤◌, ◌-◌, ◌++◌, Bool, false, List, [], ◌∷◌, Option, None, Some, slice_get, slice_set, if◌then◌else◌}
use Rattle.local_disk.specs.declared.memory.Choice.{Choice}
use Rattle.local_disk.specs.declared.memory.Choice.TheVariants as left
use Rattle.record_disk.specs.Disks as disks
use Rattle.record_disk.specs.Disks.{DiskState}
use Rattle.schedule_text.specs.declared.event.Event.{Event}
use Rattle.schedule_text.specs.declared.event.Event.TheVariants as event
use Rattle.schedule_text.specs.declared.event.StopChoice.{StopChoice}
use Rattle.schedule_text.specs.declared.event.StopChoice.TheVariants as choice
use Rattle.status_report.specs.declared.schedule_entry.ScheduleEntry.TheVariants.{Clock, Armed, Queued, RoundsDone}
use Rattle.status_report.specs.declared.schedule_entry.SkipCause.{SkipCause}
use Rattle.status_report.specs.declared.schedule_entry.SkipCause.TheVariants as skip
use Rattle.node_model.specs.Addresses.{refusal_at}
use Rattle.node_model.specs.declared.input.Input.{Input}
use Rattle.node_model.specs.declared.input.Input.TheVariants as input
use Rattle.node_model.specs.declared.node.Node.{Node}
use Rattle.node_model.specs.declared.node.Node.TheVariants.{Down, Up}
use Rattle.rgm_member.specs.State.{marks_of}
use Rattle.world_model.specs.declared.scripted.Scripted.{Scripted}
use Rattle.world_model.specs.Worlds.{Play, WorldState, is_up, node_at, noting, skipping, with_world}
use Rattle.world_model.specs.Sends.{giving}
use Rattle.world_model.specs.Packets.{delivering, losing, on_oldest, repeating_one}
use Rattle.world_model.specs.Devices.{on_disk, with_fault, writing}
use Rattle.world_model.specs.Rounds.{rounds}

abbrev pub booting : ℕ → Play → Play
booting n p = if is_up p.world n then skipping skip.Up p else giving n input.Boot p

-- what happens to nodes that are up alone
abbrev pub giving_up : ℕ → Input → Play → Play
giving_up n i p = if is_up p.world n then giving n i p else skipping skip.Down p

abbrev pub left_by : StopChoice → Choice
left_by choice.Old = left.Old
left_by choice.New = left.New
left_by choice.Zero = left.Zero

abbrev pub with_stop_at : WorldState → ℕ → ℕ → Choice → Option DiskState → WorldState
with_stop_at w n calls c None = w
with_stop_at w n calls c (Some disk) = record w { disks = slice_set w.disks (n - 1) (disks.armed disk calls c) }

abbrev pub with_stop : WorldState → ℕ → ℕ → Choice → WorldState
with_stop w n calls c = with_stop_at w n calls c (slice_get w.disks (n - 1))

abbrev pub with_outcome : WorldState → Scripted → WorldState
with_outcome w s = record w { script = w.script ++ s ∷ [] }

-- A monitor reports where its resource has one.

abbrev pub monitors : List ℕ → Option Node → Bool
monitors r None = false
monitors r (Some Down) = false
monitors r (Some (Up x)) = (marks_of x.worker.resources r).mon

abbrev pub probing_up : ℕ → List ℕ → Bool → Play → Play
probing_up n r good p = if monitors r (node_at p.world n) then giving n (input.Reported r good) p else skipping skip.NoMonitor p

abbrev pub probing : ℕ → List ℕ → Bool → Play → Play
probing n r good p = if is_up p.world n then probing_up n r good p else skipping skip.Down p

-- A client's request is taken by a president that has its address.

abbrev pub asking_at : ℕ → Input → Option SkipCause → Play → Play
asking_at n i None p = giving n i p
asking_at n i (Some why) p = skipping why p

abbrev pub refusal_in : WorldState → List ℕ → Option Node → Option SkipCause
refusal_in w address None = None
refusal_in w address (Some node) = refusal_at w.cluster address node

abbrev pub asking : ℕ → List ℕ → ℕ → ℕ → Play → Play
asking n address client port p =
    if is_up p.world n
    then asking_at n (input.Client address client port) (refusal_in p.world address (node_at p.world n)) p
    else skipping skip.Down p

-- lines that move a packet
abbrev pub on_packets : Event → Play → Play
on_packets (event.Deliver number) p = delivering number p
on_packets (event.Lose number) p = losing number p
on_packets (event.Repeat number) p = repeating_one number p
on_packets (event.Next from to) p = on_oldest delivering from to p
on_packets (event.Drop from to) p = on_oldest losing from to p
on_packets (event.Again from to) p = on_oldest repeating_one from to p
on_packets _ p = p

abbrev pub line_on : Event → Play → Play
line_on (event.Boot n) p = booting n p
line_on (event.Crash n) p = giving_up n input.Crash p
line_on (event.CrashAt n calls c) p = noting Armed (with_world p (with_stop p.world n calls (left_by c)))
line_on (event.Tick n) p = giving_up n input.Tick p
line_on (event.Disk n) p = on_disk n p
line_on (event.Fault n d done) p = noting Armed (with_world p (with_fault p.world n d (Some done)))
line_on (event.Write n d value) p = writing n d value p
line_on (event.Command n words) p = giving_up n (input.Commanded words) p
line_on (event.Outcome n r m outcome) p = noting Queued (with_world p (with_outcome p.world (record { node = n; resource = r; method = m; outcome = outcome })))
line_on (event.Probe n r good) p = probing n r good p
line_on (event.Client n address client port) p = asking n address client port p
line_on (event.Clock second) p = noting (Clock second) (with_world p (record p.world { clock = second }))
line_on (event.Rounds count nodes) p = noting RoundsDone (rounds nodes count p)
line_on e p = on_packets e p

-- a stop comes in the first call or a later one
abbrev pub IsPlayable : Event → Type 0
IsPlayable (event.CrashAt n calls c) = 1 ≤ calls
IsPlayable _ = Unit {0}
