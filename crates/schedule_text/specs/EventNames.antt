-- The words that name the events of a cluster schedule.
use Rattle.std.specs.Prelude.{ℕ, List, [], ◌∷◌, Option, find, codes}
use Rattle.std.specs.Str.{bytes_eq}
use Rattle.schedule_text.specs.declared.event_name.EventName.{EventName}
use Rattle.schedule_text.specs.declared.event_name.EventName.TheVariants.{Boot, Crash, CrashAt, Tick, Deliver, Lose, Repeat, Next, Drop, Again, Disk, Fault, Write, Command, Outcome, Probe, Clock, Rounds, Client, Server, ServerStop}

abbrev pub event_text : EventName → List ℕ
event_text Boot = codes "boot"
event_text Crash = codes "crash"
event_text CrashAt = codes "crashat"
event_text Tick = codes "tick"
event_text Deliver = codes "deliver"
event_text Lose = codes "lose"
event_text Repeat = codes "repeat"
event_text Next = codes "next"
event_text Drop = codes "drop"
event_text Again = codes "again"
event_text Disk = codes "disk"
event_text Fault = codes "fault"
event_text Write = codes "write"
event_text Command = codes "cmd"
event_text Outcome = codes "outcome"
event_text Probe = codes "probe"
event_text Clock = codes "clock"
event_text Rounds = codes "rounds"
event_text Client = codes "client"
event_text Server = codes "server"
event_text ServerStop = codes "serverstop"

abbrev pub all_events : List EventName
all_events = Boot ∷ Crash ∷ CrashAt ∷ Tick ∷ Deliver ∷ Lose ∷ Repeat ∷ Next ∷ Drop ∷ Again ∷ Disk ∷ Fault ∷ Write ∷ Command ∷ Outcome ∷ Probe
    ∷ Clock ∷ Rounds ∷ Client ∷ Server ∷ ServerStop ∷ []

-- the event that a word names
unfoldable pub event_in : List ℕ → Option EventName
event_in word = find (λ k. bytes_eq (event_text k) word) all_events
