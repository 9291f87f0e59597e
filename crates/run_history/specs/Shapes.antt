-- The shape of a run: each line of the schedule brings exactly what is due for it in the scene then, and so does each part of a round; the parts come in
-- their order.
use Rattle.std.specs.Prelude.{ℕ, ◌^◌, ◌≡◌, nat_lt, Bool, true, false, List, [], ◌∷◌, Option, None, Some, Result, Ok, Err, is_some, if◌then◌else◌}
use Rattle.std.specs.Option.{option_map}
use Rattle.interconnect.specs.Links.{Packet, oldest_on, packet_of}
use Rattle.pgr_device.specs.declared.command.PrCommand.{PrCommand}
use Rattle.schedule_text.specs.declared.event.Event.{Event}
use Rattle.schedule_text.specs.declared.event.Event.TheVariants as event
use Rattle.status_report.specs.declared.device_entry.WriteRefusal.{WriteRefusal}
use Rattle.status_report.specs.declared.schedule_entry.ScheduleEntry.{ScheduleEntry}
use Rattle.status_report.specs.declared.schedule_entry.ScheduleEntry.TheVariants.{Armed, Clock, Queued, RoundsDone, Skipped}
use Rattle.status_report.specs.declared.schedule_entry.SkipCause.{SkipCause}
use Rattle.status_report.specs.declared.schedule_entry.SkipCause.TheVariants as skip
use Rattle.node_model.specs.Addresses.{refusal_at}
use Rattle.node_model.specs.Devices.{may_write_as}
use Rattle.node_model.specs.declared.cluster.Cluster.{Cluster}
use Rattle.node_model.specs.declared.input.Input.{Input}
use Rattle.node_model.specs.declared.input.Input.TheVariants as input
use Rattle.node_model.specs.declared.node.Node.{Node}
use Rattle.node_model.specs.declared.node.Node.TheVariants.{Down, Up}
use Rattle.node_model.specs.declared.node.UpNode.{UpNode}
use Rattle.world_model.specs.Devices.{due_at}
use Rattle.world_model.specs.Lines.{monitors}
use Rattle.run_history.specs.Happenings.{Happening, happened}
use Rattle.run_history.specs.Happenings.Happening.{Arrives, Begins, Commands, Loses, Misses, Notes, Refuses, Repeats, Speaks, Strays, Takes, Writes}
use Rattle.run_history.specs.Rounds.{Progress, begun_by, next_part}
use Rattle.run_history.specs.Scenes.{Scene}

-- one thing that is due
pub data Want : Type 0 where
  Note : (e : ScheduleEntry) → Want  -- it is told what the line comes to
  Take : (n : ℕ) (i : Input) → Want  -- this comes to a node
  Deliver : (number : ℕ) (x : Packet) → Want  -- a packet comes to its receiver, which is up
  Miss : (number : ℕ) (x : Packet) → Want  -- .. which is down
  Lose : (number : ℕ) (x : Packet) → Want
  Repeat : (number : ℕ) (x : Packet) → Want
  Command : (n : ℕ) → Want  -- the command of a node that is due then is carried out
  Write : (n d value : ℕ) → Want
  Refuse : (n d value : ℕ) (cause : WriteRefusal) → Want

-- ---- what an event brings

abbrev pub skipping : SkipCause → List Want
skipping why = Note (Skipped why) ∷ []

abbrev pub taking_this : ℕ → Input → List Want
taking_this n i = Take n i ∷ []

-- a boot is of a node that is down
abbrev pub booting : ℕ → Node → List Want
booting n Down = taking_this n input.Boot
booting n (Up x) = skipping skip.Up

-- most else is of a node that is up
abbrev pub if_up : Node → (UpNode → List Want) → List Want
if_up Down f = skipping skip.Down
if_up (Up x) f = f x

-- a node readies itself, then does its command
abbrev pub commanding : ℕ → Option (ℕ × PrCommand) → List Want
commanding n None = skipping skip.NoWork
commanding n (Some due) = Take n input.CommandDue ∷ Command n ∷ []

abbrev pub writing : ℕ → ℕ → ℕ → Result ℕ WriteRefusal → List Want
writing n d value (Ok e) = Write n d value ∷ []
writing n d value (Err cause) = Refuse n d value cause ∷ []

abbrev pub probing : ℕ → List ℕ → Bool → Bool → List Want
probing n resource good true = taking_this n (input.Reported resource good)
probing n resource good false = skipping skip.NoMonitor

abbrev pub asking : ℕ → Input → Option SkipCause → List Want
asking n i None = taking_this n i
asking n i (Some why) = skipping why

-- the packet of a number, where it is in flight
abbrev pub of_packet : Option Packet → (Packet → List Want) → List Want
of_packet None f = skipping skip.NoPacket
of_packet (Some x) f = f x

-- the oldest packet of a link, where it has one
abbrev pub of_oldest : Option ℕ → (ℕ → List Want) → List Want
of_oldest None f = skipping skip.NoPacket
of_oldest (Some number) f = f number

abbrev pub coming_to : Node → ℕ → Packet → List Want
coming_to Down number x = Miss number x ∷ []
coming_to (Up y) number x = Deliver number x ∷ []

abbrev pub delivering : Scene → ℕ → List Want
delivering s number = of_packet (packet_of s.links.packets number) (λ x. coming_to (s.nodes.node x.to) number x)

abbrev pub losing : Scene → ℕ → List Want
losing s number = of_packet (packet_of s.links.packets number) (λ x. Lose number x ∷ [])

-- where no number is left for a copy nothing comes of it
abbrev pub repeating : Scene → ℕ → List Want
repeating s number = of_packet (packet_of s.links.packets number) (λ x. if nat_lt s.links.next (2 ^ 63) then Repeat number x ∷ [] else [])

abbrev pub brings : Cluster → Scene → Event → List Want
brings c s (event.Boot n) = booting n (s.nodes.node n)
brings c s (event.Crash n) = if_up (s.nodes.node n) (λ x. taking_this n input.Crash)
brings c s (event.CrashAt n calls choice) = Note Armed ∷ []
brings c s (event.Tick n) = if_up (s.nodes.node n) (λ x. taking_this n input.Tick)
brings c s (event.Disk n) = if_up (s.nodes.node n) (λ x. commanding n (due_at (Some (s.nodes.node n))))
brings c s (event.Fault n d done) = Note Armed ∷ []
brings c s (event.Write n d value) = if_up (s.nodes.node n) (λ x. writing n d value (may_write_as c n d x.seat))
brings c s (event.Command n words) = if_up (s.nodes.node n) (λ x. taking_this n (input.Commanded words))
brings c s (event.Outcome n resource method outcome) = Note Queued ∷ []
brings c s (event.Probe n resource good) = if_up (s.nodes.node n) (λ x. probing n resource good (monitors resource (Some (s.nodes.node n))))
brings c s (event.Client n address client port) =
    if_up (s.nodes.node n) (λ x. asking n (input.Client address client port) (refusal_at c address (s.nodes.node n)))
brings c s (event.Clock second) = Note (Clock second) ∷ []
brings c s (event.Deliver number) = delivering s number
brings c s (event.Lose number) = losing s number
brings c s (event.Repeat number) = repeating s number
brings c s (event.Next from to) = of_oldest (oldest_on s.links.packets from to) (λ number. delivering s number)
brings c s (event.Drop from to) = of_oldest (oldest_on s.links.packets from to) (λ number. losing s number)
brings c s (event.Again from to) = of_oldest (oldest_on s.links.packets from to) (λ number. repeating s number)
brings c s (event.Rounds count nodes) = []

-- ---- what happens is what is due

abbrev pub IsThis : Want → Happening → Type 0
IsThis (Note e) (Notes f) = f ≡ e
IsThis (Take n i) (Takes m now ends j) = (m ≡ n) × (j ≡ i)
IsThis (Deliver number x) (Arrives k y m now ends) = (k ≡ number) × (y ≡ x)
IsThis (Deliver number x) (Strays k y) = (k ≡ number) × (y ≡ x)
IsThis (Miss number x) (Misses k y) = (k ≡ number) × (y ≡ x)
IsThis (Lose number x) (Loses k y) = (k ≡ number) × (y ≡ x)
IsThis (Repeat number x) (Repeats k y) = (k ≡ number) × (y ≡ x)
IsThis (Command n) (Commands m d k now ends) = m ≡ n
IsThis (Write n d value) (Writes m e v now ends) = (m ≡ n) × (e ≡ d) × (v ≡ value)
IsThis (Refuse n d value cause) (Refuses m e v why) = (m ≡ n) × (e ≡ d) × (v ≡ value) × (why ≡ cause)
IsThis w h = ⊥

-- what is due still: of the line or the part under way, and, in rounds, the parts behind it
pub record Due : Type 0 where
  pub wants : List Want
  pub rounds : Option Progress

abbrev pub due : List Want → Option Progress → Due
due wants rounds = record { wants = wants; rounds = rounds }

-- nothing: the next line may come
abbrev pub nothing : Due
nothing = due [] None

-- outside of rounds lines come, and in rounds the parts, one after another, until none is left: then they are done
abbrev pub Opens : Scene → Option Progress → Happening → Type 0
Opens s None (Speaks e) = Unit {0}
Opens s (Some p) (Begins e) = option_map (λ (next : Event × Progress). next.0) (next_part s p) ≡ Some e
Opens s (Some p) (Notes e) = (e ≡ RoundsDone) × (next_part s p ≡ None)
Opens s rounds h = ⊥

abbrev pub Comes : Scene → List Want → Option Progress → Happening → Type 0
Comes s [] rounds h = Opens s rounds h
Comes s (w ∷ wants) rounds h = IsThis w h

abbrev pub IsDue : Scene → Due → Happening → Type 0
IsDue s d h = Comes s d.wants d.rounds h

-- a command that is due no longer, since its node went down, does not come
abbrev pub still : Scene → List Want → List Want
still s [] = []
still s (Command n ∷ wants) = if is_some (due_at (Some (s.nodes.node n))) then Command n ∷ wants else wants
still s (w ∷ wants) = w ∷ wants

-- what is left of the rounds once the next part has begun
abbrev pub behind : Scene → Option Progress → Option Progress
behind s None = None
behind s (Some p) = option_map (λ (next : Event × Progress). next.1) (next_part s p)

abbrev pub opened : Cluster → Scene → Option Progress → Happening → Due
opened c s rounds (Speaks e) = due (brings c s e) (begun_by s e)
opened c s rounds (Begins e) = due (brings c s e) (behind s rounds)
opened c s rounds h = nothing

abbrev pub left : Cluster → Scene → List Want → Option Progress → Happening → Due
left c s [] rounds h = opened c s rounds h
left c s (w ∷ wants) rounds h = due (still s wants) rounds

-- what is due behind it, in the scene after it
abbrev pub due_after : Cluster → Scene → Due → Happening → Due
due_after c s d h = left c s d.wants d.rounds h

-- each is due when it comes, from what was due on to what is due then
abbrev pub ShapedFrom : Cluster → Scene → Due → List Happening → Due → Type 0
ShapedFrom c s d [] last = d ≡ last
ShapedFrom c s d (h ∷ hs) last = IsDue s d h × ShapedFrom c (happened c s h) (due_after c (happened c s h) d h) hs last

-- the run is whole lines: at its end nothing is due
abbrev pub IsShaped : Cluster → Scene → List Happening → Type 0
IsShaped c s hs = ShapedFrom c s nothing hs nothing
