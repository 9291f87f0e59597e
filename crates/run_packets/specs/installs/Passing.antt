-- What a coordinator does once it has installed: its Install goes to each other member of the attempt, and where there is none it starts.
use Rattle.std.specs.Prelude.{ℕ, ◌≡◌, ◌≢◌, ◌≤◌, ◌⊎◌, ◌==◌, ◌||◌, Bool, true, List, [], ◌∷◌, Option, IfSome, length}
use Rattle.std.specs.List.{AllByRecursion, list_any}
use Rattle.cl_base.specs.Limits.{most_nodes}
use Rattle.cl_base.specs.Sets.{has}
use Rattle.cmm_attempt.specs.Attempts.{AttemptState}
use Rattle.cmm_attempt.specs.Calls.{Call, Take, Own_seized, Own_ready, Tick, With_votes, turn}
use Rattle.cmm_attempt.specs.declared.phase.Phase.{Phase}
use Rattle.cmm_attempt.specs.declared.phase.Phase.TheVariants.{Collecting, Choosing, SeizingVotes, SeizingOthers, Installing, Over}
use Rattle.cmm_attempt.specs.declared.seizing.Seizing.{Seizing}
use Rattle.cmm_attempt.specs.declared.step.Step.{Step}
use Rattle.cmm_attempt.specs.declared.step.Step.TheVariants as step
use Rattle.history.specs.Letters.{sends}
use Rattle.history.specs.Member.{members_of}
use Rattle.cmm_member.specs.Nodes.{NodeState}
use Rattle.history.specs.Messages.{is_stop_of}
use Rattle.history.specs.Moment.{Moment, Told}
use Rattle.history.specs.Names as name
use Rattle.history.specs.Seizing.{is_start}
use Rattle.history.specs.Setting.{coordinator}
use Rattle.history.specs.Trace.{disk_failed}
use Rattle.node_model.specs.declared.cluster.Cluster.{Cluster}
use Rattle.node_model.specs.declared.node.Node.{Node}
use Rattle.node_model.specs.declared.node.Node.TheVariants.{Down, Up}
use Rattle.node_model.specs.declared.output.Output.{Output}
use Rattle.node_model.specs.declared.output.Output.TheVariants.{Sends, Tells}
use Rattle.refinement.specs.Courses.{Course}
use Rattle.refinement.specs.Courses.Course.{Acts, Falls, Keeps, Stops}
use Rattle.node_model.specs.declared.node.UpNode.{UpNode}
use Rattle.refinement.specs.Doings.{Act, Change, Doing, acted, changed}
use Rattle.refinement.specs.Doings.Act.{Makes, Writes}
use Rattle.refinement.specs.Doings.Change.{Counts, Starts}
use Rattle.refinement.specs.Doings.Doing.{Does, Forgets, Loses, Saves}
use Rattle.run_messages.specs.records.Losses.{IsLoss}
use Rattle.run_packets.specs.admitted.Known.{ResultFew}
use Rattle.status_report.specs.declared.entry.Entry.TheVariants as entry
use Rattle.status_report.specs.declared.node_entry.NodeEntry.TheVariants as note
use Rattle.status_report.specs.declared.start_entry.StartEntry.TheVariants as start
use Rattle.wire.specs.declared.lists.Reading.{Reading}
use Rattle.wire.specs.declared.message.Body.{Body}
use Rattle.wire.specs.declared.message.Body.TheVariants as body
use Rattle.wire.specs.declared.message.Install.{Install}

-- ---- attempts

-- the attempt has not installed yet
abbrev pub IsEarly : Phase → Type 0
IsEarly Collecting = Unit {0}
IsEarly Choosing = Unit {0}
IsEarly SeizingVotes = Unit {0}
IsEarly SeizingOthers = Unit {0}
IsEarly Installing = ⊥
IsEarly Over = ⊥

-- nobody is ready before that
abbrev pub Unready : AttemptState → Type 0
Unready a = IsEarly a.phase → a.readies ≡ []

-- another member of the attempt
abbrev pub IsOther : AttemptState → ℕ → Type 0
IsOther a m = (list_any (λ k. k == m) a.plan.nodes ≡ true) × (m ≢ a.plan.coordinator)

-- messages come first, and this Install to m is among them
abbrev pub SendsStep : ℕ → Install → List Step → Type 0
SendsStep m i (step.Send to message ∷ steps) = ((to ≡ m) × (message.body ≡ body.Install i)) ⊎ SendsStep m i steps
SendsStep m i _ = ⊥

-- n coordinates the attempt, and it has no other member
abbrev pub IsAlone : ℕ → AttemptState → Type 0
IsAlone n a = (a.plan.coordinator ≡ n) × AllByRecursion (λ k. k ≡ n) a.plan.nodes

-- what is installed here first is sent to each other member; where there is none, nothing else is to be done
abbrev pub StepsFollow : AttemptState → List Step → Type 0
StepsFollow t (step.InstallHere i ∷ steps) = ((m : ℕ) → IsOther t m → SendsStep m i steps) × (t.phase ≡ Installing) × (i.epoch ≡ t.plan.epoch) × ((n : ℕ) → IsAlone n t → steps ≡ [])
StepsFollow t _ = Unit {0}

-- a device was read with few keys
abbrev pub EntryFew : Seizing → Type 0
EntryFew e = IfSome e.result ResultFew

abbrev pub EntriesFew : AttemptState → Type 0
EntriesFew a = AllByRecursion EntryFew a.devices

-- each device is seized by a member, which is this one where there is no other
abbrev pub EntryBy : ℕ → Seizing → Type 0
EntryBy n e = IfSome e.seizer (λ k. k ≡ n)

abbrev pub SeizersIn : AttemptState → Type 0
SeizersIn a = (n : ℕ) → AllByRecursion (λ k. k ≡ n) a.plan.nodes → AllByRecursion (EntryBy n) a.devices

-- .. and the devices are those of the cluster
abbrev pub AttemptFew : Cluster → AttemptState → Type 0
AttemptFew c a = EntriesFew a × (a.plan.attached ≡ c.attached) × SeizersIn a

abbrev pub BodyFew : Body → Type 0
BodyFew (body.Seized e d r) = ResultFew r
BodyFew b = Unit {0}

abbrev pub CallFew : Call → Type 0
CallFew (Own_seized d r) = ResultFew r
CallFew (Take from m) = BodyFew m.body
CallFew (With_votes both) = Unit {0}
CallFew Own_ready = Unit {0}
CallFew Tick = Unit {0}

-- the readings of an Install are few
abbrev pub ReadingFew : Reading → Type 0
ReadingFew r = length r.keys ≤ 32

abbrev pub InstallFew : Install → Type 0
InstallFew i = (length i.readings ≤ 16) × AllByRecursion ReadingFew i.readings

-- ---- courses

-- the course begins with messages, and this is among them
abbrev pub SendsFirst : ℕ → Body → Course → Type 0
SendsFirst m b (Acts (Writes to other) rest) = ((to ≡ m) × (other ≡ b)) ⊎ SendsFirst m b rest
SendsFirst m b _ = ⊥

-- the course begins with the start of e
abbrev pub StartsFirst : ℕ → Course → Type 0
StartsFirst e (Keeps (Starts a k s) rest) = (turn a k).after.plan.epoch ≡ e
StartsFirst e (Acts (Makes (Starts a k s)) rest) = (turn a k).after.plan.epoch ≡ e
StartsFirst e _ = ⊥

-- what n read itself, on a device of the header
abbrev pub ReadingBy : ℕ → Reading → Type 0
ReadingBy n r = (r.seizer ≡ n) × (1 ≤ r.device) × (r.device ≤ 16)

-- node n is alone in the attempt that installs
pub record IsLonely (n : ℕ) (s : NodeState) (t : AttemptState) (i : Install) : Type 0 where
  pub alone : IsAlone n t
  pub me : s.me ≡ n
  pub own : AllByRecursion (ReadingBy n) i.readings

-- once an install is saved it is sent to each other member; where there is none the membership starts
abbrev pub Follows : ℕ → Change → Course → Type 0
Follows n (Counts a k s i) rest = ((m : ℕ) → IsOther (turn a k).after m → SendsFirst m (body.Install i) rest) × (IsLonely n s (turn a k).after i → StartsFirst i.epoch rest)
Follows n _ rest = Unit {0}

abbrev pub NoCount : Change → Type 0
NoCount (Counts a k s i) = ⊥
NoCount _ = Unit {0}

abbrev pub ActPasses : Act → Type 0
ActPasses (Makes change) = NoCount change
ActPasses _ = Unit {0}

abbrev pub GoesPassing : ℕ → Course → Type 0
GoesPassing n Stops = Unit {0}
GoesPassing n (Acts a rest) = ActPasses a × GoesPassing n rest
GoesPassing n (Keeps change rest) = Follows n change rest × GoesPassing n rest
GoesPassing n (Falls why) = Unit {0}

-- nobody is ready before the attempt of the node installs
abbrev pub IsUnready : UpNode → Type 0
IsUnready x = IfSome x.attempt Unready

-- the node that a course leaves, where it is up, is so
abbrev pub EndsUnready : Cluster → ℕ → UpNode → Course → Type 0
EndsUnready c n x Stops = IsUnready x
EndsUnready c n x (Acts a rest) = EndsUnready c n (acted c n x a) rest
EndsUnready c n x (Keeps change rest) = EndsUnready c n (changed c n x change) rest
EndsUnready c n x (Falls why) = Unit {0}

-- ---- small steps

abbrev pub SendsNext : ℕ → Body → List Doing → Type 0
SendsNext m b (Does (Writes to other) ∷ ds) = ((to ≡ m) × (other ≡ b)) ⊎ SendsNext m b ds
SendsNext m b _ = ⊥

-- the start of e comes next, or the node goes down in the save of it
abbrev pub StartsNext : ℕ → List Doing → Type 0
StartsNext e (Saves (Starts a k s) ∷ ds) = (turn a k).after.plan.epoch ≡ e
StartsNext e (Does (Makes (Starts a k s)) ∷ ds) = (turn a k).after.plan.epoch ≡ e
StartsNext e (Loses (Starts a k s) why ∷ ds) = IsLoss why
StartsNext e (Forgets (Starts a k s) why ∷ ds) = IsLoss why
StartsNext e _ = ⊥

abbrev pub FollowsIn : ℕ → Change → List Doing → Type 0
FollowsIn n (Counts a k s i) ds = ((m : ℕ) → IsOther (turn a k).after m → SendsNext m (body.Install i) ds) × (IsLonely n s (turn a k).after i → StartsNext i.epoch ds)
FollowsIn n _ ds = Unit {0}

abbrev pub DoingPasses : ℕ → Doing → List Doing → Type 0
DoingPasses n (Does a) ds = ActPasses a
DoingPasses n (Saves change) ds = FollowsIn n change ds
DoingPasses n _ ds = Unit {0}

abbrev pub AllPass : ℕ → List Doing → Type 0
AllPass n [] = Unit {0}
AllPass n (d ∷ ds) = DoingPasses n d ds × AllPass n ds

-- ---- outputs

-- m is sent this
abbrev pub SendsThis : ℕ → Body → Output → Type 0
SendsThis m b (Sends to other) = (to ≡ m) × (other ≡ b)
SendsThis m b (Tells e) = ⊥

abbrev pub IsSent : ℕ → Body → List Output → Type 0
IsSent m b [] = ⊥
IsSent m b (o ∷ os) = SendsThis m b o ⊎ IsSent m b os

-- an Install that is sent to m
pub record Passed (m : ℕ) (os : List Output) : Type 0 where
  pub install : Install
  pub few : InstallFew install
  pub goes : IsSent m (body.Install install) os

-- m is another member of e, by its line among these moments
abbrev pub IsMember : List Moment → ℕ → ℕ → Type 0
IsMember before e m = (m ≤ most_nodes) × (has (members_of e before) m ≡ true) × (m ≢ coordinator e)

abbrev pub NoMember : List Moment → ℕ → Type 0
NoMember before e = (m : ℕ) → IsMember before e m → ⊥

-- e starts, or node n goes down in the save of that start
abbrev pub StartsThis : ℕ → ℕ → Output → Type 0
StartsThis n e (Tells (entry.Start (start.Started f members held count))) = f ≡ e
StartsThis n e (Tells (entry.Node k (note.Down why))) = (k ≡ n) × IsLoss why
StartsThis n e _ = ⊥

abbrev pub IsStarted : ℕ → ℕ → List Output → Type 0
IsStarted n e [] = ⊥
IsStarted n e (o ∷ os) = StartsThis n e o ⊎ IsStarted n e os

-- what node n tells it installs is n's own, and where n coordinates it, it is sent to each other member behind that; where there is none it starts
abbrev pub OutSo : List Moment → ℕ → Output → List Output → Type 0
OutSo before n (Tells (entry.Node k (note.Installed e))) os = (k ≡ n) × (coordinator e ≡ n → ((m : ℕ) → IsMember before e m → Passed m os) × (NoMember before e → IsStarted n e os))
OutSo before n _ os = Unit {0}

abbrev pub OutsSo : List Moment → ℕ → List Output → Type 0
OutsSo before n [] = Unit {0}
OutsSo before n (o ∷ os) = OutSo before n o os × OutsSo before n os

-- it tells no install
abbrev pub IsElse : Output → Type 0
IsElse (Tells (entry.Node k (note.Installed e))) = ⊥
IsElse _ = Unit {0}

abbrev pub AreElse : List Output → Type 0
AreElse os = AllByRecursion IsElse os

-- ---- entries

-- e starts, or n stops, or its disk fails
abbrev pub starts_or_fails : ℕ → ℕ → Moment → Bool
starts_or_fails n e (disk_failed m) = m == n
starts_or_fails n e x = is_start e x || is_stop_of n x

abbrev pub GoesOut : List Moment → Moment → List Moment → Type 0
GoesOut before (Told (entry.Node n (note.Installed e))) later =
    n ≡ coordinator e → ((m : ℕ) → IsMember before e m → list_any (sends n m name.Install) later ≡ true) × (NoMember before e → list_any (starts_or_fails n e) later ≡ true)
GoesOut before _ later = Unit {0}

abbrev pub AllGoOut : List Moment → List Moment → Type 0
AllGoOut before [] = Unit {0}
AllGoOut before (x ∷ later) = GoesOut before x later × AllGoOut before later

-- ---- nodes

-- it waits for Promises, or is over; or it has no other member
abbrev pub IsWaiting : Phase → Type 0
IsWaiting Collecting = Unit {0}
IsWaiting Over = Unit {0}
IsWaiting _ = ⊥

abbrev pub IsYoung : AttemptState → Type 0
IsYoung a = IsWaiting a.phase ⊎ AllByRecursion (λ k. k ≡ a.plan.coordinator) a.plan.nodes

-- the attempt has the members of its line
abbrev pub IsListed : List Moment → AttemptState → Type 0
IsListed before a = members_of a.plan.epoch before ≡ a.plan.members

-- .. or its line is not among these moments
abbrev pub IsLined : List Moment → AttemptState → Type 0
IsLined before a = IsListed before a ⊎ ((members_of a.plan.epoch before ≡ 0) × IsYoung a)

abbrev pub UpLined : List Moment → Option AttemptState → Type 0
UpLined before o = IfSome o (IsLined before)

abbrev pub NodeLined : List Moment → Node → Type 0
NodeLined before Down = Unit {0}
NodeLined before (Up x) = UpLined before x.attempt

abbrev pub NodeListed : List Moment → Node → Type 0
NodeListed before Down = Unit {0}
NodeListed before (Up x) = IfSome x.attempt (IsListed before)

abbrev pub NodeUnready : Node → Type 0
NodeUnready Down = Unit {0}
NodeUnready (Up x) = IsUnready x

abbrev pub NodeFew : Cluster → Node → Type 0
NodeFew c Down = Unit {0}
NodeFew c (Up x) = IfSome x.attempt (AttemptFew c)
