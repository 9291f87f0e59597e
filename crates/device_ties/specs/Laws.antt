-- The laws of this crate, each as a statement.
use Rattle.std.specs.Prelude.{ℕ, ◌≡◌, ◌<◌, ◌≤◌, ◌⊎◌, ◌&&◌, Bool, true, false, List, Some, None}
use Rattle.cl_base.specs.Seizings.{SeizeResult}
use Rattle.pgr_device.specs.declared.registration.Registration.{Registration}
use Rattle.pgr_device.specs.declared.command.PrCommand.{PrCommand}
use Rattle.pgr_device.specs.declared.command.PrCommand.TheVariants as command
use Rattle.pgr_device.specs.declared.command.PrAnswer.TheVariants as answer
use Rattle.pgr_device.specs.Device as pgr
use Rattle.pgr_device.specs.Registered.{is_registered, keys_of}
use Rattle.pgr_device.specs.Spc.{step}
use Rattle.seize.specs.declared.kind.SeizeKind.{SeizeKind}
use Rattle.seize.specs.declared.step.SeizeStep.TheVariants.{Register}
use Rattle.cl_base.specs.Sets.{has}
use Rattle.cl_base.specs.Keys.{key_of}
use Rattle.seize.specs.Keys.{has_key, first_stranger}
use Rattle.seize.specs.Seizing as seizing
use Rattle.seize.specs.Seizing.{SeizeState}
use Rattle.seize.specs.Joining as joining
use Rattle.seize.specs.Joining.{JoinState}
use Rattle.seize.specs.Shows.{is_vote}
use Rattle.device_machine.specs.Device.{Device, LetsWrite, first_device}
use Rattle.device_machine.specs.Sharing as sharing
use Rattle.device_machine.specs.Sharing.{Sharing, Event, Write, Allowed, after, first_sharing}
use Rattle.device_machine.specs.Growth.{AttemptGrows}
use Rattle.membership_machine.specs.Votes.{Setting}
use Rattle.cluster_machine.specs.Cluster.{Cluster, MayCome, all_after}
use Rattle.device_ties.specs.Devices.{OwnKeys, DeviceTied}
use Rattle.device_ties.specs.Commands.{Completion, executed, learned}
use Rattle.device_ties.specs.Tasks.{is_member, ToldSo, SeizingTied, IsSaved, Idle, Seizes, Joins, Task, AtDevice, mark_after}
use Rattle.device_ties.specs.Moves.{AreBy, Moved, WholeMoved}

-- A device with own keys alone, without a reservation, with word and data 0, is the machine's at first.
abbrev pub FirstIsTied : Type 0
FirstIsTied = (cluster : ℕ) (p : pgr.Device) (attached : ℕ → Bool) → OwnKeys cluster p.registrations → ((n : ℕ) → is_registered p.registrations n ≡ attached n) → p.reservation ≡ None → p.word ≡ 0 → p.value ≡ 0
    → DeviceTied cluster p (first_device attached)

-- So is one that begins with the keys of the nodes of a set that have a path to it; with the empty set it begins with none.
abbrev pub FirstKeysAreTied : Type 0
FirstKeysAreTied = (cluster paths nodes : ℕ) → DeviceTied cluster (pgr.with_keys paths nodes cluster) (first_device (λ n. is_member nodes n && has paths n))

-- At first each node has its mark as it is attached, has joined nothing, and has no task.
abbrev pub NodesAreTied : Type 0
NodesAreTied = (cluster n : ℕ) (attached : ℕ → Bool) → AtDevice cluster n (first_sharing attached) (attached n) false Idle

-- The command that is due in a seizing, answered or failed, done or not, with a path or without, is one or two events of the node at most, and
-- what the node then makes of the answer is what the machine has of it.
abbrev pub SeizeCommands : Type 0
SeizeCommands = (cluster n : ℕ) (s : Sharing) (validated has_joined : Bool) (t : SeizeState) (p : pgr.Device) (f : Completion) (c : PrCommand) → 1 ≤ n → n ≤ 32
    → DeviceTied cluster p s.device → AtDevice cluster n s validated has_joined (Seizes t) → IsSaved t.step validated → seizing.command_of t ≡ Some c
    → Moved cluster n s (executed f p n c) (λ u. AtDevice cluster n u validated has_joined (Seizes (seizing.taken t (learned f p n c))))

-- The result of a seizing is true to tell.
abbrev pub ResultsAreTrue : Type 0
ResultsAreTrue = (cluster n : ℕ) (s : Sharing) (t : SeizeState) (r : SeizeResult) → SeizingTied cluster n s t → seizing.result_of t ≡ Some r → ToldSo s t.epoch n r

-- So it is in a joining. Where it ends joined, the device is joined, and the key validated.
abbrev pub JoinCommands : Type 0
JoinCommands = (cluster n : ℕ) (s : Sharing) (validated has_joined : Bool) (j : JoinState) (p : pgr.Device) (f : Completion) (c : PrCommand) → 1 ≤ n → n ≤ 32
    → DeviceTied cluster p s.device → AtDevice cluster n s validated has_joined (Joins j) → joining.command_of j ≡ Some c
    → Moved cluster n s (executed f p n c)
    (λ u. AtDevice cluster n u (mark_after (joining.taken j (learned f p n c)).step validated) (mark_after (joining.taken j (learned f p n c)).step has_joined) (Joins (joining.taken j (learned f p n c))))

-- Before it registers, a seizing saves that its key is not validated.
abbrev pub DistrustIsSaved : Type 0
DistrustIsSaved = (cluster n : ℕ) (s : Sharing) (validated has_joined : Bool) (t : SeizeState) (p : pgr.Device) → DeviceTied cluster p s.device → AtDevice cluster n s validated has_joined (Seizes t)
    → t.step ≡ Register → Moved cluster n s p (λ u. AtDevice cluster n u false has_joined (Seizes t))

-- A write of a node that joined the device is taken, answered or not, or it changes nothing; and an answer that is good says that the device
-- lets the node write.
abbrev pub WriteCommands : Type 0
WriteCommands = (cluster n : ℕ) (s : Sharing) (p : pgr.Device) (f : Completion) (x : ℕ) → DeviceTied cluster p s.device → (s.node n).joined ≡ true
    → (Allowed s (Write n x) × DeviceTied cluster (executed f p n (command.Write x)) (after s (Write n x)).device) ⊎ DeviceTied cluster (executed f p n (command.Write x)) s.device

abbrev pub GoodWriteIsTaken : Type 0
GoodWriteIsTaken = (cluster n : ℕ) (p : pgr.Device) (d : Device) (x : ℕ) → DeviceTied cluster p d → (step p n (command.Write x)).answer ≡ answer.Good → LetsWrite d n

-- A node without a task, in a session that it has not installed, begins to seize where it is asked to.
abbrev pub SeizingsBegin : Type 0
SeizingsBegin = (cluster n : ℕ) (s : Sharing) (validated has_joined : Bool) (p : pgr.Device) (kind : SeizeKind) (epoch members : ℕ) → DeviceTied cluster p s.device
    → AtDevice cluster n s validated has_joined Idle → 0 < epoch → (s.node n).session ≡ epoch → (s.node n).installed < epoch
    → (s.attempt epoch).collected ≡ true → (s.attempt epoch).asked n ≡ true → (s.attempt epoch).quorum ≡ is_vote kind
    → ((m : ℕ) → (s.attempt epoch).members m ≡ is_member members m) → is_member members n ≡ true
    → Moved cluster n s p (λ u. AtDevice cluster n u validated has_joined (Seizes (seizing.begun kind epoch members n cluster validated)))

-- What is left of a task, and of the marks, by the steps of memberships.
pub record SessionSteps : Type 0 where
  pub promise : (cluster n : ℕ) (s : Sharing) (validated has_joined : Bool) (task : Task) (q : ℕ) → AtDevice cluster n s validated has_joined task
      → AtDevice cluster n (after s (sharing.Promise n q)) validated false Idle
  pub crash : (cluster n : ℕ) (s : Sharing) (validated has_joined : Bool) (task : Task) → AtDevice cluster n s validated has_joined task
      → AtDevice cluster n (after s (sharing.Crash n)) validated false Idle
  pub apart : (cluster n : ℕ) (s : Sharing) (validated has_joined : Bool) (task : Task) → AtDevice cluster n s validated has_joined task
      → AtDevice cluster n (after s (sharing.Install_apart n)) validated has_joined Idle
  pub seizer : (cluster n : ℕ) (s : Sharing) → AtDevice cluster n (after s (sharing.Install_seizer n)) true true Idle
  pub known : (cluster n : ℕ) (s : Sharing) → AtDevice cluster n (after s (sharing.Install_known n)) true true Idle
  pub new : (cluster n : ℕ) (s : Sharing) (validated has_joined : Bool) (task : Task) → AtDevice cluster n s validated has_joined task
      → AtDevice cluster n (after s (sharing.Install_new n)) false has_joined (Joins (joining.begun (s.node n).session n cluster))

-- A node stays as it is at the device, while others go on and attempts grow.
abbrev pub OthersStay : Type 0
OthersStay = (cluster k : ℕ) (s u : Sharing) (validated has_joined : Bool) (task : Task) → u.node k ≡ s.node k → ((q : ℕ) → AttemptGrows (s.attempt q) (u.attempt q))
    → AtDevice cluster k s validated has_joined task → AtDevice cluster k u validated has_joined task

-- What such events make of one device they make of the whole.
abbrev pub MovesOfTheWhole : Type 0
MovesOfTheWhole = (S : Setting) (w : Cluster) (d n : ℕ) (events : List Event) → AreBy n events → MayCome (w.device d) events → WholeMoved S w d (all_after (w.device d) events)

-- Of keys.

-- An own key that is registered again changes nothing.
abbrev pub RegisteredAgain : Type 0
RegisteredAgain = (cluster n : ℕ) (p : pgr.Device) → OwnKeys cluster p.registrations → is_registered p.registrations n ≡ true → 1 ≤ n → (step p n (command.Ignore (key_of cluster n))).after ≡ p

-- The keys that are read are those of the registered nodes.
abbrev pub KeysAreOfRegistered : Type 0
KeysAreOfRegistered = (cluster k : ℕ) (rs : List Registration) → OwnKeys cluster rs → has_key (key_of cluster k) (keys_of rs) ≡ is_registered rs k

-- Where a reading shows no key but members', each registered node is one.
abbrev pub ReadingShowsAll : Type 0
ReadingShowsAll = (cluster members : ℕ) (rs : List Registration) → OwnKeys cluster rs → first_stranger cluster members (keys_of rs) ≡ None
    → (k : ℕ) → is_registered rs k ≡ true → is_member members k ≡ true
