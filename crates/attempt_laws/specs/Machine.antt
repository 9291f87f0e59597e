-- What an attempt shows of the abstract machine of memberships. While what its members told it is true there, its install is a count that
-- the machine allows, and its start one too.
use Rattle.std.specs.Prelude.{ℕ, ◌≡◌, ◌≤◌, ◌⊎◌, ◌++◌, ◌&&◌, Bool, true, false, nat_le, List, length, take, Some, IsSome, unwrap_or, All}
use Rattle.cl_base.specs.Sets.{has}
use Rattle.ccr_commit.specs.Entries.{listed}
use Rattle.machine_base.specs.Epochs.{coordinator}
use Rattle.membership_machine.specs.Records.{Saved, first_record}
use Rattle.membership_machine.specs.Votes.{Votes, Setting}
use Rattle.membership_machine.specs.State.{Memberships}
use Rattle.membership_machine.specs.Events.{Begin, IsCounted, HasNewest, AllReady, Allowed, after}
use Rattle.membership_machine.specs.Growth.{Grows}
use Rattle.quorum_votes.specs.Tables.{VoteTable}
use Rattle.quorum_votes.specs.Votes.{vote_of, device_votes_of}
use Rattle.wire.specs.declared.message.Body.{Body}
use Rattle.wire.specs.declared.message.Body.TheVariants as body
use Rattle.wire.specs.declared.message.Install.{Install}
use Rattle.wire.specs.declared.message.Message.{Message}
use Rattle.cmm_attempt.specs.declared.attached.AttachedDevice.{AttachedDevice}
use Rattle.cmm_attempt.specs.declared.counting.BothVotes.{BothVotes}
use Rattle.cmm_attempt.specs.declared.phase.Phase.TheVariants.{Collecting, Choosing, Installing}
use Rattle.cmm_attempt.specs.declared.phase.Readied.{Readied}
use Rattle.cmm_attempt.specs.declared.plan.Plan.{Plan}
use Rattle.cmm_attempt.specs.declared.promised.Promised.{Promised}
use Rattle.cl_base.specs.Numbers.{numbers_to}
use Rattle.cmm_attempt.specs.Calls.{IsReached, installs_in, Call, Take, With_votes, Own_seized, Own_ready, Tick, turn, May, starts_in}
use Rattle.attempt_laws.specs.Laws.{is_held_in}
use Rattle.cmm_attempt.specs.Promises.{shown_by, promised_by, is_from}
use Rattle.std.specs.List.{find}
use Rattle.cmm_attempt.specs.Attempts.{AttemptState, beginning, IsPromiseOf}

-- the machine has the members of a set as a test
abbrev pub is_member : ℕ → ℕ → Bool
is_member members n = nat_le n 32 && has members n

-- the record that a Promise shows
abbrev pub record_in : Body → Saved
record_in (body.Promise epoch installed members valid flagged committed pending) =
    record { installed = installed; entries = committed ++ listed pending; committed = length committed }
record_in _ = first_record

-- What is told.

-- A Promise tells that its sender answered the Collect of this epoch and showed this record, or, where it answers again after it has installed
-- the epoch's record, that the epoch was counted. A Ready tells that it installed the epoch's.
abbrev pub Tells : Memberships → ℕ → Body → Type 0
Tells w n (body.Promise epoch installed members valid flagged committed pending) =
    ((w.node n).answered epoch ≡ true)
    × (((w.node n).showed epoch ≡ record_in (body.Promise epoch installed members valid flagged committed pending)) ⊎ ((w.epoch epoch).counted ≡ true))
Tells w n (body.Ready epoch joined report) = (w.node n).ready epoch ≡ true
Tells w n _ = Unit {0}

-- and the coordinator's own part done, that it installed the epoch's record itself
abbrev pub IsTold : Memberships → AttemptState → Call → Type 0
IsTold w s (Take from m) = Tells w from m.body
IsTold w s Own_ready = (w.node s.plan.coordinator).ready s.plan.epoch ≡ true
IsTold w s (With_votes both) = Unit {0}
IsTold w s (Own_seized d r) = Unit {0}
IsTold w s Tick = Unit {0}

-- a Promise that was taken is its sender's, who is a member and showed this record
pub record IsAnswer (w : Memberships) (q members : ℕ) (p : Promised) : Type 0 where
  pub member : is_member members p.shown.summary.node ≡ true
  pub answered : (w.node p.shown.summary.node).answered q ≡ true
  pub showed : (w.node p.shown.summary.node).showed q ≡ record_in p.message.body
  pub shown : promised_by p.message (shown_by p.shown.summary.node p.message.body) ≡ Some p

-- the machine has this attempt, and all that the attempt was told
pub record HasTold (w : Memberships) (plan : Plan) (promises : List Promised) (readies : List Readied) (own : Bool) : Type 0 where
  pub tried : (w.epoch plan.epoch).tried ≡ true
  pub members : (n : ℕ) → (w.epoch plan.epoch).members n ≡ is_member plan.members n
  pub nodes : plan.nodes ≡ numbers_to plan.members 32
  pub coordinator : plan.coordinator ≡ coordinator plan.epoch
  pub answers : All (IsAnswer w plan.epoch plan.members) promises
  pub ready : All (λ r. (w.node r.node).ready plan.epoch ≡ true) readies
  pub own_ready : own ≡ true → (w.node plan.coordinator).ready plan.epoch ≡ true

abbrev pub MachineHas : Memberships → AttemptState → Type 0
MachineHas w s = HasTold w s.plan s.promises s.readies s.own_ready

-- The votes that the machine counts.

-- the machine's votes are those of the table, of nodes and devices from number 1 on
pub record AreVotes (v : Votes) (table : VoteTable) : Type 0 where
  pub no_node : v.of_node 0 ≡ 0
  pub no_device : v.of_device 0 ≡ 0
  pub node : (n : ℕ) → 1 ≤ n → v.of_node n ≡ vote_of table n
  pub device : (d : ℕ) → 1 ≤ d → v.of_device d ≡ device_votes_of table d

-- the votes that were given are those of the record's committed updates, and of all its updates, which are the same where none is given
pub record AreVotesOf (S : Setting) (r : Saved) (both : BothVotes) : Type 0 where
  pub nodes : S.nodes ≡ 33
  pub devices : S.devices ≡ 17
  pub committed : AreVotes (S.config (take r.committed r.entries)) both.committed
  pub pending : AreVotes (S.config r.entries) (unwrap_or both.pending both.committed)

-- An install, and what the machine makes of it.

-- The machine may count the attempt: every member answered and the node named newest showed a record that none exceeds; the members and
-- the devices that are held are a majority under its committed and under its pending votes. The install carries that record.
pub record IsCount (S : Setting) (w : Memberships) (s : AttemptState) (i : Install) : Type 0 where
  pub newest : HasNewest w s.plan.epoch s.newest
  pub votes : IsCounted S ((w.node s.newest).showed s.plan.epoch) (w.epoch s.plan.epoch).members (is_held_in s.devices)
  pub entries : i.committed ++ listed i.pending ≡ ((w.node s.newest).showed s.plan.epoch).entries
  pub committed : length i.committed ≡ ((w.node s.newest).showed s.plan.epoch).committed
  pub epoch : i.epoch ≡ s.plan.epoch
  pub members : i.members ≡ s.plan.members

-- The laws.

-- where the machine may begin the attempt, and its coordinator's own Promise shows its record, it has the attempt then
abbrev pub AttemptsBegin : Type 0
AttemptsBegin = (S : Setting) (w : Memberships) (p members : ℕ) (own : Message) (attached : List AttachedDevice) (cluster : ℕ)
    → IsPromiseOf p own → Allowed S w (Begin p (is_member members)) → (w.node (coordinator p)).saved ≡ record_in own.body
    → MachineHas (after w (Begin p (is_member members))) (beginning p members own attached cluster).after

-- what was told stays true
abbrev pub ToldStays : Type 0
ToldStays = (w v : Memberships) (s : AttemptState) → MachineHas w s → Grows w v → MachineHas v s

-- an attempt that is collecting is before its install: the machine has not counted it
abbrev pub IsUncounted : Memberships → AttemptState → Type 0
IsUncounted w s = s.phase ≡ Collecting → (w.epoch s.plan.epoch).counted ≡ false

-- what a call tells, where it is true, is told with the rest
abbrev pub CallsAreTold : Type 0
CallsAreTold = (w : Memberships) (s : AttemptState) (c : Call) → May s c → MachineHas w s → IsUncounted w s → IsTold w s c → MachineHas w (turn s c).after

-- the Promise of the node that is named newest: it tells what the node showed
pub record NewestPromise (w : Memberships) (s : AttemptState) : Type 0 where
  pub promise : Promised
  pub found : find (is_from s.newest) s.promises ≡ Some promise
  pub node : promise.shown.summary.node ≡ s.newest
  pub showed : (w.node s.newest).showed s.plan.epoch ≡ record_in promise.message.body

-- from the choice on, the node that is named showed a record that none of the members' exceeds
abbrev pub NewestIsShown : Type 0
NewestIsShown = (w : Memberships) (s : AttemptState) → IsReached s → MachineHas w s → s.phase ≡ Choosing → HasNewest w s.plan.epoch s.newest × NewestPromise w s

-- an install is a count, under each setting whose votes of the newest record are those given
abbrev pub InstallsAreCounts : Type 0
InstallsAreCounts = (S : Setting) (w : Memberships) (s : AttemptState) (c : Call) (i : Install) (both : BothVotes)
    → IsReached s → May s c → installs_in (turn s c).steps ≡ Some i → MachineHas w (turn s c).after
    → (turn s c).after.votes ≡ Some both → AreVotesOf S ((w.node (turn s c).after.newest).showed (turn s c).after.plan.epoch) both
    → IsCount S w (turn s c).after i

-- the machine may start it: every member is ready, and it was counted before, as the next two laws say
abbrev pub StartsAreReady : Type 0
StartsAreReady = (w : Memberships) (s : AttemptState) (c : Call) → IsReached s → May s c → starts_in (turn s c).steps ≡ true
    → MachineHas w (turn s c).after → AllReady w (turn s c).after.plan.epoch

-- a start comes only after an install ..
abbrev pub StartsFollow : Type 0
StartsFollow = (s : AttemptState) (c : Call) → IsReached s → May s c → starts_in (turn s c).steps ≡ true → s.phase ≡ Installing

-- .. since nothing else leads to where one may come
abbrev pub InstallsComeFirst : Type 0
InstallsComeFirst = (s : AttemptState) (c : Call) → IsReached s → May s c → (turn s c).after.phase ≡ Installing
    → (s.phase ≡ Installing) ⊎ IsSome (installs_in (turn s c).steps)
