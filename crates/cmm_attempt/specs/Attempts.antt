-- An attempt, and what each call makes of it: the attempt after it, and the steps that it gives.
use Rattle.std.specs.Prelude.{ℕ, ◌+◌, ◌%◌, ◌==◌, ◌&&◌, ◌||◌, ◌++◌, ◌≡◌, ◌≤◌, Bool, true, false, not, nat_le, List, [], ◌∷◌, Option, Some, None, map, filter, option_map, length, if◌then◌else◌}
use Rattle.std.specs.List.{list_any, list_all, find, filter_map}
use Rattle.quorum_votes.specs.Tables.{VoteTable}
use Rattle.seize.specs.declared.kind.SeizeKind.{SeizeKind}
use Rattle.cl_base.specs.Seizings.{SeizeResult}
use Rattle.cl_base.specs.declared.seizing.SeizeEnd.TheVariants as told
use Rattle.wire.specs.declared.message.Body.{Body}
use Rattle.wire.specs.declared.message.Body.TheVariants as body
use Rattle.wire.specs.declared.message.Message.{Message}
use Rattle.wire.specs.declared.message.Install.{Install}
use Rattle.cmm_attempt.specs.declared.attached.AttachedDevice.{AttachedDevice}
use Rattle.cmm_attempt.specs.declared.plan.Plan.{Plan}
use Rattle.cmm_attempt.specs.declared.promised.Promised.{Promised}
use Rattle.cmm_attempt.specs.declared.promised.Shown.{Shown}
use Rattle.cmm_attempt.specs.declared.seizing.Seizing.{Seizing}
use Rattle.cmm_attempt.specs.declared.counting.BothVotes.{BothVotes}
use Rattle.cmm_attempt.specs.declared.phase.Phase.{Phase}
use Rattle.cmm_attempt.specs.declared.phase.Phase.TheVariants.{Collecting, Choosing, SeizingVotes, SeizingOthers, Installing, Over}
use Rattle.cmm_attempt.specs.declared.phase.Readied.{Readied}
use Rattle.cmm_attempt.specs.declared.step.Step.{Step}
use Rattle.cmm_attempt.specs.declared.step.Step.TheVariants.{NeedVotes, InstallHere, StartHere, Ended}
use Rattle.cmm_attempt.specs.declared.step.AttemptEnd.{AttemptEnd}
use Rattle.cmm_attempt.specs.declared.step.AttemptEnd.TheVariants.{Superseded, Silent, Foreign, Excluded}
use Rattle.cl_base.specs.Limits.{most_nodes}
use Rattle.cl_base.specs.Numbers.{numbers_to}
use Rattle.cmm_attempt.specs.Plans.{others_of}
use Rattle.cmm_attempt.specs.Promises.{shown_by, promised_by, is_from, has_promised, newest_shown, first_left_out}
use Rattle.wire.specs.Kinds.{is_promise, is_ready}
use Rattle.cmm_attempt.specs.Seizings.{awaits, awaits_from, all_settled, with_result, with_next, next_by, held_set, request, request_for, again_for, plain_new}
use Rattle.cmm_attempt.specs.Counts.{first_foreign, first_short, reached_set, vote_new, votes_end}
use Rattle.cmm_attempt.specs.Installs.{install_of, send_collect, send_install, send_start}

pub record AttemptState : Type 0 where
  pub plan : Plan
  -- the Promises that were taken, in order, the coordinator's own first
  pub promises : List Promised
  -- the node with the newest record, once all have promised
  pub newest : ℕ
  -- the votes that were given
  pub votes : Option BothVotes
  -- the devices that are to be seized
  pub devices : List Seizing
  -- the devices that were held when the votes were found enough
  pub counted : ℕ
  -- the Readies that were taken, in order
  pub readies : List Readied
  pub own_ready : Bool
  pub phase : Phase
  -- the ticks since the phase began or a message of it was first sent; 8 stands for more, too
  pub ticks : ℕ

pub record Turn : Type 0 where
  pub after : AttemptState
  pub steps : List Step

abbrev pub with_steps : AttemptState → List Step → Turn
with_steps s steps = record { after = s; steps = steps }

-- nothing is to be done
abbrev pub waits : AttemptState → Turn
waits s = with_steps s []

abbrev pub ends : AttemptState → AttemptEnd → Turn
ends s e = with_steps (record s { phase = Over }) (Ended e ∷ [])

abbrev pub is_over : Phase → Bool
is_over Over = true
is_over Collecting = false
is_over Choosing = false
is_over SeizingVotes = false
is_over SeizingOthers = false
is_over Installing = false

-- Answers that are missing.

abbrev pub has_readied : List Readied → ℕ → Bool
has_readied readies n = list_any (λ r. r.node == n) readies

-- the node's Ready is missing, or the coordinator's own part
abbrev pub is_unready : AttemptState → ℕ → Bool
is_unready s n = if n == s.plan.coordinator then not s.own_ready else not (has_readied s.readies n)

abbrev pub is_missing_in : AttemptState → ℕ → Phase → Bool
is_missing_in s n Collecting = not (has_promised s.promises n)
is_missing_in s n Choosing = false
is_missing_in s n SeizingVotes = list_any (awaits_from n) s.devices
is_missing_in s n SeizingOthers = list_any (awaits_from n) s.devices
is_missing_in s n Installing = is_unready s n
is_missing_in s n Over = false

-- the node's answer is missing
abbrev pub is_missing : AttemptState → ℕ → Bool
is_missing s n = is_missing_in s n s.phase

-- the other members whose answer is missing, ascending
abbrev pub silent_others : AttemptState → List ℕ
silent_others s = filter (λ n. not (n == s.plan.coordinator) && is_missing s n) s.plan.nodes

-- Starting: with every Ready, and with the coordinator's own part done.

-- each other member's Ready was taken
abbrev pub all_ready : AttemptState → Bool
all_ready s = list_all (λ n. (n == s.plan.coordinator) || has_readied s.readies n) s.plan.nodes

unfoldable pub starting : AttemptState → Turn
starting s =
    if s.own_ready && all_ready s
    then with_steps (record s { phase = Over }) (StartHere ∷ map (send_start s.plan) (others_of s.plan))
    else waits s

-- Installing: the coordinator first, then the others.

abbrev pub install_in : AttemptState → Install
install_in s = install_of s.plan s.promises s.newest s.devices

abbrev pub installs : AttemptState → List Step
installs s = map (send_install s.plan (install_in s)) (silent_others s)

abbrev pub in_phase : AttemptState → Phase → AttemptState
in_phase s phase = record s { phase = phase; ticks = 0 }

abbrev pub installed : AttemptState → Turn
installed s = with_steps s (InstallHere (install_in s) ∷ installs s)

unfoldable pub installing : AttemptState → Turn
installing s = installed (in_phase s Installing)

-- Seizing the other devices, all at once.

abbrev pub plain_devices : AttemptState → List Seizing
plain_devices s = filter_map (plain_new s.plan s.devices) s.plan.attached

abbrev pub asked_plain : AttemptState → List Seizing → Turn
asked_plain s more =
    if length more == 0 then installing s
    else with_steps (record (in_phase s SeizingOthers) { devices = s.devices ++ more }) (filter_map (request_for s.plan) more)

unfoldable pub seizing_others : AttemptState → Turn
seizing_others s = asked_plain s (plain_devices s)

-- Counting under both votes, with the quorum devices that are held.

abbrev pub ended_by : AttemptState → ℕ → Option VoteTable → Option AttemptEnd
ended_by s devices None = None
ended_by s devices (Some v) = Some (votes_end s.plan s.devices devices v)

abbrev pub shortage_under : AttemptState → ℕ → Option BothVotes → Option AttemptEnd
shortage_under s devices None = None
shortage_under s devices (Some both) = ended_by s devices (first_short both s.plan.members devices)

-- the end for want of votes, where these devices are held
abbrev pub shortage : AttemptState → ℕ → Option AttemptEnd
shortage s devices = shortage_under s devices s.votes

abbrev pub counted_by : AttemptState → Option AttemptEnd → Turn
counted_by s (Some e) = ends s e
counted_by s None = seizing_others (record s { counted = held_set s.devices })

unfoldable pub counting : AttemptState → Turn
counting s = counted_by s (shortage s (held_set s.devices))

-- what follows where all seizings of the phase have ended
abbrev pub settled_in : AttemptState → Phase → Turn
settled_in s SeizingVotes = counting s
settled_in s SeizingOthers = installing s
settled_in s Collecting = waits s
settled_in s Choosing = waits s
settled_in s Installing = waits s
settled_in s Over = waits s

unfoldable pub proceeding : AttemptState → Turn
proceeding s = if all_settled s.devices then settled_in s s.phase else waits s

-- A seizing ends, or the next member is asked.

unfoldable pub settled : AttemptState → ℕ → SeizeResult → Turn
settled s d r = proceeding (record s { devices = map (with_result d r) s.devices })

unfoldable pub asked_next : AttemptState → ℕ → SeizeKind → ℕ → Turn
asked_next s d kind n =
    with_steps (record s { devices = map (with_next d n) s.devices; ticks = 0 }) (request s.plan kind d n ∷ [])

abbrev pub next_asked : AttemptState → ℕ → SeizeResult → Seizing → Option ℕ → Turn
next_asked s d r e None = settled s d r
next_asked s d r e (Some n) = asked_next s d e.kind n

abbrev pub answered_on : AttemptState → ℕ → SeizeResult → Option Seizing → Turn
answered_on s d r None = waits s
answered_on s d r (Some e) = next_asked s d r e (next_by s.plan.cluster s.promises s.plan.nodes e e.kind r)

-- the node's answer on the device, where it is awaited
unfoldable pub answering : AttemptState → ℕ → ℕ → SeizeResult → Turn
answering s d from r = answered_on s d r (find (awaits d from) s.devices)

abbrev pub answering_in : AttemptState → ℕ → ℕ → SeizeResult → Phase → Turn
answering_in s d from r SeizingVotes = answering s d from r
answering_in s d from r SeizingOthers = answering s d from r
answering_in s d from r Collecting = waits s
answering_in s d from r Choosing = waits s
answering_in s d from r Installing = waits s
answering_in s d from r Over = waits s

-- The votes are given: is each member configured, and none left out? Are they enough with every device that a member reaches?

unfoldable pub asked_votes : AttemptState → Turn
asked_votes s = if all_settled s.devices then counting s else with_steps s (filter_map (request_for s.plan) s.devices)

abbrev pub vote_entries_under : AttemptState → Option BothVotes → List Seizing
vote_entries_under s None = []
vote_entries_under s (Some both) = filter_map (vote_new s.plan s.promises both) s.plan.attached

-- the seizings of the quorum devices
abbrev pub vote_entries : AttemptState → List Seizing
vote_entries s = vote_entries_under s s.votes

unfoldable pub seizing_votes : AttemptState → Turn
seizing_votes s = asked_votes (record s { devices = vote_entries s })

abbrev pub possible : AttemptState → Option AttemptEnd → Turn
possible s (Some e) = ends s e
possible s None = seizing_votes s

abbrev pub voted : AttemptState → Turn
voted s = possible s (shortage s (reached_set s.plan))

-- no member is foreign: one that the newest record left out ends it
abbrev pub known : AttemptState → Option ℕ → Turn
known s (Some m) = ends s (Excluded m)
known s None = voted s

unfoldable pub knowing : AttemptState → Turn
knowing s = known s (first_left_out s.promises s.plan.nodes (newest_shown s.promises))

-- a member that is not configured ends it
abbrev pub admitted : AttemptState → Option ℕ → Turn
admitted s (Some m) = ends s (Foreign m)
admitted s None = knowing s

unfoldable pub voting : AttemptState → BothVotes → Turn
voting s both = admitted (record (in_phase s SeizingVotes) { votes = Some both; devices = [] }) (first_foreign both s.plan.nodes)

-- Choosing the newest record.

abbrev pub chosen : AttemptState → Shown → Turn
chosen s newest = with_steps (record (in_phase s Choosing) { newest = newest.summary.node }) (NeedVotes newest.summary.node ∷ [])

abbrev pub chosen_by : AttemptState → Option Shown → Turn
chosen_by s None = waits s
chosen_by s (Some newest) = chosen s newest

unfoldable pub choosing : AttemptState → Turn
choosing s = chosen_by s (newest_shown s.promises)

-- Collecting.

abbrev pub all_promised : AttemptState → Bool
all_promised s = list_all (has_promised s.promises) s.plan.nodes

abbrev pub collects : AttemptState → List Step
collects s = map (send_collect s.plan) (silent_others s)

abbrev pub first_state : ℕ → ℕ → Message → List AttachedDevice → ℕ → List Promised → AttemptState
first_state p members own attached cluster promises = record {
  plan = record { epoch = p; coordinator = own.sender; members = members; nodes = numbers_to members most_nodes; attached = attached; cluster = cluster };
  promises = promises;
  newest = own.sender;
  votes = None;
  devices = [];
  counted = 0;
  readies = [];
  own_ready = false;
  phase = Collecting;
  ticks = 0;
}

abbrev pub promises_of : Option Promised → List Promised
promises_of None = []
promises_of (Some p) = p ∷ []

abbrev pub begun : AttemptState → Turn
begun s = if all_promised s then choosing s else with_steps s (collects s)

-- the attempt of epoch p among these members begins: Collects, or where the coordinator is alone the next phase
unfoldable pub beginning : ℕ → ℕ → Message → List AttachedDevice → ℕ → Turn
beginning p members own attached cluster =
    begun (first_state p members own attached cluster (promises_of (promised_by own (shown_by own.sender own.body))))

-- the Promise of this member is awaited
abbrev pub awaits_promise : AttemptState → ℕ → Phase → Bool
awaits_promise s n Collecting = list_any (λ m. m == n) s.plan.nodes && not (has_promised s.promises n)
awaits_promise s n Choosing = false
awaits_promise s n SeizingVotes = false
awaits_promise s n SeizingOthers = false
awaits_promise s n Installing = false
awaits_promise s n Over = false

abbrev pub gathered : AttemptState → Turn
gathered s = if all_promised s then choosing s else waits s

abbrev pub with_promise : AttemptState → Option Promised → Turn
with_promise s None = waits s
with_promise s (Some p) = gathered (record s { promises = s.promises ++ p ∷ [] })

unfoldable pub promising : AttemptState → ℕ → Message → Turn
promising s from m = if awaits_promise s from s.phase then with_promise s (promised_by m (shown_by from m.body)) else waits s

-- A Ready.

abbrev pub awaits_ready : AttemptState → ℕ → Phase → Bool
awaits_ready s n Installing = list_any (λ m. m == n) s.plan.nodes && not (n == s.plan.coordinator) && not (has_readied s.readies n)
awaits_ready s n Collecting = false
awaits_ready s n Choosing = false
awaits_ready s n SeizingVotes = false
awaits_ready s n SeizingOthers = false
awaits_ready s n Over = false

unfoldable pub readying : AttemptState → ℕ → Message → Turn
readying s from m =
    if awaits_ready s from s.phase && is_ready m.body
    then starting (record s { readies = s.readies ++ record { node = from; message = m } ∷ [] })
    else waits s

-- A message of this node. One of another epoch is not taken.

abbrev pub is_of : ℕ → Body → Bool
is_of p (body.Promise epoch installed members valid flagged committed pending) = epoch == p
is_of p (body.Nack epoch promised) = epoch == p
is_of p (body.Seized epoch device outcome) = epoch == p
is_of p (body.Ready epoch joined report) = epoch == p
is_of p _ = false

abbrev pub taken : AttemptState → ℕ → Message → Body → Turn
taken s from m (body.Promise epoch installed members valid flagged committed pending) = promising s from m
taken s from m (body.Nack epoch promised) = ends s (Superseded promised)
taken s from m (body.Seized epoch device outcome) = answering_in s device from outcome s.phase
taken s from m (body.Ready epoch joined report) = readying s from m
taken s from m _ = waits s

unfoldable pub taking : AttemptState → ℕ → Message → Turn
taking s from m = if not (is_over s.phase) && is_of s.plan.epoch m.body then taken s from m m.body else waits s

-- The coordinator's own part.

abbrev pub own_readying_in : AttemptState → Phase → Turn
own_readying_in s Installing = starting (record s { own_ready = true })
own_readying_in s Collecting = waits s
own_readying_in s Choosing = waits s
own_readying_in s SeizingVotes = waits s
own_readying_in s SeizingOthers = waits s
own_readying_in s Over = waits s

unfoldable pub own_readying : AttemptState → Turn
own_readying s = own_readying_in s s.phase

unfoldable pub own_answering : AttemptState → ℕ → SeizeResult → Turn
own_answering s d r = answering_in s d s.plan.coordinator r s.phase

-- A tick: at the fourth the phase's message goes again to each that has not answered, from the eighth on a missing answer ends
-- the attempt.

abbrev pub again_in : AttemptState → Phase → List Step
again_in s Collecting = collects s
again_in s Choosing = []
again_in s SeizingVotes = filter_map (again_for s.plan) s.devices
again_in s SeizingOthers = filter_map (again_for s.plan) s.devices
again_in s Installing = installs s
again_in s Over = []

abbrev pub silenced : AttemptState → Option ℕ → Turn
silenced s None = waits s
silenced s (Some m) = ends s (Silent m)

abbrev pub ticked : AttemptState → Turn
ticked s =
    if nat_le 8 s.ticks then silenced s (find (is_missing s) s.plan.nodes)
    else (if s.ticks == 4 then with_steps s (again_in s s.phase) else waits s)

abbrev pub later : ℕ → ℕ
later ticks = if nat_le 8 ticks then 8 else ticks + 1

unfoldable pub ticking : AttemptState → Turn
ticking s = if is_over s.phase then waits s else ticked (record s { ticks = later s.ticks })

-- What callers know.

-- the message is the Promise of epoch p of its coordinator
abbrev pub IsPromiseOf : ℕ → Message → Type 0
IsPromiseOf p m = (m.sender ≡ p % 64) × (is_promise m.body ≡ true) × (is_of p m.body ≡ true)

abbrev pub FitsKeys : SeizeResult → Type 0
FitsKeys (told.Held keys) = length keys ≤ 32
FitsKeys (told.NotRegistered keys) = length keys ≤ 32
FitsKeys _ = Unit {0}

-- a Seized has at most as many keys as a list of keys holds
abbrev pub HasFewKeys : Body → Type 0
HasFewKeys (body.Seized epoch device outcome) = FitsKeys outcome
HasFewKeys _ = Unit {0}

-- the installed epoch of the newest record: the coordinator's own until all have promised
abbrev pub newest_installed : AttemptState → Option ℕ
newest_installed s = option_map (λ p. p.shown.summary.installed) (find (is_from s.newest) s.promises)

-- the messages that were taken
abbrev pub promise_from : AttemptState → ℕ → Option Message
promise_from s n = option_map (λ p. p.message) (find (is_from n) s.promises)

-- the Promise with the newest record: the coordinator's own until all have promised
abbrev pub newest_promise : AttemptState → Option Message
newest_promise s = promise_from s s.newest

abbrev pub ready_from : AttemptState → ℕ → Option Message
ready_from s n = option_map (λ r. r.message) (find (λ r. r.node == n) s.readies)
