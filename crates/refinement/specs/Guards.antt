-- When a node may take a small step: by its own state, by the packet that is delivered, and by its attempt alone. Of what is done at devices
-- nothing is asked here.
use Rattle.std.specs.Prelude.{ℕ, ◌+◌, ◌≡◌, ◌≢◌, ◌<◌, ◌≤◌, ◌%◌, ◌^◌, true, List, [], ◌∷◌, length, Option, None, Some, IsSome, is_some, Ok}
use Rattle.admin_commands.specs.declared.accepted.Accepted.TheVariants as accepted
use Rattle.admin_words.specs.Commands.{request_of}
use Rattle.admin_words.specs.declared.request.Request.TheVariants as wish
use Rattle.ccr_commit.specs.Entries.{texts_of}
use Rattle.ccr_tables.specs.declared.command.AdminCommand.TheVariants.{Change as Change_by}
use Rattle.ccr_tables.specs.declared.update.Update.{Update}
use Rattle.proposals.specs.Proposing.{is_prepared}
use Rattle.update_words.specs.Words.{words_of}
use Rattle.wire.specs.declared.message.Body.{Body}
use Rattle.wire.specs.declared.message.Body.TheVariants as body
use Rattle.cmm_attempt.specs.declared.phase.Phase.TheVariants.{Choosing, Installing}
use Rattle.cmm_attempt.specs.Attempts.{AttemptState, install_in}
use Rattle.cmm_attempt.specs.Calls.{Call, Own_ready, Own_seized, Take, Tick, With_votes, installs_in, starts_in, turn}
use Rattle.attempt_laws.specs.Machine.{is_member}
use Rattle.node_model.specs.declared.cluster.Cluster.{Cluster}
use Rattle.node_model.specs.declared.node.Node.{Node}
use Rattle.node_model.specs.declared.node.Node.TheVariants.{Down, Up}
use Rattle.node_model.specs.declared.node.UpNode.{UpNode}
use Rattle.node_model.specs.declared.output.Output.{Output}
use Rattle.node_model.specs.declared.output.Output.TheVariants.{Tells, Sends}
use Rattle.node_model.specs.declared.presidency.Presidency.{Presidency}
use Rattle.node_model.specs.declared.seat.Seat.TheVariants.{Forming, Member}
use Rattle.node_model.specs.Attempts.{promise_of, votes_in}
use Rattle.node_model.specs.Presidents.{checked, last_place}
use Rattle.node_model.specs.Seats as seats
use Rattle.node_model.specs.Seats.{installed_of, promised_of, record_of, session_of, version_of}
use Rattle.refinement.specs.Doings.{Act, Change, Doing, Site, acted, changed, effect}
use Rattle.refinement.specs.Doings.Act.{Accepts, Gives, Goes_on, Makes, Minds, Notes, Queues, Spreads, Writes}
use Rattle.refinement.specs.Doings.Change.{Acks, Admits, Commits, Counts, Distrusts, Installs, Leads, Prepares, Promises, Proposes, Sits, Starts}
use Rattle.refinement.specs.Doings.Doing.{Comes_up, Does, Forgets, Goes_down, Loses, Saves}
use Rattle.refinement.specs.Courses.{Course}
use Rattle.refinement.specs.Courses.Course.{Acts, Falls as Course_falls, Keeps, Stops}
use Rattle.refinement.specs.Ties.{Delivered, IsLog, ShowsLog}

-- The packet that is delivered says so.

abbrev pub Says : (Body → Type 0) → Delivered → Type 0
Says P None = ⊥
Says P (Some d) = P d.1.body

abbrev pub Asks : ℕ → Body → Type 0
Asks p (body.Collect e members) = e ≡ p
Asks p _ = ⊥

-- this message of this node is delivered
abbrev pub Comes : ℕ → Body → Delivered → Type 0
Comes from b None = ⊥
Comes from b (Some d) = (d.0 ≡ from) × (d.1.body ≡ b)

-- An attempt may take the call: it is what was delivered, with no bad list, or the votes under the newest record where they are asked for.
abbrev pub MayCall : Cluster → Delivered → AttemptState → Call → Type 0
MayCall c told a (Take from m) = (told ≡ Some (from, m)) × ShowsLog c m.body
MayCall c told a (With_votes both) = (both ≡ votes_in c a) × (a.phase ≡ Choosing)
MayCall c told a (Own_seized d r) = Unit {0}
MayCall c told a Own_ready = Unit {0}
MayCall c told a Tick = Unit {0}

-- as president it has accepted an update with this text
pub record IsAccepted (c : Cluster) (x : UpNode) (p : Presidency) (text : List ℕ) : Type 0 where
  pub asked_for : List ℕ
  pub request : Update
  pub update : Update
  pub read : request_of (version_of c) asked_for ≡ Ok (wish.Change request)
  pub checked_so : checked c x p (Change_by request) ≡ Ok (accepted.Change update)
  pub words : text ≡ words_of update

abbrev pub MayChange : Cluster → ℕ → Delivered → UpNode → Change → Type 0
MayChange c me told x (Promises p) = Says (Asks p) told × (promised_of x < p)
MayChange c me told x (Leads p members) = (promised_of x < p) × (p % 64 ≡ me) × (is_member members me ≡ true) × (p < 2 ^ 64)
MayChange c me told x (Counts a k s i) = (x.attempt ≡ Some a) × (x.seat ≡ Forming s) × MayCall c told a k × (installs_in (turn a k).steps ≡ Some i)
MayChange c me told x (Installs s i) =
    (x.seat ≡ Forming s) × Says (λ b. b ≡ body.Install i) told × (1 ≤ i.epoch) × (s.session ≡ i.epoch) × (s.saved.installed ≢ i.epoch) × (is_member i.members me ≡ true)
    × IsLog c i.committed i.pending
MayChange c me told x (Starts a k s) = (x.attempt ≡ Some a) × (x.seat ≡ Forming s) × MayCall c told a k × (starts_in (turn a k).steps ≡ true)
MayChange c me told x (Sits s e) = (x.seat ≡ Forming s) × Says (λ b. b ≡ body.Start e) told × (s.session ≡ e) × (s.saved.installed ≡ e)
MayChange c me told x (Distrusts d) = Unit {0}
MayChange c me told x (Admits at command a d) = Unit {0}
MayChange c me told x (Proposes s p text) =
    (x.presidency ≡ Some p) × (x.seat ≡ Member s) × (p.proposals.proposed ≡ None) × IsAccepted c x p text
MayChange c me told x (Acks s p q left text) =
    (x.presidency ≡ Some p) × (x.seat ≡ Member s) × (is_prepared p.proposals ≡ true) × (left.proposals.proposed ≡ None)
MayChange c me told x (Prepares s text) =
    (x.seat ≡ Member s) × Says (λ b. b ≡ body.Prepare s.session (length (texts_of s.saved.entries) + 1) text) told
    × IsLog c (texts_of s.saved.entries) (Some text)
MayChange c me told x (Commits s) =
    (x.seat ≡ Member s) × (is_some s.saved.entries.pending ≡ true) × Says (λ b. b ≡ body.Commit s.session (length s.saved.entries.committed + 1)) told

-- of its attempt, which is under way
abbrev pub OfAttempt : (AttemptState → Type 0) → Option AttemptState → Type 0
OfAttempt P None = ⊥
OfAttempt P (Some a) = P a

-- as president it has this text at this place, as pending; it has committed all up to this place
abbrev pub MayPrepare : UpNode → ℕ → ℕ → List ℕ → Type 0
MayPrepare x p place text = IsSome x.presidency × (p ≡ session_of x) × (place ≡ last_place x) × ((record_of x).entries.pending ≡ Some text)

abbrev pub MayCommit : UpNode → ℕ → ℕ → Type 0
MayCommit x p place = IsSome x.presidency × (p ≡ session_of x) × (place ≤ length (record_of x).entries.committed)

-- A message may be sent, and a heartbeat is none of these: a Promise is of the session, with its record; a Ready is of the session, which is installed; a Start is of
-- the session of a member; a Prepare and a Commit are of a president's updates, a Prepared of its own; the others are of its attempt.
abbrev pub MayWrite : UpNode → Body → Type 0
MayWrite x (body.Collect p members) = OfAttempt (λ a. (p ≡ a.plan.epoch) × (members ≡ a.plan.members)) x.attempt
MayWrite x (body.Promise p installed members valid flagged committed pending) =
    (0 < p) × (p ≡ session_of x) × (body.Promise p installed members valid flagged committed pending ≡ promise_of x p)
MayWrite x (body.Install i) = OfAttempt (λ a. (a.phase ≡ Installing) × (i ≡ install_in a)) x.attempt
MayWrite x (body.Ready p joined report) = (0 < p) × (p ≡ session_of x) × (p ≡ installed_of x)
MayWrite x (body.Start p) = (seats.is_member x.seat ≡ true) × (p ≡ session_of x)
MayWrite x (body.Prepare p place text) = MayPrepare x p place text
MayWrite x (body.Prepared p place) = (0 < p) × (p ≡ session_of x) × (p ≡ installed_of x) × (place ≤ last_place x)
MayWrite x (body.Commit p place) = MayCommit x p place
MayWrite x (body.Heartbeat promised session member) = ⊥
MayWrite x _ = Unit {0}

-- what tells nothing of memberships: lines, messages about requests, and orders
abbrev pub TellsNothing : Output → Type 0
TellsNothing (Tells e) = Unit {0}
TellsNothing (Sends to (body.Request p number text)) = Unit {0}
TellsNothing (Sends to (body.Answer p number text)) = Unit {0}
TellsNothing (Sends to (body.Order o)) = Unit {0}
TellsNothing (Sends to b) = ⊥

abbrev pub TellNothing : List Output → Type 0
TellNothing [] = Unit {0}
TellNothing (o ∷ os) = TellsNothing o × TellNothing os

-- what is proposed is the same
abbrev pub SameProposed : Option Presidency → Option Presidency → Type 0
SameProposed None None = Unit {0}
SameProposed (Some p) (Some q) = q.proposals.proposed ≡ p.proposals.proposed
SameProposed None (Some q) = ⊥
SameProposed (Some p) None = ⊥

abbrev pub MayAct : Cluster → ℕ → Delivered → UpNode → Act → Type 0
MayAct c me told x (Goes_on a k) = (x.attempt ≡ Some a) × MayCall c told a k × (installs_in (turn a k).steps ≡ None)
MayAct c me told x (Queues a d kind) = x.attempt ≡ Some a
MayAct c me told x (Accepts kind e members d) = e ≡ session_of x
MayAct c me told x (Writes to b) = MayWrite x b
MayAct c me told x (Makes change) = MayChange c me told x change × (record_of (changed c me x change) ≡ record_of x)
MayAct c me told x (Gives os) = TellNothing os
MayAct c me told x (Spreads receivers b) = MayWrite x b
MayAct c me told x (Minds q p) = SameProposed x.presidency p
MayAct c me told x (Notes from place p) = (x.presidency ≡ Some p) × Comes from (body.Prepared (session_of x) place) told
MayAct c me told x _ = Unit {0}

-- of a node that is up
abbrev pub OfUp : (UpNode → Type 0) → Node → Type 0
OfUp P Down = ⊥
OfUp P (Up x) = P x

abbrev pub IsDown : Node → Type 0
IsDown Down = Unit {0}
IsDown (Up x) = ⊥

abbrev pub May : Cluster → ℕ → Delivered → Site → Doing → Type 0
May c me told x Comes_up = IsDown x.node
May c me told x (Goes_down why) = OfUp (λ y. Unit {0}) x.node
May c me told x (Does a) = OfUp (λ y. MayAct c me told y a) x.node
May c me told x (Saves change) = OfUp (λ y. MayChange c me told y change) x.node
May c me told x (Loses change why) = OfUp (λ y. MayChange c me told y change) x.node
May c me told x (Forgets change why) = OfUp (λ y. MayChange c me told y change) x.node

-- each of these, one after another
abbrev pub MayAll : Cluster → ℕ → Delivered → Site → List Doing → Type 0
MayAll c me told x [] = Unit {0}
MayAll c me told x (d ∷ ds) = May c me told x d × MayAll c me told (effect c me x d) ds

-- each small step of a course
abbrev pub MayGo : Cluster → ℕ → Delivered → UpNode → Course → Type 0
MayGo c me told x Stops = Unit {0}
MayGo c me told x (Acts a rest) = MayAct c me told x a × MayGo c me told (acted c me x a) rest
MayGo c me told x (Keeps change rest) = MayChange c me told x change × MayGo c me told (changed c me x change) rest
MayGo c me told x (Course_falls why) = Unit {0}
