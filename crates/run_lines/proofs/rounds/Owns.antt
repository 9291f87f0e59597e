-- A node tells of no attempt but those that it coordinates, and of no install but its own.
use Rattle.std.specs.Prelude.{ℕ, ◌≡◌, List, [], ◌∷◌}
use Rattle.std.specs.List.{AllByRecursion}
use Rattle.std.proofs.Common.{refl}
use Rattle.ccr_commit.specs.Entries.{all_committed}
use Rattle.cl_base.specs.Limits.{most_nodes}
use Rattle.cl_base.specs.Numbers.{numbers_to}
use Rattle.cmm_attempt.specs.Attempts.{AttemptState}
use Rattle.cmm_attempt.specs.Calls.{turn}
use Rattle.cmm_member.specs.Records.{NodeRecord}
use Rattle.history.specs.Moment.{Moment}
use Rattle.history.specs.Setting.{coordinator}
use Rattle.node_model.specs.Attempts.{base_lines, starting_as}
use Rattle.node_model.specs.Entries.{unknown_lines}
use Rattle.node_model.specs.Presidents.{sent_to}
use Rattle.node_model.specs.declared.cluster.Cluster.{Cluster}
use Rattle.node_model.specs.declared.node.Node.{Node}
use Rattle.node_model.specs.declared.node.Node.TheVariants.{Down, Up}
use Rattle.node_model.specs.declared.node.UpNode.{UpNode}
use Rattle.node_model.specs.declared.output.Output.{Output}
use Rattle.node_model.specs.declared.output.Output.TheVariants.{Tells, Sends}
use Rattle.refinement.specs.Doings.{Act, Change, Doing, Site, adopted_by, effect, first_lines, given_all, gives, last_lines, said, saved_lines, site, start_lines, superseded_lines, write_lines}
use Rattle.refinement.specs.Doings.Act.{Accepts, Dates, Ends, Gives, Goes_on, Hears, Makes, Minds, Notes, Queues, Spreads, Stores, Takes, Ticks, Waits, Works, Writes}
use Rattle.refinement.specs.Doings.Change.{Acks, Admits, Commits, Counts, Distrusts, Installs, Leads, Prepares, Promises, Proposes, Sits, Starts}
use Rattle.refinement.specs.Doings.Doing.{Comes_up, Does, Forgets, Goes_down, Loses, Saves}
use Rattle.refinement.specs.Guards.{May, MayAct, MayAll, MayChange}
use Rattle.refinement.specs.Ties.{Delivered}
use Rattle.run_history.proofs.ContactCalm.{IsCalm, IsCalmAttempt}
use Rattle.run_history.proofs.ContactLines.{AllCalm, adopted_calm, bases_calm, ended_calm, superseded_calm, tick_sendable, unknown_calm, write_calm}
use Rattle.run_history.proofs.Lists.{both, mapped}
use Rattle.run_history.proofs.Ordinary.{GivesAside, IsAside}
use Rattle.run_history.proofs.Small.{AllSmall, IsSmall, IsSmallAct}
use Rattle.run_history.proofs.Walk.{Sendable}
use Rattle.status_report.specs.declared.attempt_entry.AttemptEntry.{AttemptEntry}
use Rattle.status_report.specs.declared.attempt_entry.AttemptEntry.TheVariants as attempt
use Rattle.status_report.specs.declared.entry.Entry.{Entry}
use Rattle.status_report.specs.declared.entry.Entry.TheVariants as entry
use Rattle.status_report.specs.declared.node_entry.NodeEntry.{NodeEntry}
use Rattle.status_report.specs.declared.node_entry.NodeEntry.TheVariants as note
use Rattle.wire.specs.declared.message.Body.{Body}

abbrev pub OwnNode : ℕ → ℕ → NodeEntry → Type 0
OwnNode n m (note.Installed e) = m ≡ n
OwnNode n m _ = Unit {0}

abbrev pub OwnAttempt : ℕ → AttemptEntry → Type 0
OwnAttempt n (attempt.Begun e members) = coordinator e ≡ n
OwnAttempt n _ = Unit {0}

abbrev pub OwnLine : ℕ → Entry → Type 0
OwnLine n (entry.Node m e) = OwnNode n m e
OwnLine n (entry.Attempt e) = OwnAttempt n e
OwnLine n _ = Unit {0}

abbrev pub OwnOut : ℕ → Output → Type 0
OwnOut n (Tells e) = OwnLine n e
OwnOut n (Sends to b) = Unit {0}

abbrev pub AllOwn : ℕ → List Output → Type 0
AllOwn n os = AllByRecursion (OwnOut n) os

-- ---- lists of lines

calm_attempt : (n : ℕ) (e : AttemptEntry) → IsCalmAttempt e → OwnAttempt n e
calm_attempt n (attempt.Begun e members) h = absurd h
calm_attempt n _ h = tt

calm_line : (n : ℕ) (e : Entry) → IsCalm e → OwnLine n e
calm_line n (entry.Node m (note.Installed e)) h = absurd h
calm_line n (entry.Node m _) h = tt
calm_line n (entry.Attempt e) h = calm_attempt n e h
calm_line n _ h = tt

calm_own : (n : ℕ) (os : List Output) → AllCalm os → AllOwn n os
calm_own n [] h = tt
calm_own n (Tells e ∷ os) h = (calm_line n e h.0, calm_own n os h.1)
calm_own n (Sends to b ∷ os) h = absurd h

sendable_own : (n : ℕ) (ms : List Moment) (os : List Output) → Sendable ms n os → AllOwn n os
sendable_own n ms [] h = tt
sendable_own n ms (Tells e ∷ os) h = (calm_line n e h.0, sendable_own n ms os h.1)
sendable_own n ms (Sends to b ∷ os) h = (tt, sendable_own n ms os h.1)

spread_own : (n receivers : ℕ) (b : Body) → AllOwn n (sent_to receivers b)
unfolding sent_to
spread_own n receivers b = mapped (OwnOut n) (λ k. Sends k b) (numbers_to receivers most_nodes) (λ k. tt)

aside_line : (n : ℕ) (e : Entry) → IsAside e → OwnLine n e
aside_line n (entry.Node m e) h = absurd h
aside_line n (entry.Attempt e) h = absurd h
aside_line n _ h = tt

asides_own : (n : ℕ) (os : List Output) → AllByRecursion GivesAside os → AllOwn n os
asides_own n [] h = tt
asides_own n (Tells e ∷ os) h = (aside_line n e h.0, asides_own n os h.1)
asides_own n (Sends to b ∷ os) h = (tt, asides_own n os h.1)

-- ---- changes

first_own : (n : ℕ) (change : Change) → AllOwn n (first_lines n change)
first_own n (Admits at command a d) = (tt, tt)
first_own n (Proposes s p text) = (tt, tt)
first_own n _ = tt

last_own : (c : Cluster) (n : ℕ) (told : Delivered) (x : UpNode) (change : Change) → MayChange c n told x change → AllOwn n (last_lines c n x change)
last_own c n told x (Promises p) may =
    both (OwnOut n) (superseded_lines p x.attempt) (unknown_lines n x.requests.waiting) (calm_own n (superseded_lines p x.attempt) (superseded_calm p x.attempt))
    (calm_own n (unknown_lines n x.requests.waiting) (unknown_calm n x.requests.waiting))
last_own c n told x (Leads p members) may = (may.1, calm_own n (unknown_lines n x.requests.waiting) (unknown_calm n x.requests.waiting))
last_own c n told x (Counts a k s i) may = (refl, tt)
last_own c n told x (Installs s i) may = (refl, tt)
last_own c n told x (Starts a k s) may =
    let t : AttemptState = (turn a k).after in
    let y : UpNode = starting_as c n x t s in
    both (OwnOut n) (start_lines t s) _ (tt, calm_own n (base_lines t.plan.epoch 0 (all_committed s.saved.entries).committed) (bases_calm t.plan.epoch 0 (all_committed s.saved.entries).committed))
    (both (OwnOut n) (adopted_by c t y) _ (calm_own n (adopted_by c t y) (adopted_calm c t y)) (tt, tt))
last_own c n told x (Sits s e) may = (tt, tt)
last_own c n told x (Distrusts d) may = tt
last_own c n told x (Admits at command a d) may = tt
last_own c n told x (Proposes s p text) may = tt
last_own c n told x (Acks s p q left text) may = (tt, tt)
last_own c n told x (Prepares s text) may = tt
last_own c n told x (Commits s) may = tt

-- ---- acts

act_own : (c : Cluster) (n : ℕ) (told : Delivered) (x : UpNode) (a : Act) → MayAct c n told x a → IsSmallAct a → AllOwn n (said c n x a)
act_own c n told x (Hears from b) may small = tt
act_own c n told x Ticks may small = (tt, sendable_own n [] _ (tick_sendable c [] n x))
act_own c n told x Waits may small = tt
act_own c n told x (Goes_on a k) may small = tt
act_own c n told x (Ends a e) may small = (calm_attempt n _ (ended_calm a.plan.epoch e), tt)
act_own c n told x (Queues a d kind) may small = tt
act_own c n told x (Accepts kind e members d) may small = tt
act_own c n told x (Takes at command a) may small = (tt, tt)
act_own c n told x (Stores d value a) may small = (tt, calm_own n (write_lines n x d value a) (write_calm n x d value a))
act_own c n told x (Writes to b) may small = (tt, tt)
act_own c n told x (Makes change) may small = both (OwnOut n) (first_lines n change) (last_lines c n x change) (first_own n change) (last_own c n told x change may.0)
act_own c n told x (Gives os) may small = asides_own n os small
act_own c n told x (Spreads receivers b) may small = spread_own n receivers b
act_own c n told x (Minds q p) may small = tt
act_own c n told x (Notes from place p) may small = tt
act_own c n told x (Dates now) may small = tt
act_own c n told x (Works w) may small = tt

-- ---- small steps

does_own : (c : Cluster) (n : ℕ) (told : Delivered) (node : Node) (disk : NodeRecord) (d : Doing) → May c n told (site node disk) d → IsSmall d → AllOwn n (gives c n (site node disk) d)
does_own c n told node disk Comes_up may small = (tt, tt)
does_own c n told node disk (Goes_down why) may small = (tt, tt)
does_own c n told Down disk (Does a) may small = absurd may
does_own c n told (Up x) disk (Does a) may small = act_own c n told x a may small
does_own c n told Down disk (Saves change) may small = absurd may
does_own c n told (Up x) disk (Saves change) may small =
    both (OwnOut n) (first_lines n change) (saved_lines c n x change) (first_own n change) (tt, last_own c n told x change may)
does_own c n told node disk (Loses change why) may small = both (OwnOut n) (first_lines n change) _ (first_own n change) (tt, tt)
does_own c n told node disk (Forgets change why) may small = both (OwnOut n) (first_lines n change) _ (first_own n change) (tt, tt)

pub all_own : (c : Cluster) (n : ℕ) (told : Delivered) (x : Site) (ds : List Doing) → MayAll c n told x ds → AllSmall ds → AllOwn n (given_all c n x ds)
all_own c n told x [] may small = tt
all_own c n told x (d ∷ ds) may small =
    both (OwnOut n) (gives c n x d) (given_all c n (effect c n x d) ds) (does_own c n told x.node x.disk d may.0 small.0) (all_own c n told (effect c n x d) ds may.1 small.1)
