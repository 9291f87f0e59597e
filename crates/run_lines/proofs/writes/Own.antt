-- The attempt of a node in each small step: its devices are apart, and who is ready is so.
use Rattle.std.specs.Prelude.{ℕ, ◌≡◌, false, List, [], Option, None, Some}
use Rattle.std.proofs.Common.{sym, subst, ◌∙◌}
use Rattle.attempt_laws.proofs.Stays.{plan_begins, plan_stays}
use Rattle.attempt_laws.specs.Asking.{AreApart, numbers_of}
use Rattle.cl_base.specs.Sets.{has}
use Rattle.cmm_attempt.proofs.Basics.{if_either}
use Rattle.cmm_attempt.specs.Attempts.{AttemptState}
use Rattle.cmm_attempt.specs.Calls.{Call, IsReached, Own_ready, turn}
use Rattle.cmm_attempt.specs.declared.plan.Plan.{Plan}
use Rattle.cmm_member.specs.Nodes.{NodeState}
use Rattle.cmm_member.specs.Records.{NodeRecord}
use Rattle.device_queue.specs.Queue.{after_answer, after_seize, joins}
use Rattle.device_queue.specs.declared.task.Task.{Task}
use Rattle.seize.specs.Seizing as seizing
use Rattle.node_model.specs.Attempts.{own_promise}
use Rattle.node_model.specs.Members.{rested_by}
use Rattle.node_model.specs.Seats.{promising, record_of}
use Rattle.node_model.specs.declared.cluster.Cluster.{Cluster}
use Rattle.node_model.specs.declared.node.Node.{Node}
use Rattle.node_model.specs.declared.node.Node.TheVariants.{Down, Up}
use Rattle.node_model.specs.declared.node.UpNode.{UpNode}
use Rattle.node_model.specs.declared.seat.Seat.{Seat}
use Rattle.node_model.specs.declared.seat.Seat.TheVariants.{Forming, Member}
use Rattle.refinement.proofs.Attempts.{may_be_called}
use Rattle.refinement.specs.Doings.{Act, Change, Doing, acted, changed, effect, site}
use Rattle.refinement.specs.Doings.Act.{Accepts, Dates, Ends, Gives, Goes_on, Hears, Makes, Minds, Notes, Queues, Spreads, Stores, Takes, Ticks, Waits, Works, Writes}
use Rattle.refinement.specs.Doings.Change.{Acks, Admits, Commits, Counts, Distrusts, Installs, Leads, Prepares, Promises, Proposes, Sits, Starts}
use Rattle.refinement.specs.Doings.Doing.{Comes_up, Does, Forgets, Goes_down, Loses, Saves}
use Rattle.refinement.specs.Facts.{Facts, OfSeat}
use Rattle.refinement.specs.Guards.{May, MayAct, MayCall, MayChange}
use Rattle.refinement.specs.Ties.{Delivered}
use Rattle.run_history.proofs.Held.{installing_before}
use Rattle.run_lines.specs.writes.Covers.{AttemptApart, NodeApart}
use Rattle.run_lines.specs.writes.Ready.{ActReady, CallReady, ChangeReady, DoingReady}
use Rattle.run_lines.specs.writes.Sites.{AttemptIn, FactsAt, HandReady, NodeReady, Ready}
use Rattle.run_lines.proofs.writes.Readied.{begun_so, counted, turned}
use Rattle.run_lines.proofs.writes.Tasks.{joins_seize, joins_taken}

-- ---- what is known of an attempt

pub reached_by : (x : UpNode) (a : AttemptState) → Facts x → x.attempt ≡ Some a → IsReached a
reached_by x a f own = by_seat x.seat (subst (λ o. OfSeat o x.seat) own f.attempt)
  where
    by_seat : (z : Seat) → OfSeat (Some a) z → IsReached a
    by_seat (Forming s) h = h.reached
    by_seat (Member s) h = absurd h

-- ---- apart

turned_apart : (c : Cluster) (told : Delivered) (a : AttemptState) (k : Call) (o : Option AttemptState) → o ≡ Some a → MayCall c told a k → AttemptApart o → AttemptApart (Some (turn a k).after)
turned_apart c told a k o own may h = subst (λ (p : Plan). AreApart (numbers_of p.attached)) (sym (plan_stays a k (may_be_called c told a k may))) (subst AttemptApart own h)

rested_apart : (x : UpNode) (p : ℕ) (o : Option AttemptState) → AttemptApart (rested_by (promising x p) o).attempt
rested_apart x p None = tt
rested_apart x p (Some a) = tt

change_apart : (c : Cluster) (n : ℕ) (told : Delivered) (x : UpNode) (ch : Change) → AreApart (numbers_of c.attached) → MayChange c n told x ch → AttemptApart x.attempt → AttemptApart (changed c n x ch).attempt
change_apart c n told x (Promises p) apart may h = rested_apart x p x.attempt
change_apart c n told x (Leads p members) apart may h =
    subst (λ z. AreApart (numbers_of z)) (sym (plan_begins p members (own_promise n (record (promising x p) { greatest = p }) p) c.attached c.id).of_attached) apart
change_apart c n told x (Counts a k s i) apart may h = turned_apart c told a k x.attempt may.0 may.2 h
change_apart c n told x (Starts a k s) apart may h = tt
change_apart c n told x (Installs s i) apart may h = h
change_apart c n told x (Sits s e) apart may h = h
change_apart c n told x (Distrusts d) apart may h = h
change_apart c n told x (Admits at command a d) apart may h = h
change_apart c n told x (Proposes s p text) apart may h = h
change_apart c n told x (Acks s p q left text) apart may h = h
change_apart c n told x (Prepares s text) apart may h = h
change_apart c n told x (Commits s) apart may h = h

act_apart : (c : Cluster) (n : ℕ) (told : Delivered) (x : UpNode) (a : Act) → AreApart (numbers_of c.attached) → MayAct c n told x a → AttemptApart x.attempt → AttemptApart (acted c n x a).attempt
act_apart c n told x (Goes_on a k) apart may h = turned_apart c told a k x.attempt may.0 may.1 h
act_apart c n told x (Ends a e) apart may h = tt
act_apart c n told x (Queues a d kind) apart may h =
    if_either (λ (z : UpNode). AttemptApart z.attempt) (has a.plan.members n)
    (record x { tasks = after_seize x.tasks d (seizing.begun kind a.plan.epoch a.plan.members n c.id (has (record_of x).valid d)) }) x h h
act_apart c n told x (Makes change) apart may h = change_apart c n told x change apart may.0 h
act_apart c n told x (Accepts kind e members d) apart may h = h
act_apart c n told x (Takes at command a) apart may h = h
act_apart c n told x (Hears from b) apart may h = h
act_apart c n told x Ticks apart may h = h
act_apart c n told x Waits apart may h = h
act_apart c n told x (Stores d value a) apart may h = h
act_apart c n told x (Writes to b) apart may h = h
act_apart c n told x (Gives os) apart may h = h
act_apart c n told x (Spreads receivers b) apart may h = h
act_apart c n told x (Minds q p) apart may h = h
act_apart c n told x (Notes from place p) apart may h = h
act_apart c n told x (Dates now) apart may h = h
act_apart c n told x (Works w) apart may h = h

pub doing_apart : (c : Cluster) (n : ℕ) (told : Delivered) (node : Node) (disk : NodeRecord) (d : Doing) → AreApart (numbers_of c.attached) → May c n told (site node disk) d → NodeApart node
    → NodeApart (effect c n (site node disk) d).node
doing_apart c n told Down disk Comes_up apart may h = tt
doing_apart c n told (Up x) disk Comes_up apart may h = absurd may
doing_apart c n told node disk (Goes_down why) apart may h = tt
doing_apart c n told Down disk (Does a) apart may h = absurd may
doing_apart c n told (Up x) disk (Does a) apart may h = act_apart c n told x a apart may h
doing_apart c n told Down disk (Saves ch) apart may h = absurd may
doing_apart c n told (Up x) disk (Saves ch) apart may h = change_apart c n told x ch apart may h
doing_apart c n told node disk (Loses ch why) apart may h = tt
doing_apart c n told node disk (Forgets ch why) apart may h = tt

-- ---- who is ready

-- with other tasks
other_tasks : (K : Ready) (old new : List Task) (o : Option AttemptState) → (joins old ≡ false → joins new ≡ false) → AttemptIn K old o → AttemptIn K new o
other_tasks K old new None none h = tt
other_tasks K old new (Some a) none h = record { readies = h.readies; before = h.before; own = λ is now. none (h.own is now) }

-- an attempt that installs has installed, so no Install comes
not_at_install : (K : Ready) (old new : List Task) (s : NodeState) (o : Option AttemptState) → OfSeat o (Forming s) → (s.saved.installed ≡ s.session → ⊥) → AttemptIn K old o → AttemptIn K new o
not_at_install K old new s None f never h = tt
not_at_install K old new s (Some a) f never h = record { readies = h.readies; before = h.before; own = λ is now. absurd (never (f.installed is ∙ f.epoch)) }

rested_in : (K : Ready) (tasks : List Task) (x : UpNode) (p : ℕ) (o : Option AttemptState) → AttemptIn K tasks (rested_by (promising x p) o).attempt
rested_in K tasks x p None = tt
rested_in K tasks x p (Some a) = tt

pub own_ready_so : (x : UpNode) (k : Call) → CallReady x k → k ≡ Own_ready → joins x.tasks ≡ false
own_ready_so x k h is = subst (CallReady x) is h

change_in : (K : Ready) (c : Cluster) (n : ℕ) (told : Delivered) (x : UpNode) (ch : Change) → Facts x → MayChange c n told x ch → HandReady K told → ChangeReady x ch → AttemptIn K x.tasks x.attempt
    → AttemptIn K (changed c n x ch).tasks (changed c n x ch).attempt
change_in K c n told x (Promises p) f may hand ready h = rested_in K (changed c n x (Promises p)).tasks x p x.attempt
change_in K c n told x (Leads p members) f may hand ready h = begun_so K [] p members (own_promise n (record (promising x p) { greatest = p }) p) c.attached c.id
change_in K c n told x (Counts a k s i) f may hand ready h =
    counted K c told x.tasks (changed c n x (Counts a k s i)).tasks a k i (reached_by x a f may.0) may.2 hand may.3 (subst (λ o. AttemptIn K x.tasks o) may.0 h)
change_in K c n told x (Installs s i) f may hand ready h =
    not_at_install K x.tasks (changed c n x (Installs s i)).tasks s x.attempt (subst (λ z. OfSeat x.attempt z) may.0 f.attempt) (λ is. may.4 (is ∙ may.3)) h
change_in K c n told x (Starts a k s) f may hand ready h = tt
change_in K c n told x (Admits at command a d) f may hand ready h = other_tasks K x.tasks (after_answer x.tasks a) x.attempt (joins_taken a x.tasks) h
change_in K c n told x (Sits s e) f may hand ready h = h
change_in K c n told x (Distrusts d) f may hand ready h = h
change_in K c n told x (Proposes s p text) f may hand ready h = h
change_in K c n told x (Acks s p q left text) f may hand ready h = h
change_in K c n told x (Prepares s text) f may hand ready h = h
change_in K c n told x (Commits s) f may hand ready h = h

act_in : (K : Ready) (c : Cluster) (n : ℕ) (told : Delivered) (x : UpNode) (a : Act) → Facts x → MayAct c n told x a → HandReady K told → ActReady x a → AttemptIn K x.tasks x.attempt
    → AttemptIn K (acted c n x a).tasks (acted c n x a).attempt
act_in K c n told x (Goes_on a k) f may hand ready h =
    let r : IsReached a = reached_by x a f may.0 in
    turned K c told x.tasks a k r may.1 hand (own_ready_so x k ready) (subst (λ o. AttemptIn K x.tasks o) may.0 h) (installing_before a k r (may_be_called c told a k may.1) may.2)
act_in K c n told x (Ends a e) f may hand ready h = tt
act_in K c n told x (Queues a d kind) f may hand ready h =
    let s : seizing.SeizeState = seizing.begun kind a.plan.epoch a.plan.members n c.id (has (record_of x).valid d) in
    if_either (λ (z : UpNode). AttemptIn K z.tasks z.attempt) (has a.plan.members n) (record x { tasks = after_seize x.tasks d s }) x
    (other_tasks K x.tasks (after_seize x.tasks d s) x.attempt (λ none. joins_seize x.tasks d s ∙ none) h) h
act_in K c n told x (Accepts kind e members d) f may hand ready h =
    let s : seizing.SeizeState = seizing.begun kind e members n c.id (has (record_of x).valid d) in
    other_tasks K x.tasks (after_seize x.tasks d s) x.attempt (λ none. joins_seize x.tasks d s ∙ none) h
act_in K c n told x (Takes at command a) f may hand ready h = other_tasks K x.tasks (after_answer x.tasks a) x.attempt (joins_taken a x.tasks) h
act_in K c n told x (Makes change) f may hand ready h = change_in K c n told x change f may.0 hand ready h
act_in K c n told x (Hears from b) f may hand ready h = h
act_in K c n told x Ticks f may hand ready h = h
act_in K c n told x Waits f may hand ready h = h
act_in K c n told x (Stores d value a) f may hand ready h = h
act_in K c n told x (Writes to b) f may hand ready h = h
act_in K c n told x (Gives os) f may hand ready h = h
act_in K c n told x (Spreads receivers b) f may hand ready h = h
act_in K c n told x (Minds q p) f may hand ready h = h
act_in K c n told x (Notes from place p) f may hand ready h = h
act_in K c n told x (Dates now) f may hand ready h = h
act_in K c n told x (Works w) f may hand ready h = h

pub doing_in : (K : Ready) (c : Cluster) (n : ℕ) (told : Delivered) (node : Node) (disk : NodeRecord) (d : Doing) → FactsAt n node disk → May c n told (site node disk) d → HandReady K told
    → DoingReady (site node disk) d → NodeReady K node → NodeReady K (effect c n (site node disk) d).node
doing_in K c n told Down disk Comes_up f may hand ready h = tt
doing_in K c n told (Up x) disk Comes_up f may hand ready h = absurd may
doing_in K c n told node disk (Goes_down why) f may hand ready h = tt
doing_in K c n told Down disk (Does a) f may hand ready h = absurd may
doing_in K c n told (Up x) disk (Does a) f may hand ready h = act_in K c n told x a f.0 may hand ready h
doing_in K c n told Down disk (Saves ch) f may hand ready h = absurd may
doing_in K c n told (Up x) disk (Saves ch) f may hand ready h = change_in K c n told x ch f.0 may hand ready h
doing_in K c n told node disk (Loses ch why) f may hand ready h = tt
doing_in K c n told node disk (Forgets ch why) f may hand ready h = tt
