-- Small steps that follow an answer of a device leave a node no more commands than it had left.
use Rattle.std.specs.Prelude.{ℕ, ◌≡◌, ◌≤◌, Bool, true, false, List, [], ◌∷◌, Option, None, Some}
use Rattle.std.proofs.Common.{refl, sym, ap, subst, ◌∙◌, arith}
use Rattle.attempt_laws.specs.Staying.{IsBefore}
use Rattle.cl_base.specs.Sets.{has}
use Rattle.cmm_attempt.proofs.Basics.{if_either}
use Rattle.cmm_attempt.specs.Attempts.{AttemptState, Turn}
use Rattle.cmm_attempt.specs.Calls.{Call, IsReached, turn}
use Rattle.cmm_attempt.specs.declared.step.Step.TheVariants as step
use Rattle.cmm_member.specs.Records.{NodeRecord}
use Rattle.device_queue.specs.Queue.{after_join, after_seize, join_of, put_unless}
use Rattle.device_queue.specs.Tasks.{is_seizing}
use Rattle.device_queue.specs.declared.task.Task.{Task}
use Rattle.device_queue.specs.declared.task.Work.TheVariants.{Joining}
use Rattle.node_model.specs.Attempts.{is_to_join, joining_from, joining_with}
use Rattle.node_model.specs.Seats.{record_of}
use Rattle.node_model.specs.declared.cluster.Cluster.{Cluster}
use Rattle.node_model.specs.declared.node.Node.{Node}
use Rattle.node_model.specs.declared.node.Node.TheVariants.{Down, Up}
use Rattle.node_model.specs.declared.node.UpNode.{UpNode}
use Rattle.refinement.proofs.Attempts.{may_be_called, reached_more}
use Rattle.refinement.specs.Doings.{Act, Change, Doing, Site, acted, after_all, changed, effect, site}
use Rattle.refinement.specs.Doings.Act.{Accepts, Dates, Ends, Gives, Goes_on, Hears, Makes, Minds, Notes, Queues, Spreads, Stores, Takes, Ticks, Waits, Works, Writes}
use Rattle.refinement.specs.Doings.Change.{Acks, Admits, Commits, Counts, Distrusts, Installs, Leads, Prepares, Promises, Proposes, Sits, Starts}
use Rattle.refinement.specs.Doings.Doing.{Comes_up, Does, Forgets, Goes_down, Loses, Saves}
use Rattle.refinement.specs.Guards.{May, MayAct, MayAll, MayCall, MayChange}
use Rattle.run_history.proofs.Lists.{both}
use Rattle.run_history.specs.Guards.{AtAct, AtAll, AtChange, AtDoing, Hand, InHand, IsStep, MadeAt, hand_after}
use Rattle.seize.specs.Joining as joining
use Rattle.seize.specs.Seizing as seizing
use Rattle.seize.specs.declared.kind.SeizeKind.{SeizeKind}
use Rattle.wire.specs.declared.lists.Reading.{Reading}
use Rattle.run_lines.specs.few.Counts.{is_before, left_in, node_left, seizes}
use Rattle.run_lines.proofs.few.Courses.{AllFree, FreeChange, FreeDoing}
use Rattle.run_lines.proofs.few.Left.{NoSeizing, closed_left, joins_left, seize_left}
use Rattle.run_lines.proofs.few.Phases.{before_back, fewer_left, installs_now, is_before_so}

-- its attempt began, and came by calls to what it is
abbrev pub Tries : Option AttemptState → Type 0
Tries None = Unit {0}
Tries (Some a) = IsReached a

abbrev pub NodeTries : Node → Type 0
NodeTries Down = Unit {0}
NodeTries (Up x) = Tries x.attempt

tries_of : (o : Option AttemptState) (a : AttemptState) → o ≡ Some a → Tries o → IsReached a
tries_of o a is h = subst Tries is h

-- ---- an install brings joinings

put_joins : (o : Option Task) (t : Task) (ts : List Task) → is_seizing t.work ≡ false → NoSeizing ts → NoSeizing (put_unless o t ts)
put_joins None t ts is only = both (λ (z : Task). is_seizing z.work ≡ false) ts (t ∷ []) only (is, tt)
put_joins (Some u) t ts is only = only

joins_only : (c : Cluster) (me e had : ℕ) (ts : List Task) (rs : List Reading) → NoSeizing ts → NoSeizing (joining_from c me e had ts rs)
joins_only c me e had ts [] only = only
joins_only c me e had ts (r ∷ rs) only =
    joins_only c me e had (joining_with c me e had ts r) rs
    (if_either NoSeizing (is_to_join c me had r) (after_join ts r.device (joining.begun e me c.id)) ts
    (put_joins (join_of ts r.device) (record { device = r.device; work = Joining (joining.begun e me c.id) }) ts refl only) only)

installs_left : (word : ℕ → ℕ) (now was : Bool) (old new : List Task) → now ≡ false → was ≡ true → NoSeizing new → left_in word now new ≤ left_in word was old
installs_left word now was old new shut was_so only =
    subst (λ b. left_in word b new ≤ left_in word was old) (sym shut) (subst (λ b. left_in word false new ≤ left_in word b old) (sym was_so) (joins_left word old new only))

-- ---- what is left

no_more : (k : ℕ) → k ≤ k
no_more k = omega arith

seizes_so : (o : Option AttemptState) (a : AttemptState) → o ≡ Some a → is_before a.phase ≡ true → seizes o ≡ true
seizes_so o a is before = ap seizes is ∙ before

called_left : (word : ℕ → ℕ) (ts : List Task) (o : Option AttemptState) (a : AttemptState) (k : Call) (c : Cluster) → o ≡ Some a → MayCall c None a k
    → left_in word (is_before (turn a k).after.phase) ts ≤ left_in word (seizes o) ts
called_left word ts o a k c is may =
    fewer_left word ts (is_before (turn a k).after.phase) (seizes o) (λ now. seizes_so o a is (before_back a k (may_be_called c None a k may) now))

change_left : (c : Cluster) (n : ℕ) (word : ℕ → ℕ) (x : UpNode) (ch : Change) → MayChange c n None x ch → AtChange x ch → FreeChange ch → Tries x.attempt
    → node_left word (Up (changed c n x ch)) ≤ node_left word (Up x)
change_left c n word x (Promises p) may at free t = absurd may.0
change_left c n word x (Leads p members) may at free t = absurd free
change_left c n word x (Counts a k s i) may at free t =
    let now : (is_before a.phase ≡ true) × (is_before (turn a k).after.phase ≡ false) =
    installs_now a k i (tries_of x.attempt a may.0 t) (may_be_called c None a k may.2) may.3 in
    installs_left word (is_before (turn a k).after.phase) (seizes x.attempt) x.tasks (changed c n x (Counts a k s i)).tasks now.1 (seizes_so x.attempt a may.0 now.0)
    (joins_only c n i.epoch _ [] i.readings tt)
change_left c n word x (Installs s i) may at free t = absurd may.1
change_left c n word x (Starts a k s) may at free t = closed_left word x.tasks (seizes x.attempt)
change_left c n word x (Sits s e) may at free t = no_more (node_left word (Up x))
change_left c n word x (Distrusts d) may at free t = no_more (node_left word (Up x))
change_left c n word x (Admits on command a d) may at free t = absurd at
change_left c n word x (Proposes s p text) may at free t = no_more (node_left word (Up x))
change_left c n word x (Acks s p q left text) may at free t = no_more (node_left word (Up x))
change_left c n word x (Prepares s text) may at free t = no_more (node_left word (Up x))
change_left c n word x (Commits s) may at free t = no_more (node_left word (Up x))

made_free : (ch : Change) → MadeAt ch → FreeChange ch
made_free (Leads p members) h = absurd h
made_free (Starts a k s) h = tt
made_free (Sits s e) h = tt
made_free _ h = absurd h

made_at : (x : UpNode) (ch : Change) → MadeAt ch → AtChange x ch
made_at x (Starts a k s) h = tt
made_at x (Sits s e) h = tt
made_at x _ h = absurd h

before_in : (a : AttemptState) (d : ℕ) (kind : SeizeKind) (h : Hand) → InHand (λ (u : Turn). (u.after ≡ a) × IsBefore a.phase × IsStep (step.SeizeHere d kind) u.steps) h → IsBefore a.phase
before_in a d kind None k = absurd k
before_in a d kind (Some u) k = k.1

queues_left : (word : ℕ → ℕ) (ts : List Task) (b : Bool) (d : ℕ) (kind : SeizeKind) (epoch members me cluster : ℕ) (valid : Bool) → b ≡ true
    → left_in word b (after_seize ts d (seizing.begun kind epoch members me cluster valid)) ≤ left_in word b ts
queues_left word ts b d kind epoch members me cluster valid is =
    subst (λ z. left_in word z (after_seize ts d (seizing.begun kind epoch members me cluster valid)) ≤ left_in word z ts) (sym is) (seize_left word ts d kind epoch members me cluster valid)

act_left : (c : Cluster) (n : ℕ) (h : Hand) (word : ℕ → ℕ) (x : UpNode) (a : Act) → MayAct c n None x a → AtAct n None h x a → Tries x.attempt
    → node_left word (Up (acted c n x a)) ≤ node_left word (Up x)
act_left c n h word x (Hears from b) may at t = no_more (node_left word (Up x))
act_left c n h word x Ticks may at t = no_more (node_left word (Up x))
act_left c n h word x Waits may at t = no_more (node_left word (Up x))
act_left c n h word x (Goes_on b k) may at t = called_left word x.tasks x.attempt b k c may.0 may.1
act_left c n h word x (Ends b e) may at t = closed_left word x.tasks (seizes x.attempt)
act_left c n h word x (Queues b d kind) may at t =
    if_either (λ (y : UpNode). node_left word (Up y) ≤ node_left word (Up x)) (has b.plan.members n)
    (record x { tasks = after_seize x.tasks d (seizing.begun kind b.plan.epoch b.plan.members n c.id (has (record_of x).valid d)) }) x
    (queues_left word x.tasks (seizes x.attempt) d kind b.plan.epoch b.plan.members n c.id (has (record_of x).valid d)
    (seizes_so x.attempt b may (is_before_so b.phase (before_in b d kind h at))))
    (no_more (node_left word (Up x)))
act_left c n h word x (Accepts kind e members d) may at t = absurd at.0
act_left c n h word x (Takes on command a) may at t = absurd at
act_left c n h word x (Makes ch) may at t = change_left c n word x ch may.0 (made_at x ch at) (made_free ch at) t
act_left c n h word x (Stores d value a) may at t = no_more (node_left word (Up x))
act_left c n h word x (Writes to b) may at t = no_more (node_left word (Up x))
act_left c n h word x (Gives os) may at t = no_more (node_left word (Up x))
act_left c n h word x (Spreads receivers b) may at t = no_more (node_left word (Up x))
act_left c n h word x (Minds q p) may at t = no_more (node_left word (Up x))
act_left c n h word x (Notes from place p) may at t = no_more (node_left word (Up x))
act_left c n h word x (Dates now) may at t = no_more (node_left word (Up x))
act_left c n h word x (Works w) may at t = no_more (node_left word (Up x))

none_left : (k : ℕ) → 0 ≤ k
none_left k = omega arith

doing_left : (c : Cluster) (n : ℕ) (h : Hand) (word : ℕ → ℕ) (node : Node) (disk : NodeRecord) (d : Doing) → May c n None (site node disk) d → AtDoing n None h (site node disk) d → FreeDoing d → NodeTries node
    → node_left word (effect c n (site node disk) d).node ≤ node_left word node
doing_left c n h word node disk Comes_up may at free t = absurd free
doing_left c n h word node disk (Goes_down why) may at free t = none_left (node_left word node)
doing_left c n h word Down disk (Does a) may at free t = absurd may
doing_left c n h word (Up x) disk (Does a) may at free t = act_left c n h word x a may at t
doing_left c n h word Down disk (Saves ch) may at free t = absurd may
doing_left c n h word (Up x) disk (Saves ch) may at free t = change_left c n word x ch may at free t
doing_left c n h word node disk (Loses ch why) may at free t = none_left (node_left word node)
doing_left c n h word node disk (Forgets ch why) may at free t = none_left (node_left word node)

-- ---- the attempt is one of calls still

change_tries : (c : Cluster) (n : ℕ) (x : UpNode) (ch : Change) → MayChange c n None x ch → FreeChange ch → Tries x.attempt → Tries (changed c n x ch).attempt
change_tries c n x (Promises p) may free t = absurd may.0
change_tries c n x (Leads p members) may free t = absurd free
change_tries c n x (Counts a k s i) may free t = reached_more a k (may_be_called c None a k may.2) (tries_of x.attempt a may.0 t)
change_tries c n x (Installs s i) may free t = t
change_tries c n x (Starts a k s) may free t = tt
change_tries c n x (Sits s e) may free t = t
change_tries c n x (Distrusts d) may free t = t
change_tries c n x (Admits on command a d) may free t = t
change_tries c n x (Proposes s p text) may free t = t
change_tries c n x (Acks s p q left text) may free t = t
change_tries c n x (Prepares s text) may free t = t
change_tries c n x (Commits s) may free t = t

act_tries : (c : Cluster) (n : ℕ) (h : Hand) (x : UpNode) (a : Act) → MayAct c n None x a → AtAct n None h x a → Tries x.attempt → Tries (acted c n x a).attempt
act_tries c n h x (Goes_on b k) may at t = reached_more b k (may_be_called c None b k may.1) (tries_of x.attempt b may.0 t)
act_tries c n h x (Ends b e) may at t = tt
act_tries c n h x (Queues b d kind) may at t =
    if_either (λ (y : UpNode). Tries y.attempt) (has b.plan.members n)
    (record x { tasks = after_seize x.tasks d (seizing.begun kind b.plan.epoch b.plan.members n c.id (has (record_of x).valid d)) }) x t t
act_tries c n h x (Makes ch) may at t = change_tries c n x ch may.0 (made_free ch at) t
act_tries c n h x (Hears from b) may at t = t
act_tries c n h x Ticks may at t = t
act_tries c n h x Waits may at t = t
act_tries c n h x (Accepts kind e members d) may at t = t
act_tries c n h x (Takes on command a) may at t = t
act_tries c n h x (Stores d value a) may at t = t
act_tries c n h x (Writes to b) may at t = t
act_tries c n h x (Gives os) may at t = t
act_tries c n h x (Spreads receivers b) may at t = t
act_tries c n h x (Minds q p) may at t = t
act_tries c n h x (Notes from place p) may at t = t
act_tries c n h x (Dates now) may at t = t
act_tries c n h x (Works w) may at t = t

doing_tries : (c : Cluster) (n : ℕ) (h : Hand) (node : Node) (disk : NodeRecord) (d : Doing) → May c n None (site node disk) d → AtDoing n None h (site node disk) d → FreeDoing d → NodeTries node
    → NodeTries (effect c n (site node disk) d).node
doing_tries c n h node disk Comes_up may at free t = absurd free
doing_tries c n h node disk (Goes_down why) may at free t = tt
doing_tries c n h Down disk (Does a) may at free t = tt
doing_tries c n h (Up x) disk (Does a) may at free t = act_tries c n h x a may at t
doing_tries c n h Down disk (Saves ch) may at free t = tt
doing_tries c n h (Up x) disk (Saves ch) may at free t = change_tries c n x ch may free t
doing_tries c n h node disk (Loses ch why) may at free t = tt
doing_tries c n h node disk (Forgets ch why) may at free t = tt

-- ---- one after another

at_most : (a b k : ℕ) → a ≤ b → b ≤ k → a ≤ k
at_most a b k h l = omega (arith, h, l)

pub all_left : (c : Cluster) (n : ℕ) (h : Hand) (word : ℕ → ℕ) (x : Site) (ds : List Doing) → MayAll c n None x ds → AtAll c n None h x ds → AllFree ds → NodeTries x.node
    → node_left word (after_all c n x ds).node ≤ node_left word x.node
all_left c n h word x [] may at free t = no_more (node_left word x.node)
all_left c n h word x (d ∷ ds) may at free t =
    at_most (node_left word (after_all c n (effect c n x d) ds).node) (node_left word (effect c n x d).node) (node_left word x.node)
    (all_left c n (hand_after h d) word (effect c n x d) ds may.1 at.1 free.1 (doing_tries c n h x.node x.disk d may.0 at.0 free.0 t))
    (doing_left c n h word x.node x.disk d may.0 at.0 free.0 t)
