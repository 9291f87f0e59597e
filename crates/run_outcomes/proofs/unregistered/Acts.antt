-- A node goes on: its tasks, what its attempt is told, and the own tasks that it was given last.
use Rattle.std.specs.Prelude.{ℕ, ◌≡◌, ◌≢◌, ◌<◌, ◌⊎◌, List, [], Option, None, Some}
use Rattle.std.proofs.Common.{refl, sym, subst, ◌∙◌, inl, inr}
use Rattle.attempt_laws.proofs.Stays.{plan_begins, plan_stays}
use Rattle.cl_base.specs.Sets.{has}
use Rattle.cl_base.specs.declared.header.Header.{Header}
use Rattle.cmm_attempt.proofs.Basics.{if_either}
use Rattle.cmm_attempt.specs.Attempts.{AttemptState}
use Rattle.cmm_attempt.specs.Calls.{Call, May, Own_ready, Own_seized, Take, Tick, With_votes, turn}
use Rattle.cmm_attempt.specs.declared.plan.Plan.{Plan}
use Rattle.cmm_attempt.specs.declared.step.Step.TheVariants as steps
use Rattle.device_queue.specs.Queue.{after_seize}
use Rattle.machine_base.proofs.Puts.{same_or_not}
use Rattle.node_model.specs.Attempts.{own_promise}
use Rattle.node_model.specs.Members.{rested_by}
use Rattle.node_model.specs.Seats.{promised_of, promising, record_of, session_of}
use Rattle.node_model.specs.declared.cluster.Cluster.{Cluster}
use Rattle.node_model.specs.declared.node.UpNode.{UpNode}
use Rattle.attempt_laws.specs.Staying.{IsBefore}
use Rattle.refinement.proofs.Attempts.{may_be_called, reached_more}
use Rattle.refinement.specs.Doings.{Act, Change, acted, changed}
use Rattle.refinement.specs.Doings.Act.{Accepts, Dates, Ends, Gives, Goes_on, Hears, Makes, Minds, Notes, Queues, Spreads, Stores, Takes, Ticks, Waits, Works, Writes}
use Rattle.refinement.specs.Doings.Change.{Acks, Admits, Commits, Counts, Distrusts, Installs, Leads, Prepares, Promises, Proposes, Sits, Starts}
use Rattle.refinement.specs.Guards.{MayAct, MayCall, MayChange, Says}
use Rattle.refinement.specs.Runs.{IsAmong, Letter}
use Rattle.refinement.specs.Ties.{Delivered}
use Rattle.run_history.proofs.Changes.{session_after}
use Rattle.run_history.specs.Guards.{AtCall, Hand, HasEnded, InHand, IsStep, MadeAt, hand_by, request_as}
use Rattle.run_seizings.proofs.Acts.{ActMay}
use Rattle.run_seizings.proofs.Promising.{ChangeMay}
use Rattle.seize.specs.Seizing as seizing
use Rattle.seize.specs.declared.kind.SeizeKind.{SeizeKind}
use Rattle.seize.specs.declared.kind.SeizeKind.TheVariants.{Plain, Vote}
use Rattle.run_outcomes.proofs.shown.Calls.{vote_stays}
use Rattle.run_outcomes.proofs.shown.Goes.{attempt_in, leads}
use Rattle.run_outcomes.proofs.unregistered.Entries.{TellsVotes, begun_kept, hand_kept, turn_kept}
use Rattle.run_outcomes.proofs.unregistered.Tasks.{answer_kept, ended_votes, joins_kept, seize_kept, tasks_with}
use Rattle.run_outcomes.specs.accounts.Unregistered.{AreAsked, AttemptKept, HandKept, TasksKept, TellsSo, UpKept}
use Rattle.run_outcomes.specs.phases.Kept.{In}
use Rattle.run_outcomes.specs.tasks.Shown.{AsksQuorum, AttemptSo, HandSent, IsVoteTo, UpSo}

-- ---- what an attempt is told

kept_in : (L : List Letter) (n : ℕ) (o : Option AttemptState) (a : AttemptState) → o ≡ Some a → In (AttemptKept L n) o → AttemptKept L n a
kept_in L n o a is k = subst (In (AttemptKept L n)) is k

vote_in : (d : ℕ) (o : Option AttemptState) (a : AttemptState) → o ≡ Some a → In (λ z. IsVoteTo z d) o → IsVoteTo a d
vote_in d o a is k = subst (In (λ z. IsVoteTo z d)) is k

-- what a node has in a step
pub record Here (L : List Letter) (n : ℕ) (told : Delivered) (x : UpNode) : Type 0 where
  pub asked : AreAsked L
  pub sent : HandSent L told
  pub so : UpSo L n x
  pub kept : UpKept L n x

call_votes : (L : List Letter) (c : Cluster) (n : ℕ) (told : Delivered) (x : UpNode) (a : AttemptState) (k : Call) → x.attempt ≡ Some a → MayCall c told a k → AtCall x k → Here L n told x → TellsVotes a k
call_votes L c n told x a (Take from m) is may at h d j keys tells = by_node (same_or_not from n)
  where
    so : AttemptSo L n (session_of x) a
    so = attempt_in L n (session_of x) x.attempt a is h.so.attempt

    letter : TellsSo L from a.plan.epoch d keys
    letter = subst (λ b. IsAmong from b L) tells.1 (subst (HandSent L) may.0 h.sent)

    by_node : (from ≡ n) ⊎ (from ≢ n) → IsVoteTo a d
    by_node (inl same) = (kept_in L n x.attempt a is h.kept.attempt).own d keys (subst (λ i. TellsSo L i a.plan.epoch d keys) same letter)
    by_node (inr other) = so.quorum d (h.asked from a.plan.epoch d keys (λ own. other (sym own ∙ so.own)) letter)
call_votes L c n told x a (Own_seized i r) is may at h d j keys tells =
    vote_in d x.attempt a is
    (ended_votes L n (session_of x) d x.attempt keys x.tasks (subst (λ y. HasEnded x.tasks d y) tells.1 (subst (λ y. HasEnded x.tasks y r) tells.0 at)) h.kept.tasks).own
call_votes L c n told x a (With_votes both) is may at h d j keys tells = absurd tells
call_votes L c n told x a Own_ready is may at h d j keys tells = absurd tells
call_votes L c n told x a Tick is may at h d j keys tells = absurd tells

turned_kept : (L : List Letter) (c : Cluster) (n : ℕ) (told : Delivered) (x : UpNode) (a : AttemptState) (k : Call) → x.attempt ≡ Some a → MayCall c told a k → AtCall x k → Here L n told x
    → AttemptKept L n (turn a k).after
turned_kept L c n told x a k is may at h =
    let old : AttemptKept L n a = kept_in L n x.attempt a is h.kept.attempt in
    let so : AttemptSo L n (session_of x) a = attempt_in L n (session_of x) x.attempt a is h.so.attempt in
    let calls : May a k = may_be_called c told a k may in
    record {
      entries = turn_kept a k so.reached (call_votes L c n told x a k is may at h) old.entries;
      own = λ d keys z. vote_stays a k d calls (old.own d keys (subst (λ (p : Plan). TellsSo L n p.epoch d keys) (plan_stays a k calls) z));
    }

-- ---- tasks of the same session

session_tasks : (L : List Letter) (n : ℕ) (x y : UpNode) → session_of y ≡ session_of x → TasksKept L n (session_of x) x.attempt x.tasks → TasksKept L n (session_of y) x.attempt x.tasks
session_tasks L n x y same k = subst (λ q. TasksKept L n q x.attempt x.tasks) (sym same) k

up_same : (L : List Letter) (n : ℕ) (x y : UpNode) → session_of y ≡ session_of x → y.tasks ≡ x.tasks → y.attempt ≡ x.attempt → UpKept L n x → UpKept L n y
up_same L n x y session tasks tries k = record {
  tasks = subst (λ ts. TasksKept L n (session_of y) y.attempt ts) (sym tasks) (subst (λ o. TasksKept L n (session_of y) o x.tasks) (sym tries) (session_tasks L n x y session k.tasks));
  attempt = subst (In (AttemptKept L n)) (sym tries) k.attempt;
}

-- its attempt takes a call
turned_tasks : (L : List Letter) (c : Cluster) (n q : ℕ) (told : Delivered) (x : UpNode) (a : AttemptState) (k : Call) → x.attempt ≡ Some a → MayCall c told a k → TasksKept L n q x.attempt x.tasks
    → TasksKept L n q (Some (turn a k).after) x.tasks
turned_tasks L c n q told x a k is may t =
    tasks_with L L n q q x.attempt (Some (turn a k).after) x.tasks (λ d v. record { asked = v.asked; own = vote_stays a k d (may_be_called c told a k may) (vote_in d x.attempt a is v.own) }) t

-- it has none any more
rested_tasks : (L : List Letter) (n q : ℕ) (x : UpNode) → TasksKept L n q x.attempt x.tasks → TasksKept L n q None x.tasks
rested_tasks L n q x t = tasks_with L L n q q x.attempt None x.tasks (λ d v. record { asked = v.asked; own = tt }) t

-- ---- changes

-- what a change asks beside
abbrev pub CallAt : UpNode → Change → Type 0
CallAt x (Counts a k s i) = AtCall x k
CallAt x _ = Unit {0}

made_call : (x : UpNode) (ch : Change) → MadeAt ch → CallAt x ch
made_call x (Counts a k s i) made = absurd made
made_call x _ made = tt

pub may_call : (h : Header) (x : UpNode) (ch : Change) → ChangeMay h x ch → CallAt x ch
may_call h x (Counts a k s i) may = may
may_call h x _ may = tt

-- no Seized of the node is of this number
abbrev pub NoneOf : List Letter → ℕ → ℕ → Type 0
NoneOf L n p = (d : ℕ) (keys : List ℕ) → TellsSo L n p d keys → ⊥

rested_kept : (L : List Letter) (n p : ℕ) (x : UpNode) (o : Option AttemptState) → UpKept L n (rested_by (promising x p) o)
rested_kept L n p x None = record { tasks = tt; attempt = tt }
rested_kept L n p x (Some a) = record { tasks = tt; attempt = tt }

pub change_kept : (L : List Letter) (c : Cluster) (n : ℕ) (told : Delivered) (x : UpNode) (ch : Change) → MayChange c n told x ch → CallAt x ch → ((p : ℕ) → promised_of x < p → NoneOf L n p) → Here L n told x
    → UpKept L n (changed c n x ch)
change_kept L c n told x (Promises p) may at fresh h = rested_kept L n p x x.attempt
change_kept L c n told x (Leads p members) may at fresh h =
    let z : UpNode = record (promising x p) { greatest = p } in
    record {
      tasks = tt;
      attempt = record {
        entries = begun_kept p members (own_promise n z p) c.attached c.id;
        own = λ d keys t. absurd (fresh p may.0 d keys (subst (λ q. TellsSo L n q d keys) (plan_begins p members (own_promise n z p) c.attached c.id).of_epoch t));
      };
    }
change_kept L c n told x (Counts a k s i) may at fresh h = record {
  tasks = joins_kept L c n (session_of (changed c n x (Counts a k s i))) n i.epoch _ (Some (turn a k).after) i.readings [] tt;
  attempt = turned_kept L c n told x a k may.0 may.2 at h;
}
change_kept L c n told x (Installs s i) may at fresh h = record {
  tasks = joins_kept L c n (session_of (changed c n x (Installs s i))) n i.epoch _ x.attempt i.readings x.tasks
      (session_tasks L n x (changed c n x (Installs s i)) (session_after c n told x (Installs s i) may tt (λ p e. cc)) h.kept.tasks);
  attempt = h.kept.attempt;
}
change_kept L c n told x (Starts a k s) may at fresh h = record {
  tasks = rested_tasks L n (session_of (changed c n x (Starts a k s))) x
      (session_tasks L n x (changed c n x (Starts a k s)) (session_after c n told x (Starts a k s) may tt (λ p e. cc)) h.kept.tasks);
  attempt = tt;
}
change_kept L c n told x (Sits s e) may at fresh h = up_same L n x (changed c n x (Sits s e)) (session_after c n told x (Sits s e) may tt (λ p e. cc)) refl refl h.kept
change_kept L c n told x (Distrusts d) may at fresh h = up_same L n x (changed c n x (Distrusts d)) (session_after c n told x (Distrusts d) may tt (λ p e. cc)) refl refl h.kept
change_kept L c n told x (Admits on command a d) may at fresh h = record {
  tasks = answer_kept L n (session_of (changed c n x (Admits on command a d))) x.attempt a x.tasks
      (session_tasks L n x (changed c n x (Admits on command a d)) (session_after c n told x (Admits on command a d) may tt (λ p e. cc)) h.kept.tasks);
  attempt = h.kept.attempt;
}
change_kept L c n told x (Proposes s p text) may at fresh h = up_same L n x (changed c n x (Proposes s p text)) (session_after c n told x (Proposes s p text) may tt (λ p e. cc)) refl refl h.kept
change_kept L c n told x (Acks s p q left text) may at fresh h =
    up_same L n x (changed c n x (Acks s p q left text)) (session_after c n told x (Acks s p q left text) may tt (λ p e. cc)) refl refl h.kept
change_kept L c n told x (Prepares s text) may at fresh h = up_same L n x (changed c n x (Prepares s text)) (session_after c n told x (Prepares s text) may tt (λ p e. cc)) refl refl h.kept
change_kept L c n told x (Commits s) may at fresh h = up_same L n x (changed c n x (Commits s)) (session_after c n told x (Commits s) may tt (λ p e. cc)) refl refl h.kept

-- ---- acts

-- a request of another for its votes has come
quorum_asked : (L : List Letter) (told : Delivered) (kind : SeizeKind) (e members d : ℕ) → HandSent L told → Says (λ b. b ≡ request_as kind e members d) told → kind ≡ Vote → AsksQuorum L e d
quorum_asked L None kind e members d sent says is = absurd says
quorum_asked L (Some x) Vote e members d sent says is = record { from = x.0; members = members; among = subst (λ b. IsAmong x.0 b L) says sent }
quorum_asked L (Some x) Plain e members d sent says is = absurd (no_vote is)
  where
    no_vote : Plain ≡ Vote → ⊥
    no_vote e = cc

asked_votes : (L : List Letter) (n e d : ℕ) (x : UpNode) (o : Option AttemptState) → x.attempt ≡ o → e ≡ session_of x → UpSo L n x → AsksQuorum L e d → In (λ a. IsVoteTo a d) o
asked_votes L n e d x None is session so asked = tt
asked_votes L n e d x (Some a) is session so asked =
    let z : AttemptSo L n (session_of x) a = attempt_in L n (session_of x) x.attempt a is so.attempt in z.quorum d (subst (λ q. AsksQuorum L q d) (session ∙ sym z.epoch) asked)

hand_vote : (g : Hand) (a : AttemptState) (d : ℕ) (kind : SeizeKind) → InHand (λ u. (u.after ≡ a) × IsBefore a.phase × IsStep (steps.SeizeHere d kind) u.steps) g → HandKept g → kind ≡ Vote → IsVoteTo a d
hand_vote None a d kind at hand is = absurd at
hand_vote (Some u) a d kind at hand is = subst (λ z. IsVoteTo z d) at.0 (hand d (subst (λ z. IsStep (steps.SeizeHere d z) u.steps) is at.2))

pub act_kept : (h : Header) (L : List Letter) (c : Cluster) (n : ℕ) (told : Delivered) (g : Hand) (x : UpNode) (a : Act) → MayAct c n told x a → ActMay h n told g x a → HandKept g → ((p : ℕ) → promised_of x < p → NoneOf L n p)
    → Here L n told x → UpKept L n (acted c n x a)
act_kept h L c n told g x (Goes_on b k) may at hand fresh z =
    record { tasks = turned_tasks L c n (session_of x) told x b k may.0 may.1 z.kept.tasks; attempt = turned_kept L c n told x b k may.0 may.1 at z }
act_kept h L c n told g x (Ends b end) may at hand fresh z = record { tasks = rested_tasks L n (session_of x) x z.kept.tasks; attempt = tt }
act_kept h L c n told g x (Queues b d kind) may at hand fresh z =
    if_either (UpKept L n) (has b.plan.members n) (record x { tasks = after_seize x.tasks d (seizing.begun kind b.plan.epoch b.plan.members n c.id (has (record_of x).valid d)) }) x
    (record {
      tasks = seize_kept L n (session_of x) d x.attempt kind b.plan.epoch b.plan.members n c.id (has (record_of x).valid d) x.tasks
          (λ vote. record { asked = λ other. absurd (other (leads L n x b may z.so)); own = subst (In (λ y. IsVoteTo y d)) (sym may) (hand_vote g b d kind at hand vote) }) z.kept.tasks;
      attempt = z.kept.attempt;
    }) z.kept
act_kept h L c n told g x (Accepts kind e members d) may at hand fresh z = record {
  tasks = seize_kept L n (session_of x) d x.attempt kind e members n c.id (has (record_of x).valid d) x.tasks
      (λ vote.
      let asks : AsksQuorum L e d = quorum_asked L told kind e members d z.sent at.0 vote in
      record { asked = λ other. subst (λ q. AsksQuorum L q d) may asks; own = asked_votes L n e d x x.attempt refl may z.so asks }) z.kept.tasks;
  attempt = z.kept.attempt;
}
act_kept h L c n told g x (Makes ch) may at hand fresh z = change_kept L c n told x ch may.0 (made_call x ch at) fresh z
act_kept h L c n told g x (Takes on command a) may at hand fresh z = record { tasks = answer_kept L n (session_of x) x.attempt a x.tasks z.kept.tasks; attempt = z.kept.attempt }
act_kept h L c n told g x (Hears from b) may at hand fresh z = up_same L n x (acted c n x (Hears from b)) refl refl refl z.kept
act_kept h L c n told g x Ticks may at hand fresh z = up_same L n x (acted c n x Ticks) refl refl refl z.kept
act_kept h L c n told g x Waits may at hand fresh z = up_same L n x (acted c n x Waits) refl refl refl z.kept
act_kept h L c n told g x (Stores d value a) may at hand fresh z = z.kept
act_kept h L c n told g x (Writes to b) may at hand fresh z = z.kept
act_kept h L c n told g x (Gives os) may at hand fresh z = z.kept
act_kept h L c n told g x (Spreads receivers b) may at hand fresh z = z.kept
act_kept h L c n told g x (Minds q p) may at hand fresh z = up_same L n x (acted c n x (Minds q p)) refl refl refl z.kept
act_kept h L c n told g x (Notes from place p) may at hand fresh z = up_same L n x (acted c n x (Notes from place p)) refl refl refl z.kept
act_kept h L c n told g x (Dates now) may at hand fresh z = up_same L n x (acted c n x (Dates now)) refl refl refl z.kept
act_kept h L c n told g x (Works w) may at hand fresh z = up_same L n x (acted c n x (Works w)) refl refl refl z.kept

-- the own tasks that it was given last
pub hand_acted : (L : List Letter) (c : Cluster) (n : ℕ) (told : Delivered) (g : Hand) (x : UpNode) (a : Act) → MayAct c n told x a → UpSo L n x → HandKept g → HandKept (hand_by g a)
hand_acted L c n told g x (Goes_on b k) may so hand =
    let calls : May b k = may_be_called c told b k may.1 in
    let reached : _ = (attempt_in L n (session_of x) x.attempt b may.0 so.attempt).reached in
    hand_kept b k reached calls (reached_more b k calls reached)
hand_acted L c n told g x _ may so hand = hand
