-- A node that has left the session of an epoch never comes to it again: it promises greater numbers alone, and a boot brings it to no session.
use Rattle.std.specs.Prelude.{ℕ, ◌<◌, ◌≡◌, ◌≢◌, ◌≤◌, Option, None, Some}
use Rattle.std.proofs.Common.{refl, sym, ap, subst, ◌∙◌, arith}
use Rattle.ccr_commit.specs.Entries.{all_committed, with_next}
use Rattle.cl_base.specs.Sets.{has, set_without}
use Rattle.cmm_attempt.proofs.Basics.{if_either}
use Rattle.cmm_attempt.specs.Attempts.{AttemptState}
use Rattle.cmm_member.specs.Nodes.{NodeState, with_entries, with_joined, with_valid}
use Rattle.cmm_member.specs.Records.{NodeRecord}
use Rattle.device_queue.specs.Queue.{after_seize}
use Rattle.membership_machine.specs.State.{Memberships}
use Rattle.node_model.specs.Members.{rested_by}
use Rattle.node_model.specs.Seats.{promised_of, promising, record_of, state_of, with_state}
use Rattle.node_model.specs.declared.cluster.Cluster.{Cluster}
use Rattle.node_model.specs.declared.node.Node.{Node}
use Rattle.node_model.specs.declared.node.Node.TheVariants.{Down, Up}
use Rattle.node_model.specs.declared.node.UpNode.{UpNode}
use Rattle.node_model.specs.declared.seat.Seat.{Seat}
use Rattle.node_model.specs.declared.seat.Seat.TheVariants.{Forming, Member}
use Rattle.refinement.specs.Doings.{Act, Change, Doing, acted, changed, effect, site}
use Rattle.refinement.specs.Doings.Act.{Accepts, Dates, Ends, Gives, Goes_on, Hears, Makes, Minds, Notes, Queues, Spreads, Stores, Takes, Ticks, Waits, Works, Writes}
use Rattle.refinement.specs.Doings.Change.{Acks, Admits, Commits, Counts, Distrusts, Installs, Leads, Prepares, Promises, Proposes, Sits, Starts}
use Rattle.refinement.specs.Doings.Doing.{Comes_up, Does, Forgets, Goes_down, Loses, Saves}
use Rattle.refinement.specs.Guards.{May, MayAct, MayChange}
use Rattle.refinement.specs.Ties.{Delivered, NodeTied}
use Rattle.run_attempts.proofs.Configured.{disk_own}
use Rattle.seize.specs.Seizing as seizing
use Rattle.run_outcomes.specs.panics.Sites.{IsPast}

-- what is past to a node with this state
record Left (s : NodeState) (e : ℕ) : Type 0 where
  promised : e ≤ s.saved.promised
  elsewhere : s.session ≢ e

-- another state with the same promise and session
record Same (s t : NodeState) : Type 0 where
  promised : t.saved.promised ≡ s.saved.promised
  session : t.session ≡ s.session

same_left : (s t : NodeState) (e : ℕ) → Same s t → Left s e → Left t e
same_left s t e same h = record {
  promised = subst (λ k. e ≤ k) (sym same.promised) h.promised;
  elsewhere = λ at. h.elsewhere (sym same.session ∙ at);
}

above : (e k p : ℕ) → e ≤ k → k < p → e ≤ p
above e k p h i = omega (arith, h, i)

apart : (e k p : ℕ) → e ≤ k → k < p → p ≢ e
apart e k p h i = grind (arith, h, i)

zero_apart : (e : ℕ) → 0 < e → 0 ≢ e
zero_apart e h = grind (arith, h)

-- it promises a greater number
promised_left : (x : UpNode) (p e : ℕ) (o : Option AttemptState) → promised_of x < p → Left (state_of x.seat) e → Left (state_of (rested_by (promising x p) o).seat) e
promised_left x p e None more h = record { promised = above e (promised_of x) p h.promised more; elsewhere = apart e (promised_of x) p h.promised more }
promised_left x p e (Some a) more h = record { promised = above e (promised_of x) p h.promised more; elsewhere = apart e (promised_of x) p h.promised more }

by_state : (seat : Seat) (t : NodeState) → state_of (with_state seat t) ≡ t
by_state (Forming s) t = refl
by_state (Member s) t = refl

state_left : (x y : UpNode) (t : NodeState) (e : ℕ) → y.seat ≡ with_state x.seat t → Same (state_of x.seat) t → Left (state_of x.seat) e → Left (state_of y.seat) e
state_left x y t e is same h = subst (λ z. Left z e) (sym (ap (λ (z : Seat). state_of z) is ∙ by_state x.seat t)) (same_left (state_of x.seat) t e same h)

seat_left : (x : UpNode) (s t : NodeState) (seat : Seat) (e : ℕ) → x.seat ≡ seat → state_of seat ≡ s → Same s t → Left (state_of x.seat) e → Left t e
seat_left x s t seat e is at same h = same_left s t e same (subst (λ z. Left z e) (ap (λ (z : Seat). state_of z) is ∙ at) h)

plainly : (s t : NodeState) → t.saved.promised ≡ s.saved.promised → t.session ≡ s.session → Same s t
plainly s t p q = record { promised = p; session = q }

change_left : (c : Cluster) (n : ℕ) (told : Delivered) (x : UpNode) (change : Change) (e : ℕ) → MayChange c n told x change → Left (state_of x.seat) e → Left (state_of (changed c n x change).seat) e
change_left c n told x (Promises p) e may h = promised_left x p e x.attempt may.1 h
change_left c n told x (Leads p members) e may h = record { promised = above e (promised_of x) p h.promised may.0; elsewhere = apart e (promised_of x) p h.promised may.0 }
change_left c n told x (Counts a k s i) e may h = seat_left x s (state_of (changed c n x (Counts a k s i)).seat) (Forming s) e may.1 refl (plainly s _ refl refl) h
change_left c n told x (Installs s i) e may h = seat_left x s (state_of (changed c n x (Installs s i)).seat) (Forming s) e may.0 refl (plainly s _ refl refl) h
change_left c n told x (Starts a k s) e may h = seat_left x s (state_of (changed c n x (Starts a k s)).seat) (Forming s) e may.1 refl (plainly s _ refl refl) h
change_left c n told x (Sits s p) e may h = seat_left x s (state_of (changed c n x (Sits s p)).seat) (Forming s) e may.0 refl (plainly s _ refl refl) h
change_left c n told x (Distrusts d) e may h = state_left x (changed c n x (Distrusts d)) (with_valid (state_of x.seat) (set_without (record_of x).valid d)) e refl (plainly (state_of x.seat) _ refl refl) h
change_left c n told x (Admits at command a d) e may h = state_left x (changed c n x (Admits at command a d)) (with_joined (state_of x.seat) d) e refl (plainly (state_of x.seat) _ refl refl) h
change_left c n told x (Proposes s p text) e may h =
    state_left x (changed c n x (Proposes s p text)) (with_entries (state_of x.seat) (with_next (record_of x).entries text)) e refl (plainly (state_of x.seat) _ refl refl) h
change_left c n told x (Acks s p q left text) e may h =
    state_left x (changed c n x (Acks s p q left text)) (with_entries (state_of x.seat) (all_committed (record_of x).entries)) e refl (plainly (state_of x.seat) _ refl refl) h
change_left c n told x (Prepares s text) e may h = seat_left x s (state_of (changed c n x (Prepares s text)).seat) (Member s) e may.0 refl (plainly s _ refl refl) h
change_left c n told x (Commits s) e may h = seat_left x s (state_of (changed c n x (Commits s)).seat) (Member s) e may.0 refl (plainly s _ refl refl) h

act_left : (c : Cluster) (n : ℕ) (told : Delivered) (x : UpNode) (a : Act) (e : ℕ) → MayAct c n told x a → Left (state_of x.seat) e → Left (state_of (acted c n x a).seat) e
act_left c n told x (Makes change) e may h = change_left c n told x change e may.0 h
act_left c n told x (Queues a d kind) e may h =
    if_either (λ (y : UpNode). Left (state_of y.seat) e) (has a.plan.members n) (record x { tasks = after_seize x.tasks d (seizing.begun kind a.plan.epoch a.plan.members n c.id (has (record_of x).valid d)) }) x h h
act_left c n told x (Hears from b) e may h = h
act_left c n told x Ticks e may h = h
act_left c n told x Waits e may h = h
act_left c n told x (Goes_on a k) e may h = h
act_left c n told x (Ends a why) e may h = h
act_left c n told x (Accepts kind p members d) e may h = h
act_left c n told x (Takes at command a) e may h = h
act_left c n told x (Stores d value a) e may h = h
act_left c n told x (Writes to b) e may h = h
act_left c n told x (Gives os) e may h = h
act_left c n told x (Spreads receivers b) e may h = h
act_left c n told x (Minds q p) e may h = h
act_left c n told x (Notes from place p) e may h = h
act_left c n told x (Dates now) e may h = h
act_left c n told x (Works w) e may h = h

-- ---- with the disk

-- what is past to a node that is up, whose disk has its record
up_left : (c : Cluster) (M : Memberships) (n : ℕ) (disk : NodeRecord) (x : UpNode) (e : ℕ) → NodeTied c M n disk (Up x) → IsPast (site (Up x) disk) e → Left (state_of x.seat) e
up_left c M n disk x e tied h = record { promised = subst (λ (r : NodeRecord). e ≤ r.promised) (disk_own c M n disk x tied) h.promised; elsewhere = h.elsewhere }

act_past : (c : Cluster) (M : Memberships) (n : ℕ) (told : Delivered) (x : UpNode) (disk : NodeRecord) (a : Act) (e : ℕ) → NodeTied c M n disk (Up x) → MayAct c n told x a → IsPast (site (Up x) disk) e → IsPast (site (Up (acted c n x a)) disk) e
act_past c M n told x disk a e tied may h = record { some = h.some; promised = h.promised; elsewhere = (act_left c n told x a e may (up_left c M n disk x e tied h)).elsewhere }

pub doing_past : (c : Cluster) (M : Memberships) (n : ℕ) (told : Delivered) (node : Node) (disk : NodeRecord) (d : Doing) (e : ℕ) → NodeTied c M n disk node → May c n told (site node disk) d → IsPast (site node disk) e → IsPast (effect c n (site node disk) d) e
doing_past c M n told Down disk Comes_up e tied may h = record { some = h.some; promised = h.promised; elsewhere = zero_apart e h.some }
doing_past c M n told (Up x) disk Comes_up e tied may h = absurd may
doing_past c M n told node disk (Goes_down why) e tied may h = record { some = h.some; promised = h.promised; elsewhere = tt }
doing_past c M n told Down disk (Does a) e tied may h = absurd may
doing_past c M n told (Up x) disk (Does a) e tied may h = act_past c M n told x disk a e tied may h
doing_past c M n told Down disk (Saves change) e tied may h = absurd may
doing_past c M n told (Up x) disk (Saves change) e tied may h =
    let left : Left (state_of (changed c n x change).seat) e = change_left c n told x change e may (up_left c M n disk x e tied h) in
    record { some = h.some; promised = left.promised; elsewhere = left.elsewhere }
doing_past c M n told Down disk (Loses change why) e tied may h = absurd may
doing_past c M n told (Up x) disk (Loses change why) e tied may h =
    record { some = h.some; promised = (change_left c n told x change e may (up_left c M n disk x e tied h)).promised; elsewhere = tt }
doing_past c M n told node disk (Forgets change why) e tied may h = record { some = h.some; promised = h.promised; elsewhere = tt }
