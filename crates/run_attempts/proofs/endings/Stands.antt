-- Which small steps leave what a node has promised, its session, and the number of its attempt.
use Rattle.std.specs.Prelude.{ℕ, ◌≡◌, List, Some}
use Rattle.std.proofs.Common.{refl, sym, ap, subst, ◌∙◌}
use Rattle.attempt_laws.proofs.Stays.{plan_stays}
use Rattle.ccr_commit.specs.Entries.{all_committed, with_next}
use Rattle.cl_base.specs.Sets.{has, set_without}
use Rattle.cmm_attempt.proofs.Basics.{if_either}
use Rattle.cmm_attempt.specs.Attempts.{AttemptState}
use Rattle.cmm_attempt.specs.Calls.{Call, turn}
use Rattle.cmm_attempt.specs.declared.plan.Plan.{Plan}
use Rattle.cmm_member.specs.Nodes.{NodeState, with_entries, with_joined, with_valid}
use Rattle.device_queue.specs.Queue.{after_seize}
use Rattle.history.specs.Moment.{Moment}
use Rattle.node_model.specs.Seats.{promised_of, record_of, session_of, state_of, with_state}
use Rattle.node_model.specs.declared.cluster.Cluster.{Cluster}
use Rattle.node_model.specs.declared.node.UpNode.{UpNode}
use Rattle.node_model.specs.declared.seat.Seat.{Seat}
use Rattle.node_model.specs.declared.seat.Seat.TheVariants.{Forming, Member}
use Rattle.refinement.proofs.Attempts.{may_be_called}
use Rattle.refinement.specs.Doings.{Act, Change, acted, changed}
use Rattle.refinement.specs.Doings.Act.{Accepts, Dates, Ends, Gives, Goes_on, Hears, Makes, Minds, Notes, Queues, Spreads, Stores, Takes, Ticks, Waits, Works, Writes}
use Rattle.refinement.specs.Doings.Change.{Acks, Admits, Commits, Counts, Distrusts, Installs, Leads, Prepares, Promises, Proposes, Sits, Starts}
use Rattle.refinement.specs.Guards.{MayAct, MayCall, MayChange}
use Rattle.refinement.specs.Ties.{Delivered}
use Rattle.seize.specs.Seizing as seizing
use Rattle.run_attempts.specs.endings.Laws.{epoch_of}
use Rattle.run_attempts.specs.endings.Nacks.{HasBooted, IsMadeBy}
use Rattle.run_attempts.specs.endings.Sites.{AttemptIn, AttemptSo, HandSo, UpSo}
use Rattle.run_attempts.proofs.endings.Attempts.{call_has}

-- ---- the same

pub record SameSeat (x y : UpNode) : Type 0 where
  pub promised : promised_of y ≡ promised_of x
  pub session : session_of y ≡ session_of x

pub seat_so : (ms : List Moment) (n : ℕ) (x y : UpNode) → SameSeat x y → AttemptSo n (promised_of x) (epoch_of y.attempt) → AttemptIn ms n y.attempt → UpSo ms n x → UpSo ms n y
seat_so ms n x y same attempt has h = record {
  made = subst (IsMadeBy ms n) (sym same.promised) h.made;
  life = λ other. subst (HasBooted ms n) (sym same.promised) (h.life (λ is. other (same.session ∙ (is ∙ sym same.promised))));
  attempt = subst (λ q. AttemptSo n q (epoch_of y.attempt)) (sym same.promised) attempt;
  has_so = has;
}

pub record SameStand (x y : UpNode) : Type 0 where
  pub seat : SameSeat x y
  pub attempt : epoch_of y.attempt ≡ epoch_of x.attempt

pub stand_so : (ms : List Moment) (n : ℕ) (x y : UpNode) → SameStand x y → AttemptIn ms n y.attempt → UpSo ms n x → UpSo ms n y
stand_so ms n x y same has h = seat_so ms n x y same.seat (subst (AttemptSo n (promised_of x)) (sym same.attempt) h.attempt) has h

pub seat_self : (x y : UpNode) → y.seat ≡ x.seat → SameSeat x y
seat_self x y is = record { promised = ap (λ (z : Seat). (state_of z).saved.promised) is; session = ap (λ (z : Seat). (state_of z).session) is }

pub still : (x y : UpNode) → y.seat ≡ x.seat → y.attempt ≡ x.attempt → SameStand x y
still x y seat attempt = record { seat = seat_self x y seat; attempt = ap epoch_of attempt }

-- ---- changes

-- with another state of the same promise and session
known_seat : (x y : UpNode) (s : NodeState) (seat : Seat) → x.seat ≡ seat → state_of seat ≡ s → promised_of y ≡ s.saved.promised → session_of y ≡ s.session → SameSeat x y
known_seat x y s seat is same promised session = record {
  promised = promised ∙ (ap (λ (t : NodeState). t.saved.promised) (sym same) ∙ ap (λ (z : Seat). (state_of z).saved.promised) (sym is));
  session = session ∙ (ap (λ (t : NodeState). t.session) (sym same) ∙ ap (λ (z : Seat). (state_of z).session) (sym is));
}

by_state : (seat : Seat) (t : NodeState) → state_of (with_state seat t) ≡ t
by_state (Forming s) t = refl
by_state (Member s) t = refl

with_seat : (x y : UpNode) (t : NodeState) → y.seat ≡ with_state x.seat t → t.saved.promised ≡ promised_of x → t.session ≡ session_of x → SameSeat x y
with_seat x y t is promised session = record {
  promised = ap (λ (z : Seat). (state_of z).saved.promised) is ∙ (ap (λ (z : NodeState). z.saved.promised) (by_state x.seat t) ∙ promised);
  session = ap (λ (z : Seat). (state_of z).session) is ∙ (ap (λ (z : NodeState). z.session) (by_state x.seat t) ∙ session);
}

-- nothing is promised
abbrev pub NoPromise : Change → Type 0
NoPromise (Promises p) = ⊥
NoPromise (Leads p members) = ⊥
NoPromise _ = Unit {0}

pub change_seat : (c : Cluster) (n : ℕ) (told : Delivered) (x : UpNode) (change : Change) → NoPromise change → MayChange c n told x change → SameSeat x (changed c n x change)
change_seat c n told x (Promises p) none may = absurd none
change_seat c n told x (Leads p members) none may = absurd none
change_seat c n told x (Counts a k s i) none may = known_seat x (changed c n x (Counts a k s i)) s (Forming s) may.1 refl refl refl
change_seat c n told x (Installs s i) none may = known_seat x (changed c n x (Installs s i)) s (Forming s) may.0 refl refl refl
change_seat c n told x (Starts a k s) none may = known_seat x (changed c n x (Starts a k s)) s (Forming s) may.1 refl refl refl
change_seat c n told x (Sits s e) none may = known_seat x (changed c n x (Sits s e)) s (Forming s) may.0 refl refl refl
change_seat c n told x (Distrusts d) none may = with_seat x (changed c n x (Distrusts d)) (with_valid (state_of x.seat) (set_without (record_of x).valid d)) refl refl refl
change_seat c n told x (Admits at command a d) none may = with_seat x (changed c n x (Admits at command a d)) (with_joined (state_of x.seat) d) refl refl refl
change_seat c n told x (Proposes s p text) none may = with_seat x (changed c n x (Proposes s p text)) (with_entries (state_of x.seat) (with_next (record_of x).entries text)) refl refl refl
change_seat c n told x (Acks s p q left text) none may = with_seat x (changed c n x (Acks s p q left text)) (with_entries (state_of x.seat) (all_committed (record_of x).entries)) refl refl refl
change_seat c n told x (Prepares s text) none may = known_seat x (changed c n x (Prepares s text)) s (Member s) may.0 refl refl refl
change_seat c n told x (Commits s) none may = known_seat x (changed c n x (Commits s)) s (Member s) may.0 refl refl refl

-- .. and nothing starts
abbrev pub IsEven : Change → Type 0
IsEven (Promises p) = ⊥
IsEven (Leads p members) = ⊥
IsEven (Starts a k s) = ⊥
IsEven _ = Unit {0}

pub even_promises : (change : Change) → IsEven change → NoPromise change
even_promises (Promises p) h = h
even_promises (Leads p members) h = h
even_promises _ h = tt

pub turn_epoch : (c : Cluster) (told : Delivered) (x : UpNode) (a : AttemptState) (k : Call) → x.attempt ≡ Some a → MayCall c told a k → epoch_of (Some (turn a k).after) ≡ epoch_of x.attempt
turn_epoch c told x a k is may = ap (λ (p : Plan). Some p.epoch) (plan_stays a k (may_be_called c told a k may)) ∙ sym (ap epoch_of is)

pub change_stands : (c : Cluster) (n : ℕ) (told : Delivered) (x : UpNode) (change : Change) → IsEven change → MayChange c n told x change → SameStand x (changed c n x change)
change_stands c n told x change even may = record { seat = change_seat c n told x change (even_promises change even) may; attempt = by_change change even may }
  where
    by_change : (change : Change) → IsEven change → MayChange c n told x change → epoch_of (changed c n x change).attempt ≡ epoch_of x.attempt
    by_change (Promises p) h may = absurd h
    by_change (Leads p members) h may = absurd h
    by_change (Starts a k s) h may = absurd h
    by_change (Counts a k s i) h may = turn_epoch c told x a k may.0 may.2
    by_change (Installs s i) h may = refl
    by_change (Sits s e) h may = refl
    by_change (Distrusts d) h may = refl
    by_change (Admits at command a d) h may = refl
    by_change (Proposes s p text) h may = refl
    by_change (Acks s p q left text) h may = refl
    by_change (Prepares s text) h may = refl
    by_change (Commits s) h may = refl

-- what its attempt has then
turned_has : (c : Cluster) (ms : List Moment) (n : ℕ) (told : Delivered) (x : UpNode) (a : AttemptState) (k : Call) → x.attempt ≡ Some a → MayCall c told a k → HandSo ms n told → UpSo ms n x → AttemptIn ms n (Some (turn a k).after)
turned_has c ms n told x a k is may hand h =
    call_has c ms n told a k (subst (AttemptSo n (promised_of x)) (ap epoch_of is) h.attempt).0 may hand (subst (AttemptIn ms n) is h.has_so)

pub change_has : (c : Cluster) (ms : List Moment) (n : ℕ) (told : Delivered) (x : UpNode) (change : Change) → IsEven change → MayChange c n told x change → HandSo ms n told → UpSo ms n x → AttemptIn ms n (changed c n x change).attempt
change_has c ms n told x (Promises p) even may hand h = absurd even
change_has c ms n told x (Leads p members) even may hand h = absurd even
change_has c ms n told x (Starts a k s) even may hand h = absurd even
change_has c ms n told x (Counts a k s i) even may hand h = turned_has c ms n told x a k may.0 may.2 hand h
change_has c ms n told x (Installs s i) even may hand h = h.has_so
change_has c ms n told x (Sits s e) even may hand h = h.has_so
change_has c ms n told x (Distrusts d) even may hand h = h.has_so
change_has c ms n told x (Admits at command a d) even may hand h = h.has_so
change_has c ms n told x (Proposes s p text) even may hand h = h.has_so
change_has c ms n told x (Acks s p q left text) even may hand h = h.has_so
change_has c ms n told x (Prepares s text) even may hand h = h.has_so
change_has c ms n told x (Commits s) even may hand h = h.has_so

-- ---- acts

-- no end, no change, and no tick of the clock
abbrev pub IsMere : Act → Type 0
IsMere (Ends a e) = ⊥
IsMere (Makes change) = ⊥
IsMere Ticks = ⊥
IsMere _ = Unit {0}

pub act_stands : (c : Cluster) (n : ℕ) (told : Delivered) (x : UpNode) (a : Act) → IsMere a → MayAct c n told x a → SameStand x (acted c n x a)
act_stands c n told x (Ends a e) mere may = absurd mere
act_stands c n told x (Makes change) mere may = absurd mere
act_stands c n told x (Hears from b) mere may = still x (acted c n x (Hears from b)) refl refl
act_stands c n told x Ticks mere may = absurd mere
act_stands c n told x Waits mere may = still x (acted c n x Waits) refl refl
act_stands c n told x (Goes_on a k) mere may = record { seat = seat_self x (acted c n x (Goes_on a k)) refl; attempt = turn_epoch c told x a k may.0 may.1 }
act_stands c n told x (Queues a d kind) mere may =
    let y : UpNode = record x { tasks = after_seize x.tasks d (seizing.begun kind a.plan.epoch a.plan.members n c.id (has (record_of x).valid d)) } in
    if_either (SameStand x) (has a.plan.members n) y x (still x y refl refl) (still x x refl refl)
act_stands c n told x (Accepts kind e members d) mere may = still x (acted c n x (Accepts kind e members d)) refl refl
act_stands c n told x (Takes at command a) mere may = still x (acted c n x (Takes at command a)) refl refl
act_stands c n told x (Stores d value a) mere may = still x x refl refl
act_stands c n told x (Writes to b) mere may = still x x refl refl
act_stands c n told x (Gives os) mere may = still x x refl refl
act_stands c n told x (Spreads receivers b) mere may = still x x refl refl
act_stands c n told x (Minds q p) mere may = still x (acted c n x (Minds q p)) refl refl
act_stands c n told x (Notes from place p) mere may = still x (acted c n x (Notes from place p)) refl refl
act_stands c n told x (Dates now) mere may = still x (acted c n x (Dates now)) refl refl
act_stands c n told x (Works w) mere may = still x (acted c n x (Works w)) refl refl

pub act_has : (c : Cluster) (ms : List Moment) (n : ℕ) (told : Delivered) (x : UpNode) (a : Act) → IsMere a → MayAct c n told x a → HandSo ms n told → UpSo ms n x → AttemptIn ms n (acted c n x a).attempt
act_has c ms n told x (Ends a e) mere may hand h = absurd mere
act_has c ms n told x (Makes change) mere may hand h = absurd mere
act_has c ms n told x (Goes_on a k) mere may hand h = turned_has c ms n told x a k may.0 may.1 hand h
act_has c ms n told x (Queues a d kind) mere may hand h =
    if_either (λ (y : UpNode). AttemptIn ms n y.attempt) (has a.plan.members n)
    (record x { tasks = after_seize x.tasks d (seizing.begun kind a.plan.epoch a.plan.members n c.id (has (record_of x).valid d)) }) x h.has_so h.has_so
act_has c ms n told x (Hears from b) mere may hand h = h.has_so
act_has c ms n told x Ticks mere may hand h = absurd mere
act_has c ms n told x Waits mere may hand h = h.has_so
act_has c ms n told x (Accepts kind e members d) mere may hand h = h.has_so
act_has c ms n told x (Takes at command a) mere may hand h = h.has_so
act_has c ms n told x (Stores d value a) mere may hand h = h.has_so
act_has c ms n told x (Writes to b) mere may hand h = h.has_so
act_has c ms n told x (Gives os) mere may hand h = h.has_so
act_has c ms n told x (Spreads receivers b) mere may hand h = h.has_so
act_has c ms n told x (Minds q p) mere may hand h = h.has_so
act_has c ms n told x (Notes from place p) mere may hand h = h.has_so
act_has c ms n told x (Dates now) mere may hand h = h.has_so
act_has c ms n told x (Works w) mere may hand h = h.has_so
