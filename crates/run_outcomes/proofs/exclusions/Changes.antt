-- A change leaves what is installed, or installs what its attempt or an Install brings; and an attempt keeps the Promises that it has taken.
use Rattle.std.specs.Prelude.{ℕ, ◌≡◌, true, List, Option, None, Some}
use Rattle.std.specs.List.{AllByRecursion, filter_map, find}
use Rattle.std.proofs.Common.{refl, sym, ap, subst, ◌∙◌}
use Rattle.attempt_laws.proofs.Goes.{Goes as GoesBy, chosen_reached, goes_by_call}
use Rattle.attempt_laws.proofs.Stays.{plan_stays}
use Rattle.attempt_laws.proofs.Steady.{Steady, begun_keeps, call_keeps}
use Rattle.ccr_commit.specs.Entries.{all_committed, with_next}
use Rattle.cl_base.specs.Sets.{has, set_without}
use Rattle.cmm_attempt.proofs.Basics.{if_either, none_some, same_some}
use Rattle.cmm_attempt.specs.Attempts.{AttemptState, beginning, first_state, install_in, promises_of}
use Rattle.cmm_attempt.specs.Calls.{Call, Take, Tick, installs_in, turn}
use Rattle.cmm_attempt.specs.Installs.{install_by}
use Rattle.cmm_attempt.specs.Promises.{is_from, promised_by, shown_by}
use Rattle.cmm_attempt.specs.Seizings.{reading_of}
use Rattle.cmm_attempt.specs.declared.attached.AttachedDevice.{AttachedDevice}
use Rattle.cmm_attempt.specs.declared.plan.Plan.{Plan}
use Rattle.cmm_attempt.specs.declared.promised.Promised.{Promised}
use Rattle.cmm_attempt.specs.declared.promised.Shown.{Shown}
use Rattle.cmm_member.specs.Nodes.{NodeState, with_entries, with_joined, with_valid}
use Rattle.cmm_member.specs.Records.{NodeRecord}
use Rattle.device_queue.specs.Queue.{after_seize}
use Rattle.history.specs.Moment.{Moment}
use Rattle.membership_machine.specs.Invariant.{Holds}
use Rattle.membership_machine.specs.State.{Memberships}
use Rattle.node_model.specs.Attempts.{own_promise}
use Rattle.node_model.specs.Members.{rested_by}
use Rattle.node_model.specs.Seats.{promising, record_of, state_of, with_state}
use Rattle.node_model.specs.declared.cluster.Cluster.{Cluster}
use Rattle.node_model.specs.declared.node.UpNode.{UpNode}
use Rattle.node_model.specs.declared.seat.Seat.{Seat}
use Rattle.node_model.specs.declared.seat.Seat.TheVariants.{Forming, Member}
use Rattle.refinement.proofs.Attempts.{install_epoch, may_be_called}
use Rattle.refinement.specs.Doings.{Act, Change, acted, changed}
use Rattle.refinement.specs.Doings.Act.{Accepts, Dates, Ends, Gives, Goes_on, Hears, Makes, Minds, Notes, Queues, Spreads, Stores, Takes, Ticks, Waits, Works, Writes}
use Rattle.refinement.specs.Doings.Change.{Acks, Admits, Commits, Counts, Distrusts, Installs, Leads, Prepares, Promises, Proposes, Sits, Starts}
use Rattle.refinement.specs.Guards.{MayAct, MayCall, MayChange, Says}
use Rattle.refinement.specs.Ties.{Delivered, setting_of}
use Rattle.run_attempts.specs.Laws.{IsTried}
use Rattle.run_outcomes.proofs.counts.Ended.{Tied}
use Rattle.run_history.proofs.Lists.{all_and}
use Rattle.run_history.specs.Noted as noted
use Rattle.seize.specs.Seizing as seizing
use Rattle.wire.specs.declared.lists.Reading.{Reading}
use Rattle.wire.specs.declared.message.Body.{Body}
use Rattle.wire.specs.declared.message.Body.TheVariants as body
use Rattle.wire.specs.declared.message.Install.{Install}
use Rattle.wire.specs.declared.message.Message.{Message}
use Rattle.run_outcomes.specs.exclusions.Sites.{AttemptIn, BodyTold, HandSo, IsTold, PromiseSo}
use Rattle.run_outcomes.proofs.exclusions.Plain.{IsBare}

-- ---- what is installed

-- the same epoch is installed, with the same members
record Same (r s : NodeRecord) : Type 0 where
  installed : s.installed ≡ r.installed
  members : s.members ≡ r.members

same_told : (ms : List Moment) (n : ℕ) (r s : NodeRecord) → Same r s → IsTold ms n r.installed r.members → IsTold ms n s.installed s.members
same_told ms n r s same h = subst (λ f. IsTold ms n f s.members) (sym same.installed) (subst (λ set. IsTold ms n r.installed set) (sym same.members) h)

promise_same : (p : ℕ) (x : UpNode) (o : Option AttemptState) → Same (record_of x) (record_of (rested_by (promising x p) o))
promise_same p x None = record { installed = refl; members = refl }
promise_same p x (Some a) = record { installed = refl; members = refl }

seat_same : (x : UpNode) (s : NodeState) (seat : Seat) → x.seat ≡ seat → state_of seat ≡ s → Same (record_of x) s.saved
seat_same x s seat is same = record {
  installed = ap (λ (t : NodeState). t.saved.installed) (sym same) ∙ ap (λ (z : Seat). (state_of z).saved.installed) (sym is);
  members = ap (λ (t : NodeState). t.saved.members) (sym same) ∙ ap (λ (z : Seat). (state_of z).saved.members) (sym is);
}

by_state : (seat : Seat) (t : NodeState) → state_of (with_state seat t) ≡ t
by_state (Forming s) t = refl
by_state (Member s) t = refl

state_same : (x y : UpNode) (t : NodeState) → y.seat ≡ with_state x.seat t → Same (record_of x) t.saved → Same (record_of x) (record_of y)
state_same x y t is h = subst (Same (record_of x)) (sym (ap (λ (z : Seat). (state_of z).saved) is ∙ ap (λ (z : NodeState). z.saved) (by_state x.seat t))) h

bare_same : (c : Cluster) (n : ℕ) (told : Delivered) (x : UpNode) (change : Change) → IsBare change → MayChange c n told x change → Same (record_of x) (record_of (changed c n x change))
bare_same c n told x (Promises p) bare may = promise_same p x x.attempt
bare_same c n told x (Leads p members) bare may = record { installed = refl; members = refl }
bare_same c n told x (Counts a k s i) bare may = absurd bare
bare_same c n told x (Installs s i) bare may = absurd bare
bare_same c n told x (Starts a k s) bare may = record { installed = (seat_same x s (Forming s) may.1 refl).installed; members = (seat_same x s (Forming s) may.1 refl).members }
bare_same c n told x (Sits s e) bare may = record { installed = (seat_same x s (Forming s) may.0 refl).installed; members = (seat_same x s (Forming s) may.0 refl).members }
bare_same c n told x (Distrusts d) bare may = state_same x (changed c n x (Distrusts d)) (with_valid (state_of x.seat) (set_without (record_of x).valid d)) refl (record { installed = refl; members = refl })
bare_same c n told x (Admits at command a d) bare may = state_same x (changed c n x (Admits at command a d)) (with_joined (state_of x.seat) d) refl (record { installed = refl; members = refl })
bare_same c n told x (Proposes s p text) bare may =
    state_same x (changed c n x (Proposes s p text)) (with_entries (state_of x.seat) (with_next (record_of x).entries text)) refl (record { installed = refl; members = refl })
bare_same c n told x (Acks s p q left text) bare may =
    state_same x (changed c n x (Acks s p q left text)) (with_entries (state_of x.seat) (all_committed (record_of x).entries)) refl (record { installed = refl; members = refl })
bare_same c n told x (Prepares s text) bare may = record { installed = (seat_same x s (Member s) may.0 refl).installed; members = (seat_same x s (Member s) may.0 refl).members }
bare_same c n told x (Commits s) bare may = record { installed = (seat_same x s (Member s) may.0 refl).installed; members = (seat_same x s (Member s) may.0 refl).members }

by_install : (plan : Plan) (readings : List Reading) (o : Option Promised) → (install_by plan readings o).members ≡ plan.members
by_install plan readings None = refl
by_install plan readings (Some p) = refl

install_members : (a : AttemptState) → (install_in a).members ≡ a.plan.members
install_members a = by_install a.plan (filter_map (reading_of a.devices) a.plan.attached) (find (is_from a.newest) a.promises)

-- what its attempt installs has the attempt's line, and the coordinator is a member
counted_told : (c : Cluster) (M : Memberships) (n : ℕ) (told : Delivered) (ms : List Moment) (a : AttemptState) (k : Call) (i : Install) → Holds (setting_of c) M → Tied c M n a → noted.AttemptNoted ms n a → MayCall c told a k
    → installs_in (turn a k).steps ≡ Some i → IsTold ms n i.epoch i.members
counted_told c M n told ms a k i holds t note may is =
    let after : AttemptState = (turn a k).after in
    let goes : GoesBy a.phase (turn a k) = goes_by_call a k (may_be_called c told a k may) (chosen_reached a t.co.reached) in
    let same : i ≡ install_in after = (goes.install i is).1 in
    let plan : after.plan ≡ a.plan = plan_stays a k (may_be_called c told a k may) in
    let epoch : i.epoch ≡ a.plan.epoch = ap (λ (j : Install). j.epoch) same ∙ (install_epoch after ∙ ap (λ (p : Plan). p.epoch) plan) in
    let members : i.members ≡ a.plan.members = ap (λ (j : Install). j.members) same ∙ (install_members after ∙ ap (λ (p : Plan). p.members) plan) in
    let member : (M.epoch a.plan.epoch).members n ≡ true = subst (λ j. (M.epoch a.plan.epoch).members j ≡ true) (sym t.co.has.coordinator ∙ t.co.coordinator) ((holds.epoch a.plan.epoch).tried_member t.co.has.tried) in
    subst (λ f. IsTold ms n f i.members) (sym epoch)
    (subst (λ set. IsTold ms n a.plan.epoch set) (sym members) (λ some. ((note.begun, note.members), sym (t.co.has.members n) ∙ member)))

told_install : (ms : List Moment) (told : Delivered) (i : Install) → Says (λ b. b ≡ body.Install i) told → HandSo ms told → IsTried ms i.epoch i.members
told_install ms None i says h = absurd says
told_install ms (Some d) i says h = subst (BodyTold ms d.0) says h

-- the record that a change makes
pub change_told : (c : Cluster) (M : Memberships) (n : ℕ) (told : Delivered) (ms : List Moment) (x : UpNode) (change : Change) → Holds (setting_of c) M → ((a : AttemptState) → x.attempt ≡ Some a → Tied c M n a) → noted.AttemptIn ms n x.attempt
    → MayChange c n told x change → HandSo ms told → IsTold ms n (record_of x).installed (record_of x).members → IsTold ms n (record_of (changed c n x change)).installed (record_of (changed c n x change)).members
change_told c M n told ms x (Counts a k s i) holds tied notes may hand h = counted_told c M n told ms a k i holds (tied a may.0) (subst (noted.AttemptIn ms n) may.0 notes) may.2 may.3
change_told c M n told ms x (Installs s i) holds tied notes may hand h = λ some. (told_install ms told i may.1 hand, may.5)
change_told c M n told ms x (Promises p) holds tied notes may hand h = same_told ms n (record_of x) _ (bare_same c n told x (Promises p) tt may) h
change_told c M n told ms x (Leads p members) holds tied notes may hand h = same_told ms n (record_of x) _ (bare_same c n told x (Leads p members) tt may) h
change_told c M n told ms x (Starts a k s) holds tied notes may hand h = same_told ms n (record_of x) _ (bare_same c n told x (Starts a k s) tt may) h
change_told c M n told ms x (Sits s e) holds tied notes may hand h = same_told ms n (record_of x) _ (bare_same c n told x (Sits s e) tt may) h
change_told c M n told ms x (Distrusts d) holds tied notes may hand h = same_told ms n (record_of x) _ (bare_same c n told x (Distrusts d) tt may) h
change_told c M n told ms x (Admits at command a d) holds tied notes may hand h = same_told ms n (record_of x) _ (bare_same c n told x (Admits at command a d) tt may) h
change_told c M n told ms x (Proposes s p text) holds tied notes may hand h = same_told ms n (record_of x) _ (bare_same c n told x (Proposes s p text) tt may) h
change_told c M n told ms x (Acks s p q left text) holds tied notes may hand h = same_told ms n (record_of x) _ (bare_same c n told x (Acks s p q left text) tt may) h
change_told c M n told ms x (Prepares s text) holds tied notes may hand h = same_told ms n (record_of x) _ (bare_same c n told x (Prepares s text) tt may) h
change_told c M n told ms x (Commits s) holds tied notes may hand h = same_told ms n (record_of x) _ (bare_same c n told x (Commits s) tt may) h

-- ---- the Promises of an attempt

abbrev Holds_in : List Moment → AttemptState → Type 0
Holds_in ms s = AllByRecursion (PromiseSo ms) s.promises

-- each that this call brings
abbrev Brings : List Moment → Call → Type 0
Brings ms c = (from : ℕ) (m : Message) (p : Promised) → c ≡ Take from m → promised_by m (shown_by from m.body) ≡ Some p → PromiseSo ms p

steady : (ms : List Moment) (c : Call) → Brings ms c → Steady c (Holds_in ms) (Holds_in ms)
steady ms c brings = record {
  within = λ s i. i;
  ticked = λ s i. i;
  over = λ s k. k;
  promise = λ s from m p is awaited of promised i. all_and (PromiseSo ms) s.promises p i (brings from m p is promised);
  collecting = λ s is all k. k;
  no_newest = λ s is all none k. k;
  chosen = λ s newest is all some k. k;
  votes = λ s both is i. i;
  entries = λ s is k. k;
  result = λ s d from r is tells i. i;
  next = λ s d m x kind r is found i. i;
  seizing = λ s is all k. k;
  counted = λ s is h k. k;
  others = λ s is ne k. k;
  installs = λ s is k. k;
  ready = λ s from m is at of ready_body i. i;
  own = λ s is at i. i;
  installing = λ s at h k. k;
}

-- a Promise of this node that says so
brought : (ms : List Moment) (from : ℕ) (m : Message) (p : Promised) (b : Body) → BodyTold ms from b → promised_by m (shown_by from b) ≡ Some p → PromiseSo ms p
brought ms from m p (body.Promise e newest members valid flagged committed pending) h is = subst (PromiseSo ms) (same_some _ p is) h
brought ms from m p _ h is = absurd (none_some p is)

call_brings : (c : Cluster) (ms : List Moment) (told : Delivered) (a : AttemptState) (k : Call) → MayCall c told a k → HandSo ms told → Brings ms k
call_brings c ms told a k may hand from m p is promised =
    let call : MayCall c told a (Take from m) = subst (MayCall c told a) is may in
    brought ms from m p m.body (subst (HandSo ms) call.0 hand) promised

turn_told : (c : Cluster) (ms : List Moment) (told : Delivered) (a : AttemptState) (k : Call) → MayCall c told a k → HandSo ms told → AllByRecursion (PromiseSo ms) a.promises → AllByRecursion (PromiseSo ms) (turn a k).after.promises
turn_told c ms told a k may hand h = call_keeps (Holds_in ms) (Holds_in ms) a k (steady ms k (call_brings c ms told a k may hand)) (may_be_called c told a k may) h

no_call : (ms : List Moment) → Brings ms Tick
no_call ms from m p is promised = absurd (no_take from m is)
  where
    no_take : (from : ℕ) (m : Message) → Tick ≡ Take from m → ⊥
    no_take from m e = cc

first_told : (ms : List Moment) (own : Message) (o : Option Shown) → ((p : Promised) → promised_by own o ≡ Some p → PromiseSo ms p) → AllByRecursion (PromiseSo ms) (promises_of (promised_by own o))
first_told ms own None f = tt
first_told ms own (Some shown) f = (f (record { shown = shown; message = own }) refl, tt)

pub begun_told : (ms : List Moment) (p members : ℕ) (own : Message) (attached : List AttachedDevice) (cluster : ℕ) → BodyTold ms own.sender own.body → AllByRecursion (PromiseSo ms) (beginning p members own attached cluster).after.promises
unfolding beginning
begun_told ms p members own attached cluster h =
    begun_keeps Tick (Holds_in ms) (Holds_in ms) (steady ms Tick (no_call ms)) (first_state p members own attached cluster (promises_of (promised_by own (shown_by own.sender own.body)))) refl
    (first_told ms own (shown_by own.sender own.body) (λ q is. brought ms own.sender own q own.body h is))

-- ---- the attempt of a node

rested_told : (ms : List Moment) (p : ℕ) (x : UpNode) (o : Option AttemptState) → AttemptIn ms (rested_by (promising x p) o).attempt
rested_told ms p x None = tt
rested_told ms p x (Some a) = tt

at_attempt : (ms : List Moment) (o : Option AttemptState) (a : AttemptState) → o ≡ Some a → AttemptIn ms o → AllByRecursion (PromiseSo ms) a.promises
at_attempt ms o a is h = subst (AttemptIn ms) is h

pub change_attempt : (c : Cluster) (n : ℕ) (told : Delivered) (ms : List Moment) (x : UpNode) (change : Change) → MayChange c n told x change → HandSo ms told → IsTold ms n (record_of x).installed (record_of x).members → AttemptIn ms x.attempt
    → AttemptIn ms (changed c n x change).attempt
change_attempt c n told ms x (Promises p) may hand r h = rested_told ms p x x.attempt
change_attempt c n told ms x (Leads p members) may hand r h = begun_told ms p members (own_promise n (record (promising x p) { greatest = p }) p) c.attached c.id r
change_attempt c n told ms x (Counts a k s i) may hand r h = turn_told c ms told a k may.2 hand (at_attempt ms x.attempt a may.0 h)
change_attempt c n told ms x (Installs s i) may hand r h = h
change_attempt c n told ms x (Starts a k s) may hand r h = tt
change_attempt c n told ms x (Sits s e) may hand r h = h
change_attempt c n told ms x (Distrusts d) may hand r h = h
change_attempt c n told ms x (Admits at command a d) may hand r h = h
change_attempt c n told ms x (Proposes s p text) may hand r h = h
change_attempt c n told ms x (Acks s p q left text) may hand r h = h
change_attempt c n told ms x (Prepares s text) may hand r h = h
change_attempt c n told ms x (Commits s) may hand r h = h

pub act_attempt : (c : Cluster) (n : ℕ) (told : Delivered) (ms : List Moment) (x : UpNode) (a : Act) → MayAct c n told x a → HandSo ms told → IsTold ms n (record_of x).installed (record_of x).members → AttemptIn ms x.attempt → AttemptIn ms (acted c n x a).attempt
act_attempt c n told ms x (Goes_on a k) may hand r h = turn_told c ms told a k may.1 hand (at_attempt ms x.attempt a may.0 h)
act_attempt c n told ms x (Ends a e) may hand r h = tt
act_attempt c n told ms x (Queues a d kind) may hand r h =
    if_either (λ (y : UpNode). AttemptIn ms y.attempt) (has a.plan.members n) (record x { tasks = after_seize x.tasks d (seizing.begun kind a.plan.epoch a.plan.members n c.id (has (record_of x).valid d)) }) x h h
act_attempt c n told ms x (Makes change) may hand r h = change_attempt c n told ms x change may.0 hand r h
act_attempt c n told ms x (Hears from b) may hand r h = h
act_attempt c n told ms x Ticks may hand r h = h
act_attempt c n told ms x Waits may hand r h = h
act_attempt c n told ms x (Accepts kind e members d) may hand r h = h
act_attempt c n told ms x (Takes at command a) may hand r h = h
act_attempt c n told ms x (Stores d value a) may hand r h = h
act_attempt c n told ms x (Writes to b) may hand r h = h
act_attempt c n told ms x (Gives os) may hand r h = h
act_attempt c n told ms x (Spreads receivers b) may hand r h = h
act_attempt c n told ms x (Minds q p) may hand r h = h
act_attempt c n told ms x (Notes from place p) may hand r h = h
act_attempt c n told ms x (Dates now) may hand r h = h
act_attempt c n told ms x (Works w) may hand r h = h
