-- Which small steps leave what a node has heard; and in a tick an attempt begins only where it is due.
use Rattle.std.specs.Prelude.{ℕ, ◌≡◌, ◌&&◌, nat_le, nat_lt, Bool, true, false, List, [], ◌∷◌, Option, None, Some, if◌then◌else◌}
use Rattle.std.proofs.Common.{refl, sym, ap, ◌∙◌}
use Rattle.cl_base.specs.Sets.{has}
use Rattle.cl_base.specs.declared.method.Outcome.{Outcome}
use Rattle.cmm_attempt.specs.Attempts.{AttemptState}
use Rattle.cmm_attempt.specs.Calls.{Tick as Call_tick}
use Rattle.cmm_attempt.proofs.Basics.{and_cases, if_either, none_some, same_some}
use Rattle.cmm_member.specs.Records.{NodeRecord}
use Rattle.device_queue.specs.Queue.{after_seize}
use Rattle.heartbeats.specs.Due.{begins}
use Rattle.heartbeats.specs.Views.{view_of}
use Rattle.node_model.specs.Attempts.{may_count_on, next_epoch}
use Rattle.node_model.specs.Configurations.{configured_at}
use Rattle.node_model.specs.Members.{rested_by}
use Rattle.ccr_commit.specs.Entries.{EntryList, all_committed, with_next}
use Rattle.cmm_member.specs.Nodes.{with_entries}
use Rattle.heartbeats.specs.declared.due.Membership.{Membership}
use Rattle.node_model.specs.declared.seat.Seat.{Seat}
use Rattle.node_model.specs.declared.seat.Seat.TheVariants.{Forming, Member}
use Rattle.node_model.specs.Seats.{state_of, with_state, promised_of, promising, record_of}
use Rattle.node_model.specs.Ticks.{later, members_to_form, membership_of, to_form_in, waiting_less}
use Rattle.node_model.specs.declared.cluster.Cluster.{Cluster}
use Rattle.node_model.specs.declared.node.Node.TheVariants.{Up}
use Rattle.node_model.specs.declared.node.UpNode.{UpNode}
use Rattle.refinement.specs.Courses.{Course, Reply, joined, under}
use Rattle.refinement.specs.Courses.Course.{Acts, Falls, Keeps, Stops}
use Rattle.refinement.specs.Courses.Reply.{Done, Lost_new, Lost_old}
use Rattle.refinement.specs.Cuts as cuts
use Rattle.refinement.specs.Doings.{Act, Change, acted, changed, site}
use Rattle.refinement.specs.Doings.Act.{Accepts, Dates, Ends, Gives, Goes_on, Hears, Makes, Minds, Notes, Queues, Spreads, Stores, Takes, Ticks, Waits, Works, Writes}
use Rattle.refinement.specs.Doings.Change.{Acks, Admits, Commits, Counts, Distrusts, Installs, Leads, Prepares, Promises, Proposes, Sits, Starts}
use Rattle.seize.specs.Seizing as seizing
use Rattle.run_attempts.specs.Steps.{ActSo, AllSo, CalmAct, CalmChange, ChangeSo, GoesSo, IsCalm, IsDue, IsStaid, StaidAct, StaidChange, Wish}
use Rattle.run_attempts.proofs.Courses.{begun_calm, going_calm}
use Rattle.run_attempts.proofs.Staid.{governing_staid}

-- it has heard the same, and has the same view
pub record SameView (x y : UpNode) : Type 0 where
  pub view : y.beats.view ≡ x.beats.view
  pub me : y.beats.me ≡ x.beats.me
  pub peers : y.beats.peers ≡ x.beats.peers

pub same_view : (x : UpNode) → SameView x x
same_view x = record { view = refl; me = refl; peers = refl }

view_then : (x y z : UpNode) → SameView x y → SameView y z → SameView x z
view_then x y z h k = record { view = k.view ∙ h.view; me = k.me ∙ h.me; peers = k.peers ∙ h.peers }

rested_same : (x y : UpNode) (o : Option AttemptState) → SameView x y → SameView x (rested_by y o)
rested_same x y None h = h
rested_same x y (Some a) h = record { view = h.view; me = h.me; peers = h.peers }

pub change_same : (c : Cluster) (me : ℕ) (x : UpNode) (change : Change) → SameView x (changed c me x change)
change_same c me x (Promises p) = rested_same x (promising x p) x.attempt (record { view = refl; me = refl; peers = refl })
change_same c me x (Leads p members) = record { view = refl; me = refl; peers = refl }
change_same c me x (Counts a k s i) = record { view = refl; me = refl; peers = refl }
change_same c me x (Installs s i) = record { view = refl; me = refl; peers = refl }
change_same c me x (Starts a k s) = record { view = refl; me = refl; peers = refl }
change_same c me x (Sits s e) = record { view = refl; me = refl; peers = refl }
change_same c me x (Distrusts d) = record { view = refl; me = refl; peers = refl }
change_same c me x (Admits at command a d) = record { view = refl; me = refl; peers = refl }
change_same c me x (Proposes s p text) = record { view = refl; me = refl; peers = refl }
change_same c me x (Acks s p q left text) = record { view = refl; me = refl; peers = refl }
change_same c me x (Prepares s text) = record { view = refl; me = refl; peers = refl }
change_same c me x (Commits s) = record { view = refl; me = refl; peers = refl }

-- all but the clock's tick and a packet that is heard
pub act_same : (P : Wish) (c : Cluster) (me : ℕ) (x : UpNode) (a : Act) → ActSo P x a → SameView x (acted c me x a)
act_same P c me x (Hears from b) h = absurd h
act_same P c me x Ticks h = absurd h
act_same P c me x Waits h = record { view = refl; me = refl; peers = refl }
act_same P c me x (Goes_on a k) h = record { view = refl; me = refl; peers = refl }
act_same P c me x (Ends a e) h = record { view = refl; me = refl; peers = refl }
act_same P c me x (Queues a d kind) h =
    if_either (SameView x) (has a.plan.members me)
    (record x { tasks = after_seize x.tasks d (seizing.begun kind a.plan.epoch a.plan.members me c.id (has (record_of x).valid d)) }) x
    (record { view = refl; me = refl; peers = refl }) (same_view x)
act_same P c me x (Accepts kind e members d) h = record { view = refl; me = refl; peers = refl }
act_same P c me x (Takes at command a) h = record { view = refl; me = refl; peers = refl }
act_same P c me x (Stores d value a) h = same_view x
act_same P c me x (Writes to b) h = same_view x
act_same P c me x (Makes change) h = change_same c me x change
act_same P c me x (Gives os) h = same_view x
act_same P c me x (Spreads receivers b) h = same_view x
act_same P c me x (Minds q p) h = record { view = refl; me = refl; peers = refl }
act_same P c me x (Notes from place p) h = record { view = refl; me = refl; peers = refl }
act_same P c me x (Dates now) h = record { view = refl; me = refl; peers = refl }
act_same P c me x (Works w) h = record { view = refl; me = refl; peers = refl }

-- ---- calm courses

calm_change : (P : Wish) (x : UpNode) (change : Change) → CalmChange change → ChangeSo P x change
calm_change P x (Leads p members) h = absurd h
calm_change P x _ h = tt

calm_act : (P : Wish) (x : UpNode) (a : Act) → CalmAct a → ActSo P x a
calm_act P x Ticks h = absurd h
calm_act P x (Hears from b) h = absurd h
calm_act P x (Makes change) h = calm_change P x change h
calm_act P x _ h = tt

pub calm_goes : (P : Wish) (c : Cluster) (me : ℕ) (x : UpNode) (k : Course) → IsCalm k → GoesSo P c me x k
calm_goes P c me x Stops h = tt
calm_goes P c me x (Acts a rest) h = (calm_act P x a h.0, calm_goes P c me (acted c me x a) rest h.1)
calm_goes P c me x (Keeps change rest) h = (calm_change P x change h.0, calm_goes P c me (changed c me x change) rest h.1)
calm_goes P c me x (Falls why) h = tt

-- ---- staid courses, and what follows

entries_same : (seat : Seat) (entries : EntryList) → membership_of (with_state seat (with_entries (state_of seat) entries)) ≡ membership_of seat
entries_same (Forming s) entries = refl
entries_same (Member s) entries = refl

pub change_seat : (c : Cluster) (me : ℕ) (x : UpNode) (change : Change) → StaidChange change → membership_of (changed c me x change).seat ≡ membership_of x.seat
change_seat c me x (Proposes s p text) h = entries_same x.seat (with_next (record_of x).entries text)
change_seat c me x (Acks s p q left text) h = entries_same x.seat (all_committed (record_of x).entries)
change_seat c me x _ h = absurd h

pub act_seat : (c : Cluster) (me : ℕ) (x : UpNode) (a : Act) → StaidAct a → membership_of (acted c me x a).seat ≡ membership_of x.seat
act_seat c me x Ticks h = absurd h
act_seat c me x (Hears from b) h = absurd h
act_seat c me x (Makes change) h = change_seat c me x change h
act_seat c me x (Queues a d kind) h =
    if_either (λ (y : UpNode). membership_of y.seat ≡ membership_of x.seat) (has a.plan.members me)
    (record x { tasks = after_seize x.tasks d (seizing.begun kind a.plan.epoch a.plan.members me c.id (has (record_of x).valid d)) }) x refl refl
act_seat c me x _ h = refl

pub staid_change : (P : Wish) (x : UpNode) (change : Change) → StaidChange change → ChangeSo P x change
staid_change P x (Proposes s p text) h = tt
staid_change P x (Acks s p q left text) h = tt
staid_change P x _ h = absurd h

pub staid_act : (P : Wish) (x : UpNode) (a : Act) → StaidAct a → ActSo P x a
staid_act P x Ticks h = absurd h
staid_act P x (Hears from b) h = absurd h
staid_act P x (Makes change) h = staid_change P x change h
staid_act P x _ h = tt

staid_then : (P : Wish) (c : Cluster) (me : ℕ) (x : UpNode) (k : Course) (next : UpNode → Course) → IsStaid k
    → ((y : UpNode) → SameView x y → membership_of y.seat ≡ membership_of x.seat → GoesSo P c me y (next y)) → GoesSo P c me x (joined c me x k next)
staid_then P c me x Stops next h f = f x (same_view x) refl
staid_then P c me x (Acts a rest) next h f =
    let y : UpNode = acted c me x a in
    (staid_act P x a h.0, staid_then P c me y rest next h.1 (λ z same seat. f z (view_then x y z (act_same P c me x a (staid_act P x a h.0)) same) (seat ∙ act_seat c me x a h.0)))
staid_then P c me x (Keeps change rest) next h f =
    let y : UpNode = changed c me x change in
    (staid_change P x change h.0, staid_then P c me y rest next h.1 (λ z same seat. f z (view_then x y z (change_same c me x change) same) (seat ∙ change_seat c me x change h.0)))
staid_then P c me x (Falls why) next h f = tt

-- ---- a tick

leading_so : (P : Wish) (c : Cluster) (me : ℕ) (x : UpNode) (p members : ℕ) → P x p members → GoesSo P c me x (cuts.leading_course c me x p members)
leading_so P c me x p members h =
    let y : UpNode = changed c me x (Leads p members) in
    if_either (GoesSo P c me x) (nat_lt (promised_of x) p) (Keeps (Leads p members) (cuts.begun_course c me y (cuts.first_turn c me x p members))) Stops
    (h, calm_goes P c me y (cuts.begun_course c me y (cuts.first_turn c me x p members)) (begun_calm c me y (cuts.first_turn c me x p members))) tt

pub forming_so : (P : Wish) (c : Cluster) (me : ℕ) (x : UpNode) (o : Option ℕ) → ((members : ℕ) → o ≡ Some members → P x (next_epoch me x) members) → GoesSo P c me x (cuts.forming_course c me x o)
forming_so P c me x None h = tt
forming_so P c me x (Some members) h = leading_so P c me x (next_epoch me x) members (h members refl)

-- the view that is taken with these nodes configured
abbrev Taken : ℕ → UpNode → Type 0
Taken configured x = (view : ℕ) → x.beats.view ≡ Some view → view ≡ view_of x.beats.me x.beats.peers configured

due_in : (c : Cluster) (me configured : ℕ) (member : Option Membership) (x : UpNode) (p members : ℕ) → Taken configured x → membership_of x.seat ≡ member → members_to_form c me x ≡ Some members → IsDue c configured member x p members
due_in c me configured member x p members taken seat is = by_view x.beats.view refl is
  where
    by_test : (view : ℕ) (t : Bool) → x.beats.view ≡ Some view → (may_count_on x.greatest && begins x.beats (configured_at c x) (membership_of x.seat) && has view me) ≡ t → (if t then Some view else None) ≡ Some members
        → IsDue c configured member x p members
    by_test view false at test e = absurd (none_some members e)
    by_test view true at test e =
        let so : x.beats.view ≡ Some members = at ∙ e in
        record { seat = seat; view = so; taken = taken members so; begins_so = (and_cases _ _ (and_cases _ _ test).0).1 }

    by_view : (o : Option ℕ) → x.beats.view ≡ o → to_form_in c me x o ≡ Some members → IsDue c configured member x p members
    by_view None at e = absurd (none_some members e)
    by_view (Some view) at e = by_test view (may_count_on x.greatest && begins x.beats (configured_at c x) (membership_of x.seat) && has view me) at refl e

ticked_so : (c : Cluster) (me configured : ℕ) (member : Option Membership) (x : UpNode) (o : Option AttemptState) → Taken configured x → membership_of x.seat ≡ member → GoesSo (IsDue c configured member) c me x (cuts.ticked_course c me x o)
ticked_so c me configured member x (Some a) taken seat = calm_goes (IsDue c configured member) c me x (cuts.going_course c me x a Call_tick) (going_calm c me x a Call_tick)
ticked_so c me configured member x None taken seat =
    let y : UpNode = waiting_less x in
    if_either (GoesSo (IsDue c configured member) c me x) (nat_le 1 x.beats.wait) (Acts Waits Stops) (Acts Waits (cuts.forming_course c me y (members_to_form c me y))) (tt, tt)
    (tt, forming_so (IsDue c configured member) c me y (members_to_form c me y) (λ members is. due_in c me configured member y (next_epoch me y) members taken seat is))

taken_then : (configured : ℕ) (x y : UpNode) → Taken configured x → SameView x y → Taken configured y
taken_then configured x y taken same view is =
    taken view (sym same.view ∙ is) ∙ (ap (λ k. view_of k x.beats.peers configured) (sym same.me) ∙ ap (λ peers. view_of y.beats.me peers configured) (sym same.peers))

pub tick_so : (c : Cluster) (me : ℕ) (outcome : Outcome) (x : UpNode)
    → GoesSo (IsDue c (configured_at c x) (membership_of x.seat)) c me (later c x) (joined c me (later c x) (cuts.governing_course c me outcome x (later c x)) (λ y. cuts.ticked_course c me y y.attempt))
tick_so c me outcome x =
    let y : UpNode = later c x in
    staid_then (IsDue c (configured_at c x) (membership_of x.seat)) c me y (cuts.governing_course c me outcome x y) (λ z. cuts.ticked_course c me z z.attempt) (governing_staid c me outcome x y)
    (λ z same seat. ticked_so c me (configured_at c x) (membership_of x.seat) z z.attempt (taken_then (configured_at c x) y z (λ view is. sym (same_some _ view is)) same) seat)

-- ---- under all replies of the disk

pub under_so : (P : Wish) (c : Cluster) (me : ℕ) (replies : List Reply) (disk : NodeRecord) (x : UpNode) (k : Course) → GoesSo P c me x k → AllSo P c me (site (Up x) disk) (under replies k)
under_so P c me replies disk x Stops h = tt
under_so P c me replies disk x (Acts a rest) h = (h.0, under_so P c me replies disk (acted c me x a) rest h.1)
under_so P c me [] disk x (Keeps change rest) h = (tt, tt)
under_so P c me (Done ∷ replies) disk x (Keeps change rest) h = (h.0, under_so P c me replies (record_of (changed c me x change)) (changed c me x change) rest h.1)
under_so P c me (Lost_new why ∷ replies) disk x (Keeps change rest) h = (tt, tt)
under_so P c me (Lost_old why ∷ replies) disk x (Keeps change rest) h = (tt, tt)
under_so P c me replies disk x (Falls why) h = (tt, tt)
