-- A small step leaves a member with the orders of its membership.
use Rattle.std.specs.Prelude.{ℕ, ◌≡◌, Option, None, Some}
use Rattle.std.proofs.Common.{refl, ap, sym, subst, ◌∙◌}
use Rattle.attempt_laws.proofs.Stays.{plan_stays}
use Rattle.ccr_commit.specs.Entries.{all_committed, left_by, with_next}
use Rattle.ccr_commit.specs.declared.entries.Prepared.TheVariants.{Taken}
use Rattle.cl_base.specs.Sets.{has, set_without}
use Rattle.cmm_attempt.proofs.Basics.{if_either}
use Rattle.cmm_attempt.specs.Attempts.{AttemptState}
use Rattle.cmm_attempt.specs.Calls.{turn}
use Rattle.cmm_member.specs.Nodes.{NodeState, started as started_state, with_entries, with_joined, with_valid}
use Rattle.cmm_member.specs.Records.{NodeRecord}
use Rattle.device_queue.specs.Queue.{after_seize}
use Rattle.membership_machine.specs.State.{Memberships}
use Rattle.node_model.specs.Members.{rested_by}
use Rattle.node_model.specs.Seats.{promising, record_of, state_of, with_state}
use Rattle.node_model.specs.Updates.{later_presidency}
use Rattle.node_model.specs.declared.cluster.Cluster.{Cluster}
use Rattle.node_model.specs.declared.node.Node.{Node}
use Rattle.node_model.specs.declared.node.Node.TheVariants.{Down, Up}
use Rattle.node_model.specs.declared.node.UpNode.{UpNode}
use Rattle.node_model.specs.declared.presidency.Presidency.{Presidency}
use Rattle.node_model.specs.declared.seat.Seat.{Seat}
use Rattle.node_model.specs.declared.seat.Seat.TheVariants.{Forming, Member}
use Rattle.proposals.specs.Proposing.{prepared_by}
use Rattle.refinement.proofs.Attempts.{may_be_called}
use Rattle.refinement.specs.Doings.{Act, Change, Doing, acted, changed, effect, site}
use Rattle.refinement.specs.Doings.Act.{Accepts, Dates, Ends, Gives, Goes_on, Hears, Makes, Minds, Notes, Queues, Spreads, Stores, Takes, Ticks, Waits, Works, Writes}
use Rattle.refinement.specs.Doings.Change.{Acks, Admits, Commits, Counts, Distrusts, Installs, Leads, Prepares, Promises, Proposes, Sits, Starts}
use Rattle.refinement.specs.Doings.Doing.{Comes_up, Does, Forgets, Goes_down, Loses, Saves}
use Rattle.refinement.specs.Guards.{May, MayAct, MayChange, SameProposed}
use Rattle.refinement.specs.Ties.{Delivered, NodeTied, PresidentTied, SeatTied}
use Rattle.seize.specs.Seizing as seizing
use Rattle.run_packets.specs.replies.Orders.{ActOrders, ChangeOrders, DoingOrders, EpochKept, NodeOf, OfficeOf, SeatOf}

-- its attempt is of its session
attempt_epoch : (c : Cluster) (M : Memberships) (n : ℕ) (disk : NodeRecord) (o : Option AttemptState) (seat : Seat) (a : AttemptState) (s : NodeState) → o ≡ Some a → seat ≡ Forming s → SeatTied c M n disk o seat
    → a.plan.epoch ≡ s.session
attempt_epoch c M n disk o seat a s has sits tied = (subst (λ z. SeatTied c M n disk (Some a) z) sits (subst (λ z. SeatTied c M n disk z seat) has tied)).2.epoch

rested_of : (x : UpNode) (p : ℕ) (o : Option AttemptState) → (let y : UpNode = rested_by (promising x p) o in SeatOf y.worker.epoch y.presidency y.seat)
rested_of x p None = tt
rested_of x p (Some a) = tt

with_state_of : (w : ℕ) (o : Option Presidency) (seat : Seat) (t : NodeState) → t.session ≡ (state_of seat).session → SeatOf w o seat → SeatOf w o (with_state seat t)
with_state_of w o (Forming s) t session h = tt
with_state_of w o (Member s) t session h = subst (λ e. (w ≡ e) × OfficeOf e o) (sym session) h

sits_of : (M : Memberships) (n : ℕ) (o : Option Presidency) (seat : Seat) (s t : NodeState) → seat ≡ Forming s → PresidentTied M n o seat → SeatOf t.session o (Member t)
sits_of M n None seat s t is tied = (refl, tt)
sits_of M n (Some p) seat s t is tied = absurd (subst (λ z. PresidentTied M n (Some p) z) is tied)

-- with something else in hand
office_of : (w e : ℕ) (o : Option Presidency) (p q : Presidency) (seat : Seat) → o ≡ Some p → q.groups.epoch ≡ p.groups.epoch → SeatOf w o seat → SeatOf w (Some q) seat
office_of w e o p q (Forming t) has same h = tt
office_of w e o p q (Member t) has same h = (h.0, same ∙ subst (OfficeOf t.session) has h.1)

change_of : (c : Cluster) (M : Memberships) (n : ℕ) (told : Delivered) (x : UpNode) (disk : NodeRecord) (change : Change) → NodeTied c M n disk (Up x) → MayChange c n told x change → ChangeOrders change → NodeOf (Up x)
    → NodeOf (Up (changed c n x change))
change_of c M n told x disk (Promises p) tied may so h = rested_of x p x.attempt
change_of c M n told x disk (Leads p members) tied may so h = tt
change_of c M n told x disk (Counts a k s i) tied may so h = tt
change_of c M n told x disk (Installs s i) tied may so h = tt
change_of c M n told x disk (Starts a k s) tied may so h =
    let same : (turn a k).after.plan.epoch ≡ s.session =
    ap (λ p. p.epoch) (plan_stays a k (may_be_called c told a k may.2)) ∙ attempt_epoch c M n disk x.attempt x.seat a s may.0 may.1 tied.0 in
    (same, same)
change_of c M n told x disk (Sits s e) tied may so h = sits_of M n x.presidency x.seat s (started_state s) may.0 tied.1
change_of c M n told x disk (Distrusts d) tied may so h = with_state_of x.worker.epoch x.presidency x.seat (with_valid (state_of x.seat) (set_without (record_of x).valid d)) refl h
change_of c M n told x disk (Admits at command a d) tied may so h = with_state_of x.worker.epoch x.presidency x.seat (with_joined (state_of x.seat) d) refl h
change_of c M n told x disk (Proposes s p text) tied may so h =
    let y : UpNode = changed c n x (Proposes s p text) in
    with_state_of x.worker.epoch y.presidency x.seat (with_entries (state_of x.seat) (with_next (record_of x).entries text)) refl (seat_in x.seat may.0 h)
  where
    seat_in : (seat : Seat) → x.presidency ≡ Some p → SeatOf x.worker.epoch x.presidency seat → SeatOf x.worker.epoch (changed c n x (Proposes s p text)).presidency seat
    seat_in (Forming t) has k = tt
    seat_in (Member t) has k = (k.0, subst (OfficeOf t.session) has k.1)
change_of c M n told x disk (Acks s p q left text) tied may so h =
    with_state_of x.worker.epoch (Some left) x.seat (with_entries (state_of x.seat) (all_committed (record_of x).entries)) refl (office_of x.worker.epoch 0 x.presidency p left x.seat may.0 so h)
change_of c M n told x disk (Prepares s text) tied may so h =
    with_state_of x.worker.epoch x.presidency (Member s) (with_entries s (left_by Taken s.saved.entries text)) refl (subst (SeatOf x.worker.epoch x.presidency) may.0 h)
change_of c M n told x disk (Commits s) tied may so h =
    with_state_of x.worker.epoch x.presidency (Member s) (with_entries s (all_committed s.saved.entries)) refl (subst (SeatOf x.worker.epoch x.presidency) may.0 h)

later_of : (w : ℕ) (o : Option Presidency) (seat : Seat) → SeatOf w o seat → SeatOf w (later_presidency o) seat
later_of w o (Forming t) h = tt
later_of w None (Member t) h = h
later_of w (Some p) (Member t) h = h

minds_of : (w : ℕ) (o q : Option Presidency) (seat : Seat) → SameProposed o q → EpochKept o q → SeatOf w o seat → SeatOf w q seat
minds_of w o q (Forming t) same kept h = tt
minds_of w None None (Member t) same kept h = h
minds_of w (Some p) (Some q) (Member t) same kept h = (h.0, kept ∙ h.1)
minds_of w None (Some q) (Member t) same kept h = absurd same
minds_of w (Some p) None (Member t) same kept h = absurd same

works_of : (w v : ℕ) (o : Option Presidency) (seat : Seat) → v ≡ w → SeatOf w o seat → SeatOf v o seat
works_of w v o seat same h = subst (λ z. SeatOf z o seat) (sym same) h

act_of : (c : Cluster) (M : Memberships) (n : ℕ) (told : Delivered) (x : UpNode) (disk : NodeRecord) (a : Act) → NodeTied c M n disk (Up x) → MayAct c n told x a → ActOrders x a → NodeOf (Up x) → NodeOf (Up (acted c n x a))
act_of c M n told x disk (Hears from b) tied may so h = h
act_of c M n told x disk Ticks tied may so h = later_of x.worker.epoch x.presidency x.seat h
act_of c M n told x disk Waits tied may so h = h
act_of c M n told x disk (Goes_on a k) tied may so h = h
act_of c M n told x disk (Ends a e) tied may so h = h
act_of c M n told x disk (Queues a d kind) tied may so h =
    if_either (λ (y : UpNode). NodeOf (Up y)) (has a.plan.members n)
    (record x { tasks = after_seize x.tasks d (seizing.begun kind a.plan.epoch a.plan.members n c.id (has (record_of x).valid d)) }) x h h
act_of c M n told x disk (Accepts kind e members d) tied may so h = h
act_of c M n told x disk (Takes at command a) tied may so h = h
act_of c M n told x disk (Stores d value a) tied may so h = h
act_of c M n told x disk (Writes to b) tied may so h = h
act_of c M n told x disk (Makes change) tied may so h = change_of c M n told x disk change tied may.0 so h
act_of c M n told x disk (Gives os) tied may so h = h
act_of c M n told x disk (Spreads receivers b) tied may so h = h
act_of c M n told x disk (Minds q p) tied may so h = minds_of x.worker.epoch x.presidency p x.seat may so h
act_of c M n told x disk (Notes from place p) tied may so h = office_of x.worker.epoch 0 x.presidency p (record p { proposals = prepared_by p.proposals from place }) x.seat may.0 refl h
act_of c M n told x disk (Dates now) tied may so h = h
act_of c M n told x disk (Works w) tied may so h = works_of x.worker.epoch w.epoch x.presidency x.seat so h

pub doing_of : (c : Cluster) (M : Memberships) (n : ℕ) (told : Delivered) (node : Node) (disk : NodeRecord) (d : Doing) → NodeTied c M n disk node → May c n told (site node disk) d → DoingOrders (site node disk) d → NodeOf node
    → NodeOf (effect c n (site node disk) d).node
doing_of c M n told Down disk Comes_up tied may so h = tt
doing_of c M n told (Up x) disk Comes_up tied may so h = h
doing_of c M n told node disk (Goes_down why) tied may so h = tt
doing_of c M n told Down disk (Does a) tied may so h = tt
doing_of c M n told (Up x) disk (Does a) tied may so h = act_of c M n told x disk a tied may so h
doing_of c M n told Down disk (Saves change) tied may so h = tt
doing_of c M n told (Up x) disk (Saves change) tied may so h = change_of c M n told x disk change tied may so h
doing_of c M n told node disk (Loses change why) tied may so h = tt
doing_of c M n told node disk (Forgets change why) tied may so h = tt

-- a president of a session has in hand what is of it
pub office_held : (c : Cluster) (M : Memberships) (n : ℕ) (x : UpNode) (disk : NodeRecord) → NodeTied c M n disk (Up x) → NodeOf (Up x) → OfficeOf (state_of x.seat).session x.presidency
office_held c M n x disk tied h = by_seat x.presidency x.seat tied.1 h
  where
    by_seat : (o : Option Presidency) (seat : Seat) → PresidentTied M n o seat → SeatOf x.worker.epoch o seat → OfficeOf (state_of seat).session o
    by_seat None (Forming t) president k = tt
    by_seat (Some p) (Forming t) president k = absurd president
    by_seat o (Member t) president k = k.1
