-- Each change of a node leaves it with members that are nodes of the header.
use Rattle.std.specs.Prelude.{ℕ, ◌≡◌, List, Option, None, Some, IfSome}
use Rattle.std.proofs.Common.{sym, subst}
use Rattle.attempt_laws.proofs.Goes.{chosen_reached, goes_by_call}
use Rattle.attempt_laws.proofs.Stays.{plan_begins, plan_stays}
use Rattle.ccr_commit.specs.Entries.{all_committed, with_next}
use Rattle.cl_base.specs.Sets.{set_without}
use Rattle.cmm_attempt.specs.Attempts.{AttemptState, beginning}
use Rattle.cmm_attempt.specs.Calls.{Call, May as MayTake, installs_in, turn}
use Rattle.cmm_attempt.specs.declared.plan.Plan.{Plan}
use Rattle.cmm_member.specs.Nodes.{NodeState, with_entries, with_joined, with_valid}
use Rattle.cmm_member.specs.Records.{NodeRecord}
use Rattle.heartbeats.specs.declared.peer.Peer.{Peer}
use Rattle.membership_machine.specs.State.{Memberships}
use Rattle.node_model.specs.Attempts.{own_promise}
use Rattle.node_model.specs.Members.{rested_by}
use Rattle.node_model.specs.Seats.{promising, record_of, state_of, with_state}
use Rattle.node_model.specs.declared.cluster.Cluster.{Cluster}
use Rattle.node_model.specs.declared.node.UpNode.{UpNode}
use Rattle.node_model.specs.declared.seat.Seat.{Seat}
use Rattle.node_model.specs.declared.seat.Seat.TheVariants.{Forming, Member}
use Rattle.refinement.proofs.Attempts.{may_be_called}
use Rattle.refinement.proofs.Texts.{state_with}
use Rattle.refinement.specs.Doings.{Change, changed}
use Rattle.refinement.specs.Doings.Change.{Acks, Admits, Commits, Counts, Distrusts, Installs, Leads, Prepares, Promises, Proposes, Sits, Starts}
use Rattle.refinement.specs.Guards.{MayCall, MayChange, Says}
use Rattle.refinement.specs.Ties.{Delivered}
use Rattle.run_attempts.specs.Steps.{ChangeSo}
use Rattle.run_history.proofs.Changes.{At, at_attempt}
use Rattle.wire.specs.declared.message.Body.TheVariants as body
use Rattle.wire.specs.declared.message.Install.{Install}
use Rattle.run_packets.specs.native.Named.{AttemptNamed, BodyNamed, HandNamed, InNodes, MemoryNamed, UpNamed, WithView}
use Rattle.run_packets.proofs.native.Entries.{begun_known, call_known}
use Rattle.run_packets.proofs.native.Writes.{install_members}

-- with other members and another attempt; what it has heard and sees is the same
pub named_with : (c : Cluster) (n old members : ℕ) (before tries : Option AttemptState) (me : ℕ) (peers : List (Option Peer)) (view : Option ℕ) → InNodes c members → AttemptNamed c tries
    → MemoryNamed c n old before me peers view → MemoryNamed c n members tries me peers view
named_with c n old members before tries me peers view are named h =
    record { node = h.node; attached_known = h.attached_known; members_so = are; attempt_so = named; me_so = h.me_so; peers_so = h.peers_so; view_so = h.view_so }

-- of a node that goes on to y
pub goes_with : (c : Cluster) (n : ℕ) (x : UpNode) (members : ℕ) (tries : Option AttemptState) → InNodes c members → AttemptNamed c tries → UpNamed c n x
    → MemoryNamed c n members tries x.beats.me x.beats.peers x.beats.view
goes_with c n x members tries are named h = named_with c n (record_of x).members members x.attempt tries x.beats.me x.beats.peers x.beats.view are named h

rested_named : (c : Cluster) (n p : ℕ) (x : UpNode) (o : Option AttemptState) → UpNamed c n x → UpNamed c n (rested_by (promising x p) o)
rested_named c n p x None h = goes_with c n x (record_of x).members None h.members_so tt h
rested_named c n p x (Some a) h = goes_with c n x (record_of x).members None h.members_so tt h

-- ---- its attempt

attempt_is : (c : Cluster) (o : Option AttemptState) (a : AttemptState) → o ≡ Some a → AttemptNamed c o → AttemptNamed c (Some a)
attempt_is c o a is h = subst (AttemptNamed c) is h

-- a call keeps the plan
pub turned_named : (c : Cluster) (told : Delivered) (n : ℕ) (x : UpNode) (a : AttemptState) (k : Call) → x.attempt ≡ Some a → MayCall c told a k → UpNamed c n x → AttemptNamed c (Some (turn a k).after)
turned_named c told n x a k is may h =
    let old : AttemptNamed c (Some a) = attempt_is c x.attempt a is h.attempt_so in
    let take : MayTake a k = may_be_called c told a k may in
    (subst (λ (p : Plan). InNodes c p.members) (sym (plan_stays a k take)) old.0, call_known c a k take old.1)

-- what it installs has its members
counted_named : (c : Cluster) (M : Memberships) (told : Delivered) (n : ℕ) (disk : NodeRecord) (x : UpNode) (a : AttemptState) (k : Call) (i : Install) → At c M n told disk x → x.attempt ≡ Some a
    → MayCall c told a k → installs_in (turn a k).steps ≡ Some i → UpNamed c n x → InNodes c i.members
counted_named c M told n disk x a k i at is may installs h =
    let take : MayTake a k = may_be_called c told a k may in
    at_attempt c M n told disk x a (InNodes c i.members) at is
    (λ s shows co.
    subst (λ (z : Install). InNodes c z.members) (sym ((goes_by_call a k take (chosen_reached a co.reached)).install i installs).1)
    (subst (InNodes c) (sym (install_members (turn a k).after)) (turned_named c told n x a k is may h).0))

-- ---- its record

brought_by : (c : Cluster) (i : Install) (told : Delivered) → Says (λ b. b ≡ body.Install i) told → HandNamed c told → InNodes c i.members
brought_by c i None says h = absurd says
brought_by c i (Some d) says h = (subst (BodyNamed c) says h.1).0

seat_members : (c : Cluster) (seat : Seat) (s : NodeState) → seat ≡ Forming s → InNodes c (state_of seat).saved.members → InNodes c s.saved.members
seat_members c seat s is h = subst (λ z. InNodes c (state_of z).saved.members) is h

member_members : (c : Cluster) (seat : Seat) (s : NodeState) → seat ≡ Member s → InNodes c (state_of seat).saved.members → InNodes c s.saved.members
member_members c seat s is h = subst (λ z. InNodes c (state_of z).saved.members) is h

with_members : (c : Cluster) (seat : Seat) (s : NodeState) → InNodes c s.saved.members → InNodes c (state_of (with_state seat s)).saved.members
with_members c seat s h = subst (λ (z : NodeState). InNodes c z.saved.members) (sym (state_with seat s)) h

-- ---- each change

pub change_named : (c : Cluster) (M : Memberships) (n : ℕ) (told : Delivered) (disk : NodeRecord) (x : UpNode) (ch : Change) → At c M n told disk x → MayChange c n told x ch → ChangeSo WithView x ch
    → HandNamed c told → UpNamed c n x → UpNamed c n (changed c n x ch)
change_named c M n told disk x (Promises p) at may so hand h = rested_named c n p x x.attempt h
change_named c M n told disk x (Leads p members) at may so hand h =
    let y : UpNode = record (promising x p) { greatest = p } in
    goes_with c n x (record_of x).members (Some (beginning p members (own_promise n y p) c.attached c.id).after) h.members_so (
      subst (InNodes c) (sym (plan_begins p members (own_promise n y p) c.attached c.id).of_members) (subst (λ o. IfSome o (InNodes c)) so h.view_so),
      begun_known c p members (own_promise n y p) c.attached c.id h.attached_known,
    ) h
change_named c M n told disk x (Counts a k s i) at may so hand h =
    goes_with c n x i.members (Some (turn a k).after) (counted_named c M told n disk x a k i at may.0 may.2 may.3 h) (turned_named c told n x a k may.0 may.2 h) h
change_named c M n told disk x (Installs s i) at may so hand h = goes_with c n x i.members x.attempt (brought_by c i told may.1 hand) h.attempt_so h
change_named c M n told disk x (Starts a k s) at may so hand h = goes_with c n x s.saved.members None (seat_members c x.seat s may.1 h.members_so) tt h
change_named c M n told disk x (Sits s e) at may so hand h = goes_with c n x s.saved.members x.attempt (seat_members c x.seat s may.0 h.members_so) h.attempt_so h
change_named c M n told disk x (Distrusts d) at may so hand h =
    goes_with c n x _ x.attempt (with_members c x.seat (with_valid (state_of x.seat) (set_without (record_of x).valid d)) h.members_so) h.attempt_so h
change_named c M n told disk x (Admits on command a d) at may so hand h = goes_with c n x _ x.attempt (with_members c x.seat (with_joined (state_of x.seat) d) h.members_so) h.attempt_so h
change_named c M n told disk x (Proposes s p text) at may so hand h =
    goes_with c n x _ x.attempt (with_members c x.seat (with_entries (state_of x.seat) (with_next (record_of x).entries text)) h.members_so) h.attempt_so h
change_named c M n told disk x (Acks s p q left text) at may so hand h =
    goes_with c n x _ x.attempt (with_members c x.seat (with_entries (state_of x.seat) (all_committed (record_of x).entries)) h.members_so) h.attempt_so h
change_named c M n told disk x (Prepares s text) at may so hand h = goes_with c n x s.saved.members x.attempt (member_members c x.seat s may.0 h.members_so) h.attempt_so h
change_named c M n told disk x (Commits s) at may so hand h = goes_with c n x s.saved.members x.attempt (member_members c x.seat s may.0 h.members_so) h.attempt_so h
