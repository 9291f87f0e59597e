-- Each change of a node leaves it with devices of the cluster.
use Rattle.std.specs.Prelude.{ℕ, ◌≡◌, List, [], Option, None, Some, IfSome}
use Rattle.std.proofs.Common.{sym, subst}
use Rattle.attempt_laws.proofs.Goes.{chosen_reached, goes_by_call}
use Rattle.ccr_commit.specs.Entries.{EntryList, all_committed, with_next}
use Rattle.cl_base.specs.Sets.{set_without}
use Rattle.cmm_attempt.specs.Attempts.{AttemptState, beginning}
use Rattle.cmm_attempt.specs.Calls.{Call, May as MayTake, installs_in, turn}
use Rattle.cmm_member.specs.Nodes.{NodeState, installed_with, promised_to, with_entries, with_joined, with_valid}
use Rattle.cmm_member.specs.Records.{NodeRecord}
use Rattle.device_queue.specs.declared.task.Task.{Task}
use Rattle.membership_machine.specs.State.{Memberships}
use Rattle.node_model.specs.Attempts.{installing, own_promise}
use Rattle.node_model.specs.Members.{rested_by}
use Rattle.node_model.specs.Seats.{promising, record_of, state_of, with_state}
use Rattle.node_model.specs.declared.cluster.Cluster.{Cluster}
use Rattle.node_model.specs.declared.node.UpNode.{UpNode}
use Rattle.node_model.specs.declared.seat.Seat.{Seat}
use Rattle.node_model.specs.declared.seat.Seat.TheVariants.{Forming, Member}
use Rattle.refinement.proofs.Attempts.{may_be_called}
use Rattle.refinement.proofs.Texts.{state_with}
use Rattle.refinement.specs.Doings.{Change, changed, going}
use Rattle.refinement.specs.Doings.Change.{Acks, Admits, Commits, Counts, Distrusts, Installs, Leads, Prepares, Promises, Proposes, Sits, Starts}
use Rattle.refinement.specs.Guards.{MayCall, MayChange, Says}
use Rattle.refinement.specs.Ties.{Delivered}
use Rattle.run_history.proofs.Changes.{At, at_attempt}
use Rattle.wire.specs.declared.message.Body.TheVariants as body
use Rattle.wire.specs.declared.message.Install.{Install}
use Rattle.run_packets.specs.native.Named.{AttemptKnown, IsKnown}
use Rattle.run_packets.proofs.native.Entries.{begun_known, call_known}
use Rattle.run_packets.specs.admitted.Guards.{ChangeFor}
use Rattle.run_packets.specs.admitted.Known.{AnswersGood, BodyKnown, DevicesKnown, HandKnown, InDevices, MemoryKnown, ReadingsKnown, StateKnown, TasksKnown, UpKnown}
use Rattle.node_model.specs.declared.presidency.Presidency.{Presidency}
use Rattle.run_packets.proofs.admitted.Offices.{nothing_good}
use Rattle.run_packets.proofs.admitted.Sets.{after_in, none_in, with_in, without_in}
use Rattle.run_packets.proofs.admitted.Tasks.{answer_known, joins_known}
use Rattle.run_packets.proofs.admitted.Writes.{installs_known}

-- with another state, other tasks and another attempt
parts : (c : Cluster) (s : NodeState) (tasks : List Task) (tries : Option AttemptState) (office : Option Presidency) → StateKnown c s → TasksKnown c tasks → IfSome tries (AttemptKnown c)
    → AnswersGood office → MemoryKnown c s tasks tries office
parts c s tasks tries office state tasks_are named good = record { state_so = state; tasks_so = tasks_are; attempt_so = named; office_so = good }

-- ---- states

forming_known : (c : Cluster) (seat : Seat) (s : NodeState) → seat ≡ Forming s → StateKnown c (state_of seat) → StateKnown c s
forming_known c seat s is h = subst (λ z. StateKnown c (state_of z)) is h

member_known : (c : Cluster) (seat : Seat) (s : NodeState) → seat ≡ Member s → StateKnown c (state_of seat) → StateKnown c s
member_known c seat s is h = subst (λ z. StateKnown c (state_of z)) is h

with_known : (c : Cluster) (seat : Seat) (s : NodeState) → StateKnown c s → StateKnown c (state_of (with_state seat s))
with_known c seat s h = subst (StateKnown c) (sym (state_with seat s)) h

promised_known : (c : Cluster) (s : NodeState) (p : ℕ) → StateKnown c s → StateKnown c (promised_to s p)
promised_known c s p h = record { valid_so = h.valid_so; joined_so = none_in c }

installed_known : (c : Cluster) (s : NodeState) (i : Install) → DevicesKnown c → ReadingsKnown c i.members i.readings → StateKnown c s → StateKnown c (installed_with s i)
installed_known c s i fixed are h =
    let two : InDevices c (installed_with s i).saved.valid × InDevices c (installed_with s i).joined = after_in c s i fixed are h.valid_so in
    record { valid_so = two.0; joined_so = two.1 }

entries_known : (c : Cluster) (s : NodeState) (entries : EntryList) → StateKnown c s → StateKnown c (with_entries s entries)
entries_known c s entries h = record { valid_so = h.valid_so; joined_so = h.joined_so }

rested_known : (c : Cluster) (p : ℕ) (x : UpNode) (o : Option AttemptState) → UpKnown c x → UpKnown c (rested_by (promising x p) o)
rested_known c p x None h = parts c (promised_to (state_of x.seat) p) [] None None (promised_known c (state_of x.seat) p h.state_so) tt tt tt
rested_known c p x (Some a) h = parts c (promised_to (state_of x.seat) p) [] None None (promised_known c (state_of x.seat) p h.state_so) tt tt tt

-- ---- its attempt

attempt_is : (c : Cluster) (o : Option AttemptState) (a : AttemptState) → o ≡ Some a → IfSome o (AttemptKnown c) → AttemptKnown c a
attempt_is c o a is h = subst (λ z. IfSome z (AttemptKnown c)) is h

pub turned_known : (c : Cluster) (told : Delivered) (x : UpNode) (a : AttemptState) (k : Call) → x.attempt ≡ Some a → MayCall c told a k → UpKnown c x → AttemptKnown c (turn a k).after
turned_known c told x a k is may h = call_known c a k (may_be_called c told a k may) (attempt_is c x.attempt a is h.attempt_so)

-- what it installs brings readings of devices
counted_known : (c : Cluster) (M : Memberships) (told : Delivered) (n : ℕ) (disk : NodeRecord) (x : UpNode) (a : AttemptState) (k : Call) (i : Install) → At c M n told disk x → x.attempt ≡ Some a
    → MayCall c told a k → installs_in (turn a k).steps ≡ Some i → UpKnown c x → ReadingsKnown c i.members i.readings
counted_known c M told n disk x a k i at is may installs h =
    let take : MayTake a k = may_be_called c told a k may in
    at_attempt c M n told disk x a (ReadingsKnown c i.members i.readings) at is
    (λ s shows co.
    subst (λ (z : Install). ReadingsKnown c z.members z.readings) (sym ((goes_by_call a k take (chosen_reached a co.reached)).install i installs).1)
    (installs_known c (turn a k).after (turned_known c told x a k is may h)))

brought_by : (c : Cluster) (i : Install) (told : Delivered) → Says (λ b. b ≡ body.Install i) told → HandKnown c told → ReadingsKnown c i.members i.readings
brought_by c i None says h = absurd says
brought_by c i (Some d) says h = subst (BodyKnown c) says h

-- another membership is installed
installing_known : (c : Cluster) (n : ℕ) (x : UpNode) (s : NodeState) (tasks : List Task) (i : Install) → DevicesKnown c → ReadingsKnown c i.members i.readings → StateKnown c s → TasksKnown c tasks
    → IfSome x.attempt (AttemptKnown c) → AnswersGood x.presidency → UpKnown c (installing c n x s tasks i)
installing_known c n x s tasks i fixed are state tasks_are named good =
    parts c (installed_with s i) _ x.attempt x.presidency (installed_known c s i fixed are state) (joins_known c n i.epoch (installed_with s i).joined i.members tasks i.readings are tasks_are) named good

joined_known : (c : Cluster) (s : NodeState) (d : ℕ) → DevicesKnown c → IsKnown c d → StateKnown c s → StateKnown c (with_joined s d)
joined_known c s d fixed is h = record { valid_so = with_in c s.saved.valid d fixed is h.valid_so; joined_so = with_in c s.joined d fixed is h.joined_so }

-- ---- each change

pub change_known : (c : Cluster) (M : Memberships) (n : ℕ) (told : Delivered) (disk : NodeRecord) (x : UpNode) (ch : Change) → DevicesKnown c → At c M n told disk x → MayChange c n told x ch
    → ChangeFor c x ch → HandKnown c told → UpKnown c x → UpKnown c (changed c n x ch)
change_known c M n told disk x (Promises p) fixed at may for hand h = rested_known c p x x.attempt h
change_known c M n told disk x (Leads p members) fixed at may for hand h =
    let y : UpNode = record (promising x p) { greatest = p } in
    parts c (promised_to (state_of x.seat) p) [] (Some (beginning p members (own_promise n y p) c.attached c.id).after) None (promised_known c (state_of x.seat) p h.state_so) tt
    (begun_known c p members (own_promise n y p) c.attached c.id fixed.attached) tt
change_known c M n told disk x (Counts a k s i) fixed at may for hand h =
    installing_known c n (going x a k) s [] i fixed (counted_known c M told n disk x a k i at may.0 may.2 may.3 h) (forming_known c x.seat s may.1 h.state_so) tt (turned_known c told x a k may.0 may.2 h) h.office_so
change_known c M n told disk x (Installs s i) fixed at may for hand h =
    installing_known c n x s x.tasks i fixed (brought_by c i told may.1 hand) (forming_known c x.seat s may.0 h.state_so) h.tasks_so h.attempt_so h.office_so
change_known c M n told disk x (Starts a k s) fixed at may for hand h =
    parts c (with_entries s (all_committed s.saved.entries)) x.tasks None _ (entries_known c s (all_committed s.saved.entries) (forming_known c x.seat s may.1 h.state_so)) h.tasks_so tt nothing_good
change_known c M n told disk x (Sits s e) fixed at may for hand h =
    parts c (with_entries s (all_committed s.saved.entries)) x.tasks x.attempt x.presidency (entries_known c s (all_committed s.saved.entries) (forming_known c x.seat s may.0 h.state_so)) h.tasks_so h.attempt_so h.office_so
change_known c M n told disk x (Distrusts d) fixed at may for hand h =
    let s : NodeState = state_of x.seat in
    parts c _ x.tasks x.attempt _ (with_known c x.seat (with_valid s (set_without s.saved.valid d)) (record { valid_so = without_in c s.saved.valid d h.state_so.valid_so; joined_so = h.state_so.joined_so }))
    h.tasks_so h.attempt_so h.office_so
change_known c M n told disk x (Admits on command a d) fixed at may for hand h =
    parts c _ _ x.attempt _ (with_known c x.seat (with_joined (state_of x.seat) d) (joined_known c (state_of x.seat) d fixed (for.1 h.tasks_so) h.state_so)) (answer_known c x.tasks a for.0 h.tasks_so) h.attempt_so h.office_so
change_known c M n told disk x (Proposes s p text) fixed at may for hand h =
    parts c _ x.tasks x.attempt _ (with_known c x.seat (with_entries (state_of x.seat) (with_next (record_of x).entries text)) (entries_known c (state_of x.seat) _ h.state_so)) h.tasks_so h.attempt_so (for h.office_so)
change_known c M n told disk x (Acks s p q left text) fixed at may for hand h =
    parts c _ x.tasks x.attempt _ (with_known c x.seat (with_entries (state_of x.seat) (all_committed (record_of x).entries)) (entries_known c (state_of x.seat) _ h.state_so)) h.tasks_so h.attempt_so (for h.office_so)
change_known c M n told disk x (Prepares s text) fixed at may for hand h =
    parts c _ x.tasks x.attempt _ (entries_known c s _ (member_known c x.seat s may.0 h.state_so)) h.tasks_so h.attempt_so h.office_so
change_known c M n told disk x (Commits s) fixed at may for hand h =
    parts c _ x.tasks x.attempt _ (entries_known c s _ (member_known c x.seat s may.0 h.state_so)) h.tasks_so h.attempt_so h.office_so
