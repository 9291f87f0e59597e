-- In each run: what a member has joined is what its lines tell.
use Rattle.std.specs.Prelude.{ℕ, ◌^◌, ◌≡◌, ◌≤◌, ◌<◌, ◌==◌, ◌&&◌, ◌||◌, not, Bool, true, false, List, [], ◌∷◌, Option, None, Some, find, is_some, length, if◌then◌else◌}
use Rattle.std.specs.List.{AllByRecursion, list_any}
use Rattle.std.proofs.Common.{refl, sym, ap, subst, ◌∙◌}
use Rattle.attempt_laws.specs.Machine.{is_member}
use Rattle.cl_base.specs.Limits.{most_devices}
use Rattle.cl_base.specs.Sets.{has}
use Rattle.cl_base.specs.declared.header.Header.{Header}
use Rattle.cluster_machine.proofs.Whole.{InOrder}
use Rattle.cluster_machine.specs.Agreement.{Agrees}
use Rattle.cluster_machine.specs.Cluster.{Cluster as Whole}
use Rattle.cluster_ties.proofs.First.{in_order}
use Rattle.cluster_ties.specs.Ties.{NodeAt, UpAt}
use Rattle.cmm_attempt.proofs.Basics.{false_true, none_some, same_number, same_some}
use Rattle.cmm_member.specs.Nodes.{NodeState}
use Rattle.cmm_member.specs.Records.{NodeRecord}
use Rattle.device_queue.specs.Queue as queue
use Rattle.device_queue.specs.Queue.{join_of, joins}
use Rattle.device_queue.specs.Tasks.{is_joining, is_over_in, is_queued}
use Rattle.device_queue.specs.declared.task.Task.{Task}
use Rattle.device_queue.specs.declared.task.Work.{Work}
use Rattle.device_queue.specs.declared.task.Work.TheVariants.{Joining, Seizing}
use Rattle.history.specs.Deeds.{Acked, Deed, Proposed, Started, deeds}
use Rattle.history.specs.Lines.{has_joined, holds_in}
use Rattle.history.specs.Moment.{Moment}
use Rattle.history.specs.Starts.{Start, is_started, start_of, starts}
use Rattle.membership_machine.specs.Invariant.{Holds}
use Rattle.membership_machine.specs.State.{Memberships, first_memberships}
use Rattle.seize.specs.Joining.{result_at}
use Rattle.seize.specs.declared.kind.JoinResult.TheVariants as join
use Rattle.seize.specs.declared.step.JoinStep.{JoinStep}
use Rattle.seize.specs.declared.step.JoinStep.TheVariants as step
use Rattle.node_model.specs.Clusters.{has_path}
use Rattle.node_model.specs.Seats.{installed_of, session_of, state_of}
use Rattle.node_model.specs.declared.cluster.Cluster.{Cluster}
use Rattle.node_model.specs.declared.node.Node.{Node}
use Rattle.node_model.specs.declared.node.Node.TheVariants.{Down, Up}
use Rattle.node_model.specs.declared.node.UpNode.{UpNode}
use Rattle.node_model.specs.declared.seat.Seat.{Seat}
use Rattle.node_model.specs.declared.seat.Seat.TheVariants.{Forming, Member}
use Rattle.refinement.proofs.Changes.{Sees, sees}
use Rattle.refinement.proofs.Facts.{facts_of}
use Rattle.refinement.specs.Facts.{Facts, JoinsFit, JoinsIn, OfMember}
use Rattle.refinement.specs.Ties.{NodeTied, setting_of}
use Rattle.world_model.specs.First.{first_cluster}
use Rattle.run_history.proofs.Complete.{starts_are_deeds, starts_in}
use Rattle.run_history.proofs.DeedRuns.{runs_are_cut}
use Rattle.run_history.proofs.MemberScenes.{members_of_each_run}
use Rattle.run_history.proofs.StartRuns.{starts_of_each_run}
use Rattle.run_history.proofs.Stays.{whole_holds}
use Rattle.run_history.specs.Happenings.{Happening, MayAllHappen, all_happened}
use Rattle.run_history.specs.Members.{NodeLines, SeatLines}
use Rattle.run_history.specs.Runs.{CutsOf}
use Rattle.run_history.specs.Scenes.{Scene, first_scene}
use Rattle.run_history.specs.Starts.{StartTold}
use Rattle.run_history.specs.Wholes.{IsWhole}
use Rattle.run_history.specs.WorldLines.{AreDisks}
use Rattle.run_lines.specs.writes.Joins.{Installed, NodeJoins, SiteDone, StepSo, TaskSo, UpJoins, WorkSo, is_spoiled}
use Rattle.run_lines.specs.writes.Scenes.{DeedDone, DoneIn, Settled}
use Rattle.run_lines.specs.writes.Sites.{Ready}
use Rattle.run_lines.specs.writes.Written.{NodeHeld, SeatHeld}
use Rattle.run_lines.proofs.writes.Settles.{Settles, each_run_settles}
use Rattle.run_lines.proofs.writes.Tasks.{join_over}

-- ---- the start of its membership

found : {X : Type 0} (P : X → Type 0) (f : X → Bool) (xs : List X) (x : X) → AllByRecursion P xs → find f xs ≡ Some x → (f x ≡ true) × P x
found P f [] x all is = absurd (none_some x is)
found P f (y ∷ ys) x all is = by_test (f y) refl is (λ e. found P f ys x all.1 e)
  where
    by_test : (b : Bool) → f y ≡ b → (if b then Some y else find f ys) ≡ Some x → (find f ys ≡ Some x → (f x ≡ true) × P x) → (f x ≡ true) × P x
    by_test true own some more = (subst (λ z. f z ≡ true) (same_some y x some) own, subst P (same_some y x some) all.0)
    by_test false own some more = more some

none_found : {X : Type 0} (f : X → Bool) (xs : List X) → list_any f xs ≡ true → find f xs ≡ None → ⊥
none_found f [] any none = false_true any
none_found f (x ∷ xs) any none = by_test (f x) any none (λ a b. none_found f xs a b)
  where
    by_test : (b : Bool) → (b || list_any f xs) ≡ true → (if b then Some x else find f xs) ≡ None → (list_any f xs ≡ true → find f xs ≡ None → ⊥) → ⊥
    by_test true some none more = none_some x (sym none)
    by_test false some none more = more some none

-- each of its members is ready
abbrev StartDone : Ready → Start → Type 0
StartDone K s = (m : ℕ) → is_member s.members m ≡ true → K m s.epoch

starts_done : (K : Ready) (ds : List Deed) → AllByRecursion (DeedDone K) ds → AllByRecursion (StartDone K) (starts_in ds)
starts_done K [] h = tt
starts_done K (Started s updates ∷ ds) h = (h.0, starts_done K ds h.1)
starts_done K (Proposed u ∷ ds) h = starts_done K ds h.1
starts_done K (Acked u ∷ ds) h = starts_done K ds h.1

-- ---- once all joinings are over

and_false : (b : Bool) → (b && false) ≡ false
and_false true = refl
and_false false = refl

none_so : (H J spoiled : Bool) → (J ≡ true → H ≡ true) → spoiled ≡ false → (J ≡ false → H ≡ false) → (H && not spoiled) ≡ J
none_so H true spoiled held clean out = ap (λ b. b && not spoiled) (held refl) ∙ ap not clean
none_so H false spoiled held clean out = ap (λ b. b && not spoiled) (out refl)

step_so : (H J spoiled : Bool) (s : JoinStep) → not (is_some (result_at s)) ≡ false → (J ≡ true → H ≡ true) → StepSo J spoiled s → (H && not spoiled) ≡ J
step_so H J spoiled (step.Ended join.Joined) over held so = ap (λ b. b && not spoiled) (held so.0) ∙ (ap not so.1 ∙ sym so.0)
step_so H J spoiled (step.Ended (join.Late w)) over held so = ap (λ b. H && not b) so.1 ∙ (and_false H ∙ sym so.0)
step_so H J spoiled (step.Ended join.Fault) over held so = ap (λ b. H && not b) so.1 ∙ (and_false H ∙ sym so.0)
step_so H J spoiled step.Register over held so = absurd (false_true (sym over))
step_so H J spoiled step.ReadWord over held so = absurd (false_true (sym over))

work_so : (e : ℕ) (H J spoiled : Bool) (w : Work) → is_joining w ≡ true → not (is_over_in w) ≡ false → (J ≡ true → H ≡ true) → WorkSo e J spoiled w → (H && not spoiled) ≡ J
work_so e H J spoiled (Joining j) is over held so = step_so H J spoiled j.step over held so.1
work_so e H J spoiled (Seizing s) is over held so = absurd (false_true is)

task_so : (e d : ℕ) (H J spoiled : Bool) (tasks : List Task) (o : Option Task) → join_of tasks d ≡ o → joins tasks ≡ false → (J ≡ true → H ≡ true) → TaskSo e J spoiled H o → (H && not spoiled) ≡ J
task_so e d H J spoiled tasks None is none held so = none_so H J spoiled held so.0 so.1
task_so e d H J spoiled tasks (Some t) is none held so =
    let over : (is_queued t ≡ false) × (is_joining t.work ≡ true) = join_over d tasks t none is in
    work_so e H J spoiled t.work over.1 over.0 held so

-- ---- a member

-- what is known of a member
record IsStarted (M : Memberships) (v : Ready) (ms : List Moment) (n : ℕ) (x : UpNode) : Type 0 where
  started : is_started (session_of x) ms ≡ true
  told : AllByRecursion (StartTold M) (starts ms)
  done : AllByRecursion (StartDone v) (starts ms)
  some : 0 < session_of x
  installed : installed_of x ≡ session_of x
  member : (M.epoch (session_of x)).members n ≡ true
  at : (p : ℕ) → v n p → session_of x ≡ p → queue.joins x.tasks ≡ false

-- its start is told, and by then it was ready
record StartOf (M : Memberships) (ms : List Moment) (x : UpNode) : Type 0 where
  start : Start
  found : start_of (session_of x) ms ≡ Some start
  told : StartTold M start
  epoch : start.epoch ≡ session_of x
  none : joins x.tasks ≡ false

start_found : (M : Memberships) (v : Ready) (ms : List Moment) (n : ℕ) (x : UpNode) → IsStarted M v ms n x → StartOf M ms x
start_found M v ms n x k = by_start (start_of (session_of x) ms) refl
  where
    is_own : Start → Bool
    is_own s = s.epoch == session_of x

    by_start : (o : Option Start) → start_of (session_of x) ms ≡ o → StartOf M ms x
    by_start None is = absurd (none_found is_own (starts ms) k.started is)
    by_start (Some s) is =
        let told : (is_own s ≡ true) × StartTold M s = found (StartTold M) is_own (starts ms) s k.told is in
        let done : (is_own s ≡ true) × StartDone v s = found (StartDone v) is_own (starts ms) s k.done is in
        let epoch : s.epoch ≡ session_of x = same_number s.epoch (session_of x) told.0 in
        let member : is_member s.members n ≡ true = sym (told.1.members n) ∙ subst (λ q. (M.epoch q).members n ≡ true) (sym epoch) k.member in
        record { start = s; found = is; told = told.1; epoch = epoch; none = k.at s.epoch (done.1 n member) (sym epoch) }

-- and of its joinings
record Known (c : Cluster) (M : Memberships) (v : Ready) (ms : List Moment) (n d : ℕ) (x : UpNode) : Type 0 where
  so : IsStarted M v ms n x
  joins : UpJoins c M ms n x
  held : (M.epoch (session_of x)).counted ≡ true → has (state_of x.seat).joined d ≡ true → (M.epoch (session_of x)).holds d ≡ true

up_held : (c : Cluster) (M : Memberships) (v : Ready) (ms : List Moment) (n d : ℕ) (x : UpNode) → Known c M v ms n d x → has_path c.attached n d ≡ true
    → has_joined n d (session_of x) ms ≡ has (state_of x.seat).joined d
up_held c M v ms n d x k path =
    let e : ℕ = session_of x in
    let f : StartOf M ms x = start_found M v ms n x k.so in
    let own : Installed c M ms n x = k.joins.joins k.so.some k.so.installed in
    let held : (M.epoch e).holds d ≡ has f.start.held d = subst (λ q. (M.epoch q).holds d ≡ has f.start.held d) f.epoch (f.told.held d) in
    ap (λ o. holds_in d o && not (is_spoiled n d e ms)) f.found
    ∙ (ap (λ b. b && not (is_spoiled n d e ms)) (sym held)
    ∙ task_so e d ((M.epoch e).holds d) (has (state_of x.seat).joined d) (is_spoiled n d e ms) x.tasks (join_of x.tasks d) refl f.none (k.held own.counted) (own.devices d path))

-- ---- in the scene

-- a device that it has joined is held by its membership
joined_holds : (c : Cluster) (W : Whole) (n d : ℕ) (x : UpNode) (disk : NodeRecord) → InOrder (setting_of c) W → Sees W.memberships n disk (state_of x.seat) → UpAt c W n x
    → (W.memberships.epoch (session_of x)).counted ≡ true → has (state_of x.seat).joined d ≡ true → (W.memberships.epoch (session_of x)).holds d ≡ true
joined_holds c W n d x disk order see at counted joined =
    let a : Agrees (setting_of c) d W.memberships (W.device d) = order.agrees d in
    let session : ((W.device d).node n).session ≡ session_of x = (a.node n).session ∙ see.session in
    let here : ((W.device d).attempt ((W.device d).node n).session).holds ≡ true = ((order.device d).node n).joined_held ((at.marks d).joined ∙ joined) in
    sym ((a.attempt (session_of x)).holds counted) ∙ subst (λ q. ((W.device d).attempt q).holds ≡ true) session here

-- a member of an installed membership is among its members
is_among : (c : Cluster) (M : Memberships) (n : ℕ) (x : UpNode) (disk : NodeRecord) → Holds (setting_of c) M → Sees M n disk (state_of x.seat) → 0 < session_of x → installed_of x ≡ session_of x
    → (M.epoch (session_of x)).members n ≡ true
is_among c M n x disk holds see some installed =
    let same : (M.node n).saved.installed ≡ session_of x = ap (λ r. r.installed) see.saved ∙ installed in
    subst (λ q. (M.epoch q).members n ≡ true) same
    ((holds.node n).ready_member (M.node n).saved.installed ((holds.node n).ready_last (subst (λ q. 0 < q) (sym same) some)))

-- a node that is a member
started_by : (c : Cluster) (W : Whole) (v : Ready) (ms : List Moment) (n : ℕ) (x : UpNode) (disk : NodeRecord) → Holds (setting_of c) W.memberships → Sees W.memberships n disk (state_of x.seat)
    → AllByRecursion (StartTold W.memberships) (starts ms) → AllByRecursion (StartDone v) (starts ms) → ((p : ℕ) → v n p → session_of x ≡ p → joins x.tasks ≡ false)
    → (z : NodeState) → x.seat ≡ Member z → SeatLines n (Member z) ms → OfMember (Member z) → IsStarted W.memberships v ms n x
started_by c W v ms n x disk holds see told done none z is lines own =
    let some : 0 < session_of x = subst (λ z. 0 < (state_of z).session) (sym is) own.0 in
    let installed : installed_of x ≡ session_of x = sym (subst (λ z. (state_of z).session ≡ (state_of z).saved.installed) (sym is) own.1) in
    record {
      started = subst (λ z. is_started (state_of z).session ms ≡ true) (sym is) lines.1;
      told = told;
      done = done;
      some = some;
      installed = installed;
      member = is_among c W.memberships n x disk holds see some installed;
      at = none;
    }

seat_held : (c : Cluster) (W : Whole) (v : Ready) (ms : List Moment) (n d : ℕ) (x : UpNode) (disk : NodeRecord) → InOrder (setting_of c) W → Holds (setting_of c) W.memberships
    → NodeTied c W.memberships n disk (Up x) → UpAt c W n x → AllByRecursion (StartTold W.memberships) (starts ms) → AllByRecursion (StartDone v) (starts ms) → UpJoins c W.memberships ms n x
    → ((p : ℕ) → v n p → session_of x ≡ p → joins x.tasks ≡ false) → has_path c.attached n d ≡ true → (z : Seat) → x.seat ≡ z → SeatLines n z ms → OfMember z → SeatHeld ms n d z
seat_held c W v ms n d x disk order holds tied at told done joined none path (Forming s) is lines own = tt
seat_held c W v ms n d x disk order holds tied at told done joined none path (Member s) is lines own =
    let see : Sees W.memberships n disk (state_of x.seat) = sees c W.memberships n disk x.attempt x.seat tied.0 in
    subst (λ z. has_joined n d (state_of z).session ms ≡ has (state_of z).joined d) is
    (up_held c W.memberships v ms n d x
    (record { so = started_by c W v ms n x disk holds see told done none s is lines own; joins = joined; held = joined_holds c W n d x disk order see at }) path)

node_held : (c : Cluster) (W : Whole) (v : Ready) (ms : List Moment) (n d : ℕ) (node : Node) (disk : NodeRecord) → InOrder (setting_of c) W → Holds (setting_of c) W.memberships
    → NodeTied c W.memberships n disk node → JoinsIn node → NodeAt c W n disk node → AllByRecursion (StartTold W.memberships) (starts ms) → AllByRecursion (StartDone v) (starts ms)
    → NodeJoins c W.memberships ms n node → ((p : ℕ) → v n p → SiteDone (record { node = node; disk = disk }) p) → NodeLines n node ms → NodeHeld c ms n d node
node_held c W v ms n d Down disk order holds tied fit at told done joined own lines = tt
node_held c W v ms n d (Up x) disk order holds tied fit at told done joined own lines =
    λ path.
    let f : Facts x = facts_of c W.memberships n disk x holds tied fit in
    seat_held c W v ms n d x disk order holds tied at told done joined (λ p k here. ((own p k).done.1 here).1) path x.seat refl lines.1 f.member

all_started : (c : Cluster) (M : Memberships) (s : Scene) → Settled c M s → AllByRecursion (StartDone (DoneIn s.nodes)) (starts s.moments)
all_started c M s b =
    subst (λ xs. AllByRecursion (StartDone (DoneIn s.nodes)) xs) (sym (starts_are_deeds s.moments b.closed.lines b.closed.due)) (starts_done (DoneIn s.nodes) (deeds s.moments) b.deeds_so)

pub held_of_each_run : (h : Header) (cells : ℕ) (hs : List Happening) → length h.devices ≤ most_devices → h.cluster < 2 ^ 32 → AreDisks h → MayAllHappen (first_cluster h) (first_scene h cells) hs
    → (n d : ℕ) → (let s : Scene = all_happened (first_cluster h) (first_scene h cells) hs in NodeHeld (first_cluster h) s.moments n d (s.nodes.node n))
held_of_each_run h cells hs few small disks may n d =
    let c : Cluster = first_cluster h in
    let cuts : CutsOf h cells hs = runs_are_cut h cells hs in
    let r : Settles c first_memberships (first_scene h cells) hs cuts = each_run_settles h cells hs cuts few small disks may in
    let s : Scene = all_happened c (first_scene h cells) hs in
    let w : IsWhole c s = r.scene in
    let W : Whole = w.machine in
    let b : Settled c W.memberships s = r.settled in
    let done : AllByRecursion (StartDone (DoneIn s.nodes)) (starts s.moments) = all_started c W.memberships s b in
    node_held c W (DoneIn s.nodes) s.moments n d (s.nodes.node n) (s.nodes.disk n).kept (in_order (setting_of c) W w.reached) (whole_holds (setting_of c) W w.reached) (w.sites n).tied (w.sites n).joins (w.sites n).at
    (starts_of_each_run h cells hs cuts W.memberships few may r.run) done (b.joins n) (λ p k. k) ((members_of_each_run h cells hs few may).nodes n)

-- ---- a member joins nothing more

abbrev pub SeatDone : UpNode → Seat → Type 0
SeatDone x (Forming s) = Unit {0}
SeatDone x (Member s) = (installed_of x ≡ session_of x) × (joins x.tasks ≡ false)

abbrev pub MemberDone : Node → Type 0
MemberDone Down = Unit {0}
MemberDone (Up x) = SeatDone x x.seat

node_done : (c : Cluster) (W : Whole) (v : Ready) (ms : List Moment) (n : ℕ) (node : Node) (disk : NodeRecord) → Holds (setting_of c) W.memberships → NodeTied c W.memberships n disk node → JoinsIn node
    → AllByRecursion (StartTold W.memberships) (starts ms) → AllByRecursion (StartDone v) (starts ms) → ((p : ℕ) → v n p → SiteDone (record { node = node; disk = disk }) p) → NodeLines n node ms → MemberDone node
node_done c W v ms n Down disk holds tied fit told done own lines = tt
node_done c W v ms n (Up x) disk holds tied fit told done own lines =
    by_seat x.seat refl lines.1 (facts_of c W.memberships n disk x holds tied fit).member
  where
    by_seat : (z : Seat) → x.seat ≡ z → SeatLines n z ms → OfMember z → SeatDone x z
    by_seat (Forming s) is seat member = tt
    by_seat (Member s) is seat member =
        let k : IsStarted W.memberships v ms n x =
        started_by c W v ms n x disk holds (sees c W.memberships n disk x.attempt x.seat tied.0) told done (λ p k here. ((own p k).done.1 here).1) s is seat member in
        (k.installed, (start_found W.memberships v ms n x k).none)

pub members_are_done : (h : Header) (cells : ℕ) (hs : List Happening) → length h.devices ≤ most_devices → h.cluster < 2 ^ 32 → AreDisks h → MayAllHappen (first_cluster h) (first_scene h cells) hs
    → (n : ℕ) → MemberDone ((all_happened (first_cluster h) (first_scene h cells) hs).nodes.node n)
members_are_done h cells hs few small disks may n =
    let c : Cluster = first_cluster h in
    let cuts : CutsOf h cells hs = runs_are_cut h cells hs in
    let r : Settles c first_memberships (first_scene h cells) hs cuts = each_run_settles h cells hs cuts few small disks may in
    let s : Scene = all_happened c (first_scene h cells) hs in
    let w : IsWhole c s = r.scene in
    let W : Whole = w.machine in
    let b : Settled c W.memberships s = r.settled in
    node_done c W (DoneIn s.nodes) s.moments n (s.nodes.node n) (s.nodes.disk n).kept (whole_holds (setting_of c) W w.reached) (w.sites n).tied (w.sites n).joins
    (starts_of_each_run h cells hs cuts W.memberships few may r.run) (all_started c W.memberships s b) (λ p k. k) ((members_of_each_run h cells hs few may).nodes n)
