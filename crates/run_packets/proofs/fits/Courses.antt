-- Whatever comes to a node, its small steps name numbers, nodes and devices that may be.
use Rattle.std.specs.Prelude.{ℕ, ◌+◌, ◌*◌, ◌/◌, ◌≡◌, ◌<◌, ◌≤◌, ◌^◌, ◌&&◌, nat_le, nat_lt, Bool, true, false, if◌then◌else◌, List, [], ◌∷◌, Option, None, Some, IfSome, Ok}
use Rattle.std.proofs.Common.{refl, subst, arith}
use Rattle.cl_base.specs.Sets.{has}
use Rattle.cl_base.specs.declared.method.Outcome.{Outcome}
use Rattle.cl_base.specs.declared.panic.Panic.TheVariants as panic
use Rattle.cmm_attempt.proofs.Basics.{if_either, none_some}
use Rattle.cmm_attempt.specs.Attempts.{AttemptState}
use Rattle.cmm_attempt.specs.Calls.{Tick as Call_tick}
use Rattle.cmm_member.specs.Records.{NodeRecord}
use Rattle.device_queue.specs.Queue.{begins_plainly, due_device, first_of, next_of, progress_after, progress_by}
use Rattle.device_queue.specs.Tasks.{is_queued, joining_progress, progress_in, seizing_progress, work_answered}
use Rattle.device_queue.specs.declared.progress.Progress.{Progress}
use Rattle.device_queue.specs.declared.progress.Progress.TheVariants.{GoesOn, Joined, Seized}
use Rattle.device_queue.specs.declared.task.Task.{Task}
use Rattle.device_queue.specs.declared.task.Work.{Work}
use Rattle.device_queue.specs.declared.task.Work.TheVariants.{Joining, Seizing}
use Rattle.heartbeats.specs.Due.{begins}
use Rattle.cl_base.specs.Seizings.{SeizeResult}
use Rattle.node_model.specs.Attempts.{may_count_on, next_epoch}
use Rattle.node_model.specs.Configurations.{configured_at}
use Rattle.node_model.specs.Devices.{joining_so}
use Rattle.node_model.specs.Members.{hearing, is_foreign}
use Rattle.node_model.specs.Seats.{coordinator_of, promised_of, record_of}
use Rattle.node_model.specs.Steps.{at_second}
use Rattle.node_model.specs.Ticks.{later, members_to_form, membership_of, to_form_in, waiting_less}
use Rattle.node_model.specs.declared.cluster.Cluster.{Cluster}
use Rattle.node_model.specs.declared.input.Input.{Input}
use Rattle.node_model.specs.declared.input.Input.TheVariants.{Answered, Boot, Client, CommandDue, Commanded, Crash, Packet, Reported, Tick, Wrote}
use Rattle.node_model.specs.declared.node.Node.TheVariants.{Up}
use Rattle.node_model.specs.declared.node.UpNode.{UpNode}
use Rattle.pgr_device.specs.declared.command.PrAnswer.TheVariants as given
use Rattle.pgr_device.specs.declared.command.PrCommand.{PrCommand}
use Rattle.refinement.specs.Courses.{Course, Reply, joined, under}
use Rattle.refinement.specs.Courses.Course.{Acts, Falls, Keeps, Stops}
use Rattle.refinement.specs.Courses.Reply.{Done, Lost_new, Lost_old}
use Rattle.refinement.specs.Cuts as cuts
use Rattle.refinement.specs.Doings.{Act, Change, acted, answered_so, changed, site}
use Rattle.refinement.specs.Doings.Act.{Gives, Hears, Makes, Ticks, Waits}
use Rattle.refinement.specs.Doings.Change.{Admits, Counts, Leads}
use Rattle.run_attempts.proofs.Courses.{answer_taken_calm, begun_calm, body_calm, client_calm, command_calm, distrusting_calm, going_calm, report_calm}
use Rattle.run_attempts.proofs.Staid.{governing_staid}
use Rattle.run_attempts.proofs.Views.{tick_so}
use Rattle.run_attempts.specs.Steps.{ActSo, CalmAct, CalmChange, ChangeSo, GoesSo, IsCalm, IsDue, IsStaid, StaidAct, StaidChange, Wish}
use Rattle.run_history.proofs.Handlers.{IsAnswer, distrusting_is, packet_is, progress_is, tick_is}
use Rattle.run_history.proofs.Lists.{found}
use Rattle.run_history.proofs.Ordinary.{ActsSo, ChangesSo, IsOrdinary, IsOwnFall, Knows}
use Rattle.run_history.proofs.Requests.{client_is, command_is, report_is}
use Rattle.run_history.specs.Names.{AreListed, IsListed, TaskOf, UpNames}
use Rattle.run_packets.specs.native.Named.{InNodes}
use Rattle.seize.specs.Answers.{Answer}
use Rattle.seize.specs.Joining as joining
use Rattle.seize.specs.Seizing as seizing
use Rattle.seize.specs.declared.kind.JoinResult.{JoinResult}
use Rattle.seize.specs.declared.kind.JoinResult.TheVariants as join
use Rattle.status_report.specs.declared.node_entry.DownCause.{DownCause}
use Rattle.status_report.specs.declared.node_entry.DownCause.TheVariants as cause
use Rattle.wire.specs.declared.message.Message.{Message}
use Rattle.run_packets.specs.fits.Known.{FallsSo, KnownAct, KnownAll, KnownChange, KnownCourse}

-- ---- where no attempt begins

calm_change : (c : Cluster) (x : UpNode) (ch : Change) → CalmChange ch → ChangesSo (IsListed c) ch → KnownChange c x ch
calm_change c x (Leads p members) h k = absurd h
calm_change c x (Counts a q s i) h k = k
calm_change c x (Admits at command a d) h k = absurd k
calm_change c x _ h k = tt

calm_act : (c : Cluster) (x : UpNode) (a : Act) → CalmAct a → ActsSo (IsListed c) a → KnownAct c x a
calm_act c x Ticks h k = absurd h
calm_act c x (Makes ch) h k = calm_change c x ch h k
calm_act c x (Gives os) h k = k
calm_act c x _ h k = tt

own_fall : (why : DownCause) → IsOwnFall why → FallsSo why
own_fall (cause.Panic panic.Disk) h = absurd h
own_fall _ h = tt

calm_known : (c : Cluster) (n : ℕ) (x : UpNode) (k : Course) → IsCalm k → IsOrdinary (IsListed c) k → KnownCourse c n x k
calm_known c n x Stops h o = tt
calm_known c n x (Acts a rest) h o = (calm_act c x a h.0 o.0, calm_known c n (acted c n x a) rest h.1 o.1)
calm_known c n x (Keeps ch rest) h o = (calm_change c x ch h.0 o.0, calm_known c n (changed c n x ch) rest h.1 o.1)
calm_known c n x (Falls why) h o = own_fall why o

-- ---- numbers of attempts

abbrev LowChange : Change → Type 0
LowChange (Leads p members) = p < 2 ^ 63
LowChange _ = Unit {0}

abbrev LowAct : Act → Type 0
LowAct (Makes ch) = LowChange ch
LowAct _ = Unit {0}

abbrev Low : Course → Type 0
Low Stops = Unit {0}
Low (Acts a rest) = LowAct a × Low rest
Low (Keeps ch rest) = LowChange ch × Low rest
Low (Falls why) = Unit {0}

low_calm_change : (ch : Change) → CalmChange ch → LowChange ch
low_calm_change (Leads p members) h = absurd h
low_calm_change _ h = tt

low_calm_act : (a : Act) → CalmAct a → LowAct a
low_calm_act (Makes ch) h = low_calm_change ch h
low_calm_act _ h = tt

low_calm : (k : Course) → IsCalm k → Low k
low_calm Stops h = tt
low_calm (Acts a rest) h = (low_calm_act a h.0, low_calm rest h.1)
low_calm (Keeps ch rest) h = (low_calm_change ch h.0, low_calm rest h.1)
low_calm (Falls why) h = tt

low_staid_change : (ch : Change) → StaidChange ch → LowChange ch
low_staid_change (Leads p members) h = absurd h
low_staid_change _ h = tt

low_staid_act : (a : Act) → StaidAct a → LowAct a
low_staid_act (Makes ch) h = low_staid_change ch h
low_staid_act _ h = tt

low_staid : (c : Cluster) (n : ℕ) (x : UpNode) (k : Course) (next : UpNode → Course) → IsStaid k → ((y : UpNode) → Low (next y)) → Low (joined c n x k next)
low_staid c n x Stops next h f = f x
low_staid c n x (Acts a rest) next h f = (low_staid_act a h.0, low_staid c n (acted c n x a) rest next h.1 f)
low_staid c n x (Keeps ch rest) next h f = (low_staid_change ch h.0, low_staid c n (changed c n x ch) rest next h.1 f)
low_staid c n x (Falls why) next h f = tt

counts_on : (c : Cluster) (n : ℕ) (x : UpNode) (o : Option ℕ) (members : ℕ) → to_form_in c n x o ≡ Some members → may_count_on x.greatest ≡ true
counts_on c n x None members h = absurd (none_some members h)
counts_on c n x (Some view) members h = by_test (may_count_on x.greatest) (begins x.beats (configured_at c x) (membership_of x.seat)) (has view n) h
  where
    by_test : (first second third : Bool) → (if first && second && third then Some view else None) ≡ Some members → first ≡ true
    by_test true second third is = refl
    by_test false second third is = absurd (none_some members is)

less : (a b : ℕ) → nat_lt a b ≡ true → a < b
less a b h = grind arith

next_low : (n : ℕ) (x : UpNode) → n ≤ 32 → may_count_on x.greatest ≡ true → next_epoch n x < 2 ^ 63
next_low n x low may = small (x.greatest / 64) (less (x.greatest / 64) (2 ^ 56) may)
  where
    small : (k : ℕ) → k < 2 ^ 56 → (k + 1) * 64 + n < 2 ^ 63
    small k h = omega (arith, h, low)

low_forming : (c : Cluster) (n : ℕ) (x : UpNode) (o : Option ℕ) → n ≤ 32 → members_to_form c n x ≡ o → Low (cuts.forming_course c n x o)
low_forming c n x None low is = tt
low_forming c n x (Some members) low is =
    let p : ℕ = next_epoch n x in
    let y : UpNode = changed c n x (Leads p members) in
    if_either Low (nat_lt (promised_of x) p) (Keeps (Leads p members) (cuts.begun_course c n y (cuts.first_turn c n x p members))) Stops
    (next_low n x low (counts_on c n x x.beats.view members is), low_calm (cuts.begun_course c n y (cuts.first_turn c n x p members)) (begun_calm c n y (cuts.first_turn c n x p members))) tt

low_ticked : (c : Cluster) (n : ℕ) (x : UpNode) (o : Option AttemptState) → n ≤ 32 → Low (cuts.ticked_course c n x o)
low_ticked c n x (Some a) low = low_calm (cuts.going_course c n x a Call_tick) (going_calm c n x a Call_tick)
low_ticked c n x None low =
    let y : UpNode = waiting_less x in
    if_either Low (nat_le 1 x.beats.wait) (Acts Waits Stops) (Acts Waits (cuts.forming_course c n y (members_to_form c n y))) (tt, tt)
    (tt, low_forming c n y (members_to_form c n y) low refl)

-- ---- a tick

due_change : (c : Cluster) (P : Wish) → ((x : UpNode) (p members : ℕ) → P x p members → x.beats.view ≡ Some members) → (x : UpNode) (ch : Change) → ChangeSo P x ch → LowChange ch → ChangesSo (IsListed c) ch
    → KnownChange c x ch
due_change c P f x (Leads p members) h low k = (low, f x p members h)
due_change c P f x (Counts a q s i) h low k = k
due_change c P f x (Admits at command a d) h low k = absurd k
due_change c P f x _ h low k = tt

due_act : (c : Cluster) (P : Wish) → ((x : UpNode) (p members : ℕ) → P x p members → x.beats.view ≡ Some members) → (x : UpNode) (a : Act) → ActSo P x a → LowAct a → ActsSo (IsListed c) a → KnownAct c x a
due_act c P f x Ticks h low k = absurd h
due_act c P f x (Makes ch) h low k = due_change c P f x ch h low k
due_act c P f x (Gives os) h low k = k
due_act c P f x _ h low k = tt

due_known : (c : Cluster) (P : Wish) → ((x : UpNode) (p members : ℕ) → P x p members → x.beats.view ≡ Some members) → (n : ℕ) (x : UpNode) (k : Course) → GoesSo P c n x k → Low k → IsOrdinary (IsListed c) k → KnownCourse c n x k
due_known c P f n x Stops h low o = tt
due_known c P f n x (Acts a rest) h low o = (due_act c P f x a h.0 low.0 o.0, due_known c P f n (acted c n x a) rest h.1 low.1 o.1)
due_known c P f n x (Keeps ch rest) h low o = (due_change c P f x ch h.0 low.0 o.0, due_known c P f n (changed c n x ch) rest h.1 low.1 o.1)
due_known c P f n x (Falls why) h low o = own_fall why o

tick_known : (c : Cluster) (n : ℕ) (ends : Outcome) (x : UpNode) → n ≤ 32 → Knows c (IsListed c) → UpNames (IsListed c) x → IfSome (later c x).beats.view (InNodes c) → KnownCourse c n x (cuts.tick_course c n ends x)
tick_known c n ends x low K names view =
    let y : UpNode = later c x in
    let rest : Course = joined c n y (cuts.governing_course c n ends x y) (λ z. cuts.ticked_course c n z z.attempt) in
    let all : IsOrdinary (IsListed c) (Acts Ticks rest) = tick_is (IsListed c) c n ends x K names in (
      view,
      due_known c (IsDue c (configured_at c x) (membership_of x.seat)) (λ z p members is. is.view) n y rest (tick_so c n ends x)
          (low_staid c n y (cuts.governing_course c n ends x y) (λ z. cuts.ticked_course c n z z.attempt) (governing_staid c n ends x y) (λ z. low_ticked c n z z.attempt low)) all.1,
    )

-- ---- the answer of a device

goes_on_joined : (d : ℕ) (r : JoinResult) → GoesOn ≡ Joined d r → ⊥
goes_on_joined d r e = cc

seized_joined : (e d : ℕ) (o : Option SeizeResult) (r : JoinResult) → seizing_progress e o ≡ Joined d r → ⊥
seized_joined e d None r h = cc
seized_joined e d (Some s) r h = cc

joined_is : (e d : ℕ) (o : Option JoinResult) (r : JoinResult) → joining_progress e o ≡ Joined d r → e ≡ d
joined_is e d None r h = absurd (goes_on_joined d r h)
joined_is e d (Some s) r h = cc

work_is : (e d : ℕ) (w : Work) (r : JoinResult) → progress_in e w ≡ Joined d r → e ≡ d
work_is e d (Seizing s) r h = absurd (seized_joined e d (seizing.result_of s) r h)
work_is e d (Joining j) r h = joined_is e d (joining.result_of j) r h

-- what was joined is the device of a task
joined_listed : (D : ℕ → Type 0) (x : UpNode) (a : Answer) (d : ℕ) (r : JoinResult) → UpNames D x → progress_after x.tasks a ≡ Joined d r → D d
joined_listed D x a d r names is = by_first (first_of x.tasks) (found (TaskOf D) is_queued x.tasks names.0) is
  where
    by_first : (o : Option Task) → IfSome o (TaskOf D) → progress_by o a ≡ Joined d r → D d
    by_first None h e = absurd (goes_on_joined d r e)
    by_first (Some t) h e = subst D (work_is t.device d (work_answered a t.work) r e) h

answer_known : (c : Cluster) (n : ℕ) (x : UpNode) (at : ℕ) (k : PrCommand) (a : Answer) (p : Progress) → ((d : ℕ) (r : JoinResult) → p ≡ Joined d r → IsListed c d)
    → IsCalm (cuts.progress_course c n x at k a p) → IsAnswer (IsListed c) at k a (cuts.progress_course c n x at k a p) → KnownCourse c n x (cuts.progress_course c n x at k a p)
answer_known c n x at k a GoesOn f calm o = (tt, tt)
answer_known c n x at k a (Seized d r) f calm o = (tt, calm_known c n (answered_so x a) (cuts.seized_course c n (answered_so x a) d r (coordinator_of (answered_so x a))) calm.1 o.3)
answer_known c n x at k a (Joined d join.Joined) f calm o =
    let y : UpNode = joining_so (answered_so x a) d in
    (f d join.Joined refl, calm_known c n y (cuts.joined_course c n y (coordinator_of y)) calm.1 o.3)
answer_known c n x at k a (Joined d (join.Late w)) f calm o = (tt, calm_known c n (answered_so x a) (cuts.joined_course c n (answered_so x a) (coordinator_of (answered_so x a))) calm.1 o.3)
answer_known c n x at k a (Joined d join.Fault) f calm o = (tt, calm_known c n (answered_so x a) (cuts.joined_course c n (answered_so x a) (coordinator_of (answered_so x a))) calm.1 o.3)

answered_known : (c : Cluster) (n : ℕ) (x : UpNode) (a : Answer) (o : Option ℕ) (k : Option PrCommand) → Knows c (IsListed c) → UpNames (IsListed c) x → KnownCourse c n x (cuts.answered_course c n x a o k)
answered_known c n x a None k K names = tt
answered_known c n x a (Some d) None K names = tt
answered_known c n x a (Some d) (Some k) K names =
    answer_known c n x d k a (progress_after x.tasks a) (λ e r is. joined_listed (IsListed c) x a e r names is) (answer_taken_calm c n x a (Some d) (Some k)) (progress_is (IsListed c) c n x d k a (progress_after x.tasks a) K names)

-- ---- whatever comes

packet_known : (c : Cluster) (n : ℕ) (ends : Outcome) (x : UpNode) (from : ℕ) (m : Message) → Knows c (IsListed c) → UpNames (IsListed c) x → KnownCourse c n x (cuts.packet_course c n ends x from m)
packet_known c n ends x from m K names = by_test (is_foreign c n x m.body) (packet_is (IsListed c) c n ends x from m K names)
  where
    y : UpNode
    y = hearing x from m.body

    by_test : (t : Bool) → IsOrdinary (IsListed c) (if t then Stops else Acts (Hears from m.body) (cuts.body_course c n ends y from m m.body))
        → KnownCourse c n x (if t then Stops else Acts (Hears from m.body) (cuts.body_course c n ends y from m m.body))
    by_test true o = tt
    by_test false o = (tt, calm_known c n y (cuts.body_course c n ends y from m m.body) (body_calm c n ends y from m m.body) o.1)

fenced_known : (c : Cluster) (n : ℕ) (x : UpNode) (d : ℕ) (a : Answer) → KnownCourse c n x (cuts.fenced_course d a)
fenced_known c n x d (Ok given.Good) = tt
fenced_known c n x d (Ok given.Conflict) = tt
fenced_known c n x d _ = tt

course_known : (c : Cluster) (n : ℕ) (ends : Outcome) (x : UpNode) (i : Input) → n ≤ 32 → Knows c (IsListed c) → UpNames (IsListed c) x → IfSome (later c x).beats.view (InNodes c) → KnownCourse c n x (cuts.course_of c n ends x i)
course_known c n ends x Boot low K names view = tt
course_known c n ends x Crash low K names view = tt
course_known c n ends x Tick low K names view = tick_known c n ends x low K names view
course_known c n ends x (Packet from m) low K names view = packet_known c n ends x from m K names
course_known c n ends x CommandDue low K names view =
    calm_known c n x (cuts.distrusting_course x (begins_plainly x.tasks)) (distrusting_calm x (begins_plainly x.tasks)) (distrusting_is (IsListed c) x (begins_plainly x.tasks))
course_known c n ends x (Answered a) low K names view = answered_known c n x a (due_device x.tasks) (next_of x.tasks) K names
course_known c n ends x (Wrote d value a) low K names view = (tt, fenced_known c n x d a)
course_known c n ends x (Commanded words) low K names view = calm_known c n x (cuts.command_course c n x words) (command_calm c n x words) (command_is (IsListed c) c n x words)
course_known c n ends x (Reported r good) low K names view = calm_known c n x (cuts.report_course c n x r good) (report_calm c n x r good) (report_is (IsListed c) c n x r good)
course_known c n ends x (Client name client port) low K names view = calm_known c n x (cuts.client_course c x name client port) (client_calm c x name client port) (client_is (IsListed c) c x name client port)

pub known_listed : (c : Cluster) → AreListed c → Knows c (IsListed c)
known_listed c h = record { listed = λ d is. is; attached = h }

pub at_known : (c : Cluster) (n now : ℕ) (ends : Outcome) (x : UpNode) (i : Input) → n ≤ 32 → AreListed c → UpNames (IsListed c) x → IfSome (later c (at_second now x)).beats.view (InNodes c) → KnownCourse c n x (cuts.course_at c n now ends x i)
at_known c n now ends x i low listed names view = (tt, course_known c n ends (at_second now x) i low (known_listed c listed) names view)

-- ---- under all replies of the disk

pub under_known : (c : Cluster) (n : ℕ) (replies : List Reply) (disk : NodeRecord) (x : UpNode) (k : Course) → KnownCourse c n x k → KnownAll c n (site (Up x) disk) (under replies k)
under_known c n replies disk x Stops h = tt
under_known c n replies disk x (Acts a rest) h = (h.0, under_known c n replies disk (acted c n x a) rest h.1)
under_known c n [] disk x (Keeps ch rest) h = (h.0, tt)
under_known c n (Done ∷ replies) disk x (Keeps ch rest) h = (h.0, under_known c n replies (record_of (changed c n x ch)) (changed c n x ch) rest h.1)
under_known c n (Lost_new why ∷ replies) disk x (Keeps ch rest) h = (h.0, tt)
under_known c n (Lost_old why ∷ replies) disk x (Keeps ch rest) h = (h.0, tt)
under_known c n replies disk x (Falls why) h = (tt, tt)
