-- A node that takes the answer to its command: what it saves then, and where it goes down in that.
use Rattle.std.specs.Prelude.{ℕ, ◌≡◌, ◌==◌, ◌&&◌, ◌||◌, not, Bool, true, false, List, [], ◌∷◌, filter, if◌then◌else◌, is_some, Option, None, Some}
use Rattle.std.specs.List.{list_any}
use Rattle.std.proofs.Common.{refl, sym, ap, ◌∙◌, arith}
use Rattle.cl_base.specs.Seizings.{SeizeResult}
use Rattle.cmm_attempt.proofs.Basics.{false_true, if_either}
use Rattle.cmm_attempt.specs.Attempts.{AttemptState}
use Rattle.cmm_attempt.specs.Calls.{Own_seized}
use Rattle.cmm_member.specs.Records.{NodeRecord}
use Rattle.device_queue.specs.Queue.{first_of, joins, next_of, progress_after, progress_by}
use Rattle.device_queue.specs.Tasks.{is_queued, joining_progress, progress_in, seizing_progress, work_answered}
use Rattle.device_queue.specs.declared.progress.Progress.{Progress}
use Rattle.device_queue.specs.declared.progress.Progress.TheVariants.{GoesOn, Joined, Seized}
use Rattle.device_queue.specs.declared.task.Task.{Task}
use Rattle.device_queue.specs.declared.task.Work.{Work}
use Rattle.device_queue.specs.declared.task.Work.TheVariants.{Joining, Seizing}
use Rattle.history.specs.Member as member
use Rattle.history.specs.Member.{attempt_of}
use Rattle.history.specs.Moment.{Moment}
use Rattle.history.specs.Order.{so_far, under_way}
use Rattle.history.specs.Queue as told
use Rattle.history.specs.Saves.{has_joined, is_command_of, is_joined, joined_by}
use Rattle.history.specs.Setting.{Setting}
use Rattle.node_model.specs.declared.cluster.Cluster.{Cluster}
use Rattle.node_model.specs.declared.node.Node.TheVariants.{Up}
use Rattle.node_model.specs.declared.node.UpNode.{UpNode}
use Rattle.node_model.specs.declared.output.Output.TheVariants.{Tells}
use Rattle.node_model.specs.Devices.{answer_told, joining_so}
use Rattle.node_model.specs.Members.{ready_of}
use Rattle.node_model.specs.Seats.{coordinator_of, record_of, session_of}
use Rattle.pgr_device.specs.declared.command.PrCommand.{PrCommand}
use Rattle.refinement.specs.Courses.{Course, Reply, under}
use Rattle.refinement.specs.Courses.Course.{Acts, Keeps, Stops}
use Rattle.refinement.specs.Courses.Reply.{Done, Lost_new, Lost_old}
use Rattle.refinement.specs.Cuts as cuts
use Rattle.refinement.specs.Cuts.{answered_course, joined_course, joining_course, progress_course, seized_course}
use Rattle.refinement.specs.Doings.{answered_so, changed, given_all, site}
use Rattle.refinement.specs.Doings.Act.{Takes}
use Rattle.refinement.specs.Doings.Change.{Admits}
use Rattle.refinement.specs.Guards.{MayAll}
use Rattle.refinement.specs.Ties.{Delivered}
use Rattle.schedule_text.specs.declared.event.Event.TheVariants as event
use Rattle.seize.specs.Answers.{Answer}
use Rattle.seize.specs.Joining as joining
use Rattle.seize.specs.Seizing as seizing
use Rattle.seize.specs.declared.kind.JoinResult.{JoinResult}
use Rattle.seize.specs.declared.kind.JoinResult.TheVariants as join
use Rattle.status_report.specs.declared.device_entry.DeviceEntry.TheVariants as device_entry
use Rattle.status_report.specs.declared.entry.Entry.{Entry}
use Rattle.status_report.specs.declared.entry.Entry.TheVariants as entry
use Rattle.status_report.specs.declared.node_entry.DownCause.{DownCause}
use Rattle.status_report.specs.declared.node_entry.DownCause.TheVariants as cause
use Rattle.status_report.specs.declared.node_entry.NodeEntry.TheVariants as note
use Rattle.wire.specs.declared.message.Body.TheVariants as body
use Rattle.run_history.proofs.Small.{AllSmall}
use Rattle.run_history.specs.Scenes.{Scene, passing, telling}
use Rattle.run_attempts.specs.endings.Laws.{epoch_of}
use Rattle.run_devices.proofs.queues.Acts.{due_writes, line_of}
use Rattle.run_devices.specs.queues.Laws.{Same, SameTask, SameWork, queued}
use Rattle.run_outcomes.specs.saves.Courses.{IsTried}
use Rattle.run_outcomes.specs.saves.Kept.{IsOnWay}
use Rattle.run_outcomes.specs.stops.Idle.{AllDisk, AllIdle, HasCommand, HasJoined}
use Rattle.run_outcomes.proofs.saves.Trying.{Tries, going_t, own_ready_t, under_tried}
use Rattle.run_outcomes.proofs.saves.Ways.{still_on}
use Rattle.run_outcomes.proofs.stops.DiskRules.{gone_disk, joined_rule}
use Rattle.run_outcomes.proofs.stops.DiskWalk.{all_disk}
use Rattle.run_outcomes.proofs.stops.Queued.{IsHead, head_same, line_tasks, moved_joined, with_own_any}

-- ---- a joining that this answer ends

is_joined_by : Progress → Bool
is_joined_by GoesOn = false
is_joined_by (Seized d result) = false
is_joined_by (Joined d result) = is_joined (Some result)

no_seizing : (d : ℕ) (o : Option SeizeResult) → is_joined_by (seizing_progress d o) ≡ false
unfolding is_joined_by
no_seizing d None = refl
no_seizing d (Some result) = refl

same_joining : (d : ℕ) (o : Option JoinResult) → is_joined_by (joining_progress d o) ≡ is_joined o
unfolding is_joined_by
same_joining d None = refl
same_joining d (Some result) = refl

work_joined : (a : Answer) (w : Work) (u : told.Work) (d : ℕ) → SameWork w u → is_joined_by (progress_in d (work_answered a w)) ≡ true → joined_by (told.work_after u a) ≡ true
work_joined a (Seizing s) (told.Seizes r) d k is = absurd (false_true (sym (no_seizing d (seizing.result_of (seizing.taken s a))) ∙ is))
work_joined a (Joining j) (told.Joins i) d k is = ap (λ z. is_joined (joining.result_of (joining.taken z a))) (sym k) ∙ (sym (same_joining d (joining.result_of (joining.taken j a))) ∙ is)
work_joined a (Seizing s) (told.Joins i) d k is = absurd k
work_joined a (Joining j) (told.Seizes r) d k is = absurd k

head_joined : (a : Answer) (t : Task) (us : List told.Task) → IsHead (SameTask t) us → is_joined_by (progress_in t.device (work_answered a t.work)) ≡ true → IsHead (λ u. joined_by (told.work_after u.work a) ≡ true) us
head_joined a t [] k is = absurd k
head_joined a t (u ∷ us) k is = work_joined a t.work u.work t.device k.1 is

first_joined : (a : Answer) (ts : List Task) (us : List told.Task) → is_joined_by (progress_after ts a) ≡ true → Same (filter is_queued ts) us → IsHead (λ u. joined_by (told.work_after u.work a) ≡ true) us
unfolding is_joined_by
first_joined a ts us is k = by_first (first_of ts) refl is
  where
    by_first : (o : Option Task) → first_of ts ≡ o → is_joined_by (progress_by o a) ≡ true → IsHead (λ u. joined_by (told.work_after u.work a) ≡ true) us
    by_first None found is = absurd (false_true is)
    by_first (Some t) found is = head_joined a t us (head_same ts t us found k) is

still_told : (a b : Bool) → (a || (b && not false)) ≡ false → b ≡ false
still_told true b h = absurd (false_true (sym h))
still_told false true h = absurd (false_true (sym h))
still_told false false h = refl

-- the lines tell the queue of the node
abbrev pub IsTold : Setting → ℕ → UpNode → List Moment → Type 0
IsTold S n x ms = told.queue_is_open S n ms ≡ false → Same (filter is_queued x.tasks) (told.queued_of S n ms)

-- what is first in a queue is the first task that is not over
head_of_queue : (P : told.Task → Type 0) (S : Setting) (n : ℕ) (ms : List Moment) → IsHead P (told.queued_of S n ms) → IsHead P (queued (told.tasks_of S n ms))
head_of_queue P S n ms k = by_test (is_some (member.member_of n ms)) k
  where
    by_test : (b : Bool) → IsHead P (if b then [] else queued (told.tasks_of S n ms)) → IsHead P (queued (told.tasks_of S n ms))
    by_test true k = absurd k
    by_test false k = k

-- by this answer it has joined the device
joined_told : (S : Setting) (n at : ℕ) (q : PrCommand) (a : Answer) (x : UpNode) (ms : List Moment) → told.is_write q ≡ false → is_joined_by (progress_after x.tasks a) ≡ true → IsTold S n x ms → HasJoined S n (line_of n at q a ∷ ms)
joined_told S n at q a x ms off is queue = λ shut.
    let before : told.queue_is_open S n ms ≡ false =
    still_told (told.is_untold S n (attempt_of n (line_of n at q a ∷ ms)) (line_of n at q a ∷ ms)) (told.queue_is_open S n ms) shut in
    ap (λ us. list_any has_joined us) (line_tasks S n at q a ms off)
    ∙ with_own_any has_joined S n (attempt_of n ms) (line_of n at q a ∷ ms) (told.moved a (told.tasks_of S n ms))
    (moved_joined a (told.tasks_of S n ms) (head_of_queue (λ u. joined_by (told.work_after u.work a) ≡ true) S n ms (first_joined a x.tasks (told.queued_of S n ms) is (queue before))))

-- ---- the line of the command

itself : (n : ℕ) → (n == n) ≡ true
itself n = grind arith

or_first : (a b : Bool) → a ≡ true → (a || b) ≡ true
or_first true b h = refl
or_first false b h = absurd (false_true h)

-- what is so of the node as its command comes
pub record Comes (S : Setting) (n : ℕ) (x : UpNode) (ms : List Moment) : Type 0 where
  pub stops : AllDisk S ms
  pub way : IsOnWay n ms (Up x)
  pub here : under_way ms ≡ Some (event.Disk n)
  pub queue : IsTold S n x ms

told_line : ℕ → ℕ → PrCommand → Answer → Entry
told_line n at q a = entry.Device (device_entry.Command n at q (answer_told a))

line_done : (n at : ℕ) (q : PrCommand) (a : Answer) (ms : List Moment) → HasCommand n (line_of n at q a ∷ ms)
line_done n at q a ms = or_first (n == n) (list_any (is_command_of n) (so_far ms)) (itself n)

-- ---- what follows it

readying_t : (c : Cluster) (x : UpNode) (to : ℕ) → Tries IsTried (cuts.readying_course c x to)
readying_t c x to = if_either (Tries IsTried) (joins x.tasks) Stops (cuts.writing to (ready_of c x)) tt (tt, tt)

joined_t : (c : Cluster) (n : ℕ) (x : UpNode) (o : Option ℕ) → Tries IsTried (joined_course c n x o)
joined_t c n x None = tt
joined_t c n x (Some m) = if_either (Tries IsTried) (m == n) (cuts.own_ready_course c n x) (cuts.readying_course c x m) (own_ready_t c n x) (readying_t c x m)

own_seized_t : (c : Cluster) (n : ℕ) (x : UpNode) (d : ℕ) (r : SeizeResult) (o : Option AttemptState) → Tries IsTried (cuts.own_seized_course c n x d r o)
own_seized_t c n x d r None = tt
own_seized_t c n x d r (Some a) = going_t c n x a (Own_seized d r)

seized_t : (c : Cluster) (n : ℕ) (x : UpNode) (d : ℕ) (r : SeizeResult) (o : Option ℕ) → Tries IsTried (seized_course c n x d r o)
seized_t c n x d r None = tt
seized_t c n x d r (Some m) =
    if_either (Tries IsTried) (m == n) (cuts.own_seized_course c n x d r x.attempt) (cuts.writing m (body.Seized (session_of x) d r)) (own_seized_t c n x d r x.attempt) (tt, tt)

-- ---- what it saves

-- nothing by the answer itself
takes_disk : (S : Setting) (c : Cluster) (n : ℕ) (came : Delivered) (x : UpNode) (disk : NodeRecord) (at : ℕ) (q : PrCommand) (a : Answer) (rest : Course) (replies : List Reply) (s : Scene) → Tries IsTried rest
    → MayAll c n came (site (Up x) disk) (under replies (Acts (Takes at q a) rest)) → AllSmall (under replies (Acts (Takes at q a) rest)) → AllIdle S c n (site (Up x) disk) (under replies (Acts (Takes at q a) rest)) s
    → Comes S n x s.moments → AllDisk S (passing n (given_all c n (site (Up x) disk) (under replies (Acts (Takes at q a) rest))) s).moments
takes_disk S c n came x disk at q a rest replies s tries may small idle k =
    let l : Entry = entry.Device (device_entry.Command n at q (answer_told a)) in
    all_disk S c n came (site (Up (answered_so x a)) disk) (under replies rest) (telling l s) may.1 small.1 (under_tried replies rest tries) idle.1 (record {
      stops = (tt, k.stops);
      way = still_on n n (Tells l ∷ []) s (epoch_of x.attempt) (tt, tt) k.way;
      done = line_done n at q a s.moments;
      here = k.here;
    })

-- that the device is joined
admits_disk : (S : Setting) (c : Cluster) (n : ℕ) (came : Delivered) (x : UpNode) (disk : NodeRecord) (at : ℕ) (q : PrCommand) (a : Answer) (d : ℕ) (rest : Course) (replies : List Reply) (s : Scene) → Tries IsTried rest
    → told.is_write q ≡ false → is_joined_by (progress_after x.tasks a) ≡ true
    → MayAll c n came (site (Up x) disk) (under replies (Keeps (Admits at q a d) rest)) → AllSmall (under replies (Keeps (Admits at q a d) rest)) → AllIdle S c n (site (Up x) disk) (under replies (Keeps (Admits at q a d) rest)) s
    → Comes S n x s.moments → AllDisk S (passing n (given_all c n (site (Up x) disk) (under replies (Keeps (Admits at q a d) rest))) s).moments
admits_disk S c n came x disk at q a d rest replies s tries off ends may small idle k = by_replies replies may small idle
  where
    l : Entry
    l = entry.Device (device_entry.Command n at q (answer_told a))

    ms : List Moment
    ms = line_of n at q a ∷ s.moments

    y : UpNode
    y = changed c n x (Admits at q a d)

    gone : (why : DownCause) → AllDisk S (telling (entry.Node n (note.Down why)) (telling l s)).moments
    gone why = gone_disk S n why ms (joined_rule S n ms k.here (line_done n at q a s.moments) (joined_told S n at q a x s.moments off ends k.queue)) (tt, k.stops)

    by_replies : (rs : List Reply) → MayAll c n came (site (Up x) disk) (under rs (Keeps (Admits at q a d) rest)) → AllSmall (under rs (Keeps (Admits at q a d) rest)) → AllIdle S c n (site (Up x) disk) (under rs (Keeps (Admits at q a d) rest)) s
        → AllDisk S (passing n (given_all c n (site (Up x) disk) (under rs (Keeps (Admits at q a d) rest))) s).moments
    by_replies [] may small idle = gone cause.Stopped
    by_replies (Lost_new why ∷ rs) may small idle = gone why
    by_replies (Lost_old why ∷ rs) may small idle = gone why
    by_replies (Done ∷ rs) may small idle =
        all_disk S c n came (site (Up y) (record_of y)) (under rs rest) (telling (entry.Node n note.Saved) (telling l s)) may.1 small.1 (under_tried rs rest tries) idle.1 (record {
          stops = (tt, (tt, k.stops));
          way = still_on n n (Tells l ∷ Tells (entry.Node n note.Saved) ∷ []) s (epoch_of x.attempt) (tt, (tt, tt)) k.way;
          done = line_done n at q a s.moments;
          here = k.here;
        })

-- ---- the answer

pub answered_disk : (S : Setting) (c : Cluster) (n : ℕ) (came : Delivered) (x : UpNode) (disk : NodeRecord) (a : Answer) (o : Option ℕ) (p : Option PrCommand) (replies : List Reply) (s : Scene) → next_of x.tasks ≡ p
    → MayAll c n came (site (Up x) disk) (under replies (answered_course c n x a o p)) → AllSmall (under replies (answered_course c n x a o p)) → AllIdle S c n (site (Up x) disk) (under replies (answered_course c n x a o p)) s
    → Comes S n x s.moments → AllDisk S (passing n (given_all c n (site (Up x) disk) (under replies (answered_course c n x a o p))) s).moments
unfolding is_joined_by
answered_disk S c n came x disk a None p replies s due may small idle k = k.stops
answered_disk S c n came x disk a (Some at) None replies s due may small idle k = k.stops
answered_disk S c n came x disk a (Some at) (Some q) replies s due may small idle k = by_progress (progress_after x.tasks a) refl may small idle
  where
    y : UpNode
    y = answered_so x a

    off : told.is_write q ≡ false
    off = due_writes x.tasks q due

    by_progress : (g : Progress) → progress_after x.tasks a ≡ g → MayAll c n came (site (Up x) disk) (under replies (progress_course c n x at q a g)) → AllSmall (under replies (progress_course c n x at q a g))
        → AllIdle S c n (site (Up x) disk) (under replies (progress_course c n x at q a g)) s → AllDisk S (passing n (given_all c n (site (Up x) disk) (under replies (progress_course c n x at q a g))) s).moments
    by_progress GoesOn is may small idle = takes_disk S c n came x disk at q a Stops replies s tt may small idle k
    by_progress (Seized d r) is may small idle = takes_disk S c n came x disk at q a (seized_course c n y d r (coordinator_of y)) replies s (seized_t c n y d r (coordinator_of y)) may small idle k
    by_progress (Joined d join.Joined) is may small idle =
        let z : UpNode = joining_so y d in
        admits_disk S c n came x disk at q a d (joined_course c n z (coordinator_of z)) replies s (joined_t c n z (coordinator_of z)) off (ap is_joined_by is) may small idle k
    by_progress (Joined d (join.Late w)) is may small idle = takes_disk S c n came x disk at q a (joined_course c n y (coordinator_of y)) replies s (joined_t c n y (coordinator_of y)) may small idle k
    by_progress (Joined d join.Fault) is may small idle = takes_disk S c n came x disk at q a (joined_course c n y (coordinator_of y)) replies s (joined_t c n y (coordinator_of y)) may small idle k
