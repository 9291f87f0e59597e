-- Each small step of an ordinary course keeps it so that a node names known devices alone, and so does an answer that is taken.
use Rattle.std.specs.Prelude.{ℕ, ◌≡◌, ◌==◌, ◌&&◌, ◌||◌, not, Bool, true, false, List, [], ◌∷◌, Option, None, Some}
use Rattle.std.proofs.Common.{refl, subst}
use Rattle.std.specs.List.{AllByRecursion}
use Rattle.cl_base.specs.Sets.{has}
use Rattle.cmm_attempt.specs.declared.attached.AttachedDevice.{AttachedDevice}
use Rattle.cmm_attempt.specs.Attempts.{AttemptState}
use Rattle.cmm_attempt.proofs.Basics.{and_cases, false_true, if_either, same_number}
use Rattle.attempt_laws.proofs.Walk.{if_with}
use Rattle.device_queue.specs.declared.task.Task.{Task}
use Rattle.device_queue.specs.declared.task.Work.TheVariants.{Joining, Seizing}
use Rattle.device_queue.specs.Queue.{after_answer, after_join, after_seize, join_of, put_unless, seizure_of}
use Rattle.device_queue.specs.Tasks.{answered, is_queued}
use Rattle.seize.specs.Answers.{Answer}
use Rattle.seize.specs.Joining as joining
use Rattle.seize.specs.Seizing as seizing
use Rattle.wire.specs.declared.lists.Reading.{Reading}
use Rattle.node_model.specs.Attempts.{is_to_join, joining_from, joining_with, own_promise}
use Rattle.node_model.specs.Clusters.{has_path}
use Rattle.node_model.specs.declared.cluster.Cluster.{Cluster}
use Rattle.node_model.specs.declared.node.UpNode.{UpNode}
use Rattle.node_model.specs.Members.{rested_by}
use Rattle.node_model.specs.Seats.{promising, record_of}
use Rattle.refinement.specs.Courses.{Course, joined}
use Rattle.refinement.specs.Courses.Course.{Acts, Falls, Keeps, Stops}
use Rattle.refinement.specs.Doings.{Act, Change, acted, answered_so, changed}
use Rattle.refinement.specs.Doings.Act.{Accepts, Dates, Ends, Gives, Goes_on, Hears, Makes, Minds, Notes, Queues, Spreads, Stores, Takes, Ticks, Waits, Works, Writes}
use Rattle.refinement.specs.Doings.Change.{Acks, Admits, Commits, Counts, Distrusts, Installs, Leads, Prepares, Promises, Proposes, Sits, Starts}
use Rattle.run_history.specs.Names.{AttachedOf, TaskOf, UpNames}
use Rattle.run_history.proofs.LineAttempts.{begun_names, turn_names}
use Rattle.run_history.proofs.Lists.{all_and}
use Rattle.run_history.proofs.Ordinary.{ActsSo, ChangesSo, IsOrdinary, Knows}

-- Tasks.

put_named : (D : ℕ → Type 0) (o : Option Task) (t : Task) (tasks : List Task) → D t.device → AllByRecursion (TaskOf D) tasks → AllByRecursion (TaskOf D) (put_unless o t tasks)
put_named D None t tasks d h = all_and (TaskOf D) tasks t h d
put_named D (Some earlier) t tasks d h = h

seize_named : (D : ℕ → Type 0) (tasks : List Task) (d : ℕ) (s : seizing.SeizeState) → D d → AllByRecursion (TaskOf D) tasks → AllByRecursion (TaskOf D) (after_seize tasks d s)
seize_named D tasks d s is h = put_named D (seizure_of tasks d) (record { device = d; work = Seizing s }) tasks is h

join_named : (D : ℕ → Type 0) (tasks : List Task) (d : ℕ) (j : joining.JoinState) → D d → AllByRecursion (TaskOf D) tasks → AllByRecursion (TaskOf D) (after_join tasks d j)
join_named D tasks d j is h = put_named D (join_of tasks d) (record { device = d; work = Joining j }) tasks is h

answer_named : (D : ℕ → Type 0) (tasks : List Task) (a : Answer) → AllByRecursion (TaskOf D) tasks → AllByRecursion (TaskOf D) (after_answer tasks a)
answer_named D [] a h = tt
answer_named D (t ∷ ts) a h =
    if_either (AllByRecursion (TaskOf D)) (is_queued t) (answered a t ∷ ts) (t ∷ after_answer ts a) (h.0, h.1) (h.0, answer_named D ts a h.1)

-- a node has paths to known devices alone
pub path_named : (D : ℕ → Type 0) (attached : List AttachedDevice) (n d : ℕ) → AllByRecursion (AttachedOf D) attached → has_path attached n d ≡ true → D d
path_named D [] n d h is = absurd (false_true is)
path_named D (a ∷ attached) n d h is = by_test ((a.device == d) && has a.nodes n) refl is (path_named D attached n d h.1)
  where
    by_test : (b : Bool) → ((a.device == d) && has a.nodes n) ≡ b → (b || has_path attached n d) ≡ true → (has_path attached n d ≡ true → D d) → D d
    by_test true e k rest = subst D (same_number a.device d (and_cases (a.device == d) (has a.nodes n) e).0) h.0
    by_test false e k rest = rest k

joined_named : (D : ℕ → Type 0) (c : Cluster) (me e had : ℕ) (tasks : List Task) (r : Reading) → Knows c D → AllByRecursion (TaskOf D) tasks
    → AllByRecursion (TaskOf D) (joining_with c me e had tasks r)
joined_named D c me e had tasks r K h =
    if_with (AllByRecursion (TaskOf D)) (is_to_join c me had r) (is_to_join c me had r) (after_join tasks r.device (joining.begun e me c.id)) tasks refl
    (λ is. join_named D tasks r.device (joining.begun e me c.id)
    (path_named D c.attached me r.device K.attached (and_cases (has_path c.attached me r.device) (not (has had r.device)) is).0) h)
    (λ is. h)

joins_named : (D : ℕ → Type 0) (c : Cluster) (me e had : ℕ) (tasks : List Task) (rs : List Reading) → Knows c D → AllByRecursion (TaskOf D) tasks
    → AllByRecursion (TaskOf D) (joining_from c me e had tasks rs)
joins_named D c me e had tasks [] K h = h
joins_named D c me e had tasks (r ∷ rs) K h = joins_named D c me e had (joining_with c me e had tasks r) rs K (joined_named D c me e had tasks r K h)

-- Small steps.

rested_names : (D : ℕ → Type 0) (x : UpNode) (o : Option AttemptState) → UpNames D x → UpNames D (rested_by x o)
rested_names D x None h = h
rested_names D x (Some a) h = (h.0, tt)

pub change_names : (D : ℕ → Type 0) (c : Cluster) (me : ℕ) (x : UpNode) (change : Change) → Knows c D → ChangesSo D change → UpNames D x → UpNames D (changed c me x change)
change_names D c me x (Promises p) K is h = rested_names D (promising x p) x.attempt (tt, tt)
change_names D c me x (Leads p members) K is h =
    (tt, (begun_names D p members (own_promise me (record (promising x p) { greatest = p }) p) c.attached c.id K.attached).0)
change_names D c me x (Counts a k s i) K is h = (joins_named D c me i.epoch _ [] i.readings K tt, (turn_names D a k is).0)
change_names D c me x (Installs s i) K is h = (joins_named D c me i.epoch _ x.tasks i.readings K h.0, h.1)
change_names D c me x (Starts a k s) K is h = (h.0, tt)
change_names D c me x (Sits s e) K is h = h
change_names D c me x (Distrusts d) K is h = h
change_names D c me x (Admits at command a d) K is h = absurd is
change_names D c me x (Proposes s p text) K is h = h
change_names D c me x (Acks s p q left text) K is h = h
change_names D c me x (Prepares s text) K is h = h
change_names D c me x (Commits s) K is h = h

pub act_names : (D : ℕ → Type 0) (c : Cluster) (me : ℕ) (x : UpNode) (a : Act) → Knows c D → ActsSo D a → UpNames D x → UpNames D (acted c me x a)
act_names D c me x (Hears from b) K is h = h
act_names D c me x Ticks K is h = h
act_names D c me x Waits K is h = h
act_names D c me x (Goes_on a k) K is h = (h.0, (turn_names D a k is).0)
act_names D c me x (Ends a e) K is h = (h.0, tt)
act_names D c me x (Queues a d kind) K is h =
    let s : seizing.SeizeState = seizing.begun kind a.plan.epoch a.plan.members me c.id (has (record_of x).valid d) in
    if_either (UpNames D) (has a.plan.members me) (record x { tasks = after_seize x.tasks d s }) x (seize_named D x.tasks d s is h.0, h.1) h
act_names D c me x (Accepts kind e members d) K is h =
    (seize_named D x.tasks d (seizing.begun kind e members me c.id (has (record_of x).valid d)) is h.0, h.1)
act_names D c me x (Takes at command a) K is h = absurd is
act_names D c me x (Stores d value a) K is h = absurd is
act_names D c me x (Writes to b) K is h = h
act_names D c me x (Makes change) K is h = change_names D c me x change K is h
act_names D c me x (Gives os) K is h = h
act_names D c me x (Spreads receivers b) K is h = h
act_names D c me x (Minds q p) K is h = h
act_names D c me x (Notes from place p) K is h = h
act_names D c me x (Dates now) K is h = h
act_names D c me x (Works w) K is h = h

pub taken_names : (D : ℕ → Type 0) (x : UpNode) (a : Answer) → UpNames D x → UpNames D (answered_so x a)
taken_names D x a h = (answer_named D x.tasks a h.0, h.1)

-- A course, and what follows.

pub then_is : (D : ℕ → Type 0) (c : Cluster) (me : ℕ) (x : UpNode) (k : Course) (next : UpNode → Course) → Knows c D → UpNames D x → IsOrdinary D k
    → ((y : UpNode) → UpNames D y → IsOrdinary D (next y)) → IsOrdinary D (joined c me x k next)
then_is D c me x Stops next K n h f = f x n
then_is D c me x (Acts a rest) next K n h f = (h.0, then_is D c me (acted c me x a) rest next K (act_names D c me x a K h.0 n) h.1 f)
then_is D c me x (Keeps change rest) next K n h f = (h.0, then_is D c me (changed c me x change) rest next K (change_names D c me x change K h.0 n) h.1 f)
then_is D c me x (Falls why) next K n h f = h

-- .. whatever node it leaves
pub any_is : (D : ℕ → Type 0) (c : Cluster) (me : ℕ) (x : UpNode) (k : Course) (next : UpNode → Course) → IsOrdinary D k
    → ((y : UpNode) → IsOrdinary D (next y)) → IsOrdinary D (joined c me x k next)
any_is D c me x Stops next h f = f x
any_is D c me x (Acts a rest) next h f = (h.0, any_is D c me (acted c me x a) rest next h.1 f)
any_is D c me x (Keeps change rest) next h f = (h.0, any_is D c me (changed c me x change) rest next h.1 f)
any_is D c me x (Falls why) next h f = h
