-- A node's tasks, when one of them goes on at its device.
use Rattle.std.specs.Prelude.{ℕ, ◌≡◌, ◌≢◌, ◌⊎◌, ◌==◌, ◌&&◌, ◌||◌, not, Bool, true, false, List, [], ◌∷◌, None, Some, find, is_some, if◌then◌else◌}
use Rattle.std.proofs.Common.{refl, sym, ap, subst, ◌∙◌, inl, inr, arith}
use Rattle.std.specs.List.{AllByRecursion}
use Rattle.cl_base.specs.Seizings.{SeizeResult}
use Rattle.cl_base.specs.declared.seizing.SeizeEnd.TheVariants as end
use Rattle.cluster_machine.specs.Cluster.{Cluster as Whole, MayCome, all_after, is_command}
use Rattle.cluster_machine.proofs.Commands.{command_still}
use Rattle.cluster_machine.proofs.Whole.{may_run}
use Rattle.cmm_attempt.proofs.Basics.{false_true, none_some, same_some}
use Rattle.device_machine.specs.Growth.{Grows}
use Rattle.device_machine.specs.Sharing as sharing
use Rattle.device_machine.specs.Sharing.{Sharing}
use Rattle.device_machine.proofs.Grown.{run_grows}
use Rattle.device_machine.proofs.Invariant.{Inv}
use Rattle.device_queue.specs.declared.task.Task.{Task}
use Rattle.device_queue.specs.declared.task.Work.{Work}
use Rattle.device_queue.specs.declared.task.Work.TheVariants as work
use Rattle.device_queue.specs.Laws.{has_task}
use Rattle.device_queue.specs.Queue.{after_answer, seizure_of}
use Rattle.device_queue.specs.Tasks.{answered, is_over_in, is_queued, is_seizing, is_seizure_of, work_answered}
use Rattle.device_ties.specs.Moves.{AreBy, IsBy}
use Rattle.device_ties.specs.Tasks.{ToldSo}
use Rattle.node_model.specs.declared.cluster.Cluster.{Cluster}
use Rattle.seize.specs.Answers.{Answer}
use Rattle.seize.specs.Joining as joining
use Rattle.seize.specs.Joining.{JoinState}
use Rattle.seize.specs.Seizing as seizing
use Rattle.seize.specs.Seizing.{SeizeState}
use Rattle.seize.specs.declared.step.JoinStep.{JoinStep}
use Rattle.seize.specs.declared.step.JoinStep.TheVariants as join
use Rattle.seize.specs.declared.step.SeizeStep.{SeizeStep}
use Rattle.seize.specs.declared.step.SeizeStep.TheVariants as seize
use Rattle.cluster_ties.specs.Ties.{JoiningAt, QueuedOnce, SeizingAt, TaskAt, WorkAt}

-- Steps of a task of node n change neither its session nor what it has installed, and take back nothing.

pub record GoesOn (s u : Sharing) (n : ℕ) : Type 0 where
  pub session : (u.node n).session ≡ (s.node n).session
  pub installed : (u.node n).installed ≡ (s.node n).installed
  pub grows : Grows s u

by_is_command : (n : ℕ) (e : sharing.Event) → IsBy n e → is_command e ≡ true
by_is_command n (sharing.Promise m q) h = absurd h
by_is_command n (sharing.Crash m) h = absurd h
by_is_command n (sharing.Collected q members) h = absurd h
by_is_command n (sharing.Count_with q) h = absurd h
by_is_command n (sharing.Count_without q) h = absurd h
by_is_command n (sharing.Install_apart m) h = absurd h
by_is_command n (sharing.Install_seizer m) h = absurd h
by_is_command n (sharing.Install_known m) h = absurd h
by_is_command n (sharing.Install_new m) h = absurd h
by_is_command n _ h = refl

same_session : (n : ℕ) (s : Sharing) (events : List sharing.Event) → AreBy n events → MayCome s events
    → (((all_after s events).node n).session ≡ (s.node n).session) × (((all_after s events).node n).installed ≡ (s.node n).installed)
same_session n s [] own may = (refl, refl)
same_session n s (e ∷ events) own may =
    let rest = same_session n (sharing.after s e) events own.1 may.1 in
    let still = (command_still s e (by_is_command n e own.0) may.0).node n in
    (rest.0 ∙ still.session, rest.1 ∙ still.installed)

pub tasks_go_on : (n : ℕ) (s : Sharing) (events : List sharing.Event) → Inv s → AreBy n events → MayCome s events → GoesOn s (all_after s events) n
tasks_go_on n s events i own may =
    let same = same_session n s events own may in
    record { session = same.0; installed = same.1; grows = run_grows s (all_after s events) events i (may_run s events may) }

-- What is over stays so.

pub record Keeps (s u : Sharing) (n : ℕ) : Type 0 where
  pub session : (u.node n).session ≡ (s.node n).session
  pub grows : Grows s u

told_stays : (s u : Sharing) (q n : ℕ) (r : SeizeResult) → Grows s u → ToldSo s q n r → ToldSo u q n r
told_stays s u q n (end.Held keys) g h = ((g.node n).ended q h.0, (g.node n).seized q h.1)
told_stays s u q n (end.NotRegistered keys) g h = ((g.node n).ended q h.0, (g.node n).unregistered q h.1)
told_stays s u q n (end.Greater w) g h = ((g.node n).ended q h.0, tt)
told_stays s u q n end.Expelled g h = ((g.node n).ended q h.0, tt)
told_stays s u q n (end.Contended key) g h = ((g.node n).ended q h.0, tt)
told_stays s u q n end.Fault g h = ((g.node n).ended q h.0, tt)

over_seizing : (cluster n : ℕ) (s u : Sharing) (t : SeizeState) (step : SeizeStep) → Keeps s u n → is_some (seizing.result_at step) ≡ true → SeizingAt cluster n s t step → SeizingAt cluster n u t step
over_seizing cluster n s u t (seize.Ended r) g o h = (told_stays s u t.epoch n r g.grows h.0, g.session ∙ h.1)
over_seizing cluster n s u t seize.Check g o h = absurd (false_true o)
over_seizing cluster n s u t seize.Register g o h = absurd (false_true o)
over_seizing cluster n s u t seize.ReadWord g o h = absurd (false_true o)
over_seizing cluster n s u t (seize.Swap expected) g o h = absurd (false_true o)
over_seizing cluster n s u t seize.Reserve g o h = absurd (false_true o)
over_seizing cluster n s u t (seize.ReadKeys reading) g o h = absurd (false_true o)
over_seizing cluster n s u t (seize.Preempt victim reading) g o h = absurd (false_true o)
over_seizing cluster n s u t (seize.Confirm keys) g o h = absurd (false_true o)

over_joining : (cluster n : ℕ) (s u : Sharing) (j : JoinState) (step : JoinStep) → is_some (joining.result_at step) ≡ true → JoiningAt cluster n s j step → JoiningAt cluster n u j step
over_joining cluster n s u j (join.Ended r) o h = tt
over_joining cluster n s u j join.Register o h = absurd (false_true o)
over_joining cluster n s u j join.ReadWord o h = absurd (false_true o)

pub not_false : (b : Bool) → not b ≡ false → b ≡ true
not_false true h = refl
not_false false h = sym h

pub over_stays : (cluster n : ℕ) (s u : Sharing) (w : Work) → Keeps s u n → not (is_over_in w) ≡ false → WorkAt cluster n s w → WorkAt cluster n u w
over_stays cluster n s u (work.Seizing t) g o h = over_seizing cluster n s u t t.step g (not_false _ o) h
over_stays cluster n s u (work.Joining j) g o h = over_joining cluster n s u j j.step (not_false _ o) h

-- The others, when the first task of the queue goes on at device d.

pub record Changed (W V : Whole) (n d : ℕ) : Type 0 where
  pub here : GoesOn (W.device d) (V.device d) n
  pub there : (k : ℕ) → k ≢ d → V.device k ≡ W.device k

or_false : (a b : Bool) → (a || b) ≡ false → (a ≡ false) × (b ≡ false)
or_false true b k = absurd (false_true (sym k))
or_false false b k = (refl, k)

abbrev Apart : ℕ → Task → Type 0
Apart d t = (t.device ≢ d) ⊎ (is_queued t ≡ false)

apart_of : (d : ℕ) (t : Task) → ((t.device == d) && is_queued t) ≡ false → Apart d t
apart_of d t h = go (t.device == d) refl h
  where
    other : (t.device == d) ≡ false → t.device ≢ d
    other lacking same = grind arith

    go : (b : Bool) → (t.device == d) ≡ b → (b && is_queued t) ≡ false → Apart d t
    go true is k = inr k
    go false is k = inl (other is)

one_stays : (c : Cluster) (W V : Whole) (n d : ℕ) (t : Task) → Changed W V n d → Apart d t → TaskAt c W n t → TaskAt c V n t
one_stays c W V n d t g (inl ne) h = subst (λ s. WorkAt c.id n s t.work) (sym (g.there t.device ne)) h
one_stays c W V n d t g (inr over) h = by_place (same t.device d)
  where
    same : (a b : ℕ) → (a ≡ b) ⊎ (a ≢ b)
    same a b = grind arith

    by_place : (t.device ≡ d) ⊎ (t.device ≢ d) → TaskAt c V n t
    by_place (inr ne) = subst (λ s. WorkAt c.id n s t.work) (sym (g.there t.device ne)) h
    by_place (inl is) =
        subst (λ e. WorkAt c.id n (V.device e) t.work) (sym is) (over_stays c.id n (W.device d) (V.device d) t.work (record { session = g.here.session; grows = g.here.grows }) over (subst (λ e. WorkAt c.id n (W.device e) t.work) is h))

pub rest_stays : (c : Cluster) (W V : Whole) (n d : ℕ) (tasks : List Task) → Changed W V n d → has_task d tasks ≡ false → AllByRecursion (TaskAt c W n) tasks → AllByRecursion (TaskAt c V n) tasks
rest_stays c W V n d [] g none h = tt
rest_stays c W V n d (t ∷ tasks) g none h =
    let two : (((t.device == d) && is_queued t) ≡ false) × (has_task d tasks ≡ false) = or_false ((t.device == d) && is_queued t) (has_task d tasks) none in
    (one_stays c W V n d t g (apart_of d t two.0) h.0, rest_stays c W V n d tasks g two.1 h.1)

pub taken_tasks : (c : Cluster) (W V : Whole) (n : ℕ) (a : Answer) (tasks : List Task) (t : Task) → find is_queued tasks ≡ Some t → Changed W V n t.device → QueuedOnce tasks
    → WorkAt c.id n (V.device t.device) (work_answered a t.work) → AllByRecursion (TaskAt c W n) tasks → AllByRecursion (TaskAt c V n) (after_answer tasks a)
taken_tasks c W V n a [] t found g once new h = absurd (none_some t found)
taken_tasks c W V n a (first ∷ tasks) t found g once new h = by_test (is_queued first) refl found (λ f. taken_tasks c W V n a tasks t f g once.1 new h.1)
  where
    by_test : (b : Bool) → is_queued first ≡ b → (if b then Some first else find is_queued tasks) ≡ Some t
        → (find is_queued tasks ≡ Some t → AllByRecursion (TaskAt c V n) (after_answer tasks a)) → AllByRecursion (TaskAt c V n) (if b then answered a first ∷ tasks else first ∷ after_answer tasks a)
    by_test true is f rest =
        let same : first ≡ t = same_some first t f in
        let none : has_task t.device tasks ≡ false = subst (λ (z : Task). has_task z.device tasks ≡ false) same (once.0 is) in
        (subst (λ (z : Task). WorkAt c.id n (V.device z.device) (work_answered a z.work)) (sym same) new, rest_stays c W V n t.device tasks g none h.1)
    by_test false is f rest = (one_stays c W V n t.device first g (inr is) h.0, rest f)

-- .. or stays what it is
pub due_tasks : (c : Cluster) (W V : Whole) (n : ℕ) (tasks : List Task) (t : Task) → find is_queued tasks ≡ Some t → Changed W V n t.device → QueuedOnce tasks
    → WorkAt c.id n (V.device t.device) t.work → AllByRecursion (TaskAt c W n) tasks → AllByRecursion (TaskAt c V n) tasks
due_tasks c W V n [] t found g once new h = absurd (none_some t found)
due_tasks c W V n (first ∷ tasks) t found g once new h = by_test (is_queued first) refl found (λ f. due_tasks c W V n tasks t f g once.1 new h.1)
  where
    by_test : (b : Bool) → is_queued first ≡ b → (if b then Some first else find is_queued tasks) ≡ Some t
        → (find is_queued tasks ≡ Some t → AllByRecursion (TaskAt c V n) tasks) → TaskAt c V n first × AllByRecursion (TaskAt c V n) tasks
    by_test true is f rest =
        let same : first ≡ t = same_some first t f in
        let none : has_task t.device tasks ≡ false = subst (λ (z : Task). has_task z.device tasks ≡ false) same (once.0 is) in
        (subst (λ (z : Task). WorkAt c.id n (V.device z.device) z.work) (sym same) new, rest_stays c W V n t.device tasks g none h.1)
    by_test false is f rest = (one_stays c W V n t.device first g (inr is) h.0, rest f)

pub taken_once : (a : Answer) (tasks : List Task) → QueuedOnce tasks → QueuedOnce (after_answer tasks a)
taken_once a [] h = tt
taken_once a (t ∷ tasks) h = by_test (is_queued t) refl (taken_once a tasks h.1)
  where
    true_false : (P : Type 0) → false ≡ true → P
    true_false P k = absurd (false_true k)

    by_test : (b : Bool) → is_queued t ≡ b → QueuedOnce (after_answer tasks a) → QueuedOnce (if b then answered a t ∷ tasks else t ∷ after_answer tasks a)
    by_test true is rest = ((λ e. h.0 is), h.1)
    by_test false is rest = ((λ e. true_false _ (sym is ∙ e)), rest)

-- The seizings that there are.

same_seizing : (a : Answer) (w : Work) → is_seizing (work_answered a w) ≡ is_seizing w
same_seizing a (work.Seizing t) = refl
same_seizing a (work.Joining j) = refl

abbrev NoSeizure : ℕ → List Task → Type 0
NoSeizure d tasks = find (is_seizure_of d) tasks ≡ None

some_none : {X : Type 0} (x : X) (P : Type 0) → Some x ≡ None → P
some_none x P h = absurd (none_some x (sym h))

pub taken_none : (a : Answer) (d : ℕ) (tasks : List Task) → seizure_of (after_answer tasks a) d ≡ None → seizure_of tasks d ≡ None
taken_none a d [] h = refl
taken_none a d (t ∷ tasks) h = by_test (is_queued t) h (taken_none a d tasks)
  where
    whole : (b e : Bool) → b ≡ e → (if b then Some (answered a t) else find (is_seizure_of d) tasks) ≡ None → (if e then Some t else find (is_seizure_of d) tasks) ≡ None
    whole true true is k = some_none (answered a t) _ k
    whole true false is k = absurd (false_true (sym is))
    whole false true is k = absurd (false_true is)
    whole false false is k = k

    rest_of : (b : Bool) → (if b then Some t else find (is_seizure_of d) (after_answer tasks a)) ≡ None → (seizure_of (after_answer tasks a) d ≡ None → seizure_of tasks d ≡ None)
        → (if b then Some t else find (is_seizure_of d) tasks) ≡ None
    rest_of true k f = some_none t _ k
    rest_of false k f = f k

    by_test : (b : Bool) → seizure_of (if b then answered a t ∷ tasks else t ∷ after_answer tasks a) d ≡ None → (seizure_of (after_answer tasks a) d ≡ None → seizure_of tasks d ≡ None)
        → seizure_of (t ∷ tasks) d ≡ None
    by_test true k f = whole (is_seizure_of d (answered a t)) (is_seizure_of d t) (ap (λ b. (t.device == d) && b) (same_seizing a t.work)) k
    by_test false k f = rest_of (is_seizure_of d t) k f

-- a seizing that is due is there
pub due_seizure : (tasks : List Task) (t : Task) → find is_queued tasks ≡ Some t → is_seizing t.work ≡ true → seizure_of tasks t.device ≡ None → ⊥
due_seizure [] t found is none = none_some t found
due_seizure (first ∷ tasks) t found is none = by_test (is_queued first) found (λ f k. due_seizure tasks t f is k)
  where
    number : (k : ℕ) → (k == k) ≡ true
    number k = grind arith

    both : (a b : Bool) → a ≡ true → b ≡ true → (a && b) ≡ true
    both true b e k = k
    both false b e k = absurd (false_true e)

    some_there : (b : Bool) → b ≡ true → (if b then Some first else seizure_of tasks t.device) ≡ None → ⊥
    some_there true e k = some_none first ⊥ k
    some_there false e k = false_true e

    rest_none : (b : Bool) → (if b then Some first else seizure_of tasks t.device) ≡ None → seizure_of tasks t.device ≡ None
    rest_none true k = some_none first _ k
    rest_none false k = k

    by_test : (b : Bool) → (if b then Some first else find is_queued tasks) ≡ Some t → (find is_queued tasks ≡ Some t → seizure_of tasks t.device ≡ None → ⊥) → ⊥
    by_test true f rest =
        let same : first ≡ t = same_some first t f in
        some_there (is_seizure_of t.device first) (subst (λ (z : Task). is_seizure_of t.device z ≡ true) (sym same) (both (t.device == t.device) (is_seizing t.work) (number t.device) is)) none
    by_test false f rest = rest f (rest_none (is_seizure_of t.device first) none)
