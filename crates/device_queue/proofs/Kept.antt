-- What is kept of a task that has ended.
use Rattle.std.proofs.Common.{◌≡◌, ℕ, ◌==◌, ◌&&◌, Bool, true, false, List, [], ◌∷◌, ◌++◌, Option, Some, None, find, refl, ap}
use Rattle.std.specs.Option.{option_and_then}
use Rattle.std.proofs.lemmas.Option.{none-some}
use Rattle.cl_base.specs.Seizings.{SeizeResult}
use Rattle.seize.specs.declared.kind.JoinResult.{JoinResult}
use Rattle.seize.specs.Answers.{Answer}
use Rattle.device_queue.specs.declared.task.Task.{Task}
use Rattle.device_queue.specs.declared.task.Work.{Work}
use Rattle.device_queue.specs.declared.task.Work.TheVariants.{Seizing, Joining}
use Rattle.device_queue.specs.Tasks.{answered, is_join_of, is_joining, is_queued, is_over_in, is_seizing, is_seizure_of, join_result_in, result_in, work_answered}
use Rattle.device_queue.specs.Queue.{join_of, seizure_of}
use Rattle.device_queue.specs.Calls.{Call, Seize, Join, Take, after_call, left_by}
use Rattle.device_queue.specs.Laws.{KeptJoinsStay, KeptResultsStay}
use Rattle.device_queue.proofs.Steps.{ended_stays, put_stays}

-- an answer makes no other kind of a task, at no other device
seizing_same : (a : Answer) (w : Work) → is_seizing (work_answered a w) ≡ is_seizing w
seizing_same a (Seizing s) = refl
seizing_same a (Joining j) = refl

joining_same : (a : Answer) (w : Work) → is_joining (work_answered a w) ≡ is_joining w
joining_same a (Seizing s) = refl
joining_same a (Joining j) = refl

pub same_seizure : (d : ℕ) (a : Answer) (t : Task) → is_seizure_of d (answered a t) ≡ is_seizure_of d t
same_seizure d a t = ap (λ own. (t.device == d) && own) (seizing_same a t.work)

pub same_join : (d : ℕ) (a : Answer) (t : Task) → is_join_of d (answered a t) ≡ is_join_of d t
same_join d a t = ap (λ own. (t.device == d) && own) (joining_same a t.work)

-- a task with a result is over
pub result_over : (w : Work) (r : SeizeResult) → result_in w ≡ Some r → is_over_in w ≡ true
result_over (Seizing s) r e = rw e refl
result_over (Joining j) r e = absurd (none-some _ e)

pub join_over : (w : Work) (r : JoinResult) → join_result_in w ≡ Some r → is_over_in w ≡ true
join_over (Seizing s) r e = absurd (none-some _ e)
join_over (Joining j) r e = rw e refl

-- the task that a result is kept of
pub record KeptBy {R : Type 0} (result : Work → Option R) (o : Option Task) (r : R) : Type 0 where
  pub task : Task
  pub found : o ≡ Some task
  pub gave : result task.work ≡ Some r

pub kept_by : {R : Type 0} (result : Work → Option R) (o : Option Task) (r : R) → option_and_then (λ t. result t.work) o ≡ Some r → KeptBy result o r
kept_by result None r e = absurd (none-some _ e)
kept_by result (Some t) r e = record { task = t; found = refl; gave = e }

pub not_queued : (t : Task) → is_over_in t.work ≡ true → is_queued t ≡ false
not_queued t e = rw e refl

-- a call leaves it where it is
stays : (p : Task → Bool) → ((a : Answer) (t : Task) → p (answered a t) ≡ p t) → (ts : List Task) (t : Task) (c : Call) → find p ts ≡ Some t → is_queued t ≡ false → find p (after_call ts c) ≡ Some t
stays p same ts t (Seize d s) found over = put_stays p (seizure_of ts d) (record { device = d; work = Seizing s }) t ts found
stays p same ts t (Join d j) found over = put_stays p (join_of ts d) (record { device = d; work = Joining j }) t ts found
stays p same ts t (Take a) found over = ended_stays p a (same a) ts t found over

all_stay : (p : Task → Bool) → ((a : Answer) (t : Task) → p (answered a t) ≡ p t) → (earlier later : List Call) (t : Task) → find p (left_by earlier) ≡ Some t → is_queued t ≡ false → find p (left_by (later ++ earlier)) ≡ Some t
all_stay p same earlier [] t found over = found
all_stay p same earlier (c ∷ later) t found over = stays p same (left_by (later ++ earlier)) t c (all_stay p same earlier later t found over) over

pub kept_results : KeptResultsStay
kept_results earlier later d r kept =
    let by : KeptBy result_in (seizure_of (left_by earlier) d) r = kept_by result_in (seizure_of (left_by earlier) d) r kept in
    rw (all_stay (is_seizure_of d) (same_seizure d) earlier later by.task by.found (not_queued by.task (result_over by.task.work r by.gave))) by.gave

pub kept_joins : KeptJoinsStay
kept_joins earlier later d r kept =
    let by : KeptBy join_result_in (join_of (left_by earlier) d) r = kept_by join_result_in (join_of (left_by earlier) d) r kept in
    rw (all_stay (is_join_of d) (same_join d) earlier later by.task by.found (not_queued by.task (join_over by.task.work r by.gave))) by.gave
