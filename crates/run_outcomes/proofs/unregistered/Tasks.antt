-- A task that seizes a device without its votes never ends so that its node is not registered.
use Rattle.std.specs.Prelude.{ℕ, ◌+◌, ◌≡◌, ◌==◌, ◌||◌, nat_lt, Bool, List, [], ◌∷◌, Option, None, Some, if◌then◌else◌}
use Rattle.std.proofs.Common.{refl, sym, subst, inl, inr}
use Rattle.cl_base.specs.declared.seizing.SeizeEnd.TheVariants.{Contended, Expelled, Fault, Greater, Held, NotRegistered}
use Rattle.cmm_attempt.proofs.Basics.{if_either, none_some}
use Rattle.cmm_attempt.specs.Attempts.{AttemptState}
use Rattle.device_queue.specs.Queue.{after_answer, after_join, after_seize, join_of, put_unless, seizure_of}
use Rattle.device_queue.specs.Tasks.{answered, is_queued, result_in, work_answered}
use Rattle.device_queue.specs.declared.task.Task.{Task}
use Rattle.device_queue.specs.declared.task.Work.{Work}
use Rattle.device_queue.specs.declared.task.Work.TheVariants.{Joining as Joins, Seizing as Seizes}
use Rattle.node_model.specs.Attempts.{is_to_join, joining_from, joining_with}
use Rattle.node_model.specs.declared.cluster.Cluster.{Cluster}
use Rattle.refinement.specs.Runs.{Letter}
use Rattle.run_history.proofs.Lists.{both}
use Rattle.run_history.specs.Guards.{HasEnded}
use Rattle.seize.specs.Answers.{Answer, is_conflict, is_good, keys_told, word_found, word_told}
use Rattle.seize.specs.Joining.{JoinState}
use Rattle.seize.specs.Joining as joining
use Rattle.seize.specs.Keys.{first_stranger, has_key}
use Rattle.seize.specs.Seizing as seizing
use Rattle.seize.specs.Seizing.{SeizeState, cleared, compared, confirmed, looked, next_step, own_key, result_at, swapped}
use Rattle.seize.specs.declared.kind.SeizeKind.{SeizeKind}
use Rattle.seize.specs.declared.kind.SeizeKind.TheVariants.{Plain, Vote}
use Rattle.seize.specs.declared.step.SeizeStep.{SeizeStep}
use Rattle.seize.specs.declared.step.SeizeStep.TheVariants.{Check, Confirm, Ended, Preempt, ReadKeys, ReadWord, Register, Reserve, Swap}
use Rattle.wire.specs.declared.lists.Reading.{Reading}
use Rattle.run_outcomes.specs.accounts.Unregistered.{LooksNot, TasksKept, VotedFor, WorkKept}
use Rattle.run_outcomes.specs.tasks.Laws.{IsUnregistered}

-- ---- one step more

either : (b : Bool) (x y : SeizeStep) → LooksNot x → LooksNot y → LooksNot (if b then x else y)
either b x y one other = if_either LooksNot b x y one other

from_word : (s : SeizeState) (o : Option ℕ) → LooksNot (compared s o)
from_word s None = λ so. so
from_word s (Some word) =
    either (nat_lt word s.epoch) (Swap word) (if word == s.epoch then Reserve else Ended (Greater word)) tt (either (word == s.epoch) Reserve (Ended (Greater word)) tt (λ so. so))

from_swap : (s : SeizeState) (expected : ℕ) (a : Answer) → LooksNot (swapped s expected a)
from_swap s expected a =
    either (is_good a) Reserve (if is_conflict a then Ended Expelled else compared s (word_found expected a)) tt
    (either (is_conflict a) (Ended Expelled) (compared s (word_found expected a)) (λ so. so) (from_word s (word_found expected a)))

from_strangers : (keys : List ℕ) (reading : ℕ) (found : Option ℕ) → LooksNot (cleared keys reading found)
from_strangers keys reading None = tt
from_strangers keys reading (Some key) = either (nat_lt reading 64) (Preempt key reading) (Ended (Contended key)) tt (λ so. so)

from_keys : (s : SeizeState) (reading : ℕ) (o : Option (List ℕ)) → LooksNot (looked s reading o)
from_keys s reading None = λ so. so
from_keys s reading (Some keys) =
    either (has_key (own_key s) keys) (cleared keys reading (first_stranger s.cluster s.members keys)) (Ended Expelled) (from_strangers keys reading (first_stranger s.cluster s.members keys)) (λ so. so)

from_last : (s : SeizeState) (keys : List ℕ) (o : Option ℕ) → LooksNot (confirmed s keys o)
from_last s keys None = λ so. so
from_last s keys (Some word) = either (word == s.epoch) (Ended (Held keys)) (Ended (Greater word)) (λ so. so) (λ so. so)

looks_on : (s : SeizeState) (x : SeizeStep) (a : Answer) → LooksNot x → LooksNot (next_step s x a)
looks_on s Check a k = absurd k
looks_on s Register a k = either (is_good a) ReadWord (Ended Fault) tt (λ so. so)
looks_on s ReadWord a k = from_word s (word_told a)
looks_on s (Swap expected) a k = from_swap s expected a
looks_on s Reserve a k = either (is_good a || is_conflict a) (ReadKeys 1) (Ended Fault) tt (λ so. so)
looks_on s (ReadKeys reading) a k = from_keys s reading (keys_told a)
looks_on s (Preempt victim reading) a k = either (is_good a || is_conflict a) (ReadKeys (reading + 1)) (Ended Fault) tt (λ so. so)
looks_on s (Confirm keys) a k = from_last s keys (word_told a)
looks_on s (Ended r) a k = k

begun_looks : (kind : SeizeKind) → kind ≡ Plain → LooksNot (seizing.first_step kind)
begun_looks Plain is = tt
begun_looks Vote is = cc

-- ---- the tasks of a node

put_kept : (L : List Letter) (n q : ℕ) (o : Option AttemptState) (p : Option Task) (new : Task) (ts : List Task) → WorkKept L n q o new.device new.work → TasksKept L n q o ts
    → TasksKept L n q o (put_unless p new ts)
put_kept L n q o None new ts w k = both (λ (t : Task). WorkKept L n q o t.device t.work) ts (new ∷ []) k (w, tt)
put_kept L n q o (Some t) new ts w k = k

pub seize_kept : (L : List Letter) (n q d : ℕ) (o : Option AttemptState) (kind : SeizeKind) (e members me cluster : ℕ) (valid : Bool) (ts : List Task) → (kind ≡ Vote → VotedFor L n q o d) → TasksKept L n q o ts
    → TasksKept L n q o (after_seize ts d (seizing.begun kind e members me cluster valid))
seize_kept L n q d o kind e members me cluster valid ts voted k =
    put_kept L n q o (seizure_of ts d) (record { device = d; work = Seizes (seizing.begun kind e members me cluster valid) }) ts (begun_looks kind, voted) k

join_kept : (L : List Letter) (n q d : ℕ) (o : Option AttemptState) (ts : List Task) (j : JoinState) → TasksKept L n q o ts → TasksKept L n q o (after_join ts d j)
join_kept L n q d o ts j k = put_kept L n q o (join_of ts d) (record { device = d; work = Joins j }) ts tt k

pub joins_kept : (L : List Letter) (c : Cluster) (n q me e joined : ℕ) (o : Option AttemptState) (rs : List Reading) (ts : List Task) → TasksKept L n q o ts → TasksKept L n q o (joining_from c me e joined ts rs)
joins_kept L c n q me e joined o [] ts k = k
joins_kept L c n q me e joined o (r ∷ rs) ts k =
    joins_kept L c n q me e joined o rs (joining_with c me e joined ts r)
    (if_either (TasksKept L n q o) (is_to_join c me joined r) (after_join ts r.device (joining.begun e me c.id)) ts (join_kept L n q r.device o ts (joining.begun e me c.id) k) k)

work_kept : (L : List Letter) (n q d : ℕ) (o : Option AttemptState) (a : Answer) (w : Work) → WorkKept L n q o d w → WorkKept L n q o d (work_answered a w)
work_kept L n q d o a (Seizes s) k = ((λ plain. looks_on s s.step a (k.0 plain)), k.1)
work_kept L n q d o a (Joins j) k = tt

pub answer_kept : (L : List Letter) (n q : ℕ) (o : Option AttemptState) (a : Answer) (ts : List Task) → TasksKept L n q o ts → TasksKept L n q o (after_answer ts a)
answer_kept L n q o a [] k = tt
answer_kept L n q o a (t ∷ ts) k =
    if_either (TasksKept L n q o) (is_queued t) (answered a t ∷ ts) (t ∷ after_answer ts a) (work_kept L n q t.device o a t.work k.0, k.1) (k.0, answer_kept L n q o a ts k.1)

-- with other votes, or another session
work_with : (L M : List Letter) (n q r d : ℕ) (o p : Option AttemptState) (w : Work) → (VotedFor L n q o d → VotedFor M n r p d) → WorkKept L n q o d w → WorkKept M n r p d w
work_with L M n q r d o p (Seizes s) f k = (k.0, λ vote. f (k.1 vote))
work_with L M n q r d o p (Joins j) f k = tt

pub tasks_with : (L M : List Letter) (n q r : ℕ) (o p : Option AttemptState) (ts : List Task) → ((d : ℕ) → VotedFor L n q o d → VotedFor M n r p d) → TasksKept L n q o ts → TasksKept M n r p ts
tasks_with L M n q r o p [] f k = tt
tasks_with L M n q r o p (t ∷ ts) f k = (work_with L M n q r t.device o p t.work (f t.device) k.0, tasks_with L M n q r o p ts f k.1)

-- ---- one that has ended so

no_lack : (s : SeizeStep) (keys : List ℕ) → result_at s ≡ Some (NotRegistered keys) → LooksNot s → ⊥
no_lack (Ended r) keys is k = k (subst IsUnregistered (sym is) tt)
no_lack Check keys is k = k
no_lack Register keys is k = none_some (NotRegistered keys) is
no_lack ReadWord keys is k = none_some (NotRegistered keys) is
no_lack (Swap expected) keys is k = none_some (NotRegistered keys) is
no_lack Reserve keys is k = none_some (NotRegistered keys) is
no_lack (ReadKeys reading) keys is k = none_some (NotRegistered keys) is
no_lack (Preempt victim reading) keys is k = none_some (NotRegistered keys) is
no_lack (Confirm ks) keys is k = none_some (NotRegistered keys) is

work_votes : (L : List Letter) (n q d : ℕ) (o : Option AttemptState) (keys : List ℕ) (w : Work) → result_in w ≡ Some (NotRegistered keys) → WorkKept L n q o d w → VotedFor L n q o d
work_votes L n q d o keys (Joins j) is k = absurd (none_some (NotRegistered keys) is)
work_votes L n q d o keys (Seizes s) is k = by_kind s.kind k.0 k.1
  where
    by_kind : (kind : SeizeKind) → (kind ≡ Plain → LooksNot s.step) → (kind ≡ Vote → VotedFor L n q o d) → VotedFor L n q o d
    by_kind Vote looks voted = voted refl
    by_kind Plain looks voted = absurd (no_lack s.step keys is (looks refl))

pub ended_votes : (L : List Letter) (n q d : ℕ) (o : Option AttemptState) (keys : List ℕ) (ts : List Task) → HasEnded ts d (NotRegistered keys) → TasksKept L n q o ts → VotedFor L n q o d
ended_votes L n q d o keys [] ended k = absurd ended
ended_votes L n q d o keys (t ∷ ts) (inl here) k = subst (VotedFor L n q o) here.0 (work_votes L n q t.device o keys t.work here.1 k.0)
ended_votes L n q d o keys (t ∷ ts) (inr later) k = ended_votes L n q d o keys ts later k.1
