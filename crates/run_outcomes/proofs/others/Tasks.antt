-- Seizings of devices without votes that have ended, through what becomes of the tasks of a node.
use Rattle.std.specs.Prelude.{ℕ, ◌≡◌, ◌==◌, ◌&&◌, ◌||◌, ◌++◌, ◌⊎◌, if◌then◌else◌, Bool, true, false, List, [], ◌∷◌, Option, None, Some, is_some}
use Rattle.std.specs.List.{list_any}
use Rattle.std.proofs.Common.{refl, sym, ap, ◌∙◌, inl, inr}
use Rattle.cmm_attempt.proofs.Basics.{and_cases, false_true, if_either, or_cases}
use Rattle.device_queue.specs.Queue.{after_answer, after_join, after_seize, join_of, put_unless, seizure_of}
use Rattle.device_queue.specs.Tasks.{answered, is_over, is_queued, work_answered}
use Rattle.device_queue.specs.declared.task.Task.{Task}
use Rattle.device_queue.specs.declared.task.Work.{Work}
use Rattle.device_queue.specs.declared.task.Work.TheVariants.{Joining as Joins, Seizing as Seizes}
use Rattle.node_model.specs.Attempts.{is_to_join, joining_from, joining_with}
use Rattle.node_model.specs.declared.cluster.Cluster.{Cluster}
use Rattle.run_history.proofs.ContactStays.{or_left, or_right}
use Rattle.seize.specs.Answers.{Answer}
use Rattle.seize.specs.Joining as joining
use Rattle.seize.specs.Joining.{JoinState}
use Rattle.seize.specs.Seizing as seizing
use Rattle.seize.specs.declared.kind.SeizeKind.{SeizeKind}
use Rattle.seize.specs.declared.kind.SeizeKind.TheVariants.{Plain, Vote}
use Rattle.wire.specs.declared.lists.Reading.{Reading}
use Rattle.run_outcomes.specs.tasks.Laws.{is_plain}
use Rattle.run_outcomes.proofs.told_tasks.Quiet.{off_second}

-- a seizing without votes for e
abbrev pub plain_for : ℕ → Work → Bool
plain_for e (Seizes s) = is_plain s.kind && (s.epoch == e)
plain_for e (Joins j) = false

-- .. of device d
abbrev pub is_plain_of : ℕ → ℕ → Task → Bool
is_plain_of d e t = (t.device == d) && plain_for e t.work

abbrev pub is_ended_of : ℕ → ℕ → Task → Bool
is_ended_of d e t = is_plain_of d e t && is_over t

-- one of the tasks is one, and one that has ended
abbrev pub has_plain : ℕ → ℕ → List Task → Bool
has_plain d e ts = list_any (is_plain_of d e) ts

abbrev pub has_ended : ℕ → ℕ → List Task → Bool
has_ended d e ts = list_any (is_ended_of d e) ts

-- none ends but what had ended
abbrev pub KeepsEnded : List Task → List Task → Type 0
KeepsEnded xs ys = (d e : ℕ) → has_ended d e ys ≡ true → has_ended d e xs ≡ true

-- none ends but what was there
abbrev pub EndsThere : List Task → List Task → Type 0
EndsThere xs ys = (d e : ℕ) → has_ended d e ys ≡ true → has_plain d e xs ≡ true

pub ended_plain : (d e : ℕ) (ts : List Task) → has_ended d e ts ≡ true → has_plain d e ts ≡ true
ended_plain d e [] h = absurd (false_true h)
ended_plain d e (t ∷ ts) h = by_side (or_cases (is_ended_of d e t) (has_ended d e ts) h) (λ rest. ended_plain d e ts rest)
  where
    by_side : (is_ended_of d e t ≡ true) ⊎ (has_ended d e ts ≡ true) → (has_ended d e ts ≡ true → has_plain d e ts ≡ true) → has_plain d e (t ∷ ts) ≡ true
    by_side (inl here) rest = or_left (is_plain_of d e t) (has_plain d e ts) (and_cases (is_plain_of d e t) (is_over t) here).0
    by_side (inr there) rest = or_right (is_plain_of d e t) (has_plain d e ts) (rest there)

pub nothing_ends : (xs : List Task) → KeepsEnded xs []
nothing_ends xs d e h = absurd (false_true h)

-- ---- another task

any_last : {X : Type 0} (f : X → Bool) (xs : List X) (y : X) → f y ≡ false → list_any f (xs ++ y ∷ []) ≡ true → list_any f xs ≡ true
any_last f [] y off h = absurd (false_true (sym off ∙ by_value (f y) h))
  where
    by_value : (b : Bool) → (b || false) ≡ true → b ≡ true
    by_value true k = refl
    by_value false k = k
any_last f (x ∷ xs) y off h = by_value (f x) h (any_last f xs y off)
  where
    by_value : (b : Bool) → (b || list_any f (xs ++ y ∷ [])) ≡ true → (list_any f (xs ++ y ∷ []) ≡ true → list_any f xs ≡ true) → (b || list_any f xs) ≡ true
    by_value true k rest = refl
    by_value false k rest = rest k

put_keeps : (o : Option Task) (t : Task) (ts : List Task) → ((d e : ℕ) → is_ended_of d e t ≡ false) → KeepsEnded ts (put_unless o t ts)
put_keeps None t ts new d e h = any_last (is_ended_of d e) ts t (new d e) h
put_keeps (Some earlier) t ts new d e h = h

first_not : (kind : SeizeKind) → is_some (seizing.result_at (seizing.first_step kind)) ≡ false
first_not Plain = refl
first_not Vote = refl

-- a seizing that begins has not ended
pub seize_keeps : (ts : List Task) (k : ℕ) (kind : SeizeKind) (epoch members me cluster : ℕ) (valid : Bool) → KeepsEnded ts (after_seize ts k (seizing.begun kind epoch members me cluster valid))
seize_keeps ts k kind epoch members me cluster valid =
    let t : Task = record { device = k; work = Seizes (seizing.begun kind epoch members me cluster valid) } in
    put_keeps (seizure_of ts k) t ts (λ d e. off_second (is_plain_of d e t) (is_over t) (first_not kind))

join_keeps : (ts : List Task) (k : ℕ) (j : JoinState) → KeepsEnded ts (after_join ts k j)
join_keeps ts k j =
    let t : Task = record { device = k; work = Joins j } in
    put_keeps (join_of ts k) t ts (λ d e. ap (λ b. b && is_over t) (off_second (k == d) false refl))

with_keeps : (c : Cluster) (me e joined : ℕ) (ts : List Task) (r : Reading) → KeepsEnded ts (joining_with c me e joined ts r)
with_keeps c me e joined ts r = if_either (KeepsEnded ts) (is_to_join c me joined r) (after_join ts r.device (joining.begun e me c.id)) ts (join_keeps ts r.device (joining.begun e me c.id)) (λ d e h. h)

pub from_keeps : (c : Cluster) (me e joined : ℕ) (ts : List Task) (rs : List Reading) → KeepsEnded ts (joining_from c me e joined ts rs)
from_keeps c me e joined ts [] d f h = h
from_keeps c me e joined ts (r ∷ rs) d f h = with_keeps c me e joined ts r d f (from_keeps c me e joined (joining_with c me e joined ts r) rs d f h)

-- ---- an answer

answered_same : (d e : ℕ) (a : Answer) (t : Task) → is_plain_of d e (answered a t) ≡ is_plain_of d e t
answered_same d e a t = ap (λ b. (t.device == d) && b) (by_work t.work)
  where
    by_work : (w : Work) → plain_for e (work_answered a w) ≡ plain_for e w
    by_work (Seizes s) = refl
    by_work (Joins j) = refl

pub answer_there : (a : Answer) (ts : List Task) → EndsThere ts (after_answer ts a)
answer_there a [] d e h = absurd (false_true h)
answer_there a (t ∷ ts) d e h = by_queued (is_queued t) h (λ rest. answer_there a ts d e rest)
  where
    here : (u : Task) → is_plain_of d e u ≡ is_plain_of d e t → is_ended_of d e u ≡ true → has_plain d e (t ∷ ts) ≡ true
    here u same k = or_left (is_plain_of d e t) (has_plain d e ts) (sym same ∙ (and_cases (is_plain_of d e u) (is_over u) k).0)

    by_head : (is_ended_of d e (answered a t) ≡ true) ⊎ (has_ended d e ts ≡ true) → has_plain d e (t ∷ ts) ≡ true
    by_head (inl k) = here (answered a t) (answered_same d e a t) k
    by_head (inr k) = or_right (is_plain_of d e t) (has_plain d e ts) (ended_plain d e ts k)

    by_tail : (is_ended_of d e t ≡ true) ⊎ (has_ended d e (after_answer ts a) ≡ true) → (has_ended d e (after_answer ts a) ≡ true → has_plain d e ts ≡ true) → has_plain d e (t ∷ ts) ≡ true
    by_tail (inl k) rest = here t refl k
    by_tail (inr k) rest = or_right (is_plain_of d e t) (has_plain d e ts) (rest k)

    by_queued : (b : Bool) → has_ended d e (if b then answered a t ∷ ts else t ∷ after_answer ts a) ≡ true → (has_ended d e (after_answer ts a) ≡ true → has_plain d e ts ≡ true) → has_plain d e (t ∷ ts) ≡ true
    by_queued true k rest = by_head (or_cases (is_ended_of d e (answered a t)) (has_ended d e ts) k)
    by_queued false k rest = by_tail (or_cases (is_ended_of d e t) (has_ended d e (after_answer ts a)) k) rest
