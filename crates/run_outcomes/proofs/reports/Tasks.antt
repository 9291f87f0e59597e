-- Tasks that are queued, as the node has them and as `history` tells them.
use Rattle.std.specs.Prelude.{ℕ, suc, ◌≡◌, ◌⊎◌, ◌==◌, ◌&&◌, ◌||◌, ◌++◌, nat_lt, not, Bool, true, false, if◌then◌else◌, List, [], ◌∷◌, Option, None, Some, filter, find, is_some, length, map}
use Rattle.std.specs.List.{AllByRecursion, list_any}
use Rattle.std.specs.Option.{option_and_then}
use Rattle.std.proofs.Common.{refl, ap, sym, subst, ◌∙◌, inl, inr, arith}
use Rattle.cl_base.specs.Seizings.{SeizeResult}
use Rattle.cmm_attempt.proofs.Basics.{and_cases, false_true, none_some, same_some}
use Rattle.device_queue.specs.Queue.{after_answer, after_seize, first_of, joins, kept_of, put_unless, seizure_of}
use Rattle.device_queue.specs.Tasks.{answered, is_joining, is_queued, is_seizing, is_seizure_of, joining_progress, progress_of, result_in, seizing_progress}
use Rattle.device_queue.specs.declared.progress.Progress.TheVariants.{Joined, Seized}
use Rattle.device_queue.specs.declared.task.Task.{Task}
use Rattle.device_queue.specs.declared.task.Work.{Work}
use Rattle.device_queue.specs.declared.task.Work.TheVariants.{Joining, Seizing}
use Rattle.history.specs.Queue as told
use Rattle.run_devices.specs.queues.Kept.{NoJoins, joins_in}
use Rattle.run_devices.specs.queues.Laws.{Same}
use Rattle.run_history.proofs.Idle.{if_true}
use Rattle.run_packets.specs.admitted.Known.{ResultFew, StepFew, WorkFew}
use Rattle.run_seizings.proofs.Progress.{if_not}
use Rattle.seize.specs.Answers.{Answer}
use Rattle.seize.specs.Joining as joining
use Rattle.seize.specs.Joining.{JoinState}
use Rattle.seize.specs.Seizing as seizing
use Rattle.seize.specs.declared.kind.JoinResult.{JoinResult}
use Rattle.seize.specs.declared.step.SeizeStep.{SeizeStep}
use Rattle.seize.specs.declared.step.SeizeStep.TheVariants as step
use Rattle.seize.specs.Seizing.{SeizeState}
use Rattle.seize.specs.declared.kind.SeizeKind.{SeizeKind}
use Rattle.seize.specs.declared.kind.SeizeKind.TheVariants.{Plain, Vote}

-- ---- as the node has them

-- a task at this device is queued
abbrev pub is_at : ℕ → List Task → Bool
is_at d tasks = list_any (λ (t : Task). t.device == d) (filter is_queued tasks)

at_more : (d : ℕ) (t : Task) (ts : List Task) → is_at d ts ≡ true → is_at d (t ∷ ts) ≡ true
at_more d t ts h = by_test (is_queued t)
  where
    or_later : (a b : Bool) → b ≡ true → (a || b) ≡ true
    or_later true b h = refl
    or_later false b h = h

    by_test : (b : Bool) → list_any (λ (u : Task). u.device == d) (if b then t ∷ filter is_queued ts else filter is_queued ts) ≡ true
    by_test true = or_later (t.device == d) (is_at d ts) h
    by_test false = h

at_here : (d : ℕ) (t : Task) (ts : List Task) → (t.device == d) ≡ true → is_queued t ≡ true → is_at d (t ∷ ts) ≡ true
at_here d t ts same queued = by_test (is_queued t) queued
  where
    or_first : (a b : Bool) → a ≡ true → (a || b) ≡ true
    or_first a b h = cc

    by_test : (b : Bool) → b ≡ true → list_any (λ (u : Task). u.device == d) (if b then t ∷ filter is_queued ts else filter is_queued ts) ≡ true
    by_test true is = or_first (t.device == d) (is_at d ts) same
    by_test false is = absurd (false_true is)

at_end : (d : ℕ) (t : Task) (ts : List Task) → (t.device == d) ≡ true → is_queued t ≡ true → is_at d (ts ++ t ∷ []) ≡ true
at_end d t [] same queued = at_here d t [] same queued
at_end d t (u ∷ ts) same queued = at_more d u (ts ++ t ∷ []) (at_end d t ts same queued)

pub itself : (d : ℕ) → (d == d) ≡ true
itself d = grind arith

-- the seizing that is there goes on
seizure_queued : (d : ℕ) (t : Task) → is_seizure_of d t ≡ true → result_in t.work ≡ None → is_queued t ≡ true
seizure_queued d t is none = by_work t.work refl (and_cases (t.device == d) _ is).1 none
  where
    by_work : (w : Work) → t.work ≡ w → is_seizing w ≡ true → result_in w ≡ None → is_queued (record { device = t.device; work = w }) ≡ true
    by_work (Seizing s) at kind over = ap (λ o. not (is_some o)) over
    by_work (Joining j) at kind over = absurd (false_true kind)

goes_on : (d : ℕ) (ts : List Task) (t : Task) → seizure_of ts d ≡ Some t → result_in t.work ≡ None → is_at d ts ≡ true
goes_on d [] t found none = absurd (none_some t found)
goes_on d (u ∷ ts) t found none = by_test (is_seizure_of d u) refl found (λ at. goes_on d ts t at none)
  where
    by_test : (b : Bool) → is_seizure_of d u ≡ b → (if b then Some u else find (is_seizure_of d) ts) ≡ Some t → (find (is_seizure_of d) ts ≡ Some t → is_at d ts ≡ true) → is_at d (u ∷ ts) ≡ true
    by_test true is at later = at_here d u ts (and_cases (u.device == d) _ is).0 (seizure_queued d u is (ap (λ (z : Task). result_in z.work) (same_some u t at) ∙ none))
    by_test false is at later = at_more d u ts (later at)

begun_queued : (kind : SeizeKind) (d e members n id : ℕ) (valid : Bool) → is_queued (record { device = d; work = Seizing (seizing.begun kind e members n id valid) }) ≡ true
begun_queued Vote d e members n id valid = refl
begun_queued Plain d e members n id valid = refl

-- where none has ended, a request to seize leaves one queued
pub seize_queued : (d : ℕ) (ts : List Task) (kind : SeizeKind) (e members n id : ℕ) (valid : Bool) → kept_of ts d ≡ None → is_at d (after_seize ts d (seizing.begun kind e members n id valid)) ≡ true
seize_queued d ts kind e members n id valid none = by_found (seizure_of ts d) refl none
  where
    new : Task
    new = record { device = d; work = Seizing (seizing.begun kind e members n id valid) }

    by_found : (o : Option Task) → seizure_of ts d ≡ o → option_and_then (λ (t : Task). result_in t.work) o ≡ None → is_at d (put_unless o new ts) ≡ true
    by_found None at over = at_end d new ts (itself d) (begun_queued kind d e members n id valid)
    by_found (Some t) at over = goes_on d ts t at over

-- ---- as `history` has them

any_same : (d : ℕ) (ts : List Task) (us : List told.Task) → Same ts us → list_any (λ x. x == d) (map (λ (u : told.Task). u.device) us) ≡ list_any (λ (t : Task). t.device == d) ts
any_same d [] [] h = refl
any_same d (t ∷ ts) (u ∷ us) h = ap (λ k. (k == d) || list_any (λ x. x == d) (map (λ (w : told.Task). w.device) us)) (sym h.0.0) ∙ ap (λ b. (t.device == d) || b) (any_same d ts us h.1)
any_same d [] (u ∷ us) h = absurd h
any_same d (t ∷ ts) [] h = absurd h

-- the device is queued in both
pub at_same : (d : ℕ) (ts : List Task) (us : List told.Task) → Same (filter is_queued ts) us → list_any (λ x. x == d) (map (λ (u : told.Task). u.device) us) ≡ is_at d ts
at_same d ts us h = any_same d (filter is_queued ts) us h

some_more : (k : ℕ) → nat_lt 0 (suc k) ≡ true
some_more k = grind arith

-- a joining that is queued is work
pub joins_work : (ts : List Task) (us : List told.Task) → Same (filter is_queued ts) us → joins ts ≡ true → nat_lt 0 (length (map (λ (u : told.Task). u.device) us)) ≡ true
joins_work [] us same h = absurd (false_true h)
joins_work (t ∷ ts) us same h = by_test (is_queued t) refl same (λ k is. joins_work ts us k is)
  where
    later : is_queued t ≡ false → joins ts ≡ true
    later off = by_and (is_joining t.work) (is_queued t) off h
      where
        by_and : (a b : Bool) → b ≡ false → ((a && b) || joins ts) ≡ true → joins ts ≡ true
        by_and true true off h = absurd (false_true (sym off))
        by_and true false off h = h
        by_and false b off h = h

    by_some : (vs : List told.Task) → Same (t ∷ filter is_queued ts) vs → nat_lt 0 (length (map (λ (u : told.Task). u.device) vs)) ≡ true
    by_some [] k = absurd k
    by_some (v ∷ vs) k = some_more (length (map (λ (u : told.Task). u.device) vs))

    by_test : (b : Bool) → is_queued t ≡ b → Same (if b then t ∷ filter is_queued ts else filter is_queued ts) us
        → (Same (filter is_queued ts) us → joins ts ≡ true → nat_lt 0 (length (map (λ (u : told.Task). u.device) us)) ≡ true) → nat_lt 0 (length (map (λ (u : told.Task). u.device) us)) ≡ true
    by_test true is k earlier = by_some us k
    by_test false is k earlier = earlier k (later is)

-- ---- few keys

result_few : (w : Work) (r : SeizeResult) → result_in w ≡ Some r → WorkFew w → ResultFew r
result_few (Seizing s) r is few = by_step s.step is few
  where
    by_step : (k : SeizeStep) → seizing.result_at k ≡ Some r → StepFew k → ResultFew r
    by_step (step.Ended q) at few = subst ResultFew (same_some q r at) few
    by_step _ at few = absurd (none_some r at)
result_few (Joining j) r is few = absurd (none_some r is)

pub found_few : (p : Task → Bool) (ts : List Task) (t : Task) → find p ts ≡ Some t → AllByRecursion (λ (u : Task). WorkFew u.work) ts → WorkFew t.work
found_few p [] t is all = absurd (none_some t is)
found_few p (u ∷ ts) t is all = by_test (p u) is (λ at. found_few p ts t at all.1)
  where
    by_test : (b : Bool) → (if b then Some u else find p ts) ≡ Some t → (find p ts ≡ Some t → WorkFew t.work) → WorkFew t.work
    by_test true at later = subst (λ (z : Task). WorkFew z.work) (same_some u t at) all.0
    by_test false at later = later at

pub kept_few : (d : ℕ) (ts : List Task) (r : SeizeResult) → kept_of ts d ≡ Some r → AllByRecursion (λ (u : Task). WorkFew u.work) ts → ResultFew r
kept_few d ts r is all = by_found (seizure_of ts d) refl is
  where
    by_found : (o : Option Task) → seizure_of ts d ≡ o → option_and_then (λ (t : Task). result_in t.work) o ≡ Some r → ResultFew r
    by_found None at kept = absurd (none_some r kept)
    by_found (Some t) at kept = result_few t.work r kept (found_few (is_seizure_of d) ts t at all)

-- ---- the first task takes an answer

-- where it goes on it is queued still
pub answered_at : (ts : List Task) (t : Task) (a : Answer) → first_of ts ≡ Some t → is_queued (answered a t) ≡ true → is_at t.device (after_answer ts a) ≡ true
answered_at [] t a first queued = absurd (none_some t first)
answered_at (u ∷ ts) t a first queued = by_test (is_queued u) first (λ at. answered_at ts t a at queued)
  where
    by_test : (b : Bool) → (if b then Some u else find is_queued ts) ≡ Some t → (find is_queued ts ≡ Some t → is_at t.device (after_answer ts a) ≡ true) → is_at t.device (if b then answered a u ∷ ts else u ∷ after_answer ts a) ≡ true
    by_test true at later = subst (λ (z : Task). is_at t.device (answered a z ∷ ts) ≡ true) (sym (same_some u t at)) (at_here t.device (answered a t) ts (itself t.device) queued)
    by_test false at later = at_more t.device u (after_answer ts a) (later at)

-- .. and it has read few keys
pub answered_few : (ts : List Task) (t : Task) (a : Answer) → first_of ts ≡ Some t → AllByRecursion (λ (u : Task). WorkFew u.work) (after_answer ts a) → WorkFew (answered a t).work
answered_few [] t a first all = absurd (none_some t first)
answered_few (u ∷ ts) t a first all = by_test (is_queued u) first all (λ at more. answered_few ts t a at more)
  where
    by_test : (b : Bool) → (if b then Some u else find is_queued ts) ≡ Some t → AllByRecursion (λ (v : Task). WorkFew v.work) (if b then answered a u ∷ ts else u ∷ after_answer ts a)
        → (find is_queued ts ≡ Some t → AllByRecursion (λ (v : Task). WorkFew v.work) (after_answer ts a) → WorkFew (answered a t).work) → WorkFew (answered a t).work
    by_test true at few later = subst (λ (z : Task). WorkFew (answered a z).work) (same_some u t at) few.0
    by_test false at few later = later at few.1

-- the first of the queue is the first that is told
pub record FirstAt (ts : List Task) (d : ℕ) : Type 0 where
  pub task : Task
  pub first : first_of ts ≡ Some task
  pub device : task.device ≡ d
  pub queued : is_queued task ≡ true

pub first_told : (ts : List Task) (us : List told.Task) (d : ℕ) (others : List ℕ) → Same (filter is_queued ts) us → map (λ (u : told.Task). u.device) us ≡ d ∷ others → FirstAt ts d
first_told [] [] d others same is = absurd (nil_cons d others is)
  where
    nil_cons : (d : ℕ) (others : List ℕ) → [] ≡ d ∷ others → ⊥
    nil_cons d others e = cc
first_told [] (u ∷ us) d others same is = absurd same
first_told (t ∷ ts) us d others same is = by_test (is_queued t) refl us same is (λ vs k at. first_told ts vs d others k at)
  where
    head_is : (a b : ℕ) (xs ys : List ℕ) → a ∷ xs ≡ b ∷ ys → a ≡ b
    head_is a b xs ys e = cc

    by_some : (vs : List told.Task) → is_queued t ≡ true → Same (t ∷ filter is_queued ts) vs → map (λ (u : told.Task). u.device) vs ≡ d ∷ others → FirstAt (t ∷ ts) d
    by_some [] queued k at = absurd k
    by_some (v ∷ vs) queued k at = record {
      task = t;
      first = if_true (is_queued t) (Some t) (find is_queued ts) queued;
      device = k.0.0 ∙ head_is v.device d (map (λ (u : told.Task). u.device) vs) others at;
      queued = queued;
    }

    by_test : (b : Bool) → is_queued t ≡ b → (vs : List told.Task) → Same (if b then t ∷ filter is_queued ts else filter is_queued ts) vs → map (λ (u : told.Task). u.device) vs ≡ d ∷ others
        → ((ws : List told.Task) → Same (filter is_queued ts) ws → map (λ (u : told.Task). u.device) ws ≡ d ∷ others → FirstAt ts d) → FirstAt (t ∷ ts) d
    by_test true queued vs k at later = by_some vs queued k at
    by_test false off vs k at later =
        let f : FirstAt ts d = later vs k at in
        record { task = f.task; first = if_not (is_queued t) (Some t) (find is_queued ts) off ∙ f.first; device = f.device; queued = f.queued }

-- ---- how the first task has gone on

-- it goes on, or has ended so
pub record IsSeized (t : Task) (a : Answer) : Type 0 where
  pub result : SeizeResult
  pub progress : progress_of (answered a t) ≡ Seized t.device result
  pub is : result_in (answered a t).work ≡ Some result

pub seizing_goes : (t : Task) (a : Answer) → is_joining t.work ≡ false → (is_queued (answered a t) ≡ true) ⊎ IsSeized t a
seizing_goes t a kind = by_work t.work refl kind
  where
    by_result : (s : SeizeState) (o : Option SeizeResult) → seizing.result_of (seizing.taken s a) ≡ o
        → (is_queued (record { device = t.device; work = Seizing (seizing.taken s a) }) ≡ true) ⊎ IsSeized (record { device = t.device; work = Seizing s }) a
    by_result s None is = inl (ap (λ o. not (is_some o)) is)
    by_result s (Some r) is = inr (record { result = r; progress = ap (seizing_progress t.device) is; is = is })

    by_work : (w : Work) → t.work ≡ w → is_joining w ≡ false → (is_queued (answered a t) ≡ true) ⊎ IsSeized t a
    by_work (Seizing s) at is =
        subst (λ v. (is_queued (answered a (record { device = t.device; work = v })) ≡ true) ⊎ IsSeized (record { device = t.device; work = v }) a) (sym at) (by_result s (seizing.result_of (seizing.taken s a)) refl)
    by_work (Joining j) at is = absurd (false_true (sym is))

pub record IsJoined (t : Task) (a : Answer) : Type 0 where
  pub result : JoinResult
  pub progress : progress_of (answered a t) ≡ Joined t.device result

pub joining_goes : (t : Task) (a : Answer) → is_joining t.work ≡ true → (is_queued (answered a t) ≡ true) ⊎ IsJoined t a
joining_goes t a kind = by_work t.work refl kind
  where
    by_result : (j : JoinState) (o : Option JoinResult) → joining.result_of (joining.taken j a) ≡ o
        → (is_queued (record { device = t.device; work = Joining (joining.taken j a) }) ≡ true) ⊎ IsJoined (record { device = t.device; work = Joining j }) a
    by_result j None is = inl (ap (λ o. not (is_some o)) is)
    by_result j (Some r) is = inr (record { result = r; progress = ap (joining_progress t.device) is })

    by_work : (w : Work) → t.work ≡ w → is_joining w ≡ true → (is_queued (answered a t) ≡ true) ⊎ IsJoined t a
    by_work (Joining j) at is =
        subst (λ v. (is_queued (answered a (record { device = t.device; work = v })) ≡ true) ⊎ IsJoined (record { device = t.device; work = v }) a) (sym at) (by_result j (joining.result_of (joining.taken j a)) refl)
    by_work (Seizing s) at is = absurd (false_true is)

-- ---- of which kind it is

pub plain_first : (ts : List Task) (t : Task) → NoJoins ts → first_of ts ≡ Some t → is_joining t.work ≡ false
plain_first [] t none is = absurd (none_some t is)
plain_first (u ∷ ts) t none is = by_test (is_queued u) is (λ at. plain_first ts t none.1 at)
  where
    by_test : (b : Bool) → (if b then Some u else find is_queued ts) ≡ Some t → (find is_queued ts ≡ Some t → is_joining t.work ≡ false) → is_joining t.work ≡ false
    by_test true at later = subst (λ (z : Task). is_joining z.work ≡ false) (same_some u t at) none.0
    by_test false at later = later at

abbrev head_of : List Task → Option Task
head_of [] = None
head_of (t ∷ ts) = Some t

first_head : (ts : List Task) → first_of ts ≡ head_of (filter is_queued ts)
first_head [] = refl
first_head (t ∷ ts) = by_test (is_queued t) (first_head ts)
  where
    by_test : (b : Bool) → find is_queued ts ≡ head_of (filter is_queued ts) → (if b then Some t else find is_queued ts) ≡ head_of (if b then t ∷ filter is_queued ts else filter is_queued ts)
    by_test true rest = refl
    by_test false rest = rest

joins_head : (ts : List Task) (t : Task) → head_of (filter is_queued (joins_in ts)) ≡ Some t → is_joining t.work ≡ true
joins_head [] t is = absurd (none_some t is)
joins_head (u ∷ ts) t is = by_kind (is_joining u.work) refl is (λ at. joins_head ts t at)
  where
    by_queue : (b : Bool) → is_joining u.work ≡ true → head_of (if b then u ∷ filter is_queued (joins_in ts) else filter is_queued (joins_in ts)) ≡ Some t
        → (head_of (filter is_queued (joins_in ts)) ≡ Some t → is_joining t.work ≡ true) → is_joining t.work ≡ true
    by_queue true kind at later = subst (λ (z : Task). is_joining z.work ≡ true) (same_some u t at) kind
    by_queue false kind at later = later at

    by_kind : (b : Bool) → is_joining u.work ≡ b → head_of (filter is_queued (if b then u ∷ joins_in ts else joins_in ts)) ≡ Some t → (head_of (filter is_queued (joins_in ts)) ≡ Some t → is_joining t.work ≡ true)
        → is_joining t.work ≡ true
    by_kind true kind at later = by_queue (is_queued u) kind at later
    by_kind false kind at later = later at

pub joining_first : (ts : List Task) (t : Task) → filter is_queued ts ≡ filter is_queued (joins_in ts) → first_of ts ≡ Some t → is_joining t.work ≡ true
joining_first ts t same is = joins_head ts t (ap head_of (sym same) ∙ (sym (first_head ts) ∙ is))

-- a result that was read has few keys
pub seized_few : (t : Task) (r : SeizeResult) → result_in t.work ≡ Some r → WorkFew t.work → ResultFew r
seized_few t r is few = result_few t.work r is few
