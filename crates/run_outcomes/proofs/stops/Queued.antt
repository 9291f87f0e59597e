-- What the lines tell of the first task of a node that is not over.
use Rattle.std.specs.Prelude.{ℕ, ◌≡◌, ◌==◌, ◌&&◌, ◌||◌, not, Bool, true, false, List, [], ◌∷◌, ◌++◌, filter, length, Option, None, Some, Ok, Err, if◌then◌else◌}
use Rattle.std.specs.List.{list_any}
use Rattle.std.proofs.Common.{refl, sym, ap, subst, ◌∙◌, arith}
use Rattle.cl_base.specs.Sets.{has}
use Rattle.cmm_attempt.proofs.Basics.{false_true, if_either, none_some, same_some}
use Rattle.device_queue.specs.Queue.{first_of}
use Rattle.device_queue.specs.Tasks.{is_queued, registers_first}
use Rattle.device_queue.specs.declared.task.Task.{Task}
use Rattle.device_queue.specs.declared.task.Work.{Work}
use Rattle.device_queue.specs.declared.task.Work.TheVariants.{Seizing, Joining}
use Rattle.history.specs.Member.{attempt_of}
use Rattle.history.specs.Moment.{Moment}
use Rattle.history.specs.Queue as told
use Rattle.history.specs.Records.{NodeRecord}
use Rattle.history.specs.Saves.{has_joined, is_lapsed, is_register, is_registering, joined_by, makes_invalid}
use Rattle.history.specs.Setting.{Setting, all_to, paths_of}
use Rattle.history.specs.Validated.{is_valid, validity}
use Rattle.node_model.specs.Devices.{answer_told}
use Rattle.pgr_device.specs.declared.command.PrCommand.{PrCommand}
use Rattle.seize.specs.Answers.{Answer}
use Rattle.seize.specs.Seizing.{SeizeState}
use Rattle.seize.specs.declared.kind.SeizeKind.{SeizeKind}
use Rattle.seize.specs.declared.kind.SeizeKind.TheVariants.{Plain, Vote}
use Rattle.run_devices.proofs.queues.Acts.{line_of}
use Rattle.run_devices.specs.queues.Laws.{Same, SameTask, SameWork, queued}

or_so : (a b : Bool) → b ≡ true → (a || b) ≡ true
or_so true b h = refl
or_so false b h = h

or_first : (a b : Bool) → a ≡ true → (a || b) ≡ true
or_first true b h = refl
or_first false b h = absurd (false_true h)

-- ---- the first of the queue is the same

-- there is a first, and this holds of it
abbrev pub IsHead : (told.Task → Type 0) → List told.Task → Type 0
IsHead P [] = ⊥
IsHead P (u ∷ us) = P u

head_of : (x t : Task) (ts : List Task) (us : List told.Task) → x ≡ t → Same (x ∷ ts) us → IsHead (SameTask t) us
head_of x t ts [] same k = absurd k
head_of x t ts (v ∷ vs) same k = subst (λ z. SameTask z v) same k.0

pub head_same : (ts : List Task) (t : Task) (us : List told.Task) → first_of ts ≡ Some t → Same (filter is_queued ts) us → IsHead (SameTask t) us
head_same [] t us is k = absurd (none_some t is)
head_same (x ∷ ts) t us is k = by_test (is_queued x) (λ e l. head_same ts t us e l) is k
  where
    by_test : (b : Bool) → (first_of ts ≡ Some t → Same (filter is_queued ts) us → IsHead (SameTask t) us)
        → (if b then Some x else first_of ts) ≡ Some t → Same (if b then x ∷ filter is_queued ts else filter is_queued ts) us → IsHead (SameTask t) us
    by_test true rest e k = head_of x t (filter is_queued ts) us (same_some x t e) k
    by_test false rest e k = rest e k

-- ---- a seizing that registers

seizes_register : (w : Work) (u : told.Work) → SameWork w u → registers_first w ≡ true → is_registering u ≡ true
seizes_register (Seizing s) (told.Seizes r) k is = ap (λ (z : SeizeState). is_register z.step) (sym k.0) ∙ same_step s is
  where
    same_step : (s : SeizeState) → registers_first (Seizing s) ≡ true → is_register s.step ≡ true
    same_step s is = is
seizes_register (Joining j) (told.Joins i) k is = absurd (false_true is)
seizes_register (Seizing s) (told.Joins i) k is = absurd k
seizes_register (Joining j) (told.Seizes r) k is = absurd k

both_so : (a b : Bool) → a ≡ true → b ≡ false → (a && not b) ≡ true
both_so true false h k = refl
both_so true true h k = absurd (false_true (sym k))
both_so false b h k = absurd (false_true h)

-- it makes the device not valid
pub registers_so : (S : Setting) (n : ℕ) (t : Task) (us : List told.Task) (ms : List Moment) → IsHead (SameTask t) us → registers_first t.work ≡ true → is_lapsed (validity S.header n t.device ms) ≡ false
    → makes_invalid S n us ms ≡ true
registers_so S n t [] ms k is valid = absurd k
registers_so S n t (u ∷ us) ms k is valid =
    both_so (is_registering u.work) (is_lapsed (validity S.header n u.device ms)) (seizes_register t.work u.work k.1 is) (ap (λ d. is_lapsed (validity S.header n d ms)) (sym k.0) ∙ valid)

-- ---- a joining that is over

-- the first task that is not over takes the answer
pub moved_joined : (a : Answer) (us : List told.Task) → IsHead (λ u. joined_by (told.work_after u.work a) ≡ true) (queued us) → list_any has_joined (told.moved a us) ≡ true
moved_joined a [] k = absurd k
moved_joined a (u ∷ us) k = by_test (told.is_over u.work) k (moved_joined a us)
  where
    by_test : (b : Bool) → IsHead (λ v. joined_by (told.work_after v.work a) ≡ true) (if not b then u ∷ queued us else queued us)
        → (IsHead (λ v. joined_by (told.work_after v.work a) ≡ true) (queued us) → list_any has_joined (told.moved a us) ≡ true)
        → list_any has_joined (if b then u ∷ told.moved a us else (record u { work = told.work_after u.work a }) ∷ us) ≡ true
    by_test true k rest = or_so (has_joined u) (list_any has_joined (told.moved a us)) (rest k)
    by_test false k rest = or_first (joined_by (told.work_after u.work a)) (list_any has_joined us) k

-- ---- what a coordinator seizes itself leaves the tasks that it has

any_more : (P : told.Task → Bool) (us vs : List told.Task) → list_any P us ≡ true → list_any P (us ++ vs) ≡ true
any_more P [] vs h = absurd (false_true h)
any_more P (u ∷ us) vs h = by_test (P u) (any_more P us vs) h
  where
    by_test : (b : Bool) → (list_any P us ≡ true → list_any P (us ++ vs) ≡ true) → (b || list_any P us) ≡ true → (b || list_any P (us ++ vs)) ≡ true
    by_test true rest h = refl
    by_test false rest h = rest h

with_any : (P : told.Task → Bool) (d : ℕ) (work : told.Work) (us : List told.Task) → list_any P us ≡ true → list_any P (told.with_task d work us) ≡ true
with_any P d work us h = if_either (λ vs. list_any P vs ≡ true) (told.has_task d us) us (us ++ (record { device = d; work = work }) ∷ []) h (any_more P us ((record { device = d; work = work }) ∷ []) h)

seizings_any : (P : told.Task → Bool) (S : Setting) (n e : ℕ) (kind : SeizeKind) (ms : List Moment) (ds : List ℕ) (us : List told.Task) → list_any P us ≡ true → list_any P (told.with_seizings S n e kind ms ds us) ≡ true
seizings_any P S n e kind ms [] us h = h
seizings_any P S n e kind ms (d ∷ ds) us h = seizings_any P S n e kind ms ds (told.with_task d (told.seizing_for S n e kind ms) us) (with_any P d (told.seizing_for S n e kind ms) us h)

quorum_any : (P : told.Task → Bool) (S : Setting) (n e : ℕ) (r : NodeRecord) (ms : List Moment) (us : List told.Task) → list_any P us ≡ true → list_any P (told.own_quorum S n e r ms us) ≡ true
quorum_any P S n e r ms us h =
    seizings_any P S n e Vote ms
    (filter (λ d. told.is_voting S r d && has (paths_of S.header d) n && is_valid (validity S.header n d ms)) (all_to (length S.header.devices))) us h

data_any : (P : told.Task → Bool) (S : Setting) (n e : ℕ) (r : NodeRecord) (ms : List Moment) (us : List told.Task) → list_any P us ≡ true → list_any P (told.own_data S n e r ms us) ≡ true
data_any P S n e r ms us h = if_either (λ vs. list_any P vs ≡ true) (told.quorum_is_over S e r us ms) _ us (seizings_any P S n e Plain ms (filter (λ d. not (told.is_voting S r d) && has (paths_of S.header d) n) (all_to (length S.header.devices))) us h) h

own_any : (P : told.Task → Bool) (S : Setting) (n e : ℕ) (o : Option NodeRecord) (ms : List Moment) (us : List told.Task) → list_any P us ≡ true → list_any P (told.own_tasks S n e o ms us) ≡ true
own_any P S n e None ms us h = h
own_any P S n e (Some r) ms us h = data_any P S n e r ms (told.own_quorum S n e r ms us) (quorum_any P S n e r ms us h)

pub with_own_any : (P : told.Task → Bool) (S : Setting) (n : ℕ) (o : Option ℕ) (ms : List Moment) (us : List told.Task) → list_any P us ≡ true → list_any P (told.with_own S n o ms us) ≡ true
with_own_any P S n None ms us h = h
with_own_any P S n (Some e) ms us h = if_either (λ vs. list_any P vs ≡ true) _ (told.own_tasks S n e (told.newest_in_hand e ms) ms us) us (own_any P S n e (told.newest_in_hand e ms) ms us h) h

-- ---- the line of a command

itself : (n : ℕ) → (n == n) ≡ true
itself n = grind arith

answer_again : (a : Answer) → told.answer_told (answer_told a) ≡ a
answer_again (Ok a) = refl
answer_again (Err e) = refl

line_is : (b : Bool) {A : Type 0} (x y : A) → b ≡ true → (if b then x else y) ≡ x
line_is true x y h = refl
line_is false x y h = absurd (false_true h)

-- the tasks that it moves on, and what its coordinator seizes then
pub line_tasks : (S : Setting) (n at : ℕ) (k : PrCommand) (a : Answer) (ms : List Moment) → told.is_write k ≡ false
    → told.tasks_of S n (line_of n at k a ∷ ms) ≡ told.with_own S n (attempt_of n ms) (line_of n at k a ∷ ms) (told.moved a (told.tasks_of S n ms))
line_tasks S n at k a ms off =
    line_is ((n == n) && not (told.is_write k)) (told.with_own S n (attempt_of n ms) (line_of n at k a ∷ ms) (told.moved (told.answer_told (answer_told a)) (told.tasks_of S n ms))) (told.tasks_of S n ms)
    (ap (λ b. b && not (told.is_write k)) (itself n) ∙ ap not off)
    ∙ ap (λ z. told.with_own S n (attempt_of n ms) (line_of n at k a ∷ ms) (told.moved z (told.tasks_of S n ms))) (answer_again a)
