-- The order of tasks: those that are over stand before those that are queued.
use Rattle.std.proofs.Common.{◌≡◌, ℕ, ◌==◌, ◌&&◌, ◌↔◌, inl, inr, Bool, true, false, List, [], ◌∷◌, Option, Some, None, is_some, IsNone, IsSome, find, refl, sym, ap, ◌∙◌, arith}
use Rattle.std.specs.List.{list_any, list_all}
use Rattle.std.specs.Option.{option_and_then}
use Rattle.std.proofs.lemmas.Bool.{true≢false, false≢true, both_ways, eqb-true, and_left, and_parts, and_right, or_from, or_parts, not-true, not_from_false, cases_Bool, cond_both, cond-true, cond-false, false_from_ne_true}
use Rattle.std.proofs.lemmas.List.Folds.{find-append, list_all-append, list_any-append}
use Rattle.std.proofs.lemmas.Option.{none-some, same_Some}
use Rattle.pgr_device.specs.declared.command.PrCommand.{PrCommand}
use Rattle.seize.specs.declared.step.SeizeStep.{SeizeStep}
use Rattle.seize.specs.declared.step.SeizeStep.TheVariants as step
use Rattle.seize.specs.declared.step.JoinStep.{JoinStep}
use Rattle.seize.specs.declared.step.JoinStep.TheVariants as join
use Rattle.seize.specs.Answers.{Answer}
use Rattle.seize.specs.Seizing as seizing
use Rattle.seize.specs.Joining as joining
use Rattle.device_queue.specs.declared.task.Task.{Task}
use Rattle.device_queue.specs.declared.task.Work.{Work}
use Rattle.device_queue.specs.declared.task.Work.TheVariants.{Seizing, Joining}
use Rattle.device_queue.specs.Tasks.{answered, command_in, is_join_of, is_over, is_over_in, is_queued, join_result_in}
use Rattle.device_queue.specs.Queue.{after_answer, first_of, is_idle, join_of, put_unless, seizure_of}
use Rattle.device_queue.specs.Calls.{Call, Seize, Join, Take, AreFresh, asks_to_join, left_by, seized_after_join}
use Rattle.device_queue.specs.Laws.{EndedHasNoJoin, EndedHasNoTask, QueueHasCommand, has_task}
use Rattle.device_queue.proofs.Kept.{KeptBy, join_over, kept_by, not_queued, same_join}
use Rattle.device_queue.proofs.Steps.{passes, none_stays, put_other}

-- A task that is not over has a command due.

seizing_due : (s : seizing.SeizeState) (x : SeizeStep) → is_some (seizing.result_at x) ≡ false → IsNone (seizing.command_at s x) → ⊥
seizing_due s (step.Ended r) over none = true≢false over
seizing_due s x over none = true≢false none

joining_due : (j : joining.JoinState) (x : JoinStep) → is_some (joining.result_at x) ≡ false → IsNone (joining.command_at j x) → ⊥
joining_due j (join.Ended r) over none = true≢false over
joining_due j x over none = true≢false none

due : (w : Work) → is_over_in w ≡ false → IsNone (command_in w) → ⊥
due (Seizing s) over none = seizing_due s s.step over none
due (Joining j) over none = joining_due j j.step over none

seizing_fresh : (s : seizing.SeizeState) (x : SeizeStep) → IsSome (seizing.command_at s x) → is_some (seizing.result_at x) ≡ false
seizing_fresh s (step.Ended r) some = absurd (false≢true some)
seizing_fresh s x some = refl

joining_fresh : (j : joining.JoinState) (x : JoinStep) → IsSome (joining.command_at j x) → is_some (joining.result_at x) ≡ false
joining_fresh j (join.Ended r) some = absurd (false≢true some)
joining_fresh j x some = refl

idle_from : (ts : List Task) → first_of ts ≡ None → is_idle ts ≡ true
idle_from [] none = refl
idle_from (t ∷ ts) none = grind (arith, idle_from ts)

none_from : (ts : List Task) → is_idle ts ≡ true → first_of ts ≡ None
none_from [] idle = refl
none_from (t ∷ ts) idle = grind (arith, none_from ts)

no_first : (o : Option Task) → ((t : Task) → o ≡ Some t → is_queued t ≡ true) → IsNone (option_and_then (λ t. command_in t.work) o) → o ≡ None
no_first None queued none = refl
no_first (Some t) queued none = absurd (due t.work (not-true (is_over t) (queued t refl)) none)

pub queue_has_command : QueueHasCommand
queue_has_command tasks = (λ none. idle_from tasks (no_first (first_of tasks) (passes is_queued tasks) none), λ idle. rw (none_from tasks idle) refl)

-- At most one task of a kind.

abbrev Lone : (Task → Bool) → List Task → Type 0
Lone p [] = Unit {0}
Lone p (t ∷ ts) = (p t ≡ true → find p ts ≡ None) × Lone p ts

lone_put : (p : Task → Bool) (o : Option Task) (x : Task) (ts : List Task) → Lone p ts → (p x ≡ true → find p ts ≡ o) → Lone p (put_unless o x ts)
lone_put p (Some u) x ts lone first = lone
lone_put p None x [] lone first = (λ _. refl, tt)
lone_put p None x (t ∷ ts) lone first =
    (λ own. grind (arith, none-some, find-append p ts (x ∷ []), lone.0 own), lone_put p None x ts lone.1 (λ own. grind (arith, none-some, first own)))

lone_answered : (p : Task → Bool) (a : Answer) → ((t : Task) → p (answered a t) ≡ p t) → (ts : List Task) → Lone p ts → Lone p (after_answer ts a)
lone_answered p a same [] lone = tt
lone_answered p a same (t ∷ ts) lone =
    cond_both (is_queued t) (answered a t ∷ ts) (t ∷ after_answer ts a) (Lone p) (λ _. (λ own. lone.0 (sym (same t) ∙ own), lone.1))
    (λ _. (λ own. none_stays p a same ts (lone.0 own), lone_answered p a same ts lone.1))

none_queued : (p : Task → Bool) (ts : List Task) → find p ts ≡ None → list_any (λ t. p t && is_queued t) ts ≡ false
none_queued p [] none = refl
none_queued p (t ∷ ts) none = grind (arith, none-some, none_queued p ts)

lone_over : (p : Task → Bool) (ts : List Task) (t : Task) → Lone p ts → find p ts ≡ Some t → is_queued t ≡ false → list_any (λ u. p u && is_queued u) ts ≡ false
lone_over p [] t lone found over = refl
lone_over p (u ∷ us) t lone found over = elim (cases_Bool (p u)) [
  | inl own ↦ grind (arith, same_Some, none_queued p us (lone.0 own))
  | inr other ↦ grind (arith, lone_over p us t lone.1)
]

no_seizure : (d e : ℕ) → ((e == d) && false) ≡ true → ⊥
no_seizure d e own = false≢true (sym (and_right (e == d) false refl) ∙ own)

lone_joins : (d : ℕ) (calls : List Call) → Lone (is_join_of d) (left_by calls)
lone_joins d [] = tt
lone_joins d (Seize e s ∷ earlier) =
    lone_put (is_join_of d) (seizure_of (left_by earlier) e) (record { device = e; work = Seizing s }) (left_by earlier) (lone_joins d earlier) (λ own. absurd (no_seizure d e own))
lone_joins d (Join e j ∷ earlier) =
    lone_put (is_join_of d) (join_of (left_by earlier) e) (record { device = e; work = Joining j }) (left_by earlier) (lone_joins d earlier)
    (λ own. ap (join_of (left_by earlier)) (sym (eqb-true e d (and_parts (e == d) true own).0)))
lone_joins d (Take a ∷ earlier) = lone_answered (is_join_of d) a (same_join d a) (left_by earlier) (lone_joins d earlier)

pub ended_has_no_join : EndedHasNoJoin
ended_has_no_join calls d r kept =
    let by : KeptBy join_result_in (join_of (left_by calls) d) r = kept_by join_result_in (join_of (left_by calls) d) r kept in
    lone_over (is_join_of d) (left_by calls) by.task (lone_joins d calls) by.found (not_queued by.task (join_over by.task.work r by.gave))

-- Those that are over stand first.

abbrev InOrder : List Task → Type 0
InOrder [] = Unit {0}
InOrder (t ∷ ts) = (is_queued t ≡ true → list_all is_queued ts ≡ true) × InOrder ts

in_order_put : (o : Option Task) (x : Task) (ts : List Task) → is_queued x ≡ true → InOrder ts → InOrder (put_unless o x ts)
in_order_put (Some u) x ts queued ord = ord
in_order_put None x [] queued ord = (λ _. refl, tt)
in_order_put None x (t ∷ ts) queued ord = (λ first. rw (list_all-append is_queued ts (x ∷ []), ord.0 first, queued) refl, in_order_put None x ts queued ord.1)

in_order_answered : (a : Answer) (ts : List Task) → InOrder ts → InOrder (after_answer ts a)
in_order_answered a [] ord = tt
in_order_answered a (t ∷ ts) ord =
    cond_both (is_queued t) (answered a t ∷ ts) (t ∷ after_answer ts a) InOrder (λ queued. (λ _. ord.0 queued, ord.1))
    (λ over. (λ queued. absurd (both_ways (is_queued t) over queued), in_order_answered a ts ord.1))

in_order : (calls : List Call) → AreFresh calls → InOrder (left_by calls)
in_order [] fresh = tt
in_order (Seize e s ∷ earlier) fresh =
    in_order_put (seizure_of (left_by earlier) e) (record { device = e; work = Seizing s }) (left_by earlier) (not_from_false (is_some (seizing.result_of s)) (seizing_fresh s s.step fresh.0)) (in_order earlier fresh.1)
in_order (Join e j ∷ earlier) fresh =
    in_order_put (join_of (left_by earlier) e) (record { device = e; work = Joining j }) (left_by earlier) (not_from_false (is_some (joining.result_of j)) (joining_fresh j j.step fresh.0)) (in_order earlier fresh.1)
in_order (Take a ∷ earlier) fresh = in_order_answered a (left_by earlier) (in_order earlier fresh.1)

all_found : (p q : Task → Bool) (ts : List Task) (t : Task) → list_all q ts ≡ true → find p ts ≡ Some t → q t ≡ true
all_found p q [] t all found = absurd (none-some _ found)
all_found p q (u ∷ us) t all found = grind (arith, same_Some, all_found p q us t)

-- No task at the device stands behind its joining.

abbrev is_at : ℕ → Task → Bool
is_at d t = t.device == d

abbrev NoneAfter : ℕ → List Task → Type 0
NoneAfter d [] = Unit {0}
NoneAfter d (t ∷ ts) = (is_join_of d t ≡ true → list_any (is_at d) ts ≡ false) × NoneAfter d ts

none_after_put : (d : ℕ) (o : Option Task) (x : Task) (ts : List Task) → NoneAfter d ts → (o ≡ None → is_at d x ≡ true → join_of ts d ≡ None) → NoneAfter d (put_unless o x ts)
none_after_put d (Some u) x ts none first = none
none_after_put d None x [] none first = (λ _. refl, tt)
none_after_put d None x (t ∷ ts) none first = (
  λ own. rw (list_any-append (is_at d) ts (x ∷ []), none.0 own) (or_from (is_at d x) false (false_from_ne_true (is_at d x) (λ here. none-some t (sym (first refl here) ∙ cond-true (is_join_of d t) (Some t) (join_of ts d) own))) refl),
  none_after_put d None x ts none.1 (λ _ here. grind (arith, none-some, first refl here)),
)

at_stays : (d : ℕ) (a : Answer) (ts : List Task) → list_any (is_at d) (after_answer ts a) ≡ list_any (is_at d) ts
at_stays d a [] = refl
at_stays d a (t ∷ ts) = grind (arith, at_stays d a ts)

none_after_answered : (d : ℕ) (a : Answer) (ts : List Task) → NoneAfter d ts → NoneAfter d (after_answer ts a)
none_after_answered d a [] none = tt
none_after_answered d a (t ∷ ts) none =
    cond_both (is_queued t) (answered a t ∷ ts) (t ∷ after_answer ts a) (NoneAfter d) (λ _. (λ own. none.0 (sym (same_join d a t) ∙ own), none.1))
    (λ _. (λ own. at_stays d a ts ∙ none.0 own, none_after_answered d a ts none.1))

no_join_asked : (d : ℕ) (calls : List Call) → list_any (asks_to_join d) calls ≡ false → join_of (left_by calls) d ≡ None
no_join_asked d [] none = refl
no_join_asked d (Seize e s ∷ earlier) none =
    put_other (is_join_of d) (seizure_of (left_by earlier) e) (record { device = e; work = Seizing s }) (left_by earlier) (and_right (e == d) false refl) ∙ no_join_asked d earlier none
no_join_asked d (Join e j ∷ earlier) none =
    let parts : ((e == d) ≡ false) × (list_any (asks_to_join d) earlier ≡ false) = or_parts (e == d) (list_any (asks_to_join d) earlier) none in
    put_other (is_join_of d) (join_of (left_by earlier) e) (record { device = e; work = Joining j }) (left_by earlier) (and_left (e == d) true parts.0) ∙ no_join_asked d earlier parts.1
no_join_asked d (Take a ∷ earlier) none = none_stays (is_join_of d) a (same_join d a) (left_by earlier) (no_join_asked d earlier none)

none_after : (d : ℕ) (calls : List Call) → seized_after_join d calls ≡ false → NoneAfter d (left_by calls)
none_after d [] apart = tt
none_after d (Seize e s ∷ earlier) apart =
    let parts : (((e == d) && list_any (asks_to_join d) earlier) ≡ false) × (seized_after_join d earlier ≡ false) =
    or_parts ((e == d) && list_any (asks_to_join d) earlier) (seized_after_join d earlier) apart in
    none_after_put d (seizure_of (left_by earlier) e) (record { device = e; work = Seizing s }) (left_by earlier) (none_after d earlier parts.1)
    (λ _ here. no_join_asked d earlier (rw here at parts.0))
none_after d (Join e j ∷ earlier) apart =
    none_after_put d (join_of (left_by earlier) e) (record { device = e; work = Joining j }) (left_by earlier) (none_after d earlier apart)
    (λ none here. ap (join_of (left_by earlier)) (sym (eqb-true e d here)) ∙ none)
none_after d (Take a ∷ earlier) apart = none_after_answered d a (left_by earlier) (none_after d earlier apart)

none_at_queued : (d : ℕ) (ts : List Task) → list_any (is_at d) ts ≡ false → has_task d ts ≡ false
none_at_queued d [] none = refl
none_at_queued d (t ∷ ts) none = grind (arith, none_at_queued d ts)

no_task : (d : ℕ) (ts : List Task) (t : Task) → InOrder ts → NoneAfter d ts → join_of ts d ≡ Some t → is_queued t ≡ false → has_task d ts ≡ false
no_task d [] t ord none found over = refl
no_task d (u ∷ us) t ord none found over = elim (cases_Bool (is_join_of d u)) [
  | inl own ↦ grind (arith, same_Some, none_at_queued d us (none.0 own))
  | inr other ↦
      let rest : join_of us d ≡ Some t = sym (cond-false (is_join_of d u) (Some u) (join_of us d) other) ∙ found in
      let first : is_queued u ≡ false = false_from_ne_true (is_queued u) (λ queued. both_ways (is_queued t) over (all_found (is_join_of d) is_queued us t (ord.0 queued) rest)) in
      or_from (is_at d u && is_queued u) (has_task d us) (and_right (is_at d u) (is_queued u) first) (no_task d us t ord.1 none.1 rest over)
]

pub ended_has_no_task : EndedHasNoTask
ended_has_no_task calls d r fresh apart kept =
    let by : KeptBy join_result_in (join_of (left_by calls) d) r = kept_by join_result_in (join_of (left_by calls) d) r kept in
    no_task d (left_by calls) by.task (in_order calls fresh) (none_after d calls apart) by.found (not_queued by.task (join_over by.task.work r by.gave))

-- the same of the command that the first task gives
pub none_exactly : (tasks : List Task) (first : Option Task) (c : Option PrCommand) → first ≡ first_of tasks → c ≡ option_and_then (λ t. command_in t.work) first → IsNone c ↔ (is_idle tasks ≡ true)
none_exactly tasks first c is gives = rw (gives, is) (queue_has_command tasks)
