-- What becomes of the tasks of a node that has not installed its session, and of its valid devices.
use Rattle.std.specs.Prelude.{ℕ, ◌≡◌, ◌≢◌, ◌⊎◌, ◌++◌, ◌==◌, ◌&&◌, ◌||◌, Bool, true, false, List, [], ◌∷◌, Option, None, Some, find, if◌then◌else◌}
use Rattle.std.specs.List.{list_any}
use Rattle.std.specs.Option.{option_and_then}
use Rattle.std.proofs.Common.{refl, sym, ap, subst, ◌∙◌, inl, inr, arith}
use Rattle.cl_base.specs.Seizings.{SeizeResult}
use Rattle.cl_base.specs.Sets.{has, set_without}
use Rattle.cmm_attempt.proofs.Basics.{and_cases, false_true, none_some, same_number, same_some}
use Rattle.device_queue.proofs.Plain.{none_registers_later}
use Rattle.device_queue.specs.Queue.{after_answer, after_seize, begins_plainly, progress_after, progress_by, put_unless, seizure_of}
use Rattle.device_queue.specs.Tasks.{answered, is_queued, is_register, progress_in, registers_first, seizing_progress, work_answered}
use Rattle.device_queue.specs.declared.progress.Progress.TheVariants.{Joined}
use Rattle.device_queue.specs.declared.task.Task.{Task}
use Rattle.device_queue.specs.declared.task.Work.{Work}
use Rattle.device_queue.specs.declared.task.Work.TheVariants.{Joining as Joins, Seizing as Seizes}
use Rattle.machine_base.proofs.Puts.{same_or_not}
use Rattle.run_devices.proofs.validity.Installs.{less_other, less_same}
use Rattle.seize.specs.Answers.{Answer}
use Rattle.seize.specs.Seizing as seizing
use Rattle.seize.specs.Seizing.{SeizeState}
use Rattle.seize.specs.declared.kind.JoinResult.{JoinResult}
use Rattle.seize.specs.declared.kind.SeizeKind.{SeizeKind}
use Rattle.seize.specs.declared.kind.SeizeKind.TheVariants.{Plain, Vote}
use Rattle.run_outcomes.specs.tasks.Laws.{is_plain, is_plain_in, seizes_plainly}
use Rattle.run_outcomes.specs.tasks.Shown.{InRange, TasksFit, WorkFits}

-- ---- an answer

answered_plain : (d : ℕ) (a : Answer) (t : Task) → (((answered a t).device == d) && is_plain_in (answered a t).work) ≡ ((t.device == d) && is_plain_in t.work)
answered_plain d a t = ap (λ b. (t.device == d) && b) (by_work t.work)
  where
    by_work : (w : Work) → is_plain_in (work_answered a w) ≡ is_plain_in w
    by_work (Seizes s) = refl
    by_work (Joins j) = refl

pub answer_plain : (d : ℕ) (a : Answer) (ts : List Task) → seizes_plainly d (after_answer ts a) ≡ seizes_plainly d ts
answer_plain d a [] = refl
answer_plain d a (t ∷ ts) = by_queued (is_queued t) (answer_plain d a ts)
  where
    by_queued : (b : Bool) → seizes_plainly d (after_answer ts a) ≡ seizes_plainly d ts → seizes_plainly d (if b then answered a t ∷ ts else t ∷ after_answer ts a) ≡ seizes_plainly d (t ∷ ts)
    by_queued true rest = ap (λ b. b || seizes_plainly d ts) (answered_plain d a t)
    by_queued false rest = ap (λ b. ((t.device == d) && is_plain_in t.work) || b) rest

work_fits : (a : Answer) (w : Work) → WorkFits w → WorkFits (work_answered a w)
work_fits a (Seizes s) k = λ is. absurd (false_true (sym (none_registers_later s a) ∙ is))
work_fits a (Joins j) k = k

pub answer_fits : (a : Answer) (ts : List Task) → TasksFit ts → TasksFit (after_answer ts a)
answer_fits a [] k = tt
answer_fits a (t ∷ ts) k = by_queued (is_queued t) (answer_fits a ts k.1)
  where
    by_queued : (b : Bool) → TasksFit (after_answer ts a) → TasksFit (if b then answered a t ∷ ts else t ∷ after_answer ts a)
    by_queued true rest = (work_fits a t.work k.0, k.1)
    by_queued false rest = (k.0, rest)

-- ---- another seizing

any_last : {X : Type 0} (f : X → Bool) (xs : List X) (y : X) → list_any f (xs ++ y ∷ []) ≡ true → (list_any f xs ≡ true) ⊎ (f y ≡ true)
any_last f [] y h = by_value (f y) h
  where
    by_value : (b : Bool) → (b || false) ≡ true → (false ≡ true) ⊎ (b ≡ true)
    by_value true k = inr refl
    by_value false k = inl k
any_last f (x ∷ xs) y h = by_value (f x) h (any_last f xs y)
  where
    by_value : (b : Bool) → (b || list_any f (xs ++ y ∷ [])) ≡ true → (list_any f (xs ++ y ∷ []) ≡ true → (list_any f xs ≡ true) ⊎ (f y ≡ true)) → ((b || list_any f xs) ≡ true) ⊎ (f y ≡ true)
    by_value true k rest = inl refl
    by_value false k rest = rest k

any_more : {X : Type 0} (f : X → Bool) (xs : List X) (y : X) → list_any f xs ≡ true → list_any f (xs ++ y ∷ []) ≡ true
any_more f [] y h = absurd (false_true h)
any_more f (x ∷ xs) y h = by_value (f x) h (any_more f xs y)
  where
    by_value : (b : Bool) → (b || list_any f xs) ≡ true → (list_any f xs ≡ true → list_any f (xs ++ y ∷ []) ≡ true) → (b || list_any f (xs ++ y ∷ [])) ≡ true
    by_value true k rest = refl
    by_value false k rest = rest k

put_more : (d : ℕ) (o : Option Task) (t : Task) (ts : List Task) → seizes_plainly d ts ≡ true → seizes_plainly d (put_unless o t ts) ≡ true
put_more d None t ts h = any_more (λ (z : Task). (z.device == d) && is_plain_in z.work) ts t h
put_more d (Some z) t ts h = h

pub seize_more : (d e : ℕ) (ts : List Task) (s : SeizeState) → seizes_plainly d ts ≡ true → seizes_plainly d (after_seize ts e s) ≡ true
seize_more d e ts s h = put_more d (seizure_of ts e) (record { device = e; work = Seizes s }) ts h

-- it is this one, or was there
put_new : (d : ℕ) (o : Option Task) (t : Task) (ts : List Task) → seizes_plainly d (put_unless o t ts) ≡ true → (seizes_plainly d ts ≡ true) ⊎ (((t.device == d) && is_plain_in t.work) ≡ true)
put_new d None t ts h = any_last (λ (z : Task). (z.device == d) && is_plain_in z.work) ts t h
put_new d (Some z) t ts h = inl h

pub seize_new : (d e : ℕ) (ts : List Task) (s : SeizeState) → seizes_plainly d (after_seize ts e s) ≡ true → (seizes_plainly d ts ≡ true) ⊎ ((e ≡ d) × (is_plain s.kind ≡ true))
seize_new d e ts s h = by_side (put_new d (seizure_of ts e) (record { device = e; work = Seizes s }) ts h)
  where
    by_side : (seizes_plainly d ts ≡ true) ⊎ (((e == d) && is_plain s.kind) ≡ true) → (seizes_plainly d ts ≡ true) ⊎ ((e ≡ d) × (is_plain s.kind ≡ true))
    by_side (inl k) = inl k
    by_side (inr k) = let two : ((e == d) ≡ true) × (is_plain s.kind ≡ true) = and_cases (e == d) (is_plain s.kind) k in inr (same_number e d two.0, two.1)

put_fits : (o : Option Task) (t : Task) (ts : List Task) → WorkFits t.work → TasksFit ts → TasksFit (put_unless o t ts)
put_fits None t [] w k = (w, tt)
put_fits None t (x ∷ ts) w k = (k.0, put_fits None t ts w k.1)
put_fits (Some z) t ts w k = k

begun_fits : (kind : SeizeKind) → is_register (seizing.first_step kind) ≡ true → kind ≡ Plain
begun_fits Plain is = refl
begun_fits Vote is = absurd (false_true is)

pub seize_fits : (e : ℕ) (ts : List Task) (kind : SeizeKind) (epoch members me cluster : ℕ) (valid : Bool) → TasksFit ts → TasksFit (after_seize ts e (seizing.begun kind epoch members me cluster valid))
seize_fits e ts kind epoch members me cluster valid k = put_fits (seizure_of ts e) (record { device = e; work = Seizes (seizing.begun kind epoch members me cluster valid) }) ts (begun_fits kind) k

-- ---- the first command of a seizing without votes

itself : (d : ℕ) (b : Bool) → b ≡ true → ((d == d) && b) ≡ true
itself d b h = grind (arith, h)

plain_so : (k : SeizeKind) → k ≡ Plain → is_plain k ≡ true
plain_so k is = ap is_plain is

work_plain : (w : Work) → WorkFits w → registers_first w ≡ true → is_plain_in w ≡ true
work_plain (Seizes s) k is = plain_so s.kind (k is)
work_plain (Joins j) k is = absurd k

or_first : (a b : Bool) → a ≡ true → (a || b) ≡ true
or_first true b h = refl
or_first false b h = absurd (false_true h)

or_second : (a b : Bool) → b ≡ true → (a || b) ≡ true
or_second true b h = refl
or_second false b h = h

begins_by : Option Task → Option ℕ
begins_by o = option_and_then (λ (t : Task). if registers_first t.work then Some t.device else None) o

one_begins : (t : Task) (d : ℕ) (b : Bool) → registers_first t.work ≡ b → (if b then Some t.device else None) ≡ Some d → (t.device ≡ d) × (registers_first t.work ≡ true)
one_begins t d true is h = (same_some t.device d h, is)
one_begins t d false is h = absurd (none_some d h)

pub begins_plain : (d : ℕ) (ts : List Task) → TasksFit ts → begins_plainly ts ≡ Some d → seizes_plainly d ts ≡ true
begins_plain d [] k is = absurd (none_some d is)
begins_plain d (t ∷ ts) k is = by_queued (is_queued t) is (λ rest. begins_plain d ts k.1 rest)
  where
    here : (t.device ≡ d) × (registers_first t.work ≡ true) → ((t.device == d) && is_plain_in t.work) ≡ true
    here h = subst (λ z. ((t.device == z) && is_plain_in t.work) ≡ true) h.0 (itself t.device (is_plain_in t.work) (work_plain t.work k.0 h.1))

    by_queued : (b : Bool) → option_and_then (λ (z : Task). if registers_first z.work then Some z.device else None) (if b then Some t else find is_queued ts) ≡ Some d
        → (begins_plainly ts ≡ Some d → seizes_plainly d ts ≡ true) → (((t.device == d) && is_plain_in t.work) || seizes_plainly d ts) ≡ true
    by_queued true h rest = or_first ((t.device == d) && is_plain_in t.work) (seizes_plainly d ts) (here (one_begins t d (registers_first t.work) refl h))
    by_queued false h rest = or_second ((t.device == d) && is_plain_in t.work) (seizes_plainly d ts) (rest h)

-- none of them joins
seizing_goes : (d : ℕ) (o : Option SeizeResult) (e : ℕ) (r : JoinResult) → seizing_progress d o ≡ Joined e r → ⊥
seizing_goes d None e r is = cc
seizing_goes d (Some x) e r is = cc

work_goes : (d e : ℕ) (a : Answer) (w : Work) (r : JoinResult) → WorkFits w → progress_in d (work_answered a w) ≡ Joined e r → ⊥
work_goes d e a (Seizes s) r k is = seizing_goes d (seizing.result_of (seizing.taken s a)) e r is
work_goes d e a (Joins j) r k is = k

pub none_joins : (ts : List Task) (a : Answer) (e : ℕ) (r : JoinResult) → TasksFit ts → progress_after ts a ≡ Joined e r → ⊥
none_joins [] a e r k is = cc
none_joins (t ∷ ts) a e r k is = by_queued (is_queued t) is (λ rest. none_joins ts a e r k.1 rest)
  where
    by_queued : (b : Bool) → progress_by (if b then Some t else find is_queued ts) a ≡ Joined e r → (progress_after ts a ≡ Joined e r → ⊥) → ⊥
    by_queued true h rest = work_goes t.device e a t.work r k.0 h
    by_queued false h rest = rest h

-- ---- a device less

pub less_has : (set d e : ℕ) → InRange d → InRange e → has (set_without set d) e ≡ true → has set e ≡ true
less_has set d e low range h = by_same (same_or_not e d)
  where
    by_same : (e ≡ d) ⊎ (e ≢ d) → has set e ≡ true
    by_same (inl is) = absurd (false_true (sym (less_same set d low.0 low.1) ∙ subst (λ z. has (set_without set d) z ≡ true) is h))
    by_same (inr ne) = sym (less_other set d e low.0 low.1 range.0 range.1 ne) ∙ h

pub less_keeps : (set d e : ℕ) → InRange d → InRange e → has set e ≡ true → (has (set_without set d) e ≡ true) ⊎ (e ≡ d)
less_keeps set d e low range h = by_same (same_or_not e d)
  where
    by_same : (e ≡ d) ⊎ (e ≢ d) → (has (set_without set d) e ≡ true) ⊎ (e ≡ d)
    by_same (inl is) = inr is
    by_same (inr ne) = inl (less_other set d e low.0 low.1 range.0 range.1 ne ∙ h)
