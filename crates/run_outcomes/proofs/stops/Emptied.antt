-- Where the joining that ends is the last, no task is left by the lines either.
use Rattle.std.specs.Prelude.{◌≡◌, ◌&&◌, ◌||◌, not, Bool, true, false, List, [], ◌∷◌, filter, if◌then◌else◌}
use Rattle.std.specs.List.{AllByRecursion}
use Rattle.std.proofs.Common.{refl, sym, ap, subst, ◌∙◌}
use Rattle.cmm_attempt.proofs.Basics.{false_true, if_either}
use Rattle.device_queue.specs.Queue.{after_answer, joins}
use Rattle.device_queue.specs.Tasks.{answered, is_joining, is_queued, work_answered}
use Rattle.device_queue.specs.declared.task.Task.{Task}
use Rattle.device_queue.specs.declared.task.Work.{Work}
use Rattle.device_queue.specs.declared.task.Work.TheVariants.{Joining, Seizing}
use Rattle.history.specs.Queue as told
use Rattle.seize.specs.Answers.{Answer}
use Rattle.run_seizings.proofs.Progress.{if_not, if_so}
use Rattle.run_devices.proofs.queues.Tasks.{same_queue, same_taken}
use Rattle.run_devices.specs.queues.Kept.{joins_in}
use Rattle.run_devices.specs.queues.Laws.{Same, queued}

-- ---- of the node

abbrev pub AllJoin : List Task → Type 0
AllJoin ts = AllByRecursion (λ (t : Task). is_joining t.work ≡ true) ts

pub joins_queued : (ts : List Task) → AllJoin (filter is_queued (joins_in ts))
joins_queued [] = tt
joins_queued (t ∷ ts) = by_kind (is_joining t.work) refl (joins_queued ts)
  where
    by_kind : (j : Bool) → is_joining t.work ≡ j → AllJoin (filter is_queued (joins_in ts)) → AllJoin (filter is_queued (if j then t ∷ joins_in ts else joins_in ts))
    by_kind true is rest = if_either AllJoin (is_queued t) (t ∷ filter is_queued (joins_in ts)) (filter is_queued (joins_in ts)) (is, rest) rest
    by_kind false is rest = rest

answered_kind : (a : Answer) (w : Work) → is_joining (work_answered a w) ≡ is_joining w
answered_kind a (Seizing s) = refl
answered_kind a (Joining j) = refl

answered_join : (ts : List Task) (a : Answer) → AllJoin (filter is_queued ts) → AllJoin (filter is_queued (after_answer ts a))
answered_join [] a h = tt
answered_join (t ∷ ts) a h = by_test (is_queued t) refl h (answered_join ts a)
  where
    by_test : (q : Bool) → is_queued t ≡ q → AllJoin (if q then t ∷ filter is_queued ts else filter is_queued ts) → (AllJoin (filter is_queued ts) → AllJoin (filter is_queued (after_answer ts a)))
        → AllJoin (filter is_queued (if q then answered a t ∷ ts else t ∷ after_answer ts a))
    by_test true is h rest = if_either AllJoin (is_queued (answered a t)) (answered a t ∷ filter is_queued ts) (filter is_queued ts) (answered_kind a t.work ∙ h.0, h.1) h.1
    by_test false is h rest = subst AllJoin (sym (if_not (is_queued t) (t ∷ filter is_queued (after_answer ts a)) (filter is_queued (after_answer ts a)) is)) (rest h)

or_none : (a b : Bool) → (a || b) ≡ false → b ≡ false
or_none true b h = absurd (false_true (sym h))
or_none false b h = h

not_both : (a b : Bool) → (a && true || b) ≡ false → a ≡ true → ⊥
not_both true b h is = false_true (sym h)
not_both false b h is = false_true is

pub none_left : (ts : List Task) → joins ts ≡ false → AllJoin (filter is_queued ts) → filter is_queued ts ≡ []
none_left [] none h = refl
none_left (t ∷ ts) none h = by_test (is_queued t) none h (none_left ts)
  where
    by_test : (q : Bool) → ((is_joining t.work && q) || joins ts) ≡ false → AllJoin (if q then t ∷ filter is_queued ts else filter is_queued ts) → (joins ts ≡ false → AllJoin (filter is_queued ts) → filter is_queued ts ≡ [])
        → (if q then t ∷ filter is_queued ts else filter is_queued ts) ≡ []
    by_test true none h rest = absurd (not_both (is_joining t.work) (joins ts) none h.0)
    by_test false none h rest = rest (or_none (is_joining t.work && false) (joins ts) none) h

-- all that it has queued are joinings, and none is left
pub node_emptied : (ts : List Task) (a : Answer) → filter is_queued ts ≡ filter is_queued (joins_in ts) → joins (after_answer ts a) ≡ false → filter is_queued (after_answer ts a) ≡ []
node_emptied ts a same none = none_left (after_answer ts a) none (answered_join ts a (subst AllJoin (sym same) (joins_queued ts)))

-- ---- an answer moves the queue alone

queued_twice : (ts : List Task) → filter is_queued (filter is_queued ts) ≡ filter is_queued ts
queued_twice [] = refl
queued_twice (t ∷ ts) = by_test (is_queued t) refl (queued_twice ts)
  where
    by_test : (q : Bool) → is_queued t ≡ q → filter is_queued (filter is_queued ts) ≡ filter is_queued ts
        → filter is_queued (if q then t ∷ filter is_queued ts else filter is_queued ts) ≡ (if q then t ∷ filter is_queued ts else filter is_queued ts)
    by_test true is rest = if_so (is_queued t) (t ∷ filter is_queued (filter is_queued ts)) (filter is_queued (filter is_queued ts)) is ∙ ap (λ z. t ∷ z) rest
    by_test false is rest = rest

node_moved : (ts : List Task) (a : Answer) → filter is_queued (after_answer (filter is_queued ts) a) ≡ filter is_queued (after_answer ts a)
node_moved [] a = refl
node_moved (t ∷ ts) a = by_test (is_queued t) refl (node_moved ts a)
  where
    by_test : (q : Bool) → is_queued t ≡ q → filter is_queued (after_answer (filter is_queued ts) a) ≡ filter is_queued (after_answer ts a)
        → filter is_queued (after_answer (if q then t ∷ filter is_queued ts else filter is_queued ts) a) ≡ filter is_queued (if q then answered a t ∷ ts else t ∷ after_answer ts a)
    by_test true is rest =
        ap (λ z. filter is_queued z) (if_so (is_queued t) (answered a t ∷ filter is_queued ts) (t ∷ after_answer (filter is_queued ts) a) is)
        ∙ ap (λ z. if is_queued (answered a t) then answered a t ∷ z else z) (queued_twice ts)
    by_test false is rest = rest ∙ sym (if_not (is_queued t) (t ∷ filter is_queued (after_answer ts a)) (filter is_queued (after_answer ts a)) is)

-- .. by the lines too
told_twice : (us : List told.Task) → queued (queued us) ≡ queued us
told_twice [] = refl
told_twice (u ∷ us) = by_test (told.is_over u.work) refl (told_twice us)
  where
    by_test : (o : Bool) → told.is_over u.work ≡ o → queued (queued us) ≡ queued us → queued (if not o then u ∷ queued us else queued us) ≡ (if not o then u ∷ queued us else queued us)
    by_test true is rest = rest
    by_test false is rest = if_so (not (told.is_over u.work)) (u ∷ queued (queued us)) (queued (queued us)) (ap not is) ∙ ap (λ z. u ∷ z) rest

told_moved : (us : List told.Task) (a : Answer) → queued (told.moved a (queued us)) ≡ queued (told.moved a us)
told_moved [] a = refl
told_moved (u ∷ us) a = by_test (told.is_over u.work) refl (told_moved us a)
  where
    next : told.Task
    next = record u { work = told.work_after u.work a }

    by_test : (o : Bool) → told.is_over u.work ≡ o → queued (told.moved a (queued us)) ≡ queued (told.moved a us)
        → queued (told.moved a (if not o then u ∷ queued us else queued us)) ≡ queued (if o then u ∷ told.moved a us else (record u { work = told.work_after u.work a }) ∷ us)
    by_test true is rest = rest ∙ sym (if_not (not (told.is_over u.work)) (u ∷ queued (told.moved a us)) (queued (told.moved a us)) (ap not is))
    by_test false is rest =
        ap queued (if_not (told.is_over u.work) (u ∷ told.moved a (queued us)) (next ∷ queued us) is)
        ∙ ap (λ z. if not (told.is_over next.work) then next ∷ z else z) (told_twice us)

nothing_same : (us : List told.Task) → Same [] us → us ≡ []
nothing_same [] k = refl
nothing_same (u ∷ us) k = absurd k

-- so none is left by the lines
pub told_emptied : (ts : List Task) (us : List told.Task) (a : Answer) → Same (filter is_queued ts) (queued us) → filter is_queued (after_answer ts a) ≡ [] → queued (told.moved a us) ≡ []
told_emptied ts us a k none =
    sym (told_moved us a)
    ∙ nothing_same (queued (told.moved a (queued us)))
    (subst (λ z. Same z (queued (told.moved a (queued us)))) (node_moved ts a ∙ none) (same_queue (after_answer (filter is_queued ts) a) (told.moved a (queued us)) (same_taken (filter is_queued ts) (queued us) a k)))
