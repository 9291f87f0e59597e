-- What a call makes of a task that is found.
use Rattle.std.proofs.Common.{◌≡◌, ℕ, ◌-◌, ◌<◌, ◌≤◌, Bool, true, false, cond, List, [], ◌∷◌, length, get_or, set, ltb, slice_get, Option, Some, None, is_some, find, refl, sym, ap, ◌∙◌, arith}
use Rattle.std.specs.List.{position, position_or_len}
use Rattle.std.proofs.lemmas.Bool.{not-true}
use Rattle.std.proofs.lemmas.List.Folds.{find-append, find_at}
use Rattle.std.proofs.lemmas.Grind.{common_steps}
use Rattle.std.proofs.lemmas.Option.{none-some, same_Some, slice_get_read}
use Rattle.seize.specs.Answers.{Answer}
use Rattle.device_queue.specs.declared.task.Task.{Task}
use Rattle.device_queue.specs.Tasks.{answered, is_over, is_queued}
use Rattle.device_queue.specs.Queue.{after_answer, first_of, put_unless}

-- the first task of the queue, by its place
after_at : (a : Answer) (tasks : List Task) (i : ℕ) (d : Task) → i ≡ position_or_len is_queued tasks → i < length tasks → after_answer tasks a ≡ set tasks i (answered a (get_or tasks i d))
after_at a [] i d at lt = absurd (omega arith)
after_at a (t ∷ ts) i d at lt = grind (arith, common_steps, after_at a ts (i - 1) d)

place_of : {o : Option ℕ} (n size i : ℕ) → o ≡ cond (ltb n size) (Some n) None → o ≡ Some i → (n ≡ i) × (i < size)
place_of n size i is found = grind (arith, same_Some, none-some)

no_place : {o : Option ℕ} (n size : ℕ) → o ≡ cond (ltb n size) (Some n) None → o ≡ None → size ≤ n
no_place n size is none = grind (arith, none-some)

none_past : (a : Answer) (tasks : List Task) → length tasks ≤ position_or_len is_queued tasks → (first_of tasks ≡ None) × (after_answer tasks a ≡ tasks)
none_past a [] le = (refl, refl)
none_past a (t ∷ ts) le = grind (arith, common_steps, none_past a ts)

pub none_at : (a : Answer) (tasks : List Task) (o : Option ℕ) → o ≡ None → o ≡ position is_queued tasks → (first_of tasks ≡ None) × (after_answer tasks a ≡ tasks)
none_at a tasks o none is = none_past a tasks (no_place (position_or_len is_queued tasks) (length tasks) is none)

pub passes : (p : Task → Bool) (ts : List Task) (t : Task) → find p ts ≡ Some t → p t ≡ true
passes p [] t found = absurd (none-some _ found)
passes p (u ∷ us) t found = grind (arith, same_Some, passes p us t)

pub served : (a : Answer) (tasks : List Task) (o : Option ℕ) (i : ℕ) (t : Task) → o ≡ Some i → o ≡ position is_queued tasks → t ≡ get_or tasks i t → (first_of tasks ≡ Some t) × (after_answer tasks a ≡ set tasks i (answered a t)) × (is_over t ≡ false)
served a tasks o i t found is at =
    let place : (position_or_len is_queued tasks ≡ i) × (i < length tasks) = place_of (position_or_len is_queued tasks) (length tasks) i is found in
    let first : first_of tasks ≡ Some t = find_at is_queued tasks ∙ ap (slice_get tasks) place.0 ∙ slice_get_read tasks (length tasks) i t refl place.1 at in
    (first, after_at a tasks i t (sym place.0) place.1 ∙ ap (λ x. set tasks i (answered a x)) (sym at), not-true (is_over t) (passes is_queued tasks t first))

-- a task of this kind that has ended stays
pub ended_stays : (p : Task → Bool) (a : Answer) → ((t : Task) → p (answered a t) ≡ p t) → (ts : List Task) (t : Task) → find p ts ≡ Some t → is_queued t ≡ false → find p (after_answer ts a) ≡ Some t
ended_stays p a same [] t found over = absurd (none-some _ found)
ended_stays p a same (u ∷ us) t found over = grind (arith, same u, ended_stays p a same us t)

-- whether there is one stays
pub some_stays : (p : Task → Bool) (a : Answer) → ((t : Task) → p (answered a t) ≡ p t) → (ts : List Task) → is_some (find p (after_answer ts a)) ≡ is_some (find p ts)
some_stays p a same [] = refl
some_stays p a same (u ∷ us) = grind (arith, same u, some_stays p a same us)

pub none_stays : (p : Task → Bool) (a : Answer) → ((t : Task) → p (answered a t) ≡ p t) → (ts : List Task) → find p ts ≡ None → find p (after_answer ts a) ≡ None
none_stays p a same [] none = refl
none_stays p a same (u ∷ us) none = grind (arith, none-some, same u, none_stays p a same us)

pub put_stays : (p : Task → Bool) (o : Option Task) (x t : Task) (ts : List Task) → find p ts ≡ Some t → find p (put_unless o x ts) ≡ Some t
put_stays p None x t ts found = rw (find-append p ts (x ∷ []), found) refl
put_stays p (Some u) x t ts found = found

pub put_other : (p : Task → Bool) (o : Option Task) (x : Task) (ts : List Task) → p x ≡ false → find p (put_unless o x ts) ≡ find p ts
put_other p None x ts other = grind (arith, find-append p ts (x ∷ []))
put_other p (Some u) x ts other = refl

pub put_found : (p : Task → Bool) (x : Task) (ts : List Task) → p x ≡ true → is_some (find p (put_unless (find p ts) x ts)) ≡ true
put_found p x ts own = next (find p ts) refl
  where
    next : (o : Option Task) → find p ts ≡ o → is_some (find p (put_unless o x ts)) ≡ true
    next None e = rw (find-append p ts (x ∷ []), e, own) refl
    next (Some u) e = rw e refl
