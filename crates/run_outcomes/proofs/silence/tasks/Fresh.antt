-- What a line adds to the tasks of a node is at devices that had none, and a line that adds none queues none.
use Rattle.std.specs.Prelude.{ℕ, ◌==◌, ◌&&◌, ◌||◌, ◌≡◌, ◌⊎◌, ◌++◌, not, Bool, true, false, if◌then◌else◌, List, [], ◌∷◌, Option, None, Some, map, is_some}
use Rattle.std.specs.List.{list_any}
use Rattle.std.proofs.Common.{arith, refl, sym, ap, ◌∙◌, inl, inr}
use Rattle.cmm_attempt.proofs.Basics.{false_true, same_number}
use Rattle.history.specs.Attempts.{gets_task}
use Rattle.history.specs.Member.{member_of}
use Rattle.history.specs.Moment.{Moment}
use Rattle.history.specs.Queue as told
use Rattle.history.specs.Records.{NodeRecord}
use Rattle.history.specs.Seizing.{acts_for}
use Rattle.history.specs.Setting.{Setting}
use Rattle.history.specs.UnderWay.{is_under_way}
use Rattle.seize.specs.Answers.{Answer}
use Rattle.seize.specs.declared.kind.SeizeKind.{SeizeKind}
use Rattle.seize.specs.declared.kind.SeizeKind.TheVariants.{Plain, Vote}
use Rattle.run_outcomes.proofs.told_tasks.Owned.{plain_list, quorum_list}

-- ---- the devices that are queued

abbrev pub among : ℕ → List ℕ → Bool
among d ds = list_any (λ x. x == d) ds

abbrev pub devices_of : List told.Task → List ℕ
devices_of ts = map (λ (t : told.Task). t.device) ts

abbrev pub is_queued_at : ℕ → List told.Task → Bool
is_queued_at d ts = among d (devices_of (told.unfinished ts))

or_left : (a b : Bool) → a ≡ true → (a || b) ≡ true
or_left true b h = refl
or_left false b h = absurd (false_true h)

or_right : (a b : Bool) → b ≡ true → (a || b) ≡ true
or_right true b h = refl
or_right false b h = h

or_either : (a b : Bool) → (a || b) ≡ true → (a ≡ true) ⊎ (b ≡ true)
or_either true b h = inl refl
or_either false b h = inr h

-- what is queued has a task
pub queued_has : (d : ℕ) (ts : List told.Task) → is_queued_at d ts ≡ true → told.has_task d ts ≡ true
queued_has d [] h = h
queued_has d (t ∷ ts) h = by_test (told.is_over t.work) (λ k. queued_has d ts k) h
  where
    by_either : (is_queued_at d ts ≡ true → told.has_task d ts ≡ true) → ((t.device == d) ≡ true) ⊎ (is_queued_at d ts ≡ true) → (t.device == d || told.has_task d ts) ≡ true
    by_either rest (inl is) = or_left (t.device == d) (told.has_task d ts) is
    by_either rest (inr is) = or_right (t.device == d) (told.has_task d ts) (rest is)

    by_test : (b : Bool) → (is_queued_at d ts ≡ true → told.has_task d ts ≡ true) → among d (devices_of (if not b then t ∷ told.unfinished ts else told.unfinished ts)) ≡ true → (t.device == d || told.has_task d ts) ≡ true
    by_test true rest k = or_right (t.device == d) (told.has_task d ts) (rest k)
    by_test false rest k = by_either rest (or_either (t.device == d) (is_queued_at d ts) k)

-- ---- an answer

pub moved_has : (a : Answer) (d : ℕ) (ts : List told.Task) → told.has_task d (told.moved a ts) ≡ told.has_task d ts
moved_has a d [] = refl
moved_has a d (t ∷ ts) = by_test (told.is_over t.work) (moved_has a d ts)
  where
    by_test : (b : Bool) → told.has_task d (told.moved a ts) ≡ told.has_task d ts → told.has_task d (if b then t ∷ told.moved a ts else (record t { work = told.work_after t.work a }) ∷ ts) ≡ (t.device == d || told.has_task d ts)
    by_test true rest = ap (λ z. t.device == d || z) rest
    by_test false rest = refl

pub moved_queued : (a : Answer) (d : ℕ) (ts : List told.Task) → is_queued_at d (told.moved a ts) ≡ true → is_queued_at d ts ≡ true
moved_queued a d [] h = h
moved_queued a d (t ∷ ts) h = by_test (told.is_over t.work) (λ k. moved_queued a d ts k) refl h
  where
    w : told.Task
    w = record t { work = told.work_after t.work a }

    first : (b : Bool) → among d (devices_of (if not b then w ∷ told.unfinished ts else told.unfinished ts)) ≡ true → (t.device == d || is_queued_at d ts) ≡ true
    first true k = or_right (t.device == d) (is_queued_at d ts) k
    first false k = k

    by_test : (b : Bool) → (is_queued_at d (told.moved a ts) ≡ true → is_queued_at d ts ≡ true) → told.is_over t.work ≡ b → is_queued_at d (if b then t ∷ told.moved a ts else w ∷ ts) ≡ true → is_queued_at d (t ∷ ts) ≡ true
    by_test true rest is k =
        ap (λ z. among d (devices_of (if not z then t ∷ told.unfinished ts else told.unfinished ts))) is
        ∙ rest (sym (ap (λ z. among d (devices_of (if not z then t ∷ told.unfinished (told.moved a ts) else told.unfinished (told.moved a ts)))) is) ∙ k)
    by_test false rest is k = ap (λ z. among d (devices_of (if not z then t ∷ told.unfinished ts else told.unfinished ts))) is ∙ first (told.is_over w.work) k

-- ---- tasks of its own

-- what is queued newly is at a device that had no task, and no device loses its task
pub record Adds (ts us : List told.Task) : Type 0 where
  pub fresh : (d : ℕ) → is_queued_at d us ≡ true → (is_queued_at d ts ≡ true) ⊎ (told.has_task d ts ≡ false)
  pub keeps : (d : ℕ) → told.has_task d us ≡ false → told.has_task d ts ≡ false

pub adds_none : (ts : List told.Task) → Adds ts ts
adds_none ts = record { fresh = λ d is. inl is; keeps = λ d none. none }

adds_then : (old mid new : List told.Task) → Adds old mid → Adds mid new → Adds old new
adds_then old mid new h k = record { fresh = λ d is. by_either d (k.fresh d is); keeps = λ d none. h.keeps d (k.keeps d none) }
  where
    by_either : (d : ℕ) → (is_queued_at d mid ≡ true) ⊎ (told.has_task d mid ≡ false) → (is_queued_at d old ≡ true) ⊎ (told.has_task d old ≡ false)
    by_either d (inl is) = h.fresh d is
    by_either d (inr none) = inr (h.keeps d none)

has_more : (d : ℕ) (ts us : List told.Task) → told.has_task d (ts ++ us) ≡ false → told.has_task d ts ≡ false
has_more d [] us h = refl
has_more d (t ∷ ts) us h = by_test (t.device == d) (λ k. has_more d ts us k) h
  where
    by_test : (b : Bool) → (told.has_task d (ts ++ us) ≡ false → told.has_task d ts ≡ false) → (b || told.has_task d (ts ++ us)) ≡ false → (b || told.has_task d ts) ≡ false
    by_test true rest k = absurd (false_true (sym k))
    by_test false rest k = rest k

-- .. one task more, behind the others
one_more : (d k : ℕ) (w : told.Work) (ts : List told.Task) → is_queued_at d (ts ++ (record { device = k; work = w }) ∷ []) ≡ true → (is_queued_at d ts ≡ true) ⊎ ((k == d) ≡ true)
one_more d k w [] h = by_test (told.is_over w) h
  where
    by_test : (b : Bool) → among d (devices_of (if not b then (record { device = k; work = w }) ∷ [] else [])) ≡ true → (false ≡ true) ⊎ ((k == d) ≡ true)
    by_test true z = absurd (false_true z)
    by_test false z = by_either (or_either (k == d) false z)
      where
        by_either : ((k == d) ≡ true) ⊎ (false ≡ true) → (false ≡ true) ⊎ ((k == d) ≡ true)
        by_either (inl is) = inr is
        by_either (inr is) = absurd (false_true is)
one_more d k w (t ∷ ts) h = by_test (told.is_over t.work) (λ z. one_more d k w ts z) h
  where
    more : List told.Task
    more = ts ++ (record { device = k; work = w }) ∷ []

    Rest : Type 0
    Rest = is_queued_at d more ≡ true → (is_queued_at d ts ≡ true) ⊎ ((k == d) ≡ true)

    behind : (is_queued_at d ts ≡ true) ⊎ ((k == d) ≡ true) → ((t.device == d || is_queued_at d ts) ≡ true) ⊎ ((k == d) ≡ true)
    behind (inl is) = inl (or_right (t.device == d) (is_queued_at d ts) is)
    behind (inr is) = inr is

    by_either : Rest → ((t.device == d) ≡ true) ⊎ (is_queued_at d more ≡ true) → ((t.device == d || is_queued_at d ts) ≡ true) ⊎ ((k == d) ≡ true)
    by_either rest (inl is) = inl (or_left (t.device == d) (is_queued_at d ts) is)
    by_either rest (inr is) = behind (rest is)

    by_test : (b : Bool) → Rest → among d (devices_of (if not b then t ∷ told.unfinished more else told.unfinished more)) ≡ true
        → (among d (devices_of (if not b then t ∷ told.unfinished ts else told.unfinished ts)) ≡ true) ⊎ ((k == d) ≡ true)
    by_test true rest z = rest z
    by_test false rest z = by_either rest (or_either (t.device == d) (is_queued_at d more) z)

with_adds : (k : ℕ) (w : told.Work) (ts : List told.Task) → Adds ts (told.with_task k w ts)
with_adds k w ts = by_test (told.has_task k ts) refl
  where
    by_test : (b : Bool) → told.has_task k ts ≡ b → Adds ts (if b then ts else ts ++ (record { device = k; work = w }) ∷ [])
    by_test true is = adds_none ts
    by_test false none = record { fresh = λ d is. by_either d (one_more d k w ts is); keeps = λ d off. has_more d ts ((record { device = k; work = w }) ∷ []) off }
      where
        by_either : (d : ℕ) → (is_queued_at d ts ≡ true) ⊎ ((k == d) ≡ true) → (is_queued_at d ts ≡ true) ⊎ (told.has_task d ts ≡ false)
        by_either d (inl is) = inl is
        by_either d (inr same) = inr (ap (λ j. told.has_task j ts) (sym (same_number k d same)) ∙ none)

seizings_add : (S : Setting) (n e : ℕ) (kind : SeizeKind) (ms : List Moment) (ds : List ℕ) (ts : List told.Task) → Adds ts (told.with_seizings S n e kind ms ds ts)
seizings_add S n e kind ms [] ts = adds_none ts
seizings_add S n e kind ms (d ∷ ds) ts =
    let us : List told.Task = told.with_task d (told.seizing_for S n e kind ms) ts in
    adds_then ts us (told.with_seizings S n e kind ms ds us) (with_adds d (told.seizing_for S n e kind ms) ts) (seizings_add S n e kind ms ds us)

own_add : (S : Setting) (n e : ℕ) (o : Option NodeRecord) (ms : List Moment) (ts : List told.Task) → Adds ts (told.own_tasks S n e o ms ts)
own_add S n e None ms ts = adds_none ts
own_add S n e (Some r) ms ts = by_test (told.quorum_is_over S e r us ms)
  where
    us : List told.Task
    us = told.own_quorum S n e r ms ts

    first : Adds ts us
    first = seizings_add S n e Vote ms (quorum_list S n r ms) ts

    by_test : (b : Bool) → Adds ts (if b then told.with_seizings S n e Plain ms (plain_list S n r) us else us)
    by_test true = adds_then ts us (told.with_seizings S n e Plain ms (plain_list S n r) us) first (seizings_add S n e Plain ms (plain_list S n r) us)
    by_test false = first

pub with_own_adds : (S : Setting) (n : ℕ) (o : Option ℕ) (ms : List Moment) (ts : List told.Task) → Adds ts (told.with_own S n o ms ts)
with_own_adds S n None ms ts = adds_none ts
with_own_adds S n (Some e) ms ts = by_test (acts_for n e ms && is_under_way e ms && told.all_promised e ms)
  where
    by_test : (b : Bool) → Adds ts (if b then told.own_tasks S n e (told.newest_in_hand e ms) ms ts else ts)
    by_test true = own_add S n e (told.newest_in_hand e ms) ms ts
    by_test false = adds_none ts

-- ---- a line that queues nothing new

none_new : (xs ys : List ℕ) → ((d : ℕ) → among d xs ≡ true → among d ys ≡ true) → list_any (λ d. not (among d ys)) xs ≡ false
none_new [] ys f = refl
none_new (x ∷ xs) ys f = by_parts (f x (or_left (x == x) (among x xs) (itself x))) (none_new xs ys (λ d is. f d (or_right (x == d) (among d xs) is)))
  where
    itself : (n : ℕ) → (n == n) ≡ true
    itself n = grind arith

    by_parts : among x ys ≡ true → list_any (λ d. not (among d ys)) xs ≡ false → (not (among x ys) || list_any (λ d. not (among d ys)) xs) ≡ false
    by_parts is rest = ap (λ b. not b || list_any (λ d. not (among d ys)) xs) is ∙ rest

pub none_gets : (S : Setting) (n : ℕ) (ms : List Moment) (x : Moment) → member_of n (x ∷ ms) ≡ member_of n ms
    → (is_some (member_of n ms) ≡ false → (d : ℕ) → is_queued_at d (told.tasks_of S n (x ∷ ms)) ≡ true → is_queued_at d (told.tasks_of S n ms) ≡ true) → gets_task S n ms x ≡ false
none_gets S n ms x same f = off (not (told.queue_is_open S n (x ∷ ms))) _ (none_new (told.queue_of S n (x ∷ ms)) (told.queue_of S n ms) by_device)
  where
    off : (a b : Bool) → b ≡ false → (a && b) ≡ false
    off true b h = h
    off false b h = refl

    by_member : (b : Bool) → is_some (member_of n ms) ≡ b → (d : ℕ) → among d (devices_of (if b then [] else told.unfinished (told.tasks_of S n (x ∷ ms)))) ≡ true
        → among d (devices_of (if b then [] else told.unfinished (told.tasks_of S n ms))) ≡ true
    by_member true is d h = h
    by_member false is d h = f is d h

    by_device : (d : ℕ) → among d (told.queue_of S n (x ∷ ms)) ≡ true → among d (told.queue_of S n ms) ≡ true
    by_device d h =
        by_member (is_some (member_of n ms)) refl d
        (sym (ap (λ o. among d (devices_of (if is_some o then [] else told.unfinished (told.tasks_of S n (x ∷ ms))))) same) ∙ h)
