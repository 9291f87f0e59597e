-- A device that gets its first task as one of its coordinator's own is queued with it.
use Rattle.std.specs.Prelude.{ℕ, ◌==◌, ◌&&◌, ◌||◌, ◌≡◌, ◌⊎◌, ◌++◌, not, Bool, true, false, if◌then◌else◌, List, [], ◌∷◌, Option, None, Some}
use Rattle.std.proofs.Common.{refl, ap, ◌∙◌, inl, inr}
use Rattle.cmm_attempt.proofs.Basics.{false_true}
use Rattle.history.specs.Moment.{Moment}
use Rattle.history.specs.Queue as told
use Rattle.history.specs.Records.{NodeRecord}
use Rattle.history.specs.Seizing.{acts_for}
use Rattle.history.specs.Setting.{Setting}
use Rattle.history.specs.UnderWay.{is_under_way}
use Rattle.seize.specs.declared.kind.SeizeKind.{SeizeKind}
use Rattle.seize.specs.declared.kind.SeizeKind.TheVariants.{Plain, Vote}
use Rattle.run_outcomes.proofs.silence.tasks.Fresh.{among, devices_of, is_queued_at}
use Rattle.run_outcomes.proofs.told_tasks.Owned.{plain_list, quorum_list}

-- what has a task newly is queued, and what was queued is so still
pub record Queues (ts us : List told.Task) : Type 0 where
  pub fresh : (d : ℕ) → told.has_task d us ≡ true → (told.has_task d ts ≡ true) ⊎ (is_queued_at d us ≡ true)
  pub keeps : (d : ℕ) → is_queued_at d ts ≡ true → is_queued_at d us ≡ true

queues_none : (ts : List told.Task) → Queues ts ts
queues_none ts = record { fresh = λ d is. inl is; keeps = λ d is. is }

queues_then : (old mid new : List told.Task) → Queues old mid → Queues mid new → Queues old new
queues_then old mid new h k = record { fresh = λ d is. by_either d (k.fresh d is); keeps = λ d is. k.keeps d (h.keeps d is) }
  where
    by_first : (d : ℕ) → (told.has_task d old ≡ true) ⊎ (is_queued_at d mid ≡ true) → (told.has_task d old ≡ true) ⊎ (is_queued_at d new ≡ true)
    by_first d (inl is) = inl is
    by_first d (inr is) = inr (k.keeps d is)

    by_either : (d : ℕ) → (told.has_task d mid ≡ true) ⊎ (is_queued_at d new ≡ true) → (told.has_task d old ≡ true) ⊎ (is_queued_at d new ≡ true)
    by_either d (inl is) = by_first d (h.fresh d is)
    by_either d (inr is) = inr is

or_left : (a b : Bool) → a ≡ true → (a || b) ≡ true
or_left true b h = refl
or_left false b h = absurd (false_true h)

or_right : (a b : Bool) → b ≡ true → (a || b) ≡ true
or_right true b h = refl
or_right false b h = h

or_either : (a b : Bool) → (a || b) ≡ true → (a ≡ true) ⊎ (b ≡ true)
or_either true b h = inl refl
or_either false b h = inr h

-- ---- one task more, behind the others, that is not over

module _ (k : ℕ) (w : told.Work) (goes : told.is_over w ≡ false) where
  abbrev more : List told.Task → List told.Task
  more ts = ts ++ (record { device = k; work = w }) ∷ []

  more_has : (d : ℕ) (ts : List told.Task) → told.has_task d (more ts) ≡ true → (told.has_task d ts ≡ true) ⊎ ((k == d) ≡ true)
  more_has d [] h = by_either (or_either (k == d) false h)
    where
      by_either : ((k == d) ≡ true) ⊎ (false ≡ true) → (false ≡ true) ⊎ ((k == d) ≡ true)
      by_either (inl is) = inr is
      by_either (inr is) = inl is
  more_has d (t ∷ ts) h = by_either (λ z. more_has d ts z) (or_either (t.device == d) (told.has_task d (more ts)) h)
    where
      behind : (told.has_task d ts ≡ true) ⊎ ((k == d) ≡ true) → ((t.device == d || told.has_task d ts) ≡ true) ⊎ ((k == d) ≡ true)
      behind (inl is) = inl (or_right (t.device == d) (told.has_task d ts) is)
      behind (inr is) = inr is

      by_either : (told.has_task d (more ts) ≡ true → (told.has_task d ts ≡ true) ⊎ ((k == d) ≡ true)) → ((t.device == d) ≡ true) ⊎ (told.has_task d (more ts) ≡ true)
          → ((t.device == d || told.has_task d ts) ≡ true) ⊎ ((k == d) ≡ true)
      by_either rest (inl is) = inl (or_left (t.device == d) (told.has_task d ts) is)
      by_either rest (inr is) = behind (rest is)

  more_last : (d : ℕ) (ts : List told.Task) → (k == d) ≡ true → is_queued_at d (more ts) ≡ true
  more_last d [] h = ap (λ b. among d (devices_of (if not b then (record { device = k; work = w }) ∷ [] else []))) goes ∙ or_left (k == d) false h
  more_last d (t ∷ ts) h = by_test (told.is_over t.work) (more_last d ts h)
    where
      by_test : (b : Bool) → is_queued_at d (more ts) ≡ true → among d (devices_of (if not b then t ∷ told.unfinished (more ts) else told.unfinished (more ts))) ≡ true
      by_test true rest = rest
      by_test false rest = or_right (t.device == d) (is_queued_at d (more ts)) rest

  more_keeps : (d : ℕ) (ts : List told.Task) → is_queued_at d ts ≡ true → is_queued_at d (more ts) ≡ true
  more_keeps d [] h = absurd (false_true h)
  more_keeps d (t ∷ ts) h = by_test (told.is_over t.work) (λ z. more_keeps d ts z) h
    where
      by_either : (is_queued_at d ts ≡ true → is_queued_at d (more ts) ≡ true) → ((t.device == d) ≡ true) ⊎ (is_queued_at d ts ≡ true) → (t.device == d || is_queued_at d (more ts)) ≡ true
      by_either rest (inl is) = or_left (t.device == d) (is_queued_at d (more ts)) is
      by_either rest (inr is) = or_right (t.device == d) (is_queued_at d (more ts)) (rest is)

      by_test : (b : Bool) → (is_queued_at d ts ≡ true → is_queued_at d (more ts) ≡ true) → among d (devices_of (if not b then t ∷ told.unfinished ts else told.unfinished ts)) ≡ true
          → among d (devices_of (if not b then t ∷ told.unfinished (more ts) else told.unfinished (more ts))) ≡ true
      by_test true rest z = rest z
      by_test false rest z = by_either rest (or_either (t.device == d) (is_queued_at d ts) z)

  with_queues : (ts : List told.Task) → Queues ts (told.with_task k w ts)
  with_queues ts = by_test (told.has_task k ts)
    where
      by_either : (d : ℕ) → (told.has_task d ts ≡ true) ⊎ ((k == d) ≡ true) → (told.has_task d ts ≡ true) ⊎ (is_queued_at d (more ts) ≡ true)
      by_either d (inl is) = inl is
      by_either d (inr is) = inr (more_last d ts is)

      by_test : (b : Bool) → Queues ts (if b then ts else more ts)
      by_test true = queues_none ts
      by_test false = record { fresh = λ d is. by_either d (more_has d ts is); keeps = λ d is. more_keeps d ts is }

-- ---- those of its own

begun_goes : (S : Setting) (n e : ℕ) (kind : SeizeKind) (ms : List Moment) → told.is_over (told.seizing_for S n e kind ms) ≡ false
begun_goes S n e Vote ms = refl
begun_goes S n e Plain ms = refl

seizings_queue : (S : Setting) (n e : ℕ) (kind : SeizeKind) (ms : List Moment) (ds : List ℕ) (ts : List told.Task) → Queues ts (told.with_seizings S n e kind ms ds ts)
seizings_queue S n e kind ms [] ts = queues_none ts
seizings_queue S n e kind ms (d ∷ ds) ts =
    let us : List told.Task = told.with_task d (told.seizing_for S n e kind ms) ts in
    queues_then ts us (told.with_seizings S n e kind ms ds us) (with_queues d (told.seizing_for S n e kind ms) (begun_goes S n e kind ms) ts) (seizings_queue S n e kind ms ds us)

own_queues : (S : Setting) (n e : ℕ) (o : Option NodeRecord) (ms : List Moment) (ts : List told.Task) → Queues ts (told.own_tasks S n e o ms ts)
own_queues S n e None ms ts = queues_none ts
own_queues S n e (Some r) ms ts = by_test (told.quorum_is_over S e r us ms)
  where
    us : List told.Task
    us = told.own_quorum S n e r ms ts

    first : Queues ts us
    first = seizings_queue S n e Vote ms (quorum_list S n r ms) ts

    by_test : (b : Bool) → Queues ts (if b then told.with_seizings S n e Plain ms (plain_list S n r) us else us)
    by_test true = queues_then ts us (told.with_seizings S n e Plain ms (plain_list S n r) us) first (seizings_queue S n e Plain ms (plain_list S n r) us)
    by_test false = first

pub with_own_queues : (S : Setting) (n : ℕ) (o : Option ℕ) (ms : List Moment) (ts : List told.Task) → Queues ts (told.with_own S n o ms ts)
with_own_queues S n None ms ts = queues_none ts
with_own_queues S n (Some e) ms ts = by_test (acts_for n e ms && is_under_way e ms && told.all_promised e ms)
  where
    by_test : (b : Bool) → Queues ts (if b then told.own_tasks S n e (told.newest_in_hand e ms) ms ts else ts)
    by_test true = own_queues S n e (told.newest_in_hand e ms) ms ts
    by_test false = queues_none ts
