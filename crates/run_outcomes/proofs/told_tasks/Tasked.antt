-- Which quorum devices have a task, once the own ones are begun.
use Rattle.std.specs.Prelude.{ℕ, ◌≡◌, ◌==◌, ◌&&◌, ◌||◌, not, Bool, true, false, if◌then◌else◌, List, [], ◌∷◌, ◌++◌, filter, map, Option, Some}
use Rattle.std.specs.List.{AllByRecursion, list_any}
use Rattle.std.proofs.Common.{refl, sym, ap, subst, ◌∙◌, arith}
use Rattle.std.proofs.lemmas.List.Folds.{list_any-append}
use Rattle.cl_base.specs.Sets.{has}
use Rattle.cmm_attempt.proofs.Basics.{and_cases, false_true, same_number}
use Rattle.cmm_attempt.specs.Counts.{is_quorum}
use Rattle.cmm_attempt.specs.Plans.{is_reachable}
use Rattle.cmm_attempt.specs.declared.attached.AttachedDevice.{AttachedDevice}
use Rattle.cmm_attempt.specs.declared.counting.BothVotes.{BothVotes}
use Rattle.cmm_attempt.specs.declared.plan.Plan.{Plan}
use Rattle.cmm_attempt.specs.declared.promised.Promised.{Promised}
use Rattle.cmm_attempt.specs.declared.seizing.Seizing.{Seizing}
use Rattle.attempt_laws.specs.Asking.{AreApart, numbers_of}
use Rattle.history.specs.Moment.{Moment}
use Rattle.history.specs.Queue as told
use Rattle.history.specs.Records.{NodeRecord}
use Rattle.history.specs.Setting.{Setting}
use Rattle.run_outcomes.specs.tasks.Entries.{AreVotes, LedBy, devices_in, has_votes}
use Rattle.run_outcomes.specs.tasks.OwnTasks.{Shows}
use Rattle.run_outcomes.proofs.told_tasks.Added.{among, devices_of, fails_lacks, lacks, task_among}
use Rattle.run_outcomes.proofs.told_tasks.Owned.{devices_apart, devices_begun, own_devices, quorum_added, quorum_list}
use Rattle.run_outcomes.proofs.told_tasks.Picked.{numbers_in, quorum_picked}
use Rattle.run_outcomes.proofs.told_tasks.Lists.{apart_filter}

-- ---- which of them have a task

entry_lacks : (P : Seizing → Bool) (d : ℕ) (es : List Seizing) → list_any (λ x. x == d) (map (λ (e : Seizing). e.attached.device) es) ≡ false
    → among d (map (λ (e : Seizing). e.attached.device) (filter P es)) ≡ false
entry_lacks P d [] none = refl
entry_lacks P d (e ∷ es) none = by_test (P e) (entry_lacks P d es (neither (e.attached.device == d) (list_any (λ x. x == d) (map (λ (y : Seizing). y.attached.device) es)) none).1)
  where
    neither : (p q : Bool) → (p || q) ≡ false → (p ≡ false) × (q ≡ false)
    neither true q k = absurd (false_true (sym k))
    neither false q k = (refl, k)

    by_test : (b : Bool) → among d (map (λ (y : Seizing). y.attached.device) (filter P es)) ≡ false
        → among d (map (λ (y : Seizing). y.attached.device) (if b then e ∷ filter P es else filter P es)) ≡ false
    by_test true rest = rw ((neither (e.attached.device == d) (list_any (λ x. x == d) (map (λ (y : Seizing). y.attached.device) es)) none).0) rest
    by_test false rest = rest

-- an entry is among those that are picked where it passes the test
entries_each : (P : Seizing → Bool) (es : List Seizing) → AreApart (map (λ (e : Seizing). e.attached.device) es)
    → AllByRecursion (λ (e : Seizing). among e.attached.device (map (λ (y : Seizing). y.attached.device) (filter P es)) ≡ P e) es
entries_each P [] apart = tt
entries_each P (e ∷ es) apart = (head (P e) (entry_lacks P e.attached.device es apart.0), rest es apart.0 (entries_each P es apart.1))
  where
    dev : List Seizing → List ℕ
    dev xs = map (λ (y : Seizing). y.attached.device) xs

    here : (n : ℕ) (b : Bool) → ((n == n) || b) ≡ true
    here n b = grind arith

    swapped : (m n : ℕ) → (m == n) ≡ false → (n == m) ≡ false
    swapped m n k = grind arith

    neither : (p q : Bool) → (p || q) ≡ false → (p ≡ false) × (q ≡ false)
    neither true q k = absurd (false_true (sym k))
    neither false q k = (refl, k)

    head : (b : Bool) → among e.attached.device (dev (filter P es)) ≡ false → among e.attached.device (dev (if b then e ∷ filter P es else filter P es)) ≡ b
    head true none = here e.attached.device (among e.attached.device (dev (filter P es)))
    head false none = none

    rest : (ys : List Seizing) → list_any (λ x. x == e.attached.device) (dev ys) ≡ false → AllByRecursion (λ (y : Seizing). among y.attached.device (dev (filter P es)) ≡ P y) ys
        → AllByRecursion (λ (y : Seizing). among y.attached.device (dev (filter P (e ∷ es))) ≡ P y) ys
    rest [] none k = tt
    rest (y ∷ ys) none k =
        let two : ((y.attached.device == e.attached.device) ≡ false) × (list_any (λ x. x == e.attached.device) (dev ys) ≡ false) =
        neither (y.attached.device == e.attached.device) (list_any (λ x. x == e.attached.device) (dev ys)) none in
        (by_test (P e) two.0, rest ys two.1 k.1)
      where
        by_test : (b : Bool) → (y.attached.device == e.attached.device) ≡ false → among y.attached.device (dev (if b then e ∷ filter P es else filter P es)) ≡ P y
        by_test true other = ap (λ z. z || among y.attached.device (dev (filter P es))) (swapped y.attached.device e.attached.device other) ∙ k.0
        by_test false other = k.0

votes_each : (S : Setting) (plan : Plan) (promises : List Promised) (both : BothVotes) (r : NodeRecord) (ms : List Moment) (vs : List Seizing) → Shows S plan promises both r ms
    → AreVotes plan promises (Some both) vs → AllByRecursion (λ (e : Seizing). told.is_voting S r e.attached.device ≡ true) vs
votes_each S plan promises both r ms vs z h =
    entries vs (subst (AllByRecursion (λ (a : AttachedDevice). told.is_voting S r a.device ≡ true)) (sym h.devices) (picked plan.attached))
  where
    picked : (xs : List AttachedDevice) → AllByRecursion (λ (a : AttachedDevice). told.is_voting S r a.device ≡ true) (filter (has_votes plan (Some both)) xs)
    picked [] = tt
    picked (a ∷ xs) = by_test (has_votes plan (Some both) a) refl (picked xs)
      where
        by_test : (b : Bool) → has_votes plan (Some both) a ≡ b → AllByRecursion (λ (y : AttachedDevice). told.is_voting S r y.device ≡ true) (filter (has_votes plan (Some both)) xs)
            → AllByRecursion (λ (y : AttachedDevice). told.is_voting S r y.device ≡ true) (if b then a ∷ filter (has_votes plan (Some both)) xs else filter (has_votes plan (Some both)) xs)
        by_test true is rest = (z.voting a.device ∙ (and_cases (is_quorum both a.device) (is_reachable plan a) is).0, rest)
        by_test false is rest = rest

    entries : (es : List Seizing) → AllByRecursion (λ (a : AttachedDevice). told.is_voting S r a.device ≡ true) (devices_in es)
        → AllByRecursion (λ (e : Seizing). told.is_voting S r e.attached.device ≡ true) es
    entries [] k = tt
    entries (e ∷ es) k = (k.0, entries es k.1)

votes_apart : (plan : Plan) (promises : List Promised) (given : Option BothVotes) (vs : List Seizing) → LedBy plan → AreVotes plan promises given vs
    → AreApart (map (λ (e : Seizing). e.attached.device) vs)
votes_apart plan promises given vs l h =
    subst AreApart (numbers_in vs) (subst (λ xs. AreApart (numbers_of xs)) (sym h.devices) (apart_filter (has_votes plan given) plan.attached l.apart))

-- once the own quorum devices are begun, one of them has a task where the coordinator was asked
pub votes_tasks : (S : Setting) (plan : Plan) (promises : List Promised) (both : BothVotes) (r : NodeRecord) (ms : List Moment) (z : Shows S plan promises both r ms) (vs : List Seizing)
    (tasks : List told.Task) (more rest : List ℕ) → AreVotes plan promises (Some both) vs → devices_of tasks ++ more ≡ own_devices plan vs ++ rest
    → AllByRecursion (λ d. told.is_voting S r d ≡ false) rest
    → AllByRecursion (λ (e : Seizing). told.has_task e.attached.device (told.own_quorum S plan.coordinator plan.epoch r ms tasks) ≡ has e.asked plan.coordinator) vs
votes_tasks S plan promises both r ms z vs tasks more rest h devices others =
    each vs (entries_each (λ e. has e.asked c) vs (votes_apart plan promises (Some both) vs z.led h)) (votes_each S plan promises both r ms vs z h)
  where
    c : ℕ
    c = plan.coordinator

    Q : List ℕ
    Q = own_devices plan vs

    T : List told.Task
    T = told.own_quorum S c plan.epoch r ms tasks

    all : devices_of T ≡ devices_of tasks ++ filter (lacks (devices_of tasks)) Q
    all =
        ap devices_of (quorum_added S c plan.epoch r ms tasks (devices_apart S plan promises both r ms z))
        ∙ (devices_begun S c plan.epoch r ms tasks (filter (lacks (devices_of tasks)) (quorum_list S c r ms))
        ∙ ap (λ ds. devices_of tasks ++ filter (lacks (devices_of tasks)) ds) (quorum_picked S plan promises both r ms vs z h))

    has_picked : (P : ℕ → Bool) (d : ℕ) (xs : List ℕ) → among d (filter P xs) ≡ (P d && among d xs)
    has_picked P d [] = none (P d)
      where
        none : (b : Bool) → false ≡ (b && false)
        none true = refl
        none false = refl
    has_picked P d (x ∷ xs) = by_test (P x) (x == d) refl refl (has_picked P d xs)
      where
        by_test : (b e : Bool) → P x ≡ b → (x == d) ≡ e → among d (filter P xs) ≡ (P d && among d xs)
            → among d (if b then x ∷ filter P xs else filter P xs) ≡ (P d && (e || among d xs))
        by_test true true is at k = ap (λ y. y || among d (filter P xs)) at ∙ sym (ap (λ y. y && true) (ap P (sym (same_number x d at)) ∙ is))
        by_test true false is at k = ap (λ y. y || among d (filter P xs)) at ∙ k
        by_test false true is at k = k ∙ (ap (λ y. y && among d xs) off ∙ sym (ap (λ y. y && true) off))
          where
            off : P d ≡ false
            off = ap P (sym (same_number x d at)) ∙ is
        by_test false false is at k = k

    merged : (a b : Bool) → (a ≡ true → b ≡ true) → (a || (not a && b)) ≡ b
    merged true b f = sym (f refl)
    merged false b f = refl

    first_or : (a b : Bool) → a ≡ true → (a || b) ≡ true
    first_or true b k = refl
    first_or false b k = absurd (false_true k)

    or_none : (a b : Bool) → b ≡ false → (a || b) ≡ true → a ≡ true
    or_none true b off k = refl
    or_none false b off k = absurd (false_true (sym off ∙ k))

    old_in : (d : ℕ) → told.is_voting S r d ≡ true → among d (devices_of tasks) ≡ true → among d Q ≡ true
    old_in d voting here =
        or_none (among d Q) (among d rest) (fails_lacks (λ x. not (told.is_voting S r x)) d rest (ap not voting) (turned rest others))
        (sym (list_any-append (λ x. x == d) Q rest)
        ∙ (ap (among d) (sym devices) ∙ (list_any-append (λ x. x == d) (devices_of tasks) more ∙ first_or (among d (devices_of tasks)) (among d more) here)))
      where
        turned : (ds : List ℕ) → AllByRecursion (λ x. told.is_voting S r x ≡ false) ds → AllByRecursion (λ x. not (told.is_voting S r x) ≡ true) ds
        turned [] k = tt
        turned (x ∷ ds) k = (ap not k.0, turned ds k.1)

    each : (es : List Seizing) → AllByRecursion (λ (e : Seizing). among e.attached.device Q ≡ has e.asked c) es → AllByRecursion (λ (e : Seizing). told.is_voting S r e.attached.device ≡ true) es
        → AllByRecursion (λ (e : Seizing). told.has_task e.attached.device T ≡ has e.asked c) es
    each [] k votes = tt
    each (e ∷ es) k votes = (
      task_among e.attached.device T
          ∙ (ap (among e.attached.device) all
          ∙ (list_any-append (λ x. x == e.attached.device) (devices_of tasks) (filter (lacks (devices_of tasks)) Q)
          ∙ (ap (λ b. among e.attached.device (devices_of tasks) || b) (has_picked (lacks (devices_of tasks)) e.attached.device Q)
          ∙ (merged (among e.attached.device (devices_of tasks)) (among e.attached.device Q) (old_in e.attached.device votes.0) ∙ k.0)))),
      each es k.1 votes.1,
    )
