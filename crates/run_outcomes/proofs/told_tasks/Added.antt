-- Numbers that are apart, and the tasks that `history` adds for devices that have none yet.
use Rattle.std.specs.Prelude.{ℕ, ◌≡◌, ◌==◌, ◌||◌, not, Bool, true, false, if◌then◌else◌, List, [], ◌∷◌, ◌++◌, filter, map}
use Rattle.std.specs.List.{AllByRecursion, list_any}
use Rattle.std.proofs.Common.{refl, sym, ap, subst, ◌∙◌, arith, append-nil}
use Rattle.std.proofs.lemmas.List.Folds.{list_any-append}
use Rattle.cmm_attempt.proofs.Basics.{false_true, same_number}
use Rattle.attempt_laws.specs.Asking.{AreApart}
use Rattle.seize.specs.declared.kind.SeizeKind.{SeizeKind}
use Rattle.seize.specs.declared.kind.SeizeKind.TheVariants.{Plain, Vote}
use Rattle.history.specs.Moment.{Moment}
use Rattle.history.specs.Queue as told
use Rattle.history.specs.Records.{NodeRecord}
use Rattle.history.specs.Setting.{Setting}
use Rattle.run_outcomes.specs.tasks.OwnTasks.{begun_at}
use Rattle.run_outcomes.proofs.told_tasks.Picked.{same_picked}

-- ---- numbers that are apart

abbrev pub among : ℕ → List ℕ → Bool
among d ds = list_any (λ x. x == d) ds

abbrev pub lacks : List ℕ → ℕ → Bool
lacks ds d = not (among d ds)

neither : (p q : Bool) → (p || q) ≡ false → (p ≡ false) × (q ≡ false)
neither true q k = absurd (false_true (sym k))
neither false q k = (refl, k)

or_off : (p q : Bool) → p ≡ false → q ≡ false → (p || q) ≡ false
or_off true q h k = h
or_off false q h k = k

picked_lacks : (P : ℕ → Bool) (d : ℕ) (xs : List ℕ) → among d xs ≡ false → among d (filter P xs) ≡ false
picked_lacks P d [] none = refl
picked_lacks P d (x ∷ xs) none = by_test (P x) (picked_lacks P d xs (neither (x == d) (among d xs) none).1)
  where
    by_test : (b : Bool) → among d (filter P xs) ≡ false → among d (if b then x ∷ filter P xs else filter P xs) ≡ false
    by_test true rest = or_off (x == d) (among d (filter P xs)) (neither (x == d) (among d xs) none).0 rest
    by_test false rest = rest

pub picked_apart : (P : ℕ → Bool) (xs : List ℕ) → AreApart xs → AreApart (filter P xs)
picked_apart P [] apart = tt
picked_apart P (x ∷ xs) apart = by_test (P x) (picked_apart P xs apart.1)
  where
    by_test : (b : Bool) → AreApart (filter P xs) → AreApart (if b then x ∷ filter P xs else filter P xs)
    by_test true rest = (picked_lacks P x xs apart.0, rest)
    by_test false rest = rest

-- all that are picked pass the test
pub picked_pass : (P : ℕ → Bool) (xs : List ℕ) → AllByRecursion (λ d. P d ≡ true) (filter P xs)
picked_pass P [] = tt
picked_pass P (x ∷ xs) = by_test (P x) refl (picked_pass P xs)
  where
    by_test : (b : Bool) → P x ≡ b → AllByRecursion (λ d. P d ≡ true) (filter P xs) → AllByRecursion (λ d. P d ≡ true) (if b then x ∷ filter P xs else filter P xs)
    by_test true is rest = (is, rest)
    by_test false is rest = rest

-- those that fail the test are not among those that all pass it
pub fails_lacks : (P : ℕ → Bool) (d : ℕ) (xs : List ℕ) → P d ≡ false → AllByRecursion (λ x. P x ≡ true) xs → among d xs ≡ false
fails_lacks P d [] off all = refl
fails_lacks P d (x ∷ xs) off all = or_off (x == d) (among d xs) (by_test (x == d) refl) (fails_lacks P d xs off all.1)
  where
    by_test : (b : Bool) → (x == d) ≡ b → b ≡ false
    by_test true is = absurd (false_true (sym off ∙ subst (λ z. P z ≡ true) (same_number x d is) all.0))
    by_test false is = refl

pub append_apart : (xs ys : List ℕ) → AreApart xs → AreApart ys → AllByRecursion (λ y. among y xs ≡ false) ys → AreApart (xs ++ ys)
append_apart [] ys one other k = other
append_apart (x ∷ xs) ys one other k =
    (list_any-append (λ z. z == x) xs ys ∙ or_off (among x xs) (among x ys) one.0 (behind ys k), append_apart xs ys one.1 other (less ys k))
  where
    swapped : (a b : ℕ) → (a == b) ≡ false → (b == a) ≡ false
    swapped a b h = grind arith

    behind : (zs : List ℕ) → AllByRecursion (λ y. among y (x ∷ xs) ≡ false) zs → among x zs ≡ false
    behind [] h = refl
    behind (z ∷ zs) h = or_off (z == x) (among x zs) (swapped x z (neither (x == z) (among z xs) h.0).0) (behind zs h.1)

    less : (zs : List ℕ) → AllByRecursion (λ y. among y (x ∷ xs) ≡ false) zs → AllByRecursion (λ y. among y xs ≡ false) zs
    less [] h = tt
    less (z ∷ zs) h = ((neither (x == z) (among z xs) h.0).1, less zs h.1)

pub both_picked : (P : ℕ → Bool) (xs ys : List ℕ) → filter P (xs ++ ys) ≡ filter P xs ++ filter P ys
both_picked P [] ys = refl
both_picked P (x ∷ xs) ys = by_test (P x) (both_picked P xs ys)
  where
    by_test : (b : Bool) → filter P (xs ++ ys) ≡ filter P xs ++ filter P ys → (if b then x ∷ filter P (xs ++ ys) else filter P (xs ++ ys)) ≡ (if b then x ∷ filter P xs else filter P xs) ++ filter P ys
    by_test true k = ap (λ zs. x ∷ zs) k
    by_test false k = k

-- of apart numbers those that are not among the first are the last
pub rest_picked : (old more : List ℕ) → AreApart (old ++ more) → filter (lacks old) (old ++ more) ≡ more
rest_picked old more apart =
    both_picked (lacks old) old more
    ∙ (ap (λ zs. zs ++ filter (lacks old) more) (none old (λ d is. is)) ∙ all old more apart)
  where
    none : (xs : List ℕ) → ((d : ℕ) → among d xs ≡ true → among d old ≡ true) → filter (lacks old) xs ≡ []
    none [] f = refl
    none (x ∷ xs) f =
        ap (λ b. if not b then x ∷ filter (lacks old) xs else filter (lacks old) xs) (f x (itself x (among x xs)))
        ∙ none xs (λ d is. f d (or_more (x == d) (among d xs) is))
      where
        itself : (k : ℕ) (b : Bool) → ((k == k) || b) ≡ true
        itself k b = grind arith

        or_more : (a b : Bool) → b ≡ true → (a || b) ≡ true
        or_more true b k = refl
        or_more false b k = k

    absent : (xs : List ℕ) (y : ℕ) (ys zs : List ℕ) → AreApart (xs ++ (zs ++ y ∷ ys)) → among y xs ≡ false
    absent [] y ys zs h = refl
    absent (x ∷ xs) y ys zs h = or_off (x == y) (among y xs) (swapped (other zs (neither (among x xs) (among x (zs ++ y ∷ ys)) (sym (list_any-append (λ z. z == x) xs (zs ++ y ∷ ys)) ∙ h.0)).1)) (absent xs y ys zs h.1)
      where
        other : (ws : List ℕ) → among x (ws ++ y ∷ ys) ≡ false → (y == x) ≡ false
        other [] k = (neither (y == x) (among x ys) k).0
        other (w ∷ ws) k = other ws (neither (w == x) (among x (ws ++ y ∷ ys)) k).1

        swapped : (y == x) ≡ false → (x == y) ≡ false
        swapped k = grind arith

    kept : (zs ys : List ℕ) → AreApart (old ++ (zs ++ ys)) → filter (lacks old) ys ≡ ys
    kept zs [] h = refl
    kept zs (y ∷ ys) h =
        ap (λ b. if not b then y ∷ filter (lacks old) ys else filter (lacks old) ys) (absent old y ys zs h)
        ∙ ap (λ ws. y ∷ ws) (kept (zs ++ y ∷ []) ys (subst (λ ws. AreApart (old ++ ws)) (shifted zs y ys) h))
      where
        shifted : (xs : List ℕ) (b : ℕ) (bs : List ℕ) → xs ++ b ∷ bs ≡ (xs ++ b ∷ []) ++ bs
        shifted [] b bs = refl
        shifted (x ∷ xs) b bs = ap (λ ws. x ∷ ws) (shifted xs b bs)

    all : (xs ys : List ℕ) → AreApart (xs ++ ys) → filter (lacks old) more ≡ more
    all xs ys h = kept [] more apart

-- ---- tasks

abbrev pub devices_of : List told.Task → List ℕ
devices_of tasks = map (λ (t : told.Task). t.device) tasks

pub task_among : (d : ℕ) (tasks : List told.Task) → told.has_task d tasks ≡ among d (devices_of tasks)
task_among d [] = refl
task_among d (t ∷ tasks) = ap (λ b. (t.device == d) || b) (task_among d tasks)

abbrev pub task_for : Setting → ℕ → ℕ → SeizeKind → List Moment → ℕ → told.Task
task_for S n e kind ms d = record { device = d; work = told.seizing_for S n e kind ms }

append_apart_tasks : (xs : List told.Task) (y : told.Task) (ys : List told.Task) → (xs ++ y ∷ []) ++ ys ≡ xs ++ y ∷ ys
append_apart_tasks [] y ys = refl
append_apart_tasks (x ∷ xs) y ys = ap (λ zs. x ∷ zs) (append_apart_tasks xs y ys)

pub append_tasks : (xs ys zs : List told.Task) → (xs ++ ys) ++ zs ≡ xs ++ (ys ++ zs)
append_tasks [] ys zs = refl
append_tasks (x ∷ xs) ys zs = ap (λ ws. x ∷ ws) (append_tasks xs ys zs)

-- the seizings of these devices, where there is none yet
pub seizings_added : (S : Setting) (n e : ℕ) (kind : SeizeKind) (ms : List Moment) (ds : List ℕ) (tasks : List told.Task) → AreApart ds
    → told.with_seizings S n e kind ms ds tasks ≡ tasks ++ map (task_for S n e kind ms) (filter (lacks (devices_of tasks)) ds)
seizings_added S n e kind ms [] tasks apart = sym (append-nil tasks)
seizings_added S n e kind ms (d ∷ ds) tasks apart =
    by_test (told.has_task d tasks) (sym (task_among d tasks)) (seizings_added S n e kind ms ds tasks apart.1)
    (seizings_added S n e kind ms ds (tasks ++ task_for S n e kind ms d ∷ []) apart.1)
  where
    t : told.Task
    t = task_for S n e kind ms d

    devices_more : (us : List told.Task) → devices_of (us ++ t ∷ []) ≡ devices_of us ++ d ∷ []
    devices_more [] = refl
    devices_more (u ∷ us) = ap (λ zs. u.device ∷ zs) (devices_more us)

    same_lacks : (xs : List ℕ) → among d xs ≡ false → AllByRecursion (λ x. lacks (devices_of (tasks ++ t ∷ [])) x ≡ lacks (devices_of tasks) x) xs
    same_lacks [] none = tt
    same_lacks (x ∷ xs) none =
        let two : ((x == d) ≡ false) × (among d xs ≡ false) = neither (x == d) (among d xs) none in
        (ap not (ap (among x) (devices_more tasks) ∙ (list_any-append (λ z. z == x) (devices_of tasks) (d ∷ []) ∙ off (among x (devices_of tasks)) (d == x) (swapped x two.0))), same_lacks xs two.1)
      where
        swapped : (y : ℕ) → (y == d) ≡ false → (d == y) ≡ false
        swapped y k = grind arith

        off : (a b : Bool) → b ≡ false → (a || (b || false)) ≡ a
        off true b k = refl
        off false true k = k
        off false false k = refl

    by_test : (b : Bool) → among d (devices_of tasks) ≡ b → told.with_seizings S n e kind ms ds tasks ≡ tasks ++ map (task_for S n e kind ms) (filter (lacks (devices_of tasks)) ds)
        → told.with_seizings S n e kind ms ds (tasks ++ t ∷ []) ≡ (tasks ++ t ∷ []) ++ map (task_for S n e kind ms) (filter (lacks (devices_of (tasks ++ t ∷ []))) ds)
        → told.with_seizings S n e kind ms ds (if b then tasks else tasks ++ t ∷ []) ≡ tasks ++ map (task_for S n e kind ms) (filter (lacks (devices_of tasks)) (d ∷ ds))
    by_test true is same added = same ∙ sym (ap (λ b. tasks ++ map (task_for S n e kind ms) (if not b then d ∷ filter (lacks (devices_of tasks)) ds else filter (lacks (devices_of tasks)) ds)) is)
    by_test false is same added =
        added
        ∙ (append_apart_tasks tasks t (map (task_for S n e kind ms) (filter (lacks (devices_of (tasks ++ t ∷ []))) ds))
        ∙ (ap (λ zs. tasks ++ t ∷ map (task_for S n e kind ms) zs) (same_picked (lacks (devices_of (tasks ++ t ∷ []))) (lacks (devices_of tasks)) ds (same_lacks ds apart.0))
        ∙ sym (ap (λ b. tasks ++ map (task_for S n e kind ms) (if not b then d ∷ filter (lacks (devices_of tasks)) ds else filter (lacks (devices_of tasks)) ds)) is)))

-- of these devices each is seized so
pub same_begun : (S : Setting) (n e : ℕ) (kind : SeizeKind) (r : NodeRecord) (ms : List Moment) (ds : List ℕ) → AllByRecursion (λ d. (if told.is_voting S r d then Vote else Plain) ≡ kind) ds
    → map (task_for S n e kind ms) ds ≡ map (begun_at S n e r ms) ds
same_begun S n e kind r ms [] k = refl
same_begun S n e kind r ms (d ∷ ds) k =
    ap (λ z. task_for S n e z ms d ∷ map (task_for S n e kind ms) ds) (sym k.0) ∙ ap (λ us. begun_at S n e r ms d ∷ us) (same_begun S n e kind r ms ds k.1)
