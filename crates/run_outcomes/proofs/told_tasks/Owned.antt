-- The tasks that `history` has a coordinator begin are those devices that the attempt asks it to seize and at which it has none yet, in order.
use Rattle.std.specs.Prelude.{ℕ, ◌≡◌, ◌==◌, ◌&&◌, ◌||◌, not, Bool, true, false, if◌then◌else◌, List, [], ◌∷◌, ◌++◌, filter, length, map, Some}
use Rattle.std.specs.List.{AllByRecursion}
use Rattle.std.proofs.Common.{refl, sym, ap, subst, ◌∙◌}
use Rattle.std.proofs.lemmas.List.Folds.{list_any-append}
use Rattle.cl_base.specs.Sets.{has}
use Rattle.cmm_attempt.proofs.Basics.{and_cases, false_true}
use Rattle.cmm_attempt.specs.Seizings.{all_settled}
use Rattle.cmm_attempt.specs.declared.counting.BothVotes.{BothVotes}
use Rattle.cmm_attempt.specs.declared.plan.Plan.{Plan}
use Rattle.cmm_attempt.specs.declared.promised.Promised.{Promised}
use Rattle.cmm_attempt.specs.declared.seizing.Seizing.{Seizing}
use Rattle.attempt_laws.specs.Asking.{AreApart}
use Rattle.seize.specs.declared.kind.SeizeKind.TheVariants.{Plain, Vote}
use Rattle.history.specs.Moment.{Moment}
use Rattle.history.specs.Queue as told
use Rattle.history.specs.Records.{NodeRecord}
use Rattle.history.specs.Setting.{Setting, all_to, paths_of}
use Rattle.history.specs.Validated.{is_valid, validity}
use Rattle.run_outcomes.specs.tasks.Entries.{AreBoth, AreVotes}
use Rattle.run_outcomes.specs.tasks.OwnTasks.{IsShown, Shows, begun_at}
use Rattle.run_outcomes.proofs.told_tasks.Picked.{plain_picked, quorum_picked, quorum_settled, same_picked}
use Rattle.run_outcomes.proofs.told_tasks.Settled.{votes_settled}
use Rattle.run_outcomes.proofs.told_tasks.Added.{among, append_apart, append_tasks, both_picked, devices_of, fails_lacks, lacks, picked_apart, picked_pass, rest_picked, same_begun, seizings_added, task_for}

-- ---- the own seizings

-- the devices that have votes and are valid, and the others, as `history` picks them
abbrev pub quorum_test : Setting → ℕ → NodeRecord → List Moment → ℕ → Bool
quorum_test S n r ms d = told.is_voting S r d && has (paths_of S.header d) n && is_valid (validity S.header n d ms)

abbrev pub plain_test : Setting → ℕ → NodeRecord → ℕ → Bool
plain_test S n r d = not (told.is_voting S r d) && has (paths_of S.header d) n

abbrev pub quorum_list : Setting → ℕ → NodeRecord → List Moment → List ℕ
quorum_list S n r ms = filter (quorum_test S n r ms) (all_to (length S.header.devices))

abbrev pub plain_list : Setting → ℕ → NodeRecord → List ℕ
plain_list S n r = filter (plain_test S n r) (all_to (length S.header.devices))

pub each_so : (P Q : ℕ → Type 0) (xs : List ℕ) → ((x : ℕ) → P x → Q x) → AllByRecursion P xs → AllByRecursion Q xs
each_so P Q [] f k = tt
each_so P Q (x ∷ xs) f k = (f x k.0, each_so P Q xs f k.1)

pub each_picked : (P : ℕ → Type 0) (test : ℕ → Bool) (xs : List ℕ) → AllByRecursion P xs → AllByRecursion P (filter test xs)
each_picked P test [] k = tt
each_picked P test (x ∷ xs) k = by_test (test x) (each_picked P test xs k.1)
  where
    by_test : (b : Bool) → AllByRecursion P (filter test xs) → AllByRecursion P (if b then x ∷ filter test xs else filter test xs)
    by_test true rest = (k.0, rest)
    by_test false rest = rest

quorum_votes : (S : Setting) (n : ℕ) (r : NodeRecord) (ms : List Moment) (d : ℕ) → quorum_test S n r ms d ≡ true → told.is_voting S r d ≡ true
quorum_votes S n r ms d h = (and_cases (told.is_voting S r d) (has (paths_of S.header d) n) (and_cases (told.is_voting S r d && has (paths_of S.header d) n) (is_valid (validity S.header n d ms)) h).0).0

pub plain_votes : (S : Setting) (n : ℕ) (r : NodeRecord) (d : ℕ) → plain_test S n r d ≡ true → told.is_voting S r d ≡ false
plain_votes S n r d h = turned (told.is_voting S r d) (and_cases (not (told.is_voting S r d)) (has (paths_of S.header d) n) h).0
  where
    turned : (b : Bool) → not b ≡ true → b ≡ false
    turned true k = absurd (false_true k)
    turned false k = refl

plain_fails : (S : Setting) (n : ℕ) (r : NodeRecord) (ms : List Moment) (d : ℕ) → plain_test S n r d ≡ true → quorum_test S n r ms d ≡ false
plain_fails S n r ms d h = ap (λ b. b && has (paths_of S.header d) n && is_valid (validity S.header n d ms)) (plain_votes S n r d h)

pub lists_apart : (S : Setting) (n : ℕ) (r : NodeRecord) (ms : List Moment) → AreApart (all_to (length S.header.devices)) → AreApart (quorum_list S n r ms ++ plain_list S n r)
lists_apart S n r ms apart =
    append_apart (quorum_list S n r ms) (plain_list S n r) (picked_apart (quorum_test S n r ms) (all_to (length S.header.devices)) apart)
    (picked_apart (plain_test S n r) (all_to (length S.header.devices)) apart)
    (each_so (λ d. plain_test S n r d ≡ true) (λ d. among d (quorum_list S n r ms) ≡ false) (plain_list S n r)
    (λ d is. fails_lacks (quorum_test S n r ms) d (quorum_list S n r ms) (plain_fails S n r ms d is) (picked_pass (quorum_test S n r ms) (all_to (length S.header.devices))))
    (picked_pass (plain_test S n r) (all_to (length S.header.devices))))

-- the quorum devices
pub quorum_added : (S : Setting) (n e : ℕ) (r : NodeRecord) (ms : List Moment) (tasks : List told.Task) → AreApart (all_to (length S.header.devices))
    → told.own_quorum S n e r ms tasks ≡ tasks ++ map (begun_at S n e r ms) (filter (lacks (devices_of tasks)) (quorum_list S n r ms))
quorum_added S n e r ms tasks apart =
    seizings_added S n e Vote ms (quorum_list S n r ms) tasks (picked_apart (quorum_test S n r ms) (all_to (length S.header.devices)) apart)
    ∙ ap (λ us. tasks ++ us)
    (same_begun S n e Vote r ms (filter (lacks (devices_of tasks)) (quorum_list S n r ms))
    (each_picked (λ d. (if told.is_voting S r d then Vote else Plain) ≡ Vote) (lacks (devices_of tasks)) (quorum_list S n r ms)
    (each_so (λ d. quorum_test S n r ms d ≡ true) (λ d. (if told.is_voting S r d then Vote else Plain) ≡ Vote) (quorum_list S n r ms)
    (λ d is. ap (λ b. if b then Vote else Plain) (quorum_votes S n r ms d is)) (picked_pass (quorum_test S n r ms) (all_to (length S.header.devices))))))

pub devices_begun : (S : Setting) (n e : ℕ) (r : NodeRecord) (ms : List Moment) (tasks : List told.Task) (ds : List ℕ) → devices_of (tasks ++ map (begun_at S n e r ms) ds) ≡ devices_of tasks ++ ds
devices_begun S n e r ms [] [] = refl
devices_begun S n e r ms [] (d ∷ ds) = ap (λ zs. d ∷ zs) (devices_begun S n e r ms [] ds)
devices_begun S n e r ms (t ∷ tasks) ds = ap (λ zs. t.device ∷ zs) (devices_begun S n e r ms tasks ds)

-- those of other devices, behind these
pub plains_added : (S : Setting) (n e : ℕ) (r : NodeRecord) (ms : List Moment) (tasks : List told.Task) → AreApart (all_to (length S.header.devices))
    → told.with_seizings S n e Plain ms (plain_list S n r) (told.own_quorum S n e r ms tasks)
    ≡ tasks ++ map (begun_at S n e r ms) (filter (lacks (devices_of tasks)) (quorum_list S n r ms ++ plain_list S n r))
plains_added S n e r ms tasks apart =
    ap (told.with_seizings S n e Plain ms (plain_list S n r)) (quorum_added S n e r ms tasks apart)
    ∙ (seizings_added S n e Plain ms (plain_list S n r) (tasks ++ map (begun_at S n e r ms) Q) (picked_apart (plain_test S n r) (all_to (length S.header.devices)) apart)
    ∙ (ap (λ us. (tasks ++ map (begun_at S n e r ms) Q) ++ map (task_for S n e Plain ms) us)
    (same_picked (lacks (devices_of (tasks ++ map (begun_at S n e r ms) Q))) (lacks (devices_of tasks)) (plain_list S n r) (same_lacks (plain_list S n r) (picked_pass (plain_test S n r) (all_to (length S.header.devices)))))
    ∙ (append_tasks tasks (map (begun_at S n e r ms) Q) (map (task_for S n e Plain ms) R)
    ∙ ap (λ us. tasks ++ us)
    (ap (λ us. map (begun_at S n e r ms) Q ++ us)
    (same_begun S n e Plain r ms R
    (each_picked (λ d. (if told.is_voting S r d then Vote else Plain) ≡ Plain) (lacks (devices_of tasks)) (plain_list S n r)
    (each_so (λ d. plain_test S n r d ≡ true) (λ d. (if told.is_voting S r d then Vote else Plain) ≡ Plain) (plain_list S n r)
    (λ d is. ap (λ b. if b then Vote else Plain) (plain_votes S n r d is)) (picked_pass (plain_test S n r) (all_to (length S.header.devices))))))
    ∙ (sym (map_both Q R) ∙ ap (map (begun_at S n e r ms)) (sym (both_picked (lacks (devices_of tasks)) (quorum_list S n r ms) (plain_list S n r))))))))
  where
    Q : List ℕ
    Q = filter (lacks (devices_of tasks)) (quorum_list S n r ms)

    R : List ℕ
    R = filter (lacks (devices_of tasks)) (plain_list S n r)

    map_both : (xs ys : List ℕ) → map (begun_at S n e r ms) (xs ++ ys) ≡ map (begun_at S n e r ms) xs ++ map (begun_at S n e r ms) ys
    map_both [] ys = refl
    map_both (x ∷ xs) ys = ap (λ zs. begun_at S n e r ms x ∷ zs) (map_both xs ys)

    off : (a b : Bool) → b ≡ false → (a || b) ≡ a
    off true b k = refl
    off false b k = k

    same_lacks : (xs : List ℕ) → AllByRecursion (λ d. plain_test S n r d ≡ true) xs
        → AllByRecursion (λ d. lacks (devices_of (tasks ++ map (begun_at S n e r ms) Q)) d ≡ lacks (devices_of tasks) d) xs
    same_lacks [] k = tt
    same_lacks (d ∷ xs) k = (
      ap not (ap (among d) (devices_begun S n e r ms tasks Q) ∙ (list_any-append (λ z. z == d) (devices_of tasks) Q
          ∙ off (among d (devices_of tasks)) (among d Q)
          (fails_lacks (quorum_test S n r ms) d Q (plain_fails S n r ms d k.0)
          (each_picked (λ x. quorum_test S n r ms x ≡ true) (lacks (devices_of tasks)) (quorum_list S n r ms) (picked_pass (quorum_test S n r ms) (all_to (length S.header.devices))))))),
      same_lacks xs k.1,
    )

-- ---- with the entries of the attempt

-- the devices that it asks the coordinator to seize
abbrev pub own_devices : Plan → List Seizing → List ℕ
own_devices plan es = map (λ (e : Seizing). e.attached.device) (filter (λ (e : Seizing). has e.asked plan.coordinator) es)

pub own_both : (plan : Plan) (vs ps : List Seizing) → own_devices plan (vs ++ ps) ≡ own_devices plan vs ++ own_devices plan ps
own_both plan [] ps = refl
own_both plan (v ∷ vs) ps = by_test (has v.asked plan.coordinator) (own_both plan vs ps)
  where
    dev : List Seizing → List ℕ
    dev es = map (λ (e : Seizing). e.attached.device) es

    asks : Seizing → Bool
    asks e = has e.asked plan.coordinator

    by_test : (b : Bool) → dev (filter asks (vs ++ ps)) ≡ dev (filter asks vs) ++ dev (filter asks ps)
        → dev (if b then v ∷ filter asks (vs ++ ps) else filter asks (vs ++ ps)) ≡ dev (if b then v ∷ filter asks vs else filter asks vs) ++ dev (filter asks ps)
    by_test true k = ap (λ zs. v.attached.device ∷ zs) k
    by_test false k = k

pub devices_apart : (S : Setting) (plan : Plan) (promises : List Promised) (both : BothVotes) (r : NodeRecord) (ms : List Moment) → Shows S plan promises both r ms
    → AreApart (all_to (length S.header.devices))
devices_apart S plan promises both r ms z = subst AreApart z.devices z.led.apart

-- While quorum devices are seized it has these; their seizings are not over.
pub votes_added : (S : Setting) (plan : Plan) (promises : List Promised) (both : BothVotes) (r : NodeRecord) (ms : List Moment) (z : Shows S plan promises both r ms) (vs : List Seizing)
    (tasks : List told.Task) (more : List ℕ) → AreVotes plan promises (Some both) vs → all_settled vs ≡ false → devices_of tasks ++ more ≡ own_devices plan vs
    → AllByRecursion (IsShown plan promises z.led (told.own_quorum S plan.coordinator plan.epoch r ms tasks) ms) vs
    → told.own_tasks S plan.coordinator plan.epoch (Some r) ms tasks ≡ tasks ++ map (begun_at S plan.coordinator plan.epoch r ms) more
votes_added S plan promises both r ms z vs tasks more h lacking devices shown =
    ap (λ b. if b then told.with_seizings S c e Plain ms (plain_list S c r) T else T) over
    ∙ (quorum_added S c e r ms tasks apart
    ∙ ap (λ ds. tasks ++ map (begun_at S c e r ms) ds)
    (ap (filter (lacks (devices_of tasks))) picked ∙ rest_picked (devices_of tasks) more (subst AreApart picked (picked_apart (quorum_test S c r ms) (all_to (length S.header.devices)) apart))))
  where
    c : ℕ
    c = plan.coordinator

    e : ℕ
    e = plan.epoch

    T : List told.Task
    T = told.own_quorum S c e r ms tasks

    apart : AreApart (all_to (length S.header.devices))
    apart = devices_apart S plan promises both r ms z

    picked : quorum_list S c r ms ≡ devices_of tasks ++ more
    picked = quorum_picked S plan promises both r ms vs z h ∙ sym devices

    over : told.quorum_is_over S e r T ms ≡ false
    over = quorum_settled S plan promises both r ms T vs z h (votes_settled S plan promises both r ms T vs z h shown) ∙ lacking

-- With the others behind them it has all; the seizings of quorum devices are over.
pub both_added : (S : Setting) (plan : Plan) (promises : List Promised) (both : BothVotes) (r : NodeRecord) (ms : List Moment) (z : Shows S plan promises both r ms) (es : List Seizing)
    (tasks : List told.Task) (more : List ℕ) → (h : AreBoth plan promises (Some both) es) → devices_of tasks ++ more ≡ own_devices plan es
    → AllByRecursion (IsShown plan promises z.led (told.own_quorum S plan.coordinator plan.epoch r ms tasks) ms) h.votes
    → told.own_tasks S plan.coordinator plan.epoch (Some r) ms tasks ≡ tasks ++ map (begun_at S plan.coordinator plan.epoch r ms) more
both_added S plan promises both r ms z es tasks more h devices shown =
    ap (λ b. if b then told.with_seizings S c e Plain ms (plain_list S c r) T else T) over
    ∙ (plains_added S c e r ms tasks apart
    ∙ ap (λ ds. tasks ++ map (begun_at S c e r ms) ds)
    (ap (filter (lacks (devices_of tasks))) picked ∙ rest_picked (devices_of tasks) more (subst AreApart picked (lists_apart S c r ms apart))))
  where
    c : ℕ
    c = plan.coordinator

    e : ℕ
    e = plan.epoch

    T : List told.Task
    T = told.own_quorum S c e r ms tasks

    apart : AreApart (all_to (length S.header.devices))
    apart = devices_apart S plan promises both r ms z

    picked : quorum_list S c r ms ++ plain_list S c r ≡ devices_of tasks ++ more
    picked =
        ap (λ ds. ds ++ plain_list S c r) (quorum_picked S plan promises both r ms h.votes z h.first)
        ∙ (ap (λ ds. own_devices plan h.votes ++ ds) (plain_picked S plan promises both r ms h.votes h.others z h.first h.devices h.each)
        ∙ (sym (own_both plan h.votes h.others) ∙ (ap (own_devices plan) (sym h.parts) ∙ sym devices)))

    over : told.quorum_is_over S e r T ms ≡ true
    over = quorum_settled S plan promises both r ms T h.votes z h.first (votes_settled S plan promises both r ms T h.votes z h.first shown) ∙ h.settled
