-- What a coordinator has begun for its attempt is what `history` has, while it seizes.
use Rattle.std.specs.Prelude.{ℕ, ◌≡◌, true, false, List, [], ◌∷◌, ◌++◌, filter, length, map, Some}
use Rattle.std.specs.List.{AllByRecursion}
use Rattle.std.proofs.Common.{refl, sym, ap, subst, ◌∙◌, append-nil}
use Rattle.cl_base.specs.Sets.{has}
use Rattle.cmm_attempt.specs.Seizings.{all_settled}
use Rattle.cmm_attempt.specs.declared.counting.BothVotes.{BothVotes}
use Rattle.cmm_attempt.specs.declared.plan.Plan.{Plan}
use Rattle.cmm_attempt.specs.declared.promised.Promised.{Promised}
use Rattle.cmm_attempt.specs.declared.seizing.Seizing.{Seizing}
use Rattle.device_queue.specs.declared.task.Task.{Task}
use Rattle.history.specs.Moment.{Moment}
use Rattle.history.specs.Queue as told
use Rattle.history.specs.Records.{NodeRecord}
use Rattle.history.specs.Setting.{Setting, all_to}
use Rattle.run_devices.specs.queues.Laws.{Same, SameTask}
use Rattle.run_outcomes.specs.tasks.Entries.{AreBoth, AreVotes, LedBy, VoteSo}
use Rattle.run_outcomes.specs.tasks.Laws.{own_result}
use Rattle.run_outcomes.specs.tasks.OwnTasks.{IsShown, Shows, begun_at}
use Rattle.attempt_laws.specs.Asking.{AreApart}
use Rattle.run_outcomes.proofs.told_tasks.Added.{append_tasks, both_picked, devices_of, lacks, picked_apart, picked_pass, rest_picked}
use Rattle.run_outcomes.proofs.told_tasks.Owned.{both_added, devices_apart, each_so, lists_apart, own_both, own_devices, plain_list, plain_test, plain_votes, quorum_added, quorum_list, quorum_test, votes_added}
use Rattle.run_outcomes.proofs.told_tasks.Picked.{plain_picked, quorum_picked}
use Rattle.run_outcomes.proofs.told_tasks.Turned.{IsTurned, first_result, same_result, shown_of}
use Rattle.run_outcomes.proofs.told_tasks.Tasked.{votes_tasks}

-- ---- the tasks of both

abbrev pub devices : List Task → List ℕ
devices ts = map (λ (t : Task). t.device) ts

pub same_devices : (ts : List Task) (us : List told.Task) → Same ts us → devices ts ≡ devices_of us
same_devices [] [] k = refl
same_devices (t ∷ ts) (u ∷ us) k = ap (λ d. d ∷ devices ts) k.0.0 ∙ ap (λ ds. u.device ∷ ds) (same_devices ts us k.1)
same_devices [] (u ∷ us) k = absurd k
same_devices (t ∷ ts) [] k = absurd k

-- these are begun, as `history` begins them
abbrev pub AreBegun : Setting → ℕ → ℕ → NodeRecord → List Moment → List Task → Type 0
AreBegun S n e r ms new = AllByRecursion (λ (t : Task). SameTask t (begun_at S n e r ms t.device)) new

pub same_more : (S : Setting) (n e : ℕ) (r : NodeRecord) (ms : List Moment) (old new : List Task) (us : List told.Task) → Same old us → AreBegun S n e r ms new
    → Same (old ++ new) (us ++ map (begun_at S n e r ms) (devices new))
same_more S n e r ms [] [] [] k begun = tt
same_more S n e r ms [] (t ∷ new) [] k begun = (begun.0, same_more S n e r ms [] new [] tt begun.1)
same_more S n e r ms (t ∷ old) new (u ∷ us) k begun = (k.0, same_more S n e r ms old new us k.1 begun)
same_more S n e r ms [] new (u ∷ us) k begun = absurd k
same_more S n e r ms (t ∷ old) new [] k begun = absurd k

devices_both : (xs ys : List Task) → devices (xs ++ ys) ≡ devices xs ++ devices ys
devices_both [] ys = refl
devices_both (x ∷ xs) ys = ap (λ ds. x.device ∷ ds) (devices_both xs ys)

begun_both : (S : Setting) (n e : ℕ) (r : NodeRecord) (ms : List Moment) (xs ys : List ℕ) → map (begun_at S n e r ms) (xs ++ ys) ≡ map (begun_at S n e r ms) xs ++ map (begun_at S n e r ms) ys
begun_both S n e r ms [] ys = refl
begun_both S n e r ms (x ∷ xs) ys = ap (λ zs. begun_at S n e r ms x ∷ zs) (begun_both S n e r ms xs ys)

-- ---- each entry is shown

all_shown : (plan : Plan) (promises : List Promised) (l : LedBy plan) (tasks : List Task) (quorum : List told.Task) (ms : List Moment) (vs : List Seizing) → AllByRecursion (VoteSo plan promises) vs
    → AllByRecursion (λ (e : Seizing). told.has_task e.attached.device quorum ≡ has e.asked plan.coordinator) vs
    → ((d : ℕ) → told.has_task d quorum ≡ true → told.result_of d quorum ≡ own_result d tasks) → AllByRecursion (IsTurned plan promises l tasks ms) vs
    → AllByRecursion (IsShown plan promises l quorum ms) vs
all_shown plan promises l tasks quorum ms [] so task result k = tt
all_shown plan promises l tasks quorum ms (e ∷ vs) so task result k = (
  shown_of plan promises l tasks quorum ms e so.0 task.0 (λ asks. result e.attached.device (task.0 ∙ asks)) k.0,
  all_shown plan promises l tasks quorum ms vs so.1 task.1 result k.1,
)

-- ---- while quorum devices are seized

pub votes_same : (S : Setting) (plan : Plan) (promises : List Promised) (both : BothVotes) (r : NodeRecord) (ms : List Moment) (z : Shows S plan promises both r ms) (vs : List Seizing)
    (old new : List Task) (us : List told.Task) → AreVotes plan promises (Some both) vs → all_settled vs ≡ false → Same old us → AreBegun S plan.coordinator plan.epoch r ms new
    → devices (old ++ new) ≡ own_devices plan vs → AllByRecursion (IsTurned plan promises z.led (old ++ new) ms) vs
    → Same (old ++ new) (told.own_tasks S plan.coordinator plan.epoch (Some r) ms us)
votes_same S plan promises both r ms z vs old new us h lacking same begun own turned =
    subst (Same (old ++ new)) (sym (votes_added S plan promises both r ms z vs us (devices new) h lacking now shown)) all
  where
    c : ℕ
    c = plan.coordinator

    e : ℕ
    e = plan.epoch

    T : List told.Task
    T = told.own_quorum S c e r ms us

    all : Same (old ++ new) (us ++ map (begun_at S c e r ms) (devices new))
    all = same_more S c e r ms old new us same begun

    now : devices_of us ++ devices new ≡ own_devices plan vs
    now = ap (λ ds. ds ++ devices new) (sym (same_devices old us same)) ∙ (sym (devices_both old new) ∙ own)

    picked : quorum_list S c r ms ≡ devices_of us ++ devices new
    picked = quorum_picked S plan promises both r ms vs z h ∙ sym now

    whole : T ≡ us ++ map (begun_at S c e r ms) (devices new)
    whole =
        quorum_added S c e r ms us (devices_apart S plan promises both r ms z)
        ∙ ap (λ ds. us ++ map (begun_at S c e r ms) ds)
        (ap (filter (lacks (devices_of us))) picked
        ∙ rest_picked (devices_of us) (devices new) (subst AreApart picked (picked_apart (quorum_test S c r ms) (all_to (length S.header.devices)) (devices_apart S plan promises both r ms z))))

    shown : AllByRecursion (IsShown plan promises z.led T ms) vs
    shown =
        all_shown plan promises z.led (old ++ new) T ms vs h.each
        (votes_tasks S plan promises both r ms z vs us (devices new) [] h (now ∙ sym (append-nil (own_devices plan vs))) tt)
        (λ d here. sym (same_result d (old ++ new) T (subst (Same (old ++ new)) (sym whole) all))) turned

-- ---- with the others behind them

pub both_same : (S : Setting) (plan : Plan) (promises : List Promised) (both : BothVotes) (r : NodeRecord) (ms : List Moment) (z : Shows S plan promises both r ms) (es : List Seizing)
    (old new : List Task) (us : List told.Task) → (h : AreBoth plan promises (Some both) es) → Same old us → AreBegun S plan.coordinator plan.epoch r ms new
    → devices (old ++ new) ≡ own_devices plan es → AllByRecursion (IsTurned plan promises z.led (old ++ new) ms) h.votes
    → Same (old ++ new) (told.own_tasks S plan.coordinator plan.epoch (Some r) ms us)
both_same S plan promises both r ms z es old new us h same begun own turned =
    subst (Same (old ++ new)) (sym (both_added S plan promises both r ms z es us (devices new) h now shown)) all
  where
    c : ℕ
    c = plan.coordinator

    e : ℕ
    e = plan.epoch

    T : List told.Task
    T = told.own_quorum S c e r ms us

    all : Same (old ++ new) (us ++ map (begun_at S c e r ms) (devices new))
    all = same_more S c e r ms old new us same begun

    now : devices_of us ++ devices new ≡ own_devices plan es
    now = ap (λ ds. ds ++ devices new) (sym (same_devices old us same)) ∙ (sym (devices_both old new) ∙ own)

    parts : devices_of us ++ devices new ≡ own_devices plan h.votes ++ own_devices plan h.others
    parts = now ∙ (ap (own_devices plan) h.parts ∙ own_both plan h.votes h.others)

    apart : AreApart (all_to (length S.header.devices))
    apart = devices_apart S plan promises both r ms z

    Q : List ℕ
    Q = quorum_list S c r ms

    R : List ℕ
    R = plain_list S c r

    lists : Q ++ R ≡ devices_of us ++ devices new
    lists =
        ap (λ ds. ds ++ R) (quorum_picked S plan promises both r ms h.votes z h.first)
        ∙ (ap (λ ds. own_devices plan h.votes ++ ds) (plain_picked S plan promises both r ms h.votes h.others z h.first h.devices h.each) ∙ sym parts)

    rest : List ℕ
    rest = filter (lacks (devices_of us)) R

    -- what is begun is these and the plain ones
    whole : us ++ map (begun_at S c e r ms) (devices new) ≡ T ++ map (begun_at S c e r ms) rest
    whole =
        ap (λ ds. us ++ map (begun_at S c e r ms) ds)
        (sym (rest_picked (devices_of us) (devices new) (subst AreApart lists (lists_apart S c r ms apart)))
        ∙ (ap (filter (lacks (devices_of us))) (sym lists) ∙ both_picked (lacks (devices_of us)) Q R))
        ∙ (ap (λ zs. us ++ zs) (begun_both S c e r ms (filter (lacks (devices_of us)) Q) rest)
        ∙ (sym (append_tasks us (map (begun_at S c e r ms) (filter (lacks (devices_of us)) Q)) (map (begun_at S c e r ms) rest))
        ∙ ap (λ zs. zs ++ map (begun_at S c e r ms) rest) (sym (quorum_added S c e r ms us apart))))

    plain : AllByRecursion (λ d. told.is_voting S r d ≡ false) (own_devices plan h.others)
    plain =
        subst (AllByRecursion (λ d. told.is_voting S r d ≡ false)) (plain_picked S plan promises both r ms h.votes h.others z h.first h.devices h.each)
        (each_so (λ d. plain_test S c r d ≡ true) (λ d. told.is_voting S r d ≡ false) R (plain_votes S c r) (picked_pass (plain_test S c r) (all_to (length S.header.devices))))

    shown : AllByRecursion (IsShown plan promises z.led T ms) h.votes
    shown =
        all_shown plan promises z.led (old ++ new) T ms h.votes h.first.each
        (votes_tasks S plan promises both r ms z h.votes us (devices new) (own_devices plan h.others) h.first parts plain)
        (λ d here.
        sym (first_result d T (map (begun_at S c e r ms) rest) here)
        ∙ sym (same_result d (old ++ new) (T ++ map (begun_at S c e r ms) rest) (subst (Same (old ++ new)) whole all))) turned
