-- Where a coordinator has a task for each device that its attempt asks it to seize, and none is left, `history` has it begin no other.
use Rattle.std.specs.Prelude.{ℕ, ◌≡◌, ◌==◌, ◌&&◌, ◌||◌, not, Bool, true, false, List, [], ◌∷◌, ◌++◌, filter, length, map, Some, if◌then◌else◌}
use Rattle.std.specs.List.{AllByRecursion, filter_map}
use Rattle.std.proofs.Common.{refl, sym, ap, ◌∙◌, arith, append-nil}
use Rattle.std.proofs.lemmas.List.Folds.{list_any-append}
use Rattle.attempt_laws.specs.Asking.{AreApart}
use Rattle.cl_base.specs.Seizings.{SeizeResult}
use Rattle.cl_base.specs.Sets.{has}
use Rattle.cmm_attempt.proofs.Basics.{and_cases, false_true, if_either}
use Rattle.cmm_attempt.specs.Attempts.{AttemptState}
use Rattle.cmm_attempt.specs.Plans.{is_reachable}
use Rattle.cmm_attempt.specs.Seizings.{is_seized, plain_new, with_result}
use Rattle.cmm_attempt.specs.declared.attached.AttachedDevice.{AttachedDevice}
use Rattle.cmm_attempt.specs.declared.counting.BothVotes.{BothVotes}
use Rattle.cmm_attempt.specs.declared.plan.Plan.{Plan}
use Rattle.cmm_attempt.specs.declared.promised.Promised.{Promised}
use Rattle.cmm_attempt.specs.declared.seizing.Seizing.{Seizing}
use Rattle.history.specs.Moment.{Moment}
use Rattle.history.specs.Queue as told
use Rattle.history.specs.Records.{NodeRecord}
use Rattle.history.specs.Setting.{Setting, all_to, paths_of}
use Rattle.history.specs.Validated.{is_valid, validity}
use Rattle.seize.specs.declared.kind.SeizeKind.TheVariants.{Plain}
use Rattle.run_outcomes.specs.tasks.Entries.{AreBoth, AreVotes, LedBy, PlainSo, devices_in, is_left}
use Rattle.run_outcomes.specs.tasks.OwnTasks.{Shows, begun_at}
use Rattle.run_outcomes.proofs.told_tasks.Added.{among, devices_of, lacks, picked_apart, seizings_added, task_for}
use Rattle.run_outcomes.proofs.told_tasks.Entries.{plains_first}
use Rattle.run_outcomes.proofs.told_tasks.Owned.{devices_apart, own_both, own_devices, plain_list, plain_test, quorum_added, quorum_list, quorum_test}
use Rattle.run_outcomes.proofs.told_tasks.Picked.{plain_picked, quorum_picked, same_picked}

-- ---- lists of devices

itself : (n : ℕ) (b : Bool) → ((n == n) || b) ≡ true
itself n b = grind arith

or_more : (a b : Bool) → b ≡ true → (a || b) ≡ true
or_more true b h = refl
or_more false b h = h

or_first : (a b : Bool) → a ≡ true → (a || b) ≡ true
or_first true b h = refl
or_first false b h = absurd (false_true h)

all_among : (xs ys : List ℕ) → ((d : ℕ) → among d xs ≡ true → among d ys ≡ true) → AllByRecursion (λ d. among d ys ≡ true) xs
all_among [] ys f = tt
all_among (x ∷ xs) ys f = (f x (itself x (among x xs)), all_among xs ys (λ d is. f d (or_more (x == d) (among d xs) is)))

-- those that pass a test are among these, and so are those that pass one that is stricter
none_lacking : (P Q : ℕ → Bool) (ys xs : List ℕ) → ((d : ℕ) → Q d ≡ true → P d ≡ true) → AllByRecursion (λ d. among d ys ≡ true) (filter P xs) → filter (lacks ys) (filter Q xs) ≡ []
none_lacking P Q ys [] f all = refl
none_lacking P Q ys (x ∷ xs) f all = by_test (P x) (Q x) refl refl all (λ k. none_lacking P Q ys xs f k)
  where
    by_test : (p q : Bool) → P x ≡ p → Q x ≡ q → AllByRecursion (λ d. among d ys ≡ true) (if p then x ∷ filter P xs else filter P xs)
        → (AllByRecursion (λ d. among d ys ≡ true) (filter P xs) → filter (lacks ys) (filter Q xs) ≡ []) → filter (lacks ys) (if q then x ∷ filter Q xs else filter Q xs) ≡ []
    by_test true true passes is k rest = ap (λ b. if not b then x ∷ filter (lacks ys) (filter Q xs) else filter (lacks ys) (filter Q xs)) k.0 ∙ rest k.1
    by_test true false passes is k rest = rest k.1
    by_test false true passes is k rest = absurd (false_true (sym passes ∙ f x is))
    by_test false false passes is k rest = rest k

-- ---- no device is left

-- the entries of the quorum devices, and those of all others that a member reaches
pub record AllAsked (plan : Plan) (promises : List Promised) (both : BothVotes) (es : List Seizing) : Type 0 where
  pub votes : List Seizing
  pub others : List Seizing
  pub parts : es ≡ votes ++ others
  pub first : AreVotes plan promises (Some both) votes
  pub devices : devices_in others ≡ filter (is_left plan votes) plan.attached
  pub each : AllByRecursion (PlainSo plan) others

pub both_asked : (plan : Plan) (promises : List Promised) (both : BothVotes) (es : List Seizing) → AreBoth plan promises (Some both) es → AllAsked plan promises both es
both_asked plan promises both es h = record { votes = h.votes; others = h.others; parts = h.parts; first = h.first; devices = h.devices; each = h.each }

answered_device : (d : ℕ) (r : SeizeResult) (e : Seizing) → (with_result d r e).attached.device ≡ e.attached.device
answered_device d r e = if_either (λ (x : Seizing). x.attached.device ≡ e.attached.device) _ (record e { result = Some r }) e refl refl

answered_seized : (d : ℕ) (r : SeizeResult) (es : List Seizing) (k : ℕ) → is_seized (map (with_result d r) es) k ≡ is_seized es k
answered_seized d r [] k = refl
answered_seized d r (e ∷ es) k = ap (λ j. (j == k) || is_seized (map (with_result d r) es) k) (answered_device d r e) ∙ ap (λ b. (e.attached.device == k) || b) (answered_seized d r es k)

nothing_in : (es : List Seizing) → length es ≡ 0 → es ≡ []
nothing_in [] is = refl
nothing_in (e ∷ es) is = absurd (cc)

same_left : (d : ℕ) (r : SeizeResult) (plan : Plan) (es : List Seizing) (xs : List AttachedDevice) → AllByRecursion (λ (x : AttachedDevice). is_left plan es x ≡ is_left plan (map (with_result d r) es) x) xs
same_left d r plan es [] = tt
same_left d r plan es (x ∷ xs) = (ap (λ b. not b && is_reachable plan x) (sym (answered_seized d r es x.device)), same_left d r plan es xs)

-- where all have votes
pub votes_asked : (d : ℕ) (r : SeizeResult) (a : AttemptState) (both : BothVotes) → LedBy a.plan → AreVotes a.plan a.promises (Some both) a.devices
    → length (filter_map (plain_new a.plan (map (with_result d r) a.devices)) a.plan.attached) ≡ 0 → AllAsked a.plan a.promises both a.devices
votes_asked d r a both led h left = record { votes = a.devices; others = []; parts = sym (append-nil a.devices); first = h; devices = sym none; each = tt }
  where
    es : List Seizing
    es = map (with_result d r) a.devices

    none : filter (is_left a.plan a.devices) a.plan.attached ≡ []
    none =
        same_picked (is_left a.plan a.devices) (is_left a.plan es) a.plan.attached (same_left d r a.plan a.devices a.plan.attached)
        ∙ (sym (plains_first a es led a.plan.attached).0 ∙ ap devices_in (nothing_in (filter_map (plain_new a.plan es) a.plan.attached) left))

-- ---- nothing is begun

-- these moments show no other device as valid to the coordinator
abbrev pub NoneMore : Setting → ℕ → List Moment → List Moment → Type 0
NoneMore S n before after = (d : ℕ) → is_valid (validity S.header n d after) ≡ true → is_valid (validity S.header n d before) ≡ true

pub none_begun : (S : Setting) (plan : Plan) (promises : List Promised) (both : BothVotes) (r : NodeRecord) (ms after : List Moment) (es : List Seizing) (us : List told.Task)
    → Shows S plan promises both r ms → AllAsked plan promises both es → devices_of us ≡ own_devices plan es → NoneMore S plan.coordinator ms after
    → told.own_tasks S plan.coordinator plan.epoch (Some r) after us ≡ us
none_begun S plan promises both r ms after es us z h has_all valid =
    ap (told.own_data S c e r after) quorum ∙ if_either (λ ts. ts ≡ us) (told.quorum_is_over S e r us after) (told.with_seizings S c e Plain after (plain_list S c r) us) us plain refl
  where
    c : ℕ
    c = plan.coordinator

    e : ℕ
    e = plan.epoch

    ds : List ℕ
    ds = devices_of us

    apart : AreApart (all_to (length S.header.devices))
    apart = devices_apart S plan promises both r ms z

    parts : ds ≡ quorum_list S c r ms ++ plain_list S c r
    parts =
        has_all
        ∙ (ap (own_devices plan) h.parts
        ∙ (own_both plan h.votes h.others
        ∙ (ap (λ xs. xs ++ own_devices plan h.others) (sym (quorum_picked S plan promises both r ms h.votes z h.first))
        ∙ ap (λ xs. quorum_list S c r ms ++ xs) (sym (plain_picked S plan promises both r ms h.votes h.others z h.first h.devices h.each)))))

    in_first : (d : ℕ) → among d (quorum_list S c r ms) ≡ true → among d ds ≡ true
    in_first d is = ap (among d) parts ∙ (list_any-append (λ x. x == d) (quorum_list S c r ms) (plain_list S c r) ∙ or_first (among d (quorum_list S c r ms)) (among d (plain_list S c r)) is)

    in_last : (d : ℕ) → among d (plain_list S c r) ≡ true → among d ds ≡ true
    in_last d is = ap (among d) parts ∙ (list_any-append (λ x. x == d) (quorum_list S c r ms) (plain_list S c r) ∙ or_more (among d (quorum_list S c r ms)) (among d (plain_list S c r)) is)

    -- a device that passes the test after it passes it before
    stricter : (d : ℕ) → quorum_test S c r after d ≡ true → quorum_test S c r ms d ≡ true
    stricter d is =
        let two : ((told.is_voting S r d && has (paths_of S.header d) c) ≡ true) × (is_valid (validity S.header c d after) ≡ true) =
        and_cases (told.is_voting S r d && has (paths_of S.header d) c) (is_valid (validity S.header c d after)) is in
        both_so (told.is_voting S r d && has (paths_of S.header d) c) (is_valid (validity S.header c d ms)) two.0 (valid d two.1)
      where
        both_so : (p q : Bool) → p ≡ true → q ≡ true → (p && q) ≡ true
        both_so true q i k = k
        both_so false q i k = absurd (false_true i)

    nothing : (xs : List told.Task) → xs ≡ [] → us ++ xs ≡ us
    nothing xs is = ap (λ ys. us ++ ys) is ∙ append-nil us

    quorum : told.own_quorum S c e r after us ≡ us
    quorum =
        quorum_added S c e r after us apart
        ∙ nothing (map (begun_at S c e r after) (filter (lacks ds) (quorum_list S c r after)))
        (ap (map (begun_at S c e r after))
        (none_lacking (quorum_test S c r ms) (quorum_test S c r after) ds (all_to (length S.header.devices)) stricter (all_among (quorum_list S c r ms) ds in_first)))

    plain : told.with_seizings S c e Plain after (plain_list S c r) us ≡ us
    plain =
        seizings_added S c e Plain after (plain_list S c r) us (picked_apart (plain_test S c r) (all_to (length S.header.devices)) apart)
        ∙ nothing (map (task_for S c e Plain after) (filter (lacks ds) (plain_list S c r)))
        (ap (map (task_for S c e Plain after)) (none_lacking (plain_test S c r) (plain_test S c r) ds (all_to (length S.header.devices)) (λ d is. is) (all_among (plain_list S c r) ds in_last)))
