-- The devices that `history` has the coordinator seize are those that the attempt asks it to seize, and the seizings of quorum devices are over where all entries are settled.
use Rattle.std.specs.Prelude.{ℕ, ◌≡◌, ◌==◌, ◌&&◌, ◌||◌, not, Bool, true, false, if◌then◌else◌, List, [], ◌∷◌, filter, length, map, Option, Some, is_some}
use Rattle.std.specs.List.{AllByRecursion, list_all, list_any}
use Rattle.std.proofs.Common.{refl, sym, ap, ◌∙◌, arith}
use Rattle.cl_base.specs.Sets.{has}
use Rattle.cmm_attempt.proofs.Basics.{false_true}
use Rattle.cmm_attempt.specs.Counts.{is_quorum}
use Rattle.cmm_attempt.specs.Plans.{is_reachable}
use Rattle.cmm_attempt.specs.Promises.{holds_valid}
use Rattle.cmm_attempt.specs.Seizings.{all_settled, is_seized, may_seize}
use Rattle.cmm_attempt.specs.declared.attached.AttachedDevice.{AttachedDevice}
use Rattle.cmm_attempt.specs.declared.counting.BothVotes.{BothVotes}
use Rattle.cmm_attempt.specs.declared.plan.Plan.{Plan}
use Rattle.cmm_attempt.specs.declared.promised.Promised.{Promised}
use Rattle.cmm_attempt.specs.declared.seizing.Seizing.{Seizing}
use Rattle.attempt_laws.specs.Asking.{AreApart, numbers_of}
use Rattle.history.specs.Member.{members_of}
use Rattle.history.specs.Moment.{Moment}
use Rattle.history.specs.Queue as told
use Rattle.history.specs.Records.{NodeRecord}
use Rattle.history.specs.Setting.{Setting, all_to, nodes_of, paths_of}
use Rattle.history.specs.Validated.{is_valid, validity}
use Rattle.run_outcomes.specs.tasks.Entries.{AreVotes, LedBy, PlainSo, VoteSo, devices_in, has_votes, is_left}
use Rattle.run_outcomes.specs.tasks.OwnTasks.{PathsSo, Shows}

-- ---- lists

-- two tests that agree on each
pub same_picked : {X : Type 0} (P Q : X → Bool) (xs : List X) → AllByRecursion (λ x. P x ≡ Q x) xs → filter P xs ≡ filter Q xs
same_picked P Q [] k = refl
same_picked P Q (x ∷ xs) k = rw k.0 (ap (λ ys. if Q x then x ∷ ys else ys) (same_picked P Q xs k.1))

pub same_all : {X : Type 0} (P Q : X → Bool) (xs : List X) → AllByRecursion (λ x. P x ≡ Q x) xs → list_all P xs ≡ list_all Q xs
same_all P Q [] k = refl
same_all P Q (x ∷ xs) k = rw k.0 (ap (λ b. Q x && b) (same_all P Q xs k.1))

twice_picked : {X : Type 0} (P Q : X → Bool) (xs : List X) → filter Q (filter P xs) ≡ filter (λ x. P x && Q x) xs
twice_picked P Q [] = refl
twice_picked P Q (x ∷ xs) = by_test (P x) (twice_picked P Q xs)
  where
    by_test : (b : Bool) → filter Q (filter P xs) ≡ filter (λ y. P y && Q y) xs
        → filter Q (if b then x ∷ filter P xs else filter P xs) ≡ (if b && Q x then x ∷ filter (λ y. P y && Q y) xs else filter (λ y. P y && Q y) xs)
    by_test true k = ap (λ ys. if Q x then x ∷ ys else ys) k
    by_test false k = k

all_picked : {X : Type 0} (P Q : X → Bool) (xs : List X) → list_all (λ x. not (P x) || Q x) xs ≡ list_all Q (filter P xs)
all_picked P Q [] = refl
all_picked P Q (x ∷ xs) = by_test (P x) (all_picked P Q xs)
  where
    by_test : (b : Bool) → list_all (λ y. not (P y) || Q y) xs ≡ list_all Q (filter P xs)
        → ((not b || Q x) && list_all (λ y. not (P y) || Q y) xs) ≡ list_all Q (if b then x ∷ filter P xs else filter P xs)
    by_test true k = ap (λ b. Q x && b) k
    by_test false k = k

numbers_picked : (P : ℕ → Bool) (xs : List AttachedDevice) → filter P (numbers_of xs) ≡ numbers_of (filter (λ a. P a.device) xs)
numbers_picked P [] = refl
numbers_picked P (a ∷ xs) = by_test (P a.device) (numbers_picked P xs)
  where
    by_test : (b : Bool) → filter P (numbers_of xs) ≡ numbers_of (filter (λ x. P x.device) xs)
        → (if b then a.device ∷ filter P (numbers_of xs) else filter P (numbers_of xs)) ≡ numbers_of (if b then a ∷ filter (λ x. P x.device) xs else filter (λ x. P x.device) xs)
    by_test true k = ap (λ ys. a.device ∷ ys) k
    by_test false k = k

numbers_all : (P : ℕ → Bool) (xs : List AttachedDevice) → list_all P (numbers_of xs) ≡ list_all (λ a. P a.device) xs
numbers_all P [] = refl
numbers_all P (a ∷ xs) = ap (λ b. P a.device && b) (numbers_all P xs)

devices_picked : (P : AttachedDevice → Bool) (es : List Seizing) → filter P (devices_in es) ≡ devices_in (filter (λ e. P e.attached) es)
devices_picked P [] = refl
devices_picked P (e ∷ es) = by_test (P e.attached) (devices_picked P es)
  where
    by_test : (b : Bool) → filter P (devices_in es) ≡ devices_in (filter (λ x. P x.attached) es)
        → (if b then e.attached ∷ filter P (devices_in es) else filter P (devices_in es)) ≡ devices_in (if b then e ∷ filter (λ x. P x.attached) es else filter (λ x. P x.attached) es)
    by_test true k = ap (λ ys. e.attached ∷ ys) k
    by_test false k = k

devices_all : (P : AttachedDevice → Bool) (es : List Seizing) → list_all P (devices_in es) ≡ list_all (λ e. P e.attached) es
devices_all P [] = refl
devices_all P (e ∷ es) = ap (λ b. P e.attached && b) (devices_all P es)

pub numbers_in : (es : List Seizing) → numbers_of (devices_in es) ≡ map (λ (e : Seizing). e.attached.device) es
numbers_in [] = refl
numbers_in (e ∷ es) = ap (λ ys. e.attached.device ∷ ys) (numbers_in es)

-- ---- which devices are seized

seized_in : (d : ℕ) (es : List Seizing) → is_seized es d ≡ list_any (λ x. x == d) (numbers_of (devices_in es))
seized_in d [] = refl
seized_in d (e ∷ es) = ap (λ b. (e.attached.device == d) || b) (seized_in d es)

none_picked : (P : AttachedDevice → Bool) (d : ℕ) (xs : List AttachedDevice) → list_any (λ x. x == d) (numbers_of xs) ≡ false → list_any (λ x. x == d) (numbers_of (filter P xs)) ≡ false
none_picked P d [] none = refl
none_picked P d (a ∷ xs) none = by_test (P a) (none_picked P d xs (neither (a.device == d) (list_any (λ x. x == d) (numbers_of xs)) none).1)
  where
    neither : (p q : Bool) → (p || q) ≡ false → (p ≡ false) × (q ≡ false)
    neither true q k = absurd (false_true (sym k))
    neither false q k = (refl, k)

    by_test : (b : Bool) → list_any (λ x. x == d) (numbers_of (filter P xs)) ≡ false → list_any (λ x. x == d) (numbers_of (if b then a ∷ filter P xs else filter P xs)) ≡ false
    by_test true rest = rw ((neither (a.device == d) (list_any (λ x. x == d) (numbers_of xs)) none).0) rest
    by_test false rest = rest

-- a device is among those that are picked where it passes the test
picked_each : (P : AttachedDevice → Bool) (xs : List AttachedDevice) → AreApart (numbers_of xs)
    → AllByRecursion (λ (a : AttachedDevice). list_any (λ x. x == a.device) (numbers_of (filter P xs)) ≡ P a) xs
picked_each P [] apart = tt
picked_each P (a ∷ xs) apart = (head (P a) (none_picked P a.device xs apart.0), rest xs apart.0 (picked_each P xs apart.1))
  where
    itself : (n : ℕ) (b : Bool) → ((n == n) || b) ≡ true
    itself n b = grind arith

    swapped : (m n : ℕ) → (m == n) ≡ false → (n == m) ≡ false
    swapped m n k = grind arith

    neither : (p q : Bool) → (p || q) ≡ false → (p ≡ false) × (q ≡ false)
    neither true q k = absurd (false_true (sym k))
    neither false q k = (refl, k)

    head : (b : Bool) → list_any (λ x. x == a.device) (numbers_of (filter P xs)) ≡ false
        → list_any (λ x. x == a.device) (numbers_of (if b then a ∷ filter P xs else filter P xs)) ≡ b
    head true none = itself a.device (list_any (λ x. x == a.device) (numbers_of (filter P xs)))
    head false none = none

    rest : (ys : List AttachedDevice) → list_any (λ x. x == a.device) (numbers_of ys) ≡ false
        → AllByRecursion (λ (y : AttachedDevice). list_any (λ x. x == y.device) (numbers_of (filter P xs)) ≡ P y) ys
        → AllByRecursion (λ (y : AttachedDevice). list_any (λ x. x == y.device) (numbers_of (filter P (a ∷ xs))) ≡ P y) ys
    rest [] none k = tt
    rest (y ∷ ys) none k =
        let two : ((y.device == a.device) ≡ false) × (list_any (λ x. x == a.device) (numbers_of ys) ≡ false) =
        neither (y.device == a.device) (list_any (λ x. x == a.device) (numbers_of ys)) none in
        (by_test (P a) two.0, rest ys two.1 k.1)
      where
        by_test : (b : Bool) → (y.device == a.device) ≡ false → list_any (λ x. x == y.device) (numbers_of (if b then a ∷ filter P xs else filter P xs)) ≡ P y
        by_test true other = ap (λ z. z || list_any (λ x. x == y.device) (numbers_of (filter P xs))) (swapped y.device a.device other) ∙ k.0
        by_test false other = k.0

pub votes_seized : (plan : Plan) (promises : List Promised) (given : Option BothVotes) (vs : List Seizing) → LedBy plan → AreVotes plan promises given vs
    → AllByRecursion (λ (a : AttachedDevice). is_seized vs a.device ≡ has_votes plan given a) plan.attached
votes_seized plan promises given vs l h = each plan.attached (picked_each (has_votes plan given) plan.attached l.apart)
  where
    each : (ys : List AttachedDevice) → AllByRecursion (λ (a : AttachedDevice). list_any (λ x. x == a.device) (numbers_of (filter (has_votes plan given) plan.attached)) ≡ has_votes plan given a) ys
        → AllByRecursion (λ (a : AttachedDevice). is_seized vs a.device ≡ has_votes plan given a) ys
    each [] k = tt
    each (a ∷ ys) k = (seized_in a.device vs ∙ (ap (λ xs. list_any (λ x. x == a.device) (numbers_of xs)) h.devices ∙ k.0), each ys k.1)

-- ---- the coordinator's own quorum devices

reach_own : (plan : Plan) → LedBy plan → (a : AttachedDevice) → has a.nodes plan.coordinator ≡ true → is_reachable plan a ≡ true
reach_own plan l a path = ap (list_any (λ n. has a.nodes n)) l.nodes ∙ ap (λ b. b || list_any (λ n. has a.nodes n) l.others) path

asked_picked : (plan : Plan) (promises : List Promised) (vs : List Seizing) → AllByRecursion (VoteSo plan promises) vs
    → AllByRecursion (λ (e : Seizing). may_seize promises e.attached plan.coordinator ≡ has e.asked plan.coordinator) vs
asked_picked plan promises [] k = tt
asked_picked plan promises (e ∷ vs) k = (sym k.0.own, asked_picked plan promises vs k.1)

own_one : (v q p t w h reach : Bool) → v ≡ q → p ≡ t → (p ≡ true → reach ≡ true) → (q ≡ true → p ≡ true → w ≡ h) → (v && t && w) ≡ ((q && reach) && (p && h))
own_one v true true t w h reach is at f g = rw (is, sym at, f refl, g refl refl) refl
own_one v true false t w h reach is at f g = rw (is, sym at) (off reach)
  where
    off : (b : Bool) → false ≡ (b && false)
    off true = refl
    off false = refl
own_one v false p t w h reach is at f g = rw is refl

pub quorum_picked : (S : Setting) (plan : Plan) (promises : List Promised) (both : BothVotes) (r : NodeRecord) (ms : List Moment) (vs : List Seizing) → Shows S plan promises both r ms
    → AreVotes plan promises (Some both) vs
    → filter (λ d. told.is_voting S r d && has (paths_of S.header d) plan.coordinator && is_valid (validity S.header plan.coordinator d ms)) (all_to (length S.header.devices))
    ≡ map (λ (e : Seizing). e.attached.device) (filter (λ (e : Seizing). has e.asked plan.coordinator) vs)
quorum_picked S plan promises both r ms vs z h =
    ap (filter P) (sym z.devices)
    ∙ (numbers_picked P plan.attached
    ∙ (ap numbers_of (same_picked (λ a. P a.device) (λ a. has_votes plan (Some both) a && G a) plan.attached (each plan.attached z.paths z.valid)
    ∙ (sym (twice_picked (has_votes plan (Some both)) G plan.attached)
    ∙ (ap (filter G) (sym h.devices)
    ∙ (devices_picked G vs ∙ ap devices_in (same_picked (λ e. G e.attached) (λ e. has e.asked plan.coordinator) vs (asked_picked plan promises vs h.each))))))
    ∙ numbers_in (filter (λ (e : Seizing). has e.asked plan.coordinator) vs)))
  where
    c : ℕ
    c = plan.coordinator

    P : ℕ → Bool
    P d = told.is_voting S r d && has (paths_of S.header d) c && is_valid (validity S.header c d ms)

    G : AttachedDevice → Bool
    G a = may_seize promises a c

    each : (xs : List AttachedDevice) → AllByRecursion (PathsSo S) xs
        → AllByRecursion (λ (a : AttachedDevice). is_quorum both a.device ≡ true → has a.nodes c ≡ true → is_valid (validity S.header c a.device ms) ≡ holds_valid promises a.device c) xs
        → AllByRecursion (λ (a : AttachedDevice). P a.device ≡ (has_votes plan (Some both) a && G a)) xs
    each [] paths valid = tt
    each (a ∷ xs) paths valid = (
      own_one (told.is_voting S r a.device) (is_quorum both a.device) (has a.nodes c) (has (paths_of S.header a.device) c) (is_valid (validity S.header c a.device ms))
          (holds_valid promises a.device c) (is_reachable plan a) (z.voting a.device) (ap (λ set. has set c) paths.0.0) (reach_own plan z.led a) valid.0,
      each xs paths.1 valid.1,
    )

-- ---- its other devices

plains_asked : (plan : Plan) (ps : List Seizing) → AllByRecursion (PlainSo plan) ps → AllByRecursion (λ (e : Seizing). has e.attached.nodes plan.coordinator ≡ has e.asked plan.coordinator) ps
plains_asked plan [] k = tt
plains_asked plan (e ∷ ps) k = (sym k.0.own, plains_asked plan ps k.1)

plain_one : (v q p t s reach : Bool) → v ≡ q → p ≡ t → s ≡ (q && reach) → (p ≡ true → reach ≡ true) → (not v && t) ≡ ((not s && reach) && p)
plain_one v true true t s reach is at seized f = ap (λ b. not b && t) is ∙ sym (ap (λ b. not b && reach && true) (seized ∙ f refl))
plain_one v false true t s reach is at seized f =
    ap (λ b. not b && t) is ∙ (sym at ∙ sym (ap (λ b. not b && reach && true) seized ∙ ap (λ b. b && true) (f refl)))
plain_one v q false t s reach is at seized f = ap (λ b. not v && b) (sym at) ∙ off (not v) (not s && reach)
  where
    off : (a b : Bool) → (a && false) ≡ (b && false)
    off true true = refl
    off true false = refl
    off false true = refl
    off false false = refl

pub plain_picked : (S : Setting) (plan : Plan) (promises : List Promised) (both : BothVotes) (r : NodeRecord) (ms : List Moment) (vs ps : List Seizing) → Shows S plan promises both r ms
    → AreVotes plan promises (Some both) vs → devices_in ps ≡ filter (is_left plan vs) plan.attached → AllByRecursion (PlainSo plan) ps
    → filter (λ d. not (told.is_voting S r d) && has (paths_of S.header d) plan.coordinator) (all_to (length S.header.devices))
    ≡ map (λ (e : Seizing). e.attached.device) (filter (λ (e : Seizing). has e.asked plan.coordinator) ps)
plain_picked S plan promises both r ms vs ps z h devices all =
    ap (filter P) (sym z.devices)
    ∙ (numbers_picked P plan.attached
    ∙ (ap numbers_of (same_picked (λ a. P a.device) (λ a. is_left plan vs a && G a) plan.attached (each plan.attached z.paths (votes_seized plan promises (Some both) vs z.led h))
    ∙ (sym (twice_picked (is_left plan vs) G plan.attached)
    ∙ (ap (filter G) (sym devices)
    ∙ (devices_picked G ps ∙ ap devices_in (same_picked (λ e. G e.attached) (λ e. has e.asked plan.coordinator) ps (plains_asked plan ps all))))))
    ∙ numbers_in (filter (λ (e : Seizing). has e.asked plan.coordinator) ps)))
  where
    c : ℕ
    c = plan.coordinator

    P : ℕ → Bool
    P d = not (told.is_voting S r d) && has (paths_of S.header d) c

    G : AttachedDevice → Bool
    G a = has a.nodes c

    each : (xs : List AttachedDevice) → AllByRecursion (PathsSo S) xs
        → AllByRecursion (λ (a : AttachedDevice). is_seized vs a.device ≡ has_votes plan (Some both) a) xs
        → AllByRecursion (λ (a : AttachedDevice). P a.device ≡ (is_left plan vs a && G a)) xs
    each [] paths seized = tt
    each (a ∷ xs) paths seized = (
      plain_one (told.is_voting S r a.device) (is_quorum both a.device) (has a.nodes c) (has (paths_of S.header a.device) c) (is_seized vs a.device) (is_reachable plan a)
          (z.voting a.device) (ap (λ set. has set c) paths.0.0) seized.0 (reach_own plan z.led a),
      each xs paths.1 seized.1,
    )

-- ---- the seizings of quorum devices are over

pub quorum_settled : (S : Setting) (plan : Plan) (promises : List Promised) (both : BothVotes) (r : NodeRecord) (ms : List Moment) (tasks : List told.Task) (vs : List Seizing)
    → Shows S plan promises both r ms → AreVotes plan promises (Some both) vs
    → AllByRecursion (λ (e : Seizing). told.is_settled S plan.epoch e.attached.device tasks (told.asked_last plan.epoch e.attached.device ms) ms ≡ is_some e.result) vs
    → told.quorum_is_over S plan.epoch r tasks ms ≡ all_settled vs
quorum_settled S plan promises both r ms tasks vs z h settled =
    ap (list_all P) (sym z.devices)
    ∙ (numbers_all P plan.attached
    ∙ (same_all (λ a. P a.device) (λ a. not (has_votes plan (Some both) a) || Q a.device) plan.attached (each plan.attached z.paths)
    ∙ (all_picked (has_votes plan (Some both)) (λ a. Q a.device) plan.attached
    ∙ (ap (list_all (λ (a : AttachedDevice). Q a.device)) (sym h.devices)
    ∙ (devices_all (λ a. Q a.device) vs ∙ same_all (λ (e : Seizing). Q e.attached.device) (λ (e : Seizing). is_some e.result) vs settled)))))
  where
    e : ℕ
    e = plan.epoch

    Q : ℕ → Bool
    Q d = told.is_settled S e d tasks (told.asked_last e d ms) ms

    P : ℕ → Bool
    P d = not (told.is_voting S r d && told.has_path S (members_of e ms) d) || Q d

    each : (xs : List AttachedDevice) → AllByRecursion (PathsSo S) xs
        → AllByRecursion (λ (a : AttachedDevice). P a.device ≡ (not (has_votes plan (Some both) a) || Q a.device)) xs
    each [] paths = tt
    each (a ∷ xs) paths = (
      ap (λ b. not (b && told.has_path S (members_of e ms) a.device) || Q a.device) (z.voting a.device)
          ∙ ap (λ b. not (is_quorum both a.device && b) || Q a.device)
          (ap (λ set. list_any (has set) (nodes_of (members_of e ms))) (sym paths.0.0) ∙ ap (λ ns. list_any (has a.nodes) ns) z.members),
      each xs paths.1,
    )
