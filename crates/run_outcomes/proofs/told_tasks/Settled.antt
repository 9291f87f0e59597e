-- The seizing of a quorum device is over, as `history` has it, where the attempt has its result.
use Rattle.std.specs.Prelude.{ℕ, ◌≡◌, ◌<◌, ◌==◌, ◌&&◌, ◌||◌, not, Bool, true, false, if◌then◌else◌, List, [], ◌∷◌, filter, Option, None, Some, is_some}
use Rattle.std.specs.List.{AllByRecursion, find, list_any}
use Rattle.std.proofs.Common.{refl, sym, ap, subst, ◌∙◌, arith, inl, inr}
use Rattle.cl_base.specs.Keys.{key_of}
use Rattle.cl_base.specs.Seizings.{SeizeResult}
use Rattle.cl_base.specs.Sets.{has}
use Rattle.cl_base.specs.declared.seizing.SeizeEnd.TheVariants.{Contended, Expelled, Fault, Greater, Held, NotRegistered}
use Rattle.cmm_attempt.proofs.Basics.{false_true, same_number}
use Rattle.cmm_attempt.specs.Promises.{holds_valid}
use Rattle.cmm_attempt.specs.Seizings.{may_follow, may_seize}
use Rattle.cmm_attempt.specs.declared.attached.AttachedDevice.{AttachedDevice}
use Rattle.cmm_attempt.specs.declared.counting.BothVotes.{BothVotes}
use Rattle.cmm_attempt.specs.declared.plan.Plan.{Plan}
use Rattle.cmm_attempt.specs.declared.promised.Promised.{Promised}
use Rattle.cmm_attempt.specs.declared.seizing.Seizing.{Seizing}
use Rattle.history.specs.Contact.{others}
use Rattle.history.specs.Member.{members_of}
use Rattle.history.specs.Moment.{Moment}
use Rattle.history.specs.Queue as told
use Rattle.history.specs.Records.{NodeRecord}
use Rattle.history.specs.Setting.{Setting, coordinator, nodes_of, paths_of}
use Rattle.run_outcomes.specs.tasks.Entries.{AreVotes, LedBy, VoteSo, devices_in, has_votes}
use Rattle.run_outcomes.specs.tasks.OwnTasks.{AskedAs, IsShown, LastIs, PathsSo, Shows, was_asked}
use Rattle.run_outcomes.proofs.told_tasks.Lists.{find_any}

-- ---- the other members

others_picked : (c : ℕ) (ns : List ℕ) → AllByRecursion (λ m. c < m) ns → filter (λ m. not (m == c)) ns ≡ ns
others_picked c [] above = refl
others_picked c (n ∷ ns) above = ap (λ b. if not b then n ∷ filter (λ m. not (m == c)) ns else filter (λ m. not (m == c)) ns) (apart c n above.0) ∙ ap (λ ys. n ∷ ys) (others_picked c ns above.1)
  where
    apart : (a b : ℕ) → a < b → (b == a) ≡ false
    apart a b l = grind arith

pub others_by : (plan : Plan) (l : LedBy plan) (members : ℕ) → coordinator plan.epoch ≡ plan.coordinator → nodes_of members ≡ plan.nodes → others plan.epoch members ≡ l.others
others_by plan l members own nodes =
    ap (λ c. filter (λ m. not (m == c)) (nodes_of members)) own
    ∙ (ap (filter (λ m. not (m == plan.coordinator))) (nodes ∙ l.nodes)
    ∙ (ap (λ b. if not b then plan.coordinator ∷ filter (λ m. not (m == plan.coordinator)) l.others else filter (λ m. not (m == plan.coordinator)) l.others) (itself plan.coordinator)
    ∙ others_picked plan.coordinator l.others l.above))
  where
    itself : (n : ℕ) → (n == n) ≡ true
    itself n = grind arith

pub others_so : (S : Setting) (plan : Plan) (promises : List Promised) (both : BothVotes) (r : NodeRecord) (ms : List Moment) → (z : Shows S plan promises both r ms)
    → others plan.epoch (members_of plan.epoch ms) ≡ z.led.others
others_so S plan promises both r ms z = others_by plan z.led (members_of plan.epoch ms) z.own z.members

-- two tests that agree on each of them
same_any : (P Q : ℕ → Bool) (ns : List ℕ) → ((m : ℕ) → list_any (λ k. k == m) ns ≡ true → P m ≡ Q m) → list_any P ns ≡ list_any Q ns
same_any P Q [] f = refl
same_any P Q (n ∷ ns) f = ap (λ b. b || list_any P ns) (f n (itself n (list_any (λ k. k == n) ns))) ∙ ap (λ b. Q n || b) (same_any P Q ns (λ m k. f m (or_more (n == m) (list_any (λ j. j == m) ns) k)))
  where
    itself : (k : ℕ) (b : Bool) → ((k == k) || b) ≡ true
    itself k b = grind arith

    or_more : (a b : Bool) → b ≡ true → (a || b) ≡ true
    or_more true b k = refl
    or_more false b k = k

any_here : (P : ℕ → Bool) (n : ℕ) (ns : List ℕ) → list_any (λ k. k == n) ns ≡ true → P n ≡ true → list_any P ns ≡ true
any_here P n [] h is = absurd (false_true h)
any_here P n (m ∷ ns) h is = by_test (m == n) refl (λ k. any_here P n ns k is) h
  where
    or_first : (a b : Bool) → a ≡ true → (a || b) ≡ true
    or_first true b k = refl
    or_first false b k = absurd (false_true k)

    or_more : (a b : Bool) → b ≡ true → (a || b) ≡ true
    or_more true b k = refl
    or_more false b k = k

    by_test : (b : Bool) → (m == n) ≡ b → (list_any (λ k. k == n) ns ≡ true → list_any P ns ≡ true) → (b || list_any (λ k. k == n) ns) ≡ true → (P m || list_any P ns) ≡ true
    by_test true at rest k = or_first (P m) (list_any P ns) (subst (λ z. P z ≡ true) (sym (same_number m n at)) is)
    by_test false at rest k = or_more (P m) (list_any P ns) (rest k)

none_any : (plan : Plan) (l : LedBy plan) (P : ℕ → Bool) → find P plan.nodes ≡ None → list_any P l.others ≡ false
none_any plan l P is = second (P plan.coordinator) (list_any P l.others) (sym (ap (list_any P) l.nodes) ∙ (sym (find_any P plan.nodes) ∙ ap is_some is))
  where
    second : (a b : Bool) → (a || b) ≡ false → b ≡ false
    second true b k = absurd (false_true (sym k))
    second false b k = k

-- ---- one device

itself_not : (m c : ℕ) → c < m → (m == c) ≡ false
itself_not m c l = grind arith

-- whom `history` has as able to seize it
may_so : (S : Setting) (plan : Plan) (promises : List Promised) (both : BothVotes) (r : NodeRecord) (ms : List Moment) (z : Shows S plan promises both r ms) (e : Seizing)
    → PathsSo S e.attached → (m : ℕ) → list_any (λ k. k == m) z.led.others ≡ true
    → told.may_seize S plan.epoch e.attached.device ms m ≡ may_seize promises e.attached m
may_so S plan promises both r ms z e paths m other =
    ap (λ b. has (paths_of S.header e.attached.device) m && b) (z.shown e.attached.device m paths.1 paths.2 other)
    ∙ ap (λ set. has set m && holds_valid promises e.attached.device m) (sym paths.0)

comes_so : (S : Setting) (plan : Plan) (promises : List Promised) (both : BothVotes) (r : NodeRecord) (ms : List Moment) (z : Shows S plan promises both r ms) (e : Seizing) (keys : List ℕ)
    → PathsSo S e.attached → (m : ℕ) → list_any (λ k. k == m) z.led.others ≡ true
    → was_asked plan.epoch e.attached.device m ms ≡ has e.asked m → told.comes_next S plan.epoch e.attached.device keys ms m ≡ may_follow plan.cluster promises e keys m
comes_so S plan promises both r ms z e keys paths m other asked =
    ap (λ b. b && not (was_asked plan.epoch e.attached.device m ms) && list_any (λ key. key == key_of S.header.cluster m) keys) (may_so S plan promises both r ms z e paths m other)
    ∙ (ap (λ b. may_seize promises e.attached m && not b && list_any (λ key. key == key_of S.header.cluster m) keys) asked
    ∙ ap (λ c. may_seize promises e.attached m && not (has e.asked m) && list_any (λ key. key == key_of c m) keys) (sym z.cluster))

ends_so : (S : Setting) (plan : Plan) (promises : List Promised) (both : BothVotes) (r : NodeRecord) (ms : List Moment) (z : Shows S plan promises both r ms) (e : Seizing)
    → PathsSo S e.attached → VoteSo plan promises e → AskedAs plan z.led e ms
    → told.ends S plan.epoch e.attached.device e.result ms ≡ is_some e.result
ends_so S plan promises both r ms z e paths so asked = by_result e.result refl
  where
    d : ℕ
    d = e.attached.device

    by_result : (o : Option SeizeResult) → e.result ≡ o → told.ends S plan.epoch d o ms ≡ is_some o
    by_result None is = refl
    by_result (Some (Held keys)) is = refl
    by_result (Some (Greater word)) is = refl
    by_result (Some Expelled) is = refl
    by_result (Some (Contended key)) is = refl
    by_result (Some Fault) is = refl
    by_result (Some (NotRegistered keys)) is =
        ap not
        (ap (list_any (told.comes_next S plan.epoch d keys ms)) (others_so S plan promises both r ms z)
        ∙ (same_any (told.comes_next S plan.epoch d keys ms) (may_follow plan.cluster promises e keys) z.led.others
        (λ m other. comes_so S plan promises both r ms z e keys paths m other (asked keys is m other))
        ∙ none_any plan z.led (may_follow plan.cluster promises e keys) (so.last keys is)))

goes_on : (S : Setting) (plan : Plan) (promises : List Promised) (both : BothVotes) (r : NodeRecord) (ms : List Moment) (z : Shows S plan promises both r ms) (e : Seizing) (keys : List ℕ) (n : ℕ)
    → PathsSo S e.attached → list_any (λ k. k == n) z.led.others ≡ true → may_seize promises e.attached n ≡ true
    → list_any (λ key. key == key_of plan.cluster n) keys ≡ true → was_asked plan.epoch e.attached.device n ms ≡ false
    → told.ends S plan.epoch e.attached.device (Some (NotRegistered keys)) ms ≡ false
goes_on S plan promises both r ms z e keys n paths other may shown unasked =
    ap not
    (ap (list_any (told.comes_next S plan.epoch e.attached.device keys ms)) (others_so S plan promises both r ms z)
    ∙ any_here (told.comes_next S plan.epoch e.attached.device keys ms) n z.led.others other
    (ap (λ b. b && not (was_asked plan.epoch e.attached.device n ms) && list_any (λ key. key == key_of S.header.cluster n) keys) (may_so S plan promises both r ms z e paths n other ∙ may)
    ∙ (ap (λ b. not b && list_any (λ key. key == key_of S.header.cluster n) keys) unasked
    ∙ (ap (λ c. list_any (λ key. key == key_of c n) keys) (sym z.cluster) ∙ shown))))

pub settled_so : (S : Setting) (plan : Plan) (promises : List Promised) (both : BothVotes) (r : NodeRecord) (ms : List Moment) (tasks : List told.Task) (z : Shows S plan promises both r ms)
    (e : Seizing) → PathsSo S e.attached → VoteSo plan promises e → IsShown plan promises z.led tasks ms e
    → told.is_settled S plan.epoch e.attached.device tasks (told.asked_last plan.epoch e.attached.device ms) ms ≡ is_some e.result
settled_so S plan promises both r ms tasks z e paths so (inl k) =
    ap (λ o. told.is_settled S plan.epoch e.attached.device tasks o ms) k.last
    ∙ (ap (λ b. if b then told.ends S plan.epoch e.attached.device (told.result_of e.attached.device tasks) ms
    else not (list_any (told.may_seize S plan.epoch e.attached.device ms) (others plan.epoch (members_of plan.epoch ms)))) k.no_task
    ∙ (ap not (ap (list_any (told.may_seize S plan.epoch e.attached.device ms)) (others_so S plan promises both r ms z)
    ∙ (same_any (told.may_seize S plan.epoch e.attached.device ms) (may_seize promises e.attached) z.led.others (λ m other. may_so S plan promises both r ms z e paths m other)
    ∙ none_any plan z.led (may_seize promises e.attached) (so.nobody k.none).0))
    ∙ sym (ap is_some (so.nobody k.none).1)))
settled_so S plan promises both r ms tasks z e paths so (inr (inl k)) =
    ap (λ o. told.is_settled S plan.epoch e.attached.device tasks o ms) k.last
    ∙ (ap (λ b. if b then told.ends S plan.epoch e.attached.device (told.result_of e.attached.device tasks) ms
    else not (list_any (told.may_seize S plan.epoch e.attached.device ms) (others plan.epoch (members_of plan.epoch ms)))) k.no_task
    ∙ (ap not (ap (list_any (told.may_seize S plan.epoch e.attached.device ms)) (others_so S plan promises both r ms z)
    ∙ any_here (told.may_seize S plan.epoch e.attached.device ms) k.seizer z.led.others k.other (may_so S plan promises both r ms z e paths k.seizer k.other ∙ k.may))
    ∙ sym (ap is_some k.waits)))
settled_so S plan promises both r ms tasks z e paths so (inr (inr (inl k))) =
    ap (λ o. told.is_settled S plan.epoch e.attached.device tasks o ms) k.last
    ∙ (ap (λ o. told.ends S plan.epoch e.attached.device o ms) k.answer ∙ ends_so S plan promises both r ms z e paths so k.asked)
settled_so S plan promises both r ms tasks z e paths so (inr (inr (inr (inl k)))) =
    ap (λ o. told.is_settled S plan.epoch e.attached.device tasks o ms) k.last
    ∙ (ap (λ b. if b then told.ends S plan.epoch e.attached.device (told.result_of e.attached.device tasks) ms
    else not (list_any (told.may_seize S plan.epoch e.attached.device ms) (others plan.epoch (members_of plan.epoch ms)))) k.has_task
    ∙ (ap (λ o. told.ends S plan.epoch e.attached.device o ms) k.answer ∙ ends_so S plan promises both r ms z e paths so k.asked))
settled_so S plan promises both r ms tasks z e paths so (inr (inr (inr (inr k)))) = by_last k.last ∙ sym (ap is_some k.waits)
  where
    d : ℕ
    d = e.attached.device

    going : told.ends S plan.epoch d (Some (NotRegistered k.keys)) ms ≡ false
    going = goes_on S plan promises both r ms z e k.keys k.next paths k.other k.may k.shown k.unasked

    by_last : LastIs plan e tasks ms k.keys → told.is_settled S plan.epoch d tasks (told.asked_last plan.epoch d ms) ms ≡ false
    by_last (inl f) = ap (λ o. told.is_settled S plan.epoch d tasks o ms) f.1 ∙ (ap (λ o. told.ends S plan.epoch d o ms) f.2 ∙ going)
    by_last (inr f) =
        ap (λ o. told.is_settled S plan.epoch d tasks o ms) f.0
        ∙ (ap (λ b. if b then told.ends S plan.epoch d (told.result_of d tasks) ms
        else not (list_any (told.may_seize S plan.epoch d ms) (others plan.epoch (members_of plan.epoch ms)))) f.1
        ∙ (ap (λ o. told.ends S plan.epoch d o ms) f.2 ∙ going))

-- ---- all of them

paths_picked : (S : Setting) (P : AttachedDevice → Bool) (xs : List AttachedDevice) → AllByRecursion (PathsSo S) xs
    → AllByRecursion (PathsSo S) (filter P xs)
paths_picked S P [] k = tt
paths_picked S P (a ∷ xs) k = by_test (P a) (paths_picked S P xs k.1)
  where
    by_test : (b : Bool) → AllByRecursion (PathsSo S) (filter P xs)
        → AllByRecursion (PathsSo S) (if b then a ∷ filter P xs else filter P xs)
    by_test true rest = (k.0, rest)
    by_test false rest = rest

entries_paths : (S : Setting) (es : List Seizing) → AllByRecursion (PathsSo S) (devices_in es)
    → AllByRecursion (λ (e : Seizing). PathsSo S e.attached) es
entries_paths S [] k = tt
entries_paths S (e ∷ es) k = (k.0, entries_paths S es k.1)

pub votes_settled : (S : Setting) (plan : Plan) (promises : List Promised) (both : BothVotes) (r : NodeRecord) (ms : List Moment) (tasks : List told.Task) (vs : List Seizing)
    → (z : Shows S plan promises both r ms) → AreVotes plan promises (Some both) vs → AllByRecursion (IsShown plan promises z.led tasks ms) vs
    → AllByRecursion (λ (e : Seizing). told.is_settled S plan.epoch e.attached.device tasks (told.asked_last plan.epoch e.attached.device ms) ms ≡ is_some e.result) vs
votes_settled S plan promises both r ms tasks vs z h shown =
    each vs (entries_paths S vs (subst (AllByRecursion (PathsSo S)) (sym h.devices) (paths_picked S (has_votes plan (Some both)) plan.attached z.paths))) h.each shown
  where
    each : (es : List Seizing) → AllByRecursion (λ (e : Seizing). PathsSo S e.attached) es → AllByRecursion (VoteSo plan promises) es
        → AllByRecursion (IsShown plan promises z.led tasks ms) es
        → AllByRecursion (λ (e : Seizing). told.is_settled S plan.epoch e.attached.device tasks (told.asked_last plan.epoch e.attached.device ms) ms ≡ is_some e.result) es
    each [] paths so k = tt
    each (e ∷ es) paths so k = (settled_so S plan promises both r ms tasks z e paths.0 so.0 k.0, each es paths.1 so.1 k.1)
