-- An attempt that starts accounts for each device of the header.
use Rattle.std.specs.Prelude.{ℕ, ◌+◌, ◌-◌, ◌≡◌, ◌<◌, ◌≤◌, ◌++◌, ◌==◌, ◌&&◌, ◌||◌, ◌⊎◌, Bool, true, false, fold, Contains, List, [], ◌∷◌, Option, None, Some, filter, is_some, length, suc, zero, if◌then◌else◌}
use Rattle.std.specs.List.{AllByRecursion, list_all, list_any}
use Rattle.std.proofs.lemmas.List.Elements.{All-contains, All-from_recursion}
use Rattle.std.proofs.Common.{refl, sym, ap, subst, ◌∙◌, inl, inr, arith}
use Rattle.attempt_laws.proofs.MachineLemmas.{starts_follow}
use Rattle.attempt_laws.proofs.Sends.{Contains-here, Contains-later}
use Rattle.attempt_laws.proofs.Stays.{plan_stays}
use Rattle.cl_base.specs.Seizings.{SeizeResult}
use Rattle.cl_base.specs.Sets.{has, set_with}
use Rattle.cl_base.specs.declared.header.Header.{Header}
use Rattle.cl_base.specs.declared.header.HeaderDevice.{HeaderDevice}
use Rattle.cl_base.specs.declared.seizing.SeizeEnd.TheVariants as end
use Rattle.cl_base.specs.declared.seizing.SeizeEnd.TheVariants.{Expelled, Fault, NotRegistered}
use Rattle.cmm_attempt.proofs.Basics.{and_cases, same_number, same_some}
use Rattle.cmm_attempt.specs.Attempts.{AttemptState}
use Rattle.cmm_attempt.specs.Calls.{Call, May, starts_in, turn}
use Rattle.cmm_attempt.specs.Counts.{is_quorum}
use Rattle.cmm_attempt.specs.Plans.{is_reachable}
use Rattle.cmm_attempt.specs.Seizings.{all_settled, held_set, is_held_by, is_seized}
use Rattle.cmm_attempt.specs.declared.attached.AttachedDevice.{AttachedDevice}
use Rattle.cmm_attempt.specs.declared.counting.BothVotes.{BothVotes}
use Rattle.cmm_attempt.specs.declared.phase.Phase.TheVariants.{Installing}
use Rattle.cmm_attempt.specs.declared.plan.Plan.{Plan}
use Rattle.cmm_attempt.specs.declared.seizing.Seizing.{Seizing}
use Rattle.history.specs.Attempts.{attached_members, is_enabled_for, is_ended_so, is_not_held, is_unregistered, shows_contention, shows_greater, some_member}
use Rattle.history.specs.Member.{members_of}
use Rattle.history.specs.Moment.{Moment}
use Rattle.history.specs.Setting.{Setting, all_to, nodes_of, paths_of}
use Rattle.history_setting.specs.Settings.{setting_of}
use Rattle.node_model.specs.Attempts.{votes_in}
use Rattle.node_model.specs.declared.cluster.Cluster.{Cluster}
use Rattle.run_history.specs.WorldLines.{IsDevice}
use Rattle.run_seizings.proofs.Progress.{no_truth, or_left, or_right}
use Rattle.world_model.specs.First.{attached_from}
use Rattle.run_outcomes.proofs.accounts.Completes.{Complete, devices_stand, reached_completes}
use Rattle.run_outcomes.proofs.accounts.Explained.{IsOther, fifth_of_five, first_four, is_shown_lost, lost_so}
use Rattle.run_outcomes.proofs.accounts.Votes.{Installed, quorum_enabled}
use Rattle.run_outcomes.proofs.counts.Places.{IsAt, at_place}
use Rattle.run_outcomes.proofs.results.Lacking.{Known, barred_all}
use Rattle.run_outcomes.proofs.results.Listed.{set_more}
use Rattle.run_outcomes.proofs.results.Marks.{more_has}
use Rattle.run_outcomes.proofs.results.Stays.{both_true}
use Rattle.run_outcomes.proofs.shown.Entries.{EntryOk, entries_reached}
use Rattle.seize.specs.declared.kind.SeizeKind.{SeizeKind}
use Rattle.seize.specs.declared.kind.SeizeKind.TheVariants.{Plain, Vote}
use Rattle.run_outcomes.specs.accounts.Kept.{AreAccounted, is_accounted_by}
use Rattle.run_outcomes.specs.accounts.Unregistered.{AreKept, EntryKept}
use Rattle.run_outcomes.specs.tasks.Laws.{IsUnregistered}
use Rattle.run_outcomes.specs.results.Shown.{AttemptShown, EndShown, EntryTold, IsAmong, Was}

-- ---- held sets

abbrev with_held : ℕ → Seizing → ℕ
with_held set e = if is_held_by e.result then set_with set e.attached.device else set

still : (s d e : ℕ) → has s d ≡ true → has (set_with s e) d ≡ true
still s d e k = by_test (has (set_with s e) d) refl
  where
    by_test : (b : Bool) → has (set_with s e) d ≡ b → b ≡ true
    by_test true is = refl
    by_test false is = absurd (no_truth (sym (more_has s e d is) ∙ k))

with_still : (set d : ℕ) (e : Seizing) → has set d ≡ true → has (with_held set e) d ≡ true
with_still set d e k = by_test (is_held_by e.result)
  where
    by_test : (b : Bool) → has (if b then set_with set e.attached.device else set) d ≡ true
    by_test true = still set d e.attached.device k
    by_test false = k

held_still : (es : List Seizing) (set d : ℕ) → has set d ≡ true → has (fold with_held set es) d ≡ true
held_still [] set d k = k
held_still (e ∷ es) set d k = held_still es (with_held set e) d (with_still set d e k)

-- ---- the entry of a device

same_self : (a : ℕ) → (a == a) ≡ true
same_self a = grind arith

-- what its entry tells of a device, that it is held or why it is not
entry_accounts : (P : Seizing → Type 0) (Q : Type 0) (whole es : List Seizing) (set d : ℕ) → (1 ≤ d) × (d ≤ 32) → ((z : Seizing) → Contains es z → Contains whole z)
    → ((z : Seizing) (r : SeizeResult) → Contains whole z → z.attached.device ≡ d → z.result ≡ Some r → P z → (is_held_by (Some r) ≡ true) ⊎ Q)
    → is_seized es d ≡ true → all_settled es ≡ true → AllByRecursion P es → (has (fold with_held set es) d ≡ true) ⊎ Q
entry_accounts P Q whole [] set d low inside f seized settled k = absurd (no_truth seized)
entry_accounts P Q whole (e ∷ es) set d low inside f seized settled k =
    let two : (is_some e.result ≡ true) × (all_settled es ≡ true) = and_cases (is_some e.result) (all_settled es) settled in
    by_device (e.attached.device == d) refl seized two.0 (λ rest. entry_accounts P Q whole es (with_held set e) d low (λ z later. inside z (Contains-later e es z later)) f rest two.1 k.1)
  where
    by_found : (r : SeizeResult) → e.result ≡ Some r → e.attached.device ≡ d → (is_held_by (Some r) ≡ true) ⊎ Q → (has (fold with_held (with_held set e) es) d ≡ true) ⊎ Q
    by_found r is at (inr lost) = inr lost
    by_found r is at (inl held) =
        inl (held_still es (with_held set e) d (subst (λ b. has (if b then set_with set e.attached.device else set) d ≡ true) (sym (ap is_held_by is ∙ held))
        (subst (λ j. has (set_with set j) d ≡ true) (sym at) (set_more set d d low ∙ or_left (d == d) (has set d) (same_self d)))))

    by_result : (o : Option SeizeResult) → e.result ≡ o → is_some o ≡ true → e.attached.device ≡ d → (has (fold with_held (with_held set e) es) d ≡ true) ⊎ Q
    by_result None is some at = absurd (no_truth some)
    by_result (Some r) is some at = by_found r is at (f e r (inside e (Contains-here e es)) at is k.0)

    by_device : (b : Bool) → (e.attached.device == d) ≡ b → (b || is_seized es d) ≡ true → is_some e.result ≡ true
        → (is_seized es d ≡ true → (has (fold with_held (with_held set e) es) d ≡ true) ⊎ Q) → (has (fold with_held (with_held set e) es) d ≡ true) ⊎ Q
    by_device true same seized some next = by_result e.result refl some (same_number e.attached.device d same)
    by_device false other seized some next = next seized

-- ---- the device of the header

at_all : (P : AttachedDevice → Type 0) (k : ℕ) (hs : List HeaderDevice) (d : ℕ) (a : AttachedDevice) → IsAt k hs d a → AllByRecursion P (attached_from k hs) → P a
at_all P k [] d a at all = absurd at
at_all P k (x ∷ hs) d a (inl here) all = subst P (sym here.1) all.0
at_all P k (x ∷ hs) d a (inr there) all = at_all P (k + 1) hs d a there all.1

-- who is found among those that pass a test
any_of : (f : ℕ → Bool) (ns : List ℕ) → (length (filter f ns) == 0) ≡ false → (n : ℕ) × (IsAmong n ns × (f n ≡ true))
any_of f [] none = absurd (no_truth (sym none))
any_of f (m ∷ ns) none = by_test (f m) refl none (any_of f ns)
  where
    by_test : (b : Bool) → f m ≡ b → (length (if b then m ∷ filter f ns else filter f ns) == 0) ≡ false → ((length (filter f ns) == 0) ≡ false → (n : ℕ) × (IsAmong n ns × (f n ≡ true)))
        → (n : ℕ) × (IsAmong n (m ∷ ns) × (f n ≡ true))
    by_test true is none next = (m, (or_left (m == m) (list_any (λ j. j == m) ns) (same_self m), is))
    by_test false is none next = let k : (n : ℕ) × (IsAmong n ns × (f n ≡ true)) = next none in (k.0, (or_right (m == k.0) (list_any (λ j. j == k.0) ns) k.1.0, k.1.1))

among_reaches : (test : ℕ → Bool) (ns : List ℕ) (n : ℕ) → IsAmong n ns → test n ≡ true → list_any test ns ≡ true
among_reaches test [] n among passes = absurd (no_truth among)
among_reaches test (m ∷ ns) n among passes = by_same (m == n) refl among (among_reaches test ns n)
  where
    by_same : (b : Bool) → (m == n) ≡ b → (b || list_any (λ j. j == n) ns) ≡ true → (IsAmong n ns → test n ≡ true → list_any test ns ≡ true) → (test m || list_any test ns) ≡ true
    by_same true same k next = or_left (test m) (list_any test ns) (subst (λ j. test j ≡ true) (sym (same_number m n same)) passes)
    by_same false other k next = or_right (test m) (list_any test ns) (next k passes)

all_within : (P : ℕ → Bool) (k : ℕ) → ((m : ℕ) → 1 ≤ m → m ≤ k → P m ≡ true) → list_all P (all_to k) ≡ true
all_within P zero h = refl
all_within P (suc k) h = one_more P (all_to k) (suc k) (all_within P k (λ m low high. h m low (next m k high))) (h (suc k) (omega arith) (same_most (suc k)))
  where
    next : (m k : ℕ) → m ≤ k → m ≤ suc k
    next m k i = omega (arith, i)

    same_most : (m : ℕ) → m ≤ m
    same_most m = omega arith

    one_more : (P : ℕ → Bool) (ms : List ℕ) (m : ℕ) → list_all P ms ≡ true → P m ≡ true → list_all P (ms ++ m ∷ []) ≡ true
    one_more P [] m h last = ap (λ x. x && true) last
    one_more P (n ∷ ms) m h last = both_true (P n) (list_all P (ms ++ m ∷ [])) (and_cases (P n) (list_all P ms) h).0 (one_more P ms m (and_cases (P n) (list_all P ms) h).1 last)

-- ---- what is shown of it

account : (a b c : Bool) → (a ≡ true) ⊎ (c ≡ true) → (a || b || c) ≡ true
account true b c k = refl
account false true c k = refl
account false false c (inl k) = absurd (no_truth k)
account false false c (inr k) = k

no_member : (a b c : Bool) → b ≡ true → (a || b || c) ≡ true
no_member true b c k = refl
no_member false true c k = refl
no_member false false c k = absurd (no_truth k)

-- what is known of an attempt that has installed this base
record Opens (h : Header) (c : Cluster) (ms : List Moment) (updates : List (List ℕ)) (a : AttemptState) : Type 0 where
  session : ℕ
  so : AttemptShown h ms session a
  at : a.phase ≡ Installing
  kept : AreKept a
  votes : Installed (setting_of h) c a updates

-- why a device is not held
abbrev Lost : Setting → ℕ → ℕ → List (List ℕ) → List Moment → Type 0
Lost S e d updates ms = is_not_held S e d updates ms ≡ true

-- what its entry tells, whoever is seized last
told_accounts : (h : Header) (c : Cluster) (ms : List Moment) (updates : List (List ℕ)) (a : AttemptState) → Opens h c ms updates a → (d : ℕ) → (z : Seizing) (r : SeizeResult) → Contains a.devices z → z.attached.device ≡ d
    → z.result ≡ Some r → EntryTold (Was h ms a.plan.epoch) a.plan a.promises z → (is_held_by (Some r) ≡ true) ⊎ Lost (setting_of h) a.plan.epoch d updates ms
told_accounts h c ms updates a o d z r listed here result told = by_result r result
  where
    e : ℕ
    e = a.plan.epoch

    S : Setting
    S = setting_of h

    both_votes : BothVotes
    both_votes = votes_in c a

    known : Known h ms both_votes.committed a
    known = record { members = o.so.of.1; plan = o.so.plan; promises = o.so.promises; rests = o.so.rests; reached = o.so.reached; both = both_votes; given = o.votes.given; one = inl refl }

    kept : EntryKept z
    kept = All-contains EntryKept a.devices z (All-from_recursion EntryKept a.devices o.kept) listed

    lost : is_shown_lost h e d ms ≡ true → (is_held_by (Some r) ≡ true) ⊎ Lost S e d updates ms
    lost k =
        inr (first_four (some_member e ms (shows_greater e d)) (is_ended_so h e d ms Expelled) (some_member e ms (shows_contention h (members_of e ms) d)) (is_ended_so h e d ms Fault)
        (is_enabled_for S d updates && is_ended_so h e d ms (NotRegistered tt)) k)

    -- each attached member may not seize a quorum device
    all_barred : (keys : List ℕ) → r ≡ end.NotRegistered keys → z.kind ≡ Vote → (is_held_by (Some r) ≡ true) ⊎ Lost S e d updates ms
    all_barred keys same kind =
        inr (fifth_of_five (some_member e ms (shows_greater e d)) (is_ended_so h e d ms Expelled) (some_member e ms (shows_contention h (members_of e ms) d)) (is_ended_so h e d ms Fault)
        (is_enabled_for S d updates && is_ended_so h e d ms (NotRegistered tt))
        (both_true (is_enabled_for S d updates) (is_ended_so h e d ms (NotRegistered tt))
        (quorum_enabled S both_votes updates d o.votes.base
        (subst (λ j. is_quorum both_votes j ≡ true) here ((All-contains (EntryOk a.promises a.votes) a.devices z (entries_reached a o.so.reached) listed).quorum kind both_votes o.votes.given)))
        (subst (λ j. list_all (is_unregistered h e j ms) (attached_members h j (members_of e ms)) ≡ true) here (barred_all h ms both_votes.committed a z keys known told kind (result ∙ ap Some same)))))

    -- another device is not seized so
    by_kind : (keys : List ℕ) → r ≡ end.NotRegistered keys → (kind : SeizeKind) → z.kind ≡ kind → (is_held_by (Some r) ≡ true) ⊎ Lost S e d updates ms
    by_kind keys same Vote kind = all_barred keys same kind
    by_kind keys same Plain kind = absurd (kept kind (subst IsUnregistered (sym (result ∙ ap Some same)) tt))

    by_other : (s : Option ℕ) → z.seizer ≡ s → IsOther r → ((keys : List ℕ) → r ≡ end.NotRegistered keys → ⊥) → (is_held_by (Some r) ≡ true) ⊎ Lost S e d updates ms
    by_other (Some n) seizer other none = lost (lost_so h e d n ms r other (subst (λ j. EndShown h e j ms n r) here (told.told n r seizer result)))
    by_other None seizer other none = absurd (none [] (same_some r (end.NotRegistered []) (sym result ∙ (told.nobody seizer).0)))

    by_result : (s : SeizeResult) → z.result ≡ Some s → (is_held_by (Some r) ≡ true) ⊎ Lost S e d updates ms
    by_result (end.Held keys) at = inl (ap is_held_by (sym result ∙ at))
    by_result (end.NotRegistered keys) at = by_kind keys (same_some r (end.NotRegistered keys) (sym result ∙ at)) z.kind refl
    by_result (end.Greater w) at = by_other z.seizer refl (subst IsOther (same_some (end.Greater w) r (sym at ∙ result)) tt) (λ keys same. cc)
    by_result end.Expelled at = by_other z.seizer refl (subst IsOther (same_some end.Expelled r (sym at ∙ result)) tt) (λ keys same. cc)
    by_result (end.Contended key) at = by_other z.seizer refl (subst IsOther (same_some (end.Contended key) r (sym at ∙ result)) tt) (λ keys same. cc)
    by_result end.Fault at = by_other z.seizer refl (subst IsOther (same_some end.Fault r (sym at ∙ result)) tt) (λ keys same. cc)

-- a device to which a member is attached
attached_accounted : (h : Header) (c : Cluster) (ms : List Moment) (updates : List (List ℕ)) (a : AttemptState) → Opens h c ms updates a → (d : ℕ) → IsDevice h d → d ≤ 32
    → (length (attached_members h d a.plan.members) == 0) ≡ false → (has (held_set a.devices) d ≡ true) ⊎ Lost (setting_of h) a.plan.epoch d updates ms
attached_accounted h c ms updates a o d is high some =
    entry_accounts (λ z. EntryTold (Was h ms a.plan.epoch) a.plan a.promises z) (Lost (setting_of h) a.plan.epoch d updates ms) a.devices a.devices 0 d (is.0, high) (λ z listed. listed)
    (λ z r listed here result told. told_accounts h c ms updates a o d z r listed here result told) seized done.0 o.so.rests.entries
  where
    member : (n : ℕ) × (IsAmong n (nodes_of a.plan.members) × (has (paths_of h d) n ≡ true))
    member = any_of (λ m. has (paths_of h d) m) (nodes_of a.plan.members) some

    there : IsAmong member.0 a.plan.nodes
    there = subst (λ ns. IsAmong member.0 ns) (sym o.so.plan.nodes) member.1.0

    done : (all_settled a.devices ≡ true) × Complete a.plan a.devices a.plan.attached
    done = (reached_completes a o.so.reached).installs o.at

    less : (i n : ℕ) → (1 ≤ i) × (i ≤ n) → i - 1 < n
    less i n k = grind arith

    number : (i : ℕ) → 1 ≤ i → 1 + (i - 1) ≡ i
    number i k = grind arith

    placed : IsAt 1 h.devices d (record { device = d; nodes = paths_of h d })
    placed = subst (λ j. IsAt 1 h.devices j (record { device = j; nodes = paths_of h d })) (number d is.0) (at_place 1 h.devices (d - 1) (less d (length h.devices) is))

    seized : is_seized a.devices d ≡ true
    seized =
        at_all (λ (x : AttachedDevice). is_reachable a.plan x ≡ true → is_seized a.devices x.device ≡ true) 1 h.devices d (record { device = d; nodes = paths_of h d }) placed
        (subst (λ xs. Complete a.plan a.devices xs) o.so.plan.all done.1) (among_reaches (λ n. has (paths_of h d) n) a.plan.nodes member.0 there member.1.1)

device_accounted : (h : Header) (c : Cluster) (ms : List Moment) (updates : List (List ℕ)) (a : AttemptState) (count : ℕ) → Opens h c ms updates a → (d : ℕ) → IsDevice h d → d ≤ 32
    → is_accounted_by (setting_of h) (record { epoch = a.plan.epoch; members = a.plan.members; held = held_set a.devices; count = count }) updates ms d ≡ true
device_accounted h c ms updates a count o d is high = by_empty (length (attached_members h d a.plan.members) == 0) refl
  where
    S : Setting
    S = setting_of h

    by_empty : (b : Bool) → (length (attached_members h d a.plan.members) == 0) ≡ b
        → is_accounted_by S (record { epoch = a.plan.epoch; members = a.plan.members; held = held_set a.devices; count = count }) updates ms d ≡ true
    by_empty true none =
        no_member (has (held_set a.devices) d) (length (attached_members h d a.plan.members) == 0) (is_not_held S a.plan.epoch d updates ms) none
    by_empty false some =
        account (has (held_set a.devices) d) (length (attached_members h d a.plan.members) == 0) (is_not_held S a.plan.epoch d updates ms) (attached_accounted h c ms updates a o d is high some)

-- its start, with the updates that it has installed
pub start_accounted : (h : Header) (c : Cluster) (ms : List Moment) (q : ℕ) (updates : List (List ℕ)) (a : AttemptState) (k : Call) (count : ℕ) → length h.devices ≤ 32 → AttemptShown h ms q a → May a k
    → starts_in (turn a k).steps ≡ true → AreKept a → (a.phase ≡ Installing → Installed (setting_of h) c a updates)
    → AreAccounted (setting_of h) (record { epoch = (turn a k).after.plan.epoch; members = (turn a k).after.plan.members; held = held_set (turn a k).after.devices; count = count }) updates ms
start_accounted h c ms q updates a k count few so may starts kept votes =
    let at : a.phase ≡ Installing = starts_follow a k so.reached may starts in
    subst (λ (p : Plan). AreAccounted (setting_of h) (record { epoch = p.epoch; members = p.members; held = held_set (turn a k).after.devices; count = count }) updates ms) (sym (plan_stays a k may))
    (subst (λ ds. AreAccounted (setting_of h) (record { epoch = a.plan.epoch; members = a.plan.members; held = held_set ds; count = count }) updates ms) (sym (devices_stand a k may at))
    (all_within (is_accounted_by (setting_of h) (record { epoch = a.plan.epoch; members = a.plan.members; held = held_set a.devices; count = count }) updates ms) (length h.devices)
    (λ d low high. device_accounted h c ms updates a count (record { session = q; so = so; at = at; kept = kept; votes = votes at }) d (low, high) (at_most d (length h.devices) high few))))
  where
    at_most : (i n : ℕ) → i ≤ n → n ≤ 32 → i ≤ 32
    at_most i n j l = omega (arith, j, l)
