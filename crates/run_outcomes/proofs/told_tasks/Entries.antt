-- The entries of an attempt are so at its start, and every call keeps them so.
use Rattle.std.specs.Prelude.{ℕ, ◌≡◌, ◌≢◌, ◌<◌, ◌≤◌, ◌==◌, ◌&&◌, ◌||◌, not, Bool, true, false, if◌then◌else◌, List, [], ◌∷◌, ◌++◌, filter, Option, None, Some, is_some}
use Rattle.std.specs.List.{AllByRecursion, cons_option, filter_map, find, list_any}
use Rattle.std.proofs.Common.{refl, sym, ap, subst, ◌∙◌, arith}
use Rattle.cl_base.proofs.SetLemmas.{none_of_zero}
use Rattle.cl_base.specs.Seizings.{SeizeResult}
use Rattle.cl_base.specs.Sets.{has, set_with}
use Rattle.cl_base.specs.declared.seizing.SeizeEnd.TheVariants.{NotRegistered}
use Rattle.seize.specs.declared.kind.SeizeKind.TheVariants.{Plain}
use Rattle.cmm_attempt.proofs.Basics.{false_true, none_some, same_number, same_some}
use Rattle.cmm_attempt.specs.Attempts.{AttemptState, plain_devices, vote_entries, vote_entries_under}
use Rattle.cmm_attempt.specs.Counts.{is_quorum, vote_new}
use Rattle.cmm_attempt.specs.Plans.{is_reachable}
use Rattle.cmm_attempt.specs.Promises.{holds_valid}
use Rattle.cmm_attempt.specs.Seizings.{all_settled, first_seizer, is_seized, may_follow, may_seize, plain_entry, plain_new, vote_entry}
use Rattle.cmm_attempt.specs.declared.attached.AttachedDevice.{AttachedDevice}
use Rattle.cmm_attempt.specs.declared.counting.BothVotes.{BothVotes}
use Rattle.cmm_attempt.specs.declared.plan.Plan.{Plan}
use Rattle.cmm_attempt.specs.declared.promised.Promised.{Promised}
use Rattle.cmm_attempt.specs.declared.seizing.Seizing.{Seizing}
use Rattle.run_outcomes.specs.tasks.Entries.{AreBoth, AreVotes, LedBy, PlainSo, VoteSo, devices_in, has_votes, is_left, quorum_in}
use Rattle.run_outcomes.proofs.told_tasks.Lists.{find_any, found_in, has_more, has_other}

-- ---- whom it asks first

more_than : (a b : ℕ) → a < b → a ≢ b
more_than a b l is = grind arith

among_above : (c n : ℕ) (ns : List ℕ) → AllByRecursion (λ m. c < m) ns → list_any (λ m. m == n) ns ≡ true → c < n
among_above c n [] above h = absurd (false_true h)
among_above c n (m ∷ ns) above h = by_test (m == n) refl (λ k. among_above c n ns above.1 k) h
  where
    by_test : (b : Bool) → (m == n) ≡ b → (list_any (λ k. k == n) ns ≡ true → c < n) → (b || list_any (λ k. k == n) ns) ≡ true → c < n
    by_test true is rest k = subst (λ z. c < z) (same_number m n is) above.0
    by_test false is rest k = rest k

pub in_range : (n : ℕ) (ns : List ℕ) → AllByRecursion (λ m. (1 ≤ m) × (m ≤ 32)) ns → list_any (λ m. m == n) ns ≡ true → (1 ≤ n) × (n ≤ 32)
in_range n [] all h = absurd (false_true h)
in_range n (m ∷ ns) all h = by_test (m == n) refl (λ k. in_range n ns all.1 k) h
  where
    by_test : (b : Bool) → (m == n) ≡ b → (list_any (λ k. k == n) ns ≡ true → (1 ≤ n) × (n ≤ 32)) → (b || list_any (λ k. k == n) ns) ≡ true → (1 ≤ n) × (n ≤ 32)
    by_test true is rest k = subst (λ z. (1 ≤ z) × (z ≤ 32)) (same_number m n is) all.0
    by_test false is rest k = rest k

pub own_range : (plan : Plan) → LedBy plan → (1 ≤ plan.coordinator) × (plan.coordinator ≤ 32)
own_range plan l = (subst (λ ns. AllByRecursion (λ m. (1 ≤ m) × (m ≤ 32)) ns) l.nodes l.range).0

-- the first for whom the test is true is the coordinator, where it is true for it
first_own : (plan : Plan) → LedBy plan → (test : ℕ → Bool) (n : ℕ) → find test plan.nodes ≡ Some n → has (set_with 0 n) plan.coordinator ≡ test plan.coordinator
first_own plan l test n is = by_test (test plan.coordinator) refl (sym (ap (find test) l.nodes) ∙ is)
  where
    c : ℕ
    c = plan.coordinator

    r : (1 ≤ c) × (c ≤ 32)
    r = own_range plan l

    by_test : (b : Bool) → test c ≡ b → (if b then Some c else find test l.others) ≡ Some n → has (set_with 0 n) c ≡ b
    by_test true at k = subst (λ z. has (set_with 0 z) c ≡ true) (same_some c n k) (has_more 0 c r.0 r.1)
    by_test false at k =
        let f : (test n ≡ true) × (list_any (λ m. m == n) l.others ≡ true) = found_in test l.others n k in
        let g : (test n ≡ true) × (list_any (λ m. m == n) plan.nodes ≡ true) = found_in test plan.nodes n is in
        let z : (1 ≤ n) × (n ≤ 32) = in_range n plan.nodes l.range g.1 in
        has_other 0 n c z.0 z.1 (more_than c n (among_above c n l.others l.above f.1)) ∙ none_of_zero c

none_own : (plan : Plan) → LedBy plan → (test : ℕ → Bool) → find test plan.nodes ≡ None → test plan.coordinator ≡ false
none_own plan l test is = by_test (test plan.coordinator) (sym (ap (find test) l.nodes) ∙ is)
  where
    by_test : (b : Bool) → (if b then Some plan.coordinator else find test l.others) ≡ None → b ≡ false
    by_test true k = absurd (none_some plan.coordinator (sym k))
    by_test false k = refl

-- ---- the entries of quorum devices at first

vote_first : (plan : Plan) (promises : List Promised) (a : AttachedDevice) (o : Option ℕ) → LedBy plan → first_seizer plan promises a ≡ o → VoteSo plan promises (vote_entry a o)
vote_first plan promises a (Some n) l is =
    let f : (may_seize promises a n ≡ true) × (list_any (λ m. m == n) plan.nodes ≡ true) = found_in (may_seize promises a) plan.nodes n is in
    let z : (1 ≤ n) × (n ≤ 32) = in_range n plan.nodes l.range f.1 in
    record {
      kind = refl;
      own = first_own plan l (may_seize promises a) n is;
      asks = λ m at.
          subst (λ k. (list_any (λ j. j == k) plan.nodes ≡ true) × (may_seize promises a k ≡ true) × (has (set_with 0 n) k ≡ true)) (same_some n m at) (f.1, f.0, has_more 0 n z.0 z.1);
      nobody = λ none. absurd (none_some n (sym none));
      last = λ keys at. absurd (none_some (NotRegistered keys) at);
    }
vote_first plan promises a None l is = record {
  kind = refl;
  own = none_of_zero plan.coordinator ∙ sym (none_own plan l (may_seize promises a) is);
  asks = λ m at. absurd (none_some m at);
  nobody = λ none. (is, refl);
  last = λ keys at. subst (λ ks. find (may_follow plan.cluster promises (vote_entry a None) ks) plan.nodes ≡ None) (same_keys [] keys (same_some _ _ at)) (no_keys plan.nodes);
}
  where
    keys_of : SeizeResult → List ℕ
    keys_of (NotRegistered ks) = ks
    keys_of _ = []

    same_keys : (xs ys : List ℕ) → NotRegistered xs ≡ NotRegistered ys → xs ≡ ys
    same_keys xs ys e = cc

    never : (a b c : Bool) → (a && b && c && false) ≡ false
    never true true true = refl
    never true true false = refl
    never true false c = refl
    never false b c = refl

    no_keys : (ns : List ℕ) → find (may_follow plan.cluster promises (vote_entry a None) []) ns ≡ None
    no_keys [] = refl
    no_keys (n ∷ ns) = rw (never (has a.nodes n) (holds_valid promises a.device n) (not (has 0 n))) (no_keys ns)

vote_of : (a : AttachedDevice) (o : Option ℕ) → (vote_entry a o).attached ≡ a
vote_of a None = refl
vote_of a (Some n) = refl

-- the votes that were given
votes_first : (s : AttemptState) (both : BothVotes) → LedBy s.plan → (xs : List AttachedDevice)
    → (devices_in (filter_map (vote_new s.plan s.promises both) xs) ≡ filter (λ a. is_quorum both a.device && is_reachable s.plan a) xs)
    × AllByRecursion (VoteSo s.plan s.promises) (filter_map (vote_new s.plan s.promises both) xs)
votes_first s both l [] = (refl, tt)
votes_first s both l (a ∷ xs) = by_test (is_quorum both a.device && is_reachable s.plan a) (votes_first s both l xs)
  where
    rest : List Seizing
    rest = filter_map (vote_new s.plan s.promises both) xs

    test : AttachedDevice → Bool
    test x = is_quorum both x.device && is_reachable s.plan x

    by_test : (b : Bool) → (devices_in rest ≡ filter test xs) × AllByRecursion (VoteSo s.plan s.promises) rest
        → (devices_in (cons_option (if b then Some (vote_entry a (first_seizer s.plan s.promises a)) else None) rest) ≡ (if b then a ∷ filter test xs else filter test xs))
        × AllByRecursion (VoteSo s.plan s.promises) (cons_option (if b then Some (vote_entry a (first_seizer s.plan s.promises a)) else None) rest)
    by_test true k =
        (ap (λ x. x ∷ devices_in rest) (vote_of a (first_seizer s.plan s.promises a)) ∙ ap (λ ys. a ∷ ys) k.0, (vote_first s.plan s.promises a (first_seizer s.plan s.promises a) l refl, k.1))
    by_test false k = k

none_picked : (xs : List AttachedDevice) (test : AttachedDevice → Bool) → ((a : AttachedDevice) → test a ≡ false) → filter test xs ≡ []
none_picked [] test off = refl
none_picked (a ∷ xs) test off = rw (off a) (none_picked xs test off)

entries_by : (s : AttemptState) (o : Option BothVotes) → s.votes ≡ o → LedBy s.plan → AreVotes s.plan s.promises s.votes (vote_entries_under s o)
entries_by s None is l = record { devices = sym (none_picked s.plan.attached (has_votes s.plan s.votes) (λ a. ap (λ o. quorum_in o a.device && is_reachable s.plan a) is)); each = tt }
entries_by s (Some both) is l =
    let k : (devices_in (filter_map (vote_new s.plan s.promises both) s.plan.attached) ≡ filter (λ a. is_quorum both a.device && is_reachable s.plan a) s.plan.attached)
    × AllByRecursion (VoteSo s.plan s.promises) (filter_map (vote_new s.plan s.promises both) s.plan.attached) = votes_first s both l s.plan.attached in
    record { devices = k.0 ∙ ap (λ o. filter (λ (a : AttachedDevice). quorum_in o a.device && is_reachable s.plan a) s.plan.attached) (sym is); each = k.1 }

pub entries_first : (s : AttemptState) → LedBy s.plan → AreVotes s.plan s.promises s.votes (vote_entries s)
entries_first s l = entries_by s s.votes refl l

-- ---- those of the others at first

plain_first : (plan : Plan) (a : AttachedDevice) (n : ℕ) → LedBy plan → find (λ m. has a.nodes m) plan.nodes ≡ Some n
    → PlainSo plan (record { attached = a; kind = Plain; seizer = Some n; asked = set_with 0 n; result = None })
plain_first plan a n l is = record { kind = refl; own = first_own plan l (λ m. has a.nodes m) n is }

pub plains_first : (s : AttemptState) (votes : List Seizing) → LedBy s.plan → (xs : List AttachedDevice)
    → (devices_in (filter_map (plain_new s.plan votes) xs) ≡ filter (is_left s.plan votes) xs) × AllByRecursion (PlainSo s.plan) (filter_map (plain_new s.plan votes) xs)
plains_first s votes l [] = (refl, tt)
plains_first s votes l (a ∷ xs) = by_test (is_seized votes a.device) (plains_first s votes l xs)
  where
    rest : List Seizing
    rest = filter_map (plain_new s.plan votes) xs

    by_found : (o : Option ℕ) → find (λ m. has a.nodes m) s.plan.nodes ≡ o → (devices_in rest ≡ filter (is_left s.plan votes) xs) × AllByRecursion (PlainSo s.plan) rest
        → (devices_in (cons_option (plain_entry a o) rest) ≡ (if is_some o then a ∷ filter (is_left s.plan votes) xs else filter (is_left s.plan votes) xs))
        × AllByRecursion (PlainSo s.plan) (cons_option (plain_entry a o) rest)
    by_found None is k = k
    by_found (Some n) is k = (ap (λ ys. a ∷ ys) k.0, (plain_first s.plan a n l is, k.1))

    by_test : (b : Bool) → (devices_in rest ≡ filter (is_left s.plan votes) xs) × AllByRecursion (PlainSo s.plan) rest
        → (devices_in (cons_option (if b then None else plain_entry a (find (λ m. has a.nodes m) s.plan.nodes)) rest)
        ≡ (if not b && is_reachable s.plan a then a ∷ filter (is_left s.plan votes) xs else filter (is_left s.plan votes) xs))
        × AllByRecursion (PlainSo s.plan) (cons_option (if b then None else plain_entry a (find (λ m. has a.nodes m) s.plan.nodes)) rest)
    by_test true k = k
    by_test false k =
        subst
        (λ z. (devices_in (cons_option (plain_entry a (find (λ m. has a.nodes m) s.plan.nodes)) rest) ≡ (if z then a ∷ filter (is_left s.plan votes) xs else filter (is_left s.plan votes) xs))
        × AllByRecursion (PlainSo s.plan) (cons_option (plain_entry a (find (λ m. has a.nodes m) s.plan.nodes)) rest))
        (find_any (λ m. has a.nodes m) s.plan.nodes) (by_found (find (λ m. has a.nodes m) s.plan.nodes) refl k)

pub both_first : (s : AttemptState) → LedBy s.plan → AreVotes s.plan s.promises s.votes s.devices → all_settled s.devices ≡ true → AreBoth s.plan s.promises s.votes (s.devices ++ plain_devices s)
both_first s l votes settled =
    let k : (devices_in (plain_devices s) ≡ filter (is_left s.plan s.devices) s.plan.attached) × AllByRecursion (PlainSo s.plan) (plain_devices s) = plains_first s s.devices l s.plan.attached in
    record { votes = s.devices; others = plain_devices s; parts = refl; first = votes; settled = settled; devices = k.0; each = k.1 }
