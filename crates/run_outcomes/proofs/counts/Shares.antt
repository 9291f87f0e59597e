-- The votes that an attempt counts where it ends for want of them: those of its members, and of each enabled device that is not listed as lacking.
use Rattle.std.specs.Prelude.{ℕ, ◌+◌, ◌≡◌, ◌≤◌, ◌==◌, ◌&&◌, ◌||◌, nat_le, nat_lt, not, Bool, true, false, if◌then◌else◌, List, [], ◌∷◌, filter, length, Option, None, Some, suc}
use Rattle.std.specs.List.{list_all, list_any}
use Rattle.std.proofs.Common.{refl, sym, ap, subst, ◌∙◌, arith}
use Rattle.cl_base.specs.Sets.{has}
use Rattle.cl_base.specs.declared.header.Header.{Header}
use Rattle.cl_base.specs.declared.seizing.Lack.{Lack}
use Rattle.cmm_attempt.proofs.Basics.{false_true}
use Rattle.cmm_attempt.specs.Counts.{is_enabled as is_counted, is_enabled_state}
use Rattle.history.specs.Attempts.{attached_members, counted_devices, counts, is_listed, may_be_enough, set_of}
use Rattle.history.specs.Queue.{is_enabled}
use Rattle.history.specs.Setting.{all_to, nodes_of, paths_of}
use Rattle.quorum_votes.specs.Sums.{sum_to}
use Rattle.quorum_votes.specs.Tables.{VoteTable}
use Rattle.quorum_votes.specs.Votes.{device_at, device_share, device_votes_in, device_votes_of, held_of, needed_of, node_votes_of, state_of, votes_of_device}
use Rattle.quorum_votes.specs.declared.state.DevState.{DevState}
use Rattle.quorum_votes.specs.declared.state.DevState.TheVariants.{Absent, Disabled, Enabled}
use Rattle.quorum_votes.specs.declared.state.VoteDevice.{VoteDevice}
use Rattle.run_outcomes.proofs.counts.Passing.{set_passes, same_sum, less_sum, and_both, and_parts, not_parts, all_pass}

-- ---- devices

-- one that is not enabled has no votes
no_votes : (v : VoteTable) (o : Option VoteDevice) → is_enabled_state (state_of o) ≡ false → votes_of_device v o ≡ 0
no_votes v None h = refl
no_votes v (Some x) h = by_state x.state h
  where
    by_state : (s : DevState) → is_enabled_state s ≡ false → device_votes_in v s x.attached ≡ 0
    by_state Enabled h = absurd (false_true (sym h))
    by_state Disabled h = refl
    by_state Absent h = refl

same_enabled : (s : DevState) → is_enabled s ≡ is_enabled_state s
same_enabled Enabled = refl
same_enabled Disabled = refl
same_enabled Absent = refl

abbrev pub Unlisted : VoteTable → List Lack → ℕ → Bool
Unlisted v lacking d = is_enabled (state_of (device_at v d)) && not (is_listed d lacking)

-- each enabled device is in the set where it is not listed
abbrev pub Lists : VoteTable → List Lack → ℕ → Type 0
Lists v lacking set = (d : ℕ) → 1 ≤ d → d ≤ 16 → is_counted v d ≡ true → has set d ≡ not (is_listed d lacking)

pub counted_held : (v : VoteTable) (members set : ℕ) (lacking : List Lack) → Lists v lacking set → held_of v members (set_of (counted_devices 16 v lacking)) ≡ held_of v members set
counted_held v members set lacking h = ap (λ z. node_votes_of v members + z) (same_sum (device_share v (set_of (counted_devices 16 v lacking))) (device_share v set) 16 (λ d low high. one d low high (is_counted v d) refl))
  where
    one : (d : ℕ) → 1 ≤ d → d ≤ 16 → (t : Bool) → is_counted v d ≡ t → device_share v (set_of (counted_devices 16 v lacking)) d ≡ device_share v set d
    one d low high true enabled =
        ap (λ b. if b then device_votes_of v d else 0)
        (set_passes (Unlisted v lacking) d low high ∙ (ap (λ b. b && not (is_listed d lacking)) (same_enabled (state_of (device_at v d)) ∙ enabled) ∙ sym (h d low high enabled)))
    one d low high false disabled = nothing (has (set_of (counted_devices 16 v lacking)) d) ∙ sym (nothing (has set d))
      where
        nothing : (b : Bool) → (if b then device_votes_of v d else 0) ≡ 0
        nothing true = no_votes v (device_at v d) disabled
        nothing false = refl

-- ---- members with a path

any_filter : (test : ℕ → Bool) (ns : List ℕ) → list_any test ns ≡ true → nat_lt 0 (length (filter test ns)) ≡ true
any_filter test [] h = absurd (false_true h)
any_filter test (n ∷ ns) h = by_test (test n) h (λ rest. any_filter test ns rest)
  where
    by_test : (t : Bool) → (t || list_any test ns) ≡ true → (list_any test ns ≡ true → nat_lt 0 (length (filter test ns)) ≡ true) → nat_lt 0 (length (if t then n ∷ filter test ns else filter test ns)) ≡ true
    by_test true h next = some (length (filter test ns))
      where
        some : (k : ℕ) → nat_lt 0 (suc k) ≡ true
        some k = grind arith
    by_test false h next = next h

-- each enabled device that is not listed has a member with a path to it
abbrev pub Reaches : Header → VoteTable → ℕ → List Lack → Type 0
Reaches h v members lacking = (d : ℕ) → 1 ≤ d → d ≤ 16 → is_counted v d ≡ true → is_listed d lacking ≡ false → list_any (λ m. has (paths_of h d) m) (nodes_of members) ≡ true

-- ---- the count

same_is : (a b : ℕ) → a ≡ b → (a == b) ≡ true
same_is a b e = grind arith

unlisted_parts : (v : VoteTable) (lacking : List Lack) (d : ℕ) → Unlisted v lacking d ≡ true → (is_counted v d ≡ true) × (is_listed d lacking ≡ false)
unlisted_parts v lacking d is =
    let parts : (is_enabled (state_of (device_at v d)) ≡ true) × (not (is_listed d lacking) ≡ true) = and_parts (is_enabled (state_of (device_at v d))) (not (is_listed d lacking)) is in
    (sym (same_enabled (state_of (device_at v d))) ∙ parts.0, not_parts (is_listed d lacking) parts.1)

pub counts_so : (h : Header) (v : VoteTable) (members set have need : ℕ) (lacking : List Lack) → Lists v lacking set → Reaches h v members lacking → have ≡ held_of v members set → need ≡ needed_of v → counts h v members have need lacking ≡ true
counts_so h v members set have need lacking lists reaches held needed =
    and_both _ (list_all (λ d. nat_lt 0 (length (attached_members h d members))) (counted_devices 16 v lacking))
    (and_both (held_of v members (set_of (counted_devices 16 v lacking)) == have) (needed_of v == need) (same_is _ have (counted_held v members set lacking lists ∙ sym held)) (same_is (needed_of v) need (sym needed)))
    (all_pass (λ d. nat_lt 0 (length (attached_members h d members))) (Unlisted v lacking) 16
    (λ d low high is.
    let parts : (is_counted v d ≡ true) × (is_listed d lacking ≡ false) = unlisted_parts v lacking d is in
    any_filter (λ m. has (paths_of h d) m) (nodes_of members) (reaches d low high parts.0 parts.1)))

-- what is in the set is not listed, and a member has a path to it
abbrev pub Holds : Header → VoteTable → ℕ → ℕ → List Lack → Type 0
Holds h v members set lacking = (d : ℕ) → 1 ≤ d → d ≤ 16 → is_counted v d ≡ true → has set d ≡ true → (is_listed d lacking ≡ false) × (list_any (λ m. has (paths_of h d) m) (nodes_of members) ≡ true)

abbrev in_reach : Header → ℕ → ℕ → Bool
in_reach h members d = nat_lt 0 (length (attached_members h d members))

filter_twice : (f g : ℕ → Bool) (ns : List ℕ) → filter f (filter g ns) ≡ filter (λ n. g n && f n) ns
filter_twice f g [] = refl
filter_twice f g (n ∷ ns) = by_test (g n) (filter_twice f g ns)
  where
    by_test : (t : Bool) → filter f (filter g ns) ≡ filter (λ m. g m && f m) ns → filter f (if t then n ∷ filter g ns else filter g ns) ≡ (if t && f n then n ∷ filter (λ m. g m && f m) ns else filter (λ m. g m && f m) ns)
    by_test true h = ap (λ zs. if f n then n ∷ zs else zs) h
    by_test false h = h

pub enough_so : (h : Header) (v : VoteTable) (members set : ℕ) (lacking : List Lack) → Holds h v members set lacking → needed_of v ≤ held_of v members set → may_be_enough h v members lacking ≡ true
enough_so h v members set lacking holds enough = at_most (needed_of v) (held_of v members set) (held_of v members (set_of kept)) enough held
  where
    kept : List ℕ
    kept = filter (in_reach h members) (counted_devices 16 v lacking)

    at_most : (a b c : ℕ) → a ≤ b → b ≤ c → nat_le a c ≡ true
    at_most a b c l m = grind arith

    both : ℕ → Bool
    both d = Unlisted v lacking d && in_reach h members d

    one : (d : ℕ) → 1 ≤ d → d ≤ 16 → (t b : Bool) → is_counted v d ≡ t → has set d ≡ b → (if b then device_votes_of v d else 0) ≤ device_share v (set_of kept) d
    one d low high t false e f = omega arith
    one d low high false true e f = subst (λ z. z ≤ device_share v (set_of kept) d) (sym (no_votes v (device_at v d) e)) (omega arith)
    one d low high true true e f =
        let parts : (is_listed d lacking ≡ false) × (list_any (λ m. has (paths_of h d) m) (nodes_of members) ≡ true) = holds d low high e f in
        let passes : both d ≡ true =
        and_both (Unlisted v lacking d) (in_reach h members d)
        (and_both (is_enabled (state_of (device_at v d))) (not (is_listed d lacking)) (same_enabled (state_of (device_at v d)) ∙ e) (ap not parts.0)) (any_filter (λ m. has (paths_of h d) m) (nodes_of members) parts.1) in
        let is : has (set_of kept) d ≡ true = ap (λ ns. has (set_of ns) d) (filter_twice (in_reach h members) (Unlisted v lacking) (all_to 16)) ∙ (set_passes both d low high ∙ passes) in
        subst (λ b. device_votes_of v d ≤ (if b then device_votes_of v d else 0)) (sym is) (omega arith)

    held : held_of v members set ≤ held_of v members (set_of kept)
    held = more (node_votes_of v members) (sum_to (device_share v set) 16) (sum_to (device_share v (set_of kept)) 16) (less_sum (device_share v set) (device_share v (set_of kept)) 16 (λ d low high. one d low high (is_counted v d) (has set d) refl refl))
      where
        more : (a b c : ℕ) → b ≤ c → a + b ≤ a + c
        more a b c l = omega (arith, l)
