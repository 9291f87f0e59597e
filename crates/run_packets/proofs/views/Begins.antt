-- An attempt that is due begins with the nodes that its coordinator sees.
use Rattle.std.specs.Prelude.{ℕ, zero, suc, ◌-◌, ◌≡◌, ◌⊎◌, ◌≤◌, ◌==◌, ◌&&◌, ◌||◌, not, nat_le, nat_lt, Bool, true, false, List, ◌∷◌, length, Option, None, Some, IfSome, slice_get}
use Rattle.std.proofs.Common.{refl, sym, ap, subst, ◌∙◌, inl, inr, arith}
use Rattle.cl_base.specs.Sets.{has, set_with}
use Rattle.cmm_attempt.proofs.Basics.{and_cases, false_true}
use Rattle.heartbeats.specs.Due.{begins, begins_with, breaks, is_broken, is_least, shows_apart, some_to, wants_another}
use Rattle.heartbeats.specs.Peers.{is_near, peer_in}
use Rattle.heartbeats.specs.State.{State}
use Rattle.heartbeats.specs.Views.{is_in_view, view_of}
use Rattle.heartbeats.specs.declared.due.Membership.{Membership}
use Rattle.history.specs.Attempts.{before_tick, configured_for, is_recent}
use Rattle.history.specs.Moment.{Moment}
use Rattle.history.specs.Setting.{Setting, coordinator, nodes_of}
use Rattle.history.specs.Trace.{attempt, saved}
use Rattle.node_model.specs.Configurations.{configured_at}
use Rattle.node_model.specs.declared.cluster.Cluster.{Cluster}
use Rattle.node_model.specs.declared.node.UpNode.{UpNode}
use Rattle.run_attempts.specs.Judged.{IsSetOf}
use Rattle.run_attempts.specs.Steps.{IsDue, Wish}
use Rattle.run_attempts.proofs.Sets.{has_where, least_first}
use Rattle.run_packets.specs.views.Heard.{BeatsAre}
use Rattle.run_packets.specs.views.Laws.{Account, BeginsNotAlone, HasView, NotAlone, ViewIs, heard_age_of, sees_by}
use Rattle.run_packets.proofs.views.Ages.{near_is}
use Rattle.run_packets.proofs.views.Alone.{Both, IsAlone, KeptWish, has_one}
use Rattle.run_packets.proofs.views.Lists.{listed_so}
use Rattle.run_packets.proofs.views.Same.{Alike}
use Rattle.run_packets.proofs.views.Single.{has_another}
use Rattle.run_packets.proofs.views.Walk.{Judges}

-- In a tick of node n, which began with these nodes configured, as far as the lines tell.
pub record InTick (S : Setting) (n configured : ℕ) (moments : List Moment) : Type 0 where
  pub known : IfSome (configured_for S n (before_tick n moments)) (IsSetOf configured)

-- the test of the view, by what is configured and by the node's own number
abbrev Viewed : State → ℕ → (ℕ → Bool) → ℕ → Bool
Viewed s n test m = (m == n) || (is_near (peer_in s.peers m) && (not (test n) || test m))

view_test : (s : State) (configured n m : ℕ) (test : ℕ → Bool) → s.me ≡ n → 1 ≤ n → n ≤ 32 → 1 ≤ m → m ≤ 32 → IsSetOf configured test → has (view_of s.me s.peers configured) m ≡ Viewed s n test m
unfolding view_of
view_test s configured n m test me low_n high_n low_m high_m same =
    has_where (is_in_view s.me s.peers configured) 32 m (omega arith) low_m high_m
    ∙ (ap (λ k. (m == k) || (is_near (peer_in s.peers m) && (not (has configured k) || has configured m))) me
    ∙ (ap (λ b. (m == n) || (is_near (peer_in s.peers m) && (not b || has configured m))) (same n low_n high_n)
    ∙ ap (λ b. (m == n) || (is_near (peer_in s.peers m) && (not (test n) || b))) (same m low_m high_m)))

turned : (a b : Bool) → (not a || b) ≡ (b || not a)
turned true true = refl
turned true false = refl
turned false true = refl
turned false false = refl

seen_so : (f : Account) (s : State) (configured n m : ℕ) (test : ℕ → Bool) (ms : List Moment) → BeatsAre f ms n s → 1 ≤ n → n ≤ 32 → 1 ≤ m → m ≤ 32 → IsSetOf configured test
    → has (view_of s.me s.peers configured) m ≡ sees_by f test n ms m
seen_so f s configured n m test ms h low_n high_n low_m high_m same =
    view_test s configured n m test h.me low_n high_n low_m high_m same
    ∙ (ap (λ b. (m == n) || (b && (not (test n) || test m))) (near_is (peer_in s.peers m) (heard_age_of f n m ms) (h.peers m low_m high_m))
    ∙ ap (λ b. (m == n) || (is_recent (heard_age_of f n m ms) && b)) (turned (test n) (test m)))

has_view : (f : Account) (s : State) (configured n members : ℕ) (test : ℕ → Bool) (ms : List Moment) → BeatsAre f ms n s → 1 ≤ n → n ≤ 32 → members ≡ view_of s.me s.peers configured → IsSetOf configured test
    → HasView f (saved n ∷ ms) n members test
has_view f s configured n members test ms h low high taken same =
    listed_so members 32 (sees_by f test n (saved n ∷ ms)) (omega arith) (λ m low_m high_m. ap (λ set. has set m) taken ∙ seen_so f s configured n m test ms h low high low_m high_m same)

if_some_with : (o : Option (ℕ → Bool)) (P Q : (ℕ → Bool) → Type 0) → ((test : ℕ → Bool) → P test → Q test) → IfSome o P → IfSome o Q
if_some_with None P Q f h = tt
if_some_with (Some test) P Q f h = f test h

begins_at : (S : Setting) (f : Account) (c : Cluster) (n configured : ℕ) (seat : Option Membership) (ms : List Moment) (x : UpNode) (p members : ℕ) → 1 ≤ n → n ≤ 32 → InTick S n configured ms → BeatsAre f ms n x.beats
    → coordinator p ≡ n → IsDue c configured seat x p members → ViewIs S f (saved n ∷ ms) (attempt p members)
begins_at S f c n configured seat ms x p members low high k h own wish =
    subst (λ j. IfSome (configured_for S j (before_tick j (saved n ∷ ms))) (HasView f (saved n ∷ ms) j members)) (sym own)
    (if_some_with (configured_for S n (before_tick n ms)) (IsSetOf configured) (HasView f (saved n ∷ ms) n members)
    (λ test same. has_view f x.beats configured n members test ms h low high wish.taken same) k.known)

-- ---- not alone

-- of a view that stands: it is not the node's own number alone, or the node is configured; and it is another than the membership, or this is broken
abbrev Stands : State → ℕ → ℕ → Option Membership → Type 0
Stands s configured members m = (is_least members s.me ≡ true) × ((has configured s.me || not (members == set_with 0 s.me)) ≡ true) × (wants_another s members m ≡ true)

stands_so : (s : State) (configured : ℕ) (m : Option Membership) (members : ℕ) → s.view ≡ Some members → begins s configured m ≡ true → Stands s configured members m
stands_so s configured m members at is =
    let so : begins_with s configured m (Some members) ≡ true = subst (λ o. begins_with s configured m o ≡ true) at is in
    let parts : ((is_least members s.me && nat_le 3 s.stable && wants_another s members m) ≡ true) × ((has configured s.me || not (members == set_with 0 s.me)) ≡ true) = and_cases _ _ so in
    let two : ((is_least members s.me && nat_le 3 s.stable) ≡ true) × (wants_another s members m ≡ true) = and_cases _ _ parts.0 in
    ((and_cases _ _ two.0).0, parts.1, two.1)

or_true : (a : Bool) → (a || true) ≡ true
or_true true = refl
or_true false = refl

either : (a b d : Bool) → (a || d) ≡ true → (d ≡ true → b ≡ true) → (a || b) ≡ true
either true b d h f = refl
either false b d h f = f h

another : (s : State) (configured n members : ℕ) → n ≤ 32 → 1 ≤ n → members ≡ view_of s.me s.peers configured → is_least members n ≡ true → not (members == set_with 0 n) ≡ true → nat_lt 1 (length (nodes_of members)) ≡ true
unfolding view_of
another s configured n members high low taken least other =
    let test : ℕ → Bool = is_in_view s.me s.peers configured in
    let parts : (has members n ≡ true) × (not (some_to (has members) (n - 1)) ≡ true) = and_cases _ _ least in
    subst (λ set. nat_lt 1 (length (nodes_of set)) ≡ true) (sym taken)
    (has_another test n low high (subst (λ set. has set n ≡ true) taken parts.0) (subst (λ set. slice_get (nodes_of set) 0 ≡ Some n) taken (least_first members n high least))
    (subst (λ set. not (set == set_with 0 n) ≡ true) taken other))

-- a membership of this node alone is not broken, so that the view is another
none_to : (test : ℕ → Bool) (k : ℕ) → ((m : ℕ) → test m ≡ false) → some_to test k ≡ false
none_to test zero h = refl
none_to test (suc k) h = ap (λ b. b || test (suc k)) (none_to test k h) ∙ h (suc k)

never_both : (a b : Bool) → (not a && a && b) ≡ false
never_both true b = refl
never_both false b = refl

unbroken : (s : State) (m : Membership) (n : ℕ) → 1 ≤ n → n ≤ 32 → s.me ≡ n → m.members ≡ set_with 0 n → is_broken s m ≡ false
unfolding is_broken
unbroken s m n low high me only = none_to (breaks s m) 32 one
  where
    one : (k : ℕ) → breaks s m k ≡ false
    one k =
        ap (λ j. not (k == j) && has m.members k && shows_apart m.epoch (peer_in s.peers k)) me
        ∙ (ap (λ b. not (k == n) && b && shows_apart m.epoch (peer_in s.peers k)) (ap (λ set. has set k) only ∙ has_one n k low high) ∙ never_both (k == n) (shows_apart m.epoch (peer_in s.peers k)))

first_only : (a b : Bool) → (a || b) ≡ true → b ≡ false → a ≡ true
first_only true b h none = refl
first_only false b h none = absurd (false_true (sym none ∙ h))

turned_not : (a b : ℕ) → not (a == b) ≡ true → not (b == a) ≡ true
turned_not a b h = grind arith

other_view : (s : State) (member : Option Membership) (members n : ℕ) → 1 ≤ n → n ≤ 32 → s.me ≡ n → IsAlone n member → wants_another s members member ≡ true → not (members == set_with 0 n) ≡ true
other_view s None members n low high me alone wants = absurd alone
other_view s (Some m) members n low high me alone wants =
    turned_not (set_with 0 n) members (subst (λ set. not (set == members) ≡ true) alone (first_only (not (m.members == members)) (is_broken s m) wants (unbroken s m n low high me alone)))

not_alone : (s : State) (configured now n members : ℕ) (seat : Option Membership) (test : ℕ → Bool) → s.me ≡ n → 1 ≤ n → n ≤ 32 → members ≡ view_of s.me s.peers configured → Stands s now members seat → IsSetOf configured test
    → (now ≡ configured) ⊎ IsAlone n seat → NotAlone n members test
not_alone s configured now n members seat test me low high taken stands same (inr alone) =
    let least : is_least members n ≡ true = subst (λ j. is_least members j ≡ true) me stands.0 in
    either (test n) (nat_lt 1 (length (nodes_of members))) true (or_true (test n)) (λ e. another s configured n members high low taken least (other_view s seat members n low high me alone stands.2))
not_alone s configured now n members seat test me low high taken stands same (inl is) =
    let least : is_least members n ≡ true = subst (λ j. is_least members j ≡ true) me stands.0 in
    let so : (has now n || not (members == set_with 0 n)) ≡ true = subst (λ j. (has now j || not (members == set_with 0 j)) ≡ true) me stands.1 in
    either (test n) (nat_lt 1 (length (nodes_of members))) (not (members == set_with 0 n))
    (subst (λ b. (b || not (members == set_with 0 n)) ≡ true) (ap (λ set. has set n) is ∙ same n low high) so) (λ other. another s configured n members high low taken least other)

-- the attempt is due, and what is configured is as the tick began or the node was alone then
abbrev pub DueWish : Cluster → ℕ → ℕ → Option Membership → Wish
DueWish c n configured seat = Both (IsDue c configured seat) (KeptWish c n configured seat)

alone_at : (S : Setting) (f : Account) (c : Cluster) (n configured : ℕ) (seat : Option Membership) (ms : List Moment) (x : UpNode) (p members : ℕ) → 1 ≤ n → n ≤ 32
    → InTick S n configured ms → BeatsAre f ms n x.beats → coordinator p ≡ n → DueWish c n configured seat x p members → BeginsNotAlone S (saved n ∷ ms) (attempt p members)
alone_at S f c n configured seat ms x p members low high k h own wish =
    let due : IsDue c configured seat x p members = wish.0 in
    subst (λ j. IfSome (configured_for S j (before_tick j (saved n ∷ ms))) (NotAlone j members)) (sym own)
    (if_some_with (configured_for S n (before_tick n ms)) (IsSetOf configured) (NotAlone n members)
    (λ test same. not_alone x.beats configured (configured_at c x) n members seat test h.me low high due.taken
    (stands_so x.beats (configured_at c x) seat members due.view (subst (λ m. begins x.beats (configured_at c x) m ≡ true) due.seat due.begins_so)) same wish.1) k.known)

-- ---- both

tick_stays : (S : Setting) (f : Account) (n configured : ℕ) (before after : List Moment) → Alike f before after → InTick S n configured before → InTick S n configured after
tick_stays S f n configured before after same h = record { known = subst (λ ms. IfSome (configured_for S n ms) (IsSetOf configured)) (sym (same.ticks n)) h.known }

pub judges_tick : (S : Setting) (f : Account) (c : Cluster) (n configured : ℕ) (seat : Option Membership) → 1 ≤ n → n ≤ 32 → Judges S f n (DueWish c n configured seat) (InTick S n configured)
judges_tick S f c n configured seat low high = record {
  stays = λ before after alike k. tick_stays S f n configured before after alike k;
  begins_so = λ ms x p members k h own wish. record {
    view = begins_at S f c n configured seat ms x p members low high k h own wish.0;
    alone = alone_at S f c n configured seat ms x p members low high k h own wish;
  };
}
