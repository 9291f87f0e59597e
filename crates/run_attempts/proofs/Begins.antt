-- An attempt that is due begins with the nodes that its coordinator sees.
use Rattle.std.specs.Prelude.{ℕ, ◌≡◌, ◌≤◌, ◌==◌, ◌&&◌, ◌||◌, not, nat_le, Bool, true, false, List, ◌∷◌, Option, None, Some, IfSome}
use Rattle.std.specs.List.{list_any}
use Rattle.std.proofs.Common.{refl, sym, ap, subst, ◌∙◌, arith}
use Rattle.cl_base.specs.Sets.{has}
use Rattle.cmm_attempt.proofs.Basics.{and_cases, false_true}
use Rattle.node_model.specs.Ticks.{membership_of}
use Rattle.wire.specs.declared.message.Body.{Body}
use Rattle.wire.specs.declared.message.Body.TheVariants as body
use Rattle.history.specs.Member.{member_of}
use Rattle.heartbeats.specs.Due.{breaks, is_apart, is_broken, shows_apart, some_to, wants_another, begins, begins_with, is_least}
use Rattle.heartbeats.specs.Peers.{is_near, peer_in}
use Rattle.heartbeats.specs.State.{State}
use Rattle.heartbeats.specs.Views.{is_in_view, view_of}
use Rattle.heartbeats.specs.declared.due.Membership.{Membership}
use Rattle.heartbeats.specs.declared.peer.Peer.{Peer}
use Rattle.history.specs.Attempts.{age_of, before_tick, breaks as breaks_told, configured_for, has_reason, is_recent, last_heartbeat, sees}
use Rattle.history.specs.Moment.{Moment}
use Rattle.history.specs.Setting.{Setting, coordinator, nodes_of}
use Rattle.history.specs.Trace.{saved}
use Rattle.node_model.specs.declared.cluster.Cluster.{Cluster}
use Rattle.node_model.specs.declared.node.UpNode.{UpNode}
use Rattle.schedule_text.specs.declared.event.Event.TheVariants.{Tick}
use Rattle.run_attempts.specs.Heard.{AgeSo, BeatsSo, NearSo, beat_of, beat_told}
use Rattle.run_attempts.specs.Judged.{InTick, IsSetOf, SeatTold}
use Rattle.run_attempts.specs.Laws.{BeginsSo, SeesMembers, beat_age_of, hears}
use Rattle.run_attempts.specs.Steps.{IsDue}
use Rattle.run_attempts.proofs.Alike.{tick_stays}
use Rattle.run_attempts.proofs.Sets.{all_numbers, all_of_all, any_number, has_where, least_first}
use Rattle.run_attempts.proofs.Walk.{Judges}

-- ---- ages

recent : (k : ℕ) → k ≤ 3 → nat_le k 3 ≡ true
recent k h = grind arith

low : (k : ℕ) → nat_le k 3 ≡ true → k ≤ 3
low k h = grind arith

at_most : (a b : ℕ) → a ≤ b → b ≤ 3 → a ≤ 3
at_most a b h k = omega (arith, h, k)

near_recent : (peer : Option Peer) (age : Option ℕ) → AgeSo peer age → is_near peer ≡ true → is_recent age ≡ true
near_recent None age h near = absurd (false_true near)
near_recent (Some peer) None h near = absurd h
near_recent (Some peer) (Some k) h near = recent k (at_most k peer.age (h (low peer.age near)) (low peer.age near))

recent_near : (peer : Option Peer) (age : Option ℕ) → NearSo peer age → is_recent age ≡ true → is_near peer ≡ true
recent_near peer None h late = absurd (false_true late)
recent_near None (Some k) h late = absurd h
recent_near (Some peer) (Some k) h late = recent peer.age (at_most peer.age k h (low k late))

-- ---- the view

seen_so : (a b c d e : Bool) → (a || (b && (not c || d))) ≡ true → (b ≡ true → e ≡ true) → (a || (e && (d || not c))) ≡ true
seen_so true b c d e h f = refl
seen_so false true true true e h f = ap (λ x. x && true) (f refl)
seen_so false true true false e h f = absurd (false_true h)
seen_so false true false true e h f = ap (λ x. x && true) (f refl)
seen_so false true false false e h f = ap (λ x. x && true) (f refl)
seen_so false false c d e h f = absurd (false_true h)

-- a node that passes both tests passes that of the view
viewed_so : (a b c d : Bool) → b ≡ true → (d || not c) ≡ true → (a || (b && (not c || d))) ≡ true
viewed_so true b c d h k = refl
viewed_so false true true true h k = refl
viewed_so false true true false h k = k
viewed_so false true false true h k = refl
viewed_so false true false false h k = refl
viewed_so false false c d h k = absurd (false_true h)

-- the test of the view, by what is configured and by the node's own number
abbrev Viewed : State → ℕ → (ℕ → Bool) → ℕ → Bool
Viewed s n test m = (m == n) || (is_near (peer_in s.peers m) && (not (test n) || test m))

view_test : (s : State) (configured n m : ℕ) (test : ℕ → Bool) → s.me ≡ n → 1 ≤ n → n ≤ 32 → 1 ≤ m → m ≤ 32 → IsSetOf configured test → has (view_of s.me s.peers configured) m ≡ Viewed s n test m
unfolding view_of
view_test s configured n m test me low_n high_n low_m high_m same =
    has_where (is_in_view s.me s.peers configured) 32 m (omega arith) low_m high_m
    ∙ (ap (λ k. (m == k) || (is_near (peer_in s.peers m) && (not (has configured k) || has configured m))) me
    ∙ (ap (λ b. (m == n) || (is_near (peer_in s.peers m) && (not b || has configured m))) (same n low_n high_n)
    ∙ ap (λ b. (m == n) || (is_near (peer_in s.peers m) && (not (test n) || b))) (same m low_m high_m)))

member_seen : (s : State) (configured n m : ℕ) (test : ℕ → Bool) (ms : List Moment) → BeatsSo ms n s → 1 ≤ n → n ≤ 32 → IsSetOf configured test → 1 ≤ m → m ≤ 32 → has (view_of s.me s.peers configured) m ≡ true → sees test n ms m ≡ true
member_seen s configured n m test ms h low_n high_n same low_m high_m is =
    seen_so (m == n) (is_near (peer_in s.peers m)) (test n) (test m) (is_recent (age_of n m ms)) (sym (view_test s configured n m test h.me low_n high_n low_m high_m same) ∙ is)
    (near_recent (peer_in s.peers m) (age_of n m ms) (h.peers m low_m high_m).age)

implies : (a b : Bool) → (a ≡ true → b ≡ true) → (not a || b) ≡ true
implies true b f = f refl
implies false b f = refl

heard_member : (s : State) (configured n m : ℕ) (test : ℕ → Bool) (ms : List Moment) → BeatsSo ms n s → 1 ≤ n → n ≤ 32 → IsSetOf configured test → 1 ≤ m → m ≤ 32 → hears test n ms m ≡ true → has (view_of s.me s.peers configured) m ≡ true
heard_member s configured n m test ms h low_n high_n same low_m high_m is =
    let parts : (is_recent (beat_age_of n m ms) ≡ true) × ((test m || not (test n)) ≡ true) = and_cases (is_recent (beat_age_of n m ms)) (test m || not (test n)) is in
    view_test s configured n m test h.me low_n high_n low_m high_m same
    ∙ viewed_so (m == n) (is_near (peer_in s.peers m)) (test n) (test m) (recent_near (peer_in s.peers m) (beat_age_of n m ms) (h.peers m low_m high_m).near parts.0) parts.1

sees_members : (s : State) (configured n members : ℕ) (test : ℕ → Bool) (ms : List Moment) → BeatsSo ms n s → 1 ≤ n → n ≤ 32 → members ≡ view_of s.me s.peers configured → IsSetOf configured test
    → SeesMembers (saved n ∷ ms) n members test
sees_members s configured n members test ms h low_n high_n taken same = record {
  seen = all_numbers (sees test n (saved n ∷ ms)) members 32 (omega arith)
      (λ m low_m high_m is. member_seen s configured n m test ms h low_n high_n same low_m high_m (subst (λ set. has set m ≡ true) taken is));
  heard = all_of_all (λ m. not (hears test n (saved n ∷ ms) m) || has members m) 32 (omega arith)
      (λ m low_m high_m. implies (hears test n (saved n ∷ ms) m) (has members m)
      (λ is. subst (λ set. has set m ≡ true) (sym taken) (heard_member s configured n m test ms h low_n high_n same low_m high_m is)));
}

-- ---- the attempt

least_so : (s : State) (configured : ℕ) (m : Option Membership) (members : ℕ) → s.view ≡ Some members → begins s configured m ≡ true → is_least members s.me ≡ true
least_so s configured m members at is =
    let so : begins_with s configured m (Some members) ≡ true = subst (λ o. begins_with s configured m o ≡ true) at is in
    (and_cases _ _ (and_cases _ _ (and_cases _ _ so).0).0).0

if_some_with : (o : Option (ℕ → Bool)) (P Q : (ℕ → Bool) → Type 0) → ((test : ℕ → Bool) → P test → Q test) → IfSome o P → IfSome o Q
if_some_with None P Q f h = tt
if_some_with (Some test) P Q f h = f test h

-- ---- the reason

or_second : (a b c : Bool) → (a || b) ≡ true → (b ≡ true → c ≡ true) → (a || c) ≡ true
or_second true b c h f = refl
or_second false b c h f = f h

and_parts : (a b c d : Bool) → (a && b && c) ≡ true → (c ≡ true → d ≡ true) → (b ≡ true) × ((a && d) ≡ true)
and_parts a b c d h f =
    let two : ((a && b) ≡ true) × (c ≡ true) = and_cases (a && b) c h in
    let one : (a ≡ true) × (b ≡ true) = and_cases a b two.0 in
    (one.1, ap (λ x. x && d) one.0 ∙ f two.1)

-- a heartbeat that shows another session, or a greater promise
apart_told : (e : ℕ) (told : Option Body) → is_apart e (beat_told told) ≡ true → breaks_told e told ≡ true
apart_told e None h = absurd (false_true h)
apart_told e (Some (body.Heartbeat promised session is_one)) h = h
apart_told e (Some _) h = absurd (false_true h)

shown_apart : (e : ℕ) (peer : Option Peer) (told : Option Body) → beat_of peer ≡ beat_told told → shows_apart e peer ≡ true → breaks_told e told ≡ true
shown_apart e None told is h = absurd (false_true h)
shown_apart e (Some peer) told is h = apart_told e told (subst (λ o. is_apart e o ≡ true) is h)

-- one of the members is heard to be elsewhere
broken_one : (s : State) (m : Membership) (n k : ℕ) (start ms : List Moment) → BeatsSo ms n s → ((j : ℕ) → last_heartbeat n j ms ≡ last_heartbeat n j start) → 1 ≤ k → k ≤ 32 → breaks s m k ≡ true
    → (has m.members k ≡ true) × ((not (k == n) && breaks_told m.epoch (last_heartbeat n k start)) ≡ true)
broken_one s m n k start ms h same low high is =
    and_parts (not (k == n)) (has m.members k) (shows_apart m.epoch (peer_in s.peers k)) (breaks_told m.epoch (last_heartbeat n k start))
    (subst (λ j. (not (k == j) && has m.members k && shows_apart m.epoch (peer_in s.peers k)) ≡ true) h.me is)
    (λ apart. shown_apart m.epoch (peer_in s.peers k) (last_heartbeat n k start) ((h.peers k low high).beat ∙ ap beat_told (same k)) apart)

wants_so : (s : State) (configured : ℕ) (m : Option Membership) (members : ℕ) → s.view ≡ Some members → begins s configured m ≡ true → wants_another s members m ≡ true
wants_so s configured m members at is =
    let so : begins_with s configured m (Some members) ≡ true = subst (λ o. begins_with s configured m o ≡ true) at is in
    (and_cases _ _ (and_cases _ _ so).0).1

reason_so : (s : State) (member : Option Membership) (n members : ℕ) (start ms : List Moment) → SeatTold start n member → ((j : ℕ) → last_heartbeat n j ms ≡ last_heartbeat n j start) → BeatsSo ms n s → wants_another s members member ≡ true
    → has_reason n members start (member_of n start) ≡ true
unfolding is_broken
reason_so s None n members start ms seat same h wants = subst (λ o. has_reason n members start o ≡ true) (sym seat) refl
reason_so s (Some m) n members start ms seat same h wants =
    subst (λ o. has_reason n members start o ≡ true) (sym seat.0)
    (subst (λ set. (not (set == members) || list_any (λ k. not (k == n) && breaks_told m.epoch (last_heartbeat n k start)) (nodes_of set)) ≡ true) (sym seat.1)
    (or_second (not (m.members == members)) (some_to (breaks s m) 32) (list_any (λ k. not (k == n) && breaks_told m.epoch (last_heartbeat n k start)) (nodes_of m.members)) wants
    (λ broken. any_number (breaks s m) (λ k. not (k == n) && breaks_told m.epoch (last_heartbeat n k start)) m.members 32 (omega arith)
    (λ k low high is. broken_one s m n k start ms h same low high is) broken)))

begins_at : (S : Setting) (c : Cluster) (n configured : ℕ) (member : Option Membership) (ms : List Moment) (x : UpNode) (p members : ℕ) → 1 ≤ n → n ≤ 32 → InTick S n configured member ms → BeatsSo ms n x.beats → coordinator p ≡ n
    → IsDue c configured member x p members → BeginsSo S (saved n ∷ ms) p members
begins_at S c n configured member ms x p members low high k h own wish = record {
  in_a_tick = k.way ∙ ap (λ j. Some (Tick j)) (sym own);
  least = least_first members n high (subst (λ j. is_least members j ≡ true) h.me (least_so x.beats _ _ members wish.view wish.begins_so)) ∙ ap (λ j. Some j) (sym own);
  sees = subst (λ j. IfSome (configured_for S j (before_tick j (saved n ∷ ms))) (SeesMembers (saved n ∷ ms) j members)) (sym own)
      (if_some_with (configured_for S n (before_tick n ms)) (IsSetOf configured) (SeesMembers (saved n ∷ ms) n members)
      (λ test same. sees_members x.beats configured n members test ms h low high wish.taken same) k.known);
  reason = subst (λ j. has_reason j members (before_tick j (saved n ∷ ms)) (member_of j (before_tick j (saved n ∷ ms))) ≡ true) (sym own)
      (reason_so x.beats member n members (before_tick n ms) ms k.seat k.beats h (subst (λ m. wants_another x.beats members m ≡ true) wish.seat (wants_so x.beats _ (membership_of x.seat) members wish.view wish.begins_so)));
}

pub judges_tick : (S : Setting) (c : Cluster) (n configured : ℕ) (member : Option Membership) → 1 ≤ n → n ≤ 32 → Judges S n (IsDue c configured member) (InTick S n configured member)
judges_tick S c n configured member low high = record {
  stays = λ before after alike k. tick_stays S n configured member before after alike k;
  begins_so = λ ms x p members k h own wish. record { in_tick = tt; due = tt; begins_so = begins_at S c n configured member ms x p members low high k h own wish };
}
