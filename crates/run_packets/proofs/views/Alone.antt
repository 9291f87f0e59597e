-- What is configured for a node changes in a tick, before its attempt begins, only where it is the one member of its membership.
use Rattle.std.specs.Prelude.{ℕ, ◌-◌, ◌^◌, ◌≡◌, ◌⊎◌, ◌≤◌, ◌==◌, ◌&&◌, ◌||◌, not, nat_le, Bool, true, false, List, Option, None, Some}
use Rattle.std.proofs.Common.{refl, sym, ap, subst, ◌∙◌, inl, inr, arith}
use Rattle.std.proofs.Math.Pow.{pow-lt}
use Rattle.std.proofs.lemmas.Nat.{or_lt}
use Rattle.ccr_commit.specs.Entries.{EntryList, with_next}
use Rattle.cl_base.proofs.SetLemmas.{and_bit_value, has_with, has_without, none_of_zero, or_bit_value, same_set}
use Rattle.cl_base.specs.Sets.{has, set_with, set_without}
use Rattle.cl_base.specs.declared.header.Version.{Version}
use Rattle.cl_base.specs.declared.header.Version.TheVariants.{One, Two}
use Rattle.cl_base.specs.declared.method.Outcome.{Outcome}
use Rattle.cmm_attempt.proofs.Basics.{if_either, same_number}
use Rattle.cmm_attempt.specs.Attempts.{AttemptState}
use Rattle.cmm_attempt.specs.Calls.{Tick as Call_tick}
use Rattle.config_cache.specs.InForce.{config_under}
use Rattle.device_queue.specs.Queue.{after_seize}
use Rattle.heartbeats.specs.declared.due.Membership.{Membership}
use Rattle.node_model.specs.Configurations.{configured_at, configured_by, configured_under}
use Rattle.node_model.specs.Groups.{orders_again, own_order}
use Rattle.node_model.specs.Seats.{record_of, state_of, version_of}
use Rattle.node_model.specs.Ticks.{later, members_to_form, membership_of, waiting_less}
use Rattle.node_model.specs.Updates.{later_presidency}
use Rattle.node_model.specs.declared.cluster.Cluster.{Cluster}
use Rattle.node_model.specs.declared.node.UpNode.{UpNode}
use Rattle.node_model.specs.declared.presidency.Presidency.{Presidency}
use Rattle.node_model.specs.declared.seat.Seat.{Seat}
use Rattle.node_model.specs.declared.seat.Seat.TheVariants.{Forming, Member}
use Rattle.refinement.proofs.Texts.{texts_none}
use Rattle.refinement.specs.Courses.{Course, joined}
use Rattle.refinement.specs.Courses.Course.{Acts, Falls, Keeps, Stops}
use Rattle.refinement.specs.Cuts as cuts
use Rattle.refinement.specs.Doings.{Act, Change, acted, changed}
use Rattle.refinement.specs.Doings.Act.{Accepts, Dates, Ends, Gives, Goes_on, Hears, Makes, Minds, Notes, Queues, Spreads, Stores, Takes, Ticks, Waits, Works, Writes}
use Rattle.refinement.specs.Doings.Change.{Acks, Leads, Proposes}
use Rattle.run_attempts.proofs.Courses.{going_calm}
use Rattle.run_attempts.proofs.Staid.{governing_staid}
use Rattle.run_attempts.proofs.Views.{act_seat, calm_goes, change_seat, forming_so, staid_act, staid_change}
use Rattle.run_attempts.specs.Steps.{ActSo, ChangeSo, GoesSo, IsStaid, StaidAct, StaidChange, Wish}
use Rattle.run_packets.proofs.views.Safe.{ClearIn, GoesSafely, SafeAct, SafeChange, entries_in, governing_safe}
use Rattle.seize.specs.Seizing as seizing
use Rattle.wire.specs.Spelling.{IsNodes}

-- ---- the set of one node

one_fits : (n : ℕ) → n ≤ 32 → IsNodes (set_with 0 n)
unfolding set_with
one_fits n high = or_lt 32 0 (2 ^ (n - 1)) (omega arith) (pow-lt {i = n - 1} {j = 32} (omega (arith, high)))

pub has_one : (n k : ℕ) → 1 ≤ n → n ≤ 32 → has (set_with 0 n) k ≡ (k == n)
has_one n k low high = subst (λ z. has z k ≡ ((k == n) || has 0 k)) (or_bit_value 0 n high) (has_with 0 n low high k) ∙ (ap (λ b. (k == n) || b) (none_of_zero k) ∙ or_false (k == n))
  where
    or_false : (b : Bool) → (b || false) ≡ b
    or_false true = refl
    or_false false = refl

alone_set : (members n : ℕ) → 1 ≤ n → n ≤ 32 → IsNodes members → has members n ≡ true → (set_without members n == 0) ≡ true → members ≡ set_with 0 n
alone_set members n low high small own none = same_set members (set_with 0 n) small (one_fits n high) (λ k. by_test k (k == n) refl ∙ sym (has_one n k low high))
  where
    left : (k : ℕ) → (not (k == n) && has members k) ≡ false
    left k =
        sym (subst (λ z. has z k ≡ (not (k == n) && has members k)) (and_bit_value members n high) (has_without members n low high small k))
        ∙ (ap (λ z. has z k) (same_number (set_without members n) 0 none) ∙ none_of_zero k)

    by_test : (k : ℕ) (t : Bool) → (k == n) ≡ t → has members k ≡ (k == n)
    by_test k true same = ap (λ j. has members j) (same_number k n same) ∙ (own ∙ sym same)
    by_test k false other = subst (λ b. (not b && has members k) ≡ false) other (left k) ∙ sym other

-- ---- the membership in which the tick began

-- the node is of it
abbrev pub IsOwn : ℕ → Option Membership → Type 0
IsOwn me None = ⊥
IsOwn me (Some m) = (has m.members me ≡ true) × IsNodes m.members

-- .. and no other
abbrev pub IsAlone : ℕ → Option Membership → Type 0
IsAlone me None = ⊥
IsAlone me (Some m) = m.members ≡ set_with 0 me

alone_in : (me : ℕ) (seat : Seat) (member : Option Membership) → 1 ≤ me → me ≤ 32 → membership_of seat ≡ member → IsOwn me member → (set_without (state_of seat).saved.members me == 0) ≡ true → IsAlone me member
alone_in me seat member low high at own none = subst (IsAlone me) at (by_seat seat (subst (IsOwn me) (sym at) own) none)
  where
    by_seat : (seat : Seat) → IsOwn me (membership_of seat) → (set_without (state_of seat).saved.members me == 0) ≡ true → IsAlone me (membership_of seat)
    by_seat (Forming s) own none = absurd own
    by_seat (Member s) own none = alone_set s.saved.members me low high own.1 own.0 none

-- what is configured is as the tick began, or the node was alone then
abbrev pub IsKept : Cluster → ℕ → ℕ → Option Membership → UpNode → Type 0
IsKept c me configured member x = (configured_at c x ≡ configured) ⊎ IsAlone me member

by_version : (v : Version) (c : Cluster) (x y : UpNode) → (record_of y).entries.committed ≡ (record_of x).entries.committed → configured_by v c y ≡ configured_by v c x
by_version One c x y same = refl
by_version Two c x y same = ap (λ (texts : List (List ℕ)). configured_under (config_under c.header texts).votes) same

pub kept_on : (c : Cluster) (me configured : ℕ) (member : Option Membership) (x y : UpNode) → (record_of y).entries.committed ≡ (record_of x).entries.committed → IsKept c me configured member x → IsKept c me configured member y
kept_on c me configured member x y same (inl is) = inl (by_version (version_of c) c x y same ∙ is)
kept_on c me configured member x y same (inr is) = inr is

-- ---- small steps

change_kept : (c : Cluster) (me configured : ℕ) (member : Option Membership) (x : UpNode) (change : Change) → 1 ≤ me → me ≤ 32 → StaidChange change → SafeChange me x change → membership_of x.seat ≡ member → IsOwn me member
    → IsKept c me configured member x → IsKept c me configured member (changed c me x change)
change_kept c me configured member x (Proposes s p text) low high staid none at own kept =
    kept_on c me configured member x (changed c me x (Proposes s p text))
    (ap (λ (l : EntryList). l.committed) (entries_in x.seat (with_next (record_of x).entries text)) ∙ texts_none (record_of x).entries none) kept
change_kept c me configured member x (Acks s p q left text) low high staid none at own kept = inr (alone_in me x.seat member low high at own none)
change_kept c me configured member x _ low high staid none at own kept = absurd staid

act_kept : (c : Cluster) (me configured : ℕ) (member : Option Membership) (x : UpNode) (a : Act) → 1 ≤ me → me ≤ 32 → StaidAct a → SafeAct me x a → membership_of x.seat ≡ member → IsOwn me member
    → IsKept c me configured member x → IsKept c me configured member (acted c me x a)
act_kept c me configured member x Ticks low high staid safe at own kept = absurd staid
act_kept c me configured member x (Hears from b) low high staid safe at own kept = absurd staid
act_kept c me configured member x (Makes change) low high staid safe at own kept = change_kept c me configured member x change low high staid safe at own kept
act_kept c me configured member x (Queues a d kind) low high staid safe at own kept =
    kept_on c me configured member x (acted c me x (Queues a d kind))
    (if_either (λ (y : UpNode). (record_of y).entries.committed ≡ (record_of x).entries.committed) (has a.plan.members me)
    (record x { tasks = after_seize x.tasks d (seizing.begun kind a.plan.epoch a.plan.members me c.id (has (record_of x).valid d)) }) x refl refl) kept
act_kept c me configured member x Waits low high staid safe at own kept = kept_on c me configured member x (acted c me x Waits) refl kept
act_kept c me configured member x (Goes_on a k) low high staid safe at own kept = kept_on c me configured member x (acted c me x (Goes_on a k)) refl kept
act_kept c me configured member x (Ends a e) low high staid safe at own kept = kept_on c me configured member x (acted c me x (Ends a e)) refl kept
act_kept c me configured member x (Accepts kind e members d) low high staid safe at own kept = kept_on c me configured member x (acted c me x (Accepts kind e members d)) refl kept
act_kept c me configured member x (Takes at command a) low high staid safe is own kept = kept_on c me configured member x (acted c me x (Takes at command a)) refl kept
act_kept c me configured member x (Stores d value a) low high staid safe at own kept = kept
act_kept c me configured member x (Writes to b) low high staid safe at own kept = kept
act_kept c me configured member x (Gives os) low high staid safe at own kept = kept
act_kept c me configured member x (Spreads receivers b) low high staid safe at own kept = kept
act_kept c me configured member x (Minds q p) low high staid safe at own kept = kept_on c me configured member x (acted c me x (Minds q p)) refl kept
act_kept c me configured member x (Notes from place p) low high staid safe at own kept = kept_on c me configured member x (acted c me x (Notes from place p)) refl kept
act_kept c me configured member x (Dates now) low high staid safe at own kept = kept_on c me configured member x (acted c me x (Dates now)) refl kept
act_kept c me configured member x (Works w) low high staid safe at own kept = kept_on c me configured member x (acted c me x (Works w)) refl kept

kept_then : (P : Wish) (c : Cluster) (me configured : ℕ) (member : Option Membership) (x : UpNode) (k : Course) (next : UpNode → Course) → 1 ≤ me → me ≤ 32 → IsStaid k → GoesSafely c me x k → IsOwn me member
    → membership_of x.seat ≡ member → IsKept c me configured member x → ((y : UpNode) → IsKept c me configured member y → GoesSo P c me y (next y)) → GoesSo P c me x (joined c me x k next)
kept_then P c me configured member x Stops next low high staid safe own at kept f = f x kept
kept_then P c me configured member x (Acts a rest) next low high staid safe own at kept f = (
  staid_act P x a staid.0,
  kept_then P c me configured member (acted c me x a) rest next low high staid.1 safe.1 own (act_seat c me x a staid.0 ∙ at) (act_kept c me configured member x a low high staid.0 safe.0 at own kept) f,
)
kept_then P c me configured member x (Keeps change rest) next low high staid safe own at kept f = (
  staid_change P x change staid.0,
  kept_then P c me configured member (changed c me x change) rest next low high staid.1 safe.1 own (change_seat c me x change staid.0 ∙ at)
      (change_kept c me configured member x change low high staid.0 safe.0 at own kept) f,
)
kept_then P c me configured member x (Falls why) next low high staid safe own at kept f = tt

-- ---- a tick

abbrev pub KeptWish : Cluster → ℕ → ℕ → Option Membership → Wish
KeptWish c me configured member x p members = IsKept c me configured member x

ticked_kept : (c : Cluster) (me configured : ℕ) (member : Option Membership) (x : UpNode) (o : Option AttemptState) → IsKept c me configured member x → GoesSo (KeptWish c me configured member) c me x (cuts.ticked_course c me x o)
ticked_kept c me configured member x (Some a) kept = calm_goes (KeptWish c me configured member) c me x (cuts.going_course c me x a Call_tick) (going_calm c me x a Call_tick)
ticked_kept c me configured member x None kept =
    let y : UpNode = waiting_less x in
    if_either (GoesSo (KeptWish c me configured member) c me x) (nat_le 1 x.beats.wait) (Acts Waits Stops) (Acts Waits (cuts.forming_course c me y (members_to_form c me y))) (tt, tt)
    (tt, forming_so (KeptWish c me configured member) c me y (members_to_form c me y) (λ members is. kept_on c me configured member x y refl kept))

-- Of a node where a tick comes to it: as president it is a member, and where it has proposed nothing nothing is pending.
abbrev pub Governs : ℕ → Seat → Option Presidency → Type 0
Governs me seat None = Unit {0}
Governs me seat (Some p) = IsOwn me (membership_of seat) × (p.proposals.proposed ≡ None → (state_of seat).saved.entries.pending ≡ None)

-- no president has nothing to do
no_order : (me : ℕ) (x : UpNode) → x.presidency ≡ None → own_order me x ≡ None
no_order me x none = ap (λ (o : Option Presidency). own_order me (record x { presidency = o })) none ∙ if_either (λ o. o ≡ None) _ None None refl refl

pub tick_kept : (c : Cluster) (me : ℕ) (outcome : Outcome) (x : UpNode) → 1 ≤ me → me ≤ 32 → Governs me x.seat x.presidency
    → GoesSo (KeptWish c me (configured_at c x) (membership_of x.seat)) c me (later c x) (joined c me (later c x) (cuts.governing_course c me outcome x (later c x)) (λ y. cuts.ticked_course c me y y.attempt))
tick_kept c me outcome x low high h = by_president x.presidency refl h
  where
    y : UpNode
    y = later c x

    next : UpNode → Course
    next z = cuts.ticked_course c me z z.attempt

    P : Wish
    P = KeptWish c me (configured_at c x) (membership_of x.seat)

    first : IsKept c me (configured_at c x) (membership_of x.seat) y
    first = inl (by_version (version_of c) c x y refl)

    Goal : Course → Type 0
    Goal k = GoesSo P c me y (joined c me y k next)

    clear_later : (o : Option Presidency) → Governs me x.seat o → ClearIn (later_presidency o) (record_of x).entries.pending
    clear_later None h = tt
    clear_later (Some p) h = h.1

    idle : x.presidency ≡ None → Goal (cuts.governing_course c me outcome x y)
    idle none =
        let later_none : y.presidency ≡ None = ap (λ o. later_presidency o) none in
        subst (λ o. Goal (joined c me y (cuts.own_turn_course c me outcome y o) (cuts.going_again_course c me x))) (sym (no_order me y later_none))
        (subst (λ o. Goal (cuts.prepares_again_course x o (Acts (Gives (orders_again x y)) (cuts.deciding_course c me y)))) (sym none)
        (subst (λ o. Goal (Acts (Gives (orders_again x y)) (cuts.deciding_by_course c me y o))) (sym later_none) (tt, ticked_kept c me (configured_at c x) (membership_of x.seat) y y.attempt first)))

    by_president : (o : Option Presidency) → x.presidency ≡ o → Governs me x.seat o → Goal (cuts.governing_course c me outcome x y)
    by_president None at h = idle at
    by_president (Some p) at h =
        kept_then P c me (configured_at c x) (membership_of x.seat) y (cuts.governing_course c me outcome x y) next low high (governing_staid c me outcome x y)
        (governing_safe c me outcome x y (clear_later x.presidency (subst (λ o. Governs me x.seat o) (sym at) h))) h.0 refl first
        (λ z kept. ticked_kept c me (configured_at c x) (membership_of x.seat) z z.attempt kept)

-- ---- two wishes

abbrev pub Both : Wish → Wish → Wish
Both P Q x p members = P x p members × Q x p members

both_change : (P Q : Wish) (x : UpNode) (change : Change) → ChangeSo P x change → ChangeSo Q x change → ChangeSo (Both P Q) x change
both_change P Q x (Leads p members) h i = (h, i)
both_change P Q x _ h i = tt

both_act : (P Q : Wish) (x : UpNode) (a : Act) → ActSo P x a → ActSo Q x a → ActSo (Both P Q) x a
both_act P Q x Ticks h i = absurd h
both_act P Q x (Hears from b) h i = absurd h
both_act P Q x (Makes change) h i = both_change P Q x change h i
both_act P Q x _ h i = tt

pub both_go : (P Q : Wish) (c : Cluster) (me : ℕ) (x : UpNode) (k : Course) → GoesSo P c me x k → GoesSo Q c me x k → GoesSo (Both P Q) c me x k
both_go P Q c me x Stops h i = tt
both_go P Q c me x (Acts a rest) h i = (both_act P Q x a h.0 i.0, both_go P Q c me (acted c me x a) rest h.1 i.1)
both_go P Q c me x (Keeps change rest) h i = (both_change P Q x change h.0 i.0, both_go P Q c me (changed c me x change) rest h.1 i.1)
both_go P Q c me x (Falls why) h i = tt
