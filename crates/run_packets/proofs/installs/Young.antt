-- An attempt that has other members installs nothing before a Promise comes.
use Rattle.std.specs.Prelude.{ℕ, ◌≡◌, ◌⊎◌, ◌==◌, Bool, true, false, nat_le, if◌then◌else◌, List, [], ◌∷◌, Option, None, Some, IfSome, find, map}
use Rattle.std.proofs.Common.{refl, sym, subst, ◌∙◌, inl, inr}
use Rattle.std.specs.List.{AllByRecursion, list_all}
use Rattle.attempt_laws.proofs.Stays.{plan_stays}
use Rattle.cl_base.specs.Limits.{most_nodes}
use Rattle.cl_base.specs.Numbers.{numbers_to}
use Rattle.cl_base.specs.Seizings.{SeizeResult}
use Rattle.cmm_attempt.proofs.Basics.{and_cases, false_true, if_either, or_cases, same_number}
use Rattle.cmm_attempt.specs.Attempts.{AttemptState, Turn, is_over, own_answering, own_readying, silent_others, ticking, again_in, all_promised, answering_in, beginning, begun, choosing, chosen_by, collects, first_state, is_missing, later, own_readying_in, promises_of, silenced, ticked, waits, with_steps}
use Rattle.cmm_attempt.specs.Calls.{Call, May, Take, With_votes, Own_seized, Own_ready, Tick, installs_in, turn}
use Rattle.cmm_attempt.specs.Installs.{send_to}
use Rattle.cmm_attempt.specs.Promises.{has_promised, newest_shown, promised_by, shown_by}
use Rattle.cmm_attempt.specs.declared.attached.AttachedDevice.{AttachedDevice}
use Rattle.cmm_attempt.specs.declared.phase.Phase.{Phase}
use Rattle.cmm_attempt.specs.declared.phase.Phase.TheVariants.{Collecting, Choosing, SeizingVotes, SeizingOthers, Installing, Over}
use Rattle.cmm_attempt.specs.declared.plan.Plan.{Plan}
use Rattle.cmm_attempt.specs.declared.promised.Promised.{Promised}
use Rattle.cmm_attempt.specs.declared.promised.Shown.{Shown}
use Rattle.wire.specs.declared.message.Body.{Body}
use Rattle.wire.specs.declared.message.Body.TheVariants as body
use Rattle.wire.specs.declared.message.Message.{Message}
use Rattle.run_packets.specs.installs.Passing.{IsWaiting, IsYoung}

by_test : {X : Type 0} (P : X → Type 0) (b : Bool) (x y : X) → (b ≡ true → P x) → (b ≡ false → P y) → P (if b then x else y)
by_test P true x y f g = f refl
by_test P false x y f g = g refl

-- ---- an attempt that waits for Promises

abbrev pub Stays : Turn → Type 0
Stays t = IsWaiting t.after.phase × (installs_in t.steps ≡ None)

-- it has not been given votes, and takes no message
abbrev pub IsStill : Call → Type 0
IsStill (Take from m) = ⊥
IsStill _ = Unit {0}

no_install : (plan : Plan) (b : Body) (ns : List ℕ) → installs_in (map (send_to plan b) ns) ≡ None
no_install plan b [] = refl
no_install plan b (n ∷ ns) = no_install plan b ns

again_stays : (s : AttemptState) (p : Phase) → IsWaiting p → installs_in (again_in s p) ≡ None
again_stays s Collecting h = no_install s.plan (body.Collect s.plan.epoch s.plan.members) (silent_others s)
again_stays s Over h = refl
again_stays s Choosing h = absurd h
again_stays s SeizingVotes h = absurd h
again_stays s SeizingOthers h = absurd h
again_stays s Installing h = absurd h

silenced_stays : (s : AttemptState) (o : Option ℕ) → IsWaiting s.phase → Stays (silenced s o)
silenced_stays s None h = (h, refl)
silenced_stays s (Some m) h = (tt, refl)

ticked_stays : (s : AttemptState) → IsWaiting s.phase → Stays (ticked s)
ticked_stays s h =
    if_either Stays (nat_le 8 s.ticks) (silenced s (find (is_missing s) s.plan.nodes)) (if s.ticks == 4 then with_steps s (again_in s s.phase) else waits s) (silenced_stays s (find (is_missing s) s.plan.nodes) h)
    (if_either Stays (s.ticks == 4) (with_steps s (again_in s s.phase)) (waits s) (h, again_stays s s.phase h) (h, refl))

answering_stays : (s : AttemptState) (d n : ℕ) (r : SeizeResult) (p : Phase) → IsWaiting p → IsWaiting s.phase → Stays (answering_in s d n r p)
answering_stays s d n r Collecting h k = (k, refl)
answering_stays s d n r Over h k = (k, refl)
answering_stays s d n r Choosing h k = absurd h
answering_stays s d n r SeizingVotes h k = absurd h
answering_stays s d n r SeizingOthers h k = absurd h
answering_stays s d n r Installing h k = absurd h

readying_stays : (s : AttemptState) (p : Phase) → IsWaiting p → IsWaiting s.phase → Stays (own_readying_in s p)
readying_stays s Collecting h k = (k, refl)
readying_stays s Over h k = (k, refl)
readying_stays s Choosing h k = absurd h
readying_stays s SeizingVotes h k = absurd h
readying_stays s SeizingOthers h k = absurd h
readying_stays s Installing h k = absurd h

pub still_stays : (a : AttemptState) (k : Call) → May a k → IsStill k → IsWaiting a.phase → Stays (turn a k)
unfolding own_answering own_readying ticking
still_stays a (Take from m) may still h = absurd still
still_stays a (With_votes both) may still h = absurd (subst IsWaiting may h)
still_stays a (Own_seized d r) may still h = answering_stays a d a.plan.coordinator r a.phase h h
still_stays a Own_ready may still h = readying_stays a a.phase h h
still_stays a Tick may still h = if_either Stays (is_over a.phase) (waits a) (ticked (record a { ticks = later a.ticks })) (h, refl) (ticked_stays (record a { ticks = later a.ticks }) h)

-- it is young still
pub young_stays : (a : AttemptState) (k : Call) → May a k → IsStill k → IsYoung a → IsYoung (turn a k).after
young_stays a k may still (inl h) = inl (still_stays a k may still h).0
young_stays a k may still (inr one) = inr (subst (λ (p : Plan). AllByRecursion (λ j. j ≡ p.coordinator) p.nodes) (sym (plan_stays a k may)) one)

-- ---- an attempt begins

all_one : (o : Option Promised) (n : ℕ) (ns : List ℕ) → IfSome o (λ p. p.shown.summary.node ≡ n) → list_all (has_promised (promises_of o)) ns ≡ true → AllByRecursion (λ k. k ≡ n) ns
all_one o n [] own all = tt
all_one o n (k ∷ ns) own all =
    let both : (has_promised (promises_of o) k ≡ true) × (list_all (has_promised (promises_of o)) ns ≡ true) = and_cases (has_promised (promises_of o) k) (list_all (has_promised (promises_of o)) ns) all in
    (by_one o own both.0, all_one o n ns own both.1)
  where
    by_one : (q : Option Promised) → IfSome q (λ p. p.shown.summary.node ≡ n) → has_promised (promises_of q) k ≡ true → k ≡ n
    by_one None is has_k = absurd (false_true has_k)
    by_one (Some p) is has_k = by_place (or_cases (p.shown.summary.node == k) false has_k)
      where
        by_place : ((p.shown.summary.node == k) ≡ true) ⊎ (false ≡ true) → k ≡ n
        by_place (inl here) = sym (same_number p.shown.summary.node k here) ∙ is
        by_place (inr none) = absurd (false_true none)

own_shown : (own : Message) (b : Body) → IfSome (promised_by own (shown_by own.sender b)) (λ p. p.shown.summary.node ≡ own.sender)
own_shown own (body.Promise epoch installed members valid flagged committed pending) = refl
own_shown own _ = tt

begun_young : (s : AttemptState) → (all_promised s ≡ true → AllByRecursion (λ k. k ≡ s.plan.coordinator) s.plan.nodes) → s.phase ≡ Collecting → IsYoung (begun s).after
unfolding choosing
begun_young s one is =
    by_test (λ (t : Turn). IsYoung t.after) (all_promised s) (choosing s) (with_steps s (collects s)) (λ all. by_newest (newest_shown s.promises) (one all)) (λ none. inl (subst IsWaiting (sym is) tt))
  where
    by_newest : (o : Option Shown) → AllByRecursion (λ k. k ≡ s.plan.coordinator) s.plan.nodes → IsYoung (chosen_by s o).after
    by_newest None all = inr all
    by_newest (Some newest) all = inr all

pub first_young : (p members : ℕ) (own : Message) (attached : List AttachedDevice) (cluster : ℕ) → IsYoung (beginning p members own attached cluster).after
unfolding beginning
first_young p members own attached cluster =
    let o : Option Promised = promised_by own (shown_by own.sender own.body) in
    begun_young (first_state p members own attached cluster (promises_of o)) (all_one o own.sender (numbers_to members most_nodes) (own_shown own own.body)) refl
