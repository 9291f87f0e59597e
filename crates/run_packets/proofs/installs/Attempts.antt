-- The lines of attempts: which an attempt has among the moments before an event.
use Rattle.std.specs.Prelude.{ℕ, ◌≡◌, ◌⊎◌, ◌==◌, ◌||◌, Bool, true, false, List, [], ◌∷◌, Option, None, Some, if◌then◌else◌}
use Rattle.std.specs.List.{list_any}
use Rattle.std.proofs.Common.{refl, sym, subst, ◌∙◌, inl, inr}
use Rattle.attempt_laws.proofs.Stays.{plan_stays}
use Rattle.cmm_attempt.proofs.Basics.{false_true, none_some}
use Rattle.cmm_attempt.specs.Attempts.{AttemptState}
use Rattle.cmm_attempt.specs.Calls.{Call, Own_ready, Own_seized, Take, Tick, With_votes, turn}
use Rattle.cmm_attempt.specs.declared.plan.Plan.{Plan}
use Rattle.history.specs.Member.{members_of}
use Rattle.history.specs.Moment.{Moment}
use Rattle.history.specs.Seizing.{is_attempt}
use Rattle.history.specs.Setting.{coordinator}
use Rattle.history.specs.Trace.{attempt}
use Rattle.machine_base.specs.Epochs as machine
use Rattle.membership_machine.specs.State.{Memberships}
use Rattle.node_model.specs.declared.cluster.Cluster.{Cluster}
use Rattle.node_model.specs.declared.node.Node.{Node}
use Rattle.refinement.proofs.Attempts.{may_be_called}
use Rattle.refinement.specs.Guards.{MayCall}
use Rattle.refinement.specs.Ties.{Delivered}
use Rattle.run_history.proofs.Lists.{both}
use Rattle.run_packets.specs.installs.Passing.{IsLined, IsListed, NodeListed, UpLined}
use Rattle.run_packets.proofs.installs.Young.{IsStill, young_stays}

-- it takes no message, or its attempt has the members of its line
abbrev pub NodePlaced : Delivered → List Moment → Node → Type 0
NodePlaced told before node = (told ≡ None) ⊎ NodeListed before node

-- ---- lines of attempts

if_not : {X : Type 0} (b : Bool) (x y : X) → b ≡ false → (if b then x else y) ≡ y
if_not true x y is = absurd (false_true (sym is))
if_not false x y is = refl

-- an attempt without a line has no members there
pub no_members : (e : ℕ) (ms : List Moment) → list_any (is_attempt e) ms ≡ false → members_of e ms ≡ 0
no_members e [] none = refl
no_members e (attempt f members ∷ ms) none = by_first (f == e) (list_any (is_attempt e) ms) none (λ later. no_members e ms later)
  where
    by_first : (a b : Bool) → (a || b) ≡ false → (b ≡ false → members_of e ms ≡ 0) → (if a then members else members_of e ms) ≡ 0
    by_first true b none rest = absurd (false_true (sym none))
    by_first false b none rest = rest none
no_members e (x ∷ ms) none = no_members e ms none

-- what has a line was tried in the machine
abbrev pub AreTried : List Moment → Memberships → Type 0
AreTried before M = (e : ℕ) → list_any (is_attempt e) before ≡ true → (M.epoch e).tried ≡ true

pub machine_own : (p n : ℕ) → coordinator p ≡ n → machine.coordinator p ≡ n
unfolding machine.coordinator
machine_own p n h = h

listed_as : (before : List Moment) (a b : AttemptState) → b.plan ≡ a.plan → IsListed before a → IsListed before b
listed_as before a b same h = subst (λ (p : Plan). members_of p.epoch before ≡ p.members) (sym same) h

pub still_call : (c : Cluster) (told : Delivered) (a : AttemptState) (k : Call) → MayCall c told a k → told ≡ None → IsStill k
still_call c told a (Take from m) may none = absurd (none_some (from, m) (sym none ∙ may.0))
still_call c told a (With_votes both) may none = tt
still_call c told a (Own_seized d r) may none = tt
still_call c told a Own_ready may none = tt
still_call c told a Tick may none = tt

pub turned_lined : (c : Cluster) (before : List Moment) (told : Delivered) (a : AttemptState) (k : Call) → MayCall c told a k → IsLined before a → (told ≡ None) ⊎ IsListed before a → IsLined before (turn a k).after
turned_lined c before told a k may lined (inr listed) = inl (listed_as before a (turn a k).after (plan_stays a k (may_be_called c told a k may)) listed)
turned_lined c before told a k may (inl listed) (inl none) = inl (listed_as before a (turn a k).after (plan_stays a k (may_be_called c told a k may)) listed)
turned_lined c before told a k may (inr young) (inl none) =
    inr (subst (λ (p : Plan). members_of p.epoch before ≡ 0) (sym (plan_stays a k (may_be_called c told a k may))) young.0, young_stays a k (may_be_called c told a k may) (still_call c told a k may none) young.1)

pub turned_placed : (c : Cluster) (before : List Moment) (told : Delivered) (a : AttemptState) (k : Call) → MayCall c told a k → (told ≡ None) ⊎ IsListed before a → (told ≡ None) ⊎ IsListed before (turn a k).after
turned_placed c before told a k may (inl none) = inl none
turned_placed c before told a k may (inr listed) = inr (listed_as before a (turn a k).after (plan_stays a k (may_be_called c told a k may)) listed)

pub up_lined : (before : List Moment) (o : Option AttemptState) (a : AttemptState) → o ≡ Some a → UpLined before o → IsLined before a
up_lined before o a is h = subst (UpLined before) is h
