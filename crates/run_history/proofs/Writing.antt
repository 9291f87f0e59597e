-- A message that a node may send tells of devices what is so, and so does a call that it may take.
use Rattle.std.specs.Prelude.{ℕ, ◌≡◌, ◌<◌, ◌≤◌, true, List, [], ◌∷◌, Option, None, Some}
use Rattle.std.proofs.Common.{sym, ap, subst, ◌∙◌, inl, inr, arith}
use Rattle.std.specs.List.{AllByRecursion}
use Rattle.attempt_laws.specs.Asking.{EndedSo, IsToldAt}
use Rattle.cl_base.specs.Seizings.{SeizeResult}
use Rattle.cluster_machine.proofs.Whole.{InOrder}
use Rattle.cluster_machine.specs.Cluster.{Cluster as Whole}
use Rattle.cluster_ties.proofs.First.{in_order}
use Rattle.cluster_ties.proofs.Told.{promises_are_told, takes_are_told}
use Rattle.cluster_ties.specs.Moves.{IsReached}
use Rattle.cluster_ties.specs.Told.{IsRequest, ToldOf}
use Rattle.cmm_attempt.specs.Attempts.{AttemptState, install_in}
use Rattle.cmm_attempt.specs.Calls.{Call, Own_ready, Own_seized, Take, Tick, With_votes}
use Rattle.cmm_attempt.specs.declared.phase.Phase.TheVariants.{Installing}
use Rattle.cmm_attempt.specs.declared.step.Step.{Step}
use Rattle.cmm_attempt.specs.declared.step.Step.TheVariants as step
use Rattle.cmm_member.specs.Records.{NodeRecord}
use Rattle.membership_machine.specs.Invariant.{Holds}
use Rattle.node_model.specs.Seats.{installed_of, session_of, state_of}
use Rattle.node_model.specs.declared.cluster.Cluster.{Cluster}
use Rattle.node_model.specs.declared.node.Node.TheVariants.{Up}
use Rattle.node_model.specs.declared.node.UpNode.{UpNode}
use Rattle.refinement.proofs.Changes.{Sees, sees}
use Rattle.refinement.specs.Doings.{site}
use Rattle.refinement.specs.Guards.{MayCall, MayWrite, OfAttempt, Says}
use Rattle.refinement.specs.Ties.{Delivered, setting_of}
use Rattle.wire.specs.declared.message.Body.{Body}
use Rattle.wire.specs.declared.message.Body.TheVariants as body
use Rattle.wire.specs.declared.message.Install.{Install}
use Rattle.run_history.proofs.Ends.{ended_told}
use Rattle.run_history.specs.Guards.{AtCall, AtWrite, Hand, HasEnded, InHand, IsSeizeOf, IsStep, SendsSo, TellsEnd}
use Rattle.run_history.specs.Sites.{HandAt, InstallsAt, KnownOf, SiteAt, StepSo}

pub all_at : (P : Step → Type 0) (s : Step) (steps : List Step) → AllByRecursion P steps → IsStep s steps → P s
all_at P s [] all h = absurd h
all_at P s (x ∷ steps) all (inl e) = subst P e all.0
all_at P s (x ∷ steps) all (inr h) = all_at P s steps all.1 h

-- What a node with its disk shows of the machines.

pub sees_up : (c : Cluster) (W : Whole) (n : ℕ) (x : UpNode) (disk : NodeRecord) → SiteAt c W n (site (Up x) disk) → Sees W.memberships n disk (state_of x.seat)
sees_up c W n x disk at = sees c W.memberships n disk x.attempt x.seat at.tied.0

at_least_itself : (p : ℕ) → p ≤ p
at_least_itself p = omega arith

-- a session is promised
pub session_promised : (S : Cluster) (W : Whole) (n p : ℕ) → IsReached (setting_of S) W → 0 < p → (W.memberships.node n).session ≡ p → p ≤ (W.memberships.node n).promised
session_promised c W n p reached some at =
    let holds : Holds (setting_of c) W.memberships = (in_order (setting_of c) W reached).memberships in
    subst (λ z. p ≤ z) (sym at ∙ (holds.node n).session (subst (λ z. 0 < z) (sym at) some)) (at_least_itself p)

pub session_at : (c : Cluster) (W : Whole) (n d : ℕ) (x : UpNode) (disk : NodeRecord) → IsReached (setting_of c) W → SiteAt c W n (site (Up x) disk) → ((W.device d).node n).session ≡ session_of x
session_at c W n d x disk reached at = (((in_order (setting_of c) W reached).agrees d).node n).session ∙ (sees_up c W n x disk at).session

-- how a seizing of the session ended
pub end_told : (c : Cluster) (W : Whole) (n e d : ℕ) (x : UpNode) (disk : NodeRecord) (r : SeizeResult) → IsReached (setting_of c) W → SiteAt c W n (site (Up x) disk) → e ≡ session_of x
    → HasEnded x.tasks d r → EndedSo (W.device d) e n r
end_told c W n e d x disk r reached at is ended =
    subst (λ q. EndedSo (W.device d) q n r) (session_at c W n d x disk reached at ∙ sym is) (ended_told c W n d r x.tasks at.at.tasks ended)

-- a request came for an attempt that the node has installed: whoever was asked had answered before its votes were counted
late_told : (c : Cluster) (W : Whole) (n e d : ℕ) (x : UpNode) (disk : NodeRecord) (told : Delivered) → IsReached (setting_of c) W → SiteAt c W n (site (Up x) disk) → KnownOf W n told → 0 < e
    → e ≡ installed_of x → Says (IsSeizeOf e d) told → ((W.device d).node n).past.ended e ≡ true
late_told c W n e d x disk told reached at known some is says = ((i.device d).attempt e).answered n counted (asked told known says)
  where
    i : InOrder (setting_of c) W
    i = in_order (setting_of c) W reached

    installed : (W.memberships.node n).saved.installed ≡ e
    installed = ap (λ r. r.installed) (sees_up c W n x disk at).saved ∙ sym is

    counted : ((W.device d).attempt e).counted ≡ true
    counted = ((i.agrees d).attempt e).counted ∙ subst (λ q. (W.memberships.epoch q).counted ≡ true) installed ((i.memberships.node n).fits.counted (subst (λ q. 0 < q) (sym installed) some))

    by_body : (from : ℕ) (b : Body) → ToldOf W from n b → IsSeizeOf e d b → ((W.device d).attempt e).asked n ≡ true
    by_body from (body.SeizeQuorum p members y) h s =
        subst (λ q. ((W.device d).attempt q).asked n ≡ true) s.0 (subst (λ k. ((W.device k).attempt p).asked n ≡ true) s.1 h.asked)
    by_body from (body.SeizeData p members y) h s =
        subst (λ q. ((W.device d).attempt q).asked n ≡ true) s.0 (subst (λ k. ((W.device k).attempt p).asked n ≡ true) s.1 h.asked)
    by_body from _ h s = absurd s

    asked : (o : Delivered) → KnownOf W n o → Says (IsSeizeOf e d) o → ((W.device d).attempt e).asked n ≡ true
    asked None h s = absurd s
    asked (Some packet) h s = by_body packet.0 packet.1.body h s

seized_told : (c : Cluster) (W : Whole) (n e d : ℕ) (x : UpNode) (disk : NodeRecord) (told : Delivered) (r : SeizeResult) → IsReached (setting_of c) W → SiteAt c W n (site (Up x) disk)
    → KnownOf W n told → TellsEnd told x e d r → EndedSo (W.device d) e n r
seized_told c W n e d x disk told r reached at known (inl h) = end_told c W n e d x disk r reached at h.0 h.1
seized_told c W n e d x disk told r reached at known (inr h) =
    subst (λ z. EndedSo (W.device d) e n z) (sym h.0) (late_told c W n e d x disk told reached at known h.1 h.2 h.3, tt)

in_hand_told : (W : Whole) (n to : ℕ) (h : Hand) (b : Body) → HandAt W n h → InHand (λ u. SendsSo u.steps to b) h → IsRequest b → ToldOf W n to b
in_hand_told W n to None b hand sends request = absurd sends
in_hand_told W n to (Some u) b hand sends request =
    subst (λ z. ToldOf W n to z) sends.body_so
    (all_at (StepSo W n u.after) (step.Send to sends.message) u.steps hand sends.step_so (subst (λ z. IsRequest z) (sym sends.body_so) request))

install_told : (W : Whole) (n to : ℕ) (i : Install) (o : Option AttemptState) → InstallsAt W n o → OfAttempt (λ a. (a.phase ≡ Installing) × (i ≡ install_in a)) o → ToldOf W n to (body.Install i)
install_told W n to i None installs may = absurd may
install_told W n to i (Some a) installs may = subst (λ z. ToldOf W n to (body.Install z)) (sym may.1) (installs may.0)

pub write_told : (c : Cluster) (W : Whole) (n to : ℕ) (told : Delivered) (h : Hand) (x : UpNode) (disk : NodeRecord) (b : Body) → IsReached (setting_of c) W → SiteAt c W n (site (Up x) disk)
    → KnownOf W n told → HandAt W n h → MayWrite x b → AtWrite told h x to b → ToldOf W n to b
write_told c W n to told h x disk (body.Promise p installed members valid flagged committed pending) reached at known hand may so =
    promises_are_told (setting_of c) W n to p x reached (session_promised c W n p reached may.0 ((sees_up c W n x disk at).session ∙ sym may.1))
write_told c W n to told h x disk (body.Seized e d r) reached at known hand may so = seized_told c W n e d x disk told r reached at known so
write_told c W n to told h x disk (body.SeizeQuorum e members d) reached at known hand may so = in_hand_told W n to h (body.SeizeQuorum e members d) hand so tt
write_told c W n to told h x disk (body.SeizeData e members d) reached at known hand may so = in_hand_told W n to h (body.SeizeData e members d) hand so tt
write_told c W n to told h x disk (body.Install i) reached at known hand may so = install_told W n to i x.attempt at.own.installs may
write_told c W n to told h x disk _ reached at known hand may so = tt

-- A call that is taken.
pub call_told : (c : Cluster) (W : Whole) (n d : ℕ) (told : Delivered) (x : UpNode) (disk : NodeRecord) (a : AttemptState) (k : Call) → IsReached (setting_of c) W → SiteAt c W n (site (Up x) disk)
    → KnownOf W n told → MayCall c told a k → AtCall x k → a.plan.epoch ≡ session_of x → a.plan.coordinator ≡ n → IsToldAt (W.device d) a d k
call_told c W n d told x disk a (Take from m) reached at known may so epoch own = takes_are_told W a from n d m (subst (λ o. KnownOf W n o) may.0 known)
call_told c W n d told x disk a (Own_seized e r) reached at known may so epoch own =
    λ is. subst (λ k. EndedSo (W.device k) a.plan.epoch a.plan.coordinator r) is
    (subst (λ m. EndedSo (W.device e) a.plan.epoch m r) (sym own) (end_told c W n a.plan.epoch e x disk r reached at epoch so))
call_told c W n d told x disk a (With_votes both) reached at known may so epoch own = tt
call_told c W n d told x disk a Own_ready reached at known may so epoch own = tt
call_told c W n d told x disk a Tick reached at known may so epoch own = tt
