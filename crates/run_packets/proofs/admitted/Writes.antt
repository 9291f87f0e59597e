-- What a node sends names devices of the cluster, and an Install goes to a member.
use Rattle.std.specs.Prelude.{ℕ, ◌≡◌, ◌⊎◌, ◌==◌, true, All, List, [], ◌∷◌, Option, None, Some, IfSome}
use Rattle.std.specs.List.{AllByRecursion, list_any}
use Rattle.std.proofs.Common.{sym, subst, inl, inr}
use Rattle.std.proofs.lemmas.List.Elements.{All-cons, All-contains, All-head, All-nil, All-tail}
use Rattle.attempt_laws.proofs.Readings.{readings_are_held}
use Rattle.attempt_laws.specs.Sending.{AsksEntry, AsksFor, AsksIn, IsRead}
use Rattle.cl_base.specs.Seizings.{SeizeResult}
use Rattle.cmm_attempt.proofs.Basics.{false_true, or_cases, same_number}
use Rattle.cmm_attempt.specs.Attempts.{AttemptState, install_in}
use Rattle.cmm_attempt.specs.declared.phase.Phase.TheVariants.{Installing}
use Rattle.cmm_attempt.specs.declared.step.Step.{Step}
use Rattle.cmm_attempt.specs.declared.step.Step.TheVariants as step
use Rattle.node_model.specs.declared.cluster.Cluster.{Cluster}
use Rattle.node_model.specs.declared.node.UpNode.{UpNode}
use Rattle.refinement.specs.Guards.{MayWrite, OfAttempt, Says}
use Rattle.refinement.specs.Ties.{Delivered}
use Rattle.run_history.specs.Guards.{AtWrite, Hand, InHand, IsPlainBody, IsSeizeOf, IsStep, SendsSo, TellsEnd}
use Rattle.seize.specs.declared.kind.SeizeKind.{SeizeKind}
use Rattle.seize.specs.declared.kind.SeizeKind.TheVariants.{Plain, Vote}
use Rattle.wire.specs.declared.lists.Reading.{Reading}
use Rattle.wire.specs.declared.message.Body.{Body}
use Rattle.wire.specs.declared.message.Body.TheVariants as body
use Rattle.wire.specs.declared.message.Install.{Install}
use Rattle.wire.specs.declared.message.Message.{Message}
use Rattle.run_packets.specs.native.Named.{AttemptKnown, EntryKnown, IsKnown, IsMemberOf}
use Rattle.run_packets.proofs.native.Writes.{install_members}
use Rattle.run_packets.specs.admitted.Guards.{BodyFor, IsAmong, IsNoInstall}
use Rattle.run_packets.specs.admitted.Known.{BodyKnown, BodyTo, HandKnown, InDevices, ReadingKnown, ReadingsKnown, ResultFew, TurnKnown, UpKnown}
use Rattle.run_packets.proofs.admitted.Tasks.{ended_known}

-- ---- lists

all_so : {X : Type 0} (P : X → Type 0) (xs : List X) → AllByRecursion P xs → All P xs
all_so P [] h = All-nil P
all_so P (x ∷ xs) h = All-cons P x xs h.0 (all_so P xs h.1)

each_so : {X : Type 0} (P Q : X → Type 0) (xs : List X) → ((x : X) → P x → Q x) → All P xs → AllByRecursion Q xs
each_so P Q [] f h = tt
each_so P Q (x ∷ xs) f h = (f x (All-head P x xs h), each_so P Q xs f (All-tail P x xs h))

-- ---- what an attempt installs

read_known : (c : Cluster) (a : AttemptState) (r : Reading) → AttemptKnown c a → IsRead a r → ReadingKnown c a.plan.members r
read_known c a r known read =
    let e : EntryKnown c a.plan.members read.entry = All-contains (EntryKnown c a.plan.members) a.devices read.entry (all_so (EntryKnown c a.plan.members) a.devices known.devices_so) read.listed in (
      subst (IsKnown c) read.of_device e.0,
      subst (λ o. IfSome o (IsMemberOf a.plan.members)) read.by_seizer e.1,
    )

pub installs_known : (c : Cluster) (a : AttemptState) → AttemptKnown c a → ReadingsKnown c (install_in a).members (install_in a).readings
installs_known c a known =
    subst (λ m. ReadingsKnown c m (install_in a).readings) (sym (install_members a))
    (each_so (IsRead a) (ReadingKnown c a.plan.members) (install_in a).readings (λ r read. read_known c a r known read) (readings_are_held a))

-- a node that is among those of a list
among_so : (P : ℕ → Type 0) (to : ℕ) (nodes : List ℕ) → list_any (λ k. k == to) nodes ≡ true → AllByRecursion P nodes → P to
among_so P to [] is h = absurd (false_true is)
among_so P to (n ∷ nodes) is h = by_cases (or_cases (n == to) (list_any (λ k. k == to) nodes) is) (λ later. among_so P to nodes later h.1)
  where
    by_cases : ((n == to) ≡ true) ⊎ (list_any (λ k. k == to) nodes ≡ true) → (list_any (λ k. k == to) nodes ≡ true → P to) → P to
    by_cases (inl same) rest = subst P (same_number n to same) h.0
    by_cases (inr later) rest = rest later

install_so : (c : Cluster) (o : Option AttemptState) (to : ℕ) (i : Install) → OfAttempt (λ a. (a.phase ≡ Installing) × (i ≡ install_in a)) o → OfAttempt (IsAmong to) o → IfSome o (AttemptKnown c)
    → ReadingsKnown c i.members i.readings × IsMemberOf i.members to
install_so c None to i may for k = absurd may
install_so c (Some a) to i may for k = (
  subst (λ (z : Install). ReadingsKnown c z.members z.readings) (sym may.1) (installs_known c a k),
  subst (λ (z : Install). IsMemberOf z.members to) (sym may.1)
      (subst (λ m. IsMemberOf m to) (sym (install_members a)) (among_so (IsMemberOf a.plan.members) to a.plan.nodes for k.nodes_so)),
)

-- ---- requests to seize

asks_step : (t : AttemptState) (to : ℕ) (m : Message) (steps : List Step) → IsStep (step.Send to m) steps → All (AsksEntry t) steps → AsksIn t to m.body
asks_step t to m [] is all = absurd is
asks_step t to m (s ∷ steps) (inl same) all = subst (λ z. AsksEntry t z) same (All-head (AsksEntry t) s steps all)
asks_step t to m (s ∷ steps) (inr later) all = asks_step t to m steps later (All-tail (AsksEntry t) s steps all)

-- the device that is asked for is one of the cluster
pub asks_known : (c : Cluster) (t : AttemptState) (kind : SeizeKind) (to d : ℕ) → AttemptKnown c t → AsksFor t kind to d → IsKnown c d
asks_known c t kind to d known asks =
    subst (IsKnown c) asks.device (All-contains (EntryKnown c t.plan.members) t.devices asks.entry (all_so (EntryKnown c t.plan.members) t.devices known.devices_so) asks.listed).0

asked_known : (c : Cluster) (to : ℕ) (b : Body) (g : Hand) (P : Type 0) → InHand (λ u. SendsSo u.steps to b) g → TurnKnown c g → ((t : AttemptState) → AttemptKnown c t → AsksIn t to b → P) → P
asked_known c to b None P is k f = absurd is
asked_known c to b (Some u) P is k f = f u.after k.0 (subst (λ z. AsksIn u.after to z) is.body_so (asks_step u.after to is.message u.steps is.step_so k.1))

-- ---- answers to them

of_seize : (c : Cluster) (e d : ℕ) (b : Body) → IsSeizeOf e d b → BodyKnown c b → IsKnown c d
of_seize c e d (body.SeizeQuorum p members x) is k = subst (IsKnown c) is.1 k
of_seize c e d (body.SeizeData p members x) is k = subst (IsKnown c) is.1 k
of_seize c e d _ is k = absurd is

told_seize : (c : Cluster) (e d : ℕ) (told : Delivered) → Says (IsSeizeOf e d) told → HandKnown c told → IsKnown c d
told_seize c e d None says hand = absurd says
told_seize c e d (Some m) says hand = of_seize c e d m.1.body says hand

seized_known : (c : Cluster) (told : Delivered) (x : UpNode) (e d : ℕ) (r : SeizeResult) → TellsEnd told x e d r → HandKnown c told → UpKnown c x → IsKnown c d × ResultFew r
seized_known c told x e d r (inl own) hand k = ended_known c x.tasks d r own.1 k.tasks_so
seized_known c told x e d r (inr late) hand k = (told_seize c e d told late.3 hand, subst ResultFew (sym late.0) tt)

-- ---- what is sent

pub write_so : (c : Cluster) (told : Delivered) (g : Hand) (x : UpNode) (to : ℕ) (b : Body) → HandKnown c told → UpKnown c x → TurnKnown c g → MayWrite x b → AtWrite told g x to b → BodyFor x to b
    → BodyKnown c b × BodyTo to b
write_so c told g x to (body.Promise p installed members valid flagged committed pending) hand k turn may write for = (subst (BodyKnown c) (sym may.2) k.state_so.valid_so, tt)
write_so c told g x to (body.SeizeQuorum e members d) hand k turn may write for =
    (asked_known c to (body.SeizeQuorum e members d) g (IsKnown c d) write turn (λ t known asks. asks_known c t Vote to d known asks), tt)
write_so c told g x to (body.SeizeData e members d) hand k turn may write for =
    (asked_known c to (body.SeizeData e members d) g (IsKnown c d) write turn (λ t known asks. asks_known c t Plain to d known asks), tt)
write_so c told g x to (body.Seized e d r) hand k turn may write for = (seized_known c told x e d r write hand k, tt)
write_so c told g x to (body.Install i) hand k turn may write for = install_so c x.attempt to i may for k.attempt_so
write_so c told g x to (body.Ready p joined report) hand k turn may write for = (subst (InDevices c) (sym for) k.state_so.joined_so, tt)
write_so c told g x to (body.Answer p number text) hand k turn may write for = (for k.office_so, tt)
write_so c told g x to _ hand k turn may write for = (tt, tt)

-- a message to each of many names no device
pub spread_so : (c : Cluster) (to : ℕ) (b : Body) → IsPlainBody b → IsNoInstall b → BodyKnown c b × BodyTo to b
spread_so c to (body.Promise p installed members valid flagged committed pending) plain none = absurd plain
spread_so c to (body.SeizeQuorum e members d) plain none = absurd plain
spread_so c to (body.SeizeData e members d) plain none = absurd plain
spread_so c to (body.Seized e d r) plain none = absurd plain
spread_so c to (body.Install i) plain none = absurd plain
spread_so c to (body.Ready p joined report) plain none = absurd none
spread_so c to (body.Answer p number text) plain none = absurd none
spread_so c to _ plain none = (tt, tt)
