-- What a node sends names nodes of the header, and brings no bad list of updates.
use Rattle.std.specs.Prelude.{ℕ, ◌≡◌, All, List, [], ◌∷◌, Option, None, Some, IfSome, find}
use Rattle.std.specs.List.{AllByRecursion}
use Rattle.std.proofs.Common.{refl, sym, subst, inl, inr}
use Rattle.std.proofs.lemmas.List.Elements.{All-cons, All-contains, All-head, All-nil, All-tail}
use Rattle.attempt_laws.specs.Sending.{AsksEntry, AsksFor, AsksIn, IsOwn, IsOwnStep}
use Rattle.cmm_attempt.specs.Attempts.{AttemptState, install_in}
use Rattle.cmm_attempt.specs.Installs.{committed_in, install_by, pending_in}
use Rattle.cmm_attempt.specs.Promises.{is_from}
use Rattle.cmm_attempt.specs.declared.phase.Phase.TheVariants.{Installing}
use Rattle.cmm_attempt.specs.declared.plan.Plan.{Plan}
use Rattle.cmm_attempt.specs.declared.promised.Promised.{Promised}
use Rattle.cmm_attempt.specs.declared.step.Step.{Step}
use Rattle.cmm_attempt.specs.declared.step.Step.TheVariants as step
use Rattle.cmm_attempt.proofs.Basics.{if_either}
use Rattle.cmm_member.specs.Records.{NodeRecord}
use Rattle.membership_machine.specs.State.{Memberships}
use Rattle.node_model.specs.Attempts.{promise_of}
use Rattle.node_model.specs.Seats.{record_of}
use Rattle.node_model.specs.declared.cluster.Cluster.{Cluster}
use Rattle.node_model.specs.declared.node.UpNode.{UpNode}
use Rattle.refinement.proofs.Changes.{sees}
use Rattle.refinement.proofs.Logs.{no_updates}
use Rattle.refinement.specs.Guards.{MayWrite, OfAttempt}
use Rattle.refinement.specs.Ties.{Delivered, HasLog, IsLog, ShowsLog}
use Rattle.run_history.proofs.Changes.{At, at_attempt}
use Rattle.run_history.specs.Guards.{AtWrite, Hand, InHand, IsPlainBody, IsStep, SendsSo}
use Rattle.seize.specs.declared.kind.SeizeKind.{SeizeKind}
use Rattle.seize.specs.declared.kind.SeizeKind.TheVariants.{Plain, Vote}
use Rattle.wire.specs.declared.lists.Reading.{Reading}
use Rattle.wire.specs.declared.message.Body.{Body}
use Rattle.wire.specs.declared.message.Body.TheVariants as body
use Rattle.wire.specs.declared.message.Install.{Install}
use Rattle.wire.specs.declared.message.Message.{Message}
use Rattle.run_packets.specs.native.Named.{AttemptKnown, AttemptNamed, BodyNamed, BodyTo, EntryKnown, InNodes, IsKnown, IsMemberOf, TurnNamed, UpNamed}

-- ---- lists of updates

shown_log : (c : Cluster) (b : Body) → ShowsLog c b → IsLog c (committed_in b) (pending_in b)
shown_log c (body.Promise p installed members valid flagged committed pending) h = h
shown_log c _ h = no_updates c

found_log : (c : Cluster) (test : Promised → _) (ps : List Promised) → All (λ (p : Promised). ShowsLog c p.message.body) ps → (o : Option Promised) → find test ps ≡ o
    → (plan : Plan) (readings : List Reading) → IsLog c (install_by plan readings o).committed (install_by plan readings o).pending
found_log c test [] h None e plan readings = no_updates c
found_log c test [] h (Some p) e plan readings = absurd (cc)
found_log c test (p ∷ ps) h o e plan readings =
    subst (λ (z : Option Promised). IsLog c (install_by plan readings z).committed (install_by plan readings z).pending) e
    (if_either (λ (z : Option Promised). IsLog c (install_by plan readings z).committed (install_by plan readings z).pending) (test p) (Some p) (find test ps)
    (shown_log c p.message.body (All-head (λ (q : Promised). ShowsLog c q.message.body) p ps h))
    (found_log c test ps (All-tail (λ (q : Promised). ShowsLog c q.message.body) p ps h) (find test ps) refl plan readings))

-- the updates that an attempt installs
install_log : (c : Cluster) (a : AttemptState) → All (λ (p : Promised). ShowsLog c p.message.body) a.promises → IsLog c (install_in a).committed (install_in a).pending
install_log c a h = found_log c (is_from a.newest) a.promises h (find (is_from a.newest) a.promises) refl a.plan _

by_members : (plan : Plan) (readings : List Reading) (o : Option Promised) → (install_by plan readings o).members ≡ plan.members
by_members plan readings None = refl
by_members plan readings (Some p) = refl

pub install_members : (a : AttemptState) → (install_in a).members ≡ a.plan.members
install_members a = by_members a.plan _ (find (is_from a.newest) a.promises)

-- ---- its attempt

of_attempt : (c : Cluster) (o : Option AttemptState) (P : AttemptState → Type 0) (Q : Type 0) → OfAttempt P o → AttemptNamed c o
    → ((a : AttemptState) → o ≡ Some a → P a → AttemptNamed c (Some a) → Q) → Q
of_attempt c None P Q k named f = absurd k
of_attempt c (Some a) P Q k named f = f a refl k named

pub own_log : (c : Cluster) (M : Memberships) (n : ℕ) (told : Delivered) (disk : NodeRecord) (x : UpNode) → At c M n told disk x → HasLog c (record_of x)
own_log c M n told disk x at = subst (HasLog c) (sees c M n disk x.attempt x.seat at.tied.0).disk_so at.tied.2

promise_named : (c : Cluster) (M : Memberships) (n : ℕ) (told : Delivered) (disk : NodeRecord) (x : UpNode) (p : ℕ) → At c M n told disk x → UpNamed c n x → BodyNamed c (promise_of x p)
promise_named c M n told disk x p at k = (k.members_so, own_log c M n told disk x at)

install_named : (c : Cluster) (M : Memberships) (n : ℕ) (told : Delivered) (disk : NodeRecord) (x : UpNode) (i : Install) → At c M n told disk x
    → OfAttempt (λ a. (a.phase ≡ Installing) × (i ≡ install_in a)) x.attempt → UpNamed c n x → BodyNamed c (body.Install i)
install_named c M n told disk x i at may k =
    of_attempt c x.attempt (λ a. (a.phase ≡ Installing) × (i ≡ install_in a)) (BodyNamed c (body.Install i)) may k.attempt_so
    (λ a is so named.
    subst (λ (z : Install). BodyNamed c (body.Install z)) (sym so.1) (
      subst (InNodes c) (sym (install_members a)) named.0,
      at_attempt c M n told disk x a (IsLog c (install_in a).committed (install_in a).pending) at is (λ s shows co. install_log c a co.logs),
    ))

collect_named : (c : Cluster) (n p members : ℕ) (x : UpNode) → OfAttempt (λ a. (p ≡ a.plan.epoch) × (members ≡ a.plan.members)) x.attempt → UpNamed c n x → InNodes c members
collect_named c n p members x may k =
    of_attempt c x.attempt (λ a. (p ≡ a.plan.epoch) × (members ≡ a.plan.members)) (InNodes c members) may k.attempt_so (λ a is so named. subst (InNodes c) (sym so.1) named.0)

-- ---- the steps that it gave last

own_step : (t : AttemptState) (to : ℕ) (m : Message) (steps : List Step) → IsStep (step.Send to m) steps → All (IsOwnStep t) steps → IsOwn t m.body
own_step t to m [] is all = absurd is
own_step t to m (s ∷ steps) (inl same) all = (subst (λ z. IsOwnStep t z) same (All-head (IsOwnStep t) s steps all)).1
own_step t to m (s ∷ steps) (inr later) all = own_step t to m steps later (All-tail (IsOwnStep t) s steps all)

asks_step : (t : AttemptState) (to : ℕ) (m : Message) (steps : List Step) → IsStep (step.Send to m) steps → All (AsksEntry t) steps → AsksIn t to m.body
asks_step t to m [] is all = absurd is
asks_step t to m (s ∷ steps) (inl same) all = subst (λ z. AsksEntry t z) same (All-head (AsksEntry t) s steps all)
asks_step t to m (s ∷ steps) (inr later) all = asks_step t to m steps later (All-tail (AsksEntry t) s steps all)

all_so : {X : Type 0} (P : X → Type 0) (xs : List X) → AllByRecursion P xs → All P xs
all_so P [] h = All-nil P
all_so P (x ∷ xs) h = All-cons P x xs h.0 (all_so P xs h.1)

-- who is asked is a member, and the device is one of the cluster
asks_known : (c : Cluster) (t : AttemptState) (kind : SeizeKind) (to members d : ℕ) → AttemptKnown c t → members ≡ t.plan.members → AsksFor t kind to d → IsMemberOf members to × IsKnown c d
asks_known c t kind to members d known same asks =
    let e : EntryKnown c t.plan.members asks.entry = All-contains (EntryKnown c t.plan.members) t.devices asks.entry (all_so (EntryKnown c t.plan.members) t.devices known.devices_so) asks.listed in (
      subst (λ z. IsMemberOf z to) (sym same) (subst (λ o. IfSome o (IsMemberOf t.plan.members)) asks.seizer e.1),
      subst (IsKnown c) asks.device e.0,
    )

asked_named : (c : Cluster) (to : ℕ) (b : Body) (g : Hand) (P : Type 0) → InHand (λ u. SendsSo u.steps to b) g → TurnNamed c g
    → ((t : AttemptState) → InNodes c t.plan.members → AttemptKnown c t → IsOwn t b → AsksIn t to b → P) → P
asked_named c to b None P is k f = absurd is
asked_named c to b (Some u) P is k f =
    f u.after k.0 k.2 (subst (λ z. IsOwn u.after z) is.body_so (own_step u.after to is.message u.steps is.step_so k.1))
    (subst (λ z. AsksIn u.after to z) is.body_so (asks_step u.after to is.message u.steps is.step_so k.3))

-- ---- what is sent

pub write_so : (c : Cluster) (M : Memberships) (n : ℕ) (told : Delivered) (disk : NodeRecord) (g : Hand) (x : UpNode) (to : ℕ) (b : Body) → At c M n told disk x → UpNamed c n x
    → TurnNamed c g → MayWrite x b → AtWrite told g x to b → BodyNamed c b × BodyTo c to b
write_so c M n told disk g x to (body.Collect p members) at k turn may write = (collect_named c n p members x may k, tt)
write_so c M n told disk g x to (body.Promise p installed members valid flagged committed pending) at k turn may write =
    (subst (BodyNamed c) (sym may.2) (promise_named c M n told disk x p at k), tt)
write_so c M n told disk g x to (body.SeizeQuorum e members d) at k turn may write =
    asked_named c to (body.SeizeQuorum e members d) g (InNodes c members × (IsMemberOf members to × IsKnown c d)) write turn
    (λ t named known own asks. (subst (InNodes c) (sym own.1) named, asks_known c t Vote to members d known own.1 asks))
write_so c M n told disk g x to (body.SeizeData e members d) at k turn may write =
    asked_named c to (body.SeizeData e members d) g (InNodes c members × (IsMemberOf members to × IsKnown c d)) write turn
    (λ t named known own asks. (subst (InNodes c) (sym own.1) named, asks_known c t Plain to members d known own.1 asks))
write_so c M n told disk g x to (body.Install i) at k turn may write = (install_named c M n told disk x i at may k, tt)
write_so c M n told disk g x to (body.Heartbeat promised session member) at k turn may write = (tt, tt)
write_so c M n told disk g x to (body.Nack p promised) at k turn may write = (tt, tt)
write_so c M n told disk g x to (body.Seized e d r) at k turn may write = (tt, tt)
write_so c M n told disk g x to (body.Ready p joined report) at k turn may write = (tt, tt)
write_so c M n told disk g x to (body.Start p) at k turn may write = (tt, tt)
write_so c M n told disk g x to (body.Prepare p place text) at k turn may write = (tt, tt)
write_so c M n told disk g x to (body.Prepared p place) at k turn may write = (tt, tt)
write_so c M n told disk g x to (body.Commit p place) at k turn may write = (tt, tt)
write_so c M n told disk g x to (body.Order o) at k turn may write = (tt, tt)
write_so c M n told disk g x to (body.Done p number outcome) at k turn may write = (tt, tt)
write_so c M n told disk g x to (body.Request p number text) at k turn may write = (tt, tt)
write_so c M n told disk g x to (body.Answer p number text) at k turn may write = (tt, tt)
write_so c M n told disk g x to (body.Excluded p newest) at k turn may write = (tt, tt)

-- a message to each of many is no request to seize
pub spread_to : (c : Cluster) (k : ℕ) (b : Body) → IsPlainBody b → BodyTo c k b
spread_to c k (body.SeizeQuorum e members d) plain = absurd plain
spread_to c k (body.SeizeData e members d) plain = absurd plain
spread_to c k _ plain = tt

pub spread_so : (c : Cluster) (n : ℕ) (x : UpNode) (b : Body) → UpNamed c n x → MayWrite x b → IsPlainBody b → BodyNamed c b
spread_so c n x (body.Collect p members) k may plain = collect_named c n p members x may k
spread_so c n x (body.Promise p installed members valid flagged committed pending) k may plain = absurd plain
spread_so c n x (body.SeizeQuorum e members d) k may plain = absurd plain
spread_so c n x (body.SeizeData e members d) k may plain = absurd plain
spread_so c n x (body.Install i) k may plain = absurd plain
spread_so c n x (body.Heartbeat promised session member) k may plain = tt
spread_so c n x (body.Nack p promised) k may plain = tt
spread_so c n x (body.Seized e d r) k may plain = absurd plain
spread_so c n x (body.Ready p joined report) k may plain = tt
spread_so c n x (body.Start p) k may plain = tt
spread_so c n x (body.Prepare p place text) k may plain = tt
spread_so c n x (body.Prepared p place) k may plain = tt
spread_so c n x (body.Commit p place) k may plain = tt
spread_so c n x (body.Order o) k may plain = tt
spread_so c n x (body.Done p number outcome) k may plain = tt
spread_so c n x (body.Request p number text) k may plain = tt
spread_so c n x (body.Answer p number text) k may plain = tt
spread_so c n x (body.Excluded p newest) k may plain = tt
