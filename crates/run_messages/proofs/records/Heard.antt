-- What an attempt has of Promises came: each that it has taken is the coordinator's own, or was delivered since the attempt began.
use Rattle.std.specs.Prelude.{ℕ, ◌≡◌, ◌==◌, ◌||◌, ◌⊎◌, All, not, Bool, true, false, List, Some}
use Rattle.std.specs.List.{list_all, list_any}
use Rattle.std.proofs.Common.{refl, sym, ap, subst, ◌∙◌, arith, inl, inr}
use Rattle.attempt_laws.proofs.MachineLemmas.{of_all, of_any}
use Rattle.attempt_laws.proofs.Stays.{plan_stays}
use Rattle.attempt_laws.proofs.Told.{calls_are_told}
use Rattle.attempt_laws.specs.Machine.{IsAnswer, IsTold, MachineHas, Tells as TellsOf}
use Rattle.attempt_laws.specs.Staying.{IsBefore}
use Rattle.cmm_attempt.specs.Attempts.{AttemptState}
use Rattle.cmm_attempt.specs.Calls.{Call, Own_ready, Own_seized, Take, Tick, With_votes, turn}
use Rattle.cmm_attempt.specs.Promises.{has_promised}
use Rattle.cmm_attempt.specs.declared.phase.Phase.{Phase}
use Rattle.cmm_attempt.specs.declared.phase.Phase.TheVariants.{Collecting, Choosing, SeizingVotes, SeizingOthers, Installing, Over}
use Rattle.cmm_attempt.specs.declared.promised.Promised.{Promised}
use Rattle.cmm_attempt.proofs.Basics.{or_cases}
use Rattle.cmm_member.specs.Nodes.{NodeState}
use Rattle.history.specs.Moment.{Moment}
use Rattle.history.specs.Setting.{coordinator}
use Rattle.membership_machine.specs.Invariant.{Holds}
use Rattle.membership_machine.specs.State.{Memberships}
use Rattle.node_model.specs.declared.cluster.Cluster.{Cluster}
use Rattle.refinement.specs.Guards.{MayCall}
use Rattle.refinement.specs.Ties.{Coordinates, Delivered, Known, Seeks, setting_of}
use Rattle.refinement.proofs.Attempts.{may_be_called, seeking_not_counted}
use Rattle.refinement.proofs.Ties.{tells_of}
use Rattle.run_history.proofs.Heard.{own_of}
use Rattle.wire.specs.declared.message.Body.{Body}
use Rattle.wire.specs.declared.message.Body.TheVariants as body
use Rattle.wire.specs.declared.message.Message.{Message}
use Rattle.run_messages.specs.records.Kept.{HandKept, HeardFrom, IsHad, has_told}

-- k is n itself, or a Promise of e came from it
abbrev came_from : List Moment → ℕ → ℕ → ℕ → Bool
came_from ms n e k = (k == n) || has_told e k ms

-- the machine in which just these have answered e, and each is ready
abbrev heard : ℕ → List Moment → ℕ → Memberships → Memberships
heard n ms e M = record M { node = λ k. record (M.node k) { answered = λ q. not (q == e) || came_from ms n e k; ready = λ q. true } }

or_right : (a b : Bool) → b ≡ true → (a || b) ≡ true
or_right true b h = refl
or_right false b h = h

or_left : (a b : Bool) → a ≡ true → (a || b) ≡ true
or_left true b h = refl
or_left false b h = absurd (no_truth h)
  where
    no_truth : false ≡ true → ⊥
    no_truth e = cc

same_so : (a b : ℕ) → a ≡ b → (a == b) ≡ true
same_so a b h = grind arith

is_number : (a b : ℕ) → (a == b) ≡ true → a ≡ b
is_number a b h = grind arith

of_heard : (ms : List Moment) (n e k : ℕ) → HeardFrom ms n e k → came_from ms n e k ≡ true
of_heard ms n e k (inl own) = or_left (k == n) _ (same_so k n own)
of_heard ms n e k (inr told) = or_right (k == n) _ told

to_heard : (ms : List Moment) (n e k : ℕ) → came_from ms n e k ≡ true → HeardFrom ms n e k
to_heard ms n e k h = by_cases (or_cases (k == n) (has_told e k ms) h)
  where
    by_cases : ((k == n) ≡ true) ⊎ (has_told e k ms ≡ true) → HeardFrom ms n e k
    by_cases (inl own) = inl (is_number k n own)
    by_cases (inr told) = inr told

has_heard : (c : Cluster) (ms : List Moment) (n : ℕ) (M : Memberships) (q : NodeState) (a : AttemptState) → Coordinates c M n q a → All (λ p. HeardFrom ms n a.plan.epoch p.shown.summary.node) a.promises → MachineHas (heard n ms a.plan.epoch M) a
has_heard c ms n M q a co h = record {
  tried = co.has.tried;
  members = co.has.members;
  nodes = co.has.nodes;
  coordinator = co.has.coordinator;
  answers = λ i d lt. one i d lt;
  ready = λ i d lt. refl;
  own_ready = λ own. refl;
}
  where
    one : All (IsAnswer (heard n ms a.plan.epoch M) a.plan.epoch a.plan.members) a.promises
    one i d lt =
        let so : IsAnswer M a.plan.epoch a.plan.members _ = co.has.answers i d lt in
        record { member = so.member; answered = or_right (not (a.plan.epoch == a.plan.epoch)) _ (of_heard ms n a.plan.epoch _ (h i d lt)); showed = so.showed; shown = so.shown }

not_true : (b : Bool) → (b ≡ true → ⊥) → b ≡ false
not_true true h = absurd (h refl)
not_true false h = refl

pub uncounted_before : (c : Cluster) (M : Memberships) (n : ℕ) (q : NodeState) (a : AttemptState) → Holds (setting_of c) M → (M.node n).session ≡ q.session → Coordinates c M n q a → IsBefore a.phase → (M.epoch a.plan.epoch).counted ≡ false
uncounted_before c M n q a i shows co before = not_true (M.epoch a.plan.epoch).counted (seeking_not_counted c M n q a i shows co (seeks a.phase before co.seeks))
  where
    seeks : (phase : Phase) → IsBefore phase → Seeks (M.node n).seeking phase → (M.node n).seeking ≡ true
    seeks Collecting b h = h
    seeks Choosing b h = h
    seeks SeizingVotes b h = h
    seeks SeizingOthers b h = h
    seeks Installing b h = absurd b
    seeks Over b h = absurd b

tells_heard : (ms : List Moment) (n e : ℕ) (M : Memberships) (from : ℕ) (b : Body) → coordinator e ≡ n → TellsOf M from b → IsHad ms n from b → TellsOf (heard n ms e M) from b
tells_heard ms n e M from (body.Promise p newest members valid flagged committed pending) own told h = (by_number (p == e) refl, told.1)
  where
    by_number : (b : Bool) → (p == e) ≡ b → (not b || came_from ms n e from) ≡ true
    by_number false is = refl
    by_number true is =
        let same : p ≡ e = is_number p e is in
        or_right (from == n) _ (subst (λ z. has_told z from ms ≡ true) same (h (ap coordinator same ∙ own)))
tells_heard ms n e M from (body.Ready p joined report) own told h = refl
tells_heard ms n e M from (body.Heartbeat promised session is_one) own told h = tt
tells_heard ms n e M from (body.Collect p members) own told h = tt
tells_heard ms n e M from (body.Nack p promised) own told h = tt
tells_heard ms n e M from (body.SeizeQuorum p members d) own told h = tt
tells_heard ms n e M from (body.SeizeData p members d) own told h = tt
tells_heard ms n e M from (body.Seized p d outcome) own told h = tt
tells_heard ms n e M from (body.Install i) own told h = tt
tells_heard ms n e M from (body.Start p) own told h = tt
tells_heard ms n e M from (body.Prepare p place text) own told h = tt
tells_heard ms n e M from (body.Prepared p place) own told h = tt
tells_heard ms n e M from (body.Commit p place) own told h = tt
tells_heard ms n e M from (body.Order o) own told h = tt
tells_heard ms n e M from (body.Done p number outcome) own told h = tt
tells_heard ms n e M from (body.Request p number text) own told h = tt
tells_heard ms n e M from (body.Answer p number text) own told h = tt
tells_heard ms n e M from (body.Excluded p newest) own told h = tt

had_of : (ms : List Moment) (n from : ℕ) (m : Message) → HandKept ms n (Some (from, m)) → IsHad ms n from m.body
had_of ms n from m h = h.had

told_heard : (c : Cluster) (ms : List Moment) (n : ℕ) (M : Memberships) (q : NodeState) (told : Delivered) (a : AttemptState) (k : Call) → Coordinates c M n q a → Known M told → HandKept ms n told → MayCall c told a k
    → IsTold (heard n ms a.plan.epoch M) a k
told_heard c ms n M q told a (Take from m) co known hand may =
    tells_heard ms n a.plan.epoch M from m.body (own_of c M n q a co) (tells_of M from m.body (subst (λ t. Known M t) may.0 known)) (had_of ms n from m (subst (λ t. HandKept ms n t) may.0 hand))
told_heard c ms n M q told a Own_ready co known hand may = refl
told_heard c ms n M q told a (With_votes both) co known hand may = tt
told_heard c ms n M q told a (Own_seized d r) co known hand may = tt
told_heard c ms n M q told a Tick co known hand may = tt

-- the attempt takes a call
pub turn_heard : (c : Cluster) (ms : List Moment) (n : ℕ) (M : Memberships) (q : NodeState) (told : Delivered) (a : AttemptState) (k : Call) → Holds (setting_of c) M → (M.node n).session ≡ q.session → Known M told → HandKept ms n told
    → Coordinates c M n q a → MayCall c told a k → All (λ p. HeardFrom ms n a.plan.epoch p.shown.summary.node) a.promises
    → All (λ p. HeardFrom ms n (turn a k).after.plan.epoch p.shown.summary.node) (turn a k).after.promises
turn_heard c ms n M q told a k i shows known hand co may h =
    let t : AttemptState = (turn a k).after in
    let epoch : t.plan.epoch ≡ a.plan.epoch = ap (λ p. p.epoch) (plan_stays a k (may_be_called c told a k may)) in
    let has : MachineHas (heard n ms a.plan.epoch M) t =
    calls_are_told (heard n ms a.plan.epoch M) a k (may_be_called c told a k may) (has_heard c ms n M q a co h)
    (λ is. uncounted_before c M n q a i shows co (subst IsBefore (sym is) tt)) (told_heard c ms n M q told a k co known hand may) in
    λ j d lt. each t.plan.epoch t.plan.members _ epoch (has.answers j d lt)
  where
    unless_other : (e f : ℕ) (b : Bool) → e ≡ f → (not (e == f) || b) ≡ true → b ≡ true
    unless_other e f b at k = subst (λ z. (not z || b) ≡ true) (same_so e f at) k

    each : (e members : ℕ) (p : Promised) → e ≡ a.plan.epoch → IsAnswer (heard n ms a.plan.epoch M) e members p → HeardFrom ms n e p.shown.summary.node
    each e members p at so = to_heard ms n e p.shown.summary.node (subst (λ z. came_from ms n z p.shown.summary.node ≡ true) (sym at) (unless_other e a.plan.epoch (came_from ms n a.plan.epoch p.shown.summary.node) at so.answered))

-- all have promised, and so each member's came
pub member_heard : (ms : List Moment) (n e k : ℕ) (promises : List Promised) (nodes : List ℕ) → list_any (λ m. m == k) nodes ≡ true → list_all (has_promised promises) nodes ≡ true
    → All (λ p. HeardFrom ms n e p.shown.summary.node) promises → HeardFrom ms n e k
member_heard ms n e k promises nodes member all h =
    of_any (λ p. p.shown.summary.node == k) (λ p. HeardFrom ms n e p.shown.summary.node) (HeardFrom ms n e k) promises (of_all (has_promised promises) k nodes all member) h
    (λ p at so. subst (λ z. HeardFrom ms n e z) (is_number p.shown.summary.node k at) so)
