-- What the attempt of a node, its seat and its tasks keep through its small steps.
use Rattle.std.specs.Prelude.{All, ℕ, ◌%◌, ◌≡◌, ◌≢◌, ◌<◌, ◌≤◌, ◌⊎◌, Bool, true, false, List, [], Some}
use Rattle.std.specs.List.{AllByRecursion}
use Rattle.std.proofs.Common.{refl, sym, ap, subst, ◌∙◌, inl, inr}
use Rattle.attempt_laws.proofs.Stays.{plan_begins, plan_stays}
use Rattle.cl_base.specs.Sets.{has}
use Rattle.cmm_attempt.proofs.Basics.{none_some, same_number, same_some}
use Rattle.cmm_attempt.specs.Attempts.{AttemptState, beginning, is_of}
use Rattle.cmm_attempt.specs.Calls.{Call, IsDevice, May, Take, turn}
use Rattle.cmm_attempt.specs.Promises.{promised_by, shown_by}
use Rattle.cmm_attempt.specs.declared.plan.Plan.{Plan}
use Rattle.cmm_attempt.specs.declared.promised.Promised.{Promised}
use Rattle.machine_base.proofs.Puts.{same_or_not}
use Rattle.node_model.specs.Attempts.{own_promise}
use Rattle.node_model.specs.declared.cluster.Cluster.{Cluster}
use Rattle.node_model.specs.declared.node.UpNode.{UpNode}
use Rattle.refinement.proofs.Attempts.{may_be_called, reached_more}
use Rattle.refinement.specs.Guards.{MayCall}
use Rattle.refinement.specs.Runs.{IsAmong, Letter}
use Rattle.refinement.specs.Ties.{Delivered}
use Rattle.wire.specs.declared.message.Body.{Body}
use Rattle.wire.specs.declared.message.Body.TheVariants as body
use Rattle.wire.specs.declared.message.Message.{Message}
use Rattle.run_outcomes.specs.tasks.Shown.{Agree, AgreesIn, AsksData, AsksQuorum, AttemptSo, HandSent, HasShown, InRange, Installs, TakenSo, TurnSo}
use Rattle.run_outcomes.proofs.shown.Asks.{steps_ask}
use Rattle.run_outcomes.proofs.shown.Calls.{Held, Takes, begun_holds, call_holds, plain_stays, vote_stays}
use Rattle.run_outcomes.proofs.shown.Keeps.{given_of}

-- ---- a Promise that is taken

-- something was asked for it
record SomeData (L : List Letter) (e : ℕ) : Type 0 where
  device : ℕ
  asked : AsksData L e device

record Shows (L : List Letter) (from e : ℕ) (p : Promised) : Type 0 where
  node : p.shown.summary.node ≡ from
  shown : HasShown L p.shown.summary.node e p.shown.valid

shows_of : (L : List Letter) (from e : ℕ) (m : Message) (p : Promised) (b : Body) → IsAmong from b L → is_of e b ≡ true → promised_by m (shown_by from b) ≡ Some p → Shows L from e p
shows_of L from e m p (body.Promise q newest members valid flagged committed pending) sent of is =
    let first : Promised = record { shown = record { summary = _; valid = valid; flagged = flagged }; message = m } in
    subst (Shows L from e) (same_some first p is)
    (record { node = refl; shown = record { newest = newest; members = members; flagged = flagged; committed = committed; pending = pending; among = subst (λ z. IsAmong from (body.Promise z newest members valid flagged committed pending) L) (same_number q e of) sent } })
shows_of L from e m p _ sent of is = absurd (none_some p is)

sent_of : (L : List Letter) (c : Cluster) (told : Delivered) (a : AttemptState) (from : ℕ) (m : Message) → HandSent L told → MayCall c told a (Take from m) → IsAmong from m.body L
sent_of L c told a from m hand may = subst (HandSent L) may.0 hand

not_same : (a b n : ℕ) → a ≡ n → b ≢ n → a ≢ b
not_same a b n h ne e = ne (sym e ∙ h)

takes_so : (L : List Letter) (c : Cluster) (told : Delivered) (n : ℕ) (a : AttemptState) (k : Call) → Agree L → HandSent L told → MayCall c told a k → a.plan.epoch % 64 ≡ n
    → Takes (TakenSo L n a.plan.epoch) (SomeData L a.plan.epoch) (Installs L a.plan.epoch) a.plan.epoch k
takes_so L c told n a k agree hand may own from m p is of promised none fresh = by_node (same_or_not p.shown.summary.node n)
  where
    e : ℕ
    e = a.plan.epoch

    z : Shows L from e p
    z = shows_of L from e m p m.body (sent_of L c told a from m hand (subst (MayCall c told a) is may)) of promised

    by_asked : (d : ℕ) → AsksData L e d ⊎ Installs L e → (has p.shown.valid d ≡ true) ⊎ Installs L e
    by_asked d (inl asked) = absurd (none (record { device = d; asked = asked }))
    by_asked d (inr done) = inr done

    by_value : (v d : ℕ) (b : Bool) → has p.shown.valid d ≡ b → InRange d → p.shown.summary.node ≢ n → HasShown L p.shown.summary.node e v → has v d ≡ true → (has p.shown.valid d ≡ true) ⊎ Installs L e
    by_value v d true at range ne other shows = inl at
    by_value v d false at range ne other shows = by_asked d (agree p.shown.summary.node e v p.shown.valid d range (not_same (e % 64) p.shown.summary.node n own ne) other z.shown shows at)

    by_node : (p.shown.summary.node ≡ n) ⊎ (p.shown.summary.node ≢ n) → TakenSo L n e p
    by_node (inl same) = inl same
    by_node (inr ne) = inr (z.shown, (λ v d range other shows. by_value v d (has p.shown.valid d) refl range ne other shows))

-- ---- a call

pub attempt_turned : (L : List Letter) (c : Cluster) (told : Delivered) (n q : ℕ) (a : AttemptState) (k : Call) → Agree L → HandSent L told → MayCall c told a k → AttemptSo L n q a
    → AttemptSo L n q (turn a k).after
attempt_turned L c told n q a k agree hand may h =
    let can : May a k = may_be_called c told a k may in
    let t : AttemptState = (turn a k).after in
    let plan : t.plan ≡ a.plan = plan_stays a k can in
    let epoch : t.plan.epoch ≡ a.plan.epoch = ap (λ (z : Plan). z.epoch) plan in
    let held : Held (TakenSo L n a.plan.epoch) (Installs L a.plan.epoch) t =
    call_holds (TakenSo L n a.plan.epoch) (SomeData L a.plan.epoch) (Installs L a.plan.epoch) a k can (takes_so L c told n a k agree hand may h.own) h.promises (λ z. (h.asked_data z.device z.asked).past) h.before in
    record {
      reached = reached_more a k can h.reached;
      epoch = epoch ∙ h.epoch;
      some = subst (λ z. 0 < z) (sym epoch) h.some;
      own = ap (λ z. z % 64) epoch ∙ h.own;
      coordinator = ap (λ (z : Plan). z.coordinator) plan ∙ h.coordinator;
      promises = subst (λ z. AllByRecursion (TakenSo L n z) t.promises) (sym epoch) held.promises;
      asked_data = λ d z. plain_stays a k d can (h.asked_data d (subst (λ e. AsksData L e d) epoch z));
      quorum = λ d z. vote_stays a k d can (h.quorum d (subst (λ e. AsksQuorum L e d) epoch z));
      before = λ z b. held.before (subst (Installs L) epoch z) b;
    }

-- its steps are in hand
pub turn_begins : (L : List Letter) (c : Cluster) (told : Delivered) (n q promised : ℕ) (a : AttemptState) (k : Call) → MayCall c told a k → q ≤ promised → AttemptSo L n q (turn a k).after
    → TurnSo L n promised (Some (turn a k).after) (turn a k)
turn_begins L c told n q promised a k may low h =
    let t : AttemptState = (turn a k).after in
    record {
      low = subst (λ z. z ≤ promised) (sym h.epoch) low;
      some = h.some;
      own = h.own;
      coordinator = h.coordinator;
      promises = given_of L n t.plan.epoch t.promises h.promises;
      asked_data = h.asked_data;
      quorum = h.quorum;
      steps = steps_ask a k (may_be_called c told a k may) h.reached;
      agrees = λ same d. ((λ z. z), (λ z. z));
    }

-- .. and other steps stay there
pub agrees_turned : (t a : AttemptState) (k : Call) → May a k → AgreesIn t (Some a) → AgreesIn t (Some (turn a k).after)
agrees_turned t a k can h same d =
    let before : a.plan.epoch ≡ t.plan.epoch = sym (ap (λ (z : Plan). z.epoch) (plan_stays a k can)) ∙ same in
    ((λ z. plain_stays a k d can ((h before d).0 z)), (λ z. vote_stays a k d can ((h before d).1 z)))

-- ---- an attempt begins

pub attempt_begins : (L : List Letter) (c : Cluster) (n p members : ℕ) (z : UpNode) → All IsDevice c.attached → 0 < p → p % 64 ≡ n → ((d : ℕ) → AsksData L p d → ⊥) → ((d : ℕ) → AsksQuorum L p d → ⊥) → (Installs L p → ⊥)
    → AttemptSo L n p (beginning p members (own_promise n z p) c.attached c.id).after
attempt_begins L c n p members z fits some own no_data no_quorum no_install =
    let t : AttemptState = (beginning p members (own_promise n z p) c.attached c.id).after in
    let epoch : t.plan.epoch ≡ p = (plan_begins p members (own_promise n z p) c.attached c.id).of_epoch in
    let held : Held (TakenSo L n p) (Installs L p) t =
    begun_holds (TakenSo L n p) (SomeData L p) (Installs L p) p members (own_promise n z p) c.attached c.id (inl refl) (λ k. no_data k.device k.asked) no_install in
    record {
      reached = record { p = p; members = members; own = own_promise n z p; attached = c.attached; cluster = c.id; devices = fits; calls = []; run = refl };
      epoch = epoch;
      some = subst (λ e. 0 < e) (sym epoch) some;
      own = ap (λ e. e % 64) epoch ∙ own;
      coordinator = (plan_begins p members (own_promise n z p) c.attached c.id).of_coordinator;
      promises = subst (λ e. AllByRecursion (TakenSo L n e) t.promises) (sym epoch) held.promises;
      asked_data = λ d k. absurd (no_data d (subst (λ e. AsksData L e d) epoch k));
      quorum = λ d k. absurd (no_quorum d (subst (λ e. AsksQuorum L e d) epoch k));
      before = λ k b. no_install (subst (Installs L) epoch k);
    }
