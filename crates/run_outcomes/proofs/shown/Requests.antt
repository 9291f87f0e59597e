-- A node writes a request to seize a device.
use Rattle.std.specs.Prelude.{ℕ, ◌%◌, ◌≡◌, ◌≢◌, ◌<◌, ◌≤◌, ◌⊎◌, ◌==◌, ◌&&◌, true, List, [], ◌∷◌, None, Some}
use Rattle.std.specs.List.{AllByRecursion}
use Rattle.std.proofs.Common.{refl, sym, ap, subst, ◌∙◌, inl, inr, arith}
use Rattle.cl_base.specs.Sets.{has}
use Rattle.cmm_attempt.proofs.Basics.{and_cases, false_true, or_cases, same_number, same_some}
use Rattle.cmm_attempt.specs.Attempts.{AttemptState, Turn}
use Rattle.cmm_attempt.specs.Counts.{is_quorum}
use Rattle.cmm_attempt.specs.Promises.{holds_valid}
use Rattle.cmm_attempt.specs.declared.counting.BothVotes.{BothVotes}
use Rattle.cmm_attempt.specs.declared.promised.Promised.{Promised}
use Rattle.cmm_attempt.specs.declared.step.Step.{Step}
use Rattle.cmm_attempt.specs.declared.step.Step.TheVariants as step
use Rattle.cmm_member.specs.Records.{NodeRecord}
use Rattle.node_model.specs.Seats.{promised_of, record_of, session_of}
use Rattle.node_model.specs.declared.node.Node.TheVariants.{Up}
use Rattle.node_model.specs.declared.node.UpNode.{UpNode}
use Rattle.node_model.specs.declared.output.Output.TheVariants.{Sends}
use Rattle.refinement.specs.Doings.{site}
use Rattle.refinement.specs.Runs.{Letter}
use Rattle.run_history.specs.Guards as guards
use Rattle.run_history.specs.Guards.{AtWrite, Hand, IsStep, SendsSo}
use Rattle.wire.specs.declared.message.Body.{Body}
use Rattle.wire.specs.declared.message.Body.TheVariants as body
use Rattle.run_outcomes.specs.tasks.Shown.{AgreesIn, AsksData, AsksQuorum, BodyStep, FollowsSo, GivenSo, HasShown, IsPlainTo, IsVoteTo, ShowsDevice, StepSo, TurnSo, UpSo}
use Rattle.run_outcomes.proofs.shown.Keeps.{attempt_with, turn_with}
use Rattle.run_outcomes.proofs.shown.Letters.{IsMore, IsOne, device_more, data_more, data_one, installs_more, one, quorum_one}
use Rattle.run_outcomes.proofs.shown.Now.{Now, After, either_more, one_more, no_kind, less_kind, one_taken, in_with}
use Rattle.run_outcomes.proofs.shown.Promising.{quorum_old, data_old, installs_old, shown_old}

-- ---- requests, and an Install

-- who has promised so to the attempt, and is not its coordinator, has shown the device
device_shown : (L : List Letter) (n e d to : ℕ) (ps : List Promised) → to ≢ n → AllByRecursion (GivenSo L n e) ps → holds_valid ps d to ≡ true → ShowsDevice L to e d
device_shown L n e d to [] other k is = absurd (false_true is)
device_shown L n e d to (p ∷ ps) other k is =
    by_cases (or_cases ((p.shown.summary.node == to) && has p.shown.valid d) (holds_valid ps d to) is) (λ rest. device_shown L n e d to ps other k.1 rest)
  where
    here : p.shown.summary.node ≡ to → has p.shown.valid d ≡ true → (p.shown.summary.node ≡ n) ⊎ HasShown L p.shown.summary.node e p.shown.valid → ShowsDevice L to e d
    here node valid (inl own) = absurd (other (sym node ∙ own))
    here node valid (inr shown) = record { valid = p.shown.valid; shown = subst (λ z. HasShown L z e p.shown.valid) node shown; has_it = valid }

    by_cases : (((p.shown.summary.node == to) && has p.shown.valid d) ≡ true) ⊎ (holds_valid ps d to ≡ true) → (holds_valid ps d to ≡ true → ShowsDevice L to e d) → ShowsDevice L to e d
    by_cases (inl first) rest =
        let two : ((p.shown.summary.node == to) ≡ true) × (has p.shown.valid d ≡ true) = and_cases (p.shown.summary.node == to) (has p.shown.valid d) first in
        here (same_number p.shown.summary.node to two.0) two.1 k.0
    by_cases (inr later) rest = rest later

not_both : (a : AttemptState) (d : ℕ) → IsPlainTo a d → IsVoteTo a d → ⊥
not_both a d k l = false_true (sym k.none ∙ subst (λ (z : BothVotes). is_quorum z d ≡ true) (same_some l.both k.both (sym l.votes ∙ k.votes)) l.some)

step_in : (to : ℕ) (b : Body) (u : Turn) → SendsSo u.steps to b → ((x : Step) → IsStep x u.steps → StepSo u.after x) → BodyStep u.after to b
step_in to b u at steps = subst (λ z. BodyStep u.after to z) at.body_so (steps (step.Send to at.message) at.step_so)

low_turn : (L : List Letter) (n : ℕ) (x : UpNode) (disk : NodeRecord) (e : ℕ) (u : Turn) → record_of x ≡ disk → TurnSo L n (promised_of x) x.attempt u → u.after.plan.epoch ≡ e → e ≤ disk.promised
low_turn L n x disk e u same h is = subst (λ q. q ≤ disk.promised) is (subst (λ (r : NodeRecord). u.after.plan.epoch ≤ r.promised) same h.low)

-- what its attempt has asked for is so of the node's attempt
asked_quorum : (L : List Letter) (n e members d : ℕ) (x : UpNode) (u : Turn) (a : AttemptState) → TurnSo L n (promised_of x) x.attempt u → e ≡ u.after.plan.epoch → IsVoteTo u.after d → x.attempt ≡ Some a
    → ((k : ℕ) → AsksQuorum L a.plan.epoch k → IsVoteTo a k) → (k : ℕ) → AsksQuorum (one n (body.SeizeQuorum e members d) ∷ L) a.plan.epoch k → IsVoteTo a k
asked_quorum L n e members d x u a h epoch vote at old k z = by_side (quorum_one L n (body.SeizeQuorum e members d) a.plan.epoch k z)
  where
    by_side : AsksQuorum L a.plan.epoch k ⊎ IsOne n (body.SeizeQuorum e members d) 2 a.plan.epoch k → IsVoteTo a k
    by_side (inl y) = old k y
    by_side (inr y) = subst (IsVoteTo a) y.second ((subst (AgreesIn u.after) at h.agrees (sym y.epoch ∙ epoch) d).1 vote)

pub quorum_after : (L : List Letter) (n to e members d : ℕ) (x : UpNode) (disk : NodeRecord) (g : Hand) → guards.InHand (λ u. SendsSo u.steps to (body.SeizeQuorum e members d)) g → Now L n (site (Up x) disk) g
    → After L (one n (body.SeizeQuorum e members d) ∷ L) n (site (Up x) disk) g (Sends to (body.SeizeQuorum e members d) ∷ [])
quorum_after L n to e members d x disk None at h = absurd at
quorum_after L n to e members d x disk (Some u) at h = record {
  now = record {
    apart = λ q k asked quorum. by_apart q k (data_old L n q k b (λ z. no_kind 2 3 (omega arith) z.kind_so) asked) (quorum_one L n b q k quorum);
    agree = λ m q v w k range other first second shows lacks.
        either_more L M q k more (h.agree m q v w k range other (shown_old L n m q v b (λ z. less_kind 2 1 (omega arith) z.1.kind_so) first) (shown_old L n m q w b (λ z. less_kind 2 1 (omega arith) z.1.kind_so) second) shows lacks);
    here = record {
      order = h.here.order;
      shown = λ q v z. h.here.shown q v (shown_old L n n q v b (λ y. less_kind 2 1 (omega arith) y.1.kind_so) z);
      asked_data = λ q k own z. h.here.asked_data q k own (data_old L n q k b (λ y. no_kind 2 3 (omega arith) y.kind_so) z);
      quorum = λ q k own z. low q k own (quorum_one L n b q k z);
      installs = λ q own z. h.here.installs q own (installs_old L n q b (λ y. no_kind 2 4 (omega arith) y.kind_so) z);
      up = (
        h.here.up.0,
        record {
          session = up.session;
          follows = λ f. followed (up.follows f);
          installed = λ first other done. installs_more L M (session_of x) more (up.installed first other done);
          attempt = in_with L n (session_of x) b x.attempt
              (λ a is so. attempt_with n (session_of x) L M a (one_taken L n b) (λ k z. so.asked_data k (data_old L n a.plan.epoch k b (λ y. no_kind 2 3 (omega arith) y.kind_so) z))
              (asked_quorum L n e members d x u a h.hand asks.1 asks.3 is so.quorum)
              (λ z early. so.before (installs_old L n a.plan.epoch b (λ y. no_kind 2 4 (omega arith) y.kind_so) z) early) so) up.attempt;
        },
      );
    };
    hand = turn_with n (promised_of x) L M x.attempt u more (λ k z. h.hand.asked_data k (data_old L n u.after.plan.epoch k b (λ y. no_kind 2 3 (omega arith) y.kind_so) z))
        (λ k z. by_hand k (quorum_one L n b u.after.plan.epoch k z)) h.hand;
  };
  others = λ j ne. record {
    base = record { more = more; taken = λ i q v own other z. inl (shown_old L n i q v b (λ y. less_kind 2 1 (omega arith) y.1.kind_so) z) };
    shown = λ q v z. shown_old L n j q v b (λ y. less_kind 2 1 (omega arith) y.1.kind_so) z;
    asked_data = λ q k own z. data_old L n q k b (λ y. no_kind 2 3 (omega arith) y.kind_so) z;
    quorum = λ q k own z. quorum_old L n q k b (λ y. ne (sym own ∙ (ap (λ w. w % 64) (sym y.epoch ∙ asks.1) ∙ h.hand.own))) z;
    installs = λ q own z. installs_old L n q b (λ y. no_kind 2 4 (omega arith) y.kind_so) z;
  };
  given = (
    (
      asks.0,
      subst (λ q. 0 < q) (sym asks.1) h.hand.some,
      (λ is. asks.2 (sym is ∙ (ap (λ w. w % 64) asks.1 ∙ (h.hand.own ∙ sym h.hand.coordinator)))),
      record { from = n; members = members; among = inl (refl, refl) },
      device_more L M to e d more (subst (λ q. ShowsDevice L to q d) (sym asks.1) (device_shown L n u.after.plan.epoch d to u.after.promises (λ is. asks.2 (is ∙ sym h.hand.coordinator)) h.hand.promises asks.4)),
    ),
    tt,
  );
}
  where
    b : Body
    b = body.SeizeQuorum e members d

    M : List Letter
    M = one n b ∷ L

    more : IsMore L M
    more = one_more L (one n b)

    up : UpSo L n x
    up = h.here.up.1

    asks : BodyStep u.after to (body.SeizeQuorum e members d)
    asks = step_in to (body.SeizeQuorum e members d) u at h.hand.steps

    by_apart : (q k : ℕ) → AsksData L q k → AsksQuorum L q k ⊎ IsOne n b 2 q k → ⊥
    by_apart q k asked (inl z) = h.apart q k asked z
    by_apart q k asked (inr z) =
        not_both u.after k (h.hand.asked_data k (subst (λ y. AsksData L y k) (sym z.epoch ∙ asks.1) asked)) (subst (IsVoteTo u.after) z.second asks.3)

    low : (q k : ℕ) → q % 64 ≡ n → AsksQuorum L q k ⊎ IsOne n b 2 q k → q ≤ disk.promised
    low q k own (inl z) = h.here.quorum q k own z
    low q k own (inr z) = low_turn L n x disk q u h.here.up.0 h.hand (sym asks.1 ∙ z.epoch)

    followed : FollowsSo L n x → FollowsSo M n x
    followed so = record {
      shown = λ v k range z valid. so.shown v k range (shown_old L n n (session_of x) v b (λ y. less_kind 2 1 (omega arith) y.1.kind_so) z) valid;
      held = λ v k range z valid. so.held v k range (shown_old L n n (session_of x) v b (λ y. less_kind 2 1 (omega arith) y.1.kind_so) z) valid;
      plain = λ k z. data_more L M (session_of x) k more (so.plain k z);
      fit = so.fit;
    }

    by_hand : (k : ℕ) → AsksQuorum L u.after.plan.epoch k ⊎ IsOne n b 2 u.after.plan.epoch k → IsVoteTo u.after k
    by_hand k (inl z) = h.hand.quorum k z
    by_hand k (inr z) = subst (IsVoteTo u.after) z.second asks.3

asked_plain : (L : List Letter) (n e members d : ℕ) (x : UpNode) (u : Turn) (a : AttemptState) → TurnSo L n (promised_of x) x.attempt u → e ≡ u.after.plan.epoch → IsPlainTo u.after d → x.attempt ≡ Some a
    → ((k : ℕ) → AsksData L a.plan.epoch k → IsPlainTo a k) → (k : ℕ) → AsksData (one n (body.SeizeData e members d) ∷ L) a.plan.epoch k → IsPlainTo a k
asked_plain L n e members d x u a h epoch plain at old k z = by_side (data_one L n (body.SeizeData e members d) a.plan.epoch k z)
  where
    by_side : AsksData L a.plan.epoch k ⊎ IsOne n (body.SeizeData e members d) 3 a.plan.epoch k → IsPlainTo a k
    by_side (inl y) = old k y
    by_side (inr y) = subst (IsPlainTo a) y.second ((subst (AgreesIn u.after) at h.agrees (sym y.epoch ∙ epoch) d).0 plain)

pub data_after : (L : List Letter) (n to e members d : ℕ) (x : UpNode) (disk : NodeRecord) (g : Hand) → guards.InHand (λ u. SendsSo u.steps to (body.SeizeData e members d)) g → Now L n (site (Up x) disk) g
    → After L (one n (body.SeizeData e members d) ∷ L) n (site (Up x) disk) g (Sends to (body.SeizeData e members d) ∷ [])
data_after L n to e members d x disk None at h = absurd at
data_after L n to e members d x disk (Some u) at h = record {
  now = record {
    apart = λ q k asked quorum. by_apart q k (data_one L n b q k asked) (quorum_old L n q k b (λ z. less_kind 3 2 (omega arith) z.kind_so) quorum);
    agree = λ m q v w k range other first second shows lacks.
        either_more L M q k more (h.agree m q v w k range other (shown_old L n m q v b (λ z. less_kind 3 1 (omega arith) z.1.kind_so) first) (shown_old L n m q w b (λ z. less_kind 3 1 (omega arith) z.1.kind_so) second) shows lacks);
    here = record {
      order = h.here.order;
      shown = λ q v z. h.here.shown q v (shown_old L n n q v b (λ y. less_kind 3 1 (omega arith) y.1.kind_so) z);
      asked_data = λ q k own z. low q k own (data_one L n b q k z);
      quorum = λ q k own z. h.here.quorum q k own (quorum_old L n q k b (λ y. less_kind 3 2 (omega arith) y.kind_so) z);
      installs = λ q own z. h.here.installs q own (installs_old L n q b (λ y. no_kind 3 4 (omega arith) y.kind_so) z);
      up = (
        h.here.up.0,
        record {
          session = up.session;
          follows = λ f. followed (up.follows f);
          installed = λ first other done. installs_more L M (session_of x) more (up.installed first other done);
          attempt = in_with L n (session_of x) b x.attempt
              (λ a is so. attempt_with n (session_of x) L M a (one_taken L n b) (asked_plain L n e members d x u a h.hand asks.0 asks.1 is so.asked_data)
              (λ k z. so.quorum k (quorum_old L n a.plan.epoch k b (λ y. less_kind 3 2 (omega arith) y.kind_so) z))
              (λ z early. so.before (installs_old L n a.plan.epoch b (λ y. no_kind 3 4 (omega arith) y.kind_so) z) early) so) up.attempt;
        },
      );
    };
    hand = turn_with n (promised_of x) L M x.attempt u more (λ k z. by_hand k (data_one L n b u.after.plan.epoch k z))
        (λ k z. h.hand.quorum k (quorum_old L n u.after.plan.epoch k b (λ y. less_kind 3 2 (omega arith) y.kind_so) z)) h.hand;
  };
  others = λ j ne. record {
    base = record { more = more; taken = λ i q v own other z. inl (shown_old L n i q v b (λ y. less_kind 3 1 (omega arith) y.1.kind_so) z) };
    shown = λ q v z. shown_old L n j q v b (λ y. less_kind 3 1 (omega arith) y.1.kind_so) z;
    asked_data = λ q k own z. data_old L n q k b (λ y. ne (sym own ∙ (ap (λ w. w % 64) (sym y.epoch ∙ asks.0) ∙ h.hand.own))) z;
    quorum = λ q k own z. quorum_old L n q k b (λ y. less_kind 3 2 (omega arith) y.kind_so) z;
    installs = λ q own z. installs_old L n q b (λ y. no_kind 3 4 (omega arith) y.kind_so) z;
  };
  given = (tt, tt);
}
  where
    b : Body
    b = body.SeizeData e members d

    M : List Letter
    M = one n b ∷ L

    more : IsMore L M
    more = one_more L (one n b)

    up : UpSo L n x
    up = h.here.up.1

    asks : BodyStep u.after to (body.SeizeData e members d)
    asks = step_in to (body.SeizeData e members d) u at h.hand.steps

    by_apart : (q k : ℕ) → AsksData L q k ⊎ IsOne n b 3 q k → AsksQuorum L q k → ⊥
    by_apart q k (inl z) quorum = h.apart q k z quorum
    by_apart q k (inr z) quorum =
        not_both u.after k (subst (IsPlainTo u.after) z.second asks.1) (h.hand.quorum k (subst (λ y. AsksQuorum L y k) (sym z.epoch ∙ asks.0) quorum))

    low : (q k : ℕ) → q % 64 ≡ n → AsksData L q k ⊎ IsOne n b 3 q k → q ≤ disk.promised
    low q k own (inl z) = h.here.asked_data q k own z
    low q k own (inr z) = low_turn L n x disk q u h.here.up.0 h.hand (sym asks.0 ∙ z.epoch)

    followed : FollowsSo L n x → FollowsSo M n x
    followed so = record {
      shown = λ v k range z valid. so.shown v k range (shown_old L n n (session_of x) v b (λ y. less_kind 3 1 (omega arith) y.1.kind_so) z) valid;
      held = λ v k range z valid. so.held v k range (shown_old L n n (session_of x) v b (λ y. less_kind 3 1 (omega arith) y.1.kind_so) z) valid;
      plain = λ k z. data_more L M (session_of x) k more (so.plain k z);
      fit = so.fit;
    }

    by_hand : (k : ℕ) → AsksData L u.after.plan.epoch k ⊎ IsOne n b 3 u.after.plan.epoch k → IsPlainTo u.after k
    by_hand k (inl z) = h.hand.asked_data k z
    by_hand k (inr z) = subst (IsPlainTo u.after) z.second asks.1
