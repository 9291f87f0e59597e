-- A node writes an Install, or any message.
use Rattle.std.specs.Prelude.{ℕ, ◌%◌, ◌≡◌, ◌<◌, ◌≤◌, ◌⊎◌, List, [], ◌∷◌, Option, None, Some}
use Rattle.std.proofs.Common.{refl, sym, ap, subst, ◌∙◌, inl, inr, arith}
use Rattle.attempt_laws.specs.Staying.{IsBefore}
use Rattle.cmm_attempt.proofs.Basics.{same_some}
use Rattle.cmm_attempt.specs.Attempts.{AttemptState, install_in}
use Rattle.cmm_attempt.specs.declared.phase.Phase.TheVariants.{Installing}
use Rattle.cmm_member.specs.Records.{NodeRecord}
use Rattle.node_model.specs.Seats.{promised_of, record_of, session_of}
use Rattle.node_model.specs.declared.node.Node.TheVariants.{Up}
use Rattle.node_model.specs.declared.node.UpNode.{UpNode}
use Rattle.node_model.specs.declared.output.Output.TheVariants.{Sends}
use Rattle.refinement.specs.Doings.{site}
use Rattle.refinement.specs.Guards.{MayWrite, OfAttempt}
use Rattle.refinement.specs.Runs.{Letter}
use Rattle.refinement.specs.Ties.{Delivered}
use Rattle.run_history.specs.Guards.{AtWrite, Hand}
use Rattle.wire.specs.declared.message.Body.{Body}
use Rattle.wire.specs.declared.message.Body.TheVariants as body
use Rattle.wire.specs.declared.message.Install.{Install}
use Rattle.run_outcomes.specs.tasks.Shown.{AttemptSo, FollowsSo, HandIn, Installs, UpSo}
use Rattle.run_outcomes.proofs.shown.Goes.{attempt_in, own_install}
use Rattle.run_outcomes.proofs.shown.Keeps.{attempt_with, turn_with}
use Rattle.run_outcomes.proofs.shown.Letters.{IsMore, IsOne, epoch_in, kind_in, data_more, installs_more, installs_one, one, second_in}
use Rattle.run_outcomes.proofs.shown.Now.{Now, After, either_more, after_aside, one_more, less_kind, one_taken, in_with}
use Rattle.run_outcomes.proofs.shown.Promising.{IsPromise, quorum_old, data_old, installs_old, shown_old, promise_now, promise_others}
use Rattle.run_outcomes.proofs.shown.Requests.{quorum_after, data_after}

-- an Install of its attempt, which installs
record Sending (n : ℕ) (x : UpNode) (i : Install) : Type 0 where
  attempt : AttemptState
  has_it : x.attempt ≡ Some attempt
  phase : attempt.phase ≡ Installing
  epoch : i.epoch ≡ attempt.plan.epoch

sending_of : (n : ℕ) (x : UpNode) (i : Install) (o : Option AttemptState) → x.attempt ≡ o → OfAttempt (λ a. (a.phase ≡ Installing) × (i ≡ install_in a)) o → Sending n x i
sending_of n x i None is k = absurd k
sending_of n x i (Some a) is k = record { attempt = a; has_it = is; phase = k.0; epoch = ap (λ (z : Install). z.epoch) k.1 ∙ own_install a }

not_before : (a : AttemptState) → a.phase ≡ Installing → IsBefore a.phase → ⊥
not_before a is k = subst IsBefore is k

install_after : (L : List Letter) (n to : ℕ) (i : Install) (x : UpNode) (disk : NodeRecord) (g : Hand) → Sending n x i → Now L n (site (Up x) disk) g
    → After L (one n (body.Install i) ∷ L) n (site (Up x) disk) g (Sends to (body.Install i) ∷ [])
install_after L n to i x disk g k h = record {
  now = record {
    apart = λ q d asked quorum. h.apart q d (data_old L n q d b (λ z. less_kind 4 3 (omega arith) z.kind_so) asked) (quorum_old L n q d b (λ z. less_kind 4 2 (omega arith) z.kind_so) quorum);
    agree = λ m q v w d range other first second shows lacks.
        either_more L M q d more (h.agree m q v w d range other (shown_old L n m q v b (λ z. less_kind 4 1 (omega arith) z.1.kind_so) first) (shown_old L n m q w b (λ z. less_kind 4 1 (omega arith) z.1.kind_so) second) shows lacks);
    here = record {
      order = h.here.order;
      shown = λ q v z. h.here.shown q v (shown_old L n n q v b (λ y. less_kind 4 1 (omega arith) y.1.kind_so) z);
      asked_data = λ q d own z. h.here.asked_data q d own (data_old L n q d b (λ y. less_kind 4 3 (omega arith) y.kind_so) z);
      quorum = λ q d own z. h.here.quorum q d own (quorum_old L n q d b (λ y. less_kind 4 2 (omega arith) y.kind_so) z);
      installs = λ q own z. low q own (installs_one L n b q z);
      up = (
        h.here.up.0,
        record {
          session = up.session;
          follows = λ f. followed (up.follows f);
          installed = λ first other done. installs_more L M (session_of x) more (up.installed first other done);
          attempt = in_with L n (session_of x) b x.attempt
              (λ a is z. attempt_with n (session_of x) L M a (one_taken L n b) (λ d y. z.asked_data d (data_old L n a.plan.epoch d b (λ w. less_kind 4 3 (omega arith) w.kind_so) y))
              (λ d y. z.quorum d (quorum_old L n a.plan.epoch d b (λ w. less_kind 4 2 (omega arith) w.kind_so) y))
              (λ y early. not_before a (ap (λ (w : AttemptState). w.phase) (same_some a k.attempt (sym is ∙ k.has_it)) ∙ k.phase) early) z) up.attempt;
        },
      );
    };
    hand = in_hand g h.hand;
  };
  others = λ j ne. record {
    base = record { more = more; taken = λ m q v own other z. inl (shown_old L n m q v b (λ y. less_kind 4 1 (omega arith) y.1.kind_so) z) };
    shown = λ q v z. shown_old L n j q v b (λ y. less_kind 4 1 (omega arith) y.1.kind_so) z;
    asked_data = λ q d own z. data_old L n q d b (λ y. less_kind 4 3 (omega arith) y.kind_so) z;
    quorum = λ q d own z. quorum_old L n q d b (λ y. less_kind 4 2 (omega arith) y.kind_so) z;
    installs = λ q own z. installs_old L n q b (λ y. ne (sym own ∙ (ap (λ w. w % 64) (sym y.epoch ∙ k.epoch) ∙ so.own))) z;
  };
  given = (tt, tt);
}
  where
    b : Body
    b = body.Install i

    M : List Letter
    M = one n b ∷ L

    more : IsMore L M
    more = one_more L (one n b)

    up : UpSo L n x
    up = h.here.up.1

    so : AttemptSo L n (session_of x) k.attempt
    so = attempt_in L n (session_of x) x.attempt k.attempt k.has_it up.attempt

    low : (q : ℕ) → q % 64 ≡ n → Installs L q ⊎ IsOne n b 4 q 0 → q ≤ disk.promised
    low q own (inl z) = h.here.installs q own z
    low q own (inr z) = subst (λ y. y ≤ disk.promised) (sym so.epoch ∙ (sym k.epoch ∙ z.epoch)) (subst (λ (r : NodeRecord). session_of x ≤ r.promised) h.here.up.0 up.session)

    followed : FollowsSo L n x → FollowsSo M n x
    followed z = record {
      shown = λ v d range y valid. z.shown v d range (shown_old L n n (session_of x) v b (λ w. less_kind 4 1 (omega arith) w.1.kind_so) y) valid;
      held = λ v d range y valid. z.held v d range (shown_old L n n (session_of x) v b (λ w. less_kind 4 1 (omega arith) w.1.kind_so) y) valid;
      plain = λ d y. data_more L M (session_of x) d more (z.plain d y);
      fit = z.fit;
    }

    in_hand : (g : Hand) → HandIn L n (record_of x) (Up x) g → HandIn M n (record_of x) (Up x) g
    in_hand None z = tt
    in_hand (Some u) z =
        turn_with n (promised_of x) L M x.attempt u more (λ d y. z.asked_data d (data_old L n u.after.plan.epoch d b (λ w. less_kind 4 3 (omega arith) w.kind_so) y))
        (λ d y. z.quorum d (quorum_old L n u.after.plan.epoch d b (λ w. less_kind 4 2 (omega arith) w.kind_so) y)) z

-- ---- each message

of_record : (n p : ℕ) (x : UpNode) (b : Body) → p ≡ session_of x → kind_in b ≡ 1 → epoch_in b ≡ p → second_in b ≡ (record_of x).valid → IsPromise n x b
of_record n p x b session kind epoch valid = λ j q w z. record { only = sym z.kind_so ∙ kind; session = sym z.epoch ∙ (epoch ∙ session); valid = sym z.second ∙ valid }

pub write_after : (L : List Letter) (n to : ℕ) (told : Delivered) (b : Body) (x : UpNode) (disk : NodeRecord) (g : Hand) → MayWrite x b → AtWrite told g x to b → Now L n (site (Up x) disk) g
    → After L (one n b ∷ L) n (site (Up x) disk) g (Sends to b ∷ [])
write_after L n to told (body.Promise p newest members valid flagged committed pending) x disk g may at h =
    let b : Body = body.Promise p newest members valid flagged committed pending in
    let some : 0 < session_of x = subst (λ z. 0 < z) may.1 may.0 in
    let is : IsPromise n x b = of_record n p x b may.1 refl refl (ap second_in may.2) in
    record { now = promise_now L n x disk g b some is h; others = λ k ne. promise_others L n x b k some is h.here.up.1 ne; given = (tt, tt) }
write_after L n to told (body.SeizeQuorum e members d) x disk g may at h = quorum_after L n to e members d x disk g at h
write_after L n to told (body.SeizeData e members d) x disk g may at h = data_after L n to e members d x disk g at h
write_after L n to told (body.Install i) x disk g may at h = install_after L n to i x disk g (sending_of n x i x.attempt refl may) h
write_after L n to told (body.Heartbeat promised session one_of) x disk g may at h = after_aside L n (site (Up x) disk) g (Sends to (body.Heartbeat promised session one_of) ∷ []) (tt, tt) h
write_after L n to told (body.Collect e members) x disk g may at h = after_aside L n (site (Up x) disk) g (Sends to (body.Collect e members) ∷ []) (tt, tt) h
write_after L n to told (body.Nack e promised) x disk g may at h = after_aside L n (site (Up x) disk) g (Sends to (body.Nack e promised) ∷ []) (tt, tt) h
write_after L n to told (body.Seized e d r) x disk g may at h = after_aside L n (site (Up x) disk) g (Sends to (body.Seized e d r) ∷ []) (tt, tt) h
write_after L n to told (body.Ready e joined report) x disk g may at h = after_aside L n (site (Up x) disk) g (Sends to (body.Ready e joined report) ∷ []) (tt, tt) h
write_after L n to told (body.Start e) x disk g may at h = after_aside L n (site (Up x) disk) g (Sends to (body.Start e) ∷ []) (tt, tt) h
write_after L n to told (body.Prepare e place text) x disk g may at h = after_aside L n (site (Up x) disk) g (Sends to (body.Prepare e place text) ∷ []) (tt, tt) h
write_after L n to told (body.Prepared e place) x disk g may at h = after_aside L n (site (Up x) disk) g (Sends to (body.Prepared e place) ∷ []) (tt, tt) h
write_after L n to told (body.Commit e place) x disk g may at h = after_aside L n (site (Up x) disk) g (Sends to (body.Commit e place) ∷ []) (tt, tt) h
write_after L n to told (body.Order o) x disk g may at h = after_aside L n (site (Up x) disk) g (Sends to (body.Order o) ∷ []) (tt, tt) h
write_after L n to told (body.Done e number outcome) x disk g may at h = after_aside L n (site (Up x) disk) g (Sends to (body.Done e number outcome) ∷ []) (tt, tt) h
write_after L n to told (body.Request e number text) x disk g may at h = after_aside L n (site (Up x) disk) g (Sends to (body.Request e number text) ∷ []) (tt, tt) h
write_after L n to told (body.Answer e number text) x disk g may at h = after_aside L n (site (Up x) disk) g (Sends to (body.Answer e number text) ∷ []) (tt, tt) h
write_after L n to told (body.Excluded e newest) x disk g may at h = after_aside L n (site (Up x) disk) g (Sends to (body.Excluded e newest) ∷ []) (tt, tt) h
