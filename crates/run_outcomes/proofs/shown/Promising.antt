-- A node writes a Promise.
use Rattle.std.specs.Prelude.{ℕ, ◌%◌, ◌≡◌, ◌≢◌, ◌<◌, ◌≤◌, ◌⊎◌, true, false, List, ◌∷◌, None, Some}
use Rattle.std.proofs.Common.{sym, ap, subst, ◌∙◌, inl, inr, arith}
use Rattle.cl_base.specs.Sets.{has}
use Rattle.cmm_attempt.proofs.Basics.{false_true}
use Rattle.cmm_member.specs.Records.{NodeRecord}
use Rattle.machine_base.proofs.Puts.{same_or_not}
use Rattle.node_model.specs.Seats.{installed_of, promised_of, record_of, session_of}
use Rattle.node_model.specs.declared.node.Node.TheVariants.{Up}
use Rattle.node_model.specs.declared.node.UpNode.{UpNode}
use Rattle.refinement.specs.Doings.{site}
use Rattle.refinement.specs.Runs.{Letter}
use Rattle.run_history.specs.Guards.{Hand}
use Rattle.wire.specs.declared.message.Body.{Body}
use Rattle.run_outcomes.specs.tasks.Laws.{seizes_plainly}
use Rattle.run_outcomes.specs.tasks.Shown.{Agree, AsksData, AsksQuorum, Follows, FollowsSo, HandIn, HasShown, InRange, Installs, UpSo}
use Rattle.run_outcomes.proofs.shown.Keeps.{KeepsFor, attempt_with, turn_with}
use Rattle.run_outcomes.proofs.shown.Letters.{IsMore, IsOne, data_more, data_one, installs_more, installs_one, one, quorum_one, shown_one}
use Rattle.run_outcomes.proofs.shown.Now.{Now, either_more, one_more, less_kind, one_taken, in_with}

-- ---- a Promise

-- what it shows beside another Promise of the session of node n, which is another's
record Beside (L : List Letter) (e u valid : ℕ) : Type 0 where
  more : (d : ℕ) → InRange d → has valid d ≡ true → (has u d ≡ true) ⊎ Installs L e
  less : (d : ℕ) → InRange d → has u d ≡ true → has valid d ≡ false → AsksData L e d ⊎ Installs L e

beside : (L : List Letter) (n e u : ℕ) (x : UpNode) → 0 < session_of x → e ≡ session_of x → e % 64 ≢ n → UpSo L n x → HasShown L n e u → Beside L e u (record_of x).valid
beside L n e u x some session other up was = by_install (same_or_not (installed_of x) (session_of x))
  where
    outside : session_of x % 64 ≢ n
    outside is = other (ap (λ z. z % 64) session ∙ is)

    own : HasShown L n (session_of x) u
    own = subst (λ z. HasShown L n z u) session was

    by_side : (d : ℕ) → FollowsSo L n x → (has (record_of x).valid d ≡ true) ⊎ (seizes_plainly d x.tasks ≡ true) → has (record_of x).valid d ≡ false → AsksData L e d ⊎ Installs L e
    by_side d so (inl z) lack = absurd (false_true (sym lack ∙ z))
    by_side d so (inr z) lack = inl (subst (λ q. AsksData L q d) (sym session) (so.plain d z))

    by_install : (installed_of x ≡ session_of x) ⊎ (installed_of x ≢ session_of x) → Beside L e u (record_of x).valid
    by_install (inl done) =
        let i : Installs L e = subst (Installs L) (sym session) (up.installed some outside done) in
        record { more = λ d range z. inr i; less = λ d range z lack. inr i }
    by_install (inr fresh) =
        let so : FollowsSo L n x = up.follows (record { some = some; other = outside; fresh = fresh }) in
        record { more = λ d range z. inl (so.shown u d range own z); less = λ d range z lack. by_side d so (so.held u d range own z) lack }

-- the letter is a Promise of its session, with its record
pub record OfRecord (x : UpNode) (kind e w : ℕ) : Type 0 where
  pub only : kind ≡ 1
  pub session : e ≡ session_of x
  pub valid : w ≡ (record_of x).valid

abbrev pub IsPromise : ℕ → UpNode → Body → Type 0
IsPromise n x b = (kind e w : ℕ) → IsOne n b kind e w → OfRecord x kind e w

promise_agrees : (L : List Letter) (n : ℕ) (x : UpNode) (b : Body) → 0 < session_of x → IsPromise n x b → UpSo L n x → Agree L → Agree (one n b ∷ L)
promise_agrees L n x b some is up old m e v w d range other first second shows lacks = by_both (shown_one L n b m e v first) (shown_one L n b m e w second)
  where
    M : List Letter
    M = one n b ∷ L

    lift : AsksData L e d ⊎ Installs L e → AsksData M e d ⊎ Installs M e
    lift k = either_more L M e d (one_more L (one n b)) k

    away : n ≡ m → e % 64 ≢ n
    away same k = other (k ∙ same)

    by_more : (has w d ≡ true) ⊎ Installs L e → AsksData M e d ⊎ Installs M e
    by_more (inl z) = absurd (false_true (sym lacks ∙ z))
    by_more (inr z) = lift (inr z)

    by_both : HasShown L m e v ⊎ ((n ≡ m) × IsOne n b 1 e v) → HasShown L m e w ⊎ ((n ≡ m) × IsOne n b 1 e w) → AsksData M e d ⊎ Installs M e
    by_both (inl k) (inl l) = lift (old m e v w d range other k l shows lacks)
    by_both (inl k) (inr l) =
        let new : OfRecord x 1 e w = is 1 e w l.1 in
        lift ((beside L n e v x some new.session (away l.0) up (subst (λ z. HasShown L z e v) (sym l.0) k)).less d range shows (subst (λ z. has z d ≡ false) new.valid lacks))
    by_both (inr k) (inl l) =
        let new : OfRecord x 1 e v = is 1 e v k.1 in
        by_more ((beside L n e w x some new.session (away k.0) up (subst (λ z. HasShown L z e w) (sym k.0) l)).more d range (subst (λ z. has z d ≡ true) new.valid shows))
    by_both (inr k) (inr l) =
        absurd (false_true (sym (subst (λ z. has z d ≡ false) (is 1 e w l.1).valid lacks) ∙ subst (λ z. has z d ≡ true) (is 1 e v k.1).valid shows))

no_other : (n : ℕ) (x : UpNode) (b : Body) (kind e w : ℕ) → IsPromise n x b → (kind ≡ 1 → ⊥) → IsOne n b kind e w → ⊥
no_other n x b kind e w is other k = other (is kind e w k).only

-- of the other letters nothing is new
pub quorum_old : (L : List Letter) (n e d : ℕ) (b : Body) → (IsOne n b 2 e d → ⊥) → AsksQuorum (one n b ∷ L) e d → AsksQuorum L e d
quorum_old L n e d b never h = by_side (quorum_one L n b e d h)
  where
    by_side : AsksQuorum L e d ⊎ IsOne n b 2 e d → AsksQuorum L e d
    by_side (inl k) = k
    by_side (inr k) = absurd (never k)

pub data_old : (L : List Letter) (n e d : ℕ) (b : Body) → (IsOne n b 3 e d → ⊥) → AsksData (one n b ∷ L) e d → AsksData L e d
data_old L n e d b never h = by_side (data_one L n b e d h)
  where
    by_side : AsksData L e d ⊎ IsOne n b 3 e d → AsksData L e d
    by_side (inl k) = k
    by_side (inr k) = absurd (never k)

pub installs_old : (L : List Letter) (n e : ℕ) (b : Body) → (IsOne n b 4 e 0 → ⊥) → Installs (one n b ∷ L) e → Installs L e
installs_old L n e b never h = by_side (installs_one L n b e h)
  where
    by_side : Installs L e ⊎ IsOne n b 4 e 0 → Installs L e
    by_side (inl k) = k
    by_side (inr k) = absurd (never k)

pub shown_old : (L : List Letter) (n k e v : ℕ) (b : Body) → ((n ≡ k) × IsOne n b 1 e v → ⊥) → HasShown (one n b ∷ L) k e v → HasShown L k e v
shown_old L n k e v b never h = by_side (shown_one L n b k e v h)
  where
    by_side : HasShown L k e v ⊎ ((n ≡ k) × IsOne n b 1 e v) → HasShown L k e v
    by_side (inl z) = z
    by_side (inr z) = absurd (never z)

pub promise_now : (L : List Letter) (n : ℕ) (x : UpNode) (disk : NodeRecord) (g : Hand) (b : Body) → 0 < session_of x → IsPromise n x b → Now L n (site (Up x) disk) g → Now (one n b ∷ L) n (site (Up x) disk) g
promise_now L n x disk g b some is h = record {
  apart = λ e d asked quorum. h.apart e d (data_old L n e d b (no_other n x b 3 e d is (less_kind 3 1 (omega arith))) asked) (quorum_old L n e d b (no_other n x b 2 e d is (less_kind 2 1 (omega arith))) quorum);
  agree = promise_agrees L n x b some is up h.agree;
  here = record {
    order = h.here.order;
    shown = λ e v z. low e v (shown_one L n b n e v z);
    asked_data = λ e d own z. h.here.asked_data e d own (data_old L n e d b (no_other n x b 3 e d is (less_kind 3 1 (omega arith))) z);
    quorum = λ e d own z. h.here.quorum e d own (quorum_old L n e d b (no_other n x b 2 e d is (less_kind 2 1 (omega arith))) z);
    installs = λ e own z. h.here.installs e own (installs_old L n e b (no_other n x b 4 e 0 is (less_kind 4 1 (omega arith))) z);
    up = (
      h.here.up.0,
      record {
        session = up.session;
        follows = λ f. followed f (up.follows f);
        installed = λ first other done. installs_more L M (session_of x) more (up.installed first other done);
        attempt = in_with L n (session_of x) b x.attempt
            (λ a at so. attempt_with n (session_of x) L M a (one_taken L n b) (λ d z. so.asked_data d (data_old L n a.plan.epoch d b (no_other n x b 3 a.plan.epoch d is (less_kind 3 1 (omega arith))) z))
            (λ d z. so.quorum d (quorum_old L n a.plan.epoch d b (no_other n x b 2 a.plan.epoch d is (less_kind 2 1 (omega arith))) z))
            (λ z early. so.before (installs_old L n a.plan.epoch b (no_other n x b 4 a.plan.epoch 0 is (less_kind 4 1 (omega arith))) z) early) so) up.attempt;
      },
    );
  };
  hand = in_hand g h.hand;
}
  where
    M : List Letter
    M = one n b ∷ L

    more : IsMore L M
    more = one_more L (one n b)

    up : UpSo L n x
    up = h.here.up.1

    low : (e v : ℕ) → HasShown L n e v ⊎ ((n ≡ n) × IsOne n b 1 e v) → e ≤ disk.promised
    low e v (inl z) = h.here.shown e v z
    low e v (inr z) = subst (λ q. q ≤ disk.promised) (sym (is 1 e v z.1).session) (subst (λ (r : NodeRecord). session_of x ≤ r.promised) h.here.up.0 up.session)

    followed : Follows n x → FollowsSo L n x → FollowsSo M n x
    followed f so = record {
      shown = λ v d range z valid. by_new v d valid (shown_one L n b n (session_of x) v z) (λ old. so.shown v d range old valid);
      held = λ v d range z valid. by_held v d valid (shown_one L n b n (session_of x) v z) (λ old. so.held v d range old valid);
      plain = λ d z. data_more L M (session_of x) d more (so.plain d z);
      fit = so.fit;
    }
      where
        by_new : (v d : ℕ) → has (record_of x).valid d ≡ true → HasShown L n (session_of x) v ⊎ ((n ≡ n) × IsOne n b 1 (session_of x) v) → (HasShown L n (session_of x) v → has v d ≡ true) → has v d ≡ true
        by_new v d valid (inl z) old = old z
        by_new v d valid (inr z) old = subst (λ q. has q d ≡ true) (sym (is 1 (session_of x) v z.1).valid) valid

        by_held : (v d : ℕ) → has v d ≡ true → HasShown L n (session_of x) v ⊎ ((n ≡ n) × IsOne n b 1 (session_of x) v)
            → (HasShown L n (session_of x) v → (has (record_of x).valid d ≡ true) ⊎ (seizes_plainly d x.tasks ≡ true)) → (has (record_of x).valid d ≡ true) ⊎ (seizes_plainly d x.tasks ≡ true)
        by_held v d valid (inl z) old = old z
        by_held v d valid (inr z) old = inl (subst (λ q. has q d ≡ true) (is 1 (session_of x) v z.1).valid valid)

    in_hand : (g : Hand) → HandIn L n (record_of x) (Up x) g → HandIn M n (record_of x) (Up x) g
    in_hand None k = tt
    in_hand (Some u) k =
        turn_with n (promised_of x) L M x.attempt u more (λ d z. k.asked_data d (data_old L n u.after.plan.epoch d b (no_other n x b 3 u.after.plan.epoch d is (less_kind 3 1 (omega arith))) z))
        (λ d z. k.quorum d (quorum_old L n u.after.plan.epoch d b (no_other n x b 2 u.after.plan.epoch d is (less_kind 2 1 (omega arith))) z)) k

pub promise_others : (L : List Letter) (n : ℕ) (x : UpNode) (b : Body) (k : ℕ) → 0 < session_of x → IsPromise n x b → UpSo L n x → k ≢ n → KeepsFor k L (one n b ∷ L)
promise_others L n x b k some is up ne = record {
  base = record { more = one_more L (one n b); taken = λ j e v own other z. by_side j e v own (shown_one L n b j e v z) };
  shown = λ e v z. shown_old L n k e v b (λ new. ne (sym new.0)) z;
  asked_data = λ e d own z. data_old L n e d b (no_other n x b 3 e d is (less_kind 3 1 (omega arith))) z;
  quorum = λ e d own z. quorum_old L n e d b (no_other n x b 2 e d is (less_kind 2 1 (omega arith))) z;
  installs = λ e own z. installs_old L n e b (no_other n x b 4 e 0 is (less_kind 4 1 (omega arith))) z;
}
  where
    M : List Letter
    M = one n b ∷ L

    or_more : (e w d : ℕ) → (has w d ≡ true) ⊎ Installs L e → (has w d ≡ true) ⊎ Installs M e
    or_more e w d (inl z) = inl z
    or_more e w d (inr z) = inr (installs_more L M e (one_more L (one n b)) z)

    by_side : (j e v : ℕ) → e % 64 ≡ k → HasShown L j e v ⊎ ((n ≡ j) × IsOne n b 1 e v)
        → HasShown L j e v ⊎ ((w d : ℕ) → InRange d → HasShown L j e w → has v d ≡ true → (has w d ≡ true) ⊎ Installs M e)
    by_side j e v own (inl z) = inl z
    by_side j e v own (inr z) =
        let new : OfRecord x 1 e v = is 1 e v z.1 in
        inr (λ w d range was shows. or_more e w d ((beside L n e w x some new.session (λ at. ne (sym own ∙ at)) up (subst (λ y. HasShown L y e w) (sym z.0) was)).more d range (subst (λ y. has y d ≡ true) new.valid shows)))
