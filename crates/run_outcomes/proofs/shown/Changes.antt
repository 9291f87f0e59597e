-- Through each change of a record.
use Rattle.std.specs.Prelude.{All, ℕ, ◌%◌, ◌≡◌, ◌<◌, ◌≤◌, ◌⊎◌, true, List, Option, None, Some}
use Rattle.std.proofs.Common.{refl, sym, ap, subst, ◌∙◌, inl, inr, arith}
use Rattle.attempt_laws.proofs.Stays.{plan_begins}
use Rattle.ccr_commit.specs.Entries.{all_committed, with_next}
use Rattle.cl_base.specs.Sets.{has, set_without}
use Rattle.cmm_attempt.proofs.Basics.{false_true}
use Rattle.cmm_attempt.specs.Attempts.{AttemptState, beginning}
use Rattle.cmm_attempt.specs.Calls.{IsDevice, turn}
use Rattle.cmm_member.specs.Nodes.{NodeState, with_joined, with_valid}
use Rattle.cmm_member.specs.Records.{NodeRecord}
use Rattle.device_queue.specs.Queue.{begins_plainly, progress_after}
use Rattle.device_queue.specs.declared.progress.Progress.TheVariants.{Joined}
use Rattle.node_model.specs.Attempts.{own_promise}
use Rattle.node_model.specs.Members.{rested_by}
use Rattle.node_model.specs.Seats.{installed_of, promised_of, promising, record_of, session_of, state_of}
use Rattle.node_model.specs.declared.cluster.Cluster.{Cluster}
use Rattle.node_model.specs.declared.node.Node.TheVariants.{Up}
use Rattle.node_model.specs.declared.node.UpNode.{UpNode}
use Rattle.node_model.specs.declared.seat.Seat.TheVariants.{Forming}
use Rattle.refinement.proofs.Attempts.{may_be_called}
use Rattle.refinement.specs.Doings.{Change, answered_so, changed, site}
use Rattle.refinement.specs.Doings.Change.{Acks, Admits, Commits, Counts, Distrusts, Installs, Leads, Prepares, Promises, Proposes, Sits, Starts}
use Rattle.refinement.specs.Guards.{MayChange, Says}
use Rattle.refinement.specs.Runs.{IsAmong, Letter}
use Rattle.refinement.specs.Ties.{Delivered}
use Rattle.run_history.proofs.Ups.{same_state}
use Rattle.seize.specs.declared.kind.JoinResult.TheVariants as end
use Rattle.wire.specs.declared.message.Body.TheVariants as body
use Rattle.wire.specs.declared.message.Install.{Install}
use Rattle.run_outcomes.specs.tasks.Shown as shown
use Rattle.run_outcomes.specs.tasks.Laws.{seizes_plainly}
use Rattle.run_outcomes.specs.tasks.Shown.{Agree, AgreesIn, AsksData, AttemptIn, AttemptSo, Follows, FollowsSo, HandSent, HasShown, InRange, SiteSo, UpIn, UpSo}
use Rattle.run_outcomes.proofs.shown.Nodes.{agrees_turned, attempt_begins, attempt_turned}
use Rattle.run_outcomes.proofs.shown.Tasks.{begins_plain, less_has, less_keeps, none_joins}
use Rattle.run_outcomes.proofs.shown.Goes.{Alike, up_alike, up_with, attempt_in, leads, SameState, with_seat, with_same, alike_of, low_of, positive, itself, installs_epoch}

-- ---- each change

pub promised_up : (L : List Letter) (n p : ℕ) (x : UpNode) (o : Option AttemptState) → ((v : ℕ) → HasShown L n p v → ⊥) → installed_of x < p → UpSo L n (rested_by (promising x p) o)
promised_up L n p x None none low = record {
  session = itself p;
  follows = λ f. record { shown = λ v d range z. absurd (none v z); held = λ v d range z. absurd (none v z); plain = λ d z. absurd (false_true z); fit = tt };
  installed = λ some other is. absurd (low_of (installed_of x) p low (subst (λ z. p ≤ z) (sym is) (itself p)));
  attempt = tt;
}
promised_up L n p x (Some a) none low = record {
  session = itself p;
  follows = λ f. record { shown = λ v d range z. absurd (none v z); held = λ v d range z. absurd (none v z); plain = λ d z. absurd (false_true z); fit = tt };
  installed = λ some other is. absurd (low_of (installed_of x) p low (subst (λ z. p ≤ z) (sym is) (itself p)));
  attempt = tt;
}

-- what a change at a device asks: it distrusts what its first task registers, and admits a device that it has joined
abbrev pub AtDevice : UpNode → Change → Type 0
AtDevice x (Distrusts d) = InRange d × (begins_plainly x.tasks ≡ Some d)
AtDevice x (Admits at command a d) = progress_after x.tasks a ≡ Joined d end.Joined
AtDevice x _ = Unit {0}

pub record Goes (L : List Letter) (n : ℕ) (x y : UpNode) : Type 0 where
  pub up : UpSo L n y
  pub order : installed_of y ≤ promised_of y
  pub rises : promised_of x ≤ promised_of y

goes_alike : (L : List Letter) (n : ℕ) (x y : UpNode) → Alike x y → AttemptIn L n (session_of x) y.attempt → installed_of x ≤ promised_of x → UpSo L n x → Goes L n x y
goes_alike L n x y k a order h = record {
  up = up_alike L n x y k a h;
  order = subst (λ z. z ≤ promised_of y) (sym k.installed) (subst (λ z. installed_of x ≤ z) (sym k.promised) order);
  rises = subst (λ z. promised_of x ≤ z) (sym k.promised) (itself (promised_of x));
}

rested_low : (x : UpNode) (p : ℕ) (o : Option AttemptState) → installed_of x ≤ p → (installed_of (rested_by (promising x p) o) ≤ promised_of (rested_by (promising x p) o)) × (promised_of (rested_by (promising x p) o) ≡ p)
rested_low x p None low = (low, refl)
rested_low x p (Some a) low = (low, refl)

less_than : (a b : ℕ) → a < b → a ≤ b
less_than a b l = omega (arith, l)

below : (a b c : ℕ) → a ≤ b → b < c → a < c
below a b c l m = omega (arith, l, m)

session_in : (x : UpNode) (s : NodeState) → x.seat ≡ Forming s → s ≡ state_of x.seat
session_in x s is = sym (ap state_of is)

pub install_comes : (L : List Letter) (told : Delivered) (i : Install) (e : ℕ) → HandSent L told → Says (λ b. b ≡ body.Install i) told → i.epoch ≡ e → shown.Installs L e
install_comes L None i e hand says epoch = absurd says
install_comes L (Some d) i e hand says epoch = record { from = d.0; install = i; epoch = epoch; among = subst (λ b. IsAmong d.0 b L) says hand }

-- a device less is valid, which it seizes without votes
distrusted : (x y : UpNode) (d e : ℕ) → InRange d → InRange e → set_without (record_of x).valid d ≡ (record_of y).valid → y.tasks ≡ x.tasks → seizes_plainly d x.tasks ≡ true
    → (has (record_of x).valid e ≡ true) ⊎ (seizes_plainly e x.tasks ≡ true) → (has (record_of y).valid e ≡ true) ⊎ (seizes_plainly e y.tasks ≡ true)
distrusted x y d e low range valid tasks plain (inr z) = inr (subst (λ ts. seizes_plainly e ts ≡ true) (sym tasks) z)
distrusted x y d e low range valid tasks plain (inl z) = by_side (less_keeps (record_of x).valid d e low range z)
  where
    by_side : (has (set_without (record_of x).valid d) e ≡ true) ⊎ (e ≡ d) → (has (record_of y).valid e ≡ true) ⊎ (seizes_plainly e y.tasks ≡ true)
    by_side (inl k) = inl (subst (λ s. has s e ≡ true) valid k)
    by_side (inr k) = inr (subst (λ ts. seizes_plainly e ts ≡ true) (sym tasks) (subst (λ j. seizes_plainly j x.tasks ≡ true) (sym k) plain))

pub change_goes : (L : List Letter) (c : Cluster) (n : ℕ) (told : Delivered) (x : UpNode) (disk : NodeRecord) (ch : Change) → All IsDevice c.attached → Agree L → HandSent L told → MayChange c n told x ch → AtDevice x ch
    → SiteSo L n (site (Up x) disk) → Goes L n x (changed c n x ch)
change_goes L c n told x disk ch fits agree hand may at h = by_change ch may at
  where
    up : UpSo L n x
    up = h.up.1

    order : installed_of x ≤ promised_of x
    order = subst (λ (r : NodeRecord). r.installed ≤ r.promised) (sym h.up.0) h.order

    promised : promised_of x ≡ disk.promised
    promised = ap (λ (r : NodeRecord). r.promised) h.up.0

    none_yet : (p : ℕ) → promised_of x < p → p ≤ disk.promised → ⊥
    none_yet p low most = low_of (promised_of x) p low (subst (λ z. p ≤ z) (sym promised) most)

    alike : (y : UpNode) → SameState (state_of x.seat) (state_of y.seat) → y.tasks ≡ x.tasks → AttemptIn L n (session_of x) y.attempt → Goes L n x y
    alike y k tasks a = goes_alike L n x y (alike_of x y k tasks) a order up

    goes_on : (y : UpNode) → session_of y ≡ session_of x → installed_of y ≡ installed_of x → promised_of y ≡ promised_of x → y.attempt ≡ x.attempt → (Follows n x → FollowsSo L n x → FollowsSo L n y) → Goes L n x y
    goes_on y session here same tries more = record {
      up = up_with L n x y session here same tries more up;
      order = subst (λ z. z ≤ promised_of y) (sym here) (subst (λ z. installed_of x ≤ z) (sym same) order);
      rises = subst (λ z. promised_of x ≤ z) (sym same) (itself (promised_of x));
    }

    by_change : (ch : Change) → MayChange c n told x ch → AtDevice x ch → Goes L n x (changed c n x ch)
    by_change (Promises p) m a =
        let low : (installed_of (rested_by (promising x p) x.attempt) ≤ promised_of (rested_by (promising x p) x.attempt)) × (promised_of (rested_by (promising x p) x.attempt) ≡ p) =
        rested_low x p x.attempt (less_than (installed_of x) p (below (installed_of x) (promised_of x) p order m.1)) in
        record {
          up = promised_up L n p x x.attempt (λ v z. none_yet p m.1 (h.shown p v z)) (below (installed_of x) (promised_of x) p order m.1);
          order = low.0;
          rises = subst (λ z. promised_of x ≤ z) (sym low.1) (less_than (promised_of x) p m.1);
        }
    by_change (Leads p members) m a = record {
      up = record {
        session = itself p;
        follows = λ f. absurd (f.other m.1);
        installed = λ some other is. absurd (other m.1);
        attempt = attempt_begins L c n p members (record (promising x p) { greatest = p }) fits (positive (promised_of x) p m.0) m.1 (λ d z. none_yet p m.0 (h.asked_data p d m.1 z))
            (λ d z. none_yet p m.0 (h.quorum p d m.1 z)) (λ z. none_yet p m.0 (h.installs p m.1 z));
      };
      order = less_than (installed_of x) p (below (installed_of x) (promised_of x) p order m.0);
      rises = less_than (promised_of x) p m.0;
    }
    by_change (Counts b k s i) m a =
        let y : UpNode = changed c n x (Counts b k s i) in
        let state : s ≡ state_of x.seat = session_in x s m.1 in
        let so : AttemptSo L n (session_of x) b = attempt_in L n (session_of x) x.attempt b m.0 up.attempt in
        let own : session_of y % 64 ≡ n = ap (λ (z : NodeState). z.session % 64) state ∙ leads L n x b m.0 up in
        let epoch : i.epoch ≡ session_of x = installs_epoch b k i (may_be_called c told b k m.2) m.3 ∙ so.epoch in
        let same : promised_of y ≡ promised_of x = ap (λ (z : NodeState). z.saved.promised) state in
        record {
          up = record {
            session = subst (λ (z : NodeState). z.session ≤ z.saved.promised) (sym state) up.session;
            follows = λ f. absurd (f.other own);
            installed = λ some other is. absurd (other own);
            attempt = subst (λ (z : NodeState). AttemptIn L n z.session (Some (turn b k).after)) (sym state) (attempt_turned L c told n (session_of x) b k agree hand m.2 so);
          };
          order = subst (λ z. i.epoch ≤ z) (sym same) (subst (λ z. z ≤ promised_of x) (sym epoch) up.session);
          rises = subst (λ z. promised_of x ≤ z) (sym same) (itself (promised_of x));
        }
    by_change (Installs s i) m a =
        let y : UpNode = changed c n x (Installs s i) in
        let state : s ≡ state_of x.seat = session_in x s m.0 in
        let same : promised_of y ≡ promised_of x = ap (λ (z : NodeState). z.saved.promised) state in
        let session : session_of y ≡ session_of x = ap (λ (z : NodeState). z.session) state in
        let epoch : i.epoch ≡ session_of x = sym m.3 ∙ session in
        record {
          up = record {
            session = subst (λ (z : NodeState). z.session ≤ z.saved.promised) (sym state) up.session;
            follows = λ f. absurd (f.fresh (sym m.3));
            installed = λ some other is. install_comes L told i (session_of y) hand m.1 (sym m.3);
            attempt = subst (λ (z : NodeState). AttemptIn L n z.session x.attempt) (sym state) up.attempt;
          };
          order = subst (λ z. i.epoch ≤ z) (sym same) (subst (λ z. z ≤ promised_of x) (sym epoch) up.session);
          rises = subst (λ z. promised_of x ≤ z) (sym same) (itself (promised_of x));
        }
    by_change (Starts b k s) m a = alike (changed c n x (Starts b k s)) (with_seat x s (all_committed s.saved.entries) (session_in x s m.1)) refl tt
    by_change (Sits s e) m a = alike (changed c n x (Sits s e)) (with_seat x s (all_committed s.saved.entries) (session_in x s m.0)) refl up.attempt
    by_change (Proposes s p text) m a = alike (changed c n x (Proposes s p text)) (with_same x (with_next (record_of x).entries text)) refl up.attempt
    by_change (Acks s p q left text) m a = alike (changed c n x (Acks s p q left text)) (with_same x (all_committed (record_of x).entries)) refl up.attempt
    by_change (Prepares s text) m a = alike (changed c n x (Prepares s text)) (with_seat x s (with_next s.saved.entries text) (sym (ap state_of m.0))) refl up.attempt
    by_change (Commits s) m a = alike (changed c n x (Commits s)) (with_seat x s (all_committed s.saved.entries) (sym (ap state_of m.0))) refl up.attempt
    by_change (Distrusts d) m a =
        let y : UpNode = changed c n x (Distrusts d) in
        let t : NodeState = with_valid (state_of x.seat) (set_without (record_of x).valid d) in
        let state : state_of y.seat ≡ t = same_state x.seat t in
        goes_on y (ap (λ (z : NodeState). z.session) state) (ap (λ (z : NodeState). z.saved.installed) state) (ap (λ (z : NodeState). z.saved.promised) state) refl
        (λ f so. record {
          shown = λ v e range z valid.
              so.shown v e range (subst (λ q. HasShown L n q v) (ap (λ (w : NodeState). w.session) state) z)
              (less_has (record_of x).valid d e a.0 range (subst (λ (w : NodeState). has w.saved.valid e ≡ true) state valid));
          held = λ v e range z valid.
              distrusted x y d e a.0 range (sym (ap (λ (w : NodeState). w.saved.valid) state)) refl (begins_plain d x.tasks so.fit a.1)
              (so.held v e range (subst (λ q. HasShown L n q v) (ap (λ (w : NodeState). w.session) state) z) valid);
          plain = λ e z. subst (λ q. AsksData L q e) (sym (ap (λ (w : NodeState). w.session) state)) (so.plain e z);
          fit = so.fit;
        })
    by_change (Admits on command b d) m a =
        let z : UpNode = answered_so x b in
        let y : UpNode = changed c n x (Admits on command b d) in
        let t : NodeState = with_joined (state_of x.seat) d in
        let state : state_of y.seat ≡ t = same_state x.seat t in
        goes_on y (ap (λ (w : NodeState). w.session) state) (ap (λ (w : NodeState). w.saved.installed) state) (ap (λ (w : NodeState). w.saved.promised) state) refl
        (λ f so. absurd (none_joins x.tasks b d end.Joined so.fit a))

-- ---- what becomes of its attempt

begun_other : (t : AttemptState) (n p members : ℕ) (c : Cluster) (z : UpNode) → t.plan.epoch < p → AgreesIn t (Some (beginning p members (own_promise n z p) c.attached c.id).after)
begun_other t n p members c z low same d =
    absurd (low_of t.plan.epoch p low (subst (λ e. e ≤ t.plan.epoch) (plan_begins p members (own_promise n z p) c.attached c.id).of_epoch (subst (λ e. e ≤ t.plan.epoch) (sym same) (itself t.plan.epoch))))

rested_agrees : (t : AttemptState) (p : ℕ) (x : UpNode) (o : Option AttemptState) → AgreesIn t (rested_by (promising x p) o).attempt
rested_agrees t p x None = tt
rested_agrees t p x (Some a) = tt

pub change_agrees : (c : Cluster) (n : ℕ) (told : Delivered) (x : UpNode) (ch : Change) (t : AttemptState) → MayChange c n told x ch → t.plan.epoch ≤ promised_of x → AgreesIn t x.attempt → AgreesIn t (changed c n x ch).attempt
change_agrees c n told x (Promises p) t may low h = rested_agrees t p x x.attempt
change_agrees c n told x (Leads p members) t may low h = begun_other t n p members c (record (promising x p) { greatest = p }) (below t.plan.epoch (promised_of x) p low may.0)
change_agrees c n told x (Counts a k s i) t may low h = agrees_turned t a k (may_be_called c told a k may.2) (subst (AgreesIn t) may.0 h)
change_agrees c n told x (Starts a k s) t may low h = tt
change_agrees c n told x (Installs s i) t may low h = h
change_agrees c n told x (Sits s e) t may low h = h
change_agrees c n told x (Distrusts d) t may low h = h
change_agrees c n told x (Admits on command b d) t may low h = h
change_agrees c n told x (Proposes s p text) t may low h = h
change_agrees c n told x (Acks s p q left text) t may low h = h
change_agrees c n told x (Prepares s text) t may low h = h
change_agrees c n told x (Commits s) t may low h = h
