-- Each change of a record leaves the own Promise of a coordinator such that it shows as valid what the record has as valid.
use Rattle.std.specs.Prelude.{ℕ, ◌≡◌, ◌≢◌, true, false, List, [], Option, None, Some}
use Rattle.std.proofs.Common.{refl, sym, ap, subst, ◌∙◌}
use Rattle.attempt_laws.proofs.Goes.{chosen_reached, goes_by_call}
use Rattle.attempt_laws.specs.Staying.{IsBefore}
use Rattle.ccr_commit.specs.Entries.{all_committed, with_next}
use Rattle.cl_base.specs.Sets.{set_without}
use Rattle.cmm_attempt.proofs.Basics.{false_true}
use Rattle.cmm_attempt.specs.Attempts.{AttemptState}
use Rattle.cmm_member.specs.Nodes.{NodeState, with_valid}
use Rattle.cmm_member.specs.Records.{NodeRecord}
use Rattle.device_queue.specs.Queue.{begins_plainly}
use Rattle.device_queue.specs.declared.task.Task.{Task}
use Rattle.node_model.specs.Members.{rested_by}
use Rattle.node_model.specs.Seats.{promising, record_of, session_of, state_of}
use Rattle.node_model.specs.declared.cluster.Cluster.{Cluster}
use Rattle.node_model.specs.declared.node.Node.TheVariants.{Up}
use Rattle.node_model.specs.declared.node.UpNode.{UpNode}
use Rattle.node_model.specs.declared.seat.Seat.{Seat}
use Rattle.refinement.proofs.Attempts.{may_be_called}
use Rattle.refinement.specs.Doings.{Change, changed, site}
use Rattle.refinement.specs.Doings.Change.{Acks, Admits, Commits, Counts, Distrusts, Installs, Leads, Prepares, Promises, Proposes, Sits, Starts}
use Rattle.refinement.specs.Guards.{MayChange}
use Rattle.refinement.specs.Runs.{Letter}
use Rattle.refinement.specs.Ties.{Delivered}
use Rattle.run_devices.proofs.validity.Installs.{less_other}
use Rattle.run_history.proofs.Ups.{same_state}
use Rattle.seize.specs.declared.kind.JoinResult.TheVariants as end
use Rattle.run_outcomes.specs.phases.Kept.{In}
use Rattle.run_outcomes.specs.tasks.Laws.{seizes_plainly}
use Rattle.run_outcomes.specs.tasks.OwnPromise.{IsSpared, KeepsOwn, OwnPromise}
use Rattle.run_outcomes.specs.tasks.Shown.{AttemptSo, HandSent, InRange, SiteSo, UpSo}
use Rattle.run_outcomes.proofs.own_shown.Calls.{begun_shows}
use Rattle.run_outcomes.proofs.shown.Changes.{AtDevice, install_comes}
use Rattle.run_outcomes.proofs.shown.Goes.{SameState, attempt_in, with_same, with_seat}
use Rattle.run_outcomes.proofs.shown.Tasks.{begins_plain, none_joins}

-- ---- what becomes of it

pub in_with : (P Q : AttemptState → Type 0) (o : Option AttemptState) → ((a : AttemptState) → o ≡ Some a → P a → Q a) → In P o → In Q o
in_with P Q None f h = tt
in_with P Q (Some a) f h = f a refl h

pub in_all : (Q : AttemptState → Type 0) (o : Option AttemptState) → ((a : AttemptState) → o ≡ Some a → Q a) → In Q o
in_all Q None f = tt
in_all Q (Some a) f = f a refl

-- with the same valid devices, tasks and attempt
alike : (n : ℕ) (x y : UpNode) → (record_of y).valid ≡ (record_of x).valid → y.tasks ≡ x.tasks → y.attempt ≡ x.attempt → OwnPromise n x → OwnPromise n y
alike n x y valid tasks tries h =
    subst (λ o. In (λ a. IsBefore a.phase → KeepsOwn n (record_of y).valid y.tasks a) o) (sym tries)
    (subst (λ ts. In (λ a. IsBefore a.phase → KeepsOwn n (record_of y).valid ts a) x.attempt) (sym tasks)
    (subst (λ v. In (λ a. IsBefore a.phase → KeepsOwn n v x.tasks a) x.attempt) (sym valid) h))

-- a device less is valid, which it seizes as one without votes
distrusted : (n set d : ℕ) (ts : List Task) (a : AttemptState) → InRange d → begins_plainly ts ≡ Some d → KeepsOwn n set ts a → KeepsOwn n (set_without set d) ts a
distrusted n set d ts a range begins h = record {
  plain = h.plain;
  fit = h.fit;
  own = record {
    promised = h.own.promised;
    shown = λ e is. h.own.shown e is ∙ sym (less_other set d e range.0 range.1 is.0.0 is.0.1 (other e is.1));
  };
}
  where
    other : (e : ℕ) → seizes_plainly e ts ≡ false → e ≢ d
    other e spared same = false_true (sym spared ∙ subst (λ j. seizes_plainly j ts ≡ true) (sym same) (begins_plain d ts h.fit begins))

rested : (n p : ℕ) (x : UpNode) (o : Option AttemptState) → OwnPromise n (rested_by (promising x p) o)
rested n p x None = tt
rested n p x (Some a) = tt

-- ---- each change

pub change_keeps : (L : List Letter) (c : Cluster) (n : ℕ) (told : Delivered) (x : UpNode) (disk : NodeRecord) (ch : Change) → MayChange c n told x ch → AtDevice x ch → HandSent L told → SiteSo L n (site (Up x) disk)
    → OwnPromise n x → OwnPromise n (changed c n x ch)
change_keeps L c n told x disk ch may at sent so h = by_change ch may at
  where
    up : UpSo L n x
    up = so.up.1

    attempt : (a : AttemptState) → x.attempt ≡ Some a → AttemptSo L n (session_of x) a
    attempt a is = attempt_in L n (session_of x) x.attempt a is up.attempt

    entries : (y : UpNode) → SameState (state_of x.seat) (state_of y.seat) → y.tasks ≡ x.tasks → y.attempt ≡ x.attempt → OwnPromise n y
    entries y same tasks tries = alike n x y same.valid tasks tries h

    by_change : (ch : Change) → MayChange c n told x ch → AtDevice x ch → OwnPromise n (changed c n x ch)
    by_change (Promises p) m k = rested n p x x.attempt
    by_change (Leads p members) m k = λ before. record {
      plain = λ d z. absurd (false_true z);
      fit = tt;
      own = begun_shows c n p members (record (promising x p) { greatest = p }) (IsSpared []);
    }
    by_change (Counts a q s i) m k = λ before.
        absurd (subst IsBefore (((goes_by_call a q (may_be_called c told a q m.2) (chosen_reached a (attempt a m.0).reached)).install i m.3).0) before)
    by_change (Installs s i) m k =
        in_all (λ a. IsBefore a.phase → KeepsOwn n (record_of (changed c n x (Installs s i))).valid (changed c n x (Installs s i)).tasks a) x.attempt
        (λ a is before. absurd ((attempt a is).before
        (install_comes L told i a.plan.epoch sent m.1 (sym m.3 ∙ (sym (ap (λ (seat : Seat). (state_of seat).session) m.0) ∙ sym (attempt a is).epoch))) before))
    by_change (Starts a q s) m k = tt
    by_change (Sits s e) m k = entries (changed c n x (Sits s e)) (with_seat x s (all_committed s.saved.entries) (sym (ap state_of m.0))) refl refl
    by_change (Proposes s p text) m k = entries (changed c n x (Proposes s p text)) (with_same x (with_next (record_of x).entries text)) refl refl
    by_change (Acks s p q left text) m k = entries (changed c n x (Acks s p q left text)) (with_same x (all_committed (record_of x).entries)) refl refl
    by_change (Prepares s text) m k = entries (changed c n x (Prepares s text)) (with_seat x s (with_next s.saved.entries text) (sym (ap state_of m.0))) refl refl
    by_change (Commits s) m k = entries (changed c n x (Commits s)) (with_seat x s (all_committed s.saved.entries) (sym (ap state_of m.0))) refl refl
    by_change (Distrusts d) m k =
        let t : NodeState = with_valid (state_of x.seat) (set_without (record_of x).valid d) in
        subst (λ v. In (λ a. IsBefore a.phase → KeepsOwn n v x.tasks a) x.attempt) (sym (ap (λ (z : NodeState). z.saved.valid) (same_state x.seat t)))
        (in_with (λ a. IsBefore a.phase → KeepsOwn n (record_of x).valid x.tasks a) (λ a. IsBefore a.phase → KeepsOwn n (set_without (record_of x).valid d) x.tasks a) x.attempt
        (λ a is z before. distrusted n (record_of x).valid d x.tasks a k.0 k.1 (z before)) h)
    by_change (Admits on command b d) m k =
        let y : UpNode = changed c n x (Admits on command b d) in
        in_with (λ a. IsBefore a.phase → KeepsOwn n (record_of x).valid x.tasks a) (λ a. IsBefore a.phase → KeepsOwn n (record_of y).valid y.tasks a) x.attempt
        (λ a is z before. absurd (none_joins x.tasks b d end.Joined (z before).fit k)) h
