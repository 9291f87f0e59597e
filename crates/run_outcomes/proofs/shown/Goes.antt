-- A node goes on: its session, what it committed, and what it installs.
use Rattle.std.specs.Prelude.{All, ℕ, ◌%◌, ◌≡◌, ◌<◌, ◌≤◌, ◌⊎◌, true, List, [], ◌∷◌, Option, None, Some}
use Rattle.std.proofs.Common.{refl, sym, ap, subst, ◌∙◌, inl, inr, arith}
use Rattle.std.proofs.lemmas.List.Elements.{All-head, All-tail}
use Rattle.attempt_laws.proofs.Sends.{sends_are_own}
use Rattle.attempt_laws.proofs.Stays.{plan_stays}
use Rattle.attempt_laws.specs.Sending.{IsOwnStep}
use Rattle.cl_base.specs.Sets.{has}
use Rattle.cmm_attempt.proofs.Basics.{none_some, same_some}
use Rattle.cmm_attempt.specs.Attempts.{AttemptState, install_in}
use Rattle.cmm_attempt.specs.Calls.{Call, May, installs_in, turn}
use Rattle.cmm_attempt.specs.Installs.{install_by}
use Rattle.cmm_attempt.specs.declared.plan.Plan.{Plan}
use Rattle.cmm_attempt.specs.declared.promised.Promised.{Promised}
use Rattle.cmm_attempt.specs.declared.step.Step.{Step}
use Rattle.cmm_attempt.specs.declared.step.Step.TheVariants as step
use Rattle.cmm_member.specs.Nodes.{NodeState, with_entries}
use Rattle.node_model.specs.Seats.{installed_of, promised_of, record_of, session_of, state_of, with_state}
use Rattle.node_model.specs.declared.node.UpNode.{UpNode}
use Rattle.refinement.specs.Runs.{Letter}
use Rattle.run_history.proofs.Ups.{same_state}
use Rattle.wire.specs.declared.message.Install.{Install}
use Rattle.run_outcomes.specs.tasks.Shown as shown
use Rattle.run_outcomes.specs.tasks.Laws.{seizes_plainly}
use Rattle.run_outcomes.specs.tasks.Shown.{Agree, AgreesIn, AsksData, AttemptIn, AttemptSo, Follows, FollowsSo, HandSent, HasShown, InRange, SiteSo, UpIn, UpSo}

-- ---- a node that goes on

-- with the same session, install, promise, valid devices and tasks
pub record Alike (x y : UpNode) : Type 0 where
  pub session : session_of y ≡ session_of x
  pub installed : installed_of y ≡ installed_of x
  pub promised : promised_of y ≡ promised_of x
  pub valid : (record_of y).valid ≡ (record_of x).valid
  pub tasks : y.tasks ≡ x.tasks

follows_back : (n : ℕ) (x y : UpNode) → Alike x y → Follows n y → Follows n x
follows_back n x y k f = record {
  some = subst (λ z. 0 < z) k.session f.some;
  other = λ e. f.other (ap (λ z. z % 64) k.session ∙ e);
  fresh = λ e. f.fresh (k.installed ∙ (e ∙ sym k.session));
}

follows_alike : (L : List Letter) (n : ℕ) (x y : UpNode) → Alike x y → FollowsSo L n x → FollowsSo L n y
follows_alike L n x y k h = record {
  shown = λ v d range z valid. h.shown v d range (subst (λ e. HasShown L n e v) k.session z) (subst (λ s. has s d ≡ true) k.valid valid);
  held = λ v d range z valid. by_side d (h.held v d range (subst (λ e. HasShown L n e v) k.session z) valid);
  plain = λ d z. subst (λ e. AsksData L e d) (sym k.session) (h.plain d (subst (λ ts. seizes_plainly d ts ≡ true) k.tasks z));
  fit = subst shown.TasksFit (sym k.tasks) h.fit;
}
  where
    by_side : (d : ℕ) → (has (record_of x).valid d ≡ true) ⊎ (seizes_plainly d x.tasks ≡ true) → (has (record_of y).valid d ≡ true) ⊎ (seizes_plainly d y.tasks ≡ true)
    by_side d (inl z) = inl (subst (λ s. has s d ≡ true) (sym k.valid) z)
    by_side d (inr z) = inr (subst (λ ts. seizes_plainly d ts ≡ true) (sym k.tasks) z)

pub up_alike : (L : List Letter) (n : ℕ) (x y : UpNode) → Alike x y → AttemptIn L n (session_of x) y.attempt → UpSo L n x → UpSo L n y
up_alike L n x y k a h = record {
  session = subst (λ z. z ≤ promised_of y) (sym k.session) (subst (λ z. session_of x ≤ z) (sym k.promised) h.session);
  follows = λ f. follows_alike L n x y k (h.follows (follows_back n x y k f));
  installed = λ some other is.
      subst (shown.Installs L) (sym k.session)
      (h.installed (subst (λ z. 0 < z) k.session some) (λ e. other (ap (λ z. z % 64) k.session ∙ e)) (sym k.installed ∙ (is ∙ k.session)));
  attempt = subst (λ q. AttemptIn L n q y.attempt) (sym k.session) a;
}

-- with other tasks, or other valid devices
pub up_with : (L : List Letter) (n : ℕ) (x y : UpNode) → session_of y ≡ session_of x → installed_of y ≡ installed_of x → promised_of y ≡ promised_of x → y.attempt ≡ x.attempt
    → (Follows n x → FollowsSo L n x → FollowsSo L n y) → UpSo L n x → UpSo L n y
up_with L n x y session installed promised tries more h = record {
  session = subst (λ z. z ≤ promised_of y) (sym session) (subst (λ z. session_of x ≤ z) (sym promised) h.session);
  follows = λ f.
      let back : Follows n x = record { some = subst (λ z. 0 < z) session f.some; other = λ e. f.other (ap (λ z. z % 64) session ∙ e); fresh = λ e. f.fresh (installed ∙ (e ∙ sym session)) } in
      more back (h.follows back);
  installed = λ some other is.
      subst (shown.Installs L) (sym session)
      (h.installed (subst (λ z. 0 < z) session some) (λ e. other (ap (λ z. z % 64) session ∙ e)) (sym installed ∙ (is ∙ session)));
  attempt = subst (λ o. AttemptIn L n (session_of y) o) (sym tries) (subst (λ q. AttemptIn L n q x.attempt) (sym session) h.attempt);
}

pub attempt_in : (L : List Letter) (n q : ℕ) (o : Option AttemptState) (a : AttemptState) → o ≡ Some a → AttemptIn L n q o → AttemptSo L n q a
attempt_in L n q o a is h = subst (λ z. AttemptIn L n q z) is h

-- it leads in its session: it follows nobody
pub leads : (L : List Letter) (n : ℕ) (x : UpNode) (a : AttemptState) → x.attempt ≡ Some a → UpSo L n x → session_of x % 64 ≡ n
leads L n x a is h = let so : AttemptSo L n (session_of x) a = attempt_in L n (session_of x) x.attempt a is h.attempt in sym (ap (λ z. z % 64) so.epoch) ∙ so.own

-- ---- changes of what is committed, or of the seat

pub record SameState (s t : NodeState) : Type 0 where
  pub session : t.session ≡ s.session
  pub installed : t.saved.installed ≡ s.saved.installed
  pub promised : t.saved.promised ≡ s.saved.promised
  pub valid : t.saved.valid ≡ s.saved.valid

pub with_seat : (x : UpNode) (s : NodeState) (es : _) → s ≡ state_of x.seat → SameState (state_of x.seat) (with_entries s es)
with_seat x s es is = subst (λ z. SameState z (with_entries s es)) is (record { session = refl; installed = refl; promised = refl; valid = refl })

pub with_same : (x : UpNode) (es : _) → SameState (state_of x.seat) (state_of (with_state x.seat (with_entries (state_of x.seat) es)))
with_same x es =
    subst (λ z. SameState (state_of x.seat) z) (sym (same_state x.seat (with_entries (state_of x.seat) es))) (record { session = refl; installed = refl; promised = refl; valid = refl })

pub alike_of : (x y : UpNode) → SameState (state_of x.seat) (state_of y.seat) → y.tasks ≡ x.tasks → Alike x y
alike_of x y k tasks = record { session = k.session; installed = k.installed; promised = k.promised; valid = k.valid; tasks = tasks }

-- ---- numbers

above : (a b c : ℕ) → a ≤ b → b < c → c ≤ a → ⊥
above a b c l m k = omega (arith, l, m, k)

pub low_of : (a b : ℕ) → a < b → b ≤ a → ⊥
low_of a b l m = omega (arith, l, m)

pub positive : (a b : ℕ) → a < b → 0 < b
positive a b l = omega (arith, l)

pub itself : (a : ℕ) → a ≤ a
itself a = omega arith

-- ---- an install

install_epoch : (plan : Plan) (readings : _) (o : Option Promised) → (install_by plan readings o).epoch ≡ plan.epoch
install_epoch plan readings None = refl
install_epoch plan readings (Some p) = refl

pub own_install : (a : AttemptState) → (install_in a).epoch ≡ a.plan.epoch
own_install a = install_epoch a.plan _ _

installs_own : (t : AttemptState) (i : Install) (steps : List Step) → installs_in steps ≡ Some i → All (IsOwnStep t) steps → i.epoch ≡ t.plan.epoch
installs_own t i [] is all = absurd (none_some i is)
installs_own t i (step.InstallHere j ∷ steps) is all =
    ap (λ (z : Install). z.epoch) (sym (same_some j i is)) ∙ (ap (λ (z : Install). z.epoch) (All-head (IsOwnStep t) (step.InstallHere j) steps all) ∙ own_install t)
installs_own t i (step.Ended e ∷ steps) is all = installs_own t i steps is (All-tail (IsOwnStep t) (step.Ended e) steps all)
installs_own t i (step.Send to m ∷ steps) is all = installs_own t i steps is (All-tail (IsOwnStep t) (step.Send to m) steps all)
installs_own t i (step.SeizeHere d kind ∷ steps) is all = installs_own t i steps is (All-tail (IsOwnStep t) (step.SeizeHere d kind) steps all)
installs_own t i (step.NeedVotes k ∷ steps) is all = installs_own t i steps is (All-tail (IsOwnStep t) (step.NeedVotes k) steps all)
installs_own t i (step.StartHere ∷ steps) is all = installs_own t i steps is (All-tail (IsOwnStep t) step.StartHere steps all)

pub installs_epoch : (a : AttemptState) (k : Call) (i : Install) → May a k → installs_in (turn a k).steps ≡ Some i → i.epoch ≡ a.plan.epoch
installs_epoch a k i may is = installs_own (turn a k).after i (turn a k).steps is (sends_are_own a k may) ∙ ap (λ (z : Plan). z.epoch) (plan_stays a k may)
