-- A node that goes on in memory.
use Rattle.std.specs.Prelude.{ℕ, ◌≡◌, ◌<◌, not, Bool, true, false, List, [], ◌∷◌, Option, None, Some}
use Rattle.std.proofs.Common.{refl, sym, ap, subst, ◌∙◌}
use Rattle.attempt_laws.specs.Staying.{IsBefore}
use Rattle.cl_base.specs.declared.header.Header.{Header}
use Rattle.cmm_attempt.specs.Attempts.{AttemptState, Turn}
use Rattle.cmm_attempt.specs.declared.step.Step.TheVariants as step
use Rattle.device_queue.specs.Queue.{after_seize}
use Rattle.device_queue.specs.declared.task.Task.{Task}
use Rattle.seize.specs.Seizing.{SeizeState}
use Rattle.seize.specs.declared.kind.SeizeKind.{SeizeKind}
use Rattle.history.specs.Member as member
use Rattle.history.specs.Moment.{Moment}
use Rattle.history.specs.Queue as told
use Rattle.history.specs.Seizing.{is_number}
use Rattle.run_devices.specs.queues.Views.{View}
use Rattle.node_model.specs.Seats.{installed_of, session_of}
use Rattle.node_model.specs.declared.node.UpNode.{UpNode}
use Rattle.run_history.specs.Guards.{Hand, InHand, IsStep}
use Rattle.run_seizings.proofs.Calls as calls
use Rattle.run_seizings.proofs.Progress.{no_truth, same_is}
use Rattle.run_seizings.proofs.Promising.{and_both}
use Rattle.run_seizings.specs.Seized.{AttemptSo, has_installed}
use Rattle.run_seizings.specs.Sites as seizings
use Rattle.run_devices.specs.queues.Kept.{NoJoins, Pending, Tells, UpSo, begun_with, joins_in}
use Rattle.run_devices.specs.queues.Laws.{Same}
use Rattle.run_devices.specs.queues.Told.{leads, leads_for, unless}
use Rattle.run_devices.specs.queues.Views.{told_after, told_tasks}
use Rattle.run_devices.proofs.queues.Tasks.{none_begun}

-- with the same session, installed epoch and tasks
tells_same : (o : Option (List told.Task)) (p : Pending) (x y : UpNode) → session_of y ≡ session_of x → installed_of y ≡ installed_of x → y.tasks ≡ x.tasks → Tells o p x → Tells o p y
tells_same None p x y session installed tasks k = tt
tells_same (Some ts) p x y session installed tasks k = (
  λ is. subst (λ (z : List Task). Same (joins_in z) ts) (sym tasks) (k.0 (sym installed ∙ (is ∙ session))),
  λ ne. subst (λ (z : List Task). Same (begun_with p z) ts) (sym tasks) (k.1 (λ is. ne (installed ∙ (is ∙ sym session)))),
)

pub up_same : (S : View) (ms : List Moment) (n : ℕ) (p : Pending) (x y : UpNode) → session_of y ≡ session_of x → installed_of y ≡ installed_of x → y.tasks ≡ x.tasks
    → UpSo S ms n p x → UpSo S ms n p y
up_same S ms n p x y session installed tasks k = record {
  none = λ is. k.none (sym session ∙ is);
  fresh = λ some ne.
      ap (λ q. has_installed n q ms) session ∙ k.fresh (subst (λ q. 0 < q) session some) (λ is. ne (installed ∙ (is ∙ sym session)));
  done = λ some is. ap (λ q. has_installed n q ms) session ∙ k.done (subst (λ q. 0 < q) session some) (sym installed ∙ (is ∙ session));
  plain = λ ne. subst NoJoins (sym tasks) (k.plain (λ is. ne (installed ∙ (is ∙ sym session))));
  tells = tells_same (told_tasks S n ms) p x y session installed tasks k.tells;
}

-- ---- while it leads, its tasks are not told

pub open_here : (S : View) (n : ℕ) (ms : List Moment) → leads n ms ≡ true → told_tasks S n ms ≡ None
open_here S n [] is = absurd (no_truth is)
open_here S n (x ∷ ms) is = ap (λ b. unless b (told_after S n x ms (told_tasks S n ms))) is

tells_none : (o : Option (List told.Task)) (p : Pending) (x : UpNode) → o ≡ None → Tells o p x
tells_none o p x is = subst (λ z. Tells z p x) (sym is) tt

-- the steps of its attempt that are in hand come before it installs
pub before_in : (a : AttemptState) (d : ℕ) (kind : SeizeKind) (g : Hand) → InHand (λ (u : Turn). (u.after ≡ a) × IsBefore a.phase × IsStep (step.SeizeHere d kind) u.steps) g → IsBefore a.phase
before_in a d kind None k = absurd k
before_in a d kind (Some u) k = k.1

not_of : (b : Bool) → b ≡ false → not b ≡ true
not_of true off = absurd (no_truth (sym off))
not_of false off = refl

pub leads_so : (h : Header) (n : ℕ) (ms : List Moment) (x : UpNode) (a : AttemptState) → x.attempt ≡ Some a → IsBefore a.phase → seizings.UpSo h ms n x → leads n ms ≡ true
leads_so h n ms x a is before up =
    let so : AttemptSo h ms n (session_of x) a = calls.attempt_of h ms n (session_of x) x.attempt a is up.attempt in
    let e : ℕ = a.plan.epoch in
    let session : member.session_of n ms ≡ Some e = up.session (subst (λ q. 0 < q) so.epoch so.some) ∙ ap Some (sym so.epoch) in
    ap (λ o. leads_for n o ms) so.last
    ∙ and_both (is_number e (member.session_of n ms)) (not (has_installed n e ms)) (ap (is_number e) session ∙ same_is e) (not_of (has_installed n e ms) (so.before before))

-- ---- a task more

-- it begins one that is not told
pub queued_up : (S : View) (ms : List Moment) (n d : ℕ) (x : UpNode) (s : SeizeState) → told_tasks S n ms ≡ None → UpSo S ms n None x
    → UpSo S ms n None (record x { tasks = after_seize x.tasks d s })
queued_up S ms n d x s untold k = record {
  none = k.none;
  fresh = k.fresh;
  done = k.done;
  plain = λ ne. none_begun d x.tasks s (k.plain ne);
  tells = tells_none (told_tasks S n ms) None (record x { tasks = after_seize x.tasks d s }) untold;
}
