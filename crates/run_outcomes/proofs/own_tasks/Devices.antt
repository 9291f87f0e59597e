-- Each command of a node at a device leaves the own tasks of its attempt as its entries have them: one goes on, or it ends, and the attempt takes that.
use Rattle.std.specs.Prelude.{ℕ, ◌≡◌, ◌==◌, false, List, [], Option, None, Some, Ok, if◌then◌else◌}
use Rattle.std.proofs.Common.{refl, sym, ap, subst, ◌∙◌}
use Rattle.cl_base.specs.Seizings.{SeizeResult}
use Rattle.cl_base.specs.Sets.{has}
use Rattle.cmm_attempt.proofs.Basics.{false_true, if_either}
use Rattle.cmm_attempt.specs.Attempts.{AttemptState}
use Rattle.cmm_attempt.specs.Calls.{Own_seized}
use Rattle.device_queue.specs.Queue.{after_answer, progress_after}
use Rattle.device_queue.specs.declared.progress.Progress.{Progress}
use Rattle.device_queue.specs.declared.progress.Progress.TheVariants.{GoesOn, Joined, Seized}
use Rattle.device_queue.specs.declared.task.Task.{Task}
use Rattle.node_model.specs.Devices.{joining_so}
use Rattle.node_model.specs.Seats.{coordinator_of, record_of, session_of}
use Rattle.node_model.specs.declared.cluster.Cluster.{Cluster}
use Rattle.node_model.specs.declared.node.UpNode.{UpNode}
use Rattle.pgr_device.specs.declared.command.PrAnswer.TheVariants as given
use Rattle.pgr_device.specs.declared.command.PrCommand.{PrCommand}
use Rattle.refinement.specs.Courses.Course.{Keeps, Stops}
use Rattle.refinement.specs.Cuts as cuts
use Rattle.refinement.specs.Cuts.{course_at, course_of, writing}
use Rattle.refinement.specs.Doings.{answered_so}
use Rattle.refinement.specs.Doings.Change.{Distrusts}
use Rattle.seize.specs.Answers.{Answer}
use Rattle.seize.specs.declared.kind.JoinResult.{JoinResult}
use Rattle.seize.specs.declared.kind.JoinResult.TheVariants as join
use Rattle.wire.specs.declared.message.Body.TheVariants as body
use Rattle.run_outcomes.specs.phases.Kept.{In}
use Rattle.run_outcomes.specs.phases.Laws.{is_seizing}
use Rattle.run_outcomes.specs.saves.Courses.{LeadsTo}
use Rattle.run_outcomes.specs.tasks.Own.{CallSo, IsOrdered, Leads, Owned, Owns}
use Rattle.run_outcomes.proofs.own_tasks.Courses.{going_owned, own_ready_owned}
use Rattle.run_outcomes.proofs.own_tasks.Matching.{itself}
use Rattle.run_outcomes.proofs.own_tasks.Moving.{ends_awaited, moved_ends, moved_goes, moved_never}
use Rattle.run_outcomes.proofs.own_tasks.Messages.{readying_owned}

-- ---- a command of its own at a device

answered_tasks : (ts : List Task) (a : Answer) → ts ≡ [] → after_answer ts a ≡ []
answered_tasks ts a is = ap (λ us. after_answer us a) is

-- outside of the seizing of devices
rest_owns : (me : ℕ) (ts : List Task) (b : AttemptState) (a : Answer) → Owns me ts b → is_seizing b.phase ≡ false → Owns me (after_answer ts a) b
rest_owns me ts b a h rests = record { idle = λ early. answered_tasks ts a (h.idle early); seizes = λ is ok. absurd (false_true (sym rests ∙ is)) }

goes_owned : (me : ℕ) (ts : List Task) (o : Option AttemptState) (a : Answer) → progress_after ts a ≡ GoesOn → In (Owns me ts) o → In (Owns me (after_answer ts a)) o
goes_owned me ts None a goes h = tt
goes_owned me ts (Some b) a goes h =
    record { idle = λ early. answered_tasks ts a (h.idle early); seizes = λ is ok. moved_goes b.plan.coordinator b.promises b.devices ts a (h.seizes is ok) goes }

joins_owned : (me : ℕ) (ts : List Task) (o : Option AttemptState) (a : Answer) (d : ℕ) (r : JoinResult) → progress_after ts a ≡ Joined d r → In (Owns me ts) o → In (Owns me (after_answer ts a)) o
joins_owned me ts None a d r is h = tt
joins_owned me ts (Some b) a d r is h = record {
  idle = λ early. answered_tasks ts a (h.idle early);
  seizes = λ k ok. absurd (moved_never b.plan.coordinator b.promises b.devices ts a d r (h.seizes k ok) is);
}

-- it ends a seizing of the node itself, and its attempt takes that
pub call_so : (me : ℕ) (ts : List Task) (b : AttemptState) (a : Answer) (d : ℕ) (r : SeizeResult) → progress_after ts a ≡ Seized d r → IsOrdered me b → Owns me ts b → CallSo me (after_answer ts a) b (Own_seized d r)
call_so me ts b a d r is ok h = (
  (λ seizes. record {
    ordered = ok;
    match = moved_ends b.plan.coordinator b.promises b.devices ts a d r ok.apart (h.seizes seizes ok) is;
    awaited = λ none. ends_awaited b.plan.coordinator b.promises b.devices ts a d r (h.seizes seizes ok) is none;
  }),
  (λ rests. rest_owns me ts b a h rests),
)

seized_none : (c : Cluster) (me : ℕ) (y : UpNode) (d : ℕ) (r : SeizeResult) (k : Option ℕ) → y.attempt ≡ None → LeadsTo c me (Owned me) y (cuts.seized_course c me y d r k)
seized_none c me y d r None none = subst (In (Owns me y.tasks)) (sym none) tt
seized_none c me y d r (Some k) none =
    let h : Owned me y = subst (In (Owns me y.tasks)) (sym none) tt in
    if_either (LeadsTo c me (Owned me) y) (k == me) (cuts.own_seized_course c me y d r y.attempt) (writing k (body.Seized (session_of y) d r)) (subst (λ o. LeadsTo c me (Owned me) y (cuts.own_seized_course c me y d r o)) (sym none) h) h

seized_owned : (c : Cluster) (me : ℕ) (x : UpNode) (a : Answer) (d : ℕ) (r : SeizeResult) (o : Option AttemptState) → x.attempt ≡ o → progress_after x.tasks a ≡ Seized d r
    → In (λ b. IsOrdered me b × (coordinator_of x ≡ Some me)) o → In (Owns me x.tasks) o → LeadsTo c me (Owned me) (answered_so x a) (cuts.seized_course c me (answered_so x a) d r (coordinator_of (answered_so x a)))
seized_owned c me x a d r None none is leads h = seized_none c me (answered_so x a) d r (coordinator_of (answered_so x a)) none
seized_owned c me x a d r (Some b) at is leads h =
    let y : UpNode = answered_so x a in
    subst (λ k. LeadsTo c me (Owned me) y (cuts.seized_course c me y d r k)) (sym leads.1)
    (subst (λ t. LeadsTo c me (Owned me) y (if t then cuts.own_seized_course c me y d r y.attempt else writing me (body.Seized (session_of y) d r))) (sym (itself me))
    (subst (λ z. LeadsTo c me (Owned me) y (cuts.own_seized_course c me y d r z)) (sym at) (going_owned c me y b (Own_seized d r) (call_so me x.tasks b a d r is leads.0 h))))

joined_owned : (c : Cluster) (me : ℕ) (x : UpNode) (o : Option ℕ) → Owned me x → LeadsTo c me (Owned me) x (cuts.joined_course c me x o)
joined_owned c me x None h = h
joined_owned c me x (Some k) h = if_either (LeadsTo c me (Owned me) x) (k == me) (cuts.own_ready_course c me x) (cuts.readying_course c x k) (own_ready_owned c me x h) (readying_owned c me x x k h)

joining_owned : (c : Cluster) (me : ℕ) (x : UpNode) (at : ℕ) (k : PrCommand) (a : Answer) (d : ℕ) (r : JoinResult) → Owned me (answered_so x a) → LeadsTo c me (Owned me) x (cuts.joining_course c me x at k a d r)
joining_owned c me x at k a d join.Joined h = let y : UpNode = joining_so (answered_so x a) d in joined_owned c me y (coordinator_of y) h
joining_owned c me x at k a d (join.Late w) h = let y : UpNode = answered_so x a in joined_owned c me y (coordinator_of y) h
joining_owned c me x at k a d join.Fault h = let y : UpNode = answered_so x a in joined_owned c me y (coordinator_of y) h

progress_owned : (c : Cluster) (me : ℕ) (x : UpNode) (at : ℕ) (k : PrCommand) (a : Answer) (p : Progress) → progress_after x.tasks a ≡ p → Leads me x → Owned me x → LeadsTo c me (Owned me) x (cuts.progress_course c me x at k a p)
progress_owned c me x at k a GoesOn is leads h = goes_owned me x.tasks x.attempt a is h
progress_owned c me x at k a (Seized d r) is leads h = seized_owned c me x a d r x.attempt refl is leads h
progress_owned c me x at k a (Joined d r) is leads h = joining_owned c me x at k a d r (joins_owned me x.tasks x.attempt a d r is h)

pub answered_owned : (c : Cluster) (me : ℕ) (x : UpNode) (a : Answer) (o : Option ℕ) (k : Option PrCommand) → Leads me x → Owned me x → LeadsTo c me (Owned me) x (cuts.answered_course c me x a o k)
answered_owned c me x a None k leads h = h
answered_owned c me x a (Some d) None leads h = h
answered_owned c me x a (Some d) (Some k) leads h = progress_owned c me x d k a (progress_after x.tasks a) refl leads h

pub distrusting_owned : (c : Cluster) (me : ℕ) (x : UpNode) (o : Option ℕ) → Owned me x → LeadsTo c me (Owned me) x (cuts.distrusting_course x o)
distrusting_owned c me x None h = h
distrusting_owned c me x (Some d) h = if_either (LeadsTo c me (Owned me) x) (has (record_of x).valid d) (Keeps (Distrusts d) Stops) Stops h h

pub fenced_owned : (c : Cluster) (me : ℕ) (x : UpNode) (d : ℕ) (a : Answer) → Owned me x → LeadsTo c me (Owned me) x (cuts.fenced_course d a)
fenced_owned c me x d (Ok given.Good) h = h
fenced_owned c me x d (Ok given.Conflict) h = tt
fenced_owned c me x d _ h = h
