-- Each message that comes to a node leaves the own tasks of its attempt as its entries have them.
use Rattle.std.specs.Prelude.{ℕ, ◌≡◌, ◌==◌, Bool, true, false, Option, None, Some, if◌then◌else◌}
use Rattle.std.proofs.Common.{refl, sym, subst}
use Rattle.cl_base.specs.Seizings.{SeizeResult}
use Rattle.cl_base.specs.declared.method.Outcome as method
use Rattle.cl_base.specs.declared.seizing.SeizeEnd.TheVariants as seized
use Rattle.cmm_attempt.proofs.Basics.{if_either}
use Rattle.cmm_attempt.specs.Attempts.{AttemptState}
use Rattle.cmm_attempt.specs.Calls.{Take}
use Rattle.device_queue.specs.Queue.{joins, kept_of}
use Rattle.node_model.specs.Members.{ready_of}
use Rattle.node_model.specs.Seats.{coordinator_of, installed_of, is_in}
use Rattle.node_model.specs.declared.cluster.Cluster.{Cluster}
use Rattle.node_model.specs.declared.node.UpNode.{UpNode}
use Rattle.node_model.specs.declared.seat.Seat.{Seat}
use Rattle.node_model.specs.declared.seat.Seat.TheVariants.{Forming, Member}
use Rattle.refinement.specs.Courses.{Course}
use Rattle.refinement.specs.Courses.Course.{Acts, Keeps, Stops}
use Rattle.refinement.specs.Cuts as cuts
use Rattle.refinement.specs.Cuts.{course_at, course_of, writing}
use Rattle.refinement.specs.Doings.{accepting, changed}
use Rattle.refinement.specs.Doings.Act.{Accepts}
use Rattle.refinement.specs.Doings.Change.{Installs}
use Rattle.seize.specs.declared.kind.SeizeKind.{SeizeKind}
use Rattle.seize.specs.declared.kind.SeizeKind.TheVariants.{Plain, Vote}
use Rattle.wire.specs.declared.message.Body.{Body}
use Rattle.wire.specs.declared.message.Body.TheVariants as body
use Rattle.wire.specs.declared.message.Install.{Install}
use Rattle.wire.specs.declared.message.Message.{Message}
use Rattle.run_outcomes.specs.phases.Kept.{In}
use Rattle.run_outcomes.specs.saves.Courses.{LeadsTo}
use Rattle.run_outcomes.specs.tasks.Own.{BodySo, IsOfOthers, IsOrdered, Leads, Owned, Owns}
use Rattle.run_outcomes.proofs.own_tasks.Beside.{beside_left, left_owned}
use Rattle.run_outcomes.proofs.own_tasks.Courses.{going_owned}

-- ---- the answers to its attempt, requests to seize, an Install

answer_owned : (c : Cluster) (me : ℕ) (x : UpNode) (from : ℕ) (m : Message) (o : Option AttemptState) → In (λ a. IsOrdered me a × (coordinator_of x ≡ Some me)) o → In (Owns me x.tasks) o → In (λ a. IsOfOthers a from m.body) o → Owned me x
    → LeadsTo c me (Owned me) x (cuts.answer_course c me x from m o)
answer_owned c me x from m None leads here others h = h
answer_owned c me x from m (Some a) leads here others h = going_owned c me x a (Take from m) (leads.0, here, others)

request_owned : (c : Cluster) (me : ℕ) (x : UpNode) (from : ℕ) (kind : SeizeKind) (e members d : ℕ) (o : Option SeizeResult) → Owned me (accepting c me x kind e members d) → Owned me x
    → LeadsTo c me (Owned me) x (cuts.request_course x from kind e members d o)
request_owned c me x from kind e members d (Some result) so h = h
request_owned c me x from kind e members d None so h = if_either (LeadsTo c me (Owned me) x) (installed_of x == e) (writing from (body.Seized e d seized.Fault)) (Acts (Accepts kind e members d) Stops) h so

if_so : (c : Cluster) (me : ℕ) (x : UpNode) (b : Bool) (k l : Course) → (b ≡ true → LeadsTo c me (Owned me) x k) → LeadsTo c me (Owned me) x l → LeadsTo c me (Owned me) x (if b then k else l)
if_so c me x true k l f h = f refl
if_so c me x false k l f h = h

seizing_owned : (c : Cluster) (me : ℕ) (x : UpNode) (from : ℕ) (kind : SeizeKind) (e members d : ℕ) → (is_in x e ≡ true → Owned me (accepting c me x kind e members d)) → Owned me x
    → LeadsTo c me (Owned me) x (cuts.seizing_course x from kind e members d)
seizing_owned c me x from kind e members d so h =
    if_so c me x (is_in x e) (cuts.request_course x from kind e members d (kept_of x.tasks d)) Stops (λ is. request_owned c me x from kind e members d (kept_of x.tasks d) (so is) h) h

pub readying_owned : (c : Cluster) (me : ℕ) (x y : UpNode) (to : ℕ) → Owned me y → LeadsTo c me (Owned me) y (cuts.readying_course c x to)
readying_owned c me x y to h = if_either (LeadsTo c me (Owned me) y) (joins x.tasks) Stops (writing to (ready_of c x)) h h

installed_owned : (c : Cluster) (me : ℕ) (x : UpNode) (from : ℕ) (i : Install) (seat : Seat) → x.seat ≡ seat
    → ((s : _) → x.seat ≡ Forming s → (s.saved.installed == i.epoch) ≡ false → Owned me (changed c me x (Installs s i))) → Owned me x → LeadsTo c me (Owned me) x (cuts.installed_course c me x from i seat)
installed_owned c me x from i (Member s) at so h = readying_owned c me x x from h
installed_owned c me x from i (Forming s) at so h = by_test (s.saved.installed == i.epoch) refl
  where
    y : UpNode
    y = changed c me x (Installs s i)

    by_test : (b : Bool) → (s.saved.installed == i.epoch) ≡ b → LeadsTo c me (Owned me) x (if b then cuts.readying_course c x from else Keeps (Installs s i) (cuts.readying_course c y from))
    by_test true is = readying_owned c me x x from h
    by_test false is = readying_owned c me y y from (so s at is)

-- what tells of no seizing
abbrev IsNoSeized : Body → Type 0
IsNoSeized (body.Seized e d r) = ⊥
IsNoSeized _ = Unit {0}

no_seized : (from : ℕ) (b : Body) (o : Option AttemptState) → IsNoSeized b → In (λ a. IsOfOthers a from b) o
no_seized from b None none = tt
no_seized from (body.Seized e d r) (Some a) none = absurd none
no_seized from _ (Some a) none = tt

pub body_owned : (c : Cluster) (me : ℕ) (ends : method.Outcome) (x : UpNode) (from : ℕ) (m : Message) (b : Body) → m.body ≡ b → Leads me x → BodySo c me x from b → Owned me x → LeadsTo c me (Owned me) x (cuts.body_course c me ends x from m b)
body_owned c me ends x from m (body.Promise e installed members valid flagged committed pending) is leads so h = answer_owned c me x from m x.attempt leads h (subst (λ b. In (λ a. IsOfOthers a from b) x.attempt) (sym is) (no_seized from (body.Promise e installed members valid flagged committed pending) x.attempt tt)) h
body_owned c me ends x from m (body.Nack e promised) is leads so h = answer_owned c me x from m x.attempt leads h (subst (λ b. In (λ a. IsOfOthers a from b) x.attempt) (sym is) (no_seized from (body.Nack e promised) x.attempt tt)) h
body_owned c me ends x from m (body.Ready e devices told) is leads so h = answer_owned c me x from m x.attempt leads h (subst (λ b. In (λ a. IsOfOthers a from b) x.attempt) (sym is) (no_seized from (body.Ready e devices told) x.attempt tt)) h
body_owned c me ends x from m (body.Seized e d r) is leads so h = answer_owned c me x from m x.attempt leads h (subst (λ b. In (λ a. IsOfOthers a from b) x.attempt) (sym is) so) h
body_owned c me ends x from m (body.SeizeQuorum e members d) is leads so h = seizing_owned c me x from Vote e members d so h
body_owned c me ends x from m (body.SeizeData e members d) is leads so h = seizing_owned c me x from Plain e members d so h
body_owned c me ends x from m (body.Install i) is leads so h =
    if_so c me x (is_in x i.epoch) (cuts.installed_course c me x from i x.seat) (writing from (body.Nack i.epoch _)) (λ k. installed_owned c me x from i x.seat refl (so k) h) h
body_owned c me ends x from m (body.Heartbeat promised session member) is leads so h = let b : Body = body.Heartbeat promised session member in left_owned c me x (cuts.body_course c me ends x from m b) (beside_left c me ends x from m b tt) h
body_owned c me ends x from m (body.Collect p members) is leads so h = let b : Body = body.Collect p members in left_owned c me x (cuts.body_course c me ends x from m b) (beside_left c me ends x from m b tt) h
body_owned c me ends x from m (body.Start e) is leads so h = let b : Body = body.Start e in left_owned c me x (cuts.body_course c me ends x from m b) (beside_left c me ends x from m b tt) h
body_owned c me ends x from m (body.Excluded e newest) is leads so h = let b : Body = body.Excluded e newest in left_owned c me x (cuts.body_course c me ends x from m b) (beside_left c me ends x from m b tt) h
body_owned c me ends x from m (body.Prepare e place text) is leads so h = let b : Body = body.Prepare e place text in left_owned c me x (cuts.body_course c me ends x from m b) (beside_left c me ends x from m b tt) h
body_owned c me ends x from m (body.Prepared e place) is leads so h = let b : Body = body.Prepared e place in left_owned c me x (cuts.body_course c me ends x from m b) (beside_left c me ends x from m b tt) h
body_owned c me ends x from m (body.Commit e place) is leads so h = let b : Body = body.Commit e place in left_owned c me x (cuts.body_course c me ends x from m b) (beside_left c me ends x from m b tt) h
body_owned c me ends x from m (body.Order o) is leads so h = let b : Body = body.Order o in left_owned c me x (cuts.body_course c me ends x from m b) (beside_left c me ends x from m b tt) h
body_owned c me ends x from m (body.Done e number ended) is leads so h = let b : Body = body.Done e number ended in left_owned c me x (cuts.body_course c me ends x from m b) (beside_left c me ends x from m b tt) h
body_owned c me ends x from m (body.Request e number text) is leads so h = let b : Body = body.Request e number text in left_owned c me x (cuts.body_course c me ends x from m b) (beside_left c me ends x from m b tt) h
body_owned c me ends x from m (body.Answer e number text) is leads so h = let b : Body = body.Answer e number text in left_owned c me x (cuts.body_course c me ends x from m b) (beside_left c me ends x from m b tt) h
