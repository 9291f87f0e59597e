-- A node takes a request to seize.
use Rattle.std.specs.Prelude.{ℕ, ◌≡◌, ◌==◌, Bool, true, false, List, [], Option, None, Some, if◌then◌else◌}
use Rattle.std.specs.Option.{option_and_then}
use Rattle.std.proofs.Common.{refl, sym, subst}
use Rattle.cl_base.specs.Seizings.{SeizeResult}
use Rattle.cl_base.specs.declared.method.Outcome as method
use Rattle.cl_base.specs.declared.method.Outcome.{Outcome}
use Rattle.cl_base.specs.declared.seizing.SeizeEnd.TheVariants as seized
use Rattle.cmm_attempt.proofs.Basics.{none_some}
use Rattle.cmm_member.specs.Records.{NodeRecord}
use Rattle.device_queue.specs.Queue.{after_seize, kept_of, put_unless, seizure_of}
use Rattle.device_queue.specs.Tasks.{result_in}
use Rattle.device_queue.specs.declared.task.Task.{Task}
use Rattle.device_queue.specs.declared.task.Work.TheVariants.{Seizing}
use Rattle.seize.specs.Seizing.{SeizeState}
use Rattle.seize.specs.declared.kind.SeizeKind.{SeizeKind}
use Rattle.seize.specs.declared.kind.SeizeKind.TheVariants.{Plain, Vote}
use Rattle.wire.specs.declared.message.Body.{Body}
use Rattle.wire.specs.declared.message.Body.TheVariants as body
use Rattle.wire.specs.declared.message.Message.{Message}
use Rattle.history.specs.Moment.{Moment}
use Rattle.history.specs.Queue as told
use Rattle.run_devices.specs.queues.Views.{View}
use Rattle.node_model.specs.Members.{hearing, is_foreign, is_foreign_seizing}
use Rattle.node_model.specs.Seats.{installed_of, is_in}
use Rattle.node_model.specs.Steps.{at_second}
use Rattle.node_model.specs.declared.cluster.Cluster.{Cluster}
use Rattle.node_model.specs.declared.input.Input.TheVariants as input
use Rattle.node_model.specs.declared.node.Node.TheVariants.{Up}
use Rattle.node_model.specs.declared.node.UpNode.{UpNode}
use Rattle.refinement.specs.Courses.{Course, Reply, under}
use Rattle.refinement.specs.Courses.Course.{Acts, Stops}
use Rattle.refinement.specs.Cuts.{body_course, doings, request_course, seizing_course, writing}
use Rattle.refinement.specs.Doings.{accepting, after_all, given_all, site}
use Rattle.refinement.specs.Doings.Act.{Accepts, Hears}
use Rattle.refinement.specs.Runs.{Nodes}
use Rattle.refinement.specs.Ties.{Delivered}
use Rattle.run_history.specs.Guards.{request_as}
use Rattle.run_history.specs.Scenes.{Scene, passing}
use Rattle.run_devices.specs.queues.Kept.{Pending, Tells, UpSo, begun_with}
use Rattle.run_devices.specs.queues.Laws.{Same}
use Rattle.run_devices.specs.queues.Views.{told_tasks}
use Rattle.run_devices.proofs.queues.Acts.{mild_at}
use Rattle.run_devices.proofs.queues.Goes.{Goes, goes_at, posting_goes}
use Rattle.run_devices.proofs.queues.Requests.{pending_by, pending_of, state_for}
use Rattle.run_devices.proofs.queues.Tasks.{joins_begun, none_begun}

-- ---- one that has begun the seizing begins none anew

kept_same : (d : ℕ) (s : SeizeState) (ts : List Task) (r : SeizeResult) → kept_of ts d ≡ Some r → after_seize ts d s ≡ ts
kept_same d s ts r is = by_old (seizure_of ts d) is
  where
    by_old : (o : Option Task) → option_and_then (λ (t : Task). result_in t.work) o ≡ Some r → put_unless o (record { device = d; work = Seizing s }) ts ≡ ts
    by_old None e = absurd (none_some r e)
    by_old (Some t) e = refl

tells_kept : (o : Option (List told.Task)) (p : Pending) (x : UpNode) → begun_with p x.tasks ≡ x.tasks → Tells o p x → Tells o None x
tells_kept None p x same k = tt
tells_kept (Some ts) p x same k = (k.0, λ ne. subst (λ z. Same z ts) same (k.1 ne))

kept_up : (S : View) (ms : List Moment) (n : ℕ) (p : Pending) (x : UpNode) → begun_with p x.tasks ≡ x.tasks → UpSo S ms n p x → UpSo S ms n None x
kept_up S ms n p x same k =
    record { none = k.none; fresh = k.fresh; done = k.done; plain = k.plain; tells = tells_kept (told_tasks S n ms) p x same k.tells }

tells_begun : (o : Option (List told.Task)) (d : ℕ) (s : SeizeState) (x : UpNode) → Tells o (Some (d, s)) x → Tells o None (record x { tasks = after_seize x.tasks d s })
tells_begun None d s x k = tt
tells_begun (Some ts) d s x k = (λ is. subst (λ z. Same z ts) (sym (joins_begun d x.tasks s)) (k.0 is), λ ne. k.1 ne)

begun_up : (S : View) (ms : List Moment) (n d : ℕ) (s : SeizeState) (x : UpNode) → UpSo S ms n (Some (d, s)) x → UpSo S ms n None (record x { tasks = after_seize x.tasks d s })
begun_up S ms n d s x k = record {
  none = k.none;
  fresh = k.fresh;
  done = k.done;
  plain = λ ne. none_begun d x.tasks s (k.plain ne);
  tells = tells_begun (told_tasks S n ms) d s x k.tells;
}

-- ---- the steps

abbrev Walked : View → Cluster → ℕ → Delivered → Nodes → Nodes → NodeRecord → UpNode → List Reply → Course → Scene → Type 0
Walked S c n told v w disk x replies k s = Goes S n told v w None (after_all c n (site (Up x) disk) (under replies k)).node (passing n (given_all c n (site (Up x) disk) (under replies k)) s)

writes : (S : View) (c : Cluster) (n : ℕ) (told : Delivered) (v w : Nodes) (disk : NodeRecord) (x : UpNode) (replies : List Reply) (to : ℕ) (b : Body) (s : Scene)
    → Goes S n told v w None (Up x) s → Walked S c n told v w disk x replies (writing to b) s
writes S c n told v w disk x replies to b s k = posting_goes S n told v w None (Up x) s to (record { sender = n; body = b }) k

kept_goes : (S : View) (n : ℕ) (told : Delivered) (v w : Nodes) (p : Pending) (x : UpNode) (s : Scene) → begun_with p x.tasks ≡ x.tasks → Goes S n told v w p (Up x) s
    → Goes S n told v w None (Up x) s
kept_goes S n told v w p x s same k = goes_at S n told v w p None (Up x) (Up x) s (kept_up S s.moments n p x same k.here) k

request_walk : (S : View) (c : Cluster) (n : ℕ) (told : Delivered) (v w : Nodes) (disk : NodeRecord) (x : UpNode) (replies : List Reply) (from e members d : ℕ) (kind : SeizeKind)
    (s : Scene) → Goes S n told v w (pending_by false true (installed_of x == e) d (state_for c n x kind e members d)) (Up x) s
    → Walked S c n told v w disk x replies (request_course x from kind e members d (kept_of x.tasks d)) s
request_walk S c n told v w disk x replies from e members d kind s k = by_kept (kept_of x.tasks d) refl
  where
    q : SeizeState
    q = state_for c n x kind e members d

    held : (o : Bool) (r : SeizeResult) → kept_of x.tasks d ≡ Some r → begun_with (pending_by false true o d q) x.tasks ≡ x.tasks
    held true r is = refl
    held false r is = kept_same d q x.tasks r is

    by_over : (b : Bool) → Goes S n told v w (pending_by false true b d q) (Up x) s
        → Walked S c n told v w disk x replies (if b then writing from (body.Seized e d seized.Fault) else Acts (Accepts kind e members d) Stops) s
    by_over true l = writes S c n told v w disk x replies from (body.Seized e d seized.Fault) s l
    by_over false l = goes_at S n told v w (Some (d, q)) None (Up x) (Up (accepting c n x kind e members d)) s (begun_up S s.moments n d q x l.here) l

    by_kept : (o : Option SeizeResult) → kept_of x.tasks d ≡ o → Walked S c n told v w disk x replies (request_course x from kind e members d o) s
    by_kept (Some r) is =
        writes S c n told v w disk x replies from (body.Seized e d r) s
        (kept_goes S n told v w (pending_by false true (installed_of x == e) d q) x s (held (installed_of x == e) r is) k)
    by_kept None is = by_over (installed_of x == e) k

seizing_walk : (S : View) (c : Cluster) (n : ℕ) (told : Delivered) (v w : Nodes) (disk : NodeRecord) (x : UpNode) (replies : List Reply) (from e members d : ℕ) (kind : SeizeKind)
    (s : Scene) → Goes S n told v w (pending_by false (is_in x e) (installed_of x == e) d (state_for c n x kind e members d)) (Up x) s
    → Walked S c n told v w disk x replies (seizing_course x from kind e members d) s
seizing_walk S c n told v w disk x replies from e members d kind s k = by_inside (is_in x e) k
  where
    by_inside : (b : Bool) → Goes S n told v w (pending_by false b (installed_of x == e) d (state_for c n x kind e members d)) (Up x) s
        → Walked S c n told v w disk x replies (if b then request_course x from kind e members d (kept_of x.tasks d) else Stops) s
    by_inside true l = request_walk S c n told v w disk x replies from e members d kind s l
    by_inside false l = l

-- the course of this request
abbrev course_for : Cluster → ℕ → Outcome → UpNode → ℕ → Message → Body → Course
course_for c n outcome x from m b = if is_foreign c n x b then Stops else Acts (Hears from b) (body_course c n outcome (hearing x from b) from m b)

heard_walk : (S : View) (c : Cluster) (n : ℕ) (told : Delivered) (v w : Nodes) (disk : NodeRecord) (x : UpNode) (replies : List Reply) (from e members d : ℕ) (kind : SeizeKind) (b : Body)
    (s : Scene) → (f : Bool) → Goes S n told v w (pending_by f (is_in x e) (installed_of x == e) d (state_for c n x kind e members d)) (Up x) s
    → Walked S c n told v w disk x replies (if f then Stops else Acts (Hears from b) (seizing_course (hearing x from b) from kind e members d)) s
heard_walk S c n told v w disk x replies from e members d kind b s true k = k
heard_walk S c n told v w disk x replies from e members d kind b s false k =
    seizing_walk S c n told v w disk (hearing x from b) replies from e members d kind s
    (mild_at S n told v w (pending_by false (is_in x e) (installed_of x == e) d (state_for c n x kind e members d)) x (hearing x from b) [] s tt refl refl refl k)

asked_walk : (S : View) (c : Cluster) (n : ℕ) (outcome : Outcome) (told : Delivered) (v w : Nodes) (disk : NodeRecord) (x : UpNode) (replies : List Reply) (from e members d : ℕ)
    (kind : SeizeKind) (m : Message) (s : Scene) → Goes S n told v w (pending_of c n x kind e members d) (Up x) s
    → Walked S c n told v w disk x replies (course_for c n outcome x from m (request_as kind e members d)) s
asked_walk S c n outcome told v w disk x replies from e members d Vote m s k =
    heard_walk S c n told v w disk x replies from e members d Vote (body.SeizeQuorum e members d) s (is_foreign_seizing c n members d) k
asked_walk S c n outcome told v w disk x replies from e members d Plain m s k =
    heard_walk S c n told v w disk x replies from e members d Plain (body.SeizeData e members d) s (is_foreign_seizing c n members d) k

-- of a node that is up
pub request_goes : (S : View) (c : Cluster) (n now : ℕ) (ends : method.Outcome) (told : Delivered) (v w : Nodes) (disk : NodeRecord) (x : UpNode) (replies : List Reply)
    (from e members d : ℕ) (kind : SeizeKind) (m : Message) (s : Scene) → m.body ≡ request_as kind e members d → Goes S n told v w (pending_of c n x kind e members d) (Up x) s
    → Goes S n told v w None (after_all c n (site (Up x) disk) (doings c n now ends replies (input.Packet from m) (Up x))).node
    (passing n (given_all c n (site (Up x) disk) (doings c n now ends replies (input.Packet from m) (Up x))) s)
request_goes S c n now ends told v w disk x replies from e members d kind m s is k =
    let y : UpNode = at_second now x in
    subst (λ b. Walked S c n told v w disk y replies (course_for c n ends y from m b) s) (sym is)
    (asked_walk S c n ends told v w disk y replies from e members d kind m s
    (mild_at S n told v w (pending_of c n x kind e members d) x y [] s tt refl refl refl k))
