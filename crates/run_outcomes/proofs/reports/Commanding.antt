-- What a node comes to as it readies itself for its command, and as it takes the answer, in a session of another's.
use Rattle.std.specs.Prelude.{ℕ, ◌%◌, ◌≡◌, ◌==◌, Bool, true, false, if◌then◌else◌, [], Option, None, Some, is_some}
use Rattle.std.specs.Option.{option_map}
use Rattle.std.proofs.Common.{refl, ap, sym, subst, ◌∙◌, inl, inr}
use Rattle.cl_base.specs.Sets.{has}
use Rattle.cl_base.specs.Seizings.{SeizeResult}
use Rattle.cl_base.specs.declared.method.Outcome.{Outcome}
use Rattle.cmm_attempt.proofs.Basics.{false_true}
use Rattle.cmm_member.specs.Nodes.{NodeState, with_joined}
use Rattle.device_queue.specs.Queue.{after_answer, begins_plainly, due_device, first_of, joins, next_of, progress_after, progress_by}
use Rattle.device_queue.specs.Tasks.{answered, progress_of}
use Rattle.device_queue.specs.declared.progress.Progress.{Progress}
use Rattle.device_queue.specs.declared.progress.Progress.TheVariants.{GoesOn, Joined, Seized}
use Rattle.device_queue.specs.declared.task.Task.{Task}
use Rattle.machine_base.proofs.Puts.{put_here}
use Rattle.node_model.specs.Devices.{joining_so}
use Rattle.node_model.specs.Members.{ready_of}
use Rattle.node_model.specs.Seats.{coordinator_of, node_numbered, record_of, session_of, state_of, with_state}
use Rattle.node_model.specs.Steps.{Outcome as Stepped, at_second, stepped}
use Rattle.node_model.specs.declared.cluster.Cluster.{Cluster}
use Rattle.node_model.specs.declared.input.Input.{Input}
use Rattle.node_model.specs.declared.input.Input.TheVariants as input
use Rattle.node_model.specs.declared.node.Node.{Node}
use Rattle.node_model.specs.declared.node.Node.TheVariants.{Up}
use Rattle.node_model.specs.declared.node.UpNode.{UpNode}
use Rattle.node_model.specs.declared.seat.Seat.{Seat}
use Rattle.node_model.specs.declared.seat.Seat.TheVariants.{Forming, Member}
use Rattle.pgr_device.specs.declared.command.PrCommand.{PrCommand}
use Rattle.record_disk.specs.Disks.{DiskState}
use Rattle.refinement.proofs.Disks.{disks_keep_rules}
use Rattle.refinement.proofs.Replies.{steps_are_cut}
use Rattle.refinement.specs.Courses.{Course}
use Rattle.refinement.specs.Courses.Course.{Acts, Falls, Keeps, Stops}
use Rattle.refinement.specs.Cuts as cuts
use Rattle.refinement.specs.Doings.{Site, after_all, answered_so, given_all, site}
use Rattle.refinement.specs.Doings.Act.{Takes}
use Rattle.refinement.specs.Doings.Change.{Distrusts}
use Rattle.refinement.specs.Runs.{Nodes, moved}
use Rattle.refinement.specs.Runs.Move.{Takes as Takes_in}
use Rattle.refinement.specs.Steps.{IsCut, disk_rules}
use Rattle.run_history.proofs.Idle.{passing_nodes}
use Rattle.run_history.specs.Happenings.{given_by, taking}
use Rattle.run_history.specs.Scenes.{Scene, passing}
use Rattle.seize.specs.Answers.{Answer}
use Rattle.seize.specs.declared.kind.JoinResult.{JoinResult}
use Rattle.seize.specs.declared.kind.JoinResult.TheVariants as join
use Rattle.wire.specs.declared.message.Body.TheVariants as body
use Rattle.run_outcomes.proofs.reports.Asked.{Joins, readying_ends}
use Rattle.run_outcomes.proofs.reports.Ending.{EndsSo, Landed, LandsSo, lands_given}

-- ---- a step, where only what the node is then counts

pub taking_lands : (c : Cluster) (n : ℕ) (Q : UpNode → Type 0) (s : Scene) (now : ℕ) (ends : Outcome) (i : Input) (x : UpNode) → s.nodes.node n ≡ Up x → LandsSo c n Q (at_second now x) (cuts.course_of c n ends (at_second now x) i)
    → Landed c n Q (given_by c n now ends i s.nodes) ((taking c n now ends i s).nodes.node n)
taking_lands c n Q s now ends i x at h =
    let v : Nodes = s.nodes in
    let o : Stepped DiskState = stepped disk_rules c n now ends (v.node n) (v.disk n) i in
    let t : Scene = record s { nodes = moved c v (Takes_in n now ends i) } in
    let cut : IsCut disk_rules c n now ends (v.node n) (v.disk n) i [] o = steps_are_cut disk_rules disks_keep_rules c n now ends (v.node n) (v.disk n) i in
    let there : (passing n o.given t).nodes.node n ≡ o.after = ap (λ (z : Nodes). z.node n) (passing_nodes n o.given t) ∙ put_here v.node n o.after in
    subst (Landed c n Q o.given) (sym there)
    (subst (λ os. Landed c n Q os o.after) cut.comes.given
    (subst (λ (z : Site). Landed c n Q (given_all c n (site (v.node n) (v.disk n).kept) (cuts.doings c n now ends cut.replies i (v.node n))) z.node) cut.comes.left
    (subst (λ (z : Node). let y : Site = site z (v.disk n).kept in Landed c n Q (given_all c n y (cuts.doings c n now ends cut.replies i z)) (after_all c n y (cuts.doings c n now ends cut.replies i z)).node) (sym at)
    (lands_given c n Q cut.replies (v.disk n).kept x (cuts.course_at c n now ends x i) h))))

-- ---- before its command

-- as it was, but for what it trusts
pub record SameTasks (x y : UpNode) : Type 0 where
  pub tasks : y.tasks ≡ x.tasks
  pub session : session_of y ≡ session_of x

kept_session : (seat : Seat) (t : NodeState) → (state_of (with_state seat t)).session ≡ t.session
kept_session (Forming s) t = refl
kept_session (Member s) t = refl

readies_land : (c : Cluster) (n : ℕ) (z x : UpNode) (o : Option ℕ) → x.tasks ≡ z.tasks → session_of x ≡ session_of z → LandsSo c n (SameTasks z) x (cuts.distrusting_course x o)
readies_land c n z x None tasks session = record { tasks = tasks; session = session }
readies_land c n z x (Some d) tasks session = by_test (has (record_of x).valid d)
  where
    by_test : (b : Bool) → LandsSo c n (SameTasks z) x (if b then Keeps (Distrusts d) Stops else Stops)
    by_test true = record { tasks = tasks; session = kept_session x.seat _ ∙ session }
    by_test false = record { tasks = tasks; session = session }

pub readied : (c : Cluster) (n now : ℕ) (ends : Outcome) (s : Scene) (x : UpNode) → s.nodes.node n ≡ Up x → Landed c n (SameTasks x) (given_by c n now ends input.CommandDue s.nodes) ((taking c n now ends input.CommandDue s).nodes.node n)
readied c n now ends s x at = taking_lands c n (SameTasks x) s now ends input.CommandDue x at (readies_land c n x (at_second now x) (begins_plainly x.tasks) refl refl)

-- ---- the answer

-- its tasks have taken the answer
pub record Took (x : UpNode) (a : Answer) (y : UpNode) : Type 0 where
  pub tasks : y.tasks ≡ after_answer x.tasks a
  pub session : session_of y ≡ session_of x

-- the first task, where a command is due
pub record Due (x : UpNode) (t : Task) : Type 0 where
  pub first : first_of x.tasks ≡ Some t
  pub next : is_some (next_of x.tasks) ≡ true

answered_by : (P : Course → Type 0) (c : Cluster) (n : ℕ) (x : UpNode) (t : Task) (a : Answer) → Due x t → ((k : PrCommand) → P (cuts.progress_course c n x t.device k a (progress_of (answered a t)))) → P (cuts.answered_course c n x a (due_device x.tasks) (next_of x.tasks))
answered_by P c n x t a due f = by_next (next_of x.tasks) due.next
  where
    device : due_device x.tasks ≡ Some t.device
    device = ap (λ (o : Option Task). option_map (λ (u : Task). u.device) o) due.first

    progress : progress_after x.tasks a ≡ progress_of (answered a t)
    progress = ap (λ (o : Option Task). progress_by o a) due.first

    by_next : (o : Option PrCommand) → is_some o ≡ true → P (cuts.answered_course c n x a (due_device x.tasks) o)
    by_next None some = absurd (false_true some)
    by_next (Some k) some = subst (λ d. P (cuts.answered_course c n x a d (Some k))) (sym device) (subst (λ z. P (cuts.progress_course c n x t.device k a z)) (sym progress) (f k))

module _ (c : Cluster) (n from : ℕ) where
  -- another coordinates its session
  abbrev pub IsLedBy : UpNode → Type 0
  IsLedBy x = (coordinator_of x ≡ Some from) × ((from == n) ≡ false)

  same_led : (x y : UpNode) → session_of y ≡ session_of x → IsLedBy x → IsLedBy y
  same_led x y same led = (ap (λ k. node_numbered (k % 64)) same ∙ led.0, led.1)

  joined_at : (P : Course → Type 0) (y : UpNode) → IsLedBy y → P (cuts.readying_course c y from) → P (cuts.joined_course c n y (coordinator_of y))
  joined_at P y led h =
      subst (λ o. P (cuts.joined_course c n y o)) (sym led.0) (subst (λ (b : Bool). P (if b then cuts.own_ready_course c n y else cuts.readying_course c y from)) (sym led.1) h)

  seized_at : (P : Course → Type 0) (y : UpNode) (d : ℕ) (r : SeizeResult) → IsLedBy y → P (cuts.writing from (body.Seized (session_of y) d r)) → P (cuts.seized_course c n y d r (coordinator_of y))
  seized_at P y d r led h =
      subst (λ o. P (cuts.seized_course c n y d r o)) (sym led.0) (subst (λ (b : Bool). P (if b then cuts.own_seized_course c n y d r y.attempt else cuts.writing from (body.Seized (session_of y) d r))) (sym led.1) h)

  -- ---- its tasks then

  readying_lands : (x : UpNode) (a : Answer) (y : UpNode) → Took x a y → LandsSo c n (Took x a) y (cuts.readying_course c y from)
  readying_lands x a y took = by_test (joins y.tasks)
    where
      by_test : (b : Bool) → LandsSo c n (Took x a) y (if b then Stops else cuts.writing from (ready_of c y))
      by_test true = took
      by_test false = took

  admitted_took : (x : UpNode) (a : Answer) (d : ℕ) → Took x a (joining_so (answered_so x a) d)
  admitted_took x a d = record { tasks = refl; session = kept_session x.seat (with_joined (state_of x.seat) d) }

  progress_lands : (x : UpNode) (a : Answer) (at : ℕ) (k : PrCommand) (p : Progress) → IsLedBy x → LandsSo c n (Took x a) x (cuts.progress_course c n x at k a p)
  progress_lands x a at k GoesOn led = record { tasks = refl; session = refl }
  progress_lands x a at k (Seized d r) led = seized_at (LandsSo c n (Took x a) (answered_so x a)) (answered_so x a) d r led (record { tasks = refl; session = refl })
  progress_lands x a at k (Joined d join.Joined) led =
      let y : UpNode = joining_so (answered_so x a) d in
      joined_at (LandsSo c n (Took x a) y) y (same_led x y (admitted_took x a d).session led) (readying_lands x a y (admitted_took x a d))
  progress_lands x a at k (Joined d (join.Late w)) led =
      let y : UpNode = answered_so x a in joined_at (LandsSo c n (Took x a) y) y led (readying_lands x a y (record { tasks = refl; session = refl }))
  progress_lands x a at k (Joined d join.Fault) led =
      let y : UpNode = answered_so x a in joined_at (LandsSo c n (Took x a) y) y led (readying_lands x a y (record { tasks = refl; session = refl }))

  -- ---- a seizing has ended

  pub seized_ends : (x : UpNode) (a : Answer) (t : Task) (r : SeizeResult) (e : ℕ) → Due x t → IsLedBy x → session_of x ≡ e → progress_of (answered a t) ≡ Seized t.device r
      → EndsSo c n from (λ z. body.Seized e t.device r) (λ z. ⊥) x (cuts.answered_course c n x a (due_device x.tasks) (next_of x.tasks))
  seized_ends x a t r e due led in_e ended =
      answered_by (EndsSo c n from (λ z. body.Seized e t.device r) (λ z. ⊥) x) c n x t a due
      (λ k. subst (λ p. EndsSo c n from (λ z. body.Seized e t.device r) (λ z. ⊥) x (cuts.progress_course c n x t.device k a p)) (sym ended)
      (seized_at (λ q. EndsSo c n from (λ z. body.Seized e t.device r) (λ z. ⊥) x (Acts (Takes t.device k a) q)) (answered_so x a) t.device r led (inr (inl (refl, ap (λ j. body.Seized j t.device r) in_e)))))

  -- ---- a joining has ended

  took_ends : (x : UpNode) (at : ℕ) (k : PrCommand) (a : Answer) (e : ℕ) (q : Course) → EndsSo c n from (ready_of c) (Joins e) (answered_so x a) q → EndsSo c n from (ready_of c) (Joins e) x (Acts (Takes at k a) q)
  took_ends x at k a e Stops h = inl h
  took_ends x at k a e (Acts b rest) h = h
  took_ends x at k a e (Keeps change rest) h = h
  took_ends x at k a e (Falls why) h = h

  joining_ends : (x : UpNode) (a : Answer) (at : ℕ) (k : PrCommand) (d e : ℕ) (r : JoinResult) → IsLedBy x → session_of x ≡ e → EndsSo c n from (ready_of c) (Joins e) x (cuts.joining_course c n x at k a d r)
  joining_ends x a at k d e join.Joined led in_e =
      let y : UpNode = joining_so (answered_so x a) d in
      let same : session_of y ≡ session_of x = (admitted_took x a d).session in
      joined_at (EndsSo c n from (ready_of c) (Joins e) y) y (same_led x y same led) (readying_ends c n from e y (same ∙ in_e))
  joining_ends x a at k d e (join.Late w) led in_e =
      let y : UpNode = answered_so x a in
      took_ends x at k a e (cuts.joined_course c n y (coordinator_of y)) (joined_at (EndsSo c n from (ready_of c) (Joins e) y) y led (readying_ends c n from e y in_e))
  joining_ends x a at k d e join.Fault led in_e =
      let y : UpNode = answered_so x a in
      took_ends x at k a e (cuts.joined_course c n y (coordinator_of y)) (joined_at (EndsSo c n from (ready_of c) (Joins e) y) y led (readying_ends c n from e y in_e))

  pub joined_ends : (x : UpNode) (a : Answer) (t : Task) (r : JoinResult) (e : ℕ) → Due x t → IsLedBy x → session_of x ≡ e → progress_of (answered a t) ≡ Joined t.device r
      → EndsSo c n from (ready_of c) (Joins e) x (cuts.answered_course c n x a (due_device x.tasks) (next_of x.tasks))
  joined_ends x a t r e due led in_e ended =
      answered_by (EndsSo c n from (ready_of c) (Joins e) x) c n x t a due
      (λ k. subst (λ p. EndsSo c n from (ready_of c) (Joins e) x (cuts.progress_course c n x t.device k a p)) (sym ended) (joining_ends x a t.device k t.device e r led in_e))

  pub took_lands : (x : UpNode) (a : Answer) (t : Task) → Due x t → IsLedBy x → LandsSo c n (Took x a) x (cuts.answered_course c n x a (due_device x.tasks) (next_of x.tasks))
  took_lands x a t due led = answered_by (LandsSo c n (Took x a) x) c n x t a due (λ k. progress_lands x a t.device k (progress_of (answered a t)) led)
