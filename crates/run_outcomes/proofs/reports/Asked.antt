-- What a node comes to where a request to seize or an Install comes to it in the session.
use Rattle.std.specs.Prelude.{ℕ, ◌≡◌, ◌⊎◌, ◌==◌, Bool, true, false, if◌then◌else◌, [], Option, None, Some}
use Rattle.std.proofs.Common.{refl, ap, sym, subst, ◌∙◌, inl, inr}
use Rattle.cl_base.specs.Sets.{has}
use Rattle.cl_base.specs.Seizings.{SeizeResult}
use Rattle.cl_base.specs.declared.method.Outcome.{Outcome}
use Rattle.cl_base.specs.declared.seizing.SeizeEnd.TheVariants as seized
use Rattle.cmm_member.specs.Nodes.{NodeState}
use Rattle.device_queue.specs.Queue.{joins, kept_of}
use Rattle.machine_base.proofs.Puts.{put_here}
use Rattle.node_model.specs.Members.{hearing, is_foreign, ready_of}
use Rattle.node_model.specs.Seats.{installed_of, is_in, promised_of, record_of, session_of, state_of}
use Rattle.node_model.specs.Steps.{Outcome as Stepped, at_second, stepped}
use Rattle.node_model.specs.declared.cluster.Cluster.{Cluster}
use Rattle.node_model.specs.declared.input.Input.{Input}
use Rattle.node_model.specs.declared.input.Input.TheVariants as input
use Rattle.node_model.specs.declared.node.Node.{Node}
use Rattle.node_model.specs.declared.node.Node.TheVariants.{Up}
use Rattle.node_model.specs.declared.node.UpNode.{UpNode}
use Rattle.node_model.specs.declared.seat.Seat.{Seat}
use Rattle.node_model.specs.declared.seat.Seat.TheVariants.{Forming}
use Rattle.record_disk.specs.Disks.{DiskState}
use Rattle.refinement.proofs.Disks.{disks_keep_rules}
use Rattle.refinement.proofs.Replies.{steps_are_cut}
use Rattle.refinement.specs.Courses.{Course}
use Rattle.refinement.specs.Courses.Course.{Acts, Falls, Keeps, Stops}
use Rattle.refinement.specs.Cuts as cuts
use Rattle.refinement.specs.Doings.{Site, after_all, changed, given_all, site}
use Rattle.refinement.specs.Doings.Act.{Accepts, Dates, Hears}
use Rattle.refinement.specs.Doings.Change.{Installs}
use Rattle.refinement.specs.Runs.{Nodes, moved}
use Rattle.refinement.specs.Runs.Move.{Takes as Takes_in}
use Rattle.refinement.specs.Steps.{IsCut, disk_rules}
use Rattle.run_history.proofs.Idle.{passing_nodes}
use Rattle.run_history.specs.Guards.{request_as}
use Rattle.run_history.specs.Happenings.{given_by, taking}
use Rattle.run_history.specs.Scenes.{Scene, passing}
use Rattle.seize.specs.declared.kind.SeizeKind.{SeizeKind}
use Rattle.seize.specs.declared.kind.SeizeKind.TheVariants.{Plain, Vote}
use Rattle.wire.specs.declared.message.Body.{Body}
use Rattle.wire.specs.declared.message.Body.TheVariants as body
use Rattle.wire.specs.declared.message.Install.{Install}
use Rattle.wire.specs.declared.message.Message.{Message}
use Rattle.run_outcomes.proofs.reports.Ending.{End, EndsSo, ends_given}
use Rattle.run_outcomes.proofs.reports.Tasks.{is_at, seize_queued}

-- ---- a request to seize

abbrev pub IsQueuedAt : ℕ → ℕ → UpNode → Type 0
IsQueuedAt e d x = (is_at d x.tasks ≡ true) × (session_of x ≡ e)

-- it is answered so, or is queued then
pub record Seizes (c : Cluster) (n from e d : ℕ) (tasks : Option SeizeResult) (x : UpNode) (k : Course) : Type 0 where
  pub result : SeizeResult
  pub kept : (tasks ≡ Some result) ⊎ (result ≡ seized.Fault)
  pub ends : EndsSo c n from (λ y. body.Seized e d result) (IsQueuedAt e d) x k

request_ends : (c : Cluster) (n from e members d : ℕ) (kind : SeizeKind) (x : UpNode) (o : Option SeizeResult) → session_of x ≡ e → kept_of x.tasks d ≡ o → Seizes c n from e d o x (cuts.request_course x from kind e members d o)
request_ends c n from e members d kind x (Some result) in_e is = record { result = result; kept = inl refl; ends = inr (inl (refl, refl)) }
request_ends c n from e members d kind x None in_e is = record { result = seized.Fault; kept = inr refl; ends = by_test (installed_of x == e) }
  where
    by_test : (b : Bool) → EndsSo c n from (λ y. body.Seized e d seized.Fault) (IsQueuedAt e d) x (if b then cuts.writing from (body.Seized e d seized.Fault) else Acts (Accepts kind e members d) Stops)
    by_test true = inr (inl (refl, refl))
    by_test false = inl (seize_queued d x.tasks kind e members n c.id (has (record_of x).valid d) is, in_e)

seizing_ends : (c : Cluster) (n from e members d : ℕ) (kind : SeizeKind) (x : UpNode) → session_of x ≡ e → is_in x e ≡ true → Seizes c n from e d (kept_of x.tasks d) x (cuts.seizing_course x from kind e members d)
seizing_ends c n from e members d kind x in_e here =
    subst (λ (b : Bool). Seizes c n from e d (kept_of x.tasks d) x (if b then cuts.request_course x from kind e members d (kept_of x.tasks d) else Stops)) (sym here) (request_ends c n from e members d kind x (kept_of x.tasks d) in_e refl)

-- ---- an Install

-- Ready is sent, or a joining is queued then
abbrev pub Joins : ℕ → UpNode → Type 0
Joins e x = (joins x.tasks ≡ true) × (session_of x ≡ e)

pub readying_ends : (c : Cluster) (n from e : ℕ) (x : UpNode) → session_of x ≡ e → EndsSo c n from (ready_of c) (Joins e) x (cuts.readying_course c x from)
readying_ends c n from e x in_e = by_test (joins x.tasks) refl
  where
    by_test : (b : Bool) → joins x.tasks ≡ b → EndsSo c n from (ready_of c) (Joins e) x (if b then Stops else cuts.writing from (ready_of c x))
    by_test true is = (is, in_e)
    by_test false is = inr (inl (refl, refl))

install_ends : (c : Cluster) (n from : ℕ) (i : Install) (x : UpNode) (s : NodeState) → x.seat ≡ Forming s → session_of x ≡ i.epoch → is_in x i.epoch ≡ true → EndsSo c n from (ready_of c) (Joins i.epoch) x (cuts.install_course c n x from i)
install_ends c n from i x s sits in_e here =
    subst (λ (b : Bool). EndsSo c n from (ready_of c) (Joins i.epoch) x (if b then cuts.installed_course c n x from i x.seat else cuts.writing from (body.Nack i.epoch (promised_of x)))) (sym here)
    (subst (λ (z : Seat). EndsSo c n from (ready_of c) (Joins i.epoch) x (cuts.installed_course c n x from i z)) (sym sits) (by_test (s.saved.installed == i.epoch)))
  where
    by_test : (b : Bool) → EndsSo c n from (ready_of c) (Joins i.epoch) x (if b then cuts.readying_course c x from else Keeps (Installs s i) (cuts.readying_course c (changed c n x (Installs s i)) from))
    by_test true = readying_ends c n from i.epoch x in_e
    by_test false = readying_ends c n from i.epoch (changed c n x (Installs s i)) (ap (λ (z : Seat). (state_of z).session) (sym sits) ∙ in_e)

-- ---- a packet

module _ (c : Cluster) (n to : ℕ) (f : UpNode → Body) (Q : UpNode → Type 0) where
  -- behind what is heard
  heard_ends : (x : UpNode) (from : ℕ) (b : Body) (k : Course) → EndsSo c n to f Q (hearing x from b) k → EndsSo c n to f Q x (Acts (Hears from b) k)
  heard_ends x from b Stops h = inl h
  heard_ends x from b (Acts a rest) h = h
  heard_ends x from b (Keeps change rest) h = h
  heard_ends x from b (Falls why) h = h

  dated_ends : (now : ℕ) (x : UpNode) (k : Course) → EndsSo c n to f Q (at_second now x) k → EndsSo c n to f Q x (Acts (Dates now) k)
  dated_ends now x Stops h = inl h
  dated_ends now x (Acts a rest) h = h
  dated_ends now x (Keeps change rest) h = h
  dated_ends now x (Falls why) h = h

  pub packet_ends : (x : UpNode) (from : ℕ) (m : Message) (b : Body) (out : Outcome) → m.body ≡ b → is_foreign c n x b ≡ false → EndsSo c n to f Q (hearing x from b) (cuts.body_course c n out (hearing x from b) from m b)
      → EndsSo c n to f Q x (cuts.packet_course c n out x from m)
  packet_ends x from m b out says native h =
      subst (λ z. EndsSo c n to f Q x (if is_foreign c n x z then Stops else Acts (Hears from z) (cuts.body_course c n out (hearing x from z) from m z))) (sym says)
      (subst (λ (t : Bool). EndsSo c n to f Q x (if t then Stops else Acts (Hears from b) (cuts.body_course c n out (hearing x from b) from m b))) (sym native)
      (heard_ends x from b (cuts.body_course c n out (hearing x from b) from m b) h))

  -- what a node gives, and what it is then
  pub taking_ends : (s : Scene) (now : ℕ) (ends : Outcome) (i : Input) (x : UpNode) → s.nodes.node n ≡ Up x → EndsSo c n to f Q (at_second now x) (cuts.course_of c n ends (at_second now x) i)
      → End c n to f Q (given_by c n now ends i s.nodes) ((taking c n now ends i s).nodes.node n)
  taking_ends s now ends i x at h =
      let v : Nodes = s.nodes in
      let o : Stepped DiskState = stepped disk_rules c n now ends (v.node n) (v.disk n) i in
      let t : Scene = record s { nodes = moved c v (Takes_in n now ends i) } in
      let cut : IsCut disk_rules c n now ends (v.node n) (v.disk n) i [] o = steps_are_cut disk_rules disks_keep_rules c n now ends (v.node n) (v.disk n) i in
      let there : (passing n o.given t).nodes.node n ≡ o.after = ap (λ (z : Nodes). z.node n) (passing_nodes n o.given t) ∙ put_here v.node n o.after in
      subst (End c n to f Q o.given) (sym there)
      (subst (λ os. End c n to f Q os o.after) cut.comes.given
      (subst (λ (z : Site). End c n to f Q (given_all c n (site (v.node n) (v.disk n).kept) (cuts.doings c n now ends cut.replies i (v.node n))) z.node) cut.comes.left
      (subst (λ (z : Node). let y : Site = site z (v.disk n).kept in End c n to f Q (given_all c n y (cuts.doings c n now ends cut.replies i z)) (after_all c n y (cuts.doings c n now ends cut.replies i z)).node) (sym at)
      (ends_given c n to f Q cut.replies (v.disk n).kept x (cuts.course_at c n now ends x i) (dated_ends now x (cuts.course_of c n ends (at_second now x) i) h)))))

-- a request to seize comes, and is not foreign
pub record Sought (c : Cluster) (s : Scene) (n from now e d : ℕ) (ends : Outcome) (m : Message) (x : UpNode) : Type 0 where
  pub result : SeizeResult
  pub kept : (kept_of x.tasks d ≡ Some result) ⊎ (result ≡ seized.Fault)
  pub ended : End c n from (λ y. body.Seized e d result) (IsQueuedAt e d) (given_by c n now ends (input.Packet from m) s.nodes) ((taking c n now ends (input.Packet from m) s).nodes.node n)

pub seize_comes : (c : Cluster) (s : Scene) (n from now e members d : ℕ) (kind : SeizeKind) (ends : Outcome) (m : Message) (x : UpNode) → s.nodes.node n ≡ Up x → m.body ≡ request_as kind e members d
    → is_foreign c n x (request_as kind e members d) ≡ false → session_of x ≡ e → is_in x e ≡ true → Sought c s n from now e d ends m x
seize_comes c s n from now e members d Vote ends m x at says native in_e here =
    let y : UpNode = at_second now x in
    let b : Body = body.SeizeQuorum e members d in
    let z : Seizes c n from e d (kept_of x.tasks d) (hearing y from b) (cuts.seizing_course (hearing y from b) from Vote e members d) = seizing_ends c n from e members d Vote (hearing y from b) in_e here in
    record {
      result = z.result;
      kept = z.kept;
      ended = taking_ends c n from (λ w. body.Seized e d z.result) (IsQueuedAt e d) s now ends (input.Packet from m) x at
          (packet_ends c n from (λ w. body.Seized e d z.result) (IsQueuedAt e d) y from m b ends says native z.ends);
    }
seize_comes c s n from now e members d Plain ends m x at says native in_e here =
    let y : UpNode = at_second now x in
    let b : Body = body.SeizeData e members d in
    let z : Seizes c n from e d (kept_of x.tasks d) (hearing y from b) (cuts.seizing_course (hearing y from b) from Plain e members d) = seizing_ends c n from e members d Plain (hearing y from b) in_e here in
    record {
      result = z.result;
      kept = z.kept;
      ended = taking_ends c n from (λ w. body.Seized e d z.result) (IsQueuedAt e d) s now ends (input.Packet from m) x at
          (packet_ends c n from (λ w. body.Seized e d z.result) (IsQueuedAt e d) y from m b ends says native z.ends);
    }

-- .. and so does an Install
pub install_comes : (c : Cluster) (s : Scene) (n from now : ℕ) (i : Install) (ends : Outcome) (m : Message) (x : UpNode) (st : NodeState) → s.nodes.node n ≡ Up x → m.body ≡ body.Install i
    → is_foreign c n x (body.Install i) ≡ false → x.seat ≡ Forming st → session_of x ≡ i.epoch → is_in x i.epoch ≡ true
    → End c n from (ready_of c) (Joins i.epoch) (given_by c n now ends (input.Packet from m) s.nodes) ((taking c n now ends (input.Packet from m) s).nodes.node n)
install_comes c s n from now i ends m x st at says native sits in_e here =
    let y : UpNode = at_second now x in
    let b : Body = body.Install i in
    taking_ends c n from (ready_of c) (Joins i.epoch) s now ends (input.Packet from m) x at (packet_ends c n from (ready_of c) (Joins i.epoch) y from m b ends says native (install_ends c n from i (hearing y from b) st sits in_e here))
