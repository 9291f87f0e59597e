-- A step of a node: what it gives, and the attempts of all nodes after it.
use Rattle.std.specs.Prelude.{ℕ, ◌≡◌, ◌≢◌, ◌≤◌, ◌⊎◌, All, List, [], length, Option, None, Some, IfSome}
use Rattle.std.proofs.Common.{refl, ap, sym, subst, ◌∙◌, inl, inr}
use Rattle.cl_base.specs.declared.header.Header.{Header}
use Rattle.cl_base.specs.declared.method.Outcome as method
use Rattle.cmm_attempt.specs.Attempts.{AttemptState}
use Rattle.cmm_attempt.specs.Calls.{IsDevice}
use Rattle.history.specs.Moment.{Moment}
use Rattle.machine_base.proofs.Puts.{put_here, put_there, same_or_not}
use Rattle.membership_machine.specs.State.{Memberships}
use Rattle.node_model.specs.Steps.{Outcome, stepped}
use Rattle.node_model.specs.declared.cluster.Cluster.{Cluster}
use Rattle.node_model.specs.declared.input.Input.{Input}
use Rattle.node_model.specs.declared.input.Input.TheVariants as input
use Rattle.node_model.specs.declared.node.Node.{Node}
use Rattle.node_model.specs.declared.node.Node.TheVariants.{Down, Up}
use Rattle.record_disk.specs.Disks.{DiskState}
use Rattle.refinement.proofs.Disks.{disks_keep_rules}
use Rattle.refinement.proofs.EveryRun.{is_true}
use Rattle.refinement.proofs.Facts.{known_by, step_may}
use Rattle.refinement.proofs.Handlers.{delivered_by}
use Rattle.refinement.specs.Cuts.{doings}
use Rattle.refinement.specs.Doings.{Doing, Site, after_all, given_all}
use Rattle.refinement.specs.Guards.{MayAll}
use Rattle.refinement.specs.Runs.{Nodes, WasSent, moved}
use Rattle.refinement.specs.Runs.Move.{Takes as Takes_in}
use Rattle.refinement.specs.Steps.{disk_rules}
use Rattle.run_attempts.proofs.endings.Courses.{BoundsIn, doings_fit}
use Rattle.run_attempts.specs.endings.Steps.{ticks_in}
use Rattle.run_history.proofs.Idle.{passing_nodes}
use Rattle.run_history.proofs.LineSteps.{doings_small}
use Rattle.run_history.specs.Happenings.{given_by, taking}
use Rattle.run_history.specs.Scenes.{Scene}
use Rattle.run_history.specs.Stages.{site_of}
use Rattle.run_messages.proofs.records.Replies.{CutSo, steps_are_cut_so}
use Rattle.run_packets.proofs.admitted.Courses.{doings_for}
use Rattle.run_packets.specs.admitted.Known.{DevicesKnown, RunKnown}
use Rattle.run_seizings.proofs.Steps.{Ground}
use Rattle.run_packets.specs.installs.Passing.{IsListed, NodeFew, NodeLined, NodeListed, NodeUnready, OutsSo, UpLined}
use Rattle.run_packets.proofs.installs.Courses.{doings_pass}
use Rattle.run_packets.proofs.installs.Attempts.{AreTried, NodePlaced}
use Rattle.run_packets.proofs.installs.Doings.{Out, all_out}
use Rattle.run_packets.proofs.installs.Known.{Takeable}
use Rattle.run_packets.proofs.installs.Mine.{MeIn, packet_bounds}

-- what a node stands on as it takes something
pub record Stand (h : Header) (c : Cluster) (v : Nodes) : Type 0 where
  pub fits : All IsDevice c.attached
  pub small : length c.attached ≤ 16
  pub fixed : DevicesKnown c
  pub ground : Ground c v
  pub known : RunKnown c v
  pub mine : (k : ℕ) → MeIn k (v.node k)

taking_here : (c : Cluster) (n now : ℕ) (ends : method.Outcome) (i : Input) (s : Scene) → (taking c n now ends i s).nodes.node n ≡ (stepped disk_rules c n now ends (s.nodes.node n) (s.nodes.disk n) i).after
taking_here c n now ends i s =
    ap (λ (w : Nodes). w.node n) (passing_nodes n (given_by c n now ends i s.nodes) (record s { nodes = moved c s.nodes (Takes_in n now ends i) }))
    ∙ put_here s.nodes.node n (stepped disk_rules c n now ends (s.nodes.node n) (s.nodes.disk n) i).after

taking_there : (c : Cluster) (n now : ℕ) (ends : method.Outcome) (i : Input) (s : Scene) (k : ℕ) → k ≢ n → (taking c n now ends i s).nodes.node k ≡ s.nodes.node k
taking_there c n now ends i s k ne =
    ap (λ (w : Nodes). w.node k) (passing_nodes n (given_by c n now ends i s.nodes) (record s { nodes = moved c s.nodes (Takes_in n now ends i) }))
    ∙ put_there s.nodes.node n (stepped disk_rules c n now ends (s.nodes.node n) (s.nodes.disk n) i).after k ne

bounds_by : (c : Cluster) (v : Nodes) (n : ℕ) (node : Node) (i : Input) → n ≤ 32 → Ground c v → v.node n ≡ node → WasSent v i → BoundsIn n node i
bounds_by c v n node (input.Packet from m) low g at was = packet_bounds c v n from m node low g at was
bounds_by c v n Down i low g at was = tt
bounds_by c v n (Up x) input.Boot low g at was = tt
bounds_by c v n (Up x) input.Crash low g at was = tt
bounds_by c v n (Up x) input.Tick low g at was = tt
bounds_by c v n (Up x) input.CommandDue low g at was = tt
bounds_by c v n (Up x) (input.Answered a) low g at was = tt
bounds_by c v n (Up x) (input.Wrote d value a) low g at was = tt
bounds_by c v n (Up x) (input.Commanded words) low g at was = tt
bounds_by c v n (Up x) (input.Reported r good) low g at was = tt
bounds_by c v n (Up x) (input.Client name client port) low g at was = tt

given_out : (h : Header) (c : Cluster) (v : Nodes) (before : List Moment) (n now : ℕ) (ends : method.Outcome) (i : Input) → (z : Stand h c v) → Takeable h c v n now ends i → AreTried before z.ground.machine → NodePlaced (delivered_by i) before (v.node n) → NodeLined before (v.node n)
    → NodeFew c (v.node n) → NodeUnready (v.node n) → (let o : Outcome DiskState = stepped disk_rules c n now ends (v.node n) (v.disk n) i in Out c before n (delivered_by i) o.given o.after)
given_out h c v before n now ends i z t tried placed lined few unready =
    let M : Memberships = z.ground.machine in
    let o : Outcome DiskState = stepped disk_rules c n now ends (v.node n) (v.disk n) i in
    let cut : CutSo disk_rules c n now ends (v.node n) (v.disk n) i [] o = steps_are_cut_so disk_rules disks_keep_rules c n now ends (v.node n) (v.disk n) i in
    let x : Site = site_of v n in
    let ds : List Doing = doings c n now ends cut.replies i (v.node n) in
    let may : MayAll c n (delivered_by i) x ds =
    step_may c M n now ends (v.node n) (v.disk n).kept i cut.replies t.is.1 z.fits z.ground.holds (z.ground.stands n).tied (z.ground.stands n).joins in
    let out : Out c before n (delivered_by i) (given_all c n x ds) (after_all c n x ds).node =
    all_out h c M before n (delivered_by i) (ticks_in i) x None ds z.fits z.small z.fixed z.ground.holds (known_by M i (is_true M v i t.was z.ground.sent)) (z.ground.stands n).tied may
    (doings_small c n now ends cut.replies i (v.node n) (v.disk n).kept) (t.guard cut.replies) (doings_for c n now ends cut.replies i (v.disk n).kept (v.node n) t.answer) t.hand tt (z.known.sites n)
    (doings_pass c n now ends cut.replies i (v.node n) cut.losses unready) (doings_fit c n now ends cut.replies i (v.disk n).kept (v.node n) (bounds_by c v n (v.node n) i t.is.1 z.ground refl t.was)) tried (z.mine n) placed lined few unready in
    record {
      so = subst (OutsSo before n) cut.comes.given out.so;
      lined = subst (λ (y : Site). NodeLined before y.node) cut.comes.left out.lined;
      few = subst (λ (y : Site). NodeFew c y.node) cut.comes.left out.few;
      unready = subst (λ (y : Site). NodeUnready y.node) cut.comes.left out.unready;
      placed = subst (λ (y : Site). NodePlaced (delivered_by i) before y.node) cut.comes.left out.placed;
    }

-- what is so of a node alone
abbrev pub NodeFine : Cluster → Node → Type 0
NodeFine c node = NodeFew c node × NodeUnready node

-- after a step
pub record TakenOut (c : Cluster) (before : List Moment) (n now : ℕ) (ends : method.Outcome) (i : Input) (s : Scene) : Type 0 where
  pub so : OutsSo before n (given_by c n now ends i s.nodes)
  pub lined : (k : ℕ) → NodeLined before ((taking c n now ends i s).nodes.node k)
  pub fine : (k : ℕ) → NodeFine c ((taking c n now ends i s).nodes.node k)
  pub placed : (k : ℕ) → NodePlaced (delivered_by i) before ((taking c n now ends i s).nodes.node k)

pub taken_out : (h : Header) (c : Cluster) (s : Scene) (before : List Moment) (n now : ℕ) (ends : method.Outcome) (i : Input) → (z : Stand h c s.nodes) → Takeable h c s.nodes n now ends i → AreTried before z.ground.machine
    → ((k : ℕ) → NodePlaced (delivered_by i) before (s.nodes.node k)) → ((k : ℕ) → NodeLined before (s.nodes.node k)) → ((k : ℕ) → NodeFine c (s.nodes.node k)) → TakenOut c before n now ends i s
taken_out h c s before n now ends i z t tried placed lined fine =
    let o : Outcome DiskState = stepped disk_rules c n now ends (s.nodes.node n) (s.nodes.disk n) i in
    let out : Out c before n (delivered_by i) o.given o.after = given_out h c s.nodes before n now ends i z t tried (placed n) (lined n) (fine n).0 (fine n).1 in
    record {
      so = out.so;
      lined = λ k. of_node (NodeLined before) out.lined lined k (same_or_not k n);
      fine = λ k. of_node (NodeFine c) (out.few, out.unready) fine k (same_or_not k n);
      placed = λ k. of_node (NodePlaced (delivered_by i) before) out.placed placed k (same_or_not k n);
    }
  where
    of_node : (P : Node → Type 0) → P (stepped disk_rules c n now ends (s.nodes.node n) (s.nodes.disk n) i).after → ((k : ℕ) → P (s.nodes.node k)) → (k : ℕ) → (k ≡ n) ⊎ (k ≢ n) → P ((taking c n now ends i s).nodes.node k)
    of_node P here there k (inl same) = subst (λ j. P ((taking c n now ends i s).nodes.node j)) (sym same) (subst P (sym (taking_here c n now ends i s)) here)
    of_node P here there k (inr ne) = subst P (sym (taking_there c n now ends i s k ne)) (there k)

-- what has the members of its line
up_lined : (before : List Moment) (o : Option AttemptState) → IfSome o (IsListed before) → UpLined before o
up_lined before None h = tt
up_lined before (Some a) h = inl h

pub lined_of : (before : List Moment) (node : Node) → NodeListed before node → NodeLined before node
lined_of before Down h = tt
lined_of before (Up x) h = up_lined before x.attempt h
