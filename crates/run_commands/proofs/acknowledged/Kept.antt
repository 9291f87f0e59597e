-- What is known of requests stays with each step of a node, and with each moment in which no node does anything.
use Rattle.std.specs.Prelude.{ℕ, ◌≡◌, ◌≢◌, ◌≤◌, ◌<◌, ◌^◌, ◌⊎◌, All, List, [], length}
use Rattle.std.proofs.Common.{sym, subst, inl, inr}
use Rattle.cl_base.specs.declared.method.Outcome as method
use Rattle.cmm_attempt.specs.Calls.{IsDevice}
use Rattle.cmm_member.specs.Records.{NodeRecord}
use Rattle.machine_base.specs.Put.{put}
use Rattle.machine_base.proofs.Puts.{put_here, put_there, same_or_not}
use Rattle.membership_machine.specs.Invariant.{Holds}
use Rattle.membership_machine.specs.State.{Memberships}
use Rattle.history.specs.Member.{in_collect}
use Rattle.history.specs.Moment.{Moment, lines_of}
use Rattle.history.specs.Setting.{Setting}
use Rattle.node_model.specs.declared.cluster.Cluster.{Cluster}
use Rattle.node_model.specs.declared.input.Input.{Input}
use Rattle.node_model.specs.declared.node.Node.{Node}
use Rattle.node_model.specs.declared.node.Node.TheVariants.{Down, Up}
use Rattle.node_model.specs.Steps.{Outcome, stepped}
use Rattle.record_disk.specs.Disks.{DiskState}
use Rattle.refinement.specs.Courses.{Reply}
use Rattle.refinement.specs.Cuts.{doings}
use Rattle.refinement.specs.Doings.{Doing, Site, after_all, given_all, site}
use Rattle.refinement.specs.Runs.{Nodes, moved}
use Rattle.refinement.specs.Runs.Move.{Takes as Takes_in}
use Rattle.refinement.specs.Steps.{IsCut, disk_rules}
use Rattle.refinement.specs.Ties.{Known, NodeTied, setting_of}
use Rattle.refinement.specs.Whole.{Stands}
use Rattle.refinement.proofs.Disks.{disks_keep_rules}
use Rattle.refinement.proofs.Facts.{step_may}
use Rattle.refinement.proofs.Handlers.{delivered_by}
use Rattle.refinement.proofs.Replies.{steps_are_cut}
use Rattle.run_history.proofs.Idle.{passing_nodes}
use Rattle.run_history.proofs.LineSteps.{doings_small}
use Rattle.run_history.specs.Happenings.{IsSaid, given_by, taking}
use Rattle.run_history.specs.Scenes.{Scene, passing}
use Rattle.run_messages.proofs.Collecting.{doings_collected}
use Rattle.run_messages.proofs.Runs.{Knows}
use Rattle.run_messages.specs.Laws.{IsSeated, membership_in}
use Rattle.run_messages.specs.Outputs.{AreGood}
use Rattle.run_messages.specs.Steps.{collecting}
use Rattle.run_commands.specs.carried.Steps.{CarriedSo}
use Rattle.run_commands.proofs.carried.Causes.{CameSo, president_at}
use Rattle.run_commands.proofs.carried.Kept.{NodeFits, step_leaves}
use Rattle.run_commands.proofs.carried.Reports.{Stepped}
use Rattle.run_commands.specs.acknowledged.Steps.{Frame, NodeSo, ToldSo}
use Rattle.run_commands.proofs.acknowledged.Acts.{CameHand, up_stays}
use Rattle.run_commands.proofs.acknowledged.Frames.{passing_frame, unused_stays}
use Rattle.run_commands.proofs.acknowledged.Commands.{Reads}
use Rattle.run_commands.proofs.acknowledged.Steps.{down_left, up_left}
use Rattle.run_commands.proofs.acknowledged.Walk.{Left}

pub record Keeps (S : Setting) (c : Cluster) (v : Nodes) (ms : List Moment) : Type 0 where
  pub nodes : (k : ℕ) → NodeSo S c k ms (v.disk k).kept.promised (v.node k)
  pub told : ToldSo S c ms

abbrev pub KeepsIn : Setting → Cluster → Scene → Type 0
KeepsIn S c s = Keeps S c s.nodes s.moments

-- the Request that came to the node is backed
abbrev pub CameAt : Setting → Cluster → ℕ → Input → List Moment → Node → Type 0
CameAt S c n i ms Down = Unit {0}
CameAt S c n i ms (Up x) = CameHand S c n (membership_in x.seat) i ms

-- ---- a node that does nothing

pub node_stays : (S : Setting) (c : Cluster) (M : Memberships) (k promised : ℕ) (disk : NodeRecord) (node : Node) (before after : List Moment) → NodeTied c M k disk node → Frame S k before after
    → NodeSo S c k before promised node → NodeSo S c k after promised node
node_stays S c M k promised disk Down before after tied f h = λ e above. unused_stays S k e before after f (h e above)
node_stays S c M k promised disk (Up x) before after tied f h = up_stays S c k promised x before after (president_at M k x tied.1) f h

pub moment_keeps : (S : Setting) (c : Cluster) (v : Nodes) (before after : List Moment) → Knows c v → ((k : ℕ) → Frame S k before after) → ToldSo S c after → Keeps S c v before → Keeps S c v after
moment_keeps S c v before after k f told h =
    record { nodes = λ j. node_stays S c k.machine j (v.disk j).kept.promised (v.disk j).kept (v.node j) before after (k.stands j).tied (f j) (h.nodes j); told = told }

-- ---- a node that takes something

step_by : (S : Setting) (c : Cluster) (n now : ℕ) (ends : method.Outcome) (i : Input) (replies : List Reply) (node : Node) (disk : NodeRecord) (M : Memberships) (s : Scene) → Reads c S → (1 ≤ n) × (n ≤ 32)
    → All IsDevice c.attached → Holds (setting_of c) M → Known M (delivered_by i) → Stands c M n node disk → in_collect n s.moments ≡ collecting (delivered_by i)
    → AreGood n (given_all c n (site node disk) (doings c n now ends replies i node)) → IsSeated s.moments n node → IsSaid s.moments n i → CameSo i n s.moments → length (lines_of s.moments) < 2 ^ 63
    → NodeFits S n s.moments node → CarriedSo S s.moments → CameAt S c n i s.moments node → NodeSo S c n s.moments disk.promised node → ToldSo S c s.moments
    → Left S c n (after_all c n (site node disk) (doings c n now ends replies i node)).disk.promised (after_all c n (site node disk) (doings c n now ends replies i node)).node
    (given_all c n (site node disk) (doings c n now ends replies i node)) s
step_by S c n now ends i replies Down disk M s reads range fits holds known stands at good seated said came few fit carried hand own told = down_left S c n i replies disk s own told
step_by S c n now ends i replies (Up x) disk M s reads range fits holds known stands at good seated said came few fit carried hand own told =
    up_left S c n now ends i replies x disk s reads range fits said
    (record {
      machine = M;
      holds = holds;
      known = known;
      tied = stands.tied;
      may = step_may c M n now ends (Up x) disk i replies range.1 fits holds stands.tied stands.joins;
      small = doings_small c n now ends replies i (Up x) disk;
      calm = doings_collected c n now ends replies i (Up x);
      at = at;
      good = good;
      seated = seated;
    })
    fit.0 carried came (record { low = fit.1; few = few }) (record { up = own; told = told; came = hand })

step_left : (S : Setting) (c : Cluster) (v : Nodes) (n now : ℕ) (ends : method.Outcome) (i : Input) (s : Scene) → Reads c S → (1 ≤ n) × (n ≤ 32) → All IsDevice c.attached → (k : Knows c v) → Known k.machine (delivered_by i)
    → in_collect n s.moments ≡ collecting (delivered_by i) → AreGood n (given_by c n now ends i v) → IsSeated s.moments n (v.node n) → IsSaid s.moments n i → CameSo i n s.moments → length (lines_of s.moments) < 2 ^ 63
    → NodeFits S n s.moments (v.node n) → CarriedSo S s.moments → CameAt S c n i s.moments (v.node n) → NodeSo S c n s.moments (v.disk n).kept.promised (v.node n) → ToldSo S c s.moments
    → (let o : Outcome DiskState = stepped disk_rules c n now ends (v.node n) (v.disk n) i in Left S c n o.disk.kept.promised o.after o.given s)
step_left S c v n now ends i s reads range fits k known at good seated said came few fit carried hand own told =
    let o : Outcome DiskState = stepped disk_rules c n now ends (v.node n) (v.disk n) i in
    let cut : IsCut disk_rules c n now ends (v.node n) (v.disk n) i [] o = steps_are_cut disk_rules disks_keep_rules c n now ends (v.node n) (v.disk n) i in
    let x : Site = site (v.node n) (v.disk n).kept in
    let ds : List Doing = doings c n now ends cut.replies i (v.node n) in
    let g : Left S c n (after_all c n x ds).disk.promised (after_all c n x ds).node (given_all c n x ds) s =
    step_by S c n now ends i cut.replies (v.node n) (v.disk n).kept k.machine s reads range fits k.holds known (k.stands n) at (subst (AreGood n) (sym cut.comes.given) good) seated said came few fit carried hand own told in
    subst (λ (z : Site). Left S c n z.disk.promised z.node o.given s) cut.comes.left (subst (λ os. Left S c n (after_all c n x ds).disk.promised (after_all c n x ds).node os s) cut.comes.given g)

pub put_both : (P : ℕ → DiskState → Node → Type 0) (f : ℕ → Node) (g : ℕ → DiskState) (n : ℕ) (x : Node) (d : DiskState) → P n d x → ((k : ℕ) → k ≢ n → P k (g k) (f k)) → (k : ℕ) → P k (put g n d k) (put f n x k)
put_both P f g n x d here others k = go (same_or_not k n)
  where
    go : (k ≡ n) ⊎ (k ≢ n) → P k (put g n d k) (put f n x k)
    go (inl e) =
        subst (λ j. P j (put g n d j) (put f n x j)) (sym e) (subst (λ (z : Node). P n (put g n d n) z) (sym (put_here f n x)) (subst (λ (z : DiskState). P n z x) (sym (put_here g n d)) here))
    go (inr ne) = subst (λ (z : Node). P k (put g n d k) z) (sym (put_there f n x k ne)) (subst (λ (z : DiskState). P k z (f k)) (sym (put_there g n d k ne)) (others k ne))

pub taking_keeps : (S : Setting) (c : Cluster) (s : Scene) (n now : ℕ) (ends : method.Outcome) (i : Input) → Reads c S → (1 ≤ n) × (n ≤ 32) → All IsDevice c.attached → (k : Knows c s.nodes) → Known k.machine (delivered_by i)
    → in_collect n s.moments ≡ collecting (delivered_by i) → AreGood n (given_by c n now ends i s.nodes) → IsSeated s.moments n (s.nodes.node n) → IsSaid s.moments n i → CameSo i n s.moments
    → length (lines_of s.moments) < 2 ^ 63 → NodeFits S n s.moments (s.nodes.node n) → CarriedSo S s.moments → CameAt S c n i s.moments (s.nodes.node n) → KeepsIn S c s → KeepsIn S c (taking c n now ends i s)
taking_keeps S c s n now ends i reads range fits k known at good seated said came few fit carried hand h =
    let v : Nodes = moved c s.nodes (Takes_in n now ends i) in
    let t : Scene = record s { nodes = v } in
    let o : Outcome DiskState = stepped disk_rules c n now ends (s.nodes.node n) (s.nodes.disk n) i in
    let end : Scene = passing n o.given t in
    let g : Left S c n o.disk.kept.promised o.after o.given t = step_left S c s.nodes n now ends i t reads range fits k known at good seated said came few fit carried hand (h.nodes n) h.told in
    let others : Stepped S n o.after o.given t =
    step_leaves S c s.nodes n now ends i t (record { answers = reads.answers; requests = reads.requests }) range.1 fits k known at good seated said came few fit carried in
    subst (λ w. Keeps S c w end.moments) (sym (passing_nodes n o.given t)) (record {
      nodes = put_both (λ j d node. NodeSo S c j end.moments d.kept.promised node) s.nodes.node s.nodes.disk n o.after o.disk g.own
          (λ j ne. node_stays S c k.machine j (s.nodes.disk j).kept.promised (s.nodes.disk j).kept (s.nodes.node j) s.moments end.moments (k.stands j).tied (passing_frame S j n o.given t (λ is. ne (sym is)) (others.left.apart j ne)) (h.nodes j));
      told = g.told;
    })
