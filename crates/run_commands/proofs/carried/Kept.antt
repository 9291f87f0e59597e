-- What each node is, and what flies, stays with each step of a node.
use Rattle.std.specs.Prelude.{ℕ, ◌≡◌, ◌≢◌, ◌≤◌, ◌<◌, ◌^◌, ◌⊎◌, All, true, List, [], ◌∷◌, length, is_some}
use Rattle.std.proofs.Common.{refl, sym, subst, inl, inr}
use Rattle.cl_base.specs.declared.method.Outcome as method
use Rattle.cmm_attempt.specs.Calls.{IsDevice}
use Rattle.cmm_member.specs.Records.{NodeRecord}
use Rattle.interconnect.specs.Links.{Links}
use Rattle.machine_base.specs.Put.{put}
use Rattle.machine_base.proofs.Puts.{put_here, put_there, same_or_not}
use Rattle.membership_machine.specs.Invariant.{Holds}
use Rattle.membership_machine.specs.State.{Memberships}
use Rattle.history.specs.Member.{in_collect}
use Rattle.history.specs.Moment.{Moment, lines_of}
use Rattle.history.specs.Setting.{Setting}
use Rattle.node_model.specs.declared.cluster.Cluster.{Cluster}
use Rattle.node_model.specs.declared.input.Input.{Input}
use Rattle.node_model.specs.declared.node.Node.{Node}
use Rattle.node_model.specs.declared.node.Node.TheVariants.{Down, Up}
use Rattle.node_model.specs.declared.node.UpNode.{UpNode}
use Rattle.node_model.specs.declared.output.Output.{Output}
use Rattle.node_model.specs.Steps.{Outcome, stepped}
use Rattle.record_disk.specs.Disks.{DiskState}
use Rattle.refinement.specs.Courses.{Reply}
use Rattle.refinement.specs.Cuts.{doings}
use Rattle.refinement.specs.Doings.{Doing, Site, after_all, given_all, site}
use Rattle.refinement.specs.Runs.{Nodes, moved}
use Rattle.refinement.specs.Runs.Move.{Takes as Takes_in}
use Rattle.refinement.specs.Steps.{IsCut, disk_rules}
use Rattle.refinement.specs.Ties.{Known, NodeTied, setting_of}
use Rattle.refinement.specs.Whole.{Stands}
use Rattle.refinement.proofs.Disks.{disks_keep_rules}
use Rattle.refinement.proofs.Facts.{step_may}
use Rattle.refinement.proofs.Handlers.{delivered_by}
use Rattle.refinement.proofs.Replies.{steps_are_cut}
use Rattle.run_history.proofs.Idle.{passing_nodes}
use Rattle.run_history.proofs.LineSteps.{doings_small}
use Rattle.run_history.specs.Happenings.{IsSaid, given_by, taking}
use Rattle.run_history.specs.Scenes.{Scene, passing}
use Rattle.run_messages.proofs.Collecting.{doings_collected}
use Rattle.run_messages.proofs.Runs.{Knows}
use Rattle.run_messages.specs.Laws.{IsSeated}
use Rattle.run_messages.specs.Outputs.{AreGood}
use Rattle.run_messages.specs.Steps.{collecting}
use Rattle.run_commands.specs.carried.Steps.{CarriedSo, CarriesSo, used_lines}
use Rattle.run_commands.proofs.carried.Acts.{pending_each}
use Rattle.run_commands.proofs.carried.Causes.{CameSo, PresidentAt, president_at}
use Rattle.run_commands.proofs.carried.Counts.{more_used, passing_used, then_le}
use Rattle.run_commands.proofs.carried.Leaving.{NodeSo, UpSo}
use Rattle.run_commands.proofs.carried.Flying.{Flying, passing_flying}
use Rattle.run_commands.proofs.carried.Lines.{SameAsk, passing_ask}
use Rattle.run_commands.proofs.carried.Queues.{queued_stays}
use Rattle.run_commands.proofs.carried.Reports.{Stepped}
use Rattle.run_commands.proofs.carried.Steps.{Reads, down_step, up_step}

-- a node is as its lines say, with no more numbers than lines
abbrev pub NodeFits : Setting → ℕ → List Moment → Node → Type 0
NodeFits S k ms Down = Unit {0}
NodeFits S k ms (Up x) = UpSo S k x.requests.asked x ms × (x.requests.asked ≤ used_lines ms)

pub record Carries (S : Setting) (v : Nodes) (ms : List Moment) (l : Links) : Type 0 where
  pub nodes : (k : ℕ) → NodeFits S k ms (v.node k)
  pub carried : CarriedSo S ms
  pub flying : Flying ms l

abbrev pub CarriesIn : Setting → Scene → Type 0
CarriesIn S s = Carries S s.nodes s.moments s.links

-- ---- a node that does nothing

up_stays : (S : Setting) (k : ℕ) (x : UpNode) (before after : List Moment) → (is_some x.presidency ≡ true → PresidentAt x k) → SameAsk S k before after → used_lines before ≤ used_lines after
    → NodeFits S k before (Up x) → NodeFits S k after (Up x)
up_stays S k x before after president f used h = (
  record { last_so = refl; queued = queued_stays S k before after _ x.requests f.asks h.0.queued; pending = pending_each S k before after x f president h.0.pending },
  then_le x.requests.asked (used_lines before) (used_lines after) h.1 used,
)

pub node_stays : (S : Setting) (c : Cluster) (M : Memberships) (k : ℕ) (disk : NodeRecord) (node : Node) (before after : List Moment) → NodeTied c M k disk node → SameAsk S k before after
    → used_lines before ≤ used_lines after → NodeFits S k before node → NodeFits S k after node
node_stays S c M k disk Down before after tied f used h = tt
node_stays S c M k disk (Up x) before after tied f used h = up_stays S k x before after (president_at M k x tied.1) f used h

-- a moment in which no node does anything
pub moment_carries : (S : Setting) (c : Cluster) (v : Nodes) (m : Moment) (ms : List Moment) (l more : Links) → Knows c v → ((k : ℕ) → SameAsk S k ms (m ∷ ms)) → CarriesSo S ms m → Flying (m ∷ ms) more
    → Carries S v ms l → Carries S v (m ∷ ms) more
moment_carries S c v m ms l more k same here flying h = record {
  nodes = λ j. node_stays S c k.machine j (v.disk j).kept (v.node j) ms (m ∷ ms) (k.stands j).tied (same j) (more_used ms) (h.nodes j);
  carried = (here, h.carried);
  flying = flying;
}

-- ---- a node that takes something

step_by : (S : Setting) (c : Cluster) (n now : ℕ) (ends : method.Outcome) (i : Input) (replies : List Reply) (node : Node) (disk : NodeRecord) (M : Memberships) (s : Scene) → Reads c S → n ≤ 32
    → All IsDevice c.attached → Holds (setting_of c) M → Known M (delivered_by i) → Stands c M n node disk → in_collect n s.moments ≡ collecting (delivered_by i)
    → AreGood n (given_all c n (site node disk) (doings c n now ends replies i node)) → IsSeated s.moments n node → IsSaid s.moments n i → CameSo i n s.moments → length (lines_of s.moments) < 2 ^ 63
    → NodeFits S n s.moments node → CarriedSo S s.moments
    → Stepped S n (after_all c n (site node disk) (doings c n now ends replies i node)).node (given_all c n (site node disk) (doings c n now ends replies i node)) s
step_by S c n now ends i replies Down disk M s reads low fits holds known stands at good seated said came few h carried = down_step S c n i replies disk s carried
step_by S c n now ends i replies (Up x) disk M s reads low fits holds known stands at good seated said came few h carried =
    up_step S c n now ends i replies x disk s reads fits said
    (record {
      machine = M;
      holds = holds;
      known = known;
      tied = stands.tied;
      may = step_may c M n now ends (Up x) disk i replies low fits holds stands.tied stands.joins;
      small = doings_small c n now ends replies i (Up x) disk;
      calm = doings_collected c n now ends replies i (Up x);
      at = at;
      good = good;
      seated = seated;
    })
    h.0 carried came (record { low = h.1; few = few })

pub step_leaves : (S : Setting) (c : Cluster) (v : Nodes) (n now : ℕ) (ends : method.Outcome) (i : Input) (s : Scene) → Reads c S → n ≤ 32 → All IsDevice c.attached → (k : Knows c v) → Known k.machine (delivered_by i)
    → in_collect n s.moments ≡ collecting (delivered_by i) → AreGood n (given_by c n now ends i v) → IsSeated s.moments n (v.node n) → IsSaid s.moments n i → CameSo i n s.moments
    → length (lines_of s.moments) < 2 ^ 63 → NodeFits S n s.moments (v.node n) → CarriedSo S s.moments
    → (let o : Outcome DiskState = stepped disk_rules c n now ends (v.node n) (v.disk n) i in Stepped S n o.after o.given s)
step_leaves S c v n now ends i s reads low fits k known at good seated said came few h carried =
    let o : Outcome DiskState = stepped disk_rules c n now ends (v.node n) (v.disk n) i in
    let cut : IsCut disk_rules c n now ends (v.node n) (v.disk n) i [] o = steps_are_cut disk_rules disks_keep_rules c n now ends (v.node n) (v.disk n) i in
    let x : Site = site (v.node n) (v.disk n).kept in
    let ds : List Doing = doings c n now ends cut.replies i (v.node n) in
    let g : Stepped S n (after_all c n x ds).node (given_all c n x ds) s =
    step_by S c n now ends i cut.replies (v.node n) (v.disk n).kept k.machine s reads low fits k.holds known (k.stands n) at (subst (AreGood n) (sym cut.comes.given) good) seated said came few h carried in
    subst (λ (z : Site). Stepped S n z.node o.given s) cut.comes.left (subst (λ os. Stepped S n (after_all c n x ds).node os s) cut.comes.given g)

so_fits : (S : Setting) (n last : ℕ) (node : Node) (ms : List Moment) → NodeSo S n last node ms → last ≤ used_lines ms → NodeFits S n ms node
so_fits S n last Down ms so low = tt
so_fits S n last (Up x) ms so low =
    (record { last_so = refl; queued = so.queued; pending = so.pending }, subst (λ k. k ≤ used_lines ms) (sym so.last_so) low)

put_all : (P : ℕ → Node → Type 0) (f : ℕ → Node) (n : ℕ) (x : Node) → P n x → ((k : ℕ) → k ≢ n → P k (f k)) → (k : ℕ) → P k (put f n x k)
put_all P f n x here others k = go (same_or_not k n)
  where
    go : (k ≡ n) ⊎ (k ≢ n) → P k (put f n x k)
    go (inl e) = subst (λ j. P j (put f n x j)) (sym e) (subst (P n) (sym (put_here f n x)) here)
    go (inr ne) = subst (P k) (sym (put_there f n x k ne)) (others k ne)

pub taking_carries : (S : Setting) (c : Cluster) (s : Scene) (n now : ℕ) (ends : method.Outcome) (i : Input) → Reads c S → n ≤ 32 → All IsDevice c.attached → (k : Knows c s.nodes) → Known k.machine (delivered_by i)
    → in_collect n s.moments ≡ collecting (delivered_by i) → AreGood n (given_by c n now ends i s.nodes) → IsSeated s.moments n (s.nodes.node n) → IsSaid s.moments n i → CameSo i n s.moments
    → length (lines_of s.moments) < 2 ^ 63 → CarriesIn S s → CarriesIn S (taking c n now ends i s)
taking_carries S c s n now ends i reads low fits k known at good seated said came few h =
    let v : Nodes = moved c s.nodes (Takes_in n now ends i) in
    let t : Scene = record s { nodes = v } in
    let os : List Output = given_by c n now ends i s.nodes in
    let after : Node = (stepped disk_rules c n now ends (s.nodes.node n) (s.nodes.disk n) i).after in
    let end : Scene = passing n os t in
    let g : Stepped S n after os t = step_leaves S c s.nodes n now ends i t reads low fits k known at good seated said came few (h.nodes n) h.carried in
    subst (λ w. Carries S w end.moments end.links) (sym (passing_nodes n os t)) (record {
      nodes = put_all (λ j node. NodeFits S j end.moments node) s.nodes.node n after (so_fits S n g.last after end.moments g.left.own g.low)
          (λ j ne. node_stays S c k.machine j (s.nodes.disk j).kept (s.nodes.node j) s.moments end.moments (k.stands j).tied (passing_ask S j n os t (g.left.apart j ne)) (passing_used n os t).used (h.nodes j));
      carried = g.left.carried;
      flying = passing_flying n os t good g.left.answers h.flying;
    })
