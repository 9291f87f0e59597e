-- What is carried stays with each step of a node, and with each moment in which no node does anything.
use Rattle.std.specs.Prelude.{ℕ, ◌≡◌, ◌≢◌, ◌≤◌, ◌<◌, ◌^◌, All, List, [], ◌∷◌, Option, length}
use Rattle.std.proofs.Common.{sym, subst}
use Rattle.cl_base.specs.declared.method.Outcome as method
use Rattle.cmm_attempt.specs.Calls.{IsDevice}
use Rattle.cmm_member.specs.Records.{NodeRecord}
use Rattle.membership_machine.specs.Invariant.{Holds}
use Rattle.membership_machine.specs.State.{Memberships}
use Rattle.run_commands.specs.carried.Steps.{CarriedSo}
use Rattle.history.specs.Member.{in_collect, member_of}
use Rattle.history.specs.Moment.{Moment, lines_of}
use Rattle.history.specs.Setting.{Setting}
use Rattle.node_model.specs.declared.cluster.Cluster.{Cluster}
use Rattle.node_model.specs.declared.input.Input.{Input}
use Rattle.node_model.specs.declared.node.Node.{Node}
use Rattle.node_model.specs.declared.node.Node.TheVariants.{Down, Up}
use Rattle.node_model.specs.declared.node.UpNode.{UpNode}
use Rattle.node_model.specs.declared.output.Output.{Output}
use Rattle.node_model.specs.Steps.{Outcome, stepped}
use Rattle.record_disk.specs.Disks.{DiskState}
use Rattle.refinement.specs.Courses.{Reply}
use Rattle.refinement.specs.Cuts.{course_at, doings}
use Rattle.refinement.specs.Doings.{Act, Change, Doing, Site, after_all, given_all, site}
use Rattle.refinement.specs.Runs.{Nodes, moved}
use Rattle.refinement.specs.Runs.Move.{Takes as Takes_in}
use Rattle.refinement.specs.Steps.{IsCut, disk_rules}
use Rattle.refinement.specs.Ties.{Known, NodeTied, setting_of}
use Rattle.refinement.specs.Whole.{Stands}
use Rattle.refinement.proofs.Disks.{disks_keep_rules}
use Rattle.refinement.proofs.Facts.{step_may}
use Rattle.refinement.proofs.Handlers.{delivered_by}
use Rattle.refinement.proofs.Replies.{steps_are_cut}
use Rattle.run_history.proofs.Idle.{passing_nodes}
use Rattle.run_history.proofs.LineSteps.{doings_small}
use Rattle.run_history.specs.Happenings.{IsSaid, given_by, taking}
use Rattle.run_history.specs.Scenes.{Scene, passing}
use Rattle.run_messages.proofs.Collecting.{doings_collected}
use Rattle.run_messages.proofs.Runs.{Knows}
use Rattle.run_messages.specs.Laws.{IsSeated, membership_at, membership_in}
use Rattle.run_messages.specs.Outputs.{AreGood}
use Rattle.run_messages.specs.Steps.{collecting}
use Rattle.run_commands.proofs.carried.Causes.{CameSo, president_at}
use Rattle.run_commands.proofs.carried.Kept.{NodeFits, step_leaves}
use Rattle.run_commands.proofs.carried.Lines.{AreApart}
use Rattle.run_commands.proofs.carried.Reports.{Stepped}
use Rattle.run_commands.specs.acknowledged.Steps.{NodeSo, ToldSo}
use Rattle.run_commands.proofs.acknowledged.Changing.{bound_of}
use Rattle.run_commands.proofs.acknowledged.Commands.{Reads}
use Rattle.run_commands.proofs.acknowledged.Kept.{CameAt, KeepsIn, put_both}
use Rattle.run_commands.proofs.acknowledged.Carrying.{CameFrom, Carries, EachGoes, IsOutside, NodeAt}
use Rattle.run_commands.specs.acknowledged.AnsweringGuards.{Due, GoesSo}
use Rattle.run_commands.specs.acknowledged.AnsweringGuards.Due.{Even}
use Rattle.run_commands.proofs.acknowledged.Settled.{AcksArePending}
use Rattle.run_commands.proofs.acknowledged.AnsweringSteps.{down_left, up_left}
use Rattle.run_commands.proofs.acknowledged.AnsweringWalk.{Left}

-- each course of a node goes so, with nothing due at first and at last
abbrev pub EachGoesSo : Cluster → Type 0
EachGoesSo c = (n now : ℕ) (ends : method.Outcome) (x : UpNode) (i : Input) → GoesSo c i n (membership_in x.seat) Even x (course_at c n now ends x i)

pub record Stays (P : ℕ → ℕ → Due → UpNode → ℕ → List Moment → Type 0) (Q : ℕ → ℕ → List Moment → Type 0) (W : List Moment → Type 0) (v : Nodes) (s : Scene) : Type 0 where
  pub nodes : (k : ℕ) → NodeAt P Q k (v.disk k).kept.promised (v.node k) s
  pub told : W s.moments

-- what is known of the step of a node
pub record Stepping (S : Setting) (c : Cluster) (n : ℕ) (i : Input) (node : Node) (disk : NodeRecord) (s : Scene) : Type 0 where
  pub said_so : IsSaid s.moments n i
  pub came : CameSo i n s.moments
  pub few : length (lines_of s.moments) < 2 ^ 63
  pub fits : NodeFits S n s.moments node
  pub carried : CarriedSo S s.moments
  pub own : NodeSo S c n s.moments disk.promised node
  pub told : ToldSo S c s.moments
  pub hand : CameAt S c n i s.moments node
  pub from : CameFrom i s.moments

module _ (S : Setting) (c : Cluster) (P : ℕ → ℕ → Due → UpNode → ℕ → List Moment → Type 0) (Q : ℕ → ℕ → List Moment → Type 0) (W : List Moment → Type 0) (N : ℕ → UpNode → Type 0) (A : Input → ℕ → Option ℕ → UpNode → Act → Type 0)
    (B : Input → ℕ → Option ℕ → UpNode → Change → Type 0) (R : Carries S c P Q W N A B) (each : EachGoes c N A B) (goes : EachGoesSo c) (reads : Reads c S) where
  -- ---- a moment in which no node does anything

  outside_node : (M : Memberships) (k : ℕ) (disk : NodeRecord) (node : Node) (m : Moment) (s t : Scene) → Holds (setting_of c) M → NodeTied c M k disk node → IsOutside m → t.moments ≡ m ∷ s.moments → s.links.next ≤ t.links.next
      → member_of k s.moments ≡ membership_at node → NodeAt P Q k disk.promised node s → NodeAt P Q k disk.promised node t
  outside_node M k disk Down m s t holds tied out after low seated h = subst (λ z. Q k disk.promised z) (sym after) (R.outside_down k disk.promised m s.moments out seated h)
  outside_node M k disk (Up x) m s t holds tied out after low seated h =
      subst (λ z. P k disk.promised Even x t.links.next z) (sym after)
      (R.outside k disk.promised s.links.next t.links.next x m s.moments out low seated (bound_of c M k x disk holds tied) (president_at M k x tied.1) h)

  pub moment_stays : (v : Nodes) (m : Moment) (s t : Scene) → Knows c v → IsOutside m → t.moments ≡ m ∷ s.moments → s.links.next ≤ t.links.next → ((k : ℕ) → member_of k s.moments ≡ membership_at (v.node k)) → Stays P Q W v s
      → Stays P Q W v t
  moment_stays v m s t k out after low seated h = record {
    nodes = λ j. outside_node k.machine j (v.disk j).kept (v.node j) m s t k.holds (k.stands j).tied out after low (seated j) (h.nodes j);
    told = subst W (sym after) (R.outside_told m s.moments out h.told);
  }

  -- ---- a node that takes something

  step_by : (n now : ℕ) (ends : method.Outcome) (i : Input) (replies : List Reply) (node : Node) (disk : NodeRecord) (M : Memberships) (s : Scene) → (1 ≤ n) × (n ≤ 32) → All IsDevice c.attached → Holds (setting_of c) M
      → Known M (delivered_by i) → Stands c M n node disk → in_collect n s.moments ≡ collecting (delivered_by i) → AreGood n (given_all c n (site node disk) (doings c n now ends replies i node)) → IsSeated s.moments n node
      → Stepping S c n i node disk s → AcksArePending (passing n (given_all c n (site node disk) (doings c n now ends replies i node)) s).moments → NodeAt P Q n disk.promised node s → W s.moments
      → Left P Q W n (after_all c n (site node disk) (doings c n now ends replies i node)).disk.promised (after_all c n (site node disk) (doings c n now ends replies i node)).node
      (given_all c n (site node disk) (doings c n now ends replies i node)) s
  step_by n now ends i replies Down disk M s range fits holds known stands at good seated k acks inside told = down_left S c P Q W N A B R each reads n i replies disk s inside told
  step_by n now ends i replies (Up x) disk M s range fits holds known stands at good seated k acks inside told =
      up_left S c P Q W N A B R each reads n now ends i replies x disk s range fits k.said_so
      (record {
        machine = M;
        holds = holds;
        known = known;
        tied = stands.tied;
        may = step_may c M n now ends (Up x) disk i replies range.1 fits holds stands.tied stands.joins;
        small = doings_small c n now ends replies i (Up x) disk;
        calm = doings_collected c n now ends replies i (Up x);
        at = at;
        good = good;
        seated = seated;
      })
      k.fits.0 k.carried k.came (record { low = k.fits.1; few = k.few }) (goes n now ends x i) (record { up = k.own; told = k.told; came = k.hand }) k.from acks inside told

  step_left : (v : Nodes) (n now : ℕ) (ends : method.Outcome) (i : Input) (s : Scene) → (1 ≤ n) × (n ≤ 32) → All IsDevice c.attached → (k : Knows c v) → Known k.machine (delivered_by i) → in_collect n s.moments ≡ collecting (delivered_by i)
      → AreGood n (given_by c n now ends i v) → IsSeated s.moments n (v.node n) → Stepping S c n i (v.node n) (v.disk n).kept s → AcksArePending (passing n (given_by c n now ends i v) s).moments
      → NodeAt P Q n (v.disk n).kept.promised (v.node n) s → W s.moments
      → (let o : Outcome DiskState = stepped disk_rules c n now ends (v.node n) (v.disk n) i in Left P Q W n o.disk.kept.promised o.after o.given s)
  step_left v n now ends i s range fits k known at good seated step acks inside told =
      let o : Outcome DiskState = stepped disk_rules c n now ends (v.node n) (v.disk n) i in
      let cut : IsCut disk_rules c n now ends (v.node n) (v.disk n) i [] o = steps_are_cut disk_rules disks_keep_rules c n now ends (v.node n) (v.disk n) i in
      let x : Site = site (v.node n) (v.disk n).kept in
      let ds : List Doing = doings c n now ends cut.replies i (v.node n) in
      let g : Left P Q W n (after_all c n x ds).disk.promised (after_all c n x ds).node (given_all c n x ds) s =
      step_by n now ends i cut.replies (v.node n) (v.disk n).kept k.machine s range fits k.holds known (k.stands n) at (subst (AreGood n) (sym cut.comes.given) good) seated step
      (subst (λ (os : List Output). AcksArePending (passing n os s).moments) (sym cut.comes.given) acks) inside told in
      subst (λ (z : Site). Left P Q W n z.disk.promised z.node o.given s) cut.comes.left (subst (λ os. Left P Q W n (after_all c n x ds).disk.promised (after_all c n x ds).node os s) cut.comes.given g)

  -- a node that another's lines leave as it is
  other_node : (M : Memberships) (k n : ℕ) (disk : NodeRecord) (node : Node) (os : List Output) (s : Scene) → NodeTied c M k disk node → k ≢ n → AreApart k os → AreGood n os → NodeAt P Q k disk.promised node s
      → NodeAt P Q k disk.promised node (passing n os s)
  other_node M k n disk Down os s tied ne apart good h = R.others_down k n disk.promised os s ne apart good h
  other_node M k n disk (Up x) os s tied ne apart good h = R.others k n disk.promised x os s ne apart good (president_at M k x tied.1) h

  pub taking_stays : (s : Scene) (n now : ℕ) (ends : method.Outcome) (i : Input) → (1 ≤ n) × (n ≤ 32) → All IsDevice c.attached → (k : Knows c s.nodes) → Known k.machine (delivered_by i) → in_collect n s.moments ≡ collecting (delivered_by i)
      → AreGood n (given_by c n now ends i s.nodes) → IsSeated s.moments n (s.nodes.node n) → IsSaid s.moments n i → CameSo i n s.moments → length (lines_of s.moments) < 2 ^ 63 → NodeFits S n s.moments (s.nodes.node n)
      → CarriedSo S s.moments → CameAt S c n i s.moments (s.nodes.node n) → KeepsIn S c s → CameFrom i s.moments → AcksArePending (taking c n now ends i s).moments → Stays P Q W s.nodes s
      → Stays P Q W (taking c n now ends i s).nodes (taking c n now ends i s)
  taking_stays s n now ends i range fits k known at good seated said came few fit carried hand keeps from acks h =
      let v : Nodes = moved c s.nodes (Takes_in n now ends i) in
      let t : Scene = record s { nodes = v } in
      let o : Outcome DiskState = stepped disk_rules c n now ends (s.nodes.node n) (s.nodes.disk n) i in
      let end : Scene = passing n o.given t in
      let g : Left P Q W n o.disk.kept.promised o.after o.given t =
      step_left s.nodes n now ends i t range fits k known at good seated
      (record { said_so = said; came = came; few = few; fits = fit; carried = carried; own = keeps.nodes n; told = keeps.told; hand = hand; from = from }) acks (h.nodes n) h.told in
      let others : Stepped S n o.after o.given t =
      step_leaves S c s.nodes n now ends i t (record { answers = reads.answers; requests = reads.requests }) range.1 fits k known at good seated said came few fit carried in
      subst (λ w. Stays P Q W w end) (sym (passing_nodes n o.given t)) (record {
        nodes = put_both (λ j d node. NodeAt P Q j d.kept.promised node end) s.nodes.node s.nodes.disk n o.after o.disk g.own
            (λ j ne. other_node k.machine j n (s.nodes.disk j).kept (s.nodes.node j) o.given t (k.stands j).tied ne (others.left.apart j ne) good (h.nodes j));
        told = g.told;
      })
