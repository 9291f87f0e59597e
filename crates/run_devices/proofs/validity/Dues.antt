-- The task whose command is due, by the machine of the whole cluster.
use Rattle.std.specs.Prelude.{ℕ, ◌≡◌, ◌<◌, ◌≤◌, Bool, true, false, List, [], ◌∷◌, Option, None, Some, find, if◌then◌else◌}
use Rattle.std.specs.List.{AllByRecursion}
use Rattle.std.specs.Option.{option_and_then, option_map}
use Rattle.std.proofs.Common.{refl, sym, ap, subst, ◌∙◌, arith}
use Rattle.cl_base.specs.Sets.{has}
use Rattle.cluster_machine.proofs.Whole.{InOrder}
use Rattle.cluster_machine.specs.Agreement.{SameNode}
use Rattle.cluster_machine.specs.Cluster.{Cluster as Whole}
use Rattle.cluster_ties.specs.Ties.{JoiningAt, SeizingAt, TaskAt, WorkAt}
use Rattle.cmm_attempt.proofs.Basics.{none_some, same_some}
use Rattle.cmm_member.specs.Records.{NodeRecord}
use Rattle.device_machine.proofs.Invariant.{NodeOk}
use Rattle.device_machine.specs.Attempt.{Attempt}
use Rattle.device_machine.specs.Initiator.{Initiator}
use Rattle.device_machine.specs.Phase.{Phase, rank}
use Rattle.device_queue.specs.Queue.{due_device, first_of, next_of}
use Rattle.device_queue.specs.Tasks.{command_in, is_queued}
use Rattle.device_queue.specs.declared.task.Task.{Task}
use Rattle.device_queue.specs.declared.task.Work.{Work}
use Rattle.device_queue.specs.declared.task.Work.TheVariants.{Seizing as Seizes, Joining as Joins}
use Rattle.device_ties.specs.Tasks.{JoinStepTied}
use Rattle.pgr_device.specs.declared.command.PrCommand.{PrCommand}
use Rattle.seize.specs.Joining as joining
use Rattle.seize.specs.Joining.{JoinState}
use Rattle.seize.specs.Seizing as seizing
use Rattle.seize.specs.Seizing.{SeizeState}
use Rattle.seize.specs.declared.step.JoinStep.{JoinStep}
use Rattle.seize.specs.declared.step.JoinStep.TheVariants as join
use Rattle.seize.specs.declared.step.SeizeStep.{SeizeStep}
use Rattle.seize.specs.declared.step.SeizeStep.TheVariants as step
use Rattle.node_model.specs.Seats.{installed_of, record_of, session_of, state_of}
use Rattle.node_model.specs.declared.cluster.Cluster.{Cluster}
use Rattle.node_model.specs.declared.node.Node.{Node}
use Rattle.node_model.specs.declared.node.Node.TheVariants.{Down, Up}
use Rattle.node_model.specs.declared.node.UpNode.{UpNode}
use Rattle.refinement.specs.node_widths.Widths.{NodeFits}
use Rattle.refinement.proofs.Changes.{Sees, sees}
use Rattle.refinement.specs.Doings.{site}
use Rattle.refinement.specs.Guards.{OfUp}
use Rattle.refinement.specs.Ties.{setting_of}
use Rattle.world_model.specs.Devices.{due_at}
use Rattle.run_history.proofs.AtSteps.{task_device}
use Rattle.run_history.specs.Happenings.{IsReadied}
use Rattle.run_history.specs.Sites.{SiteAt}
use Rattle.run_devices.proofs.validity.Tasks.{IsFirst, WorkFits}
use Rattle.run_devices.proofs.validity.Commands.{FirstIn}

-- ---- of the machine

-- what the machine has of the node at the device is what the node has
record Same (x : UpNode) (d : ℕ) (v : Initiator) : Type 0 where
  session : v.session ≡ session_of x
  installed : v.installed ≡ installed_of x
  valid : v.valid ≡ has (record_of x).valid d

same_at : (c : Cluster) (W : Whole) (n d : ℕ) (disk : NodeRecord) (x : UpNode) → InOrder (setting_of c) W → SiteAt c W n (site (Up x) disk) → Same x d ((W.device d).node n)
same_at c W n d disk x order at =
    let m : SameNode (W.memberships.node n) ((W.device d).node n) = (order.agrees d).node n in
    let sight : Sees W.memberships n disk (state_of x.seat) = sees c W.memberships n disk x.attempt x.seat at.tied.0 in
    record {
      session = m.session ∙ sight.session;
      installed = m.installed ∙ ap (λ r. r.installed) sight.saved;
      valid = (at.at.marks d).valid;
    }

high : (a b : ℕ) → a ≤ b → b ≡ 0 → 0 < a → ⊥
high a b l e p = omega (arith, l, e, p)

above : (p : Phase) (k : ℕ) → rank p ≡ k → 11 ≤ k → (11 ≤ rank p) × (0 < rank p)
above p k is low = (subst (λ z. 11 ≤ z) (sym is) low, subst (λ z. 0 < z) (sym is) (more k low))
  where
    more : (k : ℕ) → 11 ≤ k → 0 < k
    more k l = omega (arith, l)

-- a joining that is not over: its device is not valid, and its session is installed
joins_fit : (A : ℕ → Attempt) (cluster n d : ℕ) (x : UpNode) (v : Initiator) (j : JoinState) → NodeOk A n v → Same x d v → (11 ≤ rank v.phase) × (0 < rank v.phase) → v.session ≡ j.epoch
    → WorkFits x d (Joins j)
joins_fit A cluster n d x v j ok same high session = (
  sym same.valid ∙ ok.distrusted high.0,
  sym session ∙ same.session,
  sym same.session ∙ (sym (ok.joining high.0) ∙ same.installed),
  subst (λ q. 0 < q) same.session (ok.busy high.1),
)

join_fits : (c : Cluster) (W : Whole) (n d : ℕ) (x : UpNode) (k : PrCommand) (j : JoinState) (s : JoinStep) → InOrder (setting_of c) W → Same x d ((W.device d).node n)
    → joining.command_at j s ≡ Some k → JoiningAt c.id n (W.device d) j s → j.step ≡ s → WorkFits x d (Joins j)
join_fits c W n d x k j join.Register order same is at step =
    joins_fit (W.device d).attempt c.id n d x ((W.device d).node n) j ((order.device d).node n) same
    (above ((W.device d).node n).phase 11 (ap rank (subst (λ z. JoinStepTied z ((W.device d).node n)) step at.step)) (omega arith)) at.session
join_fits c W n d x k j join.ReadWord order same is at step =
    joins_fit (W.device d).attempt c.id n d x ((W.device d).node n) j ((order.device d).node n) same
    (above ((W.device d).node n).phase 12 (ap rank (subst (λ z. JoinStepTied z ((W.device d).node n)) step at.step)) (omega arith)) at.session
join_fits c W n d x k j (join.Ended r) order same is at step = absurd (none_some k is)

-- a seizing that is not over: its session is not installed
seize_fits : (c : Cluster) (W : Whole) (n d : ℕ) (x : UpNode) (k : PrCommand) (s : SeizeState) (p : SeizeStep) → Same x d ((W.device d).node n) → seizing.command_at s p ≡ Some k
    → SeizingAt c.id n (W.device d) s p → installed_of x < session_of x
seize_fits c W n d x k s p same is at = below (by_step p is at)
  where
    v : Initiator
    v = (W.device d).node n

    below : v.installed < v.session → installed_of x < session_of x
    below low = subst (λ q. installed_of x < q) same.session (subst (λ q. q < v.session) same.installed low)

    by_step : (p : SeizeStep) → seizing.command_at s p ≡ Some k → SeizingAt c.id n (W.device d) s p → v.installed < v.session
    by_step step.Check e a = a.1
    by_step step.Register e a = a.1
    by_step step.ReadWord e a = a.1
    by_step (step.Swap expected) e a = a.1
    by_step step.Reserve e a = a.1
    by_step (step.ReadKeys reading) e a = a.1
    by_step (step.Preempt victim reading) e a = a.1
    by_step (step.Confirm keys) e a = a.1
    by_step (step.Ended r) e a = absurd (none_some k e)

work_fits : (c : Cluster) (W : Whole) (n d : ℕ) (x : UpNode) (k : PrCommand) (w : Work) → InOrder (setting_of c) W → Same x d ((W.device d).node n) → command_in w ≡ Some k
    → WorkAt c.id n (W.device d) w → WorkFits x d w
work_fits c W n d x k (Seizes s) order same is at = seize_fits c W n d x k s s.step same is at
work_fits c W n d x k (Joins j) order same is at = join_fits c W n d x k j j.step order same is at refl

-- ---- of the queue

found_so : (P : Task → Type 0) (f : Task → Bool) (ts : List Task) (t : Task) → find f ts ≡ Some t → AllByRecursion P ts → P t
found_so P f [] t is k = absurd (none_some t is)
found_so P f (first ∷ ts) t is k = by_test (f first) is (λ e. found_so P f ts t e k.1)
  where
    by_test : (b : Bool) → (if b then Some first else find f ts) ≡ Some t → (find f ts ≡ Some t → P t) → P t
    by_test true e more = subst P (same_some first t e) k.0
    by_test false e more = more e

due_so : (o : Option ℕ) (q : Option PrCommand) (d : ℕ) (k : PrCommand)
    → option_and_then {U = ℕ × PrCommand} (λ e. option_and_then {U = ℕ × PrCommand} (λ (j : PrCommand). Some (e, j)) q) o ≡ Some (d, k) → (o ≡ Some d) × (q ≡ Some k)
due_so None q d k h = absurd (none_some (d, k) h)
due_so (Some e) None d k h = absurd (none_some (d, k) h)
due_so (Some e) (Some j) d k h =
    let same : (e, j) ≡ (d, k) = same_some (e, j) (d, k) h in
    (ap (λ (z : ℕ × PrCommand). Some z.0) same, ap (λ (z : ℕ × PrCommand). Some z.1) same)

pub first_in : (c : Cluster) (W : Whole) (n d : ℕ) (k : PrCommand) (disk : NodeRecord) (node : Node) → InOrder (setting_of c) W → SiteAt c W n (site node disk) → NodeFits c n node
    → OfUp IsReadied node → due_at (Some node) ≡ Some (d, k) → FirstIn d k node
first_in c W n d k disk Down order at fit readied due = readied
first_in c W n d k disk (Up x) order at fit readied due =
    let two : (due_device x.tasks ≡ Some d) × (next_of x.tasks ≡ Some k) = due_so (due_device x.tasks) (next_of x.tasks) d k due in
    by_task (first_of x.tasks) refl two.0 two.1
  where
    by_task : (o : Option Task) → first_of x.tasks ≡ o → option_map (λ (t : Task). t.device) o ≡ Some d → option_and_then (λ (t : Task). command_in t.work) o ≡ Some k → IsFirst x d k
    by_task None found device command = absurd (none_some d device)
    by_task (Some t) found device command =
        let here : t.device ≡ d = same_some t.device d device in
        record {
          task = t;
          found = found;
          device = here;
          command = command;
          number = subst (λ e. (1 ≤ e) × (e ≤ 16)) here (task_device c n is_queued x.tasks t fit.all_tasks found);
          fits = work_fits c W n d x k t.work order (same_at c W n d disk x order at) command
              (subst (λ e. WorkAt c.id n (W.device e) t.work) here (found_so (TaskAt c W n) is_queued x.tasks t found at.at.tasks));
          readied = readied;
        }
