-- In a session that is installed no seizing of the node is queued, by the machine of the whole cluster.
use Rattle.std.specs.Prelude.{ℕ, ◌≡◌, ◌<◌, not, Bool, true, false, List, [], ◌∷◌, filter, is_some, if◌then◌else◌}
use Rattle.std.specs.List.{AllByRecursion}
use Rattle.std.proofs.Common.{refl, sym, ap, ◌∙◌, arith}
use Rattle.cluster_machine.proofs.Whole.{InOrder}
use Rattle.cluster_machine.specs.Agreement.{SameNode}
use Rattle.cluster_machine.specs.Cluster.{Cluster as Whole}
use Rattle.cluster_ties.specs.Ties.{SeizingAt, TaskAt, WorkAt}
use Rattle.cmm_member.specs.Records.{NodeRecord}
use Rattle.device_machine.specs.Initiator.{Initiator}
use Rattle.device_queue.specs.Tasks.{is_joining, is_queued}
use Rattle.device_queue.specs.declared.task.Task.{Task}
use Rattle.device_queue.specs.declared.task.Work.{Work}
use Rattle.device_queue.specs.declared.task.Work.TheVariants.{Seizing, Joining}
use Rattle.seize.specs.Seizing as seizing
use Rattle.seize.specs.Seizing.{SeizeState}
use Rattle.seize.specs.declared.step.SeizeStep.{SeizeStep}
use Rattle.seize.specs.declared.step.SeizeStep.TheVariants as step
use Rattle.node_model.specs.Seats.{installed_of, session_of, state_of}
use Rattle.node_model.specs.declared.cluster.Cluster.{Cluster}
use Rattle.node_model.specs.declared.node.Node.TheVariants.{Up}
use Rattle.node_model.specs.declared.node.UpNode.{UpNode}
use Rattle.refinement.proofs.Changes.{Sees, sees}
use Rattle.refinement.specs.Doings.{site}
use Rattle.refinement.specs.Ties.{setting_of}
use Rattle.run_history.specs.Sites.{SiteAt}
use Rattle.run_seizings.proofs.Progress.{if_not, if_so, no_truth}
use Rattle.run_devices.specs.queues.Kept.{joins_in}

-- what the machine has of the node at a device
record AtIt (x : UpNode) (v : Initiator) : Type 0 where
  session : v.session ≡ session_of x
  installed : v.installed ≡ installed_of x

at_it : (c : Cluster) (W : Whole) (n d : ℕ) (disk : NodeRecord) (x : UpNode) → InOrder (setting_of c) W → SiteAt c W n (site (Up x) disk) → AtIt x ((W.device d).node n)
at_it c W n d disk x order at =
    let m : SameNode (W.memberships.node n) ((W.device d).node n) = (order.agrees d).node n in
    let sight : Sees W.memberships n disk (state_of x.seat) = sees c W.memberships n disk x.attempt x.seat at.tied.0 in
    record { session = m.session ∙ sight.session; installed = m.installed ∙ ap (λ r. r.installed) sight.saved }

not_below : (a b : ℕ) → a < b → a ≡ b → ⊥
not_below a b low is = grind arith

-- a seizing that is not over: its session is not installed
seizing_over : (c : Cluster) (W : Whole) (n d : ℕ) (x : UpNode) (s : SeizeState) (p : SeizeStep) → AtIt x ((W.device d).node n) → installed_of x ≡ session_of x
    → SeizingAt c.id n (W.device d) s p → is_some (seizing.result_at p) ≡ true
seizing_over c W n d x s p at same k = by_step p k
  where
    v : Initiator
    v = (W.device d).node n

    none : (b : Bool) → v.installed < v.session → b ≡ true
    none b low = absurd (not_below v.installed v.session low (at.installed ∙ (same ∙ sym at.session)))

    by_step : (p : SeizeStep) → SeizingAt c.id n (W.device d) s p → is_some (seizing.result_at p) ≡ true
    by_step step.Check a = none false a.1
    by_step step.Register a = none false a.1
    by_step step.ReadWord a = none false a.1
    by_step (step.Swap expected) a = none false a.1
    by_step step.Reserve a = none false a.1
    by_step (step.ReadKeys reading) a = none false a.1
    by_step (step.Preempt victim reading) a = none false a.1
    by_step (step.Confirm keys) a = none false a.1
    by_step (step.Ended r) a = refl

work_over : (c : Cluster) (W : Whole) (n d : ℕ) (x : UpNode) (w : Work) → AtIt x ((W.device d).node n) → installed_of x ≡ session_of x → is_joining w ≡ false
    → WorkAt c.id n (W.device d) w → is_queued (record { device = d; work = w }) ≡ false
work_over c W n d x (Seizing s) at same none k = ap not (seizing_over c W n d x s s.step at same k)
work_over c W n d x (Joining j) at same none k = absurd (no_truth (sym none))

-- what is queued is a joining
joins_queued : (c : Cluster) (W : Whole) (n : ℕ) (x : UpNode) (ts : List Task) → ((d : ℕ) → AtIt x ((W.device d).node n)) → installed_of x ≡ session_of x
    → AllByRecursion (TaskAt c W n) ts → filter is_queued ts ≡ filter is_queued (joins_in ts)
joins_queued c W n x [] at same k = refl
joins_queued c W n x (t ∷ ts) at same k = by_kind (is_joining t.work) refl (joins_queued c W n x ts at same k.1)
  where
    by_kind : (j : Bool) → is_joining t.work ≡ j → filter is_queued ts ≡ filter is_queued (joins_in ts) → filter is_queued (t ∷ ts) ≡ filter is_queued (joins_in (t ∷ ts))
    by_kind true is rest =
        ap (λ z. if is_queued t then t ∷ z else z) rest ∙ sym (ap (λ z. filter is_queued z) (if_so (is_joining t.work) (t ∷ joins_in ts) (joins_in ts) is))
    by_kind false is rest =
        if_not (is_queued t) (t ∷ filter is_queued ts) (filter is_queued ts) (work_over c W n t.device x t.work (at t.device) same is k.0)
        ∙ (rest ∙ sym (ap (λ z. filter is_queued z) (if_not (is_joining t.work) (t ∷ joins_in ts) (joins_in ts) is)))

pub only_joins : (c : Cluster) (W : Whole) (n : ℕ) (disk : NodeRecord) (x : UpNode) → InOrder (setting_of c) W → SiteAt c W n (site (Up x) disk) → installed_of x ≡ session_of x
    → filter is_queued x.tasks ≡ filter is_queued (joins_in x.tasks)
only_joins c W n disk x order at same = joins_queued c W n x x.tasks (λ d. at_it c W n d disk x order at) same at.at.tasks
