-- A node whose device queue begins to seize a device without its votes is in the session of an attempt that has all Promises.
use Rattle.std.specs.Prelude.{ℕ, ◌≡◌, Bool, true, false, List, [], ◌∷◌, Option, None, Some, IfSome, if◌then◌else◌}
use Rattle.std.specs.List.{AllByRecursion, list_any}
use Rattle.std.specs.Option.{option_and_then}
use Rattle.std.proofs.Common.{refl, sym, subst, ◌∙◌}
use Rattle.attempt_laws.specs.Asking.{HasAttempt, HasIn, IsFresh}
use Rattle.cl_base.specs.declared.header.Header.{Header}
use Rattle.cluster_machine.specs.Cluster.{Cluster as Whole}
use Rattle.cluster_ties.specs.Ties.{AttemptAt, NodeAt, SeizingAt, TaskAt, WorkAt}
use Rattle.cmm_attempt.proofs.Basics.{none_some, same_some}
use Rattle.cmm_member.specs.Records.{NodeRecord}
use Rattle.device_queue.specs.Queue.{begins_plainly, first_of}
use Rattle.device_queue.specs.Tasks.{is_queued, is_register, registers_first}
use Rattle.device_queue.specs.declared.task.Task.{Task}
use Rattle.device_queue.specs.declared.task.Work.{Work}
use Rattle.device_queue.specs.declared.task.Work.TheVariants.{Joining as Joins, Seizing as Seizes}
use Rattle.history.specs.Moment.{Moment}
use Rattle.history.specs.Seizing.{is_attempt}
use Rattle.history.specs.Setting.{coordinator}
use Rattle.node_model.specs.Seats.{session_of}
use Rattle.node_model.specs.declared.cluster.Cluster.{Cluster}
use Rattle.node_model.specs.declared.node.Node.{Node}
use Rattle.node_model.specs.declared.node.Node.TheVariants.{Down, Up}
use Rattle.node_model.specs.declared.node.UpNode.{UpNode}
use Rattle.run_history.proofs.Lists.{found}
use Rattle.run_history.specs.Scenes.{Scene}
use Rattle.run_history.specs.Wholes.{IsWhole}
use Rattle.run_seizings.proofs.Progress.{no_truth}
use Rattle.seize.specs.declared.step.SeizeStep.{SeizeStep}
use Rattle.seize.specs.declared.step.SeizeStep.TheVariants as step
use Rattle.world_model.specs.First.{first_cluster}
use Rattle.run_outcomes.proofs.results.Tasks.{rest_shown}
use Rattle.run_outcomes.specs.results.Shown.{CollectsNot, NodeShown, TasksShown, WorkShown, collected_in}

-- where the machine has all Promises of it, no node collects for it
collects_not : (c : Cluster) (W : Whole) (n q d : ℕ) (disk : NodeRecord) (node : Node) → ((W.device d).attempt q).collected ≡ true → NodeAt c W n disk node → CollectsNot q node
collects_not c W n q d disk Down all at = tt
collects_not c W n q d disk (Up y) all at = λ a is epoch phase.
    let has : HasAttempt (W.device d) a.plan a.promises a.devices d a.phase = subst (AttemptAt W) is at.attempt d in
    let fresh : IsFresh ((W.device d).attempt a.plan.epoch) = (subst (HasIn (W.device d) a.plan a.promises a.devices d) phase has.has).0 in
    no_truth (sym fresh.collected ∙ subst (λ j. ((W.device d).attempt j).collected ≡ true) (sym epoch) all)

-- the task whose command is due is as far as its lines are
first_work : (h : Header) (ms : List Moment) (n q : ℕ) (ts : List Task) (t : Task) → first_of ts ≡ Some t → TasksShown h ms n q ts → WorkShown h ms n q t.device t.work
first_work h ms n q [] t is k = absurd (none_some t is)
first_work h ms n q (z ∷ ts) t is k = by_test (is_queued z) is (λ there. first_work h ms n q ts t there (rest_shown h ms n q (is_queued z) ts k.1))
  where
    by_test : (b : Bool) → (if b then Some z else first_of ts) ≡ Some t → (first_of ts ≡ Some t → WorkShown h ms n q t.device t.work) → WorkShown h ms n q t.device t.work
    by_test true here next = subst (λ (y : Task). WorkShown h ms n q y.device y.work) (same_some z t here) k.0
    by_test false there next = next there

-- a seizing that registers first
register_step : (p : SeizeStep) → is_register p ≡ true → p ≡ step.Register
register_step step.Register is = refl
register_step step.Check is = absurd (no_truth is)
register_step step.ReadWord is = absurd (no_truth is)
register_step (step.Swap expected) is = absurd (no_truth is)
register_step step.Reserve is = absurd (no_truth is)
register_step (step.ReadKeys reading) is = absurd (no_truth is)
register_step (step.Preempt victim reading) is = absurd (no_truth is)
register_step (step.Confirm keys) is = absurd (no_truth is)
register_step (step.Ended r) is = absurd (no_truth is)

-- what is found there: its attempt, which has all Promises, and its line
record Registers (c : Cluster) (W : Whole) (ms : List Moment) (q : ℕ) : Type 0 where
  device : ℕ
  all : ((W.device device).attempt q).collected ≡ true
  begun : list_any (is_attempt q) ms ≡ true

registers : (h : Header) (c : Cluster) (W : Whole) (ms : List Moment) (n q d : ℕ) (ts : List Task) → begins_plainly ts ≡ Some d → AllByRecursion (TaskAt c W n) ts → TasksShown h ms n q ts → Registers c W ms q
registers h c W ms n q d ts is tied k = by_first (first_of ts) refl is (found (TaskAt c W n) is_queued ts tied)
  where
    by_work : (t : Task) (w : Work) → (if registers_first w then Some t.device else None) ≡ Some d → WorkShown h ms n q t.device w → WorkAt c.id n (W.device t.device) w → Registers c W ms q
    by_work t (Joins j) some shown at = absurd (none_some d some)
    by_work t (Seizes s) some shown at = by_test (is_register s.step) refl some
      where
        by_test : (b : Bool) → is_register s.step ≡ b → (if b then Some t.device else None) ≡ Some d → Registers c W ms q
        by_test false off none = absurd (none_some d none)
        by_test true on some = record {
          device = t.device;
          all = subst (λ j. ((W.device t.device).attempt j).collected ≡ true) shown.0.epoch (subst (SeizingAt c.id n (W.device t.device) s) (register_step s.step on) at).0.collected;
          begun = shown.0.of.0;
        }

    by_first : (o : Option Task) → first_of ts ≡ o → option_and_then (λ (t : Task). if registers_first t.work then Some t.device else None) o ≡ Some d → IfSome o (TaskAt c W n) → Registers c W ms q
    by_first None first none at = absurd (none_some d none)
    by_first (Some t) first some at = by_work t t.work some (first_work h ms n q ts t first k) at

pub plainly_collected : (h : Header) (s : Scene) (n d : ℕ) (x : UpNode) → (z : IsWhole (first_cluster h) s) → s.nodes.node n ≡ Up x → begins_plainly x.tasks ≡ Some d
    → NodeShown h (collected_in s) s.moments n (Up x) → collected_in s (session_of x)
plainly_collected h s n d x z at begins k =
    let c : Cluster = first_cluster h in
    let here : NodeAt c z.machine n (s.nodes.disk n).kept (Up x) = subst (NodeAt c z.machine n (s.nodes.disk n).kept) at (z.sites n).at in
    let r : Registers c z.machine s.moments (session_of x) = registers h c z.machine s.moments n (session_of x) d x.tasks begins here.tasks k.tasks in
    let j : ℕ = coordinator (session_of x) in
    (r.begun, collects_not c z.machine j (session_of x) r.device (s.nodes.disk j).kept (s.nodes.node j) r.all (z.sites j).at)
