-- A node saves that its key on a device is not validated, before it registers there.
use Rattle.std.specs.Prelude.{ℕ, ◌≡◌, ◌≢◌, ◌<◌, ◌⊎◌, Bool, false, Option, None, Some, if◌then◌else◌}
use Rattle.std.specs.Option.{option_and_then}
use Rattle.std.proofs.Common.{refl, sym, ap, subst, ◌∙◌, inl, inr}
use Rattle.cl_base.specs.Sets.{has, set_without}
use Rattle.cluster_machine.specs.Cluster.{Cluster as Whole}
use Rattle.cluster_machine.proofs.Whole.{InOrder}
use Rattle.cmm_attempt.proofs.Basics.{none_some, same_some}
use Rattle.cmm_member.specs.Nodes.{NodeState, with_valid}
use Rattle.device_machine.specs.Sharing.{Sharing}
use Rattle.device_queue.specs.declared.task.Task.{Task}
use Rattle.device_queue.specs.declared.task.Work.{Work}
use Rattle.device_queue.specs.declared.task.Work.TheVariants as work
use Rattle.device_queue.specs.Queue.{first_of}
use Rattle.device_queue.specs.Tasks.{is_queued, registers_first}
use Rattle.device_ties.specs.Devices.{DeviceTied}
use Rattle.device_ties.specs.Moves.{Moved}
use Rattle.device_ties.specs.Tasks as ties
use Rattle.device_ties.specs.Tasks.{AtDevice, SeizingTied}
use Rattle.device_ties.proofs.Others.{distrust_saved}
use Rattle.machine_base.specs.Put.{put}
use Rattle.machine_base.proofs.Puts.{put_here, put_there, same_or_not}
use Rattle.membership_machine.specs.Votes.{Setting}
use Rattle.node_model.specs.declared.cluster.Cluster.{Cluster}
use Rattle.node_model.specs.declared.node.UpNode.{UpNode}
use Rattle.node_model.specs.Devices.{distrusting}
use Rattle.node_model.specs.Seats.{record_of, state_of, with_state}
use Rattle.pgr_device.specs.Device as pgr
use Rattle.refinement.proofs.Worlds.{all_found}
use Rattle.seize.specs.Seizing.{SeizeState}
use Rattle.seize.specs.declared.step.SeizeStep.{SeizeStep}
use Rattle.seize.specs.declared.step.SeizeStep.TheVariants as seize
use Rattle.wire.specs.Spelling.{IsDevice, IsDevices}
use Rattle.cluster_ties.specs.Ties.{Devices, DevicesTied, SeizingAt, TaskAt, UpAt}
use Rattle.cluster_ties.specs.Moves.{DeviceGoes}
use Rattle.cluster_ties.specs.Laws.{DistrustsGo}
use Rattle.cluster_ties.proofs.Commands.{MarksMove, one_goes, same_below, seizing_at, state_with}
use Rattle.cluster_ties.proofs.First.{in_order}
use Rattle.cluster_ties.proofs.Marks.{less_here, less_there}
use Rattle.cluster_ties.proofs.Tasks.{due_seizure, due_tasks}

-- Nothing is done at the device.
same_devices : (c : Cluster) (V : Whole) (devices : Devices) (d : ℕ) → DevicesTied c (put devices d (devices d)) V → DevicesTied c devices V
same_devices c V devices d h e = subst (λ (p : pgr.Device). DeviceTied c.id p (V.device e).device) (same (same_or_not e d)) (h e)
  where
    same : (e ≡ d) ⊎ (e ≢ d) → put devices d (devices d) e ≡ devices e
    same (inl is) = subst (λ k. put devices d (devices d) k ≡ devices k) (sym is) (put_here devices d (devices d))
    same (inr ne) = put_there devices d (devices d) e ne

unchanged : (S : Setting) (c : Cluster) (W : Whole) (n d : ℕ) (devices : Devices) (y : UpNode) → DeviceGoes S c W n (put devices d (devices d)) y → DeviceGoes S c W n devices y
unchanged S c W n d devices y g =
    record { machine = g.machine; moves = g.moves; memberships = g.memberships; devices_so = same_devices c g.machine devices d g.devices_so; at = g.at }

-- the marks
less_marks : (x : UpNode) (d : ℕ) → IsDevices (record_of x).valid → IsDevice d → MarksMove x (distrusting x d) d false (has (state_of x.seat).joined d)
less_marks x d small is =
    let s : NodeState = with_valid (state_of x.seat) (set_without (record_of x).valid d) in
    let same : state_of (with_state x.seat s) ≡ s = state_with x.seat s in
    record {
      here_valid = ap (λ (z : NodeState). has z.saved.valid d) same ∙ less_here (record_of x).valid d small is;
      here_joined = ap (λ (z : NodeState). has z.joined d) same;
      valid = λ e ne. ap (λ (z : NodeState). has z.saved.valid e) same ∙ less_there (record_of x).valid d e small is ne;
      joined = λ e ne. ap (λ (z : NodeState). has z.joined e) same;
    }

seizing_distrusts : (S : Setting) (c : Cluster) (W : Whole) (n : ℕ) (x : UpNode) (devices : Devices) (d : ℕ) (t : SeizeState) → InOrder S W → IsDevice d → IsDevices (record_of x).valid
    → DevicesTied c devices W → UpAt c W n x → (let task : Task = record { device = d; work = work.Seizing t } in first_of x.tasks ≡ Some task) → t.step ≡ seize.Register
    → DeviceGoes S c W n devices (distrusting x d)
seizing_distrusts S c W n x devices d t i device small tied at found step =
    let task : Task = record { device = d; work = work.Seizing t } in
    let v : Bool = has (record_of x).valid d in
    let j : Bool = has (state_of x.seat).joined d in
    let whole : TaskAt c W n task = all_found (TaskAt c W n) is_queued x.tasks task at.tasks found in
    let before : SeizingTied c.id n (W.device d) t × (((W.device d).node n).installed < ((W.device d).node n).session) = subst (λ z. SeizingAt c.id n (W.device d) t z) step whole in
    let m : Moved c.id n (W.device d) (devices d) (λ u. AtDevice c.id n u false j (ties.Seizes t)) =
    distrust_saved c.id n (W.device d) v j t (devices d) (tied d) (record { valid = (at.marks d).valid; joined = (at.marks d).joined; task = before.0 }) step in
    unchanged S c W n d devices (distrusting x d)
    (one_goes S c W n d x devices i at tied (devices d) false j (λ u. AtDevice c.id n u false j (ties.Seizes t)) m (distrusting x d)
    (λ u r g. (
      record {
        all = λ V here changed.
            due_tasks c W V n x.tasks task found changed at.once
            (subst (λ (s : Sharing). SeizingAt c.id n s t t.step) (sym here)
            (seizing_at c.id n u t t.step refl r.task (same_below (u.node n).installed (u.node n).session _ _ g.installed g.session before.1))) at.tasks;
        once = at.once;
        none = λ e h. h;
        busy = inl (λ none. due_seizure x.tasks task found refl none);
      },
      record { valid = r.valid; joined = r.joined },
    ))
    refl (less_marks x d small device))

register_is : (step : SeizeStep) (device d : ℕ) (t : SeizeState) → (if registers_first (work.Seizing (record t { step = step })) then Some device else None) ≡ Some d → (step ≡ seize.Register) × (device ≡ d)
register_is seize.Register device d t h = (refl, same_some device d h)
register_is seize.Check device d t h = absurd (none_some d h)
register_is seize.ReadWord device d t h = absurd (none_some d h)
register_is (seize.Swap expected) device d t h = absurd (none_some d h)
register_is seize.Reserve device d t h = absurd (none_some d h)
register_is (seize.ReadKeys reading) device d t h = absurd (none_some d h)
register_is (seize.Preempt victim reading) device d t h = absurd (none_some d h)
register_is (seize.Confirm keys) device d t h = absurd (none_some d h)
register_is (seize.Ended r) device d t h = absurd (none_some d h)

pub distrusts_go : DistrustsGo
distrusts_go S c W n d x devices reached device small tied at plain valid = by_task (first_of x.tasks) refl
  where
    i : InOrder S W
    i = in_order S W reached

    by_work : (e : ℕ) (w : Work) → (let task : Task = record { device = e; work = w } in first_of x.tasks ≡ Some task) → (if registers_first w then Some e else None) ≡ Some d
        → DeviceGoes S c W n devices (distrusting x d)
    by_work e (work.Joining j) found is = absurd (none_some d is)
    by_work e (work.Seizing t) found is =
        let two : (t.step ≡ seize.Register) × (e ≡ d) = register_is t.step e d t is in
        seizing_distrusts S c W n x devices d t i device small tied at (subst (λ k. let task : Task = record { device = k; work = work.Seizing t } in first_of x.tasks ≡ Some task) two.1 found) two.0

    by_task : (o : Option Task) → first_of x.tasks ≡ o → DeviceGoes S c W n devices (distrusting x d)
    by_task None found = absurd (none_some d (sym (ap (λ o. option_and_then (λ (t : Task). if registers_first t.work then Some t.device else None) o) found) ∙ plain))
    by_task (Some t) found =
        by_work t.device t.work found (sym (ap (λ o. option_and_then (λ (z : Task). if registers_first z.work then Some z.device else None) o) found) ∙ plain)
