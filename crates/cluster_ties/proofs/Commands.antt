-- The command that is due at a node is steps of the whole, and so is the save before it.
use Rattle.std.specs.Prelude.{ℕ, ◌≡◌, ◌≢◌, ◌<◌, ◌≤◌, ◌⊎◌, ◌==◌, ◌||◌, Bool, true, false, Option, None, Some, if◌then◌else◌}
use Rattle.std.specs.Option.{option_and_then, option_map}
use Rattle.std.proofs.Common.{refl, sym, ap, subst, ◌∙◌, inl, inr, arith}
use Rattle.std.specs.List.{AllByRecursion}
use Rattle.cl_base.specs.Seizings.{SeizeResult}
use Rattle.cl_base.specs.Sets.{has, set_with}
use Rattle.cl_base.proofs.SetLemmas.{has_with, or_bit_value}
use Rattle.cluster_machine.specs.Cluster.{Cluster as Whole, all_after}
use Rattle.cluster_machine.proofs.Whole.{InOrder}
use Rattle.cmm_attempt.specs.Attempts.{AttemptState}
use Rattle.cmm_attempt.proofs.Basics.{none_some, same_some}
use Rattle.device_machine.proofs.Invariant.{Inv}
use Rattle.device_machine.specs.Phase.{rank}
use Rattle.device_machine.specs.Sharing.{Sharing}
use Rattle.device_queue.specs.declared.progress.Progress.{Progress}
use Rattle.device_queue.specs.declared.progress.Progress.TheVariants as progress
use Rattle.device_queue.specs.declared.task.Task.{Task}
use Rattle.device_queue.specs.declared.task.Work.{Work}
use Rattle.device_queue.specs.declared.task.Work.TheVariants as work
use Rattle.device_queue.specs.Queue.{after_answer, first_of, progress_after, progress_by, seizure_of}
use Rattle.device_queue.specs.Tasks.{command_in, is_queued, is_seizing, joining_progress, registers_first, seizing_progress, work_answered}
use Rattle.device_ties.specs.Commands.{Completion, executed, learned}
use Rattle.device_ties.specs.Devices.{DeviceTied}
use Rattle.device_ties.specs.Moves.{Moved}
use Rattle.device_ties.specs.Tasks as ties
use Rattle.device_ties.specs.Tasks.{AtDevice, IsSaved, JoiningTied, SeizingTied, mark_after}
use Rattle.device_ties.proofs.Joinings.{carried as join_commands}
use Rattle.device_ties.proofs.Others.{seize_commands}
use Rattle.device_ties.proofs.Ties.{results_true}
use Rattle.machine_base.specs.Put.{put}
use Rattle.machine_base.proofs.Puts.{put_here, put_there, same_or_not}
use Rattle.membership_machine.specs.Votes.{Setting}
use Rattle.node_model.specs.declared.cluster.Cluster.{Cluster}
use Rattle.node_model.specs.declared.node.UpNode.{UpNode}
use Rattle.node_model.specs.declared.seat.Seat.{Seat}
use Rattle.node_model.specs.declared.seat.Seat.TheVariants.{Forming, Member}
use Rattle.node_model.specs.Seats.{record_of, state_of, with_state}
use Rattle.pgr_device.specs.Device as pgr
use Rattle.pgr_device.specs.declared.command.PrCommand.{PrCommand}
use Rattle.cmm_member.specs.Nodes.{NodeState, with_joined}
use Rattle.refinement.specs.Doings.{answered_so}
use Rattle.refinement.proofs.Worlds.{all_found}
use Rattle.seize.specs.Answers.{Answer}
use Rattle.seize.specs.Joining as joining
use Rattle.seize.specs.Joining.{JoinState}
use Rattle.seize.specs.Seizing as seizing
use Rattle.seize.specs.Seizing.{SeizeState}
use Rattle.seize.specs.declared.kind.JoinResult.TheVariants as joined
use Rattle.seize.specs.declared.step.JoinStep.{JoinStep}
use Rattle.seize.specs.declared.step.JoinStep.TheVariants as join
use Rattle.seize.specs.declared.step.SeizeStep.{SeizeStep}
use Rattle.seize.specs.declared.step.SeizeStep.TheVariants as seize
use Rattle.wire.specs.Spelling.{IsDevice, IsNode}
use Rattle.cluster_ties.specs.Ties.{AttemptAt, Devices, DevicesTied, IsIdle, JoiningAt, MarksTied, QueuedOnce, SeizingAt, TaskAt, UpAt, WorkAt}
use Rattle.cluster_ties.specs.Moves.{DeviceGoes}
use Rattle.cluster_ties.specs.Laws.{CommandsGo, IsReadied, taken_by}
use Rattle.cluster_ties.proofs.First.{in_order}
use Rattle.cluster_ties.proofs.Moves.{AtOne, at_one}
use Rattle.cluster_ties.proofs.Tasks.{Changed, GoesOn, due_seizure, taken_none, taken_once, taken_tasks, tasks_go_on}

-- What the machine has of a task for which a command is due.

seizing_under_way : (cluster n : ℕ) (s : Sharing) (t : SeizeState) (step : SeizeStep) (k : PrCommand) → seizing.command_at t step ≡ Some k → SeizingAt cluster n s t step
    → SeizingTied cluster n s t × ((s.node n).installed < (s.node n).session)
seizing_under_way cluster n s t (seize.Ended r) k due h = absurd (none_some k due)
seizing_under_way cluster n s t seize.Check k due h = h
seizing_under_way cluster n s t seize.Register k due h = h
seizing_under_way cluster n s t seize.ReadWord k due h = h
seizing_under_way cluster n s t (seize.Swap expected) k due h = h
seizing_under_way cluster n s t seize.Reserve k due h = h
seizing_under_way cluster n s t (seize.ReadKeys reading) k due h = h
seizing_under_way cluster n s t (seize.Preempt victim reading) k due h = h
seizing_under_way cluster n s t (seize.Confirm keys) k due h = h

joining_under_way : (cluster n : ℕ) (s : Sharing) (j : JoinState) (step : JoinStep) (k : PrCommand) → joining.command_at j step ≡ Some k → JoiningAt cluster n s j step → JoiningTied cluster n s j
joining_under_way cluster n s j (join.Ended r) k due h = absurd (none_some k due)
joining_under_way cluster n s j join.Register k due h = h
joining_under_way cluster n s j join.ReadWord k due h = h

-- .. and back
pub seizing_at : (cluster n : ℕ) (s : Sharing) (t : SeizeState) (step : SeizeStep) → t.step ≡ step → SeizingTied cluster n s t → (s.node n).installed < (s.node n).session → SeizingAt cluster n s t step
seizing_at cluster n s t (seize.Ended r) is h low = (results_true cluster n s t r h (ap seizing.result_at is), h.session)
seizing_at cluster n s t seize.Check is h low = (h, low)
seizing_at cluster n s t seize.Register is h low = (h, low)
seizing_at cluster n s t seize.ReadWord is h low = (h, low)
seizing_at cluster n s t (seize.Swap expected) is h low = (h, low)
seizing_at cluster n s t seize.Reserve is h low = (h, low)
seizing_at cluster n s t (seize.ReadKeys reading) is h low = (h, low)
seizing_at cluster n s t (seize.Preempt victim reading) is h low = (h, low)
seizing_at cluster n s t (seize.Confirm keys) is h low = (h, low)

joining_at : (cluster n : ℕ) (s : Sharing) (j : JoinState) (step : JoinStep) → JoiningTied cluster n s j → JoiningAt cluster n s j step
joining_at cluster n s j (join.Ended r) h = tt
joining_at cluster n s j join.Register h = h
joining_at cluster n s j join.ReadWord h = h

-- The first command of a plain seizing finds its key not validated.

abbrev plainly : Option Task → Option ℕ
plainly o = option_and_then (λ (t : Task). if registers_first t.work then Some t.device else None) o

saved_at : (t : SeizeState) (step : SeizeStep) (d : ℕ) (validated : Bool) → ((if registers_first (work.Seizing (record t { step = step })) then Some d else None) ≡ Some d → validated ≡ false)
    → IsSaved step validated
saved_at t seize.Register d validated h = h refl
saved_at t seize.Check d validated h = tt
saved_at t seize.ReadWord d validated h = tt
saved_at t (seize.Swap expected) d validated h = tt
saved_at t seize.Reserve d validated h = tt
saved_at t (seize.ReadKeys reading) d validated h = tt
saved_at t (seize.Preempt victim reading) d validated h = tt
saved_at t (seize.Confirm keys) d validated h = tt
saved_at t (seize.Ended r) d validated h = tt

-- The marks of a node that has joined one device more, or trusts one less.

number_test : (a b : ℕ) → a ≢ b → (a == b) ≡ false
number_test a b ne = grind arith

itself : (a : ℕ) → (a == a) ≡ true
itself a = grind arith

has_more : (set d e : ℕ) → 1 ≤ d → d ≤ 32 → has (set_with set d) e ≡ ((e == d) || has set e)
has_more set d e low high = ap (λ s. has s e) (sym (or_bit_value set d high)) ∙ has_with set d low high e

pub has_new : (set d : ℕ) → 1 ≤ d → d ≤ 32 → has (set_with set d) d ≡ true
has_new set d low high = has_more set d d low high ∙ ap (λ b. b || has set d) (itself d)

pub has_same : (set d e : ℕ) → 1 ≤ d → d ≤ 32 → e ≢ d → has (set_with set d) e ≡ has set e
has_same set d e low high ne = has_more set d e low high ∙ ap (λ b. b || has set e) (number_test e d ne)

-- Of a node with its state changed.
pub state_with : (seat : Seat) (s : NodeState) → state_of (with_state seat s) ≡ s
state_with (Forming t) s = refl
state_with (Member t) s = refl

-- The devices, when one of them is changed.
pub put_tied : (c : Cluster) (W V : Whole) (devices : Devices) (d : ℕ) (p : pgr.Device) (t : Sharing) → V.device d ≡ t → ((k : ℕ) → k ≢ d → V.device k ≡ W.device k) → DeviceTied c.id p t.device
    → DevicesTied c devices W → DevicesTied c (put devices d p) V
put_tied c W V devices d p t here there new old k = go (same_or_not k d)
  where
    go : (k ≡ d) ⊎ (k ≢ d) → DeviceTied c.id (put devices d p k) (V.device k).device
    go (inl is) =
        subst (λ j. DeviceTied c.id (put devices d p j) (V.device j).device) (sym is)
        (subst (λ (x : pgr.Device). DeviceTied c.id x (V.device d).device) (sym (put_here devices d p)) (subst (λ (s : Sharing). DeviceTied c.id p s.device) (sym here) new))
    go (inr ne) =
        subst (λ (x : pgr.Device). DeviceTied c.id x (V.device k).device) (sym (put_there devices d p k ne))
        (subst (λ (s : Sharing). DeviceTied c.id (devices k) s.device) (sym (there k ne)) (old k))

-- One task has gone on at device d, and the node's marks there with it.

pub record MarksMove (x y : UpNode) (d : ℕ) (validated has_joined : Bool) : Type 0 where
  pub here_valid : has (record_of y).valid d ≡ validated
  pub here_joined : has (state_of y.seat).joined d ≡ has_joined
  pub valid : (e : ℕ) → e ≢ d → has (record_of y).valid e ≡ has (record_of x).valid e
  pub joined : (e : ℕ) → e ≢ d → has (state_of y.seat).joined e ≡ has (state_of x.seat).joined e

pub same_below : (a b e f : ℕ) → a ≡ e → b ≡ f → e < f → a < b
same_below a b e f is at h = subst (λ z. a < z) (sym at) (subst (λ z. z < f) (sym is) h)

pub not_below : (a b : ℕ) → a ≡ b → a < b → ⊥
not_below a b is h = omega (arith, is, h)

-- what is left of the tasks
pub record TasksMove (c : Cluster) (W : Whole) (n d : ℕ) (x y : UpNode) (u : Sharing) : Type 0 where
  pub all : (V : Whole) → V.device d ≡ u → Changed W V n d → AllByRecursion (TaskAt c V n) y.tasks
  pub once : QueuedOnce y.tasks
  pub none : (e : ℕ) → seizure_of y.tasks e ≡ None → seizure_of x.tasks e ≡ None
  -- at the device a seizing is there, or the attempt is installed
  pub busy : (seizure_of y.tasks d ≡ None → ⊥) ⊎ (((W.device d).node n).installed ≡ ((W.device d).node n).session)

pub one_goes : (S : Setting) (c : Cluster) (W : Whole) (n d : ℕ) (x : UpNode) (devices : Devices) → InOrder S W → UpAt c W n x → DevicesTied c devices W
    → (p : pgr.Device) (validated has_joined : Bool) (Then : Sharing → Type 0) → (m : Moved c.id n (W.device d) p Then)
    → (y : UpNode) → ((u : Sharing) → Then u → GoesOn (W.device d) u n → TasksMove c W n d x y u × MarksTied u n validated has_joined)
    → y.attempt ≡ x.attempt → MarksMove x y d validated has_joined → DeviceGoes S c W n (put devices d p) y
one_goes S c W n d x devices i at tied p validated has_joined Then m y follows attempt marks = record {
  machine = V;
  moves = o.moves;
  memberships = o.memberships;
  devices_so = put_tied c W V devices d p u o.here o.there m.device tied;
  at = record {
    marks = λ e. marks_at e (same_or_not e d);
    tasks = after.0.all V o.here changed;
    once = after.0.once;
    idle = λ e none. idle_at e none (same_or_not e d);
    attempt = subst (λ z. AttemptAt V z) (sym attempt) (attempts x.attempt at.attempt);
  };
}
  where
    u : Sharing
    u = all_after (W.device d) m.events

    o : AtOne S W n d u
    o = at_one S W n c.id d p Then m

    V : Whole
    V = o.machine

    g : GoesOn (W.device d) u n
    g = tasks_go_on n (W.device d) m.events (i.device d) m.own m.allowed

    changed : Changed W V n d
    changed = record { here = subst (λ s. GoesOn (W.device d) s n) (sym o.here) g; there = o.there }

    after : TasksMove c W n d x y u × MarksTied u n validated has_joined
    after = follows u m.reached g

    marks_at : (e : ℕ) → (e ≡ d) ⊎ (e ≢ d) → MarksTied (V.device e) n (has (record_of y).valid e) (has (state_of y.seat).joined e)
    marks_at e (inl is) =
        subst (λ j. MarksTied (V.device j) n (has (record_of y).valid j) (has (state_of y.seat).joined j)) (sym is)
        (record {
          valid = subst (λ s. (s.node n).valid ≡ has (record_of y).valid d) (sym o.here) (after.1.valid ∙ sym marks.here_valid);
          joined = subst (λ s. (s.node n).joined ≡ has (state_of y.seat).joined d) (sym o.here) (after.1.joined ∙ sym marks.here_joined);
        })
    marks_at e (inr ne) = record {
      valid = subst (λ s. (s.node n).valid ≡ has (record_of y).valid e) (sym (o.there e ne)) ((at.marks e).valid ∙ sym (marks.valid e ne));
      joined = subst (λ s. (s.node n).joined ≡ has (state_of y.seat).joined e) (sym (o.there e ne)) ((at.marks e).joined ∙ sym (marks.joined e ne));
    }

    not_idle : seizure_of y.tasks d ≡ None → (seizure_of y.tasks d ≡ None → ⊥) ⊎ (((W.device d).node n).installed ≡ ((W.device d).node n).session) → IsIdle (V.device d) n
    not_idle none (inl there) low = absurd (there none)
    not_idle none (inr is) low =
        absurd (not_below ((V.device d).node n).installed ((V.device d).node n).session (changed.here.installed ∙ (is ∙ sym changed.here.session)) low)

    idle_at : (e : ℕ) → seizure_of y.tasks e ≡ None → (e ≡ d) ⊎ (e ≢ d) → IsIdle (V.device e) n
    idle_at e none (inl is) = subst (λ j. IsIdle (V.device j) n) (sym is) (not_idle (subst (λ j. seizure_of y.tasks j ≡ None) is none) after.0.busy)
    idle_at e none (inr ne) = subst (λ s. IsIdle s n) (sym (o.there e ne)) (at.idle e (after.0.none e none))

    attempts : (q : Option AttemptState) → AttemptAt W q → AttemptAt V q
    attempts None h = tt
    attempts (Some b) h = o.all_attempts b h

-- The answer to the first command of the queue is taken.
answer_moves : (c : Cluster) (W : Whole) (n : ℕ) (x y : UpNode) (a : Answer) (t : Task) (u : Sharing) → UpAt c W n x → first_of x.tasks ≡ Some t → y.tasks ≡ after_answer x.tasks a
    → WorkAt c.id n u (work_answered a t.work) → (is_seizing t.work ≡ true) ⊎ (((W.device t.device).node n).installed ≡ ((W.device t.device).node n).session) → TasksMove c W n t.device x y u
answer_moves c W n x y a t u at found is new kind = record {
  all = λ V here changed. subst (λ ts. AllByRecursion (TaskAt c V n) ts) (sym is)
      (taken_tasks c W V n a x.tasks t found changed at.once (subst (λ s. WorkAt c.id n s (work_answered a t.work)) (sym here) new) at.tasks);
  once = subst QueuedOnce (sym is) (taken_once a x.tasks at.once);
  none = λ e h. none_before e h;
  busy = by_kind kind;
}
  where
    none_before : (e : ℕ) → seizure_of y.tasks e ≡ None → seizure_of x.tasks e ≡ None
    none_before e h = taken_none a e x.tasks (subst (λ ts. seizure_of ts e ≡ None) is h)

    by_kind : (is_seizing t.work ≡ true) ⊎ (((W.device t.device).node n).installed ≡ ((W.device t.device).node n).session)
        → (seizure_of y.tasks t.device ≡ None → ⊥) ⊎ (((W.device t.device).node n).installed ≡ ((W.device t.device).node n).session)
    by_kind (inl seizes) = inl (λ none. due_seizure x.tasks t found seizes (none_before t.device none))
    by_kind (inr installed) = inr installed

-- A seizing.

taken_seizing : (x : UpNode) (a : Answer) (d : ℕ) (o : Option SeizeResult) → taken_by x a (seizing_progress d o) ≡ answered_so x a
taken_seizing x a d None = refl
taken_seizing x a d (Some r) = refl

seizing_goes : (S : Setting) (c : Cluster) (W : Whole) (n : ℕ) (x : UpNode) (devices : Devices) (f : Completion) (d : ℕ) (t : SeizeState) (k : PrCommand) → InOrder S W → IsNode n
    → DevicesTied c devices W → UpAt c W n x → IsReadied x → (let task : Task = record { device = d; work = work.Seizing t } in first_of x.tasks ≡ Some task) → seizing.command_of t ≡ Some k
    → (let a : Answer = learned f (devices d) n k in DeviceGoes S c W n (put devices d (executed f (devices d) n k)) (taken_by x a (progress_after x.tasks a)))
seizing_goes S c W n x devices f d t k i node tied at ready found due =
    let a : Answer = learned f (devices d) n k in
    let task : Task = record { device = d; work = work.Seizing t } in
    let v : Bool = has (record_of x).valid d in
    let j : Bool = has (state_of x.seat).joined d in
    let whole : TaskAt c W n task = all_found (TaskAt c W n) is_queued x.tasks task at.tasks found in
    let before : SeizingTied c.id n (W.device d) t × (((W.device d).node n).installed < ((W.device d).node n).session) = seizing_under_way c.id n (W.device d) t t.step k due whole in
    let saved : IsSaved t.step v = saved_at t t.step d v (λ e. ready d (ap plainly found ∙ e)) in
    let m : Moved c.id n (W.device d) (executed f (devices d) n k) (λ u. AtDevice c.id n u v j (ties.Seizes (seizing.taken t a))) =
    seize_commands c.id n (W.device d) v j t (devices d) f k node.0 node.1 (tied d) (record { valid = (at.marks d).valid; joined = (at.marks d).joined; task = before.0 }) saved due in
    subst (λ y. DeviceGoes S c W n (put devices d (executed f (devices d) n k)) y) (sym (ap (λ o. taken_by x a (progress_by o a)) found ∙ taken_seizing x a d (seizing.result_of (seizing.taken t a))))
    (one_goes S c W n d x devices i at tied (executed f (devices d) n k) v j (λ u. AtDevice c.id n u v j (ties.Seizes (seizing.taken t a))) m (answered_so x a)
    (λ u r g. (
      answer_moves c W n x (answered_so x a) a task u at found refl
          (seizing_at c.id n u (seizing.taken t a) (seizing.taken t a).step refl r.task (same_below (u.node n).installed (u.node n).session _ _ g.installed g.session before.1)) (inl refl),
      record { valid = r.valid; joined = r.joined },
    ))
    refl (record { here_valid = refl; here_joined = refl; valid = λ e ne. refl; joined = λ e ne. refl }))

-- A joining.

pub join_installed : (W : Whole) (n d : ℕ) (cluster : ℕ) (j : JoinState) (step : JoinStep) (k : PrCommand) → Inv (W.device d) → joining.command_at j step ≡ Some k → j.step ≡ step
    → JoiningTied cluster n (W.device d) j → ((W.device d).node n).installed ≡ ((W.device d).node n).session
join_installed W n d cluster j (join.Ended r) k i due is h = absurd (none_some k due)
join_installed W n d cluster j join.Register k i due is h =
    (i.node n).joining (high (rank ((W.device d).node n).phase) (ap rank (subst (λ z. ties.JoinStepTied z ((W.device d).node n)) is h.step)))
  where
    high : (r : ℕ) → r ≡ 11 → 11 ≤ r
    high r e = omega (arith, e)
join_installed W n d cluster j join.ReadWord k i due is h =
    (i.node n).joining (high (rank ((W.device d).node n).phase) (ap rank (subst (λ z. ties.JoinStepTied z ((W.device d).node n)) is h.step)))
  where
    high : (r : ℕ) → r ≡ 12 → 11 ≤ r
    high r e = omega (arith, e)

few : (d : ℕ) → d ≤ 16 → d ≤ 32
few d h = omega (arith, h)

-- where it has not come to its end, and where it has: the marks
join_marks : (x : UpNode) (a : Answer) (d : ℕ) (step : JoinStep) → IsDevice d
    → MarksMove x (taken_by x a (joining_progress d (joining.result_at step))) d (mark_after step (has (record_of x).valid d)) (mark_after step (has (state_of x.seat).joined d))
join_marks x a d join.Register is = record { here_valid = refl; here_joined = refl; valid = λ e ne. refl; joined = λ e ne. refl }
join_marks x a d join.ReadWord is = record { here_valid = refl; here_joined = refl; valid = λ e ne. refl; joined = λ e ne. refl }
join_marks x a d (join.Ended joined.Fault) is = record { here_valid = refl; here_joined = refl; valid = λ e ne. refl; joined = λ e ne. refl }
join_marks x a d (join.Ended (joined.Late w)) is = record { here_valid = refl; here_joined = refl; valid = λ e ne. refl; joined = λ e ne. refl }
join_marks x a d (join.Ended joined.Joined) is =
    let s : NodeState = with_joined (state_of x.seat) d in
    let same : state_of (with_state x.seat s) ≡ s = state_with x.seat s in
    record {
      here_valid = ap (λ (z : NodeState). has z.saved.valid d) same ∙ has_new (record_of x).valid d is.0 (few d is.1);
      here_joined = ap (λ (z : NodeState). has z.joined d) same ∙ has_new (state_of x.seat).joined d is.0 (few d is.1);
      valid = λ e ne. ap (λ (z : NodeState). has z.saved.valid e) same ∙ has_same (record_of x).valid d e is.0 (few d is.1) ne;
      joined = λ e ne. ap (λ (z : NodeState). has z.joined e) same ∙ has_same (state_of x.seat).joined d e is.0 (few d is.1) ne;
    }

taken_tasks_so : (x : UpNode) (a : Answer) (p : Progress) → (taken_by x a p).tasks ≡ after_answer x.tasks a
taken_tasks_so x a progress.GoesOn = refl
taken_tasks_so x a (progress.Seized d r) = refl
taken_tasks_so x a (progress.Joined d joined.Joined) = refl
taken_tasks_so x a (progress.Joined d (joined.Late w)) = refl
taken_tasks_so x a (progress.Joined d joined.Fault) = refl

taken_attempt_so : (x : UpNode) (a : Answer) (p : Progress) → (taken_by x a p).attempt ≡ x.attempt
taken_attempt_so x a progress.GoesOn = refl
taken_attempt_so x a (progress.Seized d r) = refl
taken_attempt_so x a (progress.Joined d joined.Joined) = refl
taken_attempt_so x a (progress.Joined d (joined.Late w)) = refl
taken_attempt_so x a (progress.Joined d joined.Fault) = refl

joining_goes : (S : Setting) (c : Cluster) (W : Whole) (n : ℕ) (x : UpNode) (devices : Devices) (f : Completion) (d : ℕ) (j : JoinState) (k : PrCommand) → InOrder S W → IsNode n → IsDevice d
    → DevicesTied c devices W → UpAt c W n x → (let task : Task = record { device = d; work = work.Joining j } in first_of x.tasks ≡ Some task) → joining.command_of j ≡ Some k
    → (let a : Answer = learned f (devices d) n k in DeviceGoes S c W n (put devices d (executed f (devices d) n k)) (taken_by x a (progress_after x.tasks a)))
joining_goes S c W n x devices f d j k i node device tied at found due =
    let a : Answer = learned f (devices d) n k in
    let task : Task = record { device = d; work = work.Joining j } in
    let v : Bool = has (record_of x).valid d in
    let h : Bool = has (state_of x.seat).joined d in
    let next : JoinState = joining.taken j a in
    let whole : TaskAt c W n task = all_found (TaskAt c W n) is_queued x.tasks task at.tasks found in
    let before : JoiningTied c.id n (W.device d) j = joining_under_way c.id n (W.device d) j j.step k due whole in
    let m : Moved c.id n (W.device d) (executed f (devices d) n k) (λ u. AtDevice c.id n u (mark_after next.step v) (mark_after next.step h) (ties.Joins next)) =
    join_commands c.id n node.0 node.1 (W.device d) v h j (devices d) (tied d) (record { valid = (at.marks d).valid; joined = (at.marks d).joined; task = before }) f k due in
    let y : UpNode = taken_by x a (joining_progress d (joining.result_of next)) in
    subst (λ z. DeviceGoes S c W n (put devices d (executed f (devices d) n k)) z) (sym (ap (λ o. taken_by x a (progress_by o a)) found))
    (one_goes S c W n d x devices i at tied (executed f (devices d) n k) (mark_after next.step v) (mark_after next.step h)
    (λ u. AtDevice c.id n u (mark_after next.step v) (mark_after next.step h) (ties.Joins next)) m y
    (λ u r g. (
      answer_moves c W n x y a task u at found (taken_tasks_so x a (joining_progress d (joining.result_of next))) (joining_at c.id n u next next.step r.task)
          (inr (join_installed W n d c.id j j.step k (i.device d) due refl before)),
      record { valid = r.valid; joined = r.joined },
    ))
    (taken_attempt_so x a (joining_progress d (joining.result_of next))) (join_marks x a d next.step device))

-- The command that is due.

pub commands_go : CommandsGo
commands_go S c W n x devices f d k reached node low tied at ready due next = by_task (first_of x.tasks) refl
  where
    i : InOrder S W
    i = in_order S W reached

    by_work : (t : Task) (w : Work) → t.device ≡ d → command_in w ≡ Some k → (let task : Task = record { device = d; work = w } in first_of x.tasks ≡ Some task)
        → (let a : Answer = learned f (devices d) n k in DeviceGoes S c W n (put devices d (executed f (devices d) n k)) (taken_by x a (progress_after x.tasks a)))
    by_work t (work.Seizing s) is command found = seizing_goes S c W n x devices f d s k i node tied at ready found command
    by_work t (work.Joining j) is command found = joining_goes S c W n x devices f d j k i node low tied at found command

    by_task : (o : Option Task) → first_of x.tasks ≡ o
        → (let a : Answer = learned f (devices d) n k in DeviceGoes S c W n (put devices d (executed f (devices d) n k)) (taken_by x a (progress_after x.tasks a)))
    by_task None found = absurd (none_some d (sym (ap (λ o. option_map (λ (t : Task). t.device) o) found) ∙ due))
    by_task (Some t) found =
        let is : t.device ≡ d = same_some t.device d (sym (ap (λ o. option_map (λ (z : Task). z.device) o) found) ∙ due) in
        let command : command_in t.work ≡ Some k = sym (ap (λ o. option_and_then (λ (z : Task). command_in z.work) o) found) ∙ next in
        by_work t t.work is command (subst (λ e. let task : Task = record { device = e; work = t.work } in first_of x.tasks ≡ Some task) is found)
