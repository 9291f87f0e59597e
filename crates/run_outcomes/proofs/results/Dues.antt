-- The word that a seizing reads last, before it is held, is no smaller than the number of its attempt.
use Rattle.std.specs.List.{AllByRecursion}
use Rattle.cluster_machine.specs.Cluster.{Cluster as Whole}
use Rattle.history.specs.DeviceRun.{state_of as state_at}
use Rattle.run_outcomes.proofs.results.Words.{Fits, IsHigh}
use Rattle.pgr_device.specs.declared.command.PrAnswer.{PrAnswer}
use Rattle.pgr_device.specs.Access.{same_kind}
use Rattle.node_model.specs.declared.cluster.Cluster.{Cluster}
use Rattle.node_model.specs.Clusters.{has_path}
use Rattle.device_ties.specs.Devices.{DeviceTied}
use Rattle.device_ties.proofs.Readings.{reads}
use Rattle.std.specs.Prelude.{ℕ, ◌-◌, ◌≡◌, ◌≤◌, Bool, true, false, List, Option, None, Some, IfSome, find, slice_get, Ok, if◌then◌else◌, [], ◌∷◌, ◌==◌, ◌&&◌, not, length, Err}
use Rattle.std.specs.Option.{option_and_then, option_map}
use Rattle.std.proofs.Common.{refl, sym, ap, subst, ◌∙◌, arith}
use Rattle.cl_base.specs.Sets.{has}
use Rattle.cl_base.specs.declared.header.Header.{Header}
use Rattle.cluster_ties.proofs.First.{in_order}
use Rattle.cluster_ties.specs.Ties.{NodeAt, SeizingAt, TaskAt, WorkAt}
use Rattle.cmm_attempt.proofs.Basics.{if_either, none_some, same_some}
use Rattle.device_machine.proofs.Invariant.{Inv}
use Rattle.device_machine.specs.Phase.{Phase, rank}
use Rattle.device_machine.specs.Sharing.{Sharing}
use Rattle.device_queue.specs.Queue.{due_device, next_of}
use Rattle.device_queue.specs.Tasks.{command_in, is_queued}
use Rattle.device_queue.specs.declared.task.Task.{Task}
use Rattle.device_queue.specs.declared.task.Work.{Work}
use Rattle.device_queue.specs.declared.task.Work.TheVariants.{Joining as Joins, Seizing as Seizes}
use Rattle.device_ties.specs.Tasks.{SeizingTied, StepTied}
use Rattle.node_model.specs.declared.node.Node.{Node}
use Rattle.node_model.specs.declared.node.Node.TheVariants.{Down, Up}
use Rattle.pgr_device.specs.Device.{Device}
use Rattle.pgr_device.specs.Registered.{has_key as registers, registered_key}
use Rattle.pgr_device.specs.Spc as spc
use Rattle.pgr_device.specs.declared.command.PrAnswer.TheVariants as answer
use Rattle.pgr_device.specs.declared.command.PrCommand.{PrCommand}
use Rattle.pgr_device.specs.declared.command.PrCommand.TheVariants as command
use Rattle.pgr_device.specs.declared.kind.PrKind.{PrKind}
use Rattle.pgr_device.specs.declared.kind.PrKind.TheVariants.{WriteExclusiveRegistrantsOnly}
use Rattle.pgr_device.specs.declared.registration.Reservation.{Reservation}
use Rattle.refinement.specs.Ties.{setting_of}
use Rattle.run_history.proofs.Kept.{path_named}
use Rattle.run_history.proofs.Known.{first_listed, listed_is}
use Rattle.run_history.specs.Names.{IsListed}
use Rattle.run_history.specs.WorldLines.{IsAtDevices, IsDevice as IsDeviceOf}
use Rattle.run_lines.proofs.writes.Paths.{path_so, paths_stay}
use Rattle.run_history.proofs.Lists.{found}
use Rattle.run_history.proofs.WholeDevices.{device_there}
use Rattle.run_history.specs.Happenings.{commanded, commanded_at}
use Rattle.run_history.specs.Scenes.{Scene, fault_in}
use Rattle.run_history.specs.Wholes.{IsWhole}
use Rattle.seize.specs.Answers.{Answer, is_answer, word_told}
use Rattle.seize.specs.Seizing as seizing
use Rattle.seize.specs.Seizing.{SeizeState}
use Rattle.seize.specs.declared.step.SeizeStep.{SeizeStep}
use Rattle.seize.specs.declared.step.SeizeStep.TheVariants as step
use Rattle.world_model.specs.Devices.{due_at, executed}
use Rattle.world_model.specs.First.{first_cluster}
use Rattle.run_outcomes.proofs.results.Tasks.{FirstHigh, WorkHigh}
use Rattle.run_outcomes.specs.results.Paths.{NodePath, TasksPath, WorkPath}

-- ---- what the device answers

executed_word : (x : Device) (n w : ℕ) (fault : Option Bool) → word_told (executed x n command.Word fault).answer ≡ Some w → x.word ≡ w
executed_word x n w (Some true) is = absurd (none_some w is)
executed_word x n w (Some false) is = absurd (none_some w is)
executed_word x n w None is = by_path (has x.paths n) is
  where
    by_may : (b : Bool) → word_told (Ok (if b then spc.answers x (answer.Word x.word) else spc.conflict x).answer) ≡ Some w → x.word ≡ w
    by_may true e = same_some x.word w e
    by_may false e = absurd (none_some w e)

    by_path : (b : Bool) → word_told (Ok (if b then spc.carried_out x n command.Word else spc.answers x answer.NoPath).answer) ≡ Some w → x.word ≡ w
    by_path true e = by_may (spc.may_read x.registrations n x.reservation) e
    by_path false e = absurd (none_some w e)

word_fits : (x : Device) (n : ℕ) → spc.may_read x.registrations n x.reservation ≡ true → is_answer command.Word (spc.carried_out x n command.Word).answer ≡ true
word_fits x n may = subst (λ b. is_answer command.Word (if b then spc.answers x (answer.Word x.word) else spc.conflict x).answer ≡ true) (sym may) refl

-- it is the word of the machine's device
word_of : (h : Header) (s : Scene) (n d w : ℕ) (o : Option Device) → slice_get s.devices (d - 1) ≡ o → 1 ≤ d → (z : IsWhole (first_cluster h) s)
    → word_told (commanded_at s n d o command.Word).answer ≡ Some w → (z.machine.device d).device.word ≡ w
word_of h s n d w None at low z is = absurd (none_some w is)
word_of h s n d w (Some x) at low z is =
    sym (z.devices_so d).word ∙ (ap (λ (y : Device). y.word) (device_there s.devices d x low at) ∙ executed_word x n w (fault_in s n d) is)

-- ---- the seizing

confirms : (cluster n : ℕ) (s : Sharing) (t : SeizeState) (p : SeizeStep) (ks : List ℕ) → Inv s → t.step ≡ p → p ≡ step.Confirm ks → SeizingAt cluster n s t p → t.epoch ≤ s.device.word
confirms cluster n s t p ks i at is tied =
    let two : SeizingTied cluster n s t = (subst (λ z. SeizingAt cluster n s t z) is tied).0 in
    let phase : (s.node n).phase ≡ Phase.Cleared = subst (λ z. StepTied t.kind t.cluster z (s.node n)) (at ∙ is) two.step in
    subst (λ e. e ≤ s.device.word) two.session
    ((i.on n).word (subst (λ z. 5 ≤ rank z) (sym phase) (omega arith)) (subst (λ z. rank z ≤ 9) (sym phase) (omega arith)))

-- ---- the device gives no other answers

given : Answer → Option PrAnswer
given (Ok z) = Some z
given (Err e) = None

swapped_fits : (x : Device) (n expected new : ℕ) → is_answer (command.Swap expected new) (spc.carried_out x n (command.Swap expected new)).answer ≡ true
swapped_fits x n expected new =
    if_either (λ (o : spc.Outcome). is_answer (command.Swap expected new) o.answer ≡ true) (spc.may_write x.registrations n x.reservation) (spc.swapping x expected new) (spc.conflict x)
    (by_word (x.word == expected) refl) refl
  where
    by_word : (b : Bool) → (x.word == expected) ≡ b
        → is_answer (command.Swap expected new) (if b then spc.good (record x { word = new }) else spc.answers x (answer.Miscompare x.word)).answer ≡ true
    by_word true same = refl
    by_word false other = ap not other

reserved_fits : (x : Device) (n : ℕ) (kind : PrKind) (key : ℕ) → is_answer (command.Reserve kind key) (spc.carried_out x n (command.Reserve kind key)).answer ≡ true
reserved_fits x n kind key =
    if_either Fine (spc.shows_key (registered_key x.registrations n) key) (spc.reserving x n kind x.reservation) (spc.conflict x) (by_holder x.reservation) refl
  where
    Fine : spc.Outcome → Type 0
    Fine o = is_answer (command.Reserve kind key) o.answer ≡ true

    by_holder : (o : Option Reservation) → Fine (spc.reserving x n kind o)
    by_holder None = refl
    by_holder (Some held) = if_either Fine ((held.holder == n) && same_kind held.kind kind) (spc.good x) (spc.conflict x) refl refl

preempted_fits : (x : Device) (n : ℕ) (kind : PrKind) (key victim : ℕ) → is_answer (command.Preempt kind key victim) (spc.carried_out x n (command.Preempt kind key victim)).answer ≡ true
preempted_fits x n kind key victim =
    if_either Fine (spc.shows_key (registered_key x.registrations n) key) (spc.preempting x n kind victim) (spc.conflict x)
    (if_either Fine (registers x.registrations victim) (spc.good (spc.preempted x n kind victim)) (spc.conflict x) refl refl) refl
  where
    Fine : spc.Outcome → Type 0
    Fine o = is_answer (command.Preempt kind key victim) o.answer ≡ true

carried_fits : (x : Device) (n : ℕ) (t : SeizeState) (p : SeizeStep) (k : PrCommand) → spc.may_read x.registrations n x.reservation ≡ true → seizing.command_at t p ≡ Some k
    → is_answer k (spc.carried_out x n k).answer ≡ true
carried_fits x n t step.Check k may is = subst (λ j. is_answer j (spc.carried_out x n j).answer ≡ true) (same_some _ k is) refl
carried_fits x n t step.Register k may is = subst (λ j. is_answer j (spc.carried_out x n j).answer ≡ true) (same_some _ k is) refl
carried_fits x n t step.ReadWord k may is = subst (λ j. is_answer j (spc.carried_out x n j).answer ≡ true) (same_some _ k is) (word_fits x n may)
carried_fits x n t (step.Swap expected) k may is = subst (λ j. is_answer j (spc.carried_out x n j).answer ≡ true) (same_some _ k is) (swapped_fits x n expected t.epoch)
carried_fits x n t step.Reserve k may is =
    subst (λ j. is_answer j (spc.carried_out x n j).answer ≡ true) (same_some _ k is) (reserved_fits x n WriteExclusiveRegistrantsOnly (seizing.own_key t))
carried_fits x n t (step.ReadKeys reading) k may is = subst (λ j. is_answer j (spc.carried_out x n j).answer ≡ true) (same_some _ k is) refl
carried_fits x n t (step.Preempt victim reading) k may is =
    subst (λ j. is_answer j (spc.carried_out x n j).answer ≡ true) (same_some _ k is) (preempted_fits x n WriteExclusiveRegistrantsOnly (seizing.own_key t) victim)
carried_fits x n t (step.Confirm ks) k may is = subst (λ j. is_answer j (spc.carried_out x n j).answer ≡ true) (same_some _ k is) (word_fits x n may)
carried_fits x n t (step.Ended r) k may is = absurd (none_some k is)

executed_fits : (x : Device) (n : ℕ) (t : SeizeState) (p : SeizeStep) (k : PrCommand) (fault : Option Bool) → has x.paths n ≡ true → spc.may_read x.registrations n x.reservation ≡ true
    → seizing.command_at t p ≡ Some k → Fits k (executed x n k fault).answer
unfolding given
executed_fits x n t p k (Some true) path may is z told = absurd (none_some z (ap given told))
executed_fits x n t p k (Some false) path may is z told = absurd (none_some z (ap given told))
executed_fits x n t p k None path may is z told =
    subst (λ y. is_answer k y ≡ true) (same_some _ z (ap given told))
    (subst (λ b. is_answer k (if b then spc.carried_out x n k else spc.answers x answer.NoPath).answer ≡ true) (sym path) (carried_fits x n t p k may is))

-- where the node has a path to the device
device_fits : (h : Header) (s : Scene) (n d : ℕ) (t : SeizeState) (p : SeizeStep) (k : PrCommand) → length h.devices ≤ 16 → IsAtDevices h s → (z : IsWhole (first_cluster h) s)
    → has_path (first_cluster h).attached n d ≡ true → seizing.command_at t p ≡ Some k → Fits k (commanded s n d k).answer
device_fits h s n d t p k few at z path due =
    let c : Cluster = first_cluster h in
    let is : IsDeviceOf h d = listed_is h d few (path_named (IsListed c) c.attached n d (first_listed h few) path) in
    let x : Device = state_at h d s.moments in
    let there : slice_get s.devices (d - 1) ≡ Some x = at.states d is in
    let tied : DeviceTied c.id x (z.machine.device d).device = subst (λ y. DeviceTied c.id y (z.machine.device d).device) (device_there s.devices d x is.0 there) (z.devices_so d) in
    let way : has x.paths n ≡ true = ap (λ j. has j n) (paths_stay h d s.moments) ∙ (sym (path_so h n d is.0) ∙ path) in
    subst (λ o. Fits k (commanded_at s n d o k).answer) (sym there)
    (executed_fits x n t p k (fault_in s n d) way (reads x.registrations n x.reservation (z.machine.device d).device.reserved (z.machine.device d).device.holder tied.held) due)

-- ---- the task

work_high : (h : Header) (s : Scene) (n d : ℕ) (q : PrCommand) (w : Work) → length h.devices ≤ 16 → IsAtDevices h s → (z : IsWhole (first_cluster h) s) → 1 ≤ d → command_in w ≡ Some q
    → WorkPath (first_cluster h) n d w → WorkAt (first_cluster h).id n (z.machine.device d) w → WorkHigh w (commanded s n d q).answer
work_high h s n d q (Joins j) few at z low due path tied = tt
work_high h s n d q (Seizes t) few at z low due path tied = (high, fits)
  where
    high : IsHigh t (commanded s n d q).answer
    high ks w here told =
        let word : q ≡ command.Word = same_some q command.Word (sym due ∙ ap (λ p. seizing.command_at t p) here) in
        let is : word_told (commanded s n d command.Word).answer ≡ Some w = ap (λ k. word_told (commanded s n d k).answer) (sym word) ∙ ap word_told told in
        subst (λ v. t.epoch ≤ v) (word_of h s n d w (slice_get s.devices (d - 1)) refl low z is)
        (confirms (first_cluster h).id n (z.machine.device d) t t.step ks ((in_order (setting_of (first_cluster h)) z.machine z.reached).device d) refl here tied)

    fits : (k : PrCommand) → seizing.command_at t t.step ≡ Some k → Fits k (commanded s n d q).answer
    fits k is =
        subst (λ j. Fits k (commanded s n d j).answer) (same_some k q (sym is ∙ due)) (device_fits h s n d t t.step k few at z path is)

-- of a task, at its device
abbrev Both : Cluster → Whole → ℕ → Task → Type 0
Both c W n t = WorkPath c n t.device t.work × TaskAt c W n t

both_all : (c : Cluster) (W : Whole) (n : ℕ) (ts : List Task) → TasksPath c n ts → AllByRecursion (TaskAt c W n) ts → AllByRecursion (Both c W n) ts
both_all c W n [] k l = tt
both_all c W n (t ∷ ts) k l = ((k.0, l.0), both_all c W n ts k.1 l.1)

first_so : (h : Header) (s : Scene) (n d : ℕ) (q : PrCommand) (o : Option Task) → length h.devices ≤ 16 → IsAtDevices h s → (z : IsWhole (first_cluster h) s) → 1 ≤ d
    → IfSome o (Both (first_cluster h) z.machine n) → option_map (λ (t : Task). t.device) o ≡ Some d → option_and_then (λ (t : Task). command_in t.work) o ≡ Some q
    → FirstHigh o (commanded s n d q).answer
first_so h s n d q None few at z low tied device next = tt
first_so h s n d q (Some t) few at z low tied device next =
    work_high h s n d q t.work few at z low next (subst (λ e. WorkPath (first_cluster h) n e t.work) (same_some t.device d device) tied.0)
    (subst (λ e. WorkAt (first_cluster h).id n (z.machine.device e) t.work) (same_some t.device d device) tied.1)

abbrev pub NodeHigh : Node → Answer → Type 0
NodeHigh Down a = Unit {0}
NodeHigh (Up x) a = FirstHigh (find is_queued x.tasks) a

pub two_of : (o : Option ℕ) (q : Option PrCommand) (d : ℕ) (k : PrCommand)
    → option_and_then {U = ℕ × PrCommand} (λ e. option_and_then {U = ℕ × PrCommand} (λ (j : PrCommand). Some (e, j)) q) o ≡ Some (d, k) → (o ≡ Some d) × (q ≡ Some k)
two_of None q d k h = absurd (none_some (d, k) h)
two_of (Some e) None d k h = absurd (none_some (d, k) h)
two_of (Some e) (Some j) d k h =
    let same : (e, j) ≡ (d, k) = same_some (e, j) (d, k) h in
    (ap (λ (z : ℕ × PrCommand). Some z.0) same, ap (λ (z : ℕ × PrCommand). Some z.1) same)

pub due_high : (h : Header) (s : Scene) (n d : ℕ) (q : PrCommand) → length h.devices ≤ 16 → IsAtDevices h s → (z : IsWhole (first_cluster h) s) → NodePath (first_cluster h) n (s.nodes.node n)
    → due_at (Some (s.nodes.node n)) ≡ Some (d, q) → 1 ≤ d → NodeHigh (s.nodes.node n) (commanded s n d q).answer
due_high h s n d q few places z path due low = by_node (s.nodes.node n) path (z.sites n).at due
  where
    by_node : (node : Node) → NodePath (first_cluster h) n node → NodeAt (first_cluster h) z.machine n (s.nodes.disk n).kept node → due_at (Some node) ≡ Some (d, q)
        → NodeHigh node (commanded s n d q).answer
    by_node Down p at due = tt
    by_node (Up x) p at due =
        let two : (due_device x.tasks ≡ Some d) × (next_of x.tasks ≡ Some q) = two_of (due_device x.tasks) (next_of x.tasks) d q due in
        first_so h s n d q (find is_queued x.tasks) few places z low
        (found (Both (first_cluster h) z.machine n) is_queued x.tasks (both_all (first_cluster h) z.machine n x.tasks p.tasks at.tasks)) two.0 two.1
