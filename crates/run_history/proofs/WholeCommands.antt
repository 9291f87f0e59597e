-- The command that is due is carried out at its device, and the node takes the answer.
use Rattle.std.specs.Prelude.{ℕ, ◌≡◌, ◌++◌, not, Bool, true, false, List, [], ◌∷◌, Option, None, Some, option_map, is_some, Err, find, if◌then◌else◌}
use Rattle.std.proofs.Common.{refl, sym, ap, subst, ◌∙◌}
use Rattle.std.proofs.lemmas.List.{append-nil}
use Rattle.cl_base.specs.Seizings.{SeizeResult}
use Rattle.cluster_machine.specs.Cluster.{Cluster as Whole}
use Rattle.cluster_ties.proofs.Commands.{commands_go}
use Rattle.cluster_ties.specs.Laws.{IsReadied, taken_by}
use Rattle.cluster_ties.specs.Moves.{DeviceGoes, Moves}
use Rattle.cluster_ties.specs.Ties.{Devices}
use Rattle.cmm_attempt.proofs.Basics.{false_true, same_some}
use Rattle.cmm_member.specs.Nodes.{NodeState, with_joined}
use Rattle.cmm_member.specs.Records.{NodeRecord}
use Rattle.device_queue.specs.Queue.{due_device, next_of, progress_after, progress_by}
use Rattle.device_queue.specs.Tasks.{is_queued, joining_progress, progress_in, seizing_progress, work_answered}
use Rattle.device_queue.specs.declared.progress.Progress.{Progress}
use Rattle.device_queue.specs.declared.progress.Progress.TheVariants.{GoesOn, Joined, Seized}
use Rattle.device_queue.specs.declared.task.Task.{Task}
use Rattle.device_queue.specs.declared.task.Work.{Work}
use Rattle.device_queue.specs.declared.task.Work.TheVariants.{Joining, Seizing}
use Rattle.device_ties.specs.Commands.{Answered, Completion, Done as Done_unanswered, Undone, executed, learned}
use Rattle.machine_base.specs.Put.{put}
use Rattle.membership_machine.specs.Events as membership
use Rattle.membership_machine.specs.Votes.{Setting}
use Rattle.node_model.specs.Devices.{joining_so}
use Rattle.node_model.specs.Seats.{coordinator_of, record_of, state_of}
use Rattle.node_model.specs.declared.cluster.Cluster.{Cluster}
use Rattle.node_model.specs.declared.node.Node.TheVariants.{Down, Up}
use Rattle.node_model.specs.declared.node.UpNode.{UpNode}
use Rattle.node_model.specs.declared.output.Output.{Output}
use Rattle.refinement.proofs.node_widths.Sets.{device_with}
use Rattle.pgr_device.specs.Device.{Device}
use Rattle.pgr_device.specs.declared.command.PrCommand.{PrCommand}
use Rattle.refinement.proofs.Texts.{state_with}
use Rattle.refinement.specs.Courses.{Course, Reply, under}
use Rattle.refinement.specs.Courses.Course.{Stops}
use Rattle.refinement.specs.Courses.Reply.{Done, Lost_new, Lost_old}
use Rattle.refinement.specs.Cuts.{joined_course, progress_course, seized_course}
use Rattle.refinement.specs.Doings.{Doing, Site, after_all, answered_so, command_line, effect, first_lines, given_all, gives, gone_line, saved_lines, site}
use Rattle.refinement.specs.Doings.Act.{Takes}
use Rattle.refinement.specs.Doings.Change.{Admits}
use Rattle.refinement.specs.Doings.Doing.{Does, Forgets, Loses, Saves}
use Rattle.refinement.specs.Events.{of_doing, of_doings}
use Rattle.refinement.specs.Guards.{MayAll}
use Rattle.refinement.specs.Ties.{GoesOn as Memberships_go, setting_of}
use Rattle.seize.specs.Answers.{Answer}
use Rattle.seize.specs.Joining as joining
use Rattle.seize.specs.Joining.{JoinState}
use Rattle.seize.specs.Seizing as seizing
use Rattle.seize.specs.declared.kind.JoinResult.{JoinResult}
use Rattle.seize.specs.declared.kind.JoinResult.TheVariants as join
use Rattle.seize.specs.declared.step.JoinStep.{JoinStep}
use Rattle.seize.specs.declared.step.JoinStep.TheVariants as step
use Rattle.status_report.specs.declared.node_entry.DownCause.{DownCause}
use Rattle.status_report.specs.declared.node_entry.DownCause.TheVariants as down_by
use Rattle.wire.specs.Spelling.{IsDevice, IsDevices, IsNode}
use Rattle.run_history.proofs.AtCalls.{Any}
use Rattle.run_history.proofs.AtSteps.{joined_course_to, seized_here_to}
use Rattle.run_history.proofs.WholeChanges.{NodeGoes, by_device, record_valid}
use Rattle.run_history.proofs.WholeDevices.{tied_same}
use Rattle.run_history.proofs.WholeDoings.{Ready, down, finish, joins, one}
use Rattle.run_history.proofs.WholeOutputs.{lost_mute, mute_told, saved_mute}
use Rattle.run_history.proofs.Stays.{installs_stay}
use Rattle.run_history.proofs.WholeSteps.{at_under, doings_go, hand_all, ready_after, then_goes}
use Rattle.run_history.proofs.Writing.{sees_up}
use Rattle.run_history.specs.Guards.{AtTo, hand_after}
use Rattle.run_history.specs.Sites.{DoingGoes, Own, SiteAt}

-- devices that are the same are left so
pub device_goes_same : (S : Setting) (c : Cluster) (W : Whole) (n : ℕ) (devices other : Devices) (y : UpNode) → ((d : ℕ) → other d ≡ devices d) → DeviceGoes S c W n devices y
    → DeviceGoes S c W n other y
device_goes_same S c W n devices other y same g =
    record { machine = g.machine; moves = g.moves; memberships = g.memberships; devices_so = tied_same c g.machine devices other same g.devices_so; at = g.at }

-- Which device has been joined.

joining_device : (e d : ℕ) (o : Option JoinResult) (r : JoinResult) → joining_progress e o ≡ Joined d r → e ≡ d
joining_device e d None r h = absurd (none e d r h)
  where
    none : (a b : ℕ) (q : JoinResult) → GoesOn ≡ Joined b q → ⊥
    none a b q h = cc
joining_device e d (Some result) r h = same e d result r h
  where
    same : (a b : ℕ) (p q : JoinResult) → Joined a p ≡ Joined b q → a ≡ b
    same a b p q h = cc

seizing_no : (e d : ℕ) (o : Option SeizeResult) (r : JoinResult) → seizing_progress e o ≡ Joined d r → ⊥
seizing_no e d None r h = cc
seizing_no e d (Some result) r h = cc

work_device : (e d : ℕ) (w : Work) (r : JoinResult) → progress_in e w ≡ Joined d r → e ≡ d
work_device e d (Seizing s) r h = absurd (seizing_no e d (seizing.result_of s) r h)
work_device e d (Joining j) r h = joining_device e d (joining.result_of j) r h

goes_on_no : (d : ℕ) (r : JoinResult) → GoesOn ≡ Joined d r → ⊥
goes_on_no d r h = cc

joined_device : (o : Option Task) (a : Answer) (d e : ℕ) (r : JoinResult) → progress_by o a ≡ Joined e r → option_map (λ (t : Task). t.device) o ≡ Some d → d ≡ e
joined_device None a d e r h is = absurd (goes_on_no e r h)
joined_device (Some t) a d e r h is = sym (same_some t.device d is) ∙ work_device t.device e (work_answered a t.work) r h

-- A command that fails admits nobody.

fault_no : (e d : ℕ) → Joined e join.Fault ≡ Joined d join.Joined → ⊥
fault_no e d h = cc

failed_step : (e d : ℕ) (j : JoinState) (s : JoinStep) (a : Answer) → a ≡ Err (record {}) → not (is_some (joining.result_at s)) ≡ true → joining_progress e (joining.result_at (joining.next_step j s a)) ≡ Joined d join.Joined → ⊥
failed_step e d j step.Register a is queued h = fault_no e d (subst (λ z. joining_progress e (joining.result_at (joining.next_step j step.Register z)) ≡ Joined d join.Joined) is h)
failed_step e d j step.ReadWord a is queued h = fault_no e d (subst (λ z. joining_progress e (joining.result_at (joining.next_step j step.ReadWord z)) ≡ Joined d join.Joined) is h)
failed_step e d j (step.Ended r) a is queued h = false_true queued

failed_work : (e d : ℕ) (w : Work) (a : Answer) (t : Task) → t.work ≡ w → a ≡ Err (record {}) → is_queued (record { device = e; work = w }) ≡ true → progress_in e (work_answered a w) ≡ Joined d join.Joined → ⊥
failed_work e d (Seizing s) a t at is queued h = seizing_no e d (seizing.result_of (seizing.taken s a)) join.Joined h
failed_work e d (Joining j) a t at is queued h = failed_step e d j j.step a is queued h

failed_no : (tasks : List Task) (a : Answer) (d : ℕ) → a ≡ Err (record {}) → progress_by (find is_queued tasks) a ≡ Joined d join.Joined → ⊥
failed_no [] a d is h = goes_on_no d join.Joined h
failed_no (t ∷ tasks) a d is h = by_test (is_queued t) refl h (λ e. failed_no tasks a d is e)
  where
    by_test : (b : Bool) → is_queued t ≡ b → progress_by (if b then Some t else find is_queued tasks) a ≡ Joined d join.Joined → (progress_by (find is_queued tasks) a ≡ Joined d join.Joined → ⊥) → ⊥
    by_test true queued e more = failed_work t.device d t.work a t refl is queued e
    by_test false queued e more = more e

-- so the record stays as it is
failed_record : (x : UpNode) (a : Answer) (p : Progress) → ((d : ℕ) → p ≡ Joined d join.Joined → ⊥) → record_of (taken_by x a p) ≡ record_of x
failed_record x a GoesOn never = refl
failed_record x a (Seized d r) never = refl
failed_record x a (Joined d join.Joined) never = absurd (never d refl)
failed_record x a (Joined d (join.Late w)) never = refl
failed_record x a (Joined d join.Fault) never = refl

-- the same is done, and the answer is lost
fail : Completion → Completion
fail Answered = Done_unanswered
fail Undone = Undone
fail Done_unanswered = Done_unanswered

fail_done : (f : Completion) (p : Device) (n : ℕ) (k : PrCommand) → executed (fail f) p n k ≡ executed f p n k
unfolding fail
fail_done Answered p n k = refl
fail_done Undone p n k = refl
fail_done Done_unanswered p n k = refl

fail_lost : (f : Completion) (p : Device) (n : ℕ) (k : PrCommand) → learned (fail f) p n k ≡ Err (record {})
unfolding fail
fail_lost Answered p n k = refl
fail_lost Undone p n k = refl
fail_lost Done_unanswered p n k = refl

-- A node whose command is due, before it is carried out: the device does it so, or not, and the node learns this.
pub record Due (c : Cluster) (W : Whole) (n : ℕ) (devices after : Devices) (y : UpNode) (disk : NodeRecord) (d : ℕ) (k : PrCommand) (a : Answer) : Type 0 where
  pub ready : Ready c W n None None devices (site (Up y) disk)
  pub is_node : IsNode n
  pub is_device : IsDevice d
  pub readied : IsReadied y
  pub device : due_device y.tasks ≡ Some d
  pub command : next_of y.tasks ≡ Some k
  pub how : Completion
  pub learns : a ≡ learned how (devices d) n k
  pub leaves : (e : ℕ) → after e ≡ put devices d (executed how (devices d) n k) e

-- what is done at the device
done_so : (c : Cluster) (W : Whole) (n : ℕ) (devices after : Devices) (y : UpNode) (disk : NodeRecord) (d : ℕ) (k : PrCommand) (a : Answer) → Due c W n devices after y disk d k a
    → DeviceGoes (setting_of c) c W n after (taken_by y a (progress_after y.tasks a))
done_so c W n devices after y disk d k a u =
    subst (λ z. DeviceGoes (setting_of c) c W n after (taken_by y z (progress_after y.tasks z))) (sym u.learns)
    (device_goes_same (setting_of c) c W n (put devices d (executed u.how (devices d) n k)) after _ u.leaves
    (commands_go (setting_of c) c W n y devices u.how d k u.ready.reached u.is_node u.is_device u.ready.tied u.ready.site_so.at u.readied u.device u.command))

-- .. and the same with the answer lost
lost_so : (c : Cluster) (W : Whole) (n : ℕ) (devices after : Devices) (y : UpNode) (disk : NodeRecord) (d : ℕ) (k : PrCommand) (a : Answer) → Due c W n devices after y disk d k a
    → DeviceGoes (setting_of c) c W n after (taken_by y (Err (record {})) (progress_after y.tasks (Err (record {}))))
lost_so c W n devices after y disk d k a u =
    subst (λ z. DeviceGoes (setting_of c) c W n after (taken_by y z (progress_after y.tasks z))) (fail_lost u.how (devices d) n k)
    (device_goes_same (setting_of c) c W n (put devices d (executed (fail u.how) (devices d) n k)) after _
    (λ e. u.leaves e ∙ ap (λ z. put devices d z e) (sym (fail_done u.how (devices d) n k)))
    (commands_go (setting_of c) c W n y devices (fail u.how) d k u.ready.reached u.is_node u.is_device u.ready.tied u.ready.site_so.at u.readied u.device u.command))

-- The node takes an answer that does not admit it, and goes on.

abbrev pub Goes : Cluster → Whole → ℕ → Devices → Site → List Doing → Type 0
Goes c W n devices x ds = DoingGoes c W n devices (after_all c n x ds) (given_all c n x ds) (of_doings n ds) (hand_all None ds)

taken_so : (c : Cluster) (W : Whole) (n : ℕ) (devices after : Devices) (y : UpNode) (disk : NodeRecord) (d : ℕ) (k : PrCommand) (a : Answer) → Due c W n devices after y disk d k a
    → DeviceGoes (setting_of c) c W n after (answered_so y a) → DoingGoes c W n after (site (Up (answered_so y a)) disk) (command_line n d k a) [] None
taken_so c W n devices after y disk d k a u g =
    let x : Site = site (Up y) disk in
    let z : Site = site (Up (answered_so y a)) disk in
    let q : Memberships_go c W.memberships n z (command_line n d k a) [] = one c W n None None devices x (Does (Takes d k a)) u.ready tt in
    let m : NodeGoes c W n after disk (Up (answered_so y a)) q.machine = by_device c W n after disk (answered_so y a) q.machine q.run g in
    finish c W n None None None devices after x z (command_line n d k a) [] u.ready q m (joins c W n None None devices x (Does (Takes d k a)) u.ready tt)
    (record { me = u.ready.site_so.own.me; installs = installs_stay (setting_of c) W m.machine n n y.attempt u.ready.reached m.moves u.ready.site_so.own.installs })
    u.ready.site_so.valid tt tt

takes_then : (c : Cluster) (W : Whole) (n : ℕ) (devices after : Devices) (y : UpNode) (disk : NodeRecord) (d : ℕ) (k : PrCommand) (a : Answer) (replies : List Reply) (rest : Course)
    → Due c W n devices after y disk d k a → DeviceGoes (setting_of c) c W n after (answered_so y a) → AtTo c n None Any None (answered_so y a) rest
    → MayAll c n None (site (Up y) disk) (Does (Takes d k a) ∷ under replies rest) → Goes c W n after (site (Up y) disk) (Does (Takes d k a) ∷ under replies rest)
takes_then c W n devices after y disk d k a replies rest u g at may =
    let x : Site = site (Up y) disk in
    let z : Site = site (Up (answered_so y a)) disk in
    let ds : List Doing = under replies rest in
    let first : DoingGoes c W n after z (command_line n d k a) [] None = taken_so c W n devices after y disk d k a u g in
    then_goes c W n after after z (after_all c n z ds) (command_line n d k a) (given_all c n z ds) [] (of_doings n ds) None (hand_all None ds) u.ready.reached first
    (doings_go c first.machine n None None after z ds (ready_after c W n None None None devices after x z (command_line n d k a) [] u.ready first) may.1 (at_under c n None None (answered_so y a) disk replies rest at))

-- one small step, and no more
last_one : (c : Cluster) (W : Whole) (n : ℕ) (devices : Devices) (x : Site) (d : Doing) → DoingGoes c W n devices (effect c n x d) (gives c n x d) (of_doing n d) (hand_after None d)
    → Goes c W n devices x (d ∷ [])
last_one c W n devices x d g =
    subst (λ os. DoingGoes c W n devices (effect c n x d) os (of_doing n d ++ []) (hand_after None d)) (sym (append-nil (gives c n x d)))
    (subst (λ es. DoingGoes c W n devices (effect c n x d) (gives c n x d) es (hand_after None d)) (sym (append-nil (of_doing n d))) g)

-- The answer admits it.

admitted_own : (c : Cluster) (W V : Whole) (n : ℕ) (devices : Devices) (y : UpNode) (disk : NodeRecord) (a : Answer) (d : ℕ) → Ready c W n None None devices (site (Up y) disk) → Moves (setting_of c) W n V
    → Own V n (joining_so (answered_so y a) d)
admitted_own c W V n devices y disk a d r m =
    let s : NodeState = with_joined (state_of y.seat) d in
    record {
      me = ap (λ z. z.me) (state_with y.seat s) ∙ r.site_so.own.me;
      installs = installs_stay (setting_of c) W V n n y.attempt r.reached m r.site_so.own.installs;
    }

admitted_valid : (c : Cluster) (W : Whole) (n : ℕ) (y : UpNode) (disk : NodeRecord) (a : Answer) (d : ℕ) → SiteAt c W n (site (Up y) disk) → IsDevice d → IsDevices (record_of (joining_so (answered_so y a) d)).valid
admitted_valid c W n y disk a d at is =
    subst (λ (z : NodeState). IsDevices z.saved.valid) (sym (state_with y.seat (with_joined (state_of y.seat) d))) (device_with (record_of y).valid d (record_valid c W n y disk at) is)

admits_then : (c : Cluster) (W : Whole) (n : ℕ) (devices after : Devices) (y : UpNode) (disk : NodeRecord) (d e : ℕ) (k : PrCommand) (a : Answer) (replies : List Reply) (rest : Course)
    → Due c W n devices after y disk d k a → DeviceGoes (setting_of c) c W n after (joining_so (answered_so y a) e) → IsDevice e → AtTo c n None Any None (joining_so (answered_so y a) e) rest
    → MayAll c n None (site (Up y) disk) (Saves (Admits d k a e) ∷ under replies rest) → Goes c W n after (site (Up y) disk) (Saves (Admits d k a e) ∷ under replies rest)
admits_then c W n devices after y disk d e k a replies rest u g device at may =
    let x : Site = site (Up y) disk in
    let y' : UpNode = joining_so (answered_so y a) e in
    let z : Site = site (Up y') (record_of y') in
    let os : List Output = first_lines n (Admits d k a e) ++ saved_lines c n y (Admits d k a e) in
    let ds : List Doing = under replies rest in
    let q : Memberships_go c W.memberships n z os [] = one c W n None None devices x (Saves (Admits d k a e)) u.ready tt in
    let m : NodeGoes c W n after (record_of y') (Up y') q.machine = by_device c W n after (record_of y') y' q.machine q.run g in
    let first : DoingGoes c W n after z os [] None =
    finish c W n None None None devices after x z os [] u.ready q m (joins c W n None None devices x (Saves (Admits d k a e)) u.ready tt) (admitted_own c W m.machine n devices y disk a e u.ready m.moves)
    (admitted_valid c W n y disk a e u.ready.site_so device) (mute_told m.machine n os (saved_mute c n y (Admits d k a e))) tt in
    then_goes c W n after after z (after_all c n z ds) os (given_all c n z ds) [] (of_doings n ds) None (hand_all None ds) u.ready.reached first
    (doings_go c first.machine n None None after z ds (ready_after c W n None None None devices after x z os [] u.ready first) may.1 (at_under c n None None y' (record_of y') replies rest at))

-- .. and it goes down in the save, which has left the new record
admits_lost : (c : Cluster) (W : Whole) (n : ℕ) (devices after : Devices) (y : UpNode) (disk : NodeRecord) (d e : ℕ) (k : PrCommand) (a : Answer) (why : DownCause)
    → Due c W n devices after y disk d k a → DeviceGoes (setting_of c) c W n after (joining_so (answered_so y a) e) → IsDevice e → Goes c W n after (site (Up y) disk) (Loses (Admits d k a e) why ∷ [])
admits_lost c W n devices after y disk d e k a why u g device =
    let x : Site = site (Up y) disk in
    let y' : UpNode = joining_so (answered_so y a) e in
    let os : List Output = first_lines n (Admits d k a e) ++ gone_line n why in
    let q : Memberships_go c W.memberships n (site Down (record_of y')) os (membership.Crash n ∷ []) = one c W n None None devices x (Loses (Admits d k a e) why) u.ready tt in
    last_one c W n after x (Loses (Admits d k a e) why)
    (down c W g.machine n None None devices after x (record_of y') (Up y') os (membership.Crash n ∷ []) u.ready q g.moves g.devices_so g.at refl q.machine q.run
    (q.run.1 ∙ ap (λ M. membership.after M (membership.Crash n)) (sym g.memberships)) (admitted_valid c W n y disk a e u.ready.site_so device) (lost_mute n (Admits d k a e) why))

-- .. or the old one: to the machine the answer was lost
admits_forgotten : (c : Cluster) (W : Whole) (n : ℕ) (devices after : Devices) (y : UpNode) (disk : NodeRecord) (d e : ℕ) (k : PrCommand) (a : Answer) (why : DownCause)
    → Due c W n devices after y disk d k a → Goes c W n after (site (Up y) disk) (Forgets (Admits d k a e) why ∷ [])
admits_forgotten c W n devices after y disk d e k a why u =
    let x : Site = site (Up y) disk in
    let b : Answer = Err (record {}) in
    let g : DeviceGoes (setting_of c) c W n after (taken_by y b (progress_after y.tasks b)) = lost_so c W n devices after y disk d k a u in
    let os : List Output = first_lines n (Admits d k a e) ++ gone_line n why in
    let q : Memberships_go c W.memberships n (site Down disk) os (membership.Crash n ∷ []) = one c W n None None devices x (Forgets (Admits d k a e) why) u.ready tt in
    last_one c W n after x (Forgets (Admits d k a e) why)
    (down c W g.machine n None None devices after x disk (Up (taken_by y b (progress_after y.tasks b))) os (membership.Crash n ∷ []) u.ready q g.moves g.devices_so g.at
    ((sees_up c W n y disk u.ready.site_so).disk_so ∙ sym (failed_record y b (progress_after y.tasks b) (λ i. failed_no y.tasks b i refl)))
    q.machine q.run (q.run.1 ∙ ap (λ M. membership.after M (membership.Crash n)) (sym g.memberships)) u.ready.site_so.valid (lost_mute n (Admits d k a e) why))

-- What comes of the answer.

progress_goes : (c : Cluster) (W : Whole) (n : ℕ) (devices after : Devices) (y : UpNode) (disk : NodeRecord) (d : ℕ) (k : PrCommand) (a : Answer) (replies : List Reply) (p : Progress)
    → Due c W n devices after y disk d k a → progress_after y.tasks a ≡ p → MayAll c n None (site (Up y) disk) (under replies (progress_course c n y d k a p))
    → Goes c W n after (site (Up y) disk) (under replies (progress_course c n y d k a p))
progress_goes c W n devices after y disk d k a replies GoesOn u is may =
    takes_then c W n devices after y disk d k a replies Stops u (subst (λ p. DeviceGoes (setting_of c) c W n after (taken_by y a p)) is (done_so c W n devices after y disk d k a u)) tt may
progress_goes c W n devices after y disk d k a replies (Seized e r) u is may =
    takes_then c W n devices after y disk d k a replies (seized_course c n (answered_so y a) e r (coordinator_of (answered_so y a))) u
    (subst (λ p. DeviceGoes (setting_of c) c W n after (taken_by y a p)) is (done_so c W n devices after y disk d k a u)) (seized_here_to c n None y a e r is) may
progress_goes c W n devices after y disk d k a replies (Joined e (join.Late w)) u is may =
    takes_then c W n devices after y disk d k a replies (joined_course c n (answered_so y a) (coordinator_of (answered_so y a))) u
    (subst (λ p. DeviceGoes (setting_of c) c W n after (taken_by y a p)) is (done_so c W n devices after y disk d k a u)) (joined_course_to c n None (answered_so y a) (coordinator_of (answered_so y a))) may
progress_goes c W n devices after y disk d k a replies (Joined e join.Fault) u is may =
    takes_then c W n devices after y disk d k a replies (joined_course c n (answered_so y a) (coordinator_of (answered_so y a))) u
    (subst (λ p. DeviceGoes (setting_of c) c W n after (taken_by y a p)) is (done_so c W n devices after y disk d k a u)) (joined_course_to c n None (answered_so y a) (coordinator_of (answered_so y a))) may
progress_goes c W n devices after y disk d k a replies (Joined e join.Joined) u is may = by_replies replies may
  where
    g : DeviceGoes (setting_of c) c W n after (joining_so (answered_so y a) e)
    g = subst (λ p. DeviceGoes (setting_of c) c W n after (taken_by y a p)) is (done_so c W n devices after y disk d k a u)

    device : IsDevice e
    device = subst IsDevice (joined_device (find is_queued y.tasks) a d e join.Joined is u.device) u.is_device

    rest : Course
    rest = joined_course c n (joining_so (answered_so y a) e) (coordinator_of (joining_so (answered_so y a) e))

    by_replies : (rs : List Reply) → MayAll c n None (site (Up y) disk) (under rs (progress_course c n y d k a (Joined e join.Joined)))
        → Goes c W n after (site (Up y) disk) (under rs (progress_course c n y d k a (Joined e join.Joined)))
    by_replies [] m = admits_forgotten c W n devices after y disk d e k a down_by.Stopped u
    by_replies (Done ∷ rs) m =
        admits_then c W n devices after y disk d e k a rs rest u g device (joined_course_to c n None (joining_so (answered_so y a) e) (coordinator_of (joining_so (answered_so y a) e))) m
    by_replies (Lost_new why ∷ rs) m = admits_lost c W n devices after y disk d e k a why u g device
    by_replies (Lost_old why ∷ rs) m = admits_forgotten c W n devices after y disk d e k a why u

pub answered_goes : (c : Cluster) (W : Whole) (n : ℕ) (devices after : Devices) (y : UpNode) (disk : NodeRecord) (d : ℕ) (k : PrCommand) (a : Answer) (replies : List Reply)
    → Due c W n devices after y disk d k a → MayAll c n None (site (Up y) disk) (under replies (progress_course c n y d k a (progress_after y.tasks a)))
    → Goes c W n after (site (Up y) disk) (under replies (progress_course c n y d k a (progress_after y.tasks a)))
answered_goes c W n devices after y disk d k a replies u may = progress_goes c W n devices after y disk d k a replies (progress_after y.tasks a) u refl may
