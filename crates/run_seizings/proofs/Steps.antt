-- A step of a node, from scene to scene.
use Rattle.std.specs.Prelude.{ℕ, ◌≡◌, ◌<◌, ◌^◌, nat_lt, List, [], ◌∷◌, Option, None, Some, Ok, if◌then◌else◌}
use Rattle.std.specs.List.{AllByRecursion}
use Rattle.std.proofs.Common.{refl, sym, ap, subst, ◌∙◌, inl, inr}
use Rattle.cl_base.specs.declared.header.Header.{Header}
use Rattle.cl_base.specs.declared.method.Outcome as method
use Rattle.cmm_attempt.proofs.Basics.{if_either}
use Rattle.cmm_member.specs.Records.{NodeRecord}
use Rattle.device_queue.specs.Queue.{due_device, next_of, progress_after}
use Rattle.device_queue.specs.declared.progress.Progress.{Progress}
use Rattle.device_queue.specs.declared.progress.Progress.TheVariants.{GoesOn, Joined, Seized}
use Rattle.membership_machine.specs.Invariant.{Holds}
use Rattle.membership_machine.specs.State.{Memberships}
use Rattle.pgr_device.specs.declared.command.PrAnswer.TheVariants as given
use Rattle.pgr_device.specs.declared.command.PrCommand.{PrCommand}
use Rattle.pgr_device.specs.declared.command.PrCommand.TheVariants as command
use Rattle.record_disk.specs.Disks.{DiskState}
use Rattle.seize.specs.Answers.{Answer}
use Rattle.seize.specs.declared.kind.JoinResult.TheVariants as join
use Rattle.wire.specs.Spelling.{IsNode}
use Rattle.wire.specs.declared.message.Body.{Body}
use Rattle.wire.specs.declared.message.Body.TheVariants as body
use Rattle.wire.specs.declared.message.Message.{Message}
use Rattle.history.specs.Contact.{AttemptsDiffer}
use Rattle.node_model.specs.Devices.{joining_so}
use Rattle.node_model.specs.Members.{hearing, is_foreign}
use Rattle.node_model.specs.Seats.{coordinator_of, is_in, promised_of, record_of}
use Rattle.node_model.specs.Steps.{Outcome, at_second, stepped}
use Rattle.node_model.specs.declared.cluster.Cluster.{Cluster}
use Rattle.node_model.specs.declared.input.Input.{Input}
use Rattle.node_model.specs.declared.input.Input.TheVariants as input
use Rattle.node_model.specs.declared.node.Node.{Node}
use Rattle.node_model.specs.declared.node.Node.TheVariants.{Down, Up}
use Rattle.node_model.specs.declared.node.UpNode.{UpNode}
use Rattle.refinement.specs.node_widths.Widths.{NodeFits}
use Rattle.refinement.proofs.Disks.{disks_keep_rules}
use Rattle.refinement.proofs.EveryRun.{is_true}
use Rattle.refinement.proofs.Facts.{known_by, step_may}
use Rattle.refinement.proofs.Handlers.{delivered_by}
use Rattle.refinement.proofs.Replies.{steps_are_cut}
use Rattle.refinement.specs.Courses.{Course, Reply, under}
use Rattle.refinement.specs.Courses.Course.{Acts, Falls, Keeps, Stops}
use Rattle.refinement.specs.Courses.Reply.{Done, Lost_new, Lost_old}
use Rattle.refinement.specs.Cuts as cuts
use Rattle.refinement.specs.Cuts.{answered_course, doings, joined_course, progress_course, seized_course}
use Rattle.refinement.specs.Doings.{Doing, Site, after_all, answered_so, given_all, site}
use Rattle.refinement.specs.Guards.{MayAll}
use Rattle.refinement.specs.Runs.{AnswersFit, Letter, Nodes, WasSent, moved}
use Rattle.refinement.specs.Runs.Move.{Takes as Takes_in}
use Rattle.refinement.specs.Steps.{IsCut, disk_rules}
use Rattle.refinement.specs.Ties.{Delivered, MessageTold, setting_of}
use Rattle.refinement.specs.Whole.{IsTrue, Stands}
use Rattle.refinement.specs.Widths.{RunFits}
use Rattle.refinement.specs.Worlds.{AllFit}
use Rattle.run_history.proofs.AtSteps.{IsNoAnswer, joined_course_to, seized_here_to}
use Rattle.run_history.proofs.ContactWidths.{StepFits, all_spelled, move_fits}
use Rattle.run_history.proofs.Courses.{doings_so}
use Rattle.run_history.proofs.Heard.{low_number}
use Rattle.run_history.proofs.Steps.{put_all}
use Rattle.run_history.proofs.WholeScenes.{node_at}
use Rattle.run_history.proofs.WholeSteps.{at_under, hand_all}
use Rattle.run_history.specs.Happenings.{taking}
use Rattle.run_history.specs.Scenes.{Scene, passing}
use Rattle.run_history.specs.Stages.{Sized, Stage, site_of}
use Rattle.run_seizings.specs.Sites.{InHand, IsSeizing, SiteSo}
use Rattle.run_seizings.proofs.Acts.{IsDue}
use Rattle.run_seizings.proofs.Changes.{IsPromise, NotCollect}
use Rattle.run_seizings.proofs.Doings.{all_go}
use Rattle.run_seizings.proofs.Asked.{AllMay, SavedSo, all_calm, all_may}
use Rattle.run_seizings.proofs.Goes.{Goes}
use Rattle.run_seizings.proofs.Stages.{AreOwn}

-- what is known of all nodes
pub record Ground (c : Cluster) (v : Nodes) : Type 0 where
  pub machine : Memberships
  pub holds : Holds (setting_of c) machine
  pub stands : (n : ℕ) → Stands c machine n (v.node n) (v.disk n).kept
  pub sent : AllByRecursion (λ (l : Letter). MessageTold machine l.from l.body) v.sent
  pub fits : RunFits c v

pub ground_of : (c : Cluster) (s : Scene) → Stage c s → Ground c s.nodes
ground_of c s b = record { machine = b.machine; holds = b.holds; stands = b.stands; sent = b.sent; fits = b.fits }

-- ---- what the small steps ask

-- where a Collect is in hand, nothing but a promise is saved
abbrev CoursePromises : Course → Type 0
CoursePromises Stops = Unit {0}
CoursePromises (Acts a rest) = CoursePromises rest
CoursePromises (Keeps change rest) = IsPromise change × CoursePromises rest
CoursePromises (Falls why) = Unit {0}

under_promises : (told : Delivered) (replies : List Reply) (k : Course) → CoursePromises k → AllByRecursion (SavedSo told) (under replies k)
under_promises told replies Stops p = tt
under_promises told replies (Acts a rest) p = (tt, under_promises told replies rest p)
under_promises told [] (Keeps change rest) p = (tt, tt)
under_promises told (Done ∷ replies) (Keeps change rest) p = (inl p.0, under_promises told replies rest p.1)
under_promises told (Lost_new why ∷ replies) (Keeps change rest) p = (tt, tt)
under_promises told (Lost_old why ∷ replies) (Keeps change rest) p = (tt, tt)
under_promises told replies (Falls why) p = (tt, tt)

collect_promises : (x : UpNode) (from p : ℕ) → CoursePromises (cuts.collect_course x from p)
collect_promises x from p =
    if_either CoursePromises (nat_lt (promised_of x) p) _ (if is_in x p then _ else _) (tt, tt) (if_either CoursePromises (is_in x p) _ _ tt tt)

collect_saves : (c : Cluster) (n now : ℕ) (ends : method.Outcome) (node : Node) (replies : List Reply) (from : ℕ) (m : Message) (e members : ℕ)
    → m.body ≡ body.Collect e members
    → AllByRecursion (SavedSo (Some (from, m))) (doings c n now ends replies (input.Packet from m) node)
collect_saves c n now ends Down replies from m e members is = tt
collect_saves c n now ends (Up x) replies from m e members is =
    let y : UpNode = at_second now x in (
      tt,
      under_promises (Some (from, m)) replies (cuts.packet_course c n ends y from m)
          (if_either CoursePromises (is_foreign c n y m.body) Stops _ tt
          (subst (λ b. CoursePromises (cuts.body_course c n ends (hearing y from m.body) from m b)) (sym is) (collect_promises (hearing y from m.body) from e))),
    )

packet_saves : (c : Cluster) (n now : ℕ) (ends : method.Outcome) (node : Node) (replies : List Reply) (from : ℕ) (m : Message) (b : Body) → m.body ≡ b
    → AllByRecursion (SavedSo (Some (from, m))) (doings c n now ends replies (input.Packet from m) node)
packet_saves c n now ends node replies from m (body.Collect e members) is = collect_saves c n now ends node replies from m e members is
packet_saves c n now ends node replies from m (body.Heartbeat promised session is_one) is = all_calm (Some (from, m)) _ (subst NotCollect (sym is) tt)
packet_saves c n now ends node replies from m (body.Promise p newest members valid flagged committed pending) is = all_calm (Some (from, m)) _
    (subst NotCollect (sym is) tt)
packet_saves c n now ends node replies from m (body.Nack p promised) is = all_calm (Some (from, m)) _ (subst NotCollect (sym is) tt)
packet_saves c n now ends node replies from m (body.SeizeQuorum e members d) is = all_calm (Some (from, m)) _ (subst NotCollect (sym is) tt)
packet_saves c n now ends node replies from m (body.SeizeData e members d) is = all_calm (Some (from, m)) _ (subst NotCollect (sym is) tt)
packet_saves c n now ends node replies from m (body.Seized e d r) is = all_calm (Some (from, m)) _ (subst NotCollect (sym is) tt)
packet_saves c n now ends node replies from m (body.Install i) is = all_calm (Some (from, m)) _ (subst NotCollect (sym is) tt)
packet_saves c n now ends node replies from m (body.Ready p joined report) is = all_calm (Some (from, m)) _ (subst NotCollect (sym is) tt)
packet_saves c n now ends node replies from m (body.Start p) is = all_calm (Some (from, m)) _ (subst NotCollect (sym is) tt)
packet_saves c n now ends node replies from m (body.Prepare p place text) is = all_calm (Some (from, m)) _ (subst NotCollect (sym is) tt)
packet_saves c n now ends node replies from m (body.Prepared p place) is = all_calm (Some (from, m)) _ (subst NotCollect (sym is) tt)
packet_saves c n now ends node replies from m (body.Commit p place) is = all_calm (Some (from, m)) _ (subst NotCollect (sym is) tt)
packet_saves c n now ends node replies from m (body.Order o) is = all_calm (Some (from, m)) _ (subst NotCollect (sym is) tt)
packet_saves c n now ends node replies from m (body.Done p number outcome) is = all_calm (Some (from, m)) _ (subst NotCollect (sym is) tt)
packet_saves c n now ends node replies from m (body.Request p number text) is = all_calm (Some (from, m)) _ (subst NotCollect (sym is) tt)
packet_saves c n now ends node replies from m (body.Answer p number text) is = all_calm (Some (from, m)) _ (subst NotCollect (sym is) tt)
packet_saves c n now ends node replies from m (body.Excluded p newest) is = all_calm (Some (from, m)) _ (subst NotCollect (sym is) tt)

saves_so : (c : Cluster) (n now : ℕ) (ends : method.Outcome) (node : Node) (replies : List Reply) (i : Input)
    → AllByRecursion (SavedSo (delivered_by i)) (doings c n now ends replies i node)
saves_so c n now ends node replies (input.Packet from m) = packet_saves c n now ends node replies from m m.body refl
saves_so c n now ends node replies input.Boot = all_calm None _ tt
saves_so c n now ends node replies input.Crash = all_calm None _ tt
saves_so c n now ends node replies input.Tick = all_calm None _ tt
saves_so c n now ends node replies input.CommandDue = all_calm None _ tt
saves_so c n now ends node replies (input.Answered a) = all_calm None _ tt
saves_so c n now ends node replies (input.Wrote d value a) = all_calm None _ tt
saves_so c n now ends node replies (input.Commanded words) = all_calm None _ tt
saves_so c n now ends node replies (input.Reported r good) = all_calm None _ tt
saves_so c n now ends node replies (input.Client address client port) = all_calm None _ tt

pub plain_may : (h : Header) (c : Cluster) (n now : ℕ) (ends : method.Outcome) (node : Node) (disk : NodeRecord) (i : Input) → IsNoAnswer i → now < 2 ^ 64
    → NodeFits c n node → (replies : List Reply)
    → AllMay h c n (delivered_by i) None (site node disk) (doings c n now ends replies i node)
plain_may h c n now ends node disk i is time fit replies =
    all_may h c n (delivered_by i) None (site node disk) (doings c n now ends replies i node) (node_at c n now ends node disk replies i is time fit)
    (saves_so c n now ends node replies i)

-- ---- the answer to a command

answered_at : (h : Header) (c : Cluster) (n d : ℕ) (k : PrCommand) (a : Answer) (x : UpNode) (disk : NodeRecord) (replies : List Reply) → IsDue h x d k a
    → (p : Progress) → progress_after x.tasks a ≡ p
    → AllMay h c n None None (site (Up x) disk) (under replies (progress_course c n x d k a p))
answered_at h c n d k a x disk replies due GoesOn is = (due, tt)
answered_at h c n d k a x disk replies due (Seized e r) is =
    let y : UpNode = answered_so x a in
    let rest : Course = seized_course c n y e r (coordinator_of y) in (
      due,
      all_may h c n None None (site (Up y) disk) (under replies rest) (at_under c n None None y disk replies rest (seized_here_to c n None x a e r is))
          (all_calm None (under replies rest) tt),
    )
answered_at h c n d k a x disk replies due (Joined e (join.Late w)) is =
    let y : UpNode = answered_so x a in
    let rest : Course = joined_course c n y (coordinator_of y) in (
      due,
      all_may h c n None None (site (Up y) disk) (under replies rest)
          (at_under c n None None y disk replies rest (joined_course_to c n None y (coordinator_of y))) (all_calm None (under replies rest) tt),
    )
answered_at h c n d k a x disk replies due (Joined e join.Fault) is =
    let y : UpNode = answered_so x a in
    let rest : Course = joined_course c n y (coordinator_of y) in (
      due,
      all_may h c n None None (site (Up y) disk) (under replies rest)
          (at_under c n None None y disk replies rest (joined_course_to c n None y (coordinator_of y))) (all_calm None (under replies rest) tt),
    )
answered_at h c n d k a x disk [] due (Joined e join.Joined) is = (tt, tt)
answered_at h c n d k a x disk (Lost_new why ∷ replies) due (Joined e join.Joined) is = (tt, tt)
answered_at h c n d k a x disk (Lost_old why ∷ replies) due (Joined e join.Joined) is = (tt, tt)
answered_at h c n d k a x disk (Done ∷ replies) due (Joined e join.Joined) is =
    let y : UpNode = joining_so (answered_so x a) e in
    let rest : Course = joined_course c n y (coordinator_of y) in (
      (due, inr tt),
      all_may h c n None None (site (Up y) (record_of y)) (under replies rest)
          (at_under c n None None y (record_of y) replies rest (joined_course_to c n None y (coordinator_of y))) (all_calm None (under replies rest) tt),
    )

-- what a reading of keys shows
abbrev pub OwnKeysOnly : Header → Node → Answer → Type 0
OwnKeysOnly h Down a = Unit {0}
OwnKeysOnly h (Up x) a = next_of x.tasks ≡ Some command.Keys → (ks : List ℕ) → a ≡ Ok (given.Keys ks) → AreOwn h.cluster ks

pub answer_may : (h : Header) (c : Cluster) (n now : ℕ) (ends : method.Outcome) (node : Node) (disk : NodeRecord) (a : Answer) → OwnKeysOnly h node a
    → (replies : List Reply)
    → AllMay h c n None None (site node disk) (doings c n now ends replies (input.Answered a) node)
answer_may h c n now ends Down disk a own replies = tt
answer_may h c n now ends (Up x) disk a own replies = (tt, by_due (due_device y.tasks) (next_of y.tasks) refl refl)
  where
    y : UpNode
    y = at_second now x

    by_due : (o : Option ℕ) (q : Option PrCommand) → due_device y.tasks ≡ o → next_of y.tasks ≡ q
        → AllMay h c n None None (site (Up y) disk) (under replies (answered_course c n y a o q))
    by_due None q device next = tt
    by_due (Some d) None device next = tt
    by_due (Some d) (Some k) device next =
        answered_at h c n d k a y disk replies (device, next, (λ reads. own (next ∙ ap Some reads))) (progress_after y.tasks a) refl

-- ---- a step

pub step_seizes : (h : Header) (c : Cluster) (n now : ℕ) (ends : method.Outcome) (i : Input) (s : Scene) → c.id ≡ h.cluster → Sized c → Ground c s.nodes
    → IsNode n → now < 2 ^ 64 → WasSent s.nodes i → AnswersFit i
    → InHand h s.moments n (delivered_by i) →
    ((replies : List Reply) → AllMay h c n (delivered_by i) None (site_of s.nodes n) (doings c n now ends replies i (s.nodes.node n)))
    → AttemptsDiffer (taking c n now ends i s).moments → IsSeizing h s → IsSeizing h (taking c n now ends i s)
step_seizes h c n now ends i s id sized b is time was answer hand guard differ k =
    let v : Nodes = s.nodes in
    let M : Memberships = b.machine in
    let w : Nodes = moved c v (Takes_in n now ends i) in
    let o : Outcome DiskState = stepped disk_rules c n now ends (v.node n) (v.disk n) i in
    let cut : IsCut disk_rules c n now ends (v.node n) (v.disk n) i [] o = steps_are_cut disk_rules disks_keep_rules c n now ends (v.node n) (v.disk n) i in
    let told : Delivered = delivered_by i in
    let truth : IsTrue M i = is_true M v i was b.sent in
    let x : Site = site_of v n in
    let small : List Doing = doings c n now ends cut.replies i (v.node n) in
    let may : MayAll c n told x small =
    step_may c M n now ends (v.node n) (v.disk n).kept i cut.replies is.1 sized.fits.devices.attached b.holds (b.stands n).tied (b.stands n).joins in
    let widths : StepFits c n o = move_fits c sized.fits v n now ends i (is.0, is.1, was, answer) time b.fits in
    let t : Scene = record s { nodes = w } in
    let first : Goes h n told v w x None t =
    record { here = k.sites n; there = λ j ne. k.sites j; carried = k.carried; hand = hand; turn = tt; nodes = refl; held = k.held; known = k.known } in
    let gone : Goes h n told v w (after_all c n x small) (hand_all None small) (passing n (given_all c n x small) t) =
    all_go h c M n told v w x None small t id (low_number n is.1) sized.fits.devices.attached b.holds (known_by M i truth) (b.stands n).tied may
    (doings_so c n now ends cut.replies i (v.node n)) (guard cut.replies)
    (subst (λ os. AllFit n os) (sym cut.comes.given) (all_spelled n o.given is widths.given))
    (subst (λ os. AttemptsDiffer (passing n os t).moments) (sym cut.comes.given) differ) first in
    let after : Goes h n told v w (site o.after o.disk.kept) (hand_all None small) (passing n o.given t) =
    subst (λ os. Goes h n told v w (site o.after o.disk.kept) (hand_all None small) (passing n os t)) cut.comes.given
    (subst (λ z. Goes h n told v w z (hand_all None small) (passing n (given_all c n x small) t)) cut.comes.left gone) in
    let r : Scene = passing n o.given t in
    record {
      sites = subst (λ (z : Nodes). (j : ℕ) → SiteSo h r.moments j (site_of z j)) (sym after.nodes)
          (put_all (λ j node disk. SiteSo h r.moments j (site node disk)) v n o.after o.disk after.here after.there);
      carried = after.carried;
      held = after.held;
      known = after.known;
    }
