-- A step of a node, from scene to scene.
use Rattle.std.specs.Prelude.{Err, Ok, ℕ, ◌++◌, ◌<◌, ◌^◌, ◌≡◌, List, [], ◌∷◌, None}
use Rattle.std.proofs.Common.{refl, ap, subst, sym}
use Rattle.attempt_laws.specs.Asking.{numbers_of}
use Rattle.cl_base.specs.declared.header.Header.{Header}
use Rattle.cl_base.specs.declared.method.Outcome as method
use Rattle.device_queue.specs.declared.progress.Progress.{Progress}
use Rattle.device_queue.specs.declared.progress.Progress.TheVariants.{GoesOn, Joined, Seized}
use Rattle.history.specs.Contact.{AttemptsDiffer}
use Rattle.history.specs.Moment.{Moment}
use Rattle.membership_machine.specs.State.{Memberships}
use Rattle.node_model.specs.Devices.{answer_told, joining_so}
use Rattle.node_model.specs.Seats.{coordinator_of}
use Rattle.node_model.specs.Steps.{Outcome, stepped}
use Rattle.node_model.specs.declared.cluster.Cluster.{Cluster}
use Rattle.node_model.specs.declared.input.Input.{Input}
use Rattle.node_model.specs.declared.node.UpNode.{UpNode}
use Rattle.node_model.specs.declared.node.Node.TheVariants.{Up}
use Rattle.node_model.specs.declared.output.Output.{Output}
use Rattle.node_model.specs.declared.output.Output.TheVariants.{Tells}
use Rattle.cmm_member.specs.Records.{NodeRecord}
use Rattle.pgr_device.specs.declared.command.PrAnswer.TheVariants as given
use Rattle.pgr_device.specs.declared.command.PrCommand.{PrCommand}
use Rattle.record_disk.specs.Disks.{DiskState}
use Rattle.refinement.proofs.EveryRun.{is_true}
use Rattle.refinement.proofs.Facts.{known_by, step_may}
use Rattle.refinement.proofs.Handlers.{delivered_by}
use Rattle.refinement.specs.Courses.{Course, Reply, under}
use Rattle.refinement.specs.Courses.Reply.{Done, Lost_new, Lost_old}
use Rattle.refinement.specs.Courses.Course.{Acts, Keeps, Stops}
use Rattle.refinement.specs.Cuts.{doings, fenced_course, joined_course, progress_course, seized_course}
use Rattle.refinement.specs.Doings.{Doing, Site, answered_so, effect, given_all, gives, saved_lines, site}
use Rattle.refinement.specs.Doings.Act.{Takes}
use Rattle.refinement.specs.Doings.Change.{Admits}
use Rattle.refinement.specs.Doings.Doing.{Does, Saves}
use Rattle.refinement.specs.Guards.{MayAll}
use Rattle.refinement.specs.Runs.{AnswersFit, Nodes, WasSent, moved}
use Rattle.refinement.specs.Runs.Move.{Takes as Takes_in}
use Rattle.refinement.specs.Steps.{disk_rules}
use Rattle.refinement.specs.Whole.{IsTrue}
use Rattle.refinement.specs.Worlds.{AllFit}
use Rattle.run_history.proofs.ContactWidths.{StepFits, all_spelled, move_fits}
use Rattle.run_history.proofs.Courses.{doings_so}
use Rattle.run_history.proofs.Heard.{low_number}
use Rattle.run_history.specs.CommandLines.{AllQuiet}
use Rattle.run_history.specs.Cuts.{StepCut}
use Rattle.run_history.specs.Happenings.{taking}
use Rattle.run_history.specs.Scenes.{Scene, passing}
use Rattle.run_history.specs.Stages.{Sized, site_of}
use Rattle.seize.specs.Answers.{Answer}
use Rattle.seize.specs.declared.kind.JoinResult.TheVariants as join
use Rattle.status_report.specs.declared.device_entry.DeviceEntry.TheVariants as device
use Rattle.status_report.specs.declared.entry.Entry.TheVariants as entry
use Rattle.wire.specs.Spelling.{IsNode}
use Rattle.run_seizings.proofs.Asked.{AllMay}
use Rattle.run_seizings.proofs.Steps.{Ground}
use Rattle.run_devices.proofs.readings.Goes.{Goes}
use Rattle.run_devices.specs.readings.Sites.{InHand, IsReading}
use Rattle.run_devices.specs.installs.Shown.{BodyShown, Shown, shown_in}
use Rattle.run_devices.proofs.installs.Acts.{MineIn}
use Rattle.run_devices.proofs.installs.Calls.{HandLow, HandShown}
use Rattle.run_devices.proofs.installs.Doings.{AllStill, Went, all_mine}
use Rattle.run_devices.proofs.installs.Links.{Gives}
use Rattle.run_devices.specs.readings.Readings.{AreInOrder}

-- ---- a step

-- the small steps, as this step is cut
abbrev pub small_of : (c : Cluster) (n now : ℕ) (ends : method.Outcome) (v : Nodes) (i : Input) → StepCut c n now ends v i → List Doing
small_of c n now ends v i cut = doings c n now ends cut.replies i (v.node n)

pub record Stepped (h : Header) (c : Cluster) (M : Memberships) (n high : ℕ) (K : Shown) (v : Nodes) (o : Outcome DiskState) (small : List Doing) (end : List Moment) : Type 0 where
  pub went : Went h c M n high K (site_of v n) small end
  pub fits : AllFit n o.given
  pub mine : MineIn K high o.after
  pub gives : Gives (BodyShown K went.machine end) n o.given

pub step_goes : (h : Header) (c : Cluster) (n now : ℕ) (ends : method.Outcome) (i : Input) (s : Scene) (high : ℕ) → c.id ≡ h.cluster → Sized c → AreInOrder (numbers_of c.attached)
    → (b : Ground c s.nodes) → IsNode n → now < 2 ^ 64 → WasSent s.nodes i → AnswersFit i → InHand h s.moments n (delivered_by i)
    → ((replies : List Reply) → AllMay h c n (delivered_by i) None (site_of s.nodes n) (doings c n now ends replies i (s.nodes.node n)))
    → AttemptsDiffer (taking c n now ends i s).moments → IsReading h s → (cut : StepCut c n now ends s.nodes i) → AllStill c n (site_of s.nodes n) (small_of c n now ends s.nodes i cut)
    → HandLow high (delivered_by i) → HandShown (shown_in h (taking c n now ends i s).moments) b.machine s.moments (delivered_by i)
    → MineIn (shown_in h (taking c n now ends i s).moments) high (s.nodes.node n)
    → Stepped h c b.machine n high (shown_in h (taking c n now ends i s).moments) s.nodes (stepped disk_rules c n now ends (s.nodes.node n) (s.nodes.disk n) i) (small_of c n now ends s.nodes i cut)
    (taking c n now ends i s).moments
step_goes h c n now ends i s high id sized apart b is time was answer hand guard differ k cut still low told mine =
    let v : Nodes = s.nodes in
    let M : Memberships = b.machine in
    let w : Nodes = moved c v (Takes_in n now ends i) in
    let o : Outcome DiskState = stepped disk_rules c n now ends (v.node n) (v.disk n) i in
    let truth : IsTrue M i = is_true M v i was b.sent in
    let x : Site = site_of v n in
    let small : List Doing = small_of c n now ends v i cut in
    let may : MayAll c n (delivered_by i) x small =
    step_may c M n now ends (v.node n) (v.disk n).kept i cut.replies is.1 sized.fits.devices.attached b.holds (b.stands n).tied (b.stands n).joins in
    let widths : StepFits c n o = move_fits c sized.fits v n now ends i (is.0, is.1, was, answer) time b.fits in
    let t : Scene = record s { nodes = w } in
    let spelled : AllFit n o.given = all_spelled n o.given is widths.given in
    let first : Goes h n (delivered_by i) v w x None t =
    record { here = k.sites n; there = λ j ne. k.sites j; carried = k.carried; hand = hand; turn = tt; nodes = refl; says = k.says; brings = k.brings } in
    let went : Went h c M n high (shown_in h (taking c n now ends i s).moments) x small (taking c n now ends i s).moments =
    all_mine h c M n (delivered_by i) high (taking c n now ends i s) v w x None small t id (low_number n is.1) sized.fits.devices.attached apart b.holds (known_by M i truth) (b.stands n).tied may
    (doings_so c n now ends cut.replies i (v.node n)) (guard cut.replies) (subst (λ os. AllFit n os) (sym cut.comes.given) spelled) differ
    (ap (λ os. passing n os t) cut.comes.given) still low told first mine in
    record {
      went = went;
      fits = spelled;
      mine = subst (λ (z : Site). MineIn (shown_in h (taking c n now ends i s).moments) high z.node) cut.comes.left went.mine;
      gives = subst (λ os. Gives (BodyShown (shown_in h (taking c n now ends i s).moments) went.machine (taking c n now ends i s).moments) n os) cut.comes.given went.gives;
    }

-- ---- what is shown by then

rest_quiet : (os more : List Output) → AllQuiet (os ++ more) → AllQuiet more
rest_quiet [] more q = q
rest_quiet (o ∷ os) more q = rest_quiet os more q.1

pub quiet_still : (c : Cluster) (n : ℕ) (x : Site) (ds : List Doing) → AllQuiet (given_all c n x ds) → AllStill c n x ds
quiet_still c n x [] q = tt
quiet_still c n x (d ∷ ds) q = ((λ stirs. q), quiet_still c n (effect c n x d) ds (rest_quiet (gives c n x d) (given_all c n (effect c n x d) ds) q))

-- after a write a node does nothing more
pub write_still : (c : Cluster) (n : ℕ) (x : Site) (d : ℕ) (a : Answer) (replies : List Reply) → AllStill c n x (under replies (fenced_course d a))
write_still c n x d (Ok given.Good) replies = tt
write_still c n x d (Ok given.Conflict) replies = ((λ stirs. absurd stirs), tt)
write_still c n x d (Ok given.InvalidRelease) replies = tt
write_still c n x d (Ok given.NoPath) replies = tt
write_still c n x d (Ok (given.Keys keys)) replies = tt
write_still c n x d (Ok (given.Holder holder)) replies = tt
write_still c n x d (Ok (given.Word word)) replies = tt
write_still c n x d (Ok (given.Value v)) replies = tt
write_still c n x d (Ok (given.Miscompare word)) replies = tt
write_still c n x d (Err e) replies = tt

abbrev tail_of : List Output → List Output
tail_of [] = []
tail_of (o ∷ os) = os

-- the command that was answered stands first, and nothing else is told of commands
pub progress_still : (c : Cluster) (n : ℕ) (y : UpNode) (disk : NodeRecord) (at : ℕ) (k : PrCommand) (a : Answer) (p : Progress) (replies : List Reply) (others : List Output)
    → given_all c n (site (Up y) disk) (under replies (progress_course c n y at k a p)) ≡ Tells (entry.Device (device.Command n at k (answer_told a))) ∷ others → AllQuiet others
    → AllStill c n (site (Up y) disk) (under replies (progress_course c n y at k a p))
progress_still c n y disk at k a p replies others is q = by_progress p replies is
  where
    line : Output
    line = Tells (entry.Device (device.Command n at k (answer_told a)))

    here : Site
    here = site (Up y) disk

    -- it is taken in memory
    taken : (course : Course) (replies : List Reply) → given_all c n here (under replies (Acts (Takes at k a) course)) ≡ line ∷ others
        → AllStill c n here (under replies (Acts (Takes at k a) course))
    taken course replies e =
        ((λ stirs. absurd stirs), quiet_still c n (effect c n here (Does (Takes at k a))) (under replies course) (subst AllQuiet (sym (ap tail_of e)) q))

    kept : (course : Course) (d : ℕ) (replies : List Reply) → given_all c n here (under replies (Keeps (Admits at k a d) course)) ≡ line ∷ others
        → AllStill c n here (under replies (Keeps (Admits at k a d) course))
    kept course d [] e = ((λ stirs. absurd stirs), tt)
    kept course d (Done ∷ rest) e = (
      (λ stirs. absurd stirs),
      quiet_still c n (effect c n here (Saves (Admits at k a d))) (under rest course)
          (rest_quiet (saved_lines c n y (Admits at k a d)) (given_all c n (effect c n here (Saves (Admits at k a d))) (under rest course)) (subst AllQuiet (sym (ap tail_of e)) q)),
    )
    kept course d (Lost_new why ∷ rest) e = ((λ stirs. absurd stirs), tt)
    kept course d (Lost_old why ∷ rest) e = ((λ stirs. absurd stirs), tt)

    by_progress : (p : Progress) (replies : List Reply) → given_all c n here (under replies (progress_course c n y at k a p)) ≡ line ∷ others
        → AllStill c n here (under replies (progress_course c n y at k a p))
    by_progress GoesOn replies e = taken Stops replies e
    by_progress (Seized d r) replies e = taken (seized_course c n (answered_so y a) d r (coordinator_of (answered_so y a))) replies e
    by_progress (Joined d join.Joined) replies e = kept (joined_course c n (joining_so (answered_so y a) d) (coordinator_of (joining_so (answered_so y a) d))) d replies e
    by_progress (Joined d (join.Late w)) replies e = taken (joined_course c n (answered_so y a) (coordinator_of (answered_so y a))) replies e
    by_progress (Joined d join.Fault) replies e = taken (joined_course c n (answered_so y a) (coordinator_of (answered_so y a))) replies e
