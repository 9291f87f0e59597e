-- A step of a node, from scene to scene.
use Rattle.std.specs.Prelude.{List, None, [], ℕ, ◌<◌, ◌^◌, ◌≡◌}
use Rattle.std.proofs.Common.{refl, subst, sym}
use Rattle.attempt_laws.specs.Asking.{numbers_of}
use Rattle.cl_base.specs.declared.header.Header.{Header}
use Rattle.cl_base.specs.declared.method.Outcome as method
use Rattle.history.specs.Contact.{AttemptsDiffer}
use Rattle.membership_machine.specs.State.{Memberships}
use Rattle.node_model.specs.Steps.{Outcome, stepped}
use Rattle.node_model.specs.declared.cluster.Cluster.{Cluster}
use Rattle.node_model.specs.declared.input.Input.{Input}
use Rattle.record_disk.specs.Disks.{DiskState}
use Rattle.refinement.proofs.Disks.{disks_keep_rules}
use Rattle.refinement.proofs.EveryRun.{is_true}
use Rattle.refinement.proofs.Facts.{known_by, step_may}
use Rattle.refinement.proofs.Handlers.{delivered_by}
use Rattle.refinement.proofs.Replies.{steps_are_cut}
use Rattle.refinement.specs.Courses.{Reply}
use Rattle.refinement.specs.Cuts.{doings}
use Rattle.refinement.specs.Doings.{Doing, Site, after_all, given_all, site}
use Rattle.refinement.specs.Guards.{MayAll}
use Rattle.refinement.specs.Runs.{AnswersFit, Nodes, WasSent, moved}
use Rattle.refinement.specs.Runs.Move.{Takes as Takes_in}
use Rattle.refinement.specs.Steps.{IsCut, disk_rules}
use Rattle.refinement.specs.Ties.{Delivered}
use Rattle.refinement.specs.Whole.{IsTrue}
use Rattle.refinement.specs.Worlds.{AllFit}
use Rattle.run_history.proofs.ContactWidths.{StepFits, all_spelled, move_fits}
use Rattle.run_history.proofs.Courses.{doings_so}
use Rattle.run_history.proofs.Heard.{low_number}
use Rattle.run_history.proofs.Steps.{put_all}
use Rattle.run_history.proofs.WholeSteps.{hand_all}
use Rattle.run_history.specs.Happenings.{taking}
use Rattle.run_history.specs.Scenes.{Scene, passing}
use Rattle.run_history.specs.Stages.{Sized, site_of}
use Rattle.wire.specs.Spelling.{IsNode}
use Rattle.run_seizings.proofs.Asked.{AllMay}
use Rattle.run_seizings.proofs.Steps.{Ground}
use Rattle.run_devices.proofs.readings.Doings.{all_go}
use Rattle.run_devices.proofs.readings.Goes.{Goes}
use Rattle.run_devices.specs.readings.Sites.{InHand, IsReading, SiteSo}
use Rattle.run_devices.specs.readings.Readings.{AreInOrder}

-- ---- a step

pub step_reads : (h : Header) (c : Cluster) (n now : ℕ) (ends : method.Outcome) (i : Input) (s : Scene) → c.id ≡ h.cluster → Sized c → AreInOrder (numbers_of c.attached) → Ground c s.nodes
    → IsNode n → now < 2 ^ 64 → WasSent s.nodes i → AnswersFit i
    → InHand h s.moments n (delivered_by i) →
    ((replies : List Reply) → AllMay h c n (delivered_by i) None (site_of s.nodes n) (doings c n now ends replies i (s.nodes.node n)))
    → AttemptsDiffer (taking c n now ends i s).moments → IsReading h s → IsReading h (taking c n now ends i s)
step_reads h c n now ends i s id sized apart b is time was answer hand guard differ k =
    let v : Nodes = s.nodes in
    let M : Memberships = b.machine in
    let w : Nodes = moved c v (Takes_in n now ends i) in
    let o : Outcome DiskState = stepped disk_rules c n now ends (v.node n) (v.disk n) i in
    let cut : IsCut disk_rules c n now ends (v.node n) (v.disk n) i [] o = steps_are_cut disk_rules disks_keep_rules c n now ends (v.node n) (v.disk n) i in
    let told : Delivered = delivered_by i in
    let truth : IsTrue M i = is_true M v i was b.sent in
    let x : Site = site_of v n in
    let small : List Doing = doings c n now ends cut.replies i (v.node n) in
    let may : MayAll c n told x small =
    step_may c M n now ends (v.node n) (v.disk n).kept i cut.replies is.1 sized.fits.devices.attached b.holds (b.stands n).tied (b.stands n).joins in
    let widths : StepFits c n o = move_fits c sized.fits v n now ends i (is.0, is.1, was, answer) time b.fits in
    let t : Scene = record s { nodes = w } in
    let first : Goes h n told v w x None t =
    record { here = k.sites n; there = λ j ne. k.sites j; carried = k.carried; hand = hand; turn = tt; nodes = refl; says = k.says; brings = k.brings } in
    let gone : Goes h n told v w (after_all c n x small) (hand_all None small) (passing n (given_all c n x small) t) =
    all_go h c M n told v w x None small t id (low_number n is.1) sized.fits.devices.attached apart b.holds (known_by M i truth) (b.stands n).tied may
    (doings_so c n now ends cut.replies i (v.node n)) (guard cut.replies)
    (subst (λ os. AllFit n os) (sym cut.comes.given) (all_spelled n o.given is widths.given))
    (subst (λ os. AttemptsDiffer (passing n os t).moments) (sym cut.comes.given) differ) first in
    let after : Goes h n told v w (site o.after o.disk.kept) (hand_all None small) (passing n o.given t) =
    subst (λ os. Goes h n told v w (site o.after o.disk.kept) (hand_all None small) (passing n os t)) cut.comes.given
    (subst (λ z. Goes h n told v w z (hand_all None small) (passing n (given_all c n x small) t)) cut.comes.left gone) in
    let r : Scene = passing n o.given t in
    record {
      sites = subst (λ (z : Nodes). (j : ℕ) → SiteSo h r.moments j (site_of z j)) (sym after.nodes)
          (put_all (λ j node disk. SiteSo h r.moments j (site node disk)) v n o.after o.disk after.here after.there);
      carried = after.carried;
      says = after.says;
      brings = after.brings;
    }
