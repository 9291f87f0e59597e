-- A step of a node: the lines of its ends and installs come while it leads.
use Rattle.std.specs.Prelude.{ℕ, ◌≡◌, ◌<◌, ◌^◌, nat_le, All, true, List, [], ◌∷◌, None}
use Rattle.std.proofs.Common.{refl, sym, subst}
use Rattle.cl_base.specs.declared.header.Header.{Header}
use Rattle.cl_base.specs.declared.method.Outcome as method
use Rattle.cmm_attempt.specs.Calls.{IsDevice}
use Rattle.history.specs.Contact.{AttemptsDiffer}
use Rattle.membership_machine.specs.Invariant.{Holds}
use Rattle.membership_machine.specs.State.{Memberships}
use Rattle.node_model.specs.Steps.{Outcome, stepped}
use Rattle.node_model.specs.declared.cluster.Cluster.{Cluster}
use Rattle.node_model.specs.declared.input.Input.{Input}
use Rattle.node_model.specs.declared.node.Node.{Node}
use Rattle.node_model.specs.declared.node.Node.TheVariants.{Down, Up}
use Rattle.node_model.specs.declared.output.Output.{Output}
use Rattle.record_disk.specs.Disks.{DiskState}
use Rattle.refinement.proofs.Acts.{does_one}
use Rattle.refinement.proofs.Disks.{disks_keep_rules}
use Rattle.refinement.proofs.EveryRun.{is_true}
use Rattle.refinement.proofs.Facts.{known_by, step_may}
use Rattle.refinement.proofs.Handlers.{delivered_by}
use Rattle.refinement.proofs.Replies.{steps_are_cut}
use Rattle.refinement.proofs.Ties.{known_stays}
use Rattle.refinement.specs.Courses.{Reply}
use Rattle.refinement.specs.Cuts.{doings}
use Rattle.refinement.specs.Doings.{Doing, Site, effect, given_all, gives, site}
use Rattle.refinement.specs.Events.{of_doing}
use Rattle.refinement.specs.Guards.{May, MayAll}
use Rattle.refinement.specs.Runs.{AnswersFit, Nodes, WasSent, moved}
use Rattle.refinement.specs.Runs.Move.{Takes as Takes_in}
use Rattle.refinement.specs.Steps.{IsCut, disk_rules}
use Rattle.refinement.specs.Ties.{Delivered, GoesOn, Known, NodeTied, SiteTied, setting_of}
use Rattle.refinement.specs.Whole.{IsTrue}
use Rattle.refinement.specs.Worlds.{AllFit}
use Rattle.run_history.proofs.ContactWidths.{StepFits, all_spelled, move_fits}
use Rattle.run_history.proofs.Courses.{doings_so}
use Rattle.run_history.proofs.Heard.{low_number}
use Rattle.run_history.proofs.Walk.{passing_append}
use Rattle.run_history.specs.Guards.{Hand, hand_after}
use Rattle.run_history.specs.Happenings.{taking}
use Rattle.run_history.specs.Marks.{AllSo, DoingSo}
use Rattle.run_history.specs.Scenes.{Scene, passing}
use Rattle.run_history.specs.Stages.{Sized, site_of}
use Rattle.run_seizings.specs.Sites.{InHand, IsSeizing, UpIn}
use Rattle.run_seizings.proofs.Asked.{AllMay, DoingMay}
use Rattle.run_seizings.proofs.Changes.{fit_parts}
use Rattle.run_seizings.proofs.Doings.{differ_before, doing_goes, rises_so}
use Rattle.run_seizings.proofs.Goes.{Goes}
use Rattle.run_seizings.proofs.Steps.{Ground}
use Rattle.wire.specs.Spelling.{IsNode}
use Rattle.run_outcomes.specs.counts.Ends as ends
use Rattle.run_outcomes.specs.counts.Ends.{Last, last_after}
use Rattle.run_outcomes.specs.saves.Kept.{IsOnWay}
use Rattle.run_outcomes.proofs.counts.Courses.{doings_fit}
use Rattle.run_outcomes.proofs.led.Changes.{Led}
use Rattle.run_outcomes.proofs.led.Doings.{doing_led, down_led}
use Rattle.run_outcomes.proofs.led.Lines.{AllLed}

-- ---- small steps one after another

one_led : (h : Header) (c : Cluster) (M : Memberships) (n : ℕ) (told : Delivered) (v w : Nodes) (x : Site) (g : Hand) (d : Doing) (last : Last) (s : Scene) → Holds (setting_of c) M → Known M told → SiteTied c M n x
    → May c n told x d → DoingSo d → DoingMay h n told g x d → ends.DoingFits last x d → Goes h n told v w x g s → Led n x.node last s.moments
    → Led n (effect c n x d).node (last_after last d) (passing n (gives c n x d) s).moments
one_led h c M n told v w x g d last s holds known tied may so guard fits goes k = by_node x.node tied may guard fits goes.here.up k
  where
    by_node : (node : Node) → NodeTied c M n x.disk node → May c n told (site node x.disk) d → DoingMay h n told g (site node x.disk) d → ends.DoingFits last (site node x.disk) d → UpIn h s.moments n node → Led n node last s.moments
        → Led n (effect c n (site node x.disk) d).node (last_after last d) (passing n (gives c n (site node x.disk) d) s).moments
    by_node Down t m e f u l = down_led c n told x.disk d last s m l
    by_node (Up y) t m e f u l = doing_led h c M n told x.disk y g d last s (record { holds = holds; known = known; tied = t }) m so e f goes.hand u l

all_led : (h : Header) (c : Cluster) (M : Memberships) (n : ℕ) (told : Delivered) (v w : Nodes) (x : Site) (g : Hand) (small : List Doing) (last : Last) (s : Scene) → c.id ≡ h.cluster → nat_le n 32 ≡ true → All IsDevice c.attached
    → Holds (setting_of c) M → Known M told → SiteTied c M n x → MayAll c n told x small → AllSo small → AllMay h c n told g x small → ends.AllFit c n last x small → AllFit n (given_all c n x small)
    → AttemptsDiffer (passing n (given_all c n x small) s).moments → Goes h n told v w x g s → Led n x.node last s.moments → AllLed (passing n (given_all c n x small) s).moments
all_led h c M n told v w x g [] last s id low fits holds known tied may so guard ending fit differ goes k = k.lines
all_led h c M n told v w x g (d ∷ small) last s id low fits holds known tied may so guard ending fit differ goes k =
    let first : List Output = gives c n x d in
    let rest : List Output = given_all c n (effect c n x d) small in
    let parts : AllFit n first × AllFit n rest = fit_parts n first rest fit in
    let o : GoesOn c M n (effect c n x d) first (of_doing n d) = does_one c M n told x d fits holds known tied may.0 in
    let later : AttemptsDiffer (passing n rest (passing n first s)).moments = subst (λ (t : Scene). AttemptsDiffer t.moments) (passing_append n first rest s) differ in
    let one : Goes h n told v w (effect c n x d) (hand_after g d) (passing n first s) =
    doing_goes h c M n told v w x g d s id low holds known tied may.0 so.0 guard.0 (rises_so c M o.machine n x (effect c n x d) tied o.tied o.grows) parts.0
    (differ_before n rest (passing n first s) later) goes in
    let two : Led n (effect c n x d).node (last_after last d) (passing n first s).moments = one_led h c M n told v w x g d last s holds known tied may.0 so.0 guard.0 ending.0 goes k in
    subst (λ (t : Scene). AllLed t.moments) (sym (passing_append n first rest s))
    (all_led h c o.machine n told v w (effect c n x d) (hand_after g d) small (last_after last d) (passing n first s) id low fits o.holds (known_stays c M o.machine told holds o.grows known) o.tied may.1 so.1 guard.1 ending.1
    parts.1 later one two)

-- ---- a step

pub step_led : (h : Header) (c : Cluster) (n now : ℕ) (outcome : method.Outcome) (i : Input) (s : Scene) → c.id ≡ h.cluster → Sized c → Ground c s.nodes → IsNode n → now < 2 ^ 64 → WasSent s.nodes i → AnswersFit i
    → InHand h s.moments n (delivered_by i) → ((replies : List Reply) → AllMay h c n (delivered_by i) None (site_of s.nodes n) (doings c n now outcome replies i (s.nodes.node n)))
    → AttemptsDiffer (taking c n now outcome i s).moments → IsSeizing h s → IsOnWay n s.moments (s.nodes.node n) → AllLed s.moments → AllLed (taking c n now outcome i s).moments
step_led h c n now outcome i s id sized b is time was answer hand guard differ k way led =
    let v : Nodes = s.nodes in
    let M : Memberships = b.machine in
    let w : Nodes = moved c v (Takes_in n now outcome i) in
    let o : Outcome DiskState = stepped disk_rules c n now outcome (v.node n) (v.disk n) i in
    let cut : IsCut disk_rules c n now outcome (v.node n) (v.disk n) i [] o = steps_are_cut disk_rules disks_keep_rules c n now outcome (v.node n) (v.disk n) i in
    let told : Delivered = delivered_by i in
    let truth : IsTrue M i = is_true M v i was b.sent in
    let x : Site = site_of v n in
    let small : List Doing = doings c n now outcome cut.replies i (v.node n) in
    let may : MayAll c n told x small =
    step_may c M n now outcome (v.node n) (v.disk n).kept i cut.replies is.1 sized.fits.devices.attached b.holds (b.stands n).tied (b.stands n).joins in
    let widths : StepFits c n o = move_fits c sized.fits v n now outcome i (is.0, is.1, was, answer) time b.fits in
    let t : Scene = record s { nodes = w } in
    let first : Goes h n told v w x None t =
    record { here = k.sites n; there = λ j ne. k.sites j; carried = k.carried; hand = hand; turn = tt; nodes = refl; held = k.held; known = k.known } in
    subst (λ os. AllLed (passing n os t).moments) cut.comes.given
    (all_led h c M n told v w x None small None t id (low_number n is.1) sized.fits.devices.attached b.holds (known_by M i truth) (b.stands n).tied may
    (doings_so c n now outcome cut.replies i (v.node n)) (guard cut.replies) (doings_fit c n now outcome cut.replies i (v.disk n).kept (v.node n))
    (subst (λ os. AllFit n os) (sym cut.comes.given) (all_spelled n o.given is widths.given))
    (subst (λ os. AttemptsDiffer (passing n os t).moments) (sym cut.comes.given) differ) first (record { lines = led; way = way; fresh = tt }))
