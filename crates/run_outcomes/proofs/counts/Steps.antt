-- A step of a node, from scene to scene: each of its lines that tells of an end is due.
use Rattle.std.specs.Prelude.{ℕ, ◌≡◌, ◌<◌, ◌^◌, ◌++◌, All, Bool, true, false, List, [], ◌∷◌, None}
use Rattle.std.proofs.Common.{refl, sym, subst}
use Rattle.cl_base.specs.declared.method.Outcome as method
use Rattle.cmm_attempt.proofs.Basics.{false_true}
use Rattle.cmm_attempt.specs.Calls.{IsDevice}
use Rattle.history.specs.Setting.{Setting}
use Rattle.membership_machine.specs.Invariant.{Holds}
use Rattle.membership_machine.specs.State.{Memberships}
use Rattle.node_model.specs.Steps.{Outcome, stepped}
use Rattle.node_model.specs.declared.cluster.Cluster.{Cluster}
use Rattle.node_model.specs.declared.input.Input.{Input}
use Rattle.node_model.specs.declared.output.Output.{Output}
use Rattle.node_model.specs.declared.output.Output.TheVariants.{Sends, Tells}
use Rattle.record_disk.specs.Disks.{DiskState}
use Rattle.refinement.proofs.Acts.{does_one}
use Rattle.refinement.proofs.Disks.{disks_keep_rules}
use Rattle.refinement.proofs.EveryRun.{is_true}
use Rattle.refinement.proofs.Facts.{known_by, step_may}
use Rattle.refinement.proofs.Handlers.{delivered_by}
use Rattle.refinement.proofs.Ties.{known_stays}
use Rattle.refinement.specs.Cuts.{doings}
use Rattle.refinement.specs.Doings.{Doing, Site, effect, given_all, gives}
use Rattle.refinement.specs.Events.{of_doing}
use Rattle.refinement.specs.Guards.{MayAll}
use Rattle.refinement.specs.Runs.{AnswersFit, Nodes, WasSent, moved}
use Rattle.refinement.specs.Runs.Move.{Takes as Takes_in}
use Rattle.refinement.specs.Steps.{disk_rules}
use Rattle.refinement.specs.Ties.{Delivered, GoesOn, Known, SiteTied, setting_of}
use Rattle.refinement.specs.Whole.{IsTrue}
use Rattle.refinement.specs.Worlds.{AllFit}
use Rattle.run_history.proofs.ContactCourses.{doings_led}
use Rattle.run_history.proofs.ContactWidths.{StepFits, all_spelled, move_fits}
use Rattle.run_history.proofs.Courses.{doings_so}
use Rattle.run_history.proofs.Doings.{IsLed, doing_led, doing_walks}
use Rattle.run_history.proofs.Walk.{Walks, passing_append}
use Rattle.run_history.specs.Causes.{Hand}
use Rattle.run_history.specs.Happenings.{taking}
use Rattle.run_history.specs.Led.{AllLed, led_doing}
use Rattle.run_history.specs.Marks.{AllSo}
use Rattle.run_history.specs.Scenes.{Scene, passing}
use Rattle.run_history.specs.Stages.{Sized, Stage, site_of}
use Rattle.run_messages.proofs.records.Apart.{doings_apart}
use Rattle.run_messages.proofs.records.Courses.{doings_told}
use Rattle.run_messages.proofs.records.Doings as records
use Rattle.run_messages.proofs.records.Replies.{CutSo, steps_are_cut_so}
use Rattle.run_messages.specs.records.Answers.{AllTold as AllTold_in}
use Rattle.run_messages.specs.records.Kept.{Goes, HandKept, KnownScene}
use Rattle.run_messages.specs.records.Losses.{AllApart}
use Rattle.wire.specs.Spelling.{IsNode}
use Rattle.run_outcomes.specs.counts.Ends as ends
use Rattle.run_outcomes.specs.counts.Ends.{Last, last_after}
use Rattle.run_outcomes.specs.counts.Facts.{AllDue, CountsIn, LastTied}
use Rattle.run_outcomes.proofs.counts.Courses.{doings_fit}
use Rattle.run_outcomes.specs.counts.Shorts.{NodePlanned}
use Rattle.run_outcomes.proofs.counts.Doings.{doing_goes, doing_tied}
use Rattle.run_outcomes.proofs.counts.Planned.{doing_planned}

fit_parts : (n : ℕ) (os more : List Output) → AllFit n (os ++ more) → AllFit n os × AllFit n more
fit_parts n [] more h = (tt, h)
fit_parts n (Tells e ∷ os) more h = fit_parts n os more h
fit_parts n (Sends to b ∷ os) more h =
    let rest : AllFit n os × AllFit n more = fit_parts n os more h.2 in
    ((h.0, h.1, rest.0), rest.1)

-- ---- small steps one after another

all_due : (S : Setting) (c : Cluster) (M : Memberships) (n : ℕ) (told : Delivered) (v w : Nodes) (x : Site) (small : List Doing) (led : Bool) (last : Last) (s : Scene) → CountsIn S c → All IsDevice c.attached → Holds (setting_of c) M → Known M told
    → SiteTied c M n x → MayAll c n told x small → AllSo small → AllLed n told led small → (led ≡ true → IsLed n x.node) → AllFit n (given_all c n x small) → AllTold_in c n told x small → AllApart told small → ends.AllFit c n last x small
    → Walks n told v w M x s → Goes n told v M x s → NodePlanned c x.node → LastTied c M last → AllDue S s.moments → AllDue S (passing n (given_all c n x small) s).moments
all_due S c M n told v w x [] led last s counts fits i known tied may so leads own widths tells apart ending h mine planned latest due = due
all_due S c M n told v w x (d ∷ small) led last s counts fits i known tied may so leads own widths tells apart ending h mine planned latest due =
    let first : List Output = gives c n x d in
    let rest : List Output = given_all c n (effect c n x d) small in
    let parts : AllFit n first × AllFit n rest = fit_parts n first rest widths in
    let g : GoesOn c M n (effect c n x d) first (of_doing n d) = does_one c M n told x d fits i known tied may.0 in
    let one : Walks n told v w g.machine (effect c n x d) (passing n first s) = doing_walks c M n told v w g.machine x led d s i known tied may.0 so.0 leads.0 own parts.0 g.grows g.run h in
    let two : Goes n told v g.machine (effect c n x d) (passing n first s) = records.doing_goes c M n told v g.machine x d s i known tied h.here may.0 so.0 tells.0 apart.0 parts.0 g.grows g.tied g.holds mine in
    let three : LastTied c g.machine (last_after last d) = doing_tied c M g.machine n told x.node x.disk d last i tied may.0 g.run latest in
    let four : AllDue S (passing n first s).moments = doing_goes S c M n told v x.node x.disk d last s counts i tied planned latest ending.0 so.0 h.here mine due in
    subst (λ (t : Scene). AllDue S t.moments) (sym (passing_append n first rest s))
    (all_due S c g.machine n told v w (effect c n x d) small (led_doing led d) (last_after last d) (passing n first s) counts fits g.holds (known_stays c M g.machine told i g.grows known) g.tied may.1 so.1 leads.1
    (doing_led c M n told x led d i known tied may.0 leads.0 own) parts.1 tells.1 apart.1 ending.1 one two (doing_planned c n told x.node x.disk d may.0 planned) three four)

-- ---- a step

pub step_due : (S : Setting) (c : Cluster) (n now : ℕ) (outcome : method.Outcome) (i : Input) (s : Scene) → CountsIn S c → Sized c → IsNode n → now < 2 ^ 64 → WasSent s.nodes i → AnswersFit i → Hand s.moments n (delivered_by i) → HandKept s.moments n (delivered_by i)
    → KnownScene c s → ((k : ℕ) → NodePlanned c (s.nodes.node k)) → AllDue S s.moments → AllDue S (taking c n now outcome i s).moments
step_due S c n now outcome i s counts sized is time was answer hand mine a planned due =
    let b : Stage c s = a.stage in
    let v : Nodes = s.nodes in
    let M : Memberships = b.machine in
    let w : Nodes = moved c v (Takes_in n now outcome i) in
    let o : Outcome DiskState = stepped disk_rules c n now outcome (v.node n) (v.disk n) i in
    let cut : CutSo disk_rules c n now outcome (v.node n) (v.disk n) i [] o = steps_are_cut_so disk_rules disks_keep_rules c n now outcome (v.node n) (v.disk n) i in
    let told : Delivered = delivered_by i in
    let truth : IsTrue M i = is_true M v i was b.sent in
    let x : Site = site_of v n in
    let small : List Doing = doings c n now outcome cut.replies i (v.node n) in
    let may : MayAll c n told x small =
    step_may c M n now outcome (v.node n) (v.disk n).kept i cut.replies is.1 sized.fits.devices.attached b.holds (b.stands n).tied (b.stands n).joins in
    let widths : StepFits c n o = move_fits c sized.fits v n now outcome i (is.0, is.1, was, answer) time b.fits in
    let t : Scene = record s { nodes = w } in
    let first : Walks n told v w M x t = record { laws = b.laws; tried = b.tried; started = b.started; here = b.notes n; there = λ k ne. b.notes k; flying = b.flying; hand = hand; nodes = refl } in
    let second : Goes n told v M x t = record { sound = a.sound; judged = a.judged; bytes = a.bytes; here = a.at n; there = λ k ne. a.at k; hand = mine } in
    subst (λ os. AllDue S (passing n os t).moments) cut.comes.given
    (all_due S c M n told v w x small false None t counts sized.fits.devices.attached b.holds (known_by M i truth) (b.stands n).tied may (doings_so c n now outcome cut.replies i (v.node n))
    (doings_led c n now outcome cut.replies i (v.node n)) (λ no. absurd (false_true no))
    (subst (λ os. AllFit n os) (sym cut.comes.given) (all_spelled n o.given is widths.given))
    (doings_told c n now outcome cut.replies i (v.disk n).kept (v.node n)) (doings_apart c n now outcome cut.replies i (v.node n) cut.losses) (doings_fit c n now outcome cut.replies i (v.disk n).kept (v.node n)) first second (planned n) tt due)
