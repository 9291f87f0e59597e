-- A step of a node, from scene to scene, with what is known of records.
use Rattle.std.specs.Prelude.{ℕ, ◌≡◌, ◌≢◌, ◌<◌, ◌^◌, ◌⊎◌, ◌++◌, All, Bool, true, false, List, [], ◌∷◌, Option, None, Some, slice_get}
use Rattle.std.specs.List.{AllByRecursion}
use Rattle.std.proofs.Common.{refl, sym, subst, ◌∙◌, inl, inr}
use Rattle.cl_base.specs.declared.method.Outcome as method
use Rattle.cl_base.specs.declared.packet.DropCause.{DropCause}
use Rattle.cmm_attempt.specs.Calls.{IsDevice}
use Rattle.cmm_attempt.proofs.Basics.{if_either}
use Rattle.cmm_member.specs.Records.{NodeRecord}
use Rattle.interconnect.specs.Links as links
use Rattle.interconnect.specs.Links.{sending}
use Rattle.machine_base.specs.Put.{put}
use Rattle.machine_base.proofs.Puts.{put_here, put_there, same_or_not}
use Rattle.membership_machine.specs.Growth.{Grows}
use Rattle.membership_machine.specs.Invariant.{Holds}
use Rattle.membership_machine.specs.State.{Memberships}
use Rattle.membership_machine.proofs.Growth.{grows_over, grows_same}
use Rattle.node_model.specs.Steps.{Outcome, stepped}
use Rattle.node_model.specs.declared.cluster.Cluster.{Cluster}
use Rattle.node_model.specs.declared.input.Input.{Input}
use Rattle.node_model.specs.declared.node.Node.{Node}
use Rattle.node_model.specs.declared.output.Output.{Output}
use Rattle.node_model.specs.declared.output.Output.TheVariants.{Sends, Tells}
use Rattle.pgr_device.specs.Device.{Device}
use Rattle.record_disk.specs.Disks.{DiskState}
use Rattle.refinement.specs.Cuts.{doings}
use Rattle.refinement.specs.Doings.{Doing, Site, after_all, effect, given_all, gives, site}
use Rattle.refinement.specs.Events.{of_doing}
use Rattle.refinement.specs.Facts.{JoinsIn}
use Rattle.refinement.specs.Guards.{MayAll}
use Rattle.refinement.specs.Runs.{AnswersFit, Letter, Nodes, WasSent, letters_of, moved}
use Rattle.refinement.specs.Runs.Move.{Takes as Takes_in}
use Rattle.refinement.specs.Steps.{disk_rules}
use Rattle.refinement.specs.Ties.{AllTold, Delivered, GoesOn, Known, MessageTold, SiteTied, setting_of}
use Rattle.refinement.specs.Whole.{IsTrue, Stands}
use Rattle.refinement.specs.Widths.{RunFits}
use Rattle.refinement.specs.Worlds.{AllFit, DeviceFits}
use Rattle.refinement.proofs.Acts.{does_one}
use Rattle.refinement.proofs.Disks.{disks_keep_rules}
use Rattle.refinement.proofs.EveryRun.{is_true}
use Rattle.refinement.proofs.Facts.{known_by, step_may, steps_go}
use Rattle.refinement.proofs.Handlers.{delivered_by}
use Rattle.run_messages.specs.records.Answers.{AllTold as AllTold_in}
use Rattle.run_messages.specs.records.Kept.{Goes, HandKept, KnownScene, SiteKept}
use Rattle.run_messages.specs.records.Losses.{AllApart}
use Rattle.run_messages.proofs.records.Apart.{doings_apart}
use Rattle.run_messages.proofs.records.Courses.{doings_told}
use Rattle.run_messages.proofs.records.Doings.{doing_goes}
use Rattle.run_messages.proofs.records.Replies.{CutSo, steps_are_cut_so}
use Rattle.refinement.proofs.Ties.{known_stays, message_stays, node_stays, outputs_stay, told_append}
use Rattle.run_history.specs.Marks.{AllSo}
use Rattle.run_history.proofs.Courses.{doings_so}
use Rattle.wire.specs.Spelling.{IsNode, spelling}
use Rattle.wire.specs.declared.message.Message.{Message}
use Rattle.world_model.specs.Sends.{is_sent}
use Rattle.run_history.specs.Happenings.{taking}
use Rattle.run_history.specs.Scenes.{Scene, dropped_so, passing, passing_one, posting, sent_as}
use Rattle.run_history.specs.Causes.{Hand}
use Rattle.run_history.specs.Noted.{Notes}
use Rattle.run_history.specs.Stages.{Sized, Stage, site_of}
use Rattle.run_history.specs.Led.{AllLed, led_doing}
use Rattle.run_history.proofs.ContactCourses.{doings_led}
use Rattle.run_history.proofs.Doings.{IsLed, doing_led, doing_walks}
use Rattle.run_history.proofs.Walk.{Walks, passing_append}
use Rattle.run_history.proofs.ContactWidths.{StepFits, all_spelled, fits_move, move_fits}

no_truth : false ≡ true → ⊥
no_truth e = cc

-- ---- small steps one after another

-- they go on in the machine, and what they give is told
record Went (c : Cluster) (M : Memberships) (n : ℕ) (told : Delivered) (v w : Nodes) (y : Site) (os : List Output) (t : Scene) : Type 0 where
  machine : Memberships
  holds : Holds (setting_of c) machine
  grows : Grows M machine
  tied : SiteTied c machine n y
  others : (k : ℕ) → k ≢ n → machine.node k ≡ M.node k
  said : AllTold machine n os
  walks : Walks n told v w machine y t
  goes : Goes n told v machine y t

fit_parts : (n : ℕ) (os more : List Output) → AllFit n (os ++ more) → AllFit n os × AllFit n more
fit_parts n [] more h = (tt, h)
fit_parts n (Tells e ∷ os) more h = fit_parts n os more h
fit_parts n (Sends to b ∷ os) more h =
    let rest : AllFit n os × AllFit n more = fit_parts n os more h.2 in
    ((h.0, h.1, rest.0), rest.1)

all_went : (c : Cluster) (M : Memberships) (n : ℕ) (told : Delivered) (v w : Nodes) (x : Site) (small : List Doing) (led : Bool) (s : Scene) → All IsDevice c.attached → Holds (setting_of c) M → Known M told
    → SiteTied c M n x → MayAll c n told x small → AllSo small → AllLed n told led small → (led ≡ true → IsLed n x.node) → AllFit n (given_all c n x small) → AllTold_in c n told x small → AllApart told small
    → Walks n told v w M x s → Goes n told v M x s
    → Went c M n told v w (after_all c n x small) (given_all c n x small) (passing n (given_all c n x small) s)
all_went c M n told v w x [] led s fits i known tied may so leads own widths tells apart h k = record {
  machine = M;
  holds = i;
  grows = grows_same (setting_of c) M i;
  tied = tied;
  others = λ k ne. refl;
  said = tt;
  walks = h;
  goes = k;
}
all_went c M n told v w x (d ∷ small) led s fits i known tied may so leads own widths tells apart h mine =
    let first : List Output = gives c n x d in
    let rest : List Output = given_all c n (effect c n x d) small in
    let parts : AllFit n first × AllFit n rest = fit_parts n first rest widths in
    let g : GoesOn c M n (effect c n x d) first (of_doing n d) = does_one c M n told x d fits i known tied may.0 in
    let one : Walks n told v w g.machine (effect c n x d) (passing n first s) = doing_walks c M n told v w g.machine x led d s i known tied may.0 so.0 leads.0 own parts.0 g.grows g.run h in
    let two : Goes n told v g.machine (effect c n x d) (passing n first s) = doing_goes c M n told v g.machine x d s i known tied h.here may.0 so.0 tells.0 apart.0 parts.0 g.grows g.tied g.holds mine in
    let k : Went c g.machine n told v w (after_all c n (effect c n x d) small) rest (passing n rest (passing n first s)) =
    all_went c g.machine n told v w (effect c n x d) small (led_doing led d) (passing n first s) fits g.holds (known_stays c M g.machine told i g.grows known) g.tied may.1 so.1 leads.1
    (doing_led c M n told x led d i known tied may.0 leads.0 own) parts.1 tells.1 apart.1 one two in
    record {
      machine = k.machine;
      holds = k.holds;
      grows = grows_over M g.machine k.machine g.grows k.grows;
      tied = k.tied;
      others = λ j ne. k.others j ne ∙ g.others j ne;
      said = told_append k.machine n first rest (outputs_stay c g.machine k.machine n first g.holds k.grows g.said) k.said;
      walks = subst (λ t. Walks n told v w k.machine (after_all c n (effect c n x d) small) t) (sym (passing_append n first rest s)) k.walks;
      goes = subst (λ t. Goes n told v k.machine (after_all c n (effect c n x d) small) t) (sym (passing_append n first rest s)) k.goes;
    }

-- ---- all nodes

abbrev AllTrue : Memberships → List Letter → Type 0
AllTrue M letters = AllByRecursion (λ (l : Letter). MessageTold M l.from l.body) letters

all_stay : (c : Cluster) (M N : Memberships) (letters : List Letter) → Holds (setting_of c) M → Grows M N → AllTrue M letters → AllTrue N letters
all_stay c M N [] i g h = tt
all_stay c M N (l ∷ letters) i g h = (message_stays c M N l.from l.body i g h.0, all_stay c M N letters i g h.1)

more_true : (M : Memberships) (n : ℕ) (os : List Output) (letters : List Letter) → AllTold M n os → AllTrue M letters → AllTrue M (letters_of n os ++ letters)
more_true M n [] letters h k = k
more_true M n (Tells e ∷ os) letters h k = more_true M n os letters h.1 k
more_true M n (Sends to b ∷ os) letters h k = (h.0, more_true M n os letters h.1 k)

stands_stay : (c : Cluster) (M N : Memberships) (n : ℕ) (node : Node) (disk : NodeRecord) → Holds (setting_of c) M → Grows M N → N.node n ≡ M.node n → Stands c M n node disk → Stands c N n node disk
stands_stay c M N n node disk i g same h = record { tied = node_stays c M N n disk node i g same h.tied; joins = h.joins }

-- node n with its disk is replaced
pub put_all : (P : ℕ → Node → NodeRecord → Type 0) (v : Nodes) (n : ℕ) (node : Node) (disk : DiskState) → P n node disk.kept → ((k : ℕ) → k ≢ n → P k (v.node k) (v.disk k).kept)
    → (k : ℕ) → P k (put v.node n node k) (put v.disk n disk k).kept
put_all P v n node disk here there k = go (same_or_not k n)
  where
    go : (k ≡ n) ⊎ (k ≢ n) → P k (put v.node n node k) (put v.disk n disk k).kept
    go (inl e) =
        subst (λ j. P j (put v.node n node j) (put v.disk n disk j).kept) (sym e)
        (subst (λ x. P n x (put v.disk n disk n).kept) (sym (put_here v.node n node)) (subst (λ (d : DiskState). P n node d.kept) (sym (put_here v.disk n disk)) here))
    go (inr ne) =
        subst (λ x. P k x (put v.disk n disk k).kept) (sym (put_there v.node n node k ne))
        (subst (λ (d : DiskState). P k (v.node k) d.kept) (sym (put_there v.disk n disk k ne)) (there k ne))

-- ---- devices are left by what is told and sent

dropped_devices : (o : Option (ℕ × DropCause)) (s : Scene) → (dropped_so o s).devices ≡ s.devices
dropped_devices None s = refl
dropped_devices (Some drop) s = refl

posting_devices : (from to : ℕ) (m : Message) (s : Scene) → (posting from to m s).devices ≡ s.devices
posting_devices from to m s =
    let o : links.Outcome = sending s.links from to (spelling m) in
    if_either (λ (t : Scene). t.devices ≡ s.devices) (is_sent s.links m) (sent_as from to m o s) s (dropped_devices o.sent.dropped _) refl

one_devices : (n : ℕ) (o : Output) (s : Scene) → (passing_one n o s).devices ≡ s.devices
one_devices n (Tells e) s = refl
one_devices n (Sends to b) s = posting_devices n to (record { sender = n; body = b }) s

passing_devices : (n : ℕ) (os : List Output) (s : Scene) → (passing n os s).devices ≡ s.devices
passing_devices n [] s = refl
passing_devices n (o ∷ os) s = passing_devices n os (passing_one n o s) ∙ one_devices n o s

-- ---- a step

pub step_known : (c : Cluster) (n now : ℕ) (ends : method.Outcome) (i : Input) (s : Scene) → Sized c → IsNode n → now < 2 ^ 64 → WasSent s.nodes i → AnswersFit i → Hand s.moments n (delivered_by i) → HandKept s.moments n (delivered_by i)
    → KnownScene c s → KnownScene c (taking c n now ends i s)
step_known c n now ends i s sized is time was answer hand mine a =
    let b : Stage c s = a.stage in
    let v : Nodes = s.nodes in
    let M : Memberships = b.machine in
    let w : Nodes = moved c v (Takes_in n now ends i) in
    let o : Outcome DiskState = stepped disk_rules c n now ends (v.node n) (v.disk n) i in
    let cut : CutSo disk_rules c n now ends (v.node n) (v.disk n) i [] o = steps_are_cut_so disk_rules disks_keep_rules c n now ends (v.node n) (v.disk n) i in
    let told : Delivered = delivered_by i in
    let truth : IsTrue M i = is_true M v i was b.sent in
    let x : Site = site_of v n in
    let small : List Doing = doings c n now ends cut.replies i (v.node n) in
    let may : MayAll c n told x small =
    step_may c M n now ends (v.node n) (v.disk n).kept i cut.replies is.1 sized.fits.devices.attached b.holds (b.stands n).tied (b.stands n).joins in
    let widths : StepFits c n o = move_fits c sized.fits v n now ends i (is.0, is.1, was, answer) time b.fits in
    let t : Scene = record s { nodes = w } in
    let first : Walks n told v w M x t = record { laws = b.laws; tried = b.tried; started = b.started; here = b.notes n; there = λ k ne. b.notes k; flying = b.flying; hand = hand; nodes = refl } in
    let second : Goes n told v M x t = record { sound = a.sound; judged = a.judged; bytes = a.bytes; here = a.at n; there = λ k ne. a.at k; hand = mine } in
    let k : Went c M n told v w (after_all c n x small) (given_all c n x small) (passing n (given_all c n x small) t) =
    all_went c M n told v w x small false t sized.fits.devices.attached b.holds (known_by M i truth) (b.stands n).tied may (doings_so c n now ends cut.replies i (v.node n))
    (doings_led c n now ends cut.replies i (v.node n)) (λ no. absurd (no_truth no))
    (subst (λ os. AllFit n os) (sym cut.comes.given) (all_spelled n o.given is widths.given))
    (doings_told c n now ends cut.replies i (v.disk n).kept (v.node n)) (doings_apart c n now ends cut.replies i (v.node n) cut.losses) first second in
    let N : Memberships = k.machine in
    let joins : JoinsIn o.after = (steps_go disk_rules disks_keep_rules c M n now ends (v.node n) (v.disk n) i is.1 sized.fits.devices.attached b.holds truth (b.stands n)).stands.joins in
    let here : Stands c N n o.after o.disk.kept = record { tied = subst (λ z. SiteTied c N n z) cut.comes.left k.tied; joins = joins } in
    let walks : Walks n told v w N (site o.after o.disk.kept) (passing n o.given t) =
    subst (λ os. Walks n told v w N (site o.after o.disk.kept) (passing n os t)) cut.comes.given (subst (λ z. Walks n told v w N z (passing n (given_all c n x small) t)) cut.comes.left k.walks) in
    let ends_so : Goes n told v N (site o.after o.disk.kept) (passing n o.given t) =
    subst (λ os. Goes n told v N (site o.after o.disk.kept) (passing n os t)) cut.comes.given (subst (λ z. Goes n told v N z (passing n (given_all c n x small) t)) cut.comes.left k.goes) in
    let r : Scene = passing n o.given t in
    record {
      stage = record {
        machine = N;
        holds = k.holds;
        stands = subst (λ (z : Nodes). (j : ℕ) → Stands c N j (z.node j) (z.disk j).kept) (sym walks.nodes)
            (put_all (λ j node disk. Stands c N j node disk) v n o.after o.disk here (λ j ne. stands_stay c M N j (v.node j) (v.disk j).kept b.holds k.grows (k.others j ne) (b.stands j)));
        sent = subst (λ (z : Nodes). AllTrue N z.sent) (sym walks.nodes)
            (more_true N n o.given v.sent (subst (λ os. AllTold N n os) cut.comes.given k.said) (all_stay c M N v.sent b.holds k.grows b.sent));
        fits = subst (RunFits c) (sym walks.nodes) (fits_move c sized.fits v (Takes_in n now ends i) (is.0, is.1, was, answer) time b.fits);
        devices = subst (λ ds. (d : ℕ) (device : Device) → slice_get ds d ≡ Some device → DeviceFits device) (sym (passing_devices n o.given t)) b.devices;
        laws = walks.laws;
        tried = walks.tried;
        started = walks.started;
        notes = subst (λ (z : Nodes). (j : ℕ) → Notes r.moments j (site_of z j)) (sym walks.nodes)
            (put_all (λ j node disk. Notes r.moments j (site node disk)) v n o.after o.disk walks.here walks.there);
        flying = walks.flying;
      };
      sound = ends_so.sound;
      judged = ends_so.judged;
      bytes = ends_so.bytes;
      at = subst (λ (z : Nodes). (j : ℕ) → SiteKept N r.moments j (site_of z j)) (sym walks.nodes)
          (put_all (λ j node disk. SiteKept N r.moments j (site node disk)) v n o.after o.disk ends_so.here ends_so.there);
    }
