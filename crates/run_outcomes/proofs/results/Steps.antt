-- A step of a node, from scene to scene.
use Rattle.machine_base.specs.Put.{put}
use Rattle.refinement.proofs.EveryRun.{is_true}
use Rattle.membership_machine.specs.Invariant.{Holds}
use Rattle.std.specs.Prelude.{List, None, Option, Some, [], ℕ, ◌<◌, ◌^◌, ◌∷◌, ◌≡◌, ◌≢◌, ◌⊎◌, ◌≤◌}
use Rattle.std.specs.List.{AllByRecursion}
use Rattle.std.proofs.Common.{inl, inr, refl, subst, sym, arith, ◌∙◌}
use Rattle.cl_base.specs.declared.header.Header.{Header}
use Rattle.cl_base.specs.declared.method.Outcome as method
use Rattle.history.specs.Contact.{AttemptsDiffer}
use Rattle.history.specs.Moment.{Moment, Told}
use Rattle.membership_machine.specs.State.{Memberships}
use Rattle.node_model.specs.Devices.{answer_told}
use Rattle.node_model.specs.Steps.{Outcome, stepped}
use Rattle.node_model.specs.declared.cluster.Cluster.{Cluster}
use Rattle.node_model.specs.declared.input.Input.{Input}
use Rattle.node_model.specs.declared.input.Input.TheVariants as input
use Rattle.node_model.specs.declared.node.Node.{Node}
use Rattle.node_model.specs.declared.node.Node.TheVariants.{Down, Up}
use Rattle.node_model.specs.declared.output.Output.{Output}
use Rattle.node_model.specs.declared.output.Output.TheVariants.{Sends, Tells}
use Rattle.refinement.specs.node_widths.Widths.{NodeFits}
use Rattle.pgr_device.specs.declared.command.PrCommand.{PrCommand}
use Rattle.pgr_device.specs.declared.command.PrCommand.TheVariants as command
use Rattle.record_disk.specs.Disks.{DiskState}
use Rattle.refinement.proofs.Disks.{disks_keep_rules}
use Rattle.refinement.proofs.Facts.{known_by, step_may}
use Rattle.refinement.proofs.Handlers.{delivered_by}
use Rattle.run_messages.proofs.records.Replies.{CutSo, steps_are_cut_so}
use Rattle.refinement.specs.Courses.{Reply}
use Rattle.refinement.specs.Cuts.{doings}
use Rattle.refinement.specs.Doings.{Doing, Site, given_all, site}
use Rattle.refinement.specs.Guards.{MayAll}
use Rattle.refinement.specs.Runs.{Nodes, WasSent, letters_of, moved}
use Rattle.refinement.specs.Runs.Move.{Takes as Takes_in}
use Rattle.refinement.specs.Steps.{disk_rules}
use Rattle.refinement.specs.Ties.{Delivered, Known, SiteTied, setting_of}
use Rattle.run_outcomes.proofs.counts.Courses.{doings_fit}
use Rattle.run_outcomes.specs.counts.Ends.{AllFit}
use Rattle.run_history.proofs.AtSteps.{IsNoAnswer}
use Rattle.run_history.proofs.Courses.{doings_so}
use Rattle.run_history.proofs.Idle.{passing_nodes}
use Rattle.run_history.proofs.LineSteps.{commands_are_told}
use Rattle.run_history.proofs.Lists.{both}
use Rattle.run_history.proofs.Steps.{put_all}
use Rattle.run_history.proofs.WholeScenes.{node_at}
use Rattle.run_history.specs.CommandLines.{AllQuiet, CommandFirst, NodeTells, TellsDue}
use Rattle.run_history.specs.Happenings.{taking}
use Rattle.run_history.specs.Marks.{AllSo}
use Rattle.run_history.specs.Scenes.{Scene, passing, telling}
use Rattle.run_history.specs.Stages.{Sized, site_of}
use Rattle.run_seizings.proofs.Steps.{Ground}
use Rattle.run_devices.proofs.valid.Lines.{NoCommand, passing_lasts}
use Rattle.run_devices.proofs.validity.Steps.{StepAgrees}
use Rattle.run_devices.specs.validity.Kept.{AllAgree}
use Rattle.seize.specs.Answers.{Answer}
use Rattle.status_report.specs.declared.device_entry.DeviceEntry.TheVariants as device_entry
use Rattle.status_report.specs.declared.entry.Entry.TheVariants as entry
use Rattle.wire.specs.Spelling.{IsNode}
use Rattle.world_model.specs.Devices.{due_of}
use Rattle.run_outcomes.proofs.results.Passing.{passing_all}
use Rattle.run_outcomes.proofs.results.Fresh.{AllGone, FreshNode}
use Rattle.run_outcomes.proofs.results.Stays.{SparedBy, Spares, letters_grow, letters_stay, node_grows, node_stays}
use Rattle.run_outcomes.proofs.results.Ups.{attempt_of, mine_of}
use Rattle.history.specs.Setting.{coordinator}
use Rattle.node_model.specs.Seats.{session_of}
use Rattle.run_outcomes.proofs.results.Acted.{Done, Goes, Now, OutShown}
use Rattle.run_outcomes.proofs.results.Walk.{Comes, all_done}
use Rattle.run_outcomes.proofs.results.Freed.{inst, tied_installed}
use Rattle.run_outcomes.specs.results.Shown.{AttemptShown, CollectsNot, HandShown, IsShown, LetterShown, NodeShown, OfHeader, collected_in, installed_in}
use Rattle.run_outcomes.specs.results.Tried.{Collected}

-- ---- what the others have

-- a node tells of a command at a device first, or nowhere
record First (n : ℕ) (os : List Output) : Type 0 where
  device : ℕ
  command : PrCommand
  answer : Answer
  is : CommandFirst n device command answer os

abbrev Tellings : ℕ → List Output → Type 0
Tellings n os = AllQuiet os ⊎ First n os

due_tellings : (n : ℕ) (a : Answer) (o : Option (ℕ × PrCommand)) (os : List Output) → TellsDue n a o os → Tellings n os
due_tellings n a None os k = inl k
due_tellings n a (Some due) os k = inr (record { device = due.0; command = due.1; answer = a; is = k })

tellings_of : (n : ℕ) (node : Node) (i : Input) (os : List Output) → NodeTells n node i os → Tellings n os
tellings_of n Down i os k = inl k
tellings_of n (Up x) (input.Answered a) os k = due_tellings n a (due_of x) os k
tellings_of n (Up x) (input.Wrote d value a) os k = inr (record { device = d; command = command.Write value; answer = a; is = k })
tellings_of n (Up x) input.Boot os k = inl k
tellings_of n (Up x) input.Crash os k = inl k
tellings_of n (Up x) input.Tick os k = inl k
tellings_of n (Up x) (input.Packet from m) os k = inl k
tellings_of n (Up x) input.CommandDue os k = inl k
tellings_of n (Up x) (input.Commanded words) os k = inl k
tellings_of n (Up x) (input.Reported r good) os k = inl k
tellings_of n (Up x) (input.Client name client port) os k = inl k

none_spares : (k : ℕ) (x : Moment) → NoCommand x → Spares k x
none_spares k (Told (entry.Device (device_entry.Command m d c a))) none = absurd none
none_spares k (Told (entry.Device (device_entry.Accepted q m x value))) none = tt
none_spares k (Told (entry.Device (device_entry.Refused m x value why))) none = tt
none_spares k _ none = tt

other_spares : (k n : ℕ) (c : PrCommand) → n ≢ k → SparedBy k n c
other_spares k n (command.Write value) ne = tt
other_spares k n command.Keys ne = ne
other_spares k n command.Word ne = ne
other_spares k n command.Read ne = ne
other_spares k n command.Holder ne = ne
other_spares k n (command.Reserve kind key) ne = ne
other_spares k n (command.Register key new) ne = ne
other_spares k n (command.Ignore new) ne = ne
other_spares k n (command.Release kind key) ne = ne
other_spares k n (command.Clear key) ne = ne
other_spares k n (command.Preempt kind key victim) ne = ne
other_spares k n (command.Swap expect new) ne = ne

abbrev Keeps : Header → Collected → ℕ → Node → List Moment → Type 0
Keeps h past k node ms = AttemptsDiffer ms → NodeShown h past ms k node

others_pass : (h : Header) (past : Collected) (n k : ℕ) (node : Node) (os : List Output) (s : Scene) → k ≢ n → Tellings n os → Keeps h past k node s.moments → Keeps h past k node (passing n os s).moments
others_pass h past n k node os s ne tells z = by_tellings tells
  where
    lasts : (x : Moment) (ms : List Moment) → NoCommand x → Keeps h past k node ms → Keeps h past k node (x ∷ ms)
    lasts x ms none y differ = node_stays h past ms x k node differ.0 (none_spares k x none) (y differ.1)

    by_tellings : Tellings n os → Keeps h past k node (passing n os s).moments
    by_tellings (inl quiet) = passing_lasts (Keeps h past k node) lasts n os s quiet z
    by_tellings (inr f) =
        subst (λ zs. Keeps h past k node (passing n zs s).moments) (sym f.is.first)
        (passing_lasts (Keeps h past k node) lasts n f.is.others (telling (entry.Device (device_entry.Command n f.device f.command (answer_told f.answer))) s) f.is.quiet
        (λ differ. node_stays h past s.moments (Told (entry.Device (device_entry.Command n f.device f.command (answer_told f.answer)))) k node tt
        (other_spares k n f.command (λ same. ne (sym same))) (z differ.1)))

-- ---- what was sent

letters_shown : (h : Header) (past : Collected) (f : ℕ → ℕ) (ms : List Moment) (n : ℕ) (os : List Output) → AllByRecursion (OutShown h past n f ms) os → AllByRecursion (LetterShown h past f ms) (letters_of n os)
letters_shown h past f ms n [] k = tt
letters_shown h past f ms n (Tells e ∷ os) k = letters_shown h past f ms n os k.1
letters_shown h past f ms n (Sends to b ∷ os) k = (k.0, letters_shown h past f ms n os k.1)

-- ---- a step

-- its small steps, whatever the disk replies
abbrev pub StepComes : Header → Collected → Cluster → Memberships → ℕ → ℕ → method.Outcome → Input → Nodes → Scene → Type 0
StepComes h past c M n now ends i v s =
    (replies : List Reply) → MayAll c n (delivered_by i) (site_of v n) (doings c n now ends replies i (v.node n))
    → AllFit c n None (site_of v n) (doings c n now ends replies i (v.node n)) → AllSo (doings c n now ends replies i (v.node n)) → Holds (setting_of c) M → Known M (delivered_by i)
    → SiteTied c M n (site_of v n) → ((k : ℕ) → installed_in v k ≤ inst M k)
    → AllAgree h c n (site_of v n) (doings c n now ends replies i (v.node n)) s → Goes h past n (delivered_by i) (installed_in v) (v.node n) None s.moments
    → Comes h past c M n (delivered_by i) (installed_in v) (site_of v n) (doings c n now ends replies i (v.node n)) s

pub plain_comes : (h : Header) (past : Collected) (c : Cluster) (M : Memberships) (n now : ℕ) (ends : method.Outcome) (i : Input) (v : Nodes) (s : Scene) → Sized c → OfHeader h c → IsNoAnswer i → now < 2 ^ 64
    → NodeFits c n (v.node n) → ((replies : List Reply) → AllGone past c n (site_of v n) (doings c n now ends replies i (v.node n))) → StepComes h past c M n now ends i v s
plain_comes h past c M n now ends i v s sized id is time fit gone replies may fits so holds known tied low agrees g =
    all_done h past c M n (delivered_by i) (installed_in v) None (site_of v n) (doings c n now ends replies i (v.node n)) None s sized.fits.devices.attached id holds known tied low may
    (node_at c n now ends (v.node n) (v.disk n).kept replies i is time fit) fits so agrees (gone replies) g

same_most : (a b : ℕ) → a ≡ b → a ≤ b
same_most a b e = omega (arith, e)

at_most : (a b d : ℕ) → a ≤ b → b ≤ d → a ≤ d
at_most a b d i j = omega (arith, i, j)

-- what each has installed after it
put_most : (g : ℕ → ℕ) (v : Nodes) (n : ℕ) (node : Node) (disk : DiskState) → g n ≤ disk.kept.installed → ((k : ℕ) → k ≢ n → g k ≤ (v.disk k).kept.installed) → (k : ℕ)
    → g k ≤ (put v.disk n disk k).kept.installed
put_most g v n node disk here there = put_all (λ k x r. g k ≤ r.installed) v n node disk here there

-- the attempt of a node is its own
fresh_at : (h : Header) (s : Scene) (n : ℕ) (node : Node) → s.nodes.node n ≡ node → NodeShown h (collected_in s) s.moments n node → FreshNode (collected_in s) node
fresh_at h s n Down at k = tt
fresh_at h s n (Up x) at k = λ b is phase gone.
    let so : AttemptShown h s.moments (session_of x) b = attempt_of h s.moments (session_of x) x.attempt b is k.attempt in
    let own : coordinator b.plan.epoch ≡ n = sym so.plan.own ∙ mine_of n x.attempt b is k.mine in
    subst (CollectsNot b.plan.epoch) at (subst (λ j. CollectsNot b.plan.epoch (s.nodes.node j)) own gone.1) b is refl phase

fresh_not : (past : Collected) (q : ℕ) (node : Node) → FreshNode past node → past q → CollectsNot q node
fresh_not past q Down fresh gone = tt
fresh_not past q (Up x) fresh gone = λ a is epoch phase. fresh a is phase (subst past (sym epoch) gone)

pub step_shown : (h : Header) (c : Cluster) (n now : ℕ) (ends : method.Outcome) (i : Input) (s : Scene) → Sized c → (b : Ground c s.nodes) → IsNode n → WasSent s.nodes i
    → StepComes h (collected_in s) c b.machine n now ends i s.nodes (record s { nodes = moved c s.nodes (Takes_in n now ends i) }) → HandShown h (collected_in s) (installed_in s.nodes) s.moments (delivered_by i)
    → AttemptsDiffer (taking c n now ends i s).moments → StepAgrees h c n now ends i s → IsShown h s → IsShown h (taking c n now ends i s)
step_shown h c n now ends i s sized b is was comes hand differ agrees k =
    let past : Collected = collected_in s in
    let v : Nodes = s.nodes in
    let M : Memberships = b.machine in
    let w : Nodes = moved c v (Takes_in n now ends i) in
    let o : Outcome DiskState = stepped disk_rules c n now ends (v.node n) (v.disk n) i in
    let cut : CutSo disk_rules c n now ends (v.node n) (v.disk n) i [] o = steps_are_cut_so disk_rules disks_keep_rules c n now ends (v.node n) (v.disk n) i in
    let told : Delivered = delivered_by i in
    let x : Site = site_of v n in
    let small : List Doing = doings c n now ends cut.replies i (v.node n) in
    let may : MayAll c n told x small =
    step_may c M n now ends (v.node n) (v.disk n).kept i cut.replies is.1 sized.fits.devices.attached b.holds (b.stands n).tied (b.stands n).joins in
    let t : Scene = record s { nodes = w } in
    let f : ℕ → ℕ = installed_in v in
    let at : (j : ℕ) → inst M j ≡ f j = λ j. tied_installed c M j (v.node j) (v.disk j).kept (b.stands j).tied in
    let z : Comes h past c M n told f x small t =
    comes cut.replies may (doings_fit c n now ends cut.replies i (v.disk n).kept (v.node n)) (doings_so c n now ends cut.replies i (v.node n)) b.holds
    (known_by M i (is_true M v i was b.sent)) (b.stands n).tied (λ j. same_most (f j) (inst M j) (sym (at j))) agrees
    (λ first. record { here = k.nodes n; hand = hand; lines = k.lines; reached = tt; fresh = fresh_at h s n (v.node n) refl (k.nodes n); begun = λ e known. known.0 }) in
    let r : Scene = passing n o.given t in
    let done : Done h past n told f (inst z.machine) o.after z.last o.given r.moments =
    subst (λ os. Done h past n told f (inst z.machine) o.after z.last os (passing n os t).moments) cut.comes.given
    (subst (λ (y : Site). Done h past n told f (inst z.machine) y.node z.last (given_all c n x small) (passing n (given_all c n x small) t).moments) cut.comes.left z.done) in
    let tied : SiteTied c z.machine n (site o.after o.disk.kept) = subst (λ (y : Site). SiteTied c z.machine n y) cut.comes.left z.tied in
    let most : (j : ℕ) → inst z.machine j ≤ installed_in w j =
    put_most (inst z.machine) v n o.after o.disk (same_most _ _ (tied_installed c z.machine n o.after o.disk.kept tied)) (λ j ne. same_most _ _ (z.others j ne ∙ at j)) in
    let rises : (j : ℕ) → f j ≤ installed_in w j = λ j. at_most (f j) (inst M j) (installed_in w j) (same_most (f j) (inst M j) (sym (at j)))
    (at_most (inst M j) (inst z.machine j) (installed_in w j) (z.grows j) (most j)) in
    let after : Now h past n told f o.after z.last r.moments = done.goes differ in
    let later : Collected = collected_in r in
    let grows : (e : ℕ) → past e → later e = λ e known. (
      after.begun e known,
      subst (λ (y : Nodes). CollectsNot e (y.node (coordinator e))) (sym (passing_nodes n o.given t))
          (put_all (λ j node disk. (q : ℕ) → coordinator q ≡ j → past q → CollectsNot q node) v n o.after o.disk (λ q same gone. fresh_not past q o.after after.fresh gone)
          (λ j ne q same gone. subst (λ i. CollectsNot q (v.node i)) same gone.1) (coordinator e) e refl known),
    ) in
    record {
      nodes = λ j. node_grows h past later r.moments j (r.nodes.node j) grows
          (subst (λ (y : Nodes). (j : ℕ) → NodeShown h past r.moments j (y.node j)) (sym (passing_nodes n o.given t))
          (put_all (λ j node disk. NodeShown h past r.moments j node) v n o.after o.disk after.here
          (λ j ne. others_pass h past n j (v.node j) o.given t ne (tellings_of n (v.node n) i o.given (commands_are_told c n now ends (v.node n) (v.disk n) i)) (λ first. k.nodes j) differ)) j);
      sent = subst (λ (y : Nodes). AllByRecursion (LetterShown h later (installed_in y) r.moments) y.sent) (sym (passing_nodes n o.given t))
          (both (LetterShown h later (installed_in w) r.moments) (letters_of n o.given) v.sent
          (letters_grow h past later (inst z.machine) (installed_in w) r.moments (letters_of n o.given) grows most (letters_shown h past (inst z.machine) r.moments n o.given (done.says differ)))
          (letters_grow h past later f (installed_in w) r.moments v.sent grows rises
          (passing_all (λ ms. AttemptsDiffer ms → AllByRecursion (LetterShown h past f ms) v.sent) (λ y ms l first. letters_stay h past f ms y v.sent first.0 (l first.1)) n o.given t (λ first. k.sent) differ)));
      lines = after.lines;
    }
