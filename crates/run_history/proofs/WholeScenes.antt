-- A node takes what comes to it: the scene after it is one of the whole again.
use Rattle.std.specs.Prelude.{ℕ, ◌≡◌, ◌≢◌, ◌≤◌, ◌<◌, ◌^◌, ◌⊎◌, ◌++◌, Bool, List, [], ◌∷◌, Option, None, Some, slice_get}
use Rattle.std.proofs.Common.{refl, sym, subst, inl, inr}
use Rattle.std.specs.List.{AllByRecursion}
use Rattle.cl_base.specs.declared.method.Outcome as method
use Rattle.cluster_machine.specs.Cluster as whole
use Rattle.cluster_machine.specs.Cluster.{Cluster as Whole}
use Rattle.cluster_ties.proofs.Others.{others_stay, reached_stays}
use Rattle.cluster_ties.specs.Laws.{IsOf, OwnsAttempt}
use Rattle.cluster_ties.specs.Moves.{IsReached, Moves}
use Rattle.cluster_ties.specs.Ties.{DevicesTied}
use Rattle.cmm_attempt.specs.Attempts.{AttemptState}
use Rattle.cmm_member.specs.Records.{NodeRecord}
use Rattle.interconnect.specs.Links.{Links}
use Rattle.history.specs.Moment.{Moment}
use Rattle.machine_base.proofs.Puts.{put_here, put_there, same_or_not}
use Rattle.machine_base.specs.Put.{put}
use Rattle.membership_machine.specs.Events as membership
use Rattle.membership_machine.specs.Growth.{Grows}
use Rattle.membership_machine.specs.Invariant.{Holds}
use Rattle.membership_machine.specs.State.{Memberships}
use Rattle.membership_machine.specs.Votes.{Setting}
use Rattle.node_model.specs.Steps.{Outcome, at_second, stepped}
use Rattle.node_model.specs.declared.cluster.Cluster.{Cluster}
use Rattle.node_model.specs.declared.input.Input.{Input}
use Rattle.node_model.specs.declared.input.Input.TheVariants.{Answered, Boot, Client, CommandDue, Commanded, Crash, Packet, Reported, Tick, Wrote}
use Rattle.node_model.specs.declared.node.Node.{Node}
use Rattle.node_model.specs.declared.node.Node.TheVariants.{Down, Up}
use Rattle.node_model.specs.declared.output.Output.{Output}
use Rattle.node_model.specs.declared.output.Output.TheVariants.{Sends, Tells}
use Rattle.refinement.specs.node_widths.Widths.{NodeFits}
use Rattle.pgr_device.specs.Device.{Device}
use Rattle.record_disk.specs.Disks.{DiskState}
use Rattle.refinement.proofs.EveryRun.{is_true}
use Rattle.refinement.proofs.Facts.{known_by, step_may}
use Rattle.refinement.proofs.Handlers.{delivered_by}
use Rattle.refinement.proofs.Ties.{message_stays, node_stays}
use Rattle.refinement.specs.Courses.{Reply}
use Rattle.refinement.specs.Courses.Reply.{Done, Lost_new, Lost_old}
use Rattle.refinement.specs.Cuts.{boot_doings, course_at, doings, down_doings}
use Rattle.refinement.specs.Doings.{Doing, Site, after_all, given_all, site}
use Rattle.refinement.specs.Guards.{MayAll}
use Rattle.refinement.specs.Runs.{AnswersFit, Letter, Nodes, WasSent, letters_of, moved}
use Rattle.refinement.specs.Runs.Move.{Takes as Takes_in}
use Rattle.refinement.specs.Steps.{disk_rules}
use Rattle.refinement.specs.Ties.{AllTold, MessageTold, NodeTied, setting_of}
use Rattle.refinement.specs.Widths.{RunFits}
use Rattle.refinement.specs.Worlds.{DeviceFits}
use Rattle.wire.specs.Spelling.{IsNode}
use Rattle.run_history.specs.Happenings.{taking}
use Rattle.run_history.specs.Scenes.{Scene, passing}
use Rattle.run_history.specs.Cuts.{StepCut, step_events}
use Rattle.run_history.proofs.AtSteps.{IsNoAnswer, step_to}
use Rattle.run_history.proofs.WholeChanges.{attempt_of, own_epoch}
use Rattle.run_history.proofs.WholeDoings.{Ready}
use Rattle.run_history.proofs.Flying.{Flying, SameBut, flying_stays, passing_same, passing_told}
use Rattle.run_history.proofs.Stays.{own_stays, run_grows, whole_holds}
use Rattle.run_history.proofs.WholeSteps.{at_under, doings_go, hand_all}
use Rattle.run_history.proofs.Widths.{StepFits, all_spelled, dated_fits, fits_move, move_fits}
use Rattle.run_history.specs.Guards.{AtAll, Hand}
use Rattle.run_history.specs.Wholes.{IsWhole, device_at}
use Rattle.run_history.specs.Sites.{AllToldOf, DoingGoes, KnownOf, SiteAt}

-- The other nodes.

owns : (c : Cluster) (M : Memberships) (k : ℕ) (disk : NodeRecord) (node : Node) → NodeTied c M k disk node → OwnsAttempt k node
owns c M k disk Down tied = tt
owns c M k disk (Up x) tied = by_attempt x.attempt refl
  where
    by_attempt : (o : Option AttemptState) → x.attempt ≡ o → IsOf k o
    by_attempt None is = tt
    by_attempt (Some a) is = own_epoch c M k x a (attempt_of c M k x disk a tied.0 is)

site_stays : (c : Cluster) (W V : Whole) (n k : ℕ) (node : Node) (disk : NodeRecord) → IsReached (setting_of c) W → Moves (setting_of c) W n V → Grows W.memberships V.memberships → k ≢ n
    → SiteAt c W k (site node disk) → SiteAt c V k (site node disk)
site_stays c W V n k node disk reached m g ne at = record {
  tied = node_stays c W.memberships V.memberships k disk node (whole_holds (setting_of c) W reached) g (m.others k ne) at.tied;
  joins = at.joins;
  at = others_stay (setting_of c) c W V n k disk node reached m ne (owns c W.memberships k disk node at.tied) at.at;
  own = own_stays (setting_of c) W V n k node reached m at.own;
  valid = at.valid;
}

put_sites : (c : Cluster) (V : Whole) (v : Nodes) (n : ℕ) (node : Node) (disk : DiskState) → SiteAt c V n (site node disk.kept) → ((k : ℕ) → k ≢ n → SiteAt c V k (site (v.node k) (v.disk k).kept))
    → (k : ℕ) → SiteAt c V k (site (put v.node n node k) (put v.disk n disk k).kept)
put_sites c V v n node disk here there k = go (same_or_not k n)
  where
    go : (k ≡ n) ⊎ (k ≢ n) → SiteAt c V k (site (put v.node n node k) (put v.disk n disk k).kept)
    go (inl e) =
        subst (λ j. SiteAt c V j (site (put v.node n node j) (put v.disk n disk j).kept)) (sym e)
        (subst (λ x. SiteAt c V n (site x (put v.disk n disk n).kept)) (sym (put_here v.node n node))
        (subst (λ (d : DiskState). SiteAt c V n (site node d.kept)) (sym (put_here v.disk n disk)) here))
    go (inr ne) =
        subst (λ x. SiteAt c V k (site x (put v.disk n disk k).kept)) (sym (put_there v.node n node k ne))
        (subst (λ (d : DiskState). SiteAt c V k (site (v.node k) d.kept)) (sym (put_there v.disk n disk k ne)) (there k ne))

-- All that was sent.

abbrev pub AllTrue : Memberships → List Letter → Type 0
AllTrue M letters = AllByRecursion (λ (l : Letter). MessageTold M l.from l.body) letters

all_stay : (c : Cluster) (M N : Memberships) (letters : List Letter) → Holds (setting_of c) M → Grows M N → AllTrue M letters → AllTrue N letters
all_stay c M N [] i g h = tt
all_stay c M N (l ∷ letters) i g h = (message_stays c M N l.from l.body i g h.0, all_stay c M N letters i g h.1)

more_true : (M : Memberships) (n : ℕ) (os : List Output) (letters : List Letter) → AllTold M n os → AllTrue M letters → AllTrue M (letters_of n os ++ letters)
more_true M n [] letters h k = k
more_true M n (Tells e ∷ os) letters h k = more_true M n os letters h.1 k
more_true M n (Sends to b ∷ os) letters h k = (h.0, more_true M n os letters h.1 k)

-- A step of a node.

-- the small steps of a step, for the replies that it is cut by
abbrev pub small_steps : (c : Cluster) (n now : ℕ) (ends : method.Outcome) (v : Nodes) (i : Input) → StepCut c n now ends v i → List Doing
small_steps c n now ends v i cut = doings c n now ends cut.replies i (v.node n)

-- a node with its disk
abbrev pub site_of : Nodes → ℕ → Site
site_of v n = site (v.node n) (v.disk n).kept

-- A scene of the whole follows one, by these events of the machine of memberships.
pub record Follows (c : Cluster) (s : Scene) (w : IsWhole c s) (t : Scene) (events : List membership.Event) : Type 0 where
  pub next : IsWhole c t
  pub run : membership.Run (setting_of c) w.machine.memberships events next.machine.memberships
  pub steps : List whole.Event
  pub whole_run : whole.Run (setting_of c) w.machine steps next.machine

abbrev pub scene_of : Nodes → List Device → List (Option Bool) → Links → List Moment → Scene
scene_of v devices faults net moments = record { nodes = v; devices = devices; faults = faults; links = net; moments = moments }

pub step_follows : (c : Cluster) (s : Scene) (w : IsWhole c s) (n now : ℕ) (ends : method.Outcome) (i : Input) (devices : List Device) (faults : List (Option Bool)) (net : Links) (moments : List Moment) (h : Hand)
    (cut : StepCut c n now ends s.nodes i) → IsNode n → now < 2 ^ 64 → WasSent s.nodes i → AnswersFit i → Flying w.machine net → ((d : ℕ) (device : Device) → slice_get devices d ≡ Some device → DeviceFits device)
    → DoingGoes c w.machine n (device_at devices) (after_all c n (site_of s.nodes n) (small_steps c n now ends s.nodes i cut)) (given_all c n (site_of s.nodes n) (small_steps c n now ends s.nodes i cut))
    (step_events c n now ends s.nodes i cut) h
    → Follows c s w (taking c n now ends i (scene_of s.nodes devices faults net moments)) (step_events c n now ends s.nodes i cut)
step_follows c s w n now ends i devices faults net moments h cut is time sent fit flying fits g =
    let S : Setting = setting_of c in
    let W : Whole = w.machine in
    let V : Whole = g.machine in
    let v : Nodes = s.nodes in
    let o : Outcome DiskState = stepped disk_rules c n now ends (v.node n) (v.disk n) i in
    let t : Scene = record (scene_of v devices faults net moments) { nodes = moved c v (Takes_in n now ends i) } in
    let same : SameBut t (passing n o.given t) = passing_same n o.given t in
    let holds : Holds S W.memberships = whole_holds S W w.reached in
    let grows : Grows W.memberships V.memberships = run_grows S W.memberships V.memberships (step_events c n now ends v i cut) holds g.run in
    let here : SiteAt c V n (site o.after o.disk.kept) = subst (λ z. SiteAt c V n z) cut.comes.left g.site_so in
    let said : AllTold V.memberships n o.given = subst (λ os. AllTold V.memberships n os) cut.comes.given g.said in
    let told : AllToldOf V n o.given = subst (λ os. AllToldOf V n os) cut.comes.given g.told in
    let step : StepFits c n o = move_fits c w.cluster.fits v n now ends i (is.0, is.1, sent, fit) time w.fits in
    record {
      next = record {
        cluster = w.cluster;
        machine = V;
        reached = reached_stays S W V n w.reached g.moves;
        devices_so = subst (λ ds. DevicesTied c (device_at ds) V) (sym same.devices) g.devices_so;
        sites = subst (λ (z : Nodes). (k : ℕ) → SiteAt c V k (site_of z k)) (sym same.nodes)
            (put_sites c V v n o.after o.disk here (λ k ne. site_stays c W V n k (v.node k) (v.disk k).kept w.reached g.moves grows ne (w.sites k)));
        sent = subst (λ (z : Nodes). AllTrue V.memberships z.sent) (sym same.nodes)
            (more_true V.memberships n o.given v.sent said (all_stay c W.memberships V.memberships v.sent holds grows w.sent));
        flying = passing_told V n o.given t (flying_stays S W V n net w.reached g.moves flying) (all_spelled n o.given is step.given) told;
        fits = subst (RunFits c) (sym same.nodes) (fits_move c w.cluster.fits v (Takes_in n now ends i) (is.0, is.1, sent, fit) time w.fits);
        device_fits = subst (λ ds. (d : ℕ) (device : Device) → slice_get ds d ≡ Some device → DeviceFits device) (sym same.devices) fits;
      };
      run = g.run;
      steps = g.moves.events;
      whole_run = g.moves.run;
    }

-- What is known of a scene of the whole, where a node takes what comes to it.
pub ready_of : (c : Cluster) (s : Scene) (w : IsWhole c s) (n : ℕ) (i : Input) → n ≤ 32 → WasSent s.nodes i → KnownOf w.machine n (delivered_by i)
    → Ready c w.machine n (delivered_by i) None (device_at s.devices) (site_of s.nodes n)
ready_of c s w n i low sent told = record {
  fits = w.cluster;
  low = low;
  reached = w.reached;
  tied = w.devices_so;
  site_so = w.sites n;
  known = known_by w.machine.memberships i (is_true w.machine.memberships s.nodes i sent w.sent);
  known_of = told;
  hand = tt;
}

pub may_of : (c : Cluster) (s : Scene) (w : IsWhole c s) (n now : ℕ) (ends : method.Outcome) (i : Input) (cut : StepCut c n now ends s.nodes i) → n ≤ 32
    → MayAll c n (delivered_by i) (site_of s.nodes n) (small_steps c n now ends s.nodes i cut)
may_of c s w n now ends i cut low =
    step_may c w.machine.memberships n now ends (s.nodes.node n) (s.nodes.disk n).kept i cut.replies low w.cluster.fits.devices.attached
    (whole_holds (setting_of c) w.machine w.reached) (w.sites n).tied (w.sites n).joins

-- No answer of a device comes.

boot_at : (c : Cluster) (n : ℕ) (disk : NodeRecord) (replies : List Reply) → AtAll c n None None (site Down disk) (boot_doings replies)
boot_at c n disk [] = (tt, (tt, tt))
boot_at c n disk (Done ∷ replies) = (tt, tt)
boot_at c n disk (Lost_new why ∷ replies) = (tt, (tt, tt))
boot_at c n disk (Lost_old why ∷ replies) = (tt, (tt, tt))

down_at : (c : Cluster) (n : ℕ) (disk : NodeRecord) (replies : List Reply) (i : Input) → AtAll c n (delivered_by i) None (site Down disk) (down_doings replies i)
down_at c n disk replies Boot = boot_at c n disk replies
down_at c n disk replies Crash = tt
down_at c n disk replies Tick = tt
down_at c n disk replies (Packet from m) = tt
down_at c n disk replies CommandDue = tt
down_at c n disk replies (Answered a) = tt
down_at c n disk replies (Wrote d value a) = tt
down_at c n disk replies (Commanded words) = tt
down_at c n disk replies (Reported r good) = tt
down_at c n disk replies (Client name client port) = tt

pub node_at : (c : Cluster) (n now : ℕ) (ends : method.Outcome) (node : Node) (disk : NodeRecord) (replies : List Reply) (i : Input) → IsNoAnswer i → now < 2 ^ 64 → NodeFits c n node
    → AtAll c n (delivered_by i) None (site node disk) (doings c n now ends replies i node)
node_at c n now ends Down disk replies i is time fit = down_at c n disk replies i
node_at c n now ends (Up x) disk replies i is time fit =
    at_under c n (delivered_by i) None x disk replies (course_at c n now ends x i) (tt, step_to c n ends None (at_second now x) i is (dated_fits c n now x time fit))

pub plain_goes : (c : Cluster) (s : Scene) (w : IsWhole c s) (n now : ℕ) (ends : method.Outcome) (i : Input) (cut : StepCut c n now ends s.nodes i) → IsNode n → now < 2 ^ 64 → IsNoAnswer i → WasSent s.nodes i
    → KnownOf w.machine n (delivered_by i)
    → DoingGoes c w.machine n (device_at s.devices) (after_all c n (site_of s.nodes n) (small_steps c n now ends s.nodes i cut)) (given_all c n (site_of s.nodes n) (small_steps c n now ends s.nodes i cut))
    (step_events c n now ends s.nodes i cut) (hand_all None (small_steps c n now ends s.nodes i cut))
plain_goes c s w n now ends i cut is time other sent told =
    doings_go c w.machine n (delivered_by i) None (device_at s.devices) (site_of s.nodes n) (small_steps c n now ends s.nodes i cut) (ready_of c s w n i is.1 sent told) (may_of c s w n now ends i cut is.1)
    (node_at c n now ends (s.nodes.node n) (s.nodes.disk n).kept cut.replies i other time (w.fits.nodes n))
