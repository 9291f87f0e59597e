-- A node takes what comes to it: what attempts and messages have of seizings is as the lines show it again.
use Rattle.std.specs.Prelude.{ℕ, ◌^◌, ◌≡◌, ◌<◌, Bool, List, ◌∷◌, Option, None, Some}
use Rattle.std.proofs.Common.{refl, sym, ap, subst, ◌∙◌}
use Rattle.cl_base.specs.declared.header.Header.{Header}
use Rattle.cl_base.specs.declared.method.Outcome as method
use Rattle.cluster_machine.proofs.Whole.{InOrder}
use Rattle.cmm_attempt.specs.Attempts.{AttemptState}
use Rattle.history.specs.Contact.{AttemptsDiffer}
use Rattle.history.specs.Moment.{Moment}
use Rattle.history.specs.Order.{Always}
use Rattle.membership_machine.proofs.Growth.{grows_same}
use Rattle.membership_machine.specs.Events.{Run}
use Rattle.membership_machine.specs.Invariant.{Holds}
use Rattle.membership_machine.specs.State.{Memberships}
use Rattle.membership_machine.specs.Votes.{Setting}
use Rattle.node_model.specs.Steps.{Outcome, stepped}
use Rattle.node_model.specs.declared.cluster.Cluster.{Cluster}
use Rattle.node_model.specs.declared.input.Input.{Input}
use Rattle.node_model.specs.declared.node.Node.{Node}
use Rattle.node_model.specs.declared.node.Node.TheVariants.{Down, Up}
use Rattle.node_model.specs.declared.output.Output.{Output}
use Rattle.node_model.specs.declared.output.Output.TheVariants.{Tells}
use Rattle.pgr_device.specs.Device.{Device}
use Rattle.record_disk.specs.Disks.{DiskState}
use Rattle.refinement.proofs.Handlers.{delivered_by}
use Rattle.refinement.specs.Courses.{Reply}
use Rattle.refinement.specs.Cuts.{doings}
use Rattle.refinement.specs.Runs.{AnswersFit, Nodes, WasSent, moved}
use Rattle.refinement.specs.Runs.Move.{Takes as Takes_in}
use Rattle.refinement.specs.Steps.{disk_rules}
use Rattle.refinement.specs.Ties.{setting_of}
use Rattle.refinement.specs.Worlds.{AllFit}
use Rattle.run_history.proofs.Idle.{passing_nodes}
use Rattle.run_history.proofs.Stays.{run_same, whole_holds}
use Rattle.run_history.proofs.Steps.{put_all}
use Rattle.run_history.specs.CommandLines.{AllQuiet}
use Rattle.run_history.specs.Cuts.{StepCut, step_events}
use Rattle.run_history.specs.Happenings.{given_by, taking}
use Rattle.run_history.proofs.WholeScenes.{scene_of}
use Rattle.run_history.specs.Scenes.{Scene, passing, telling}
use Rattle.run_history.specs.Stages.{site_of}
use Rattle.run_history.specs.Wholes.{IsWhole}
use Rattle.world_model.specs.First.{first_cluster}
use Rattle.status_report.specs.declared.device_entry.DeviceEntry.{DeviceEntry}
use Rattle.status_report.specs.declared.entry.Entry.TheVariants as entry
use Rattle.wire.specs.Spelling.{IsNode}
use Rattle.wire.specs.declared.message.Body.{Body}
use Rattle.run_seizings.proofs.Asked.{AllMay}
use Rattle.run_seizings.proofs.Progress.{installed_stays}
use Rattle.run_seizings.proofs.Steps.{Ground}
use Rattle.run_devices.specs.readings.Sites.{InHand, IsReading}
use Rattle.run_devices.specs.valid.Engaged.{SeizersEngaged}
use Rattle.run_devices.specs.installs.Shown.{AttemptIn, BodyShown, Brings, NodeIn, Shown, shown_in}
use Rattle.run_devices.proofs.installs.Acts.{MineIn, OptMine}
use Rattle.run_devices.proofs.installs.Begins.{engaged_later, links_begin, mine_begins, node_begins}
use Rattle.run_devices.proofs.installs.Calls.{HandLow, HandShown}
use Rattle.run_devices.proofs.installs.Doings.{AllStill, body_later, installed_later, quiet_keys}
use Rattle.run_devices.proofs.installs.Links.{AllSay, Gives, passing_says, say_later}
use Rattle.run_devices.proofs.installs.News.{NewSeizers}
use Rattle.run_devices.proofs.installs.Sends.{passing_brings}
use Rattle.run_devices.proofs.installs.Steps.{Stepped, small_of, step_goes}
use Rattle.run_devices.proofs.readings.Order.{header_order}

-- ---- a scene

-- what attempts and messages have of seizings is as the lines show it
pub record IsShown (h : Header) (s : Scene) (M : Memberships) : Type 0 where
  pub sites : (n : ℕ) → NodeIn (shown_in h s.moments) (s.nodes.node n)
  pub packets : AllSay (BodyShown (shown_in h s.moments) M s.moments) s.links
  pub brings : Always (Brings h) s.moments

abbrev pub ground_of : (c : Cluster) (s : Scene) → IsWhole c s → Ground c s.nodes
ground_of c s w = record {
  machine = w.machine.memberships;
  holds = whole_holds (setting_of c) w.machine w.reached;
  stands = λ n. record { tied = (w.sites n).tied; joins = (w.sites n).joins };
  sent = w.sent;
  fits = w.fits;
}

opt_shown : (K : Shown) (high : ℕ) (o : Option AttemptState) → OptMine K high o → AttemptIn K o
opt_shown K high None k = tt
opt_shown K high (Some a) k = k.shown

node_shown : (K : Shown) (high : ℕ) (node : Node) → MineIn K high node → NodeIn K node
node_shown K high Down k = tt
node_shown K high (Up x) k = opt_shown K high x.attempt k

-- ---- a node takes what comes

pub taken_shown : (h : Header) (c : Cluster) (n now : ℕ) (ends : method.Outcome) (i : Input) (t : Scene) (high : ℕ) (M N : Memberships) (cut : StepCut c n now ends t.nodes i)
    → (z : Stepped h c M n high (shown_in h (taking c n now ends i t).moments) t.nodes (stepped disk_rules c n now ends (t.nodes.node n) (t.nodes.disk n) i) (small_of c n now ends t.nodes i cut)
    (taking c n now ends i t).moments)
    → z.went.machine ≡ N → ((k : ℕ) → NodeIn (shown_in h (taking c n now ends i t).moments) (t.nodes.node k))
    → AllSay (BodyShown (shown_in h (taking c n now ends i t).moments) M t.moments) t.links
    → Always (Brings h) (taking c n now ends i t).moments → IsShown h (taking c n now ends i t) N
taken_shown h c n now ends i t high M N cut z same sites packets brings =
    let K : Shown = shown_in h (taking c n now ends i t).moments in
    let v : Nodes = t.nodes in
    let o : Outcome DiskState = stepped disk_rules c n now ends (v.node n) (v.disk n) i in
    let u : Scene = record t { nodes = moved c v (Takes_in n now ends i) } in
    record {
      sites = subst (λ (y : Nodes). (j : ℕ) → NodeIn K (y.node j)) (sym (passing_nodes n o.given u))
          (put_all (λ j node disk. NodeIn K node) v n o.after o.disk (node_shown K high o.after z.mine) (λ j ne. sites j));
      packets = subst (λ y. AllSay (BodyShown K y (taking c n now ends i t).moments) (taking c n now ends i t).links) same
          (passing_says (BodyShown K z.went.machine (taking c n now ends i t).moments) n o.given u
          (say_later (BodyShown K M t.moments) (BodyShown K z.went.machine (taking c n now ends i t).moments) t.links
          (body_later K M z.went.machine t.moments (taking c n now ends i t).moments z.went.grows (installed_later n o.given u)) packets) z.fits z.gives);
      brings = brings;
    }

-- ---- what is known as a thing happens

pub record Facts (h : Header) (s : Scene) (w : IsWhole (first_cluster h) s) (later : List Moment) : Type 0 where
  pub order : InOrder (setting_of (first_cluster h)) w.machine
  pub engaged : SeizersEngaged h w.machine s.moments
  pub reading : IsReading h s
  pub new : NewSeizers h w.machine s.moments later
  pub shown : IsShown h s w.machine.memberships

pub sites_begin : (h : Header) (s : Scene) (w : IsWhole (first_cluster h) s) (later : List Moment) → Facts h s w later → (n : ℕ) → NodeIn (shown_in h later) (s.nodes.node n)
sites_begin h s w later b n =
    node_begins h (setting_of (first_cluster h)) (first_cluster h) w.machine s.moments later n (s.nodes.disk n).kept (s.nodes.node n) b.order b.new (w.sites n).at (b.shown.sites n)

pub mine_at : (h : Header) (s : Scene) (w : IsWhole (first_cluster h) s) (later : List Moment) (high n : ℕ) → Facts h s w later → MineIn (shown_in h later) high (s.nodes.node n)
mine_at h s w later high n b =
    mine_begins h (setting_of (first_cluster h)) (first_cluster h) w.machine later high n (s.nodes.disk n).kept (s.nodes.node n) b.order
    (engaged_later h w.machine s.moments later b.new b.engaged) (w.sites n).at (sites_begin h s w later b n)

pub packets_begin : (h : Header) (s : Scene) (w : IsWhole (first_cluster h) s) (later : List Moment) → Facts h s w later
    → AllSay (BodyShown (shown_in h later) w.machine.memberships s.moments) s.links
packets_begin h s w later b =
    links_begin h (setting_of (first_cluster h)) w.machine w.machine.memberships s.moments later s.links b.order b.new w.flying b.shown.packets

-- one moment more
pub more_said : (h : Header) (K : Shown) (M : Memberships) (S : Setting) (x : Moment) (ms : List Moment) → Holds S M → (from : ℕ) (b : Body) → BodyShown K M ms from b → BodyShown K M (x ∷ ms) from b
more_said h K M S x ms holds from b k = body_later K M M ms (x ∷ ms) (grows_same S M holds) (λ n e is. installed_stays ms x n e is) from b k

-- ---- an answer of a device

command_brings : (h : Header) (K : Shown) (M : Memberships) (n : ℕ) (e : DeviceEntry) (os others : List Output) (u : Scene) → os ≡ Tells (entry.Device e) ∷ others → AllQuiet others → AllFit n os
    → Gives (BodyShown K M (passing n os u).moments) n os → K ≡ shown_in h (passing n os u).moments → Always (Brings h) u.moments → Always (Brings h) (passing n os u).moments
command_brings h K M n e os others u is quiet fits gives same old = by_line os is fits gives same
  where
    t : Scene
    t = telling (entry.Device e) u

    by_line : (os : List Output) → os ≡ Tells (entry.Device e) ∷ others → AllFit n os → Gives (BodyShown K M (passing n os u).moments) n os → K ≡ shown_in h (passing n os u).moments
        → Always (Brings h) (passing n os u).moments
    by_line os is f g same = subst (λ z. Always (Brings h) (passing n z u).moments) (sym is)
        (passing_brings h K M (passing n others t).moments n others t quiet (subst (λ z. AllFit n z) is f)
        (subst (λ z. Gives (BodyShown K M (passing n z u).moments) n z) is g)
        (λ k q d. ap (λ (f : Shown). f k q d) (subst (λ z. K ≡ shown_in h (passing n z u).moments) is same) ∙ quiet_keys h n others t quiet k q d) (tt, old))

-- a node takes the answer of a device, to its command or to a write
pub answer_shown : (h : Header) (s : Scene) (w : IsWhole (first_cluster h) s) (n now : ℕ) (ends : method.Outcome) (i : Input) (devices : List Device) (faults : List (Option Bool)) (e : DeviceEntry)
    (others : List Output) (N : Memberships)
    → (cut : StepCut (first_cluster h) n now ends s.nodes i)
    → Facts h s w (taking (first_cluster h) n now ends i (scene_of s.nodes devices faults s.links s.moments)).moments → delivered_by i ≡ None
    → IsNode n → now < 2 ^ 64 → WasSent s.nodes i → AnswersFit i → InHand h s.moments n (delivered_by i)
    → ((replies : List Reply) → AllMay h (first_cluster h) n (delivered_by i) None (site_of s.nodes n) (doings (first_cluster h) n now ends replies i (s.nodes.node n)))
    → AttemptsDiffer (taking (first_cluster h) n now ends i (scene_of s.nodes devices faults s.links s.moments)).moments
    → AllStill (first_cluster h) n (site_of s.nodes n) (small_of (first_cluster h) n now ends s.nodes i cut)
    → given_by (first_cluster h) n now ends i s.nodes ≡ Tells (entry.Device e) ∷ others → AllQuiet others
    → Run (setting_of (first_cluster h)) w.machine.memberships (step_events (first_cluster h) n now ends s.nodes i cut) N
    → IsShown h (taking (first_cluster h) n now ends i (scene_of s.nodes devices faults s.links s.moments)) N
answer_shown h s w n now ends i devices faults e others N cut b none is time was fits hand guard differ still gives quiet run =
    let c : Cluster = first_cluster h in
    let t : Scene = scene_of s.nodes devices faults s.links s.moments in
    let end : List Moment = (taking c n now ends i t).moments in
    let K : Shown = shown_in h end in
    let M : Memberships = w.machine.memberships in
    let o : Outcome DiskState = stepped disk_rules c n now ends (s.nodes.node n) (s.nodes.disk n) i in
    let u : Scene = record t { nodes = moved c s.nodes (Takes_in n now ends i) } in
    let z : Stepped h c M n 0 K s.nodes o (small_of c n now ends s.nodes i cut) end =
    step_goes h c n now ends i t 0 refl (record { fits = w.cluster.fits; small = w.cluster.small }) (header_order h) (ground_of c s w) is time was fits hand guard differ
    (record { sites = b.reading.sites; carried = b.reading.carried; says = b.reading.says; brings = b.reading.brings }) cut still
    (subst (λ d. HandLow 0 d) (sym none) tt) (subst (λ d. HandShown K M s.moments d) (sym none) tt) (mine_at h s w end 0 n b) in
    taken_shown h c n now ends i t 0 M N cut z (run_same (setting_of c) M z.went.machine N (step_events c n now ends s.nodes i cut) z.went.run run) (sites_begin h s w end b) (packets_begin h s w end b)
    (command_brings h K z.went.machine n e o.given others u gives quiet z.fits z.gives refl b.shown.brings)
