-- Each thing that happens when it is due leaves entries of one node, with the Prepares of its proposals.
use Rattle.std.specs.Prelude.{ℕ, ◌-◌, ◌≡◌, ◌≤◌, ◌^◌, ◌++◌, true, All, List, [], ◌∷◌, Option, None, Some, is_some, slice_get}
use Rattle.std.specs.List.{AllByRecursion}
use Rattle.std.proofs.Common.{refl, ap, sym, subst, ◌∙◌, inl, inr}
use Rattle.cl_base.specs.declared.method.Outcome as method
use Rattle.cl_base.specs.declared.packet.DropCause.{DropCause}
use Rattle.cl_base.specs.declared.packet.DropCause.TheVariants as drop
use Rattle.cmm_attempt.proofs.Basics.{if_either}
use Rattle.cmm_attempt.specs.Calls.{IsDevice}
use Rattle.history.specs.Links.{links_after}
use Rattle.history.specs.Messages.{onto}
use Rattle.history.specs.Moment.{Moment, Told}
use Rattle.history.specs.Order.{OfEvents}
use Rattle.history.specs.Starts.{is_started}
use Rattle.interconnect.specs.Links as net
use Rattle.interconnect.specs.Links.{Links, Packet, sending}
use Rattle.machine_base.proofs.Puts.{put_here}
use Rattle.membership_machine.specs.Invariant.{Holds}
use Rattle.membership_machine.specs.State.{Memberships}
use Rattle.node_model.specs.declared.cluster.Cluster.{Cluster}
use Rattle.node_model.specs.declared.input.Input.{Input}
use Rattle.node_model.specs.declared.input.Input.TheVariants as input
use Rattle.node_model.specs.declared.output.Output.{Output}
use Rattle.node_model.specs.Steps.{Outcome, stepped}
use Rattle.pgr_device.specs.Device.{Device}
use Rattle.pgr_device.specs.declared.command.PrCommand.{PrCommand}
use Rattle.pgr_device.specs.declared.command.PrCommand.TheVariants as command
use Rattle.record_disk.specs.Disks.{DiskState}
use Rattle.refinement.proofs.Disks.{disks_keep_rules}
use Rattle.refinement.proofs.Facts.{known_by, step_may}
use Rattle.refinement.proofs.Handlers.{delivered_by}
use Rattle.refinement.proofs.Replies.{steps_are_cut}
use Rattle.refinement.specs.Cuts.{doings}
use Rattle.refinement.specs.Doings.{Doing, Site, after_all, given_all, site}
use Rattle.refinement.specs.Guards.{MayAll}
use Rattle.refinement.specs.Runs.{IsAmong, Letter, Nodes, moved}
use Rattle.refinement.specs.Runs.Move.{Takes as Takes_in}
use Rattle.refinement.specs.Steps.{IsCut, disk_rules}
use Rattle.refinement.specs.Ties.{MessageTold, setting_of}
use Rattle.refinement.specs.Whole.{IsTrue, Stands}
use Rattle.run_history.proofs.Idle.{passing_nodes}
use Rattle.run_history.proofs.Lists.{both}
use Rattle.run_history.specs.Happenings.{Happening, IsNode, IsPlain, MayHappen, commanded, commanded_at, given_by, happened, removed, taking}
use Rattle.run_history.specs.Happenings.Happening.{Arrives, Commands, Loses, Misses, Notes, Refuses, Repeats, Strays, Takes, Writes}
use Rattle.run_history.specs.Scenes.{Scene, dropped_so, telling, with_links}
use Rattle.run_history.specs.Shapes.{IsThis, Want, still}
use Rattle.run_history.specs.Shapes as want
use Rattle.run_history.specs.Stages.{Stage}
use Rattle.run_lines.proofs.Outputs.{gives_entries}
use Rattle.run_lines.specs.Entries.{IsOfEvent}
use Rattle.status_report.specs.declared.device_entry.DeviceEntry.TheVariants as device
use Rattle.status_report.specs.declared.entry.Entry.{Entry}
use Rattle.status_report.specs.declared.entry.Entry.TheVariants as entry
use Rattle.status_report.specs.declared.packet_entry.PacketEntry.TheVariants as packet
use Rattle.wire.specs.declared.message.Body.{Body}
use Rattle.world_model.specs.Devices.{due_at}
use Rattle.run_packets.proofs.prepares.Adds.{adds_drop, adds_first, adds_one, adds_passing, entries_of_event}
use Rattle.run_packets.proofs.prepares.Courses.{doings_own}
use Rattle.run_packets.proofs.prepares.Doings.{AllSo, all_so}
use Rattle.run_packets.proofs.prepares.Lines.{same_number}
use Rattle.run_packets.proofs.prepares.Numbers.{left_before, lines_next, started_later}
use Rattle.run_packets.proofs.prepares.Passing.{announced_both, onto_both}
use Rattle.run_packets.specs.prepares.Actors.{IsOf}
use Rattle.run_packets.specs.prepares.Events.{AddsOf, AreDueOf, Awaits, EntryOf, IsLeft, IsLeftAfter, IsOwed, Leaves, Left}
use Rattle.run_packets.specs.prepares.Proposals.{AreSo, AreStarted, Covers}

-- ---- a node takes something

-- what is known of all nodes, in the machine of memberships
pub record Knows (c : Cluster) (v : Nodes) : Type 0 where
  pub machine : Memberships
  pub holds : Holds (setting_of c) machine
  pub stands : (n : ℕ) → Stands c machine n (v.node n) (v.disk n).kept
  pub sent : AllByRecursion (λ (l : Letter). MessageTold machine l.from l.body) v.sent

abbrev pub known : (c : Cluster) (s : Scene) → Stage c s → Knows c s.nodes
known c s b = record { machine = b.machine; holds = b.holds; stands = b.stands; sent = b.sent }

-- what it gives is of its own doing, and its proposals have their Prepares
record Steps (before : List Moment) (n : ℕ) (moments : List Moment) (t : Scene) : Type 0 where
  adds : AddsOf before n moments t
  covers : Covers before n (t.nodes.node n)

given_so : (c : Cluster) (v : Nodes) (before : List Moment) (n now : ℕ) (ends : method.Outcome) (i : Input) → n ≤ 32 → All IsDevice c.attached → (k : Knows c v) → IsTrue k.machine i
    → AreStarted before k.machine → Covers before n (v.node n)
    → (let o : Outcome DiskState = stepped disk_rules c n now ends (v.node n) (v.disk n) i in AllSo before n o.given o.after)
given_so c v before n now ends i high fits k is_true started covers =
    let o : Outcome DiskState = stepped disk_rules c n now ends (v.node n) (v.disk n) i in
    let cut : IsCut disk_rules c n now ends (v.node n) (v.disk n) i [] o = steps_are_cut disk_rules disks_keep_rules c n now ends (v.node n) (v.disk n) i in
    let x : Site = site (v.node n) (v.disk n).kept in
    let ds : List Doing = doings c n now ends cut.replies i (v.node n) in
    let may : MayAll c n (delivered_by i) x ds =
    step_may c k.machine n now ends (v.node n) (v.disk n).kept i cut.replies high fits k.holds (k.stands n).tied (k.stands n).joins in
    let all : AllSo before n (given_all c n x ds) (after_all c n x ds).node =
    all_so c k.machine before n (delivered_by i) x ds fits k.holds (known_by k.machine i is_true) started (k.stands n).tied may (doings_own c n now ends cut.replies i (v.disk n).kept (v.node n)) covers in
    record {
      so = subst (AreSo before n) cut.comes.given all.so;
      covers = subst (λ (z : Site). Covers before n z.node) cut.comes.left all.covers;
    }

taken : (c : Cluster) (s : Scene) (before : List Moment) (n now : ℕ) (ends : method.Outcome) (i : Input) → n ≤ 32 → All IsDevice c.attached → (k : Knows c s.nodes) → IsTrue k.machine i
    → AreStarted before k.machine → Covers before n (s.nodes.node n) → Steps before n s.moments (taking c n now ends i s)
taken c s before n now ends i high fits k is_true started covers =
    let o : Outcome DiskState = stepped disk_rules c n now ends (s.nodes.node n) (s.nodes.disk n) i in
    let v : Nodes = moved c s.nodes (Takes_in n now ends i) in
    let u : Scene = record s { nodes = v } in
    let os : List Output = given_by c n now ends i s.nodes in
    let all : AllSo before n os o.after = given_so c s.nodes before n now ends i high fits k is_true started covers in
    record {
      adds = adds_passing before n os u (gives_entries c n now ends (s.nodes.node n) (s.nodes.disk n) i) all.so;
      covers = subst (λ (w : Nodes). Covers before n (w.node n)) (sym (passing_nodes n os u)) (subst (Covers before n) (sym (put_here s.nodes.node n o.after)) all.covers);
    }

plain_true : (M : Memberships) (i : Input) → IsPlain i → IsTrue M i
plain_true M (input.Packet from m) plain = absurd plain
plain_true M _ plain = tt

among_told : (M : Memberships) (from : ℕ) (b : Body) (letters : List Letter) → IsAmong from b letters → AllByRecursion (λ (l : Letter). MessageTold M l.from l.body) letters → MessageTold M from b
among_told M from b [] among told = absurd among
among_told M from b (l ∷ letters) (inl here) told = subst (λ f. MessageTold M f b) here.0 (subst (MessageTold M l.from) here.1 told.0)
among_told M from b (l ∷ letters) (inr there) told = among_told M from b letters there told.1

-- at a device: what is done there is not told by itself
done : (c : Cluster) (s : Scene) (before : List Moment) (n d now : ℕ) (ends : method.Outcome) (o : Option Device) (q : PrCommand) (i : Input) → n ≤ 32 → All IsDevice c.attached → (k : Knows c s.nodes)
    → IsTrue k.machine i → AreStarted before k.machine → Covers before n (s.nodes.node n) → Steps before n s.moments (taking c n now ends i (commanded_at s n d o q).scene)
done c s before n d now ends None q i high fits k is_true started covers = taken c s before n now ends i high fits k is_true started covers
done c s before n d now ends (Some x) q i high fits k is_true started covers = taken c (commanded_at s n d (Some x) q).scene before n now ends i high fits k is_true started covers

-- ---- what is due came

pub leaves_all : (cells : ℕ) (before : List Moment) (n : ℕ) (wants : List Want) (ms later : List Moment) → Leaves cells before n wants ms later → Left cells before n ms later
leaves_all cells before n [] ms later none = subst (Left cells before n ms) (sym none) (record { own = tt; announced = λ left. tt })
leaves_all cells before n (w ∷ wants) ms later all = all

still_due : (n : ℕ) (t : Scene) (wants : List Want) → AreDueOf n wants → AreDueOf n (still t wants)
still_due n t [] are = tt
still_due n t (want.Command m ∷ wants) are = if_either (AreDueOf n) (is_some (due_at (Some (t.nodes.node m)))) (want.Command m ∷ wants) wants are are.1
still_due n t (want.Note e ∷ wants) are = are
still_due n t (want.Take m i ∷ wants) are = are
still_due n t (want.Deliver number x ∷ wants) are = are
still_due n t (want.Miss number x ∷ wants) are = are
still_due n t (want.Lose number x ∷ wants) are = are
still_due n t (want.Repeat number x ∷ wants) are = are
still_due n t (want.Write m d value ∷ wants) are = are
still_due n t (want.Refuse m d value why ∷ wants) are = are

-- the links are those of the lines
abbrev pub IsLinkedTo : ℕ → Scene → Type 0
IsLinkedTo cells t = t.links ≡ links_after cells t.moments

settles : (cells : ℕ) (s t : Scene) (w : Want) (wants : List Want) → IsLinkedTo cells t → (k : Awaits cells s (w ∷ wants)) → AddsOf k.before k.alike.node s.moments t
    → (IsNode k.alike.node → Covers k.before k.alike.node (t.nodes.node k.alike.node)) → Awaits cells t (still t wants)
settles cells s t w wants linked k a covers =
    let n : ℕ = k.alike.node in
    record {
      before = k.before;
      grown = λ e is. subst (λ ms. is_started e ms ≡ true) a.is (started_later e s.moments a.entries (k.grown e is));
      alike = record { node = n; are = still_due n t wants k.alike.are.1 };
      covers = covers;
      events = λ later leaves.
          let l : Left cells k.before n t.moments later = leaves_all cells k.before n (still t wants) t.moments later leaves in
          let same : onto s.moments (a.entries ++ later) ≡ onto t.moments later = onto_both s.moments a.entries later ∙ ap (λ ms. onto ms later) a.is in
          subst (λ ms. OfEvents (IsOwed cells) later ms) a.is
          (entries_of_event (IsOwed cells) n a.entries later s.moments a.own
          (k.events (a.entries ++ later) (record {
            own = both (EntryOf n) a.entries later a.own l.own;
            announced = λ left.
                let after : IsLeftAfter cells (onto t.moments later) = subst (IsLeftAfter cells) same left in
                announced_both k.before a.entries later
                (a.announced (subst (λ (z : Links). IsLeft z.next) (sym linked) (left_before (links_after cells t.moments).next (links_after cells (onto t.moments later)).next (2 ^ 63) (lines_next cells t.moments later) after)))
                (l.announced after);
          })));
    }

-- .. by a step of the node
steps_so : (cells : ℕ) (s t : Scene) (w : Want) (wants : List Want) (m : ℕ) → IsLinkedTo cells t → (k : Awaits cells s (w ∷ wants)) → m ≡ k.alike.node → Steps k.before m s.moments t → Awaits cells t (still t wants)
steps_so cells s t w wants m linked k same step =
    let here : Steps k.before k.alike.node s.moments t = subst (λ z. Steps k.before z s.moments t) same step in
    settles cells s t w wants linked k here.adds (λ node. here.covers)

adds_at : (before ms : List Moment) (m n : ℕ) (t : Scene) → m ≡ n → AddsOf before m ms t → AddsOf before n ms t
adds_at before ms m n t same a = subst (λ z. AddsOf before z ms t) same a

first_step : (before : List Moment) (n : ℕ) (e : Entry) (ms : List Moment) (t : Scene) → IsOfEvent e → IsOf n e → Steps before n (Told e ∷ ms) t → Steps before n ms t
first_step before n e ms t event is step = record { adds = adds_first before n e ms t event is step.adds; covers = step.covers }

dropped_covers : (before : List Moment) (n : ℕ) (o : Option (ℕ × DropCause)) (s : Scene) → Covers before n (s.nodes.node n) → Covers before n ((dropped_so o s).nodes.node n)
dropped_covers before n None s h = h
dropped_covers before n (Some x) s h = h

-- what was known before the step
machine_started : (c : Cluster) (cells : ℕ) (s : Scene) (wants : List Want) (b : Stage c s) (k : Awaits cells s wants) → AreStarted k.before b.machine
machine_started c cells s wants b k = λ e is. b.started e (k.grown e is)

covers_at : (cells : ℕ) (s : Scene) (wants : List Want) (k : Awaits cells s wants) (m : ℕ) → m ≡ k.alike.node → IsNode m → Covers k.before m (s.nodes.node m)
covers_at cells s wants k m same node = subst (λ z. Covers k.before z (s.nodes.node z)) (sym same) (k.covers (subst IsNode same node))

pub due_so : (c : Cluster) (cells : ℕ) (s : Scene) (w : Want) (wants : List Want) (h : Happening) → All IsDevice c.attached → Stage c s → MayHappen c s h → IsLinkedTo cells (happened c s h) → IsThis w h
    → Awaits cells s (w ∷ wants) → Awaits cells (happened c s h) (still (happened c s h) wants)
due_so c cells s (want.Note e) wants (Notes f) fits b may linked is k =
    settles cells s (happened c s (Notes f)) (want.Note e) wants linked k
    (adds_one k.before k.alike.node (entry.Schedule f) s.moments (happened c s (Notes f)) (subst (λ z. IsOfEvent (entry.Schedule z)) (sym is) k.alike.are.0) refl refl) k.covers
due_so c cells s (want.Take n i) wants (Takes m now ends j) fits b may linked is k =
    let same : m ≡ k.alike.node = is.0 ∙ k.alike.are.0 in
    steps_so cells s (happened c s (Takes m now ends j)) (want.Take n i) wants m linked k same
    (taken c s k.before m now ends j may.0.1 fits (known c s b) (plain_true b.machine j may.1) (machine_started c cells s (want.Take n i ∷ wants) b k)
    (covers_at cells s (want.Take n i ∷ wants) k m same may.0))
due_so c cells s (want.Deliver number x) wants (Arrives j y m now ends) fits b may linked is k =
    let e : Entry = entry.Packet (packet.Delivered j y.from y.to) in
    let u : Scene = telling e (removed s j) in
    let t : Scene = taking c y.to now ends (input.Packet y.from m) u in
    let same : y.to ≡ k.alike.node = ap (λ (z : Packet). z.to) is.1 ∙ k.alike.are.0 in
    steps_so cells s t (want.Deliver number x) wants y.to linked k same
    (first_step k.before y.to e s.moments t tt (same_number y.to)
    (taken c u k.before y.to now ends (input.Packet y.from m) may.3.1 fits (known c s b) (among_told b.machine y.from m.body s.nodes.sent may.4 b.sent)
    (machine_started c cells s (want.Deliver number x ∷ wants) b k) (covers_at cells s (want.Deliver number x ∷ wants) k y.to same may.3)))
due_so c cells s (want.Deliver number x) wants (Strays j y) fits b may linked is k =
    settles cells s (happened c s (Strays j y)) (want.Deliver number x) wants linked k
    (adds_at k.before s.moments y.to k.alike.node (happened c s (Strays j y)) (ap (λ (z : Packet). z.to) is.1 ∙ k.alike.are.0)
    (adds_one k.before y.to (entry.Packet (packet.Delivered j y.from y.to)) s.moments (happened c s (Strays j y)) tt (same_number y.to) refl)) k.covers
due_so c cells s (want.Miss number x) wants (Misses j y) fits b may linked is k =
    settles cells s (happened c s (Misses j y)) (want.Miss number x) wants linked k
    (adds_one k.before k.alike.node (entry.Packet (packet.Dropped j drop.Down)) s.moments (happened c s (Misses j y)) tt refl refl) k.covers
due_so c cells s (want.Lose number x) wants (Loses j y) fits b may linked is k =
    settles cells s (happened c s (Loses j y)) (want.Lose number x) wants linked k
    (adds_one k.before k.alike.node (entry.Packet (packet.Lost j)) s.moments (happened c s (Loses j y)) tt refl refl) k.covers
due_so c cells s (want.Repeat number x) wants (Repeats j y) fits b may linked is k =
    let o : net.Outcome = sending s.links y.from y.to y.bytes in
    let e : Entry = entry.Packet (packet.Repeated j s.links.next) in
    let u : Scene = telling e (with_links s o.after) in
    let t : Scene = dropped_so o.sent.dropped u in
    settles cells s t (want.Repeat number x) wants linked k
    (adds_first k.before k.alike.node e s.moments t tt refl (adds_drop k.before k.alike.node o.sent.dropped u))
    (λ node. dropped_covers k.before k.alike.node o.sent.dropped u (k.covers node))
due_so c cells s (want.Command n) wants (Commands m d q now ends) fits b may linked is k =
    let same : m ≡ k.alike.node = is ∙ k.alike.are.0 in
    steps_so cells s (happened c s (Commands m d q now ends)) (want.Command n) wants m linked k same
    (done c s k.before m d now ends (slice_get s.devices (d - 1)) q (input.Answered (commanded s m d q).answer) may.0.1 fits (known c s b) tt (machine_started c cells s (want.Command n ∷ wants) b k)
    (covers_at cells s (want.Command n ∷ wants) k m same may.0))
due_so c cells s (want.Write n d value) wants (Writes m e v now ends) fits b may linked is k =
    let same : m ≡ k.alike.node = is.0 ∙ k.alike.are.0 in
    steps_so cells s (happened c s (Writes m e v now ends)) (want.Write n d value) wants m linked k same
    (done c s k.before m e now ends (slice_get s.devices (e - 1)) (command.Write v) (input.Wrote e v (commanded s m e (command.Write v)).answer) may.0.1 fits (known c s b) tt
    (machine_started c cells s (want.Write n d value ∷ wants) b k) (covers_at cells s (want.Write n d value ∷ wants) k m same may.0))
due_so c cells s (want.Refuse n d value why) wants (Refuses m e v w) fits b may linked is k =
    settles cells s (happened c s (Refuses m e v w)) (want.Refuse n d value why) wants linked k
    (adds_at k.before s.moments m k.alike.node (happened c s (Refuses m e v w)) (is.0 ∙ k.alike.are.0)
    (adds_one k.before m (entry.Device (device.Refused m e v w)) s.moments (happened c s (Refuses m e v w)) tt (same_number m) refl)) k.covers
due_so c cells s _ wants _ fits b may linked is k = absurd is
