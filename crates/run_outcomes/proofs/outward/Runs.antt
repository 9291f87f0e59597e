-- In each run requests to seize go to another than their sender.
use Rattle.std.specs.Prelude.{ℕ, ◌-◌, ◌≡◌, ◌≤◌, List, [], ◌∷◌, Option, None, Some, slice_get}
use Rattle.std.specs.List.{AllByRecursion}
use Rattle.std.proofs.Common.{refl, sym, subst}
use Rattle.cl_base.specs.declared.header.Header.{Header}
use Rattle.cl_base.specs.declared.method.Outcome as method
use Rattle.cl_base.specs.declared.packet.DropCause.{DropCause}
use Rattle.cmm_attempt.proofs.Basics.{false_true, if_either}
use Rattle.cmm_attempt.specs.Attempts.{AttemptState}
use Rattle.history.specs.Moment.{Moment, Said, Told}
use Rattle.history.specs.Names.{named}
use Rattle.interconnect.specs.Links as links
use Rattle.interconnect.specs.Links.{sending}
use Rattle.membership_machine.specs.State.{Memberships}
use Rattle.node_model.specs.Steps.{Outcome, stepped}
use Rattle.node_model.specs.declared.cluster.Cluster.{Cluster}
use Rattle.node_model.specs.declared.input.Input.{Input}
use Rattle.node_model.specs.declared.input.Input.TheVariants as input
use Rattle.node_model.specs.declared.node.Node.{Node}
use Rattle.node_model.specs.declared.node.Node.TheVariants.{Down, Up}
use Rattle.node_model.specs.declared.node.UpNode.{UpNode}
use Rattle.node_model.specs.declared.output.Output.{Output}
use Rattle.node_model.specs.declared.output.Output.TheVariants.{Sends, Tells}
use Rattle.pgr_device.specs.Device.{Device}
use Rattle.pgr_device.specs.declared.command.PrCommand.{PrCommand}
use Rattle.pgr_device.specs.declared.command.PrCommand.TheVariants as command
use Rattle.record_disk.specs.Disks.{DiskState}
use Rattle.refinement.proofs.Disks.{disks_keep_rules}
use Rattle.refinement.proofs.Facts.{step_may}
use Rattle.refinement.proofs.Handlers.{delivered_by}
use Rattle.refinement.proofs.Replies.{steps_are_cut}
use Rattle.refinement.specs.Courses.{Reply}
use Rattle.refinement.specs.Cuts.{doings}
use Rattle.refinement.specs.Doings.{Doing, Site}
use Rattle.refinement.specs.Guards.{MayAll}
use Rattle.refinement.specs.Runs.{Nodes, moved}
use Rattle.refinement.specs.Runs.Move.{Takes as Takes_in}
use Rattle.refinement.specs.Steps.{IsCut, disk_rules}
use Rattle.run_downs.proofs.Packets.{IsNoPacket, no_packets}
use Rattle.run_history.proofs.Links.{NotPacket}
use Rattle.run_history.specs.Happenings.{Commanded, Happening, MayAllHappen, MayHappen, all_happened, armed_by, commanded, commanded_at, happened, removed, taking}
use Rattle.run_history.specs.Happenings.Happening.{Arrives, Begins, Commands, Loses, Misses, Notes, Refuses, Repeats, Speaks, Strays, Takes, Writes}
use Rattle.run_history.specs.Scenes.{Scene, adding, dropped_so, first_scene, passing, posting, sent_as, telling, with_links}
use Rattle.run_history.specs.Stages.{Sized, Stage, site_of}
use Rattle.run_history.specs.Wholes.{IsWhole}
use Rattle.run_messages.proofs.Reaching.{IsReached, IsSmall, holds_of_each, stage_of}
use Rattle.run_messages.proofs.records.Sizes.{header_sized}
use Rattle.run_packets.proofs.native.Runs.{whole_at}
use Rattle.run_seizings.proofs.Asked.{AllMay}
use Rattle.run_seizings.proofs.Moments.{due_low, due_own, plain_no}
use Rattle.run_seizings.proofs.Steps.{Ground, OwnKeysOnly, answer_may, ground_of, plain_may}
use Rattle.schedule_text.specs.declared.event.Event.{Event}
use Rattle.schedule_text.specs.declared.event.Event.TheVariants as event
use Rattle.schedule_text.specs.declared.line.Line.TheVariants as line
use Rattle.status_report.specs.declared.entry.Entry.{Entry}
use Rattle.status_report.specs.declared.entry.Entry.TheVariants as entry
use Rattle.status_report.specs.declared.packet_entry.PacketEntry.TheVariants as packet
use Rattle.wire.specs.Spelling.{IsNode, spelling}
use Rattle.wire.specs.declared.message.Body.{Body}
use Rattle.wire.specs.declared.message.Body.TheVariants as body
use Rattle.wire.specs.declared.message.Message.{Message}
use Rattle.world_model.specs.First.{first_cluster}
use Rattle.world_model.specs.Sends.{is_sent, name_of}
use Rattle.run_outcomes.specs.saves.Kept.{IsAt}
use Rattle.run_outcomes.specs.phases.Kept.{In}
use Rattle.run_outcomes.specs.tasks.Outward.{IsOutward, RequestsGoOut}
use Rattle.run_outcomes.proofs.outward.Doings.{BodyOut, IsLed, Outs, all_out}
use Rattle.run_outcomes.proofs.own_tasks.Grounds.{ground_at}
use Rattle.run_outcomes.proofs.phases.Leading.{Has}

-- ---- lines

letter_out : (n to : ℕ) (b : Body) (bytes : List ℕ) (ms : List Moment) → BodyOut n to b → IsOutward (record { from = n; to = to; name = named (name_of b); bytes = bytes; before = ms })
letter_out n to (body.SeizeQuorum e members d) bytes ms h is = h
letter_out n to (body.SeizeData e members d) bytes ms h is = h
letter_out n to _ bytes ms h is = absurd (false_true is)

dropped_out : (o : Option (ℕ × DropCause)) (s : Scene) → RequestsGoOut s.moments → RequestsGoOut (dropped_so o s).moments
dropped_out None s h = h
dropped_out (Some drop) s h = (tt, h)

posting_out : (n to : ℕ) (b : Body) (s : Scene) → BodyOut n to b → RequestsGoOut s.moments → RequestsGoOut (posting n to (record { sender = n; body = b }) s).moments
posting_out n to b s away h =
    let m : Message = record { sender = n; body = b } in
    let o : links.Outcome = sending s.links n to (spelling m) in
    if_either (λ (t : Scene). RequestsGoOut t.moments) (is_sent s.links m) (sent_as n to m o s) s
    (dropped_out o.sent.dropped (telling (entry.Packet (packet.Sent s.links.next n to (name_of m.body) (spelling m))) (with_links s o.after)) (letter_out n to b (spelling m) s.moments away, h)) h

told_out : (e : Entry) (ms : List Moment) → NotPacket e → RequestsGoOut ms → RequestsGoOut (Told e ∷ ms)
told_out (entry.Packet e) ms plain h = absurd plain
told_out _ ms plain h = (tt, h)

passing_out : (n : ℕ) (os : List Output) (s : Scene) → AllByRecursion IsNoPacket os → Outs n os → RequestsGoOut s.moments → RequestsGoOut (passing n os s).moments
passing_out n [] s plain out h = h
passing_out n (Tells e ∷ os) s plain out h = passing_out n os (telling e s) plain.1 out.1 (told_out e s.moments plain.0 h)
passing_out n (Sends to b ∷ os) s plain out h = passing_out n os (posting n to (record { sender = n; body = b }) s) plain.1 out.1 (posting_out n to b s out.0 h)

-- ---- a step

step_out : (h : Header) (c : Cluster) (n now : ℕ) (ends : method.Outcome) (i : Input) (s : Scene) → Sized c → Ground c s.nodes → IsNode n
    → ((replies : List Reply) → AllMay h c n (delivered_by i) None (site_of s.nodes n) (doings c n now ends replies i (s.nodes.node n)))
    → IsAt (Has (IsLed n)) (s.nodes.node n) → RequestsGoOut s.moments → RequestsGoOut (taking c n now ends i s).moments
step_out h c n now ends i s sized b is guard led k =
    let v : Nodes = s.nodes in
    let M : Memberships = b.machine in
    let o : Outcome DiskState = stepped disk_rules c n now ends (v.node n) (v.disk n) i in
    let cut : IsCut disk_rules c n now ends (v.node n) (v.disk n) i [] o = steps_are_cut disk_rules disks_keep_rules c n now ends (v.node n) (v.disk n) i in
    let x : Site = site_of v n in
    let small : List Doing = doings c n now ends cut.replies i (v.node n) in
    let may : MayAll c n (delivered_by i) x small =
    step_may c M n now ends (v.node n) (v.disk n).kept i cut.replies is.1 sized.fits.devices.attached b.holds (b.stands n).tied (b.stands n).joins in
    passing_out n o.given (record s { nodes = moved c v (Takes_in n now ends i) }) (no_packets c n now ends (v.node n) (v.disk n) i)
    (subst (Outs n) cut.comes.given (all_out h c n (delivered_by i) None x small may (guard cut.replies) led tt)) k

-- ---- each thing that happens

armed_out : (c : Cluster) (e : Event) (s : Scene) → RequestsGoOut s.moments → RequestsGoOut (armed_by c e s).moments
armed_out c (event.CrashAt n calls choice) s k = k
armed_out c (event.Fault n d done) s k = k
armed_out c _ s k = k

-- what a command at a device leaves
record Left (c : Cluster) (s : Scene) (o : Commanded) : Type 0 where
  so : RequestsGoOut o.scene.moments
  ground : Ground c o.scene.nodes
  nodes : o.scene.nodes ≡ s.nodes

left_at : (c : Cluster) (s : Scene) (n d : ℕ) (k : PrCommand) (o : Option Device) → Ground c s.nodes → RequestsGoOut s.moments → Left c s (commanded_at s n d o k)
left_at c s n d k None g z = record { so = z; ground = g; nodes = refl }
left_at c s n d k (Some x) g z = record { so = z; ground = g; nodes = refl }

abbrev AllLed : Scene → Type 0
AllLed s = (n : ℕ) → IsAt (Has (IsLed n)) (s.nodes.node n)

happening_out : (h : Header) (s : Scene) (x : Happening) → MayHappen (first_cluster h) s x → Sized (first_cluster h) → Stage (first_cluster h) s → IsWhole (first_cluster h) s
    → AllLed s → RequestsGoOut s.moments → RequestsGoOut (happened (first_cluster h) s x).moments
happening_out h s (Speaks e) may sized b w led k = armed_out (first_cluster h) e (adding (Said (line.Event e)) s) (tt, k)
happening_out h s (Begins e) may sized b w led k = (tt, k)
happening_out h s (Notes e) may sized b w led k = (tt, k)
happening_out h s (Takes n now ends i) may sized b w led k =
    let c : Cluster = first_cluster h in
    step_out h c n now ends i s sized (ground_of c s b) may.0
    (plain_may h c n now ends (s.nodes.node n) (s.nodes.disk n).kept i (plain_no i may.1) may.2 (b.fits.nodes n)) (led n) k
happening_out h s (Arrives number x m now ends) may sized b w led k =
    let c : Cluster = first_cluster h in
    let t : Scene = telling (entry.Packet (packet.Delivered number x.from x.to)) (removed s number) in
    step_out h c x.to now ends (input.Packet x.from m) t sized (ground_of c s b) may.3
    (plain_may h c x.to now ends (s.nodes.node x.to) (s.nodes.disk x.to).kept (input.Packet x.from m) tt may.5 (b.fits.nodes x.to)) (led x.to) (tt, k)
happening_out h s (Strays number x) may sized b w led k = (tt, k)
happening_out h s (Misses number x) may sized b w led k = (tt, k)
happening_out h s (Loses number x) may sized b w led k = (tt, k)
happening_out h s (Repeats number x) may sized b w led k =
    let o : links.Outcome = sending s.links x.from x.to x.bytes in
    dropped_out o.sent.dropped (telling (entry.Packet (packet.Repeated number s.links.next)) (with_links s o.after)) (tt, k)
happening_out h s (Commands n d q now ends) may sized b w led k =
    let c : Cluster = first_cluster h in
    let o : Commanded = commanded s n d q in
    let l : Left c s o = left_at c s n d q (slice_get s.devices (d - 1)) (ground_of c s b) k in
    let low : 1 ≤ d = due_low c n (s.nodes.node n) d q (b.fits.nodes n) may.2 in
    step_out h c n now ends (input.Answered o.answer) o.scene sized l.ground may.0
    (answer_may h c n now ends (o.scene.nodes.node n) (o.scene.nodes.disk n).kept o.answer
    (subst (λ (v : Nodes). OwnKeysOnly h (v.node n) o.answer) (sym l.nodes) (due_own h s n d q (s.nodes.node n) w may.2 low)))
    (subst (λ (v : Nodes). IsAt (Has (IsLed n)) (v.node n)) (sym l.nodes) (led n)) l.so
happening_out h s (Writes n d value now ends) may sized b w led k =
    let c : Cluster = first_cluster h in
    let o : Commanded = commanded s n d (command.Write value) in
    let l : Left c s o = left_at c s n d (command.Write value) (slice_get s.devices (d - 1)) (ground_of c s b) k in
    step_out h c n now ends (input.Wrote d value o.answer) o.scene sized l.ground may.0
    (plain_may h c n now ends (o.scene.nodes.node n) (o.scene.nodes.disk n).kept (input.Wrote d value o.answer) tt may.2 (l.ground.fits.nodes n))
    (subst (λ (v : Nodes). IsAt (Has (IsLed n)) (v.node n)) (sym l.nodes) (led n)) l.so
happening_out h s (Refuses n d value cause) may sized b w led k = (tt, k)

-- ---- runs

all_led : (h : Header) (cells : ℕ) (s : Scene) → IsSmall h → IsReached h cells s → AllLed s
all_led h cells s size r n = by_node (s.nodes.node n) refl
  where
    by_attempt : (x : UpNode) → s.nodes.node n ≡ Up x → (o : Option AttemptState) → x.attempt ≡ o → In (IsLed n) o
    by_attempt x up None is = tt
    by_attempt x up (Some a) is = (ground_at h cells s n x a size r up is).coordinator

    by_node : (node : Node) → s.nodes.node n ≡ node → IsAt (Has (IsLed n)) node
    by_node Down is = tt
    by_node (Up x) is = by_attempt x is x.attempt refl

first_out : (h : Header) (cells : ℕ) → RequestsGoOut (first_scene h cells).moments
unfolding first_scene
first_out h cells = tt

pub requests_go_out : (h : Header) (cells : ℕ) (hs : List Happening) → IsSmall h → MayAllHappen (first_cluster h) (first_scene h cells) hs → RequestsGoOut (all_happened (first_cluster h) (first_scene h cells) hs).moments
requests_go_out h cells hs size may =
    holds_of_each h cells (λ s. RequestsGoOut s.moments)
    (λ s x now at more k. happening_out h s x now (header_sized h size.few size.small) (stage_of h cells s size at) (whole_at h cells s size at) (all_led h cells s size at) k) (first_out h cells) hs may
