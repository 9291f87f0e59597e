-- In each run a node's record has promised what its lines say.
use Rattle.std.specs.Prelude.{ℕ, ◌-◌, ◌<◌, ◌==◌, ◌≡◌, ◌≢◌, ◌≤◌, ◌^◌, ◌⊎◌, ◌&&◌, All, false, List, Option, None, Some, length, slice_get}
use Rattle.std.specs.List.{AllByRecursion}
use Rattle.std.specs.Option.{option_and_then, option_map}
use Rattle.std.proofs.Common.{refl, sym, ap, subst, ◌∙◌, arith, inl, inr}
use Rattle.cl_base.specs.declared.header.Header.{Header}
use Rattle.cl_base.specs.declared.method.Outcome as method
use Rattle.cl_base.specs.declared.packet.DropCause.{DropCause}
use Rattle.cmm_attempt.proofs.Basics.{none_some, same_some}
use Rattle.cmm_attempt.specs.Calls.{IsDevice}
use Rattle.history.specs.Letters.{Letter, arrived, says}
use Rattle.history.specs.Member.{number_of}
use Rattle.history.specs.Moment.{Moment, Said}
use Rattle.history.specs.Names as name
use Rattle.history.specs.Names.{named, same_name}
use Rattle.history.specs.Saves.{promise_of}
use Rattle.history.specs.Setting.{coordinator}
use Rattle.interconnect.specs.Links as net
use Rattle.interconnect.specs.Links.{sending}
use Rattle.machine_base.specs.Put.{put}
use Rattle.machine_base.proofs.Puts.{put_here, put_there, same_or_not}
use Rattle.membership_machine.specs.Invariant.{Holds}
use Rattle.membership_machine.specs.State.{Memberships}
use Rattle.node_model.specs.declared.cluster.Cluster.{Cluster}
use Rattle.node_model.specs.declared.input.Input.{Input}
use Rattle.node_model.specs.declared.input.Input.TheVariants as input
use Rattle.node_model.specs.declared.node.Node.{Node}
use Rattle.node_model.specs.declared.node.Node.TheVariants.{Down, Up}
use Rattle.node_model.specs.Steps.{Outcome, stepped}
use Rattle.pgr_device.specs.Device.{Device}
use Rattle.pgr_device.specs.declared.command.PrCommand.{PrCommand}
use Rattle.pgr_device.specs.declared.command.PrCommand.TheVariants as command
use Rattle.record_disk.specs.Disks.{DiskState, armed}
use Rattle.refinement.specs.Runs.{Nodes, moved}
use Rattle.refinement.specs.Runs.Move.{Takes as Takes_in}
use Rattle.refinement.specs.Steps.{disk_rules}
use Rattle.refinement.specs.Ties.{setting_of}
use Rattle.refinement.specs.Whole.{IsTrue, Stands}
use Rattle.refinement.proofs.EveryRun.{true_of}
use Rattle.schedule_text.specs.declared.event.Event.{Event}
use Rattle.schedule_text.specs.declared.event.Event.TheVariants as event
use Rattle.schedule_text.specs.declared.line.Line.TheVariants as line
use Rattle.status_report.specs.declared.entry.Entry.TheVariants as entry
use Rattle.status_report.specs.declared.packet_entry.PacketEntry.TheVariants as packet
use Rattle.wire.specs.Reads.{whole_of}
use Rattle.wire.specs.declared.message.Body.{Body}
use Rattle.wire.specs.declared.message.Body.TheVariants as body
use Rattle.wire.specs.declared.message.Message.{Message}
use Rattle.world_model.specs.First.{first_cluster}
use Rattle.world_model.specs.Lines.{left_by}
use Rattle.world_model.specs.Sends.{name_of}
use Rattle.run_history.specs.Happenings.{Arrives, Begins, Commands, Happening, IsPlain, Loses, MayAllHappen, MayHappen, Misses, Notes, Refuses, Repeats, Speaks, Strays, Takes, Writes, all_happened, armed_by, commanded, commanded_at, happened, removed, taking}
use Rattle.run_history.specs.Scenes.{Scene, adding, dropped_so, first_scene, passing, telling, with_links}
use Rattle.run_history.specs.Stages.{Stage}
use Rattle.run_history.proofs.Idle.{passing_nodes}
use Rattle.run_history.proofs.MemberRuns.{first_fit}
use Rattle.run_messages.proofs.Reaching.{IsReached, holds_of_each}
use Rattle.run_messages.specs.records.Kept.{Came, KnownScene}
use Rattle.run_messages.specs.records.Sound.{BodySound, LetterSound}
use Rattle.run_messages.proofs.records.Arrivals.{arrived_kept}
use Rattle.run_messages.proofs.records.Letters.{letter_sound}
use Rattle.run_messages.proofs.records.Runs.{run_known}
use Rattle.run_downs.proofs.Collects.{CollectOut, collect_fits, collected, others_fit}
use Rattle.run_downs.proofs.Packets.{no_packets}
use Rattle.run_downs.proofs.Promises.{FitsSave, Under, attempts_fit, attempts_promised, collects_in, passing_under, step_promises}

abbrev pub PromisesHold : Scene → Type 0
PromisesHold s = (n : ℕ) → promise_of n s.moments ≤ (s.nodes.disk n).kept.promised

at_most_then : (a b c : ℕ) → a ≤ b → b ≤ c → a ≤ c
at_most_then a b c h k = omega (arith, h, k)

at_most_itself : (a : ℕ) → a ≤ a
at_most_itself a = omega arith

-- ---- a step

taking_promises : (c : Cluster) (M : Memberships) (n now : ℕ) (ends : method.Outcome) (i : Input) (z : Scene) → n ≤ 32 → All IsDevice c.attached → Holds (setting_of c) M → IsTrue M i
    → Stands c M n (z.nodes.node n) (z.nodes.disk n).kept → Stage c (taking c n now ends i z)
    → ((B : ℕ → ℕ) → (stepped disk_rules c n now ends (z.nodes.node n) (z.nodes.disk n) i).disk.kept.promised ≤ B n
    → AllByRecursion (FitsSave B z.moments) (stepped disk_rules c n now ends (z.nodes.node n) (z.nodes.disk n) i).given)
    → PromisesHold z → PromisesHold (taking c n now ends i z)
taking_promises c M n now ends i z low fits holds so stands after saves h = λ j. subst (λ (v : Nodes). promise_of j u.moments ≤ (v.disk j).kept.promised) (sym (passing_nodes n o.given t)) (all j)
  where
    o : Outcome DiskState
    o = stepped disk_rules c n now ends (z.nodes.node n) (z.nodes.disk n) i

    t : Scene
    t = record z { nodes = moved c z.nodes (Takes_in n now ends i) }

    u : Scene
    u = passing n o.given t

    disks : ℕ → DiskState
    disks = put z.nodes.disk n o.disk

    B : ℕ → ℕ
    B j = (disks j).kept.promised

    grown : (z.nodes.disk n).kept.promised ≤ o.disk.kept.promised
    grown = step_promises c M n now ends (z.nodes.node n) (z.nodes.disk n) i low fits holds so stands

    here : (a : ℕ) → a ≤ o.disk.kept.promised → a ≤ B n
    here a k = subst (λ (d : DiskState). a ≤ d.kept.promised) (sym (put_here z.nodes.disk n o.disk)) k

    by_node : (j : ℕ) → (j ≡ n) ⊎ (j ≢ n) → promise_of j z.moments ≤ B j
    by_node j (inl e) =
        subst (λ k. promise_of k z.moments ≤ B k) (sym e)
        (here (promise_of n z.moments) (at_most_then (promise_of n z.moments) (z.nodes.disk n).kept.promised o.disk.kept.promised (h n) grown))
    by_node j (inr ne) = subst (λ (d : DiskState). promise_of j z.moments ≤ d.kept.promised) (sym (put_there z.nodes.disk n o.disk j ne)) (h j)

    all : Under B u.moments
    all =
        passing_under B n o.given t (no_packets c n now ends (z.nodes.node n) (z.nodes.disk n) i)
        (attempts_fit B n o.given t (λ q is. subst (λ (v : Nodes). q ≤ (v.disk (coordinator q)).kept.promised) (passing_nodes n o.given t)
        (attempts_promised c after.machine u.nodes.node u.nodes.disk u.moments after.holds after.stands after.tried q is)))
        (saves B (here o.disk.kept.promised (at_most_itself o.disk.kept.promised))) (λ j. by_node j (same_or_not j n))

-- ---- a message

pub collect_number : (M : Memberships) (l : Letter) (p members : ℕ) → LetterSound M l → says l.bytes ≡ Some (body.Collect p members) → number_of l ≡ Some p
collect_number M l p members sound read = by_whole (whole_of l.bytes) refl read
  where
    by_whole : (o : Option Message) → whole_of l.bytes ≡ o → option_map (λ (m : Message). m.body) o ≡ Some (body.Collect p members) → number_of l ≡ Some p
    by_whole None e h = absurd (none_some (body.Collect p members) h)
    by_whole (Some m) e h = (subst (λ (b : Body). BodySound M l.before l.from l.to b) (same_some m.body (body.Collect p members) h) (sound m e).1).last

message_saves : (c : Cluster) (M : Memberships) (n now : ℕ) (ends : method.Outcome) (from : ℕ) (m : Message) (node : Node) (disk : DiskState) (ms : List Moment) (came : Came ms n from m.body)
    → LetterSound M came.letter → (b : Body) → m.body ≡ b → (B : ℕ → ℕ) → (stepped disk_rules c n now ends node disk (input.Packet from m)).disk.kept.promised ≤ B n
    → AllByRecursion (FitsSave B ms) (stepped disk_rules c n now ends node disk (input.Packet from m)).given
message_saves c M n now ends from m node disk ms came sound (body.Collect p members) is B low =
    collect_fits B n p ms (stepped disk_rules c n now ends node disk (input.Packet from m))
    (ap (λ (o : Option Letter). option_and_then number_of o) came.here ∙ collect_number M came.letter p members sound (came.read ∙ ap (λ (b : Body). Some b) is)) low (by_node node)
  where
    by_node : (k : Node) → CollectOut p n (stepped disk_rules c n now ends k disk (input.Packet from m))
    by_node Down = inr tt
    by_node (Up x) = collected c n now ends x from m p members disk is
message_saves c M n now ends from m node disk ms came sound _ is B low =
    others_fit B ms (stepped disk_rules c n now ends node disk (input.Packet from m)).given
    (λ k. ap (λ (o : Option Letter). collects_in k o) came.here ∙ ap (λ a. same_name a name.Collect && (came.letter.to == k)) (came.called ∙ ap (λ (b : Body). named (name_of b)) is))

plain_true : (M : Memberships) (i : Input) → IsPlain i → IsTrue M i
plain_true M (input.Packet from m) plain = absurd plain
plain_true M _ plain = tt

-- ---- each thing that happens

dropped_promises : (o : Option (ℕ × DropCause)) (s : Scene) → PromisesHold s → PromisesHold (dropped_so o s)
dropped_promises None s h = h
dropped_promises (Some x) s h = h

speaks_promises : (c : Cluster) (e : Event) (s : Scene) → PromisesHold s → PromisesHold (armed_by c e (adding (Said (line.Event e)) s))
speaks_promises c (event.CrashAt n calls choice) s h = λ j. by_node j (same_or_not j n)
  where
    disk : DiskState
    disk = armed (s.nodes.disk n) calls (left_by choice)

    by_node : (j : ℕ) → (j ≡ n) ⊎ (j ≢ n) → promise_of j s.moments ≤ (put s.nodes.disk n disk j).kept.promised
    by_node j (inl e) =
        subst (λ k. promise_of k s.moments ≤ (put s.nodes.disk n disk k).kept.promised) (sym e)
        (subst (λ (d : DiskState). promise_of n s.moments ≤ d.kept.promised) (sym (put_here s.nodes.disk n disk)) (h n))
    by_node j (inr ne) = subst (λ (d : DiskState). promise_of j s.moments ≤ d.kept.promised) (sym (put_there s.nodes.disk n disk j ne)) (h j)
speaks_promises c (event.Fault n d done) s h = h
speaks_promises c _ s h = h

commanded_promises : (s : Scene) (n d : ℕ) (o : Option Device) (k : PrCommand) → PromisesHold s → PromisesHold (commanded_at s n d o k).scene
commanded_promises s n d None k h = h
commanded_promises s n d (Some x) k h = h

commanded_nodes : (s : Scene) (n d : ℕ) (o : Option Device) (k : PrCommand) → (commanded_at s n d o k).scene.nodes ≡ s.nodes
commanded_nodes s n d None k = refl
commanded_nodes s n d (Some x) k = refl

commanded_came : (s : Scene) (n d : ℕ) (o : Option Device) (k : PrCommand) → arrived (commanded_at s n d o k).scene.moments ≡ arrived s.moments
commanded_came s n d None k = refl
commanded_came s n d (Some x) k = refl

none_collects : (ms : List Moment) (m : ℕ) → arrived ms ≡ None → collects_in m (arrived ms) ≡ false
none_collects ms m apart = ap (λ (o : Option Letter). collects_in m o) apart

happening_promises : (c : Cluster) (s : Scene) (x : Happening) → All IsDevice c.attached → MayHappen c s x → KnownScene c s → Stage c (happened c s x) → PromisesHold s → PromisesHold (happened c s x)
happening_promises c s (Speaks e) fits may k after h = speaks_promises c e s h
happening_promises c s (Begins e) fits may k after h = h
happening_promises c s (Notes e) fits may k after h = h
happening_promises c s (Takes n now ends i) fits may k after h =
    taking_promises c k.stage.machine n now ends i s may.0.1 fits k.stage.holds (plain_true k.stage.machine i may.1) (k.stage.stands n) after
    (λ B low. others_fit B s.moments (stepped disk_rules c n now ends (s.nodes.node n) (s.nodes.disk n) i).given (λ m. none_collects s.moments m may.3)) h
happening_promises c s (Arrives number x m now ends) fits may k after h =
    let z : Scene = telling (entry.Packet (packet.Delivered number x.from x.to)) (removed s number) in
    let came : Came z.moments x.to x.from m.body = arrived_kept c s number x m may.0 may.1 k in
    taking_promises c k.stage.machine x.to now ends (input.Packet x.from m) z may.3.1 fits k.stage.holds (true_of k.stage.machine x.from m.body s.nodes.sent may.4 k.stage.sent) (k.stage.stands x.to) after
    (λ B low. message_saves c k.stage.machine x.to now ends x.from m (s.nodes.node x.to) (s.nodes.disk x.to) z.moments came (letter_sound k.stage.machine number s.moments came.letter k.sound came.here) m.body refl B low) h
happening_promises c s (Strays number x) fits may k after h = h
happening_promises c s (Misses number x) fits may k after h = h
happening_promises c s (Loses number x) fits may k after h = h
happening_promises c s (Repeats number x) fits may k after h =
    let o : net.Outcome = sending s.links x.from x.to x.bytes in
    dropped_promises o.sent.dropped (telling (entry.Packet (packet.Repeated number s.links.next)) (with_links s o.after)) h
happening_promises c s (Commands n d q now ends) fits may k after h =
    let o : Option Device = slice_get s.devices (d - 1) in
    let z : Scene = (commanded s n d q).scene in
    let i : Input = input.Answered (commanded s n d q).answer in
    taking_promises c k.stage.machine n now ends i z may.0.1 fits k.stage.holds tt
    (subst (λ (v : Nodes). Stands c k.stage.machine n (v.node n) (v.disk n).kept) (sym (commanded_nodes s n d o q)) (k.stage.stands n)) after
    (λ B low. others_fit B z.moments (stepped disk_rules c n now ends (z.nodes.node n) (z.nodes.disk n) i).given (λ m. none_collects z.moments m (commanded_came s n d o q ∙ may.4)))
    (commanded_promises s n d o q h)
happening_promises c s (Writes n d value now ends) fits may k after h =
    let o : Option Device = slice_get s.devices (d - 1) in
    let q : PrCommand = command.Write value in
    let z : Scene = (commanded s n d q).scene in
    let i : Input = input.Wrote d value (commanded s n d q).answer in
    taking_promises c k.stage.machine n now ends i z may.0.1 fits k.stage.holds tt
    (subst (λ (v : Nodes). Stands c k.stage.machine n (v.node n) (v.disk n).kept) (sym (commanded_nodes s n d o q)) (k.stage.stands n)) after
    (λ B low. others_fit B z.moments (stepped disk_rules c n now ends (z.nodes.node n) (z.nodes.disk n) i).given (λ m. none_collects z.moments m (commanded_came s n d o q ∙ may.3)))
    (commanded_promises s n d o q h)
happening_promises c s (Refuses n d value why) fits may k after h = h

-- ---- runs

pub known_at : (h : Header) (cells : ℕ) (s : Scene) → length h.devices ≤ 16 → h.cluster < 2 ^ 32 → IsReached h cells s → KnownScene (first_cluster h) s
known_at h cells s few small r = subst (KnownScene (first_cluster h)) r.is (run_known h cells r.happenings few small r.may)

first_promises : (h : Header) (cells : ℕ) → PromisesHold (first_scene h cells)
unfolding first_scene
first_promises h cells = λ n. at_most_itself 0

pub run_promises : (h : Header) (cells : ℕ) (hs : List Happening) → length h.devices ≤ 16 → h.cluster < 2 ^ 32 → MayAllHappen (first_cluster h) (first_scene h cells) hs
    → PromisesHold (all_happened (first_cluster h) (first_scene h cells) hs)
run_promises h cells hs few small may =
    holds_of_each h cells PromisesHold
    (λ s x now at more so. happening_promises (first_cluster h) s x (first_fit h few) now (known_at h cells s few small at) (known_at h cells (happened (first_cluster h) s x) few small more).stage so)
    (first_promises h cells) hs may
