-- In each run a node stops in a boot, or at a Start, a Prepare or a Commit, only where the rules let it save there.
use Rattle.std.specs.Prelude.{ℕ, ◌-◌, ◌<◌, ◌==◌, ◌≡◌, ◌≤◌, ◌^◌, Bool, true, false, List, [], ◌∷◌, Option, None, Some, Ok, length, slice_get, ◌&&◌, ◌||◌, All, is_some}
use Rattle.std.proofs.Common.{refl, sym, ap, subst, ◌∙◌, arith, inl, inr}
use Rattle.cl_base.specs.declared.header.Header.{Header}
use Rattle.cl_base.specs.declared.method.Outcome as method
use Rattle.cmm_attempt.specs.Calls.{IsDevice}
use Rattle.cmm_member.specs.Nodes.{NodeState}
use Rattle.cmm_member.specs.Records.{NodeRecord}
use Rattle.history.specs.Letters.{Letter, arrived, says}
use Rattle.history.specs.Moment.{Moment, Said, Told}
use Rattle.history.specs.Names.{named}
use Rattle.history.specs.Order.{Always, under_way}
use Rattle.history.specs.Member.{member_of}
use Rattle.history.specs.Records.{record_of}
use Rattle.history.specs.Saves.{has_pending, may_save, promise_of, proposes, saves_at, saves_in}
use Rattle.history.specs.Setting.{Setting}
use Rattle.interconnect.specs.Links as net
use Rattle.interconnect.specs.Links.{Packet, sending}
use Rattle.membership_machine.specs.Invariant.{Holds}
use Rattle.membership_machine.specs.State.{Memberships}
use Rattle.node_model.specs.Clusters.{first_valid_of}
use Rattle.node_model.specs.declared.cluster.Cluster.{Cluster}
use Rattle.node_model.specs.declared.input.Input.{Input}
use Rattle.node_model.specs.declared.input.Input.TheVariants as input
use Rattle.node_model.specs.declared.node.Node.{Node}
use Rattle.node_model.specs.declared.node.Node.TheVariants.{Down, Up}
use Rattle.node_model.specs.declared.node.UpNode.{UpNode}
use Rattle.node_model.specs.declared.output.Output.{Output}
use Rattle.node_model.specs.declared.output.Output.TheVariants.{Tells}
use Rattle.node_model.specs.declared.seat.Seat.{Seat}
use Rattle.node_model.specs.declared.seat.Seat.TheVariants.{Forming, Member}
use Rattle.node_model.specs.Steps.{Outcome, at_second, booted_with, stepped}
use Rattle.pgr_device.specs.Device.{Device}
use Rattle.pgr_device.specs.declared.command.PrAnswer.TheVariants as given
use Rattle.pgr_device.specs.declared.command.PrCommand.{PrCommand}
use Rattle.pgr_device.specs.declared.command.PrCommand.TheVariants as command
use Rattle.record_disk.specs.Disks.{DiskState, mounting, saving}
use Rattle.record_disk.specs.declared.error.Loss.{Loss}
use Rattle.record_disk.specs.declared.error.Loss.TheVariants.{Fault, Stopped}
use Rattle.refinement.specs.Cuts.{course_at}
use Rattle.refinement.specs.Runs.{moved}
use Rattle.refinement.specs.Runs.Move.{Takes as Takes_in}
use Rattle.refinement.specs.Steps.{disk_rules}
use Rattle.refinement.specs.Ties.{NodeTied, SeatTied, setting_of}
use Rattle.refinement.specs.Whole.{IsTrue, Stands}
use Rattle.refinement.proofs.EveryRun.{true_of}
use Rattle.refinement.proofs.Cuts.{step_of_node_is_its_course}
use Rattle.schedule_text.specs.declared.event.Event.{Event}
use Rattle.schedule_text.specs.declared.event.Event.TheVariants as event
use Rattle.schedule_text.specs.declared.line.Line.TheVariants as line
use Rattle.seize.specs.Answers.{Answer}
use Rattle.status_report.specs.declared.entry.Entry.TheVariants as entry
use Rattle.status_report.specs.declared.node_entry.DownCause.TheVariants as cause
use Rattle.status_report.specs.declared.node_entry.NodeEntry.TheVariants as note
use Rattle.status_report.specs.declared.packet_entry.PacketEntry.TheVariants as packet
use Rattle.wire.specs.declared.message.Body.{Body}
use Rattle.wire.specs.declared.message.Body.TheVariants as body
use Rattle.wire.specs.declared.message.Message.{Message}
use Rattle.world_model.specs.First.{first_cluster}
use Rattle.world_model.specs.Sends.{name_of}
use Rattle.run_history.specs.Bringing.{IsBrought, IsDelivery}
use Rattle.run_history.specs.CommandLines.{AllQuiet, NodeTells}
use Rattle.run_history.specs.Happenings.{Arrives, Begins, Commands, Happening, IsPlain, Loses, MayHappen, Misses, Notes, Refuses, Repeats, Speaks, Strays, Takes, Writes, armed_by, commanded, commanded_at, given_by, happened, removed}
use Rattle.run_history.specs.Scenes.{Scene, adding, first_scene, passing, telling, with_links}
use Rattle.run_history.proofs.LineSteps.{commands_are_told}
use Rattle.run_history.proofs.MemberRuns.{first_fit}
use Rattle.run_messages.specs.Laws.{AreSeated, IsSeated, membership_in}
use Rattle.run_messages.proofs.Reaching.{IsReached, holds_of_each}
use Rattle.run_messages.proofs.Runs.{memberships_of_each_run}
use Rattle.run_messages.specs.records.Kept.{Came, KnownScene}
use Rattle.run_messages.specs.records.Shown.{RecordIn}
use Rattle.run_messages.proofs.records.Arrivals.{arrived_kept}
use Rattle.run_messages.specs.records.Sound.{LetterSound}
use Rattle.run_messages.proofs.records.Letters.{letter_sound}
use Rattle.run_downs.proofs.Promised.{PromisesHold, collect_number, known_at, run_promises}
use Rattle.run_downs.proofs.Rules.{NoStops, StopsIf, none_stops}
use Rattle.run_downs.proofs.Prepared.{Pends, step_first}
use Rattle.run_downs.proofs.Acting.{acknowledging_saves, acting_rule, acting_saves, message_proposes, once_ruled, pending_saves, proposed_ruled}
use Rattle.run_downs.proofs.Packets.{no_packets}
use Rattle.run_downs.proofs.Proposed.{step_proposed}
use Rattle.run_downs.proofs.Proposing.{command_p, report_p}
use Rattle.run_downs.proofs.Steps.{client_fine, command_fine, packet_fine, report_fine}
use Rattle.run_downs.proofs.Silent.{IsOther, dropped_ruled, none_ruled, other_ruled, silent_ruled}
use Rattle.run_downs.proofs.Updates.{AskedSo, IsDelivering, SavesAt, both_so, letter_saves, may_save_so, message_stops, pending_so}
use Rattle.run_downs.specs.Laws.{SettledStopsOfEachRun, StopsByRule, asks_to_acknowledge, asks_to_act, is_settled, is_settled_by, is_settled_name, saves_at_once}

not_so : false ≡ true → ⊥
not_so h = cc

-- ---- a boot

same_number : (n : ℕ) → (n == n) ≡ true
same_number n = grind arith

boot_saves : (S : Setting) (n : ℕ) (ms : List Moment) → under_way ms ≡ Some (event.Boot n) → may_save S n (Told (entry.Node n note.Up) ∷ ms) ≡ true
boot_saves S n ms boot = subst (λ e. saves_in S n e (Told (entry.Node n note.Up) ∷ ms) ≡ true) (sym boot) (same_number n)

boot_ruled : (S : Setting) (n valid : ℕ) (r : NodeRecord) (after : DiskState) (lost : Option Loss) (s : Scene) → under_way s.moments ≡ Some (event.Boot n) → Always (StopsByRule S) s.moments
    → Always (StopsByRule S) (passing n (booted_with n valid r (record { after = after; lost = lost })).given s).moments
boot_ruled S n valid r after None s boot so = (tt, so)
boot_ruled S n valid r after (Some Stopped) s boot so = (λ in_rule. boot_saves S n s.moments boot, (tt, so))
boot_ruled S n valid r after (Some Fault) s boot so = (tt, (tt, so))

up_ruled : (S : Setting) (c : Cluster) (n now : ℕ) (ends : method.Outcome) (node : Node) (disk : DiskState) (s : Scene) → under_way s.moments ≡ Some (event.Boot n) → Always (StopsByRule S) s.moments
    → Always (StopsByRule S) (passing n (stepped disk_rules c n now ends node disk input.Boot).given s).moments
up_ruled S c n now ends Down disk s boot so = boot_ruled S n (first_valid_of c n) disk.kept (mounting disk).after (mounting disk).lost s boot so
up_ruled S c n now ends (Up x) disk s boot so = so

-- the stop comes at once, or not at all
stops_ruled : (S : Setting) (n : ℕ) (Q : Type 0) (os : List Output) (s : Scene) → StopsIf Q n os → (Q → may_save S n s.moments ≡ true) → Always (StopsByRule S) s.moments
    → Always (StopsByRule S) (passing n os s).moments
stops_ruled S n Q os s (inl h) rule so = subst (λ z. Always (StopsByRule S) (passing n z s).moments) (sym h.1) ((λ told. rule h.0), so)
stops_ruled S n Q os s (inr h) rule so = none_ruled S n os s h so

-- a client's request saves nothing, and a write neither

client_stops : (c : Cluster) (n now : ℕ) (ends : method.Outcome) (x : UpNode) (address : List ℕ) (client port : ℕ) (disk : DiskState)
    → StopsIf ⊥ n (stepped disk_rules c n now ends (Up x) disk (input.Client address client port)).given
client_stops c n now ends x address client port disk =
    subst (λ (o : Outcome DiskState). StopsIf ⊥ n o.given) (sym ((step_of_node_is_its_course saving c n now ends x (input.Client address client port)).is [] disk))
    (none_stops ⊥ c n x (course_at c n now ends x (input.Client address client port)) (client_fine c n now ends x address client port) disk)

write_stops : (c : Cluster) (n now : ℕ) (ends : method.Outcome) (node : Node) (disk : DiskState) (d value : ℕ) (a : Answer) → NoStops (stepped disk_rules c n now ends node disk (input.Wrote d value a)).given
write_stops c n now ends Down disk d value a = tt
write_stops c n now ends (Up x) disk d value (Ok given.Good) = (tt, (tt, tt))
write_stops c n now ends (Up x) disk d value (Ok given.Conflict) = (tt, (tt, (tt, tt)))
write_stops c n now ends (Up x) disk d value _ = (tt, (tt, tt))

-- ---- what comes that is no packet

other_by : (ms : List Moment) (e : Event) → under_way ms ≡ Some e → ((a : Option Letter) → is_settled (Some e) a ≡ false) → IsOther ms
other_by ms e is h a = ap (λ o. is_settled o a) is ∙ h a

with_own : (n : ℕ) (b : Bool) → b ≡ true → ((n == n) && b) ≡ true
with_own n b h = both_true (n == n) b (same_number n) h
  where
    both_true : (a d : Bool) → a ≡ true → d ≡ true → (a && d) ≡ true
    both_true true d k l = l
    both_true false d k l = cc

plain_ruled : (S : Setting) (c : Cluster) (M : Memberships) (n now : ℕ) (ends : method.Outcome) (i : Input) (node : Node) (disk : DiskState) (s : Scene) → n ≤ 32 → All IsDevice c.attached → Holds (setting_of c) M
    → Stands c M n node disk.kept → IsPlain i → IsBrought (under_way s.moments) n i
    → Always (StopsByRule S) s.moments → Always (StopsByRule S) (passing n (stepped disk_rules c n now ends node disk i).given s).moments
plain_ruled S c M n now ends input.Boot node disk s low fits holds stands plain is so = up_ruled S c n now ends node disk s is so
plain_ruled S c M n now ends input.Crash Down disk s low fits holds stands plain is so = so
plain_ruled S c M n now ends input.Crash (Up x) disk s low fits holds stands plain is so = none_ruled S n (Tells (entry.Node n (note.Down cause.Crash)) ∷ []) s (tt, tt) so
plain_ruled S c M n now ends input.Tick node disk s low fits holds stands plain is so = other_ruled S n (stepped disk_rules c n now ends node disk input.Tick).given s (other_by s.moments (event.Tick n) is (λ a. refl)) so
plain_ruled S c M n now ends input.CommandDue node disk s low fits holds stands plain is so = other_ruled S n (stepped disk_rules c n now ends node disk input.CommandDue).given s (other_by s.moments (event.Disk n) is (λ a. refl)) so
plain_ruled S c M n now ends (input.Commanded words) Down disk s low fits holds stands plain is so = so
plain_ruled S c M n now ends (input.Commanded words) (Up x) disk s low fits holds stands plain is so =
    proposed_ruled S n (Some (event.Command n words)) (arrived s.moments) false (stepped disk_rules c n now ends (Up x) disk (input.Commanded words)).given s
    (step_proposed c M n now ends (input.Commanded words) x disk low fits holds tt stands (tt, command_p false c n (at_second now x) words) (command_fine c n now ends x words)) (no_packets c n now ends (Up x) disk (input.Commanded words))
    (acting_rule S n (event.Command n words) (arrived s.moments) (λ ms h. with_own n (proposes n ms) h)) (λ never. absurd (not_so never)) is refl so
plain_ruled S c M n now ends (input.Reported r good) Down disk s low fits holds stands plain is so = so
plain_ruled S c M n now ends (input.Reported r good) (Up x) disk s low fits holds stands plain is so =
    proposed_ruled S n (Some (event.Probe n r good)) (arrived s.moments) false (stepped disk_rules c n now ends (Up x) disk (input.Reported r good)).given s
    (step_proposed c M n now ends (input.Reported r good) x disk low fits holds tt stands (tt, report_p false c n (at_second now x) r good) (report_fine c n now ends x r good)) (no_packets c n now ends (Up x) disk (input.Reported r good))
    (acting_rule S n (event.Probe n r good) (arrived s.moments) (λ ms h. with_own n (proposes n ms) h)) (λ never. absurd (not_so never)) is refl so
plain_ruled S c M n now ends (input.Client address client port) Down disk s low fits holds stands plain is so = so
plain_ruled S c M n now ends (input.Client address client port) (Up x) disk s low fits holds stands plain is so =
    stops_ruled S n ⊥ (stepped disk_rules c n now ends (Up x) disk (input.Client address client port)).given s (client_stops c n now ends x address client port disk) (λ never. absurd never) so
plain_ruled S c M n now ends (input.Packet from m) node disk s low fits holds stands plain is so = absurd plain
plain_ruled S c M n now ends (input.Answered a) node disk s low fits holds stands plain is so = absurd plain
plain_ruled S c M n now ends (input.Wrote d value a) node disk s low fits holds stands plain is so = absurd plain

-- ---- a message

delivering : (packets : List Packet) (number : ℕ) (e : Option Event) → IsDelivery packets number e → IsDelivering e
delivering packets number (Some (event.Deliver k)) h = tt
delivering packets number (Some (event.Next from to)) h = tt
delivering packets number _ h = absurd h

-- at a message of another kind the rule is silent
other_kind : (e : Option Event) (l : Letter) → IsDelivering e → is_settled_by l ≡ false → is_settled e (Some l) ≡ false
other_kind (Some (event.Deliver k)) l is h = h
other_kind (Some (event.Next from to)) l is h = h
other_kind _ l is h = absurd is

packet_quiet : (n : ℕ) (node : Node) (from : ℕ) (m : Message) (os : List Output) → NodeTells n node (input.Packet from m) os → AllQuiet os
packet_quiet n Down from m os q = q
packet_quiet n (Up x) from m os q = q

forming_disk : (c : Cluster) (M : Memberships) (n : ℕ) (disk : NodeRecord) (x : UpNode) (seat : Seat) → seat ≡ x.seat → NodeTied c M n disk (Up x) → (s : NodeState) → seat ≡ Forming s → disk ≡ s.saved
forming_disk c M n disk x seat same tied s at = (subst (λ z. SeatTied c M n disk x.attempt z) (sym same ∙ at) tied.0).1

sitting_disk : (c : Cluster) (M : Memberships) (n : ℕ) (disk : NodeRecord) (x : UpNode) (seat : Seat) → seat ≡ x.seat → NodeTied c M n disk (Up x) → (s : NodeState) → seat ≡ Member s → disk ≡ s.saved
sitting_disk c M n disk x seat same tied s at = (subst (λ z. SeatTied c M n disk x.attempt z) (sym same ∙ at) tied.0).1

none_of : (a b d : Bool) → a ≡ false → b ≡ false → d ≡ false → (a || (b || d)) ≡ false
none_of false false d h k l = l
none_of true b d h k l = cc
none_of false true d h k l = cc

-- a member has its update pending, by its lines
pends_so : (c : Cluster) (M : Memberships) (n : ℕ) (disk : NodeRecord) (x : UpNode) (ms : List Moment) → NodeTied c M n disk (Up x) → IsSeated ms n (Up x) → RecordIn ms n disk → Pends x
    → (is_some (member_of n ms) && has_pending n ms) ≡ true
pends_so c M n disk x ms tied seated record_so q =
    both_so (is_some (member_of n ms)) (has_pending n ms) (ap (λ (o : Option ℕ). is_some o) (seated ∙ ap membership_in q.1))
    (pending_so disk (record_of n ms) record_so (ap (λ (r : NodeRecord). is_some r.entries.pending) (sitting_disk c M n disk x x.seat refl tied q.0 q.1) ∙ q.2))

message_ruled : (S : Setting) (c : Cluster) (M : Memberships) (n now : ℕ) (ends : method.Outcome) (from : ℕ) (m : Message) (node : Node) (disk : DiskState) (s : Scene) → NodeTied c M n disk.kept node
    → IsSeated s.moments n node → RecordIn s.moments n disk.kept → IsDelivering (under_way s.moments) → (came : Came s.moments n from m.body)
    → AskedSo came.letter m.body → promise_of n s.moments ≤ disk.kept.promised → n ≤ 32 → All IsDevice c.attached → Holds (setting_of c) M → IsTrue M (input.Packet from m)
    → Stands c M n node disk.kept → (b d g : Bool) → saves_at_once (named (name_of m.body)) ≡ b → asks_to_act (named (name_of m.body)) ≡ d → asks_to_acknowledge (named (name_of m.body)) ≡ g
    → Always (StopsByRule S) s.moments → Always (StopsByRule S) (passing n (stepped disk_rules c n now ends node disk (input.Packet from m)).given s).moments
message_ruled S c M n now ends from m node disk s tied seated record_so is came asked low few fits holds told stands false false false kind acts acks so =
    silent_ruled S n (stepped disk_rules c n now ends node disk (input.Packet from m)).given s
    (packet_quiet n node from m _ (commands_are_told c n now ends node disk (input.Packet from m)))
    (ap (λ a. is_settled (under_way s.moments) a) came.here ∙ other_kind (under_way s.moments) came.letter is (ap is_settled_name came.called ∙ none_of (saves_at_once (named (name_of m.body))) (asks_to_act (named (name_of m.body))) (asks_to_acknowledge (named (name_of m.body))) kind acts acks)) so
message_ruled S c M n now ends from m Down disk s tied seated record_so is came asked low few fits holds told stands b d g kind acts acks so = so
message_ruled S c M n now ends from m (Up x) disk s tied seated record_so is came asked low few fits holds told stands true d g kind acts acks so =
    stops_ruled S n (SavesAt m.body x.seat) (stepped disk_rules c n now ends (Up x) disk (input.Packet from m)).given s
    (subst (λ (o : Outcome DiskState). StopsIf (SavesAt m.body x.seat) n o.given) (sym ((step_of_node_is_its_course saving c n now ends x (input.Packet from m)).is [] disk)) (message_stops c n now ends x from m kind disk))
    (may_save_so S n came.letter m.body x.seat disk.kept s.moments is came.here came.receiver came.called asked low seated record_so (forming_disk c M n disk.kept x x.seat refl tied)
    (sitting_disk c M n disk.kept x x.seat refl tied)) so
message_ruled S c M n now ends from m (Up x) disk s tied seated record_so is came asked low few fits holds told stands false true g kind acts acks so =
    let i : Input = input.Packet from m in
    let l : Letter = came.letter in
    proposed_ruled S n (under_way s.moments) (Some l) false (stepped disk_rules c n now ends (Up x) disk i).given s
    (step_proposed c M n now ends i x disk few fits holds told stands (message_proposes c n now ends x from m acts) (packet_fine c n now ends x from m)) (no_packets c n now ends (Up x) disk i)
    (λ ms same here h. subst (λ z. saves_in S n z ms ≡ true) (sym same)
    (letter_saves S n (under_way s.moments) l ms is here came.receiver (subst (λ a. saves_at n l a ms ≡ true) (sym came.called) (acting_saves n l m.body ms acts h))))
    (λ never. absurd (not_so never)) refl came.here so
message_ruled S c M n now ends from m (Up x) disk s tied seated record_so is came asked low few fits holds told stands false false true kind acts acks so =
    let i : Input = input.Packet from m in
    let l : Letter = came.letter in
    once_ruled S n (Pends x) (under_way s.moments) (Some l) (stepped disk_rules c n now ends (Up x) disk i).given s
    (step_first c M n now ends from m x disk few fits holds told stands acks (packet_fine c n now ends x from m)) (no_packets c n now ends (Up x) disk i)
    (λ ms same here h. subst (λ z. saves_in S n z ms ≡ true) (sym same)
    (letter_saves S n (under_way s.moments) l ms is here came.receiver (subst (λ a. saves_at n l a ms ≡ true) (sym came.called) (acknowledging_saves n l m.body ms acks h))))
    (λ q. letter_saves S n (under_way s.moments) l s.moments is came.here came.receiver
    (subst (λ a. saves_at n l a s.moments ≡ true) (sym came.called) (pending_saves n l m.body s.moments acks (pends_so c M n disk.kept x s.moments tied seated record_so q)))) refl came.here so

-- ---- each thing that happens

-- what is known of a scene
record Knows (c : Cluster) (s : Scene) : Type 0 where
  known : KnownScene c s
  seated : AreSeated s
  promises : PromisesHold s

asked_so : (M : Memberships) (l : Letter) (b : Body) → LetterSound M l → says l.bytes ≡ Some b → AskedSo l b
asked_so M l (body.Collect p members) sound read = collect_number M l p members sound read
asked_so M l _ sound read = tt

commanded_ruled : (S : Setting) (s : Scene) (n d : ℕ) (o : Option Device) (k : PrCommand) → Always (StopsByRule S) s.moments → Always (StopsByRule S) (commanded_at s n d o k).scene.moments
commanded_ruled S s n d None k h = h
commanded_ruled S s n d (Some x) k h = h

commanded_other : (s : Scene) (n d : ℕ) (o : Option Device) (k : PrCommand) → IsOther s.moments → IsOther (commanded_at s n d o k).scene.moments
commanded_other s n d None k h = h
commanded_other s n d (Some x) k h = h

speaks_ruled : (S : Setting) (c : Cluster) (e : Event) (s : Scene) → Always (StopsByRule S) s.moments → Always (StopsByRule S) (armed_by c e (adding (Said (line.Event e)) s)).moments
speaks_ruled S c (event.CrashAt n calls choice) s h = (tt, h)
speaks_ruled S c (event.Fault n d done) s h = (tt, h)
speaks_ruled S c _ s h = (tt, h)

happening_ruled : (S : Setting) (c : Cluster) (s : Scene) (x : Happening) → All IsDevice c.attached → MayHappen c s x → Knows c s → Always (StopsByRule S) s.moments → Always (StopsByRule S) (happened c s x).moments
happening_ruled S c s (Speaks e) fits may k h = speaks_ruled S c e s h
happening_ruled S c s (Begins e) fits may k h = (tt, h)
happening_ruled S c s (Notes e) fits may k h = (tt, h)
happening_ruled S c s (Takes n now ends i) fits may k h =
    plain_ruled S c k.known.stage.machine n now ends i (s.nodes.node n) (s.nodes.disk n) (record s { nodes = moved c s.nodes (Takes_in n now ends i) }) may.0.1 fits k.known.stage.holds (k.known.stage.stands n) may.1 may.5 h
happening_ruled S c s (Arrives number x m now ends) fits may k h =
    let t : Scene = telling (entry.Packet (packet.Delivered number x.from x.to)) (removed s number) in
    let i : Input = input.Packet x.from m in
    let came : Came t.moments x.to x.from m.body = arrived_kept c s number x m may.0 may.1 k.known in
    message_ruled S c k.known.stage.machine x.to now ends x.from m (s.nodes.node x.to) (s.nodes.disk x.to) (record t { nodes = moved c s.nodes (Takes_in x.to now ends i) })
    (k.known.stage.stands x.to).tied (k.seated x.to) (k.known.at x.to).record_so (delivering s.links.packets number (under_way s.moments) may.6) came
    (asked_so k.known.stage.machine came.letter m.body (letter_sound k.known.stage.machine number s.moments came.letter k.known.sound came.here) came.read) (k.promises x.to)
    may.3.1 fits k.known.stage.holds (true_of k.known.stage.machine x.from m.body s.nodes.sent may.4 k.known.stage.sent) (k.known.stage.stands x.to)
    (saves_at_once (named (name_of m.body))) (asks_to_act (named (name_of m.body))) (asks_to_acknowledge (named (name_of m.body))) refl refl refl (tt, h)
happening_ruled S c s (Strays number x) fits may k h = (tt, h)
happening_ruled S c s (Misses number x) fits may k h = (tt, h)
happening_ruled S c s (Loses number x) fits may k h = (tt, h)
happening_ruled S c s (Repeats number x) fits may k h =
    let o : net.Outcome = sending s.links x.from x.to x.bytes in
    dropped_ruled S o.sent.dropped (telling (entry.Packet (packet.Repeated number s.links.next)) (with_links s o.after)) (tt, h)
happening_ruled S c s (Commands n d q now ends) fits may k h =
    let o : Option Device = slice_get s.devices (d - 1) in
    let z : Scene = (commanded s n d q).scene in
    let i : Input = input.Answered (commanded s n d q).answer in
    other_ruled S n (given_by c n now ends i z.nodes) (record z { nodes = moved c z.nodes (Takes_in n now ends i) })
    (commanded_other s n d o q (other_by s.moments (event.Disk n) may.5 (λ a. refl))) (commanded_ruled S s n d o q h)
happening_ruled S c s (Writes n d value now ends) fits may k h =
    let o : Option Device = slice_get s.devices (d - 1) in
    let q : PrCommand = command.Write value in
    let z : Scene = (commanded s n d q).scene in
    let a : Answer = (commanded s n d q).answer in
    none_ruled S n (given_by c n now ends (input.Wrote d value a) z.nodes) (record z { nodes = moved c z.nodes (Takes_in n now ends (input.Wrote d value a)) })
    (write_stops c n now ends (z.nodes.node n) (z.nodes.disk n) d value a) (commanded_ruled S s n d o q h)
happening_ruled S c s (Refuses n d value why) fits may k h = (tt, h)

-- ---- runs

knows_at : (h : Header) (cells : ℕ) (s : Scene) → length h.devices ≤ 16 → h.cluster < 2 ^ 32 → IsReached h cells s → Knows (first_cluster h) s
knows_at h cells s few small r = record {
  known = known_at h cells s few small r;
  seated = subst AreSeated r.is (memberships_of_each_run h cells r.happenings few small r.may);
  promises = subst PromisesHold r.is (run_promises h cells r.happenings few small r.may);
}

first_ruled : (S : Setting) (h : Header) (cells : ℕ) → Always (StopsByRule S) (first_scene h cells).moments
unfolding first_scene
first_ruled S h cells = tt

pub settled_stops_of_each_run : SettledStopsOfEachRun
settled_stops_of_each_run h cells hs few small may S =
    holds_of_each h cells (λ (s : Scene). Always (StopsByRule S) s.moments)
    (λ s x now at more so. happening_ruled S (first_cluster h) s x (first_fit h few) now (knows_at h cells s few small at) so) (first_ruled S h cells) hs may
