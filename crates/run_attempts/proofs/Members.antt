-- In each run what is installed has the members of its attempt.
use Rattle.std.specs.Prelude.{ℕ, ◌-◌, ◌<◌, ◌≡◌, ◌≢◌, ◌≤◌, ◌^◌, ◌⊎◌, ◌++◌, All, List, [], ◌∷◌, length, Option, None, Some, option_map, slice_get}
use Rattle.std.specs.List.{AllByRecursion}
use Rattle.std.proofs.Common.{refl, sym, ap, subst, ◌∙◌, inl, inr, arith}
use Rattle.cl_base.specs.Limits.{most_devices}
use Rattle.cl_base.specs.declared.header.Header.{Header}
use Rattle.cl_base.specs.declared.method.Outcome as method
use Rattle.cl_base.specs.declared.packet.DropCause.{DropCause}
use Rattle.cl_base.specs.declared.packet.DropCause.TheVariants as drop
use Rattle.cmm_attempt.proofs.Basics.{none_some, same_some}
use Rattle.cmm_attempt.specs.Attempts.{beginning}
use Rattle.cmm_attempt.specs.Calls.{IsDevice}
use Rattle.cmm_member.specs.Records.{NodeRecord}
use Rattle.history.specs.Contact.{AttemptsDiffer}
use Rattle.history.specs.Letters.{Letter, letter_of}
use Rattle.history.specs.Moment.{Moment, Part, Said, Told}
use Rattle.history.specs.Trace.{delivered}
use Rattle.interconnect.specs.Links as links
use Rattle.interconnect.specs.Links.{Packet, packet_of, sending}
use Rattle.machine_base.specs.Put.{put}
use Rattle.machine_base.proofs.Puts.{put_here, put_there, same_or_not}
use Rattle.membership_machine.specs.Invariant.{Holds}
use Rattle.membership_machine.specs.State.{Memberships}
use Rattle.node_model.specs.Attempts.{own_promise}
use Rattle.node_model.specs.Entries.{unknown_lines}
use Rattle.node_model.specs.Seats.{promising, record_of}
use Rattle.node_model.specs.declared.cluster.Cluster.{Cluster}
use Rattle.node_model.specs.declared.input.Input.{Input}
use Rattle.node_model.specs.declared.input.Input.TheVariants as input
use Rattle.node_model.specs.declared.node.Node.{Node}
use Rattle.node_model.specs.declared.node.Node.TheVariants.{Down, Up}
use Rattle.node_model.specs.declared.node.UpNode.{UpNode}
use Rattle.node_model.specs.declared.output.Output.{Output}
use Rattle.node_model.specs.Steps.{Outcome, stepped}
use Rattle.pgr_device.specs.Device.{Device}
use Rattle.pgr_device.specs.declared.command.PrCommand.{PrCommand}
use Rattle.pgr_device.specs.declared.command.PrCommand.TheVariants as command
use Rattle.local_disk.specs.declared.memory.Choice.{Choice}
use Rattle.record_disk.specs.Disks.{DiskState, armed}
use Rattle.world_model.specs.Lines.{left_by}
use Rattle.run_messages.proofs.records.Steps.{put_all}
use Rattle.run_history.specs.Stages.{Stage}
use Rattle.history.specs.Contact.{IsNew}
use Rattle.refinement.specs.Cuts.{doings}
use Rattle.refinement.specs.Doings.{Change, acted, Doing, Site, after_all, changed, effect, first_lines, given_all, gives, gone_line, of_node, saved_lines, site}
use Rattle.refinement.specs.Doings.Change.{Acks, Admits, Commits, Counts, Distrusts, Installs, Leads, Prepares, Promises, Proposes, Sits, Starts}
use Rattle.refinement.specs.Doings.Doing.{Comes_up, Does, Forgets, Goes_down, Loses, Saves}
use Rattle.refinement.specs.Guards.{May, MayAll, MayChange}
use Rattle.refinement.specs.Runs.{Nodes, moved}
use Rattle.refinement.specs.Runs.Move.{Takes as Takes_in}
use Rattle.refinement.specs.Steps.{IsCut, disk_rules}
use Rattle.refinement.specs.Ties as ties
use Rattle.refinement.specs.Ties.{Delivered}
use Rattle.refinement.specs.Whole.{Stands}
use Rattle.refinement.proofs.Disks.{disks_keep_rules}
use Rattle.refinement.proofs.Facts.{step_may}
use Rattle.refinement.proofs.Handlers.{delivered_by}
use Rattle.refinement.proofs.Replies.{steps_are_cut}
use Rattle.schedule_text.specs.declared.event.Event.{Event}
use Rattle.schedule_text.specs.declared.event.Event.TheVariants as event
use Rattle.schedule_text.specs.declared.line.Line.TheVariants as line
use Rattle.status_report.specs.declared.attempt_entry.AttemptEntry.TheVariants as attempt_entry
use Rattle.status_report.specs.declared.device_entry.DeviceEntry.TheVariants as device
use Rattle.status_report.specs.declared.entry.Entry.TheVariants as entry
use Rattle.status_report.specs.declared.node_entry.DownCause.{DownCause}
use Rattle.status_report.specs.declared.node_entry.NodeEntry.TheVariants as note
use Rattle.status_report.specs.declared.packet_entry.PacketEntry.TheVariants as packet
use Rattle.wire.specs.Reads.{whole_of}
use Rattle.wire.specs.declared.message.Message.{Message}
use Rattle.world_model.specs.First.{first_cluster}
use Rattle.run_history.specs.Happenings.{Arrives, Begins as Begins_part, Commanded, Commands, Happening, IsPlain, Loses as Loses_packet, MayAllHappen, MayHappen, Misses, Notes, Refuses, Repeats, Speaks, Strays, Takes, Writes, all_happened, armed_by, commanded, commanded_at, given_by, happened, removed, taking}
use Rattle.run_history.specs.Noted.{AttemptNoted}
use Rattle.run_history.specs.Scenes.{Scene, adding, dropped_so, first_scene, passing, telling, with_links}
use Rattle.run_history.proofs.Heard.{begun_noted}
use Rattle.run_history.proofs.Idle.{passing_append, passing_nodes}
use Rattle.run_history.proofs.Lists.{both}
use Rattle.run_history.proofs.MemberRuns.{first_fit}
use Rattle.run_messages.specs.Outputs.{AreGood}
use Rattle.run_messages.proofs.Doings.{first_good, then_good}
use Rattle.run_messages.proofs.Reaching.{IsSmall, holds_of_each, stage_of, taking_good}
use Rattle.run_messages.specs.records.Kept.{KnownScene}
use Rattle.run_messages.proofs.records.Bytes.{found_bytes}
use Rattle.run_attempts.specs.Laws.{BringsMembers, InstallSo}
use Rattle.run_attempts.specs.Members.{AllBring, AttemptIn, HandSo, MemberSo, RecordSo, SiteSo}
use Rattle.run_attempts.specs.Steps.{CalmChange}
use Rattle.run_attempts.proofs.Installs.{TellsAlone, act_so, alone_so, change_so, first_alone, last_alone, said_so}
use Rattle.run_attempts.proofs.Known.{known_scene}
use Rattle.run_attempts.proofs.Tried.{Grows, attempt_grows, grows_one, hand_grows, install_grows, letter_brings, node_grows, passing_brings, passing_grows, record_grows, site_grows}
use Rattle.run_attempts.proofs.Walk.{act_calm}

-- ---- each small step

pub record Gone (n : ℕ) (x : Site) (after : List Moment) : Type 0 where
  pub brings : AllBring after
  pub site_so : SiteSo after x

-- outputs that are lines alone
alone_bring : (n : ℕ) (os : List Output) (s : Scene) → AreGood n os → AllByRecursion TellsAlone os → AttemptsDiffer (passing n os s).moments → AllBring s.moments → AllBring (passing n os s).moments
alone_bring n os s good alone differ h = passing_brings n os s good (alone_so s.moments os alone) differ h

saved_alone : (c : Cluster) (n : ℕ) (x : UpNode) (change : Change) → AllByRecursion TellsAlone (first_lines n change ++ saved_lines c n x change)
saved_alone c n x change = both TellsAlone (first_lines n change) (saved_lines c n x change) (first_alone n change) (tt, last_alone c n x change)

gone_alone : (n : ℕ) (change : Change) (why : DownCause) → AllByRecursion TellsAlone (first_lines n change ++ gone_line n why)
gone_alone n change why = both TellsAlone (first_lines n change) (gone_line n why) (first_alone n change) (tt, tt)

-- an attempt begins
leads_gone : (c : Cluster) (n : ℕ) (told : Delivered) (x : UpNode) (p members : ℕ) (disk : NodeRecord) (s : Scene) → All IsDevice c.attached → MayChange c n told x (Leads p members) → RecordSo s.moments (record_of x)
    → (let os : List Output = saved_lines c n x (Leads p members) in AttemptsDiffer (passing n os s).moments
    → MemberSo (passing n os s).moments (Up (changed c n x (Leads p members))))
leads_gone c n told x p members disk s fits may r differ =
    let t : Scene = telling (entry.Node n note.Saved) s in
    let u : Scene = telling (entry.Attempt (attempt_entry.Begun p members)) t in
    let y : UpNode = record (promising x p) { greatest = p } in
    let rest : AttemptsDiffer u.moments × Grows u.moments (passing n (unknown_lines n x.requests.waiting) u).moments = passing_grows n (unknown_lines n x.requests.waiting) u differ in
    let all : AttemptsDiffer s.moments × Grows s.moments (passing n (saved_lines c n x (Leads p members)) s).moments = passing_grows n (saved_lines c n x (Leads p members)) s differ in
    let noted : AttemptNoted u.moments n (beginning p members (own_promise n y p) c.attached c.id).after = begun_noted t.moments n p members (own_promise n y p) c.attached c.id may.1 in (
      record_grows s.moments _ (record_of x) all.1 r,
      attempt_grows u.moments _ (changed c n x (Leads p members)).attempt rest.1 (record {
        reached = record { p = p; members = members; own = own_promise n y p; attached = c.attached; cluster = c.id; devices = fits; calls = []; run = refl };
        tried = (noted.begun, noted.members);
      }),
    )

calm_node : (c : Cluster) (n : ℕ) (told : Delivered) (x : UpNode) (change : Change) (s : Scene) → CalmChange change → MayChange c n told x change → HandSo s.moments told → RecordSo s.moments (record_of x) → AttemptIn s.moments x.attempt
    → (let os : List Output = first_lines n change ++ saved_lines c n x change in AttemptsDiffer (passing n os s).moments → MemberSo (passing n os s).moments (Up (changed c n x change)))
calm_node c n told x change s calm may hand r a differ =
    let os : List Output = first_lines n change ++ saved_lines c n x change in
    node_grows s.moments (passing n os s).moments (Up (changed c n x change)) (passing_grows n os s differ).1 (change_so c n told s.moments x change calm may hand r a)

-- the record that a change makes, and the attempt of all but one
saved_node : (c : Cluster) (n : ℕ) (told : Delivered) (x : UpNode) (change : Change) (s : Scene) → All IsDevice c.attached → MayChange c n told x change → HandSo s.moments told → RecordSo s.moments (record_of x) → AttemptIn s.moments x.attempt
    → (let os : List Output = first_lines n change ++ saved_lines c n x change in AttemptsDiffer (passing n os s).moments → MemberSo (passing n os s).moments (Up (changed c n x change)))
saved_node c n told x (Leads p members) s fits may hand r a differ = leads_gone c n told x p members (record_of x) s fits may r differ
saved_node c n told x (Promises p) s fits may hand r a differ = calm_node c n told x (Promises p) s tt may hand r a differ
saved_node c n told x (Counts t k q i) s fits may hand r a differ = calm_node c n told x (Counts t k q i) s tt may hand r a differ
saved_node c n told x (Installs q i) s fits may hand r a differ = calm_node c n told x (Installs q i) s tt may hand r a differ
saved_node c n told x (Starts t k q) s fits may hand r a differ = calm_node c n told x (Starts t k q) s tt may hand r a differ
saved_node c n told x (Sits q e) s fits may hand r a differ = calm_node c n told x (Sits q e) s tt may hand r a differ
saved_node c n told x (Distrusts d) s fits may hand r a differ = calm_node c n told x (Distrusts d) s tt may hand r a differ
saved_node c n told x (Admits at command answer d) s fits may hand r a differ = calm_node c n told x (Admits at command answer d) s tt may hand r a differ
saved_node c n told x (Proposes q p text) s fits may hand r a differ = calm_node c n told x (Proposes q p text) s tt may hand r a differ
saved_node c n told x (Acks q p queue left text) s fits may hand r a differ = calm_node c n told x (Acks q p queue left text) s tt may hand r a differ
saved_node c n told x (Prepares q text) s fits may hand r a differ = calm_node c n told x (Prepares q text) s tt may hand r a differ
saved_node c n told x (Commits q) s fits may hand r a differ = calm_node c n told x (Commits q) s tt may hand r a differ

-- the record that is left where the save is lost
lost_record : (c : Cluster) (n : ℕ) (told : Delivered) (ms : List Moment) (x : UpNode) (change : Change) → MayChange c n told x change → HandSo ms told → RecordSo ms (record_of x) → AttemptIn ms x.attempt → RecordSo ms (record_of (changed c n x change))
lost_record c n told ms x (Leads p members) may hand r a = r
lost_record c n told ms x (Promises p) may hand r a = (change_so c n told ms x (Promises p) tt may hand r a).0
lost_record c n told ms x (Counts t k q i) may hand r a = (change_so c n told ms x (Counts t k q i) tt may hand r a).0
lost_record c n told ms x (Installs q i) may hand r a = (change_so c n told ms x (Installs q i) tt may hand r a).0
lost_record c n told ms x (Starts t k q) may hand r a = (change_so c n told ms x (Starts t k q) tt may hand r a).0
lost_record c n told ms x (Sits q e) may hand r a = (change_so c n told ms x (Sits q e) tt may hand r a).0
lost_record c n told ms x (Distrusts d) may hand r a = (change_so c n told ms x (Distrusts d) tt may hand r a).0
lost_record c n told ms x (Admits at command answer d) may hand r a = (change_so c n told ms x (Admits at command answer d) tt may hand r a).0
lost_record c n told ms x (Proposes q p text) may hand r a = (change_so c n told ms x (Proposes q p text) tt may hand r a).0
lost_record c n told ms x (Acks q p queue left text) may hand r a = (change_so c n told ms x (Acks q p queue left text) tt may hand r a).0
lost_record c n told ms x (Prepares q text) may hand r a = (change_so c n told ms x (Prepares q text) tt may hand r a).0
lost_record c n told ms x (Commits q) may hand r a = (change_so c n told ms x (Commits q) tt may hand r a).0

doing_gone : (c : Cluster) (n : ℕ) (told : Delivered) (node : Node) (disk : NodeRecord) (d : Doing) (s : Scene) → All IsDevice c.attached → May c n told (site node disk) d → AreGood n (gives c n (site node disk) d) → HandSo s.moments told
    → (let t : Scene = passing n (gives c n (site node disk) d) s in AttemptsDiffer t.moments → AllBring s.moments → SiteSo s.moments (site node disk) → Gone n (effect c n (site node disk) d) t.moments)
doing_gone c n told Down disk Comes_up s fits may good hand differ h k =
    let g : Grows s.moments (passing n (of_node n note.Up ∷ []) s).moments = (passing_grows n (of_node n note.Up ∷ []) s differ).1 in
    record { brings = alone_bring n (of_node n note.Up ∷ []) s good (tt, tt) differ h; site_so = record { disk = record_grows s.moments _ disk g k.disk; node = (record_grows s.moments _ disk g k.disk, tt) } }
doing_gone c n told (Up x) disk Comes_up s fits may good hand differ h k = absurd may
doing_gone c n told node disk (Goes_down why) s fits may good hand differ h k =
    let g : Grows s.moments (passing n (gone_line n why) s).moments = (passing_grows n (gone_line n why) s differ).1 in
    record { brings = alone_bring n (gone_line n why) s good (tt, tt) differ h; site_so = record { disk = record_grows s.moments _ disk g k.disk; node = tt } }
doing_gone c n told Down disk (Does a) s fits may good hand differ h k = absurd may
doing_gone c n told (Up x) disk (Does a) s fits may good hand differ h k =
    let os : List Output = gives c n (site (Up x) disk) (Does a) in
    let g : Grows s.moments (passing n os s).moments = (passing_grows n os s differ).1 in
    let so : RecordSo s.moments (record_of (acted c n x a)) × AttemptIn s.moments (acted c n x a).attempt = act_so c n told s.moments x a may (act_calm c n told x a may) hand k.node.0 k.node.1 in
    record {
      brings = passing_brings n os s good (said_so c n told s.moments x a may k.node.1) differ h;
      site_so = site_grows s.moments (passing n os s).moments (site (Up (acted c n x a)) disk) g (record { disk = k.disk; node = so });
    }
doing_gone c n told Down disk (Saves change) s fits may good hand differ h k = absurd may
doing_gone c n told (Up x) disk (Saves change) s fits may good hand differ h k =
    let os : List Output = first_lines n change ++ saved_lines c n x change in
    let node : MemberSo (passing n os s).moments (Up (changed c n x change)) = saved_node c n told x change s fits may hand k.node.0 k.node.1 differ in
    record { brings = alone_bring n os s good (saved_alone c n x change) differ h; site_so = record { disk = node.0; node = node } }
doing_gone c n told Down disk (Loses change why) s fits may good hand differ h k = absurd may
doing_gone c n told (Up x) disk (Loses change why) s fits may good hand differ h k =
    let os : List Output = first_lines n change ++ gone_line n why in
    let g : Grows s.moments (passing n os s).moments = (passing_grows n os s differ).1 in
    record {
      brings = alone_bring n os s good (gone_alone n change why) differ h;
      site_so = record { disk = record_grows s.moments _ (record_of (changed c n x change)) g (lost_record c n told s.moments x change may hand k.node.0 k.node.1); node = tt };
    }
doing_gone c n told node disk (Forgets change why) s fits may good hand differ h k =
    let os : List Output = first_lines n change ++ gone_line n why in
    let g : Grows s.moments (passing n os s).moments = (passing_grows n os s differ).1 in
    record { brings = alone_bring n os s good (gone_alone n change why) differ h; site_so = record { disk = record_grows s.moments _ disk g k.disk; node = tt } }

-- one after another
all_gone : (c : Cluster) (n : ℕ) (told : Delivered) (x : Site) (ds : List Doing) (s : Scene) → All IsDevice c.attached → MayAll c n told x ds → AreGood n (given_all c n x ds) → HandSo s.moments told
    → (let t : Scene = passing n (given_all c n x ds) s in AttemptsDiffer t.moments → AllBring s.moments → SiteSo s.moments x → Gone n (after_all c n x ds) t.moments)
all_gone c n told x [] s fits may good hand differ h k = record { brings = h; site_so = k }
all_gone c n told x (d ∷ ds) s fits may good hand differ h k =
    let os : List Output = gives c n x d in
    let y : Site = effect c n x d in
    let more : List Output = given_all c n y ds in
    let t : Scene = passing n os s in
    let last : AttemptsDiffer (passing n more t).moments = subst (λ (z : Scene). AttemptsDiffer z.moments) (passing_append n os more s) differ in
    let here : AttemptsDiffer t.moments = (passing_grows n more t last).0 in
    let first : Gone n y t.moments = doing_gone c n told x.node x.disk d s fits may.0 (first_good n os more good) hand here h k in
    let rest : Gone n (after_all c n y ds) (passing n more t).moments =
    all_gone c n told y ds t fits may.1 (then_good n os more good) (hand_grows s.moments t.moments told (passing_grows n os s here).1 hand) last first.brings first.site_so in
    subst (λ (z : Scene). Gone n (after_all c n y ds) z.moments) (sym (passing_append n os more s)) rest

-- ---- all nodes

pub record AllMembers (v : Nodes) (ms : List Moment) : Type 0 where
  pub brings : AllBring ms
  pub sites : (k : ℕ) → SiteSo ms (site (v.node k) (v.disk k).kept)

record Knows (c : Cluster) (v : Nodes) : Type 0 where
  machine : Memberships
  holds : Holds (ties.setting_of c) machine
  stands : (n : ℕ) → Stands c machine n (v.node n) (v.disk n).kept

known : (c : Cluster) (s : Scene) → KnownScene c s → Knows c s.nodes
known c s a = record { machine = a.stage.machine; holds = a.stage.holds; stands = a.stage.stands }

step_gone : (c : Cluster) (v : Nodes) (n now : ℕ) (ends : method.Outcome) (i : Input) (s : Scene) → n ≤ 32 → All IsDevice c.attached → Knows c v → AreGood n (given_by c n now ends i v) → HandSo s.moments (delivered_by i)
    → (let o : Outcome DiskState = stepped disk_rules c n now ends (v.node n) (v.disk n) i in AttemptsDiffer (passing n o.given s).moments → AllBring s.moments → SiteSo s.moments (site (v.node n) (v.disk n).kept)
    → Gone n (site o.after o.disk.kept) (passing n o.given s).moments)
step_gone c v n now ends i s high fits k good hand differ h at =
    let o : Outcome DiskState = stepped disk_rules c n now ends (v.node n) (v.disk n) i in
    let cut : IsCut disk_rules c n now ends (v.node n) (v.disk n) i [] o = steps_are_cut disk_rules disks_keep_rules c n now ends (v.node n) (v.disk n) i in
    let x : Site = site (v.node n) (v.disk n).kept in
    let ds : List Doing = doings c n now ends cut.replies i (v.node n) in
    let may : MayAll c n (delivered_by i) x ds =
    step_may c k.machine n now ends (v.node n) (v.disk n).kept i cut.replies high fits k.holds (k.stands n).tied (k.stands n).joins in
    let g : Gone n (after_all c n x ds) (passing n (given_all c n x ds) s).moments =
    all_gone c n (delivered_by i) x ds s fits may (subst (AreGood n) (sym cut.comes.given) good) hand (subst (λ os. AttemptsDiffer (passing n os s).moments) (sym cut.comes.given) differ) h at in
    subst (λ (z : Site). Gone n z (passing n o.given s).moments) cut.comes.left (subst (λ os. Gone n (after_all c n x ds) (passing n os s).moments) cut.comes.given g)

put_sites : (v : Nodes) (n : ℕ) (node : Node) (disk : DiskState) (ms : List Moment) → SiteSo ms (site node disk.kept) → ((k : ℕ) → k ≢ n → SiteSo ms (site (v.node k) (v.disk k).kept)) → (k : ℕ)
    → SiteSo ms (site (put v.node n node k) (put v.disk n disk k).kept)
put_sites v n node disk ms here there = put_all (λ k x r. SiteSo ms (site x r)) v n node disk here there

taking_gone : (c : Cluster) (s : Scene) (n now : ℕ) (ends : method.Outcome) (i : Input) → n ≤ 32 → All IsDevice c.attached → Knows c s.nodes → Stage c (taking c n now ends i s) → HandSo s.moments (delivered_by i)
    → AllMembers s.nodes s.moments → AllMembers (taking c n now ends i s).nodes (taking c n now ends i s).moments
taking_gone c s n now ends i high fits k after hand h =
    let v : Nodes = moved c s.nodes (Takes_in n now ends i) in
    let t : Scene = record s { nodes = v } in
    let os : List Output = given_by c n now ends i s.nodes in
    let o : Outcome DiskState = stepped disk_rules c n now ends (s.nodes.node n) (s.nodes.disk n) i in
    let grown : AttemptsDiffer s.moments × Grows s.moments (passing n os t).moments = passing_grows n os t after.laws.once in
    let g : Gone n (site o.after o.disk.kept) (passing n os t).moments =
    step_gone c s.nodes n now ends i t high fits k (taking_good c s n now ends i after) hand after.laws.once h.brings (h.sites n) in
    subst (λ w. AllMembers w (passing n os t).moments) (sym (passing_nodes n os t)) (record {
      brings = g.brings;
      sites = put_sites s.nodes n o.after o.disk (passing n os t).moments g.site_so (λ j ne. site_grows s.moments (passing n os t).moments _ grown.1 (h.sites j));
    })

-- ---- lines of the world

still : (v : Nodes) (ms : List Moment) (x : Moment) → IsNew ms x → BringsMembers ms x → AllMembers v ms → AllMembers v (x ∷ ms)
still v ms x new one h = record { brings = (one, h.brings); sites = λ k. site_grows ms (x ∷ ms) _ (grows_one ms x new) (h.sites k) }

dropped_gone : (o : Option (ℕ × DropCause)) (s : Scene) → AllMembers s.nodes s.moments → AllMembers (dropped_so o s).nodes (dropped_so o s).moments
dropped_gone None s h = h
dropped_gone (Some drop) s h = still s.nodes s.moments (Told (entry.Packet (packet.Dropped drop.0 drop.1))) tt tt h

armed_kept : (f : ℕ → DiskState) (n k calls : ℕ) (choice : Choice) → (put f n (armed (f n) calls choice) k).kept ≡ (f k).kept
armed_kept f n k calls choice = go (same_or_not k n)
  where
    go : (k ≡ n) ⊎ (k ≢ n) → (put f n (armed (f n) calls choice) k).kept ≡ (f k).kept
    go (inl e) = subst (λ j. (put f n (armed (f n) calls choice) j).kept ≡ (f j).kept) (sym e) (ap (λ (d : DiskState). d.kept) (put_here f n (armed (f n) calls choice)))
    go (inr ne) = ap (λ (d : DiskState). d.kept) (put_there f n (armed (f n) calls choice) k ne)

armed_gone : (c : Cluster) (e : Event) (s : Scene) → AllMembers s.nodes s.moments → AllMembers (armed_by c e s).nodes (armed_by c e s).moments
armed_gone c (event.Fault n d done) s h = record { brings = h.brings; sites = h.sites }
armed_gone c (event.CrashAt n calls choice) s h = record { brings = h.brings; sites = λ k. subst (λ r. SiteSo s.moments (site (s.nodes.node k) r)) (sym (armed_kept s.nodes.disk n k calls (left_by choice))) (h.sites k) }
armed_gone c _ s h = h

commanded_gone : (s : Scene) (n d : ℕ) (o : Option Device) (k : PrCommand) → AllMembers s.nodes s.moments → AllMembers (commanded_at s n d o k).scene.nodes (commanded_at s n d o k).scene.moments
commanded_gone s n d None k h = h
commanded_gone s n d (Some x) k h = record { brings = h.brings; sites = h.sites }

commanded_knows : (c : Cluster) (s : Scene) (n d : ℕ) (o : Option Device) (k : PrCommand) → Knows c s.nodes → Knows c (commanded_at s n d o k).scene.nodes
commanded_knows c s n d None k h = h
commanded_knows c s n d (Some x) k h = h

plain_hand : (ms : List Moment) (i : Input) → IsPlain i → HandSo ms (delivered_by i)
plain_hand ms (input.Packet from m) plain = absurd plain
plain_hand ms _ plain = tt

arrived_hand : (c : Cluster) (s : Scene) (number : ℕ) (x : Packet) (m : Message) → packet_of s.links.packets number ≡ Some x → whole_of x.bytes ≡ Some m → KnownScene c s → AllBring s.moments → InstallSo s.moments m.body
arrived_hand c s number x m is whole a h = by_letter (letter_of number s.moments) refl (found_bytes s.moments s.links number x a.bytes is)
  where
    by_letter : (o : Option Letter) → letter_of number s.moments ≡ o → option_map (λ (l : Letter). l.bytes) o ≡ Some x.bytes → InstallSo s.moments m.body
    by_letter None at e = absurd (none_some x.bytes e)
    by_letter (Some l) at e = letter_brings number s.moments l m a.stage.laws.once h at (ap whole_of (same_some l.bytes x.bytes e) ∙ whole)

-- ---- each thing that happens

happening_gone : (c : Cluster) (s : Scene) (x : Happening) → All IsDevice c.attached → MayHappen c s x → KnownScene c s → Stage c (happened c s x) → AllMembers s.nodes s.moments → AllMembers (happened c s x).nodes (happened c s x).moments
happening_gone c s (Speaks e) fits may a after h = armed_gone c e (adding (Said (line.Event e)) s) (still s.nodes s.moments (Said (line.Event e)) tt tt h)
happening_gone c s (Begins_part e) fits may a after h = still s.nodes s.moments (Part e) tt tt h
happening_gone c s (Notes e) fits may a after h = still s.nodes s.moments (Told (entry.Schedule e)) tt tt h
happening_gone c s (Takes n now ends i) fits may a after h = taking_gone c s n now ends i may.0.1 fits (known c s a) after (plain_hand s.moments i may.1) h
happening_gone c s (Arrives number x m now ends) fits may a after h =
    let t : Scene = telling (entry.Packet (packet.Delivered number x.from x.to)) (removed s number) in
    taking_gone c t x.to now ends (input.Packet x.from m) may.3.1 fits (known c s a) after
    (install_grows s.moments t.moments m.body (grows_one s.moments (delivered number x.from x.to) tt) (arrived_hand c s number x m may.0 may.1 a h.brings)) (still s.nodes s.moments (delivered number x.from x.to) tt tt h)
happening_gone c s (Strays number x) fits may a after h = still s.nodes s.moments (Told (entry.Packet (packet.Delivered number x.from x.to))) tt tt h
happening_gone c s (Misses number x) fits may a after h = still s.nodes s.moments (Told (entry.Packet (packet.Dropped number drop.Down))) tt tt h
happening_gone c s (Loses_packet number x) fits may a after h = still s.nodes s.moments (Told (entry.Packet (packet.Lost number))) tt tt h
happening_gone c s (Repeats number x) fits may a after h =
    let o : links.Outcome = sending s.links x.from x.to x.bytes in
    let t : Scene = telling (entry.Packet (packet.Repeated number s.links.next)) (with_links s o.after) in
    dropped_gone o.sent.dropped t (still s.nodes s.moments (Told (entry.Packet (packet.Repeated number s.links.next))) tt tt h)
happening_gone c s (Commands n d k now ends) fits may a after h =
    let o : Option Device = slice_get s.devices (d - 1) in
    taking_gone c (commanded s n d k).scene n now ends (input.Answered (commanded s n d k).answer) may.0.1 fits (commanded_knows c s n d o k (known c s a)) after tt (commanded_gone s n d o k h)
happening_gone c s (Writes n d value now ends) fits may a after h =
    let o : Option Device = slice_get s.devices (d - 1) in
    let z : Commanded = commanded s n d (command.Write value) in
    taking_gone c z.scene n now ends (input.Wrote d value z.answer) may.0.1 fits (commanded_knows c s n d o (command.Write value) (known c s a)) after tt (commanded_gone s n d o (command.Write value) h)
happening_gone c s (Refuses n d value cause) fits may a after h = still s.nodes s.moments (Told (entry.Device (device.Refused n d value cause))) tt tt h

-- ---- runs

first_gone : (h : Header) (cells : ℕ) → AllMembers (first_scene h cells).nodes (first_scene h cells).moments
unfolding first_scene
first_gone h cells = record { brings = tt; sites = λ k. record { disk = λ some. absurd (none_below some); node = tt } }
  where
    none_below : 0 < 0 → ⊥
    none_below e = grind arith

pub run_gone : (h : Header) (cells : ℕ) (hs : List Happening) → length h.devices ≤ most_devices → h.cluster < 2 ^ 32 → MayAllHappen (first_cluster h) (first_scene h cells) hs
    → (let s : Scene = all_happened (first_cluster h) (first_scene h cells) hs in AllMembers s.nodes s.moments)
run_gone h cells hs few small may =
    let size : IsSmall h = record { few = few; small = small } in
    holds_of_each h cells (λ s. AllMembers s.nodes s.moments)
    (λ s x now at more all. happening_gone (first_cluster h) s x (first_fit h few) now (known_scene h cells s size at) (stage_of h cells _ size more) all) (first_gone h cells) hs may
