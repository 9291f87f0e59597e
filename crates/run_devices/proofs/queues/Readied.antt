-- What a node tells of commands at devices, and how it readies itself for one.
use Rattle.std.specs.Prelude.{ℕ, ◌≡◌, ◌==◌, ◌⊎◌, ◌++◌, Bool, true, false, List, [], ◌∷◌, Option, None, Some, if◌then◌else◌}
use Rattle.std.specs.List.{AllByRecursion, list_any}
use Rattle.std.proofs.Common.{refl, sym, ap, subst, ◌∙◌, inl, inr}
use Rattle.cl_base.specs.Sets.{has}
use Rattle.cl_base.specs.declared.method.Outcome as method
use Rattle.cl_base.specs.declared.packet.DropCause.{DropCause}
use Rattle.cl_base.specs.declared.panic.Panic.TheVariants as panic
use Rattle.cmm_attempt.proofs.Basics.{if_either, none_some}
use Rattle.cmm_member.specs.Records.{NodeRecord}
use Rattle.device_queue.specs.Queue.{begins_plainly}
use Rattle.interconnect.specs.Links as net
use Rattle.interconnect.specs.Links.{sending}
use Rattle.machine_base.proofs.Puts.{put_here}
use Rattle.pgr_device.specs.declared.command.PrCommand.{PrCommand}
use Rattle.record_disk.specs.Disks.{DiskState}
use Rattle.status_report.specs.declared.device_entry.DeviceAnswer.{DeviceAnswer}
use Rattle.status_report.specs.declared.device_entry.DeviceEntry.TheVariants as device
use Rattle.status_report.specs.declared.entry.Entry.{Entry}
use Rattle.status_report.specs.declared.entry.Entry.TheVariants as entry
use Rattle.status_report.specs.declared.node_entry.DownCause.{DownCause}
use Rattle.status_report.specs.declared.node_entry.DownCause.TheVariants as cause
use Rattle.status_report.specs.declared.node_entry.NodeEntry.TheVariants as note
use Rattle.status_report.specs.declared.packet_entry.PacketEntry.TheVariants as packet
use Rattle.wire.specs.Spelling.{spelling}
use Rattle.wire.specs.declared.message.Message.{Message}
use Rattle.history.specs.Lines.{commands_in}
use Rattle.history.specs.Moment.{Moment, Told}
use Rattle.node_model.specs.Devices.{answer_told}
use Rattle.node_model.specs.Seats.{record_of}
use Rattle.node_model.specs.Steps.{Outcome, at_second, stepped}
use Rattle.node_model.specs.declared.cluster.Cluster.{Cluster}
use Rattle.node_model.specs.declared.input.Input.TheVariants as input
use Rattle.node_model.specs.declared.node.Node.{Node}
use Rattle.node_model.specs.declared.node.Node.TheVariants.{Down, Up}
use Rattle.node_model.specs.declared.node.UpNode.{UpNode}
use Rattle.node_model.specs.declared.output.Output.{Output}
use Rattle.node_model.specs.declared.output.Output.TheVariants.{Sends, Tells}
use Rattle.refinement.proofs.Disks.{disks_keep_rules}
use Rattle.refinement.specs.Courses.{Reply, under}
use Rattle.refinement.specs.Courses.Course.{Keeps, Stops}
use Rattle.refinement.specs.Courses.Reply.{Done, Lost_new, Lost_old}
use Rattle.refinement.specs.Cuts.{distrusting_course, doings}
use Rattle.refinement.specs.Doings.{Doing, Site, after_all, given_all, gone_line, site}
use Rattle.refinement.specs.Doings.Change.{Distrusts}
use Rattle.refinement.specs.Runs.{Nodes, moved}
use Rattle.refinement.specs.Runs.Move.{Takes as Takes_in}
use Rattle.refinement.specs.Steps.{disk_rules}
use Rattle.world_model.specs.Devices.{due_at}
use Rattle.world_model.specs.Sends.{is_sent, name_of}
use Rattle.run_history.proofs.DevicesRun.{passing_nodes}
use Rattle.run_history.specs.CommandLines.{AllQuiet, CommandFirst, IsQuiet}
use Rattle.run_history.specs.Happenings.{taking}
use Rattle.run_history.specs.Scenes.{Scene, dropped_so, passing, posting, sent_as, telling, with_links}
use Rattle.run_lines.proofs.Adds.{Adds, adds_first, adds_one, onto}
use Rattle.run_lines.specs.Entries.{IsEntry, IsOfEvent}
use Rattle.run_messages.proofs.records.Replies.{CutSo, steps_are_cut_so}
use Rattle.run_messages.specs.records.Losses.{AreLosses, IsLoss}
use Rattle.run_seizings.proofs.Progress.{if_so, or_left, same_is}
use Rattle.run_devices.specs.queues.Laws.{is_lost}

-- ---- entries that are added

onto_both : (xs ys before : List Moment) → onto (xs ++ ys) before ≡ onto ys (onto xs before)
onto_both [] ys before = refl
onto_both (x ∷ xs) ys before = onto_both xs ys (x ∷ before)

all_both : (xs ys : List Moment) → AllByRecursion IsEntry xs → AllByRecursion IsEntry ys → AllByRecursion IsEntry (xs ++ ys)
all_both [] ys h k = k
all_both (x ∷ xs) ys h k = (h.0, all_both xs ys h.1 k)

abbrev none_added : (ms : List Moment) → Adds ms ms
none_added ms = record { entries = []; are = tt; is = refl }

abbrev both_added : (a b d : List Moment) → Adds a b → Adds b d → Adds a d
both_added a b d h k = record {
  entries = h.entries ++ k.entries;
  are = all_both h.entries k.entries h.are k.are;
  is = onto_both h.entries k.entries a ∙ (ap (λ ms. onto k.entries ms) h.is ∙ k.is);
}

-- ---- the commands among them

pub record Commands (n : ℕ) (done : List (ℕ × PrCommand)) (before after : List Moment) : Type 0 where
  pub adds : Adds before after
  pub are : commands_in n adds.entries ≡ done

-- a line that is no command
no_command : (n : ℕ) (e : Entry) (xs : List Moment) → IsQuiet e → commands_in n (Told e ∷ xs) ≡ commands_in n xs
no_command n (entry.Device (device.Command m d k reply)) xs q = absurd q
no_command n (entry.Device (device.Accepted q m d value)) xs z = refl
no_command n (entry.Device (device.Refused m d value why)) xs z = refl
no_command n (entry.Packet e) xs q = absurd q
no_command n (entry.Schedule e) xs q = absurd q
no_command n _ xs q = refl

quiet_event : (e : Entry) → IsQuiet e → IsOfEvent e
quiet_event (entry.Schedule e) q = absurd q
quiet_event _ q = tt

list_assoc : {A : Type 0} (xs ys zs : List A) → (xs ++ ys) ++ zs ≡ xs ++ (ys ++ zs)
list_assoc [] ys zs = refl
list_assoc (x ∷ xs) ys zs = ap (λ z. x ∷ z) (list_assoc xs ys zs)

pub commands_both : (n : ℕ) (xs ys : List Moment) → commands_in n (xs ++ ys) ≡ commands_in n xs ++ commands_in n ys
commands_both n [] ys = refl
commands_both n (x ∷ xs) ys = by_moment x (commands_both n xs ys)
  where
    by_command : (b : Bool) (d : ℕ) (k : PrCommand) → commands_in n (xs ++ ys) ≡ commands_in n xs ++ commands_in n ys
        → (if b then (d, k) ∷ [] else []) ++ commands_in n (xs ++ ys) ≡ ((if b then (d, k) ∷ [] else []) ++ commands_in n xs) ++ commands_in n ys
    by_command b d k rest =
        ap (λ zs. (if b then (d, k) ∷ [] else []) ++ zs) rest ∙ sym (list_assoc (if b then (d, k) ∷ [] else []) (commands_in n xs) (commands_in n ys))

    by_moment : (x : Moment) → commands_in n (xs ++ ys) ≡ commands_in n xs ++ commands_in n ys → commands_in n (x ∷ (xs ++ ys)) ≡ commands_in n (x ∷ xs) ++ commands_in n ys
    by_moment (Told (entry.Device (device.Command m d k reply))) rest = by_command (m == n) d k rest
    by_moment _ rest = rest

none_then : (n : ℕ) (done : List (ℕ × PrCommand)) (a b d : List Moment) → Commands n [] a b → Commands n done b d → Commands n done a d
none_then n done a b d h k =
    record { adds = both_added a b d h.adds k.adds; are = commands_both n h.adds.entries k.adds.entries ∙ (ap (λ zs. zs ++ commands_in n k.adds.entries) h.are ∙ k.are) }

quiet_first : (n : ℕ) (done : List (ℕ × PrCommand)) (e : Entry) (before after : List Moment) → IsQuiet e → Commands n done (Told e ∷ before) after → Commands n done before after
quiet_first n done e before after q k =
    record { adds = adds_first e before after (quiet_event e q) k.adds; are = no_command n e k.adds.entries q ∙ k.are }

packet_one : (n : ℕ) (s : Scene) (o : Option (ℕ × DropCause)) → Commands n [] s.moments (dropped_so o s).moments
packet_one n s None = record { adds = none_added s.moments; are = refl }
packet_one n s (Some x) = record { adds = adds_one (entry.Packet (packet.Dropped x.0 x.1)) s.moments tt; are = refl }

posted_quiet : (n from to : ℕ) (m : Message) (s : Scene) → Commands n [] s.moments (posting from to m s).moments
posted_quiet n from to m s =
    let o : net.Outcome = sending s.links from to (spelling m) in
    let e : Entry = entry.Packet (packet.Sent s.links.next from to (name_of m.body) (spelling m)) in
    let t : Scene = telling e (with_links s o.after) in
    if_either (λ (z : Scene). Commands n [] s.moments z.moments) (is_sent s.links m) (sent_as from to m o s) s
    (none_then n [] s.moments t.moments (dropped_so o.sent.dropped t).moments (record { adds = adds_one e s.moments tt; are = refl }) (packet_one n t o.sent.dropped))
    (record { adds = none_added s.moments; are = refl })

-- a node that tells of no command
pub quiet_adds : (n : ℕ) (os : List Output) (s : Scene) → AllQuiet os → Commands n [] s.moments (passing n os s).moments
quiet_adds n [] s q = record { adds = none_added s.moments; are = refl }
quiet_adds n (Tells e ∷ os) s q = quiet_first n [] e s.moments (passing n os (telling e s)).moments q.0 (quiet_adds n os (telling e s) q.1)
quiet_adds n (Sends to b ∷ os) s q =
    let m : Message = record { sender = n; body = b } in
    none_then n [] s.moments (posting n to m s).moments (passing n os (posting n to m s)).moments (posted_quiet n n to m s) (quiet_adds n os (posting n to m s) q.1)

command_first : (n d : ℕ) (k : PrCommand) (reply : DeviceAnswer) (before after : List Moment) → Commands n [] (Told (entry.Device (device.Command n d k reply)) ∷ before) after
    → Commands n ((d, k) ∷ []) before after
command_first n d k reply before after h = record {
  adds = adds_first (entry.Device (device.Command n d k reply)) before after tt h.adds;
  are = ap (λ zs. zs ++ commands_in n h.adds.entries) (if_so (n == n) ((d, k) ∷ []) [] (same_is n)) ∙ ap (λ zs. (d, k) ∷ zs) h.are;
}

-- .. and one that tells of one, first
pub first_adds : (n d : ℕ) (k : PrCommand) (a : _) (os : List Output) (s : Scene) → CommandFirst n d k a os → Commands n ((d, k) ∷ []) s.moments (passing n os s).moments
first_adds n d k a os s h =
    subst (λ zs. Commands n ((d, k) ∷ []) s.moments (passing n zs s).moments) (sym h.first)
    (command_first n d k (answer_told a) s.moments (passing n (Tells (entry.Device (device.Command n d k (answer_told a))) ∷ h.others) s).moments
    (quiet_adds n h.others (telling (entry.Device (device.Command n d k (answer_told a))) s) h.quiet))

-- ---- a node readies itself

-- it has the same command due, or it is down
pub record Readied (n : ℕ) (before after : List Moment) (o p : Option (ℕ × PrCommand)) : Type 0 where
  pub commands : Commands n [] before after
  pub goes : (p ≡ o) ⊎ ((p ≡ None) × (list_any (is_lost n) commands.adds.entries ≡ true))

abbrev Walked : Cluster → ℕ → NodeRecord → UpNode → Scene → List Doing → Type 0
Walked c n disk x s ds =
    Readied n s.moments (passing n (given_all c n (site (Up x) disk) ds) s).moments (due_at (Some (Up x))) (due_at (Some (after_all c n (site (Up x) disk) ds).node))

lost_walk : (n : ℕ) (why : DownCause) (s : Scene) (o : Option (ℕ × PrCommand)) → IsLoss why → Readied n s.moments (passing n (gone_line n why) s).moments o None
lost_walk n cause.Stopped s o is = record {
  commands = record { adds = adds_one (entry.Node n (note.Down cause.Stopped)) s.moments tt; are = refl };
  goes = inr (refl, or_left (n == n) false (same_is n));
}
lost_walk n (cause.Panic panic.Disk) s o is = record {
  commands = record { adds = adds_one (entry.Node n (note.Down (cause.Panic panic.Disk))) s.moments tt; are = refl };
  goes = inr (refl, or_left (n == n) false (same_is n));
}
lost_walk n cause.Crash s o is = absurd is
lost_walk n (cause.Panic (panic.Fenced e)) s o is = absurd is
lost_walk n (cause.Panic (panic.Excluded q)) s o is = absurd is
lost_walk n (cause.Panic (panic.Stop r)) s o is = absurd is

save_walk : (c : Cluster) (n d : ℕ) (disk : NodeRecord) (x : UpNode) (s : Scene) (replies : List Reply) → AreLosses replies → Walked c n disk x s (under replies (Keeps (Distrusts d) Stops))
save_walk c n d disk x s [] losses = lost_walk n cause.Stopped s (due_at (Some (Up x))) tt
save_walk c n d disk x s (Done ∷ replies) losses =
    record { commands = record { adds = adds_one (entry.Node n note.Saved) s.moments tt; are = refl }; goes = inl refl }
save_walk c n d disk x s (Lost_new why ∷ replies) losses = lost_walk n why s (due_at (Some (Up x))) losses.0
save_walk c n d disk x s (Lost_old why ∷ replies) losses = lost_walk n why s (due_at (Some (Up x))) losses.0

readies_walk : (c : Cluster) (n : ℕ) (disk : NodeRecord) (x : UpNode) (s : Scene) (replies : List Reply) (o : Option ℕ) → AreLosses replies
    → Walked c n disk x s (under replies (distrusting_course x o))
readies_walk c n disk x s replies None losses = record { commands = record { adds = none_added s.moments; are = refl }; goes = inl refl }
readies_walk c n disk x s replies (Some d) losses = by_valid (has (record_of x).valid d)
  where
    by_valid : (b : Bool) → Walked c n disk x s (under replies (if b then Keeps (Distrusts d) Stops else Stops))
    by_valid true = save_walk c n d disk x s replies losses
    by_valid false = record { commands = record { adds = none_added s.moments; are = refl }; goes = inl refl }

up_walk : (c : Cluster) (n now : ℕ) (ends : method.Outcome) (disk : NodeRecord) (x : UpNode) (s : Scene) (replies : List Reply) → AreLosses replies
    → Walked c n disk x s (doings c n now ends replies input.CommandDue (Up x))
up_walk c n now ends disk x s replies losses = readies_walk c n disk (at_second now x) s replies (begins_plainly x.tasks) losses

no_due : (o : Option (ℕ × PrCommand)) (due : ℕ × PrCommand) → None ≡ Some due → o ≡ None
no_due o due is = absurd (none_some due is)

-- a node that has a command due
pub readies_so : (c : Cluster) (n now : ℕ) (ends : method.Outcome) (s : Scene) (due : ℕ × PrCommand) → due_at (Some (s.nodes.node n)) ≡ Some due
    → Readied n s.moments (taking c n now ends input.CommandDue s).moments (due_at (Some (s.nodes.node n))) (due_at (Some ((taking c n now ends input.CommandDue s).nodes.node n)))
readies_so c n now ends s due is =
    let v : Nodes = s.nodes in
    let o : Outcome DiskState = stepped disk_rules c n now ends (v.node n) (v.disk n) input.CommandDue in
    let w : Nodes = moved c v (Takes_in n now ends input.CommandDue) in
    let t : Scene = record s { nodes = w } in
    let cut : CutSo disk_rules c n now ends (v.node n) (v.disk n) input.CommandDue [] o =
    steps_are_cut_so disk_rules disks_keep_rules c n now ends (v.node n) (v.disk n) input.CommandDue in
    let at : (passing n o.given t).nodes.node n ≡ o.after = ap (λ (z : Nodes). z.node n) (passing_nodes n o.given t) ∙ put_here v.node n o.after in
    subst (λ (z : Node). Readied n s.moments (passing n o.given t).moments (due_at (Some (v.node n))) (due_at (Some z))) (sym at)
    (subst (λ os. Readied n s.moments (passing n os t).moments (due_at (Some (v.node n))) (due_at (Some o.after))) cut.comes.given
    (subst
    (λ (z : Site). Readied n s.moments (passing n (given_all c n (site (v.node n) (v.disk n).kept) (doings c n now ends cut.replies input.CommandDue (v.node n))) t).moments
    (due_at (Some (v.node n))) (due_at (Some z.node))) cut.comes.left (by_node (v.node n) t cut.replies cut.losses is)))
  where
    disk : NodeRecord
    disk = (s.nodes.disk n).kept

    by_node : (node : Node) (t : Scene) (replies : List Reply) → AreLosses replies → due_at (Some node) ≡ Some due
        → Readied n t.moments (passing n (given_all c n (site node disk) (doings c n now ends replies input.CommandDue node)) t).moments (due_at (Some node))
        (due_at (Some (after_all c n (site node disk) (doings c n now ends replies input.CommandDue node)).node))
    by_node Down t replies losses none = absurd (none_some due none)
    by_node (Up x) t replies losses some = up_walk c n now ends disk x t replies losses
