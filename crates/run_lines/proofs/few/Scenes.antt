-- What each thing that happens makes of the tasks of nodes, and of what is left.
use Rattle.std.specs.Prelude.{ℕ, ◌+◌, ◌≡◌, ◌≢◌, ◌≤◌, ◌⊎◌, true, false, List, [], ◌∷◌, Option, None, Some, is_some}
use Rattle.std.proofs.Common.{refl, sym, ap, subst, ◌∙◌, inl, inr, arith}
use Rattle.cl_base.specs.declared.method.Outcome as method
use Rattle.cl_base.specs.declared.packet.DropCause.{DropCause}
use Rattle.cmm_attempt.proofs.Basics.{false_true, if_either}
use Rattle.cmm_attempt.specs.Attempts.{AttemptState}
use Rattle.interconnect.specs.Links as links
use Rattle.interconnect.specs.Links.{sending}
use Rattle.machine_base.proofs.Puts.{put_here, put_there, same_or_not}
use Rattle.node_model.specs.Steps.{Outcome, stepped}
use Rattle.node_model.specs.declared.cluster.Cluster.{Cluster}
use Rattle.node_model.specs.declared.input.Input.{Input}
use Rattle.node_model.specs.declared.input.Input.TheVariants as input
use Rattle.node_model.specs.declared.node.Node.{Node}
use Rattle.node_model.specs.declared.node.Node.TheVariants.{Down, Up}
use Rattle.node_model.specs.declared.node.UpNode.{UpNode}
use Rattle.node_model.specs.declared.output.Output.{Output}
use Rattle.node_model.specs.declared.output.Output.TheVariants.{Sends, Tells}
use Rattle.node_model.specs.declared.seat.Seat.{Seat}
use Rattle.node_model.specs.declared.seat.Seat.TheVariants.{Forming, Member}
use Rattle.pgr_device.specs.declared.command.PrCommand.{PrCommand}
use Rattle.pgr_device.specs.declared.command.PrCommand.TheVariants as command
use Rattle.record_disk.specs.Disks.{DiskState}
use Rattle.refinement.proofs.Disks.{disks_keep_rules}
use Rattle.refinement.proofs.Facts.{facts_of, step_may}
use Rattle.refinement.proofs.Replies.{steps_are_cut}
use Rattle.refinement.specs.Cuts.{doings}
use Rattle.refinement.specs.Doings.{Site, site}
use Rattle.refinement.specs.Facts.{JoinsIn, OfSeat}
use Rattle.refinement.specs.Runs.{Nodes, moved}
use Rattle.refinement.specs.Runs.Move.{Takes as Takes_in}
use Rattle.refinement.specs.Steps.{IsCut, disk_rules}
use Rattle.refinement.specs.Ties.{NodeTied}
use Rattle.run_history.proofs.Idle.{passing_nodes}
use Rattle.run_history.specs.Happenings.{Commanded, Happening, MayHappen, armed_by, commanded, given_by, happened, removed, taking}
use Rattle.run_history.specs.Happenings.Happening.{Arrives, Begins, Commands, Loses, Misses, Notes, Refuses, Repeats, Speaks, Strays, Takes, Writes}
use Rattle.run_history.specs.Scenes.{Scene, adding, dropped_so, passing, passing_one, posting, sent_as, telling, with_links}
use Rattle.run_history.specs.Stages.{Sized, Stage}
use Rattle.schedule_text.specs.declared.event.Event.{Event}
use Rattle.schedule_text.specs.declared.event.Event.TheVariants as event
use Rattle.schedule_text.specs.declared.line.Line.TheVariants as line
use Rattle.history.specs.Moment.{Said}
use Rattle.status_report.specs.declared.entry.Entry.TheVariants as entry
use Rattle.status_report.specs.declared.packet_entry.PacketEntry.TheVariants as packet
use Rattle.wire.specs.declared.message.Message.{Message}
use Rattle.wire.specs.Spelling.{spelling}
use Rattle.world_model.specs.Devices.{due_at}
use Rattle.world_model.specs.Sends.{is_sent}
use Rattle.run_lines.specs.few.Counts.{NodeAlone, left_by, left_in, node_left, seizes, word_at}
use Rattle.run_lines.proofs.few.Acts.{NodeTries, Tries}
use Rattle.run_lines.proofs.few.Alone.{all_alone}
use Rattle.run_lines.proofs.few.Steps.{SameTasks, command_less, readied_same, some_left}
use Rattle.run_lines.proofs.few.Words.{command_nodes, command_tells}

-- ---- a step of a node

dropped_devices : (o : Option (ℕ × DropCause)) (s : Scene) → (dropped_so o s).devices ≡ s.devices
dropped_devices None s = refl
dropped_devices (Some d) s = refl

posting_devices : (from to : ℕ) (m : Message) (s : Scene) → (posting from to m s).devices ≡ s.devices
posting_devices from to m s =
    let o : links.Outcome = sending s.links from to (spelling m) in
    if_either (λ (t : Scene). t.devices ≡ s.devices) (is_sent s.links m) (sent_as from to m o s) s (dropped_devices o.sent.dropped _) refl

one_devices : (n : ℕ) (o : Output) (s : Scene) → (passing_one n o s).devices ≡ s.devices
one_devices n (Tells e) s = refl
one_devices n (Sends to b) s = posting_devices n to (record { sender = n; body = b }) s

passing_devices : (n : ℕ) (os : List Output) (s : Scene) → (passing n os s).devices ≡ s.devices
passing_devices n [] s = refl
passing_devices n (o ∷ os) s = passing_devices n os (passing_one n o s) ∙ one_devices n o s

-- it leaves devices and other nodes
taking_devices : (c : Cluster) (n now : ℕ) (ends : method.Outcome) (i : Input) (s : Scene) → (taking c n now ends i s).devices ≡ s.devices
taking_devices c n now ends i s = passing_devices n (given_by c n now ends i s.nodes) (record s { nodes = moved c s.nodes (Takes_in n now ends i) })

taking_nodes : (c : Cluster) (n now : ℕ) (ends : method.Outcome) (i : Input) (s : Scene) → (taking c n now ends i s).nodes ≡ moved c s.nodes (Takes_in n now ends i)
taking_nodes c n now ends i s = passing_nodes n (given_by c n now ends i s.nodes) (record s { nodes = moved c s.nodes (Takes_in n now ends i) })

taking_here : (c : Cluster) (n now : ℕ) (ends : method.Outcome) (i : Input) (s : Scene) → (taking c n now ends i s).nodes.node n ≡ (stepped disk_rules c n now ends (s.nodes.node n) (s.nodes.disk n) i).after
taking_here c n now ends i s =
    ap (λ (v : Nodes). v.node n) (taking_nodes c n now ends i s) ∙ put_here s.nodes.node n (stepped disk_rules c n now ends (s.nodes.node n) (s.nodes.disk n) i).after

taking_there : (c : Cluster) (n now : ℕ) (ends : method.Outcome) (i : Input) (s : Scene) (m : ℕ) → m ≢ n → (taking c n now ends i s).nodes.node m ≡ s.nodes.node m
taking_there c n now ends i s m other =
    ap (λ (v : Nodes). v.node m) (taking_nodes c n now ends i s) ∙ put_there s.nodes.node n (stepped disk_rules c n now ends (s.nodes.node n) (s.nodes.disk n) i).after m other

-- ---- one seizing at most, and one joining

abbrev pub NodesAlone : Scene → Type 0
NodesAlone s = (n : ℕ) → NodeAlone (s.nodes.node n)

step_alone : (c : Cluster) (n now : ℕ) (ends : method.Outcome) (i : Input) (node : Node) (disk : DiskState) → NodeAlone node → NodeAlone (stepped disk_rules c n now ends node disk i).after
step_alone c n now ends i node disk h =
    let o : Outcome DiskState = stepped disk_rules c n now ends node disk i in
    let cut : IsCut disk_rules c n now ends node disk i [] o = steps_are_cut disk_rules disks_keep_rules c n now ends node disk i in
    subst (λ (z : Site). NodeAlone z.node) cut.comes.left (all_alone c n (site node disk.kept) (doings c n now ends cut.replies i node) h)

taking_alone : (c : Cluster) (n now : ℕ) (ends : method.Outcome) (i : Input) (s : Scene) → NodesAlone s → NodesAlone (taking c n now ends i s)
taking_alone c n now ends i s h m = by_number (same_or_not m n)
  where
    by_number : (m ≡ n) ⊎ (m ≢ n) → NodeAlone ((taking c n now ends i s).nodes.node m)
    by_number (inl is) =
        subst (λ k. NodeAlone ((taking c n now ends i s).nodes.node k)) (sym is)
        (subst NodeAlone (sym (taking_here c n now ends i s)) (step_alone c n now ends i (s.nodes.node n) (s.nodes.disk n) (h n)))
    by_number (inr other) = subst NodeAlone (sym (taking_there c n now ends i s m other)) (h m)

commanded_alone : (s : Scene) (n d : ℕ) (k : PrCommand) → NodesAlone s → NodesAlone (commanded s n d k).scene
commanded_alone s n d k h m = subst (λ (v : Nodes). NodeAlone (v.node m)) (sym (command_nodes s n d k)) (h m)

dropped_alone : (o : Option (ℕ × DropCause)) (s : Scene) → NodesAlone s → NodesAlone (dropped_so o s)
dropped_alone None s h = h
dropped_alone (Some d) s h = h

armed_alone : (c : Cluster) (e : Event) (s : Scene) → NodesAlone s → NodesAlone (armed_by c e s)
armed_alone c (event.CrashAt n calls choice) s h = h
armed_alone c (event.Fault n d done) s h = h
armed_alone c _ s h = h

pub happening_alone : (c : Cluster) (s : Scene) (x : Happening) → NodesAlone s → NodesAlone (happened c s x)
happening_alone c s (Speaks e) h = armed_alone c e (adding (Said (line.Event e)) s) h
happening_alone c s (Begins e) h = h
happening_alone c s (Notes e) h = h
happening_alone c s (Takes n now ends i) h = taking_alone c n now ends i s h
happening_alone c s (Arrives number x m now ends) h =
    taking_alone c x.to now ends (input.Packet x.from m) (telling (entry.Packet (packet.Delivered number x.from x.to)) (removed s number)) h
happening_alone c s (Strays number x) h = h
happening_alone c s (Misses number x) h = h
happening_alone c s (Loses number x) h = h
happening_alone c s (Repeats number x) h =
    let o : links.Outcome = sending s.links x.from x.to x.bytes in
    dropped_alone o.sent.dropped (telling (entry.Packet (packet.Repeated number s.links.next)) (with_links s o.after)) h
happening_alone c s (Commands n d k now ends) h = taking_alone c n now ends (input.Answered (commanded s n d k).answer) (commanded s n d k).scene (commanded_alone s n d k h)
happening_alone c s (Writes n d value now ends) h =
    taking_alone c n now ends (input.Wrote d value (commanded s n d (command.Write value)).answer) (commanded s n d (command.Write value)).scene (commanded_alone s n d (command.Write value) h)
happening_alone c s (Refuses n d value cause) h = h

-- ---- attempts are those of calls

tries_in : (o : Option AttemptState) (seat : Seat) → OfSeat o seat → Tries o
tries_in None seat h = tt
tries_in (Some a) (Forming s) h = h.reached
tries_in (Some a) (Member s) h = absurd h

stage_tries : (c : Cluster) (s : Scene) (n : ℕ) (node : Node) → Stage c s → s.nodes.node n ≡ node → NodeTries node
stage_tries c s n Down b is = tt
stage_tries c s n (Up x) b is =
    tries_in x.attempt x.seat (facts_of c b.machine n (s.nodes.disk n).kept x b.holds (subst (λ z. NodeTied c b.machine n (s.nodes.disk n).kept z) is (b.stands n).tied) (subst JoinsIn is (b.stands n).joins)).attempt

-- ---- a command

pub command_left : (c : Cluster) (s : Scene) (n d : ℕ) (k : PrCommand) (now : ℕ) (ends : method.Outcome) → Sized c → Stage c s → NodesAlone s → MayHappen c s (Commands n d k now ends)
    → left_by (happened c s (Commands n d k now ends)) n + 1 ≤ left_by s n
command_left c s n d k now ends sized b alone may =
    let o : Commanded = commanded s n d k in
    let i : Input = input.Answered o.answer in
    let before : ℕ → ℕ = word_at s.devices in
    let after : ℕ → ℕ = word_at o.scene.devices in
    subst (λ ds. node_left (word_at ds) ((taking c n now ends i o.scene).nodes.node n) + 1 ≤ left_by s n) (sym (taking_devices c n now ends i o.scene))
    (subst (λ z. node_left after z + 1 ≤ left_by s n) (sym (taking_here c n now ends i o.scene))
    (subst (λ (v : Nodes). node_left after (stepped disk_rules c n now ends (v.node n) (v.disk n) i).after + 1 ≤ left_by s n) (sym (command_nodes s n d k))
    (command_less c n now ends (s.nodes.node n) (s.nodes.disk n) d k o.answer before after
    (λ replies. step_may c b.machine n now ends (s.nodes.node n) (s.nodes.disk n).kept i replies may.0.1 sized.fits.devices.attached b.holds (b.stands n).tied (b.stands n).joins)
    may.2 (alone n) (stage_tries c s n (s.nodes.node n) b refl) (b.fits.nodes n) (command_tells s n d k))))

-- ---- it readies itself

-- the command is due still, or the node is down
pub record Readied (s t : Scene) (n : ℕ) : Type 0 where
  pub due : is_some (due_at (Some (t.nodes.node n))) ≡ true → left_by t n ≤ left_by s n
  pub none : is_some (due_at (Some (t.nodes.node n))) ≡ false → left_by t n + 1 ≤ left_by s n

record SomeDue (o : Option (ℕ × PrCommand)) : Type 0 where
  device : ℕ
  command : PrCommand
  is : o ≡ Some (device, command)

some_due : (o : Option (ℕ × PrCommand)) → is_some o ≡ true → SomeDue o
some_due None h = absurd (false_true h)
some_due (Some p) h = record { device = p.0; command = p.1; is = refl }

record After (word : ℕ → ℕ) (x : UpNode) (z : Node) : Type 0 where
  due : is_some (due_at (Some z)) ≡ true → node_left word z ≤ node_left word (Up x)
  none : is_some (due_at (Some z)) ≡ false → node_left word z + 1 ≤ node_left word (Up x)

after_same : (word : ℕ → ℕ) (x : UpNode) (z : Node) → is_some (due_at (Some (Up x))) ≡ true → 1 ≤ node_left word (Up x) → SameTasks x z → After word x z
after_same word x Down due some same = record { due = λ h. absurd (false_true h); none = λ h. some }
after_same word x (Up y) due some same = record {
  due = λ h. at_most (left_in word (seizes y.attempt) y.tasks) (left_in word (seizes x.attempt) x.tasks) (ap (λ o. left_in word (seizes o) y.tasks) same.1 ∙ ap (λ ts. left_in word (seizes x.attempt) ts) same.0);
  none = λ h. absurd (false_true (sym h ∙ (still ∙ due)));
}
  where
    at_most : (a b : ℕ) → a ≡ b → a ≤ b
    at_most a b e = omega (arith, e)

    still : is_some (due_at (Some (Up y))) ≡ is_some (due_at (Some (Up x)))
    still = ap (λ ts. is_some (due_at (Some (Up (record x { tasks = ts }))))) same.0

ready_node : (c : Cluster) (n now : ℕ) (ends : method.Outcome) (node : Node) (disk : DiskState) (word : ℕ → ℕ) (x : UpNode) → node ≡ Up x → is_some (due_at (Some node)) ≡ true → 1 ≤ node_left word node
    → After word x (stepped disk_rules c n now ends node disk input.CommandDue).after
ready_node c n now ends Down disk word x is due some = absurd (false_true due)
ready_node c n now ends (Up y) disk word x is due some =
    subst (λ z. is_some (due_at (Some z)) ≡ true → 1 ≤ node_left word z → After word x (stepped disk_rules c n now ends z disk input.CommandDue).after) (sym is)
    (λ d l. after_same word x (stepped disk_rules c n now ends (Up x) disk input.CommandDue).after d l (readied_same c n now ends x disk)) due some

pub ready_left : (c : Cluster) (s : Scene) (n now : ℕ) (ends : method.Outcome) → Stage c s → NodesAlone s → is_some (due_at (Some (s.nodes.node n))) ≡ true
    → Readied s (taking c n now ends input.CommandDue s) n
ready_left c s n now ends b alone due = by_node (s.nodes.node n) refl
  where
    t : Scene
    t = taking c n now ends input.CommandDue s

    word : ℕ → ℕ
    word = word_at s.devices

    first : SomeDue (due_at (Some (s.nodes.node n)))
    first = some_due (due_at (Some (s.nodes.node n))) due

    some : 1 ≤ left_by s n
    some = some_left c n word (s.nodes.node n) first.device first.command first.is (alone n) (b.fits.nodes n)

    of_after : (x : UpNode) → s.nodes.node n ≡ Up x → After word x (t.nodes.node n) → Readied s t n
    of_after x is a = record {
      due = λ h. subst (λ ds. node_left (word_at ds) (t.nodes.node n) ≤ left_by s n) (sym (taking_devices c n now ends input.CommandDue s)) (subst (λ z. node_left word (t.nodes.node n) ≤ node_left word z) (sym is) (a.due h));
      none = λ h. subst (λ ds. node_left (word_at ds) (t.nodes.node n) + 1 ≤ left_by s n) (sym (taking_devices c n now ends input.CommandDue s)) (subst (λ z. node_left word (t.nodes.node n) + 1 ≤ node_left word z) (sym is) (a.none h));
    }

    by_node : (node : Node) → s.nodes.node n ≡ node → Readied s t n
    by_node Down is = absurd (false_true (sym (ap (λ z. is_some (due_at (Some z))) is) ∙ due))
    by_node (Up x) is =
        of_after x is (subst (λ z. After word x z) (sym (taking_here c n now ends input.CommandDue s)) (ready_node c n now ends (s.nodes.node n) (s.nodes.disk n) word x is due some))
