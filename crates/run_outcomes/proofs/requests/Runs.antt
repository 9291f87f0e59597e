-- In each run a request to seize is of the last attempt of its sender, and this, each Collect and each Install goes to another node.
use Rattle.std.specs.Prelude.{ℕ, ◌-◌, ◌≡◌, ◌≤◌, nat_le, true, List, [], ◌∷◌, Option, None, Some, length, slice_get}
use Rattle.std.proofs.Common.{arith, refl, sym, subst, ◌∙◌}
use Rattle.attempt_laws.proofs.Walk.{if_with}
use Rattle.cl_base.specs.declared.header.Header.{Header}
use Rattle.cl_base.specs.declared.method.Outcome as method
use Rattle.cl_base.specs.declared.packet.DropCause.{DropCause}
use Rattle.cmm_attempt.proofs.Basics.{and_cases, if_either, same_some}
use Rattle.cmm_attempt.specs.Attempts.{AttemptState}
use Rattle.history.specs.Member.{attempt_of}
use Rattle.history.specs.Moment.{Moment, Said, Told}
use Rattle.history.specs.Names.{named}
use Rattle.history.specs.Order.{Always}
use Rattle.interconnect.specs.Links.{sending}
use Rattle.interconnect.specs.Links as links
use Rattle.membership_machine.specs.State.{Memberships}
use Rattle.node_model.specs.Steps.{Outcome, stepped}
use Rattle.node_model.specs.declared.cluster.Cluster.{Cluster}
use Rattle.node_model.specs.declared.input.Input.{Input}
use Rattle.node_model.specs.declared.input.Input.TheVariants as input
use Rattle.node_model.specs.declared.node.Node.{Node}
use Rattle.node_model.specs.declared.node.Node.TheVariants.{Down, Up}
use Rattle.node_model.specs.declared.node.UpNode.{UpNode}
use Rattle.node_model.specs.declared.output.Output.{Output}
use Rattle.node_model.specs.declared.output.Output.TheVariants.{Sends, Tells}
use Rattle.pgr_device.specs.Device.{Device}
use Rattle.pgr_device.specs.declared.command.PrCommand.{PrCommand}
use Rattle.pgr_device.specs.declared.command.PrCommand.TheVariants as command
use Rattle.record_disk.specs.Disks.{DiskState}
use Rattle.refinement.proofs.Disks.{disks_keep_rules}
use Rattle.refinement.proofs.Facts.{step_may}
use Rattle.refinement.proofs.Handlers.{delivered_by}
use Rattle.refinement.proofs.Replies.{steps_are_cut}
use Rattle.refinement.proofs.node_widths.Lengths.{sent_messages_fit}
use Rattle.refinement.specs.Cuts.{doings}
use Rattle.refinement.specs.Doings.{Doing, Site}
use Rattle.refinement.specs.Guards.{MayAll}
use Rattle.refinement.specs.Runs.{Nodes, moved}
use Rattle.refinement.specs.Runs.Move.{Takes as Takes_in}
use Rattle.refinement.specs.Steps.{IsCut, disk_rules}
use Rattle.refinement.specs.Widths.{LetterFits}
use Rattle.run_history.proofs.Courses.{doings_so}
use Rattle.run_history.specs.Happenings.{Commanded, Happening, MayHappen, armed_by, commanded, commanded_at, given_by, happened, removed, taking}
use Rattle.run_history.specs.Happenings.Happening.{Arrives, Begins, Commands, Loses, Misses, Notes, Refuses, Repeats, Speaks, Strays, Takes, Writes}
use Rattle.run_history.specs.Scenes.{Scene, adding, dropped_so, first_scene, passing, posting, sent_as, telling, with_links}
use Rattle.run_history.specs.Stages.{Sized, Stage, site_of}
use Rattle.run_messages.proofs.Reaching.{IsReached, IsSmall, holds_of_each, stage_of, taking_good}
use Rattle.run_messages.proofs.records.Sizes.{header_sized}
use Rattle.run_messages.specs.Outputs.{AreGood, NoPacket}
use Rattle.run_seizings.proofs.Steps.{Ground, ground_of}
use Rattle.schedule_text.specs.declared.event.Event.{Event}
use Rattle.schedule_text.specs.declared.event.Event.TheVariants as event
use Rattle.schedule_text.specs.declared.line.Line.TheVariants as line
use Rattle.status_report.specs.declared.attempt_entry.AttemptEntry.{AttemptEntry}
use Rattle.status_report.specs.declared.attempt_entry.AttemptEntry.TheVariants as attempt
use Rattle.status_report.specs.declared.entry.Entry.{Entry}
use Rattle.status_report.specs.declared.entry.Entry.TheVariants as entry
use Rattle.status_report.specs.declared.packet_entry.PacketEntry.TheVariants as packet
use Rattle.wire.proofs.Messages.{whole_again}
use Rattle.wire.specs.Reads.{whole_of}
use Rattle.wire.specs.Spelling.{Fits, IsNode, spelling}
use Rattle.wire.specs.declared.message.Body.{Body}
use Rattle.wire.specs.declared.message.Body.TheVariants as body
use Rattle.wire.specs.declared.message.Message.{Message}
use Rattle.world_model.specs.First.{first_cluster}
use Rattle.world_model.specs.Sends.{is_sent, name_of}
use Rattle.run_outcomes.proofs.own_tasks.Grounds.{Ground as Held, ground_at}
use Rattle.run_outcomes.proofs.phases.Leading.{Has}
use Rattle.run_outcomes.proofs.requests.Courses.{doings_from}
use Rattle.run_outcomes.proofs.requests.Doings.{all_ask}
use Rattle.run_outcomes.specs.phases.Kept.{In}
use Rattle.run_outcomes.specs.reports.Laws.{AsksFor, AsksSo, IsToOther, RequestsAreOfAttempts}
use Rattle.run_outcomes.specs.reports.Requests.{BodyAsks, IsLast, OutsAsk, last_by}
use Rattle.run_outcomes.specs.saves.Kept.{IsAt}

-- ---- lines

abbrev AllAsk : List Moment → Type 0
AllAsk moments = Always AsksSo moments

size : (k : ℕ) → nat_le k 131072 ≡ true → k ≤ 131072
size k e = grind arith

asks_for : (ms : List Moment) (n to : ℕ) (b : Body) → BodyAsks n (attempt_of n ms) to b → AsksFor ms n b
asks_for ms n to (body.SeizeQuorum e members d) h = h.0
asks_for ms n to (body.SeizeData e members d) h = h.0
asks_for ms n to _ h = tt

to_other : (o : Option ℕ) (n to : ℕ) (b : Body) → BodyAsks n o to b → IsToOther n to (named (name_of b))
to_other o n to (body.SeizeQuorum e members d) h = h.1
to_other o n to (body.SeizeData e members d) h = h.1
to_other o n to (body.Install i) h = h
to_other o n to (body.Heartbeat promised session is_one) h = tt
to_other o n to (body.Collect e members) h = h
to_other o n to (body.Promise e newest members valid flagged committed pending) h = tt
to_other o n to (body.Nack e promised) h = tt
to_other o n to (body.Seized e d outcome) h = tt
to_other o n to (body.Ready e joined report) h = tt
to_other o n to (body.Start e) h = tt
to_other o n to (body.Prepare e place text) h = tt
to_other o n to (body.Prepared e place) h = tt
to_other o n to (body.Commit e place) h = tt
to_other o n to (body.Order order) h = tt
to_other o n to (body.Done e number outcome) h = tt
to_other o n to (body.Request e number text) h = tt
to_other o n to (body.Answer e number text) h = tt
to_other o n to (body.Excluded e newest) h = tt

read_for : (ms : List Moment) (n : ℕ) (b : Body) → Fits (record { sender = n; body = b }) → AsksFor ms n b → (m : Message) → whole_of (spelling (record { sender = n; body = b })) ≡ Some m → AsksFor ms n m.body
read_for ms n b fits so m is = subst (λ (z : Message). AsksFor ms n z.body) (same_some _ m (sym (whole_again (record { sender = n; body = b }) fits) ∙ is)) so

dropped_ask : (o : Option (ℕ × DropCause)) (s : Scene) → AllAsk s.moments → AllAsk (dropped_so o s).moments
dropped_ask None s h = h
dropped_ask (Some drop) s h = (tt, h)

posting_ask : (n to : ℕ) (b : Body) (s : Scene) → LetterFits (record { from = n; body = b }) → BodyAsks n (attempt_of n s.moments) to b → AllAsk s.moments → AllAsk (posting n to (record { sender = n; body = b }) s).moments
posting_ask n to b s fits asks h =
    let m : Message = record { sender = n; body = b } in
    let o : links.Outcome = sending s.links n to (spelling m) in
    if_with (λ (t : Scene). AllAsk t.moments) (is_sent s.links m) (is_sent s.links m) (sent_as n to m o s) s refl
    (λ e. dropped_ask o.sent.dropped (telling (entry.Packet (packet.Sent s.links.next n to (name_of m.body) (spelling m))) (with_links s o.after))
    ((to_other (attempt_of n s.moments) n to b asks, read_for s.moments n b (sent_messages_fit m fits.0 fits.1 (size (length (spelling m)) (and_cases _ _ e).0)) (asks_for s.moments n to b asks)), h))
    (λ e. h)

dropped_last : (n : ℕ) (o : Option (ℕ × DropCause)) (s : Scene) → attempt_of n (dropped_so o s).moments ≡ attempt_of n s.moments
dropped_last n None s = refl
dropped_last n (Some drop) s = refl

posting_last : (n from to : ℕ) (m : Message) (s : Scene) → attempt_of n (posting from to m s).moments ≡ attempt_of n s.moments
posting_last n from to m s =
    let o : links.Outcome = sending s.links from to (spelling m) in
    if_either (λ (t : Scene). attempt_of n t.moments ≡ attempt_of n s.moments) (is_sent s.links m) (sent_as from to m o s) s
    (dropped_last n o.sent.dropped (telling (entry.Packet (packet.Sent s.links.next from to (name_of m.body) (spelling m))) (with_links s o.after))) refl

attempt_last : (n : ℕ) (e : AttemptEntry) (ms : List Moment) → attempt_of n (Told (entry.Attempt e) ∷ ms) ≡ last_by n (attempt_of n ms) (Tells (entry.Attempt e))
attempt_last n (attempt.Begun e members) ms = refl
attempt_last n _ ms = refl

line_last : (n : ℕ) (e : Entry) (ms : List Moment) → attempt_of n (Told e ∷ ms) ≡ last_by n (attempt_of n ms) (Tells e)
line_last n (entry.Attempt e) ms = attempt_last n e ms
line_last n _ ms = refl

told_ask : (e : Entry) (ms : List Moment) → NoPacket e → AllAsk ms → AllAsk (Told e ∷ ms)
told_ask (entry.Packet e) ms plain h = absurd plain
told_ask _ ms plain h = (tt, h)

passing_ask : (n : ℕ) (os : List Output) (s : Scene) → AreGood n os → OutsAsk n (attempt_of n s.moments) os → AllAsk s.moments → AllAsk (passing n os s).moments
passing_ask n [] s good asks h = h
passing_ask n (Tells e ∷ os) s good asks h =
    passing_ask n os (telling e s) good.1 (subst (λ o. OutsAsk n o os) (sym (line_last n e s.moments)) asks.1) (told_ask e s.moments good.0 h)
passing_ask n (Sends to b ∷ os) s good asks h =
    let m : Message = record { sender = n; body = b } in
    passing_ask n os (posting n to m s) good.1 (subst (λ o. OutsAsk n o os) (sym (posting_last n n to m s)) asks.1) (posting_ask n to b s good.0 asks.0 h)

-- ---- a step

-- the attempt that each node has is the last that it began
abbrev AllLast : Scene → Type 0
AllLast s = (n : ℕ) → IsAt (Has (IsLast n (attempt_of n s.moments))) (s.nodes.node n)

step_ask : (c : Cluster) (n now : ℕ) (ends : method.Outcome) (i : Input) (s : Scene) → Sized c → Ground c s.nodes → IsNode n → AreGood n (given_by c n now ends i s.nodes)
    → IsAt (Has (IsLast n (attempt_of n s.moments))) (s.nodes.node n) → AllAsk s.moments → AllAsk (taking c n now ends i s).moments
step_ask c n now ends i s sized b is good last k =
    let v : Nodes = s.nodes in
    let M : Memberships = b.machine in
    let o : Outcome DiskState = stepped disk_rules c n now ends (v.node n) (v.disk n) i in
    let cut : IsCut disk_rules c n now ends (v.node n) (v.disk n) i [] o = steps_are_cut disk_rules disks_keep_rules c n now ends (v.node n) (v.disk n) i in
    let x : Site = site_of v n in
    let small : List Doing = doings c n now ends cut.replies i (v.node n) in
    let may : MayAll c n (delivered_by i) x small =
    step_may c M n now ends (v.node n) (v.disk n).kept i cut.replies is.1 sized.fits.devices.attached b.holds (b.stands n).tied (b.stands n).joins in
    passing_ask n o.given (record s { nodes = moved c v (Takes_in n now ends i) }) good
    (subst (OutsAsk n (attempt_of n s.moments)) cut.comes.given
    (all_ask c n (delivered_by i) x (attempt_of n s.moments) None small may (doings_so c n now ends cut.replies i (v.node n)) (doings_from c n now ends cut.replies i (v.node n)) last tt)) k

-- ---- each thing that happens

armed_ask : (c : Cluster) (e : Event) (s : Scene) → AllAsk s.moments → AllAsk (armed_by c e s).moments
armed_ask c (event.CrashAt n calls choice) s k = k
armed_ask c (event.Fault n d done) s k = k
armed_ask c _ s k = k

-- what a command at a device leaves
record Left (c : Cluster) (s : Scene) (o : Commanded) : Type 0 where
  so : AllAsk o.scene.moments
  ground : Ground c o.scene.nodes
  last : AllLast o.scene

left_at : (c : Cluster) (s : Scene) (n d : ℕ) (k : PrCommand) (o : Option Device) → Ground c s.nodes → AllLast s → AllAsk s.moments → Left c s (commanded_at s n d o k)
left_at c s n d k None g last z = record { so = z; ground = g; last = last }
left_at c s n d k (Some x) g last z = record { so = z; ground = g; last = last }

happening_ask : (h : Header) (s : Scene) (x : Happening) → MayHappen (first_cluster h) s x → Sized (first_cluster h) → Stage (first_cluster h) s → Stage (first_cluster h) (happened (first_cluster h) s x)
    → AllLast s → AllAsk s.moments → AllAsk (happened (first_cluster h) s x).moments
happening_ask h s (Speaks e) may sized b more last k = armed_ask (first_cluster h) e (adding (Said (line.Event e)) s) (tt, k)
happening_ask h s (Begins e) may sized b more last k = (tt, k)
happening_ask h s (Notes e) may sized b more last k = (tt, k)
happening_ask h s (Takes n now ends i) may sized b more last k =
    let c : Cluster = first_cluster h in
    step_ask c n now ends i s sized (ground_of c s b) may.0 (taking_good c s n now ends i more) (last n) k
happening_ask h s (Arrives number x m now ends) may sized b more last k =
    let c : Cluster = first_cluster h in
    let t : Scene = telling (entry.Packet (packet.Delivered number x.from x.to)) (removed s number) in
    step_ask c x.to now ends (input.Packet x.from m) t sized (ground_of c s b) may.3 (taking_good c t x.to now ends (input.Packet x.from m) more) (last x.to) (tt, k)
happening_ask h s (Strays number x) may sized b more last k = (tt, k)
happening_ask h s (Misses number x) may sized b more last k = (tt, k)
happening_ask h s (Loses number x) may sized b more last k = (tt, k)
happening_ask h s (Repeats number x) may sized b more last k =
    let o : links.Outcome = sending s.links x.from x.to x.bytes in
    dropped_ask o.sent.dropped (telling (entry.Packet (packet.Repeated number s.links.next)) (with_links s o.after)) (tt, k)
happening_ask h s (Commands n d q now ends) may sized b more last k =
    let c : Cluster = first_cluster h in
    let o : Commanded = commanded s n d q in
    let l : Left c s o = left_at c s n d q (slice_get s.devices (d - 1)) (ground_of c s b) last k in
    step_ask c n now ends (input.Answered o.answer) o.scene sized l.ground may.0 (taking_good c o.scene n now ends (input.Answered o.answer) more) (l.last n) l.so
happening_ask h s (Writes n d value now ends) may sized b more last k =
    let c : Cluster = first_cluster h in
    let o : Commanded = commanded s n d (command.Write value) in
    let l : Left c s o = left_at c s n d (command.Write value) (slice_get s.devices (d - 1)) (ground_of c s b) last k in
    step_ask c n now ends (input.Wrote d value o.answer) o.scene sized l.ground may.0 (taking_good c o.scene n now ends (input.Wrote d value o.answer) more) (l.last n) l.so
happening_ask h s (Refuses n d value cause) may sized b more last k = (tt, k)

-- ---- runs

all_last : (h : Header) (cells : ℕ) (s : Scene) → IsSmall h → IsReached h cells s → AllLast s
all_last h cells s size r n = by_node (s.nodes.node n) refl
  where
    by_attempt : (x : UpNode) → s.nodes.node n ≡ Up x → (o : Option AttemptState) → x.attempt ≡ o → In (IsLast n (attempt_of n s.moments)) o
    by_attempt x up None is = tt
    by_attempt x up (Some a) is = let g : Held h s n x a = ground_at h cells s n x a size r up is in (g.so.last, g.coordinator)

    by_node : (node : Node) → s.nodes.node n ≡ node → IsAt (Has (IsLast n (attempt_of n s.moments))) node
    by_node Down is = tt
    by_node (Up x) is = by_attempt x is x.attempt refl

first_ask : (h : Header) (cells : ℕ) → AllAsk (first_scene h cells).moments
unfolding first_scene
first_ask h cells = tt

pub requests_are_of_attempts : RequestsAreOfAttempts
requests_are_of_attempts h cells hs few small may = holds_of_each h cells (λ s. AllAsk s.moments) kept (first_ask h cells) hs may
  where
    size_so : IsSmall h
    size_so = record { few = few; small = small }

    kept : (s : Scene) (x : Happening) → MayHappen (first_cluster h) s x → IsReached h cells s → IsReached h cells (happened (first_cluster h) s x) → AllAsk s.moments → AllAsk (happened (first_cluster h) s x).moments
    kept s x now at more k =
        happening_ask h s x now (header_sized h few small) (stage_of h cells s size_so at) (stage_of h cells (happened (first_cluster h) s x) size_so more) (all_last h cells s size_so at) k
