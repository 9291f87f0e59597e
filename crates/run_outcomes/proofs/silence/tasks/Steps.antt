-- What a step tells brings a node no task of its own, but for the first line where a packet comes to it, or its command at a device is answered.
use Rattle.std.specs.Prelude.{ℕ, ◌-◌, ◌≡◌, ◌≢◌, ◌⊎◌, true, List, [], ◌∷◌, Option, None, Some, slice_get}
use Rattle.std.specs.List.{AllByRecursion}
use Rattle.std.proofs.Common.{refl, sym, ap, subst, ◌∙◌, inl, inr}
use Rattle.cl_base.specs.declared.method.Outcome as method
use Rattle.cl_base.specs.declared.packet.DropCause.{DropCause}
use Rattle.cmm_attempt.proofs.Basics.{none_some}
use Rattle.history.specs.Moment.{Moment, Said, Part, Told}
use Rattle.history.specs.Queue.{is_write}
use Rattle.interconnect.specs.Links as net
use Rattle.interconnect.specs.Links.{Packet, sending}
use Rattle.node_model.specs.Devices.{answer_told}
use Rattle.node_model.specs.declared.cluster.Cluster.{Cluster}
use Rattle.node_model.specs.declared.input.Input.{Input}
use Rattle.node_model.specs.declared.input.Input.TheVariants as input
use Rattle.node_model.specs.declared.node.Node.{Node}
use Rattle.node_model.specs.declared.node.Node.TheVariants.{Down, Up}
use Rattle.node_model.specs.declared.output.Output.{Output}
use Rattle.node_model.specs.declared.output.Output.TheVariants.{Sends, Tells}
use Rattle.pgr_device.specs.Device.{Device}
use Rattle.pgr_device.specs.declared.command.PrCommand.{PrCommand}
use Rattle.pgr_device.specs.declared.command.PrCommand.TheVariants as command
use Rattle.refinement.specs.Runs.{moved}
use Rattle.refinement.specs.Runs.Move.{Takes as Takes_in}
use Rattle.run_history.proofs.DevicesRun.{packet_quiet, plain_quiet}
use Rattle.run_history.proofs.LineSteps.{commands_are_told}
use Rattle.run_history.specs.CommandLines.{AllQuiet, CommandFirst, IsQuiet, NodeTells, TellsDue}
use Rattle.run_history.specs.Happenings.{Happening, IsPlain, MayHappen, armed_by, commanded, given_by, happened, removed, taking}
use Rattle.run_history.specs.Happenings.Happening.{Arrives, Begins, Commands, Loses, Misses, Notes, Refuses, Repeats, Speaks, Strays, Takes, Writes}
use Rattle.run_history.specs.Scenes.{Scene, adding, dropped_so, passing, telling, with_links}
use Rattle.run_lines.proofs.Adds.{onto}
use Rattle.schedule_text.specs.declared.event.Event.{Event}
use Rattle.schedule_text.specs.declared.event.Event.TheVariants as event
use Rattle.schedule_text.specs.declared.line.Line.TheVariants as line
use Rattle.seize.specs.Answers.{Answer}
use Rattle.status_report.specs.declared.device_entry.DeviceEntry.TheVariants as device_entry
use Rattle.status_report.specs.declared.entry.Entry.{Entry}
use Rattle.status_report.specs.declared.entry.Entry.TheVariants as entry
use Rattle.status_report.specs.declared.packet_entry.PacketEntry.TheVariants as packet
use Rattle.wire.specs.declared.message.Message.{Message}
use Rattle.world_model.specs.Devices.{due_at}
use Rattle.history.specs.Trace.{delivered}
use Rattle.run_outcomes.proofs.reports.Disks.{commanded_nodes}
use Rattle.run_outcomes.proofs.shown.HeardRuns.{commanded_moments}
use Rattle.run_outcomes.proofs.silence.GivenLines.{LineOf, Lined, given_lined}
use Rattle.run_outcomes.proofs.silence.tasks.Lines.{NoTask}

-- ---- what a node gives

quiet_line : (n : ℕ) (e : Entry) → IsQuiet e → NoTask n (Told e)
quiet_line n (entry.Device (device_entry.Command m d k a)) h = absurd h
quiet_line n (entry.Packet e) h = absurd h
quiet_line n _ h = tt

quiet_lines : (n : ℕ) (os : List Output) → AllQuiet os → AllByRecursion (LineOf (λ x. NoTask n x)) os
quiet_lines n [] h = tt
quiet_lines n (Tells e ∷ os) h = (quiet_line n e h.0, quiet_lines n os h.1)
quiet_lines n (Sends to b ∷ os) h = ((λ p a k bytes. tt), quiet_lines n os h.1)

pub quiet_given : (n m : ℕ) (os : List Output) (s : Scene) → AllQuiet os → Lined (λ x. NoTask n x) s.moments (passing m os s).moments
quiet_given n m os s h = given_lined (λ x. NoTask n x) (λ p cause. tt) m os s (quiet_lines n os h)

pub quiet_taken : (c : Cluster) (n m now : ℕ) (ends : method.Outcome) (i : Input) (u : Scene) → AllQuiet (given_by c m now ends i u.nodes) → Lined (λ x. NoTask n x) u.moments (taking c m now ends i u).moments
quiet_taken c n m now ends i u h = quiet_given n m (given_by c m now ends i u.nodes) (record u { nodes = moved c u.nodes (Takes_in m now ends i) }) h

tells : (c : Cluster) (m now : ℕ) (ends : method.Outcome) (i : Input) (u : Scene) → NodeTells m (u.nodes.node m) i (given_by c m now ends i u.nodes)
tells c m now ends i u = commands_are_told c m now ends (u.nodes.node m) (u.nodes.disk m) i

pub plain_taken : (c : Cluster) (n m now : ℕ) (ends : method.Outcome) (i : Input) (u : Scene) → IsPlain i → Lined (λ x. NoTask n x) u.moments (taking c m now ends i u).moments
plain_taken c n m now ends i u plain = quiet_taken c n m now ends i u (plain_quiet m (u.nodes.node m) i (given_by c m now ends i u.nodes) plain (tells c m now ends i u))

-- a command's line first
pub record Begun (n : ℕ) (mark : Moment) (before after : List Moment) : Type 0 where
  pub rest : List Moment
  pub is : onto (mark ∷ rest) before ≡ after
  pub are : AllByRecursion (λ x. NoTask n x) rest

command_begun : (n m d : ℕ) (q : PrCommand) (a : Answer) (os : List Output) (s : Scene) → CommandFirst m d q a os
    → Begun n (Told (entry.Device (device_entry.Command m d q (answer_told a)))) s.moments (passing m os s).moments
command_begun n m d q a os s h =
    let l : Lined (λ x. NoTask n x) (Told (entry.Device (device_entry.Command m d q (answer_told a))) ∷ s.moments) (passing m h.others (telling (entry.Device (device_entry.Command m d q (answer_told a))) s)).moments
    = quiet_given n m h.others (telling (entry.Device (device_entry.Command m d q (answer_told a))) s) h.quiet in
    record { rest = l.xs; is = l.is ∙ ap (λ zs. (passing m zs s).moments) (sym h.first); are = l.are }

begun_lined : (n m d : ℕ) (q : PrCommand) (a : Answer) (before after : List Moment) → (m ≢ n) ⊎ (is_write q ≡ true) → Begun n (Told (entry.Device (device_entry.Command m d q (answer_told a)))) before after
    → Lined (λ x. NoTask n x) before after
begun_lined n m d q a before after off b = record { xs = Told (entry.Device (device_entry.Command m d q (answer_told a))) ∷ b.rest; is = b.is; are = (off, b.are) }

-- ---- at a device

pub command_taken : (c : Cluster) (n m d now : ℕ) (ends : method.Outcome) (q : PrCommand) (a : Answer) (u : Scene) → due_at (Some (u.nodes.node m)) ≡ Some (d, q)
    → Begun n (Told (entry.Device (device_entry.Command m d q (answer_told a)))) u.moments (taking c m now ends (input.Answered a) u).moments
command_taken c n m d now ends q a u due = command_begun n m d q a os (record u { nodes = moved c u.nodes (Takes_in m now ends (input.Answered a)) }) (by_node (u.nodes.node m) due (tells c m now ends (input.Answered a) u))
  where
    os : List Output
    os = given_by c m now ends (input.Answered a) u.nodes

    by_node : (node : Node) → due_at (Some node) ≡ Some (d, q) → NodeTells m node (input.Answered a) os → CommandFirst m d q a os
    by_node Down none t = absurd (none_some (d, q) none)
    by_node (Up x) is t = subst (λ o. TellsDue m a o os) is t

pub write_taken : (c : Cluster) (n m d value now : ℕ) (ends : method.Outcome) (a : Answer) (u : Scene) → Lined (λ x. NoTask n x) u.moments (taking c m now ends (input.Wrote d value a) u).moments
write_taken c n m d value now ends a u = by_node (u.nodes.node m) (tells c m now ends (input.Wrote d value a) u)
  where
    os : List Output
    os = given_by c m now ends (input.Wrote d value a) u.nodes

    w : Scene
    w = record u { nodes = moved c u.nodes (Takes_in m now ends (input.Wrote d value a)) }

    by_node : (node : Node) → NodeTells m node (input.Wrote d value a) os → Lined (λ x. NoTask n x) u.moments (passing m os w).moments
    by_node Down t = quiet_given n m os w t
    by_node (Up x) t = begun_lined n m d (command.Write value) a u.moments (passing m os w).moments (inr refl) (command_begun n m d (command.Write value) a os w t)

-- ---- each thing that happens

one_lined : (n : ℕ) (x : Moment) (ms : List Moment) → NoTask n x → Lined (λ z. NoTask n z) ms (x ∷ ms)
one_lined n x ms h = record { xs = x ∷ []; is = refl; are = (h, tt) }

armed_lined : (c : Cluster) (e : Event) (s : Scene) (n : ℕ) → Lined (λ z. NoTask n z) s.moments (armed_by c e (adding (Said (line.Event e)) s)).moments
armed_lined c (event.Fault m d done) s n = one_lined n (Said (line.Event (event.Fault m d done))) s.moments tt
armed_lined c (event.CrashAt m calls choice) s n = one_lined n (Said (line.Event (event.CrashAt m calls choice))) s.moments tt
armed_lined c e s n = one_lined n (Said (line.Event e)) s.moments tt

dropped_lined : (n : ℕ) (x : Moment) (o : Option (ℕ × DropCause)) (ms : List Moment) (u : Scene) → u.moments ≡ x ∷ ms → NoTask n x → Lined (λ z. NoTask n z) ms (dropped_so o u).moments
dropped_lined n x None ms u is h = record { xs = x ∷ []; is = sym is; are = (h, tt) }
dropped_lined n x (Some z) ms u is h = record { xs = x ∷ Told (entry.Packet (packet.Dropped z.0 z.1)) ∷ []; is = ap (λ ns. Told (entry.Packet (packet.Dropped z.0 z.1)) ∷ ns) (sym is); are = (h, (tt, tt)) }

-- neither does a packet come to the node in it, nor is its command answered
abbrev pub Besides : ℕ → Happening → Type 0
Besides n (Arrives number p m now ends) = p.to ≢ n
Besides n (Strays number p) = p.to ≢ n
Besides n (Commands m d q now ends) = m ≢ n
Besides n _ = Unit {0}

arrival_lined : (c : Cluster) (n number now : ℕ) (ends : method.Outcome) (s : Scene) (p : Packet) (m : Message) → p.to ≢ n
    → Lined (λ z. NoTask n z) s.moments (happened c s (Arrives number p m now ends)).moments
arrival_lined c n number now ends s p m ne =
    let u : Scene = telling (entry.Packet (packet.Delivered number p.from p.to)) (removed s number) in
    let i : Input = input.Packet p.from m in
    let l : Lined (λ z. NoTask n z) u.moments (taking c p.to now ends i u).moments = quiet_taken c n p.to now ends i u (packet_quiet p.to (u.nodes.node p.to) p.from m (given_by c p.to now ends i u.nodes) (tells c p.to now ends i u)) in
    record { xs = delivered number p.from p.to ∷ l.xs; is = l.is; are = (ne, l.are) }

pub arrival_begun : (c : Cluster) (number now : ℕ) (ends : method.Outcome) (s : Scene) (p : Packet) (m : Message)
    → Begun p.to (delivered number p.from p.to) s.moments (happened c s (Arrives number p m now ends)).moments
arrival_begun c number now ends s p m =
    let u : Scene = telling (entry.Packet (packet.Delivered number p.from p.to)) (removed s number) in
    let i : Input = input.Packet p.from m in
    let l : Lined (λ z. NoTask p.to z) u.moments (taking c p.to now ends i u).moments = quiet_taken c p.to p.to now ends i u (packet_quiet p.to (u.nodes.node p.to) p.from m (given_by c p.to now ends i u.nodes) (tells c p.to now ends i u)) in
    record { rest = l.xs; is = l.is; are = l.are }

pub commands_begun : (c : Cluster) (n m d now : ℕ) (ends : method.Outcome) (q : PrCommand) (s : Scene) → MayHappen c s (Commands m d q now ends)
    → Begun n (Told (entry.Device (device_entry.Command m d q (answer_told (commanded s m d q).answer)))) s.moments (happened c s (Commands m d q now ends)).moments
commands_begun c n m d now ends q s may =
    let o : Option Device = slice_get s.devices (d - 1) in
    let u : Scene = (commanded s m d q).scene in
    let b : Begun n (Told (entry.Device (device_entry.Command m d q (answer_told (commanded s m d q).answer)))) u.moments (taking c m now ends (input.Answered (commanded s m d q).answer) u).moments
    = command_taken c n m d now ends q (commanded s m d q).answer u (ap (λ v. due_at (Some (v.node m))) (commanded_nodes s m d o q) ∙ may.2) in
    subst (λ ms. Begun n (Told (entry.Device (device_entry.Command m d q (answer_told (commanded s m d q).answer)))) ms (happened c s (Commands m d q now ends)).moments) (commanded_moments s m d o q) b

pub besides_lined : (c : Cluster) (s : Scene) (x : Happening) (n : ℕ) → MayHappen c s x → Besides n x → Lined (λ z. NoTask n z) s.moments (happened c s x).moments
besides_lined c s (Speaks e) n may off = armed_lined c e s n
besides_lined c s (Begins e) n may off = one_lined n (Part e) s.moments tt
besides_lined c s (Notes e) n may off = one_lined n (Told (entry.Schedule e)) s.moments tt
besides_lined c s (Takes m now ends i) n may off = plain_taken c n m now ends i s may.1
besides_lined c s (Arrives number p m now ends) n may off = arrival_lined c n number now ends s p m off
besides_lined c s (Strays number p) n may off = one_lined n (delivered number p.from p.to) s.moments off
besides_lined c s (Misses number p) n may off = one_lined n _ s.moments tt
besides_lined c s (Loses number p) n may off = one_lined n _ s.moments tt
besides_lined c s (Repeats number p) n may off =
    let o : net.Outcome = sending s.links p.from p.to p.bytes in
    dropped_lined n (Told (entry.Packet (packet.Repeated number s.links.next))) o.sent.dropped s.moments (telling (entry.Packet (packet.Repeated number s.links.next)) (with_links s o.after)) refl tt
besides_lined c s (Commands m d q now ends) n may off =
    begun_lined n m d q (commanded s m d q).answer s.moments (happened c s (Commands m d q now ends)).moments (inl off) (commands_begun c n m d now ends q s may)
besides_lined c s (Writes m d value now ends) n may off =
    let q : PrCommand = command.Write value in
    subst (λ ms. Lined (λ z. NoTask n z) ms (happened c s (Writes m d value now ends)).moments) (commanded_moments s m d (slice_get s.devices (d - 1)) q) (write_taken c n m d value now ends (commanded s m d q).answer (commanded s m d q).scene)
besides_lined c s (Refuses m d value why) n may off = one_lined n _ s.moments tt
