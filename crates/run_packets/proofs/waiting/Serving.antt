-- While an event is under way, each node has sent the oldest request that it has, unless it was the oldest before the event.
use Rattle.std.specs.Prelude.{ℕ, ◌-◌, ◌≡◌, ◌≢◌, ◌≤◌, ◌⊎◌, ◌^◌, ◌++◌, ◌||◌, true, All, List, [], ◌∷◌, Option, None, Some, slice_get}
use Rattle.std.proofs.Common.{refl, ap, sym, subst, ◌∙◌, append_assoc, inl, inr, arith}
use Rattle.cl_base.specs.declared.header.Header.{Header}
use Rattle.cl_base.specs.declared.method.Outcome as method
use Rattle.cl_base.specs.declared.packet.DropCause.{DropCause}
use Rattle.cl_base.specs.declared.packet.DropCause.TheVariants as drop
use Rattle.cmm_attempt.specs.Calls.{IsDevice}
use Rattle.history.specs.Letters.{sends}
use Rattle.history.specs.Messages.{is_down_of, sends_or_falls}
use Rattle.history.specs.Moment.{Moment, Part, Said, Told}
use Rattle.history.specs.Names.{named}
use Rattle.history_setting.specs.Settings.{setting_of}
use Rattle.interconnect.specs.Links as net
use Rattle.interconnect.specs.Links.{sending}
use Rattle.machine_base.proofs.Puts.{same_or_not}
use Rattle.node_model.specs.declared.cluster.Cluster.{Cluster}
use Rattle.node_model.specs.declared.input.Input.{Input}
use Rattle.node_model.specs.declared.input.Input.TheVariants as input
use Rattle.node_model.specs.declared.node.Node.{Node}
use Rattle.node_model.specs.declared.node.Node.TheVariants.{Down, Up}
use Rattle.node_model.specs.declared.output.Output.{Output}
use Rattle.pgr_device.specs.Device.{Device}
use Rattle.pgr_device.specs.declared.command.PrCommand.{PrCommand}
use Rattle.pgr_device.specs.declared.command.PrCommand.TheVariants as command
use Rattle.refinement.specs.Runs.{Nodes, moved}
use Rattle.refinement.specs.Runs.Move.{Takes as Takes_in}
use Rattle.request_queue.specs.declared.request.Request.{Request}
use Rattle.run_history.proofs.Lists.{both}
use Rattle.run_history.specs.Happenings.{Happening, MayHappen, commanded, commanded_at, given_by, happened, removed, taking}
use Rattle.run_history.specs.Happenings.Happening.{Arrives, Begins, Commands, Loses, Misses, Notes, Refuses, Repeats, Speaks, Strays, Takes, Writes}
use Rattle.run_history.specs.Scenes.{Scene, adding, dropped_so, telling, with_links}
use Rattle.run_history.specs.Stages.{Stage}
use Rattle.run_lines.proofs.Adds.{Adds, adds_drop, adds_first, onto}
use Rattle.run_lines.specs.Entries.{IsEntry, IsOfEvent}
use Rattle.schedule_text.specs.declared.event.Event.{Event}
use Rattle.schedule_text.specs.declared.line.Line.TheVariants as line
use Rattle.status_report.specs.declared.device_entry.DeviceEntry.TheVariants as device
use Rattle.status_report.specs.declared.entry.Entry.{Entry}
use Rattle.status_report.specs.declared.entry.Entry.TheVariants as entry
use Rattle.status_report.specs.declared.packet_entry.PacketEntry.TheVariants as packet
use Rattle.wire.specs.declared.message.Body.{Body}
use Rattle.world_model.specs.First.{first_cluster}
use Rattle.world_model.specs.Sends.{name_of}
use Rattle.run_packets.specs.waiting.Events.{Goes, IsWithin}
use Rattle.run_packets.specs.waiting.Waiting.{CommandsFit}
use Rattle.run_packets.specs.waiting.Sendings.{IsLeft, IsShort}
use Rattle.run_packets.specs.waiting.Waiting.{NodePaid, Sendings, WordsFit}
use Rattle.run_packets.proofs.waiting.Numbers.{left_before, passing_next, sending_next}
use Rattle.run_packets.proofs.waiting.Sent.{Left, any_behind, any_more, left_taking}
use Rattle.run_packets.proofs.waiting.Served.{Held, QueuesIn, armed_node, dropped_nodes, first_paid, held_of, taking_served, taking_there, words_fit}
use Rattle.run_packets.proofs.waiting.Steps.{first_at}

-- what node k has sent among these entries, where a packet number is left
abbrev pub SentBy : ℕ → List Moment → Scene → Sendings
SentBy k entries s m b = IsShort k b → IsLeft s.links.next → sends_or_falls k m (named (name_of b)) entries ≡ true

abbrev pub Serving : Scene → List Moment → Scene → Type 0
Serving before entries s = (k : ℕ) → NodePaid (first_at (before.nodes.node k)) (SentBy k entries s) (s.nodes.node k)

paid_more : (first : Option Request) (G H : Sendings) (z : Node) → ((m : ℕ) (b : Body) → G m b → H m b) → NodePaid first G z → NodePaid first H z
paid_more first G H Down f h = tt
paid_more first G H (Up x) f (inl office) = inl office
paid_more first G H (Up x) f (inr (inl same)) = inr (inl same)
paid_more first G H (Up x) f (inr (inr (inl none))) = inr (inr (inl none))
paid_more first G H (Up x) f (inr (inr (inr (inl none)))) = inr (inr (inr (inl none)))
paid_more first G H (Up x) f (inr (inr (inr (inr sent)))) =
    inr (inr (inr (inr (record { to = sent.to; leads = sent.leads; request = sent.request; first = sent.first; epoch = sent.epoch; given = f sent.to _ sent.given }))))

same_le : (a : ℕ) → a ≤ a
same_le a = omega arith

-- n sends m this there, or goes down
sent_more : (k : ℕ) (xs ys : List Moment) (s t : Scene) → s.links.next ≤ t.links.next → (m : ℕ) (b : Body) → SentBy k xs s m b → SentBy k (xs ++ ys) t m b
sent_more k xs ys s t more m b g = λ short left. any_more (λ x. sends k m (named (name_of b)) x || is_down_of k x) xs ys (g short (left_before s.links.next t.links.next (2 ^ 63) more left))

-- ---- no node does anything

quiet_goes : (before s t : Scene) (xs : List Moment) → t.nodes ≡ s.nodes → s.links.next ≤ t.links.next → Adds s.moments t.moments → Serving before xs s → Goes Serving before xs s t
quiet_goes before s t xs same more a h = record {
  adds = a;
  so = λ k.
      subst (λ (v : Nodes). NodePaid (first_at (before.nodes.node k)) (SentBy k (xs ++ a.entries) t) (v.node k)) (sym same)
      (paid_more (first_at (before.nodes.node k)) (SentBy k xs s) (SentBy k (xs ++ a.entries) t) (s.nodes.node k) (sent_more k xs a.entries s t more) (h k));
}

-- ---- a node takes something

takes_goes : (c : Cluster) (before s : Scene) (xs : List Moment) (n now : ℕ) (ends : method.Outcome) (i : Input) → n ≤ 32 → All IsDevice c.attached → Held c s.nodes → WordsFit c i → QueuesIn s → Serving before xs s
    → Goes Serving before xs s (taking c n now ends i s)
takes_goes c before s xs n now ends i high fits held words queues h =
    let t : Scene = taking c n now ends i s in
    let os : List Output = given_by c n now ends i s.nodes in
    let u : Scene = record s { nodes = moved c s.nodes (Takes_in n now ends i) } in
    let l : Left n os u t = left_taking c n now ends i s in
    record { adds = l.adds; so = λ k. by_number os u l (passing_next n os u) k (same_or_not k n) }
  where
    by_number : (os : List Output) (u : Scene) (l : Left n (given_by c n now ends i s.nodes) (record s { nodes = moved c s.nodes (Takes_in n now ends i) }) (taking c n now ends i s)) → s.links.next ≤ (taking c n now ends i s).links.next
        → (k : ℕ) → (k ≡ n) ⊎ (k ≢ n) → NodePaid (first_at (before.nodes.node k)) (SentBy k (xs ++ l.adds.entries) (taking c n now ends i s)) ((taking c n now ends i s).nodes.node k)
    by_number os u l more k (inl same) =
        let t : Scene = taking c n now ends i s in
        let G : Sendings = SentBy n (xs ++ l.adds.entries) t in
        subst (λ j. NodePaid (first_at (before.nodes.node j)) (SentBy j (xs ++ l.adds.entries) t) (t.nodes.node j)) (sym same)
        (taking_served c n now ends i s (first_at (before.nodes.node n)) G high fits held words
        (λ m b behind short left. any_behind (λ x. sends n m (named (name_of b)) x || is_down_of n x) xs l.adds.entries (l.said m b behind short left))
        (record { queue = queues n; paid = paid_more (first_at (before.nodes.node n)) (SentBy n xs s) G (s.nodes.node n) (sent_more n xs l.adds.entries s t more) (h n) })).paid
    by_number os u l more k (inr ne) =
        let t : Scene = taking c n now ends i s in
        subst (NodePaid (first_at (before.nodes.node k)) (SentBy k (xs ++ l.adds.entries) t)) (sym (taking_there c n now ends i s k ne))
        (paid_more (first_at (before.nodes.node k)) (SentBy k xs s) (SentBy k (xs ++ l.adds.entries) t) (s.nodes.node k) (sent_more k xs l.adds.entries s t more) (h k))

-- ---- one thing after another

onto_both : (xs ys before : List Moment) → onto (xs ++ ys) before ≡ onto ys (onto xs before)
onto_both [] ys before = refl
onto_both (x ∷ xs) ys before = onto_both xs ys (x ∷ before)

goes_then : (before s u t : Scene) (xs : List Moment) → (g : Goes Serving before xs s u) → Goes Serving before (xs ++ g.adds.entries) u t → Goes Serving before xs s t
goes_then before s u t xs g l = record {
  adds = record {
    entries = g.adds.entries ++ l.adds.entries;
    are = both IsEntry g.adds.entries l.adds.entries g.adds.are l.adds.are;
    is = onto_both g.adds.entries l.adds.entries s.moments ∙ (ap (λ ms. onto l.adds.entries ms) g.adds.is ∙ l.adds.is);
  };
  so = subst (λ entries. Serving before entries t) (append_assoc xs g.adds.entries l.adds.entries) l.so;
}

-- at a device
done_goes : (c : Cluster) (before s : Scene) (xs : List Moment) (n d now : ℕ) (ends : method.Outcome) (o : Option Device) (q : PrCommand) (i : Input) → n ≤ 32 → All IsDevice c.attached → Held c s.nodes → WordsFit c i
    → QueuesIn s → Serving before xs s → Goes Serving before xs s (taking c n now ends i (commanded_at s n d o q).scene)
done_goes c before s xs n d now ends None q i high fits held words queues h = takes_goes c before s xs n now ends i high fits held words queues h
done_goes c before s xs n d now ends (Some x) q i high fits held words queues h =
    let u : Scene = (commanded_at s n d (Some x) q).scene in
    let g : Goes Serving before xs u (taking c n now ends i u) = takes_goes c before u xs n now ends i high fits held words queues h in
    record { adds = g.adds; so = g.so }

dropped_next : (o : Option (ℕ × DropCause)) (s : Scene) (k : ℕ) → k ≤ s.links.next → k ≤ (dropped_so o s).links.next
dropped_next None s k h = h
dropped_next (Some x) s k h = h

told_goes : (before s t : Scene) (xs : List Moment) (e : Entry) → IsOfEvent e → t.nodes ≡ s.nodes → s.links.next ≤ t.links.next → t.moments ≡ Told e ∷ s.moments → Serving before xs s → Goes Serving before xs s t
told_goes before s t xs e event same more is h = quiet_goes before s t xs same more (record { entries = Told e ∷ []; are = (event, tt); is = sym is }) h

pub step_serving : (h : Header) (before s : Scene) (xs : List Moment) (g : Happening) → IsWithin g → MayHappen (first_cluster h) s g → All IsDevice (first_cluster h).attached → Stage (first_cluster h) s
    → CommandsFit (setting_of h) s.moments → QueuesIn s → Serving before xs s → Goes Serving before xs s (happened (first_cluster h) s g)
step_serving h before s xs (Speaks e) within may fits b fit q k = absurd within
step_serving h before s xs (Begins e) within may fits b fit q k = absurd within
step_serving h before s xs (Notes e) within may fits b fit q k = told_goes before s (telling (entry.Schedule e) s) xs (entry.Schedule e) within refl (same_le s.links.next) refl k
step_serving h before s xs (Takes n now ends i) within may fits b fit q k =
    takes_goes (first_cluster h) before s xs n now ends i may.0.1 fits (held_of (first_cluster h) s b) (words_fit h s.moments n i may.4 fit) q k
step_serving h before s xs (Arrives number x m now ends) within may fits b fit q k =
    let c : Cluster = first_cluster h in
    let e : Entry = entry.Packet (packet.Delivered number x.from x.to) in
    let u : Scene = telling e (removed s number) in
    let g : Goes Serving before xs s u = told_goes before s u xs e tt refl (same_le s.links.next) refl k in
    goes_then before s u (taking c x.to now ends (input.Packet x.from m) u) xs g
    (takes_goes c before u (xs ++ g.adds.entries) x.to now ends (input.Packet x.from m) may.3.1 fits (held_of c s b) (λ r is. absurd is) q g.so)
step_serving h before s xs (Strays number x) within may fits b fit q k =
    let e : Entry = entry.Packet (packet.Delivered number x.from x.to) in told_goes before s (telling e (removed s number)) xs e tt refl (same_le s.links.next) refl k
step_serving h before s xs (Misses number x) within may fits b fit q k =
    let e : Entry = entry.Packet (packet.Dropped number drop.Down) in told_goes before s (telling e (removed s number)) xs e tt refl (same_le s.links.next) refl k
step_serving h before s xs (Loses number x) within may fits b fit q k =
    let e : Entry = entry.Packet (packet.Lost number) in told_goes before s (telling e (removed s number)) xs e tt refl (same_le s.links.next) refl k
step_serving h before s xs (Repeats number x) within may fits b fit q k =
    let o : net.Outcome = sending s.links x.from x.to x.bytes in
    let e : Entry = entry.Packet (packet.Repeated number s.links.next) in
    let u : Scene = telling e (with_links s o.after) in
    let t : Scene = dropped_so o.sent.dropped u in
    quiet_goes before s t xs (dropped_nodes o.sent.dropped u) (dropped_next o.sent.dropped u s.links.next (sending_next s.links x.from x.to x.bytes))
    (adds_first e s.moments t.moments tt (adds_drop o.sent.dropped u)) k
step_serving h before s xs (Commands n d q now ends) within may fits b fit queues k =
    done_goes (first_cluster h) before s xs n d now ends (slice_get s.devices (d - 1)) q (input.Answered (commanded s n d q).answer) may.0.1 fits (held_of (first_cluster h) s b) (λ r is. absurd is) queues k
step_serving h before s xs (Writes n d value now ends) within may fits b fit queues k =
    done_goes (first_cluster h) before s xs n d now ends (slice_get s.devices (d - 1)) (command.Write value) (input.Wrote d value (commanded s n d (command.Write value)).answer) may.0.1 fits
    (held_of (first_cluster h) s b) (λ r is. absurd is) queues k
step_serving h before s xs (Refuses n d value cause) within may fits b fit q k =
    let e : Entry = entry.Device (device.Refused n d value cause) in told_goes before s (telling e s) xs e tt refl (same_le s.links.next) refl k

-- ---- an event begins

pub line_serving : (c : Cluster) (s : Scene) (e : Event) → Serving s [] (happened c s (Speaks e))
line_serving c s e k =
    let t : Scene = happened c s (Speaks e) in
    subst (NodePaid (first_at (s.nodes.node k)) (SentBy k [] t)) (sym (armed_node c (adding (Said (line.Event e)) s) e k)) (first_paid (s.nodes.node k) (SentBy k [] t))

pub part_serving : (s : Scene) (e : Event) → Serving s [] (adding (Part e) s)
part_serving s e k = first_paid (s.nodes.node k) (SentBy k [] (adding (Part e) s))
