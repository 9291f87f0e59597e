-- Each thing that happens within an event leaves the installs that are told in it followed by their Installs.
use Rattle.std.specs.Prelude.{ℕ, ◌-◌, ◌≡◌, ◌≤◌, ◌^◌, ◌++◌, ◌||◌, Bool, true, false, List, [], ◌∷◌, Option, None, Some, IfSome, slice_get}
use Rattle.std.specs.List.{AllByRecursion, list_any}
use Rattle.std.proofs.Common.{refl, ap, sym, subst, ◌∙◌, append_assoc, inl, inr, arith}
use Rattle.cl_base.specs.declared.header.Header.{Header}
use Rattle.cl_base.specs.declared.method.Outcome as method
use Rattle.cl_base.specs.declared.packet.DropCause.{DropCause}
use Rattle.cl_base.specs.declared.packet.DropCause.TheVariants as drop
use Rattle.cmm_attempt.proofs.Basics.{none_some}
use Rattle.cmm_attempt.specs.Attempts.{AttemptState}
use Rattle.history.specs.Moment.{Moment, Part, Said, Told}
use Rattle.history.specs.Order.{under_way}
use Rattle.history.specs.Seizing.{is_attempt}
use Rattle.interconnect.specs.Links as net
use Rattle.interconnect.specs.Links.{Packet, sending}
use Rattle.node_model.specs.declared.cluster.Cluster.{Cluster}
use Rattle.node_model.specs.declared.input.Input.{Input}
use Rattle.node_model.specs.declared.input.Input.TheVariants as input
use Rattle.node_model.specs.declared.node.Node.{Node}
use Rattle.node_model.specs.declared.node.Node.TheVariants.{Down, Up}
use Rattle.node_model.specs.declared.output.Output.{Output}
use Rattle.pgr_device.specs.Device.{Device}
use Rattle.pgr_device.specs.declared.command.PrCommand.{PrCommand}
use Rattle.pgr_device.specs.declared.command.PrCommand.TheVariants as command
use Rattle.refinement.proofs.Handlers.{delivered_by}
use Rattle.refinement.specs.Runs.{Letter, Nodes, moved}
use Rattle.refinement.specs.Runs.Move.{Takes as Takes_in}
use Rattle.refinement.specs.Ties.{MessageTold}
use Rattle.run_history.proofs.Idle.{passing_nodes}
use Rattle.run_history.proofs.Lists.{both}
use Rattle.run_history.specs.Bringing.{IsBrought, IsDelivery}
use Rattle.run_history.specs.Happenings.{Happening, IsPlain, MayHappen, armed_by, commanded, commanded_at, given_by, happened, removed, taking}
use Rattle.run_history.specs.Happenings.Happening.{Arrives, Begins, Commands, Loses, Misses, Notes, Refuses, Repeats, Speaks, Strays, Takes, Writes}
use Rattle.run_history.specs.Noted.{AttemptIn, LinesTried, NodeIn as NodeNoted}
use Rattle.run_history.specs.Scenes.{Scene, adding, dropped_so, telling, with_links}
use Rattle.run_history.specs.Stages.{Stage}
use Rattle.run_lines.proofs.Adds.{Adds, adds_first, onto}
use Rattle.run_lines.proofs.Outputs.{gives_entries}
use Rattle.run_lines.proofs.Runs.{armed_moments}
use Rattle.run_lines.specs.Entries.{IsEntry, IsOfEvent}
use Rattle.run_messages.proofs.Reaching.{IsSmall}
use Rattle.run_packets.proofs.fits.Steps.{Grown}
use Rattle.schedule_text.specs.declared.event.Event.{Event}
use Rattle.schedule_text.specs.declared.event.Event.TheVariants as event
use Rattle.schedule_text.specs.declared.line.Line.TheVariants as line
use Rattle.status_report.specs.declared.device_entry.DeviceEntry.TheVariants as device
use Rattle.status_report.specs.declared.entry.Entry.{Entry}
use Rattle.status_report.specs.declared.entry.Entry.TheVariants as entry
use Rattle.status_report.specs.declared.packet_entry.PacketEntry.TheVariants as packet
use Rattle.world_model.specs.First.{first_cluster}
use Rattle.run_packets.specs.waiting.Events.{Goes, IsWithin}
use Rattle.run_packets.specs.waiting.Sendings.{IsLeft}
use Rattle.run_packets.specs.installs.Passing.{AllGoOut, GoesOut, IsListed, NodeLined, NodeListed}
use Rattle.run_packets.proofs.waiting.Numbers.{left_before, passing_next, sending_next}
use Rattle.run_packets.proofs.installs.Attempts.{NodePlaced}
use Rattle.run_packets.proofs.installs.Known.{Bound, Takeable, arrives_so, commands_so, takes_so, writes_so}
use Rattle.run_packets.proofs.installs.Sent.{AreShort, Left, go_both, left_passing}
use Rattle.run_packets.proofs.installs.Short.{sent_short}
use Rattle.run_packets.proofs.installs.Taking.{NodeFine, Stand, TakenOut, lined_of, taken_out}

-- Of an event under way, before which these moments stood: each install in its entries so far is followed by its Installs where a packet number is left;
-- each attempt has the members of its line, or has none there, which no packet finds; and what had a line has it still.
pub record Passing (before : Scene) (xs : List Moment) (s : Scene) : Type 0 where
  pub out : IsLeft s.links.next → AllGoOut before.moments xs
  pub lined : (k : ℕ) → NodeLined before.moments (s.nodes.node k)
  pub first : (packets : List Packet) (number : ℕ) → IsDelivery packets number (under_way s.moments) → (k : ℕ) → NodeListed before.moments (s.nodes.node k)
  pub grown : (e : ℕ) → list_any (is_attempt e) before.moments ≡ true → list_any (is_attempt e) s.moments ≡ true

or_later : (a b : Bool) → b ≡ true → (a || b) ≡ true
or_later true b h = refl
or_later false b h = h

any_onto : (test : Moment → Bool) (xs ms : List Moment) → list_any test ms ≡ true → list_any test (onto xs ms) ≡ true
any_onto test [] ms h = h
any_onto test (x ∷ xs) ms h = any_onto test xs (x ∷ ms) (or_later (test x) (list_any test ms) h)

same_le : (a : ℕ) → a ≤ a
same_le a = omega arith

-- entries leave the event under way
under_onto : (xs ms : List Moment) → AllByRecursion IsEntry xs → under_way (onto xs ms) ≡ under_way ms
under_onto [] ms are = refl
under_onto (Told e ∷ xs) ms are = under_onto xs (Told e ∷ ms) are.1
under_onto (Said l ∷ xs) ms are = absurd are.0
under_onto (Part e ∷ xs) ms are = absurd are.0

under_adds : (before after : List Moment) → Adds before after → under_way after ≡ under_way before
under_adds before after a = ap under_way (sym a.is) ∙ under_onto a.entries before a.are

-- what a line brings to a node by itself is no packet
brought_else : (packets : List Packet) (number n : ℕ) (o : Option Event) (i : Input) → IsBrought o n i → IsDelivery packets number o → ⊥
brought_else packets number n o input.Boot is d = subst (IsDelivery packets number) is d
brought_else packets number n o input.Crash is d = subst (IsDelivery packets number) is d
brought_else packets number n o input.Tick is d = subst (IsDelivery packets number) is d
brought_else packets number n o input.CommandDue is d = subst (IsDelivery packets number) is d
brought_else packets number n o (input.Commanded words) is d = subst (IsDelivery packets number) is d
brought_else packets number n o (input.Reported r good) is d = subst (IsDelivery packets number) is d
brought_else packets number n o (input.Client name client port) is d = subst (IsDelivery packets number) is d
brought_else packets number n o _ is d = absurd is

plain_none : (i : Input) → IsPlain i → delivered_by i ≡ None
plain_none (input.Packet from m) plain = absurd plain
plain_none _ plain = refl

-- ---- a node takes something

takes_goes : (h : Header) (c : Cluster) (before s : Scene) (xs : List Moment) (n now : ℕ) (ends : method.Outcome) (i : Input) → (z : Stand h c s.nodes) → Takeable h c s.nodes n now ends i → LinesTried z.ground.machine s.moments
    → ((packets : List Packet) (number : ℕ) → IsDelivery packets number (under_way s.moments) → delivered_by i ≡ None → ⊥) → ((k : ℕ) → NodePlaced (delivered_by i) before.moments (s.nodes.node k))
    → ((k : ℕ) → NodeFine c (s.nodes.node k)) → Grown c (taking c n now ends i s).nodes → Passing before xs s → Goes Passing before xs s (taking c n now ends i s)
takes_goes h c before s xs n now ends i z can tried hand placed fine g p =
    let t : Scene = taking c n now ends i s in
    let os : List Output = given_by c n now ends i s.nodes in
    let u : Scene = record s { nodes = moved c s.nodes (Takes_in n now ends i) } in
    let o : TakenOut c before.moments n now ends i s = taken_out h c s before.moments n now ends i z can (λ e is. tried e (p.grown e is)) placed p.lined fine in
    let l : Left before.moments n os u t = left_passing before.moments n os u (gives_entries c n now ends (s.nodes.node n) (s.nodes.disk n) i) in
    let short : AreShort n os =
    λ m j sent few. sent_short c g.machine c.nodes c.devices n m j os s.nodes.sent g.holds g.rooms
    (subst (λ (v : Nodes). AllByRecursion (λ (q : Letter). MessageTold g.machine q.from q.body) v.sent) (passing_nodes n os u) g.sent) sent few in
    record {
      adds = l.adds;
      so = record {
        out = λ left. go_both before.moments xs l.adds.entries (p.out (left_before s.links.next t.links.next (2 ^ 63) (passing_next n os u) left)) (l.out short left o.so);
        lined = o.lined;
        first = λ packets number d k. listed_then packets number (subst (IsDelivery packets number) (under_adds s.moments t.moments l.adds) d) k (o.placed k);
        grown = λ e is. subst (λ ms. list_any (is_attempt e) ms ≡ true) l.adds.is (any_onto (is_attempt e) l.adds.entries s.moments (p.grown e is));
      };
    }
  where
    listed_then : (packets : List Packet) (number : ℕ) → IsDelivery packets number (under_way s.moments) → (k : ℕ) → NodePlaced (delivered_by i) before.moments ((taking c n now ends i s).nodes.node k)
        → NodeListed before.moments ((taking c n now ends i s).nodes.node k)
    listed_then packets number d k (inl none) = absurd (hand packets number d none)
    listed_then packets number d k (inr listed) = listed

-- ---- no node does anything

quiet_goes : (before s t : Scene) (xs : List Moment) → t.nodes ≡ s.nodes → s.links.next ≤ t.links.next → (a : Adds s.moments t.moments) → AllGoOut before.moments a.entries → Passing before xs s → Goes Passing before xs s t
quiet_goes before s t xs same more a plain p = record {
  adds = a;
  so = record {
    out = λ left. go_both before.moments xs a.entries (p.out (left_before s.links.next t.links.next (2 ^ 63) more left)) plain;
    lined = λ k. subst (λ (v : Nodes). NodeLined before.moments (v.node k)) (sym same) (p.lined k);
    first = λ packets number d k. subst (λ (v : Nodes). NodeListed before.moments (v.node k)) (sym same) (p.first packets number (subst (IsDelivery packets number) (under_adds s.moments t.moments a) d) k);
    grown = λ e is. subst (λ ms. list_any (is_attempt e) ms ≡ true) a.is (any_onto (is_attempt e) a.entries s.moments (p.grown e is));
  };
}

told_goes : (before s t : Scene) (xs : List Moment) (e : Entry) → IsOfEvent e → GoesOut before.moments (Told e) [] → t.nodes ≡ s.nodes → s.links.next ≤ t.links.next → t.moments ≡ Told e ∷ s.moments → Passing before xs s
    → Goes Passing before xs s t
told_goes before s t xs e event plain same more is p = quiet_goes before s t xs same more (record { entries = Told e ∷ []; are = (event, tt); is = sym is }) (plain, tt) p

-- ---- one thing after another

onto_both : (xs ys before : List Moment) → onto (xs ++ ys) before ≡ onto ys (onto xs before)
onto_both [] ys before = refl
onto_both (x ∷ xs) ys before = onto_both xs ys (x ∷ before)

goes_then : (before s u t : Scene) (xs : List Moment) → (g : Goes Passing before xs s u) → Goes Passing before (xs ++ g.adds.entries) u t → Goes Passing before xs s t
goes_then before s u t xs g l = record {
  adds = record {
    entries = g.adds.entries ++ l.adds.entries;
    are = both IsEntry g.adds.entries l.adds.entries g.adds.are l.adds.are;
    is = onto_both g.adds.entries l.adds.entries s.moments ∙ (ap (λ ms. onto l.adds.entries ms) g.adds.is ∙ l.adds.is);
  };
  so = subst (λ entries. Passing before entries t) (append_assoc xs g.adds.entries l.adds.entries) l.so;
}

-- at a device
done_goes : (h : Header) (c : Cluster) (before s : Scene) (xs : List Moment) (n d now : ℕ) (ends : method.Outcome) (o : Option Device) (q : PrCommand) (i : Input) → (z : Stand h c s.nodes)
    → Takeable h c (commanded_at s n d o q).scene.nodes n now ends i → LinesTried z.ground.machine s.moments
    → ((packets : List Packet) (number : ℕ) → IsDelivery packets number (under_way s.moments) → ⊥) → delivered_by i ≡ None → ((k : ℕ) → NodeFine c (s.nodes.node k)) → Grown c (taking c n now ends i (commanded_at s n d o q).scene).nodes
    → Passing before xs s → Goes Passing before xs s (taking c n now ends i (commanded_at s n d o q).scene)
done_goes h c before s xs n d now ends None q i z can tried else none fine g p = takes_goes h c before s xs n now ends i z can tried (λ packets number is told. else packets number is) (λ k. inl none) fine g p
done_goes h c before s xs n d now ends (Some x) q i z can tried else none fine g p =
    let u : Scene = (commanded_at s n d (Some x) q).scene in
    let goes : Goes Passing before xs u (taking c n now ends i u) = takes_goes h c before u xs n now ends i z can tried (λ packets number is told. else packets number is) (λ k. inl none) fine g
    (record { out = p.out; lined = p.lined; first = p.first; grown = p.grown }) in
    record { adds = goes.adds; so = goes.so }

dropped_next : (o : Option (ℕ × DropCause)) (s : Scene) (k : ℕ) → k ≤ s.links.next → k ≤ (dropped_so o s).links.next
dropped_next None s k h = h
dropped_next (Some x) s k h = h

dropped_nodes : (o : Option (ℕ × DropCause)) (s : Scene) → (dropped_so o s).nodes ≡ s.nodes
dropped_nodes None s = refl
dropped_nodes (Some x) s = refl

record Dropped (before : List Moment) (s t : Scene) : Type 0 where
  adds : Adds s.moments t.moments
  plain : AllGoOut before adds.entries

dropped_adds : (before : List Moment) (o : Option (ℕ × DropCause)) (s : Scene) → Dropped before s (dropped_so o s)
dropped_adds before None s = record { adds = record { entries = []; are = tt; is = refl }; plain = tt }
dropped_adds before (Some x) s = record { adds = record { entries = Told (entry.Packet (packet.Dropped x.0 x.1)) ∷ []; are = (tt, tt); is = refl }; plain = (tt, tt) }

pub step_passing : (h : Header) (before s : Scene) (xs : List Moment) (x : Happening) → IsSmall h → IsWithin x → MayHappen (first_cluster h) s x → (b : Bound h s) → (z : Stand h (first_cluster h) s.nodes) → LinesTried z.ground.machine s.moments
    → ((k : ℕ) → NodeFine (first_cluster h) (s.nodes.node k)) → Grown (first_cluster h) (happened (first_cluster h) s x).nodes → Passing before xs s → Goes Passing before xs s (happened (first_cluster h) s x)
step_passing h before s xs (Speaks e) size within may b z tried fine g p = absurd within
step_passing h before s xs (Begins e) size within may b z tried fine g p = absurd within
step_passing h before s xs (Notes e) size within may b z tried fine g p = told_goes before s (telling (entry.Schedule e) s) xs (entry.Schedule e) within tt refl (same_le s.links.next) refl p
step_passing h before s xs (Takes n now ends i) size within may b z tried fine g p =
    takes_goes h (first_cluster h) before s xs n now ends i z (takes_so h s n now ends i may b) tried (λ packets number d none. brought_else packets number n (under_way s.moments) i may.5 d) (λ k. inl (plain_none i may.1)) fine g p
step_passing h before s xs (Arrives number x m now ends) size within may b z tried fine g p =
    let c : Cluster = first_cluster h in
    let e : Entry = entry.Packet (packet.Delivered number x.from x.to) in
    let u : Scene = telling e (removed s number) in
    let first : Goes Passing before xs s u = told_goes before s u xs e tt tt refl (same_le s.links.next) refl p in
    goes_then before s u (taking c x.to now ends (input.Packet x.from m) u) xs first
    (takes_goes h c before u (xs ++ first.adds.entries) x.to now ends (input.Packet x.from m) z (arrives_so h s number x m now ends may b z.known) tried (λ packets k d none. absurd (none_some (x.from, m) (sym none))) (λ k. inr (first.so.first s.links.packets number may.6 k)) fine g first.so)
step_passing h before s xs (Strays number x) size within may b z tried fine g p =
    let e : Entry = entry.Packet (packet.Delivered number x.from x.to) in told_goes before s (telling e (removed s number)) xs e tt tt refl (same_le s.links.next) refl p
step_passing h before s xs (Misses number x) size within may b z tried fine g p =
    let e : Entry = entry.Packet (packet.Dropped number drop.Down) in told_goes before s (telling e (removed s number)) xs e tt tt refl (same_le s.links.next) refl p
step_passing h before s xs (Loses number x) size within may b z tried fine g p =
    let e : Entry = entry.Packet (packet.Lost number) in told_goes before s (telling e (removed s number)) xs e tt tt refl (same_le s.links.next) refl p
step_passing h before s xs (Repeats number x) size within may b z tried fine g p =
    let o : net.Outcome = sending s.links x.from x.to x.bytes in
    let e : Entry = entry.Packet (packet.Repeated number s.links.next) in
    let u : Scene = telling e (with_links s o.after) in
    let t : Scene = dropped_so o.sent.dropped u in
    quiet_goes before s t xs (dropped_nodes o.sent.dropped u) (dropped_next o.sent.dropped u s.links.next (sending_next s.links x.from x.to x.bytes))
    (adds_first e s.moments t.moments tt (dropped_adds before.moments o.sent.dropped u).adds) (tt, (dropped_adds before.moments o.sent.dropped u).plain) p
step_passing h before s xs (Commands n d q now ends) size within may b z tried fine g p =
    done_goes h (first_cluster h) before s xs n d now ends (slice_get s.devices (d - 1)) q (input.Answered (commanded s n d q).answer) z (commands_so h s n d q now ends size may b) tried
    (λ packets number d. subst (IsDelivery packets number) may.5 d) refl fine g p
step_passing h before s xs (Writes n d value now ends) size within may b z tried fine g p =
    done_goes h (first_cluster h) before s xs n d now ends (slice_get s.devices (d - 1)) (command.Write value) (input.Wrote d value (commanded s n d (command.Write value)).answer) z (writes_so h s n d value now ends may b) tried
    (λ packets number d. subst (IsDelivery packets number) may.4 d) refl fine g p
step_passing h before s xs (Refuses n d value cause) size within may b z tried fine g p =
    let e : Entry = entry.Device (device.Refused n d value cause) in told_goes before s (telling e s) xs e tt tt refl (same_le s.links.next) refl p

-- ---- an event begins

up_listed : (ms : List Moment) (n : ℕ) (o : Option AttemptState) → AttemptIn ms n o → IfSome o (IsListed ms)
up_listed ms n None h = tt
up_listed ms n (Some a) h = h.members

pub node_listed : (ms : List Moment) (n : ℕ) (node : Node) → NodeNoted ms n node → NodeListed ms node
node_listed ms n Down h = tt
node_listed ms n (Up x) h = up_listed ms n x.attempt h.attempt

armed_node : (c : Cluster) (s : Scene) (e : Event) (n : ℕ) → (armed_by c e s).nodes.node n ≡ s.nodes.node n
armed_node c s (event.Fault k d done) n = refl
armed_node c s (event.CrashAt k calls choice) n = refl
armed_node c s _ n = refl

pub line_passing : (c : Cluster) (s : Scene) (e : Event) → Stage c s → Passing s [] (happened c s (Speaks e))
line_passing c s e b = record {
  out = λ left. tt;
  lined = λ k. subst (NodeLined s.moments) (sym (armed_node c (adding (Said (line.Event e)) s) e k)) (lined_of s.moments (s.nodes.node k) (node_listed s.moments k (s.nodes.node k) (b.notes k).up));
  first = λ packets number d k. subst (NodeListed s.moments) (sym (armed_node c (adding (Said (line.Event e)) s) e k)) (node_listed s.moments k (s.nodes.node k) (b.notes k).up);
  grown = λ f is. subst (λ ms. list_any (is_attempt f) ms ≡ true) (sym (armed_moments c (adding (Said (line.Event e)) s) e)) is;
}

pub part_passing : (c : Cluster) (s : Scene) (e : Event) → Stage c s → Passing s [] (adding (Part e) s)
part_passing c s e b = record { out = λ left. tt; lined = λ k. lined_of s.moments (s.nodes.node k) (node_listed s.moments k (s.nodes.node k) (b.notes k).up); first = λ packets number d k. node_listed s.moments k (s.nodes.node k) (b.notes k).up; grown = λ f is. is }
