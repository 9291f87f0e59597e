-- A law of what lines and parts of rounds bring to nodes holds of each event of a run of whole lines.
use Rattle.std.specs.Prelude.{ℕ, ◌-◌, slice_get, ◌≡◌, ◌++◌, List, [], ◌∷◌, Option, None, Some, is_some}
use Rattle.std.proofs.Common.{refl, ap, sym, subst, ◌∙◌, append-nil, inl, inr}
use Rattle.cl_base.specs.declared.header.Header.{Header}
use Rattle.cl_base.specs.declared.method.Outcome as method
use Rattle.cl_base.specs.declared.packet.DropCause.TheVariants as drop
use Rattle.cmm_attempt.proofs.Basics.{if_either}
use Rattle.interconnect.specs.Links as links
use Rattle.interconnect.specs.Links.{Links, Packet, sending}
use Rattle.pgr_device.specs.declared.command.PrCommand.TheVariants as command
use Rattle.schedule_text.specs.declared.event.Event.{Event}
use Rattle.schedule_text.specs.declared.line.Line.TheVariants as line
use Rattle.status_report.specs.declared.device_entry.DeviceEntry.TheVariants as device
use Rattle.status_report.specs.declared.entry.Entry.{Entry}
use Rattle.status_report.specs.declared.entry.Entry.TheVariants as entry
use Rattle.status_report.specs.declared.packet_entry.PacketEntry.TheVariants as packet
use Rattle.status_report.specs.declared.schedule_entry.ScheduleEntry.TheVariants as schedule
use Rattle.wire.specs.declared.message.Message.{Message}
use Rattle.history.specs.Links.{links_after}
use Rattle.history.specs.Messages.{onto}
use Rattle.history.specs.Moment.{Moment, Part, Said, Told}
use Rattle.history.specs.Order.{EachEvent, OfEvents}
use Rattle.node_model.specs.declared.cluster.Cluster.{Cluster}
use Rattle.node_model.specs.declared.input.Input.{Input}
use Rattle.node_model.specs.declared.input.Input.TheVariants as input
use Rattle.node_model.specs.declared.output.Output.{Output}
use Rattle.refinement.specs.Runs.{moved}
use Rattle.refinement.specs.Runs.Move.{Takes as Takes_in}
use Rattle.world_model.specs.Devices.{due_at}
use Rattle.world_model.specs.First.{first_cluster}
use Rattle.run_history.proofs.LinksRun.{links_of_each_run}
use Rattle.run_history.proofs.Reached.{Reached, reached_more}
use Rattle.run_history.specs.Happenings.{Happening, MayAllHappen, MayHappen, all_happened, commanded, given_by, happened, removed, taking}
use Rattle.run_history.specs.Happenings.Happening.{Arrives, Begins, Commands, Loses, Misses, Notes, Refuses, Repeats, Speaks, Strays, Takes, Writes}
use Rattle.run_history.specs.Rounds.{Progress}
use Rattle.run_history.specs.Scenes.{Scene, adding, dropped_so, first_scene, telling, with_links}
use Rattle.run_history.specs.Shapes.{Due, IsDue, IsShaped, IsThis, Opens, ShapedFrom, Want, brings, due_after, nothing, opened, still}
use Rattle.run_history.specs.Shapes as want
use Rattle.run_lines.specs.Entries.{IsOfEvent, IsReady}
use Rattle.run_lines.proofs.Adds.{Adds, added_of_event, adds_drop, adds_first, adds_one}
use Rattle.run_lines.proofs.Adds as adding_to
use Rattle.run_lines.proofs.Runs.{armed_moments, ready_of}
use Rattle.run_packets.proofs.prepares.Steps.{IsLinkedTo}
use Rattle.run_history.specs.Stages.{Stage}
use Rattle.run_messages.proofs.Reaching.{IsSmall, stage_of, taking_good}
use Rattle.run_messages.specs.Outputs.{AreGood}
use Rattle.pgr_device.specs.Device.{Device}
use Rattle.pgr_device.specs.declared.command.PrCommand.{PrCommand}
use Rattle.run_history.specs.Happenings.{commanded_at}
use Rattle.run_packets.specs.prepares.Events.{IsLeft}
use Rattle.run_packets.specs.repeats.Events.{AlongRun, StartsElse, AreSent, Awaits, EventLaw, Leaves, Opening}
use Rattle.run_packets.proofs.repeats.Sent.{Left, left_taking}

same_onto : (xs ms : List Moment) → adding_to.onto xs ms ≡ onto ms xs
same_onto [] ms = refl
same_onto (x ∷ xs) ms = same_onto xs (x ∷ ms)

-- what is sent is among the entries
sent_so : (cells n : ℕ) (os : List Output) (s t : Scene) → IsLinkedTo cells t → (l : Left n os s t) → AreSent cells s.moments n os l.adds.entries
sent_so cells n os s t linked l = λ m b behind short left.
    l.said m b behind short
    (subst (λ (z : Links). IsLeft z.next) (sym linked) (subst (λ ms. IsLeft (links_after cells ms).next) (sym (same_onto l.adds.entries s.moments) ∙ l.adds.is) left))

-- ---- what is due came

-- what is left is nothing, or a command
abbrev Behind : Scene → List Want → Type 0
Behind t wants = (cells : ℕ) (c : Cluster) (later : List Moment) → Leaves cells c t wants later → StartsElse later

none_behind : (t : Scene) (wants : List Want) → wants ≡ [] → Behind t (still t wants)
none_behind t wants none = subst (λ ws. Behind t (still t ws)) (sym none) (λ cells c later e. subst StartsElse (sym e) tt)

command_behind : (t : Scene) (n : ℕ) → Behind t (still t (want.Command n ∷ []))
command_behind t n = if_either (Behind t) (is_some (due_at (Some (t.nodes.node n)))) (want.Command n ∷ []) [] (λ cells c later h. h) (λ cells c later e. subst StartsElse (sym e) tt)

-- it alone was due
settles : (P : EventLaw) (cells : ℕ) (c : Cluster) (s t : Scene) (w : Want) (wants : List Want) → wants ≡ [] → (a : Adds s.moments t.moments) → Leaves cells c s (w ∷ []) a.entries → Awaits P cells c s (w ∷ wants)
    → Awaits P cells c t (still t wants)
settles P cells c s t w wants none a leaves k = subst (λ ws. Awaits P cells c t (still t ws)) (sym none) (record {
  ready = tt;
  events = λ later e.
      subst (λ xs. OfEvents P xs t.moments) (sym e)
      (added_of_event P s.moments t.moments [] a
      (subst (λ ys. OfEvents P ys s.moments) (sym (append-nil a.entries)) (k.events a.entries (subst (λ ws. Leaves cells c s (w ∷ ws) a.entries) (sym none) leaves))));
})

-- nothing is said of its entries
frees : (P : EventLaw) (cells : ℕ) (c : Cluster) (s t : Scene) (w : Want) (wants : List Want) → (a : Adds s.moments t.moments) → ((later : List Moment) → Leaves cells c t (still t wants) later → Leaves cells c s (w ∷ wants) (a.entries ++ later)) → IsReady t (still t wants)
    → Awaits P cells c s (w ∷ wants) → Awaits P cells c t (still t wants)
frees P cells c s t w wants a free ready k =
    record { ready = ready; events = λ later leaves. added_of_event P s.moments t.moments later a (k.events (a.entries ++ later) (free later leaves)) }

none_ready : (t : Scene) (wants : List Want) → wants ≡ [] → IsReady t (still t wants)
none_ready t wants none = subst (λ ws. IsReady t (still t ws)) (sym none) tt

some_none : (w : Want) (ws : List Want) → w ∷ ws ≡ [] → ⊥
some_none w ws e = cc

-- what is due behind something that comes to a node is its command
behind_ready : (s t : Scene) (n : ℕ) (i : Input) (w : Want) (ws : List Want) → IsReady s (want.Take n i ∷ w ∷ ws) → IsReady t (still t (w ∷ ws))
behind_ready s t n input.CommandDue w ws r =
    subst (λ xs. IsReady t (still t xs)) (sym r) (if_either (IsReady t) (is_some (due_at (Some (t.nodes.node n)))) (want.Command n ∷ []) [] refl tt)
behind_ready s t n input.Boot w ws r = absurd (some_none w ws r.1)
behind_ready s t n input.Crash w ws r = absurd (some_none w ws r.1)
behind_ready s t n input.Tick w ws r = absurd (some_none w ws r.1)
behind_ready s t n (input.Packet from m) w ws r = absurd (some_none w ws r.1)
behind_ready s t n (input.Answered a) w ws r = absurd (some_none w ws r.1)
behind_ready s t n (input.Wrote d value a) w ws r = absurd (some_none w ws r.1)
behind_ready s t n (input.Commanded words) w ws r = absurd (some_none w ws r.1)
behind_ready s t n (input.Reported resource good) w ws r = absurd (some_none w ws r.1)
behind_ready s t n (input.Client address client port) w ws r = absurd (some_none w ws r.1)

behind_else : (s t : Scene) (n : ℕ) (i : Input) (w : Want) (ws : List Want) → IsReady s (want.Take n i ∷ w ∷ ws) → Behind t (still t (w ∷ ws))
behind_else s t n input.CommandDue w ws r = subst (λ xs. Behind t (still t xs)) (sym r) (command_behind t n)
behind_else s t n input.Boot w ws r = absurd (some_none w ws r.1)
behind_else s t n input.Crash w ws r = absurd (some_none w ws r.1)
behind_else s t n input.Tick w ws r = absurd (some_none w ws r.1)
behind_else s t n (input.Packet from m) w ws r = absurd (some_none w ws r.1)
behind_else s t n (input.Answered a) w ws r = absurd (some_none w ws r.1)
behind_else s t n (input.Wrote d value a) w ws r = absurd (some_none w ws r.1)
behind_else s t n (input.Commanded words) w ws r = absurd (some_none w ws r.1)
behind_else s t n (input.Reported resource good) w ws r = absurd (some_none w ws r.1)
behind_else s t n (input.Client address client port) w ws r = absurd (some_none w ws r.1)

take_so : (P : EventLaw) (cells : ℕ) (c : Cluster) (s : Scene) (n now : ℕ) (ends : method.Outcome) (i : Input) (wants : List Want) → IsLinkedTo cells (taking c n now ends i s) → AreGood n (given_by c n now ends i s.nodes)
    → Awaits P cells c s (want.Take n i ∷ wants) → Awaits P cells c (taking c n now ends i s) (still (taking c n now ends i s) wants)
take_so P cells c s n now ends i [] linked good k =
    let t : Scene = taking c n now ends i s in
    let u : Scene = record s { nodes = moved c s.nodes (Takes_in n now ends i) } in
    let l : Left n (given_by c n now ends i s.nodes) u t = left_taking c n now ends i s good in
    settles P cells c s t (want.Take n i) [] refl l.adds (record {
      now = now;
      ends = ends;
      are_sent = sent_so cells n (given_by c n now ends i s.nodes) u t linked l;
      else_first = subst StartsElse (append-nil l.adds.entries) (l.first [] tt);
    }) k
take_so P cells c s n now ends i (w ∷ ws) linked good k =
    let t : Scene = taking c n now ends i s in
    let l : Left n (given_by c n now ends i s.nodes) (record s { nodes = moved c s.nodes (Takes_in n now ends i) }) t = left_taking c n now ends i s good in
    frees P cells c s t (want.Take n i) (w ∷ ws) l.adds (λ later h. l.first later (behind_else s t n i w ws k.ready cells c later h)) (behind_ready s t n i w ws k.ready) k

-- a command at a device is done, and its answer taken
record Fine (before after : List Moment) : Type 0 where
  adds : Adds before after
  first : (rest : List Moment) → StartsElse rest → StartsElse (adds.entries ++ rest)

done_fine : (c : Cluster) (s : Scene) (n d now : ℕ) (ends : method.Outcome) (o : Option Device) (q : PrCommand) (i : Input) → AreGood n (given_by c n now ends i (commanded_at s n d o q).scene.nodes)
    → Fine s.moments (taking c n now ends i (commanded_at s n d o q).scene).moments
done_fine c s n d now ends None q i good =
    let l : Left n (given_by c n now ends i s.nodes) (record s { nodes = moved c s.nodes (Takes_in n now ends i) }) (taking c n now ends i s) = left_taking c n now ends i s good in
    record { adds = l.adds; first = l.first }
done_fine c s n d now ends (Some x) q i good =
    let u : Scene = (commanded_at s n d (Some x) q).scene in
    let l : Left n (given_by c n now ends i u.nodes) (record u { nodes = moved c u.nodes (Takes_in n now ends i) }) (taking c n now ends i u) = left_taking c n now ends i u good in
    record { adds = l.adds; first = l.first }

-- a packet comes
arrive_so : (P : EventLaw) (cells : ℕ) (c : Cluster) (s : Scene) (number : ℕ) (x : Packet) (m : Message) (now : ℕ) (ends : method.Outcome) (wants : List Want) → MayHappen c s (Arrives number x m now ends)
    → AreGood x.to (given_by c x.to now ends (input.Packet x.from m) s.nodes) → IsLinkedTo cells (happened c s (Arrives number x m now ends)) → wants ≡ [] → Awaits P cells c s (want.Deliver number x ∷ wants)
    → Awaits P cells c (happened c s (Arrives number x m now ends)) (still (happened c s (Arrives number x m now ends)) wants)
arrive_so P cells c s number x m now ends wants may good linked none k =
    let e : Entry = entry.Packet (packet.Delivered number x.from x.to) in
    let u : Scene = telling e (removed s number) in
    let t : Scene = taking c x.to now ends (input.Packet x.from m) u in
    let os : List Output = given_by c x.to now ends (input.Packet x.from m) s.nodes in
    let v : Scene = record u { nodes = moved c s.nodes (Takes_in x.to now ends (input.Packet x.from m)) } in
    let l : Left x.to os v t = left_taking c x.to now ends (input.Packet x.from m) u good in
    settles P cells c s t (want.Deliver number x) wants none (adds_first e s.moments t.moments tt l.adds)
    (inl (record {
      message = m;
      reads = may.1;
      among = may.4;
      comes = record {
        now = now;
        ends = ends;
        rest = l.adds.entries;
        is = refl;
        are_sent = sent_so cells x.to os v t linked l;
      };
    })) k

note_so : (P : EventLaw) (cells : ℕ) (c : Cluster) (s : Scene) (w : Want) (wants : List Want) (e : Entry) → wants ≡ [] → IsOfEvent e → Leaves cells c s (w ∷ []) (Told e ∷ []) → Awaits P cells c s (w ∷ wants)
    → Awaits P cells c (telling e s) (still (telling e s) wants)
note_so P cells c s w wants e none of leaves k = settles P cells c s (telling e s) w wants none (adds_one e s.moments of) leaves k

due_so : (P : EventLaw) (cells : ℕ) (c : Cluster) (s : Scene) (w : Want) (wants : List Want) (h : Happening) → MayHappen c s h → Stage c (happened c s h) → IsLinkedTo cells (happened c s h) → IsThis w h → Awaits P cells c s (w ∷ wants)
    → Awaits P cells c (happened c s h) (still (happened c s h) wants)
due_so P cells c s (want.Note e) wants (Notes f) may b linked is k =
    note_so P cells c s (want.Note e) wants (entry.Schedule f) k.ready.1 (subst (λ z. IsOfEvent (entry.Schedule z)) (sym is) k.ready.0) (ap (λ z. Told (entry.Schedule z) ∷ []) is) k
due_so P cells c s (want.Take n i) wants (Takes m now ends j) may b linked is k =
    take_so P cells c s m now ends j wants linked (taking_good c s m now ends j b)
    (subst (λ z. Awaits P cells c s (want.Take z j ∷ wants)) (sym is.0) (subst (λ z. Awaits P cells c s (want.Take n z ∷ wants)) (sym is.1) k))
due_so P cells c s (want.Deliver number x) wants (Arrives j y m now ends) may b linked is k =
    arrive_so P cells c s j y m now ends wants may (taking_good c (telling (entry.Packet (packet.Delivered j y.from y.to)) (removed s j)) y.to now ends (input.Packet y.from m) b) linked k.ready (subst (λ z. Awaits P cells c s (want.Deliver z y ∷ wants)) (sym is.0) (subst (λ z. Awaits P cells c s (want.Deliver number z ∷ wants)) (sym is.1) k))
due_so P cells c s (want.Deliver number x) wants (Strays j y) may b linked is k =
    let e : Entry = entry.Packet (packet.Delivered j y.from y.to) in
    settles P cells c s (happened c s (Strays j y)) (want.Deliver j y) wants k.ready (adds_one e s.moments tt) (inr (may.1, refl))
    (subst (λ z. Awaits P cells c s (want.Deliver z y ∷ wants)) (sym is.0) (subst (λ z. Awaits P cells c s (want.Deliver number z ∷ wants)) (sym is.1) k))
due_so P cells c s (want.Miss number x) wants (Misses j y) may b linked is k =
    settles P cells c s (happened c s (Misses j y)) (want.Miss j y) wants k.ready (adds_one (entry.Packet (packet.Dropped j drop.Down)) s.moments tt) refl
    (subst (λ z. Awaits P cells c s (want.Miss z y ∷ wants)) (sym is.0) (subst (λ z. Awaits P cells c s (want.Miss number z ∷ wants)) (sym is.1) k))
due_so P cells c s (want.Lose number x) wants (Loses j y) may b linked is k =
    let e : Entry = entry.Packet (packet.Lost j) in
    frees P cells c s (happened c s (Loses j y)) (want.Lose number x) wants (adds_one e s.moments tt) (λ later h. tt) (none_ready (happened c s (Loses j y)) wants k.ready) k
due_so P cells c s (want.Repeat number x) wants (Repeats j y) may b linked is k =
    let o : links.Outcome = sending s.links y.from y.to y.bytes in
    let e : Entry = entry.Packet (packet.Repeated j s.links.next) in
    let u : Scene = telling e (with_links s o.after) in
    let t : Scene = dropped_so o.sent.dropped u in
    frees P cells c s t (want.Repeat number x) wants (adds_first e s.moments t.moments tt (adds_drop o.sent.dropped u)) (λ later h. tt) (none_ready t wants k.ready) k
due_so P cells c s (want.Command n) wants (Commands m d q now ends) may b linked is k =
    let t : Scene = happened c s (Commands m d q now ends) in
    let i : Input = input.Answered (commanded s m d q).answer in
    let f : Fine s.moments t.moments = done_fine c s m d now ends (slice_get s.devices (d - 1)) q i (taking_good c (commanded s m d q).scene m now ends i b) in
    frees P cells c s t (want.Command n) wants f.adds (λ later h. f.first later (none_behind t wants k.ready cells c later h)) (none_ready t wants k.ready) k
due_so P cells c s (want.Write n d value) wants (Writes m e v now ends) may b linked is k =
    let t : Scene = happened c s (Writes m e v now ends) in
    let q : PrCommand = command.Write v in
    let i : Input = input.Wrote e v (commanded s m e q).answer in
    let f : Fine s.moments t.moments = done_fine c s m e now ends (slice_get s.devices (e - 1)) q i (taking_good c (commanded s m e q).scene m now ends i b) in
    frees P cells c s t (want.Write n d value) wants f.adds (λ later h. f.first later (none_behind t wants k.ready cells c later h)) (none_ready t wants k.ready) k
due_so P cells c s (want.Refuse n d value why) wants (Refuses m e v w) may b linked is k =
    let f : Entry = entry.Device (device.Refused m e v w) in
    frees P cells c s (happened c s (Refuses m e v w)) (want.Refuse n d value why) wants (adds_one f s.moments tt) (λ later h. tt) (none_ready (happened c s (Refuses m e v w)) wants k.ready) k
due_so P cells c s _ wants _ may b linked is k = absurd is

-- ---- a line, or a part of a round, opens an event

line_opens : (P : EventLaw) (cells : ℕ) (c : Cluster) (F : Scene → Type 0) (s : Scene) (e : Event) → Opening P cells c F → F s → Awaits P cells c s [] → Awaits P cells c (happened c s (Speaks e)) (brings c (happened c s (Speaks e)) e)
line_opens P cells c F s e o f k = record {
  ready = ready_of c (happened c s (Speaks e)) e;
  events = λ later leaves. subst (λ ms. OfEvents P later ms) (sym (armed_moments c (adding (Said (line.Event e)) s) e)) (o.line_so s e later f leaves, k.events [] refl);
}

part_opens : (P : EventLaw) (cells : ℕ) (c : Cluster) (F : Scene → Type 0) (s : Scene) (e : Event) → Opening P cells c F → F s → Awaits P cells c s [] → Awaits P cells c (adding (Part e) s) (brings c (adding (Part e) s) e)
part_opens P cells c F s e o f k = record { ready = ready_of c (adding (Part e) s) e; events = λ later leaves. (o.part_so s e later f leaves, k.events [] refl) }

-- `rounds done` is no event's
rounds_end : (P : EventLaw) (cells : ℕ) (c : Cluster) (s : Scene) → Awaits P cells c s [] → Awaits P cells c (happened c s (Notes schedule.RoundsDone)) []
rounds_end P cells c s k = record { ready = tt; events = λ later none. (none, k.events [] refl) }

opens_so : (P : EventLaw) (cells : ℕ) (c : Cluster) (F : Scene → Type 0) (s : Scene) (rounds : Option Progress) (h : Happening) → Opening P cells c F → F s → Opens s rounds h → Awaits P cells c s []
    → Awaits P cells c (happened c s h) (opened c (happened c s h) rounds h).wants
opens_so P cells c F s None (Speaks e) o f opens k = line_opens P cells c F s e o f k
opens_so P cells c F s (Some p) (Begins e) o f opens k = part_opens P cells c F s e o f k
opens_so P cells c F s (Some p) (Notes e) o f opens k = subst (λ z. Awaits P cells c (happened c s (Notes z)) []) (sym opens.0) (rounds_end P cells c s k)
opens_so P cells c F s _ _ o f opens k = absurd opens

step_so : (P : EventLaw) (cells : ℕ) (c : Cluster) (F : Scene → Type 0) (s : Scene) (wants : List Want) (rounds : Option Progress) (h : Happening) → MayHappen c s h → Stage c (happened c s h) → IsLinkedTo cells (happened c s h) → Opening P cells c F → F s
    → IsDue s (record { wants = wants; rounds = rounds }) h → Awaits P cells c s wants → Awaits P cells c (happened c s h) (due_after c (happened c s h) (record { wants = wants; rounds = rounds }) h).wants
step_so P cells c F s [] rounds h may b linked o f comes k = opens_so P cells c F s rounds h o f comes k
step_so P cells c F s (w ∷ wants) rounds h may b linked o f comes k = due_so P cells c s w wants h may b linked comes k

-- ---- the run

linked_of : (h : Header) (cells : ℕ) (s : Scene) → Reached (first_cluster h) (first_scene h cells) s → IsLinkedTo cells s
linked_of h cells s r = subst (IsLinkedTo cells) r.is (links_of_each_run h cells r.happenings r.may).links

run_so : (P : EventLaw) (h : Header) (cells : ℕ) → IsSmall h → (F : Scene → Type 0) → Opening P cells (first_cluster h) F → (hs : List Happening) (s : Scene) (d last : Due) → Reached (first_cluster h) (first_scene h cells) s
    → AlongRun F (first_cluster h) s hs → MayAllHappen (first_cluster h) s hs → ShapedFrom (first_cluster h) s d hs last → Awaits P cells (first_cluster h) s d.wants
    → Awaits P cells (first_cluster h) (all_happened (first_cluster h) s hs) last.wants
run_so P h cells size F o [] s d last r known may shaped k = subst (λ (z : Due). Awaits P cells (first_cluster h) s z.wants) shaped k
run_so P h cells size F o (g ∷ hs) s d last r known may shaped k =
    let c : Cluster = first_cluster h in
    let more : Reached c (first_scene h cells) (happened c s g) = reached_more c (first_scene h cells) s g r may.0 in
    run_so P h cells size F o hs (happened c s g) (due_after c (happened c s g) d g) last more known.1 may.1 shaped.1
    (step_so P cells c F s d.wants d.rounds g may.0 (stage_of h cells (happened c s g) size more) (linked_of h cells (happened c s g) more) o known.0 shaped.0 k)

-- what is known of each scene that is reached
pub along_reached : (h : Header) (cells : ℕ) (F : Scene → Type 0) → ((s : Scene) → Reached (first_cluster h) (first_scene h cells) s → F s) → (hs : List Happening) (s : Scene) → Reached (first_cluster h) (first_scene h cells) s
    → MayAllHappen (first_cluster h) s hs → AlongRun F (first_cluster h) s hs
along_reached h cells F known [] s r may = known s r
along_reached h cells F known (g ∷ hs) s r may =
    (known s r, along_reached h cells F known hs (happened (first_cluster h) s g) (reached_more (first_cluster h) (first_scene h cells) s g r may.0) may.1)

first_awaits : (P : EventLaw) (h : Header) (cells : ℕ) → Awaits P cells (first_cluster h) (first_scene h cells) []
unfolding first_scene
first_awaits P h cells = record { ready = tt; events = λ later none. none }

pub reached_first : (h : Header) (cells : ℕ) → Reached (first_cluster h) (first_scene h cells) (first_scene h cells)
reached_first h cells = record { happenings = []; may = tt; is = refl }

pub each_along_run : (P : EventLaw) (h : Header) (cells : ℕ) (hs : List Happening) → IsSmall h → (F : Scene → Type 0) → Opening P cells (first_cluster h) F → AlongRun F (first_cluster h) (first_scene h cells) hs
    → MayAllHappen (first_cluster h) (first_scene h cells) hs → IsShaped (first_cluster h) (first_scene h cells) hs → EachEvent P (all_happened (first_cluster h) (first_scene h cells) hs).moments
each_along_run P h cells hs size F o known may shaped =
    (run_so P h cells size F o hs (first_scene h cells) nothing nothing (reached_first h cells) known may shaped (first_awaits P h cells)).events [] refl

pub each_of_run : (P : EventLaw) (h : Header) (cells : ℕ) (hs : List Happening) → IsSmall h → (F : Scene → Type 0) → Opening P cells (first_cluster h) F → ((s : Scene) → Reached (first_cluster h) (first_scene h cells) s → F s)
    → MayAllHappen (first_cluster h) (first_scene h cells) hs → IsShaped (first_cluster h) (first_scene h cells) hs → EachEvent P (all_happened (first_cluster h) (first_scene h cells) hs).moments
each_of_run P h cells hs size F o known may shaped =
    each_along_run P h cells hs size F o (along_reached h cells F known hs (first_scene h cells) (reached_first h cells) may) may shaped
