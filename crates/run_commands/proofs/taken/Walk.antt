-- A law of what lines bring to nodes holds of each event of a run of whole lines.
use Rattle.std.specs.Prelude.{ℕ, ◌≡◌, ◌++◌, List, [], ◌∷◌, Option, None, Some, is_some}
use Rattle.std.proofs.Common.{refl, sym, ap, subst, append-nil}
use Rattle.cl_base.specs.declared.header.Header.{Header}
use Rattle.cl_base.specs.declared.method.Outcome as method
use Rattle.cl_base.specs.declared.packet.DropCause.TheVariants as drop
use Rattle.cmm_attempt.proofs.Basics.{if_either}
use Rattle.interconnect.specs.Links as links
use Rattle.interconnect.specs.Links.{sending}
use Rattle.pgr_device.specs.declared.command.PrCommand.TheVariants as command
use Rattle.schedule_text.specs.declared.event.Event.{Event}
use Rattle.schedule_text.specs.declared.line.Line.TheVariants as line
use Rattle.status_report.specs.declared.device_entry.DeviceEntry.TheVariants as device
use Rattle.status_report.specs.declared.entry.Entry.{Entry}
use Rattle.status_report.specs.declared.entry.Entry.TheVariants as entry
use Rattle.status_report.specs.declared.packet_entry.PacketEntry.TheVariants as packet
use Rattle.status_report.specs.declared.schedule_entry.ScheduleEntry.TheVariants as schedule
use Rattle.history.specs.Moment.{Moment, Part, Said, Told}
use Rattle.history.specs.Order.{EachEvent, OfEvents}
use Rattle.node_model.specs.declared.cluster.Cluster.{Cluster}
use Rattle.node_model.specs.declared.input.Input.{Input}
use Rattle.node_model.specs.declared.input.Input.TheVariants as input
use Rattle.world_model.specs.Devices.{due_at}
use Rattle.world_model.specs.First.{first_cluster}
use Rattle.run_history.proofs.Reached.{Reached, reached_more}
use Rattle.run_history.specs.Happenings.{Happening, MayAllHappen, all_happened, commanded, given_by, happened, removed, taking}
use Rattle.run_history.specs.Happenings.Happening.{Arrives, Begins, Commands, Loses, Misses, Notes, Refuses, Repeats, Speaks, Strays, Takes, Writes}
use Rattle.run_history.specs.Rounds.{Progress}
use Rattle.run_history.specs.Scenes.{Scene, adding, dropped_so, first_scene, telling, with_links}
use Rattle.run_history.specs.Shapes.{Due, IsDue, IsShaped, IsThis, Opens, ShapedFrom, Want, brings, due_after, nothing, opened, still}
use Rattle.run_history.specs.Shapes as want
use Rattle.run_lines.specs.Entries.{IsOfEvent, IsReady}
use Rattle.run_lines.proofs.Adds.{Adds, added_of_event, adds_drop, adds_first, adds_one}
use Rattle.run_lines.proofs.Runs.{armed_moments, ready_of}
use Rattle.run_lines.proofs.Steps.{done_adds, taken_adds}
use Rattle.run_commands.specs.taken.Entries.{Awaits, EventLaw, Leaves}
use Rattle.run_commands.proofs.taken.Leave.{Left, left_taking}

-- ---- what is due came

-- it alone was due
settles : (P : EventLaw) (c : Cluster) (s t : Scene) (w : Want) (wants : List Want) → wants ≡ [] → (a : Adds s.moments t.moments) → Leaves c s (w ∷ []) a.entries → Awaits P c s (w ∷ wants)
    → Awaits P c t (still t wants)
settles P c s t w wants none a leaves k = subst (λ ws. Awaits P c t (still t ws)) (sym none) (record {
  ready = tt;
  events = λ later e.
      subst (λ xs. OfEvents P xs t.moments) (sym e)
      (added_of_event P s.moments t.moments [] a
      (subst (λ ys. OfEvents P ys s.moments) (sym (append-nil a.entries)) (k.events a.entries (subst (λ ws. Leaves c s (w ∷ ws) a.entries) (sym none) leaves))));
})

-- nothing is said of its entries
frees : (P : EventLaw) (c : Cluster) (s t : Scene) (w : Want) (wants : List Want) → ((later : List Moment) → Leaves c s (w ∷ wants) later) → Adds s.moments t.moments → IsReady t (still t wants)
    → Awaits P c s (w ∷ wants) → Awaits P c t (still t wants)
frees P c s t w wants free a ready k =
    record { ready = ready; events = λ later leaves. added_of_event P s.moments t.moments later a (k.events (a.entries ++ later) (free (a.entries ++ later))) }

none_ready : (t : Scene) (wants : List Want) → wants ≡ [] → IsReady t (still t wants)
none_ready t wants none = subst (λ ws. IsReady t (still t ws)) (sym none) tt

some_none : (w : Want) (ws : List Want) → w ∷ ws ≡ [] → ⊥
some_none w ws e = cc

-- what is due behind something that comes to a node is its command
behind_ready : (s t : Scene) (n : ℕ) (i : Input) (w : Want) (ws : List Want) → IsReady s (want.Take n i ∷ w ∷ ws) → IsReady t (still t (w ∷ ws))
behind_ready s t n input.CommandDue w ws r =
    subst (λ xs. IsReady t (still t xs)) (sym r) (if_either (IsReady t) (is_some (due_at (Some (t.nodes.node n)))) (want.Command n ∷ []) [] refl tt)
behind_ready s t n input.Boot w ws r = absurd (some_none w ws r.1)
behind_ready s t n input.Crash w ws r = absurd (some_none w ws r.1)
behind_ready s t n input.Tick w ws r = absurd (some_none w ws r.1)
behind_ready s t n (input.Packet from m) w ws r = absurd (some_none w ws r.1)
behind_ready s t n (input.Answered a) w ws r = absurd (some_none w ws r.1)
behind_ready s t n (input.Wrote d value a) w ws r = absurd (some_none w ws r.1)
behind_ready s t n (input.Commanded words) w ws r = absurd (some_none w ws r.1)
behind_ready s t n (input.Reported resource good) w ws r = absurd (some_none w ws r.1)
behind_ready s t n (input.Client address client port) w ws r = absurd (some_none w ws r.1)

take_so : (P : EventLaw) (c : Cluster) (s : Scene) (n now : ℕ) (ends : method.Outcome) (i : Input) (wants : List Want) → Awaits P c s (want.Take n i ∷ wants)
    → Awaits P c (taking c n now ends i s) (still (taking c n now ends i s) wants)
take_so P c s n now ends i [] k =
    let t : Scene = taking c n now ends i s in
    let l : Left (given_by c n now ends i s.nodes) s.moments t.moments = left_taking c n now ends i s in
    settles P c s t (want.Take n i) [] refl l.adds (record { now = now; ends = ends; leave = l.leave }) k
take_so P c s n now ends i (w ∷ ws) k =
    let t : Scene = taking c n now ends i s in
    frees P c s t (want.Take n i) (w ∷ ws) (λ later. tt) (taken_adds c n now ends i s) (behind_ready s t n i w ws k.ready) k

note_so : (P : EventLaw) (c : Cluster) (s : Scene) (w : Want) (wants : List Want) (e : Entry) → wants ≡ [] → IsOfEvent e → Leaves c s (w ∷ []) (Told e ∷ []) → Awaits P c s (w ∷ wants)
    → Awaits P c (telling e s) (still (telling e s) wants)
note_so P c s w wants e none of leaves k = settles P c s (telling e s) w wants none (adds_one e s.moments of) leaves k

due_so : (P : EventLaw) (c : Cluster) (s : Scene) (w : Want) (wants : List Want) (h : Happening) → IsThis w h → Awaits P c s (w ∷ wants) → Awaits P c (happened c s h) (still (happened c s h) wants)
due_so P c s (want.Note e) wants (Notes f) is k =
    note_so P c s (want.Note e) wants (entry.Schedule f) k.ready.1 (subst (λ z. IsOfEvent (entry.Schedule z)) (sym is) k.ready.0) (ap (λ z. Told (entry.Schedule z) ∷ []) is) k
due_so P c s (want.Take n i) wants (Takes m now ends j) is k =
    subst (λ z. Awaits P c (taking c z now ends j s) (still (taking c z now ends j s) wants)) (sym is.0)
    (subst (λ z. Awaits P c (taking c n now ends z s) (still (taking c n now ends z s) wants)) (sym is.1) (take_so P c s n now ends i wants k))
due_so P c s (want.Deliver number x) wants (Arrives j y m now ends) is k =
    let e : Entry = entry.Packet (packet.Delivered j y.from y.to) in
    let u : Scene = telling e (removed s j) in
    let t : Scene = taking c y.to now ends (input.Packet y.from m) u in
    frees P c s t (want.Deliver number x) wants (λ later. tt) (adds_first e s.moments t.moments tt (taken_adds c y.to now ends (input.Packet y.from m) u)) (none_ready t wants k.ready) k
due_so P c s (want.Deliver number x) wants (Strays j y) is k =
    let e : Entry = entry.Packet (packet.Delivered j y.from y.to) in
    frees P c s (happened c s (Strays j y)) (want.Deliver number x) wants (λ later. tt) (adds_one e s.moments tt) (none_ready (happened c s (Strays j y)) wants k.ready) k
due_so P c s (want.Miss number x) wants (Misses j y) is k =
    let e : Entry = entry.Packet (packet.Dropped j drop.Down) in
    frees P c s (happened c s (Misses j y)) (want.Miss number x) wants (λ later. tt) (adds_one e s.moments tt) (none_ready (happened c s (Misses j y)) wants k.ready) k
due_so P c s (want.Lose number x) wants (Loses j y) is k =
    let e : Entry = entry.Packet (packet.Lost j) in
    frees P c s (happened c s (Loses j y)) (want.Lose number x) wants (λ later. tt) (adds_one e s.moments tt) (none_ready (happened c s (Loses j y)) wants k.ready) k
due_so P c s (want.Repeat number x) wants (Repeats j y) is k =
    let o : links.Outcome = sending s.links y.from y.to y.bytes in
    let e : Entry = entry.Packet (packet.Repeated j s.links.next) in
    let u : Scene = telling e (with_links s o.after) in
    let t : Scene = dropped_so o.sent.dropped u in
    frees P c s t (want.Repeat number x) wants (λ later. tt) (adds_first e s.moments t.moments tt (adds_drop o.sent.dropped u)) (none_ready t wants k.ready) k
due_so P c s (want.Command n) wants (Commands m d q now ends) is k =
    frees P c s (happened c s (Commands m d q now ends)) (want.Command n) wants (λ later. tt) (done_adds c s m d now ends q (input.Answered (commanded s m d q).answer))
    (none_ready (happened c s (Commands m d q now ends)) wants k.ready) k
due_so P c s (want.Write n d value) wants (Writes m e v now ends) is k =
    frees P c s (happened c s (Writes m e v now ends)) (want.Write n d value) wants (λ later. tt)
    (done_adds c s m e now ends (command.Write v) (input.Wrote e v (commanded s m e (command.Write v)).answer)) (none_ready (happened c s (Writes m e v now ends)) wants k.ready) k
due_so P c s (want.Refuse n d value why) wants (Refuses m e v w) is k =
    let f : Entry = entry.Device (device.Refused m e v w) in
    frees P c s (happened c s (Refuses m e v w)) (want.Refuse n d value why) wants (λ later. tt) (adds_one f s.moments tt) (none_ready (happened c s (Refuses m e v w)) wants k.ready) k
due_so P c s _ wants _ is k = absurd is

-- ---- a line, or a part of a round, opens an event

-- the law holds of a line once what it brings has come, where this is known of the scene; of a part of a round it says nothing
pub record Opening (P : EventLaw) (c : Cluster) (F : Scene → Type 0) : Type 0 where
  pub line : (s : Scene) (e : Event) (later : List Moment) → F s → Leaves c (happened c s (Speaks e)) (brings c (happened c s (Speaks e)) e) later → P s.moments (Said (line.Event e)) later
  pub part : (before : List Moment) (e : Event) (later : List Moment) → P before (Part e) later

line_opens : (P : EventLaw) (c : Cluster) (F : Scene → Type 0) (s : Scene) (e : Event) → Opening P c F → F s → Awaits P c s [] → Awaits P c (happened c s (Speaks e)) (brings c (happened c s (Speaks e)) e)
line_opens P c F s e o f k = record {
  ready = ready_of c (happened c s (Speaks e)) e;
  events = λ later leaves. subst (λ ms. OfEvents P later ms) (sym (armed_moments c (adding (Said (line.Event e)) s) e)) (o.line s e later f leaves, k.events [] refl);
}

part_opens : (P : EventLaw) (c : Cluster) (F : Scene → Type 0) (s : Scene) (e : Event) → Opening P c F → Awaits P c s [] → Awaits P c (adding (Part e) s) (brings c (adding (Part e) s) e)
part_opens P c F s e o k = record { ready = ready_of c (adding (Part e) s) e; events = λ later leaves. (o.part s.moments e later, k.events [] refl) }

-- `rounds done` is no event's
rounds_end : (P : EventLaw) (c : Cluster) (s : Scene) → Awaits P c s [] → Awaits P c (happened c s (Notes schedule.RoundsDone)) []
rounds_end P c s k = record { ready = tt; events = λ later none. (none, k.events [] refl) }

opens_so : (P : EventLaw) (c : Cluster) (F : Scene → Type 0) (s : Scene) (rounds : Option Progress) (h : Happening) → Opening P c F → F s → Opens s rounds h → Awaits P c s []
    → Awaits P c (happened c s h) (opened c (happened c s h) rounds h).wants
opens_so P c F s None (Speaks e) o f opens k = line_opens P c F s e o f k
opens_so P c F s (Some p) (Begins e) o f opens k = part_opens P c F s e o k
opens_so P c F s (Some p) (Notes e) o f opens k = subst (λ z. Awaits P c (happened c s (Notes z)) []) (sym opens.0) (rounds_end P c s k)
opens_so P c F s _ _ o f opens k = absurd opens

step_so : (P : EventLaw) (c : Cluster) (F : Scene → Type 0) (s : Scene) (wants : List Want) (rounds : Option Progress) (h : Happening) → Opening P c F → F s
    → IsDue s (record { wants = wants; rounds = rounds }) h → Awaits P c s wants → Awaits P c (happened c s h) (due_after c (happened c s h) (record { wants = wants; rounds = rounds }) h).wants
step_so P c F s [] rounds h o f comes k = opens_so P c F s rounds h o f comes k
step_so P c F s (w ∷ wants) rounds h o f comes k = due_so P c s w wants h comes k

-- ---- the run

-- F is known of each scene that comes before an end of which Q holds
abbrev pub KnownOf : Header → ℕ → (Scene → Type 0) → (Scene → Type 0) → Type 0
KnownOf h cells Q F = (s : Scene) (hs : List Happening) → Reached (first_cluster h) (first_scene h cells) s → Q (all_happened (first_cluster h) s hs) → F s

run_so : (P : EventLaw) (h : Header) (cells : ℕ) (Q F : Scene → Type 0) → Opening P (first_cluster h) F → KnownOf h cells Q F → (hs : List Happening) (s : Scene) (d last : Due)
    → Reached (first_cluster h) (first_scene h cells) s → MayAllHappen (first_cluster h) s hs → ShapedFrom (first_cluster h) s d hs last → Q (all_happened (first_cluster h) s hs)
    → Awaits P (first_cluster h) s d.wants → Awaits P (first_cluster h) (all_happened (first_cluster h) s hs) last.wants
run_so P h cells Q F o known [] s d last r may shaped q k = subst (λ (z : Due). Awaits P (first_cluster h) s z.wants) shaped k
run_so P h cells Q F o known (g ∷ hs) s d last r may shaped q k =
    let c : Cluster = first_cluster h in
    run_so P h cells Q F o known hs (happened c s g) (due_after c (happened c s g) d g) last (reached_more c (first_scene h cells) s g r may.0) may.1 shaped.1 q
    (step_so P c F s d.wants d.rounds g o (known s (g ∷ hs) r q) shaped.0 k)

first_awaits : (P : EventLaw) (h : Header) (cells : ℕ) → Awaits P (first_cluster h) (first_scene h cells) []
unfolding first_scene
first_awaits P h cells = record { ready = tt; events = λ later none. none }

pub each_of_run : (P : EventLaw) (h : Header) (cells : ℕ) (hs : List Happening) (Q F : Scene → Type 0) → Opening P (first_cluster h) F → KnownOf h cells Q F
    → MayAllHappen (first_cluster h) (first_scene h cells) hs → IsShaped (first_cluster h) (first_scene h cells) hs → Q (all_happened (first_cluster h) (first_scene h cells) hs)
    → EachEvent P (all_happened (first_cluster h) (first_scene h cells) hs).moments
each_of_run P h cells hs Q F o known may shaped q =
    (run_so P h cells Q F o known hs (first_scene h cells) nothing nothing (record { happenings = []; may = tt; is = refl }) may shaped q (first_awaits P h cells)).events [] refl
