-- Each thing that happens when it is due leaves the entries that are due.
use Rattle.std.specs.Prelude.{ℕ, ◌-◌, ◌≡◌, ◌++◌, ◌==◌, ◌||◌, Bool, true, false, List, [], ◌∷◌, Option, None, Some, is_some, slice_get}
use Rattle.std.specs.List.{AllByRecursion, list_any}
use Rattle.std.proofs.Common.{refl, sym, ap, subst, ◌∙◌, append-nil, arith}
use Rattle.cl_base.specs.declared.method.Outcome as method
use Rattle.cl_base.specs.declared.packet.DropCause.TheVariants as drop
use Rattle.cmm_attempt.proofs.Basics.{if_either}
use Rattle.interconnect.specs.Links as links
use Rattle.interconnect.specs.Links.{Packet, sending}
use Rattle.pgr_device.specs.Device.{Device}
use Rattle.pgr_device.specs.declared.command.PrCommand.{PrCommand}
use Rattle.pgr_device.specs.declared.command.PrCommand.TheVariants as command
use Rattle.status_report.specs.declared.command_entry.CommandEntry.TheVariants as command_entry
use Rattle.status_report.specs.declared.call_entry.CallEntry.TheVariants as call
use Rattle.status_report.specs.declared.device_entry.DeviceEntry.TheVariants as device
use Rattle.status_report.specs.declared.entry.Entry.{Entry}
use Rattle.status_report.specs.declared.entry.Entry.TheVariants as entry
use Rattle.status_report.specs.declared.node_entry.DownCause.TheVariants as cause
use Rattle.status_report.specs.declared.node_entry.NodeEntry.TheVariants as note
use Rattle.status_report.specs.declared.packet_entry.PacketEntry.TheVariants as packet
use Rattle.history.specs.Lines.{is_asked_of, is_probe}
use Rattle.history.specs.Moment.{Moment, Told}
use Rattle.history.specs.Order.{OfEvents}
use Rattle.history.specs.Setting.{Setting}
use Rattle.node_model.specs.declared.cluster.Cluster.{Cluster}
use Rattle.node_model.specs.declared.input.Input.{Input}
use Rattle.node_model.specs.declared.input.Input.TheVariants as input
use Rattle.node_model.specs.declared.output.Output.{Output}
use Rattle.node_model.specs.declared.output.Output.TheVariants.{Tells, Sends}
use Rattle.refinement.specs.Runs.{moved}
use Rattle.refinement.specs.Runs.Move.{Takes as Takes_in}
use Rattle.world_model.specs.Devices.{due_at}
use Rattle.run_history.specs.Happenings.{Happening, commanded, commanded_at, copying, given_by, happened, removed, taking}
use Rattle.run_history.specs.Happenings.Happening.{Arrives, Commands, Loses, Misses, Notes, Refuses, Repeats, Strays, Takes, Writes}
use Rattle.run_history.specs.Scenes.{Scene, dropped_so, passing, telling, with_links}
use Rattle.run_history.specs.Shapes.{IsThis, Want, still}
use Rattle.run_history.specs.Shapes as want
use Rattle.run_lines.specs.Entries.{Awaits, GivesEntry, IsOfEvent, IsReady, Leaves}
use Rattle.run_lines.specs.Laws.{IsAnswered}
use Rattle.run_lines.proofs.Adds.{Adds, added_of_event, adds_drop, adds_first, adds_one, adds_passing}
use Rattle.run_lines.proofs.Outputs.{IsAsked, IsProbed, TellsFirst, boot_first, command_first, crash_alone, gives_entries, report_first, tick_first}

-- ---- what is due came, and nothing is due behind it

settles : (S : Setting) (s t : Scene) (w : Want) (wants : List Want) → wants ≡ [] → (a : Adds s.moments t.moments) → Leaves (w ∷ []) a.entries → Awaits S s (w ∷ wants) → Awaits S t (still t wants)
settles S s t w wants none a leaves k = subst (λ ws. Awaits S t (still t ws)) (sym none) (record {
  ready = tt;
  events = λ later e.
      subst (λ xs. OfEvents (IsAnswered S) xs t.moments) (sym e)
      (added_of_event (IsAnswered S) s.moments t.moments [] a
      (subst (λ ys. OfEvents (IsAnswered S) ys s.moments) (sym (append-nil a.entries)) (k.events a.entries (subst (λ ws. Leaves (w ∷ ws) a.entries) (sym none) leaves))));
})

-- a node readied itself, and its command may be due still
readies : (S : Setting) (s t : Scene) (n m : ℕ) (wants : List Want) → wants ≡ want.Command m ∷ [] → Adds s.moments t.moments → Awaits S s (want.Take n input.CommandDue ∷ wants) → Awaits S t (still t wants)
readies S s t n m wants one a k = subst (λ ws. Awaits S t (still t ws)) (sym one) (record {
  ready = if_either (IsReady t) (is_some (due_at (Some (t.nodes.node m)))) (want.Command m ∷ []) [] refl tt;
  events = λ later leaves. added_of_event (IsAnswered S) s.moments t.moments later a (k.events (a.entries ++ later) tt);
})

-- ---- the first entry

record FirstAdded (P : Entry → Type 0) (before after : List Moment) : Type 0 where
  adds : Adds before after
  first : Entry
  others : List Moment
  holds : P first
  is : adds.entries ≡ Told first ∷ others

first_added : (P : Entry → Type 0) (n : ℕ) (os : List Output) (s : Scene) → AllByRecursion GivesEntry os → TellsFirst P os → FirstAdded P s.moments (passing n os s).moments
first_added P n [] s are h = absurd h
first_added P n (Tells e ∷ os) s are h =
    let rest : Adds (Told e ∷ s.moments) (passing n os (telling e s)).moments = adds_passing n os (telling e s) are.1 in
    record { adds = adds_first e s.moments (passing n os (telling e s)).moments are.0 rest; first = e; others = rest.entries; holds = h; is = refl }
first_added P n (Sends to b ∷ os) s are h = absurd h

begins_with : (e : Entry) (before after : List Moment) (f : FirstAdded (λ z. z ≡ e) before after) → slice_get f.adds.entries 0 ≡ Some (Told e)
begins_with e before after f = ap (λ xs. slice_get xs 0) f.is ∙ ap (λ z. Some (Told z)) f.holds

is_same : (a b : ℕ) → a ≡ b → (a == b) ≡ true
is_same a b e = grind arith

asked_so : (n : ℕ) (e : Entry) → IsAsked n e → is_asked_of n (Some (Told e)) ≡ true
asked_so n (entry.Command (command_entry.Asked m q)) h = is_same m n h
asked_so n _ h = absurd h

probed_so : (n : ℕ) (e : Entry) → IsProbed n e → is_probe n (Told e) ≡ true
probed_so n (entry.Call (call.Probed m resource result)) h = is_same m n h
probed_so n _ h = absurd h

begins_asked : (n : ℕ) (before after : List Moment) (f : FirstAdded (IsAsked n) before after) → is_asked_of n (slice_get f.adds.entries 0) ≡ true
begins_asked n before after f = ap (λ xs. is_asked_of n (slice_get xs 0)) f.is ∙ asked_so n f.first f.holds

any_first : (b c : Bool) → b ≡ true → (b || c) ≡ true
any_first true c e = refl
any_first false c e = cc

begins_probed : (n : ℕ) (before after : List Moment) (f : FirstAdded (IsProbed n) before after) → list_any (is_probe n) f.adds.entries ≡ true
begins_probed n before after f = ap (λ xs. list_any (is_probe n) xs) f.is ∙ any_first (is_probe n (Told f.first)) (list_any (is_probe n) f.others) (probed_so n f.first f.holds)

-- ---- what comes to a node

-- the scene in which it has come, before what the node gives is told
abbrev before_telling : Cluster → ℕ → ℕ → method.Outcome → Input → Scene → Scene
before_telling c n now ends i s = record s { nodes = moved c s.nodes (Takes_in n now ends i) }

pub taken_adds : (c : Cluster) (n now : ℕ) (ends : method.Outcome) (i : Input) (s : Scene) → Adds s.moments (taking c n now ends i s).moments
taken_adds c n now ends i s =
    adds_passing n (given_by c n now ends i s.nodes) (before_telling c n now ends i s) (gives_entries c n now ends (s.nodes.node n) (s.nodes.disk n) i)

taken_first : (P : Entry → Type 0) (c : Cluster) (n now : ℕ) (ends : method.Outcome) (i : Input) (s : Scene) → TellsFirst P (given_by c n now ends i s.nodes)
    → FirstAdded P s.moments (taking c n now ends i s).moments
taken_first P c n now ends i s first =
    first_added P n (given_by c n now ends i s.nodes) (before_telling c n now ends i s) (gives_entries c n now ends (s.nodes.node n) (s.nodes.disk n) i) first

told_first : (e : Entry) (c : Cluster) (n now : ℕ) (ends : method.Outcome) (i : Input) (s : Scene) → TellsFirst (λ z. z ≡ e) (given_by c n now ends i s.nodes)
    → FirstAdded (λ z. z ≡ e) s.moments (taking c n now ends i s).moments
told_first e c n now ends i s first = taken_first (λ z. z ≡ e) c n now ends i s first

-- the node tells this alone
record Alone (e : Entry) (before after : List Moment) : Type 0 where
  adds : Adds before after
  is : adds.entries ≡ Told e ∷ []

alone_passing : (e : Entry) (n : ℕ) (os : List Output) (s : Scene) → IsOfEvent e → os ≡ Tells e ∷ [] → Alone e s.moments (passing n os s).moments
alone_passing e n os s of is = subst (λ zs. Alone e s.moments (passing n zs s).moments) (sym is) (record { adds = adds_one e s.moments of; is = refl })

take_so : (c : Cluster) (S : Setting) (s : Scene) (n now : ℕ) (ends : method.Outcome) (i : Input) (wants : List Want) → Awaits S s (want.Take n i ∷ wants)
    → Awaits S (taking c n now ends i s) (still (taking c n now ends i s) wants)
take_so c S s n now ends input.Boot wants k =
    let t : Scene = taking c n now ends input.Boot s in
    let f : FirstAdded (λ z. z ≡ entry.Node n note.Up) s.moments t.moments =
    told_first (entry.Node n note.Up) c n now ends input.Boot s (boot_first c n now ends (s.nodes.node n) (s.nodes.disk n) k.ready.0) in
    settles S s t (want.Take n input.Boot) wants k.ready.1 f.adds (begins_with (entry.Node n note.Up) s.moments t.moments f) k
take_so c S s n now ends input.Crash wants k =
    let t : Scene = taking c n now ends input.Crash s in
    let e : Entry = entry.Node n (note.Down cause.Crash) in
    let f : Alone e s.moments t.moments =
    alone_passing e n (given_by c n now ends input.Crash s.nodes) (before_telling c n now ends input.Crash s) tt (crash_alone c n now ends (s.nodes.node n) (s.nodes.disk n) k.ready.0) in
    settles S s t (want.Take n input.Crash) wants k.ready.1 f.adds f.is k
take_so c S s n now ends input.Tick wants k =
    let t : Scene = taking c n now ends input.Tick s in
    let f : FirstAdded (λ z. z ≡ entry.Node n note.Ticked) s.moments t.moments =
    told_first (entry.Node n note.Ticked) c n now ends input.Tick s (tick_first c n now ends (s.nodes.node n) (s.nodes.disk n) k.ready.0) in
    settles S s t (want.Take n input.Tick) wants k.ready.1 f.adds (begins_with (entry.Node n note.Ticked) s.moments t.moments f) k
take_so c S s n now ends (input.Commanded words) wants k =
    let i : Input = input.Commanded words in
    let t : Scene = taking c n now ends i s in
    let f : FirstAdded (IsAsked n) s.moments t.moments = taken_first (IsAsked n) c n now ends i s (command_first c n now ends (s.nodes.node n) (s.nodes.disk n) words k.ready.0) in
    settles S s t (want.Take n i) wants k.ready.1 f.adds (begins_asked n s.moments t.moments f) k
take_so c S s n now ends (input.Reported resource good) wants k =
    let i : Input = input.Reported resource good in
    let t : Scene = taking c n now ends i s in
    let f : FirstAdded (IsProbed n) s.moments t.moments = taken_first (IsProbed n) c n now ends i s (report_first c n now ends (s.nodes.node n) (s.nodes.disk n) resource good k.ready.0) in
    settles S s t (want.Take n i) wants k.ready.1 f.adds (begins_probed n s.moments t.moments f) k
take_so c S s n now ends input.CommandDue wants k =
    readies S s (taking c n now ends input.CommandDue s) n n wants k.ready (taken_adds c n now ends input.CommandDue s) k
take_so c S s n now ends (input.Client address client port) wants k =
    settles S s (taking c n now ends (input.Client address client port) s) (want.Take n (input.Client address client port)) wants k.ready.1
    (taken_adds c n now ends (input.Client address client port) s) tt k
take_so c S s n now ends (input.Packet from m) wants k =
    settles S s (taking c n now ends (input.Packet from m) s) (want.Take n (input.Packet from m)) wants k.ready.1 (taken_adds c n now ends (input.Packet from m) s) tt k
take_so c S s n now ends (input.Answered a) wants k =
    settles S s (taking c n now ends (input.Answered a) s) (want.Take n (input.Answered a)) wants k.ready.1 (taken_adds c n now ends (input.Answered a) s) tt k
take_so c S s n now ends (input.Wrote d value a) wants k =
    settles S s (taking c n now ends (input.Wrote d value a) s) (want.Take n (input.Wrote d value a)) wants k.ready.1 (taken_adds c n now ends (input.Wrote d value a) s) tt k

-- ---- whatever is due

told_one : (S : Setting) (s t : Scene) (w : Want) (wants : List Want) (e : Entry) → wants ≡ [] → IsOfEvent e → t.moments ≡ Told e ∷ s.moments → Leaves (w ∷ []) (Told e ∷ []) → Awaits S s (w ∷ wants)
    → Awaits S t (still t wants)
told_one S s t w wants e none of is leaves k =
    let f : Alone e s.moments t.moments = subst (λ ms. Alone e s.moments ms) (sym is) (record { adds = adds_one e s.moments of; is = refl }) in
    settles S s t w wants none f.adds (subst (λ xs. Leaves (w ∷ []) xs) (sym f.is) leaves) k

-- what is done at a device is not told by itself
done_same : (s : Scene) (n d : ℕ) (o : Option Device) (k : PrCommand) → (commanded_at s n d o k).scene.moments ≡ s.moments
done_same s n d None k = refl
done_same s n d (Some x) k = refl

pub done_adds : (c : Cluster) (s : Scene) (n d now : ℕ) (ends : method.Outcome) (k : PrCommand) (i : Input) → Adds s.moments (taking c n now ends i (commanded s n d k).scene).moments
done_adds c s n d now ends k i =
    subst (λ ms. Adds ms (taking c n now ends i (commanded s n d k).scene).moments) (done_same s n d (slice_get s.devices (d - 1)) k) (taken_adds c n now ends i (commanded s n d k).scene)

copied_adds : (S : Setting) (s : Scene) (number : ℕ) (x : Packet) (wants : List Want) → Awaits S s (want.Repeat number x ∷ wants)
    → Awaits S (copying number (sending s.links x.from x.to x.bytes) s) (still (copying number (sending s.links x.from x.to x.bytes) s) wants)
copied_adds S s number x wants k =
    let o : links.Outcome = sending s.links x.from x.to x.bytes in
    let e : Entry = entry.Packet (packet.Repeated number s.links.next) in
    let u : Scene = telling e (with_links s o.after) in
    let t : Scene = dropped_so o.sent.dropped u in
    settles S s t (want.Repeat number x) wants k.ready (adds_first e s.moments t.moments tt (adds_drop o.sent.dropped u)) (is_same number number refl) k

arrives_first : (c : Cluster) (S : Setting) (s : Scene) (number : ℕ) (x : Packet) (now : ℕ) (ends : method.Outcome) (i : Input) (wants : List Want) → Awaits S s (want.Deliver number x ∷ wants)
    → Awaits S (taking c x.to now ends i (telling (entry.Packet (packet.Delivered number x.from x.to)) (removed s number)))
    (still (taking c x.to now ends i (telling (entry.Packet (packet.Delivered number x.from x.to)) (removed s number))) wants)
arrives_first c S s number x now ends i wants k =
    let e : Entry = entry.Packet (packet.Delivered number x.from x.to) in
    let u : Scene = telling e (removed s number) in
    let t : Scene = taking c x.to now ends i u in
    settles S s t (want.Deliver number x) wants k.ready (adds_first e s.moments t.moments tt (taken_adds c x.to now ends i u)) refl k

pub due_so : (c : Cluster) (S : Setting) (s : Scene) (w : Want) (wants : List Want) (h : Happening) → IsThis w h → Awaits S s (w ∷ wants) → Awaits S (happened c s h) (still (happened c s h) wants)
due_so c S s (want.Note e) wants (Notes f) is k =
    told_one S s (happened c s (Notes f)) (want.Note e) wants (entry.Schedule f) k.ready.1 (subst (λ z. IsOfEvent (entry.Schedule z)) (sym is) k.ready.0) refl (ap (λ z. Told (entry.Schedule z) ∷ []) is) k
due_so c S s (want.Take n i) wants (Takes m now ends j) is k =
    subst (λ z. Awaits S (taking c z now ends j s) (still (taking c z now ends j s) wants)) (sym is.0)
    (subst (λ z. Awaits S (taking c n now ends z s) (still (taking c n now ends z s) wants)) (sym is.1) (take_so c S s n now ends i wants k))
due_so c S s (want.Deliver number x) wants (Arrives j y m now ends) is k =
    arrives_first c S s j y now ends (input.Packet y.from m) wants
    (subst (λ z. Awaits S s (want.Deliver z y ∷ wants)) (sym is.0) (subst (λ z. Awaits S s (want.Deliver number z ∷ wants)) (sym is.1) k))
due_so c S s (want.Deliver number x) wants (Strays j y) is k =
    told_one S s (happened c s (Strays j y)) (want.Deliver j y) wants (entry.Packet (packet.Delivered j y.from y.to)) k.ready tt refl refl
    (subst (λ z. Awaits S s (want.Deliver z y ∷ wants)) (sym is.0) (subst (λ z. Awaits S s (want.Deliver number z ∷ wants)) (sym is.1) k))
due_so c S s (want.Miss number x) wants (Misses j y) is k =
    told_one S s (happened c s (Misses j y)) (want.Miss number x) wants (entry.Packet (packet.Dropped j drop.Down)) k.ready tt refl (ap (λ z. Told (entry.Packet (packet.Dropped z drop.Down)) ∷ []) is.0) k
due_so c S s (want.Lose number x) wants (Loses j y) is k =
    told_one S s (happened c s (Loses j y)) (want.Lose number x) wants (entry.Packet (packet.Lost j)) k.ready tt refl (ap (λ z. Told (entry.Packet (packet.Lost z)) ∷ []) is.0) k
due_so c S s (want.Repeat number x) wants (Repeats j y) is k =
    copied_adds S s j y wants (subst (λ z. Awaits S s (want.Repeat z y ∷ wants)) (sym is.0) (subst (λ z. Awaits S s (want.Repeat number z ∷ wants)) (sym is.1) k))
due_so c S s (want.Command n) wants (Commands m d q now ends) is k =
    settles S s (happened c s (Commands m d q now ends)) (want.Command n) wants k.ready (done_adds c s m d now ends q (input.Answered (commanded s m d q).answer)) tt k
due_so c S s (want.Write n d value) wants (Writes m e v now ends) is k =
    settles S s (happened c s (Writes m e v now ends)) (want.Write n d value) wants k.ready (done_adds c s m e now ends (command.Write v) (input.Wrote e v (commanded s m e (command.Write v)).answer)) tt k
due_so c S s (want.Refuse n d value why) wants (Refuses m e v w) is k =
    told_one S s (happened c s (Refuses m e v w)) (want.Refuse n d value why) wants (entry.Device (device.Refused m e v w)) k.ready tt refl
    (ap (λ z. Told (entry.Device (device.Refused z e v w)) ∷ []) is.0 ∙ (ap (λ z. Told (entry.Device (device.Refused n z v w)) ∷ []) is.1
    ∙ (ap (λ z. Told (entry.Device (device.Refused n d z w)) ∷ []) is.2 ∙ ap (λ z. Told (entry.Device (device.Refused n d value z)) ∷ []) is.3))) k
due_so c S s _ wants _ is k = absurd is
