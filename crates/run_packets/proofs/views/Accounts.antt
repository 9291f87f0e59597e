-- Each run has an account of what was foreign in it.
use Rattle.std.specs.Prelude.{ℕ, ◌-◌, ◌==◌, ◌&&◌, ◌||◌, ◌≡◌, ◌≤◌, ◌<◌, Bool, true, false, List, [], ◌∷◌, length, Option, None, Some, slice_get}
use Rattle.std.proofs.Common.{refl, sym, ap, ◌∙◌, arith}
use Rattle.cl_base.specs.declared.method.Outcome as method
use Rattle.cl_base.specs.declared.packet.DropCause.{DropCause}
use Rattle.cl_base.specs.declared.packet.DropCause.TheVariants as drop
use Rattle.cmm_attempt.proofs.Basics.{if_either}
use Rattle.history.specs.Moment.{Moment, Part, Said, Told}
use Rattle.interconnect.specs.Links as links
use Rattle.interconnect.specs.Links.{Packet, sending}
use Rattle.node_model.specs.declared.cluster.Cluster.{Cluster}
use Rattle.node_model.specs.declared.input.Input.{Input}
use Rattle.node_model.specs.declared.input.Input.TheVariants as input
use Rattle.node_model.specs.declared.output.Output.{Output}
use Rattle.node_model.specs.declared.output.Output.TheVariants.{Sends, Tells}
use Rattle.pgr_device.specs.Device.{Device}
use Rattle.pgr_device.specs.declared.command.PrCommand.{PrCommand}
use Rattle.pgr_device.specs.declared.command.PrCommand.TheVariants as command
use Rattle.refinement.specs.Runs.{moved}
use Rattle.refinement.specs.Runs.Move.{Takes as Takes_in}
use Rattle.run_history.specs.Happenings.{Arrives, Begins, Commanded, Commands, Happening, Loses, Misses, Notes, Refuses, Repeats, Speaks, Strays, Takes, Writes, armed_by, commanded, commanded_at, given_by, happened, removed, taking}
use Rattle.run_history.specs.Scenes.{Scene, adding, dropped_so, passing, posting, sent_as, telling, with_links}
use Rattle.schedule_text.specs.declared.event.Event.{Event}
use Rattle.schedule_text.specs.declared.event.Event.TheVariants as event
use Rattle.schedule_text.specs.declared.line.Line.TheVariants as line
use Rattle.status_report.specs.declared.device_entry.DeviceEntry.TheVariants as device
use Rattle.status_report.specs.declared.entry.Entry.{Entry}
use Rattle.status_report.specs.declared.entry.Entry.TheVariants as entry
use Rattle.status_report.specs.declared.packet_entry.PacketEntry.TheVariants as packet
use Rattle.wire.specs.Spelling.{spelling}
use Rattle.wire.specs.declared.message.Message.{Message}
use Rattle.world_model.specs.Sends.{is_sent, name_of}
use Rattle.run_packets.specs.views.Laws.{Account, IsAccountOf, TellsHere, is_foreign_to}

-- ---- the account

abbrev pub account_here : Cluster → Scene → Happening → Account
account_here c s (Arrives number x m now ends) before = (length before == length s.moments) && is_foreign_to c x.to (s.nodes.node x.to) m.body
account_here c s h before = false

abbrev pub account_of : Cluster → Scene → List Happening → Account
account_of c s [] before = false
account_of c s (h ∷ hs) before = account_here c s h before || account_of c (happened c s h) hs before

-- ---- moments are only added

abbrev Grows : List Moment → List Moment → Type 0
Grows before after = length before ≤ length after

same_length : (ms : List Moment) → Grows ms ms
same_length ms = omega arith

one_more : (x : Moment) (ms : List Moment) → Grows ms (x ∷ ms)
one_more x ms = omega arith

grows_then : (first second third : List Moment) → length first ≤ length second → length second ≤ length third → Grows first third
grows_then first second third h i = omega (arith, h, i)

dropped_grows : (o : Option (ℕ × DropCause)) (s : Scene) → Grows s.moments (dropped_so o s).moments
dropped_grows None s = same_length s.moments
dropped_grows (Some drop) s = one_more (Told (entry.Packet (packet.Dropped drop.0 drop.1))) s.moments

-- one more line, and then perhaps a drop
told_and_dropped : (e : Entry) (o : Option (ℕ × DropCause)) (s : Scene) → Grows s.moments (dropped_so o (telling e s)).moments
told_and_dropped e o s = grows_then s.moments (Told e ∷ s.moments) (dropped_so o (telling e s)).moments (one_more (Told e) s.moments) (dropped_grows o (telling e s))

posting_grows : (from to : ℕ) (m : Message) (s : Scene) → Grows s.moments (posting from to m s).moments
posting_grows from to m s =
    let o : links.Outcome = sending s.links from to (spelling m) in
    if_either (λ (t : Scene). Grows s.moments t.moments) (is_sent s.links m) (sent_as from to m o s) s
    (told_and_dropped (entry.Packet (packet.Sent s.links.next from to (name_of m.body) (spelling m))) o.sent.dropped (with_links s o.after)) (same_length s.moments)

passing_grows : (n : ℕ) (os : List Output) (s : Scene) → Grows s.moments (passing n os s).moments
passing_grows n [] s = same_length s.moments
passing_grows n (Tells e ∷ os) s = grows_then s.moments (Told e ∷ s.moments) (passing n os (telling e s)).moments (one_more (Told e) s.moments) (passing_grows n os (telling e s))
passing_grows n (Sends to b ∷ os) s =
    let t : Scene = posting n to (record { sender = n; body = b }) s in
    grows_then s.moments t.moments (passing n os t).moments (posting_grows n to (record { sender = n; body = b }) s) (passing_grows n os t)

taking_grows : (c : Cluster) (n now : ℕ) (ends : method.Outcome) (i : Input) (s : Scene) → Grows s.moments (taking c n now ends i s).moments
taking_grows c n now ends i s = passing_grows n (given_by c n now ends i s.nodes) (record s { nodes = moved c s.nodes (Takes_in n now ends i) })

armed_grows : (c : Cluster) (e : Event) (s : Scene) → Grows s.moments (armed_by c e s).moments
armed_grows c (event.Fault n d done) s = same_length s.moments
armed_grows c (event.CrashAt n calls choice) s = same_length s.moments
armed_grows c _ s = same_length s.moments

commanded_grows : (s : Scene) (n d : ℕ) (o : Option Device) (k : PrCommand) → Grows s.moments (commanded_at s n d o k).scene.moments
commanded_grows s n d None k = same_length s.moments
commanded_grows s n d (Some device) k = same_length s.moments

happened_grows : (c : Cluster) (s : Scene) (h : Happening) → Grows s.moments (happened c s h).moments
happened_grows c s (Speaks e) =
    grows_then s.moments (Said (line.Event e) ∷ s.moments) (happened c s (Speaks e)).moments (one_more (Said (line.Event e)) s.moments) (armed_grows c e (adding (Said (line.Event e)) s))
happened_grows c s (Begins e) = one_more (Part e) s.moments
happened_grows c s (Notes e) = one_more (Told (entry.Schedule e)) s.moments
happened_grows c s (Takes n now ends i) = taking_grows c n now ends i s
happened_grows c s (Arrives number x m now ends) =
    let came : Entry = entry.Packet (packet.Delivered number x.from x.to) in
    grows_then s.moments (Told came ∷ s.moments) (happened c s (Arrives number x m now ends)).moments (one_more (Told came) s.moments)
    (taking_grows c x.to now ends (input.Packet x.from m) (telling came (removed s number)))
happened_grows c s (Strays number x) = one_more (Told (entry.Packet (packet.Delivered number x.from x.to))) s.moments
happened_grows c s (Misses number x) = one_more (Told (entry.Packet (packet.Dropped number drop.Down))) s.moments
happened_grows c s (Loses number x) = one_more (Told (entry.Packet (packet.Lost number))) s.moments
happened_grows c s (Repeats number x) =
    let o : links.Outcome = sending s.links x.from x.to x.bytes in
    told_and_dropped (entry.Packet (packet.Repeated number s.links.next)) o.sent.dropped (with_links s o.after)
happened_grows c s (Commands n d k now ends) =
    let z : Commanded = commanded s n d k in
    grows_then s.moments z.scene.moments (happened c s (Commands n d k now ends)).moments (commanded_grows s n d (slice_get s.devices (d - 1)) k) (taking_grows c n now ends (input.Answered z.answer) z.scene)
happened_grows c s (Writes n d value now ends) =
    let z : Commanded = commanded s n d (command.Write value) in
    grows_then s.moments z.scene.moments (happened c s (Writes n d value now ends)).moments (commanded_grows s n d (slice_get s.devices (d - 1)) (command.Write value))
    (taking_grows c n now ends (input.Wrote d value z.answer) z.scene)
happened_grows c s (Refuses n d value cause) = one_more (Told (entry.Device (device.Refused n d value cause))) s.moments

-- ---- the account of the run tells each delivery

arrival_grows : (c : Cluster) (s : Scene) (number : ℕ) (x : Packet) (m : Message) (now : ℕ) (ends : method.Outcome) → length s.moments < length (happened c s (Arrives number x m now ends)).moments
arrival_grows c s number x m now ends =
    let came : Entry = entry.Packet (packet.Delivered number x.from x.to) in
    less (Told came) s.moments (happened c s (Arrives number x m now ends)).moments (taking_grows c x.to now ends (input.Packet x.from m) (telling came (removed s number)))
  where
    less : (x : Moment) (before after : List Moment) → length (x ∷ before) ≤ length after → length before < length after
    less x before after h = omega (arith, h)

below : (a b : ℕ) → a < b → (a == b) ≡ false
below a b h = grind arith

other : (a b : ℕ) → b < a → (a == b) ≡ false
other a b h = grind arith

not_here : (c : Cluster) (s : Scene) (h : Happening) (before : List Moment) → length before < length s.moments → account_here c s h before ≡ false
not_here c s (Arrives number x m now ends) before less = first (length before == length s.moments) (is_foreign_to c x.to (s.nodes.node x.to) m.body) (below (length before) (length s.moments) less)
  where
    first : (a b : Bool) → a ≡ false → (a && b) ≡ false
    first a b h = ap (λ z. z && b) h
not_here c s _ before less = refl

neither : (a b : Bool) → a ≡ false → b ≡ false → (a || b) ≡ false
neither a b h k = ap (λ z. z || b) h ∙ k

later_none : (c : Cluster) (s : Scene) (hs : List Happening) (before : List Moment) → length before < length s.moments → account_of c s hs before ≡ false
later_none c s [] before less = refl
later_none c s (h ∷ hs) before less =
    neither (account_here c s h before) (account_of c (happened c s h) hs before) (not_here c s h before less)
    (later_none c (happened c s h) hs before (longer before s.moments (happened c s h).moments less (happened_grows c s h)))
  where
    longer : (a b d : List Moment) → length a < length b → length b ≤ length d → length a < length d
    longer a b d less grows = omega (arith, less, grows)

-- an account that agrees is right, too
agreeing : (c : Cluster) (s : Scene) (hs : List Happening) (f g : Account) → ((before : List Moment) → f before ≡ g before) → IsAccountOf c s hs f → IsAccountOf c s hs g
agreeing c s [] f g same h = tt
agreeing c s (x ∷ hs) f g same h = (here x h.0, agreeing c (happened c s x) hs f g same h.1)
  where
    here : (x : Happening) → TellsHere c s f x → TellsHere c s g x
    here (Arrives number p m now ends) tells = sym (same s.moments) ∙ tells
    here _ tells = tt

-- it tells nothing of what comes from this scene on
abbrev IsPast : Scene → Account → Type 0
IsPast s f = (before : List Moment) → length s.moments ≤ length before → f before ≡ false

same_self : (n : ℕ) → (n == n) ≡ true
same_self n = grind arith

tells_here : (c : Cluster) (s : Scene) (h : Happening) (hs : List Happening) (g : Account) → IsPast s g → TellsHere c s (λ before. g before || account_of c s (h ∷ hs) before) h
tells_here c s (Arrives number x m now ends) hs g past =
    by_parts (g s.moments) (length s.moments == length s.moments) (is_foreign_to c x.to (s.nodes.node x.to) m.body) (account_of c (happened c s (Arrives number x m now ends)) hs s.moments)
    (past s.moments (same_length s.moments)) (same_self (length s.moments)) (later_none c (happened c s (Arrives number x m now ends)) hs s.moments (arrival_grows c s number x m now ends))
  where
    by_parts : (a b d e : Bool) → a ≡ false → b ≡ true → e ≡ false → (a || ((b && d) || e)) ≡ d
    by_parts false true true e h k l = refl
    by_parts false true false e h k l = l
    by_parts true b d e h k l = absurd (cc)
    by_parts false false d e h k l = absurd (cc)
tells_here c s _ hs g past = tt

past_more : (c : Cluster) (s : Scene) (h : Happening) (g : Account) → IsPast s g → IsPast (happened c s h) (λ before. g before || account_here c s h before)
past_more c s h g past before grows =
    neither (g before) (account_here c s h before) (past before (grows_then s.moments (happened c s h).moments before (happened_grows c s h) grows)) (by_kind h grows)
  where
    by_kind : (h : Happening) → Grows (happened c s h).moments before → account_here c s h before ≡ false
    by_kind (Arrives number x m now ends) grows =
        ap (λ z. z && is_foreign_to c x.to (s.nodes.node x.to) m.body) (apart s.moments (happened c s (Arrives number x m now ends)).moments before (arrival_grows c s number x m now ends) grows)
      where
        apart : (a b d : List Moment) → length a < length b → length b ≤ length d → (length d == length a) ≡ false
        apart a b d less grows = other (length d) (length a) (omega (arith, less, grows))
    by_kind _ grows = refl

or_or : (a b d : Bool) → ((a || b) || d) ≡ (a || (b || d))
or_or true b d = refl
or_or false b d = refl

right_on : (c : Cluster) (s : Scene) (hs : List Happening) (g : Account) → IsPast s g → IsAccountOf c s hs (λ before. g before || account_of c s hs before)
right_on c s [] g past = tt
right_on c s (h ∷ hs) g past =
    let next : Scene = happened c s h in
    let more : Account = λ before. g before || account_here c s h before in (
      tells_here c s h hs g past,
      agreeing c next hs (λ before. more before || account_of c next hs before) (λ before. g before || account_of c s (h ∷ hs) before)
          (λ before. or_or (g before) (account_here c s h before) (account_of c next hs before)) (right_on c next hs more (past_more c s h g past)),
    )

pub is_account : (c : Cluster) (s : Scene) (hs : List Happening) → IsAccountOf c s hs (account_of c s hs)
is_account c s hs = agreeing c s hs (λ before. false || account_of c s hs before) (account_of c s hs) (λ before. refl) (right_on c s hs (λ before. false) (λ before grows. refl))
