-- The lines that each thing that happens adds: no tick is among them, but that of a node whose clock ticks, which comes first.
use Rattle.std.specs.Prelude.{ℕ, ◌+◌, ◌-◌, ◌++◌, ◌==◌, ◌≡◌, ◌⊎◌, Bool, true, false, if◌then◌else◌, List, [], ◌∷◌, Option, None, Some, slice_get}
use Rattle.std.proofs.Common.{arith, refl, sym, ap, subst, ◌∙◌, inl, inr}
use Rattle.cl_base.specs.declared.header.Header.{Header}
use Rattle.cl_base.specs.declared.method.Outcome as method
use Rattle.cl_base.specs.declared.packet.DropCause.{DropCause}
use Rattle.cmm_attempt.proofs.Basics.{if_either}
use Rattle.history.specs.Attempts.{is_tick_of}
use Rattle.history.specs.Moment.{Moment, Part, Said, Told}
use Rattle.history.specs.Trace.{delivered, ticked}
use Rattle.interconnect.specs.Links as net
use Rattle.interconnect.specs.Links.{sending}
use Rattle.node_model.specs.declared.cluster.Cluster.{Cluster}
use Rattle.node_model.specs.declared.input.Input.{Input}
use Rattle.node_model.specs.declared.input.Input.TheVariants as input
use Rattle.node_model.specs.declared.node.Node.{Node}
use Rattle.node_model.specs.declared.node.Node.TheVariants.{Down, Up}
use Rattle.node_model.specs.declared.output.Output.{Output}
use Rattle.node_model.specs.declared.output.Output.TheVariants.{Sends, Tells}
use Rattle.node_model.specs.Steps.{stepped}
use Rattle.pgr_device.specs.Device.{Device}
use Rattle.pgr_device.specs.declared.command.PrCommand.{PrCommand}
use Rattle.pgr_device.specs.declared.command.PrCommand.TheVariants as command
use Rattle.refinement.specs.Runs.{moved}
use Rattle.refinement.specs.Runs.Move.{Takes as Takes_in}
use Rattle.refinement.specs.Steps.{disk_rules}
use Rattle.run_history.specs.Happenings.{Happening, all_happened, armed_by, commanded, commanded_at, given_by, happened, removed, taking}
use Rattle.run_history.specs.Happenings.Happening.{Arrives, Begins, Commands, Loses, Misses, Notes, Refuses, Repeats, Speaks, Strays, Takes, Writes}
use Rattle.run_history.specs.Scenes.{Scene, adding, dropped_so, first_scene, passing, posting, sent_as, telling, with_links}
use Rattle.schedule_text.specs.declared.event.Event.{Event}
use Rattle.schedule_text.specs.declared.event.Event.TheVariants as event
use Rattle.schedule_text.specs.declared.line.Line.TheVariants as line
use Rattle.status_report.specs.declared.entry.Entry.{Entry}
use Rattle.status_report.specs.declared.entry.Entry.TheVariants as entry
use Rattle.status_report.specs.declared.node_entry.NodeEntry.TheVariants as note
use Rattle.status_report.specs.declared.packet_entry.PacketEntry.TheVariants as packet
use Rattle.wire.specs.Spelling.{spelling}
use Rattle.wire.specs.declared.message.Message.{Message}
use Rattle.world_model.specs.First.{first_cluster}
use Rattle.world_model.specs.Sends.{is_sent, name_of}
use Rattle.run_lines.proofs.Adds.{onto}
use Rattle.run_outcomes.specs.silence.Anew.{ticks_at, ticks_in}
use Rattle.run_outcomes.proofs.silence.ends.Ticking.{AreUntold, NoTick, Untold}
use Rattle.run_outcomes.proofs.silence.ends.Told.{TicksFirst, given_untold, tick_given}
use Rattle.run_outcomes.proofs.told_tasks.Prefixes.{happened_last}

-- ---- lines without a tick

pub record Calm (before after : List Moment) : Type 0 where
  pub newer : List Moment
  pub is : onto newer before ≡ after
  pub none : (n : ℕ) → ticks_in n newer ≡ 0

no_line : (ms : List Moment) → Calm ms ms
no_line ms = record { newer = []; is = refl; none = λ n. refl }

-- no tick
abbrev IsElse : Moment → Type 0
IsElse (ticked n) = ⊥
IsElse _ = Unit {0}

else_none : (n : ℕ) (x : Moment) → IsElse x → is_tick_of n x ≡ false
else_none n (ticked m) h = absurd h
else_none n _ h = refl

one_zero : (b : Bool) (k : ℕ) → b ≡ false → k ≡ 0 → (if b then 1 else 0) + k ≡ 0
one_zero true k h i = absurd (apart h)
  where
    apart : true ≡ false → ⊥
    apart z = cc
one_zero false k h i = done k i
  where
    done : (k : ℕ) → k ≡ 0 → 0 + k ≡ 0
    done k i = omega (arith, i)

one_line : (x : Moment) (ms : List Moment) → IsElse x → Calm ms (x ∷ ms)
one_line x ms other = record { newer = x ∷ []; is = refl; none = λ n. one_zero (is_tick_of n x) 0 (else_none n x other) refl }

onto_both : (xs ys before : List Moment) → onto (xs ++ ys) before ≡ onto ys (onto xs before)
onto_both [] ys before = refl
onto_both (x ∷ xs) ys before = onto_both xs ys (x ∷ before)

ticks_both : (n : ℕ) (xs ys : List Moment) → ticks_in n xs ≡ 0 → ticks_in n ys ≡ 0 → ticks_in n (xs ++ ys) ≡ 0
ticks_both n [] ys h k = k
ticks_both n (x ∷ xs) ys h k = join (if is_tick_of n x then 1 else 0) (ticks_in n xs) (ticks_in n (xs ++ ys)) h (λ i. ticks_both n xs ys i k)
  where
    join : (a b d : ℕ) → a + b ≡ 0 → (b ≡ 0 → d ≡ 0) → a + d ≡ 0
    join a b d i f = sum a d (first a b i) (f (second a b i))
      where
        first : (a b : ℕ) → a + b ≡ 0 → a ≡ 0
        first a b i = omega (arith, i)

        second : (a b : ℕ) → a + b ≡ 0 → b ≡ 0
        second a b i = omega (arith, i)

        sum : (a d : ℕ) → a ≡ 0 → d ≡ 0 → a + d ≡ 0
        sum a d i j = omega (arith, i, j)

calm_then : (a b d : List Moment) → Calm a b → Calm b d → Calm a d
calm_then a b d h k = record { newer = h.newer ++ k.newer; is = onto_both h.newer k.newer a ∙ (ap (onto k.newer) h.is ∙ k.is); none = λ n. ticks_both n h.newer k.newer (h.none n) (k.none n) }

dropped_calm : (o : Option (ℕ × DropCause)) (s : Scene) → Calm s.moments (dropped_so o s).moments
dropped_calm None s = no_line s.moments
dropped_calm (Some x) s = one_line (Told (entry.Packet (packet.Dropped x.0 x.1))) s.moments tt

posted_calm : (from to : ℕ) (m : Message) (s : Scene) → Calm s.moments (posting from to m s).moments
posted_calm from to m s =
    let o : net.Outcome = sending s.links from to (spelling m) in
    let e : Entry = entry.Packet (packet.Sent s.links.next from to (name_of m.body) (spelling m)) in
    let t : Scene = telling e (with_links s o.after) in
    if_either (λ (z : Scene). Calm s.moments z.moments) (is_sent s.links m) (sent_as from to m o s) s
    (calm_then s.moments t.moments (dropped_so o.sent.dropped t).moments (one_line (Told e) s.moments tt) (dropped_calm o.sent.dropped t)) (no_line s.moments)

entry_else : (e : Entry) → Untold (Tells e) → IsElse (Told e)
entry_else (entry.Node m note.Ticked) h = absurd h
entry_else _ h = tt

passing_calm : (n : ℕ) (os : List Output) (s : Scene) → AreUntold os → Calm s.moments (passing n os s).moments
passing_calm n [] s h = no_line s.moments
passing_calm n (Tells e ∷ os) s h = calm_then s.moments (Told e ∷ s.moments) (passing n os (telling e s)).moments (one_line (Told e) s.moments (entry_else e h.0)) (passing_calm n os (telling e s) h.1)
passing_calm n (Sends to b ∷ os) s h =
    let m : Message = record { sender = n; body = b } in
    calm_then s.moments (posting n to m s).moments (passing n os (posting n to m s)).moments (posted_calm n to m s) (passing_calm n os (posting n to m s) h.1)

-- ---- the lines of a thing that happens

-- the lines after it, behind a tick or not
pub record Grown (x : Happening) (before after : List Moment) : Type 0 where
  pub base : List Moment
  pub calm : Calm base after
  pub from : (base ≡ before) ⊎ ((m : ℕ) × (base ≡ ticked m ∷ before) × ((n : ℕ) → m ≡ n → ticks_at n x ≡ 1))

plainly : (x : Happening) (before after : List Moment) → Calm before after → Grown x before after
plainly x before after c = record { base = before; calm = c; from = inl refl }

armed_grown : (c : Cluster) (e : Event) (s : Scene) → Calm s.moments (armed_by c e (adding (Said (line.Event e)) s)).moments
armed_grown c (event.Fault n d done) s = one_line (Said (line.Event (event.Fault n d done))) s.moments tt
armed_grown c (event.CrashAt n calls choice) s = one_line (Said (line.Event (event.CrashAt n calls choice))) s.moments tt
armed_grown c _ s = one_line _ s.moments tt

-- a node takes something else than a tick
taking_calm : (c : Cluster) (s : Scene) (n now : ℕ) (ends : method.Outcome) (i : Input) → NoTick i → Calm s.moments (taking c n now ends i s).moments
taking_calm c s n now ends i none = passing_calm n (given_by c n now ends i s.nodes) (record s { nodes = moved c s.nodes (Takes_in n now ends i) }) (given_untold c n now ends (s.nodes.node n) (s.nodes.disk n) i none)

itself : (a b : ℕ) → a ≡ b → (a == b) ≡ true
itself a b h = grind arith

down_nothing : (c : Cluster) (n now : ℕ) (ends : method.Outcome) (node : Node) (disk : _) → node ≡ Down → AreUntold (stepped disk_rules c n now ends node disk input.Tick).given
down_nothing c n now ends node disk is = subst (λ z. AreUntold (stepped disk_rules c n now ends z disk input.Tick).given) (sym is) tt

tick_grown : (c : Cluster) (s : Scene) (n now : ℕ) (ends : method.Outcome) → Grown (Takes n now ends input.Tick) s.moments (taking c n now ends input.Tick s).moments
tick_grown c s n now ends = by_node (s.nodes.node n) refl
  where
    u : Scene
    u = record s { nodes = moved c s.nodes (Takes_in n now ends input.Tick) }

    os : List Output
    os = given_by c n now ends input.Tick s.nodes

    own : (k : ℕ) → n ≡ k → ticks_at k (Takes n now ends input.Tick) ≡ 1
    own k same = ap (λ b. if b then 1 else 0) (itself n k same)

    by_first : TicksFirst n os → Grown (Takes n now ends input.Tick) s.moments (passing n os u).moments
    by_first k = subst (λ zs. Grown (Takes n now ends input.Tick) s.moments (passing n zs u).moments) (sym k.is) (record {
      base = ticked n ∷ s.moments;
      calm = passing_calm n k.rest (telling (entry.Node n note.Ticked) u) k.untold;
      from = inr (n, refl, own);
    })

    by_node : (node : Node) → s.nodes.node n ≡ node → Grown (Takes n now ends input.Tick) s.moments (passing n os u).moments
    by_node Down is = plainly (Takes n now ends input.Tick) s.moments (passing n os u).moments (passing_calm n os u (down_nothing c n now ends (s.nodes.node n) (s.nodes.disk n) is))
    by_node (Up x) is = by_first (subst (λ node. TicksFirst n (stepped disk_rules c n now ends node (s.nodes.disk n) input.Tick).given) (sym is) (tick_given c n now ends x (s.nodes.disk n)))

done_calm : (c : Cluster) (s : Scene) (n d now : ℕ) (ends : method.Outcome) (o : Option Device) (q : PrCommand) (i : Input) → NoTick i → Calm s.moments (taking c n now ends i (commanded_at s n d o q).scene).moments
done_calm c s n d now ends None q i none = taking_calm c s n now ends i none
done_calm c s n d now ends (Some x) q i none = taking_calm c (commanded_at s n d (Some x) q).scene n now ends i none

takes_grown : (c : Cluster) (s : Scene) (n now : ℕ) (ends : method.Outcome) (i : Input) → Grown (Takes n now ends i) s.moments (taking c n now ends i s).moments
takes_grown c s n now ends input.Tick = tick_grown c s n now ends
takes_grown c s n now ends i = plainly (Takes n now ends i) s.moments (taking c n now ends i s).moments (taking_calm c s n now ends i tt)

happening_grown : (c : Cluster) (s : Scene) (x : Happening) → Grown x s.moments (happened c s x).moments
happening_grown c s (Speaks e) = plainly (Speaks e) s.moments (armed_by c e (adding (Said (line.Event e)) s)).moments (armed_grown c e s)
happening_grown c s (Begins e) = plainly (Begins e) s.moments (Part e ∷ s.moments) (one_line (Part e) s.moments tt)
happening_grown c s (Notes e) = plainly (Notes e) s.moments (Told (entry.Schedule e) ∷ s.moments) (one_line (Told (entry.Schedule e)) s.moments tt)
happening_grown c s (Takes n now ends i) = takes_grown c s n now ends i
happening_grown c s (Arrives number p m now ends) =
    let u : Scene = telling (entry.Packet (packet.Delivered number p.from p.to)) (removed s number) in
    let t : Scene = taking c p.to now ends (input.Packet p.from m) u in
    plainly (Arrives number p m now ends) s.moments t.moments (calm_then s.moments u.moments t.moments (one_line (delivered number p.from p.to) s.moments tt) (taking_calm c u p.to now ends (input.Packet p.from m) tt))
happening_grown c s (Strays number p) = plainly (Strays number p) s.moments (delivered number p.from p.to ∷ s.moments) (one_line (delivered number p.from p.to) s.moments tt)
happening_grown c s (Misses number p) = record { base = s.moments; calm = one_line _ s.moments tt; from = inl refl }
happening_grown c s (Loses number p) = record { base = s.moments; calm = one_line _ s.moments tt; from = inl refl }
happening_grown c s (Repeats number p) =
    let o : net.Outcome = sending s.links p.from p.to p.bytes in
    let e : Entry = entry.Packet (packet.Repeated number s.links.next) in
    let u : Scene = telling e (with_links s o.after) in
    plainly (Repeats number p) s.moments (dropped_so o.sent.dropped u).moments (calm_then s.moments u.moments (dropped_so o.sent.dropped u).moments (one_line (Told e) s.moments tt) (dropped_calm o.sent.dropped u))
happening_grown c s (Commands n d q now ends) =
    let i : Input = input.Answered (commanded s n d q).answer in
    plainly (Commands n d q now ends) s.moments (taking c n now ends i (commanded s n d q).scene).moments (done_calm c s n d now ends (slice_get s.devices (d - 1)) q i tt)
happening_grown c s (Writes n d value now ends) =
    let q : PrCommand = command.Write value in
    let i : Input = input.Wrote d value (commanded s n d q).answer in
    plainly (Writes n d value now ends) s.moments (taking c n now ends i (commanded s n d q).scene).moments (done_calm c s n d now ends (slice_get s.devices (d - 1)) q i tt)
happening_grown c s (Refuses n d value cause) = record { base = s.moments; calm = one_line _ s.moments tt; from = inl refl }

pub grown_by : (h : Header) (cells : ℕ) (hs : List Happening) (x : Happening)
    → Grown x (all_happened (first_cluster h) (first_scene h cells) hs).moments (all_happened (first_cluster h) (first_scene h cells) (hs ++ x ∷ [])).moments
grown_by h cells hs x =
    let c : Cluster = first_cluster h in
    let s : Scene = all_happened c (first_scene h cells) hs in
    subst (λ (z : Scene). Grown x s.moments z.moments) (sym (happened_last c (first_scene h cells) hs x)) (happening_grown c s x)
