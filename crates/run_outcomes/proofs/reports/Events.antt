-- A law of what lines and parts of rounds bring holds of each event of a run of whole lines, with what is known of the scenes before and after it.
use Rattle.std.specs.Prelude.{ℕ, ◌-◌, slice_get, ◌≡◌, ◌++◌, Bool, true, false, List, [], ◌∷◌, Option, None, Some, is_some, if◌then◌else◌}
use Rattle.std.proofs.Common.{refl, ap, sym, subst, ◌∙◌, append-nil}
use Rattle.cl_base.specs.declared.header.Header.{Header}
use Rattle.cl_base.specs.declared.method.Outcome as method
use Rattle.interconnect.specs.Links as links
use Rattle.interconnect.specs.Links.{Links, Packet, sending}
use Rattle.pgr_device.specs.Device.{Device}
use Rattle.pgr_device.specs.declared.command.PrCommand.{PrCommand}
use Rattle.pgr_device.specs.declared.command.PrCommand.TheVariants as command
use Rattle.schedule_text.specs.declared.event.Event.{Event}
use Rattle.schedule_text.specs.declared.line.Line.TheVariants as line
use Rattle.status_report.specs.declared.device_entry.DeviceEntry.TheVariants as device
use Rattle.status_report.specs.declared.entry.Entry.{Entry}
use Rattle.status_report.specs.declared.entry.Entry.TheVariants as entry
use Rattle.status_report.specs.declared.packet_entry.PacketEntry.TheVariants as packet
use Rattle.status_report.specs.declared.schedule_entry.ScheduleEntry.TheVariants as schedule
use Rattle.cl_base.specs.declared.packet.DropCause.TheVariants as drop
use Rattle.history.specs.Links.{links_after}
use Rattle.history.specs.Messages.{onto}
use Rattle.history.specs.Moment.{Moment, Part, Said}
use Rattle.history.specs.Order.{EachEvent, OfEvents}
use Rattle.node_model.specs.declared.cluster.Cluster.{Cluster}
use Rattle.node_model.specs.declared.input.Input.{Input}
use Rattle.node_model.specs.declared.input.Input.TheVariants as input
use Rattle.node_model.specs.declared.output.Output.{Output}
use Rattle.refinement.specs.Runs.{moved}
use Rattle.refinement.specs.Runs.Move.{Takes as Takes_in}
use Rattle.world_model.specs.Devices.{due_at}
use Rattle.world_model.specs.First.{first_cluster}
use Rattle.run_devices.proofs.queues.Added.{IsAlone, IsInEvent, brings_alone, due_in_event}
use Rattle.run_history.proofs.LinksRun.{links_of_each_run}
use Rattle.run_history.proofs.Reached.{Reached, reached_more}
use Rattle.run_history.specs.Happenings.{Happening, MayAllHappen, MayHappen, all_happened, commanded, commanded_at, given_by, happened, removed, taking}
use Rattle.run_history.specs.Happenings.Happening.{Arrives, Begins, Commands, Loses, Misses, Notes, Refuses, Repeats, Speaks, Strays, Takes, Writes}
use Rattle.run_history.specs.Rounds.{Progress}
use Rattle.run_history.specs.Scenes.{Scene, adding, dropped_so, first_scene, telling, with_links}
use Rattle.run_history.specs.Shapes.{Due, IsDue, IsShaped, IsThis, Opens, ShapedFrom, Want, brings, due_after, nothing, opened, still}
use Rattle.run_history.specs.Shapes as want
use Rattle.run_history.specs.Stages.{Stage}
use Rattle.run_lines.proofs.Adds.{Adds, added_of_event, adds_drop, adds_first, adds_one}
use Rattle.run_lines.proofs.Adds as adding_to
use Rattle.run_lines.proofs.Runs.{armed_moments}
use Rattle.run_messages.proofs.Reaching.{IsSmall, stage_of, taking_good}
use Rattle.run_messages.specs.Outputs.{AreGood}
use Rattle.run_packets.proofs.prepares.Steps.{IsLinkedTo}
use Rattle.run_packets.proofs.repeats.Sent.{Left, left_taking}
use Rattle.run_packets.specs.prepares.Events.{IsLeft}
use Rattle.run_packets.specs.repeats.Events.{AlongRun, AreSent, EventLaw, StartsElse}
use Rattle.run_packets.specs.views.Laws.{NoneForeign, TellsHere}
use Rattle.run_outcomes.specs.reports.Events.{Awaits, Ends, Leaves, LeftBy, Opening}

-- ---- what one thing leaves

same_onto : (xs ms : List Moment) → adding_to.onto xs ms ≡ onto ms xs
same_onto [] ms = refl
same_onto (x ∷ xs) ms = same_onto xs (x ∷ ms)

-- what is sent is among the entries
sent_so : (cells n : ℕ) (os : List Output) (s t : Scene) → IsLinkedTo cells t → (l : Left n os s t) → AreSent cells s.moments n os l.adds.entries
sent_so cells n os s t linked l = λ m b behind short left.
    l.said m b behind short
    (subst (λ (z : Links). IsLeft z.next) (sym linked) (subst (λ ms. IsLeft (links_after cells ms).next) (sym (same_onto l.adds.entries s.moments) ∙ l.adds.is) left))

-- it adds entries, which are so
pub record Added (cells : ℕ) (c : Cluster) (s : Scene) (g : Happening) : Type 0 where
  pub adds : Adds s.moments (happened c s g).moments
  pub left : LeftBy cells c s g adds.entries

first_else : (n : ℕ) (os : List Output) (s t : Scene) (l : Left n os s t) → StartsElse l.adds.entries
first_else n os s t l = subst StartsElse (append-nil l.adds.entries) (l.first [] tt)

-- a node takes the answer of a device
record Answered (cells : ℕ) (c : Cluster) (s : Scene) (n now : ℕ) (ends : method.Outcome) (i : Input) (u : Scene) : Type 0 where
  adds : Adds s.moments (taking c n now ends i u).moments
  else_first : StartsElse adds.entries
  are_sent : AreSent cells s.moments n (given_by c n now ends i u.nodes) adds.entries

answered : (cells : ℕ) (c : Cluster) (s : Scene) (n d now : ℕ) (ends : method.Outcome) (o : Option Device) (q : PrCommand) (i : Input)
    → IsLinkedTo cells (taking c n now ends i (commanded_at s n d o q).scene) → AreGood n (given_by c n now ends i (commanded_at s n d o q).scene.nodes) → Answered cells c s n now ends i (commanded_at s n d o q).scene
answered cells c s n d now ends None q i linked good =
    let t : Scene = taking c n now ends i s in
    let u : Scene = record s { nodes = moved c s.nodes (Takes_in n now ends i) } in
    let l : Left n (given_by c n now ends i s.nodes) u t = left_taking c n now ends i s good in
    record { adds = l.adds; else_first = first_else n (given_by c n now ends i s.nodes) u t l; are_sent = sent_so cells n (given_by c n now ends i s.nodes) u t linked l }
answered cells c s n d now ends (Some x) q i linked good =
    let v : Scene = (commanded_at s n d (Some x) q).scene in
    let t : Scene = taking c n now ends i v in
    let u : Scene = record v { nodes = moved c v.nodes (Takes_in n now ends i) } in
    let l : Left n (given_by c n now ends i v.nodes) u t = left_taking c n now ends i v good in
    record { adds = l.adds; else_first = first_else n (given_by c n now ends i v.nodes) u t l; are_sent = sent_so cells n (given_by c n now ends i v.nodes) u t linked l }

added : (cells : ℕ) (c : Cluster) (s : Scene) (g : Happening) → Stage c (happened c s g) → IsLinkedTo cells (happened c s g) → IsInEvent g → Added cells c s g
added cells c s (Speaks e) b linked is = absurd is
added cells c s (Begins e) b linked is = absurd is
added cells c s (Notes e) b linked is = record { adds = adds_one (entry.Schedule e) s.moments is; left = refl }
added cells c s (Takes n now ends i) b linked is =
    let t : Scene = taking c n now ends i s in
    let u : Scene = record s { nodes = moved c s.nodes (Takes_in n now ends i) } in
    let l : Left n (given_by c n now ends i s.nodes) u t = left_taking c n now ends i s (taking_good c s n now ends i b) in
    record { adds = l.adds; left = (first_else n (given_by c n now ends i s.nodes) u t l, sent_so cells n (given_by c n now ends i s.nodes) u t linked l) }
added cells c s (Arrives number x m now ends) b linked is =
    let e : Entry = entry.Packet (packet.Delivered number x.from x.to) in
    let i : Input = input.Packet x.from m in
    let u : Scene = telling e (removed s number) in
    let t : Scene = taking c x.to now ends i u in
    let v : Scene = record u { nodes = moved c s.nodes (Takes_in x.to now ends i) } in
    let l : Left x.to (given_by c x.to now ends i s.nodes) v t = left_taking c x.to now ends i u (taking_good c u x.to now ends i b) in
    record { adds = adds_first e s.moments t.moments tt l.adds; left = record { rest = l.adds.entries; is = refl; are_sent = sent_so cells x.to (given_by c x.to now ends i s.nodes) v t linked l } }
added cells c s (Strays number x) b linked is = record { adds = adds_one (entry.Packet (packet.Delivered number x.from x.to)) s.moments tt; left = refl }
added cells c s (Misses number x) b linked is = record { adds = adds_one (entry.Packet (packet.Dropped number drop.Down)) s.moments tt; left = tt }
added cells c s (Loses number x) b linked is = record { adds = adds_one (entry.Packet (packet.Lost number)) s.moments tt; left = tt }
added cells c s (Repeats number x) b linked is =
    let o : links.Outcome = sending s.links x.from x.to x.bytes in
    let e : Entry = entry.Packet (packet.Repeated number s.links.next) in
    let u : Scene = telling e (with_links s o.after) in
    record { adds = adds_first e s.moments (dropped_so o.sent.dropped u).moments tt (adds_drop o.sent.dropped u); left = tt }
added cells c s (Commands n d q now ends) b linked is =
    let i : Input = input.Answered (commanded s n d q).answer in
    let a : Answered cells c s n now ends i (commanded s n d q).scene = answered cells c s n d now ends (slice_get s.devices (d - 1)) q i linked (taking_good c (commanded s n d q).scene n now ends i b) in
    record { adds = a.adds; left = (a.else_first, a.are_sent) }
added cells c s (Writes n d value now ends) b linked is =
    let q : PrCommand = command.Write value in
    let i : Input = input.Wrote d value (commanded s n d q).answer in
    let a : Answered cells c s n now ends i (commanded s n d q).scene = answered cells c s n d now ends (slice_get s.devices (d - 1)) q i linked (taking_good c (commanded s n d q).scene n now ends i b) in
    record { adds = a.adds; left = a.else_first }
added cells c s (Refuses n d value why) b linked is = record { adds = adds_one (entry.Device (device.Refused n d value why)) s.moments tt; left = tt }

-- ---- what is due comes

-- behind something else only a command is due
record Behind (v : Want) (more : List Want) : Type 0 where
  node : ℕ
  is : v ≡ want.Command node
  none : more ≡ []

some_none : (w : Want) (ws : List Want) → w ∷ ws ≡ [] → ⊥
some_none w ws e = cc

head_is : (v w : Want) (vs ws : List Want) → v ∷ vs ≡ w ∷ ws → v ≡ w
head_is v w vs ws e = cc

tail_is : (v w : Want) (vs ws : List Want) → v ∷ vs ≡ w ∷ ws → vs ≡ ws
tail_is v w vs ws e = cc

alone_two : (w v : Want) (more : List Want) → IsAlone (w ∷ v ∷ more) → Behind v more
alone_two (want.Take n input.CommandDue) v more h = record { node = n; is = head_is v (want.Command n) more [] h; none = tail_is v (want.Command n) more [] h }
alone_two (want.Note e) v more h = absurd (some_none v more h.1)
alone_two _ v more h = absurd (some_none v more h)

module _ (P : EventLaw) (cells : ℕ) (c : Cluster) (F : Scene → Type 0) where
  -- it alone was due
  one_so : (s : Scene) (w : Want) (g : Happening) → IsThis w g → MayHappen c s g → TellsHere c s (λ before. false) g → Added cells c s g → Awaits P cells c F s (w ∷ []) → Awaits P cells c F (happened c s g) []
  one_so s w g this may native a k = record {
    alone = tt;
    events = λ later t f ends.
        subst (λ xs. OfEvents P xs (happened c s g).moments) (sym ends.0)
        (added_of_event P s.moments (happened c s g).moments [] a.adds
        (subst (λ ys. OfEvents P ys s.moments) (sym (append-nil a.adds.entries))
        (k.events a.adds.entries t f (record { happening = g; this = this; may = may; native = native; left = a.left; moments = sym (same_onto a.adds.entries s.moments) ∙ (a.adds.is ∙ ap (λ (z : Scene). z.moments) (sym ends.1)); at = sym ends.1 }))));
  }

  -- something else is due behind it
  ends_of : (s : Scene) (m : ℕ) (later : List Moment) (t : Scene) → (b : Bool) → Leaves cells c s (if b then want.Command m ∷ [] else []) later t → Ends cells c s (if b then want.Command m ∷ [] else []) later t
  ends_of s m later t true h = h
  ends_of s m later t false h = h

  alone_if : (m : ℕ) (b : Bool) → IsAlone (if b then want.Command m ∷ [] else [])
  alone_if m true = refl
  alone_if m false = tt

  two_so : (s : Scene) (w : Want) (m : ℕ) (g : Happening) → IsThis w g → MayHappen c s g → TellsHere c s (λ before. false) g → Added cells c s g → Awaits P cells c F s (w ∷ want.Command m ∷ [])
      → Awaits P cells c F (happened c s g) (still (happened c s g) (want.Command m ∷ []))
  two_so s w m g this may native a k =
      let u : Scene = happened c s g in
      record {
        alone = alone_if m (is_some (due_at (Some (u.nodes.node m))));
        events = λ later t f leaves.
            added_of_event P s.moments u.moments later a.adds
            (k.events (a.adds.entries ++ later) t f (record {
              happening = g;
              this = this;
              may = may;
              native = native;
              some = a.adds.entries;
              rest = later;
              is = refl;
              left = a.left;
              moments = sym (same_onto a.adds.entries s.moments) ∙ a.adds.is;
              behind = ends_of u m later t (is_some (due_at (Some (u.nodes.node m)))) leaves;
            }));
      }

  due_so : (s : Scene) (w : Want) (wants : List Want) (g : Happening) → IsThis w g → MayHappen c s g → TellsHere c s (λ before. false) g → Added cells c s g → Awaits P cells c F s (w ∷ wants)
      → Awaits P cells c F (happened c s g) (still (happened c s g) wants)
  due_so s w [] g this may native a k = one_so s w g this may native a k
  due_so s w (v ∷ more) g this may native a k =
      let b : Behind v more = alone_two w v more k.alone in
      subst (λ z. Awaits P cells c F (happened c s g) (still (happened c s g) (z ∷ more))) (sym b.is)
      (subst (λ zs. Awaits P cells c F (happened c s g) (still (happened c s g) (want.Command b.node ∷ zs))) (sym b.none)
      (two_so s w b.node g this may native a
      (subst (λ zs. Awaits P cells c F s (w ∷ want.Command b.node ∷ zs)) b.none (subst (λ z. Awaits P cells c F s (w ∷ z ∷ more)) b.is k))))

  -- ---- a line, or a part of a round, opens an event

  module _ (o : Opening P cells c F) where
    line_opens : (s : Scene) (e : Event) → F s → Awaits P cells c F s [] → Awaits P cells c F (happened c s (Speaks e)) (brings c (happened c s (Speaks e)) e)
    line_opens s e f k = record {
      alone = brings_alone c (happened c s (Speaks e)) e;
      events = λ later t g leaves. subst (λ ms. OfEvents P later ms) (sym (armed_moments c (adding (Said (line.Event e)) s) e)) (o.line_so s e later t f g leaves, k.events [] s f (refl, refl));
    }

    part_opens : (s : Scene) (e : Event) → F s → Awaits P cells c F s [] → Awaits P cells c F (adding (Part e) s) (brings c (adding (Part e) s) e)
    part_opens s e f k = record { alone = brings_alone c (adding (Part e) s) e; events = λ later t g leaves. (o.part_so s e later t f g leaves, k.events [] s f (refl, refl)) }

    -- `rounds done` is no event's
    rounds_end : (s : Scene) → F s → Awaits P cells c F s [] → Awaits P cells c F (happened c s (Notes schedule.RoundsDone)) []
    rounds_end s f k = record { alone = tt; events = λ later t g ends. (ends.0, k.events [] s f (refl, refl)) }

    opens_so : (s : Scene) (rounds : Option Progress) (g : Happening) → F s → Opens s rounds g → Awaits P cells c F s [] → Awaits P cells c F (happened c s g) (opened c (happened c s g) rounds g).wants
    opens_so s None (Speaks e) f opens k = line_opens s e f k
    opens_so s (Some p) (Begins e) f opens k = part_opens s e f k
    opens_so s (Some p) (Notes e) f opens k = subst (λ z. Awaits P cells c F (happened c s (Notes z)) []) (sym opens.0) (rounds_end s f k)
    opens_so s _ _ f opens k = absurd opens

    step_so : (s : Scene) (wants : List Want) (rounds : Option Progress) (g : Happening) → MayHappen c s g → TellsHere c s (λ before. false) g → Stage c (happened c s g) → IsLinkedTo cells (happened c s g) → F s
        → IsDue s (record { wants = wants; rounds = rounds }) g → Awaits P cells c F s wants → Awaits P cells c F (happened c s g) (due_after c (happened c s g) (record { wants = wants; rounds = rounds }) g).wants
    step_so s [] rounds g may native b linked f comes k = opens_so s rounds g f comes k
    step_so s (w ∷ wants) rounds g may native b linked f comes k = due_so s w wants g comes may native (added cells c s g b linked (due_in_event w wants g comes k.alone)) k

-- ---- the run

pub linked_of : (h : Header) (cells : ℕ) (s : Scene) → Reached (first_cluster h) (first_scene h cells) s → IsLinkedTo cells s
linked_of h cells s r = subst (IsLinkedTo cells) r.is (links_of_each_run h cells r.happenings r.may).links

run_so : (P : EventLaw) (h : Header) (cells : ℕ) → IsSmall h → (F : Scene → Type 0) → Opening P cells (first_cluster h) F → (hs : List Happening) (s : Scene) (d last : Due) → Reached (first_cluster h) (first_scene h cells) s
    → AlongRun F (first_cluster h) s hs → MayAllHappen (first_cluster h) s hs → ShapedFrom (first_cluster h) s d hs last → NoneForeign (first_cluster h) s hs → Awaits P cells (first_cluster h) F s d.wants
    → F (all_happened (first_cluster h) s hs) × Awaits P cells (first_cluster h) F (all_happened (first_cluster h) s hs) last.wants
run_so P h cells size F o [] s d last r known may shaped native k = (known, subst (λ (z : Due). Awaits P cells (first_cluster h) F s z.wants) shaped k)
run_so P h cells size F o (g ∷ hs) s d last r known may shaped native k =
    let c : Cluster = first_cluster h in
    let more : Reached c (first_scene h cells) (happened c s g) = reached_more c (first_scene h cells) s g r may.0 in
    run_so P h cells size F o hs (happened c s g) (due_after c (happened c s g) d g) last more known.1 may.1 shaped.1 native.1
    (step_so P cells c F o s d.wants d.rounds g may.0 native.0 (stage_of h cells (happened c s g) size more) (linked_of h cells (happened c s g) more) known.0 shaped.0 k)

first_awaits : (P : EventLaw) (h : Header) (cells : ℕ) (F : Scene → Type 0) → Awaits P cells (first_cluster h) F (first_scene h cells) []
unfolding first_scene
first_awaits P h cells F = record { alone = tt; events = λ later t f ends. ends.0 }

pub reached_first : (h : Header) (cells : ℕ) → Reached (first_cluster h) (first_scene h cells) (first_scene h cells)
reached_first h cells = record { happenings = []; may = tt; is = refl }

pub each_event : (P : EventLaw) (h : Header) (cells : ℕ) (hs : List Happening) → IsSmall h → (F : Scene → Type 0) → Opening P cells (first_cluster h) F → AlongRun F (first_cluster h) (first_scene h cells) hs
    → MayAllHappen (first_cluster h) (first_scene h cells) hs → IsShaped (first_cluster h) (first_scene h cells) hs → NoneForeign (first_cluster h) (first_scene h cells) hs
    → EachEvent P (all_happened (first_cluster h) (first_scene h cells) hs).moments
each_event P h cells hs size F o known may shaped native =
    let t : Scene = all_happened (first_cluster h) (first_scene h cells) hs in
    let k : F t × Awaits P cells (first_cluster h) F t [] = run_so P h cells size F o hs (first_scene h cells) nothing nothing (reached_first h cells) known may shaped native (first_awaits P h cells F) in
    k.1.events [] t k.0 (refl, refl)
