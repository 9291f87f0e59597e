-- In each run the ticks of an attempt go on from step to step, or it has asked anew, or installs.
use Rattle.std.specs.Prelude.{ℕ, ◌+◌, ◌-◌, ◌++◌, ◌==◌, ◌≡◌, ◌≢◌, ◌≤◌, ◌⊎◌, true, false, [], ◌∷◌, Option, None, Some, slice_get, if◌then◌else◌}
use Rattle.std.proofs.Common.{arith, refl, sym, ap, subst, ◌∙◌, inl, inr}
use Rattle.attempt_laws.proofs.Waits.{eighth_tick_ends}
use Rattle.attempt_laws.specs.Asking.{entry_of}
use Rattle.attempt_laws.specs.Waiting.{IsWaiting}
use Rattle.cl_base.specs.declared.header.Header.{Header}
use Rattle.cl_base.specs.declared.method.Outcome as method
use Rattle.cl_base.specs.declared.packet.DropCause.{DropCause}
use Rattle.cmm_attempt.proofs.Basics.{false_true, same_some}
use Rattle.cmm_attempt.specs.Attempts.{AttemptState, is_over}
use Rattle.cmm_attempt.specs.declared.phase.Phase.{Phase}
use Rattle.cmm_attempt.specs.declared.phase.Phase.TheVariants.{Choosing, Collecting, Installing, Over, SeizingOthers, SeizingVotes}
use Rattle.history.specs.Moment.{Said}
use Rattle.history.specs.Names as name
use Rattle.interconnect.specs.Links as net
use Rattle.interconnect.specs.Links.{sending}
use Rattle.machine_base.proofs.Puts.{put_here, put_there, same_or_not}
use Rattle.node_model.specs.Attempts.{is_choosing}
use Rattle.node_model.specs.Members.{is_foreign}
use Rattle.node_model.specs.Steps.{stepped}
use Rattle.node_model.specs.declared.cluster.Cluster.{Cluster}
use Rattle.node_model.specs.declared.input.Input.{Input}
use Rattle.node_model.specs.declared.input.Input.TheVariants as input
use Rattle.node_model.specs.declared.node.Node.{Node}
use Rattle.node_model.specs.declared.node.Node.TheVariants.{Down, Up}
use Rattle.node_model.specs.declared.node.UpNode.{UpNode}
use Rattle.pgr_device.specs.Device.{Device}
use Rattle.pgr_device.specs.declared.command.PrCommand.{PrCommand}
use Rattle.pgr_device.specs.declared.command.PrCommand.TheVariants as command
use Rattle.refinement.specs.Runs.{Nodes, moved}
use Rattle.refinement.specs.Runs.Move.{Takes as Takes_in}
use Rattle.refinement.specs.Steps.{disk_rules}
use Rattle.run_history.proofs.Idle.{passing_nodes}
use Rattle.run_history.specs.Happenings.{Happening, IsPlain, MayAllHappen, MayHappen, all_happened, armed_by, commanded, commanded_at, given_by, happened, removed, taking}
use Rattle.run_history.specs.Happenings.Happening.{Arrives, Begins, Commands, Loses, Misses, Notes, Refuses, Repeats, Speaks, Strays, Takes, Writes}
use Rattle.run_history.specs.Scenes.{Scene, adding, dropped_so, first_scene, telling, with_links}
use Rattle.run_messages.proofs.Reaching.{IsSmall}
use Rattle.run_packets.specs.views.Laws.{TellsHere, is_foreign_to}
use Rattle.schedule_text.specs.declared.event.Event.{Event}
use Rattle.schedule_text.specs.declared.event.Event.TheVariants as event
use Rattle.schedule_text.specs.declared.line.Line.TheVariants as line
use Rattle.status_report.specs.declared.entry.Entry.TheVariants as entry
use Rattle.status_report.specs.declared.packet_entry.PacketEntry.TheVariants as packet
use Rattle.world_model.specs.First.{first_cluster}
use Rattle.run_outcomes.specs.phases.Kept.{In}
use Rattle.run_outcomes.specs.saves.Kept.{IsAt, Rests, RestsIn}
use Rattle.run_outcomes.specs.silence.Anew.{Fresh, has_asked_at, ticks_at}
use Rattle.run_outcomes.specs.silence.Asked.{IsSound}
use Rattle.run_outcomes.specs.tasks.AsksGiven.{IsLeft}
use Rattle.run_outcomes.proofs.asks.Lines.{left_before}
use Rattle.run_outcomes.specs.tasks.Asks.{IsEarly}
use Rattle.run_outcomes.proofs.others.Ends.{last_may}
use Rattle.run_outcomes.proofs.others.Native.{last_native}
use Rattle.run_outcomes.proofs.phases.Leading.{Has}
use Rattle.run_outcomes.proofs.phases.LiveRuns.{none_is_over}
use Rattle.run_outcomes.proofs.phases.Own.{HasOwn, run_own}
use Rattle.run_outcomes.proofs.phases.Promised.{Facts, HasIt, facts, has_it}
use Rattle.run_outcomes.proofs.phases.Runs.{knows_at, none_at, run_takes}
use Rattle.run_outcomes.proofs.rounds_told.Numbers.{happened_next}
use Rattle.run_outcomes.proofs.saves.Kept.{run_kept}
use Rattle.run_outcomes.proofs.silence.Runs.{run_told}
use Rattle.run_outcomes.proofs.silence.ends.Lasting.{TicksGoOn}
use Rattle.run_outcomes.proofs.silence.ends.Ticks.{IsNative, Standing, other_step, tick_of_node}
use Rattle.run_outcomes.proofs.silence.ends.Waits.{reached_eight}
use Rattle.run_outcomes.proofs.told_tasks.Prefixes.{happened_last, may_before, native_before}

waiting_so : (p : Phase) → is_over p ≡ false → is_choosing p ≡ false → IsWaiting p
waiting_so Collecting live rests = tt
waiting_so Choosing live rests = absurd (false_true (sym rests))
waiting_so SeizingVotes live rests = tt
waiting_so SeizingOthers live rests = tt
waiting_so Installing live rests = tt
waiting_so Over live rests = absurd (false_true (sym live))

-- ---- a step

-- what is known of it
record Step (h : Header) (s : Scene) (n : ℕ) (x y : UpNode) (a b : AttemptState) : Type 0 where
  up : s.nodes.node n ≡ Up x
  has : x.attempt ≡ Some a
  none : x.presidency ≡ None
  standing : Standing a
  has_after : y.attempt ≡ Some b
  live : is_over b.phase ≡ false
  rests : is_choosing b.phase ≡ false

same_up : (node : Node) (x y : UpNode) → node ≡ Up x → node ≡ Up y → x ≡ y
same_up node x y h k = ap (up_of x) (sym h ∙ k)
  where
    up_of : UpNode → Node → UpNode
    up_of z Down = z
    up_of z (Up w) = w

module _ (h : Header) (s : Scene) (n : ℕ) (x y : UpNode) (a b : AttemptState) (k : Step h s n x y a b) where
  abbrev c : Cluster
  c = first_cluster h

  zero_more : (p q : ℕ) → p ≤ q → p + 0 ≤ q
  zero_more p q i = omega (arith, i)

  equal_le : (p q : ℕ) → p ≡ q → p + 0 ≤ q
  equal_le p q i = omega (arith, i)

  -- its node does nothing
  apart : (t : Scene) → t.nodes.node n ≡ Up y → t.nodes.node n ≡ s.nodes.node n → (a.ticks + 0 ≤ b.ticks) ⊎ Fresh a b
  apart t there same =
      let one : x ≡ y = same_up (s.nodes.node n) x y k.up (sym same ∙ there) in
      inl (equal_le a.ticks b.ticks (ap (λ (z : AttemptState). z.ticks) (same_some a b (sym k.has ∙ (ap (λ (z : UpNode). z.attempt) one ∙ k.has_after)))))

  lift : (a.ticks ≤ b.ticks) ⊎ Fresh a b → (a.ticks + 0 ≤ b.ticks) ⊎ Fresh a b
  lift (inl le) = inl (zero_more a.ticks b.ticks le)
  lift (inr f) = inr f

  taking_at : (u : Scene) (m now : ℕ) (ends : method.Outcome) (i : Input) (j : ℕ) → (taking c m now ends i u).nodes.node j ≡ (moved c u.nodes (Takes_in m now ends i)).node j
  taking_at u m now ends i j = ap (λ (w : Nodes). w.node j) (passing_nodes m (given_by c m now ends i u.nodes) (record u { nodes = moved c u.nodes (Takes_in m now ends i) }))

  here : (u : Scene) (m now : ℕ) (ends : method.Outcome) (i : Input) → u.nodes.node n ≡ s.nodes.node n → n ≡ m → (taking c m now ends i u).nodes.node n ≡ Up y → (stepped disk_rules c n now ends (Up x) (u.nodes.disk n) i).after ≡ Up y
  here u m now ends i same is there =
      let at_n : (taking c n now ends i u).nodes.node n ≡ Up y = subst (λ j. (taking c j now ends i u).nodes.node n ≡ Up y) (sym is) there in
      subst (λ node. (stepped disk_rules c n now ends node (u.nodes.disk n) i).after ≡ Up y) (same ∙ k.up)
      (sym (put_here u.nodes.node n (stepped disk_rules c n now ends (u.nodes.node n) (u.nodes.disk n) i).after) ∙ (sym (taking_at u n now ends i n) ∙ at_n))

  elsewhere : (u : Scene) (m now : ℕ) (ends : method.Outcome) (i : Input) → u.nodes.node n ≡ s.nodes.node n → n ≢ m → (taking c m now ends i u).nodes.node n ≡ s.nodes.node n
  elsewhere u m now ends i same ne = taking_at u m now ends i n ∙ (put_there u.nodes.node m (stepped disk_rules c m now ends (u.nodes.node m) (u.nodes.disk m) i).after n ne ∙ same)

  -- something else than a tick comes to a node
  other : (u : Scene) (m now : ℕ) (ends : method.Outcome) (i : Input) → u.nodes.node n ≡ s.nodes.node n → (n ≡ m → IsNative c n x i) → (taking c m now ends i u).nodes.node n ≡ Up y → (a.ticks + 0 ≤ b.ticks) ⊎ Fresh a b
  other u m now ends i same native there = by_node (same_or_not n m)
    where
      by_node : (n ≡ m) ⊎ (n ≢ m) → (a.ticks + 0 ≤ b.ticks) ⊎ Fresh a b
      by_node (inl is) = lift (other_step c n now ends x y a b (u.nodes.disk n) i k.has k.none (native is) k.standing (here u m now ends i same is there) k.has_after k.live k.rests)
      by_node (inr ne) = apart (taking c m now ends i u) there (elsewhere u m now ends i same ne)

  tick : (m now : ℕ) (ends : method.Outcome) → (taking c m now ends input.Tick s).nodes.node n ≡ Up y → (a.ticks + ticks_at n (Takes m now ends input.Tick) ≤ b.ticks) ⊎ Fresh a b
  tick m now ends there = by_node (same_or_not n m)
    where
      itself : (p q : ℕ) → p ≡ q → (q == p) ≡ true
      itself p q e = grind arith

      differs : (p q : ℕ) → p ≢ q → (q == p) ≡ false
      differs p q e = grind arith

      by_node : (n ≡ m) ⊎ (n ≢ m) → (a.ticks + ticks_at n (Takes m now ends input.Tick) ≤ b.ticks) ⊎ Fresh a b
      by_node (inl is) =
          subst (λ t. (a.ticks + (if t then 1 else 0) ≤ b.ticks) ⊎ Fresh a b) (sym (itself n m is))
          (tick_of_node c n now ends x y a b (s.nodes.disk n) k.has k.none k.standing (here s m now ends input.Tick refl is there) k.has_after k.live k.rests)
      by_node (inr ne) = subst (λ t. (a.ticks + (if t then 1 else 0) ≤ b.ticks) ⊎ Fresh a b) (sym (differs n m ne)) (apart (taking c m now ends input.Tick s) there (elsewhere s m now ends input.Tick refl ne))

  takes : (m now : ℕ) (ends : method.Outcome) (i : Input) → (n ≡ m → IsNative c n x i) → (taking c m now ends i s).nodes.node n ≡ Up y → (a.ticks + ticks_at n (Takes m now ends i) ≤ b.ticks) ⊎ Fresh a b
  takes m now ends input.Tick native there = tick m now ends there
  takes m now ends i native there = other s m now ends i refl native there

  commanded_same : (m d : ℕ) (o : Option Device) (q : PrCommand) → (commanded_at s m d o q).scene.nodes ≡ s.nodes
  commanded_same m d None q = refl
  commanded_same m d (Some z) q = refl

  dropped_same : (o : Option (ℕ × DropCause)) (z : Scene) → (dropped_so o z).nodes ≡ z.nodes
  dropped_same None z = refl
  dropped_same (Some w) z = refl

  armed_same : (e : Event) → (armed_by c e (adding (Said (line.Event e)) s)).nodes.node n ≡ s.nodes.node n
  armed_same (event.Fault m d done) = refl
  armed_same (event.CrashAt m calls choice) = refl
  armed_same _ = refl

  plain_native : (i : Input) → IsPlain i → IsNative c n x i
  plain_native (input.Packet from m) plain = absurd plain
  plain_native _ plain = tt

  -- each thing that happens
  happening_so : (e : Happening) → MayHappen c s e → TellsHere c s (λ before. false) e → (happened c s e).nodes.node n ≡ Up y → (a.ticks + ticks_at n e ≤ b.ticks) ⊎ Fresh a b
  happening_so (Speaks e) may native there = apart (armed_by c e (adding (Said (line.Event e)) s)) there (armed_same e)
  happening_so (Begins e) may native there = apart s there refl
  happening_so (Notes e) may native there = apart s there refl
  happening_so (Takes m now ends i) may native there = takes m now ends i (λ is. plain_native i may.1) there
  happening_so (Arrives number p m now ends) may native there =
      let u : Scene = telling (entry.Packet (packet.Delivered number p.from p.to)) (removed s number) in
      other u p.to now ends (input.Packet p.from m) refl (λ is. sym (native ∙ (ap (λ z. is_foreign_to c p.to z m.body) (ap s.nodes.node (sym is) ∙ k.up) ∙ ap (λ j. is_foreign c j x m.body) (sym is)))) there
  happening_so (Strays number p) may native there = apart s there refl
  happening_so (Misses number p) may native there = apart s there refl
  happening_so (Loses number p) may native there = apart s there refl
  happening_so (Repeats number p) may native there =
      let o : net.Outcome = sending s.links p.from p.to p.bytes in
      let q : Scene = telling (entry.Packet (packet.Repeated number s.links.next)) (with_links s o.after) in
      apart (dropped_so o.sent.dropped q) there (ap (λ (v : Nodes). v.node n) (dropped_same o.sent.dropped q))
  happening_so (Commands m d q now ends) may native there =
      other (commanded s m d q).scene m now ends (input.Answered (commanded s m d q).answer) (ap (λ (v : Nodes). v.node n) (commanded_same m d (slice_get s.devices (d - 1)) q)) (λ is. tt) there
  happening_so (Writes m d value now ends) may native there =
      other (commanded s m d (command.Write value)).scene m now ends (input.Wrote d value (commanded s m d (command.Write value)).answer)
      (ap (λ (v : Nodes). v.node n) (commanded_same m d (slice_get s.devices (d - 1)) (command.Write value))) (λ is. tt) there
  happening_so (Refuses m d value why) may native there = apart s there refl

-- ---- each step

pub ticks_go_on : TicksGoOn
ticks_go_on h cells hs e last nodes few small disks may shaped native boots left n a b there at number =
    happening_so h s n is.x it.x a b step e (last_may c (first_scene h cells) hs e may) (last_native c (first_scene h cells) hs e native) (ap (λ (z : Scene). z.nodes.node n) (sym whole) ∙ it.up)
  where
    c : Cluster
    c = first_cluster h

    s : Scene
    s = all_happened c (first_scene h cells) hs

    t : Scene
    t = all_happened c (first_scene h cells) (hs ++ e ∷ [])

    whole : t ≡ happened c s e
    whole = happened_last c (first_scene h cells) hs e

    size : IsSmall h
    size = record { few = few; small = small }

    earlier : MayAllHappen c (first_scene h cells) hs
    earlier = may_before c (first_scene h cells) hs (e ∷ []) may

    left_there : IsLeft s.links.next
    left_there = left_before s.links.next (happened c s e).links.next (happened_next c s e) (subst (λ (z : Scene). IsLeft z.links.next) whole left)

    is : HasIt (s.nodes.node n) a
    is = has_it (s.nodes.node n) a there

    it : HasIt (t.nodes.node n) b
    it = has_it (t.nodes.node n) b at

    f : Facts s.moments n a
    f =
        facts h cells s size (record { happenings = hs; may = earlier; is = refl }) n a there
        (run_takes h cells hs size earlier (native_before c (first_scene h cells) hs (e ∷ []) native) n is.x a is.up is.has) (subst (In HasOwn) is.has (subst (IsAt (Has HasOwn)) is.up (run_own h cells hs few small earlier n)))

    sound : IsSound a.plan a.devices a.phase
    sound = ((run_told h cells hs size earlier left_there n is.x a is.up is.has).0 (record { to = 0; called = name.SeizeData 0 })).sound

    live : is_over a.phase ≡ false
    live = none_is_over h cells hs few small earlier n a there

    rests : is_choosing a.phase ≡ false
    rests = subst RestsIn is.has (subst (IsAt Rests) is.up ((run_kept h cells hs few small earlier).rests n))

    step : Step h s n is.x it.x a b
    step = record {
      up = is.up;
      has = is.has;
      none = none_at c s n is.x a (knows_at h cells s size (record { happenings = hs; may = earlier; is = refl })) is.up is.has;
      standing = record {
        plan = record { nodes = sound.nodes; attached = sound.attached };
        apart = sound.apart;
        live = live;
        rests = rests;
        none = λ collects d m. ap (λ es. has_asked_at m (entry_of es d)) (sound.early (subst IsEarly (sym collects) tt));
        few = reached_eight a f.reached;
        late = λ seven. eighth_tick_ends a f.reached f.has (waiting_so a.phase live rests) seven;
      };
      has_after = it.has;
      live = none_is_over h cells (hs ++ e ∷ []) few small may n b at;
      rests = subst RestsIn it.has (subst (IsAt Rests) it.up ((run_kept h cells (hs ++ e ∷ []) few small may).rests n));
    }
