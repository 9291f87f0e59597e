-- Where an attempt newly asks its coordinator for a device, a packet has come to that node, or the answer to its command, and this line begins the count anew.
use Rattle.std.specs.Prelude.{ℕ, ◌-◌, ◌≡◌, true, false, List, ◌∷◌, Some, slice_get}
use Rattle.std.proofs.Common.{refl, sym, ap, subst, ◌∙◌}
use Rattle.cl_base.specs.declared.header.Header.{Header}
use Rattle.cl_base.specs.declared.method.Outcome as method
use Rattle.cmm_attempt.proofs.Basics.{false_true, same_number}
use Rattle.cmm_attempt.specs.Attempts.{AttemptState}
use Rattle.cmm_attempt.specs.Calls.{Take}
use Rattle.device_queue.specs.Queue.{due_device, next_of}
use Rattle.history.specs.Attempts.{gets_task, phase_tick}
use Rattle.history.specs.Member.{in_collect}
use Rattle.history.specs.Moment.{Moment, Told}
use Rattle.history.specs.Trace.{delivered}
use Rattle.history_setting.specs.Settings.{setting_of}
use Rattle.interconnect.specs.Links.{Packet}
use Rattle.node_model.specs.Devices.{answer_told}
use Rattle.node_model.specs.Members.{hearing}
use Rattle.node_model.specs.Steps.{at_second}
use Rattle.node_model.specs.declared.cluster.Cluster.{Cluster}
use Rattle.node_model.specs.declared.input.Input.TheVariants as input
use Rattle.node_model.specs.declared.input.Input.{Input}
use Rattle.node_model.specs.declared.node.UpNode.{UpNode}
use Rattle.node_model.specs.declared.output.Output.{Output}
use Rattle.pgr_device.specs.declared.command.PrCommand.TheVariants as command
use Rattle.pgr_device.specs.declared.command.PrCommand.{PrCommand}
use Rattle.run_devices.proofs.queues.Acts.{due_writes}
use Rattle.run_history.specs.Happenings.Happening.{Arrives, Commands, Strays, Takes, Writes}
use Rattle.run_history.specs.Happenings.{Happening, IsPlain, MayHappen, all_happened, commanded, given_by, happened, removed}
use Rattle.run_history.specs.Scenes.{Scene, first_scene, telling}
use Rattle.run_messages.proofs.Collecting.{nothing_collects}
use Rattle.run_messages.proofs.Reaching.{IsReached, IsSmall}
use Rattle.run_messages.proofs.records.Arrivals.{arrived_kept}
use Rattle.run_messages.proofs.records.Runs.{run_known}
use Rattle.run_messages.specs.records.Kept.{Came}
use Rattle.status_report.specs.declared.device_entry.DeviceEntry.TheVariants as device_entry
use Rattle.status_report.specs.declared.entry.Entry.TheVariants as entry
use Rattle.status_report.specs.declared.packet_entry.PacketEntry.TheVariants as packet
use Rattle.wire.specs.declared.message.Message.{Message}
use Rattle.world_model.specs.Devices.{due_at}
use Rattle.world_model.specs.First.{first_cluster}
use Rattle.run_outcomes.specs.phases.Kept.{In}
use Rattle.run_outcomes.specs.saves.Kept.{IsAt}
use Rattle.run_outcomes.specs.tasks.Onward.{AreStill, Onward, OnwardOf}
use Rattle.run_outcomes.specs.tasks.Own.{Leads, Owned}
use Rattle.run_outcomes.proofs.onward.Here.{taken_here}
use Rattle.run_outcomes.proofs.onward.Messages.{KeepsTasks, Took, packet_out}
use Rattle.run_outcomes.proofs.onward.Passing.{Passed}
use Rattle.run_outcomes.proofs.others.Runs.{Point}
use Rattle.run_outcomes.proofs.outward.Addressed.{packet_to}
use Rattle.run_outcomes.proofs.outward.Runs.{requests_go_out}
use Rattle.run_outcomes.proofs.own_steps.Collected.{packet_passed}
use Rattle.run_outcomes.proofs.own_steps.Commanding.{AnsweredSo, answered_here, joins_quietly}
use Rattle.run_outcomes.proofs.own_steps.Requests.{arrives_keeps}
use Rattle.run_outcomes.proofs.own_steps.Steps.{takes_part}
use Rattle.run_outcomes.proofs.own_tasks.Grounds.{leads_at}
use Rattle.run_outcomes.proofs.own_tasks.Runs.{run_owned}
use Rattle.run_outcomes.proofs.reports.Disks.{commanded_nodes}
use Rattle.run_outcomes.proofs.results.Dues.{two_of}
use Rattle.run_outcomes.proofs.shown.HeardRuns.{commanded_moments}
use Rattle.run_outcomes.proofs.silence.ends.Grown.{Grown}
use Rattle.run_outcomes.proofs.silence.ends.OwnMarks.{IsTaker, gets_counted}
use Rattle.run_outcomes.proofs.silence.ends.OwnSteps.{NewOwn, new_gets, same_node}
use Rattle.run_outcomes.proofs.silence.ends.OwnTicks.{beside_never, tick_never}
use Rattle.run_outcomes.proofs.silence.tasks.Marks.{Mark, command_mark, delivered_mark}
use Rattle.run_outcomes.proofs.silence.tasks.Steps.{Begun, arrival_begun, commands_begun}

module _ (h : Header) (cells : ℕ) (hs : List Happening) (z : Point h cells hs) where
  abbrev c : Cluster
  c = first_cluster h

  abbrev s : Scene
  s = all_happened (first_cluster h) (first_scene h cells) hs

  size : IsSmall h
  size = record { few = z.few; small = z.small }

  here : IsReached h cells s
  here = record { happenings = hs; may = z.may; is = refl }

  -- where the attempt newly asks for a device in it, its count begins anew
  abbrev pub Counted : Happening → ℕ → Type 0
  Counted e n = (x y : UpNode) (a b : AttemptState) (d : ℕ) → NewOwn h s (happened c s e) n x y a b d → Grown e s.moments (happened c s e).moments → phase_tick (setting_of h) a.plan.epoch (happened c s e).moments ≡ 0

  gets_so : (e : Happening) (n : ℕ) (x y : UpNode) (a b : AttemptState) (d : ℕ) → NewOwn h s (happened c s e) n x y a b d → Grown e s.moments (happened c s e).moments → (mark : Moment) → IsTaker mark
      → Mark (setting_of h) n a.plan.epoch s.moments mark → Passed n (mark ∷ s.moments) (happened c s e).moments → Begun n mark s.moments (happened c s e).moments → phase_tick (setting_of h) a.plan.epoch (happened c s e).moments ≡ 0
  gets_so e n x y a b d k grown mark taker m passed l =
      gets_counted (setting_of h) a.plan.epoch e s.moments (happened c s e).moments mark l.rest grown l.is taker
      (subst (λ j. gets_task (setting_of h) j s.moments mark ≡ true) (sym k.f.so.own) (new_gets h s (happened c s e) n x y a b d k mark m passed))

  arrives : (number : ℕ) (p : Packet) (m : Message) (now : ℕ) (ends : method.Outcome) → MayHappen c s (Arrives number p m now ends) → Counted (Arrives number p m now ends) p.to
  arrives number p m now ends may x y a b d k grown =
      gets_so (Arrives number p m now ends) p.to x y a b d k grown mark tt
      (delivered_mark (setting_of h) p.to number p.from a.plan.epoch s.moments k.f.so.own k.f.session k.f.so.last (requests_go_out h cells hs size z.may) (packet_to h cells s number p size here may.0))
      passed (arrival_begun c number now ends s p m)
    where
      mark : Moment
      mark = delivered number p.from p.to

      u : Scene
      u = telling (entry.Packet (packet.Delivered number p.from p.to)) (removed s number)

      os : List Output
      os = given_by c p.to now ends (input.Packet p.from m) u.nodes

      came : Came (mark ∷ s.moments) p.to p.from m.body
      came = arrived_kept c s number p m may.0 may.1 (run_known h cells hs z.few z.small z.may)

      passed : Passed p.to (mark ∷ s.moments) (happened c s (Arrives number p m now ends)).moments
      passed =
          let keeps : KeepsTasks c p.to (hearing (at_second now x) p.from m.body) m.body =
          arrives_keeps h cells s number now p m x size here may.0 may.1 k.was (subst (IsAt (Owned p.to)) k.was (run_owned h cells hs size z.may p.to)) in
          let r : AreStill p.to os × Took c p.to x (Take p.from m) b y.tasks =
          subst (In (OnwardOf p.to (Took c p.to x (Take p.from m)) y.tasks os)) k.has
          (taken_here c p.to now ends (input.Packet p.from m) u (Onward p.to (Took c p.to x (Take p.from m))) x y k.was k.up (λ so. packet_out c p.to ends (at_second now x) p.from m keeps)) k.seizing in
          packet_passed c p.to number p.from now ends m s.moments u x y b refl came k.was k.up k.has r.0

  commands : (n d : ℕ) (q : PrCommand) (now : ℕ) (ends : method.Outcome) → MayHappen c s (Commands n d q now ends) → Counted (Commands n d q now ends) n
  commands n d q now ends may x y a b j k grown =
      gets_so (Commands n d q now ends) n x y a b j k grown mark tt
      (command_mark (setting_of h) n d a.plan.epoch q (commanded s n d q).answer s.moments (due_writes x.tasks q two.1) k.f.so.last)
      (subst (λ ms. Passed n (mark ∷ ms) (happened c s (Commands n d q now ends)).moments) line answered.passed) (commands_begun c n n d now ends q s may)
    where
      u : Scene
      u = (commanded s n d q).scene

      mark : Moment
      mark = Told (entry.Device (device_entry.Command n d q (answer_told (commanded s n d q).answer)))

      nodes : u.nodes ≡ s.nodes
      nodes = commanded_nodes s n d (slice_get s.devices (d - 1)) q

      line : u.moments ≡ s.moments
      line = commanded_moments s n d (slice_get s.devices (d - 1)) q

      two : (due_device x.tasks ≡ Some d) × (next_of x.tasks ≡ Some q)
      two = two_of (due_device x.tasks) (next_of x.tasks) d q (subst (λ v. due_at (Some v) ≡ Some (d, q)) k.was may.2)

      answered : AnsweredSo c n d now ends q (commanded s n d q).answer u x y b
      answered =
          answered_here c n d now ends q (commanded s n d q).answer u x y b (subst (λ ms. in_collect n ms ≡ false) (sym line) (nothing_collects n s.moments may.4)) two.0 two.1
          (λ e r done. joins_quietly n x (commanded s n d q).answer e r (subst (IsAt (Leads n)) k.was (leads_at h cells s n size here)) (subst (IsAt (Owned n)) k.was (run_owned h cells hs size z.may n)) done)
          (ap (λ v. v.node n) nodes ∙ k.was) k.up k.has k.seizing

  takes : (n now : ℕ) (ends : method.Outcome) (i : Input) → IsPlain i → Counted (Takes n now ends i) n
  takes n now ends input.Tick plain x y a b d k grown = absurd (tick_never h s (happened c s (Takes n now ends input.Tick)) n x y a b d k now ends refl)
  takes n now ends (input.Packet from m) plain x y a b d k grown = absurd plain
  takes n now ends (input.Answered r) plain x y a b d k grown = absurd plain
  takes n now ends i plain x y a b d k grown = absurd (beside_never h s (happened c s (Takes n now ends i)) n x y a b d k now ends i s tt refl refl)

  writes : (n d value now : ℕ) (ends : method.Outcome) → Counted (Writes n d value now ends) n
  writes n d value now ends x y a b j k grown =
      absurd (beside_never h s (happened c s (Writes n d value now ends)) n x y a b j k now ends (input.Wrote d value (commanded s n d (command.Write value)).answer) (commanded s n d (command.Write value)).scene tt
      (ap (λ v. v.node n) (commanded_nodes s n d (slice_get s.devices (d - 1)) (command.Write value))) refl)

  strays : (number : ℕ) (p : Packet) → Counted (Strays number p) p.to
  strays number p x y a b d k grown = absurd (same_node h s (happened c s (Strays number p)) p.to x y a b d k refl)

  -- each thing that happens to it
  pub counted : (e : Happening) (n : ℕ) → MayHappen c s e → takes_part n e ≡ true → Counted e n
  counted (Takes m now ends i) n may part = subst (Counted (Takes m now ends i)) (same_number m n part) (takes m now ends i may.1)
  counted (Arrives number p m now ends) n may part = subst (Counted (Arrives number p m now ends)) (same_number p.to n part) (arrives number p m now ends may)
  counted (Strays number p) n may part = subst (Counted (Strays number p)) (same_number p.to n part) (strays number p)
  counted (Commands m d q now ends) n may part = subst (Counted (Commands m d q now ends)) (same_number m n part) (commands m d q now ends may)
  counted (Writes m d value now ends) n may part = subst (Counted (Writes m d value now ends)) (same_number m n part) (writes m d value now ends)
  counted e n may part = absurd (false_true part)
