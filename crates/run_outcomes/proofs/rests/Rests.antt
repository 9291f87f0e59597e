-- What comes to a node beside packets leaves it its tasks, where it leads without an attempt after it.
use Rattle.std.specs.Prelude.{ℕ, ◌≡◌, ◌<◌, ◌-◌, ◌==◌, ◌&&◌, true, false, List, ◌∷◌, Option, None, Some, is_ok, slice_get}
use Rattle.std.proofs.Common.{arith, refl, sym, ap, subst, ◌∙◌}
use Rattle.cl_base.specs.declared.header.Header.{Header}
use Rattle.cl_base.specs.declared.method.Outcome as method
use Rattle.cmm_attempt.proofs.Basics.{none_some}
use Rattle.cmm_attempt.specs.Attempts.{AttemptState}
use Rattle.history.specs.Letters.{arrived, passes}
use Rattle.history.specs.Member.{in_collect}
use Rattle.device_queue.specs.Queue.{due_device, next_of}
use Rattle.history.specs.Moment.{Moment, Told}
use Rattle.history.specs.Names as name
use Rattle.history.specs.Names.{same_name}
use Rattle.history.specs.Queue as told
use Rattle.history.specs.Setting.{Setting}
use Rattle.history_setting.specs.Settings.{setting_of}
use Rattle.node_model.specs.Clusters.{first_valid_of}
use Rattle.node_model.specs.Devices.{answer_told, may_write_as}
use Rattle.node_model.specs.Seats.{session_of}
use Rattle.node_model.specs.Steps.{booted_with, stepped}
use Rattle.node_model.specs.declared.cluster.Cluster.{Cluster}
use Rattle.node_model.specs.declared.input.Input.{Input}
use Rattle.node_model.specs.declared.input.Input.TheVariants as input
use Rattle.node_model.specs.declared.node.Node.{Node}
use Rattle.node_model.specs.declared.node.Node.TheVariants.{Down, Up}
use Rattle.node_model.specs.declared.node.UpNode.{UpNode}
use Rattle.cmm_member.specs.Records.{NodeRecord}
use Rattle.pgr_device.specs.Device.{Device}
use Rattle.pgr_device.specs.declared.command.PrCommand.{PrCommand}
use Rattle.pgr_device.specs.declared.command.PrCommand.TheVariants as command
use Rattle.record_disk.specs.Disks.{DiskState, mounting}
use Rattle.record_disk.specs.declared.error.Loss.{Loss}
use Rattle.record_disk.specs.declared.error.Loss.TheVariants.{Fault, Stopped}
use Rattle.refinement.specs.Doings.{answered_so}
use Rattle.refinement.specs.Guards.{OfUp}
use Rattle.refinement.specs.Steps.{disk_rules}
use Rattle.run_devices.proofs.queues.Acts.{due_writes}
use Rattle.run_history.specs.Happenings.{Commanded, MayHappen, commanded_at, happened, taking}
use Rattle.run_history.specs.Happenings.Happening.{Commands, Takes, Writes}
use Rattle.run_history.specs.Scenes.{Scene}
use Rattle.status_report.specs.declared.device_entry.DeviceEntry.TheVariants as device_entry
use Rattle.status_report.specs.declared.entry.Entry.TheVariants as entry
use Rattle.world_model.specs.Devices.{due_at}
use Rattle.world_model.specs.First.{first_cluster}
use Rattle.run_outcomes.specs.saves.Kept.{IsAt}
use Rattle.run_outcomes.proofs.outward.Resting.{IsRested}
use Rattle.run_outcomes.proofs.own_steps.Steps.{RestsThere}
use Rattle.run_outcomes.proofs.rests.Arrivals.{Fresh}
use Rattle.run_outcomes.proofs.rests.Known.{Known, OwnSo, due_task, none_on_way, own_so, step_node}
use Rattle.run_outcomes.proofs.rests.Left.{IsInstalled}
use Rattle.run_outcomes.proofs.rests.Marks.{device_rests}
use Rattle.run_outcomes.proofs.rests.Sessions.{SessionSo}
use Rattle.run_outcomes.proofs.rests.Steps.{Leading, RestsAt, besides_rest, ended_rests, moved_rests, tick_rests}

-- ---- no packet came in the event

calm_apart : (n : ℕ) (ms : List Moment) → arrived ms ≡ None → in_collect n ms ≡ false
calm_apart n ms apart = ap (λ o. passes (λ l. same_name l.name name.Collect && (l.to == n)) o) apart

-- ---- a node that is down comes up outside of any session

none_below : (k : ℕ) → k ≡ 0 → 0 < k → ⊥
none_below k is some = omega (arith, is, some)

booted_session : (n valid : ℕ) (r : NodeRecord) (after : DiskState) (lost : Option Loss) → IsAt (λ y. session_of y ≡ 0) (booted_with n valid r (record { after = after; lost = lost })).after
booted_session n valid r after None = refl
booted_session n valid r after (Some Stopped) = tt
booted_session n valid r after (Some Fault) = tt

down_session : (c : Cluster) (n now : ℕ) (ends : method.Outcome) (disk : DiskState) (i : Input) → IsAt (λ y. session_of y ≡ 0) (stepped disk_rules c n now ends Down disk i).after
down_session c n now ends disk input.Boot = booted_session n (first_valid_of c n) disk.kept (mounting disk).after (mounting disk).lost
down_session c n now ends disk _ = tt

module _ (h : Header) (cells : ℕ) (s : Scene) (k : Known h cells s) where
  abbrev S : Setting
  S = setting_of h

  abbrev c : Cluster
  c = first_cluster h

  -- ---- what comes to a node beside packets and answers

  takes_at : (n now : ℕ) (ends : method.Outcome) (i : Input) → MayHappen c s (Takes n now ends i) → (w y : UpNode) → s.nodes.node n ≡ Up w → (taking c n now ends i s).nodes.node n ≡ Up y → y.attempt ≡ None
      → Leading S n (taking c n now ends i s).moments → (IsInstalled y → ⊥) → RestsAt S n y (taking c n now ends i s).moments
  takes_at n now ends input.Tick may w y was up none leading fresh =
      tick_rests S c n now ends s w y was may.0.1 (λ a at. let mine : OwnSo n w a s.moments = own_so h cells s n w a k was at in (mine.own, mine.owns)) (calm_apart n s.moments may.3) up none leading fresh (λ at. k.have n w was at.0 at.1)
  takes_at n now ends (input.Packet from m) may w y was up none leading fresh = absurd may.1
  takes_at n now ends (input.Answered a) may w y was up none leading fresh = absurd may.1
  takes_at n now ends (input.Wrote d value a) may w y was up none leading fresh = absurd may.1
  takes_at n now ends i may w y was up none leading fresh = besides_rest S c n now ends s w y was i tt (calm_apart n s.moments may.3) up leading (λ at. k.have n w was at.0 at.1)

  pub takes_rest : (n now : ℕ) (ends : method.Outcome) (i : Input) → MayHappen c s (Takes n now ends i) → Fresh (taking c n now ends i s) n → RestsThere h s (Takes n now ends i) (taking c n now ends i s) n
  takes_rest n now ends i may fresh y up none first closed = by_node (s.nodes.node n) refl
    where
      so : SessionSo n (taking c n now ends i s).moments y
      so = fresh y up first

      by_node : (node : Node) → s.nodes.node n ≡ node → RestsAt S n y (taking c n now ends i s).moments
      by_node (Up w) is = takes_at n now ends i may w y is up none (first, closed) so.not_installed
      by_node Down is =
          absurd (none_below (session_of y)
          (subst (IsAt (λ z. session_of z ≡ 0)) (sym (step_node c n now ends i s) ∙ up) (subst (λ z. IsAt (λ x. session_of x ≡ 0) (stepped disk_rules c n now ends z (s.nodes.disk n) i).after) (sym is) (down_session c n now ends (s.nodes.disk n) i))) so.some)

  -- ---- a command that is due

  answered_at : (n d now : ℕ) (q : PrCommand) (ends : method.Outcome) (o : Option Device) → MayHappen c s (Commands n d q now ends) → (w y : UpNode) → s.nodes.node n ≡ Up w
      → (taking c n now ends (input.Answered (commanded_at s n d o q).answer) (commanded_at s n d o q).scene).nodes.node n ≡ Up y → y.attempt ≡ None
      → Leading S n (taking c n now ends (input.Answered (commanded_at s n d o q).answer) (commanded_at s n d o q).scene).moments → (IsInstalled y → ⊥)
      → RestsAt S n y (taking c n now ends (input.Answered (commanded_at s n d o q).answer) (commanded_at s n d o q).scene).moments
  answered_at n d now q ends o may w y was up none leading fresh = by_attempt w.attempt refl
    where
      z : Commanded
      z = commanded_at s n d o q

      due : (due_device w.tasks ≡ Some d) × (next_of w.tasks ≡ Some q)
      due = due_task w d q (ap (λ node. due_at (Some node)) (sym was) ∙ may.2)

      same : z.scene.nodes ≡ s.nodes
      same = by_device o
        where
          by_device : (p : Option Device) → (commanded_at s n d p q).scene.nodes ≡ s.nodes
          by_device None = refl
          by_device (Some x) = refl

      lines : z.scene.moments ≡ s.moments
      lines = by_device o
        where
          by_device : (p : Option Device) → (commanded_at s n d p q).scene.moments ≡ s.moments
          by_device None = refl
          by_device (Some x) = refl

      calm : in_collect n z.scene.moments ≡ false
      calm = ap (in_collect n) lines ∙ calm_apart n s.moments may.4

      there : z.scene.nodes.node n ≡ Up w
      there = ap (λ v. v.node n) same ∙ was

      by_attempt : (b : Option AttemptState) → w.attempt ≡ b → RestsAt S n y (taking c n now ends (input.Answered z.answer) z.scene).moments
      by_attempt (Some b) at =
          let mine : OwnSo n w b s.moments = own_so h cells s n w b k was at in
          ended_rests S c n now ends z.scene w y there z.answer d q due.0 due.1 b at mine.own mine.ordered mine.owns calm up none leading fresh
      by_attempt None at =
          moved_rests S c n now ends z.scene w y there z.answer d q due.0 due.1 at calm up leading
          (subst (λ ms. Leading S n (mark ∷ ms) → IsRested (answered_so w z.answer) (told.tasks_of S n (mark ∷ ms))) (sym lines)
          (device_rests S n d q z.answer s.moments w (due_writes w.tasks q due.1) (none_on_way h cells s n w k was at) (λ first. k.have n w was first.0 first.1)))
        where
          mark : Moment
          mark = Told (entry.Device (device_entry.Command n d q (answer_told z.answer)))

  pub commands_rest : (n d now : ℕ) (q : PrCommand) (ends : method.Outcome) → MayHappen c s (Commands n d q now ends) → Fresh (happened c s (Commands n d q now ends)) n
      → RestsThere h s (Commands n d q now ends) (happened c s (Commands n d q now ends)) n
  commands_rest n d now q ends may fresh y up none first closed = by_node (s.nodes.node n) refl
    where
      by_node : (node : Node) → s.nodes.node n ≡ node → RestsAt S n y (happened c s (Commands n d q now ends)).moments
      by_node Down is = absurd (none_some (d, q) (ap (λ node. due_at (Some node)) (sym is) ∙ may.2))
      by_node (Up w) is = answered_at n d now q ends (slice_get s.devices (d - 1)) may w y is up none (first, closed) (fresh y up first).not_installed

  -- ---- a write

  wrote_at : (n d value now : ℕ) (ends : method.Outcome) (o : Option Device) → MayHappen c s (Writes n d value now ends) → (w y : UpNode) → s.nodes.node n ≡ Up w
      → (taking c n now ends (input.Wrote d value (commanded_at s n d o (command.Write value)).answer) (commanded_at s n d o (command.Write value)).scene).nodes.node n ≡ Up y
      → Leading S n (taking c n now ends (input.Wrote d value (commanded_at s n d o (command.Write value)).answer) (commanded_at s n d o (command.Write value)).scene).moments
      → RestsAt S n y (taking c n now ends (input.Wrote d value (commanded_at s n d o (command.Write value)).answer) (commanded_at s n d o (command.Write value)).scene).moments
  wrote_at n d value now ends None may w y was up leading =
      besides_rest S c n now ends (commanded_at s n d None (command.Write value)).scene w y was (input.Wrote d value (commanded_at s n d None (command.Write value)).answer) tt (calm_apart n s.moments may.3) up leading (λ at. k.have n w was at.0 at.1)
  wrote_at n d value now ends (Some x) may w y was up leading =
      besides_rest S c n now ends (commanded_at s n d (Some x) (command.Write value)).scene w y was (input.Wrote d value (commanded_at s n d (Some x) (command.Write value)).answer) tt (calm_apart n s.moments may.3) up leading
      (λ at. k.have n w was at.0 at.1)

  pub writes_rest : (n d value now : ℕ) (ends : method.Outcome) → MayHappen c s (Writes n d value now ends) → RestsThere h s (Writes n d value now ends) (happened c s (Writes n d value now ends)) n
  writes_rest n d value now ends may y up none first closed = by_node (s.nodes.node n) refl
    where
      by_node : (node : Node) → s.nodes.node n ≡ node → RestsAt S n y (happened c s (Writes n d value now ends)).moments
      by_node Down is = absurd (subst (λ node. OfUp (λ x. is_ok (may_write_as c n d x.seat) ≡ true) node) is may.1)
      by_node (Up w) is = wrote_at n d value now ends (slice_get s.devices (d - 1)) may w y is up (first, closed)
