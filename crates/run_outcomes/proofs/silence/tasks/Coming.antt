-- A packet that comes to a coordinator, and the answer to its command at a device, bring it no task where its attempt goes on; and nothing else does.
use Rattle.std.specs.Prelude.{ℕ, ◌-◌, ◌||◌, ◌≡◌, true, false, List, [], ◌∷◌, Option, None, Some, slice_get}
use Rattle.std.proofs.Common.{refl, sym, ap, subst, ◌∙◌, inl, inr}
use Rattle.cl_base.specs.declared.header.Header.{Header}
use Rattle.cl_base.specs.declared.method.Outcome as method
use Rattle.cmm_attempt.proofs.Basics.{false_true, none_some}
use Rattle.cmm_attempt.specs.Attempts.{AttemptState}
use Rattle.cmm_attempt.specs.Calls.{Take}
use Rattle.device_queue.specs.Queue.{due_device, next_of}
use Rattle.history.specs.Member.{in_collect}
use Rattle.history.specs.Moment.{Moment, Told}
use Rattle.history.specs.Setting.{Setting}
use Rattle.history.specs.Trace.{delivered}
use Rattle.history_setting.specs.Settings.{setting_of}
use Rattle.interconnect.specs.Links.{Packet, packet_of}
use Rattle.machine_base.proofs.Puts.{put_here}
use Rattle.node_model.specs.Devices.{answer_told}
use Rattle.node_model.specs.Members.{hearing}
use Rattle.node_model.specs.Steps.{at_second, stepped}
use Rattle.node_model.specs.declared.cluster.Cluster.{Cluster}
use Rattle.node_model.specs.declared.input.Input.{Input}
use Rattle.node_model.specs.declared.input.Input.TheVariants as input
use Rattle.node_model.specs.declared.node.Node.{Node}
use Rattle.node_model.specs.declared.node.Node.TheVariants.{Down, Up}
use Rattle.node_model.specs.declared.node.UpNode.{UpNode}
use Rattle.node_model.specs.declared.output.Output.{Output}
use Rattle.pgr_device.specs.declared.command.PrCommand.{PrCommand}
use Rattle.refinement.specs.Runs.{Nodes, moved}
use Rattle.refinement.specs.Runs.Move.{Takes as Takes_in}
use Rattle.refinement.specs.Steps.{disk_rules}
use Rattle.run_devices.proofs.queues.Acts.{due_writes}
use Rattle.run_history.proofs.Idle.{passing_nodes}
use Rattle.run_history.specs.Happenings.{Happening, IsUp, MayHappen, all_happened, commanded, given_by, happened, removed, taking}
use Rattle.run_history.specs.Happenings.Happening.{Arrives, Commands, Strays}
use Rattle.run_history.specs.Scenes.{Scene, first_scene, telling}
use Rattle.run_lines.proofs.Adds.{onto}
use Rattle.run_messages.proofs.Collecting.{nothing_collects}
use Rattle.run_messages.proofs.Reaching.{IsReached, IsSmall}
use Rattle.run_messages.proofs.records.Arrivals.{arrived_kept}
use Rattle.run_messages.proofs.records.Runs.{run_known}
use Rattle.run_messages.specs.records.Kept.{Came}
use Rattle.status_report.specs.declared.device_entry.DeviceEntry.TheVariants as device_entry
use Rattle.status_report.specs.declared.entry.Entry.TheVariants as entry
use Rattle.status_report.specs.declared.packet_entry.PacketEntry.TheVariants as packet
use Rattle.wire.specs.declared.message.Message.{Message}
use Rattle.world_model.specs.Devices.{due_at}
use Rattle.world_model.specs.First.{first_cluster}
use Rattle.run_outcomes.specs.phases.Kept.{In}
use Rattle.run_outcomes.specs.phases.Laws.{is_seizing}
use Rattle.run_outcomes.specs.saves.Kept.{IsAt}
use Rattle.run_outcomes.specs.silence.Still.{Goes, Still}
use Rattle.run_outcomes.specs.silence.Ticks.{brings_task, tasks_in}
use Rattle.run_outcomes.specs.tasks.Onward.{AreStill, Onward, OnwardOf}
use Rattle.run_outcomes.specs.tasks.Own.{Leads, Owned}
use Rattle.run_outcomes.proofs.onward.Here.{taken_here}
use Rattle.run_outcomes.proofs.onward.Messages.{KeepsTasks, Took, packet_out}
use Rattle.run_outcomes.proofs.onward.Passing.{Passed, none_passed}
use Rattle.run_outcomes.proofs.others.Runs.{Point}
use Rattle.run_outcomes.proofs.outward.Addressed.{packet_to}
use Rattle.run_outcomes.proofs.outward.Runs.{requests_go_out}
use Rattle.run_outcomes.proofs.own_steps.Collected.{packet_passed}
use Rattle.run_outcomes.proofs.own_steps.Commanding.{answered_here, joins_quietly}
use Rattle.run_outcomes.proofs.own_steps.Requests.{arrives_keeps}
use Rattle.run_outcomes.proofs.own_tasks.Grounds.{leads_at}
use Rattle.run_outcomes.proofs.own_tasks.Runs.{run_owned}
use Rattle.run_outcomes.proofs.phases.Leading.{Has}
use Rattle.run_outcomes.proofs.reports.Disks.{commanded_nodes}
use Rattle.run_outcomes.proofs.results.Dues.{two_of}
use Rattle.run_outcomes.proofs.shown.HeardRuns.{commanded_moments}
use Rattle.run_outcomes.proofs.silence.GivenLines.{Lined}
use Rattle.run_outcomes.proofs.silence.StillCourses.{step_goes, ticks_by}
use Rattle.run_outcomes.proofs.silence.StillTurns.{still_self}
use Rattle.run_outcomes.proofs.silence.tasks.Lines.{NoTask, no_tasks, onto_same}
use Rattle.run_outcomes.proofs.silence.tasks.Marks.{Mark, command_mark, delivered_mark}
use Rattle.run_outcomes.proofs.silence.tasks.Own.{Facts, facts_at, going_none}
use Rattle.run_outcomes.proofs.silence.tasks.Steps.{Begun, Besides, arrival_begun, besides_lined, commands_begun}

-- ---- the lines of a step

none_besides : (S : Setting) (n : ℕ) (ms after xs : List Moment) → Lined (λ x. NoTask n x) ms after → onto xs ms ≡ after → tasks_in S n xs ms ≡ true → ⊥
none_besides S n ms after xs l is told = false_true (sym (no_tasks S n l.xs ms l.are) ∙ (ap (λ zs. tasks_in S n zs ms) (sym (onto_same xs l.xs ms (is ∙ sym l.is))) ∙ told))

none_begun : (S : Setting) (n : ℕ) (mark : Moment) (ms after xs : List Moment) → Begun n mark ms after → onto xs ms ≡ after → brings_task S n ms mark ≡ false → tasks_in S n xs ms ≡ true → ⊥
none_begun S n mark ms after xs l is none told =
    false_true (sym (ap (λ b. b || tasks_in S n l.rest (mark ∷ ms)) none ∙ no_tasks S n l.rest (mark ∷ ms) l.are) ∙ (ap (λ zs. tasks_in S n zs ms) (sym (onto_same xs (mark ∷ l.rest) ms (is ∙ sym l.is))) ∙ told))

-- ---- the attempt after a step

node_after : (c : Cluster) (n now : ℕ) (ends : method.Outcome) (i : Input) (u : Scene) → (taking c n now ends i u).nodes.node n ≡ (stepped disk_rules c n now ends (u.nodes.node n) (u.nodes.disk n) i).after
node_after c n now ends i u =
    ap (λ (w : Nodes). w.node n) (passing_nodes n (given_by c n now ends i u.nodes) (record u { nodes = moved c u.nodes (Takes_in n now ends i) }))
    ∙ put_here u.nodes.node n (stepped disk_rules c n now ends (u.nodes.node n) (u.nodes.disk n) i).after

goes_at : (c : Cluster) (n now : ℕ) (ends : method.Outcome) (i : Input) (u : Scene) (x y : UpNode) (b : AttemptState) → u.nodes.node n ≡ Up x → (taking c n now ends i u).nodes.node n ≡ Up y → y.attempt ≡ Some b → Goes (ticks_by i) x.attempt b
goes_at c n now ends i u x y b was up has =
    subst (In (Goes (ticks_by i) x.attempt)) has
    (subst (IsAt (Has (Goes (ticks_by i) x.attempt))) (sym (node_after c n now ends i u) ∙ up)
    (subst (λ z. IsAt (Has (Goes (ticks_by i) x.attempt)) (stepped disk_rules c n now ends z (u.nodes.disk n) i).after) (sym was) (step_goes c n now ends x (u.nodes.disk n) i)))

-- it counts anew, or goes on, and that can't be
by_going : (later : ℕ) (o : Option AttemptState) (b : AttemptState) → Goes later o b → ((a : AttemptState) → o ≡ Some a → Still later a b → ⊥) → b.ticks ≡ 0
by_going later o b (inl none) f = none
by_going later None b (inr still) f = absurd still
by_going later (Some a) b (inr still) f = absurd (f a refl still)

abbrev pub AllFacts : Header → Scene → Type 0
AllFacts h t = (n : ℕ) (y : UpNode) (b : AttemptState) → t.nodes.node n ≡ Up y → y.attempt ≡ Some b → Facts h t n y b

module _ (h : Header) (cells : ℕ) (hs : List Happening) (z : Point h cells hs) where
  abbrev c : Cluster
  c = first_cluster h

  abbrev s : Scene
  s = all_happened (first_cluster h) (first_scene h cells) hs

  abbrev pub Ticks : Happening → ℕ → Type 0
  Ticks k n = (y : UpNode) (b : AttemptState) → (happened c s k).nodes.node n ≡ Up y → y.attempt ≡ Some b → (xs : List Moment) → onto xs s.moments ≡ (happened c s k).moments → tasks_in (setting_of h) n xs s.moments ≡ true → b.ticks ≡ 0

  size : IsSmall h
  size = record { few = z.few; small = z.small }

  here : IsReached h cells s
  here = record { happenings = hs; may = z.may; is = refl }

  -- ---- a packet

  packet_mark : (number : ℕ) (p : Packet) (x : UpNode) (a : AttemptState) → packet_of s.links.packets number ≡ Some p → Facts h s p.to x a → Mark (setting_of h) p.to a.plan.epoch s.moments (delivered number p.from p.to)
  packet_mark number p x a found f =
      delivered_mark (setting_of h) p.to number p.from a.plan.epoch s.moments f.so.own f.session f.so.last (requests_go_out h cells hs size z.may) (packet_to h cells s number p size here found)

  pub strays : (number : ℕ) (p : Packet) → MayHappen c s (Strays number p) → AllFacts h (happened c s (Strays number p)) → Ticks (Strays number p) p.to
  strays number p may facts y b up has xs is told =
      let mark : Moment = delivered number p.from p.to in
      let f : Facts h s p.to y b = facts_at h cells hs z p.to y b up has in
      absurd (none_begun (setting_of h) p.to mark s.moments (mark ∷ s.moments) xs (record { rest = []; is = refl; are = tt }) is
      (going_none h s (happened c s (Strays number p)) p.to 0 y y b b mark [] f (facts p.to y b up has) (still_self b) (packet_mark number p y b may.0 f) refl refl (λ seizing. none_passed p.to (mark ∷ s.moments))) told)

  pub arrives : (number : ℕ) (p : Packet) (m : Message) (now : ℕ) (ends : method.Outcome) → MayHappen c s (Arrives number p m now ends) → AllFacts h (happened c s (Arrives number p m now ends)) → Ticks (Arrives number p m now ends) p.to
  arrives number p m now ends may facts y b up has xs is told = by_node (s.nodes.node p.to) refl may.2
    where
      mark : Moment
      mark = delivered number p.from p.to

      u : Scene
      u = telling (entry.Packet (packet.Delivered number p.from p.to)) (removed s number)

      t : Scene
      t = happened c s (Arrives number p m now ends)

      os : List Output
      os = given_by c p.to now ends (input.Packet p.from m) u.nodes

      came : Came (mark ∷ s.moments) p.to p.from m.body
      came = arrived_kept c s number p m may.0 may.1 (run_known h cells hs z.few z.small z.may)

      passed : (x : UpNode) → s.nodes.node p.to ≡ Up x → is_seizing b.phase ≡ true → Passed p.to (mark ∷ s.moments) t.moments
      passed x was seizing =
          let keeps : KeepsTasks c p.to (hearing (at_second now x) p.from m.body) m.body = arrives_keeps h cells s number now p m x size here may.0 may.1 was (subst (IsAt (Owned p.to)) was (run_owned h cells hs size z.may p.to)) in
          let k : AreStill p.to os × Took c p.to x (Take p.from m) b y.tasks =
          subst (In (OnwardOf p.to (Took c p.to x (Take p.from m)) y.tasks os)) has
          (taken_here c p.to now ends (input.Packet p.from m) u (Onward p.to (Took c p.to x (Take p.from m))) x y was up (λ so. packet_out c p.to ends (at_second now x) p.from m keeps)) seizing in
          packet_passed c p.to number p.from now ends m s.moments u x y b refl came was up has k.0

      going : (x : UpNode) → s.nodes.node p.to ≡ Up x → (a : AttemptState) → x.attempt ≡ Some a → Still 0 a b → ⊥
      going x was a had still =
          let f : Facts h s p.to x a = facts_at h cells hs z p.to x a was had in
          let l : Begun p.to mark s.moments t.moments = arrival_begun c number now ends s p m in
          none_begun (setting_of h) p.to mark s.moments t.moments xs l is
          (going_none h s t p.to 0 x y a b mark l.rest f (facts p.to y b up has) still (packet_mark number p x a may.0 f) l.is refl (passed x was)) told

      by_node : (node : Node) → s.nodes.node p.to ≡ node → IsUp node → b.ticks ≡ 0
      by_node Down was there = absurd there
      by_node (Up x) was there = by_going 0 x.attempt b (goes_at c p.to now ends (input.Packet p.from m) u x y b was up has) (λ a had still. going x was a had still)

  -- ---- a command at a device

  pub commands : (n d : ℕ) (q : PrCommand) (now : ℕ) (ends : method.Outcome) → MayHappen c s (Commands n d q now ends) → AllFacts h (happened c s (Commands n d q now ends)) → Ticks (Commands n d q now ends) n
  commands n d q now ends may facts y b up has xs is told = by_node (s.nodes.node n) refl may.2
    where
      u : Scene
      u = (commanded s n d q).scene

      t : Scene
      t = happened c s (Commands n d q now ends)

      mark : Moment
      mark = Told (entry.Device (device_entry.Command n d q (answer_told (commanded s n d q).answer)))

      nodes : u.nodes ≡ s.nodes
      nodes = commanded_nodes s n d (slice_get s.devices (d - 1)) q

      line : u.moments ≡ s.moments
      line = commanded_moments s n d (slice_get s.devices (d - 1)) q

      passed : (x : UpNode) → s.nodes.node n ≡ Up x → (due_device x.tasks ≡ Some d) × (next_of x.tasks ≡ Some q) → is_seizing b.phase ≡ true → Passed n (mark ∷ s.moments) t.moments
      passed x was two seizing =
          subst (λ ms. Passed n (mark ∷ ms) t.moments) line
          (answered_here c n d now ends q (commanded s n d q).answer u x y b (subst (λ ms. in_collect n ms ≡ false) (sym line) (nothing_collects n s.moments may.4)) two.0 two.1
          (λ e r done. joins_quietly n x (commanded s n d q).answer e r (subst (IsAt (Leads n)) was (leads_at h cells s n size here)) (subst (IsAt (Owned n)) was (run_owned h cells hs size z.may n)) done)
          (ap (λ v. v.node n) nodes ∙ was) up has seizing).passed

      going : (x : UpNode) → s.nodes.node n ≡ Up x → (due_device x.tasks ≡ Some d) × (next_of x.tasks ≡ Some q) → (a : AttemptState) → x.attempt ≡ Some a → Still 0 a b → ⊥
      going x was two a had still =
          let f : Facts h s n x a = facts_at h cells hs z n x a was had in
          let l : Begun n mark s.moments t.moments = commands_begun c n n d now ends q s may in
          none_begun (setting_of h) n mark s.moments t.moments xs l is
          (going_none h s t n 0 x y a b mark l.rest f (facts n y b up has) still (command_mark (setting_of h) n d a.plan.epoch q (commanded s n d q).answer s.moments (due_writes x.tasks q two.1) f.so.last) l.is refl
          (passed x was two)) told

      by_node : (node : Node) → s.nodes.node n ≡ node → due_at (Some node) ≡ Some (d, q) → b.ticks ≡ 0
      by_node Down was due = absurd (none_some (d, q) due)
      by_node (Up x) was due =
          by_going 0 x.attempt b (goes_at c n now ends (input.Answered (commanded s n d q).answer) u x y b (ap (λ v. v.node n) nodes ∙ was) up has)
          (λ a had still. going x was (two_of (due_device x.tasks) (next_of x.tasks) d q due) a had still)

  -- ---- anything else

  pub beside : (k : Happening) (n : ℕ) → MayHappen c s k → Besides n k → Ticks k n
  beside k n may off y b there has xs is told = absurd (none_besides (setting_of h) n s.moments (happened c s k).moments xs (besides_lined c s k n may off) is told)
