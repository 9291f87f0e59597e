-- A packet that comes to a node that leads leaves it its tasks, where it has no attempt after it.
use Rattle.std.specs.Prelude.{ℕ, ◌≡◌, not, true, false, ◌∷◌, Option, None, Some}
use Rattle.std.proofs.Common.{refl, sym, ap, subst, ◌∙◌}
use Rattle.cl_base.specs.declared.header.Header.{Header}
use Rattle.cl_base.specs.declared.method.Outcome as method
use Rattle.cmm_attempt.proofs.Basics.{false_true}
use Rattle.cmm_attempt.specs.Attempts.{AttemptState, is_over}
use Rattle.cmm_attempt.specs.declared.phase.Phase.{Phase}
use Rattle.cmm_attempt.specs.declared.phase.Phase.TheVariants.{Choosing, Collecting, Installing, Over, SeizingOthers, SeizingVotes}
use Rattle.history.specs.Member.{in_collect}
use Rattle.history.specs.Seizing.{acts_for}
use Rattle.history.specs.Setting.{Setting}
use Rattle.history.specs.Trace.{delivered}
use Rattle.history_setting.specs.Settings.{setting_of}
use Rattle.interconnect.specs.Links.{Packet, packet_of}
use Rattle.node_model.specs.Attempts.{is_choosing}
use Rattle.node_model.specs.Members.{hearing}
use Rattle.node_model.specs.Steps.{at_second}
use Rattle.node_model.specs.declared.cluster.Cluster.{Cluster}
use Rattle.node_model.specs.declared.input.Input.TheVariants as input
use Rattle.node_model.specs.declared.node.Node.{Node}
use Rattle.node_model.specs.declared.node.Node.TheVariants.{Down, Up}
use Rattle.node_model.specs.declared.node.UpNode.{UpNode}
use Rattle.refinement.specs.Guards.{OfUp}
use Rattle.run_devices.specs.queues.Told.{leads, leads_for}
use Rattle.run_history.specs.Happenings.{MayHappen, happened, removed, taking}
use Rattle.run_history.specs.Happenings.Happening.{Arrives, Strays}
use Rattle.run_history.specs.Scenes.{Scene, telling}
use Rattle.status_report.specs.declared.entry.Entry.TheVariants as entry
use Rattle.status_report.specs.declared.packet_entry.PacketEntry.TheVariants as packet
use Rattle.wire.specs.declared.message.Body.{Body}
use Rattle.wire.specs.declared.message.Body.TheVariants as body
use Rattle.wire.specs.declared.message.Message.{Message}
use Rattle.world_model.specs.First.{first_cluster}
use Rattle.run_outcomes.specs.phases.Kept.{In}
use Rattle.run_outcomes.specs.phases.Laws.{HasAttempt, has_gathered, is_installing, is_seizing}
use Rattle.run_outcomes.specs.saves.Kept.{IsAt, Rests, RestsIn}
use Rattle.run_outcomes.specs.tasks.Left.{IsClosed}
use Rattle.run_outcomes.specs.tasks.Outward.{is_request}
use Rattle.run_outcomes.specs.tasks.Own.{BodySo, InputSo, IsOfOthers}
use Rattle.run_outcomes.proofs.outward.Addressed.{AreAddressed, packet_to}
use Rattle.run_outcomes.proofs.own_steps.Steps.{RestsThere}
use Rattle.run_outcomes.proofs.own_tasks.Runs.{arrives_so}
use Rattle.run_outcomes.proofs.rests.Known.{Known, OwnSo, PacketSo, has_it, never_asked, none_on_way, own_so, packet_so}
use Rattle.run_outcomes.proofs.rests.Left.{IsInstalled}
use Rattle.run_outcomes.proofs.rests.Marks.{LetterOf, collecting_rests, delivered_leading, delivered_rests, is_collect, leads_same, no_collect}
use Rattle.run_outcomes.proofs.rests.Packets.{IsAsking, IsNack, IsNoCollect, NoRequest}
use Rattle.run_outcomes.proofs.rests.Sessions.{SessionSo}
use Rattle.run_outcomes.proofs.rests.Steps.{Leading, RestsAt, asked_back, attempt_rests, collect_rests, none_rests}

-- By the lines a refusal that comes to a coordinator whose attempt seizes devices adds none of its own tasks.
abbrev pub NackLeaves : Header → Scene → Type 0
NackLeaves h s = (n p from : ℕ) (w : UpNode) (a : AttemptState) (b : Body) → s.nodes.node n ≡ Up w → w.attempt ≡ Some a → is_seizing a.phase ≡ true → LetterOf s.moments p n b → IsNack b → IsClosed h s n
    → RestsAt (setting_of h) n w (delivered p from n ∷ s.moments)

-- such a node is in its session yet
abbrev pub Fresh : Scene → ℕ → Type 0
Fresh t n = (y : UpNode) → t.nodes.node n ≡ Up y → leads n t.moments ≡ true → SessionSo n t.moments y

module _ (h : Header) (cells : ℕ) (s : Scene) (k : Known h cells s) (number : ℕ) (p : Packet) where
  abbrev S : Setting
  S = setting_of h

  abbrev c : Cluster
  c = first_cluster h

  abbrev n : ℕ
  n = p.to

  abbrev t : Scene
  t = telling (entry.Packet (packet.Delivered number p.from p.to)) (removed s number)

  to_it : packet_of s.links.packets number ≡ Some p → AreAddressed t.moments
  to_it here = (packet_to h cells s number p k.size k.reached here, k.to)

  -- without an attempt
  rests_before : packet_of s.links.packets number ≡ Some p → (w : UpNode) → s.nodes.node n ≡ Up w → w.attempt ≡ None → Leading S n t.moments → RestsAt S n w t.moments
  rests_before here w was none = delivered_rests S n number p.from n s.moments w (none_on_way h cells s n w k was none) k.out (to_it here) (λ at. k.have n w was at.0 at.1)

  -- ---- a packet that holds no message

  pub strays_rest : MayHappen c s (Strays number p) → RestsThere h s (Strays number p) (happened c s (Strays number p)) n
  strays_rest may y up none first closed = rests_before may.0 y up none (first, closed)

  -- ---- a message

  module _ (m : Message) (now : ℕ) (ends : method.Outcome) (may : MayHappen c s (Arrives number p m now ends)) (refused : NackLeaves h s) where
    abbrev after : Scene
    after = taking c n now ends (input.Packet p.from m) t

    z : PacketSo s.moments number p m.body
    z = packet_so h cells s number p m k may.0 may.1

    -- a refusal to one with an attempt
    nack_before : (w : UpNode) (a : AttemptState) → s.nodes.node n ≡ Up w → w.attempt ≡ Some a → IsNack m.body → Leading S n t.moments → RestsAt S n w t.moments
    nack_before w a was at nack leading = by_phase a.phase refl
      where
        before : Leading S n s.moments
        before = delivered_leading S n number p.from n s.moments leading

        it : HasAttempt s n a
        it = has_it s n w a was at

        mine : OwnSo n w a s.moments
        mine = own_so h cells s n w a k was at

        seizes : is_seizing a.phase ≡ true → RestsAt S n w t.moments
        seizes is = refused n number p.from w a m.body was at is z.letter nack before.1

        installs_not : is_installing a.phase ≡ true → RestsAt S n w t.moments
        installs_not installing =
            absurd (false_true (sym (ap not installing) ∙ (sym (k.seizes n a it).acts ∙ (ap (λ j. acts_for j a.plan.epoch s.moments) mine.own ∙ (ap (λ o. leads_for n o s.moments) (sym mine.last) ∙ before.0)))))

        by_phase : (q : Phase) → a.phase ≡ q → RestsAt S n w t.moments
        by_phase Collecting is =
            collecting_rests S n a.plan.epoch number p.from s.moments w m.body z.letter nack mine.last ((k.promised n a it).phase ∙ ap has_gathered is) (k.have n w was before.0 before.1)
        by_phase Choosing is = absurd (false_true (sym (ap is_choosing (sym is) ∙ subst RestsIn at (subst (IsAt Rests) was (k.waits n)))))
        by_phase SeizingVotes is = seizes (ap is_seizing is)
        by_phase SeizingOthers is = seizes (ap is_seizing is)
        by_phase Installing is = installs_not (ap is_installing is)
        by_phase Over is = absurd (false_true (sym (ap is_over (sym is) ∙ k.live n a it)))

    of_others : (w : UpNode) (a : AttemptState) (b : Body) → BodySo c n w p.from b → w.attempt ≡ Some a → IsOfOthers a p.from b
    of_others w a (body.Seized e d r) so at = subst (In (λ x. IsOfOthers x p.from (body.Seized e d r))) at so
    of_others w a _ so at = tt

    pub arrives_rest : Fresh after n → RestsThere h s (Arrives number p m now ends) after n
    arrives_rest fresh y up none first closed = by_node (s.nodes.node n) refl
      where
        not_installed : IsInstalled y → ⊥
        not_installed = (fresh y up first).not_installed

        plain : (w : UpNode) → s.nodes.node n ≡ Up w → IsNoCollect m.body → NoRequest (hearing (at_second now w) p.from m.body) m.body → RestsAt S n y after.moments
        plain w was uncollected never = by_attempt w.attempt refl
          where
            calm : in_collect n t.moments ≡ false
            calm = no_collect s.moments number p.from n m.body z.letter uncollected

            by_attempt : (o : Option AttemptState) → w.attempt ≡ o → RestsAt S n y after.moments
            by_attempt None at = none_rests S c n now ends t w y was p.from m at never uncollected calm up none (first, closed) not_installed (rests_before may.0 w was at)
            by_attempt (Some a) at =
                let mine : OwnSo n w a s.moments = own_so h cells s n w a k was at in
                attempt_rests S c n now ends t w y was p.from m a at mine.own mine.ordered mine.owns
                (of_others w a m.body (subst (IsAt (λ x. InputSo c n x (input.Packet p.from m))) was (arrives_so h cells s number p m k.size k.reached may.0 may.1 k.owned)) at) uncollected calm up none (first, closed) not_installed
                (nack_before w a was at)

        beside : (w : UpNode) → s.nodes.node n ≡ Up w → (b : Body) → m.body ≡ b → IsNoCollect b → NoRequest (hearing (at_second now w) p.from m.body) b → RestsAt S n y after.moments
        beside w was b is uncollected never = plain w was (subst IsNoCollect (sym is) uncollected) (subst (NoRequest (hearing (at_second now w) p.from m.body)) (sym is) never)

        -- a request to seize leaves the node in its session
        leading : (w : UpNode) → s.nodes.node n ≡ Up w → (b : Body) → m.body ≡ b → IsAsking b → leads n s.moments ≡ true
        leading w was b is asking = sym (leads_same n number p.from n s.moments) ∙ asked_back S c n now ends t w y was p.from m (subst IsAsking (sym is) asking) up first

        z_of : (b : Body) → m.body ≡ b → PacketSo s.moments number p b
        z_of b is = subst (PacketSo s.moments number p) is z

        by_body : (w : UpNode) → s.nodes.node n ≡ Up w → (b : Body) → m.body ≡ b → RestsAt S n y after.moments
        by_body w was (body.Collect e members) is =
            collect_rests S c n now ends t w y was p.from m e members is (is_collect s.moments number p.from n e members (z_of (body.Collect e members) is).letter) up none (first, closed) (rests_before may.0 w was)
        by_body w was (body.SeizeQuorum e members d) is =
            let q : PacketSo s.moments number p (body.SeizeQuorum e members d) = z_of (body.SeizeQuorum e members d) is in
            beside w was (body.SeizeQuorum e members d) is tt
            (λ here. never_asked h cells s number e n p w (body.SeizeQuorum e members d) k refl q (ap is_request q.letter.called) q.asks was (leading w was (body.SeizeQuorum e members d) is tt) here)
        by_body w was (body.SeizeData e members d) is =
            let q : PacketSo s.moments number p (body.SeizeData e members d) = z_of (body.SeizeData e members d) is in
            beside w was (body.SeizeData e members d) is tt
            (λ here. never_asked h cells s number e n p w (body.SeizeData e members d) k refl q (ap is_request q.letter.called) q.asks was (leading w was (body.SeizeData e members d) is tt) here)
        by_body w was (body.Heartbeat promised session member) is = beside w was (body.Heartbeat promised session member) is tt tt
        by_body w was (body.Promise e installed members valid flagged committed pending) is = beside w was (body.Promise e installed members valid flagged committed pending) is tt tt
        by_body w was (body.Nack e promised) is = beside w was (body.Nack e promised) is tt tt
        by_body w was (body.Seized e d r) is = beside w was (body.Seized e d r) is tt tt
        by_body w was (body.Install i) is = beside w was (body.Install i) is tt tt
        by_body w was (body.Ready e devices report) is = beside w was (body.Ready e devices report) is tt tt
        by_body w was (body.Start e) is = beside w was (body.Start e) is tt tt
        by_body w was (body.Excluded e newest) is = beside w was (body.Excluded e newest) is tt tt
        by_body w was (body.Prepare e place text) is = beside w was (body.Prepare e place text) is tt tt
        by_body w was (body.Prepared e place) is = beside w was (body.Prepared e place) is tt tt
        by_body w was (body.Commit e place) is = beside w was (body.Commit e place) is tt tt
        by_body w was (body.Order o) is = beside w was (body.Order o) is tt tt
        by_body w was (body.Done e number ended) is = beside w was (body.Done e number ended) is tt tt
        by_body w was (body.Request e number text) is = beside w was (body.Request e number text) is tt tt
        by_body w was (body.Answer e number text) is = beside w was (body.Answer e number text) is tt tt

        by_node : (node : Node) → s.nodes.node n ≡ node → RestsAt S n y after.moments
        by_node Down is = absurd (subst (λ q. OfUp (λ x. Unit {0}) q) is may.2)
        by_node (Up w) is = by_body w is m.body refl
