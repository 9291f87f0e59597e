-- What a step leaves of the tasks of a node that leads without an attempt, by what comes to it.
use Rattle.std.specs.Prelude.{ℕ, ◌≡◌, ◌≤◌, ◌==◌, ◌&&◌, ◌++◌, true, false, filter, List, [], ◌∷◌, None, Some, if◌then◌else◌}
use Rattle.std.proofs.Common.{arith, refl, sym, ap, subst, ◌∙◌, inl, inr}
use Rattle.cl_base.specs.declared.method.Outcome as method
use Rattle.cmm_attempt.specs.Attempts.{AttemptState}
use Rattle.device_queue.specs.Queue.{due_device, next_of}
use Rattle.device_queue.specs.Tasks.{is_queued}
use Rattle.device_queue.specs.declared.task.Task.{Task}
use Rattle.history.specs.Member.{in_collect}
use Rattle.history.specs.Moment.{Moment, Told}
use Rattle.history.specs.Queue as told
use Rattle.history.specs.Setting.{Setting, coordinator}
use Rattle.node_model.specs.Devices.{answer_told}
use Rattle.node_model.specs.Members.{hearing, is_foreign}
use Rattle.node_model.specs.Steps.{at_second}
use Rattle.node_model.specs.declared.cluster.Cluster.{Cluster}
use Rattle.node_model.specs.declared.input.Input.{Input}
use Rattle.node_model.specs.declared.input.Input.TheVariants.{Answered, Packet, Tick}
use Rattle.node_model.specs.declared.node.Node.TheVariants.{Up}
use Rattle.node_model.specs.declared.node.UpNode.{UpNode}
use Rattle.node_model.specs.declared.output.Output.{Output}
use Rattle.pgr_device.specs.declared.command.PrCommand.{PrCommand}
use Rattle.refinement.specs.Courses.Course.{Acts, Stops}
use Rattle.refinement.specs.Cuts as cuts
use Rattle.refinement.specs.Cuts.{course_of}
use Rattle.refinement.specs.Doings.{answered_so, command_line}
use Rattle.refinement.specs.Doings.Act.{Hears}
use Rattle.refinement.specs.Runs.{moved}
use Rattle.refinement.specs.Runs.Move.{Takes as Takes_in}
use Rattle.cmm_attempt.proofs.Basics.{if_either}
use Rattle.run_devices.specs.queues.Told.{leads}
use Rattle.run_history.specs.Happenings.{given_by, taking}
use Rattle.run_history.specs.Scenes.{Scene, passing, telling}
use Rattle.seize.specs.Answers.{Answer}
use Rattle.status_report.specs.declared.device_entry.DeviceEntry.TheVariants as device_entry
use Rattle.status_report.specs.declared.entry.Entry.TheVariants as entry
use Rattle.status_report.specs.declared.node_entry.NodeEntry.TheVariants as note
use Rattle.wire.specs.declared.message.Body.TheVariants as body
use Rattle.wire.specs.declared.message.Message.{Message}
use Rattle.run_outcomes.specs.tasks.Lasting.{lasts_open}
use Rattle.run_outcomes.specs.tasks.Onward.{GoesOut}
use Rattle.run_outcomes.specs.tasks.Own.{IsOfOthers, IsOrdered, Owns}
use Rattle.run_outcomes.proofs.onward.Here.{taken_here}
use Rattle.run_outcomes.proofs.onward.Inputs.{IsBesides}
use Rattle.run_outcomes.proofs.outward.Resting.{IsRested}
use Rattle.run_outcomes.proofs.rests.Answers.{LeftBehind, StaysBehind, answer_kept, answer_left}
use Rattle.run_outcomes.proofs.rests.Beside.{besides_kept}
use Rattle.run_outcomes.proofs.rests.Collects.{AreSent, Collected, collect_packet}
use Rattle.run_outcomes.proofs.rests.Kept.{Stays, kept_out}
use Rattle.run_outcomes.proofs.rests.Left.{IsInstalled, IsLeft, Left}
use Rattle.run_outcomes.proofs.rests.Lines.{dropped_none, rested_as, sends_back, sends_rest, still_none, still_rests}
use Rattle.run_outcomes.proofs.rests.Packets.{IsAsking, IsNack, IsNoCollect, NoRequest, asked_sent, body_left, body_rests}
use Rattle.run_outcomes.proofs.rests.Ticks.{Anyhow, tick_left}

-- the node leads with its tasks told
abbrev pub Leading : Setting → ℕ → List Moment → Type 0
Leading S n ms = (leads n ms ≡ true) × (lasts_open S n ms ≡ false)

abbrev pub RestsAt : Setting → ℕ → UpNode → List Moment → Type 0
RestsAt S n y ms = IsRested y (told.tasks_of S n ms)

left_rests : (S : Setting) (n : ℕ) (C : Type 0) (ts : List Task) (u : Scene) (y : UpNode) (all : List Output) → in_collect n u.moments ≡ false → Leading S n (passing n all u).moments → (IsInstalled y → ⊥)
    → (C → y.tasks ≡ ts → Leading S n u.moments → RestsAt S n y u.moments) → Left n C ts y all → RestsAt S n y (passing n all u).moments
left_rests S n C ts u y all calm leading fresh f (inl k) = still_rests S n all u y calm k.2 leading.0 leading.1 (λ first closed. f k.0 k.1 (first, closed))
left_rests S n C ts u y all calm leading fresh f (inr (inl k)) = inr (k.0, dropped_none S n all u k.1)
left_rests S n C ts u y all calm leading fresh f (inr (inr k)) = absurd (fresh k)

module _ (S : Setting) (c : Cluster) (n now : ℕ) (ends : method.Outcome) (t : Scene) (w y : UpNode) (was : t.nodes.node n ≡ Up w) where
  -- the scene in which the lines of the step are told
  abbrev with_step : Input → Scene
  with_step i = record t { nodes = moved c t.nodes (Takes_in n now ends i) }

  abbrev After : Input → Scene
  After i = taking c n now ends i t

  abbrev all : Input → List Output
  all i = given_by c n now ends i t.nodes

  -- ---- beside

  pub besides_rest : (i : Input) → IsBesides i → in_collect n t.moments ≡ false → (After i).nodes.node n ≡ Up y → Leading S n (After i).moments → (Leading S n t.moments → RestsAt S n w t.moments) → RestsAt S n y (After i).moments
  besides_rest i is calm up leading before =
      let h : Stays n w y (all i) = taken_here c n now ends i t (Stays n w) w y was up (λ so. kept_out c n w (at_second now w) [] (course_of c n ends (at_second now w) i) (besides_kept c n ends (at_second now w) i is) (refl, refl, tt)) in
      still_rests S n (all i) (with_step i) y calm h.2 leading.0 leading.1 (λ first closed. rested_as w y (told.tasks_of S n t.moments) h.1 (before (first, closed)))

  -- ---- a tick

  pub tick_rests : n ≤ 32 → ((a : AttemptState) → w.attempt ≡ Some a → (coordinator a.plan.epoch ≡ n) × Owns n w.tasks a) → in_collect n t.moments ≡ false → (After Tick).nodes.node n ≡ Up y → y.attempt ≡ None
      → Leading S n (After Tick).moments → (IsInstalled y → ⊥) → (Leading S n t.moments → RestsAt S n w t.moments) → RestsAt S n y (After Tick).moments
  tick_rests low known calm up none leading fresh before =
      left_rests S n Anyhow w.tasks (with_step Tick) y (all Tick) calm leading fresh (λ so same at. rested_as w y (told.tasks_of S n t.moments) same (before at))
      (taken_here c n now ends Tick t (IsLeft n Anyhow w.tasks) w y was up (λ so. tick_left c n (at_second now w) low known ends) none)

  -- ---- a packet

  module _ (from : ℕ) (m : Message) where
    abbrev i : Input
    i = Packet from m

    -- with an attempt, which a refusal may end
    pub attempt_rests : (a : AttemptState) → w.attempt ≡ Some a → coordinator a.plan.epoch ≡ n → IsOrdered n a → Owns n w.tasks a → IsOfOthers a from m.body → IsNoCollect m.body → in_collect n t.moments ≡ false
        → (After i).nodes.node n ≡ Up y → y.attempt ≡ None → Leading S n (After i).moments → (IsInstalled y → ⊥) → (IsNack m.body → Leading S n t.moments → RestsAt S n w t.moments) → RestsAt S n y (After i).moments
    attempt_rests a at own ok owns others plain calm up none leading fresh before =
        left_rests S n (IsNack m.body) w.tasks (with_step i) y (all i) calm leading fresh (λ nack same first. rested_as w y (told.tasks_of S n t.moments) same (before nack first))
        (taken_here c n now ends i t (IsLeft n (IsNack m.body) w.tasks) w y was up (λ so. course) none)
      where
        x : UpNode
        x = hearing (at_second now w) from m.body

        course : GoesOut c n (IsLeft n (IsNack m.body) w.tasks) (at_second now w) [] (cuts.packet_course c n ends (at_second now w) from m)
        course =
            if_either (GoesOut c n (IsLeft n (IsNack m.body) w.tasks) (at_second now w) []) (is_foreign c n (at_second now w) m.body) Stops (Acts (Hears from m.body) (cuts.body_course c n ends x from m m.body))
            (λ none_yet. absurd (never (sym none_yet ∙ at))) (λ so. body_left c n x from m a at own ends m.body plain ok owns others)
          where
            never : None ≡ Some a → ⊥
            never e = cc

    -- without one
    pub none_rests : w.attempt ≡ None → NoRequest (hearing (at_second now w) from m.body) m.body → IsNoCollect m.body → in_collect n t.moments ≡ false
        → (After i).nodes.node n ≡ Up y → y.attempt ≡ None → Leading S n (After i).moments → (IsInstalled y → ⊥) → (Leading S n t.moments → RestsAt S n w t.moments) → RestsAt S n y (After i).moments
    none_rests without never plain calm up none leading fresh before =
        left_rests S n Anyhow w.tasks (with_step i) y (all i) calm leading fresh (λ so same first. rested_as w y (told.tasks_of S n t.moments) same (before first))
        (taken_here c n now ends i t (IsLeft n Anyhow w.tasks) w y was up (λ so. course) none)
      where
        x : UpNode
        x = hearing (at_second now w) from m.body

        course : GoesOut c n (IsLeft n Anyhow w.tasks) (at_second now w) [] (cuts.packet_course c n ends (at_second now w) from m)
        course =
            if_either (GoesOut c n (IsLeft n Anyhow w.tasks) (at_second now w) []) (is_foreign c n (at_second now w) m.body) Stops (Acts (Hears from m.body) (cuts.body_course c n ends x from m m.body))
            (λ none_yet. inl (tt, refl, tt)) (λ so. body_rests c n x from m without ends m.body plain never)

    -- a request to seize leaves it in its session
    pub asked_back : IsAsking m.body → (After i).nodes.node n ≡ Up y → leads n (After i).moments ≡ true → leads n t.moments ≡ true
    asked_back asking up first = sends_back n (all i) (with_step i) (taken_here c n now ends i t (λ v os. AreSent os) w y was up (λ so. course)) first
      where
        x : UpNode
        x = hearing (at_second now w) from m.body

        course : GoesOut c n (λ v os. AreSent os) (at_second now w) [] (cuts.packet_course c n ends (at_second now w) from m)
        course =
            if_either (GoesOut c n (λ v os. AreSent os) (at_second now w) []) (is_foreign c n (at_second now w) m.body) Stops (Acts (Hears from m.body) (cuts.body_course c n ends x from m m.body)) tt
            (λ so. asked_sent c n ends x from m m.body asking)

    -- a Collect
    pub collect_rests : (e members : ℕ) → m.body ≡ body.Collect e members → in_collect n t.moments ≡ true → (After i).nodes.node n ≡ Up y → y.attempt ≡ None → Leading S n (After i).moments
        → (w.attempt ≡ None → Leading S n t.moments → RestsAt S n w t.moments) → RestsAt S n y (After i).moments
    collect_rests e members is came up none leading before = by_way (taken_here c n now ends i t (Collected n w) w y was up (λ so. collect_packet c n ends (at_second now w) from m e members is))
      where
        itself : (k : ℕ) → (k == k) ≡ true
        itself k = grind arith

        dropped : told.tasks_of S n (Told (entry.Node n note.Saved) ∷ t.moments) ≡ []
        dropped =
            ap (λ b. if b && in_collect n t.moments then [] else told.tasks_of S n t.moments) (itself n) ∙ ap (λ b. if b then [] else told.tasks_of S n t.moments) came

        by_way : Collected n w y (all i) → RestsAt S n y (After i).moments
        by_way (inl k) =
            sends_rest S n (all i) (with_step i) y k.2 leading.0 leading.1 (λ first closed. rested_as w y (told.tasks_of S n t.moments) k.1 (before (sym k.0 ∙ none) (first, closed)))
        by_way (inr k) =
            inr (
              ap (filter is_queued) k.0,
              ap (λ os. told.tasks_of S n (passing n os (with_step i)).moments) k.1.parts ∙ still_none S n k.1.after (telling (entry.Node n note.Saved) (with_step i)) k.1.still dropped,
            )

  -- ---- an answer

  module _ (a : Answer) (d : ℕ) (q : PrCommand) (device : due_device w.tasks ≡ Some d) (next : next_of w.tasks ≡ Some q) where
    abbrev line : List Output
    line = command_line n d q a

    abbrev mark : Moment
    mark = Told (entry.Device (device_entry.Command n d q (answer_told a)))

    of_due : (J : UpNode → List Output → Type 0) → GoesOut c n J (at_second now w) [] (cuts.answered_course c n (at_second now w) a (Some d) (Some q))
        → GoesOut c n J (at_second now w) [] (course_of c n ends (at_second now w) (Answered a))
    of_due J h =
        subst (λ o. GoesOut c n J (at_second now w) [] (cuts.answered_course c n (at_second now w) a o (next_of w.tasks))) (sym device)
        (subst (λ o. GoesOut c n J (at_second now w) [] (cuts.answered_course c n (at_second now w) a (Some d) o)) (sym next) h)

    behind : (os : List Output) → all (Answered a) ≡ line ++ os → (After (Answered a)).moments ≡ (passing n os (telling (entry.Device (device_entry.Command n d q (answer_told a))) (with_step (Answered a)))).moments
    behind os is = ap (λ (more : List Output). (passing n more (with_step (Answered a))).moments) is

    -- with an attempt
    pub ended_rests : (b : AttemptState) → w.attempt ≡ Some b → coordinator b.plan.epoch ≡ n → IsOrdered n b → Owns n w.tasks b → in_collect n t.moments ≡ false
        → (After (Answered a)).nodes.node n ≡ Up y → y.attempt ≡ None → Leading S n (After (Answered a)).moments → (IsInstalled y → ⊥) → RestsAt S n y (After (Answered a)).moments
    ended_rests b at own ok owns calm up none leading fresh =
        let J : UpNode → List Output → Type 0 = LeftBehind n line ⊥ (answered_so w a).tasks in
        let h : J y (all (Answered a)) = taken_here c n now ends (Answered a) t J w y was up (λ so. of_due J (answer_left c n (at_second now w) a b at own ok owns d q)) in
        subst (RestsAt S n y) (sym (behind h.0 h.1))
        (left_rests S n ⊥ (answered_so w a).tasks (telling (entry.Device (device_entry.Command n d q (answer_told a))) (with_step (Answered a))) y h.0 calm (subst (Leading S n) (behind h.0 h.1) leading) fresh (λ never. absurd never) (h.2 none))

    -- without one its first task moves on
    pub moved_rests : w.attempt ≡ None → in_collect n t.moments ≡ false → (After (Answered a)).nodes.node n ≡ Up y → Leading S n (After (Answered a)).moments
        → (Leading S n (mark ∷ t.moments) → IsRested (answered_so w a) (told.tasks_of S n (mark ∷ t.moments))) → RestsAt S n y (After (Answered a)).moments
    moved_rests without calm up leading before =
        let J : UpNode → List Output → Type 0 = StaysBehind n line (answered_so w a) in
        let h : J y (all (Answered a)) = taken_here c n now ends (Answered a) t J w y was up (λ so. of_due J (answer_kept c n (at_second now w) a without d q)) in
        let at : Leading S n (passing n h.0 (telling (entry.Device (device_entry.Command n d q (answer_told a))) (with_step (Answered a)))).moments = subst (Leading S n) (behind h.0 h.1) leading in
        subst (RestsAt S n y) (sym (behind h.0 h.1))
        (still_rests S n h.0 (telling (entry.Device (device_entry.Command n d q (answer_told a))) (with_step (Answered a))) y calm h.2.2 at.0 at.1
        (λ first closed. rested_as (answered_so w a) y (told.tasks_of S n (mark ∷ t.moments)) h.2.1 (before (first, closed))))
