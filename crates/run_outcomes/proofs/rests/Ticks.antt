-- What a tick leaves of the tasks of a node that has no attempt after it.
use Rattle.std.specs.Prelude.{ℕ, ◌≡◌, ◌≤◌, ◌++◌, nat_le, nat_lt, List, [], Option, None, Some}
use Rattle.std.proofs.Common.{refl, sym, ap, subst, ◌∙◌, append-nil, inl, inr}
use Rattle.attempt_laws.proofs.Stays.{plan_begins}
use Rattle.cl_base.specs.declared.method.Outcome as method
use Rattle.cmm_attempt.proofs.Basics.{if_either}
use Rattle.cmm_attempt.specs.Attempts.{AttemptState, Turn}
use Rattle.cmm_attempt.specs.Calls.{Call, Tick as Call_tick, With_votes}
use Rattle.device_queue.specs.declared.task.Task.{Task}
use Rattle.history.specs.Setting.{coordinator}
use Rattle.node_model.specs.Attempts.{is_choosing, next_epoch, own_promise, votes_in}
use Rattle.node_model.specs.Seats.{promised_of, promising}
use Rattle.node_model.specs.Ticks.{later, members_to_form, waiting_less}
use Rattle.node_model.specs.declared.cluster.Cluster.{Cluster}
use Rattle.node_model.specs.declared.node.UpNode.{UpNode}
use Rattle.node_model.specs.declared.output.Output.{Output}
use Rattle.refinement.specs.Courses.{Course}
use Rattle.refinement.specs.Courses.Course.{Acts, Keeps, Stops}
use Rattle.refinement.specs.Cuts as cuts
use Rattle.refinement.specs.Cuts.{steps_course}
use Rattle.refinement.specs.Doings.{changed, first_lines, said, saved_lines}
use Rattle.refinement.specs.Doings.Act.{Ticks, Waits}
use Rattle.refinement.specs.Doings.Change.{Leads}
use Rattle.run_commands.proofs.Hearing.{own_next}
use Rattle.run_downs.proofs.Courses.{by_test}
use Rattle.run_history.proofs.Lists.{both}
use Rattle.run_outcomes.specs.tasks.Onward.{GoesOut, IsStill}
use Rattle.run_outcomes.specs.tasks.Own.{Owns}
use Rattle.run_outcomes.proofs.counts.Given.{begins_alive}
use Rattle.run_outcomes.proofs.onward.Beside.{ticked_still}
use Rattle.run_outcomes.proofs.onward.Given.{Behind, out_behind, out_by, out_joined, out_leads}
use Rattle.run_outcomes.proofs.phases.Leading.{is_choice}
use Rattle.run_outcomes.proofs.rests.Calls.{going_left, votes_left}
use Rattle.run_outcomes.proofs.rests.Kept.{Stays, governing_kept, kept_out}
use Rattle.run_outcomes.proofs.rests.Left.{Dropped, IsLeft, Left, alive_left, dropped_behind, left_behind}
use Rattle.run_outcomes.proofs.rests.Turns.{alive_leads}

-- for whatever reason
abbrev pub Anyhow : Type 0
Anyhow = Unit {0}

-- ---- an attempt begins

module _ (c : Cluster) (n : ℕ) (ts : List Task) where
  leading_left : (y : UpNode) (os : List Output) (p members : ℕ) → coordinator p ≡ n → IsLeft n Anyhow ts y os → GoesOut c n (IsLeft n Anyhow ts) y os (cuts.leading_course c n y p members)
  leading_left y os p members own h = if_either (GoesOut c n (IsLeft n Anyhow ts) y os) (nat_lt (promised_of y) p) (Keeps (Leads p members) (cuts.begun_course c n z t)) Stops begun h
    where
      z : UpNode
      z = changed c n y (Leads p members)

      t : Turn
      t = cuts.first_turn c n y p members

      votes : Call
      votes = With_votes (votes_in c t.after)

      given : List Output
      given = os ++ (first_lines n (Leads p members) ++ saved_lines c n y (Leads p members))

      mine : coordinator t.after.plan.epoch ≡ n
      mine = ap coordinator (plan_begins p members (own_promise n (record (promising y p) { greatest = p }) p) c.attached c.id).of_epoch ∙ own

      by_behind : (w : UpNode) (all : List Output) → Behind given (IsLeft n ⊥ []) w all → IsLeft n Anyhow ts w all
      by_behind w all k none = by_way (k.2 none)
        where
          by_way : Left n ⊥ [] w k.0 → Left n Anyhow ts w all
          by_way (inl l) = absurd l.0
          by_way (inr (inl l)) = inr (inl (l.0, subst (Dropped n) (sym k.1) (dropped_behind n given k.0 l.1)))
          by_way (inr (inr l)) = inr (inr l)

      begun : GoesOut c n (IsLeft n Anyhow ts) z given (cuts.begun_course c n z t)
      begun =
          by_test (GoesOut c n (IsLeft n Anyhow ts) z given) (is_choosing t.after.phase) (cuts.called c n z t.after votes) (steps_course c n z t.steps)
          (λ chooses.
          out_by c n (Behind given (IsLeft n ⊥ [])) (IsLeft n Anyhow ts) z given (cuts.called c n z t.after votes) by_behind
          (subst (λ all. GoesOut c n (Behind given (IsLeft n ⊥ [])) z all (cuts.called c n z t.after votes)) (append-nil given)
          (out_behind c n (IsLeft n ⊥ []) z given [] (cuts.called c n z t.after votes) (votes_left c n ⊥ z t.after mine (is_choice t.after.phase chooses) refl))))
          (λ collects.
          out_leads c n (λ w. w.attempt ≡ Some t.after) (IsLeft n Anyhow ts) z given (steps_course c n z t.steps) (λ w more at. alive_left n Anyhow ts w more t.after at)
          (alive_leads c n z t.after t.steps refl (begins_alive p members (own_promise n (record (promising y p) { greatest = p }) p) c.attached c.id)))

  forming_left : (y : UpNode) (os : List Output) (o : Option ℕ) → n ≤ 32 → IsLeft n Anyhow ts y os → GoesOut c n (IsLeft n Anyhow ts) y os (cuts.forming_course c n y o)
  forming_left y os None low h = h
  forming_left y os (Some members) low h = leading_left y os (next_epoch n y) members (own_next n y low) h

-- ---- a tick

module _ (c : Cluster) (n : ℕ) (x : UpNode) (low : n ≤ 32) (known : (a : AttemptState) → x.attempt ≡ Some a → (coordinator a.plan.epoch ≡ n) × Owns n x.tasks a) where
  stays_left : (y : UpNode) (os : List Output) → Stays n x y os → IsLeft n Anyhow x.tasks y os
  stays_left y os s none = inl (tt, s.1, s.2)

  its_left : (y : UpNode) (os : List Output) (o : Option AttemptState) → x.attempt ≡ o → Stays n x y os → GoesOut c n (IsLeft n Anyhow x.tasks) y os (cuts.ticked_course c n y o)
  its_left y os None at s =
      let z : UpNode = waiting_less y in
      if_either (GoesOut c n (IsLeft n Anyhow x.tasks) y os) (nat_le 1 y.beats.wait) (Acts Waits Stops) (Acts Waits (cuts.forming_course c n z (members_to_form c n z)))
      (λ so. stays_left z (os ++ []) (s.0, s.1, both (IsStill n) os [] s.2 tt))
      (λ so. forming_left c n x.tasks z (os ++ []) (members_to_form c n z) low (stays_left z (os ++ []) (s.0, s.1, both (IsStill n) os [] s.2 tt)))
  its_left y os (Some a) at s =
      let k : (coordinator a.plan.epoch ≡ n) × Owns n x.tasks a = known a at in
      out_by c n (Behind os (IsLeft n Anyhow y.tasks)) (IsLeft n Anyhow x.tasks) y os (cuts.going_course c n y a Call_tick)
      (λ w all h. subst (IsLeft n Anyhow x.tasks w) (sym h.1) (left_behind n Anyhow x.tasks w os h.0 s.2 (subst (λ ts. IsLeft n Anyhow ts w h.0) s.1 h.2)))
      (subst (λ all. GoesOut c n (Behind os (IsLeft n Anyhow y.tasks)) y all (cuts.going_course c n y a Call_tick)) (append-nil os)
      (out_behind c n (IsLeft n Anyhow y.tasks) y os [] (cuts.going_course c n y a Call_tick)
      (going_left c n Anyhow y a Call_tick k.0 tt (subst (λ ts. Owns n ts a) (sym s.1) k.1) (λ e cause leaves. tt))))

  pub tick_left : (ends : method.Outcome) → GoesOut c n (IsLeft n Anyhow x.tasks) x [] (cuts.tick_course c n ends x)
  tick_left ends = λ so.
      let y : UpNode = later c x in
      let k : Course = cuts.governing_course c n ends x y in
      out_joined c n (Stays n x) (IsLeft n Anyhow x.tasks) y (said c n x Ticks) k (λ z. cuts.ticked_course c n z z.attempt)
      (kept_out c n x y (said c n x Ticks) k (governing_kept c n ends x y) (refl, refl, (tt, ticked_still c n x y)))
      (λ z more s. subst (λ o. GoesOut c n (IsLeft n Anyhow x.tasks) z more (cuts.ticked_course c n z o)) (sym s.0) (its_left z more x.attempt refl s))
