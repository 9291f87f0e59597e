-- What the steps of a turn leave of the tasks of a node, where its attempt ends by them, installs or starts.
use Rattle.std.specs.Prelude.{ℕ, ◌≡◌, ◌==◌, ◌++◌, Bool, true, false, List, [], ◌∷◌, Option, None, Some}
use Rattle.std.specs.Option.{unwrap_or}
use Rattle.std.proofs.Common.{refl, sym, ap, subst, ◌∙◌, append_assoc, append-nil, inl, inr}
use Rattle.cl_base.specs.Sets.{has}
use Rattle.cl_base.specs.declared.panic.Panic.TheVariants as panic
use Rattle.cmm_attempt.proofs.Basics.{if_either, none_some, same_some}
use Rattle.cmm_attempt.specs.Attempts.{AttemptState, newest_installed}
use Rattle.cmm_attempt.specs.Calls.{end_in}
use Rattle.cmm_attempt.specs.declared.step.AttemptEnd.{AttemptEnd}
use Rattle.cmm_attempt.specs.declared.step.Step.{Step}
use Rattle.cmm_attempt.specs.declared.step.Step.TheVariants as step
use Rattle.device_queue.specs.Queue.{after_seize}
use Rattle.device_queue.specs.declared.task.Task.{Task}
use Rattle.history.specs.Setting.{coordinator}
use Rattle.node_model.specs.Attempts.{ended_entry, left_out_by, resting}
use Rattle.node_model.specs.Seats.{record_of}
use Rattle.node_model.specs.declared.cluster.Cluster.{Cluster}
use Rattle.node_model.specs.declared.node.UpNode.{UpNode}
use Rattle.node_model.specs.declared.output.Output.{Output}
use Rattle.node_model.specs.declared.output.Output.TheVariants.{Sends, Tells}
use Rattle.refinement.specs.Courses.{Course, joined}
use Rattle.refinement.specs.Courses.Course.{Falls}
use Rattle.refinement.specs.Cuts as cuts
use Rattle.refinement.specs.Cuts.{steps_course, writing}
use Rattle.run_history.proofs.Asking.{AsksNone}
use Rattle.run_history.proofs.Lists.{both}
use Rattle.seize.specs.Seizing as seizing
use Rattle.status_report.specs.declared.entry.Entry.TheVariants as entry
use Rattle.status_report.specs.declared.node_entry.DownCause.TheVariants as down
use Rattle.wire.specs.declared.message.Body.TheVariants as body
use Rattle.run_outcomes.specs.saves.Courses.{LeadsTo}
use Rattle.run_outcomes.specs.tasks.Onward.{AreStill, GoesOut, IsStill}
use Rattle.run_outcomes.proofs.onward.Given.{Behind, out_behind, out_by}
use Rattle.run_outcomes.proofs.rests.Drops.{NoneQueued, is_dropping}
use Rattle.run_outcomes.proofs.rests.Kept.{AreKept, Stays, kept_out}
use Rattle.run_outcomes.proofs.rests.Left.{IsLeft, Left, dropping_line, leaving_still}

-- ---- steps that leave the attempt and the tasks

-- a node without an attempt does nothing but send by them
pub over_kept : (c : Cluster) (me : ℕ) (x : UpNode) (steps : List Step) → x.attempt ≡ None → AreKept (steps_course c me x steps)
over_kept c me x [] none = tt
over_kept c me x (step.Send to m ∷ steps) none = (tt, over_kept c me x steps none)
over_kept c me x (step.NeedVotes n ∷ steps) none = over_kept c me x steps none
over_kept c me x (step.InstallHere i ∷ steps) none = over_kept c me x steps none
over_kept c me x (step.StartHere ∷ steps) none = over_kept c me x steps none
over_kept c me x (step.SeizeHere d kind ∷ steps) none =
    subst (λ o. AreKept (joined c me x (cuts.queued_course d kind o) (λ y. steps_course c me y steps))) (sym none) (over_kept c me x steps none)
over_kept c me x (step.Ended e ∷ steps) none =
    subst (λ o. AreKept (joined c me x (cuts.ended_course me e o) (λ y. steps_course c me y steps))) (sym none) (over_kept c me x steps none)

excluded_kept : (c : Cluster) (me : ℕ) (x : UpNode) (e newest : ℕ) (o : Option ℕ) (steps : List Step) → x.attempt ≡ None → AreKept (joined c me x (cuts.excluded_course me e newest o) (λ y. steps_course c me y steps))
excluded_kept c me x e newest None steps none = over_kept c me x steps none
excluded_kept c me x e newest (Some m) steps none =
    if_either (λ (k : Course). AreKept (joined c me x k (λ y. steps_course c me y steps))) (m == me) (Falls (down.Panic (panic.Excluded newest))) (writing m (body.Excluded e newest)) tt (tt, over_kept c me x steps none)

-- messages alone
pub calm_kept : (c : Cluster) (me : ℕ) (x : UpNode) (steps : List Step) → AsksNone steps → end_in steps ≡ None → AreKept (steps_course c me x steps)
calm_kept c me x [] asks calm = tt
calm_kept c me x (step.Send to m ∷ steps) asks calm = (tt, calm_kept c me x steps asks.1 calm)
calm_kept c me x (step.NeedVotes n ∷ steps) asks calm = calm_kept c me x steps asks calm
calm_kept c me x (step.InstallHere i ∷ steps) asks calm = calm_kept c me x steps asks calm
calm_kept c me x (step.StartHere ∷ steps) asks calm = calm_kept c me x steps asks calm
calm_kept c me x (step.SeizeHere d kind ∷ steps) asks calm = absurd asks
calm_kept c me x (step.Ended e ∷ steps) asks calm = absurd (none_some e (sym calm))

-- ---- steps without an end leave an attempt

abbrev HasThis : AttemptState → UpNode → Type 0
HasThis a y = y.attempt ≡ Some a

pub alive_leads : (c : Cluster) (me : ℕ) (x : UpNode) (a : AttemptState) (steps : List Step) → x.attempt ≡ Some a → end_in steps ≡ None → LeadsTo c me (HasThis a) x (steps_course c me x steps)
alive_leads c me x a [] at calm = at
alive_leads c me x a (step.Send to m ∷ steps) at calm = alive_leads c me x a steps at calm
alive_leads c me x a (step.NeedVotes n ∷ steps) at calm = alive_leads c me x a steps at calm
alive_leads c me x a (step.InstallHere i ∷ steps) at calm = alive_leads c me x a steps at calm
alive_leads c me x a (step.StartHere ∷ steps) at calm = alive_leads c me x a steps at calm
alive_leads c me x a (step.Ended e ∷ steps) at calm = absurd (none_some e (sym calm))
alive_leads c me x a (step.SeizeHere d kind ∷ steps) at calm =
    subst (λ o. LeadsTo c me (HasThis a) x (joined c me x (cuts.queued_course d kind o) (λ y. steps_course c me y steps))) (sym at)
    (if_either (λ (z : UpNode). LeadsTo c me (HasThis a) z (steps_course c me z steps)) (has a.plan.members me) y x (alive_leads c me y a steps at calm) (alive_leads c me x a steps at calm))
  where
    y : UpNode
    y = record x { tasks = after_seize x.tasks d (seizing.begun kind a.plan.epoch a.plan.members me c.id (has (record_of x).valid d)) }

-- ---- the end

module _ (c : Cluster) (n : ℕ) (C : Type 0) where
  abbrev J : List Task → UpNode → List Output → Type 0
  J ts y os = IsLeft n C ts y os

  pub end_out : (x : UpNode) (os : List Output) (a : AttemptState) (e : AttemptEnd) (steps : List Step) → coordinator a.plan.epoch ≡ n → (is_dropping e ≡ false → C) → (is_dropping e ≡ true → NoneQueued x.tasks) → AreStill n os
      → GoesOut c n (J x.tasks) x os (joined c n x (cuts.ended_course n e (Some a)) (λ y. steps_course c n y steps))
  end_out x os a e steps own leaves drops still = λ so.
      out_by c n (Behind (os ++ line) (Stays n z)) (J x.tasks) z (os ++ line) k (λ y all h none. by_end (is_dropping e) refl y all h)
      (subst (λ all. GoesOut c n (Behind (os ++ line) (Stays n z)) z all k) (append-nil (os ++ line))
      (out_behind c n (Stays n z) z (os ++ line) [] k (kept_out c n z z [] k (excluded_kept c n z a.plan.epoch (unwrap_or (newest_installed a) 0) (left_out_by e) steps refl) (refl, refl, tt))))
    where
      z : UpNode
      z = resting x

      line : List Output
      line = Tells (entry.Attempt (ended_entry a.plan.epoch e)) ∷ []

      k : Course
      k = joined c n z (cuts.excluded_course n a.plan.epoch (unwrap_or (newest_installed a) 0) (left_out_by e)) (λ y. steps_course c n y steps)

      by_end : (b : Bool) → is_dropping e ≡ b → (y : UpNode) (all : List Output) → Behind (os ++ line) (Stays n z) y all → Left n C x.tasks y all
      by_end false is y all h =
          let more : List Output = h.0 in
          inl (leaves is, h.2.1, subst (AreStill n) (sym h.1) (both (IsStill n) (os ++ line) more (both (IsStill n) os line still (leaving_still n a.plan.epoch e is, tt)) h.2.2))
      by_end true is y all h =
          inr (inl (
            subst NoneQueued (sym h.2.1) (drops is),
            record {
              before = os;
              line = entry.Attempt (ended_entry a.plan.epoch e);
              after = h.0;
              parts = h.1 ∙ append_assoc os line h.0;
              drops = dropping_line n a.plan.epoch e is own;
              still = h.2.2;
            },
          ))

  pub ended_out : (x : UpNode) (os : List Output) (a : AttemptState) (e : AttemptEnd) (steps : List Step) → x.attempt ≡ Some a → coordinator a.plan.epoch ≡ n → AsksNone steps → end_in steps ≡ Some e
      → (is_dropping e ≡ false → C) → (is_dropping e ≡ true → NoneQueued x.tasks) → AreStill n os → GoesOut c n (J x.tasks) x os (steps_course c n x steps)
  ended_out x os a e [] at own asks is leaves drops still = absurd (none_some e is)
  ended_out x os a e (step.Send to m ∷ steps) at own asks is leaves drops still = λ so.
      ended_out x (os ++ Sends to m.body ∷ []) a e steps at own asks.1 is leaves drops (both (IsStill n) os (Sends to m.body ∷ []) still (tt, tt))
  ended_out x os a e (step.NeedVotes m ∷ steps) at own asks is leaves drops still = ended_out x os a e steps at own asks is leaves drops still
  ended_out x os a e (step.InstallHere i ∷ steps) at own asks is leaves drops still = ended_out x os a e steps at own asks is leaves drops still
  ended_out x os a e (step.StartHere ∷ steps) at own asks is leaves drops still = ended_out x os a e steps at own asks is leaves drops still
  ended_out x os a e (step.SeizeHere d kind ∷ steps) at own asks is leaves drops still = absurd asks
  ended_out x os a e (step.Ended f ∷ steps) at own asks is leaves drops still =
      let same : f ≡ e = same_some f e is in
      subst (λ o. GoesOut c n (J x.tasks) x os (joined c n x (cuts.ended_course n f o) (λ y. steps_course c n y steps))) (sym at)
      (end_out x os a f steps own (λ no. leaves (sym (ap is_dropping same) ∙ no)) (λ yes. drops (sym (ap is_dropping same) ∙ yes)) still)
