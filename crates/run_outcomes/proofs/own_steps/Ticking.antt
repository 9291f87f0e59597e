-- A tick that the attempt of a coordinator takes while it seizes devices leaves the tasks as those of the lines.
use Rattle.std.specs.Prelude.{ℕ, ◌≡◌, ◌++◌, true, false, List, Some}
use Rattle.std.proofs.Common.{sym, ap, subst, ◌∙◌, append-nil, inl, inr}
use Rattle.cl_base.specs.declared.method.Outcome as method
use Rattle.cmm_attempt.proofs.Basics.{false_true}
use Rattle.cmm_attempt.specs.Attempts.{AttemptState}
use Rattle.cmm_attempt.specs.Calls.{Tick as Call_tick}
use Rattle.cmm_attempt.specs.declared.counting.BothVotes.{BothVotes}
use Rattle.device_queue.specs.declared.task.Task.{Task}
use Rattle.history.specs.Member.{in_collect}
use Rattle.history.specs.Queue as told
use Rattle.history.specs.Setting.{Setting}
use Rattle.node_model.specs.declared.cluster.Cluster.{Cluster}
use Rattle.node_model.specs.declared.input.Input.TheVariants.{Tick}
use Rattle.node_model.specs.declared.node.UpNode.{UpNode}
use Rattle.run_devices.specs.queues.Laws.{Same}
use Rattle.run_history.specs.Happenings.{given_by, taking}
use Rattle.run_history.specs.Scenes.{Scene}
use Rattle.run_outcomes.specs.phases.Laws.{is_seizing}
use Rattle.run_outcomes.specs.tasks.Lasting.{lasts_open}
use Rattle.run_outcomes.specs.tasks.Onward.{AreStill}
use Rattle.run_outcomes.proofs.onward.Here.{given_passed}
use Rattle.run_outcomes.proofs.onward.Passing.{Passed}
use Rattle.run_outcomes.proofs.onward.Ticks.{Ticked}
use Rattle.run_outcomes.proofs.own_steps.Past.{seizing_chooses_not, seizing_votes_stay, tick_begins_none}
use Rattle.run_outcomes.proofs.told_tasks.Closed.{closed_all}
use Rattle.run_outcomes.proofs.told_tasks.Quiet.{same_tasks}

pub ticked_same : (S : Setting) (c : Cluster) (n now : ℕ) (ends : method.Outcome) (t : Scene) (x : UpNode) (b : AttemptState) (both : BothVotes) (ts : List Task) → in_collect n t.moments ≡ false
    → AreStill n (given_by c n now ends Tick t.nodes) → Ticked c n x b ts → b.votes ≡ Some both → lasts_open S n (taking c n now ends Tick t).moments ≡ false
    → ((a : AttemptState) → x.attempt ≡ Some a → is_seizing a.phase ≡ true → a.votes ≡ Some both → lasts_open S n t.moments ≡ false → Same x.tasks (told.tasks_of S n t.moments))
    → Same ts (told.tasks_of S n (taking c n now ends Tick t).moments)
ticked_same S c n now ends t x b both ts calm still (a, valid, at, is, inr r) given closed before = absurd (false_true (sym (seizing_chooses_not a Call_tick tt is) ∙ r.0))
ticked_same S c n now ends t x b both ts calm still (a, valid, at, is, inl r) given closed before =
    subst (λ ms. Same ts (told.tasks_of S n ms)) (sym z.parts)
    (subst (Same ts) (sym (same_tasks S n t.moments z.newer z.quiet))
    (subst (λ us. Same us (told.tasks_of S n t.moments)) (sym same)
    (before a at is votes (closed_all S n t.moments z.newer z.quiet (subst (λ ms. lasts_open S n ms ≡ false) z.parts closed)))))
  where
    z : Passed n t.moments (taking c n now ends Tick t).moments
    z = given_passed c n now ends Tick t calm still

    same : ts ≡ x.tasks
    same = r.1.tasks ∙ (ap (λ us. x.tasks ++ us) (tick_begins_none c n valid a r.1.new r.1.begun) ∙ append-nil x.tasks)

    votes : a.votes ≡ Some both
    votes = sym (seizing_votes_stay a Call_tick tt is) ∙ subst (λ (s : AttemptState). s.votes ≡ Some both) r.1.is given
