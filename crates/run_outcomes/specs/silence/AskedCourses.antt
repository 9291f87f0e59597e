-- The messages that attempts have sent, along the courses of a node.
use Rattle.std.specs.Prelude.{ℕ, ◌≡◌, Bool, true, List, []}
use Rattle.attempt_laws.specs.Staying.{IsFinal}
use Rattle.cmm_attempt.specs.Attempts.{AttemptState}
use Rattle.history.specs.Names as name
use Rattle.cmm_attempt.specs.declared.step.Step.{Step}
use Rattle.node_model.specs.declared.node.UpNode.{UpNode}
use Rattle.node_model.specs.declared.output.Output.{Output}
use Rattle.run_outcomes.specs.phases.Kept.{In}
use Rattle.run_outcomes.specs.silence.Asked.{Query, Told, asked_by_outputs, asked_by_steps}

-- ---- what each attempt sent

abbrev pub Tally : Type 0
Tally = ℕ → Query → Bool

-- with what is given then
abbrev pub then_given : Tally → List Output → Tally
then_given g os = λ e q. asked_by_outputs e q os (g e q)

-- an attempt has sent what its state has; these steps are to come
abbrev pub StepsTold : Tally → List Step → AttemptState → Type 0
StepsTold g steps a = (q : Query) → Told q (asked_by_steps q steps (g a.plan.epoch q)) a

abbrev pub AttemptTold : Tally → AttemptState → Type 0
AttemptTold g a = StepsTold g [] a

abbrev pub HasTold : UpNode → Tally → Type 0
HasTold x g = In (AttemptTold g) x.attempt

-- ---- an attempt that has sent an Install installs, or is over

abbrev pub to_install : ℕ → Query
to_install m = record { to = m; called = name.Install }

abbrev pub Late : Tally → AttemptState → Type 0
Late g a = (m : ℕ) → g a.plan.epoch (to_install m) ≡ true → IsFinal a.phase

abbrev pub HasLate : UpNode → Tally → Type 0
HasLate x g = In (Late g) x.attempt

abbrev pub HasBoth : UpNode → Tally → Type 0
HasBoth x g = HasTold x g × HasLate x g
