-- The members that were asked to seize quorum devices, along the courses of a node.
use Rattle.std.specs.Prelude.{ℕ, List, []}
use Rattle.cmm_attempt.specs.Attempts.{AttemptState}
use Rattle.cmm_attempt.specs.declared.step.Step.{Step}
use Rattle.node_model.specs.declared.node.UpNode.{UpNode}
use Rattle.node_model.specs.declared.output.Output.{Output}
use Rattle.run_outcomes.specs.phases.Kept.{In}
use Rattle.run_outcomes.specs.tasks.Asks.{IsFirst, Sound, Told, asked_by_steps}
use Rattle.run_outcomes.specs.tasks.AsksGiven.{asked_by_outputs}

-- ---- whom each attempt asked, of each device

abbrev pub Tally : Type 0
Tally = ℕ → ℕ → List ℕ

-- with what is given then
abbrev pub then_given : Tally → List Output → Tally
then_given g os = λ e d. asked_by_outputs e d os (g e d)

-- an attempt whose coordinator is the first of its members asked those that its entries have; these steps are to come
abbrev pub StepsTold : Tally → List Step → AttemptState → Type 0
StepsTold g steps a = IsFirst a.plan → Sound a × ((d : ℕ) → Told d (asked_by_steps d steps (g a.plan.epoch d)) a)

abbrev pub AttemptTold : Tally → AttemptState → Type 0
AttemptTold g a = StepsTold g [] a

abbrev pub HasTold : UpNode → Tally → Type 0
HasTold x g = In (AttemptTold g) x.attempt
