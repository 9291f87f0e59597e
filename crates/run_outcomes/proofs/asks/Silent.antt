-- Courses that leave the attempt, or end it, and ask nobody.
use Rattle.std.specs.Prelude.{ℕ, ◌≡◌, ◌++◌, List, [], ◌∷◌, Option, None, Some}
use Rattle.std.proofs.Common.{refl, sym, ap, subst, ◌∙◌}
use Rattle.cmm_attempt.specs.Attempts.{AttemptState}
use Rattle.cmm_attempt.specs.declared.step.Step.{Step}
use Rattle.node_model.specs.declared.cluster.Cluster.{Cluster}
use Rattle.node_model.specs.declared.node.UpNode.{UpNode}
use Rattle.node_model.specs.declared.output.Output.{Output}
use Rattle.node_model.specs.declared.output.Output.TheVariants.{Sends, Tells}
use Rattle.refinement.specs.Courses.{Course}
use Rattle.refinement.specs.Courses.Course.{Acts, Falls, Keeps, Stops}
use Rattle.refinement.specs.Doings.{Act, Change, acted, changed, first_lines, said, saved_lines}
use Rattle.status_report.specs.declared.attempt_entry.AttemptEntry.TheVariants as attempt_entry
use Rattle.status_report.specs.declared.entry.Entry.{Entry}
use Rattle.status_report.specs.declared.entry.Entry.TheVariants as entry
use Rattle.wire.specs.declared.message.Body.{Body}
use Rattle.wire.specs.declared.message.Body.TheVariants as body
use Rattle.run_outcomes.specs.phases.Kept.{In}
use Rattle.run_outcomes.specs.saves.Courses.{Leaves, LeavesAct, LeavesChange}
use Rattle.run_outcomes.specs.tasks.Asks.{Told, asked_by_body, asked_by_steps}
use Rattle.run_outcomes.specs.Mute.{AskNone, AsksNone, GivesPlainly, GoesTo, IsNoAsk, Mute, MuteAct, PlainAct}
use Rattle.run_outcomes.specs.tasks.AsksCourses.{AttemptTold, HasTold, StepsTold, Tally, then_given}
use Rattle.run_outcomes.proofs.Mute.{Never, said_none, saved_none}
use Rattle.run_outcomes.specs.tasks.AsksGiven.{asked_by_output, asked_by_outputs}
use Rattle.run_outcomes.proofs.phases.Leading.{act_has, change_has}

-- ---- outputs that ask nobody

pub no_ask : (d to : ℕ) (b : Body) (asked : List ℕ) → IsNoAsk b → asked_by_body d to b asked ≡ asked
no_ask d to (body.SeizeQuorum e members x) asked h = absurd h
no_ask d to (body.SeizeData e members x) asked h = absurd h
no_ask d to _ asked h = refl

same_line : (e d : ℕ) (x : Entry) (asked : List ℕ) → AsksNone (Tells x) → asked_by_output e d (Tells x) asked ≡ asked
same_line e d (entry.Attempt (attempt_entry.Begun f members)) asked h = absurd h
same_line e d _ asked h = refl

pub same_asked : (e d : ℕ) (os : List Output) (asked : List ℕ) → AskNone os → asked_by_outputs e d os asked ≡ asked
same_asked e d [] asked h = refl
same_asked e d (Tells x ∷ os) asked h = ap (asked_by_outputs e d os) (same_line e d x asked h.0) ∙ same_asked e d os asked h.1
same_asked e d (Sends to b ∷ os) asked h = ap (asked_by_outputs e d os) (no_ask d to b asked h.0) ∙ same_asked e d os asked h.1

-- ---- the attempt

-- with the same members asked
pub told_same : (g f : Tally) (steps : List Step) (a : AttemptState) → ((e d : ℕ) → f e d ≡ g e d) → StepsTold g steps a → StepsTold f steps a
told_same g f steps a same h = λ first. ((h first).0, λ d. subst (λ xs. Told d (asked_by_steps d steps xs) a) (sym (same a.plan.epoch d)) ((h first).1 d))

pub in_same : (g f : Tally) (steps : List Step) (o : Option AttemptState) → ((e d : ℕ) → f e d ≡ g e d) → In (StepsTold g steps) o → In (StepsTold f steps) o
in_same g f steps None same h = tt
in_same g f steps (Some a) same h = told_same g f steps a same h

pub act_told : (c : Cluster) (me : ℕ) (x : UpNode) (g : Tally) (a : Act) → LeavesAct a → MuteAct a → PlainAct a → HasTold x g → HasTold (acted c me x a) (then_given g (said c me x a))
act_told c me x g a leaves mute plain h =
    in_same g (then_given g (said c me x a)) [] (acted c me x a).attempt (λ e d. same_asked e d (said c me x a) (g e d) (said_none c me x a leaves mute plain)) (act_has (AttemptTold g) c me x a leaves h)

pub change_told : (c : Cluster) (me : ℕ) (x : UpNode) (g : Tally) (change : Change) → LeavesChange change → HasTold x g → HasTold (changed c me x change) (then_given g (first_lines me change ++ saved_lines c me x change))
change_told c me x g change leaves h =
    let os : List Output = first_lines me change ++ saved_lines c me x change in
    in_same g (then_given g os) [] (changed c me x change).attempt (λ e d. same_asked e d os (g e d) (saved_none c me x change leaves)) (change_has (AttemptTold g) c me x change leaves h)

pub silent_goes : (c : Cluster) (me : ℕ) (x : UpNode) (g : Tally) (k : Course) → Leaves k → Mute k → GivesPlainly k → HasTold x g → GoesTo then_given c me HasTold x g k
silent_goes c me x g Stops leaves mute plain h = h
silent_goes c me x g (Acts a rest) leaves mute plain h = silent_goes c me (acted c me x a) (then_given g (said c me x a)) rest leaves.1 mute.1 plain.1 (act_told c me x g a leaves.0 mute.0 plain.0 h)
silent_goes c me x g (Keeps change rest) leaves mute plain h =
    silent_goes c me (changed c me x change) (then_given g (first_lines me change ++ saved_lines c me x change)) rest leaves.1 mute plain (change_told c me x g change leaves.0 h)
silent_goes c me x g (Falls why) leaves mute plain h = tt

none_told : (g : Tally) (o : Option AttemptState) → In Never o → In (AttemptTold g) o
none_told g None h = tt
none_told g (Some a) h = absurd h

pub none_goes : (c : Cluster) (me : ℕ) (x : UpNode) (g : Tally) (k : Course) → Leaves k → In Never x.attempt → GoesTo then_given c me HasTold x g k
none_goes c me x g Stops leaves h = none_told g x.attempt h
none_goes c me x g (Acts a rest) leaves h = none_goes c me (acted c me x a) (then_given g (said c me x a)) rest leaves.1 (act_has Never c me x a leaves.0 h)
none_goes c me x g (Keeps change rest) leaves h = none_goes c me (changed c me x change) (then_given g (first_lines me change ++ saved_lines c me x change)) rest leaves.1 (change_has Never c me x change leaves.0 h)
none_goes c me x g (Falls why) leaves h = tt
