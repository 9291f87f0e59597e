-- The steps of an attempt, carried out one after another.
use Rattle.std.proofs.Common.{◌≡◌, ℕ, refl, subst, true, if◌then◌else◌, List, [], ◌∷◌, ◌++◌, Result, Ok, Err}
use Rattle.cmm_attempt.specs.Calls.{starts_in}
use Rattle.cmm_attempt.specs.declared.step.Step.{Step}
use Rattle.cmm_member.specs.Records.{NodeRecord}
use Rattle.node_model.specs.declared.cluster.Cluster.{Cluster}
use Rattle.node_model.specs.declared.node.UpNode.{UpNode}
use Rattle.node_model.specs.declared.output.Output.{Output}
use Rattle.node_model.specs.declared.stop.Stop.{Stop}
use Rattle.node_model.specs.Attempts.{performed_all, performing, step_plan}
use Rattle.node_model.specs.Deciding.{deciding}
use Rattle.node_model.specs.Plans.{Follows, Gives, IsDone}
use Rattle.node_model.specs.Plans.Plan.{Stays}
use Rattle.record_disk.specs.Savings.{Saving}
use Rattle.node_model.proofs.Plans.{done_then, gives_follows, stopped_then, follows_as}

-- some steps are done, and the others are followed
goes_on : {K : Type 0} → (saving : K → NodeRecord → Saving K) (c : Cluster) (me : ℕ) (x : UpNode) (first rest : List Step) (given mid after : List Output) (disk between left : K) (up : UpNode) (r : Result UpNode Stop)
    → IsDone saving (performing c me x first) given disk up mid between → Follows saving (performing c me up rest) mid between r after left → Follows saving (performing c me x (first ++ rest)) given disk r after left
goes_on saving c me x [] rest given mid after disk between left up r done h =
    subst (λ z. Follows saving (performing c me z rest) given disk r after left) done.0
    (subst (λ g. Follows saving (performing c me up rest) g disk r after left) done.1
    (subst (λ d. Follows saving (performing c me up rest) mid d r after left) done.2 h))
goes_on saving c me x (s ∷ first) rest given mid after disk between left up r done h =
    follows_as saving (step_plan c me x s) (λ y. performing c me y first) (λ y. performing c me y (first ++ rest)) given mid after disk between left up r
    (λ y told now some. goes_on saving c me y first rest told mid after now between left up r some h) done

-- one more step is done
pub step_done : {K : Type 0} → (saving : K → NodeRecord → Saving K) (c : Cluster) (me : ℕ) (x : UpNode) (first : List Step) (s : Step) (given mid after : List Output) (disk between left : K) (up new : UpNode)
    → IsDone saving (performing c me x first) given disk up mid between → IsDone saving (step_plan c me up s) mid between new after left → IsDone saving (performing c me x (first ++ s ∷ [])) given disk new after left
step_done saving c me x first s given mid after disk between left up new done more =
    goes_on saving c me x first (s ∷ []) given mid after disk between left up (Ok new) done
    (done_then saving (step_plan c me up s) (λ y. performing c me y []) mid after after between left left new (Ok new) more (refl, refl, refl))

-- the node has stopped in a step
pub step_stopped : {K : Type 0} → (saving : K → NodeRecord → Saving K) (c : Cluster) (me : ℕ) (x : UpNode) (first : List Step) (s : Step) (rest all : List Step) (given mid after : List Output) (disk between left : K) (up : UpNode) (stop : Stop)
    → first ++ s ∷ rest ≡ all → IsDone saving (performing c me x first) given disk up mid between → Follows saving (step_plan c me up s) mid between (Err stop) after left → Follows saving (performing c me x all) given disk (Err stop) after left
step_stopped saving c me x first s rest all given mid after disk between left up stop whole done stopped =
    subst (λ (steps : List Step). Follows saving (performing c me x steps) given disk (Err stop) after left) whole (goes_on saving c me x first (s ∷ rest) given mid after disk between left up (Err stop) done
    (stopped_then saving (step_plan c me up s) (λ y. performing c me y rest) mid after between left stop stopped))

-- the steps are done, the membership has started in one of them, and the president decides
pub decided_then : {K : Type 0} → (saving : K → NodeRecord → Saving K) (c : Cluster) (me : ℕ) (x : UpNode) (steps : List Step) (given mid after : List Output) (disk left : K) (up new : UpNode)
    → starts_in steps ≡ true → IsDone saving (performing c me x steps) given disk up mid left → Gives (deciding c me up) mid (Ok new) after → IsDone saving (performed_all c me x steps) given disk new after left
decided_then saving c me x steps given mid after disk left up new starts done gives =
    done_then saving (performing c me x steps) (λ y. if starts_in steps then deciding c me y else Stays y) given mid after disk left left up (Ok new) done
    (rw starts (gives_follows saving (deciding c me up) mid after (Ok new) left gives))

-- one more is taken off the list
pub one_more : {A : Type 0} (first rest left all : List A) (s : A) → first ++ rest ≡ all → rest ≡ s ∷ left → first ++ s ∷ left ≡ all
one_more first rest left all s whole cut = rw (← cut) whole
