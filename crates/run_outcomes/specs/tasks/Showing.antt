-- What is asked of the Promise of a coordinator itself.
use Rattle.std.specs.Prelude.{ℕ, ◌≡◌, false, true, Some}
use Rattle.cl_base.specs.Sets.{has}
use Rattle.cmm_attempt.specs.Attempts.{AttemptState}
use Rattle.cmm_attempt.specs.Counts.{is_quorum}
use Rattle.cmm_attempt.specs.Promises.{holds_valid}
use Rattle.cmm_attempt.specs.declared.counting.BothVotes.{BothVotes}
use Rattle.history.specs.Queue as told
use Rattle.history.specs.Setting.{paths_of}
use Rattle.history.specs.Validated.{is_valid, validity}
use Rattle.node_model.specs.declared.node.Node.TheVariants.{Up}
use Rattle.node_model.specs.declared.node.UpNode.{UpNode}
use Rattle.run_history.specs.WorldLines.{IsDevice}
use Rattle.run_outcomes.specs.phases.Laws.{is_seizing}
use Rattle.run_outcomes.specs.tasks.Laws.{OfEachPoint}

-- While an attempt seizes devices, the coordinator's own Promise shows an attached quorum device as valid exactly where the lines do: since the attempt began
-- the node has registered at no quorum device, and has installed nothing.
abbrev pub OwnIsShown : Type 0
OwnIsShown = OfEachPoint (λ h s. (n : ℕ) (x : UpNode) (a : AttemptState) (both : BothVotes) → s.nodes.node n ≡ Up x → x.attempt ≡ Some a → is_seizing a.phase ≡ true
    → a.votes ≡ Some both → (d : ℕ) → IsDevice h d → is_quorum both d ≡ true → has (paths_of h d) n ≡ true → told.is_open (validity h n d s.moments) ≡ false
    → is_valid (validity h n d s.moments) ≡ holds_valid a.promises d n)
