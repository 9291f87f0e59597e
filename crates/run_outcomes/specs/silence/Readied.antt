-- Readies that came, and those that an attempt has.
use Rattle.std.specs.Prelude.{ℕ, ◌≡◌, true, List, Some}
use Rattle.cmm_attempt.specs.Attempts as attempts
use Rattle.cmm_attempt.specs.Attempts.{AttemptState}
use Rattle.history.specs.Attempts.{has_readied}
use Rattle.history.specs.Moment.{Moment}
use Rattle.node_model.specs.declared.node.Node.TheVariants.{Up}
use Rattle.node_model.specs.declared.node.UpNode.{UpNode}
use Rattle.refinement.specs.Runs.{Nodes}
use Rattle.run_outcomes.specs.silence.Asked.{is_other_node}

-- the attempt of this number has the Ready of each other member of which this holds
abbrev pub Has_of : ℕ → (ℕ → Type 0) → AttemptState → Type 0
Has_of e Due a = (a.plan.epoch ≡ e) × ((m : ℕ) → is_other_node a.plan m ≡ true → Due m → attempts.has_readied a.readies m ≡ true)

-- .. of each whose Ready came by the lines
abbrev pub CameIn : ℕ → List Moment → ℕ → Type 0
CameIn e ms m = has_readied e ms m ≡ true

abbrev pub Has_all : List Moment → AttemptState → Type 0
Has_all ms a = Has_of a.plan.epoch (CameIn a.plan.epoch ms) a

abbrev pub AllHave : Nodes → List Moment → Type 0
AllHave v ms = (n : ℕ) (x : UpNode) (a : AttemptState) → v.node n ≡ Up x → x.attempt ≡ Some a → Has_all ms a
