-- Which event a node's step is of, and what each small step leaves.
use Rattle.std.specs.Prelude.{ℕ, ◌≢◌, Bool, true, false, List, None, Some}
use Rattle.std.specs.List.{AllByRecursion}
use Rattle.history.specs.Contents.{Heartbeats}
use Rattle.node_model.specs.declared.node.Node.{Node}
use Rattle.node_model.specs.declared.output.Output.{Output}
use Rattle.refinement.specs.Doings.{Change, Doing}
use Rattle.refinement.specs.Doings.Change.{Promises}
use Rattle.refinement.specs.Doings.Doing.{Saves}
use Rattle.refinement.specs.Ties.{Delivered}
use Rattle.run_history.specs.Scenes.{Scene, passing}
use Rattle.wire.specs.declared.message.Body.{Body}
use Rattle.wire.specs.declared.message.Body.TheVariants as body
use Rattle.run_messages.specs.Laws.{IsSeated}
use Rattle.run_messages.specs.Outputs.{AreStill}

abbrev pub is_collect : Body → Bool
is_collect (body.Collect e members) = true
is_collect _ = false

-- whether a Collect is delivered in the event
abbrev pub collecting : Delivered → Bool
collecting None = false
collecting (Some d) = is_collect d.1.body

-- in the event of a Collect nothing is saved but a promise
abbrev pub IsCollected : Bool → Change → Type 0
IsCollected false change = Unit {0}
IsCollected true (Promises p) = Unit {0}
IsCollected true _ = ⊥

abbrev pub IsCollectedDoing : Bool → Doing → Type 0
IsCollectedDoing b (Saves change) = IsCollected b change
IsCollectedDoing b _ = Unit {0}

abbrev pub AreCollected : Bool → List Doing → Type 0
AreCollected b ds = AllByRecursion (IsCollectedDoing b) ds

-- After these outputs of node n, which is so then, it is seated; they say nothing of other nodes, and their Heartbeats are right.
pub record Leads (n : ℕ) (after : Node) (os : List Output) (s : Scene) : Type 0 where
  pub own : IsSeated (passing n os s).moments n after
  pub others : (k : ℕ) → k ≢ n → AreStill k os
  pub beats : Heartbeats s.moments → Heartbeats (passing n os s).moments
