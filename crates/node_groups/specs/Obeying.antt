-- An order is carried out, and what follows that. What stands here unfolds only where it is named, but for what is told.
use Rattle.std.specs.Prelude.{ℕ, List, [], ◌∷◌}
use Rattle.cl_base.specs.declared.method.Outcome.{Outcome}
use Rattle.cl_base.specs.declared.method.Outcome.TheVariants.{Success}
use Rattle.rgm_member.specs.Orders.{answer_to}
use Rattle.rgm_member.specs.declared.carried.Carried.{Carried}
use Rattle.rgm_member.specs.declared.carried.Carried.TheVariants.{Called, Cleared, Kept, Old}
use Rattle.wire.specs.declared.message.Body.TheVariants as body
use Rattle.wire.specs.declared.message.Order.{Order}
use Rattle.node_model.specs.declared.cluster.Cluster.{Cluster}
use Rattle.node_model.specs.declared.node.UpNode.{UpNode}
use Rattle.node_model.specs.declared.output.Output.{Output}
use Rattle.node_model.specs.declared.output.Output.TheVariants.{Sends}
use Rattle.node_model.specs.Groups.{carrying_own, obeying}
use Rattle.node_model.specs.Plans.{Plan}

-- how the order ended, as the president is told
abbrev pub done_told : ℕ → Order → Outcome → List Output
done_told to o outcome = Sends to (body.Done o.epoch o.number outcome) ∷ []

abbrev pub end_told : ℕ → Order → Carried → List Output
end_told to o (Called outcome) = done_told to o outcome
end_told to o Cleared = done_told to o Success
end_told to o (Kept outcome) = done_told to o outcome
end_told to o Old = []

-- a member carries out an order of its membership
unfoldable pub obeys : Cluster → ℕ → UpNode → ℕ → Order → Outcome → Plan
obeys c me x from o outcome = obeying c me x from o (answer_to x.worker o outcome)

-- the president carries out its own
unfoldable pub carries_own : Cluster → ℕ → UpNode → Order → Outcome → Plan
carries_own c me x o outcome = carrying_own c me x o (answer_to x.worker o outcome)
