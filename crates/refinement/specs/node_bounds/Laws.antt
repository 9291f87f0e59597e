-- A step of a node sends few messages, and leaves a node that is bounded again.
use Rattle.std.specs.Prelude.{ℕ, ◌≤◌, length}
use Rattle.cl_base.specs.Limits.{most_devices}
use Rattle.cl_base.specs.declared.method.Outcome.{Outcome}
use Rattle.wire.specs.Spelling.{IsNode}
use Rattle.node_model.specs.declared.cluster.Cluster.{Cluster}
use Rattle.node_model.specs.declared.input.Input.{Input}
use Rattle.node_model.specs.declared.node.UpNode.{UpNode}
use Rattle.node_model.specs.Plans.{Plan}
use Rattle.node_model.specs.Plans.Plan.{Stays, Falls, Says, Saves}
use Rattle.node_model.specs.Steps.{plan_of}
use Rattle.refinement.specs.node_bounds.Bounded.{IsFromNode, UpIsBounded}
use Rattle.refinement.specs.node_bounds.Sends.{most_sends, sends_in}

-- the node that a plan ends in is bounded, if it is up
abbrev pub EndsBounded : Plan → Type 0
EndsBounded (Stays x) = UpIsBounded x
EndsBounded (Falls why) = Unit {0}
EndsBounded (Says os rest) = EndsBounded rest
EndsBounded (Saves r rest) = EndsBounded rest

-- Whatever happens to a bounded node, and however a method ends that it calls.
abbrev pub StepsSendFew : Type 0
StepsSendFew = (c : Cluster) (n : ℕ) (outcome : Outcome) (x : UpNode) (i : Input) → length c.attached ≤ most_devices → IsNode n → IsFromNode i → UpIsBounded x → sends_in (plan_of c n outcome x i) ≤ most_sends

abbrev pub StepsStayBounded : Type 0
StepsStayBounded = (c : Cluster) (n : ℕ) (outcome : Outcome) (x : UpNode) (i : Input) → length c.attached ≤ most_devices → IsNode n → IsFromNode i → UpIsBounded x → EndsBounded (plan_of c n outcome x i)
