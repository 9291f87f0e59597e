-- What a tick leaves to do, once the heartbeats have gone.
use Rattle.std.specs.Prelude.{ℕ, Option, None, Some}
use Rattle.cl_base.specs.declared.method.Outcome.{Outcome}
use Rattle.node_model.specs.declared.cluster.Cluster.{Cluster}
use Rattle.node_model.specs.declared.node.UpNode.{UpNode}
use Rattle.node_model.specs.declared.presidency.Presidency.{Presidency}
use Rattle.node_model.specs.Plans.{Plan, and_then}
use Rattle.node_model.specs.Ticks.{attempt_ticked, governing, later}
use Rattle.node.specs.Due.{attempt_of}

-- a node that is no president has nothing to govern
abbrev pub left_of : Cluster → ℕ → Outcome → UpNode → Option Presidency → Plan
left_of c me outcome before None = attempt_ticked c me (later c before) before.attempt
left_of c me outcome before (Some p) = and_then (governing c me outcome before (later c before)) (attempt_of c me)
