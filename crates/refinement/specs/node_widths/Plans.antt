-- What a node does in one step keeps widths, whatever comes of its saves, and however a method ends that it calls.
use Rattle.std.specs.Prelude.{ℕ}
use Rattle.cl_base.specs.declared.method.Outcome.{Outcome}
use Rattle.wire.specs.Spelling.{IsNode}
use Rattle.node_model.specs.declared.cluster.Cluster.{Cluster}
use Rattle.node_model.specs.declared.input.Input.{Input}
use Rattle.node_model.specs.declared.node.UpNode.{UpNode}
use Rattle.node_model.specs.Plans.{Plan}
use Rattle.node_model.specs.Plans.Plan.{Stays, Falls, Says, Saves}
use Rattle.node_model.specs.Steps.{plan_of}
use Rattle.refinement.specs.node_widths.Widths.{AllFit, AreDevices, InputFits, RecordFits, UpFits}

-- all that it gives and saves has its widths, and so has the node that it ends in
abbrev pub PlanFits : Cluster → ℕ → Plan → Type 0
PlanFits c n (Stays x) = UpFits c n x
PlanFits c n (Falls why) = Unit {0}
PlanFits c n (Says os rest) = AllFit os × PlanFits c n rest
PlanFits c n (Saves r rest) = RecordFits r × PlanFits c n rest

-- The law.
abbrev pub StepsKeepWidths : Type 0
StepsKeepWidths =
    (c : Cluster) (n : ℕ) (outcome : Outcome) (x : UpNode) (i : Input) → AreDevices c → IsNode n → UpFits c n x → InputFits i → PlanFits c n (plan_of c n outcome x i)
