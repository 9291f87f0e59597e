-- The course of a step: its small steps while each save is done, and what comes of it where one is lost.
use Rattle.std.specs.Prelude.{ℕ, List, [], ◌∷◌}
use Rattle.status_report.specs.declared.node_entry.DownCause.{DownCause}
use Rattle.status_report.specs.declared.node_entry.DownCause.TheVariants as down
use Rattle.node_model.specs.declared.cluster.Cluster.{Cluster}
use Rattle.node_model.specs.declared.node.UpNode.{UpNode}
use Rattle.node_model.specs.declared.output.Output.{Output}
use Rattle.node_model.specs.Plans.{Plan}
use Rattle.node_model.specs.Plans.Plan.{Stays, Falls as Plan_falls, Says, Saves as Plan_saves}
use Rattle.node_model.specs.Seats.{record_of}
use Rattle.refinement.specs.Doings.{Act, Change, Doing, acted, changed, first_lines, said, saved_lines}
use Rattle.refinement.specs.Doings.Doing.{Does, Forgets, Goes_down, Loses, Saves}

pub data Course : Type 0 where
  Stops : Course  -- nothing is left to do
  Acts : (a : Act) (rest : Course) → Course
  Keeps : (c : Change) (rest : Course) → Course  -- the change is made and saved
  Falls : (why : DownCause) → Course  -- the node goes down

-- a course, and what follows where the node is up after it
abbrev pub joined : Cluster → ℕ → UpNode → Course → (UpNode → Course) → Course
joined c me x Stops next = next x
joined c me x (Acts a rest) next = Acts a (joined c me (acted c me x a) rest next)
joined c me x (Keeps change rest) next = Keeps change (joined c me (changed c me x change) rest next)
joined c me x (Falls why) next = Falls why

-- The plan that it is, from this node on.

abbrev pub saying : List Output → Plan → Plan
saying [] rest = rest
saying (o ∷ os) rest = Says (o ∷ []) (saying os rest)

abbrev pub plan_from : Cluster → ℕ → UpNode → Course → Plan
plan_from c me x Stops = Stays x
plan_from c me x (Acts a rest) = saying (said c me x a) (plan_from c me (acted c me x a) rest)
plan_from c me x (Keeps change rest) =
    saying (first_lines me change) (Plan_saves (record_of (changed c me x change)) (saying (saved_lines c me x change) (plan_from c me (changed c me x change) rest)))
plan_from c me x (Falls why) = Plan_falls why

-- What comes of a save: it is done, or it is lost, and leaves the new record or the old one.
pub data Reply : Type 0 where
  Done : Reply
  Lost_new : (why : DownCause) → Reply
  Lost_old : (why : DownCause) → Reply

-- The small steps where the saves come to this, one reply for each; where there is none left, the node has stopped.
abbrev pub under : List Reply → Course → List Doing
under replies Stops = []
under replies (Acts a rest) = Does a ∷ under replies rest
under [] (Keeps change rest) = Forgets change down.Stopped ∷ []
under (Done ∷ replies) (Keeps change rest) = Saves change ∷ under replies rest
under (Lost_new why ∷ replies) (Keeps change rest) = Loses change why ∷ []
under (Lost_old why ∷ replies) (Keeps change rest) = Forgets change why ∷ []
under replies (Falls why) = Goes_down why ∷ []
