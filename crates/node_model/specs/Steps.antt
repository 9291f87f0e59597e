-- A step of a node as a function: the node after what happens to it, what it gives, and the disk that it leaves.
use Rattle.std.specs.Prelude.{ℕ, List, [], ◌∷◌, ◌++◌, Option, None, Some}
use Rattle.cl_base.specs.declared.method.Outcome as method
use Rattle.cmm_member.specs.Records.{NodeRecord}
use Rattle.record_disk.specs.Savings.{Saving}
use Rattle.record_disk.specs.declared.error.Loss.{Loss}
use Rattle.status_report.specs.declared.entry.Entry.TheVariants as entry
use Rattle.status_report.specs.declared.node_entry.DownCause.{DownCause}
use Rattle.status_report.specs.declared.node_entry.DownCause.TheVariants as down
use Rattle.status_report.specs.declared.node_entry.NodeEntry.TheVariants as note
use Rattle.node_model.specs.declared.cluster.Cluster.{Cluster}
use Rattle.node_model.specs.declared.input.Input.{Input}
use Rattle.node_model.specs.declared.input.Input.TheVariants.{Boot, Crash, Tick, Packet, CommandDue, Answered, Wrote, Commanded, Reported, Client}
use Rattle.node_model.specs.declared.node.Node.{Node}
use Rattle.node_model.specs.declared.node.Node.TheVariants as node
use Rattle.node_model.specs.declared.node.UpNode.{UpNode}
use Rattle.node_model.specs.declared.output.Output.{Output}
use Rattle.node_model.specs.declared.output.Output.TheVariants.{Tells}
use Rattle.node_model.specs.Addresses.{on_client}
use Rattle.node_model.specs.Clusters.{first_valid_of}
use Rattle.node_model.specs.Groups.{on_report}
use Rattle.node_model.specs.Devices.{before_command, on_answer_of_device, wrote}
use Rattle.node_model.specs.Members.{on_packet}
use Rattle.node_model.specs.Plans.{Plan, cause_of}
use Rattle.node_model.specs.Plans.Plan.{Stays, Falls, Says, Saves}
use Rattle.node_model.specs.Requests.{on_command}
use Rattle.node_model.specs.Seats.{up_with}
use Rattle.node_model.specs.Ticks.{on_tick}

-- what a node that is up does; where it calls a method, that ends so
abbrev pub plan_of : Cluster → ℕ → method.Outcome → UpNode → Input → Plan
plan_of c me outcome x Boot = Stays x
plan_of c me outcome x Crash = Falls down.Crash
plan_of c me outcome x Tick = on_tick c me outcome x
plan_of c me outcome x (Packet from message) = on_packet c me outcome x from message
plan_of c me outcome x CommandDue = before_command me x
plan_of c me outcome x (Answered a) = on_answer_of_device c me x a
plan_of c me outcome x (Wrote d value a) = wrote me x d value a
plan_of c me outcome x (Commanded words) = on_command c me x words
plan_of c me outcome x (Reported r good) = on_report c me x r good
plan_of c me outcome x (Client address client port) = on_client c x address client port

-- at this second of the clock
abbrev pub at_second : ℕ → UpNode → UpNode
at_second now x = record x { second = now }

pub record Outcome (K : Type 0) : Type 0 where
  pub after : Node
  pub given : List Output
  pub disk : K

-- the node is down: that is told last
abbrev pub gone : {K : Type 0} → ℕ → DownCause → List Output → K → Outcome K
gone me why given disk = record { after = node.Down; given = given ++ Tells (entry.Node me (note.Down why)) ∷ []; disk = disk }

abbrev pub unless_lost : {K : Type 0} → ℕ → List Output → K → Option Loss → Outcome K → Outcome K
unless_lost me given disk None next = next
unless_lost me given disk (Some loss) next = gone me (cause_of loss) given disk

-- a plan is carried out
abbrev pub carried : {K : Type 0} → (K → NodeRecord → Saving K) → ℕ → Plan → List Output → K → Outcome K
carried saving me (Stays x) given disk = record { after = node.Up x; given = given; disk = disk }
carried saving me (Falls why) given disk = gone me why given disk
carried saving me (Says os rest) given disk = carried saving me rest (given ++ os) disk
carried saving me (Saves r rest) given disk = unless_lost me given (saving disk r).after (saving disk r).lost (carried saving me rest given (saving disk r).after)

-- a boot: the record that the disk keeps is read
abbrev pub booted_with : {K : Type 0} → ℕ → ℕ → NodeRecord → Saving K → Outcome K
booted_with me first_valid r mounted =
    unless_lost me (Tells (entry.Node me note.Up) ∷ []) mounted.after mounted.lost
    (record { after = node.Up (up_with me first_valid r); given = Tells (entry.Node me note.Up) ∷ []; disk = mounted.after })

abbrev pub stays_down : {K : Type 0} → K → Outcome K
stays_down disk = record { after = node.Down; given = []; disk = disk }

-- what a disk does
pub record DiskRules (K : Type 0) : Type 0 where
  pub kept : K → NodeRecord
  pub saving : K → NodeRecord → Saving K
  pub mounting : K → Saving K

abbrev pub down_stepped : {K : Type 0} → DiskRules K → Cluster → ℕ → K → Input → Outcome K
down_stepped rules c me disk Boot = booted_with me (first_valid_of c me) (rules.kept disk) (rules.mounting disk)
down_stepped rules c me disk _ = stays_down disk

-- the step, at this second of the clock; a method that the node calls in it ends so
abbrev pub stepped : {K : Type 0} → DiskRules K → Cluster → ℕ → ℕ → method.Outcome → Node → K → Input → Outcome K
stepped rules c me now outcome node.Down disk input = down_stepped rules c me disk input
stepped rules c me now outcome (node.Up x) disk input = carried rules.saving me (plan_of c me outcome (at_second now x) input) [] disk
