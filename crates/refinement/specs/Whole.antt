-- A step of a node in the machine of memberships: what holds before and after it.
use Rattle.std.specs.Prelude.{ℕ, ◌≡◌, ◌≢◌, ◌≤◌, All, List}
use Rattle.cl_base.specs.declared.method.Outcome.{Outcome}
use Rattle.cmm_attempt.specs.Calls.{IsDevice}
use Rattle.cmm_member.specs.Records.{NodeRecord}
use Rattle.membership_machine.specs.Events.{Event, Run}
use Rattle.membership_machine.specs.Growth.{Grows}
use Rattle.membership_machine.specs.Invariant.{Holds}
use Rattle.membership_machine.specs.State.{Memberships}
use Rattle.node_model.specs.declared.cluster.Cluster.{Cluster}
use Rattle.node_model.specs.declared.input.Input.{Input}
use Rattle.node_model.specs.declared.input.Input.TheVariants.{Packet}
use Rattle.node_model.specs.declared.node.Node.{Node}
use Rattle.node_model.specs.declared.output.Output.{Output}
use Rattle.node_model.specs.Steps.{DiskRules, stepped}
use Rattle.refinement.specs.Facts.{JoinsIn}
use Rattle.refinement.specs.Steps.{disk_rules}
use Rattle.refinement.specs.Ties.{AllTold, MessageTold, NodeTied, setting_of}

-- Node n with its disk, in a machine's state that its runs come to: it is tied.
pub record Stands (c : Cluster) (M : Memberships) (n : ℕ) (node : Node) (disk : NodeRecord) : Type 0 where
  pub tied : NodeTied c M n disk node
  pub joins : JoinsIn node

-- the machine goes on by these events of node n, after which the node stands so, and all that it gives is true
pub record StepGoes (c : Cluster) (M : Memberships) (n : ℕ) (node : Node) (disk : NodeRecord) (given : List Output) : Type 0 where
  pub events : List Event
  pub machine : Memberships
  pub run : Run (setting_of c) M events machine
  pub holds : Holds (setting_of c) machine
  pub grows : Grows M machine
  pub stands : Stands c machine n node disk
  pub others : (k : ℕ) → k ≢ n → machine.node k ≡ M.node k
  pub said : AllTold machine n given

-- a packet that is delivered is true
abbrev pub IsTrue : Memberships → Input → Type 0
IsTrue M (Packet from m) = MessageTold M from m.body
IsTrue M _ = Unit {0}

-- Each step of a node, on a disk that keeps its rules, is a run of the machine of memberships.
abbrev pub StepsGo : {K : Type 0} → DiskRules K → Type 0
StepsGo {K} rules = (c : Cluster) (M : Memberships) (n now : ℕ) (ends : Outcome) (node : Node) (disk : K) (i : Input) → n ≤ 32 → All IsDevice c.attached → Holds (setting_of c) M → IsTrue M i
    → Stands c M n node (rules.kept disk)
    → StepGoes c M n (stepped rules c n now ends node disk i).after (rules.kept (stepped rules c n now ends node disk i).disk) (stepped rules c n now ends node disk i).given

-- .. and so on the simulated disk
abbrev pub NodesGo : Type 0
NodesGo = StepsGo disk_rules
