-- What a node has in hand is bounded: its attempt by the numbers of nodes and devices, the requests that wait by the number of nodes, and
-- its own requests by the length of their queue.
use Rattle.std.specs.Prelude.{ℕ, ◌≤◌, IfSome, List, Option, length}
use Rattle.std.specs.List.{AllByRecursion}
use Rattle.cl_base.specs.Limits.{most_devices, most_nodes}
use Rattle.cmm_attempt.specs.Attempts.{AttemptState}
use Rattle.cmm_attempt.specs.declared.phase.Phase.{Phase}
use Rattle.cmm_attempt.specs.declared.phase.Phase.TheVariants.{Collecting, Choosing, SeizingVotes, SeizingOthers, Installing, Over}
use Rattle.cmm_attempt.specs.declared.plan.Plan.{Plan}
use Rattle.cmm_attempt.specs.declared.seizing.Seizing.{Seizing}
use Rattle.proposals.specs.OneEach.{HasOneEach}
use Rattle.proposals.specs.declared.arrived.Arrived.{Arrived}
use Rattle.request_queue.specs.Queue.{Queue, most_requests}
use Rattle.wire.specs.Spelling.{IsNode}
use Rattle.node_model.specs.declared.input.Input.{Input}
use Rattle.node_model.specs.declared.input.Input.TheVariants.{Packet}
use Rattle.node_model.specs.declared.node.Node.{Node}
use Rattle.node_model.specs.declared.node.Node.TheVariants.{Down, Up}
use Rattle.node_model.specs.declared.node.UpNode.{UpNode}
use Rattle.node_model.specs.declared.presidency.Presidency.{Presidency}

-- An attempt: while the quorum devices are seized there is one seizing of a device at most, and as many again once the others are.
abbrev pub most_seizings : Phase → ℕ
most_seizings SeizingVotes = 16
most_seizings Collecting = 32
most_seizings Choosing = 32
most_seizings SeizingOthers = 32
most_seizings Installing = 32
most_seizings Over = 32

pub record PartsAreBounded (plan : Plan) (devices : List Seizing) (phase : Phase) : Type 0 where
  pub members : length plan.nodes ≤ most_nodes
  pub attached : length plan.attached ≤ most_devices
  pub seizings : length devices ≤ most_seizings phase

abbrev pub AttemptIsBounded : AttemptState → Type 0
AttemptIsBounded a = PartsAreBounded a.plan a.devices a.phase

-- A president: each request that waits is of a node, and each node has one at most.
abbrev pub IsOfNode : Arrived → Type 0
IsOfNode a = IsNode a.from

abbrev pub OfficeIsBounded : Presidency → Type 0
OfficeIsBounded p = AllByRecursion IsOfNode p.proposals.arrived × HasOneEach p.proposals.arrived

-- A node.
pub record MemoryIsBounded (attempt : Option AttemptState) (requests : Queue) (office : Option Presidency) : Type 0 where
  pub own : IfSome attempt AttemptIsBounded
  pub few : length requests.waiting ≤ most_requests
  pub presides : IfSome office OfficeIsBounded

abbrev pub UpIsBounded : UpNode → Type 0
UpIsBounded x = MemoryIsBounded x.attempt x.requests x.presidency

abbrev pub NodeIsBounded : Node → Type 0
NodeIsBounded Down = Unit {0}
NodeIsBounded (Up x) = UpIsBounded x

-- a packet is from a node
abbrev pub IsFromNode : Input → Type 0
IsFromNode (Packet from m) = IsNode from
IsFromNode _ = Unit {0}
