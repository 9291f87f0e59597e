-- A step of a node on any disk sends few messages, and leaves a bounded node.
use Rattle.std.specs.Prelude.{ℕ, ◌+◌, ◌≤◌, ◌++◌, List, [], ◌∷◌, length, Option, None, Some}
use Rattle.std.proofs.Common.{arith}
use Rattle.cl_base.specs.declared.method.Outcome as method
use Rattle.cmm_member.specs.Records.{NodeRecord}
use Rattle.record_disk.specs.Savings.{Saving}
use Rattle.record_disk.specs.declared.error.Loss.{Loss}
use Rattle.status_report.specs.declared.entry.Entry.TheVariants as entry
use Rattle.status_report.specs.declared.node_entry.DownCause.{DownCause}
use Rattle.status_report.specs.declared.node_entry.NodeEntry.TheVariants as note
use Rattle.wire.specs.Spelling.{IsNode}
use Rattle.node_model.specs.Clusters.{first_valid_of}
use Rattle.node_model.specs.declared.cluster.Cluster.{Cluster}
use Rattle.node_model.specs.declared.input.Input.{Input}
use Rattle.node_model.specs.declared.input.Input.TheVariants.{Boot, Crash, Tick, Packet, CommandDue, Answered, Wrote, Commanded, Reported, Client}
use Rattle.node_model.specs.declared.node.UpNode.{UpNode}
use Rattle.node_model.specs.declared.node.Node.{Node}
use Rattle.node_model.specs.declared.node.Node.TheVariants.{Down, Up}
use Rattle.node_model.specs.declared.output.Output.{Output}
use Rattle.node_model.specs.declared.output.Output.TheVariants.{Tells}
use Rattle.node_model.specs.Plans.{Plan, cause_of}
use Rattle.node_model.specs.Plans.Plan.{Stays, Falls, Says, Saves}
use Rattle.node_model.specs.Seats.{up_with}
use Rattle.node_model.specs.Steps.{DiskRules, Outcome, at_second, carried, gone, plan_of, stepped, unless_lost}
use Rattle.refinement.specs.node_bounds.Bounded.{IsFromNode, NodeIsBounded, UpIsBounded}
use Rattle.refinement.specs.node_bounds.Laws.{EndsBounded}
use Rattle.refinement.specs.node_bounds.Sends.{sends_in, sends_of}
use Rattle.refinement.proofs.node_bounds.Counts.{sends_append}
use Rattle.refinement.proofs.node_bounds.Handlers.{steps_send_few, steps_stay_bounded}

-- so many messages at most, and a bounded node
abbrev pub StepIs : {K : Type 0} → ℕ → Outcome K → Type 0
StepIs k o = (sends_of o.given ≤ k) × NodeIsBounded o.after

gone_few : {K : Type 0} → (n : ℕ) (why : DownCause) (given : List Output) (disk : K) (k : ℕ) → sends_of given ≤ k → StepIs k (gone n why given disk)
gone_few n why given disk k few = (omega (arith, few, sends_append given (Tells (entry.Node n (note.Down why)) ∷ [])), tt)

unless_few : {K : Type 0} → (n : ℕ) (given : List Output) (disk : K) (o : Option Loss) (next : Outcome K) (k : ℕ) → sends_of given ≤ k → StepIs k next → StepIs k (unless_lost n given disk o next)
unless_few n given disk None next k few h = h
unless_few n given disk (Some loss) next k few h = gone_few n (cause_of loss) given disk k few

-- no more than the plan, if some of its saves are lost
carried_few : {K : Type 0} → (saving : K → NodeRecord → Saving K) (n : ℕ) (p : Plan) (given : List Output) (disk : K) (k : ℕ) → EndsBounded p → sends_of given + sends_in p ≤ k
    → StepIs k (carried saving n p given disk)
carried_few saving n (Stays x) given disk k h few = (omega (arith, few), h)
carried_few saving n (Falls why) given disk k h few = gone_few n why given disk k (omega (arith, few))
carried_few saving n (Says os rest) given disk k h few = carried_few saving n rest (given ++ os) disk k h (omega (arith, few, sends_append given os))
carried_few saving n (Saves r rest) given disk k h few =
    unless_few n given (saving disk r).after (saving disk r).lost (carried saving n rest given (saving disk r).after) k (omega (arith, few)) (carried_few saving n rest given (saving disk r).after k h few)

boots : (n first_valid : ℕ) (r : NodeRecord) → UpIsBounded (up_with n first_valid r)
boots n first_valid r = record { own = tt; few = omega arith; presides = tt }

pub stepped_few : {K : Type 0} → (rules : DiskRules K) (c : Cluster) (n now : ℕ) (outcome : method.Outcome) (node : Node) (disk : K) (i : Input) → length c.attached ≤ 16 → IsNode n → IsFromNode i
    → NodeIsBounded node → StepIs 4096 (stepped rules c n now outcome node disk i)
stepped_few rules c n now outcome (Up x) disk i few is from h =
    let y : UpNode = at_second now x in
    let k : UpIsBounded y = record { own = h.own; few = h.few; presides = h.presides } in
    carried_few rules.saving n (plan_of c n outcome y i) [] disk 4096 (steps_stay_bounded c n outcome y i few is from k) (omega (arith, steps_send_few c n outcome y i few is from k))
stepped_few rules c n now outcome Down disk Boot few is from h =
    unless_few n (Tells (entry.Node n note.Up) ∷ []) (rules.mounting disk).after (rules.mounting disk).lost
    (record { after = Up (up_with n (first_valid_of c n) (rules.kept disk)); given = Tells (entry.Node n note.Up) ∷ []; disk = (rules.mounting disk).after }) 4096 (omega arith)
    (omega arith, boots n (first_valid_of c n) (rules.kept disk))
stepped_few rules c n now outcome Down disk Crash few is from h = (omega arith, tt)
stepped_few rules c n now outcome Down disk Tick few is from h = (omega arith, tt)
stepped_few rules c n now outcome Down disk (Packet sender m) few is from h = (omega arith, tt)
stepped_few rules c n now outcome Down disk CommandDue few is from h = (omega arith, tt)
stepped_few rules c n now outcome Down disk (Answered a) few is from h = (omega arith, tt)
stepped_few rules c n now outcome Down disk (Wrote d value a) few is from h = (omega arith, tt)
stepped_few rules c n now outcome Down disk (Commanded words) few is from h = (omega arith, tt)
stepped_few rules c n now outcome Down disk (Reported r good) few is from h = (omega arith, tt)
stepped_few rules c n now outcome Down disk (Client address client port) few is from h = (omega arith, tt)
