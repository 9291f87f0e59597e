-- What is told of a query, and what it is answered.
use Rattle.std.specs.Prelude.{ℕ, List, [], Option, None, Some, Result, Ok, Err}
use Rattle.admin_commands.specs.declared.accepted.Accepted.{Accepted}
use Rattle.admin_commands.specs.declared.accepted.Accepted.TheVariants as accepted
use Rattle.admin_commands.specs.declared.error.CheckError.{CheckError}
use Rattle.admin_commands.specs.declared.error.CheckError.TheVariants as because
use Rattle.ccr_tables.specs.State.{ConfigState}
use Rattle.ccr_tables.specs.declared.command.AdminCommand.{AdminCommand}
use Rattle.cl_base.specs.declared.command.Query.{Query}
use Rattle.cl_base.specs.declared.command.Query.TheVariants as query
use Rattle.group_lines.specs.Groups.{group_lines}
use Rattle.group_lines.specs.Resources.{resource_lines}
use Rattle.query_lines.specs.Lines.{quorum_lines, table_lines}
use Rattle.status_report.specs.declared.command_entry.Answer.{Answer}
use Rattle.status_report.specs.declared.command_entry.Answer.TheVariants as answer
use Rattle.status_report.specs.declared.status_entry.StatusEntry.{StatusEntry}
use Rattle.node_model.specs.declared.cluster.Cluster.{Cluster}
use Rattle.node_model.specs.declared.node.UpNode.{UpNode}
use Rattle.node_model.specs.declared.presidency.Presidency.{Presidency}
use Rattle.node_model.specs.Configurations.{in_force}
use Rattle.node_model.specs.Entries.{replying}
use Rattle.node_model.specs.Plans.{Plan}
use Rattle.node_model.specs.Plans.Plan.{Stays}
use Rattle.node_model.specs.Presidents.{answering_query, checked}
use Rattle.node_model.specs.Seats.{record_of}

-- the lines of a query, at a president of these members
abbrev pub lines_under : ConfigState → ℕ → Presidency → Query → List StatusEntry
lines_under s members p query.GroupStatus = group_lines s p.groups.view
lines_under s members p query.ResourceStatus = resource_lines s p.groups.view
lines_under s members p query.QuorumStatus = quorum_lines s.votes members p.held
lines_under s members p (query.Rows t) = table_lines s t

-- .. if it is accepted
abbrev pub lines_for : ConfigState → ℕ → Presidency → Result Accepted CheckError → List StatusEntry
lines_for s members p (Ok (accepted.Query q)) = lines_under s members p q
lines_for s members p (Ok (accepted.Change u)) = []
lines_for s members p (Ok (accepted.Act ask)) = []
lines_for s members p (Err e) = []

-- what it is answered
abbrev pub answer_for : Result Accepted CheckError → Option Answer
answer_for (Ok (accepted.Query q)) = Some answer.Ok
answer_for (Ok (accepted.Change u)) = None
answer_for (Ok (accepted.Act ask)) = None
answer_for (Err (because.Refused r)) = Some (answer.Refused r)
answer_for (Err because.NoMemory) = None

-- the same at a node, which may be no president
abbrev pub lines_by : Cluster → UpNode → AdminCommand → Option Presidency → List StatusEntry
lines_by c x command None = []
lines_by c x command (Some p) = lines_for (in_force c x) (record_of x).members p (checked c x p command)

abbrev pub answer_by : Cluster → UpNode → AdminCommand → Option Presidency → Option Answer
answer_by c x command None = None
answer_by c x command (Some p) = answer_for (checked c x p command)

abbrev pub replying_if : ℕ → ℕ → UpNode → Option Answer → Plan
replying_if me number x None = Stays x
replying_if me number x (Some told) = replying me number told x

-- a query comes to the node
abbrev pub query_by : Cluster → ℕ → UpNode → ℕ → AdminCommand → Option Presidency → Plan
query_by c me x number command None = Stays x
query_by c me x number command (Some p) = answering_query c me x p number command
