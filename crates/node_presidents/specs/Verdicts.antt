-- The president's verdict on a request, and what it does by it.
use Rattle.std.specs.Prelude.{ℕ, ◌&&◌, Option, None, Some, Result, Ok, Err, if◌then◌else◌}
use Rattle.admin_commands.specs.declared.accepted.Accepted.{Accepted}
use Rattle.admin_commands.specs.declared.accepted.Accepted.TheVariants as accepted
use Rattle.admin_commands.specs.declared.error.CheckError.{CheckError}
use Rattle.admin_commands.specs.declared.error.CheckError.TheVariants as because
use Rattle.admin_words.specs.Commands.{request_of}
use Rattle.admin_words.specs.declared.error.WordError.{WordError}
use Rattle.admin_words.specs.declared.request.Request.{Request}
use Rattle.admin_words.specs.declared.request.Request.TheVariants as asked
use Rattle.ccr_tables.specs.State.{ConfigState}
use Rattle.ccr_tables.specs.declared.command.AdminCommand.TheVariants.{Change, Act}
use Rattle.proposals.specs.State.{first_in}
use Rattle.proposals.specs.declared.arrived.Arrived.{Arrived}
use Rattle.proposals.specs.declared.arrived.Proposed.{Proposed}
use Rattle.cl_base.specs.declared.command.Ask.{Ask}
use Rattle.status_report.specs.declared.command_entry.Answer.{Answer}
use Rattle.status_report.specs.declared.command_entry.Answer.TheVariants as answer
use Rattle.update_words.specs.Words.{words_of}
use Rattle.node_model.specs.declared.cluster.Cluster.{Cluster}
use Rattle.node_model.specs.declared.node.UpNode.{UpNode}
use Rattle.node_model.specs.declared.presidency.Presidency.{Presidency}
use Rattle.node_model.specs.declared.seat.Seat.{Seat}
use Rattle.node_model.specs.Configurations.{in_force}
use Rattle.node_model.specs.Plans.{Plan}
use Rattle.node_model.specs.Plans.Plan.{Stays}
use Rattle.node_model.specs.Presidents.{is_busy, is_clear, word_answer}
use Rattle.node_model.specs.Seats.{version_of}
use Rattle.node_presidents.specs.declared.verdict.Verdict.{Verdict}
use Rattle.node_presidents.specs.declared.verdict.Verdict.TheVariants as verdict
use Rattle.node_presidents.specs.Presidents.{HasRoomBy, acting_by, answering_by, proposal, proposing_by}
use Rattle.node_queries.specs.Checks.{checked_under}

-- on a command that is accepted or refused so
abbrev pub verdict_of : Result Accepted CheckError → Verdict
verdict_of (Ok (accepted.Change u)) = verdict.Propose (words_of u)
verdict_of (Ok (accepted.Act ask)) = verdict.Act ask
verdict_of (Ok (accepted.Query q)) = verdict.Answer answer.Ok
verdict_of (Err (because.Refused r)) = verdict.Answer (answer.Refused r)
verdict_of (Err because.NoMemory) = verdict.Wait

-- on a request that is read so, by a president of this seat under a configuration
abbrev pub judged_under : Cluster → ConfigState → Seat → Presidency → Result Request WordError → Verdict
judged_under c s seat p (Ok (asked.Change u)) = if is_busy p.groups then verdict.Wait else verdict_of (checked_under c s seat p (Change u))
judged_under c s seat p (Ok (asked.Act ask)) = if is_busy p.groups && is_clear ask then verdict.Wait else verdict_of (checked_under c s seat p (Act ask))
judged_under c s seat p (Err e) = verdict.Answer (word_answer e)

-- on the first request
abbrev pub verdict_in : Cluster → UpNode → Presidency → Option Proposed → Option Arrived → Verdict
verdict_in c x p None (Some a) = judged_under c (in_force c x) x.seat p (request_of (version_of c) a.text)
verdict_in c x p None None = verdict.Wait
verdict_in c x p (Some proposed) first = verdict.Wait

abbrev pub verdict_by : Cluster → UpNode → Option Presidency → Verdict
verdict_by c x None = verdict.Wait
verdict_by c x (Some p) = verdict_in c x p p.proposals.proposed (first_in p.proposals.arrived)

-- by this name it is not looked into
unfoldable pub judged : Cluster → UpNode → Verdict
judged c x = verdict_by c x x.presidency

-- what is done by it
abbrev pub following : Cluster → ℕ → UpNode → Option Presidency → Verdict → Plan
following c me x presidency (verdict.Propose text) = proposing_by c me x text presidency
following c me x presidency (verdict.Act ask) = acting_by c me x ask presidency
following c me x presidency (verdict.Answer told) = answering_by c me x told presidency
following c me x presidency verdict.Wait = Stays x

-- the same by a node of this presidency, in parts that are not looked into
unfoldable pub acted : Cluster → ℕ → UpNode → Ask → Plan
acted c me x ask = acting_by c me x ask x.presidency

unfoldable pub answered_first : Cluster → ℕ → UpNode → Answer → Plan
answered_first c me x told = answering_by c me x told x.presidency

abbrev pub doing : Cluster → ℕ → UpNode → Verdict → Plan
doing c me x (verdict.Propose text) = proposal c me x text x.presidency
doing c me x (verdict.Act ask) = acted c me x ask
doing c me x (verdict.Answer told) = answered_first c me x told
doing c me x verdict.Wait = Stays x

-- where a clear is to be done, the node has no order
abbrev pub MayDo : UpNode → Verdict → Type 0
MayDo x (verdict.Propose text) = Unit {0}
MayDo x (verdict.Act ask) = HasRoomBy x.presidency ask
MayDo x (verdict.Answer told) = Unit {0}
MayDo x verdict.Wait = Unit {0}
