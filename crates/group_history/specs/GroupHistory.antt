-- What must be of groups in what happened, beside what `history` says, for it to be the history of one cluster.
use Rattle.std.specs.Prelude.{◌≡◌, List, None}
use Rattle.schedule_text.specs.declared.line.Line.{Line}
use Rattle.status_report.specs.declared.entry.Entry.{Entry}
use Rattle.history.specs.History.{History}
use Rattle.history.specs.Moment.{Moment, lines_of, entries_of}
use Rattle.group_history.specs.Setting.{Groups}
use Rattle.group_history.specs.AllowedCalls.{AllowedCalls}
use Rattle.group_history.specs.Calls.{Calls, CallsEnd, under_call}
use Rattle.group_history.specs.Once.{Once, DonesTell}
use Rattle.group_history.specs.Outcomes.{OutcomesAreDue}
use Rattle.group_history.specs.Reports.{ReportsTell}
use Rattle.group_history.specs.Adopting.{AdoptLines, adopt_due}
use Rattle.group_history.specs.Adoption.{Adoption}
use Rattle.group_history.specs.Sending.{OrdersInTurn}
use Rattle.group_history.specs.Failures.{Panics, PromisesTell, Exclusions, panic_due}
use Rattle.group_history.specs.Probes.{ProbesAnswered, RequestsTell}
use Rattle.group_history.specs.Refusals.{Proposals, AnswersAreDue, FullQueues}
use Rattle.group_history.specs.Queries.{QueriesAnswered}
use Rattle.group_history.specs.Quiet.{QuietStatus}
use Rattle.group_history.specs.Again.{Again}
use Rattle.group_history.specs.Waiting.{AnswersCome}
use Rattle.group_history.specs.Addresses.{ClientsServed}

-- What holds of a trace and of each of its prefixes.
pub record GroupsHold (S : Groups) (moments : List Moment) : Type 0 where
  -- Maps: a start takes over what its members report, and members report what they have
  pub reported : ReportsTell S moments
  pub adopted : AdoptLines S moments
  pub flagged : PromisesTell S moments
  -- Allowed call
  pub allowed : AllowedCalls S moments
  -- Call, Once
  pub called : Calls moments
  pub ended : CallsEnd moments
  pub once : Once moments
  pub told : DonesTell moments
  pub given : OrdersInTurn moments
  pub asked : RequestsTell S moments
  -- Adoption
  pub adoption : Adoption S moments

-- What holds of the whole: each answer has its cause.
pub record GroupAnswers (S : Groups) (moments : List Moment) : Type 0 where
  pub outcomes : OutcomesAreDue S moments
  pub panics : Panics S moments
  pub exclusions : Exclusions S moments
  pub probes : ProbesAnswered S moments
  pub proposals : Proposals S moments
  pub answers : AnswersAreDue S moments
  pub full : FullQueues S moments
  pub queries : QueriesAnswered S moments
  pub quiet : QuietStatus S moments
  pub again : Again S moments
  pub waiting : AnswersCome S moments
  pub addresses : ClientsServed S moments

-- Nothing is left that has to follow at once.
pub record GroupsWhole (S : Groups) (moments : List Moment) : Type 0 where
  pub adopts : adopt_due S moments ≡ None
  pub calls : under_call moments ≡ None
  pub panics : panic_due S moments ≡ None

-- The whole of it: the history of one cluster with its groups.
pub record ClusterHistory (S : Groups) (moments : List Moment) : Type 0 where
  pub cluster : History S.cluster moments
  pub holds : GroupsHold S moments
  pub answers : GroupAnswers S moments
  pub whole : GroupsWhole S moments

-- These lines have these entries, both newest first, in one such history.
pub record IsClusterHistory (S : Groups) (lines : List Line) (entries : List Entry) : Type 0 where
  pub moments : List Moment
  pub said : lines_of moments ≡ lines
  pub told : entries_of moments ≡ entries
  pub history : ClusterHistory S moments
