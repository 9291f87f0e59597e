-- History: what must be of what happened, for it to be the history of one cluster.
use Rattle.std.specs.Prelude.{◌≡◌, List, None}
use Rattle.schedule_text.specs.declared.line.Line.{Line}
use Rattle.status_report.specs.declared.entry.Entry.{Entry}
use Rattle.history.specs.Moment.{Moment, lines_of, entries_of}
use Rattle.history.specs.Setting.{Setting}
use Rattle.history.specs.DeviceRun.{DeviceRun}
use Rattle.history.specs.Links.{Links, drop_due}
use Rattle.history.specs.Starts.{StartLines, base_due}
use Rattle.history.specs.Deeds.{deeds, OfEach}
use Rattle.history.specs.Lineage.{Lineage}
use Rattle.history.specs.Placed.{Placed}
use Rattle.history.specs.Kept.{Kept}
use Rattle.history.specs.DiskRule.{DiskRule}
use Rattle.history.specs.Contact as contact
use Rattle.history.specs.Requests as requests
use Rattle.history.specs.Contents as contents
use Rattle.history.specs.Round.{Rounds, progress_of}
use Rattle.history.specs.Lines.{LinesAnswered}
use Rattle.history.specs.Attempts.{Attempts, AttemptsEnd, AllAccounted}
use Rattle.history.specs.Downs.{Downs, stop_due}
use Rattle.history.specs.Commands.{AnswersOnce, CommandsAreTaken}
use Rattle.history.specs.Messages.{Messages}

-- Repository: what was acknowledged is kept, from membership to membership.
pub record Repository (moments : List Moment) : Type 0 where
  pub lineage : OfEach Lineage (deeds moments)
  pub placed : Placed (deeds moments)
  pub kept : Kept (deeds moments)

-- Contact: nothing that takes part of another node comes about without the messages that tell of it.
pub record Contact (S : Setting) (moments : List Moment) : Type 0 where
  pub once : contact.AttemptsDiffer moments
  pub ready : contact.Ready moments
  pub installed : contact.Installed moments
  pub held : contact.Held S.header moments
  pub votes : contact.HasVotes S moments
  pub prepared : contact.Prepared moments
  pub told : contact.ToldMembers moments
  pub asked : requests.Asked S moments
  pub answered : requests.AnsweredAfterAck S moments

-- Contents: the messages tell what their senders have, and no more.
pub record Contents (S : Setting) (moments : List Moment) : Type 0 where
  pub spelled : contents.Spelled moments
  pub records : contents.Records moments
  pub newest : contents.NewestInstalled moments
  pub installed_base : contents.InstallsTheBase moments
  pub newest_base : contents.NewestBase moments
  pub held : contents.KnownHeld S.header moments
  pub heartbeats : contents.Heartbeats moments
  pub updates : contents.CarriedUpdates S moments

-- What holds of a trace and of each of its prefixes.
pub record Holds (S : Setting) (moments : List Moment) : Type 0 where
  pub devices : DeviceRun S.header moments
  pub links : Links S.cells moments
  pub start_lines : StartLines moments
  pub repository : Repository moments
  pub disk_rule : DiskRule S.header moments
  pub contact : Contact S moments
  pub contents : Contents S moments

-- Answers: each line has its entries, and each answer has its cause.
pub record Answers (S : Setting) (moments : List Moment) : Type 0 where
  pub lines : LinesAnswered S moments
  pub attempts : Attempts S moments
  pub in_time : AttemptsEnd S moments
  pub accounted : AllAccounted S moments
  pub downs : Downs S moments
  pub commands : CommandsAreTaken S moments
  pub once : AnswersOnce moments
  pub messages : Messages S moments

-- Nothing is left that has to follow at once.
pub record IsWhole (S : Setting) (moments : List Moment) : Type 0 where
  pub drops : drop_due S.cells moments ≡ None
  pub bases : base_due moments ≡ None
  pub stops : stop_due moments ≡ None
  pub rounds : progress_of S moments ≡ None

pub record History (S : Setting) (moments : List Moment) : Type 0 where
  pub holds : Holds S moments
  pub answers : Answers S moments
  pub rounds : Rounds S moments
  pub whole : IsWhole S moments

-- These lines have these entries, both newest first, in one history: the parts of rounds stand in neither.
pub record IsHistory (S : Setting) (lines : List Line) (entries : List Entry) : Type 0 where
  pub moments : List Moment
  pub said : lines_of moments ≡ lines
  pub told : entries_of moments ≡ entries
  pub history : History S moments
