-- In each run answers are given once, to commands that wait.
use Rattle.std.specs.Prelude.{List, [], ◌∷◌}
use Rattle.status_report.specs.declared.command_entry.Answer.TheVariants as answer
use Rattle.status_report.specs.declared.command_entry.CommandEntry.TheVariants as command
use Rattle.status_report.specs.declared.entry.Entry.{Entry}
use Rattle.status_report.specs.declared.entry.Entry.TheVariants as entry
use Rattle.history.specs.Commands.{AnswersOnce, IsAnswer}
use Rattle.history.specs.Moment.{Moment, Part, Said, Told}
use Rattle.history.specs.Setting.{Setting}
use Rattle.history_setting.specs.Settings.{setting_of}
use Rattle.run_commands.specs.Answers.{AnswerWaits, AnswersWait, AreReasoned, IsExplained}
use Rattle.run_commands.specs.Own.{OwnAnswersFit}
use Rattle.run_commands.specs.Laws.{AnswersOnceInEachRun, CommandsAreNumberedInEachRun, OwnAnswersFitInEachRun}
use Rattle.run_commands.specs.Numbered.{CommandsAreNumbered, IsNumberedSo}
use Rattle.run_commands.proofs.ReadRuns.{reasons_in_each}
use Rattle.run_commands.proofs.Runs.{waits_in_each}

line_so : (before : List Moment) (e : Entry) → AnswerWaits before (Told e) → IsExplained before (Told e) → IsAnswer before (Told e)
line_so before (entry.Command (command.Answered n q answer.Unknown)) h k = (h, k)
line_so before (entry.Command (command.Answered n q answer.Ok)) h k = (h, k)
line_so before (entry.Command (command.Answered n q answer.UnknownCommand)) h k = (h, k)
line_so before (entry.Command (command.Answered n q answer.MissingOperand)) h k = (h, k)
line_so before (entry.Command (command.Answered n q answer.BadValue)) h k = (h, k)
line_so before (entry.Command (command.Answered n q answer.NotMember)) h k = (h, k)
line_so before (entry.Command (command.Answered n q (answer.Ask c))) h k = (h, k)
line_so before (entry.Command (command.Answered n q answer.QueueFull)) h k = (h, k)
line_so before (entry.Command (command.Answered n q (answer.Refused r))) h k = (h, k)
line_so before (entry.Command (command.Asked n q)) h k = tt
line_so before _ h k = tt

once : (S : Setting) (moments : List Moment) → AnswersWait moments → AreReasoned S moments → AnswersOnce moments
once S [] h k = tt
once S (Said l ∷ before) h k = (tt, once S before h.1 k.1)
once S (Part e ∷ before) h k = (tt, once S before h.1 k.1)
once S (Told e ∷ before) h k = (line_so before e h.0 k.0.0, once S before h.1 k.1)

pub answers_once_in_each_run : AnswersOnceInEachRun
answers_once_in_each_run h cells hs few small may lines =
    once (setting_of h) _ (waits_in_each h cells hs (record { few = few; small = small }) may lines).said (reasons_in_each h cells hs (record { few = few; small = small }) may lines)

fit : (S : Setting) (moments : List Moment) → AreReasoned S moments → OwnAnswersFit S moments
fit S [] k = tt
fit S (x ∷ before) k = (k.0.1, fit S before k.1)

pub own_answers_fit_in_each_run : OwnAnswersFitInEachRun
own_answers_fit_in_each_run h cells hs few small may lines = fit (setting_of h) _ (reasons_in_each h cells hs (record { few = few; small = small }) may lines)

line_numbered : (before : List Moment) (e : Entry) → AnswerWaits before (Told e) → IsNumberedSo before (Told e)
line_numbered before (entry.Command (command.Asked n q)) h = h
line_numbered before (entry.Command (command.Answered n q reply)) h = tt
line_numbered before _ h = tt

numbered : (moments : List Moment) → AnswersWait moments → CommandsAreNumbered moments
numbered [] h = tt
numbered (Said l ∷ before) h = (tt, numbered before h.1)
numbered (Part e ∷ before) h = (tt, numbered before h.1)
numbered (Told e ∷ before) h = (line_numbered before e h.0, numbered before h.1)

pub commands_are_numbered_in_each_run : CommandsAreNumberedInEachRun
commands_are_numbered_in_each_run h cells hs few small may lines = numbered _ (waits_in_each h cells hs (record { few = few; small = small }) may lines).said
