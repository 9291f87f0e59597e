-- What is proved of each run of the world, as things that happen: what is answered to commands.
use Rattle.std.specs.Prelude.{◌<◌, ◌^◌, length}
use Rattle.history.specs.Commands.{AnswersOnce}
use Rattle.history.specs.Moment.{lines_of}
use Rattle.history_setting.specs.Laws.{OfEachRunIn}
use Rattle.run_commands.specs.Numbered.{CommandsAreNumbered}
use Rattle.run_commands.specs.Own.{OwnAnswersFit}

-- While fewer than 2^63 lines are said, which number the commands: each answer is given to a command that waits, `unknown` only once its
-- membership has ended, and what a node answers by itself in the event of the command.
abbrev pub AnswersOnceInEachRun : Type 0
AnswersOnceInEachRun = OfEachRunIn (λ S moments. length (lines_of moments) < 2 ^ 63 → AnswersOnce moments)

-- Under the same premise: what a node answers by itself is what its command is to be answered.
abbrev pub OwnAnswersFitInEachRun : Type 0
OwnAnswersFitInEachRun = OfEachRunIn (λ S moments. length (lines_of moments) < 2 ^ 63 → OwnAnswersFit S moments)

-- .. and each command has the next number, which counts those that monitors took.
abbrev pub CommandsAreNumberedInEachRun : Type 0
CommandsAreNumberedInEachRun = OfEachRunIn (λ S moments. length (lines_of moments) < 2 ^ 63 → CommandsAreNumbered moments)
