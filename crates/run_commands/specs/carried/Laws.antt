-- What is proved of each run of the world, as things that happen: what the messages of updates carry, and who answers a command `ok`.
use Rattle.std.specs.Prelude.{◌<◌, ◌^◌, length}
use Rattle.history.specs.Contents.{CarriedUpdates}
use Rattle.history.specs.Moment.{lines_of}
use Rattle.history_setting.specs.Laws.{OfEachRunIn}
use Rattle.run_commands.specs.carried.Replies.{AnswersAreMembers}

-- While fewer than 2^63 lines are said, which number the commands: a Prepare carries the words that were proposed, a Request those of its
-- command, and a member other than the president answers what the president's Answer says.
abbrev pub UpdatesOfEachRun : Type 0
UpdatesOfEachRun = OfEachRunIn (λ S moments. length (lines_of moments) < 2 ^ 63 → CarriedUpdates S moments)

-- .. What is answered `ok` was asked as a member of the membership of which its node is one still; who is not the president of that membership
-- repeats the president's Answer that has just come.
abbrev pub RepliesOfEachRun : Type 0
RepliesOfEachRun = OfEachRunIn (λ S moments. length (lines_of moments) < 2 ^ 63 → AnswersAreMembers moments)
