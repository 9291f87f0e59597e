-- What is proved of each run of the world, as things that happen: that each update was asked for, and that `ok` to one stands behind its
-- acknowledgement.
use Rattle.std.specs.Prelude.{◌<◌, ◌^◌, length}
use Rattle.history.specs.Commands.{AnswersOnce}
use Rattle.history.specs.Moment.{lines_of}
use Rattle.history.specs.Requests.{AnsweredAfterAck, Asked}
use Rattle.history_setting.specs.Laws.{OfEachRunIn}

-- While fewer than 2^63 lines are said, which number the commands: each update that is proposed has a request of its own, with its words, that has
-- come to the president.
abbrev pub AskedOfEachRun : Type 0
AskedOfEachRun = OfEachRunIn (λ S moments. length (lines_of moments) < 2 ^ 63 → Asked S moments)

-- Under the same premise, and where each answer is given to a command that waits, as it is in each run: what is answered `ok` was asked by a member
-- of a membership, and if it is an update, it was acknowledged in that membership, and its answer is the first one that the president gave behind
-- the `ack` line.
abbrev pub AnsweredOfEachRun : Type 0
AnsweredOfEachRun = OfEachRunIn (λ S moments. length (lines_of moments) < 2 ^ 63 → AnswersOnce moments → AnsweredAfterAck S moments)
