use Rattle.replay.proofs.Replays.{answers_are}
use Rattle.replay.proofs.law.entries_have_the_answers.Goals as goal

pub returns : goal.returns
returns c = λ d steps. answers_are d steps
