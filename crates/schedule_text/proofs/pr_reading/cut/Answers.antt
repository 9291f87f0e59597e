use Rattle.schedule_text.proofs.PrintedLemmas.{first_word, one_word}
use Rattle.schedule_text.proofs.pr_reading.cut.Goals as goal

pub returns-in-Some : goal.returns-in-Some
returns-in-Some c = first_word c.args.line.now c.in-Some.space c.in-Some.ensures.0 c.in-Some.ensures.1 c.in-Some.ensures.2

pub returns-in-None : goal.returns-in-None
returns-in-None c = one_word c.args.line.now c.in-None.ensures
