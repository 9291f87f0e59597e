use Rattle.seize.proofs.Fits.{kept_after, shows_after}
use Rattle.seize.proofs.seizing.Seize.take_answer.Goals as goal

pub invariant_of-self : goal.invariant_of-self
invariant_of-self c = kept_after _ c.args.self.now c.args.answer _ c.self.view_is c.step_after-self-inside.ensures c.self.invariant c.requires.keys

pub returns-clause-shows : goal.returns-clause-shows
returns-clause-shows c = shows_after _ c.args.self.now c.args.answer _ c.self.view_is c.step_after-self-inside.ensures c.self.invariant
