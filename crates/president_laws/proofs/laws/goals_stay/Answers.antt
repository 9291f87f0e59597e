use Rattle.president_laws.proofs.Goals.{goals_follow_the_rule, goals_stay}
use Rattle.president_laws.proofs.laws.goals_stay.Goals as goal

pub returns-clause-rule : goal.returns-clause-rule
returns-clause-rule c = goals_follow_the_rule

pub returns-clause-stay : goal.returns-clause-stay
returns-clause-stay c = goals_stay
