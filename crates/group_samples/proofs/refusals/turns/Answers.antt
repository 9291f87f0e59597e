use Rattle.group_samples.proofs.Clients.{first_has_all, second_has_two, turn_of_nobody, turn_of_another}
use Rattle.group_samples.proofs.refusals.turns.Goals as goal

pub returns-clause-nobodys : goal.returns-clause-nobodys
returns-clause-nobodys c = turn_of_nobody

pub returns-clause-anothers : goal.returns-clause-anothers
returns-clause-anothers c = turn_of_another

pub returns-clause-all_the_firsts : goal.returns-clause-all_the_firsts
returns-clause-all_the_firsts c = first_has_all

pub returns-clause-two_of_the_second : goal.returns-clause-two_of_the_second
returns-clause-two_of_the_second c = second_has_two
