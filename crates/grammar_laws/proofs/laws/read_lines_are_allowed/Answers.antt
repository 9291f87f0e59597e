use Rattle.grammar_laws.proofs.Events as proof
use Rattle.grammar_laws.proofs.laws.read_lines_are_allowed.Goals as goal

pub returns-clause-allowed : goal.returns-clause-allowed
returns-clause-allowed c = proof.events_are_allowed

pub returns-clause-seconds : goal.returns-clause-seconds
returns-clause-seconds c = proof.seconds_fit
