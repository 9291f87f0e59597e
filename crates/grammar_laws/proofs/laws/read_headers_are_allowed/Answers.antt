use Rattle.grammar_laws.proofs.Heads as proof
use Rattle.grammar_laws.proofs.laws.read_headers_are_allowed.Goals as goal

pub returns-clause-allowed : goal.returns-clause-allowed
returns-clause-allowed c = proof.heads_are_allowed

pub returns-clause-servers : goal.returns-clause-servers
returns-clause-servers c = proof.servers_are_not_read
