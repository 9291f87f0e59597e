use Rattle.cluster_ties.proofs.Told as proof
use Rattle.cluster_ties.proofs.sends_are_told.Goals as goal

pub returns-clause-requests : goal.returns-clause-requests
returns-clause-requests c = proof.requests_are_told

pub returns-clause-own_requests : goal.returns-clause-own_requests
returns-clause-own_requests c = proof.own_requests_are_told

pub returns-clause-promises : goal.returns-clause-promises
returns-clause-promises c = proof.promises_are_told

pub returns-clause-results : goal.returns-clause-results
returns-clause-results c = proof.results_are_told
