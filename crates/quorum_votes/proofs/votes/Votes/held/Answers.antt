use Rattle.quorum_votes.proofs.QuorumLemmas.{held_is_within}
use Rattle.quorum_votes.proofs.votes.Votes.held.Goals as goal

pub returns-clause-within : goal.returns-clause-within
returns-clause-within c = rw (c.node_votes.ensures.value, c.votes_of_held.ensures.value) (held_is_within c.args.self.now c.args.members c.args.devices)
