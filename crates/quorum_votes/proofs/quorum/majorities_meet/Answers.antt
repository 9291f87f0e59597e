use Rattle.quorum_votes.proofs.QuorumLemmas.{majorities_meet_lem, held_is_within}
use Rattle.quorum_votes.proofs.quorum.majorities_meet.Goals as goal

pub returns-clause-meet : goal.returns-clause-meet
returns-clause-meet c = majorities_meet_lem

pub returns-clause-within : goal.returns-clause-within
returns-clause-within c = held_is_within
