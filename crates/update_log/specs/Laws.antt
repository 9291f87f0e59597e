-- Laws of lists of updates.
use Rattle.std.specs.Prelude.{◌≡◌, ℕ, List, [], ◌∷◌, ◌++◌, Some, None, unwrap_or}
use Rattle.std.specs.Option.{option_and_then, option_map}
use Rattle.cl_base.specs.declared.header.Header.{Header}
use Rattle.quorum_votes.specs.Tables.{VoteTable}
use Rattle.quorum_votes.specs.Votes.{first_of}
use Rattle.update_log.specs.declared.votes.LogVotes.{LogVotes}
use Rattle.update_log.specs.Logs.{config_after, votes_after, with_text}

-- without an update the votes are those of the header
abbrev pub NoUpdates : Type 0
NoUpdates = (h : Header) → votes_after h [] None ≡ Some (record { committed = first_of h; pending = None })

-- one more update changes the configuration of those before it
abbrev pub OneMore : Type 0
OneMore = (h : Header) (texts : List (List ℕ)) (text : List ℕ) →
    config_after h (texts ++ text ∷ []) ≡ option_and_then (λ s. with_text s text) (config_after h texts)

-- the votes once the pending update is committed
abbrev pub votes_then : LogVotes → VoteTable
votes_then v = unwrap_or v.pending v.committed

-- the votes with the pending update are those under the updates where it is committed, too
abbrev pub PendingIsNext : Type 0
PendingIsNext = (h : Header) (committed : List (List ℕ)) (text : List ℕ) →
    option_map votes_then (votes_after h committed (Some text))
    ≡ option_map (λ v. v.committed) (votes_after h (committed ++ text ∷ []) None)
