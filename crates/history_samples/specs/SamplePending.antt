-- Whether the last update of a record is pending: membership 65 of two nodes, in which the first update takes the vote of node 1 away.
use Rattle.std.specs.Prelude.{ℕ, List, [], ◌∷◌, ◌++◌, replicate}
use Rattle.quorum_votes.specs.Tables.{VoteTable}
use Rattle.quorum_votes.specs.Votes.{first_of}
use Rattle.quorum_votes.specs.declared.state.NodeState.TheVariants.{Maintenance, Voting, Unconfigured}
use Rattle.schedule_text.specs.declared.event.Event.TheVariants as event
use Rattle.history_samples.specs.SampleNames as name
use Rattle.history.specs.Moment.{Moment}
use Rattle.history.specs.Trace.{saved, installed, member, sent, delivered, attempt, ended_votes, propose, ack}
use Rattle.history.specs.Setting.{Setting}
use Rattle.history_samples.specs.SampleOneNode.{line_of}
use Rattle.history_samples.specs.SampleContents.{no_device, bare, long, short, letter, none, only, promised, formed, prepared_so}

abbrev pub votes_after : List (List ℕ) → VoteTable
votes_after [] = first_of no_device
votes_after (words ∷ later) = record { nodes = Maintenance ∷ Voting ∷ replicate 30 Unconfigured; devices = [] }

abbrev pub voting : Setting
voting = record bare { votes = votes_after }

-- node 1 or node 2 alone, in another attempt, ends it with the counts before the update: one vote of two
abbrev pub short_1 : List Moment → List Moment
short_1 before = ended_votes 129 1 2 [] ∷ attempt 129 1 ∷ before

abbrev pub short_2 : List Moment → List Moment
short_2 before = ended_votes 130 1 2 [] ∷ attempt 130 2 ∷ before

-- or node 1 with the counts after it: no vote of one
abbrev pub voteless_1 : List Moment → List Moment
voteless_1 before = ended_votes 129 0 1 [] ∷ attempt 129 1 ∷ before

-- the president has proposed the update, and has acknowledged it
abbrev pub proposed : List Moment
proposed = propose 65 1 (103 ∷ []) ∷ formed

abbrev pub acknowledged : List Moment
acknowledged = ack 65 1 (103 ∷ []) ∷ proposed

-- node 2 has prepared it, and a Commit of it comes
abbrev pub prepared : List Moment
prepared = sent 8 2 1 (name.Prepared 1) [] ∷ saved 2 ∷ delivered 7 1 2 ∷ line_of (event.Next 1 2) ∷ prepared_so

abbrev pub commit_sent : List Moment
commit_sent = sent 9 1 2 (name.Commit 1) [] ∷ ack 65 1 (103 ∷ []) ∷ delivered 8 2 1 ∷ line_of (event.Next 2 1) ∷ prepared

abbrev pub committed : List Moment
committed = saved 2 ∷ delivered 9 1 2 ∷ line_of (event.Next 1 2) ∷ commit_sent

-- it has begun another attempt before the Commit comes, and is no member
abbrev pub committed_too_late : List Moment
committed_too_late = delivered 9 1 2 ∷ line_of (event.Next 1 2) ∷ attempt 66 2 ∷ commit_sent

-- the Install leaves the update pending; then node 2 becomes a member
abbrev pub pending_installed : List Moment
pending_installed =
    installed 2 65
    ∷ saved 2
    ∷ delivered 4 1 2
    ∷ line_of (event.Next 1 2)
    ∷ sent 4 1 2 name.Install (8 ∷ 1 ∷ long 65 ++ short 3 ++ none ++ only (letter 103) ++ none)
    ∷ installed 1 65
    ∷ saved 1
    ∷ delivered 3 2 1
    ∷ line_of (event.Next 2 1)
    ∷ promised

abbrev pub pending_started : List Moment
pending_started = member 2 65 ∷ saved 2 ∷ pending_installed
