-- Two nodes form a membership, 65; node 2 goes down, and node 1 alone forms 129, in which an update is acknowledged. Node 1 goes down;
-- node 2, which does not have the update, comes back, and cannot form a membership alone. When both are back they form 193, which begins
-- with the update. In brief form: without messages and device lines.
use Rattle.std.specs.Prelude.{ℕ, List, [], ◌∷◌}
use Rattle.schedule_text.specs.declared.event.Event.TheVariants as event
use Rattle.status_report.specs.declared.node_entry.DownCause.TheVariants as cause
use Rattle.cl_base.specs.declared.seizing.Obstacle.TheVariants as lack
use Rattle.cl_base.specs.declared.seizing.SeizeEnd.TheVariants as end
use Rattle.status_report.specs.declared.command_entry.Answer.TheVariants as answer
use Rattle.history.specs.Moment.{Moment}
use Rattle.history.specs.Trace.{up, down, member, attempt, start, base, propose, ack, asked, answered, gives, ended_votes}
use Rattle.history_samples.specs.SampleOneNode.{line_of}

-- the words of the update, a letter here
abbrev pub create_group : List ℕ
create_group = 103 ∷ []

abbrev pub another : List ℕ
another = 104 ∷ []

abbrev pub alone_after_a_crash : List Moment
alone_after_a_crash =
    member 1 129
    ∷ start 129 1 1 0
    ∷ attempt 129 1
    ∷ down 2 cause.Crash
    ∷ line_of (event.Crash 2)
    ∷ member 2 65
    ∷ member 1 65
    ∷ start 65 3 1 0
    ∷ attempt 65 3
    ∷ up 2
    ∷ line_of (event.Boot 2)
    ∷ up 1
    ∷ line_of (event.Boot 1)
    ∷ []

abbrev pub proposed : List Moment
proposed = propose 129 1 create_group ∷ asked 1 1 ∷ gives 1 create_group ∷ alone_after_a_crash

abbrev pub updated : List Moment
updated = answered 1 1 answer.Ok ∷ ack 129 1 create_group ∷ proposed

abbrev pub alone_again : List Moment
alone_again =
    ended_votes 130 1 2 (record { device = 1; obstacle = lack.Seizing (end.NotRegistered tt) } ∷ [])
    ∷ attempt 130 2
    ∷ up 2
    ∷ line_of (event.Boot 2)
    ∷ down 1 cause.Crash
    ∷ line_of (event.Crash 1)
    ∷ updated

abbrev pub both_again : List Moment
both_again = attempt 193 3 ∷ up 1 ∷ line_of (event.Boot 1) ∷ alone_again

abbrev pub amnesia : List Moment
amnesia = member 2 193 ∷ member 1 193 ∷ base 193 1 create_group ∷ start 193 3 1 1 ∷ both_again

-- ---- what may not be

-- the acknowledged update is lost
abbrev pub update_lost : List Moment
update_lost = start 193 3 1 0 ∷ both_again

-- the base has an update that nobody proposed
abbrev pub base_of_nothing : List Moment
base_of_nothing = base 193 1 another ∷ start 193 3 1 1 ∷ both_again

-- the first membership begins with an update
abbrev pub first_with_a_base : List Moment
first_with_a_base = base 65 1 create_group ∷ start 65 3 1 1 ∷ attempt 65 3 ∷ []

-- a number starts twice
abbrev pub started_twice : List Moment
started_twice = start 65 3 1 0 ∷ alone_after_a_crash

-- the `base` line is missing, or the first is not of place 1
abbrev pub base_line_missing : List Moment
base_line_missing = member 1 193 ∷ start 193 3 1 1 ∷ both_again

abbrev pub base_line_misplaced : List Moment
base_line_misplaced = base 193 2 create_group ∷ start 193 3 1 1 ∷ both_again

-- an update is acknowledged that was not proposed, or at another place, or proposed at one
abbrev pub acked_unproposed : List Moment
acked_unproposed = ack 129 1 create_group ∷ alone_after_a_crash

abbrev pub acked_elsewhere : List Moment
acked_elsewhere = ack 129 2 create_group ∷ proposed

abbrev pub proposed_elsewhere : List Moment
proposed_elsewhere = propose 129 2 create_group ∷ asked 1 1 ∷ gives 1 create_group ∷ alone_after_a_crash

-- an update of a membership that never started
abbrev pub proposed_in_nothing : List Moment
proposed_in_nothing = propose 193 1 create_group ∷ alone_after_a_crash

-- nobody asked for the update, or one line asked for two
abbrev pub proposed_unasked : List Moment
proposed_unasked = propose 129 1 create_group ∷ alone_after_a_crash

abbrev pub proposed_twice : List Moment
proposed_twice = propose 129 2 create_group ∷ ack 129 1 create_group ∷ proposed

-- the answer comes before the `ack` line
abbrev pub answered_too_early : List Moment
answered_too_early = answered 1 1 answer.Ok ∷ proposed

-- a second answer, and one that says `unknown` while the node is still a member
abbrev pub answered_twice : List Moment
answered_twice = answered 1 1 answer.Ok ∷ updated

abbrev pub unknown_to_a_member : List Moment
unknown_to_a_member = answered 1 1 answer.Unknown ∷ proposed

-- two updates are proposed and not acknowledged: the base may have the first, and not both
abbrev pub two_proposed : List Moment
two_proposed = propose 129 2 another ∷ proposed

abbrev pub one_pending : List Moment
one_pending = base 193 1 create_group ∷ start 193 3 1 1 ∷ attempt 193 3 ∷ two_proposed

abbrev pub two_pending : List Moment
two_pending = base 193 2 another ∷ base 193 1 create_group ∷ start 193 3 1 2 ∷ attempt 193 3 ∷ two_proposed
