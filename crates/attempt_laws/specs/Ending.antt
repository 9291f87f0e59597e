-- What ends an attempt.
use Rattle.std.specs.Prelude.{ℕ, ◌≡◌, [], Some, None, false}
use Rattle.quorum_votes.specs.Tables.{VoteTable}
use Rattle.wire.specs.declared.message.Body.TheVariants as body
use Rattle.wire.specs.declared.message.Message.{Message}
use Rattle.cmm_attempt.specs.declared.counting.BothVotes.{BothVotes}
use Rattle.cmm_attempt.specs.declared.step.AttemptEnd.TheVariants.{Superseded, Foreign, Excluded}
use Rattle.cmm_attempt.specs.Promises.{newest_shown, first_left_out}
use Rattle.cmm_attempt.specs.Counts.{first_foreign, first_short, reached_set, votes_end}
use Rattle.cmm_attempt.specs.Attempts.{AttemptState, is_over}
use Rattle.cmm_attempt.specs.Calls.{Take, With_votes, turn, end_in}

-- a Nack of the epoch, whenever it comes
abbrev pub NacksEnd : Type 0
NacksEnd = (s : AttemptState) (from : ℕ) (m : Message) (q : ℕ) → is_over s.phase ≡ false → m.body ≡ body.Nack s.plan.epoch q
    → end_in (turn s (Take from m)).steps ≡ Some (Superseded q)

-- a member that is not configured, the least
abbrev pub ForeignEnds : Type 0
ForeignEnds = (s : AttemptState) (both : BothVotes) (n : ℕ) → first_foreign both s.plan.nodes ≡ Some n → end_in (turn s (With_votes both)).steps ≡ Some (Foreign n)

-- where there is none, a member that the newest record left out, the least
abbrev pub LeftOutEnds : Type 0
LeftOutEnds = (s : AttemptState) (both : BothVotes) (n : ℕ) → first_foreign both s.plan.nodes ≡ None → first_left_out s.promises s.plan.nodes (newest_shown s.promises) ≡ Some n
    → end_in (turn s (With_votes both)).steps ≡ Some (Excluded n)

-- where there is none, too few votes with every device that a member reaches
abbrev pub TooFewEnds : Type 0
TooFewEnds = (s : AttemptState) (both : BothVotes) (v : VoteTable) → first_foreign both s.plan.nodes ≡ None → first_left_out s.promises s.plan.nodes (newest_shown s.promises) ≡ None
    → first_short both s.plan.members (reached_set s.plan) ≡ Some v → end_in (turn s (With_votes both)).steps ≡ Some (votes_end s.plan [] (reached_set s.plan) v)
