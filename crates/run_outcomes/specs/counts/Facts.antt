-- What is known where an attempt is to end by what it counts, and what is proved of each moment.
use Rattle.std.specs.Prelude.{ℕ, ◌≡◌, ◌≤◌, ◌⊎◌, true, false, List, length, take, None, Some, IfSome, unwrap_or}
use Rattle.std.specs.List.{AllByRecursion, find}
use Rattle.cl_base.specs.Limits.{most_devices}
use Rattle.cl_base.specs.declared.seizing.Lack.{Lack}
use Rattle.cmm_attempt.specs.Attempts.{AttemptState}
use Rattle.cmm_attempt.specs.Calls.{end_in, turn}
use Rattle.cmm_attempt.specs.Counts.{first_foreign, is_enabled}
use Rattle.cmm_attempt.specs.Promises.{is_from}
use Rattle.cmm_attempt.specs.declared.counting.BothVotes.{BothVotes}
use Rattle.cmm_attempt.specs.declared.promised.Promised.{Promised}
use Rattle.cmm_attempt.specs.declared.step.AttemptEnd.{AttemptEnd}
use Rattle.cmm_attempt.specs.declared.step.AttemptEnd.TheVariants as end
use Rattle.history.specs.Attempts.{is_counted, is_foreign}
use Rattle.history.specs.Member.{members_of}
use Rattle.history.specs.Moment.{Moment}
use Rattle.history.specs.Order.{Always}
use Rattle.history.specs.Records.{records_in_hand}
use Rattle.history.specs.Setting.{Setting}
use Rattle.history.specs.Trace.{ended_foreign, ended_votes}
use Rattle.membership_machine.specs.Events.{HasNewest}
use Rattle.membership_machine.specs.Records.{Saved}
use Rattle.membership_machine.specs.State.{Memberships}
use Rattle.node_model.specs.declared.cluster.Cluster.{Cluster}
use Rattle.quorum_votes.specs.Tables.{VoteTable}
use Rattle.quorum_votes.specs.Votes.{needed_of}
use Rattle.refinement.specs.Ties.{votes_under}
use Rattle.world_model.specs.First.{attached_from}
use Rattle.run_outcomes.specs.counts.Ends.{Last}
use Rattle.run_outcomes.specs.counts.Laws.{AreNamed, is_needed}
use Rattle.run_outcomes.specs.counts.Shorts.{IsPlaced, ShortBy}

-- the setting counts the votes that the nodes count, and its header has the devices of the cluster, which alone have votes
pub record CountsIn (S : Setting) (c : Cluster) : Type 0 where
  pub votes : (updates : List (List ℕ)) → S.votes updates ≡ votes_under c updates
  pub few : length S.header.devices ≤ most_devices
  pub attached : c.attached ≡ attached_from 1 S.header.devices
  pub placed : (updates : List (List ℕ)) → IsPlaced S.header (S.votes updates)

-- the votes are those of the record: of its committed updates, and of all of them, which are the same where none is pending
pub record AreOf (c : Cluster) (r : Saved) (both : BothVotes) : Type 0 where
  pub committed : both.committed ≡ votes_under c (take r.committed r.entries)
  pub all : unwrap_or both.pending both.committed ≡ votes_under c r.entries

-- The machine has not counted the attempt yet, the node that it names has shown the newest record, and its votes are those of this record.
pub record Known (c : Cluster) (M : Memberships) (a : AttemptState) (both : BothVotes) : Type 0 where
  pub uncounted : (M.epoch a.plan.epoch).counted ≡ false
  pub newest : HasNewest M a.plan.epoch a.newest
  pub promise : Promised
  pub found : find (is_from a.newest) a.promises ≡ Some promise
  pub votes : AreOf c ((M.node a.newest).showed a.plan.epoch) both

-- these votes need so many, and each device that is lacking has votes
abbrev pub NeedsUnder : VoteTable → ℕ → List Lack → Type 0
NeedsUnder v need lacking = (needed_of v ≡ need) × AllByRecursion (λ (x : Lack). is_enabled v x.device ≡ true) lacking

abbrev pub NeedsOf : BothVotes → ℕ → List Lack → Type 0
NeedsOf both need lacking = NeedsUnder both.committed need lacking ⊎ NeedsUnder (unwrap_or both.pending both.committed) need lacking

-- that it ends so is due under the votes that it was given
pub record ForeignTo (c : Cluster) (M : Memberships) (a : AttemptState) (m : ℕ) : Type 0 where
  pub both : BothVotes
  pub known : Known c M a both
  pub least : first_foreign both a.plan.nodes ≡ Some m

pub record ShortOf (c : Cluster) (M : Memberships) (a : AttemptState) (have need : ℕ) (lacking : List Lack) : Type 0 where
  pub both : BothVotes
  pub known : Known c M a both
  pub needs : NeedsOf both need lacking
  pub given : a.votes ≡ Some both
  pub short : ShortBy a (end.Votes have need lacking)

abbrev pub Foretold : Cluster → Memberships → AttemptState → AttemptEnd → Type 0
Foretold c M a (end.Foreign m) = ForeignTo c M a m
Foretold c M a (end.Votes have need lacking) = ShortOf c M a have need lacking
Foretold c M a _ = Unit {0}

-- where the last call ends the attempt, this is known of what it leaves
abbrev pub LastTied : Cluster → Memberships → Last → Type 0
LastTied c M None = Unit {0}
LastTied c M (Some l) = (why : AttemptEnd) → end_in (turn l.0 l.1).steps ≡ Some why → Foretold c M (turn l.0 l.1).after why

-- ---- each moment

abbrev pub IsDue : Setting → List Moment → Moment → Type 0
IsDue S before (ended_foreign e m) = IfSome (records_in_hand e before) (λ records. is_foreign S (members_of e before) m records ≡ true)
IsDue S before (ended_votes e have need lacking) =
    IfSome (records_in_hand e before) (λ records. is_counted S (members_of e before) have need lacking records ≡ true)
    × IfSome (records_in_hand e before) (λ records. is_needed S need lacking records ≡ true) × AreNamed S.header (members_of e before) lacking
IsDue S before _ = Unit {0}

abbrev pub AllDue : Setting → List Moment → Type 0
AllDue S moments = Always (IsDue S) moments
