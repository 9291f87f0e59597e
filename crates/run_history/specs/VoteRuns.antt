-- The votes with which the memberships of a run of the world start.
use Rattle.std.specs.Prelude.{ℕ, ◌≡◌, ◌≤◌, List, length}
use Rattle.cl_base.specs.Limits.{most_devices}
use Rattle.cl_base.specs.declared.header.Header.{Header}
use Rattle.history.specs.Contact.{HasVotes}
use Rattle.history.specs.Setting.{Setting}
use Rattle.refinement.specs.Ties.{votes_under}
use Rattle.run_history.specs.Runs.{IsRun, moments_of}
use Rattle.world_model.specs.First.{first_cluster}
use Rattle.run_history.specs.Happenings.{Happening}

-- the setting has the votes that the nodes of the cluster count
abbrev pub CountsVotes : Header → Setting → Type 0
CountsVotes h S = (updates : List (List ℕ)) → S.votes updates ≡ votes_under (first_cluster h) updates

-- the members and the devices held have a majority, by the configuration of the base
abbrev pub VotesOfEachRun : Type 0
VotesOfEachRun = (h : Header) (cells : ℕ) (hs : List Happening) (S : Setting) → CountsVotes h S → length h.devices ≤ most_devices
    → IsRun h cells hs → HasVotes S (moments_of h cells hs)
