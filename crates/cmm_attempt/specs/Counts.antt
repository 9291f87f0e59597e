-- Which nodes are configured, which devices have votes, and whether a membership has enough of them.
use Rattle.std.specs.Prelude.{ℕ, ◌==◌, ◌&&◌, ◌||◌, Bool, true, false, not, nat_lt, List, Option, Some, None, fold, if◌then◌else◌}
use Rattle.std.specs.List.{find, filter_map}
use Rattle.cl_base.specs.Sets.{set_with}
use Rattle.quorum_votes.specs.declared.state.DevState.{DevState}
use Rattle.quorum_votes.specs.declared.state.DevState.TheVariants.{Absent, Enabled, Disabled}
use Rattle.quorum_votes.specs.Tables.{VoteTable}
use Rattle.quorum_votes.specs.Votes.{is_configured, state_of, device_at, held_of, needed_of}
use Rattle.cl_base.specs.Seizings.{SeizeResult, bare}
use Rattle.cl_base.specs.declared.seizing.SeizeEnd.TheVariants.{Held}
use Rattle.cmm_attempt.specs.declared.attached.AttachedDevice.{AttachedDevice}
use Rattle.cmm_attempt.specs.declared.plan.Plan.{Plan}
use Rattle.cmm_attempt.specs.declared.promised.Promised.{Promised}
use Rattle.cmm_attempt.specs.declared.seizing.Seizing.{Seizing}
use Rattle.cmm_attempt.specs.declared.counting.BothVotes.{BothVotes}
use Rattle.cl_base.specs.declared.seizing.Lack.{Lack}
use Rattle.cl_base.specs.declared.seizing.Obstacle.TheVariants as obstacle
use Rattle.cmm_attempt.specs.declared.step.AttemptEnd.{AttemptEnd}
use Rattle.cmm_attempt.specs.declared.step.AttemptEnd.TheVariants.{Votes}
use Rattle.cmm_attempt.specs.Plans.{is_reachable}
use Rattle.cmm_attempt.specs.Seizings.{first_seizer, vote_entry}

abbrev pub is_foreign_pending : Option VoteTable → ℕ → Bool
is_foreign_pending None n = true
is_foreign_pending (Some v) n = not (is_configured v n)

-- the node is configured neither under the committed updates nor with the pending one
abbrev pub is_foreign : BothVotes → ℕ → Bool
is_foreign both n = not (is_configured both.committed n) && is_foreign_pending both.pending n

-- the least of these nodes that is not configured so
abbrev pub first_foreign : BothVotes → List ℕ → Option ℕ
first_foreign both nodes = find (is_foreign both) nodes

abbrev pub is_enabled_state : DevState → Bool
is_enabled_state Enabled = true
is_enabled_state Disabled = false
is_enabled_state Absent = false

-- the device is an enabled quorum device under these votes
abbrev pub is_enabled : VoteTable → ℕ → Bool
is_enabled v d = is_enabled_state (state_of (device_at v d))

abbrev pub is_enabled_pending : Option VoteTable → ℕ → Bool
is_enabled_pending None d = false
is_enabled_pending (Some v) d = is_enabled v d

-- it is one under either
abbrev pub is_quorum : BothVotes → ℕ → Bool
is_quorum both d = is_enabled both.committed d || is_enabled_pending both.pending d

-- the members and these devices have fewer votes than are needed
abbrev pub is_short : VoteTable → ℕ → ℕ → Bool
is_short v members devices = nat_lt (held_of v members devices) (needed_of v)

abbrev pub short_pending : Option VoteTable → ℕ → ℕ → Option VoteTable
short_pending None members devices = None
short_pending (Some v) members devices = if is_short v members devices then Some v else None

-- the first votes under which they are too few, the committed before the pending
abbrev pub first_short : BothVotes → ℕ → ℕ → Option VoteTable
first_short both members devices =
    if is_short both.committed members devices then Some both.committed else short_pending both.pending members devices

-- the devices to which a member has a path
abbrev pub reached_set : Plan → ℕ
reached_set plan = fold (λ set a. if is_reachable plan a then set_with set a.device else set) 0 plan.attached

-- the seizing of a device that is an enabled quorum device under either votes and that a member reaches
abbrev pub vote_new : Plan → List Promised → BothVotes → AttachedDevice → Option Seizing
vote_new plan promises both a =
    if is_quorum both a.device && is_reachable plan a then Some (vote_entry a (first_seizer plan promises a)) else None

abbrev pub lack_by : ℕ → Option SeizeResult → Option Lack
lack_by d None = None
lack_by d (Some (Held keys)) = None
lack_by d (Some r) = Some (record { device = d; obstacle = obstacle.Seizing (bare r) })

abbrev pub lack_in : ℕ → Option Seizing → Option Lack
lack_in d None = None
lack_in d (Some e) = lack_by d e.result

-- why the device is not held, as far as is known: no member has a path to it, or its seizing ended otherwise
abbrev pub lack_of : Plan → List Seizing → AttachedDevice → Option Lack
lack_of plan devices a =
    if is_reachable plan a then lack_in a.device (find (λ e. e.attached.device == a.device) devices)
    else Some (record { device = a.device; obstacle = obstacle.NoPath })

abbrev pub lack_under : VoteTable → Plan → List Seizing → AttachedDevice → Option Lack
lack_under v plan devices a = if is_enabled v a.device then lack_of plan devices a else None

-- the attempt ends for want of these votes: what the members and the devices have, what is needed, and the enabled quorum
-- devices that are known not to be held
abbrev pub votes_end : Plan → List Seizing → ℕ → VoteTable → AttemptEnd
votes_end plan devices set v = Votes (held_of v plan.members set) (needed_of v) (filter_map (lack_under v plan devices) plan.attached)
