-- Whether a group may run on a node: the first reason against it, or its score there.
use Rattle.std.specs.Prelude.{ℕ, ◌-◌, ◌^◌, min, nat_le, Bool, not, ◌&&◌, List, Option, None, Some, Result, Ok, Err, count_by, pos, ◌-ℤ◌, ℤ, if◌then◌else◌}
use Rattle.std.specs.Option.{option_map}
use Rattle.cl_base.specs.declared.reason.Reason.{Reason}
use Rattle.cl_base.specs.declared.reason.Reason.TheVariants as reason
use Rattle.cl_base.specs.Sets.{has}
use Rattle.load_limits.specs.declared.limits.Limit.{Limit}
use Rattle.rg_props.specs.declared.affinity.Affinity.{Affinity}
use Rattle.rg_props.specs.declared.affinity.Affinity.TheVariants.{Plus, Minus}
use Rattle.rg_props.specs.declared.group.Group.{Group}
use Rattle.rg_props.specs.Affinities.{same_affinity}
use Rattle.rg_props.specs.Lookups.{named}
use Rattle.rg_props.specs.Table.{GroupTable}
use Rattle.rg_props.specs.Values.{or_else}
use Rattle.rg_view.specs.declared.view.GroupView.{GroupView}
use Rattle.rg_view.specs.Marks.{is_marked}
use Rattle.placement.specs.declared.score.Score.{Score}
use Rattle.placement.specs.Histories.{failures_at, was_moved}
use Rattle.placement.specs.Loads.{passed_limit, soft_passed}
use Rattle.placement.specs.Resources.{has_enabled, is_online, is_stop_failed}
use Rattle.placement.specs.Targets.{forbidding, without_goal, lacking}

-- what is the same on every node
unfoldable pub group_reason : GroupTable → List ℕ → Group → Option Reason
group_reason t name g =
    if not g.managed then Some reason.Unmanaged
    else if not g.wanted then Some reason.Offline
    else if g.suspended then Some reason.Suspended
    else if not (has_enabled t name) then Some reason.Empty
    else None

-- what is known of the node, where it is known whether the group is stop-failed
abbrev pub node_reason_of : Bool → GroupView → List ℕ → Group → ℕ → Option Reason
node_reason_of stop_failed v name g n =
    if not (has v.members n) then Some reason.NotMember
    else if stop_failed then Some reason.StopFailed
    else if is_marked v.evacuated name n then Some reason.Evacuated
    else if nat_le 2 (failures_at v name g.pingpong n) then Some reason.StartFailed
    else if was_moved v name g.pingpong n then Some reason.Moved
    else if is_marked v.leaving name n then Some reason.Leaving
    else None

unfoldable pub node_reason : GroupTable → GroupView → List ℕ → Group → ℕ → Option Reason
node_reason t v name g n = node_reason_of (is_stop_failed t v name) v name g n

-- what other groups and resources have to do with it
unfoldable pub target_reason : GroupTable → GroupView → List ℕ → Group → ℕ → Option Reason
target_reason t v name g n =
    or_else (option_map reason.Affinity (forbidding v g n))
    (or_else (option_map reason.Dependency (without_goal v g)) (option_map reason.Dependency (lacking t v name g n)))

-- The first reason against the node. A fixed group has a reason before that of its load.
unfoldable pub reason_of : GroupTable → List Limit → GroupView → List ℕ → Group → ℕ → Option Reason
reason_of t limits v name g n =
    or_else (group_reason t name g)
    (or_else (node_reason t v name g n)
    (or_else (target_reason t v name g n) (option_map reason.Load (passed_limit t limits v name g n))))

-- how many targets of the affinity are online on the node
unfoldable pub online_targets : GroupTable → GroupView → Group → Affinity → ℕ → ℕ
online_targets t v g affinity n = count_by (λ a. same_affinity a.affinity affinity && is_online t v a.group n) g.affinities

-- a count that would pass 2^63 - 1 stays there
abbrev pub counted_to_most : ℕ → ℤ
counted_to_most n = pos (min n (2 ^ 63 - 1))

-- how well the node suits the group
unfoldable pub score_of : GroupTable → List Limit → GroupView → List ℕ → Group → ℕ → Score
score_of t limits v name g n = record {
  failures = failures_at v name g.pingpong n;
  soft = soft_passed t limits v name g n;
  score = counted_to_most (online_targets t v g Plus n) -ℤ counted_to_most (online_targets t v g Minus n);
}

abbrev pub unless : {A B : Type 0} → Option B → A → Result A B
unless None a = Ok a
unless (Some b) a = Err b

-- the score of a node that has no reason against it
abbrev pub eligibility : GroupTable → List Limit → GroupView → List ℕ → Group → ℕ → Result Score Reason
eligibility t limits v name g n = unless (reason_of t limits v name g n) (score_of t limits v name g n)

-- of a group which is there; another is not managed
abbrev pub eligibility_in : GroupTable → List Limit → GroupView → List ℕ → ℕ → Option Group → Result Score Reason
eligibility_in t limits v name n None = Err reason.Unmanaged
eligibility_in t limits v name n (Some g) = eligibility t limits v name g n

unfoldable pub eligibility_of : GroupTable → List Limit → GroupView → List ℕ → ℕ → Result Score Reason
eligibility_of t limits v name n = eligibility_in t limits v name n (named t.groups name)
