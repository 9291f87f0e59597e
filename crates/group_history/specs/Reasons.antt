-- Reason: what a line `why G N REASON` of e means, over the configuration in force, what is known, and what the trace shows.
use Rattle.std.specs.Prelude.{◌≡◌, ◌⊎◌, ◌≤◌, ℕ, ◌++◌, true, false, List, length, Option, Some, None}
use Rattle.std.specs.List.{Contains, filter}
use Rattle.cl_base.specs.Sets.{has}
use Rattle.cl_base.specs.declared.reason.Reason.{Reason}
use Rattle.cl_base.specs.declared.reason.Reason.TheVariants as reason
use Rattle.ccr_tables.specs.State.{ConfigState}
use Rattle.placement.specs.Loads.{is_fixed, passed_limit}
use Rattle.placement.specs.Resources.{has_enabled}
use Rattle.placement.specs.Targets.{forbids_node, lacks}
use Rattle.restart_policy.specs.Policy.{is_recent}
use Rattle.rg_props.specs.Lookups.{named}
use Rattle.rg_props.specs.Settings.{has_name}
use Rattle.rg_props.specs.declared.affinity.Affine.{Affine}
use Rattle.rg_props.specs.declared.group.Group.{Group}
use Rattle.rg_props.specs.declared.group.Resource.{Resource}
use Rattle.rg_view.specs.Goals.{goal_of}
use Rattle.rg_view.specs.States.{state_of}
use Rattle.rg_view.specs.declared.view.GroupView.{GroupView}
use Rattle.rgm_state.specs.Standing.{is_up}
use Rattle.history.specs.Moment.{Moment}
use Rattle.group_history.specs.Setting.{Groups, config_of}
use Rattle.group_history.specs.KnownMap.{known_of}
use Rattle.group_history.specs.Evidence.{start_failures, moves, could_not_stop, failed_last, is_evacuated}

-- what a reason is judged by: the configuration in force in e, what is known, and the trace so far
pub record Ground : Type 0 where
  pub groups : Groups
  pub epoch : ℕ
  pub config : ConfigState
  pub view : GroupView
  pub moments : List Moment

abbrev pub ground_of : Groups → ℕ → List Moment → Ground
ground_of S e moments = record { groups = S; epoch = e; config = config_of S e moments; view = known_of S e moments; moments = moments }

-- those of these seconds that count
abbrev pub recent : Ground → Group → List ℕ → List ℕ
recent w g seconds = filter (is_recent g.pingpong w.view.now) seconds

-- a resource of the group on a member, which could not be stopped there, and the mark still stands
pub record IsStopFailed (w : Ground) (name : List ℕ) : Type 0 where
  pub node : ℕ
  pub member : has w.view.members node ≡ true
  pub resource : List ℕ
  pub owner : Resource
  pub there : named w.config.groups.resources resource ≡ Some owner
  pub own : owner.group ≡ name
  pub shown : could_not_stop w.epoch node resource w.moments ≡ true
  pub marked : (state_of w.view.resources resource node).stop_failed ≡ true

pub record IsLeaving (w : Ground) (name : List ℕ) (n : ℕ) : Type 0 where
  pub up : is_up w.config.groups w.view.resources name n ≡ true
  pub cause : 1 ≤ length (start_failures w.groups w.epoch n name w.moments ++ moves w.groups w.epoch n name w.moments)

pub record IsForbidden (w : Ground) (g : Group) (n : ℕ) (target : List ℕ) : Type 0 where
  pub affinity : Affine
  pub declared : Contains g.affinities affinity
  pub named : affinity.group ≡ target
  pub forbids : forbids_node w.view n affinity ≡ true

-- a strong target of a resource of the group which is disabled, or whose group, being another, has no node of its goal in scope
pub record IsLacking (w : Ground) (name : List ℕ) (g : Group) (n : ℕ) (target : List ℕ) : Type 0 where
  pub dependent : List ℕ × Resource
  pub there : Contains w.config.groups.resources dependent
  pub own : dependent.1.group ≡ name
  pub strong : has_name target (dependent.1.strong ++ dependent.1.offline_restart) ≡ true
  pub lacking : lacks w.config.groups w.view name g n target ≡ true

pub record IsWithoutGoal (w : Ground) (g : Group) (target : List ℕ) : Type 0 where
  pub dependency : has_name target g.dependencies ≡ true
  pub empty : goal_of w.view.goals target ≡ 0

pub record IsOverLimit (w : Ground) (name : List ℕ) (g : Group) (n : ℕ) (limit : List ℕ) : Type 0 where
  pub free : is_fixed w.config.groups w.view name ≡ false
  pub first : passed_limit w.config.groups w.config.limits w.view name g n ≡ Some limit

abbrev pub IsBlocked : Ground → ℕ → List ℕ → Option Resource → Type 0
IsBlocked w n r None = ⊥
IsBlocked w n r (Some x) = (x.enabled ≡ true) × ((state_of w.view.resources r n).run ≡ false)

-- The reason is so, of a group g of this name on node n.
abbrev pub IsSo : Ground → List ℕ → Group → ℕ → Reason → Type 0
IsSo w name g n reason.Unmanaged = g.managed ≡ false
IsSo w name g n reason.Offline = g.wanted ≡ false
IsSo w name g n reason.Suspended = g.suspended ≡ true
IsSo w name g n reason.Empty = has_enabled w.config.groups name ≡ false
IsSo w name g n reason.NotMember = has w.view.members n ≡ false
IsSo w name g n reason.StopFailed = IsStopFailed w name
IsSo w name g n reason.Evacuated = is_evacuated w.groups w.epoch n name w.moments ≡ true
IsSo w name g n reason.StartFailed = 2 ≤ length (recent w g (start_failures w.groups w.epoch n name w.moments))
IsSo w name g n reason.Moved = 1 ≤ length (recent w g (moves w.groups w.epoch n name w.moments))
IsSo w name g n reason.Leaving = IsLeaving w name n
IsSo w name g n (reason.Affinity target) = IsForbidden w g n target
IsSo w name g n (reason.Dependency target) = IsWithoutGoal w g target ⊎ IsLacking w name g n target
IsSo w name g n (reason.Load limit) = IsOverLimit w name g n limit
IsSo w name g n (reason.Faulted r) = failed_last w.groups w.epoch n r w.moments ≡ true
IsSo w name g n (reason.Blocked r) = IsBlocked w n r (named w.config.groups.resources r)

abbrev pub IsReason : Ground → List ℕ → ℕ → Reason → Option Group → Type 0
IsReason w name n reason None = ⊥
IsReason w name n reason (Some g) = IsSo w name g n reason
