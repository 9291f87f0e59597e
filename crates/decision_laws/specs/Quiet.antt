-- What shows of groups once a president has decided and nothing is outstanding.
use Rattle.std.specs.Prelude.{◌≡◌, ◌⊎◌, ℕ, ◌<◌, ◌^◌, Bool, true, false, List, None, Some, IsSome, length}
use Rattle.std.specs.List.{IsDistinct}
use Rattle.std.specs.Map.{keys_of}
use Rattle.std.specs.Str.{bytes_eq}
use Rattle.cl_base.specs.declared.state.GroupState.TheVariants.{ErrorStopFailed, Online}
use Rattle.cl_base.specs.Limits.{most_nodes}
use Rattle.cl_base.specs.Sets.{count_to, has}
use Rattle.placement.specs.Best.{is_listed}
use Rattle.rg_deps.specs.Orderings.{first_cycle}
use Rattle.rg_props.specs.declared.group.Group.{Group}
use Rattle.rg_props.specs.Lookups.{named}
use Rattle.rg_props.specs.Table.{GroupTable}
use Rattle.rg_view.specs.declared.view.GroupView.{GroupView}
use Rattle.rg_view.specs.Goals.{goal_of}
use Rattle.ccr_tables.specs.State.{ConfigState}
use Rattle.rgm_president.specs.Decisions.{call_on, decision}
use Rattle.rgm_president.specs.Sequence.{sequence}
use Rattle.rgm_president.specs.State.{PresidentState}
use Rattle.rgm_president.specs.Status.{group_state, is_hindered, reason_for}
use Rattle.decision_laws.specs.Safe.{NothingIsOutstanding}

-- no group and no resource comes after itself
abbrev pub HasNoCycle : GroupTable → Type 0
HasNoCycle t = first_cycle t ≡ None

-- no two groups have one name
abbrev pub GroupsAreApart : GroupTable → Type 0
GroupsAreApart t = IsDistinct bytes_eq (keys_of t.groups)

-- The members are nodes 1 to 32, there is a place for the order of each; and after the decision nothing is outstanding.
pub record IsQuiet (c : ConfigState) (now : ℕ) (p : PresidentState) : Type 0 where
  pub members : p.view.members < 2 ^ 32
  pub places : length p.view.outstanding ≡ most_nodes
  pub nothing : NothingIsOutstanding (decision c now false p).president

-- Then there is no call for any member.
abbrev pub QuietHasNoCalls : Type 0
QuietHasNoCalls = (c : ConfigState) (now : ℕ) (p : PresidentState) → IsQuiet c now p
    → (n : ℕ) → has p.view.members n ≡ true → call_on c (sequence c.groups) (decision c now false p).president.view n ≡ None

-- the group shows ONLINE_FAULTED or PENDING_ONLINE_BLOCKED on the node, with a reason
pub record IsHindered (c : ConfigState) (v : GroupView) (name : List ℕ) (n : ℕ) : Type 0 where
  pub hindered : is_hindered (group_state c v name n) ≡ true
  pub reason : IsSome (reason_for c v name n)

-- it shows ONLINE or ERROR_STOP_FAILED, or has a reason
abbrev pub IsSettled : ConfigState → GroupView → List ℕ → ℕ → Type 0
IsSettled c v name n = (group_state c v name n ≡ Online) ⊎ (group_state c v name n ≡ ErrorStopFailed) ⊎ IsHindered c v name n

-- So it is on each goal node of each group.
abbrev pub QuietGoalsAreSettled : Type 0
QuietGoalsAreSettled = (c : ConfigState) (now : ℕ) (p : PresidentState) → HasNoCycle c.groups → IsQuiet c now p → (name : List ℕ) (n : ℕ)
    → has (goal_of (decision c now false p).president.view.goals name) n ≡ true → IsSettled c (decision c now false p).president.view name n

-- After each decision a node of a group's Nodelist outside its goal has a reason, where the goal has fewer nodes than desired.
abbrev pub GapsHaveReasons : Type 0
GapsHaveReasons = (c : ConfigState) (now : ℕ) (held_up : Bool) (p : PresidentState) → HasNoCycle c.groups → GroupsAreApart c.groups → p.view.members < 2 ^ 32
    → (name : List ℕ) (g : Group) (n : ℕ) → named c.groups.groups name ≡ Some g → is_listed g.nodelist n ≡ true
    → has (goal_of (decision c now held_up p).president.view.goals name) n ≡ false
    → count_to (goal_of (decision c now held_up p).president.view.goals name) most_nodes < g.desired
    → IsSome (reason_for c (decision c now held_up p).president.view name n)
