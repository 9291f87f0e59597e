-- What holds of every decision.
use Rattle.std.specs.Prelude.{◌≡◌, ℕ, ◌+◌, ◌<◌, false, true, not, ◌&&◌, List, [], ◌∷◌, ◌++◌, Option, None, Some, fold, if◌then◌else◌}
use Rattle.std.specs.List.{All, IsDistinct}
use Rattle.std.specs.Map.{keys_of}
use Rattle.std.specs.Str.{bytes_eq}
use Rattle.cl_base.specs.Limits.{most_nodes}
use Rattle.cl_base.specs.Numbers.{numbers_to}
use Rattle.cl_base.specs.Sets.{has}
use Rattle.cl_base.specs.declared.method.Method.{Method}
use Rattle.load_limits.specs.declared.limits.Limit.{Limit}
use Rattle.rg_props.specs.declared.group.Group.{Group}
use Rattle.rg_props.specs.Lookups.{named}
use Rattle.rg_props.specs.Table.{GroupTable}
use Rattle.rg_view.specs.declared.view.GroupView.{GroupView}
use Rattle.rg_view.specs.Goals.{goal_of}
use Rattle.rg_view.specs.Orders.{order_of}
use Rattle.placement.specs.declared.placing.Candidate.{Candidate}
use Rattle.placement.specs.Best.{IsCandidate, IsPlaced, scores_of}
use Rattle.placement.specs.Decisions.{decided, with_fixed, with_other}
use Rattle.placement.specs.Goals.{goal_by_rule}
use Rattle.ccr_tables.specs.State.{ConfigState}
use Rattle.sequencer.specs.Allowed.{is_allowed}
use Rattle.wire.specs.declared.message.Order.{Order}
use Rattle.wire.specs.declared.report.Report.{Report}
use Rattle.rgm_state.specs.Adopting.{adopted}
use Rattle.rgm_state.specs.Standing.{nodes_up}
use Rattle.rgm_president.specs.Decisions.{call_on, decision, outlook_over, with_goals_of}
use Rattle.rgm_president.specs.Sequence.{sequence}
use Rattle.rgm_president.specs.State.{PresidentState, with_order}

-- The call is allowed on the node, as things stand.
abbrev pub IsAllowedNow : ConfigState → PresidentState → ℕ → List ℕ → Option Method → Type 0
IsAllowedNow c p n r None = ⊥
IsAllowedNow c p n r (Some m) =
    is_allowed c.groups c.types c.limits p.view (outlook_over c (sequence c.groups) p.view) n r m ≡ true

-- An order for the node that may be given: it is the next one of the membership, the node is a member without an order, and the call is allowed.
pub record MayBeGiven (c : ConfigState) (p : PresidentState) (n : ℕ) (o : Order) : Type 0 where
  pub epoch : o.epoch ≡ p.epoch
  pub number : o.number ≡ p.given + 1
  pub member : has p.view.members n ≡ true
  pub free : order_of p.view.outstanding n ≡ None
  pub allowed : IsAllowedNow c p n o.resource o.method

-- The orders, from the node behind `last` on in ascending order: each may be given, and is outstanding for those behind it. What is kept then.
abbrev pub MayAllBeGiven : ConfigState → ℕ → PresidentState → List (ℕ × Order) → PresidentState → Type 0
MayAllBeGiven c last p [] new = new ≡ p
MayAllBeGiven c last p (e ∷ es) new =
    (last < e.0) × MayBeGiven c p e.0 e.1 × MayAllBeGiven c e.0 (with_order p e.0 e.1.resource e.1.method) es new

abbrev pub OrdersAreAllowed : Type 0
OrdersAreAllowed = (c : ConfigState) (now : ℕ) (p : PresidentState)
    → MayAllBeGiven c 0 (with_goals_of c now p) (decision c now false p).orders (decision c now false p).president

-- Where no order is given, a member without one has no call.
abbrev pub HasNoCall : ConfigState → PresidentState → ℕ → Type 0
HasNoCall c p n = order_of p.view.outstanding n ≡ None → call_on c (sequence c.groups) p.view n ≡ None

abbrev pub QuietMembersHaveNoCall : Type 0
QuietMembersHaveNoCall = (c : ConfigState) (now : ℕ) (p : PresidentState) → (decision c now false p).orders ≡ []
    → All (HasNoCall c (decision c now false p).president) (numbers_to p.view.members most_nodes)

-- Goals.

-- none of these is the name
abbrev pub Lacks : List (List ℕ) → List ℕ → Type 0
Lacks [] name = Unit {0}
Lacks (x ∷ xs) name = (bytes_eq x name ≡ false) × Lacks xs name

-- what is known as a group is decided: the goals of fixed groups and of the groups before it are the new ones
abbrev pub seen : GroupTable → List Limit → GroupView → List (List ℕ) → List (List ℕ) → GroupView
seen t limits v groups before = record v { goals = fold (with_other t limits v) (fold (with_fixed t limits v) v.goals groups) before }

-- Each group gets its goal by the rule, from its previous goal and over what is known then.
abbrev pub GoalsFollowTheRule : Type 0
GoalsFollowTheRule = (t : GroupTable) (limits : List Limit) (v : GroupView) (before : List (List ℕ)) (name : List ℕ) (behind : List (List ℕ))
    → Lacks before name → Lacks behind name
    → goal_of (decided t limits v (before ++ name ∷ behind)) name
    ≡ goal_by_rule t limits (seen t limits v (before ++ name ∷ behind) before) name (goal_of v.goals name)

-- A node of the previous goal stays, where the group may run there.
abbrev pub GoalsStay : Type 0
GoalsStay = (t : GroupTable) (limits : List Limit) (v : GroupView) (before : List (List ℕ)) (name : List ℕ) (behind : List (List ℕ)) (g : Group) (c : Candidate)
    → Lacks before name → Lacks behind name → IsPlaced t v name g
    → IsCandidate (scores_of t limits (seen t limits v (before ++ name ∷ behind) before) name g) g.nodelist c
    → has (goal_of v.goals name) c.node ≡ true → has (goal_of (decided t limits v (before ++ name ∷ behind)) name) c.node ≡ true

-- As a membership begins, each group's previous goal is the members where it is up, or none where it goes back.
abbrev pub GroupsBegin : Type 0
GroupsBegin = (c : ConfigState) (members : ℕ) (reports : List (ℕ × Report)) (now : ℕ) (name : List ℕ) (g : Group)
    → IsDistinct bytes_eq (keys_of c.groups.groups) → named c.groups.groups name ≡ Some g
    → goal_of (adopted c members reports now).goals name
    ≡ (if g.failback && not g.suspended then 0 else nodes_up c.groups (adopted c members reports now).resources members name)
