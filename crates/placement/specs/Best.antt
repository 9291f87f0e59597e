-- What a goal is that rests on eligible nodes, said of every pair of nodes.
use Rattle.std.specs.Prelude.{◌≡◌, ℕ, ◌≤◌, ◌<◌, ◌^◌, ◌==◌, Bool, true, false, not, ◌&&◌, ◌||◌, List, [], ◌∷◌, Option, None, Some, if◌then◌else◌}
use Rattle.std.specs.List.{list_any}
use Rattle.std.specs.Result.{result_ok}
use Rattle.cl_base.specs.Limits.{most_nodes}
use Rattle.cl_base.specs.Sets.{has, count_to}
use Rattle.load_limits.specs.declared.limits.Limit.{Limit}
use Rattle.rg_props.specs.declared.group.Group.{Group}
use Rattle.rg_props.specs.Lookups.{named}
use Rattle.rg_props.specs.Table.{GroupTable}
use Rattle.rg_view.specs.declared.view.GroupView.{GroupView}
use Rattle.placement.specs.declared.placing.Candidate.{Candidate}
use Rattle.placement.specs.declared.score.Score.{Score}
use Rattle.placement.specs.Eligibility.{eligibility}
use Rattle.placement.specs.Goals.{goal_by_rule}
use Rattle.placement.specs.Resources.{is_stop_failed}
use Rattle.placement.specs.Scores.{is_better}

-- whether the node is listed
unfoldable pub is_listed : List ℕ → ℕ → Bool
is_listed nodelist n = list_any (λ m. n == m) nodelist

-- whether node m is met before node n in the list
unfoldable pub stands_before : List ℕ → ℕ → ℕ → Bool
stands_before [] m n = false
stands_before (x ∷ xs) m n = if n == x then false else if m == x then true else stands_before xs m n

-- the order of nodes: by their scores, and where none is better by the Nodelist
abbrev pub precedes : List ℕ → Candidate → Candidate → Bool
precedes nodelist a b = is_better a.score b.score || (not (is_better b.score a.score) && stands_before nodelist a.node b.node)

-- a listed node with its score, which is there as it is eligible
pub record IsCandidate (score : ℕ → Option Score) (nodelist : List ℕ) (c : Candidate) : Type 0 where
  pub listed : is_listed nodelist c.node ≡ true
  pub scored : score c.node ≡ Some c.score

-- The new goal has each eligible node of the previous one, and eligible nodes alone. It has others only where these are fewer than desired, and then no more
-- than desired; it has so many, or all. No node left out comes before an added one.
pub record IsBest (score : ℕ → Option Score) (nodelist : List ℕ) (desired previous new : ℕ) : Type 0 where
  pub kept : (c : Candidate) → IsCandidate score nodelist c → has previous c.node ≡ true → has new c.node ≡ true
  pub own : (n : ℕ) → has new n ≡ true → (s : Score) × IsCandidate score nodelist (record { node = n; score = s })
  pub few : (n : ℕ) → has new n ≡ true → has previous n ≡ false → count_to new most_nodes ≤ desired
  pub enough : (c : Candidate) → IsCandidate score nodelist c → has new c.node ≡ false → desired ≤ count_to new most_nodes
  pub best : (left added : Candidate) → IsCandidate score nodelist left → has new left.node ≡ false → IsCandidate score nodelist added → has new added.node ≡ true
      → has previous added.node ≡ false → precedes nodelist left added ≡ false

-- the scores of the nodes that the group may run on
abbrev pub scores_of : GroupTable → List Limit → GroupView → List ℕ → Group → ℕ → Option Score
scores_of t limits v name g n = result_ok (eligibility t limits v name g n)

-- The group is placed by scores: it is managed, wanted, neither stop-failed on a member nor suspended. The members are nodes 1 to 32.
pub record IsPlaced (t : GroupTable) (v : GroupView) (name : List ℕ) (g : Group) : Type 0 where
  pub there : named t.groups name ≡ Some g
  pub managed : g.managed ≡ true
  pub wanted : g.wanted ≡ true
  pub running : is_stop_failed t v name ≡ false
  pub free : g.suspended ≡ false
  pub members : v.members < 2 ^ 32

-- So is the goal of such a group.
abbrev pub GoalIsBest : Type 0
GoalIsBest =
    (t : GroupTable) (limits : List Limit) (v : GroupView) (name : List ℕ) (g : Group) (previous : ℕ) → IsPlaced t v name g
    → IsBest (scores_of t limits v name g) g.nodelist g.desired previous (goal_by_rule t limits v name previous)
