-- Small steps that leave what a node has heard, and in which no attempt begins; and where one may begin.
use Rattle.std.specs.Prelude.{ℕ, ◌≡◌, true, List, [], ◌∷◌, Option, Some}
use Rattle.heartbeats.specs.Due.{begins}
use Rattle.heartbeats.specs.Views.{view_of}
use Rattle.heartbeats.specs.declared.due.Membership.{Membership}
use Rattle.node_model.specs.Configurations.{configured_at}
use Rattle.node_model.specs.Ticks.{membership_of}
use Rattle.node_model.specs.declared.cluster.Cluster.{Cluster}
use Rattle.node_model.specs.declared.node.Node.{Node}
use Rattle.node_model.specs.declared.node.Node.TheVariants.{Down, Up}
use Rattle.node_model.specs.declared.node.UpNode.{UpNode}
use Rattle.refinement.specs.Courses.{Course}
use Rattle.refinement.specs.Courses.Course.{Acts, Falls, Keeps, Stops}
use Rattle.refinement.specs.Doings.{Act, Change, Doing, Site, acted, changed, effect}
use Rattle.refinement.specs.Doings.Act.{Hears, Makes, Ticks}
use Rattle.refinement.specs.Doings.Change.{Acks, Leads, Proposes}
use Rattle.refinement.specs.Doings.Doing.{Comes_up, Does, Forgets, Goes_down, Loses, Saves}

-- ---- no attempt begins, nothing is heard, and the clock does not tick

abbrev pub CalmChange : Change → Type 0
CalmChange (Leads p members) = ⊥
CalmChange _ = Unit {0}

abbrev pub CalmAct : Act → Type 0
CalmAct Ticks = ⊥
CalmAct (Hears from b) = ⊥
CalmAct (Makes change) = CalmChange change
CalmAct _ = Unit {0}

abbrev pub IsCalm : Course → Type 0
IsCalm Stops = Unit {0}
IsCalm (Acts a rest) = CalmAct a × IsCalm rest
IsCalm (Keeps change rest) = CalmChange change × IsCalm rest
IsCalm (Falls why) = Unit {0}

-- ---- of a membership, neither the session nor the members change

abbrev pub StaidChange : Change → Type 0
StaidChange (Proposes s p text) = Unit {0}
StaidChange (Acks s p q left text) = Unit {0}
StaidChange _ = ⊥

abbrev pub StaidAct : Act → Type 0
StaidAct Ticks = ⊥
StaidAct (Hears from b) = ⊥
StaidAct (Makes change) = StaidChange change
StaidAct _ = Unit {0}

abbrev pub IsStaid : Course → Type 0
IsStaid Stops = Unit {0}
IsStaid (Acts a rest) = StaidAct a × IsStaid rest
IsStaid (Keeps change rest) = StaidChange change × IsStaid rest
IsStaid (Falls why) = Unit {0}

-- ---- or an attempt begins of which P holds, and of the node as it is then

abbrev pub Wish : Type 1
Wish = UpNode → ℕ → ℕ → Type 0

abbrev pub ChangeSo : Wish → UpNode → Change → Type 0
ChangeSo P x (Leads p members) = P x p members
ChangeSo P x _ = Unit {0}

abbrev pub ActSo : Wish → UpNode → Act → Type 0
ActSo P x Ticks = ⊥
ActSo P x (Hears from b) = ⊥
ActSo P x (Makes change) = ChangeSo P x change
ActSo P x _ = Unit {0}

abbrev pub GoesSo : Wish → Cluster → ℕ → UpNode → Course → Type 0
GoesSo P c me x Stops = Unit {0}
GoesSo P c me x (Acts a rest) = ActSo P x a × GoesSo P c me (acted c me x a) rest
GoesSo P c me x (Keeps change rest) = ChangeSo P x change × GoesSo P c me (changed c me x change) rest
GoesSo P c me x (Falls why) = Unit {0}

abbrev pub SoIn : (UpNode → Type 0) → Node → Type 0
SoIn P Down = Unit {0}
SoIn P (Up x) = P x

abbrev pub DoingSo : Wish → Node → Doing → Type 0
DoingSo P node Comes_up = Unit {0}
DoingSo P node (Goes_down why) = Unit {0}
DoingSo P node (Does a) = SoIn (λ x. ActSo P x a) node
DoingSo P node (Saves change) = SoIn (λ x. ChangeSo P x change) node
DoingSo P node (Loses change why) = Unit {0}
DoingSo P node (Forgets change why) = Unit {0}

abbrev pub AllSo : Wish → Cluster → ℕ → Site → List Doing → Type 0
AllSo P c me x [] = Unit {0}
AllSo P c me x (d ∷ ds) = DoingSo P x.node d × AllSo P c me (effect c me x d) ds

-- nowhere
abbrev pub Never : Wish
Never x p members = ⊥

-- in a tick that began with these nodes configured, and with this membership: with the view that was taken then
pub record IsDue (c : Cluster) (configured : ℕ) (member : Option Membership) (x : UpNode) (p members : ℕ) : Type 0 where
  pub seat : membership_of x.seat ≡ member
  pub view : x.beats.view ≡ Some members
  pub taken : members ≡ view_of x.beats.me x.beats.peers configured
  pub begins_so : begins x.beats (configured_at c x) (membership_of x.seat) ≡ true
