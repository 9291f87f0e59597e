-- Orders are of the membership in which they are given and carried out, and Prepares of the one in which they are sent.
use Rattle.std.specs.Prelude.{ℕ, ◌≡◌, List, [], ◌∷◌, Option, None, Some}
use Rattle.std.specs.List.{AllByRecursion}
use Rattle.history.specs.Member.{member_of}
use Rattle.history.specs.Moment.{Moment}
use Rattle.history.specs.Order.{Always}
use Rattle.history.specs.Trace.{sent}
use Rattle.node_model.specs.Seats.{session_of}
use Rattle.node_model.specs.declared.cluster.Cluster.{Cluster}
use Rattle.node_model.specs.declared.node.Node.{Node}
use Rattle.node_model.specs.declared.node.Node.TheVariants.{Down, Up}
use Rattle.node_model.specs.declared.node.UpNode.{UpNode}
use Rattle.node_model.specs.declared.output.Output.{Output}
use Rattle.node_model.specs.declared.output.Output.TheVariants.{Sends, Tells}
use Rattle.node_model.specs.declared.presidency.Presidency.{Presidency}
use Rattle.node_model.specs.declared.seat.Seat.{Seat}
use Rattle.node_model.specs.declared.seat.Seat.TheVariants.{Forming, Member}
use Rattle.refinement.specs.Courses.{Course}
use Rattle.refinement.specs.Courses.Course.{Acts, Falls, Keeps, Stops}
use Rattle.refinement.specs.Doings.{Act, Change, Doing, Site, acted, changed, effect}
use Rattle.refinement.specs.Doings.Act.{Gives, Makes, Minds, Spreads, Works, Writes}
use Rattle.refinement.specs.Doings.Change.{Acks}
use Rattle.refinement.specs.Doings.Doing.{Does, Saves}
use Rattle.refinement.specs.Guards.{OfUp}
use Rattle.wire.specs.Reads.{whole_of}
use Rattle.wire.specs.declared.message.Body.{Body}
use Rattle.wire.specs.declared.message.Body.TheVariants as body
use Rattle.wire.specs.declared.message.Message.{Message}

-- ---- courses

abbrev pub NoOrder : Body → Type 0
NoOrder (body.Order o) = ⊥
NoOrder _ = Unit {0}

-- each order among these outputs is of this membership
abbrev pub OrdersOf : ℕ → List Output → Type 0
OrdersOf e [] = Unit {0}
OrdersOf e (Sends to (body.Order o) ∷ os) = (o.epoch ≡ e) × OrdersOf e os
OrdersOf e (o ∷ os) = OrdersOf e os

-- neither an order nor a Prepare
abbrev pub IsAside : Body → Type 0
IsAside (body.Order o) = ⊥
IsAside (body.Prepare e v text) = ⊥
IsAside _ = Unit {0}

-- there is none
abbrev pub NoOrderOut : Output → Type 0
NoOrderOut (Tells e) = Unit {0}
NoOrderOut (Sends to b) = IsAside b

abbrev pub NoOrders : List Output → Type 0
NoOrders os = AllByRecursion NoOrderOut os

-- a president whose groups are of this membership gives orders of it, any other node gives none
abbrev pub GivesOf : Option Presidency → ℕ → List Output → Type 0
GivesOf None e os = NoOrders os
GivesOf (Some p) e os = p.groups.epoch ≡ e → OrdersOf e os

-- what a president has in hand is of this membership
abbrev pub OfficeOf : ℕ → Option Presidency → Type 0
OfficeOf e None = Unit {0}
OfficeOf e (Some p) = p.groups.epoch ≡ e

-- .. of the same as before
abbrev pub EpochKept : Option Presidency → Option Presidency → Type 0
EpochKept (Some p) (Some q) = q.groups.epoch ≡ p.groups.epoch
EpochKept _ _ = Unit {0}

abbrev pub ChangeOrders : Change → Type 0
ChangeOrders (Acks s p q left text) = left.groups.epoch ≡ p.groups.epoch
ChangeOrders _ = Unit {0}

abbrev pub ActOrders : UpNode → Act → Type 0
ActOrders x (Writes to b) = NoOrder b
ActOrders x (Spreads receivers b) = NoOrder b
ActOrders x (Gives os) = GivesOf x.presidency (session_of x) os
ActOrders x (Minds q p) = EpochKept x.presidency p
ActOrders x (Works w) = w.epoch ≡ x.worker.epoch
ActOrders x (Makes change) = ChangeOrders change
ActOrders x _ = Unit {0}

abbrev pub GoesOrders : Cluster → ℕ → UpNode → Course → Type 0
GoesOrders c n x Stops = Unit {0}
GoesOrders c n x (Acts a rest) = ActOrders x a × GoesOrders c n (acted c n x a) rest
GoesOrders c n x (Keeps change rest) = ChangeOrders change × GoesOrders c n (changed c n x change) rest
GoesOrders c n x (Falls why) = Unit {0}

abbrev pub DoingOrders : Site → Doing → Type 0
DoingOrders x (Does a) = OfUp (λ y. ActOrders y a) x.node
DoingOrders x (Saves change) = ChangeOrders change
DoingOrders x _ = Unit {0}

abbrev pub AllOrders : Cluster → ℕ → Site → List Doing → Type 0
AllOrders c n x [] = Unit {0}
AllOrders c n x (d ∷ ds) = DoingOrders x d × AllOrders c n (effect c n x d) ds

-- ---- nodes

-- a member carries out orders of its membership, and gives them as president
abbrev pub SeatOf : ℕ → Option Presidency → Seat → Type 0
SeatOf w o (Forming t) = Unit {0}
SeatOf w o (Member t) = (w ≡ t.session) × OfficeOf t.session o

abbrev pub NodeOf : Node → Type 0
NodeOf Down = Unit {0}
NodeOf (Up x) = SeatOf x.worker.epoch x.presidency x.seat

-- ---- lines

-- an order is sent by a member, in its membership, and so is a Prepare
abbrev pub BodySo : List Moment → ℕ → Body → Type 0
BodySo before n (body.Order o) = member_of n before ≡ Some o.epoch
BodySo before n (body.Prepare e v text) = member_of n before ≡ Some e
BodySo before n _ = Unit {0}

abbrev pub SaysSo : List Moment → Moment → Type 0
SaysSo before (sent p n to called bytes) = (m : Message) → whole_of bytes ≡ Some m → BodySo before n m.body
SaysSo before _ = Unit {0}

abbrev pub AllSaySo : List Moment → Type 0
AllSaySo moments = Always SaysSo moments
