-- When a node sends Requests, but for those that go again at its tick: the oldest as it becomes the oldest; and when another becomes the oldest.
use Rattle.std.specs.Prelude.{ℕ, ◌≡◌, ◌⊎◌, true, List, [], ◌∷◌, Option, None, Some, is_some}
use Rattle.std.specs.List.{AllByRecursion}
use Rattle.cmm_attempt.specs.Calls.{turn}
use Rattle.node_model.specs.Seats.{session_of}
use Rattle.node_model.specs.declared.cluster.Cluster.{Cluster}
use Rattle.node_model.specs.declared.input.Input.{Input}
use Rattle.node_model.specs.declared.input.Input.TheVariants.{Packet}
use Rattle.node_model.specs.declared.node.UpNode.{UpNode}
use Rattle.node_model.specs.declared.output.Output.{Output}
use Rattle.node_model.specs.declared.output.Output.TheVariants.{Sends, Tells}
use Rattle.refinement.specs.Courses.{Course}
use Rattle.refinement.specs.Courses.Course.{Acts, Falls, Keeps, Stops}
use Rattle.refinement.specs.Doings.{Act, Change, Doing, Site, acted, changed, effect}
use Rattle.refinement.specs.Doings.Act.{Gives, Makes, Minds, Spreads, Ticks, Writes}
use Rattle.refinement.specs.Doings.Change.{Sits, Starts}
use Rattle.refinement.specs.Doings.Doing.{Does, Saves}
use Rattle.refinement.specs.Guards.{OfUp}
use Rattle.request_queue.specs.Queue.{Queue, oldest}
use Rattle.request_queue.specs.declared.request.Request.{Request}
use Rattle.wire.specs.declared.message.Body.{Body}
use Rattle.wire.specs.declared.message.Body.TheVariants as body
use Rattle.run_packets.specs.waiting.Asking.{IsOldest}

-- ---- an Answer that came

-- its membership and its number
pub record Heard : Type 0 where
  pub epoch : ℕ
  pub number : ℕ

abbrev pub heard_in : Body → Option Heard
heard_in (body.Answer e q text) = Some (record { epoch = e; number = q })
heard_in _ = None

abbrev pub heard_of : Input → Option Heard
heard_of (Packet from message) = heard_in message.body
heard_of _ = None

-- ---- messages

abbrev pub NoRequest : Body → Type 0
NoRequest (body.Request e q text) = ⊥
NoRequest _ = Unit {0}

abbrev pub AsksNone : Output → Type 0
AsksNone (Tells e) = Unit {0}
AsksNone (Sends to b) = NoRequest b

abbrev pub AskNone : List Output → Type 0
AskNone os = AllByRecursion AsksNone os

-- the oldest of a node that does not preside, which is no tick old
abbrev pub RequestSo : UpNode → ℕ → Body → Type 0
RequestSo x to (body.Request e q text) = IsOldest x to (body.Request e q text) × (x.presidency ≡ None)
RequestSo x to _ = Unit {0}

-- ---- the queue

-- none waits, or the Answer to the oldest came
abbrev pub IsDone : Option Heard → UpNode → Option Request → Type 0
IsDone heard x None = Unit {0}
IsDone heard x (Some r) = heard ≡ Some (record { epoch = session_of x; number = r.number })

-- the node presides, or its oldest request stays, as old as it was, or is done
abbrev pub QueueSo : Option Heard → UpNode → Queue → Type 0
QueueSo heard x q = (is_some x.presidency ≡ true) ⊎ (((oldest q ≡ oldest x.requests) × (q.age ≡ x.requests.age)) ⊎ IsDone heard x (oldest x.requests))

-- ---- courses

-- where a node becomes a member no Answer came; it starts in its session
abbrev pub ChangeAgain : Option Heard → Change → Type 0
ChangeAgain heard (Starts a k s) = (heard ≡ None) × (s.session ≡ (turn a k).after.plan.epoch)
ChangeAgain heard (Sits s e) = heard ≡ None
ChangeAgain heard _ = Unit {0}

abbrev pub ActAgain : Option Heard → UpNode → Act → Type 0
ActAgain heard x Ticks = ⊥
ActAgain heard x (Minds q p) = QueueSo heard x q
ActAgain heard x (Writes to b) = RequestSo x to b
ActAgain heard x (Spreads receivers b) = NoRequest b
ActAgain heard x (Gives os) = AskNone os
ActAgain heard x (Makes change) = ChangeAgain heard change
ActAgain heard x _ = Unit {0}

-- so a course goes, but for the tick itself
abbrev pub GoesAgain : Cluster → ℕ → Option Heard → UpNode → Course → Type 0
GoesAgain c n heard x Stops = Unit {0}
GoesAgain c n heard x (Acts a rest) = ActAgain heard x a × GoesAgain c n heard (acted c n x a) rest
GoesAgain c n heard x (Keeps change rest) = ChangeAgain heard change × GoesAgain c n heard (changed c n x change) rest
GoesAgain c n heard x (Falls why) = Unit {0}

abbrev pub DoingAgain : Option Heard → Site → Doing → Type 0
DoingAgain heard x (Does a) = OfUp (λ y. ActAgain heard y a) x.node
DoingAgain heard x (Saves change) = ChangeAgain heard change
DoingAgain heard x _ = Unit {0}

-- .. and small steps one after another
abbrev pub AllAgain : Cluster → ℕ → Option Heard → Site → List Doing → Type 0
AllAgain c n heard x [] = Unit {0}
AllAgain c n heard x (d ∷ ds) = DoingAgain heard x d × AllAgain c n heard (effect c n x d) ds
