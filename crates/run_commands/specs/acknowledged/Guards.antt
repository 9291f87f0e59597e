-- What the guards of `refinement` do not say of a president: why a request comes to it, and which request an update is proposed for; and that a
-- node sends Requests in its session.
use Rattle.std.specs.Prelude.{ℕ, ◌≡◌, ◌⊎◌, true, List, [], ◌∷◌, Option, None, Some, Ok}
use Rattle.std.specs.List.{AllByRecursion}
use Rattle.admin_words.specs.Commands.{request_of}
use Rattle.admin_words.specs.declared.request.Request.TheVariants as wish
use Rattle.ccr_tables.specs.declared.update.Update.{Update}
use Rattle.proposals.specs.State.{first_in}
use Rattle.proposals.specs.declared.arrived.Arrived.{Arrived}
use Rattle.request_queue.specs.declared.request.Request.{Request}
use Rattle.update_words.specs.Words.{words_of}
use Rattle.wire.specs.declared.message.Body.{Body}
use Rattle.wire.specs.declared.message.Body.TheVariants as body
use Rattle.wire.specs.declared.message.Message.{Message}
use Rattle.node_model.specs.declared.cluster.Cluster.{Cluster}
use Rattle.node_model.specs.declared.input.Input.{Input}
use Rattle.node_model.specs.declared.input.Input.TheVariants.{Packet}
use Rattle.node_model.specs.declared.node.UpNode.{UpNode}
use Rattle.node_model.specs.declared.output.Output.{Output}
use Rattle.node_model.specs.declared.output.Output.TheVariants.{Sends, Tells}
use Rattle.node_model.specs.declared.presidency.Presidency.{Presidency}
use Rattle.node_model.specs.Presidents.{own_arrival}
use Rattle.node_model.specs.Seats.{session_of, version_of}
use Rattle.node_model.specs.Updates.{is_of_member}
use Rattle.refinement.specs.Courses.{Course}
use Rattle.refinement.specs.Courses.Course.{Acts, Falls as Course_falls, Keeps, Stops}
use Rattle.refinement.specs.Doings.{Act, Change, acted, changed}
use Rattle.refinement.specs.Doings.Act.{Gives, Makes, Minds, Spreads, Writes}
use Rattle.refinement.specs.Doings.Change.{Acks, Proposes}
use Rattle.run_commands.specs.acknowledged.Hands.{HandGoes}

abbrev pub IsIn : Request → List Request → Type 0
IsIn r [] = ⊥
IsIn r (x ∷ xs) = (r ≡ x) ⊎ IsIn r xs

-- a member's Request came, in the membership that the node was of as the step began
pub record IsRequested (i : Input) (v : Option ℕ) (x : UpNode) (a : Arrived) : Type 0 where
  pub message : Message
  pub input : i ≡ Packet a.from message
  pub epoch : ℕ
  pub says : message.body ≡ body.Request epoch a.number a.text
  pub member : v ≡ Some epoch
  pub here : is_of_member x a.from epoch ≡ true

-- it is one that waits at the president itself
pub record IsOwn (me : ℕ) (x : UpNode) (a : Arrived) : Type 0 where
  pub request : Request
  pub waits : IsIn request x.requests.waiting
  pub is : a ≡ own_arrival me request

abbrev pub CauseOf : Input → ℕ → Option ℕ → UpNode → Arrived → Type 0
CauseOf i me v x a = IsRequested i v x a ⊎ IsOwn me x a

-- the update is that of the first request
pub record IsOfFirst (c : Cluster) (p : Presidency) (text : List ℕ) : Type 0 where
  pub request : Arrived
  pub first : first_in p.proposals.arrived ≡ Some request
  pub update : Update
  pub read : request_of (version_of c) request.text ≡ Ok (wish.Change update)
  pub words : text ≡ words_of update

abbrev pub PresidencyGoes : (Arrived → Type 0) → Option Presidency → Option Presidency → Type 0
PresidencyGoes C None None = Unit {0}
PresidencyGoes C (Some p) (Some q) = HandGoes C p.proposals q.proposals
PresidencyGoes C None (Some q) = ⊥
PresidencyGoes C (Some p) None = ⊥

abbrev pub BodyHand : UpNode → Body → Type 0
BodyHand x (body.Request e q text) = e ≡ session_of x
BodyHand x _ = Unit {0}

abbrev pub OutputHand : UpNode → Output → Type 0
OutputHand x (Tells e) = Unit {0}
OutputHand x (Sends to b) = BodyHand x b

abbrev pub ChangeHand : Cluster → Input → ℕ → Option ℕ → UpNode → Change → Type 0
ChangeHand c i me v x (Acks s p q left text) = HandGoes (CauseOf i me v x) p.proposals left.proposals
ChangeHand c i me v x (Proposes s p text) = IsOfFirst c p text
ChangeHand c i me v x _ = Unit {0}

abbrev pub ActHand : Cluster → Input → ℕ → Option ℕ → UpNode → Act → Type 0
ActHand c i me v x (Writes to b) = BodyHand x b
ActHand c i me v x (Spreads receivers b) = BodyHand x b
ActHand c i me v x (Gives os) = AllByRecursion (OutputHand x) os
ActHand c i me v x (Minds q p) = PresidencyGoes (CauseOf i me v x) x.presidency p
ActHand c i me v x (Makes change) = ChangeHand c i me v x change
ActHand c i me v x _ = Unit {0}

-- so a course goes
abbrev pub GoesHand : Cluster → Input → ℕ → Option ℕ → UpNode → Course → Type 0
GoesHand c i me v x Stops = Unit {0}
GoesHand c i me v x (Acts a rest) = ActHand c i me v x a × GoesHand c i me v (acted c me x a) rest
GoesHand c i me v x (Keeps change rest) = ChangeHand c i me v x change × GoesHand c i me v (changed c me x change) rest
GoesHand c i me v x (Course_falls why) = Unit {0}
