-- What the guards of `refinement` do not say of requests: which are sent, how the queue of a node changes, and why an answer is told.
use Rattle.std.specs.Prelude.{ℕ, ◌≡◌, ◌⊎◌, ◌&&◌, ◌++◌, Bool, true, false, List, [], ◌∷◌, Option, None, Some, is_some, if◌then◌else◌}
use Rattle.std.specs.List.{AllByRecursion}
use Rattle.std.specs.Option.{option_and_then, option_map}
use Rattle.answer_words.specs.Answers.{answer_in}
use Rattle.request_queue.specs.Queue as queue
use Rattle.request_queue.specs.Queue.{Queue, found, oldest}
use Rattle.request_queue.specs.declared.request.Request.{Request}
use Rattle.status_report.specs.declared.command_entry.Answer.{Answer}
use Rattle.status_report.specs.declared.command_entry.Answer.TheVariants as answer
use Rattle.status_report.specs.declared.command_entry.CommandEntry.TheVariants as command
use Rattle.status_report.specs.declared.entry.Entry.TheVariants as entry
use Rattle.wire.specs.declared.message.Body.{Body}
use Rattle.wire.specs.declared.message.Body.TheVariants as body
use Rattle.wire.specs.declared.message.Message.{Message}
use Rattle.node_model.specs.declared.cluster.Cluster.{Cluster}
use Rattle.node_model.specs.declared.input.Input.{Input}
use Rattle.node_model.specs.declared.input.Input.TheVariants.{Packet}
use Rattle.node_model.specs.declared.node.UpNode.{UpNode}
use Rattle.node_model.specs.declared.output.Output.{Output}
use Rattle.node_model.specs.declared.output.Output.TheVariants.{Tells, Sends}
use Rattle.node_model.specs.Seats.{is_in, is_member, session_of}
use Rattle.run_messages.specs.Laws.{membership_in}
use Rattle.refinement.specs.Courses.{Course}
use Rattle.refinement.specs.Courses.Course.{Acts, Falls as Course_falls, Keeps, Stops}
use Rattle.refinement.specs.Doings.{Act, Change, acted, changed}
use Rattle.refinement.specs.Doings.Act.{Gives, Makes, Minds, Spreads, Writes}
use Rattle.refinement.specs.Doings.Change.{Acks, Leads, Promises, Sits, Starts}

-- the command that came in the step: its number, its canonical words if it is a request, and where it was asked
pub record Command : Type 0 where
  pub number : ℕ
  pub text : Option (List ℕ)
  pub session : Option ℕ

-- it is this one, in the membership in which it was asked
pub record IsNow (o : Option Command) (x : UpNode) (q : ℕ) : Type 0 where
  pub command : Command
  pub is : o ≡ Some command
  pub number : command.number ≡ q
  pub session : command.session ≡ membership_in x.seat

-- a request of a command that waits first
pub record FoundTold (x : UpNode) (q : ℕ) : Type 0 where
  pub asked : ℕ
  pub request : Request
  pub is : found x.requests.waiting asked ≡ Some request
  pub told : request.told ≡ true
  pub number : request.number ≡ q

-- neither ok nor a refusal over the configuration
abbrev pub is_silent : Answer → Bool
is_silent answer.Ok = false
is_silent (answer.Refused refusal) = false
is_silent _ = true

-- the president's answer came
pub record Repeats (i : Input) (x : UpNode) (q : ℕ) (reply : Answer) : Type 0 where
  pub from : ℕ
  pub message : Message
  pub input : i ≡ Packet from message
  pub epoch : ℕ
  pub text : List ℕ
  pub says : message.body ≡ body.Answer epoch q text
  pub reads : answer_in text ≡ Some reply
  pub here : (is_member x.seat && is_in x epoch) ≡ true
  pub waits : FoundTold x q

-- why a command is answered so: by the node itself, as president, or as the president answered
abbrev pub Cause : Input → Option Command → Option ℕ → UpNode → ℕ → Answer → Type 0
Cause i o h x q reply =
    (is_silent reply ≡ true) ⊎ (((is_some x.presidency ≡ true) × (FoundTold x q ⊎ IsNow o x q ⊎ (h ≡ Some q))) ⊎ Repeats i x q reply)

abbrev pub pair_of : Request → ℕ × List ℕ
pair_of r = (r.number, r.text)

-- a Request is of the oldest that waits; an Answer of a president, in its session
abbrev pub BodyAsk : UpNode → Body → Type 0
BodyAsk x (body.Request e q text) = option_map pair_of (oldest x.requests) ≡ Some (q, text)
BodyAsk x (body.Answer e q text) = (is_some x.presidency ≡ true) × (e ≡ session_of x)
BodyAsk x _ = Unit {0}

abbrev pub OutputAsk : ℕ → Input → Option Command → Option ℕ → UpNode → Output → Type 0
OutputAsk own i o h x (Tells (entry.Command (command.Asked n q))) = ⊥
OutputAsk own i o h x (Tells (entry.Command (command.Answered n q reply))) = (n ≡ own) × Cause i o h x q reply
OutputAsk own i o h x (Tells e) = Unit {0}
OutputAsk own i o h x (Sends to b) = BodyAsk x b

-- how the queue changes
pub data Move : Type 0 where
  Same : Move
  Answers : (number : ℕ) → Move  -- the first is answered, if it has this number
  Joins : (r : Request) → Move  -- the command that came waits

abbrev pub waiting_after : Move → UpNode → List Request
waiting_after Same x = x.requests.waiting
waiting_after (Answers number) x = (queue.answered x.requests number).waiting
waiting_after (Joins r) x = x.requests.waiting ++ r ∷ []

abbrev pub JoinsSo : Option Command → UpNode → Request → Type 0
JoinsSo o x r = (h : IsNow o x r.number) × (h.command.text ≡ Some r.text) × (r.told ≡ true) × (is_member x.seat ≡ true)

abbrev pub MayMove : Option Command → UpNode → Move → Type 0
MayMove o x (Joins r) = JoinsSo o x r
MayMove o x _ = Unit {0}

pub record QueueGoes (o : Option Command) (x : UpNode) (q : Queue) : Type 0 where
  pub move : Move
  pub waiting : q.waiting ≡ waiting_after move x
  pub asked : q.asked ≡ x.requests.asked
  pub may : MayMove o x move

abbrev pub ChangeAsk : Option Command → UpNode → Change → Type 0
ChangeAsk o x (Acks s p q left text) = QueueGoes o x q
ChangeAsk o x _ = Unit {0}

abbrev pub ActAsk : ℕ → Input → Option Command → Option ℕ → UpNode → Act → Type 0
ActAsk own i o h x (Writes to b) = BodyAsk x b
ActAsk own i o h x (Spreads receivers b) = BodyAsk x b
ActAsk own i o h x (Gives os) = AllByRecursion (OutputAsk own i o h x) os
ActAsk own i o h x (Minds q p) = QueueGoes o x q
ActAsk own i o h x (Makes change) = ChangeAsk o x change
ActAsk own i o h x _ = Unit {0}

-- the command whose request an acknowledgement has just taken out of the queue
abbrev pub told_number : Request → Option ℕ
told_number r = if r.told then Some r.number else None

abbrev pub hand_change : UpNode → Option ℕ → Change → Option ℕ
hand_change x h (Acks s p q left text) = option_and_then told_number (oldest x.requests)
hand_change x h (Promises p) = None
hand_change x h (Leads p members) = None
hand_change x h (Starts a k s) = None
hand_change x h (Sits s e) = None
hand_change x h _ = h

abbrev pub hand_act : UpNode → Option ℕ → Act → Option ℕ
hand_act x h (Makes change) = hand_change x h change
hand_act x h _ = h

-- so a course goes
abbrev pub GoesAsk : Cluster → ℕ → Input → Option Command → Option ℕ → UpNode → Course → Type 0
GoesAsk c own i o h x Stops = Unit {0}
GoesAsk c own i o h x (Acts a rest) = ActAsk own i o h x a × GoesAsk c own i o (hand_act x h a) (acted c own x a) rest
GoesAsk c own i o h x (Keeps change rest) = ChangeAsk o x change × GoesAsk c own i o (hand_change x h change) (changed c own x change) rest
GoesAsk c own i o h x (Course_falls why) = Unit {0}
