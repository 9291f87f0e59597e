-- The president's own requests: how its queue goes with what it has in hand, where Requests go, and what is so of both between small steps.
use Rattle.std.specs.Prelude.{ℕ, ◌≡◌, ◌≢◌, ◌≤◌, ◌<◌, ◌⊎◌, ◌++◌, ◌&&◌, true, false, List, [], ◌∷◌, Option, None, Some, Ok, is_some, option_map}
use Rattle.std.specs.List.{AllByRecursion}
use Rattle.admin_words.specs.Commands.{command_of as read_command, request_of}
use Rattle.admin_words.specs.declared.request.Request.TheVariants as wish
use Rattle.ccr_tables.specs.declared.command.AdminCommand.{AdminCommand}
use Rattle.ccr_tables.specs.declared.update.Update.{Update}
use Rattle.proposals.specs.Arrivals.{answered}
use Rattle.proposals.specs.State.{State, first_in, kept_at}
use Rattle.proposals.specs.declared.arrived.Arrived.{Arrived}
use Rattle.proposals.specs.declared.arrived.Kept.{Kept}
use Rattle.request_queue.specs.Queue as queue
use Rattle.request_queue.specs.Queue.{Queue, next_number, oldest, oldest_in}
use Rattle.request_queue.specs.declared.request.Request.{Request}
use Rattle.update_words.specs.Words.{words_of}
use Rattle.wire.specs.declared.message.Body.{Body}
use Rattle.wire.specs.declared.message.Body.TheVariants as body
use Rattle.wire.specs.declared.message.Message.{Message}
use Rattle.history.specs.Moment.{Moment}
use Rattle.history.specs.Names as name
use Rattle.history.specs.Letters.{Letter}
use Rattle.history.specs.Requests.{command_of}
use Rattle.history.specs.Setting.{Setting, coordinator}
use Rattle.history_setting.specs.Settings.{is_asked}
use Rattle.node_model.specs.declared.cluster.Cluster.{Cluster}
use Rattle.node_model.specs.declared.input.Input.{Input}
use Rattle.node_model.specs.declared.input.Input.TheVariants.{Commanded, Packet}
use Rattle.node_model.specs.declared.node.UpNode.{UpNode}
use Rattle.node_model.specs.declared.output.Output.{Output}
use Rattle.node_model.specs.declared.output.Output.TheVariants.{Sends, Tells}
use Rattle.node_model.specs.declared.presidency.Presidency.{Presidency}
use Rattle.node_model.specs.Presidents.{own_arrival}
use Rattle.node_model.specs.Seats.{coordinator_of, is_in, is_member, record_of, session_of, version_of}
use Rattle.refinement.specs.Cuts.{queue_by}
use Rattle.refinement.specs.Doings.{Act, Change}
use Rattle.refinement.specs.Doings.Act.{Gives, Makes, Minds, Spreads, Writes}
use Rattle.refinement.specs.Doings.Change.{Acks, Sits}
use Rattle.run_commands.proofs.acknowledged.Granting.{IsAcked}
use Rattle.run_commands.specs.acknowledged.Askings.{LettersAre}
use Rattle.run_commands.specs.acknowledged.Guards.{IsRequested}
use Rattle.run_commands.specs.acknowledged.Hands.{Stays_or_comes, is_reached}
use Rattle.run_messages.specs.Laws.{membership_in}
use Rattle.run_commands.specs.carried.Guards.{pair_of}
use Rattle.run_commands.specs.acknowledged.AnsweringGuards.{Due, OfBoth}
use Rattle.run_commands.specs.acknowledged.AnsweringGuards.Due.{Even, Gave, Owes}
use Rattle.run_commands.proofs.acknowledged.Settled.{OwnAreSettled}

-- ---- guards

-- a node without a presidency sends the oldest of its queue to the coordinator of its session
pub record GoesAway (x : UpNode) (to : ℕ) : Type 0 where
  pub none : x.presidency ≡ None
  pub coordinates : coordinator_of x ≡ Some to
  pub waits : is_some (oldest x.requests) ≡ true

abbrev pub BodyOwn : UpNode → ℕ → Body → Type 0
BodyOwn x to (body.Request e q text) = GoesAway x to
BodyOwn x to _ = Unit {0}

abbrev pub OutputOwn : UpNode → Output → Type 0
OutputOwn x (Tells e) = Unit {0}
OutputOwn x (Sends to b) = BodyOwn x to b

-- to all: no Request
abbrev pub NoRequest : Body → Type 0
NoRequest (body.Request e q text) = ⊥
NoRequest _ = Unit {0}

-- it is the oldest of the president's queue
pub record IsOldest (me : ℕ) (q : Queue) (a : Arrived) : Type 0 where
  pub request : Request
  pub first : oldest q ≡ Some request
  pub is : a ≡ own_arrival me request

abbrev pub OwnCause : Input → ℕ → Option ℕ → UpNode → Queue → Arrived → Type 0
OwnCause i me v x q a = IsRequested i v x a ⊎ IsOldest me q a

-- this number has no answer yet
abbrev pub IsUnanswered : List (Option Kept) → ℕ → ℕ → Type 0
IsUnanswered answers me k = is_reached (kept_at answers me) k ≡ false

abbrev pub UnansweredIn : Option Presidency → ℕ → ℕ → Type 0
UnansweredIn None me k = Unit {0}
UnansweredIn (Some p) me k = IsUnanswered p.proposals.answers me k

-- a number above all that wait, and above the last that was answered
pub record IsLast (me : ℕ) (x : UpNode) (k : ℕ) : Type 0 where
  pub above : AllByRecursion (λ (r : Request). r.number < k) x.requests.waiting
  pub unanswered : UnansweredIn x.presidency me k

-- so is the next number, while there is one
pub record HasNext (me : ℕ) (x : UpNode) : Type 0 where
  pub asked : x.requests.asked ≤ next_number x.requests
  pub last : IsLast me x (next_number x.requests)

-- how the queue goes with the hand: it stays, and a request may come ..
pub record StaysOwn (i : Input) (me : ℕ) (v : Option ℕ) (x : UpNode) (q : Queue) (p : Option Presidency) : Type 0 where
  pub waiting : q.waiting ≡ x.requests.waiting
  pub hand : OfBoth (Stays_or_comes (OwnCause i me v x q)) x.presidency p

-- .. one joins it ..
pub record JoinsOwn (me : ℕ) (x : UpNode) (q : Queue) (p : Option Presidency) : Type 0 where
  pub request : Request
  pub waiting : q.waiting ≡ x.requests.waiting ++ request ∷ []
  pub low : request.number ≤ q.asked
  pub last : IsLast me x request.number
  pub same : p ≡ x.presidency

-- .. the first of the hand is answered, and leaves the queue if it is the president's own ..
pub record AnswersOwn (i : Input) (me : ℕ) (v : Option ℕ) (x : UpNode) (q : Queue) (s t : State) : Type 0 where
  pub request : Arrived
  pub first : first_in s.arrived ≡ Some request
  pub text : List ℕ
  pub waiting : q.waiting ≡ (queue_by me x request).waiting
  pub then : Stays_or_comes (OwnCause i me v x q) (answered s text) t

pub record AnswersFirst (i : Input) (me : ℕ) (v : Option ℕ) (x : UpNode) (q : Queue) (p : Option Presidency) : Type 0 where
  pub presidency : Presidency
  pub here : x.presidency ≡ Some presidency
  pub left : Presidency
  pub is : p ≡ Some left
  pub answers : AnswersOwn i me v x q presidency.proposals left.proposals

-- .. or the president's Answer has come, to the oldest
pub record TakesReply (i : Input) (x : UpNode) (q : Queue) (p : Option Presidency) : Type 0 where
  pub from : ℕ
  pub message : Message
  pub input : i ≡ Packet from message
  pub epoch : ℕ
  pub number : ℕ
  pub text : List ℕ
  pub says_so : message.body ≡ body.Answer epoch number text
  pub here : (is_member x.seat && is_in x epoch) ≡ true
  pub waiting : q.waiting ≡ (queue.answered x.requests number).waiting
  pub same : p ≡ x.presidency

abbrev pub MindsOwn : Input → ℕ → Option ℕ → UpNode → Queue → Option Presidency → Type 0
MindsOwn i me v x q p =
    (x.requests.asked ≤ q.asked) × (StaysOwn i me v x q p ⊎ JoinsOwn me x q p ⊎ AnswersFirst i me v x q p ⊎ TakesReply i x q p)

abbrev pub ChangeOwn : Input → ℕ → Option ℕ → UpNode → Change → Type 0
ChangeOwn i me v x (Acks s p q left text) = (x.requests.asked ≤ q.asked) × AnswersOwn i me v x q p.proposals left.proposals
ChangeOwn i me v x _ = Unit {0}

abbrev pub ActOwn : Input → ℕ → Option ℕ → UpNode → Act → Type 0
ActOwn i me v x (Writes to b) = BodyOwn x to b
ActOwn i me v x (Spreads receivers b) = NoRequest b
ActOwn i me v x (Gives os) = AllByRecursion (OutputOwn x) os
ActOwn i me v x (Minds q p) = MindsOwn i me v x q p
ActOwn i me v x (Makes change) = ChangeOwn i me v x change
ActOwn i me v x _ = Unit {0}

-- ---- what is so of a node

-- the numbers rise
abbrev pub Rises : List Request → Type 0
Rises [] = Unit {0}
Rises (r ∷ rs) = AllByRecursion (λ (k : Request). r.number < k.number) rs × Rises rs

-- a request of the president itself is the oldest of its queue
abbrev pub IsFirstOf : ℕ → List Request → Arrived → Type 0
IsFirstOf me rs a = a.from ≡ me → option_map pair_of (oldest_in rs) ≡ Some (a.number, a.text)

-- with the number of the last request
pub record OwnHand (me last : ℕ) (rs : List Request) (s : State) : Type 0 where
  pub later : AllByRecursion (λ (r : Request). IsUnanswered s.answers me r.number) rs
  pub below : (k : ℕ) → last < k → IsUnanswered s.answers me k
  pub first : AllByRecursion (IsFirstOf me rs) s.arrived

abbrev pub OwnIn : ℕ → ℕ → List Request → Option Presidency → Type 0
OwnIn me last rs None = Unit {0}
OwnIn me last rs (Some p) = OwnHand me last rs p.proposals

-- a member of a membership that it coordinates presides in it
pub record OwnSo (me : ℕ) (x : UpNode) : Type 0 where
  pub rises : Rises x.requests.waiting
  pub low : AllByRecursion (λ (r : Request). r.number ≤ x.requests.asked) x.requests.waiting
  pub hand : OwnIn me x.requests.asked x.requests.waiting x.presidency
  pub office : (e : ℕ) → membership_in x.seat ≡ Some e → coordinator e ≡ me → is_some x.presidency ≡ true

-- ---- what was told

-- a Request, or an Answer, goes to another node
pub record IsOutward (l : Letter) : Type 0 where
  pub request : (q : ℕ) → l.name ≡ name.Request q → l.to ≢ l.from
  pub answer : (q : ℕ) → l.name ≡ name.Answer q → l.to ≢ l.from

pub record OwnTold (S : Setting) (ms : List Moment) : Type 0 where
  pub letters : LettersAre IsOutward ms
  pub settled : OwnAreSettled S ms

-- ---- between two small steps

-- the answer that is owed to a command of its own is to an update that is acknowledged
abbrev pub IsOwed : Setting → ℕ → ℕ → List Moment → Arrived → Type 0
IsOwed S me e ms a = a.from ≡ me → (words : List ℕ) → command_of S me a.number ms ≡ Some words → S.is_update words ≡ true → IsAcked e words ms

abbrev pub OwnDue : Setting → ℕ → ℕ → List Moment → Due → Type 0
OwnDue S me e ms Even = Unit {0}
OwnDue S me e ms (Gave a reply) = Unit {0}
OwnDue S me e ms (Owes a) = IsOwed S me e ms a

-- of a node that is up, with what is due
pub record OwnUp (S : Setting) (me : ℕ) (d : Due) (x : UpNode) (ms : List Moment) : Type 0 where
  pub own : OwnSo me x
  pub due : OwnDue S me (session_of x) ms d

-- the last number is that of the command that came
abbrev pub NowAsked : Setting → ℕ → Input → ℕ → List Moment → Type 0
NowAsked S me (Commanded words) last ms = command_of S me last ms ≡ S.canonical words
NowAsked S me _ last ms = Unit {0}

-- another node's attempt is not its own
abbrev pub Elsewhere : ℕ → Change → Type 0
Elsewhere me (Sits s e) = coordinator e ≢ me
Elsewhere me _ = Unit {0}

-- what is pending is the update of the first request, while something is proposed
pub record FirstSo (c : Cluster) (x : UpNode) (a : Arrived) : Type 0 where
  pub update : Update
  pub read : request_of (version_of c) a.text ≡ Ok (wish.Change update)
  pub words : (text : List ℕ) → (record_of x).entries.pending ≡ Some text → text ≡ words_of update

abbrev pub FirstIn : Cluster → UpNode → Option Presidency → Type 0
FirstIn c x None = Unit {0}
FirstIn c x (Some p) = is_some p.proposals.proposed ≡ true → (a : Arrived) → first_in p.proposals.arrived ≡ Some a → FirstSo c x a

-- ---- how words are read

-- canonical words of an update are a request for it, and those of a query are no update's
pub record ReadsOwn (c : Cluster) (S : Setting) : Type 0 where
  pub updates : (text : List ℕ) → S.is_update text ≡ true → (u : Update) × (request_of (version_of c) text ≡ Ok (wish.Change u))
  pub queries : (words text : List ℕ) (question : AdminCommand) → read_command (version_of c) words ≡ Ok question → is_asked question ≡ true → S.canonical words ≡ Some text
      → S.is_update text ≡ false
