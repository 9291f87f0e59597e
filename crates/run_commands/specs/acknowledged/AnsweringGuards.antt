-- How a president goes on from a request to its answer: what it gives, and what it keeps, between two small steps.
use Rattle.std.specs.Prelude.{ℕ, ◌≡◌, ◌≢◌, ◌⊎◌, true, List, [], ◌∷◌, Option, None, Some, Ok, is_some}
use Rattle.std.specs.List.{AllByRecursion}
use Rattle.admin_words.specs.Commands.{command_of}
use Rattle.answer_words.specs.Answers.{answer_in}
use Rattle.ccr_tables.specs.declared.command.AdminCommand.{AdminCommand}
use Rattle.history_setting.specs.Settings.{is_asked}
use Rattle.proposals.specs.Arrivals.{answered}
use Rattle.proposals.specs.State.{State, first_in, kept_at}
use Rattle.proposals.specs.declared.arrived.Arrived.{Arrived}
use Rattle.proposals.specs.declared.arrived.Kept.{Kept}
use Rattle.status_report.specs.CommandLines.{reply_text}
use Rattle.status_report.specs.declared.command_entry.Answer.{Answer}
use Rattle.status_report.specs.declared.command_entry.Answer.TheVariants as answer
use Rattle.status_report.specs.declared.command_entry.CommandEntry.TheVariants as command
use Rattle.status_report.specs.declared.entry.Entry.TheVariants as entry
use Rattle.wire.specs.declared.message.Body.{Body}
use Rattle.wire.specs.declared.message.Body.TheVariants as body
use Rattle.wire.specs.declared.message.Message.{Message}
use Rattle.node_model.specs.declared.cluster.Cluster.{Cluster}
use Rattle.node_model.specs.declared.input.Input.{Input}
use Rattle.node_model.specs.declared.input.Input.TheVariants.{Commanded, Packet}
use Rattle.node_model.specs.declared.node.UpNode.{UpNode}
use Rattle.node_model.specs.declared.output.Output.{Output}
use Rattle.node_model.specs.declared.output.Output.TheVariants.{Sends, Tells}
use Rattle.node_model.specs.declared.presidency.Presidency.{Presidency}
use Rattle.node_model.specs.Entries.{answered_line}
use Rattle.node_model.specs.Presidents.{answer_given}
use Rattle.node_model.specs.Seats.{is_in, record_of, session_of, version_of}
use Rattle.refinement.specs.Courses.{Course}
use Rattle.refinement.specs.Courses.Course.{Acts, Falls as Course_falls, Keeps, Stops}
use Rattle.refinement.specs.Doings.{Act, Change, acted, changed}
use Rattle.refinement.specs.Doings.Act.{Gives, Makes, Minds, Spreads, Writes}
use Rattle.refinement.specs.Doings.Change.{Acks, Proposes}
use Rattle.run_commands.specs.acknowledged.Guards.{CauseOf, IsOfFirst}
use Rattle.run_commands.specs.acknowledged.Hands.{Stays_or_comes}
use Rattle.run_commands.specs.acknowledged.Requested.{IsPlain}

-- what the lines of a president and its memory disagree on
pub data Due : Type 0 where
  Even : Due  -- nothing
  Gave : (request : Arrived) (reply : Answer) → Due  -- the first request has its answer, which is not kept yet
  Owes : (request : Arrived) → Due  -- the first request's update is acknowledged, and its answer kept; it is not given yet

-- ---- what is given

-- neither a president's Answer nor a line with `ok`
abbrev pub IsStill : Output → Type 0
IsStill (Tells (entry.Command (command.Answered n q answer.Ok))) = ⊥
IsStill (Tells e) = Unit {0}
IsStill (Sends to (body.Answer e q text)) = ⊥
IsStill (Sends to b) = Unit {0}

abbrev pub AreStill : List Output → Type 0
AreStill os = AllByRecursion IsStill os

-- the first request of a president that has proposed nothing gets its answer; to an update it is not `ok`
pub record GivesFirst (c : Cluster) (me : ℕ) (x : UpNode) (os : List Output) (after : Due) : Type 0 where
  pub presidency : Presidency
  pub here : x.presidency ≡ Some presidency
  pub request : Arrived
  pub first : first_in presidency.proposals.arrived ≡ Some request
  pub none : presidency.proposals.proposed ≡ None
  pub reply : Answer
  pub plain : reply ≡ answer.Ok → IsPlain c request.text
  pub is : os ≡ answer_given me x request reply
  pub then : after ≡ Gave request reply

-- the answer that is owed: to another node its message, to a command of its own the line, and to a monitor nothing
abbrev pub OwedOutput : ℕ → UpNode → Arrived → List Output → Type 0
OwedOutput me x a os =
    ((a.from ≢ me) × (os ≡ Sends a.from (body.Answer (session_of x) a.number (reply_text answer.Ok)) ∷ []))
    ⊎ ((a.from ≡ me) × ((os ≡ []) ⊎ (os ≡ Tells (answered_line me a.number answer.Ok) ∷ [])))

-- the president answers a query that has just come
pub record TellsQuery (c : Cluster) (i : Input) (me : ℕ) (x : UpNode) (os : List Output) : Type 0 where
  pub words : List ℕ
  pub input : i ≡ Commanded words
  pub question : AdminCommand
  pub read : command_of (version_of c) words ≡ Ok question
  pub asked : is_asked question ≡ true
  pub president : is_some x.presidency ≡ true
  pub is : os ≡ Tells (answered_line me x.requests.asked answer.Ok) ∷ []

-- a member tells what its president's Answer says
pub record TellsReply (i : Input) (me : ℕ) (x : UpNode) (os : List Output) : Type 0 where
  pub from : ℕ
  pub message : Message
  pub input : i ≡ Packet from message
  pub epoch : ℕ
  pub number : ℕ
  pub text : List ℕ
  pub says_so : message.body ≡ body.Answer epoch number text
  pub reads : answer_in text ≡ Some answer.Ok
  pub here : is_in x epoch ≡ true
  pub is : os ≡ Tells (answered_line me number answer.Ok) ∷ []

abbrev pub GivesSo : Cluster → Input → ℕ → UpNode → Due → List Output → Due → Type 0
GivesSo c i me x Even os after =
    (AreStill os × (after ≡ Even)) ⊎ GivesFirst c me x os after ⊎ ((TellsQuery c i me x os ⊎ TellsReply i me x os) × (after ≡ Even))
GivesSo c i me x (Gave a reply) os after = ⊥
GivesSo c i me x (Owes a) os after = OwedOutput me x a os × (after ≡ Even)

-- the last answer to a node goes again, as its last request came again: from that node, or as one that waits at the president itself
pub record GivesAgain (c : Cluster) (i : Input) (me : ℕ) (v : Option ℕ) (x : UpNode) (to : ℕ) (b : Body) : Type 0 where
  pub presidency : Presidency
  pub here : x.presidency ≡ Some presidency
  pub kept : Kept
  pub last : kept_at presidency.proposals.answers to ≡ Some kept
  pub request : Arrived
  pub cause : CauseOf i me v x request
  pub from : request.from ≡ to
  pub number : request.number ≡ kept.number
  pub is : b ≡ body.Answer (session_of x) kept.number kept.text

abbrev pub WritesSo : Cluster → Input → ℕ → Option ℕ → UpNode → ℕ → Body → Type 0
WritesSo c i me v x to b = IsStill (Sends to b) ⊎ GivesAgain c i me v x to b

-- ---- how what a president has in hand changes

-- the first is answered, and then a new one may come
pub record Answers (C : Arrived → Type 0) (a : Arrived) (reply : Answer) (s t : State) : Type 0 where
  pub first : first_in s.arrived ≡ Some a
  pub then : Stays_or_comes C (answered s (reply_text reply)) t

abbrev pub OfBoth : (State → State → Type 0) → Option Presidency → Option Presidency → Type 0
OfBoth P None None = Unit {0}
OfBoth P (Some p) (Some q) = P p.proposals q.proposals
OfBoth P None (Some q) = ⊥
OfBoth P (Some p) None = ⊥

abbrev pub MindsSo : Cluster → Input → ℕ → Option ℕ → UpNode → Due → Option Presidency → Due → Type 0
MindsSo c i me v x Even p after = OfBoth (Stays_or_comes (CauseOf i me v x)) x.presidency p × (after ≡ Even)
MindsSo c i me v x (Gave a reply) p after = OfBoth (Answers (CauseOf i me v x) a reply) x.presidency p × (after ≡ Even)
MindsSo c i me v x (Owes a) p after = ⊥

-- what is pending is acknowledged, as the first request's
pub record AcksSo (c : Cluster) (i : Input) (me : ℕ) (v : Option ℕ) (x : UpNode) (p left : Presidency) (text : List ℕ) (after : Due) : Type 0 where
  pub request : Arrived
  pub pending : (record_of x).entries.pending ≡ Some text
  pub answers : Answers (CauseOf i me v x) request answer.Ok p.proposals left.proposals
  pub then : after ≡ Owes request

abbrev pub ChangeSo : Cluster → Input → ℕ → Option ℕ → UpNode → Due → Change → Due → Type 0
ChangeSo c i me v x Even (Acks s p q left text) after = AcksSo c i me v x p left text after
ChangeSo c i me v x Even (Proposes s p text) after = IsOfFirst c p text × (after ≡ Even)
ChangeSo c i me v x Even change after = after ≡ Even
ChangeSo c i me v x (Gave a reply) change after = ⊥
ChangeSo c i me v x (Owes a) change after = ⊥

-- ---- a course

-- to all: no president's Answer
abbrev pub IsNoAnswer : Body → Type 0
IsNoAnswer (body.Answer e q text) = ⊥
IsNoAnswer b = Unit {0}

abbrev pub ActSo : Cluster → Input → ℕ → Option ℕ → UpNode → Due → Act → Due → Type 0
ActSo c i me v x d (Gives os) after = GivesSo c i me x d os after
ActSo c i me v x d (Writes to b) after = (d ≡ Even) × WritesSo c i me v x to b × (after ≡ Even)
ActSo c i me v x d (Spreads receivers b) after = IsNoAnswer b × (after ≡ d)
ActSo c i me v x d (Minds q p) after = MindsSo c i me v x d p after
ActSo c i me v x d (Makes change) after = ChangeSo c i me v x d change after
ActSo c i me v x d _ after = (d ≡ Even) × (after ≡ Even)

-- at its end nothing is due
abbrev pub GoesSo : Cluster → Input → ℕ → Option ℕ → Due → UpNode → Course → Type 0
GoesSo c i me v d x Stops = d ≡ Even
GoesSo c i me v d x (Acts a rest) = (g : Due) × ActSo c i me v x d a g × GoesSo c i me v g (acted c me x a) rest
GoesSo c i me v d x (Keeps change rest) = (g : Due) × ChangeSo c i me v x d change g × GoesSo c i me v g (changed c me x change) rest
GoesSo c i me v d x (Course_falls why) = Unit {0}
