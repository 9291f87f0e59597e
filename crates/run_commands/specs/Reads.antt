-- What a node reads and answers in a step: the requests that it keeps are read, the president answers no more than `ok` and refusals over the
-- configuration, and what a node answers by itself it answers to the command that came.
use Rattle.std.specs.Prelude.{ℕ, ◌≡◌, ◌⊎◌, ◌%◌, nat_le, All, Bool, true, false, List, length, Option, None, Some, IfSome, Ok, Err, is_some}
use Rattle.std.specs.List.{AllByRecursion}
use Rattle.admin_words.specs.Commands.{command_of, request_of}
use Rattle.admin_words.specs.declared.error.WordError.{WordError}
use Rattle.answer_words.specs.Answers.{answer_in}
use Rattle.ccr_tables.specs.declared.command.AdminCommand.{AdminCommand}
use Rattle.cl_base.specs.declared.header.Version.{Version}
use Rattle.proposals.specs.declared.arrived.Arrived.{Arrived}
use Rattle.proposals.specs.declared.arrived.Kept.{Kept}
use Rattle.request_queue.specs.declared.request.Request.{Request}
use Rattle.status_report.specs.declared.command_entry.Answer.{Answer}
use Rattle.status_report.specs.declared.command_entry.Answer.TheVariants as answer
use Rattle.status_report.specs.declared.command_entry.CommandEntry.TheVariants as command
use Rattle.status_report.specs.declared.entry.Entry.{Entry}
use Rattle.status_report.specs.declared.entry.Entry.TheVariants as entry
use Rattle.wire.specs.declared.message.Body.{Body}
use Rattle.wire.specs.declared.message.Body.TheVariants as body
use Rattle.history.specs.Setting.{coordinator}
use Rattle.node_model.specs.declared.cluster.Cluster.{Cluster}
use Rattle.node_model.specs.declared.input.Input.{Input}
use Rattle.node_model.specs.declared.input.Input.TheVariants.{Packet}
use Rattle.node_model.specs.declared.node.UpNode.{UpNode}
use Rattle.node_model.specs.declared.output.Output.{Output}
use Rattle.node_model.specs.declared.output.Output.TheVariants.{Tells, Sends}
use Rattle.node_model.specs.declared.presidency.Presidency.{Presidency}
use Rattle.node_model.specs.Members.{is_ok}
use Rattle.node_model.specs.Presidents.{word_answer}
use Rattle.node_model.specs.Seats.{is_member, node_numbered, state_of, version_of}
use Rattle.node_model.specs.declared.seat.Seat.{Seat}
use Rattle.history_setting.specs.Settings.{is_asked}
use Rattle.request_queue.specs.Queue.{most_requests}
use Rattle.refinement.specs.Courses.{Course}
use Rattle.refinement.specs.Courses.Course.{Acts, Falls as Course_falls, Keeps, Stops}
use Rattle.refinement.specs.Doings.{Act, Change, acted, changed}
use Rattle.refinement.specs.Doings.Act.{Gives, Makes, Minds, Notes, Spreads, Writes}
use Rattle.refinement.specs.Doings.Change.{Acks, Leads, Promises, Proposes, Sits, Starts}
use Rattle.run_messages.specs.Steps.{is_collect}
use Rattle.run_commands.specs.carried.Guards.{is_silent}

-- ---- what a node keeps

-- the text is read as a request
abbrev pub IsRead : Version → List ℕ → Type 0
IsRead v text = is_ok (request_of v text) ≡ true

-- the text is read as no answer but `ok` and refusals over the configuration
abbrev pub IsPresidents : List ℕ → Type 0
IsPresidents text = IfSome (answer_in text) (λ reply. is_silent reply ≡ false)

abbrev pub RequestRead : Version → Request → Type 0
RequestRead v r = IsRead v r.text

abbrev pub ArrivedRead : Version → Arrived → Type 0
ArrivedRead v a = IsRead v a.text

abbrev pub KeptSo : Option Kept → Type 0
KeptSo o = IfSome o (λ (k : Kept). IsPresidents k.text)

-- what a president has in hand
abbrev pub OfficeReads : Version → Option Presidency → Type 0
OfficeReads v None = Unit {0}
OfficeReads v (Some p) = AllByRecursion (ArrivedRead v) p.proposals.arrived × All KeptSo p.proposals.answers

pub record Reads (v : Version) (waiting : List Request) (office : Option Presidency) : Type 0 where
  pub waiting_read : AllByRecursion (RequestRead v) waiting
  pub office_read : OfficeReads v office

abbrev pub ReadsIn : Version → UpNode → Type 0
ReadsIn v x = Reads v x.requests.waiting x.presidency

-- ---- what it tells and sends

-- an Answer is a president's
abbrev pub BodySo : Body → Type 0
BodySo (body.Answer e q text) = IsPresidents text
BodySo _ = Unit {0}

abbrev pub CameSo : Input → Type 0
CameSo (Packet from m) = BodySo m.body
CameSo _ = Unit {0}

-- Why a node with this seat, these requests and this in hand answers a command by itself.

pub record IsBad (v : Version) (words : List ℕ) (reply : Answer) : Type 0 where
  pub error : WordError
  pub read : command_of v words ≡ Err error
  pub is : reply ≡ word_answer error

pub record IsStrange (v : Version) (seat : Seat) (words : List ℕ) (reply : Answer) : Type 0 where
  pub command : AdminCommand
  pub read : command_of v words ≡ Ok command
  pub seated : is_member seat ≡ false
  pub is : reply ≡ answer.NotMember

-- it is a query, and the node is not the president
pub record IsForOther (v : Version) (seat : Seat) (office : Option Presidency) (words : List ℕ) (reply : Answer) : Type 0 where
  pub command : AdminCommand
  pub read : command_of v words ≡ Ok command
  pub seated : is_member seat ≡ true
  pub query : is_asked command ≡ true
  pub none : office ≡ None
  pub president : ℕ
  pub at : node_numbered ((state_of seat).session % 64) ≡ Some president
  pub is : reply ≡ answer.Ask president

-- as many requests wait as may
pub record IsTooMuch (v : Version) (seat : Seat) (office : Option Presidency) (waiting : List Request) (words : List ℕ) (reply : Answer) : Type 0 where
  pub command : AdminCommand
  pub read : command_of v words ≡ Ok command
  pub seated : is_member seat ≡ true
  pub query : is_asked command ≡ true → is_some office ≡ true
  pub full : nat_le most_requests (length waiting) ≡ true
  pub is : reply ≡ answer.QueueFull

abbrev pub OwnCause : Version → Seat → Option Presidency → List Request → List ℕ → Answer → Type 0
OwnCause v seat office waiting words reply =
    IsBad v words reply ⊎ IsStrange v seat words reply ⊎ IsForOther v seat office words reply ⊎ IsTooMuch v seat office waiting words reply

-- which answers a node may give by itself, to which commands
abbrev pub OwnReplies : Type 1
OwnReplies = ℕ → Answer → Type 0

-- the president's answer, or one of the node itself
abbrev pub ReplySo : OwnReplies → ℕ → Answer → Type 0
ReplySo o q reply = (is_silent reply ≡ false) ⊎ o q reply

abbrev pub LineSo : ℕ → OwnReplies → Entry → Type 0
LineSo own o (entry.Command (command.Asked n q)) = ⊥
LineSo own o (entry.Command (command.Answered n q reply)) = (n ≡ own) × ReplySo o q reply
LineSo own o (entry.Packet e) = ⊥
LineSo own o _ = Unit {0}

abbrev pub OutputSo : ℕ → OwnReplies → Output → Type 0
OutputSo own o (Tells e) = LineSo own o e
OutputSo own o (Sends to b) = BodySo b

abbrev pub AllSo : ℕ → OwnReplies → List Output → Type 0
AllSo own o os = AllByRecursion (OutputSo own o) os

-- ---- how a course goes

-- a Collect came
abbrev pub collects : Input → Bool
collects (Packet from m) = is_collect m.body
collects _ = false

abbrev pub ChangeReads : Cluster → ℕ → Input → UpNode → Change → Type 0
ChangeReads c own i x (Promises p) = collects i ≡ true
ChangeReads c own i x (Leads p members) = coordinator p ≡ own
ChangeReads c own i x (Proposes s p text) = ReadsIn (version_of c) (changed c own x (Proposes s p text))
ChangeReads c own i x (Acks s p q left text) = ReadsIn (version_of c) (changed c own x (Acks s p q left text))
ChangeReads c own i x _ = Unit {0}

-- the node starts as a member
abbrev pub IsStarting : Change → Type 0
IsStarting (Starts a k s) = Unit {0}
IsStarting (Sits s e) = Unit {0}
IsStarting _ = ⊥

abbrev pub ActReads : Cluster → ℕ → OwnReplies → UpNode → Act → Type 0
ActReads c own o x (Writes to b) = BodySo b
ActReads c own o x (Spreads receivers b) = BodySo b
ActReads c own o x (Gives os) = AllSo own o os
ActReads c own o x (Makes change) = IsStarting change
ActReads c own o x (Minds q p) = Reads (version_of c) q.waiting p
ActReads c own o x (Notes from place p) = ReadsIn (version_of c) (acted c own x (Notes from place p))
ActReads c own o x _ = Unit {0}

-- each small step, where what the node keeps is read before it
abbrev pub GoesRead : Cluster → ℕ → Input → OwnReplies → UpNode → Course → Type 0
GoesRead c own i o x Stops = Unit {0}
GoesRead c own i o x (Acts a rest) = (ReadsIn (version_of c) x → ActReads c own o x a) × GoesRead c own i o (acted c own x a) rest
GoesRead c own i o x (Keeps change rest) = (ReadsIn (version_of c) x → ChangeReads c own i x change) × GoesRead c own i o (changed c own x change) rest
GoesRead c own i o x (Course_falls why) = Unit {0}
