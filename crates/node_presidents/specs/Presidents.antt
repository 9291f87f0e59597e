-- The plans of a president, by what it has in hand.
use Rattle.std.specs.Prelude.{ℕ, ◌==◌, Bool, false, List, [], ◌∷◌, Option, None, Some, Ok, if◌then◌else◌, true}
use Rattle.std.specs.Option.{option_map}
use Rattle.admin_words.specs.Commands.{command_of}
use Rattle.ccr_tables.specs.State.{ConfigState}
use Rattle.cl_base.specs.declared.command.Ask.{Ask}
use Rattle.cl_base.specs.declared.command.Ask.TheVariants.{Restart, Move, Remaster, Evacuate, Clear}
use Rattle.proposals.specs.Arrivals as arrivals
use Rattle.proposals.specs.Arrivals.{arrival_of, with_arrival}
use Rattle.proposals.specs.Proposing.{proposing}
use Rattle.proposals.specs.State.{State, first_in, kept_at}
use Rattle.proposals.specs.declared.arrived.Arrival.{Arrival}
use Rattle.proposals.specs.declared.arrived.Arrival.TheVariants.{New, Waits, Answered, Past}
use Rattle.proposals.specs.declared.arrived.Arrived.{Arrived}
use Rattle.request_queue.specs.Queue as queue
use Rattle.request_queue.specs.Queue.{Queue, found, oldest}
use Rattle.rgm_president.specs.Acts.{HasRoom, with_ask}
use Rattle.status_report.specs.CommandLines.{reply_text}
use Rattle.status_report.specs.declared.command_entry.Answer.{Answer}
use Rattle.status_report.specs.declared.command_entry.Answer.TheVariants as answer
use Rattle.status_report.specs.declared.entry.Entry.TheVariants as entry
use Rattle.status_report.specs.declared.node_entry.NodeEntry.TheVariants.{Saved}
use Rattle.status_report.specs.declared.update_entry.UpdateEntry.TheVariants as update
use Rattle.wire.specs.declared.message.Body.TheVariants as body
use Rattle.node_model.specs.declared.cluster.Cluster.{Cluster}
use Rattle.node_model.specs.declared.node.UpNode.{UpNode}
use Rattle.node_model.specs.declared.output.Output.{Output}
use Rattle.node_model.specs.declared.output.Output.TheVariants.{Tells, Sends}
use Rattle.node_model.specs.declared.presidency.Presidency.{Presidency}
use Rattle.node_model.specs.Configurations.{in_force}
use Rattle.node_model.specs.Deciding.{all_sent, is_held_up, may_order, orders_sent}
use Rattle.node_model.specs.Entries.{keeping, telling}
use Rattle.node_model.specs.Plans.{Plan}
use Rattle.node_model.specs.Plans.Plan.{Stays, Says}
use Rattle.node_model.specs.Presidents.{acknowledging, acting, answer_given, answered_by, answering_first, arriving, committing, kept_again, last_place, one_turn, orders_for, others_of, own_line, proposed_by, proposing_so, second_of, sent_to, taken_up, tidied, with_own, with_pending, with_proposals}
use Rattle.node_model.specs.Seats.{record_of, session_of, version_of}

-- the first request is answered, if there is one ..
abbrev pub giving_at : ℕ → UpNode → Presidency → Answer → Option Arrived → Plan
giving_at me x p told None = Stays x
giving_at me x p told (Some a) = Says (answer_given me x a told) (Stays (answered_by me x p a told))

abbrev pub giving_by : ℕ → UpNode → Answer → Option Presidency → Plan
giving_by me x told None = Stays x
giving_by me x told (Some p) = giving_at me x p told (first_in p.proposals.arrived)

-- .. which leaves these requests here, and these that have come, and is told so
abbrev pub requests_after : ℕ → Queue → Option Arrived → Queue
requests_after me q None = q
requests_after me q (Some a) = if a.from == me then queue.answered q a.number else q

abbrev pub proposals_after : ℕ → Queue → State → Answer → Option Arrived → State
proposals_after me q s told None = s
proposals_after me q s told (Some a) =
    if a.from == me then with_own me (arrivals.answered s (reply_text told)) (oldest (queue.answered q a.number)) else arrivals.answered s (reply_text told)

abbrev pub answer_lines : ℕ → ℕ → Queue → Answer → Option Arrived → List Output
answer_lines me e q told None = []
answer_lines me e q told (Some a) =
    if a.from == me then own_line me told (found q.waiting a.number) else Sends a.from (body.Answer e a.number (reply_text told)) ∷ []

-- .. and then the president decides
abbrev pub answering_at : Cluster → ℕ → UpNode → Presidency → Answer → Option Arrived → Plan
answering_at c me x p told None = Stays x
answering_at c me x p told (Some a) = answering_first c me x p a told

abbrev pub answering_by : Cluster → ℕ → UpNode → Answer → Option Presidency → Plan
answering_by c me x told None = Stays x
answering_by c me x told (Some p) = answering_at c me x p told (first_in p.proposals.arrived)

-- whether there is one
abbrev pub has_first : Option Presidency → Bool
has_first None = false
has_first (Some p) = is_held_up p

-- these members are to prepare an update at this place
abbrev pub asked_of : UpNode → ℕ → ℕ → Option Presidency → UpNode
asked_of x place others None = x
asked_of x place others (Some p) = with_proposals x p (proposing p.proposals place others)

-- an update is proposed
abbrev pub proposing_by : Cluster → ℕ → UpNode → List ℕ → Option Presidency → Plan
proposing_by c me x text None = Stays x
proposing_by c me x text (Some p) = proposing_so c me x text (proposed_by c me x p text)

-- what the first request asks for is done
abbrev pub acting_at : Cluster → ℕ → UpNode → Presidency → Ask → Option Arrived → Plan
acting_at c me x p ask None = Stays x
acting_at c me x p ask (Some a) = acting c me x p a ask

abbrev pub acting_by : Cluster → ℕ → UpNode → Ask → Option Presidency → Plan
acting_by c me x ask None = Stays x
acting_by c me x ask (Some p) = acting_at c me x p ask (first_in p.proposals.arrived)

-- .. it is taken up, and its order sent ..
abbrev pub acts_on : Presidency → Option Arrived → Bool
acts_on p None = false
acts_on p (Some a) = may_order p.groups

abbrev pub asked_so : ConfigState → ℕ → Queue → ℕ → Ask → Presidency → Arrived → Presidency
asked_so s me q now ask p a = record p {
  groups = with_ask s a.from ask (if a.from == me then second_of (found q.waiting a.number) now else now) p.groups;
  sent = all_sent me p.sent (orders_for p.groups ask);
}

abbrev pub asked_under : ConfigState → ℕ → Queue → ℕ → Ask → Presidency → Option Arrived → Presidency
asked_under s me q now ask p None = p
asked_under s me q now ask p (Some a) = if may_order p.groups then asked_so s me q now ask p a else p

abbrev pub asked_lines : ℕ → Ask → Presidency → Option Arrived → List Output
asked_lines me ask p None = []
asked_lines me ask p (Some a) = if may_order p.groups then orders_sent me (orders_for p.groups ask) else []

abbrev pub acts_by : Option Presidency → Bool
acts_by None = false
acts_by (Some p) = acts_on p (first_in p.proposals.arrived)

abbrev pub asked_of_first : Cluster → ℕ → UpNode → Ask → Presidency → UpNode
asked_of_first c me x ask p =
    record x { presidency = Some (asked_under (in_force c x) me x.requests x.second ask p (first_in p.proposals.arrived)) }

abbrev pub asking_by : Cluster → ℕ → UpNode → Ask → Option Presidency → Plan
asking_by c me x ask None = Stays x
asking_by c me x ask (Some p) = Says (asked_lines me ask p (first_in p.proposals.arrived)) (Stays (asked_of_first c me x ask p))

-- the node of a clear
abbrev pub cleared_at : Ask → Option ℕ
cleared_at (Clear r n) = Some n
cleared_at (Restart r) = None
cleared_at (Move r) = None
cleared_at (Remaster g) = None
cleared_at (Evacuate n) = None

-- where a clear is asked for, the node has no order
abbrev pub HasRoomBy : Option Presidency → Ask → Type 0
HasRoomBy None ask = Unit {0}
HasRoomBy (Some p) ask = HasRoom p.groups ask

-- what is told of a save, of an update that is proposed, and of one that is acknowledged
abbrev pub saved_line : ℕ → Output
saved_line me = Tells (entry.Node me Saved)

abbrev pub proposed_line : ℕ → ℕ → List ℕ → Output
proposed_line e place text = Tells (entry.Update (update.Proposed e place text))

abbrev pub acknowledged_line : ℕ → ℕ → List ℕ → Output
acknowledged_line e place text = Tells (entry.Update (update.Acknowledged e place text))

-- the president takes up what these words change
abbrev pub taken_under : ConfigState → Cluster → List ℕ → Presidency → Presidency
taken_under s c text p = taken_up s p (command_of (version_of c) text)

unfoldable pub taking_up : Cluster → UpNode → List ℕ → UpNode
taking_up c x text = record x { presidency = option_map (taken_under (in_force c x) c text) x.presidency }

-- what is pending is committed and saved, and only then told; the president takes it up, and the first request is answered last
abbrev pub acknowledging_then : Cluster → ℕ → UpNode → List ℕ → Plan
acknowledging_then c me x text =
    keeping me (committing x)
    (telling (entry.Update (update.Acknowledged (session_of x) (last_place x) text))
    (Says (sent_to (others_of me x) (body.Commit (session_of x) (last_place x)))
    (answering_by c me (taking_up c (committing x) text) answer.Ok (option_map (taken_under (in_force c (committing x)) c text) x.presidency))))

-- the update of these words is told as acknowledged, and the other members are told that it is committed; the president takes it up, and
-- the first request is answered last
unfoldable pub announcing : Cluster → ℕ → UpNode → ℕ → ℕ → ℕ → List ℕ → Plan
announcing c me y epoch place others text =
    Says (acknowledged_line epoch place text ∷ []) (Says (sent_to others (body.Commit epoch place)) (answering_by c me (taking_up c y text) answer.Ok (taking_up c y text).presidency))

-- what is pending, where it may be acknowledged
abbrev pub pending_at : Option Arrived → Option (List ℕ) → Option (List ℕ)
pending_at None text = None
pending_at (Some a) text = text

abbrev pub pending_by : UpNode → Option Presidency → Option (List ℕ)
pending_by x None = None
pending_by x (Some p) = pending_at (first_in p.proposals.arrived) (record_of x).entries.pending

-- by these names the plans are not looked into
unfoldable pub committed_then : Cluster → ℕ → UpNode → List ℕ → Plan
committed_then c me x text = acknowledging_then c me x text

unfoldable pub acknowledgement : Cluster → ℕ → UpNode → Plan
acknowledgement c me x = acknowledging c me x

unfoldable pub proposal : Cluster → ℕ → UpNode → List ℕ → Option Presidency → Plan
proposal c me x text presidency = proposing_by c me x text presidency

unfoldable pub turn : Cluster → ℕ → UpNode → Plan
turn c me x = one_turn c me x

-- the update in these words is pending, and of what it deletes nothing is kept
unfoldable pub holding_next : Cluster → UpNode → List ℕ → UpNode
holding_next c x text = tidied c (with_pending x text)

-- a request comes to the node
abbrev pub arriving_by : Cluster → ℕ → UpNode → Arrived → Option Presidency → Plan
arriving_by c me x a None = Stays x
arriving_by c me x a (Some p) = arriving c me x p a

-- .. to a president it is this, and to another node it is past
abbrev pub arrival_by : Arrived → Option Presidency → Arrival
arrival_by a None = Past
arrival_by a (Some p) = arrival_of p.proposals a.from a.number

abbrev pub come_to : UpNode → Arrived → Option Presidency → UpNode
come_to x a None = x
come_to x a (Some p) = with_proposals x p (with_arrival p.proposals a (arrival_of p.proposals a.from a.number))

abbrev pub is_new : Arrival → Bool
is_new New = true
is_new Waits = false
is_new Answered = false
is_new Past = false

-- the last answer to a node goes to it again
abbrev pub answer_again_by : UpNode → ℕ → Option Presidency → Plan
answer_again_by x from None = Stays x
answer_again_by x from (Some p) = kept_again x from (kept_at p.proposals.answers from)

-- what the node, which it has come to so, gives for a request that is this
abbrev pub receiving : Arrived → UpNode → Arrival → Plan
receiving a y New = Stays y
receiving a y Waits = Stays y
receiving a y Answered = answer_again_by y a.from y.presidency
receiving a y Past = Stays y
