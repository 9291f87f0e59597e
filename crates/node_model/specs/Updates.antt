-- What members and their president do for an update: it is prepared by each, and committed.
use Rattle.std.specs.Prelude.{ℕ, ◌+◌, ◌==◌, ◌&&◌, Bool, List, [], ◌∷◌, length, Option, None, Some, is_some, if◌then◌else◌}
use Rattle.ccr_commit.specs.Entries.{all_committed, answer_for, left_by, texts_of}
use Rattle.ccr_commit.specs.declared.entries.Prepared.{Prepared}
use Rattle.ccr_commit.specs.declared.entries.Prepared.TheVariants.{Taken, Already, Gap}
use Rattle.cl_base.specs.Sets.{has}
use Rattle.cmm_member.specs.Nodes.{NodeState, with_entries}
use Rattle.proposals.specs.Proposing.{goes_again, is_prepared, prepared_by, ticked}
use Rattle.proposals.specs.declared.arrived.Proposed.{Proposed}
use Rattle.request_queue.specs.Queue as queue
use Rattle.request_queue.specs.Queue.{Queue, oldest}
use Rattle.request_queue.specs.declared.request.Request.{Request}
use Rattle.sent_orders.specs.Ticks as sent
use Rattle.wire.specs.declared.message.Body.TheVariants as body
use Rattle.node_model.specs.declared.cluster.Cluster.{Cluster}
use Rattle.node_model.specs.declared.node.UpNode.{UpNode}
use Rattle.node_model.specs.declared.output.Output.{Output}
use Rattle.node_model.specs.declared.output.Output.TheVariants.{Sends}
use Rattle.node_model.specs.declared.presidency.Presidency.{Presidency}
use Rattle.node_model.specs.declared.seat.Seat.{Seat}
use Rattle.node_model.specs.declared.seat.Seat.TheVariants.{Forming, Member}
use Rattle.node_model.specs.Entries.{answering, keeping}
use Rattle.node_model.specs.Plans.{Plan, and_then}
use Rattle.node_model.specs.Plans.Plan.{Stays}
use Rattle.node_model.specs.Presidents.{acknowledging, arriving, handling, sent_to, tidied, with_proposals}
use Rattle.node_model.specs.Seats.{coordinator_of, is_in, is_member, record_of, session_of}

-- A member of its membership asks the president.

abbrev pub requested : Cluster → ℕ → UpNode → ℕ → ℕ → List ℕ → Option Presidency → Plan
requested c me x from number text None = Stays x
requested c me x from number text (Some p) = arriving c me x p (record { from = from; number = number; text = text })

abbrev pub is_of_member : UpNode → ℕ → ℕ → Bool
is_of_member x from e = is_member x.seat && is_in x e && has (record_of x).members from

abbrev pub on_asked : Cluster → ℕ → UpNode → ℕ → ℕ → ℕ → List ℕ → Plan
on_asked c me x from e number text = if is_of_member x from e then requested c me x from number text x.presidency else Stays x

-- Prepare: a member saves the update as pending and says so; of what it deletes nothing is kept. What it has already it says again.

abbrev pub prepared_so : Cluster → UpNode → NodeState → List ℕ → UpNode
prepared_so c x s text = tidied c (record x { seat = Member (with_entries s (left_by Taken s.saved.entries text)) })

abbrev pub preparing : Cluster → ℕ → UpNode → ℕ → ℕ → ℕ → NodeState → List ℕ → Prepared → Plan
preparing c me x from e place s text Taken = keeping me (prepared_so c x s text) (answering from (body.Prepared e place) (prepared_so c x s text))
preparing c me x from e place s text Already = answering from (body.Prepared e place) x
preparing c me x from e place s text (Gap k) = Stays x

abbrev pub on_prepare_as : Cluster → ℕ → UpNode → ℕ → ℕ → ℕ → List ℕ → Seat → Plan
on_prepare_as c me x from e place text (Forming s) = Stays x
on_prepare_as c me x from e place text (Member s) =
    if is_in x e then preparing c me x from e place s text (answer_for (length (texts_of s.saved.entries)) place) else Stays x

-- Prepared: with the last one the president acknowledges, and goes on with what waits.

abbrev pub prepared_all : Cluster → ℕ → UpNode → Presidency → Plan
prepared_all c me x p = if is_prepared p.proposals then and_then (acknowledging c me x) (handling c me) else Stays x

abbrev pub prepared_at : Cluster → ℕ → UpNode → ℕ → ℕ → Option Presidency → Plan
prepared_at c me x from place None = Stays x
prepared_at c me x from place (Some p) =
    prepared_all c me (with_proposals x p (prepared_by p.proposals from place)) (record p { proposals = prepared_by p.proposals from place })

abbrev pub on_prepared : Cluster → ℕ → UpNode → ℕ → ℕ → ℕ → Plan
on_prepared c me x from e place = if is_of_member x from e then prepared_at c me x from place x.presidency else Stays x

-- Commit: what is pending at this place is committed and saved.

abbrev pub commits_now : NodeState → ℕ → Bool
commits_now s place = is_some s.saved.entries.pending && (place == length s.saved.entries.committed + 1)

abbrev pub committed_so : UpNode → NodeState → UpNode
committed_so x s = record x { seat = Member (with_entries s (all_committed s.saved.entries)) }

abbrev pub on_commit_as : ℕ → UpNode → ℕ → ℕ → Seat → Plan
on_commit_as me x e place (Forming s) = Stays x
on_commit_as me x e place (Member s) =
    if is_in x e && commits_now s place then keeping me (committed_so x s) (Stays (committed_so x s)) else Stays x

-- At a tick what is not answered goes again: the oldest request to another president, and the Prepares to the members that are missing.

abbrev pub request_again_to : UpNode → Option Request → Option ℕ → List Output
request_again_to x (Some r) (Some president) = Sends president (body.Request (session_of x) r.number r.text) ∷ []
request_again_to x None president = []
request_again_to x (Some r) None = []

abbrev pub request_again_by : UpNode → Option Presidency → List Output
request_again_by x None = if queue.goes_again x.requests then request_again_to x (oldest x.requests) (coordinator_of x) else []
request_again_by x (Some p) = []

abbrev pub request_again : UpNode → List Output
request_again x = request_again_by x x.presidency

abbrev pub prepares_of : UpNode → Option Proposed → Option (List ℕ) → List Output
prepares_of x (Some p) (Some text) = sent_to p.missing (body.Prepare (session_of x) p.place text)
prepares_of x None text = []
prepares_of x (Some p) None = []

abbrev pub prepares_again_by : UpNode → Option Presidency → List Output
prepares_again_by x None = []
prepares_again_by x (Some p) = if goes_again p.proposals then prepares_of x p.proposals.proposed (record_of x).entries.pending else []

abbrev pub prepares_again : UpNode → List Output
prepares_again x = prepares_again_by x x.presidency

abbrev pub later_presidency : Option Presidency → Option Presidency
later_presidency None = None
later_presidency (Some p) = Some (record p { proposals = ticked p.proposals; sent = sent.ticked p.sent })

-- a tick later
abbrev pub with_later : UpNode → UpNode
with_later x = record x { requests = queue.ticked x.requests; presidency = later_presidency x.presidency }
