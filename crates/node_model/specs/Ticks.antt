-- What a node does at a tick, and at its boot.
use Rattle.std.specs.Prelude.{ℕ, ◌-◌, ◌&&◌, nat_le, List, ◌++◌, map, Option, None, Some, if◌then◌else◌}
use Rattle.cl_base.specs.Limits.{most_nodes}
use Rattle.cl_base.specs.Numbers.{numbers_to}
use Rattle.cl_base.specs.Sets.{has}
use Rattle.cl_base.specs.declared.method.Outcome.{Outcome}
use Rattle.cmm_attempt.specs.Attempts.{AttemptState, ticking}
use Rattle.heartbeats.specs.declared.due.Membership.{Membership}
use Rattle.heartbeats.specs.Due.{begins}
use Rattle.heartbeats.specs.Views.{receivers_of, ticked}
use Rattle.status_report.specs.declared.node_entry.NodeEntry.TheVariants as node
use Rattle.wire.specs.declared.message.Body.{Body}
use Rattle.wire.specs.declared.message.Body.TheVariants as body
use Rattle.node_model.specs.declared.cluster.Cluster.{Cluster}
use Rattle.node_model.specs.declared.node.UpNode.{UpNode}
use Rattle.node_model.specs.declared.output.Output.{Output}
use Rattle.node_model.specs.declared.output.Output.TheVariants.{Sends}
use Rattle.node_model.specs.declared.seat.Seat.{Seat}
use Rattle.node_model.specs.declared.seat.Seat.TheVariants.{Forming, Member}
use Rattle.node_model.specs.Attempts.{going_on, leading, may_count_on}
use Rattle.node_model.specs.Configurations.{configured_at}
use Rattle.node_model.specs.Deciding.{deciding}
use Rattle.node_model.specs.Entries.{telling_of}
use Rattle.node_model.specs.Groups.{orders_again, own_order, own_turn}
use Rattle.node_model.specs.Plans.{Plan, and_then}
use Rattle.node_model.specs.Plans.Plan.{Stays, Says}
use Rattle.node_model.specs.Seats.{is_member, promised_of, session_of}
use Rattle.node_model.specs.Updates.{prepares_again, request_again, with_later}

abbrev pub membership_of : Seat → Option Membership
membership_of (Forming s) = None
membership_of (Member s) = Some (record { epoch = s.session; members = s.saved.members })

abbrev pub heartbeat_of : UpNode → Body
heartbeat_of x = body.Heartbeat (promised_of x) (session_of x) (is_member x.seat)

-- to each receiver, ascending
unfoldable pub heartbeats_to : UpNode → ℕ → List Output
heartbeats_to x receivers = map (λ n. Sends n (heartbeat_of x)) (numbers_to receivers most_nodes)

-- the members of the attempt that the node is to begin where none is under way and it does not wait: its view, if one is to begin
abbrev pub to_form_in : Cluster → ℕ → UpNode → Option ℕ → Option ℕ
to_form_in c me x None = None
to_form_in c me x (Some view) = if may_count_on x.greatest && begins x.beats (configured_at c x) (membership_of x.seat) && has view me then Some view else None

abbrev pub members_to_form : Cluster → ℕ → UpNode → Option ℕ
members_to_form c me x = to_form_in c me x x.beats.view

abbrev pub forming : Cluster → ℕ → UpNode → Option ℕ → Plan
forming c me x None = Stays x
forming c me x (Some members) = leading c me x members

abbrev pub waiting_less : UpNode → UpNode
waiting_less x = record x { beats = record x.beats { wait = x.beats.wait - 1 } }

-- The attempt goes on; or the node waits; or it begins an attempt, or does not.
abbrev pub attempt_ticked : Cluster → ℕ → UpNode → Option AttemptState → Plan
attempt_ticked c me x (Some a) = going_on c me x (ticking a)
attempt_ticked c me x None =
    if nat_le 1 x.beats.wait then Stays (waiting_less x)
    else forming c me (waiting_less x) (members_to_form c me (waiting_less x))

abbrev pub later : Cluster → UpNode → UpNode
later c x = with_later (record x { beats = ticked x.beats (configured_at c x) })

-- What goes at a tick: heartbeats, and again a request that is not answered; whether it is due is read off the node before the tick.
abbrev pub ticked_output : Cluster → UpNode → UpNode → List Output
ticked_output c before x = heartbeats_to x (receivers_of x.beats (configured_at c x)) ++ request_again before

-- A president goes on: its own order is carried out, what is not answered goes again, and it decides.

abbrev pub again_output : UpNode → UpNode → List Output
again_output before x = prepares_again before ++ orders_again before x

abbrev pub going_again : Cluster → ℕ → UpNode → UpNode → Plan
going_again c me before x = Says (again_output before x) (deciding c me x)

abbrev pub governing : Cluster → ℕ → Outcome → UpNode → UpNode → Plan
governing c me outcome before x = and_then (own_turn c me outcome x (own_order me x)) (going_again c me before)

abbrev pub beating : Cluster → ℕ → Outcome → UpNode → UpNode → Plan
beating c me outcome before x = Says (ticked_output c before x) (and_then (governing c me outcome before x) (λ y. attempt_ticked c me y y.attempt))

abbrev pub on_tick : Cluster → ℕ → Outcome → UpNode → Plan
on_tick c me outcome x = telling_of me node.Ticked (beating c me outcome x (later c x))
