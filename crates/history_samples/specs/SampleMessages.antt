-- Two nodes and no device: node 1 installs membership 65 on node 2 and starts it, and an update is prepared. The bytes of messages are left
-- out where they do not matter.
use Rattle.std.specs.Prelude.{ℕ, List, [], ◌∷◌, ◌+◌, zero, suc}
use Rattle.schedule_text.specs.declared.event.Event.TheVariants as event
use Rattle.history_samples.specs.SampleNames as name
use Rattle.cl_base.specs.declared.packet.DropCause.TheVariants as drop_cause
use Rattle.history.specs.Moment.{Moment, Part}
use Rattle.history.specs.Trace.{up, ticked, saved, installed, member, sent, delivered, lost, repeated, dropped, attempt, start, propose, ack, rounds, rounds_done}
use Rattle.history_samples.specs.SampleOneNode.{line_of}
use Rattle.history_samples.specs.SampleAmnesia.{create_group}

abbrev pub begun : List Moment
begun = attempt 65 3 ∷ saved 1 ∷ ticked 1 ∷ line_of (event.Tick 1) ∷ up 2 ∷ line_of (event.Boot 2) ∷ up 1 ∷ line_of (event.Boot 1) ∷ []

abbrev pub installing : List Moment
installing = sent 1 1 2 name.Install [] ∷ installed 1 65 ∷ saved 1 ∷ begun

abbrev pub ready : List Moment
ready =
    delivered 2 2 1
    ∷ line_of (event.Next 2 1)
    ∷ sent 2 2 1 name.Ready []
    ∷ installed 2 65
    ∷ saved 2
    ∷ delivered 1 1 2
    ∷ line_of (event.Next 1 2)
    ∷ installing

abbrev pub started : List Moment
started = sent 3 1 2 name.Start [] ∷ member 1 65 ∷ start 65 3 0 0 ∷ saved 1 ∷ ready

abbrev pub formed : List Moment
formed = member 2 65 ∷ saved 2 ∷ delivered 3 1 2 ∷ line_of (event.Next 1 2) ∷ started

abbrev pub preparing : List Moment
preparing = sent 4 1 2 (name.Prepare 1) [] ∷ saved 1 ∷ propose 65 1 create_group ∷ formed

abbrev pub prepared : List Moment
prepared =
    delivered 5 2 1
    ∷ line_of (event.Next 2 1)
    ∷ sent 5 2 1 (name.Prepared 1) []
    ∷ saved 2
    ∷ delivered 4 1 2
    ∷ line_of (event.Next 1 2)
    ∷ preparing

abbrev pub acknowledged : List Moment
acknowledged = ack 65 1 create_group ∷ saved 1 ∷ prepared

-- ---- what may not be, of packets

abbrev pub delivered_twice : List Moment
delivered_twice = delivered 3 1 2 ∷ formed

abbrev pub delivered_elsewhere : List Moment
delivered_elsewhere = delivered 3 2 1 ∷ started

abbrev pub number_left_out : List Moment
number_left_out = sent 5 1 2 name.Start [] ∷ started

abbrev pub copied_under_its_own_number : List Moment
copied_under_its_own_number = repeated 3 3 ∷ started

abbrev pub dropped_with_room : List Moment
dropped_with_room = dropped 3 drop_cause.Link ∷ started

-- a link with 64 packets, and one more, which drops the oldest
abbrev pub packets_to : ℕ → List Moment
packets_to zero = []
packets_to (suc k) = sent (k + 1) 1 2 name.Start [] ∷ packets_to k

abbrev pub crowded : List Moment
crowded = lost 65 ∷ packets_to 65

abbrev pub crowded_and_dropped : List Moment
crowded_and_dropped = lost 65 ∷ dropped 1 drop_cause.Link ∷ packets_to 65

-- a pool of one cell, which the first packet takes: the second is dropped
abbrev pub two_sent : List Moment
two_sent = sent 2 1 2 name.Start [] ∷ sent 1 1 2 name.Start [] ∷ []

abbrev pub out_of_cells : List Moment
out_of_cells = lost 1 ∷ two_sent

abbrev pub out_of_cells_and_dropped : List Moment
out_of_cells_and_dropped = lost 1 ∷ dropped 2 drop_cause.Pool ∷ two_sent

-- ---- of contact

-- the start does not wait for the Ready, or the Ready was sent before the Install came
abbrev pub started_without_ready : List Moment
started_without_ready = start 65 3 0 0 ∷ installing

abbrev pub ready_before_install : List Moment
ready_before_install =
    start 65 3 0 0
    ∷ delivered 1 1 2
    ∷ delivered 2 2 1
    ∷ sent 2 2 1 name.Ready []
    ∷ installing

-- node 2 is a member before a Start came, or by one that was sent before the start
abbrev pub member_untold : List Moment
member_untold = member 2 65 ∷ started

abbrev pub member_told_too_early : List Moment
member_told_too_early = member 2 65 ∷ start 65 3 0 0 ∷ delivered 3 1 2 ∷ sent 3 1 2 name.Start [] ∷ ready

-- an acknowledgement without Prepared
abbrev pub acked_unprepared : List Moment
acked_unprepared = ack 65 1 create_group ∷ preparing

-- ---- of rounds

-- one round of both, in which a packet is on its way
abbrev pub round_begun : List Moment
round_begun = rounds 1 3 ∷ sent 1 1 2 name.Start [] ∷ up 2 ∷ up 1 ∷ []

abbrev pub round_done : List Moment
round_done =
    rounds_done
    ∷ ticked 2
    ∷ Part (event.Tick 2)
    ∷ ticked 1
    ∷ Part (event.Tick 1)
    ∷ delivered 1 1 2
    ∷ Part (event.Deliver 1)
    ∷ round_begun

abbrev pub round_without_delivery : List Moment
round_without_delivery = Part (event.Tick 1) ∷ round_begun

abbrev pub round_cut_short : List Moment
round_cut_short = rounds_done ∷ delivered 1 1 2 ∷ Part (event.Deliver 1) ∷ round_begun

abbrev pub line_in_a_round : List Moment
line_in_a_round = line_of (event.Tick 1) ∷ round_begun
