-- Causes that stand in the trace, and the same without them: Nacks, what was promised, notices, writes, memberships that broke.
use Rattle.std.specs.Prelude.{ℕ, zero, suc, true, false, List, [], ◌∷◌, ◌++◌, replicate}
use Rattle.cl_base.specs.declared.header.Header.{Header}
use Rattle.cl_base.specs.declared.header.Version.TheVariants.{One}
use Rattle.cl_base.specs.declared.panic.Panic.TheVariants as panic
use Rattle.pgr_device.specs.declared.command.PrCommand.TheVariants as command
use Rattle.pgr_device.specs.declared.command.PrAnswer.TheVariants as answer
use Rattle.pgr_device.specs.declared.kind.PrKind.TheVariants.{WriteExclusiveRegistrantsOnly}
use Rattle.quorum_votes.specs.Tables.{VoteTable}
use Rattle.quorum_votes.specs.declared.state.NodeState.TheVariants.{Maintenance, Voting, Unconfigured}
use Rattle.schedule_text.specs.declared.event.Event.TheVariants as event
use Rattle.status_report.specs.declared.node_entry.DownCause.TheVariants as cause
use Rattle.status_report.specs.declared.device_entry.DeviceAnswer.TheVariants.{Given, Failed}
use Rattle.status_report.specs.declared.device_entry.WriteRefusal.TheVariants as refusal
use Rattle.history.specs.Moment.{Moment}
use Rattle.history_samples.specs.SampleNames as name
use Rattle.history.specs.Trace.{up, down, ticked, saved, installed, member, sent, delivered, device, accepted, refused, attempt, ended_votes, ended_superseded, ended_excluded, start, armed, fault}
use Rattle.history.specs.Setting.{Setting}
use Rattle.history_samples.specs.SampleOneNode.{line_of, key_1}
use Rattle.history_samples.specs.SampleSplit as split
use Rattle.history_samples.specs.SampleSplit.{pair, key_2}
use Rattle.history_samples.specs.SampleContents.{bare, long, letter, none, only, promise, heartbeat}
use Rattle.history_samples.specs.SampleAnswers.{booted, ticks, asked_node_2, excluded_rightly}

-- ---- what was promised: at first node 2 has no vote, and with the first update it has one in the place of node 3

abbrev pub three_nodes : Header
three_nodes = record { version = One; cluster = 42; nodes = 3; configured = 7; devices = [] }

abbrev pub votes_after : List (List ℕ) → VoteTable
votes_after [] = record { nodes = Voting ∷ Maintenance ∷ Voting ∷ replicate 29 Unconfigured; devices = [] }
votes_after (words ∷ later) = record { nodes = Voting ∷ Voting ∷ Maintenance ∷ replicate 29 Unconfigured; devices = [] }

abbrev pub moving : Setting
moving = record bare { header = three_nodes; votes = votes_after }

abbrev pub short_with : List ℕ → List Moment
short_with texts =
    ended_votes 129 1 2 []
    ∷ delivered 2 2 1
    ∷ line_of (event.Next 2 1)
    ∷ sent 2 2 1 name.Promise (promise 2 129 1 texts)
    ∷ saved 2
    ∷ delivered 1 1 2
    ∷ line_of (event.Next 1 2)
    ∷ sent 1 1 2 name.Collect []
    ∷ attempt 129 3
    ∷ up 2
    ∷ booted

abbrev pub short_without_update : List Moment
short_without_update = short_with none

-- node 2 shows the update, with which the votes are enough
abbrev pub short_with_update : List Moment
short_with_update = short_with (only (letter 103))

-- ---- a Nack

abbrev pub nacked : ℕ → ℕ → List Moment → List Moment
nacked e q before = delivered 2 2 1 ∷ line_of (event.Next 2 1) ∷ sent 2 2 1 name.Nack (4 ∷ 2 ∷ long e ++ long q) ∷ before

abbrev pub superseded_by_a_nack : List Moment
superseded_by_a_nack = ended_superseded 65 130 ∷ nacked 65 130 (attempt 130 2 ∷ asked_node_2)

-- it is of another attempt, or shows another number, or one that nobody tried
abbrev pub nacked_for_another : List Moment
nacked_for_another = ended_superseded 65 130 ∷ nacked 1 130 (attempt 130 2 ∷ asked_node_2)

abbrev pub nacked_by_another : List Moment
nacked_by_another = ended_superseded 65 130 ∷ nacked 65 194 (attempt 130 2 ∷ asked_node_2)

abbrev pub nacked_by_nothing : List Moment
nacked_by_nothing = ended_superseded 65 130 ∷ nacked 65 130 asked_node_2

-- node 2 promised 65 before it went down, or did not go down
abbrev pub superseded_by_its_own : List Moment
superseded_by_its_own = ended_superseded 65 65 ∷ nacked 65 65 (up 2 ∷ line_of (event.Boot 2) ∷ asked_node_2)

abbrev pub nacked_by_its_own : List Moment
nacked_by_its_own = ended_superseded 65 65 ∷ nacked 65 65 asked_node_2

-- ---- a notice

abbrev pub notice : ℕ → List Moment → List Moment
notice newest before = delivered 3 1 2 ∷ line_of (event.Next 1 2) ∷ sent 3 1 2 name.Excluded (18 ∷ 1 ∷ long 193 ++ long newest) ∷ before

abbrev pub excluded_by_notice : List Moment
excluded_by_notice = down 2 (cause.Panic (panic.Excluded 129)) ∷ notice 129 excluded_rightly

-- the same, where node 2 has installed this number
abbrev pub excluded_after : ℕ → List Moment
excluded_after e =
    ended_excluded 193 2
    ∷ delivered 2 2 1
    ∷ line_of (event.Next 2 1)
    ∷ sent 2 2 1 name.Promise []
    ∷ delivered 1 1 2
    ∷ line_of (event.Next 1 2)
    ∷ sent 1 1 2 name.Collect []
    ∷ attempt 193 3
    ∷ attempt 129 1
    ∷ installed 2 e
    ∷ up 2
    ∷ booted

-- it was sent in another event, or names another attempt
abbrev pub noticed_later : List Moment
noticed_later = down 2 (cause.Panic (panic.Excluded 129)) ∷ notice 129 (ticked 1 ∷ line_of (event.Tick 1) ∷ excluded_rightly)

abbrev pub noticed_another : List Moment
noticed_another = down 2 (cause.Panic (panic.Excluded 193)) ∷ notice 193 excluded_rightly

-- node 2 has installed a greater number than that of the attempt that is named
abbrev pub noticed_old : List Moment
noticed_old = down 2 (cause.Panic (panic.Excluded 129)) ∷ notice 129 (excluded_after 130)

-- ---- writes of a node that joins: its `ignore` failed, or the word that it read then was another

abbrev pub ignored_in_vain : List Moment
ignored_in_vain = device 2 1 (command.Ignore key_2) Failed ∷ armed ∷ fault 2 1 false ∷ split.together

abbrev pub read_late : List Moment
read_late = device 2 1 command.Word (Given (answer.Word 129)) ∷ split.together

abbrev pub not_held : List Moment → List Moment
not_held before = refused 2 1 5 refusal.NotHeld ∷ line_of (event.Write 2 1 5) ∷ before

abbrev pub written : List Moment → List Moment
written before = accepted 65 2 1 5 ∷ device 2 1 (command.Write 5) (Given answer.Good) ∷ line_of (event.Write 2 1 5) ∷ before

-- a write of the node that is left out, of which the answer is lost: it was done, or not
abbrev pub lost_while_left_out : List Moment
lost_while_left_out = device 2 1 (command.Write 5) Failed ∷ line_of (event.Write 2 1 5) ∷ armed ∷ fault 2 1 true ∷ member 1 129 ∷ split.started_too_early

abbrev pub undone_while_left_out : List Moment
undone_while_left_out = device 2 1 (command.Write 5) Failed ∷ line_of (event.Write 2 1 5) ∷ armed ∷ fault 2 1 false ∷ member 1 129 ∷ split.started_too_early

-- ---- why an attempt begins: the other member has another session, or the same

abbrev pub attempt_after : List ℕ → List Moment
attempt_after bytes = attempt 129 3 ∷ ticked 1 ∷ line_of (event.Tick 1) ∷ delivered 1 2 1 ∷ sent 1 2 1 name.Heartbeat bytes ∷ split.together

abbrev pub attempt_of_the_broken : List Moment
attempt_of_the_broken = attempt_after (heartbeat 2 0 0)

abbrev pub attempt_of_the_whole : List Moment
attempt_of_the_whole = attempt_after (heartbeat 2 65 1)

-- node 2 was heard three ticks ago, or four
abbrev pub heard_before : ℕ → List Moment
heard_before k = attempt 65 3 ∷ ticks k (delivered 1 2 1 ∷ sent 1 2 1 name.Heartbeat [] ∷ up 2 ∷ booted)

-- ---- why a start does not hold a device

abbrev pub not_held_for_a_word : ℕ → List Moment
not_held_for_a_word w = start 65 3 0 0 ∷ device 1 1 command.Word (Given (answer.Word w)) ∷ attempt 65 3 ∷ booted

abbrev pub stranger_read : ℕ → List Moment
stranger_read zero = device 1 1 (command.Reserve WriteExclusiveRegistrantsOnly key_1) (Given answer.Good) ∷ attempt 65 3 ∷ booted
stranger_read (suc k) = device 1 1 command.Keys (Given (answer.Keys (7 ∷ key_1 ∷ []))) ∷ stranger_read k

abbrev pub not_held_after : ℕ → List Moment
not_held_after k = start 65 3 0 0 ∷ stranger_read k
