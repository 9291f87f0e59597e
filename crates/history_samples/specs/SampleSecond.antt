-- Schedules of the second version: nodes that the header does not configure, servers, clients.
use Rattle.std.specs.Prelude.{ℕ, List, [], ◌∷◌, replicate, Some}
use Rattle.cl_base.specs.declared.header.Header.{Header}
use Rattle.cl_base.specs.declared.header.DeviceKind.TheVariants.{Quorum, Server}
use Rattle.cl_base.specs.declared.header.Version.TheVariants.{Two}
use Rattle.quorum_votes.specs.Tables.{VoteTable}
use Rattle.quorum_votes.specs.declared.state.NodeState.TheVariants.{Voting, Unconfigured}
use Rattle.schedule_text.specs.declared.event.Event.TheVariants as event
use Rattle.status_report.specs.declared.device_entry.WriteRefusal.TheVariants as refusal
use Rattle.status_report.specs.declared.schedule_entry.SkipCause.TheVariants as skip
use Rattle.history.specs.Moment.{Moment}
use Rattle.history_samples.specs.SampleAmnesia.{create_group}
use Rattle.history_samples.specs.SampleNames as name
use Rattle.history.specs.Trace.{up, ticked, saved, sent, delivered, refused, attempt, member, propose, ack, ended_foreign, skipped, served}
use Rattle.history.specs.Setting.{Setting}
use Rattle.history_samples.specs.SampleOneNode.{line_of}
use Rattle.history_samples.specs.SampleSplit as split
use Rattle.history_samples.specs.SampleSplit.{pair, two_nodes}
use Rattle.history_samples.specs.SampleMessages as messages
use Rattle.history_samples.specs.SampleContents.{none, promise}
use Rattle.history_samples.specs.SampleAnswers.{booted}

-- `nodes 2`, `configured 1`, `device 1 quorum 1 2`
abbrev pub one_of_two : Header
one_of_two = record { version = Two; cluster = 42; nodes = 2; configured = 1; devices = record { kind = Quorum; attached = 3 } ∷ [] }

-- node 1 alone is configured, whatever the updates
abbrev pub growing : Setting
growing = record pair { header = record one_of_two { devices = [] }; votes = λ updates. record { nodes = Voting ∷ replicate 31 Unconfigured; devices = [] } }

-- ---- the view, and who gets Heartbeats

-- node 2 was heard: node 1 begins an attempt alone, or with it
abbrev pub attempt_of : ℕ → List Moment
attempt_of members = attempt 65 members ∷ saved 1 ∷ ticked 1 ∷ line_of (event.Tick 1) ∷ delivered 1 2 1 ∷ sent 1 2 1 name.Heartbeat [] ∷ up 2 ∷ booted

-- node 2, which is not configured, begins one alone, or with node 1 that it heard
abbrev pub attempt_alone : List Moment
attempt_alone = attempt 66 2 ∷ saved 2 ∷ ticked 2 ∷ line_of (event.Tick 2) ∷ up 2 ∷ booted

-- Both nodes are configured; with the first update node 1 alone is.
abbrev pub votes_until : List (List ℕ) → VoteTable
votes_until [] = record { nodes = Voting ∷ Voting ∷ replicate 30 Unconfigured; devices = [] }
votes_until (words ∷ later) = record { nodes = Voting ∷ replicate 31 Unconfigured; devices = [] }

abbrev pub leaving : Setting
leaving = record growing { votes = votes_until }

-- In its tick node 1, alone in its membership, commits that update first, and then begins an attempt, with node 2 or without.
abbrev pub attempt_behind_an_update : ℕ → List Moment
attempt_behind_an_update members =
    attempt 129 members ∷ saved 1 ∷ ack 65 1 create_group ∷ saved 1 ∷ propose 65 1 create_group ∷ ticked 1 ∷ line_of (event.Tick 1) ∷ delivered 1 2 1 ∷ sent 1 2 1 name.Heartbeat [] ∷ up 2 ∷ alone
  where
    alone : List Moment
    alone = member 1 65 ∷ attempt 65 1 ∷ booted

-- node 1 sends a Heartbeat to node 2, and node 2, which heard it, to node 1
abbrev pub beat_to_another : List Moment
beat_to_another = sent 1 1 2 name.Heartbeat [] ∷ ticked 1 ∷ line_of (event.Tick 1) ∷ up 2 ∷ booted

abbrev pub beat_to_the_heard : List Moment
beat_to_the_heard =
    sent 2 2 1 name.Heartbeat [] ∷ ticked 2 ∷ line_of (event.Tick 2) ∷ delivered 1 1 2 ∷ sent 1 1 2 name.Collect [] ∷ up 2 ∷ booted

-- ---- a member that is not configured

abbrev pub foreign : List Moment
foreign =
    ended_foreign 129 2
    ∷ delivered 2 2 1
    ∷ line_of (event.Next 2 1)
    ∷ sent 2 2 1 name.Promise (promise 2 129 0 none)
    ∷ saved 2
    ∷ delivered 1 1 2
    ∷ line_of (event.Next 1 2)
    ∷ sent 1 1 2 name.Collect []
    ∷ attempt 129 3
    ∷ up 2
    ∷ booted

-- ---- a server

abbrev pub served_by : Setting
served_by = record pair { header = record two_nodes { version = Two; devices = record { kind = Server; attached = 3 } ∷ [] } }

abbrev pub no_path_to_a_server : List Moment
no_path_to_a_server = refused 2 1 5 refusal.NoPath ∷ line_of (event.Write 2 1 5) ∷ split.together

-- ---- a client

abbrev pub address : List ℕ
address = 97 ∷ []

abbrev pub asked_at : ℕ → Moment
asked_at n = line_of (event.Client n address 10 80)

abbrev pub skipped_elsewhere : List Moment
skipped_elsewhere = skipped skip.NoPresident ∷ asked_at 2 ∷ messages.formed

abbrev pub served_elsewhere : List Moment
served_elsewhere = served address 10 80 (Some 1) ∷ asked_at 2 ∷ messages.formed

abbrev pub served_here : List Moment
served_here = served address 10 80 (Some 1) ∷ asked_at 1 ∷ messages.formed

abbrev pub served_another : List Moment
served_another = served address 11 80 (Some 1) ∷ asked_at 1 ∷ messages.formed
