-- What queries about votes and about tables of the configuration are answered.
use Rattle.std.specs.Prelude.{ℕ, zero, suc, Bool, true, false, List, [], ◌∷◌, ◌++◌, map, Option, Some, None, if◌then◌else◌}
use Rattle.sha2.specs.Sha256.{sha256}
use Rattle.cl_base.specs.Limits.{most_devices, most_nodes}
use Rattle.cl_base.specs.Sets.{has}
use Rattle.cl_base.specs.declared.command.Table.{Table}
use Rattle.quorum_votes.specs.Tables.{VoteTable}
use Rattle.quorum_votes.specs.Votes.{device_at, device_votes_of, is_configured, needed_of, state_of, total_of, vote_of}
use Rattle.quorum_votes.specs.declared.state.DevState.{DevState}
use Rattle.quorum_votes.specs.declared.state.DevState.TheVariants.{Absent, Disabled, Enabled}
use Rattle.ccr_tables.specs.State.{ConfigState}
use Rattle.ccr_tables.specs.Updates.{generation_of}
use Rattle.ccr_text.specs.declared.rows.Row.{Row}
use Rattle.ccr_text.specs.TableText.{row_lines}
use Rattle.ccr_rows.specs.Rows.{rows_of}
use Rattle.status_report.specs.declared.status_entry.QuorumState.{QuorumState}
use Rattle.status_report.specs.declared.status_entry.QuorumState.TheVariants.{Held, Lost, Off}
use Rattle.status_report.specs.declared.status_entry.StatusEntry.{StatusEntry}
use Rattle.status_report.specs.declared.status_entry.StatusEntry.TheVariants as entry
use Rattle.status_report.specs.declared.status_entry.TableLine.TheVariants as line

-- a configured node: its vote, and whether it is a member
abbrev pub node_line : VoteTable → ℕ → ℕ → List StatusEntry
node_line v members n = if is_configured v n then entry.QuorumNode n (vote_of v n) (has members n) ∷ [] else []

-- the nodes with numbers from 1 to the most
abbrev pub node_lines_to : VoteTable → ℕ → ℕ → List StatusEntry
node_lines_to v members zero = []
node_lines_to v members (suc most) = node_lines_to v members most ++ node_line v members (suc most)

-- a quorum device that is disabled is off, whether it is held or not
abbrev pub standing : DevState → Bool → Option QuorumState
standing Absent held = None
standing Disabled held = Some Off
standing Enabled true = Some Held
standing Enabled false = Some Lost

abbrev pub line_of_device : ℕ → ℕ → Option QuorumState → List StatusEntry
line_of_device d votes None = []
line_of_device d votes (Some state) = entry.QuorumDevice d votes state ∷ []

-- a quorum device: its votes, and how it stands
abbrev pub device_line : VoteTable → ℕ → ℕ → List StatusEntry
device_line v held d = line_of_device d (device_votes_of v d) (standing (state_of (device_at v d)) (has held d))

-- the devices with numbers from 1 to the most
abbrev pub device_lines_to : VoteTable → ℕ → ℕ → List StatusEntry
device_lines_to v held zero = []
device_lines_to v held (suc most) = device_lines_to v held most ++ device_line v held (suc most)

-- all votes and those needed, then nodes by number, then devices by number
abbrev pub quorum_lines : VoteTable → ℕ → ℕ → List StatusEntry
quorum_lines v members held =
    entry.QuorumVotes (total_of v) (needed_of v) ∷ (node_lines_to v members most_nodes ++ device_lines_to v held most_devices)

abbrev pub row_line : Row → StatusEntry
row_line row = entry.Table (line.Row row.key row.value)

-- the generation number, the checksum, which is the SHA-256 of the rows' lines, then each row
abbrev pub table_lines : ConfigState → Table → List StatusEntry
table_lines s t =
    entry.Table (line.Generation (generation_of s.generations t))
    ∷ entry.Table (line.Checksum (sha256 (row_lines (rows_of s t))))
    ∷ map row_line (rows_of s t)
