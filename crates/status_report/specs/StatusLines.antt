-- The lines of a query's answer.
use Rattle.std.specs.Prelude.{ℕ, Bool, true, false, List, ◌∷◌, ◌++◌, codes, []}
use Rattle.std.specs.Fmt.{decimal}
use Rattle.hex.specs.Hex.{encode_lower}
use Rattle.cl_base.specs.declared.reason.Reason.{Reason}
use Rattle.cl_base.specs.declared.reason.Reason.TheVariants as reason
use Rattle.cl_base.specs.declared.state.GroupState.{GroupState}
use Rattle.cl_base.specs.declared.state.GroupState.TheVariants as group
use Rattle.cl_base.specs.declared.state.ResourceState.{ResourceState}
use Rattle.cl_base.specs.declared.state.ResourceState.TheVariants as resource
use Rattle.status_report.specs.declared.status_entry.QuorumState.{QuorumState}
use Rattle.status_report.specs.declared.status_entry.QuorumState.TheVariants.{Held, Lost, Off}
use Rattle.status_report.specs.declared.status_entry.TableLine.{TableLine}
use Rattle.status_report.specs.declared.status_entry.TableLine.TheVariants.{Generation, Checksum, Row}
use Rattle.status_report.specs.declared.status_entry.StatusEntry.{StatusEntry}
use Rattle.status_report.specs.declared.status_entry.StatusEntry.TheVariants.{Group, Why, Resource, QuorumVotes, QuorumNode, QuorumDevice, Table}
use Rattle.status_report.specs.Words.{spaced}

abbrev pub group_state_text : GroupState → List ℕ
group_state_text group.Unmanaged = codes "UNMANAGED"
group_state_text group.ErrorStopFailed = codes "ERROR_STOP_FAILED"
group_state_text group.OnlineFaulted = codes "ONLINE_FAULTED"
group_state_text group.Online = codes "ONLINE"
group_state_text group.PendingOnline = codes "PENDING_ONLINE"
group_state_text group.PendingOnlineBlocked = codes "PENDING_ONLINE_BLOCKED"
group_state_text group.PendingOffline = codes "PENDING_OFFLINE"
group_state_text group.Offline = codes "OFFLINE"

abbrev pub resource_state_text : ResourceState → List ℕ
resource_state_text resource.StopFailed = codes "STOP_FAILED"
resource_state_text resource.StartFailed = codes "START_FAILED"
resource_state_text resource.Online = codes "ONLINE"
resource_state_text resource.Starting = codes "STARTING"
resource_state_text resource.Offline = codes "OFFLINE"

abbrev pub reason_text : Reason → List ℕ
reason_text reason.Unmanaged = codes "unmanaged"
reason_text reason.Offline = codes "offline"
reason_text reason.Suspended = codes "suspended"
reason_text reason.Empty = codes "empty"
reason_text reason.NotMember = codes "not-member"
reason_text reason.StopFailed = codes "stop-failed"
reason_text reason.Evacuated = codes "evacuated"
reason_text reason.StartFailed = codes "start-failed"
reason_text reason.Moved = codes "moved"
reason_text reason.Leaving = codes "leaving"
reason_text (reason.Affinity target) = spaced (codes "affinity" ∷ target ∷ [])
reason_text (reason.Dependency target) = spaced (codes "dependency" ∷ target ∷ [])
reason_text (reason.Load limit) = spaced (codes "load" ∷ limit ∷ [])
reason_text (reason.Faulted resource) = spaced (codes "faulted" ∷ resource ∷ [])
reason_text (reason.Blocked resource) = spaced (codes "blocked" ∷ resource ∷ [])

abbrev pub member_text : Bool → List ℕ
member_text true = codes "member"
member_text false = codes "absent"

abbrev pub quorum_state_text : QuorumState → List ℕ
quorum_state_text Held = codes "held"
quorum_state_text Lost = codes "lost"
quorum_state_text Off = codes "off"

-- a row has a tab (9) between its key and its value
abbrev pub table_text : TableLine → List ℕ
table_text (Generation number) = spaced (codes "table" ∷ codes "ccr_gennum" ∷ decimal number ∷ [])
table_text (Checksum digest) = spaced (codes "table" ∷ codes "ccr_checksum" ∷ encode_lower digest ∷ [])
table_text (Row key value) = codes "table " ++ key ++ 9 ∷ value

abbrev pub status_text : StatusEntry → List ℕ
status_text (Group name node state) = spaced (codes "rg" ∷ name ∷ decimal node ∷ group_state_text state ∷ [])
status_text (Why name node reason) = spaced (codes "why" ∷ name ∷ decimal node ∷ reason_text reason ∷ [])
status_text (Resource name node state) = spaced (codes "rs" ∷ name ∷ decimal node ∷ resource_state_text state ∷ [])
status_text (QuorumVotes total need) = spaced (codes "quorum" ∷ codes "votes" ∷ decimal total ∷ codes "need" ∷ decimal need ∷ [])
status_text (QuorumNode node vote member) = spaced (codes "quorum" ∷ codes "node" ∷ decimal node ∷ decimal vote ∷ member_text member ∷ [])
status_text (QuorumDevice device votes state) = spaced (codes "quorum" ∷ codes "device" ∷ decimal device ∷ decimal votes ∷ quorum_state_text state ∷ [])
status_text (Table line) = table_text line
