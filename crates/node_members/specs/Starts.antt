-- A node that has become a member.
use Rattle.std.specs.Prelude.{ℕ, Bool}
use Rattle.status_report.specs.declared.node_entry.NodeEntry.TheVariants as node
use Rattle.node_model.specs.declared.node.UpNode.{UpNode}
use Rattle.node_model.specs.Attempts.{entering, keeping_if}
use Rattle.node_model.specs.Entries.{telling_of}
use Rattle.node_model.specs.Plans.{Plan}
use Rattle.node_model.specs.Plans.Plan.{Stays}
use Rattle.node_model.specs.Seats.{session_of}

-- it saves what that changed
abbrev pub entered : ℕ → UpNode → ℕ → Bool → Plan
entered me x e changed = keeping_if changed me (entering x (session_of x)) (telling_of me (node.Member e) (Stays (entering x (session_of x))))
