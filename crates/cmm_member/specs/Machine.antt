-- How a node shows the one that the abstract machine of memberships has for it.
use Rattle.std.specs.Prelude.{ℕ, zero, ◌≡◌, Bool, true, false, length}
use Rattle.ccr_commit.specs.Entries.{texts_of}
use Rattle.membership_machine.specs.Records.{Saved}
use Rattle.membership_machine.specs.State.{Node}
use Rattle.cmm_member.specs.Records.{NodeRecord}
use Rattle.cmm_member.specs.Nodes.{NodeState}

-- the record as the machine has it
abbrev pub saved_of : NodeRecord → Saved
saved_of r = record { installed = r.installed; entries = texts_of r.entries; committed = length r.entries.committed }

-- the machine's node n has this record, is in the session of this epoch, and is a member or not
pub record Shows (r : NodeRecord) (epoch : ℕ) (joined : Bool) (n : Node) : Type 0 where
  pub promised : n.promised ≡ r.promised
  pub saved : n.saved ≡ saved_of r
  pub session : n.session ≡ epoch
  pub member : n.member ≡ joined

-- a node with this record on its disk is down
abbrev pub ShowsDown : NodeRecord → Node → Type 0
ShowsDown r n = Shows r zero false n

abbrev pub ShowsForming : NodeState → Node → Type 0
ShowsForming s n = Shows s.saved s.session false n

abbrev pub ShowsMember : NodeState → Node → Type 0
ShowsMember s n = Shows s.saved s.session true n
