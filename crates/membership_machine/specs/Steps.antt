-- What each step makes of the node that takes it, and of the epoch that it coordinates.
use Rattle.std.specs.Prelude.{ℕ, zero, suc, Bool, true, false, List, [], ◌∷◌, ◌++◌, length}
use Rattle.machine_base.specs.Put.{put}
use Rattle.membership_machine.specs.Records.{Update, Saved}
use Rattle.membership_machine.specs.State.{Node, Epoch}

-- Promise: the node raises its promise to q, enters session q, is a member no longer, gives up an attempt of its own, and shows its record.
-- A coordinator promises its own attempt first, and then seeks a majority for it.
abbrev pub promising : Node → ℕ → Bool → Node
promising n q seeks = record n { promised = q; session = q; member = false; seeking = seeks; answered = put n.answered q true; showed = put n.showed q n.saved }

-- Install: the record becomes the one that the attempt found newest, under the attempt's number, what was pending still pending.
abbrev pub installing : Node → ℕ → List Update → ℕ → Node
installing n q entries committed = record n { saved = record { installed = q; entries = entries; committed = committed }; seeking = false; ready = put n.ready q true; reached = put n.reached q (length entries) }

-- Start: the node commits the entry that Install left pending, and is a member from then on.
abbrev pub joining : Node → Node
joining n = record n { saved = record n.saved { committed = length n.saved.entries }; member = true }

-- Prepare, and the president's own part of a proposal: the update is saved as pending, and what was pending before it is committed.
abbrev pub appending : Node → ℕ → Update → Node
appending n q u = record n { saved = record n.saved { entries = n.saved.entries ++ u ∷ []; committed = length n.saved.entries }; reached = put n.reached q (suc (length n.saved.entries)) }

-- Commit, and the president's own part of an acknowledgement: the pending entry is committed.
abbrev pub committing : Node → Node
committing n = record n { saved = record n.saved { committed = length n.saved.entries } }

-- The node goes down, by a crash, a panic or a stop in a save: promise and record stay.
abbrev pub crashing : Node → Node
crashing n = record n { session = zero; member = false; seeking = false }

-- An attempt is begun among these nodes.
abbrev pub beginning : Epoch → (ℕ → Bool) → Epoch
beginning e members = record e { tried = true; members = members }

-- The attempt has its majority with these devices: its base is the record that node n showed, which was the newest.
abbrev pub counting : Epoch → ℕ → (ℕ → Bool) → Saved → Epoch
counting e n devices s = record e { counted = true; holds = devices; newest = n; base = s.entries; settled = s.committed; log = s.entries }

-- The membership starts: its whole base counts as acknowledged.
abbrev pub starting : Epoch → Epoch
starting e = record e { started = true; acked = length e.base }

-- The president proposes an update.
abbrev pub proposing : Epoch → Update → Epoch
proposing e u = record e { log = e.log ++ u ∷ [] }

-- Every member has saved all that was proposed, so it is acknowledged.
abbrev pub acknowledging : Epoch → Epoch
acknowledging e = record e { acked = length e.log }
