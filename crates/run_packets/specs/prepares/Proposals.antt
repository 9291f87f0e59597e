-- Proposals, and the Prepares that stand behind them.
use Rattle.std.specs.Prelude.{ℕ, ◌≡◌, ◌≢◌, ◌≤◌, ◌⊎◌, nat_le, Bool, true, false, List, [], ◌∷◌, length, is_some}
use Rattle.cl_base.specs.Limits.{most_nodes}
use Rattle.cl_base.specs.Sets.{has, set_without}
use Rattle.history.specs.Messages.{sends_or_falls}
use Rattle.history.specs.Moment.{Moment}
use Rattle.history.specs.Names as name
use Rattle.history.specs.Setting.{coordinator}
use Rattle.history.specs.Starts.{is_started, members_in, start_of}
use Rattle.history.specs.Trace.{propose}
use Rattle.membership_machine.specs.State.{Memberships}
use Rattle.node_model.specs.declared.node.Node.{Node}
use Rattle.node_model.specs.declared.node.Node.TheVariants.{Down, Up}
use Rattle.node_model.specs.declared.output.Output.{Output}
use Rattle.node_model.specs.declared.output.Output.TheVariants.{Sends, Tells}
use Rattle.node_model.specs.declared.seat.Seat.{Seat}
use Rattle.node_model.specs.declared.seat.Seat.TheVariants.{Forming, Member}
use Rattle.status_report.specs.declared.entry.Entry.TheVariants as entry
use Rattle.status_report.specs.declared.node_entry.NodeEntry.TheVariants as note
use Rattle.status_report.specs.declared.update_entry.UpdateEntry.TheVariants as update
use Rattle.wire.specs.Spelling.{spelling}
use Rattle.wire.specs.declared.message.Body.{Body}
use Rattle.wire.specs.declared.message.Body.TheVariants as body
use Rattle.run_packets.specs.prepares.Actors.{IsOf}

-- m is another member of e, as its start line stands among these moments
abbrev pub IsOther : List Moment → ℕ → ℕ → Type 0
IsOther before e m = (m ≤ most_nodes) × (has (members_in (start_of e before)) m ≡ true) × (m ≢ coordinator e)

-- ---- entries

-- each other member is sent the Prepare of a proposal in the entries behind it, or its coordinator goes down there
abbrev pub IsAnnounced : List Moment → Moment → List Moment → Type 0
IsAnnounced before (propose e v words) later = (m : ℕ) → IsOther before e m → sends_or_falls (coordinator e) m (name.Prepare v) later ≡ true
IsAnnounced before _ later = Unit {0}

abbrev pub AreAnnounced : List Moment → List Moment → Type 0
AreAnnounced before [] = Unit {0}
AreAnnounced before (x ∷ later) = IsAnnounced before x later × AreAnnounced before later

-- ---- outputs

-- it sends m this message, or goes down
abbrev pub SendsOrFalls : ℕ → ℕ → Body → Output → Type 0
SendsOrFalls n m b (Tells (entry.Node k (note.Down why))) = k ≡ n
SendsOrFalls n m b (Tells e) = ⊥
SendsOrFalls n m b (Sends to other) = (to ≡ m) × (other ≡ b)

abbrev pub IsBehind : ℕ → ℕ → Body → List Output → Type 0
IsBehind n m b [] = ⊥
IsBehind n m b (o ∷ os) = SendsOrFalls n m b o ⊎ IsBehind n m b os

-- the message has a packet's size
abbrev pub IsShort : ℕ → Body → Type 0
IsShort n b = nat_le (length (spelling (record { sender = n; body = b }))) 131072 ≡ true

-- what node n gives is its own, and its proposals have their Prepares
abbrev pub IsSo : List Moment → ℕ → Output → List Output → Type 0
IsSo before n (Tells (entry.Update (update.Proposed e v text))) os =
    (coordinator e ≡ n) × IsShort n (body.Prepare e v text) × ((m : ℕ) → IsOther before e m → IsBehind n m (body.Prepare e v text) os)
IsSo before n (Tells e) os = IsOf n e
IsSo before n (Sends to b) os = Unit {0}

abbrev pub AreSo : List Moment → ℕ → List Output → Type 0
AreSo before n [] = Unit {0}
AreSo before n (o ∷ os) = IsSo before n o os × AreSo before n os

-- ---- a president's record has the members of its start line

abbrev pub CoversIn : List Moment → ℕ → Bool → Seat → Type 0
CoversIn before n presides (Forming s) = Unit {0}
CoversIn before n false (Member s) = Unit {0}
CoversIn before n true (Member s) = (m : ℕ) → IsOther before s.session m → has (set_without s.saved.members n) m ≡ true

abbrev pub Covers : List Moment → ℕ → Node → Type 0
Covers before n Down = Unit {0}
Covers before n (Up x) = CoversIn before n (is_some x.presidency) x.seat

-- what has its start line has started
abbrev pub AreStarted : List Moment → Memberships → Type 0
AreStarted before M = (e : ℕ) → is_started e before ≡ true → (M.epoch e).started ≡ true
