-- The whole: one machine of memberships, and the machine of one device for each shared device. A node's promise, session and
-- installed epoch stand in both. So a step that changes one of these is a step of memberships that every device takes part in;
-- all else is a step of memberships alone, or a command at one device.
use Rattle.std.specs.Prelude.{ℕ, ◌≡◌, ◌<◌, ◌⊎◌, Bool, true, false, List, [], ◌∷◌, take}
use Rattle.machine_base.specs.Put.{put}
use Rattle.machine_base.specs.Epochs.{coordinator}
use Rattle.membership_machine.specs.Records.{Saved}
use Rattle.membership_machine.specs.Votes.{Setting}
use Rattle.membership_machine.specs.State.{Memberships, first_memberships}
use Rattle.membership_machine.specs.Events as membership
use Rattle.device_machine.specs.Sharing as sharing
use Rattle.device_machine.specs.Sharing.{Sharing, first_sharing}

pub record Cluster : Type 0 where
  pub memberships : Memberships
  pub device : ℕ → Sharing

-- Nothing was tried. On device d the nodes n with `registered d n` have their keys registered, and hold them valid:
-- on a quorum device the attached nodes, on another none.
abbrev pub first_cluster : (ℕ → ℕ → Bool) → Cluster
first_cluster registered = record { memberships = first_memberships; device = λ d. first_sharing (registered d) }

-- what an install is at a device, for the node that installs
pub data Joining : Type 0 where
  -- the device is not held, or not attached to the node
  Apart : Joining
  -- the node seized it
  Seizer : Joining
  -- the node's key was seen there and is validated
  Known : Joining
  -- the node registers anew
  New : Joining

-- `joining` says for each device what the install in the event is there.
pub data Event : Type 0 where
  -- a step of memberships, in which each device takes its part
  Membership : (e : membership.Event) (joining : ℕ → Joining) → Event
  -- with every Promise of q in hand, its coordinator goes on to seize
  Collected : (q : ℕ) → Event
  -- a command at device d, or a step of a task there
  Command : (d : ℕ) (e : sharing.Event) → Event

abbrev pub install_at : Joining → ℕ → sharing.Event
install_at Apart n = sharing.Install_apart n
install_at Seizer n = sharing.Install_seizer n
install_at Known n = sharing.Install_known n
install_at New n = sharing.Install_new n

abbrev pub count_at : Bool → ℕ → sharing.Event
count_at true q = sharing.Count_with q
count_at false q = sharing.Count_without q

-- what a step of memberships is at device d
abbrev pub part : membership.Event → (ℕ → Joining) → ℕ → List sharing.Event
part (membership.Begin q members) joining d = sharing.Promise (coordinator q) q ∷ []
part (membership.Promise m q) joining d = sharing.Promise m q ∷ []
part (membership.Count q n devices) joining d = count_at (devices d) q ∷ install_at (joining d) (coordinator q) ∷ []
part (membership.Install m q) joining d = install_at (joining d) m ∷ []
part (membership.Start q) joining d = []
part (membership.Join m q) joining d = []
part (membership.Propose q u) joining d = []
part (membership.Propose_lost q u) joining d = sharing.Crash (coordinator q) ∷ []
part (membership.Prepare m q u) joining d = []
part (membership.Acknowledge q) joining d = []
part (membership.Commit m q) joining d = []
part (membership.Crash m) joining d = sharing.Crash m ∷ []

-- these events, each of which may come
abbrev pub MayCome : Sharing → List sharing.Event → Type 0
MayCome s [] = Unit
MayCome s (e ∷ es) = sharing.Allowed s e × MayCome (sharing.after s e) es

abbrev pub all_after : Sharing → List sharing.Event → Sharing
all_after s [] = s
all_after s (e ∷ es) = all_after (sharing.after s e) es

-- device d has votes where this record is the newest, under its committed entries or with the pending one
abbrev pub VotesUnder : Setting → Saved → ℕ → Type 0
VotesUnder S r d = (0 < (S.config (take r.committed r.entries)).of_device d) ⊎ (0 < (S.config r.entries).of_device d)

-- A device that is counted with votes was seized as a quorum device.
abbrev pub CountsQuorum : Setting → Cluster → membership.Event → Type 0
CountsQuorum S w (membership.Count q n devices) = (d : ℕ) → devices d ≡ true → VotesUnder S ((w.memberships.node n).showed q) d → ((w.device d).attempt q).quorum ≡ true
CountsQuorum S w _ = Unit

-- what is no part of a step of memberships
abbrev pub is_command : sharing.Event → Bool
is_command (sharing.Promise n q) = false
is_command (sharing.Crash n) = false
is_command (sharing.Collected q members) = false
is_command (sharing.Count_with q) = false
is_command (sharing.Count_without q) = false
is_command (sharing.Install_apart n) = false
is_command (sharing.Install_seizer n) = false
is_command (sharing.Install_known n) = false
is_command (sharing.Install_new n) = false
is_command _ = true

-- Only a member writes.
abbrev pub WritesAsMember : Memberships → sharing.Event → Type 0
WritesAsMember w (sharing.Write n x) = (w.node n).member ≡ true
WritesAsMember w _ = Unit

abbrev pub Allowed : Setting → Cluster → Event → Type 0
Allowed S w (Membership e joining) = membership.Allowed S w.memberships e × ((d : ℕ) → MayCome (w.device d) (part e joining d)) × CountsQuorum S w e
Allowed S w (Collected q) =
    ((w.memberships.epoch q).tried ≡ true) × ((m : ℕ) → (w.memberships.epoch q).members m ≡ true → (w.memberships.node m).answered q ≡ true)
    × ((d : ℕ) → sharing.Allowed (w.device d) (sharing.Collected q (w.memberships.epoch q).members))
Allowed S w (Command d e) = (is_command e ≡ true) × sharing.Allowed (w.device d) e × WritesAsMember w.memberships e

abbrev pub after : Cluster → Event → Cluster
after w (Membership e joining) = record { memberships = membership.after w.memberships e; device = λ d. all_after (w.device d) (part e joining d) }
after w (Collected q) = record w { device = λ d. sharing.after (w.device d) (sharing.Collected q (w.memberships.epoch q).members) }
after w (Command d e) = record w { device = put w.device d (sharing.after (w.device d) e) }

-- v is reached from w by these events
abbrev pub Run : Setting → Cluster → List Event → Cluster → Type 0
Run S w [] v = v ≡ w
Run S w (e ∷ es) v = Allowed S w e × Run S (after w e) es v
