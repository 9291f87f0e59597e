-- The machines of which the whole is made, each with its own run, and what they say together of who seized and who joined a device.
use Rattle.std.specs.Prelude.{ℕ, ◌≡◌, ◌<◌, true, List, [], ◌∷◌, ◌++◌, nat_eq, if◌then◌else◌}
use Rattle.membership_machine.specs.Events as membership
use Rattle.device_machine.specs.Sharing as sharing
use Rattle.device_machine.specs.Laws.{HasJoined}
use Rattle.cluster_machine.specs.Cluster.{Cluster, Event, Membership, Collected, Command, part, after}

-- what an event that comes in w is at device d
abbrev pub at_device : Cluster → Event → ℕ → List sharing.Event
at_device w (Membership e joining) d = part e joining d
at_device w (Collected q) d = sharing.Collected q (w.memberships.epoch q).members ∷ []
at_device w (Command k e) d = if nat_eq d k then e ∷ [] else []

-- .. and what a run from w is there
abbrev pub run_at : Cluster → List Event → ℕ → List sharing.Event
run_at w [] d = []
run_at w (e ∷ es) d = at_device w e d ++ run_at (after w e) es d

-- what an event is to the memberships
abbrev pub in_memberships : Event → List membership.Event
in_memberships (Membership e joining) = e ∷ []
in_memberships (Collected q) = []
in_memberships (Command k e) = []

-- .. and what a run is to them
abbrev pub run_of_memberships : List Event → List membership.Event
run_of_memberships [] = []
run_of_memberships (e ∷ es) = in_memberships e ++ run_of_memberships es

-- What a node is that joined device d: it is in a session, the one that it promised last, has installed that attempt and is a member of it,
-- and the attempt counted a majority with d held.
pub record JoinedAsMember (w : Cluster) (d n : ℕ) : Type 0 where
  pub at_device : HasJoined (w.device d) n
  pub in_session : 0 < (w.memberships.node n).session
  pub promised : (w.memberships.node n).session ≡ (w.memberships.node n).promised
  pub installed : (w.memberships.node n).saved.installed ≡ (w.memberships.node n).session
  pub member : (w.memberships.epoch (w.memberships.node n).session).members n ≡ true
  pub counted : (w.memberships.epoch (w.memberships.node n).session).counted ≡ true
  pub holds : (w.memberships.epoch (w.memberships.node n).session).holds d ≡ true
