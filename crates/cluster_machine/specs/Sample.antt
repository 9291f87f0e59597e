-- A run of two nodes and one quorum device, number 1, which shows that the events can come, and what the laws are about.
use Rattle.std.specs.Prelude.{ℕ, Bool, true, false, nat_eq, if◌then◌else◌, List, [], ◌∷◌}
use Rattle.membership_machine.specs.Votes.{Votes, Setting}
use Rattle.membership_machine.specs.Events.{Begin, Promise, Count, Install, Start, Join, Propose, Prepare, Acknowledge, Commit}
use Rattle.membership_machine.specs.Sample.{both, only, create_group}
use Rattle.device_machine.specs.Sharing as sharing
use Rattle.cluster_machine.specs.Cluster.{Cluster, first_cluster, Joining, Apart, Seizer, Known, Event, Membership, Collected, Command, after}

-- the state that these events lead to
abbrev pub all_of : Cluster → List Event → Cluster
all_of w [] = w
all_of w (e ∷ es) = all_of (after w e) es

-- each node and device 1 have a vote, whatever is updated
abbrev pub three_votes : Votes
three_votes = record { of_node = λ n. if both n then 1 else 0; of_device = λ d. if nat_eq d 1 then 1 else 0 }

abbrev pub sample_setting : Setting
sample_setting = record { nodes = 3; devices = 2; config = λ us. three_votes }

-- both nodes are registered on device 1 at first
abbrev pub attached : ℕ → ℕ → Bool
attached d n = if nat_eq d 1 then both n else false

-- at device 1 so, and nothing is joined elsewhere
abbrev pub at_one : Joining → ℕ → Joining
at_one j d = if nat_eq d 1 then j else Apart

-- Node 1 begins attempt 65 of both, and seizes the device.
abbrev pub seizing : List Event
seizing =
    Membership (Begin 65 both) (at_one Apart) ∷ Membership (Promise 2 65) (at_one Apart) ∷ Collected 65
    ∷ Command 1 (sharing.Ask 65 1 true) ∷ Command 1 (sharing.Seize 1) ∷ Command 1 (sharing.Check 1) ∷ Command 1 (sharing.Word_less 1)
    ∷ Command 1 (sharing.Swap 1) ∷ Command 1 (sharing.Reserve 1) ∷ Command 1 (sharing.Clear 1) ∷ Command 1 (sharing.Confirm 1) ∷ []

abbrev pub seized : Cluster
seized = all_of (first_cluster attached) seizing

-- It counts three votes of three. Both install, the membership starts, and both write.
abbrev pub forming : List Event
forming =
    Membership (Count 65 1 (only 1)) (at_one Seizer) ∷ Membership (Install 2 65) (at_one Known) ∷ Membership (Start 65) (at_one Apart)
    ∷ Membership (Join 2 65) (at_one Apart) ∷ Command 1 (sharing.Write 1 7) ∷ Command 1 (sharing.Write 2 8) ∷ []

abbrev pub formed : Cluster
formed = all_of seized forming

-- An update is acknowledged.
abbrev pub updating : List Event
updating =
    Membership (Propose 65 create_group) (at_one Apart) ∷ Membership (Prepare 2 65 create_group) (at_one Apart)
    ∷ Membership (Acknowledge 65) (at_one Apart) ∷ Membership (Commit 2 65) (at_one Apart) ∷ []

abbrev pub updated : Cluster
updated = all_of formed updating

-- Node 1 hears node 2 no more. It begins attempt 129 alone, seizes the device, and preempts the key of node 2.
abbrev pub fencing : List Event
fencing =
    Membership (Begin 129 (only 1)) (at_one Apart) ∷ Collected 129 ∷ Command 1 (sharing.Ask 129 1 true) ∷ Command 1 (sharing.Seize 1)
    ∷ Command 1 (sharing.Check 1) ∷ Command 1 (sharing.Word_less 1) ∷ Command 1 (sharing.Swap 1) ∷ Command 1 (sharing.Reserve 1)
    ∷ Command 1 (sharing.Look 1 2) ∷ Command 1 (sharing.Preempt 1) ∷ Command 1 (sharing.Clear 1) ∷ Command 1 (sharing.Confirm 1) ∷ []

abbrev pub fenced : Cluster
fenced = all_of updated fencing

-- It counts two votes of three, its own and the device's, starts, and writes. Node 2 still believes itself a member of 65.
abbrev pub splitting : List Event
splitting =
    Membership (Count 129 1 (only 1)) (at_one Seizer) ∷ Membership (Start 129) (at_one Apart) ∷ Command 1 (sharing.Write 1 9) ∷ []

abbrev pub split : Cluster
split = all_of fenced splitting
