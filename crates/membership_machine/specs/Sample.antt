-- A run of two nodes and one quorum device, which shows that the events can come, and what the laws are about.
use Rattle.std.specs.Prelude.{ℕ, Bool, false, ◌||◌, nat_eq, if◌then◌else◌, List, [], ◌∷◌, codes}
use Rattle.membership_machine.specs.Records.{Update}
use Rattle.membership_machine.specs.Votes.{Votes, Setting}
use Rattle.membership_machine.specs.State.{Memberships, first_memberships}
use Rattle.membership_machine.specs.Events.{Event, Begin, Promise, Count, Install, Start, Join, Propose, Prepare, Acknowledge, Commit, Crash, after}

-- the state that these events lead to
abbrev pub all_of : Memberships → List Event → Memberships
all_of w [] = w
all_of w (e ∷ es) = all_of (after w e) es

-- nodes 1 and 2; one of them, or the device, alone; none
abbrev pub both : ℕ → Bool
both m = nat_eq m 1 || nat_eq m 2

abbrev pub only : ℕ → ℕ → Bool
only a m = nat_eq m a

abbrev pub none : ℕ → Bool
none m = false

-- two updates: the first gives device 1 a vote
abbrev pub add_device : Update
add_device = codes "clq add 1"

abbrev pub create_group : Update
create_group = codes "clrg create g 1,2"

-- Each node has a vote. Device 1 has none where no update stands, and one after the first.
abbrev pub sample_votes : List Update → Votes
sample_votes [] = record { of_node = λ n. if both n then 1 else 0; of_device = λ d. 0 }
sample_votes (u ∷ us) = record { of_node = λ n. if both n then 1 else 0; of_device = λ d. if nat_eq d 1 then 1 else 0 }

abbrev pub sample_setting : Setting
sample_setting = record { nodes = 3; devices = 2; config = sample_votes }

-- Node 1 forms membership 65 of both nodes. They are two votes of two.
abbrev pub forming : List Event
forming = Begin 65 both ∷ Promise 2 65 ∷ Count 65 1 none ∷ Install 2 65 ∷ Start 65 ∷ Join 2 65 ∷ []

abbrev pub formed : Memberships
formed = all_of first_memberships forming

-- Node 1 proposes that the device has a vote. Both save it as pending, and node 1 goes down before it is acknowledged.
abbrev pub changing : List Event
changing = Propose 65 add_device ∷ Prepare 2 65 add_device ∷ Crash 1 ∷ []

abbrev pub changed : Memberships
changed = all_of formed changing

-- Node 2 forms membership 130 of both. It needs two votes of two as before the change, and two of three as after it; the start commits it.
abbrev pub reforming : List Event
reforming = Begin 130 both ∷ Promise 1 130 ∷ Count 130 2 none ∷ Install 1 130 ∷ Start 130 ∷ Join 1 130 ∷ []

abbrev pub reformed : Memberships
reformed = all_of changed reforming

-- Another update is proposed, saved by both and acknowledged.
abbrev pub updating : List Event
updating = Propose 130 create_group ∷ Prepare 1 130 create_group ∷ Acknowledge 130 ∷ Commit 1 130 ∷ []

abbrev pub updated : Memberships
updated = all_of reformed updating

-- Node 1 is heard no more. Node 2 forms membership 194 alone with the device: two votes of three. Its base has both updates.
abbrev pub splitting : List Event
splitting = Begin 194 (only 2) ∷ Count 194 2 (only 1) ∷ Start 194 ∷ []

abbrev pub split : Memberships
split = all_of updated splitting
