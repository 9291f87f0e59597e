-- What a step of a node is at the device's machine: events of that node, after which the two are tied again.
use Rattle.std.specs.Prelude.{ℕ, ◌≡◌, ◌≢◌, List, [], ◌∷◌}
use Rattle.pgr_device.specs.Device as pgr
use Rattle.device_machine.specs.Sharing.{Sharing, Event, Seize, Check, Reject, Distrust, Register, Register_lost, Word_less, Word_same, Swap, Swap_lost, Reserve, Reserve_lost, Look, Preempt, Preempt_lost, Clear, Confirm, Fail, Enter, Enter_lost, Admit, Late}
use Rattle.device_machine.specs.Growth.{AttemptGrows}
use Rattle.membership_machine.specs.Votes.{Setting}
use Rattle.cluster_machine.specs.Cluster as whole
use Rattle.cluster_machine.specs.Cluster.{Cluster, MayCome, all_after, Run}
use Rattle.device_ties.specs.Devices.{DeviceTied}

-- a step of a task of node n; none is a part of a step of memberships, and none is a write
abbrev pub IsBy : ℕ → Event → Type 0
IsBy n (Seize m) = m ≡ n
IsBy n (Check m) = m ≡ n
IsBy n (Reject m) = m ≡ n
IsBy n (Distrust m) = m ≡ n
IsBy n (Register m) = m ≡ n
IsBy n (Register_lost m) = m ≡ n
IsBy n (Word_less m) = m ≡ n
IsBy n (Word_same m) = m ≡ n
IsBy n (Swap m) = m ≡ n
IsBy n (Swap_lost m) = m ≡ n
IsBy n (Reserve m) = m ≡ n
IsBy n (Reserve_lost m) = m ≡ n
IsBy n (Look m k) = m ≡ n
IsBy n (Preempt m) = m ≡ n
IsBy n (Preempt_lost m) = m ≡ n
IsBy n (Clear m) = m ≡ n
IsBy n (Confirm m) = m ≡ n
IsBy n (Fail m) = m ≡ n
IsBy n (Enter m) = m ≡ n
IsBy n (Enter_lost m) = m ≡ n
IsBy n (Admit m) = m ≡ n
IsBy n (Late m) = m ≡ n
IsBy n _ = ⊥

abbrev pub AreBy : ℕ → List Event → Type 0
AreBy n [] = Unit {0}
AreBy n (e ∷ es) = IsBy n e × AreBy n es

-- The machine allows events of node n, after which the device is as p has it, and this holds; nothing else of nodes and attempts changes.
pub record Moved (cluster n : ℕ) (s : Sharing) (p : pgr.Device) (Then : Sharing → Type 0) : Type 0 where
  pub events : List Event
  pub own : AreBy n events
  pub allowed : MayCome s events
  pub device : DeviceTied cluster p (all_after s events).device
  pub reached : Then (all_after s events)
  pub others : (k : ℕ) → k ≢ n → (all_after s events).node k ≡ s.node k
  pub attempts : (q : ℕ) → AttemptGrows (s.attempt q) ((all_after s events).attempt q)

-- The whole goes on by commands at device d, which comes to t; memberships and all other devices stay.
pub record WholeMoved (S : Setting) (w : Cluster) (d : ℕ) (t : Sharing) : Type 0 where
  pub events : List whole.Event
  pub machine : Cluster
  pub run : Run S w events machine
  pub memberships : machine.memberships ≡ w.memberships
  pub device : machine.device d ≡ t
  pub others : (k : ℕ) → k ≢ d → machine.device k ≡ w.device k
