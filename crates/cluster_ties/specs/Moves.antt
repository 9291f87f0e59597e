-- What a node does, in the machine of the whole cluster.
use Rattle.std.specs.Prelude.{ℕ, ◌≡◌, ◌≢◌, All, Bool, List, Some}
use Rattle.attempt_laws.specs.Asking.{AsksAt, CountsAt}
use Rattle.cluster_machine.specs.Cluster.{Cluster as Whole, Event, Run}
use Rattle.cmm_attempt.specs.Attempts.{AttemptState, Turn}
use Rattle.cmm_attempt.specs.Calls.{installs_in}
use Rattle.cmm_member.specs.Records.{NodeRecord}
use Rattle.device_machine.specs.Attempt.{no_attempt}
use Rattle.device_machine.specs.Device.{first_device}
use Rattle.device_machine.specs.Initiator.{first_initiator}
use Rattle.machine_base.specs.Epochs.{coordinator}
use Rattle.membership_machine.specs.Events as membership
use Rattle.membership_machine.specs.State.{first_memberships}
use Rattle.membership_machine.specs.Votes.{Setting}
use Rattle.node_model.specs.declared.cluster.Cluster.{Cluster}
use Rattle.node_model.specs.declared.node.Node.{Node}
use Rattle.node_model.specs.declared.node.UpNode.{UpNode}
use Rattle.cluster_ties.specs.Ties.{AttemptAt, Devices, DevicesTied, NodeAt, UpAt}

-- Nothing was tried. On device d the nodes n with `registered d n` have their keys registered, and those with `valid d n` hold them valid.
abbrev pub first_whole : (ℕ → ℕ → Bool) → (ℕ → ℕ → Bool) → Whole
first_whole registered valid = record {
  memberships = first_memberships;
  device = λ d. record { node = λ n. first_initiator (valid d n); attempt = λ q. no_attempt; device = first_device (registered d); top = 0 };
}

-- W is reached from such a state.
pub record IsReached (S : Setting) (W : Whole) : Type 0 where
  pub registered : ℕ → ℕ → Bool
  pub valid : ℕ → ℕ → Bool
  pub events : List Event
  pub run : Run S (first_whole registered valid) events W

-- The whole comes from W to V by what node n does: the other nodes stay as they are, and so do the attempts that others coordinate.
pub record Moves (S : Setting) (W : Whole) (n : ℕ) (V : Whole) : Type 0 where
  pub events : List Event
  pub run : Run S W events V
  pub others : (k : ℕ) → k ≢ n → V.memberships.node k ≡ W.memberships.node k
  pub others_at : (d k : ℕ) → k ≢ n → (V.device d).node k ≡ (W.device d).node k
  pub attempts : (a : AttemptState) → coordinator a.plan.epoch ≢ n → AttemptAt W (Some a) → AttemptAt V (Some a)

-- It takes a step of memberships, in which each device takes its part, and is so after it.
pub record MembershipGoes (S : Setting) (c : Cluster) (W : Whole) (n : ℕ) (e : membership.Event) (devices : Devices) (disk : NodeRecord) (node : Node) : Type 0 where
  pub machine : Whole
  pub moves : Moves S W n machine
  pub memberships : machine.memberships ≡ membership.after W.memberships e
  pub devices_so : DevicesTied c devices machine
  pub at : NodeAt c machine n disk node

-- It does something at devices alone, which leaves them so, and is y after it.
pub record DeviceGoes (S : Setting) (c : Cluster) (W : Whole) (n : ℕ) (devices : Devices) (y : UpNode) : Type 0 where
  pub machine : Whole
  pub moves : Moves S W n machine
  pub memberships : machine.memberships ≡ W.memberships
  pub devices_so : DevicesTied c devices machine
  pub at : UpAt c machine n y

-- Its attempt takes a turn: at each device the machine has it after the turn, with all that its steps ask for; where it installs, it may be counted there.
-- No node and no device is changed.
pub record CallGoes (S : Setting) (W : Whole) (n : ℕ) (u : Turn) : Type 0 where
  pub machine : Whole
  pub moves : Moves S W n machine
  pub memberships : machine.memberships ≡ W.memberships
  pub node : (d : ℕ) → (machine.device d).node ≡ (W.device d).node
  pub device : (d : ℕ) → (machine.device d).device ≡ (W.device d).device
  pub asked : (d : ℕ) → All (AsksAt (machine.device d) u.after.plan d) u.steps
  pub counts : (d : ℕ) → CountsAt (machine.device d) u.after d (installs_in u.steps)
