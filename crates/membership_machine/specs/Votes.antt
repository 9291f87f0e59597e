-- Votes of nodes and quorum devices, and what a majority of them is.
use Rattle.std.specs.Prelude.{ℕ, zero, suc, ◌+◌, ◌*◌, ◌<◌, Bool, true, if◌then◌else◌, List}
use Rattle.membership_machine.specs.Records.{Update}

-- the votes of each node and of each quorum device; who has no vote has 0 (maintenance, not configured, disabled)
pub record Votes : Type 0 where
  pub of_node : ℕ → ℕ
  pub of_device : ℕ → ℕ

-- What never changes: nodes and devices have numbers below these two, and a list of updates makes a configuration, which has its votes.
pub record Setting : Type 0 where
  pub nodes : ℕ
  pub devices : ℕ
  pub config : List Update → Votes

-- the votes of the chosen ones among the first n
abbrev pub weight : (ℕ → ℕ) → (ℕ → Bool) → ℕ → ℕ
weight v chosen zero = zero
weight v chosen (suc n) = weight v chosen n + (if chosen n then v n else zero)

-- the votes held by these members with these devices
abbrev pub held : Setting → Votes → (ℕ → Bool) → (ℕ → Bool) → ℕ
held S v members devices = weight v.of_node members S.nodes + weight v.of_device devices S.devices

-- all votes there are
abbrev pub total : Setting → Votes → ℕ
total S v = held S v (λ _. true) (λ _. true)

-- Members with devices are a majority: they hold more than half of all votes.
pub record IsMajority (S : Setting) (v : Votes) (members devices : ℕ → Bool) : Type 0 where
  pub more_than_half : total S v < 2 * held S v members devices
