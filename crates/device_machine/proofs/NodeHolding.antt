-- A node seizes, from its swap on: what each of these steps leaves true of it.
use Rattle.std.proofs.Common.{◌≡◌, ℕ, ◌⊎◌, false, arith}
use Rattle.device_machine.specs.Phase.{Phase, IsSeizing}
use Rattle.device_machine.specs.Initiator.{Initiator, to_phase, marking, marking_lost, aiming, ending}
use Rattle.device_machine.specs.Attempt.{Attempt}
use Rattle.device_machine.proofs.Invariant.{NodeOk}

-- Swap.
pub marking_node : (A : ℕ → Attempt) (n : ℕ) (v : Initiator) → NodeOk A n v → v.phase ≡ Phase.Swapping → NodeOk A n (marking v)
marking_node A n v i at = record {
  session = grind arith;
  installed = grind arith;
  showed = grind arith;
  busy = grind arith;
  collected = grind arith;
  member = grind arith;
  asked = grind arith;
  kind = grind arith;
  before = grind arith;
  running = grind arith;
  untrusted = grind arith;
  plain = grind arith;
  trusted = grind arith;
  less = grind arith;
  outside = grind arith;
  unwritten = grind arith;
  distrusted = grind arith;
  joining = grind arith;
  joining_counted = grind arith;
  joining_held = grind arith;
  joined = grind arith;
  joined_valid = grind arith;
  joined_installed = grind arith;
  joined_counted = grind arith;
  joined_held = grind arith;
  seized_phase = grind arith;
  unregistered_over = grind arith;
  seizings_none = grind arith;
  joinings_none = grind arith;
}

-- Swap_lost.
pub marking_lost_node : (A : ℕ → Attempt) (n : ℕ) (v : Initiator) → NodeOk A n v → v.phase ≡ Phase.Swapping → NodeOk A n (marking_lost v)
marking_lost_node A n v i at = record {
  session = grind arith;
  installed = grind arith;
  showed = grind arith;
  busy = grind arith;
  collected = grind arith;
  member = grind arith;
  asked = grind arith;
  kind = grind arith;
  before = grind arith;
  running = grind arith;
  untrusted = grind arith;
  plain = grind arith;
  trusted = grind arith;
  less = grind arith;
  outside = grind arith;
  unwritten = grind arith;
  distrusted = grind arith;
  joining = grind arith;
  joining_counted = grind arith;
  joining_held = grind arith;
  joined = grind arith;
  joined_valid = grind arith;
  joined_installed = grind arith;
  joined_counted = grind arith;
  joined_held = grind arith;
  seized_phase = grind arith;
  unregistered_over = grind arith;
  seizings_none = grind arith;
  joinings_none = grind arith;
}

-- Reserve, and Preempt.
pub reserved_node : (A : ℕ → Attempt) (n : ℕ) (v : Initiator) → NodeOk A n v → (v.phase ≡ Phase.Marked) ⊎ (v.phase ≡ Phase.Preempting)
    → NodeOk A n (to_phase v Phase.Reserved)
reserved_node A n v i at = record {
  session = grind arith;
  installed = grind arith;
  showed = grind arith;
  busy = grind arith;
  collected = grind arith;
  member = grind arith;
  asked = grind arith;
  kind = grind arith;
  before = grind arith;
  running = grind arith;
  untrusted = grind arith;
  plain = grind arith;
  trusted = grind arith;
  less = grind arith;
  outside = grind arith;
  unwritten = grind arith;
  distrusted = grind arith;
  joining = grind arith;
  joining_counted = grind arith;
  joining_held = grind arith;
  joined = grind arith;
  joined_valid = grind arith;
  joined_installed = grind arith;
  joined_counted = grind arith;
  joined_held = grind arith;
  seized_phase = grind arith;
  unregistered_over = grind arith;
  seizings_none = grind arith;
  joinings_none = grind arith;
}

-- Look.
pub aiming_node : (A : ℕ → Attempt) (n : ℕ) (v : Initiator) (k : ℕ) → NodeOk A n v → v.phase ≡ Phase.Reserved → (A v.session).members k ≡ false
    → NodeOk A n (aiming v k)
aiming_node A n v k i at outside = record {
  session = grind arith;
  installed = grind arith;
  showed = grind arith;
  busy = grind arith;
  collected = grind arith;
  member = grind arith;
  asked = grind arith;
  kind = grind arith;
  before = grind arith;
  running = grind arith;
  untrusted = grind arith;
  plain = grind arith;
  trusted = grind arith;
  less = grind arith;
  outside = grind arith;
  unwritten = grind arith;
  distrusted = grind arith;
  joining = grind arith;
  joining_counted = grind arith;
  joining_held = grind arith;
  joined = grind arith;
  joined_valid = grind arith;
  joined_installed = grind arith;
  joined_counted = grind arith;
  joined_held = grind arith;
  seized_phase = grind arith;
  unregistered_over = grind arith;
  seizings_none = grind arith;
  joinings_none = grind arith;
}

-- Clear.
pub cleared_node : (A : ℕ → Attempt) (n : ℕ) (v : Initiator) → NodeOk A n v → v.phase ≡ Phase.Reserved → NodeOk A n (to_phase v Phase.Cleared)
cleared_node A n v i at = record {
  session = grind arith;
  installed = grind arith;
  showed = grind arith;
  busy = grind arith;
  collected = grind arith;
  member = grind arith;
  asked = grind arith;
  kind = grind arith;
  before = grind arith;
  running = grind arith;
  untrusted = grind arith;
  plain = grind arith;
  trusted = grind arith;
  less = grind arith;
  outside = grind arith;
  unwritten = grind arith;
  distrusted = grind arith;
  joining = grind arith;
  joining_counted = grind arith;
  joining_held = grind arith;
  joined = grind arith;
  joined_valid = grind arith;
  joined_installed = grind arith;
  joined_counted = grind arith;
  joined_held = grind arith;
  seized_phase = grind arith;
  unregistered_over = grind arith;
  seizings_none = grind arith;
  joinings_none = grind arith;
}

-- Fail, and commands that were done while their answer was lost.
pub ending_node : (A : ℕ → Attempt) (n : ℕ) (v : Initiator) → NodeOk A n v → IsSeizing v.phase → NodeOk A n (ending v)
ending_node A n v i at = record {
  session = grind arith;
  installed = grind arith;
  showed = grind arith;
  busy = grind arith;
  collected = grind arith;
  member = grind arith;
  asked = grind arith;
  kind = grind arith;
  before = grind arith;
  running = grind arith;
  untrusted = grind arith;
  plain = grind arith;
  trusted = grind arith;
  less = grind arith;
  outside = grind arith;
  unwritten = grind arith;
  distrusted = grind arith;
  joining = grind arith;
  joining_counted = grind arith;
  joining_held = grind arith;
  joined = grind arith;
  joined_valid = grind arith;
  joined_installed = grind arith;
  joined_counted = grind arith;
  joined_held = grind arith;
  seized_phase = grind arith;
  unregistered_over = grind arith;
  seizings_none = grind arith;
  joinings_none = grind arith;
}
