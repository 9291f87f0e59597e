-- A node begins to seize, up to its swap: what each of these steps leaves true of it.
use Rattle.std.proofs.Common.{◌≡◌, ℕ, ◌<◌, Bool, true, false, arith}
use Rattle.device_machine.specs.Phase.{Phase, AsksWord}
use Rattle.device_machine.specs.Initiator.{Initiator, to_phase, seizing, unvalidated, expecting, rejecting}
use Rattle.device_machine.specs.Attempt.{Attempt}
use Rattle.device_machine.proofs.Invariant.{NodeOk}

-- Seize.
pub seizing_node : (A : ℕ → Attempt) (n : ℕ) (v : Initiator) (k : Bool) → NodeOk A n v → 0 < v.session → (A v.session).collected ≡ true
    → (A v.session).members n ≡ true → (A v.session).asked n ≡ true → (A v.session).quorum ≡ k → v.installed < v.session → v.phase ≡ Phase.Idle
    → NodeOk A n (seizing v k)
seizing_node A n v k i in_session collected member asked kind lt at = record {
  session = grind arith;
  installed = grind arith;
  showed = grind arith;
  busy = grind arith;
  collected = grind arith;
  member = grind arith;
  asked = grind arith;
  kind = grind arith;
  before = grind arith;
  running = grind arith;
  untrusted = grind arith;
  plain = grind arith;
  trusted = grind arith;
  less = grind arith;
  outside = grind arith;
  unwritten = grind arith;
  distrusted = grind arith;
  joining = grind arith;
  joining_counted = grind arith;
  joining_held = grind arith;
  joined = grind arith;
  joined_valid = grind arith;
  joined_installed = grind arith;
  joined_counted = grind arith;
  joined_held = grind arith;
  seized_phase = grind arith;
  unregistered_over = grind arith;
  seizings_none = grind arith;
  joinings_none = grind arith;
}

-- Check.
pub checked_node : (A : ℕ → Attempt) (n : ℕ) (v : Initiator) → NodeOk A n v → v.phase ≡ Phase.Asked → v.valid ≡ true
    → NodeOk A n (to_phase v Phase.Keyed)
checked_node A n v i at valid = record {
  session = grind arith;
  installed = grind arith;
  showed = grind arith;
  busy = grind arith;
  collected = grind arith;
  member = grind arith;
  asked = grind arith;
  kind = grind arith;
  before = grind arith;
  running = grind arith;
  untrusted = grind arith;
  plain = grind arith;
  trusted = grind arith;
  less = grind arith;
  outside = grind arith;
  unwritten = grind arith;
  distrusted = grind arith;
  joining = grind arith;
  joining_counted = grind arith;
  joining_held = grind arith;
  joined = grind arith;
  joined_valid = grind arith;
  joined_installed = grind arith;
  joined_counted = grind arith;
  joined_held = grind arith;
  seized_phase = grind arith;
  unregistered_over = grind arith;
  seizings_none = grind arith;
  joinings_none = grind arith;
}

-- Reject.
pub rejecting_node : (A : ℕ → Attempt) (n : ℕ) (v : Initiator) → NodeOk A n v → v.phase ≡ Phase.Asked → NodeOk A n (rejecting v)
rejecting_node A n v i at = record {
  session = grind arith;
  installed = grind arith;
  showed = grind arith;
  busy = grind arith;
  collected = grind arith;
  member = grind arith;
  asked = grind arith;
  kind = grind arith;
  before = grind arith;
  running = grind arith;
  untrusted = grind arith;
  plain = grind arith;
  trusted = grind arith;
  less = grind arith;
  outside = grind arith;
  unwritten = grind arith;
  distrusted = grind arith;
  joining = grind arith;
  joining_counted = grind arith;
  joining_held = grind arith;
  joined = grind arith;
  joined_valid = grind arith;
  joined_installed = grind arith;
  joined_counted = grind arith;
  joined_held = grind arith;
  seized_phase = grind arith;
  unregistered_over = grind arith;
  seizings_none = grind arith;
  joinings_none = grind arith;
}

-- Distrust.
pub unvalidated_node : (A : ℕ → Attempt) (n : ℕ) (v : Initiator) → NodeOk A n v → v.phase ≡ Phase.Asked → v.quorum ≡ false
    → NodeOk A n (unvalidated v)
unvalidated_node A n v i at no_votes = record {
  session = grind arith;
  installed = grind arith;
  showed = grind arith;
  busy = grind arith;
  collected = grind arith;
  member = grind arith;
  asked = grind arith;
  kind = grind arith;
  before = grind arith;
  running = grind arith;
  untrusted = grind arith;
  plain = grind arith;
  trusted = grind arith;
  less = grind arith;
  outside = grind arith;
  unwritten = grind arith;
  distrusted = grind arith;
  joining = grind arith;
  joining_counted = grind arith;
  joining_held = grind arith;
  joined = grind arith;
  joined_valid = grind arith;
  joined_installed = grind arith;
  joined_counted = grind arith;
  joined_held = grind arith;
  seized_phase = grind arith;
  unregistered_over = grind arith;
  seizings_none = grind arith;
  joinings_none = grind arith;
}

-- Register.
pub registered_node : (A : ℕ → Attempt) (n : ℕ) (v : Initiator) → NodeOk A n v → v.phase ≡ Phase.Untrusted → NodeOk A n (to_phase v Phase.Keyed)
registered_node A n v i at = record {
  session = grind arith;
  installed = grind arith;
  showed = grind arith;
  busy = grind arith;
  collected = grind arith;
  member = grind arith;
  asked = grind arith;
  kind = grind arith;
  before = grind arith;
  running = grind arith;
  untrusted = grind arith;
  plain = grind arith;
  trusted = grind arith;
  less = grind arith;
  outside = grind arith;
  unwritten = grind arith;
  distrusted = grind arith;
  joining = grind arith;
  joining_counted = grind arith;
  joining_held = grind arith;
  joined = grind arith;
  joined_valid = grind arith;
  joined_installed = grind arith;
  joined_counted = grind arith;
  joined_held = grind arith;
  seized_phase = grind arith;
  unregistered_over = grind arith;
  seizings_none = grind arith;
  joinings_none = grind arith;
}

-- Word_less.
pub expecting_node : (A : ℕ → Attempt) (n : ℕ) (v : Initiator) (w : ℕ) → NodeOk A n v → AsksWord v.phase → w < v.session → NodeOk A n (expecting v w)
expecting_node A n v w i at lt = record {
  session = grind arith;
  installed = grind arith;
  showed = grind arith;
  busy = grind arith;
  collected = grind arith;
  member = grind arith;
  asked = grind arith;
  kind = grind arith;
  before = grind arith;
  running = grind arith;
  untrusted = grind arith;
  plain = grind arith;
  trusted = grind arith;
  less = grind arith;
  outside = grind arith;
  unwritten = grind arith;
  distrusted = grind arith;
  joining = grind arith;
  joining_counted = grind arith;
  joining_held = grind arith;
  joined = grind arith;
  joined_valid = grind arith;
  joined_installed = grind arith;
  joined_counted = grind arith;
  joined_held = grind arith;
  seized_phase = grind arith;
  unregistered_over = grind arith;
  seizings_none = grind arith;
  joinings_none = grind arith;
}

-- Word_same.
pub marked_node : (A : ℕ → Attempt) (n : ℕ) (v : Initiator) → NodeOk A n v → AsksWord v.phase → NodeOk A n (to_phase v Phase.Marked)
marked_node A n v i at = record {
  session = grind arith;
  installed = grind arith;
  showed = grind arith;
  busy = grind arith;
  collected = grind arith;
  member = grind arith;
  asked = grind arith;
  kind = grind arith;
  before = grind arith;
  running = grind arith;
  untrusted = grind arith;
  plain = grind arith;
  trusted = grind arith;
  less = grind arith;
  outside = grind arith;
  unwritten = grind arith;
  distrusted = grind arith;
  joining = grind arith;
  joining_counted = grind arith;
  joining_held = grind arith;
  joined = grind arith;
  joined_valid = grind arith;
  joined_installed = grind arith;
  joined_counted = grind arith;
  joined_held = grind arith;
  seized_phase = grind arith;
  unregistered_over = grind arith;
  seizings_none = grind arith;
  joinings_none = grind arith;
}
