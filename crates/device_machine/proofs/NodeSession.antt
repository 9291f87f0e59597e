-- A node promises, goes down, installs and joins: what each of these steps leaves true of it.
use Rattle.std.proofs.Common.{◌≡◌, ℕ, ◌<◌, true, false, arith}
use Rattle.machine_base.proofs.Puts.{put_here}
use Rattle.device_machine.specs.Phase.{Phase, IsJoining}
use Rattle.device_machine.specs.Initiator.{Initiator, promising, crashing, to_phase, installing, admitted, joining}
use Rattle.device_machine.specs.Attempt.{Attempt}
use Rattle.device_machine.proofs.Invariant.{NodeOk}

-- Promise: nothing was done yet for the number promised.
pub promising_node : (A : ℕ → Attempt) (n : ℕ) (v : Initiator) (q : ℕ) → NodeOk A n v → v.promised < q → v.past.ended q ≡ false
    → v.past.wrote q ≡ false → v.past.seized q ≡ false → v.past.unregistered q ≡ false → v.past.seizings q ≡ 0 → v.past.joinings q ≡ 0
    → NodeOk A n (promising v q)
promising_node A n v q i lt ended wrote seized unregistered seizings joinings = record {
  session = grind arith;
  installed = grind arith;
  showed = λ h l. put_here v.past.showed q v.installed;
  busy = grind arith;
  collected = grind arith;
  member = grind arith;
  asked = grind arith;
  kind = grind arith;
  before = grind arith;
  running = grind arith;
  untrusted = grind arith;
  plain = grind arith;
  trusted = grind arith;
  less = grind arith;
  outside = grind arith;
  unwritten = grind arith;
  distrusted = grind arith;
  joining = grind arith;
  joining_counted = grind arith;
  joining_held = grind arith;
  joined = grind arith;
  joined_valid = grind arith;
  joined_installed = grind arith;
  joined_counted = grind arith;
  joined_held = grind arith;
  seized_phase = grind arith;
  unregistered_over = grind arith;
  seizings_none = grind arith;
  joinings_none = grind arith;
}

-- Crash.
pub crashing_node : (A : ℕ → Attempt) (n : ℕ) (v : Initiator) → NodeOk A n v → NodeOk A n (crashing v)
crashing_node A n v i = record {
  session = grind arith;
  installed = grind arith;
  showed = grind arith;
  busy = grind arith;
  collected = grind arith;
  member = grind arith;
  asked = grind arith;
  kind = grind arith;
  before = grind arith;
  running = grind arith;
  untrusted = grind arith;
  plain = grind arith;
  trusted = grind arith;
  less = grind arith;
  outside = grind arith;
  unwritten = grind arith;
  distrusted = grind arith;
  joining = grind arith;
  joining_counted = grind arith;
  joining_held = grind arith;
  joined = grind arith;
  joined_valid = grind arith;
  joined_installed = grind arith;
  joined_counted = grind arith;
  joined_held = grind arith;
  seized_phase = grind arith;
  unregistered_over = grind arith;
  seizings_none = grind arith;
  joinings_none = grind arith;
}

-- Install_apart.
pub installing_node : (A : ℕ → Attempt) (n : ℕ) (v : Initiator) → NodeOk A n v → 0 < v.session → (A v.session).counted ≡ true
    → (A v.session).collected ≡ true → (A v.session).members n ≡ true → v.installed < v.session → NodeOk A n (installing v)
installing_node A n v i in_session counted collected member lt = record {
  session = grind arith;
  installed = grind arith;
  showed = grind arith;
  busy = grind arith;
  collected = grind arith;
  member = grind arith;
  asked = grind arith;
  kind = grind arith;
  before = grind arith;
  running = grind arith;
  untrusted = grind arith;
  plain = grind arith;
  trusted = grind arith;
  less = grind arith;
  outside = grind arith;
  unwritten = grind arith;
  distrusted = grind arith;
  joining = grind arith;
  joining_counted = grind arith;
  joining_held = grind arith;
  joined = grind arith;
  joined_valid = grind arith;
  joined_installed = grind arith;
  joined_counted = grind arith;
  joined_held = grind arith;
  seized_phase = grind arith;
  unregistered_over = grind arith;
  seizings_none = grind arith;
  joinings_none = grind arith;
}

-- Install_seizer and Install_known.
pub joined_node : (A : ℕ → Attempt) (n : ℕ) (v : Initiator) → NodeOk A n v → 0 < v.session → (A v.session).counted ≡ true
    → (A v.session).collected ≡ true → (A v.session).members n ≡ true → v.installed < v.session → (A v.session).holds ≡ true
    → NodeOk A n (admitted (installing v))
joined_node A n v i in_session counted collected member lt holds = record {
  session = grind arith;
  installed = grind arith;
  showed = grind arith;
  busy = grind arith;
  collected = grind arith;
  member = grind arith;
  asked = grind arith;
  kind = grind arith;
  before = grind arith;
  running = grind arith;
  untrusted = grind arith;
  plain = grind arith;
  trusted = grind arith;
  less = grind arith;
  outside = grind arith;
  unwritten = grind arith;
  distrusted = grind arith;
  joining = grind arith;
  joining_counted = grind arith;
  joining_held = grind arith;
  joined = grind arith;
  joined_valid = grind arith;
  joined_installed = grind arith;
  joined_counted = grind arith;
  joined_held = grind arith;
  seized_phase = grind arith;
  unregistered_over = grind arith;
  seizings_none = grind arith;
  joinings_none = grind arith;
}

-- Install_new.
pub joining_node : (A : ℕ → Attempt) (n : ℕ) (v : Initiator) → NodeOk A n v → 0 < v.session → (A v.session).counted ≡ true
    → (A v.session).collected ≡ true → (A v.session).members n ≡ true → v.installed < v.session → (A v.session).holds ≡ true → NodeOk A n (joining v)
joining_node A n v i in_session counted collected member lt holds = record {
  session = grind arith;
  installed = grind arith;
  showed = grind arith;
  busy = grind arith;
  collected = grind arith;
  member = grind arith;
  asked = grind arith;
  kind = grind arith;
  before = grind arith;
  running = grind arith;
  untrusted = grind arith;
  plain = grind arith;
  trusted = grind arith;
  less = grind arith;
  outside = grind arith;
  unwritten = grind arith;
  distrusted = grind arith;
  joining = grind arith;
  joining_counted = grind arith;
  joining_held = grind arith;
  joined = grind arith;
  joined_valid = grind arith;
  joined_installed = grind arith;
  joined_counted = grind arith;
  joined_held = grind arith;
  seized_phase = grind arith;
  unregistered_over = grind arith;
  seizings_none = grind arith;
  joinings_none = grind arith;
}

-- Enter.
pub entered_node : (A : ℕ → Attempt) (n : ℕ) (v : Initiator) → NodeOk A n v → v.phase ≡ Phase.Joining → NodeOk A n (to_phase v Phase.Entered)
entered_node A n v i at = record {
  session = grind arith;
  installed = grind arith;
  showed = grind arith;
  busy = grind arith;
  collected = grind arith;
  member = grind arith;
  asked = grind arith;
  kind = grind arith;
  before = grind arith;
  running = grind arith;
  untrusted = grind arith;
  plain = grind arith;
  trusted = grind arith;
  less = grind arith;
  outside = grind arith;
  unwritten = grind arith;
  distrusted = grind arith;
  joining = grind arith;
  joining_counted = grind arith;
  joining_held = grind arith;
  joined = grind arith;
  joined_valid = grind arith;
  joined_installed = grind arith;
  joined_counted = grind arith;
  joined_held = grind arith;
  seized_phase = grind arith;
  unregistered_over = grind arith;
  seizings_none = grind arith;
  joinings_none = grind arith;
}

-- Late, and Enter_lost.
pub late_node : (A : ℕ → Attempt) (n : ℕ) (v : Initiator) → NodeOk A n v → IsJoining v.phase → NodeOk A n (to_phase v Phase.Over)
late_node A n v i at = record {
  session = grind arith;
  installed = grind arith;
  showed = grind arith;
  busy = grind arith;
  collected = grind arith;
  member = grind arith;
  asked = grind arith;
  kind = grind arith;
  before = grind arith;
  running = grind arith;
  untrusted = grind arith;
  plain = grind arith;
  trusted = grind arith;
  less = grind arith;
  outside = grind arith;
  unwritten = grind arith;
  distrusted = grind arith;
  joining = grind arith;
  joining_counted = grind arith;
  joining_held = grind arith;
  joined = grind arith;
  joined_valid = grind arith;
  joined_installed = grind arith;
  joined_counted = grind arith;
  joined_held = grind arith;
  seized_phase = grind arith;
  unregistered_over = grind arith;
  seizings_none = grind arith;
  joinings_none = grind arith;
}

-- Admit.
pub admitted_node : (A : ℕ → Attempt) (n : ℕ) (v : Initiator) → NodeOk A n v → v.phase ≡ Phase.Entered → NodeOk A n (admitted v)
admitted_node A n v i at = record {
  session = grind arith;
  installed = grind arith;
  showed = grind arith;
  busy = grind arith;
  collected = grind arith;
  member = grind arith;
  asked = grind arith;
  kind = grind arith;
  before = grind arith;
  running = grind arith;
  untrusted = grind arith;
  plain = grind arith;
  trusted = grind arith;
  less = grind arith;
  outside = grind arith;
  unwritten = grind arith;
  distrusted = grind arith;
  joining = grind arith;
  joining_counted = grind arith;
  joining_held = grind arith;
  joined = grind arith;
  joined_valid = grind arith;
  joined_installed = grind arith;
  joined_counted = grind arith;
  joined_held = grind arith;
  seized_phase = grind arith;
  unregistered_over = grind arith;
  seizings_none = grind arith;
  joinings_none = grind arith;
}
