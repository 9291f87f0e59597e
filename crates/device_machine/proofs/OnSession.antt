-- A node promises, goes down, installs and joins: what each of these steps leaves true of it and the device.
-- Where the step changes the device, this is said at the device that it left.
use Rattle.std.proofs.Common.{◌≡◌, ℕ, ◌<◌, ◌≤◌, ◌⊎◌, true, false, arith}
use Rattle.device_machine.specs.Phase.{Phase, rank, IsJoining}
use Rattle.device_machine.specs.Device.{Device, registering}
use Rattle.device_machine.specs.Initiator.{Initiator, promising, crashing, to_phase, installing, admitted, joining}
use Rattle.device_machine.specs.Attempt.{Attempt}
use Rattle.device_machine.proofs.Invariant.{NodeOk, OnDevice}

-- Promise.
pub promising_on : (A : ℕ → Attempt) (d : Device) (top n : ℕ) (v : Initiator) (q : ℕ) → NodeOk A n v → OnDevice A d top n v → v.past.seized q ≡ false
    → OnDevice A d top n (promising v q)
promising_on A d top n v q v_ok i seized = record {
  word = grind arith;
  reserved_own = grind arith;
  reserved = grind arith;
  valid_top = grind arith;
  seized_top = grind arith;
  valid_held = λ e. grind arith;
  seized_held = λ e. grind arith;
  quorum_held = λ e. grind arith;
  seized_showed = λ p e. grind arith;
}

-- Crash.
pub crashing_on : (A : ℕ → Attempt) (d : Device) (top n : ℕ) (v : Initiator) → NodeOk A n v → OnDevice A d top n v → OnDevice A d top n (crashing v)
crashing_on A d top n v v_ok i = record {
  word = grind arith;
  reserved_own = grind arith;
  reserved = grind arith;
  valid_top = grind arith;
  seized_top = grind arith;
  valid_held = λ e. grind arith;
  seized_held = λ e. grind arith;
  quorum_held = λ e. grind arith;
  seized_showed = i.seized_showed;
}

-- Install_apart.
pub installing_on : (A : ℕ → Attempt) (d : Device) (top n : ℕ) (v : Initiator) → NodeOk A n v → OnDevice A d top n v → v.installed < v.session
    → OnDevice A d top n (installing v)
installing_on A d top n v v_ok i lt = record {
  word = grind arith;
  reserved_own = grind arith;
  reserved = grind arith;
  valid_top = grind arith;
  seized_top = grind arith;
  valid_held = λ e. grind arith;
  seized_held = λ e. grind arith;
  quorum_held = λ e. grind arith;
  seized_showed = i.seized_showed;
}

-- Install_seizer: the claim of the seizing becomes that of the valid mark.
pub seized_on : (A : ℕ → Attempt) (d : Device) (top n : ℕ) (v : Initiator) → NodeOk A n v → OnDevice A d top n v → v.installed < v.session
    → v.phase ≡ Phase.Seized → OnDevice A d top n (admitted (installing v))
seized_on A d top n v v_ok i lt at = record {
  word = grind arith;
  reserved_own = grind arith;
  reserved = grind arith;
  valid_top = grind arith;
  seized_top = grind arith;
  valid_held = λ e. grind arith;
  seized_held = λ e. grind arith;
  quorum_held = λ e. grind arith;
  seized_showed = i.seized_showed;
}

-- Install_known.
pub known_on : (A : ℕ → Attempt) (d : Device) (top n : ℕ) (v : Initiator) → NodeOk A n v → OnDevice A d top n v → v.installed < v.session
    → v.valid ≡ true → OnDevice A d top n (admitted (installing v))
known_on A d top n v v_ok i lt valid = record {
  word = grind arith;
  reserved_own = grind arith;
  reserved = grind arith;
  valid_top = grind arith;
  seized_top = grind arith;
  valid_held = λ e. grind arith;
  seized_held = λ e. grind arith;
  quorum_held = λ e. grind arith;
  seized_showed = i.seized_showed;
}

-- Install_new.
pub joining_on : (A : ℕ → Attempt) (d : Device) (top n : ℕ) (v : Initiator) → NodeOk A n v → OnDevice A d top n v → OnDevice A d top n (joining v)
joining_on A d top n v v_ok i = record {
  word = grind arith;
  reserved_own = grind arith;
  reserved = grind arith;
  valid_top = grind arith;
  seized_top = grind arith;
  valid_held = λ e. grind arith;
  seized_held = λ e. grind arith;
  quorum_held = λ e. grind arith;
  seized_showed = i.seized_showed;
}

-- A key comes, by Register or Enter: its node has no claim.
pub registering_on : (A : ℕ → Attempt) (d : Device) (top n : ℕ) (v : Initiator) → NodeOk A n v → OnDevice A d top n v
    → (rank v.phase ≡ 2) ⊎ (11 ≤ rank v.phase) → OnDevice A (registering d n) top n (v)
registering_on A d top n v v_ok i at = record {
  word = grind arith;
  reserved_own = grind arith;
  reserved = grind arith;
  valid_top = grind arith;
  seized_top = grind arith;
  valid_held = λ e. grind arith;
  seized_held = λ e. grind arith;
  quorum_held = λ e. grind arith;
  seized_showed = i.seized_showed;
}

-- Enter.
pub entered_on : (A : ℕ → Attempt) (d : Device) (top n : ℕ) (v : Initiator) → NodeOk A n v → OnDevice A d top n v → v.phase ≡ Phase.Joining
    → OnDevice A d top n (to_phase v Phase.Entered)
entered_on A d top n v v_ok i at = record {
  word = grind arith;
  reserved_own = grind arith;
  reserved = grind arith;
  valid_top = grind arith;
  seized_top = grind arith;
  valid_held = λ e. grind arith;
  seized_held = λ e. grind arith;
  quorum_held = λ e. grind arith;
  seized_showed = i.seized_showed;
}

-- Late, and Enter_lost.
pub late_on : (A : ℕ → Attempt) (d : Device) (top n : ℕ) (v : Initiator) → NodeOk A n v → OnDevice A d top n v → IsJoining v.phase
    → OnDevice A d top n (to_phase v Phase.Over)
late_on A d top n v v_ok i at = record {
  word = grind arith;
  reserved_own = grind arith;
  reserved = grind arith;
  valid_top = grind arith;
  seized_top = grind arith;
  valid_held = λ e. grind arith;
  seized_held = λ e. grind arith;
  quorum_held = λ e. grind arith;
  seized_showed = i.seized_showed;
}

-- Admit: the word is the session, so no greater attempt holds the device.
pub admitted_on : (A : ℕ → Attempt) (d : Device) (top n : ℕ) (v : Initiator) → NodeOk A n v → OnDevice A d top n v → v.phase ≡ Phase.Entered
    → top ≡ v.session → ((e : ℕ) → (A e).held ≡ true → e ≤ top) → OnDevice A d top n (admitted v)
admitted_on A d top n v v_ok i at top_same greatest = record {
  word = grind arith;
  reserved_own = grind arith;
  reserved = grind arith;
  valid_top = grind arith;
  seized_top = grind arith;
  valid_held = λ e. grind arith;
  seized_held = λ e. grind arith;
  quorum_held = λ e. grind arith;
  seized_showed = i.seized_showed;
}
