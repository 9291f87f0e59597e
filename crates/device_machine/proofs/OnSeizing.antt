-- A node seizes: what each of its steps leaves true of it and the device.
-- Where the step changes the device, this is said at the device that it left.
use Rattle.std.proofs.Common.{◌≡◌, ℕ, ◌≤◌, Bool, true, arith}
use Rattle.device_machine.specs.Phase.{Phase, rank}
use Rattle.device_machine.specs.Device.{Device}
use Rattle.device_machine.specs.Initiator.{Initiator, to_phase, seizing, unvalidated, expecting, marking, marking_lost, aiming, rejecting, ending}
use Rattle.device_machine.specs.Attempt.{Attempt}
use Rattle.device_machine.proofs.Invariant.{NodeOk, OnDevice}

-- Seize.
pub seizing_on : (A : ℕ → Attempt) (d : Device) (top n : ℕ) (v : Initiator) (k : Bool) → NodeOk A n v → OnDevice A d top n v
    → OnDevice A d top n (seizing v k)
seizing_on A d top n v k v_ok i = record {
  word = grind arith;
  reserved_own = grind arith;
  reserved = grind arith;
  valid_top = grind arith;
  seized_top = grind arith;
  valid_held = λ e. grind arith;
  seized_held = λ e. grind arith;
  quorum_held = λ e. grind arith;
  seized_showed = i.seized_showed;
}

-- Check, and Register.
pub checked_on : (A : ℕ → Attempt) (d : Device) (top n : ℕ) (v : Initiator) → NodeOk A n v → OnDevice A d top n v → rank v.phase ≤ 2
    → OnDevice A d top n (to_phase v Phase.Keyed)
checked_on A d top n v v_ok i at = record {
  word = grind arith;
  reserved_own = grind arith;
  reserved = grind arith;
  valid_top = grind arith;
  seized_top = grind arith;
  valid_held = λ e. grind arith;
  seized_held = λ e. grind arith;
  quorum_held = λ e. grind arith;
  seized_showed = i.seized_showed;
}

-- Reject.
pub rejecting_on : (A : ℕ → Attempt) (d : Device) (top n : ℕ) (v : Initiator) → NodeOk A n v → OnDevice A d top n v → OnDevice A d top n (rejecting v)
rejecting_on A d top n v v_ok i = record {
  word = grind arith;
  reserved_own = grind arith;
  reserved = grind arith;
  valid_top = grind arith;
  seized_top = grind arith;
  valid_held = λ e. grind arith;
  seized_held = λ e. grind arith;
  quorum_held = λ e. grind arith;
  seized_showed = i.seized_showed;
}

-- Distrust.
pub unvalidated_on : (A : ℕ → Attempt) (d : Device) (top n : ℕ) (v : Initiator) → NodeOk A n v → OnDevice A d top n v
    → OnDevice A d top n (unvalidated v)
unvalidated_on A d top n v v_ok i = record {
  word = grind arith;
  reserved_own = grind arith;
  reserved = grind arith;
  valid_top = grind arith;
  seized_top = grind arith;
  valid_held = λ e. grind arith;
  seized_held = λ e. grind arith;
  quorum_held = λ e. grind arith;
  seized_showed = i.seized_showed;
}

-- Word_less.
pub expecting_on : (A : ℕ → Attempt) (d : Device) (top n : ℕ) (v : Initiator) (w : ℕ) → NodeOk A n v → OnDevice A d top n v
    → OnDevice A d top n (expecting v w)
expecting_on A d top n v w v_ok i = record {
  word = grind arith;
  reserved_own = grind arith;
  reserved = grind arith;
  valid_top = grind arith;
  seized_top = grind arith;
  valid_held = λ e. grind arith;
  seized_held = λ e. grind arith;
  quorum_held = λ e. grind arith;
  seized_showed = i.seized_showed;
}

-- Word_same.
pub marked_on : (A : ℕ → Attempt) (d : Device) (top n : ℕ) (v : Initiator) → NodeOk A n v → OnDevice A d top n v → d.word ≡ v.session
    → OnDevice A d top n (to_phase v Phase.Marked)
marked_on A d top n v v_ok i same = record {
  word = grind arith;
  reserved_own = grind arith;
  reserved = grind arith;
  valid_top = grind arith;
  seized_top = grind arith;
  valid_held = λ e. grind arith;
  seized_held = λ e. grind arith;
  quorum_held = λ e. grind arith;
  seized_showed = i.seized_showed;
}

-- Swap, at the word that it wrote.
pub marking_on : (A : ℕ → Attempt) (d : Device) (top n : ℕ) (v : Initiator) → NodeOk A n v → OnDevice A d top n v → d.word ≡ v.session
    → OnDevice A d top n (marking v)
marking_on A d top n v v_ok i same = record {
  word = grind arith;
  reserved_own = grind arith;
  reserved = grind arith;
  valid_top = grind arith;
  seized_top = grind arith;
  valid_held = λ e. grind arith;
  seized_held = λ e. grind arith;
  quorum_held = λ e. grind arith;
  seized_showed = i.seized_showed;
}

-- Swap_lost.
pub marking_lost_on : (A : ℕ → Attempt) (d : Device) (top n : ℕ) (v : Initiator) → NodeOk A n v → OnDevice A d top n v
    → OnDevice A d top n (marking_lost v)
marking_lost_on A d top n v v_ok i = record {
  word = grind arith;
  reserved_own = grind arith;
  reserved = grind arith;
  valid_top = grind arith;
  seized_top = grind arith;
  valid_held = λ e. grind arith;
  seized_held = λ e. grind arith;
  quorum_held = λ e. grind arith;
  seized_showed = i.seized_showed;
}

-- Reserve and Preempt, at the device that they left.
pub reserved_on : (A : ℕ → Attempt) (d : Device) (top n : ℕ) (v : Initiator) → NodeOk A n v → OnDevice A d top n v → 5 ≤ rank v.phase
    → rank v.phase ≤ 7 → (d.keys n ≡ true → d.reserved ≡ true) → OnDevice A d top n (to_phase v Phase.Reserved)
reserved_on A d top n v v_ok i low high sees = record {
  word = grind arith;
  reserved_own = grind arith;
  reserved = grind arith;
  valid_top = grind arith;
  seized_top = grind arith;
  valid_held = λ e. grind arith;
  seized_held = λ e. grind arith;
  quorum_held = λ e. grind arith;
  seized_showed = i.seized_showed;
}

-- Look.
pub aiming_on : (A : ℕ → Attempt) (d : Device) (top n : ℕ) (v : Initiator) (k : ℕ) → NodeOk A n v → OnDevice A d top n v → v.phase ≡ Phase.Reserved
    → OnDevice A d top n (aiming v k)
aiming_on A d top n v k v_ok i at = record {
  word = grind arith;
  reserved_own = grind arith;
  reserved = grind arith;
  valid_top = grind arith;
  seized_top = grind arith;
  valid_held = λ e. grind arith;
  seized_held = λ e. grind arith;
  quorum_held = λ e. grind arith;
  seized_showed = i.seized_showed;
}

-- Clear: the node is registered, so a reservation stands, and what its valid mark says holds.
pub cleared_on : (A : ℕ → Attempt) (d : Device) (top n : ℕ) (v : Initiator) → NodeOk A n v → OnDevice A d top n v → v.phase ≡ Phase.Reserved
    → d.keys n ≡ true → OnDevice A d top n (to_phase v Phase.Cleared)
cleared_on A d top n v v_ok i at key = record {
  word = grind arith;
  reserved_own = grind arith;
  reserved = grind arith;
  valid_top = grind arith;
  seized_top = grind arith;
  valid_held = λ e. grind arith;
  seized_held = λ e. grind arith;
  quorum_held = λ e. grind arith;
  seized_showed = i.seized_showed;
}

-- Fail, and commands that were done while their answer was lost.
pub ending_on : (A : ℕ → Attempt) (d : Device) (top n : ℕ) (v : Initiator) → NodeOk A n v → OnDevice A d top n v → OnDevice A d top n (ending v)
ending_on A d top n v v_ok i = record {
  word = grind arith;
  reserved_own = grind arith;
  reserved = grind arith;
  valid_top = grind arith;
  seized_top = grind arith;
  valid_held = λ e. grind arith;
  seized_held = λ e. grind arith;
  quorum_held = λ e. grind arith;
  seized_showed = i.seized_showed;
}
