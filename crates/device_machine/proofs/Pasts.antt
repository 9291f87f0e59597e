-- What each step leaves true of the history of the node that takes it.
use Rattle.std.proofs.Common.{◌≡◌, ℕ, ◌<◌, ◌≤◌, Bool, true, false, arith}
use Rattle.device_machine.specs.Initiator.{Initiator, promising, seizing, marking, rejecting, ending, joining}
use Rattle.device_machine.specs.Attempt.{Attempt}
use Rattle.device_machine.proofs.Invariant.{PastOk}

-- Promise
pub promising_past : (A : ℕ → Attempt) (n : ℕ) (v : Initiator) (p : ℕ) → PastOk A n v.promised v.past → v.promised < p → PastOk A n (promising v p).promised (promising v p).past
promising_past A n v p i h0 = record {
  seized_held = i.seized_held;
  seized_asked = i.seized_asked;
  seized_ended = i.seized_ended;
  unregistered_ended = i.unregistered_ended;
  unregistered_unwritten = i.unregistered_unwritten;
  unregistered_unseized = i.unregistered_unseized;
  ended_low = λ q s. grind arith;
  wrote_asked = i.wrote_asked;
  wrote_low = λ q s. grind arith;
  seizings = i.seizings;
  seizings_low = λ q s. grind arith;
  joinings = i.joinings;
  joinings_low = λ q s. grind arith;
}

-- Seize
pub seizing_past : (A : ℕ → Attempt) (n : ℕ) (v : Initiator) (k : Bool) → PastOk A n v.promised v.past → v.session ≤ v.promised → v.past.seizings v.session ≡ 0 → PastOk A n (seizing v k).promised (seizing v k).past
seizing_past A n v k i h0 h1 = record {
  seized_held = i.seized_held;
  seized_asked = i.seized_asked;
  seized_ended = i.seized_ended;
  unregistered_ended = i.unregistered_ended;
  unregistered_unwritten = i.unregistered_unwritten;
  unregistered_unseized = i.unregistered_unseized;
  ended_low = i.ended_low;
  wrote_asked = i.wrote_asked;
  wrote_low = i.wrote_low;
  seizings = λ q. grind arith;
  seizings_low = λ q s. grind arith;
  joinings = i.joinings;
  joinings_low = i.joinings_low;
}

-- Swap
pub marking_past : (A : ℕ → Attempt) (n : ℕ) (v : Initiator) → PastOk A n v.promised v.past → v.session ≤ v.promised → (A v.session).asked n ≡ true → v.past.unregistered v.session ≡ false → PastOk A n (marking v).promised (marking v).past
marking_past A n v i h0 h1 h2 = record {
  seized_held = i.seized_held;
  seized_asked = i.seized_asked;
  seized_ended = i.seized_ended;
  unregistered_ended = i.unregistered_ended;
  unregistered_unwritten = λ q s. grind arith;
  unregistered_unseized = i.unregistered_unseized;
  ended_low = i.ended_low;
  wrote_asked = λ q s. grind arith;
  wrote_low = λ q s. grind arith;
  seizings = i.seizings;
  seizings_low = i.seizings_low;
  joinings = i.joinings;
  joinings_low = i.joinings_low;
}

-- Fail, and commands that were done while their answer was lost
pub ending_past : (A : ℕ → Attempt) (n : ℕ) (v : Initiator) → PastOk A n v.promised v.past → v.session ≤ v.promised → PastOk A n (ending v).promised (ending v).past
ending_past A n v i h0 = record {
  seized_held = i.seized_held;
  seized_asked = i.seized_asked;
  seized_ended = λ q s. grind arith;
  unregistered_ended = λ q s. grind arith;
  unregistered_unwritten = i.unregistered_unwritten;
  unregistered_unseized = i.unregistered_unseized;
  ended_low = λ q s. grind arith;
  wrote_asked = i.wrote_asked;
  wrote_low = i.wrote_low;
  seizings = i.seizings;
  seizings_low = i.seizings_low;
  joinings = i.joinings;
  joinings_low = i.joinings_low;
}

-- Reject
pub rejecting_past : (A : ℕ → Attempt) (n : ℕ) (v : Initiator) → PastOk A n v.promised v.past → v.session ≤ v.promised → v.past.wrote v.session ≡ false → v.past.seized v.session ≡ false → PastOk A n (rejecting v).promised (rejecting v).past
rejecting_past A n v i h0 h1 h2 = record {
  seized_held = i.seized_held;
  seized_asked = i.seized_asked;
  seized_ended = λ q s. grind arith;
  unregistered_ended = λ q s. grind arith;
  unregistered_unwritten = λ q s. grind arith;
  unregistered_unseized = λ q s. grind arith;
  ended_low = λ q s. grind arith;
  wrote_asked = i.wrote_asked;
  wrote_low = i.wrote_low;
  seizings = i.seizings;
  seizings_low = i.seizings_low;
  joinings = i.joinings;
  joinings_low = i.joinings_low;
}

-- Install_new
pub joining_past : (A : ℕ → Attempt) (n : ℕ) (v : Initiator) → PastOk A n v.promised v.past → v.session ≤ v.promised → v.past.joinings v.session ≡ 0 → PastOk A n (joining v).promised (joining v).past
joining_past A n v i h0 h1 = record {
  seized_held = i.seized_held;
  seized_asked = i.seized_asked;
  seized_ended = i.seized_ended;
  unregistered_ended = i.unregistered_ended;
  unregistered_unwritten = i.unregistered_unwritten;
  unregistered_unseized = i.unregistered_unseized;
  ended_low = i.ended_low;
  wrote_asked = i.wrote_asked;
  wrote_low = i.wrote_low;
  seizings = i.seizings;
  seizings_low = i.seizings_low;
  joinings = λ q. grind arith;
  joinings_low = λ q s. grind arith;
}
