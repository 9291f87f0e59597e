-- What no event takes back, beside what `Later` has: what was asked, and how seizings ended. A message that asks a node to seize the
-- device, or tells how its seizing ended, tells facts that are among these, so what it tells is true whenever it comes.
use Rattle.std.specs.Prelude.{ℕ, ◌≡◌, ◌≤◌, true}
use Rattle.device_machine.specs.Initiator.{Initiator}
use Rattle.device_machine.specs.Attempt.{Attempt}
use Rattle.device_machine.specs.Sharing.{Sharing}

-- of an attempt
pub record AttemptGrows (e e' : Attempt) : Type 0 where
  pub collected : e.collected ≡ true → e'.collected ≡ true
  pub members : (m : ℕ) → e.collected ≡ true → e'.members m ≡ e.members m
  -- who was asked stays so, and as which kind of device it was to be seized
  pub asked : (m : ℕ) → e.asked m ≡ true → e'.asked m ≡ true
  pub quorum : (m : ℕ) → e.asked m ≡ true → e'.quorum ≡ e.quorum
  pub held : e.held ≡ true → e'.held ≡ true
  pub counted : e.counted ≡ true → e'.counted ≡ true
  pub holds : e.counted ≡ true → e'.holds ≡ e.holds
  -- once the votes are counted nobody more is asked, so the one asked last remains the seizer
  pub seizer : e.counted ≡ true → e'.seizer ≡ e.seizer

-- of a node
pub record NodeGrows (v v' : Initiator) : Type 0 where
  pub promised : v.promised ≤ v'.promised
  pub seized : (q : ℕ) → v.past.seized q ≡ true → v'.past.seized q ≡ true
  pub unregistered : (q : ℕ) → v.past.unregistered q ≡ true → v'.past.unregistered q ≡ true
  pub ended : (q : ℕ) → v.past.ended q ≡ true → v'.past.ended q ≡ true
  pub wrote : (q : ℕ) → v.past.wrote q ≡ true → v'.past.wrote q ≡ true
  -- once a seizing has ended, it is settled how: held or not, not-registered or not
  pub seized_settled : (q : ℕ) → v.past.ended q ≡ true → v'.past.seized q ≡ v.past.seized q
  pub unregistered_settled : (q : ℕ) → v.past.ended q ≡ true → v'.past.unregistered q ≡ v.past.unregistered q

-- of all nodes and attempts
pub record Grows (s t : Sharing) : Type 0 where
  pub node : (n : ℕ) → NodeGrows (s.node n) (t.node n)
  pub attempt : (q : ℕ) → AttemptGrows (s.attempt q) (t.attempt q)
