-- What holds in every state that is reached, in records split by what they read, so that whoever does not step keeps its own.
use Rattle.std.proofs.Common.{◌≡◌, ℕ, ◌<◌, ◌≤◌, ◌⊎◌, true, false}
use Rattle.device_machine.specs.Phase.{rank}
use Rattle.device_machine.specs.Device.{Device}
use Rattle.device_machine.specs.Initiator.{Past, Initiator}
use Rattle.device_machine.specs.Attempt.{Attempt}
use Rattle.device_machine.specs.Sharing.{Sharing}

-- Of node n's history alone, p being its promise, and of the attempts.
pub record PastOk (A : ℕ → Attempt) (n p : ℕ) (h : Past) : Type 0 where
  pub seized_held : (q : ℕ) → h.seized q ≡ true → (A q).held ≡ true
  pub seized_asked : (q : ℕ) → h.seized q ≡ true → (A q).asked n ≡ true
  pub seized_ended : (q : ℕ) → h.seized q ≡ true → h.ended q ≡ true
  pub unregistered_ended : (q : ℕ) → h.unregistered q ≡ true → h.ended q ≡ true
  pub unregistered_unwritten : (q : ℕ) → h.unregistered q ≡ true → h.wrote q ≡ false
  pub unregistered_unseized : (q : ℕ) → h.unregistered q ≡ true → h.seized q ≡ false
  pub ended_low : (q : ℕ) → h.ended q ≡ true → q ≤ p
  pub wrote_asked : (q : ℕ) → h.wrote q ≡ true → (A q).asked n ≡ true
  pub wrote_low : (q : ℕ) → h.wrote q ≡ true → q ≤ p
  pub seizings : (q : ℕ) → h.seizings q ≤ 1
  pub seizings_low : (q : ℕ) → p < q → h.seizings q ≡ 0
  pub joinings : (q : ℕ) → h.joinings q ≤ 1
  pub joinings_low : (q : ℕ) → p < q → h.joinings q ≡ 0

-- Of node n alone, whose value is v, and of the attempts. Each of these stays where attempts grow.
pub record NodeOk (A : ℕ → Attempt) (n : ℕ) (v : Initiator) : Type 0 where
  -- promise, session, installed epoch
  pub session : 0 < v.session → v.session ≡ v.promised
  pub installed : v.installed ≤ v.promised
  pub showed : 0 < v.session → v.installed < v.session → v.past.showed v.session ≡ v.installed
  -- a task is one of a member of the session's attempt
  pub busy : 0 < rank v.phase → 0 < v.session
  pub collected : 0 < rank v.phase → (A v.session).collected ≡ true
  pub member : 0 < rank v.phase → (A v.session).members n ≡ true
  -- a seizing was asked for, stands before the install, and has not ended
  pub asked : 0 < rank v.phase → rank v.phase ≤ 9 → (A v.session).asked n ≡ true
  pub kind : 0 < rank v.phase → rank v.phase ≤ 9 → (A v.session).quorum ≡ v.quorum
  pub before : 0 < rank v.phase → rank v.phase ≤ 9 → v.installed < v.session
  pub running : 0 < v.session → rank v.phase ≤ 8 → v.past.ended v.session ≡ false
  -- what its steps so far left
  pub untrusted : rank v.phase ≡ 2 → v.valid ≡ false
  pub plain : rank v.phase ≡ 2 → v.quorum ≡ false
  pub trusted : v.quorum ≡ true → 3 ≤ rank v.phase → rank v.phase ≤ 9 → v.valid ≡ true
  pub less : rank v.phase ≡ 4 → v.expected < v.session
  pub outside : rank v.phase ≡ 7 → (A v.session).members v.target ≡ false
  pub unwritten : 0 < v.session → rank v.phase ≤ 4 → v.past.wrote v.session ≡ false
  -- a joining, and what was joined
  pub distrusted : 11 ≤ rank v.phase → v.valid ≡ false
  pub joining : 11 ≤ rank v.phase → v.installed ≡ v.session
  pub joining_counted : 11 ≤ rank v.phase → (A v.session).counted ≡ true
  pub joining_held : 11 ≤ rank v.phase → (A v.session).holds ≡ true
  pub joined : v.joined ≡ true → rank v.phase ≡ 10
  pub joined_valid : v.joined ≡ true → v.valid ≡ true
  pub joined_installed : v.joined ≡ true → v.installed ≡ v.session
  pub joined_counted : v.joined ≡ true → (A v.session).counted ≡ true
  pub joined_held : v.joined ≡ true → (A v.session).holds ≡ true
  -- what its history says of the session
  pub seized_phase : 0 < v.session → v.past.seized v.session ≡ true → v.installed < v.session → rank v.phase ≡ 9
  pub unregistered_over : 0 < v.session → v.past.unregistered v.session ≡ true → 10 ≤ rank v.phase
  pub seizings_none : 0 < v.session → rank v.phase ≡ 0 → v.past.seizings v.session ≡ 0
  pub joinings_none : 0 < v.session → v.installed < v.session → v.past.joinings v.session ≡ 0

-- Of node n and the device. Each stays where other keys come and go, the word does not fall and the reservation stays.
pub record OnDevice (A : ℕ → Attempt) (d : Device) (top : ℕ) (n : ℕ) (v : Initiator) : Type 0 where
  -- from the swap on the word is no smaller than the session
  pub word : 5 ≤ rank v.phase → rank v.phase ≤ 9 → v.session ≤ d.word
  -- having tried to reserve, and still registered, it sees a reservation; from the last reading on there is one
  pub reserved_own : 6 ≤ rank v.phase → rank v.phase ≤ 7 → d.keys n ≡ true → d.reserved ≡ true
  pub reserved : 8 ≤ rank v.phase → rank v.phase ≤ 9 → d.reserved ≡ true
  -- who has a claim and is registered is a member of the greatest attempt for which the device was held ..
  pub valid_top : v.valid ≡ true → d.keys n ≡ true → 0 < top → (A top).members n ≡ true
  pub seized_top : rank v.phase ≡ 9 → d.keys n ≡ true → 0 < top → (A top).members n ≡ true
  -- .. and of each other, or has installed a greater one
  pub valid_held : (e : ℕ) → v.valid ≡ true → d.keys n ≡ true → (A e).held ≡ true → ((A e).members n ≡ true) ⊎ (e < v.installed)
  pub seized_held : (e : ℕ) → rank v.phase ≡ 9 → d.keys n ≡ true → (A e).held ≡ true → ((A e).members n ≡ true) ⊎ (e < v.session)
  -- so it was when it seized a quorum device
  pub quorum_held : (e : ℕ) → v.quorum ≡ true → 8 ≤ rank v.phase → rank v.phase ≤ 9 → (A e).held ≡ true → e < v.session → ((A e).members n ≡ true) ⊎ (e < v.installed)
  pub seized_showed : (q e : ℕ) → v.past.seized q ≡ true → (A q).quorum ≡ true → (A e).held ≡ true → e < q → ((A e).members n ≡ true) ⊎ (e < v.past.showed q)

-- Of node n, which read members' keys alone, and any node k: while the word is n's session, who is registered and has a claim is a member.
pub record Alone (A : ℕ → Attempt) (d : Device) (v : Initiator) (k : ℕ) (u : Initiator) : Type 0 where
  pub valid : rank v.phase ≡ 8 → d.word ≡ v.session → d.keys k ≡ true → u.valid ≡ true → (A v.session).members k ≡ true
  pub seized : rank v.phase ≡ 8 → d.word ≡ v.session → d.keys k ≡ true → rank u.phase ≡ 9 → (A v.session).members k ≡ true

-- Of attempt q, whose value is e, and the nodes. Each stays where nodes grow.
pub record AttemptOk (N : ℕ → Initiator) (q : ℕ) (e : Attempt) : Type 0 where
  pub positive : e.collected ≡ true → 0 < q
  pub promised : (m : ℕ) → e.collected ≡ true → e.members m ≡ true → q ≤ (N m).promised
  pub collected_asking : e.asking ≡ true → e.collected ≡ true
  pub collected_held : e.held ≡ true → e.collected ≡ true
  pub collected_counted : e.counted ≡ true → e.collected ≡ true
  pub asking : (m : ℕ) → e.asked m ≡ true → e.asking ≡ true
  pub asked_member : (m : ℕ) → e.asked m ≡ true → e.members m ≡ true
  pub asked_seizer : e.asking ≡ true → e.asked e.seizer ≡ true
  -- one node is asked at a time
  pub asked_last : (m : ℕ) → e.asked m ≡ true → (m ≡ e.seizer) ⊎ ((N m).past.unregistered q ≡ true)
  -- whoever was asked had answered before the votes were counted
  pub answered : (m : ℕ) → e.counted ≡ true → e.asked m ≡ true → (N m).past.ended q ≡ true
  pub holds_asking : e.counted ≡ true → e.holds ≡ true → e.asking ≡ true
  pub holds_held : e.counted ≡ true → e.holds ≡ true → e.held ≡ true
  pub holds_seized : e.counted ≡ true → e.holds ≡ true → (N e.seizer).past.seized q ≡ true

-- Of the device.
pub record DeviceOk (A : ℕ → Attempt) (d : Device) (top : ℕ) : Type 0 where
  pub held_top : (e : ℕ) → (A e).held ≡ true → e ≤ top
  pub top_held : 0 < top → (A top).held ≡ true
  pub top_word : top ≤ d.word
  pub word : 0 < d.word → (A d.word).collected ≡ true
  pub reserved : (e : ℕ) → (A e).held ≡ true → d.reserved ≡ true
  pub holder : d.reserved ≡ true → d.keys d.holder ≡ true

pub record Inv (s : Sharing) : Type 0 where
  pub past : (n : ℕ) → PastOk s.attempt n (s.node n).promised (s.node n).past
  pub node : (n : ℕ) → NodeOk s.attempt n (s.node n)
  pub on : (n : ℕ) → OnDevice s.attempt s.device s.top n (s.node n)
  pub alone : (n k : ℕ) → Alone s.attempt s.device (s.node n) k (s.node k)
  pub attempt : (q : ℕ) → AttemptOk s.node q (s.attempt q)
  pub device : DeviceOk s.attempt s.device s.top
